-- The segments are those of a program, which is sound and holds the image.
use Rattle.std.proofs.Common.{◌≡◌, true, List, ◌∷◌, length, subst, sym, ap, ◌∙◌, arith, rules}
use Rattle.std.specs.Prelude.{IsTrue}
use Rattle.std.proofs.lemmas.List.{length-map}
use Rattle.region_plan.specs.Plan.{Work, hart_count}
use Rattle.region_plan.specs.Views.{IsPlannedBy}
use Rattle.boot_words.specs.Layout.{dispatcher_at, m_handler_at}
use Rattle.ram_image.specs.Pieces.{laid}
use Rattle.ram_image.specs.Segments.{Stretch, are_sound, memory_of, stretch_of, stretches}
use Rattle.run_merge.specs.declared.run.HartProgram.{HartProgram}
use Rattle.run_merge.specs.Image.{code_stretches, handler_pieces, initial_in, program, startup_pieces}
use Rattle.run_merge.specs.Run.{image_of, images_of, run_lines}
use Rattle.run_merge.proofs.Brought.{all_pushed, count_pushed, have_room}
use Rattle.run_merge.proofs.Imaged.{program_is_image, startup_size}
use Rattle.run_merge.proofs.Planned.{idle_planned, idle_work}
use Rattle.run_merge.proofs.Sound.{program_sound}
use Rattle.run_merge.proofs.run.Run.segments.Goals as goal

abbrev handlers : Stretch
handlers = record { at = m_handler_at; bytes = laid m_handler_at handler_pieces; size = 0x2000; flags = 5 }

abbrev startup : Work → List HartProgram → Stretch
startup work harts = record { at = dispatcher_at; bytes = laid dispatcher_at (startup_pieces work (initial_in (images_of harts))); size = startup_size work; flags = 5 }

pushed : (c : goal.After-loop-hart) → stretches c.loop-hart.segments.items
    ≡ stretch_of c.in_ok-startup_segment.field-0 ∷ handlers ∷ code_stretches 0 (images_of c.args.self.now.harts.items)
pushed c =
    all_pushed _ _ _ _ _ _ handlers c.as_slice-harts.result.now c.loop-hart.hart c.loop-hart-test.false
    c.in_ok-segments.ensures.items c.in_ok-push.ensures.items c.in_ok-push-2.ensures.items c.in_ok-handler_segment.ensures c.loop-hart.invariant
    ∙ ap (λ (hs : List HartProgram). stretch_of c.in_ok-startup_segment.field-0 ∷ handlers ∷ code_stretches 0 (images_of hs)) c.as_slice-harts.ensures.value

seen : (c : goal.After-loop-hart) (work : Work) → IsPlannedBy c.args.self.now.plan.harts.items work
    → stretches c.loop-hart.segments.items ≡ program work (images_of c.args.self.now.harts.items)
seen c work by =
    let harts : c.as_slice-harts.result.now ≡ c.args.self.now.harts.items = c.as_slice-harts.ensures.value in
    let first = c.in_ok-startup_segment.ensures work by in
    pushed c
    ∙ ap (λ (s : Stretch). s ∷ handlers ∷ code_stretches 0 (images_of c.args.self.now.harts.items)) first
    ∙ ap (λ (hs : List HartProgram). startup work hs ∷ handlers ∷ code_stretches 0 (images_of c.args.self.now.harts.items)) harts

pub returns-clause-program : goal.returns-clause-program
returns-clause-program c = seen c

pub returns-clause-count : goal.returns-clause-count
returns-clause-count c = omega (arith, count_pushed c.loop-hart.segments.items _ _ c.args.self.now.harts.items (pushed c), c.args.self.now.most)

pub returns-clause-sound : goal.returns-clause-sound
returns-clause-sound c =
    let harts = c.args.self.now.harts.items in
    let by = idle_planned c.args.self.now.plan.harts.items in
    let work : Work = idle_work c.args.self.now.plan.harts.items in
    let images : length (images_of harts) ≡ length harts = length-map harts image_of in
    let count : length (images_of harts) ≡ hart_count work = images ∙ sym (by.count ∙ c.args.self.now.planned) in
    let sound : are_sound (stretches c.loop-hart.segments.items) ≡ true =
    ap are_sound (seen c work by)
    ∙ program_sound work (images_of harts) (omega (arith, images, c.args.self.now.most)) count (have_room harts c.args.self.now.room) in
    subst IsTrue (sym sound) (search rules)

pub returns-clause-image : goal.returns-clause-image
returns-clause-image c = λ work by are a.
    let harts = c.args.self.now.harts.items in
    let many : hart_count work ≡ length harts = by.count ∙ c.args.self.now.planned in
    ap (λ ss. memory_of ss a) (seen c work by) ∙ program_is_image work (run_lines c.args.self.now) (images_of harts) are (omega (arith, many, c.args.self.now.most)) a
