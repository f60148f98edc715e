-- The boot blocks of the harts follow the dispatcher, one for each.
use Rattle.std.proofs.Common.{ℕ, ◌≡◌, ◌+◌, ◌-◌, ◌++◌, Option, length, suc, ap, sym, ◌∙◌, arith}
use Rattle.region_plan.specs.Plan.{Work}
use Rattle.region_plan.specs.Views.{IsPlannedBy}
use Rattle.ram_image.specs.Pieces.{laid}
use Rattle.boot_words.specs.Layout.{dispatcher_at}
use Rattle.run_merge.specs.Image.{boot_pieces, boot_pieces_from, initial_in}
use Rattle.run_merge.specs.Run.{images_of}
use Rattle.run_merge.proofs.Booting.{boot_next}
use Rattle.run_merge.proofs.Brought.{initial_at}
use Rattle.run_merge.proofs.Planned.{idle_planned, idle_work}
use Rattle.run_merge.proofs.segments.startup_segment.Goals as goal

pub loop-hart-preserved : goal.loop-hart-preserved
loop-hart-preserved c =
    let harts = c.args.harts.now in
    let initial : ℕ → ℕ → Option ℕ = initial_in (images_of harts) in
    let h : ℕ = c.loop-hart.hart in
    let left : ℕ = length harts - (h + 1) in
    let old = c.loop-hart.bytes.items in
    let laid_here : (work : Work) → IsPlannedBy c.args.plan.now.harts.items work → c.lay_boot_block.new.bytes.items ≡ old ++ laid (dispatcher_at + length old) (boot_pieces work initial h) =
    λ work by. c.in_ok-lay_boot_block.ensures work by
    ∙ ap (λ (q : ℕ → Option ℕ). old ++ laid (dispatcher_at + length old) (boot_pieces work (λ k. q) h))
    (sym (initial_at harts h _ c.loop-hart-test.true c.index-harts-hart.is)) in
    let more : length harts - h ≡ suc left = omega arith in
    let idle = idle_work c.args.plan.now.harts.items in
    record {
      place = (boot_next idle initial h left old _ c.loop-hart.invariant.place (laid_here idle (idle_planned c.args.plan.now.harts.items))).place;
      whole = λ work by. (boot_next work initial h left old _ c.loop-hart.invariant.place (laid_here work by)).bytes
          ∙ ap (λ n. old ++ laid (dispatcher_at + length old) (boot_pieces_from work initial h n)) (sym more)
          ∙ c.loop-hart.invariant.whole work by;
    }
