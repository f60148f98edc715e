-- A log's events are placed, what its hart brings is added, and fewer logs are left.
use Rattle.std.proofs.Common.{◌≡◌, ◌++◌, ◌∷◌, [], List, Option, length, map, ap, sym, subst, ◌∙◌, append_assoc}
use Rattle.std.specs.List.{AllByRecursion}
use Rattle.std.proofs.lemmas.List.{map-append}
use Rattle.world_face.specs.declared.event.Event as events
use Rattle.world_face.specs.Views.{all_placed}
use Rattle.hart_task.specs.Log.{LogSeen}
use Rattle.hart_task.specs.declared.log.HartLog.{HartLog}
use Rattle.run_merge.specs.declared.run.HartProgram.{HartProgram}
use Rattle.run_merge.specs.Run.{image_of, images_of, log_image}
use Rattle.run_merge.specs.Slots.{FitIn, all_slotted, logs_seen, slots_seen, slotted}
use Rattle.run_merge.proofs.merging.programs_of.Goals as goal

abbrev AllFit : List (Option events.Event) → List HartLog → Type 0
AllFit slots logs = AllByRecursion (λ (log : LogSeen). FitIn (length slots) log.events) (logs_seen logs)

fit_less : (all left : List HartLog) (log : HartLog) (old new : List (Option events.Event)) → all ≡ log ∷ left → length new ≡ length old
    → AllFit old all → AllFit new left
fit_less all left log old new steps long fit =
    let here : AllFit old (log ∷ left) = subst (AllFit old) steps fit in
    subst (λ n. AllByRecursion (λ (l : LogSeen). FitIn n l.events) (logs_seen left)) (sym long) here.1

slotted_more : (all left : List HartLog) (log : HartLog) (old new : List (Option events.Event)) → all ≡ log ∷ left
    → slots_seen new ≡ slotted (all_placed log.events.items) (slots_seen old)
    → all_slotted (logs_seen left) (slots_seen new) ≡ all_slotted (logs_seen all) (slots_seen old)
slotted_more all left log old new steps is =
    ap (all_slotted (logs_seen left)) is ∙ ap (λ ls. all_slotted (logs_seen ls) (slots_seen old)) (sym steps)

images_more : (all left : List HartLog) (log : HartLog) (old new : List HartProgram) → all ≡ log ∷ left
    → new ≡ old ++ record { words = log.words; values = log.values } ∷ []
    → images_of new ++ map log_image (logs_seen left) ≡ images_of old ++ map log_image (logs_seen all)
images_more all left log old new steps is =
    let mine : HartProgram = record { words = log.words; values = log.values } in
    ap (λ hs. images_of hs ++ map log_image (logs_seen left)) is
    ∙ ap (λ is. is ++ map log_image (logs_seen left)) (map-append image_of old (mine ∷ []))
    ∙ append_assoc (images_of old) (image_of mine ∷ []) (map log_image (logs_seen left))
    ∙ ap (λ ls. images_of old ++ map log_image (logs_seen ls)) (sym steps)

pub loop-events-preserved : goal.loop-events-preserved
loop-events-preserved c =
    let steps = c.in-Some.ensures.steps.0 in
    let was = c.loop-events.invariant in
    record {
      fit = fit_less _ _ _ c.loop-events.slots c.place_events.new.slots steps c.place_events.auto.slots was.fit;
      slots = slotted_more _ _ _ c.loop-events.slots c.place_events.new.slots steps c.place_events.ensures ∙ was.slots;
      images = images_more _ _ c.in-Some.field-0 c.loop-events.harts.items c.push.new.self.items steps c.in_ok-push.ensures.items ∙ was.images;
    }
