-- A log's empty slots stand behind those of the logs before it.
use Rattle.std.proofs.Common.{ℕ, ◌+◌, ◌<◌, ◌≡◌, ◌++◌, List, Option, None, drop, get_or, length, map, replicate, ap, sym, ◌∙◌, arith, append_assoc}
use Rattle.std.proofs.lemmas.List.{at_drop_more, length-map, replicate-append-replicate}
use Rattle.world_face.specs.Events.{Event}
use Rattle.world_face.specs.Views.{placed_seen}
use Rattle.hart_task.specs.declared.log.HartLog.{HartLog}
use Rattle.run_merge.specs.Slots.{event_count, logs_seen}
use Rattle.run_merge.proofs.merging.empty_slots.Goals as goal

abbrev empty : ℕ → List (Option Event)
empty n = replicate n None

abbrev empty_for : List HartLog → List (Option Event)
empty_for logs = empty (event_count (logs_seen logs))

-- those for logs from one on are its own and those of the others
empty_more : (old new whole : List (Option Event)) (logs : List HartLog) (i : ℕ) (log : HartLog) (many : ℕ) → i < length logs → log ≡ get_or logs i log
    → many ≡ length log.events.items → new ≡ old ++ empty many → old ++ empty_for (drop i logs) ≡ whole → new ++ empty_for (drop (i + 1) logs) ≡ whole
empty_more old new whole logs i log many h at long is e =
    let count : List HartLog → ℕ = λ ls. event_count (logs_seen ls) in
    let left : ℕ = count (drop (i + 1) logs) in
    let step : count (drop i logs) ≡ length (map placed_seen log.events.items) + left =
    at_drop_more count logs i log h ∙ ap (λ (l : HartLog). length (map placed_seen l.events.items) + left) (sym at) in
    let same : many + left ≡ count (drop i logs) = omega (arith, long, step, length-map log.events.items placed_seen) in
    ap (λ os. os ++ empty left) is
    ∙ append_assoc old (empty many) (empty left)
    ∙ ap (λ os. old ++ os) (replicate-append-replicate many left None ∙ ap empty same)
    ∙ e

pub loop-log-preserved : goal.loop-log-preserved
loop-log-preserved c = empty_more _ _ _ c.args.logs.now c.loop-log.log-index c.log-item.result c.len.result c.loop-log-test.true c.log-item.is
    (c.len.ensures ∙ c.log-item.result.events.ok.0) c.in_ok-add_empty_slots.ensures c.loop-log.invariant
