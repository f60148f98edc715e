-- What is fixed register by register is what the word fixes.
use Rattle.std.proofs.Common.{◌≡◌, ◌++◌, ◌∙◌, List, Option, Some, ap, append_assoc, arith, lit≤, option_map, refl, subst, sym}
use Rattle.std.specs.List.{AllByRecursion}
use Rattle.rv_fields.specs.declared.row_table.Ins.{Ins}
use Rattle.rv_fields.specs.declared.row_table.Ops.{Ops}
use Rattle.rv_fields.specs.Decode.{Decoded, decoded, rs1_of_form, rs1_read}
use Rattle.trace_fields.proofs.Joins.{all_append}
use Rattle.trace_text.specs.Lines.{Line}
use Rattle.trace_text.specs.Traces.{KeepsRanges}
use Rattle.world_face.specs.Events.{Event}
use Rattle.world_face.specs.Views.{event_seen}
use Rattle.hart_task.specs.Acts.{fixing_lines}
use Rattle.hart_task.specs.Task.{TaskSeen, fixed_task, late_of, late_one, task_seen}
use Rattle.hart_task.proofs.Fixing.{at_most_one, less_room, lines_fixed, task_fixed}
use Rattle.hart_task.proofs.task.HartTask.fix_sources.Goals as goal

-- the word by its row
found_row : (m : Option (Ins × Ops)) (word : Option Decoded) (ins : Ins) (ops : Ops) → option_map (λ p. record { ins = p.0; ops = p.1 }) m ≡ word → m ≡ Some (ins, ops)
    → word ≡ Some (record { ins = ins; ops = ops })
found_row m word ins ops is some = sym is ∙ ap (option_map (λ p. record { ins = p.0; ops = p.1 })) some

pub fix_source-requires-2-clause-room : goal.fix_source-requires-2-clause-room
fix_source-requires-2-clause-room c = less_room c.fix_source.new.event 3 1 (lit≤ tt) (c.fix_source.ensures.room 3 c.requires.room)

pub fix_source-requires-2-clause-few : goal.fix_source-requires-2-clause-few
fix_source-requires-2-clause-few c =
    let drawn = ap (λ (t : TaskSeen). t.draws.drawn) c.fix_source.ensures.task in
    omega (arith, drawn, c.requires.few, at_most_one (task_seen c.args.self.now).log.present c.args.self.now.draws c.rs1_of.result)

pub returns-clause-task : goal.returns-clause-task
returns-clause-task c =
    let t : TaskSeen = task_seen c.args.self.now in
    let d : Decoded = record { ins = c.in-Some.ins; ops = c.in-Some.ops } in
    let row : decoded c.args.word ≡ Some d = found_row c.decode.result (decoded c.args.word) d.ins d.ops c.decode.ensures.value c.in-Some.is in
    let rs1 : c.rs1_of.result ≡ rs1_read d = c.rs1_of.ensures ∙ ap (λ form. rs1_of_form form d.ops) c.row.ensures.form in
    task_fixed t (task_seen c.fix_source.new.self) (task_seen c.fix_source-2.new.self) c.rs1_of.result d.ops.rs2 d rs1 refl c.fix_source.ensures.task c.fix_source-2.ensures.task
    ∙ ap (λ m. fixed_task t (late_of t m)) (sym row)

pub returns-clause-event : goal.returns-clause-event
returns-clause-event c =
    let t : TaskSeen = task_seen c.args.self.now in
    let first : TaskSeen = task_seen c.fix_source.new.self in
    let d : Decoded = record { ins = c.in-Some.ins; ops = c.in-Some.ops } in
    let row : decoded c.args.word ≡ Some d = found_row c.decode.result (decoded c.args.word) d.ins d.ops c.decode.ensures.value c.in-Some.is in
    let rs1 : c.rs1_of.result ≡ rs1_read d = c.rs1_of.ensures ∙ ap (λ form. rs1_of_form form d.ops) c.row.ensures.form in
    let old : List Line = (event_seen c.args.event.now).lines in
    c.fix_source-2.ensures.event
    ∙ ap (λ (e : Event). record e { lines = e.lines ++ fixing_lines first.hart.number (late_one first d.ops.rs2) }) c.fix_source.ensures.event
    ∙ ap (λ ls. record (event_seen c.args.event.now) { lines = ls })
    (append_assoc old _ _ ∙ ap (λ ls. old ++ ls) (lines_fixed t first c.rs1_of.result d.ops.rs2 d rs1 refl c.fix_source.ensures.task ∙ ap (λ m. fixing_lines t.hart.number (late_of t m)) (sym row)))

pub returns-clause-ranges : goal.returns-clause-ranges
returns-clause-ranges c =
    let t : TaskSeen = task_seen c.args.self.now in
    let d : Decoded = record { ins = c.in-Some.ins; ops = c.in-Some.ops } in
    let row : decoded c.args.word ≡ Some d = found_row c.decode.result (decoded c.args.word) d.ins d.ops c.decode.ensures.value c.in-Some.is in
    let rs1 : c.rs1_of.result ≡ rs1_read d = c.rs1_of.ensures ∙ ap (λ form. rs1_of_form form d.ops) c.row.ensures.form in
    subst (AllByRecursion KeepsRanges)
    (lines_fixed t (task_seen c.fix_source.new.self) c.rs1_of.result d.ops.rs2 d rs1 refl c.fix_source.ensures.task ∙ ap (λ m. fixing_lines t.hart.number (late_of t m)) (sym row))
    (all_append KeepsRanges (fixing_lines t.hart.number (late_one t c.rs1_of.result)) _ c.fix_source.ensures.ranges c.fix_source-2.ensures.ranges)

pub returns-clause-room : goal.returns-clause-room
returns-clause-room c = c.fix_source-2.ensures.room 2 (c.fix_source.ensures.room 3 c.requires.room)
