-- The bus tells the word at pc, so a step is what the word does; and a plain one is what its line tells.
use Rattle.std.proofs.Common.{◌≡◌, Some, ap, rules, sym, ◌∙◌}
use Rattle.rv_step.specs.Views.{hart_seen, stepped_seen}
use Rattle.hart_task.specs.Plain.{plain_effect}
use Rattle.hart_task.proofs.Plainly.{plain_is, plain_room, plain_told}
use Rattle.hart_task.proofs.stepping.step_word.Goals as goal

pub step-stepped-requires-clause-told : goal.step-stepped-requires-clause-told
step-stepped-requires-clause-told c = plain_told (hart_seen c.args.hart.now) c.args.word c.requires.plain

pub step-stepped-requires-clause-room : goal.step-stepped-requires-clause-room
step-stepped-requires-clause-room c = plain_room _ (hart_seen c.args.hart.now) c.args.word c.requires.plain

pub returns-clause-step : goal.returns-clause-step
returns-clause-step c =
    let step = c.step-stepped in
    let trap : c.map.result ≡ step.result.trap = search rules in
    let plain = plain_is (hart_seen c.args.hart.now) c.args.word (stepped_seen step.new.hart step.result) c.requires.plain step.ensures.step in
    step.ensures.step ∙ ap (λ e. Some (record { effect = e; hart = hart_seen step.new.hart })) plain
    ∙ (λ i. Some (record {
      effect = record (plain_effect (hart_seen c.args.hart.now) c.args.word step.result.rd step.result.trap) { hart = sym step.ensures.number i; trail = sym c.new.ensures i; trap = sym trap i };
      hart = hart_seen step.new.hart;
    }))
