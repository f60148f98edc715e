use Rattle.std.proofs.Common.{ℕ, ◌≡◌, ◌<◌, ◌^◌, ◌+◌, [], get_or, rules, length, sym, ap, subst, ◌∙◌}
use Rattle.std.proofs.lemmas.Result.{err_from_is_err_and}
use Rattle.rv_fields.specs.Play.{Plays}
use Rattle.rv_machine.specs.Views.{machine_seen}
use Rattle.trace_text.specs.Reading.{unread}
use Rattle.trace_text.specs.Text.{trace_text}
use Rattle.trace_text.specs.Traces.{IsTrace}
use Rattle.trace_text.proofs.Unread.{reads_all}
use Rattle.ram_image.specs.Ram.{memory}
use Rattle.boot_words.specs.Passing.{behind_boots}
use Rattle.trace_replay.specs.Comparing.{steps_at, steps_differ}
use Rattle.trace_replay.specs.Passes.{machine_at}
use Rattle.trace_replay.specs.Verdicts.{IsTraceFault}
use Rattle.trace_replay.proofs.Agreement.{agrees_where_passes, from_every, loaded_bytes, machine_is, passes_where_agrees, trace_faulty}
use Rattle.trace_replay.proofs.replaying.replay.Goals as goal

pub returns-in_err-ram-clause-fault : goal.returns-in_err-ram-clause-fault
returns-in_err-ram-clause-fault c =
    let p = err_from_is_err_and c.from_residual.result c.from_residual.ensures.1 in
    rw (p.1, p.2) (c.in_err-ram.ensures.fault c.args.order.now c.args.trace.now)

pub returns-in_err-harts-clause-fault : goal.returns-in_err-harts-clause-fault
returns-in_err-harts-clause-fault c =
    let p = err_from_is_err_and c.from_residual-in_err-harts.result c.from_residual-in_err-harts.ensures.1 in
    rw (p.1, p.2) (c.in_err-harts.ensures.fault c.args.elf.now c.args.trace.now c.in_ok-ram.ensures.sound)

pub returns-in_err-play-clause-fault : goal.returns-in_err-play-clause-fault
returns-in_err-play-clause-fault c =
    let p = err_from_is_err_and c.from_residual-in_err-play.result c.from_residual-in_err-play.ensures.1 in
    let start = unread c.in_ok-lines.lines in
    rw (p.1, p.2) (trace_faulty c.args.elf.now c.args.order.now c.args.trace.now c.in_err-play.field-0.0 c.in_ok-ram.ensures.sound c.in_ok-harts.ensures.sound
    (subst (λ place. IsTraceFault place c.in_err-play.field-0.0) c.in_ok-lines.ensures.fault (c.in_err-play.ensures.fault start c.new-judge.ensures)))

pub returns-clause-verdict : goal.returns-clause-verdict
returns-clause-verdict c =
    let elf = c.args.elf.now in
    let reset = c.args.reset.now in
    let harts = c.in_ok-harts.harts in
    let start = unread c.in_ok-lines.lines in
    let begins = c.in_ok-lines.ensures in
    let read = c.in_ok-harts.ensures.read in
    let played = c.in_ok-play.ensures.played start c.new-judge.ensures in
    let finished = played.finished in
    let trace = reads_all begins finished.has_read finished.ended in
    let told : c.harts-told_harts.result ≡ start.harts = c.harts-told_harts.ensures in
    let same : machine_seen c.in_ok-machine.machine ≡ machine_at harts reset elf =
    machine_is reset harts elf (memory c.in_ok-ram.ram) c.in_ok-machine.machine c.in_ok-machine.ensures.memory c.in_ok-ram.ensures.loaded
    c.in_ok-machine.ensures.harts c.in_ok-machine.ensures.count in
    record {
      harts = harts;
      order = c.in_ok-harts.order.items;
      told_harts = c.harts-told_harts.result;
      lines = finished.read;
      files = record {
        loads = λ a. (memory c.in_ok-ram.ram a, c.in_ok-ram.ensures.loaded a);
        order_is = read.1;
        order_ranges = read.0;
        trace_is = subst (λ n. c.args.trace.now ≡ trace_text n finished.read) (finished.has_read.harts ∙ sym told) trace.1;
        trace_ranges = subst (λ n. IsTrace n finished.read) (finished.has_read.harts ∙ sym told) trace.0;
      };
      effects = played.effects;
      end = played.end;
      plays = subst (λ m. Plays m c.in_ok-harts.order.items played.effects played.end) same
          (subst (λ o. Plays (machine_seen c.in_ok-machine.machine) o played.effects played.end) c.deref.ensures.value played.plays);
      is = c.in_ok-verdict.ensures finished.read played.effects played.boots finished.steps_are
          (finished.first_is ∙ ap (λ n. steps_differ (n + length finished.read) (steps_at n finished.read) (behind_boots [] played.effects)) begins.number);
    }

pub returns-clause-agrees : goal.returns-clause-agrees
returns-clause-agrees c =
    let verdict = returns-clause-verdict c in
    let elf_small : (k : ℕ) → get_or c.args.elf.now k 0 < 2 ^ 8 = λ k. search rules in (
      passes_where_agrees c.args.reset.now c.machine_of.ensures.small c.args.elf.now c.args.order.now c.args.trace.now _ verdict (loaded_bytes c.args.elf.now elf_small),
      agrees_where_passes c.args.reset.now c.machine_of.ensures.small c.args.elf.now c.args.order.now c.args.trace.now _ verdict (loaded_bytes c.args.elf.now elf_small),
    )

pub returns-clause-passing : goal.returns-clause-passing
returns-clause-passing c = λ passes.
    (returns-clause-agrees c).1 (from_every c.args.reset.now c.machine_of.ensures.small c.args.elf.now c.args.order.now c.args.trace.now passes)
