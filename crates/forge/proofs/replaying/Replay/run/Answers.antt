use Rattle.std.proofs.Common.{List, [], ◌∷◌, ℕ, refl, subst, ◌∙◌, arith}
use Rattle.std.proofs.lemmas.List.{length-map}
use Rattle.std.proofs.lemmas.Result.{err_from_is_err_and}
use Rattle.store_face.specs.State.{State}
use Rattle.forge.specs.Words.{Command, replay}
use Rattle.forge.specs.Ends.{ending_on}
use Rattle.forge.specs.Stops.{AreRead, ending_of, replaying_seen}
use Rattle.forge.proofs.Reading.{all_three, has_judged, judged_cause, stopped_form, verdict_told}
use Rattle.forge.proofs.replaying.Replay.run.Goals as goal

pub returns-in_err-inputs : goal.returns-in_err-inputs
returns-in_err-inputs g c =
    let p = err_from_is_err_and c.from_residual.result c.from_residual.ensures.1 in
    rw (p.1, p.2) (c.in_err-inputs.ensures.stopped (replay (replaying_seen c.args.self.now)) (record { inputs_are = refl; most_is = refl }))

pub index-requires : goal.index-requires
index-requires g c =
    let read = c.in_ok-inputs.ensures.contents (replay (replaying_seen c.args.self.now)) (record { inputs_are = refl; most_is = refl }) in
    omega (arith, simp length-map at read.count, c.in_ok-inputs.inputs.ok.0)

pub index-requires-2 : goal.index-requires-2
index-requires-2 g c =
    let read = c.in_ok-inputs.ensures.contents (replay (replaying_seen c.args.self.now)) (record { inputs_are = refl; most_is = refl }) in
    omega (arith, simp length-map at read.count, c.in_ok-inputs.inputs.ok.0)

pub index-requires-3 : goal.index-requires-3
index-requires-3 g c =
    let read = c.in_ok-inputs.ensures.contents (replay (replaying_seen c.args.self.now)) (record { inputs_are = refl; most_is = refl }) in
    omega (arith, simp length-map at read.count, c.in_ok-inputs.inputs.ok.0)

pub returns-in_err-verdict : goal.returns-in_err-verdict
returns-in_err-verdict g c =
    let command : Command = replay (replaying_seen c.args.self.now) in
    let old : State = g.S.Store.state c.args.store.now in
    let new : State = g.S.Store.state c.read_inputs.new.store in
    let elf : List ℕ = c.deref.result.now in
    let order : List ℕ = c.deref-2.result.now in
    let trace : List ℕ = c.deref-3.result.now in
    let read = c.in_ok-inputs.ensures.contents command (record { inputs_are = refl; most_is = refl }) in
    let is = all_three (λ v. v.items) c.in_ok-inputs.inputs.items c.index.result.now c.index-2.result.now c.index-3.result.now elf order trace read.count
    c.index.ensures c.index-2.ensures c.index-3.ensures c.deref.ensures.value c.deref-2.ensures.value c.deref-3.ensures.value in
    let p = err_from_is_err_and c.from_residual-in_err-verdict.result c.from_residual-in_err-verdict.ensures.1 in
    rw (p.1, p.2) (stopped_form command old new (elf ∷ order ∷ trace ∷ []) (ending_of c.in_err-verdict.field-0.0) (subst (AreRead command old) is read)
    c.read_inputs.ensures.unchanged c.in_err-verdict.ensures.stopped)

pub returns : goal.returns
returns g c =
    let command : Command = replay (replaying_seen c.args.self.now) in
    let old : State = g.S.Store.state c.args.store.now in
    let new : State = g.S.Store.state c.read_inputs.new.store in
    let elf : List ℕ = c.deref.result.now in
    let order : List ℕ = c.deref-2.result.now in
    let trace : List ℕ = c.deref-3.result.now in
    let read = c.in_ok-inputs.ensures.contents command (record { inputs_are = refl; most_is = refl }) in
    let is = all_three (λ v. v.items) c.in_ok-inputs.inputs.items c.index.result.now c.index-2.result.now c.index-3.result.now elf order trace read.count
    c.index.ensures c.index-2.ensures c.index-3.ensures c.deref.ensures.value c.deref-2.ensures.value c.deref-3.ensures.value in (
      ending_on c.in_ok-verdict.verdict,
      judged_cause (replaying_seen c.args.self.now) old new c.in_ok-verdict.verdict
          (has_judged (replaying_seen c.args.self.now) old new elf order trace (ending_on c.in_ok-verdict.verdict) (subst (AreRead command old) is read)
          c.read_inputs.ensures.unchanged c.in_ok-verdict.ensures.judged),
      (c.status_of-status.ensures, c.in_ok-write_line.ensures.text ∙ verdict_told c.in_ok-verdict.verdict),
    )
