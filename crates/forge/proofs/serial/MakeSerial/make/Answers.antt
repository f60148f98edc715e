use Rattle.std.proofs.Common.{refl, subst, arith, List, [], ◌∷◌, ℕ}
use Rattle.std.proofs.lemmas.List.{length-map}
use Rattle.store_face.specs.State.{State}
use Rattle.forge.specs.Words.{Command, MakingSerial}
use Rattle.forge.specs.Ends.{Causes}
use Rattle.forge.specs.Stops.{ending_of, making_seen, serial_seen, files_of, AreRead, IsMade, IsMadeFrom, IsStoppedForm}
use Rattle.forge.proofs.Leaving.{err_of, err_more, ok_more}
use Rattle.forge.proofs.Reading.{both, serial_made, stopped_form}
use Rattle.forge.proofs.serial.MakeSerial.make.Goals as goal

pub returns-in_err-inputs-clause-stopped : goal.returns-in_err-inputs-clause-stopped
returns-in_err-inputs-clause-stopped g c =
    let old : State = g.S.Store.state c.args.store.now in
    let new : State = g.S.Store.state c.read_inputs.new.store in
    err_of (λ stop. Causes (serial_seen c.args.self.now) old new (ending_of stop)) c.from_residual.result c.in_err-inputs.field-0.0 c.from_residual.ensures.1
    (c.in_err-inputs.ensures.stopped (serial_seen c.args.self.now) (record { inputs_are = refl; most_is = refl }))

pub index-requires : goal.index-requires
index-requires g c =
    let read = c.in_ok-inputs.ensures.contents (serial_seen c.args.self.now) (record { inputs_are = refl; most_is = refl }) in
    omega (arith, simp length-map at read.count, c.in_ok-inputs.inputs.ok.0)

pub index-requires-2 : goal.index-requires-2
index-requires-2 g c =
    let read = c.in_ok-inputs.ensures.contents (serial_seen c.args.self.now) (record { inputs_are = refl; most_is = refl }) in
    omega (arith, simp length-map at read.count, c.in_ok-inputs.inputs.ok.0)

pub returns-clause-made : goal.returns-clause-made
returns-clause-made g c =
    let m : MakingSerial = making_seen c.args.self.now in
    let command : Command = serial_seen c.args.self.now in
    let old : State = g.S.Store.state c.args.store.now in
    let job : List ℕ = c.deref.result.now in
    let trees : List ℕ = c.deref-2.result.now in
    let read = c.in_ok-inputs.ensures.contents command (record { inputs_are = refl; most_is = refl }) in
    let is = both (λ v. v.items) c.in_ok-inputs.inputs.items c.index.result.now c.index-2.result.now job trees read.count c.index.ensures c.index-2.ensures
    c.deref.ensures.value c.deref-2.ensures.value in
    ok_more (IsMadeFrom m job trees) (λ made. IsMade command old (files_of m made) made.counts) c.make_from.result
    (λ made. serial_made m old job trees made (subst (AreRead command old) is read)) c.make_from.ensures.made

pub returns-clause-stopped : goal.returns-clause-stopped
returns-clause-stopped g c =
    let command : Command = serial_seen c.args.self.now in
    let old : State = g.S.Store.state c.args.store.now in
    let new : State = g.S.Store.state c.read_inputs.new.store in
    let job : List ℕ = c.deref.result.now in
    let trees : List ℕ = c.deref-2.result.now in
    let read = c.in_ok-inputs.ensures.contents command (record { inputs_are = refl; most_is = refl }) in
    let is = both (λ v. v.items) c.in_ok-inputs.inputs.items c.index.result.now c.index-2.result.now job trees read.count c.index.ensures c.index-2.ensures
    c.deref.ensures.value c.deref-2.ensures.value in
    err_more (λ stop. IsStoppedForm command (job ∷ trees ∷ []) (ending_of stop)) (λ stop. Causes command old new (ending_of stop)) c.make_from.result
    (λ stop. stopped_form command old new (job ∷ trees ∷ []) (ending_of stop) (subst (AreRead command old) is read) c.read_inputs.ensures.unchanged)
    c.make_from.ensures.stopped
