use Rattle.std.proofs.Common.{List, [], ℕ, ◌≡◌, ◌++◌, ◌∷◌, ◌<◌, length, map, ap, ◌∙◌, arith, Bor}
use Rattle.std.specs.Prelude.{option_map}
use Rattle.std.proofs.lemmas.Grind.{common_steps}
use Rattle.store_face.specs.State.{State}
use Rattle.forge.specs.Ends.{Causes}
use Rattle.forge.specs.Stops.{ending_of}
use Rattle.forge.proofs.Leaving.{err_of}
use Rattle.forge.proofs.Reading.{begun_content, begun_too_long, stopped_name}
use Rattle.forge.proofs.files.read_inputs.Goals as goal
use Rattle.forge.proofs.files.read_inputs.Goals.{in-Some+in_ok-push-in-Some, in-None}

no_name : Bor (List ℕ)
no_name = record { ref_ptr = (0, 0); now = [] }

pub returns-in_err-content-clause-stopped : goal.returns-in_err-content-clause-stopped
unfolding no_name
returns-in_err-content-clause-stopped g c = λ command are.
    let old : State = g.S.Store.state c.args.store.now in
    let mid : State = g.S.Store.state c.loop-name.store in
    let new : State = g.S.Store.state c.read_input.new.store in
    let stop = c.in_err-content.field-0.0 in
    let within : c.loop-name.name-index < length c.args.names.now = omega arith in
    err_of (λ s. Causes command old new (ending_of s)) c.from_residual.result stop c.from_residual.ensures.1
    (stopped_name command c.args.names.now c.args.most c.loop-name.name-index no_name old mid new (map (λ v. v.items) c.loop-name.contents.items)
    (option_map (λ name. name.now) c.loop-name.too_long) (ending_of stop) are within c.loop-name.invariant c.read_input.ensures.unchanged
    c.in_err-content.ensures.stopped)

pub loop-name-preserved : goal.loop-name-preserved
unfolding no_name
loop-name-preserved g c =
    let old : State = g.S.Store.state c.args.store.now in
    let mid : State = g.S.Store.state c.loop-name.store in
    let new : State = g.S.Store.state c.read_input.new.store in
    let within : c.loop-name.name-index < length c.args.names.now = omega arith in
    elim c.match-branch-2.branch [
      | in-Some+in_ok-push-in-Some w ↦
          let pushed : c.match-branch-2.contents.items ≡ c.loop-name.contents.items ++ w.in-Some.content ∷ [] = grind (arith, common_steps) in
          begun_content (λ v. v.items) c.args.most c.args.names.now c.loop-name.name-index no_name old mid new c.loop-name.contents.items c.match-branch-2.contents.items
          c.loop-name.too_long c.match-branch-2.too_long c.in_ok-content.field-0 w.in-Some.content within c.loop-name.invariant c.in_ok-content.ensures.unchanged
          c.in_ok-content.ensures.counts_up c.in_ok-content.ensures.content w.in-Some.is pushed w.too_long-is
      | in-None w ↦
          begun_too_long (λ v. v.items) c.args.most c.args.names.now c.loop-name.name-index no_name old mid new c.loop-name.contents.items c.match-branch-2.contents.items
          c.loop-name.too_long c.match-branch-2.too_long c.in_ok-content.field-0 within c.loop-name.invariant c.in_ok-content.ensures.unchanged
          c.in_ok-content.ensures.counts_up c.in_ok-content.ensures.content w.in-None.is (ap (λ v. v.items) w.contents-is)
          (w.too_long-is ∙ w.or-too_long.ensures)
    ]
