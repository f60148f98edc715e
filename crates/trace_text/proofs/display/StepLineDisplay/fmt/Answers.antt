use Rattle.std.proofs.Common.{◌≡◌, ℕ, List, rules, None, Some, Option, refl, append_assoc}
use Rattle.std.specs.Option.{option_map_or}
use Rattle.std.proofs.lemmas.Grind.{put_three}
use Rattle.trace_fields.specs.declared.display.Written.{Written}
use Rattle.trace_fields.specs.Text.{or_none, none_text, write_text, access_text, trap_text}
use Rattle.trace_text.proofs.display.StepLineDisplay.fmt.Goals as goal

-- what `OrNone` shows of a thing that may be there
or_none_shown : {A : Type 0} (text : A → List ℕ) (thing : Option A)
    → option_map_or (λ a. Some (text a)) thing (Some none_text) ≡ Some (or_none text thing)
or_none_shown text None = refl
or_none_shown text (Some a) = refl

pub returns-clause-writes : goal.returns-clause-writes
returns-clause-writes g c = λ plain ok.
    let rd : option_map_or (λ (w : Written). Some (write_text w.0)) c.map.result (Some none_text) ≡ Some (or_none write_text c.args.self.now.rd) = search rules in
    let access = or_none_shown access_text c.args.self.now.access in
    let trap = or_none_shown trap_text c.args.self.now.trap in
    let first = (rw (c.in_radix.ensures, c.in_radix-2.ensures) at c.in_ok-write.ensures.writes) plain refl in
    let second = (rw (rd, access) at c.in_ok-write-2.ensures.writes) first.plain refl in
    let third = (rw trap at c.write-3.ensures.writes) second.plain ok in
    put_three _ _ _ _ _ _ _ _ _ first second third (simp append_assoc)
