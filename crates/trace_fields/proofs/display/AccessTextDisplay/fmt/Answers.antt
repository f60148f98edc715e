use Rattle.std.proofs.Common.{◌≡◌, rules, Some, refl, append_assoc}
use Rattle.std.specs.Option.{option_map_or}
use Rattle.std.proofs.lemmas.Grind.{put_two}
use Rattle.trace_fields.specs.declared.display.Hex.{Hex}
use Rattle.trace_fields.specs.Text.{hex, or_none, none_text}
use Rattle.trace_fields.proofs.display.AccessTextDisplay.fmt.Goals as goal

pub returns-clause-writes : goal.returns-clause-writes
returns-clause-writes g c = λ plain ok.
    let access = c.self.inside in
    let read : option_map_or (λ (number : Hex). Some (hex number.0)) c.map.result (Some none_text) ≡ Some (or_none hex access.read) = search rules in
    let wrote : option_map_or (λ (number : Hex). Some (hex number.0)) c.map-2.result (Some none_text) ≡ Some (or_none hex access.wrote) = search rules in
    let first = (rw (c.in_radix.ensures, c.in_radix-2.ensures) at c.in_ok-write.ensures.writes) plain refl in
    let second = (rw (read, wrote) at c.write-2.ensures.writes) first.plain ok in
    rw (← c.self.view_is) (put_two _ _ _ _ _ _ _ first second (rw c.self.invariant (simp append_assoc)))
