-- Worked comparisons, computed on the definitions.
use Rattle.std.proofs.Common.{ℕ, ◌≡◌, List, [], ◌∷◌, Option, Some, None, refl, replicate}
use Rattle.std.specs.Prelude.{codes}
use Rattle.std.specs.Fmt.{digits}
use Rattle.rv_fields.specs.Effect.{Effect}
use Rattle.trace_text.specs.Lines.{Line, done, ending, made, request}
use Rattle.trace_fields.specs.declared.request.Kind.TheVariants.{Ins}
use Rattle.trace_replay.specs.Comparing.{first_difference, steps_at, steps_differ}
use Rattle.trace_replay.specs.declared.verdict.LineField.TheVariants.{Boot, Hart, Harts, Rd}

abbrev plain : ℕ → ℕ → Option (ℕ × ℕ) → Effect
plain pc word rd = record { hart = 0; pc = pc; pa = Some pc; word = Some word; rd = rd; access = None; trail = []; trap = None }

-- the lines of the first example, and what its hart does
abbrev sum : ℕ → Effect
sum value = plain 0x84000000 0x00500093 (Some (1, value))

abbrev end : Effect
end = plain 0x84000004 0x0000006f None

abbrev lines : List Line
lines = request 0 0 Ins ∷ made (sum 5) ∷ done 0 0 ∷ ending end ∷ []

pub agrees : steps_differ 6 (steps_at 2 lines) (sum 5 ∷ end ∷ []) ≡ None
unfolding digits
agrees = refl

pub another_value : steps_differ 6 (steps_at 2 lines) (sum 21 ∷ end ∷ []) ≡ Some (record { line = 3; field = Rd; told = codes "1:5"; found = codes "1:15" })
unfolding digits
another_value = refl

pub no_end : steps_differ 6 (steps_at 2 lines) (sum 5 ∷ []) ≡ Some (record { line = 5; field = Hart; told = codes "0"; found = codes "none" })
unfolding digits
no_end = refl

pub one_too_many : steps_differ 6 (steps_at 2 lines) (sum 5 ∷ end ∷ end ∷ []) ≡ Some (record { line = 6; field = Hart; told = codes "none"; found = codes "0" })
unfolding digits
one_too_many = refl

-- two harts are told, and the order has one
pub other_harts : first_difference 2 1 lines [] ≡ Some (record { line = 1; field = Harts; told = codes "2"; found = codes "1" })
unfolding digits
other_harts = refl

-- a boot of 69 steps
abbrev boot_of : ℕ → List Effect
boot_of steps = replicate steps (plain 0x80000000 0x00000013 None)

pub short_boot : first_difference 1 1 lines (boot_of 69) ≡ Some (record { line = 1; field = Boot; told = codes "0"; found = codes "69" })
unfolding digits
short_boot = refl
