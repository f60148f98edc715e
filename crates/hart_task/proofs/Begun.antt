-- Starting values by longer lists of lines, and what is left of a script.
use Rattle.std.proofs.Common.{ℕ, zero, suc, ◌+◌, ◌≤◌, ◌≡◌, Bool, true, false, cond, eqb, ne_eqb, eqb-true, eq-eqb, List, [], ◌∷◌, ◌++◌, length, Some, None, inl, inr, refl, sym, ap, ◌∙◌, arith}
use Rattle.std.proofs.lemmas.Bool.{cases_eq}
use Rattle.std.specs.Prelude.{drop, slice_get}
use Rattle.std.specs.Option.{option_or}
use Rattle.rv_fields.specs.Hart.{Registers, updated}
use Rattle.rv_fields.proofs.Options.{or_assoc, or_none}
use Rattle.region_plan.specs.Script.{ScriptItem}
use Rattle.trace_text.specs.Lines.{Line, fixed, fixed_by, starting}

-- ---- starting values by longer lists of lines

pub starting_append : (ls more : List Line) (h r : ℕ) → starting (ls ++ more) h r ≡ option_or (starting ls h r) (starting more h r)
starting_append [] more h r = refl
starting_append (l ∷ ls) more h r =
    ap (λ o. option_or (fixed_by h r l) o) (starting_append ls more h r) ∙ or_assoc (fixed_by h r l) (starting ls h r) (starting more h r)

-- lines that fix nothing
pub starting_kept : (ls more : List Line) (h r : ℕ) → starting more h r ≡ None → starting (ls ++ more) h r ≡ starting ls h r
starting_kept ls more h r none = starting_append ls more h r ∙ ap (option_or (starting ls h r)) none ∙ or_none (starting ls h r)

-- a register that had none is fixed
pub starting_fixed : (ls : List Line) (initial : Registers) (h register value q : ℕ) → initial q ≡ starting ls h q → initial register ≡ None
    → updated initial register (Some value) q ≡ starting (ls ++ fixed h register value ∷ []) h q
starting_fixed ls initial h register value q same none =
    by (eqb q register) refl ∙ ap (λ o. option_or o (starting (fixed h register value ∷ []) h q)) same ∙ sym (starting_append ls (fixed h register value ∷ []) h q)
  where
    tested : eqb h h ≡ true
    tested = eq-eqb h h refl

    by : (b : Bool) → b ≡ eqb q register → cond b (Some value) (initial q) ≡ option_or (initial q) (starting (fixed h register value ∷ []) h q)
    by true e =
        let at : q ≡ register = eqb-true q register (sym e) in
        let here : initial q ≡ None = ap initial at ∙ none in
        let hit : eqb register q ≡ true = eq-eqb register q (sym at) in
        rw here (rw tested (rw hit refl))
    by false e =
        let miss : eqb register q ≡ false = elim (cases_eq register q) [
          | inl at ↦ absurd (let both = eq-eqb q register (sym at) in cc)
          | inr differ ↦ ne_eqb register q differ
        ] in
        rw tested (rw miss (sym (or_none (initial q))))

-- ---- what is left of a script

pub drop_at : (rs : List ScriptItem) (i : ℕ) (r : ScriptItem) → slice_get rs i ≡ Some r → (drop i rs ≡ r ∷ drop (i + 1) rs) × (i + 1 ≤ length rs)
drop_at [] i r e = absurd cc
drop_at (q ∷ rs) zero r e = (let same : q ≡ r = cc in ap (λ k. k ∷ rs) same, omega arith)
drop_at (q ∷ rs) (suc i) r e =
    let more : (drop i rs ≡ r ∷ drop (i + 1) rs) × (i + 1 ≤ length rs) = drop_at rs i r e in
    let index : suc (i + 1) ≡ suc i + 1 = omega arith in
    (more.0 ∙ ap (λ n. r ∷ drop n (q ∷ rs)) index, omega (arith, more.1))
