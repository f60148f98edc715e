use Rattle.std.proofs.Common.{◌≡◌, ℕ, ◌-◌, true, List, ◌++◌, length, take, drop, replicate, refl, sym, ap, ◌∙◌, subst}
use Rattle.std.specs.Prelude.{IsTrue}
use Rattle.std.proofs.Math.Seq.{take-append_seam}
use Rattle.std.proofs.lemmas.List.{drop-replicate}
use Rattle.rv_fields.specs.Name.{is_name, padded}
use Rattle.rv_fields.proofs.name.name_of.Goals as goal

-- the fields of a name hold these bytes, and zeros behind them
abbrev Holds : List ℕ → List ℕ → ℕ → Type 0
Holds bytes held len = IsTrue (is_name (take len held)) × (length (take len held) ≡ len) × (padded (take len held) ≡ held)

holds_padded : (bytes : List ℕ) → is_name bytes ≡ true → Holds bytes (padded bytes) (length bytes)
holds_padded bytes is =
    let front : take (length bytes) (padded bytes) ≡ bytes = take-append_seam bytes (replicate (24 - length bytes) 0) in
    (rw (front, is) refl, ap length front, ap padded front)

zeros_left : (n : ℕ) → drop {A = ℕ} n (replicate 24 0) ≡ replicate (24 - n) 0
zeros_left n = let zero_byte : ℕ = 0 in drop-replicate n 24 zero_byte

pub invariant_of-result : goal.invariant_of-result
invariant_of-result c =
    let bytes = c.args.bytes.now in
    let is : is_name bytes ≡ true = sym c.is_name.ensures ∙ c.if-not-is_name.false in
    let held : c.copy_from_slice.new.self ++ drop {A = ℕ} (length bytes) (replicate 24 0) ≡ padded bytes =
    ap (λ front. front ++ drop {A = ℕ} (length bytes) (replicate 24 0)) c.copy_from_slice.ensures.after ∙ ap (λ rest. bytes ++ rest) (zeros_left (length bytes)) in
    let P : List ℕ → Type 0 = λ h. Holds bytes h (length bytes) in
    subst P (sym held) (holds_padded bytes is)
