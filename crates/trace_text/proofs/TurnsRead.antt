-- The turns of an order, read one after another.
use Rattle.std.proofs.Common.{◌≡◌, ◌≢◌, ℕ, zero, suc, ◌<◌, ◌≤◌, List, [], ◌∷◌, ◌++◌, replicate, refl, sym, ap, ◌∙◌, append_assoc, append-nil, arith, Option, Some}
use Rattle.std.specs.Prelude.{All, IfSome}
use Rattle.std.specs.Fmt.{decimal}
use Rattle.std.specs.List.{flat_map}
use Rattle.std.proofs.lemmas.Grind.{flat_map-append}
use Rattle.std.proofs.lemmas.List.Elements.{All-append, All-replicate}
use Rattle.trace_fields.specs.Fields.{fields_in}
use Rattle.trace_text.specs.Forms.{lines_of_text}
use Rattle.trace_text.specs.Text.{Turns, turns_of, turns_fields, turns_text}
use Rattle.trace_text.proofs.Runs.{turns, run, ends_before}
use Rattle.trace_text.proofs.Unread.{ended_text}

-- an order doesn't begin with this hart
abbrev pub Changes : Option ℕ → List ℕ → Type 0
Changes last [] = Unit {0}
Changes last (hart ∷ order) = IfSome last (λ before. before ≢ hart)

-- Of these lines of so many harts this order is read, the last line of this hart, and the rest is left.
pub record HasTurns (harts : ℕ) (last : Option ℕ) (order lines rest : List ℕ) : Type 0 where
  pub named : All (λ hart. hart < harts) order
  pub text_is : lines ≡ flat_map turns_text (turns_of order) ++ rest
  pub ends : (more : List ℕ) → Changes last more → turns_of (order ++ more) ≡ turns_of order ++ turns_of more

changes_to : (last : Option ℕ) (hart count : ℕ) (more : List ℕ) → 1 ≤ count → IfSome last (λ before. before ≢ hart) → Changes last (replicate count hart ++ more)
changes_to last hart zero more some other = absurd (omega arith)
changes_to last hart (suc count) more some other = other

one_run : (hart count : ℕ) (more : List ℕ) → 1 ≤ count → Changes (Some hart) more → turns_of (replicate count hart ++ more) ≡ turns hart count ∷ turns_of more
one_run hart count [] some changes = run hart count [] (omega arith) refl
one_run hart count (next ∷ more) some changes = run hart count (next ∷ more) (omega arith) (ends_before hart next (turns_of more) changes)

module _ {harts : ℕ} {last : Option ℕ} {order lines rest : List ℕ} (read : HasTurns harts last order lines rest)
    (hart count : ℕ) (some : 1 ≤ count) (other : IfSome last (λ before. before ≢ hart)) where
  turns_behind : (more : List ℕ) → Changes (Some hart) more → turns_of ((order ++ replicate count hart) ++ more) ≡ turns_of order ++ turns hart count ∷ turns_of more
  turns_behind more changes =
      ap turns_of (append_assoc order (replicate count hart) more) ∙ read.ends (replicate count hart ++ more) (changes_to last hart count more some other)
      ∙ ap (λ (ts : List Turns). turns_of order ++ ts) (one_run hart count more some changes)

  one_turn : turns_of (order ++ replicate count hart) ≡ turns_of order ++ turns hart count ∷ []
  one_turn = ap turns_of (sym (append-nil (order ++ replicate count hart))) ∙ turns_behind [] tt

  -- a line is read
  pub reads_turn : (first behind : List ℕ) → lines_of_text rest ≡ first ∷ lines_of_text behind → fields_in first ≡ decimal hart ∷ decimal count ∷ []
      → hart < harts → HasTurns harts (Some hart) (order ++ replicate count hart) lines behind
  reads_turn first behind cut fields below =
      let t = turns hart count in
      let front = flat_map turns_text (turns_of order) in
      record {
        named = All-append (λ h. h < harts) order (replicate count hart) read.named (All-replicate (λ h. h < harts) count hart below);
        text_is = read.text_is ∙ ap (λ (l : List ℕ). front ++ l) (ended_text (turns_fields t) rest first behind cut fields)
            ∙ sym (append_assoc front (turns_text t) behind)
            ∙ ap (λ (l : List ℕ). (front ++ l) ++ behind) (sym (append-nil (turns_text t)))
            ∙ ap (λ (l : List ℕ). l ++ behind) (sym (flat_map-append turns_text (turns_of order) (t ∷ [])))
            ∙ ap (λ (ts : List Turns). flat_map turns_text ts ++ behind) (sym one_turn);
        ends = λ more changes. turns_behind more changes ∙ sym (append_assoc (turns_of order) (t ∷ []) (turns_of more))
            ∙ ap (λ (ts : List Turns). ts ++ turns_of more) (sym one_turn);
      }
