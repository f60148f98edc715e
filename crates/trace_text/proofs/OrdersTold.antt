-- The order that a text tells, and the text that tells an order.
use Rattle.std.proofs.Common.{◌≡◌, ℕ, ◌+◌, ◌≤◌, List, [], ◌∷◌, ◌++◌, length, replicate, refl, sym, ap, ◌∙◌, arith, None, get_or, drop, Result, Ok, Err}
use Rattle.std.specs.Prelude.{MatchResult, codes}
use Rattle.std.proofs.lemmas.Option.{none-some}
use Rattle.rv_fields.specs.Play.{most_harts}
use Rattle.trace_fields.specs.declared.fault.LineFault.{LineFault}
use Rattle.trace_fields.specs.declared.fault.LineFault.TheVariants.{At, Memory}
use Rattle.trace_fields.specs.Taking.{IsFault}
use Rattle.std.specs.List.{flat_map}
use Rattle.std.proofs.lemmas.List.{length-append, length-replicate}
use Rattle.trace_text.specs.Forms.{lines_of_text, fault_from, first_fault}
use Rattle.trace_fields.specs.Fields.{fields_in}
use Rattle.trace_text.specs.Orders.{IsOrder, order_form, nothing, turns_so_far, steps_of, order_fault, order_told, harts_told, number_in}
use Rattle.trace_text.specs.Text.{order_text, turns_of, turns_text, header_body}
use Rattle.trace_text.proofs.Faults.{step}
use Rattle.trace_fields.proofs.WordBytes.{IsVisible}
use Rattle.trace_text.proofs.VisibleLines.{header_number, header_right, header_cut}
use Rattle.trace_text.proofs.OrderTexts.{turns_are, no_fault, told_steps, steps_of_turns}

-- so many steps as are counted
pub counted : (order : List ℕ) (count hart : ℕ) → length (order ++ replicate count hart) ≡ length order + count
counted order count hart = length-append order (replicate count hart) ∙ ap (λ n. length order + n) (length-replicate count hart)

order_visible : IsVisible (codes "order")
order_visible = omega arith

-- The text of an order has no fault, and tells this order.
pub told : (harts : ℕ) (order : List ℕ) → IsOrder harts order
    → (order_fault (order_text harts order) ≡ None) × (harts_told (order_text harts order) ≡ harts) × (order_told (order_text harts order) ≡ order)
told harts order is =
    let ts = turns_of order in
    let rest = flat_map turns_text ts in
    let text = order_text harts order in
    let header = header_body (codes "order") harts in
    let few : harts ≤ most_harts = is.most in
    let cut : lines_of_text text ≡ header ∷ lines_of_text rest = header_cut (codes "order") order_visible harts few rest in
    let number : number_in (fields_in header) 2 ≡ harts = header_number (codes "order") order_visible harts few in
    let are = turns_are harts order is.named is.short in
    let sound : order_fault text ≡ None =
    ap (fault_from order_form nothing 1) cut
    ∙ step order_form nothing 1 header rest
    ∙ ap (λ w. first_fault 1 w (fault_from order_form (turns_so_far (number_in (fields_in header) 2) None 0) 2 (lines_of_text rest))) (header_right (codes "order") order_visible harts few is.some)
    ∙ ap (λ n. fault_from order_form (turns_so_far n None 0) 2 (lines_of_text rest)) number
    ∙ no_fault harts None 0 2 ts few (omega arith) are in (
      sound,
      ap (λ (ls : List (List ℕ)). number_in (fields_in (get_or ls 0 [])) 2) cut ∙ number,
      ap (λ (ls : List (List ℕ)). flat_map steps_of (drop 1 ls)) cut ∙ told_steps harts None 0 ts few are ∙ steps_of_turns order,
    )

-- What the reader answers with, where `items` shows the vector's elements.
pub again_is : {V : Type 0} (items : V → List ℕ) (text : List ℕ) (r : Result (ℕ × V) LineFault)
    → MatchResult r (λ read. IsOrder read.0 (items read.1) × (text ≡ order_text read.0 (items read.1))) (λ fault. IsFault (order_fault text) fault)
    → (harts : ℕ) (order : List ℕ) → IsOrder harts order → text ≡ order_text harts order
    → MatchResult r (λ read. (read.0 ≡ harts) × (items read.1 ≡ order)) (λ fault. fault ≡ Memory)
again_is items text (Ok read) reads harts order is same =
    let mine = told read.0 (items read.1) reads.0 in
    let parts = told harts order is in
    let texts : order_text read.0 (items read.1) ≡ order_text harts order = sym reads.1 ∙ same in
    (sym mine.1 ∙ ap harts_told texts ∙ parts.1, sym mine.2 ∙ ap order_told texts ∙ parts.2)
again_is items text (Err Memory) reads harts order is same = refl
again_is items text (Err (At l f)) reads harts order is same =
    absurd (none-some (record { line = l; field = f }) (sym (told harts order is).0 ∙ ap order_fault (sym same) ∙ reads))
