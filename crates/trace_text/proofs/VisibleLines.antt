-- Lines of visible fields, as a reader cuts them; the first line of a text of either kind.
use Rattle.std.proofs.Common.{◌≡◌, ℕ, ◌<◌, ◌≤◌, ◌^◌, ◌+◌, List, ◌∷◌, ◌++◌, length, true, not, nat_lt, refl, ap, ◌∙◌, arith, append_assoc, Some, None, false}
use Rattle.std.specs.Prelude.{◌==◌}
use Rattle.std.specs.List.{AllByRecursion}
use Rattle.std.specs.Option.{option_map_or}
use Rattle.std.specs.Fmt.{decimal}
use Rattle.std.proofs.lemmas.Bool.{le-ltb, not_from_false}
use Rattle.std.proofs.lemmas.List.Elements.{All-from_recursion}
use Rattle.std.proofs.lemmas.List.Splits.{slice_split_at}
use Rattle.rv_fields.specs.Play.{most_harts}
use Rattle.trace_fields.specs.Text.{space_byte, joined_by}
use Rattle.trace_text.specs.Text.{newline, header_fields, header_text, header_body}
use Rattle.trace_fields.specs.Numbers.{decimal_below}
use Rattle.trace_text.specs.Forms.{lines_of_text}
use Rattle.trace_fields.specs.Fields.{fields_in, first_wrong, is_decimal}
use Rattle.trace_text.specs.Orders.{first_line_tests, number_in}
use Rattle.trace_fields.proofs.Joins.{Lacks, lacks, all_weaken, joined_all, parts_again}
use Rattle.trace_fields.proofs.WordBytes.{IsVisible}
use Rattle.trace_fields.proofs.Backs.{value_told}
use Rattle.trace_fields.proofs.Agains.{hart_again}
use Rattle.trace_fields.proofs.Taken.{word_passes}
use Rattle.trace_fields.proofs.Visible.{decimal_visible}

pub visible_lacks : (byte : ℕ) → byte ≤ 0x20 → (text : List ℕ) → IsVisible text → Lacks byte text
visible_lacks byte low text visible = lacks (λ b. 0x20 < b) byte (λ b above same. omega arith) text visible

-- visible fields that spaces part are cut at the spaces, and have no newline
pub cut_fields : (fields : List (List ℕ)) → 1 ≤ length fields → AllByRecursion IsVisible fields → fields_in (joined_by space_byte fields) ≡ fields
cut_fields fields some visible =
    parts_again space_byte fields some (all_weaken IsVisible (Lacks space_byte) (visible_lacks space_byte (omega arith)) fields visible)

pub no_newline : (fields : List (List ℕ)) → AllByRecursion IsVisible fields → Lacks 0x0a (joined_by space_byte fields)
no_newline fields visible =
    joined_all (λ b. (b == 0x0a) ≡ false) space_byte fields refl (all_weaken IsVisible (Lacks 0x0a) (visible_lacks 0x0a (omega arith)) fields visible)

-- a line that a newline ends is cut off there
pub cut_line : (body rest : List ℕ) → Lacks 0x0a body → lines_of_text ((body ++ newline) ++ rest) ≡ body ∷ lines_of_text rest
cut_line body rest lack =
    ap lines_of_text (append_assoc body newline rest)
    ∙ slice_split_at (λ b. b == 0x0a) body 0x0a rest (All-from_recursion (λ b. (b == 0x0a) ≡ false) body lack) refl

module _ (kind : List ℕ) (visible : IsVisible kind) (harts : ℕ) (most : harts ≤ most_harts) where
  header_visible : AllByRecursion IsVisible (header_fields kind harts)
  header_visible = (visible, (omega arith, (decimal_visible harts (omega arith), tt)))

  fields_of_header : fields_in (header_body kind harts) ≡ header_fields kind harts
  fields_of_header = cut_fields (header_fields kind harts) (omega arith) header_visible

  harts_again : (bound : ℕ) → harts < bound → bound ≤ 2 ^ 64 → decimal_below bound (decimal harts) ≡ Some harts
  harts_again bound below fits = hart_again bound fits harts below

  pub header_number : number_in (fields_in (header_body kind harts)) 2 ≡ harts
  header_number =
      ap (λ (fs : List (List ℕ)). number_in fs 2) fields_of_header
      ∙ value_told decimal 10 17 (decimal harts) harts (harts_again 17 (omega arith) (omega arith))

  pub header_right : 1 ≤ harts → first_wrong 1 (first_line_tests kind) (fields_in (header_body kind harts)) ≡ None
  header_right some =
      let test : is_decimal 1 (most_harts + 1) (decimal harts) ≡ true =
      ap (λ o. option_map_or (λ n. not (nat_lt n 1)) o false) (harts_again (most_harts + 1) (omega arith) (omega arith))
      ∙ not_from_false (nat_lt harts 1) (le-ltb harts 1 some) in
      ap (first_wrong 1 (first_line_tests kind)) fields_of_header ∙ rw (word_passes kind, test) refl

  pub header_cut : (rest : List ℕ) → lines_of_text (header_text kind harts ++ rest) ≡ header_body kind harts ∷ lines_of_text rest
  header_cut rest = cut_line (header_body kind harts) rest (no_newline (header_fields kind harts) header_visible)
