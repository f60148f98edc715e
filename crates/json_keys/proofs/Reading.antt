-- What the readers of values find, beside the definitions.
use Rattle.std.proofs.Common.{◌≡◌, List, ℕ, Bool, true, false, cond, Option, Some, None, option_map, String, Global, string_bytes, nat_cmp, Bor, refl, ap, ◌∙◌}
use Rattle.std.specs.Cmp.Lexicographic.{slice_cmp}
use Rattle.std.specs.BTreeMap.{is_at}
use Rattle.std.specs.Map.{lookup}
use Rattle.std.specs.Str.{IsUtf8, is_utf8}
use Rattle.std.proofs.lemmas.Str.{IsUtf8-from_is_utf8, is_utf8-from_IsUtf8}
use Rattle.serde_json.specs.Data.{Data}
use Rattle.serde_json.specs.Read.{read}
use Rattle.serde_json.specs.declared.value.Value.{Value}
use Rattle.serde_json.specs.Find.{get_member}
use Rattle.serde_json.specs.View.{view, members_view}
use Rattle.serde_json.proofs.Views.{view_of_ref, view-lookup, items_len-items_view, members_len-members_view}
use Rattle.json_keys.specs.Json.{document}

pub document_read : (bytes : List ℕ) (d : Data) → IsUtf8 bytes → read bytes ≡ Some d → document bytes ≡ Some d
document_read bytes d utf8 found = rw (is_utf8-from_IsUtf8 bytes utf8) found

refused : (bytes : List ℕ) (b : Bool) → is_utf8 bytes ≡ b → (b ≡ true → read bytes ≡ None) → cond b (read bytes) None ≡ None
refused bytes true is none = none refl
refused bytes false is none = refl

pub document_refused : (bytes : List ℕ) → (IsUtf8 bytes → read bytes ≡ None) → document bytes ≡ None
document_refused bytes none = refused bytes (is_utf8 bytes) refl (λ is. none (IsUtf8-from_is_utf8 bytes is))

pub value_found : (found : Option (Bor Value)) (key : List ℕ) (entries : List (String Global × Value)) → option_map (λ v. v.now) found ≡ lookup (is_at (λ k. slice_cmp nat_cmp key (string_bytes k))) entries
    → option_map (λ v. view v.now) found ≡ get_member key (members_view entries)
value_found found key entries is = view_of_ref found ∙ ap (option_map view) is ∙ view-lookup key entries

pub ruleset documents = (document_read, document_refused)

pub ruleset lengths = (items_len-items_view, members_len-members_view)
