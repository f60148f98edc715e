use Rattle.std.proofs.Common.{◌≡◌, ◌≤◌, ℕ, List, [], ◌∷◌, length, map, refl, sym, ap, arith}
use Rattle.std.proofs.lemmas.Simd.{map-map}
use Rattle.trace_fields.specs.declared.entry.EntryText.{EntryText}
use Rattle.trace_fields.specs.Trails.{entry_seen}
use Rattle.trace_fields.specs.Text.{comma, joined_by, entry_text, trail_text}
use Rattle.trace_fields.proofs.display.TrailTextDisplay.fmt.Goals as goal

-- the text of an entry as the code holds it
abbrev held_text : EntryText → List ℕ
held_text entry = entry_text (entry_seen entry)

some_joined : (entries : List EntryText) → 1 ≤ length entries → joined_by comma (map held_text entries) ≡ trail_text (map entry_seen entries)
some_joined [] some = absurd (omega arith)
some_joined (entry ∷ entries) some =
    ap (λ (texts : List (List ℕ)). joined_by comma (held_text entry ∷ texts)) (sym (map-map entry_text entry_seen entries))

pub returns-in_default-clause-writes : goal.returns-in_default-clause-writes
returns-in_default-clause-writes g c = λ plain ok.
    rw (some_joined c.entries.result.now c.in_default.len_at_least, c.entries.ensures) at (c.show_joined.ensures held_text (λ entry. refl) plain ok)
