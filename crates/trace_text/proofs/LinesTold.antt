-- The line that fields tell, and that a line's own fields tell this line again.
use Rattle.std.proofs.Common.{◌≡◌, ℕ, ◌<◌, ◌≤◌, ◌^◌, List, [], ◌∷◌, ap, ◌∙◌, Option, Some, None, option_map, codes, if◌then◌else◌}
use Rattle.std.specs.Str.{bytes_eq}
use Rattle.std.specs.Fmt.{decimal}
use Rattle.rv_fields.specs.Attempt.{◌>>=◌}
use Rattle.rv_fields.specs.Effect.{Effect}
use Rattle.trace_text.specs.Lines.{Line, request, picked, weighed, fixed, given, settled, touched, made, found, ending, done, refused}
use Rattle.trace_fields.specs.Text.{hex, word_text, or_none, write_text, access_text, trail_text, trap_text}
use Rattle.trace_text.specs.Text.{line_fields}
use Rattle.trace_fields.specs.Numbers.{decimal_below, word_reading}
use Rattle.trace_fields.specs.Readings.{kind_reading, cause_reading, preambles, name_reading, count_reading, number_reading, hex_reading, register_reading, space_reading, path_reading, bytes_reading, optional, write_reading, access_reading, trap_reading, trail_reading}
use Rattle.trace_text.specs.Traces.{IsStep, IsLine}
use Rattle.trace_fields.proofs.Agains.{there_again}
use Rattle.trace_fields.proofs.Spellings.{hart_spells, count_spells, hex_spells, space_spells, register_spells, word_spells, preamble_spells, kind_spells, cause_spells, name_spells, path_spells, bytes_spells, trail_spells, optional_write_spells, optional_access_spells, optional_trap_spells}

-- What the fields behind the hart tell, for each kind of line.

abbrev request_told : ℕ → List (List ℕ) → Option Line
request_told hart (k ∷ kind ∷ []) = do
  n ← count_reading k
  c ← kind_reading kind
  Some (request hart n c)
request_told hart fields = None

abbrev picked_told : ℕ → List (List ℕ) → Option Line
picked_told hart (tree ∷ leaf ∷ drawn ∷ []) = do
  t ← name_reading tree
  l ← name_reading leaf
  d ← hex_reading drawn
  Some (picked hart t l d)
picked_told hart fields = None

abbrev weighed_told : ℕ → List (List ℕ) → Option Line
weighed_told hart (tree ∷ path ∷ weight ∷ []) = do
  t ← name_reading tree
  p ← path_reading path
  w ← count_reading weight
  Some (weighed hart t p w)
weighed_told hart fields = None

abbrev fixed_told : ℕ → List (List ℕ) → Option Line
fixed_told hart (register ∷ value ∷ []) = do
  r ← register_reading register
  v ← hex_reading value
  Some (fixed hart r v)
fixed_told hart fields = None

abbrev given_told : ℕ → List (List ℕ) → Option Line
given_told hart (object ∷ page ∷ frame ∷ []) = do
  o ← name_reading object
  p ← count_reading page
  f ← count_reading frame
  Some (given hart o p f)
given_told hart fields = None

abbrev settled_told : ℕ → List (List ℕ) → Option Line
settled_told hart (space ∷ at ∷ pte ∷ []) = do
  s ← space_reading space
  a ← hex_reading at
  p ← hex_reading pte
  Some (settled hart s (record { at = a; pte = p }))
settled_told hart fields = None

abbrev touched_told : ℕ → List (List ℕ) → Option Line
touched_told hart (at ∷ bytes ∷ []) = do
  a ← hex_reading at
  b ← bytes_reading bytes
  Some (touched hart a b)
touched_told hart fields = None

abbrev effect_told : ℕ → List (List ℕ) → Option Effect
effect_told hart (pc ∷ pa ∷ word ∷ rd ∷ access ∷ trail ∷ trap ∷ []) = do
  c ← hex_reading pc
  p ← option_map Some (hex_reading pa)
  w ← option_map Some (word_reading word)
  r ← optional write_reading rd
  a ← optional access_reading access
  t ← trail_reading trail
  f ← optional trap_reading trap
  Some (record { hart = hart; pc = c; pa = p; word = w; rd = r; access = a; trail = t; trap = f })
effect_told hart fields = None

abbrev step_told : (Effect → Line) → ℕ → List (List ℕ) → Option Line
step_told line hart fields = do
  e ← effect_told hart fields
  Some (line e)

abbrev done_told : ℕ → List (List ℕ) → Option Line
done_told hart (k ∷ []) = do
  n ← count_reading k
  Some (done hart n)
done_told hart fields = None

abbrev refused_told : ℕ → List (List ℕ) → Option Line
refused_told hart (k ∷ cause ∷ preamble ∷ []) = do
  n ← count_reading k
  c ← cause_reading cause
  p ← number_reading preambles preamble
  Some (refused hart n c p)
refused_told hart fields = None

-- by the key
abbrev told_as : List ℕ → ℕ → List (List ℕ) → Option Line
told_as key hart fields =
    if bytes_eq key (codes "q") then request_told hart fields
    else if bytes_eq key (codes "p") then picked_told hart fields
    else if bytes_eq key (codes "w") then weighed_told hart fields
    else if bytes_eq key (codes "x") then fixed_told hart fields
    else if bytes_eq key (codes "g") then given_told hart fields
    else if bytes_eq key (codes "m") then settled_told hart fields
    else if bytes_eq key (codes "y") then touched_told hart fields
    else if bytes_eq key (codes "s") then step_told made hart fields
    else if bytes_eq key (codes "f") then step_told found hart fields
    else if bytes_eq key (codes "e") then step_told ending hart fields
    else if bytes_eq key (codes "d") then done_told hart fields
    else if bytes_eq key (codes "r") then refused_told hart fields
    else None

abbrev pub line_told : ℕ → List (List ℕ) → Option Line
line_told harts (key ∷ hart ∷ fields) = do
  h ← decimal_below harts hart
  told_as key h fields
line_told harts fields = None

-- A line is told again.

-- the fields of a step behind its hart
abbrev effect_fields : Effect → List (List ℕ)
effect_fields e =
    hex e.pc ∷ or_none hex e.pa ∷ or_none word_text e.word ∷ or_none write_text e.rd ∷ or_none access_text e.access ∷ trail_text e.trail ∷ or_none trap_text e.trap ∷ []

effect_again : (e : Effect) → IsStep e → effect_told e.hart (effect_fields e) ≡ Some e
effect_again e is =
    λ i. hex_spells.again e.pc is.pc i >>= (λ c. there_again hex hex_reading (λ n. n < 2 ^ 64) hex_spells.again e.pa is.pa i >>= (λ p.
    there_again word_text word_reading (λ w. w < 2 ^ 32) word_spells.again e.word is.word i >>= (λ w.
    optional_write_spells.again e.rd is.rd i >>= (λ r. optional_access_spells.again e.access is.access i >>= (λ a.
    trail_spells.again e.trail (is.short, is.trail) i >>= (λ t. optional_trap_spells.again e.trap is.trap i >>= (λ f.
    Some (record { hart = e.hart; pc = c; pa = p; word = w; rd = r; access = a; trail = t; trap = f }))))))))

module _ (harts : ℕ) (most : harts ≤ 2 ^ 64) where
  hart_again : (h : ℕ) → h < harts → decimal_below harts (decimal h) ≡ Some h
  hart_again h below = (hart_spells harts most).again h below

  step_again : (line : Effect → Line) (e : Effect) → e.hart < harts → IsStep e
      → (decimal_below harts (decimal e.hart) >>= (λ h. step_told line h (effect_fields e))) ≡ Some (line e)
  step_again line e below is =
      (λ i. hart_again e.hart below i >>= (λ h. step_told line h (effect_fields e)))
      ∙ ap (λ o. o >>= (λ e. Some (line e))) (effect_again e is)

  pub told_again : (l : Line) → IsLine harts l → line_told harts (line_fields l) ≡ Some l
  told_again (request hart k kind) is =
      λ i. hart_again hart is.hart i >>= (λ h. count_spells.again k is.ranges i >>= (λ n. kind_spells.again kind tt i >>= (λ c. Some (request h n c))))
  told_again (picked hart tree leaf drawn) is =
      λ i. hart_again hart is.hart i >>= (λ h. name_spells.again tree is.ranges.0 i >>= (λ t. name_spells.again leaf is.ranges.1 i >>= (λ l.
      hex_spells.again drawn is.ranges.2 i >>= (λ d. Some (picked h t l d)))))
  told_again (weighed hart tree path weight) is =
      λ i. hart_again hart is.hart i >>= (λ h. name_spells.again tree is.ranges.0 i >>= (λ t. path_spells.again path is.ranges.1 i >>= (λ p.
      count_spells.again weight is.ranges.2 i >>= (λ w. Some (weighed h t p w)))))
  told_again (fixed hart register value) is =
      λ i. hart_again hart is.hart i >>= (λ h. register_spells.again register (is.ranges.0, is.ranges.1) i >>= (λ r.
      hex_spells.again value is.ranges.2 i >>= (λ v. Some (fixed h r v))))
  told_again (given hart object page frame) is =
      λ i. hart_again hart is.hart i >>= (λ h. name_spells.again object is.ranges.0 i >>= (λ o. count_spells.again page is.ranges.1 i >>= (λ p.
      count_spells.again frame is.ranges.2 i >>= (λ f. Some (given h o p f)))))
  told_again (settled hart space entry) is =
      λ i. hart_again hart is.hart i >>= (λ h. space_spells.again space is.ranges.0 i >>= (λ s. hex_spells.again entry.at is.ranges.1.at i >>= (λ a.
      hex_spells.again entry.pte is.ranges.1.pte i >>= (λ p. Some (settled h s (record { at = a; pte = p }))))))
  told_again (touched hart at bytes) is =
      λ i. hart_again hart is.hart i >>= (λ h. hex_spells.again at is.ranges.0 i >>= (λ a. bytes_spells.again bytes is.ranges.1 i >>= (λ b.
      Some (touched h a b))))
  told_again (made e) is = step_again made e is.hart is.ranges
  told_again (found e) is = step_again found e is.hart is.ranges
  told_again (ending e) is = step_again ending e is.hart is.ranges
  told_again (done hart k) is =
      λ i. hart_again hart is.hart i >>= (λ h. count_spells.again k is.ranges i >>= (λ n. Some (done h n)))
  told_again (refused hart k cause preamble) is =
      λ i. hart_again hart is.hart i >>= (λ h. count_spells.again k is.ranges.0 i >>= (λ n. cause_spells.again cause tt i >>= (λ c.
      preamble_spells.again preamble is.ranges.1 i >>= (λ p. Some (refused h n c p)))))
