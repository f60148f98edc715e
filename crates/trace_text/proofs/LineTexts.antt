-- A line's text is cut into its fields, and these pass the tests of its kind.
use Rattle.std.proofs.Common.{◌≡◌, ℕ, ◌+◌, ◌<◌, ◌≤◌, ◌^◌, List, [], ◌∷◌, length, get_or, true, refl, ap, ◌∙◌, arith, Option, Some, None, is_some}
use Rattle.std.specs.Prelude.{MatchOption}
use Rattle.std.specs.List.{AllByRecursion, AllZip}
use Rattle.std.specs.Fmt.{decimal}
use Rattle.std.proofs.lemmas.Bool.{cond-true}
use Rattle.rv_fields.specs.Play.{most_harts}
use Rattle.rv_fields.specs.Effect.{Effect}
use Rattle.trace_text.specs.Lines.{Line, request, picked, weighed, fixed, given, settled, touched, made, found, ending, done, refused}
use Rattle.trace_fields.specs.Text.{hex, word_text, or_none, write_text, access_text, trap_text}
use Rattle.trace_text.specs.Text.{step_fields, line_fields, line_body}
use Rattle.trace_fields.specs.Numbers.{decimal_below}
use Rattle.trace_fields.specs.Fields.{FieldTest, fields_in, first_wrong, tells}
use Rattle.trace_fields.specs.Ranges.{IsWrite, IsAccess, IsTrap}
use Rattle.trace_text.specs.Traces.{IsStep, IsLine, step_tests, tests_for, line_forms}
use Rattle.trace_fields.proofs.Joins.{Lacks}
use Rattle.trace_fields.proofs.Visible.{decimal_visible, count_visible, hex_visible, word_text_visible, name_visible, kind_visible, cause_visible, path_visible, bytes_visible, write_visible, access_visible, trail_visible, trap_visible, preamble_visible}
use Rattle.trace_text.proofs.VisibleLines.{cut_fields, no_newline}
use Rattle.trace_fields.proofs.WordBytes.{IsVisible, or_none_visible, there_fits}
use Rattle.trace_fields.proofs.Spells.{Spells}
use Rattle.trace_fields.proofs.Spellings as spellings

module _ (harts : ℕ) (most : harts ≤ most_harts) where
  hart_visible : (h : ℕ) → h < harts → IsVisible (decimal h)
  hart_visible h below = decimal_visible h (omega arith)

  step_visible : (e : Effect) → e.hart < harts → IsStep e → AllByRecursion IsVisible (step_fields e)
  step_visible e below is = (
    hart_visible e.hart below,
    (
      hex_visible e.pc is.pc,
      (
        or_none_visible hex (λ n. n < 2 ^ 64) hex_visible e.pa (there_fits (λ n. n < 2 ^ 64) e.pa is.pa),
        (
          or_none_visible word_text (λ w. w < 2 ^ 32) word_text_visible e.word (there_fits (λ w. w < 2 ^ 32) e.word is.word),
          (
            or_none_visible write_text IsWrite write_visible e.rd is.rd,
            (
              or_none_visible access_text IsAccess access_visible e.access is.access,
              (trail_visible e.trail is.trail, (or_none_visible trap_text IsTrap trap_visible e.trap is.trap, tt)),
            ),
          ),
        ),
      ),
    ),
  )

  fields_visible : (l : Line) → IsLine harts l → AllByRecursion IsVisible (line_fields l)
  fields_visible (request hart k kind) is = (omega arith, (hart_visible hart is.hart, (count_visible k is.ranges, (kind_visible kind, tt))))
  fields_visible (picked hart tree leaf drawn) is = (
    omega arith,
    (
      hart_visible hart is.hart,
      (name_visible tree is.ranges.0, (name_visible leaf is.ranges.1, (hex_visible drawn is.ranges.2, tt))),
    ),
  )
  fields_visible (weighed hart tree path weight) is = (
    omega arith,
    (
      hart_visible hart is.hart,
      (name_visible tree is.ranges.0, (path_visible path is.ranges.1, (count_visible weight is.ranges.2, tt))),
    ),
  )
  fields_visible (fixed hart register value) is =
      let low : register < 32 = is.ranges.1 in
      (omega arith, (hart_visible hart is.hart, (decimal_visible register (omega arith), (hex_visible value is.ranges.2, tt))))
  fields_visible (given hart object page frame) is = (
    omega arith,
    (
      hart_visible hart is.hart,
      (name_visible object is.ranges.0, (count_visible page is.ranges.1, (count_visible frame is.ranges.2, tt))),
    ),
  )
  fields_visible (settled hart space entry) is =
      let low : space < 16 = is.ranges.0 in (
        omega arith,
        (
          hart_visible hart is.hart,
          (decimal_visible space (omega arith), (hex_visible entry.at is.ranges.1.at, (hex_visible entry.pte is.ranges.1.pte, tt))),
        ),
      )
  fields_visible (touched hart at bytes) is =
      (omega arith, (hart_visible hart is.hart, (hex_visible at is.ranges.0, (bytes_visible bytes is.ranges.1.small, tt))))
  fields_visible (made e) is = (omega arith, step_visible e is.hart is.ranges)
  fields_visible (found e) is = (omega arith, step_visible e is.hart is.ranges)
  fields_visible (ending e) is = (omega arith, step_visible e is.hart is.ranges)
  fields_visible (done hart k) is = (omega arith, (hart_visible hart is.hart, (count_visible k is.ranges, tt)))
  fields_visible (refused hart k cause preamble) is = (
    omega arith,
    (
      hart_visible hart is.hart,
      (count_visible k is.ranges.0, (cause_visible cause, (preamble_visible preamble is.ranges.1, tt))),
    ),
  )

-- A line is cut into its fields, and has no newline.

some_fields : (l : Line) → 1 ≤ length (line_fields l)
some_fields (request hart k kind) = omega arith
some_fields (picked hart tree leaf drawn) = omega arith
some_fields (weighed hart tree path weight) = omega arith
some_fields (fixed hart register value) = omega arith
some_fields (given hart object page frame) = omega arith
some_fields (settled hart space entry) = omega arith
some_fields (touched hart at bytes) = omega arith
some_fields (made e) = omega arith
some_fields (found e) = omega arith
some_fields (ending e) = omega arith
some_fields (done hart k) = omega arith
some_fields (refused hart k cause preamble) = omega arith

pub fields_again : (harts : ℕ) → harts ≤ most_harts → (l : Line) → IsLine harts l → fields_in (line_body l) ≡ line_fields l
fields_again harts most l is = cut_fields (line_fields l) (some_fields l) (fields_visible harts most l is)

pub body_lacks_newline : (harts : ℕ) → harts ≤ most_harts → (l : Line) → IsLine harts l → Lacks 0x0a (line_body l)
body_lacks_newline harts most l is = no_newline (line_fields l) (fields_visible harts most l is)

-- The fields of a line pass the tests of its kind.

-- each field passes its test, and there are as many of each
abbrev pub Pass : List FieldTest → List (List ℕ) → Type 0
Pass tests fields = AllZip (λ (test : FieldTest) (field : List ℕ). test field ≡ true) tests fields

pub none_wrong : (number : ℕ) (tests : List FieldTest) (fields : List (List ℕ)) → Pass tests fields → first_wrong number tests fields ≡ None
none_wrong number [] [] pass = refl
none_wrong number [] (f ∷ fs) pass = absurd pass
none_wrong number (t ∷ ts) [] pass = absurd pass
none_wrong number (t ∷ ts) (f ∷ fs) pass =
    cond-true (t f) (first_wrong (number + 1) ts fs) (Some number) pass.0 ∙ none_wrong (number + 1) ts fs pass.1

passes : {A : Type 0} {text : A → List ℕ} {reading : List ℕ → Option A} {Fits : A → Type 0} → Spells text reading Fits
    → (a : A) → Fits a → tells reading (text a) ≡ true
passes spells a fits = ap is_some (spells.again a fits)

there_passes : {A : Type 0} {text : A → List ℕ} {reading : List ℕ → Option A} {Fits : A → Type 0} → Spells text reading Fits
    → (o : Option A) → MatchOption o ⊥ Fits → tells reading (or_none text o) ≡ true
there_passes spells None there = absurd there
there_passes spells (Some a) there = passes spells a there

module _ (harts : ℕ) (most : harts ≤ most_harts) where
  hart_passes : (h : ℕ) → h < harts → tells (decimal_below harts) (decimal h) ≡ true
  hart_passes h below = passes (spellings.hart_spells harts (omega arith)) h below

  step_passes : (e : Effect) → e.hart < harts → IsStep e → Pass (tells (decimal_below harts) ∷ step_tests) (step_fields e)
  step_passes e below is = (
    hart_passes e.hart below,
    (
      passes spellings.hex_spells e.pc is.pc,
      (
        there_passes spellings.hex_spells e.pa is.pa,
        (
          there_passes spellings.word_spells e.word is.word,
          (
            passes spellings.optional_write_spells e.rd is.rd,
            (
              passes spellings.optional_access_spells e.access is.access,
              (passes spellings.trail_spells e.trail (is.short, is.trail), (passes spellings.optional_trap_spells e.trap is.trap, tt)),
            ),
          ),
        ),
      ),
    ),
  )

  fields_pass : (l : Line) → IsLine harts l → Pass (tests_for harts (get_or (line_fields l) 0 []) line_forms) (line_fields l)
  fields_pass (request hart k kind) is =
      (refl, (hart_passes hart is.hart, (passes spellings.count_spells k is.ranges, (passes spellings.kind_spells kind tt, tt))))
  fields_pass (picked hart tree leaf drawn) is = (
    refl,
    (
      hart_passes hart is.hart,
      (
        passes spellings.name_spells tree is.ranges.0,
        (passes spellings.name_spells leaf is.ranges.1, (passes spellings.hex_spells drawn is.ranges.2, tt)),
      ),
    ),
  )
  fields_pass (weighed hart tree path weight) is = (
    refl,
    (
      hart_passes hart is.hart,
      (
        passes spellings.name_spells tree is.ranges.0,
        (passes spellings.path_spells path is.ranges.1, (passes spellings.count_spells weight is.ranges.2, tt)),
      ),
    ),
  )
  fields_pass (fixed hart register value) is = (
    refl,
    (
      hart_passes hart is.hart,
      (passes spellings.register_spells register (is.ranges.0, is.ranges.1), (passes spellings.hex_spells value is.ranges.2, tt)),
    ),
  )
  fields_pass (given hart object page frame) is = (
    refl,
    (
      hart_passes hart is.hart,
      (
        passes spellings.name_spells object is.ranges.0,
        (passes spellings.count_spells page is.ranges.1, (passes spellings.count_spells frame is.ranges.2, tt)),
      ),
    ),
  )
  fields_pass (settled hart space entry) is = (
    refl,
    (
      hart_passes hart is.hart,
      (
        passes spellings.space_spells space is.ranges.0,
        (passes spellings.hex_spells entry.at is.ranges.1.at, (passes spellings.hex_spells entry.pte is.ranges.1.pte, tt)),
      ),
    ),
  )
  fields_pass (touched hart at bytes) is = (
    refl,
    (hart_passes hart is.hart, (passes spellings.hex_spells at is.ranges.0, (passes spellings.bytes_spells bytes is.ranges.1, tt))),
  )
  fields_pass (made e) is = (refl, step_passes e is.hart is.ranges)
  fields_pass (found e) is = (refl, step_passes e is.hart is.ranges)
  fields_pass (ending e) is = (refl, step_passes e is.hart is.ranges)
  fields_pass (done hart k) is = (refl, (hart_passes hart is.hart, (passes spellings.count_spells k is.ranges, tt)))
  fields_pass (refused hart k cause preamble) is = (
    refl,
    (
      hart_passes hart is.hart,
      (
        passes spellings.count_spells k is.ranges.0,
        (passes spellings.cause_spells cause tt, (passes spellings.preamble_spells preamble is.ranges.1, tt)),
      ),
    ),
  )

  pub fields_right : (l : Line) → IsLine harts l → first_wrong 1 (tests_for harts (get_or (line_fields l) 0 []) line_forms) (line_fields l) ≡ None
  fields_right l is = none_wrong 1 (tests_for harts (get_or (line_fields l) 0 []) line_forms) (line_fields l) (fields_pass l is)
