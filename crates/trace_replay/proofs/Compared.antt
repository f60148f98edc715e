-- Comparing a trace with effects, line by line.
use Rattle.std.proofs.Common.{ℕ, suc, ◌+◌, ◌≡◌, List, [], ◌∷◌, ◌++◌, length, length-append, append-nil, append_assoc, Option, Some, None, option_map, refl, sym, ap, subst, ◌∙◌, arith}
use Rattle.std.specs.List.{cons_option, flat_map}
use Rattle.std.specs.Option.{option_map_or, option_or}
use Rattle.std.proofs.lemmas.Grind.{flat_map-append}
use Rattle.std.proofs.lemmas.List.Elements.{filter_map-append}
use Rattle.rv_fields.specs.Effect.{Effect}
use Rattle.rv_fields.proofs.Options.{or_none}
use Rattle.trace_text.specs.Lines.{Line, effect_of, effects_of}
use Rattle.trace_text.specs.Reading.{HasRead, Unread, unread}
use Rattle.trace_text.specs.declared.trace_lines.TraceLines.{TraceLines}
use Rattle.trace_text.specs.Text.{line_body, line_text, newline, step_fields}
use Rattle.trace_text.proofs.Unread.{reads_on}
use Rattle.trace_replay.specs.declared.comparison.Comparison.{Comparison}
use Rattle.trace_replay.specs.declared.verdict.Difference as code
use Rattle.trace_replay.specs.Comparing.{Difference, StepAt, compared_fields, fields_differ, steps_at, steps_differ, unmade, untold}
use Rattle.trace_replay.specs.Judging.{IsCompared, IsComparedBy, IsFinished, compared, left_to_compare}
use Rattle.trace_replay.specs.Verdicts.{difference_seen}
use Rattle.trace_replay.proofs.Differing.{effects_at, effects_of_steps}

-- ---- lines

pub steps_on : (n : ℕ) (xs ys : List Line) → steps_at n (xs ++ ys) ≡ steps_at n xs ++ steps_at (n + length xs) ys
steps_on n [] ys = ap (λ k. steps_at k ys) (omega arith)
steps_on n (x ∷ xs) ys =
    of (effect_of x) (steps_on (n + 1) xs ys ∙ ap (λ k. steps_at (n + 1) xs ++ steps_at k ys) (omega arith))
  where
    of : (m : Option Effect) → steps_at (n + 1) (xs ++ ys) ≡ steps_at (n + 1) xs ++ steps_at (n + length (x ∷ xs)) ys
        → option_map_or (λ (e : Effect). record { line = n; effect = e } ∷ steps_at (n + 1) (xs ++ ys)) m (steps_at (n + 1) (xs ++ ys))
        ≡ option_map_or (λ (e : Effect). record { line = n; effect = e } ∷ steps_at (n + 1) xs) m (steps_at (n + 1) xs) ++ steps_at (n + length (x ∷ xs)) ys
    of None same = same
    of (Some e) same = ap (λ q. record { line = n; effect = e } ∷ q) same

nothing : {A : Type 0} (xs : List A) → length xs ≡ 0 → xs ≡ []
nothing [] none = refl
nothing (x ∷ xs) none = absurd (omega (arith, none))

effects_counted : (steps : List StepAt) → length (effects_at steps) ≡ length steps
effects_counted [] = refl
effects_counted (s ∷ steps) = ap suc (effects_counted steps)

-- lines without a step
pub no_steps : (n : ℕ) (lines : List Line) → effects_of lines ≡ [] → steps_at n lines ≡ []
no_steps n lines none = nothing (steps_at n lines) (sym (effects_counted (steps_at n lines)) ∙ ap length (effects_of_steps n lines ∙ none))

-- no line has no text
pub no_lines : (lines : List Line) → [] ≡ flat_map line_text lines → lines ≡ []
no_lines [] none = refl
no_lines (l ∷ lines) none =
    absurd (omega (arith, ap length none, length-append (line_text l) (flat_map line_text lines), length-append (line_body l) newline))

-- the text of lines and of others behind them
pub text_on : (left new : List ℕ) (xs ys : List Line) → left ≡ flat_map line_text xs ++ new → new ≡ flat_map line_text ys → left ≡ flat_map line_text (xs ++ ys)
text_on left new xs ys first rest = first ∙ ap (λ (t : List ℕ). flat_map line_text xs ++ t) rest ∙ sym (flat_map-append line_text xs ys)

-- one step line behind lines without a step
one_step : (n : ℕ) (skipped : List Line) (line : Line) (rest : List Line) (e : Effect) → effects_of skipped ≡ [] → effect_of line ≡ Some e
    → steps_at n (skipped ++ line ∷ rest) ≡ record { line = n + length skipped; effect = e } ∷ steps_at (n + length skipped + 1) rest
one_step n skipped line rest e none is =
    steps_on n skipped (line ∷ rest) ∙ ap (λ q. q ++ steps_at (n + length skipped) (line ∷ rest)) (no_steps n skipped none)
    ∙ ap (λ m. option_map_or (λ (x : Effect). record { line = n + length skipped; effect = x } ∷ steps_at (n + length skipped + 1) rest) m (steps_at (n + length skipped + 1) rest)) is

-- ---- comparing

abbrev FirstIs : Unread → List Line → List ℕ → List Effect → Option Difference → Type 0
FirstIs start read left behind first =
    (rest : List Line) → left ≡ flat_map line_text rest → (more : List Effect)
    → compared start (read ++ rest) (behind ++ more) ≡ option_or first (left_to_compare start read rest more)

module _ (start : Unread) (read skipped : List Line) (behind : List Effect) where
  assoc : (line : Line) (rest : List Line) → read ++ (skipped ++ line ∷ rest) ≡ (read ++ (skipped ++ line ∷ [])) ++ rest
  assoc line rest = ap (λ q. read ++ q) (sym (append_assoc skipped (line ∷ []) rest)) ∙ sym (append_assoc read (skipped ++ line ∷ []) rest)

  longer : (line : Line) → length (read ++ (skipped ++ line ∷ [])) ≡ length read + length skipped + 1
  longer line = length-append read (skipped ++ line ∷ []) ∙ ap (λ n. length read + n) (length-append skipped (line ∷ [])) ∙ omega arith

  -- the next step line is read, and compared with the next effect
  pub step_read : (left new : List ℕ) (line : Line) (told found : Effect) (n : ℕ) (first : Option Difference)
      → FirstIs start read left behind None → left ≡ flat_map line_text (skipped ++ line ∷ []) ++ new → effects_of skipped ≡ [] → effect_of line ≡ Some told
      → n ≡ start.number + length read + length skipped
      → first ≡ fields_differ n compared_fields (step_fields told) (step_fields found)
      → FirstIs start (read ++ (skipped ++ line ∷ [])) new (behind ++ found ∷ []) first
  step_read left new line told found n first so_far text none is number differs rest text_is more =
      let all : read ++ (skipped ++ line ∷ rest) ≡ (read ++ (skipped ++ line ∷ [])) ++ rest = assoc line rest in
      let last = start.number + length ((read ++ (skipped ++ line ∷ [])) ++ rest) in
      let next : start.number + length read + length skipped + 1 ≡ start.number + length (read ++ (skipped ++ line ∷ [])) = omega (arith, longer line) in
      ap (λ ls. compared start ls ((behind ++ found ∷ []) ++ more)) (sym all)
      ∙ ap (compared start (read ++ (skipped ++ line ∷ rest))) (append_assoc behind (found ∷ []) more)
      ∙ so_far (skipped ++ line ∷ rest) (text_on left new (skipped ++ line ∷ []) rest text text_is ∙ ap (flat_map line_text) (append_assoc skipped (line ∷ []) rest)) (found ∷ more)
      ∙ ap (λ ss. steps_differ (start.number + length (read ++ (skipped ++ line ∷ rest))) ss (found ∷ more)) (one_step (start.number + length read) skipped line rest told none is)
      ∙ ap (λ ls. steps_differ (start.number + length ls) (record { line = start.number + length read + length skipped; effect = told } ∷ steps_at (start.number + length read + length skipped + 1) rest) (found ∷ more)) all
      ∙ ap (λ k. option_or (fields_differ k compared_fields (step_fields told) (step_fields found)) (steps_differ last (steps_at (start.number + length read + length skipped + 1) rest) more)) (sym number)
      ∙ ap (λ d. option_or d (steps_differ last (steps_at (start.number + length read + length skipped + 1) rest) more)) (sym differs)
      ∙ ap (λ k. option_or first (steps_differ last (steps_at k rest) more)) next

  -- there is no step line any more
  pub none_read : (left new : List ℕ) (found : Effect) (n : ℕ)
      → FirstIs start read left behind None → left ≡ flat_map line_text skipped ++ new → new ≡ [] → effects_of skipped ≡ []
      → n ≡ start.number + length read + length skipped
      → FirstIs start (read ++ skipped) new (behind ++ found ∷ []) (Some (untold n found))
  none_read left new found n so_far text ended none number rest text_is more =
      let nothing_left : rest ≡ [] = no_lines rest (sym ended ∙ text_is) in
      let whole : (read ++ skipped) ++ rest ≡ read ++ skipped = ap (λ ls. (read ++ skipped) ++ ls) nothing_left ∙ append-nil (read ++ skipped) in
      ap (λ ls. compared start ls ((behind ++ found ∷ []) ++ more)) whole
      ∙ ap (compared start (read ++ skipped)) (append_assoc behind (found ∷ []) more)
      ∙ so_far skipped (text ∙ ap (λ (t : List ℕ). flat_map line_text skipped ++ t) ended ∙ append-nil (flat_map line_text skipped)) (found ∷ more)
      ∙ ap (λ ss. steps_differ (start.number + length (read ++ skipped)) ss (found ∷ more)) (no_steps (start.number + length read) skipped none)
      ∙ ap (λ k. Some (untold k found))
      (omega (arith, length-append read skipped, number))

-- what the code keeps, where the next step line is read and compared
pub compared_step : (start : Unread) (behind : List Effect) (old mid new : Comparison) (skipped : List Line) (line : Line) (told found : Effect) (n : ℕ) (first : Option code.Difference)
    → IsCompared start behind old → old.first ≡ None
    → HasRead skipped (unread old.lines) (unread mid.lines) → effects_of skipped ≡ [] → mid.steps ≡ old.steps
    → HasRead (line ∷ []) (unread mid.lines) (unread new.lines) → new.steps ≡ mid.steps → effect_of line ≡ Some told → n + 1 ≡ new.lines.number
    → option_map difference_seen first ≡ fields_differ n compared_fields (step_fields told) (step_fields found)
    → IsComparedBy start (behind ++ found ∷ []) new.lines (new.steps + 1) first
compared_step start behind old mid new skipped line told found n first is none skips no_step_in same reads steps tells number differs =
    let both : HasRead (skipped ++ line ∷ []) (unread old.lines) (unread new.lines) = reads_on skips reads in
    let one : effects_of (line ∷ []) ≡ told ∷ [] = ap (λ m. cons_option m []) tells in
    let more : effects_of (is.read ++ (skipped ++ line ∷ [])) ≡ effects_of is.read ++ told ∷ [] =
    filter_map-append effect_of is.read (skipped ++ line ∷ []) ∙ ap (λ es. effects_of is.read ++ es) (filter_map-append effect_of skipped (line ∷ []) ∙ ap (λ es. es ++ effects_of (line ∷ [])) no_step_in ∙ one) in
    record {
      read = is.read ++ (skipped ++ line ∷ []);
      has_read = reads_on is.has_read both;
      steps_are = omega (arith, steps, same, is.steps_are, ap length more, length-append (effects_of is.read) (told ∷ []));
      first_is = step_read start is.read skipped behind (unread old.lines).text (unread new.lines).text line told found n (option_map difference_seen first)
          (subst (λ o. FirstIs start is.read (unread old.lines).text behind (option_map difference_seen o)) none is.first_is)
          both.text_is no_step_in tells (omega (arith, number, is.has_read.number, skips.number, reads.number)) differs;
    }

-- where all lines are read, and the effect is left
pub compared_end : (start : Unread) (behind : List Effect) (old mid new : Comparison) (skipped : List Line) (found : Effect) (n : ℕ) (first : code.Difference)
    → IsCompared start behind old → old.first ≡ None
    → HasRead skipped (unread old.lines) (unread mid.lines) → effects_of skipped ≡ [] → mid.steps ≡ old.steps
    → HasRead [] (unread mid.lines) (unread new.lines) → (unread new.lines).text ≡ [] → new.steps ≡ mid.steps → n ≡ new.lines.number
    → difference_seen first ≡ untold n found
    → IsComparedBy start (behind ++ found ∷ []) new.lines new.steps (Some first)
compared_end start behind old mid new skipped found n first is none skips no_step_in same reads ended steps number differs =
    let both : HasRead (skipped ++ []) (unread old.lines) (unread new.lines) = reads_on skips reads in
    let all : HasRead skipped (unread old.lines) (unread new.lines) = subst (λ ls. HasRead ls (unread old.lines) (unread new.lines)) (append-nil skipped) both in
    let more : effects_of (is.read ++ skipped) ≡ effects_of is.read =
    filter_map-append effect_of is.read skipped ∙ ap (λ es. effects_of is.read ++ es) no_step_in ∙ append-nil (effects_of is.read) in
    record {
      read = is.read ++ skipped;
      has_read = reads_on is.has_read all;
      steps_are = omega (arith, steps, same, is.steps_are, ap length more);
      first_is = subst (λ (d : Difference). FirstIs start (is.read ++ skipped) (unread new.lines).text (behind ++ found ∷ []) (Some d)) (sym differs)
          (none_read start is.read skipped behind (unread old.lines).text (unread new.lines).text found n
          (subst (λ o. FirstIs start is.read (unread old.lines).text behind (option_map difference_seen o)) none is.first_is)
          all.text_is ended no_step_in (omega (arith, number, is.has_read.number, skips.number, reads.number)));
    }

-- one line more that is no step line
pub skips_on : (old mid new : Comparison) (skipped : List Line) (line : Line) → HasRead skipped (unread old.lines) (unread mid.lines) → effects_of skipped ≡ []
    → HasRead (line ∷ []) (unread mid.lines) (unread new.lines) → effect_of line ≡ None
    → (lines : List Line) × HasRead lines (unread old.lines) (unread new.lines) × (effects_of lines ≡ [])
skips_on old mid new skipped line skips none reads tells =
    (skipped ++ line ∷ [], reads_on skips reads, filter_map-append effect_of skipped (line ∷ []) ∙ ap (λ es. es ++ effects_of (line ∷ [])) none ∙ ap (λ m. cons_option m []) tells)

-- ---- the end

abbrev pub Remains : Unread → List Line → List ℕ → List Effect → Option Difference → Type 0
Remains start read left behind first =
    (rest : List Line) → left ≡ flat_map line_text rest → compared start (read ++ rest) behind ≡ option_or first (left_to_compare start read rest [])

-- All effects are there, and so much of the trace is read.
pub record IsRemaining (start : Unread) (behind : List Effect) (c : Comparison) : Type 0 where
  pub read : List Line
  pub has_read : HasRead read start (unread c.lines)
  pub steps_are : c.steps ≡ length (effects_of read)
  pub first_is : Remains start read (unread c.lines).text behind (option_map difference_seen c.first)

pub remains : (start : Unread) (read : List Line) (left : List ℕ) (behind : List Effect) (first : Option Difference)
    → FirstIs start read left behind first → Remains start read left behind first
remains start read left behind first is rest text = ap (compared start (read ++ rest)) (sym (append-nil behind)) ∙ is rest text []

module _ (start : Unread) (read : List Line) (behind : List Effect) (line : Line) (left new : List ℕ) (text : left ≡ flat_map line_text (line ∷ []) ++ new) where
  front : (rest : List Line) → read ++ line ∷ rest ≡ (read ++ line ∷ []) ++ rest
  front rest = sym (append_assoc read (line ∷ []) rest)

  place : (rest : List Line) → start.number + length read + 1 ≡ start.number + length (read ++ line ∷ [])
  place rest = omega (arith, length-append read (line ∷ []))

  -- another line than a step line is read
  pub line_read : (first : Option Difference) → Remains start read left behind first → effect_of line ≡ None → Remains start (read ++ line ∷ []) new behind first
  line_read first so_far none rest text_is =
      ap (λ ls. compared start ls behind) (sym (front rest))
      ∙ so_far (line ∷ rest) (text_on left new (line ∷ []) rest text text_is)
      ∙ ap (λ m. option_or first (steps_differ (start.number + length (read ++ line ∷ rest))
      (option_map_or (λ (e : Effect). record { line = start.number + length read; effect = e } ∷ steps_at (start.number + length read + 1) rest) m (steps_at (start.number + length read + 1) rest)) [])) none
      ∙ ap (λ ls. option_or first (steps_differ (start.number + length ls) (steps_at (start.number + length read + 1) rest) [])) (front rest)
      ∙ ap (λ k. option_or first (steps_differ (start.number + length ((read ++ line ∷ []) ++ rest)) (steps_at k rest) [])) (place rest)

  -- a step line is read, whose step nobody made
  pub lacking_read : (first : Option Difference) (told : Effect) (n : ℕ) → Remains start read left behind first → effect_of line ≡ Some told → n ≡ start.number + length read
      → Remains start (read ++ line ∷ []) new behind (option_or first (Some (unmade n told)))
  lacking_read first told n so_far is number rest text_is =
      ap (λ ls. compared start ls behind) (sym (front rest))
      ∙ so_far (line ∷ rest) (text_on left new (line ∷ []) rest text text_is)
      ∙ ap (λ m. option_or first (steps_differ (start.number + length (read ++ line ∷ rest))
      (option_map_or (λ (e : Effect). record { line = start.number + length read; effect = e } ∷ steps_at (start.number + length read + 1) rest) m (steps_at (start.number + length read + 1) rest)) [])) is
      ∙ ap (λ k. option_or first (Some (unmade k told))) (sym number)
      ∙ of first (left_to_compare start (read ++ line ∷ []) rest [])
    where
      of : (first : Option Difference) (d : Option Difference) → option_or first (Some (unmade n told))
          ≡ option_or (option_or first (Some (unmade n told))) d
      of None d = refl
      of (Some x) d = refl

pub none_remains : (start : Unread) (read : List Line) (left : List ℕ) (behind : List Effect) (first : Option Difference)
    → Remains start read left behind first → left ≡ [] → first ≡ compared start read behind
none_remains start read left behind first is ended =
    sym (ap (λ ls. compared start ls behind) (sym (append-nil read)) ∙ is [] ended ∙ of first)
  where
    of : (first : Option Difference) → option_or first None ≡ first
    of None = refl
    of (Some d) = refl

-- what the code keeps, where a line is read behind all effects
pub remains_on : (start : Unread) (behind : List Effect) (old mid new : Comparison) (line : Line) → IsRemaining start behind old
    → HasRead (line ∷ []) (unread old.lines) (unread mid.lines) → mid.steps ≡ old.steps → mid.first ≡ old.first → new.lines ≡ mid.lines
    → new.steps ≡ mid.steps + length (effects_of (line ∷ []))
    → ((n : ℕ) → n + 1 ≡ mid.lines.number → option_map difference_seen new.first ≡ option_or (option_map difference_seen mid.first) (option_map (unmade n) (effect_of line)))
    → IsRemaining start behind new
remains_on start behind old mid new line is reads steps first lines counted differs =
    let all : HasRead (line ∷ []) (unread old.lines) (unread new.lines) = subst (λ (l : TraceLines). HasRead (line ∷ []) (unread old.lines) (unread l)) (sym lines) reads in
    let n = start.number + length is.read in
    let here : n + 1 ≡ mid.lines.number = omega (arith, is.has_read.number, reads.number) in
    record {
      read = is.read ++ line ∷ [];
      has_read = reads_on is.has_read all;
      steps_are = omega (arith, counted, steps, is.steps_are, ap length (filter_map-append effect_of is.read (line ∷ [])), length-append (effects_of is.read) (effects_of (line ∷ [])));
      first_is = subst (Remains start (is.read ++ line ∷ []) (unread new.lines).text behind)
          (sym (differs n here ∙ ap (λ o. option_or (option_map difference_seen o) (option_map (unmade n) (effect_of line))) first))
          (of (effect_of line) refl);
    }
  where
    before : Option Difference
    before = option_map difference_seen old.first

    text : (unread old.lines).text ≡ flat_map line_text (line ∷ []) ++ (unread new.lines).text
    text = (subst (λ (l : TraceLines). HasRead (line ∷ []) (unread old.lines) (unread l)) (sym lines) reads).text_is

    of : (m : Option Effect) → m ≡ effect_of line → Remains start (is.read ++ line ∷ []) (unread new.lines).text behind (option_or before (option_map (unmade (start.number + length is.read)) m))
    of None none = subst (Remains start (is.read ++ line ∷ []) (unread new.lines).text behind) (sym (or_none before))
        (line_read start is.read behind line (unread old.lines).text (unread new.lines).text text before is.first_is (sym none))
    of (Some e) some = lacking_read start is.read behind line (unread old.lines).text (unread new.lines).text text before e (start.number + length is.read) is.first_is (sym some) refl

pub begins_to_remain : (start : Unread) (behind : List Effect) (c : Comparison) → IsCompared start behind c → IsRemaining start behind c
begins_to_remain start behind c is = record {
  read = is.read;
  has_read = is.has_read;
  steps_are = is.steps_are;
  first_is = remains start is.read (unread c.lines).text behind (option_map difference_seen c.first) is.first_is;
}

pub finished : (start : Unread) (behind : List Effect) (old new : Comparison) → IsRemaining start behind old
    → HasRead [] (unread old.lines) (unread new.lines) → (unread new.lines).text ≡ [] → new.steps ≡ old.steps → new.first ≡ old.first → IsFinished start behind new
finished start behind old new is reads ended steps first =
    let all : HasRead is.read start (unread new.lines) = subst (λ ls. HasRead ls start (unread new.lines)) (append-nil is.read) (reads_on is.has_read reads) in
    record {
      read = is.read;
      has_read = all;
      ended = ended;
      steps_are = steps ∙ is.steps_are;
      first_is = ap (option_map difference_seen) first
          ∙ none_remains start is.read (unread old.lines).text behind (option_map difference_seen old.first) is.first_is (reads.text_is ∙ ended);
    }
