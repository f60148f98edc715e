-- How the words end, from an ending and its cause.
use Rattle.std.proofs.Common.{ℕ, suc, ◌≡◌, ◌⊎◌, inl, inr, refl, sym, ap, ◌∙◌, subst, arith, List, [], ◌∷◌, ◌++◌, codes, length, Option, Some, None, IfSome, IsSomeAnd, Result, Ok, Err, IsErrAnd}
use Rattle.std.specs.Prelude.{MatchOption, map, option_map, slice_get}
use Rattle.std.proofs.lemmas.Option.{slice_get-map, slice_get_within}
use Rattle.store_face.specs.State.{Held, State, Rose}
use Rattle.trace_text.specs.Lines.{Line}
use Rattle.forge.specs.declared.made.Counts.{Counts}
use Rattle.forge.specs.declared.stop.Stop.{Stop}
use Rattle.forge.specs.declared.stop.Stop.TheVariants.{Usage, Unread, Unwritten, Refused, TooLong, Memory}
use Rattle.forge.specs.Words.{Command, command_of, make_serial, replay}
use Rattle.forge.specs.Generated.{counts_text, IsCountOf}
use Rattle.forge.specs.Ends.{Ending, HasJudged, made_status, IsDone, agreed, differs, files_made, usage, unreadable, unwritten, rejected, too_long, out_of_memory, inputs, outputs, input_fault, AreHeld, Output, LeftBy, Unchanged, ToldOfBoth, KeepsOthers, Makes, Leaves, Causes, NoCommand, Serves, Ends}
use Rattle.forge.specs.Stops.{ending_of, counts_body, IsTold, IsCause, EndsBy, IsMade, Becomes, IsStoppedWrite, StopsLate}
use Rattle.forge.proofs.Leaving.{others_apart, stopped_since}

-- ---- options

if_some : {A : Type 0} (o : Option A) (P : A → Type 0) → ((a : A) → o ≡ Some a → P a) → IfSome o P
if_some None P f = tt
if_some (Some a) P f = f a refl

on_some : {A B : Type 0} (o : Option A) (P : A → Type 0) → IsSomeAnd o P → ((a : A) → o ≡ Some a → P a → B) → B
on_some None P h f = absurd h
on_some (Some a) P h f = f a refl h

some_more : {A : Type 0} (o : Option A) (P Q : A → Type 0) → ((a : A) → P a → Q a) → IsSomeAnd o P → IsSomeAnd o Q
some_more None P Q f p = absurd p
some_more (Some a) P Q f p = f a p

match_none : {A : Type 0} (o : Option A) (N : Type 0) (P : A → Type 0) → o ≡ None → N → MatchOption o N P
match_none {A} o N P e n = let F : Option A → Type 0 = λ v. MatchOption v N P in subst F (sym e) n

match_some : {A : Type 0} (o : Option A) (N : Type 0) (P : A → Type 0) (a : A) → o ≡ Some a → P a → MatchOption o N P
match_some {A} o N P a e p = let F : Option A → Type 0 = λ v. MatchOption v N P in subst F (sym e) p

match_more : {A : Type 0} (o : Option A) (M N : Type 0) (P Q : A → Type 0) → (M → N) → ((a : A) → P a → Q a) → MatchOption o M P → MatchOption o N Q
match_more None M N P Q f g h = f h
match_more (Some a) M N P Q f g h = g a h

match_any : {A : Type 0} (o : Option A) (N : Type 0) (P : A → Type 0) → N → ((a : A) → P a) → MatchOption o N P
match_any None N P n f = n
match_any (Some a) N P n f = f a

if_match : {A : Type 0} (o : Option A) (N : Type 0) (P Q : A → Type 0) → ((a : A) → P a → Q a) → MatchOption o N P → IfSome o Q
if_match None N P Q f h = tt
if_match (Some a) N P Q f h = f a h

-- ---- every name but those that the command writes holds what it held

-- no file has changed
unchanged_keeps : (c : Command) (before now : Option Held) → now ≡ before → IfSome before (λ b. IsSomeAnd now (λ n. KeepsOthers c b n))
unchanged_keeps c None now e = tt
unchanged_keeps c (Some b) now e = let F : Option Held → Type 0 = λ o. IsSomeAnd o (λ n. KeepsOthers c b n) in subst F (sym e) (λ name none. refl)

-- what a command makes has the names that it writes
names_made : (c : Command) (contents : List (List ℕ)) (files : List Output) (harts : ℕ) (lines : List Line) → Makes c contents files harts lines
    → map (λ file. file.name) files ≡ outputs c
names_made (make_serial m) contents files harts lines are = ap (map (λ file. file.name)) are.files_are
names_made (replay r) contents files harts lines are = absurd are

told_more : (before now : Option Held) (P Q : Held → Held → Type 0) → ((b n : Held) → P b n → Q b n)
    → IfSome before (λ b. IsSomeAnd now (λ n. P b n)) → IfSome before (λ b. IsSomeAnd now (λ n. Q b n))
told_more None now P Q f told = tt
told_more (Some b) now P Q f told = some_more now (P b) (Q b) (f b) told

leaves_others : (c : Command) (old new : State) (count harts : ℕ) (lines : List Line) → Leaves c old new count harts lines → ToldOfBoth old new (KeepsOthers c)
leaves_others c old new count harts lines leaves = told_more old.holds new.holds (LeftBy leaves.files count) (KeepsOthers c) kept leaves.left
  where
    names : map (λ file. file.name) leaves.files ≡ outputs c
    names = names_made c leaves.contents leaves.files harts lines leaves.made

    kept : (before now : Held) → LeftBy leaves.files count before now → KeepsOthers c before now
    kept before now left name none = left.others name (others_apart name (suc count) leaves.files (rw names none))

others_of : (c : Command) (old new : State) (ending : Ending) → Causes c old new ending → ToldOfBoth old new (KeepsOthers c)
others_of c old new (files_made harts lines) why = leaves_others c old new (length (outputs c)) harts lines why
others_of c old new (agreed steps) why = unchanged_keeps c old.holds new.holds why.unchanged.0
others_of c old new (differs difference) why = unchanged_keeps c old.holds new.holds why.unchanged.0
others_of c old new usage why = absurd why
others_of c old new (unreadable name) why = unchanged_keeps c old.holds new.holds why.unchanged.0
others_of c old new (unwritten name) why = leaves_others c old new why.number why.harts why.lines why.left
others_of c old new (rejected name reason) why = unchanged_keeps c old.holds new.holds why.0.0
others_of c old new (too_long name most) why = unchanged_keeps c old.holds new.holds why.0.0
others_of c old new out_of_memory why =
    elim why [ inl same ↦ unchanged_keeps c old.holds new.holds same.0 | inr s ↦ leaves_others c old new s.number s.harts s.lines s.left ]

-- ---- inputs that are there end it as they should

-- what names hold is one list of contents
same_contents : (held : Held) (names first second : List (List ℕ)) → AreHeld held names first → AreHeld held names second → first ≡ second
same_contents held [] [] [] f s = refl
same_contents held [] [] (y ∷ ys) f s = absurd s
same_contents held [] (x ∷ xs) second f s = absurd f
same_contents held (n ∷ ns) [] second f s = absurd f
same_contents held (n ∷ ns) (x ∷ xs) [] f s = absurd s
same_contents held (n ∷ ns) (x ∷ xs) (y ∷ ys) f s =
    let head : held n ≡ Some x = f.0 in let other : held n ≡ Some y = s.0 in let tail : xs ≡ ys = same_contents held ns xs ys f.1 s.1 in cc

held_alone : (holds : Option Held) (names contents : List (List ℕ)) (P : List (List ℕ) → Type 0) → IfSome holds (λ before. AreHeld before names contents)
    → P contents → IfSome holds (λ before. (others : List (List ℕ)) → AreHeld before names others → P others)
held_alone None names contents P held p = tt
held_alone (Some before) names contents P held p = λ others are. subst P (same_contents before names contents others held are) p

-- what contents without a fault end a command with, and what those with one
abbrev EndsWell : State → State → Ending → Type 0
EndsWell old new ending = IsDone ending ⊎ Rose old.write_faults new.write_faults ⊎ (ending ≡ out_of_memory)

abbrev EndsBadly : Ending → Ending → Type 0
EndsBadly ending fault = (ending ≡ fault) ⊎ (ending ≡ out_of_memory)

serves_well : (c : Command) (old new : State) (count harts : ℕ) (lines : List Line) (ending : Ending) → Leaves c old new count harts lines
    → EndsWell old new ending → IfSome old.holds (λ before. (contents : List (List ℕ)) → AreHeld before (inputs c) contents → Serves c old new contents ending)
serves_well c old new count harts lines ending leaves well =
    held_alone old.holds (inputs c) leaves.contents (λ contents. Serves c old new contents ending) leaves.held
    (match_none (input_fault c leaves.contents) (EndsWell old new ending) (EndsBadly ending) leaves.accepted well)

serves_badly : (c : Command) (old new : State) (ending : Ending) (contents : List (List ℕ)) → IfSome old.holds (λ before. AreHeld before (inputs c) contents)
    → input_fault c contents ≡ Some ending
    → IfSome old.holds (λ before. (others : List (List ℕ)) → AreHeld before (inputs c) others → Serves c old new others ending)
serves_badly c old new ending contents held fault =
    held_alone old.holds (inputs c) contents (λ others. Serves c old new others ending) held
    (match_some (input_fault c contents) (EndsWell old new ending) (EndsBadly ending) ending fault (inl refl))

judged_well : (c : Command) (old new : State) (ending : Ending) → HasJudged c old new ending → EndsWell old new ending
    → IfSome old.holds (λ before. (contents : List (List ℕ)) → AreHeld before (inputs c) contents → Serves c old new contents ending)
judged_well c old new ending judged well =
    held_alone old.holds (inputs c) judged.contents (λ contents. Serves c old new contents ending) judged.held
    (match_none (input_fault c judged.contents) (EndsWell old new ending) (EndsBadly ending) judged.accepted well)

serves_of : (c : Command) (old new : State) (ending : Ending) → Causes c old new ending → ¬ Rose old.read_faults new.read_faults
    → IfSome old.holds (λ before. (contents : List (List ℕ)) → AreHeld before (inputs c) contents → Serves c old new contents ending)
serves_of c old new (files_made harts lines) why reads =
    serves_well c old new (length (outputs c)) harts lines (files_made harts lines) why (inl tt)
serves_of c old new (agreed steps) why reads = judged_well c old new (agreed steps) why (inl tt)
serves_of c old new (differs difference) why reads = judged_well c old new (differs difference) why (inl tt)
serves_of c old new usage why reads = absurd why
serves_of c old new (unreadable name) why reads = absurd (reads why.rose)
serves_of c old new (unwritten name) why reads =
    serves_well c old new why.number why.harts why.lines (unwritten name) why.left (inr (inl why.rose))
serves_of c old new (rejected name reason) why reads = serves_badly c old new (rejected name reason) why.1.0 why.1.1 why.1.2
serves_of c old new (too_long name most) why reads = serves_badly c old new (too_long name most) why.1.0 why.1.1 why.1.2
serves_of c old new out_of_memory why reads =
    if_some old.holds (λ before. (contents : List (List ℕ)) → AreHeld before (inputs c) contents → Serves c old new contents out_of_memory)
    (λ before told contents held. match_any (input_fault c contents) (EndsWell old new out_of_memory) (EndsBadly out_of_memory) (inr (inr refl)) (λ fault. inr refl))

-- ---- the clause

pub ends : (words : List (List ℕ)) (old new : State) (ending : Ending) (status : ℕ) (out : List ℕ) → IsCause words old new ending
    → IsTold ending status out → Ends words old new status out
ends words old new ending status out cause told = record {
  ending = ending;
  status_is = told.0;
  printed_is = told.1;
  cause = cause;
  others = if_match (command_of words) (NoCommand old new ending) (λ c. Causes c old new ending) (λ c. ToldOfBoth old new (KeepsOthers c))
      (λ c why. others_of c old new ending why) cause;
  serves = if_match (command_of words) (NoCommand old new ending) (λ c. Causes c old new ending)
      (λ c. ¬ Rose old.read_faults new.read_faults
      → IfSome old.holds (λ before. (contents : List (List ℕ)) → AreHeld before (inputs c) contents → Serves c old new contents ending))
      (λ c why. serves_of c old new ending why) cause;
}

-- where there is no memory for the line that tells of a stop
stopped_short : (c : Command) (old new : State) (stop : Stop) → Causes c old new (ending_of stop) → Causes c old new out_of_memory
stopped_short c old new Usage why = absurd why
stopped_short c old new (Unread name) why = inl why.unchanged
stopped_short c old new (Unwritten name) why = inr (record {
  number = why.number;
  within = slice_get_within (outputs c) why.number name.now why.named;
  harts = why.harts;
  lines = why.lines;
  left = why.left;
})
stopped_short c old new (Refused name reason) why = inl why.0
stopped_short c old new (TooLong name most) why = inl why.0
stopped_short c old new Memory why = why

-- the line tells of the stop, or there was no memory for it
pub ends_told : (words : List (List ℕ)) (old new : State) (stop : Stop) (status : ℕ) (out : List ℕ) → IsCause words old new (ending_of stop)
    → IsTold (ending_of stop) status out ⊎ IsTold out_of_memory status out → Ends words old new status out
ends_told words old new stop status out why told =
    elim told [
      | inl as_stopped ↦ ends words old new (ending_of stop) status out why as_stopped
      | inr short ↦ ends words old new out_of_memory status out
          (match_more (command_of words) (NoCommand old new (ending_of stop)) (NoCommand old new out_of_memory) (λ c. Causes c old new (ending_of stop))
          (λ c. Causes c old new out_of_memory) (λ none. (none.0, inr refl)) (λ c. stopped_short c old new stop) why) short
    ]

-- ---- what was run

-- the line of the counts
counts_line : (counts : Counts) (harts : ℕ) (lines : List Line) → IsCountOf counts harts lines
    → counts_body counts ++ codes "\n" ≡ counts_text harts lines
counts_line counts harts lines h = rw (h.harts_is, h.steps_is, h.done_is, h.refused_is)

-- a store that goes on telling
told_after : (before now : Option Held) (P : Held → Held → Type 0) → MatchOption before (now ≡ None) (λ b. IsSomeAnd now (λ n. P b n))
    → IfSome before (λ b. IsSomeAnd now (λ n. P b n))
told_after None now P told = tt
told_after (Some b) now P told = told

-- so many of the files that were made were written
abbrev leaves : (c : Command) (old mid new : State) (files : List Output) (counts : Counts) (number : ℕ) → mid.holds ≡ old.holds
    → (m : IsMade c old files counts) → Becomes mid new (LeftBy files number) → Leaves c old new number m.harts m.lines
leaves c old mid new files counts number held m left = record {
  contents = m.contents;
  held = m.held;
  accepted = m.accepted;
  files = files;
  made = m.made;
  left = told_after old.holds new.holds (LeftBy files number)
      (subst (λ o. MatchOption o (new.holds ≡ None) (λ b. IsSomeAnd new.holds (λ n. LeftBy files number b n))) held left);
}

-- a stop at the write of a file
stopped_at : (c : Command) (old new : State) (number harts : ℕ) (lines : List Line) (left : Leaves c old new number harts lines) (file : Output) (ending : Ending)
    → slice_get left.files number ≡ Some file → IsStoppedWrite file.name old new ending → Causes c old new ending
stopped_at c old new number harts lines left file ending at why = stopped ending why
  where
    named : slice_get (outputs c) number ≡ Some file.name
    named = ap (λ names. slice_get names number) (sym (names_made c left.contents left.files harts lines left.made))
        ∙ (slice_get-map (λ f. f.name) left.files number ∙ ap (option_map (λ f. f.name)) at)

    stopped : (ending : Ending) → IsStoppedWrite file.name old new ending → Causes c old new ending
    stopped (unwritten name) why = record {
      rose = why.1;
      last = why.2 ∙ sym why.0;
      number = number;
      named = named ∙ ap Some (sym why.0);
      harts = harts;
      lines = lines;
      left = left;
    }
    stopped out_of_memory why = inr (record {
      number = number;
      within = slice_get_within (outputs c) number file.name named;
      harts = harts;
      lines = lines;
      left = left;
    })
    stopped ending why = absurd why

-- the writes came to their end
pub ends_whole : (c : Command) (old mid new : State) (files : List Output) (counts : Counts) (status : ℕ) (out : List ℕ)
    → Unchanged old mid → IsMade c old files counts → out ≡ counts_body counts ++ codes "\n" → Becomes mid new (LeftBy files (length (outputs c))) → status ≡ made_status counts.refused
    → (ending : Ending) × Causes c old new ending × IsTold ending status out
ends_whole c old mid new files counts status out same m text written is =
    (files_made m.harts m.lines, leaves c old mid new files counts (length (outputs c)) same.0 m written, (is ∙ ap made_status m.counted.refused_is, text ∙ counts_line counts m.harts m.lines m.counted))

-- or stopped
pub ends_stopped : (c : Command) (old mid new : State) (files : List Output) (counts : Counts) (stop : Stop)
    → Unchanged old mid → IsMade c old files counts → StopsLate files mid new (ending_of stop) → Causes c old new (ending_of stop)
ends_stopped c old mid new files counts stop same m stopped =
    on_some (slice_get files stopped.number) (λ file. IsStoppedWrite file.name mid new (ending_of stop)) stopped.at_hand
    (λ file at why. stopped_at c old new stopped.number m.harts m.lines (leaves c old mid new files counts stopped.number same.0 m stopped.left) file
    (ending_of stop) at (stopped_since file.name old mid new (ending_of stop) (omega (arith, same.1)) why))

-- a stop that is handed on
pub handed_on : (Cause : Ending → Type 0) (result : Result ℕ Stop) (stop : Stop) (out : List ℕ) → IsErrAnd result (λ s. s ≡ stop) → Cause (ending_of stop) → EndsBy Cause result out
handed_on Cause (Ok status) stop out is why = absurd is
handed_on Cause (Err s) stop out is why = subst (λ s. Cause (ending_of s)) (sym is) why
