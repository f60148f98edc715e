-- The files that a command reads, one after another.
use Rattle.std.proofs.Common.{ℕ, suc, ◌+◌, ◌≡◌, ◌≤◌, ◌<◌, refl, sym, ap, ◌∙◌, subst, arith, inl, inr, List, [], ◌∷◌, ◌++◌, length, get_or, map, take, replicate, Bor, Bool, true, false, nat_lt, Option, Some, None, Result, Ok, Err, IfSome, IsSomeAnd, append_assoc, codes}
use Rattle.std.specs.Prelude.{MatchOption, MatchResult, is_ok, option_map, slice_get, if◌then◌else◌}
use Rattle.std.specs.Fmt.{decimal}
use Rattle.std.specs.List.{AllByRecursion}
use Rattle.std.specs.Option.{option_or}
use Rattle.std.proofs.lemmas.Bool.Decides.{nat_tests}
use Rattle.std.proofs.lemmas.List.{length-replicate, map-append, take-map, take_more}
use Rattle.std.proofs.lemmas.Option.{slice_get-map, slice_get-get_or}
use Rattle.store_face.specs.State.{Held, State, Rose}
use Rattle.choice_tree.specs.Forest.{Forest, forest_in}
use Rattle.json_keys.specs.declared.input.InputFault.{InputFault}
use Rattle.json_keys.specs.Input.{ReadsAs}
use Rattle.region_plan.specs.Plan.{Work, hart_count}
use Rattle.trace_text.specs.Lines.{Line}
use Rattle.job_read.specs.Accepted.{job_in}
use Rattle.forge.specs.declared.made.Made.{Made}
use Rattle.trace_fields.specs.declared.fault.LineFault.TheVariants.{At}
use Rattle.trace_fields.specs.declared.fault.LineFault.TheVariants as line_faults
use Rattle.trace_replay.specs.declared.verdict.ReplayFault.{ReplayFault}
use Rattle.trace_replay.specs.declared.verdict.ReplayFault.TheVariants as faults
use Rattle.trace_replay.specs.declared.verdict.Verdict.{Verdict}
use Rattle.trace_replay.specs.declared.verdict.Verdict.TheVariants.{Agrees, Differs}
use Rattle.trace_replay.specs.Verdicts.{IsFaultOf, verdict_text}
use Rattle.trace_replay.proofs.Agreement.{files_sound}
use Rattle.forge.specs.Words.{Command, MakingSerial, Replaying, make_serial, replay}
use Rattle.forge.specs.Generated.{IsCountOf, IsRunOf, drawn}
use Rattle.forge.specs.Ends.{Ending, unreadable, rejected, too_long, out_of_memory, inputs, most_bytes, length_fault, form_fault, input_fault, AreHeld, IsThere, Output, Unchanged, IsRunFrom, HasJudged, printed, IsJudged, ending_on, Causes}
use Rattle.forge.specs.Stops.{IsContent, IsStoppedRead, IsStoppedForm, IsReadFor, AreRead, IsMade, IsMadeFrom, files_of, stop_ending}

-- ---- one name more

held_more : (before : Held) (names contents : List (List ℕ)) (name content : List ℕ) → AreHeld before names contents → before name ≡ Some content
    → AreHeld before (names ++ name ∷ []) (contents ++ content ∷ [])
held_more before [] [] name content held is = (is, tt)
held_more before [] (c ∷ cs) name content held is = absurd held
held_more before (n ∷ ns) [] name content held is = absurd held
held_more before (n ∷ ns) (c ∷ cs) name content held is = (held.0, held_more before ns cs name content held.1 is)

-- what the first are at fault with
or_if : {A : Type 0} (test : Bool) (first : A) (all rest more : Option A) → all ≡ option_or rest more
    → (if test then Some first else all) ≡ option_or (if test then Some first else rest) more
or_if true first all rest more e = refl
or_if false first all rest more e = e

fault_more : (most : ℕ) (names contents : List (List ℕ)) (name content : List ℕ) → length contents ≡ length names
    → length_fault most (names ++ name ∷ []) (contents ++ content ∷ [])
    ≡ option_or (length_fault most names contents) (if nat_lt most (length content) then Some (too_long name most) else None)
fault_more most [] [] name content e = refl
fault_more most [] (c ∷ cs) name content e = absurd (omega (arith, e))
fault_more most (n ∷ ns) [] name content e = absurd (omega (arith, e))
fault_more most (n ∷ ns) (c ∷ cs) name content e =
    let rest : length cs ≡ length ns = omega (arith, e) in
    or_if (nat_lt most (length c)) (too_long n most) (length_fault most (ns ++ name ∷ []) (cs ++ content ∷ [])) (length_fault most ns cs)
    (if nat_lt most (length content) then Some (too_long name most) else None) (fault_more most ns cs name content rest)

-- ---- one file

-- a file that is longer than so many bytes; any, where the store doesn't tell
pub longer : (holds : Option Held) (name : List ℕ) (most : ℕ) → IfSome holds (λ held. IsSomeAnd (held name) (λ bytes. most < length bytes))
    → (bytes : List ℕ) × IfSome holds (λ before. before name ≡ Some bytes) × (most < length bytes)
longer None name most h = (replicate (suc most) 0, tt, omega (arith, length-replicate {A = ℕ} (suc most) 0))
longer (Some before) name most h = found (before name) h
  where
    found : (content : Option (List ℕ)) → IsSomeAnd content (λ bytes. most < length bytes)
        → (bytes : List ℕ) × (content ≡ Some bytes) × (most < length bytes)
    found None h = absurd h
    found (Some bytes) h = (bytes, refl, h)

-- ---- the reads so far

-- The files of the first names were read. The first of them that is too long is kept, and else the contents of all.
pub record AreBegun (most : ℕ) (names : List (List ℕ)) (old now : State) (contents : List (List ℕ)) (long : Option (List ℕ)) : Type 0 where
  pub unchanged : Unchanged old now
  pub counts_up : old.read_faults ≤ now.read_faults
  pub all : List (List ℕ)
  pub held : IfSome old.holds (λ before. AreHeld before names all)
  pub count : length all ≡ length names
  pub fault : length_fault most names all ≡ option_map (λ name. too_long name most) long
  pub contents_are : long ≡ None → contents ≡ all

pub begun_none : (most : ℕ) (old : State) → AreBegun most [] old old [] None
begun_none most old = record {
  unchanged = (refl, refl);
  counts_up = omega arith;
  all = [];
  held = none_held old.holds;
  count = refl;
  fault = refl;
  contents_are = λ e. refl;
}
  where
    none_held : (holds : Option Held) → IfSome holds (λ before. AreHeld before [] [])
    none_held None = tt
    none_held (Some before) = tt

told_of_both : (holds : Option Held) (P Q R : Held → Type 0) → ((before : Held) → P before → Q before → R before) → IfSome holds P → IfSome holds Q
    → IfSome holds R
told_of_both None P Q R f p q = tt
told_of_both (Some before) P Q R f p q = f before p q

same_told : (old mid : Option Held) (P : Held → Type 0) → mid ≡ old → IfSome mid P → IfSome old P
same_told old mid P e h = subst (λ holds. IfSome holds P) e h

all_held : (most : ℕ) (names : List (List ℕ)) (old mid : State) (contents : List (List ℕ)) (long : Option (List ℕ)) (name bytes : List ℕ)
    → (b : AreBegun most names old mid contents long) → IfSome mid.holds (λ before. before name ≡ Some bytes)
    → IfSome old.holds (λ before. AreHeld before (names ++ name ∷ []) (b.all ++ bytes ∷ []))
all_held most names old mid contents long name bytes b is =
    told_of_both old.holds (λ before. AreHeld before names b.all) (λ before. before name ≡ Some bytes) (λ before. AreHeld before (names ++ name ∷ []) (b.all ++ bytes ∷ []))
    (λ before held one. held_more before names b.all name bytes held one) b.held
    (same_told old.holds mid.holds (λ before. before name ≡ Some bytes) b.unchanged.0 is)

counted : (name bytes : List ℕ) (names all : List (List ℕ)) → length all ≡ length names → length (all ++ bytes ∷ []) ≡ length (names ++ name ∷ [])
counted name bytes [] [] e = refl
counted name bytes [] (x ∷ xs) e = absurd (omega (arith, e))
counted name bytes (n ∷ ns) [] e = absurd (omega (arith, e))
counted name bytes (n ∷ ns) (x ∷ xs) e = ap suc (counted name bytes ns xs (omega (arith, e)))

or_none : {A : Type 0} (a b : Option A) → b ≡ None → option_or a b ≡ a
or_none None b e = e
or_none (Some a) b e = refl

or_long : (most : ℕ) (name : List ℕ) (long : Option (List ℕ))
    → option_or (option_map (λ n. too_long n most) long) (Some (too_long name most)) ≡ option_map (λ n. too_long n most) (option_or long (Some name))
or_long most name None = refl
or_long most name (Some n) = refl

-- a further file is read
pub begun_more : (most : ℕ) (names : List (List ℕ)) (old mid new : State) (contents : List (List ℕ)) (long : Option (List ℕ)) (name bytes : List ℕ)
    → AreBegun most names old mid contents long → Unchanged mid new → mid.read_faults ≤ new.read_faults
    → IfSome mid.holds (λ before. before name ≡ Some bytes) → length bytes ≤ most
    → AreBegun most (names ++ name ∷ []) old new (contents ++ bytes ∷ []) long
begun_more most names old mid new contents long name bytes b same up is short = record {
  unchanged = (same.0 ∙ b.unchanged.0, same.1 ∙ b.unchanged.1);
  counts_up = omega (arith, b.counts_up, up);
  all = b.all ++ bytes ∷ [];
  held = all_held most names old mid contents long name bytes b is;
  count = counted name bytes names b.all b.count;
  fault = fault_more most names b.all name bytes b.count
      ∙ (or_none (length_fault most names b.all) (if nat_lt most (length bytes) then Some (too_long name most) else None) none ∙ b.fault);
  contents_are = λ e. ap (λ cs. cs ++ bytes ∷ []) (b.contents_are e);
}
  where
    test : nat_lt most (length bytes) ≡ false
    test = grind (arith, nat_tests)

    none : (if nat_lt most (length bytes) then Some (too_long name most) else None) ≡ None
    none = rw test refl

-- one that is too long
pub begun_long : (most : ℕ) (names : List (List ℕ)) (old mid new : State) (contents : List (List ℕ)) (long : Option (List ℕ)) (name bytes : List ℕ)
    → AreBegun most names old mid contents long → Unchanged mid new → mid.read_faults ≤ new.read_faults
    → IfSome mid.holds (λ before. before name ≡ Some bytes) → most < length bytes
    → AreBegun most (names ++ name ∷ []) old new contents (option_or long (Some name))
begun_long most names old mid new contents long name bytes b same up is more = record {
  unchanged = (same.0 ∙ b.unchanged.0, same.1 ∙ b.unchanged.1);
  counts_up = omega (arith, b.counts_up, up);
  all = b.all ++ bytes ∷ [];
  held = all_held most names old mid contents long name bytes b is;
  count = counted name bytes names b.all b.count;
  fault = fault_more most names b.all name bytes b.count
      ∙ (ap (option_or (length_fault most names b.all)) some ∙ (ap (λ f. option_or f (Some (too_long name most))) b.fault ∙ or_long most name long));
  contents_are = λ e. absurd (none_found long e);
}
  where
    test : nat_lt most (length bytes) ≡ true
    test = grind (arith, nat_tests)

    some : (if nat_lt most (length bytes) then Some (too_long name most) else None) ≡ Some (too_long name most)
    some = rw test refl

    none_found : (l : Option (List ℕ)) → option_or l (Some name) ≡ None → ⊥
    none_found None e = cc
    none_found (Some n) e = cc

-- ---- the same of names and contents as the program holds them

names_more : (names : List (Bor (List ℕ))) (i : ℕ) (d : Bor (List ℕ)) → i < length names
    → map (λ name. name.now) (take (i + 1) names) ≡ map (λ name. name.now) (take i names) ++ (get_or names i d).now ∷ []
names_more names i d within = ap (map (λ name. name.now)) (take_more names i d within) ∙ map-append (λ name. name.now) (take i names) (get_or names i d ∷ [])

contents_more : {A : Type 0} (f : A → List ℕ) (all more : List A) (x : A) (bytes : List ℕ) → more ≡ all ++ x ∷ [] → f x ≡ bytes
    → map f more ≡ map f all ++ bytes ∷ []
contents_more f all more x bytes e is = ap (map f) e ∙ (map-append f all (x ∷ []) ∙ ap (λ b. map f all ++ b ∷ []) is)

begun_as : (most : ℕ) (names others : List (List ℕ)) (old new : State) (contents more : List (List ℕ)) (long longs : Option (List ℕ))
    → AreBegun most others old new more longs → names ≡ others → contents ≡ more → long ≡ longs → AreBegun most names old new contents long
begun_as most names others old new contents more long longs b n c l = rw (n, c, l) b

of_some : {A : Type 0} (f : A → List ℕ) (content : Option A) (x : A) (N : Type 0) (P : List ℕ → Type 0) → content ≡ Some x
    → MatchOption (option_map f content) N P → P (f x)
of_some f None x N P e h = cc
of_some f (Some y) x N P e h = let same : y ≡ x = cc in subst (λ z. P (f z)) same h

of_none : {A : Type 0} (f : A → List ℕ) (content : Option A) (N : Type 0) (P : List ℕ → Type 0) → content ≡ None → MatchOption (option_map f content) N P → N
of_none f None N P e h = h
of_none f (Some y) N P e h = cc

pub begun_content : {A : Type 0} (f : A → List ℕ) (most : ℕ) (names : List (Bor (List ℕ))) (i : ℕ) (d : Bor (List ℕ)) (old mid new : State) (all more : List A)
    (long longs : Option (Bor (List ℕ))) (content : Option A) (x : A) → i < length names
    → AreBegun most (map (λ name. name.now) (take i names)) old mid (map f all) (option_map (λ name. name.now) long) → Unchanged mid new
    → mid.read_faults ≤ new.read_faults → IsContent mid (get_or names i d).now most (option_map f content) → content ≡ Some x → more ≡ all ++ x ∷ []
    → longs ≡ long → AreBegun most (map (λ name. name.now) (take (i + 1) names)) old new (map f more) (option_map (λ name. name.now) longs)
begun_content f most names i d old mid new all more long longs content x within b same up is e pushed l =
    let read = of_some f content x (most < length is.0) (λ read. (read ≡ is.0) × (length is.0 ≤ most)) e is.2 in
    begun_as most _ _ old new _ _ _ _
    (begun_more most (map (λ name. name.now) (take i names)) old mid new (map f all) (option_map (λ name. name.now) long) (get_or names i d).now is.0 b same up is.1 read.1)
    (names_more names i d within) (contents_more f all more x is.0 pushed read.0) (ap (option_map (λ name. name.now)) l)

or_seen : (long : Option (Bor (List ℕ))) (name : Bor (List ℕ))
    → option_map (λ n. n.now) (option_or long (Some name)) ≡ option_or (option_map (λ n. n.now) long) (Some name.now)
or_seen None name = refl
or_seen (Some n) name = refl

pub begun_too_long : {A : Type 0} (f : A → List ℕ) (most : ℕ) (names : List (Bor (List ℕ))) (i : ℕ) (d : Bor (List ℕ)) (old mid new : State) (all more : List A)
    (long longs : Option (Bor (List ℕ))) (content : Option A) → i < length names
    → AreBegun most (map (λ name. name.now) (take i names)) old mid (map f all) (option_map (λ name. name.now) long) → Unchanged mid new
    → mid.read_faults ≤ new.read_faults → IsContent mid (get_or names i d).now most (option_map f content) → content ≡ None → more ≡ all
    → longs ≡ option_or long (Some (get_or names i d)) → AreBegun most (map (λ name. name.now) (take (i + 1) names)) old new (map f more) (option_map (λ name. name.now) longs)
begun_too_long f most names i d old mid new all more long longs content within b same up is e kept l =
    begun_as most _ _ old new _ _ _ _
    (begun_long most (map (λ name. name.now) (take i names)) old mid new (map f all) (option_map (λ name. name.now) long) (get_or names i d).now is.0 b same up is.1
    (of_none f content (most < length is.0) (λ read. (read ≡ is.0) × (length is.0 ≤ most)) e is.2))
    (names_more names i d within) (ap (map f) kept) (ap (option_map (λ name. name.now)) l ∙ or_seen long (get_or names i d))

-- ---- what stops them, and their end

all_there : (before : Held) (names contents : List (List ℕ)) → AreHeld before names contents → AllByRecursion (IsThere before) names
all_there before [] contents held = tt
all_there before (n ∷ ns) [] held = absurd held
all_there before (n ∷ ns) (c ∷ cs) held = (is_there (before n) held.0, all_there before ns cs held.1)
  where
    is_there : (content : Option (List ℕ)) → content ≡ Some c → IsThere (λ name. content) n
    is_there None e = cc
    is_there (Some x) e = tt

some_told : (holds : Option Held) (P Q : Held → Type 0) → ((before : Held) → P before → Q before) → IfSome holds P → IfSome holds Q
some_told None P Q f p = tt
some_told (Some before) P Q f p = f before p

-- a read stopped the command
pub stopped_read : (c : Command) (names : List (List ℕ)) (most number : ℕ) (old mid new : State) (contents : List (List ℕ)) (long : Option (List ℕ)) (name : List ℕ)
    (ending : Ending) → IsReadFor c names most → slice_get names number ≡ Some name → AreBegun most (take number names) old mid contents long
    → Unchanged mid new → IsStoppedRead name mid new ending → Causes c old new ending
stopped_read c names most number old mid new contents long name ending are at b same why = stopped ending why
  where
    unchanged : Unchanged old new
    unchanged = (same.0 ∙ b.unchanged.0, same.1 ∙ b.unchanged.1)

    there : IfSome old.holds (λ before. AllByRecursion (IsThere before) (take number (inputs c)))
    there = rw are.inputs_are (some_told old.holds (λ before. AreHeld before (take number names) b.all) (λ before. AllByRecursion (IsThere before) (take number names))
        (λ before held. all_there before (take number names) b.all held) b.held)

    rose : Rose mid.read_faults new.read_faults → Rose old.read_faults new.read_faults
    rose r = elim r [ inl below ↦ inl (omega (arith, below, b.counts_up)) | inr full ↦ inr full ]

    stopped : (ending : Ending) → IsStoppedRead name mid new ending → Causes c old new ending
    stopped (unreadable file) why = record {
      rose = rose why.1;
      last = why.2 ∙ sym why.0;
      number = number;
      named = ap (λ ns. slice_get ns number) are.inputs_are ∙ (at ∙ ap Some (sym why.0));
      there = there;
      unchanged = unchanged;
    }
    stopped out_of_memory why = inl unchanged
    stopped ending why = absurd why

-- the same, of a name as the program holds it
pub stopped_name : (c : Command) (names : List (Bor (List ℕ))) (most i : ℕ) (d : Bor (List ℕ)) (old mid new : State) (contents : List (List ℕ)) (long : Option (List ℕ))
    (ending : Ending) → IsReadFor c (map (λ name. name.now) names) most → i < length names
    → AreBegun most (map (λ name. name.now) (take i names)) old mid contents long → Unchanged mid new
    → IsStoppedRead (get_or names i d).now mid new ending → Causes c old new ending
stopped_name c names most i d old mid new contents long ending are within b same why =
    stopped_read c (map (λ name. name.now) names) most i old mid new contents long (get_or names i d).now ending are
    (slice_get-map (λ name. name.now) names i ∙ ap (option_map (λ name. name.now)) (slice_get-get_or names i d within))
    (subst (λ ns. AreBegun most ns old mid contents long) (sym (take-map (λ name. name.now) i names)) b) same why

or_first : {A : Type 0} (a b : Option A) (x : A) → a ≡ Some x → option_or a b ≡ Some x
or_first a b x e = rw e refl

-- all are read, and one is too long
pub stopped_long : (c : Command) (names : List (List ℕ)) (most : ℕ) (old new : State) (contents : List (List ℕ)) (name : List ℕ)
    → IsReadFor c names most → AreBegun most names old new contents (Some name) → Causes c old new (too_long name most)
stopped_long c names most old new contents name are b = (b.unchanged, (b.all, held, or_first (length_fault (most_bytes c) (inputs c) b.all) (form_fault c b.all) (too_long name most) fault))
  where
    held : IfSome old.holds (λ before. AreHeld before (inputs c) b.all)
    held = rw are.inputs_are b.held

    fault : length_fault (most_bytes c) (inputs c) b.all ≡ Some (too_long name most)
    fault = rw (are.inputs_are, are.most_is) b.fault

-- none is
pub all_read : (c : Command) (names : List (List ℕ)) (most : ℕ) (old new : State) (contents : List (List ℕ)) → IsReadFor c names most
    → AreBegun most names old new contents None → AreRead c old contents
all_read c names most old new contents are b = rw (b.contents_are refl) read
  where
    read : AreRead c old b.all
    read = record {
      held = rw are.inputs_are b.held;
      count = rw are.inputs_are b.count;
      short = rw (are.inputs_are, are.most_is) b.fault;
    }

-- ---- what the files hold

accepted_read : (c : Command) (old : State) (contents : List (List ℕ)) → AreRead c old contents → input_fault c contents ≡ form_fault c contents
accepted_read c old contents read = rw read.short refl

-- what one of them holds stopped the command
pub stopped_form : (c : Command) (old new : State) (contents : List (List ℕ)) (ending : Ending) → AreRead c old contents → Unchanged old new
    → IsStoppedForm c contents ending → Causes c old new ending
stopped_form c old new contents (rejected name reason) read same why = (same, (contents, read.held, accepted_read c old contents read ∙ why))
stopped_form c old new contents out_of_memory read same why = inl same
stopped_form c old new contents ending read same why = absurd why

-- contents of which files were made are accepted
accepted : (m : MakingSerial) (contents : List (List ℕ)) (files : List Output) (harts : ℕ) (lines : List Line) → IsRunFrom m contents files harts lines
    → form_fault (make_serial m) contents ≡ None
accepted m contents files harts lines run = rw (run.contents_are, run.job_read, run.trees_read) refl

-- a run of what the contents spell
-- what a file was read as, where a fault only gets another form
pub read_so : {X Y F : Type 0} (f : X → Y) (P : InputFault → Type 0) (read : Result X InputFault) (told : Result X F) (x : X) (m : Option Y) → ReadsAs f read m
    → MatchResult read (λ a. told ≡ Ok a) P → is_ok told ≡ is_ok read → told ≡ Ok x → m ≡ Some (f x)
read_so f P (Ok a) told x m reads same both is = let at : Ok a ≡ Ok x = sym same ∙ is in let one : a ≡ x = cc in reads ∙ ap (λ y. Some (f y)) one
read_so f P (Err e) told x m reads same both is = absurd (let no : true ≡ false = ap is_ok (sym is) ∙ both in cc)

-- the files that make-serial makes
pub made_from : (m : MakingSerial) (job trees : List ℕ) (made : Made) (work : Work) (forest : Forest) (lines : List Line) → job_in job ≡ Some work → forest_in trees ≡ Some forest
    → IsRunOf work forest m.seed drawn made.elf.items made.order.items made.trace.items lines → IsCountOf made.counts (hart_count work) lines
    → IsMadeFrom m job trees made
made_from m job trees made work forest lines job_read trees_read run counts = record {
  harts = hart_count work;
  lines = lines;
  run = record {
    job = job;
    trees = trees;
    contents_are = refl;
    work = work;
    forest = forest;
    job_read = job_read;
    trees_read = trees_read;
    harts_are = refl;
    elf = made.elf.items;
    order = made.order.items;
    trace = made.trace.items;
    run = run;
    files_are = refl;
  };
  counts = counts;
}

-- both contents, as the program holds them
pub both : {A : Type 0} (f : A → List ℕ) (xs : List A) (a b : A) (x y : List ℕ) → length (map f xs) ≡ 2 → a ≡ get_or xs 0 a → b ≡ get_or xs 1 b
    → x ≡ f a → y ≡ f b → map f xs ≡ x ∷ y ∷ []
both f [] a b x y two ha hb hx hy = absurd (omega (arith, two))
both f (p ∷ []) a b x y two ha hb hx hy = absurd (omega (arith, two))
both f (p ∷ q ∷ []) a b x y two ha hb hx hy = cc
both f (p ∷ q ∷ r ∷ rs) a b x y two ha hb hx hy = absurd (omega (arith, two))

-- what make-serial made of them
pub serial_made : (m : MakingSerial) (old : State) (job trees : List ℕ) (made : Made) → AreRead (make_serial m) old (job ∷ trees ∷ []) → IsMadeFrom m job trees made
    → IsMade (make_serial m) old (files_of m made) made.counts
serial_made m old job trees made read from = record {
  contents = job ∷ trees ∷ [];
  held = read.held;
  accepted = accepted_read (make_serial m) old (job ∷ trees ∷ []) read ∙ accepted m (job ∷ trees ∷ []) (files_of m made) from.harts from.lines from.run;
  harts = from.harts;
  lines = from.lines;
  made = from.run;
  counted = from.counts;
}

-- ---- what replay judges

-- three contents, as the program holds them
pub all_three : {A : Type 0} (f : A → List ℕ) (xs : List A) (a b c : A) (x y z : List ℕ) → length (map f xs) ≡ 3 → a ≡ get_or xs 0 a → b ≡ get_or xs 1 b
    → c ≡ get_or xs 2 c → x ≡ f a → y ≡ f b → z ≡ f c → map f xs ≡ x ∷ y ∷ z ∷ []
all_three f [] a b c x y z three ha hb hc hx hy hz = absurd (omega (arith, three))
all_three f (p ∷ []) a b c x y z three ha hb hc hx hy hz = absurd (omega (arith, three))
all_three f (p ∷ q ∷ []) a b c x y z three ha hb hc hx hy hz = absurd (omega (arith, three))
all_three f (p ∷ q ∷ r ∷ []) a b c x y z three ha hb hc hx hy hz = cc
all_three f (p ∷ q ∷ r ∷ s ∷ rs) a b c x y z three ha hb hc hx hy hz = absurd (omega (arith, three))

-- files in their forms have no fault
no_form_fault : (r : Replaying) (elf order trace : List ℕ) (ending : Ending) → IsJudged elf order trace ending → form_fault (replay r) (elf ∷ order ∷ trace ∷ []) ≡ None
no_form_fault r elf order trace ending judged =
    let sound = files_sound judged.is.harts judged.is.order judged.is.told_harts judged.is.lines elf order trace judged.is.files in
    rw (sound.0, sound.1, sound.2) refl

-- what replay read and judged
pub has_judged : (r : Replaying) (old new : State) (elf order trace : List ℕ) (ending : Ending) → AreRead (replay r) old (elf ∷ order ∷ trace ∷ []) → Unchanged old new
    → IsJudged elf order trace ending → HasJudged (replay r) old new ending
has_judged r old new elf order trace ending read same judged = record {
  contents = elf ∷ order ∷ trace ∷ [];
  held = read.held;
  accepted = accepted_read (replay r) old (elf ∷ order ∷ trace ∷ []) read ∙ no_form_fault r elf order trace ending judged;
  judges = judged;
  unchanged = same;
}

-- a verdict is a cause
pub judged_cause : (r : Replaying) (old new : State) (verdict : Verdict) → HasJudged (replay r) old new (ending_on verdict) → Causes (replay r) old new (ending_on verdict)
judged_cause r old new (Agrees steps) judged = judged
judged_cause r old new (Differs first) judged = judged

-- the line that tells of it
pub verdict_told : (verdict : Verdict) → verdict_text verdict ++ codes "\n" ≡ printed (ending_on verdict)
verdict_told (Agrees steps) = append_assoc (codes "agrees ") (decimal steps ++ codes " steps") (codes "\n")
    ∙ ap (λ t. codes "agrees " ++ t) (append_assoc (decimal steps) (codes " steps") (codes "\n"))
verdict_told (Differs first) = refl

-- a fault of the first file that has one stops it
pub stopped_fault : (r : Replaying) (elf order trace : List ℕ) (fault : ReplayFault) → IsFaultOf elf order trace fault
    → IsStoppedForm (replay r) (elf ∷ order ∷ trace ∷ []) (stop_ending r fault)
stopped_fault r elf order trace (faults.Elf fault) is = rw is.1 refl
stopped_fault r elf order trace (faults.Order (At l f)) is = rw (is.1, is.2) refl
stopped_fault r elf order trace (faults.Order line_faults.Memory) is = absurd (is.0 refl)
stopped_fault r elf order trace (faults.Trace (At l f)) is = rw (is.1, is.2, is.3) refl
stopped_fault r elf order trace (faults.Trace line_faults.Memory) is = absurd (is.0 refl)
stopped_fault r elf order trace faults.Memory is = tt
