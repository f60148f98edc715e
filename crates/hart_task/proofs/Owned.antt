-- A hart's events that hold no part tell of the hart alone and of no memory, and fix each register at most once.
use Rattle.std.proofs.Common.{ℕ, ◌≡◌, Bool, true, false, cond, eqb, eqb-true, eq-eqb, ◌&&◌, List, [], ◌∷◌, ◌++◌, Option, Some, None, refl, sym, ap, subst, ◌∙◌, filter}
use Rattle.std.specs.Prelude.{is_none, is_some, option_map, option_to_list}
use Rattle.std.specs.List.{AllByRecursion}
use Rattle.std.specs.Option.{option_map_or, option_or}
use Rattle.rv_fields.specs.Decode.{Decoded, decoded, rs1_read}
use Rattle.rv_fields.specs.Effect.{Effect}
use Rattle.rv_fields.specs.Hart.{Hart, Registers, updated}
use Rattle.rv_fields.specs.Name.{Name}
use Rattle.rv_fields.specs.declared.access.Accessed.{Accessed}
use Rattle.rv_fields.proofs.Opened.{step_leaves}
use Rattle.rv_fields.proofs.Options.{or_none}
use Rattle.choice_tree.specs.Draws.{Draws, next_word, skipped}
use Rattle.boot_words.specs.Layout.{shard_of}
use Rattle.region_plan.specs.Plan.{Work}
use Rattle.trace_text.specs.Lines.{Line, done, ending, fixed, fixed_by, found, given, made, picked, refused, request, settled, starting, touched, weighed}
use Rattle.trace_fields.proofs.Joins.{all_append}
use Rattle.world_face.specs.Events.{Event, Settle, Wanted, no_parts}
use Rattle.world_face.specs.Runs.{Runs}
use Rattle.world_face.specs.Told.{Weighing}
use Rattle.hart_task.specs.Acts.{Act, Begun, Came, Fixing, Picking, act_lines, answers, begin_lines, begins, fixing_lines, gives_up, is_found, is_last, is_made, parts_of, pick_lines, refuses, step_line, steps, tree_name, weighing_lines, weighing_of}
use Rattle.hart_task.specs.Heard.{Heard, heard_of}
use Rattle.hart_task.specs.OneRun.{RunsTo, all_lines}
use Rattle.hart_task.specs.State.{HartState, start}
use Rattle.hart_task.specs.Stepping.{StepTaken, bytes_fixed, fixed_in, late_registers, named_by, runs_of, seen_of, untouched}
use Rattle.hart_task.specs.Turn.{acted, acts, with_word}
use Rattle.hart_task.proofs.Begun.{starting_append}
use Rattle.hart_task.proofs.Led.{did}
use Rattle.hart_task.proofs.Going.{EachFixed, each_late, none_before}
use Rattle.hart_task.proofs.Lined.{touched_lines}
use Rattle.hart_task.proofs.Made.{Taken, late_for, made_was, number_after, taken}
use Rattle.hart_task.proofs.Viewed.{From, View, hart_fixed, same_number, turned_view}

-- A line of the hart that tells of no memory but for words. What it gives a register is what the register starts with.
abbrev pub IsOwn : ℕ → (ℕ → Option ℕ) → Line → Type 0
IsOwn h first (request hart k kind) = hart ≡ h
IsOwn h first (picked hart tree leaf word) = hart ≡ h
IsOwn h first (weighed hart tree path weight) = hart ≡ h
IsOwn h first (fixed hart register value) = (hart ≡ h) × (first register ≡ Some value)
IsOwn h first (given hart object page frame) = ⊥
IsOwn h first (settled hart space e) = ⊥
IsOwn h first (touched hart at bytes) = ⊥
IsOwn h first (made e) = e.hart ≡ h
IsOwn h first (found e) = e.hart ≡ h
IsOwn h first (ending e) = e.hart ≡ h
IsOwn h first (done hart k) = hart ≡ h
IsOwn h first (refused hart k cause preamble) = hart ≡ h

-- one that gives no register anything
abbrev IsQuiet : ℕ → Line → Type 0
IsQuiet h line = IsOwn h (λ r. None) line

own_more : (h : ℕ) (f g : ℕ → Option ℕ) → ((r v : ℕ) → f r ≡ Some v → g r ≡ Some v) → (l : Line) → IsOwn h f l → IsOwn h g l
own_more h f g more (request hart k kind) own = own
own_more h f g more (picked hart tree leaf word) own = own
own_more h f g more (weighed hart tree path weight) own = own
own_more h f g more (fixed hart register value) own = (own.0, more register value own.1)
own_more h f g more (given hart object page frame) own = own
own_more h f g more (settled hart space e) own = own
own_more h f g more (touched hart at bytes) own = own
own_more h f g more (made e) own = own
own_more h f g more (found e) own = own
own_more h f g more (ending e) own = own
own_more h f g more (done hart k) own = own
own_more h f g more (refused hart k cause preamble) own = own

owns_more : (h : ℕ) (f g : ℕ → Option ℕ) → ((r v : ℕ) → f r ≡ Some v → g r ≡ Some v) → (ls : List Line) → AllByRecursion (IsOwn h f) ls → AllByRecursion (IsOwn h g) ls
owns_more h f g more [] own = tt
owns_more h f g more (l ∷ ls) own = (own_more h f g more l own.0, owns_more h f g more ls own.1)

events_more : (h : ℕ) (f g : ℕ → Option ℕ) → ((r v : ℕ) → f r ≡ Some v → g r ≡ Some v) → (es : List Event)
    → AllByRecursion (λ (e : Event). AllByRecursion (IsOwn h f) e.lines) es → AllByRecursion (λ (e : Event). AllByRecursion (IsOwn h g) e.lines) es
events_more h f g more [] own = tt
events_more h f g more (e ∷ es) own = (owns_more h f g more e.lines own.0, events_more h f g more es own.1)

-- ---- what lines give registers

quiet_line : (h r : ℕ) (l : Line) → IsQuiet h l → fixed_by h r l ≡ None
quiet_line h r (request hart k kind) quiet = refl
quiet_line h r (picked hart tree leaf word) quiet = refl
quiet_line h r (weighed hart tree path weight) quiet = refl
quiet_line h r (fixed hart register value) quiet = absurd (let no = quiet.1 in cc)
quiet_line h r (given hart object page frame) quiet = refl
quiet_line h r (settled hart space e) quiet = refl
quiet_line h r (touched hart at bytes) quiet = refl
quiet_line h r (made e) quiet = refl
quiet_line h r (found e) quiet = refl
quiet_line h r (ending e) quiet = refl
quiet_line h r (done hart k) quiet = refl
quiet_line h r (refused hart k cause preamble) quiet = refl

quiet_lines : (h r : ℕ) (ls : List Line) → AllByRecursion (IsQuiet h) ls → starting ls h r ≡ None
quiet_lines h r [] quiet = refl
quiet_lines h r (l ∷ ls) quiet = ap (λ m. option_or m (starting ls h r)) (quiet_line h r l quiet.0) ∙ quiet_lines h r ls quiet.1

-- what fixings give a register: the first of it counts
abbrev given_by : List Fixing → ℕ → Option ℕ
given_by [] r = None
given_by (f ∷ fs) r = option_or (cond (eqb f.register r) (Some f.value) None) (given_by fs r)

fixed_starting : (h r : ℕ) (fs : List Fixing) → starting (fixing_lines h fs) h r ≡ given_by fs r
fixed_starting h r [] = refl
fixed_starting h r (f ∷ fs) =
    ap (λ t. option_or (cond (t && eqb f.register r) (Some f.value) None) (starting (fixing_lines h fs) h r)) (eq-eqb h h refl)
    ∙ ap (option_or (cond (eqb f.register r) (Some f.value) None)) (fixed_starting h r fs)

-- each counts
abbrev AreOnce : List Fixing → Type 0
AreOnce fs = EachFixed (λ r v. given_by fs r ≡ Some v) fs

given_late : (x : ℕ → Option ℕ) (fs : List Fixing) (r v : ℕ) → EachFixed (λ r v. x r ≡ None) fs → given_by fs r ≡ Some v → x r ≡ None
given_late x [] r v late is = absurd cc
given_late x (f ∷ fs) r v late is = of (eqb f.register r) refl (given_late x fs r v late.1) is
  where
    of : (t : Bool) → t ≡ eqb f.register r → (given_by fs r ≡ Some v → x r ≡ None) → option_or (cond t (Some f.value) None) (given_by fs r) ≡ Some v → x r ≡ None
    of true e more is = ap x (sym (eqb-true f.register r (sym e))) ∙ late.0
    of false e more is = more is

given_kept : (x : ℕ → Option ℕ) (fs : List Fixing) (r : ℕ) → fixed_in x fs r ≡ None → (x r ≡ None) × (given_by fs r ≡ None)
given_kept x [] r none = (none, refl)
given_kept x (f ∷ fs) r none = let more = given_kept (updated x f.register (Some f.value)) fs r none in of (eqb r f.register) refl (eqb f.register r) refl more.0 more.1
  where
    of : (t : Bool) → t ≡ eqb r f.register → (u : Bool) → u ≡ eqb f.register r → cond t (Some f.value) (x r) ≡ None → given_by fs r ≡ None
        → (x r ≡ None) × (option_or (cond u (Some f.value) None) (given_by fs r) ≡ None)
    of true e u is none rest = absurd cc
    of false e true is none rest = absurd (let yes : eqb r f.register ≡ true = eq-eqb r f.register (sym (eqb-true f.register r (sym is))) in cc)
    of false e false is none rest = (none, rest)

-- a word names each register once
once_late : (draws : Draws) (p : ℕ → Bool) (a b : ℕ) → AreOnce (late_registers draws (filter p (cond (eqb a b) (a ∷ []) (a ∷ b ∷ []))))
once_late draws p a b = of (eqb a b) refl
  where
    itself : (r v : ℕ) → option_or (cond (eqb r r) (Some v) None) None ≡ Some v
    itself r v = ap (λ t. option_or (cond t (Some v) None) None) (eq-eqb r r refl)

    one : (s : Bool) → AreOnce (late_registers draws (cond {A = List ℕ} s (a ∷ []) []))
    one true = (itself a (next_word draws), tt)
    one false = tt

    two : (s t : Bool) → false ≡ eqb a b → AreOnce (late_registers draws (cond {A = List ℕ} s (a ∷ cond t (b ∷ []) []) (cond t (b ∷ []) [])))
    two true true e = (
      ap (λ q. option_or (cond q (Some (next_word draws)) None) (option_or (cond (eqb b a) (Some (next_word (skipped draws 1))) None) None)) (eq-eqb a a refl),
      (ap (λ q. option_or (cond q (Some (next_word draws)) None) (option_or (cond (eqb b b) (Some (next_word (skipped draws 1))) None) None)) (sym e) ∙ itself b (next_word (skipped draws 1)), tt),
    )
    two true false e = (itself a (next_word draws), tt)
    two false true e = (itself b (next_word draws), tt)
    two false false e = tt

    of : (u : Bool) → u ≡ eqb a b → AreOnce (late_registers draws (filter p (cond u (a ∷ []) (a ∷ b ∷ []))))
    of true e = one (p a)
    of false e = two (p a) (p b) e

once_named : (s : HartState) (word : ℕ) → AreOnce (late_for s word)
once_named s word = of (decoded word)
  where
    of : (d : Option Decoded) → AreOnce (late_registers s.draws (untouched s (named_by d)))
    of None = tt
    of (Some d) = once_late s.draws (λ r. is_none (s.hart.x r)) (rs1_read d) d.ops.rs2

-- ---- one event

-- its lines, between registers before and behind it
record Tells (h : ℕ) (x y : ℕ → Option ℕ) (lines : List Line) : Type 0 where
  own : AllByRecursion (IsOwn h (starting lines h)) lines
  late : (r v : ℕ) → starting lines h r ≡ Some v → x r ≡ None
  kept : (r : ℕ) → y r ≡ None → (x r ≡ None) × (starting lines h r ≡ None)

own_fixings : (h : ℕ) (first : ℕ → Option ℕ) (fs : List Fixing) (rest : List Line) → EachFixed (λ r v. first r ≡ Some v) fs → AllByRecursion (IsOwn h first) rest → AllByRecursion (IsOwn h first) (fixing_lines h fs ++ rest)
own_fixings h first [] rest each own = own
own_fixings h first (f ∷ fs) rest each own = ((refl, each.0), own_fixings h first fs rest each.1 own)

each_same : (f g : ℕ → Option ℕ) (fs : List Fixing) → ((r : ℕ) → f r ≡ g r) → EachFixed (λ r v. g r ≡ Some v) fs → EachFixed (λ r v. f r ≡ Some v) fs
each_same f g [] same each = tt
each_same f g (x ∷ fs) same each = (same x.register ∙ each.0, each_same f g fs same each.1)

tells : (h : ℕ) (x y : ℕ → Option ℕ) (front : List Line) (fs : List Fixing) (back : List Line) → AllByRecursion (IsQuiet h) front → AllByRecursion (IsQuiet h) back
    → EachFixed (λ r v. x r ≡ None) fs → AreOnce fs → ((r : ℕ) → y r ≡ None → fixed_in x fs r ≡ None) → Tells h x y (front ++ (fixing_lines h fs ++ back))
tells h x y front fs back quiet quiet_back each once behind = record {
  own = all_append (IsOwn h (starting (front ++ (fixing_lines h fs ++ back)) h)) front (fixing_lines h fs ++ back)
      (owns_more h (λ r. None) (starting (front ++ (fixing_lines h fs ++ back)) h) (λ r v is. absurd cc) front quiet)
      (own_fixings h (starting (front ++ (fixing_lines h fs ++ back)) h) fs back (each_same (starting (front ++ (fixing_lines h fs ++ back)) h) (given_by fs) fs all once)
      (owns_more h (λ r. None) (starting (front ++ (fixing_lines h fs ++ back)) h) (λ r v is. absurd cc) back quiet_back));
  late = λ r v is. given_late x fs r v each (sym (all r) ∙ is);
  kept = λ r none. let k = given_kept x fs r (behind r none) in (k.0, all r ∙ k.1);
}
  where
    all : (r : ℕ) → starting (front ++ (fixing_lines h fs ++ back)) h r ≡ given_by fs r
    all r =
        starting_append front (fixing_lines h fs ++ back) h r
        ∙ ap (λ m. option_or m (starting (fixing_lines h fs ++ back) h r)) (quiet_lines h r front quiet)
        ∙ starting_append (fixing_lines h fs) back h r
        ∙ ap (λ m. option_or (starting (fixing_lines h fs) h r) m) (quiet_lines h r back quiet_back)
        ∙ or_none (starting (fixing_lines h fs) h r)
        ∙ fixed_starting h r fs

begin_quiet : (work : Work) (h : ℕ) (b : Begun) → AllByRecursion (IsQuiet h) (begin_lines work h b)
begin_quiet work h b = (refl, all_append (IsQuiet h) (option_map_or (pick_lines work h) b.pick []) _ (of b.pick) (at (weighing_of work b.request)))
  where
    of : (p : Option Picking) → AllByRecursion (IsQuiet h) (option_map_or (pick_lines work h) p [])
    of None = tt
    of (Some p) = by p.leaf
      where
        by : (leaf : Option Name) → AllByRecursion (IsQuiet h) (option_map_or (λ (leaf : Name). picked h (tree_name work p.tree) leaf p.word ∷ []) leaf [])
        by None = tt
        by (Some leaf) = (refl, tt)

    at : (w : Option Weighing) → AllByRecursion (IsQuiet h) (option_map_or (weighing_lines h) w [])
    at None = tt
    at (Some w) = (refl, tt)

fixing_late : (x : ℕ → Option ℕ) (fixing : Option Fixing) → ((f : Fixing) → fixing ≡ Some f → x f.register ≡ None) → EachFixed (λ r v. x r ≡ None) (option_to_list fixing)
fixing_late x None late = tt
fixing_late x (Some f) late = (late f refl, tt)

fixing_once : (fixing : Option Fixing) → AreOnce (option_to_list fixing)
fixing_once None = tt
fixing_once (Some f) = (ap (λ t. option_or (cond t (Some f.value) None) None) (eq-eqb f.register f.register refl), tt)

fixing_behind : (fixing : Option Fixing) (hart : Hart) (r : ℕ) → (hart_fixed fixing hart).x r ≡ fixed_in hart.x (option_to_list fixing) r
fixing_behind None hart r = refl
fixing_behind (Some f) hart r = refl

-- ---- a step that holds no part

no_access : (probe : Option (ℕ × Bool)) (access : Option Accessed) → option_map shard_of (option_or (option_map (λ (p : ℕ × Bool). p.0) probe) (option_map (λ (a : Accessed). a.pa) access)) ≡ None → access ≡ None
no_access None None is = refl
no_access None (Some a) is = absurd cc
no_access (Some p) access is = absurd cc

no_bytes : (heard : Heard) (access : Option Accessed) (wanted : Option Wanted) (draws : Draws) → access ≡ None → bytes_fixed (runs_of heard access) access wanted draws ≡ []
no_bytes heard access wanted draws none = ap (λ a. bytes_fixed (runs_of heard a) a wanted draws) none ∙ of wanted
  where
    of : (wanted : Option Wanted) → bytes_fixed [] None wanted draws ≡ []
    of None = refl
    of (Some w) = refl

-- what was taken
record Took (s : HartState) (t : StepTaken) : Type 0 where
  hart : t.effect.hart ≡ s.hart.number
  late : EachFixed (λ r v. s.hart.x r ≡ None) t.registers
  once : AreOnce t.registers
  bytes : t.effect.access ≡ None → t.bytes ≡ []
  behind : (r : ℕ) → t.state.hart.x r ≡ None → fixed_in s.hart.x t.registers r ≡ None
  number : t.state.hart.number ≡ s.hart.number

took_so : (work : Work) (s : HartState) (heard : Heard) (wanted : Option Wanted) (t : StepTaken) → Taken work s heard wanted t → Took s t
took_so work s heard wanted t k =
    let hart : Hart = record s.hart { x = fixed_in s.hart.x (late_for s k.here) } in
    let leaves = step_leaves (seen_of work s heard) hart k.r k.steps in
    let registers : t.registers ≡ late_for s k.here = ap (λ (q : StepTaken). q.registers) k.is in
    let effect : t.effect ≡ k.r.effect = ap (λ (q : StepTaken). q.effect) k.is in
    let after : t.state.hart ≡ k.r.hart = ap (λ (q : StepTaken). q.state.hart) k.is in
    record {
      hart = ap (λ (q : Effect). q.hart) effect ∙ leaves.effect_hart;
      late = subst (λ fs. EachFixed (λ r v. s.hart.x r ≡ None) fs) (sym registers) (each_late s.hart.x s.draws (named_by (decoded k.here)));
      once = subst AreOnce (sym registers) (once_named s k.here);
      bytes = λ none. ap (λ (q : StepTaken). q.bytes) k.is ∙ no_bytes heard k.r.effect.access wanted _ (ap (λ (q : Effect). q.access) (sym effect) ∙ none);
      behind = λ r none.
          ap (λ fs. fixed_in s.hart.x fs r) registers
          ∙ none_before hart.x k.r.effect.rd r (ap (λ (f : Registers). f r) (sym leaves.registers) ∙ ap (λ (q : Hart). q.x r) (sym after) ∙ none);
      number = ap (λ (q : Hart). q.number) after ∙ number_after work s heard wanted t k;
    }

took_made : (work : Work) (s : HartState) (word : ℕ) (t : StepTaken) → Took (with_word work s word) t → Took s t
took_made work s word t k = record { hart = k.hart; late = k.late; once = k.once; bytes = k.bytes; behind = k.behind; number = k.number }

took : (came : Came) (work : Work) (s : HartState) (heard : Heard) (t : StepTaken) → From came work s heard t → Took s t
took is_made work s heard t from = took_made work s from.0 t (took_so work (with_word work s from.0) heard from.1 t (made_was work s from.0 heard from.1 t from.2).taken)
took is_last work s heard t from = took_made work s from.0 t (took_so work (with_word work s from.0) heard from.1 t (made_was work s from.0 heard from.1 t from.2).taken)
took is_found work s heard t from = took_so work s heard from.0 t (taken work s heard from.0 t from.1)

tail_quiet : (h : ℕ) (came : Came) (e : Effect) (ends : Option ℕ) → e.hart ≡ h → AllByRecursion (IsQuiet h) (step_line came e ∷ option_map_or (λ (k : ℕ). done h k ∷ []) ends [])
tail_quiet h came e ends is = (of came, at ends)
  where
    of : (came : Came) → IsQuiet h (step_line came e)
    of is_made = is
    of is_found = is
    of is_last = is

    at : (ends : Option ℕ) → AllByRecursion (IsQuiet h) (option_map_or (λ (k : ℕ). done h k ∷ []) ends [])
    at None = tt
    at (Some k) = (refl, tt)

-- ---- all acts

act_tells : (work : Work) (s : HartState) (heard : Heard) (act : Act) (u : HartState) → View work s heard act u → parts_of work s.hart.number act ≡ no_parts
    → Tells s.hart.number s.hart.x u.hart.x (act_lines work s.hart.number act) × (u.hart.number ≡ s.hart.number)
act_tells work s heard (refuses b cause) u view parts = (
  tells s.hart.number s.hart.x u.hart.x (begin_lines work s.hart.number b) [] (refused s.hart.number b.k cause 0 ∷ []) (begin_quiet work s.hart.number b) (refl, tt) tt tt
      (λ r none. ap (λ (q : Hart). q.x r) (sym view.hart) ∙ none),
  ap (λ (q : Hart). q.number) view.hart,
)
act_tells work s heard (answers b fixing) u view parts = (
  tells s.hart.number s.hart.x u.hart.x (begin_lines work s.hart.number b) (option_to_list fixing) (done s.hart.number b.k ∷ []) (begin_quiet work s.hart.number b) (refl, tt)
      (fixing_late s.hart.x fixing view.late) (fixing_once fixing) (λ r none. sym (fixing_behind fixing s.hart r) ∙ ap (λ (q : Hart). q.x r) (sym view.hart) ∙ none),
  ap (λ (q : Hart). q.number) view.hart ∙ same_number fixing s.hart,
)
act_tells work s heard (begins b fixing told) u view parts = (
  subst (λ ls. Tells s.hart.number s.hart.x u.hart.x (begin_lines work s.hart.number b ++ (fixing_lines s.hart.number (option_to_list fixing) ++ ls))) (sym none_told)
      (tells s.hart.number s.hart.x u.hart.x (begin_lines work s.hart.number b) (option_to_list fixing) [] (begin_quiet work s.hart.number b) tt
      (fixing_late s.hart.x fixing view.0.late) (fixing_once fixing) (λ r none. sym (fixing_behind fixing s.hart r) ∙ ap (λ (q : Hart). q.x r) (sym view.0.hart) ∙ none)),
  ap (λ (q : Hart). q.number) view.0.hart ∙ same_number fixing s.hart,
)
  where
    -- it asks no memory, since it holds no pages
    none_told : told ≡ []
    none_told = view.1 ∙ of b.settle refl
      where
        of : (m : Option Settle) → m ≡ b.settle → cond (is_some m) heard.told [] ≡ []
        of None is = refl
        of (Some settle) is = absurd (let yes = (view.0.memory settle (sym is)).0 in let no = ap (λ q. q.pages) parts in cc)
act_tells work s heard (steps x) u view parts =
    let k : Took s view.0 = took x.came work s heard view.0 view.2 in
    let access : x.effect.access ≡ None = no_access x.probe x.effect.access (ap (λ q. q.shard) parts) in
    let bytes : x.bytes ≡ [] = view.4 ∙ k.bytes (ap (λ (q : Effect). q.access) (sym view.5) ∙ access) in
    let after : u.hart ≡ view.0.state.hart = ap (λ (q : HartState). q.hart) view.7 ∙ view.8.hart in
    let back : List Line = step_line x.came x.effect ∷ option_map_or (λ (k : ℕ). done s.hart.number k ∷ []) x.ends [] in (
      subst (λ rs. Tells s.hart.number s.hart.x u.hart.x (fixing_lines s.hart.number x.registers ++ (touched_lines s.hart.number rs ++ back))) (sym bytes)
          (subst (λ fs. Tells s.hart.number s.hart.x u.hart.x (fixing_lines s.hart.number fs ++ back)) (sym view.3)
          (tells s.hart.number s.hart.x u.hart.x [] view.0.registers back tt (tail_quiet s.hart.number x.came x.effect x.ends (ap (λ (q : Effect). q.hart) view.5 ∙ k.hart))
          k.late k.once (λ r none. k.behind r (ap (λ (q : Hart). q.x r) (sym after) ∙ none)))),
      ap (λ (q : Hart). q.number) after ∙ k.number,
    )
act_tells work s heard (gives_up k preamble wanted) u view parts = absurd (let no = ap (λ q. q.shard) parts in cc)

event_tells : (work : Work) (s : HartState) (e : Event) → acts work s e → e.parts ≡ no_parts → Tells s.hart.number s.hart.x (acted work s e).hart.x e.lines × ((acted work s e).hart.number ≡ s.hart.number)
event_tells work s e does parts =
    let o = did work s e does in
    let m = act_tells work s (heard_of e) o.t.act o.t.state (turned_view work s (heard_of e) o.t o.turns) (ap (λ (q : Event). q.parts) (sym o.event) ∙ parts) in (
      subst (λ (q : HartState). Tells s.hart.number s.hart.x q.hart.x e.lines) (sym o.state) (subst (λ (q : Event). Tells s.hart.number s.hart.x o.t.state.hart.x q.lines) (sym o.event) m.0),
      ap (λ (q : HartState). q.hart.number) o.state ∙ m.1,
    )

-- ---- a run

-- The events' lines are the hart's own, and each value that they give a register is the one that it starts with.
pub record AllTold (h : ℕ) (x : ℕ → Option ℕ) (events : List Event) : Type 0 where
  pub own : AllByRecursion (λ (e : Event). AllByRecursion (IsOwn h (starting (all_lines events) h)) e.lines) events
  pub late : (r v : ℕ) → starting (all_lines events) h r ≡ Some v → x r ≡ None

joined : (h : ℕ) (x y : ℕ → Option ℕ) (e : Event) (es : List Event) → Tells h x y e.lines → AllTold h y es → AllTold h x (e ∷ es)
joined h x y e es t more = record {
  own = (owns_more h (starting e.lines h) (starting (e.lines ++ all_lines es) h) here e.lines t.own, events_more h (starting (all_lines es) h) (starting (e.lines ++ all_lines es) h) there es more.own);
  late = λ r v is. of r v (starting e.lines h r) refl (sym (starting_append e.lines (all_lines es) h r) ∙ is);
}
  where
    here : (r v : ℕ) → starting e.lines h r ≡ Some v → starting (e.lines ++ all_lines es) h r ≡ Some v
    here r v is = starting_append e.lines (all_lines es) h r ∙ ap (λ m. option_or m (starting (all_lines es) h r)) is

    there : (r v : ℕ) → starting (all_lines es) h r ≡ Some v → starting (e.lines ++ all_lines es) h r ≡ Some v
    there r v is = starting_append e.lines (all_lines es) h r ∙ ap (λ m. option_or m (starting (all_lines es) h r)) (t.kept r (more.late r v is)).1 ∙ is

    of : (r v : ℕ) (m : Option ℕ) → m ≡ starting e.lines h r → option_or m (starting (all_lines es) h r) ≡ Some v → x r ≡ None
    of r v None at is = (t.kept r (more.late r v is)).0
    of r v (Some w) at is = t.late r w (sym at)

told_from : (work : Work) (h : ℕ) (events : List Event) (s end : HartState) → s.hart.number ≡ h → AllByRecursion (λ (e : Event). e.parts ≡ no_parts) events
    → Runs (acts work) (acted work) s events end → AllTold h s.hart.x events
told_from work h [] s end number parts run = record { own = tt; late = λ r v is. absurd cc }
told_from work h (e ∷ es) s end number parts run =
    let m = event_tells work s e run.0 parts.0 in
    joined h s.hart.x (acted work s e).hart.x e es (subst (λ n. Tells n s.hart.x (acted work s e).hart.x e.lines) number m.0)
    (told_from work h es (acted work s e) end (m.1 ∙ number) parts.1 run.1)

-- The lines of a hart's run whose events hold no part are the hart's own.
pub told_of_run : (work : Work) (seed h : ℕ) (events : List Event) (end : HartState) → AllByRecursion (λ (e : Event). e.parts ≡ no_parts) events → RunsTo work seed h events end
    → AllTold h (start work seed h).hart.x events
told_of_run work seed h events end parts run = told_from work h events (start work seed h) end refl parts run
