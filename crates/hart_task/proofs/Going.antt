-- A hart of the machine beside its state by the log, at one step.
use Rattle.std.proofs.Common.{ℕ, ◌+◌, ◌≡◌, Bool, true, false, cond, eqb, eqb-true, List, [], ◌∷◌, Option, Some, None, refl, sym, ap, subst, ◌∙◌, filter}
use Rattle.std.specs.Prelude.{option_map, is_none, is_some, ◌&&◌, ◌||◌, not}
use Rattle.std.specs.Option.{option_or, option_map_or}
use Rattle.rv_fields.specs.Decode.{Decoded, decoded}
use Rattle.rv_fields.specs.Effect.{Effect}
use Rattle.rv_fields.specs.Hart.{Hart, updated}
use Rattle.rv_fields.specs.Laws.{Below, DidSame, Extends, StepLeaves, names_open_in, opened}
use Rattle.rv_fields.specs.Memory.{Seen}
use Rattle.rv_fields.specs.Step.{Stepped, step, with_write}
use Rattle.rv_fields.specs.declared.access.Accessed.{Accessed}
use Rattle.rv_fields.proofs.Opened.{more_told_open, step_leaves}
use Rattle.rv_fields.proofs.Options.{found}
use Rattle.choice_tree.specs.Draws.{Draws, skipped}
use Rattle.region_plan.specs.Plan.{Work}
use Rattle.world_face.specs.Events.{Wanted}
use Rattle.hart_task.specs.Acts.{Fixing}
use Rattle.hart_task.specs.Heard.{Heard}
use Rattle.hart_task.specs.State.{HartState}
use Rattle.hart_task.specs.Stepping.{fixed_in, StepTaken, is_of_data, is_sc, keeps_rules, late_registers, named_by, page_told, probe_at, sc_translated, seen_of, stepped, stepped_word, taken_step, with_fixed, word_here}
use Rattle.hart_task.proofs.Held.{EntriesStand, WordsStand}

-- what is present, over what was at the start
abbrev pub laid : (ℕ → Option ℕ) → (ℕ → Option ℕ) → ℕ → Option ℕ
laid f g r = option_or (f r) (g r)

pub record Over (begin : Hart) (first : Seen) (s : HartState) (hart : Hart) : Type 0 where
  pub c : ℕ
  pub t : ℕ
  pub is : hart ≡ opened (laid s.hart.x begin.x) c t s.hart
  pub words : WordsStand first s.hart.number s.words
  pub entries : EntriesStand first s.entries

-- ---- registers that are fixed

abbrev pub EachFixed : (ℕ → ℕ → Type 0) → List Fixing → Type 0
EachFixed P [] = Unit {0}
EachFixed P (f ∷ fs) = P f.register f.value × EachFixed P fs

pub fixed_over : (x begin whole : ℕ → Option ℕ) (fs : List Fixing) → EachFixed (λ r v. whole r ≡ Some v) fs → ((r : ℕ) → laid x begin r ≡ whole r)
    → (r : ℕ) → laid (fixed_in x fs) begin r ≡ whole r
fixed_over x begin whole [] each lies = lies
fixed_over x begin whole (f ∷ fs) each lies = fixed_over (updated x f.register (Some f.value)) begin whole fs each.1 (λ r. of r (eqb r f.register) refl)
  where
    of : (r : ℕ) (t : Bool) → t ≡ eqb r f.register → option_or (cond t (Some f.value) (x r)) (begin r) ≡ whole r
    of r true e = sym (ap whole (eqb-true r f.register (sym e)) ∙ each.0)
    of r false e = lies r

-- each was untouched
pub each_late : (x : ℕ → Option ℕ) (draws : Draws) (rs : List ℕ) → EachFixed (λ r v. x r ≡ None) (late_registers draws (filter (λ r. is_none (x r)) rs))
each_late x draws [] = tt
each_late x draws (r ∷ rs) = of (x r) refl (each_late x draws rs) (each_late x (skipped draws 1) rs)
  where
    of : (m : Option ℕ) → m ≡ x r → EachFixed (λ r v. x r ≡ None) (late_registers draws (filter (λ r. is_none (x r)) rs))
        → EachFixed (λ r v. x r ≡ None) (late_registers (skipped draws 1) (filter (λ r. is_none (x r)) rs))
        → EachFixed (λ r v. x r ≡ None) (late_registers draws (cond (is_none m) (r ∷ filter (λ r. is_none (x r)) rs) (filter (λ r. is_none (x r)) rs)))
    of None e same next = (sym e, next)
    of (Some v) e same next = same

-- what stood at the start stands
pub fixed_now : (x begin : ℕ → Option ℕ) (fs : List Fixing) → EachFixed (λ r v. x r ≡ None) fs → EachFixed (λ r v. begin r ≡ Some v) fs → EachFixed (λ r v. laid x begin r ≡ Some v) fs
fixed_now x begin [] none has = tt
fixed_now x begin (f ∷ fs) none has = (ap (λ m. option_or m (begin f.register)) none.0 ∙ has.0, fixed_now x begin fs none.1 has.1)

-- what is fixed late leaves a register that has a value
pub value_kept : (x y : ℕ → Option ℕ) (fs : List Fixing) (r v : ℕ) → EachFixed (λ q w. x q ≡ None) fs → x r ≡ Some v → y r ≡ Some v → fixed_in y fs r ≡ Some v
value_kept x y [] r v late has is = is
value_kept x y (f ∷ fs) r v late has is = value_kept x (updated y f.register (Some f.value)) fs r v late.1 has (of (eqb r f.register) refl)
  where
    of : (t : Bool) → t ≡ eqb r f.register → cond t (Some f.value) (y r) ≡ Some v
    of true e = absurd (let no : Some v ≡ None = sym has ∙ ap x (eqb-true r f.register (sym e)) ∙ late.0 in cc)
    of false e = is

-- a register that has no value behind a write had none before
pub none_before : (x : ℕ → Option ℕ) (rd : Option (ℕ × ℕ)) (r : ℕ) → with_write x rd r ≡ None → x r ≡ None
none_before x None r none = none
none_before x (Some w) r none = of (eqb r w.0) none
  where
    of : (t : Bool) → cond t (Some w.1) (x r) ≡ None → x r ≡ None
    of true none = absurd cc
    of false none = none

-- ---- what a step was

pub record Was (work : Work) (s : HartState) (heard : Heard) (t : StepTaken) : Type 0 where
  pub after : Hart
  pub steps : step (seen_of work s heard) (record s.hart { x = fixed_in s.hart.x t.registers }) ≡ Some (record { effect = t.effect; hart = after })
  pub keeps : keeps_rules t.effect ≡ true
  pub late : EachFixed (λ r v. s.hart.x r ≡ None) t.registers
  pub probe : (p : ℕ × Bool) (a : Accessed) → t.probe ≡ Some p → t.effect.access ≡ Some a → p.0 ≡ a.pa
  pub hart : t.state.hart ≡ after
  pub words : t.state.words ≡ s.words
  pub entries : t.state.entries ≡ s.entries

probe_is : (s : HartState) (seen : Seen) (d : Option Decoded) (e : Effect) (b : Bool) (p : ℕ × Bool) (a : Accessed)
    → option_map (λ pa. (pa, b)) (probe_at s seen d e) ≡ Some p → e.access ≡ Some a → p.0 ≡ a.pa
probe_is s seen None e b p a is access = absurd cc
probe_is s seen (Some d) e b p a is access = of (is_some e.trap || not (is_sc d.ins)) e.access access is
  where
    of : (t : Bool) (m : Option Accessed) → m ≡ Some a → option_map (λ pa. (pa, b)) (cond t None (option_or (option_map (λ (a : Accessed). a.pa) m) (option_map_or page_told (sc_translated s seen d) None))) ≡ Some p → p.0 ≡ a.pa
    of true m at is = absurd cc
    of false None at is = absurd cc
    of false (Some c) at is = let same : c ≡ a = cc in let both : (c.pa, b) ≡ p = cc in ap (λ (q : ℕ × Bool). q.0) (sym both) ∙ ap (λ (q : Accessed). q.pa) same

was_word : (work : Work) (s : HartState) (heard : Heard) (wanted : Option Wanted) (d : Option Decoded) (registers : List Fixing) (t : StepTaken)
    → stepped_word work (record s { steps = s.steps + 1 }) heard wanted d registers ≡ Some t → EachFixed (λ r v. s.hart.x r ≡ None) registers → Was work s heard t
was_word work s heard wanted d registers t e late =
    let r = found (step (seen_of work s heard) (with_fixed (record s { steps = s.steps + 1 }) registers).hart) _ t e in
    of (keeps_rules r.0.effect) r.0 refl r.1 r.2
  where
    of : (b : Bool) (r : Stepped) → b ≡ keeps_rules r.effect → step (seen_of work s heard) (record s.hart { x = fixed_in s.hart.x registers }) ≡ Some r
        → cond b (Some (taken_step (record s { steps = s.steps + 1 }) (seen_of work s heard) heard wanted d registers r)) None ≡ Some t → Was work s heard t
    of true r keeps steps is =
        let same : taken_step (record s { steps = s.steps + 1 }) (seen_of work s heard) heard wanted d registers r ≡ t = cc in
        subst (Was work s heard) same (record { after = r.hart; steps = steps; keeps = sym keeps; late = late; probe = probe_is (with_fixed (record s { steps = s.steps + 1 }) registers) (seen_of work s heard) d r.effect _; hart = refl; words = refl; entries = refl })
    of false r keeps steps is = absurd cc

pub was : (work : Work) (s : HartState) (heard : Heard) (wanted : Option Wanted) (t : StepTaken) → stepped work s heard wanted ≡ Some t → Was work s heard t
was work s heard wanted t e =
    let word = found (word_here s (seen_of work s heard)) _ t e in
    was_word work s heard wanted (decoded word.0) _ t word.2 (each_late s.hart.x s.draws (named_by (decoded word.0)))

-- ---- the machine does the same

with_rd_laid : (f g : ℕ → Option ℕ) (rd : Option (ℕ × ℕ)) (r : ℕ) → with_write (laid f g) rd r ≡ laid (with_write f rd) g r
with_rd_laid f g None r = refl
with_rd_laid f g (Some w) r = of (eqb r w.0)
  where
    of : (t : Bool) → cond t (Some w.1) (option_or (f r) (g r)) ≡ option_or (cond t (Some w.1) (f r)) (g r)
    of true = refl
    of false = refl

laid_below : (f g whole : ℕ → Option ℕ) → ((r : ℕ) → laid f g r ≡ whole r) → (r : ℕ) → Below (f r) (whole r)
laid_below f g whole lies r v is = sym (lies r) ∙ ap (λ m. option_or m (g r)) is

pub record Goes (begin : Hart) (first now : Seen) (s : HartState) (t : StepTaken) (hart : Hart) : Type 0 where
  pub next : Hart
  pub steps : step now hart ≡ Some (record { effect = t.effect; hart = next })
  pub over : Over begin first t.state next
  pub effect_of : t.effect.hart ≡ s.hart.number
  pub number : t.state.hart.number ≡ s.hart.number

kept_open : (e : Effect) → keeps_rules e ≡ true → names_open_in e.word ≡ false
kept_open e k = of (names_open_in e.word) k
  where
    of : (b : Bool) → (not b && is_of_data e.access) ≡ true → b ≡ false
    of true k = absurd cc
    of false k = refl

pub kept_data : (e : Effect) → keeps_rules e ≡ true → is_of_data e.access ≡ true
kept_data e k = of (names_open_in e.word) k
  where
    of : (b : Bool) → (not b && is_of_data e.access) ≡ true → is_of_data e.access ≡ true
    of true k = absurd cc
    of false k = k

pub goes : (work : Work) (begin : Hart) (first now : Seen) (s : HartState) (heard : Heard) (t : StepTaken) (hart : Hart)
    → Over begin first s hart → Extends (seen_of work s heard) now → Was work s heard t → EachFixed (λ r v. begin.x r ≡ Some v) t.registers → Goes begin first now s t hart
goes work begin first now s heard t hart over more did has =
    let whole : ℕ → Option ℕ = laid s.hart.x begin.x in
    let part : ℕ → Option ℕ = fixed_in s.hart.x t.registers in
    let lies : (r : ℕ) → laid part begin.x r ≡ whole r = fixed_over s.hart.x begin.x whole t.registers (fixed_now s.hart.x begin.x t.registers did.late has) (λ r. refl) in
    let done : Stepped = record { effect = t.effect; hart = did.after } in
    let same : DidSame whole done (step now (opened whole over.c over.t s.hart)) =
    more_told_open (seen_of work s heard) now more whole over.c over.t (record s.hart { x = part }) (laid_below part begin.x whole lies) done (kept_open t.effect did.keeps) did.steps in
    let left : StepLeaves (record s.hart { x = part }) done = step_leaves (seen_of work s heard) (record s.hart { x = part }) done did.steps in
    let registers : (r : ℕ) → with_write whole t.effect.rd r ≡ laid did.after.x begin.x r =
    λ r. ap (λ f. with_write f t.effect.rd r) (λ i. λ q. sym (lies q) i) ∙ with_rd_laid part begin.x t.effect.rd r ∙ ap (λ f. laid f begin.x r) (sym left.registers) in
    record {
      next = opened (with_write whole t.effect.rd) same.mcause same.mtval did.after;
      steps = ap (step now) over.is ∙ same.same;
      over = record {
        c = same.mcause;
        t = same.mtval;
        is = ap (λ x. opened x same.mcause same.mtval did.after) (λ i. λ r. registers r i) ∙ ap (λ (k : Hart). opened (laid k.x begin.x) same.mcause same.mtval k) (sym did.hart);
        words = subst (λ h. WordsStand first h t.state.words) (sym (left.number) ∙ ap (λ (k : Hart). k.number) (sym did.hart)) (subst (WordsStand first s.hart.number) (sym did.words) over.words);
        entries = subst (EntriesStand first) (sym did.entries) over.entries;
      };
      effect_of = left.effect_hart;
      number = ap (λ (k : Hart). k.number) did.hart ∙ left.number;
    }
