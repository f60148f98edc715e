-- A word that is made and stepped: what the hart's machine does then.
use Rattle.std.proofs.Common.{ℕ, zero, suc, ◌+◌, ◌-◌, ◌*◌, ◌/◌, ◌%◌, ◌^◌, ◌<◌, ◌≤◌, ◌≡◌, Bool, true, false, cond, eqb, ltb, eqb-true, eq-eqb, List, [], ◌∷◌, length, get_or, Option, Some, None, refl, sym, ap, subst, ◌∙◌, arith, filter}
use Rattle.std.specs.Prelude.{is_none, is_some, not, option_map, ◌&&◌, ◌||◌, IsSome}
use Rattle.std.specs.Int.{w32, to_le_bytes}
use Rattle.std.specs.List.{AllByRecursion}
use Rattle.std.specs.Option.{option_map_or}
use Rattle.std.proofs.lemmas.Bool.Decides.{nat_tests}
use Rattle.rv_fields.specs.Attempt.{◌>>=◌}
use Rattle.rv_fields.specs.declared.access.AccessKind.{AccessKind}
use Rattle.rv_fields.specs.declared.mode.Mode.TheVariants.{M}
use Rattle.rv_fields.specs.Class.{access_in, class_of}
use Rattle.rv_fields.specs.Decode.{Decoded, decoded, rs1_read, sources}
use Rattle.rv_fields.specs.Effect.{Effect}
use Rattle.rv_fields.specs.Hart.{Hart, Registers, updated}
use Rattle.rv_fields.specs.Laws.{TellsMore, names_open_at, with_registers}
use Rattle.rv_fields.specs.Memory.{Seen, told, in_ram}
use Rattle.rv_fields.specs.Step.{Stepped, step}
use Rattle.rv_fields.proofs.Told.{told_word}
use Rattle.rv_fields.proofs.Updated.{updated_at}
use Rattle.choice_tree.specs.Draws.{Draws, next_word, skipped}
use Rattle.region_plan.specs.Plan.{Work, no_hart, plan_of}
use Rattle.boot_words.specs.Layout.{code_address, code_start, data_start, window_at, window_by, window_words}
use Rattle.hart_task.specs.Acts.{Fixing}
use Rattle.hart_task.specs.Heard.{Heard}
use Rattle.hart_task.specs.State.{HartState, index_of}
use Rattle.hart_task.specs.Stepping.{StepTaken, byte_count, byte_of, bytes_fixed, fixed_in, is_conditional, is_sc, keeps_rules, late_registers, lies_in, named_by, probe_at, runs_of, seen_of, stepped, stepped_word, taken_step, with_fixed, word_here}
use Rattle.hart_task.specs.Turn.{made_at, made_step, with_word}
use Rattle.hart_task.proofs.Bare.{IsBare, IsQuietEffect, TellsSources, bare, bare_quiet, bare_step, fetched_bare}
use Rattle.hart_task.proofs.Fixing.{late_in}
use Rattle.hart_task.proofs.Plainly.{found_in}

-- ---- what is fixed has a value

pub some_kept : (x : Registers) (fs : List Fixing) (r : ℕ) → IsSome (x r) → IsSome (fixed_in x fs r)
some_kept x [] r some = some
some_kept x (f ∷ fs) r some = some_kept (updated x f.register (Some f.value)) fs r (of (eqb r f.register))
  where
    of : (t : Bool) → IsSome (cond t (Some f.value) (x r))
    of true = refl
    of false = some

-- each of these registers is among those
abbrev Holds : (ℕ → Type 0) → List ℕ → Type 0
Holds P rs = AllByRecursion P rs

all_some : (x y : Registers) (draws : Draws) (rs : List ℕ) → ((r : ℕ) → IsSome (x r) → IsSome (y r))
    → Holds (λ r. IsSome (fixed_in y (late_registers draws (filter (λ r. is_none (x r)) rs)) r)) rs
all_some x y draws [] more = tt
all_some x y draws (q ∷ rs) more = of (x q) refl (all_some x y draws rs more) (all_some x (updated y q (Some (next_word draws))) (skipped draws 1) rs (more_after (next_word draws)))
  where
    after : ℕ → Registers
    after v = updated y q (Some v)

    more_after : (v r : ℕ) → IsSome (x r) → IsSome (after v r)
    more_after v r some = by (eqb r q)
      where
        by : (t : Bool) → IsSome (cond t (Some v) (y r))
        by true = refl
        by false = more r some

    here : (v : ℕ) → IsSome (after v q)
    here v = by (eqb q q) (eq-eqb q q refl)
      where
        by : (t : Bool) → t ≡ true → IsSome (cond t (Some v) (y q))
        by true e = refl
        by false e = absurd cc

    of : (m : Option ℕ) → m ≡ x q
        → Holds (λ r. IsSome (fixed_in y (late_registers draws (filter (λ r. is_none (x r)) rs)) r)) rs
        → Holds (λ r. IsSome (fixed_in (after (next_word draws)) (late_registers (skipped draws 1) (filter (λ r. is_none (x r)) rs)) r)) rs
        → Holds (λ r. IsSome (fixed_in y (late_registers draws (cond (is_none m) (q ∷ filter (λ r. is_none (x r)) rs) (filter (λ r. is_none (x r)) rs))) r)) (q ∷ rs)
    of None at same next = (some_kept (after (next_word draws)) (late_registers (skipped draws 1) (filter (λ r. is_none (x r)) rs)) q (here (next_word draws)), next)
    of (Some v) at same next = (some_kept y (late_registers draws (filter (λ r. is_none (x r)) rs)) q (more q (subst IsSome at refl)), same)

-- what the full registers tell of the sources, those with late values tell too
pub tells_fixed : (x y : Registers) (fs : List Fixing) → TellsMore x y → TellsMore (fixed_in x fs) (fixed_in y fs)
tells_fixed x y [] more = more
tells_fixed x y (f ∷ fs) more = tells_fixed (updated x f.register (Some f.value)) (updated y f.register (Some f.value)) fs (λ r v. of (eqb r f.register) r v)
  where
    of : (t : Bool) (r v : ℕ) → cond t (Some f.value) (x r) ≡ Some v → cond t (Some f.value) (y r) ≡ Some v
    of true r v e = e
    of false r v e = more r v e

-- the registers that a word reads have values, when those that have none are fixed
pub record HasSources (x : Registers) (m : Option Decoded) : Type 0 where
  pub a : ℕ
  pub b : ℕ
  pub told : TellsSources x m a b

pub sources_told : (x : Registers) (draws : Draws) (m : Option Decoded) → HasSources (fixed_in x (late_in x draws (named_by m))) m
sources_told x draws None = record { a = 0; b = 0; told = tt }
sources_told x draws (Some d) = of (eqb (rs1_read d) d.ops.rs2) refl (all_some x x draws (sources d) (λ r some. some))
  where
    after : Registers
    after = fixed_in x (late_in x draws (sources d))

    of : (t : Bool) → t ≡ eqb (rs1_read d) d.ops.rs2 → Holds (λ r. IsSome (after r)) (cond t (rs1_read d ∷ []) (rs1_read d ∷ d.ops.rs2 ∷ [])) → HasSources after (Some d)
    of true e some =
        let a = found_in (after (rs1_read d)) some.0 in
        record { a = a.0; b = a.0; told = (a.1, ap after (sym (eqb-true (rs1_read d) d.ops.rs2 (sym e))) ∙ a.1) }
    of false e some =
        let a = found_in (after (rs1_read d)) some.0 in
        let b = found_in (after d.ops.rs2) some.1.0 in
        record { a = a.0; b = b.0; told = (a.1, b.1) }

-- ---- the word at pc

-- a window's word is told at its address
window_byte : (work : Work) (s : HartState) (heard : Heard) (index j word : ℕ) → 1024 ≤ window_words work s.hart.number → s.hart.number < 16 → index < 1024 → j < 4
    → s.words index ≡ Some word → (seen_of work s heard).byte (code_start s.hart.number + 4 * index + j) ≡ Some (word / 256 ^ j % 256)
window_byte work s heard index j word window few short small is =
    let h : ℕ = s.hart.number in
    let a : ℕ = code_start h + 4 * index + j in
    let low : ltb a data_start ≡ true = grind (arith, nat_tests) in
    let inside : lies_in a (code_start h) (4 * window_words work h) ≡ true = grind (arith, nat_tests) in
    let at : (a - code_start h) / 4 ≡ index = omega (arith, small) in
    let rest : a - code_start h - index * 4 ≡ j = omega (arith, small) in
    rw low (rw inside (ap (λ q. option_map (λ w. byte_of w (q * 4) (a - code_start h)) (s.words q)) at
    ∙ ap (option_map (λ w. byte_of w (index * 4) (a - code_start h))) is ∙ ap (λ q. Some (word / 256 ^ q % 256)) rest))

pub byte_of_word : (word j : ℕ) → j < 4 → word < 2 ^ 32 → get_or (to_le_bytes w32 word) j 0 ≡ word / 256 ^ j % 256
byte_of_word word zero small fits = omega arith
byte_of_word word (suc zero) small fits = omega arith
byte_of_word word (suc (suc zero)) small fits = omega arith
byte_of_word word (suc (suc (suc zero))) small fits = omega (arith, fits)
byte_of_word word (suc (suc (suc (suc j)))) small fits = absurd (omega (arith, small))

-- where a hart stands at a word that was made, in the first page of its code
pub record StandsAt (work : Work) (s : HartState) (index word : ℕ) : Type 0 where
  pub window : 1024 ≤ window_words work s.hart.number
  pub few : s.hart.number < 16
  pub short : index < 1024
  pub fits : word < 2 ^ 32
  pub made : s.words index ≡ Some word
  pub pc : s.hart.pc ≡ code_address s.hart.number index
  pub mode : s.hart.mode ≡ M

in_it : (work : Work) (s : HartState) (index word : ℕ) → StandsAt work s index word → in_ram s.hart.pc 4 ≡ true
in_it work s index word at =
    let few = at.few in
    let short = at.short in
    let pc = at.pc in
    grind (arith, nat_tests)

told_here : (work : Work) (s : HartState) (heard : Heard) (index word : ℕ) → StandsAt work s index word → told (seen_of work s heard).byte s.hart.pc 4 ≡ Some (Some word)
told_here work s heard index word at = told_word (seen_of work s heard).byte s.hart.pc word (in_it work s index word at) at.fits (λ j small.
    ap (λ p. (seen_of work s heard).byte (p + j)) at.pc ∙ window_byte work s heard index j word at.window at.few at.short small at.made ∙ ap Some (sym (byte_of_word word j small at.fits)))

-- ---- the step

-- A word of 32 bits that accesses no memory, and names neither mcause nor mtval.
pub record IsQuietWord (word : ℕ) (m : Option Decoded) : Type 0 where
  pub small : word < 2 ^ 32
  pub row : decoded word ≡ m
  pub bare : IsBare m
  pub closed : names_open_at m ≡ false

-- what is fixed when the hart steps the word
abbrev pub late_by : HartState → Option Decoded → List Fixing
late_by s m = late_in s.hart.x s.draws (named_by m)

-- the hart then
abbrev pub fixed_hart : HartState → Option Decoded → Hart
fixed_hart s m = with_registers (fixed_in s.hart.x (late_by s m)) s.hart

-- the step that is taken
abbrev pub word_taken : HartState → Option Decoded → Stepped → StepTaken
word_taken s m r = record {
  registers = late_by s m;
  bytes = [];
  effect = r.effect;
  probe = None;
  state = record s { hart = r.hart; draws = skipped s.draws (length (late_by s m) + 0); steps = s.steps + 1 };
}

-- what the instructions of a class do to memory, where they access none
bare_sc : (d : Decoded) → access_in (class_of d.ins) ≡ None → is_sc d.ins ≡ false
bare_sc d alone = ap (λ (m : Option (AccessKind × ℕ)). option_map_or is_conditional (option_map (λ access. access.0) m) false) alone

where_true : {A : Type 0} (t : Bool) (x y : A) → t ≡ true → cond t x y ≡ x
where_true true x y is = refl
where_true false x y is = absurd cc

either : (t u : Bool) → u ≡ true → (t || u) ≡ true
either true u is = refl
either false u is = is

no_probe : (s : HartState) (seen : Seen) (m : Option Decoded) (e : Effect) → IsBare m → probe_at s seen m e ≡ None
no_probe s seen None e alone = refl
no_probe s seen (Some d) e alone = where_true (is_some e.trap || not (is_sc d.ins)) None _ (either (is_some e.trap) (not (is_sc d.ins)) (ap not (bare_sc d alone)))

keeps_all : (hart : Hart) (word : ℕ) (m : Option Decoded) (e : Effect) → IsQuietWord word m → IsQuietEffect hart word e → keeps_rules e ≡ true
keeps_all hart word m e quiet is = ap keeps_rules is ∙ ap (λ k. not (names_open_at k) && true) quiet.row ∙ ap (λ t. not t && true) quiet.closed

taken_is : (work : Work) (s : HartState) (heard : Heard) (word : ℕ) (m : Option Decoded) (r : Stepped) → IsBare m → IsQuietEffect (fixed_hart s m) word r.effect
    → taken_step (record s { steps = s.steps + 1 }) (seen_of work s heard) heard None m (late_by s m) r ≡ word_taken s m r
taken_is work s heard word m r alone is = λ i. record {
  registers = late_by s m;
  bytes = bytes_fixed (runs_of heard (access i)) (access i) None (skipped s.draws (length (late_by s m)));
  effect = r.effect;
  probe = option_map (λ pa. (pa, option_map_or (λ (p : ℕ × Bool). p.1) heard.probe false)) (probe i);
  state = record s { hart = r.hart; draws = skipped s.draws (length (late_by s m) + byte_count (runs_of heard (access i))); steps = s.steps + 1 };
}
  where
    access : r.effect.access ≡ None
    access = ap (λ (e : Effect). e.access) is

    probe : probe_at (with_fixed (record s { steps = s.steps + 1 }) (late_by s m)) (seen_of work s heard) m r.effect ≡ None
    probe = no_probe (with_fixed (record s { steps = s.steps + 1 }) (late_by s m)) (seen_of work s heard) m r.effect alone

-- A word that stands at pc is stepped.
pub stepped_is : (work : Work) (s : HartState) (heard : Heard) (word : ℕ) (m : Option Decoded) (a b : ℕ) → s.hart.mode ≡ M
    → told (seen_of work s heard).byte s.hart.pc 4 ≡ Some (Some word) → IsQuietWord word m → TellsSources (fixed_in s.hart.x (late_by s m)) m a b
    → stepped work s heard None ≡ Some (word_taken s m (bare_step (fixed_hart s m) word m a b))
stepped_is work s heard word m a b is_m tells quiet sources =
    ap (λ (found : Option ℕ). found >>= by_word) here
    ∙ ap (λ k. stepped_word work s1 heard None k (late_by s k)) quiet.row
    ∙ ap (λ (did : Option Stepped). did >>= by_step) did
    ∙ ap (λ t. cond t (Some (taken_step s1 seen heard None m (late_by s m) r)) None) (keeps_all (fixed_hart s m) word m r.effect quiet effect)
    ∙ ap Some (taken_is work s heard word m r quiet.bare effect)
  where
    seen : Seen
    seen = seen_of work s heard

    s1 : HartState
    s1 = record s { steps = s.steps + 1 }

    r : Stepped
    r = bare_step (fixed_hart s m) word m a b

    by_word : ℕ → Option StepTaken
    by_word w = stepped_word work s1 heard None (decoded w) (late_by s (decoded w))

    by_step : Stepped → Option StepTaken
    by_step r = cond (keeps_rules r.effect) (Some (taken_step s1 seen heard None m (late_by s m) r)) None

    here : word_here s seen ≡ Some word
    here = rw (fetched_bare seen s.hart is_m) (rw tells refl)

    did : step seen (fixed_hart s m) ≡ Some r
    did = bare seen (fixed_hart s m) word m a b is_m tells quiet.row quiet.bare sources

    effect : IsQuietEffect (fixed_hart s m) word r.effect
    effect = bare_quiet (fixed_hart s m) word m a b quiet.bare

-- ---- the word that is made

plan_window : (work : Work) (h : ℕ) → plan_of work h ≡ record no_hart { code_pages = (plan_of work h).code_pages; template = (plan_of work h).template }
    → window_at work h ≡ code_start h
plan_window work h plain = ap (λ p. window_by p h) plain

-- A hart at the end of what it has made, in the first page of its window: its next word has the index of their number.
pub record MakesAt (work : Work) (s : HartState) (index : ℕ) : Type 0 where
  pub plain : plan_of work s.hart.number ≡ record no_hart { code_pages = (plan_of work s.hart.number).code_pages; template = (plan_of work s.hart.number).template }
  pub some_pages : 1 ≤ (plan_of work s.hart.number).code_pages
  pub few : s.hart.number < 16
  pub short : index < 1024
  pub free : s.words index ≡ None
  pub pc : s.hart.pc ≡ code_address s.hart.number index
  pub mode : s.hart.mode ≡ M

-- the index of the word at pc, in a window that begins where its hart's code does
pub index_there : (work : Work) (s : HartState) (index : ℕ) → window_at work s.hart.number ≡ code_start s.hart.number → s.hart.pc ≡ code_address s.hart.number index → index_of work s ≡ index
index_there work s index window pc =
    let place : (code_address s.hart.number index - code_start s.hart.number) / 4 ≡ index = omega arith in
    ap (λ w. (s.hart.pc - w) / 4) window ∙ ap (λ p. (p - code_start s.hart.number) / 4) pc ∙ place

pub index_is : (work : Work) (s : HartState) (index : ℕ) → MakesAt work s index → index_of work s ≡ index
index_is work s index at = index_there work s index (plan_window work s.hart.number at.plain) at.pc

stands_at : (work : Work) (s : HartState) (index word : ℕ) → MakesAt work s index → word < 2 ^ 32 → StandsAt work (with_word work s word) index word
stands_at work s index word at fits = record {
  window = let some = at.some_pages in omega (arith, some);
  few = at.few;
  short = at.short;
  fits = fits;
  made = ap (λ i. updated s.words i (Some word) index) (index_is work s index at) ∙ updated_at s.words index (Some word);
  pc = at.pc;
  mode = at.mode;
}

-- The hart makes the word and steps it.
pub made_is : (work : Work) (s : HartState) (heard : Heard) (index word : ℕ) (m : Option Decoded) (a b : ℕ) → MakesAt work s index → IsQuietWord word m
    → TellsSources (fixed_in s.hart.x (late_by s m)) m a b
    → made_step work s word heard None ≡ Some (word_taken (with_word work s word) m (bare_step (fixed_hart s m) word m a b))
made_is work s heard index word m a b at quiet sources =
    ap (λ (taken : Option StepTaken). taken >>= if_there) (stepped_is work s1 heard word m a b at.mode (told_here work s1 heard index word stands) quiet sources)
    ∙ ap (λ t. cond t (Some (word_taken s1 m r)) None) place
  where
    s1 : HartState
    s1 = with_word work s word

    r : Stepped
    r = bare_step (fixed_hart s m) word m a b

    if_there : StepTaken → Option StepTaken
    if_there t = cond (is_none (s.words (index_of work s)) && made_at work s word t.effect) (Some t) None

    stands : StandsAt work s1 index word
    stands = stands_at work s index word at quiet.small

    there : made_at work s word r.effect ≡ (eqb (code_start s.hart.number + 4 * index_of work s) s.hart.pc && eqb word word)
    there = ap (made_at work s word) (bare_quiet (fixed_hart s m) word m a b quiet.bare)

    place : (is_none (s.words (index_of work s)) && made_at work s word r.effect) ≡ true
    place = ap (λ t. is_none (s.words (index_of work s)) && t) there
        ∙ ap (λ i. is_none (s.words i) && (eqb (code_start s.hart.number + 4 * i) s.hart.pc && eqb word word)) (index_is work s index at)
        ∙ rw at.free (rw (eq-eqb (code_address s.hart.number index) s.hart.pc (sym at.pc)) (eq-eqb word word refl))
