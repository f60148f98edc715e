-- Steps that leave memory alone.
use Rattle.std.proofs.Common.{ℕ, zero, suc, ◌+◌, ◌-◌, ◌&&◌, Bool, leb, ltb, get_or, rules, ◌%◌, ◌^◌, ◌<◌, ◌≡◌, true, false, cond, eqb, Option, Some, None, refl, sym, ap, subst, ◌∙◌, arith}
use Rattle.std.specs.Int.{w32, to_le_bytes}
use Rattle.std.specs.Prelude.{IfSome, IsSome, IsTrue}
use Rattle.std.proofs.lemmas.Bool.{ne_eqb}
use Rattle.std.proofs.lemmas.Bool.Decides.{nat_tests}
use Rattle.std.proofs.lemmas.Option.{same_Some}
use Rattle.rv_fields.specs.declared.mode.Mode.TheVariants.{M}
use Rattle.rv_fields.specs.Decode.{Decoded, decoded, rs1_read}
use Rattle.rv_fields.specs.Effect.{Effect}
use Rattle.rv_fields.specs.Hart.{Hart, Registers}
use Rattle.rv_fields.specs.Laws.{TellsMore, with_registers}
use Rattle.rv_fields.specs.Memory.{Seen, told, in_ram}
use Rattle.rv_fields.specs.Step.{Outcome, Stepped, raises, rd_written, retires, step, stepped_by, trap_taken, with_write, write_of}
use Rattle.rv_fields.proofs.Course.{Course, unreached, lacks_word, undecoded, executes, course}
use Rattle.rv_fields.proofs.Told.{told_word}
use Rattle.hart_task.specs.Bus.{word_seen}
use Rattle.rv_step.specs.Frames.{HasRoomForAccess, HasRoomForStep}
use Rattle.hart_task.specs.Plain.{IsHandledTrap, IsPlainFor, StepsPlainly, plain_effect}
use Rattle.hart_task.proofs.Bare.{IsBare, TellsSources, bare, bare_handled, bare_quiet, bare_step}

-- ---- a word alone in memory is told

pub is_true : (b : Bool) → IsTrue b → b ≡ true
is_true true h = refl
is_true false h = absurd (search rules)

abbrev pub TellsOwn : ℕ → ℕ → Type 0
TellsOwn at word = told (word_seen at word).byte at 4 ≡ Some (Some word)

pub own_word_told : (at word : ℕ) → IsTrue (in_ram at 4) → word < 2 ^ 32 → TellsOwn at word
own_word_told at word in_it small = told_word (word_seen at word).byte at word (is_true (in_ram at 4) in_it) small (λ j below.
    let inside : leb at (at + j) && ltb (at + j) (at + 4) ≡ true = grind (arith, nat_tests) in
    let index : at + j - at ≡ j = omega arith in
    ap (λ b. cond b (Some (get_or (to_le_bytes w32 word) (at + j - at) 0)) None) inside ∙ ap (λ i. Some (get_or (to_le_bytes w32 word) i 0)) index)

-- x0 is never written
pub zero_kept : (x : Registers) (seen : Seen) (hart : Hart) (s : Stepped) → step seen hart ≡ Some s → with_write x s.effect.rd 0 ≡ x 0
unfolding trap_taken
zero_kept x seen hart s does = by s (course seen hart s does)
  where
    other : (rd v : ℕ) → with_write x (write_of rd v) 0 ≡ x 0
    other zero v = refl
    other (suc rd) v = ap (λ b. cond b (Some v) (x 0)) (ne_eqb 0 (suc rd) (λ same. omega arith))

    written : (rd : ℕ) (value : Option ℕ) → with_write x (rd_written rd value) 0 ≡ x 0
    written rd None = refl
    written rd (Some v) = other rd v

    left : (k : Hart) (pa word rd : ℕ) (o : Outcome) → with_write x (stepped_by k pa word rd o).effect.rd 0 ≡ x 0
    left k pa word rd (retires done) = written rd done.value
    left k pa word rd (raises cause tval trail) = refl

    by : (q : Stepped) → Course seen hart q → with_write x q.effect.rd 0 ≡ x 0
    by q (unreached trail cause fetched) = refl
    by q (lacks_word trail pa fetched has) = refl
    by q (undecoded trail pa word fetched has is) = refl
    by q (executes trail pa word k a b o fetched has is rs1 rs2 gives) = left hart pa word k.ops.rd o

-- ---- registers that are told, and the same before and after a write

pub more_written : (x y : Registers) (w : Option (ℕ × ℕ)) → TellsMore x y → TellsMore (with_write x w) (with_write y w)
more_written x y None more = more
more_written x y (Some w) more = λ r v. at (eqb r w.0) r v
  where
    at : (b : Bool) (r v : ℕ) → cond b (Some w.1) (x r) ≡ Some v → cond b (Some w.1) (y r) ≡ Some v
    at true r v e = e
    at false r v e = more r v e

-- ---- a plain step is told, takes no room, and is what its line tells

pub plain_told : (hart : Hart) (word : ℕ) → StepsPlainly hart word → IsSome (step (word_seen hart.pc word) hart)
plain_told hart word p = subst IsSome (sym p.steps) refl

pub plain_room : (room : ℕ → Type 0) (hart : Hart) (word : ℕ) → StepsPlainly hart word → HasRoomForStep room (step (word_seen hart.pc word) hart)
plain_room room hart word p =
    subst (HasRoomForStep room) (sym p.steps) (subst (HasRoomForAccess room) (sym (ap (λ (e : Effect). e.access) p.plain)) tt)

pub plain_is : (hart : Hart) (word : ℕ) (s : Stepped) → StepsPlainly hart word → step (word_seen hart.pc word) hart ≡ Some s
    → s.effect ≡ plain_effect hart word s.effect.rd s.effect.trap
plain_is hart word s p does =
    subst (λ (q : Stepped). q.effect ≡ plain_effect hart word q.effect.rd q.effect.trap) (same_Some p.stepped s (sym p.steps ∙ does)) p.plain

pub trap_is : (hart : Hart) (word : ℕ) (s : Stepped) → StepsPlainly hart word → step (word_seen hart.pc word) hart ≡ Some s → IfSome s.effect.trap IsHandledTrap
trap_is hart word s p does = subst (λ (q : Stepped). IfSome q.effect.trap IsHandledTrap) (same_Some p.stepped s (sym p.steps ∙ does)) p.trap

-- ---- whatever stands in the registers

pub found_in : {A : Type 0} (m : Option A) → IsSome m → (a : A) × (m ≡ Some a)
found_in None some = absurd (search rules)
found_in (Some a) some = (a, refl)

-- a hart in mode M, whose pc is at a word of RAM
pub record IsReady (hart : Hart) : Type 0 where
  pub mode : hart.mode ≡ M
  pub in_it : IsTrue (in_ram hart.pc 4)
  pub aligned : hart.pc % 4 ≡ 0
  pub small : hart.pc < 2 ^ 64

-- registers that all have values tell what a word reads
pub sources_of_all : (x : Registers) (m : Option Decoded) → ((r : ℕ) → IsSome (x r)) → (a : ℕ) × (b : ℕ) × TellsSources x m a b
sources_of_all x None all = (0, 0, tt)
sources_of_all x (Some d) all =
    let a = found_in (x (rs1_read d)) (all (rs1_read d)) in
    let b = found_in (x d.ops.rs2) (all d.ops.rs2) in
    (a.0, b.0, (a.1, b.1))

-- a word that accesses no memory, whatever stands in the registers
pub bare_plainly : (hart : Hart) (word : ℕ) (m : Option Decoded) → IsReady hart → word < 2 ^ 32 → decoded word ≡ m → IsBare m → IsPlainFor hart word
bare_plainly hart word m ready small row alone x all =
    let sources = sources_of_all x m all in
    record {
      stepped = bare_step (with_registers x hart) word m sources.0 sources.1;
      steps = bare (word_seen hart.pc word) (with_registers x hart) word m sources.0 sources.1 ready.mode (own_word_told hart.pc word ready.in_it small) row alone sources.2;
      plain = bare_quiet (with_registers x hart) word m sources.0 sources.1 alone;
      trap = bare_handled (with_registers x hart) word m sources.0 sources.1 ready.mode alone;
    }
