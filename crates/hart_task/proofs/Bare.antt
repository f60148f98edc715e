-- The step of a word that accesses no memory, by a hart in mode M.
use Rattle.std.proofs.Common.{ℕ, ◌+◌, ◌%◌, ◌/◌, ◌*◌, ◌^◌, ◌<◌, ◌≡◌, Bool, true, false, cond, eqb, eq-eqb, [], Option, Some, None, refl, sym, ap, subst, ◌∙◌, arith, lit<}
use Rattle.std.specs.Prelude.{◌≢◌, IfSome, pos, unwrap_or}
use Rattle.rv_fields.specs.declared.class.Class.{Class}
use Rattle.rv_fields.specs.declared.class.Class.TheVariants.{Computes, Branches, Jumps, JumpsByRegister, Accesses, ChangesCsr, Fences, FencesTranslation, CallsEnvironment, Breaks, ReturnsFromM, ReturnsFromS}
use Rattle.rv_fields.specs.declared.class.CsrChange.{CsrChange}
use Rattle.rv_fields.specs.declared.csr.Csr.{Csr}
use Rattle.rv_fields.specs.declared.mode.Mode.{Mode}
use Rattle.rv_fields.specs.declared.mode.Mode.TheVariants.{U, S, M}
use Rattle.rv_fields.specs.declared.row_table.Ins.TheVariants.{Jal}
use Rattle.rv_fields.specs.declared.row_table.Ops.{Ops}
use Rattle.rv_fields.specs.Class.{access_in, class_of}
use Rattle.rv_fields.specs.CsrFile.{CsrFile, may_read, may_write, reading, written}
use Rattle.rv_fields.specs.Decode.{Decoded, decoded, ins_at, rs1_read}
use Rattle.rv_fields.specs.Effect.{Effect}
use Rattle.rv_fields.specs.Hart.{Hart, Registers}
use Rattle.rv_fields.specs.Memory.{Seen, told}
use Rattle.rv_fields.specs.RowTable.{form_of}
use Rattle.rv_fields.specs.Meaning.{is_taken}
use Rattle.rv_fields.specs.Status.{mode_number, tsr, tvm}
use Rattle.rv_fields.specs.Step.{Outcome, Stepped, behind, changed_to, csr_changed, csr_named_by, csr_operand, csr_read, csr_written, csrs_done, fetch_walked, goes, illegal, is_kept_from, jump, moved_by, outcome_by, raises, retires, returned, returned_from_m, step, stepped_by, trap_taken, traps, writes}
use Rattle.rv_fields.specs.Sv39.{reached}
use Rattle.rv_fields.specs.Trap.{sret_done, sret_mode, trap_mode}
use Rattle.rv_fields.proofs.Course.{executes, retraced, undecoded}
use Rattle.boot_words.proofs.Running.{m_may_read}
use Rattle.hart_task.specs.Plain.{IsHandledTrap, plain_effect}
use Rattle.hart_task.specs.Turn.{end_word}

-- in mode M nothing is translated
pub fetched_bare : (seen : Seen) (hart : Hart) → hart.mode ≡ M → fetch_walked seen hart ≡ Some (record { trail = []; result = reached hart.pc })
fetched_bare seen hart is_m = rw is_m refl

-- ---- what such a word does

-- memory of which nothing is told
abbrev untold : Seen
untold = record { byte = λ a. None; link = λ h g. None }

-- what an instruction of the class leaves, where that asks nothing of memory
abbrev pub outcome_alone : Class → Hart → Decoded → ℕ → ℕ → ℕ → Outcome
outcome_alone c hart d word a b = unwrap_or (outcome_by c untold hart d word a b) (illegal word)

alone_is : (c : Class) (seen : Seen) (hart : Hart) (d : Decoded) (word a b : ℕ) → access_in c ≡ None → outcome_by c seen hart d word a b ≡ Some (outcome_alone c hart d word a b)
alone_is Computes seen hart d word a b none = refl
alone_is Branches seen hart d word a b none = refl
alone_is Jumps seen hart d word a b none = refl
alone_is JumpsByRegister seen hart d word a b none = refl
alone_is (Accesses kind size extended) seen hart d word a b none = absurd cc
alone_is (ChangesCsr change) seen hart d word a b none = refl
alone_is Fences seen hart d word a b none = refl
alone_is FencesTranslation seen hart d word a b none = refl
alone_is CallsEnvironment seen hart d word a b none = refl
alone_is Breaks seen hart d word a b none = refl
alone_is ReturnsFromM seen hart d word a b none = refl
alone_is ReturnsFromS seen hart d word a b none = refl

-- the word accesses no memory, whatever it is
abbrev pub IsBare : Option Decoded → Type 0
IsBare None = Unit {0}
IsBare (Some d) = access_in (class_of d.ins) ≡ None

-- the registers that it reads have these values
abbrev pub TellsSources : Registers → Option Decoded → ℕ → ℕ → Type 0
TellsSources x None a b = Unit {0}
TellsSources x (Some d) a b = (x (rs1_read d) ≡ Some a) × (x d.ops.rs2 ≡ Some b)

abbrev pub bare_step : Hart → ℕ → Option Decoded → ℕ → ℕ → Stepped
bare_step hart word None a b = trap_taken hart (Some hart.pc) (Some word) 2 word []
bare_step hart word (Some d) a b = stepped_by hart hart.pc word d.ops.rd (outcome_alone (class_of d.ins) hart d word a b)

pub bare : (seen : Seen) (hart : Hart) (word : ℕ) (m : Option Decoded) (a b : ℕ) → hart.mode ≡ M → told seen.byte hart.pc 4 ≡ Some (Some word)
    → decoded word ≡ m → IsBare m → TellsSources hart.x m a b → step seen hart ≡ Some (bare_step hart word m a b)
bare seen hart word None a b is_m tells is alone sources = retraced seen hart _ (undecoded [] hart.pc word (fetched_bare seen hart is_m) tells is)
bare seen hart word (Some d) a b is_m tells is alone sources =
    retraced seen hart _ (executes [] hart.pc word d a b (outcome_alone (class_of d.ins) hart d word a b) (fetched_bare seen hart is_m) tells is sources.0 sources.1
    (alone_is (class_of d.ins) seen hart d word a b alone))

-- ---- its effect

-- nothing is accessed, by no entries, and a trap's cause is one of the manual's
abbrev IsQuiet : Outcome → Type 0
IsQuiet (retires done) = (done.access ≡ None) × (done.trail ≡ [])
IsQuiet (raises cause tval trail) = (trail ≡ []) × (cause < 16)

quiet_if : (t : Bool) (o p : Outcome) → IsQuiet o → IsQuiet p → IsQuiet (cond t o p)
quiet_if true o p h k = h
quiet_if false o p h k = k

jump_quiet : (hart : Hart) (value : Option ℕ) (target : ℕ) → IsQuiet (jump hart value target)
jump_quiet hart value target = quiet_if (eqb (target % 4) 0) (goes hart value target) (traps 0 target) (refl, refl) (refl, lit< tt)

-- an instruction that the word is not
illegal_quiet : (word : ℕ) → IsQuiet (illegal word)
illegal_quiet word = (refl, lit< tt)

csr_quiet : (hart : Hart) (change : CsrChange) (ops : Ops) (operand word : ℕ) (csr : Option Csr) → IsQuiet (csr_changed hart change ops operand word csr)
csr_quiet hart change ops operand word None = illegal_quiet word
csr_quiet hart change ops operand word (Some csr) =
    quiet_if (writes change ops) (csr_written hart change operand word csr) (csr_read hart word csr)
    (quiet_if (may_write hart.csrs csr hart.mode) (csrs_done hart (reading hart.csrs csr) (written hart.csrs csr (changed_to change (reading hart.csrs csr) operand))) (illegal word) (refl, refl) (illegal_quiet word))
    (quiet_if (may_read hart.csrs csr hart.mode) (csrs_done hart (reading hart.csrs csr) hart.csrs) (illegal word) (refl, refl) (illegal_quiet word))

return_quiet : (hart : Hart) (word : ℕ) (mode : Mode) → IsQuiet (returned_from_m hart word mode)
return_quiet hart word M = (refl, refl)
return_quiet hart word S = illegal_quiet word
return_quiet hart word U = illegal_quiet word

call_quiet : (mode : Mode) → IsQuiet (traps (8 + mode_number mode) 0)
call_quiet U = (refl, lit< tt)
call_quiet S = (refl, lit< tt)
call_quiet M = (refl, lit< tt)

alone_quiet : (c : Class) (hart : Hart) (d : Decoded) (word a b : ℕ) → access_in c ≡ None → IsQuiet (outcome_alone c hart d word a b)
alone_quiet Computes hart d word a b none = (refl, refl)
alone_quiet Branches hart d word a b none =
    quiet_if (is_taken d.ins a b) (jump hart None (moved_by d.ops hart.pc)) (goes hart None (behind hart.pc)) (jump_quiet hart None (moved_by d.ops hart.pc)) (refl, refl)
alone_quiet Jumps hart d word a b none = jump_quiet hart (Some (behind hart.pc)) (moved_by d.ops hart.pc)
alone_quiet JumpsByRegister hart d word a b none = jump_quiet hart (Some (behind hart.pc)) (moved_by d.ops a / 2 * 2)
alone_quiet (Accesses kind size extended) hart d word a b none = absurd cc
alone_quiet (ChangesCsr change) hart d word a b none = csr_quiet hart change d.ops (csr_operand (form_of d.ins) d.ops a) word (csr_named_by d.ops)
alone_quiet Fences hart d word a b none = (refl, refl)
alone_quiet FencesTranslation hart d word a b none =
    quiet_if (is_kept_from hart.mode tvm hart.csrs.mstatus) (illegal word) (goes hart None (behind hart.pc)) (illegal_quiet word) (refl, refl)
alone_quiet CallsEnvironment hart d word a b none = call_quiet hart.mode
alone_quiet Breaks hart d word a b none = (refl, lit< tt)
alone_quiet ReturnsFromM hart d word a b none = return_quiet hart word hart.mode
alone_quiet ReturnsFromS hart d word a b none =
    quiet_if (is_kept_from hart.mode tsr hart.csrs.mstatus) (illegal word) (returned hart (sret_mode hart.csrs) hart.csrs.sepc (sret_done hart.csrs)) (illegal_quiet word) (refl, refl)

-- what a step tells that accesses nothing
abbrev pub IsQuietEffect : Hart → ℕ → Effect → Type 0
IsQuietEffect hart word e = e ≡ plain_effect hart word e.rd e.trap

quiet_by : (hart : Hart) (word rd : ℕ) (o : Outcome) → IsQuiet o → IsQuietEffect hart word (stepped_by hart hart.pc word rd o).effect
unfolding trap_taken
quiet_by hart word rd (retires done) quiet = λ i. record (stepped_by hart hart.pc word rd (retires done)).effect { access = quiet.0 i; trail = quiet.1 i }
quiet_by hart word rd (raises cause tval trail) quiet = λ i. record (stepped_by hart hart.pc word rd (raises cause tval trail)).effect { trail = quiet.0 i }

pub bare_quiet : (hart : Hart) (word : ℕ) (m : Option Decoded) (a b : ℕ) → IsBare m → IsQuietEffect hart word (bare_step hart word m a b).effect
unfolding trap_taken
bare_quiet hart word None a b alone = refl
bare_quiet hart word (Some d) a b alone = quiet_by hart word d.ops.rd (outcome_alone (class_of d.ins) hart d word a b) (alone_quiet (class_of d.ins) hart d word a b alone)

-- a trap in mode M is one that mode M handles
handled_in_m : (hart : Hart) (cause : ℕ) → hart.mode ≡ M → trap_mode hart.csrs hart.mode cause ≢ U
handled_in_m hart cause is_m = λ same. let no : M ≡ U = ap (λ mode. trap_mode hart.csrs mode cause) (sym is_m) ∙ same in absurd cc

handled_by : (hart : Hart) (word rd : ℕ) (o : Outcome) → hart.mode ≡ M → IsQuiet o → IfSome (stepped_by hart hart.pc word rd o).effect.trap IsHandledTrap
unfolding trap_taken
handled_by hart word rd (retires done) is_m quiet = tt
handled_by hart word rd (raises cause tval trail) is_m quiet = record { cause = quiet.1; to = handled_in_m hart cause is_m }

pub bare_handled : (hart : Hart) (word : ℕ) (m : Option Decoded) (a b : ℕ) → hart.mode ≡ M → IsBare m → IfSome (bare_step hart word m a b).effect.trap IsHandledTrap
unfolding trap_taken
bare_handled hart word None a b is_m alone = record { cause = lit< tt; to = handled_in_m hart 2 is_m }
bare_handled hart word (Some d) a b is_m alone = handled_by hart word d.ops.rd (outcome_alone (class_of d.ins) hart d word a b) is_m (alone_quiet (class_of d.ins) hart d word a b alone)

-- ---- words that go on

-- the CSRs by which a trap goes to the handler and back stay
abbrev pub KeepsWay : CsrFile → CsrFile → Type 0
KeepsWay old new = (new.mtvec ≡ old.mtvec) × (new.mepc ≡ old.mepc)

-- without a trap, in the same mode, at this address
pub record GoesTo (hart : Hart) (pc : ℕ) (s : Stepped) : Type 0 where
  pub trap : s.effect.trap ≡ None
  pub pc_is : s.hart.pc ≡ pc
  pub mode : s.hart.mode ≡ hart.mode
  pub way : KeepsWay hart.csrs s.hart.csrs

-- behind the word
abbrev pub GoesOn : Hart → Stepped → Type 0
GoesOn hart s = GoesTo hart (behind hart.pc) s

abbrev step_of : Hart → ℕ → ℕ → Outcome → Stepped
step_of hart word rd o = stepped_by hart hart.pc word rd o

pub computes_on : (hart : Hart) (word : ℕ) (d : Decoded) (a b : ℕ) → class_of d.ins ≡ Computes → GoesOn hart (bare_step hart word (Some d) a b)
computes_on hart word d a b row =
    subst (λ c. GoesOn hart (step_of hart word d.ops.rd (outcome_alone c hart d word a b))) (sym row) (record { trap = refl; pc_is = refl; mode = refl; way = (refl, refl) })

pub fences_on : (hart : Hart) (word : ℕ) (d : Decoded) (a b : ℕ) → class_of d.ins ≡ Fences → GoesOn hart (bare_step hart word (Some d) a b)
fences_on hart word d a b row =
    subst (λ c. GoesOn hart (step_of hart word d.ops.rd (outcome_alone c hart d word a b))) (sym row) (record { trap = refl; pc_is = refl; mode = refl; way = (refl, refl) })

on_if : (hart : Hart) (word rd : ℕ) (t : Bool) (o p : Outcome) → t ≡ true → GoesOn hart (step_of hart word rd o) → GoesOn hart (step_of hart word rd (cond t o p))
on_if hart word rd true o p is on = on
on_if hart word rd false o p is on = absurd cc

on_either : (hart : Hart) (word rd : ℕ) (t : Bool) (o p : Outcome) → (t ≡ true → GoesOn hart (step_of hart word rd o)) → (t ≡ false → GoesOn hart (step_of hart word rd p))
    → GoesOn hart (step_of hart word rd (cond t o p))
on_either hart word rd true o p h k = h refl
on_either hart word rd false o p h k = k refl

-- one on a CSR does, where it writes none but one that may be written
pub changes_on : (hart : Hart) (word : ℕ) (d : Decoded) (a b : ℕ) (change : CsrChange) (csr : Csr) → hart.mode ≡ M → class_of d.ins ≡ ChangesCsr change → csr_named_by d.ops ≡ Some csr
    → (writes change d.ops ≡ true → may_write hart.csrs csr M ≡ true) → (writes change d.ops ≡ true → (value : ℕ) → KeepsWay hart.csrs (written hart.csrs csr value)) → GoesOn hart (bare_step hart word (Some d) a b)
changes_on hart word d a b change csr is_m row named may keeps =
    subst (λ c. GoesOn hart (step_of hart word d.ops.rd (outcome_alone c hart d word a b))) (sym row)
    (subst (λ m. GoesOn hart (step_of hart word d.ops.rd (csr_changed hart change d.ops operand word m))) (sym named)
    (on_either hart word d.ops.rd (writes change d.ops) _ _
    (λ writes. on_if hart word d.ops.rd (may_write hart.csrs csr hart.mode) _ _ (ap (may_write hart.csrs csr) is_m ∙ may writes) (record { trap = refl; pc_is = refl; mode = refl; way = keeps writes (changed_to change (reading hart.csrs csr) operand) }))
    (λ reads. on_if hart word d.ops.rd (may_read hart.csrs csr hart.mode) _ _ (ap (may_read hart.csrs csr) is_m ∙ m_may_read hart.csrs csr) (record { trap = refl; pc_is = refl; mode = refl; way = (refl, refl) }))))
  where
    operand : ℕ
    operand = csr_operand (form_of d.ins) d.ops a

-- ---- words that take a trap

-- A word goes on, or takes a trap.
pub data Proceeds (hart : Hart) (word : ℕ) (s : Stepped) : Type 0 where
  goes_on : GoesOn hart s → Proceeds hart word s
  is_trapped : (cause tval : ℕ) → s ≡ trap_taken hart (Some hart.pc) (Some word) cause tval [] → Proceeds hart word s

-- one of no row
pub unknown_trapped : (hart : Hart) (word a b : ℕ) → Proceeds hart word (bare_step hart word None a b)
unknown_trapped hart word a b = is_trapped 2 word refl

pub calls_trapped : (hart : Hart) (word : ℕ) (d : Decoded) (a b : ℕ) → class_of d.ins ≡ CallsEnvironment → Proceeds hart word (bare_step hart word (Some d) a b)
calls_trapped hart word d a b row =
    subst (λ c. Proceeds hart word (step_of hart word d.ops.rd (outcome_alone c hart d word a b))) (sym row) (is_trapped (8 + mode_number hart.mode) 0 refl)

pub breaks_trapped : (hart : Hart) (word : ℕ) (d : Decoded) (a b : ℕ) → class_of d.ins ≡ Breaks → Proceeds hart word (bare_step hart word (Some d) a b)
breaks_trapped hart word d a b row =
    subst (λ c. Proceeds hart word (step_of hart word d.ops.rd (outcome_alone c hart d word a b))) (sym row) (is_trapped 3 hart.pc refl)

-- a fence of translations is open to mode M
pub translation_fenced : (hart : Hart) (word : ℕ) (d : Decoded) (a b : ℕ) → hart.mode ≡ M → class_of d.ins ≡ FencesTranslation → GoesOn hart (bare_step hart word (Some d) a b)
translation_fenced hart word d a b is_m row =
    subst (λ c. GoesOn hart (step_of hart word d.ops.rd (outcome_alone c hart d word a b))) (sym row)
    (subst (λ mode. GoesOn hart (step_of hart word d.ops.rd (cond (is_kept_from mode tvm hart.csrs.mstatus) (illegal word) (goes hart None (behind hart.pc))))) (sym is_m)
    (record { trap = refl; pc_is = refl; mode = refl; way = (refl, refl) }))

-- ---- the ending word

abbrev pub end_jump : Decoded
end_jump = record { ins = Jal; ops = record { rd = 0; rs1 = 0; rs2 = 0; imm = pos 0; aqrl = 0 } }

pub end_decoded : decoded end_word ≡ Some end_jump
unfolding ins_at
end_decoded = refl

-- it stays where it is
pub ends_on : (hart : Hart) (a b : ℕ) → hart.pc % 4 ≡ 0 → hart.pc < 2 ^ 64 → GoesTo hart hart.pc (bare_step hart end_word (Some end_jump) a b)
ends_on hart a b aligned small =
    let same : moved_by end_jump.ops hart.pc ≡ hart.pc = (let n : (hart.pc + 0) % 2 ^ 64 ≡ hart.pc = omega (arith, small) in n) in
    let test : eqb (hart.pc % 4) 0 ≡ true = eq-eqb (hart.pc % 4) 0 aligned in
    subst (λ t. GoesTo hart hart.pc (step_of hart end_word 0 (jump hart (Some (behind hart.pc)) t))) (sym same)
    (subst (λ t. GoesTo hart hart.pc (step_of hart end_word 0 (cond t (goes hart (Some (behind hart.pc)) hart.pc) (traps 0 hart.pc)))) (sym test)
    (record { trap = refl; pc_is = refl; mode = refl; way = (refl, refl) }))
