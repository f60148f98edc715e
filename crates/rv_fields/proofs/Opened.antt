-- The same step with anything in mcause and mtval, of a word that names neither.
use Rattle.std.proofs.Common.{ℕ, ◌≡◌, ◌%◌, eqb, ◌*◌, ◌/◌, Bool, true, false, cond, Option, Some, None, refl, sym, ap, ◌∙◌, List, []}
use Rattle.rv_fields.specs.declared.access.AccessKind.{AccessKind}
use Rattle.rv_fields.specs.declared.access.AccessKind.TheVariants.{Load, Store, Lr, Sc, Amo}
use Rattle.rv_fields.specs.declared.class.Class.{Class}
use Rattle.rv_fields.specs.declared.class.Class.TheVariants.{Computes, Branches, Jumps, JumpsByRegister, Accesses, ChangesCsr, Fences, FencesTranslation, CallsEnvironment, Breaks, ReturnsFromM, ReturnsFromS}
use Rattle.rv_fields.specs.declared.class.CsrChange.{CsrChange}
use Rattle.rv_fields.specs.declared.csr.Csr.{Csr}
use Rattle.rv_fields.specs.declared.csr.Csr.TheVariants.{Satp, Mcause, Mtval}
use Rattle.rv_fields.specs.declared.mode.Mode.{Mode}
use Rattle.rv_fields.specs.declared.mode.Mode.TheVariants.{U, S, M}
use Rattle.rv_fields.specs.declared.row_table.Ops.{Ops}
use Rattle.rv_fields.specs.Class.{class_of}
use Rattle.rv_fields.specs.CsrFile.{CsrFile, is_kept_back, may_read, may_write, reading, written}
use Rattle.rv_fields.specs.Decode.{Decoded}
use Rattle.rv_fields.specs.Effect.{Entry}
use Rattle.rv_fields.specs.Hart.{Hart}
use Rattle.rv_fields.specs.Laws.{with_registers, from_registers, with_open, opened, is_open, is_open_found, names_open, names_open_at, names_open_in, StepLeaves, SameWhateverOpen, EachLeaves}
use Rattle.rv_fields.specs.Meaning.{is_taken}
use Rattle.rv_fields.specs.Memory.{Seen, in_ram, told}
use Rattle.rv_fields.specs.Status.{tsr, tvm}
use Rattle.rv_fields.specs.Step.{Aim, Outcome, Stepped, Target, retires, raises, access, aim_at, behind, branch, changed_to, csr_changed, csr_named_by, csr_operand, csr_read, csr_written, data_walked, goes, is_kept_from, jump, load_reserved, loaded, moved_by, outcome_by, performed, performed_at, returned_from_m, returned_from_s, right_of, step, stepped_by, store, store_if, succeeds, trap_taken, updated_memory, writes}
use Rattle.rv_fields.specs.Sv39.{Translated, reached, faults}
use Rattle.rv_fields.specs.Trap.{trap_mode, trapped_to}
use Rattle.rv_fields.specs.RowTable.{form_of}
use Rattle.rv_fields.proofs.Options.{Maps, maps_bind, maps_map, maps_if, maps_some}
use Rattle.rv_fields.proofs.Course.{Course, unreached, lacks_word, undecoded, executes, course, retraced}
use Rattle.rv_fields.proofs.MoreTold.{more_told}

abbrev opened_outcome : ℕ → ℕ → Outcome → Outcome
opened_outcome c t (retires done) = retires (record done { csrs = with_open c t done.csrs })
opened_outcome c t (raises cause tval trail) = raises cause tval trail

-- a choice of outcomes
either : (c t : ℕ) (b : Bool) (m n p q : Outcome) → n ≡ opened_outcome c t m → q ≡ opened_outcome c t p
    → cond b n q ≡ opened_outcome c t (cond b m p)
either c t true m n p q h l = h
either c t false m n p q h l = l

module _ (c t : ℕ) (hart : Hart) where
  goes_open : (value : Option ℕ) (next : ℕ) → goes (opened hart.x c t hart) value next ≡ opened_outcome c t (goes hart value next)
  goes_open value next = refl

  jump_open : (value : Option ℕ) (target : ℕ) → jump (opened hart.x c t hart) value target ≡ opened_outcome c t (jump hart value target)
  jump_open value target = either c t (eqb (target % 4) 0) _ _ _ _ refl refl

  branch_open : (taken : Bool) (target : ℕ) → branch (opened hart.x c t hart) taken target ≡ opened_outcome c t (branch hart taken target)
  branch_open true target = jump_open None target
  branch_open false target = refl

  -- ---- accesses

  loaded_open : (aim : Aim) (n : Option ℕ) → loaded (opened hart.x c t hart) aim n ≡ opened_outcome c t (loaded hart aim n)
  loaded_open aim None = refl
  loaded_open aim (Some n) = refl

  load_reserved_open : (aim : Aim) (n : Option ℕ) → load_reserved (opened hart.x c t hart) aim n ≡ opened_outcome c t (load_reserved hart aim n)
  load_reserved_open aim None = refl
  load_reserved_open aim (Some n) = refl

  updated_memory_open : (aim : Aim) (n : Option ℕ) → updated_memory (opened hart.x c t hart) aim n ≡ opened_outcome c t (updated_memory hart aim n)
  updated_memory_open aim None = refl
  updated_memory_open aim (Some n) = refl

  store_open : (aim : Aim) → store (opened hart.x c t hart) aim ≡ opened_outcome c t (store hart aim)
  store_open aim = either c t (in_ram aim.pa aim.size) _ _ _ _ refl refl

  store_if_open : (aim : Aim) (stands : Bool) → store_if (opened hart.x c t hart) aim stands ≡ opened_outcome c t (store_if hart aim stands)
  store_if_open aim true = either c t (in_ram aim.pa aim.size) _ _ _ _ refl refl
  store_if_open aim false = refl

  performed_open : (seen : Seen) (kind : AccessKind) (aim : Aim)
      → Maps (opened_outcome c t) (performed kind seen hart aim) (performed kind seen (opened hart.x c t hart) aim)
  performed_open seen Load aim = maps_map _ (told seen.byte aim.pa aim.size) _ _ (loaded_open aim)
  performed_open seen Lr aim = maps_map _ (told seen.byte aim.pa aim.size) _ _ (load_reserved_open aim)
  performed_open seen Amo aim = maps_map _ (told seen.byte aim.pa aim.size) _ _ (updated_memory_open aim)
  performed_open seen Store aim = rw (store_open aim) (maps_some (opened_outcome c t) (store hart aim))
  performed_open seen Sc aim = maps_map _ (succeeds seen.link hart.number hart.reserved aim) _ _ (store_if_open aim)

  performed_at_open : (seen : Seen) (target : Target) (trail : List Entry) (result : Translated)
      → Maps (opened_outcome c t) (performed_at seen hart target trail result) (performed_at seen (opened hart.x c t hart) target trail result)
  performed_at_open seen target trail (reached pa) = performed_open seen target.kind (aim_at target pa trail)
  performed_at_open seen target trail (faults cause) = maps_some (opened_outcome c t) _

  access_open : (seen : Seen) (target : Target) → Maps (opened_outcome c t) (access seen hart target) (access seen (opened hart.x c t hart) target)
  access_open seen target =
      maps_if (opened_outcome c t) (eqb (target.va % target.size) 0) _ _ _ _
      (maps_bind (opened_outcome c t) (data_walked seen hart (right_of target.kind) target.va) _ _ (λ w. performed_at_open seen target w.trail w.result))
      (maps_some (opened_outcome c t) _)

  -- ---- CSRs

  kept_open : (csr : Csr) (mode : Mode) → is_kept_back (with_open c t hart.csrs) csr mode ≡ is_kept_back hart.csrs csr mode
  kept_open Satp S = refl
  kept_open csr mode = refl

  reading_open : (csr : Csr) → is_open csr ≡ false → reading (with_open c t hart.csrs) csr ≡ reading hart.csrs csr
  reading_open Mcause e = absurd cc
  reading_open Mtval e = absurd cc
  reading_open csr e = refl

  written_open : (csr : Csr) (value : ℕ) → is_open csr ≡ false → written (with_open c t hart.csrs) csr value ≡ with_open c t (written hart.csrs csr value)
  unfolding written
  written_open Mcause value e = absurd cc
  written_open Mtval value e = absurd cc
  written_open csr value e = refl

  csr_read_open : (word : ℕ) (csr : Csr) → is_open csr ≡ false → csr_read (opened hart.x c t hart) word csr ≡ opened_outcome c t (csr_read hart word csr)
  csr_read_open word csr closed =
      rw (kept_open csr hart.mode) (rw (reading_open csr closed) (either c t (may_read hart.csrs csr hart.mode) _ _ _ _ refl refl))

  csr_written_open : (change : CsrChange) (operand word : ℕ) (csr : Csr) → is_open csr ≡ false
      → csr_written (opened hart.x c t hart) change operand word csr ≡ opened_outcome c t (csr_written hart change operand word csr)
  csr_written_open change operand word csr closed =
      rw (kept_open csr hart.mode) (rw (reading_open csr closed)
      (rw (written_open csr (changed_to change (reading hart.csrs csr) operand) closed)
      (either c t (may_write hart.csrs csr hart.mode) _ _ _ _ refl refl)))

  csr_changed_open : (change : CsrChange) (ops : Ops) (operand word : ℕ) (csr : Option Csr) → is_open_found csr ≡ false
      → csr_changed (opened hart.x c t hart) change ops operand word csr ≡ opened_outcome c t (csr_changed hart change ops operand word csr)
  csr_changed_open change ops operand word None closed = refl
  csr_changed_open change ops operand word (Some csr) closed =
      either c t (writes change ops) _ _ _ _ (csr_written_open change operand word csr closed) (csr_read_open word csr closed)

  -- ---- returns

  from_m_open : (word : ℕ) (mode : Mode) → returned_from_m (opened hart.x c t hart) word mode ≡ opened_outcome c t (returned_from_m hart word mode)
  from_m_open word M = refl
  from_m_open word S = refl
  from_m_open word U = refl

  from_s_open : (word : ℕ) → returned_from_s (opened hart.x c t hart) word ≡ opened_outcome c t (returned_from_s hart word)
  from_s_open word = either c t (is_kept_from hart.mode tsr hart.csrs.mstatus) _ _ _ _ refl refl

  -- ---- all rows

  exactly : (m n : Outcome) → n ≡ opened_outcome c t m → Maps (opened_outcome c t) (Some m) (Some n)
  exactly m n e = rw e (maps_some (opened_outcome c t) m)

  outcome_open : (class : Class) (seen : Seen) (d : Decoded) (word rs1 rs2 : ℕ) → names_open class d ≡ false
      → Maps (opened_outcome c t) (outcome_by class seen hart d word rs1 rs2) (outcome_by class seen (opened hart.x c t hart) d word rs1 rs2)
  outcome_open Computes seen d word rs1 rs2 closed = maps_some (opened_outcome c t) _
  outcome_open Branches seen d word rs1 rs2 closed = exactly _ _ (branch_open (is_taken d.ins rs1 rs2) (moved_by d.ops hart.pc))
  outcome_open Jumps seen d word rs1 rs2 closed = exactly _ _ (jump_open (Some (behind hart.pc)) (moved_by d.ops hart.pc))
  outcome_open JumpsByRegister seen d word rs1 rs2 closed = exactly _ _ (jump_open (Some (behind hart.pc)) (moved_by d.ops rs1 / 2 * 2))
  outcome_open (Accesses kind size extended) seen d word rs1 rs2 closed = access_open seen _
  outcome_open (ChangesCsr change) seen d word rs1 rs2 closed = exactly _ _ (csr_changed_open change d.ops (csr_operand (form_of d.ins) d.ops rs1) word (csr_named_by d.ops) closed)
  outcome_open Fences seen d word rs1 rs2 closed = maps_some (opened_outcome c t) _
  outcome_open FencesTranslation seen d word rs1 rs2 closed = exactly _ _ (either c t (is_kept_from hart.mode tvm hart.csrs.mstatus) _ _ _ _ refl refl)
  outcome_open CallsEnvironment seen d word rs1 rs2 closed = maps_some (opened_outcome c t) _
  outcome_open Breaks seen d word rs1 rs2 closed = maps_some (opened_outcome c t) _
  outcome_open ReturnsFromM seen d word rs1 rs2 closed = exactly _ _ (from_m_open word hart.mode)
  outcome_open ReturnsFromS seen d word rs1 rs2 closed = exactly _ _ (from_s_open word)

-- ---- the step

trapped_open : (to : Mode) (c t : ℕ) (file : CsrFile) (mode : Mode) (cause epc tval : ℕ)
    → (d : ℕ) × (u : ℕ) × (trapped_to to (with_open c t file) mode cause epc tval ≡ with_open d u (trapped_to to file mode cause epc tval))
trapped_open S c t file mode cause epc tval = (c, t, refl)
trapped_open to c t file mode cause epc tval = (cause, tval, refl)

-- the hart steps so too with anything in mcause and mtval
abbrev pub Did : Stepped → Option Stepped → Type 0
Did s did = (d : ℕ) × (u : ℕ) × (did ≡ Some (record { effect = s.effect; hart = opened s.hart.x d u s.hart }))

taken_open : (c t : ℕ) (hart : Hart) (pa word : Option ℕ) (cause tval : ℕ) (trail : List Entry)
    → Did (trap_taken hart pa word cause tval trail) (Some (trap_taken (opened hart.x c t hart) pa word cause tval trail))
unfolding trap_taken
taken_open c t hart pa word cause tval trail =
    let o = trapped_open (trap_mode hart.csrs hart.mode cause) c t hart.csrs hart.mode cause hart.pc tval in (
      o.0,
      o.1,
      ap (λ f. Some (record {
        effect = (trap_taken hart pa word cause tval trail).effect;
        hart = record (trap_taken hart pa word cause tval trail).hart { csrs = f };
      })) o.2,
    )

by_outcome : (c t : ℕ) (hart : Hart) (pa word rd : ℕ) (o : Outcome)
    → Did (stepped_by hart pa word rd o) (Some (stepped_by (opened hart.x c t hart) pa word rd (opened_outcome c t o)))
by_outcome c t hart pa word rd (raises cause tval trail) = taken_open c t hart (Some pa) (Some word) cause tval trail
by_outcome c t hart pa word rd (retires done) = (c, t, refl)

-- the word of an instruction's effect
pub word_stepped : (hart : Hart) (pa word rd : ℕ) (o : Outcome) → (stepped_by hart pa word rd o).effect.word ≡ Some word
unfolding trap_taken
word_stepped hart pa word rd (retires done) = refl
word_stepped hart pa word rd (raises cause tval trail) = refl

course_open : (seen : Seen) (c t : ℕ) (hart : Hart) (s : Stepped) → names_open_in s.effect.word ≡ false
    → Course seen hart s → Did s (step seen (opened hart.x c t hart))
course_open seen c t hart s closed (unreached trail cause fetched) =
    rw (retraced seen (opened hart.x c t hart) _ (unreached trail cause fetched)) (taken_open c t hart None None cause hart.pc [])
course_open seen c t hart s closed (lacks_word trail pa fetched has) =
    rw (retraced seen (opened hart.x c t hart) _ (lacks_word trail pa fetched has)) (taken_open c t hart None None 1 hart.pc [])
course_open seen c t hart s closed (undecoded trail pa word fetched has is) =
    rw (retraced seen (opened hart.x c t hart) _ (undecoded trail pa word fetched has is)) (taken_open c t hart (Some pa) (Some word) 2 word [])
course_open seen c t hart s closed (executes trail pa word d rs1 rs2 o fetched has is first second gives) =
    let clear : names_open (class_of d.ins) d ≡ false =
    ap names_open_at (sym is) ∙ ap names_open_in (sym (word_stepped hart pa word d.ops.rd o)) ∙ closed in
    rw (retraced seen (opened hart.x c t hart) _ (executes trail pa word d rs1 rs2 (opened_outcome c t o) fetched has is first second
    (outcome_open c t hart (class_of d.ins) seen d word rs1 rs2 clear o gives)))
    (by_outcome c t hart pa word d.ops.rd o)

pub step_open : (seen : Seen) (c t : ℕ) (hart : Hart) (s : Stepped) → names_open_in s.effect.word ≡ false → step seen hart ≡ Some s
    → Did s (step seen (opened hart.x c t hart))
step_open seen c t hart s closed e = course_open seen c t hart s closed (course seen hart s e)

pub more_told_open : SameWhateverOpen
more_told_open part whole more x c t hart tells s closed e =
    let o = step_open whole c t (with_registers x hart) (from_registers x s) closed (more_told part whole more x hart tells s e) in
    record { mcause = o.0; mtval = o.1; same = o.2 }

-- ---- what each step leaves

outcome_leaves : (hart : Hart) (pa word rd : ℕ) (o : Outcome) → StepLeaves hart (stepped_by hart pa word rd o)
unfolding trap_taken
outcome_leaves hart pa word rd (retires done) = record { effect_hart = refl; effect_pc = refl; number = refl; registers = refl }
outcome_leaves hart pa word rd (raises cause tval trail) = record { effect_hart = refl; effect_pc = refl; number = refl; registers = refl }

course_leaves : (seen : Seen) (hart : Hart) (s : Stepped) → Course seen hart s → StepLeaves hart s
unfolding trap_taken
course_leaves seen hart s (unreached trail cause fetched) = record { effect_hart = refl; effect_pc = refl; number = refl; registers = refl }
course_leaves seen hart s (lacks_word trail pa fetched has) = record { effect_hart = refl; effect_pc = refl; number = refl; registers = refl }
course_leaves seen hart s (undecoded trail pa word fetched has is) = record { effect_hart = refl; effect_pc = refl; number = refl; registers = refl }
course_leaves seen hart s (executes trail pa word d rs1 rs2 o fetched has is first second gives) = outcome_leaves hart pa word d.ops.rd o

pub step_leaves : EachLeaves
step_leaves seen hart s e = course_leaves seen hart s (course seen hart s e)
