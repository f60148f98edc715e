-- What a step tells of a walk has at most three entries, and a trap is handled in mode S or M.
use Rattle.std.proofs.Common.{ℕ, zero, suc, ◌*◌, ◌/◌, ◌%◌, ◌≤◌, ◌≡◌, ◌≢◌, ◌&&◌, Bool, true, false, cond, eqb, not, List, [], length, Option, Some, None, subst, arith}
use Rattle.std.proofs.lemmas.Option.{same_Some}
use Rattle.rv_fields.specs.declared.access.Access.{Access}
use Rattle.rv_fields.specs.declared.access.AccessKind.{AccessKind}
use Rattle.rv_fields.specs.declared.access.AccessKind.TheVariants.{Load, Store, Lr, Sc, Amo}
use Rattle.rv_fields.specs.declared.mode.Mode.{Mode}
use Rattle.rv_fields.specs.declared.mode.Mode.TheVariants.{M, S, U}
use Rattle.rv_fields.specs.declared.access.Access.TheVariants.{Fetch}
use Rattle.rv_fields.specs.declared.class.Class.{Class}
use Rattle.rv_fields.specs.declared.class.Class.TheVariants.{Computes, Branches, Jumps, JumpsByRegister, Accesses, ChangesCsr, Fences, FencesTranslation, CallsEnvironment, Breaks, ReturnsFromM, ReturnsFromS}
use Rattle.rv_fields.specs.declared.class.CsrChange.{CsrChange}
use Rattle.rv_fields.specs.declared.csr.Csr.{Csr}
use Rattle.rv_fields.specs.declared.row_table.Ops.{Ops}
use Rattle.rv_fields.specs.declared.trap.Trap.{Trap}
use Rattle.rv_fields.specs.CsrFile.{CsrFile, may_read, may_write}
use Rattle.rv_fields.specs.Class.{class_of}
use Rattle.rv_fields.specs.Decode.{Decoded}
use Rattle.rv_fields.specs.Effect.{Entry}
use Rattle.rv_fields.specs.Meaning.{is_taken}
use Rattle.rv_fields.specs.RowTable.{form_of}
use Rattle.rv_fields.specs.Status.{tsr, tvm}
use Rattle.rv_fields.specs.Hart.{Hart}
use Rattle.rv_fields.specs.Memory.{Seen, in_ram, told}
use Rattle.rv_fields.specs.Step.{Aim, Outcome, Stepped, Target, access, aim_at, behind, csr_changed, csr_named_by, csr_operand, csr_read, csr_written, data_mode, data_walked, goes, illegal, is_kept_from, jump, lacks_ram, load_reserved, loaded, moved_by, outcome_by, performed, performed_at, raises, retires, returned_from_m, right_of, rights_of, step, stepped_by, store, store_if, succeeds, trap_taken, traps, updated_memory, writes}
use Rattle.rv_fields.specs.Sv39.{Entries, access_fault, entries_in, misaligned, Rights, Translated, Walked, behind_entry, entry_at, entry_walked, faults, is_bare, is_canonical, is_formed, is_good_pointer, is_pointer, leaf_translated, page_fault, page_number, pte_walked, reached, root_of, translate, walk_from}
use Rattle.rv_fields.specs.Trap.{is_delegated, trap_mode}
use Rattle.rv_fields.proofs.Course.{Course, course, executes, lacks_word, undecoded, unreached}
use Rattle.rv_fields.proofs.Options.{Always, always_bind, always_if, always_map, always_some}

-- ---- walks

abbrev HasMost : ℕ → Walked → Type 0
HasMost n w = length w.trail ≤ n

module _ (entries : Entries) (by : Access) (rights : Rights) (va : ℕ) where
  no_entry : (n : ℕ) (result : Translated) → Always (HasMost n) (Some (record { trail = []; result = result }))
  no_entry n result = always_some (HasMost n) _ (omega arith)

  pte_short : (n level pte : ℕ) (below : ℕ → Option Walked) → ((t : ℕ) → Always (HasMost n) (below t)) → Always (HasMost n) (pte_walked by rights va level pte below)
  pte_short n level pte below h =
      always_if (HasMost n) (is_formed pte) _ _
      (always_if (HasMost n) (is_pointer pte) _ _
      (always_if (HasMost n) (is_good_pointer pte && not (eqb level 0)) _ _ (h (page_number pte)) (no_entry n (faults (page_fault by))))
      (no_entry n (leaf_translated by rights va level pte)))
      (no_entry n (faults (page_fault by)))

  entry_short : (n level at : ℕ) (below : ℕ → Option Walked) → ((t : ℕ) → Always (HasMost n) (below t)) → (pte : Option ℕ)
      → Always (HasMost (suc n)) (entry_walked by rights va level at below pte)
  entry_short n level at below h None = no_entry (suc n) _
  entry_short n level at below h (Some pte) =
      always_map (HasMost (suc n)) (behind_entry (record { at = at; pte = pte })) (pte_walked by rights va level pte below) (λ w found_it.
      let rest : length w.trail ≤ n = pte_short n level pte below h w found_it in omega (arith, rest))

  walk_short : (level table : ℕ) → Always (HasMost level) (walk_from entries by rights va level table)
  walk_short zero table = no_entry 0 (faults (page_fault by))
  walk_short (suc level) table =
      always_bind (HasMost (suc level)) (entries (entry_at va level table)) _ (λ pte is.
      entry_short level level (entry_at va level table) (walk_from entries by rights va level) (walk_short level) pte)

  translate_short : (satp : ℕ) → Always (HasMost 3) (translate entries satp rights by va)
  translate_short satp =
      always_if (HasMost 3) (is_bare rights.mode satp) _ _ (no_entry 3 (reached va))
      (always_if (HasMost 3) (is_canonical va) _ _ (walk_short 3 (root_of satp)) (no_entry 3 (faults (page_fault by))))

-- ---- outcomes

abbrev IsShort : Outcome → Type 0
IsShort (retires done) = length done.trail ≤ 3
IsShort (raises cause tval trail) = length trail ≤ 3

short_if : (b : Bool) (o q : Outcome) → IsShort o → IsShort q → IsShort (cond b o q)
short_if true o q left right = left
short_if false o q left right = right

module _ (seen : Seen) (hart : Hart) where
  no_trail : (value : Option ℕ) (next : ℕ) (left : Hart) → IsShort (goes left value next)
  no_trail value next left = omega arith

  jump_short : (value : Option ℕ) (target : ℕ) → IsShort (jump hart value target)
  jump_short value target = short_if (eqb (target % 4) 0) (goes hart value target) (traps 0 target) (omega arith) (omega arith)

  -- accesses
  performed_short : (kind : AccessKind) (aim : Aim) → length aim.trail ≤ 3 → Always IsShort (performed kind seen hart aim)
  performed_short Load aim few = always_map IsShort (loaded hart aim) (told seen.byte aim.pa aim.size) (λ m is. of m)
    where
      of : (m : Option ℕ) → IsShort (loaded hart aim m)
      of None = few
      of (Some n) = few
  performed_short Lr aim few = always_map IsShort (load_reserved hart aim) (told seen.byte aim.pa aim.size) (λ m is. of m)
    where
      of : (m : Option ℕ) → IsShort (load_reserved hart aim m)
      of None = few
      of (Some n) = few
  performed_short Amo aim few = always_map IsShort (updated_memory hart aim) (told seen.byte aim.pa aim.size) (λ m is. of m)
    where
      of : (m : Option ℕ) → IsShort (updated_memory hart aim m)
      of None = few
      of (Some n) = few
  performed_short Store aim few = always_some IsShort (store hart aim) (short_if (in_ram aim.pa aim.size) _ (lacks_ram aim) few few)
  performed_short Sc aim few = always_map IsShort (store_if hart aim) (succeeds seen.link hart.number hart.reserved aim) (λ b is. of b)
    where
      of : (b : Bool) → IsShort (store_if hart aim b)
      of true = short_if (in_ram aim.pa aim.size) _ (lacks_ram aim) few few
      of false = few

  performed_at_short : (t : Target) (trail : List Entry) (result : Translated) → length trail ≤ 3 → Always IsShort (performed_at seen hart t trail result)
  performed_at_short t trail (reached pa) few = performed_short t.kind (aim_at t pa trail) few
  performed_at_short t trail (faults cause) few = always_some IsShort (raises cause t.va trail) few

  access_short : (t : Target) → Always IsShort (access seen hart t)
  access_short t =
      always_if IsShort (eqb (t.va % t.size) 0) _ _
      (always_bind IsShort (data_walked seen hart (right_of t.kind) t.va) _ (λ w is.
      performed_at_short t w.trail w.result (translate_short (entries_in seen.byte) (right_of t.kind) (rights_of hart (data_mode hart.mode hart.csrs.mstatus)) t.va hart.csrs.satp w is)))
      (always_some IsShort (traps (misaligned (right_of t.kind)) t.va) (omega arith))

  -- CSRs and returns
  csr_short : (change : CsrChange) (ops : Ops) (operand word : ℕ) (csr : Option Csr) → IsShort (csr_changed hart change ops operand word csr)
  csr_short change ops operand word None = omega arith
  csr_short change ops operand word (Some csr) =
      short_if (writes change ops) (csr_written hart change operand word csr) (csr_read hart word csr)
      (short_if (may_write hart.csrs csr hart.mode) _ (illegal word) (omega arith) (omega arith))
      (short_if (may_read hart.csrs csr hart.mode) _ (illegal word) (omega arith) (omega arith))

  m_return_short : (word : ℕ) (mode : Mode) → IsShort (returned_from_m hart word mode)
  m_return_short word M = omega arith
  m_return_short word S = omega arith
  m_return_short word U = omega arith

  outcome_short : (class : Class) (d : Decoded) (word rs1 rs2 : ℕ) → Always IsShort (outcome_by class seen hart d word rs1 rs2)
  outcome_short Computes d word rs1 rs2 = always_some IsShort _ (omega arith)
  outcome_short Branches d word rs1 rs2 =
      always_some IsShort _ (short_if (is_taken d.ins rs1 rs2) (jump hart None (moved_by d.ops hart.pc)) (goes hart None (behind hart.pc)) (jump_short None (moved_by d.ops hart.pc)) (omega arith))
  outcome_short Jumps d word rs1 rs2 = always_some IsShort _ (jump_short (Some (behind hart.pc)) (moved_by d.ops hart.pc))
  outcome_short JumpsByRegister d word rs1 rs2 = always_some IsShort _ (jump_short (Some (behind hart.pc)) (moved_by d.ops rs1 / 2 * 2))
  outcome_short (Accesses kind size extended) d word rs1 rs2 =
      access_short (record { ins = d.ins; rs2 = rs2; kind = kind; size = size; extended = extended; va = moved_by d.ops rs1 })
  outcome_short (ChangesCsr change) d word rs1 rs2 = always_some IsShort _ (csr_short change d.ops (csr_operand (form_of d.ins) d.ops rs1) word (csr_named_by d.ops))
  outcome_short Fences d word rs1 rs2 = always_some IsShort _ (omega arith)
  outcome_short FencesTranslation d word rs1 rs2 =
      always_some IsShort _ (short_if (is_kept_from hart.mode tvm hart.csrs.mstatus) (illegal word) (goes hart None (behind hart.pc)) (omega arith) (omega arith))
  outcome_short CallsEnvironment d word rs1 rs2 = always_some IsShort _ (omega arith)
  outcome_short Breaks d word rs1 rs2 = always_some IsShort _ (omega arith)
  outcome_short ReturnsFromM d word rs1 rs2 = always_some IsShort _ (m_return_short word hart.mode)
  outcome_short ReturnsFromS d word rs1 rs2 =
      always_some IsShort _ (short_if (is_kept_from hart.mode tsr hart.csrs.mstatus) (illegal word) _ (omega arith) (omega arith))

-- ---- steps

handled_by : (file : CsrFile) (mode : Mode) (cause : ℕ) → trap_mode file mode cause ≢ U
handled_by file M cause = λ same. absurd cc
handled_by file S cause = of (is_delegated file cause)
  where
    of : (b : Bool) → cond b S M ≢ U
    of true = λ same. absurd cc
    of false = λ same. absurd cc
handled_by file U cause = of (is_delegated file cause)
  where
    of : (b : Bool) → cond b S M ≢ U
    of true = λ same. absurd cc
    of false = λ same. absurd cc

-- of a step's effect
pub record IsTold (s : Stepped) : Type 0 where
  pub trail : length s.effect.trail ≤ 3
  pub handled : (t : Trap) → s.effect.trap ≡ Some t → t.to ≢ U

taken_told : (hart : Hart) (pa word : Option ℕ) (cause tval : ℕ) (trail : List Entry) → length trail ≤ 3 → IsTold (trap_taken hart pa word cause tval trail)
unfolding trap_taken
taken_told hart pa word cause tval trail few = record {
  trail = few;
  handled = λ t is. subst (λ (q : Trap). q.to ≢ U) (same_Some _ t is) (handled_by hart.csrs hart.mode cause);
}

stepped_told : (hart : Hart) (pa word rd : ℕ) (o : Outcome) → IsShort o → IsTold (stepped_by hart pa word rd o)
stepped_told hart pa word rd (retires done) few = record { trail = few; handled = λ t is. absurd cc }
stepped_told hart pa word rd (raises cause tval trail) few = taken_told hart (Some pa) (Some word) cause tval trail few

course_told : (seen : Seen) (hart : Hart) (s : Stepped) → Course seen hart s → IsTold s
course_told seen hart s (unreached trail cause fetched) = taken_told hart None None cause hart.pc [] (omega arith)
course_told seen hart s (lacks_word trail pa fetched has) = taken_told hart None None (access_fault Fetch) hart.pc [] (omega arith)
course_told seen hart s (undecoded trail pa word fetched has is) = taken_told hart (Some pa) (Some word) 2 word [] (omega arith)
course_told seen hart s (executes trail pa word d rs1 rs2 o fetched has is first second gives) =
    stepped_told hart pa word d.ops.rd o (outcome_short seen hart (class_of d.ins) d word rs1 rs2 o gives)

pub step_told : (seen : Seen) (hart : Hart) (s : Stepped) → step seen hart ≡ Some s → IsTold s
step_told seen hart s e = course_told seen hart s (course seen hart s e)
