-- What a step's effect tells is so.
use Rattle.std.proofs.Common.{ℕ, zero, suc, ◌≡◌, ◌*◌, ◌/◌, ◌%◌, eqb, Bool, true, false, cond, not, List, [], ◌∷◌, Option, Some, None, refl, sym, ap, subst, ◌∙◌}
use Rattle.std.specs.Prelude.{◌&&◌}
use Rattle.std.specs.List.{AllByRecursion}
use Rattle.rv_fields.specs.declared.access.Access.{Access}
use Rattle.rv_fields.specs.declared.access.Access.TheVariants.{Fetch}
use Rattle.rv_fields.specs.declared.access.AccessKind.{AccessKind}
use Rattle.rv_fields.specs.declared.access.AccessKind.TheVariants.{Load, Store, Lr, Sc, Amo}
use Rattle.rv_fields.specs.declared.class.Class.{Class}
use Rattle.rv_fields.specs.declared.class.Class.TheVariants.{Branches, Jumps, JumpsByRegister, Accesses, ChangesCsr, FencesTranslation, ReturnsFromM, ReturnsFromS}
use Rattle.rv_fields.specs.declared.class.CsrChange.{CsrChange}
use Rattle.rv_fields.specs.declared.csr.Csr.{Csr}
use Rattle.rv_fields.specs.declared.mode.Mode.{Mode}
use Rattle.rv_fields.specs.declared.mode.Mode.TheVariants.{U, S, M}
use Rattle.rv_fields.specs.declared.row_table.Ops.{Ops}
use Rattle.rv_fields.specs.Class.{class_of}
use Rattle.rv_fields.specs.CsrFile.{may_read, may_write}
use Rattle.rv_fields.specs.Decode.{Decoded, sources}
use Rattle.rv_fields.specs.Effect.{Accessed, Entry}
use Rattle.rv_fields.specs.Hart.{Hart, Registers}
use Rattle.rv_fields.specs.Laws.{Below, Suffices, TellsEach, TellsWhatIs}
use Rattle.rv_fields.specs.Meaning.{is_taken}
use Rattle.rv_fields.specs.Memory.{Bytes, Seen, in_ram, told}
use Rattle.rv_fields.specs.RowTable.{form_of}
use Rattle.rv_fields.specs.Status.{tsr, tvm}
use Rattle.rv_fields.specs.Step.{Aim, Outcome, Stepped, Target, access, accessed, aim_at, behind, branch, csr_changed, csr_named_by, csr_operand, data_mode, data_walked, fetch_walked, is_kept_from, jump, lacks_ram, load_reserved, loaded, moved_by, outcome_by, performed, performed_at, returned_from_m, returned_from_s, right_of, rights_of, store, store_if, trap_taken, updated_memory, writes}
use Rattle.rv_fields.specs.Sv39.{Rights, Translated, Walked, reached, faults, behind_entry, entries_in, entry_at, entry_walked, is_bare, is_canonical, is_formed, is_good_pointer, is_pointer, page_number, pte_walked, root_of, translate, walk_from}
use Rattle.rv_fields.proofs.Options.{Always, always_bind, always_if, always_map, always_some, below_same}
use Rattle.rv_fields.proofs.Course.{Course, unreached, lacks_word, undecoded, executes, course}
use Rattle.rv_fields.proofs.Enough.{access_of, trail_of, ReadTold, access_stepped, trail_stepped, pa_stepped}
use Rattle.rv_fields.proofs.Opened.{word_stepped}

-- ---- the entries of a walk

abbrev IsTrue : Bytes → Walked → Type 0
IsTrue byte w = TellsEach byte w.trail

module _ (byte : Bytes) (access : Access) (rights : Rights) (va : ℕ) where
  pte_true : (level pte : ℕ) (below : ℕ → Option Walked) → ((t : ℕ) → Always (IsTrue byte) (below t))
      → Always (IsTrue byte) (pte_walked access rights va level pte below)
  pte_true level pte below h =
      always_if (IsTrue byte) (is_formed pte) _ _
      (always_if (IsTrue byte) (is_pointer pte) _ _
      (always_if (IsTrue byte) (is_good_pointer pte && not (eqb level 0)) _ _ (h (page_number pte)) (always_some (IsTrue byte) _ tt))
      (always_some (IsTrue byte) _ tt))
      (always_some (IsTrue byte) _ tt)

  entry_true : (level at : ℕ) (below : ℕ → Option Walked) → ((t : ℕ) → Always (IsTrue byte) (below t)) → (pte : Option ℕ) → told byte at 8 ≡ Some pte
      → Always (IsTrue byte) (entry_walked access rights va level at below pte)
  entry_true level at below h None is = always_some (IsTrue byte) _ tt
  entry_true level at below h (Some pte) is =
      always_map (IsTrue byte) (behind_entry (record { at = at; pte = pte })) (pte_walked access rights va level pte below) (λ w found_it.
      (is, pte_true level pte below h w found_it))

  walk_true : (level table : ℕ) → Always (IsTrue byte) (walk_from (entries_in byte) access rights va level table)
  walk_true zero table = always_some (IsTrue byte) _ tt
  walk_true (suc level) table =
      always_bind (IsTrue byte) (told byte (entry_at va level table) 8) _ (λ pte is.
      entry_true level (entry_at va level table) (walk_from (entries_in byte) access rights va level) (walk_true level) pte is)

  translate_true : (satp : ℕ) → Always (IsTrue byte) (translate (entries_in byte) satp rights access va)
  translate_true satp =
      always_if (IsTrue byte) (is_bare rights.mode satp) _ _ (always_some (IsTrue byte) _ tt)
      (always_if (IsTrue byte) (is_canonical va) _ _ (walk_true 3 (root_of satp)) (always_some (IsTrue byte) _ tt))

-- ---- what an outcome tells

record OutcomeIsTrue (byte : Bytes) (o : Outcome) : Type 0 where
  trail : TellsEach byte (trail_of o)
  read : ReadTold byte o

-- an outcome that reads nothing
record ReadsNothing (trail : List Entry) (o : Outcome) : Type 0 where
  trail_is : trail_of o ≡ trail
  none : (a : Accessed) → access_of o ≡ Some a → a.read ≡ None

nothing_read : (byte : Bytes) (trail : List Entry) (o : Outcome) → TellsEach byte trail → ReadsNothing trail o → OutcomeIsTrue byte o
nothing_read byte trail o all nothing = record {
  trail = subst (λ (t : List Entry). TellsEach byte t) (sym nothing.trail_is) all;
  read = λ a n is reads. (let none = nothing.none a is in absurd cc);
}

nothing_if : (b : Bool) (trail : List Entry) (o p : Outcome) → ReadsNothing trail o → ReadsNothing trail p → ReadsNothing trail (cond b o p)
nothing_if true trail o p h k = h
nothing_if false trail o p h k = k

-- no access, or one that reads nothing
no_access : (a : Accessed) → None ≡ Some a → a.read ≡ None
no_access a e = absurd cc

writes_alone : (kind : AccessKind) (va pa size : ℕ) (wrote : Option ℕ) (a : Accessed)
    → Some (record { kind = kind; va = va; pa = pa; size = size; read = None; wrote = wrote }) ≡ Some a → a.read ≡ None
writes_alone kind va pa size wrote a e =
    let same : record { kind = kind; va = va; pa = pa; size = size; read = None; wrote = wrote } ≡ a = cc in
    ap (λ (a : Accessed). a.read) (sym same)

module _ (seen : Seen) (hart : Hart) where
  lacks_nothing : (aim : Aim) → ReadsNothing aim.trail (lacks_ram aim)
  lacks_nothing aim = record { trail_is = refl; none = no_access }

  -- what is read is what was told
  read_true : (aim : Aim) (f : Option ℕ → Outcome) → ReadsNothing aim.trail (f None)
      → ((n : ℕ) → (trail_of (f (Some n)) ≡ aim.trail) × (wrote : Option ℕ) × (access_of (f (Some n)) ≡ Some (accessed aim (Some n) wrote)))
      → TellsEach seen.byte aim.trail → (n : Option ℕ) → told seen.byte aim.pa aim.size ≡ Some n → OutcomeIsTrue seen.byte (f n)
  read_true aim f lacks some all None is = nothing_read seen.byte aim.trail (f None) all lacks
  read_true aim f lacks some all (Some n) is =
      let own = some n in
      record {
        trail = subst (λ (t : List Entry). TellsEach seen.byte t) (sym own.0) all;
        read = λ a m accesses reads. (
            let same : accessed aim (Some n) own.1 ≡ a = let q = own.2 in cc in
            let number : Some n ≡ Some m = ap (λ (a : Accessed). a.read) same ∙ reads in
            let at : told seen.byte a.pa a.size ≡ Some (Some n) = subst (λ (a : Accessed). told seen.byte a.pa a.size ≡ Some (Some n)) same is in
            at ∙ ap Some number);
      }

  store_nothing : (aim : Aim) → ReadsNothing aim.trail (store hart aim)
  store_nothing aim = nothing_if (in_ram aim.pa aim.size) aim.trail _ _ (record { trail_is = refl; none = writes_alone _ _ _ _ _ }) (lacks_nothing aim)

  store_if_nothing : (aim : Aim) (stands : Bool) → ReadsNothing aim.trail (store_if hart aim stands)
  store_if_nothing aim true = nothing_if (in_ram aim.pa aim.size) aim.trail _ _ (record { trail_is = refl; none = writes_alone _ _ _ _ _ }) (lacks_nothing aim)
  store_if_nothing aim false = record { trail_is = refl; none = no_access }

  performed_true : (kind : AccessKind) (aim : Aim) → TellsEach seen.byte aim.trail → Always (OutcomeIsTrue seen.byte) (performed kind seen hart aim)
  performed_true Load aim all =
      always_map (OutcomeIsTrue seen.byte) _ _ (read_true aim (loaded hart aim) (lacks_nothing aim) (λ n. (refl, None, refl)) all)
  performed_true Lr aim all =
      always_map (OutcomeIsTrue seen.byte) _ _ (read_true aim (load_reserved hart aim) (lacks_nothing aim) (λ n. (refl, None, refl)) all)
  performed_true Amo aim all =
      always_map (OutcomeIsTrue seen.byte) _ _ (read_true aim (updated_memory hart aim) (lacks_nothing aim) (λ n. (refl, Some _, refl)) all)
  performed_true Store aim all = always_some (OutcomeIsTrue seen.byte) _ (nothing_read seen.byte aim.trail _ all (store_nothing aim))
  performed_true Sc aim all =
      always_map (OutcomeIsTrue seen.byte) _ _ (λ stands is. nothing_read seen.byte aim.trail _ all (store_if_nothing aim stands))

  performed_at_true : (t : Target) (trail : List Entry) (result : Translated) → TellsEach seen.byte trail
      → Always (OutcomeIsTrue seen.byte) (performed_at seen hart t trail result)
  performed_at_true t trail (reached pa) all = performed_true t.kind (aim_at t pa trail) all
  performed_at_true t trail (faults cause) all =
      always_some (OutcomeIsTrue seen.byte) _ (nothing_read seen.byte trail _ all (record { trail_is = refl; none = no_access }))

  quiet : (o : Outcome) → ReadsNothing [] o → Always (OutcomeIsTrue seen.byte) (Some o)
  quiet o nothing = always_some (OutcomeIsTrue seen.byte) o (nothing_read seen.byte [] o tt nothing)

  access_true : (t : Target) → Always (OutcomeIsTrue seen.byte) (access seen hart t)
  access_true t =
      always_if (OutcomeIsTrue seen.byte) (eqb (t.va % t.size) 0) _ _
      (always_bind (OutcomeIsTrue seen.byte) (data_walked seen hart (right_of t.kind) t.va) _ (λ w is.
      performed_at_true t w.trail w.result
      (translate_true seen.byte (right_of t.kind) (rights_of hart (data_mode hart.mode hart.csrs.mstatus)) t.va hart.csrs.satp w is)))
      (quiet _ (record { trail_is = refl; none = no_access }))

  -- ---- all other rows read nothing

  jump_nothing : (value : Option ℕ) (target : ℕ) → ReadsNothing [] (jump hart value target)
  jump_nothing value target =
      nothing_if (eqb (target % 4) 0) [] _ _ (record { trail_is = refl; none = no_access }) (record { trail_is = refl; none = no_access })

  branch_nothing : (taken : Bool) (target : ℕ) → ReadsNothing [] (branch hart taken target)
  branch_nothing true target = jump_nothing None target
  branch_nothing false target = record { trail_is = refl; none = no_access }

  csr_nothing : (change : CsrChange) (ops : Ops) (operand word : ℕ) (csr : Option Csr) → ReadsNothing [] (csr_changed hart change ops operand word csr)
  csr_nothing change ops operand word None = record { trail_is = refl; none = no_access }
  csr_nothing change ops operand word (Some csr) =
      nothing_if (writes change ops) [] _ _
      (nothing_if (may_write hart.csrs csr hart.mode) [] _ _ (record { trail_is = refl; none = no_access }) (record { trail_is = refl; none = no_access }))
      (nothing_if (may_read hart.csrs csr hart.mode) [] _ _ (record { trail_is = refl; none = no_access }) (record { trail_is = refl; none = no_access }))

  from_m_nothing : (word : ℕ) (mode : Mode) → ReadsNothing [] (returned_from_m hart word mode)
  from_m_nothing word M = record { trail_is = refl; none = no_access }
  from_m_nothing word S = record { trail_is = refl; none = no_access }
  from_m_nothing word U = record { trail_is = refl; none = no_access }

  from_s_nothing : (word : ℕ) → ReadsNothing [] (returned_from_s hart word)
  from_s_nothing word =
      nothing_if (is_kept_from hart.mode tsr hart.csrs.mstatus) [] _ _ (record { trail_is = refl; none = no_access }) (record { trail_is = refl; none = no_access })

  outcome_true : (class : Class) (d : Decoded) (word rs1 rs2 : ℕ) → Always (OutcomeIsTrue seen.byte) (outcome_by class seen hart d word rs1 rs2)
  outcome_true Branches d word rs1 rs2 = quiet _ (branch_nothing (is_taken d.ins rs1 rs2) (moved_by d.ops hart.pc))
  outcome_true Jumps d word rs1 rs2 = quiet _ (jump_nothing (Some (behind hart.pc)) (moved_by d.ops hart.pc))
  outcome_true JumpsByRegister d word rs1 rs2 = quiet _ (jump_nothing (Some (behind hart.pc)) (moved_by d.ops rs1 / 2 * 2))
  outcome_true (Accesses kind size extended) d word rs1 rs2 = access_true _
  outcome_true (ChangesCsr change) d word rs1 rs2 =
      quiet _ (csr_nothing change d.ops (csr_operand (form_of d.ins) d.ops rs1) word (csr_named_by d.ops))
  outcome_true FencesTranslation d word rs1 rs2 =
      quiet _ (nothing_if (is_kept_from hart.mode tvm hart.csrs.mstatus) [] _ _ (record { trail_is = refl; none = no_access }) (record { trail_is = refl; none = no_access }))
  outcome_true ReturnsFromM d word rs1 rs2 = quiet _ (from_m_nothing word hart.mode)
  outcome_true ReturnsFromS d word rs1 rs2 = quiet _ (from_s_nothing word)
  outcome_true class d word rs1 rs2 = quiet _ (record { trail_is = refl; none = no_access })

-- ---- the step

own_registers : (x : Registers) (rs : List ℕ) → AllByRecursion (λ r. Below (x r) (x r)) rs
own_registers x [] = tt
own_registers x (r ∷ rs) = (below_same (x r), own_registers x rs)

-- the entries by which pc is translated
fetch_true : (seen : Seen) (hart : Hart) (w : Walked) → fetch_walked seen hart ≡ Some w → TellsEach seen.byte w.trail
fetch_true seen hart w is = translate_true seen.byte Fetch (rights_of hart hart.mode) hart.pc hart.csrs.satp w is

-- a trap of the fetch, or of a word that is no instruction
taken_true : (seen : Seen) (hart : Hart) (pa word : Option ℕ) (cause tval : ℕ)
    → ((at n : ℕ) → pa ≡ Some at → word ≡ Some n → told seen.byte at 4 ≡ Some (Some n))
    → Suffices seen hart (trap_taken hart pa word cause tval []) seen hart.x
unfolding trap_taken
taken_true seen hart pa word cause tval has = record {
  fetch = fetch_true seen hart;
  word = has;
  trail = tt;
  read = λ a n is reads. absurd cc;
  link = λ n d size extended r is decodes class reserves. below_same _;
  registers = λ n d is decodes. own_registers hart.x (sources d);
}

told_there : (byte : Bytes) (pa word at n : ℕ) → told byte pa 4 ≡ Some (Some word) → Some pa ≡ Some at → Some word ≡ Some n → told byte at 4 ≡ Some (Some n)
told_there byte pa word at n has place is =
    let same : pa ≡ at = cc in
    subst (λ (at : ℕ). told byte at 4 ≡ Some (Some n)) same (has ∙ ap Some is)

course_true : (seen : Seen) (hart : Hart) (s : Stepped) → Course seen hart s → Suffices seen hart s seen hart.x
course_true seen hart s (unreached trail cause fetched) = taken_true seen hart None None cause hart.pc (λ at n place is. absurd cc)
course_true seen hart s (lacks_word trail pa fetched has) = taken_true seen hart None None 1 hart.pc (λ at n place is. absurd cc)
course_true seen hart s (undecoded trail pa word fetched has is) =
    taken_true seen hart (Some pa) (Some word) 2 word (λ at n place same. told_there seen.byte pa word at n has place same)
course_true seen hart s (executes trail pa word d rs1 rs2 o fetched has is first second gives) =
    let tells = outcome_true seen hart (class_of d.ins) d word rs1 rs2 o gives in
    record {
      fetch = fetch_true seen hart;
      word = λ at n place same.
          told_there seen.byte pa word at n has (sym (pa_stepped hart pa word d.ops.rd o) ∙ place) (sym (word_stepped hart pa word d.ops.rd o) ∙ same);
      trail = subst (λ (t : List Entry). TellsEach seen.byte t) (sym (trail_stepped hart pa word d.ops.rd o)) tells.trail;
      read = λ a n accesses reads. tells.read a n (sym (access_stepped hart pa word d.ops.rd o) ∙ accesses) reads;
      link = λ n d size extended r of_word decodes class reserves. below_same _;
      registers = λ n d of_word decodes. own_registers hart.x (sources d);
    }

pub tells_what_is : TellsWhatIs
tells_what_is seen hart s e = course_true seen hart s (course seen hart s e)
