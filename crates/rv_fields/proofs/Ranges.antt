-- The numbers of harts, of their effects and of memory stay in range.
use Rattle.std.proofs.Common.{◌≡◌, ℕ, zero, suc, ◌+◌, ◌-◌, ◌*◌, ◌/◌, ◌%◌, ◌^◌, ◌<◌, inl, inr, Bool, true, false, cond, eqb, eqb-true, not, List, [], ◌∷◌, Option, Some, None, option_map, refl, sym, ap, subst, ◌∙◌, arith, lit<, pow_pos, ℤ}
use Rattle.std.proofs.Math.Nat.{div-add-mod, mul_assoc}
use Rattle.std.specs.Prelude.{◌&&◌, IfSome, nat_le, nat_lt}
use Rattle.std.specs.List.{AllByRecursion}
use Rattle.std.proofs.lemmas.Nat.{and_le_r, mod_below, or_lt, pow-add}
use Rattle.std.proofs.lemmas.Nat.Bits.{and_high_mask}
use Rattle.rv_fields.specs.declared.access.Access.{Access}
use Rattle.rv_fields.specs.declared.access.Access.TheVariants.{Fetch}
use Rattle.rv_fields.specs.declared.access.Access.TheVariants as rights
use Rattle.rv_fields.specs.declared.access.AccessKind.{AccessKind}
use Rattle.rv_fields.specs.declared.access.AccessKind.TheVariants.{Load, Store, Lr, Sc, Amo}
use Rattle.rv_fields.specs.declared.class.Class.{Class}
use Rattle.rv_fields.specs.declared.class.Class.TheVariants.{Computes, Branches, Jumps, JumpsByRegister, Accesses, ChangesCsr, Fences, FencesTranslation, CallsEnvironment, Breaks, ReturnsFromM, ReturnsFromS}
use Rattle.rv_fields.specs.declared.class.Extension.{Extension}
use Rattle.rv_fields.specs.declared.class.Extension.TheVariants.{Sign, Zeros}
use Rattle.rv_fields.specs.declared.class.CsrChange.{CsrChange}
use Rattle.rv_fields.specs.declared.csr.Csr.{Csr}
use Rattle.rv_fields.specs.declared.csr.Csr.TheVariants.{Sstatus, Stvec, Sepc, Mtvec, Mepc, Mhartid}
use Rattle.rv_fields.specs.declared.mode.Mode.{Mode}
use Rattle.rv_fields.specs.declared.mode.Mode.TheVariants.{U, S, M}
use Rattle.rv_fields.specs.declared.row_table.Ins.{Ins}
use Rattle.rv_fields.specs.declared.row_table.Ins.TheVariants.{Lb, Lh, Lw, Ld, Lbu, Lhu, Lwu, Sb, Sh, Sw, Sd, ScW, AmoswapW, AmoaddW, AmoxorW, AmoandW, AmoorW, AmominW, AmomaxW, AmominuW, AmomaxuW, ScD, AmoswapD, AmoaddD, AmoxorD, AmoandD, AmoorD, AmominD, AmomaxD, AmominuD, AmomaxuD, LrW, LrD}
use Rattle.rv_fields.specs.declared.row_table.Ops.{Ops}
use Rattle.rv_fields.specs.Attempt.{◌>>=◌}
use Rattle.rv_fields.specs.Class.{class_of}
use Rattle.rv_fields.specs.Csr.{address_bits, csr_row}
use Rattle.rv_fields.specs.CsrFile.{CsrFile, held, may_read, may_write, reading, shown, source}
use Rattle.rv_fields.specs.Decode.{Decoded, decoded, fields_of, has_rd, ins_at, rd_of}
use Rattle.rv_fields.specs.Effect.{Accessed, Entry}
use Rattle.rv_fields.specs.Hart.{Hart, Registers, Reserved}
use Rattle.rv_fields.specs.Immediate.{wrapped}
use Rattle.rv_fields.specs.Meaning.{amo_of, is_taken, signed}
use Rattle.rv_fields.specs.Memory.{Bytes, IsSize, Seen, bytes_after, in_ram, number_of, stored, told, told_bytes}
use Rattle.rv_fields.specs.Ranges.{AccessInRange, AreBytes, BytesStay, EffectInRange, EntryInRange, FetchInRange, HartInRange, InRangeAtReset, IsLegal, RangesStay, ReservedInRange, WriteInRange}
use Rattle.rv_fields.specs.RowTable.{form_of}
use Rattle.rv_fields.specs.Status.{mode_number, tsr, tvm}
use Rattle.rv_fields.specs.Step.{Aim, Done, Outcome, Stepped, Target, retires, raises, access, accessed, accesses_done, aim_at, behind, branch, changed_to, csr_changed, csr_named_by, csr_operand, csr_read, csr_written, csrs_done, data_mode, data_walked, extended_by, fetch_walked, goes, illegal, is_kept_from, jump, lacks_ram, load_reserved, loaded, low_part, moved_by, outcome_by, performed, performed_at, rd_written, returned, returned_from_m, right_of, rights_of, stepped_by, store, store_if, trap_taken, traps, updated_memory, with_write, writes}
use Rattle.rv_fields.specs.Sv39.{Rights, Translated, Walked, reached, faults, access_fault, allows, behind_entry, entries_in, entry_at, entry_walked, is_bare, is_canonical, is_formed, is_good_pointer, is_pointer, leaf_translated, misaligned, page_fault, page_number, pte_walked, root_of, translate, walk_from}
use Rattle.rv_fields.specs.Trap.{handler_of, mret_done, mret_mode, sret_done, sret_mode, trap_mode}
use Rattle.rv_fields.proofs.Course.{Course, unreached, lacks_word, undecoded, executes, course}
use Rattle.rv_fields.proofs.Legal.{Within, legal_at_reset, legal_returned, legal_trapped, legal_written, within_below}
use Rattle.rv_fields.proofs.MeaningLaws.{alu_below, amo_below, modulo_below}
use Rattle.rv_fields.proofs.Options.{Always, always_bind, always_if, always_map, always_some, found, found_map}

-- ---- numbers in memory

-- one more byte
pub one_more : (size : ℕ) → 2 ^ (8 * suc size) ≡ 2 ^ 8 * 2 ^ (8 * size)
one_more size = let more : 8 * suc size ≡ 8 + 8 * size = omega arith in ap (λ k. 2 ^ k) more ∙ pow-add 2 8 (8 * size)

pub joined : (low high below all : ℕ) → low < 2 ^ 8 → high < below → all ≡ 2 ^ 8 * below → low + 256 * high < all
joined low high below all h k e = omega arith

spelled_below : (byte : Bytes) → AreBytes byte → (at size : ℕ) (bs : List ℕ) → told_bytes byte at size ≡ Some bs → number_of bs < 2 ^ (8 * size)
spelled_below byte are at zero bs e = let empty : [] ≡ bs = cc in subst (λ (bs : List ℕ). number_of bs < 1) empty (lit< tt)
spelled_below byte are at (suc size) bs e =
    let b = found (byte at) (λ b. told_bytes byte (at + 1) size >>= (λ bs. Some (b ∷ bs))) bs e in
    let rest = found (told_bytes byte (at + 1) size) (λ bs. Some (b.0 ∷ bs)) bs b.2 in
    let all : b.0 ∷ rest.0 ≡ bs = let q = rest.2 in cc in
    let low : b.0 < 2 ^ 8 = are at b.0 b.1 in
    let high : number_of rest.0 < 2 ^ (8 * size) = spelled_below byte are (at + 1) size rest.0 rest.1 in
    subst (λ (bs : List ℕ). number_of bs < 2 ^ (8 * suc size)) all
    (joined b.0 (number_of rest.0) (2 ^ (8 * size)) (2 ^ (8 * suc size)) low high (one_more size))

pub told_below_size : (byte : Bytes) → AreBytes byte → (at size n : ℕ) → told byte at size ≡ Some (Some n) → n < 2 ^ (8 * size)
told_below_size byte are at size n e = by (in_ram at size) e
  where
    by : (b : Bool) → cond b (option_map (λ bs. Some (number_of bs)) (told_bytes byte at size)) (Some None) ≡ Some (Some n) → n < 2 ^ (8 * size)
    by false e = absurd cc
    by true e =
        let bs = found_map (λ bs. Some (number_of bs)) (told_bytes byte at size) (Some n) e in
        let same : number_of bs.0 ≡ n = let q = bs.2 in cc in
        subst (λ (n : ℕ). n < 2 ^ (8 * size)) same (spelled_below byte are at size bs.0 bs.1)

pub told_in_ram : (byte : Bytes) (at size n : ℕ) → told byte at size ≡ Some (Some n) → in_ram at size ≡ true
told_in_ram byte at size n e = by (in_ram at size) e
  where
    by : (b : Bool) → cond b (option_map (λ bs. Some (number_of bs)) (told_bytes byte at size)) (Some None) ≡ Some (Some n) → b ≡ true
    by false e = absurd cc
    by true e = refl

-- a number of a size fits a register
below_size : (size n : ℕ) → IsSize size → n < 2 ^ (8 * size) → n < 2 ^ 64
below_size size n (inl one) small = let byte : n < 2 ^ 8 = subst (λ (s : ℕ). n < 2 ^ (8 * s)) one small in omega arith
below_size size n (inr (inl two)) small = let half : n < 2 ^ 16 = subst (λ (s : ℕ). n < 2 ^ (8 * s)) two small in omega arith
below_size size n (inr (inr (inl four))) small = let word : n < 2 ^ 32 = subst (λ (s : ℕ). n < 2 ^ (8 * s)) four small in omega arith
below_size size n (inr (inr (inr eight))) small = let whole : n < 2 ^ 64 = subst (λ (s : ℕ). n < 2 ^ (8 * s)) eight small in whole

extended_below : (extended : Extension) (size n : ℕ) → IsSize size → n < 2 ^ (8 * size) → extended_by extended size n < 2 ^ 64
extended_below Sign size n is small = modulo_below (2 ^ 64) (signed (8 * size) n) (lit< tt)
extended_below Zeros size n is small = below_size size n is small

wrapped_below : (z : ℤ) → wrapped z < 2 ^ 64
wrapped_below z = modulo_below (2 ^ 64) z (lit< tt)

-- ---- the walk

abbrev EntriesInRange : List Entry → Type 0
EntriesInRange trail = AllByRecursion EntryInRange trail

-- translation leaves the place in a page
abbrev ResultInRange : ℕ → Translated → Type 0
ResultInRange va (reached pa) = pa % 8 ≡ va % 8
ResultInRange va (faults cause) = cause < 16

record WalkedInRange (va : ℕ) (w : Walked) : Type 0 where
  trail : EntriesInRange w.trail
  result : ResultInRange va w.result

page_small : (access : Access) → page_fault access < 16
page_small rights.Fetch = lit< tt
page_small rights.Load = lit< tt
page_small rights.Store = lit< tt

access_small : (access : Access) → access_fault access < 16
access_small rights.Fetch = lit< tt
access_small rights.Load = lit< tt
access_small rights.Store = lit< tt

misaligned_small : (access : Access) → misaligned access < 16
misaligned_small rights.Fetch = lit< tt
misaligned_small rights.Load = lit< tt
misaligned_small rights.Store = lit< tt

result_if : (va : ℕ) (b : Bool) (p q : Translated) → ResultInRange va p → ResultInRange va q → ResultInRange va (cond b p q)
result_if va true p q h k = h
result_if va false p q h k = k

-- the place in a page of so many times 4 KiB
in_page : (va number many : ℕ) → (number * 2 ^ 12 + va % (2 ^ 12 * many)) % 8 ≡ va % 8
in_page va number many =
    let whole = div-add-mod va (2 ^ 12 * many) in
    let split = mul_assoc (2 ^ 12) many (va / (2 ^ 12 * many)) in
    omega arith

pub in_leaf : (va number level : ℕ) → (number * 2 ^ 12 + va % 2 ^ (12 + 9 * level)) % 8 ≡ va % 8
in_leaf va number level =
    subst (λ (size : ℕ). (number * 2 ^ 12 + va % size) % 8 ≡ va % 8) (sym (pow-add 2 12 (9 * level))) (in_page va number (2 ^ (9 * level)))

-- so what is aligned stays so
pub aligned_at : (size va pa : ℕ) → IsSize size → pa % 8 ≡ va % 8 → va % size ≡ 0 → pa % size ≡ 0
aligned_at size va pa (inl one) same e = rw one (omega arith)
aligned_at size va pa (inr (inl two)) same e = let aligned : va % 2 ≡ 0 = subst (λ (s : ℕ). va % s ≡ 0) two e in rw two (omega arith)
aligned_at size va pa (inr (inr (inl four))) same e = let aligned : va % 4 ≡ 0 = subst (λ (s : ℕ). va % s ≡ 0) four e in rw four (omega arith)
aligned_at size va pa (inr (inr (inr eight))) same e = let aligned : va % 8 ≡ 0 = subst (λ (s : ℕ). va % s ≡ 0) eight e in rw eight (omega arith)

module _ (byte : Bytes) (are : AreBytes byte) (access : Access) (by : Rights) (va : ℕ) where
  no_page : Always (WalkedInRange va) (Some (record { trail = []; result = faults (page_fault access) }))
  no_page = always_some (WalkedInRange va) _ (record { trail = tt; result = page_small access })

  leaf_range : (level pte : ℕ) → ResultInRange va (leaf_translated access by va level pte)
  leaf_range level pte =
      result_if va (allows access by pte && eqb (page_number pte % 2 ^ (9 * level)) 0) (reached (page_number pte * 2 ^ 12 + va % 2 ^ (12 + 9 * level)))
      (faults (page_fault access)) (in_leaf va (page_number pte) level) (page_small access)

  pte_range : (level pte : ℕ) (below : ℕ → Option Walked) → ((t : ℕ) → Always (WalkedInRange va) (below t))
      → Always (WalkedInRange va) (pte_walked access by va level pte below)
  pte_range level pte below h =
      always_if (WalkedInRange va) (is_formed pte) _ _
      (always_if (WalkedInRange va) (is_pointer pte) _ _
      (always_if (WalkedInRange va) (is_good_pointer pte && not (eqb level 0)) _ _ (h (page_number pte)) no_page)
      (always_some (WalkedInRange va) _ (record { trail = tt; result = leaf_range level pte })))
      no_page

  entry_range : (level at : ℕ) (below : ℕ → Option Walked) → ((t : ℕ) → Always (WalkedInRange va) (below t)) → at % 8 ≡ 0 → (pte : Option ℕ) → told byte at 8 ≡ Some pte
      → Always (WalkedInRange va) (entry_walked access by va level at below pte)
  entry_range level at below h aligned None is = always_some (WalkedInRange va) _ (record { trail = tt; result = access_small access })
  entry_range level at below h aligned (Some pte) is =
      always_map (WalkedInRange va) (behind_entry (record { at = at; pte = pte })) (pte_walked access by va level pte below) (λ w found_it.
      let rest = pte_range level pte below h w found_it in
      record {
        trail = (record { aligned = aligned; in_it = told_in_ram byte at 8 pte is; pte = told_below_size byte are at 8 pte is }, rest.trail);
        result = rest.result;
      })

  walk_range : (level table : ℕ) → Always (WalkedInRange va) (walk_from (entries_in byte) access by va level table)
  walk_range zero table = no_page
  walk_range (suc level) table =
      always_bind (WalkedInRange va) (told byte (entry_at va level table) 8) _ (λ pte is.
      entry_range level (entry_at va level table) (walk_from (entries_in byte) access by va level) (walk_range level) (omega arith) pte is)

  translate_range : (satp : ℕ) → Always (WalkedInRange va) (translate (entries_in byte) satp by access va)
  translate_range satp =
      always_if (WalkedInRange va) (is_bare by.mode satp) _ _ (always_some (WalkedInRange va) _ (record { trail = tt; result = refl }))
      (always_if (WalkedInRange va) (is_canonical va) _ _ (walk_range 3 (root_of satp)) no_page)

-- ---- addresses of instructions

record IsAddress (n : ℕ) : Type 0 where
  small : n < 2 ^ 64
  aligned : n % 4 ≡ 0

address_from : (n : ℕ) → Within n address_bits → IsAddress n
address_from n within =
    let small : n < 2 ^ 64 = within_below n address_bits within (lit< tt) in
    let same : n ≡ n / 4 * 4 = sym within ∙ and_high_mask 64 2 (omega arith) n small in
    record { small = small; aligned = omega arith }

handler_address : (file : CsrFile) → IsLegal file → (mode : Mode) → IsAddress (handler_of file mode)
handler_address file legal S = address_from file.stvec (legal.bits Stvec)
handler_address file legal M = address_from file.mtvec (legal.bits Mtvec)
handler_address file legal U = address_from file.mtvec (legal.bits Mtvec)

behind_address : (pc : ℕ) → pc % 4 ≡ 0 → IsAddress (behind pc)
behind_address pc aligned = record { small = mod_below (pc + 4) (2 ^ 64) (lit< tt); aligned = omega arith }

-- ---- outcomes

abbrev IsValue : ℕ → Type 0
IsValue v = v < 2 ^ 64

record DoneInRange (done : Done) : Type 0 where
  value : IfSome done.value IsValue
  next : IsAddress done.next
  csrs : IsLegal done.csrs
  reserved : IfSome done.reserved ReservedInRange
  access : IfSome done.access AccessInRange
  trail : EntriesInRange done.trail

abbrev OutcomeInRange : Outcome → Type 0
OutcomeInRange (retires done) = DoneInRange done
OutcomeInRange (raises cause tval trail) = (cause < 16) × (tval < 2 ^ 64) × EntriesInRange trail

range_if : (b : Bool) (o p : Outcome) → (b ≡ true → OutcomeInRange o) → OutcomeInRange p → OutcomeInRange (cond b o p)
range_if true o p h k = h refl
range_if false o p h k = k

illegal_range : (word : ℕ) → word < 2 ^ 64 → OutcomeInRange (illegal word)
illegal_range word small = (lit< tt, small, tt)

-- ---- accesses

record AimInRange (aim : Aim) : Type 0 where
  size : IsSize aim.size
  va : aim.va < 2 ^ 64
  va_aligned : aim.va % aim.size ≡ 0
  pa_aligned : aim.pa % aim.size ≡ 0
  trail : EntriesInRange aim.trail
  amo : (n operand : ℕ) → amo_of aim.ins n operand < 2 ^ (8 * aim.size)

-- the rows that access memory have a size, and write numbers of that size
abbrev HasSize : Ins → Class → Type 0
HasSize ins (Accesses kind size extended) = IsSize size × ((n operand : ℕ) → amo_of ins n operand < 2 ^ (8 * size))
HasSize ins class = Unit {0}

has_size : (ins : Ins) → HasSize ins (class_of ins)
has_size Lb = (inl refl, λ n operand. lit< tt)
has_size Lh = (inr (inl refl), λ n operand. lit< tt)
has_size Lw = (inr (inr (inl refl)), λ n operand. lit< tt)
has_size Ld = (inr (inr (inr refl)), λ n operand. lit< tt)
has_size Lbu = (inl refl, λ n operand. lit< tt)
has_size Lhu = (inr (inl refl), λ n operand. lit< tt)
has_size Lwu = (inr (inr (inl refl)), λ n operand. lit< tt)
has_size Sb = (inl refl, λ n operand. lit< tt)
has_size Sh = (inr (inl refl), λ n operand. lit< tt)
has_size Sw = (inr (inr (inl refl)), λ n operand. lit< tt)
has_size Sd = (inr (inr (inr refl)), λ n operand. lit< tt)
has_size LrW = (inr (inr (inl refl)), λ n operand. lit< tt)
has_size LrD = (inr (inr (inr refl)), λ n operand. lit< tt)
has_size ScW = (inr (inr (inl refl)), λ n operand. lit< tt)
has_size ScD = (inr (inr (inr refl)), λ n operand. lit< tt)
has_size AmoswapW = (inr (inr (inl refl)), amo_below AmoswapW)
has_size AmoaddW = (inr (inr (inl refl)), amo_below AmoaddW)
has_size AmoxorW = (inr (inr (inl refl)), amo_below AmoxorW)
has_size AmoandW = (inr (inr (inl refl)), amo_below AmoandW)
has_size AmoorW = (inr (inr (inl refl)), amo_below AmoorW)
has_size AmominW = (inr (inr (inl refl)), amo_below AmominW)
has_size AmomaxW = (inr (inr (inl refl)), amo_below AmomaxW)
has_size AmominuW = (inr (inr (inl refl)), amo_below AmominuW)
has_size AmomaxuW = (inr (inr (inl refl)), amo_below AmomaxuW)
has_size AmoswapD = (inr (inr (inr refl)), amo_below AmoswapD)
has_size AmoaddD = (inr (inr (inr refl)), amo_below AmoaddD)
has_size AmoxorD = (inr (inr (inr refl)), amo_below AmoxorD)
has_size AmoandD = (inr (inr (inr refl)), amo_below AmoandD)
has_size AmoorD = (inr (inr (inr refl)), amo_below AmoorD)
has_size AmominD = (inr (inr (inr refl)), amo_below AmominD)
has_size AmomaxD = (inr (inr (inr refl)), amo_below AmomaxD)
has_size AmominuD = (inr (inr (inr refl)), amo_below AmominuD)
has_size AmomaxuD = (inr (inr (inr refl)), amo_below AmomaxuD)
has_size ins = tt

module _ (seen : Seen) (are : AreBytes seen.byte) (hart : Hart) (own : HartInRange hart) where
  done_range : (aim : Aim) (value : Option ℕ) (reserved : Option Reserved) (access : Option Accessed) → AimInRange aim → IfSome value IsValue
      → IfSome reserved ReservedInRange → IfSome access AccessInRange → OutcomeInRange (accesses_done hart aim value reserved access)
  done_range aim value reserved access ok small res acc = record {
    value = small;
    next = behind_address hart.pc own.aligned;
    csrs = own.csrs;
    reserved = res;
    access = acc;
    trail = ok.trail;
  }

  lacks_range : (aim : Aim) → AimInRange aim → OutcomeInRange (lacks_ram aim)
  lacks_range aim ok = (access_small (right_of aim.kind), ok.va, ok.trail)

  accessed_range : (aim : Aim) (read wrote : Option ℕ) → AimInRange aim → in_ram aim.pa aim.size ≡ true → IfSome read (λ n. n < 2 ^ (8 * aim.size))
      → IfSome wrote (λ n. n < 2 ^ (8 * aim.size)) → AccessInRange (accessed aim read wrote)
  accessed_range aim read wrote ok in_it reads writes =
      record { size = ok.size; va = ok.va; va_aligned = ok.va_aligned; pa_aligned = ok.pa_aligned; in_it = in_it; read = reads; wrote = writes }

  loaded_range : (aim : Aim) → AimInRange aim → (n : Option ℕ) → told seen.byte aim.pa aim.size ≡ Some n → OutcomeInRange (loaded hart aim n)
  loaded_range aim ok None is = lacks_range aim ok
  loaded_range aim ok (Some n) is =
      let small = told_below_size seen.byte are aim.pa aim.size n is in
      done_range aim _ hart.reserved _ ok (extended_below aim.extended aim.size n ok.size small) own.reserved
      (accessed_range aim (Some n) None ok (told_in_ram seen.byte aim.pa aim.size n is) small tt)

  load_reserved_range : (aim : Aim) → AimInRange aim → (n : Option ℕ) → told seen.byte aim.pa aim.size ≡ Some n → OutcomeInRange (load_reserved hart aim n)
  load_reserved_range aim ok None is = lacks_range aim ok
  load_reserved_range aim ok (Some n) is =
      let small = told_below_size seen.byte are aim.pa aim.size n is in
      let in_it = told_in_ram seen.byte aim.pa aim.size n is in
      done_range aim _ _ _ ok (extended_below aim.extended aim.size n ok.size small) (record { size = ok.size; aligned = ok.pa_aligned; in_it = in_it })
      (accessed_range aim (Some n) None ok in_it small tt)

  updated_range : (aim : Aim) → AimInRange aim → (n : Option ℕ) → told seen.byte aim.pa aim.size ≡ Some n → OutcomeInRange (updated_memory hart aim n)
  updated_range aim ok None is = lacks_range aim ok
  updated_range aim ok (Some n) is =
      let small = told_below_size seen.byte are aim.pa aim.size n is in
      done_range aim _ hart.reserved _ ok (extended_below aim.extended aim.size n ok.size small) own.reserved
      (accessed_range aim (Some n) (Some (amo_of aim.ins n aim.rs2)) ok (told_in_ram seen.byte aim.pa aim.size n is) small (ok.amo n aim.rs2))

  low_below : (aim : Aim) → low_part aim.size aim.rs2 < 2 ^ (8 * aim.size)
  low_below aim = mod_below aim.rs2 (2 ^ (8 * aim.size)) (pow_pos (8 * aim.size))

  store_range : (aim : Aim) → AimInRange aim → OutcomeInRange (store hart aim)
  store_range aim ok =
      range_if (in_ram aim.pa aim.size) _ _
      (λ in_it. done_range aim None hart.reserved _ ok tt own.reserved (accessed_range aim None (Some (low_part aim.size aim.rs2)) ok in_it tt (low_below aim)))
      (lacks_range aim ok)

  store_if_range : (aim : Aim) → AimInRange aim → (stands : Bool) → OutcomeInRange (store_if hart aim stands)
  store_if_range aim ok true =
      range_if (in_ram aim.pa aim.size) _ _
      (λ in_it. done_range aim (Some 0) None _ ok (lit< tt) tt (accessed_range aim None (Some (low_part aim.size aim.rs2)) ok in_it tt (low_below aim)))
      (lacks_range aim ok)
  store_if_range aim ok false = done_range aim (Some 1) None None ok (lit< tt) tt tt

  performed_range : (kind : AccessKind) (aim : Aim) → AimInRange aim → Always OutcomeInRange (performed kind seen hart aim)
  performed_range Load aim ok = always_map OutcomeInRange _ _ (loaded_range aim ok)
  performed_range Lr aim ok = always_map OutcomeInRange _ _ (load_reserved_range aim ok)
  performed_range Amo aim ok = always_map OutcomeInRange _ _ (updated_range aim ok)
  performed_range Store aim ok = always_some OutcomeInRange _ (store_range aim ok)
  performed_range Sc aim ok = always_map OutcomeInRange _ _ (λ stands is. store_if_range aim ok stands)

  performed_at_range : (t : Target) (trail : List Entry) (result : Translated) → ((pa : ℕ) → pa % 8 ≡ t.va % 8 → AimInRange (aim_at t pa trail))
      → ResultInRange t.va result → t.va < 2 ^ 64 → EntriesInRange trail → Always OutcomeInRange (performed_at seen hart t trail result)
  performed_at_range t trail (reached pa) ok in_place va all = performed_range t.kind (aim_at t pa trail) (ok pa in_place)
  performed_at_range t trail (faults cause) ok small va all = always_some OutcomeInRange _ (small, va, all)

  access_range : (t : Target) → IsSize t.size → t.va < 2 ^ 64 → ((n operand : ℕ) → amo_of t.ins n operand < 2 ^ (8 * t.size))
      → Always OutcomeInRange (access seen hart t)
  access_range t size va amo = by_alignment (eqb (t.va % t.size) 0) refl
    where
      by_alignment : (b : Bool) → b ≡ eqb (t.va % t.size) 0
          → Always OutcomeInRange (cond b (data_walked seen hart (right_of t.kind) t.va >>= (λ w. performed_at seen hart t w.trail w.result)) (Some (traps (misaligned (right_of t.kind)) t.va)))
      by_alignment false e = always_some OutcomeInRange _ (misaligned_small (right_of t.kind), va, tt)
      by_alignment true e =
          always_bind OutcomeInRange (data_walked seen hart (right_of t.kind) t.va) _ (λ w is.
          let walked = translate_range seen.byte are (right_of t.kind) (rights_of hart (data_mode hart.mode hart.csrs.mstatus)) t.va hart.csrs.satp w is in
          let aligned = eqb-true (t.va % t.size) 0 (sym e) in
          performed_at_range t w.trail w.result
          (λ pa same. record {
            size = size;
            va = va;
            va_aligned = aligned;
            pa_aligned = aligned_at t.size t.va pa size same aligned;
            trail = walked.trail;
            amo = amo;
          }) walked.result va walked.trail)

  -- ---- CSRs

  shown_below : (csr : Csr) → shown csr (held hart.csrs csr) < 2 ^ 64
  shown_below Sstatus = let most = and_le_r hart.csrs.mstatus (csr_row Sstatus).writable in omega arith
  shown_below Mhartid = own.csrs.bits Mhartid
  shown_below csr = within_below (held hart.csrs csr) (csr_row (source csr)).writable (own.csrs.bits csr) (lit< tt)

  constant_below : (csr : Csr) → (csr_row csr).constant < 2 ^ 64
  constant_below Sstatus = lit< tt
  constant_below csr = lit< tt

  reading_below : (csr : Csr) → reading hart.csrs csr < 2 ^ 64
  reading_below csr = or_lt 64 (shown csr (held hart.csrs csr)) (csr_row csr).constant (shown_below csr) (constant_below csr)

  csrs_range : (value : ℕ) (csrs : CsrFile) → value < 2 ^ 64 → IsLegal csrs → OutcomeInRange (csrs_done hart value csrs)
  csrs_range value csrs small legal =
      record { value = small; next = behind_address hart.pc own.aligned; csrs = legal; reserved = own.reserved; access = tt; trail = tt }

  csr_written_range : (change : CsrChange) (operand word : ℕ) (csr : Csr) → word < 2 ^ 64 → OutcomeInRange (csr_written hart change operand word csr)
  csr_written_range change operand word csr small =
      range_if (may_write hart.csrs csr hart.mode) _ _
      (λ may. csrs_range _ _ (reading_below csr) (legal_written hart.csrs csr (changed_to change (reading hart.csrs csr) operand) own.csrs))
      (illegal_range word small)

  csr_read_range : (word : ℕ) (csr : Csr) → word < 2 ^ 64 → OutcomeInRange (csr_read hart word csr)
  csr_read_range word csr small =
      range_if (may_read hart.csrs csr hart.mode) _ _ (λ may. csrs_range _ _ (reading_below csr) own.csrs) (illegal_range word small)

  csr_range : (change : CsrChange) (ops : Ops) (operand word : ℕ) (csr : Option Csr) → word < 2 ^ 64
      → OutcomeInRange (csr_changed hart change ops operand word csr)
  csr_range change ops operand word None small = illegal_range word small
  csr_range change ops operand word (Some csr) small =
      range_if (writes change ops) _ _ (λ does. csr_written_range change operand word csr small) (csr_read_range word csr small)

  -- ---- all rows

  goes_range : (value : Option ℕ) (next : ℕ) → IfSome value IsValue → IsAddress next → OutcomeInRange (goes hart value next)
  goes_range value next small address =
      record { value = small; next = address; csrs = own.csrs; reserved = own.reserved; access = tt; trail = tt }

  jump_range : (value : Option ℕ) (target : ℕ) → IfSome value IsValue → target < 2 ^ 64 → OutcomeInRange (jump hart value target)
  jump_range value target small below =
      range_if (eqb (target % 4) 0) _ _
      (λ aligned. goes_range value target small (record { small = below; aligned = eqb-true (target % 4) 0 aligned }))
      (lit< tt, below, tt)

  branch_range : (taken : Bool) (target : ℕ) → target < 2 ^ 64 → OutcomeInRange (branch hart taken target)
  branch_range true target below = jump_range None target tt below
  branch_range false target below = goes_range None (behind hart.pc) tt (behind_address hart.pc own.aligned)

  environment_small : (mode : Mode) → 8 + mode_number mode < 16
  environment_small U = lit< tt
  environment_small S = lit< tt
  environment_small M = lit< tt

  returned_range : (mode : Mode) (pc : ℕ) (csrs : CsrFile) → IsAddress pc → IsLegal csrs → OutcomeInRange (returned hart mode pc csrs)
  returned_range mode pc csrs address legal =
      record { value = tt; next = address; csrs = legal; reserved = own.reserved; access = tt; trail = tt }

  from_m_range : (word : ℕ) (mode : Mode) → word < 2 ^ 64 → OutcomeInRange (returned_from_m hart word mode)
  from_m_range word M small =
      returned_range (mret_mode hart.csrs) hart.csrs.mepc (mret_done hart.csrs) (address_from hart.csrs.mepc (own.csrs.bits Mepc)) (legal_returned hart.csrs own.csrs).0
  from_m_range word S small = illegal_range word small
  from_m_range word U small = illegal_range word small

  from_s_range : (word : ℕ) (kept : Bool) → word < 2 ^ 64
      → OutcomeInRange (cond kept (illegal word) (returned hart (sret_mode hart.csrs) hart.csrs.sepc (sret_done hart.csrs)))
  from_s_range word true small = illegal_range word small
  from_s_range word false small =
      returned_range (sret_mode hart.csrs) hart.csrs.sepc (sret_done hart.csrs) (address_from hart.csrs.sepc (own.csrs.bits Sepc)) (legal_returned hart.csrs own.csrs).1

  halved : (n : ℕ) → n < 2 ^ 64 → n / 2 * 2 < 2 ^ 64
  halved n small = omega arith

  outcome_range : (class : Class) (d : Decoded) (word rs1 rs2 : ℕ) → HasSize d.ins class → word < 2 ^ 64
      → Always OutcomeInRange (outcome_by class seen hart d word rs1 rs2)
  outcome_range Computes d word rs1 rs2 size small =
      always_some OutcomeInRange _ (goes_range _ _ (alu_below d.ins _ _) (behind_address hart.pc own.aligned))
  outcome_range Branches d word rs1 rs2 size small =
      always_some OutcomeInRange _ (branch_range (is_taken d.ins rs1 rs2) (moved_by d.ops hart.pc) (wrapped_below _))
  outcome_range Jumps d word rs1 rs2 size small =
      always_some OutcomeInRange _ (jump_range (Some (behind hart.pc)) (moved_by d.ops hart.pc) (behind_address hart.pc own.aligned).small (wrapped_below _))
  outcome_range JumpsByRegister d word rs1 rs2 size small =
      always_some OutcomeInRange _
      (jump_range (Some (behind hart.pc)) (moved_by d.ops rs1 / 2 * 2) (behind_address hart.pc own.aligned).small (halved (moved_by d.ops rs1) (wrapped_below _)))
  outcome_range (Accesses kind size extended) d word rs1 rs2 has small = access_range _ has.0 (wrapped_below _) has.1
  outcome_range (ChangesCsr change) d word rs1 rs2 size small =
      always_some OutcomeInRange _ (csr_range change d.ops (csr_operand (form_of d.ins) d.ops rs1) word (csr_named_by d.ops) small)
  outcome_range Fences d word rs1 rs2 size small =
      always_some OutcomeInRange _ (goes_range None (behind hart.pc) tt (behind_address hart.pc own.aligned))
  outcome_range FencesTranslation d word rs1 rs2 size small =
      always_some OutcomeInRange _
      (range_if (is_kept_from hart.mode tvm hart.csrs.mstatus) _ _ (λ kept. illegal_range word small)
      (goes_range None (behind hart.pc) tt (behind_address hart.pc own.aligned)))
  outcome_range CallsEnvironment d word rs1 rs2 size small = always_some OutcomeInRange _ (environment_small hart.mode, lit< tt, tt)
  outcome_range Breaks d word rs1 rs2 size small = always_some OutcomeInRange _ (lit< tt, own.pc, tt)
  outcome_range ReturnsFromM d word rs1 rs2 size small = always_some OutcomeInRange _ (from_m_range word hart.mode small)
  outcome_range ReturnsFromS d word rs1 rs2 size small =
      always_some OutcomeInRange _ (from_s_range word (is_kept_from hart.mode tsr hart.csrs.mstatus) small)

-- ---- the step

-- the registers after a write
registers_put : (x : Registers) (w : Option (ℕ × ℕ)) → ((r v : ℕ) → x r ≡ Some v → v < 2 ^ 64) → IfSome w WriteInRange
    → (r v : ℕ) → with_write x w r ≡ Some v → v < 2 ^ 64
registers_put x None all small r v e = all r v e
registers_put x (Some w) all small r v e = by (eqb r w.0) e
  where
    by : (b : Bool) → cond b (Some w.1) (x r) ≡ Some v → v < 2 ^ 64
    by true e = let same : w.1 ≡ v = cc in subst (λ (v : ℕ). v < 2 ^ 64) same small.value
    by false e = all r v e

zero_stays : (x : Registers) (w : Option (ℕ × ℕ)) → x 0 ≡ Some 0 → IfSome w WriteInRange → with_write x w 0 ≡ Some 0
zero_stays x None known small = known
zero_stays x (Some w) known small = by (eqb 0 w.0) refl
  where
    by : (b : Bool) → b ≡ eqb 0 w.0 → cond b (Some w.1) (x 0) ≡ Some 0
    by true e = let is : 0 ≡ w.0 = eqb-true 0 w.0 (sym e) in let above : 0 < w.0 = small.written in absurd (omega arith)
    by false e = known

write_range : (rd : ℕ) (value : Option ℕ) → rd < 32 → IfSome value IsValue → IfSome (rd_written rd value) WriteInRange
write_range rd None small below = tt
write_range zero (Some value) small below = tt
write_range (suc r) (Some value) small below = record { written = omega arith; register = small; value = below }

rd_if : (has : Bool) (word : ℕ) → cond has (rd_of word) 0 < 32
rd_if true word = mod_below (word / 2 ^ 7) (2 ^ 5) (lit< tt)
rd_if false word = lit< tt

rd_below : (word : ℕ) (d : Decoded) → decoded word ≡ Some d → d.ops.rd < 32
rd_below word d e =
    let ins = found_map (λ ins. record { ins = ins; ops = fields_of (form_of ins) word }) (ins_at word) d e in
    subst (λ (d : Decoded). d.ops.rd < 32) ins.2 (rd_if (has_rd (form_of ins.0)) word)

-- the hart and the effect of a step
record StepInRange (s : Stepped) : Type 0 where
  hart : HartInRange s.hart
  effect : EffectInRange s.effect

taken_range : (hart : Hart) → HartInRange hart → (pa word : Option ℕ) (cause tval : ℕ) (trail : List Entry) → IfSome pa FetchInRange
    → IfSome word (λ word. word < 2 ^ 32) → cause < 16 → tval < 2 ^ 64 → EntriesInRange trail → StepInRange (trap_taken hart pa word cause tval trail)
unfolding trap_taken
taken_range hart own pa word cause tval trail in_it word_small small tval_small all =
    let handler = handler_address hart.csrs own.csrs (trap_mode hart.csrs hart.mode cause) in
    record {
      hart = record {
        pc = handler.small;
        aligned = handler.aligned;
        zero = own.zero;
        registers = own.registers;
        csrs = legal_trapped hart.csrs hart.mode cause hart.pc tval (omega arith) tval_small own.csrs;
        reserved = own.reserved;
      };
      effect = record {
        pc = own.pc;
        pa = in_it;
        word = word_small;
        rd = tt;
        access = tt;
        trail = all;
        trap = record { cause = small; epc = own.pc; tval = tval_small };
      };
    }

stepped_range : (hart : Hart) → HartInRange hart → (pa word rd : ℕ) (o : Outcome) → FetchInRange pa → word < 2 ^ 32 → rd < 32 → OutcomeInRange o
    → StepInRange (stepped_by hart pa word rd o)
stepped_range hart own pa word rd (raises cause tval trail) in_it small rd_small ok =
    taken_range hart own (Some pa) (Some word) cause tval trail in_it small ok.0 ok.1 ok.2
stepped_range hart own pa word rd (retires done) in_it small rd_small ok =
    let write = write_range rd done.value rd_small ok.value in
    record {
      hart = record {
        pc = ok.next.small;
        aligned = ok.next.aligned;
        zero = zero_stays hart.x (rd_written rd done.value) own.zero write;
        registers = registers_put hart.x (rd_written rd done.value) own.registers write;
        csrs = ok.csrs;
        reserved = ok.reserved;
      };
      effect = record {
        pc = own.pc;
        pa = in_it;
        word = small;
        rd = write;
        access = ok.access;
        trail = ok.trail;
        trap = tt;
      };
    }

fetched_at : (seen : Seen) (hart : Hart) → AreBytes seen.byte → HartInRange hart → (trail : List Entry) (pa word : ℕ)
    → fetch_walked seen hart ≡ Some (record { trail = trail; result = reached pa }) → told seen.byte pa 4 ≡ Some (Some word) → FetchInRange pa
fetched_at seen hart are own trail pa word fetched has =
    let walked = translate_range seen.byte are Fetch (rights_of hart hart.mode) hart.pc hart.csrs.satp _ fetched in
    record { aligned = aligned_at 4 hart.pc pa (inr (inr (inl refl))) walked.result own.aligned; in_it = told_in_ram seen.byte pa 4 word has }

course_range : (seen : Seen) (hart : Hart) (s : Stepped) → AreBytes seen.byte → HartInRange hart → Course seen hart s → StepInRange s
course_range seen hart s are own (unreached trail cause fetched) =
    let walked = translate_range seen.byte are Fetch (rights_of hart hart.mode) hart.pc hart.csrs.satp _ fetched in
    taken_range hart own None None cause hart.pc [] tt tt walked.result own.pc tt
course_range seen hart s are own (lacks_word trail pa fetched has) = taken_range hart own None None 1 hart.pc [] tt tt (lit< tt) own.pc tt
course_range seen hart s are own (undecoded trail pa word fetched has is) =
    let small = told_below_size seen.byte are pa 4 word has in
    taken_range hart own (Some pa) (Some word) 2 word [] (fetched_at seen hart are own trail pa word fetched has) small (lit< tt) (omega arith) tt
course_range seen hart s are own (executes trail pa word d rs1 rs2 o fetched has is first second gives) =
    let small = told_below_size seen.byte are pa 4 word has in
    stepped_range hart own pa word d.ops.rd o (fetched_at seen hart are own trail pa word fetched has) small (rd_below word d is)
    (outcome_range seen are hart own (class_of d.ins) d word rs1 rs2 (has_size d.ins) (omega arith) o gives)

pub ranges_stay : RangesStay
ranges_stay seen hart s are own e = let ranges = course_range seen hart s are own (course seen hart s e) in (ranges.hart, ranges.effect)

-- ---- memory, and reset

stored_bytes : (before : Bytes) (at size value : ℕ) → AreBytes before → AreBytes (stored before at size value)
stored_bytes before at size value are a b e = by (nat_le at a && nat_lt a (at + size)) e
  where
    by : (there : Bool) → cond there (Some (value / 256 ^ (a - at) % 256)) (before a) ≡ Some b → b < 2 ^ 8
    by true e = let same : value / 256 ^ (a - at) % 256 ≡ b = cc in subst (λ (b : ℕ). b < 2 ^ 8) same (mod_below (value / 256 ^ (a - at)) 256 (lit< tt))
    by false e = are a b e

written_bytes : (a : Accessed) (wrote : Option ℕ) (before : Bytes) → AreBytes before → AreBytes (bytes_after a wrote before)
written_bytes a None before are = are
written_bytes a (Some value) before are = stored_bytes before a.pa a.size value are

pub bytes_stay : BytesStay
bytes_stay seen h None are = are
bytes_stay seen h (Some a) are = written_bytes a a.wrote seen.byte are

pub in_range_at_reset : InRangeAtReset
in_range_at_reset h hart small start = record {
  pc = subst (λ (pc : ℕ). pc < 2 ^ 64) (sym start.pc) (lit< tt);
  aligned = subst (λ (pc : ℕ). pc % 4 ≡ 0) (sym start.pc) refl;
  zero = start.zero;
  registers = λ r v e. (
      let known = start.registers r in
      let same : known.0 ≡ v = let q = known.1 in cc in
      subst (λ (v : ℕ). v < 2 ^ 64) same known.2);
  csrs = subst IsLegal (sym start.csrs) (legal_at_reset h start.raw small);
  reserved = rw start.reserved tt;
}
