-- A step depends on nothing but what its effect tells, and the entries by which pc is translated.
use Rattle.std.proofs.Common.{ℕ, zero, suc, ◌≡◌, ◌%◌, eqb, eqb-true, Bool, true, false, cond, not, List, [], ◌∷◌, Option, Some, None, option_map, refl, sym, ap, subst, ◌∙◌}
use Rattle.std.specs.Prelude.{◌&&◌}
use Rattle.std.specs.List.{AllByRecursion}
use Rattle.rv_fields.specs.declared.access.Access.{Access}
use Rattle.rv_fields.specs.declared.access.Access.TheVariants.{Fetch}
use Rattle.rv_fields.specs.declared.access.AccessKind.{AccessKind}
use Rattle.rv_fields.specs.declared.access.AccessKind.TheVariants.{Load, Store, Lr, Sc, Amo}
use Rattle.rv_fields.specs.declared.class.Class.{Class}
use Rattle.rv_fields.specs.declared.class.Class.TheVariants.{Accesses}
use Rattle.rv_fields.specs.declared.class.Extension.{Extension}
use Rattle.rv_fields.specs.Attempt.{◌>>=◌}
use Rattle.rv_fields.specs.Class.{class_of}
use Rattle.rv_fields.specs.Decode.{Decoded, decoded, rs1_read}
use Rattle.rv_fields.specs.Effect.{Accessed, Entry}
use Rattle.rv_fields.specs.Hart.{Hart, Registers, Reserved}
use Rattle.rv_fields.specs.Laws.{Below, TellsEach, Suffices, SameWhereTold, with_registers, from_registers}
use Rattle.rv_fields.specs.Memory.{Bytes, Seen, in_ram, granule, number_of, told, told_bytes}
use Rattle.rv_fields.specs.Step.{Aim, Outcome, Stepped, Target, retires, raises, access, accessed, aim_at, data_mode, data_walked, load_reserved, loaded, outcome_by, performed, performed_at, right_of, rights_of, step, stepped_by, store, store_if, succeeds, trap_taken, updated_memory}
use Rattle.rv_fields.specs.Sv39.{Rights, Translated, Walked, reached, faults, behind_entry, entries_in, entry_at, entry_walked, is_bare, is_canonical, is_formed, is_good_pointer, is_pointer, page_number, pte_walked, root_of, translate, walk_from}
use Rattle.rv_fields.proofs.Options.{Always, always_some, always_map, below_same, below_map, below_if, found, found_map}
use Rattle.rv_fields.proofs.Course.{Course, unreached, lacks_word, undecoded, executes, course, retraced}
use Rattle.rv_fields.proofs.MoreTold.{stepped_from}
use Rattle.rv_fields.proofs.Opened.{word_stepped}

-- ---- where there is no RAM, that is known whatever is told

absent_by : (range : Bool) (m n : Option (List ℕ))
    → cond range (option_map (λ bs. Some (number_of bs)) m) (Some None) ≡ Some None
    → cond range (option_map (λ bs. Some (number_of bs)) n) (Some None) ≡ Some None
absent_by false m n e = refl
absent_by true None n e = absurd cc
absent_by true (Some bs) n e = absurd cc

pub absent : (m n : Bytes) (at size : ℕ) → told m at size ≡ Some None → told n at size ≡ Some None
absent m n at size e = absent_by (in_ram at size) (told_bytes m at size) (told_bytes n at size) e

-- ---- the walk

-- a walk that is found, and each of whose entries is told, is found
abbrev Retold : Bytes → Option Walked → Option Walked → Type 0
Retold n p q = (w : Walked) → p ≡ Some w → TellsEach n w.trail → q ≡ Some w

retold_same : (n : Bytes) (p : Option Walked) → Retold n p p
retold_same n p w e tells = e

retold_if : (n : Bytes) (b : Bool) (p q u v : Option Walked) → Retold n p q → Retold n u v → Retold n (cond b p u) (cond b q v)
retold_if n true p q u v h k = h
retold_if n false p q u v h k = k

module _ (m n : Bytes) (access : Access) (rights : Rights) (va : ℕ) where
  pte_retold : (level pte : ℕ) (f g : ℕ → Option Walked) → ((t : ℕ) → Retold n (f t) (g t))
      → Retold n (pte_walked access rights va level pte f) (pte_walked access rights va level pte g)
  pte_retold level pte f g h =
      retold_if n (is_formed pte) _ _ _ _
      (retold_if n (is_pointer pte) _ _ _ _
      (retold_if n (is_good_pointer pte && not (eqb level 0)) _ _ _ _ (h (page_number pte)) (retold_same n _)) (retold_same n _))
      (retold_same n _)

  entry_retold : (level at : ℕ) (f g : ℕ → Option Walked) → ((t : ℕ) → Retold n (f t) (g t)) → (pte : Option ℕ) → told m at 8 ≡ Some pte
      → Retold n (entry_walked access rights va level at f pte) (told n at 8 >>= entry_walked access rights va level at g)
  entry_retold level at f g h None is w e tells = rw (absent m n at 8 is) e
  entry_retold level at f g h (Some pte) is w e tells =
      let entry : Entry = record { at = at; pte = pte } in
      let r = found_map (behind_entry entry) (pte_walked access rights va level pte f) w e in
      let all : TellsEach n (entry ∷ r.0.trail) = subst (λ (q : Walked). TellsEach n q.trail) (sym r.2) tells in
      rw all.0 (rw (pte_retold level pte f g h r.0 r.1 all.1) (ap Some r.2))

  walk_retold : (level table : ℕ) → Retold n (walk_from (entries_in m) access rights va level table) (walk_from (entries_in n) access rights va level table)
  walk_retold zero table = retold_same n _
  walk_retold (suc level) table = λ w e tells. (
      let at = entry_at va level table in
      let pte = found (told m at 8) (entry_walked access rights va level at (walk_from (entries_in m) access rights va level)) w e in
      entry_retold level at (walk_from (entries_in m) access rights va level) (walk_from (entries_in n) access rights va level) (walk_retold level) pte.0 pte.1 w pte.2 tells)

  pub translate_retold : (satp : ℕ) → Retold n (translate (entries_in m) satp rights access va) (translate (entries_in n) satp rights access va)
  translate_retold satp =
      retold_if n (is_bare rights.mode satp) _ _ _ _ (retold_same n _)
      (retold_if n (is_canonical va) _ _ _ _ (walk_retold 3 (root_of satp)) (retold_same n _))

-- ---- what an outcome tells

abbrev pub trail_of : Outcome → List Entry
trail_of (retires done) = done.trail
trail_of (raises cause tval trail) = trail

abbrev pub access_of : Outcome → Option Accessed
access_of (retires done) = done.access
access_of (raises cause tval trail) = None

trail_if : (b : Bool) (o p : Outcome) (trail : List Entry) → trail_of o ≡ trail → trail_of p ≡ trail → trail_of (cond b o p) ≡ trail
trail_if true o p trail h k = h
trail_if false o p trail h k = k

-- the number that is read is told
abbrev pub ReadTold : Bytes → Outcome → Type 0
ReadTold byte o = (a : Accessed) (n : ℕ) → access_of o ≡ Some a → a.read ≡ Some n → told byte a.pa a.size ≡ Some (Some n)

-- an outcome that reads the number at its address
record Reads (aim : Aim) (n : ℕ) (o : Outcome) : Type 0 where
  wrote : Option ℕ
  is : access_of o ≡ Some (accessed aim (Some n) wrote)

module _ (seen other : Seen) (x : Registers) (hart : Hart) where
  -- what becomes of the number that is read
  by_number : (aim : Aim) (f : Option ℕ → Outcome) → ((n : ℕ) → Reads aim n (f (Some n))) → (n : Option ℕ) → told seen.byte aim.pa aim.size ≡ Some n
      → ReadTold other.byte (f n) → told other.byte aim.pa aim.size ≡ Some n
  by_number aim f reads None is back = absent seen.byte other.byte aim.pa aim.size is
  by_number aim f reads (Some n) is back = back (accessed aim (Some n) (reads n).wrote) n (reads n).is refl

  read_retold : (aim : Aim) (f : Option ℕ → Outcome) → ((n : ℕ) → Reads aim n (f (Some n))) → (o : Outcome)
      → option_map f (told seen.byte aim.pa aim.size) ≡ Some o → ReadTold other.byte o → option_map f (told other.byte aim.pa aim.size) ≡ Some o
  read_retold aim f reads o e back =
      let n = found_map f (told seen.byte aim.pa aim.size) o e in
      let own : ReadTold other.byte (f n.0) = subst (λ (o : Outcome). ReadTold other.byte o) (sym n.2) back in
      rw (by_number aim f reads n.0 n.1 own) (ap Some n.2)

  -- the reservation's link
  abbrev LinkTold : Type 0
  LinkTold = (r : Reserved) → hart.reserved ≡ Some r → Below (seen.link hart.number (granule r.pa)) (other.link hart.number (granule r.pa))

  succeeds_retold : (r : Option Reserved) (aim : Aim)
      → ((k : Reserved) → r ≡ Some k → Below (seen.link hart.number (granule k.pa)) (other.link hart.number (granule k.pa)))
      → Below (succeeds seen.link hart.number r aim) (succeeds other.link hart.number r aim)
  succeeds_retold None aim link = below_same _
  succeeds_retold (Some r) aim link = at_pa (eqb r.pa aim.pa) refl
    where
      at_pa : (t : Bool) → t ≡ eqb r.pa aim.pa
          → Below (cond (t && eqb r.size aim.size) (seen.link hart.number (granule aim.pa)) (Some false)) (cond (t && eqb r.size aim.size) (other.link hart.number (granule aim.pa)) (Some false))
      at_pa false e = below_same _
      at_pa true e =
          let same : r.pa ≡ aim.pa = eqb-true r.pa aim.pa (sym e) in
          let told_there : Below (seen.link hart.number (granule aim.pa)) (other.link hart.number (granule aim.pa)) =
          subst (λ (pa : ℕ). Below (seen.link hart.number (granule pa)) (other.link hart.number (granule pa))) same (link r refl) in
          below_if (eqb r.size aim.size) _ _ _ _ told_there (below_same _)

  performed_retold : (kind : AccessKind) (aim : Aim) → (kind ≡ Sc → LinkTold) → (o : Outcome) → performed kind seen hart aim ≡ Some o
      → ReadTold other.byte o → performed kind other (with_registers x hart) aim ≡ Some o
  performed_retold Load aim link o e back = read_retold aim (loaded hart aim) (λ n. record { wrote = None; is = refl }) o e back
  performed_retold Lr aim link o e back = read_retold aim (load_reserved hart aim) (λ n. record { wrote = None; is = refl }) o e back
  performed_retold Amo aim link o e back = read_retold aim (updated_memory hart aim) (λ n. record { wrote = Some _; is = refl }) o e back
  performed_retold Store aim link o e back = e
  performed_retold Sc aim link o e back = below_map (store_if hart aim) _ _ (succeeds_retold hart.reserved aim (link refl)) o e

  -- the entries of an access are those of its walk
  abbrev Trails : List Entry → Outcome → Type 0
  Trails trail o = trail_of o ≡ trail

  by_number_trail : (aim : Aim) (f : Option ℕ → Outcome) → trail_of (f None) ≡ aim.trail → ((n : ℕ) → trail_of (f (Some n)) ≡ aim.trail) → (n : Option ℕ)
      → trail_of (f n) ≡ aim.trail
  by_number_trail aim f none some None = none
  by_number_trail aim f none some (Some n) = some n

  store_trail : (aim : Aim) → trail_of (store hart aim) ≡ aim.trail
  store_trail aim = trail_if (in_ram aim.pa aim.size) _ _ aim.trail refl refl

  store_if_trail : (aim : Aim) (stands : Bool) → trail_of (store_if hart aim stands) ≡ aim.trail
  store_if_trail aim true = trail_if (in_ram aim.pa aim.size) _ _ aim.trail refl refl
  store_if_trail aim false = refl

  performed_trail : (kind : AccessKind) (aim : Aim) → Always (Trails aim.trail) (performed kind seen hart aim)
  performed_trail Load aim = always_map (Trails aim.trail) _ _ (λ n is. by_number_trail aim (loaded hart aim) refl (λ n. refl) n)
  performed_trail Lr aim = always_map (Trails aim.trail) _ _ (λ n is. by_number_trail aim (load_reserved hart aim) refl (λ n. refl) n)
  performed_trail Amo aim = always_map (Trails aim.trail) _ _ (λ n is. by_number_trail aim (updated_memory hart aim) refl (λ n. refl) n)
  performed_trail Store aim = always_some (Trails aim.trail) (store hart aim) (store_trail aim)
  performed_trail Sc aim = always_map (Trails aim.trail) _ _ (λ stands is. store_if_trail aim stands)

  performed_at_trail : (t : Target) (trail : List Entry) (result : Translated) → Always (Trails trail) (performed_at seen hart t trail result)
  performed_at_trail t trail (reached pa) = performed_trail t.kind (aim_at t pa trail)
  performed_at_trail t trail (faults cause) = always_some (Trails trail) _ refl

  performed_at_retold : (t : Target) (trail : List Entry) (result : Translated) → (t.kind ≡ Sc → LinkTold) → (o : Outcome)
      → performed_at seen hart t trail result ≡ Some o → ReadTold other.byte o → performed_at other (with_registers x hart) t trail result ≡ Some o
  performed_at_retold t trail (reached pa) link o e back = performed_retold t.kind (aim_at t pa trail) link o e back
  performed_at_retold t trail (faults cause) link o e back = e

  aligned_retold : (t : Target) → (t.kind ≡ Sc → LinkTold) → (o : Outcome)
      → (data_walked seen hart (right_of t.kind) t.va >>= (λ w. performed_at seen hart t w.trail w.result)) ≡ Some o
      → TellsEach other.byte (trail_of o) → ReadTold other.byte o
      → (data_walked other (with_registers x hart) (right_of t.kind) t.va >>= (λ w. performed_at other (with_registers x hart) t w.trail w.result)) ≡ Some o
  aligned_retold t link o e tells back =
      let w = found (data_walked seen hart (right_of t.kind) t.va) (λ w. performed_at seen hart t w.trail w.result) o e in
      let all : TellsEach other.byte w.0.trail = subst (λ (trail : List Entry). TellsEach other.byte trail) (performed_at_trail t w.0.trail w.0.result o w.2) tells in
      let walked : data_walked other (with_registers x hart) (right_of t.kind) t.va ≡ Some w.0 =
      translate_retold seen.byte other.byte (right_of t.kind) (rights_of hart (data_mode hart.mode hart.csrs.mstatus)) t.va hart.csrs.satp w.0 w.1 all in
      rw walked (performed_at_retold t w.0.trail w.0.result link o w.2 back)

  access_retold : (t : Target) → (t.kind ≡ Sc → LinkTold) → (o : Outcome) → access seen hart t ≡ Some o
      → TellsEach other.byte (trail_of o) → ReadTold other.byte o → access other (with_registers x hart) t ≡ Some o
  access_retold t link o e tells back = at_va (eqb (t.va % t.size) 0) _ e
    where
      at_va : (b : Bool) (m : Option Outcome)
          → cond b (data_walked seen hart (right_of t.kind) t.va >>= (λ w. performed_at seen hart t w.trail w.result)) m ≡ Some o
          → cond b (data_walked other (with_registers x hart) (right_of t.kind) t.va >>= (λ w. performed_at other (with_registers x hart) t w.trail w.result)) m ≡ Some o
      at_va true m e = aligned_retold t link o e tells back
      at_va false m e = e

  outcome_retold : (class : Class) (d : Decoded) (word rs1 rs2 : ℕ)
      → ((size : ℕ) (extended : Extension) → class ≡ Accesses Sc size extended → LinkTold) → (o : Outcome) → outcome_by class seen hart d word rs1 rs2 ≡ Some o
      → TellsEach other.byte (trail_of o) → ReadTold other.byte o → outcome_by class other (with_registers x hart) d word rs1 rs2 ≡ Some o
  outcome_retold (Accesses kind size extended) d word rs1 rs2 link o e tells back =
      access_retold _ (λ sc. link size extended (ap (λ (k : AccessKind). Accesses k size extended) sc)) o e tells back
  outcome_retold class d word rs1 rs2 link o e tells back = e

-- ---- the step

-- the sources of an instruction are all that it reads
both_read : (P : ℕ → Type 0) (a b : ℕ) (same : Bool) → same ≡ eqb a b → AllByRecursion P (cond same (a ∷ []) (a ∷ b ∷ [])) → P a × P b
both_read P a b true e all = (all.0, subst P (eqb-true a b (sym e)) all.0)
both_read P a b false e all = (all.0, all.1.0)

pub pa_stepped : (hart : Hart) (pa word rd : ℕ) (o : Outcome) → (stepped_by hart pa word rd o).effect.pa ≡ Some pa
unfolding trap_taken
pa_stepped hart pa word rd (retires done) = refl
pa_stepped hart pa word rd (raises cause tval trail) = refl

pub trail_stepped : (hart : Hart) (pa word rd : ℕ) (o : Outcome) → (stepped_by hart pa word rd o).effect.trail ≡ trail_of o
unfolding trap_taken
trail_stepped hart pa word rd (retires done) = refl
trail_stepped hart pa word rd (raises cause tval trail) = refl

pub access_stepped : (hart : Hart) (pa word rd : ℕ) (o : Outcome) → (stepped_by hart pa word rd o).effect.access ≡ access_of o
unfolding trap_taken
access_stepped hart pa word rd (retires done) = refl
access_stepped hart pa word rd (raises cause tval trail) = refl

-- what is told suffices for the instruction
executes_retold : (seen other : Seen) (x : Registers) (hart : Hart) (pa word : ℕ) (d : Decoded) (rs1 rs2 : ℕ) (o : Outcome) → decoded word ≡ Some d
    → outcome_by (class_of d.ins) seen hart d word rs1 rs2 ≡ Some o → Suffices seen hart (stepped_by hart pa word d.ops.rd o) other x
    → outcome_by (class_of d.ins) other (with_registers x hart) d word rs1 rs2 ≡ Some o
executes_retold seen other x hart pa word d rs1 rs2 o is gives enough =
    let of_word = word_stepped hart pa word d.ops.rd o in
    outcome_retold seen other x hart (class_of d.ins) d word rs1 rs2
    (λ size extended sc r has. enough.link word d size extended r of_word is sc has) o gives
    (subst (λ (trail : List Entry). TellsEach other.byte trail) (trail_stepped hart pa word d.ops.rd o) enough.trail)
    (λ a n accesses reads. enough.read a n (access_stepped hart pa word d.ops.rd o ∙ accesses) reads)

course_retold : (seen : Seen) (hart : Hart) (s : Stepped) (other : Seen) (x : Registers) → Course seen hart s → Suffices seen hart s other x
    → step other (with_registers x hart) ≡ Some (from_registers x s)
unfolding trap_taken
course_retold seen hart s other x (unreached trail cause fetched) enough =
    let walked = translate_retold seen.byte other.byte Fetch (rights_of hart hart.mode) hart.pc hart.csrs.satp _ fetched (enough.fetch _ fetched) in
    retraced other (with_registers x hart) _ (unreached trail cause walked)
course_retold seen hart s other x (lacks_word trail pa fetched has) enough =
    let walked = translate_retold seen.byte other.byte Fetch (rights_of hart hart.mode) hart.pc hart.csrs.satp _ fetched (enough.fetch _ fetched) in
    retraced other (with_registers x hart) _ (lacks_word trail pa walked (absent seen.byte other.byte pa 4 has))
course_retold seen hart s other x (undecoded trail pa word fetched has is) enough =
    let walked = translate_retold seen.byte other.byte Fetch (rights_of hart hart.mode) hart.pc hart.csrs.satp _ fetched (enough.fetch _ fetched) in
    retraced other (with_registers x hart) _ (undecoded trail pa word walked (enough.word pa word refl refl) is)
course_retold seen hart s other x (executes trail pa word d rs1 rs2 o fetched has is first second gives) enough =
    let walked = translate_retold seen.byte other.byte Fetch (rights_of hart hart.mode) hart.pc hart.csrs.satp _ fetched (enough.fetch _ fetched) in
    let of_word = word_stepped hart pa word d.ops.rd o in
    let both = both_read (λ r. Below (hart.x r) (x r)) (rs1_read d) d.ops.rs2 (eqb (rs1_read d) d.ops.rs2) refl (enough.registers word d of_word is) in
    retraced other (with_registers x hart) _ (executes trail pa word d rs1 rs2 o walked (enough.word pa word (pa_stepped hart pa word d.ops.rd o) of_word) is
    (both.0 rs1 first) (both.1 rs2 second) (executes_retold seen other x hart pa word d rs1 rs2 o is gives enough))
    ∙ ap Some (stepped_from x hart pa word d.ops.rd o)

pub enough_told : SameWhereTold
enough_told seen hart s other x e enough = course_retold seen hart s other x (course seen hart s e) enough
