-- Operands that are drawn serve, and the word of their instruction holds them.
use Rattle.std.proofs.Common.{ℕ, zero, suc, ◌+◌, ◌%◌, ◌^◌, ◌<◌, ◌≤◌, ◌≡◌, ℤ, pos, negsuc, ◌*ℤ◌, Bool, true, false, not, cond, lt-ltb, ◌&&◌, ◌||◌, ◌==◌, get_or, List, [], ◌∷◌, length, filter, Option, Some, None, inl, inr, ◌⊎◌, refl, sym, ap, subst, ◌∙◌, arith}
use Rattle.std.specs.Prelude.{IfSome, is_none, unwrap_or}
use Rattle.std.specs.List.{range_with_len}
use Rattle.std.proofs.lemmas.Bool.{and_parts, eqb-true}
use Rattle.std.proofs.lemmas.Bool.Decides.{nat_tests}
use Rattle.rv_fields.specs.declared.row_table.Form.{Form}
use Rattle.rv_fields.specs.declared.row_table.Form.TheVariants.{U, I, H6, H5}
use Rattle.rv_fields.specs.declared.row_table.Ins.{Ins}
use Rattle.rv_fields.specs.declared.row_table.Ins.TheVariants.{Fence}
use Rattle.rv_fields.specs.declared.row_table.Ops.{Ops}
use Rattle.rv_fields.specs.Decode.{has_aqrl, has_rd, has_rs1, has_rs2}
use Rattle.rv_fields.specs.Immediate.{fits_i, fits_u, is_signed, signed_of}
use Rattle.rv_fields.specs.declared.class.Class.TheVariants.{Fences}
use Rattle.rv_fields.specs.Class.{class_of}
use Rattle.rv_fields.specs.RowTable.{form_of}
use Rattle.rv_encode.specs.declared.field.Field.{Field}
use Rattle.rv_encode.specs.declared.field.Field.TheVariants.{Rd, Rs1, Rs2, Imm, AqRl}
use Rattle.rv_encode.specs.Fitting.{fits, fits_field, fits_imm, misfit}
use Rattle.rv_encode.proofs.Encoded.{all_fit, no_misfit}
use Rattle.choice_tree.specs.Draws.{Draws, next_word}
use Rattle.region_plan.specs.Pinned.{fits_word, pinned_ops}
use Rattle.region_plan.specs.Plan.{is_it}
use Rattle.region_plan.specs.Registers.{is_among, registers}
use Rattle.region_plan.specs.Request.{Pins}
use Rattle.operand_solver.specs.Operands.{Drawn, Operand, Serves, allowed, behind_operand, chosen, if_has, imm_by, imm_in, may_be, no_operand, offset_by, operand, operands_drawn, registers_drawn, registers_of, serve, value_of_operand, with_drawn_imm, with_imm}

-- ---- a member is drawn

among_get : (xs : List ℕ) (i : ℕ) → i < length xs → is_among xs (get_or xs i 0) ≡ true
among_get [] i small = absurd (omega (arith, small))
among_get (x ∷ xs) zero small = let same : (x == x) ≡ true = grind (arith, nat_tests) in ap (λ b. b || is_among xs x) same
among_get (x ∷ xs) (suc i) small = ap (λ b. (x == get_or xs i 0) || b) (among_get xs i (omega (arith, small))) ∙ or_true (x == get_or xs i 0)
  where
    or_true : (b : Bool) → (b || true) ≡ true
    or_true true = refl
    or_true false = refl

-- some register may stand there
abbrev HasMember : Operand → Type 0
HasMember o = not (length o.members == 0) ≡ true

value_among : (o : Operand) (draws : Draws) → HasMember o → is_among o.members (value_of_operand draws o) ≡ true
value_among o draws some = of o.drawn
  where
    there : 0 < length o.members
    there = by (length o.members == 0) refl some
      where
        by : (t : Bool) → (length o.members == 0) ≡ t → not t ≡ true → 0 < length o.members
        by true is more = absurd cc
        by false is more = grind (arith, nat_tests, is)

    of : (drawn : Bool) → is_among o.members (cond drawn (chosen o.members (next_word draws)) (get_or o.members 0 0)) ≡ true
    of true = among_get o.members (next_word draws % length o.members) (omega (arith, there))
    of false = among_get o.members 0 there

-- ---- the three registers

-- the operands among the registers are three
three : (ins : Ins) (pins : Pins) (counter : Option ℕ)
    → let os : List Operand = registers_of ins pins counter in os ≡ get_or os 0 no_operand ∷ get_or os 1 no_operand ∷ get_or os 2 no_operand ∷ []
three Fence pins counter = refl
three _ pins counter = refl

abbrev rd_of : Ins → Pins → Option ℕ → Operand
rd_of ins pins counter = get_or (registers_of ins pins counter) 0 no_operand

abbrev rs1_of : Ins → Pins → Option ℕ → Operand
rs1_of ins pins counter = get_or (registers_of ins pins counter) 1 no_operand

abbrev rs2_of : Ins → Pins → Option ℕ → Operand
rs2_of ins pins counter = get_or (registers_of ins pins counter) 2 no_operand

record HaveMembers (ins : Ins) (pins : Pins) (counter : Option ℕ) : Type 0 where
  rd : HasMember (rd_of ins pins counter)
  rs1 : HasMember (rs1_of ins pins counter)
  rs2 : HasMember (rs2_of ins pins counter)

each_served : (ins : Ins) (pins : Pins) (counter : Option ℕ) → serve (registers_of ins pins counter) ≡ true → HaveMembers ins pins counter
each_served ins pins counter served =
    let all : serve (rd_of ins pins counter ∷ rs1_of ins pins counter ∷ rs2_of ins pins counter ∷ []) ≡ true = ap serve (sym (three ins pins counter)) ∙ served in
    let first = and_parts _ _ all in
    let second = and_parts _ _ first.1 in
    let third = and_parts _ _ second.1 in
    record { rd = first.0; rs1 = second.0; rs2 = third.0 }

-- the immediate changes no register
same_registers : (ins : Ins) (pin : Option ℤ) (d : Drawn) → (with_imm ins pin d).ops ≡ record d.ops { imm = (with_imm ins pin d).ops.imm }
same_registers ins (Some imm) d = refl
same_registers ins None d = of (imm_by ins (next_word d.left))
  where
    of : (m : Option ℤ) → (with_drawn_imm m d).ops ≡ record d.ops { imm = (with_drawn_imm m d).ops.imm }
    of None = refl
    of (Some imm) = refl

pub drawn_serves : (ins : Ins) (pins : Pins) (counter : Option ℕ) (draws : Draws) → serve (registers_of ins pins counter) ≡ true → Serves ins pins counter (operands_drawn ins pins counter draws).ops
drawn_serves ins pins counter draws served =
    let some = each_served ins pins counter served in
    let d : Drawn = registers_drawn draws (registers_of ins pins counter) in
    let behind_rd = behind_operand draws (rd_of ins pins counter) in
    let behind_rs1 = behind_operand behind_rd (rs1_of ins pins counter) in
    let same = same_registers ins pins.imm d in
    record {
      rd = ap (λ (ops : Ops). may_be (registers_of ins pins counter) 0 ops.rd) same ∙ value_among (rd_of ins pins counter) draws some.rd;
      rs1 = ap (λ (ops : Ops). may_be (registers_of ins pins counter) 1 ops.rs1) same ∙ value_among (rs1_of ins pins counter) behind_rd some.rs1;
      rs2 = ap (λ (ops : Ops). may_be (registers_of ins pins counter) 2 ops.rs2) same ∙ value_among (rs2_of ins pins counter) behind_rs1 some.rs2;
      imm = pinned pins.imm d;
    }
  where
    pinned : (pin : Option ℤ) (d : Drawn) → IfSome pin (λ imm. (with_imm ins pin d).ops.imm ≡ imm)
    pinned None d = tt
    pinned (Some imm) d = refl

-- ---- the stream behind them

-- so many words further on
abbrev GoesOn : ℕ → Draws → Draws → Type 0
GoesOn most draws left = (left ≡ record draws { drawn = left.drawn }) × (left.drawn ≤ draws.drawn + most)

operand_on : (draws : Draws) (o : Operand) → GoesOn 1 draws (behind_operand draws o)
operand_on draws o = of o.drawn
  where
    of : (drawn : Bool) → GoesOn 1 draws (cond drawn (record draws { drawn = draws.drawn + 1 }) draws)
    of true = (refl, omega arith)
    of false = (refl, omega arith)

on_more : (m n : ℕ) (first second third : Draws) → GoesOn m first second → GoesOn n second third → GoesOn (m + n) first third
on_more m n first second third a b = (b.0 ∙ ap (λ (d : Draws). record d { drawn = third.drawn }) a.0, omega (arith, a.1, b.1))

imm_on : (ins : Ins) (pin : Option ℤ) (d : Drawn) → GoesOn 1 d.left (with_imm ins pin d).left
imm_on ins (Some imm) d = (refl, omega arith)
imm_on ins None d = of (imm_by ins (next_word d.left))
  where
    of : (m : Option ℤ) → GoesOn 1 d.left (with_drawn_imm m d).left
    of None = (refl, omega arith)
    of (Some imm) = (refl, omega arith)

-- no more than four words are drawn
pub drawn_on : (ins : Ins) (pins : Pins) (counter : Option ℕ) (draws : Draws)
    → ((operands_drawn ins pins counter draws).left ≡ record draws { drawn = (operands_drawn ins pins counter draws).left.drawn }) × ((operands_drawn ins pins counter draws).left.drawn ≤ draws.drawn + 4)
drawn_on ins pins counter draws =
    let d : Drawn = registers_drawn draws (registers_of ins pins counter) in
    let behind_rd = behind_operand draws (rd_of ins pins counter) in
    let behind_rs1 = behind_operand behind_rd (rs1_of ins pins counter) in
    on_more 3 1 draws d.left (with_imm ins pins.imm d).left
    (on_more 2 1 draws behind_rs1 d.left (on_more 1 1 draws behind_rd behind_rs1 (operand_on draws (rd_of ins pins counter)) (operand_on behind_rd (rs1_of ins pins counter))) (operand_on behind_rs1 (rs2_of ins pins counter)))
    (imm_on ins pins.imm d)

-- ---- they fit

among_kept : (f : ℕ → Bool) (xs : List ℕ) (r : ℕ) → is_among (filter f xs) r ≡ true → is_among xs r ≡ true
among_kept f [] r e = e
among_kept f (x ∷ xs) r e = of (f x) e (among_kept f xs r)
  where
    either : (t : Bool) → (t || is_among (filter f xs) r) ≡ true → (is_among (filter f xs) r ≡ true → is_among xs r ≡ true) → (t || is_among xs r) ≡ true
    either true e more = refl
    either false e more = more e

    later : (t : Bool) → is_among xs r ≡ true → (t || is_among xs r) ≡ true
    later true e = refl
    later false e = e

    of : (t : Bool) → is_among (cond t (x ∷ filter f xs) (filter f xs)) r ≡ true → (is_among (filter f xs) r ≡ true → is_among xs r ≡ true) → ((x == r) || is_among xs r) ≡ true
    of true e more = either (x == r) e more
    of false e more = later (x == r) (more e)

range_below : (a n r : ℕ) → is_among (range_with_len a n) r ≡ true → r < a + n
range_below a zero r e = absurd cc
range_below a (suc n) r e = of (a == r) refl e (range_below (a + 1) n r)
  where
    of : (t : Bool) → (a == r) ≡ t → (t || is_among (range_with_len (a + 1) n) r) ≡ true → (is_among (range_with_len (a + 1) n) r ≡ true → r < a + 1 + n) → r < a + suc n
    of true is e more = let same : a ≡ r = eqb-true a r is in omega (arith, same)
    of false is e more = let low = more e in omega (arith, low)

abbrev pub is_allowed : Pins → Option ℕ → ℕ → Bool
is_allowed pins counter r = not (is_among pins.avoid r) && not (is_it r counter)

-- each member is a register
operand_small : (pins : Pins) (counter pin : Option ℕ) (r : ℕ) → is_among (operand (allowed pins counter 0) pin).members r ≡ true → r < registers
operand_small pins counter None r e = range_below 0 registers r (among_kept (is_allowed pins counter) (range_with_len 0 registers) r e)
operand_small pins counter (Some p) r e =
    range_below 0 registers r (among_kept (is_allowed pins counter) (range_with_len 0 registers) r (among_kept (λ q. q == p) (allowed pins counter 0) r e))

only_zero : (r : ℕ) → is_among (0 ∷ []) r ≡ true → r ≡ 0
only_zero r e = of (0 == r) refl e
  where
    of : (t : Bool) → t ≡ (0 == r) → (t || false) ≡ true → r ≡ 0
    of true is e = sym (eqb-true 0 r (sym is))
    of false is e = absurd cc

-- it fits the field that the form has, or is 0
register_fits : (has may : Bool) (pins : Pins) (counter pin : Option ℕ) (r : ℕ) → is_among (if_has (has && may) (operand (allowed pins counter 0) pin)).members r ≡ true → fits_field has 32 r ≡ true
register_fits true true pins counter pin r e = lt-ltb r 32 (operand_small pins counter pin r e)
register_fits true false pins counter pin r e = lt-ltb r 32 (let none = only_zero r e in omega (arith, none))
register_fits false may pins counter pin r e = let none : r ≡ 0 = only_zero r e in ap (λ n. n == 0) none

and_true : (b : Bool) → (b && true) ≡ b
and_true true = refl
and_true false = refl

-- by the form of the instruction, but of fence
pub registers_by_form : (ins : Ins) (pins : Pins) (counter : Option ℕ) → (class_of ins ≡ Fences → ⊥)
    → registers_of ins pins counter
    ≡ if_has (has_rd (form_of ins)) (operand (allowed pins counter 0) pins.rd)
    ∷ if_has (has_rs1 (form_of ins) && not pins.zero_rs1) (operand (allowed pins counter 0) pins.rs1)
    ∷ if_has (has_rs2 (form_of ins)) (operand (allowed pins counter 0) pins.rs2)
    ∷ []
registers_by_form Fence pins counter other = absurd (other refl)
registers_by_form _ pins counter other = refl

imm_by_form : (ins : Ins) (word : ℕ) → (class_of ins ≡ Fences → ⊥) → imm_by ins word ≡ imm_in (form_of ins) word
imm_by_form Fence word other = absurd (other refl)
imm_by_form _ word other = refl

fence_or_not : (ins : Ins) → (ins ≡ Fence) ⊎ (class_of ins ≡ Fences → ⊥)
fence_or_not Fence = inl refl
fence_or_not _ = inr (λ e. absurd cc)

record RegistersFit (ins : Ins) (pins : Pins) (counter : Option ℕ) : Type 0 where
  rd : (r : ℕ) → is_among (rd_of ins pins counter).members r ≡ true → fits_field (has_rd (form_of ins)) 32 r ≡ true
  rs1 : (r : ℕ) → is_among (rs1_of ins pins counter).members r ≡ true → fits_field (has_rs1 (form_of ins)) 32 r ≡ true
  rs2 : (r : ℕ) → is_among (rs2_of ins pins counter).members r ≡ true → fits_field (has_rs2 (form_of ins)) 32 r ≡ true

-- of these operands
by_form_fit : (form : Form) (pins : Pins) (counter : Option ℕ) (os : List Operand)
    → os ≡ if_has (has_rd form) (operand (allowed pins counter 0) pins.rd) ∷ if_has (has_rs1 form && not pins.zero_rs1) (operand (allowed pins counter 0) pins.rs1)
    ∷ if_has (has_rs2 form) (operand (allowed pins counter 0) pins.rs2) ∷ []
    → ((r : ℕ) → is_among (get_or os 0 no_operand).members r ≡ true → fits_field (has_rd form) 32 r ≡ true)
    × ((r : ℕ) → is_among (get_or os 1 no_operand).members r ≡ true → fits_field (has_rs1 form) 32 r ≡ true)
    × ((r : ℕ) → is_among (get_or os 2 no_operand).members r ≡ true → fits_field (has_rs2 form) 32 r ≡ true)
by_form_fit form pins counter os is = (
  λ r e. register_fits (has_rd form) true pins counter pins.rd r
      (ap (λ b. is_among (if_has b (operand (allowed pins counter 0) pins.rd)).members r) (and_true (has_rd form)) ∙ ap (λ (all : List Operand). is_among (get_or all 0 no_operand).members r) (sym is) ∙ e),
  λ r e. register_fits (has_rs1 form) (not pins.zero_rs1) pins counter pins.rs1 r (ap (λ (all : List Operand). is_among (get_or all 1 no_operand).members r) (sym is) ∙ e),
  λ r e. register_fits (has_rs2 form) true pins counter pins.rs2 r
      (ap (λ b. is_among (if_has b (operand (allowed pins counter 0) pins.rs2)).members r) (and_true (has_rs2 form)) ∙ ap (λ (all : List Operand). is_among (get_or all 2 no_operand).members r) (sym is) ∙ e),
)

registers_fit : (ins : Ins) (pins : Pins) (counter : Option ℕ) → RegistersFit ins pins counter
registers_fit ins pins counter = of (fence_or_not ins)
  where
    of_fence : RegistersFit Fence pins counter
    of_fence = record {
      rd = λ r e. register_fits true false pins counter None r e;
      rs1 = λ r e. register_fits true false pins counter None r e;
      rs2 = λ r e. register_fits false true pins counter None r e;
    }

    of : (ins ≡ Fence) ⊎ (class_of ins ≡ Fences → ⊥) → RegistersFit ins pins counter
    of (inl is) = subst (λ i. RegistersFit i pins counter) (sym is) of_fence
    of (inr other) = let all = by_form_fit (form_of ins) pins counter (registers_of ins pins counter) (registers_by_form ins pins counter other) in record { rd = all.0; rs1 = all.1; rs2 = all.2 }

-- ---- immediates

offset_fits : (word : ℕ) → fits_i (offset_by word) ≡ true
offset_fits word = of (offset_by word) refl
  where
    of : (z : ℤ) → z ≡ offset_by word → is_signed (2 ^ 11) z ≡ true
    of (pos n) is = grind (arith, nat_tests, is)
    of (negsuc n) is = grind (arith, nat_tests, is)

upper_fits : (n : ℕ) → n < 2 ^ 20 → fits_u (signed_of (2 ^ 19) n *ℤ pos 4096) ≡ true
upper_fits n small = of (signed_of (2 ^ 19) n) refl
  where
    of : (z : ℤ) → z ≡ signed_of (2 ^ 19) n → fits_u (z *ℤ pos 4096) ≡ true
    of (pos m) is = let low : m < 2 ^ 19 = grind (arith, nat_tests, is) in grind (arith, nat_tests, low)
    of (negsuc m) is = let low : m < 2 ^ 19 = grind (arith, nat_tests, is) in grind (arith, nat_tests, low)

-- what is drawn fits, and so does what stands where none is drawn
drawn_imm_fits : (form : Form) (word : ℕ) (bare : ℤ) → fits_imm form bare ≡ true → fits_imm form (unwrap_or (imm_in form word) bare) ≡ true
drawn_imm_fits I word bare fit = offset_fits word
drawn_imm_fits U word bare fit = upper_fits (word % 2 ^ 20) (omega arith)
drawn_imm_fits H6 word bare fit = lt-ltb (word % 64) 64 (omega arith)
drawn_imm_fits H5 word bare fit = lt-ltb (word % 32) 32 (omega arith)
drawn_imm_fits _ word bare fit = fit

imm_fits : (ins : Ins) (pin : Option ℤ) (d : Drawn) → d.ops.imm ≡ pos 0 → fits_imm (form_of ins) (unwrap_or pin (pos 0)) ≡ true → fits_imm (form_of ins) (with_imm ins pin d).ops.imm ≡ true
imm_fits ins (Some imm) d bare fit = fit
imm_fits ins None d bare fit = of (fence_or_not ins)
  where
    with_drawn : (m : Option ℤ) → (with_drawn_imm m d).ops.imm ≡ unwrap_or m d.ops.imm
    with_drawn None = refl
    with_drawn (Some imm) = refl

    of : (ins ≡ Fence) ⊎ (class_of ins ≡ Fences → ⊥) → fits_imm (form_of ins) (with_imm ins None d).ops.imm ≡ true
    of (inl is) = subst (λ i. fits_imm (form_of i) (with_imm i None d).ops.imm ≡ true) (sym is) (lt-ltb (next_word d.left % 256) 2048 (omega arith))
    of (inr other) =
        ap (fits_imm (form_of ins)) (with_drawn (imm_by ins (next_word d.left)) ∙ ap (λ m. unwrap_or m d.ops.imm) (imm_by_form ins (next_word d.left) other))
        ∙ drawn_imm_fits (form_of ins) (next_word d.left) d.ops.imm (ap (fits_imm (form_of ins)) bare ∙ fit)

-- ---- all operands

fits_from : {A : Type 0} (m : Option A) → is_none m ≡ true → m ≡ None
fits_from None e = refl
fits_from (Some a) e = absurd cc

pub drawn_fits : (ins : Ins) (pins : Pins) (counter : Option ℕ) (draws : Draws) → fits_word ins (pinned_ops pins) ≡ true → serve (registers_of ins pins counter) ≡ true
    → misfit (form_of ins) (operands_drawn ins pins counter draws).ops ≡ None
drawn_fits ins pins counter draws holds served = no_misfit (form_of ins) ops each
  where
    d : Drawn
    d = registers_drawn draws (registers_of ins pins counter)

    ops : Ops
    ops = (operands_drawn ins pins counter draws).ops

    serves : Serves ins pins counter ops
    serves = drawn_serves ins pins counter draws served

    given : (f : Field) → fits (form_of ins) (pinned_ops pins) f ≡ true
    given = all_fit (form_of ins) (pinned_ops pins) (fits_from (misfit (form_of ins) (pinned_ops pins)) holds)

    each : (f : Field) → fits (form_of ins) ops f ≡ true
    each Rd = (registers_fit ins pins counter).rd ops.rd serves.rd
    each Rs1 = (registers_fit ins pins counter).rs1 ops.rs1 serves.rs1
    each Rs2 = (registers_fit ins pins counter).rs2 ops.rs2 serves.rs2
    each Imm = imm_fits ins pins.imm d refl (given Imm)
    each AqRl = ap (λ (o : Ops). fits_field (has_aqrl (form_of ins)) 4 o.aqrl) (same_registers ins pins.imm d) ∙ given AqRl
