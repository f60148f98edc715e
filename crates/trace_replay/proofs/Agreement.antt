-- A verdict agrees exactly where the files pass from the reset.
use Rattle.std.proofs.Common.{ℕ, zero, suc, ◌+◌, ◌<◌, ◌≤◌, ◌≡◌, ◌^◌, Bool, true, cond, List, [], ◌∷◌, length, map, ◌-◌, ◌&&◌, Option, Some, None, refl, sym, ap, subst, ◌∙◌, arith, inl, inr, lit<, replicate}
use Rattle.std.specs.Prelude.{All, drop, false, get_or, nat_le, nat_lt, slice_get, slice_index, take}
use Rattle.std.specs.List.{AllByRecursion}
use Rattle.std.specs.Fmt.{decimal}
use Rattle.std.specs.Option.{option_map_or, option_or, unwrap_or}
use Rattle.std.proofs.lemmas.Bool.{lt-ltb}
use Rattle.std.proofs.lemmas.Bool.Decides.{eqb_tells, nat_tests}
use Rattle.rv_fields.specs.Play.{IsReset, Plays, most_harts}
use Rattle.rv_fields.specs.Ranges.{AreBytes}
use Rattle.rv_fields.proofs.Ranges.{in_range_at_reset}
use Rattle.std.proofs.lemmas.Option.{slice_get_past, none-some}
use Rattle.rv_fields.specs.Memory.{whole}
use Rattle.rv_step.specs.Views.{hart_seen}
use Rattle.rv_machine.specs.declared.machine.Machine as code
use Rattle.rv_machine.specs.declared.reset.Reset.{Reset}
use Rattle.rv_machine.specs.Views.{absent_hart, machine_seen, reset_hart}
use Rattle.trace_text.specs.Lines.{Line, effects_of}
use Rattle.trace_text.specs.Orders.{IsOrder, harts_told, order_fault, order_told}
use Rattle.trace_text.specs.Text.{order_text}
use Rattle.trace_text.specs.Traces.{IsTrace}
use Rattle.trace_text.proofs.Injective.{injective}
use Rattle.trace_text.proofs.OrdersTold as orders
use Rattle.boot_words.specs.Passing.{IsAtReset}
use Rattle.elf_file.specs.declared.fields.ProgramHeader.{ProgramHeader}
use Rattle.elf_file.specs.Headers.{loads}
use Rattle.elf_file.specs.Loading.{is_loadable, load, segment_in, segments_in}
use Rattle.ram_image.specs.Segments.{memory_of}
use Rattle.trace_replay.specs.declared.verdict.Verdict.{Verdict}
use Rattle.trace_replay.specs.declared.verdict.Verdict.TheVariants.{Agrees, Differs}
use Rattle.trace_replay.specs.declared.verdict.LineField.TheVariants.{Harts}
use Rattle.trace_replay.specs.Comparing.{Difference, first_difference, harts_differ}
use Rattle.trace_replay.specs.Judging.{IsInRange}
use Rattle.trace_replay.specs.Passes.{AreFiles, Passes, PassesFrom, machine_at, reset_harts}
use Rattle.elf_file.specs.declared.fault.ElfFault.{ElfFault}
use Rattle.elf_file.specs.Faults.{file_fault}
use Rattle.elf_file.proofs.Judging.{unloaded_with_fault}
use Rattle.trace_text.proofs.Sound.{sound}
use Rattle.trace_text.specs.Traces as traces
use Rattle.trace_replay.specs.declared.verdict.ReplayFault.{ReplayFault}
use Rattle.trace_replay.specs.declared.verdict.ReplayFault.TheVariants.{Elf, Order, Trace, Memory}
use Rattle.trace_replay.specs.Verdicts.{IsFaultOf, IsOf, IsTraceFault, IsVerdict, is_agreement}
use Rattle.trace_replay.proofs.Judged.{none_where_passes, passes_where_none}
use Rattle.trace_replay.proofs.Playing.{MachineInRange}

module _ (reset : Reset) (small : IsInRange reset) (harts : ℕ) where
  pub is_reset : (h : ℕ) → h < harts → IsReset h (reset_harts harts reset h)
  is_reset h member = subst (λ b. IsReset h (cond b (reset_hart h reset) absent_hart)) (sym (lt-ltb h harts member)) (record {
    number = refl;
    pc = refl;
    mode = refl;
    reserved = refl;
    zero = refl;
    registers = λ r. (slice_index (0 ∷ reset.x) r, refl, small.registers r);
    raw = reset.csrs;
    raw_count = small.count;
    raw_small = small.raw;
    csrs = refl;
  })

  -- what passes from every reset passes from this one
  pub at_reset : (elf : List ℕ) → IsAtReset harts (load elf) (machine_at harts reset elf)
  at_reset elf = record { bytes = λ a. refl; links = λ h g. refl; resets = is_reset }

  in_range : harts ≤ most_harts → (elf : List ℕ) → AreBytes (load elf) → MachineInRange harts (machine_at harts reset elf)
  in_range few elf bytes = record {
    bytes = bytes;
    numbers = λ h member. (is_reset h member).number;
    own = λ h member. in_range_at_reset h (reset_harts harts reset h) (omega (arith, member, few)) (is_reset h member);
  }

pub order_sound : (harts : ℕ) (order text : List ℕ) → IsOrder harts order → text ≡ order_text harts order → order_fault text ≡ None
order_sound harts order text is same = ap order_fault same ∙ (orders.told harts order is).0

-- files in their forms have no fault
pub files_sound : (harts : ℕ) (order : List ℕ) (told_harts : ℕ) (lines : List Line) (elf order_file trace_file : List ℕ)
    → AreFiles harts order told_harts lines elf order_file trace_file
    → (file_fault elf ≡ None) × (order_fault order_file ≡ None) × (traces.trace_fault trace_file ≡ None)
files_sound harts order told_harts lines elf order_file trace_file files = (
  none_in (file_fault elf) refl,
  order_sound harts order order_file files.order_ranges files.order_is,
  ap traces.trace_fault files.trace_is ∙ sound told_harts lines files.trace_ranges,
)
  where
    none_in : (fault : Option ElfFault) → fault ≡ file_fault elf → file_fault elf ≡ None
    none_in None is = sym is
    none_in (Some fault) is =
        let lacks : load elf 0 ≡ None = unloaded_with_fault elf fault 0 (sym is) in
        let has : load elf 0 ≡ Some (files.loads 0).0 = (files.loads 0).1 in
        absurd (none-some (files.loads 0).0 (sym lacks ∙ has))

all_named : (harts : ℕ) (order : List ℕ) → All (λ h. h < harts) order → AllByRecursion (λ h. h < harts) order
all_named harts [] named = tt
all_named harts (h ∷ order) named = (named 0 0 (omega arith), all_named harts order (λ k d below. named (suc k) d (omega (arith, below))))

agreed : (v : Verdict) (count : ℕ) (d : Option Difference) → IsOf v count d → is_agreement v ≡ true → d ≡ None
agreed (Agrees steps) count None is ok = refl
agreed (Agrees steps) count (Some d) is ok = absurd is
agreed (Differs first) count None is ok = absurd is
agreed (Differs first) count (Some d) is ok = absurd cc

agreeing : (v : Verdict) (count : ℕ) (d : Option Difference) → IsOf v count d → d ≡ None → is_agreement v ≡ true
agreeing (Agrees steps) count d is none = refl
agreeing (Differs first) count None is none = absurd is
agreeing (Differs first) count (Some d) is none = absurd cc

same_harts : (told harts : ℕ) (d : Option Difference) → option_or (harts_differ told harts) d ≡ None → told ≡ harts
same_harts told harts d none = elim (eqb_tells told harts) [
  | inl same ↦ same.1
  | inr apart ↦ clash (ap (λ b. option_or (cond b None here) d) apart.0) none
]
  where
    here : Option Difference
    here = Some (record { line = 1; field = Harts; told = decimal told; found = decimal harts })

    clash : {B : Type 0} {o : Option Difference} → o ≡ here → o ≡ None → B
    clash e n = cc

module _ (reset : Reset) (small : IsInRange reset) (elf order_file trace_file : List ℕ) (v : Verdict) (is : IsVerdict reset elf order_file trace_file v) (bytes : AreBytes (load elf)) where
  pub passes_where_agrees : is_agreement v ≡ true → PassesFrom reset elf order_file trace_file
  passes_where_agrees ok =
      let none : first_difference is.told_harts is.harts is.lines is.effects ≡ None = agreed v (length (effects_of is.lines)) _ is.is ok in
      let same : is.told_harts ≡ is.harts = same_harts is.told_harts is.harts _ none in
      let files : AreFiles is.harts is.order is.harts is.lines elf order_file trace_file =
      subst (λ n. AreFiles is.harts is.order n is.lines elf order_file trace_file) same is.files in (
        is.harts,
        is.order,
        is.lines,
        record {
          files = files;
          plays = passes_where_none is.harts is.order is.lines is.effects (machine_at is.harts reset elf) is.end files.order_ranges.most
              (all_named is.harts is.order files.order_ranges.named) files.trace_ranges (in_range reset small is.harts files.order_ranges.most elf bytes) is.plays
              (subst (λ n. first_difference n is.harts is.lines is.effects ≡ None) same none);
        },
      )

  pub agrees_where_passes : PassesFrom reset elf order_file trace_file → is_agreement v ≡ true
  agrees_where_passes (harts, order, lines, by) =
      let told = orders.told is.harts is.order is.files.order_ranges in
      let others = orders.told harts order by.files.order_ranges in
      let text : order_text is.harts is.order ≡ order_text harts order = sym is.files.order_is ∙ by.files.order_is in
      let same_count : is.harts ≡ harts = sym told.1 ∙ ap harts_told text ∙ others.1 in
      let same_order : is.order ≡ order = sym told.2 ∙ ap order_told text ∙ others.2 in
      let traces = injective is.told_harts harts is.lines lines is.files.trace_ranges by.files.trace_ranges (sym is.files.trace_is ∙ by.files.trace_is) in
      let plays : Plays (machine_at harts reset elf) order is.effects is.end =
      subst (λ o. Plays (machine_at harts reset elf) o is.effects is.end) same_order (subst (λ n. Plays (machine_at n reset elf) is.order is.effects is.end) same_count is.plays) in
      let none : first_difference harts harts lines is.effects ≡ None =
      none_where_passes harts order lines is.effects (machine_at harts reset elf) is.end plays by.plays in
      agreeing v (length (effects_of is.lines)) _ is.is
      (ap (λ n. first_difference n is.harts is.lines is.effects) traces.0 ∙ ap (λ n. first_difference harts n is.lines is.effects) same_count
      ∙ ap (λ ls. first_difference harts harts ls is.effects) traces.1 ∙ none)

pub from_every : (reset : Reset) → IsInRange reset → (elf order_file trace_file : List ℕ) → Passes elf order_file trace_file → PassesFrom reset elf order_file trace_file
from_every reset small elf order_file trace_file (harts, order, lines, by) =
    (harts, order, lines, record { files = by.files; plays = by.plays (machine_at harts reset elf) (at_reset reset small harts elf) })

-- ---- what the code holds

-- the machine that the code begins with
pub machine_is : (reset : Reset) (harts : ℕ) (elf : List ℕ) (ram : ℕ → ℕ) (m : code.Machine)
    → (machine_seen m).seen ≡ record { byte = whole ram; link = λ h g. Some false } → ((a : ℕ) → load elf a ≡ Some (ram a))
    → ((h : ℕ) → h < harts → (machine_seen m).harts h ≡ reset_hart h reset) → length m.harts.items ≡ harts → machine_seen m ≡ machine_at harts reset elf
machine_is reset harts elf ram m seen loaded each count =
    (λ i. record { seen = seen i; harts = (machine_seen m).harts })
    ∙ (λ i. record { seen = record { byte = λ a. sym (loaded a) i; link = λ h g. Some false }; harts = λ h. place h i })
  where
    place : (h : ℕ) → (machine_seen m).harts h ≡ reset_harts harts reset h
    place h = of (nat_lt h harts) refl
      where
        of : (b : Bool) → b ≡ nat_lt h harts → (machine_seen m).harts h ≡ cond b (reset_hart h reset) absent_hart
        of true within = each h (grind (arith, nat_tests, within))
        of false past =
            let behind : harts ≤ h = grind (arith, nat_tests, past) in
            ap (λ o. option_map_or hart_seen o absent_hart) (slice_get_past m.harts.items h (subst (λ n. n ≤ h) (sym count) behind))

-- the fault of a trace is told where the files before it have none
pub trace_faulty : (elf order_file trace_file : List ℕ) (fault : ReplayFault) → file_fault elf ≡ None → order_fault order_file ≡ None
    → IsTraceFault (traces.trace_fault trace_file) fault → IsFaultOf elf order_file trace_file fault
trace_faulty elf order_file trace_file (Elf fault) sound ordered is = absurd is
trace_faulty elf order_file trace_file (Order fault) sound ordered is = absurd is
trace_faulty elf order_file trace_file (Trace fault) sound ordered is = (is.0, sound, ordered, is.1)
trace_faulty elf order_file trace_file Memory sound ordered is = tt

-- values of registers and CSRs that are small
pub behind_zero : (xs : List ℕ) → ((k : ℕ) → get_or xs k 0 < 2 ^ 64) → (r : ℕ) → slice_index (0 ∷ xs) r < 2 ^ 64
behind_zero xs small zero = lit< tt
behind_zero xs small (suc r) = small r

pub all_small : (xs : List ℕ) → ((k : ℕ) → get_or xs k 0 < 2 ^ 64) → AllByRecursion (λ v. v < 2 ^ 64) xs
all_small [] small = tt
all_small (x ∷ xs) small = (small 0, all_small xs (λ k. small (suc k)))

-- one of so many that are the same
pub one_of : {A : Type 0} (a : A) (n k h : ℕ) → h < n → h < k → slice_get (take n (replicate k a)) h ≡ Some a
one_of a zero k h below member = absurd (omega (arith, below))
one_of a (suc n) zero h below member = absurd (omega (arith, member))
one_of a (suc n) (suc k) zero below member = refl
one_of a (suc n) (suc k) (suc h) below member = one_of a n k h (omega (arith, below)) (omega (arith, member))

-- ---- the bytes of a program

taken_small : (n : ℕ) (xs : List ℕ) (i : ℕ) → ((k : ℕ) → get_or xs k 0 < 2 ^ 8) → get_or (take n xs) i 0 < 2 ^ 8
taken_small zero xs i small = omega arith
taken_small (suc n) [] i small = omega arith
taken_small (suc n) (x ∷ xs) zero small = small 0
taken_small (suc n) (x ∷ xs) (suc i) small = taken_small n xs i (λ k. small (suc k))

dropped_small : (n : ℕ) (xs : List ℕ) → ((k : ℕ) → get_or xs k 0 < 2 ^ 8) → (k : ℕ) → get_or (drop n xs) k 0 < 2 ^ 8
dropped_small zero xs small k = small k
dropped_small (suc n) [] small k = omega arith
dropped_small (suc n) (x ∷ xs) small k = dropped_small n xs (λ k. small (suc k)) k

segments_small : (elf : List ℕ) → ((k : ℕ) → get_or elf k 0 < 2 ^ 8) → (headers : List ProgramHeader) (a : ℕ) → memory_of (map (segment_in elf) headers) a < 2 ^ 8
segments_small elf small [] a = omega arith
segments_small elf small (h ∷ headers) a = of (nat_le h.paddr a && nat_lt a (h.paddr + h.memsz)) (segments_small elf small headers a)
  where
    byte : ℕ
    byte = slice_index (take h.filesz (drop h.offset elf)) (a - h.paddr)

    byte_small : byte < 2 ^ 8
    byte_small = taken_small h.filesz (drop h.offset elf) (a - h.paddr) (dropped_small h.offset elf small)

    of : (b : Bool) → memory_of (map (segment_in elf) headers) a < 2 ^ 8 → unwrap_or (cond b (Some byte) None) (memory_of (map (segment_in elf) headers) a) < 2 ^ 8
    of true rest = byte_small
    of false rest = rest

-- what a file of bytes is loaded as has bytes
pub loaded_bytes : (elf : List ℕ) → ((k : ℕ) → get_or elf k 0 < 2 ^ 8) → AreBytes (load elf)
loaded_bytes elf small a b is = of (is_loadable elf) is
  where
    of : (t : Bool) → cond t (Some (memory_of (segments_in elf) a)) None ≡ Some b → b < 2 ^ 8
    of true same = let here : memory_of (segments_in elf) a ≡ b = cc in subst (λ n. n < 2 ^ 8) here (segments_small elf small (loads elf) a)
    of false same = absurd cc
