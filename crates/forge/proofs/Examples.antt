-- What is said of how far the files of make-serial were read and written, spelled out at each file.
use Rattle.std.proofs.Common.{ℕ, zero, suc, ◌≡◌, ◌≢◌, ◌<◌, ◌≤◌, refl, subst, arith, List, [], ◌∷◌, length, take, true, false, nat_lt, Option, Some, IfSome}
use Rattle.std.specs.Prelude.{slice_get}
use Rattle.std.specs.List.{AllByRecursion}
use Rattle.std.proofs.lemmas.Bool.Decides.{nat_tests}
use Rattle.store_face.specs.State.{Held, State}
use Rattle.forge.specs.Words.{MakingSerial, make_serial}
use Rattle.forge.specs.Ends.{too_long, inputs, input_fault, Output, LeftBy, IsThere, ReadFails}

abbrev files : MakingSerial → List ℕ → List ℕ → List ℕ → List Output
files m elf order trace =
    record { name = m.elf; bytes = elf } ∷ record { name = m.order; bytes = order } ∷ record { name = m.trace; bytes = trace } ∷ []

-- where the writes stopped at the ELF, order and trace hold what they held
pub stopped_at_elf : (m : MakingSerial) (elf order trace : List ℕ) (before now : Held) → m.order ≢ m.elf → m.trace ≢ m.elf
    → LeftBy (files m elf order trace) 0 before now → (now m.order ≡ before m.order) × (now m.trace ≡ before m.trace)
stopped_at_elf m elf order trace before now oe te left = (left.others m.order (oe, tt), left.others m.trace (te, tt))

-- at the order, the ELF is whole, and the trace holds what it held
pub stopped_at_order : (m : MakingSerial) (elf order trace : List ℕ) (before now : Held) → m.trace ≢ m.elf → m.trace ≢ m.order
    → LeftBy (files m elf order trace) 1 before now → (now m.elf ≡ Some elf) × (now m.trace ≡ before m.trace)
stopped_at_order m elf order trace before now te to left = (left.whole.0, left.others m.trace (te, (to, tt)))

-- at the trace, ELF and order are whole
pub stopped_at_trace : (m : MakingSerial) (elf order trace : List ℕ) (before now : Held)
    → LeftBy (files m elf order trace) 2 before now → (now m.elf ≡ Some elf) × (now m.order ≡ Some order)
stopped_at_trace m elf order trace before now left = (left.whole.0, left.whole.1.0)

-- nowhere: all three are whole, and every other name holds what it held
pub stopped_nowhere : (m : MakingSerial) (elf order trace : List ℕ) (before now : Held) → LeftBy (files m elf order trace) 3 before now
    → (now m.elf ≡ Some elf) × (now m.order ≡ Some order) × (now m.trace ≡ Some trace)
    × ((name : List ℕ) → name ≢ m.elf → name ≢ m.order → name ≢ m.trace → now name ≡ before name)
stopped_nowhere m elf order trace before now left =
    (left.whole.0, left.whole.1.0, left.whole.1.1.0, λ name e o t. left.others name (e, (o, (t, tt))))

-- where TREES can't be read, JOB was there
pub trees_unread : (m : MakingSerial) (old new : State) (before : Held) → m.job ≢ m.trees → old.holds ≡ Some before → ReadFails (make_serial m) old new m.trees
    → IsThere before m.job
trees_unread m old new before differ told fails = there fails.number fails.named fails.there
  where
    there : (n : ℕ) → slice_get (inputs (make_serial m)) n ≡ Some m.trees
        → IfSome old.holds (λ held. AllByRecursion (IsThere held) (take n (inputs (make_serial m)))) → IsThere before m.job
    there zero named all = let same : m.job ≡ m.trees = cc in absurd (differ same)
    there (suc zero) named all =
        let P : Option Held → Type 0 = λ o. IfSome o (λ held. AllByRecursion (IsThere held) (m.job ∷ [])) in (subst P told all).0
    there (suc (suc n)) named all = cc

-- a job that is too long is told, whatever else there is
pub long_job : (m : MakingSerial) (job trees : List ℕ) → 4194304 < length job → input_fault (make_serial m) (job ∷ trees ∷ []) ≡ Some (too_long m.job 4194304)
long_job m job trees long = let test : nat_lt 4194304 (length job) ≡ true = grind (arith, nat_tests) in rw test refl

-- and trees that are too long, before the form of the job
pub long_trees : (m : MakingSerial) (job trees : List ℕ) → length job ≤ 4194304 → 4194304 < length trees
    → input_fault (make_serial m) (job ∷ trees ∷ []) ≡ Some (too_long m.trees 4194304)
long_trees m job trees short long =
    let first : nat_lt 4194304 (length job) ≡ false = grind (arith, nat_tests) in
    let second : nat_lt 4194304 (length trees) ≡ true = grind (arith, nat_tests) in rw (first, second) refl
