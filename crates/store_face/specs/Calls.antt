-- What the calls of a store do.
use Rattle.std.specs.Prelude.{ℕ, ◌<◌, ◌≤◌, ◌≡◌, ◌≢◌, List, length, Bool, true, false, Option, Some, None, IfSome, IsSomeAnd, MatchOption, Result, Ok, Err, OnOk}
use Rattle.store_face.specs.declared.fault.StoreFault.{StoreFault}
use Rattle.store_face.specs.declared.fault.StoreFault.TheVariants.{Failed}
use Rattle.store_face.specs.State.{Held, State, Rose}

-- A read of the name, of at most so many bytes: what the store holds stays, and so does the count of failed writes.
pub record Reads (name : List ℕ) (most : ℕ) (old new : State) (result : Result Bool StoreFault) (read : List ℕ) : Type 0 where
  pub held : new.holds ≡ old.holds
  pub writes : new.write_faults ≡ old.write_faults
  pub counts_up : old.read_faults ≤ new.read_faults
  -- a failed read is counted and named, and no other is
  pub failed : result ≡ Err Failed → Rose old.read_faults new.read_faults × (new.last ≡ name)
  pub passed : result ≢ Err Failed → (new.read_faults ≡ old.read_faults) × (new.last ≡ old.last)
  -- true: the content is read; false: it is longer than asked for
  pub whole : result ≡ Ok true → IfSome old.holds (λ held. held name ≡ Some read) × (length read ≤ most)
  pub longer : result ≡ Ok false → IfSome old.holds (λ held. IsSomeAnd (held name) (λ content. most < length content))

-- what is held under every name but one is as before, and a store that tells goes on telling
abbrev pub KeepsAllBut : List ℕ → Option Held → Option Held → Type 0
KeepsAllBut name old new =
    MatchOption old (new ≡ None) (λ before. IsSomeAnd new (λ now. (other : List ℕ) → other ≢ name → now other ≡ before other))

-- A write of the bytes under the name: every other name holds what it held, and the count of failed reads stays.
pub record Writes {A : Type 0} (name bytes : List ℕ) (old new : State) (result : Result A StoreFault) : Type 0 where
  pub others : KeepsAllBut name old.holds new.holds
  pub reads : new.read_faults ≡ old.read_faults
  pub counts_up : old.write_faults ≤ new.write_faults
  -- a failed write is counted and named, and no other is
  pub failed : result ≡ Err Failed → Rose old.write_faults new.write_faults × (new.last ≡ name)
  pub passed : result ≢ Err Failed → (new.write_faults ≡ old.write_faults) × (new.last ≡ old.last)
  pub written : OnOk result (IfSome new.holds (λ held. held name ≡ Some bytes))
