-- The ranges that the fields of a trace keep.
use Rattle.std.specs.Prelude.{ℕ, ◌≢◌, ◌<◌, ◌≤◌, List, length, IsTrue, IfSome}
use Rattle.std.specs.List.{AllByRecursion}
use Rattle.rv_fields.specs.Name.{Name, is_name}
use Rattle.rv_fields.specs.declared.mode.Mode.TheVariants.{U}
use Rattle.rv_fields.specs.declared.access.Accessed.{Accessed}
use Rattle.rv_fields.specs.declared.trap.Trap.{Trap}
use Rattle.rv_fields.specs.Effect.{Entry}
use Rattle.trace_fields.specs.Bounds.{hex_bound, register_bound, trap_bound, most_labels, most_fixed_bytes, sized_bound, byte_bound}
use Rattle.trace_fields.specs.Readings.{is_any_of, sizes}

abbrev pub IsAnyOf : List ℕ → ℕ → Type 0
IsAnyOf numbers n = IsTrue (is_any_of numbers n)

abbrev pub IsName : Name → Type 0
IsName name = IsTrue (is_name name)

-- a register that is written, and its new value
pub record IsWrite (w : ℕ × ℕ) : Type 0 where
  pub some : 1 ≤ w.0
  pub register : w.0 < register_bound
  pub value : w.1 < hex_bound

pub record IsAccess (a : Accessed) : Type 0 where
  pub va : a.va < hex_bound
  pub pa : a.pa < hex_bound
  pub size : IsAnyOf sizes a.size
  pub read : IfSome a.read (λ n. n < sized_bound a.size)
  pub wrote : IfSome a.wrote (λ n. n < sized_bound a.size)

pub record IsEntry (e : Entry) : Type 0 where
  pub at : e.at < hex_bound
  pub pte : e.pte < hex_bound

pub record IsTrap (t : Trap) : Type 0 where
  pub cause : t.cause < trap_bound
  pub epc : t.epc < hex_bound
  pub tval : t.tval < hex_bound
  pub to : t.to ≢ U

pub record IsPath (path : List Name) : Type 0 where
  pub some : 1 ≤ length path
  pub short : length path ≤ most_labels
  pub named : AllByRecursion IsName path

pub record AreFixedBytes (bytes : List ℕ) : Type 0 where
  pub some : 1 ≤ length bytes
  pub short : length bytes ≤ most_fixed_bytes
  pub small : AllByRecursion (λ b. b < byte_bound) bytes
