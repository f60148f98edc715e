-- What a store of files is, as its contracts see it.
use Rattle.std.specs.Prelude.{ℕ, ◌-◌, ◌^◌, ◌<◌, ◌≡◌, ◌⊎◌, List, Option}

-- names to bytes: none where there is no file of the name
abbrev pub Held : Type 0
Held = List ℕ → Option (List ℕ)

pub record State : Type 0 where
  -- what the store holds; none for a store that doesn't tell it
  pub holds : Option Held
  -- how many reads and how many writes have failed
  pub read_faults : ℕ
  pub write_faults : ℕ
  -- the name of the last call that failed
  pub last : List ℕ

-- The count has risen: one that stands at the end of its type counts as risen.
abbrev pub Rose : ℕ → ℕ → Type 0
Rose old new = (old < new) ⊎ (new ≡ 2 ^ 64 - 1)
