use Rattle.std.proofs.Common.{◌≡◌, ℕ, length, get_or, None}
use Rattle.ram_image.proofs.ram.Ram.zeros.Given as goal

abbrev pub invariant-loop : goal.invariant-loop
invariant-loop l = record { count : length l.pages.items ≡ l.counter; none : (k : ℕ) → get_or l.pages.items k None ≡ None }
