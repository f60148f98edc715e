-- A number in so many hexadecimal digits is what a hole such as `{:08x}` shows.
use Rattle.std.proofs.Common.{◌≡◌, ℕ, ◌-◌, ◌^◌, [], false, append-nil}
use Rattle.std.proofs.Math.Nat.{sub-zero}
use Rattle.std.specs.Fmt.{padded_integral, format_spec, char_count}
use Rattle.trace_fields.specs.Text.{hex, wide_hex}

pub padded_hex : (width n : ℕ) → padded_integral (format_spec 32 0 4 width (2 ^ 64 - 1)) false [] (hex n) ≡ wide_hex width n
unfolding padded_integral char_count
padded_hex width n = simp (append-nil, sub-zero)
