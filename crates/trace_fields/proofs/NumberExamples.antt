-- Fields and the numbers that they spell.
use Rattle.std.proofs.Common.{◌≡◌, ◌^◌, refl, Some, None}
use Rattle.std.specs.Prelude.{◌-◌, codes}
use Rattle.std.specs.Fmt.{digits}
use Rattle.trace_fields.specs.Numbers.{decimal_below, hex_below, word_reading, byte_reading}

pub decimals : (decimal_below (2 ^ 64) (codes "0") ≡ Some 0) × (decimal_below (2 ^ 64) (codes "18446744073709551615") ≡ Some (2 ^ 64 - 1))
    × (decimal_below 32 (codes "31") ≡ Some 31) × (decimal_below 32 (codes "32") ≡ None) × (decimal_below 32 (codes "031") ≡ None)
    × (decimal_below 32 (codes "+31") ≡ None) × (decimal_below 32 (codes "1f") ≡ None) × (decimal_below 32 (codes "") ≡ None)
unfolding digits
decimals = (refl, refl, refl, refl, refl, refl, refl, refl)

pub hexes : (hex_below (2 ^ 64) (codes "0") ≡ Some 0) × (hex_below (2 ^ 64) (codes "84000abc") ≡ Some 0x84000abc)
    × (hex_below (2 ^ 64) (codes "ffffffffffffffff") ≡ Some (2 ^ 64 - 1)) × (hex_below (2 ^ 64) (codes "10000000000000000") ≡ None)
    × (hex_below (2 ^ 8) (codes "ff") ≡ Some 0xff) × (hex_below (2 ^ 8) (codes "100") ≡ None) × (hex_below (2 ^ 64) (codes "0ff") ≡ None)
    × (hex_below (2 ^ 64) (codes "fF") ≡ None) × (hex_below (2 ^ 64) (codes "+ff") ≡ None) × (hex_below (2 ^ 64) (codes "0xff") ≡ None)
    × (hex_below (2 ^ 64) (codes "fg") ≡ None) × (hex_below (2 ^ 64) (codes "") ≡ None)
unfolding digits
hexes = (refl, refl, refl, refl, refl, refl, refl, refl, refl, refl, refl, refl)

pub words : (word_reading (codes "0000b083") ≡ Some 0xb083) × (word_reading (codes "00000000") ≡ Some 0) × (word_reading (codes "ffffffff") ≡ Some 0xffff_ffff)
    × (word_reading (codes "b083") ≡ None) × (word_reading (codes "00000b083") ≡ None) × (word_reading (codes "0000B083") ≡ None)
    × (word_reading (codes "+000b083") ≡ None) × (word_reading (codes "0000b08g") ≡ None) × (word_reading (codes "") ≡ None)
unfolding digits
words = (refl, refl, refl, refl, refl, refl, refl, refl, refl)

pub bytes : (byte_reading (codes "00") ≡ Some 0) × (byte_reading (codes "0a") ≡ Some 10) × (byte_reading (codes "ff") ≡ Some 0xff) × (byte_reading (codes "a") ≡ None)
    × (byte_reading (codes "00a") ≡ None) × (byte_reading (codes "0A") ≡ None) × (byte_reading (codes "+a") ≡ None) × (byte_reading (codes "") ≡ None)
unfolding digits
bytes = (refl, refl, refl, refl, refl, refl, refl, refl)
