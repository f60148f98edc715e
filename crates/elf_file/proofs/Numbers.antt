-- A number that the code reads is the field of the file.
use Rattle.std.proofs.Common.{◌≡◌, ℕ, zero, suc, ◌+◌, ◌*◌, ◌-◌, ◌≤◌, List, length, take, drop, get_or, refl, sym, ap, ◌∙◌, drop-cons, arith}
use Rattle.std.proofs.lemmas.List.{length-drop, take_all}
use Rattle.byteorder.specs.Endian.{little_from}
use Rattle.rv_fields.specs.Memory.{number_of}
use Rattle.elf_file.specs.Headers.{field}

little_from-drop : (size at : ℕ) (file : List ℕ) → at + size ≤ length file → little_from at size file ≡ number_of (take size (drop at file))
little_from-drop zero at file fits = refl
little_from-drop (suc size) at file fits =
    let within : suc at + size ≤ length file = omega arith in
    ap (λ n. get_or file at 0 + 256 * n) (little_from-drop size (suc at) file within)
    ∙ ap (λ (xs : List ℕ). number_of (take (suc size) xs)) (sym (drop-cons file at 0 (omega arith)))

pub byte_is_field : (file : List ℕ) (at : ℕ) → at + 1 ≤ length file → get_or file at 0 ≡ field file at 1
unfolding field
byte_is_field file at fits = omega (arith, little_from-drop 1 at file fits)

pub number_is_field : (file : List ℕ) (at size : ℕ) → at + size ≤ length file → little_from 0 size (take (length file - at) (drop at file)) ≡ field file at size
unfolding field
number_is_field file at size fits =
    let rest : take (length file - at) (drop at file) ≡ drop at file = take_all (length file - at) (drop at file) (omega (arith, length-drop at file)) in
    ap (λ (xs : List ℕ). little_from 0 size xs) rest ∙ little_from-drop size 0 (drop at file) (omega (arith, length-drop at file))
