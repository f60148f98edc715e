-- What the loader reads in a file's headers is what was written there.
use Rattle.std.proofs.Common.{◌≡◌, ℕ, ◌+◌, ◌*◌, ◌^◌, ◌<◌, List, [], ◌∷◌, ◌++◌, length, take, drop, refl, sym, ap, ◌∙◌, append_assoc, arith}
use Rattle.std.specs.Int.{w16, w32, w64, to_le_bytes}
use Rattle.std.specs.List.{flat_map, AllByRecursion}
use Rattle.std.proofs.lemmas.List.{drop_at, drop-drop, length-append}
use Rattle.std.proofs.lemmas.List.Concat.{flat_map-cons}
use Rattle.std.proofs.lemmas.Nat.{from_le_bytes-to_le_bytes_2, from_le_bytes-to_le_bytes_4, from_le_bytes-to_le_bytes_8}
use Rattle.rv_fields.specs.Memory.{number_of}
use Rattle.elf_file.specs.declared.fields.ProgramHeader.{ProgramHeader}
use Rattle.elf_file.specs.Writing.{PlacedSegment, program_header}
use Rattle.elf_file.specs.Headers.{field, header_offset, header_in, header_at, headers_from}

-- ---- numbers

spelled_4 : (a b c d n : ℕ) → a + b * 256 + c * 65536 + d * 16777216 ≡ n → number_of (a ∷ b ∷ c ∷ d ∷ []) ≡ n
spelled_4 a b c d n is = omega arith

spelled_8 : (a b c d e f g h n : ℕ)
    → a + b * 256 + c * 65536 + d * 16777216 + e * 4294967296 + f * 1099511627776 + g * 281474976710656 + h * 72057594037927936 ≡ n
    → number_of (a ∷ b ∷ c ∷ d ∷ e ∷ f ∷ g ∷ h ∷ []) ≡ n
spelled_8 a b c d e f g h n is = omega arith

pub number_of-two : (n : ℕ) → n < 2 ^ 16 → number_of (to_le_bytes w16 n) ≡ n
number_of-two n fits = omega (arith, from_le_bytes-to_le_bytes_2 n fits)

pub number_of-four : (n : ℕ) → n < 2 ^ 32 → number_of (to_le_bytes w32 n) ≡ n
number_of-four n fits = spelled_4 _ _ _ _ n (from_le_bytes-to_le_bytes_4 n fits)

pub number_of-eight : (n : ℕ) → n < 2 ^ 64 → number_of (to_le_bytes w64 n) ≡ n
number_of-eight n fits = spelled_8 _ _ _ _ _ _ _ _ n (from_le_bytes-to_le_bytes_8 n fits)

-- ---- a program header

-- an address as it is read again: modulo 2^64
unfoldable pub read_again : ℕ → ℕ
read_again at = number_of (to_le_bytes w64 at)

pub read_again-same : (at : ℕ) → at < 2 ^ 64 → read_again at ≡ at
unfolding read_again
read_again-same at fits = number_of-eight at fits

-- a placed segment whose place and sizes fit their fields
pub record FitsFields (p : PlacedSegment) : Type 0 where
  pub offset : p.offset < 2 ^ 64
  pub filesz : length p.bytes < 2 ^ 64
  pub memsz : p.size < 2 ^ 64

-- the program header of a placed segment, as it is read again
abbrev pub header_of : ℕ → PlacedSegment → ProgramHeader
header_of number p = record {
  number = number;
  kind = 1;
  flags = number_of (to_le_bytes w32 p.flags);
  offset = p.offset;
  paddr = read_again p.at;
  filesz = length p.bytes;
  memsz = p.size;
}

abbrev pub headers_of : ℕ → List PlacedSegment → List ProgramHeader
headers_of number [] = []
headers_of number (p ∷ ps) = header_of number p ∷ headers_of (number + 1) ps

field_behind : (front file : List ℕ) (at k size : ℕ) → length front ≡ at → field (front ++ file) (at + k) size ≡ field file k size
unfolding field
field_behind front file at k size is = ap (λ (xs : List ℕ). number_of (take size xs)) (sym (drop-drop k at (front ++ file)) ∙ ap (drop k) (drop_at front file at is))

field_first : (front file : List ℕ) (at size : ℕ) → length front ≡ at → field (front ++ file) at size ≡ field file 0 size
unfolding field
field_first front file at size is = ap (λ (xs : List ℕ). number_of (take size xs)) (drop_at front file at is)

header_first : (number : ℕ) (p : PlacedSegment) (rest : List ℕ) → FitsFields p → header_in (program_header p ++ rest) 0 number ≡ header_of number p
unfolding field read_again
header_first number p rest fits =
    let offset = number_of-eight p.offset fits.offset in
    let filesz = number_of-eight (length p.bytes) fits.filesz in
    let memsz = number_of-eight p.size fits.memsz in
    λ i. record (header_of number p) { offset = offset i; filesz = filesz i; memsz = memsz i }

header_behind : (front file : List ℕ) (at number : ℕ) → length front ≡ at → header_in (front ++ file) at number ≡ header_in file 0 number
header_behind front file at number is = λ i. record {
  number = number;
  kind = field_first front file at 4 is i;
  flags = field_behind front file at 4 4 is i;
  offset = field_behind front file at 8 8 is i;
  paddr = field_behind front file at 24 8 is i;
  filesz = field_behind front file at 32 8 is i;
  memsz = field_behind front file at 40 8 is i;
}

-- the headers of placed segments, behind the file's header and those of other segments
pub headers_from-placed : (ps : List PlacedSegment) (file front rest : List ℕ) (number : ℕ) → file ≡ front ++ (flat_map program_header ps ++ rest)
    → header_offset file ≡ 64 → length front ≡ 64 + 56 * number → AllByRecursion FitsFields ps → headers_from file number (length ps) ≡ headers_of number ps
unfolding header_at
headers_from-placed [] file front rest number is offset at fits = refl
headers_from-placed (p ∷ ps) file front rest number is offset at fits =
    let behind : List ℕ = flat_map program_header ps ++ rest in
    let regrouped : file ≡ front ++ (program_header p ++ behind) =
    is ∙ ap (λ (xs : List ℕ). front ++ (xs ++ rest)) (flat_map-cons program_header p ps) ∙ ap (λ (xs : List ℕ). front ++ xs) (append_assoc (program_header p) (flat_map program_header ps) rest) in
    let first : header_at file number ≡ header_of number p =
    ap (λ start. header_in file (start + 56 * number) number) offset ∙ ap (λ xs. header_in xs (64 + 56 * number) number) regrouped
    ∙ header_behind front (program_header p ++ behind) (64 + 56 * number) number at ∙ header_first number p behind fits.0 in
    let further : file ≡ (front ++ program_header p) ++ behind = regrouped ∙ sym (append_assoc front (program_header p) behind) in
    let end : length (front ++ program_header p) ≡ 64 + 56 * (number + 1) = omega (arith, length-append front (program_header p)) in
    let others = headers_from-placed ps file (front ++ program_header p) rest (number + 1) further offset end fits.1 in
    λ i. first i ∷ others i
