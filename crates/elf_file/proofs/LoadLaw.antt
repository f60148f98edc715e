-- A file that is written for sound segments is loaded as their memory.
use Rattle.std.proofs.Common.{◌≡◌, ℕ, suc, ◌+◌, ◌-◌, ◌*◌, ◌^◌, ◌<◌, ◌≤◌, true, false, eqb, ltb, leb, ◌&&◌, cond, List, [], ◌∷◌, ◌++◌, length, take, drop, get_or, map, ◌⊎◌, inl, inr, Some, None, refl, sym, ap, ◌∙◌, append_assoc, arith}
use Rattle.std.specs.Prelude.{filter, unwrap_or}
use Rattle.std.specs.List.{AllByRecursion, list_all, flat_map}
use Rattle.std.proofs.lemmas.Bool.{and_parts, and_from, or_right, or_left, eq-eqb, le-leb, leb-true, le-ltb, lt-leb, cases_lt, and_left, and_right, cond-false}
use Rattle.std.proofs.lemmas.List.{length-append, length-take, get_or_past, get_or-take, get_or-drop}
use Rattle.std.proofs.lemmas.List.Concat.{flat_map-cons}
use Rattle.std.proofs.lemmas.List.Folds.{list_all-append}
use Rattle.rv_fields.specs.Memory.{ram_end, ram_start}
use Rattle.ram_image.specs.Segments.{span_of as span_of_stretch, Stretch, Span, stretch_byte, memory_of, lies_in_ram, is_apart, are_apart, has_room, are_sound}
use Rattle.ram_image.proofs.Spans.{apart_none, apart_other_none, size_in_ram, span_parts}
use Rattle.elf_file.specs.declared.fields.ProgramHeader.{ProgramHeader}
use Rattle.elf_file.specs.Writing.{PlacedSegment, placed_segment, placed, page_from, trimmed, program_header, file_header, headers_size, elf_of}
use Rattle.elf_file.specs.Headers.{field, header_offset, header_count, headers_from, is_load, loads}
use Rattle.elf_file.specs.Faults.{Test, length_test, header_tests, header_span, segment_tests, apart_tests}
use Rattle.elf_file.specs.Loading.{is_loadable, segment_in, load}
use Rattle.elf_file.proofs.ReadBack.{FitsFields, read_again, read_again-same, header_of, headers_of, headers_from-placed, number_of-two}
use Rattle.elf_file.proofs.Trimming.{byte_of-trimmed, length-trimmed}
use Rattle.elf_file.proofs.Bytes.{Has, has_placed, page_from-lt}
use Rattle.elf_file.proofs.Soundness.{hold_from_apart}
use Rattle.elf_file.specs.Placing.{laid_from}

-- ---- sound segments, placed in a file

-- A placed segment that fits its header, has room for its bytes, and lies in RAM. Its address is read as it
-- was written, unless it has no bytes in memory.
pub record IsSound (p : PlacedSegment) : Type 0 where
  pub fields : FitsFields p
  pub room : length p.bytes ≤ p.size
  pub ram : lies_in_ram (record { at = p.at; size = p.size }) ≡ true
  pub at : (p.size ≡ 0) ⊎ (read_again p.at ≡ p.at)

address_read : (at size : ℕ) → (size ≡ 0) ⊎ ((ram_start ≤ at) × (at + size ≤ ram_end)) → (size ≡ 0) ⊎ (read_again at ≡ at)
address_read at size (inl none) = inl none
address_read at size (inr within) = inr (read_again-same at (omega (arith, within)))

sound_placed : (ss : List Stretch) (end : ℕ) → list_all has_room ss ≡ true → list_all (λ s. lies_in_ram (span_of_stretch s)) ss ≡ true
    → end + 2 ^ 29 * length ss < 2 ^ 63 → AllByRecursion IsSound (placed end ss)
sound_placed [] end rooms rams low = tt
sound_placed (s ∷ ss) end rooms rams low =
    let room = and_parts (has_room s) (list_all has_room ss) rooms in
    let ram = and_parts (lies_in_ram (span_of_stretch s)) (list_all (λ s. lies_in_ram (span_of_stretch s)) ss) rams in
    let cases = span_parts (span_of_stretch s) ram.0 in
    let small : s.size ≤ ram_end - ram_start = size_in_ram s.at s.size cases in
    let fits : length s.bytes ≤ s.size = leb-true (length s.bytes) s.size room.0 in
    let kept : length (trimmed s.bytes) ≤ length s.bytes = length-trimmed s.bytes in
    let near : page_from end < end + 4096 = page_from-lt end in
    let further : page_from end + length (trimmed s.bytes) + 2 ^ 29 * length ss < 2 ^ 63 = omega arith in (
      record {
        fields = record { offset = omega arith; filesz = omega arith; memsz = omega arith };
        room = omega arith;
        ram = ram.0;
        at = address_read s.at s.size cases;
      },
      sound_placed ss (page_from end + length (trimmed s.bytes)) room.1 ram.1 further,
    )

all_fields : (ps : List PlacedSegment) → AllByRecursion IsSound ps → AllByRecursion FitsFields ps
all_fields [] sound = tt
all_fields (p ∷ ps) sound = (sound.0.fields, all_fields ps sound.1)

-- ---- the headers of a file

pub length-headers : (ps : List PlacedSegment) → length (flat_map program_header ps) ≡ 56 * length ps
length-headers [] = refl
length-headers (p ∷ ps) = omega (arith, ap length (flat_map-cons program_header p ps), length-append (program_header p) (flat_map program_header ps), length-headers ps)

count_of_header : (n : ℕ) (rest : List ℕ) → n < 2 ^ 16 → header_count (file_header n ++ rest) ≡ n
unfolding field
count_of_header n rest fits = number_of-two n fits

offset_of_header : (n : ℕ) (rest : List ℕ) → header_offset (file_header n ++ rest) ≡ 64
unfolding field
offset_of_header n rest = refl

to_load : (number : ℕ) (ps : List PlacedSegment) → filter is_load (headers_of number ps) ≡ headers_of number ps
to_load number [] = refl
to_load number (p ∷ ps) = ap (λ hs. header_of number p ∷ hs) (to_load (number + 1) ps)

-- a file in three parts: its header, the program headers, and the bytes
abbrev file_in_parts : List PlacedSegment → List ℕ → List ℕ
file_in_parts ps rest = file_header (length ps) ++ (flat_map program_header ps ++ rest)

loads_placed : (ps : List PlacedSegment) (rest : List ℕ) → length ps < 2 ^ 16 → AllByRecursion FitsFields ps → loads (file_in_parts ps rest) ≡ headers_of 0 ps
loads_placed ps rest few fits =
    let file : List ℕ = file_in_parts ps rest in
    let behind : List ℕ = flat_map program_header ps ++ rest in
    ap (λ n. filter is_load (headers_from file 0 n)) (count_of_header (length ps) behind few)
    ∙ ap (filter is_load) (headers_from-placed ps file (file_header (length ps)) rest 0 refl (offset_of_header (length ps) behind) refl fits) ∙ to_load 0 ps

headers_there : (ps : List PlacedSegment) (rest : List ℕ) → length ps < 2 ^ 16
    → let file : List ℕ = file_in_parts ps rest in (length_test file (header_offset file) (56 * header_count file)).holds ≡ true
headers_there ps rest few =
    let behind : List ℕ = flat_map program_header ps ++ rest in
    let file : List ℕ = file_in_parts ps rest in
    let count = count_of_header (length ps) behind few in
    let offset = offset_of_header (length ps) behind in
    or_right _ _ (le-leb (header_offset file + 56 * header_count file) (length file)
    (omega (arith, count, offset, length-headers ps, length-append (file_header (length ps)) behind, length-append (flat_map program_header ps) rest)))

is_whole_header : (n : ℕ) (rest : List ℕ) → (length_test (file_header n ++ rest) 0 64).holds ≡ true
is_whole_header n rest = or_right (eqb 64 0) _ (le-leb 64 (length (file_header n ++ rest)) (omega (arith, length-append (file_header n) rest)))

-- a whole header of the one kind that is written, and whole program headers behind it
header_holds : (n : ℕ) (rest : List ℕ) → (length_test (file_header n ++ rest) (header_offset (file_header n ++ rest)) (56 * header_count (file_header n ++ rest))).holds ≡ true
    → list_all (λ t. t.holds) (header_tests (file_header n ++ rest)) ≡ true
unfolding header_tests field
header_holds n rest there = and_from _ _ (is_whole_header n rest) (and_from _ _ there refl)

-- ---- the segments of a file

abbrev span_at : ℕ → ℕ → Span
span_at at size = record { at = at; size = size }

ram_read : (number : ℕ) (p : PlacedSegment) → IsSound p → lies_in_ram (header_span (header_of number p)) ≡ true
ram_read number p sound =
    elim sound.at [
      | inl none ↦ or_left _ _ (eq-eqb p.size 0 none)
      | inr same ↦ ap (λ at. lies_in_ram (span_at at p.size)) same ∙ sound.ram
    ]

bytes_there : (file : List ℕ) (p : PlacedSegment) → Has file p → (length_test file p.offset (length p.bytes)).holds ≡ true
bytes_there file p has =
    elim has.there [
      | inl none ↦ or_left _ _ (eq-eqb (length p.bytes) 0 none)
      | inr some ↦ or_right _ _ (le-leb (p.offset + length p.bytes) (length file) some)
    ]

segment_holds : (file : List ℕ) (number : ℕ) (p : PlacedSegment) → IsSound p → Has file p → list_all (λ t. t.holds) (segment_tests file (header_of number p)) ≡ true
unfolding segment_tests
segment_holds file number p sound has =
    and_from _ _ (le-leb (length p.bytes) p.size sound.room) (and_from _ _ (ram_read number p sound) (and_from _ _ (bytes_there file p has) refl))

segments_hold : (file : List ℕ) (number : ℕ) (ps : List PlacedSegment) → AllByRecursion IsSound ps → AllByRecursion (Has file) ps
    → list_all (λ t. t.holds) (flat_map (segment_tests file) (headers_of number ps)) ≡ true
segments_hold file number [] sound has = refl
segments_hold file number (p ∷ ps) sound has =
    let first : List Test = segment_tests file (header_of number p) in
    let others : List Test = flat_map (segment_tests file) (headers_of (number + 1) ps) in
    ap (list_all (λ t. t.holds)) (flat_map-cons (segment_tests file) (header_of number p) (headers_of (number + 1) ps)) ∙ list_all-append (λ t. t.holds) first others
    ∙ and_from _ _ (segment_holds file number p sound.0 has.0) (segments_hold file (number + 1) ps sound.1 has.1)

apart_read : (a b c d size other : ℕ) → (size ≡ 0) ⊎ (a ≡ b) → (other ≡ 0) ⊎ (c ≡ d)
    → is_apart (span_at a size) (span_at c other) ≡ is_apart (span_at b size) (span_at d other)
apart_read a b c d size other (inl none) two = apart_none (span_at a size) (span_at c other) none ∙ sym (apart_none (span_at b size) (span_at d other) none)
apart_read a b c d size other (inr one) (inl none) = apart_other_none (span_at a size) (span_at c other) none ∙ sym (apart_other_none (span_at b size) (span_at d other) none)
apart_read a b c d size other (inr one) (inr two) = λ i. is_apart (span_at (one i) size) (span_at (two i) other)

apart_from_placed : (at read size number : ℕ) (ss : List Stretch) (end : ℕ) → (size ≡ 0) ⊎ (read ≡ at) → AllByRecursion IsSound (placed end ss)
    → list_all (is_apart (span_at read size)) (map header_span (headers_of number (placed end ss))) ≡ list_all (is_apart (span_at at size)) (map span_of_stretch ss)
apart_from_placed at read size number [] end same sound = refl
apart_from_placed at read size number (s ∷ ss) end same sound =
    let one = apart_read read at (read_again s.at) s.at size s.size same sound.0.at in
    let others = apart_from_placed at read size (number + 1) ss (page_from end + length (trimmed s.bytes)) same sound.1 in
    λ i. one i && others i

apart_placed : (number : ℕ) (ss : List Stretch) (end : ℕ) → AllByRecursion IsSound (placed end ss)
    → are_apart (map header_span (headers_of number (placed end ss))) ≡ are_apart (map span_of_stretch ss)
apart_placed number [] end sound = refl
apart_placed number (s ∷ ss) end sound =
    let behind : ℕ = page_from end + length (trimmed s.bytes) in
    let one = apart_from_placed s.at (read_again s.at) s.size (number + 1) ss behind sound.0.at sound.1 in
    let others = apart_placed (number + 1) ss behind sound.1 in
    λ i. one i && others i

-- ---- memory

nowhere : (at a size : ℕ) → size ≡ 0 → (leb at a && ltb a (at + size)) ≡ false
nowhere at a size none =
    elim (cases_lt a at) [
      | inl lt ↦ and_left _ _ (lt-leb at a lt)
      | inr le ↦ and_right _ _ (le-ltb a (at + size) (omega arith))
    ]

module _ (file : List ℕ) (a : ℕ) where
  byte_placed : (s : Stretch) (offset i : ℕ) → Has file (placed_segment offset s) → get_or (take (length (trimmed s.bytes)) (drop offset file)) i 0 ≡ get_or s.bytes i 0
  byte_placed s offset i has =
      elim (cases_lt i (length (trimmed s.bytes))) [
        | inl lt ↦ get_or-take (length (trimmed s.bytes)) (drop offset file) i 0 lt ∙ get_or-drop offset file i 0 ∙ has.bytes i lt ∙ byte_of-trimmed s.bytes i
        | inr le ↦ get_or_past (take (length (trimmed s.bytes)) (drop offset file)) i 0 (omega (arith, length-take (length (trimmed s.bytes)) (drop offset file)))
            ∙ sym (get_or_past (trimmed s.bytes) i 0 le) ∙ byte_of-trimmed s.bytes i
      ]

  loaded_placed : (s : Stretch) (offset number : ℕ) → Has file (placed_segment offset s) → (s.size ≡ 0) ⊎ (read_again s.at ≡ s.at)
      → stretch_byte (segment_in file (header_of number (placed_segment offset s))) a ≡ stretch_byte s a
  loaded_placed s offset number has (inl none) =
      cond-false _ _ None (nowhere (read_again s.at) a s.size none) ∙ sym (cond-false _ _ None (nowhere s.at a s.size none))
  loaded_placed s offset number has (inr same) =
      ap (λ at. stretch_byte (record (segment_in file (header_of number (placed_segment offset s))) { at = at }) a) same
      ∙ ap (λ b. cond (leb s.at a && ltb a (s.at + s.size)) (Some b) None) (byte_placed s offset (a - s.at) has)

  memory_placed : (number : ℕ) (ss : List Stretch) (end : ℕ) → AllByRecursion IsSound (placed end ss) → AllByRecursion (Has file) (placed end ss)
      → memory_of (map (segment_in file) (headers_of number (placed end ss))) a ≡ memory_of ss a
  memory_placed number [] end sound has = refl
  memory_placed number (s ∷ ss) end sound has =
      let one = loaded_placed s (page_from end) number has.0 sound.0.at in
      let others = memory_placed (number + 1) ss (page_from end + length (trimmed s.bytes)) sound.1 has.1 in
      λ i. unwrap_or (one i) (others i)

-- ---- the law

pub length-placed : (ss : List Stretch) (end : ℕ) → length (placed end ss) ≡ length ss
length-placed [] end = refl
length-placed (s ∷ ss) end = ap suc (length-placed ss (page_from end + length (trimmed s.bytes)))

loadable : (file : List ℕ) (hs : List ProgramHeader) → loads file ≡ hs → list_all (λ t. t.holds) (header_tests file) ≡ true
    → list_all (λ t. t.holds) (flat_map (segment_tests file) hs) ≡ true → are_apart (map header_span hs) ≡ true → is_loadable file ≡ true
unfolding is_loadable
loadable file hs is header each apart =
    let behind : List ProgramHeader → List Test = λ xs. flat_map (segment_tests file) xs ++ apart_tests [] xs in
    ap (λ xs. list_all (λ (t : Test). t.holds) (header_tests file ++ behind xs)) is ∙ list_all-append (λ t. t.holds) (header_tests file) (behind hs)
    ∙ and_from _ _ header (list_all-append (λ t. t.holds) (flat_map (segment_tests file) hs) (apart_tests [] hs) ∙ and_from _ _ each (hold_from_apart hs apart))

loaded : (file : List ℕ) (hs : List ProgramHeader) (a m : ℕ) → loads file ≡ hs → is_loadable file ≡ true → memory_of (map (segment_in file) hs) a ≡ m → load file a ≡ Some m
loaded file hs a m is sound memory = rw (sound, is, memory) refl

-- the law for a file in three parts
load_parts : (ss : List Stretch) (end a : ℕ) (rest : List ℕ) → length (placed end ss) < 2 ^ 16 → AllByRecursion IsSound (placed end ss)
    → are_apart (map span_of_stretch ss) ≡ true → AllByRecursion (Has (file_in_parts (placed end ss) rest)) (placed end ss)
    → load (file_in_parts (placed end ss) rest) a ≡ Some (memory_of ss a)
load_parts ss end a rest few sound apart has =
    let ps : List PlacedSegment = placed end ss in
    let behind : List ℕ = flat_map program_header ps ++ rest in
    let file : List ℕ = file_in_parts ps rest in
    let is : loads file ≡ headers_of 0 ps = loads_placed ps rest few (all_fields ps sound) in
    let spans : are_apart (map header_span (headers_of 0 ps)) ≡ true = apart_placed 0 ss end sound ∙ apart in
    let fit : is_loadable file ≡ true = loadable file (headers_of 0 ps) is (header_holds (length ps) behind (headers_there ps rest few)) (segments_hold file 0 ps sound has) spans in
    loaded file (headers_of 0 ps) a (memory_of ss a) is fit (memory_placed file a 0 ss end sound has)

pub load-elf_of : (ss : List Stretch) (a : ℕ) → length ss ≤ 72 → are_sound ss ≡ true → load (elf_of ss) a ≡ Some (memory_of ss a)
load-elf_of ss a few sound =
    let end : ℕ = headers_size (length ss) in
    let ps : List PlacedSegment = placed end ss in
    let bytes : List ℕ = laid_from (headers_size (length ps)) ps in
    let count : length ps ≡ length ss = length-placed ss end in
    let parts = and_parts (list_all has_room ss && list_all (λ s. lies_in_ram (span_of_stretch s)) ss) (are_apart (map span_of_stretch ss)) sound in
    let each = and_parts (list_all has_room ss) (list_all (λ s. lies_in_ram (span_of_stretch s)) ss) parts.0 in
    let all : AllByRecursion IsSound ps = sound_placed ss end each.0 each.1 (omega arith) in
    let headers : List ℕ = file_header (length ps) ++ flat_map program_header ps in
    let split : elf_of ss ≡ file_header (length ps) ++ (flat_map program_header ps ++ bytes) = append_assoc (file_header (length ps)) (flat_map program_header ps) bytes in
    let long : length headers ≡ headers_size (length ps) = omega (arith, length-append (file_header (length ps)) (flat_map program_header ps), length-headers ps) in
    let has = has_placed ss headers (headers_size (length ps)) end (file_header (length ps) ++ (flat_map program_header ps ++ bytes)) long (omega arith) (sym split) in
    ap (λ file. load file a) split ∙ load_parts ss end a bytes (omega arith) all parts.1 has
