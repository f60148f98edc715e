-- The whole file: its parts, and what sound segments give the code.
use Rattle.std.proofs.Common.{◌≡◌, ℕ, ◌+◌, ◌-◌, ◌≤◌, true, ◌&&◌, List, [], ◌∷◌, ◌++◌, length, map, All, sym, ap, ◌∙◌, append_assoc, arith}
use Rattle.std.specs.Prelude.{Some}
use Rattle.std.specs.List.{AllByRecursion, list_all, flat_map}
use Rattle.std.proofs.lemmas.Bool.{and_parts, leb-true}
use Rattle.std.proofs.lemmas.List.{length-append, length-map}
use Rattle.std.proofs.lemmas.List.Elements.{All-from_recursion}
use Rattle.rv_fields.specs.Memory.{ram_end, ram_start}
use Rattle.ram_image.specs.declared.segment.Segment.{Segment}
use Rattle.ram_image.specs.Segments.{Stretch, stretch_of, stretches, span_of, has_room, lies_in_ram, are_apart, are_sound, memory_of}
use Rattle.ram_image.proofs.Spans.{size_in_ram, span_parts}
use Rattle.elf_file.specs.Writing.{PlacedSegment, placed, program_header, file_header, headers_size, elf_of}
use Rattle.elf_file.specs.Loading.{load}
use Rattle.elf_file.specs.Placing.{laid_from, IsSmall}
use Rattle.elf_file.proofs.LoadLaw.{length-headers, length-placed, load-elf_of}

-- ---- the parts of a file

abbrev parts : ℕ → ℕ → List Stretch → List ℕ
parts n end ss = (file_header n ++ flat_map program_header (placed end ss)) ++ laid_from (headers_size n) (placed end ss)

elf_of-parts : (ss : List Stretch) (n : ℕ) → length ss ≡ n → elf_of ss ≡ parts n (headers_size n) ss
elf_of-parts ss n is =
    ap (λ m. parts m (headers_size (length ss)) ss) (length-placed ss (headers_size (length ss))) ∙ ap (λ m. parts m (headers_size m) ss) is

-- the headers' length
pub length_with_headers : (segments : List Segment) (old begun now : List ℕ) → begun ≡ old ++ file_header (length segments)
    → now ≡ begun ++ flat_map program_header (placed (headers_size (length segments)) (stretches segments)) → length now ≡ length old + headers_size (length segments)
length_with_headers segments old begun now first second =
    let ps : List PlacedSegment = placed (headers_size (length segments)) (stretches segments) in
    omega (
      arith,
      ap length first,
      ap length second,
      length-append old (file_header (length segments)),
      length-append begun (flat_map program_header ps),
      length-headers ps,
      length-placed (stretches segments) (headers_size (length segments)),
      length-map segments stretch_of,
    )

-- the headers, the program headers and the bytes, appended one after another
pub appended_whole : (segments : List Segment) (old begun further now : List ℕ) → begun ≡ old ++ file_header (length segments)
    → further ≡ begun ++ flat_map program_header (placed (headers_size (length segments)) (stretches segments))
    → now ≡ further ++ laid_from (headers_size (length segments)) (placed (headers_size (length segments)) (stretches segments))
    → now ≡ old ++ elf_of (stretches segments)
appended_whole segments old begun further now first second third =
    let n : ℕ = length segments in
    let ps : List PlacedSegment = placed (headers_size n) (stretches segments) in
    let headers : List ℕ = flat_map program_header ps in
    let bytes : List ℕ = laid_from (headers_size n) ps in
    third ∙ ap (λ xs. xs ++ bytes) (second ∙ ap (λ xs. xs ++ headers) first ∙ append_assoc old (file_header n) headers)
    ∙ append_assoc old (file_header n ++ headers) bytes ∙ ap (λ xs. old ++ xs) (sym (elf_of-parts (stretches segments) n (length-map segments stretch_of)))

-- ---- sound segments

small_each : (segments : List Segment) → list_all has_room (stretches segments) ≡ true → list_all (λ s. lies_in_ram (span_of s)) (stretches segments) ≡ true → AllByRecursion IsSmall segments
small_each [] rooms rams = tt
small_each (s ∷ segments) rooms rams =
    let room = and_parts (has_room (stretch_of s)) (list_all has_room (stretches segments)) rooms in
    let ram = and_parts (lies_in_ram (span_of (stretch_of s))) (list_all (λ x. lies_in_ram (span_of x)) (stretches segments)) rams in
    let small : s.size ≤ ram_end - ram_start = size_in_ram s.at s.size (span_parts (span_of (stretch_of s)) ram.0) in
    let fits : length s.bytes.items ≤ s.size = leb-true (length s.bytes.items) s.size room.0 in
    (omega arith, small_each segments room.1 ram.1)

pub small_segments : (segments : List Segment) → are_sound (stretches segments) ≡ true → All IsSmall segments
small_segments segments sound =
    let ss : List Stretch = stretches segments in
    let both = and_parts (list_all has_room ss && list_all (λ s. lies_in_ram (span_of s)) ss) (are_apart (map span_of ss)) sound in
    let each = and_parts (list_all has_room ss) (list_all (λ s. lies_in_ram (span_of s)) ss) both.0 in
    All-from_recursion IsSmall segments (small_each segments each.0 each.1)

-- the law for the segments of the program
pub load_segments : (segments : List Segment) → length segments ≤ 72 → are_sound (stretches segments) ≡ true → (a : ℕ) → load (elf_of (stretches segments)) a ≡ Some (memory_of (stretches segments) a)
load_segments segments few sound a = load-elf_of (stretches segments) a (omega (arith, length-map segments stretch_of)) sound
