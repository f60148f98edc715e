-- The file's fault is that of the first part of it that has one, and a file without a fault has sound segments.
use Rattle.std.proofs.Common.{◌≡◌, ◌≢◌, ℕ, ◌≤◌, cond, true, false, inl, inr, ◌&&◌, List, [], ◌∷◌, ◌++◌, length, take, drop, map, Some, None, refl, sym, ap, ◌∙◌, arith}
use Rattle.std.specs.Prelude.{unwrap_or}
use Rattle.std.specs.List.{list_all, flat_map}
use Rattle.std.proofs.lemmas.Bool.{and_parts, and_from, le-leb, leb-true, cases_Bool}
use Rattle.std.proofs.lemmas.Bool.Decides.{nat_tests}
use Rattle.std.proofs.lemmas.List.{length-take}
use Rattle.std.proofs.lemmas.List.Concat.{flat_map-cons}
use Rattle.std.proofs.lemmas.List.Folds.{list_all-append}
use Rattle.rv_fields.specs.Memory.{in_ram}
use Rattle.ram_image.specs.Segments.{Stretch, stretch_byte, memory_of, span_of as span_of_stretch, lies_in_ram, are_apart, has_room, are_sound}
use Rattle.elf_file.specs.declared.fault.ElfFault.{ElfFault}
use Rattle.elf_file.specs.declared.fault.ElfFault.TheVariants.{Short, NotElf, NotThis, OutsideRam, Clash, Memory}
use Rattle.elf_file.specs.declared.fields.ProgramHeader.{ProgramHeader}
use Rattle.elf_file.specs.Headers.{loads}
use Rattle.elf_file.specs.Faults.{Test, first_failed, header_tests, header_span, segment_tests, apart_tests, tests, file_fault}
use Rattle.elf_file.specs.Writing.{elf_of}
use Rattle.elf_file.specs.Loading.{is_loadable, segment_in, segments_in, load}
use Rattle.elf_file.proofs.FirstFault.{first_fault-behind, first_fault-before, all_hold, not_all_hold}
use Rattle.elf_file.proofs.Soundness.{apart_from_hold}
use Rattle.elf_file.proofs.LoadLaw.{load-elf_of}

-- ---- faults

module _ (file : List ℕ) where
  abbrev each : List Test
  each = flat_map (segment_tests file) (loads file)

  abbrev pairs : List Test
  pairs = apart_tests [] (loads file)

  pub fault_of_header : (fault : ElfFault) → first_failed (header_tests file) ≡ Some fault → file_fault file ≡ Some fault
  fault_of_header fault some = first_fault-before (header_tests file) (each ++ pairs) fault some

  module _ (header : first_failed (header_tests file) ≡ None) where
    pub fault_of_segment : (fault : ElfFault) → first_failed each ≡ Some fault → file_fault file ≡ Some fault
    fault_of_segment fault some = first_fault-behind (header_tests file) (each ++ pairs) header ∙ first_fault-before each pairs fault some

    pub fault_of_pair : (fault : ElfFault) → first_failed each ≡ None → first_failed pairs ≡ Some fault → file_fault file ≡ Some fault
    fault_of_pair fault none some = first_fault-behind (header_tests file) (each ++ pairs) header ∙ first_fault-behind each pairs none ∙ some

    pub no_fault : first_failed each ≡ None → first_failed pairs ≡ None → file_fault file ≡ None
    no_fault none apart = first_fault-behind (header_tests file) (each ++ pairs) header ∙ first_fault-behind each pairs none ∙ apart

-- ---- files without a fault

pub loaded_without_fault : (file : List ℕ) (a : ℕ) → file_fault file ≡ None → load file a ≡ Some (memory_of (segments_in file) a)
unfolding is_loadable
loaded_without_fault file a none = ap (λ b. cond b (Some (memory_of (segments_in file) a)) None) (all_hold (tests file) none)

pub unloaded_with_fault : (file : List ℕ) (fault : ElfFault) (a : ℕ) → file_fault file ≡ Some fault → load file a ≡ None
unfolding is_loadable
unloaded_with_fault file fault a some = ap (λ b. cond b (Some (memory_of (segments_in file) a)) None) (not_all_hold (tests file) fault some)

-- a file that was written has none
pub no_fault_written : (file : List ℕ) (ss : List Stretch) (fault : ElfFault) → length ss ≤ 72 → are_sound ss ≡ true → file ≡ elf_of ss → file_fault file ≡ Some fault → ⊥
no_fault_written file ss fault few sound is some =
    let none : Some (memory_of ss 0) ≡ None = sym (load-elf_of ss 0 few sound) ∙ ap (λ f. load f 0) (sym is) ∙ unloaded_with_fault file fault 0 some in
    (cc)

-- a fault that can't be any other is out of memory
pub only_memory : (fault : ElfFault) → (fault ≢ Memory → ⊥) → fault ≡ Memory
only_memory (Short at) never = absurd (never (λ is. (cc)))
only_memory NotElf never = absurd (never (λ is. (cc)))
only_memory (NotThis field value) never = absurd (never (λ is. (cc)))
only_memory (OutsideRam segment) never = absurd (never (λ is. (cc)))
only_memory (Clash a b) never = absurd (never (λ is. (cc)))
only_memory Memory never = refl

segment_sound : (file : List ℕ) (h : ProgramHeader) → list_all (λ t. t.holds) (segment_tests file h) ≡ true
    → (has_room (segment_in file h) ≡ true) × (lies_in_ram (header_span h) ≡ true)
unfolding segment_tests
segment_sound file h hold =
    let both = and_parts _ _ hold in
    let others = and_parts _ _ both.1 in
    let few : h.filesz ≤ h.memsz = leb-true h.filesz h.memsz both.0 in
    (le-leb (length (take h.filesz (drop h.offset file))) h.memsz (omega (arith, length-take h.filesz (drop h.offset file))), others.0)

segments_sound : (file : List ℕ) (hs : List ProgramHeader) → list_all (λ t. t.holds) (flat_map (segment_tests file) hs) ≡ true
    → (list_all has_room (map (segment_in file) hs) ≡ true) × (list_all (λ s. lies_in_ram (span_of_stretch s)) (map (segment_in file) hs) ≡ true)
segments_sound file [] hold = (refl, refl)
segments_sound file (h ∷ hs) hold =
    let split : (list_all (λ t. t.holds) (segment_tests file h) && list_all (λ t. t.holds) (flat_map (segment_tests file) hs)) ≡ true =
    sym (ap (list_all (λ (t : Test). t.holds)) (flat_map-cons (segment_tests file) h hs) ∙ list_all-append (λ t. t.holds) (segment_tests file h) (flat_map (segment_tests file) hs)) ∙ hold in
    let both = and_parts (list_all (λ t. t.holds) (segment_tests file h)) (list_all (λ t. t.holds) (flat_map (segment_tests file) hs)) split in
    let one = segment_sound file h both.0 in
    let others = segments_sound file hs both.1 in
    (and_from _ _ one.0 others.0, and_from _ _ one.1 others.1)

spans : (file : List ℕ) (hs : List ProgramHeader) → map span_of_stretch (map (segment_in file) hs) ≡ map header_span hs
spans file [] = refl
spans file (h ∷ hs) = ap (λ ss. header_span h ∷ ss) (spans file hs)

pub sound_segments : (file : List ℕ) → file_fault file ≡ None → are_sound (segments_in file) ≡ true
sound_segments file none =
    let parts = and_parts (list_all (λ t. t.holds) (header_tests file)) (list_all (λ t. t.holds) (each file ++ pairs file)) (
    sym (list_all-append (λ t. t.holds) (header_tests file) (each file ++ pairs file)) ∙ all_hold (tests file) none
    ) in
    let both = and_parts (list_all (λ t. t.holds) (each file)) (list_all (λ t. t.holds) (pairs file)) (sym (list_all-append (λ t. t.holds) (each file) (pairs file)) ∙ parts.1) in
    let segments = segments_sound file (loads file) both.0 in
    and_from _ _ (and_from _ _ segments.0 segments.1) (ap are_apart (spans file (loads file)) ∙ apart_from_hold (loads file) both.1)

-- ---- memory

none_outside : (s : Stretch) (a : ℕ) → lies_in_ram (span_of_stretch s) ≡ true → in_ram a 1 ≡ false → stretch_byte s a ≡ None
none_outside s a ram outside = grind (arith, nat_tests)

zero_outside : (ss : List Stretch) (a : ℕ) → list_all (λ s. lies_in_ram (span_of_stretch s)) ss ≡ true → in_ram a 1 ≡ false → memory_of ss a ≡ 0
zero_outside [] a rams outside = refl
zero_outside (s ∷ ss) a rams outside =
    let both = and_parts (lies_in_ram (span_of_stretch s)) (list_all (λ s. lies_in_ram (span_of_stretch s)) ss) rams in
    ap (λ byte. unwrap_or byte (memory_of ss a)) (none_outside s a both.0 outside) ∙ zero_outside ss a both.1 outside

-- outside RAM sound segments have nothing
pub memory_in_ram : (ss : List Stretch) (a : ℕ) → are_sound ss ≡ true → cond (in_ram a 1) (memory_of ss a) 0 ≡ memory_of ss a
memory_in_ram ss a sound =
    let parts = and_parts (list_all has_room ss && list_all (λ s. lies_in_ram (span_of_stretch s)) ss) (are_apart (map span_of_stretch ss)) sound in
    let each = and_parts (list_all has_room ss) (list_all (λ s. lies_in_ram (span_of_stretch s)) ss) parts.0 in
    elim (cases_Bool (in_ram a 1)) [
      | inl inside ↦ ap (λ b. cond b (memory_of ss a) 0) inside
      | inr outside ↦ ap (λ b. cond b (memory_of ss a) 0) outside ∙ sym (zero_outside ss a each.1 outside)
    ]
