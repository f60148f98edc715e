-- The program headers in turn, and the tests of the segments to load.
use Rattle.std.proofs.Common.{◌≡◌, ℕ, suc, ◌+◌, ◌-◌, ◌<◌, cond, List, [], ◌∷◌, ◌++◌, Some, None, sym, ap, ◌∙◌, append_assoc, arith}
use Rattle.std.specs.Prelude.{filter, All, IsTrue}
use Rattle.std.specs.List.{flat_map}
use Rattle.std.proofs.lemmas.Bool.{eq-eqb, ne_eqb}
use Rattle.std.proofs.lemmas.List.Elements.{All-push}
use Rattle.ram_image.specs.Segments.{lies_in_ram}
use Rattle.std.proofs.lemmas.List.Concat.{flat_map-append}
use Rattle.elf_file.specs.declared.fault.ElfFault.{ElfFault}
use Rattle.elf_file.specs.declared.fields.ProgramHeader.{ProgramHeader}
use Rattle.elf_file.specs.Headers.{header_count, header_at, headers_from, is_load, loads}
use Rattle.elf_file.specs.Faults.{first_failed, header_span, segment_tests}
use Rattle.elf_file.proofs.FirstFault.{first_fault-behind, first_fault-before}

next_header : (file : List ℕ) (number count : ℕ) → number < count → headers_from file number (count - number) ≡ header_at file number ∷ headers_from file (number + 1) (count - (number + 1))
next_header file number count more = let left : count - number ≡ suc (count - (number + 1)) = omega arith in ap (headers_from file number) left

-- Of the program headers before the number those to load were read, and each of them has no fault by itself.
pub record ReadSoFar (file : List ℕ) (number : ℕ) (done : List ProgramHeader) : Type 0 where
  pub all : done ++ filter is_load (headers_from file number (header_count file - number)) ≡ loads file
  pub ram : All (λ h. IsTrue (lies_in_ram (header_span h))) done
  pub sound : first_failed (flat_map (segment_tests file) done) ≡ None

-- the next header
module _ (file : List ℕ) (done : List ProgramHeader) (number : ℕ) (h : ProgramHeader) (is : h ≡ header_at file number) (more : number < header_count file)
    (so_far : ReadSoFar file number done) where
  abbrev rest : List ProgramHeader
  rest = filter is_load (headers_from file (number + 1) (header_count file - (number + 1)))

  here : done ++ filter is_load (h ∷ headers_from file (number + 1) (header_count file - (number + 1))) ≡ loads file
  here =
      ap (λ x. done ++ filter is_load (x ∷ headers_from file (number + 1) (header_count file - (number + 1)))) is
      ∙ ap (λ hs. done ++ filter is_load hs) (sym (next_header file number (header_count file) more)) ∙ so_far.all

  load_here : h.kind ≡ 1 → done ++ (h ∷ rest) ≡ loads file
  load_here one = ap (λ b. done ++ cond b (h ∷ rest) rest) (sym (eq-eqb h.kind 1 one)) ∙ here

  -- it is one to load, and has no fault
  pub read_more : h.kind ≡ 1 → first_failed (segment_tests file h) ≡ None → IsTrue (lies_in_ram (header_span h)) → ReadSoFar file (number + 1) (done ++ h ∷ [])
  read_more one none ram = record {
    all = append_assoc done (h ∷ []) rest ∙ load_here one;
    ram = All-push (λ h. IsTrue (lies_in_ram (header_span h))) done h so_far.ram ram;
    sound = ap first_failed (flat_map-append (segment_tests file) done (h ∷ []))
        ∙ first_fault-behind (flat_map (segment_tests file) done) (segment_tests file h ++ []) so_far.sound
        ∙ first_fault-behind (segment_tests file h) [] none;
  }

  -- it is passed over
  pub read_past : (h.kind ≡ 1 → ⊥) → ReadSoFar file (number + 1) done
  read_past other = record {
    all = ap (λ b. done ++ cond b (h ∷ rest) rest) (sym (ne_eqb h.kind 1 other)) ∙ here;
    ram = so_far.ram;
    sound = so_far.sound;
  }

  -- it is one to load, and has a fault
  pub fault_here : (fault : ElfFault) → h.kind ≡ 1 → first_failed (segment_tests file h) ≡ Some fault → first_failed (flat_map (segment_tests file) (loads file)) ≡ Some fault
  fault_here fault one some =
      ap (λ hs. first_failed (flat_map (segment_tests file) hs)) (sym (load_here one)) ∙ ap first_failed (flat_map-append (segment_tests file) done (h ∷ rest))
      ∙ first_fault-behind (flat_map (segment_tests file) done) (flat_map (segment_tests file) (h ∷ rest)) so_far.sound
      ∙ first_fault-before (segment_tests file h) (flat_map (segment_tests file) rest) fault some
