use Rattle.std.proofs.Common.{◌≡◌, ◌++◌, ◌∷◌, [], ℕ, List, length, drop, take, map, sym, ◌∙◌, ap, arith}
use Rattle.std.specs.Prelude.{if◌then◌else◌}
use Rattle.std.proofs.Math.Seq.{drop-append_seam}
use Rattle.std.proofs.lemmas.List.{append_assoc}
use Rattle.rv_fields.specs.Memory.{in_ram}
use Rattle.ram_image.specs.Segments.{memory_of, laid_over}
use Rattle.ram_image.specs.Ram.{memory}
use Rattle.elf_file.specs.Loading.{segment_in}
use Rattle.elf_file.specs.declared.fields.ProgramHeader.{ProgramHeader}
use Rattle.elf_file.proofs.reading.lay_segments.Goals as goal

-- what is left, the last of it, and those behind, in their order
split : {A : Type 0} (xs left fewer : List A) (x : A) → left ++ drop (length left) xs ≡ xs → left ≡ fewer ++ (x ∷ [])
    → (fewer ++ drop (length fewer) xs ≡ xs) × (drop (length fewer) xs ≡ x ∷ drop (length left) xs)
split xs left fewer x order is =
    let behind = drop (length left) xs in
    let joined : fewer ++ (x ∷ behind) ≡ xs = sym (append_assoc fewer (x ∷ []) behind) ∙ ap (λ ys. ys ++ behind) (sym is) ∙ order in
    let rest : drop (length fewer) xs ≡ x ∷ behind = ap (drop (length fewer)) (sym joined) ∙ drop-append_seam fewer (x ∷ behind) in
    (ap (λ ys. fewer ++ ys) rest ∙ joined, rest)

-- a segment laid over those behind it
laid_before : (file : List ℕ) (h : ProgramHeader) (hs : List ProgramHeader) (before : ℕ → ℕ) (a : ℕ)
    → before a ≡ (if in_ram a 1 then memory_of (map (segment_in file) hs) a else 0)
    → laid_over before h.paddr (take h.filesz (drop h.offset file)) h.memsz a ≡ (if in_ram a 1 then memory_of (map (segment_in file) (h ∷ hs)) a else 0)
laid_before file h hs before a was = grind arith

pub loop-header-preserved : goal.loop-header-preserved
loop-header-preserved c =
    let file = c.args.bytes.now in
    let headers = c.args.headers.now in
    let left = c.loop-header.header-iterator.iter.rest.now in
    let fewer = c.next.new.self.iter.rest.now in
    let header = c.in-Some.header.now in
    let parts = split headers left fewer header c.loop-header.invariant.order c.in-Some.ensures.steps in
    record {
      order = parts.0;
      laid = λ a.
          c.in_ok-lay.ensures.laid a
          ∙ ap (λ bytes. laid_over (memory c.loop-header.ram) header.paddr bytes header.memsz a) c.bytes_from-segment.ensures
          ∙ laid_before file header (drop (length left) headers) (memory c.loop-header.ram) a (c.loop-header.invariant.laid a)
          ∙ ap (λ hs. if in_ram a 1 then memory_of (map (segment_in file) hs) a else 0) (sym parts.1);
    }
