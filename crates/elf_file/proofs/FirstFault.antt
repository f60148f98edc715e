-- The first fault of tests, in parts.
use Rattle.std.proofs.Common.{◌≡◌, true, false, cond, ◌&&◌, List, [], ◌∷◌, ◌++◌, map, Some, None, refl, ap, ◌∙◌}
use Rattle.std.specs.Prelude.{not, option_map}
use Rattle.std.specs.Option.{option_or}
use Rattle.std.specs.List.{list_all, find}
use Rattle.std.proofs.lemmas.Bool.{and_parts}
use Rattle.ram_image.specs.Segments.{is_apart}
use Rattle.elf_file.specs.declared.fault.ElfFault.{ElfFault}
use Rattle.elf_file.specs.declared.fault.ElfFault.TheVariants.{Clash}
use Rattle.elf_file.specs.declared.fields.ProgramHeader.{ProgramHeader}
use Rattle.elf_file.specs.Faults.{Test, first_failed, header_span, apart_test}

pub first_fault-append : (ts us : List Test) → first_failed (ts ++ us) ≡ option_or (first_failed ts) (first_failed us)
first_fault-append [] us = refl
first_fault-append (t ∷ ts) us =
    elim t.holds as (λ b. cond b (first_failed (ts ++ us)) (Some t.fault) ≡ option_or (cond b (first_failed ts) (Some t.fault)) (first_failed us)) [
      | true ↦ first_fault-append ts us
      | false ↦ refl
    ]

-- tests that hold leave it to the others
pub first_fault-behind : (ts us : List Test) → first_failed ts ≡ None → first_failed (ts ++ us) ≡ first_failed us
first_fault-behind ts us none = first_fault-append ts us ∙ ap (λ o. option_or o (first_failed us)) none

-- and one that fails doesn't
pub first_fault-before : (ts us : List Test) (fault : ElfFault) → first_failed ts ≡ Some fault → first_failed (ts ++ us) ≡ Some fault
first_fault-before ts us fault some = first_fault-append ts us ∙ ap (λ o. option_or o (first_failed us)) some

-- tests have no fault exactly where all of them hold
pub first_fault_none : (ts : List Test) → list_all (λ t. t.holds) ts ≡ true → first_failed ts ≡ None
first_fault_none [] all = refl
first_fault_none (t ∷ ts) all =
    let both = and_parts t.holds (list_all (λ t. t.holds) ts) all in
    ap (λ b. cond b (first_failed ts) (Some t.fault)) both.0 ∙ first_fault_none ts both.1

pub all_hold : (ts : List Test) → first_failed ts ≡ None → list_all (λ t. t.holds) ts ≡ true
all_hold [] none = refl
all_hold (t ∷ ts) none =
    elim t.holds as (λ b. cond b (first_failed ts) (Some t.fault) ≡ None → (b && list_all (λ t. t.holds) ts) ≡ true) [
      | true ↦ all_hold ts
      | false ↦ λ some. (cc)
    ] none

-- one that fails is not among those that hold
pub not_all_hold : (ts : List Test) (fault : ElfFault) → first_failed ts ≡ Some fault → list_all (λ t. t.holds) ts ≡ false
not_all_hold [] fault some = (cc)
not_all_hold (t ∷ ts) fault some =
    elim t.holds as (λ b. cond b (first_failed ts) (Some t.fault) ≡ Some fault → (b && list_all (λ t. t.holds) ts) ≡ false) [
      | true ↦ not_all_hold ts fault
      | false ↦ λ _. refl
    ] some

-- the clash of a segment with others is that with the first of them that isn't apart
pub first_fault-apart : (b : ProgramHeader) (hs : List ProgramHeader)
    → first_failed (map (apart_test b) hs) ≡ option_map (λ a. Clash a.number b.number) (find (λ a. not (is_apart (header_span a) (header_span b))) hs)
first_fault-apart b [] = refl
first_fault-apart b (h ∷ hs) =
    elim (is_apart (header_span h) (header_span b)) as (λ apart. cond apart (first_failed (map (apart_test b) hs)) (Some (Clash h.number b.number))
    ≡ option_map (λ (a : ProgramHeader). Clash a.number b.number) (cond (not apart) (Some h) (find (λ a. not (is_apart (header_span a) (header_span b))) hs))) [
      | true ↦ first_fault-apart b hs
      | false ↦ refl
    ]
