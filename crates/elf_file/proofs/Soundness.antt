-- The tests of segments with one another say that no two share an address.
use Rattle.std.proofs.Common.{◌≡◌, Bool, true, ◌&&◌, List, [], ◌∷◌, ◌++◌, map, refl, sym, ap, ◌∙◌}
use Rattle.std.specs.List.{list_all}
use Rattle.std.proofs.lemmas.Bool.{and_parts, and_from}
use Rattle.std.proofs.lemmas.List.Folds.{list_all-append, list_all-map}
use Rattle.ram_image.specs.Segments.{is_apart, are_apart}
use Rattle.elf_file.specs.declared.fields.ProgramHeader.{ProgramHeader}
use Rattle.elf_file.specs.Faults.{Test, header_span, apart_test, apart_tests}

-- a segment is apart from each of some others
abbrev is_apart_from : List ProgramHeader → ProgramHeader → Bool
is_apart_from before h = list_all (λ a. is_apart (header_span a) (header_span h)) before

row_holds : (before : List ProgramHeader) (h : ProgramHeader) → list_all (λ t. t.holds) (map (apart_test h) before) ≡ is_apart_from before h
row_holds before h = list_all-map (λ t. t.holds) (apart_test h) before

-- the tests of the first segment with those before it, and then those of the others
first_row : (before hs : List ProgramHeader) (h : ProgramHeader)
    → list_all (λ t. t.holds) (apart_tests before (h ∷ hs)) ≡ (is_apart_from before h && list_all (λ t. t.holds) (apart_tests (before ++ h ∷ []) hs))
first_row before hs h =
    let others : List Test = apart_tests (before ++ h ∷ []) hs in
    list_all-append (λ t. t.holds) (map (apart_test h) before) others ∙ ap (λ b. b && list_all (λ t. t.holds) others) (row_holds before h)

-- one segment more before the others
apart_from_more : (before : List ProgramHeader) (h g : ProgramHeader) → is_apart_from (before ++ h ∷ []) g ≡ (is_apart_from before g && (is_apart (header_span h) (header_span g) && true))
apart_from_more before h g = list_all-append (λ a. is_apart (header_span a) (header_span g)) before (h ∷ [])

all_apart_more : (before hs : List ProgramHeader) (h : ProgramHeader) → list_all (is_apart_from before) hs ≡ true → list_all (is_apart (header_span h)) (map header_span hs) ≡ true
    → list_all (is_apart_from (before ++ h ∷ [])) hs ≡ true
all_apart_more before [] h each own = refl
all_apart_more before (g ∷ hs) h each own =
    let first = and_parts (is_apart_from before g) (list_all (is_apart_from before) hs) each in
    let second = and_parts (is_apart (header_span h) (header_span g)) (list_all (is_apart (header_span h)) (map header_span hs)) own in
    and_from _ _ (apart_from_more before h g ∙ and_from _ _ first.0 (and_from _ _ second.0 refl)) (all_apart_more before hs h first.1 second.1)

all_apart_less : (before hs : List ProgramHeader) (h : ProgramHeader) → list_all (is_apart_from (before ++ h ∷ [])) hs ≡ true
    → (list_all (is_apart_from before) hs ≡ true) × (list_all (is_apart (header_span h)) (map header_span hs) ≡ true)
all_apart_less before [] h each = (refl, refl)
all_apart_less before (g ∷ hs) h each =
    let both = and_parts (is_apart_from (before ++ h ∷ []) g) (list_all (is_apart_from (before ++ h ∷ [])) hs) each in
    let one = and_parts (is_apart_from before g) (is_apart (header_span h) (header_span g) && true) (sym (apart_from_more before h g) ∙ both.0) in
    let own = and_parts (is_apart (header_span h) (header_span g)) true one.1 in
    let others = all_apart_less before hs h both.1 in
    (and_from _ _ one.0 others.0, and_from _ _ own.0 others.1)

hold_behind : (before hs : List ProgramHeader) → list_all (is_apart_from before) hs ≡ true → are_apart (map header_span hs) ≡ true
    → list_all (λ t. t.holds) (apart_tests before hs) ≡ true
hold_behind before [] each apart = refl
hold_behind before (h ∷ hs) each apart =
    let first = and_parts (is_apart_from before h) (list_all (is_apart_from before) hs) each in
    let own = and_parts (list_all (is_apart (header_span h)) (map header_span hs)) (are_apart (map header_span hs)) apart in
    first_row before hs h ∙ and_from _ _ first.0 (hold_behind (before ++ h ∷ []) hs (all_apart_more before hs h first.1 own.0) own.1)

apart_behind : (before hs : List ProgramHeader) → list_all (λ t. t.holds) (apart_tests before hs) ≡ true
    → (list_all (is_apart_from before) hs ≡ true) × (are_apart (map header_span hs) ≡ true)
apart_behind before [] hold = (refl, refl)
apart_behind before (h ∷ hs) hold =
    let both = and_parts (is_apart_from before h) (list_all (λ t. t.holds) (apart_tests (before ++ h ∷ []) hs)) (sym (first_row before hs h) ∙ hold) in
    let behind = apart_behind (before ++ h ∷ []) hs both.1 in
    let each = all_apart_less before hs h behind.0 in
    (and_from _ _ both.0 each.0, and_from _ _ each.1 behind.1)

none_before : (hs : List ProgramHeader) → list_all (is_apart_from []) hs ≡ true
none_before [] = refl
none_before (h ∷ hs) = none_before hs

pub hold_from_apart : (hs : List ProgramHeader) → are_apart (map header_span hs) ≡ true → list_all (λ t. t.holds) (apart_tests [] hs) ≡ true
hold_from_apart hs apart = hold_behind [] hs (none_before hs) apart

pub apart_from_hold : (hs : List ProgramHeader) → list_all (λ t. t.holds) (apart_tests [] hs) ≡ true → are_apart (map header_span hs) ≡ true
apart_from_hold hs hold = (apart_behind [] hs hold).1
