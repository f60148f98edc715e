-- Segments that share no address, and the map that has where they begin and end.
use Rattle.std.proofs.Common.{◌≡◌, ℕ, ◌+◌, ◌<◌, ◌≤◌, ◌≢◌, true, eqb, ◌⊎◌, inl, inr, List, [], ◌∷◌, ◌++◌, map, length, take, drop, get_or, Some, None, sym, ap, subst, ◌∙◌, append_assoc, arith}
use Rattle.std.specs.Prelude.{Contains}
use Rattle.std.specs.List.{list_all}
use Rattle.std.specs.Ordering.{nat_cmp}
use Rattle.std.specs.BTreeMap.{BTreeMap, get, is_at, Updates}
use Rattle.std.specs.Map.{lookup}
use Rattle.std.proofs.lemmas.Bool.{cases_lt, cases_Bool, eqb-true, eq-eqb}
use Rattle.std.proofs.lemmas.Bool.Decides.{nat_tests}
use Rattle.std.proofs.lemmas.List.{append-nil, take_more, take-append-drop, at_drop_more}
use Rattle.std.proofs.lemmas.List.Folds.{list_all-map}
use Rattle.std.proofs.lemmas.List.Elements.{All-contains, All-contains_itself, Contains-push, Contains-push_cases, Contains-append_left}
use Rattle.std.proofs.lemmas.List.Sums.{AllPass-from_list_all, list_all-from_AllPass}
use Rattle.ram_image.specs.Segments.{is_apart}
use Rattle.ram_image.proofs.Spans.{apart_before, apart_behind, apart_cases, apart_none, apart_other_none}
use Rattle.elf_file.specs.declared.fault.ElfFault.{ElfFault}
use Rattle.elf_file.specs.declared.fields.ProgramHeader.{ProgramHeader}
use Rattle.elf_file.specs.Faults.{first_failed, header_span, apart_test, apart_tests}
use Rattle.elf_file.specs.Taken.{TakesSpan, IsTaken, AreTaken}
use Rattle.elf_file.proofs.FirstFault.{first_fault_none, all_hold, first_fault-behind, first_fault-before}

-- ---- one segment and others

holds_apart : (b : ProgramHeader) (hs : List ProgramHeader) → list_all (λ t. t.holds) (map (apart_test b) hs) ≡ list_all (λ a. is_apart (header_span a) (header_span b)) hs
holds_apart b hs = list_all-map (λ t. t.holds) (apart_test b) hs

-- none is in the way of a segment that is apart from each
pub no_fault_apart : (b : ProgramHeader) (hs : List ProgramHeader) → ((a : ProgramHeader) → Contains hs a → is_apart (header_span a) (header_span b) ≡ true)
    → first_failed (map (apart_test b) hs) ≡ None
no_fault_apart b hs each = first_fault_none (map (apart_test b) hs) (
    holds_apart b hs ∙ list_all-from_AllPass (λ a. is_apart (header_span a) (header_span b)) hs (λ k d lt. each (get_or hs k d) (All-contains_itself hs k d lt))
    )

pub apart_from_each : (b : ProgramHeader) (hs : List ProgramHeader) → first_failed (map (apart_test b) hs) ≡ None
    → (a : ProgramHeader) → Contains hs a → is_apart (header_span a) (header_span b) ≡ true
apart_from_each b hs none a has =
    let all : list_all (λ a. is_apart (header_span a) (header_span b)) hs ≡ true = sym (holds_apart b hs) ∙ all_hold (map (apart_test b) hs) none in
    All-contains (λ a. is_apart (header_span a) (header_span b) ≡ true) hs a (AllPass-from_list_all (λ a. is_apart (header_span a) (header_span b)) hs all) has

-- a segment without addresses
pub no_clash_none : (b : ProgramHeader) (hs : List ProgramHeader) → b.memsz ≡ 0 → first_failed (map (apart_test b) hs) ≡ None
no_clash_none b hs none = no_fault_apart b hs (λ a has. apart_other_none (header_span a) (header_span b) none)

-- a segment that takes none of the addresses in the map
pub no_clash_free : (b : ProgramHeader) (hs : List ProgramHeader) (ends : BTreeMap ℕ ℕ) → AreTaken hs ends → (IsTaken ends b.paddr (b.paddr + b.memsz) → ⊥)
    → first_failed (map (apart_test b) hs) ≡ None
no_clash_free b hs ends taken free = no_fault_apart b hs each where
  beside : (a : ProgramHeader) → Contains hs a → 0 < a.memsz → is_apart (header_span a) (header_span b) ≡ true
  beside a has some =
      elim (cases_lt a.paddr (b.paddr + b.memsz)) [
        | inr le ↦ apart_behind (header_span a) (header_span b) le
        | inl lt ↦ elim (cases_lt b.paddr (a.paddr + a.memsz)) [
          | inr le ↦ apart_before (header_span a) (header_span b) le
          | inl behind ↦ absurd (free (record { first = a.paddr; last = a.paddr + a.memsz; entry = taken.there a has some; before = lt; behind = behind }))
        ]
      ]

  each : (a : ProgramHeader) → Contains hs a → is_apart (header_span a) (header_span b) ≡ true
  each a has = elim (cases_lt 0 a.memsz) [ inl some ↦ beside a has some | inr none ↦ apart_none (header_span a) (header_span b) (omega arith) ]

-- ---- one segment more in the map

-- no segments, and no entries
pub taken_at_first : (ends : BTreeMap ℕ ℕ) → ends.entries ≡ [] → AreTaken [] ends
taken_at_first ends none =
    let nowhere : (at end : ℕ) → TakesSpan ends at end → ⊥ = λ at end entry. let no : None ≡ Some end = sym (ap (lookup (is_at (nat_cmp at))) none) ∙ entry in (cc) in
    record {
      spread = record { some = λ at end entry. absurd (nowhere at end entry); apart = λ at end next last entry other lt. absurd (nowhere at end entry) };
      there = λ h has some. absurd (omega (arith, has.1));
      only = λ at end entry. absurd (nowhere at end entry);
    }

-- a segment without addresses has no entry
pub taken_more_none : (hs : List ProgramHeader) (b : ProgramHeader) (ends : BTreeMap ℕ ℕ) → AreTaken hs ends → b.memsz ≡ 0 → AreTaken (hs ++ b ∷ []) ends
taken_more_none hs b ends taken none = record {
  spread = taken.spread;
  there = λ h has some. elim (Contains-push_cases hs b h has) [
    | inl before ↦ taken.there h before some
    | inr same ↦ absurd (omega (arith, ap (λ (x : ProgramHeader). x.memsz) same))
  ];
  only = λ at end entry. let h = taken.only at end entry in (h.0, Contains-append_left hs (b ∷ []) h.0 h.1, h.2, h.3);
}

same_or_other : (a b : ℕ) → (a ≡ b) ⊎ (a ≢ b)
same_or_other a b = elim (cases_Bool (eqb a b)) [ inl e ↦ inl (eqb-true a b e) | inr e ↦ inr (λ same. let yes : eqb a b ≡ true = eq-eqb a b same in (cc)) ]

module _ (hs : List ProgramHeader) (b : ProgramHeader) (old new : BTreeMap ℕ ℕ) (taken : AreTaken hs old) (none : first_failed (map (apart_test b) hs) ≡ None)
    (some : 0 < b.memsz) (updates : Updates nat_cmp old new b.paddr (Some (b.paddr + b.memsz))) where
  end_here : (end : ℕ) → TakesSpan new b.paddr end → b.paddr + b.memsz ≡ end
  end_here end entry = let both : Some (b.paddr + b.memsz) ≡ Some end = sym updates.1 ∙ entry in cc

  as_before : (at : ℕ) → at ≢ b.paddr → get nat_cmp new at ≡ get nat_cmp old at
  as_before at other = updates.2 at (grind (arith, nat_tests))

  -- the segment of another entry lies before this one or behind
  beside : (at end : ℕ) → TakesSpan old at end → (end ≤ b.paddr) ⊎ (b.paddr + b.memsz ≤ at)
  beside at end entry =
      let h = taken.only at end entry in
      let long : at < end = taken.spread.some at end entry in
      let apart = apart_from_each b hs none h.0 h.1 in
      elim (apart_cases (header_span h.0) (header_span b) apart (omega (arith, h.2, h.3)) some) [ inl before ↦ inl (omega (arith, h.2, h.3)) | inr behind ↦ inr (omega (arith, h.2, h.3)) ]

  has_addresses : (at end : ℕ) → TakesSpan new at end → at < end
  has_addresses at end entry =
      elim (same_or_other at b.paddr) [
        | inl same ↦ let here : b.paddr + b.memsz ≡ end = end_here end (subst (λ n. TakesSpan new n end) same entry) in omega arith
        | inr other ↦ taken.spread.some at end (sym (as_before at other) ∙ entry)
      ]

  are_apart_new : (at end next last : ℕ) → TakesSpan new at end → TakesSpan new next last → at < next → end ≤ next
  are_apart_new at end next last entry further lt =
      elim (same_or_other at b.paddr) [
        | inl same ↦
            let here : b.paddr + b.memsz ≡ end = end_here end (subst (λ n. TakesSpan new n end) same entry) in
            let there : TakesSpan old next last = sym (as_before next (λ is. omega arith)) ∙ further in
            let long : next < last = taken.spread.some next last there in
            elim (beside next last there) [ inl before ↦ omega arith | inr behind ↦ omega arith ]
        | inr other ↦
            let here : TakesSpan old at end = sym (as_before at other) ∙ entry in
            let long : at < end = taken.spread.some at end here in
            elim (same_or_other next b.paddr) [
              | inl same ↦ elim (beside at end here) [ inl before ↦ omega arith | inr behind ↦ omega arith ]
              | inr far ↦ taken.spread.apart at end next last here (sym (as_before next far) ∙ further) lt
            ]
      ]

  entry_of : (h : ProgramHeader) → Contains hs h → 0 < h.memsz → TakesSpan new h.paddr (h.paddr + h.memsz)
  entry_of h has long =
      let entry : TakesSpan old h.paddr (h.paddr + h.memsz) = taken.there h has long in
      let elsewhere : h.paddr ≢ b.paddr = λ same. elim (beside h.paddr (h.paddr + h.memsz) entry) [ inl before ↦ omega arith | inr behind ↦ omega arith ] in
      as_before h.paddr elsewhere ∙ entry

  pub taken_more : AreTaken (hs ++ b ∷ []) new
  taken_more = record {
    spread = record { some = has_addresses; apart = are_apart_new };
    there = λ h has long. elim (Contains-push_cases hs b h has) [
      | inl before ↦ entry_of h before long
      | inr same ↦ subst (λ (x : ProgramHeader). TakesSpan new x.paddr (x.paddr + x.memsz)) same updates.1
    ];
    only = λ at end entry. elim (same_or_other at b.paddr) [
      | inl same ↦ (b, Contains-push hs b, sym same, end_here end (subst (λ n. TakesSpan new n end) same entry))
      | inr other ↦ let h = taken.only at end (sym (as_before at other) ∙ entry) in (h.0, Contains-append_left hs (b ∷ []) h.0 h.1, h.2, h.3)
    ];
  }

-- ---- the segments in turn

-- what stands for an element where there is none
abbrev pub no_header : ProgramHeader
no_header = record { number = 0; kind = 0; flags = 0; offset = 0; paddr = 0; filesz = 0; memsz = 0 }

apart_tests-append : (before hs more : List ProgramHeader) → apart_tests before (hs ++ more) ≡ apart_tests before hs ++ apart_tests (before ++ hs) more
apart_tests-append before [] more = ap (λ bs. apart_tests bs more) (sym (append-nil before))
apart_tests-append before (h ∷ hs) more =
    ap (λ ts. map (apart_test h) before ++ ts) (apart_tests-append (before ++ h ∷ []) hs more)
    ∙ sym (append_assoc (map (apart_test h) before) (apart_tests (before ++ h ∷ []) hs) (apart_tests ((before ++ h ∷ []) ++ hs) more))
    ∙ ap (λ bs. (map (apart_test h) before ++ apart_tests (before ++ h ∷ []) hs) ++ apart_tests bs more) (append_assoc before (h ∷ []) hs)

module _ (hs : List ProgramHeader) (i : ℕ) (below : i < length hs) (so_far : first_failed (apart_tests [] (take i hs)) ≡ None) where
  abbrev pub h : ProgramHeader
  h = get_or hs i no_header

  split : hs ≡ take i hs ++ (h ∷ drop (i + 1) hs)
  split = sym (take-append-drop i hs) ∙ at_drop_more (λ (xs : List ProgramHeader). take i hs ++ xs) hs i no_header below

  pub take_next : take (i + 1) hs ≡ take i hs ++ h ∷ []
  take_next = take_more hs i no_header below

  -- the first segment that clashes
  pub clash_at : (fault : ElfFault) → first_failed (map (apart_test h) (take i hs)) ≡ Some fault → first_failed (apart_tests [] hs) ≡ Some fault
  clash_at fault clash =
      let front : List ProgramHeader = take i hs in
      ap (λ xs. first_failed (apart_tests [] xs)) split ∙ ap first_failed (apart_tests-append [] front (h ∷ drop (i + 1) hs))
      ∙ first_fault-behind (apart_tests [] front) (apart_tests front (h ∷ drop (i + 1) hs)) so_far
      ∙ first_fault-before (map (apart_test h) front) (apart_tests (front ++ h ∷ []) (drop (i + 1) hs)) fault clash

  pub apart_more : first_failed (map (apart_test h) (take i hs)) ≡ None → first_failed (apart_tests [] (take (i + 1) hs)) ≡ None
  apart_more none =
      let front : List ProgramHeader = take i hs in
      ap (λ xs. first_failed (apart_tests [] xs)) take_next ∙ ap first_failed (apart_tests-append [] front (h ∷ []))
      ∙ first_fault-behind (apart_tests [] front) (apart_tests front (h ∷ [])) so_far
      ∙ first_fault-behind (map (apart_test h) front) [] none
