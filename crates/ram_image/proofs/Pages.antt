-- Pages as a list: what one write to a page leaves at each address.
use Rattle.std.proofs.Common.{◌≡◌, ℕ, ◌+◌, ◌-◌, ◌/◌, ◌%◌, ◌<◌, ◌≤◌, List, length, take, drop, get_or, set, leb, ltb, ◌&&◌, true, false, Some, None, refl, sym, ◌∙◌, ap, arith, inl, inr, replicate, subst}
use Rattle.std.specs.Prelude.{if◌then◌else◌, IsSome}
use Rattle.std.specs.declared.alloc.Global.{Global}
use Rattle.std.specs.declared.boxed.Box.{Box}
use Rattle.std.proofs.lemmas.Bool.{cases_lt, cases_eq}
use Rattle.std.proofs.lemmas.Bool.Decides.{nat_tests}
use Rattle.std.proofs.lemmas.List.{places, get_or-set_same, get_or-set_other, get_or-replicate, get_or_past, get_or_default, length-replicate}
use borrow.Rule.Slice.PartMut.{put_mid}
use Rattle.rv_fields.specs.Memory.{ram_start, ram_end, in_ram}
use Rattle.ram_image.specs.Ram.{Page, page_byte, page_at}

-- how many pages RAM has
abbrev pub page_count : ℕ
page_count = (ram_end - ram_start) / 4096

-- a place of a list in which a part was written
get_or-put_mid_below : (a k : ℕ) (xs ys : List ℕ) (i : ℕ) → a + k ≤ length xs → i < a → get_or (put_mid a k xs ys) i 0 ≡ get_or xs i 0
get_or-put_mid_below a k xs ys i within below = grind (arith, places)

get_or-put_mid_inside : (a k : ℕ) (xs ys : List ℕ) (i : ℕ) → a + k ≤ length xs → length ys ≡ k → a ≤ i → i < a + k → get_or (put_mid a k xs ys) i 0 ≡ get_or ys (i - a) 0
get_or-put_mid_inside a k xs ys i within whole above below = grind (arith, places)

get_or-put_mid_above : (a k : ℕ) (xs ys : List ℕ) (i : ℕ) → a + k ≤ length xs → length ys ≡ k → a + k ≤ i → get_or (put_mid a k xs ys) i 0 ≡ get_or xs i 0
get_or-put_mid_above a k xs ys i within whole above = grind (arith, places)

-- what holds inside a stretch, and outside
pub if_inside : (at to a : ℕ) (x y : ℕ) → at ≤ a → a < to → (if leb at a && ltb a to then x else y) ≡ x
if_inside at to a x y above below = grind (arith, nat_tests)

pub if_below : (at to a : ℕ) (x y : ℕ) → a < at → (if leb at a && ltb a to then x else y) ≡ y
if_below at to a x y below = grind (arith, nat_tests)

pub if_past : (at to a : ℕ) (x y : ℕ) → to ≤ a → (if leb at a && ltb a to then x else y) ≡ y
if_past at to a x y past = grind (arith, nat_tests)

zero_everywhere : (n k : ℕ) → (let zeros : List ℕ = replicate n 0 in get_or zeros k 0 ≡ 0)
zero_everywhere n k =
    elim (cases_lt k n) [
      | inl below ↦ get_or-replicate n k 0 0 below
      | inr past ↦ let zeros : List ℕ = replicate n 0 in get_or_past zeros k 0 (omega (arith, length-replicate {A = ℕ} n 0))
    ]

-- bytes and then zeros written to places of a page
pub page_put : (page bytes zeros : List ℕ) (first past k : ℕ) → first + length bytes ≤ past → past ≤ length page
    → zeros ≡ replicate (past - (first + length bytes)) 0
    → get_or (put_mid (first + length bytes) (past - (first + length bytes)) (put_mid first (first + length bytes - first) page bytes) zeros) k 0
    ≡ (if leb first k && ltb k past then get_or bytes (k - first) 0 else get_or page k 0)
page_put page bytes zeros first past k room within all_zeros =
    let count = length bytes in
    let mid = first + count in
    let part : mid - first ≡ count = omega arith in
    let half = put_mid first (mid - first) page bytes in
    let half_length : length half ≡ length page = grind (arith, places) in
    let zeros_length : length zeros ≡ past - mid = ap length all_zeros ∙ length-replicate (past - mid) 0 in
    let part_within : first + (mid - first) ≤ length page = omega arith in
    let bytes_whole : length bytes ≡ mid - first = omega arith in
    let rest_within : mid + (past - mid) ≤ length half = omega arith in
    elim (cases_lt k first) [
      | inl below ↦
          get_or-put_mid_below mid (past - mid) half zeros k rest_within (omega arith)
          ∙ get_or-put_mid_below first (mid - first) page bytes k part_within below
          ∙ sym (if_below first past k (get_or bytes (k - first) 0) (get_or page k 0) below)
      | inr above ↦ elim (cases_lt k mid) [
        | inl in_bytes ↦
            get_or-put_mid_below mid (past - mid) half zeros k rest_within in_bytes
            ∙ get_or-put_mid_inside first (mid - first) page bytes k part_within bytes_whole above (omega arith)
            ∙ sym (if_inside first past k (get_or bytes (k - first) 0) (get_or page k 0) above (omega arith))
        | inr behind ↦ elim (cases_lt k past) [
          | inl in_zeros ↦
              get_or-put_mid_inside mid (past - mid) half zeros k rest_within zeros_length behind (omega arith)
              ∙ ap (λ zs. get_or zs (k - mid) 0) all_zeros
              ∙ zero_everywhere (past - mid) (k - mid)
              ∙ sym (get_or_past bytes (k - first) 0 (omega arith))
              ∙ sym (if_inside first past k (get_or bytes (k - first) 0) (get_or page k 0) above in_zeros)
          | inr outside ↦
              get_or-put_mid_above mid (past - mid) half zeros k rest_within zeros_length (omega arith)
              ∙ get_or-put_mid_above first (mid - first) page bytes k part_within bytes_whole (omega arith)
              ∙ sym (if_past first past k (get_or bytes (k - first) 0) (get_or page k 0) outside)
        ]
      ]
    ]

-- the zeros behind the bytes, as the call that writes them tells
pub zeros_behind : (page bytes copied zeros : List ℕ) (first past : ℕ) → first + length bytes ≤ past → past ≤ length page → copied ≡ bytes
    → zeros ≡ replicate (length (take (past - (first + length bytes)) (drop (first + length bytes) (put_mid first (first + length bytes - first) page copied)))) 0
    → zeros ≡ replicate (past - (first + length bytes)) 0
zeros_behind page bytes copied zeros first past room within is_bytes all_zeros =
    let whole : length copied ≡ length bytes = ap length is_bytes in
    let count : length (take (past - (first + length bytes)) (drop (first + length bytes) (put_mid first (first + length bytes - first) page copied)))
    ≡ past - (first + length bytes) = grind (arith, places) in
    all_zeros ∙ ap (λ n. replicate n 0) count

-- the page of an address after another page was put in a place
pub page_at-set_same : (pages : List Page) (at a : ℕ) (page : Page) → ram_start ≤ a → (a - ram_start) / 4096 ≡ (at - ram_start) / 4096
    → (at - ram_start) / 4096 < length pages → page_at (set pages ((at - ram_start) / 4096) page) a ≡ page
unfolding page_at
page_at-set_same pages at a page in_ram same within =
    let tested : leb ram_start a ≡ true = grind (arith, nat_tests) in
    rw (tested, same) (get_or-set_same pages ((at - ram_start) / 4096) page None within)

pub page_at-set_other : (pages : List Page) (place a : ℕ) (page : Page) → (ram_start ≤ a → (a - ram_start) / 4096 ≡ place → ⊥)
    → page_at (set pages place page) a ≡ page_at pages a
unfolding page_at
page_at-set_other pages place a page other =
    elim (cases_lt a ram_start) [
      | inl outside ↦
          let tested : leb ram_start a ≡ false = grind (arith, nat_tests) in
          rw tested refl
      | inr inside ↦ ap (λ p. if leb ram_start a then p else None) (get_or-set_other pages place ((a - ram_start) / 4096) page None (other inside))
    ]

pub page_at_same : (pages : List Page) (at a : ℕ) → ram_start ≤ a → ram_start ≤ at → (a - ram_start) / 4096 ≡ (at - ram_start) / 4096
    → page_at pages a ≡ page_at pages at
unfolding page_at
page_at_same pages at a inside at_inside same =
    let tested : leb ram_start a ≡ true = grind (arith, nat_tests) in
    let at_tested : leb ram_start at ≡ true = grind (arith, nat_tests) in
    rw (tested, at_tested, same) refl

-- the byte at an address
unfoldable pub byte_of : List Page → ℕ → ℕ
byte_of pages a = page_byte (page_at pages a) ((a - ram_start) % 4096)

-- a page with a byte at each place, put in place of the page that was kept for an address
pub page_written : (pages : List Page) (at to : ℕ) (bytes : List ℕ) (kept written : Box (List ℕ) Global) (a : ℕ)
    → ram_start ≤ at → at < ram_end → (at - ram_start) % 4096 + (to - at) ≤ 4096 → length pages ≡ page_count
    → page_at pages at ≡ Some kept
    → ((k : ℕ) → get_or written.value k 0
    ≡ (if leb ((at - ram_start) % 4096) k && ltb k ((at - ram_start) % 4096 + (to - at)) then get_or bytes (k - (at - ram_start) % 4096) 0 else get_or kept.value k 0))
    → byte_of (set pages ((at - ram_start) / 4096) (Some written)) a ≡ (if leb at a && ltb a to then get_or bytes (a - at) 0 else byte_of pages a)
unfolding byte_of
page_written pages at to bytes kept written a at_inside at_within in_page whole is_kept put =
    let first = (at - ram_start) % 4096 in
    let past = first + (to - at) in
    let place = (at - ram_start) / 4096 in
    let k = (a - ram_start) % 4096 in
    let before = page_byte (page_at pages a) k in
    let other : (ram_start ≤ a → (a - ram_start) / 4096 ≡ place → ⊥) → page_byte (page_at (set pages place (Some written)) a) k ≡ before =
    λ apart. ap (λ p. page_byte p k) (page_at-set_other pages place a (Some written) apart) in
    elim (cases_lt a ram_start) [
      | inl outside ↦ other (λ inside same. omega arith) ∙ sym (if_below at to a (get_or bytes (a - at) 0) before (omega arith))
      | inr inside ↦ elim (cases_eq ((a - ram_start) / 4096) place) [
        | inr apart ↦
            other (λ _. apart)
            ∙ (elim (cases_lt a at) [
              | inl below ↦ sym (if_below at to a (get_or bytes (a - at) 0) before below)
              | inr above ↦ elim (cases_lt a to) [
                | inl within ↦ absurd (apart (omega arith))
                | inr beyond ↦ sym (if_past at to a (get_or bytes (a - at) 0) before beyond)
              ]
            ])
        | inl same ↦
            let here : page_at pages a ≡ Some kept = page_at_same pages at a inside at_inside same ∙ is_kept in
            let was : get_or kept.value k 0 ≡ before = ap (λ p. page_byte p k) (sym here) in
            let new : page_byte (page_at (set pages place (Some written)) a) k ≡ get_or written.value k 0 =
            ap (λ p. page_byte p k) (page_at-set_same pages at a (Some written) inside same (omega arith)) in
            new ∙ put k
            ∙ (elim (cases_lt a at) [
              | inl below ↦
                  if_below first past k (get_or bytes (k - first) 0) (get_or kept.value k 0) (omega arith) ∙ was
                  ∙ sym (if_below at to a (get_or bytes (a - at) 0) before below)
              | inr above ↦ elim (cases_lt a to) [
                | inl within ↦
                    let offset : k - first ≡ a - at = omega arith in
                    if_inside first past k (get_or bytes (k - first) 0) (get_or kept.value k 0) (omega arith) (omega arith)
                    ∙ ap (λ i. get_or bytes i 0) offset
                    ∙ sym (if_inside at to a (get_or bytes (a - at) 0) before above within)
                | inr beyond ↦
                    if_past first past k (get_or bytes (k - first) 0) (get_or kept.value k 0) (omega arith) ∙ was
                    ∙ sym (if_past at to a (get_or bytes (a - at) 0) before beyond)
              ]
            ])
      ]
    ]

-- the page that is read from the place of an address is the page of the address
pub page_at_is : (pages : List Page) (at : ℕ) (page : Page) → ram_start ≤ at → at < ram_end → length pages ≡ page_count
    → page ≡ get_or pages ((at - ram_start) / 4096) page → page_at pages at ≡ page
unfolding page_at
page_at_is pages at page inside within whole read =
    let tested : leb ram_start at ≡ true = grind (arith, nat_tests) in
    let there : (at - ram_start) / 4096 < length pages = omega arith in
    rw tested (get_or_default pages ((at - ram_start) / 4096) None page there ∙ sym read)

-- a page of zeros in place of none changes no byte
pub zeros_placed : (pages : List Page) (at : ℕ) (zeros : Box (List ℕ) Global) (a : ℕ)
    → ram_start ≤ at → at < ram_end → length pages ≡ page_count → page_at pages at ≡ None → zeros.value ≡ replicate 4096 0
    → byte_of (set pages ((at - ram_start) / 4096) (Some zeros)) a ≡ byte_of pages a
unfolding byte_of
zeros_placed pages at zeros a at_inside within whole none all_zeros =
    let place = (at - ram_start) / 4096 in
    let k = (a - ram_start) % 4096 in
    elim (cases_lt a ram_start) [
      | inl outside ↦ ap (λ p. page_byte p k) (page_at-set_other pages place a (Some zeros) (λ inside same. omega arith))
      | inr inside ↦ elim (cases_eq ((a - ram_start) / 4096) place) [
        | inr apart ↦ ap (λ p. page_byte p k) (page_at-set_other pages place a (Some zeros) (λ _. apart))
        | inl same ↦
            ap (λ p. page_byte p k) (page_at-set_same pages at a (Some zeros) inside same (omega arith))
            ∙ ap (λ zs. get_or zs k 0) all_zeros ∙ zero_everywhere 4096 k
            ∙ ap (λ p. page_byte p k) (sym (page_at_same pages at a inside at_inside same ∙ none))
      ]
    ]

-- a page that is put somewhere is kept, and so is every page that was
pub kept_here : (pages : List Page) (at a : ℕ) (page : Box (List ℕ) Global) → ram_start ≤ at → at < ram_end → length pages ≡ page_count → a / 4096 ≡ at / 4096
    → IsSome (page_at (set pages ((at - ram_start) / 4096) (Some page)) a)
kept_here pages at a page inside within whole same =
    let a_inside : ram_start ≤ a = omega arith in
    let place : (a - ram_start) / 4096 ≡ (at - ram_start) / 4096 = omega arith in
    subst IsSome (sym (page_at-set_same pages at a (Some page) a_inside place (omega arith))) refl

pub kept_there : (pages : List Page) (at : ℕ) (page : Box (List ℕ) Global) (a : ℕ) → at < ram_end → length pages ≡ page_count
    → IsSome (page_at pages a) → IsSome (page_at (set pages ((at - ram_start) / 4096) (Some page)) a)
kept_there pages at page a within whole kept =
    let place = (at - ram_start) / 4096 in
    elim (cases_lt a ram_start) [
      | inl outside ↦ subst IsSome (sym (page_at-set_other pages place a (Some page) (λ inside same. omega arith))) kept
      | inr inside ↦ elim (cases_eq ((a - ram_start) / 4096) place) [
        | inr apart ↦ subst IsSome (sym (page_at-set_other pages place a (Some page) (λ _. apart))) kept
        | inl same ↦ subst IsSome (sym (page_at-set_same pages at a (Some page) inside same (omega arith))) refl
      ]
    ]

-- a byte of the page of an address, so many places behind it
pub byte_behind : (pages : List Page) (at k : ℕ) (page : Page) → ram_start ≤ at → (at - ram_start) % 4096 + k < 4096 → page_at pages at ≡ page
    → byte_of pages (at + k) ≡ page_byte page ((at - ram_start) % 4096 + k)
unfolding byte_of
byte_behind pages at k page inside in_page is_page =
    let behind : ram_start ≤ at + k = omega arith in
    let same : (at + k - ram_start) / 4096 ≡ (at - ram_start) / 4096 = omega arith in
    let place : (at + k - ram_start) % 4096 ≡ (at - ram_start) % 4096 + k = omega arith in
    ap (λ p. page_byte p ((at + k - ram_start) % 4096)) (page_at_same pages at (at + k) behind inside same ∙ is_page) ∙ ap (page_byte page) place

-- where no page is kept, each byte is 0
pub nothing_kept : (pages : List Page) (a : ℕ) → ((k : ℕ) → get_or pages k None ≡ None) → byte_of pages a ≡ 0
unfolding byte_of page_at
nothing_kept pages a none =
    let place = (a - ram_start) % 4096 in
    elim (cases_lt a ram_start) [
      | inl outside ↦
          let tested : leb ram_start a ≡ false = grind (arith, nat_tests) in
          ap (λ b. page_byte (if b then get_or pages ((a - ram_start) / 4096) None else None) place) tested
      | inr inside ↦
          let tested : leb ram_start a ≡ true = grind (arith, nat_tests) in
          ap (λ b. page_byte (if b then get_or pages ((a - ram_start) / 4096) None else None) place) tested
          ∙ ap (λ p. page_byte p place) (none ((a - ram_start) / 4096))
    ]
