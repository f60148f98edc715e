-- The text of a thing that is in its ranges tells this thing again.
use Rattle.std.proofs.Common.{◌≡◌, ◌≢◌, ℕ, ◌*◌, ◌<◌, ◌≤◌, ◌^◌, ◌==◌, List, [], ◌∷◌, ◌++◌, length, map, true, false, not, cond, refl, sym, ap, ◌∙◌, arith, append_assoc, append-nil, map-id, lt_trans, Option, Some, None, IfSome, option_map}
use Rattle.std.specs.Prelude.{nat_lt, nat_le, MatchOption}
use Rattle.std.specs.Option.{option_map_or}
use Rattle.std.specs.List.{AllByRecursion, flat_map}
use Rattle.std.specs.Str.{bytes_eq}
use Rattle.std.specs.Str.Parse.{digits_value}
use Rattle.std.specs.Fmt.{decimal}
use Rattle.std.proofs.lemmas.Bool.{cond-true, cond-false, le-leb, le-ltb, not_from_false, false_from_ne_true}
use Rattle.std.proofs.lemmas.List.{length-map}
use Rattle.std.proofs.lemmas.Slice.Eq.{bytes_eq-Decides}
use Rattle.rv_fields.specs.Attempt.{◌>>=◌}
use Rattle.rv_fields.specs.Name.{is_name, Name}
use Rattle.rv_fields.specs.declared.access.AccessKind.{AccessKind}
use Rattle.rv_fields.specs.declared.access.AccessKind.TheVariants.{Load, Store, Lr, Sc, Amo}
use Rattle.rv_fields.specs.declared.mode.Mode.{Mode}
use Rattle.rv_fields.specs.declared.mode.Mode.TheVariants.{U, S, M}
use Rattle.rv_fields.specs.declared.access.Accessed.{Accessed}
use Rattle.rv_fields.specs.declared.trap.Trap.{Trap}
use Rattle.rv_fields.specs.Effect.{Entry}
use Rattle.trace_fields.specs.declared.request.Kind.{Kind}
use Rattle.trace_fields.specs.declared.request.Kind.TheVariants.{Ins, Mem, Jump, Csr, Sys, Value, Loop, Pick, Set}
use Rattle.trace_fields.specs.declared.request.Cause.{Cause}
use Rattle.trace_fields.specs.declared.request.Cause.TheVariants.{EmptyChoice, BudgetSpent, NoRegister, NoAddress, NoTarget, WindowFull, NoFreePage, NoPlace}
use Rattle.trace_fields.specs.Letters.{access_letters, mode_letters, letter_of_kind, letter_of_mode, kind_of_letter, mode_of_letter}
use Rattle.trace_fields.specs.Text.{colon, comma, slash, joined_by, hex, word_text, byte_text, none_text, or_none, kind_text, cause_text, write_text, access_text, entry_text, trail_text, trap_text, letter_text}
use Rattle.trace_fields.specs.Numbers.{decimal_below, word_reading, byte_reading}
use Rattle.trace_fields.specs.Fields.{is_decimal}
use Rattle.trace_fields.specs.Readings.{kind_reading, cause_reading, sizes, preambles, is_any_of, letter_reading, name_reading, count_reading, number_reading, hex_reading, register_reading, space_reading, field_parts, all_of, at_most, path_reading, pairs_of, bytes_reading, optional, sized, write_by_parts, access_by_parts, entry_by_parts, trap_by_parts, write_reading, access_reading, entry_reading, trap_reading, trail_reading}
use Rattle.trace_fields.specs.Ranges.{IsAnyOf, IsName, IsWrite, IsAccess, IsEntry, IsTrap, IsPath, AreFixedBytes}
use Rattle.trace_fields.proofs.Spelled as spelled
use Rattle.trace_fields.proofs.Joins.{all_weaken, all_map, joined_all, Lacks, parts_again}
use Rattle.trace_fields.proofs.WordBytes.{IsWord, decimal_word, hex_word, name_word, access_letter_word, mode_letter_word, access_letter_is, mode_letter_is, kind_letter, mode_letter, any_holds, word_lacks, word_is_something}
use Rattle.trace_fields.proofs.Backs.{value_told, texts_joined, trap_parts, access_parts}

-- Numbers.

pub hart_again : (harts : ℕ) → harts ≤ 2 ^ 64 → (h : ℕ) → h < harts → decimal_below harts (decimal h) ≡ Some h
hart_again harts most h below = spelled.decimal_again harts h below most

pub count_again : (n : ℕ) → n < 2 ^ 32 → count_reading (decimal n) ≡ Some n
count_again n below = spelled.decimal_again (2 ^ 32) n below (omega arith)

pub hex_again : (n : ℕ) → n < 2 ^ 64 → hex_reading (hex n) ≡ Some n
hex_again n below = spelled.hex_again (2 ^ 64) n below (omega arith)

pub space_again : (n : ℕ) → n < 16 → space_reading (decimal n) ≡ Some n
space_again n below = spelled.decimal_again 16 n below (omega arith)

pub word_again : (w : ℕ) → w < 2 ^ 32 → word_reading (word_text w) ≡ Some w
word_again w below = spelled.wide_again 8 w (omega arith) (omega arith) below

pub byte_again : (b : ℕ) → b < 2 ^ 8 → byte_reading (byte_text b) ≡ Some b
byte_again b below = spelled.wide_again 2 b (omega arith) (omega arith) below

-- a number of any size of an access fits 64 bits
pub size_fits : (size : ℕ) → IsAnyOf sizes size → 2 ^ (8 * size) ≤ 2 ^ 64
size_fits size is = any_holds (λ s. 2 ^ (8 * s) ≤ 2 ^ 64) sizes size (omega arith) is

pub sized_again : (size : ℕ) → IsAnyOf sizes size → (n : ℕ) → n < 2 ^ (8 * size) → sized size (hex n) ≡ Some n
sized_again size is n below = spelled.hex_again (2 ^ (8 * size)) n below (size_fits size is)

pub register_again : (r : ℕ) → (1 ≤ r) × (r < 32) → register_reading (decimal r) ≡ Some r
register_again r fits =
    let read : decimal_below 32 (decimal r) ≡ Some r = spelled.decimal_again 32 r fits.1 (omega arith) in
    let test : is_decimal 1 32 (decimal r) ≡ true =
    ap (λ o. option_map_or (λ n. not (nat_lt n 1)) o false) read ∙ not_from_false (nat_lt r 1) (le-ltb r 1 fits.0) in
    cond-true (is_decimal 1 32 (decimal r)) (Some (digits_value 10 (decimal r))) None test
    ∙ ap Some (value_told decimal 10 32 (decimal r) r read)

pub number_again : (numbers : List ℕ) (n : ℕ) → n < 2 ^ 32 → IsAnyOf numbers n → number_reading numbers (decimal n) ≡ Some n
number_again numbers n below is =
    ap (λ o. o >>= (λ m. cond (is_any_of numbers m) (Some m) None)) (count_again n below) ∙ cond-true (is_any_of numbers n) (Some n) None is

pub preamble_again : (n : ℕ) → IsAnyOf preambles n → number_reading preambles (decimal n) ≡ Some n
preamble_again n is = number_again preambles n (any_holds (λ m. m < 2 ^ 32) preambles n (omega arith) is) is

pub size_small : (n : ℕ) → IsAnyOf sizes n → n < 2 ^ 32
size_small n is = any_holds (λ m. m < 2 ^ 32) sizes n (omega arith) is

pub size_again : (n : ℕ) → IsAnyOf sizes n → number_reading sizes (decimal n) ≡ Some n
size_again n is = number_again sizes n (size_small n is) is

-- Letters and names.

letter_again : (letters : List ℕ) (l : ℕ) → letter_text l ≡ l ∷ [] → IsAnyOf letters l → letter_reading letters (letter_text l) ≡ Some l
letter_again letters l same is = ap (letter_reading letters) same ∙ cond-true (is_any_of letters l) (Some l) None is

pub access_letter_again : (k : AccessKind) → letter_reading access_letters (letter_text (letter_of_kind k)) ≡ Some (letter_of_kind k)
access_letter_again k =
    let is = kind_letter k in
    letter_again access_letters (letter_of_kind k) (access_letter_is (letter_of_kind k) is) is

pub mode_letter_again : (m : Mode) → m ≢ U → letter_reading mode_letters (letter_text (letter_of_mode m)) ≡ Some (letter_of_mode m)
mode_letter_again m other =
    let is = mode_letter m other in
    letter_again mode_letters (letter_of_mode m) (mode_letter_is (letter_of_mode m) is) is

-- a kind's letter stands for this kind, and the letter of a mode that handles traps for this mode

kind_again_of_letter : (k : AccessKind) → kind_of_letter (letter_of_kind k) ≡ k
kind_again_of_letter Load = refl
kind_again_of_letter Store = refl
kind_again_of_letter Lr = refl
kind_again_of_letter Sc = refl
kind_again_of_letter Amo = refl

mode_again_of_letter : (m : Mode) → m ≢ U → mode_of_letter (letter_of_mode m) ≡ m
mode_again_of_letter U other = absurd (other refl)
mode_again_of_letter S other = refl
mode_again_of_letter M other = refl

pub name_again : (name : Name) → IsName name → name_reading name ≡ Some name
name_again name is = cond-true (is_name name) (Some name) None is

pub kind_again : (k : Kind) → kind_reading (kind_text k) ≡ Some k
kind_again Ins = refl
kind_again Mem = refl
kind_again Jump = refl
kind_again Csr = refl
kind_again Sys = refl
kind_again Value = refl
kind_again Loop = refl
kind_again Pick = refl
kind_again Set = refl

pub cause_again : (c : Cause) → cause_reading (cause_text c) ≡ Some c
cause_again EmptyChoice = refl
cause_again BudgetSpent = refl
cause_again NoRegister = refl
cause_again NoAddress = refl
cause_again NoTarget = refl
cause_again WindowFull = refl
cause_again NoFreePage = refl
cause_again NoPlace = refl

-- Things of which the parts of a field tell, and fields that may tell that there is nothing.

module _ {A : Type 0} (text : A → List ℕ) (reading : List ℕ → Option A) (Fits : A → Type 0)
    (again : (a : A) → Fits a → reading (text a) ≡ Some a) where
  pub all_again : (things : List A) → AllByRecursion Fits things → all_of reading (map text things) ≡ Some things
  all_again [] all = refl
  all_again (x ∷ xs) all = λ i. again x all.0 i >>= (λ a. all_again xs all.1 i >>= (λ rest. Some (a ∷ rest)))

  pub at_most_again : (most : ℕ) (things : List A) → length things ≤ most → AllByRecursion Fits things
      → at_most most reading (map text things) ≡ Some things
  at_most_again most things few all =
      let long = length-map things text in
      cond-true (nat_le (length (map text things)) most) (all_of reading (map text things)) None
      (le-leb (length (map text things)) most (omega arith)) ∙ all_again things all

  pub optional_again : ((a : A) → Fits a → text a ≡ none_text → ⊥) → (o : Option A) → IfSome o Fits → optional reading (or_none text o) ≡ Some o
  optional_again something None fits = refl
  optional_again something (Some a) fits =
      let test : bytes_eq (text a) none_text ≡ false =
      false_from_ne_true (bytes_eq (text a) none_text) (λ same. something a fits ((bytes_eq-Decides (text a) none_text).0 same)) in
      cond-false (bytes_eq (text a) none_text) (Some None) (option_map Some (reading (text a))) test ∙ ap (option_map Some) (again a fits)

  -- a thing that has to be there
  pub there_again : (o : Option A) → MatchOption o ⊥ Fits → option_map Some (reading (or_none text o)) ≡ Some o
  there_again None there = absurd there
  there_again (Some a) there = ap (option_map Some) (again a there)

-- Paths and bytes.

pub slash_free : (text : List ℕ) → IsWord text → Lacks slash text
slash_free text word = word_lacks slash (λ b is. is.no_slash) text word

pub path_again : (path : List Name) → IsPath path → path_reading (joined_by slash path) ≡ Some path
path_again path is =
    let lack = all_weaken IsName (Lacks slash) (λ name named. slash_free name (name_word name named)) path is.named in
    ap (at_most 8 name_reading) (parts_again slash path is.some lack ∙ sym (map-id path))
    ∙ at_most_again (λ name. name) name_reading IsName name_again 8 path is.short is.named

pairs_again : (texts : List (List ℕ)) → AllByRecursion (λ (text : List ℕ). length text ≡ 2) texts → pairs_of (flat_map (λ text. text) texts) ≡ texts
pairs_again [] all = refl
pairs_again ([] ∷ rest) all = absurd (omega (arith, all.0))
pairs_again ((a ∷ []) ∷ rest) all = absurd (omega (arith, all.0))
pairs_again ((a ∷ b ∷ []) ∷ rest) all = ap (λ (l : List (List ℕ)). (a ∷ b ∷ []) ∷ l) (pairs_again rest all.1)
pairs_again ((a ∷ b ∷ c ∷ more) ∷ rest) all = absurd (omega (arith, all.0))

some_field : (field : List ℕ) (pairs : List (List ℕ)) → pairs_of field ≡ pairs → 1 ≤ length pairs → bytes_reading field ≡ at_most 8 byte_reading pairs
some_field [] pairs are some = absurd (omega (arith, ap length are))
some_field (b ∷ bs) pairs are some = ap (at_most 8 byte_reading) are

pub bytes_again : (bytes : List ℕ) → AreFixedBytes bytes → bytes_reading (flat_map byte_text bytes) ≡ Some bytes
bytes_again bytes are =
    let pairs = map byte_text bytes in
    let two = all_map (λ (text : List ℕ). length text ≡ 2) byte_text bytes
    (all_weaken (λ b. b < 2 ^ 8) (λ b. length (byte_text b) ≡ 2) (λ b small. spelled.length-wide_hex 2 b (omega arith) (omega arith) small) bytes are.small) in
    let cut : pairs_of (flat_map byte_text bytes) ≡ pairs = ap pairs_of (texts_joined byte_text bytes) ∙ pairs_again pairs two in
    let long : length pairs ≡ length bytes = length-map bytes byte_text in
    some_field (flat_map byte_text bytes) pairs cut (omega (arith, are.some))
    ∙ at_most_again byte_text byte_reading (λ b. b < 2 ^ 8) byte_again 8 bytes are.short are.small

-- Fields of parts.

pub colon_free : (text : List ℕ) → IsWord text → Lacks colon text
colon_free text word = word_lacks colon (λ b is. is.no_colon) text word

pub write_again : (w : ℕ × ℕ) → IsWrite w → write_reading (write_text w) ≡ Some w
write_again w is =
    let one = decimal_word w.0 (omega (arith, is.register)) in
    let two = hex_word w.1 is.value in
    ap write_by_parts (parts_again colon (decimal w.0 ∷ hex w.1 ∷ []) (omega arith) (colon_free (decimal w.0) one, (colon_free (hex w.1) two, tt)))
    ∙ (λ i. register_again w.0 (is.some, is.register) i >>= (λ r. hex_again w.1 is.value i >>= (λ v. Some (r, v))))

pub write_is_something : (w : ℕ × ℕ) → IsWrite w → write_text w ≡ none_text → ⊥
write_is_something w is none = word_is_something (decimal w.0) (colon ∷ hex w.1) (decimal_word w.0 (omega (arith, is.register))) none

pub entry_again : (e : Entry) → IsEntry e → entry_reading (entry_text e) ≡ Some e
entry_again e is =
    let one = hex_word e.at is.at in
    let two = hex_word e.pte is.pte in
    ap entry_by_parts (parts_again colon (hex e.at ∷ hex e.pte ∷ []) (omega arith) (colon_free (hex e.at) one, (colon_free (hex e.pte) two, tt)))
    ∙ (λ i. hex_again e.at is.at i >>= (λ a. hex_again e.pte is.pte i >>= (λ p. Some (record { at = a; pte = p }))))

trap_free : (t : Trap) → IsTrap t → AllByRecursion (Lacks colon) (trap_parts t)
trap_free t is = (
  colon_free (decimal t.cause) (decimal_word t.cause (omega (arith, is.cause))),
  (
    colon_free (hex t.epc) (hex_word t.epc is.epc),
    (colon_free (hex t.tval) (hex_word t.tval is.tval), (colon_free (letter_text (letter_of_mode t.to)) (mode_letter_word t.to is.to), tt)),
  ),
)

pub trap_again : (t : Trap) → IsTrap t → trap_reading (trap_text t) ≡ Some t
trap_again t is =
    ap trap_by_parts (parts_again colon (trap_parts t) (omega arith) (trap_free t is))
    ∙ (λ i. space_again t.cause is.cause i >>= (λ c. hex_again t.epc is.epc i >>= (λ e. hex_again t.tval is.tval i >>= (λ v.
    mode_letter_again t.to is.to i >>= (λ m. Some (record { cause = c; epc = e; tval = v; to = mode_of_letter m }))))))
    ∙ ap (λ m. Some (record t { to = m })) (mode_again_of_letter t.to is.to)

pub trap_is_something : (t : Trap) → IsTrap t → trap_text t ≡ none_text → ⊥
trap_is_something t is none = word_is_something (decimal t.cause) _ (decimal_word t.cause (omega (arith, is.cause))) none

-- the number of a size that an access may read or write
sized_word : (size : ℕ) → IsAnyOf sizes size → (n : ℕ) → n < 2 ^ (8 * size) → IsWord (hex n)
sized_word size is n below = let fits = size_fits size is in hex_word n (omega arith)

sized_free : (size : ℕ) → IsAnyOf sizes size → (o : Option ℕ) → IfSome o (λ n. n < 2 ^ (8 * size)) → Lacks colon (or_none hex o)
sized_free size is None fits = (refl, tt)
sized_free size is (Some n) fits = colon_free (hex n) (sized_word size is n fits)

sized_something : (size : ℕ) → IsAnyOf sizes size → (n : ℕ) → n < 2 ^ (8 * size) → hex n ≡ none_text → ⊥
sized_something size is n below none = word_is_something (hex n) [] (sized_word size is n below) (append-nil (hex n) ∙ none)

optional_sized_again : (size : ℕ) → IsAnyOf sizes size → (o : Option ℕ) → IfSome o (λ n. n < 2 ^ (8 * size))
    → optional (sized size) (or_none hex o) ≡ Some o
optional_sized_again size is o fits =
    optional_again hex (sized size) (λ n. n < 2 ^ (8 * size)) (sized_again size is) (sized_something size is) o fits

access_free : (a : Accessed) → IsAccess a → AllByRecursion (Lacks colon) (access_parts a)
access_free a is =
    let size = decimal_word a.size (lt_trans (size_small a.size is.size) (omega arith)) in (
      colon_free (letter_text (letter_of_kind a.kind)) (access_letter_word a.kind),
      (
        colon_free (hex a.va) (hex_word a.va is.va),
        (
          colon_free (hex a.pa) (hex_word a.pa is.pa),
          (colon_free (decimal a.size) size, (sized_free a.size is.size a.read is.read, (sized_free a.size is.size a.wrote is.wrote, tt))),
        ),
      ),
    )

access_in_again : (a : Accessed) → IsAccess a → access_by_parts (access_parts a) ≡ Some a
access_in_again a is =
    let read = or_none hex a.read in
    let wrote = or_none hex a.wrote in
    (λ i. access_letter_again a.kind i >>= (λ k. hex_again a.va is.va i >>= (λ v.
    hex_again a.pa is.pa i >>= (λ p. size_again a.size is.size i >>= (λ s.
    optional (sized s) read >>= (λ r. optional (sized s) wrote >>= (λ w. Some (record { kind = kind_of_letter k; va = v; pa = p; size = s; read = r; wrote = w }))))))))
    ∙ (λ i. optional_sized_again a.size is.size a.read is.read i >>= (λ r. optional_sized_again a.size is.size a.wrote is.wrote i >>= (λ w.
    Some (record a { kind = kind_of_letter (letter_of_kind a.kind); read = r; wrote = w }))))
    ∙ ap (λ k. Some (record a { kind = k })) (kind_again_of_letter a.kind)

pub access_again : (a : Accessed) → IsAccess a → access_reading (access_text a) ≡ Some a
access_again a is = ap access_by_parts (parts_again colon (access_parts a) (omega arith) (access_free a is)) ∙ access_in_again a is

pub access_is_something : (a : Accessed) → IsAccess a → access_text a ≡ none_text → ⊥
access_is_something a is none = word_is_something (letter_text (letter_of_kind a.kind)) _ (access_letter_word a.kind) none

-- Trails.

comma_free : (text : List ℕ) → IsWord text → Lacks comma text
comma_free text word = word_lacks comma (λ b is. omega (arith, is.above)) text word

entry_comma_free : (e : Entry) → IsEntry e → Lacks comma (entry_text e)
entry_comma_free e is =
    joined_all (λ b. (b == comma) ≡ false) colon (hex e.at ∷ hex e.pte ∷ []) refl
    (comma_free (hex e.at) (hex_word e.at is.at), (comma_free (hex e.pte) (hex_word e.pte is.pte), tt))

trail_is_something : (e : Entry) (es : List Entry) → IsEntry e → trail_text (e ∷ es) ≡ none_text → ⊥
trail_is_something e [] is none = word_is_something (hex e.at) _ (hex_word e.at is.at) none
trail_is_something e (next ∷ es) is none =
    let behind = comma ∷ joined_by comma (map entry_text (next ∷ es)) in
    word_is_something (hex e.at) ((colon ∷ hex e.pte) ++ behind) (hex_word e.at is.at)
    (sym (append_assoc (hex e.at) (colon ∷ hex e.pte) behind) ∙ none)

pub trail_again : (trail : List Entry) → (length trail ≤ 4) × AllByRecursion IsEntry trail → trail_reading (trail_text trail) ≡ Some trail
trail_again [] is = refl
trail_again (e ∷ es) is =
    let field = trail_text (e ∷ es) in
    let test : bytes_eq field none_text ≡ false =
    false_from_ne_true (bytes_eq field none_text) (λ same. trail_is_something e es is.1.0 ((bytes_eq-Decides field none_text).0 same)) in
    let lack = all_map (Lacks comma) entry_text (e ∷ es) (all_weaken IsEntry (λ e. Lacks comma (entry_text e)) entry_comma_free (e ∷ es) is.1) in
    cond-false (bytes_eq field none_text) (Some []) (at_most 4 entry_reading (field_parts comma field)) test
    ∙ ap (at_most 4 entry_reading) (parts_again comma (map entry_text (e ∷ es)) (omega arith) lack)
    ∙ at_most_again entry_text entry_reading IsEntry entry_again 4 (e ∷ es) is.0 is.1
