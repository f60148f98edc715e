-- What a field tells is in its ranges, and the field is its text.
use Rattle.std.proofs.Common.{◌≡◌, ◌≢◌, ℕ, ◌*◌, ◌<◌, ◌≤◌, ◌^◌, ◌==◌, List, [], ◌∷◌, ◌++◌, length, map, Bool, true, false, not, cond, refl, sym, ap, ◌∙◌, subst, arith, map-id, inl, inr, Option, Some, None, IfSome, option_map}
use Rattle.std.specs.Prelude.{nat_lt, nat_le}
use Rattle.std.specs.Option.{option_map_or}
use Rattle.std.specs.List.{AllByRecursion, find, flat_map, join_with_byte}
use Rattle.std.specs.Str.{bytes_eq}
use Rattle.std.specs.Str.Parse.{digits_value}
use Rattle.std.specs.Fmt.{decimal}
use Rattle.std.proofs.lemmas.Bool.{cases_Bool, false≢true, leb-true, ltb-false, not-true}
use Rattle.std.proofs.lemmas.List.{length-map}
use Rattle.std.proofs.lemmas.List.Splits.{length-slice_split, join_with_byte-slice_split}
use Rattle.std.proofs.lemmas.Slice.Eq.{bytes_eq-Decides}
use Rattle.rv_fields.specs.Attempt.{◌>>=◌}
use Rattle.rv_fields.specs.Name.{is_name, Name}
use Rattle.rv_fields.specs.declared.access.Accessed.{Accessed}
use Rattle.rv_fields.specs.declared.trap.Trap.{Trap}
use Rattle.rv_fields.specs.Effect.{Entry}
use Rattle.rv_fields.specs.declared.mode.Mode.TheVariants.{U}
use Rattle.std.proofs.lemmas.Option.{none-some, same_Some}
use Rattle.trace_fields.specs.declared.request.Kind.{Kind}
use Rattle.trace_fields.specs.declared.request.Cause.{Cause}
use Rattle.trace_fields.specs.Letters.{access_letters, mode_letters, letter_of_kind, letter_of_mode, kind_of_letter, mode_of_letter}
use Rattle.trace_fields.specs.Text.{colon, comma, slash, joined_by, hex, word_text, byte_text, none_text, or_none, kind_text, cause_text, write_text, access_text, entry_text, trail_text, trap_text, letter_text}
use Rattle.trace_fields.specs.Numbers.{spelled_by, decimal_below, word_reading, byte_reading}
use Rattle.trace_fields.specs.Readings.{read_by_text, all_kinds, all_causes, kind_reading, cause_reading, sizes, is_any_of, letter_reading, name_reading, count_reading, number_reading, hex_reading, register_reading, space_reading, field_parts, all_of, at_most, path_reading, pairs_of, bytes_reading, optional, sized, write_by_parts, access_by_parts, entry_by_parts, trap_by_parts, write_reading, access_reading, entry_reading, trap_reading, trail_reading}
use Rattle.trace_fields.specs.Ranges.{IsAnyOf, IsName, IsWrite, IsAccess, IsEntry, IsTrap, IsPath, AreFixedBytes}
use Rattle.trace_fields.proofs.Spelled as spelled
use Rattle.trace_fields.proofs.WordBytes.{access_letter_is, mode_letter_is, any_holds}

-- what the first of two steps tells, and the second of it
record Found {A B : Type 0} (first : Option A) (next : A → Option B) (b : B) : Type 0 where
  value : A
  is : first ≡ Some value
  gives : next value ≡ Some b

found : {A B : Type 0} (first : Option A) (next : A → Option B) (b : B) → (first >>= next) ≡ Some b → Found first next b
found (Some a) next b told = record { value = a; is = refl; gives = told }
found None next b told = absurd (none-some b told)

-- a test that is passed before something is told
passed : {A : Type 0} (test : Bool) (o : Option A) (a : A) → cond test o None ≡ Some a → (test ≡ true) × (o ≡ Some a)
passed true o a told = (refl, told)
passed false o a told = absurd (none-some a told)

-- Numbers.

pub hart_back : (harts : ℕ) (field : List ℕ) (h : ℕ) → decimal_below harts field ≡ Some h → (h < harts) × (decimal h ≡ field)
hart_back harts field h told = spelled.decimal_back harts h field told

pub count_back : (field : List ℕ) (n : ℕ) → count_reading field ≡ Some n → (n < 2 ^ 32) × (decimal n ≡ field)
count_back field n told = spelled.decimal_back (2 ^ 32) n field told

pub hex_back : (field : List ℕ) (n : ℕ) → hex_reading field ≡ Some n → (n < 2 ^ 64) × (hex n ≡ field)
hex_back field n told = spelled.hex_back (2 ^ 64) n field told

pub sized_back : (size : ℕ) (field : List ℕ) (n : ℕ) → sized size field ≡ Some n → (n < 2 ^ (8 * size)) × (hex n ≡ field)
sized_back size field n told = spelled.hex_back (2 ^ (8 * size)) n field told

pub space_back : (field : List ℕ) (n : ℕ) → space_reading field ≡ Some n → (n < 16) × (decimal n ≡ field)
space_back field n told = spelled.decimal_back 16 n field told

pub word_back : (field : List ℕ) (w : ℕ) → word_reading field ≡ Some w → (w < 2 ^ 32) × (word_text w ≡ field)
word_back field w told = spelled.wide_back 8 w field told

pub byte_back : (field : List ℕ) (b : ℕ) → byte_reading field ≡ Some b → (b < 2 ^ 8) × (byte_text b ≡ field)
byte_back field b told = spelled.wide_back 2 b field told

-- the number that a field tells is the one that its digits write
pub value_told : (spelling : ℕ → List ℕ) (base bound : ℕ) (field : List ℕ) (n : ℕ)
    → spelled_by spelling base bound field ≡ Some n → digits_value base field ≡ n
value_told spelling base bound field n told = same_Some _ n (passed _ (Some (digits_value base field)) n told).1

at_least : (low : ℕ) (o : Option ℕ) → option_map_or (λ m. not (nat_lt m low)) o false ≡ true → (m : ℕ) × (o ≡ Some m) × (low ≤ m)
at_least low None test = absurd (false≢true test)
at_least low (Some m) test = (m, refl, ltb-false m low (not-true (nat_lt m low) test))

pub register_back : (field : List ℕ) (r : ℕ) → register_reading field ≡ Some r → ((1 ≤ r) × (r < 32)) × (decimal r ≡ field)
register_back field r told =
    let parts = passed _ (Some (digits_value 10 field)) r told in
    let number = at_least 1 (decimal_below 32 field) parts.0 in
    let same : number.0 ≡ r = sym (value_told decimal 10 32 field number.0 number.1) ∙ same_Some _ r parts.1 in
    let text = spelled.decimal_back 32 number.0 field number.1 in
    subst (λ m. ((1 ≤ m) × (m < 32)) × (decimal m ≡ field)) same ((number.2, text.0), text.1)

pub number_back : (numbers field : List ℕ) (n : ℕ) → number_reading numbers field ≡ Some n → IsAnyOf numbers n × (decimal n ≡ field)
number_back numbers field n told =
    let count = found (count_reading field) _ n told in
    let parts = passed (is_any_of numbers count.value) (Some count.value) n count.gives in
    subst (λ m. IsAnyOf numbers m × (decimal m ≡ field)) (same_Some count.value n parts.1)
    (parts.0, (count_back field count.value count.is).1)

-- Letters and names.

letter_back : (letters field : List ℕ) (l : ℕ) → letter_reading letters field ≡ Some l → IsAnyOf letters l × (l ∷ [] ≡ field)
letter_back letters [] l told = absurd (none-some l told)
letter_back letters (c ∷ []) l told =
    let parts = passed (is_any_of letters c) (Some c) l told in
    let same : c ≡ l = same_Some c l parts.1 in
    (subst (IsAnyOf letters) same parts.0, ap (λ b. b ∷ []) (sym same))
letter_back letters (c ∷ d ∷ rest) l told = absurd (none-some l told)

-- a letter of a kind is that of the kind that it stands for
pub kind_keeps_letter : (field : List ℕ) (l : ℕ) → letter_reading access_letters field ≡ Some l → letter_of_kind (kind_of_letter l) ≡ l
kind_keeps_letter field l told =
    any_holds (λ l. letter_of_kind (kind_of_letter l) ≡ l) access_letters l (refl, (refl, (refl, (refl, (refl, tt)))))
    (letter_back access_letters field l told).0

pub access_letter_back : (field : List ℕ) (l : ℕ) → letter_reading access_letters field ≡ Some l → letter_text (letter_of_kind (kind_of_letter l)) ≡ field
access_letter_back field l told =
    let back = letter_back access_letters field l told in
    ap letter_text (kind_keeps_letter field l told) ∙ access_letter_is l back.0 ∙ back.1

pub mode_keeps_letter : (field : List ℕ) (l : ℕ) → letter_reading mode_letters field ≡ Some l → letter_of_mode (mode_of_letter l) ≡ l
mode_keeps_letter field l told =
    any_holds (λ l. letter_of_mode (mode_of_letter l) ≡ l) mode_letters l (refl, (refl, tt)) (letter_back mode_letters field l told).0

pub mode_letter_back : (field : List ℕ) (l : ℕ) → letter_reading mode_letters field ≡ Some l
    → (mode_of_letter l ≢ U) × (letter_text (letter_of_mode (mode_of_letter l)) ≡ field)
mode_letter_back field l told =
    let back = letter_back mode_letters field l told in (
      any_holds (λ l. mode_of_letter l ≢ U) mode_letters l ((λ u. cc), ((λ u. cc), tt)) back.0,
      ap letter_text (mode_keeps_letter field l told) ∙ mode_letter_is l back.0 ∙ back.1,
    )

pub name_back : (field name : List ℕ) → name_reading field ≡ Some name → IsName name × (name ≡ field)
name_back field name told =
    let parts = passed (is_name field) (Some field) name told in
    let same : field ≡ name = same_Some field name parts.1 in
    (subst IsName same parts.0, sym same)

find_passes : {A : Type 0} (test : A → Bool) (things : List A) (a : A) → find test things ≡ Some a → test a ≡ true
find_passes test [] a is = absurd (none-some a is)
find_passes test (x ∷ xs) a is = elim (cases_Bool (test x)) [
  | inl passes ↦ subst (λ b. test b ≡ true) (same_Some x a (sym (ap (λ b. cond b (Some x) (find test xs)) passes) ∙ is)) passes
  | inr fails ↦ find_passes test xs a (sym (ap (λ b. cond b (Some x) (find test xs)) fails) ∙ is)
]

pub told_back : {A : Type 0} (text : A → List ℕ) (things : List A) (field : List ℕ) (a : A) → read_by_text text things field ≡ Some a → text a ≡ field
told_back text things field a told = (bytes_eq-Decides (text a) field).0 (find_passes (λ b. bytes_eq (text b) field) things a told)

pub kind_back : (field : List ℕ) (k : Kind) → kind_reading field ≡ Some k → Unit {0} × (kind_text k ≡ field)
kind_back field k told = (tt, told_back kind_text all_kinds field k told)

pub cause_back : (field : List ℕ) (c : Cause) → cause_reading field ≡ Some c → Unit {0} × (cause_text c ≡ field)
cause_back field c told = (tt, told_back cause_text all_causes field c told)

-- Things of which the parts of a field tell, and fields that may tell that there is nothing.

module _ {A : Type 0} (text : A → List ℕ) (reading : List ℕ → Option A) (Fits : A → Type 0)
    (back : (field : List ℕ) (a : A) → reading field ≡ Some a → Fits a × (text a ≡ field)) where
  all_back : (parts : List (List ℕ)) (things : List A) → all_of reading parts ≡ Some things → AllByRecursion Fits things × (map text things ≡ parts)
  all_back [] things told =
      subst (λ (ts : List A). AllByRecursion Fits ts × (map text ts ≡ [])) (same_Some [] things told) (tt, refl)
  all_back (part ∷ parts) things told =
      let first = found (reading part) _ things told in
      let others = found (all_of reading parts) _ things first.gives in
      let one = back part first.value first.is in
      let rest = all_back parts others.value others.is in
      subst (λ (ts : List A). AllByRecursion Fits ts × (map text ts ≡ part ∷ parts)) (same_Some (first.value ∷ others.value) things others.gives)
      ((one.0, rest.0), λ i. one.1 i ∷ rest.1 i)

  pub at_most_back : (most : ℕ) (parts : List (List ℕ)) (things : List A) → at_most most reading parts ≡ Some things
      → (length things ≤ most) × AllByRecursion Fits things × (map text things ≡ parts)
  at_most_back most parts things told =
      let test = passed (nat_le (length parts) most) (all_of reading parts) things told in
      let few : length parts ≤ most = leb-true (length parts) most test.0 in
      let all = all_back parts things test.1 in
      let long : length things ≡ length parts = sym (length-map things text) ∙ ap length all.1 in
      (omega arith, all.0, all.1)

  optional_told : (field : List ℕ) (told : Option A) (o : Option A) → reading field ≡ told → option_map Some told ≡ Some o
      → IfSome o Fits × (or_none text o ≡ field)
  optional_told field None o is same = absurd (none-some o same)
  optional_told field (Some a) o is same =
      subst (λ (p : Option A). IfSome p Fits × (or_none text p ≡ field)) (same_Some (Some a) o same) (back field a is)

  pub optional_back : (field : List ℕ) (o : Option A) → optional reading field ≡ Some o → IfSome o Fits × (or_none text o ≡ field)
  optional_back field o told = elim (cases_Bool (bytes_eq field none_text)) [
    | inl nothing ↦
        let same : None ≡ o = same_Some None o (sym (ap (λ b. cond b (Some None) (option_map Some (reading field))) nothing) ∙ told) in
        subst (λ (p : Option A). IfSome p Fits × (or_none text p ≡ field)) same (tt, sym ((bytes_eq-Decides field none_text).0 nothing))
    | inr something ↦
        optional_told field (reading field) o refl (sym (ap (λ b. cond b (Some None) (option_map Some (reading field))) something) ∙ told)
  ]

-- a field that was cut at a byte, joined again
joined : (byte : ℕ) (parts : List (List ℕ)) (field : List ℕ) → parts ≡ field_parts byte field → joined_by byte parts ≡ field
joined byte parts field cut = ap (join_with_byte byte) cut ∙ join_with_byte-slice_split byte field

some_parts : (byte : ℕ) (field : List ℕ) → 1 ≤ length (field_parts byte field)
some_parts byte field = omega (arith, length-slice_split (λ b. b == byte) field)

-- Paths and bytes.

pub path_back : (field : List ℕ) (path : List Name) → path_reading field ≡ Some path → IsPath path × (joined_by slash path ≡ field)
path_back field path told =
    let parts = at_most_back (λ name. name) name_reading IsName name_back 8 (field_parts slash field) path told in
    let same : path ≡ field_parts slash field = sym (map-id path) ∙ parts.2 in
    let some : 1 ≤ length path = subst (λ (ps : List Name). 1 ≤ length ps) (sym same) (some_parts slash field) in
    (record { some = some; short = parts.0; named = parts.1 }, joined slash path field same)

pub pairs_joined : (field : List ℕ) → flat_map (λ pair. pair) (pairs_of field) ≡ field
pairs_joined [] = refl
pairs_joined (a ∷ []) = refl
pairs_joined (a ∷ b ∷ rest) = ap (λ (l : List ℕ). a ∷ b ∷ l) (pairs_joined rest)

pub texts_joined : {A : Type 0} (text : A → List ℕ) (things : List A) → flat_map text things ≡ flat_map (λ part. part) (map text things)
texts_joined text [] = refl
texts_joined text (x ∷ xs) = ap (λ (l : List ℕ). text x ++ l) (texts_joined text xs)

some_pairs : (b : ℕ) (bs : List ℕ) → 1 ≤ length (pairs_of (b ∷ bs))
some_pairs b [] = omega arith
some_pairs b (c ∷ cs) = omega arith

pub bytes_back : (field bytes : List ℕ) → bytes_reading field ≡ Some bytes → AreFixedBytes bytes × (flat_map byte_text bytes ≡ field)
bytes_back [] bytes told = absurd (none-some bytes told)
bytes_back (c ∷ cs) bytes told =
    let pairs = at_most_back byte_text byte_reading (λ b. b < 2 ^ 8) byte_back 8 (pairs_of (c ∷ cs)) bytes told in
    let long : length bytes ≡ length (pairs_of (c ∷ cs)) = sym (length-map bytes byte_text) ∙ ap length pairs.2 in
    let some : 1 ≤ length bytes = omega (arith, some_pairs c cs) in (
      record { some = some; short = pairs.0; small = pairs.1 },
      texts_joined byte_text bytes ∙ ap (flat_map (λ pair. pair)) pairs.2 ∙ pairs_joined (c ∷ cs),
    )

-- Fields of parts.

write_in_back : (parts : List (List ℕ)) (w : ℕ × ℕ) → write_by_parts parts ≡ Some w → IsWrite w × (decimal w.0 ∷ hex w.1 ∷ [] ≡ parts)
write_in_back [] w told = absurd (none-some w told)
write_in_back (register ∷ []) w told = absurd (none-some w told)
write_in_back (register ∷ value ∷ []) w told =
    let r = found (register_reading register) _ w told in
    let v = found (hex_reading value) _ w r.gives in
    let one = register_back register r.value r.is in
    let two = hex_back value v.value v.is in
    subst (λ (w : ℕ × ℕ). IsWrite w × (decimal w.0 ∷ hex w.1 ∷ [] ≡ register ∷ value ∷ [])) (same_Some (r.value, v.value) w v.gives)
    (record { some = one.0.0; register = one.0.1; value = two.0 }, λ i. one.1 i ∷ two.1 i ∷ [])
write_in_back (register ∷ value ∷ more ∷ rest) w told = absurd (none-some w told)

pub write_back : (field : List ℕ) (w : ℕ × ℕ) → write_reading field ≡ Some w → IsWrite w × (write_text w ≡ field)
write_back field w told =
    let parts = write_in_back (field_parts colon field) w told in
    (parts.0, joined colon (decimal w.0 ∷ hex w.1 ∷ []) field parts.1)

entry_in_back : (parts : List (List ℕ)) (e : Entry) → entry_by_parts parts ≡ Some e → IsEntry e × (hex e.at ∷ hex e.pte ∷ [] ≡ parts)
entry_in_back [] e told = absurd (none-some e told)
entry_in_back (at ∷ []) e told = absurd (none-some e told)
entry_in_back (at ∷ pte ∷ []) e told =
    let a = found (hex_reading at) _ e told in
    let p = found (hex_reading pte) _ e a.gives in
    let one = hex_back at a.value a.is in
    let two = hex_back pte p.value p.is in
    subst (λ (e : Entry). IsEntry e × (hex e.at ∷ hex e.pte ∷ [] ≡ at ∷ pte ∷ [])) (same_Some (record { at = a.value; pte = p.value }) e p.gives)
    (record { at = one.0; pte = two.0 }, λ i. one.1 i ∷ two.1 i ∷ [])
entry_in_back (at ∷ pte ∷ more ∷ rest) e told = absurd (none-some e told)

pub entry_back : (field : List ℕ) (e : Entry) → entry_reading field ≡ Some e → IsEntry e × (entry_text e ≡ field)
entry_back field e told =
    let parts = entry_in_back (field_parts colon field) e told in
    (parts.0, joined colon (hex e.at ∷ hex e.pte ∷ []) field parts.1)

-- the parts of a trap
abbrev pub trap_parts : Trap → List (List ℕ)
trap_parts t = decimal t.cause ∷ hex t.epc ∷ hex t.tval ∷ letter_text (letter_of_mode t.to) ∷ []

trap_in_back : (parts : List (List ℕ)) (t : Trap) → trap_by_parts parts ≡ Some t → IsTrap t × (trap_parts t ≡ parts)
trap_in_back [] t told = absurd (none-some t told)
trap_in_back (cause ∷ []) t told = absurd (none-some t told)
trap_in_back (cause ∷ epc ∷ []) t told = absurd (none-some t told)
trap_in_back (cause ∷ epc ∷ tval ∷ []) t told = absurd (none-some t told)
trap_in_back (cause ∷ epc ∷ tval ∷ mode ∷ []) t told =
    let c = found (decimal_below 16 cause) _ t told in
    let e = found (hex_reading epc) _ t c.gives in
    let v = found (hex_reading tval) _ t e.gives in
    let m = found (letter_reading mode_letters mode) _ t v.gives in
    let trap : Trap = record { cause = c.value; epc = e.value; tval = v.value; to = mode_of_letter m.value } in
    let one = space_back cause c.value c.is in
    let two = hex_back epc e.value e.is in
    let three = hex_back tval v.value v.is in
    let four = mode_letter_back mode m.value m.is in
    subst (λ (t : Trap). IsTrap t × (trap_parts t ≡ cause ∷ epc ∷ tval ∷ mode ∷ []))
    {x = trap} (same_Some trap t m.gives)
    (record { cause = one.0; epc = two.0; tval = three.0; to = four.0 }, λ i. one.1 i ∷ two.1 i ∷ three.1 i ∷ four.1 i ∷ [])
trap_in_back (cause ∷ epc ∷ tval ∷ mode ∷ more ∷ rest) t told = absurd (none-some t told)

pub trap_back : (field : List ℕ) (t : Trap) → trap_reading field ≡ Some t → IsTrap t × (trap_text t ≡ field)
trap_back field t told =
    let parts = trap_in_back (field_parts colon field) t told in
    (parts.0, joined colon (trap_parts t) field parts.1)

-- the parts of an access
abbrev pub access_parts : Accessed → List (List ℕ)
access_parts a = letter_text (letter_of_kind a.kind) ∷ hex a.va ∷ hex a.pa ∷ decimal a.size ∷ or_none hex a.read ∷ or_none hex a.wrote ∷ []

access_six_back : (kind va pa size read wrote : List ℕ) (a : Accessed) → access_by_parts (kind ∷ va ∷ pa ∷ size ∷ read ∷ wrote ∷ []) ≡ Some a
    → IsAccess a × (access_parts a ≡ kind ∷ va ∷ pa ∷ size ∷ read ∷ wrote ∷ [])
access_six_back kind va pa size read wrote a told =
    let k = found (letter_reading access_letters kind) _ a told in
    let v = found (hex_reading va) _ a k.gives in
    let p = found (hex_reading pa) _ a v.gives in
    let s = found (number_reading sizes size) _ a p.gives in
    let r = found (optional (sized s.value) read) _ a s.gives in
    let w = found (optional (sized s.value) wrote) _ a r.gives in
    let access : Accessed = record { kind = kind_of_letter k.value; va = v.value; pa = p.value; size = s.value; read = r.value; wrote = w.value } in
    let one = access_letter_back kind k.value k.is in
    let two = hex_back va v.value v.is in
    let three = hex_back pa p.value p.is in
    let four = number_back sizes size s.value s.is in
    let five = optional_back hex (sized s.value) (λ n. n < 2 ^ (8 * s.value)) (sized_back s.value) read r.value r.is in
    let six = optional_back hex (sized s.value) (λ n. n < 2 ^ (8 * s.value)) (sized_back s.value) wrote w.value w.is in
    subst (λ (a : Accessed). IsAccess a × (access_parts a ≡ kind ∷ va ∷ pa ∷ size ∷ read ∷ wrote ∷ []))
    {x = access} (same_Some access a w.gives) (
      record { va = two.0; pa = three.0; size = four.0; read = five.0; wrote = six.0 },
      λ i. one i ∷ two.1 i ∷ three.1 i ∷ four.1 i ∷ five.1 i ∷ six.1 i ∷ [],
    )

access_in_back : (parts : List (List ℕ)) (a : Accessed) → access_by_parts parts ≡ Some a → IsAccess a × (access_parts a ≡ parts)
access_in_back [] x told = absurd (none-some x told)
access_in_back (a ∷ []) x told = absurd (none-some x told)
access_in_back (a ∷ b ∷ []) x told = absurd (none-some x told)
access_in_back (a ∷ b ∷ c ∷ []) x told = absurd (none-some x told)
access_in_back (a ∷ b ∷ c ∷ d ∷ []) x told = absurd (none-some x told)
access_in_back (a ∷ b ∷ c ∷ d ∷ e ∷ []) x told = absurd (none-some x told)
access_in_back (a ∷ b ∷ c ∷ d ∷ e ∷ f ∷ []) x told = access_six_back a b c d e f x told
access_in_back (a ∷ b ∷ c ∷ d ∷ e ∷ f ∷ g ∷ rest) x told = absurd (none-some x told)

pub access_back : (field : List ℕ) (a : Accessed) → access_reading field ≡ Some a → IsAccess a × (access_text a ≡ field)
access_back field a told =
    let parts = access_in_back (field_parts colon field) a told in
    (parts.0, joined colon (access_parts a) field parts.1)

-- Trails.

abbrev IsTrailOf : List ℕ → List Entry → Type 0
IsTrailOf field trail = ((length trail ≤ 4) × AllByRecursion IsEntry trail) × (trail_text trail ≡ field)

some_trail : (field : List ℕ) (trail : List Entry) → length trail ≤ 4 → AllByRecursion IsEntry trail → map entry_text trail ≡ field_parts comma field
    → IsTrailOf field trail
some_trail field [] short all cut = absurd (omega (arith, some_parts comma field, ap length cut))
some_trail field (e ∷ es) short all cut = ((short, all), joined comma (map entry_text (e ∷ es)) field cut)

pub trail_back : (field : List ℕ) (trail : List Entry) → trail_reading field ≡ Some trail → IsTrailOf field trail
trail_back field trail told = elim (cases_Bool (bytes_eq field none_text)) [
  | inl nothing ↦
      let same : [] ≡ trail = same_Some [] trail (sym (ap (λ b. cond b (Some []) (at_most 4 entry_reading (field_parts comma field))) nothing) ∙ told) in
      subst (IsTrailOf field) same ((omega arith, tt), sym ((bytes_eq-Decides field none_text).0 nothing))
  | inr something ↦
      let entries = at_most_back entry_text entry_reading IsEntry entry_back 4 (field_parts comma field) trail
      (sym (ap (λ b. cond b (Some []) (at_most 4 entry_reading (field_parts comma field))) something) ∙ told) in
      some_trail field trail entries.0 entries.1 entries.2
]

-- What may be nothing in a step line.

pub optional_write_back : (field : List ℕ) (o : Option (ℕ × ℕ)) → optional write_reading field ≡ Some o → IfSome o IsWrite × (or_none write_text o ≡ field)
optional_write_back field o told = optional_back write_text write_reading IsWrite write_back field o told

pub optional_access_back : (field : List ℕ) (o : Option Accessed) → optional access_reading field ≡ Some o → IfSome o IsAccess × (or_none access_text o ≡ field)
optional_access_back field o told = optional_back access_text access_reading IsAccess access_back field o told

pub optional_trap_back : (field : List ℕ) (o : Option Trap) → optional trap_reading field ≡ Some o → IfSome o IsTrap × (or_none trap_text o ≡ field)
optional_trap_back field o told = optional_back trap_text trap_reading IsTrap trap_back field o told
