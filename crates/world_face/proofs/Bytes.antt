-- Bytes that are fixed when they are read first: they stand in memory already.
use Rattle.std.proofs.Common.{ℕ, ◌+◌, ◌*◌, ◌/◌, ◌%◌, ◌^◌, ◌<◌, ◌≤◌, ◌≡◌, Bool, true, false, cond, eqb, eqb-true, List, [], ◌∷◌, Option, Some, None, refl, sym, ap, subst, ◌∙◌, arith, map, length, filter}
use Rattle.std.specs.Prelude.{suc, zero, is_none, is_some, unwrap_or, ◌&&◌}
use Rattle.std.specs.List.{AllByRecursion, range_with_len, list_all}
use Rattle.std.specs.Option.{option_or}
use Rattle.std.proofs.Math.Nat.{pow-succ', div-div-eq-div-mul}
use Rattle.std.proofs.lemmas.Bool.{and_parts}
use Rattle.rv_fields.specs.Hart.{updated}
use Rattle.rv_fields.specs.Memory.{number_of}
use Rattle.trace_fields.proofs.Joins.{all_weaken}
use Rattle.world_face.specs.Shards.{joined, present, run_span, spans, with_run, with_runs}
use Rattle.world_face.specs.Told.{Run}

-- ---- the addresses of runs

abbrev pub EachOf : (ℕ → Type 0) → ℕ → ℕ → Type 0
EachOf P at zero = Unit {0}
EachOf P at (suc n) = P at × EachOf P (at + 1) n

abbrev pub EachSpan : (ℕ → Type 0) → List (ℕ × ℕ) → Type 0
EachSpan P [] = Unit {0}
EachSpan P (s ∷ ss) = EachOf P s.0 s.1 × EachSpan P ss

each_joined : (P : ℕ → Type 0) (a : ℕ) (ss : List (ℕ × ℕ)) → P a → EachSpan P ss → EachSpan P (joined a ss)
each_joined P a [] p each = ((p, tt), tt)
each_joined P a (s ∷ ss) p each = of (eqb s.0 (a + 1)) refl
  where
    of : (b : Bool) → b ≡ eqb s.0 (a + 1) → EachSpan P (cond b ((a, s.1 + 1) ∷ ss) ((a, 1) ∷ s ∷ ss))
    of true e =
        let same : s.0 ≡ a + 1 = eqb-true s.0 (a + 1) (sym e) in
        let more : suc s.1 ≡ s.1 + 1 = omega arith in
        (subst (λ n. EachOf P a n) more (p, subst (λ q. EachOf P q s.1) same each.0), each.1)
    of false e = ((p, tt), each)

pub each_span : (P : ℕ → Type 0) (addresses : List ℕ) → AllByRecursion P addresses → EachSpan P (spans addresses)
each_span P [] each = tt
each_span P (a ∷ rest) each = each_joined P a (spans rest) each.0 (each_span P rest each.1)

-- untouched ones have no value, and lie within
abbrev pub Untouched : (ℕ → Option ℕ) → ℕ → ℕ → ℕ → Type 0
Untouched bytes at size a = (bytes a ≡ None) × (at ≤ a) × (a < at + size)

pub each_untouched : (bytes : ℕ → Option ℕ) (at size : ℕ) → AllByRecursion (Untouched bytes at size) (filter (λ a. is_none (bytes a)) (range_with_len at size))
each_untouched bytes at zero = tt
each_untouched bytes at (suc size) =
    of (bytes at) refl (all_weaken (Untouched bytes (at + 1) size) (Untouched bytes at (suc size))
    (λ a u. (u.0, omega (arith, u.1), omega (arith, u.2))) _ (each_untouched bytes (at + 1) size))
  where
    of : (b : Option ℕ) → b ≡ bytes at → AllByRecursion (Untouched bytes at (suc size)) (filter (λ a. is_none (bytes a)) (range_with_len (at + 1) size))
        → AllByRecursion (Untouched bytes at (suc size)) (cond (is_none b) (at ∷ filter (λ a. is_none (bytes a)) (range_with_len (at + 1) size)) (filter (λ a. is_none (bytes a)) (range_with_len (at + 1) size)))
    of None e rest = ((sym e, omega arith, omega arith), rest)
    of (Some b) e rest = rest

-- ---- what stands

abbrev pub BytesStand : (ℕ → Option ℕ) → ℕ → List ℕ → Type 0
BytesStand byte at [] = Unit {0}
BytesStand byte at (b ∷ bs) = (byte at ≡ Some b) × BytesStand byte (at + 1) bs

-- each byte of the runs stands
abbrev pub RunsStand : (ℕ → Option ℕ) → List Run → Type 0
RunsStand f [] = Unit {0}
RunsStand f (r ∷ rs) = BytesStand f r.at r.bytes × RunsStand f rs

-- where two memories have the same at each address of the run, it stands in the one as in the other
bytes_moved : (f g : ℕ → Option ℕ) (at : ℕ) (bs : List ℕ) → EachOf (λ a. g a ≡ f a) at (length bs)
    → BytesStand f at bs → BytesStand g at bs
bytes_moved f g at [] same stand = tt
bytes_moved f g at (b ∷ bs) same stand = (same.0 ∙ stand.0, bytes_moved f g (at + 1) bs same.1 stand.1)

pub runs_moved : (f g : ℕ → Option ℕ) (rs : List Run) → EachSpan (λ a. g a ≡ f a) (map run_span rs) → RunsStand f rs → RunsStand g rs
runs_moved f g [] same stand = tt
runs_moved f g (r ∷ rs) same stand = (bytes_moved f g r.at r.bytes same.0 stand.0, runs_moved f g rs same.1 stand.1)

-- A shard's bytes lie over a memory f, on which first was: they still do with runs that stand there.
abbrev pub Lies : (ℕ → Type 0) → (ℕ → Option ℕ) → (ℕ → Option ℕ) → (ℕ → Option ℕ) → Type 0
Lies Here first bytes f = (a : ℕ) → Here a → option_or (bytes a) (first a) ≡ f a

lies_run : (Here : ℕ → Type 0) (first f : ℕ → Option ℕ) (at : ℕ) (bs : List ℕ) (bytes : ℕ → Option ℕ) → BytesStand f at bs
    → Lies Here first bytes f → Lies Here first (with_run bytes at bs) f
lies_run Here first f at [] bytes stand lies = lies
lies_run Here first f at (b ∷ bs) bytes stand lies = lies_run Here first f (at + 1) bs (updated bytes at (Some b)) stand.1 (λ a here. of (eqb a at) refl (lies a here))
  where
    of : {a : ℕ} (t : Bool) → t ≡ eqb a at → option_or (bytes a) (first a) ≡ f a → option_or (cond t (Some b) (bytes a)) (first a) ≡ f a
    of {a} true e l = let same : a ≡ at = eqb-true a at (sym e) in sym (ap f same ∙ stand.0)
    of false e l = l

pub lies_runs : (Here : ℕ → Type 0) (first f : ℕ → Option ℕ) (rs : List Run) (bytes : ℕ → Option ℕ) → RunsStand f rs
    → Lies Here first bytes f → Lies Here first (with_runs bytes rs) f
lies_runs Here first f [] bytes stand lies = lies
lies_runs Here first f (r ∷ rs) bytes stand lies = lies_runs Here first f rs (with_run bytes r.at r.bytes) stand.1 (lies_run Here first f r.at r.bytes bytes stand.0 lies)

-- ---- the number that is read

-- each of these bytes is the number's
abbrev pub Spelt : (ℕ → Option ℕ) → ℕ → ℕ → ℕ → Type 0
Spelt bytes at size value = (j : ℕ) → j < size → bytes (at + j) ≡ Some (value / 256 ^ j % 256)

byte_first : (b n : ℕ) → b < 256 → (b + 256 * n) / 256 ^ 0 % 256 ≡ b
byte_first b n small = omega (arith, small)

byte_next : (b n j : ℕ) → b < 256 → (b + 256 * n) / 256 ^ suc j % 256 ≡ n / 256 ^ j % 256
byte_next b n j small =
    let whole : (b + 256 * n) / 256 ≡ n = omega (arith, small) in
    ap (λ q. (b + 256 * n) / q % 256) (pow-succ' 256 j) ∙ ap (λ q. q % 256) (sym (div-div-eq-div-mul (b + 256 * n) 256 (256 ^ j))) ∙ ap (λ q. q / 256 ^ j % 256) whole

abbrev pub number_at : (ℕ → Option ℕ) → ℕ → ℕ → ℕ
number_at bytes at size = number_of (map (λ a. unwrap_or (bytes a) 0) (range_with_len at size))

abbrev pub all_told : (ℕ → Option ℕ) → ℕ → ℕ → Bool
all_told bytes at size = list_all (λ a. is_some (bytes a)) (range_with_len at size)

spelt_by : (bytes : ℕ → Option ℕ) (at size : ℕ) → ((a b : ℕ) → at ≤ a → a < at + size → bytes a ≡ Some b → b < 256) → all_told bytes at size ≡ true → (j : ℕ) → j < size → bytes (at + j) ≡ Some (number_at bytes at size / 256 ^ j % 256)
spelt_by bytes at zero small is j below = absurd (omega (arith, below))
spelt_by bytes at (suc size) small is j below =
    let first = and_parts (is_some (bytes at)) (all_told bytes (at + 1) size) is in
    of (bytes at) refl first.0 j below (spelt_by bytes (at + 1) size (λ a b low high. small a b (omega (arith, low)) (omega (arith, high))) first.1)
  where
    of : (m : Option ℕ) → m ≡ bytes at → is_some m ≡ true → (j : ℕ) → j < suc size → Spelt bytes (at + 1) size (number_at bytes (at + 1) size)
        → bytes (at + j) ≡ Some ((unwrap_or m 0 + 256 * number_at bytes (at + 1) size) / 256 ^ j % 256)
    of None e some j below more = absurd cc
    of (Some b) e some zero below more =
        let here : at + 0 ≡ at = omega arith in
        ap bytes here ∙ sym e ∙ ap Some (sym (byte_first b (number_at bytes (at + 1) size) (small at b (omega arith) (omega arith) (sym e))))
    of (Some b) e some (suc j) below more =
        let here : at + suc j ≡ at + 1 + j = omega arith in
        ap bytes here ∙ more j (omega (arith, below)) ∙ ap Some (sym (byte_next b (number_at bytes (at + 1) size) j (small at b (omega arith) (omega arith) (sym e))))

pub spelt : (bytes : ℕ → Option ℕ) (at size value : ℕ) → ((a b : ℕ) → at ≤ a → a < at + size → bytes a ≡ Some b → b < 256) → present bytes at size ≡ Some value → Spelt bytes at size value
spelt bytes at size value small is = of (all_told bytes at size) refl is
  where
    of : (t : Bool) → t ≡ all_told bytes at size → cond t (Some (number_at bytes at size)) None ≡ Some value → Spelt bytes at size value
    of true e is = let same : number_at bytes at size ≡ value = cc in subst (Spelt bytes at size) same (spelt_by bytes at size small (sym e))
    of false e is = absurd cc
