-- The machine's memory and links beside the shards, at one event.
use Rattle.std.proofs.Common.{ℕ, ◌+◌, ◌-◌, ◌*◌, ◌/◌, ◌%◌, ◌^◌, ◌<◌, ◌≤◌, ◌≡◌, Bool, true, false, cond, eqb, ltb, leb, eqb-true, eq-eqb, List, [], Option, Some, None, refl, sym, ap, subst, ◌∙◌, arith, map}
use Rattle.std.specs.Prelude.{◌&&◌}
use Rattle.std.specs.Option.{option_or, option_map_or}
use Rattle.std.proofs.lemmas.Bool.Decides.{nat_tests}
use Rattle.rv_fields.specs.Hart.{updated}
use Rattle.rv_fields.specs.Memory.{Bytes, Links, bytes_after, linked, unlinked, Seen, after_access, granule, links_after, stored}
use Rattle.rv_fields.specs.declared.access.AccessKind.TheVariants.{Amo, Load, Lr, Sc, Store}
use Rattle.rv_fields.specs.declared.access.AccessKind.{AccessKind}
use Rattle.rv_fields.specs.declared.access.Accessed.{Accessed}
use Rattle.boot_words.specs.Layout.{data_start, shard_of}
use Rattle.trace_fields.proofs.Joins.{all_weaken}
use Rattle.world_face.specs.Shards.{ShardState, after_told, present, reads, run_span, spans, untouched_in, with_runs}
use Rattle.world_face.specs.Told.{Run}
use Rattle.world_face.proofs.Bytes.{EachSpan, Lies, RunsStand, Untouched, each_span, each_untouched, lies_runs, runs_moved, spelt}

pub record Shared (first now : Seen) (shards : ℕ → ShardState) : Type 0 where
  pub low : (a : ℕ) → a < data_start → now.byte a ≡ first.byte a
  pub high : (a : ℕ) → data_start ≤ a → option_or ((shards (shard_of a)).bytes a) (first.byte a) ≡ now.byte a
  pub links : (h g : ℕ) → (shards (shard_of (g * 64))).links h g ≡ now.link h g
  pub small : (a : ℕ) → (b : ℕ) × (now.byte a ≡ Some b) × (b < 256)

-- the data of a shard
abbrev pub Here : ℕ → ℕ → Type 0
Here q a = (data_start ≤ a) × (shard_of a ≡ q)

-- of a page of data all bytes are of one shard
one_shard : (pa size a : ℕ) → data_start ≤ pa → pa % 4096 + size ≤ 4096 → pa ≤ a → a < pa + size → Here (shard_of pa) a
one_shard pa size a low short above below =
    let page : (a - data_start) / 4096 ≡ (pa - data_start) / 4096 = omega (arith, low, short, above, below) in
    (omega (arith, low, above), ap (λ n. n % 32) page)

-- the number that an access reads is spelt in memory
abbrev pub ReadStands : (ℕ → Option ℕ) → Option Accessed → Type 0
ReadStands f None = Unit {0}
ReadStands f (Some a) = (value : ℕ) → a.read ≡ Some value → (j : ℕ) → j < a.size → f (a.pa + j) ≡ Some (value / 256 ^ j % 256)

-- an access lies in one page of data
pub record Within (a : Accessed) : Type 0 where
  pub low : data_start ≤ a.pa
  pub short : a.pa % 4096 + a.size ≤ 4096

-- the runs that are fixed stand already
pub stand_now : (first now : Seen) (shards : ℕ → ShardState) (a : Accessed) (told : List Run) → Shared first now shards → Within a
    → map run_span told ≡ cond (reads a.kind) (spans (untouched_in (shards (shard_of a.pa)) a.pa a.size)) [] → RunsStand first.byte told → RunsStand now.byte told
stand_now first now shards a told over lies spans_are stand =
    runs_moved first.byte now.byte told (subst (EachSpan (λ b. now.byte b ≡ first.byte b)) (sym spans_are) (of (reads a.kind))) stand
  where
    same : (b : ℕ) → Untouched (shards (shard_of a.pa)).bytes a.pa a.size b → now.byte b ≡ first.byte b
    same b u =
        let here : Here (shard_of a.pa) b = one_shard a.pa a.size b lies.low lies.short u.1 u.2 in
        let none : (shards (shard_of b)).bytes b ≡ None = ap (λ q. (shards q).bytes b) here.1 ∙ u.0 in
        sym (over.high b here.0) ∙ ap (λ m. option_or m (first.byte b)) none

    of : (t : Bool) → EachSpan (λ b. now.byte b ≡ first.byte b) (cond t (spans (untouched_in (shards (shard_of a.pa)) a.pa a.size)) [])
    of true = each_span (λ b. now.byte b ≡ first.byte b) _ (all_weaken _ (λ b. now.byte b ≡ first.byte b) same _ (each_untouched (shards (shard_of a.pa)).bytes a.pa a.size))
    of false = tt

-- with them the shard lies over memory
pub lie_now : (first now : Seen) (shards : ℕ → ShardState) (q : ℕ) (told : List Run) → Shared first now shards → RunsStand now.byte told
    → Lies (Here q) first.byte (with_runs (shards q).bytes told) now.byte
lie_now first now shards q told over stand =
    lies_runs (Here q) first.byte now.byte told (shards q).bytes stand (λ a here. ap (λ n. option_or ((shards n).bytes a) (first.byte a)) (sym here.1) ∙ over.high a here.0)

-- what is read is spelt
pub read_now : (first now : Seen) (shards : ℕ → ShardState) (a : Accessed) (told : List Run) → Shared first now shards → Within a
    → Lies (Here (shard_of a.pa)) first.byte (with_runs (shards (shard_of a.pa)).bytes told) now.byte
    → a.read ≡ cond (reads a.kind) (present (with_runs (shards (shard_of a.pa)).bytes told) a.pa a.size) None → ReadStands now.byte (Some a)
read_now first now shards a told over lies lie read_is value is j below =
    stands (spelt bytes a.pa a.size value (λ b c low high e. under b c (lie b (one_shard a.pa a.size b lies.low lies.short low high)) e) (of (reads a.kind) (sym read_is ∙ is)) j below)
  where
    bytes : ℕ → Option ℕ
    bytes = with_runs (shards (shard_of a.pa)).bytes told

    of : (t : Bool) → cond t (present bytes a.pa a.size) None ≡ Some value → present bytes a.pa a.size ≡ Some value
    of true e = e
    of false e = absurd cc

    under : (b c : ℕ) → option_or (bytes b) (first.byte b) ≡ now.byte b → bytes b ≡ Some c → c < 256
    under b c l e =
        let whole = over.small b in
        let same : c ≡ whole.0 = let both : Some c ≡ Some whole.0 = sym (ap (λ m. option_or m (first.byte b)) e) ∙ l ∙ whole.1 in cc in
        subst (λ n. n < 256) (sym same) whole.2

    stands : bytes (a.pa + j) ≡ Some (value / 256 ^ j % 256) → now.byte (a.pa + j) ≡ Some (value / 256 ^ j % 256)
    stands e = sym (lie (a.pa + j) (one_shard a.pa a.size (a.pa + j) lies.low lies.short (omega arith) (omega (arith, below)))) ∙ ap (λ m. option_or m (first.byte (a.pa + j))) e

-- ---- behind the access

-- memory after the same write as a shard's bytes, byte by byte
wrote_over : (a : Accessed) (f g first : Bytes) (b : ℕ) → option_or (f b) (first b) ≡ g b
    → option_or (option_map_or (λ (value : ℕ). stored f a.pa a.size value) a.wrote f b) (first b) ≡ bytes_after a a.wrote g b
wrote_over a f g first b e = of a.wrote (leb a.pa b && ltb b (a.pa + a.size)) refl
  where
    of : (w : Option ℕ) (t : Bool) → t ≡ (leb a.pa b && ltb b (a.pa + a.size))
        → option_or (option_map_or (λ (value : ℕ). stored f a.pa a.size value) w f b) (first b) ≡ bytes_after a w g b
    of None t is = e
    of (Some v) true is = rw (sym is) refl
    of (Some v) false is = rw (sym is) e

wrote_beside : (a : Accessed) (g : Bytes) (b : ℕ) → (leb a.pa b && ltb b (a.pa + a.size)) ≡ false → bytes_after a a.wrote g b ≡ g b
wrote_beside a g b e = of a.wrote
  where
    of : (w : Option ℕ) → bytes_after a w g b ≡ g b
    of None = refl
    of (Some v) = rw e refl

wrote_small : (a : Accessed) (g : Bytes) (b : ℕ) → (c : ℕ) × (g b ≡ Some c) × (c < 256) → (c : ℕ) × (bytes_after a a.wrote g b ≡ Some c) × (c < 256)
wrote_small a g b had = of a.wrote (leb a.pa b && ltb b (a.pa + a.size)) refl
  where
    of : (w : Option ℕ) (t : Bool) → t ≡ (leb a.pa b && ltb b (a.pa + a.size)) → (c : ℕ) × (bytes_after a w g b ≡ Some c) × (c < 256)
    of None t is = had
    of (Some v) true is = (v / 256 ^ (b - a.pa) % 256, rw (sym is) refl, omega arith)
    of (Some v) false is = (had.0, rw (sym is) had.1, had.2)

linked_same : (f g : Links) (hart place h k : ℕ) → f h k ≡ g h k → linked hart place f h k ≡ linked hart place g h k
linked_same f g hart place h k e = ap (cond (eqb k place && eqb h hart) (Some true)) e

unlinked_same : (f g : Links) (hart place h k : ℕ) → f h k ≡ g h k → unlinked hart place f h k ≡ unlinked hart place g h k
unlinked_same f g hart place h k e = ap (λ m. cond (eqb k place) (cond (eqb h hart) m (Some false)) m) e

links_same : (kind : AccessKind) (f g : Links) (hart place h k : ℕ) → f h k ≡ g h k → links_after kind hart place f h k ≡ links_after kind hart place g h k
links_same Load f g hart place h k e = e
links_same Lr f g hart place h k e = linked_same f g hart place h k e
links_same Store f g hart place h k e = unlinked_same f g hart place h k e
links_same Sc f g hart place h k e = unlinked_same f g hart place h k e
links_same Amo f g hart place h k e = unlinked_same f g hart place h k e

links_beside : (kind : AccessKind) (f : Links) (hart place h k : ℕ) → eqb k place ≡ false → links_after kind hart place f h k ≡ f h k
links_beside Load f hart place h k e = refl
links_beside Lr f hart place h k e = rw e refl
links_beside Store f hart place h k e = rw e refl
links_beside Sc f hart place h k e = rw e refl
links_beside Amo f hart place h k e = rw e refl

pub shared_after : (first now : Seen) (shards : ℕ → ShardState) (hart : ℕ) (a : Accessed) (told : List Run) → Shared first now shards → Within a
    → Lies (Here (shard_of a.pa)) first.byte (with_runs (shards (shard_of a.pa)).bytes told) now.byte
    → Shared first (after_access hart (Some a) now)
    (updated shards (shard_of a.pa) (after_told hart (Some a) (record (shards (shard_of a.pa)) { bytes = with_runs (shards (shard_of a.pa)).bytes told })))
shared_after first now shards hart a told over lies lie = record {
  low = λ b small. wrote_beside a now.byte b (not_in b (omega (arith, small, lies.low))) ∙ over.low b small;
  high = λ b above. high b above (eqb (shard_of b) (shard_of a.pa)) refl;
  links = λ h g. links h g (eqb (shard_of (g * 64)) (shard_of a.pa)) refl;
  small = λ b. wrote_small a now.byte b (over.small b);
}
  where
    q : ℕ
    q = shard_of a.pa

    new : ShardState
    new = after_told hart (Some a) (record (shards (shard_of a.pa)) { bytes = with_runs (shards (shard_of a.pa)).bytes told })

    not_in : (b : ℕ) → b < a.pa → (leb a.pa b && ltb b (a.pa + a.size)) ≡ false
    not_in b small = grind (arith, nat_tests)

    other : (b : ℕ) → data_start ≤ b → eqb (shard_of b) (shard_of a.pa) ≡ false → (t : Bool) → t ≡ (leb a.pa b && ltb b (a.pa + a.size)) → t ≡ false
    other b above e true is =
        let low : a.pa ≤ b = grind (arith, nat_tests) in
        let high : b < a.pa + a.size = grind (arith, nat_tests) in
        let same : shard_of b ≡ shard_of a.pa = (one_shard a.pa a.size b lies.low lies.short low high).1 in
        absurd (let yes : eqb (shard_of b) (shard_of a.pa) ≡ true = eq-eqb (shard_of b) (shard_of a.pa) same in cc)
    other b above e false is = refl

    high : (b : ℕ) → data_start ≤ b → (t : Bool) → t ≡ eqb (shard_of b) (shard_of a.pa)
        → option_or ((cond t new (shards (shard_of b))).bytes b) (first.byte b) ≡ bytes_after a a.wrote now.byte b
    high b above true e = wrote_over a (with_runs (shards (shard_of a.pa)).bytes told) now.byte first.byte b (lie b (above, eqb-true (shard_of b) (shard_of a.pa) (sym e)))
    high b above false e = over.high b above ∙ sym (wrote_beside a now.byte b (other b above (sym e) _ refl))

    links : (h g : ℕ) → (t : Bool) → t ≡ eqb (shard_of (g * 64)) (shard_of a.pa) → (cond t new (shards (shard_of (g * 64)))).links h g ≡ links_after a.kind hart (granule a.pa) now.link h g
    links h g true e =
        let same : shard_of (g * 64) ≡ shard_of a.pa = eqb-true (shard_of (g * 64)) (shard_of a.pa) (sym e) in
        links_same a.kind (shards (shard_of a.pa)).links now.link hart (granule a.pa) h g (ap (λ n. (shards n).links h g) (sym same) ∙ over.links h g)
    links h g false e = over.links h g ∙ sym (links_beside a.kind now.link hart (granule a.pa) h g (apart (eqb g (granule a.pa)) refl))
      where
        apart : (u : Bool) → u ≡ eqb g (granule a.pa) → u ≡ false
        apart true is =
            let same : g ≡ a.pa / 64 = eqb-true g (granule a.pa) (sym is) in
            let page : (g * 64 - data_start) / 4096 ≡ (a.pa - data_start) / 4096 = omega (arith, same, lies.low) in
            absurd (let yes : eqb (shard_of (g * 64)) (shard_of a.pa) ≡ true = eq-eqb (shard_of (g * 64)) (shard_of a.pa) (ap (λ n. n % 32) page) in cc)
        apart false is = refl
