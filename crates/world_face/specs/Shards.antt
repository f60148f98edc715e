-- A shard as a part: the bytes of its data frames that have values, and the links of reservations.
use Rattle.std.specs.List.{list_all, range_with_len}
use Rattle.std.specs.Option.{option_map_or}
use Rattle.std.specs.Prelude.{Bool, List, None, Option, Some, false, filter, find, is_none, is_some, length, map, option_map, true, unwrap_or, ℕ, ◌+◌, ◌-◌, ◌*◌, ◌/◌, ◌%◌, ◌^◌, ◌==◌, ◌∷◌, ◌≡◌, [], if◌then◌else◌}
use Rattle.region_plan.specs.Plan.{Work}
use Rattle.rv_fields.specs.declared.access.AccessKind.{AccessKind}
use Rattle.rv_fields.specs.declared.access.Accessed.{Accessed}
use Rattle.rv_fields.specs.declared.access.AccessKind.TheVariants.{Amo, Load, Lr, Sc, Store}
use Rattle.rv_fields.specs.Memory.{Bytes, Links, granule, links_after, number_of, stored}
use Rattle.rv_fields.specs.Hart.{updated}
use Rattle.world_face.specs.Events.{Event, Wanted}
use Rattle.world_face.specs.Told.{Run, access_told, runs_told}

pub record ShardState : Type 0 where
  -- the present byte at each address that has one; the others are untouched
  pub bytes : Bytes
  -- the links of harts to granules
  pub links : Links

abbrev pub opening_shard : ShardState
opening_shard = record { bytes = λ at. None; links = λ h g. Some false }

abbrev pub joined : ℕ → List (ℕ × ℕ) → List (ℕ × ℕ)
joined a [] = (a, 1) ∷ []
joined a (s ∷ ss) = if s.0 == a + 1 then (a, s.1 + 1) ∷ ss else (a, 1) ∷ s ∷ ss

-- addresses as longest runs, each with its length
abbrev pub spans : List ℕ → List (ℕ × ℕ)
spans [] = []
spans (a ∷ rest) = joined a (spans rest)

-- the untouched ones of so many bytes
abbrev pub untouched_in : ShardState → ℕ → ℕ → List ℕ
untouched_in shard at size = filter (λ a. is_none (shard.bytes a)) (range_with_len at size)

-- the bytes with those of the runs
abbrev pub with_run : (ℕ → Option ℕ) → ℕ → List ℕ → ℕ → Option ℕ
with_run bytes at [] = bytes
with_run bytes at (b ∷ bs) = with_run (updated bytes at (Some b)) (at + 1) bs

abbrev pub with_runs : (ℕ → Option ℕ) → List Run → ℕ → Option ℕ
with_runs bytes [] = bytes
with_runs bytes (r ∷ rs) = with_runs (with_run bytes r.at r.bytes) rs

-- the number that present bytes spell
abbrev pub present : (ℕ → Option ℕ) → ℕ → ℕ → Option ℕ
present bytes at size = if list_all (λ a. is_some (bytes a)) (range_with_len at size)
    then Some (number_of (map (λ a. unwrap_or (bytes a) 0) (range_with_len at size))) else None

-- what an access of this kind reads first gets its bytes, and tells them
abbrev pub reads : AccessKind → Bool
reads Load = true
reads Lr = true
reads Amo = true
reads Sc = false
reads Store = false

abbrev pub run_span : Run → ℕ × ℕ
run_span r = (r.at, length r.bytes)

abbrev pub AccessRight : ShardState → List Run → Option Accessed → Type 0
AccessRight shard told None = told ≡ []
AccessRight shard told (Some a) =
    (map run_span told ≡ (if reads a.kind then spans (untouched_in shard a.pa a.size) else []))
    × (a.read ≡ (if reads a.kind then present (with_runs shard.bytes told) a.pa a.size else None))

abbrev pub fits_byte : Option ℕ → ℕ → Bool
fits_byte None wanted = true
fits_byte (Some b) wanted = b == wanted

-- a wanted number fits at a place: each byte there is untouched, or the wanted one
abbrev pub fits_wanted : ShardState → Wanted → ℕ → Bool
fits_wanted shard w place = list_all (λ i. fits_byte (shard.bytes (w.page * 4096 + place + i)) (w.value / 256 ^ i % 256)) (range_with_len 0 w.size)

-- the least aligned place of the page at which it fits
abbrev pub wanted_place : ShardState → Wanted → Option ℕ
wanted_place shard w = find (fits_wanted shard w) (map (λ n. n * w.size) (range_with_len 0 (4096 / w.size)))

-- An access is at the place of a wanted number, and where there is none the request is given up.
abbrev pub WantedRight : ShardState → Option Wanted → Option Accessed → Type 0
WantedRight shard None told = Unit {0}
WantedRight shard (Some w) told = option_map (λ (a : Accessed). a.pa - w.page * 4096) told ≡ wanted_place shard w

abbrev pub ProbeRight : ShardState → ℕ → Option (ℕ × Bool) → Type 0
ProbeRight shard hart None = Unit {0}
ProbeRight shard hart (Some p) = shard.links hart (granule p.0) ≡ Some p.1

abbrev pub shard_legal : Work → ShardState → Event → Type 0
shard_legal work shard e =
    WantedRight shard e.asked.wanted (access_told e)
    × ProbeRight shard e.hart e.asked.probe
    × AccessRight shard (runs_told e) (access_told e)

abbrev pub after_told : ℕ → Option Accessed → ShardState → ShardState
after_told hart None shard = shard
after_told hart (Some a) shard = record {
  bytes = option_map_or (λ (value : ℕ). stored shard.bytes a.pa a.size value) a.wrote shard.bytes;
  links = links_after a.kind hart (granule a.pa) shard.links;
}

abbrev pub shard_after : ShardState → Event → ShardState
shard_after shard e = after_told e.hart (access_told e) (record shard { bytes = with_runs shard.bytes (runs_told e) })
