-- The links that are kept, as the machine has them.
use Rattle.std.specs.Prelude.{ℕ, ◌==◌, ◌&&◌, List, Bool, Some}
use Rattle.std.specs.List.{list_any}
use Rattle.rv_fields.specs.Memory as machine
use Rattle.rv_machine.specs.declared.links.Link.{Link}

-- one of them is of the hart and the granule
abbrev pub stands : List Link → ℕ → ℕ → Bool
stands links h g = list_any (λ (l : Link). (l.granule == g) && (l.hart == h)) links

abbrev pub links_seen : List Link → machine.Links
links_seen links h g = Some (stands links h g)
