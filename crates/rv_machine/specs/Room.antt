-- Room for what a step writes or links.
use Rattle.std.specs.Prelude.{◌<◌, IsSome, vec_len, vec_capacity}
use Rattle.rv_machine.specs.declared.links.Links.{Links}
use Rattle.rv_machine.specs.declared.memory.Memory.{Memory}

abbrev pub HasLinkRoom : Links → Type 0
HasLinkRoom links = vec_len links.standing < vec_capacity links.standing

-- a page that isn't used yet, and a link more
pub record HasRoom (m : Memory) : Type 0 where
  pub page : IsSome m.spare
  pub link : HasLinkRoom m.links
