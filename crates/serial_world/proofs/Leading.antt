-- Harts that have come further.
use Rattle.std.proofs.Common.{List, [], ◌++◌, append_assoc, sym, subst}
use Rattle.std.proofs.lemmas.List.{append-nil}
use Rattle.region_plan.specs.Plan.{Work}
use Rattle.world_face.specs.Events.{Event}
use Rattle.serial_world.specs.declared.harts.Harts.{Harts}
use Rattle.serial_world.specs.Running.{AreRunning, AreUnderWay, Leads}

-- what may be told of some events, and of those that were added
abbrev pub Telling : Type 1
Telling = List Event → List Event → Type 0

pub leads_as : (work : Work) (old new : Harts) (P Q : Telling) → Leads work old new P → ((before added : List Event) → P before added → Q before added) → Leads work old new Q
leads_as work old new P Q leads so = λ seed before runs. let l = leads seed before runs in (l.0, l.1, so before l.0 l.2)

pub leads_none : (work : Work) (harts : Harts) (P : Telling) → ((before : List Event) → P before []) → Leads work harts harts P
leads_none work harts P none = λ seed before runs. ([], subst (AreRunning work seed harts) (sym (append-nil before)) runs, none before)

pub leads_more : (work : Work) (old mid new : Harts) (P Q R : Telling) → Leads work old mid P → Leads work mid new Q
    → ((before first then : List Event) → P before first → Q (before ++ first) then → R before (first ++ then)) → Leads work old new R
leads_more work old mid new P Q R first then both = λ seed before runs.
    let a = first seed before runs in
    let b = then seed (before ++ a.0) a.1 in
    (a.0 ++ b.0, subst (AreRunning work seed new) (append_assoc before a.0 b.0) b.1, both before a.0 b.0 a.2 b.2)

pub under_way : (work : Work) (old new : Harts) (P : Telling) → AreUnderWay work old → Leads work old new P → AreUnderWay work new
under_way work old new P way leads = let l = leads way.0 way.1.0 way.1.1 in (way.0, (way.1.0 ++ l.0, l.1))
