-- An access by the walk of its address.
use Rattle.std.proofs.Common.{IsSome, refl, sym, ap, subst, ◌∙◌}
use Rattle.std.proofs.lemmas.Bool.{false≢true}
use Rattle.sv_walk.specs.declared.walked.Walked.TheVariants.{Page, Fault, Unknown}
use Rattle.sv_walk.specs.Views.{trail_seen, rights_seen, walked_seen}
use Rattle.rv_step.specs.Views.{hart_seen}
use Rattle.rv_step.specs.Frames.{HasRoomIfTold}
use Rattle.rv_step.specs.Aims.{target_seen}
use Rattle.rv_step.proofs.Parts.{data_walk, by_walk}
use Rattle.rv_step.proofs.Places.{aligned_there}
use Rattle.rv_fields.specs.Sv39.{reached}
use Rattle.rv_step.proofs.hart.Hart.access_aligned.Goals as goal

pub perform-requires-clause-aim : goal.perform-requires-clause-aim
perform-requires-clause-aim g c = record {
  target = c.requires.target;
  aligned = aligned_there (g.B.PteSource.entries c.args.bus.now) c.args.right (rights_seen c.rights-rights.result) c.satp.result c.args.target.now.va c.args.target.now.size
      c.in-Page.pa (record { trail = trail_seen c.in-Page.trail; result = reached c.in-Page.pa }) c.requires.target.size c.requires.aligned
      (sym c.translate.ensures.walked ∙ ap walked_seen c.in-Page.is) refl;
}

pub perform-requires-clause-told : goal.perform-requires-clause-told
perform-requires-clause-told g c = subst IsSome (by_walk (g.B.Bus.seen c.args.bus.now) (hart_seen c.args.self.now) (target_seen c.args.target.now) c.args.right (walked_seen (Page c.in-Page.pa c.in-Page.trail)) c.requires.aligned c.requires.right
    (ap walked_seen (sym c.in-Page.is) ∙ data_walk (g.B.Bus.seen c.args.bus.now) (hart_seen c.args.self.now) (g.B.PteSource.entries c.args.bus.now) c.satp.result (rights_seen c.rights-rights.result) c.data_mode.result
    c.args.right c.args.target.now.va (walked_seen c.translate.result) c.translate.ensures.walked (g.met.B.Bus.tells_entries c.args.bus.now) c.satp.ensures c.rights-rights.ensures c.data_mode.ensures)) c.requires.told

pub perform-requires-clause-room : goal.perform-requires-clause-room
perform-requires-clause-room g c = subst (HasRoomIfTold (g.B.Bus.has_room c.args.bus.now)) (by_walk (g.B.Bus.seen c.args.bus.now) (hart_seen c.args.self.now) (target_seen c.args.target.now) c.args.right (walked_seen (Page c.in-Page.pa c.in-Page.trail)) c.requires.aligned c.requires.right
    (ap walked_seen (sym c.in-Page.is) ∙ data_walk (g.B.Bus.seen c.args.bus.now) (hart_seen c.args.self.now) (g.B.PteSource.entries c.args.bus.now) c.satp.result (rights_seen c.rights-rights.result) c.data_mode.result
    c.args.right c.args.target.now.va (walked_seen c.translate.result) c.translate.ensures.walked (g.met.B.Bus.tells_entries c.args.bus.now) c.satp.ensures c.rights-rights.ensures c.data_mode.ensures)) c.requires.room

pub unreachable-requires : goal.unreachable-requires
unreachable-requires g c = false≢true (subst IsSome (by_walk (g.B.Bus.seen c.args.bus.now) (hart_seen c.args.self.now) (target_seen c.args.target.now) c.args.right (walked_seen (Unknown c.in-Unknown.at c.in-Unknown.level)) c.requires.aligned c.requires.right
    (ap walked_seen (sym c.in-Unknown.is) ∙ data_walk (g.B.Bus.seen c.args.bus.now) (hart_seen c.args.self.now) (g.B.PteSource.entries c.args.bus.now) c.satp.result (rights_seen c.rights-rights.result) c.data_mode.result
    c.args.right c.args.target.now.va (walked_seen c.translate.result) c.translate.ensures.walked (g.met.B.Bus.tells_entries c.args.bus.now) c.satp.ensures c.rights-rights.ensures c.data_mode.ensures)) c.requires.told)

pub returns-in-Page-clause-outcome : goal.returns-in-Page-clause-outcome
returns-in-Page-clause-outcome g c = by_walk (g.B.Bus.seen c.args.bus.now) (hart_seen c.args.self.now) (target_seen c.args.target.now) c.args.right (walked_seen (Page c.in-Page.pa c.in-Page.trail)) c.requires.aligned c.requires.right
    (ap walked_seen (sym c.in-Page.is) ∙ data_walk (g.B.Bus.seen c.args.bus.now) (hart_seen c.args.self.now) (g.B.PteSource.entries c.args.bus.now) c.satp.result (rights_seen c.rights-rights.result) c.data_mode.result
    c.args.right c.args.target.now.va (walked_seen c.translate.result) c.translate.ensures.walked (g.met.B.Bus.tells_entries c.args.bus.now) c.satp.ensures c.rights-rights.ensures c.data_mode.ensures)
    ∙ c.perform.ensures.outcome

pub returns-in-Fault-clause-outcome : goal.returns-in-Fault-clause-outcome
returns-in-Fault-clause-outcome g c = by_walk (g.B.Bus.seen c.args.bus.now) (hart_seen c.args.self.now) (target_seen c.args.target.now) c.args.right (walked_seen (Fault c.in-Fault.cause c.in-Fault.trail)) c.requires.aligned c.requires.right
    (ap walked_seen (sym c.in-Fault.is) ∙ data_walk (g.B.Bus.seen c.args.bus.now) (hart_seen c.args.self.now) (g.B.PteSource.entries c.args.bus.now) c.satp.result (rights_seen c.rights-rights.result) c.data_mode.result
    c.args.right c.args.target.now.va (walked_seen c.translate.result) c.translate.ensures.walked (g.met.B.Bus.tells_entries c.args.bus.now) c.satp.ensures c.rights-rights.ensures c.data_mode.ensures)
