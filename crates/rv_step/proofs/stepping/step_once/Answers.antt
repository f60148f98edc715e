-- A step by the walk of its pc.
use Rattle.std.proofs.Common.{IsSome, Some, None, sym, ap, subst, ◌∙◌}
use Rattle.std.proofs.lemmas.Bool.{false≢true}
use Rattle.sv_walk.specs.declared.walked.Walked.TheVariants.{Page, Fault, Unknown}
use Rattle.sv_walk.specs.Views.{rights_seen, walked_seen}
use Rattle.rv_fields.specs.Step.{trap_taken}
use Rattle.rv_step.specs.Views.{hart_seen}
use Rattle.rv_step.specs.Frames.{HasRoomForStep}
use Rattle.rv_step.proofs.Parts.{fetch_walk, by_fetch}
use Rattle.rv_step.proofs.stepping.step_once.Goals as goal

pub step_at-requires-clause-told : goal.step_at-requires-clause-told
step_at-requires-clause-told g c = subst IsSome (by_fetch (g.B.Bus.seen c.args.bus.now) (hart_seen c.args.hart.now) (walked_seen (Page c.in-Page.pa c.in-Page.trail))
    (ap walked_seen (sym c.in-Page.is) ∙ fetch_walk (g.B.Bus.seen c.args.bus.now) (hart_seen c.args.hart.now) (g.B.PteSource.entries c.args.bus.now) c.satp.result (rights_seen c.rights-rights.result)
    (walked_seen c.translate.result) c.translate.ensures.walked (g.met.B.Bus.tells_entries c.args.bus.now) c.satp.ensures c.rights-rights.ensures)) c.requires.told

pub step_at-requires-clause-room : goal.step_at-requires-clause-room
step_at-requires-clause-room g c = subst (HasRoomForStep (g.B.Bus.has_room c.args.bus.now)) (by_fetch (g.B.Bus.seen c.args.bus.now) (hart_seen c.args.hart.now) (walked_seen (Page c.in-Page.pa c.in-Page.trail))
    (ap walked_seen (sym c.in-Page.is) ∙ fetch_walk (g.B.Bus.seen c.args.bus.now) (hart_seen c.args.hart.now) (g.B.PteSource.entries c.args.bus.now) c.satp.result (rights_seen c.rights-rights.result)
    (walked_seen c.translate.result) c.translate.ensures.walked (g.met.B.Bus.tells_entries c.args.bus.now) c.satp.ensures c.rights-rights.ensures)) c.requires.room

pub unreachable-requires : goal.unreachable-requires
unreachable-requires g c = false≢true (subst IsSome (by_fetch (g.B.Bus.seen c.args.bus.now) (hart_seen c.args.hart.now) (walked_seen (Unknown c.in-Unknown.at c.in-Unknown.level))
    (ap walked_seen (sym c.in-Unknown.is) ∙ fetch_walk (g.B.Bus.seen c.args.bus.now) (hart_seen c.args.hart.now) (g.B.PteSource.entries c.args.bus.now) c.satp.result (rights_seen c.rights-rights.result)
    (walked_seen c.translate.result) c.translate.ensures.walked (g.met.B.Bus.tells_entries c.args.bus.now) c.satp.ensures c.rights-rights.ensures)) c.requires.told)

pub returns-in-Page-clause-step : goal.returns-in-Page-clause-step
returns-in-Page-clause-step g c = by_fetch (g.B.Bus.seen c.args.bus.now) (hart_seen c.args.hart.now) (walked_seen (Page c.in-Page.pa c.in-Page.trail))
    (ap walked_seen (sym c.in-Page.is) ∙ fetch_walk (g.B.Bus.seen c.args.bus.now) (hart_seen c.args.hart.now) (g.B.PteSource.entries c.args.bus.now) c.satp.result (rights_seen c.rights-rights.result)
    (walked_seen c.translate.result) c.translate.ensures.walked (g.met.B.Bus.tells_entries c.args.bus.now) c.satp.ensures c.rights-rights.ensures)
    ∙ c.step_at.ensures.step

pub returns-in-Fault-clause-step : goal.returns-in-Fault-clause-step
returns-in-Fault-clause-step g c = by_fetch (g.B.Bus.seen c.args.bus.now) (hart_seen c.args.hart.now) (walked_seen (Fault c.in-Fault.cause c.in-Fault.trail))
    (ap walked_seen (sym c.in-Fault.is) ∙ fetch_walk (g.B.Bus.seen c.args.bus.now) (hart_seen c.args.hart.now) (g.B.PteSource.entries c.args.bus.now) c.satp.result (rights_seen c.rights-rights.result)
    (walked_seen c.translate.result) c.translate.ensures.walked (g.met.B.Bus.tells_entries c.args.bus.now) c.satp.ensures c.rights-rights.ensures)
    ∙ ap (λ trail. Some (trap_taken (hart_seen c.args.hart.now) None None c.in-Fault.cause c.args.hart.now.pc trail)) (sym c.new.ensures.entries)
    ∙ ap Some (sym c.take_trap.ensures.step)
