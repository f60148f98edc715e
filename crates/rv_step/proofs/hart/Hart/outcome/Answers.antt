-- What comes of an instruction, class by class.
use Rattle.std.proofs.Common.{◌≡◌, IsSome, Some, sym, subst, ◌∙◌}
use Rattle.rv_fields.specs.declared.class.Class.TheVariants.{Computes, Branches, Jumps, JumpsByRegister, Accesses, ChangesCsr, Fences, FencesTranslation, CallsEnvironment, Breaks, ReturnsFromM, ReturnsFromS}
use Rattle.rv_fields.specs.Step.{access}
use Rattle.rv_step.specs.Aims.{target_seen}
use Rattle.rv_step.specs.Views.{hart_seen, outcome_seen, decoded_seen}
use Rattle.rv_step.specs.Frames.{HasRoomIfTold}
use Rattle.rv_step.proofs.Parts.{by_class}
use Rattle.rv_step.proofs.hart.Hart.outcome.Goals as goal

pub access-requires-clause-told : goal.access-requires-clause-told
access-requires-clause-told g c =
    let here = subst IsSome (by_class (g.B.Bus.seen c.args.bus.now) (hart_seen c.args.self.now) (decoded_seen c.args.instruction.now) c.args.instruction.now.word c.args.instruction.now.rs1 c.args.instruction.now.rs2
    (Accesses c.in-Accesses.kind c.in-Accesses.size c.in-Accesses.extended) (sym c.in-Accesses.is ∙ c.class_of.ensures)) c.requires.told in
    subst (λ va. IsSome (access (g.B.Bus.seen c.args.bus.now) (hart_seen c.args.self.now) (target_seen (record { ins = c.args.instruction.now.ins; rs2 = c.args.instruction.now.rs2; kind = c.in-Accesses.kind; size = c.in-Accesses.size; extended = c.in-Accesses.extended; va = va })))) (sym c.moved_by-in-Accesses.ensures) here

pub access-requires-clause-room : goal.access-requires-clause-room
access-requires-clause-room g c =
    let here = subst (HasRoomIfTold (g.B.Bus.has_room c.args.bus.now)) (by_class (g.B.Bus.seen c.args.bus.now) (hart_seen c.args.self.now) (decoded_seen c.args.instruction.now) c.args.instruction.now.word c.args.instruction.now.rs1 c.args.instruction.now.rs2
    (Accesses c.in-Accesses.kind c.in-Accesses.size c.in-Accesses.extended) (sym c.in-Accesses.is ∙ c.class_of.ensures)) c.requires.room in
    subst (λ va. HasRoomIfTold (g.B.Bus.has_room c.args.bus.now) (access (g.B.Bus.seen c.args.bus.now) (hart_seen c.args.self.now) (target_seen (record { ins = c.args.instruction.now.ins; rs2 = c.args.instruction.now.rs2; kind = c.in-Accesses.kind; size = c.in-Accesses.size; extended = c.in-Accesses.extended; va = va })))) (sym c.moved_by-in-Accesses.ensures) here

pub returns-in-Computes-clause-outcome : goal.returns-in-Computes-clause-outcome
returns-in-Computes-clause-outcome g c =
    by_class (g.B.Bus.seen c.args.bus.now) (hart_seen c.args.self.now) (decoded_seen c.args.instruction.now) c.args.instruction.now.word c.args.instruction.now.rs1 c.args.instruction.now.rs2
    Computes (sym c.in-Computes.is ∙ c.class_of.ensures)
    ∙ cc (c.goes.ensures.outcome, c.computed.ensures, c.behind.ensures)

pub returns-in-Branches-clause-outcome : goal.returns-in-Branches-clause-outcome
returns-in-Branches-clause-outcome g c =
    by_class (g.B.Bus.seen c.args.bus.now) (hart_seen c.args.self.now) (decoded_seen c.args.instruction.now) c.args.instruction.now.word c.args.instruction.now.rs1 c.args.instruction.now.rs2
    Branches (sym c.in-Branches.is ∙ c.class_of.ensures)
    ∙ cc (c.branch-self.ensures.outcome, c.taken.ensures, c.moved_by.ensures)

pub returns-in-Jumps-clause-outcome : goal.returns-in-Jumps-clause-outcome
returns-in-Jumps-clause-outcome g c =
    by_class (g.B.Bus.seen c.args.bus.now) (hart_seen c.args.self.now) (decoded_seen c.args.instruction.now) c.args.instruction.now.word c.args.instruction.now.rs1 c.args.instruction.now.rs2
    Jumps (sym c.in-Jumps.is ∙ c.class_of.ensures)
    ∙ cc (c.jump.ensures.outcome, c.behind-in-Jumps.ensures, c.moved_by-in-Jumps.ensures)

pub returns-in-JumpsByRegister-clause-outcome : goal.returns-in-JumpsByRegister-clause-outcome
returns-in-JumpsByRegister-clause-outcome g c =
    by_class (g.B.Bus.seen c.args.bus.now) (hart_seen c.args.self.now) (decoded_seen c.args.instruction.now) c.args.instruction.now.word c.args.instruction.now.rs1 c.args.instruction.now.rs2
    JumpsByRegister (sym c.in-JumpsByRegister.is ∙ c.class_of.ensures)
    ∙ cc (c.jump-in-JumpsByRegister.ensures.outcome, c.behind-in-JumpsByRegister.ensures, c.moved_by-in-JumpsByRegister.ensures)

pub returns-in-ChangesCsr-clause-outcome : goal.returns-in-ChangesCsr-clause-outcome
returns-in-ChangesCsr-clause-outcome g c =
    by_class (g.B.Bus.seen c.args.bus.now) (hart_seen c.args.self.now) (decoded_seen c.args.instruction.now) c.args.instruction.now.word c.args.instruction.now.rs1 c.args.instruction.now.rs2
    (ChangesCsr c.in-ChangesCsr.change) (sym c.in-ChangesCsr.is ∙ c.class_of.ensures)
    ∙ cc (c.change_csr.ensures.outcome, c.csr_operand.ensures, c.requires.form)

pub returns-in-Fences-clause-outcome : goal.returns-in-Fences-clause-outcome
returns-in-Fences-clause-outcome g c =
    by_class (g.B.Bus.seen c.args.bus.now) (hart_seen c.args.self.now) (decoded_seen c.args.instruction.now) c.args.instruction.now.word c.args.instruction.now.rs1 c.args.instruction.now.rs2
    Fences (sym c.in-Fences.is ∙ c.class_of.ensures)
    ∙ cc (c.goes-in-Fences.ensures.outcome, c.behind-in-Fences.ensures)

pub returns-in-FencesTranslation-clause-outcome : goal.returns-in-FencesTranslation-clause-outcome
returns-in-FencesTranslation-clause-outcome g c =
    by_class (g.B.Bus.seen c.args.bus.now) (hart_seen c.args.self.now) (decoded_seen c.args.instruction.now) c.args.instruction.now.word c.args.instruction.now.rs1 c.args.instruction.now.rs2
    FencesTranslation (sym c.in-FencesTranslation.is ∙ c.class_of.ensures)
    ∙ cc (c.fence_translation.ensures)

pub returns-in-CallsEnvironment-clause-outcome : goal.returns-in-CallsEnvironment-clause-outcome
returns-in-CallsEnvironment-clause-outcome g c =
    by_class (g.B.Bus.seen c.args.bus.now) (hart_seen c.args.self.now) (decoded_seen c.args.instruction.now) c.args.instruction.now.word c.args.instruction.now.rs1 c.args.instruction.now.rs2
    CallsEnvironment (sym c.in-CallsEnvironment.is ∙ c.class_of.ensures)
    ∙ cc (c.traps.ensures.outcome c.args.self.now, c.mode_number.ensures)

pub returns-in-Breaks-clause-outcome : goal.returns-in-Breaks-clause-outcome
returns-in-Breaks-clause-outcome g c =
    by_class (g.B.Bus.seen c.args.bus.now) (hart_seen c.args.self.now) (decoded_seen c.args.instruction.now) c.args.instruction.now.word c.args.instruction.now.rs1 c.args.instruction.now.rs2
    Breaks (sym c.in-Breaks.is ∙ c.class_of.ensures)
    ∙ cc (c.traps-in-Breaks.ensures.outcome c.args.self.now)

pub returns-in-ReturnsFromM-clause-outcome : goal.returns-in-ReturnsFromM-clause-outcome
returns-in-ReturnsFromM-clause-outcome g c =
    by_class (g.B.Bus.seen c.args.bus.now) (hart_seen c.args.self.now) (decoded_seen c.args.instruction.now) c.args.instruction.now.word c.args.instruction.now.rs1 c.args.instruction.now.rs2
    ReturnsFromM (sym c.in-ReturnsFromM.is ∙ c.class_of.ensures)
    ∙ cc (c.return_from_m.ensures.outcome)

pub returns-in-ReturnsFromS-clause-outcome : goal.returns-in-ReturnsFromS-clause-outcome
returns-in-ReturnsFromS-clause-outcome g c =
    by_class (g.B.Bus.seen c.args.bus.now) (hart_seen c.args.self.now) (decoded_seen c.args.instruction.now) c.args.instruction.now.word c.args.instruction.now.rs1 c.args.instruction.now.rs2
    ReturnsFromS (sym c.in-ReturnsFromS.is ∙ c.class_of.ensures)
    ∙ cc (c.return_from_s.ensures.outcome)

pub returns-in-Accesses-clause-outcome : goal.returns-in-Accesses-clause-outcome
returns-in-Accesses-clause-outcome g c =
    by_class (g.B.Bus.seen c.args.bus.now) (hart_seen c.args.self.now) (decoded_seen c.args.instruction.now) c.args.instruction.now.word c.args.instruction.now.rs1 c.args.instruction.now.rs2
    (Accesses c.in-Accesses.kind c.in-Accesses.size c.in-Accesses.extended) (sym c.in-Accesses.is ∙ c.class_of.ensures)
    ∙ subst (λ va. access (g.B.Bus.seen c.args.bus.now) (hart_seen c.args.self.now) (target_seen (record { ins = c.args.instruction.now.ins; rs2 = c.args.instruction.now.rs2; kind = c.in-Accesses.kind; size = c.in-Accesses.size; extended = c.in-Accesses.extended; va = va })) ≡ Some (outcome_seen c.access.new.self c.access.result))
    c.moved_by-in-Accesses.ensures c.access.ensures.outcome
