-- The boot block and its values are the pieces of the hart's boot.
use Rattle.std.proofs.Common.{sym, ◌∙◌}
use Rattle.value_file.specs.Values.{initial_of}
use Rattle.run_merge.proofs.Booting.{boot_bytes}
use Rattle.run_merge.proofs.Planned.{planned_csrs}
use Rattle.run_merge.proofs.segments.lay_boot_block.Goals as goal

pub returns : goal.returns
returns c = λ work by. boot_bytes work c.args.hart (initial_of c.args.values.now) c.args.bytes.now.items _ _ _ _ _ _ _ _ _ c.requires.place
    (c.startup_place.ensures ∙ c.boot_block_at.ensures) (c.startup_place-2.ensures ∙ c.boot_csrs_at.ensures) (c.startup_place-3.ensures ∙ c.boot_registers_at.ensures)
    c.boot_block.ensures (c.boot_values-values.ensures.csrs ∙ sym (planned_csrs c.args.plan.now.harts.items work by c.args.hart c.requires.planned)) c.boot_values-values.ensures.registers
    c.in_ok-lay_words.ensures c.in_ok-lay_values.ensures c.in_ok-lay_values-2.ensures
