use Rattle.std.proofs.Common.{◌^◌, ap, ◌∙◌}
use Rattle.rv_fields.specs.Immediate.{imm_b, pieces_b}
use Rattle.rv_fields.proofs.Immediates.{put_is, reads_back_b}
use Rattle.rv_fields.proofs.immediate.put_imm_b.Goals as goal

pub returns-clause-reads_back : goal.returns-clause-reads_back
returns-clause-reads_back c =
    ap imm_b (put_is pieces_b (2 ^ 13) c.args.word c.modulo.result c.ranges.value c.pieces_b.ensures c.modulo.ensures c.with_pieces.ensures)
    ∙ reads_back_b c.args.word c.args.value c.requires
