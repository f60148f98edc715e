use Rattle.std.proofs.Common.{◌^◌, ap, ◌∙◌}
use Rattle.rv_fields.specs.Immediate.{imm_j, pieces_j}
use Rattle.rv_fields.proofs.Immediates.{put_is, reads_back_j}
use Rattle.rv_fields.proofs.immediate.put_imm_j.Goals as goal

pub returns-clause-reads_back : goal.returns-clause-reads_back
returns-clause-reads_back c =
    ap imm_j (put_is pieces_j (2 ^ 21) c.args.word c.modulo.result c.ranges.value c.pieces_j.ensures c.modulo.ensures c.with_pieces.ensures)
    ∙ reads_back_j c.args.word c.args.value c.requires
