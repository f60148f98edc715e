use Rattle.std.proofs.Common.{◌<◌, ◌≤◌, ◌+◌, ◌-◌, ◌^◌, arith}
use Rattle.std.proofs.lemmas.Nat.{one_shl, shl_whole, pow_pos}
use Rattle.rv_csr.proofs.field.Field.mask.Goals as goal

pub returns : goal.returns
returns c =
    let low = c.args.self.low in
    let width = c.args.self.width in
    let ones : 2 ^ width - 1 < 2 ^ width = omega (arith, pow_pos width) in
    let within : width + low ≤ 64 = omega arith in
    rw (one_shl width 64 c.args.self.not_all) (shl_whole (2 ^ width - 1) width low 64 ones within)
