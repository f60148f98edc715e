use Rattle.std.proofs.Common.{◌≤◌, ◌<◌, ◌+◌, ◌*◌, ◌^◌, arith}
use Rattle.std.proofs.Math.Pow.{pow_mono, pow_pos}
use Rattle.sv_walk.proofs.next.page_offset.Goals as goal

pub returns-clause-small : goal.returns-clause-small
returns-clause-small c =
    let exponent = 12 + 9 * c.args.level in
    let within : exponent ≤ 30 = omega arith in
    let most : 2 ^ exponent ≤ 2 ^ 30 = pow_mono within in
    let some : 0 < 2 ^ exponent = pow_pos exponent in
    omega arith
