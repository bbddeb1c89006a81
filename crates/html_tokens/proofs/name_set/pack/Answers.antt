use Rattle.std.proofs.Common.{◌≤◌, ◌^◌, arith}
use Rattle.std.proofs.Math.Nat.{pow-le-pow_right}
use Rattle.html_tokens.proofs.name_set.pack.Goals as goal

pub overflow_mul-number : goal.overflow_mul-number
overflow_mul-number c =
    let at_most : c.loop-byte.byte-index ≤ 14 = omega arith in
    let power : 256 ^ c.loop-byte.byte-index ≤ 256 ^ 14 = pow-le-pow_right (omega arith) at_most in
    omega (arith, power, c.loop-byte.invariant.small)

pub overflow_add-number : goal.overflow_add-number
overflow_add-number c =
    let at_most : c.loop-byte.byte-index ≤ 14 = omega arith in
    let power : 256 ^ c.loop-byte.byte-index ≤ 256 ^ 14 = pow-le-pow_right (omega arith) at_most in
    omega (arith, power, c.loop-byte.invariant.small)
