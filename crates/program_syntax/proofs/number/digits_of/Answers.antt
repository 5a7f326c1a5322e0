use Rattle.std.proofs.Common.{◌<◌, arith}
use Rattle.std.proofs.lemmas.Bool.Decides.{nat_tests}
use Rattle.program_syntax.proofs.Numbers.{digits_fit, digit_bounds}
use Rattle.program_syntax.proofs.number.digits_of.Goals as goal

pub overflow_mul-number : goal.overflow_mul-number
overflow_mul-number c =
    let k = digits_fit c.loop-b.number c.loop-b.b-index 0 c.loop-b.invariant.small (omega arith) (omega arith) in omega (arith, k)

pub overflow_add-number : goal.overflow_add-number
overflow_add-number c =
    let d : c.from.result < 10 = grind (arith, nat_tests, digit_bounds) in
    let k = digits_fit c.loop-b.number c.loop-b.b-index c.from.result c.loop-b.invariant.small (omega arith) d in omega (arith, k)
