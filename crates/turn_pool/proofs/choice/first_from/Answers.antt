use Rattle.std.proofs.Common.{◌≡◌, ◌<◌, ◌-◌, ◌*◌, ◌^◌, ◌%◌, arith}
use Rattle.std.proofs.lemmas.Nat.{one_shl}
use Rattle.turn_pool.proofs.Masks.{from_later, from_here, nowhere}
use Rattle.turn_pool.proofs.choice.first_from.Goals as goal

pub returns-then-later-ne0 : goal.returns-then-later-ne0
returns-then-later-ne0 c =
    let n = c.args.count in
    let m = c.args.next in
    let few = c.requires.few in
    let all : 1 * 2 ^ n % 2 ^ 64 ≡ 2 ^ n = one_shl n 64 (omega (arith, few)) in
    let first : 1 * 2 ^ m % 2 ^ 64 ≡ 2 ^ m = one_shl m 64 c.requires.next in
    let small : 1 * 2 ^ m % 2 ^ 64 - 1 < 2 ^ 64 = omega arith in
    from_later c.args.word m n (1 * 2 ^ n % 2 ^ 64) (1 * 2 ^ m % 2 ^ 64) few c.ranges.word.fits all first small (omega (arith, c.if-later-ne0.true))

pub returns-then-here-ne0 : goal.returns-then-here-ne0
returns-then-here-ne0 c =
    let n = c.args.count in
    let m = c.args.next in
    let few = c.requires.few in
    let all : 1 * 2 ^ n % 2 ^ 64 ≡ 2 ^ n = one_shl n 64 (omega (arith, few)) in
    let first : 1 * 2 ^ m % 2 ^ 64 ≡ 2 ^ m = one_shl m 64 c.requires.next in
    let small : 1 * 2 ^ m % 2 ^ 64 - 1 < 2 ^ 64 = omega arith in
    from_here c.args.word m n (1 * 2 ^ n % 2 ^ 64) (1 * 2 ^ m % 2 ^ 64) few c.ranges.word.fits all first small
    (omega (arith, c.if-later-ne0.false)) (omega (arith, c.if-here-ne0.true))

pub returns : goal.returns
returns c =
    let n = c.args.count in
    let m = c.args.next in
    let few = c.requires.few in
    let all : 1 * 2 ^ n % 2 ^ 64 ≡ 2 ^ n = one_shl n 64 (omega (arith, few)) in
    let first : 1 * 2 ^ m % 2 ^ 64 ≡ 2 ^ m = one_shl m 64 c.requires.next in
    let small : 1 * 2 ^ m % 2 ^ 64 - 1 < 2 ^ 64 = omega arith in
    nowhere c.args.word m n (1 * 2 ^ n % 2 ^ 64) (1 * 2 ^ m % 2 ^ 64) few c.ranges.word.fits all first small (omega (arith, c.if-here-ne0.false))
