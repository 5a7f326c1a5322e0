use Rattle.std.proofs.Common.{◌≡◌, ℕ, ◌-◌, ◌*◌, ◌^◌, ◌%◌, bit_and, bit_or, subst, sym, arith, rules}
use Rattle.std.proofs.lemmas.Nat.{one_shl}
use Rattle.turn_pool.proofs.Bits.{in_either, all_stand, either_stands}
use Rattle.turn_pool.proofs.standstill.stand_still.Goals as goal

pub returns-then-home-all-clause-still : goal.returns-then-home-all-clause-still
returns-then-home-all-clause-still c = λ e i li.
    let one : 1 * 2 ^ c.args.count % 2 ^ 64 ≡ 2 ^ c.args.count = one_shl c.args.count 64 (let r = c.requires in omega (arith, r)) in
    let of : (a : ℕ) → bit_and (bit_or a c.args.ended) (1 * 2 ^ c.args.count % 2 ^ 64 - 1) ≡ 1 * 2 ^ c.args.count % 2 ^ 64 - 1
    → bit_and (bit_or a c.args.ended) (2 ^ c.args.count - 1) ≡ 2 ^ c.args.count - 1 = λ a h.
    subst (λ (m : ℕ). bit_and (bit_or a c.args.ended) (m - 1) ≡ m - 1) one h in (
      in_either c.args.count c.args.ready c.args.ended (of c.args.ready c.if-home-all.true) i li,
      in_either c.args.count c.args.stalled c.args.ended (of c.args.stalled (search (rules, arith, e))) i li,
    )

pub returns-then-home-all-clause-only : goal.returns-then-home-all-clause-only
returns-then-home-all-clause-only c = λ still.
    let one : 1 * 2 ^ c.args.count % 2 ^ 64 ≡ 2 ^ c.args.count = one_shl c.args.count 64 (let r = c.requires in omega (arith, r)) in
    let idle = subst (λ (m : ℕ). bit_and (bit_or c.args.stalled c.args.ended) (m - 1) ≡ m - 1) (sym one)
    (all_stand c.args.count (bit_or c.args.stalled c.args.ended) (λ i li. either_stands c.args.stalled c.args.ended i (still i li).1)) in
    search (rules, arith, idle)

pub returns-else-home-all-clause-only : goal.returns-else-home-all-clause-only
returns-else-home-all-clause-only c = λ still.
    let one : 1 * 2 ^ c.args.count % 2 ^ 64 ≡ 2 ^ c.args.count = one_shl c.args.count 64 (let r = c.requires in omega (arith, r)) in
    let home = subst (λ (m : ℕ). bit_and (bit_or c.args.ready c.args.ended) (m - 1) ≡ m - 1) (sym one)
    (all_stand c.args.count (bit_or c.args.ready c.args.ended) (λ i li. either_stands c.args.ready c.args.ended i (still i li).0)) in
    absurd (c.if-home-all.false home)
