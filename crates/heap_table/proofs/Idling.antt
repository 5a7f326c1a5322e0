-- A safepoint word with running bits alone.
use Rattle.std.proofs.Common.{◌≡◌, ℕ, ◌/◌, ◌%◌, ◌^◌, ◌<◌, ◌||◌, Bool, true, false, nat_lt, Some, None, refl, arith}
use Rattle.std.proofs.Math.Nat.{div-eq_of_lt, mod-eq_of_lt}
use Rattle.std.proofs.lemmas.Bool.Decides.{nat_tests}
use Rattle.mark_word.specs.Safe.{read_safe}
use Rattle.heap_table.specs.declared.afters.Stand.{Stand}
use Rattle.heap_table.specs.inner.Kept.{looked}

or_false : (b : Bool) → (b || false) ≡ b
or_false true = refl
or_false false = refl

-- nobody asks by it, and it has no halt
pub read_idle : (word : ℕ) → word < 2 ^ 32 → read_safe word ≡ Some (record { running = word; requester = None; halted = false })
unfolding read_safe
read_idle word h =
    let third : word / 2 ^ 32 ≡ 0 = div-eq_of_lt h in
    let fifth : word / 2 ^ 40 ≡ 0 = div-eq_of_lt (omega (arith, h)) in
    let below : nat_lt word (2 ^ 41) ≡ true = grind (arith, nat_tests, h) in
    let whole : word % 2 ^ 32 ≡ word = mod-eq_of_lt h in
    rw (below, third, fifth, whole) refl

-- who asks for nothing knows as much after it as before
pub looked_idle : (word : ℕ) (s : Stand) → word < 2 ^ 32 → s.requesting ≡ false → looked (read_safe word) s ≡ s
looked_idle word s h e = rw (read_idle word h, e, or_false s.reached, or_false s.halted) refl
