-- A state of safepoints is read from a word exactly where the word spells it.
use Rattle.std.proofs.Common.{◌≡◌, ℕ, ◌/◌, ◌%◌, ◌^◌, ◌<◌, ◌==◌, ◌&&◌, nat_lt, Bool, true, false, Option, Some, None, IfSome, refl, arith}
use Rattle.std.proofs.lemmas.Bool.{cond_both}
use Rattle.std.proofs.lemmas.Bool.Decides.{nat_tests}
use Rattle.std.proofs.lemmas.Option.{MatchOption-at_some}
use Rattle.std.specs.Bool.{⊤}
use Rattle.mark_word.specs.declared.safe.SafeForm.{SafeForm}
use Rattle.mark_word.specs.Safe.{IsSafeInRange, safe_of, SpellsSafe, requester_of, halt_of, requester_in, read_safe}

-- the fields are read back from their word
fields_back : (running : ℕ) (requester : Option ℕ) (halted : Bool) → running < 2 ^ 32 → IfSome requester (λ thread. thread < 32)
    → read_safe (safe_of (record { running = running; requester = requester; halted = halted }))
    ≡ Some (record { running = running; requester = requester; halted = halted })
unfolding read_safe
fields_back running None true h k = grind (arith, nat_tests)
fields_back running None false h k = grind (arith, nat_tests)
fields_back running (Some thread) true h k = grind (arith, nat_tests)
fields_back running (Some thread) false h k = grind (arith, nat_tests)

-- a state of safepoints in range is read back from its word
pub read_safe-safe_of : (f : SafeForm) → IsSafeInRange f → read_safe (safe_of f) ≡ Some f
read_safe-safe_of f h = fields_back f.running f.requester f.halted h.0 h.1

-- a field below 33 tells a requester in range, whose field it is
requester_told : (field : ℕ) → field < 33 → IfSome (requester_in field) (λ thread. thread < 32) × (requester_of (requester_in field) ≡ field)
requester_told field h =
    cond_both (field == 0) _ _ (λ requester. IfSome requester (λ thread. thread < 32) × (requester_of requester ≡ field))
    (λ k. grind (arith, nat_tests)) (λ k. grind (arith, nat_tests))

-- a bit tells a halt, whose bit it is, by the test of the bit
halt_told : (bit : ℕ) (halted : Bool) → (bit == 1) ≡ halted → bit < 2 → halt_of halted ≡ bit
halt_told bit true e h = grind (arith, nat_tests)
halt_told bit false e h = grind (arith, nat_tests)

-- the word spells what is read from it, if anything
abbrev IsSpelled : ℕ → Option SafeForm → Type 0
IsSpelled word o = IfSome o (λ f. SpellsSafe f word)

-- a word whose fields are in their ranges spells what is read from it
fields_spelled : (word : ℕ) → word < 2 ^ 41 → word / 2 ^ 32 % 256 < 33
    → SpellsSafe (record { running = word % 2 ^ 32; requester = requester_in (word / 2 ^ 32 % 256); halted = word / 2 ^ 40 == 1 }) word
fields_spelled word h k =
    let requester = requester_told (word / 2 ^ 32 % 256) k in
    let halt = halt_told (word / 2 ^ 40) (word / 2 ^ 40 == 1) refl (omega arith) in
    ((omega arith, requester.0), omega (arith, requester.1, halt))

-- a word spells what is read from it
is_spelled : (word : ℕ) → IsSpelled word (read_safe word)
unfolding read_safe
is_spelled word =
    cond_both (nat_lt word (2 ^ 41) && nat_lt (word / 2 ^ 32 % 256) 33) _ _ (IsSpelled word)
    (λ h. let below : (word < 2 ^ 41) × (word / 2 ^ 32 % 256 < 33) = grind (arith, nat_tests) in fields_spelled word below.0 below.1) (λ _. tt)

-- a word spells the state of safepoints that is read from it
pub read_safe-spells : (word : ℕ) (f : SafeForm) → read_safe word ≡ Some f → SpellsSafe f word
read_safe-spells word f e = MatchOption-at_some ⊤ (λ form. SpellsSafe form word) f e (is_spelled word)
