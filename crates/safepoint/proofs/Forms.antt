-- What the forms of words say of them.
use Rattle.std.proofs.Common.{◌≡◌, ℕ, ◌+◌, ◌<◌, ◌^◌, Bool, true, false, is_some, Option, Some, None, IfSome, sym, ap, ◌∙◌, arith}
use Rattle.std.proofs.lemmas.Nat.{pow_below}
use Rattle.plain_monitor.specs.Limits.{most_threads}
use Rattle.mark_word.specs.declared.safe.SafeForm.{SafeForm}
use Rattle.mark_word.specs.Safe.{IsSafeInRange, read_safe, safe_of, requester_of, halt_of}
use Rattle.mark_word.proofs.ReadingSafepoints.{read_safe-spells}
use Rattle.core_world.specs.Words.Forms.{requester_form, is_still, still_form}
use Rattle.core_world.specs.Trees.SafepointSteps.{has_requester, running_too}

module _ (word : ℕ) (form : Option SafeForm) (read : form ≡ read_safe word) where
  module _ (test answer : Bool) where
    pub asks : test ≡ is_some (requester_form form) → test ≡ answer → has_requester word ≡ answer
    asks e f = ap (λ x. is_some (requester_form x)) (sym read) ∙ sym e ∙ f

    pub stands : test ≡ still_form form → test ≡ answer → is_still word ≡ answer
    stands e f = ap still_form (sym read) ∙ sym e ∙ f

  pub in_range : IfSome form IsSafeInRange
  in_range = cases form read
    where
      cases : (f : Option SafeForm) → f ≡ read_safe word → IfSome f IsSafeInRange
      cases None e = tt
      cases (Some f) e = (read_safe-spells word f (sym e)).0

  -- a thread's bit is added
  module _ (f : SafeForm) (is : form ≡ Some f) (t : ℕ) (low : t < most_threads) where
    pub fits : word + 2 ^ t < 2 ^ 64
    fits =
        let spells = read_safe-spells word f (sym read ∙ is) in
        let bit : 2 ^ t < 2 ^ 16 = pow_below t 16 (omega (arith, low)) in
        let requester = few f.requester spells.0.1 in
        let halt = one f.halted in
        omega (arith, spells.0.0, spells.1, bit, requester, halt)
      where
        few : (r : Option ℕ) → IfSome r (λ u. u < 32) → requester_of r < 33
        few None h = omega arith
        few (Some u) h = omega (arith, h)

        one : (b : Bool) → halt_of b < 2
        one true = omega arith
        one false = omega arith

    pub added : word + 2 ^ t ≡ running_too form t
    added =
        let spells = read_safe-spells word f (sym read ∙ is) in
        let sum : safe_of f + 2 ^ t ≡ running_too (Some f) t = omega arith in
        ap (λ n. n + 2 ^ t) spells.1 ∙ sum ∙ ap (λ x. running_too x t) (sym is)
