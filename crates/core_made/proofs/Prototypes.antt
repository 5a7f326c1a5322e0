-- Each class's prototype is a mark that a new object may have.
use Rattle.core_locks.proofs.Prelude.{◌≡◌, ℕ, ◌+◌, ◌*◌, ◌%◌, ◌<◌, ◌==◌, Bool, true, false, cond, List, Some, refl, ap}
use Rattle.core_locks.proofs.Prelude.{◌∙◌, subst, arith, inl, inr, read_mark, mark_of, Anonymous, read_mark-mark_of}
use Rattle.core_locks.proofs.Prelude.{PlainObject, Prototype, World, Fits, last_seen, bulk_rebiases, bulk_revokes}
use Rattle.core_world.proofs.Readings.{mark_one}
use Rattle.core_made.specs.Making.{IsFirstMark}

pub prototype_first : (w : World) (P : List PlainObject) (c : ℕ) → Fits w P → IsFirstMark w (w.words (Prototype c))
prototype_first w P c v = by_bias w.biasing refl
  where
    raised : ℕ
    raised = bulk_rebiases w.shape.threads (λ t. (w.known t).counts) c

    by_revoked : w.biasing ≡ true → (b : Bool) → w.words (Prototype c) ≡ cond b (raised % 4 * 256 + 5) 1 → IsFirstMark w (w.words (Prototype c))
    by_revoked on false e = inl (ap read_mark e ∙ mark_one)
    by_revoked on true e =
        let low : raised % 4 < 4 = omega arith in
        let word : w.words (Prototype c) ≡ mark_of (Anonymous (raised % 4) 0) = omega (arith, e) in
        inr (on, (raised % 4, ap read_mark word ∙ read_mark-mark_of (Anonymous (raised % 4) 0) (low, omega arith)))

    by_bias : (b : Bool) → w.biasing ≡ b → IsFirstMark w (w.words (Prototype c))
    by_bias false off = inl (ap read_mark (v.classes.plain off c).0 ∙ mark_one)
    by_bias true on = by_revoked on (bulk_revokes w.shape.threads (λ t. (w.known t).counts) c == 0) (v.classes.prototypes on c)

-- and stays so for a running thread that has seen it
pub seen_prototype_first : (w : World) (P : List PlainObject) (t c m : ℕ) → last_seen (Prototype c) (w.known t).seen ≡ Some m → (w.known t).running ≡ true
    → Fits w P → IsFirstMark w m
seen_prototype_first w P t c m saw runs v = subst (IsFirstMark w) (v.seen.stays t (Prototype c) m saw (inl (runs, tt))) (prototype_first w P c v)
