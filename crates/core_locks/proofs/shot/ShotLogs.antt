-- The shots stay right where a thread logs an entry of its own.
use Rattle.core_locks.proofs.Prelude.{◌≡◌, ◌⊎◌, ℕ, false, List, [], ◌∷◌, ◌++◌, length, Option, refl, sym, ap, ◌∙◌}
use Rattle.core_locks.proofs.Prelude.{subst, arith, inl, inr, PlainObject, Logged, ThreadView, World, with_known}
use Rattle.core_locks.proofs.Prelude.{logs, Fits, Entry, Dump, Unfinished, goes_on_with, IsUnfinished, logs_from}
use Rattle.core_world.specs.declared.heap_call.Operation.TheVariants as op
use Rattle.core_world.specs.Shots.{AreOfDumps, ShotsFit}
use Rattle.core_world.proofs.shot.ShotsStay.{IsDump, IsNoDump, dump_or_not, dumps_dump, dumps_other, shots_with}
use Rattle.core_locks.specs.Knowing.{IsOfLastShot, operation_of}
use Rattle.core_locks.proofs.Logging.{IsLogging, logs_are, may_log}

-- an entry that is no dump is no dump's own
undumped : (e : Entry) → IsNoDump e → goes_on_with op.Dump 0 (operation_of e) ≡ false
undumped (Dump number) n = let e = ap (λ z. length z) (n 0 []) in absurd (omega (arith, e))
undumped _ n = refl

no_dump : (u : Option Unfinished) (e : Entry) → IsNoDump e → u ≡ operation_of e → IsUnfinished u op.Dump 0 → ⊥
no_dump u e n h d = let f = ap (goes_on_with op.Dump 0) h ∙ undumped e n in let g = ap (goes_on_with op.Dump 0) d in absurd (cc (f, g))

module _ (w : World) (P Q : List PlainObject) (t : ℕ) (y : Logged) (l : ThreadView) (v : Fits w P) (a : IsLogging w P Q t y l) where
  mine : AreOfDumps t l.log (w.known t).shots l.unfinished
  mine = subst (λ z. AreOfDumps t z (w.known t).shots l.unfinished) (sym a.grows) (by_entry (dump_or_not y.entry))
    where
      by_entry : IsDump y.entry ⊎ IsNoDump y.entry → AreOfDumps t ((w.known t).log ++ y ∷ []) (w.known t).shots l.unfinished
      by_entry (inl d) =
          let last : IsOfLastShot (w.known t) (Dump d.number) = subst (IsOfLastShot (w.known t)) d.is a.own.shot in
          dumps_dump t (w.known t).log y (w.known t).shots (w.known t).unfinished l.unfinished (d.is ∙ ap Dump last.0) last.1 (v.shots.dumps t)
      by_entry (inr n) =
          dumps_other t (w.known t).log y (w.known t).shots (w.known t).unfinished l.unfinished n
          (λ d. elim a.own.operation [ inl e ↦ absurd (cc (e, d)) | inr h ↦ no_dump (w.known t).unfinished y.entry n h d ]) (v.shots.dumps t)

  -- whatever it has unfinished afterwards
  pub shots_logged : ShotsFit w.shape.objects (logs_from 0 w.shape.threads (with_known t l w.known))
      (λ u. (with_known t l w.known u).log) (λ u. (w.known u).shots) (λ u. (with_known t l w.known u).unfinished)
  shots_logged =
      subst (λ z. ShotsFit w.shape.objects z (λ u. (with_known t l w.known u).log) (λ u. (w.known u).shots)
      (λ u. (with_known t l w.known u).unfinished)) (sym (logs_are w P Q t y l v a))
      (shots_with w.shape.objects (logs w) t y l w.known (may_log w P Q t y l v a) mine v.shots)
