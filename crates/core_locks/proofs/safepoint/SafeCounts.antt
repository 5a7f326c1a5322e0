-- What a thread goes on to count on after its step on the safepoint word.
use Rattle.core_locks.proofs.Prelude.{◌≡◌, ℕ, Bool, true, false, List, [], ap, ◌∙◌, inl, inr, PlainObject, WordId, Safepoint, Prototype}
use Rattle.core_locks.proofs.Prelude.{Mark, Waiting, Revocations, LastBulk, is_biased, monitor_in, waits_on, ThreadView, StepMade, World}
use Rattle.core_locks.proofs.Prelude.{owner_at, waits_at, StaysWhileRunning, StaysWhileAsking, only_headers, is_header, Fits, SeenFit}
use Rattle.core_locks.proofs.Prelude.{IsOfMonitor, headers_are_part, Counts, IsPart, counts_anew, unwaited_fits, Class}

-- what is left of a thread's sights after the release of its safepoint
abbrev pub headers_seen : World → ℕ → List StepMade
headers_seen w t = only_headers (w.known t).unfinished (w.known t).seen_at_safepoint

module _ (w : World) (P : List PlainObject) (t word : ℕ) (l : ThreadView) where
  -- the safepoint word is of no monitor
  of_none : (m : ℕ) → IsOfMonitor m Safepoint → ⊥
  of_none m e = absurd (cc e)

  -- what stays while a request stands stays while the thread runs
  asking_runs : (owner : ℕ → ℕ → Bool) (n : WordId) (s : ℕ) → StaysWhileAsking w n s → StaysWhileRunning w (w.known t) owner t n s
  asking_runs owner (Prototype c) s h = tt
  asking_runs owner (Revocations c) s h = tt
  asking_runs owner (LastBulk c) s h = tt
  asking_runs owner (Mark o) s h = inl h
  asking_runs owner (Class o) s h = h
  asking_runs owner _ s h = absurd h

  -- a thread that ran, and runs no more: what it counts on, since its request stands, it could count on while it ran
  pub counts_stopped : (old : List StepMade) → IsPart old (w.known t).seen → (w.known t).running ≡ true
      → l.running ≡ false → SeenFit w P → Counts Safepoint word t l w (owner_at P) (waits_at P) old
  counts_stopped old part runs stops h = record {
    others = λ n s e a st. elim st [
      | inl b ↦ let r = b.0 in absurd (cc (r, stops))
      | inr b ↦ h.stays t n s (part n s e) (inl (runs, asking_runs (owner_at P) n s b.2))
    ];
    unbiased = λ o s e g r. h.unbiased t o s (part (Mark o) s e) (inl runs) g;
    classed = λ o s e g r. h.saw_classed t o s (part (Mark o) s e) (inl runs) g;
    unwaiting = λ u o s e a g r. absurd (cc (r, stops));
    unwaited = λ o s e r a g. absurd (cc (r, stops));
    idle = λ o e r a g. absurd (cc (r, stops));
    monitors = λ m s r e. absurd (cc (r, stops));
    fresh = λ m r is. absurd (of_none m is);
  }

  -- a thread that begins anew
  pub counts_begun : Counts Safepoint word t l w (owner_at P) (waits_at P) []
  counts_begun = counts_anew Safepoint word t l w (owner_at P) (waits_at P) (λ o e r a g. absurd (cc e)) (λ m r is. absurd (of_none m is))

  -- a thread that leaves its reached safepoint, where each word is as it saw it
  pub counts_since : (w.known t).reached ≡ true → l.kept ≡ (w.known t).kept → Fits w P
      → Counts Safepoint word t l w (owner_at P) (waits_at P) (headers_seen w t)
  counts_since reached kept v = record {
    others = λ n s e a st. v.seen.stands t n s reached (part n s e);
    unbiased = λ o s e g r. ap is_biased (v.seen.stands t (Mark o) s reached (part (Mark o) s e)) ∙ g;
    classed = λ o s e g r. v.seen.classed o (ap is_biased (v.seen.stands t (Mark o) s reached (part (Mark o) s e)) ∙ g);
    unwaiting = λ u o s e a g r. ap (λ z. waits_on z o) (v.seen.stands t (Waiting u) s reached (part (Waiting u) s e)) ∙ g;
    unwaited = λ o s e r a g. unwaited_fits w P v o (ap monitor_in (v.seen.stands t (Mark o) s reached (part (Mark o) s e)) ∙ g);
    idle = λ o e r a g. absurd (cc e);
    monitors = λ m s r e. absurd (no_monitor e.0 (headers_are_part (w.known t).unfinished (w.known t).seen_at_safepoint e.0 s e.2).0 m e.1);
    fresh = λ m r is. absurd (of_none m is);
  }
    where
      part : IsPart (headers_seen w t) (w.known t).seen_at_safepoint
      part n s e = (headers_are_part (w.known t).unfinished (w.known t).seen_at_safepoint n s e).1

      -- a header or a prototype is of no monitor
      no_monitor : (n : WordId) → is_header (w.known t).unfinished n ≡ true → (m : ℕ) → IsOfMonitor m n → ⊥
      no_monitor (Mark o) h m e = absurd (cc e)
      no_monitor (Prototype c) h m e = absurd (cc e)
      no_monitor (Class o) h m e = absurd (cc e)
      no_monitor _ h m e = absurd (cc h)
