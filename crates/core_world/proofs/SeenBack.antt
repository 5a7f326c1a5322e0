-- What a thread may count on after a step it could count on before.
use Rattle.std.proofs.Common.{◌≡◌, ℕ, ◌||◌, Bool, true, Some, None, subst, inl, inr}
use Rattle.mark_word.specs.Mark.{read_mark}
use Rattle.core_world.specs.declared.word_id.WordId.{WordId}
use Rattle.core_world.specs.declared.word_id.WordId.TheVariants.{Mark, Stamp, Slot, Displaced}
use Rattle.core_world.specs.declared.word_id.WordId.TheVariants.{Waiting, Owner, Recursions, Header, Object}
use Rattle.core_world.specs.Words.Forms.{monitor_in}
use Rattle.core_world.specs.Threads.Stages.{Inflation, inflation_in, bears, revocation_in}
use Rattle.core_world.specs.Threads.ThreadView.{ThreadView}
use Rattle.core_world.specs.World.{World}
use Rattle.core_world.specs.Locks.{marks, prototype_of}
use Rattle.core_world.specs.Clauses.SeenWords.{Stays, StaysWhileRunning, StaysWhileAsking, IsValidBias, IsOwnMonitor}

-- in world w thread u knew k, and in x it knows l; the plain owners were `owner`, and are `next`
pub record Back (w x : World) (k l : ThreadView) (owner next : ℕ → ℕ → Bool) (u : ℕ) : Type 0 where
  pub run : l.running ≡ true → k.running ≡ true
  pub ask : l.requesting ≡ true → k.requesting ≡ true
  pub inflates : (i : Inflation) → inflation_in l.stage ≡ Some i → inflation_in k.stage ≡ Some i
  pub not_revoking : revocation_in l.stage ≡ None → revocation_in k.stage ≡ None
  pub kept : (m : ℕ) → l.kept ≡ Some m → k.kept ≡ Some m
  pub prototype : (o : ℕ) → prototype_of x o ≡ prototype_of w o
  pub monitor : (o m : ℕ) → monitor_in (marks x o) ≡ Some m → monitor_in (marks w o) ≡ Some m
  pub owned : (o : ℕ) → next o u ≡ true → owner o u ≡ true
  pub held : (o m : ℕ) → monitor_in (marks x o) ≡ Some m → (next o u || bears l.stage o) ≡ true → (owner o u || bears k.stage o) ≡ true

module _ (w x : World) (k l : ThreadView) (owner next : ℕ → ℕ → Bool) (u : ℕ) (b : Back w x k l owner next u) where
  own_back : (m : ℕ) → IsOwnMonitor x l next u m → IsOwnMonitor w k owner u m
  own_back m h = (h.0, b.monitor h.0 m h.1, b.held h.0 m h.1 h.2)

  running_back : (n : WordId) (v : ℕ) → StaysWhileRunning x l next u n v → StaysWhileRunning w k owner u n v
  running_back (Mark o) v (inl h) = inl (subst (IsValidBias (read_mark v)) (b.prototype o) h)
  running_back (Mark o) v (inr (inl h)) = inr (inl h)
  running_back (Mark o) v (inr (inr (inl h))) = inr (inr (inl (h.0, b.inflates h.0 h.1, h.2)))
  running_back (Mark o) v (inr (inr (inr h))) = inr (inr (inr (h.0, b.owned o h.1)))
  running_back (Stamp o) v h = b.owned o h
  running_back (Slot o i) v h = b.owned o h
  running_back (Displaced t p) v (inl h) = inl h
  running_back (Displaced t p) v (inr h) = inr (h.0, b.inflates h.0 h.1, h.2)
  running_back (Waiting t) v (inl h) = inl (h.0, b.owned h.0 h.1, h.2)
  running_back (Waiting t) v (inr h) = inr h
  running_back (Owner m) v (inl h) = inl (b.kept m h)
  running_back (Owner m) v (inr h) = inr (own_back m h)
  running_back (Recursions m) v (inl h) = inl (b.kept m h)
  running_back (Recursions m) v (inr h) = inr (own_back m h)
  running_back (Header m) v h = b.kept m h
  running_back (Object m) v h = b.kept m h
  running_back _ v h = h

  asking_back : (n : WordId) (v : ℕ) → StaysWhileAsking x n v → StaysWhileAsking w n v
  asking_back (Mark o) v h = subst (IsValidBias (read_mark v)) (b.prototype o) h
  asking_back _ v h = h

  pub stays_back : (n : WordId) (v : ℕ) → Stays x l next u n v → Stays w k owner u n v
  stays_back n v (inl h) = inl (b.run h.0, running_back n v h.1)
  stays_back n v (inr h) = inr (b.ask h.0, b.not_revoking h.1, asking_back n v h.2)
