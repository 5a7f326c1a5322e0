-- Parts of a revocation at a safepoint, as the code makes them.
use Rattle.std.specs.Prelude.{ℕ, ◌+◌, ◌%◌, ◌==◌, ◌<◌, ◌++◌, if◌then◌else◌, Bool, false, List, [], ◌∷◌, Option, Some}
use Rattle.plain_monitor.specs.Limits.{most_holds}
use Rattle.mark_word.specs.declared.mark.MarkForm.{MarkForm}
use Rattle.mark_word.specs.declared.mark.MarkForm.TheVariants.{Neutral, Locked}
use Rattle.mark_word.specs.Hold.{read_hold}
use Rattle.mark_word.specs.Mark.{mark_of, read_mark}
use Rattle.core_world.specs.declared.word_id.WordId.TheVariants.{Prototype, Revocations, LastBulk, Mark, Hold, Displaced}
use Rattle.core_world.specs.Locks.{is_valid_bias}
use Rattle.core_world.specs.RevocationRules.{Write, write, raised_form, with_epoch, store_where, object_held, record_writes, first_place}
use Rattle.core_world.specs.Threads.Stages.{Revocation}
use Rattle.core_world.specs.Trees.Plans.{CallContext, load}
use Rattle.core_world.specs.Trees.RevocationSteps.{look, store_steps, revoke_at, revoke_steps, visit_held, walk_steps, take_bias_steps}
use Rattle.core_world.specs.Trees.RevocationSteps.{RevocationOutcome, decided_steps}
use Rattle.core_world.specs.Trees.StepTree.{StepTree, done, unreachable, ◌>>=◌, ask, each_from, all_from}
use Rattle.core_world.specs.Words.Forms.{names, hold_word, epoch_in, is_biased}
use Rattle.core_world.specs.Words.Shape.{Shape}
use Rattle.safepoint_work.specs.declared.visit.Visit.{Visit}
use Rattle.safepoint_work.specs.declared.visit.Visit.TheVariants.{Renew, Revoke}

-- the loads of thread t's hold words
abbrev pub holds_steps : CallContext → Revocation → ℕ → StepTree (List ℕ)
holds_steps e b t = each_from 0 most_holds (λ p. look e b (Hold t p))

-- the displaced word of t's record with hold word h at place p, where it is one of o
abbrev pub record_write : ℕ → ℕ → ℕ → ℕ → List Write
record_write o t p h =
    if names o h then write (Displaced t p) (if h == hold_word o 1 then mark_of (Neutral 0 0) else 0) ∷ []
    else []

abbrev pub record_steps : CallContext → Revocation → ℕ → ℕ → ℕ → ℕ → StepTree (Unit {0})
record_steps e b o t p h = store_steps e b (record_write o t p h)

-- o becomes locked by t's first record, where these are t's hold words
abbrev pub mark_locked : ℕ → ℕ → List ℕ → List Write
mark_locked o t hs = write (Mark o) (mark_of (Locked t (first_place o hs))) ∷ []

abbrev pub locked_steps : CallContext → Revocation → ℕ → ℕ → List ℕ → StepTree (Unit {0})
locked_steps e b o t hs = store_steps e b (record_writes o t 0 hs ++ mark_locked o t hs)

-- WHAT A WALK DOES with a biased object, by the form of its mark
abbrev pub visit_form : Visit → Option MarkForm → CallContext → Revocation → ℕ → StepTree (Unit {0})
visit_form (Renew epoch) f e b o = store_steps e b (store_where (Mark o) (with_epoch f (Some epoch)))
visit_form Revoke f e b o = revoke_at f e b o false

abbrev pub visit_by : Visit → CallContext → Revocation → ℕ → ℕ → StepTree (Unit {0})
visit_by v e b o mark = visit_form v (read_mark mark) e b o

-- with the object o of the class, where its mark is biased
abbrev pub object_steps : CallContext → Revocation → Visit → ℕ → StepTree (Unit {0})
object_steps e b v o = do
  mark ← look e b (Mark o)
  if is_biased mark then visit_by v e b o mark else done tt

-- the epoch is in its range
abbrev pub IsVisit : Visit → Type 0
IsVisit (Renew epoch) = epoch < 4
IsVisit Revoke = Unit {0}

-- with what thread t's record at place p names, with those of all its places, and of all threads
abbrev pub place_steps : Shape → ℕ → CallContext → Revocation → Visit → ℕ → ℕ → StepTree (Unit {0})
place_steps s c e b v t p = do
  hold ← look e b (Hold t p)
  visit_held s c e b (visit_by v e b) (object_held (read_hold hold))

abbrev pub thread_steps : Shape → ℕ → CallContext → Revocation → Visit → ℕ → StepTree (Unit {0})
thread_steps s c e b v t = all_from 0 most_holds (λ p. place_steps s c e b v t p)

-- OF A BULK REBIAS: after the walk, where the class's epoch is this one; with the walk; and with the store of the next epoch before it
abbrev pub rebiased_steps : CallContext → Revocation → ℕ → ℕ → StepTree Bool
rebiased_steps e b epoch t = do
  _ ← revoke_steps e b b.object b.rebias
  if b.rebias then take_bias_steps e b (Some epoch) t else done false

abbrev pub renewed_steps : Shape → ℕ → ℕ → CallContext → Revocation → ℕ → StepTree Bool
renewed_steps s t c e b epoch = do
  _ ← walk_steps s c e b (visit_by (Renew epoch) e b)
  rebiased_steps e b epoch t

abbrev pub raised_steps : Shape → ℕ → ℕ → CallContext → Revocation → ℕ → StepTree Bool
raised_steps s t c e b epoch = do
  _ ← store_steps e b (raised_form (Some epoch) c)
  renewed_steps s t c e b ((epoch + 1) % 4)

-- OF A BULK REVOKE: the walk, and the store of the neutral prototype before it
abbrev pub unbiased_steps : Shape → ℕ → CallContext → Revocation → StepTree (Unit {0})
unbiased_steps s c e b = do
  _ ← walk_steps s c e b (visit_by Revoke e b)
  revoke_steps e b b.object false

abbrev pub neutral_steps : Shape → ℕ → CallContext → Revocation → StepTree (Unit {0})
neutral_steps s c e b = do
  _ ← store_steps e b (write (Prototype c) (mark_of (Neutral 0 0)) ∷ [])
  unbiased_steps s c e b

-- OF A REVOCATION AT A SAFEPOINT: where the object's mark is this one, and its class this one
abbrev pub decide_steps : Shape → ℕ → CallContext → Revocation → ℕ → ℕ → StepTree RevocationOutcome
decide_steps s t e b mark c = do
  prototype ← ask (load e (Prototype c))
  count ← ask (load e (Revocations c))
  last ← ask (load e (LastBulk c))
  if is_valid_bias (read_mark mark) prototype
      then decided_steps s t c e b (epoch_in prototype) count last else unreachable
