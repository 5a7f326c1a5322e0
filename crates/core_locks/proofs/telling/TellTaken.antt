-- What a thread that is free to log an entry owns, and what entries make of the plain objects that keep their monitors and hashes.
use Rattle.core_locks.proofs.Prelude.{◌≡◌, ℕ, ◌<◌, true, List, length, slice_set, Some, None, refl, sym, ap, ◌∙◌, arith, same_Some}
use Rattle.core_locks.proofs.Prelude.{PlainObject, take_entry, take_at, Entry, bound_to, Settled, ThreadView, World, object_of}
use Rattle.core_locks.proofs.Prelude.{monitor_of, owner_at, hash_at, Fits, log_limit, draw_in, thread_is, HasHold}
use Rattle.plain_monitor.specs.Objects as plain
use Rattle.core_locks.proofs.hash.Drawing.{bound_undrawn}
use Rattle.core_world.proofs.Updates.{takes, monitors_stay, hashes_stay}
use Rattle.core_locks.proofs.WaitOut.{holder_owns, ready_is_out}

-- The thread runs in the middle of nothing, its waiting word is Ready, and its log has room.
pub record IsFreeToTell (k : ThreadView) : Type 0 where
  pub runs : k.running ≡ true
  pub calm : k.stage ≡ Settled
  pub ready : k.wait ≡ 0
  pub room : length k.log < log_limit

-- it owns each object that it holds
pub owns_held : (w : World) (P : List PlainObject) (t : ℕ) → Fits w P → IsFreeToTell (w.known t) → (o : ℕ) → HasHold (w.known t) o → owner_at P o t ≡ true
owns_held w P t v free o holds = (holder_owns w P t v (ready_is_out (w.known t) free.ready) o free.calm holds).0

-- an object has one owner
pub one_owner : (P : List PlainObject) (o t u : ℕ) → owner_at P o t ≡ true → owner_at P o u ≡ true → u ≡ t
one_owner P o t u e f = same_Some u t (sym (thread_is (monitor_of P o).owner u f) ∙ thread_is (monitor_of P o).owner t e)

-- an object of the shape is there
pub object_there : (w : World) (P : List PlainObject) (o : ℕ) → Fits w P → o < length w.shape.objects → o < length P
object_there w P o v h = omega (arith, v.sized, h)

-- The objects P take an entry of thread t and become Q, which have the same monitors and hashes. If the entry is bound to an object, the
-- thread is the owner of that.
pub record IsTaken (P Q : List PlainObject) (t : ℕ) (e : Entry) : Type 0 where
  pub taken : take_entry P t e ≡ Some Q
  pub owned : (o : ℕ) → bound_to e ≡ Some o → owner_at P o t ≡ true
  pub monitors : monitor_of P ≡ monitor_of Q
  pub hashes : hash_at P ≡ hash_at Q
  pub undrawn : draw_in e ≡ None

-- an entry that names no object
pub unbound_taken : (P : List PlainObject) (t : ℕ) (e : Entry) → take_entry P t e ≡ Some P → bound_to e ≡ None → draw_in e ≡ None → IsTaken P P t e
unbound_taken P t e taken unbound undrawn = record { undrawn = undrawn; taken = taken; owned = λ o b. absurd (cc (b, unbound)); monitors = refl; hashes = refl }

-- an entry of an object's owner, which makes z of the object
pub owner_taken : (P : List PlainObject) (t o : ℕ) (e : Entry) (z : PlainObject)
    → o < length P → owner_at P o t ≡ true → bound_to e ≡ Some o → plain.named e ≡ Some o
    → z.monitor ≡ monitor_of P o → z.hash ≡ (object_of P o).hash → take_at (object_of P o) t e ≡ Some z → IsTaken P (slice_set P o z) t e
owner_taken P t o e z within own bound names monitor hash taken =
    let owned : (i : ℕ) → bound_to e ≡ Some i → owner_at P i t ≡ true = λ i b. ap (λ j. owner_at P j t) (same_Some i o (sym b ∙ bound)) ∙ own in
    search (bound_undrawn e o bound, takes P o t e z within names taken, owned, monitors_stay P o z within monitor, hashes_stay P o z within hash)
