-- Entries that don't go alone: after them another thread doesn't take what it might have taken before.
use Rattle.std.proofs.Common.{◌≡◌, ◌≢◌, ℕ, Bool, true, false, ◌&&◌, nat_le, nat_lt, ◌^◌, ◌==◌, List, [], ◌∷◌, slice_get}
use Rattle.std.proofs.Common.{slice_set, Option, Some, None, is_none, refl, sym, ap, ◌∙◌, subst, eqb-true, eq-eqb}
use Rattle.std.proofs.lemmas.Bool.{false≢true}
use Rattle.std.proofs.lemmas.Option.{none-some, same_Some, cond_some}
use Rattle.plain_monitor.specs.declared.entry.Path.{Path}
use Rattle.plain_monitor.specs.declared.entry.Entry.{Entry}
use Rattle.plain_monitor.specs.declared.entry.Entry.TheVariants.{Enter, Resume, Hash}
use Rattle.plain_monitor.specs.Monitor.{PlainMonitor, owns, is_outside, count_of, resumed, enter, resume}
use Rattle.plain_monitor.specs.Objects.{PlainObject, hashed, with_monitor, with_hash, take_at, take_named, named}
use Rattle.plain_monitor.proofs.Lists.{get_set_same}
use Rattle.object_program.specs.Program.{ProgramText}
use Rattle.plain_machine.specs.Machine.{PlainMachine, take}
use Rattle.machine_laws.proofs.ReachedAsked.{taken, taken_at}
use Rattle.every_outcome.specs.Alone.{is_hash}
use Rattle.every_outcome.specs.Covered.{IsSeen, GoesAlone, IsClosed, TakesNothing}
use Rattle.every_outcome.proofs.Commute.{only_hashes}

-- object o after an entry that names it
record IsAfter (a : PlainMachine) (o t : ℕ) (e : Entry) : Type 0 where
  x : PlainObject
  y : PlainObject
  takes : take_at x t e ≡ Some y
  there : slice_get a.objects o ≡ Some y

after_at : (m a : PlainMachine) (o t : ℕ) (e : Entry) → named e ≡ Some o → take m t e ≡ Some a → IsAfter a o t e
after_at m a o t e at takes =
    let k = taken m t e a takes in
    let l = taken_at m.objects o t e k.objects (ap (take_named m.objects t e) (sym at) ∙ k.takes) in
    let is : slice_set m.objects o l.y ≡ a.objects = l.is ∙ ap (λ (z : PlainMachine). z.objects) k.is in
    record {
      x = l.x;
      y = l.y;
      takes = l.takes;
      there = subst (λ (xs : List PlainObject). slice_get xs o ≡ Some l.y) is (get_set_same m.objects o l.x l.y l.there);
    }

-- what object o, which is y, takes next
taken_next : (a b : PlainMachine) (y : PlainObject) (o u : ℕ) (f : Entry) → slice_get a.objects o ≡ Some y → named f ≡ Some o → take a u f ≡ Some b
    → (z : PlainObject) × (take_at y u f ≡ Some z)
taken_next a b y o u f there at takes =
    let k = taken a u f b takes in
    let l = taken_at a.objects o u f k.objects (ap (take_named a.objects u f) (sym at) ∙ k.takes) in
    (l.y, subst (λ (z : PlainObject). take_at z u f ≡ Some l.y) (same_Some l.x y (sym l.there ∙ there)) l.takes)

-- who enters or resumes is the owner
entered_owns : (m n : PlainMonitor) (t : ℕ) → enter m t ≡ Some n → owns n t ≡ true
entered_owns m n t h = go (owns m t) refl
  where
    go : (b : Bool) → owns m t ≡ b → owns n t ≡ true
    go true own = subst (λ (z : PlainMonitor). owns z t ≡ true) (same_Some _ n (rw own at h)) own
    go false own =
        subst (λ (z : PlainMonitor). owns z t ≡ true) (cond_some (is_none m.owner && is_outside m t) _ n (rw own at h)).1 (eq-eqb t t refl)

resumed_owns : (m n : PlainMonitor) (t : ℕ) (c : Option ℕ) → resumed m t c ≡ Some n → owns n t ≡ true
resumed_owns m n t None h = absurd (none-some n h)
resumed_owns m n t (Some c) h = subst (λ (z : PlainMonitor). owns z t ≡ true) (cond_some (is_none m.owner) _ n h).1 (eq-eqb t t refl)

with_owner : (x y : PlainObject) (t : ℕ) (r : Option PlainMonitor) → ((n : PlainMonitor) → r ≡ Some n → owns n t ≡ true) → with_monitor x r ≡ Some y
    → owns y.monitor t ≡ true
with_owner x y t None own h = absurd (none-some y h)
with_owner x y t (Some n) own h = subst (λ (z : PlainObject). owns z.monitor t ≡ true) (same_Some _ y h) (own n refl)

-- where t owns the object, another thread takes only hashes of it
owner_shuts_out : (a b : PlainMachine) (y : PlainObject) (t u o : ℕ) (f : Entry) → t ≢ u → owns y.monitor t ≡ true → slice_get a.objects o ≡ Some y
    → named f ≡ Some o → is_hash f ≡ false → take a u f ≡ Some b → ⊥
owner_shuts_out a b y t u o f apart own there at no_hash takes =
    let next = taken_next a b y o u f there at takes in
    false≢true (sym no_hash ∙ only_hashes y next.0 t u o f apart own at next.1)

never : (r : Option PlainMachine) → ((b : PlainMachine) → r ≡ Some b → ⊥) → r ≡ None
never None h = refl
never (Some b) h = absurd (h b refl)

pub enter_shuts_out : (m a : PlainMachine) (t u o : ℕ) (p q : Path) → t ≢ u → take m t (Enter o p) ≡ Some a → take a u (Enter o q) ≡ None
enter_shuts_out m a t u o p q apart takes =
    let k = after_at m a o t (Enter o p) refl takes in
    let own : owns k.y.monitor t ≡ true = with_owner k.x k.y t (enter k.x.monitor t) (λ n. entered_owns k.x.monitor n t) k.takes in
    never (take a u (Enter o q)) (λ b. owner_shuts_out a b k.y t u o (Enter o q) apart own k.there refl refl)

pub resume_shuts_out : (m a : PlainMachine) (t u o : ℕ) → t ≢ u → take m t (Resume o) ≡ Some a → take a u (Resume o) ≡ None
resume_shuts_out m a t u o apart takes =
    let k = after_at m a o t (Resume o) refl takes in
    let own : owns k.y.monitor t ≡ true =
    with_owner k.x k.y t (resume k.x.monitor t) (λ n. resumed_owns k.x.monitor n t (count_of k.x.monitor.called t)) k.takes in
    never (take a u (Resume o)) (λ b. owner_shuts_out a b k.y t u o (Resume o) apart own k.there refl refl)

-- a hash stays what it is
hash_becomes : (x y : PlainObject) (v : ℕ) (h : Option ℕ) → with_hash x (hashed h v) ≡ Some y → y.hash ≡ Some v
hash_becomes x y v None h = go (nat_le 1 v && nat_lt v (2 ^ 31)) refl
  where
    go : (b : Bool) → (nat_le 1 v && nat_lt v (2 ^ 31)) ≡ b → y.hash ≡ Some v
    go true e = ap (λ (z : PlainObject). z.hash) (sym (same_Some _ y (rw e at h)))
    go false e = absurd (none-some y (rw e at h))
hash_becomes x y v (Some w) h = go (w == v) refl
  where
    go : (b : Bool) → (w == v) ≡ b → y.hash ≡ Some v
    go true e = ap (λ (z : PlainObject). z.hash) (sym (same_Some _ y (rw e at h))) ∙ ap Some (eqb-true w v e)
    go false e = absurd (none-some y (rw e at h))

pub hash_shuts_out : (m a : PlainMachine) (t u o v w : ℕ) (d g : Option ℕ) → v ≢ w → take m t (Hash o v d) ≡ Some a → take a u (Hash o w g) ≡ None
hash_shuts_out m a t u o v w d g apart takes = never (take a u (Hash o w g)) (λ b takes2. both (taken_next a b k.y o u (Hash o w g) k.there refl takes2))
  where
    k : IsAfter a o t (Hash o v d)
    k = after_at m a o t (Hash o v d) refl takes

    has : k.y.hash ≡ Some v
    has = hash_becomes k.x k.y v k.x.hash k.takes

    both : (z : PlainObject) × (take_at k.y u (Hash o w g) ≡ Some z) → ⊥
    both next = go (v == w) refl (subst (λ (h : Option ℕ). with_hash k.y (hashed h w) ≡ Some next.0) has next.1)
      where
        go : (b : Bool) → (v == w) ≡ b → with_hash k.y (hashed (Some v) w) ≡ Some next.0 → ⊥
        go true e h = apart (eqb-true v w e)
        go false e h = none-some next.0 (rw e at h)

-- a machine that takes nothing is covered only where it is of the list
pub end_is_left_out : (p : ProgramText) (fuel : ℕ) (seen : List PlainMachine) (m n : PlainMachine) (t : ℕ) (e : Entry) → IsSeen seen m → take m t e ≡ Some n
    → TakesNothing n → (IsSeen seen n → ⊥) → IsClosed p fuel seen → ⊥
end_is_left_out p fuel seen m n t e here takes over missing closed =
    let c = closed.next m n t e here takes in go c.entries c.machine c.alone c.is_seen
  where
    go : (xs : List (ℕ × Entry)) (to : PlainMachine) → GoesAlone n xs to → IsSeen seen to → ⊥
    go [] to alone there = missing (subst (IsSeen seen) (sym alone) there)
    go (x ∷ xs) to alone there = over x.0 x.1 alone.0 alone.2

-- another hash leads elsewhere
pub other_hash : (m a : PlainMachine) (t o v w : ℕ) (d g : Option ℕ) → v ≢ w → take m t (Hash o v d) ≡ Some a
    → take m t (Hash o v d) ≡ take m t (Hash o w g) → ⊥
other_hash m a t o v w d g apart takes same =
    let k = after_at m a o t (Hash o v d) refl takes in
    let l = after_at m a o t (Hash o w g) refl (sym same ∙ takes) in
    let one : k.y ≡ l.y = same_Some k.y l.y (sym k.there ∙ l.there) in
    let left : k.y.hash ≡ Some v = hash_becomes k.x k.y v k.x.hash k.takes in
    let right : l.y.hash ≡ Some w = hash_becomes l.x l.y w l.x.hash l.takes in
    apart (same_Some v w (sym left ∙ ap (λ (z : PlainObject). z.hash) one ∙ right))
