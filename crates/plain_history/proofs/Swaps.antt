-- Entries that are not tied can be taken the other way round.
use Rattle.std.proofs.Common.{◌≡◌, ℕ, zero, suc, ◌≢◌, ◌⊎◌, ◌^◌, Bool, true, false, ◌&&◌, ◌==◌, nat_lt, nat_le, List, [], ◌∷◌, length, refl}
use Rattle.std.proofs.Common.{ap, sym, ◌∙◌, arith, inl, inr, Option, Some, None, slice_get, slice_set, option_map, option_and_then}
use Rattle.std.proofs.lemmas.Bool.Decides.{nat_tests}
use Rattle.std.proofs.lemmas.Bool.{cases_eq}
use Rattle.std.proofs.lemmas.List.{set_comm}
use Rattle.std.proofs.lemmas.Option.{cond_some}
use Rattle.plain_monitor.proofs.Lists.{get_set_same, get_set_other}
use Rattle.plain_monitor.specs.declared.entry.Entry.{Entry}
use Rattle.plain_monitor.specs.declared.entry.Entry.TheVariants.{Enter, Exit, Get, Put, Wait, Resume, Notify, NotifyAll}
use Rattle.plain_monitor.specs.declared.entry.Entry.TheVariants.{Hash, New, Print, Dump, Trap, Spent, Done}
use Rattle.plain_monitor.specs.Monitor.{PlainMonitor, only_if, owns, enter, exit, wait, resume, notify, notify_all}
use Rattle.plain_monitor.specs.Objects.{PlainObject, take_at, take_named, take_entry, named, with_monitor, with_hash, hashed, has_value}
use Rattle.plain_history.specs.Tied.{bound_to, is_same_object, is_tied}

-- the object with another hash
abbrev pub rehashed : Option ℕ → PlainObject → PlainObject
rehashed h x = record x { hash = h }

-- a step of the monitor passes a change of the hash by
monitor_frame : (x : PlainObject) (m : Option PlainMonitor) (h : Option ℕ) → with_monitor (rehashed h x) m ≡ option_map (rehashed h) (with_monitor x m)
monitor_frame x None h = refl
monitor_frame x (Some n) h = refl

-- a test passes a change of the hash by
only_frame : (b : Bool) (x : PlainObject) (h : Option ℕ) → only_if b (rehashed h x) ≡ option_map (rehashed h) (only_if b x)
only_frame true x h = refl
only_frame false x h = refl

-- an entry that neither reads nor writes the hash
pub record IsPlain (e : Entry) : Type 0 where
  pub bound : bound_to e ≡ named e
  pub frame : (x : PlainObject) (t : ℕ) (h : Option ℕ) → take_at (rehashed h x) t e ≡ option_map (rehashed h) (take_at x t e)

-- an entry that reads and writes the hash alone
pub record IsHash (e : Entry) : Type 0 where
  pub value : ℕ
  pub bound : bound_to e ≡ None
  pub acts : (x : PlainObject) (t : ℕ) → take_at x t e ≡ with_hash x (hashed x.hash value)

-- each entry is one or the other
pub plain_or_hash : (e : Entry) → IsPlain e ⊎ IsHash e
plain_or_hash (Enter o p) = inl (record { bound = refl; frame = λ x t h. monitor_frame x (enter x.monitor t) h })
plain_or_hash (Exit o) = inl (record { bound = refl; frame = λ x t h. monitor_frame x (exit x.monitor t) h })
plain_or_hash (Wait o) = inl (record { bound = refl; frame = λ x t h. monitor_frame x (wait x.monitor t) h })
plain_or_hash (Resume o) = inl (record { bound = refl; frame = λ x t h. monitor_frame x (resume x.monitor t) h })
plain_or_hash (Notify o w) = inl (record { bound = refl; frame = λ x t h. monitor_frame x (notify x.monitor t w) h })
plain_or_hash (NotifyAll o n) = inl (record { bound = refl; frame = λ x t h. monitor_frame x (notify_all x.monitor t n) h })
plain_or_hash (Get o s v) = inl (record { bound = refl; frame = λ x t h. only_frame (owns x.monitor t && has_value (slice_get x.slots s) v) x h })
plain_or_hash (Put o s v) = inl (record {
  bound = refl;
  frame = λ x t h. only_frame (owns x.monitor t && nat_lt s (length x.slots)) (record x { slots = slice_set x.slots s v }) h;
})
plain_or_hash (Hash o v d) = inr (record { value = v; bound = refl; acts = λ x t. refl })
plain_or_hash (New o c) = inl (record { bound = refl; frame = λ x t h. refl })
plain_or_hash (Print v) = inl (record { bound = refl; frame = λ x t h. refl })
plain_or_hash (Dump n) = inl (record { bound = refl; frame = λ x t h. refl })
plain_or_hash (Trap f i) = inl (record { bound = refl; frame = λ x t h. refl })
plain_or_hash Spent = inl (record { bound = refl; frame = λ x t h. refl })
plain_or_hash Done = inl (record { bound = refl; frame = λ x t h. refl })

-- a plain entry leaves the hash
plain_keeps_hash : (e : Entry) → IsPlain e → (x y : PlainObject) (t : ℕ) → take_at x t e ≡ Some y → y.hash ≡ x.hash
plain_keeps_hash e p x y t h =
    let k = p.frame x t x.hash in
    let same : Some (rehashed x.hash y) ≡ Some y = cc in
    let r : rehashed x.hash y ≡ y = cc in
    sym (ap (λ z. z.hash) r)

-- the object that takes a hash entry gets that hash
pub hash_taken : (x y : PlainObject) (h : Option (Option ℕ)) → with_hash x h ≡ Some y → (k : Option ℕ) × (h ≡ Some k) × (rehashed k x ≡ y)
hash_taken x y None e = absurd (cc e)
hash_taken x y (Some k) e = (k, refl, cc e)

-- what an entry made of an object that had its hash changed, it makes of the object
frame_taken : (k : Option ℕ) (m : Option PlainObject) (z : PlainObject)
    → option_map (rehashed k) m ≡ Some z → (w : PlainObject) × (m ≡ Some w) × (rehashed k w ≡ z)
frame_taken k None z e = absurd (cc e)
frame_taken k (Some w) z e = (w, refl, cc e)

-- a hash that was taken is there, and may be taken again
hash_reads : (h : Option ℕ) (v : ℕ) (k : Option ℕ) → hashed h v ≡ Some k → (k ≡ Some v) × (hashed k v ≡ Some k)
hash_reads None v k p =
    let r = cond_some (nat_le 1 v && nat_lt v (2 ^ 31)) (Some v) k p in
    let same : (v == v) ≡ true = grind (arith, nat_tests) in
    (sym r.1, rw (← r.1, same) refl)
hash_reads (Some w) v k p =
    let r = cond_some (w == v) (Some w) k p in
    let same : w ≡ v = grind (arith, nat_tests, r.0) in
    (cc (r.1, same), rw (← r.1, r.0) refl)

-- two hashes that are taken agree, and may be taken the other way round
hashes_swap : (h : Option ℕ) (v w : ℕ) (k l : Option ℕ) → hashed h v ≡ Some k → hashed k w ≡ Some l → (hashed h w ≡ Some k) × (hashed k v ≡ Some l)
hashes_swap h v w k l p q =
    let r = hash_reads h v k p in
    let s : hashed (Some v) w ≡ Some l = rw r.0 at q in
    let e = cond_some (v == w) (Some v) l s in
    let same : v ≡ w = grind (arith, nat_tests, e.0) in
    (rw same at p, r.1 ∙ cc (r.0, e.1))

-- object x takes f of thread u, then e of thread t, and is then z
abbrev pub TakesTurned : Entry → Entry → PlainObject → ℕ → ℕ → PlainObject → Type 0
TakesTurned e f x t u z = (w : PlainObject) × (take_at x u f ≡ Some w) × (take_at w t e ≡ Some z)

-- a hash that an object takes, another with the same hash takes too
hash_later : (e : Entry) (h : IsHash e) (x w z : PlainObject) (k : Option ℕ) (t : ℕ)
    → w.hash ≡ x.hash → hashed x.hash h.value ≡ Some k → rehashed k w ≡ z → take_at w t e ≡ Some z
hash_later e h x w z k t kept is last =
    let same : hashed w.hash h.value ≡ Some k = ap (λ j. hashed j h.value) kept ∙ is in
    h.acts w t ∙ ap (with_hash w) same ∙ ap Some last

-- a hash and then a plain entry
hash_plain : (e f : Entry) → IsHash e → IsPlain f → (x y z : PlainObject) (t u : ℕ) → take_at x t e ≡ Some y → take_at y u f ≡ Some z → TakesTurned e f x t u z
hash_plain e f h g x y z t u p q =
    let a = hash_taken x y (hashed x.hash h.value) (sym (h.acts x t) ∙ p) in
    let b = frame_taken a.0 (take_at x u f) z (sym (g.frame x u a.0) ∙ ap (λ v. take_at v u f) a.2 ∙ q) in
    (b.0, b.1, hash_later e h x b.0 z a.0 t (plain_keeps_hash f g x b.0 u b.1) a.1 b.2)

-- a plain entry and then a hash
plain_hash : (e f : Entry) → IsPlain e → IsHash f → (x y z : PlainObject) (t u : ℕ) → take_at x t e ≡ Some y → take_at y u f ≡ Some z → TakesTurned e f x t u z
plain_hash e f g h x y z t u p q =
    let kept : y.hash ≡ x.hash = plain_keeps_hash e g x y t p in
    let a = hash_taken y z (hashed y.hash h.value) (sym (h.acts y u) ∙ q) in
    let b : hashed x.hash h.value ≡ Some a.0 = ap (λ k. hashed k h.value) (sym kept) ∙ a.1 in
    (rehashed a.0 x, h.acts x u ∙ ap (with_hash x) b, g.frame x t a.0 ∙ ap (option_map (rehashed a.0)) p ∙ ap Some a.2)

-- two hashes
hash_hash : (e f : Entry) → IsHash e → IsHash f → (x y z : PlainObject) (t u : ℕ) → take_at x t e ≡ Some y → take_at y u f ≡ Some z → TakesTurned e f x t u z
hash_hash e f h g x y z t u p q =
    let a = hash_taken x y (hashed x.hash h.value) (sym (h.acts x t) ∙ p) in
    let q' : with_hash (rehashed a.0 x) (hashed a.0 g.value) ≡ Some z = sym (g.acts (rehashed a.0 x) u) ∙ ap (λ v. take_at v u f) a.2 ∙ q in
    let b = hash_taken (rehashed a.0 x) z (hashed a.0 g.value) q' in
    let s = hashes_swap x.hash h.value g.value a.0 b.0 a.1 b.1 in
    (rehashed a.0 x, g.acts x u ∙ ap (with_hash x) s.0, h.acts (rehashed a.0 x) t ∙ ap (with_hash (rehashed a.0 x)) s.1 ∙ ap Some b.2)

-- one object takes two entries the other way round, where one of them is bound to none
at_swap : (e f : Entry) → IsPlain e ⊎ IsHash e → IsPlain f ⊎ IsHash f
    → (bound_to e ≡ None) ⊎ (bound_to f ≡ None) → (o : ℕ) → named e ≡ Some o → named f ≡ Some o
    → (x y z : PlainObject) (t u : ℕ) → take_at x t e ≡ Some y → take_at y u f ≡ Some z → TakesTurned e f x t u z
at_swap e f (inr h) (inr g) any o ne nf = hash_hash e f h g
at_swap e f (inr h) (inl g) any o ne nf = hash_plain e f h g
at_swap e f (inl g) (inr h) any o ne nf = plain_hash e f g h
at_swap e f (inl g) (inl h) (inl b) o ne nf = absurd (cc (g.bound, b, ne))
at_swap e f (inl g) (inl h) (inr b) o ne nf = absurd (cc (h.bound, b, nf))

-- objects that take an entry which names o take it at o: x is there before and y after
pub record TakenAt (objects after : List PlainObject) (t : ℕ) (e : Entry) (o : ℕ) : Type 0 where
  pub x : PlainObject
  pub y : PlainObject
  pub was : slice_get objects o ≡ Some x
  pub step : take_at x t e ≡ Some y
  pub is : after ≡ slice_set objects o y

-- by the outcomes of the look-up and of the step
taken_by_cases : (objects after : List PlainObject) (t : ℕ) (e : Entry) (o : ℕ) (x : Option PlainObject) (y : Option PlainObject)
    → slice_get objects o ≡ x → option_and_then (λ v. take_at v t e) x ≡ y
    → take_named objects t e (Some o) ≡ Some after → TakenAt objects after t e o
taken_by_cases objects after t e o None y hx hy h = absurd (cc (rw hx at h))
taken_by_cases objects after t e o (Some x) None hx hy h = let k = rw (hx, hy) at h in absurd (cc k)
taken_by_cases objects after t e o (Some x) (Some y) hx hy h = let k = rw (hx, hy) at h in record { x = x; y = y; was = hx; step = hy; is = cc k }

-- an entry that names o is taken at o
pub taken_at : (objects after : List PlainObject) (t : ℕ) (e : Entry) (o : ℕ) → take_named objects t e (Some o) ≡ Some after → TakenAt objects after t e o
taken_at objects after t e o h =
    taken_by_cases objects after t e o (slice_get objects o) (option_and_then (λ v. take_at v t e) (slice_get objects o)) refl refl h

-- where one object takes an entry that names it, the objects take it
take_here : (objects : List PlainObject) (t : ℕ) (e : Entry) (o : ℕ) (x y : PlainObject) → slice_get objects o ≡ Some x → take_at x t e ≡ Some y
    → take_named objects t e (Some o) ≡ Some (slice_set objects o y)
take_here objects t e o x y was step = rw (was, step) refl

-- what is set twice is as it was set last
set_again : {A : Type 0} (xs : List A) (i : ℕ) (x y : A) → slice_set (slice_set xs i x) i y ≡ slice_set xs i y
set_again [] i x y = refl
set_again (w ∷ xs) zero x y = refl
set_again (w ∷ xs) (suc i) x y = ap (λ ys. w ∷ ys) (set_again xs i x y)

-- the objects take f of thread u, then e of thread t, and are then these, where f names of and e names oe
abbrev pub AllTakeTurned : List PlainObject → List PlainObject → ℕ → Entry → Option ℕ → ℕ → Entry → Option ℕ → Type 0
AllTakeTurned before after t e oe u f of = (middle : List PlainObject) × (take_named before u f of ≡ Some middle) × (take_named middle t e oe ≡ Some after)

-- where one object takes two entries that name it the other way round, the objects do
turn_same : (e f : Entry) (o : ℕ) (before middle after : List PlainObject) (x y z w : PlainObject) (t u : ℕ) → slice_get before o ≡ Some x
    → middle ≡ slice_set before o y → after ≡ slice_set middle o z → take_at x u f ≡ Some w
    → take_at w t e ≡ Some z → AllTakeTurned before after t e (Some o) u f (Some o)
turn_same e f o before middle after x y z w t u was first second p q =
    let last : slice_set (slice_set before o w) o z ≡ after =
    set_again before o w z ∙ sym (set_again before o y z) ∙ ap (λ xs. slice_set xs o z) (sym first) ∙ sym second in
    (slice_set before o w, take_here before u f o x w was p, take_here (slice_set before o w) t e o w z (get_set_same before o x w was) q ∙ ap Some last)

-- two entries that name one object, where one of them is bound to none
swap_same : (e f : Entry) → (bound_to e ≡ None) ⊎ (bound_to f ≡ None) → (o : ℕ)
    → named e ≡ Some o → named f ≡ Some o → (before middle after : List PlainObject) (t u : ℕ)
    → take_named before t e (Some o) ≡ Some middle → take_named middle u f (Some o) ≡ Some after → AllTakeTurned before after t e (Some o) u f (Some o)
swap_same e f any o ne nf before middle after t u p q =
    let a = taken_at before middle t e o p in
    let b = taken_at middle after u f o q in
    let there : slice_get middle o ≡ Some a.y = ap (λ xs. slice_get xs o) a.is ∙ get_set_same before o a.x a.y a.was in
    let same : a.y ≡ b.x = cc (there, b.was) in
    let w = at_swap e f (plain_or_hash e) (plain_or_hash f) any o ne nf a.x a.y b.y t u a.step (ap (λ v. take_at v u f) same ∙ b.step) in
    turn_same e f o before middle after a.x a.y b.y w.0 t u a.was a.is b.is w.1 w.2

-- where two objects take the entries that name them, the objects take them the other way round
turn_apart : (e f : Entry) (o i : ℕ) (before middle after : List PlainObject) (x y v z : PlainObject) (t u : ℕ)
    → o ≢ i → slice_get before o ≡ Some x → take_at x t e ≡ Some y
    → middle ≡ slice_set before o y → slice_get middle i ≡ Some v → take_at v u f ≡ Some z
    → after ≡ slice_set middle i z → AllTakeTurned before after t e (Some o) u f (Some i)
turn_apart e f o i before middle after x y v z t u apart was p first now q second =
    let there : slice_get before i ≡ Some v = sym (get_set_other before o i y apart) ∙ ap (λ xs. slice_get xs i) (sym first) ∙ now in
    let here : slice_get (slice_set before i z) o ≡ Some x = get_set_other before i o z (λ s. apart (sym s)) ∙ was in
    let last : slice_set (slice_set before i z) o y ≡ after = sym (set_comm before o i y z apart) ∙ ap (λ xs. slice_set xs i z) (sym first) ∙ sym second in
    (slice_set before i z, take_here before u f i v z there q, take_here (slice_set before i z) t e o x y here p ∙ ap Some last)

-- two entries that name two objects
swap_apart : (e f : Entry) (o i : ℕ) → o ≢ i → (before middle after : List PlainObject) (t u : ℕ)
    → take_named before t e (Some o) ≡ Some middle → take_named middle u f (Some i) ≡ Some after → AllTakeTurned before after t e (Some o) u f (Some i)
swap_apart e f o i apart before middle after t u p q =
    let a = taken_at before middle t e o p in
    let b = taken_at middle after u f i q in
    turn_apart e f o i before middle after a.x a.y b.x b.y t u apart a.was a.step a.is b.was b.step b.is

-- of two entries that name one object and are not tied, one is bound to none
one_is_hash : (e f : Entry) → IsPlain e ⊎ IsHash e → IsPlain f ⊎ IsHash f → (o : ℕ) → named e ≡ Some o
    → named f ≡ Some o → is_tied e f ≡ false → (bound_to e ≡ None) ⊎ (bound_to f ≡ None)
one_is_hash e f (inr h) g o ne nf apart = inl h.bound
one_is_hash e f (inl g) (inr h) o ne nf apart = inr h.bound
one_is_hash e f (inl g) (inl h) o ne nf apart =
    let r : is_same_object (Some o) (Some o) ≡ false = rw (g.bound ∙ ne, h.bound ∙ nf) at apart in
    absurd (grind (arith, nat_tests, r))

-- the swap, by what the two entries name
swap_named : (e f : Entry) (oe of : Option ℕ) → named e ≡ oe → named f ≡ of → is_tied e f ≡ false → (before middle after : List PlainObject) (t u : ℕ)
    → take_named before t e oe ≡ Some middle → take_named middle u f of ≡ Some after → AllTakeTurned before after t e oe u f of
swap_named e f None of ne nf apart before middle after t u p q = let same : before ≡ middle = cc p in (after, ap (λ xs. take_named xs u f of) same ∙ q, refl)
swap_named e f (Some o) None ne nf apart before middle after t u p q = let same : middle ≡ after = cc q in (before, refl, p ∙ ap Some same)
swap_named e f (Some o) (Some i) ne nf apart before middle after t u p q =
    elim (cases_eq o i) [
      | inl s ↦
          let nf' : named f ≡ Some o = nf ∙ ap Some (sym s) in
          let any = one_is_hash e f (plain_or_hash e) (plain_or_hash f) o ne nf' apart in
          let w = swap_same e f any o ne nf' before middle after t u p (ap (λ k. take_named middle u f (Some k)) s ∙ q) in
          (w.0, ap (λ k. take_named before u f (Some k)) (sym s) ∙ w.1, w.2)
      | inr d ↦ swap_apart e f o i d before middle after t u p q
    ]

-- what the objects make of e and then of f, they make of f and then of e, where the two are not tied
pub take_swap : (e f : Entry) → is_tied e f ≡ false → (before middle after : List PlainObject) (t u : ℕ)
    → take_entry before t e ≡ Some middle → take_entry middle u f ≡ Some after
    → (other : List PlainObject) × (take_entry before u f ≡ Some other) × (take_entry other t e ≡ Some after)
take_swap e f apart before middle after t u p q = swap_named e f (named e) (named f) refl refl apart before middle after t u p q

-- an entry leaves the objects that it does not name
pub elsewhere : (before after : List PlainObject) (t : ℕ) (e : Entry) (o i : ℕ)
    → take_entry before t e ≡ Some after → named e ≡ Some o → o ≢ i → slice_get after i ≡ slice_get before i
elsewhere before after t e o i h n d =
    let a = taken_at before after t e o (ap (λ k. take_named before t e k) (sym n) ∙ h) in
    ap (λ xs. slice_get xs i) a.is ∙ get_set_other before o i a.y d

-- an entry names the object that it is bound to
pub bound_is_named : (e : Entry) (o : ℕ) → bound_to e ≡ Some o → named e ≡ Some o
bound_is_named e o h =
    elim (plain_or_hash e) [
      | inl g ↦ sym g.bound ∙ h
      | inr g ↦ absurd (cc (g.bound, h))
    ]
