-- What an entry is that fits what a thread asks, and that two that the objects take are the same but for the path.
use Rattle.std.proofs.Common.{◌≡◌, ℕ, ◌==◌, ◌&&◌, not, cond, Bool, true, false, eqb-true, List, [], ◌∷◌, length}
use Rattle.std.proofs.Common.{slice_get, slice_index_or, Option, Some, None, is_some, refl, sym, ap, ◌∙◌, subst}
use Rattle.std.proofs.lemmas.Bool.{and_parts, false≢true}
use Rattle.std.proofs.lemmas.Option.{cond_some, same_Some}
use Rattle.plain_monitor.specs.declared.entry.Value.{Value}
use Rattle.plain_monitor.specs.declared.entry.Fault.{Fault}
use Rattle.plain_monitor.specs.declared.entry.Fault.TheVariants.{IllegalMonitorState, Unguarded, NotRef, NotInt}
use Rattle.plain_monitor.specs.declared.entry.Fault.TheVariants.{Range, Overflow, TooDeep, TooManyDumps, TooMany}
use Rattle.plain_monitor.specs.declared.entry.Ending.{Ending}
use Rattle.plain_monitor.specs.declared.entry.Ending.TheVariants as ending
use Rattle.plain_monitor.specs.declared.entry.Entry.{Entry}
use Rattle.plain_monitor.specs.declared.entry.Entry.TheVariants as entry
use Rattle.plain_monitor.specs.declared.entry.Path.{Path}
use Rattle.plain_monitor.specs.Monitor.{PlainMonitor, owns, calls, notify, notify_all}
use Rattle.plain_monitor.specs.Objects.{PlainObject, take_at, take_entry, same_value, has_value, hashed, with_monitor, with_hash}
use Rattle.plain_history.proofs.Swaps.{TakenAt, taken_at}
use Rattle.core_world.specs.Clauses.Draws.{draw_in, IsNextDraw}
use Rattle.plain_machine.specs.declared.monitor_call.MonitorCall.{MonitorCall}
use Rattle.plain_machine.specs.declared.monitor_call.MonitorCall.TheVariants as call
use Rattle.plain_machine.specs.declared.monitor_call.NextEntry.{NextEntry}
use Rattle.plain_machine.specs.declared.monitor_call.NextEntry.TheVariants.{Calls, Resumes, Leaves, Ends}
use Rattle.plain_machine.specs.Asking.{fits, is_call, is_ending, is_resume, is_exit, fault_number}
use Rattle.plain_machine.specs.Offering.{oldest}
use Rattle.plain_monitor.specs.Endings.{ending_entry}
use Rattle.machine_laws.proofs.ReachedObjects.{same_is}
use Rattle.single_thread_law.specs.LoneRun.{without_path}
use Rattle.single_thread_law.proofs.Drawing.{IsDrawnFirst}
use Rattle.single_thread_law.proofs.Hashed.{HaveHashes}

-- WHAT FITS
-- the entry is what a thread asks for, with any answer
abbrev IsOfCall : MonitorCall → Entry → Type 0
IsOfCall (call.Enter o) e = (path : Path) × (e ≡ entry.Enter o path)
IsOfCall (call.Exit o) e = e ≡ entry.Exit o
IsOfCall (call.Wait o) e = e ≡ entry.Wait o
IsOfCall (call.Notify o) e = (woken : Option ℕ) × (e ≡ entry.Notify o woken)
IsOfCall (call.NotifyAll o) e = (woken : ℕ) × (e ≡ entry.NotifyAll o woken)
IsOfCall (call.Get x o k) e = (value : Value) × (e ≡ entry.Get o k value)
IsOfCall (call.Put o k v) e = e ≡ entry.Put o k v
IsOfCall (call.Hash x o) e = (value : ℕ) × (drawn : Option ℕ) × (e ≡ entry.Hash o value drawn)
IsOfCall (call.New x c) e = (object : ℕ) × (e ≡ entry.New object c)
IsOfCall (call.Print v) e = e ≡ entry.Print v
IsOfCall (call.Dump n) e = e ≡ entry.Dump n

abbrev pub IsOf : NextEntry → Entry → Type 0
IsOf (Calls c) e = IsOfCall c e
IsOf (Resumes o) e = e ≡ entry.Resume o
IsOf (Leaves o) e = e ≡ entry.Exit o
IsOf (Ends g) e = e ≡ ending_entry g

-- numbers that are told the same
same_number : (a b : ℕ) → (a == b) ≡ true → b ≡ a
same_number a b h = sym (eqb-true a b h)

of_call : (c : MonitorCall) (e : Entry) → is_call c e ≡ true → IsOfCall c e
of_call (call.Enter o) (entry.Enter k path) h = (path, ap (λ i. entry.Enter i path) (same_number o k h))
of_call (call.Exit o) (entry.Exit k) h = ap entry.Exit (same_number o k h)
of_call (call.Wait o) (entry.Wait k) h = ap entry.Wait (same_number o k h)
of_call (call.Notify o) (entry.Notify k woken) h = (woken, ap (λ i. entry.Notify i woken) (same_number o k h))
of_call (call.NotifyAll o) (entry.NotifyAll k woken) h = (woken, ap (λ i. entry.NotifyAll i woken) (same_number o k h))
of_call (call.Get x o k) (entry.Get i j value) h =
    let both = and_parts (o == i) (k == j) h in
    (value, ap (λ a. entry.Get a j value) (same_number o i both.0) ∙ ap (λ b. entry.Get o b value) (same_number k j both.1))
of_call (call.Put o k v) (entry.Put i j w) h =
    let all = and_parts ((o == i) && (k == j)) (same_value v w) h in
    let both = and_parts (o == i) (k == j) all.0 in
    ap (λ a. entry.Put a j w) (same_number o i both.0) ∙ ap (λ b. entry.Put o b w) (same_number k j both.1)
    ∙ ap (λ u. entry.Put o k u) (sym (same_is v w all.1))
of_call (call.Hash x o) (entry.Hash k value drawn) h = (value, drawn, ap (λ i. entry.Hash i value drawn) (same_number o k h))
of_call (call.New x c) (entry.New object d) h = (object, ap (λ i. entry.New object i) (same_number c d h))
of_call (call.Print v) (entry.Print w) h = ap entry.Print (sym (same_is v w h))
of_call (call.Dump n) (entry.Dump k) h = ap entry.Dump (same_number n k h)
of_call _ e h = absurd (false≢true h)

-- a fault by its number
abbrev fault_with : ℕ → Fault
fault_with n = slice_index_or (IllegalMonitorState ∷ Unguarded ∷ NotRef ∷ NotInt ∷ Range ∷ Overflow ∷ TooDeep ∷ TooManyDumps ∷ []) n TooMany

its_fault : (f : Fault) → fault_with (fault_number f) ≡ f
its_fault IllegalMonitorState = refl
its_fault _ = refl

same_fault : (f g : Fault) → (fault_number f == fault_number g) ≡ true → g ≡ f
same_fault f g h = sym (its_fault g) ∙ ap fault_with (same_number (fault_number f) (fault_number g) h) ∙ its_fault f

of_ending : (g : Ending) (e : Entry) → is_ending g e ≡ true → e ≡ ending_entry g
of_ending (ending.Trap f i) (entry.Trap k j) h =
    let both = and_parts (fault_number f == fault_number k) (i == j) h in
    ap (λ x. entry.Trap x j) (same_fault f k both.0) ∙ ap (λ y. entry.Trap f y) (same_number i j both.1)
of_ending ending.Spent entry.Spent h = refl
of_ending ending.Done entry.Done h = refl
of_ending _ e h = absurd (false≢true h)

of_resume : (o : ℕ) (e : Entry) → is_resume o e ≡ true → e ≡ entry.Resume o
of_resume o (entry.Resume k) h = ap entry.Resume (same_number o k h)
of_resume o e h = absurd (false≢true h)

of_exit : (o : ℕ) (e : Entry) → is_exit o e ≡ true → e ≡ entry.Exit o
of_exit o (entry.Exit k) h = ap entry.Exit (same_number o k h)
of_exit o e h = absurd (false≢true h)

pub of_asked : (a : NextEntry) (e : Entry) → fits a e ≡ true → IsOf a e
of_asked (Calls c) e h = of_call c e h
of_asked (Resumes o) e h = of_resume o e h
of_asked (Leaves o) e h = of_exit o e h
of_asked (Ends g) e h = of_ending g e h

-- WHAT THE OBJECTS ANSWER
-- thread t's entry e is taken by the objects
abbrev pub IsTaken : List PlainObject → ℕ → Entry → Type 0
IsTaken objects t e = (after : List PlainObject) × (take_entry objects t e ≡ Some after)

-- two entries at one object, which takes both
record AreTakenAt (objects : List PlainObject) (t o : ℕ) (e f : Entry) : Type 0 where
  x : PlainObject
  was : slice_get objects o ≡ Some x
  one : PlainObject
  other : PlainObject
  takes : take_at x t e ≡ Some one
  takes_other : take_at x t f ≡ Some other

both_at : (objects : List PlainObject) (t o : ℕ) (e f : Entry) (after others : List PlainObject) → TakenAt objects after t e o → TakenAt objects others t f o
    → AreTakenAt objects t o e f
both_at objects t o e f after others r q =
    record {
      x = r.x;
      was = r.was;
      one = r.y;
      other = q.y;
      takes = r.step;
      takes_other = subst (λ (z : PlainObject). take_at z t f ≡ Some q.y) (same_Some q.x r.x (sym q.was ∙ r.was)) q.step;
    }

value_read : (slot : Option Value) (v w : Value) → has_value slot v ≡ true → has_value slot w ≡ true → v ≡ w
value_read None v w h g = absurd (false≢true h)
value_read (Some u) v w h g = sym (same_is u v h) ∙ same_is u w g

same_get : (objects : List PlainObject) (t o k : ℕ) (v w : Value) → AreTakenAt objects t o (entry.Get o k v) (entry.Get o k w) → v ≡ w
same_get objects t o k v w r =
    let a = (cond_some (owns r.x.monitor t && has_value (slice_get r.x.slots k) v) r.x r.one r.takes).0 in
    let b = (cond_some (owns r.x.monitor t && has_value (slice_get r.x.slots k) w) r.x r.other r.takes_other).0 in
    value_read (slice_get r.x.slots k) v w
    (and_parts (owns r.x.monitor t) (has_value (slice_get r.x.slots k) v) a).1
    (and_parts (owns r.x.monitor t) (has_value (slice_get r.x.slots k) w) b).1

-- a monitor that moved with its object
pub moved_monitor : (x y : PlainObject) (r : Option PlainMonitor) → with_monitor x r ≡ Some y → (n : PlainMonitor) × (r ≡ Some n)
moved_monitor x y None h = absurd (cc h)
moved_monitor x y (Some n) h = (n, refl)

woken_is_oldest : (m n : PlainMonitor) (ws : List (ℕ × ℕ)) (woken : Option ℕ) → calls m ws woken ≡ Some n → woken ≡ oldest ws
woken_is_oldest m n [] None h = refl
woken_is_oldest m n [] (Some u) h = absurd (cc h)
woken_is_oldest m n (w ∷ ws) None h = absurd (cc h)
woken_is_oldest m n (w ∷ ws) (Some u) h = ap Some (same_number w.0 u (cond_some (w.0 == u) _ n h).0)

notified : (m n : PlainMonitor) (t : ℕ) (woken : Option ℕ) → notify m t woken ≡ Some n → woken ≡ oldest m.waits
notified m n t woken h = by_owner (owns m t) h
  where
    by_owner : (b : Bool) → cond b (calls m m.waits woken) None ≡ Some n → woken ≡ oldest m.waits
    by_owner true g = woken_is_oldest m n m.waits woken g
    by_owner false g = absurd (cc g)

all_notified : (m n : PlainMonitor) (t k : ℕ) → notify_all m t k ≡ Some n → k ≡ length m.waits
all_notified m n t k h =
    let test = (cond_some (owns m t && (length m.waits == k)) _ n h).0 in
    same_number (length m.waits) k (and_parts (owns m t) (length m.waits == k) test).1

same_woken : (objects : List PlainObject) (t o : ℕ) (v w : Option ℕ) → AreTakenAt objects t o (entry.Notify o v) (entry.Notify o w) → v ≡ w
same_woken objects t o v w r =
    let a = moved_monitor r.x r.one (notify r.x.monitor t v) r.takes in
    let b = moved_monitor r.x r.other (notify r.x.monitor t w) r.takes_other in
    notified r.x.monitor a.0 t v a.1 ∙ sym (notified r.x.monitor b.0 t w b.1)

same_many : (objects : List PlainObject) (t o v w : ℕ) → AreTakenAt objects t o (entry.NotifyAll o v) (entry.NotifyAll o w) → v ≡ w
same_many objects t o v w r =
    let a = moved_monitor r.x r.one (notify_all r.x.monitor t v) r.takes in
    let b = moved_monitor r.x r.other (notify_all r.x.monitor t w) r.takes_other in
    all_notified r.x.monitor a.0 t v a.1 ∙ sym (all_notified r.x.monitor b.0 t w b.1)

-- HASHES
-- a hash that is the object's own
own_hash : (x y : PlainObject) (w v : ℕ) → with_hash x (hashed (Some w) v) ≡ Some y → v ≡ w
own_hash x y w v h = by_same (w == v) refl h
  where
    by_same : (b : Bool) → (w == v) ≡ b → with_hash x (cond b (Some (Some w)) None) ≡ Some y → v ≡ w
    by_same true is g = same_number w v is
    by_same false is g = absurd (cc g)

-- values and draws of two hashes of an object of which one was seen or none
record AreSameHashes (v w : ℕ) (d g : Option ℕ) : Type 0 where
  value : v ≡ w
  drawn : d ≡ g

-- of an object that was not seen both are the next draw
both_drawn : (first n o v w : ℕ) (d g : Option ℕ) → is_some d ≡ true → is_some g ≡ true → IsNextDraw first n (draw_in (entry.Hash o v d))
    → IsNextDraw first n (draw_in (entry.Hash o w g)) → AreSameHashes v w d g
both_drawn first n o v w None g h k a b = absurd (false≢true h)
both_drawn first n o v w (Some i) None h k a b = absurd (false≢true k)
both_drawn first n o v w (Some i) (Some j) h k a b = record { value = a.1 ∙ sym b.1; drawn = ap Some (a.0 ∙ sym b.0) }

-- of one that was seen neither is drawn, and both have its hash
both_told : (x y z : PlainObject) (old : Option ℕ) (v w : ℕ) (d g : Option ℕ) → is_some old ≡ true → is_some d ≡ false → is_some g ≡ false
    → with_hash x (hashed old v) ≡ Some y → with_hash x (hashed old w) ≡ Some z → AreSameHashes v w d g
both_told x y z None v w d g has h k a b = absurd (false≢true has)
both_told x y z (Some u) v w None None has h k a b = record { value = own_hash x y u v a ∙ sym (own_hash x z u w b); drawn = refl }
both_told x y z (Some u) v w (Some i) g has h k a b = absurd (false≢true (sym h))
both_told x y z (Some u) v w None (Some j) has h k a b = absurd (false≢true (sym k))

-- what both logs say of draws before the entry
pub record AreBefore (objects : List PlainObject) (seen : ℕ → Bool) (first n : ℕ) (e f : Entry) : Type 0 where
  pub hashes : HaveHashes seen objects
  pub drawn : IsDrawnFirst seen e
  pub drawn_other : IsDrawnFirst seen f
  pub next : IsNextDraw first n (draw_in e)
  pub next_other : IsNextDraw first n (draw_in f)

same_hash : (objects : List PlainObject) (seen : ℕ → Bool) (first n t o v w : ℕ) (d g : Option ℕ)
    → AreTakenAt objects t o (entry.Hash o v d) (entry.Hash o w g) → AreBefore objects seen first n (entry.Hash o v d) (entry.Hash o w g)
    → AreSameHashes v w d g
same_hash objects seen first n t o v w d g r b = by_seen (seen o) refl
  where
    by_seen : (s : Bool) → seen o ≡ s → AreSameHashes v w d g
    by_seen true s =
        both_told r.x r.one r.other r.x.hash v w d g (b.hashes o r.x s r.was) (b.drawn ∙ ap not s) (b.drawn_other ∙ ap not s) r.takes r.takes_other
    by_seen false s = both_drawn first n o v w d g (b.drawn ∙ ap not s) (b.drawn_other ∙ ap not s) b.next b.next_other

-- ONE ENTRY
-- what is made of two entries that are these
abbrev AreSame : Entry → Entry → Type 0
AreSame e f = without_path e ≡ without_path f

-- where both make an object, it is the same one
abbrev pub MakeTheSame : Entry → Entry → Type 0
MakeTheSame e f = (o p c : ℕ) → e ≡ entry.New o c → f ≡ entry.New p c → o ≡ p

module _ (objects : List PlainObject) (seen : ℕ → Bool) (first n t : ℕ) where
  at_call : (c : MonitorCall) (e f : Entry) → IsOfCall c e → IsOfCall c f → IsTaken objects t e → IsTaken objects t f
      → MakeTheSame e f → AreBefore objects seen first n e f → AreSame e f
  at_call (call.Enter o) e f a b h k made w = ap without_path a.1 ∙ sym (ap without_path b.1)
  at_call (call.New x c) e f a b h k made w = ap without_path (a.1 ∙ ap (λ i. entry.New i c) (made a.0 b.0 c a.1 b.1) ∙ sym b.1)
  at_call (call.Notify o) e f a b h k made w =
      let r = taken_at objects h.0 t (entry.Notify o a.0) o (subst (λ x. take_entry objects t x ≡ Some h.0) a.1 h.1) in
      let q = taken_at objects k.0 t (entry.Notify o b.0) o (subst (λ x. take_entry objects t x ≡ Some k.0) b.1 k.1) in
      let same = same_woken objects t o a.0 b.0 (both_at objects t o _ _ h.0 k.0 r q) in
      ap without_path (a.1 ∙ ap (λ u. entry.Notify o u) same ∙ sym b.1)
  at_call (call.NotifyAll o) e f a b h k made w =
      let r = taken_at objects h.0 t (entry.NotifyAll o a.0) o (subst (λ x. take_entry objects t x ≡ Some h.0) a.1 h.1) in
      let q = taken_at objects k.0 t (entry.NotifyAll o b.0) o (subst (λ x. take_entry objects t x ≡ Some k.0) b.1 k.1) in
      let same = same_many objects t o a.0 b.0 (both_at objects t o _ _ h.0 k.0 r q) in
      ap without_path (a.1 ∙ ap (λ u. entry.NotifyAll o u) same ∙ sym b.1)
  at_call (call.Get x o i) e f a b h k made w =
      let r = taken_at objects h.0 t (entry.Get o i a.0) o (subst (λ x. take_entry objects t x ≡ Some h.0) a.1 h.1) in
      let q = taken_at objects k.0 t (entry.Get o i b.0) o (subst (λ x. take_entry objects t x ≡ Some k.0) b.1 k.1) in
      let same = same_get objects t o i a.0 b.0 (both_at objects t o _ _ h.0 k.0 r q) in
      ap without_path (a.1 ∙ ap (λ v. entry.Get o i v) same ∙ sym b.1)
  at_call (call.Hash x o) e f a b h k made w =
      let r = taken_at objects h.0 t (entry.Hash o a.0 a.1) o (subst (λ x. take_entry objects t x ≡ Some h.0) a.2 h.1) in
      let q = taken_at objects k.0 t (entry.Hash o b.0 b.1) o (subst (λ x. take_entry objects t x ≡ Some k.0) b.2 k.1) in
      let before : AreBefore objects seen first n (entry.Hash o a.0 a.1) (entry.Hash o b.0 b.1) =
      subst (λ y. AreBefore objects seen first n (entry.Hash o a.0 a.1) y) b.2 (subst (λ y. AreBefore objects seen first n y f) a.2 w) in
      let same = same_hash objects seen first n t o a.0 b.0 a.1 b.1 (both_at objects t o _ _ h.0 k.0 r q) before in
      ap without_path (a.2 ∙ ap (λ v. entry.Hash o v a.1) same.value ∙ ap (λ d. entry.Hash o b.0 d) same.drawn ∙ sym b.2)
  at_call _ e f a b h k made w = ap without_path (a ∙ sym b)

  -- two entries that fit what the thread asks, and that the objects take, are the same but for the path
  pub same_entry : (a : NextEntry) (e f : Entry) → fits a e ≡ true → fits a f ≡ true → IsTaken objects t e → IsTaken objects t f
      → MakeTheSame e f → AreBefore objects seen first n e f → without_path e ≡ without_path f
  same_entry (Calls c) e f x y h k made w = at_call c e f (of_call c e x) (of_call c f y) h k made w
  same_entry (Resumes o) e f x y h k made w = ap without_path (of_resume o e x ∙ sym (of_resume o f y))
  same_entry (Leaves o) e f x y h k made w = ap without_path (of_exit o e x ∙ sym (of_exit o f y))
  same_entry (Ends g) e f x y h k made w = ap without_path (of_ending g e x ∙ sym (of_ending g f y))
