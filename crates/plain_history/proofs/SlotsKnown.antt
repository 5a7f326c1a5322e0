-- What slots refer to stays known, and who owns an object knows what its slots refer to.
use Rattle.std.proofs.Common.{◌≡◌, ℕ, zero, suc, ◌<◌, ◌≢◌, ◌⊎◌, ◌==◌, ◌||◌, Bool, true, false, cond, List, [], ◌∷◌}
use Rattle.std.proofs.Common.{◌++◌, length, replicate, slice_set, slice_get, refl, ap, sym, ◌∙◌, subst, arith, inl}
use Rattle.std.proofs.Common.{inr, Option, Some, None, pos, append_assoc, get_or-set_other, get_or-set_same}
use Rattle.std.proofs.lemmas.Bool.Decides.{nat_tests}
use Rattle.std.proofs.lemmas.Option.{cond_some, same_Some}
use Rattle.std.specs.List.{AllByRecursion, list_any}
use Rattle.plain_monitor.specs.declared.entry.Value.{Value}
use Rattle.plain_monitor.specs.declared.entry.Value.TheVariants.{Int, Ref}
use Rattle.plain_monitor.specs.declared.entry.Entry.{Entry}
use Rattle.plain_monitor.specs.declared.entry.Entry.TheVariants.{Enter, Exit, Get, Put, Wait, Resume, Notify, NotifyAll}
use Rattle.plain_monitor.specs.declared.entry.Entry.TheVariants.{Hash, New, Print, Dump, Trap, Spent, Done}
use Rattle.plain_monitor.specs.declared.entry.Logged.{Logged}
use Rattle.plain_monitor.specs.Monitor.{PlainMonitor}
use Rattle.plain_monitor.specs.Objects.{PlainObject, new_objects, take_at, take_named, take_entry, with_monitor, with_hash}
use Rattle.plain_monitor.specs.Order.{order, of_thread}
use Rattle.plain_monitor.specs.History.{RisesAbove, last_stamp, log_of, appended, run_all}
use Rattle.plain_monitor.specs.Made.{Numbering, made_by, creates, needs, may_create, take_created, take_made, nothing_made, made_after}
use Rattle.plain_monitor.proofs.Threads.{thread_kept}
use Rattle.plain_history.specs.Tied.{bound_to}
use Rattle.plain_history.specs.Stamps.{bound_of, IsAboveBounds, BoundsRise}
use Rattle.plain_history.specs.Known.{IsKnownAt, IsKnown, SlotsAreKnown, class_made, news}
use Rattle.plain_history.proofs.Swaps.{taken_at, bound_is_named}
use Rattle.plain_history.proofs.Bounds.{bound_or_not, bound_grows, monitor_left}
use Rattle.plain_monitor.proofs.Lists.{get_set_same}
use Rattle.plain_history.proofs.Passing.{first_run}
use Rattle.plain_history.proofs.MadeSteps.{grown, all_there, creating}
use Rattle.plain_history.proofs.MadeHistories.{known_stays}

-- THE SLOTS OF AN OBJECT after an entry: as they were, or as it put them
abbrev HasSlot : PlainObject → ℕ → ℕ → Type 0
HasSlot x i o = slice_get x.slots i ≡ Some (Ref o)

slots_by_monitor : (x y : PlainObject) (m : Option PlainMonitor) → with_monitor x m ≡ Some y → x.slots ≡ y.slots
slots_by_monitor x y None h = absurd (cc h)
slots_by_monitor x y (Some n) h = ap (λ (v : PlainObject). v.slots) (same_Some _ _ h)

slots_by_hash : (x y : PlainObject) (k : Option (Option ℕ)) → with_hash x k ≡ Some y → x.slots ≡ y.slots
slots_by_hash x y None h = absurd (cc h)
slots_by_hash x y (Some n) h = ap (λ (v : PlainObject). v.slots) (same_Some _ _ h)

slot_set : (xs : List Value) (s i : ℕ) (v w : Value) → slice_get (slice_set xs s v) i ≡ Some w → (slice_get xs i ≡ Some w) ⊎ (v ≡ w)
slot_set [] s i v w h = inl h
slot_set (x ∷ xs) zero zero v w h = inr (same_Some v w h)
slot_set (x ∷ xs) zero (suc i) v w h = inl h
slot_set (x ∷ xs) (suc s) zero v w h = inl h
slot_set (x ∷ xs) (suc s) (suc i) v w h = slot_set xs s i v w h

abbrev IsAmong : ℕ → List ℕ → Type 0
IsAmong o os = list_any (λ j. j == o) os ≡ true

put_needs : (object s : ℕ) (v : Value) (o : ℕ) → v ≡ Ref o → IsAmong o (needs (Put object s v))
put_needs object s v o e = subst (λ w. IsAmong o (needs (Put object s w))) (sym e) (second (object == o) (o == o) (grind (arith, nat_tests)))
  where
    second : (a b : Bool) → b ≡ true → (a || (b || false)) ≡ true
    second true b h = refl
    second false true h = refl
    second false false h = absurd (cc h)

same_slots : (x y : PlainObject) (i o : ℕ) (os : List ℕ) → x.slots ≡ y.slots → HasSlot y i o → HasSlot x i o ⊎ IsAmong o os
same_slots x y i o os e h = inl (ap (λ xs. slice_get xs i) e ∙ h)

slot_after : (x y : PlainObject) (t : ℕ) (e : Entry) (i o : ℕ) → take_at x t e ≡ Some y → HasSlot y i o → HasSlot x i o ⊎ IsAmong o (needs e)
slot_after x y t (Enter p r) i o h g = same_slots x y i o (needs (Enter p r)) (slots_by_monitor x y _ h) g
slot_after x y t (Exit p) i o h g = same_slots x y i o (needs (Exit p)) (slots_by_monitor x y _ h) g
slot_after x y t (Wait p) i o h g = same_slots x y i o (needs (Wait p)) (slots_by_monitor x y _ h) g
slot_after x y t (Resume p) i o h g = same_slots x y i o (needs (Resume p)) (slots_by_monitor x y _ h) g
slot_after x y t (Notify p w) i o h g = same_slots x y i o (needs (Notify p w)) (slots_by_monitor x y _ h) g
slot_after x y t (NotifyAll p w) i o h g = same_slots x y i o (needs (NotifyAll p w)) (slots_by_monitor x y _ h) g
slot_after x y t (Get p s v) i o h g = same_slots x y i o (needs (Get p s v)) (ap (λ (z : PlainObject). z.slots) (cond_some _ x y h).1) g
slot_after x y t (Put p s v) i o h g =
    let r = cond_some _ (record x { slots = slice_set x.slots s v }) y h in
    elim (slot_set x.slots s i v (Ref o) (ap (λ (z : PlainObject). slice_get z.slots i) r.1 ∙ g)) [
      | inl was ↦ inl was
      | inr is ↦ inr (put_needs p s v o is)
    ]
slot_after x y t (Hash p v d) i o h g = same_slots x y i o (needs (Hash p v d)) (slots_by_hash x y _ h) g
slot_after x y t (New p c) i o h g = same_slots x y i o (needs (New p c)) (ap (λ (z : PlainObject). z.slots) (same_Some x y h)) g
slot_after x y t (Print v) i o h g = same_slots x y i o (needs (Print v)) (ap (λ (z : PlainObject). z.slots) (same_Some x y h)) g
slot_after x y t (Dump k) i o h g = same_slots x y i o (needs (Dump k)) (ap (λ (z : PlainObject). z.slots) (same_Some x y h)) g
slot_after x y t (Trap f k) i o h g = same_slots x y i o (needs (Trap f k)) (ap (λ (z : PlainObject). z.slots) (same_Some x y h)) g
slot_after x y t Spent i o h g = same_slots x y i o (needs Spent) (ap (λ (z : PlainObject). z.slots) (same_Some x y h)) g
slot_after x y t Done i o h g = same_slots x y i o (needs Done) (ap (λ (z : PlainObject). z.slots) (same_Some x y h)) g

of_all : (P : ℕ → Type 0) (os : List ℕ) (o : ℕ) → IsAmong o os → AllByRecursion P os → P o
of_all P [] o h a = absurd (cc h)
of_all P (j ∷ os) o h a = by_test (j == o) refl h (λ g. of_all P os o g a.1)
  where
    by_test : (b : Bool) → (j == o) ≡ b → (b || list_any (λ j. j == o) os) ≡ true → (IsAmong o os → P o) → P o
    by_test true e g later = let s : j ≡ o = grind (arith, nat_tests, e) in subst P s a.0
    by_test false e g later = later g

-- ALL SLOTS. They stay known at an entry whose objects its thread knows.
pub slots_stay_known : (n : Numbering) (made now_made : List (List ℕ))
    (before after : List PlainObject) (logs : List (List Logged)) (kept now : List ℕ) (t : ℕ) (l : Logged)
    → AllByRecursion (RisesAbove 0) logs → IsAboveBounds before logs kept t l
    → take_entry before t l.entry ≡ Some after → take_made n made t l.entry ≡ Some now_made
    → AllByRecursion (IsKnown n made logs t) (needs l.entry) → BoundsRise after logs kept now t l → SlotsAreKnown n made before logs kept
    → SlotsAreKnown n now_made after (appended logs t l) now
slots_stay_known n made now_made before after logs kept now t l r above step makes all rise slots p i o z at slot =
    elim (bound_or_not (bound_to l.entry) p) [
      | inl b ↦
          let a = taken_at before after t l.entry p (ap (take_named before t l.entry) (sym (bound_is_named l.entry p b)) ∙ step) in
          let there : slice_get after p ≡ Some a.y = ap (λ xs. slice_get xs p) a.is ∙ get_set_same before p a.x a.y a.was in
          let is : a.y ≡ z = same_Some a.y z (sym there ∙ at) in
          let high = rise.own p z b at in
          let low = above.bound p a.x b a.was in
          let last = above.stamp in
          elim (slot_after a.x a.y t l.entry i o a.step (ap (λ (v : PlainObject). slice_get v.slots i) is ∙ slot)) [
            | inl was ↦
                known_stays n made now_made logs t l o (bound_of logs kept p a.x.monitor.owner)
                (bound_of (appended logs t l) now p z.monitor.owner) r above.thread above.stamp makes
                (slots p i o a.x a.was was) (omega (arith, high, low))
            | inr put ↦
                known_stays n made now_made logs t l o (last_stamp (log_of logs t))
                (bound_of (appended logs t l) now p z.monitor.owner) r above.thread above.stamp makes
                (of_all (IsKnown n made logs t) (needs l.entry) o put all) (omega (arith, high, last))
          ]
      | inr d ↦
          let m = monitor_left before after t l.entry p z d step at in
          let old = slots p i o m.x m.was (ap (λ xs. slice_get xs i) m.slots ∙ slot) in
          let same = ap (λ (v : PlainMonitor). bound_of logs kept p v.owner) m.same in
          let up = bound_grows logs kept now t l p z.monitor.owner above.thread above.stamp (rise.others p d) in
          known_stays n made now_made logs t l o (bound_of logs kept p m.x.monitor.owner)
          (bound_of (appended logs t l) now p z.monitor.owner) r above.thread above.stamp makes
          old (omega (arith, same, up))
    ]

-- an owner knows what the slots refer to
pub owner_knows : (n : Numbering) (made : List (List ℕ)) (objects : List PlainObject)
    (logs : List (List Logged)) (kept : List ℕ) (t p i o : ℕ) (x : PlainObject)
    → SlotsAreKnown n made objects logs kept → slice_get objects p ≡ Some x
    → x.monitor.owner ≡ Some t → slice_get x.slots i ≡ Some (Ref o) → IsKnown n made logs t o
owner_knows n made objects logs kept t p i o x slots at owner slot = subst (λ w. IsKnownAt n made logs o (bound_of logs kept p w)) owner (slots p i o x at slot)

-- AT FIRST no slot refers to anything
no_reference : (size i o : ℕ) → slice_get (replicate size (Int (pos 0))) i ≡ Some (Ref o) → ⊥
no_reference zero i o h = cc h
no_reference (suc size) zero o h = cc h
no_reference (suc size) (suc i) o h = no_reference size i o h

pub new_slots_known : (n : Numbering) (made : List (List ℕ)) (shape : List (ℕ × ℕ)) (logs : List (List Logged)) (kept : List ℕ)
    → SlotsAreKnown n made (new_objects shape) logs kept
new_slots_known n made shape logs kept p i o x at slot = absurd (none shape p x at slot)
  where
    none : (s : List (ℕ × ℕ)) (p : ℕ) (x : PlainObject) → slice_get (new_objects s) p ≡ Some x → HasSlot x i o → ⊥
    none [] p x h g = cc h
    none (y ∷ s) zero x h g = no_reference y.1 i o (ap (λ (v : PlainObject). slice_get v.slots i) (same_Some _ x h) ∙ g)
    none (y ∷ s) (suc p) x h g = none s p x h g

-- WHAT A THREAD HAS MADE, by its own log
abbrev Adds : List (List ℕ) → List (List ℕ) → ℕ → ℕ → Option (ℕ × ℕ) → Type 0
Adds before after u t p = made_by after t ≡ made_by before t ++ cond (u == t) (class_made p) []

append_none : (xs : List ℕ) → xs ≡ xs ++ []
append_none [] = refl
append_none (x ∷ xs) = ap (λ ys. x ∷ ys) (append_none xs)

adds : (n : Numbering) (before after : List (List ℕ)) (u t : ℕ) (e : Entry) (p : Option (ℕ × ℕ))
    → take_created n before u e p ≡ Some after → Adds before after u t p
adds n before after u t e None h =
    let a = cond_some (all_there n before (needs e)) before after h in
    ap (λ m. made_by m t) (sym a.1) ∙ append_none (made_by before t) ∙ nothing (u == t)
  where
    nothing : (b : Bool) → (made_by before t ++ []) ≡ made_by before t ++ cond b [] []
    nothing true = refl
    nothing false = refl
adds n before after u t e (Some p) h =
    let a = cond_some (may_create n before u p) (grown before u p.1) after h in
    let c = creating n before u p a.0 in
    ap (λ m. made_by m t) (sym a.1) ∙ by_test (u == t) refl c.thread
  where
    by_test : (b : Bool) → (u == t) ≡ b → u < length before → made_by (grown before u p.1) t ≡ made_by before t ++ cond b (p.1 ∷ []) []
    by_test true e g =
        let s : u ≡ t = grind (arith, nat_tests, e) in
        ap (made_by (grown before u p.1)) (sym s) ∙ get_or-set_same before u (made_by before u ++ p.1 ∷ []) [] g ∙ ap (λ v. made_by before v ++ p.1 ∷ []) s
    by_test false e g =
        let d : t ≢ u = λ s. absurd (grind (arith, nat_tests, e, s)) in
        get_or-set_other before u t (made_by before u ++ p.1 ∷ []) [] d ∙ append_none (made_by before t)

run_adds : (n : Numbering) (xs : List (ℕ × Logged)) (before after : List (List ℕ)) (t : ℕ) → run_all (take_made n) before xs ≡ Some after
    → made_by after t ≡ made_by before t ++ news (of_thread t xs)
run_adds n [] before after t h = ap (λ m. made_by m t) (sym (same_Some before after h)) ∙ append_none (made_by before t)
run_adds n (x ∷ xs) before after t h =
    let a = first_run (take_made n) (take_made n before x.0 x.1.entry) xs after h in
    let one = adds n before a.0 x.0 t x.1.entry (creates x.1.entry) a.1 in
    run_adds n xs a.0 after t a.2 ∙ ap (λ r. r ++ news (of_thread t xs)) one
    ∙ append_assoc (made_by before t) _ _ ∙ ap (λ r. made_by before t ++ r) (by_test (x.0 == t))
  where
    by_test : (b : Bool) → (cond b (class_made (creates x.1.entry)) [] ++ news (of_thread t xs)) ≡ news (cond b (x.1 ∷ of_thread t xs) (of_thread t xs))
    by_test true = refl
    by_test false = refl

none_made : (k t : ℕ) → made_by (replicate k []) t ≡ []
none_made zero t = refl
none_made (suc k) zero = refl
none_made (suc k) (suc t) = none_made k t

pub made_by_log : (n : Numbering) (logs : List (List Logged)) (made : List (List ℕ)) (t : ℕ)
    → AllByRecursion (RisesAbove 0) logs → made_after n logs ≡ Some made
    → made_by made t ≡ news (log_of logs t)
made_by_log n logs made t r h =
    run_adds n (order logs) (nothing_made n) made t h
    ∙ ap (λ row. row ++ news (of_thread t (order logs))) (none_made n.threads t) ∙ ap news (thread_kept logs t r)
