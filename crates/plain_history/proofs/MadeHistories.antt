-- What is there after the logs with one more entry, and what threads know to be there.
use Rattle.std.proofs.Common.{◌≡◌, ℕ, zero, suc, ◌+◌, ◌<◌, ◌≤◌, ◌⊎◌, ◌==◌, ◌||◌, nat_lt, Bool, true, false, cond, List, []}
use Rattle.std.proofs.Common.{◌∷◌, length, refl, ap, sym, ◌∙◌, subst, arith, inl, inr, Option, Some, None, option_map}
use Rattle.std.proofs.lemmas.Bool.Decides.{nat_tests}
use Rattle.std.proofs.lemmas.Option.{cond_some, same_Some}
use Rattle.std.specs.List.{AllByRecursion, list_any}
use Rattle.plain_monitor.specs.declared.entry.Entry.{Entry}
use Rattle.plain_monitor.specs.declared.entry.Logged.{Logged}
use Rattle.plain_monitor.specs.Order.{is_before, with_threads, order, of_thread}
use Rattle.plain_monitor.specs.History.{RisesAbove, last_above, last_stamp, log_of, appended, run_all}
use Rattle.plain_monitor.specs.Made.{Numbering, first_made, maker_of, place_of, made_by, is_there, creates}
use Rattle.plain_monitor.specs.Made.{needs, may_create, take_created, take_made, nothing_made, made_after}
use Rattle.plain_monitor.proofs.Appending.{order_appended}
use Rattle.plain_monitor.proofs.Orders.{all_insert}
use Rattle.plain_monitor.proofs.Threads.{thread_kept}
use Rattle.plain_monitor.proofs.Lists.{all_weaker}
use Rattle.plain_history.specs.Known.{makes, is_one_of, makes_for, MayFollow, IsMadeBelow, IsKnownAt}
use Rattle.plain_monitor.proofs.Ordering.{ordered_is_ordered}
use Rattle.plain_history.proofs.Passing.{PassesLater, first_run, run_inserted}
use Rattle.plain_history.proofs.Inserting.{untied}
use Rattle.plain_history.proofs.MadeSteps.{grown, row_same, there_more, all_there, creating, maker_of_new, made_turns}

-- THE OWN LOG. Each entry of a thread has a stamp of at most its last.
rises_of : (logs : List (List Logged)) (t : ℕ) → AllByRecursion (RisesAbove 0) logs → RisesAbove 0 (log_of logs t)
rises_of [] t r = tt
rises_of (log ∷ logs) zero r = r.0
rises_of (log ∷ logs) (suc t) r = rises_of logs t r.1

last_up : (n : ℕ) (log : List Logged) → RisesAbove n log → n ≤ last_above n log
last_up n [] r = omega arith
last_up n (m ∷ log) r = omega (arith, last_up m.stamp log r.1, r.0)

up_to_last : (n : ℕ) (log : List Logged) → RisesAbove n log → AllByRecursion (λ m. m.stamp ≤ last_above n log) log
up_to_last n [] r = tt
up_to_last n (m ∷ log) r = (last_up m.stamp log r.1, up_to_last m.stamp log r.1)

own_among : (P : Logged → Type 0) (t : ℕ) (xs : List (ℕ × Logged)) → AllByRecursion P (of_thread t xs) → AllByRecursion (λ x. x.0 ≡ t → P x.1) xs
own_among P t [] h = tt
own_among P t (x ∷ xs) h = by_test (x.0 == t) refl h (own_among P t xs)
  where
    by_test : (b : Bool) → (x.0 == t) ≡ b → AllByRecursion P (cond b (x.1 ∷ of_thread t xs) (of_thread t xs))
        → (AllByRecursion P (of_thread t xs) → AllByRecursion (λ y. y.0 ≡ t → P y.1) xs) → AllByRecursion (λ y. y.0 ≡ t → P y.1) (x ∷ xs)
    by_test true e g ih = (λ s. g.0, ih g.1)
    by_test false e g ih = (λ s. absurd (grind (arith, nat_tests, e, s)), ih g)

pub own_up_to_last : (logs : List (List Logged)) (t : ℕ) → AllByRecursion (RisesAbove 0) logs
    → AllByRecursion (λ x. x.0 ≡ t → x.1.stamp ≤ last_stamp (log_of logs t)) (order logs)
own_up_to_last logs t r =
    own_among (λ m. m.stamp ≤ last_stamp (log_of logs t)) t (order logs)
    (subst (AllByRecursion (λ m. m.stamp ≤ last_stamp (log_of logs t))) (sym (thread_kept logs t r)) (up_to_last 0 (log_of logs t) (rises_of logs t r)))

-- AN APPENDED ENTRY
passes_made : (n : Numbering) (x : ℕ × Logged) (s : ℕ) (zs : List (ℕ × Logged)) → s < x.1.stamp → AllByRecursion (λ z. z.0 ≡ x.0 → z.1.stamp ≤ s) zs
    → AllByRecursion (λ z. makes_for z.1.entry x.1.entry ≡ true → is_before z x ≡ true) zs → PassesLater (take_made n) x zs
passes_made n x s [] h own follows = tt
passes_made n x s (z ∷ zs) h own follows = (
  λ later. made_turns n z x (λ same. let le = own.0 same in absurd (grind (arith, nat_tests, le, h, later)))
      (untied (makes_for z.1.entry x.1.entry) (is_before z x) follows.0 later),
  passes_made n x s zs h own.1 follows.1,
)

-- an entry that finds what it needs after all others finds it at its place in the order
pub made_with : (n : Numbering) (logs : List (List Logged)) (t : ℕ) (l : Logged) (before after : List (List ℕ)) → AllByRecursion (RisesAbove 0) logs
    → made_after n logs ≡ Some before → take_made n before t l.entry ≡ Some after → MayFollow logs t l → made_after n (appended logs t l) ≡ Some after
made_with n logs t l before after r h k may =
    ap (run_all (take_made n) (nothing_made n)) (order_appended logs t l r may.thread may.stamp)
    ∙ run_inserted (take_made n) (t, l) (order logs) (nothing_made n) before after (ordered_is_ordered (with_threads 0 logs))
    (passes_made n (t, l) (last_stamp (log_of logs t)) (order logs) may.stamp (own_up_to_last logs t r) may.follows) h k

-- what a thread knows is made before its next entry
one_of_more : (m : Option ℕ) (o : ℕ) (os : List ℕ) → is_one_of m (o ∷ os) ≡ true → (m ≡ Some o) ⊎ (is_one_of m os ≡ true)
one_of_more None o os h = absurd (cc h)
one_of_more (Some i) o os h = by_test (i == o) refl h
  where
    by_test : (b : Bool) → (i == o) ≡ b → (b || list_any (λ j. i == j) os) ≡ true → (Some i ≡ Some o) ⊎ (is_one_of (Some i) os ≡ true)
    by_test true e g = let s : i ≡ o = grind (arith, nat_tests, e) in inl (ap Some s)
    by_test false e g = inr g

one_of_none : (m : Option ℕ) → is_one_of m [] ≡ true → ⊥
one_of_none None h = cc h
one_of_none (Some i) h = cc h

all_of : (P : ℕ × Logged → Type 0) → ((x : ℕ × Logged) → P x) → (xs : List (ℕ × Logged)) → AllByRecursion P xs
all_of P f [] = tt
all_of P f (x ∷ xs) = (f x, all_of P f xs)

all_joined : (P Q R : ℕ × Logged → Type 0) → ((x : ℕ × Logged) → P x → Q x → R x)
    → (xs : List (ℕ × Logged)) → AllByRecursion P xs → AllByRecursion Q xs → AllByRecursion R xs
all_joined P Q R f [] p q = tt
all_joined P Q R f (x ∷ xs) p q = (f x p.0 q.0, all_joined P Q R f xs p.1 q.1)

-- no New of any of these has a stamp above s
abbrev pub AllMadeBelow : List (List Logged) → ℕ → List ℕ → Type 0
AllMadeBelow logs s os = AllByRecursion (λ o. IsMadeBelow logs o s) os

after_makers : (logs : List (List Logged)) (x : ℕ × Logged) (s : ℕ) (os : List ℕ) → s < x.1.stamp → AllMadeBelow logs s os
    → AllByRecursion (λ z. is_one_of (makes z.1.entry) os ≡ true → is_before z x ≡ true) (order logs)
after_makers logs x s [] h a =
    all_of (λ z. is_one_of (makes z.1.entry) [] ≡ true → is_before z x ≡ true) (λ z e. absurd (one_of_none (makes z.1.entry) e)) (order logs)
after_makers logs x s (o ∷ os) h a =
    all_joined (λ z. makes z.1.entry ≡ Some o → z.1.stamp ≤ s) (λ z. is_one_of (makes z.1.entry) os ≡ true → is_before z x ≡ true)
    (λ z. is_one_of (makes z.1.entry) (o ∷ os) ≡ true → is_before z x ≡ true)
    (λ z p q e. elim (one_of_more (makes z.1.entry) o os e) [
      | inl is ↦ let le = p is in grind (arith, nat_tests, le, h)
      | inr later ↦ q later
    ])
    (order logs) a.0 (after_makers logs x s os h a.1)

pub known_may_follow : (logs : List (List Logged)) (t : ℕ) (l : Logged) → t < length logs → last_stamp (log_of logs t) < l.stamp
    → AllMadeBelow logs (last_stamp (log_of logs t)) (needs l.entry) → MayFollow logs t l
known_may_follow logs t l h k a =
    record { thread = h; stamp = k; follows = after_makers logs (t, l) (last_stamp (log_of logs t)) (needs l.entry) k a }

-- WHAT IS THERE STAYS
created_stays : (n : Numbering) (before after : List (List ℕ)) (t : ℕ) (e : Entry) (p : Option (ℕ × ℕ)) (o : ℕ)
    → take_created n before t e p ≡ Some after → is_there n before o ≡ true
    → is_there n after o ≡ true
created_stays n before after t e None o h k =
    let a = cond_some (all_there n before (needs e)) before after h in ap (λ m. is_there n m o) (sym a.1) ∙ k
created_stays n before after t e (Some p) o h k =
    let a = cond_some (may_create n before t p) (grown before t p.1) after h in
    let c = creating n before t p a.0 in
    ap (λ m. is_there n m o) (sym a.1) ∙ there_more n before t p.1 o c.thread k

pub there_stays : (n : Numbering) (before after : List (List ℕ)) (t : ℕ) (e : Entry) (o : ℕ)
    → take_made n before t e ≡ Some after → is_there n before o ≡ true → is_there n after o ≡ true
there_stays n before after t e o h k = created_stays n before after t e (creates e) o h k

pub all_stay : (n : Numbering) (xs : List (ℕ × Logged)) (before after : List (List ℕ)) (o : ℕ)
    → run_all (take_made n) before xs ≡ Some after → is_there n before o ≡ true → is_there n after o ≡ true
all_stay n [] before after o h k = ap (λ m. is_there n m o) (sym (same_Some before after h)) ∙ k
all_stay n (x ∷ xs) before after o h k =
    let a = first_run (take_made n) (take_made n before x.0 x.1.entry) xs after h in
    all_stay n xs a.0 after o a.2 (there_stays n before a.0 x.0 x.1.entry o a.1 k)

-- a new object wasn't there
pub new_wasnt : (n : Numbering) (made : List (List ℕ)) (t o : ℕ) → first_made n ≤ o
    → maker_of n o ≡ t → place_of n o ≡ length (made_by made t) → is_there n made o ≡ false
new_wasnt n made t o h e k =
    let row : length (made_by made (maker_of n o)) ≡ length (made_by made t) = ap (λ u. length (made_by made u)) e in
    let a : nat_lt o (first_made n) ≡ false = grind (arith, nat_tests, h) in
    let b : nat_lt (place_of n o) (length (made_by made (maker_of n o))) ≡ false = grind (arith, nat_tests, row, k) in
    ap (λ c. c || nat_lt (place_of n o) (length (made_by made (maker_of n o)))) a ∙ b

-- and is there
new_is : (n : Numbering) (made : List (List ℕ)) (t c o : ℕ) → t < length made → maker_of n o ≡ t
    → place_of n o ≡ length (made_by made t) → is_there n (grown made t c) o ≡ true
new_is n made t c o h e k =
    let row : length (made_by (grown made t c) (maker_of n o)) ≡ length (made_by made t) + 1 =
    ap (λ u. length (made_by (grown made t c) u)) e ∙ row_same made t c h in
    let b : nat_lt (place_of n o) (length (made_by (grown made t c) (maker_of n o))) ≡ true = grind (arith, nat_tests, row, k) in
    by_test (nat_lt o (first_made n)) b
  where
    by_test : (a : Bool) {b : Bool} → b ≡ true → (a || b) ≡ true
    by_test true p = refl
    by_test false p = p

pub record Made (n : Numbering) (before after : List (List ℕ)) (o : ℕ) : Type 0 where
  pub wasnt : is_there n before o ≡ false
  pub is : is_there n after o ≡ true

created_new : (n : Numbering) (before after : List (List ℕ)) (t : ℕ) (e : Entry) (p : Option (ℕ × ℕ)) (o : ℕ)
    → take_created n before t e p ≡ Some after → option_map (λ v. v.0) p ≡ Some o → Made n before after o
created_new n before after t e None o h k = absurd (cc k)
created_new n before after t e (Some p) o h k =
    let a = cond_some (may_create n before t p) (grown before t p.1) after h in
    let c = creating n before t p a.0 in
    let same : p.0 ≡ o = same_Some p.0 o k in
    let where_ = maker_of_new (first_made n) t (length (made_by before t)) o c.room (sym same ∙ c.number) in
    record {
      wasnt = new_wasnt n before t o where_.2 where_.0 where_.1;
      is = ap (λ m. is_there n m o) (sym a.1) ∙ new_is n before t p.1 o c.thread where_.0 where_.1;
    }

pub made_new : (n : Numbering) (before after : List (List ℕ)) (t : ℕ) (e : Entry) (o : ℕ)
    → take_made n before t e ≡ Some after → makes e ≡ Some o → Made n before after o
made_new n before after t e o h k = created_new n before after t e (creates e) o h k

-- what was made is there
pub all_made_there : (n : Numbering) (xs : List (ℕ × Logged)) (before after : List (List ℕ)) (o : ℕ) → run_all (take_made n) before xs ≡ Some after
    → AllByRecursion (λ x. makes x.1.entry ≡ Some o → is_there n after o ≡ true) xs
all_made_there n [] before after o h = tt
all_made_there n (x ∷ xs) before after o h =
    let a = first_run (take_made n) (take_made n before x.0 x.1.entry) xs after h in
    (λ e. all_stay n xs a.0 after o a.2 (made_new n before a.0 x.0 x.1.entry o a.1 e).is, all_made_there n xs a.0 after o a.2)

-- KNOWING. What is known stays known, also at a greater stamp.
pub known_stays : (n : Numbering) (before after : List (List ℕ)) (logs : List (List Logged)) (t : ℕ) (l : Logged) (o s now : ℕ)
    → AllByRecursion (RisesAbove 0) logs → t < length logs
    → last_stamp (log_of logs t) < l.stamp → take_made n before t l.entry ≡ Some after
    → IsKnownAt n before logs o s → s ≤ now → IsKnownAt n after (appended logs t l) o now
known_stays n before after logs t l o s now r h k step known le =
    let P : ℕ × Logged → Type 0 = λ x. makes x.1.entry ≡ Some o → x.1.stamp ≤ now in
    let old = all_weaker (λ x. makes x.1.entry ≡ Some o → x.1.stamp ≤ s) P (λ x f e. let g = f e in omega (arith, g, le)) (order logs) known.below in
    let new : P (t, l) = λ e. let m = made_new n before after t l.entry o step e in absurd (cc (m.wasnt, known.there)) in
    record {
      there = there_stays n before after t l.entry o step known.there;
      below = subst (AllByRecursion P) (sym (order_appended logs t l r h k)) (all_insert P (t, l) (order logs) new old);
    }

-- a thread knows what it makes
pub new_is_known : (n : Numbering) (before after : List (List ℕ)) (logs : List (List Logged)) (t : ℕ) (l : Logged) (o now : ℕ)
    → AllByRecursion (RisesAbove 0) logs → t < length logs
    → last_stamp (log_of logs t) < l.stamp → made_after n logs ≡ Some before
    → take_made n before t l.entry ≡ Some after → makes l.entry ≡ Some o → l.stamp ≤ now
    → IsKnownAt n after (appended logs t l) o now
new_is_known n before after logs t l o now r h k was step is le =
    let m = made_new n before after t l.entry o step is in
    let P : ℕ × Logged → Type 0 = λ x. makes x.1.entry ≡ Some o → x.1.stamp ≤ now in
    let old = all_weaker (λ x. makes x.1.entry ≡ Some o → is_there n before o ≡ true) P
    (λ x f e. let g = f e in absurd (cc (g, m.wasnt))) (order logs) (all_made_there n (order logs) (nothing_made n) before o was) in
    record {
      there = m.is;
      below = subst (AllByRecursion P) (sym (order_appended logs t l r h k)) (all_insert P (t, l) (order logs) (λ e. le) old);
    }
