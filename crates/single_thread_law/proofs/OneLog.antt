-- One log alone: its order, and the stamps of its entries.
use Rattle.std.proofs.Common.{◌≡◌, ℕ, zero, suc, ◌+◌, ◌<◌, ◌≤◌, true, List, [], ◌∷◌, ◌++◌, length}
use Rattle.std.proofs.Common.{map, slice_get, Some, refl, sym, ap, ◌∙◌, subst, inl, inr, arith}
use Rattle.std.proofs.lemmas.Bool.Decides.{nat_tests}
use Rattle.std.proofs.lemmas.Option.{same_Some, none-some}
use Rattle.std.specs.List.{AllByRecursion}
use Rattle.plain_monitor.specs.declared.entry.Entry.{Entry}
use Rattle.plain_monitor.specs.declared.entry.Entry.TheVariants as entry
use Rattle.plain_monitor.specs.declared.entry.Logged.{Logged}
use Rattle.plain_monitor.specs.Order.{is_before, insert_ordered, ordered, order}
use Rattle.plain_monitor.specs.History.{RisesAbove, last_above, last_stamp, log_of}
use Rattle.plain_history.specs.HeldByLog.{HasLetGo}
use Rattle.plain_history.specs.ExactStamps.{IsTakingStamp, IsExactStamp, StampsAreExact}

-- ORDER
-- the entries of the first thread
abbrev pub of_first : List Logged → List (ℕ × Logged)
of_first log = map (λ l. (0, l)) log

first_before : (l k : Logged) → l.stamp < k.stamp → is_before (0, l) (0, k) ≡ true
first_before l k h = grind (arith, nat_tests, h)

put_first : (l : Logged) (log : List Logged) → RisesAbove l.stamp log → insert_ordered (0, l) (of_first log) ≡ (0, l) ∷ of_first log
put_first l [] r = refl
put_first l (k ∷ log) r = rw (first_before l k r.0) refl

in_order : (n : ℕ) (log : List Logged) → RisesAbove n log → ordered (of_first log ++ []) ≡ of_first log
in_order n [] r = refl
in_order n (l ∷ log) r = ap (insert_ordered (0, l)) (in_order l.stamp log r.1) ∙ put_first l log r.1

-- one log is in order
pub order_of_one : (log : List Logged) → RisesAbove 0 log → order (log ∷ []) ≡ of_first log
order_of_one log r = in_order 0 log r

-- the only log
pub record IsOnly (logs : List (List Logged)) : Type 0 where
  pub log : List Logged
  pub is : logs ≡ log ∷ []

pub only_log : (logs : List (List Logged)) → length logs ≡ 1 → IsOnly logs
only_log [] h = absurd (omega (arith, h))
only_log (log ∷ []) h = record { log = log; is = refl }
only_log (log ∷ k ∷ logs) h = absurd (omega (arith, h))

-- STAMPS
above : (n : ℕ) (log : List Logged) → RisesAbove n log → AllByRecursion (λ (l : Logged). n < l.stamp) log
above n [] r = tt
above n (l ∷ log) r = (r.0, weaker n l.stamp log r.0 (above l.stamp log r.1))
  where
    weaker : (a b : ℕ) (ls : List Logged) → a < b → AllByRecursion (λ (k : Logged). b < k.stamp) ls → AllByRecursion (λ (k : Logged). a < k.stamp) ls
    weaker a b [] h all = tt
    weaker a b (k ∷ ls) h all = let here = all.0 in (omega (arith, h, here), weaker a b ls h all.1)

-- the last stamp of a log that goes on rising is no less than where it began
last_rises : (n : ℕ) (before later : List Logged) → RisesAbove n (before ++ later) → n ≤ last_above n before
last_rises n [] later r = omega arith
last_rises n (l ∷ before) later r = let rest = last_rises l.stamp before later r.1 in let here = r.0 in omega (arith, rest, here)

none_below : (l : Logged) (later : List Logged) (last : ℕ) → AllByRecursion (λ (k : Logged). l.stamp < k.stamp) later
    → AllByRecursion (λ (k : Logged). k.stamp < l.stamp → k.stamp ≤ last) later
none_below l [] last all = tt
none_below l (k ∷ later) last all = ((λ h. let here = all.0 in absurd (omega (arith, h, here))), none_below l later last all.1)

-- what is below the stamp of an entry is no later than the one before it
below_is_before : (n : ℕ) (before : List Logged) (l : Logged) (later : List Logged) → RisesAbove n (before ++ l ∷ later)
    → AllByRecursion (λ (k : Logged). k.stamp < l.stamp → k.stamp ≤ last_above n before) (before ++ l ∷ later)
below_is_before n [] l later r = ((λ h. absurd (omega (arith, h))), none_below l later n (above l.stamp later r.1))
below_is_before n (k ∷ before) l later r =
    ((λ h. last_rises k.stamp before (l ∷ later) r.1), below_is_before k.stamp before l later r.1)

at_split : (P : Logged → Type 0) (before : List Logged) (l : Logged) (later : List Logged) → AllByRecursion P (before ++ l ∷ later) → P l
at_split P [] l later all = all.0
at_split P (k ∷ before) l later all = at_split P before l later all.1

no_split : (before : List Logged) (l : Logged) (later : List Logged) → [] ≡ before ++ l ∷ later → ⊥
no_split [] l later h = cc
no_split (k ∷ before) l later h = cc

-- the next lemma, by the thread that let go
let_go_at : (log : List Logged) (o s : ℕ) (before : List Logged) (l : Logged) (later : List Logged) → RisesAbove 0 log
    → log ≡ before ++ l ∷ later → s < l.stamp → (t : ℕ) → HasLetGo (log_of (log ∷ []) t) o s → s ≤ last_stamp before
let_go_at log o s before l later r split below zero g =
    let all = below_is_before 0 before l later (subst (RisesAbove 0) split r) in
    let there = subst (AllByRecursion (λ (k : Logged). k.stamp < l.stamp → k.stamp ≤ last_above 0 before)) (sym split ∙ g.log_is) all in
    at_split (λ (k : Logged). k.stamp < l.stamp → k.stamp ≤ last_above 0 before) g.before _ g.later there below
let_go_at log o s before l later r split below (suc t) g = absurd (no_split g.before _ g.later g.log_is)

-- an entry that takes an object has the next stamp, where its thread alone lets go
taking : (log : List Logged) (o : ℕ) (before : List Logged) (l : Logged) (later : List Logged) → RisesAbove 0 log
    → log ≡ before ++ l ∷ later → IsTakingStamp (log ∷ []) o (last_stamp before) l.stamp → l.stamp ≡ last_stamp before + 1
taking log o before l later r split s =
    let no_later : s.let_go ≤ last_stamp before = elim s.is_last.logged [
      | inl z ↦ omega (arith, z)
      | inr g ↦ let_go_at log o s.let_go before l later r split s.is_last.below g.0 g.1
    ] in
    omega (arith, no_later, s.next)

next_stamp : (log : List Logged) (before : List Logged) (l : Logged) (later : List Logged) → RisesAbove 0 log
    → log ≡ before ++ l ∷ later → (e : Entry) → IsExactStamp (log ∷ []) (last_stamp before) e l.stamp → l.stamp ≡ last_stamp before + 1
next_stamp log before l later r split (entry.Enter o path) s = taking log o before l later r split s
next_stamp log before l later r split (entry.Resume o) s = taking log o before l later r split s
next_stamp log before l later r split e s = s

-- the stamps count the entries from n on
abbrev pub CountsFrom : ℕ → List Logged → Type 0
CountsFrom n [] = Unit {0}
CountsFrom n (l ∷ log) = (l.stamp ≡ n + 1) × CountsFrom (n + 1) log

last_push : (n : ℕ) (before : List Logged) (l : Logged) → last_above n (before ++ l ∷ []) ≡ l.stamp
last_push n [] l = refl
last_push n (k ∷ before) l = last_push k.stamp before l

pushed : (before : List Logged) (l : Logged) (later : List Logged) → before ++ l ∷ later ≡ (before ++ l ∷ []) ++ later
pushed [] l later = refl
pushed (k ∷ before) l later = ap (λ ls. k ∷ ls) (pushed before l later)

counts : (log : List Logged) → RisesAbove 0 log → StampsAreExact (log ∷ []) → (before later : List Logged) → log ≡ before ++ later
    → CountsFrom (last_stamp before) later
counts log r exact before [] split = tt
counts log r exact before (l ∷ later) split =
    let here = next_stamp log before l later r split l.entry (exact 0 before l later split) in
    let rest = counts log r exact (before ++ l ∷ []) later (split ∙ pushed before l later) in
    (here, subst (λ (n : ℕ). CountsFrom n later) (last_push 0 before l ∙ here) rest)

pub counted : (log : List Logged) → RisesAbove 0 log → StampsAreExact (log ∷ []) → CountsFrom 0 log
counted log r exact = counts log r exact [] log refl

count_at : (n i : ℕ) (log : List Logged) (l : Logged) → CountsFrom n log → slice_get log i ≡ Some l → l.stamp ≡ n + i + 1
count_at n i [] l c h = absurd (none-some l h)
count_at n zero (k ∷ log) l c h = let here = c.0 in ap (λ (x : Logged). x.stamp) (sym (same_Some k l h)) ∙ omega (arith, here)
count_at n (suc i) (k ∷ log) l c h = let rest = count_at (n + 1) i log l c.1 h in omega (arith, rest)

pub stamps_count : (logs : List (List Logged)) (i : ℕ) (l : Logged) → length logs ≡ 1 → AllByRecursion (RisesAbove 0) logs
    → StampsAreExact logs → slice_get (log_of logs 0) i ≡ Some l → l.stamp ≡ i + 1
stamps_count logs i l one r exact h = by_log (only_log logs one) r exact h
  where
    by_log : IsOnly logs → AllByRecursion (RisesAbove 0) logs → StampsAreExact logs → slice_get (log_of logs 0) i ≡ Some l → l.stamp ≡ i + 1
    by_log only rs ex at =
        let rises = subst (AllByRecursion (RisesAbove 0)) only.is rs in
        let stamps = subst StampsAreExact only.is ex in
        let there = subst (λ (ls : List (List Logged)). slice_get (log_of ls 0) i ≡ Some l) only.is at in
        let here = count_at 0 i only.log l (counted only.log rises.0 stamps) there in
        omega (arith, here)
