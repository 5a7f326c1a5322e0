-- Steps of a merge of the logs.
use Rattle.std.proofs.Common.{◌≡◌, ℕ, zero, suc, ◌+◌, ◌-◌, ◌^◌, ◌<◌, ◌≤◌, Bool, true, false, nat_le, List, [], ◌∷◌, length, get_or}
use Rattle.std.proofs.Common.{set, drop, replicate, slice_get, Option, Some, None, refl, ap, sym, ◌∙◌, inl, inr, arith, below_more}
use Rattle.std.proofs.Math.Seq.{drop-nil}
use Rattle.std.proofs.lemmas.Bool.{cases_eq, cases_lt}
use Rattle.std.proofs.lemmas.Bool.Decides.{nat_tests}
use Rattle.std.proofs.lemmas.List.{get_or-set_same, get_or-set_other}
use Rattle.std.proofs.lemmas.Option.{same_Some, none-some}
use Rattle.std.specs.List.{AllByRecursion}
use Rattle.plain_monitor.specs.Limits.{most_threads}
use Rattle.plain_monitor.specs.declared.entry.Logged.{Logged}
use Rattle.plain_monitor.specs.Order.{order}
use Rattle.plain_monitor.specs.History.{RisesAbove, log_of}
use Rattle.plain_monitor.proofs.Merging.{least_head_first, empty_order}
use Rattle.lock_journal.proofs.Lists.{left_from, none_from}
use Rattle.lock_journal.specs.Merging.{left_of}
use Rattle.lock_journal.specs.inner.Heads.{head_of, stamp_in, stamp_of, or_greatest, IsLeastHead, IsLeastOf, IsFirstLeast, HasStamps, IsLimit, earlier}

-- all is left where nothing was given
pub all_left : (logs : List (List Logged)) (n : ℕ) → left_of logs (replicate n 0) ≡ logs
all_left [] n = refl
all_left (log ∷ logs) zero = refl
all_left (log ∷ logs) (suc n) = ap (λ ls. log ∷ ls) (all_left logs n)

-- what a thread has left of its log
log_left : (logs : List (List Logged)) (places : List ℕ) (t : ℕ) → log_of (left_of logs places) t ≡ drop (get_or places t 0) (log_of logs t)
log_left [] places t = sym (drop-nil (get_or places t 0))
log_left (log ∷ logs) [] t = refl
log_left (log ∷ logs) (p ∷ places) zero = refl
log_left (log ∷ logs) (p ∷ places) (suc t) = log_left logs places t

-- where one thread is given more, what the others have left stays
left_given : (logs : List (List Logged)) (places : List ℕ) (t p : ℕ) → t < length logs → t < length places
    → left_of logs (set places t p) ≡ set (left_of logs places) t (drop p (log_of logs t))
left_given [] places t p h k = absurd (omega arith)
left_given (log ∷ logs) [] t p h k = absurd (omega arith)
left_given (log ∷ logs) (q ∷ places) zero p h k = refl
left_given (log ∷ logs) (q ∷ places) (suc t) p h k = ap (λ ls. drop q log ∷ ls) (left_given logs places t p (omega arith) (omega arith))

-- stamps that rise above a number rise above each smaller one
rises_lower : (m n : ℕ) (log : List Logged) → m ≤ n → RisesAbove n log → RisesAbove m log
rises_lower m n [] h r = tt
rises_lower m n (l ∷ log) h r = let up = r.0 in (omega arith, r.1)

-- the stamps rise in what is left of a log
drop_rises : (p n : ℕ) (log : List Logged) → RisesAbove n log → RisesAbove n (drop p log)
drop_rises zero n log r = r
drop_rises (suc p) n [] r = tt
drop_rises (suc p) n (l ∷ log) r = let up = r.0 in rises_lower n l.stamp (drop p log) (omega arith) (drop_rises p l.stamp log r.1)

-- the stamps rise in what is left of each log
left_rises : (logs : List (List Logged)) (places : List ℕ) → AllByRecursion (RisesAbove 0) logs → AllByRecursion (RisesAbove 0) (left_of logs places)
left_rises [] places r = tt
left_rises (log ∷ logs) [] r = r
left_rises (log ∷ logs) (p ∷ places) r = (drop_rises p 0 log r.0, left_rises logs places r.1)

-- the first of what is left is the entry at the place
entry_from : (log : List Logged) (p : ℕ) (l : Logged) (rest : List Logged) → drop p log ≡ l ∷ rest → slice_get log p ≡ Some l
entry_from [] p l rest h = absurd (let e = sym (drop-nil p) ∙ h in cc e)
entry_from (m ∷ log) zero l rest h = ap (λ xs. slice_get xs 0) h
entry_from (m ∷ log) (suc p) l rest h = entry_from log p l rest h

-- a thread with something left is one of the threads
head_within : (logs : List (List Logged)) (t p : ℕ) (l : Logged) → slice_get (log_of logs t) p ≡ Some l → t < length logs
head_within [] t p l h = absurd (cc h)
head_within (log ∷ logs) zero p l h = omega arith
head_within (log ∷ logs) (suc t) p l h = let ih = head_within logs t p l h in omega (arith, ih)

-- a thread beyond the threads has nothing left
none_beyond : (logs : List (List Logged)) (t p : ℕ) → length logs ≤ t → slice_get (log_of logs t) p ≡ None
none_beyond [] t p h = refl
none_beyond (log ∷ logs) zero p h = absurd (omega arith)
none_beyond (log ∷ logs) (suc t) p h = none_beyond logs t p (omega arith)

-- where there is no stamp, there is no entry
no_entry : (head : Option Logged) → stamp_in head ≡ None → head ≡ None
no_entry None e = refl
no_entry (Some l) e = absurd cc

-- an entry with a stamp is the one that is read at its place
entry_read : (log : List Logged) (p s : ℕ) (d : Logged) → stamp_in (slice_get log p) ≡ Some s → slice_get log p ≡ Some (get_or log p d)
entry_read [] p s d h = absurd (cc h)
entry_read (l ∷ log) zero s d h = refl
entry_read (l ∷ log) (suc p) s d h = entry_read log p s d h

-- the order of what is left is the least head and the order of what is left without it
pub least_given : (logs : List (List Logged)) (places : List ℕ) (x : ℕ × ℕ) (d : Logged)
    → AllByRecursion (RisesAbove 0) logs → length logs ≤ length places → IsLeastHead logs places (length logs) x
    → order (left_of logs places) ≡ (x.0, get_or (log_of logs x.0) (get_or places x.0 0) d) ∷ order (left_of logs (set places x.0 (get_or places x.0 0 + 1)))
least_given logs places x d rises fit least =
    let t = x.0 in
    let p = get_or places t 0 in
    let l = get_or (log_of logs t) p d in
    let at : slice_get (log_of logs t) p ≡ Some l = entry_read (log_of logs t) p x.1 d least.head in
    let rest = drop (p + 1) (log_of logs t) in
    let within = least.thread in
    let stamp : l.stamp ≡ x.1 = same_Some _ _ (sym (ap stamp_in at) ∙ least.head) in
    let is : log_of (left_of logs places) t ≡ l ∷ rest = log_left logs places t ∙ left_from (log_of logs t) p l at in
    let given = left_given logs places t (p + 1) within (omega (arith, within, fit)) in
    least_head_first (left_of logs places) t l rest is (left_rises logs places rises) (λ u m log e other.
    let head = entry_from (log_of logs u) (get_or places u 0) m log (sym (log_left logs places u) ∙ e) in
    rw stamp (least.before u m.stamp (head_within logs u (get_or places u 0) m head) other (ap stamp_in head)))
    ∙ ap (λ ls. (t, l) ∷ order ls) (sym given)

-- nothing is left where no thread has an entry left
pub none_left : (logs : List (List Logged)) (places : List ℕ) → IsLeastOf logs places (length logs) None → order (left_of logs places) ≡ []
none_left logs places none =
    empty_order (left_of logs places) (λ u. let head : head_of logs places u ≡ None = elim (cases_lt u (length logs)) [
      | inl h ↦ no_entry _ (none u h)
      | inr h ↦ none_beyond logs u (get_or places u 0) h
    ] in
    log_left logs places u ∙ none_from (log_of logs u) (get_or places u 0) head)

-- the least head of n threads is the least of one more, where that has nothing left
kept_past_none : (logs : List (List Logged)) (places : List ℕ) (n : ℕ) (x : ℕ × ℕ)
    → IsLeastHead logs places n x → stamp_of logs places n ≡ None → IsLeastHead logs places (n + 1) x
kept_past_none logs places n x a e =
    record {
      thread = omega (arith, a.thread);
      head = a.head;
      before = λ u m h d f. elim (cases_eq u n) [
        | inl same ↦ absurd (none-some m (sym e ∙ ap (stamp_of logs places) (sym same) ∙ f))
        | inr other ↦ a.before u m (omega arith) d f
      ];
    }

-- the least head of n threads or the head of one more is the least, by the test of their stamps
least_of_two : (logs : List (List Logged)) (places : List ℕ) (n : ℕ) (x : ℕ × ℕ) (s : ℕ) (b : Bool)
    → nat_le x.1 s ≡ b → IsLeastHead logs places n x → stamp_of logs places n ≡ Some s
    → IsLeastOf logs places (n + 1) (earlier (Some x) n (Some s))
least_of_two logs places n x s true h a e =
    rw h (record {
      thread = omega (arith, a.thread);
      head = a.head;
      before = λ u m k d f. elim (cases_eq u n) [
        | inl same ↦ let is : s ≡ m = same_Some _ _ (sym e ∙ ap (stamp_of logs places) (sym same) ∙ f) in grind (arith, nat_tests)
        | inr other ↦ a.before u m (omega arith) d f
      ];
    })
least_of_two logs places n x s false h a e =
    rw h (record {
      thread = omega arith;
      head = e;
      before = λ u m k d f. elim (cases_eq u x.0) [
        | inl same ↦ let is : x.1 ≡ m = same_Some _ _ (sym a.head ∙ ap (stamp_of logs places) (sym same) ∙ f) in grind (arith, nat_tests)
        | inr other ↦ let after = a.before u m (omega arith) other f in grind (arith, nat_tests)
      ];
    })

-- a step to the next thread
pub least_step : (logs : List (List Logged)) (places : List ℕ) (n : ℕ) (least : Option (ℕ × ℕ)) (stamp : Option ℕ)
    → IsLeastOf logs places n least → stamp_of logs places n ≡ stamp
    → IsLeastOf logs places (n + 1) (earlier least n stamp)
least_step logs places n None None a e = below_more _ _ a e
least_step logs places n None (Some s) a e =
    record {
      thread = omega arith;
      head = e;
      before = λ u m h d f. absurd (none-some m (sym (a u (omega arith)) ∙ f));
    }
least_step logs places n (Some x) None a e = kept_past_none logs places n x a e
least_step logs places n (Some x) (Some s) a e = least_of_two logs places n x s (nat_le x.1 s) refl a e

-- a thread with a stamp is one of the threads
stamp_within : (logs : List (List Logged)) (places : List ℕ) (t s : ℕ) → stamp_of logs places t ≡ Some s → t < length logs
stamp_within logs places t s h = elim (cases_lt t (length logs)) [
  | inl within ↦ within
  | inr past ↦ absurd (none-some s (sym (ap stamp_in (none_beyond logs t (get_or places t 0) past)) ∙ h))
]

-- a stamp that isn't the greatest number is one
stamp_held : (stamp : Option ℕ) (s : ℕ) → s < 2 ^ 64 - 1 → s ≡ or_greatest stamp → stamp ≡ Some s
stamp_held None s h e = absurd (omega (arith, e))
stamp_held (Some n) s h e = ap (λ (m : ℕ). Some m) (sym e)

-- the first least of the stamps is the least head, where it isn't the greatest number
pub first_is_least : (logs : List (List Logged)) (places stamps : List ℕ) (x : ℕ × ℕ) → length logs ≤ most_threads
    → HasStamps logs places stamps → IsFirstLeast stamps most_threads x → x.1 < 2 ^ 64 - 1
    → IsLeastHead logs places (length logs) x
first_is_least logs places stamps x few held first small =
    let at = first.at small in
    let head : stamp_of logs places x.0 ≡ Some x.1 = stamp_held _ x.1 small (sym at.1 ∙ held x.0 at.0) in
    record {
      thread = stamp_within logs places x.0 x.1 head;
      head = head;
      before = λ u s h d f. let is : get_or stamps u 0 ≡ s = held u (omega (arith, h, few)) ∙ ap or_greatest f in
          let least = first.least u (omega (arith, h, few)) in elim (cases_lt u x.0) [
            | inl below ↦ let less = first.first u below in grind (arith, nat_tests)
            | inr above ↦ grind (arith, nat_tests)
          ];
    }

-- a limit of the others stays one where the leader's stamp changes
pub limit_given : (stamps : List ℕ) (leader limit s : ℕ) → IsLimit stamps leader limit → IsLimit (set stamps leader s) leader limit
limit_given stamps leader limit s is = record {
  within = is.within;
  others = λ u h other. rw (get_or-set_other stamps leader u s 0 other) (is.others u h other);
}

-- the stamps at hand after thread t was given one entry more
pub stamps_given : (logs : List (List Logged)) (old new stamps : List ℕ) (t p s : ℕ) → length stamps ≡ most_threads → t < most_threads
    → new ≡ set old t p → HasStamps logs old stamps → s ≡ or_greatest (stamp_of logs new t) → HasStamps logs new (set stamps t s)
stamps_given logs old new stamps t p s long within given held at u h = elim (cases_eq u t) [
  | inl same ↦ rw same (get_or-set_same stamps t s 0 (omega (arith, long, within)) ∙ at)
  | inr other ↦ let stays : get_or new u 0 ≡ get_or old u 0 = rw given (get_or-set_other old t u p 0 other) in
      rw stays (get_or-set_other stamps t u s 0 other ∙ held u h)
]
