-- Where stamps are exact, none is left out, so that each is at most the number of entries.
use Rattle.std.proofs.Common.{◌≡◌, ◌⊎◌, inl, inr, ℕ, zero, suc, ◌+◌, ◌≤◌, ◌==◌, nat_le, max, cond, Bool, true, false}
use Rattle.std.proofs.Common.{List, [], ◌∷◌, ◌++◌, length, refl, sym, ap, ◌∙◌, subst, arith, append_assoc}
use Rattle.std.proofs.lemmas.Bool.{cases_lt}
use Rattle.std.proofs.lemmas.Bool.Decides.{nat_tests}
use Rattle.std.specs.List.{AllByRecursion}
use Rattle.plain_monitor.specs.declared.entry.Entry.{Entry}
use Rattle.plain_monitor.specs.declared.entry.Entry.TheVariants as entry
use Rattle.plain_monitor.specs.declared.entry.Logged.{Logged}
use Rattle.plain_monitor.specs.Order.{order, of_thread}
use Rattle.plain_monitor.specs.History.{RisesAbove, last_above, last_stamp, log_of}
use Rattle.plain_monitor.proofs.Lists.{all_weaker}
use Rattle.plain_monitor.proofs.Threads.{thread_kept}
use Rattle.plain_history.specs.ExactStamps.{IsTakingStamp, IsExactStamp, StampsAreExact}
use Rattle.plain_history.specs.HeldByLog.{HasLetGo}
use Rattle.hash_laws.proofs.Placed.{IsPlaced, all_placed}

-- 1 for an entry whose stamp is at most n
abbrev one_up_to : ℕ → ℕ × Logged → ℕ
one_up_to n x = cond (nat_le x.1.stamp n) 1 0

-- how many entries have a stamp of at most n
abbrev up_to : ℕ → List (ℕ × Logged) → ℕ
up_to n [] = 0
up_to n (x ∷ xs) = one_up_to n x + up_to n xs

few_up_to : (n : ℕ) (xs : List (ℕ × Logged)) → up_to n xs ≤ length xs
few_up_to n [] = omega arith
few_up_to n (x ∷ xs) = by_test (nat_le x.1.stamp n) (few_up_to n xs)
  where
    by_test : (b : Bool) → up_to n xs ≤ length xs → cond b 1 0 + up_to n xs ≤ length (x ∷ xs)
    by_test true others = omega (arith, others)
    by_test false others = omega (arith, others)

one_stays : (n : ℕ) (x : ℕ × Logged) → one_up_to n x ≤ one_up_to (n + 1) x
one_stays n x = grind (arith, nat_tests)

all_stay : (n : ℕ) (xs : List (ℕ × Logged)) → up_to n xs ≤ up_to (n + 1) xs
all_stay n [] = omega arith
all_stay n (x ∷ xs) = omega (arith, one_stays n x, all_stay n xs)

one_comes : (n : ℕ) (x : ℕ × Logged) → x.1.stamp ≡ n + 1 → one_up_to n x + 1 ≤ one_up_to (n + 1) x
one_comes n x e = grind (arith, nat_tests, e)

-- with a stamp one greater there is one entry more
one_more : (n t : ℕ) (xs : List (ℕ × Logged)) (before : List Logged) (l : Logged) (later : List Logged) → of_thread t xs ≡ before ++ l ∷ later
    → l.stamp ≡ n + 1 → up_to n xs + 1 ≤ up_to (n + 1) xs
one_more n t [] [] l later e s = absurd (cc e)
one_more n t [] (b ∷ before) l later e s = absurd (cc e)
one_more n t (x ∷ xs) before l later e s = by_test (x.0 == t) e (λ front h. one_more n t xs front l later h s)
  where
    at_head : (before : List Logged) → x.1 ∷ of_thread t xs ≡ before ++ l ∷ later
        → ((front : List Logged) → of_thread t xs ≡ front ++ l ∷ later → up_to n xs + 1 ≤ up_to (n + 1) xs) → up_to n (x ∷ xs) + 1 ≤ up_to (n + 1) (x ∷ xs)
    at_head [] g others = let same : x.1 ≡ l = cc g in omega (arith, one_comes n x (ap (λ (k : Logged). k.stamp) same ∙ s), all_stay n xs)
    at_head (b ∷ before) g others = let rest : of_thread t xs ≡ before ++ l ∷ later = cc g in omega (arith, one_stays n x, others before rest)

    by_test : (b : Bool) → cond b (x.1 ∷ of_thread t xs) (of_thread t xs) ≡ before ++ l ∷ later
        → ((front : List Logged) → of_thread t xs ≡ front ++ l ∷ later → up_to n xs + 1 ≤ up_to (n + 1) xs) → up_to n (x ∷ xs) + 1 ≤ up_to (n + 1) (x ∷ xs)
    by_test true g others = at_head before g others
    by_test false g others = omega (arith, one_stays n x, others before g)

-- STAMPS
-- some entry has the stamp, or it is 0
pub record IsLogged (logs : List (List Logged)) (stamp : ℕ) : Type 0 where
  pub thread : ℕ
  pub entry : Logged
  pub before : List Logged
  pub later : List Logged
  pub log_is : log_of logs thread ≡ before ++ entry ∷ later
  pub stamp_is : entry.stamp ≡ stamp

abbrev IsLoggedOrZero : List (List Logged) → ℕ → Type 0
IsLoggedOrZero logs stamp = (stamp ≡ 0) ⊎ IsLogged logs stamp

-- the last of these entries, where there is one
last_is : (logs : List (List Logged)) (t n : ℕ) (front before rest : List Logged) → log_of logs t ≡ front ++ (before ++ rest)
    → (last_above n before ≡ n) ⊎ IsLogged logs (last_above n before)
last_is logs t n front [] rest e = inl refl
last_is logs t n front (b ∷ bs) rest e = by_rest (last_is logs t b.stamp (front ++ b ∷ []) bs rest (e ∙ sym (append_assoc front (b ∷ []) (bs ++ rest))))
  where
    by_rest : (last_above b.stamp bs ≡ b.stamp) ⊎ IsLogged logs (last_above b.stamp bs) → (last_above b.stamp bs ≡ n) ⊎ IsLogged logs (last_above b.stamp bs)
    by_rest (inl same) = inr (record { thread = t; entry = b; before = front; later = bs ++ rest; log_is = e; stamp_is = sym same })
    by_rest (inr logged) = inr logged

-- an exact stamp is one more than a logged one
pub record IsNext (logs : List (List Logged)) (stamp : ℕ) : Type 0 where
  pub below : ℕ
  pub is : stamp ≡ below + 1
  pub logged : IsLoggedOrZero logs below

let_go_is : (logs : List (List Logged)) (o stamp : ℕ) → (stamp ≡ 0) ⊎ ((t : ℕ) × HasLetGo (log_of logs t) o stamp) → IsLoggedOrZero logs stamp
let_go_is logs o stamp (inl zeroed) = inl zeroed
let_go_is logs o stamp (inr r) =
    inr (record {
      thread = r.0;
      entry = record { stamp = stamp; entry = r.1.entry };
      before = r.1.before;
      later = r.1.later;
      log_is = r.1.log_is;
      stamp_is = refl;
    })

greater : (logs : List (List Logged)) (a b : ℕ) → IsLoggedOrZero logs a → IsLoggedOrZero logs b → IsLoggedOrZero logs (max a b)
greater logs a b h k = by_test (max_is a b)
  where
    max_is : (a b : ℕ) → (max a b ≡ a) ⊎ (max a b ≡ b)
    max_is a b = elim (cases_lt a b) [
      | inl below ↦ inr (omega (arith, below))
      | inr above ↦ inl (omega (arith, above))
    ]

    by_test : (max a b ≡ a) ⊎ (max a b ≡ b) → IsLoggedOrZero logs (max a b)
    by_test (inl same) = subst (IsLoggedOrZero logs) (sym same) h
    by_test (inr same) = subst (IsLoggedOrZero logs) (sym same) k

module _ (logs : List (List Logged)) (last stamp : ℕ) (logged : IsLoggedOrZero logs last) where
  taking : (o : ℕ) → IsTakingStamp logs o last stamp → IsNext logs stamp
  taking o h =
      record { below = max h.let_go last; is = h.next; logged = greater logs h.let_go last (let_go_is logs o h.let_go h.is_last.logged) logged }

  following : stamp ≡ last + 1 → IsNext logs stamp
  following h = record { below = last; is = h; logged = logged }

  exact_is_next : (e : Entry) → IsExactStamp logs last e stamp → IsNext logs stamp
  exact_is_next (entry.Enter o path) h = taking o h
  exact_is_next (entry.Resume o) h = taking o h
  exact_is_next e h = following h

module _ (logs : List (List Logged)) (rises : AllByRecursion (RisesAbove 0) logs) (exact : StampsAreExact logs) where
  pub next_of : (t : ℕ) (before : List Logged) (l : Logged) (later : List Logged) → log_of logs t ≡ before ++ l ∷ later → IsNext logs l.stamp
  next_of t before l later e =
      exact_is_next logs (last_stamp before) l.stamp (last_is logs t 0 [] before (l ∷ later) e) l.entry (exact t before l later e)

  -- as many entries as its number stand up to a stamp
  enough_below : (n : ℕ) → (IsLogged logs n → n ≤ up_to n (order logs)) → IsLoggedOrZero logs n → n ≤ up_to n (order logs)
  enough_below n before (inl none) = omega (arith, none)
  enough_below n before (inr logged) = before logged

  enough : (n : ℕ) → IsLogged logs n → n ≤ up_to n (order logs)
  enough zero h = omega arith
  enough (suc n) h =
      let at = h.stamp_is in
      let more = one_more n h.thread (order logs) h.before h.entry h.later (thread_kept logs h.thread rises ∙ h.log_is) (omega (arith, at)) in
      let next = next_of h.thread h.before h.entry h.later h.log_is in
      let same : next.below ≡ n = omega (arith, next.is, at) in
      let below = enough_below n (enough n) (subst (IsLoggedOrZero logs) same next.logged) in
      let one : suc n ≡ n + 1 = omega arith in
      subst (λ k. k ≤ up_to k (order logs)) (sym one) (omega (arith, more, below))

  pub stamps_are_few : AllByRecursion (λ x. x.1.stamp ≤ length (order logs)) (order logs)
  stamps_are_few =
      all_weaker (IsPlaced logs) (λ x. x.1.stamp ≤ length (order logs))
      (λ x h.
      let many = enough x.1.stamp (record { thread = x.0; entry = x.1; before = h.before; later = h.later; log_is = h.log_is; stamp_is = refl }) in
      let few = few_up_to x.1.stamp (order logs) in
      omega (arith, many, few))
      (order logs) (all_placed logs)
