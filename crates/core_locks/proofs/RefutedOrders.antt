-- The last entry of each log stands in the order.
use Rattle.core_locks.proofs.Prelude.{◌≡◌, ℕ, ◌==◌, Bool, true, false, List, [], ◌∷◌, ◌++◌, refl, ◌∙◌, subst}
use Rattle.core_locks.proofs.Prelude.{AllByRecursion, Logged, log_of, RisesAbove, order, of_thread, thread_kept}

-- what holds of all entries holds of a thread's, by the test against the head
own_at_head : (F : Logged → Type 0) (t : ℕ) (x : ℕ × Logged) (xs : List (ℕ × Logged)) (b : Bool) → (x.0 == t) ≡ b → F x.1 → AllByRecursion F (of_thread t xs)
    → AllByRecursion F (of_thread t (x ∷ xs))
own_at_head F t x xs true e f a = rw e (f, a)
own_at_head F t x xs false e f a = rw e a

-- what holds of all entries holds of a thread's
all_own : (F : Logged → Type 0) (t : ℕ) (xs : List (ℕ × Logged)) → AllByRecursion (λ x. F x.1) xs → AllByRecursion F (of_thread t xs)
all_own F t [] a = tt
all_own F t (x ∷ xs) a = own_at_head F t x xs (x.0 == t) refl a.0 (all_own F t xs a.1)

-- what holds of all entries of a log holds of its last
at_end : (F : Logged → Type 0) (log : List Logged) (y : Logged) → AllByRecursion F (log ++ y ∷ []) → F y
at_end F [] y a = a.0
at_end F (m ∷ log) y a = at_end F log y a.1

-- the last entry of each log stands in the order: what holds of all entries there holds of it
pub last_is_ordered : (F : Logged → Type 0) (all : List (List Logged)) (t : ℕ) (log : List Logged) (y : Logged) → AllByRecursion (RisesAbove 0) all
    → log_of all t ≡ log ++ y ∷ [] → AllByRecursion (λ x. F x.1) (order all) → F y
last_is_ordered F all t log y rises e a = at_end F log y (subst (AllByRecursion F) (thread_kept all t rises ∙ e) (all_own F t (order all) a))
