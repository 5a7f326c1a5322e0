-- Cuts of logs whose paths of enters are taken away.
use Rattle.std.proofs.Common.{◌≡◌, ℕ, zero, suc, true, List, [], ◌∷◌, map, take, drop, refl, sym, ap, ◌∙◌, subst}
use Rattle.std.specs.List.{AllByRecursion}
use Rattle.single_thread_law.specs.LoneRun.{with_no_path, with_no_paths, without_path}
use Rattle.plain_history.specs.Cuts.{cut_logs, logs_since, IsCutInOrder}
use Rattle.plain_history.specs.Tied.{bound_to, is_same_object, is_tied}
use Rattle.plain_monitor.specs.declared.entry.Entry.{Entry}
use Rattle.plain_monitor.specs.declared.entry.Entry.TheVariants as entry
use Rattle.plain_monitor.specs.declared.entry.Logged.{Logged}
use Rattle.plain_monitor.specs.Order.{is_before, order}
use Rattle.plain_monitor.proofs.Lists.{all_map, all_weaker}
use Rattle.program_run.proofs.NoPaths.{bare, bare_at, order_bare}

pub cut_bare : (cut : List ℕ) (logs : List (List Logged)) → cut_logs cut (with_no_paths logs) ≡ with_no_paths (cut_logs cut logs)
cut_bare [] logs = refl
cut_bare (n ∷ ns) [] = refl
cut_bare (n ∷ ns) (log ∷ logs) = λ i. take_bare_front n log i ∷ cut_bare ns logs i
  where
    take_bare_front : (n : ℕ) (log : List Logged) → take n (bare log) ≡ bare (take n log)
    take_bare_front zero log = refl
    take_bare_front (suc n) [] = refl
    take_bare_front (suc n) (l ∷ log) = ap (λ ls. with_no_path l ∷ ls) (take_bare_front n log)

since_bare : (cut : List ℕ) (logs : List (List Logged)) → logs_since cut (with_no_paths logs) ≡ with_no_paths (logs_since cut logs)
since_bare [] logs = refl
since_bare (n ∷ ns) [] = refl
since_bare (n ∷ ns) (log ∷ logs) = λ i. rest_bare n log i ∷ since_bare ns logs i
  where
    rest_bare : (n : ℕ) (log : List Logged) → drop n (bare log) ≡ bare (drop n log)
    rest_bare zero log = refl
    rest_bare (suc zero) [] = refl
    rest_bare (suc (suc n)) [] = refl
    rest_bare (suc n) (l ∷ log) = rest_bare n log

bound_bare : (e : Entry) → bound_to (without_path e) ≡ bound_to e
bound_bare (entry.Enter o path) = refl
bound_bare e = refl

tied_bare : (e f : Entry) → is_tied (without_path e) (without_path f) ≡ is_tied e f
tied_bare e f = λ i. is_same_object (bound_bare e i) (bound_bare f i)

-- x stands before y where the two are tied
abbrev Stands : ℕ × Logged → ℕ × Logged → Type 0
Stands x y = is_tied x.1.entry y.1.entry ≡ true → is_before x y ≡ true

from_map : (P : ℕ × Logged → Type 0) (xs : List (ℕ × Logged)) → AllByRecursion P (map bare_at xs) → AllByRecursion (λ x. P (bare_at x)) xs
from_map P [] a = tt
from_map P (x ∷ xs) a = (a.0, from_map P xs a.1)

stand_to : (xs ys : List (ℕ × Logged)) → AllByRecursion (λ x. AllByRecursion (Stands x) ys) xs
    → AllByRecursion (λ x. AllByRecursion (Stands x) (map bare_at ys)) (map bare_at xs)
stand_to xs ys a =
    all_map (λ x. AllByRecursion (Stands x) (map bare_at ys)) bare_at xs
    (all_weaker (λ x. AllByRecursion (Stands x) ys) (λ x. AllByRecursion (Stands (bare_at x)) (map bare_at ys))
    (λ x b. all_map (Stands (bare_at x)) bare_at ys
    (all_weaker (Stands x) (λ y. Stands (bare_at x) (bare_at y)) (λ y s tied. s (sym (tied_bare x.1.entry y.1.entry) ∙ tied)) ys b)) xs a)

stand_from : (xs ys : List (ℕ × Logged)) → AllByRecursion (λ x. AllByRecursion (Stands x) (map bare_at ys)) (map bare_at xs)
    → AllByRecursion (λ x. AllByRecursion (Stands x) ys) xs
stand_from xs ys a =
    all_weaker (λ x. AllByRecursion (Stands (bare_at x)) (map bare_at ys)) (λ x. AllByRecursion (Stands x) ys)
    (λ x b. all_weaker (λ y. Stands (bare_at x) (bare_at y)) (Stands x) (λ y s tied. s (tied_bare x.1.entry y.1.entry ∙ tied)) ys
    (from_map (Stands (bare_at x)) ys b)) xs (from_map (λ x. AllByRecursion (Stands x) (map bare_at ys)) xs a)

module _ (cut : List ℕ) (logs : List (List Logged)) where
  fronts : order (cut_logs cut (with_no_paths logs)) ≡ map bare_at (order (cut_logs cut logs))
  fronts = ap order (cut_bare cut logs) ∙ order_bare (cut_logs cut logs)

  rests : order (logs_since cut (with_no_paths logs)) ≡ map bare_at (order (logs_since cut logs))
  rests = ap order (since_bare cut logs) ∙ order_bare (logs_since cut logs)

  pub in_order_to : IsCutInOrder cut logs → IsCutInOrder cut (with_no_paths logs)
  in_order_to h =
      subst (λ (z : List (ℕ × Logged) × List (ℕ × Logged)). AllByRecursion (λ x. AllByRecursion (Stands x) z.1) z.0) (λ i. (sym fronts i, sym rests i))
      (stand_to (order (cut_logs cut logs)) (order (logs_since cut logs)) h)

  pub in_order_from : IsCutInOrder cut (with_no_paths logs) → IsCutInOrder cut logs
  in_order_from h =
      stand_from (order (cut_logs cut logs)) (order (logs_since cut logs))
      (subst (λ (z : List (ℕ × Logged) × List (ℕ × Logged)). AllByRecursion (λ x. AllByRecursion (Stands x) z.1) z.0) (λ i. (fronts i, rests i)) h)
