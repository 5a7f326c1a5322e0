-- The order of logs whose traps have other indexes.
use Rattle.std.proofs.Common.{◌≡◌, ℕ, ◌+◌, Bool, true, false, if◌then◌else◌, List, [], ◌∷◌, ◌++◌, map, Option, Some, None, option_and_then, refl, sym, ap, ◌∙◌}
use Rattle.std.specs.List.{AllByRecursion}
use Rattle.plain_monitor.specs.declared.entry.Entry.{Entry}
use Rattle.plain_monitor.specs.declared.entry.Entry.TheVariants.{Trap}
use Rattle.plain_monitor.specs.declared.entry.Logged.{Logged}
use Rattle.plain_monitor.specs.Order.{is_before, insert_ordered, ordered, with_threads, order}
use Rattle.plain_monitor.specs.History.{RisesAbove}
use Rattle.sync_source.specs.SyncThread.{with_index}
use Rattle.sync_source.specs.SyncMachine.{SyncMachine, sync_take, sync_after_all}
use Rattle.sync_source.specs.SameMeaning.{indexed, unindexed}

-- an entry whose trap has the index that is its thread's
abbrev pub placed : (ℕ → ℕ) → ℕ × Logged → ℕ × Logged
placed f x = (x.0, indexed (f x.0) x.1)

-- all entries of these logs, where the first is that of thread t
abbrev pub placed_from : (ℕ → ℕ) → ℕ → List (List Logged) → List (List Logged)
placed_from f t [] = []
placed_from f t (log ∷ logs) = map (indexed (f t)) log ∷ placed_from f (t + 1) logs

insert_placed : (f : ℕ → ℕ) (x : ℕ × Logged) (ys : List (ℕ × Logged)) → insert_ordered (placed f x) (map (placed f) ys) ≡ map (placed f) (insert_ordered x ys)
insert_placed f x [] = refl
insert_placed f x (y ∷ ys) = go (is_before x y) (insert_placed f x ys)
  where
    go : (b : Bool) → insert_ordered (placed f x) (map (placed f) ys) ≡ map (placed f) (insert_ordered x ys)
        → (if b then placed f x ∷ placed f y ∷ map (placed f) ys else placed f y ∷ insert_ordered (placed f x) (map (placed f) ys))
        ≡ map (placed f) (if b then x ∷ y ∷ ys else y ∷ insert_ordered x ys)
    go true ih = refl
    go false ih = ap (λ zs. placed f y ∷ zs) ih

ordered_placed : (f : ℕ → ℕ) (xs : List (ℕ × Logged)) → ordered (map (placed f) xs) ≡ map (placed f) (ordered xs)
ordered_placed f [] = refl
ordered_placed f (x ∷ xs) =
    ap (λ ys. insert_ordered (placed f x) ys) (ordered_placed f xs) ∙ insert_placed f x (ordered xs)

log_placed : (f : ℕ → ℕ) (t : ℕ) (log : List Logged) (xs ys : List (ℕ × Logged)) → xs ≡ map (placed f) ys
    → map (λ l. (t, l)) (map (indexed (f t)) log) ++ xs ≡ map (placed f) (map (λ l. (t, l)) log ++ ys)
log_placed f t [] xs ys e = e
log_placed f t (l ∷ log) xs ys e = ap (λ zs. (t, indexed (f t) l) ∷ zs) (log_placed f t log xs ys e)

with_placed : (f : ℕ → ℕ) (t : ℕ) (logs : List (List Logged)) → with_threads t (placed_from f t logs) ≡ map (placed f) (with_threads t logs)
with_placed f t [] = refl
with_placed f t (log ∷ logs) = log_placed f t log _ _ (with_placed f (t + 1) logs)

pub order_placed : (f : ℕ → ℕ) (logs : List (List Logged)) → order (placed_from f 0 logs) ≡ map (placed f) (order logs)
order_placed f logs = ap ordered (with_placed f 0 logs) ∙ ordered_placed f (with_threads 0 logs)

indexed_twice : (i : ℕ) (l : Logged) → indexed 0 (indexed i l) ≡ indexed 0 l
indexed_twice i l = ap (λ e. record l { entry = e }) (twice l.entry)
  where
    twice : (e : Entry) → with_index 0 (with_index i e) ≡ with_index 0 e
    twice (Trap f j) = refl
    twice e = refl

log_twice : (i : ℕ) (log : List Logged) → map (indexed 0) (map (indexed i) log) ≡ map (indexed 0) log
log_twice i [] = refl
log_twice i (l ∷ log) =
    ap (λ x. x ∷ map (indexed 0) (map (indexed i) log)) (indexed_twice i l) ∙ ap (λ xs. indexed 0 l ∷ xs) (log_twice i log)

pub unindexed_placed : (f : ℕ → ℕ) (t : ℕ) (logs : List (List Logged)) → unindexed (placed_from f t logs) ≡ unindexed logs
unindexed_placed f t [] = refl
unindexed_placed f t (log ∷ logs) =
    ap (λ x. x ∷ unindexed (placed_from f (t + 1) logs)) (log_twice (f t) log) ∙ ap (λ xs. map (indexed 0) log ∷ xs) (unindexed_placed f (t + 1) logs)

pub unindexed_is : (t : ℕ) (logs : List (List Logged)) → placed_from (λ u. 0) t logs ≡ unindexed logs
unindexed_is t [] = refl
unindexed_is t (log ∷ logs) = ap (λ xs. map (indexed 0) log ∷ xs) (unindexed_is (t + 1) logs)

rises_indexed : (i n : ℕ) (log : List Logged) → RisesAbove n log → RisesAbove n (map (indexed i) log)
rises_indexed i n [] h = tt
rises_indexed i n (l ∷ log) h = (h.0, rises_indexed i l.stamp log h.1)

rises_back : (i n : ℕ) (log : List Logged) → RisesAbove n (map (indexed i) log) → RisesAbove n log
rises_back i n [] h = tt
rises_back i n (l ∷ log) h = (h.0, rises_back i l.stamp log h.1)

pub all_rise : (f : ℕ → ℕ) (t : ℕ) (logs : List (List Logged)) → AllByRecursion (RisesAbove 0) logs → AllByRecursion (RisesAbove 0) (placed_from f t logs)
all_rise f t [] h = tt
all_rise f t (log ∷ logs) h = (rises_indexed (f t) 0 log h.0, all_rise f (t + 1) logs h.1)

pub all_rise_back : (f : ℕ → ℕ) (t : ℕ) (logs : List (List Logged)) → AllByRecursion (RisesAbove 0) (placed_from f t logs) → AllByRecursion (RisesAbove 0) logs
all_rise_back f t [] h = tt
all_rise_back f t (log ∷ logs) h = (rises_back (f t) 0 log h.0, all_rise_back f (t + 1) logs h.1)

-- a program with blocks doesn't look at the index of a trap
take_indexed : (a : SyncMachine) (t i : ℕ) (e : Entry) → sync_take a t (with_index i e) ≡ sync_take a t e
take_indexed a t i (Trap f j) = refl
take_indexed a t i e = refl

all_placed : (f : ℕ → ℕ) (xs : List (ℕ × Logged)) (a : SyncMachine) → sync_after_all a (map (placed f) xs) ≡ sync_after_all a xs
all_placed f [] a = refl
all_placed f (x ∷ xs) a =
    ap (λ o. option_and_then (λ next. sync_after_all next (map (placed f) xs)) o) (take_indexed a x.0 (f x.0) x.1.entry)
    ∙ go (λ b. all_placed f xs b) (sync_take a x.0 x.1.entry)
  where
    go : ((b : SyncMachine) → sync_after_all b (map (placed f) xs) ≡ sync_after_all b xs) → (o : Option SyncMachine)
        → option_and_then (λ next. sync_after_all next (map (placed f) xs)) o ≡ option_and_then (λ next. sync_after_all next xs) o
    go ih None = refl
    go ih (Some b) = ih b

-- nor does its machine after all logs
pub after_unindexed : (a : SyncMachine) (logs : List (List Logged)) → sync_after_all a (order (unindexed logs)) ≡ sync_after_all a (order logs)
after_unindexed a logs =
    ap (λ x. sync_after_all a (order x)) (sym (unindexed_is 0 logs)) ∙ ap (sync_after_all a) (order_placed (λ u. 0) logs) ∙ all_placed (λ u. 0) (order logs) a

pub same_after : (a : SyncMachine) (logs others : List (List Logged))
    → unindexed logs ≡ unindexed others → sync_after_all a (order logs) ≡ sync_after_all a (order others)
same_after a logs others e =
    sym (after_unindexed a logs) ∙ ap (λ x. sync_after_all a (order x)) e ∙ after_unindexed a others
