-- The cycles that are found are all cycles of the machine.
use Rattle.std.proofs.Common.{◌≡◌, ◌≢◌, ℕ, zero, suc, ◌+◌, ◌<◌, ◌≤◌, eqb-true, ne_eqb, eqb, eq-eqb, Bool, true, false, List, [], ◌∷◌, ◌++◌}
use Rattle.std.proofs.Common.{length, map, Option, Some, None, option_map, option_to_list, refl, sym, ap, ◌∙◌, subst, arith, ◌||◌}
use Rattle.std.specs.Prelude.{Contains}
use Rattle.std.specs.List.{AllByRecursion, list_any, IsDistinct}
use Rattle.std.proofs.lemmas.List.{length-map}
use Rattle.std.proofs.lemmas.Map.Steps.{length-le_from_distinct_below}
use Rattle.plain_monitor.proofs.Lists.{all_weaker, all_map}
use Rattle.plain_machine.specs.Machine.{PlainMachine}
use Rattle.wait_report.specs.declared.cycles.Link.{Link}
use Rattle.wait_report.specs.declared.cycles.Cycle.{Cycle}
use Rattle.wait_report.specs.Cycles.{next_thread, AreLinked, AreApart, IsCircle, IsCycleOf, IsCycle, first_thread, RiseFrom, AreCycles}
use Rattle.wait_report.specs.inner.Walk.{links_from, cycle_of, cycle_from, cycles_from}
use Rattle.wait_report.proofs.Blockers.{waiting_within}
use Rattle.wait_report.proofs.Walks.{IsWay, IsWayFrom, found_is_way, way_is_found, way_is_apart}

-- a cycle whose least thread is this one
pub record Begins (m : PlainMachine) (first : ℕ) (c : Cycle) : Type 0 where
  pub cycle : IsCycle m c
  pub at : first_thread c ≡ first

-- a way from a thread back to it is a cycle
pub way_begins : (m : PlainMachine) (first : ℕ) (links : List Link) → IsWayFrom m first first links → Begins m first (cycle_of links)
way_begins m first [] way = absurd way
way_begins m first (x ∷ xs) way =
    let P : ℕ → Type 0 = λ f. IsWay m f x xs in
    let own : IsWay m x.thread x xs = subst P (sym way.0) way.1 in
    let others : AllByRecursion (λ y. x.thread ≢ y.thread) xs =
    all_weaker (λ y. x.thread < y.thread) (λ y. x.thread ≢ y.thread) (λ y less. λ e. omega (arith, less)) xs own.above in
    record {
      cycle = record { linked = own.linked; least = own.above; distinct = (others, way_is_apart m x.thread xs own.linked.1 others) };
      at = way.0;
    }

-- what is found from a thread on is a cycle that begins with it
found_begins : (m : PlainMachine) (n first : ℕ) (c : Cycle) → cycle_from m n first ≡ Some c → Begins m first c
found_begins m n first c e = by_found (links_from m first n first) refl e where
  by_found : (found : Option (List Link)) → links_from m first n first ≡ found → option_map cycle_of found ≡ Some c → Begins m first c
  by_found None at e = absurd (cc e)
  by_found (Some links) at e =
      let same : cycle_of links ≡ c = cc e in
      subst (Begins m first) same (way_begins m first links (found_is_way m first n first links at))

-- the threads of a way are the machine's, and no more than these
apart_threads : (xs : List Link) → AreApart xs → IsDistinct eqb (map (λ x. x.thread) xs)
unfolding IsDistinct
apart_threads [] h = tt
apart_threads (x ∷ xs) h = (
  all_map (λ (t : ℕ). eqb x.thread t ≡ false) (λ (y : Link). y.thread) xs (all_weaker (λ (y : Link). x.thread ≢ y.thread)
      (λ (y : Link). eqb x.thread y.thread ≡ false) (λ y d. ne_eqb x.thread y.thread d) xs h.0),
  apart_threads xs h.1,
)

threads_within : (m : PlainMachine) (first : ℕ) (xs : List Link) (q : ℕ) → AreLinked m first xs
    → list_any (eqb q) (map (λ x. x.thread) xs) ≡ true → q < length m.threads
threads_within m first [] q linked h = absurd (cc h)
threads_within m first (x ∷ xs) q linked h = by_test (eqb q x.thread) refl (threads_within m first xs q linked.1) h where
  by_test : (b : Bool) → eqb q x.thread ≡ b → (list_any (eqb q) (map (λ y. y.thread) xs) ≡ true → q < length m.threads)
      → (b || list_any (eqb q) (map (λ y. y.thread) xs)) ≡ true → q < length m.threads
  by_test true t rest h =
      let within = waiting_within m x.thread (next_thread first xs) x.object linked.0 in
      omega (arith, eqb-true q x.thread t, within)
  by_test false t rest h = rest h

circle_is_short : (m : PlainMachine) (x : Link) (xs : List Link) → IsCircle m x xs → length (x ∷ xs) ≤ length m.threads
circle_is_short m x xs h =
    let few = length-le_from_distinct_below (map (λ (y : Link). y.thread) (x ∷ xs)) (length m.threads)
    (apart_threads (x ∷ xs) h.distinct) (λ q any. threads_within m x.thread (x ∷ xs) q h.linked any) in
    let as_many = length-map (x ∷ xs) (λ (y : Link). y.thread) in
    omega (arith, few, as_many)

-- a cycle is found from its first thread on, which is one of the machine's
record IsFound (m : PlainMachine) (c : Cycle) : Type 0 where
  found : cycle_from m (length m.threads) (first_thread c) ≡ Some c
  within : first_thread c < length m.threads

cycle_is_found : (m : PlainMachine) (links : List Link) → IsCycleOf m links → IsFound m (cycle_of links)
cycle_is_found m [] h = absurd h
cycle_is_found m (x ∷ xs) h =
    let at = way_is_found m x.thread (length m.threads) x xs (record { linked = h.linked; above = h.least }) (circle_is_short m x xs h) in
    record { found = ap (option_map cycle_of) at; within = waiting_within m x.thread (next_thread x.thread xs) x.object h.linked.0 }

-- each cycle that is found is one
all_cycles : (m : PlainMachine) (n first k : ℕ) → AllByRecursion (IsCycle m) (cycles_from m n first k)
all_cycles m n first zero = tt
all_cycles m n first (suc k) = by_found (cycle_from m n first) refl (all_cycles m n (first + 1) k) where
  by_found : (found : Option Cycle) → cycle_from m n first ≡ found → AllByRecursion (IsCycle m) (cycles_from m n (first + 1) k)
      → AllByRecursion (IsCycle m) (option_to_list found ++ cycles_from m n (first + 1) k)
  by_found None at rest = rest
  by_found (Some c) at rest = ((found_begins m n first c at).cycle, rest)

rise_lower : (a b : ℕ) (cs : List Cycle) → a ≤ b → RiseFrom b cs → RiseFrom a cs
rise_lower a b [] le h = tt
rise_lower a b (c ∷ cs) le h = (omega (arith, h.0), h.1)

-- their first threads rise
all_rise : (m : PlainMachine) (n first k : ℕ) → RiseFrom first (cycles_from m n first k)
all_rise m n first zero = tt
all_rise m n first (suc k) = by_found (cycle_from m n first) refl (all_rise m n (first + 1) k) where
  by_found : (found : Option Cycle) → cycle_from m n first ≡ found → RiseFrom (first + 1) (cycles_from m n (first + 1) k)
      → RiseFrom first (option_to_list found ++ cycles_from m n (first + 1) k)
  by_found None at rest = rise_lower first (first + 1) _ (omega arith) rest
  by_found (Some c) at rest =
      let is : first_thread c ≡ first = (found_begins m n first c at).at in
      (omega (arith, is), rw is rest)

contains_more : (c d : Cycle) (cs : List Cycle) → Contains cs c → Contains (d ∷ cs) c
contains_more c d cs h = (suc h.0, omega (arith, h.1), h.2)

-- a cycle that is found is listed
found_is_listed : (m : PlainMachine) (n first k : ℕ) (c : Cycle) → first ≤ first_thread c
    → first_thread c < first + k → cycle_from m n (first_thread c) ≡ Some c
    → Contains (cycles_from m n first k) c
found_is_listed m n first zero c low high e = absurd (omega arith)
found_is_listed m n first (suc k) c low high e =
    by_place (eqb first (first_thread c)) refl (λ other. found_is_listed m n (first + 1) k c (omega arith) (omega arith) e)
  where
    by_found : (found : Option Cycle) → Contains (cycles_from m n (first + 1) k) c → Contains (option_to_list found ++ cycles_from m n (first + 1) k) c
    by_found None rest = rest
    by_found (Some d) rest = contains_more c d (cycles_from m n (first + 1) k) rest

    by_place : (b : Bool) → eqb first (first_thread c) ≡ b → (first ≢ first_thread c → Contains (cycles_from m n (first + 1) k) c)
        → Contains (option_to_list (cycle_from m n first) ++ cycles_from m n (first + 1) k) c
    by_place true t after =
        let at : cycle_from m n first ≡ Some c = ap (cycle_from m n) (eqb-true first (first_thread c) t) ∙ e in
        rw at (0, omega arith, refl)
    by_place false t after = by_found (cycle_from m n first)
        (after (λ h. absurd (let own : eqb first (first_thread c) ≡ true = eq-eqb first (first_thread c) h in cc (own, t))))

-- the cycles of as many links as the machine has threads, from each thread on, are all
pub all_are_cycles : (m : PlainMachine) (n : ℕ) → n ≡ length m.threads → AreCycles m (cycles_from m n 0 n)
all_are_cycles m n e =
    record {
      each = all_cycles m n 0 n;
      all = λ c h. let f = cycle_is_found m c.links h in found_is_listed m n 0 n c (omega arith) (omega (arith, f.within)) (rw e f.found);
      rising = all_rise m n 0 n;
    }
