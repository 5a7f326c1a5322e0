-- In a stuck machine some thread waits that nobody has notified, or there is a cycle. A live thread that doesn't wait so waits for
-- another live one, and that one in turn. The threads are taken from the greatest down: from each that is at least k this way leads
-- to one below k, unless it comes to a circle, which is seen where its least thread is taken.
use Rattle.std.proofs.Common.{◌≡◌, ◌⊎◌, inl, inr, ℕ, zero, suc, ◌+◌, ◌<◌, ◌≤◌, Bool, true, false, ◌||◌, List}
use Rattle.std.proofs.Common.{[], ◌∷◌, ◌++◌, length, slice_get, Some, refl, sym, ◌∙◌, subst, arith}
use Rattle.std.specs.List.{AllByRecursion, list_any}
use Rattle.std.proofs.lemmas.Bool.{cases_lt, cases_order, false≢true, and_parts}
use Rattle.std.proofs.lemmas.Option.{same_Some, option_and_then_some, slice_get_within}
use Rattle.plain_monitor.specs.declared.entry.Logged.{Logged}
use Rattle.plain_monitor.specs.Order.{order}
use Rattle.plain_monitor.proofs.Lists.{all_weaker, all_append}
use Rattle.object_program.specs.Program.{ProgramText}
use Rattle.object_program.specs.Valid.{IsProgram}
use Rattle.plain_machine.specs.Thread.{ThreadState}
use Rattle.plain_machine.specs.Machine.{PlainMachine, new_machine, take, is_live, all_barred, is_stuck}
use Rattle.plain_machine.specs.Legal.{after_all, machine_after}
use Rattle.machine_laws.specs.Reached.{IsReached}
use Rattle.machine_laws.proofs.ReachedEntries.{progress}
use Rattle.machine_laws.proofs.ReachedFirst.{first_is_reached}
use Rattle.wait_report.specs.declared.cycles.Link.{Link}
use Rattle.wait_report.specs.declared.cycles.Cycle.{Cycle}
use Rattle.wait_report.specs.Waiting.{WaitsFor, WaitsUnnotified}
use Rattle.wait_report.specs.Cycles.{next_thread, AreLinked, IsCycle, AreCycles}
use Rattle.wait_report.specs.inner.Walk.{link, cycle_of}
use Rattle.wait_report.proofs.Circles.{way_begins}
use Rattle.wait_report.proofs.HeldBack.{IsLive, WaitsForLive, OneWaits, held_back}

abbrev HasCycle : PlainMachine → Type 0
HasCycle m = (c : Cycle) × IsCycle m c

-- why the machine is stuck
abbrev IsExplained : PlainMachine → Type 0
IsExplained m = OneWaits m ⊎ HasCycle m

-- links from thread u on, each of a thread that is at least k, lead to a live thread below k
record Leads (m : PlainMachine) (k u : ℕ) : Type 0 where
  last : ℕ
  live : IsLive m last
  below : last < k
  links : List Link
  starts : next_thread last links ≡ u
  linked : AreLinked m last links
  above : AllByRecursion (λ y. k ≤ y.thread) links

-- the same of each live thread that is at least k, unless that explains why the machine is stuck
abbrev AllLead : PlainMachine → ℕ → Type 0
AllLead m k = (u : ℕ) → k ≤ u → IsLive m u → IsExplained m ⊎ Leads m k u

from_k : (k : ℕ) (links : List Link) → AllByRecursion (λ y. k + 1 ≤ y.thread) links → AllByRecursion (λ y. k ≤ y.thread) links
from_k k links above = all_weaker (λ (y : Link). k + 1 ≤ y.thread) (λ (y : Link). k ≤ y.thread) (λ y low. omega (arith, low)) links above

-- one link more in front
longer : (m : PlainMachine) (k : ℕ) (a : WaitsForLive m k) (r : Leads m (k + 1) a.owner) → AreLinked m r.last (link k a.object ∷ r.links)
longer m k a r = (subst (λ (w : ℕ). WaitsFor m k w a.object) (sym r.starts) a.waits, r.linked)

-- links that lead back to k close a circle, whose least thread this is
closed : (m : PlainMachine) (k : ℕ) (a : WaitsForLive m k) (r : Leads m (k + 1) a.owner) → r.last ≡ k → HasCycle m
closed m k a r back =
    let linked : AreLinked m k (link k a.object ∷ r.links) = subst (λ (w : ℕ). AreLinked m w (link k a.object ∷ r.links)) back (longer m k a r) in
    let least : AllByRecursion (λ y. k < y.thread) r.links =
    all_weaker (λ (y : Link). k + 1 ≤ y.thread) (λ (y : Link). k < y.thread) (λ y low. omega (arith, low)) r.links r.above in
    let begins = way_begins m k (link k a.object ∷ r.links) (refl, record { linked = linked; above = least }) in
    (cycle_of (link k a.object ∷ r.links), begins.cycle)

-- from thread k itself, where all above it lead on
from_least : (m : PlainMachine) (k : ℕ) → AllLead m (k + 1) → OneWaits m ⊎ WaitsForLive m k → IsExplained m ⊎ Leads m k k
from_least m k higher (inl waits) = inl (inl waits)
from_least m k higher (inr a) = by_order (cases_order a.owner k) where
  by_end : (r : Leads m (k + 1) a.owner) → (r.last < k) ⊎ (k ≤ r.last) → IsExplained m ⊎ Leads m k k
  by_end r (inl less) =
      inr (record {
        last = r.last;
        live = r.live;
        below = less;
        links = link k a.object ∷ r.links;
        starts = refl;
        linked = longer m k a r;
        above = (omega arith, from_k k r.links r.above);
      })
  by_end r (inr over) = let back : r.last ≡ k = omega (arith, r.below, over) in inl (inr (closed m k a r back))

  by_higher : IsExplained m ⊎ Leads m (k + 1) a.owner → IsExplained m ⊎ Leads m k k
  by_higher (inl done) = inl done
  by_higher (inr r) = by_end r (cases_lt r.last k)

  by_order : (a.owner ≡ k) ⊎ ((a.owner < k) ⊎ (k < a.owner)) → IsExplained m ⊎ Leads m k k
  by_order (inl same) = absurd (a.waits.other same)
  by_order (inr (inl less)) =
      inr (record {
        last = a.owner;
        live = a.live;
        below = less;
        links = link k a.object ∷ [];
        starts = refl;
        linked = (a.waits, tt);
        above = (omega arith, tt);
      })
  by_order (inr (inr more)) = by_higher (higher a.owner (omega (arith, more)) a.live)

next_joined : (last w : ℕ) (xs ys : List Link) → next_thread last ys ≡ w → next_thread last (xs ++ ys) ≡ next_thread w xs
next_joined last w [] ys e = e
next_joined last w (x ∷ xs) ys e = refl

linked_joined : (m : PlainMachine) (last w : ℕ) (xs ys : List Link) → next_thread last ys ≡ w
    → AreLinked m w xs → AreLinked m last ys → AreLinked m last (xs ++ ys)
linked_joined m last w [] ys e a b = b
linked_joined m last w (x ∷ xs) ys e a b =
    (subst (λ (v : ℕ). WaitsFor m x.thread v x.object) (sym (next_joined last w xs ys e)) a.0, linked_joined m last w xs ys e a.1 b)

-- links that lead to k, and those from there on
joined : (m : PlainMachine) (k u : ℕ) (r : Leads m (k + 1) u) → r.last ≡ k → Leads m k k → Leads m k u
joined m k u r at q =
    record {
      last = q.last;
      live = q.live;
      below = q.below;
      links = r.links ++ q.links;
      starts = next_joined q.last k r.links q.links q.starts ∙ subst (λ (w : ℕ). next_thread w r.links ≡ u) at r.starts;
      linked = linked_joined m q.last k r.links q.links q.starts (subst (λ (w : ℕ). AreLinked m w r.links) at r.linked) q.linked;
      above = all_append (λ (y : Link). k ≤ y.thread) r.links q.links (from_k k r.links r.above) q.above;
    }

-- from a thread above k, where all of these lead below k + 1
from_higher : (m : PlainMachine) (k u : ℕ) → (IsLive m k → IsExplained m ⊎ Leads m k k) → IsExplained m ⊎ Leads m (k + 1) u → IsExplained m ⊎ Leads m k u
from_higher m k u least (inl done) = inl done
from_higher m k u least (inr r) = by_end (cases_lt r.last k) where
  by_least : r.last ≡ k → IsExplained m ⊎ Leads m k k → IsExplained m ⊎ Leads m k u
  by_least at (inl done) = inl done
  by_least at (inr q) = inr (joined m k u r at q)

  by_end : (r.last < k) ⊎ (k ≤ r.last) → IsExplained m ⊎ Leads m k u
  by_end (inl less) =
      inr (record { last = r.last; live = r.live; below = less; links = r.links; starts = r.starts; linked = r.linked; above = from_k k r.links r.above })
  by_end (inr over) = let at : r.last ≡ k = omega (arith, r.below, over) in by_least at (least (subst (IsLive m) at r.live))

-- from each that is at least k
from_each : (m : PlainMachine) (k u : ℕ) → IsReached m → is_stuck m ≡ true → AllLead m (k + 1) → k ≤ u → IsLive m u → IsExplained m ⊎ Leads m k u
from_each m k u h stuck higher low live = by_place (cases_lt k u) where
  least : IsLive m k → IsExplained m ⊎ Leads m k k
  least one = from_least m k higher (held_back m k h stuck one)

  by_place : (k < u) ⊎ (u ≤ k) → IsExplained m ⊎ Leads m k u
  by_place (inl over) = from_higher m k u least (higher u (omega (arith, over)) live)
  by_place (inr under) =
      let same : k ≡ u = omega (arith, low, under) in
      subst (λ (v : ℕ). IsExplained m ⊎ Leads m k v) same (least (subst (IsLive m) (sym same) live))

all_lead : (m : PlainMachine) → IsReached m → is_stuck m ≡ true → (d k : ℕ)
    → k + d ≡ length m.threads → (u : ℕ) → k ≤ u → IsLive m u → IsExplained m ⊎ Leads m k u
all_lead m h stuck zero k e u low live = let within = slice_get_within m.threads u live.state live.there in absurd (omega (arith, e, low, within))
all_lead m h stuck (suc d) k e u low live = from_each m k u h stuck (all_lead m h stuck d (k + 1) (omega (arith, e))) low live

-- a live thread among these
record HasLive (ss : List ThreadState) : Type 0 where
  place : ℕ
  state : ThreadState
  there : slice_get ss place ≡ Some state
  live : is_live state ≡ true

live_in : (ss : List ThreadState) → list_any is_live ss ≡ true → HasLive ss
live_in [] h = absurd (false≢true h)
live_in (s ∷ ss) h = by_test (is_live s) refl h (live_in ss) where
  by_test : (b : Bool) → is_live s ≡ b → (b || list_any is_live ss) ≡ true → (list_any is_live ss ≡ true → HasLive ss) → HasLive (s ∷ ss)
  by_test true e any rest = record { place = 0; state = s; there = refl; live = e }
  by_test false e any rest = let r = rest any in record { place = suc r.place; state = r.state; there = r.there; live = r.live }

stuck_is_explained : (m : PlainMachine) → IsReached m → is_stuck m ≡ true → IsExplained m
stuck_is_explained m h stuck = by_lead (all_lead m h stuck (length m.threads) 0 (omega arith) first.place (omega arith) one) where
  first : HasLive m.threads
  first = live_in m.threads (and_parts (list_any is_live m.threads) (all_barred m 0 m.threads) stuck).0

  one : IsLive m first.place
  one = record { state = first.state; there = first.there; live = first.live }

  by_lead : IsExplained m ⊎ Leads m 0 first.place → IsExplained m
  by_lead (inl done) = done
  by_lead (inr r) = absurd (omega (arith, r.below))

-- where there is no cycle, some thread waits
pub one_waits : (m : PlainMachine) → IsReached m → is_stuck m ≡ true → AreCycles m [] → (t : ℕ) × (o : ℕ) × WaitsUnnotified m t o
one_waits m h stuck none = by_end (stuck_is_explained m h stuck) where
  by_end : IsExplained m → OneWaits m
  by_end (inl waits) = waits
  by_end (inr c) = let listed = none.all c.0 c.1 in absurd (omega (arith, listed.1))

-- and where none waits, there is a cycle
pub has_cycle : (m : PlainMachine) → IsReached m → is_stuck m ≡ true → ((t o : ℕ) → WaitsUnnotified m t o → ⊥) → (c : Cycle) × IsCycle m c
has_cycle m h stuck none = by_end (stuck_is_explained m h stuck) where
  by_end : IsExplained m → HasCycle m
  by_end (inl waits) = absurd (none waits.0 waits.1 waits.2)
  by_end (inr c) = c

after_is_reached : (m last : PlainMachine) (xs : List (ℕ × Logged)) → IsReached m → after_all m xs ≡ Some last → IsReached last
after_is_reached m last [] h e = subst IsReached (same_Some m last e) h
after_is_reached m last (x ∷ xs) h e =
    option_and_then_some (λ (n : PlainMachine). after_all n xs) (take m x.0 x.1.entry) last e
    (λ n at rest. after_is_reached n last xs (progress m n x.0 x.1.entry h at).reached rest)

-- the machine under a program's logs is reached
pub logs_are_reached : (p : ProgramText) (fuel : ℕ) (logs : List (List Logged)) (m : PlainMachine)
    → IsProgram p → machine_after p fuel logs ≡ Some m → IsReached m
logs_are_reached p fuel logs m h e = after_is_reached (new_machine p fuel) m (order logs) (first_is_reached p fuel h) e
