-- The machines of the printing program, and its closed lists.
use Rattle.std.proofs.Common.{◌≡◌, ◌≢◌, ◌⊎◌, inr, ℕ, zero, suc, ◌≤◌, true, false, List, [], ◌∷◌, slice_get}
use Rattle.std.proofs.Common.{Some, refl, sym, ap, ◌∙◌, subst, arith, eqb-true, ◌==◌}
use Rattle.std.specs.List.{AllByRecursion}
use Rattle.std.proofs.lemmas.Bool.{false≢true}
use Rattle.std.proofs.lemmas.Option.{none-some, same_Some}
use Rattle.plain_monitor.specs.declared.entry.Ending.TheVariants as ending
use Rattle.plain_monitor.specs.declared.entry.Entry.{Entry}
use Rattle.plain_monitor.specs.declared.entry.Entry.TheVariants.{Enter, Exit}
use Rattle.plain_monitor.specs.declared.entry.Entry.TheVariants.{Print, Done}
use Rattle.plain_monitor.specs.declared.entry.Logged.{Logged}
use Rattle.plain_monitor.specs.declared.entry.Path.{Path}
use Rattle.plain_monitor.specs.declared.entry.Path.TheVariants.{StackFirst}
use Rattle.plain_monitor.specs.declared.entry.Value.{Value}
use Rattle.plain_monitor.specs.declared.entry.Value.TheVariants.{Nil, Ref}
use Rattle.plain_monitor.specs.Objects.{new_object}
use Rattle.plain_monitor.specs.Order.{order}
use Rattle.plain_monitor.proofs.Lists.{all_at}
use Rattle.object_program.specs.Valid.{IsProgram}
use Rattle.plain_machine.specs.declared.monitor_call.MonitorCall.TheVariants as call
use Rattle.plain_machine.specs.declared.monitor_call.Mode.{Mode}
use Rattle.plain_machine.specs.declared.monitor_call.Mode.TheVariants.{Calling, Ended}
use Rattle.plain_machine.specs.declared.monitor_call.NextEntry.{NextEntry}
use Rattle.plain_machine.specs.declared.monitor_call.NextEntry.TheVariants.{Calls}
use Rattle.plain_machine.specs.Asking.{ask, fits}
use Rattle.plain_machine.specs.Thread.{ThreadState}
use Rattle.plain_machine.specs.Running.{run_on}
use Rattle.plain_machine.specs.Legal.{after_all, machine_after}
use Rattle.plain_machine.specs.Machine.{PlainMachine, code_of, is_stuck, new_machine, take}
use Rattle.machine_laws.specs.Examples.{printed, printers, printing}
use Rattle.machine_laws.specs.Reached.{IsReached}
use Rattle.machine_laws.proofs.ExamplePrograms.{printers_is}
use Rattle.machine_laws.proofs.ReachedAsked.{taken}
use Rattle.machine_laws.proofs.ReachedFirst.{first_is_reached}
use Rattle.every_outcome.specs.Alone.{goes_alone}
use Rattle.every_outcome.specs.Covered.{IsSeen, IsClosed, IsCovered}
use Rattle.every_outcome.specs.Fuel.{HasSpent, IsClosedFull, IsCoveredFull, LeadsFull, is_spent, refuelled}
use Rattle.every_outcome.specs.Led.{IsOver, LeadsTo}
use Rattle.every_outcome.specs.NoHash.{AsksNoHash, HasNoHash}
use Rattle.every_outcome.specs.Stands.{AllStand, IsAtCall}
use Rattle.every_outcome.proofs.NoHash.{first_asks_none}
use Rattle.every_outcome.proofs.Over.{all_reached}
use Rattle.every_outcome.proofs.Standing.{all_stand_first}

abbrev state : ℕ → Value → ℕ → ℕ → Mode → ThreadState
state place v fuel held mode = record { place = place; locals = v ∷ []; fuel = fuel; holds = held ∷ []; dumps = 0; made = 0; mode = mode }

-- with this fuel left for each
abbrev machine : ThreadState → ThreadState → PlainMachine
machine s u = record { program = printers; objects = new_object 1 ∷ []; made = [] ∷ [] ∷ []; threads = s ∷ u ∷ [] }

-- the second has ended, and the first is before its enter
abbrev entering : ℕ → ThreadState
entering f = state 1 (Ref 0) f 0 (Calling (call.Enter 0))

abbrev before : ℕ → ℕ → PlainMachine
before f g = machine (entering f) (state 1 Nil g 0 (Ended ending.Done))

-- both have ended
abbrev pub over : ℕ → ℕ → PlainMachine
over f g = machine (state 4 (Ref 0) f 0 (Ended ending.Done)) (state 1 Nil g 0 (Ended ending.Done))

-- the enter is all that can come
record IsEnter (t : ℕ) (e : Entry) : Type 0 where
  path : Path
  thread : t ≡ 0
  is : e ≡ Enter 0 path

enters_only : (f g t : ℕ) (e : Entry) (n : PlainMachine) → take (before f g) t e ≡ Some n → IsEnter t e
enters_only f g zero (Enter o path) n h =
    let k = taken (before f g) 0 (Enter o path) n h in
    let state = same_Some (entering f) k.s k.at in
    let asked = same_Some (Calls (call.Enter 0)) k.asked (ap ask state ∙ k.asks) in
    let fit : (0 == o) ≡ true = subst (λ (a : NextEntry). fits a (Enter o path) ≡ true) (sym asked) k.fit in
    record { path = path; thread = refl; is = ap (λ (i : ℕ). Enter i path) (sym (eqb-true 0 o fit)) }
enters_only f g (suc zero) e n h = absurd (none-some n h)
enters_only f g (suc (suc t)) e n h = absurd (none-some n h)
enters_only f g zero _ n h = absurd (none-some n h)

over_takes_none : (f g t : ℕ) (e : Entry) (n : PlainMachine) → take (over f g) t e ≡ Some n → ⊥
over_takes_none f g zero e n h = none-some n h
over_takes_none f g (suc zero) e n h = none-some n h
over_takes_none f g (suc (suc t)) e n h = none-some n h

-- with the fuel that is left
abbrev seen : List PlainMachine
seen = before 7 6 ∷ over 3 6 ∷ []

abbrev alone : List (ℕ × Entry)
alone = (0, Print (Ref 0)) ∷ (0, Exit 0) ∷ (0, Done) ∷ []

enter_covered : (path : Path) (n : PlainMachine) → take (before 7 6) 0 (Enter 0 path) ≡ Some n → IsCovered seen n
unfolding run_on
enter_covered path n h =
    subst (IsCovered seen) (same_Some _ n h)
    (record { entries = alone; machine = over 3 6; alone = (_, refl, refl, (_, refl, refl, (_, refl, refl, refl))); is_seen = (1, refl) })

next_covered : (m n : PlainMachine) (t : ℕ) (e : Entry) → IsSeen seen m → take m t e ≡ Some n → IsCovered seen n
next_covered m n t e (zero, at) takes =
    let from : take (before 7 6) t e ≡ Some n = ap (λ z. take z t e) (same_Some _ m at) ∙ takes in
    let k = enters_only 7 6 t e n from in
    enter_covered k.path n (subst (λ (f : Entry). take (before 7 6) 0 f ≡ Some n) k.is (subst (λ (u : ℕ). take (before 7 6) u e ≡ Some n) k.thread from))
next_covered m n t e (suc zero, at) takes = absurd (over_takes_none 3 6 t e n (ap (λ z. take z t e) (same_Some _ m at) ∙ takes))
next_covered m n t e (suc (suc k), at) takes = absurd (none-some m at)

first_covered : IsCovered seen (new_machine printers 8)
unfolding run_on
first_covered =
    record { entries = (1, Print Nil) ∷ (1, Done) ∷ []; machine = before 7 6; alone = (_, refl, refl, (_, refl, refl, refl)); is_seen = (0, refl) }

pub over_after : machine_after printers 8 printed ≡ Some (over 3 6)
unfolding run_on
over_after = refl

pub own : (seen : List PlainMachine) × (n : PlainMachine) × IsProgram printers × IsClosed printers 8 seen
    × (machine_after printers 8 printed ≡ Some n) × IsOver n
own = (seen, over 3 6, printers_is, record { first = first_covered; next = next_covered }, over_after, inr refl)

-- all of it again
abbrev seen_full : List PlainMachine
seen_full = before 8 8 ∷ over 8 8 ∷ []

enter_full : (path : Path) (n : PlainMachine) → take (before 8 8) 0 (Enter 0 path) ≡ Some n → IsCoveredFull 8 seen_full (refuelled 8 n)
unfolding run_on
enter_full path n h =
    subst (λ (z : PlainMachine). IsCoveredFull 8 seen_full (refuelled 8 z)) (same_Some _ n h)
    (record { entries = alone; machine = over 8 8; alone = (_, refl, refl, (_, refl, refl, (_, refl, refl, refl))); is_seen = (1, refl) })

next_full : (m n : PlainMachine) (t : ℕ) (e : Entry) → IsSeen seen_full m → take m t e ≡ Some n
    → HasSpent n ⊎ IsCoveredFull 8 seen_full (refuelled 8 n)
next_full m n t e (zero, at) takes =
    let from : take (before 8 8) t e ≡ Some n = ap (λ z. take z t e) (same_Some _ m at) ∙ takes in
    let k = enters_only 8 8 t e n from in
    inr (enter_full k.path n (subst (λ (f : Entry). take (before 8 8) 0 f ≡ Some n) k.is (subst (λ (u : ℕ). take (before 8 8) u e ≡ Some n) k.thread from)))
next_full m n t e (suc zero, at) takes = absurd (over_takes_none 8 8 t e n (ap (λ z. take z t e) (same_Some _ m at) ∙ takes))
next_full m n t e (suc (suc k), at) takes = absurd (none-some m at)

first_full : IsCoveredFull 8 seen_full (refuelled 8 (new_machine printers 8))
unfolding run_on
first_full =
    record { entries = (1, Print Nil) ∷ (1, Done) ∷ []; machine = before 8 8; alone = (_, refl, refl, (_, refl, refl, refl)); is_seen = (0, refl) }

none_stuck : (m : PlainMachine) → IsSeen seen_full m → is_stuck m ≡ false
none_stuck m (zero, at) = ap is_stuck (sym (same_Some _ m at))
none_stuck m (suc zero, at) = ap is_stuck (sym (same_Some _ m at))
none_stuck m (suc (suc k), at) = absurd (none-some m at)

pub full : (seen : List PlainMachine) × (n : PlainMachine) × IsProgram printers × IsClosedFull printers 8 seen × (8 ≤ 8)
    × (machine_after printers 8 printed ≡ Some n) × IsOver n × ((m : PlainMachine) → IsSeen seen m → is_stuck m ≡ false)
full = (seen_full, over 3 6, printers_is, record { first = inr first_full; next = next_full }, omega arith, over_after, inr refl, none_stuck)

-- LED
pub led : (n : PlainMachine) × IsProgram printers × LeadsTo (new_machine printers 8) n × IsOver n
led = (over 3 6, printers_is, record { entries = order printed; taken = over_after }, inr refl)

pub not_spent : (m : PlainMachine) → AllByRecursion (λ s. is_spent s.mode ≡ false) m.threads → HasSpent m → ⊥
not_spent m none spent =
    false≢true (sym (all_at (λ (s : ThreadState). is_spent s.mode ≡ false) m.threads spent.thread spent.state none spent.at) ∙ spent.spent)

pub found : (r : PlainMachine) × (1 ≤ 8) × (HasSpent (new_machine printers 8) → ⊥) × LeadsFull 8 (refuelled 8 (new_machine printers 8)) (order printed) r
unfolding run_on
found = (
  over 8 8,
  omega arith,
  not_spent _ (refl, (refl, tt)),
  (
    _,
    refl,
    not_spent _ (refl, (refl, tt)),
    (
      _,
      refl,
      not_spent _ (refl, (refl, tt)),
      (
        _,
        refl,
        not_spent _ (refl, (refl, tt)),
        (_, refl, not_spent _ (refl, (refl, tt)), (_, refl, not_spent _ (refl, (refl, tt)), (_, refl, not_spent _ (refl, (refl, tt)), refl))),
      ),
    ),
  ),
)

-- IN THE MIDDLE
abbrev exits_first : List (ℕ × Logged)
exits_first = (0, record { stamp = 1; entry = Enter 0 StackFirst }) ∷ (0, record { stamp = 2; entry = Print (Ref 0) }) ∷ []

pub exit_alone : (m a b : PlainMachine) × (s : ThreadState) × IsReached m × (slice_get m.threads 0 ≡ Some s) × (◌≢◌ {A = ℕ} 0 1)
    × (goes_alone m 0 (Exit 0) ≡ true) × (take m 0 (Exit 0) ≡ Some a) × (take m 1 (Print Nil) ≡ Some b)
unfolding run_on
exit_alone =
    (_, _, _, _, all_reached exits_first (new_machine printers 8) _ (first_is_reached printers 8 printers_is) refl, refl, λ e. absurd (cc e), refl, refl, refl)

-- A THREAD
pub runs : (s : ThreadState) × (s.place ≡ 0) × (is_spent (run_on printers printing 2 s).mode ≡ false)
unfolding run_on
runs = (state 0 Nil 2 0 (Ended ending.Done), refl, refl)

pub stands : (n : PlainMachine) × AllStand (new_machine printers 8) × (take (new_machine printers 8) 0 (Enter 0 StackFirst) ≡ Some n)
unfolding run_on
stands = (_, all_stand_first printers 8, refl)

pub told : (s : ThreadState)
    × IsAtCall printers (code_of printers 0) (record s { fuel = 3; mode = Calling (call.Enter 0) }) (Calling (call.Enter 0))
told = (state 1 (Ref 0) 3 0 (Calling (call.Enter 0)), refl)

pub asks : (m n : PlainMachine) × HasNoHash printers × (after_all (new_machine printers 8) (order printed) ≡ Some m)
    × AsksNoHash (new_machine printers 8) × (take (new_machine printers 8) 0 (Enter 0 StackFirst) ≡ Some n)
unfolding run_on
asks = (over 3 6, _, (refl, (refl, tt)), over_after, first_asks_none printers 8 (refl, (refl, tt)), refl)
