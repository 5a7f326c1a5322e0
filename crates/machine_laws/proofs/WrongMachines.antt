-- Why machines, entries and logs that are wrong are refused.
use Rattle.std.proofs.Common.{◌≡◌, ◌⊎◌, inl, inr, ℕ, ◌<◌, ◌≤◌, true, false, not, List, [], ◌∷◌, length, sum, slice_get}
use Rattle.std.proofs.Common.{Option, Some, None, IsSome, is_some, refl, sym, ap, ◌∙◌, subst, arith}
use Rattle.std.specs.List.{AllByRecursion, list_all}
use Rattle.std.proofs.lemmas.Bool.{false≢true}
use Rattle.std.proofs.lemmas.Option.{none-some, same_Some, slice_get_past}
use Rattle.plain_monitor.specs.declared.entry.Ending.{Ending}
use Rattle.plain_monitor.specs.declared.entry.Ending.TheVariants as ending
use Rattle.plain_monitor.specs.declared.entry.Entry.{Entry}
use Rattle.plain_monitor.specs.declared.entry.Entry.TheVariants.{Hash, Notify, Print}
use Rattle.plain_monitor.specs.declared.entry.Entry.TheVariants as entry
use Rattle.plain_monitor.specs.declared.entry.Value.{Value}
use Rattle.plain_monitor.specs.declared.entry.Value.TheVariants.{Ref}
use Rattle.plain_monitor.specs.Limits.{most_holds}
use Rattle.plain_monitor.specs.Made.{Numbering, IsMadeInTime, made_after, is_there, nothing_made}
use Rattle.object_program.specs.Program.{ProgramText, numbering_of}
use Rattle.plain_machine.specs.declared.monitor_call.MonitorCall.TheVariants.{Dump}
use Rattle.plain_machine.specs.declared.monitor_call.NextEntry.TheVariants.{Calls}
use Rattle.plain_machine.specs.declared.offer.Offer.TheVariants.{Blocked}
use Rattle.plain_machine.specs.Thread.{ThreadState, local}
use Rattle.plain_machine.specs.Asking.{ask}
use Rattle.plain_machine.specs.Legal.{machine_after}
use Rattle.plain_machine.specs.Machine.{PlainMachine, new_machine, take, ending_of, monitor_at, slot_at, is_live, is_stuck}
use Rattle.plain_machine.specs.Offering.{offered, is_next}
use Rattle.plain_machine.specs.Running.{run_on}
use Rattle.plain_machine.specs.Values.{IsValueOf}
use Rattle.machine_laws.specs.Examples.{logged, printed, printers, waited, waiter}
use Rattle.machine_laws.specs.Reached.{IsReached}
use Rattle.machine_laws.specs.ReachedEntry.{IsOfferOf}
use Rattle.machine_laws.specs.Work.{work_left}
use Rattle.machine_laws.proofs.ExampleMachines.{ended, ended_after, stuck, stuck_after}
use Rattle.machine_laws.proofs.ReachedAsked.{taken}
use Rattle.machine_laws.proofs.ReachedEntries.{progress}
use Rattle.machine_laws.proofs.ReachedOver.{stuck_offers_nothing, ended_offers_nothing}
use Rattle.machine_laws.proofs.ReachedRange.{owner_in_range, count_in_range, holds_in_range, waits_in_range, called_in_range, local_in_range}
use Rattle.machine_laws.proofs.ReachedRange.{slot_in_range, taken_in_range, offer_in_range, dump_in_range, dumped_in_range, local_is_there, slot_is_there}

-- RANGES
module _ (m : PlainMachine) where
  pub owner_not : (o t : ℕ) → (monitor_at m o).owner ≡ Some t → length m.threads ≤ t → IsReached m → ⊥
  owner_not o t is out h = let within = owner_in_range m o t h is in absurd (omega (arith, out, within))

  pub count_not : (o : ℕ) → most_holds < (monitor_at m o).count → IsReached m → ⊥
  count_not o many h = let few = count_in_range m o h in absurd (omega (arith, many, few))

  pub waits_not : (o t n : ℕ) (ws : List (ℕ × ℕ)) → (monitor_at m o).waits ≡ (t, n) ∷ ws → length m.threads ≤ t → IsReached m → ⊥
  waits_not o t n ws is out h =
      let each = subst (AllByRecursion (λ (w : ℕ × ℕ). (w.0 < length m.threads) × (w.1 ≤ most_holds))) is (waits_in_range m o h) in
      let within = each.0.0 in absurd (omega (arith, out, within))

  pub called_not : (o t n : ℕ) (ws : List (ℕ × ℕ)) → (monitor_at m o).called ≡ (t, n) ∷ ws → most_holds < n → IsReached m → ⊥
  called_not o t n ws is many h =
      let each = subst (AllByRecursion (λ (w : ℕ × ℕ). (w.0 < length m.threads) × (w.1 ≤ most_holds))) is (called_in_range m o h) in
      let few = each.0.1 in absurd (omega (arith, many, few))

  pub holds_not : (t : ℕ) (s : ThreadState) → slice_get m.threads t ≡ Some s → most_holds < sum s.holds → IsReached m → ⊥
  holds_not t s at many h = let few = holds_in_range m t s h at in absurd (omega (arith, many, few))

  below : (v : Value) (o : ℕ) → IsValueOf (length m.objects) v → v ≡ Ref o → o < length m.objects
  below v o h is = (subst (IsValueOf (length m.objects)) is h).0

  pub local_not : (t x o : ℕ) (s : ThreadState) → slice_get m.threads t ≡ Some s → local s x ≡ Ref o → length m.objects ≤ o → IsReached m → ⊥
  local_not t x o s at is out h = let within = below (local s x) o (local_in_range m t x s h at) is in absurd (omega (arith, out, within))

  pub slot_not : (p k o : ℕ) → slot_at m p k ≡ Ref o → length m.objects ≤ o → IsReached m → ⊥
  slot_not p k o is out h = let within = below (slot_at m p k) o (slot_in_range m p k h) is in absurd (omega (arith, out, within))

  pub taken_not : (n : PlainMachine) (t o u : ℕ) → take m t (Notify o (Some u)) ≡ Some n → length m.threads ≤ u → IsReached m → ⊥
  taken_not n t o u takes out h = let within = (taken_in_range m n t (Notify o (Some u)) h takes).1 in absurd (omega (arith, out, within))

  pub offer_not : (t o u : ℕ) → offered m t ≡ Blocked o u → length m.threads ≤ u → IsReached m → ⊥
  offer_not t o u is out h =
      let within = (subst (IsOfferOf (length m.objects) (length m.threads)) is (offer_in_range m t h)).1 in
      absurd (omega (arith, out, within))

  pub dumped_not : (n : PlainMachine) (t : ℕ) (s : ThreadState) → slice_get m.threads t ≡ Some s → take m t (entry.Dump 5) ≡ Some n → IsReached m → ⊥
  dumped_not n t s at takes h = let few = (dumped_in_range m n t 5 s h at takes).1 in absurd (omega (arith, few))

  pub dump_not : (t : ℕ) (s : ThreadState) → slice_get m.threads t ≡ Some s → ask s ≡ Some (Calls (Dump 5)) → IsReached m → ⊥
  dump_not t s at asks h = let few = (dump_in_range m t 5 s h at asks).1 in absurd (omega (arith, few))

  -- REFERENCES
  pub local_nowhere : (t x o : ℕ) (s : ThreadState) → slice_get m.threads t ≡ Some s → local s x ≡ Ref o
      → is_there (numbering_of m.program) m.made o ≡ false → IsReached m → ⊥
  local_nowhere t x o s at is none h = false≢true (sym none ∙ local_is_there m t x o s h at is)

  pub slot_nowhere : (p k o : ℕ) → slot_at m p k ≡ Ref o → is_there (numbering_of m.program) m.made o ≡ false → IsReached m → ⊥
  slot_nowhere p k o is none h = false≢true (sym none ∙ slot_is_there m p k o h is)

  -- WORK
  pub same_not : (t : ℕ) (e : Entry) → IsReached m → take m t e ≡ Some m → ⊥
  same_not t e h takes = let less = (progress m m t e h takes).work in absurd (omega (arith, less))

  pub more_not : (n : PlainMachine) (t : ℕ) (e : Entry) → IsReached m → take m t e ≡ Some n → work_left m ≤ work_left n → ⊥
  more_not n t e h takes more = let less = (progress m n t e h takes).work in absurd (omega (arith, less, more))

  -- ENTRIES
  some_taken : (t : ℕ) (e : Entry) → IsSome (take m t e) → (n : PlainMachine) × (take m t e ≡ Some n)
  some_taken t e h = go (take m t e) h
    where
      go : (r : Option PlainMachine) → IsSome r → (n : PlainMachine) × (r ≡ Some n)
      go None none = absurd (false≢true none)
      go (Some n) is = (n, refl)

  pub thread_not : (t : ℕ) (e : Entry) → length m.threads ≤ t → IsSome (take m t e) → ⊥
  thread_not t e out h =
      let n = some_taken t e h in
      let k = taken m t e n.0 n.1 in
      none-some k.s (sym (slice_get_past m.threads t out) ∙ k.at)

  pub ended_not : (t : ℕ) (e : Entry) (s : ThreadState) → slice_get m.threads t ≡ Some s → ask s ≡ None → IsSome (take m t e) → ⊥
  ended_not t e s at none h =
      let n = some_taken t e h in
      let k = taken m t e n.0 n.1 in
      none-some k.asked (sym none ∙ ap ask (same_Some s k.s (sym at ∙ k.at)) ∙ k.asks)

  pub zero_not : (t o : ℕ) (drawn : Option ℕ) → IsReached m → IsSome (take m t (Hash o 0 drawn)) → ⊥
  zero_not t o drawn h takes =
      let n = some_taken t (Hash o 0 drawn) takes in
      let some = (taken_in_range m n.0 t (Hash o 0 drawn) h n.1).1.0 in
      absurd (omega (arith, some))

  pub over_not : (t : ℕ) → is_next (offered m t) ≡ true → (is_stuck m ≡ true) ⊎ (list_all (λ s. not (is_live s)) m.threads ≡ true) → ⊥
  over_not t next (inl is) = false≢true (sym (stuck_offers_nothing m t is) ∙ next)
  over_not t next (inr all) = false≢true (sym (ended_offers_nothing m t all) ∙ next)

pub text_not : (p : ProgramText) (fuel : ℕ) → p.threads ≡ [] → IsReached (new_machine p fuel) → ⊥
text_not p fuel none h =
    let zero : length p.threads ≡ 0 = ap length none in
    absurd (omega (arith, h.program.threads_some, zero))

-- LOGS
pub late_not : (n : Numbering) (o stamp : ℕ) → is_there n (nothing_made n) o ≡ false
    → IsMadeInTime n ((logged stamp (Print (Ref o)) ∷ []) ∷ []) → ⊥
late_not n o stamp none h =
    let nothing : is_some (made_after n ((logged stamp (Print (Ref o)) ∷ []) ∷ [])) ≡ false = rw none refl in
    false≢true (sym nothing ∙ h)

at_stuck : (m : PlainMachine) → machine_after waiter 8 waited ≡ Some m → stuck ≡ m
at_stuck m h = same_Some stuck m (sym stuck_after ∙ h)

pub offers_not : is_next (offered (new_machine printers 8) 0) ≡ false → ⊥
unfolding run_on
offers_not none = let is : true ≡ false = none in false≢true (sym is)

pub stuck_not : (m : PlainMachine) → machine_after waiter 8 waited ≡ Some m → is_stuck m ≡ false → ⊥
stuck_not m h goes = let is : true ≡ false = ap is_stuck (at_stuck m h) ∙ goes in false≢true (sym is)

pub waits_on : (m : PlainMachine) (e : Ending) → machine_after waiter 8 waited ≡ Some m → ending_of m 0 ≡ Some e → ⊥
waits_on m e h ends = none-some e (ap (λ (n : PlainMachine). ending_of n 0) (at_stuck m h) ∙ ends)

pub live_not : (m : PlainMachine) → machine_after waiter 8 waited ≡ Some m → list_all (λ s. not (is_live s)) m.threads ≡ true → ⊥
live_not m h all = false≢true (ap (λ (n : PlainMachine). list_all (λ s. not (is_live s)) n.threads) (at_stuck m h) ∙ all)

pub spent_not : (m : PlainMachine) → machine_after printers 8 printed ≡ Some m → ending_of m 0 ≡ Some ending.Spent → ⊥
spent_not m h says =
    let done = ap (λ (n : PlainMachine). ending_of n 0) (same_Some ended m (sym ended_after ∙ h)) ∙ says in
    absurd (cc done)
