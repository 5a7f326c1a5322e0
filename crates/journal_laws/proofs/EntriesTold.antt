-- Each entry of a run can be told by a line.
use Rattle.std.proofs.Common.{◌≡◌, ℕ, ◌+◌, ◌*◌, ◌<◌, ◌≤◌, ◌^◌, ◌==◌, ◌&&◌, true, false, List, [], ◌∷◌}
use Rattle.std.proofs.Common.{length, Option, Some, None, refl, sym, ap, ◌∙◌, subst, arith, eqb-true}
use Rattle.std.specs.List.{AllByRecursion}
use Rattle.std.proofs.lemmas.Bool.{and_parts, false≢true}
use Rattle.std.proofs.lemmas.List.{length-append}
use Rattle.std.proofs.lemmas.Option.{cond_some, none-some, slice_get_within}
use Rattle.plain_monitor.specs.Limits.{most_fuel, most_threads}
use Rattle.plain_monitor.specs.declared.entry.Value.{Value}
use Rattle.plain_monitor.specs.declared.entry.Value.TheVariants.{Nil, Int, Ref}
use Rattle.plain_monitor.specs.declared.entry.Fault.{Fault}
use Rattle.plain_monitor.specs.declared.entry.Ending.TheVariants as ending
use Rattle.plain_monitor.specs.declared.entry.Entry.{Entry}
use Rattle.plain_monitor.specs.declared.entry.Entry.TheVariants.{Get, Put, Notify, NotifyAll}
use Rattle.plain_monitor.specs.declared.entry.Entry.TheVariants.{Hash, New, Print, Dump, Trap, Spent, Done}
use Rattle.plain_monitor.specs.declared.entry.Logged.{Logged}
use Rattle.plain_monitor.specs.Monitor.{PlainMonitor, notify_all, owns}
use Rattle.plain_monitor.specs.Objects.{PlainObject, same_value, take_entry, with_monitor}
use Rattle.plain_monitor.specs.Order.{order}
use Rattle.plain_monitor.proofs.Lists.{all_at, all_weaker}
use Rattle.plain_history.specs.ExactStamps.{StampsAreExact}
use Rattle.plain_history.proofs.Joined.{first_some}
use Rattle.object_program.specs.Limits.{most_code}
use Rattle.object_program.specs.Program.{ProgramText, objects_total, slots_of}
use Rattle.object_program.specs.Valid.{IsProgram}
use Rattle.plain_machine.specs.Values.{IsValueOf}
use Rattle.plain_machine.specs.declared.monitor_call.MonitorCall.{MonitorCall}
use Rattle.plain_machine.specs.declared.monitor_call.MonitorCall.TheVariants as call
use Rattle.plain_machine.specs.declared.monitor_call.NextEntry.{NextEntry}
use Rattle.plain_machine.specs.declared.monitor_call.NextEntry.TheVariants.{Calls, Ends}
use Rattle.plain_machine.specs.Asking.{fault_number, fits, is_call}
use Rattle.plain_machine.specs.Legal.{after_all, machine_after, IsLegal}
use Rattle.plain_machine.specs.Machine.{PlainMachine, new_machine, take}
use Rattle.plain_machine.specs.Thread.{ThreadState}
use Rattle.machine_laws.specs.Reached.{IsReached}
use Rattle.machine_laws.specs.ReachedEntry.{IsEntryOf}
use Rattle.machine_laws.specs.ReachedMonitor.{IsMonitorOf, IsPlaceOf}
use Rattle.machine_laws.proofs.ReachedAsked.{IsAskedOf, asked_of, taken, taken_at}
use Rattle.machine_laws.proofs.ReachedEntries.{progress}
use Rattle.machine_laws.proofs.ReachedFirst.{first_is_reached}
use Rattle.machine_laws.proofs.ReachedKinds.{thread_of}
use Rattle.machine_laws.proofs.ReachedRange.{taken_in_range}
use Rattle.object_program.proofs.Made.{made_few, slots_few}
use Rattle.core_world.specs.Clauses.Draws.{AreDraws, first_draw}
use Rattle.lock_journal.specs.Hashes.{hash_fits}
use Rattle.hash_laws.proofs.DrawsAgain.{are_drawn}
use Rattle.hash_laws.proofs.LegalHashes.{the_some}
use Rattle.bias_check.specs.Lines.{IsEntryIn, numbers_total}
use Rattle.bias_check.specs.Printed.{IsTellable}
use Rattle.hash_laws.proofs.Placed.{IsPlaced, all_placed, log_within}
use Rattle.journal_laws.proofs.NoGaps.{next_of, stamps_are_few}
use Rattle.journal_laws.proofs.TrapIndexes.{TrapsAreNear, UnwindsWithin, new_near, taken_near}
use Rattle.journal_laws.proofs.Waiters.{listed_few}
use Rattle.journal_laws.proofs.FewEntries.{entries_few}
use Rattle.journal_laws.proofs.DrawNumbers.{HasShortDraw, draw_is_short}

-- NUMBERS
-- no call is a trap
not_called : (c : MonitorCall) (f : Fault) (i : ℕ) → is_call c (Trap f i) ≡ false
not_called (call.Enter o) f i = refl
not_called c f i = refl

-- the slot of a get or a put is one of its object's
module _ (p : ProgramText) (is : IsProgram p) (s : ThreadState) where
  slot_few : (o k j : ℕ) → j < slots_of p o → (j == k) ≡ true → k < 2 ^ 32
  slot_few o k j within e =
      let same = eqb-true j k e in
      let few = slots_few p o is in
      omega (arith, same, few, within)

  got_slot : (a : NextEntry) (o k : ℕ) (v : Value) → IsAskedOf p s a → fits a (Get o k v) ≡ true → k < 2 ^ 32
  got_slot (Calls (call.Get x q j)) o k v asked fit = slot_few q k j asked.call.1 (and_parts (q == o) (j == k) fit).1
  got_slot (Calls c) o k v asked fit = absurd (false≢true fit)
  got_slot (Ends (ending.Trap f i)) o k v asked fit = absurd (false≢true fit)
  got_slot (Ends g) o k v asked fit = absurd (false≢true fit)
  got_slot _ o k v asked fit = absurd (false≢true fit)

  put_slot : (a : NextEntry) (o k : ℕ) (v : Value) → IsAskedOf p s a → fits a (Put o k v) ≡ true → k < 2 ^ 32
  put_slot (Calls (call.Put q j w)) o k v asked fit =
      slot_few q k j asked.call.1 (and_parts (q == o) (j == k) (and_parts ((q == o) && (j == k)) (same_value w v) fit).0).1
  put_slot (Calls c) o k v asked fit = absurd (false≢true fit)
  put_slot (Ends (ending.Trap f i)) o k v asked fit = absurd (false≢true fit)
  put_slot (Ends g) o k v asked fit = absurd (false≢true fit)
  put_slot _ o k v asked fit = absurd (false≢true fit)

  -- the class of a new object is one of the program's
  new_class : (a : NextEntry) (o c : ℕ) → IsAskedOf p s a → fits a (New o c) ≡ true → c < length p.classes
  new_class (Calls (call.New x k)) o c asked fit = subst (λ (i : ℕ). i < length p.classes) (eqb-true k c fit) asked.call.0
  new_class (Calls k) o c asked fit = absurd (false≢true fit)
  new_class (Ends (ending.Trap f i)) o c asked fit = absurd (false≢true fit)
  new_class (Ends g) o c asked fit = absurd (false≢true fit)
  new_class _ o c asked fit = absurd (false≢true fit)

  -- the number of a trap is that of an instruction
  trap_number : (a : NextEntry) (f : Fault) (i : ℕ) → UnwindsWithin most_code s.mode → IsAskedOf p s a → fits a (Trap f i) ≡ true → i < 2 ^ 32
  trap_number (Ends (ending.Trap g j)) f i near asked fit =
      let there : j ≤ most_code = subst (UnwindsWithin most_code) asked.mode near in
      let same = eqb-true j i (and_parts (fault_number g == fault_number f) (j == i) fit).1 in
      omega (arith, there, same)
  trap_number (Calls c) f i near asked fit = absurd (false≢true (sym (not_called c f i) ∙ fit))
  trap_number _ f i near asked fit = absurd (false≢true fit)

-- a notify of all wakes no more than there are threads
many_few : (m : PlainMachine) (t o many : ℕ) (after : List PlainObject) → IsReached m → take_entry m.objects t (NotifyAll o many) ≡ Some after → many < 2 ^ 32
many_few m t o many after h takes =
    let r = taken_at m.objects o t (NotifyAll o many) after takes in by_monitor r.x r.y (notify_all r.x.monitor t many) refl r.takes (h.monitors o r.x r.there)
  where
    by_monitor : (x y : PlainObject) (n : Option PlainMonitor) → notify_all x.monitor t many ≡ n → with_monitor x n ≡ Some y
        → IsMonitorOf (length m.threads) x.monitor → many < 2 ^ 32
    by_monitor x y None e step is = absurd (none-some y step)
    by_monitor x y (Some n) e step is =
        let test = (cond_some (owns x.monitor t && (length x.monitor.waits == many)) _ n e).0 in
        let same = eqb-true (length x.monitor.waits) many (and_parts (owns x.monitor t) (length x.monitor.waits == many) test).1 in
        let places = all_weaker (IsPlaceOf (length m.threads)) (λ p. p.0 < length m.threads) (λ p k. k.0) x.monitor.waits is.waits in
        let listed = listed_few (length m.threads) x.monitor.waits places (λ u. let once = is.once u in omega (arith, once)) in
        omega (arith, same, listed, h.thread_count, h.program.threads_few)

-- ENTRIES
-- a value beside some objects is one beside more
value_of_more : (n m : ℕ) (v : Value) → n ≤ m → IsValueOf n v → IsValueOf m v
value_of_more n m Nil le h = h
value_of_more n m (Int z) le h = h
value_of_more n m (Ref o) le h = let below = h.0 in (omega (arith, below, le), tt)

-- and so is an entry
entry_of_more : (n m threads : ℕ) (e : Entry) → n ≤ m → IsEntryOf n threads e → IsEntryOf m threads e
entry_of_more n m threads (Get o k v) le h = let below = h.0 in (omega (arith, below, le), value_of_more n m v le h.1)
entry_of_more n m threads (Put o k v) le h = let below = h.0 in (omega (arith, below, le), value_of_more n m v le h.1)
entry_of_more n m threads (Notify o woken) le h = let below = h.0 in (omega (arith, below, le), h.1)
entry_of_more n m threads (Hash o v drawn) le h = let below = h.0 in (omega (arith, below, le), h.1)
entry_of_more n m threads (Print v) le h = value_of_more n m v le h
entry_of_more n m threads (Dump number) le h = h
entry_of_more n m threads (Trap f i) le h = tt
entry_of_more n m threads Spent le h = tt
entry_of_more n m threads Done le h = tt
entry_of_more n m threads _ le h = omega (arith, h, le)

-- an entry that was asked for and that the objects took
told : (m : PlainMachine) (t : ℕ) (s : ThreadState) (a : NextEntry) (e : Entry) (after : List PlainObject)
    → IsReached m → UnwindsWithin most_code s.mode → IsAskedOf m.program s a
    → fits a e ≡ true → take_entry m.objects t e ≡ Some after
    → IsEntryOf (numbers_total m.program) (length m.program.threads) e → HasShortDraw e → IsEntryIn m.program e
told m t s a (Get o k v) after h near asked fit takes is draw = (is.0, got_slot m.program h.program s a o k v asked fit, is.1)
told m t s a (Put o k v) after h near asked fit takes is draw = (is.0, put_slot m.program h.program s a o k v asked fit, is.1)
told m t s a (NotifyAll o many) after h near asked fit takes is draw = (is, many_few m t o many after h takes)
told m t s a (Hash o v drawn) after h near asked fit takes is draw = let below = is.1.1 in (is.0, omega (arith, below), draw)
told m t s a (New o c) after h near asked fit takes is draw = (is, new_class m.program h.program s a o c asked fit)
told m t s a (Dump n) after h near asked fit takes is draw = omega (arith, is)
told m t s a (Trap f i) after h near asked fit takes is draw = trap_number m.program h.program s a f i near asked fit
told m t s a Spent after h near asked fit takes is draw = tt
told m t s a Done after h near asked fit takes is draw = tt
told m t s a _ after h near asked fit takes is draw = is

module _ (m next : PlainMachine) (t : ℕ) (e : Entry) (h : IsReached m) (near : TrapsAreNear m) (takes : take m t e ≡ Some next) where
  taken_is_told : HasShortDraw e → IsEntryIn m.program e
  taken_is_told draw =
      let k = taken m t e next takes in
      let asked = asked_of m.program k.s k.asked (thread_of m t k.s (record { reached = h; at = k.at })) k.asks in
      let own : IsEntryOf (objects_total m.program) (length m.program.threads) e =
      subst (λ n. IsEntryOf n (length m.program.threads) e) h.object_count
      (subst (λ n. IsEntryOf (length m.objects) n e) h.thread_count (taken_in_range m next t e h takes)) in
      let range = entry_of_more (objects_total m.program) (numbers_total m.program) (length m.program.threads) e (omega (arith, made_few m.program)) own in
      told m t k.s k.asked e k.objects h (all_at (λ (s : ThreadState). UnwindsWithin most_code s.mode) m.threads t k.s near k.at) asked k.fit k.takes range draw

  thread_is_there : t < length m.program.threads
  thread_is_there =
      let k = taken m t e next takes in
      subst (λ n. t < n) h.thread_count (slice_get_within m.threads t k.s k.at)

  same_program : next.program ≡ m.program
  same_program = let k = taken m t e next takes in ap (λ (z : PlainMachine). z.program) (sym k.is)

-- the numbers of an entry that the machine doesn't bound
pub record IsShort (x : ℕ × Logged) : Type 0 where
  pub above_zero : 1 ≤ x.1.stamp
  pub below : x.1.stamp < 2 ^ 46
  pub draw : HasShortDraw x.1.entry

all_told : (m : PlainMachine) (xs : List (ℕ × Logged)) (last : PlainMachine) → IsReached m → TrapsAreNear m → after_all m xs ≡ Some last
    → AllByRecursion IsShort xs → AllByRecursion (IsTellable m.program) xs
all_told m [] last h near e short = tt
all_told m (x ∷ xs) last h near e short =
    let next = first_some (λ z. after_all z xs) (take m x.0 x.1.entry) last e in
    let here : IsTellable m.program x = record {
      thread = thread_is_there m next.0 x.0 x.1.entry h near next.1;
      above_zero = short.0.above_zero;
      below = short.0.below;
      entry = taken_is_told m next.0 x.0 x.1.entry h near next.1 short.0.draw;
    } in
    let others = all_told next.0 xs last (progress m next.0 x.0 x.1.entry h next.1).reached
    (taken_near m next.0 x.0 x.1.entry h.program near next.1) next.2 short.1 in
    (here, subst (λ p. AllByRecursion (IsTellable p) xs) (same_program m next.0 x.0 x.1.entry h near next.1) others)

-- what holds of all, and another fact that does
all_both : {X : Type 0} (P Q : X → Type 0) (xs : List X) → AllByRecursion P xs → AllByRecursion Q xs → AllByRecursion (λ x. P x × Q x) xs
all_both P Q [] h k = tt
all_both P Q (x ∷ xs) h k = ((h.0, k.0), all_both P Q xs h.1 k.1)

module _ (p : ProgramText) (fuel start : ℕ) (logs : List (List Logged)) (is : IsProgram p) (few : fuel ≤ most_fuel)
    (legal : IsLegal p fuel logs) (exact : StampsAreExact logs) (fits : (o : ℕ) → hash_fits start (order logs) o ≡ true) where
  short_here : (x : ℕ × Logged) → length (order logs) ≤ most_threads * (2 * most_fuel + 1) → IsPlaced logs x → x.1.stamp ≤ length (order logs) → IsShort x
  short_here x many placed stamp =
      let next = next_of logs legal.rises exact x.0 placed.before x.1 placed.later placed.log_is in
      let own = log_within logs x.0 legal.rises in
      let log = ap (λ (l : List Logged). length l) placed.log_is in
      let split = length-append placed.before (x.1 ∷ placed.later) in
      record {
        above_zero = omega (arith, next.is);
        below = omega (arith, stamp, many);
        draw =
            draw_is_short (first_draw start x.0) placed.before x.1 placed.later
            (subst (AreDraws (first_draw start x.0) 0) placed.log_is (are_drawn start logs legal.rises fits x.0))
            (omega (arith, own, many, log, split));
      }

  all_short : (m : PlainMachine) → machine_after p fuel logs ≡ Some m → AllByRecursion IsShort (order logs)
  all_short m under =
      let many = entries_few p fuel is few logs m under in
      all_weaker (λ x. IsPlaced logs x × (x.1.stamp ≤ length (order logs))) IsShort (λ x h. short_here x many h.0 h.1) (order logs)
      (all_both (IsPlaced logs) (λ x. x.1.stamp ≤ length (order logs)) (order logs) (all_placed logs) (stamps_are_few logs legal.rises exact))

  pub all_tellable : AllByRecursion (IsTellable p) (order logs)
  all_tellable =
      let m = the_some (machine_after p fuel logs) legal.taken in
      all_told (new_machine p fuel) (order logs) m.0 (first_is_reached p fuel is) (new_near p fuel is) m.1 (all_short m.0 m.1)
