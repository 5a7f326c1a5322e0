-- A machine stays sound where its threads get other fuel.
use Rattle.std.proofs.Common.{◌≡◌, ℕ, zero, suc, ◌+◌, ◌<◌, ◌≤◌, List, [], ◌∷◌, length, map}
use Rattle.std.proofs.Common.{slice_index_or, Option, Some, None, refl, sym, ap, ◌∙◌, subst, arith}
use Rattle.std.proofs.lemmas.List.{length-map}
use Rattle.std.proofs.lemmas.List.Sums.{sum_by-cons}
use Rattle.plain_monitor.specs.Monitor.{PlainMonitor}
use Rattle.plain_machine.specs.declared.monitor_call.MonitorCall.{MonitorCall}
use Rattle.plain_machine.specs.declared.monitor_call.MonitorCall.TheVariants as call
use Rattle.plain_machine.specs.declared.monitor_call.Mode.{Mode}
use Rattle.plain_machine.specs.declared.monitor_call.Mode.TheVariants.{Calling}
use Rattle.plain_machine.specs.Thread.{ThreadState, holds_of}
use Rattle.plain_machine.specs.Machine.{PlainMachine}
use Rattle.plain_machine.specs.Ready.{HasRoomFor}
use Rattle.plain_machine.specs.Sound.{IsReadyIn, monitor_in, owner_holds, while_waiting, waiting_on, IsListed, IsBeside, IsKept, AreKept, IsSound}

room : (fuel : ℕ) (s : ThreadState) (c : MonitorCall) → HasRoomFor s c → HasRoomFor (record s { fuel = fuel }) c
room fuel s (call.Enter o) h = h
room fuel s _ h = h

ready : (fuel : ℕ) (s : ThreadState) (mode : Mode) → IsReadyIn s mode → IsReadyIn (record s { fuel = fuel }) mode
ready fuel s (Calling c) h = (h.0, room fuel s c h.1)
ready fuel s _ h = tt

kept : (n fuel : ℕ) (s : ThreadState) → IsKept n s → IsKept n (record s { fuel = fuel })
kept n fuel s h = record { objects = h.objects; few = h.few; ready = ready fuel s s.mode h.ready }

-- what holds of the thread at each place, whatever its fuel, holds of it with other fuel
at_thread : (P : ThreadState → Type 0) (fuel : ℕ) → ((s : ThreadState) → P s → P (record s { fuel = fuel })) → (ss : List ThreadState) (t : ℕ) (d : ThreadState)
    → P (slice_index_or ss t d) → P (slice_index_or (map (λ (s : ThreadState). record s { fuel = fuel }) ss) t d)
at_thread P fuel each [] t d h = h
at_thread P fuel each (s ∷ ss) zero d h = each s h
at_thread P fuel each (s ∷ ss) (suc t) d h = at_thread P fuel each ss t d h

all_kept : (n fuel : ℕ) (ss : List ThreadState) → AreKept n ss → AreKept n (map (λ (s : ThreadState). record s { fuel = fuel }) ss)
all_kept n fuel ss h k d lt =
    let count = length-map ss (λ (s : ThreadState). record s { fuel = fuel }) in
    let within : k < length ss = omega (arith, lt, count) in
    at_thread (IsKept n) fuel (kept n fuel) ss k d (h k d within)

counted : (fuel : ℕ) (ss : List ThreadState) (o count : ℕ) (owner : Option ℕ) → count ≤ owner_holds ss o owner
    → count ≤ owner_holds (map (λ (s : ThreadState). record s { fuel = fuel }) ss) o owner
counted fuel ss o count None h = h
counted fuel ss o count (Some t) h = at_thread (λ (s : ThreadState). count ≤ holds_of s o) fuel (λ s k. k) ss t _ h

waiting_same : (fuel o : ℕ) (ss : List ThreadState) → waiting_on (map (λ (s : ThreadState). record s { fuel = fuel }) ss) o ≡ waiting_on ss o
waiting_same fuel o [] = refl
waiting_same fuel o (s ∷ ss) =
    let once : ThreadState → ℕ = λ s. while_waiting s o 1 in
    sum_by-cons once (record s { fuel = fuel }) (map (λ (s : ThreadState). record s { fuel = fuel }) ss)
    ∙ ap (λ n. while_waiting s o 1 + n) (waiting_same fuel o ss) ∙ sym (sum_by-cons once s ss)

beside : (fuel : ℕ) (ss : List ThreadState) (o : ℕ) (m : PlainMonitor) → IsBeside ss o m
    → IsBeside (map (λ (s : ThreadState). record s { fuel = fuel }) ss) o m
beside fuel ss o m h =
    record {
      counted = counted fuel ss o m.count m.owner h.counted;
      listed = λ t.
          at_thread (λ (s : ThreadState). IsListed s o t m) fuel (λ s k. record { once = k.once; due = k.due }) ss t _ (h.listed t);
      waiting = subst (λ (n : ℕ). length m.waits + length m.called ≤ n) (sym (waiting_same fuel o ss)) h.waiting;
    }

pub sound_full : (fuel : ℕ) (m : PlainMachine) → IsSound m → IsSound (record m { threads = map (λ (s : ThreadState). record s { fuel = fuel }) m.threads })
sound_full fuel m h =
    let count = length-map m.threads (λ (s : ThreadState). record s { fuel = fuel }) in
    record {
      program = h.program;
      total = h.total;
      threads = count ∙ h.threads;
      few = omega (arith, count, h.few);
      kept = all_kept (length m.objects) fuel m.threads h.kept;
      monitors = λ o. beside fuel m.threads o (monitor_in m.objects o) (h.monitors o);
    }
