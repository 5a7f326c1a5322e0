-- The code does what the program with blocks does.
use Rattle.std.proofs.Common.{◌≡◌, ℕ, List, map, Option, Some, None, option_and_then, slice_get, refl, sym, ap, ◌∙◌, subst}
use Rattle.std.specs.Prelude.{IsSome, option_map}
use Rattle.std.specs.List.{AllByRecursion}
use Rattle.std.proofs.lemmas.Bool.{false≢true}
use Rattle.plain_monitor.specs.declared.entry.Ending.{Ending}
use Rattle.plain_monitor.specs.declared.entry.Logged.{Logged}
use Rattle.plain_monitor.specs.Order.{order}
use Rattle.plain_monitor.specs.History.{RisesAbove}
use Rattle.plain_machine.specs.declared.monitor_call.Mode.{Mode}
use Rattle.plain_machine.specs.declared.monitor_call.Mode.TheVariants.{Unwinding}
use Rattle.plain_machine.specs.Thread.{ThreadState}
use Rattle.plain_machine.specs.Asking.{ask, ask_in, unwinds, held_from}
use Rattle.plain_machine.specs.Machine.{PlainMachine, new_machine, code_of}
use Rattle.plain_machine.specs.Legal.{after_all, machine_after, IsLegal}
use Rattle.object_program.specs.declared.program.Code.{Code}
use Rattle.object_program.specs.declared.program.ThreadDef.{ThreadDef}
use Rattle.sync_source.specs.inner.Alike.{ArePlain}
use Rattle.sync_source.specs.Source.{SyncText}
use Rattle.sync_source.specs.SyncThread.{SyncState, unplaced}
use Rattle.sync_source.specs.SyncMachine.{SyncMachine, without_blocks, sync_machine_after, IsSyncLegal}
use Rattle.sync_source.specs.Compiled.{compiled}
use Rattle.sync_source.specs.inner.Alike.{OptionAlike, MachinesAlike, erased, unplaced_mode}
use Rattle.sync_source.specs.SameMeaning.{unindexed, unplaced_asked, AskTheSame, DoesTheSame}
use Rattle.sync_source.proofs.Machines.{BothAlike, aside_all, all_alike, aside_of}
use Rattle.sync_source.proofs.Starts.{starts_alike}
use Rattle.sync_source.proofs.Orders.{placed_from, order_placed, unindexed_placed, unindexed_is, all_rise, all_rise_back, same_after}
use Rattle.sync_source.proofs.Indexes.{final_index, indexed_all}

unwinds_same : (e : Ending) (held : Option ℕ) → Some (unwinds (unplaced e) held) ≡ option_map unplaced_asked (Some (unwinds e held))
unwinds_same e None = refl
unwinds_same e (Some o) = refl

asks_in : (s : ThreadState) (mode : Mode) → ask_in (erased s) (unplaced_mode mode) ≡ option_map unplaced_asked (ask_in s mode)
asks_in s (Unwinding e) = unwinds_same e (held_from 0 s.holds)
asks_in s _ = refl

asks_same : (code : List Code) (a : Option SyncState) (s : Option ThreadState) → OptionAlike code a s
    → option_and_then (λ x. ask x.thread) a ≡ option_map unplaced_asked (option_and_then ask s)
asks_same code None None h = refl
asks_same code None (Some s) h = absurd h
asks_same code (Some a) None h = absurd h
asks_same code (Some a) (Some s) h = ap ask h.same ∙ asks_in s s.mode

alike_ask : (us : List ThreadDef) (a : SyncMachine) (m : PlainMachine) → MachinesAlike us a m → AskTheSame a m
alike_ask us a m h =
    record { objects = h.objects; asks = λ t. asks_same (code_of m.program t) (slice_get a.threads t) (slice_get m.threads t) (h.threads t) }

-- where one of two that are alike is there, the other is
other_side : (us : List ThreadDef) (a : SyncMachine) (o : Option PlainMachine) → BothAlike us (Some a) o → (m : PlainMachine) × (o ≡ Some m)
other_side us a None h = absurd h
other_side us a (Some m) h = (m, refl)

this_side : (us : List ThreadDef) (o : Option SyncMachine) (m : PlainMachine) → BothAlike us o (Some m) → IsSome o
this_side us None m h = absurd h
this_side us (Some a) m h = refl

pub is_there : {A : Type 0} (o : Option A) → IsSome o → (x : A) × (o ≡ Some x)
is_there None h = absurd (false≢true h)
is_there (Some x) h = (x, refl)

module _ (decimal : ℕ → List ℕ) (p : SyncText) (plain : AllByRecursion (λ t. ArePlain t.body) p.threads) where
  both : (fuel : ℕ) (logs : List (List Logged))
      → BothAlike (map without_blocks p.threads) (sync_machine_after p fuel logs) (aside_all (new_machine (compiled decimal p) fuel) (order logs))
  both fuel logs = all_alike (map without_blocks p.threads) (order logs) _ _ (starts_alike decimal p fuel plain)

  legal_at : (fuel : ℕ) (logs : List (List Logged)) → IsSyncLegal p fuel logs
      → (others : List (List Logged)) × (unindexed others ≡ unindexed logs) × IsLegal (compiled decimal p) fuel others
  legal_at fuel logs h =
      let m = new_machine (compiled decimal p) fuel in
      let a = is_there _ h.taken in
      let n = other_side (map without_blocks p.threads) a.0 _
      (subst (λ (o : Option SyncMachine). BothAlike (map without_blocks p.threads) o (aside_all m (order logs))) a.1 (both fuel logs)) in
      let f = final_index n.0 in
      let leads : after_all m (order (placed_from f 0 logs)) ≡ Some n.0 =
      ap (after_all m) (order_placed f logs) ∙ indexed_all (order logs) m n.0 n.1 in (
        placed_from f 0 logs,
        unindexed_placed f 0 logs,
        record {
          rises = all_rise f 0 logs h.rises;
          taken = subst (λ (o : Option PlainMachine). IsSome o) (sym leads) refl;
        },
      )

  aside_at : (fuel : ℕ) (logs : List (List Logged)) (m : PlainMachine) → machine_after (compiled decimal p) fuel logs ≡ Some m
      → BothAlike (map without_blocks p.threads) (sync_machine_after p fuel logs) (Some m)
  aside_at fuel logs m h =
      subst (λ (o : Option PlainMachine). BothAlike (map without_blocks p.threads) (sync_machine_after p fuel logs) o)
      (aside_of (order logs) _ m h) (both fuel logs)

  rises_at : (logs others : List (List Logged)) → unindexed others ≡ unindexed logs → AllByRecursion (RisesAbove 0) others → AllByRecursion (RisesAbove 0) logs
  rises_at logs others e h =
      let k : AllByRecursion (RisesAbove 0) (unindexed others) = subst (AllByRecursion (RisesAbove 0)) (unindexed_is 0 others) (all_rise (λ u. 0) 0 others h) in
      all_rise_back (λ u. 0) 0 logs (subst (AllByRecursion (RisesAbove 0)) (e ∙ sym (unindexed_is 0 logs)) k)

  legal_only_at : (fuel : ℕ) (logs others : List (List Logged)) → unindexed others ≡ unindexed logs
      → IsLegal (compiled decimal p) fuel others → IsSyncLegal p fuel logs
  legal_only_at fuel logs others e h =
      let m = is_there _ h.taken in
      record {
        rises = rises_at logs others e h.rises;
        taken = subst (λ (o : Option SyncMachine). IsSome o) (same_after _ others logs e)
            (this_side (map without_blocks p.threads) _ m.0 (aside_at fuel others m.0 m.1));
      }

  asks_at : (fuel : ℕ) (logs others : List (List Logged)) (a : SyncMachine) (m : PlainMachine) → unindexed others ≡ unindexed logs
      → sync_machine_after p fuel logs ≡ Some a → machine_after (compiled decimal p) fuel others ≡ Some m → AskTheSame a m
  asks_at fuel logs others a m e h k =
      let same : sync_machine_after p fuel others ≡ Some a = same_after _ others logs e ∙ h in
      alike_ask (map without_blocks p.threads) a m
      (subst (λ (o : Option SyncMachine). BothAlike (map without_blocks p.threads) o (Some m)) same (aside_at fuel others m k))

  pub does_the_same : DoesTheSame p (compiled decimal p)
  does_the_same = record { legal = legal_at; legal_only = legal_only_at; asks = asks_at }
