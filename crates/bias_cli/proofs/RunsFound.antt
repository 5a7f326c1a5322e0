-- Each run ends as a search of its program found.
use Rattle.std.proofs.Common.{◌≡◌, ◌⊎◌, inl, inr, ℕ, ◌≤◌, Bool, true, false, ◌||◌, List, [], ◌∷◌, refl, sym, ◌∙◌, subst}
use Rattle.std.specs.List.{list_any}
use Rattle.std.proofs.lemmas.Bool.{true≢false}
use Rattle.plain_monitor.specs.Limits.{most_fuel}
use Rattle.plain_monitor.specs.declared.entry.Ending.TheVariants.{Trap, Spent}
use Rattle.object_program.specs.Program.{ProgramText}
use Rattle.plain_machine.specs.declared.monitor_call.Mode.{Mode}
use Rattle.plain_machine.specs.declared.monitor_call.Mode.TheVariants.{Ended}
use Rattle.plain_machine.specs.Thread.{ThreadState}
use Rattle.plain_machine.specs.Machine.{PlainMachine, ending_in, is_stuck}
use Rattle.heap_table.specs.Seen.{ClosedSeen}
use Rattle.lock_journal.specs.declared.record.RunRecord.{RunRecord}
use Rattle.cli_args.specs.declared.options.Options.{Options}
use Rattle.every_outcome.specs.Covered.{IsSeen}
use Rattle.every_outcome.specs.Fuel.{is_spent, refuelled, HasSpent}
use Rattle.every_outcome.specs.Led as led
use Rattle.outcome_search.specs.declared.outcome.Outcomes.{Outcomes}
use Rattle.outcome_search.specs.Ends.{has_trapped, have_ended, has_any_trapped}
use Rattle.outcome_search.specs.EveryEnd.{IsEveryEnd}
use Rattle.outcome_search.specs.NextWords.{is_any_spent}
use Rattle.outcome_search.specs.Outcomes.{top_fuel}
use Rattle.outcome_search.proofs.EveryEnds.{none_stuck, none_faulted}
use Rattle.outcome_search.proofs.KnownEnds.{fuel_is}
use Rattle.outcome_search.proofs.Ways.{has_spent}
use Rattle.bias_cli.specs.Finish.{IsRunOf, is_cut_short, status_of}

-- the most fuel of a run is that of a search
top_at_least : (fuel : ℕ) → fuel ≤ most_fuel → fuel ≤ top_fuel
top_at_least fuel few = subst (λ n. fuel ≤ n) (sym fuel_is) few

run_over : (o : Options) (p : ProgramText) (r : RunRecord) (c : ClosedSeen) (m : PlainMachine) → IsRunOf o p r c m → led.IsOver m
run_over o p r c m run = by_halted r.halted refl
  where
    by_halted : (b : Bool) → r.halted ≡ b → led.IsOver m
    by_halted true e = inl (rw e at (run.ran.over m run.under))
    by_halted false e = inr (rw e at (run.ran.over m run.under))

pub run_found : (o : Options) (p : ProgramText) (most : ℕ) (counts : Outcomes) (r : RunRecord) (c : ClosedSeen) (m : PlainMachine)
    (every : IsEveryEnd p most counts) → counts.«open» ≡ 0 → o.fuel ≤ most_fuel → IsRunOf o p r c m
    → HasSpent m ⊎ IsSeen every.kept (refuelled top_fuel m)
run_found o p most counts r c m every all few run =
    every.all all o.fuel r.logs m (top_at_least o.fuel few) run.under (run_over o p r c m run)

pub run_not_stuck : (o : Options) (p : ProgramText) (most : ℕ) (counts : Outcomes) (r : RunRecord) (c : ClosedSeen) (m : PlainMachine)
    → IsEveryEnd p most counts → counts.«open» ≡ 0 → counts.stuck ≡ 0 → o.fuel ≤ most_fuel → IsRunOf o p r c m
    → HasSpent m ⊎ (is_stuck m ≡ false)
run_not_stuck o p most counts r c m every all none few run =
    none_stuck p most o.fuel counts r.logs m every all none (top_at_least o.fuel few) run.under

-- a thread that neither faulted nor was spent wasn't cut short
not_cut : (mode : Mode) → is_spent mode ≡ false → has_trapped mode ≡ false → is_cut_short (ending_in mode) ≡ false
not_cut (Ended Spent) alive whole = absurd (true≢false alive)
not_cut (Ended (Trap fault index)) alive whole = absurd (true≢false whole)
not_cut _ alive whole = refl

neither : (a b : Bool) → (a || b) ≡ false → (a ≡ false) × (b ≡ false)
neither true b h = absurd (true≢false h)
neither false b h = (refl, h)

none_cut : (ss : List ThreadState) → list_any (λ (s : ThreadState). is_spent s.mode) ss ≡ false → list_any (λ (s : ThreadState). has_trapped s.mode) ss ≡ false
    → list_any (λ (s : ThreadState). is_cut_short (ending_in s.mode)) ss ≡ false
none_cut [] alive whole = refl
none_cut (s ∷ ss) alive whole =
    let a = neither (is_spent s.mode) (list_any (λ (s : ThreadState). is_spent s.mode) ss) alive in
    let w = neither (has_trapped s.mode) (list_any (λ (s : ThreadState). has_trapped s.mode) ss) whole in
    rw (not_cut s.mode a.0 w.0) (none_cut ss a.1 w.1)

status_by : (m : PlainMachine) → is_stuck m ≡ false → is_any_spent m ≡ false → has_any_trapped m ≡ false → status_of m ≡ 0
status_by m free alive whole = rw (free, none_cut m.threads alive whole) refl

ended_where_free : (m : PlainMachine) → led.IsOver m → is_stuck m ≡ false → have_ended m ≡ true
ended_where_free m (inl stuck) free = absurd (true≢false (sym stuck ∙ free))
ended_where_free m (inr ended) free = ended

pub run_status : (o : Options) (p : ProgramText) (most : ℕ) (counts : Outcomes) (r : RunRecord) (c : ClosedSeen) (m : PlainMachine)
    → IsEveryEnd p most counts → counts.«open» ≡ 0 → counts.stuck ≡ 0 → counts.faulted ≡ 0 → o.fuel ≤ most_fuel → IsRunOf o p r c m
    → HasSpent m ⊎ (status_of m ≡ 0)
run_status o p most counts r c m every all none whole few run = go (is_any_spent m) refl (run_not_stuck o p most counts r c m every all none few run)
  where
    by_fault : is_any_spent m ≡ false → is_stuck m ≡ false → HasSpent m ⊎ (has_any_trapped m ≡ false) → HasSpent m ⊎ (status_of m ≡ 0)
    by_fault alive free (inl spent) = inl spent
    by_fault alive free (inr untrapped) = inr (status_by m free alive untrapped)

    go : (b : Bool) → is_any_spent m ≡ b → HasSpent m ⊎ (is_stuck m ≡ false) → HasSpent m ⊎ (status_of m ≡ 0)
    go true spent other = inl (has_spent m spent)
    go false alive (inl spent) = inl spent
    go false alive (inr free) =
        by_fault alive free (none_faulted p most o.fuel counts r.logs m every all whole (top_at_least o.fuel few) run.under
        (ended_where_free m (run_over o p r c m run) free))
