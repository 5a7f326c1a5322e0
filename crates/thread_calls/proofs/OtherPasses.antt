-- Which passes and frames don't belong together.
use Rattle.std.proofs.Common.{◌≡◌, ◌≢◌, ◌+◌, ◌<◌, ℕ, true, false, not, [], ◌∷◌, length, ap, arith}
use Rattle.heap_table.specs.Seen.{HeapSeen, PassSeen}
use Rattle.object_program.specs.Program.{ProgramText}
use Rattle.plain_machine.specs.Machine.{code_of, is_live}
use Rattle.plain_machine.specs.Thread.{ThreadState}
use Rattle.plain_monitor.specs.Limits.{most_fuel, entries_for}
use Rattle.plain_monitor.specs.declared.entry.Entry.TheVariants.{Done, Dump}
use Rattle.thread_logs.specs.Followed.{ends_by, dumps_by}
use Rattle.thread_logs.proofs.Running.{ThreadHasRun, has_run}
use Rattle.thread_logs.proofs.Standing.{ends_told, dumps_told}
use Rattle.thread_frame.specs.Frames.{first_frame, locals_of, state_in}
use Rattle.thread_frame.specs.Sights.{counts_from}
use Rattle.thread_calls.specs.Between.{IsOn, state_by}

module _ (h : HeapSeen) (p : ProgramText) (fuel : ℕ) (pass : PassSeen) where
  abbrev unrun : ThreadState
  unrun = state_in (locals_of p pass.known.thread) (counts_from 0 (length h.heap.shape.objects) pass.known.holds) (first_frame fuel)

  begun : ThreadHasRun unrun.holds 0 (state_by h p pass (first_frame fuel))
  begun = has_run p (code_of p pass.known.thread) fuel unrun

  pub not_ended : (n : ℕ) → pass.known.log ≡ record { stamp = n; entry = Done } ∷ [] → IsOn h p fuel pass (first_frame fuel) → ⊥
  not_ended n log on =
      let told = ends_told p fuel pass.known.thread 0 pass.known.log (state_by h p pass (first_frame fuel)) on.follows in
      let lives : is_live (state_by h p pass (first_frame fuel)) ≡ true = begun.lives in
      let ends : ends_by pass.known.log ≡ true = ap ends_by log in
      absurd (cc (told, ap not lives, ends))

  pub not_dumped : (n : ℕ) → pass.known.log ≡ record { stamp = n; entry = Dump 1 } ∷ [] → IsOn h p fuel pass (first_frame fuel) → ⊥
  not_dumped n log on =
      let told = dumps_told p fuel pass.known.thread 0 pass.known.log (state_by h p pass (first_frame fuel)) on.follows in
      let dumps : dumps_by pass.known.log ≡ 1 = ap dumps_by log in
      absurd (omega (arith, told, dumps, begun.dumps_stay))

  pub not_requesting : pass.known.requesting ≡ true → pass.known.checking ≡ false → IsOn h p fuel pass (first_frame fuel) → ⊥
  not_requesting requests unchecked on =
      let before : false ≡ true = (on.asks requests unchecked).before in absurd (cc before)

  pub not_other_room : pass.limit ≢ entries_for fuel → IsOn h p fuel pass (first_frame fuel) → ⊥
  not_other_room other on = other on.limit

  pub not_richer : IsOn h p fuel pass (first_frame (fuel + 1)) → ⊥
  not_richer on = let spent = on.spent in absurd (omega (arith, spent))

  pub not_above_most : most_fuel < fuel → IsOn h p fuel pass (first_frame fuel) → ⊥
  not_above_most above on = let few = on.few in absurd (omega (arith, above, few))
