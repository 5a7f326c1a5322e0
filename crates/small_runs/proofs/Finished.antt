-- Ends of these small heaps, with what the laws of ends ask besides.
use Rattle.std.proofs.Common.{◌≡◌, ℕ, ◌<◌, List, [], ◌∷◌, true, false, Some, refl, ap, ◌∙◌, arith}
use Rattle.std.specs.Prelude.{slice_index, slice_get, map}
use Rattle.mark_word.specs.Mark.{read_mark}
use Rattle.mark_word.specs.Safe.{read_safe}
use Rattle.mark_word.specs.Owner.{read_owner}
use Rattle.mark_word.specs.Wait.{read_wait}
use Rattle.mark_word.specs.Hold.{read_hold}
use Rattle.plain_monitor.specs.declared.entry.Entry.TheVariants as entry
use Rattle.plain_monitor.specs.declared.entry.Logged.{Logged}
use Rattle.plain_monitor.specs.declared.entry.Path.TheVariants.{StackFirst}
use Rattle.core_world.specs.Due.{steps_due}
use Rattle.core_world.specs.Steps.{is_idle}
use Rattle.core_world.specs.Threads.ThreadView.{DumpShot}
use Rattle.core_world.specs.Trees.Calls.{steps_of}
use Rattle.core_world.specs.Words.Forms.{is_halted}
use Rattle.core_world.specs.Words.Shape.{ring_bits}
use Rattle.closed_heap_laws.specs.OfARun.{IsEnd, shots_at, shots_in}
use Rattle.step_history.specs.Examples.{lone, world_of, halts}
use Rattle.step_history.proofs.Exemplified.{halted}
use Rattle.small_runs.specs.Runs.{lone_biased, all_known, has_finished, has_finished_biased}
use Rattle.small_runs.proofs.Ends.{ended}
use Rattle.small_runs.proofs.LoneWords.{words_in}
use Rattle.small_runs.proofs.Worlds.{limits, finished_comes, finished_over, biased_comes, biased_over, halted_over}

finished_shot : (s : DumpShot) × (slice_get (shots_at (shots_in (all_known has_finished)) 0) 0 ≡ Some s)
unfolding steps_due is_idle steps_of read_safe read_mark read_hold read_wait read_owner ring_bits
finished_shot = (_, refl)

pub logged : map (λ (l : Logged). l.entry) (has_finished.known 0).log ≡ entry.Dump 1 ∷ entry.Enter 0 StackFirst ∷ entry.Exit 0 ∷ entry.Done ∷ []
unfolding steps_due is_idle steps_of read_safe read_mark read_hold read_wait read_owner ring_bits
logged = refl

pub finished : (words : List ℕ) × IsEnd lone words (all_known has_finished)
    × ((s : DumpShot) × (slice_get (shots_at (shots_in (all_known has_finished)) 0) 0 ≡ Some s))
finished =
    let e =
    ended lone has_finished limits refl finished_comes finished_over
    (words_in false has_finished limits finished_comes) in
    (e.0, e.1, finished_shot)

pub halted_end : (words : List ℕ) × IsEnd lone words (all_known (world_of lone (halts 0))) × (is_halted (slice_index words 0) ≡ true)
halted_end =
    let e = ended lone (world_of lone (halts 0)) limits refl halted.0 halted_over (words_in false (world_of lone (halts 0)) limits halted.0) in
    (e.0, e.1, ap is_halted e.2 ∙ halted.1)

pub biased_end : (words : List ℕ) × IsEnd lone_biased words (all_known has_finished_biased) × (0 < lone_biased.shape.classes)
biased_end =
    let e =
    ended lone_biased has_finished_biased limits refl biased_comes biased_over
    (words_in true has_finished_biased limits biased_comes) in
    (e.0, e.1, omega arith)
