-- A thread that rests keeps a shot for each dump that it has logged.
use Rattle.std.proofs.Common.{◌≡◌, ℕ, List, length, Option, sym, ap, ◌∙◌, subst, inl, inr}
use Rattle.std.proofs.lemmas.List.{length-map}
use Rattle.plain_monitor.specs.declared.entry.Logged.{Logged}
use Rattle.core_world.specs.declared.heap_call.Operation.TheVariants as op
use Rattle.core_world.specs.declared.heap_call.Unfinished.{Unfinished}
use Rattle.core_world.specs.Clauses.Safepoints.{IsUnfinished}
use Rattle.core_world.specs.Shots.{AreOfDumps, dumps_from}
use Rattle.core_world.specs.Threads.ThreadView.{ThreadView, DumpShot}
use Rattle.heap_table.specs.Resting.{Rests}
use Rattle.heap_table.specs.Seen.{HeapSeen, PassSeen}
use Rattle.heap_table.proofs.Resting.{at_rest}
use Rattle.own_logs.proofs.Settled.{settled}

as_many : (t : ℕ) (log : List Logged) (shots : List DumpShot) (unfinished : Option Unfinished)
    → (IsUnfinished unfinished op.Dump 0 → length shots ≡ length (dumps_from 0 log))
    → AreOfDumps t log shots unfinished → length shots ≡ length (dumps_from 0 log)
as_many t log shots unfinished rest (inl is) = sym (length-map shots _) ∙ ap (λ (x : List (ℕ × ℕ)). length x) is
as_many t log shots unfinished rest (inr is) = rest is.1

pub own_shots : (h : HeapSeen) (p : PassSeen) → Rests h p → length p.known.shots ≡ length (dumps_from 0 p.known.log)
own_shots h p rests =
    let z = settled h p rests in
    let t = p.known.thread in
    as_many t p.known.log p.known.shots p.known.unfinished (at_rest h p rests).shots
    (subst (λ (k : ThreadView). AreOfDumps t k.log k.shots k.unfinished) z.knew (z.fits.shots.dumps t))
