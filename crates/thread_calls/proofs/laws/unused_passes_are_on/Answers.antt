use Rattle.std.proofs.Common.{◌≡◌, ℕ, ◌<◌, [], false, List, length, replicate, slice_index, sym, ap, ◌∙◌, subst, arith, inl}
use Rattle.std.proofs.lemmas.List.{length-replicate, get_or-replicate}
use Rattle.core_world.specs.Threads.ThreadView.{ThreadView}
use Rattle.plain_monitor.specs.declared.entry.Logged.{Logged}
use Rattle.plain_history.specs.HeldByLog.{held_by, nothing_held}
use Rattle.object_program.specs.Program.{objects_total}
use Rattle.thread_frame.specs.Frames.{first_frame, next_state}
use Rattle.thread_frame.proofs.Starts.{starts}
use Rattle.thread_logs.specs.Followed.{FollowsCode, HaveValues}
use Rattle.thread_logs.proofs.Logs.{first_follows}
use Rattle.thread_calls.proofs.Framed.{same_counts}
use Rattle.thread_calls.proofs.laws.unused_passes_are_on.Goals as goal

pub returns : goal.returns
returns c h p fuel pass of rests known few limit =
    let t = pass.known.thread in
    let total = objects_total p in
    let first = first_frame fuel in
    let holds : List ℕ = replicate total 0 in
    let log : pass.known.log ≡ [] = ap (λ (k : ThreadView). k.log) known in
    let quiet : pass.known.requesting ≡ false = ap (λ (k : ThreadView). k.requesting) known in
    let unchecked : pass.known.checking ≡ false = ap (λ (k : ThreadView). k.checking) known in
    let each : ((o : ℕ) → o < total → slice_index holds o ≡ held_by nothing_held pass.known.log o) =
    λ o l. get_or-replicate total o 0 0 l ∙ sym (ap (λ (x : List Logged). held_by nothing_held x o) log) in
    let same = same_counts h p of fuel pass rests holds (length-replicate total 0) each in
    let within : t < length p.threads = omega (arith, rests.is_of.within, of.threads) in
    let begun = first_follows p fuel t (next_state p t holds first) (starts p fuel t of.program within) in
    let follows = subst (λ (x : List Logged). FollowsCode p fuel t x (next_state p t holds first)) (sym log) begun in
    record {
      rests = rests;
      follows = subst (λ (hs : List ℕ). FollowsCode p fuel t pass.known.log (next_state p t hs first)) same follows;
      values = subst (HaveValues p) (sym log) tt;
      few = few;
      limit = limit;
      spent = omega arith;
      unfinished = inl (ap (λ (k : ThreadView). k.unfinished) known);
      asks = λ r u. absurd (cc (r, quiet));
      checks = λ u. absurd (cc (u, unchecked));
    }
