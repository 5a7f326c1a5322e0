use Rattle.std.proofs.Common.{◌≤◌, sym, subst}
use Rattle.std.specs.List.{AllByRecursion}
use Rattle.object_program.specs.Limits.{most_code}
use Rattle.plain_monitor.proofs.Lists.{all_weaker}
use Rattle.sync_source.specs.declared.source.SyncThread.{SyncThread}
use Rattle.sync_source.specs.Compiled.{size}
use Rattle.sync_source.specs.BlockView.{all_of}
use Rattle.sync_source.specs.SourceView.{thread_text}
use Rattle.sync_source.proofs.Labels.{all_unmap}
use Rattle.sync_source.proofs.compiler.compile.Goals as goal

pub compile_threads-requires : goal.compile_threads-requires
compile_threads-requires c =
    let all = all_weaker _ (λ (t : SyncThread). size (all_of t.body.statements.items) ≤ most_code)
    (λ t k. k.code_few) _ (all_unmap _ thread_text _ c.source.invariant.threads) in
    record { fits = subst (AllByRecursion (λ (t : SyncThread). size (all_of t.body.statements.items) ≤ most_code)) (sym c.items-3.ensures) all }
