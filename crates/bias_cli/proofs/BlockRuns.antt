-- A run of the code of a program with blocks is a run of its blocks, and what is compiled first is run in the same way.
use Rattle.std.proofs.Common.{◌≡◌, ◌≤◌, ◌∙◌, ℕ, decimal, length, List, refl, sym, subst, Ok}
use Rattle.std.proofs.lemmas.Option.{same_Some}
use Rattle.object_program.specs.Program.{ProgramText}
use Rattle.program_syntax.specs.Canonical.{canonical}
use Rattle.program_syntax.specs.Refusal.{program_of}
use Rattle.program_syntax.specs.Text.{most_bytes}
use Rattle.program_syntax.proofs.CanonicalPrograms.{program_of-canonical}
use Rattle.lock_journal.specs.declared.record.RunRecord.{RunRecord}
use Rattle.cli_args.specs.declared.options.Options.{Options}
use Rattle.sync_source.specs.Source.{SyncText}
use Rattle.sync_source.specs.SyncMachine.{IsSyncLegal}
use Rattle.sync_source.specs.SameMeaning.{DoesTheSame}
use Rattle.sync_source.specs.Valid.{IsSyncText}
use Rattle.sync_source.proofs.Names.{all_plain, compiled_is_program}
use Rattle.sync_source.proofs.Same.{does_the_same}
use Rattle.sync_syntax.specs.Refusal.{sync_program_of}
use Rattle.sync_source.specs.Compiled.{compiled}
use Rattle.bias_cli.specs.declared.finish.Finish.{Finish}
use Rattle.bias_cli.specs.Seen.{SinkSeen}
use Rattle.bias_cli.proofs.BlocksAllowed.{blocks_allowed}
use Rattle.bias_cli.specs.Finish.{FollowsBlocks, LeavesRun, Meets, RunsBlocks, run_due, sync_due}

module _ (before after : SinkSeen) (f : Finish) (o : Options) (s : SyncText) (p : ProgramText) (does : DoesTheSame s p)
    (met : LeavesRun before after f o p) where
  follows : FollowsBlocks f o.fuel s
  follows r h =
      subst (λ (q : RunRecord). IsSyncLegal s o.fuel q.logs) (same_Some met.0 r (sym met.2 ∙ h))
      (does.legal_only o.fuel met.0.logs met.0.logs refl met.4.run.ran.legal)

  pub blocks_run : p ≡ compiled decimal s → Meets before after f (RunsBlocks o s)
  blocks_run code = (subst (LeavesRun before after f o) code met, follows)

module _ (o : Options) (bytes : List ℕ) (s : SyncText) (before after : SinkSeen) (f : Finish) (read : sync_program_of bytes ≡ Ok s)
    (few : length (canonical (compiled decimal s)) ≤ most_bytes) where
  allowed : IsSyncText s
  allowed = blocks_allowed bytes s read

  read_back : program_of (canonical (compiled decimal s)) ≡ Ok (compiled decimal s)
  read_back = program_of-canonical (compiled decimal s) (compiled_is_program s allowed) few

  pub run_of_compiled : Meets before after f (run_due o (program_of (canonical (compiled decimal s))))
      → Meets before after f (sync_due o (sync_program_of bytes))
  run_of_compiled met =
      subst (λ r. Meets before after f (sync_due o r)) (sym read)
      (blocks_run before after f o s (compiled decimal s) (does_the_same decimal s (all_plain s allowed))
      (subst (λ r. Meets before after f (run_due o r)) read_back met) refl)

  pub sync_of_compiled : Meets before after f (sync_due o (sync_program_of bytes))
      → Meets before after f (run_due o (program_of (canonical (compiled decimal s))))
  sync_of_compiled met =
      subst (λ r. Meets before after f (run_due o r)) (sym read_back)
      (subst (λ r. Meets before after f (sync_due o r)) read met).0
