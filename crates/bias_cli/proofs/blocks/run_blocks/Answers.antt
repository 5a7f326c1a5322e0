use Rattle.std.proofs.Common.{inl, inr}
use Rattle.bias_cli.proofs.BlockRuns.{blocks_run}
use Rattle.bias_cli.proofs.blocks.run_blocks.Goals as goal

pub returns-in-Ok : goal.returns-in-Ok
returns-in-Ok g c =
    elim c.run_and_write.ensures [
      | inl given_up ↦ inl given_up
      | inr met ↦ inr (blocks_run _ _ _ _ _ _ c.in-Ok.ensures.same met c.in-Ok.ensures.code)
    ]
