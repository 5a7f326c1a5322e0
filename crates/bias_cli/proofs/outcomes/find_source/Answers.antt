use Rattle.std.proofs.Common.{inl, inr}
use Rattle.bias_cli.specs.Finish.{Text}
use Rattle.bias_cli.proofs.outcomes.find_source.Goals as goal

pub returns-in-Ok-clause-over : goal.returns-in-Ok-clause-over
returns-in-Ok-clause-over g c =
    elim (rw c.as_slice.ensures.value at c.find_text.ensures) [
      | inl given_up ↦ inl given_up
      | inr met ↦ inr (record { reading = Text c.in-Ok.bytes.items; read = c.in-Ok.ensures.took; met = met })
    ]
