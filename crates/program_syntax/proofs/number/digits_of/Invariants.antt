use Rattle.std.proofs.Common.{◌≡◌, ◌^◌, ◌<◌, drop}
use Rattle.program_syntax.specs.Number.{number_after}
use Rattle.program_syntax.proofs.number.digits_of.Given as goal

abbrev pub invariant-loop-b : goal.invariant-loop-b
invariant-loop-b l = record {
  same : number_after l.number (drop l.b-index l.digits) ≡ number_after 0 l.digits;
  small : l.number < 10 ^ l.b-index;
}
