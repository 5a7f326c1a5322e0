-- A call that runs nothing does what was due, where it told the text with its status.
use Rattle.std.proofs.Common.{◌≡◌, ℕ, List, sym, subst}
use Rattle.bias_cli.specs.Seen.{SinkSeen}
use Rattle.bias_cli.specs.declared.finish.Finish.{Finish}
use Rattle.bias_cli.specs.Finish.{Due, Tells, Meets, IsWritten, LeavesNothing}

pub told : (before after : SinkSeen) (f : Finish) (status : ℕ) (due : Due) (text said : List ℕ) → LeavesNothing f
    → IsWritten before after f.status status said → said ≡ text → due ≡ Tells status text → Meets before after f due
told before after f status due text said left written same is =
    subst (λ d. Meets before after f d) (sym is) (left, subst (λ t. IsWritten before after f.status status t) same written)
