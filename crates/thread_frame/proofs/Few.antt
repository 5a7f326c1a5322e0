-- A thread declares few locals, so that a frame has a place for each.
use Rattle.std.proofs.Common.{◌≡◌, ℕ, ◌<◌, ◌≤◌, length, get_or}
use Rattle.object_program.specs.Limits.{most_locals}
use Rattle.object_program.specs.declared.program.ThreadDef.{ThreadDef}
use Rattle.object_program.specs.Program.{ProgramText}
use Rattle.object_program.specs.Valid.{IsProgram}
use Rattle.plain_machine.proofs.Codes.{thread_valid}

pub few_locals : (p : ProgramText) (t : ℕ) (d : ThreadDef) → IsProgram p → t < length p.threads → d ≡ get_or p.threads t d
    → length d.locals ≤ most_locals
few_locals p t d v lt e = (thread_valid p t d v lt e).locals_few
