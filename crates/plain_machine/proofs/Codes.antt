-- The instructions of a thread.
use Rattle.std.proofs.Common.{◌≡◌, ℕ, ◌<◌, ◌≤◌, [], length, get_or, ap, sym, ◌∙◌}
use Rattle.std.proofs.lemmas.List.{get_or-map}
use Rattle.std.proofs.lemmas.List.Elements.{All-from_recursion}
use Rattle.object_program.specs.Limits.{most_code}
use Rattle.object_program.specs.declared.program.ThreadDef.{ThreadDef}
use Rattle.object_program.specs.Program.{ProgramText}
use Rattle.object_program.specs.Valid.{IsProgram, IsThread}
use Rattle.plain_machine.specs.Machine.{code_of}

pub thread_code : (p : ProgramText) (t : ℕ) (d : ThreadDef) → t < length p.threads → d ≡ get_or p.threads t d → d.code ≡ code_of p t
thread_code p t d lt e =
    ap (λ (x : ThreadDef). x.code) e ∙ sym (get_or-map (λ (x : ThreadDef). x.code) p.threads t d [] lt)

pub thread_valid : (p : ProgramText) (t : ℕ) (d : ThreadDef) → IsProgram p → t < length p.threads
    → d ≡ get_or p.threads t d → IsThread (length p.classes) (length p.objects) d
thread_valid p t d v lt e = rw e (All-from_recursion (IsThread (length p.classes) (length p.objects)) p.threads v.threads t d lt)

pub thread_short : (p : ProgramText) (t : ℕ) (d : ThreadDef) → IsProgram p → t < length p.threads → d ≡ get_or p.threads t d → length d.code ≤ most_code
thread_short p t d v lt e = (thread_valid p t d v lt e).code_few

pub ruleset codes = (thread_code, thread_short)
