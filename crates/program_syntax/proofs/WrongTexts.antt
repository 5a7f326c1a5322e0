-- Which texts aren't read back, and one that is.
use Rattle.std.proofs.Common.{◌≡◌, ◌<◌, ◌≤◌, nat_lt, Bool, true, false, if◌then◌else◌, length, Result, Ok, Err, refl, arith}
use Rattle.std.proofs.lemmas.Bool.Decides.{nat_tests}
use Rattle.std.specs.Fmt.{digits}
use Rattle.object_program.specs.Program.{ProgramText}
use Rattle.object_program.specs.Valid.{IsProgram}
use Rattle.program_syntax.specs.Canonical.{canonical}
use Rattle.program_syntax.specs.Examples.{counting, of_two_words, numbered_late}
use Rattle.program_syntax.specs.Refusal.{program_of}
use Rattle.program_syntax.specs.Text.{most_bytes}
use Rattle.program_syntax.specs.declared.error.ProgramError.{ProgramError}
use Rattle.program_syntax.specs.declared.error.RefusalCause.TheVariants.{Operands}
use Rattle.program_syntax.proofs.Allowed.{allowed_law}

-- what is too long is refused for that
too_long : (t : Bool) (e : ProgramError) (r : Result ProgramText ProgramError) (p : ProgramText) → t ≡ true → (if t then Err e else r) ≡ Ok p → ⊥
too_long true e r p is h = absurd (cc h)
too_long false e r p is h = absurd (cc is)

pub not_barred : (p : ProgramText) → (IsProgram p → ⊥) → program_of (canonical p) ≡ Ok p → ⊥
not_barred p none h = none (allowed_law (canonical p) p h)

pub not_long : (p : ProgramText) → most_bytes < length (canonical p) → program_of (canonical p) ≡ Ok p → ⊥
not_long p long h = too_long (nat_lt most_bytes (length (canonical p))) _ _ p (grind (arith, nat_tests, long)) h

pub two_words_refused : program_of (canonical of_two_words) ≡ Err (record { line = 3; why = Operands })
unfolding digits
two_words_refused = refl

pub not_late : program_of (canonical numbered_late) ≡ Ok numbered_late → ⊥
not_late = not_barred numbered_late (λ is. let first : 1 ≡ 0 = is.objects.0.1 in absurd (omega (arith, first)))

-- A PROGRAM
is_read_back : program_of (canonical counting) ≡ Ok counting
unfolding digits
is_read_back = refl

pub has_text : IsProgram counting × (length (canonical counting) ≤ most_bytes)
unfolding digits
has_text = (allowed_law (canonical counting) counting is_read_back, omega arith)
