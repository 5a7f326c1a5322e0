use Rattle.std.proofs.Common.{◌≡◌, ℕ, ◌==◌, false, nat_lt, List, length, Ok, refl, sym, arith}
use Rattle.std.proofs.lemmas.Bool.Decides.{nat_tests}
use Rattle.program_syntax.specs.Text.{most_bytes}
use Rattle.program_syntax.specs.Reading.{Before, nothing}
use Rattle.program_syntax.specs.Refusal.{read_from, lines_of, program_of}
use Rattle.program_syntax.specs.State.{before_of}
use Rattle.program_syntax.proofs.Allowed.{allowed_law}
use Rattle.program_syntax.proofs.reader.read_program.Goals as goal

program_is : (bytes : List ℕ) (b : Before) → nat_lt most_bytes (length bytes) ≡ false → read_from 1 nothing (lines_of bytes) ≡ Ok b
    → (length b.text.threads == 0) ≡ false → program_of bytes ≡ Ok b.text
program_is bytes b few read some = rw (few, read, some) refl

pub program-requires : goal.program-requires
program-requires c =
    let bytes = c.args.bytes.now in
    let b = before_of c.in_ok-declared.field-0 in
    let few : nat_lt most_bytes (length bytes) ≡ false = grind (arith, nat_tests) in
    let some : (length b.text.threads == 0) ≡ false = rw (← c.items.ensures) (sym c.if-is_empty.ensures) in
    allowed_law bytes b.text (program_is bytes b few c.in_ok-declared.ensures.ok some)
