use Rattle.std.proofs.Common.{◌∷◌, ◌∙◌, ap, sym, subst, arith, length}
use Rattle.program_syntax.proofs.AllowedParts.{ahead_of}
use Rattle.sync_syntax.specs.inner.State.{sync_before}
use Rattle.sync_syntax.proofs.Kept.{IsKept}
use Rattle.sync_syntax.proofs.Allowed.{line_kept, read_more}
use Rattle.sync_syntax.proofs.reader.read_lines.Goals as goal

pub lines-preserved : goal.lines-preserved
lines-preserved c =
    let b = sync_before c.lines.reader in
    let later = c.next.new.self in
    let line = c.in-Some.line.now in
    let before : IsKept b (ahead_of (line ∷ later)) = rw c.in-Some.ensures at c.lines.invariant.kept in
    let after = line_kept b later line before c.in-Ok.ensures.0 in
    record {
      same = read_more c.lines.number b (sync_before c.in-Ok.next) c.lines.left later line
          c.in-Some.ensures c.in-Ok.ensures.0 c.in-Ok.ensures.1 ∙ c.lines.invariant.same;
      kept = subst (λ s. IsKept s (ahead_of later)) (sym c.in-Ok.ensures.1) after;
      first = omega arith;
      few = omega (arith, ap length c.in-Some.ensures, c.lines.invariant.few);
    }
