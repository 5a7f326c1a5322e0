use Rattle.std.proofs.Common.{◌⊎◌, inl, inr, refl, sym, ap, ◌∙◌, subst}
use Rattle.program_syntax.specs.declared.error.ProgramError.{ProgramError}
use Rattle.bias_check.specs.Lines.{lines_of}
use Rattle.bias_cli.specs.Seen.{sink_seen}
use Rattle.bias_cli.specs.Refused.{refusal_text}
use Rattle.bias_cli.specs.Finish.{Meets, journal_due, IsGivenUp}
use Rattle.bias_cli.proofs.Told.{told}
use Rattle.bias_cli.proofs.check.check_parts.Goals as goal

pub check_lines-requires : goal.check_lines-requires
check_lines-requires g c = c.requires

pub returns-in-Ok : goal.returns-in-Ok
returns-in-Ok g c =
    let a = c.args in
    let s = g.K.Sink in
    let done = c.check_lines.result in
    subst (λ r. IsGivenUp a.sink.now c.check_lines.new.sink done ⊎ Meets (sink_seen s a.sink.now) (sink_seen s c.check_lines.new.sink) done
    (journal_due a.fuel a.start (lines_of a.parts.journal.now) r)) (sym c.in-Ok.ensures.ok) c.check_lines.ensures

pub returns-in-NoMemory : goal.returns-in-NoMemory
returns-in-NoMemory g c = inl (record { status = c.out_of_memory.ensures.status; left = c.out_of_memory.ensures.left; unwritten = refl })

pub returns-in_default : goal.returns-in_default
returns-in_default g c =
    let a = c.args in
    let s = g.K.Sink in
    elim c.in-Err.ensures.err [
      | inl is ↦ inr (told (sink_seen s a.sink.now) (sink_seen s c.finish_with.new.sink) c.finish_with.result 3 _ (refusal_text c.in-Err.error)
          c.bytes.result.now c.finish_with.ensures.left c.finish_with.ensures.written (c.bytes.ensures.text ∙ c.refusal_line.ensures)
          (ap (journal_due a.fuel a.start (lines_of a.parts.journal.now)) is))
      | inr wanting ↦ absurd (c.in_default.not-NoMemory (ap (λ (e : ProgramError). e.why) wanting))
    ]
