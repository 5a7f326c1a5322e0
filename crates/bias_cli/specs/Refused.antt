-- What is written of a text that has no program: the line, and the cause by its name.
use Rattle.std.specs.Prelude.{ℕ, ◌==◌, if◌then◌else◌, List, ◌++◌, codes, decimal}
use Rattle.program_syntax.specs.declared.error.ProgramError.{ProgramError}
use Rattle.program_syntax.specs.declared.error.RefusalCause.{RefusalCause}
use Rattle.sync_syntax.specs.declared.error.SyncError.{SyncError}
use Rattle.sync_syntax.specs.declared.error.SyncRefusalCause.{SyncRefusalCause}
use Rattle.sync_syntax.specs.declared.error.SyncRefusalCause.TheVariants.{Plain, Open, Stray, Assigned, Deep}
use Rattle.program_syntax.specs.declared.error.RefusalCause.TheVariants.{NotAscii, UnknownWord, Operands, BadName, Twice, Undeclared}
use Rattle.program_syntax.specs.declared.error.RefusalCause.TheVariants.{BadNumber, Limit, NoThread, NoEnd, Later, NoMemory}

abbrev pub cause_text : RefusalCause → List ℕ
cause_text NotAscii = codes "NotAscii"
cause_text UnknownWord = codes "UnknownWord"
cause_text Operands = codes "Operands"
cause_text BadName = codes "BadName"
cause_text Twice = codes "Twice"
cause_text Undeclared = codes "Undeclared"
cause_text BadNumber = codes "BadNumber"
cause_text Limit = codes "Limit"
cause_text NoThread = codes "NoThread"
cause_text NoEnd = codes "NoEnd"
cause_text Later = codes "Later"
cause_text NoMemory = codes "NoMemory"

-- where: line 0 is the text as a whole
abbrev pub place_text : ℕ → List ℕ
place_text line = if line == 0 then codes "program" else codes "line " ++ decimal line

abbrev pub cause_line : ℕ → List ℕ → List ℕ
cause_line line cause = place_text line ++ codes ": " ++ cause ++ codes "\n"

abbrev pub refusal_text : ProgramError → List ℕ
refusal_text e = cause_line e.line (cause_text e.why)

-- the same of a text that has no program with blocks
abbrev pub sync_cause_text : SyncRefusalCause → List ℕ
sync_cause_text (Plain why) = cause_text why
sync_cause_text Open = codes "Open"
sync_cause_text Stray = codes "Stray"
sync_cause_text Assigned = codes "Assigned"
sync_cause_text Deep = codes "Deep"

abbrev pub sync_refusal_text : SyncError → List ℕ
sync_refusal_text e = cause_line e.line (sync_cause_text e.why)
