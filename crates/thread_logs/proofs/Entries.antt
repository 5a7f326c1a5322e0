-- An entry that a thread makes: what was asked, and what came of it.
use Rattle.std.proofs.Common.{◌≡◌, true, List, Some}
use Rattle.std.proofs.lemmas.Option.{cond_some, option_and_then_some}
use Rattle.plain_monitor.specs.declared.entry.Entry.{Entry}
use Rattle.object_program.specs.declared.program.Code.{Code}
use Rattle.object_program.specs.Program.{ProgramText}
use Rattle.plain_machine.specs.declared.monitor_call.NextEntry.{NextEntry}
use Rattle.plain_machine.specs.Thread.{ThreadState}
use Rattle.plain_machine.specs.Asking.{ask, fits, after_entry, thread_after}

pub record HasMade (p : ProgramText) (cs : List Code) (s next : ThreadState) (e : Entry) : Type 0 where
  pub asked : NextEntry
  pub asks : ask s ≡ Some asked
  pub fit : fits asked e ≡ true
  pub is : after_entry p cs s asked e ≡ next

pub has_made : (p : ProgramText) (cs : List Code) (s next : ThreadState) (e : Entry)
    → thread_after p cs s e ≡ Some next → HasMade p cs s next e
has_made p cs s next e h = option_and_then_some _ (ask s) next h (λ a asks only.
    let c = cond_some (fits a e) (after_entry p cs s a e) next only in
    record { asked = a; asks = asks; fit = c.0; is = c.1 })
