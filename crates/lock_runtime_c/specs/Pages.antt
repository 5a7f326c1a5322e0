-- A page of a thread's log, as it is handed out.
use Rattle.std.specs.Prelude.{◌≡◌, ◌⊎◌, ℕ, ◌+◌, List, length, Option, Some, None, []}
use Rattle.core_world.specs.declared.heap_call.Unfinished.{Unfinished}
use Rattle.plain_monitor.specs.declared.entry.Logged.{Logged}
use Rattle.heap_table.specs.Seen.{PassSeen, page_of}
use Rattle.lock_runtime_c.specs.Left.{entry_answer, entry_row}
use Rattle.lock_runtime_c.specs.Numbers.{misused, op_number, plain, with_kind}
use Rattle.lock_runtime_c.specs.declared.answers.Answer.{Answer}
use Rattle.lock_runtime_c.specs.declared.numbers.Row.{Row}
use Rattle.lock_runtime_c.specs.declared.inner.Inner.{Inner}
use Rattle.lock_runtime_c.specs.declared.inner.Inner.TheVariants as inner
use Rattle.lock_runtime_c.specs.declared.inner.Seat.{Seat}
use Rattle.lock_runtime_c.specs.declared.outcome.Misuse.TheVariants.{OtherKind}
use Rattle.lock_runtime_c.specs.declared.outcome.Outcome.{Outcome}
use Rattle.lock_runtime_c.specs.declared.outcome.Outcome.TheVariants.{Done, Misused, NoMemory}
use Rattle.lock_runtime_c.specs.declared.outcome.Said.TheVariants.{Handed}

-- The pass was p, and is q: the entries of its log that it had not handed out are this page, of so many entries, and its log may have as many more.
pub record HandsOut (p q : PassSeen) (entries : List Logged) (many : ℕ) : Type 0 where
  pub page : entries ≡ page_of p
  pub pass : q ≡ record p { limit = p.limit + length (page_of p) }
  pub count : many ≡ length entries

-- a thread's page is handed out and lies in its handle; or memory is wanting, and its log is as it was, and the page before is gone
abbrev pub TakesPage : Inner → Inner → Outcome → Type 0
TakesPage (inner.Seat s) after out =
    (z : Seat) × (after ≡ inner.Seat z) × (z.room ≡ s.room)
    × (((count : ℕ) × (out ≡ Done (Handed count)) × HandsOut s.lent.thing z.lent.thing z.page.items count)
    ⊎ ((out ≡ NoMemory) × (z.lent.thing ≡ s.lent.thing) × (z.page.items ≡ [])))
TakesPage before after out = (after ≡ before) × (out ≡ Misused OtherKind)

-- how many entries the thread's log has
abbrev pub length_answer : Inner → Answer
length_answer (inner.Seat s) = with_kind 0 0 (length s.lent.thing.known.log)
length_answer _ = misused OtherKind

-- an entry of the page that lies in the handle
abbrev pub page_answer : Inner → ℕ → Answer
page_answer (inner.Seat s) number = entry_answer s.page.items number
page_answer _ number = misused OtherKind

abbrev pub page_row : Inner → ℕ → Option Row
page_row (inner.Seat s) number = entry_row s.page.items number
page_row _ number = None

-- the operation of the thread that is unfinished, with its object
abbrev pub left_answer : Option Unfinished → Answer
left_answer None = plain 0
left_answer (Some u) = with_kind 0 (op_number u.op) u.object

abbrev pub unfinished_answer : Inner → Answer
unfinished_answer (inner.Seat s) = left_answer s.lent.thing.known.unfinished
unfinished_answer _ = misused OtherKind
