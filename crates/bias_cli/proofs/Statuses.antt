-- Which calls have status 7.
use Rattle.std.proofs.Common.{◌≡◌, ◌≢◌, ◌⊎◌, ℕ, Bool, true, false, nat_eq, nat_lt, ◌||◌, if◌then◌else◌, List}
use Rattle.std.proofs.Common.{length, Option, Some, None, refl, sym, ◌∙◌, arith, inl, inr, decimal}
use Rattle.std.specs.Prelude.{Result, Ok, Err}
use Rattle.std.specs.List.{list_any}
use Rattle.std.specs.Bool.{⊤}
use Rattle.std.proofs.lemmas.Bool.{eqb-true, eqb-false}
use Rattle.program_syntax.specs.declared.error.ProgramError.{ProgramError}
use Rattle.object_program.specs.Program.{ProgramText}
use Rattle.program_syntax.specs.Refusal.{program_of}
use Rattle.plain_machine.specs.Machine.{ending_in, is_stuck}
use Rattle.sync_source.specs.Source.{SyncText}
use Rattle.sync_syntax.specs.declared.error.SyncError.{SyncError}
use Rattle.sync_syntax.specs.Refusal.{sync_program_of}
use Rattle.bias_check.specs.declared.answer.Checked.{Checked}
use Rattle.bias_check.specs.declared.answer.Checked.TheVariants.{Legal}
use Rattle.bias_check.specs.declared.answer.CheckFault.{CheckFault}
use Rattle.bias_check.specs.declared.answer.CheckFault.TheVariants.{Unreadable, NoMemory}
use Rattle.bias_check.specs.Parts.{has_journal, program_part, journal_part}
use Rattle.cli_args.specs.declared.options.Options.{Options}
use Rattle.cli_args.specs.declared.options.Command.{Command}
use Rattle.cli_args.specs.declared.options.Command.TheVariants.{Run, Sync, Compile, Check, Make, Outcomes}
use Rattle.sync_source.specs.Compiled.{compiled}
use Rattle.bias_cli.specs.declared.finish.Finish.{Finish}
use Rattle.bias_cli.specs.Seen.{SourceSeen, SinkSeen}
use Rattle.bias_cli.specs.Input.{most_of_journal}
use Rattle.bias_cli.specs.Verdict.{verdict_status}
use Rattle.outcome_search.specs.Outcomes.{has_hash}
use Rattle.bias_cli.specs.Outcomes.{outcome_status}
use Rattle.bias_cli.specs.Finish.{Reading, Unread, ReadFault, Text, Due, Tells, Runs, RunsBlocks, Checks, Finds, run_due, sync_due, compile_due}
use Rattle.bias_cli.specs.Finish.{finds_due, journal_due, text_due, due_of, is_cut_short, status_of, IsWritten, LeavesRun, Meets, IsGivenUp, IsFinish}

-- ---- the statuses that are due

-- where a text is told, its status isn't 7
abbrev HasAnother : Due → Type 0
HasAnother (Tells status text) = status ≢ 7
HasAnother (Runs o p) = ⊤
HasAnother (RunsBlocks o s) = ⊤
HasAnother (Checks p fuel start lines) = ⊤
HasAnother (Finds p states witness) = ⊤

run_another : (o : Options) (r : Result ProgramText ProgramError) → HasAnother (run_due o r)
run_another o (Ok p) = tt
run_another o (Err e) = λ is. absurd (omega (arith, is))

sync_another : (o : Options) (r : Result SyncText SyncError) → HasAnother (sync_due o r)
sync_another o (Ok s) = tt
sync_another o (Err e) = λ is. absurd (omega (arith, is))

compile_another : (r : Result SyncText SyncError) → HasAnother (compile_due r)
compile_another (Ok s) = λ is. absurd (omega (arith, is))
compile_another (Err e) = λ is. absurd (omega (arith, is))

journal_another : (fuel start : ℕ) (lines : List (List ℕ)) (r : Result ProgramText ProgramError) → HasAnother (journal_due fuel start lines r)
journal_another fuel start lines (Ok p) = tt
journal_another fuel start lines (Err e) = λ is. absurd (omega (arith, is))

by_test : (b : Bool) (d e : Due) → HasAnother d → HasAnother e → HasAnother (if b then d else e)
by_test true d e first second = first
by_test false d e first second = second

check_another : (fuel start : ℕ) (bytes : List ℕ) → HasAnother (text_due (Some (Check fuel start)) bytes)
check_another fuel start bytes =
    by_test (nat_lt most_of_journal (length bytes)) _ _ (λ is. absurd (omega (arith, is)))
    (by_test (has_journal bytes) _ _ (journal_another fuel start (journal_part bytes) (program_of (program_part bytes)))
    (λ is. absurd (omega (arith, is))))

finds_another : (states : ℕ) (witness : Bool) (r : Result ProgramText ProgramError) → HasAnother (finds_due states witness r)
finds_another states witness (Ok p) = by_test (has_hash p) _ _ (λ is. absurd (omega (arith, is))) tt
finds_another states witness (Err e) = λ is. absurd (omega (arith, is))

text_another : (c : Option Command) (bytes : List ℕ) → HasAnother (text_due c bytes)
text_another None bytes = λ is. absurd (omega (arith, is))
text_another (Some (Run o)) bytes = run_another o (program_of bytes)
text_another (Some (Sync o)) bytes = sync_another o (sync_program_of bytes)
text_another (Some Compile) bytes = compile_another (sync_program_of bytes)
text_another (Some (Check fuel start)) bytes = check_another fuel start bytes
text_another (Some (Make items)) bytes = λ is. absurd (omega (arith, is))
text_another (Some (Outcomes states witness)) bytes = finds_another states witness (program_of bytes)

due_another : (c : Option Command) (reading : Reading) → HasAnother (due_of c reading)
due_another c Unread = text_another c _
due_another c ReadFault = λ is. absurd (omega (arith, is))
due_another c (Text bytes) = text_another c bytes

machine_another : (stuck cut : Bool) → ◌≢◌ {A = ℕ} (if stuck then 4 else if cut then 1 else 0) 7
machine_another true cut is = absurd (omega (arith, is))
machine_another false true is = absurd (omega (arith, is))
machine_another false false is = absurd (omega (arith, is))

verdict_another : (answer : Result Checked CheckFault) → answer ≢ Err NoMemory → verdict_status answer ≢ 7
verdict_another (Ok (Legal count state)) given is = absurd (omega (arith, is))
verdict_another (Err (Unreadable number)) given is = absurd (omega (arith, is))
verdict_another (Err NoMemory) given is = given refl
verdict_another (Ok _) given is = absurd (omega (arith, is))

outcome_another : (stuck cut left : Bool) → ◌≢◌ {A = ℕ} (if stuck then 4 else if cut then 1 else if left then 8 else 0) 7
outcome_another true cut left is = absurd (omega (arith, is))
outcome_another false true left is = absurd (omega (arith, is))
outcome_another false false true is = absurd (omega (arith, is))
outcome_another false false false is = absurd (omega (arith, is))

-- ---- the statuses of calls that did what was due

written_another : (before after : SinkSeen) (status due : ℕ) (text : List ℕ) → due ≢ 7 → IsWritten before after status due text → status ≢ 7
written_another before after status due text another (inl whole) is = another (sym whole.0 ∙ is)
written_another before after status due text another (inr front) is = absurd (omega (arith, front.0, is))

run_leaves_another : (before after : SinkSeen) (f : Finish) (o : Options) (p : ProgramText) → LeavesRun before after f o p → f.status ≢ 7
run_leaves_another before after f o p met =
    let run = met.4 in
    let m = run.machine in
    written_another before after f.status (status_of m) _ (machine_another (is_stuck m) (list_any (λ s. is_cut_short (ending_in s.mode)) m.threads)) run.written

met_another : (before after : SinkSeen) (f : Finish) (due : Due) → HasAnother due → Meets before after f due → f.status ≢ 7
met_another before after f (Tells status text) another met = written_another before after f.status status text another met.1
met_another before after f (Runs o p) another met = run_leaves_another before after f o p met
met_another before after f (RunsBlocks o s) another met = run_leaves_another before after f o (compiled decimal s) met.0
met_another before after f (Checks p fuel start lines) another met =
    let check = met.1 in
    written_another before after f.status (verdict_status check.answer) _ (verdict_another check.answer check.verdict.given) check.written
met_another before after f (Finds p states witness) another met =
    let found = met.1 in
    let o = found.counts in
    written_another before after f.status (outcome_status o) _
    (outcome_another (nat_lt 0 o.stuck) (nat_lt 0 o.faulted || nat_lt 0 o.spent) (nat_lt 0 o.«open»)) found.written

pub finished_another : (c : Option Command) (sb sa : SourceSeen) (kb ka : SinkSeen) (f : Finish) → IsFinish c sb sa kb ka f → f.status ≢ 7
finished_another c sb sa kb ka f d = met_another kb ka f (due_of c d.reading) (due_another c d.reading) d.met

-- ---- the split by the status

pub given_up_of : {K : Type 0} (before after : K) (c : Option Command) (sb sa : SourceSeen) (kb ka : SinkSeen) (f : Finish)
    → IsGivenUp before after f ⊎ IsFinish c sb sa kb ka f → f.status ≡ 7 → IsGivenUp before after f
given_up_of before after c sb sa kb ka f (inl given_up) is = given_up
given_up_of before after c sb sa kb ka f (inr finished) is = absurd (finished_another c sb sa kb ka f finished is)

pub finished_of : {K : Type 0} (before after : K) (c : Option Command) (sb sa : SourceSeen) (kb ka : SinkSeen) (f : Finish)
    → IsGivenUp before after f ⊎ IsFinish c sb sa kb ka f → f.status ≢ 7 → IsFinish c sb sa kb ka f
finished_of before after c sb sa kb ka f (inl given_up) another = absurd (another given_up.status)
finished_of before after c sb sa kb ka f (inr finished) another = finished

either_by : (c : Option Command) (sb sa : SourceSeen) (kb ka : SinkSeen) (f : Finish) (b : Bool) → nat_eq f.status 7 ≡ b
    → (f.status ≡ 7 → IsGivenUp kb ka f) → (f.status ≢ 7 → IsFinish c sb sa kb ka f) → IsGivenUp kb ka f ⊎ IsFinish c sb sa kb ka f
either_by c sb sa kb ka f true e given_up finished = inl (given_up (eqb-true f.status 7 e))
either_by c sb sa kb ka f false e given_up finished = inr (finished (eqb-false f.status 7 e))

pub either_of : (c : Option Command) (sb sa : SourceSeen) (kb ka : SinkSeen) (f : Finish)
    → (f.status ≡ 7 → IsGivenUp kb ka f) → (f.status ≢ 7 → IsFinish c sb sa kb ka f) → IsGivenUp kb ka f ⊎ IsFinish c sb sa kb ka f
either_of c sb sa kb ka f = either_by c sb sa kb ka f (nat_eq f.status 7) refl
