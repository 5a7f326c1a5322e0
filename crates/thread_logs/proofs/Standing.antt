-- What a thread's log tells of where it stands.
use Rattle.std.proofs.Common.{◌≡◌, ℕ, zero, suc, ◌+◌, ◌-◌, ◌<◌, ◌==◌, ◌||◌, not, Bool, true, false, if◌then◌else◌}
use Rattle.std.proofs.Common.{List, [], ◌∷◌, length, replicate, slice_index, Some, refl, sym, ap, ◌∙◌, arith}
use Rattle.std.proofs.lemmas.List.{length-replicate}
use Rattle.std.proofs.lemmas.Option.{same_Some}
use Rattle.plain_monitor.specs.declared.entry.Entry.{Entry}
use Rattle.plain_monitor.specs.declared.entry.Entry.TheVariants.{Enter, Exit, Dump}
use Rattle.plain_monitor.specs.declared.entry.Logged.{Logged}
use Rattle.plain_history.specs.HeldByLog.{held_after, held_by, nothing_held}
use Rattle.plain_history.specs.Joined.{run_log}
use Rattle.plain_history.proofs.Joined.{first_some}
use Rattle.wait_history.specs.WaitsByLog.{waits_by}
use Rattle.object_program.specs.declared.program.Code.{Code}
use Rattle.object_program.specs.Program.{ProgramText, objects_total}
use Rattle.plain_machine.specs.Thread.{ThreadState, holds_of}
use Rattle.plain_machine.specs.Asking.{thread_after}
use Rattle.plain_machine.specs.Machine.{code_of, is_live}
use Rattle.plain_machine.specs.Ready.{waits_on}
use Rattle.thread_logs.specs.Followed.{FollowsCode, ends_by, dumps_with, dumps_by}
use Rattle.thread_logs.proofs.Running.{DumpsNext, HasBegun, begun}
use Rattle.thread_logs.proofs.Told.{lived, told}

-- holds of one object follow from those before
same_held : (e : Entry) (f g : ℕ → ℕ) (o : ℕ) → f o ≡ g o → held_after e f o ≡ held_after e g o
same_held (Enter object path) f g o h = ap (λ (n : ℕ). n + (if object == o then 1 else 0)) h
same_held (Exit object) f g o h = ap (λ (n : ℕ). n - (if object == o then 1 else 0)) h
same_held e f g o h = h

dumps_sum : (e : Entry) (m n : ℕ) → dumps_with e m + n ≡ m + dumps_with e n
dumps_sum (Dump number) m n = omega arith
dumps_sum e m n = refl

or_false : (b : Bool) → b ≡ (b || false)
or_false true = refl
or_false false = refl

none_at : (n o : ℕ) → slice_index (replicate n 0) o ≡ 0
none_at zero o = refl
none_at (suc n) zero = refl
none_at (suc n) (suc o) = none_at n o

-- the thread after a log, by the one before it, with object o and a count of holds for each
record IsAfter (s final : ThreadState) (log : List Logged) (held : ℕ → ℕ) (o : ℕ) : Type 0 where
  holds : o < length s.holds → holds_of s o ≡ held o → holds_of final o ≡ held_by held log o
  waits : waits_on final.mode o ≡ waits_by (waits_on s.mode o) log o
  ends : not (is_live final) ≡ (not (is_live s) || ends_by log)
  dumps : final.dumps ≡ s.dumps + dumps_by log

after : (p : ProgramText) (cs : List Code) (log : List Logged) (s final : ThreadState) (held : ℕ → ℕ) (o : ℕ)
    → DumpsNext s.dumps s.mode → run_log (thread_after p cs) s log ≡ Some final
    → IsAfter s final log held o
after p cs [] s final held o dump h =
    let same = same_Some s final h in
    record {
      holds = λ l e. ap (λ (x : ThreadState). holds_of x o) (sym same) ∙ e;
      waits = ap (λ (x : ThreadState). waits_on x.mode o) (sym same);
      ends = ap (λ (x : ThreadState). not (is_live x)) (sym same) ∙ or_false (not (is_live s));
      dumps = ap (λ (x : ThreadState). x.dumps) (sym same) ∙ omega arith;
    }
after p cs (l ∷ log) s final held o dump h =
    let a = first_some (λ next. run_log (thread_after p cs) next log) (thread_after p cs s l.entry) final h in
    let k = told p cs s a.0 l.entry dump a.1 in
    let lives = lived p cs s a.0 l.entry a.1 in
    let r = after p cs log a.0 final (held_after l.entry held) o k.next_dump a.2 in
    record {
      holds = λ n e. r.holds (omega (arith, n, k.count)) (k.holds o n ∙ same_held l.entry (holds_of s) held o e);
      waits = r.waits ∙ ap (λ w. waits_by w log o) (k.waits o);
      ends = r.ends ∙ ap (λ b. b || ends_by log) k.ends ∙ ap (λ b. not b || ends_by (l ∷ log)) (sym lives);
      dumps = r.dumps ∙ ap (λ (n : ℕ). n + dumps_by log) k.dumps ∙ dumps_sum l.entry s.dumps (dumps_by log);
    }

module _ (p : ProgramText) (fuel t o : ℕ) (log : List Logged) (s : ThreadState) (h : FollowsCode p fuel t log s) where
  first_run : HasBegun p h.first
  first_run = begun p fuel t h.first h.there

  stands : IsAfter h.first s log nothing_held o
  stands = after p (code_of p t) log h.first s nothing_held o first_run.next h.leads

  pub holds_told : o < objects_total p → holds_of s o ≡ held_by nothing_held log o
  holds_told l =
      let total = objects_total p in
      let count : length h.first.holds ≡ total = ap length first_run.holds_stay ∙ length-replicate total 0 in
      let none = ap (λ (xs : List ℕ). slice_index xs o) first_run.holds_stay ∙ none_at total o in
      stands.holds (omega (arith, count, l)) none

  pub waits_told : waits_on s.mode o ≡ waits_by false log o
  waits_told = stands.waits ∙ ap (λ w. waits_by w log o) (first_run.awake o)

  pub ends_told : not (is_live s) ≡ ends_by log
  ends_told = stands.ends ∙ ap (λ b. not b || ends_by log) first_run.lives

  pub dumps_told : s.dumps ≡ dumps_by log
  dumps_told = omega (arith, stands.dumps, first_run.dumps_stay)
