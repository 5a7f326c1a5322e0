-- A thread's log, entry by entry.
use Rattle.std.proofs.Common.{◌≡◌, ℕ, zero, suc, ◌+◌, ◌*◌, ◌≤◌, List, [], ◌∷◌, ◌++◌, length, slice_get, take, Option, Some, refl, subst, arith}
use Rattle.std.proofs.lemmas.Option.{same_Some}
use Rattle.plain_monitor.specs.declared.entry.Entry.{Entry}
use Rattle.plain_monitor.specs.declared.entry.Logged.{Logged}
use Rattle.plain_history.specs.Joined.{run_log}
use Rattle.plain_history.proofs.Joined.{first_some}
use Rattle.object_program.specs.Program.{ProgramText}
use Rattle.object_program.specs.Valid.{IsProgram}
use Rattle.plain_machine.specs.Thread.{ThreadState}
use Rattle.plain_machine.specs.Asking.{thread_after}
use Rattle.plain_machine.specs.Machine.{code_of, new_machine}
use Rattle.machine_laws.specs.ReachedThread.{IsThreadOf}
use Rattle.machine_laws.specs.Work.{work_of}
use Rattle.thread_logs.specs.Followed.{FollowsCode, HasFollowed, HaveValues}
use Rattle.thread_logs.proofs.Onward.{onward, is_first}

module _ {S : Type 0} (step : S → Entry → Option S) where
  -- after one entry more
  run_more : (log : List Logged) (l : Logged) (s m n : S) → run_log step s log ≡ Some m → step m l.entry ≡ Some n
      → run_log step s (log ++ l ∷ []) ≡ Some n
  run_more [] l s m n h takes = let same = same_Some s m h in rw (same, takes) refl
  run_more (x ∷ log) l s m n h takes =
      let a = first_some (λ next. run_log step next log) (step s x.entry) m h in
      rw a.1 (run_more log l a.0 m n a.2 takes)

  -- the state after a front
  record HasRunTo (s : S) (log : List Logged) : Type 0 where
    state : S
    is : run_log step s log ≡ Some state

  one_before : (x : Logged) (log : List Logged) (s next : S) → step s x.entry ≡ Some next → HasRunTo next log
      → HasRunTo s (x ∷ log)
  one_before x log s next takes r = record { state = r.state; is = rw takes r.is }

  run_front : (n : ℕ) (log : List Logged) (s final : S) → run_log step s log ≡ Some final → HasRunTo s (take n log)
  run_front zero log s final h = record { state = s; is = refl }
  run_front (suc n) [] s final h = record { state = s; is = refl }
  run_front (suc n) (x ∷ log) s final h =
      let a = first_some (λ next. run_log step next log) (step s x.entry) final h in
      one_before x (take n log) s a.0 a.1 (run_front n log a.0 final a.2)

-- before the first entry
pub first_follows : (p : ProgramText) (fuel t : ℕ) (s : ThreadState)
    → slice_get (new_machine p fuel).threads t ≡ Some s → FollowsCode p fuel t [] s
first_follows p fuel t s at = record { first = s; there = at; leads = refl }

pub next_follows : (p : ProgramText) (fuel t : ℕ) (log : List Logged) (l : Logged) (s after : ThreadState)
    → FollowsCode p fuel t log s
    → thread_after p (code_of p t) s l.entry ≡ Some after → FollowsCode p fuel t (log ++ l ∷ []) after
next_follows p fuel t log l s after h takes =
    let more = run_more (thread_after p (code_of p t)) log l h.first s after h.leads takes in
    record { first = h.first; there = h.there; leads = more }

pub front_follows : (p : ProgramText) (fuel t n : ℕ) (log : List Logged) → HasFollowed p fuel t log
    → HasFollowed p fuel t (take n log)
front_follows p fuel t n log h =
    let r = run_front (thread_after p (code_of p t)) n log h.follows.first h.now h.follows.leads in
    record { now = r.state; follows = record { first = h.follows.first; there = h.follows.there; leads = r.is } }

-- a thread after a log is one of the program, and each entry used up work
record IsSpent (p : ProgramText) (s final : ThreadState) (log : List Logged) : Type 0 where
  thread : IsThreadOf p final
  work : length log + work_of final ≤ work_of s

spent : (p : ProgramText) (t : ℕ) (log : List Logged) (s final : ThreadState) → IsProgram p → IsThreadOf p s
    → HaveValues p log → run_log (thread_after p (code_of p t)) s log ≡ Some final
    → IsSpent p s final log
spent p t [] s final valid thread values h =
    subst (λ x. IsSpent p s x []) (same_Some s final h) (record { thread = thread; work = omega arith })
spent p t (l ∷ log) s final valid thread values h =
    let step = thread_after p (code_of p t) in
    let a = first_some (λ next. run_log step next log) (step s l.entry) final h in
    let k = onward p t valid s a.0 l.entry thread values.0 a.1 in
    let r = spent p t log a.0 final valid k.thread values.1 a.2 in
    record { thread = r.thread; work = omega (arith, r.work, k.work) }

module _ (p : ProgramText) (fuel t : ℕ) (log : List Logged) (s : ThreadState) (valid : IsProgram p) where
  after_log : HaveValues p log → (h : FollowsCode p fuel t log s) → IsSpent p h.first s log
  after_log values h = spent p t log h.first s valid (is_first p fuel t h.first valid h.there).thread values h.leads

  pub followed_thread : HaveValues p log → FollowsCode p fuel t log s → IsThreadOf p s
  followed_thread values h = (after_log values h).thread

  pub followed_work : HaveValues p log → FollowsCode p fuel t log s → length log + work_of s ≤ 2 * fuel + 1
  followed_work values h = omega (arith, (after_log values h).work, (is_first p fuel t h.first valid h.there).work)
