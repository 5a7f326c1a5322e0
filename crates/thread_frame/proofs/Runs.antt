-- A run doesn't ask for the fuel and the mode that its thread has, and leaves the thread's holds as they are.
use Rattle.std.proofs.Common.{◌≡◌, ℕ, zero, suc}
use Rattle.std.proofs.Common.{List, refl, ap, sym, ◌∙◌}
use Rattle.object_program.specs.declared.program.Code.{Code}
use Rattle.object_program.specs.Program.{ProgramText}
use Rattle.plain_machine.specs.declared.monitor_call.Mode.{Mode}
use Rattle.plain_machine.specs.Running.{instruction_at, after_step, run_on}
use Rattle.plain_machine.specs.Thread.{ThreadState, Step, Goes, Calls, Stops, step_of}
use Rattle.plain_machine.proofs.Effects.{Effect, Over, apply, in_mode, by_effects}

-- the step of another thread that is at the same place: it has its own fuel, holds, dumps and mode
abbrev step_in : ThreadState → Step → Step
step_in r (Goes next) = Goes (record r { place = next.place; locals = next.locals })
step_in r (Calls c) = Calls c
step_in r (Stops e) = Stops e

applied_in : (s : ThreadState) (n : ℕ) (m : Mode) (x : Effect) → apply (in_mode n m s) x ≡ step_in (in_mode n m s) (apply s x)
applied_in s n m Over = refl
applied_in s n m _ = refl

-- the step of a thread with other fuel and in another mode
steps_in : (p : ProgramText) (s : ThreadState) (n : ℕ) (m : Mode) (c : Code)
    → step_of p (in_mode n m s) c ≡ step_in (in_mode n m s) (step_of p s c)
steps_in p s n m c = by_effects p s (λ a b. b ≡ step_in (in_mode n m s) a) s.place n m c (λ x from. applied_in s n m x)

-- a step changes the place and the locals alone
step_keeps : (p : ProgramText) (s : ThreadState) (c : Code) → step_of p s c ≡ step_in s (step_of p s c)
step_keeps p s c = steps_in p s s.fuel s.mode c

after_same : (s : ThreadState) (k n : ℕ) (m : Mode) (step : Step) (go : ThreadState → ThreadState)
    → step ≡ step_in s step
    → ((next : ThreadState) → go next ≡ go (in_mode n m next))
    → after_step s k step go ≡ after_step (in_mode n m s) k (step_in (in_mode n m s) step) go
after_same s k n m (Goes next) go e ih =
    let same : next ≡ record s { place = next.place; locals = next.locals } = cc (e) in
    ap go same ∙ ih (record s { place = next.place; locals = next.locals })
after_same s k n m (Calls c) go e ih = refl
after_same s k n m (Stops g) go e ih = refl

-- a thread with other fuel and in another mode runs to the same
pub run_same : (p : ProgramText) (c : List Code) (k n : ℕ) (m : Mode) (s : ThreadState)
    → run_on p c k s ≡ run_on p c k (in_mode n m s)
unfolding run_on
run_same p c zero n m s = refl
run_same p c (suc k) n m s =
    let i = instruction_at c s.place in
    let go = λ (next : ThreadState). run_on p c k next in
    after_same s k n m (step_of p s i) go (step_keeps p s i) (λ next. run_same p c k n m next)
    ∙ ap (λ step. after_step (in_mode n m s) k step go) (sym (steps_in p s n m i))

after_holds : (s : ThreadState) (k : ℕ) (step : Step) (go : ThreadState → ThreadState) → step ≡ step_in s step
    → ((next : ThreadState) → (go next).holds ≡ next.holds) → (after_step s k step go).holds ≡ s.holds
after_holds s k (Goes next) go e ih =
    let same : next ≡ record s { place = next.place; locals = next.locals } = cc (e) in
    ih next ∙ ap (λ (r : ThreadState). r.holds) same
after_holds s k (Calls c) go e ih = refl
after_holds s k (Stops g) go e ih = refl

-- and keeps its holds
pub run_holds : (p : ProgramText) (c : List Code) (k : ℕ) (s : ThreadState) → (run_on p c k s).holds ≡ s.holds
unfolding run_on
run_holds p c zero s = refl
run_holds p c (suc k) s =
    let i = instruction_at c s.place in
    after_holds s k (step_of p s i) (λ next. run_on p c k next) (step_keeps p s i) (λ next. run_holds p c k next)
