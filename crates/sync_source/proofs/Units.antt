-- One unit of what is left is one instruction of the code.
use Rattle.std.proofs.Common.{◌≡◌, ℕ, zero, suc, ◌+◌, ◌-◌, Bool, true, false, if◌then◌else◌, List, refl, sym, ap, subst, arith}
use Rattle.std.specs.Prelude.{int_lt}
use Rattle.plain_monitor.specs.declared.entry.Value.{Value}
use Rattle.plain_monitor.specs.declared.entry.Value.TheVariants.{Int}
use Rattle.plain_monitor.specs.Objects.{same_value}
use Rattle.object_program.specs.declared.program.ClassDef.{ClassDef}
use Rattle.object_program.specs.declared.program.ObjectDef.{ObjectDef}
use Rattle.object_program.specs.declared.program.ThreadDef.{ThreadDef}
use Rattle.object_program.specs.declared.program.Code.{Code}
use Rattle.object_program.specs.declared.program.Code.TheVariants as instr
use Rattle.object_program.specs.Program.{ProgramText, most_in}
use Rattle.plain_machine.specs.declared.monitor_call.Mode.TheVariants.{Calling, Unwinding}
use Rattle.plain_machine.specs.Thread.{ThreadState, Step, Goes, Calls, Stops, step_of, local, jumps_where, jumps_below}
use Rattle.plain_machine.specs.Running.{instruction_at, after_step, run_on}
use Rattle.sync_source.specs.Source.{Nothing, Plain, Sync, If, While}
use Rattle.sync_source.specs.SyncThread.{Left, Over, Runs, Exits, Pays, SyncStep, GoesOn, StandsBefore, StopsBy, unplaced}
use Rattle.sync_source.specs.SyncThread.{then_left, chooses, chooses_below, chooses_by, sync_step, after_sync_step, sync_run}
use Rattle.sync_source.specs.Compiled.{size, test_code}
use Rattle.sync_source.specs.inner.Alike.{StandsInCode, AreAlike, erased}
use Rattle.sync_source.proofs.Placed.{has_first, has_after}
use Rattle.sync_source.proofs.Steps.{IsAt, StepsAlike, enter_alike, exit_alike, plain_alike}

abbrev pub StepAlike : List Code → ThreadState → SyncStep → Step → Type 0
StepAlike code s (GoesOn left t) (Goes next) = (t ≡ erased next) × StandsInCode code next.place left
StepAlike code s (StandsBefore c left) (Calls d) = (c ≡ d) × StandsInCode code (s.place + 1) left
StepAlike code s (StopsBy e) (Stops f) = (e ≡ unplaced f) × IsAt s.place f
StepAlike code s u a = ⊥

module _ (code : List Code) where
  -- an instruction, and then what is left
  from_steps : (s : ThreadState) (left : Left) (a b : Step) → StepsAlike s a b → StandsInCode code (s.place + 1) left → StepAlike code s (then_left left b) a
  from_steps s left (Goes n) (Goes m) h k = (h.0, subst (λ (i : ℕ). StandsInCode code i left) (sym h.1) k)
  from_steps s left (Goes n) (Calls d) h k = absurd h
  from_steps s left (Goes n) (Stops f) h k = absurd h
  from_steps s left (Calls c) (Goes m) h k = absurd h
  from_steps s left (Calls c) (Calls d) h k = (sym h, k)
  from_steps s left (Calls c) (Stops f) h k = absurd h
  from_steps s left (Stops e) (Goes m) h k = absurd h
  from_steps s left (Stops e) (Calls d) h k = absurd h
  from_steps s left (Stops e) (Stops f) h k = (sym h.0, h.1)

  jumped : (to : ℕ) (left : Left) → StandsInCode code to left → StandsInCode code (to + 1 - 1) left
  jumped to left h = let e : to ≡ to + 1 - 1 = omega arith in subst (λ (i : ℕ). StandsInCode code i left) e h

  choose_alike : (s : ThreadState) (holds : Bool) (to : ℕ) (held missed : Left) → StandsInCode code to held
      → StandsInCode code (s.place + 1) missed → StepAlike code s (chooses holds (erased s) held missed) (jumps_where holds s (to + 1))
  choose_alike s true to held missed h k = (refl, jumped to held h)
  choose_alike s false to held missed h k = (refl, k)

  below_alike : (s : ThreadState) (v w : Value) (to : ℕ) (held missed : Left) → StandsInCode code to held
      → StandsInCode code (s.place + 1) missed → StepAlike code s (chooses_below (erased s) v w held missed) (jumps_below s v w (to + 1))
  below_alike s (Int y) (Int z) to held missed h k = choose_alike s (int_lt y z) to held missed h k
  below_alike s v w to held missed h k = (refl, refl)

  tests_alike : (p : ProgramText) (s : ThreadState) (equal : Bool) (x y to : ℕ) (held missed : Left) → StandsInCode code to held
      → StandsInCode code (s.place + 1) missed → StepAlike code s (chooses_by equal (erased s) (local s x) (local s y) held missed)
      (step_of p s (if equal then instr.Jeq x y (to + 1) else instr.Jlt x y (to + 1)))
  tests_alike p s true x y to held missed h k = choose_alike s (same_value (local s x) (local s y)) to held missed h k
  tests_alike p s false x y to held missed h k = below_alike s (local s x) (local s y) to held missed h k

  module _ (classes : List ClassDef) (objects : List ObjectDef) (ts us : List ThreadDef) (same : most_in classes ts ≡ most_in classes us) where
    abbrev p : ProgramText
    p = record { classes = classes; objects = objects; threads = ts }

    abbrev q : ProgramText
    q = record { classes = classes; objects = objects; threads = us }

    -- what holds of an instruction holds of the one that stands there
    there : (s : ThreadState) (u : SyncStep) (c : Code) → instruction_at code s.place ≡ c
        → StepAlike code s u (step_of p s c) → StepAlike code s u (step_of p s (instruction_at code s.place))
    there s u c e h = subst (λ (d : Code). StepAlike code s u (step_of p s d)) (sym e) h

    pub step_alike : (left : Left) (s : ThreadState) → StandsInCode code s.place left
        → StepAlike code s (sync_step q (erased s) left) (step_of p s (instruction_at code s.place))
    step_alike Over s h = there s (sync_step q (erased s) Over) instr.End h (refl, tt)
    step_alike (Runs Nothing left) s h =
        let e : s.place + 0 ≡ s.place = omega arith in
        step_alike left s (subst (λ (i : ℕ). StandsInCode code i left) e h.2)
    step_alike (Runs (Plain c r) left) s h =
        let at = s.place in
        let e : at + (1 + size r) ≡ at + 1 + size r = omega arith in
        there s _ c h.1.0 (from_steps s (Runs r left) _ _ (plain_alike s classes objects ts us same c h.0.0)
        (h.0.1, h.1.1, subst (λ (i : ℕ). StandsInCode code i left) e h.2))
    step_alike (Runs (Sync x b r) left) s h =
        let at = s.place + 1 in
        let to = at + size b in
        let e : s.place + (2 + size b + size r) ≡ s.place + 1 + size b + 1 + size r = omega arith in
        let exit = has_after code at b _ h.1.1 in
        there s _ (instr.Enter x) h.1.0 (from_steps s (Runs b (Exits x (Runs r left))) _ _ (enter_alike s p q x)
        (h.0.0, has_first code at _ _ h.1.1, (exit.0, (h.0.1, exit.1, subst (λ (i : ℕ). StandsInCode code i left) e h.2))))
    step_alike (Runs (If t b c r) left) s h =
        let at = s.place + 1 in
        let to = at + size c + 1 in
        let e : s.place + (2 + size c + size b + size r) ≡ s.place + 1 + size c + 1 + size b + size r = omega arith in
        let jump = has_after code at c _ h.1.1 in
        let rest : StandsInCode code (to + size b) (Runs r left) = (h.0.2, has_after code to b _ jump.1, subst (λ (i : ℕ). StandsInCode code i left) e h.2) in
        let held : StandsInCode code to (Runs b (Runs r left)) = (h.0.0, has_first code to _ _ jump.1, rest) in
        let missed : StandsInCode code at (Runs c (Pays (Runs r left))) = (h.0.1, has_first code at _ _ h.1.1, (to + size b, jump.0, rest)) in
        there s _ (test_code t to) h.1.0 (tests_alike p s t.equal t.x t.y to _ _ held missed)
    step_alike (Runs (While t b r) left) s h =
        let at = s.place in
        let to = at + 1 + 1 in
        let past = to + size b + 1 in
        let e : at + (3 + size b + size r) ≡ at + 1 + 1 + size b + 1 + size r = omega arith in
        let back = has_after code to b _ h.1.1.1 in
        let rest : StandsInCode code past (Runs r left) = (h.0.1, back.1, subst (λ (i : ℕ). StandsInCode code i left) e h.2) in
        let held : StandsInCode code to (Runs b (Pays (Runs (While t b r) left))) = (h.0.0, has_first code to _ _ h.1.1.1, (at, back.0, h)) in
        let missed : StandsInCode code (at + 1) (Pays (Runs r left)) = (past, h.1.1.0, rest) in
        there s _ (test_code t to) h.1.0 (tests_alike p s t.equal t.x t.y to _ _ held missed)
    step_alike (Exits x left) s h =
        there s _ (instr.Exit x) h.0 (from_steps s left _ _ (exit_alike s p q x) h.1)
    step_alike (Pays left) s h = there s (GoesOn left (erased s)) (instr.Jump (h.0 + 1)) h.1 (refl, jumped h.0 left h.2)

    after_alike : (n : ℕ) (s : ThreadState) (u : SyncStep) (a : Step) → StepAlike code s u a → ((left : Left) (next : ThreadState)
        → StandsInCode code next.place left → AreAlike code (sync_run q n left (erased next)) (run_on p code n next))
        → AreAlike code (after_sync_step (erased s) n u (λ left t. sync_run q n left t)) (after_step s n a (λ next. run_on p code n next))
    after_alike n s (GoesOn left t) (Goes next) h go =
        subst (λ (x : ThreadState). AreAlike code (sync_run q n left x) (run_on p code n next)) (sym h.0) (go left next h.1)
    after_alike n s (GoesOn left t) (Calls d) h go = absurd h
    after_alike n s (GoesOn left t) (Stops f) h go = absurd h
    after_alike n s (StandsBefore c left) (Goes next) h go = absurd h
    after_alike n s (StandsBefore c left) (Calls d) h go =
        record { same = ap (λ x. record (erased s) { fuel = n + 1; mode = Calling x }) h.0; stands = h.1 }
    after_alike n s (StandsBefore c left) (Stops f) h go = absurd h
    after_alike n s (StopsBy e) (Goes next) h go = absurd h
    after_alike n s (StopsBy e) (Calls d) h go = absurd h
    after_alike n s (StopsBy e) (Stops f) h go =
        record { same = ap (λ x. record (erased s) { fuel = n; mode = Unwinding x }) h.0; stands = tt }

    -- with any fuel, both run on to the same
    pub run_alike : (n : ℕ) (left : Left) (s : ThreadState) → StandsInCode code s.place left → AreAlike code (sync_run q n left (erased s)) (run_on p code n s)
    unfolding sync_run run_on
    run_alike zero left s h = record { same = refl; stands = tt }
    run_alike (suc n) left s h = after_alike n s _ _ (step_alike left s h) (λ l next k. run_alike n l next k)
