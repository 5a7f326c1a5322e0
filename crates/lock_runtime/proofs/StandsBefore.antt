-- How a thread stands as a call begins.
use Rattle.std.proofs.Common.{◌≡◌, ℕ, ◌==◌, ◌&&◌, ◌||◌, not, cond, Bool, true, false, Option, Some}
use Rattle.std.proofs.Common.{None, refl, sym, ap, ◌∙◌, true≢false, eqb-true}
use Rattle.std.proofs.lemmas.Bool.{not-true, false_from_ne_true}
use Rattle.core_world.specs.declared.heap_call.Operation.{Operation}
use Rattle.core_world.specs.declared.heap_call.Operation.TheVariants as op
use Rattle.core_world.specs.declared.heap_call.Unfinished.{Unfinished}
use Rattle.core_world.specs.Clauses.Safepoints.{ends}
use Rattle.core_world.specs.Threads.AtRest.{AtRest, MayAsk}
use Rattle.core_world.specs.Threads.ThreadView.{ThreadView}
use Rattle.core_world.specs.Trees.Calls.{may_operate, may_act}
use Rattle.core_world.specs.Trees.Operations.{same_op, goes_on_with}
use Rattle.core_world.specs.Words.Forms.{waits_on}
use Rattle.core_world.specs.Words.Shape.{Shape}
use Rattle.lock_runtime.proofs.Begins.{first_of, second_of}

-- THE CONDITIONS OF AN OPERATION
runs_unless : (running requesting going : Bool) → (running || (requesting && going)) ≡ true → (requesting ≡ true → running ≡ false)
    → not requesting ≡ running
runs_unless true true going e stopped = absurd (cc (stopped refl))
runs_unless true false going e stopped = refl
runs_unless false true going e stopped = refl
runs_unless false false going e stopped = absurd (cc e)

asks_going : (running requesting going : Bool) → (running || (requesting && going)) ≡ true → (requesting ≡ true → running ≡ false) → requesting ≡ true
    → going ≡ true
asks_going true true going e stopped asks = absurd (cc (stopped refl))
asks_going false true true e stopped asks = refl
asks_going false true false e stopped asks = absurd (cc e)
asks_going running false going e stopped asks = absurd (cc asks)

-- an exit asks for no safepoint, nor does a wait that has let go
exit_asks : (s : Shape) (k : ThreadView) (which : Operation) (on o : ℕ) → (same_op which op.Exit && (on == o)) ≡ true
    → MayAsk s k (Some (record { op = which; object = on })) → ⊥
exit_asks s k op.Exit on o e asks = asks
exit_asks s k _ on o e asks = absurd (cc e)

wait_asks : (s : Shape) (k : ThreadView) (which : Operation) (on o : ℕ) → (same_op which op.Wait && (on == o)) ≡ true → waits_on k.wait o ≡ true
    → MayAsk s k (Some (record { op = which; object = on })) → ⊥
wait_asks s k op.Wait on o e waits asks = true≢false (sym waits ∙ ap (waits_on k.wait) (sym (eqb-true on o e)) ∙ asks.0)
wait_asks s k _ on o e waits asks = absurd (cc e)

module _ (s : Shape) (k : ThreadView) (rest : AtRest s k) where
  -- a thread that runs asks for no safepoint
  pub unasked : k.running ≡ true → k.requesting ≡ false
  unasked runs = false_from_ne_true k.requesting (λ asks. true≢false (sym runs ∙ rest.stopped asks))

  module _ (going : Bool) (may : may_operate k going ≡ true) where
    -- the conditions on a check and on running come first
    both : (not k.checking && (k.running || (k.requesting && going))) ≡ true
    both = first_of _ _ (first_of _ _ (first_of _ _ may))

    either : (k.running || (k.requesting && going)) ≡ true
    either = second_of (not k.checking) _ both

    -- it runs, unless it asks
    pub stands_before : not k.requesting ≡ k.running
    stands_before = runs_unless k.running k.requesting going either rest.stopped

    asking : k.requesting ≡ true → (going ≡ true) × MayAsk s k k.unfinished
    asking asks = (
      asks_going k.running k.requesting going either rest.stopped asks,
      rest.asks asks (not-true k.checking (first_of (not k.checking) _ both)),
    )

  -- where the operation that goes on may not ask
  unasked_by : (which : Operation) (o : ℕ) → may_operate k (goes_on_with which o k.unfinished) ≡ true
      → ((u : Unfinished) → (same_op u.op which && (u.object == o)) ≡ true → MayAsk s k (Some u) → ⊥) → k.requesting ≡ false
  unasked_by which o may never =
      false_from_ne_true k.requesting (λ asks. let x = asking (goes_on_with which o k.unfinished) may asks in cases k.unfinished x.0 x.1)
    where
      cases : (u : Option Unfinished) → goes_on_with which o u ≡ true → MayAsk s k u → ⊥
      cases None e a = absurd (cc e)
      cases (Some u) e a = never u e a

  pub exit_unasked : (o : ℕ) → may_operate k (goes_on_with op.Exit o k.unfinished) ≡ true → k.requesting ≡ false
  exit_unasked o may = unasked_by op.Exit o may (λ u. exit_asks s k u.op u.object o)

  pub wait_unasked : (o : ℕ) → may_operate k (goes_on_with op.Wait o k.unfinished) ≡ true → waits_on k.wait o ≡ true → k.requesting ≡ false
  wait_unasked o may waits = unasked_by op.Wait o may (λ u e. wait_asks s k u.op u.object o e waits)

  pub act_unasked : may_act k ≡ true → k.requesting ≡ false
  act_unasked may = false_from_ne_true k.requesting (λ asks. absurd (cc ((asking false may asks).0)))

  -- what makes its entry at once begins while its thread runs
  pub act_runs : may_act k ≡ true → k.running ≡ true
  act_runs may = sym (stands_before false may) ∙ ap not (act_unasked may)

-- a check begins where its thread runs, or asks for it
check_stands : (ended requesting checking running : Bool) → (not ended && cond requesting checking running) ≡ true
    → (requesting ≡ true → running ≡ false) → not requesting ≡ running
check_stands true requesting checking running e stopped = absurd (cc e)
check_stands false true checking running e stopped = sym (stopped refl)
check_stands false false checking running e stopped = sym e

pub check_before : (s : Shape) (k : ThreadView) → AtRest s k → (not (ends k.log) && cond k.requesting k.checking k.running) ≡ true
    → not k.requesting ≡ k.running
check_before s k rest may = check_stands (ends k.log) k.requesting k.checking k.running may rest.stopped

-- a resume begins where it does neither
pub resume_before : (running requesting : Bool) → (not running && not requesting) ≡ true → (running ≡ false) × (requesting ≡ false)
resume_before true requesting e = absurd (cc e)
resume_before false true e = absurd (cc e)
resume_before false false e = (refl, refl)
