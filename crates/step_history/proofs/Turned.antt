-- A list of turns, each of which has a step, leads from a world on to another one.
use Rattle.std.proofs.Common.{◌≡◌, ℕ, ◌<◌, ◌&&◌, nat_lt, cond, Bool, true, false, List, [], ◌∷◌, Option, Some, None, is_some, refl, sym, ap, ◌∙◌, subst, arith}
use Rattle.std.proofs.lemmas.Bool.Decides.{nat_tests}
use Rattle.core_world.specs.declared.plan.StepPlan.{StepPlan}
use Rattle.core_world.specs.declared.heap_call.HeapCall.{HeapCall}
use Rattle.core_world.specs.Due.{IsNext, steps_due}
use Rattle.core_world.specs.Steps.{is_idle, rest_of_call, world_after}
use Rattle.core_world.specs.Threads.ThreadView.{ThreadView, StepMade, start_of}
use Rattle.core_world.specs.Threads.Stages.{is_calm}
use Rattle.core_world.specs.Trees.Calls.{steps_of, may_begin}
use Rattle.core_world.specs.Trees.StepTree.{StepTree, done, unreachable, step, head}
use Rattle.core_world.specs.World.{World}
use Rattle.core_calls.specs.Paths.{made}
use Rattle.core_calls.proofs.Named.{Named}
use Rattle.core_calls.proofs.NamedCalls.{call_named}
use Rattle.core_law.specs.Logic.{Heap}
use Rattle.core_law.specs.Reached.{IsReachable}
use Rattle.step_history.specs.Leads.{Leads, stays, goes}
use Rattle.step_history.specs.Turns.{next_of, after_turn, after_turns, all_step}
use Rattle.step_history.proofs.Listed.{listed_reached}

-- the first step of a call is of its task
first_named : (t : HeapCall) (d : StepTree (Unit {0})) (p : StepPlan) → Named t d → head d ≡ Some p → p.task ≡ t
first_named t (done a) p named h = absurd (cc h)
first_named t unreachable p named h = absurd (cc h)
first_named t (step q f) p named h = let same : q ≡ p = cc h in sym (ap (λ (r : StepPlan). r.task) same) ∙ named.by.0.call

-- the step of a turn is the thread's next one
pub next_is : (w : World) (t : ℕ) (task : HeapCall) (p : StepPlan) → next_of w t task ≡ Some p → IsNext w.shape w.start w.biasing (w.known t) p
unfolding steps_due
next_is w t task p h = by_idle (is_idle w.shape k) h
  where
    k : ThreadView
    k = w.known t

    due : Bool → HeapCall → StepTree (Unit {0})
    due over x =
        cond over (cond (is_calm k.stage && may_begin w.shape w.biasing k x) (steps_of w.shape x (start_of w.start k)) unreachable) (rest_of_call w.shape k)

    by_may : (b : Bool) → head (cond b (steps_of w.shape task (start_of w.start k)) unreachable) ≡ Some p → p.task ≡ task
    by_may true g = first_named task (steps_of w.shape task (start_of w.start k)) p (call_named w.shape task (start_of w.start k)) g
    by_may false g = absurd (cc g)

    by_idle : (over : Bool) → head (due over task) ≡ Some p → head (due over p.task) ≡ Some p
    by_idle true g = subst (λ x. head (due true x) ≡ Some p) (sym (by_may (is_calm k.stage && may_begin w.shape w.biasing k task) g)) g
    by_idle false g = g

pub both : (a b c : Bool) → (a && b && c) ≡ true → (a ≡ true) × (b ≡ true) × (c ≡ true)
both true true true h = (refl, refl, refl)
both true true false h = absurd (cc h)
both true false c h = absurd (cc h)
both false b c h = absurd (cc h)

lead_on : (w : World) (ys : List (ℕ × StepMade)) (v : World) (turns : List (ℕ × HeapCall)) → Leads w ys v → all_step turns v ≡ true
    → (xs : List (ℕ × StepMade)) × Leads w xs (after_turns turns v)
lead_on w ys v [] before h = (ys, before)
lead_on w ys v (x ∷ turns) before h =
    let a = both (nat_lt x.0 v.shape.threads) (is_some (next_of v x.0 x.1)) (all_step turns (after_turn (next_of v x.0 x.1) x.0 v)) h in
    by_step (next_of v x.0 x.1) refl a.1 a.2
    (λ p zs leads all. lead_on w zs (world_after p x.0 v) turns leads all) (grind (arith, nat_tests, a.0))
  where
    by_step : (q : Option StepPlan) → next_of v x.0 x.1 ≡ q → is_some q ≡ true → all_step turns (after_turn q x.0 v) ≡ true
        → ((p : StepPlan) (zs : List (ℕ × StepMade)) → Leads w zs (world_after p x.0 v) → all_step turns (world_after p x.0 v) ≡ true
        → (xs : List (ℕ × StepMade)) × Leads w xs (after_turns turns (world_after p x.0 v)))
        → x.0 < v.shape.threads → (xs : List (ℕ × StepMade)) × Leads w xs (after_turns turns (after_turn q x.0 v))
    by_step None is there all more within = absurd (cc there)
    by_step (Some p) is there all more within =
        more p ((x.0, made p (v.words p.at)) ∷ ys) (goes ys v x.0 p before within (next_is v x.0 x.1 p is)) all

pub turns_lead : (w : World) (turns : List (ℕ × HeapCall)) → all_step turns w ≡ true → (xs : List (ℕ × StepMade)) × Leads w xs (after_turns turns w)
turns_lead w turns h = lead_on w [] w turns stays h

pub turns_reach : (heap : Heap) (w : World) (turns : List (ℕ × HeapCall))
    → IsReachable heap w → all_step turns w ≡ true → IsReachable heap (after_turns turns w)
turns_reach heap w turns c h = let r = turns_lead w turns h in listed_reached heap w (after_turns turns w) r.0 c r.1
