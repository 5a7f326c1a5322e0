-- A world to which a heap comes is one to which a list of steps leads.
use Rattle.std.proofs.Common.{◌≡◌, ℕ, cond, Bool, true, false, List, [], ◌∷◌, ◌++◌, refl, sym, ap, ◌∙◌, eq-eqb, ne_eqb}
use Rattle.core_world.specs.declared.plan.StepPlan.{StepPlan}
use Rattle.core_world.specs.Opening.{opening}
use Rattle.core_world.specs.Steps.{known_after, known_hit, known_miss, world_after}
use Rattle.core_world.specs.Threads.ThreadView.{ThreadView, StepMade}
use Rattle.core_world.specs.Words.Acts.{hits}
use Rattle.core_world.specs.Words.Shape.{Shape}
use Rattle.core_world.specs.World.{World}
use Rattle.core_world.proofs.KnowledgeParts.{by_equal, with_known_here, with_known_else}
use Rattle.core_calls.specs.Paths.{made}
use Rattle.core_law.specs.Logic.{Heap}
use Rattle.core_law.specs.Reached.{IsReachable, opens, moves}
use Rattle.step_history.specs.Leads.{Leads, stays, goes, steps_by}

pub reached_listed : (heap : Heap) (v : World) → IsReachable heap v → (xs : List (ℕ × StepMade)) × Leads (opening heap.shape heap.start heap.biasing) xs v
reached_listed heap w opens = ([], stays)
reached_listed heap w (moves v t p before within next) =
    let r = reached_listed heap v before in
    ((t, made p (v.words p.at)) ∷ r.0, goes r.0 v t p r.1 within next)

pub listed_reached : (heap : Heap) (w v : World) (xs : List (ℕ × StepMade)) → IsReachable heap w → Leads w xs v → IsReachable heap v
listed_reached heap w v xs c stays = c
listed_reached heap w v xs c (goes ys x t p before within next) = moves x t p (listed_reached heap w x ys c before) within next

-- a step is added to its thread's own
pub step_added : (s : Shape) (start : ℕ) (p : StepPlan) (n : ℕ) (k : ThreadView) (b : Bool)
    → (cond b (known_hit s start p n k) (known_miss s start p n k)).steps ≡ made p n ∷ k.steps
step_added s start p n k true = refl
step_added s start p n k false = refl

pub own_steps : (w v : World) (xs : List (ℕ × StepMade)) (t : ℕ) → Leads w xs v → (v.known t).steps ≡ steps_by t xs ++ (w.known t).steps
own_steps w v xs t stays = refl
own_steps w v xs t (goes ys x u p before within next) =
    let was = own_steps w x ys t before in
    let m : StepMade = made p (x.words p.at) in
    let k : ThreadView = known_after x.shape x.start p (x.words p.at) (x.known u) in
    by_equal t u
    (λ e.
    ap (λ (l : ThreadView). l.steps) (ap (λ i. (world_after p u x).known i) e ∙ with_known_here u k x.known)
    ∙ step_added x.shape x.start p (x.words p.at) (x.known u) (hits p.act (x.words p.at))
    ∙ ap (λ (ms : List StepMade). m ∷ ms) (ap (λ i. (x.known i).steps) (sym e) ∙ was)
    ∙ ap (λ (b : Bool). cond b (m ∷ steps_by t ys) (steps_by t ys) ++ (w.known t).steps) (sym (eq-eqb u t (sym e))))
    (λ d.
    ap (λ (l : ThreadView). l.steps) (with_known_else u k x.known t d)
    ∙ was
    ∙ ap (λ (b : Bool). cond b (m ∷ steps_by t ys) (steps_by t ys) ++ (w.known t).steps) (sym (ne_eqb u t (λ e. d (sym e)))))
