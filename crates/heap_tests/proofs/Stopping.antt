-- What whole calls of the safepoint's parts ask and leave.
use Rattle.std.proofs.Common.{◌≡◌, ℕ, ◌==◌, ◌&&◌, cond, Bool, true, false, refl}
use Rattle.core_world.specs.declared.stage.Stage.TheVariants.{Settled}
use Rattle.core_world.specs.Trees.Calls.{end}
use Rattle.core_world.specs.Trees.Plans.{CallContext}
use Rattle.core_world.specs.Trees.SafepointSteps.{reached_word, release_plan, release_safepoint}
use Rattle.core_world.specs.Trees.StepTree.{StepTree, done, unreachable, step, ◌>>=◌}

-- nothing is left after a release
pub release_ends : (e : CallContext) (t : ℕ) → release_safepoint e t ≡ (release_safepoint e t >>= end)
release_ends e t = λ i. step (release_plan (record e { check = false }) Settled t) (λ n. same (n == reached_word t) i)
  where
    same : (b : Bool) → cond {A = StepTree (Unit {0})} b (done (tt {0})) unreachable ≡ (cond {A = StepTree (Unit {0})} b (done (tt {0})) unreachable >>= end)
    same true = refl
    same false = refl

-- what a call that leaves nothing unfinished asks of the thread
pub free_too : (r u c : Bool) → r ≡ true → (u && c) ≡ true → (r && u && c) ≡ true
free_too true u c e f = f
free_too false u c e f = absurd (cc e)
