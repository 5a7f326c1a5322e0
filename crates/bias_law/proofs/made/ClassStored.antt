-- The law of biases after the store of the class word of an object that a thread makes.
use Rattle.std.proofs.Common.{◌≡◌, ◌≢◌, ℕ, ◌+◌, ◌-◌, nat_lt, ne_eqb, cond, Bool, List, refl, sym, ap, ◌∙◌}
use Rattle.plain_monitor.specs.Objects.{PlainObject}
use Rattle.plain_monitor.specs.Order.{order}
use Rattle.plain_history.specs.EnterPaths.{entries_on}
use Rattle.core_world.specs.declared.word_id.WordId.TheVariants.{Class, Prototype, Revocations}
use Rattle.core_world.specs.declared.stage.Stage.TheVariants.{Settled}
use Rattle.core_world.specs.Words.Names.{class_by}
use Rattle.core_world.specs.Words.Shape.{class_in_shape}
use Rattle.core_world.specs.Threads.Counts.{counts_of}
use Rattle.core_world.specs.Threads.ThreadView.{ThreadView}
use Rattle.core_world.specs.Threads.Stages.{path_into}
use Rattle.core_world.specs.Locks.{lock, marks}
use Rattle.core_world.specs.Steps.{known_hit, world_after}
use Rattle.core_world.specs.Trees.CreateSteps.{class_plan}
use Rattle.core_world.specs.Trees.Plans.{CallContext}
use Rattle.core_world.specs.Valid.{Fits}
use Rattle.core_world.specs.World.{World, with_word_and_known, logs}
use Rattle.core_world.proofs.KnowledgeParts.{by_equal, logs_stay}
use Rattle.core_locks.specs.Knowing.{GoesOn}
use Rattle.core_law.specs.BiasLaw.{BiasLawHolds, is_logged, summed}
use Rattle.bias_law.specs.Making.{IsUntouched}
use Rattle.bias_law.specs.Moves.{BiasesKept}
use Rattle.bias_law.proofs.Beside.{hit_keeps, same_unclassed}
use Rattle.bias_law.proofs.Leaning.{still_leans}
use Rattle.bias_law.proofs.made.NewObjects.{ChangesUnentered, unentered_changes}
use Rattle.bias_law.proofs.Owners.{unbiased_unowned}
use Rattle.bias_law.proofs.made.Untouched.{unleant, unentering_then}

module _ (e : CallContext) (o c : ℕ) (w : World) (P : List PlainObject) (t : ℕ) (calm : (w.known t).stage ≡ Settled) (goes : GoesOn (w.known t) e)
    (u : IsUntouched w o) (v : Fits w P) (law : BiasLawHolds w) where
  abbrev l : ThreadView
  l = known_hit w.shape w.start (class_plan e o c) (w.words (Class o)) (w.known t)

  abbrev x : World
  x = with_word_and_known (Class o) (c + 1) t l w

  class_else : (i : ℕ) → i ≢ o → class_by w.shape x.words i ≡ class_by w.shape w.words i
  class_else i d = ap (λ (b : Bool). cond (nat_lt i w.shape.declared) (class_in_shape w.shape i) (cond b (c + 1) (w.words (Class i)) - 1)) (ne_eqb i o d)

  kept : BiasesKept (marks w) (lock w) (marks x) (lock x)
  kept = record {
    pattern = λ i. refl;
    nobody = λ i. refl;
    owners = λ i. refl;
    leans = λ i s h. by_equal i o
        (λ is. absurd (unleant w P o u v law i s is h))
        (λ d. still_leans w x i refl (ap (λ k. w.words (Prototype k)) (class_else i d)) s h);
  }

  logs_now : logs x ≡ logs w
  logs_now = logs_stay 0 w.shape.threads t l w.known refl

  only_class : ChangesUnentered w.biasing o (is_logged w.shape (logs x)) (class_by w.shape w.words) (marks x) (lock x)
      (λ i. entries_on i (order (logs x))) (λ s. (x.known s).stage) (λ k. (summed w.shape.threads (λ s. counts_of (x.known s).counts) k).revoke)
      (is_logged w.shape (logs x)) (class_by w.shape x.words) (marks x) (lock x)
  only_class = record {
    objects = λ i d. refl;
    classes = class_else;
    marks = λ i d. refl;
    leans = λ i s d h. h;
    unentered = ap (λ ls. entries_on o (order ls)) logs_now ∙ u.unentered;
    unentering = unentering_then w P o u v law t l refl;
    unowned = unbiased_unowned (marks w o) u.unbiased;
    anonymous = λ b there r. absurd (let none = ap (λ ls. is_logged w.shape ls o) logs_now ∙ u.unlogged in cc (there, none));
  }

  pub class_stored : BiasLawHolds (world_after (class_plan e o c) t w)
  class_stored = hit_keeps w t (class_plan e o c) law (λ h.
      unentered_changes w.biasing w.shape.threads w.shape.classes o (is_logged w.shape (logs x)) (class_by w.shape w.words) (marks x) (lock x)
      (λ i. entries_on i (order (logs x))) (λ s. (x.known s).log) (λ s. (x.known s).stage) (λ s. (x.known s).unfinished)
      (λ k. x.words (Revocations k)) (λ s. counts_of (x.known s).counts) (is_logged w.shape (logs x)) (class_by w.shape x.words) (marks x) (lock x)
      only_class (λ s fits. fits)
      (same_unclassed w (Class o) (c + 1) t l law refl refl goes (λ k. refl) kept (λ i. ap (λ s. path_into s i) (sym calm))))
