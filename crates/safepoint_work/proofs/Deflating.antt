-- The steps that give idle monitors back: they are of the call for which they are made, and leave what a call takes of its thread's knowledge at its
-- beginning; and the object word of a monitor is a number of 32 bits.
use Rattle.std.proofs.Common.{◌≡◌, ◌≢◌, ℕ, zero, suc, ◌<◌, ◌≤◌, ◌^◌, ◌==◌, if◌then◌else◌, Bool, true, false, List, length, refl, sym, subst, arith}
use Rattle.std.specs.List.{list_all}
use Rattle.std.proofs.lemmas.Bool.Decides.{nat_tests}
use Rattle.plain_monitor.specs.Limits.{most_in_all}
use Rattle.mark_word.specs.declared.owner.OwnerForm.TheVariants.{Free}
use Rattle.mark_word.specs.Owner.{owner_of}
use Rattle.core_world.specs.declared.word_id.WordId.TheVariants.{Waiting, Object}
use Rattle.core_world.specs.declared.stage.Stage.{Stage}
use Rattle.core_world.specs.Trees.DeflateSteps.{deflate_free, deflate_monitor, deflate_named, deflate_steps}
use Rattle.core_world.specs.Trees.DeflateSteps.{give_back_steps, is_untouched, look_at, names_monitor}
use Rattle.core_world.specs.Trees.Plans.{CallContext, load_plan}
use Rattle.core_world.specs.Trees.StepTree.{StepTree, done, ◌>>=◌, each_from, all_from}
use Rattle.core_world.specs.Words.Forms.{monitor_in}
use Rattle.core_world.specs.Words.Shape.{Shape, monitor_count}
use Rattle.core_law.specs.Logic.{Heap}
use Rattle.heap_table.specs.Seen.{HeapSeen, PassSeen, IsOf}
use Rattle.heap_table.specs.Stepping.{HasStepped}
use Rattle.heap_table.proofs.Aside.{AreAside, either_aside, then_aside, all_aside, each_aside}
use Rattle.heap_table.proofs.Loops.{binds}
use Rattle.safepoint_work.specs.inner.DeflateParts.{untouched_steps}
use Rattle.safepoint_work.proofs.After.{IsOfTask}
use Rattle.heap_table.proofs.Forms.{sound_forms, in_limits}

module _ (s : Shape) (e : CallContext) (stage : Stage) where
  abbrev looks : StepTree (List ℕ)
  looks = each_from 0 s.threads (λ t. look_at e stage (Waiting t))

  -- THE FIRST of the looks, if there is one, is of their call
  pub untouched_of : (o n : ℕ) → IsOfTask e.task
      (each_from 0 n (λ t. look_at e stage (Waiting t)) >>= (λ words. done (list_all (λ w. is_untouched o w) words)))
  untouched_of o zero = tt
  untouched_of o (suc n) = refl

  -- a free monitor is given back by the answer of all waiting words
  abbrev pub freed : ℕ → ℕ → Bool → StepTree (Unit {0})
  freed o m untouched = if untouched then give_back_steps s e stage o m else done tt

  pub free_as : (o m : ℕ) → deflate_free s e stage o m ≡ (untouched_steps s e stage o >>= freed o m)
  free_as o m = sym (binds looks (λ words. done (list_all (λ w. is_untouched o w) words)) (freed o m))

  -- WHAT THEY LEAVE
  gives_aside : (o m : ℕ) → AreAside (give_back_steps s e stage o m)
  gives_aside o m = (
    record { quiet = refl; words = refl; keeps = refl },
    λ header. (
      record { quiet = refl; words = refl; keeps = refl },
      λ end. (
        record { quiet = refl; words = refl; keeps = refl },
        λ _. (
          record { quiet = refl; words = refl; keeps = refl },
          λ _. (
            record { quiet = refl; words = refl; keeps = refl },
            λ _. (
              record { quiet = refl; words = refl; keeps = refl },
              λ _. (
                record { quiet = refl; words = refl; keeps = refl },
                λ _. (record { quiet = refl; words = refl; keeps = refl }, λ _. (record { quiet = refl; words = refl; keeps = refl }, λ _. tt)),
              ),
            ),
          ),
        ),
      ),
    ),
  )

  free_aside : (o m : ℕ) → AreAside (deflate_free s e stage o m)
  free_aside o m = then_aside looks _
      (each_aside 0 s.threads (λ t. look_at e stage (Waiting t)) (λ t. (record { quiet = refl; words = refl; keeps = refl }, λ n. tt)))
      (λ words. either_aside (list_all (λ w. is_untouched o w) words) (give_back_steps s e stage o m) (done tt) (gives_aside o m) tt)

  monitor_aside : (m : ℕ) → AreAside (deflate_monitor s e stage m)
  monitor_aside m = (
    record { quiet = refl; words = refl; keeps = refl },
    λ o. (
      record { quiet = refl; words = refl; keeps = refl },
      λ mark. either_aside (names_monitor (monitor_in mark) m) (deflate_named s e stage o m) (done tt) (
        record { quiet = refl; words = refl; keeps = refl },
        λ owner. either_aside (owner == owner_of Free) (deflate_free s e stage o m) (done tt) (free_aside o m) tt,
      ) tt,
    ),
  )

  pub deflate_aside : AreAside (deflate_steps s e stage)
  deflate_aside = either_aside (length s.objects == 0) (done tt) (all_from 0 (monitor_count s) (λ m. deflate_monitor s e stage m)) tt
      (all_aside 0 (monitor_count s) (λ m. deflate_monitor s e stage m) monitor_aside)

-- THE OBJECT WORD of a monitor, which is 0 or names an object
few_objects : (n many : ℕ) → (n ≢ 0 → n < many) → many ≤ most_in_all → n < 2 ^ 32
few_objects n many named few = cases (n == 0) refl
  where
    cases : (b : Bool) → (n == 0) ≡ b → n < 2 ^ 32
    cases true e = grind (arith, nat_tests, e)
    cases false e = let less = named (λ none. grind (arith, nat_tests, e, none)) in omega (arith, less, few)

pub object_low : (h : HeapSeen) (p q : PassSeen) (e : CallContext) (stage : Stage) (m n : ℕ)
    → IsOf h p → HasStepped h p q (load_plan e stage (Object m)) n → n < 2 ^ 32
object_low h p q e stage m n is_of s =
    let was = s.stepped in
    let objects = (sound_forms was.world was.sound).objects m in
    let there : n ≢ 0 → n < length h.heap.shape.objects =
    subst (λ (x : Heap). n ≢ 0 → n < length x.shape.objects) was.is_of (subst (λ (y : ℕ). y ≢ 0 → y < length was.world.shape.objects) was.was_there objects) in
    few_objects n (length h.heap.shape.objects) there (in_limits h p is_of).objects
