-- The two stores by which a thread makes an object, one after the other: afterwards the object is there, and the thread is making none.
use Rattle.std.proofs.Common.{◌≡◌, ℕ, ◌+◌, ◌<◌, eq-eqb, Bool, true, cond, List, Some, None, refl, sym, ap, subst, inr}
use Rattle.plain_monitor.specs.declared.entry.Entry.TheVariants.{New}
use Rattle.plain_monitor.specs.Objects.{PlainObject}
use Rattle.core_world.specs.declared.word_id.WordId.TheVariants.{Class}
use Rattle.core_world.specs.Steps.{known_hit, seen_before, world_after}
use Rattle.core_world.specs.Threads.ThreadView.{ThreadView, last_seen}
use Rattle.core_world.specs.Threads.References.{numbering, making_in}
use Rattle.core_world.specs.Trees.CreateSteps.{class_plan, make_plan, creating}
use Rattle.core_world.specs.Valid.{Fits}
use Rattle.core_world.specs.World.{World}
use Rattle.core_world.proofs.KnowledgeParts.{with_known_here}
use Rattle.core_locks.specs.Knowing.{Logs}
use Rattle.core_law.specs.MadeLaw.{MadeLawHolds}
use Rattle.core_made.specs.Steps.{is_there_in}
use Rattle.core_made.specs.Making.{IsFirstMark, MayMake, StandsBeforeMark, MayStoreClass, IsNext}
use Rattle.core_made.proofs.ClassStored.{class_keeps_law}
use Rattle.core_made.proofs.MarkStored.{mark_keeps_law, there_now}

module _ (o c m : ℕ) (w : World) (P : List PlainObject) (t : ℕ) (within : t < w.shape.threads) (may : MayMake (w.known t) o c)
    (nothing : (w.known t).unfinished ≡ None) (next : IsNext (numbering w.shape) (w.known t).log t o c) (first : IsFirstMark w m) (v : Fits w P)
    (law : MadeLawHolds w) where
  -- THE FIRST STORE, by which the thread begins to make the object
  storing : MayStoreClass (w.known t) (creating o c)
  storing = record { runs = may.runs; calm = may.calm; goes_on = inr nothing }

  abbrev l : ThreadView
  l = known_hit w.shape w.start (class_plan (creating o c) o c) (w.words (Class o)) (w.known t)

  abbrev x : World
  x = world_after (class_plan (creating o c) o c) t w

  stored : Fits x P × MadeLawHolds x
  stored = class_keeps_law (creating o c) o c w P t within storing (ap making_in nothing) refl next v law

  -- THE SECOND. The thread may make the object still, and has seen the class word that it stored.
  stands : StandsBeforeMark (x.known t) o c
  stands =
      subst (λ (k : ThreadView). StandsBeforeMark k o c) (sym (with_known_here t l w.known))
      (record {
        may = record { runs = may.runs; calm = refl; ready = may.ready; room = may.room; own = record { operation = inr refl; shot = tt } };
        making = refl;
        saw = ap (λ (b : Bool). cond b (Some (c + 1)) (last_seen (Class o) (seen_before w.shape (w.known t)))) (eq-eqb o o refl);
      })

  abbrev y : World
  y = world_after (make_plan (creating o c) o c m) t x

  made : Logs x P t (make_plan (creating o c) o c m) (New o c) × MadeLawHolds y
  made = mark_keeps_law (creating o c) o c m x P t within stands first stored.0 stored.1

  pub both_stores : Fits x P × MadeLawHolds x × Logs x P t (make_plan (creating o c) o c m) (New o c) × MadeLawHolds y × (is_there_in y o ≡ true)
  both_stores = (stored.0, stored.1, made.0, made.1, there_now (creating o c) o c m x P t within stands first stored.0 stored.1)
