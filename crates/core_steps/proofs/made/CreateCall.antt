-- Create begins well: a thread makes its next object by two stores, of the class word and of the first mark. The object isn't there before the second.
use Rattle.std.proofs.Common.{◌≡◌, ◌≢◌, ℕ, ◌+◌, ◌*◌, ◌<◌, ◌≤◌, ◌==◌, ◌&&◌, nat_lt, is_some, eq-eqb, true, false}
use Rattle.std.proofs.Common.{List, length, Option, Some, None, refl, sym, ap, ◌∙◌, subst, arith, inl, inr}
use Rattle.plain_monitor.specs.Limits.{most_made}
use Rattle.plain_monitor.specs.Made.{is_there, class_if_there}
use Rattle.plain_monitor.specs.Objects.{PlainObject}
use Rattle.plain_history.specs.Known.{news}
use Rattle.plain_history.proofs.MadeSteps as history
use Rattle.plain_history.proofs.StoreParts.{there_has_class}
use Rattle.core_world.specs.declared.stage.Stage.TheVariants.{Settled}
use Rattle.core_world.specs.declared.word_id.WordId.TheVariants as id
use Rattle.core_world.specs.declared.heap_call.Operation.{Operation}
use Rattle.core_world.specs.declared.heap_call.Operation.TheVariants as op
use Rattle.core_world.specs.declared.heap_call.HeapCall.TheVariants.{Create}
use Rattle.core_world.specs.Locks.{marks}
use Rattle.core_world.specs.There.{IsIn}
use Rattle.core_world.specs.Threads.AtRest.{AtRest}
use Rattle.core_world.specs.Threads.ThreadView.{ThreadView, last_seen, local_of, start_of}
use Rattle.core_world.specs.Threads.References.{numbering, has_object, is_on, made_by_op, making_in}
use Rattle.core_world.specs.Trees.Calls.{steps_of, may_begin, may_act, has_made_numbers}
use Rattle.core_world.specs.Trees.CreateSteps.{class_plan, make_plan, creating, make_steps, next_made}
use Rattle.core_world.specs.Trees.Operations.{answer}
use Rattle.core_world.specs.Trees.Plans.{CallContext, lone_context, load}
use Rattle.core_world.specs.Steps.{known_hit}
use Rattle.core_world.specs.Valid.{Fits}
use Rattle.core_world.specs.Words.Shape.{Shape, IsInLimits}
use Rattle.core_world.specs.World.{World}
use Rattle.core_law.specs.Begins.{BeginsWell}
use Rattle.core_law.specs.BiasLaw.{BiasLawHolds}
use Rattle.core_law.specs.CountsAndVerdicts.{IsDecided}
use Rattle.core_law.specs.Logic.{Heap, SoundWorldWith, Keeps, Does}
use Rattle.core_law.specs.MadeLaw.{MadeLawHolds, there_after}
use Rattle.core_law.specs.Sound.{Finishes}
use Rattle.core_law.proofs.Standing.{away, inside}
use Rattle.core_law.proofs.Wholes.{kept_whole}
use Rattle.bias_law.specs.Making.{OthersAreEven}
use Rattle.bias_law.proofs.made.ClassStored.{class_stored}
use Rattle.bias_law.proofs.made.MarkStored.{mark_stored}
use Rattle.core_made.specs.Making.{MayStoreClass, StandsBeforeMark, IsClassless, IsNext}
use Rattle.core_made.specs.Steps.{is_there_in}
use Rattle.core_made.proofs.ClassStored.{class_keeps_law, no_class_yet}
use Rattle.core_made.proofs.MarkStored.{mark_keeps_law}
use Rattle.core_made.proofs.Fair.{known_there}
use Rattle.core_made.proofs.NextNumbers.{next_is_absent, one_maker}
use Rattle.core_made.proofs.Numbers.{first_is_declared}
use Rattle.core_made.proofs.Prototypes.{seen_prototype_first}
use Rattle.core_made.proofs.Readings.{absent_is_untouched}
use Rattle.core_steps.proofs.Looks.{looks_running}
use Rattle.core_steps.proofs.Facts.{ready_here}
use Rattle.core_steps.proofs.LawRules.{limits, runs_in_all}
use Rattle.core_steps.proofs.Resting.{unasking, rests, logged_carries}
use Rattle.core_steps.proofs.safepoint.SafeCalls.{closes}
use Rattle.core_steps.proofs.SeenSteps.{saw_newest, saw_older}
use Rattle.core_steps.proofs.Tests.{both, below, at_most, Acts, acts, nothing_goes, nothing_enters}
use Rattle.core_steps.proofs.Trees.{answers, chooses, follows, binds, hitting}

-- THE OBJECT ISN'T THERE
module _ (w : World) (P : List PlainObject) (t o : ℕ) (v : Fits w P) (law : MadeLawHolds w) where
  there_in : is_there_in w o ≡ is_there (numbering w.shape) law.made o
  there_in = ap (λ made. there_after (numbering w.shape) made o) law.in_time

  -- while its class word is 0,
  pub classless_is_absent : IsClassless w o → is_there_in w o ≡ false
  classless_is_absent less = by_class (class_if_there (numbering w.shape) law.made o) refl
    where
      by_class : (class : Option ℕ) → class_if_there (numbering w.shape) law.made o ≡ class → is_there_in w o ≡ false
      by_class None e = there_in ∙ sym (there_has_class (numbering w.shape) law.made o) ∙ ap is_some e
      by_class (Some c) e =
          let first = first_is_declared w.shape v.limits in
          let undeclared = less.undeclared in
          let stored = law.classes o c (omega (arith, first, undeclared)) e in
          let none = less.word in
          absurd (omega (arith, stored, none))

  -- and while a thread is making it
  pub making_is_absent : making_in (w.known t).unfinished ≡ Some o → is_there_in w o ≡ false
  making_is_absent making =
      let its = law.making t o making in
      let may = history.creating (numbering w.shape) law.made t (o, its.class_made) its.next in
      there_in ∙ next_is_absent (numbering w.shape) law.made t (o, its.class_made) may

  -- No other thread is making it then, and no operation on it was begun: so what another thread has unfinished on it is a dump at most, for which no verdict
  -- is counted beyond the thread's entries.
  pub others_are_even : BiasLawHolds w → making_in (w.known t).unfinished ≡ Some o → OthersAreEven w t o
  others_are_even biases making u f other is on = elim (biases.verdicts u) [
    | inl even ↦ even
    | inr more ↦ absurd (by_op f.op refl (subst (IsDecided (marks w) (w.known u).stage) is more.1).0)
  ]
    where
      one_more : making_in (w.known u).unfinished ≡ Some o → ⊥
      one_more its =
          let n = numbering w.shape in
          let mine = law.making t o making in
          let others = law.making u o its in
          other (one_maker n law.made t u o mine.class_made others.class_made (history.creating n law.made t (o, mine.class_made) mine.next)
          (history.creating n law.made u (o, others.class_made) others.next))

      on_absent : is_on (w.known u).unfinished o ≡ true → ⊥
      on_absent its =
          let there = known_there w law u o (law.unfinished u o its) in
          let absent = making_is_absent making in
          absurd (cc (there, absent))

      by_op : (a : Operation) → f.op ≡ a → f.op ≢ op.Dump → ⊥
      by_op op.Dump e decided = decided e
      by_op op.Create e decided = one_more (ap making_in is ∙ ap (λ a. made_by_op a f.object) e ∙ ap Some on)
      by_op _ e decided = on_absent (ap (λ z. is_on z o) is ∙ ap (λ a. has_object a && (f.object == o)) e ∙ eq-eqb f.object o on)

-- the heap has the class words of the objects that its threads make
number_there : (s : Shape) (k : ThreadView) (o c : ℕ) → IsInLimits s → s.declared + most_made * s.threads ≤ length s.objects → k.thread < s.threads
    → IsNext (numbering s) k.log k.thread o c → IsIn s (id.Class o)
number_there s k o c limits enough within next =
    let first = first_is_declared s limits in
    let number = next.number in
    let room = next.room in
    (omega (arith, first, enough, within, number, room), omega (arith, first, number))

module _ (heap : Heap) (k : ThreadView) where
  -- THE CLASS WORD of its next object, by a thread that is making none
  pub stores_class_rule : (e : CallContext) (o c : ℕ) → IsIn heap.shape (id.Class o) → MayStoreClass k e → making_in k.unfinished ≡ None
      → making_in e.unfinished ≡ Some o → IsNext (numbering heap.shape) k.log k.thread o c → Keeps heap (class_plan e o c) k
  stores_class_rule e o c there may none mine next = record {
    there = λ v. (there, tt);
    exact = λ v. tt;
    by = λ v.
        let all = runs_in_all heap k v may.runs in
        let stores = away heap k v (λ s y. MayStoreClass y e) may in
        let free = away heap k v (λ s y. making_in y.unfinished ≡ None) none in
        let its = away heap k v (λ s y. IsNext (numbering s) y.log k.thread o c) next in
        let made = class_keeps_law e o c v.world v.objects k.thread (inside heap k v) stores free mine its all.fits all.made in
        let less = no_class_yet e o c v.world v.objects k.thread (inside heap k v) free its all.fits all.made in
        let absent = classless_is_absent v.world v.objects k.thread o all.fits all.made less in
        let untouched = absent_is_untouched v.world v.objects o all.fits all.made absent in
        kept_whole v.world v.objects k.thread (class_plan e o c) all (λ h. refl) v.objects (inl made.0)
        (class_stored e o c v.world v.objects k.thread stores.calm stores.goes_on untouched all.fits all.biases) made.1;
  }

  -- THE FIRST MARK of the object that it is making: the prototype of its class, as the thread saw it in this call
  pub stores_mark_rule : (e : CallContext) (o c m : ℕ) → o < length heap.shape.objects → StandsBeforeMark k o c → last_seen (id.Prototype c) k.seen ≡ Some m
      → Keeps heap (make_plan e o c m) k
  stores_mark_rule e o c m object stands saw = record {
    there = λ v. (object, tt);
    exact = λ v. tt;
    by = λ v.
        let all = runs_in_all heap k v stands.may.runs in
        let its = away heap k v (λ s y. StandsBeforeMark y o c) stands in
        let prototype = away heap k v (λ s y. last_seen (id.Prototype c) y.seen ≡ Some m) saw in
        let first = seen_prototype_first v.world v.objects k.thread c m prototype its.may.runs all.fits in
        let made = mark_keeps_law e o c m v.world v.objects k.thread (inside heap k v) its first all.fits all.made in
        let absent = making_is_absent v.world v.objects k.thread o all.fits all.made its.making in
        let untouched = absent_is_untouched v.world v.objects o all.fits all.made absent in
        let is_class = all.fits.seen.stays k.thread (id.Class o) (c + 1) its.saw (inl (its.may.runs, λ z. absurd (omega (arith, z)))) in
        let is_prototype = all.fits.seen.stays k.thread (id.Prototype c) m prototype (inl (its.may.runs, tt)) in
        kept_whole v.world v.objects k.thread (make_plan e o c m) all (λ h. refl) made.0.now made.0.valid
        (mark_stored e o c m v.world v.objects k.thread (inside heap k v) its.may.calm its.may.own.operation untouched
        (others_are_even v.world v.objects k.thread o all.fits all.made all.biases its.making) is_class is_prototype all.fits all.biases) made.1;
  }

module _ (heap : Heap) (c : ℕ) where
  -- THE CALL, where the thread may make one object more
  makes_does : (k : ThreadView) (o : ℕ) → SoundWorldWith heap k → AtRest heap.shape k → Acts k → c < heap.shape.classes → IsIn heap.shape (id.Class o)
      → IsNext (numbering heap.shape) k.log k.thread o c → Does heap true (make_steps o c) k (λ b r l. AtRest heap.shape l)
  makes_does k o v rest a class there next =
      let look = load (lone_context (Create c)) (id.Prototype c) in
      let stores = class_plan (creating o c) o c in
      let ready = ready_here heap k v a.runs (nothing_goes k a.nothing) (nothing_enters k a.nothing) rest.untold a.live in
      hitting heap true look _ k _ (λ n. refl)
      (λ i. looks_running heap k (lone_context (Create c)) Settled (id.Prototype c) refl a.runs (sym rest.calm) (sym a.unchecking) (inr a.nothing) (λ v. class)
      (inl (sym a.nothing)) tt) (λ m i was.
      let k1 = known_hit heap.shape heap.start look m k in
      hitting heap false stores _ k1 _ (λ n. refl)
      (λ i1. stores_class_rule heap k1 (creating o c) o c there (record { runs = a.runs; calm = refl; goes_on = inr refl }) refl refl next) (λ n i1 was1.
      let k2 = known_hit heap.shape heap.start stores n k1 in
      hitting heap false (make_plan (creating o c) o c m) _ k2 _ (λ n. refl)
      (λ i2. stores_mark_rule heap k2 (creating o c) o c m there.0 (record {
        may = record { runs = a.runs; calm = refl; ready = ready; room = let room = a.room in omega arith; own = record { operation = inr refl; shot = tt } };
        making = refl;
        saw = saw_newest heap stores n k1;
      }) (saw_older heap stores n k1 (id.Prototype c) i1 refl refl ∙ saw_newest heap look m k)) (λ n2 i2 was2.
      answers heap false _ _ _ (rests heap.shape _ refl (unasking heap.shape k rest a.runs) refl
      (logged_carries k.log _ k.wait k.holds rest.still a.live refl rest.untold)))))

  create_finishes : (k : ThreadView) → SoundWorldWith heap k → AtRest heap.shape k → may_begin heap.shape heap.biasing k (Create c) ≡ true
      → Finishes heap true (steps_of heap.shape (Create c) (start_of heap.start k)) k
  unfolding steps_of
  create_finishes k v rest may =
      let l = both (nat_lt c heap.shape.classes && has_made_numbers heap.shape) (may_act k) may in
      let m = both (nat_lt c heap.shape.classes) (has_made_numbers heap.shape) l.0 in
      let o = next_made heap.shape (local_of k) in
      let class = below c heap.shape.classes m.0 in
      let enough = at_most (heap.shape.declared + most_made * heap.shape.threads) (length heap.shape.objects) m.1 in
      closes heap true _ k (
      chooses heap true (nat_lt (length (news k.log)) most_made) _ _ _ _
      (λ few.
      let next : IsNext (numbering heap.shape) k.log k.thread o c = record { number = refl; room = below (length (news k.log)) most_made few; class = class } in
      binds heap true (make_steps o c) answer k _ (
      follows heap true _ k _ _ (makes_does k o v rest (acts k l.1) class (number_there heap.shape k o c (limits heap k v) enough v.within next) next)
      (λ b r l x. answers heap b _ l _ x)))
      (λ full. answers heap true _ _ _ rest))

pub create_begins : (heap : Heap) (c : ℕ) → BeginsWell heap (Create c)
create_begins heap c = record { does = λ k v rest may. create_finishes heap c k v rest may }
