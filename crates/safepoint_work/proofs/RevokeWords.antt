-- The words that a revocation finds and stores have the forms that words of the heap have.
use Rattle.std.proofs.Common.{◌≡◌, ℕ, ◌<◌, ◌≤◌, ◌==◌, Bool, true, false, cond, length, Option, Some, None, refl, sym, ap, ◌∙◌, subst, arith, eq-eqb}
use Rattle.std.proofs.lemmas.Bool.Decides.{nat_tests}
use Rattle.plain_monitor.specs.Limits.{most_holds}
use Rattle.mark_word.specs.declared.mark.MarkForm.{MarkForm}
use Rattle.mark_word.specs.declared.mark.MarkForm.TheVariants.{Anonymous, Biased, Locked}
use Rattle.mark_word.specs.Mark.{mark_of, read_mark}
use Rattle.mark_word.proofs.ReadingMarks.{read_mark-spells}
use Rattle.core_world.specs.declared.word_id.WordId.TheVariants.{Mark}
use Rattle.core_world.specs.declared.plan.LocalEffect.TheVariants as own
use Rattle.core_world.specs.declared.plan.StepPlan.{StepPlan}
use Rattle.mark_word.specs.declared.hold.HoldForm.{HoldForm}
use Rattle.mark_word.specs.declared.hold.HoldForm.TheVariants.{Empty, Holds}
use Rattle.core_world.specs.Clauses.WordForms.{IsMark, IsHold}
use Rattle.core_world.specs.Locks.{or_zero, has_epoch, is_valid_bias}
use Rattle.core_world.specs.RevocationRules.{object_held}
use Rattle.core_world.specs.Steps.{world_after}
use Rattle.core_world.specs.Threads.Stages.{Revocation}
use Rattle.core_world.specs.Trees.Plans.{CallContext}
use Rattle.core_world.specs.Trees.RevocationSteps.{revoke_plan}
use Rattle.core_world.specs.Trees.StepTree.{StepTree, step}
use Rattle.core_world.specs.Words.Forms.{epoch_in, epoch_form}
use Rattle.core_world.specs.Words.Shape.{Shape}
use Rattle.core_world.specs.World.{World}
use Rattle.core_world.proofs.CallRests.{next_due}
use Rattle.core_law.specs.Sound.{Sound}
use Rattle.core_law.proofs.Lawful.{known_step_sound}
use Rattle.heap_table.specs.Parts.{IsDueOn}
use Rattle.heap_table.proofs.Forms.{sound_forms}
use Rattle.heap_table.proofs.Lawful.{law_of}
use Rattle.heap_table.specs.Seen.{HeapSeen, PassSeen, IsOf}

-- no mark of the heap names a record at place 64
no_place : (s : Shape) (t : ℕ) → t < 32 → IsMark s (read_mark (mark_of (Locked t 64))) → ⊥
unfolding read_mark
no_place s t less formed =
    let none : read_mark (mark_of (Locked t 64)) ≡ None = grind (arith, nat_tests, less) in
    subst (IsMark s) none formed

-- A mark that names a thread's record is due to be stored: the record's place is one of the 64.
abbrev lock_plan : CallContext → Revocation → ℕ → ℕ → ℕ → StepPlan
lock_plan e b o t n = revoke_plan e b own.Unchanged (Mark o) (mark_of (Locked t n))

-- what the mark is in the sound world after it
lock_stored : (w : World) (e : CallContext) (b : Revocation) (o t n u : ℕ)
    → Sound (world_after (lock_plan e b o t n) u w) → IsMark w.shape (read_mark (mark_of (Locked t n)))
lock_stored w e b o t n u sound =
    subst (λ (c : Bool). IsMark w.shape (read_mark (cond c (mark_of (Locked t n)) (w.words (Mark o))))) (eq-eqb o o refl)
    ((sound_forms (world_after (lock_plan e b o t n) u w) sound).marks o)

pub locked_place : (h : HeapSeen) (p : PassSeen) (e : CallContext) (b : Revocation) (o t n : ℕ) (f : ℕ → StepTree (Unit {0})) → IsOf h p
    → IsDueOn h p e.task (step (revoke_plan e b own.Unchanged (Mark o) (mark_of (Locked t n))) f) → t < 32 → n ≤ 64 → n < 64
locked_place h p e b o t n f is_of due thread most =
    let plan = lock_plan e b o t n in
    let r = is_of.real in
    let next = next_due h.heap.shape h.heap.start h.heap.biasing p.known e.task plan f due refl in
    let after = known_step_sound h.heap p.known plan next r.world r.is_of r.knew is_of.within ((law_of r.law).begins plan.task) r.sound in
    cases (lock_stored r.world e b o t n p.known.thread after) (n == 64) refl
  where
    cases : IsMark is_of.real.world.shape (read_mark (mark_of (Locked t n))) → (c : Bool) → (n == 64) ≡ c → n < 64
    cases stored true e =
        let is : n ≡ most_holds = grind (arith, nat_tests, e) in
        absurd (no_place is_of.real.world.shape t thread (subst (λ (m : ℕ). IsMark is_of.real.world.shape (read_mark (mark_of (Locked t m)))) is stored))
    cases stored false e = grind (arith, nat_tests, e, most)

-- the object that a hold word of the heap names is one of the heap
pub held_there : (s : Shape) (f : Option HoldForm) (o : ℕ) → IsHold s f → object_held f ≡ Some o → o < length s.objects
held_there s None o formed e = absurd formed
held_there s (Some Empty) o formed e = absurd (cc e)
held_there s (Some (Holds object depth)) o formed e =
    let same : object ≡ o = ap (λ (x : Option ℕ). or_zero x) e in
    subst (λ (n : ℕ). n < length s.objects) same formed

-- PROTOTYPES. Without an epoch no bias to it is valid, and an epoch is in its range.
pub no_bias : (f : Option MarkForm) (n : ℕ) → epoch_in n ≡ None → is_valid_bias f n ≡ false
no_bias (Some (Biased thread epoch age)) n none = ap (λ (x : Option ℕ). has_epoch x epoch) none
no_bias _ n none = refl

pub epoch_range : (n epoch : ℕ) → epoch_in n ≡ Some epoch → epoch < 4
epoch_range n epoch is = cases (read_mark n) refl
  where
    cases : (f : Option MarkForm) → read_mark n ≡ f → epoch < 4
    cases (Some (Anonymous other age)) m =
        let range = (read_mark-spells n (Anonymous other age) m).0 in
        let same : other ≡ epoch = ap or_zero (sym (ap epoch_form m) ∙ is) in
        subst (λ (x : ℕ). x < 4) same range.0
    cases _ m = absurd (cc (is, ap epoch_form m))
