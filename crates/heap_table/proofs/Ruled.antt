-- What the law of the heap says of steps that are due.
use Rattle.std.proofs.Common.{◌≡◌, ℕ, ◌+◌, ◌^◌, ◌<◌, ◌≤◌, ◌&&◌, if◌then◌else◌, Bool, true, false, length, refl, sym, ap, ◌∙◌, subst, inl, inr}
use Rattle.plain_monitor.specs.Limits.{most_in_all}
use Rattle.plain_monitor.specs.History.{last_stamp}
use Rattle.core_world.specs.declared.word_id.WordId.TheVariants.{Stamp}
use Rattle.core_world.specs.declared.plan.StepPlan.{StepPlan}
use Rattle.core_world.specs.declared.heap_call.HeapCall.{HeapCall}
use Rattle.core_world.specs.There.{IsIn}
use Rattle.core_world.specs.Threads.ThreadView.{ThreadView, start_of}
use Rattle.core_world.specs.Threads.Stages.{is_calm}
use Rattle.core_world.specs.Trees.Calls.{steps_of, may_begin}
use Rattle.core_world.specs.Trees.LockSteps.{raise_stamp_plan}
use Rattle.core_world.specs.Trees.Plans.{CallContext}
use Rattle.core_world.specs.Trees.StepTree.{StepTree, unreachable, step, ◌>>=◌}
use Rattle.core_world.specs.Words.Shape.{Shape}
use Rattle.core_world.specs.Steps.{rest_of_call, is_idle}
use Rattle.core_world.specs.World.{World}
use Rattle.core_world.proofs.CallRests.{next_due}
use Rattle.core_law.specs.Logic.{Heap, heap_of}
use Rattle.core_law.specs.Reached.{is_reachable}
use Rattle.core_law.specs.Sound.{Finishes, Sound}
use Rattle.core_law.proofs.NextSteps.{stands_here}
use Rattle.core_law.specs.Begins.{BeginsWell}
use Rattle.core_law.specs.HeapLaw.{HeapLaw}
use Rattle.core_law.proofs.Lawful.{sound_comes, sound_rests, known_step_sound}
use Rattle.heap_table.specs.Parts.{IsDueOn}
use Rattle.heap_table.specs.Ruled.{Stepped}
use Rattle.heap_table.proofs.Lawful.{law_of}
use Rattle.heap_table.specs.Seen.{HeapSeen, PassSeen, IsOf}
use Rattle.heap_table.proofs.Knows.{is_there}
use Rattle.heap_table.proofs.Stamps.{stamp_fits}

-- the heap has the word of the first of them
pub there : {A : Type 0} (h : HeapSeen) (p : PassSeen) (t : HeapCall) (plan : StepPlan) (f : ℕ → StepTree A)
    → IsOf h p → IsDueOn h p t (step plan f) → plan.task ≡ t → IsIn h.heap.shape plan.at
there h p t plan f is_of due task =
    (is_there h.heap p.known plan (next_due h.heap.shape h.heap.start h.heap.biasing p.known t plan f due task) is_of.within is_of.real).0

-- there was a sound world in which the first of them could be made
would : {A : Type 0} (h : HeapSeen) (p : PassSeen) (t : HeapCall) (plan : StepPlan) (f : ℕ → StepTree A) (is_of : IsOf h p)
    → IsDueOn h p t (step plan f) → plan.task ≡ t
    → Stepped h.heap p.known plan (is_of.real.world.words plan.at)
would h p t plan f is_of due task =
    let r = is_of.real in
    let next = next_due h.heap.shape h.heap.start h.heap.biasing p.known t plan f due task in
    record {
      world = r.world;
      is_of = r.is_of;
      sound = r.sound;
      knew = r.knew;
      was_there = refl;
      sound_after = known_step_sound h.heap p.known plan next r.world r.is_of r.knew is_of.within ((law_of r.law).begins plan.task) r.sound;
    }

-- so the next stamp fits a word where a stamp is raised
pub stamp_room : {A : Type 0} (h : HeapSeen) (p : PassSeen) (e : CallContext) (o stamp : ℕ) (f : ℕ → StepTree A)
    → IsOf h p → IsDueOn h p e.task (step (raise_stamp_plan e o stamp) f)
    → last_stamp p.known.log + 1 < 2 ^ 64
stamp_room h p e o stamp f is_of due =
    stamp_fits h.heap p.known (raise_stamp_plan e o stamp) (is_of.real.world.words (Stamp o))
    (last_stamp p.known.log) (would h p e.task (raise_stamp_plan e o stamp) f is_of due refl) refl refl

-- it has few objects
sound_few : (w : World) → Sound w → length w.shape.objects ≤ most_in_all
sound_few w sound = elim sound.valid.is [
  | inl a ↦ a.0.limits.objects
  | inr s ↦ subst (λ (z : Shape). length z.objects ≤ most_in_all) (sym s.0.shape) s.0.fits.limits.objects
]

pub few_objects : (h : HeapSeen) (p : PassSeen) → IsOf h p → length h.heap.shape.objects ≤ most_in_all
few_objects h p is_of = let r = is_of.real in subst (λ (z : Heap). length z.shape.objects ≤ most_in_all) r.is_of (sound_few r.world r.sound)

-- NO CALL COMES to where its steps say that no valid world comes: not in its middle,
both : (a b : Bool) → (a && b) ≡ true → b ≡ true
both true b e = e
both false b e = absurd (cc e)

-- nor where it begins
first_is : (heap : Heap) (w : World) (k : ThreadView) (t : HeapCall) → heap_of w ≡ heap
    → HeapLaw heap → Sound w → w.known k.thread ≡ k → k.thread < heap.shape.threads
    → is_idle heap.shape k ≡ true → may_begin heap.shape heap.biasing k t ≡ true → steps_of heap.shape t (start_of heap.start k) ≡ unreachable → ⊥
first_is heap w k t is_of law sound knew within over may is =
    let b = sym is_of in
    let u : k.thread < w.shape.threads = subst (λ (z : Heap). k.thread < z.shape.threads) b within in
    let over_there : is_idle w.shape (w.known k.thread) ≡ true = (λ i. is_idle (is_of i).shape (knew i)) ∙ over in
    let may_there : may_begin w.shape w.biasing (w.known k.thread) t ≡ true = (λ i. may_begin (is_of i).shape (is_of i).biasing (knew i) t) ∙ may in
    let is_here : steps_of w.shape t (start_of w.start (w.known k.thread)) ≡ unreachable =
    (λ i. steps_of (is_of i).shape t (start_of (is_of i).start (knew i))) ∙ is in
    let does = (subst (λ z. BeginsWell z t) b (law.begins t)).does (w.known k.thread)
    (stands_here w k.thread u sound.valid) (sound_rests w k.thread sound u over_there) may_there in
    (subst (λ d. Finishes (heap_of w) true d (w.known k.thread)) is_here does).by

pub not_due : {A : Type 0} (h : HeapSeen) (p : PassSeen) (t : HeapCall) (d : StepTree A) → IsOf h p → IsDueOn h p t d → d ≡ unreachable → ⊥
not_due h p t d is_of due e =
    let r = is_of.real in
    let k = p.known in
    elim due.is [
      | inl left ↦
          let within : k.thread < r.world.shape.threads = subst (λ (z : Heap). k.thread < z.shape.threads) (sym r.is_of) is_of.within in
          let goes : is_reachable (rest_of_call h.heap.shape k) ≡ true =
          (λ i. is_reachable (rest_of_call (sym r.is_of i).shape (sym r.knew i))) ∙ sound_comes r.world k.thread r.sound within in
          let stuck : is_reachable (rest_of_call h.heap.shape k) ≡ false = ap is_reachable left ∙ ap (λ z. is_reachable (z >>= due.after)) e in
          absurd (cc (goes, stuck))
      | inr b ↦ first_is h.heap r.world k t r.is_of (law_of r.law) r.sound r.knew is_of.within b.over
          (both (is_calm k.stage) (may_begin h.heap.shape h.heap.biasing k t) b.may) (b.is ∙ ap (λ z. z >>= due.after) e)
    ]

-- so where a test chooses between steps and none that a valid world comes to, it chooses the steps
pub chosen : {A : Type 0} (h : HeapSeen) (p : PassSeen) (t : HeapCall) (b : Bool) (x : StepTree A) → IsOf h p → IsDueOn h p t (if b then x else unreachable)
    → b ≡ true
chosen h p t true x is_of due = refl
chosen {A = A} h p t false x is_of due = absurd (not_due {A = A} h p t unreachable is_of due refl)
