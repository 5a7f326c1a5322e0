-- An inflation: what the law of the heap says of the numbers that it names, and its parts.
use Rattle.std.proofs.Common.{◌≡◌, ℕ, ◌^◌, ◌<◌, ◌==◌, Bool, true, false, if◌then◌else◌, Option, Some, inl, inr}
use Rattle.std.proofs.Common.{refl, sym, ap, ◌∙◌, subst, arith}
use borrow.Author.Tests.{eqb-true, eqb-false}
use Rattle.mark_word.specs.declared.mark.MarkForm.{MarkForm}
use Rattle.mark_word.specs.declared.mark.MarkForm.TheVariants.{Inflating, Neutral, Locked, Inflated}
use Rattle.mark_word.specs.declared.owner.OwnerForm.TheVariants.{ByRecord}
use Rattle.mark_word.specs.Mark.{mark_of}
use Rattle.mark_word.specs.Owner.{owner_of}
use Rattle.core_world.specs.declared.answer.Progress.{Progress}
use Rattle.core_world.specs.declared.answer.PendingCause.TheVariants as why
use Rattle.core_world.specs.declared.word_id.WordId.TheVariants.{Mark, Displaced, Header}
use Rattle.core_world.specs.declared.plan.LocalEffect.TheVariants.{DropClaim}
use Rattle.core_world.specs.declared.stage.Stage.{Stage}
use Rattle.core_world.specs.declared.stage.Stage.TheVariants.{Settled, Inflates}
use Rattle.core_world.specs.Threads.ThreadView.{ThreadView}
use Rattle.core_world.specs.Trees.MonitorSteps.{prepare_plan, name_plan, name_neutral_plan}
use Rattle.core_world.specs.Trees.MonitorSteps.{prepare_steps, inflate_with, inflate_by, inflate_at}
use Rattle.core_world.specs.Trees.Plans.{CallContext, with_own, swap, load_plan, done_with, pending_for}
use Rattle.core_world.specs.Trees.StepTree.{StepTree, unreachable, ◌>>=◌, ask}
use Rattle.core_world.specs.Valid.{IsRevoking}
use Rattle.core_world.specs.Words.Shape.{Shape, IsInLimits, monitor_count}
use Rattle.core_world.specs.World.{World}
use Rattle.core_law.specs.Logic.{Heap}
use Rattle.core_law.specs.Sound.{Sound}
use Rattle.core_world.proofs.There.{kept_there}
use Rattle.heap_table.specs.Parts.{IsDueOn}
use Rattle.heap_table.specs.Seen.{HeapSeen, PassSeen, IsOf}
use Rattle.heap_table.specs.StepPlans.{store_plan}
use Rattle.heap_table.proofs.Ruled.{there}

sound_limits : (w : World) → Sound w → IsInLimits w.shape
sound_limits w sound = elim sound.valid.is [
  | inl a ↦ a.0.limits
  | inr s ↦ subst IsInLimits (sym s.0.shape) s.0.fits.limits
]

-- the heap is within the limits of a program
pub limits : (h : HeapSeen) (p : PassSeen) → IsOf h p → IsInLimits h.heap.shape
limits h p is_of = let r = is_of.real in subst (λ (z : Heap). IsInLimits z.shape) r.is_of (sound_limits r.world r.sound)

sound_kept : (w : World) (t m : ℕ) → Sound w → (w.known t).kept ≡ Some m → m < monitor_count w.shape
sound_kept w t m sound kept = elim sound.valid.is [
  | inl a ↦ kept_there w sound.valid.objects a.0 t m kept
  | inr s ↦ subst (λ (z : Shape). m < monitor_count z) (sym s.0.shape) (kept_there s.0.before sound.valid.objects s.0.fits t m (before s.0))
]
  where
    known : (s : IsRevoking w sound.valid.objects) (b : Bool) → (t == s.requester) ≡ b → (s.before.known t).kept ≡ (w.known t).kept
    known s true e =
        let is : t ≡ s.requester = eqb-true t s.requester e in
        ap (λ (u : ℕ). (s.before.known u).kept) is ∙ ap (λ (k : ThreadView). k.kept) (sym s.knows) ∙ ap (λ (u : ℕ). (w.known u).kept) (sym is)
    known s false e = ap (λ (k : ThreadView). k.kept) (sym (s.others t (eqb-false t s.requester e)))

    before : (s : IsRevoking w sound.valid.objects) → (s.before.known t).kept ≡ Some m
    before s = known s (t == s.requester) refl ∙ kept

-- it has the monitor that a thread keeps
pub kept_in : (h : HeapSeen) (p : PassSeen) (m : ℕ) → IsOf h p → p.known.kept ≡ Some m → m < monitor_count h.heap.shape
kept_in h p m is_of kept =
    let r = is_of.real in
    subst (λ (z : Heap). m < monitor_count z.shape) r.is_of (sound_kept r.world p.known.thread m r.sound (ap (λ (k : ThreadView). k.kept) r.knew ∙ kept))

-- and the number of each of its monitors fits a mark
pub fits : (h : HeapSeen) (p : PassSeen) (m : ℕ) → IsOf h p → m < monitor_count h.heap.shape → m < 2 ^ 20
fits h p m is_of within = let l = limits h p is_of in omega (arith, within, l.objects, l.threads)

-- THE PARTS of an inflation: what comes after the exchange of a mark that named a lock record,
abbrev pub locked_on : CallContext → ℕ → ℕ → ℕ → ℕ → StepTree (Progress ℕ)
locked_on e o m t place = do
  header ← ask (load_plan e (Inflates o t place) (Displaced t place))
  _ ← prepare_steps e (Inflates o t place) o m header (owner_of (ByRecord t place))
  _ ← ask (name_plan e o m)
  done_with m

-- after the words of its monitor,
abbrev pub locked_named : CallContext → ℕ → ℕ → StepTree (Progress ℕ)
locked_named e o m = do
  _ ← ask (name_plan e o m)
  done_with m

-- and after those of the monitor of a neutral mark
abbrev pub neutral_named : CallContext → ℕ → ℕ → ℕ → StepTree (Progress ℕ)
neutral_named e o mark m = do
  found ← ask (name_neutral_plan e o mark m)
  if found == mark then done_with m else pending_for (why.Raced mark found)

-- The words of a monitor are stored first: so it has a number that fits a mark.
pub fits_mark : {A : Type 0} (h : HeapSeen) (p : PassSeen) (e : CallContext) (stage : Stage) (o m header owner : ℕ) (g : StepTree A)
    → IsDueOn h p e.task (prepare_steps e stage o m header owner >>= (λ _. g)) → IsOf h p → m < 2 ^ 20
fits_mark h p e stage o m header owner g due is_of = fits h p m is_of (there h p e.task (prepare_plan e stage (Header m) header) _ is_of due refl)

-- THE LAST PLAN names the monitor, where its word is that of an inflated mark
module _ (e : CallContext) (o mark m word : ℕ) (is : word ≡ mark_of (Inflated m)) where
  pub names : with_own DropClaim (store_plan e Settled (Mark o) word) ≡ name_plan e o m
  names = ap (λ w. with_own DropClaim (store_plan e Settled (Mark o) w)) is

  pub names_neutral : with_own DropClaim (swap e (Mark o) mark word) ≡ name_neutral_plan e o mark m
  names_neutral = ap (λ w. with_own DropClaim (swap e (Mark o) mark w)) is

-- MARKS that no valid world comes with, and those whose lock gets a monitor
pub never_with : (f : MarkForm) (e : CallContext) (o mark m : ℕ) → ((t p : ℕ) → f ≡ Locked t p → ⊥)
    → ((hash age : ℕ) → f ≡ Neutral hash age → ⊥) → inflate_with (Some f) e o mark m ≡ unreachable
never_with (Neutral hash age) e o mark m locked neutral = absurd (neutral hash age refl)
never_with (Locked t p) e o mark m locked neutral = absurd (locked t p refl)
never_with _ e o mark m locked neutral = refl

pub is_made : (f : MarkForm) (s : Shape) (e : CallContext) (kept : Option ℕ) (o mark : ℕ) → (f ≡ Inflating → ⊥) → ((m : ℕ) → f ≡ Inflated m → ⊥)
    → inflate_at (Some f) s e kept o mark ≡ inflate_by kept s e o mark
is_made Inflating s e kept o mark inflating inflated = absurd (inflating refl)
is_made (Inflated m) s e kept o mark inflating inflated = absurd (inflated m refl)
is_made _ s e kept o mark inflating inflated = refl
