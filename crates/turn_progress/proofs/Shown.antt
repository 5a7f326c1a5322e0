-- The owner word for which an enter or a wait of a thread left alone is pending: the one of the monitor that the object's mark names.
use Rattle.std.proofs.Common.{◌≡◌, ◌≢◌, ◌⊎◌, ℕ, ◌==◌, cond, Bool, true, false, Option, Some, None, Result, Ok, Err}
use Rattle.std.proofs.Common.{refl, sym, ap, ◌∙◌, eq-eqb, eqb-true, inl, inr}
use Rattle.mark_word.specs.declared.mark.MarkForm.{MarkForm}
use Rattle.mark_word.specs.declared.mark.MarkForm.TheVariants.{Inflating, Neutral, Anonymous, Biased, Locked, Inflated}
use Rattle.mark_word.specs.declared.owner.OwnerForm.{OwnerForm}
use Rattle.mark_word.specs.declared.owner.OwnerForm.TheVariants.{Free, ByThread, ByRecord}
use Rattle.mark_word.specs.Mark.{read_mark, mark_of}
use Rattle.mark_word.specs.Owner.{read_owner, owner_of}
use Rattle.mark_word.proofs.ReadingOwners.{read_owner-owner_of}
use Rattle.plain_monitor.specs.Limits.{most_holds}
use Rattle.plain_monitor.specs.declared.entry.Path.{Path}
use Rattle.plain_monitor.specs.declared.entry.Path.TheVariants.{MonitorFirst, MonitorAgain, StackFirst, StackAgain, BiasOwn, BiasTaken}
use Rattle.core_world.specs.declared.answer.BiasTry.{BiasTry}
use Rattle.core_world.specs.declared.answer.BiasTry.TheVariants.{Took, Unbiased, Valid, Raced}
use Rattle.core_world.specs.declared.answer.PendingCause.TheVariants as why
use Rattle.core_world.specs.declared.answer.Progress.{Progress}
use Rattle.core_world.specs.declared.answer.Progress.TheVariants.{Done, Pending}
use Rattle.core_world.specs.declared.heap_call.Operation.TheVariants as op
use Rattle.core_world.specs.declared.heap_call.HeapCall.TheVariants as task
use Rattle.core_world.specs.declared.stage.Stage.{Stage}
use Rattle.core_world.specs.declared.stage.Stage.TheVariants.{Settled, MonitorAcquired, RecursionsRaised}
use Rattle.core_world.specs.declared.word_id.WordId.{WordId}
use Rattle.core_world.specs.declared.word_id.WordId.TheVariants.{Mark, Owner, Safepoint}
use Rattle.core_world.specs.Threads.ThreadView.{Local, Start}
use Rattle.core_world.specs.Threads.Stages.{Revocation}
use Rattle.core_world.specs.Trees.BiasSteps.{took_steps, rebias_steps, unbias_swap_steps, bias_enter_at, bias_enter_by, bias_enter_steps}
use Rattle.core_world.specs.Trees.BiasSteps.{bias_after_at, bias_after_steps, stage_after}
use Rattle.core_world.specs.Trees.DeflateSteps.{deflate_steps}
use Rattle.core_world.specs.Trees.LockSteps.{hold_steps, stack_enter_at}
use Rattle.core_world.specs.Trees.MonitorSteps.{grab_plan, inflate_steps, inflate_at, inflate_by, inflate_with}
use Rattle.core_world.specs.Trees.MonitorSteps.{monitor_enter_steps, monitor_enter_at, record_steps}
use Rattle.core_world.specs.Trees.Operations.{and_then, answer, goes_on_with, revocation_steps, enter_monitor_steps, enter_at, enter_unbiased}
use Rattle.core_world.specs.Trees.Operations.{enter_revoked, enter_tried, enter_going, enter_steps}
use Rattle.core_world.specs.Trees.Plans.{CallContext, call_context, free_place}
use Rattle.core_world.specs.Trees.RevocationSteps.{revoke_at_safepoint_steps}
use Rattle.core_world.specs.Trees.SafepointSteps.{has_requester, request_steps, reached_steps, then_reached, safepoint_steps, release_to}
use Rattle.core_world.specs.Trees.StepTree.{StepTree, ◌>>=◌}
use Rattle.core_world.specs.Words.Forms.{is_biased, is_still}
use Rattle.core_world.specs.Words.Names.{same_name}
use Rattle.core_world.specs.Words.Shape.{Shape}
use Rattle.solo_progress.proofs.Monitors.{own_word}
use Rattle.solo_progress.proofs.OneRun.{Alone, after, alone_then, alone_either, alone_past, alone_class, load_leaves}

-- by these words the mark of o names monitor m: it is read so, or spelled so
abbrev pub NamesMonitor : ℕ → ℕ → (WordId → ℕ) → Type 0
NamesMonitor o m g = (read_mark (g (Mark o)) ≡ Some (Inflated m)) ⊎ (g (Mark o) ≡ mark_of (Inflated m))

-- at the end, where it is pending for an owner, the mark names the monitor that has this owner word
abbrev pub Shows : {A : Type 0} → ℕ → (WordId → ℕ) → Progress A → Type 0
Shows o g (Done a) = Unit {0}
Shows o g (Pending (why.Owned word)) = (m : ℕ) × NamesMonitor o m g × (g (Owner m) ≡ word)
Shows o g (Pending cause) = Unit {0}

abbrev pub ShowsIn : {A E : Type 0} → ℕ → (WordId → ℕ) → Result (Progress A) E → Type 0
ShowsIn o g (Ok progress) = Shows o g progress
ShowsIn o g (Err e) = Unit {0}

-- it is done with this, or pending, for no owner
abbrev Unowned : {A : Type 0} → (A → Type 0) → Progress A → Type 0
Unowned P (Done a) = P a
Unowned P (Pending (why.Owned word)) = ⊥
Unowned P (Pending cause) = Unit {0}

-- what goes on where the part before it is done
shown_then : {A B : Type 0} (o : ℕ) (Q : (WordId → ℕ) → A → Type 0) (d : StepTree (Progress A)) (k : A → StepTree (Progress B)) (f : WordId → ℕ)
    → Alone (λ g progress. Unowned (Q g) progress) f d → ((g : WordId → ℕ) (a : A) → Q g a → Alone (λ h progress. Shows o h progress) g (k a))
    → Alone (λ h progress. Shows o h progress) f (d >>= λ progress. and_then progress k)
shown_then {A} o Q d k f h more =
    alone_then (λ g progress. Unowned (Q g) progress) (λ h progress. Shows o h progress) d (λ progress. and_then progress k) f h by_progress
  where
    by_progress : (g : WordId → ℕ) (progress : Progress A) → Unowned (Q g) progress → Alone (λ h progress. Shows o h progress) g (and_then progress k)
    by_progress g (Done a) h = more g a h
    by_progress g (Pending (why.Owned word)) h = absurd h
    by_progress g (Pending cause) h = tt

-- a word after an exchange that expected another
kept_word : (b c : Bool) (x y : ℕ) → c ≡ false → cond b (cond c x y) y ≡ y
kept_word true true x y e = absurd (cc e)
kept_word true false x y e = refl
kept_word false c x y e = refl

-- an owner word that is read so isn't the one of a free monitor
not_free : (n : ℕ) (form : OwnerForm) → read_owner n ≡ Some form → form ≢ Free → (n == owner_of Free) ≡ false
not_free n form reads differ = by_test (n == owner_of Free) refl
  where
    by_test : (b : Bool) → (n == owner_of Free) ≡ b → b ≡ false
    by_test true same =
        let free : Some form ≡ Some Free = sym reads ∙ ap read_owner (eqb-true n (owner_of Free) same) ∙ read_owner-owner_of Free tt in
        absurd (differ (cc free))
    by_test false differs = refl

module _ (e : CallContext) (k : Local) (o : ℕ) where
  abbrev S : {A : Type 0} → (WordId → ℕ) → Progress A → Type 0
  S g progress = Shows o g progress

  record_shown : (stage : Stage) (by : Path) (f : WordId → ℕ) → Alone S f (record_steps e stage k o by)
  record_shown stage by f = alone_past S (hold_steps e k o by) _ _ (λ g path. tt)

  -- BY THE MONITOR that the mark names
  monitor_shown : (m : ℕ) (f : WordId → ℕ) → NamesMonitor o m f → Alone S f (monitor_enter_steps e k o m)
  monitor_shown m f names = by_form (read_owner (f (Owner m))) refl
    where
      g : WordId → ℕ
      g = after (grab_plan e k.thread o m) f

      kept : (form : OwnerForm) → read_owner (f (Owner m)) ≡ Some form → form ≢ Free → g (Owner m) ≡ f (Owner m)
      kept form reads differ =
          kept_word (same_name (Owner m) (Owner m)) (f (Owner m) == owner_of Free) (owner_of (ByThread k.thread)) (f (Owner m))
          (not_free (f (Owner m)) form reads differ)

      by_form : (form : Option OwnerForm) → read_owner (f (Owner m)) ≡ form
          → Alone S (after (grab_plan e k.thread o m) f) (monitor_enter_at form e k o m (f (Owner m)))
      by_form (Some Free) reads = record_shown (MonitorAcquired o) MonitorFirst _
      by_form (Some (ByThread thread)) reads =
          alone_either S _ (thread == k.thread) _ _ (λ own. record_shown (RecursionsRaised o) MonitorAgain _)
          (λ other. (m, names, kept (ByThread thread) reads (λ same. absurd (cc same))))
      by_form (Some (ByRecord thread place)) reads =
          alone_either S _ (thread == k.thread) _ _ (λ own. record_shown (RecursionsRaised o) MonitorAgain _)
          (λ other. (m, names, kept (ByRecord thread place) reads (λ same. absurd (cc same))))
      by_form None reads = tt

  -- which an inflation makes, or finds
  abbrev Makes : (WordId → ℕ) → Progress ℕ → Type 0
  Makes g progress = Unowned (λ m. NamesMonitor o m g) progress

  with_shown : (form : Option MarkForm) (mark m : ℕ) (g : WordId → ℕ) → Alone Makes g (inflate_with form e o mark m)
  with_shown (Some (Locked thread place)) mark m g =
      alone_either Makes _ (g (Mark o) == mark) _ _ (λ hit. inr (own_word (Mark o) (mark_of (Inflated m)) _)) (λ miss. tt)
  with_shown (Some (Neutral hash age)) mark m g =
      alone_either Makes _ (g (Mark o) == mark) _ _
      (λ hit. inr (own_word (Mark o) _ _ ∙ ap (λ (b : Bool). cond b (mark_of (Inflated m)) (g (Mark o))) hit)) (λ miss. tt)
  with_shown _ mark m g = tt

  by_shown : (s : Shape) (kept : Option ℕ) (mark : ℕ) (g : WordId → ℕ) → Alone Makes g (inflate_by kept s e o mark)
  by_shown s (Some m) mark g = with_shown (read_mark mark) mark m g
  by_shown s None mark g = with_shown (read_mark mark) mark _ _

  at_shown : (form : Option MarkForm) (s : Shape) (kept : Option ℕ) (mark : ℕ) (g : WordId → ℕ) → read_mark mark ≡ form → g (Mark o) ≡ mark
      → Alone Makes g (inflate_at form s e kept o mark)
  at_shown (Some Inflating) s kept mark g reads is = tt
  at_shown (Some (Inflated monitor)) s kept mark g reads is = inl (ap read_mark is ∙ reads)
  at_shown form s kept mark g reads is = by_shown s kept mark g

  inflate_shown : (s : Shape) (kept : Option ℕ) (f : WordId → ℕ) → Alone Makes f (inflate_steps s e kept o)
  inflate_shown s kept f = at_shown (read_mark (f (Mark o))) s kept (f (Mark o)) _ refl (load_leaves (Mark o) (Mark o) f)

  -- BY A LOCK RECORD it is pending for no owner
  stack_shown : (form : Option MarkForm) (mark : ℕ) (f : WordId → ℕ) → Alone S f (stack_enter_at form e k o mark)
  stack_shown (Some (Neutral hash age)) mark f =
      alone_either S _ (f (Mark o) == mark) _ _ (λ hit. alone_past S (hold_steps e k o StackFirst) _ _ (λ g path. tt)) (λ miss. tt)
  stack_shown (Some (Locked thread place)) mark f = alone_past S (hold_steps e k o StackAgain) _ _ (λ g path. tt)
  stack_shown _ mark f = tt

  -- THE BIAS: a mark without its pattern is the one that stands there
  abbrev Stands : (WordId → ℕ) → BiasTry → Type 0
  Stands g (Unbiased mark) = g (Mark o) ≡ mark
  Stands g tried = Unit {0}

  took_stands : (by : Path) (f : WordId → ℕ) → Alone Stands f (took_steps e k o by)
  took_stands by f = alone_past Stands (hold_steps e k o by) _ f (λ g path. tt)

  rebias_stands : (mark epoch : ℕ) (f : WordId → ℕ) → Alone Stands f (rebias_steps e k o mark epoch)
  rebias_stands mark epoch f = alone_either Stands _ (f (Mark o) == mark) _ _ (λ hit. took_stands BiasTaken _) (λ miss. tt)

  at_stands : (form : Option MarkForm) (epoch mark : ℕ) (f : WordId → ℕ) → Alone Stands f (bias_enter_at form epoch e k o mark)
  at_stands (Some (Biased thread old age)) epoch mark f =
      alone_either Stands f (old == epoch) _ _
      (λ valid. alone_either Stands f (thread == k.thread) _ _ (λ own. took_stands BiasOwn f) (λ other. tt)) (λ stale. rebias_stands mark epoch f)
  at_stands (Some (Anonymous old age)) epoch mark f = rebias_stands mark epoch f
  at_stands _ epoch mark f = tt

  swap_stands : (mark neutral : ℕ) (f : WordId → ℕ) → Alone Stands f (unbias_swap_steps e o mark neutral)
  swap_stands mark neutral f =
      alone_either Stands _ (f (Mark o) == mark) _ _
      (λ hit. own_word (Mark o) _ _ ∙ ap (λ (b : Bool). cond b neutral (f (Mark o))) hit) (λ miss. tt)

  by_stands : (form : Option MarkForm) (mark prototype : ℕ) (f : WordId → ℕ) → Alone Stands f (bias_enter_by form e k o mark prototype)
  by_stands (Some (Neutral hash age)) mark prototype f = swap_stands mark prototype f
  by_stands (Some (Anonymous epoch age)) mark prototype f = at_stands (read_mark mark) epoch mark f
  by_stands _ mark prototype f = tt

  bias_enter_stands : (s : Shape) (f : WordId → ℕ) → Alone Stands f (bias_enter_steps s e k o)
  bias_enter_stands s f =
      alone_either Stands _ (is_biased (f (Mark o))) _ _
      (λ biased. alone_class Stands e Settled s o _ _ (by_stands _ (f (Mark o)) _ _)) (λ unbiased. load_leaves (Mark o) (Mark o) f)

  after_stands : (took : Bool) (f : WordId → ℕ) → Alone Stands f (bias_after_steps e k o took)
  after_stands took f =
      alone_either Stands _ (is_biased (f (Mark o))) _ _ (λ biased. by_form (read_mark (f (Mark o))) _) (λ unbiased. load_leaves (Mark o) (Mark o) f)
    where
      by_form : (form : Option MarkForm) (g : WordId → ℕ) → Alone Stands g (bias_after_at form e k o)
      by_form (Some (Biased thread epoch age)) g =
          alone_either Stands g (thread == k.thread) _ _ (λ own. took_stands BiasTaken g) (λ other. tt)
      by_form _ g = tt

-- A SAFEPOINT is pending for no owner.
abbrev Whatever : {A : Type 0} → (WordId → ℕ) → Progress A → Type 0
Whatever g progress = Unowned (λ a. Unit {0}) progress

reached_unowned : (e : CallContext) (f : WordId → ℕ) → Alone Whatever f (reached_steps e)
reached_unowned e f = alone_either Whatever _ (is_still (f Safepoint)) _ _ (λ still. tt) (λ runs. tt)

request_unowned : (e : CallContext) (t : ℕ) (f : WordId → ℕ) → Alone Whatever f (request_steps e t)
request_unowned e t f =
    alone_either Whatever _ (has_requester (f Safepoint)) _ _ (λ asked. tt)
    (λ free. alone_either Whatever _ (f Safepoint == f Safepoint) _ _ (λ hit. tt)
    (λ miss. let same = eq-eqb (f Safepoint) (f Safepoint) refl in absurd (cc (miss, same))))

safepoint_unowned : (e : CallContext) (t : ℕ) (requesting : Bool) (f : WordId → ℕ) → Alone Whatever f (safepoint_steps e t requesting)
safepoint_unowned e t true f = reached_unowned e f
safepoint_unowned e t false f = alone_then Whatever Whatever (request_steps e t) (then_reached e) f (request_unowned e t f) by_progress
  where
    by_progress : (g : WordId → ℕ) (progress : Progress (Unit {0})) → Whatever g progress → Alone Whatever g (then_reached e progress)
    by_progress g (Done x) h = reached_unowned e g
    by_progress g (Pending cause) h = h

revocation_unowned : (s : Shape) (t : ℕ) (requesting : Bool) (e : CallContext) (b : Revocation) (f : WordId → ℕ)
    → Alone Whatever f (revocation_steps s t requesting e b)
revocation_unowned s t requesting e b f = alone_then Whatever Whatever (safepoint_steps e t requesting) _ f (safepoint_unowned e t requesting f) by_progress
  where
    by_progress : (g : WordId → ℕ) (progress : Progress (Unit {0})) → Whatever g progress → Alone Whatever g (and_then progress (λ _.
        revoke_at_safepoint_steps s t e b >>= λ outcome. deflate_steps s e (stage_after outcome.took b.object) >>= λ _.
        release_to (stage_after outcome.took b.object) e t >>= λ _. StepTree.done (Done outcome.took)))
    by_progress g (Done x) h =
        alone_past Whatever (revoke_at_safepoint_steps s t e b) _ g (λ i outcome.
        alone_past Whatever (deflate_steps s e (stage_after outcome.took b.object)) _ i (λ j x.
        alone_past Whatever (release_to (stage_after outcome.took b.object) e t) _ j (λ l x. tt)))
    by_progress g (Pending cause) h = h

-- THE ENTER
module _ (s : Shape) (e : CallContext) (k : Start) (o : ℕ) where
  abbrev T : (WordId → ℕ) → Progress Path → Type 0
  T g progress = Shows o g progress

  by_monitor_shown : (f : WordId → ℕ) → Alone T f (enter_monitor_steps s e k o)
  by_monitor_shown f =
      shown_then o (λ g m. NamesMonitor o m g) (inflate_steps s e k.kept o) (λ m. monitor_enter_steps e k.local o m) f
      (inflate_shown e k.local o s k.kept f) (λ g m names. monitor_shown e k.local o m g names)

  enter_at_shown : (form : Option MarkForm) (mark : ℕ) (f : WordId → ℕ) → read_mark mark ≡ form → f (Mark o) ≡ mark
      → Alone T f (enter_at form s e k o mark)
  enter_at_shown (Some Inflating) mark f reads is = tt
  enter_at_shown (Some (Neutral hash age)) mark f reads is = stack_shown e k.local o (read_mark mark) mark f
  enter_at_shown (Some (Locked thread place)) mark f reads is =
      alone_either T f (thread == k.local.thread) _ _ (λ own. stack_shown e k.local o (read_mark mark) mark f) (λ other. by_monitor_shown f)
  enter_at_shown (Some (Inflated monitor)) mark f reads is = monitor_shown e k.local o monitor f (inl (ap read_mark is ∙ reads))
  enter_at_shown _ mark f reads is = tt

  unbiased_shown : (tried : BiasTry) (f : WordId → ℕ) → Stands e k.local o f tried → Alone T f (enter_unbiased tried s e k o)
  unbiased_shown (Unbiased mark) f is = enter_at_shown (read_mark mark) mark f refl is
  unbiased_shown _ f h = tt

  module _ (now : ℕ) (rebias : Bool) where
    abbrev b : Revocation
    b = record { object = o; rebias = rebias; now = now }

    revoked_shown : (requesting : Bool) (f : WordId → ℕ) → Alone T f (enter_revoked s requesting e k b)
    revoked_shown requesting f =
        shown_then o (λ g (took : Bool). Unit {0}) (revocation_steps s k.local.thread requesting e b) _ f
        (revocation_unowned s k.local.thread requesting e b f)
        (λ g took x. alone_then (Stands e k.local o) T (bias_after_steps e k.local o took) (λ tried. enter_unbiased tried s e k o) g
        (after_stands e k.local o took g) (λ h tried stands. unbiased_shown tried h stands))

    tried_shown : (tried : BiasTry) (f : WordId → ℕ) → Stands e k.local o f tried → Alone T f (enter_tried tried s e k b)
    tried_shown (Valid mark) f h = revoked_shown false f
    tried_shown (Took path) f h = unbiased_shown (Took path) f h
    tried_shown (Unbiased mark) f h = unbiased_shown (Unbiased mark) f h
    tried_shown (Raced expected found) f h = unbiased_shown (Raced expected found) f h

    going_shown : (f : WordId → ℕ) → Alone T f (enter_going s e k b)
    going_shown f =
        alone_either T f k.requesting _ _ (λ asks. revoked_shown true f)
        (λ free. alone_then (Stands e k.local o) T (bias_enter_steps s e k.local o) (λ tried. enter_tried tried s e k b) f
        (bias_enter_stands e k.local o s f) (λ g tried stands. tried_shown tried g stands))

pub enters_shown : (s : Shape) (k : Start) (o now : ℕ) (f : WordId → ℕ) → Alone (λ g a. ShowsIn o g a) f (enter_steps s k o now)
enters_shown s k o now f =
    alone_either (λ g a. ShowsIn o g a) f (free_place k.local.holds == most_holds) _ _
    (λ full. alone_either (λ g a. ShowsIn o g a) f (goes_on_with op.Enter o k.unfinished) _ _ (λ on. tt) (λ new. tt))
    (λ few. alone_then (λ g progress. Shows o g progress) (λ g a. ShowsIn o g a)
    (enter_going s (call_context (task.Enter o now) op.Enter o) k (record { object = o; rebias = true; now = now })) answer f
    (going_shown s (call_context (task.Enter o now) op.Enter o) k o now true f) (λ g progress shows. shows))
