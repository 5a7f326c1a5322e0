-- Inflating and entering a monitor miss no exchange.
use Rattle.std.proofs.Common.{◌≡◌, ◌≢◌, ℕ, ◌==◌, cond, not, Bool, true, false, Option, Some, None, refl, sym, ap, ◌∙◌, subst, arith, eq-eqb}
use Rattle.mark_word.specs.declared.mark.MarkForm.{MarkForm}
use Rattle.mark_word.specs.declared.mark.MarkForm.TheVariants.{Inflating, Neutral, Locked, Inflated}
use Rattle.mark_word.specs.declared.owner.OwnerForm.{OwnerForm}
use Rattle.mark_word.specs.declared.owner.OwnerForm.TheVariants.{Free, ByThread, ByRecord}
use Rattle.mark_word.specs.Mark.{read_mark, mark_of}
use Rattle.mark_word.specs.Owner.{read_owner, owner_of}
use Rattle.mark_word.proofs.ReadingMarks.{read_mark-spells}
use Rattle.mark_word.proofs.ReadingOwners.{read_owner-owner_of}
use Rattle.plain_monitor.specs.declared.entry.Path.{Path}
use Rattle.plain_monitor.specs.declared.entry.Path.TheVariants.{MonitorFirst, MonitorAgain, StackFirst, StackAgain}
use Rattle.core_world.specs.declared.word_id.WordId.{WordId}
use Rattle.core_world.specs.declared.word_id.WordId.TheVariants.{Mark, Owner}
use Rattle.core_world.specs.declared.stage.Stage.{Stage}
use Rattle.core_world.specs.declared.stage.Stage.TheVariants.{MonitorAcquired, RecursionsRaised}
use Rattle.core_world.specs.declared.answer.Progress.{Progress}
use Rattle.core_world.specs.declared.answer.Progress.TheVariants.{Done}
use Rattle.core_world.specs.Words.Names.{same_name}
use Rattle.core_world.specs.Words.Shape.{Shape}
use Rattle.core_world.specs.Threads.ThreadView.{Local, Start}
use Rattle.core_world.specs.Trees.LockSteps.{hold_steps, stack_enter_at, stack_enter_steps}
use Rattle.core_world.specs.Trees.MonitorSteps.{inflate_steps, inflate_at, inflate_by, inflate_with, monitor_enter_steps, monitor_enter_at, record_steps}
use Rattle.core_world.specs.Trees.Operations.{enter_monitor_steps, enter_at}
use Rattle.core_world.specs.Trees.Plans.{CallContext, done_with}
use Rattle.core_world.specs.Trees.StepTree.{◌>>=◌}
use Rattle.core_world.specs.Words.Forms.{is_entering}
use Rattle.core_world.proofs.enter_exit.OwnersShown.{with_word_there}
use Rattle.core_calls.specs.Causes.{is_other_form, names_other}
use Rattle.solo_progress.specs.Answers.{PendsWhere, path_by}
use Rattle.solo_progress.proofs.OneRun.{Alone, QuietAt, alone_then, alone_either, load_leaves, not_inflating, DoneWith, alone_past}
use Rattle.solo_progress.proofs.Safe.{alone_progress}

-- who owns the monitor that an inflation of a mark of this form finds or makes, by the words f before and g after
abbrev pub OwnerAfter : Option MarkForm → (WordId → ℕ) → (WordId → ℕ) → ℕ → Type 0
OwnerAfter (Some (Inflated monitor)) f g m = (m ≡ monitor) × (g (Owner m) ≡ f (Owner m))
OwnerAfter (Some (Locked thread place)) f g m = g (Owner m) ≡ owner_of (ByRecord thread place)
OwnerAfter (Some (Neutral hash age)) f g m = g (Owner m) ≡ owner_of Free
OwnerAfter _ f g m = ⊥

-- a mark that was exchanged for 0 and then stored
named_some : (b : Bool) (m n : ℕ) → m ≢ 0 → n ≢ 0 → cond b m (cond b 0 n) ≢ 0
named_some true m n h g = h
named_some false m n h g = g

some_of : (m : ℕ) → mark_of (Inflated m) ≢ 0
some_of m z = absurd (omega (arith, z))

-- the word of a name after an exchange: m where it is the name and the exchange hit, and else what it was
pub one_some : (b c : Bool) (m n l : ℕ) → m ≢ 0 → n ≢ 0 → l ≢ 0 → cond b (cond c m l) n ≢ 0
one_some true true m n l h g i = h
one_some true false m n l h g i = i
one_some false c m n l h g i = g

pub own_word : (n : WordId) (v w : ℕ) → cond (same_name n n) v w ≡ v
own_word n v w = with_word_there n v (λ _. w)

module _ (safe : ℕ) (e : CallContext) (o : ℕ) where
  abbrev Makes : Option MarkForm → (WordId → ℕ) → (WordId → ℕ) → Progress ℕ → Type 0
  Makes form f g progress = DoneWith (λ m. QuietAt o safe g × OwnerAfter form f g m) progress

  with_alone : (form : Option MarkForm) (mark m : ℕ) (f g : WordId → ℕ) → g (Mark o) ≡ mark → QuietAt o safe g
      → Alone (λ h progress. Makes form f h progress) g (inflate_with form e o mark m)
  with_alone (Some (Locked thread place)) mark m f g is q =
      alone_either (λ h progress. Makes (Some (Locked thread place)) f h progress) _ (g (Mark o) == mark) _ _
      (λ hit. (
        record {
          mark = subst (λ n. cond (same_name (Mark o) (Mark o)) (mark_of (Inflated m))
              (cond (same_name (Mark o) (Mark o)) n (g (Mark o))) ≢ 0)
              (sym (ap (λ (b : Bool). cond b 0 (g (Mark o))) hit))
              (named_some (same_name (Mark o) (Mark o)) (mark_of (Inflated m)) (g (Mark o)) (some_of m) q.mark);
          safepoint = q.safepoint;
        },
        own_word (Owner m) (owner_of (ByRecord thread place)) _,
      ))
      (λ miss. let same = eq-eqb (g (Mark o)) mark is in absurd (cc (miss, same)))
  with_alone (Some (Neutral hash age)) mark m f g is q =
      alone_either (λ h progress. Makes (Some (Neutral hash age)) f h progress) _ (g (Mark o) == mark) _ _
      (λ hit. (
        record {
          mark = one_some (same_name (Mark o) (Mark o)) (g (Mark o) == mark) (mark_of (Inflated m)) (g (Mark o)) (g (Mark o))
              (some_of m) q.mark q.mark;
          safepoint = q.safepoint;
        },
        own_word (Owner m) (owner_of Free) _,
      ))
      (λ miss. let same = eq-eqb (g (Mark o)) mark is in absurd (cc (miss, same)))
  with_alone _ mark m f g is q = tt

  by_alone : (s : Shape) (kept : Option ℕ) (mark : ℕ) (f g : WordId → ℕ) → g (Mark o) ≡ mark → QuietAt o safe g
      → Alone (λ h progress. Makes (read_mark mark) f h progress) g (inflate_by kept s e o mark)
  by_alone s (Some m) mark f g is q = with_alone (read_mark mark) mark m f g is q
  by_alone s None mark f g is q = with_alone (read_mark mark) mark _ f _ is (record { mark = q.mark; safepoint = q.safepoint })

  at_alone : (form : Option MarkForm) (s : Shape) (kept : Option ℕ) (mark : ℕ) (f g : WordId → ℕ) → read_mark mark ≡ form → mark ≢ 0 → g (Mark o) ≡ mark
      → ((m : ℕ) → g (Owner m) ≡ f (Owner m)) → QuietAt o safe g
      → Alone (λ h progress. Makes form f h progress) g (inflate_at form s e kept o mark)
  at_alone (Some Inflating) s kept mark f g reads some is owners q = absurd (not_inflating mark some reads)
  at_alone (Some (Inflated monitor)) s kept mark f g reads some is owners q = (q, (refl, owners monitor))
  at_alone form s kept mark f g reads some is owners q =
      subst (λ x. Alone (λ h progress. Makes x f h progress) g (inflate_by kept s e o mark)) reads (by_alone s kept mark f g is q)

  pub inflate_alone : (s : Shape) (kept : Option ℕ) (f : WordId → ℕ) → QuietAt o safe f
      → Alone (λ h progress. Makes (read_mark (f (Mark o))) f h progress) f (inflate_steps s e kept o)
  inflate_alone s kept f q =
      at_alone (read_mark (f (Mark o))) s kept (f (Mark o)) f _ refl q.mark (load_leaves (Mark o) (Mark o) f) (λ m. refl)
      (record { mark = subst (λ n. n ≢ 0) (sym (load_leaves (Mark o) (Mark o) f)) q.mark; safepoint = q.safepoint })

module _ (e : CallContext) (k : Local) (o : ℕ) where
  -- a hold is stored by the path that it is given
  hold_alone : (path : Path) (f : WordId → ℕ) → Alone (λ g progress. progress ≡ Done path) f (hold_steps e k o path >>= λ path. done_with path)
  hold_alone path f =
      alone_then (λ g by. by ≡ path) (λ g progress. progress ≡ Done path) (hold_steps e k o path) (λ path. done_with path) f
      (alone_either (λ g by. by ≡ path) _ (is_entering k.wait) _ _ (λ _. refl) (λ _. refl)) (λ g by is. ap Done is)

  -- an enter by a lock record that is given the object's mark
  pub stack_enter_alone : (mark : ℕ) (f : WordId → ℕ) → f (Mark o) ≡ mark
      → Alone (λ g progress. progress ≡ Done (path_by (read_mark mark))) f (stack_enter_steps e k o mark)
  stack_enter_alone mark f is = by_form (read_mark mark)
    where
      by_form : (form : Option MarkForm) → Alone (λ g progress. progress ≡ Done (path_by form)) f (stack_enter_at form e k o mark)
      by_form (Some (Neutral hash age)) =
          alone_either (λ g progress. progress ≡ Done StackFirst) _ (f (Mark o) == mark) _ _ (λ _. hold_alone StackFirst _)
          (λ miss. let same = eq-eqb (f (Mark o)) mark is in absurd (cc (miss, same)))
      by_form (Some (Locked thread place)) = hold_alone StackAgain _
      by_form _ = tt

  record_alone : (stage : Stage) (by : Path) (f : WordId → ℕ) (b : Bool) → b ≡ false
      → Alone (λ g progress. PendsWhere b progress) f (record_steps e stage k o by)
  record_alone stage by f b free =
      alone_past (λ g progress. PendsWhere b progress) (hold_steps e k o by) _ _ (λ g path. free)

  -- by the owner word that is found
  pub monitor_enter_alone : (m : ℕ) (f : WordId → ℕ)
      → Alone (λ g progress. PendsWhere (names_other (f (Owner m)) k.thread) progress) f (monitor_enter_steps e k o m)
  monitor_enter_alone m f = by_form (read_owner (f (Owner m))) (f (Owner m)) _
    where
      by_form : (form : Option OwnerForm) (found : ℕ) (g : WordId → ℕ)
          → Alone (λ h progress. PendsWhere (is_other_form form k.thread) progress) g (monitor_enter_at form e k o m found)
      by_form (Some Free) found g = record_alone (MonitorAcquired o) MonitorFirst g false refl
      by_form (Some (ByThread thread)) found g =
          alone_either (λ h progress. PendsWhere (not (thread == k.thread)) progress) g (thread == k.thread) _ _
          (λ own. record_alone (RecursionsRaised o) MonitorAgain _ (not (thread == k.thread)) (ap not own)) (λ other. ap not other)
      by_form (Some (ByRecord thread place)) found g =
          alone_either (λ h progress. PendsWhere (not (thread == k.thread)) progress) g (thread == k.thread) _ _
          (λ own. record_alone (RecursionsRaised o) MonitorAgain _ (not (thread == k.thread)) (ap not own)) (λ other. ap not other)
      by_form None found g = tt

-- the mark says that a thread other than t has the lock, by itself or by the monitor's owner
abbrev pub owned_by : Option MarkForm → (WordId → ℕ) → ℕ → Bool
owned_by (Some (Locked thread place)) f t = not (thread == t)
owned_by (Some (Inflated monitor)) f t = names_other (f (Owner monitor)) t
owned_by _ f t = false

module _ (safe : ℕ) (e : CallContext) (k : Start) (o : ℕ) where
  abbrev t : ℕ
  t = k.local.thread

  by_monitor_alone : (s : Shape) (f : WordId → ℕ) → QuietAt o safe f
      → Alone (λ g progress. PendsWhere (owned_by (read_mark (f (Mark o))) f t) progress) f (enter_monitor_steps s e k o)
  by_monitor_alone s f q =
      alone_progress (λ g m. QuietAt o safe g × OwnerAfter (read_mark (f (Mark o))) f g m)
      (λ g progress. PendsWhere (owned_by (read_mark (f (Mark o))) f t) progress)
      (inflate_steps s e k.kept o) (λ m. monitor_enter_steps e k.local o m) f (inflate_alone safe e o s k.kept f q)
      (λ g m h. subst (λ b. Alone (λ g progress. PendsWhere b progress) g (monitor_enter_steps e k.local o m))
      (owner_told (read_mark (f (Mark o))) refl g m h.1) (monitor_enter_alone e k.local o m g))
    where
      owner_told : (form : Option MarkForm) → read_mark (f (Mark o)) ≡ form → (g : WordId → ℕ) (m : ℕ) → OwnerAfter form f g m
          → names_other (g (Owner m)) t ≡ owned_by form f t
      owner_told (Some (Inflated monitor)) reads g m h = ap (λ n. names_other n t) h.1 ∙ ap (λ i. names_other (f (Owner i)) t) h.0
      owner_told (Some (Locked thread place)) reads g m h =
          ap (λ n. names_other n t) h ∙ ap (λ form. is_other_form form t)
          (read_owner-owner_of (ByRecord thread place) ((read_mark-spells (f (Mark o)) (Locked thread place) reads).0))
      owner_told (Some (Neutral hash age)) reads g m h =
          ap (λ n. names_other n t) h ∙ ap (λ form. is_other_form form t) (read_owner-owner_of Free tt)
      owner_told _ reads g m h = absurd h

  pub enter_at_alone : (s : Shape) (f : WordId → ℕ) → QuietAt o safe f
      → Alone (λ g progress. PendsWhere (owned_by (read_mark (f (Mark o))) f t) progress) f (enter_at (read_mark (f (Mark o))) s e k o (f (Mark o)))
  enter_at_alone s f q = by_form (read_mark (f (Mark o))) refl
    where
      by_stack : (form : Option MarkForm) → (read_mark (f (Mark o)) ≡ form) → owned_by form f t ≡ false
          → Alone (λ g progress. PendsWhere (owned_by form f t) progress) f (stack_enter_at form e k.local o (f (Mark o)))
      by_stack (Some (Neutral hash age)) reads free =
          alone_either (λ g progress. PendsWhere false progress) _ (f (Mark o) == f (Mark o)) _ _
          (λ _. alone_past (λ g progress. PendsWhere false progress) (hold_steps e k.local o StackFirst) _ _ (λ g path. refl))
          (λ miss. let same = eq-eqb (f (Mark o)) (f (Mark o)) refl in absurd (cc (miss, same)))
      by_stack (Some (Locked thread place)) reads free =
          alone_past (λ g progress. PendsWhere (not (thread == t)) progress) (hold_steps e k.local o StackAgain) _ _ (λ g path. free)
      by_stack _ reads free = tt

      whole_stack : (form : Option MarkForm) → (read_mark (f (Mark o)) ≡ form) → owned_by form f t ≡ false
          → Alone (λ g progress. PendsWhere (owned_by form f t) progress) f (stack_enter_steps e k.local o (f (Mark o)))
      whole_stack form reads free =
          subst (λ x. Alone (λ g progress. PendsWhere (owned_by form f t) progress) f (stack_enter_at x e k.local o (f (Mark o)))) (sym reads)
          (by_stack form reads free)

      by_form : (form : Option MarkForm) → read_mark (f (Mark o)) ≡ form
          → Alone (λ g progress. PendsWhere (owned_by form f t) progress) f (enter_at form s e k o (f (Mark o)))
      by_form (Some Inflating) reads = absurd (not_inflating (f (Mark o)) q.mark reads)
      by_form (Some (Neutral hash age)) reads = whole_stack (Some (Neutral hash age)) reads refl
      by_form (Some (Locked thread place)) reads =
          alone_either (λ g progress. PendsWhere (not (thread == t)) progress) f (thread == t) _ _
          (λ own. whole_stack (Some (Locked thread place)) reads (ap not own))
          (λ _. subst (λ form. Alone (λ g progress. PendsWhere (owned_by form f t) progress) f (enter_monitor_steps s e k o)) reads
          (by_monitor_alone s f q))
      by_form (Some (Inflated monitor)) reads = monitor_enter_alone e k.local o monitor f
      by_form _ reads = tt
