-- An enter misses no exchange: it is pending exactly where another has the lock.
use Rattle.std.proofs.Common.{◌≡◌, ◌≢◌, ℕ, ◌<◌, ◌==◌, ◌&&◌, cond, not, Bool, true, false, Option}
use Rattle.std.proofs.Common.{Some, None, refl, sym, ap, ◌∙◌, subst, arith, eq-eqb, eqb-true}
use Rattle.std.proofs.lemmas.Bool.Decides.{nat_tests}
use Rattle.mark_word.specs.declared.mark.MarkForm.{MarkForm}
use Rattle.mark_word.specs.declared.mark.MarkForm.TheVariants.{Neutral, Anonymous, Biased, Inflated}
use Rattle.mark_word.specs.declared.owner.OwnerForm.{OwnerForm}
use Rattle.mark_word.specs.declared.owner.OwnerForm.TheVariants.{Free, ByThread, ByRecord}
use Rattle.mark_word.specs.Mark.{read_mark}
use Rattle.mark_word.specs.Owner.{read_owner}
use Rattle.plain_monitor.specs.Limits.{most_holds}
use Rattle.plain_monitor.specs.declared.entry.Path.{Path}
use Rattle.plain_monitor.specs.declared.entry.Path.TheVariants.{BiasOwn, BiasTaken}
use Rattle.core_world.specs.declared.word_id.WordId.{WordId}
use Rattle.core_world.specs.declared.word_id.WordId.TheVariants.{Mark, Prototype, Owner}
use Rattle.core_world.specs.declared.answer.BiasTry.{BiasTry}
use Rattle.core_world.specs.declared.answer.BiasTry.TheVariants.{Took, Unbiased, Valid, Raced}
use Rattle.core_world.specs.declared.answer.Progress.{Progress}
use Rattle.core_world.specs.declared.answer.Progress.TheVariants.{Done, Pending}
use Rattle.core_world.specs.declared.answer.PendingCause.TheVariants as why
use Rattle.core_world.specs.declared.stage.Stage.TheVariants.{Settled}
use Rattle.core_world.specs.declared.heap_call.Operation.TheVariants as op
use Rattle.core_world.specs.declared.heap_call.HeapCall.TheVariants as task
use Rattle.core_world.specs.Words.Names.{same_name}
use Rattle.core_world.specs.Words.Forms.{epoch_in, epoch_form, is_biased, is_biased_form}
use Rattle.core_world.specs.Words.Shape.{Shape}
use Rattle.core_world.specs.Words.Names.{class_by}
use Rattle.core_world.specs.Locks.{has_epoch, Open, BiasedTo, lock_form, owner_lock, holder, hold_count}
use Rattle.core_world.specs.RevocationRules.{holds_in}
use Rattle.core_world.specs.Threads.ThreadView.{Start}
use Rattle.core_world.specs.Threads.Stages.{Revocation}
use Rattle.core_world.specs.Trees.BiasSteps.{took_steps, rebias_steps, bias_enter_steps, bias_enter_by, bias_enter_at, bias_after_steps, bias_after_at}
use Rattle.core_world.specs.Trees.LockSteps.{hold_steps}
use Rattle.core_world.specs.Trees.Operations.{answer, enter_unbiased, enter_revoked, enter_tried, enter_going}
use Rattle.core_world.specs.Trees.Operations.{enter_steps, full_steps, goes_on_with, revocation_steps}
use Rattle.core_world.specs.Trees.Plans.{CallContext, call_context, free_place}
use Rattle.core_world.specs.Trees.SafepointSteps.{released_word}
use Rattle.core_world.specs.Trees.StepTree.{◌>>=◌}
use Rattle.core_world.proofs.Readings.{mark_zero}
use Rattle.core_calls.specs.CallsSay.{is_full}
use Rattle.core_calls.specs.Causes.{is_other_form, names_other}
use Rattle.solo_progress.specs.Alone.{AnswersAlone, Quiet, word_of_one}
use Rattle.solo_progress.specs.Answers.{is_other, is_anothers, is_others_form, is_others_bias, PendsWhere, PendsForOwner, RefusedWhere}
use Rattle.solo_progress.proofs.OneRun.{Alone, QuietAt, quiet_at, alone_then, alone_so, alone_either, alone_class, answers_alone, load_leaves, alone_past}
use Rattle.solo_progress.proofs.Safe.{alone_progress, revocation_alone}
use Rattle.solo_progress.proofs.Monitors.{own_word, owned_by, enter_at_alone}
use Rattle.solo_progress.proofs.Spares.{put_some}

owned_same : (form : Option MarkForm) (t : ℕ) (f g : WordId → ℕ) → ((m : ℕ) → g (Owner m) ≡ f (Owner m))
    → owned_by form g t ≡ owned_by form f t
owned_same (Some (Inflated monitor)) t f g h = ap (λ n. names_other n t) (h monitor)
owned_same _ t f g h = refl

neutral_unowned : (n hash age t : ℕ) (g : WordId → ℕ) → read_mark n ≡ Some (Neutral hash age) → owned_by (read_mark n) g t ≡ false
neutral_unowned n hash age t g reads = ap (λ form. owned_by form g t) reads

same_epoch : (a b : ℕ) → (a == b) ≡ false → (b == a) ≡ false
same_epoch a b h = grind (arith, nat_tests, h)

-- a loaded word leaves quiet words
pub quiet_load : (safe : ℕ) (o : ℕ) (f : WordId → ℕ) → QuietAt o safe f → QuietAt o safe (λ n. cond (same_name n (Mark o)) (f (Mark o)) (f n))
quiet_load safe o f q = record {
  mark = subst (λ n. n ≢ 0) (sym (load_leaves (Mark o) (Mark o) f)) q.mark;
  safepoint = q.safepoint;
}

-- WHO HAS THE LOCK, by a mark of this form
module _ (prototype t : ℕ) (f : WordId → ℕ) (count : ℕ → ℕ) where
  abbrev pub others : Option MarkForm → Bool
  others form = is_other (holder (lock_form form prototype (λ m. f (Owner m)) None) count) t

  by_owner : (form : Option OwnerForm) → is_other (holder (owner_lock form) count) t ≡ is_other_form form t
  by_owner None = refl
  by_owner (Some Free) = refl
  by_owner (Some (ByThread thread)) = refl
  by_owner (Some (ByRecord thread place)) = refl

  pub unbiased_other : (form : Option MarkForm) → is_biased_form form ≡ false → others form ≡ owned_by form f t
  unbiased_other (Some (Anonymous epoch age)) e = absurd (cc e)
  unbiased_other (Some (Biased thread epoch age)) e = absurd (cc e)
  unbiased_other (Some (Inflated monitor)) e = by_owner (read_owner (f (Owner monitor)))
  unbiased_other _ e = refl

  stale_other : (thread epoch age : ℕ) → has_epoch (epoch_in prototype) epoch ≡ false → others (Some (Biased thread epoch age)) ≡ false
  stale_other thread epoch age e = ap (λ (b : Bool). is_other (holder (cond b (BiasedTo thread) Open) count) t) e

  own_other : (thread epoch age : ℕ) → (thread == t) ≡ true → others (Some (Biased thread epoch age)) ≡ false
  own_other thread epoch age own = by_epoch (has_epoch (epoch_in prototype) epoch)
    where
      by_count : (c : Bool) → is_other (cond c None (Some thread)) t ≡ false
      by_count true = refl
      by_count false = ap not own

      by_epoch : (b : Bool) → is_other (holder (cond b (BiasedTo thread) Open) count) t ≡ false
      by_epoch true = by_count (count thread == 0)
      by_epoch false = refl

module _ (s : Shape) (safe : ℕ) (e : CallContext) (k : Start) (o : ℕ) where
  abbrev t : ℕ
  t = k.local.thread

  -- AN ATTEMPT ON THE BIAS of o, by the words f before and g after
  abbrev pub Tried : (WordId → ℕ) → (WordId → ℕ) → BiasTry → Type 0
  Tried f g (Took path) = is_anothers s f o t ≡ false
  Tried f g (Unbiased mark) = (g (Mark o) ≡ mark) × QuietAt o safe g × (owned_by (read_mark mark) g t ≡ is_anothers s f o t)
  Tried f g (Valid mark) = QuietAt o safe g × (is_others_bias s f o t ≡ true)
  Tried f g (Raced expected found) = ⊥

  took_alone : (f g : WordId → ℕ) (by : Path) → is_anothers s f o t ≡ false → Alone (λ h tried. Tried f h tried) g (took_steps e k.local o by)
  took_alone f g by free =
      alone_past (λ h tried. Tried f h tried) (hold_steps e k.local o by) _ g (λ h path. free)

  rebias_alone : (f g : WordId → ℕ) (epoch : ℕ) → g (Mark o) ≡ f (Mark o) → is_anothers s f o t ≡ false
      → Alone (λ h tried. Tried f h tried) g (rebias_steps e k.local o (f (Mark o)) epoch)
  rebias_alone f g epoch is free =
      alone_either (λ h tried. Tried f h tried) _ (g (Mark o) == f (Mark o)) _ _
      (λ _. took_alone f _ BiasTaken free) (λ miss. let same = eq-eqb (g (Mark o)) (f (Mark o)) is in absurd (cc (miss, same)))

  module _ (f : WordId → ℕ) (q : QuietAt o safe f) where
    abbrev c : ℕ
    c = class_by s f o

    abbrev count : ℕ → ℕ
    count u = hold_count o (holds_in f u)

    abbrev loaded : WordId → ℕ
    loaded n = cond (same_name n (Prototype c)) (f (Prototype c)) (cond (same_name n (Mark o)) (f (Mark o)) (f n))

    free : (form proto : Option MarkForm) → read_mark (f (Mark o)) ≡ form → is_biased_form form ≡ true
        → read_mark (f (Prototype c)) ≡ proto → epoch_form proto ≡ None → is_anothers s f o t ≡ false
    free (Some (Anonymous epoch age)) proto reads biased proto_reads none = ap (others (f (Prototype c)) t f count) reads
    free (Some (Biased thread epoch age)) proto reads biased proto_reads none =
        ap (others (f (Prototype c)) t f count) reads
        ∙ stale_other (f (Prototype c)) t f count thread epoch age
        (ap (λ p. has_epoch (epoch_form p) epoch) proto_reads ∙ ap (λ i. has_epoch i epoch) none)
    free _ proto reads biased proto_reads none = absurd (cc biased)

    proto_some : (hash age : ℕ) → read_mark (f (Prototype c)) ≡ Some (Neutral hash age) → f (Prototype c) ≢ 0
    proto_some hash age reads z = let zero_reads = ap read_mark z ∙ mark_zero in absurd (cc (reads, zero_reads))

    by_mark : (form : Option MarkForm) (epoch age : ℕ) → read_mark (f (Mark o)) ≡ form
        → read_mark (f (Prototype c)) ≡ Some (Anonymous epoch age)
        → Alone (λ g tried. Tried f g tried) loaded (bias_enter_at form epoch e k.local o (f (Mark o)))
    by_mark (Some (Biased thread old oldage)) epoch age reads proto =
        alone_either (λ g tried. Tried f g tried) loaded (old == epoch) _ _
        (λ valid. alone_either (λ g tried. Tried f g tried) loaded (thread == t) _ _
        (λ own. took_alone f loaded BiasOwn
        (ap (others (f (Prototype c)) t f count) reads ∙ own_other (f (Prototype c)) t f count thread old oldage own))
        (λ other. (
          quiet_loaded,
          ap (λ form. is_others_form form (f (Prototype c)) t) reads
              ∙ ap (λ p. has_epoch (epoch_form p) old && not (thread == t)) proto
              ∙ ap (λ (b : Bool). b && not (thread == t)) (eq-eqb epoch old (sym (eqb-true old epoch valid)))
              ∙ ap not other,
        )))
        (λ stale. rebias_alone f loaded epoch (load_leaves (Mark o) (Mark o) f)
        (ap (others (f (Prototype c)) t f count) reads ∙ stale_other (f (Prototype c)) t f count thread old oldage
        (ap (λ p. has_epoch (epoch_form p) old) proto ∙ same_epoch old epoch stale)))
      where
        quiet_loaded : QuietAt o safe loaded
        quiet_loaded = record {
          mark = subst (λ n. n ≢ 0) (sym (load_leaves (Mark o) (Mark o) f)) q.mark;
          safepoint = q.safepoint;
        }
    by_mark (Some (Anonymous old oldage)) epoch age reads proto =
        rebias_alone f loaded epoch (load_leaves (Mark o) (Mark o) f) (ap (others (f (Prototype c)) t f count) reads)
    by_mark _ epoch age reads proto = tt

    by_prototype : (form : Option MarkForm) → read_mark (f (Prototype c)) ≡ form → is_biased (f (Mark o)) ≡ true
        → Alone (λ g tried. Tried f g tried) loaded (bias_enter_by form e k.local o (f (Mark o)) (f (Prototype c)))
    by_prototype (Some (Neutral hash age)) reads biased =
        alone_either (λ g tried. Tried f g tried) _ (loaded (Mark o) == f (Mark o)) _ _
        (λ hit. (
          own_word (Mark o) _ _ ∙ ap (λ (b : Bool). cond b (f (Prototype c)) (loaded (Mark o))) hit,
          record {
            mark = put_some (same_name (Mark o) (Mark o)) _ _
                (put_some (loaded (Mark o) == f (Mark o)) (f (Prototype c)) (loaded (Mark o)) (proto_some hash age reads)
                (subst (λ n. n ≢ 0) (sym (load_leaves (Mark o) (Mark o) f)) q.mark))
                (subst (λ n. n ≢ 0) (sym (load_leaves (Mark o) (Mark o) f)) q.mark);
            safepoint = q.safepoint;
          },
          neutral_unowned (f (Prototype c)) hash age t _ reads ∙ sym
              (free (read_mark (f (Mark o))) (Some (Neutral hash age)) refl biased reads refl),
        ))
        (λ miss. let same = eq-eqb (loaded (Mark o)) (f (Mark o)) (load_leaves (Mark o) (Mark o) f) in absurd (cc (miss, same)))
    by_prototype (Some (Anonymous epoch age)) reads biased = by_mark (read_mark (f (Mark o))) epoch age refl reads
    by_prototype _ reads biased = tt

    pub bias_enter_alone : Alone (λ g tried. Tried f g tried) f (bias_enter_steps s e k.local o)
    bias_enter_alone =
        alone_either (λ g tried. Tried f g tried) _ (is_biased (f (Mark o))) _ _
        (λ biased. alone_class (λ g tried. Tried f g tried) e Settled s o _ _ (by_prototype (read_mark (f (Prototype c))) refl biased))
        (λ unbiased. (
          load_leaves (Mark o) (Mark o) f,
          quiet_load safe o f q,
          owned_same (read_mark (f (Mark o))) t f _ (λ m. refl) ∙ sym
              (unbiased_other (f (Prototype c)) t f count (read_mark (f (Mark o))) unbiased),
        ))

  -- AN ENTER after the attempt
  pub unbiased_alone : (b : Bool) (g : WordId → ℕ) (mark : ℕ) → g (Mark o) ≡ mark → QuietAt o safe g → owned_by (read_mark mark) g t ≡ b
      → Alone (λ h progress. PendsWhere b progress) g (enter_unbiased (Unbiased mark) s e k o)
  unbiased_alone b g mark is q owned =
      subst (λ n. Alone (λ h progress. PendsWhere b progress) g (enter_unbiased (Unbiased n) s e k o)) is
      (subst (λ x. Alone (λ h progress. PendsWhere x progress) g (enter_unbiased (Unbiased (g (Mark o))) s e k o))
      (ap (λ n. owned_by (read_mark n) g t) is ∙ owned) (enter_at_alone safe e k o s g q))

-- the weaker word
pub for_owner : {A : Type 0} (b : Bool) (progress : Progress A) → PendsWhere b progress → PendsForOwner progress
for_owner b (Done a) h = tt
for_owner b (Pending (why.Owned word)) h = tt
for_owner b (Pending _) h = absurd h

module _ (s : Shape) (e : CallContext) (k : Start) (o now : ℕ) (rebias : Bool) (low : k.local.thread < 32) where
  abbrev u : ℕ
  u = k.local.thread

  abbrev b : Revocation
  b = record { object = o; rebias = rebias; now = now }

  -- an attempt after a revocation
  abbrev Again : (WordId → ℕ) → BiasTry → Type 0
  Again g (Took path) = Unit {0}
  Again g (Unbiased mark) = (g (Mark o) ≡ mark) × QuietAt o (released_word u) g
  Again g (Valid mark) = Unit {0}
  Again g (Raced expected found) = ⊥

  again_alone : (took : Bool) (f : WordId → ℕ) → QuietAt o (released_word u) f → Alone Again f (bias_after_steps e k.local o took)
  again_alone took f q =
      alone_either Again _ (is_biased (f (Mark o))) _ _
      (λ _. by_form (read_mark (f (Mark o))) _)
      (λ _. (load_leaves (Mark o) (Mark o) f, quiet_load (released_word u) o f q))
    where
      by_form : (form : Option MarkForm) (g : WordId → ℕ) → Alone Again g (bias_after_at form e k.local o)
      by_form (Some (Biased thread epoch age)) g =
          alone_either Again g (thread == u) _ _
          (λ _. alone_past Again (hold_steps e k.local o BiasTaken) _ g (λ h path. tt))
          (λ _. tt)
      by_form _ g = tt

  revoked_alone : (requesting : Bool) (f : WordId → ℕ) → QuietAt o (word_of_one requesting u) f
      → Alone (λ g progress. PendsForOwner progress) f (enter_revoked s requesting e k b)
  revoked_alone requesting f q =
      alone_progress (λ g (x : Bool). QuietAt o (released_word u) g) (λ g progress. PendsForOwner progress) (revocation_steps s u requesting e b) _ f
      (revocation_alone u low s requesting e b f q)
      (λ g took q. alone_then Again (λ h progress. PendsForOwner progress) (bias_after_steps e k.local o took) _ g (again_alone took g q) by_tried)
    where
      by_tried : (g : WordId → ℕ) (tried : BiasTry) → Again g tried → Alone (λ h progress. PendsForOwner progress) g (enter_unbiased tried s e k o)
      by_tried g (Took path) h = tt
      by_tried g (Unbiased mark) h =
          alone_so (λ h progress. PendsWhere (owned_by (read_mark mark) g u) progress) (λ h progress. PendsForOwner progress)
          (enter_unbiased (Unbiased mark) s e k o) g
          (unbiased_alone s (released_word u) e k o (owned_by (read_mark mark) g u) g mark h.0 h.1 refl)
          (λ h progress x. for_owner (owned_by (read_mark mark) g u) progress x)
      by_tried g (Valid mark) h = tt
      by_tried g (Raced expected found) h = absurd h

  -- the same exactly, by the words after the revocation
  abbrev Anew : (WordId → ℕ) → (WordId → ℕ) → BiasTry → Type 0
  Anew f g (Took path) = is_anothers s f o u ≡ false
  Anew f g (Unbiased mark) = (g (Mark o) ≡ mark) × QuietAt o (released_word u) g × (owned_by (read_mark mark) g u ≡ is_anothers s f o u)
  Anew f g (Valid mark) = Unit {0}
  Anew f g (Raced expected found) = ⊥

  anew_alone : (took : Bool) (f : WordId → ℕ) → QuietAt o (released_word u) f
      → Alone (λ g tried. Anew f g tried) f (bias_after_steps e k.local o took)
  anew_alone took f q =
      alone_either (λ g tried. Anew f g tried) _ (is_biased (f (Mark o))) _ _
      (λ _. by_form (read_mark (f (Mark o))) refl _)
      (λ unbiased. (
        load_leaves (Mark o) (Mark o) f,
        quiet_load (released_word u) o f q,
        owned_same (read_mark (f (Mark o))) u f _ (λ m. refl) ∙ sym
            (unbiased_other (f (Prototype (class_by s f o))) u f (λ i. hold_count o (holds_in f i)) (read_mark (f (Mark o))) unbiased),
      ))
    where
      by_form : (form : Option MarkForm) → read_mark (f (Mark o)) ≡ form → (g : WordId → ℕ)
          → Alone (λ h tried. Anew f h tried) g (bias_after_at form e k.local o)
      by_form (Some (Biased thread epoch age)) reads g =
          alone_either (λ h tried. Anew f h tried) g (thread == u) _ _
          (λ own. alone_past (λ h tried. Anew f h tried) (hold_steps e k.local o BiasTaken) _ g
          (λ h path. ap (others (f (Prototype (class_by s f o))) u f (λ i. hold_count o (holds_in f i))) reads ∙ own_other
          (f (Prototype (class_by s f o))) u f (λ i. hold_count o (holds_in f i)) thread epoch age own))
          (λ _. tt)
      by_form _ reads g = tt

  pub after_alone : (took : Bool) (f : WordId → ℕ) → QuietAt o (released_word u) f
      → Alone (λ g progress. PendsWhere (is_anothers s f o u) progress) f
      (bias_after_steps e k.local o took >>= λ tried. enter_unbiased tried s e k o)
  after_alone took f q =
      alone_then (λ g tried. Anew f g tried) (λ g progress. PendsWhere (is_anothers s f o u) progress) (bias_after_steps e k.local o took) _ f
      (anew_alone took f q) by_tried
    where
      by_tried : (g : WordId → ℕ) (tried : BiasTry) → Anew f g tried
          → Alone (λ h progress. PendsWhere (is_anothers s f o u) progress) g (enter_unbiased tried s e k o)
      by_tried g (Took path) h = h
      by_tried g (Unbiased mark) h = unbiased_alone s (released_word u) e k o (is_anothers s f o u) g mark h.0 h.1 h.2
      by_tried g (Valid mark) h = tt
      by_tried g (Raced expected found) h = absurd h

  -- without a revocation: exactly where another has the lock
  exact_alone : (f : WordId → ℕ) → k.requesting ≡ false → is_others_bias s f o u ≡ false → QuietAt o (released_word u) f
      → Alone (λ g progress. PendsWhere (is_anothers s f o u) progress) f (enter_going s e k b)
  exact_alone f none unrevoked q =
      alone_either (λ g progress. PendsWhere (is_anothers s f o u) progress) f k.requesting _ _ (λ asks. absurd (cc (none, asks)))
      (λ _. alone_then (λ g tried. Tried s (released_word u) e k o f g tried) (λ g progress. PendsWhere (is_anothers s f o u) progress)
      (bias_enter_steps s e k.local o) _ f
      (bias_enter_alone s (released_word u) e k o f q) by_tried)
    where
      by_tried : (g : WordId → ℕ) (tried : BiasTry) → Tried s (released_word u) e k o f g tried
          → Alone (λ h progress. PendsWhere (is_anothers s f o u) progress) g (enter_tried tried s e k b)
      by_tried g (Took path) h = h
      by_tried g (Unbiased mark) h = unbiased_alone s (released_word u) e k o (is_anothers s f o u) g mark h.0 h.1 h.2
      by_tried g (Valid mark) h = let valid = h.1 in absurd (cc (valid, unrevoked))
      by_tried g (Raced expected found) h = absurd h

  -- with one: pending for an owner alone
  going_alone : (f : WordId → ℕ) → QuietAt o (word_of_one k.requesting u) f → Alone (λ g progress. PendsForOwner progress) f (enter_going s e k b)
  going_alone f q =
      alone_either (λ g progress. PendsForOwner progress) f k.requesting _ _
      (λ asks. revoked_alone true f (subst (λ (r : Bool). QuietAt o (word_of_one r u) f) asks q))
      (λ none. alone_then (λ g tried. Tried s (released_word u) e k o f g tried) (λ g progress. PendsForOwner progress)
      (bias_enter_steps s e k.local o) _ f
      (bias_enter_alone s (released_word u) e k o f (subst (λ (r : Bool). QuietAt o (word_of_one r u) f) none q)) by_tried)
    where
      by_tried : (g : WordId → ℕ) (tried : BiasTry) → Tried s (released_word u) e k o f g tried
          → Alone (λ h progress. PendsForOwner progress) g (enter_tried tried s e k b)
      by_tried g (Took path) h = tt
      by_tried g (Unbiased mark) h =
          alone_so (λ i progress. PendsWhere (is_anothers s f o u) progress) (λ i progress. PendsForOwner progress) (enter_unbiased (Unbiased mark) s e k o) g
          (unbiased_alone s (released_word u) e k o (is_anothers s f o u) g mark h.0 h.1 h.2)
          (λ i progress x. for_owner (is_anothers s f o u) progress x)
      by_tried g (Valid mark) h = revoked_alone false g h.0
      by_tried g (Raced expected found) h = absurd h

-- THE CALL
pub few_free : (k : Start) (o : ℕ) → (free_place k.local.holds == most_holds) ≡ false → is_full k o ≡ false
few_free k o few = ap (λ (b : Bool). b && not (goes_on_with op.Enter o k.unfinished)) few

pub new_full : (k : Start) (o : ℕ) → (free_place k.local.holds == most_holds) ≡ true → goes_on_with op.Enter o k.unfinished ≡ false
    → is_full k o ≡ true
new_full k o full new = ap (λ (b : Bool). b && not (goes_on_with op.Enter o k.unfinished)) full ∙ ap not new

full_alone : (k : Start) (o : ℕ) (P : Progress Path → Type 0) (f : WordId → ℕ) → (free_place k.local.holds == most_holds) ≡ true
    → Alone (λ g a. RefusedWhere (is_full k o) P a) f (full_steps k o)
full_alone k o P f full =
    alone_either (λ g a. RefusedWhere (is_full k o) P a) f (goes_on_with op.Enter o k.unfinished) _ _ (λ _. tt)
    (λ new. new_full k o full new)

pub enters_where : (s : Shape) (k : Start) (o now : ℕ) (f : WordId → ℕ) → k.local.thread < 32 → k.requesting ≡ false
    → Quiet (released_word k.local.thread) f
    → is_others_bias s f o k.local.thread ≡ false
    → AnswersAlone f (enter_steps s k o now) (RefusedWhere (is_full k o) (PendsWhere (is_anothers s f o k.local.thread)))
enters_where s k o now f low none q unrevoked =
    answers_alone (RefusedWhere (is_full k o) (PendsWhere (is_anothers s f o k.local.thread))) f (enter_steps s k o now)
    (alone_either (λ g a. RefusedWhere (is_full k o) (PendsWhere (is_anothers s f o k.local.thread)) a) f
    (free_place k.local.holds == most_holds) _ _ (λ full. full_alone k o _ f full)
    (λ few. alone_then (λ g progress. PendsWhere (is_anothers s f o k.local.thread) progress)
    (λ g a. RefusedWhere (is_full k o) (PendsWhere (is_anothers s f o k.local.thread)) a)
    (enter_going s (call_context (task.Enter o now) op.Enter o) k (record { object = o; rebias = true; now = now })) answer f
    (exact_alone s (call_context (task.Enter o now) op.Enter o) k o now true low f none unrevoked (quiet_at o q)) (λ g a h. (few_free k o few, h))))

pub enters_through : (s : Shape) (k : Start) (o now : ℕ) (f : WordId → ℕ) → k.local.thread < 32
    → Quiet (word_of_one k.requesting k.local.thread) f
    → AnswersAlone f (enter_steps s k o now) (RefusedWhere (is_full k o) PendsForOwner)
enters_through s k o now f low q = answers_alone (RefusedWhere (is_full k o) PendsForOwner) f (enter_steps s k o now)
    (alone_either (λ g a. RefusedWhere (is_full k o) PendsForOwner a) f (free_place k.local.holds == most_holds) _ _
    (λ full. full_alone k o _ f full)
    (λ few. alone_then (λ g progress. PendsForOwner progress) (λ g a. RefusedWhere (is_full k o) PendsForOwner a)
    (enter_going s (call_context (task.Enter o now) op.Enter o) k (record { object = o; rebias = true; now = now })) answer f
    (going_alone s (call_context (task.Enter o now) op.Enter o) k o now true low f (quiet_at o q)) (λ g a h. (few_free k o few, h))))
