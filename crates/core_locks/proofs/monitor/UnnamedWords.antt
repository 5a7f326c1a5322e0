-- A thread that stands where it stood stores a word of a monitor that no mark names: the clauses that read the word hold after it.
use Rattle.core_locks.proofs.Prelude.{◌≡◌, ◌≢◌, ℕ, ◌+◌, ◌<◌, ◌==◌, Bool, false, cond, List, length, Option, Some, refl, ap, ◌∙◌}
use Rattle.core_locks.proofs.Prelude.{MarkForm, read_mark, read_owner, Inflated, PlainObject, WordId, Owner, Recursions, Header, Object}
use Rattle.core_locks.proofs.Prelude.{StepPlan, is_neutral, monitor_in, monitor_form, Inflation, recursions_lowered, ThreadView, World}
use Rattle.core_locks.proofs.Prelude.{lock, lock_form, header_form, marks, displaced_words, headers, owner_words, prototype_of, inflations}
use Rattle.core_locks.proofs.Prelude.{owner_lock, CallContext, Fits, SeenFit, IsOwner, GoesOn, prepare_plan}
use Rattle.core_locks.proofs.MarkMeanings.{forms_owned, each_set}
use Rattle.core_locks.proofs.Clauses.{Clause, turned_parts, parts_turn, seen, forms, monitors, recursions, AllHold}
use Rattle.core_locks.proofs.Steps.{quietly, IsStep, GoesOnTo, Quiet, next, step_fits, seen_next}
use Rattle.core_locks.proofs.OwnSeen.{left_with, hit_world}

-- a lock and a header read the words of the monitor that their mark names alone
pub lock_unnamed : (f : Option MarkForm) (prototype : ℕ) (a b : ℕ → ℕ) (i : Option Inflation)
    → ((m : ℕ) → monitor_form f ≡ Some m → b m ≡ a m) → lock_form f prototype b i ≡ lock_form f prototype a i
lock_unnamed (Some (Inflated m)) prototype a b i h = ap (λ n. owner_lock (read_owner n)) (h m refl)
lock_unnamed _ prototype a b i h = refl

header_unnamed : (f : Option MarkForm) (mark : ℕ) (d : ℕ → ℕ → ℕ) (a b : ℕ → ℕ) (i : Option Inflation)
    → ((m : ℕ) → monitor_form f ≡ Some m → b m ≡ a m) → header_form f mark d b i ≡ header_form f mark d a i
header_unnamed (Some (Inflated m)) mark d a b i h = ap Some (h m refl)
header_unnamed _ mark d a b i h = refl

-- the store of this word into a word of m, in a world in which the thread's quiet steps leave what they leave
pub record StoresUnnamed (w : World) (P : List PlainObject) (t : ℕ) (e : CallContext) (m word : ℕ) : Type 0 where
  pub within : t < w.shape.threads
  pub goes_on : GoesOn (w.known t) e
  pub unnamed : (o a : ℕ) → monitor_in (marks w o) ≡ Some a → (a == m) ≡ false
  pub quiet : (l : ThreadView) (s : IsStep w t l quietly) (goes_on : GoesOnTo (w.known t) l) (c : Clause) → Quiet s P goes_on c
  pub fits : Fits w P

module _ (w : World) (P : List PlainObject) (t : ℕ) (e : CallContext) (m word : ℕ) (a : StoresUnnamed w P t e m word) where
  abbrev plan : WordId → StepPlan
  plan at = prepare_plan e (w.known t).stage at word

  abbrev l : WordId → ThreadView
  l at = left_with w t (plan at)

  abbrev x : WordId → World
  x at = hit_world w t (plan at)

  abbrev z : WordId → World
  z at = next w t (l at) quietly (x at).words

  -- each monitor that a mark names has the words that it had
  word_else : (f : ℕ → ℕ) (o i : ℕ) → monitor_in (marks w o) ≡ Some i → cond (i == m) word (f i) ≡ f i
  word_else f o i n = ap (λ (b : Bool). cond b word (f i)) (a.unnamed o i n)

  -- THE OWNER
  owner_step : IsStep w t (l (Owner m)) quietly
  owner_step = record { within = a.within; mine = refl; others = λ k. refl }

  owner_after : IsOwner w.shape (read_owner word) → SeenFit (x (Owner m)) P → AllHold (turned_parts w (z (Owner m)) P (lock w))
  owner_after form saw seen = seen_next owner_step (x (Owner m)).words P saw
  owner_after form saw forms = forms_owned m word a.fits.forms form
  owner_after form saw c = a.quiet (l (Owner m)) owner_step a.goes_on c

  pub owner_fits : IsOwner w.shape (read_owner word) → SeenFit (x (Owner m)) P → Fits (x (Owner m)) P
  owner_fits form saw = step_fits owner_step (x (Owner m)).words P (turned_parts w (z (Owner m)) P (lock w))
      (parts_turn w (z (Owner m)) P (lock w) refl (λ u. refl) (λ u. refl)
      (λ j. λ o. lock_unnamed (read_mark (marks w o)) (prototype_of w o) (owner_words w)
      (λ i. cond (i == m) word (owner_words w i)) (inflations w o) (word_else (owner_words w) o) j) refl refl) (owner_after form saw)

  -- THE RECURSIONS
  count_step : IsStep w t (l (Recursions m)) quietly
  count_step = record { within = a.within; mine = refl; others = λ k. refl }

  count_after : SeenFit (x (Recursions m)) P → AllHold (turned_parts w (z (Recursions m)) P (lock w))
  count_after saw seen = seen_next count_step (x (Recursions m)).words P saw
  count_after saw recursions = let v = a.fits in let else = word_else (λ i. w.words (Recursions i)) in record {
    first = v.recursions.first;
    others = v.recursions.others;
    owned = λ o i u n g b c. ap (λ k. k + recursions_lowered (w.known u).stage o) (else o i n) ∙ v.recursions.owned o i u n g b c;
    waiting = v.recursions.waiting;
    on_record = λ o i u p n g. else o i n ∙ v.recursions.on_record o i u p n g;
    free = λ o i n g. else o i n ∙ v.recursions.free o i n g;
    thread_owns = v.recursions.thread_owns;
  }
  count_after saw c = a.quiet (l (Recursions m)) count_step a.goes_on c

  pub count_fits : SeenFit (x (Recursions m)) P → Fits (x (Recursions m)) P
  count_fits saw = step_fits count_step (x (Recursions m)).words P (turned_parts w (z (Recursions m)) P (lock w))
      (parts_turn w (z (Recursions m)) P (lock w) refl (λ u. refl) (λ u. refl) refl refl refl) (count_after saw)

  -- THE HEADER
  head_step : IsStep w t (l (Header m)) quietly
  head_step = record { within = a.within; mine = refl; others = λ k. refl }

  head_after : SeenFit (x (Header m)) P → AllHold (turned_parts w (z (Header m)) P (lock w))
  head_after saw seen = seen_next head_step (x (Header m)).words P saw
  head_after saw monitors = record {
    own = a.fits.monitors.own;
    neutral = λ o i n. ap is_neutral (word_else (headers w) o i n) ∙ a.fits.monitors.neutral o i n;
    alone = a.fits.monitors.alone;
  }
  head_after saw c = a.quiet (l (Header m)) head_step a.goes_on c

  pub head_fits : SeenFit (x (Header m)) P → Fits (x (Header m)) P
  head_fits saw = step_fits head_step (x (Header m)).words P (turned_parts w (z (Header m)) P (lock w))
      (parts_turn w (z (Header m)) P (lock w) refl (λ u. refl) (λ u. refl) refl
      (λ j. λ o. header_unnamed (read_mark (marks w o)) (marks w o) (displaced_words w) (headers w)
      (λ i. cond (i == m) word (headers w i)) (inflations w o) (word_else (headers w) o) j) refl) (head_after saw)

  -- THE OBJECT
  object_step : IsStep w t (l (Object m)) quietly
  object_step = record { within = a.within; mine = refl; others = λ k. refl }

  object_after : (word ≢ 0 → word < length w.shape.objects) → SeenFit (x (Object m)) P → AllHold (turned_parts w (z (Object m)) P (lock w))
  object_after here saw seen = seen_next object_step (x (Object m)).words P saw
  object_after here saw forms = let v = a.fits in record {
    marks = v.forms.marks;
    owners = v.forms.owners;
    waits = v.forms.waits;
    objects = λ i. each_set (λ b y. y ≢ 0 → y < length w.shape.objects) m word (λ i. w.words (Object i)) i here (λ d. v.forms.objects i);
    holds = v.forms.holds;
    safepoint = v.forms.safepoint;
    classes = v.forms.classes;
  }
  object_after here saw monitors = record {
    own = λ o i n. word_else (λ i. w.words (Object i)) o i n ∙ a.fits.monitors.own o i n;
    neutral = a.fits.monitors.neutral;
    alone = a.fits.monitors.alone;
  }
  object_after here saw c = a.quiet (l (Object m)) object_step a.goes_on c

  pub object_fits : (word ≢ 0 → word < length w.shape.objects) → SeenFit (x (Object m)) P → Fits (x (Object m)) P
  object_fits here saw = step_fits object_step (x (Object m)).words P (turned_parts w (z (Object m)) P (lock w))
      (parts_turn w (z (Object m)) P (lock w) refl (λ u. refl) (λ u. refl) refl refl refl) (object_after here saw)
