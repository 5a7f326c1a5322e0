-- The steps of a revocation: lists of stores, and of which call they are.
use Rattle.std.proofs.Common.{◌≡◌, ℕ, zero, suc, ◌+◌, ◌-◌, ◌<◌, ◌≤◌, ◌==◌, ◌++◌, Bool, true, false, if◌then◌else◌}
use Rattle.std.proofs.Common.{List, [], ◌∷◌, length, drop, get_or, Option, Some, None, refl, ap, ◌∙◌, append_assoc}
use Rattle.std.proofs.lemmas.List.{drop_more, drop_all}
use Rattle.mark_word.specs.declared.mark.MarkForm.{MarkForm}
use Rattle.mark_word.specs.declared.mark.MarkForm.TheVariants.{Neutral, Anonymous, Biased}
use Rattle.mark_word.specs.Mark.{mark_of}
use Rattle.core_world.specs.declared.word_id.WordId.TheVariants.{Mark}
use Rattle.core_world.specs.declared.plan.LocalEffect.TheVariants as own
use Rattle.core_world.specs.Locks.{hold_count}
use Rattle.core_world.specs.RevocationRules.{Write, write, record_writes, revoke_biased}
use Rattle.core_world.specs.Threads.Stages.{Revocation}
use Rattle.core_world.specs.Trees.Plans.{CallContext}
use Rattle.core_world.specs.Trees.RevocationSteps.{revoke_plan, store_steps}
use Rattle.core_world.specs.Trees.StepTree.{StepTree, done, step, ◌>>=◌, all_from}
use Rattle.core_world.specs.Words.Forms.{is_biased_form}
use Rattle.core_world.specs.Words.Shape.{Shape}
use Rattle.safepoint_work.specs.declared.visit.Visit.{Visit}
use Rattle.safepoint_work.specs.declared.visit.Visit.TheVariants.{Renew, Revoke}
use Rattle.safepoint_work.specs.inner.RevokeParts.{mark_locked, record_write, record_steps, visit_form, thread_steps}
use Rattle.safepoint_work.proofs.After.{IsOfTask}

-- stores one after the other, in two parts
pub two_stores : (e : CallContext) (b : Revocation) (xs ys : List Write) → store_steps e b (xs ++ ys) ≡ (store_steps e b xs >>= (λ u. store_steps e b ys))
two_stores e b [] ys = refl
two_stores e b (x ∷ xs) ys = λ i. step (revoke_plan e b own.Unchanged x.at x.word) (λ n. two_stores e b xs ys i)

-- THE FIRST STEP, if there is one, is of the call for which they are made.
module _ (e : CallContext) (b : Revocation) where
  pub stores_of : (xs : List Write) → IsOfTask e.task (store_steps e b xs)
  stores_of [] = tt
  stores_of (x ∷ xs) = refl

  pub walk_of : (s : Shape) (c : ℕ) (v : Visit) (n : ℕ) → IsOfTask e.task (all_from 0 n (λ t. thread_steps s c e b v t))
  walk_of s c v zero = tt
  walk_of s c v (suc n) = refl

-- THE RECORDS of o: those of the thread's hold words from place i on, and then other stores
abbrev pub records_left : CallContext → Revocation → ℕ → ℕ → List ℕ → List Write → ℕ → StepTree (Unit {0})
records_left e b o t hs ys i = store_steps e b (record_writes o t i (drop i hs) ++ ys)

pub record_first : (e : CallContext) (b : Revocation) (o t : ℕ) (hs : List ℕ) (ys : List Write) (i : ℕ) → i < length hs
    → records_left e b o t hs ys i ≡ (record_steps e b o t i (get_or hs i 0) >>= (λ u. records_left e b o t hs ys (i + 1)))
record_first e b o t hs ys i less =
    let first = record_write o t i (get_or hs i 0) in
    let others = record_writes o t (i + 1) (drop (i + 1) hs) in
    ap (λ (l : List ℕ). store_steps e b (record_writes o t i l ++ ys)) (drop_more hs i 0 less)
    ∙ ap (store_steps e b) (append_assoc first others ys)
    ∙ two_stores e b first (others ++ ys)

pub records_none : (e : CallContext) (b : Revocation) (o t : ℕ) (hs : List ℕ) (ys : List Write) (i : ℕ)
    → length hs ≤ i → records_left e b o t hs ys i ≡ store_steps e b ys
records_none e b o t hs ys i all = ap (λ (l : List ℕ). store_steps e b (record_writes o t i l ++ ys)) (drop_all i hs all)

-- by whether the thread has a hold of o
pub unheld_writes : (o t : ℕ) (allowed : Bool) (hs : List ℕ) → (hold_count o hs == 0) ≡ true
    → revoke_biased o t allowed hs ≡ (write (Mark o) (mark_of (if allowed then Anonymous 0 0 else Neutral 0 0)) ∷ [])
unheld_writes o t allowed hs e =
    ap (λ (c : Bool). if c then write (Mark o) (mark_of (if allowed then Anonymous 0 0 else Neutral 0 0)) ∷ []
    else record_writes o t 0 hs ++ mark_locked o t hs) e

pub held_writes : (o t : ℕ) (allowed : Bool) (hs : List ℕ) → (hold_count o hs == 0) ≡ false
    → revoke_biased o t allowed hs ≡ (record_writes o t 0 hs ++ mark_locked o t hs)
held_writes o t allowed hs e =
    ap (λ (c : Bool). if c then write (Mark o) (mark_of (if allowed then Anonymous 0 0 else Neutral 0 0)) ∷ []
    else record_writes o t 0 hs ++ mark_locked o t hs) e

-- WHERE A MARK ISN'T BIASED nothing is done with it, so that no test is needed
pub biased_or_not : (v : Visit) (f : Option MarkForm) (e : CallContext) (b : Revocation) (o : ℕ)
    → (if is_biased_form f then visit_form v f e b o else done tt) ≡ visit_form v f e b o
biased_or_not v (Some (Anonymous epoch age)) e b o = refl
biased_or_not v (Some (Biased t epoch age)) e b o = refl
biased_or_not (Renew n) _ e b o = refl
biased_or_not Revoke _ e b o = refl

pub none_visited : (v : Visit) (e : CallContext) (b : Revocation) (o : ℕ) → visit_form v None e b o ≡ done tt
none_visited (Renew n) e b o = refl
none_visited Revoke e b o = refl
