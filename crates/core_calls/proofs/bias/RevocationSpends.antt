-- The steps of a revocation at a safepoint are quiet, and at most so many.
use Rattle.std.proofs.Common.{◌≡◌, ℕ, ◌+◌, ◌*◌, ◌≤◌, ◌==◌, cond, if◌then◌else◌, Bool, true, false, List, []}
use Rattle.std.proofs.Common.{◌≡◌, ◌∷◌, ◌++◌, length, Option, Some, None, refl, arith, length-append}
use Rattle.mark_word.specs.declared.mark.MarkForm.{MarkForm}
use Rattle.mark_word.specs.declared.mark.MarkForm.TheVariants.{Neutral, Anonymous, Biased, Locked}
use Rattle.mark_word.specs.Mark.{mark_of, read_mark}
use Rattle.mark_word.specs.Hold.{read_hold}
use Rattle.lock_policy.specs.declared.policy.Verdict.{Verdict}
use Rattle.lock_policy.specs.declared.policy.Verdict.TheVariants.{Single, BulkRebias, BulkRevoke}
use Rattle.lock_policy.specs.Policy.{decided}
use Rattle.plain_monitor.specs.Limits.{most_holds}
use Rattle.core_world.specs.declared.word_id.WordId.{WordId}
use Rattle.core_world.specs.declared.word_id.WordId.TheVariants.{Prototype, LastBulk, Mark, Hold, Displaced}
use Rattle.core_world.specs.Words.Shape.{Shape}
use Rattle.core_world.specs.Words.Forms.{epoch_in, is_biased, names, hold_word}
use Rattle.core_world.specs.Threads.Stages.{Revocation}
use Rattle.core_world.specs.RevocationRules.{Write, write, raised_form, with_epoch, store_where, object_held}
use Rattle.core_world.specs.RevocationRules.{biased_word, record_writes, first_place, revoke_biased}
use Rattle.core_world.specs.Locks.{hold_count, is_valid_bias}
use Rattle.core_world.specs.Trees.StepTree.{StepTree, each_from}
use Rattle.core_world.specs.Trees.Plans.{CallContext}
use Rattle.core_world.specs.Trees.RevocationSteps.{look, store_steps, revoke_at, revoke_steps, visit_held, walk_steps}
use Rattle.core_world.specs.Trees.RevocationSteps.{take_bias_steps, next_epoch, bulk_rebias_steps, bulk_revoke_steps}
use Rattle.core_world.specs.Trees.RevocationSteps.{verdict_steps, decided_steps, revoke_at_safepoint_steps, revocation_stage}
use Rattle.core_world.specs.declared.plan.StepPlan.{StepPlan}
use Rattle.core_world.specs.declared.act.Act.TheVariants.{Store}
use Rattle.core_world.specs.declared.stage.Stage.TheVariants.{Settled}
use Rattle.core_calls.specs.Moments.{moment_of}
use Rattle.core_calls.proofs.Paths.{IsQuietIf}
use Rattle.core_calls.proofs.Stays.{IsSparing, IsPlainMark, load_spares}
use Rattle.core_calls.proofs.Spends.{Spend, spend_done, spend_never, spend_more, spend_either, spend_then}
use Rattle.core_calls.proofs.Spends.{spend_both, spend_all, spend_each, quiet_step, of_call, quiet_class}

-- A REVOCATION stores in marks, displaced words and the words of a class; its marks are plain.
abbrev AreSparing : List Write → Type 0
AreSparing [] = Unit {0}
AreSparing (x ∷ xs) = IsSparing x.at (Store x.word) × AreSparing xs

sparing_both : (xs ys : List Write) → AreSparing xs → AreSparing ys → AreSparing (xs ++ ys)
sparing_both [] ys h g = g
sparing_both (x ∷ xs) ys h g = (h.0, sparing_both xs ys h.1 g)

records_sparing : (o t p : ℕ) (hs : List ℕ) → AreSparing (record_writes o t p hs)
records_sparing o t p [] = tt
records_sparing o t p (h ∷ hs) = cases (names o h) (records_sparing o t (p + 1) hs)
  where
    cases : (b : Bool) → AreSparing (record_writes o t (p + 1) hs)
        → AreSparing ((if b then write (Displaced t p) (if h == hold_word o 1 then mark_of
        (Neutral 0 0) else 0) ∷ [] else []) ++ record_writes o t (p + 1) hs)
    cases true more = (tt, more)
    cases false more = more

locked_plain : (t p : ℕ) → IsPlainMark (mark_of (Locked t p))
locked_plain t p = (λ z. absurd (omega (arith, z)), λ z. absurd (omega (arith, z)))

revoked_sparing : (o t : ℕ) (allowed : Bool) (hs : List ℕ) → AreSparing (revoke_biased o t allowed hs)
revoked_sparing o t allowed hs = cases (hold_count o hs == 0)
  where
    freed_plain : (c : Bool) → IsPlainMark (mark_of (if c then Anonymous 0 0 else Neutral 0 0))
    freed_plain true = (λ z. absurd (omega (arith, z)), λ z. absurd (omega (arith, z)))
    freed_plain false = (λ z. absurd (omega (arith, z)), λ z. absurd (omega (arith, z)))

    cases : (b : Bool)
        → AreSparing (if b then write (Mark o) (mark_of
        (if allowed then Anonymous 0 0 else Neutral 0 0)) ∷ [] else record_writes o t 0 hs ++ write (Mark o) (mark_of (Locked t
        (first_place o hs))) ∷ [])
    cases true = (freed_plain allowed, tt)
    cases false = sparing_both (record_writes o t 0 hs) _ (records_sparing o t 0 hs) (locked_plain t (first_place o hs), tt)

abbrev SomeIsPlain : Option ℕ → Type 0
SomeIsPlain None = Unit {0}
SomeIsPlain (Some word) = IsPlainMark word

epoch_plain : (form : Option MarkForm) (epoch : Option ℕ) → SomeIsPlain (with_epoch form epoch)
epoch_plain (Some (Anonymous i age)) (Some epoch) = (λ z. absurd (omega (arith, z)), λ z. absurd (omega (arith, z)))
epoch_plain (Some (Biased t i age)) (Some epoch) = (λ z. absurd (omega (arith, z)), λ z. absurd (omega (arith, z)))
epoch_plain _ _ = tt

biased_plain : (biased : Bool) (epoch : Option ℕ) (t : ℕ) → SomeIsPlain (biased_word biased epoch t)
biased_plain true (Some epoch) t = (λ z. absurd (omega (arith, z)), λ z. absurd (omega (arith, z)))
biased_plain _ _ t = tt

neutral_plain : IsPlainMark (mark_of (Neutral 0 0))
neutral_plain = (λ z. absurd (omega (arith, z)), λ z. absurd (omega (arith, z)))

-- a quiet step that spares, which is of its call if the revocation's moment is the call's
abbrev pub IsRevocationStep : CallContext → Revocation → StepPlan → Type 0
IsRevocationStep e b p = IsQuietIf (moment_of e.task ≡ Some b.now) IsSparing e p

module _ (e : CallContext) (b : Revocation) where
  pub look_spends : (at : WordId) → Spend (IsRevocationStep e b) (λ _. 0) 1 (look e b at)
  look_spends at = quiet_step refl refl refl (load_spares at) (λ _. of_call refl tt) (λ _. spend_done (omega arith))

  pub store_spends : (writes : List Write) → AreSparing writes → Spend (IsRevocationStep e b) (λ _. 0) (length writes) (store_steps e b writes)
  store_spends [] so = spend_done (omega arith)
  store_spends (x ∷ xs) so =
      spend_more (omega arith) (quiet_step {n = length xs} refl refl refl so.0 (λ _. of_call refl tt) (λ _. store_spends xs so.1))

-- no more stores than hold words, and the mark's
records_short : (o t p : ℕ) (hs : List ℕ) → length (record_writes o t p hs) ≤ length hs
records_short o t p [] = omega arith
records_short o t p (h ∷ hs) = cases (names o h) (records_short o t (p + 1) hs)
  where
    cases : (b : Bool) → length (record_writes o t (p + 1) hs) ≤ length hs
        → length ((if b then write (Displaced t p) (if h == hold_word o 1 then mark_of (Neutral 0 0) else 0) ∷ [] else [])
        ++ record_writes o t (p + 1) hs) ≤ length (h ∷ hs)
    cases true short = omega (arith, short)
    cases false short = omega (arith, short)

revoked_short : (o t : ℕ) (allowed : Bool) (hs : List ℕ) → length (revoke_biased o t allowed hs) ≤ length hs + 1
revoked_short o t allowed hs = cases (hold_count o hs == 0)
  where
    cases : (b : Bool) → length (if b then write (Mark o) (mark_of (if allowed then Anonymous 0 0 else Neutral 0 0)) ∷ []
        else record_writes o t 0 hs ++ write (Mark o) (mark_of (Locked t (first_place o hs))) ∷ []) ≤ length hs + 1
    cases true = omega arith
    cases false = omega (arith, records_short o t 0 hs, length-append (record_writes o t 0 hs) (write (Mark o) (mark_of (Locked t (first_place o hs))) ∷ []))

module _ (e : CallContext) (b : Revocation) where
  -- 64 hold words are loaded, and 65 stores made at most
  revoke_at_spends : (form : Option MarkForm) (o : ℕ) (allowed : Bool) → Spend (IsRevocationStep e b) (λ _. 0) 129 (revoke_at form e b o allowed)
  revoke_at_spends (Some (Anonymous epoch age)) o allowed = stores allowed
    where
      stores : (allowed : Bool) → Spend (IsRevocationStep e b) (λ _. 0) 129 (store_steps e b (cond allowed [] (write (Mark o) (mark_of (Neutral 0 0)) ∷ [])))
      stores true = spend_done (omega arith)
      stores false = spend_more (omega arith) (store_spends e b (write (Mark o) (mark_of (Neutral 0 0)) ∷ []) (neutral_plain, tt))
  revoke_at_spends (Some (Biased thread epoch age)) o allowed =
      spend_then {d = each_from 0 most_holds (λ p. look e b (Hold thread p))} (spend_each {n = 1} 0 most_holds 1 (λ p. look_spends e b (Hold thread p)))
      (λ holds. spend_more (revoked_short o thread allowed holds)
      (store_spends e b (revoke_biased o thread allowed holds) (revoked_sparing o thread allowed holds)))
  revoke_at_spends _ o allowed = spend_done (omega arith)

  revoke_spends : (o : ℕ) (allowed : Bool) → Spend (IsRevocationStep e b) (λ _. 0) 130 (revoke_steps e b o allowed)
  revoke_spends o allowed = quiet_step {n = 129} refl refl refl tt (λ _. of_call refl tt) (λ mark. revoke_at_spends (read_mark mark) o allowed)

  module _ (s : Shape) (c : ℕ) (visit : ℕ → ℕ → StepTree (Unit {0})) (n : ℕ)
      (within : (o mark : ℕ) → Spend (IsRevocationStep e b) (λ _. 0) n (visit o mark)) where
    visit_spends : (held : Option ℕ) → Spend (IsRevocationStep e b) (λ _. 0) (n + 2) (visit_held s c e b visit held)
    visit_spends None = spend_done (omega arith)
    visit_spends (Some o) =
        spend_more (omega arith) (quiet_class {n = n + 1} e (revocation_stage b) s o tt (λ class. spend_either (class == c)
        (spend_more (omega arith) (quiet_step {n = n} refl refl refl tt (λ _. of_call refl tt)
        (λ mark. spend_either (is_biased mark) (within o mark) (spend_done (omega arith)))))
        (spend_done (omega arith))))

    walk_spends : Spend (IsRevocationStep e b) (λ _. 0) (s.threads * (64 * (n + 3))) (walk_steps s c e b visit)
    walk_spends =
        spend_all {n = 64 * (n + 3)} 0 s.threads (λ t. spend_all {n = n + 3} 0 most_holds
        (λ p. spend_both (look_spends e b (Hold t p)) (λ hold. visit_spends (object_held (read_hold hold))) (omega arith)))

  where_spends : (o : ℕ) (word : Option ℕ) → SomeIsPlain word
      → Spend (IsRevocationStep e b) (λ _. 0) 1 (store_steps e b (store_where (Mark o) word))
  where_spends o None so = spend_done (omega arith)
  where_spends o (Some word) so = store_spends e b (write (Mark o) word ∷ []) (so, tt)

  raised_spends : (epoch : Option ℕ) (c : ℕ) → Spend (IsRevocationStep e b) (λ _. 0) 1 (store_steps e b (raised_form epoch c))
  raised_spends None c = spend_done (omega arith)
  raised_spends (Some epoch) c = store_spends e b (raised_form (Some epoch) c) (tt, tt)

  take_spends : (epoch : Option ℕ) (t : ℕ) → Spend (IsRevocationStep e b) (λ _. 0) 2 (take_bias_steps e b epoch t)
  take_spends epoch t = quiet_step {n = 1} refl refl refl tt (λ _. of_call refl tt)
      (λ mark. spend_both (where_spends b.object (biased_word (is_biased mark) epoch t) (biased_plain (is_biased mark) epoch t))
      (λ _. spend_done {n = 0} (omega arith)) (omega arith))

  rebias_spends : (s : Shape) (t c : ℕ) (epoch : Option ℕ) → Spend (IsRevocationStep e b) (λ _. 0) (8448 * s.threads + 134) (bulk_rebias_steps s t c e b epoch)
  rebias_spends s t c epoch =
      spend_both {k = 8448 * s.threads + 133} (store_spends e b (write (LastBulk c) b.now ∷ []) (tt, tt)) (λ _.
      spend_both {k = 8448 * s.threads + 132} (raised_spends epoch c) (λ _.
      spend_both {k = 132} (walk_spends s c _ 1 (λ o mark. where_spends o (with_epoch (read_mark mark) (next_epoch epoch))
      (epoch_plain (read_mark mark) (next_epoch epoch)))) (λ _.
      spend_both {k = 2} (revoke_spends b.object b.rebias) (λ _.
      spend_either b.rebias (take_spends (next_epoch epoch) t) (spend_done {a = false} (omega arith))) (omega arith)) (omega arith)) (omega arith))
      (omega arith)

  bulk_revoke_spends : (s : Shape) (c : ℕ) → Spend (IsRevocationStep e b) (λ _. 0) (8448 * s.threads + 134) (bulk_revoke_steps s c e b)
  bulk_revoke_spends s c =
      spend_both {k = 8448 * s.threads + 133} (store_spends e b (write (LastBulk c) b.now ∷ []) (tt, tt)) (λ _.
      spend_both {k = 8448 * s.threads + 132} (store_spends e b (write (Prototype c) (mark_of (Neutral 0 0)) ∷ []) (tt, tt)) (λ _.
      spend_both {k = 130} (walk_spends s c _ 129 (λ o mark. revoke_at_spends (read_mark mark) o false)) (λ _.
      revoke_spends b.object false) (omega arith)) (omega arith)) (omega arith)

  verdict_spends : (s : Shape) (t c : ℕ) (epoch : Option ℕ) (verdict : Verdict)
      → Spend (IsRevocationStep e b) (λ _. 0) (8448 * s.threads + 134) (verdict_steps s t c e b epoch verdict)
  verdict_spends s t c epoch Single = spend_both (revoke_spends b.object false) (λ _. spend_done {n = 0} (omega arith)) (omega arith)
  verdict_spends s t c epoch BulkRebias = rebias_spends s t c epoch
  verdict_spends s t c epoch BulkRevoke = spend_both (bulk_revoke_spends s c) (λ _. spend_done {n = 0} (omega arith)) (omega arith)

  pub decided_spends : (s : Shape) (t c : ℕ) (epoch : Option ℕ) (count last : ℕ)
      → Spend (IsRevocationStep e b) (λ _. 0) (8448 * s.threads + 135) (decided_steps s t c e b epoch count last)
  decided_spends s t c epoch count last =
      spend_more (omega arith) (quiet_step {n = 8448 * s.threads + 134} refl refl refl tt (λ given. of_call refl (record {
        now = b.now;
        given = given;
        decided = record { count = count; last = last; is = refl };
      })) (λ _.
      spend_both (verdict_spends s t c epoch (decided count last b.now).0) (λ _. spend_done {n = 0} (omega arith)) (omega arith)))

  -- a revocation at a reached safepoint
  pub revoke_at_safepoint_spends : (s : Shape) (t : ℕ) → Spend (IsRevocationStep e b) (λ _. 0) (8448 * s.threads + 140) (revoke_at_safepoint_steps s t e b)
  revoke_at_safepoint_spends s t =
      spend_more (omega arith) (quiet_step {n = 8448 * s.threads + 139} refl refl refl tt (λ _. of_call refl tt) (λ mark.
      spend_more (omega arith) (quiet_class {n = 8448 * s.threads + 138} e Settled s b.object tt (λ class.
      spend_more (omega arith) (quiet_step {n = 8448 * s.threads + 137} refl refl refl tt (λ _. of_call refl tt) (λ prototype.
      spend_more (omega arith) (quiet_step {n = 8448 * s.threads + 136} refl refl refl tt (λ _. of_call refl tt) (λ count.
      spend_more (omega arith) (quiet_step {n = 8448 * s.threads + 135} refl refl refl tt (λ _. of_call refl tt) (λ last.
      spend_either (is_valid_bias (read_mark mark) prototype) (decided_spends s t class (epoch_in prototype) count last) spend_never))))))))))
