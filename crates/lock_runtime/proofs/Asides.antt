-- A revocation leaves what its call takes of its thread's knowledge; an attempt on a bias leaves what the thread keeps.
use Rattle.std.proofs.Common.{◌≡◌, ℕ, ◌+◌, ◌==◌, Bool, true, false, if◌then◌else◌, Option, Some, None, List, [], ◌∷◌, ◌++◌, refl}
use Rattle.plain_monitor.specs.Limits.{most_holds}
use Rattle.mark_word.specs.declared.mark.MarkForm.{MarkForm}
use Rattle.mark_word.specs.declared.mark.MarkForm.TheVariants.{Neutral, Anonymous, Biased, Locked}
use Rattle.mark_word.specs.Mark.{mark_of, read_mark}
use Rattle.mark_word.specs.Hold.{read_hold}
use Rattle.lock_policy.specs.declared.policy.Verdict.{Verdict}
use Rattle.lock_policy.specs.declared.policy.Verdict.TheVariants.{Single, BulkRebias, BulkRevoke}
use Rattle.lock_policy.specs.Policy.{decided}
use Rattle.core_world.specs.declared.act.Act.TheVariants.{Store}
use Rattle.core_world.specs.declared.answer.BiasTry.{BiasTry}
use Rattle.core_world.specs.declared.answer.BiasTry.TheVariants.{Valid}
use Rattle.core_world.specs.declared.answer.Progress.{Progress}
use Rattle.core_world.specs.declared.answer.Progress.TheVariants.{Done, Pending}
use Rattle.core_world.specs.declared.word_id.WordId.TheVariants.{Mark, Hold, Displaced}
use Rattle.core_world.specs.declared.stage.Stage.{Stage}
use Rattle.core_world.specs.declared.stage.Stage.TheVariants.{Settled}
use Rattle.core_world.specs.Locks.{is_valid_bias, hold_count}
use Rattle.core_world.specs.RevocationRules.{Write, write, raised_form, with_epoch, store_where, object_held}
use Rattle.core_world.specs.RevocationRules.{biased_word, revoke_biased, record_writes, first_place}
use Rattle.core_world.specs.Threads.ThreadView.{Start}
use Rattle.core_world.specs.Threads.Stages.{Revocation}
use Rattle.core_world.specs.Words.Forms.{epoch_in, is_biased, is_still, names, hold_word}
use Rattle.core_world.specs.Words.Shape.{Shape}
use Rattle.core_world.specs.Trees.DeflateSteps.{deflate_steps}
use Rattle.core_world.specs.Trees.Operations.{and_then, revocation_steps, revoked_steps, unbias_tried, unbias_steps}
use Rattle.core_world.specs.Trees.Plans.{CallContext, done_with, class_steps}
use Rattle.core_world.specs.Trees.RevocationSteps.{revocation_stage, look, store_steps, revoke_at, revoke_steps, visit_held}
use Rattle.core_world.specs.Trees.RevocationSteps.{walk_steps, take_bias_steps, next_epoch, bulk_rebias_steps, bulk_revoke_steps}
use Rattle.core_world.specs.Trees.RevocationSteps.{verdict_steps, decided_steps, revoke_at_safepoint_steps}
use Rattle.core_world.specs.Trees.SafepointSteps.{has_requester, request_swap_steps, request_steps, reached_steps}
use Rattle.core_world.specs.Trees.SafepointSteps.{then_reached, safepoint_steps, release_to, reached_word}
use Rattle.core_world.specs.Trees.StepTree.{StepTree, ◌>>=◌, each_from, all_from}
use Rattle.core_world.specs.Trees.BiasSteps.{stage_after, unbias_swap_steps, bias_drop_at, bias_drop_by, bias_drop_steps}
use Rattle.lock_runtime.specs.inner.Parts.{reached_revocation}
use Rattle.safepoint_work.proofs.Deflating.{deflate_aside}
use Rattle.heap_table.proofs.ClassSteps.{class_aside}
use Rattle.heap_table.proofs.Aside.{AreAside, leaves_own_words, either_aside, then_aside, all_aside, each_aside}

-- THE SAFEPOINT
reached : (e : CallContext) → AreAside (reached_steps e)
reached e = (record { quiet = refl; words = refl; keeps = refl }, λ n. either_aside (is_still n) _ _ tt tt)

reached_after : (e : CallContext) (progress : Progress (Unit {0})) → AreAside (then_reached e progress)
reached_after e (Done x) = reached e
reached_after e (Pending cause) = tt

request : (e : CallContext) (t : ℕ) → AreAside (request_steps e t)
request e t = (
  record { quiet = refl; words = refl; keeps = refl },
  λ n. either_aside (has_requester n) _ (request_swap_steps e t n) tt
      (record { quiet = refl; words = refl; keeps = refl }, λ m. either_aside (m == n) _ _ tt (either_aside (has_requester m) _ _ tt tt)),
)

pub safepoint_aside : (e : CallContext) (t : ℕ) (requesting : Bool) → AreAside (safepoint_steps e t requesting)
safepoint_aside e t true = reached e
safepoint_aside e t false = then_aside (request_steps e t) (then_reached e) (request e t) (reached_after e)

release : (stage : Stage) (e : CallContext) (t : ℕ) → AreAside (release_to stage e t)
release stage e t = (record { quiet = refl; words = refl; keeps = refl }, λ n. either_aside (n == reached_word t) _ _ tt tt)

-- THE STORES of a revocation: none is of a hold word or of a waiting word.
abbrev AreBeside : List Write → Type 0
AreBeside [] = Unit {0}
AreBeside (x ∷ xs) = (leaves_own_words x.at (Store x.word) ≡ true) × AreBeside xs

beside_then : (xs ys : List Write) → AreBeside xs → AreBeside ys → AreBeside (xs ++ ys)
beside_then [] ys one two = two
beside_then (x ∷ xs) ys one two = (one.0, beside_then xs ys one.1 two)

stores : (e : CallContext) (b : Revocation) (xs : List Write) → AreBeside xs → AreAside (store_steps e b xs)
stores e b [] all = tt
stores e b (x ∷ xs) all = (record { quiet = refl; words = all.0; keeps = refl }, λ n. stores e b xs all.1)

records : (o t p : ℕ) (hs : List ℕ) → AreBeside (record_writes o t p hs)
records o t p [] = tt
records o t p (h ∷ hs) = beside_then (if names o h then write (Displaced t p) (if h == hold_word o 1 then mark_of (Neutral 0 0) else 0) ∷ [] else [])
    _ (first (names o h)) (records o t (p + 1) hs)
  where
    first : (b : Bool) → AreBeside (if b then write (Displaced t p) (if h == hold_word o 1 then mark_of (Neutral 0 0) else 0) ∷ [] else [])
    first true = (refl, tt)
    first false = tt

biased : (o t : ℕ) (allowed : Bool) (hs : List ℕ) → AreBeside (revoke_biased o t allowed hs)
biased o t allowed hs = cases (hold_count o hs == 0)
  where
    cases : (b : Bool) → AreBeside (if b then write (Mark o) (mark_of (if allowed then Anonymous 0 0 else Neutral 0 0)) ∷ []
        else (record_writes o t 0 hs ++ write (Mark o) (mark_of (Locked t (first_place o hs))) ∷ []))
    cases true = (refl, tt)
    cases false = beside_then (record_writes o t 0 hs) _ (records o t 0 hs) (refl, tt)

where_mark : (o : ℕ) (w : Option ℕ) → AreBeside (store_where (Mark o) w)
where_mark o None = tt
where_mark o (Some w) = (refl, tt)

raised : (epoch : Option ℕ) (c : ℕ) → AreBeside (raised_form epoch c)
raised None c = tt
raised (Some epoch) c = (refl, tt)

module _ (e : CallContext) (b : Revocation) where
  at_form : (f : Option MarkForm) (o : ℕ) (allowed : Bool) → AreAside (revoke_at f e b o allowed)
  at_form (Some (Anonymous epoch age)) o true = tt
  at_form (Some (Anonymous epoch age)) o false = (record { quiet = refl; words = refl; keeps = refl }, λ n. tt)
  at_form (Some (Biased t epoch age)) o allowed = then_aside (each_from 0 most_holds (λ p. look e b (Hold t p))) _
      (each_aside 0 most_holds (λ p. look e b (Hold t p)) (λ p. (record { quiet = refl; words = refl; keeps = refl }, λ n. tt)))
      (λ hs. stores e b (revoke_biased o t allowed hs) (biased o t allowed hs))
  at_form _ o allowed = tt

  one : (o : ℕ) (allowed : Bool) → AreAside (revoke_steps e b o allowed)
  one o allowed = (record { quiet = refl; words = refl; keeps = refl }, λ mark. at_form (read_mark mark) o allowed)

  module _ (s : Shape) (c : ℕ) (visit : ℕ → ℕ → StepTree (Unit {0})) (visits : (o mark : ℕ) → AreAside (visit o mark)) where
    held : (o : Option ℕ) → AreAside (visit_held s c e b visit o)
    held None = tt
    held (Some o) = then_aside (class_steps e (revocation_stage b) s o) _ (class_aside e (revocation_stage b) s o) (λ class. either_aside (class == c) _ _
        (record { quiet = refl; words = refl; keeps = refl }, λ mark. either_aside (is_biased mark) _ _ (visits o mark) tt) tt)

    placed : (t p : ℕ) → AreAside (look e b (Hold t p) >>= (λ hold. visit_held s c e b visit (object_held (read_hold hold))))
    placed t p = (record { quiet = refl; words = refl; keeps = refl }, λ hold. held (object_held (read_hold hold)))

    walk : AreAside (walk_steps s c e b visit)
    walk = all_aside 0 s.threads (λ t. all_from 0 most_holds (λ p. look e b (Hold t p) >>= (λ hold. visit_held s c e b visit (object_held (read_hold hold)))))
        (λ t. all_aside 0 most_holds (λ p. look e b (Hold t p) >>= (λ hold. visit_held s c e b visit (object_held (read_hold hold)))) (placed t))

  take : (epoch : Option ℕ) (t : ℕ) → AreAside (take_bias_steps e b epoch t)
  take epoch t = (
    record { quiet = refl; words = refl; keeps = refl },
    λ mark. then_aside (store_steps e b (store_where (Mark b.object) (biased_word (is_biased mark) epoch t))) _
        (stores e b (store_where (Mark b.object) (biased_word (is_biased mark) epoch t))
        (where_mark b.object (biased_word (is_biased mark) epoch t))) (λ _. tt),
  )

  bulk_rebias : (s : Shape) (t c : ℕ) (epoch : Option ℕ) → AreAside (bulk_rebias_steps s t c e b epoch)
  bulk_rebias s t c epoch = (
    record { quiet = refl; words = refl; keeps = refl },
    λ n. then_aside (store_steps e b (raised_form epoch c)) _ (stores e b (raised_form epoch c) (raised epoch c))
        (λ _. then_aside (walk_steps s c e b (λ o mark. store_steps e b (store_where (Mark o) (with_epoch (read_mark mark) (next_epoch epoch))))) _
        (walk s c (λ o mark. store_steps e b (store_where (Mark o) (with_epoch (read_mark mark) (next_epoch epoch))))
        (λ o mark. stores e b (store_where (Mark o) (with_epoch (read_mark mark) (next_epoch epoch)))
        (where_mark o (with_epoch (read_mark mark) (next_epoch epoch)))))
        (λ _. then_aside (revoke_steps e b b.object b.rebias) _ (one b.object b.rebias) (λ _. either_aside b.rebias _ _ (take (next_epoch epoch) t) tt))),
  )

  bulk_revoke : (s : Shape) (c : ℕ) → AreAside (bulk_revoke_steps s c e b)
  bulk_revoke s c = (
    record { quiet = refl; words = refl; keeps = refl },
    λ n. (
      record { quiet = refl; words = refl; keeps = refl },
      λ m. then_aside (walk_steps s c e b (λ o mark. revoke_at (read_mark mark) e b o false)) _
          (walk s c (λ o mark. revoke_at (read_mark mark) e b o false) (λ o mark. at_form (read_mark mark) o false)) (λ _. one b.object false),
    ),
  )

  by_verdict : (s : Shape) (t c : ℕ) (epoch : Option ℕ) (v : Verdict) → AreAside (verdict_steps s t c e b epoch v)
  by_verdict s t c epoch Single = then_aside (revoke_steps e b b.object false) _ (one b.object false) (λ _. tt)
  by_verdict s t c epoch BulkRebias = bulk_rebias s t c epoch
  by_verdict s t c epoch BulkRevoke = then_aside (bulk_revoke_steps s c e b) _ (bulk_revoke s c) (λ _. tt)

  by_count : (s : Shape) (t c : ℕ) (epoch : Option ℕ) (count last : ℕ) → AreAside (decided_steps s t c e b epoch count last)
  by_count s t c epoch count last = (
    record { quiet = refl; words = refl; keeps = refl },
    λ n. then_aside (verdict_steps s t c e b epoch (decided count last b.now).0) _ (by_verdict s t c epoch (decided count last b.now).0) (λ _. tt),
  )

  pub at_safepoint : (s : Shape) (t : ℕ) → AreAside (revoke_at_safepoint_steps s t e b)
  at_safepoint s t = (
    record { quiet = refl; words = refl; keeps = refl },
    λ mark. then_aside (class_steps e Settled s b.object) _ (class_aside e Settled s b.object) (λ class. (
      record { quiet = refl; words = refl; keeps = refl },
      λ prototype. (
        record { quiet = refl; words = refl; keeps = refl },
        λ count. (
          record { quiet = refl; words = refl; keeps = refl },
          λ last. either_aside (is_valid_bias (read_mark mark) prototype) _ _ (by_count s t class (epoch_in prototype) count last) tt,
        ),
      ),
    )),
  )

  after_safepoint : (s : Shape) (t : ℕ) (progress : Progress (Unit {0}))
      → AreAside (and_then progress (λ _. reached_revocation s t e b))
  after_safepoint s t (Done x) =
      then_aside (revoke_at_safepoint_steps s t e b) _ (at_safepoint s t)
      (λ outcome. then_aside (deflate_steps s e (stage_after outcome.took b.object)) _ (deflate_aside s e (stage_after outcome.took b.object))
      (λ _. then_aside (release_to (stage_after outcome.took b.object) e t) _ (release (stage_after outcome.took b.object) e t) (λ _. tt)))
  after_safepoint s t (Pending cause) = tt

  pub revocation_aside : (s : Shape) (t : ℕ) (requesting : Bool) → AreAside (revocation_steps s t requesting e b)
  revocation_aside s t requesting = then_aside (safepoint_steps e t requesting) _ (safepoint_aside e t requesting) (after_safepoint s t)

-- THE END OF A BIAS
drop_swap : (e : CallContext) (o mark neutral : ℕ) → AreAside (unbias_swap_steps e o mark neutral)
drop_swap e o mark neutral = (record { quiet = refl; words = refl; keeps = refl }, λ found. either_aside (found == mark) _ _ tt tt)

drop_at : (f : Option MarkForm) (epoch : ℕ) (e : CallContext) (o mark : ℕ) → AreAside (bias_drop_at f epoch e o mark)
drop_at (Some (Biased t old age)) epoch e o mark = either_aside (old == epoch) _ _ tt (drop_swap e o mark (mark_of (Neutral 0 0)))
drop_at (Some (Anonymous old age)) epoch e o mark = drop_swap e o mark (mark_of (Neutral 0 0))
drop_at _ epoch e o mark = tt

drop_by : (epoch : Option ℕ) (e : CallContext) (o mark prototype : ℕ) → AreAside (bias_drop_by epoch e o mark prototype)
drop_by None e o mark prototype = drop_swap e o mark prototype
drop_by (Some epoch) e o mark prototype = drop_at (read_mark mark) epoch e o mark

drop : (s : Shape) (e : CallContext) (o : ℕ) → AreAside (bias_drop_steps s e o)
drop s e o = (
  record { quiet = refl; words = refl; keeps = refl },
  λ mark. either_aside (is_biased mark) _ _ (then_aside (class_steps e Settled s o) _ (class_aside e Settled s o)
      (λ class. (record { quiet = refl; words = refl; keeps = refl }, λ prototype. drop_by (epoch_in prototype) e o mark prototype))) tt,
)

revoked_progress : (progress : Progress Bool) → AreAside (and_then progress (λ _. done_with (tt {0})))
revoked_progress (Done took) = tt
revoked_progress (Pending cause) = tt

revoked : (s : Shape) (t : ℕ) (requesting : Bool) (e : CallContext) (b : Revocation) → AreAside (revoked_steps s t requesting e b)
revoked s t requesting e b = then_aside (revocation_steps s t requesting e b) _ (revocation_aside e b s t requesting) revoked_progress

tried : (try : BiasTry) (s : Shape) (e : CallContext) (k : Start) (b : Revocation) → AreAside (unbias_tried try s e k b)
tried (Valid mark) s e k b = revoked s k.local.thread false e b
tried _ s e k b = tt

pub unbias_aside : (s : Shape) (e : CallContext) (k : Start) (b : Revocation) → AreAside (unbias_steps s e k b)
unbias_aside s e k b =
    either_aside k.requesting _ _ (revoked s k.local.thread true e b)
    (then_aside (bias_drop_steps s e b.object) _ (drop s e b.object) (λ try. tried try s e k b))
