-- A revocation as a whole, whatever its verdict, and the release after it.
use Rattle.core_locks.proofs.Prelude.{◌≡◌, ℕ, ◌<◌, ◌==◌, ◌||◌, ◌++◌, not, nat_lt, Bool, true, false, List, [], ◌∷◌, Option, Some, refl}
use Rattle.core_locks.proofs.Prelude.{sym, ap, ◌∙◌, subst, inl, inr, MarkForm, Biased, read_mark, PlainObject, WordId, Revocations}
use Rattle.core_locks.proofs.Prelude.{LastBulk, class_by, is_biased, is_biased_form, revocation_in, ThreadView, World, marks, prototype_of}
use Rattle.core_locks.proofs.Prelude.{CallContext, world_after, Fits, IsRevoking, IsValid, each_with_known, KeepsValid}
use Rattle.lock_policy.specs.declared.policy.Verdict.{Verdict}
use Rattle.lock_policy.specs.declared.policy.Verdict.TheVariants.{Single, BulkRebias, BulkRevoke}
use Rattle.lock_policy.specs.Policy.{decided}
use Rattle.core_world.specs.declared.plan.LocalEffect.TheVariants as own
use Rattle.core_world.specs.Threads.Stages.{Revocation}
use Rattle.core_world.specs.Words.Names.{has_class}
use Rattle.core_world.specs.Locks.{is_valid_bias}
use Rattle.core_world.specs.RevocationRules.{Write, words_after, revocation_writes, writes_in}
use Rattle.core_world.specs.Valid.{RevokesSince}
use Rattle.core_world.proofs.NoWordChanges.{one_requester}
use Rattle.core_locks.proofs.Clauses as clause
use Rattle.core_bias.specs.Revoking.{MayBeginRevoking, MayGoOnRevoking, MayStore, MayEndRevoking, HasCounted, IsBiasedToOne, revoked_world}
use Rattle.core_bias.proofs.GoodWrites.{Follows, follow, good_writes}
use Rattle.core_bias.proofs.Unseen.{FitsUnseen}
use Rattle.core_bias.proofs.Singles.{single_fits, reached_within}
use Rattle.core_locks.proofs.safepoint.SafeFacts.{fits_calm}
use Rattle.core_bias.proofs.Stores.{first_below, first_store, middle_store}
use Rattle.core_bias.proofs.BulkRevokes.{revoked_fits}
use Rattle.core_bias.proofs.BulkRebiases.{rebiased_fits}
use Rattle.core_bias.proofs.Unseen.{unseen, with_seen}
use Rattle.core_bias.proofs.Releases.{CountsOnNone, none_seen, others_stopped, was_counted, blank, release_ends}
use Rattle.core_world.specs.Trees.RevocationSteps.{revoke_plan}
use Rattle.core_world.specs.Trees.SafepointSteps.{release_plan}
use Rattle.core_world.specs.Trees.BiasSteps.{stage_after}

-- biasing is on where a mark has the bias pattern
pub biasing_on : (w : World) (P : List PlainObject) (o : ℕ) → is_biased (marks w o) ≡ true → FitsUnseen w P → w.biasing ≡ true
biasing_on w P o biased v = cases w.biasing refl
  where
    cases : (b : Bool) → w.biasing ≡ b → w.biasing ≡ true
    cases true a = a
    cases false a = let plain = (v clause.classes).unbiased a o in absurd (cc (plain, biased))

-- THE WHOLE: where every clause but that of what was seen holds, it holds again after all stores, whatever the verdict.
pub whole_fits : (w : World) (P : List PlainObject) (r : ℕ) (b : Revocation) (l : ThreadView)
    → (w.known r).reached ≡ true → is_biased (marks w b.object) ≡ true → HasCounted w r b l → FitsUnseen w P
    → FitsUnseen (revoked_world w r b l) P
whole_fits w P r b l reached biased k v =
    cases (decided (w.words (Revocations (class_by w.shape w.words b.object))) (w.words (LastBulk (class_by w.shape w.words b.object))) b.now).0 refl
  where
    cases : (d : Verdict) → (decided (w.words (Revocations (class_by w.shape w.words b.object)))
        (w.words (LastBulk (class_by w.shape w.words b.object))) b.now).0 ≡ d → FitsUnseen (revoked_world w r b l) P
    cases Single e = single_fits w P r b l reached (biasing_on w P b.object biased v) k v e
    cases BulkRebias e = rebiased_fits w P r b l reached (biasing_on w P b.object biased v) k v e
    cases BulkRevoke e = revoked_fits w P r b l reached (biasing_on w P b.object biased v) k v e

-- nothing is left after a whole list
rest_none : (xs ys zs : List Write) → xs ++ ys ≡ zs → xs ≡ zs → ys ≡ []
rest_none [] ys zs e h = e ∙ sym h
rest_none (x ∷ xs) ys [] e h = absurd (cc h)
rest_none (x ∷ xs) ys (z ∷ zs) e h = rest_none xs ys zs (cc e) (cc h)

-- a mark that is validly biased has the bias pattern
pub valid_biased : (f : Option MarkForm) (p : ℕ) → is_valid_bias f p ≡ true → is_biased_form f ≡ true
valid_biased (Some (Biased t epoch age)) p e = refl
valid_biased _ p e = absurd (cc e)

-- the stores of a revocation give no mark the bias pattern that had none, and are on no class word
pub whole_follows : (w : World) (P : List PlainObject) (r : ℕ) (b : Revocation) → (w.known r).reached ≡ true → Fits w P
    → Follows w.shape w.words (words_after (revocation_writes w.shape r b w.words) w.words)
whole_follows w P r b reached v =
    let all = good_writes w.shape w.words v.limits.threads (first_below w P v) r b (reached_within w P r reached (unseen w P v)) v.forms.marks in
    follow w.shape w.words (revocation_writes w.shape r b w.words) w.words all
    (record { forms = v.forms.marks; names = λ o. refl; leaning = λ o e. e; holds = λ t p. refl; classes = λ o. refl })

-- and nobody counts on what it saw: at a reached safepoint the others have stopped
pub whole_valid : (w : World) (P : List PlainObject) (r : ℕ) (b : Revocation) (l : ThreadView) → (w.known r).reached ≡ true
    → is_biased (marks w b.object) ≡ true → HasCounted w r b l → l.seen ≡ [] → l.seen_at_safepoint ≡ [] → Fits w P
    → Fits (revoked_world w r b l) P
whole_valid w P r b l reached biased k unseen_now unstood v =
    with_seen (revoked_world w r b l) P
    (none_seen (revoked_world w r b l) P (λ u. each_with_known (λ u y. CountsOnNone y) r l w.known u
    (inl (unseen_now, unstood)) (λ d. inr (others_stopped w P r reached v.safe u d))) there)
    (whole_fits w P r b l reached biased k (unseen w P v))
  where
    follows : Follows w.shape w.words (words_after (revocation_writes w.shape r b w.words) w.words)
    follows = whole_follows w P r b reached v

    there : (o : ℕ) → is_biased (marks (revoked_world w r b l) o) ≡ true
        → has_class w.shape (words_after (revocation_writes w.shape r b w.words) w.words) o ≡ true
    there o e = ap (λ n. nat_lt o w.shape.declared || not (n == 0)) (follows.classes o) ∙ v.seen.classed o (follows.leaning o e)

-- WHO MAKES A STEP at its reached safepoint while a bias is being revoked is the requester.
module _ (w : World) (P : List PlainObject) (t : ℕ) (b : Revocation)
    (reached : (w.known t).reached ≡ true) (its_revocation : revocation_in (w.known t).stage ≡ Some b) where
  pub by_requester : (F : ℕ → Type 0) → ((s : IsRevoking w P) → s.requester ≡ t → F s.requester) → IsValid w P → F t
  by_requester F law (inl v) = let none = v.quiet.none_revokes t in absurd (cc (none, its_revocation))
  by_requester F law (inr s) =
      let asks : (w.known s.requester).reached ≡ true = ap (λ (k : ThreadView). k.reached) s.knows ∙ s.reached in
      let same : s.requester ≡ t = one_requester w P s.safe s.requester t (s.safe.safepoint s.requester asks).0 (s.safe.safepoint t reached).0 in
      subst F same (law s same)

-- all its stores are made, and so all clauses hold but that of what was seen
module _ (w : World) (P : List PlainObject) (e : CallContext) (b : Revocation)
    (s : IsRevoking w P) (may : MayEndRevoking w.shape (w.known s.requester) e s.requester b) where
  same : b ≡ s.revocation
  same = let it : Some b ≡ Some s.revocation = sym may.its_revocation ∙ s.its_revocation in cc it

  pub all_made : s.rest ≡ []
  all_made =
      let all : writes_in (w.known s.requester).seen_at_safepoint ≡ revocation_writes s.before.shape s.requester s.revocation s.before.words =
      may.all s.before.words (subst (λ c. IsBiasedToOne w.shape s.before.words c.object) (sym same)
      (subst (λ z. IsBiasedToOne z s.before.words s.revocation.object) (sym s.shape) s.biased)) s.found
      ∙ (λ i. revocation_writes (s.shape i) s.requester (same i) s.before.words) in
      rest_none (writes_in (w.known s.requester).seen_at_safepoint) s.rest _ s.writes all

  pub made : FitsUnseen (revoked_world s.before s.requester s.revocation (blank w P s e)) P
  made = whole_fits s.before P s.requester s.revocation (blank w P s e) s.reached
      (valid_biased (read_mark (marks s.before s.revocation.object))
      (prototype_of s.before s.revocation.object) s.biased) (was_counted w P s e) (unseen s.before P s.fits)

-- THE RELEASE
pub release_fits : (w : World) (P : List PlainObject) (t : ℕ) (e : CallContext) (b : Revocation) (took : Bool)
    → MayEndRevoking w.shape (w.known t) e t b → IsValid w P
    → Fits (world_after (release_plan e (stage_after took b.object) t) t w) P
release_fits w P t e b took may =
    by_requester w P t b may.reached may.its_revocation (λ u. Fits (world_after (release_plan e (stage_after took b.object) u) u w) P) (λ s it.
    let own = subst (λ u. MayEndRevoking w.shape (w.known u) e u b) (sym it) may in
    release_ends w P s e (all_made w P e b s own) (made w P e b s own) own.still own.goes_on b.object took)

-- THE STORES, by what the thread knows: the first one, from the world in which it is made
pub begin_revokes : (w : World) (P : List PlainObject) (r : ℕ) (e : CallContext) (b : Revocation) (class : ℕ) (verdict : Verdict)
    (reset : Bool) (at : WordId) (word : ℕ) → MayBeginRevoking w.shape (w.known r) e r b class verdict reset at word
    → Fits w P → RevokesSince (world_after (revoke_plan e b (own.CountVerdict class verdict reset) at word) r w) P w
begin_revokes w P r e b class verdict reset at word may v =
    first_store w P e b at word r class verdict reset (reached_within w P r may.reached (unseen w P v)) may v

-- and each other one
pub goes_on_revokes : (e : CallContext) (b : Revocation) (at : WordId) (word : ℕ) (w : World) (P : List PlainObject) (s : IsRevoking w P)
    → s.requester < w.shape.threads
    → MayGoOnRevoking w.shape (w.known s.requester) e s.requester b at word
    → RevokesSince (world_after (revoke_plan e b own.Unchanged at word) s.requester w) P s.before
goes_on_revokes e b at word w P s within mine =
    let same : s.revocation ≡ b = let both : Some s.revocation ≡ Some b = sym s.its_revocation ∙ mine.its_revocation in cc both in
    subst (λ c. RevokesSince (world_after (revoke_plan e c own.Unchanged at word) s.requester w) P s.before) same
    (middle_store w P e at word s within (subst (λ c. MayStore w.shape (w.known s.requester) e s.requester c at word) (sym same) mine.store))

-- so both keep the world valid
pub begin_valid : (w : World) (P : List PlainObject) (r : ℕ) (e : CallContext) (b : Revocation) (class : ℕ) (verdict : Verdict)
    (reset : Bool) (at : WordId) (word : ℕ) → MayBeginRevoking w.shape (w.known r) e r b class verdict reset at word
    → IsValid w P → IsValid (world_after (revoke_plan e b (own.CountVerdict class verdict reset) at word) r w) P
begin_valid w P r e b class verdict reset at word may valid =
    inr (begin_revokes w P r e b class verdict reset at word may (fits_calm w P r may.reached may.calm valid)).0

pub goes_on_valid : (e : CallContext) (b : Revocation) (at : WordId) (word : ℕ)
    → KeepsValid (λ w r. MayGoOnRevoking w.shape (w.known r) e r b at word) (λ w r. revoke_plan e b own.Unchanged at word)
goes_on_valid e b at word w P t within may =
    by_requester w P t b may.reached may.its_revocation (λ u. IsValid (world_after (revoke_plan e b own.Unchanged at word) u w) P) (λ s it.
    inr (goes_on_revokes e b at word w P s (subst (λ u. u < w.shape.threads) (sym it) within)
    (subst (λ u. MayGoOnRevoking w.shape (w.known u) e u b at word) (sym it) may)).0)
