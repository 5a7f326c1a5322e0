-- What the answer of a revocation tells of its object's mark once all stores are made.
use Rattle.core_locks.proofs.Prelude.{◌≡◌, ℕ, ◌++◌, true, List, [], Option, Some, None, refl, sym, ap, ◌∙◌, subst, MarkForm, Biased, read_mark}
use Rattle.core_locks.proofs.Prelude.{PlainObject, WordId, Prototype, Revocations, LastBulk, class_by, with_word, epoch_in, revocation_in}
use Rattle.core_locks.proofs.Prelude.{ThreadView, StepMade, World, marks, prototype_of, has_epoch, CallContext, IsRevoking, IsValid}
use Rattle.lock_policy.specs.declared.policy.Verdict.{Verdict}
use Rattle.lock_policy.specs.declared.policy.Verdict.TheVariants.{Single, BulkRebias, BulkRevoke}
use Rattle.lock_policy.specs.Policy.{decided}
use Rattle.core_world.specs.declared.word_id.WordId.TheVariants.{Class}
use Rattle.core_world.specs.Locks.{is_valid_bias}
use Rattle.core_world.specs.RevocationRules.{FoundAfter, words_after, revocation_writes, writes_in}
use Rattle.core_world.specs.Trees.RevocationSteps.{RevocationOutcome, next_epoch, revoke_at_safepoint_steps}
use Rattle.core_world.specs.Threads.Stages.{Revocation}
use Rattle.core_world.specs.Trees.StepTree.{done}
use Rattle.core_bias.specs.Revoking.{HasCounted, IsBiasedToOne, Leads, TellsBias}
use Rattle.core_bias.proofs.BulkRebiases.{rebiased_tells}
use Rattle.core_bias.proofs.BulkRevokes.{revoked_plain}
use Rattle.core_bias.proofs.Releases.{blank, was_counted}
use Rattle.core_bias.proofs.RevocationRuns.{answer_of, steps_all, steps_answer, took_by}
use Rattle.core_bias.proofs.Singles.{single_plain}
use Rattle.core_bias.proofs.Unseen.{FitsUnseen, unseen, class_stays}
use Rattle.core_bias.proofs.Wholes.{biasing_on, by_requester, valid_biased, whole_follows}

-- where a mark is validly biased its class has an epoch
valid_epoch : (f : Option MarkForm) (p : ℕ) → is_valid_bias f p ≡ true → (epoch : ℕ) × (epoch_in p ≡ Some epoch)
valid_epoch (Some (Biased t epoch age)) p e = by_epoch (epoch_in p) refl e
  where
    by_epoch : (a : Option ℕ) → epoch_in p ≡ a → has_epoch a epoch ≡ true → (i : ℕ) × (epoch_in p ≡ Some i)
    by_epoch None q h = absurd (cc h)
    by_epoch (Some i) q h = (i, q)
valid_epoch _ p e = absurd (cc e)

-- BY THE RULES
module _ (w : World) (P : List PlainObject) (r : ℕ) (b : Revocation) (l : ThreadView) (reached : (w.known r).reached ≡ true)
    (valid : IsBiasedToOne w.shape w.words b.object) (k : HasCounted w r b l) (v : FitsUnseen w P) where
  abbrev c : ℕ
  c = class_by w.shape w.words b.object

  abbrev d : Verdict × ℕ
  d = decided (w.words (Revocations c)) (w.words (LastBulk c)) b.now

  on : w.biasing ≡ true
  on = biasing_on w P b.object (valid_biased (read_mark (marks w b.object)) (prototype_of w b.object) valid) v

  had : (epoch : ℕ) × (epoch_in (w.words (Prototype c)) ≡ Some epoch)
  had = valid_epoch (read_mark (marks w b.object)) (prototype_of w b.object) valid

  -- with this verdict, where this was the epoch of the class
  abbrev Tells : Verdict → Option ℕ → Type 0
  Tells z epoch = TellsBias r b.object c (took_by w.shape (class_by w.shape w.words) r c b (next_epoch epoch) z
      (with_word (Revocations c) d.1 w.words)) (words_after (revocation_writes w.shape r b w.words) w.words)

  by_verdict : (z : Verdict) → d.0 ≡ z → Tells z (epoch_in (w.words (Prototype c)))
  by_verdict Single e = single_plain w P r b l reached on k v e
  by_verdict BulkRebias e = subst (Tells BulkRebias) (sym had.1) (rebiased_tells w P r b l reached on k v e had.0 had.1)
  by_verdict BulkRevoke e = revoked_plain w P r b l reached on k v e

  whole_tells : TellsBias r b.object c (answer_of w.shape r b w.words).took (words_after (revocation_writes w.shape r b w.words) w.words)
  whole_tells = by_verdict d.0 refl

-- THE LAW, by the steps that the thread made
pub answer_tells : (w : World) (P : List PlainObject) (t : ℕ) (e : CallContext) (b : Revocation) (ms earlier : List StepMade) (a : RevocationOutcome)
    → (w.known t).reached ≡ true → revocation_in (w.known t).stage ≡ Some b
    → (w.known t).seen_at_safepoint ≡ ms ++ earlier → writes_in earlier ≡ [] → Leads (revoke_at_safepoint_steps w.shape t e b) ms (done a)
    → IsValid w P → TellsBias t b.object (class_by w.shape w.words b.object) a.took w.words
answer_tells w P t e b ms earlier a reached its_revocation since looked path =
    by_requester w P t b reached its_revocation (λ u. TellsBias t b.object (class_by w.shape w.words b.object) a.took w.words) told
  where
    told : (s : IsRevoking w P) → s.requester ≡ t → TellsBias t b.object (class_by w.shape w.words b.object) a.took w.words
    told s it =
        let same : s.revocation ≡ b =
        let both : Some s.revocation ≡ Some b = sym s.its_revocation ∙ ap (λ u. revocation_in (w.known u).stage) it ∙ its_revocation in cc both in
        let f = s.before.words in
        let shape = s.shape in
        let valid : IsBiasedToOne w.shape f b.object =
        subst (λ z. IsBiasedToOne w.shape f z.object) same (subst (λ z. IsBiasedToOne z f s.revocation.object) (sym shape) s.biased) in
        let found = subst (λ z. FoundAfter f z) since (subst (λ u. FoundAfter f (w.known u).seen_at_safepoint) it s.found) in
        let all : writes_in (w.known t).seen_at_safepoint ≡ revocation_writes w.shape t b f =
        ap writes_in since ∙ steps_all w.shape t e b ms earlier looked a path f valid found in
        let words : w.words ≡ words_after (revocation_writes w.shape t b f) f =
        s.words ∙ ap (λ u. words_after (writes_in (w.known u).seen_at_safepoint) f) it ∙ ap (λ xs. words_after xs f) all in
        let answer : a ≡ answer_of w.shape t b f = steps_answer w.shape t e b ms earlier looked a path f valid found in
        let whole = whole_tells s.before P s.requester s.revocation (blank w P s e) s.reached s.biased (was_counted w P s e) (unseen s.before P s.fits) in
        let here : TellsBias t b.object (class_by w.shape f b.object) (answer_of w.shape t b f).took (words_after (revocation_writes w.shape t b f) f) =
        subst (λ z. TellsBias t z.object (class_by w.shape f z.object) (answer_of w.shape t z f).took (words_after (revocation_writes w.shape t z f) f)) same
        (subst (λ u. TellsBias u s.revocation.object (class_by w.shape f s.revocation.object)
        (answer_of w.shape u s.revocation f).took (words_after (revocation_writes w.shape u s.revocation f) f)) it
        (subst (λ z. TellsBias s.requester s.revocation.object (class_by z f s.revocation.object)
        (answer_of z s.requester s.revocation f).took (words_after (revocation_writes z s.requester s.revocation f) f)) (sym shape) whole)) in
        let after : words_after (revocation_writes w.shape t b f) f (Class b.object) ≡ f (Class b.object) =
        (λ i. words_after (revocation_writes (shape i) (sym it i) (sym same i) f) f (Class b.object))
        ∙ (whole_follows s.before P s.requester s.revocation s.reached s.fits).classes b.object in
        let class : class_by w.shape w.words b.object ≡ class_by w.shape f b.object =
        class_stays w.shape f w.words b.object (ap (λ (g : WordId → ℕ). g (Class b.object)) words ∙ after) in
        subst (λ c. TellsBias t b.object c a.took w.words) (sym class)
        (subst (λ g. TellsBias t b.object (class_by w.shape f b.object) a.took g) (sym words)
        (subst (λ z. TellsBias t b.object (class_by w.shape f b.object) z.took (words_after (revocation_writes w.shape t b f) f)) (sym answer) here))
