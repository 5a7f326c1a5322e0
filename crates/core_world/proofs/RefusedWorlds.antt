-- What every valid world has, also while a bias is being revoked: draws for its hashes,
-- no record by the monitor at OwnerConverted, and only biases that are revoked.
use Rattle.std.proofs.Common.{◌≡◌, ◌≢◌, ◌++◌, ℕ, zero, suc, ◌+◌, ◌<◌, ◌≤◌, ◌==◌, ◌&&◌, ne_eqb, Bool, true, false, cond, List}
use Rattle.std.proofs.Common.{[], ◌∷◌, slice_index, Option, Some, None, refl, sym, ap, ◌∙◌, subst, arith, inl, inr}
use Rattle.std.specs.List.{AllByRecursion}
use Rattle.std.proofs.lemmas.Option.{same_Some}
use Rattle.mark_word.specs.declared.mark.MarkForm.{MarkForm}
use Rattle.mark_word.specs.declared.mark.MarkForm.TheVariants.{Biased}
use Rattle.mark_word.specs.Mark.{read_mark}
use Rattle.plain_monitor.specs.Objects.{PlainObject}
use Rattle.core_world.specs.declared.act.Act.TheVariants.{Load}
use Rattle.core_world.specs.declared.word_id.WordId.{WordId}
use Rattle.core_world.specs.declared.word_id.WordId.TheVariants.{Safepoint, Mark, Hold, Displaced}
use Rattle.core_world.specs.declared.stage.Stage.TheVariants.{OwnerConverted, Revokes}
use Rattle.core_world.specs.Words.Names.{same_name, with_word}
use Rattle.core_world.specs.Words.Forms.{requester_in, is_biased, is_biased_form, is_deeper}
use Rattle.core_world.specs.Threads.Stages.{one_if, revocation_in}
use Rattle.core_world.specs.Clauses.Draws.{all_draws}
use Rattle.core_world.specs.Threads.ThreadView.{ThreadView, StepMade}
use Rattle.core_world.specs.World.{World, logs, logs_from}
use Rattle.core_world.specs.Locks.{is_valid_bias, count_where, displaced_words, hash_at}
use Rattle.core_world.specs.RevocationRules.{Write, FoundAfter, words_after, writes_in, write_by}
use Rattle.core_world.specs.Valid.{Fits, IsRevoking, IsValid, Valid}
use Rattle.core_world.proofs.KnowledgeParts.{by_equal}
use Rattle.core_world.proofs.Readings.{deeper_none}
use Rattle.core_world.proofs.enter_exit.ObjectHolds.{thread_is}

-- the logs of what threads know are the same where each thread's log is
pub logs_same : (u n : ℕ) (f g : ℕ → ThreadView) → ((t : ℕ) → (f t).log ≡ (g t).log) → logs_from u n f ≡ logs_from u n g
logs_same u zero f g h = refl
logs_same u (suc n) f g h = ap (λ x. x ∷ logs_from (u + 1) n f) (h u) ∙ ap (λ xs. (g u).log ∷ xs) (logs_same (u + 1) n f g h)

-- A REVOCATION UNDER WAY logs nothing.
pub revoking_logs : (w : World) (P : List PlainObject) (s : IsRevoking w P) → logs w ≡ logs s.before
revoking_logs w P s =
    ap (λ k. logs_from 0 k.threads w.known) s.shape
    ∙ logs_same 0 s.before.shape.threads w.known s.before.known
    (λ t. by_equal t s.requester
    (λ e. subst (λ u. (w.known u).log ≡ (s.before.known u).log) (sym e) (ap (λ k. k.log) s.knows))
    (λ d. ap (λ k. k.log) (s.others t d)))

-- an object has as many draws as it has hashes
draws_are : (w : World) (P : List PlainObject) (o : ℕ) → IsValid w P → all_draws o (logs w) ≡ cond (hash_at P o == 0) 0 1
draws_are w P o (inl fits) = fits.draws.one o
draws_are w P o (inr s) = ap (all_draws o) (revoking_logs w P s) ∙ s.fits.draws.one o

hash_is_one : (h : ℕ) → 0 < h → 1 ≤ cond (h == 0) 0 1
hash_is_one h some =
    let e : cond (h == 0) 0 1 ≡ cond false 0 1 = ap {B = ℕ} (λ (b : Bool). cond b 0 1) (ne_eqb h 0 (λ z. omega (arith, some, z))) in omega (arith, e)

at_most_one : (b : Bool) → cond b 0 1 < 2
at_most_one true = omega arith
at_most_one false = omega arith

pub no_hash_that_nobody_drew : (w : World) (o : ℕ) (v : Valid w) → 0 < hash_at v.objects o → all_draws o (logs w) ≡ 0 → ⊥
no_hash_that_nobody_drew w o v some none = absurd (omega (arith, draws_are w v.objects o v.is, hash_is_one (hash_at v.objects o) some, none))

pub no_hash_drawn_twice : (w : World) (o : ℕ) → Valid w → 2 ≤ all_draws o (logs w) → ⊥
no_hash_drawn_twice w o v many = absurd (omega (arith, draws_are w v.objects o v.is, at_most_one (hash_at v.objects o == 0), many))

-- THE STAGES. A thread that revokes a bias is the requester, and the others stand as they did before.
revoker : (w : World) (P : List PlainObject) (s : IsRevoking w P) (t o now : ℕ) (rebias : Bool)
    → (w.known t).stage ≡ Revokes o rebias now → (t ≡ s.requester) × (s.revocation.object ≡ o)
revoker w P s t o now rebias e =
    by_equal t s.requester
    (λ same.
    let here : revocation_in (w.known s.requester).stage ≡ revocation_in (Revokes o rebias now) =
    ap (λ u. revocation_in (w.known u).stage) (sym same) ∙ ap revocation_in e in
    (same, ap (λ b. b.object) (same_Some _ _ (sym s.its_revocation ∙ here))))
    (λ d.
    let none : revocation_in (w.known t).stage ≡ None = ap (λ k. revocation_in k.stage) (s.others t d) ∙ s.fits.quiet.none_revokes t in
    absurd (cc (none, ap revocation_in e)))

-- a thread in the middle of anything else is so in a world in which every clause holds
pub busy_fits : (w : World) (P : List PlainObject) (t o : ℕ) → (w.known t).stage ≡ OwnerConverted o → IsValid w P → Fits w P
busy_fits w P t o e (inl fits) = fits
busy_fits w P t o e (inr s) =
    by_equal t s.requester
    (λ same. absurd (cc (s.its_revocation, ap (λ u. revocation_in (w.known u).stage) (sym same) ∙ ap revocation_in e)))
    (λ d.
    let stopped = (s.fits.safe.safepoint s.requester s.reached).1 t in
    let was = ap (λ k. k.stage) (s.others t d) in
    elim (s.fits.quiet.quiet t stopped) [ inl a ↦ absurd (cc (was, a, e)) | inr a ↦ (let taking = a.1.1 in absurd (cc (was, taking, e))) ])

-- a record above depth 1 whose displaced word is 3 counts
counts_again : (o : ℕ) (f : ℕ → ℕ) (hs : List ℕ) (i p : ℕ) → is_deeper o (slice_index hs p) ≡ true
    → f (i + p) ≡ 3 → 1 ≤ count_where (λ q h. is_deeper o h && (f q == 3)) i hs
counts_again o f [] i p e d = absurd (cc (e, deeper_none o))
counts_again o f (h ∷ hs) i zero e d =
    let here : f i ≡ 3 = ap f (let s : i ≡ i + 0 = omega arith in s) ∙ d in
    let test : (is_deeper o h && (f i == 3)) ≡ true = ap (λ (b : Bool). b && (f i == 3)) e ∙ ap (λ n. n == 3) here in
    omega (arith, ap one_if test)
counts_again o f (h ∷ hs) i (suc p) e d =
    omega (arith, counts_again o f hs (i + 1) p e (ap f (let s : i + 1 + p ≡ i + suc p = omega arith in s) ∙ d))

pub no_hold_by_the_monitor_before_its_recursions : (w : World) (o t p : ℕ) → Valid w
    → (w.known t).stage ≡ OwnerConverted o → is_deeper o (w.words (Hold t p)) ≡ true → w.words (Displaced t p) ≡ 3 → ⊥
no_hold_by_the_monitor_before_its_recursions w o t p v e deeper by =
    let fits = busy_fits w v.objects t o e v.is in
    let stands : is_deeper o (slice_index (w.known t).holds p) ≡ true = ap (is_deeper o) (sym (fits.holds.stored t p)) ∙ deeper in
    let there : displaced_words w t (0 + p) ≡ 3 = ap (displaced_words w t) (let s : 0 + p ≡ p = omega arith in s) ∙ by in
    absurd (omega (arith, fits.recursions.thread_owns o t e, counts_again o (displaced_words w t) (w.known t).holds 0 p stands there))

-- A WORD THAT NO STORE NAMES is as it was.
pub untouched_word : (n : WordId) (xs : List Write) (f : WordId → ℕ) → AllByRecursion (λ x. same_name n x.at ≡ false) xs → words_after xs f n ≡ f n
untouched_word n [] f a = refl
untouched_word n (x ∷ xs) f a = untouched_word n xs (with_word x.at x.word f) a.1 ∙ ap (λ (b : Bool). cond b x.word (f n)) a.0

valid_is_biased : (f : Option MarkForm) (prototype : ℕ) → is_valid_bias f prototype ≡ true → is_biased_form f ≡ true
valid_is_biased (Some (Biased t epoch age)) prototype e = refl
valid_is_biased _ prototype e = absurd (cc e)

pub no_revocation_without_a_bias : (w : World) (o t now : ℕ) (rebias : Bool) → Valid w → (w.known t).stage ≡ Revokes o rebias now
    → AllByRecursion (λ x. same_name (Mark o) x.at ≡ false) (writes_in (w.known t).seen_at_safepoint) → is_biased (w.words (Mark o)) ≡ false → ⊥
no_revocation_without_a_bias w o t now rebias v e unstored unbiased = by_is v.is
  where
    by_is : IsValid w v.objects → ⊥
    by_is (inl fits) = absurd (cc (fits.quiet.none_revokes t, ap revocation_in e))
    by_is (inr s) =
        let is = revoker w v.objects s t o now rebias e in
        let none = subst (λ u. AllByRecursion (λ x. same_name (Mark o) x.at ≡ false) (writes_in (w.known u).seen_at_safepoint)) is.0 unstored in
        let kept : w.words (Mark o) ≡ s.before.words (Mark o) =
        ap (λ f. f (Mark o)) s.words ∙ untouched_word (Mark o) (writes_in (w.known s.requester).seen_at_safepoint) s.before.words none in
        let biased : is_biased (s.before.words (Mark s.revocation.object)) ≡ true =
        valid_is_biased (read_mark (s.before.words (Mark s.revocation.object))) _ s.biased in
        let here : is_biased (s.before.words (Mark o)) ≡ true = ap (λ i. is_biased (s.before.words (Mark i))) (sym is.1) ∙ biased in
        absurd (cc (sym here ∙ ap is_biased (sym kept) ∙ unbiased))

pub no_revocation_without_biases : (w : World) (o t now : ℕ) (rebias : Bool) → Valid w → (w.known t).stage ≡ Revokes o rebias now → w.biasing ≡ false → ⊥
no_revocation_without_biases w o t now rebias v e plain = by_is v.is
  where
    by_is : IsValid w v.objects → ⊥
    by_is (inl fits) = absurd (cc (fits.quiet.none_revokes t, ap revocation_in e))
    by_is (inr s) =
        let biased : is_biased (s.before.words (Mark s.revocation.object)) ≡ true =
        valid_is_biased (read_mark (s.before.words (Mark s.revocation.object))) _ s.biased in
        absurd (cc (sym (s.fits.classes.unbiased (sym s.biasing ∙ plain) s.revocation.object) ∙ biased))

-- A REACHED SAFEPOINT. Each step there found what those before it left.
at_safepoint : (w : World) (P : List PlainObject) (t : ℕ) → (w.known t).reached ≡ true
    → IsValid w P → (f : WordId → ℕ) × FoundAfter f (w.known t).seen_at_safepoint
at_safepoint w P t reached (inl fits) = let a = fits.seen.alone t reached (fits.quiet.none_revokes t) in (a.before, a.found)
at_safepoint w P t reached (inr s) =
    let asks : requester_in (w.words Safepoint) ≡ Some t =
    thread_is (requester_in (w.words Safepoint)) t (s.safe.requester t ∙ (s.safe.safepoint t reached).0) in
    let reached_too : (w.known s.requester).reached ≡ true = ap (λ k. k.reached) s.knows ∙ s.reached in
    let also : requester_in (w.words Safepoint) ≡ Some s.requester =
    thread_is (requester_in (w.words Safepoint)) s.requester (s.safe.requester s.requester ∙ (s.safe.safepoint s.requester reached_too).0) in
    let same : s.requester ≡ t = same_Some _ _ (sym also ∙ asks) in
    (s.before.words, subst (λ u. FoundAfter s.before.words (w.known u).seen_at_safepoint) same s.found)

no_writes : (xs : List Write) → xs ++ [] ≡ xs
no_writes [] = refl
no_writes (x ∷ xs) = ap (λ ys. x ∷ ys) (no_writes xs)

found_again : (f : WordId → ℕ) (a b : StepMade) (steps : List StepMade)
    → FoundAfter f (a ∷ b ∷ steps) → b.plan.act ≡ Load → a.plan.at ≡ b.plan.at → a.found ≡ b.found
found_again f a b steps h loads same =
    let silent : writes_in (b ∷ steps) ≡ writes_in steps = ap (λ act. writes_in steps ++ write_by b.plan.at act) loads ∙ no_writes (writes_in steps) in
    h.0 ∙ ap (λ xs. words_after xs f a.plan.at) silent ∙ ap (words_after (writes_in steps) f) same ∙ sym h.1.0

pub no_two_words_found : (w : World) (t : ℕ) (a b : StepMade) (steps : List StepMade) → Valid w → (w.known t).reached ≡ true
    → (w.known t).seen_at_safepoint ≡ a ∷ b ∷ steps → b.plan.act ≡ Load → a.plan.at ≡ b.plan.at → a.found ≢ b.found → ⊥
no_two_words_found w t a b steps v reached is loads same differs =
    let h = at_safepoint w v.objects t reached v.is in
    differs (found_again h.0 a b steps (subst (FoundAfter h.0) is h.1) loads same)
