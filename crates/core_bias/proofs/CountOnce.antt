-- A revocation stores the count of its class first, and no count again.
use Rattle.plain_monitor.specs.Limits.{most_holds}
use Rattle.core_locks.proofs.Prelude.{◌≡◌, ℕ, zero, suc, ◌==◌, ◌&&◌, ◌++◌, Bool, true, false, if◌then◌else◌, List}
use Rattle.core_locks.proofs.Prelude.{[], ◌∷◌, Option, Some, None, refl, ap, read_mark, read_hold, WordId, Mark}
use Rattle.core_locks.proofs.Prelude.{Prototype, LastBulk, AllByRecursion, Shape, class_by, is_biased, epoch_in}
use Rattle.lock_policy.specs.declared.policy.Verdict.{Verdict}
use Rattle.lock_policy.specs.declared.policy.Verdict.TheVariants.{Single, BulkRebias, BulkRevoke}
use Rattle.lock_policy.specs.Policy.{decided}
use Rattle.core_world.specs.declared.word_id.WordId.TheVariants as id
use Rattle.core_world.specs.RevocationRules.{Write, write, words_after, Rule, in_turn, each_below, revoke, raised_form}
use Rattle.core_world.specs.RevocationRules.{raise_epoch, with_epoch, store_where, renew, object_held, on_held, on_records}
use Rattle.core_world.specs.RevocationRules.{biased_word, take_bias, verdict_rules, revocation_writes}
use Rattle.core_world.specs.Threads.Stages.{Revocation}
use Rattle.core_bias.proofs.BlindRules.{of_class, Classless, blind_revoke}

abbrev pub is_count : WordId → Bool
is_count (id.Revocations c) = true
is_count _ = false

-- none of these stores is of a count
abbrev pub Countless : List Write → Type 0
Countless xs = AllByRecursion (λ x. is_count x.at ≡ false) xs

classless_count : (n : WordId) → of_class n ≡ false → is_count n ≡ false
classless_count (id.Revocations c) e = absurd (cc e)
classless_count _ e = refl

by_class : (xs : List Write) → Classless xs → Countless xs
by_class [] h = tt
by_class (x ∷ xs) h = (classless_count x.at h.0, by_class xs h.1)

countless_append : (xs ys : List Write) → Countless xs → Countless ys → Countless (xs ++ ys)
countless_append [] ys a b = b
countless_append (x ∷ xs) ys a b = (a.0, countless_append xs ys a.1 b)

-- THE RULES
abbrev IsCountless : Rule → Type 0
IsCountless r = (f : WordId → ℕ) → Countless (r f)

abbrev AreCountless : List Rule → Type 0
AreCountless [] = Unit {0}
AreCountless (r ∷ rs) = IsCountless r × AreCountless rs

in_turn_none : (rs : List Rule) → AreCountless rs → IsCountless (in_turn rs)
in_turn_none [] h f = tt
in_turn_none (r ∷ rs) h f = countless_append (r f) _ (h.0 f) (in_turn_none rs h.1 (words_after (r f) f))

below_none : (n : ℕ) (r : ℕ → Rule) → ((i : ℕ) → IsCountless (r i)) → IsCountless (each_below n r)
below_none zero r h f = tt
below_none (suc n) r h f = countless_append (each_below n r f) _ (below_none n r h f) (h n (words_after (each_below n r f) f))

revoke_none : (o : ℕ) (allowed : Bool) → IsCountless (revoke o allowed)
revoke_none o allowed f = by_class (revoke o allowed f) ((blind_revoke o allowed).stores f)

walk_none : (s : Shape) (class : ℕ → ℕ) (c : ℕ) (r : ℕ → Rule) → ((o : ℕ) → IsCountless (r o)) → IsCountless (on_records s class c r)
unfolding on_records
walk_none s class c r h = below_none s.threads _ (λ t. below_none most_holds _ (λ p f. held f (object_held (read_hold (f (id.Hold t p))))))
  where
    held : (f : WordId → ℕ) (x : Option ℕ) → Countless (on_held class c r x f)
    held f None = tt
    held f (Some o) = cases ((class o == c) && is_biased (f (Mark o)))
      where
        cases : (b : Bool) → Countless (if b then r o f else [])
        cases true = h o f
        cases false = tt

mark_none : (o : ℕ) (a : Option ℕ) → Countless (store_where (Mark o) a)
mark_none o None = tt
mark_none o (Some word) = (refl, tt)

raise_none : (c : ℕ) → IsCountless (raise_epoch c)
raise_none c f = by_epoch (epoch_in (f (Prototype c)))
  where
    by_epoch : (a : Option ℕ) → Countless (raised_form a c)
    by_epoch None = tt
    by_epoch (Some epoch) = (refl, tt)

verdict_none : (s : Shape) (class : ℕ → ℕ) (t c : ℕ) (b : Revocation) (d : Verdict) → AreCountless (verdict_rules s class t c b d)
verdict_none s class t c b Single = (revoke_none b.object false, tt)
verdict_none s class t c b BulkRebias = (
  λ f. (refl, tt),
  (
    raise_none c,
    (
      walk_none s class c (renew c) (λ o f. mark_none o (with_epoch (read_mark (f (Mark o))) (epoch_in (f (Prototype c))))),
      (revoke_none b.object b.rebias, taking b.rebias),
    ),
  ),
)
  where
    taking : (a : Bool) → AreCountless (if a then take_bias c b.object t ∷ [] else [])
    taking true = (λ f. mark_none b.object (biased_word (is_biased (f (Mark b.object))) (epoch_in (f (Prototype c))) t), tt)
    taking false = tt
verdict_none s class t c b BulkRevoke = (
  λ f. (refl, tt),
  (λ f. (refl, tt), (walk_none s class c (λ o. revoke o false) (λ o. revoke_none o false), (revoke_none b.object false, tt))),
)

-- what comes after the first of these stores is no count
tail_none : (x : Write) (xs : List Write) → Countless xs → (first : Write) (before after : List Write) (n : WordId) (word : ℕ)
    → is_count n ≡ true → (first ∷ before) ++ write n word ∷ after ≡ x ∷ xs → ⊥
tail_none x xs none first before after n word count e = none_there before xs none (cc e)
  where
    none_there : (before xs : List Write) → Countless xs → before ++ write n word ∷ after ≡ xs → ⊥
    none_there [] [] h e = absurd (cc e)
    none_there [] (y ∷ ys) h e = let same : write n word ≡ y = cc e in let no = h.0 in
        let at = ap (λ (z : Write). is_count z.at) same in absurd (cc (no, at, count))
    none_there (z ∷ zs) [] h e = absurd (cc e)
    none_there (z ∷ zs) (y ∷ ys) h e = none_there zs ys h.1 (cc e)

-- so no count is stored after another store
pub count_once : (s : Shape) (t : ℕ) (b : Revocation) (f : WordId → ℕ) (first : Write) (before after : List Write) (c word : ℕ)
    → (first ∷ before) ++ write (id.Revocations c) word ∷ after ≡ revocation_writes s t b f → ⊥
unfolding revocation_writes
count_once s t b f first before after c word e =
    let class = class_by s f in
    let its = class b.object in
    let d = decided (f (id.Revocations its)) (f (id.LastBulk its)) b.now in
    tail_none (write (id.Revocations its) d.1) _
    (in_turn_none (verdict_rules s class t its b d.0) (verdict_none s class t its b d.0) _) first before after (id.Revocations c) word refl e
