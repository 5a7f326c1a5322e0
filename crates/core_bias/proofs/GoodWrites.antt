-- What a revocation stores: words of classes, displaced words, and marks that spell a form and name no monitor, where a mark has the bias pattern.
use Rattle.plain_monitor.specs.Limits.{most_threads, most_holds}
use Rattle.core_locks.proofs.Prelude.{◌≡◌, ◌≢◌, ℕ, zero, suc, ◌+◌, ◌<◌, ◌==◌, ◌&&◌, ◌++◌, Bool, true, false, if◌then◌else◌, List, [], ◌∷◌, Option}
use Rattle.core_locks.proofs.Prelude.{Some, None, refl, sym, ap, ◌∙◌, subst, arith, eq-eqb, ◌≤◌, AllByRecursion, MarkForm, Neutral, Anonymous, Biased}
use Rattle.core_locks.proofs.Prelude.{Locked, mark_of, read_mark, read_hold, read_mark-mark_of, read_mark-spells, WordId, Mark, Hold, Shape, class_by}
use Rattle.core_locks.proofs.Prelude.{with_word, is_biased, is_biased_form, monitor_in, monitor_form, epoch_in, hold_word, names, hold_count, IsMark}
use Rattle.lock_policy.specs.declared.policy.Verdict.{Verdict}
use Rattle.lock_policy.specs.declared.policy.Verdict.TheVariants.{Single, BulkRebias, BulkRevoke}
use Rattle.lock_policy.specs.Policy.{decided}
use Rattle.core_world.specs.declared.word_id.WordId.TheVariants as id
use Rattle.core_world.specs.declared.word_id.WordId.TheVariants.{Class}
use Rattle.core_world.specs.Words.Forms.{epoch_form}
use Rattle.core_world.specs.Threads.Stages.{Revocation}
use Rattle.core_world.specs.RevocationRules.{Write, write, words_after, words_from, Rule, in_turn, each_below, store_one, holds_in}
use Rattle.core_world.specs.RevocationRules.{record_writes, first_place, revoke_biased, revoke_form, revoke, raised_form}
use Rattle.core_world.specs.RevocationRules.{raise_epoch, with_epoch, store_where, renew, object_held, on_held, on_records}
use Rattle.core_world.specs.RevocationRules.{biased_word, take_bias, verdict_rules, revocation_rules, revocation_writes}
use Rattle.core_world.proofs.Readings.{mark_one, mark_five}
use Rattle.core_locks.proofs.MarkMeanings.{each_set, locked_read}
use Rattle.core_bias.proofs.MarkTurns.{biased_unnamed}

-- the words that a revocation stores
abbrev pub is_revocation_word : WordId → Bool
is_revocation_word (id.Prototype c) = true
is_revocation_word (id.Revocations c) = true
is_revocation_word (id.LastBulk c) = true
is_revocation_word (id.Mark o) = true
is_revocation_word (id.Displaced t p) = true
is_revocation_word _ = false

-- equal hold words
pub holds_same : (f g : WordId → ℕ) (t : ℕ) → ((p : ℕ) → g (Hold t p) ≡ f (Hold t p)) → holds_in g t ≡ holds_in f t
unfolding holds_in
holds_same f g t h = λ i. words_from 0 most_holds (λ p. h p i)

-- an epoch is below 4
pub epoch_few : (n epoch : ℕ) → epoch_in n ≡ Some epoch → epoch < 4
epoch_few n epoch e = by_form (read_mark n) refl e
  where
    by_form : (a : Option MarkForm) → read_mark n ≡ a → epoch_form a ≡ Some epoch → epoch < 4
    by_form (Some (Anonymous i age)) r q = let range = (read_mark-spells n (Anonymous i age) r).0 in let same : i ≡ epoch = cc q in omega (arith, range.0, same)
    by_form _ r q = absurd (cc q)

module _ (s : Shape) (f : WordId → ℕ) where
  -- a store of such a word; a mark is one that spells a form and names no monitor, where one had the bias pattern
  abbrev pub GoodMark : WordId → ℕ → Type 0
  GoodMark (id.Mark o) word = IsMark s (read_mark word) × (monitor_in word ≡ None) × (is_biased (f (Mark o)) ≡ true)
  GoodMark _ word = Unit {0}

  abbrev pub IsGood : Write → Type 0
  IsGood x = (is_revocation_word x.at ≡ true) × GoodMark x.at x.word

  abbrev pub AreGood : List Write → Type 0
  AreGood xs = AllByRecursion IsGood xs

  -- words whose marks spell forms, name the monitors that those of f name, and have the bias pattern only where those of f have it, with the hold
  -- words and the class words of f
  pub record Follows (g : WordId → ℕ) : Type 0 where
    pub forms : (o : ℕ) → IsMark s (read_mark (g (Mark o)))
    pub names : (o : ℕ) → monitor_in (g (Mark o)) ≡ monitor_in (f (Mark o))
    pub leaning : (o : ℕ) → is_biased (g (Mark o)) ≡ true → is_biased (f (Mark o)) ≡ true
    pub holds : (t p : ℕ) → g (Hold t p) ≡ f (Hold t p)
    pub classes : (o : ℕ) → g (Class o) ≡ f (Class o)

  pub one_follows : (at : WordId) (word : ℕ) (g : WordId → ℕ) → IsGood (write at word) → Follows g → Follows (with_word at word g)
  one_follows (id.Mark i) word g good h = record {
    forms = λ o. each_set (λ j y. IsMark s (read_mark y)) i word (λ j. g (Mark j)) o good.1.0 (λ d. h.forms o);
    names = λ o. each_set (λ j y. monitor_in y ≡ monitor_in (f (Mark j))) i word (λ j. g (Mark j)) o (good.1.1 ∙ sym (biased_unnamed (f (Mark i)) good.1.2))
        (λ d. h.names o);
    leaning = λ o. each_set (λ j y. is_biased y ≡ true → is_biased (f (Mark j)) ≡ true) i word (λ j. g (Mark j)) o (λ e. good.1.2) (λ d. h.leaning o);
    holds = h.holds;
    classes = h.classes;
  }
  one_follows (id.Prototype c) word g good h = record { forms = h.forms; names = h.names; leaning = h.leaning; holds = h.holds; classes = h.classes }
  one_follows (id.Revocations c) word g good h = record { forms = h.forms; names = h.names; leaning = h.leaning; holds = h.holds; classes = h.classes }
  one_follows (id.LastBulk c) word g good h = record { forms = h.forms; names = h.names; leaning = h.leaning; holds = h.holds; classes = h.classes }
  one_follows (id.Displaced t p) word g good h = record { forms = h.forms; names = h.names; leaning = h.leaning; holds = h.holds; classes = h.classes }
  one_follows _ word g good h = let no = good.0 in absurd (cc no)

  pub follow : (xs : List Write) (g : WordId → ℕ) → AreGood xs → Follows g → Follows (words_after xs g)
  follow [] g good h = h
  follow (x ∷ xs) g good h = follow xs (with_word x.at x.word g) good.1 (one_follows x.at x.word g good.0 h)

  pub good_append : (xs ys : List Write) → AreGood xs → AreGood ys → AreGood (xs ++ ys)
  good_append [] ys a b = b
  good_append (x ∷ xs) ys a b = (a.0, good_append xs ys a.1 b)

  -- the one after the first of them
  pub good_next : (xs ys : List Write) (y : Write) → AreGood (xs ++ y ∷ ys) → AreGood xs × IsGood y
  good_next [] ys y h = (tt, h.0)
  good_next (x ∷ xs) ys y h = let r = good_next xs ys y h.1 in ((h.0, r.0), r.1)

  -- a rule makes good stores, by such words
  abbrev pub IsGoodRule : Rule → Type 0
  IsGoodRule r = (g : WordId → ℕ) → Follows g → AreGood (r g)

  abbrev pub AreGoodRules : List Rule → Type 0
  AreGoodRules [] = Unit {0}
  AreGoodRules (r ∷ rs) = IsGoodRule r × AreGoodRules rs

  good_in_turn : (rs : List Rule) → AreGoodRules rs → IsGoodRule (in_turn rs)
  good_in_turn [] h g k = tt
  good_in_turn (r ∷ rs) h g k = let here = h.0 g k in
      good_append (r g) (in_turn rs (words_after (r g) g)) here (good_in_turn rs h.1 (words_after (r g) g) (follow (r g) g here k))

  good_below : (n : ℕ) (r : ℕ → Rule) → ((i : ℕ) → IsGoodRule (r i)) → IsGoodRule (each_below n r)
  good_below zero r h g k = tt
  good_below (suc n) r h g k =
      let before = good_below n r h g k in
      let g' = words_after (each_below n r g) g in
      good_append (each_below n r g) (r n g') before (h n g' (follow (each_below n r g) g before k))

  -- REVOKING ONE OBJECT
  good_records : (o t p : ℕ) (hs : List ℕ) → AreGood (record_writes o t p hs)
  good_records o t p [] = tt
  good_records o t p (y ∷ hs) = cases (names o y) (good_records o t (p + 1) hs)
    where
      cases : (b : Bool) → AreGood (record_writes o t (p + 1) hs) → AreGood ((if b
          then write (id.Displaced t p) (if y == hold_word o 1 then mark_of (Neutral 0 0) else 0) ∷ [] else []) ++ record_writes o t (p + 1) hs)
      cases true h = ((refl, tt), h)
      cases false h = h

  -- the threads are few, and who holds an object has a record of it with depth 1
  module _ (threads : s.threads ≤ most_threads) (first : (t o : ℕ) → hold_count o (holds_in f t) ≢ 0 → first_place o (holds_in f t) < most_holds) where
    good_free : (g : WordId → ℕ) → Follows g → (o : ℕ) → is_biased (g (Mark o)) ≡ true → (b : Bool)
        → AreGood (write (Mark o) (mark_of (if b then Anonymous 0 0 else Neutral 0 0)) ∷ [])
    good_free g h o e true = ((refl, (rw mark_five refl, ap monitor_form mark_five, h.leaning o e)), tt)
    good_free g h o e false = ((refl, (rw mark_one refl, ap monitor_form mark_one, h.leaning o e)), tt)

    good_revoke : (o : ℕ) (allowed : Bool) → IsGoodRule (revoke o allowed)
    good_revoke o allowed g h = by_form (read_mark (g (Mark o))) refl
      where
        anonymous : (b : Bool) → is_biased (g (Mark o)) ≡ true → AreGood (if b then [] else write (Mark o) (mark_of (Neutral 0 0)) ∷ [])
        anonymous true e = tt
        anonymous false e = good_free g h o e false

        by_count : (t epoch age : ℕ) → read_mark (g (Mark o)) ≡ Some (Biased t epoch age) → (b : Bool) → (hold_count o (holds_in f t) == 0) ≡ b
            → AreGood (if b then write (Mark o) (mark_of (if allowed then Anonymous 0 0 else Neutral 0 0)) ∷ []
            else record_writes o t 0 (holds_in f t) ++ write (Mark o) (mark_of (Locked t (first_place o (holds_in f t)))) ∷ [])
        by_count t epoch age e true n = good_free g h o (ap is_biased_form e) allowed
        by_count t epoch age e false n =
            let form = subst (IsMark s) e (h.forms o) in
            let within : t < s.threads = form.0 in
            let place = first t o (λ z. absurd (cc (eq-eqb (hold_count o (holds_in f t)) 0 z, n))) in
            let spelled = locked_read t (first_place o (holds_in f t)) (omega (arith, within, threads)) place in
            good_append (record_writes o t 0 (holds_in f t)) _ (good_records o t 0 (holds_in f t))
            ((refl, (subst (IsMark s) (sym spelled) within, ap monitor_form spelled, h.leaning o (ap is_biased_form e))), tt)

        by_form : (a : Option MarkForm) → read_mark (g (Mark o)) ≡ a → AreGood (revoke_form a o allowed g)
        by_form (Some (Anonymous epoch age)) e = anonymous allowed (ap is_biased_form e)
        by_form (Some (Biased t epoch age)) e = subst (λ hs. AreGood (revoke_biased o t allowed hs))
            (sym (holds_same f g t (h.holds t))) (by_count t epoch age e (hold_count o (holds_in f t) == 0) refl)
        by_form _ e = tt

    good_one : (at : WordId) (word : ℕ) → is_revocation_word at ≡ true → GoodMark at word → IsGoodRule (store_one at word)
    good_one at word a b g h = ((a, b), tt)

    good_raise : (c : ℕ) → IsGoodRule (raise_epoch c)
    good_raise c g h = by_epoch (epoch_in (g (id.Prototype c)))
      where
        by_epoch : (a : Option ℕ) → AreGood (raised_form a c)
        by_epoch None = tt
        by_epoch (Some epoch) = ((refl, tt), tt)

    good_renew : (c o : ℕ) → IsGoodRule (renew c o)
    good_renew c o g h = by_form (read_mark (g (Mark o))) refl (epoch_in (g (id.Prototype c))) refl
      where
        by_form : (a : Option MarkForm) → read_mark (g (Mark o)) ≡ a → (b : Option ℕ)
            → epoch_in (g (id.Prototype c)) ≡ b → AreGood (store_where (Mark o) (with_epoch a b))
        by_form (Some (Anonymous e age)) r (Some epoch) q =
            let form = subst (IsMark s) r (h.forms o) in
            let low : epoch < 4 = epoch_few _ epoch q in
            let young : age < 16 = omega (arith, form) in
            let spelled = read_mark-mark_of (Anonymous epoch age) (low, young) in
            ((refl, (subst (IsMark s) (sym spelled) form, ap monitor_form spelled, h.leaning o (ap is_biased_form r))), tt)
        by_form (Some (Biased t e age)) r (Some epoch) q =
            let form = subst (IsMark s) r (h.forms o) in
            let low : epoch < 4 = epoch_few _ epoch q in
            let within = form.0 in
            let new = form.1 in
            let young : age < 16 = omega (arith, new) in
            let small : t < 32 = omega (arith, within, threads) in
            let spelled = read_mark-mark_of (Biased t epoch age) (small, low, young) in
            ((refl, (subst (IsMark s) (sym spelled) form, ap monitor_form spelled, h.leaning o (ap is_biased_form r))), tt)
        by_form _ r _ q = tt

    good_take : (c o t : ℕ) → t < s.threads → IsGoodRule (take_bias c o t)
    good_take c o t within g h = by_form (is_biased (g (Mark o))) refl (epoch_in (g (id.Prototype c))) refl
      where
        by_form : (a : Bool) → is_biased (g (Mark o)) ≡ a → (b : Option ℕ)
            → epoch_in (g (id.Prototype c)) ≡ b → AreGood (store_where (Mark o) (biased_word a b t))
        by_form true r (Some epoch) q =
            let low : epoch < 4 = epoch_few _ epoch q in
            let small : t < 32 = omega (arith, within, threads) in
            let spelled = read_mark-mark_of (Biased t epoch 0) (small, low, omega arith) in
            ((refl, (subst (IsMark s) (sym spelled) (within, refl), ap monitor_form spelled, h.leaning o r)), tt)
        by_form _ r _ q = tt

    good_held : (class : ℕ → ℕ) (c : ℕ) (r : ℕ → Rule) → ((o : ℕ) → IsGoodRule (r o)) → (a : Option ℕ) → IsGoodRule (on_held class c r a)
    good_held class c r good None g h = tt
    good_held class c r good (Some o) g h = cases ((class o == c) && is_biased (g (Mark o)))
      where
        cases : (b : Bool) → AreGood (if b then r o g else [])
        cases true = good o g h
        cases false = tt

    good_walk : (class : ℕ → ℕ) (c : ℕ) (r : ℕ → Rule) → ((o : ℕ) → IsGoodRule (r o)) → IsGoodRule (on_records s class c r)
    unfolding on_records
    good_walk class c r good =
        good_below s.threads _ (λ t. good_below most_holds _ (λ p g h. good_held class c r good (object_held (read_hold (g (Hold t p)))) g h))

    good_verdict : (class : ℕ → ℕ) (t c : ℕ) (b : Revocation) → t < s.threads → (d : Verdict) → AreGoodRules (verdict_rules s class t c b d)
    good_verdict class t c b within Single = (good_revoke b.object false, tt)
    good_verdict class t c b within BulkRebias = (
      good_one (id.LastBulk c) b.now refl tt,
      (good_raise c, (good_walk class c (renew c) (good_renew c), (good_revoke b.object b.rebias, taking b.rebias))),
    )
      where
        taking : (a : Bool) → AreGoodRules (if a then take_bias c b.object t ∷ [] else [])
        taking true = (good_take c b.object t within, tt)
        taking false = tt
    good_verdict class t c b within BulkRevoke = (
      good_one (id.LastBulk c) b.now refl tt,
      (
        good_one (id.Prototype c) (mark_of (Neutral 0 0)) refl tt,
        (good_walk class c (λ o. revoke o false) (λ o. good_revoke o false), (good_revoke b.object false, tt)),
      ),
    )

    -- ALL STORES of a revocation by thread t
    pub good_writes : (t : ℕ) (b : Revocation) → t < s.threads → ((o : ℕ) → IsMark s (read_mark (f (Mark o)))) → AreGood (revocation_writes s t b f)
    unfolding revocation_writes
    good_writes t b within forms =
        let class = class_by s f in
        let c = class b.object in
        let d = decided (f (id.Revocations c)) (f (id.LastBulk c)) b.now in
        good_in_turn (revocation_rules s class t c b d) (good_one (id.Revocations c) d.1 refl tt, good_verdict class t c b within d.0) f (record {
          forms = forms;
          names = λ o. refl;
          leaning = λ o e. e;
          holds = λ t p. refl;
          classes = λ o. refl;
        })
