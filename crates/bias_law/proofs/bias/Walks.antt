-- What a revocation as a whole does to marks: none gets the bias pattern, and objects that are biased to nobody stay so.
use Rattle.std.proofs.Common.{◌≡◌, ◌≢◌, ℕ, zero, suc, ◌+◌, ◌*◌, ◌<◌, ◌==◌, ◌&&◌, eq-eqb, ne_eqb, eqb-true, cond, Bool}
use Rattle.std.proofs.Common.{true, false, List, [], ◌∷◌, ◌++◌, Option, Some, None, refl, sym, ap, ◌∙◌, subst, arith}
use Rattle.std.specs.List.{AllByRecursion}
use Rattle.std.proofs.lemmas.Option.{same_Some}
use Rattle.plain_monitor.specs.Limits.{most_holds}
use Rattle.mark_word.specs.declared.mark.MarkForm.{MarkForm}
use Rattle.mark_word.specs.declared.mark.MarkForm.TheVariants.{Inflating, Neutral, Anonymous, Biased, Locked, Inflated, Marked}
use Rattle.mark_word.specs.Mark.{mark_of, read_mark}
use Rattle.mark_word.specs.Hold.{read_hold}
use Rattle.mark_word.proofs.ReadingMarks.{read_mark-mark_of, read_mark-spells}
use Rattle.lock_policy.specs.declared.policy.Verdict.{Verdict}
use Rattle.lock_policy.specs.declared.policy.Verdict.TheVariants.{Single, BulkRebias, BulkRevoke}
use Rattle.lock_policy.specs.Policy.{decided}
use Rattle.core_world.specs.declared.word_id.WordId.{WordId}
use Rattle.core_world.specs.declared.word_id.WordId.TheVariants.{Prototype, Revocations, LastBulk, Mark, Hold, Displaced, Class}
use Rattle.core_world.specs.Words.Shape.{Shape}
use Rattle.core_world.specs.Words.Names.{class_by}
use Rattle.core_world.specs.Words.Names.{with_word}
use Rattle.core_world.specs.Words.Forms.{names, hold_word, is_biased, is_biased_form, epoch_in, epoch_form}
use Rattle.core_world.specs.Threads.Stages.{Revocation}
use Rattle.core_world.specs.Locks.{hold_count}
use Rattle.core_world.specs.RevocationRules.{Write, write, words_after, Rule, in_turn, each_below, store_one, holds_in, record_writes, first_place}
use Rattle.core_world.specs.RevocationRules.{revoke_biased, revoke_form, revoke, raised_form, raise_epoch, with_epoch, store_where, renew}
use Rattle.core_world.specs.RevocationRules.{object_held, on_held, on_records, biased_word, take_bias, verdict_rules, revocation_writes}
use Rattle.core_law.specs.BiasOwners.{bias_owner, owner_form}
use Rattle.core_law.specs.MarksAndLogs.{is_anonymous, is_anonymous_form}
use Rattle.bias_law.specs.Moves.{AddsNoBias, MayLoseBias}
use Rattle.core_world.proofs.KnowledgeParts.{by_equal}
use Rattle.bias_law.proofs.Owners.{unbiased_unowned}

pub stored_append : (xs ys : List Write) (f : WordId → ℕ) → words_after (xs ++ ys) f ≡ words_after ys (words_after xs f)
stored_append [] ys f = refl
stored_append (x ∷ xs) ys f = stored_append xs ys (with_word x.at x.word f)

-- an epoch that stands in a word is below 4
pub epoch_small : (m : Option MarkForm) (n e : ℕ) → read_mark n ≡ m → epoch_form m ≡ Some e → e < 4
epoch_small (Some (Anonymous d a)) n e h g = let r = (read_mark-spells n (Anonymous d a) h).0.0 in let s = same_Some d e g in omega (arith, r, s)
epoch_small _ n e h g = absurd (cc g)

-- a word with an even number has no bias pattern
even_unbiased : (n m : ℕ) → n ≡ m * 8 → is_biased n ≡ false
even_unbiased n m e = by_form (read_mark n) refl
  where
    by_form : (f : Option MarkForm) → read_mark n ≡ f → is_biased_form f ≡ false
    by_form None h = refl
    by_form (Some Inflating) h = refl
    by_form (Some (Neutral x a)) h = refl
    by_form (Some (Anonymous d a)) h = absurd (let s = (read_mark-spells n (Anonymous d a) h).1 in omega (arith, s, e))
    by_form (Some (Biased t d a)) h = absurd (let s = (read_mark-spells n (Biased t d a) h).1 in omega (arith, s, e))
    by_form (Some (Locked t q)) h = refl
    by_form (Some (Inflated k)) h = refl
    by_form (Some Marked) h = refl

pub locked_unbiased : (t p : ℕ) → is_biased (mark_of (Locked t p)) ≡ false
locked_unbiased t p = even_unbiased (mark_of (Locked t p)) ((t + 1) * 512 + p) (omega arith)

-- and a mark without a thread no bias owner
free_unowned : (allowed : Bool) → bias_owner (mark_of (cond allowed (Anonymous 0 0) (Neutral 0 0))) ≡ None
free_unowned true = ap owner_form (read_mark-mark_of (Anonymous 0 0) (omega arith, omega arith))
free_unowned false = ap owner_form (read_mark-mark_of (Neutral 0 0) (omega arith, omega arith))

locked_unowned : (t p : ℕ) → bias_owner (mark_of (Locked t p)) ≡ None
locked_unowned t p = unbiased_unowned (mark_of (Locked t p)) (locked_unbiased t p)

-- The bias of this object is revoked, and anonymous marks stay so but where Q says so.
module _ (own : ℕ) (Q : ℕ → Type 0) where
  same : (f : WordId → ℕ) → AddsNoBias own Q f f
  same f = record { pattern = λ i e. e; owners = λ i u d e. e; nobody = λ i n e. e; counts = λ c. refl; classes = λ i. refl }

  next : (f g h : WordId → ℕ) → AddsNoBias own Q f g → AddsNoBias own Q g h → AddsNoBias own Q f h
  next f g h a b = record {
    pattern = λ i e. a.pattern i (b.pattern i e);
    owners = λ i u d e. a.owners i u d (b.owners i u d e);
    nobody = λ i n e. b.nobody i n (a.nobody i n e);
    counts = λ c. b.counts c ∙ a.counts c;
    classes = λ i. b.classes i ∙ a.classes i;
  }

  abbrev Gentle : Rule → Type 0
  Gentle r = (f : WordId → ℕ) → AddsNoBias own Q f (words_after (r f) f)

  turns : (rs : List Rule) → AllByRecursion Gentle rs → Gentle (in_turn rs)
  turns [] h f = same f
  turns (r ∷ rs) h f =
      subst (AddsNoBias own Q f) (sym (stored_append (r f) (in_turn rs (words_after (r f) f)) f))
      (next f (words_after (r f) f) _ (h.0 f) (turns rs h.1 (words_after (r f) f)))

  below : (n : ℕ) (r : ℕ → Rule) → ((i : ℕ) → Gentle (r i)) → Gentle (each_below n r)
  below zero r h f = same f
  below (suc n) r h f =
      subst (AddsNoBias own Q f) (sym (stored_append (each_below n r f) (r n (words_after (each_below n r f) f)) f))
      (next f (words_after (each_below n r f) f) _ (below n r h f) (h n (words_after (each_below n r f) f)))

  -- a mark is stored after other words were, where it was biased before, or the new one isn't; its bias owner is as it was, or it has none, or is that of
  -- the object; and it stays anonymous, or is excepted
  mark_stored : (j v : ℕ) (f g : WordId → ℕ) → AddsNoBias own Q f g → (is_biased v ≡ true → is_biased (f (Mark j)) ≡ true)
      → ((u : ℕ) → j ≢ own → bias_owner v ≡ Some u → bias_owner (f (Mark j)) ≡ Some u)
      → ((Q j → ⊥) → is_anonymous (f (Mark j)) ≡ true → is_anonymous v ≡ true) → AddsNoBias own Q f (with_word (Mark j) v g)
  mark_stored j v f g a biased owners nobody = record {
    pattern = λ i e. by_equal i j
        (λ s. subst (λ k. is_biased (f (Mark k)) ≡ true) (sym s) (biased (sym (ap is_biased (here i s)) ∙ e)))
        (λ d. a.pattern i (sym (ap is_biased (away i d)) ∙ e));
    owners = λ i u d e. by_equal i j
        (λ s. subst (λ k. bias_owner (f (Mark k)) ≡ Some u) (sym s) (owners u (λ m. d (s ∙ m)) (sym (ap bias_owner (here i s)) ∙ e)))
        (λ n. a.owners i u d (sym (ap bias_owner (away i n)) ∙ e));
    nobody = λ i n e. by_equal i j
        (λ s. ap is_anonymous (here i s) ∙ nobody (λ q. n (subst Q (sym s) q)) (subst (λ k. is_anonymous (f (Mark k)) ≡ true) s e))
        (λ d. ap is_anonymous (away i d) ∙ a.nobody i n e);
    counts = a.counts;
    classes = a.classes;
  }
    where
      here : (i : ℕ) → i ≡ j → with_word (Mark j) v g (Mark i) ≡ v
      here i s = ap (λ (b : Bool). cond b v (g (Mark i))) (eq-eqb i j s)

      away : (i : ℕ) → i ≢ j → with_word (Mark j) v g (Mark i) ≡ g (Mark i)
      away i d = ap (λ (b : Bool). cond b v (g (Mark i))) (ne_eqb i j d)

  records : (o t p : ℕ) (hs : List ℕ) (f : WordId → ℕ) → AddsNoBias own Q f (words_after (record_writes o t p hs) f)
  records o t p [] f = same f
  records o t p (h ∷ hs) f = by_name (names o h) (λ g. records o t (p + 1) hs g)
    where
      by_name : (b : Bool) → ((g : WordId → ℕ) → AddsNoBias own Q g (words_after (record_writes o t (p + 1) hs) g))
          → AddsNoBias own Q f (words_after (cond b (write (Displaced t p) (cond (h == hold_word o 1) (mark_of (Neutral 0 0)) 0) ∷ []) []
          ++ record_writes o t (p + 1) hs) f)
      by_name true r = let a = r (with_word (Displaced t p) (cond (h == hold_word o 1) (mark_of (Neutral 0 0)) 0) f) in record {
        pattern = a.pattern;
        owners = a.owners;
        nobody = a.nobody;
        counts = a.counts;
        classes = a.classes;
      }
      by_name false r = r f

  -- THE RULES. A biased object that is excepted is revoked.
  revoked : (o t : ℕ) (allowed : Bool) (hs : List ℕ) (f : WordId → ℕ) → Q o
      → is_biased (f (Mark o)) ≡ true → AddsNoBias own Q f (words_after (revoke_biased o t allowed hs) f)
  revoked o t allowed hs f q biased = by_held (hold_count o hs == 0)
    where
      by_held : (b : Bool) → AddsNoBias own Q f (words_after (cond b (write (Mark o) (mark_of (cond allowed (Anonymous 0 0) (Neutral 0 0))) ∷ [])
          (record_writes o t 0 hs ++ write (Mark o) (mark_of (Locked t (first_place o hs))) ∷ [])) f)
      by_held true = mark_stored o _ f f (same f) (λ e. biased) (λ u d e. absurd (let none = free_unowned allowed in cc (none, e))) (λ n. absurd (n q))
      by_held false =
          subst (AddsNoBias own Q f) (sym (stored_append (record_writes o t 0 hs) (write (Mark o) (mark_of (Locked t (first_place o hs))) ∷ []) f))
          (mark_stored o _ f (words_after (record_writes o t 0 hs) f) (records o t 0 hs f) (λ e. biased)
          (λ u d e. absurd (let none = locked_unowned t (first_place o hs) in cc (none, e))) (λ n. absurd (n q)))

  by_form : (o : ℕ) (allowed : Bool) (m : Option MarkForm) (f : WordId → ℕ) → Q o
      → read_mark (f (Mark o)) ≡ m → AddsNoBias own Q f (words_after (revoke_form m o allowed f) f)
  by_form o true (Some (Anonymous e a)) f q h = same f
  by_form o false (Some (Anonymous e a)) f q h =
      mark_stored o _ f f (same f) (λ g. ap is_biased_form h) (λ u d g. absurd (let none = free_unowned false in cc (none, g))) (λ n. absurd (n q))
  by_form o allowed (Some (Biased t e a)) f q h = revoked o t allowed (holds_in f t) f q (ap is_biased_form h)
  by_form o allowed _ f q h = same f

  revokes : (o : ℕ) (allowed : Bool) → Q o → Gentle (revoke o allowed)
  revokes o allowed q f = by_form o allowed (read_mark (f (Mark o))) f q refl

  raises : (c : ℕ) → Gentle (raise_epoch c)
  raises c f = by_epoch (epoch_in (f (Prototype c)))
    where
      by_epoch : (e : Option ℕ) → AddsNoBias own Q f (words_after (raised_form e c) f)
      by_epoch None = same f
      by_epoch (Some e) = record { pattern = λ i g. g; owners = λ i u d g. g; nobody = λ i n g. g; counts = λ c. refl; classes = λ i. refl }

  renews : (c j : ℕ) → Gentle (renew c j)
  renews c j f = by_forms (read_mark (f (Mark j))) (epoch_in (f (Prototype c))) refl refl
    where
      by_forms : (m : Option MarkForm) (e : Option ℕ) → read_mark (f (Mark j)) ≡ m → epoch_in (f (Prototype c)) ≡ e
          → AddsNoBias own Q f (words_after (store_where (Mark j) (with_epoch m e)) f)
      by_forms (Some (Anonymous d a)) (Some e) h g =
          let small = epoch_small (read_mark (f (Prototype c))) (f (Prototype c)) e refl g in
          let age = (read_mark-spells (f (Mark j)) (Anonymous d a) h).0.1 in
          let read = read_mark-mark_of (Anonymous e a) (small, age) in
          mark_stored j _ f f (same f) (λ b. ap is_biased_form h)
          (λ u n b. absurd (let none = ap owner_form read in cc (none, b))) (λ n b. ap is_anonymous_form read)
      by_forms (Some (Biased t d a)) (Some e) h g =
          let small = epoch_small (read_mark (f (Prototype c))) (f (Prototype c)) e refl g in
          let spelled = (read_mark-spells (f (Mark j)) (Biased t d a) h).0 in
          let read = read_mark-mark_of (Biased t e a) (spelled.0, small, spelled.2) in
          mark_stored j _ f f (same f) (λ b. ap is_biased_form h) (λ u n b. ap owner_form h ∙ sym (ap owner_form read) ∙ b)
          (λ n b. absurd (let k = ap is_anonymous_form h in cc (k, b)))
      by_forms (Some (Anonymous d a)) None h g = same f
      by_forms (Some (Biased t d a)) None h g = same f
      by_forms None e h g = same f
      by_forms (Some Inflating) e h g = same f
      by_forms (Some (Neutral x a)) e h g = same f
      by_forms (Some (Locked t p)) e h g = same f
      by_forms (Some (Inflated m)) e h g = same f
      by_forms (Some Marked) e h g = same f

  takes : (c o t : ℕ) → Q o → o ≡ own → Gentle (take_bias c o t)
  takes c o t q is f = by_word (is_biased (f (Mark o))) (epoch_in (f (Prototype c))) refl
    where
      by_word : (b : Bool) (e : Option ℕ) → is_biased (f (Mark o)) ≡ b → AddsNoBias own Q f (words_after (store_where (Mark o) (biased_word b e t)) f)
      by_word true (Some e) h = mark_stored o _ f f (same f) (λ g. h) (λ u d. absurd (d is)) (λ n. absurd (n q))
      by_word true None h = same f
      by_word false e h = same f

  -- the walk over the records
  visits : (s : Shape) (class : ℕ → ℕ) (c : ℕ) (r : ℕ → Rule) → ((j : ℕ) → class j ≡ c → Gentle (r j)) → Gentle (on_records s class c r)
  unfolding on_records
  visits s class c r h = below s.threads (λ t. each_below most_holds (λ p f. on_held class c r (object_held (read_hold (f (Hold t p)))) f)) (λ t.
      below most_holds (λ p f. on_held class c r (object_held (read_hold (f (Hold t p)))) f) (λ p f. held (object_held (read_hold (f (Hold t p)))) f))
    where
      by_test : (j : ℕ) (a b : Bool) (f : WordId → ℕ) → (class j == c) ≡ a → AddsNoBias own Q f (words_after (cond (a && b) (r j f) []) f)
      by_test j true true f e = h j (eqb-true (class j) c e) f
      by_test j true false f e = same f
      by_test j false b f e = same f

      held : (m : Option ℕ) (f : WordId → ℕ) → AddsNoBias own Q f (words_after (on_held class c r m f) f)
      held None f = same f
      held (Some j) f = by_test j (class j == c) (is_biased (f (Mark j))) f refl

  ones : (at : WordId) (v : ℕ)
      → ((f : WordId → ℕ) (i : ℕ) → (with_word at v f (Mark i) ≡ f (Mark i))
      × (with_word at v f (Revocations i) ≡ f (Revocations i)) × (with_word at v f (Class i) ≡ f (Class i)))
      → Gentle (store_one at v)
  ones at v h f = record {
    pattern = λ i e. sym (ap is_biased (h f i).0) ∙ e;
    owners = λ i u d e. sym (ap bias_owner (h f i).0) ∙ e;
    nobody = λ i n e. ap is_anonymous (h f i).0 ∙ e;
    counts = λ c. (h f c).1;
    classes = λ i. (h f i).2;
  }

-- each verdict's rules
rules_gentle : (s : Shape) (class : ℕ → ℕ) (t : ℕ) (b : Revocation) (v : Verdict)
    → AllByRecursion (Gentle b.object (MayLoseBias class b.object v)) (verdict_rules s class t (class b.object) b v)
rules_gentle s class t b Single = (revokes b.object (MayLoseBias class b.object Single) b.object false refl, tt)
rules_gentle s class t b BulkRebias = (
  ones _ _ (LastBulk _) _ (λ f i. (refl, refl, refl)),
  (
    raises _ _ _,
    (
      visits b.object (MayLoseBias class b.object BulkRebias) s class (class b.object) (renew (class b.object)) (λ j e. renews _ _ _ j),
      (revokes b.object (MayLoseBias class b.object BulkRebias) b.object b.rebias refl, by_rebias b.rebias),
    ),
  ),
)
  where
    by_rebias : (a : Bool) → AllByRecursion (Gentle b.object (MayLoseBias class b.object BulkRebias)) (cond a (take_bias (class b.object) b.object t ∷ []) [])
    by_rebias true = (takes b.object (MayLoseBias class b.object BulkRebias) _ b.object t refl refl, tt)
    by_rebias false = tt
rules_gentle s class t b BulkRevoke = (
  ones _ _ (LastBulk _) _ (λ f i. (refl, refl, refl)),
  (
    ones _ _ (Prototype _) _ (λ f i. (refl, refl, refl)),
    (
      visits b.object (MayLoseBias class b.object BulkRevoke) s class (class b.object)
          (λ j. revoke j false) (λ j e. revokes b.object (MayLoseBias class b.object BulkRevoke) j false e),
      (revokes b.object (MayLoseBias class b.object BulkRevoke) b.object false refl, tt),
    ),
  ),
)

-- from the words after the first store, which is that of the count
abbrev pub verdict_of : Shape → Revocation → (WordId → ℕ) → Verdict × ℕ
verdict_of s b f = let c = class_by s f b.object in decided (f (Revocations c)) (f (LastBulk c)) b.now

pub revokes_gently : (s : Shape) (t : ℕ) (b : Revocation) (f : WordId → ℕ)
    → AddsNoBias b.object (MayLoseBias (class_by s f) b.object (verdict_of s b f).0)
    (with_word (Revocations (class_by s f b.object)) (verdict_of s b f).1 f) (words_after (revocation_writes s t b f) f)
unfolding revocation_writes
revokes_gently s t b f =
    let class = class_by s f in
    let c = class b.object in
    let d = verdict_of s b f in
    turns b.object (MayLoseBias class b.object d.0) (verdict_rules s class t c b d.0) (rules_gentle s class t b d.0) (with_word (Revocations c) d.1 f)
