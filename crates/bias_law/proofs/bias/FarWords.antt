-- What a revocation leaves alone: marks and prototypes of other classes, and where its verdict is single all but the mark of its object.
use Rattle.std.proofs.Common.{◌≡◌, ◌≢◌, ℕ, zero, suc, ◌+◌, ◌==◌, ◌&&◌, eqb-true, cond, Bool, true, false}
use Rattle.std.proofs.Common.{List, [], ◌∷◌, ◌++◌, Option, Some, None, refl, sym, ap, ◌∙◌, subst}
use Rattle.std.specs.List.{AllByRecursion}
use Rattle.plain_monitor.specs.Limits.{most_holds}
use Rattle.mark_word.specs.declared.mark.MarkForm.{MarkForm}
use Rattle.mark_word.specs.declared.mark.MarkForm.TheVariants.{Neutral, Anonymous, Biased, Locked}
use Rattle.mark_word.specs.Mark.{mark_of, read_mark}
use Rattle.mark_word.specs.Hold.{read_hold}
use Rattle.lock_policy.specs.declared.policy.Verdict.{Verdict}
use Rattle.lock_policy.specs.declared.policy.Verdict.TheVariants.{Single, BulkRebias, BulkRevoke}
use Rattle.core_world.specs.declared.word_id.WordId.{WordId}
use Rattle.core_world.specs.declared.word_id.WordId.TheVariants.{Prototype, Revocations, Mark, Hold, Displaced}
use Rattle.core_world.specs.Words.Shape.{Shape}
use Rattle.core_world.specs.Words.Names.{class_by}
use Rattle.core_world.specs.Words.Names.{same_name, with_word}
use Rattle.core_world.specs.Words.Forms.{names, hold_word, is_biased, epoch_in}
use Rattle.core_world.specs.Threads.Stages.{Revocation}
use Rattle.core_world.specs.Locks.{hold_count}
use Rattle.core_world.specs.RevocationRules.{Write, write, words_after, Rule, in_turn, each_below, holds_in, record_writes, first_place}
use Rattle.core_world.specs.RevocationRules.{revoke_form, revoke, raised_form, with_epoch, store_where, renew, object_held, on_held}
use Rattle.core_world.specs.RevocationRules.{on_records, biased_word, take_bias, verdict_rules, revocation_writes}
use Rattle.core_world.proofs.Naming.{same_named}
use Rattle.bias_law.proofs.bias.Walks.{verdict_of}

-- STORES of words for which E holds spare each word for which it doesn't.
module _ (E : WordId → Type 0) where
  abbrev pub AllElsewhere : List Write → Type 0
  AllElsewhere = AllByRecursion (λ x. E x.at)

  pub away : (at : WordId) (word : ℕ) (g : WordId → ℕ) (n : WordId) → E at → (E n → ⊥) → with_word at word g n ≡ g n
  away at word g n a b = by_test (same_name n at) refl
    where
      by_test : (d : Bool) → same_name n at ≡ d → cond d word (g n) ≡ g n
      by_test true h = absurd (b (subst E (sym (same_named n at h)) a))
      by_test false h = refl

  pub all_away : (xs : List Write) (g : WordId → ℕ) (n : WordId) → AllElsewhere xs → (E n → ⊥) → words_after xs g n ≡ g n
  all_away [] g n a b = refl
  all_away (x ∷ xs) g n a b = all_away xs (with_word x.at x.word g) n a.1 b ∙ away x.at x.word g n a.0 b

  pub both : (xs ys : List Write) → AllElsewhere xs → AllElsewhere ys → AllElsewhere (xs ++ ys)
  both [] ys a b = b
  both (x ∷ xs) ys a b = (a.0, both xs ys a.1 b)

  pub stored_away : (at : WordId) (word : Option ℕ) → E at → AllElsewhere (store_where at word)
  stored_away at None d = tt
  stored_away at (Some n) d = (d, tt)

  -- THE REVOCATION OF ONE OBJECT, where displaced words are such
  module _ (displaced : (t p : ℕ) → E (Displaced t p)) where
    pub records_away : (j t p : ℕ) (hs : List ℕ) → AllElsewhere (record_writes j t p hs)
    records_away j t p [] = tt
    records_away j t p (h ∷ hs) = by_test (names j h) (records_away j t (p + 1) hs)
      where
        by_test : (b : Bool) → AllElsewhere (record_writes j t (p + 1) hs)
            → AllElsewhere (cond b (write (Displaced t p) (cond (h == hold_word j 1) (mark_of (Neutral 0 0)) 0) ∷ []) [] ++ record_writes j t (p + 1) hs)
        by_test true r = (displaced t p, r)
        by_test false r = r

    pub revoked_away : (j : ℕ) (allowed : Bool) (m : Option MarkForm) (g : WordId → ℕ) → E (Mark j) → AllElsewhere (revoke_form m j allowed g)
    revoked_away j true (Some (Anonymous e a)) g d = tt
    revoked_away j false (Some (Anonymous e a)) g d = (d, tt)
    revoked_away j allowed (Some (Biased t e a)) g d = by_test (hold_count j (holds_in g t) == 0)
      where
        by_test : (b : Bool) → AllElsewhere (cond b (write (Mark j) (mark_of (cond allowed (Anonymous 0 0) (Neutral 0 0))) ∷ [])
            (record_writes j t 0 (holds_in g t) ++ write (Mark j) (mark_of (Locked t (first_place j (holds_in g t)))) ∷ []))
        by_test true = (d, tt)
        by_test false = both (record_writes j t 0 (holds_in g t))
            (write (Mark j) (mark_of (Locked t (first_place j (holds_in g t)))) ∷ []) (records_away j t 0 (holds_in g t)) (d, tt)
    revoked_away j allowed _ g d = tt

  -- RULES
  abbrev IsElsewhere : Rule → Type 0
  IsElsewhere r = (g : WordId → ℕ) → AllByRecursion (λ x. E x.at) (r g)

  turns : (rs : List Rule) → AllByRecursion IsElsewhere rs → IsElsewhere (in_turn rs)
  turns [] h g = tt
  turns (r ∷ rs) h g = both (r g) (in_turn rs (words_after (r g) g)) (h.0 g) (turns rs h.1 (words_after (r g) g))

  below : (n : ℕ) (r : ℕ → Rule) → ((i : ℕ) → IsElsewhere (r i)) → IsElsewhere (each_below n r)
  below zero r h g = tt
  below (suc n) r h g = both (each_below n r g) (r n (words_after (each_below n r g) g)) (below n r h g) (h n (words_after (each_below n r g) g))

  visits : (s : Shape) (class : ℕ → ℕ) (c : ℕ) (r : ℕ → Rule) → ((j : ℕ) → class j ≡ c → IsElsewhere (r j)) → IsElsewhere (on_records s class c r)
  unfolding on_records
  visits s class c r h = below s.threads (λ t. each_below most_holds (λ p f. on_held class c r (object_held (read_hold (f (Hold t p)))) f)) (λ t.
      below most_holds (λ p f. on_held class c r (object_held (read_hold (f (Hold t p)))) f) (λ p g. held (object_held (read_hold (g (Hold t p)))) g))
    where
      by_test : (j : ℕ) (a b : Bool) (g : WordId → ℕ) → (class j == c) ≡ a → AllElsewhere (cond (a && b) (r j g) [])
      by_test j true true g e = h j (eqb-true (class j) c e) g
      by_test j true false g e = tt
      by_test j false b g e = tt

      held : (m : Option ℕ) (g : WordId → ℕ) → AllElsewhere (on_held class c r m g)
      held None g = tt
      held (Some j) g = by_test j (class j == c) (is_biased (g (Mark j))) g refl

-- WHICH OBJECTS a revocation of o leaves alone, by its verdict
abbrev pub IsFar : (ℕ → ℕ) → ℕ → Verdict → ℕ → Type 0
IsFar class o Single i = i ≢ o
IsFar class o _ i = class i ≢ class o

module _ (s : Shape) (class : ℕ → ℕ) (t : ℕ) (b : Revocation) (i : ℕ) where
  -- the words but the mark and the prototype of i
  abbrev Elsewhere : WordId → Type 0
  Elsewhere (Prototype d) = d ≢ class i
  Elsewhere (Mark j) = j ≢ i
  Elsewhere _ = Unit {0}

  abbrev o : ℕ
  o = b.object

  abbrev c : ℕ
  c = class b.object

  raised_away : (m : Option ℕ) → c ≢ class i → AllElsewhere Elsewhere (raised_form m c)
  raised_away None d = tt
  raised_away (Some e) d = (d, tt)

  other : (j : ℕ) → class i ≢ c → class j ≡ c → j ≢ i
  other j d e same = d (ap class (sym same) ∙ e)

  rules_far : (v : Verdict) → IsFar class b.object v i → AllByRecursion (IsElsewhere Elsewhere) (verdict_rules s class t c b v)
  rules_far Single d = (λ g. revoked_away Elsewhere (λ u p. tt) o false (read_mark (g (Mark o))) g (λ e. d (sym e)), tt)
  rules_far BulkRebias d = (
    λ g. (tt, tt),
    (
      λ g. raised_away (epoch_in (g (Prototype c))) (λ e. d (sym e)),
      (
        visits Elsewhere s class c (renew c)
            (λ j e g. stored_away Elsewhere (Mark j) (with_epoch (read_mark (g (Mark j))) (epoch_in (g (Prototype c)))) (other j d e)),
        (λ g. revoked_away Elsewhere (λ u p. tt) o b.rebias (read_mark (g (Mark o))) g (other o d refl), by_rebias b.rebias),
      ),
    ),
  )
    where
      by_rebias : (a : Bool) → AllByRecursion (IsElsewhere Elsewhere) (cond a (take_bias c o t ∷ []) [])
      by_rebias true = (λ g. stored_away Elsewhere (Mark o) (biased_word (is_biased (g (Mark o))) (epoch_in (g (Prototype c))) t) (other o d refl), tt)
      by_rebias false = tt
  rules_far BulkRevoke d = (
    λ g. (tt, tt),
    (
      λ g. (λ e. d (sym e), tt),
      (
        visits Elsewhere s class c (λ j. revoke j false) (λ j e g. revoked_away Elsewhere (λ u p. tt) j false (read_mark (g (Mark j))) g (other j d e)),
        (λ g. revoked_away Elsewhere (λ u p. tt) o false (read_mark (g (Mark o))) g (other o d refl), tt),
      ),
    ),
  )

-- so all stores together leave its mark and its prototype
pub left_alone : (s : Shape) (t : ℕ) (b : Revocation) (i : ℕ) (f : WordId → ℕ) → IsFar (class_by s f) b.object (verdict_of s b f).0 i
    → (words_after (revocation_writes s t b f) f (Mark i) ≡ f (Mark i))
    × (words_after (revocation_writes s t b f) f (Prototype (class_by s f i)) ≡ f (Prototype (class_by s f i)))
unfolding revocation_writes
left_alone s t b i f far =
    let class = class_by s f in
    let c = class b.object in
    let d = verdict_of s b f in
    let g = with_word (Revocations c) d.1 f in
    let a = turns (Elsewhere s class t b i) (verdict_rules s class t c b d.0) (rules_far s class t b i d.0 far) g in
    let ws = in_turn (verdict_rules s class t c b d.0) g in
    (all_away (Elsewhere s class t b i) ws g (Mark i) a (λ e. e refl), all_away (Elsewhere s class t b i) ws g (Prototype (class i)) a (λ e. e refl))
