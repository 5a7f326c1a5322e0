-- What the stores of a revocation as a whole leave of its object, which was validly biased to a thread: no bias pattern, or the bias of the
-- requester, where nobody held the object.
use Rattle.std.proofs.Common.{◌≡◌, ◌≢◌, ◌⊎◌, ℕ, zero, suc, ◌+◌, ◌%◌, ◌<◌, ◌==◌, ◌&&◌, eq-eqb, eqb-true, cond, Bool, true}
use Rattle.std.proofs.Common.{false, List, [], ◌∷◌, ◌++◌, Option, Some, None, refl, sym, ap, ◌∙◌, subst, arith, inl, inr}
use Rattle.std.proofs.Math.Nat.{mod-lt}
use Rattle.std.specs.List.{AllByRecursion}
use Rattle.plain_monitor.specs.Limits.{most_holds}
use Rattle.mark_word.specs.declared.mark.MarkForm.{MarkForm}
use Rattle.mark_word.specs.declared.mark.MarkForm.TheVariants.{Neutral, Anonymous, Biased, Locked}
use Rattle.mark_word.specs.Mark.{mark_of, read_mark}
use Rattle.mark_word.specs.Hold.{read_hold}
use Rattle.mark_word.proofs.ReadingMarks.{read_mark-mark_of, read_mark-spells}
use Rattle.lock_policy.specs.declared.policy.Verdict.{Verdict}
use Rattle.lock_policy.specs.declared.policy.Verdict.TheVariants.{Single, BulkRebias, BulkRevoke}
use Rattle.lock_policy.specs.Policy.{decided}
use Rattle.core_world.specs.declared.word_id.WordId.{WordId}
use Rattle.core_world.specs.declared.word_id.WordId.TheVariants.{Prototype, Revocations, LastBulk, Mark, Hold}
use Rattle.core_world.specs.Words.Shape.{Shape}
use Rattle.core_world.specs.Words.Names.{class_by}
use Rattle.core_world.specs.Words.Names.{with_word}
use Rattle.core_world.specs.Words.Forms.{is_biased, is_biased_form, epoch_in, epoch_form}
use Rattle.core_world.specs.Threads.Stages.{Revocation}
use Rattle.core_world.specs.Locks.{hold_count}
use Rattle.core_world.specs.RevocationRules.{Write, write, words_after, Rule, in_turn, each_below, words_from, holds_in, record_writes, first_place}
use Rattle.core_world.specs.RevocationRules.{revoke_biased, revoke_form, revoke, raised_form, raise_epoch, store_one, with_epoch, store_where, renew}
use Rattle.core_world.specs.RevocationRules.{object_held, on_held, on_records, biased_word, take_bias, verdict_rules, revocation_writes}
use Rattle.core_world.proofs.KnowledgeParts.{by_equal}
use Rattle.bias_law.proofs.bias.FarWords.{all_away, records_away, revoked_away, stored_away}
use Rattle.bias_law.proofs.bias.Walks.{stored_append, epoch_small, locked_unbiased}

neutral_unbiased : is_biased (mark_of (Neutral 0 0)) ≡ false
neutral_unbiased = ap is_biased_form (read_mark-mark_of (Neutral 0 0) (omega arith, omega arith))

-- RULES, one after the other, for whatever they keep
module _ (S : (WordId → ℕ) → Type 0) where
  abbrev KeepsIt : Rule → Type 0
  KeepsIt r = (g : WordId → ℕ) → S g → S (words_after (r g) g)

  below : (n : ℕ) (r : ℕ → Rule) → ((i : ℕ) → KeepsIt (r i)) → KeepsIt (each_below n r)
  below zero r h g k = k
  below (suc n) r h g k =
      subst S (sym (stored_append (each_below n r g) (r n (words_after (each_below n r g) g)) g)) (h n (words_after (each_below n r g) g) (below n r h g k))

  visits : (s : Shape) (class : ℕ → ℕ) (c : ℕ) (r : ℕ → Rule) → ((j : ℕ) → KeepsIt (r j)) → KeepsIt (on_records s class c r)
  unfolding on_records
  visits s class c r h = below s.threads (λ t. each_below most_holds (λ p f. on_held class c r (object_held (read_hold (f (Hold t p)))) f)) (λ t.
      below most_holds (λ p f. on_held class c r (object_held (read_hold (f (Hold t p)))) f) (λ p g. held (object_held (read_hold (g (Hold t p)))) g))
    where
      by_test : (j : ℕ) (b : Bool) (g : WordId → ℕ) → S g → S (words_after (cond b (r j g) []) g)
      by_test j true g k = h j g k
      by_test j false g k = k

      held : (m : Option ℕ) (g : WordId → ℕ) → S g → S (words_after (on_held class c r m g) g)
      held None g k = k
      held (Some j) g k = by_test j ((class j == c) && is_biased (g (Mark j))) g k

-- the rules in turn are the first, and the others on what it left
turned : (r : Rule) (rs : List Rule) (g : WordId → ℕ)
    → words_after (in_turn (r ∷ rs) g) g ≡ words_after (in_turn rs (words_after (r g) g)) (words_after (r g) g)
turned r rs g = stored_append (r g) (in_turn rs (words_after (r g) g)) g

-- The object o was biased to u; its class's prototype is q now; and the hold words are those of f.
module _ (f : WordId → ℕ) (o c u q : ℕ) where
  record Stands (g : WordId → ℕ) : Type 0 where
    holds : (v p : ℕ) → g (Hold v p) ≡ f (Hold v p)
    prototype : g (Prototype c) ≡ q
    mark : ((e a : ℕ) × (read_mark (g (Mark o)) ≡ Some (Biased u e a))) ⊎ (is_biased (g (Mark o)) ≡ false)

  -- words that a store of another spares
  abbrev Elsewhere : WordId → Type 0
  Elsewhere (Hold v p) = ⊥
  Elsewhere (Prototype d) = ⊥
  Elsewhere (Mark j) = j ≢ o
  Elsewhere _ = Unit {0}

  spares : (xs : List Write) (g : WordId → ℕ) → AllByRecursion (λ x. Elsewhere x.at) xs → Stands g → Stands (words_after xs g)
  spares xs g a k =
      let at_mark : words_after xs g (Mark o) ≡ g (Mark o) = all_away Elsewhere xs g (Mark o) a (λ d. d refl) in
      record {
        holds = λ v p. all_away Elsewhere xs g (Hold v p) a (λ d. d) ∙ k.holds v p;
        prototype = all_away Elsewhere xs g (Prototype c) a (λ d. d) ∙ k.prototype;
        mark = elim k.mark [ inl h ↦ inl (h.0, h.1, ap read_mark at_mark ∙ h.2) | inr h ↦ inr (ap is_biased at_mark ∙ h) ];
      }

  -- The revocation of its own object: where nobody holds it and a new bias is allowed, it is biased to nobody
  abbrev Revoked : Bool → (WordId → ℕ) → Type 0
  Revoked allowed g = (is_biased (g (Mark o)) ≡ false)
      ⊎ ((allowed ≡ true) × (read_mark (g (Mark o)) ≡ Some (Anonymous 0 0)) × (hold_count o (holds_in f u) ≡ 0))

  holds_same : (g : WordId → ℕ) → Stands g → holds_in g u ≡ holds_in f u
  unfolding holds_in
  holds_same g k = let fs : ◌≡◌ {A = ℕ → ℕ} (λ p. g (Hold u p)) (λ p. f (Hold u p)) = λ i. λ p. k.holds u p i in ap (words_from 0 most_holds) fs

  none_revoked : (m : Option MarkForm) (allowed : Bool) (g : WordId → ℕ) → is_biased_form m ≡ false → revoke_form m o allowed g ≡ []
  none_revoked (Some (Anonymous d a)) allowed g e = absurd (cc e)
  none_revoked (Some (Biased t d a)) allowed g e = absurd (cc e)
  none_revoked _ allowed g e = refl

  -- the words after a store of its mark
  here : (word : ℕ) (g : WordId → ℕ) → with_word (Mark o) word g (Mark o) ≡ word
  here word g = ap (λ (b : Bool). cond b word (g (Mark o))) (eq-eqb o o refl)

  own_revoked : (allowed : Bool) (g : WordId → ℕ) → Stands g → Revoked allowed (words_after (revoke o allowed g) g)
      × ((v p : ℕ) → words_after (revoke o allowed g) g (Hold v p) ≡ f (Hold v p)) × (words_after (revoke o allowed g) g (Prototype c) ≡ q)
  own_revoked allowed g k = elim k.mark [
    | inr free ↦
        let nothing : revoke o allowed g ≡ [] = none_revoked (read_mark (g (Mark o))) allowed g free in
        subst (λ ws. Revoked allowed (words_after ws g) × ((v p : ℕ) → words_after ws g (Hold v p) ≡ f (Hold v p))
        × (words_after ws g (Prototype c) ≡ q)) (sym nothing) (inl free, k.holds, k.prototype)
    | inl leans ↦
        let is : revoke o allowed g ≡ revoke_biased o u allowed (holds_in g u) = ap (λ m. revoke_form m o allowed g) leans.2 in
        subst (λ ws. Revoked allowed (words_after ws g) × ((v p : ℕ) → words_after ws g (Hold v p) ≡ f (Hold v p))
        × (words_after ws g (Prototype c) ≡ q)) (sym is) (by_held (hold_count o (holds_in g u) == 0) refl)
  ]
    where
      abandoned : (b : Bool) → allowed ≡ b → hold_count o (holds_in g u) ≡ 0
          → Revoked allowed (with_word (Mark o) (mark_of (cond allowed (Anonymous 0 0) (Neutral 0 0))) g)
      abandoned true e none = inr (
        e,
        ap read_mark (here _ g) ∙ ap (λ (b : Bool). read_mark (mark_of (cond b (Anonymous 0 0) (Neutral 0 0)))) e
            ∙ read_mark-mark_of (Anonymous 0 0) (omega arith, omega arith),
        ap (hold_count o) (sym (holds_same g k)) ∙ none,
      )
      abandoned false e none =
          inl (ap is_biased (here _ g) ∙ ap (λ (b : Bool). is_biased (mark_of (cond b (Anonymous 0 0) (Neutral 0 0)))) e ∙ neutral_unbiased)

      by_held : (b : Bool) → (hold_count o (holds_in g u) == 0) ≡ b
          → let ws : List Write = cond b (write (Mark o) (mark_of (cond allowed (Anonymous 0 0) (Neutral 0 0))) ∷ [])
          (record_writes o u 0 (holds_in g u) ++ write (Mark o) (mark_of (Locked u (first_place o (holds_in g u)))) ∷ []) in
          Revoked allowed (words_after ws g) × ((v p : ℕ) → words_after ws g (Hold v p) ≡ f (Hold v p)) × (words_after ws g (Prototype c) ≡ q)
      by_held true e = (abandoned allowed refl (eqb-true _ 0 e), k.holds, k.prototype)
      by_held false e =
          let ws = record_writes o u 0 (holds_in g u) in
          let a = records_away Elsewhere (λ v p. tt) o u 0 (holds_in g u) in
          let word = mark_of (Locked u (first_place o (holds_in g u))) in
          let after = stored_append ws (write (Mark o) word ∷ []) g in (
            inl (ap (λ (z : WordId → ℕ). is_biased (z (Mark o))) after
                ∙ ap is_biased (here word (words_after ws g)) ∙ locked_unbiased u (first_place o (holds_in g u))),
            λ v p. ap (λ (z : WordId → ℕ). z (Hold v p)) after ∙ all_away Elsewhere ws g (Hold v p) a (λ d. d) ∙ k.holds v p,
            ap (λ (z : WordId → ℕ). z (Prototype c)) after ∙ all_away Elsewhere ws g (Prototype c) a (λ d. d) ∙ k.prototype,
          )

  unbiased_now : (g : WordId → ℕ) → Revoked false g → is_biased (g (Mark o)) ≡ false
  unbiased_now g (inl h) = h
  unbiased_now g (inr h) = absurd (cc h.0)

  kept_revoke : (j : ℕ) → KeepsIt Stands (revoke j false)
  kept_revoke j g k = by_equal j o
      (λ e. let r = own_revoked false g k in
      subst (λ i. Stands (words_after (revoke i false g) g)) (sym e) (record {
        holds = r.1;
        prototype = r.2;
        mark = inr (unbiased_now (words_after (revoke o false g) g) r.0);
      }))
      (λ d. spares (revoke j false g) g (revoked_away Elsewhere (λ v p. tt) j false (read_mark (g (Mark j))) g d) k)

  -- a mark gets its class's epoch
  no_epoch : (m : Option MarkForm) (e : Option ℕ) → is_biased_form m ≡ false → with_epoch m e ≡ None
  no_epoch (Some (Anonymous d a)) e h = absurd (cc h)
  no_epoch (Some (Biased t d a)) e h = absurd (cc h)
  no_epoch _ e h = refl

  own_renewed : (d : ℕ) (g : WordId → ℕ) → Stands g → Stands (words_after (renew d o g) g)
  own_renewed d g k = elim k.mark [
    | inr free ↦
        let nothing : renew d o g ≡ [] = ap (store_where (Mark o)) (no_epoch (read_mark (g (Mark o))) (epoch_in (g (Prototype d))) free) in
        subst (λ ws. Stands (words_after ws g)) (sym nothing) k
    | inl leans ↦
        let is : renew d o g ≡ store_where (Mark o) (with_epoch (Some (Biased u leans.0 leans.1)) (epoch_in (g (Prototype d)))) =
        ap (λ m. store_where (Mark o) (with_epoch m (epoch_in (g (Prototype d))))) leans.2 in
        subst (λ ws. Stands (words_after ws g)) (sym is) (by_epoch leans.0 leans.1 leans.2 (epoch_in (g (Prototype d))) refl)
  ]
    where
      by_epoch : (e a : ℕ) → read_mark (g (Mark o)) ≡ Some (Biased u e a) → (m : Option ℕ) → epoch_in (g (Prototype d)) ≡ m
          → Stands (words_after (store_where (Mark o) (with_epoch (Some (Biased u e a)) m)) g)
      by_epoch e a was None h = k
      by_epoch e a was (Some n) h =
          let spelled = (read_mark-spells (g (Mark o)) (Biased u e a) was).0 in
          let small = epoch_small (read_mark (g (Prototype d))) (g (Prototype d)) n refl h in
          record {
            holds = k.holds;
            prototype = k.prototype;
            mark = inl (n, a, ap read_mark (here (mark_of (Biased u n a)) g) ∙ read_mark-mark_of (Biased u n a) (spelled.0, small, spelled.2));
          }

  kept_renew : (d j : ℕ) → KeepsIt Stands (renew d j)
  kept_renew d j g k = by_equal j o
      (λ e. subst (λ i. Stands (words_after (renew d i g) g)) (sym e) (own_renewed d g k))
      (λ n. spares (renew d j g) g (stored_away Elsewhere (Mark j) (with_epoch (read_mark (g (Mark j))) (epoch_in (g (Prototype d)))) n) k)

-- WHAT IS LEFT, of the object o of a class c that was biased to u, by the verdict
abbrev pub Final : (WordId → ℕ) → ℕ → ℕ → ℕ → ℕ → Verdict → (WordId → ℕ) → Type 0
Final f o c u t v g =
    (is_biased (g (Mark o)) ≡ false)
    ⊎ ((e : ℕ) × (read_mark (g (Mark o)) ≡ Some (Biased t e 0)) × (epoch_in (g (Prototype c)) ≡ Some e) × (hold_count o (holds_in f u) ≡ 0) × (v ≡ BulkRebias))

module _ (s : Shape) (t : ℕ) (b : Revocation) (f : WordId → ℕ) (u e a epoch : ℕ) (was : read_mark (f (Mark b.object)) ≡ Some (Biased u e a))
    (proto : epoch_in (f (Prototype (class_by s f b.object))) ≡ Some epoch) (small : t < 32) where
  abbrev o : ℕ
  o = b.object

  abbrev class : ℕ → ℕ
  class = class_by s f

  abbrev c : ℕ
  c = class b.object

  abbrev F : Verdict → (WordId → ℕ) → Type 0
  F = Final f b.object (class_by s f b.object) u t

  -- a revocation without a new bias
  revoked_last : (v : Verdict) (q : ℕ) (g : WordId → ℕ) → Stands f o c u q g → F v (words_after (in_turn (revoke o false ∷ []) g) g)
  revoked_last v q g k = subst (F v) (sym (turned (revoke o false) [] g))
      (inl (unbiased_now f o c u q (words_after (revoke o false g) g) (own_revoked f o c u q false g k).0))

  -- the next epoch, and the prototype that has it
  abbrev n : ℕ
  n = (epoch + 1) % 4

  abbrev q : ℕ
  q = mark_of (Anonymous ((epoch + 1) % 4) 0)

  next_epoch : epoch_in (mark_of (Anonymous ((epoch + 1) % 4) 0)) ≡ Some ((epoch + 1) % 4)
  next_epoch = ap epoch_form (read_mark-mark_of (Anonymous ((epoch + 1) % 4) 0) (mod-lt (epoch + 1) (omega arith), omega arith))

  taken_last : (g : WordId → ℕ) → Revoked f o c u (mark_of (Anonymous ((epoch + 1) % 4) 0)) true g
      → g (Prototype c) ≡ mark_of (Anonymous ((epoch + 1) % 4) 0) → F BulkRebias (words_after (in_turn (take_bias c o t ∷ []) g) g)
  taken_last g (inl free) at =
      let nothing : take_bias c o t g ≡ [] = ap (λ d. store_where (Mark o) (biased_word d (epoch_in (g (Prototype c))) t)) free in
      subst (F BulkRebias) (sym (turned (take_bias c o t) [] g)) (subst (λ ws. F BulkRebias (words_after ws g)) (sym nothing) (inl free))
  taken_last g (inr h) at =
      let stands : epoch_in (g (Prototype c)) ≡ Some n = ap epoch_in at ∙ next_epoch in
      let is : take_bias c o t g ≡ write (Mark o) (mark_of (Biased t n 0)) ∷ [] =
      ap (λ d. store_where (Mark o) (biased_word d (epoch_in (g (Prototype c))) t)) (ap is_biased_form h.1)
      ∙ ap (λ d. store_where (Mark o) (biased_word true d t)) stands in
      let read : read_mark (with_word (Mark o) (mark_of (Biased t n 0)) g (Mark o)) ≡ Some (Biased t n 0) =
      ap (λ (d : Bool). read_mark (cond d (mark_of (Biased t n 0)) (g (Mark o)))) (eq-eqb o o refl)
      ∙ read_mark-mark_of (Biased t n 0) (small, mod-lt (epoch + 1) (omega arith), omega arith) in
      subst (F BulkRebias) (sym (turned (take_bias c o t) [] g)) (subst (λ ws. F BulkRebias (words_after ws g)) (sym is) (inr (n, read, stands, h.2, refl)))

  rebiased_last : (rebias : Bool) (g : WordId → ℕ) → Stands f o c u (mark_of (Anonymous ((epoch + 1) % 4) 0)) g
      → F BulkRebias (words_after (in_turn (revoke o rebias ∷ cond rebias (take_bias c o t ∷ []) []) g) g)
  rebiased_last false g k = revoked_last BulkRebias (mark_of (Anonymous ((epoch + 1) % 4) 0)) g k
  rebiased_last true g k =
      let r = own_revoked f o c u (mark_of (Anonymous ((epoch + 1) % 4) 0)) true g k in
      subst (F BulkRebias) (sym (turned (revoke o true) (take_bias c o t ∷ []) g)) (taken_last (words_after (revoke o true g) g) r.0 r.2)

  stands_at : (word : ℕ) (g : WordId → ℕ) → ((v p : ℕ) → g (Hold v p) ≡ f (Hold v p))
      → read_mark (g (Mark o)) ≡ Some (Biased u e a) → Stands f o c u word (with_word (Prototype c) word g)
  stands_at word g holds mark = record {
    holds = holds;
    prototype = ap (λ (d : Bool). cond d word (g (Prototype c))) (eq-eqb c c refl);
    mark = inl (e, a, mark);
  }

  by_verdict : (v : Verdict) (count : ℕ) → F v (words_after (in_turn (store_one (Revocations c) count ∷ verdict_rules s class t c b v) f) f)
  by_verdict Single count =
      let g = with_word (Revocations c) count f in
      subst (F Single) (sym (turned (store_one (Revocations c) count) (revoke o false ∷ []) f))
      (revoked_last Single (f (Prototype c)) g (record { holds = λ v p. refl; prototype = refl; mark = inl (e, a, was) }))
  by_verdict BulkRevoke count =
      let g = with_word (LastBulk c) b.now (with_word (Revocations c) count f) in
      let word = mark_of (Neutral 0 0) in
      let h = with_word (Prototype c) word g in
      let k = stands_at word g (λ v p. refl) was in
      let rest = on_records s class c (λ i. revoke i false) ∷ revoke o false ∷ [] in
      subst (F BulkRevoke) (sym (turned (store_one (Revocations c) count) (store_one (LastBulk c) b.now ∷ store_one (Prototype c) word ∷ rest) f))
      (subst (F BulkRevoke) (sym (turned (store_one (LastBulk c) b.now) (store_one (Prototype c) word ∷ rest) (with_word (Revocations c) count f)))
      (subst (F BulkRevoke) (sym (turned (store_one (Prototype c) word) rest g))
      (subst (F BulkRevoke) (sym (turned (on_records s class c (λ i. revoke i false)) (revoke o false ∷ []) h))
      (revoked_last BulkRevoke word (words_after (on_records s class c (λ i. revoke i false) h) h)
      (visits (Stands f o c u word) s class c (λ i. revoke i false) (kept_revoke f o c u word) h k)))))
  by_verdict BulkRebias count =
      let g = with_word (LastBulk c) b.now (with_word (Revocations c) count f) in
      let word = mark_of (Anonymous ((epoch + 1) % 4) 0) in
      let h = with_word (Prototype c) word g in
      let k = stands_at word g (λ v p. refl) was in
      let last = revoke o b.rebias ∷ cond b.rebias (take_bias c o t ∷ []) [] in
      let rest = on_records s class c (renew c) ∷ last in
      let raised : raise_epoch c g ≡ write (Prototype c) word ∷ [] = ap (λ m. raised_form m c) proto in
      subst (F BulkRebias) (sym (turned (store_one (Revocations c) count) (store_one (LastBulk c) b.now ∷ raise_epoch c ∷ rest) f))
      (subst (F BulkRebias) (sym (turned (store_one (LastBulk c) b.now) (raise_epoch c ∷ rest) (with_word (Revocations c) count f)))
      (subst (F BulkRebias) (sym (turned (raise_epoch c) rest g))
      (subst (λ ws. F BulkRebias (words_after (in_turn rest (words_after ws g)) (words_after ws g))) (sym raised)
      (subst (F BulkRebias) (sym (turned (on_records s class c (renew c)) last h))
      (rebiased_last b.rebias (words_after (on_records s class c (renew c) h) h)
      (visits (Stands f o c u word) s class c (renew c) (kept_renew f o c u word c) h k))))))

  pub mark_at_the_end : F (decided (f (Revocations c)) (f (LastBulk c)) b.now).0 (words_after (revocation_writes s t b f) f)
  unfolding revocation_writes
  mark_at_the_end = let d = decided (f (Revocations c)) (f (LastBulk c)) b.now in by_verdict d.0 d.1
