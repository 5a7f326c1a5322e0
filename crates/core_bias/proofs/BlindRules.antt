-- A revocation of single objects reads and stores no word of a class, so that the words of classes may be stored before it or after it.
use Rattle.plain_monitor.specs.Limits.{most_holds}
use Rattle.core_locks.proofs.Prelude.{◌≡◌, ℕ, zero, suc, ◌+◌, ◌==◌, ◌&&◌, ◌++◌, Bool, true, false, cond, if◌then◌else◌, List, [], ◌∷◌, Option}
use Rattle.core_locks.proofs.Prelude.{Some, None, refl, ap, ◌∙◌, subst, AllByRecursion, MarkForm, Neutral, Anonymous, Biased, mark_of, read_mark}
use Rattle.core_locks.proofs.Prelude.{read_hold, WordId, Mark, Hold, Shape, same_name, with_word, is_biased, names, hold_word, hold_count}
use Rattle.core_world.specs.declared.word_id.WordId.TheVariants as id
use Rattle.core_world.specs.RevocationRules.{Write, write, words_after, Rule, in_turn, each_below, holds_in, record_writes}
use Rattle.core_world.specs.RevocationRules.{revoke_biased, revoke_form, revoke, object_held, on_held, on_records}
use Rattle.core_world.proofs.Naming.{same_named}
use Rattle.core_bias.proofs.GoodWrites.{holds_same}

-- a word of a class, or the class word of an object
abbrev pub of_class : WordId → Bool
of_class (id.Prototype c) = true
of_class (id.Revocations c) = true
of_class (id.LastBulk c) = true
of_class (id.Class o) = true
of_class _ = false

-- words that are the same but for those of classes
abbrev pub Agree : (WordId → ℕ) → (WordId → ℕ) → Type 0
Agree f g = (n : WordId) → of_class n ≡ false → f n ≡ g n

pub stored_agree : (xs : List Write) (f g : WordId → ℕ) → Agree f g → Agree (words_after xs f) (words_after xs g)
stored_agree [] f g h = h
stored_agree (x ∷ xs) f g h = stored_agree xs (with_word x.at x.word f) (with_word x.at x.word g) (λ n e. ap (λ z. cond (same_name n x.at) x.word z) (h n e))

-- stores of no word of a class leave these words
abbrev pub Classless : List Write → Type 0
Classless xs = AllByRecursion (λ x. of_class x.at ≡ false) xs

pub classless_stays : (xs : List Write) (f : WordId → ℕ) (n : WordId) → Classless xs → of_class n ≡ true → words_after xs f n ≡ f n
classless_stays [] f n h e = refl
classless_stays (x ∷ xs) f n h e = classless_stays xs (with_word x.at x.word f) n h.1 e ∙ cases (same_name n x.at) refl
  where
    cases : (b : Bool) → same_name n x.at ≡ b → cond b x.word (f n) ≡ f n
    cases true s = let same = ap of_class (same_named n x.at s) in let free = h.0 in absurd (cc (same, free, e))
    cases false s = refl

classless_append : (xs ys : List Write) → Classless xs → Classless ys → Classless (xs ++ ys)
classless_append [] ys a b = b
classless_append (x ∷ xs) ys a b = (a.0, classless_append xs ys a.1 b)

-- A rule that reads and stores no word of a class.
pub record IsBlind (r : Rule) : Type 0 where
  pub reads : (f g : WordId → ℕ) → Agree f g → r f ≡ r g
  pub stores : (f : WordId → ℕ) → Classless (r f)

pub blind_below : (n : ℕ) (r : ℕ → Rule) → ((i : ℕ) → IsBlind (r i)) → IsBlind (each_below n r)
blind_below zero r h = record { reads = λ f g a. refl; stores = λ f. tt }
blind_below (suc n) r h =
    let before = blind_below n r h in
    record {
      reads = λ f g a.
          let e = before.reads f g a in
          let agree : Agree (words_after (each_below n r f) f) (words_after (each_below n r g) g) =
          subst (λ xs. Agree (words_after (each_below n r f) f) (words_after xs g)) e (stored_agree (each_below n r f) f g a) in
          let d = (h n).reads (words_after (each_below n r f) f) (words_after (each_below n r g) g) agree in
          λ i. e i ++ d i;
      stores = λ f. classless_append (each_below n r f) _ (before.stores f) ((h n).stores (words_after (each_below n r f) f));
    }

abbrev AreBlind : List Rule → Type 0
AreBlind [] = Unit {0}
AreBlind (r ∷ rs) = IsBlind r × AreBlind rs

pub blind_turn : (rs : List Rule) → AreBlind rs → IsBlind (in_turn rs)
blind_turn [] h = record { reads = λ f g a. refl; stores = λ f. tt }
blind_turn (r ∷ rs) h =
    let others = blind_turn rs h.1 in
    record {
      reads = λ f g a.
          let e = h.0.reads f g a in
          let agree : Agree (words_after (r f) f) (words_after (r g) g) =
          subst (λ xs. Agree (words_after (r f) f) (words_after xs g)) e (stored_agree (r f) f g a) in
          let d = others.reads (words_after (r f) f) (words_after (r g) g) agree in
          λ i. e i ++ d i;
      stores = λ f. classless_append (r f) _ (h.0.stores f) (others.stores (words_after (r f) f));
    }

classless_records : (o t p : ℕ) (hs : List ℕ) → Classless (record_writes o t p hs)
classless_records o t p [] = tt
classless_records o t p (y ∷ hs) = cases (names o y) (classless_records o t (p + 1) hs)
  where
    cases : (b : Bool) → Classless (record_writes o t (p + 1) hs) → Classless
        ((if b then write (id.Displaced t p) (if y == hold_word o 1 then mark_of (Neutral 0 0) else 0) ∷ [] else []) ++ record_writes o t (p + 1) hs)
    cases true h = (refl, h)
    cases false h = h

pub blind_revoke : (o : ℕ) (allowed : Bool) → IsBlind (revoke o allowed)
blind_revoke o allowed = record {
  reads = λ f g a. by_form f g a (read_mark (g (Mark o))) (ap read_mark (a (Mark o) refl));
  stores = λ f. none (read_mark (f (Mark o))) f;
}
  where
    by_form : (f g : WordId → ℕ) → Agree f g → (x : Option MarkForm) → read_mark (f (Mark o)) ≡ x
        → revoke_form (read_mark (f (Mark o))) o allowed f ≡ revoke_form x o allowed g
    by_form f g a x e = ap (λ z. revoke_form z o allowed f) e ∙ same x
      where
        same : (x : Option MarkForm) → revoke_form x o allowed f ≡ revoke_form x o allowed g
        same (Some (Anonymous epoch age)) = refl
        same (Some (Biased t epoch age)) = ap (λ hs. revoke_biased o t allowed hs) (holds_same g f t (λ p. a (Hold t p) refl))
        same _ = refl

    once : (b : Bool) (m : ℕ) → Classless (if b then [] else write (Mark o) m ∷ [])
    once true m = tt
    once false m = (refl, tt)

    count : (b : Bool) (m t n : ℕ) (hs : List ℕ) → Classless (if b then write (Mark o) m ∷ [] else record_writes o t 0 hs ++ write (Mark o) n ∷ [])
    count true m t n hs = (refl, tt)
    count false m t n hs = classless_append (record_writes o t 0 hs) _ (classless_records o t 0 hs) (refl, tt)

    none : (x : Option MarkForm) (f : WordId → ℕ) → Classless (revoke_form x o allowed f)
    none (Some (Anonymous epoch age)) f = once allowed (mark_of (Neutral 0 0))
    none (Some (Biased t epoch age)) f = count (hold_count o (holds_in f t) == 0) _ t _ (holds_in f t)
    none _ f = tt

pub blind_walk : (s : Shape) (class : ℕ → ℕ) (c : ℕ) (r : ℕ → Rule) → ((o : ℕ) → IsBlind (r o)) → IsBlind (on_records s class c r)
unfolding on_records
blind_walk s class c r h = blind_below s.threads _ (λ t. blind_below most_holds _ (λ p. record {
  reads = λ f g a. ap (λ z. on_held class c r (object_held (read_hold z)) f) (a (Hold t p) refl) ∙ held f g a (object_held (read_hold (g (Hold t p))));
  stores = λ f. free f (object_held (read_hold (f (Hold t p))));
}))
  where
    held : (f g : WordId → ℕ) → Agree f g → (x : Option ℕ) → on_held class c r x f ≡ on_held class c r x g
    held f g a None = refl
    held f g a (Some o) =
        ap (λ z. if (class o == c) && is_biased z then r o f else []) (a (Mark o) refl)
        ∙ ap (λ z. if (class o == c) && is_biased (g (Mark o)) then z else []) ((h o).reads f g a)

    free : (f : WordId → ℕ) (x : Option ℕ) → Classless (on_held class c r x f)
    free f None = tt
    free f (Some o) = cases ((class o == c) && is_biased (f (Mark o)))
      where
        cases : (b : Bool) → Classless (if b then r o f else [])
        cases true = (h o).stores f
        cases false = tt
