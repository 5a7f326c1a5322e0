-- What a step that spares what isn't there leaves of it: the mark of an object that isn't there, each class word, and that no thread has a hold word
-- for such an object. No stamp word falls.
use Rattle.std.proofs.Common.{◌≡◌, ◌⊎◌, ℕ, zero, suc, ◌+◌, ◌<◌, ◌≤◌, eq-eqb, ne_eqb, Bool, true, false, cond}
use Rattle.std.proofs.Common.{List, [], ◌∷◌, slice_set, slice_index, refl, sym, ap, ◌∙◌, arith, inl, inr}
use Rattle.core_world.specs.declared.act.Act.{Act}
use Rattle.core_world.specs.declared.act.Act.TheVariants.{Store}
use Rattle.core_world.specs.declared.word_id.WordId.{WordId}
use Rattle.core_world.specs.declared.word_id.WordId.TheVariants.{Mark, Hold, Stamp, Class}
use Rattle.core_world.specs.Locks.{count_where, hold_count}
use Rattle.core_world.specs.RevocationRules.{words_from}
use Rattle.core_world.specs.Steps.{holds_after}
use Rattle.core_world.specs.Threads.ThreadView.{ThreadView}
use Rattle.core_world.specs.Threads.References.{making_in}
use Rattle.core_world.specs.Threads.Stages.{one_if}
use Rattle.core_world.specs.Words.Acts.{word_after}
use Rattle.core_world.specs.Words.Forms.{names}
use Rattle.core_world.specs.Words.Names.{with_word}
use Rattle.core_world.specs.World.{with_known}
use Rattle.core_world.proofs.KnowledgeParts.{by_equal, each_with_known}
use Rattle.core_law.specs.MadeLaw.{IsAbsent}
use Rattle.core_made.specs.Steps.{SparesAbsent}

-- HOLD WORDS. Where no word of a list names the object, none does after the store of a word that doesn't.
none_named : (o p h i : ℕ) (hs : List ℕ) → names o h ≡ false → count_where (λ q g. names o g) i hs ≡ 0 → count_where (λ q g. names o g) i (slice_set hs p h) ≡ 0
none_named o p h i [] other none = none
none_named o zero h i (g ∷ hs) other none = let a : one_if (names o h) ≡ 0 = ap one_if other in omega (arith, a, none)
none_named o (suc p) h i (g ∷ hs) other none =
    let a : count_where (λ q k. names o k) (i + 1) hs ≡ 0 = omega (arith, none) in let b = none_named o p h (i + 1) hs other a in omega (arith, none, b)

-- what would name an object that is there names none that isn't
is_unnamed : (b there : Bool) → (b ≡ true → there ≡ true) → there ≡ false → b ≡ false
is_unnamed true there f none = absurd (cc (f refl, none))
is_unnamed false there f none = refl

pub unheld_after : (there : ℕ → Bool) (at : WordId) (act : Act) (found : ℕ) (k : ThreadView) (o : ℕ) → SparesAbsent there at found (word_after act found)
    → there o ≡ false → hold_count o k.holds ≡ 0 → hold_count o (holds_after at act k) ≡ 0
unheld_after there (Hold t p) (Store word) found k o spares none unheld =
    none_named o p word 0 k.holds (is_unnamed (names o word) (there o) (spares o) none) unheld
unheld_after there at act found k o spares none unheld = unheld

-- WORDS OF OBJECTS, where the word at a name becomes v
pub mark_stays : (there : ℕ → Bool) (at : WordId) (v : ℕ) (f : WordId → ℕ) (o : ℕ) → SparesAbsent there at (f at) v → there o ≡ false
    → with_word at v f (Mark o) ≡ f (Mark o)
mark_stays there (Mark i) v f o spares none =
    by_equal o i
    (λ e. elim spares [
      | inl is ↦ absurd (cc (ap there e, is, none))
      | inr left ↦ ap (λ (b : Bool). cond b v (f (Mark o))) (eq-eqb o i e) ∙ left ∙ ap (λ j. f (Mark j)) (sym e)
    ])
    (λ d. ap (λ (b : Bool). cond b v (f (Mark o))) (ne_eqb o i d))
mark_stays there at v f o spares none = refl

pub class_stays : (there : ℕ → Bool) (at : WordId) (v : ℕ) (f : WordId → ℕ) (o : ℕ) → SparesAbsent there at (f at) v → with_word at v f (Class o) ≡ f (Class o)
class_stays there (Class i) v f o spares =
    by_equal o i
    (λ e. ap (λ (b : Bool). cond b v (f (Class o))) (eq-eqb o i e) ∙ spares ∙ ap (λ j. f (Class j)) (sym e))
    (λ d. ap (λ (b : Bool). cond b v (f (Class o))) (ne_eqb o i d))
class_stays there at v f o spares = refl

pub stamp_rises : (there : ℕ → Bool) (at : WordId) (v : ℕ) (f : WordId → ℕ) (o : ℕ) → SparesAbsent there at (f at) v → f (Stamp o) ≤ with_word at v f (Stamp o)
stamp_rises there (Stamp i) v f o spares =
    by_equal o i
    (λ e.
    let a = ap (λ (b : Bool). cond b v (f (Stamp o))) (eq-eqb o i e) in
    let b = ap (λ j. f (Stamp j)) e in
    omega (arith, a, b, spares))
    (λ d. let a = ap (λ (b : Bool). cond b v (f (Stamp o))) (ne_eqb o i d) in omega (arith, a))
stamp_rises there at v f o spares = omega arith

-- WHAT THREADS ARE MAKING they still make, where thread t then knows l, and makes what it made
pub making_stays : (t : ℕ) (l : ThreadView) (known : ℕ → ThreadView) (u : ℕ) → making_in l.unfinished ≡ making_in (known t).unfinished
    → making_in (with_known t l known u).unfinished ≡ making_in (known u).unfinished
making_stays t l known u makes = each_with_known (λ x k. making_in k.unfinished ≡ making_in (known x).unfinished) t l known u makes (λ d. refl)

-- AN OBJECT THAT ISN'T THERE stays so, where thread t then knows l, with the hold words that it had or that the act leaves
pub absent_stays : (there : ℕ → Bool) (at : WordId) (act : Act) (t : ℕ) (l : ThreadView) (f : WordId → ℕ) (known : ℕ → ThreadView) (o : ℕ)
    → SparesAbsent there at (f at) (word_after act (f at)) → there o ≡ false → (l.holds ≡ holds_after at act (known t)) ⊎ (l.holds ≡ (known t).holds)
    → making_in l.unfinished ≡ making_in (known t).unfinished
    → IsAbsent (λ u. (known u).unfinished) o (f (Class o)) (f (Mark o)) (λ u. (known u).holds)
    → IsAbsent (λ u. (with_known t l known u).unfinished) o (with_word at (word_after act (f at)) f (Class o))
    (with_word at (word_after act (f at)) f (Mark o)) (λ u. (with_known t l known u).holds)
absent_stays there at act t l f known o spares none holds makes a = record {
  classless = elim a.classless [
    | inl none_stored ↦ inl (class_stays there at (word_after act (f at)) f o spares ∙ none_stored)
    | inr made ↦ inr (made.0, making_stays t l known made.0 makes ∙ made.1)
  ];
  neutral = mark_stays there at (word_after act (f at)) f o spares none ∙ a.neutral;
  unheld = λ u. each_with_known (λ x k. hold_count o k.holds ≡ 0) t l known u
      (elim holds [
        | inl stored ↦ ap (hold_count o) stored ∙ unheld_after there at act (f at) (known t) o spares none (a.unheld t)
        | inr same ↦ ap (hold_count o) same ∙ a.unheld t
      ])
      (λ d. a.unheld u);
}

-- THE STAMP WORDS as a list: each is the word of its object, and none falls
pub word_listed : (p n i : ℕ) (f : ℕ → ℕ) (j : ℕ) → i < n → j ≡ p + i → slice_index (words_from p n f) i ≡ f j
word_listed p zero i f j h e = absurd (omega (arith, h))
word_listed p (suc n) zero f j h e = let s : p ≡ j = omega (arith, e) in ap f s
word_listed p (suc n) (suc i) f j h e = word_listed (p + 1) n i f j (omega (arith, h)) (omega (arith, e))

pub words_rise : (p n : ℕ) (f g : ℕ → ℕ) → ((j : ℕ) → f j ≤ g j) → (i : ℕ) → slice_index (words_from p n f) i ≤ slice_index (words_from p n g) i
words_rise p zero f g h i = omega arith
words_rise p (suc n) f g h zero = h p
words_rise p (suc n) f g h (suc i) = words_rise (p + 1) n f g h i
