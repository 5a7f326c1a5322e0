use Rattle.std.proofs.Common.{◌≡◌, ℕ, true, false, List, [], ◌∷◌, length, Some, None, sym, ap, ◌∙◌, inl}
use Rattle.std.proofs.Common.{inr}
use Rattle.mark_word.specs.Mark.{read_mark, mark_of}
use Rattle.mark_word.specs.Wait.{read_wait, wait_of}
use Rattle.mark_word.specs.declared.mark.MarkForm.TheVariants.{Locked, Inflated}
use Rattle.mark_word.specs.declared.wait.WaitForm.TheVariants.{Waiting}
use Rattle.core_world.specs.Threads.ThreadView.{StepMade}
use Rattle.core_world.specs.Trees.Plans.{CallContext, load}
use Rattle.core_world.specs.Trees.WaitSteps.{waiters, by_age}
use Rattle.core_world.specs.declared.word_id.WordId.TheVariants.{Mark}
use Rattle.core_calls.proofs.Walkers.{pair}
use Rattle.core_calls.specs.Causes.{Loaded}
use Rattle.core_calls.specs.Paths.{made}
use Rattle.core_calls.specs.Woken.{oldest, AllLoaded}
use Rattle.core_world.specs.declared.word_id.WordId.TheVariants as id
use Rattle.core_calls.proofs.refused.no_notify_wakes_another_waiter.Goals as goal

-- what these steps loaded: of thread 0, or of both threads
abbrev waits_since : ℕ → ℕ
waits_since stamp = wait_of (Waiting 0 stamp)

abbrev marked : CallContext → StepMade
marked e = made (load e (id.Mark 0)) (mark_of (Inflated 0))

abbrev looked : CallContext → ℕ → ℕ → StepMade
looked e t word = made (load e (id.Waiting t)) word

first_word : (e : CallContext) (word : ℕ) → Loaded (id.Waiting 0) word (looked e 0 (waits_since 1) ∷ marked e ∷ []) → waits_since 1 ≡ word
first_word e word (inl x) = x.2
first_word e word (inr (inl x)) = absurd (cc (x.0))
first_word e word (inr (inr none)) = absurd none

one_word : (e : CallContext) (words : List ℕ) → length words ≡ 1 → AllLoaded 0 words (looked e 0 (waits_since 1) ∷ marked e ∷ []) → words ≡ waits_since 1 ∷ []
one_word e [] all each = absurd (cc all)
one_word e (a ∷ []) all each = ap (λ (w : ℕ). w ∷ []) (sym (first_word e a each.0))
one_word e (a ∷ b ∷ ws) all each = absurd (cc all)

abbrev both : CallContext → List StepMade
both e = looked e 1 (waits_since 5) ∷ looked e 0 (waits_since 3) ∷ marked e ∷ []

of_first : (e : CallContext) (word : ℕ) → Loaded (id.Waiting 0) word (both e) → waits_since 3 ≡ word
of_first e word (inl x) = absurd (cc (x.0))
of_first e word (inr (inl x)) = x.2
of_first e word (inr (inr (inl x))) = absurd (cc (x.0))
of_first e word (inr (inr (inr none))) = absurd none

of_second : (e : CallContext) (word : ℕ) → Loaded (id.Waiting 1) word (both e) → waits_since 5 ≡ word
of_second e word (inl x) = x.2
of_second e word (inr (inl x)) = absurd (cc (x.0))
of_second e word (inr (inr (inl x))) = absurd (cc (x.0))
of_second e word (inr (inr (inr none))) = absurd none

two_words : (e : CallContext) (words : List ℕ) → length words ≡ 2 → AllLoaded 0 words (both e) → words ≡ waits_since 3 ∷ waits_since 5 ∷ []
two_words e [] all each = absurd (cc all)
two_words e (a ∷ []) all each = absurd (cc all)
two_words e (a ∷ b ∷ []) all each =
    let first = of_first e a each.0 in
    let second = of_second e b each.1.0 in
    cc (first, second)
two_words e (a ∷ b ∷ c ∷ ws) all each = absurd (cc all)

-- the mark that was loaded names a monitor
no_record : (e : CallContext) (ms : List StepMade) (mark thread place : ℕ) → read_mark mark ≡ Some (Locked thread place)
    → Loaded (id.Mark 0) mark (looked e 0 (waits_since 1) ∷ marked e ∷ []) → ⊥
unfolding read_mark
no_record e ms mark thread place is (inl x) = absurd (cc (x.0))
no_record e ms mark thread place is (inr (inl x)) =
    let other : Some (Inflated 0) ≡ read_mark mark = ap read_mark x.2 in absurd (cc (other, is))
no_record e ms mark thread place is (inr (inr none)) = absurd none

pub returns-clause-unseen : goal.returns-clause-unseen
returns-clause-unseen z e s o t says = elim (says.by 0) [
  | inl locked ↦ let none = locked.1 in absurd (cc none)
  | inr looked_over ↦ elim looked_over.0.loaded [
    | inl x ↦ absurd (cc (x.0))
    | inr none ↦ absurd none
  ]
]

pub returns-clause-youngest : goal.returns-clause-youngest
unfolding read_wait
returns-clause-youngest z e s pair says = elim (says.by (mark_of (Inflated 0)) (waits_since 3) (waits_since 5)) [
  | inl locked ↦ let none : Some 1 ≡ None = locked.1 in absurd (cc none)
  | inr looked_over ↦
      let words = two_words e looked_over.0.words (looked_over.0.all ∙ pair) looked_over.0.each in
      let first : Some 1 ≡ Some 0 = looked_over.1 ∙ ap (λ (ws : List ℕ). oldest (by_age (waiters 0 0 ws))) words in
      absurd (cc first)
]

pub returns-clause-all : goal.returns-clause-all
unfolding read_wait
returns-clause-all z e s lone says = elim (says.by (mark_of (Inflated 0)) (waits_since 1)) [
  | inl locked ↦ no_record e [] locked.0.mark locked.0.thread locked.0.place locked.0.says locked.0.loaded
  | inr looked_over ↦
      let words = one_word e looked_over.0.words (looked_over.0.all ∙ lone) looked_over.0.each in
      let number : 0 ≡ 1 = looked_over.1 ∙ ap (λ (ws : List ℕ). length (waiters 0 0 ws)) words in
      absurd (cc number)
]

pub returns-clause-none : goal.returns-clause-none
unfolding read_wait
returns-clause-none z none = let is : false ≡ true = none in absurd (cc is)

pub returns-clause-number : goal.returns-clause-number
unfolding read_wait
returns-clause-number z none = let is : 1 ≡ 0 = none in absurd (cc is)
