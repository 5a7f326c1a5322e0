-- A mark that is the thread's own bias, by its bits and those of the prototype.
use Rattle.std.proofs.Common.{◌≡◌, ℕ, ◌+◌, ◌-◌, ◌*◌, ◌/◌, ◌%◌, ◌^◌, ◌<◌, ◌==◌, ◌&&◌, true, false, nat_lt, Option, Some, refl, arith, lt-ltb, ne_eqb}
use Rattle.std.proofs.lemmas.Bool.{cond_both, false≢true}
use Rattle.std.proofs.lemmas.Bool.Decides.{nat_tests}
use Rattle.mark_word.specs.Mark.{read_mark}
use Rattle.mark_word.specs.Record.{is_record_word}
use Rattle.mark_word.specs.declared.mark.MarkForm.{MarkForm}
use Rattle.mark_word.specs.declared.mark.MarkForm.TheVariants.{Anonymous, Biased}
use Rattle.core_world.specs.Words.Forms.{is_biased, is_biased_form}
use Rattle.heap_table.specs.Own.{IsOwn}

prototype_read : (p : ℕ) → p % 8 ≡ 5 → p / 8 % 32 < 16 → p / 1024 ≡ 0 → read_mark p ≡ Some (Anonymous (p / 256 % 4) (p / 8 % 32))
unfolding read_mark
prototype_read p low age zero =
    let some : (p == 0) ≡ false = ne_eqb p 0 (λ e. omega (arith, low, e)) in
    let three : (p == 3) ≡ false = ne_eqb p 3 (λ e. omega (arith, low, e)) in
    let small : nat_lt (p / 8 % 32) 16 ≡ true = lt-ltb _ _ age in
    rw (some, three, low, small, zero) refl

abbrev Tells : ℕ → ℕ → ℕ → Option MarkForm → Type 0
Tells m p t f = is_biased_form f ≡ true → f ≡ Some (Biased t (p / 256 % 4) (m / 8 % 32))

mark_read : (m p t : ℕ) → is_biased m ≡ true → p / 1024 ≡ 0 → m / 256 ≡ p / 256 + (t + 1) * 4 → read_mark m ≡ Some (Biased t (p / 256 % 4) (m / 8 % 32))
unfolding read_mark
mark_read m p t biased zero same =
    cond_both (m == 0) _ _ (Tells m p t) (λ _ h. absurd (false≢true h)) (λ _.
    cond_both (m == 3) _ _ (Tells m p t) (λ _ h. absurd (false≢true h)) (λ _.
    cond_both (is_record_word m) _ _ (Tells m p t) (λ _ h. absurd (false≢true h)) (λ _.
    cond_both (m % 8 == 1) _ _ (Tells m p t) (λ _.
    cond_both (nat_lt (m / 8 % 32) 16 && nat_lt (m / 256) (2 ^ 31)) _ _ (Tells m p t) (λ _ h. absurd (false≢true h)) (λ _ h. absurd (false≢true h))) (λ _.
    cond_both (m % 8 == 2) _ _ (Tells m p t) (λ _.
    cond_both (nat_lt 0 (m / 8) && nat_lt (m / 8) (2 ^ 20 + 1)) _ _ (Tells m p t) (λ _ h. absurd (false≢true h)) (λ _ h. absurd (false≢true h))) (λ _.
    cond_both (m % 8 == 5) _ _ (Tells m p t) (λ _.
    cond_both (nat_lt (m / 8 % 32) 16 && nat_lt (m / 1024) 33) _ _ (Tells m p t) (λ _.
    cond_both (m / 1024 == 0) _ _ (λ f. Tells m p t (Some f)) (λ none h. absurd (impossible none)) (λ _ h i. Some (Biased (number i) (epoch i) (m / 8 % 32))))
    (λ _ h. absurd (false≢true h))) (λ _ h. absurd (false≢true h)))))))
    biased
  where
    number : m / 1024 - 1 ≡ t
    number = omega (arith, zero, same)

    epoch : m / 256 % 4 ≡ p / 256 % 4
    epoch = omega (arith, same)

    impossible : (m / 1024 == 0) ≡ true → ⊥
    impossible none = let some : m / 1024 ≡ t + 1 = omega (arith, zero, same) in grind (arith, nat_tests)

pub own_read : (m p t : ℕ) → is_biased m ≡ true → p % 8 ≡ 5 → p / 8 % 32 < 16 → p / 1024 ≡ 0 → m / 256 ≡ p / 256 + (t + 1) * 4 → IsOwn m p t
own_read m p t biased low age zero same =
    record {
      epoch = p / 256 % 4;
      age = m / 8 % 32;
      prototype_age = p / 8 % 32;
      mark_is = mark_read m p t biased zero same;
      prototype_is = prototype_read p low age zero;
    }
