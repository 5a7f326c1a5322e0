-- A trail goes on by each entry that its machine takes.
use Rattle.std.proofs.Common.{◌≡◌, ℕ, ◌+◌, List, [], ◌∷◌, ◌++◌, length, Option, Some, None, refl, sym, ap, ◌∙◌, subst, arith}
use Rattle.std.proofs.lemmas.Option.{none-some, same_Some}
use Rattle.std.specs.Prelude.{option_and_then, Result, Ok, Err, OnOk}
use Rattle.plain_monitor.specs.declared.entry.Entry.{Entry}
use Rattle.plain_monitor.specs.declared.entry.Logged.{Logged}
use Rattle.object_program.specs.Program.{ProgramText}
use Rattle.plain_machine.specs.Machine.{PlainMachine, take}
use Rattle.plain_machine.specs.Legal.{after_all}
use Rattle.outcome_search.specs.Witness.{CountOn}
use Rattle.outcome_search.specs.inner.Trails.{IsTrail, stamped}

count_on : (k : ℕ) (xs : List (ℕ × Logged)) (x : ℕ × Logged) → CountOn k xs → x.1.stamp ≡ k + length xs + 1 → CountOn k (xs ++ x ∷ [])
count_on k [] x counts is = (omega (arith, is), tt)
count_on k (y ∷ ys) x counts is = (counts.0, count_on (k + 1) ys x counts.1 (omega (arith, is)))

pub one_more : (m a n : PlainMachine) (xs : List (ℕ × Logged)) (x : ℕ × Logged) → after_all m xs ≡ Some a → take a x.0 x.1.entry ≡ Some n
    → after_all m (xs ++ x ∷ []) ≡ Some n
one_more m a n [] x leads took =
    let first : take m x.0 x.1.entry ≡ Some n = subst (λ (b : PlainMachine). take b x.0 x.1.entry ≡ Some n) (sym (same_Some m a leads)) took in
    ap (option_and_then (λ b. after_all b [])) first
one_more m a n (y ∷ ys) x leads took = go (take m y.0 y.1.entry) refl leads (λ b h. one_more b a n ys x h took)
  where
    go : (r : Option PlainMachine) → take m y.0 y.1.entry ≡ r → option_and_then (λ b. after_all b ys) r ≡ Some a
        → ((b : PlainMachine) → after_all b ys ≡ Some a → after_all b (ys ++ x ∷ []) ≡ Some n) → after_all m ((y ∷ ys) ++ x ∷ []) ≡ Some n
    go None e h more = absurd (none-some a h)
    go (Some b) e h more = ap (option_and_then (λ c. after_all c (ys ++ x ∷ []))) e ∙ more b h

pub trail_on : (m n : PlainMachine) (xs ys : List (ℕ × Logged)) (t : ℕ) (e : Entry) → take m t e ≡ Some n
    → ys ≡ xs ++ (t, stamped xs e) ∷ [] → (p : ProgramText) → IsTrail p m xs → IsTrail p n ys
trail_on m n xs ys t e took is p trail =
    subst (IsTrail p n) (sym is) (record {
      stamps = count_on 0 xs (t, stamped xs e) trail.stamps (omega arith);
      leads = one_more _ m n xs (t, stamped xs e) trail.leads took;
    })

pub on_ok : {A E P Q : Type 0} (r : Result A E) → (P → Q) → OnOk r P → OnOk r Q
on_ok (Ok x) f h = f h
on_ok (Err e) f h = tt
