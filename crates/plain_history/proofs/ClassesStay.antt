-- The class of an object that is there stays.
use Rattle.std.proofs.Common.{◌≡◌, ℕ, zero, suc, nat_lt, arith, length, cond, Bool, true, false, List, [], ◌∷◌}
use Rattle.std.proofs.Common.{◌++◌, slice_get, ap, sym, ◌∙◌, inl, inr, Option, Some, None, get_or-set_same}
use Rattle.std.proofs.lemmas.Bool.{cases_eq}
use Rattle.std.proofs.lemmas.Bool.Decides.{nat_tests}
use Rattle.std.proofs.lemmas.Option.{cond_some}
use Rattle.plain_monitor.specs.declared.entry.Entry.{Entry}
use Rattle.plain_monitor.specs.Made.{Numbering, first_made, maker_of, place_of, made_by, class_if_there, creates, needs, may_create, take_created, take_made}
use Rattle.plain_history.proofs.MadeSteps.{grown, row_other, all_there, creating}

get_more : (xs ys : List ℕ) (k c : ℕ) → slice_get xs k ≡ Some c → slice_get (xs ++ ys) k ≡ Some c
get_more [] ys k c h = absurd (cc h)
get_more (x ∷ xs) ys zero c h = h
get_more (x ∷ xs) ys (suc k) c h = get_more xs ys k c h

class_more : (n : Numbering) (made : List (List ℕ)) (t x o c : ℕ) → nat_lt t (length made) ≡ true
    → class_if_there n made o ≡ Some c → class_if_there n (grown made t x) o ≡ Some c
class_more n made t x o c within h = by_test (nat_lt o (first_made n)) h
  where
    there : made_by (grown made t x) t ≡ made_by made t ++ x ∷ []
    there = get_or-set_same made t (made_by made t ++ x ∷ []) [] (let a = within in grind (arith, nat_tests, a))

    by_test : (b : Bool) → cond b (slice_get n.declared o) (slice_get (made_by made (maker_of n o)) (place_of n o)) ≡ Some c
        → cond b (slice_get n.declared o) (slice_get (made_by (grown made t x) (maker_of n o)) (place_of n o)) ≡ Some c
    by_test true k = k
    by_test false k = elim (cases_eq (maker_of n o) t) [
      | inl e ↦ ap (λ u. slice_get (made_by (grown made t x) u) (place_of n o)) e ∙ ap (λ (r : List ℕ). slice_get r (place_of n o)) there
          ∙ get_more (made_by made t) (x ∷ []) (place_of n o) c (ap (λ u. slice_get (made_by made u) (place_of n o)) (sym e) ∙ k)
      | inr d ↦ ap (λ (r : List ℕ). slice_get r (place_of n o)) (row_other made t x (maker_of n o) d) ∙ k
    ]

pub class_stays : (n : Numbering) (before after : List (List ℕ)) (t : ℕ) (e : Entry) (o c : ℕ)
    → take_made n before t e ≡ Some after → class_if_there n before o ≡ Some c → class_if_there n after o ≡ Some c
class_stays n before after t e o c h k = by_made (creates e) h
  where
    by_made : (p : Option (ℕ × ℕ)) → take_created n before t e p ≡ Some after → class_if_there n after o ≡ Some c
    by_made None g = let a = cond_some (all_there n before (needs e)) before after g in ap (λ m. class_if_there n m o) (sym a.1) ∙ k
    by_made (Some p) g =
        let a = cond_some (may_create n before t p) (grown before t p.1) after g in
        let m = creating n before t p a.0 in
        let within : nat_lt t (length before) ≡ true = let b = m.thread in grind (arith, nat_tests, b) in
        ap (λ m. class_if_there n m o) (sym a.1) ∙ class_more n before t p.1 o c within k
