-- The number that a thread's next object has: no other thread's next object has it, it isn't there yet, and with it just this object more is there.
use Rattle.std.proofs.Common.{◌≡◌, ◌≢◌, ◌⊎◌, ℕ, zero, suc, ◌<◌, ◌≤◌, nat_lt, Bool, true, false, cond, List, [], ◌∷◌, ◌++◌, length, slice_get}
use Rattle.std.proofs.Common.{Option, Some, None, is_some, refl, sym, ap, ◌∙◌, subst, arith, inl, inr, length-set, get_or-set_same}
use Rattle.std.proofs.lemmas.Bool.Decides.{nat_tests}
use Rattle.std.proofs.lemmas.List.{length-replicate}
use Rattle.std.proofs.lemmas.Option.{cond_some, same_Some}
use Rattle.plain_monitor.specs.Limits.{most_made}
use Rattle.plain_monitor.specs.declared.entry.Entry.{Entry}
use Rattle.plain_monitor.specs.declared.entry.Logged.{Logged}
use Rattle.plain_monitor.specs.Order.{order}
use Rattle.plain_monitor.specs.History.{run_all}
use Rattle.plain_monitor.specs.Made.{Numbering, first_made, maker_of, place_of, made_by, class_if_there, is_there, creates}
use Rattle.plain_monitor.specs.Made.{needs, made_number, may_create, take_created, take_made, nothing_made, made_after}
use Rattle.plain_history.proofs.MadeSteps.{grown, row_other, all_there, MayCreate, maker_of_new, number_of}
use Rattle.plain_history.proofs.MadeHistories.{new_wasnt}
use Rattle.plain_history.proofs.Passing.{first_run}
use Rattle.plain_history.proofs.StoreParts.{there_has_class}
use Rattle.core_world.proofs.KnowledgeParts.{by_equal}

-- ROWS. There is one for each thread.
row_kept : (n : Numbering) (before after : List (List ℕ)) (t : ℕ) (e : Entry) (p : Option (ℕ × ℕ)) → take_created n before t e p ≡ Some after
    → length after ≡ length before
row_kept n before after t e None h = let a = cond_some (all_there n before (needs e)) before after h in ap (λ (m : List (List ℕ)). length m) (sym a.1)
row_kept n before after t e (Some p) h =
    let a = cond_some (may_create n before t p) (grown before t p.1) after h in
    ap (λ (m : List (List ℕ)). length m) (sym a.1) ∙ length-set before t (made_by before t ++ p.1 ∷ [])

rows_kept : (n : Numbering) (xs : List (ℕ × Logged)) (before after : List (List ℕ)) → run_all (take_made n) before xs ≡ Some after
    → length after ≡ length before
rows_kept n [] before after h = ap (λ (m : List (List ℕ)). length m) (sym (same_Some before after h))
rows_kept n (x ∷ xs) before after h =
    let a = first_run (take_made n) (take_made n before x.0 x.1.entry) xs after h in
    rows_kept n xs a.0 after a.2 ∙ row_kept n before a.0 x.0 x.1.entry (creates x.1.entry) a.1

pub rows_are : (n : Numbering) (logs : List (List Logged)) (made : List (List ℕ)) → made_after n logs ≡ Some made → length made ≡ n.threads
rows_are n logs made h = rows_kept n (order logs) (nothing_made n) made h ∙ length-replicate n.threads []

-- the object isn't there, nor declared
pub next_is_made : (n : Numbering) (made : List (List ℕ)) (t : ℕ) (p : ℕ × ℕ) → MayCreate n made t p → first_made n ≤ p.0
next_is_made n made t p m = (maker_of_new (first_made n) t (length (made_by made t)) p.0 m.room m.number).2

pub next_is_absent : (n : Numbering) (made : List (List ℕ)) (t : ℕ) (p : ℕ × ℕ) → MayCreate n made t p → is_there n made p.0 ≡ false
next_is_absent n made t p m =
    let a = maker_of_new (first_made n) t (length (made_by made t)) p.0 m.room m.number in new_wasnt n made t p.0 a.2 a.0 a.1

-- no other thread makes it
pub one_maker : (n : Numbering) (made : List (List ℕ)) (t u o c d : ℕ) → MayCreate n made t (o, c) → MayCreate n made u (o, d) → u ≡ t
one_maker n made t u o c d m k =
    let mine = maker_of_new (first_made n) t (length (made_by made t)) o m.room m.number in
    let its = maker_of_new (first_made n) u (length (made_by made u)) o k.room k.number in
    sym its.0 ∙ mine.0

-- what has a class is there
pub class_is_there : (n : Numbering) (made : List (List ℕ)) (o c : ℕ) → class_if_there n made o ≡ Some c → is_there n made o ≡ true
class_is_there n made o c h = sym (there_has_class n made o) ∙ ap is_some h

-- ONE OBJECT MORE, which thread t makes. The next objects of other threads are as they were.
pub other_next : (n : Numbering) (made : List (List ℕ)) (t c u : ℕ) (p : ℕ × ℕ) → u ≢ t → MayCreate n made u p
    → MayCreate n (grown made t c) u p
other_next n made t c u p d m =
    let row : made_by (grown made t c) u ≡ made_by made u = row_other made t c u d in
    record {
      thread = let a = m.thread in let b = length-set made t (made_by made t ++ c ∷ []) in omega (arith, a, b);
      room = subst (λ (r : List ℕ). length r < most_made) (sym row) m.room;
      class = m.class;
      number = m.number ∙ ap (λ (r : List ℕ). made_number n u (length r)) (sym row);
    }

-- what stands in a row with one more at its end
in_more : (row : List ℕ) (c k d : ℕ) → slice_get (row ++ c ∷ []) k ≡ Some d → (slice_get row k ≡ Some d) ⊎ ((k ≡ length row) × (d ≡ c))
in_more [] c zero d h = inr (refl, sym (same_Some c d h))
in_more [] c (suc k) d h = absurd (cc h)
in_more (x ∷ row) c zero d h = inl h
in_more (x ∷ row) c (suc k) d h = elim (in_more row c k d h) [ inl a ↦ inl a | inr a ↦ inr (ap suc a.0, a.1) ]

-- an object that has a class afterwards is the new one, of the new class, or had it before
pub class_less : (n : Numbering) (made : List (List ℕ)) (t o c i d : ℕ) → MayCreate n made t (o, c) → class_if_there n (grown made t c) i ≡ Some d
    → ((i ≡ o) × (d ≡ c)) ⊎ (class_if_there n made i ≡ Some d)
class_less n made t o c i d m h = by_test (nat_lt i (first_made n)) refl h
  where
    row_here : made_by (grown made t c) t ≡ made_by made t ++ c ∷ []
    row_here = get_or-set_same made t (made_by made t ++ c ∷ []) [] m.thread

    is_new : first_made n ≤ i → maker_of n i ≡ t → place_of n i ≡ length (made_by made t) → i ≡ o
    is_new late e k = number_of (first_made n) i t (length (made_by made t)) late e k ∙ sym m.number

    by_test : (b : Bool) → nat_lt i (first_made n) ≡ b
        → cond b (slice_get n.declared i) (slice_get (made_by (grown made t c) (maker_of n i)) (place_of n i)) ≡ Some d
        → ((i ≡ o) × (d ≡ c)) ⊎ (cond b (slice_get n.declared i) (slice_get (made_by made (maker_of n i)) (place_of n i)) ≡ Some d)
    by_test true e g = inr g
    by_test false e g = by_equal (maker_of n i) t
        (λ s.
        let its = ap (λ u. slice_get (made_by made u) (place_of n i)) s in
        let there = sym (ap (λ (r : List ℕ). slice_get r (place_of n i)) (ap (made_by (grown made t c)) s ∙ row_here)) ∙ g in
        elim (in_more (made_by made t) c (place_of n i) d there) [
          | inl a ↦ inr (its ∙ a)
          | inr a ↦ inl (is_new (grind (arith, nat_tests, e)) s a.0, a.1)
        ])
        (λ ne. inr (sym (ap (λ (r : List ℕ). slice_get r (place_of n i)) (row_other made t c (maker_of n i) ne)) ∙ g))
