-- Entries that aren't taken: those that make what their thread may not make, and those that need what isn't there.
use Rattle.std.proofs.Common.{◌≡◌, ◌≢◌, ℕ, ◌<◌, ◌≤◌, Bool, true, false, ◌&&◌, cond, List, length, refl, ap, sym, ◌∙◌, arith, Option, Some, None}
use Rattle.plain_monitor.specs.Limits.{most_made}
use Rattle.plain_monitor.specs.declared.entry.Entry.{Entry}
use Rattle.plain_monitor.specs.declared.entry.Entry.TheVariants.{Put, New, Print}
use Rattle.plain_monitor.specs.declared.entry.Value.TheVariants.{Ref}
use Rattle.plain_monitor.specs.Objects.{named}
use Rattle.plain_monitor.specs.Made.{Numbering, first_made, made_number, made_by, is_there, may_create, take_created, take_made}
use Rattle.plain_history.proofs.MadeSteps.{MayCreate, creating, grown, maker_of_new}
use Rattle.plain_history.proofs.NotThere.{named_there}

-- what may not be made isn't taken
not_created : (n : Numbering) (made : List (List ℕ)) (t : ℕ) (e : Entry) (p : ℕ × ℕ) → (MayCreate n made t p → ⊥) → take_created n made t e (Some p) ≡ None
not_created n made t e p never = by_test (may_create n made t p) refl
  where
    by_test : (b : Bool) → may_create n made t p ≡ b → cond b (Some (grown made t p.1)) None ≡ None
    by_test true h = absurd (never (creating n made t p h))
    by_test false h = refl

pub another_number : (n : Numbering) (made : List (List ℕ)) (t o c : ℕ) → o ≢ made_number n t (length (made_by made t)) → take_made n made t (New o c) ≡ None
another_number n made t o c other = not_created n made t (New o c) (o, c) (λ m. other m.number)

-- numbers of two threads are apart
pub anothers_number : (n : Numbering) (made : List (List ℕ)) (t u k c : ℕ) → t ≢ u → k < most_made → take_made n made t (New (made_number n u k) c) ≡ None
anothers_number n made t u k c d few =
    not_created n made t (New (made_number n u k) c) (made_number n u k, c)
    (λ m.
    let room = m.room in
    let own = maker_of_new (first_made n) t (length (made_by made t)) (made_number n u k) room m.number in
    let its = maker_of_new (first_made n) u k (made_number n u k) few refl in
    d (sym own.0 ∙ its.0))

pub one_too_many : (n : Numbering) (made : List (List ℕ)) (t o c : ℕ) → most_made ≤ length (made_by made t) → take_made n made t (New o c) ≡ None
one_too_many n made t o c many = not_created n made t (New o c) (o, c) (λ m. let room = m.room in omega (arith, room, many))

pub no_class : (n : Numbering) (made : List (List ℕ)) (t o c : ℕ) → n.classes ≤ c → take_made n made t (New o c) ≡ None
no_class n made t o c past = not_created n made t (New o c) (o, c) (λ m. let class = m.class in omega (arith, class, past))

-- an entry that names what isn't there isn't taken
pub names_nothing : (n : Numbering) (made : List (List ℕ)) (t : ℕ) (e : Entry) (o : ℕ)
    → named e ≡ Some o → is_there n made o ≡ false → take_made n made t e ≡ None
names_nothing n made t e o is none = by_result (take_made n made t e) refl
  where
    by_result : (m : Option (List (List ℕ))) → take_made n made t e ≡ m → m ≡ None
    by_result None h = refl
    by_result (Some after) h = let there = named_there n made after t e o h is in absurd (cc (there, none))

-- nor is one that hands it on
pub hands_on_nothing : (n : Numbering) (made : List (List ℕ)) (t : ℕ) (o : ℕ) → is_there n made o ≡ false
    → (take_made n made t (Print (Ref o)) ≡ None) × ((p i : ℕ) → take_made n made t (Put p i (Ref o)) ≡ None)
hands_on_nothing n made t o none =
    (rw none refl, λ p i. ap (λ b. cond (is_there n made p && (b && true)) (Some made) None) none ∙ by_named (is_there n made p))
  where
    by_named : (b : Bool) → cond (b && false) (Some made) None ≡ None
    by_named true = refl
    by_named false = refl
