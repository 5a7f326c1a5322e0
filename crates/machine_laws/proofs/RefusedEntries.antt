-- Entries that find something missing are taken by no machine.
use Rattle.std.proofs.Common.{◌≡◌, ◌≢◌, ℕ, ◌≤◌, ◌==◌, ◌&&◌, ◌||◌, nat_lt, Bool, true, false, List, [], ◌∷◌, length, refl, ap, sym, ◌∙◌, arith, eqb-true, None}
use Rattle.std.specs.List.{list_all, list_any}
use Rattle.std.proofs.lemmas.Bool.{false≢true}
use Rattle.std.proofs.lemmas.Bool.Decides.{nat_tests}
use Rattle.plain_monitor.specs.declared.entry.Entry.{Entry}
use Rattle.plain_monitor.specs.declared.entry.Entry.TheVariants.{New}
use Rattle.plain_monitor.specs.Limits.{most_made}
use Rattle.plain_monitor.specs.Made.{Numbering, made_number, made_by, is_there, creates, needs, take_created}
use Rattle.object_program.specs.Program.{numbering_of}
use Rattle.plain_machine.specs.Machine.{PlainMachine, take}
use Rattle.plain_machine.proofs.Taking.{nothing_taken}

and_false : (b : Bool) → (b && false) ≡ false
and_false true = refl
and_false false = refl

-- one of them isn't there
not_all : (n : Numbering) (made : List (List ℕ)) (o : ℕ) (os : List ℕ)
    → list_any (λ i. o == i) os ≡ true → is_there n made o ≡ false → list_all (is_there n made) os ≡ false
not_all n made o [] h none = absurd (cc h)
not_all n made o (i ∷ os) h none = by_test (o == i) refl h (λ g. not_all n made o os g none)
  where
    by_test : (b : Bool) → (o == i) ≡ b → (b || list_any (λ i. o == i) os) ≡ true → (list_any (λ i. o == i) os ≡ true → list_all (is_there n made) os ≡ false)
        → (is_there n made i && list_all (is_there n made) os) ≡ false
    by_test true e g ih = let same = eqb-true o i e in
        ap (λ j. is_there n made j && list_all (is_there n made) os) (sym same) ∙ ap (λ b. b && list_all (is_there n made) os) none
    by_test false e g ih = ap (λ b. is_there n made i && b) (ih g) ∙ and_false (is_there n made i)

-- an entry that makes an object needs none
maker_needs_none : (o : ℕ) (e : Entry) → list_any (λ i. o == i) (needs e) ≡ true → creates e ≡ None
maker_needs_none o (New object class) h = absurd (false≢true h)
maker_needs_none o _ h = refl

pub not_there : (m : PlainMachine) (t o : ℕ) (e : Entry) → list_any (λ i. o == i) (needs e) ≡ true
    → is_there (numbering_of m.program) m.made o ≡ false → take m t e ≡ None
not_there m t o e among none =
    nothing_taken m t e (ap (take_created (numbering_of m.program) m.made t e) (maker_needs_none o e among)
    ∙ rw (not_all (numbering_of m.program) m.made o (needs e) among none) refl)

pub other_number : (m : PlainMachine) (t o c : ℕ) → o ≢ made_number (numbering_of m.program) t (length (made_by m.made t)) → take m t (New o c) ≡ None
other_number m t o c d =
    let apart : (o == made_number (numbering_of m.program) t (length (made_by m.made t))) ≡ false = grind (arith, nat_tests, d) in
    nothing_taken m t (New o c)
    (rw (apart, and_false (nat_lt t (length m.made) && nat_lt (length (made_by m.made t)) most_made && nat_lt c (length m.program.classes))) refl)

pub too_many : (m : PlainMachine) (t o c : ℕ) → most_made ≤ length (made_by m.made t) → take m t (New o c) ≡ None
too_many m t o c h =
    let full : nat_lt (length (made_by m.made t)) most_made ≡ false = grind (arith, nat_tests, h) in
    nothing_taken m t (New o c) (rw (full, and_false (nat_lt t (length m.made))) refl)
