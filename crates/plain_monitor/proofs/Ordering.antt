-- The order of entries: none stands before an earlier one.
use Rattle.std.proofs.Common.{◌≡◌, ℕ, Bool, true, false, List, [], ◌∷◌, refl, arith}
use Rattle.std.proofs.lemmas.Bool.Decides.{nat_tests}
use Rattle.std.specs.List.{AllByRecursion}
use Rattle.plain_monitor.specs.declared.entry.Logged.{Logged}
use Rattle.plain_monitor.specs.Order.{is_before, insert_ordered, ordered}
use Rattle.plain_monitor.proofs.Orders.{before_asym, all_insert}

-- what does not stand before y does not stand before x, where x stands before y
pub not_before : (x y z : ℕ × Logged) → is_before x y ≡ true → is_before z y ≡ false → is_before z x ≡ false
not_before x y z h k = grind (arith, nat_tests)

-- none of these stands before x
abbrev pub NoneBefore : ℕ × Logged → List (ℕ × Logged) → Type 0
NoneBefore x ys = AllByRecursion (λ y. is_before y x ≡ false) ys

-- none stands before an earlier one
abbrev pub IsOrdered : List (ℕ × Logged) → Type 0
IsOrdered [] = Unit {0}
IsOrdered (x ∷ xs) = NoneBefore x xs × IsOrdered xs

-- where none stands before y, none stands before what stands before y
pub none_before : (x y : ℕ × Logged) (zs : List (ℕ × Logged)) → is_before x y ≡ true → NoneBefore y zs → NoneBefore x zs
none_before x y [] h a = tt
none_before x y (z ∷ zs) h a = (not_before x y z h a.0, none_before x y zs h a.1)

-- an ordered list stays ordered where an entry is put in, by the test against its head
ordered_insert_at_head : (x y : ℕ × Logged) (ys : List (ℕ × Logged)) (b : Bool) → is_before x y ≡ b → IsOrdered (y ∷ ys) → IsOrdered (insert_ordered x ys)
    → IsOrdered (insert_ordered x (y ∷ ys))
ordered_insert_at_head x y ys true h a ih = rw h ((before_asym x y h, none_before x y ys h a.0), a)
ordered_insert_at_head x y ys false h a ih = rw h (all_insert (λ z. is_before z y ≡ false) x ys h a.0, ih)

-- an ordered list stays ordered where an entry is put in
insert_is_ordered : (x : ℕ × Logged) (xs : List (ℕ × Logged)) → IsOrdered xs → IsOrdered (insert_ordered x xs)
insert_is_ordered x [] a = (tt, tt)
insert_is_ordered x (y ∷ ys) a = ordered_insert_at_head x y ys (is_before x y) refl a (insert_is_ordered x ys a.1)

-- the order is ordered
pub ordered_is_ordered : (xs : List (ℕ × Logged)) → IsOrdered (ordered xs)
ordered_is_ordered [] = tt
ordered_is_ordered (x ∷ xs) = insert_is_ordered x (ordered xs) (ordered_is_ordered xs)
