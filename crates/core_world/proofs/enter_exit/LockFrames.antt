-- The lock and the header of an object stay where what they are made of stays.
use Rattle.std.proofs.Common.{◌≡◌, ℕ, List, Option}
use Rattle.mark_word.specs.Mark.{read_mark}
use Rattle.core_world.specs.Threads.Stages.{Inflation}
use Rattle.core_world.specs.World.{World}
use Rattle.core_world.specs.Locks.{lock, lock_form, header, header_form, marks, prototype_of, owner_words}
use Rattle.core_world.specs.Locks.{inflations, displaced_words, headers, inflation_of, who, holder, hold_count}

pub lock_stays : (w x : World) → marks w ≡ marks x → prototype_of w ≡ prototype_of x
    → owner_words w ≡ owner_words x → inflations w ≡ inflations x → lock w ≡ lock x
lock_stays w x a b c d = λ i. λ o. lock_form (read_mark (a i o)) (b i o) (c i) (d i o)

pub header_stays : (w x : World) → marks w ≡ marks x → displaced_words w ≡ displaced_words x
    → headers w ≡ headers x → inflations w ≡ inflations x → header w ≡ header x
header_stays w x a b c d = λ i. λ o. header_form (read_mark (a i o)) (a i o) (b i) (c i) (d i o)

pub inflations_stay : (n : ℕ) (f g : ℕ → Option Inflation) → f ≡ g → ◌≡◌ {A = ℕ → Option Inflation} (λ o. inflation_of o n f) (λ o. inflation_of o n g)
inflations_stay n f g e = λ i. λ o. inflation_of o n (e i)

pub who_stays : (w x : World) → lock w ≡ lock x → ◌≡◌ {A = ℕ → List ℕ} (λ t. (w.known t).holds) (λ t. (x.known t).holds) → who w ≡ who x
who_stays w x a b = λ i. λ o. holder (a i o) (λ t. hold_count o (b i t))
