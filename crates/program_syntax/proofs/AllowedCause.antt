-- What a line without a cause of refusal has: operands that pass each test, room, and its place.
use Rattle.std.proofs.Common.{◌≡◌, ℕ, zero, suc, Bool, true, false, ◌==◌, if◌then◌else◌, List, [], ◌∷◌}
use Rattle.std.proofs.Common.{length, slice_get, refl, subst, Option, Some, None, IsTrue, eqb-true}
use Rattle.std.proofs.lemmas.Bool.{or_parts, not-false}
use Rattle.object_program.specs.Name.{is_name}
use Rattle.program_syntax.specs.Number.{number_of, is_within}
use Rattle.object_program.specs.Valid.{is_among}
use Rattle.program_syntax.specs.Line.{operands_of}
use Rattle.program_syntax.specs.declared.operand.Operand.{Operand}
use Rattle.program_syntax.specs.declared.operand.Operand.TheVariants.{New, Known, Number}
use Rattle.program_syntax.specs.Reading.{Before, operand}
use Rattle.program_syntax.specs.Refusal.{names_before, names_known, is_bad_name, is_twice, is_undeclared, is_bad_number}
use Rattle.program_syntax.specs.Refusal.{some_operand, passes_limit, opens_unclosed, is_in_place, keyword_cause}
use Rattle.program_syntax.specs.declared.keyword.Keyword.{Keyword}
use Rattle.program_syntax.specs.declared.error.RefusalCause.{RefusalCause}

-- the operand passes each test
abbrev pub IsFine : Before → List (List ℕ) → Operand → List ℕ → Type 0
IsFine b later (New s) w = IsTrue (is_name w) × (is_among (names_before b s) w ≡ false)
IsFine b later (Known s) w = IsTrue (is_name w) × (is_among (names_known b later s) w ≡ true)
IsFine b later (Number low high) w = is_within low high (number_of w) ≡ true

-- as many operands as the line wants, each of which passes
abbrev pub AreFine : Before → List (List ℕ) → List Operand → List (List ℕ) → Type 0
AreFine b later [] [] = Unit {0}
AreFine b later [] (w ∷ ws) = ⊥
AreFine b later (o ∷ os) [] = ⊥
AreFine b later (o ∷ os) (w ∷ ws) = IsFine b later o w × AreFine b later os ws

-- what holds of a line with this keyword and these operands that has no cause
pub record HasNoCause (b : Before) (later : List (List ℕ)) (ws : List (List ℕ)) (k : Keyword) : Type 0 where
  pub place : is_in_place b k ≡ true
  pub count : (length ws == length (operands_of k)) ≡ true
  pub numbers : some_operand is_bad_number (operands_of k) ws ≡ false
  pub operands : AreFine b later (operands_of k) ws
  pub limit : passes_limit b ws k ≡ false
  pub closed : opens_unclosed later k ≡ false

-- a test that finds no cause fails, and the next is asked
cond_none : (t : Bool) (w : RefusalCause) (o : Option RefusalCause) → (if t then Some w else o) ≡ None → (t ≡ false) × (o ≡ None)
cond_none true w o h = absurd (cc h)
cond_none false w o h = (refl, h)

fine_at : (b : Before) (later : List (List ℕ)) (o : Operand) (w : List ℕ)
    → is_bad_name o w ≡ false → is_twice b o w ≡ false → is_undeclared b later o w ≡ false → is_bad_number o w ≡ false → IsFine b later o w
fine_at b later (New s) w name new known number = (not-false _ name, new)
fine_at b later (Known s) w name new known number = (not-false _ name, not-false _ known)
fine_at b later (Number low high) w name new known number = not-false _ number

all_fine : (b : Before) (later : List (List ℕ)) (os : List Operand) (ws : List (List ℕ)) → length ws ≡ length os
    → some_operand is_bad_name os ws ≡ false → some_operand (is_twice b) os ws ≡ false
    → some_operand (is_undeclared b later) os ws ≡ false → some_operand is_bad_number os ws ≡ false → AreFine b later os ws
all_fine b later [] [] count name new known number = tt
all_fine b later [] (w ∷ ws) count name new known number = absurd (cc count)
all_fine b later (o ∷ os) [] count name new known number = absurd (cc count)
all_fine b later (o ∷ os) (w ∷ ws) count name new known number =
    let names = or_parts (is_bad_name o w) _ name in
    let news = or_parts (is_twice b o w) _ new in
    let knowns = or_parts (is_undeclared b later o w) _ known in
    let numbers = or_parts (is_bad_number o w) _ number in
    let counts : length ws ≡ length os = cc in
    (fine_at b later o w names.0 news.0 knowns.0 numbers.0, all_fine b later os ws counts names.1 news.1 knowns.1 numbers.1)

pub no_cause : (b : Before) (later ws : List (List ℕ)) (k : Keyword) → keyword_cause b later ws (Some k) ≡ None → HasNoCause b later ws k
no_cause b later ws k h =
    let place = cond_none _ _ _ h in
    let count = cond_none _ _ _ place.1 in
    let name = cond_none _ _ _ count.1 in
    let new = cond_none _ _ _ name.1 in
    let known = cond_none _ _ _ new.1 in
    let number = cond_none _ _ _ known.1 in
    let limit = cond_none _ _ _ number.1 in
    let closed = cond_none _ _ _ limit.1 in
    record {
      place = not-false _ place.0;
      count = not-false _ count.0;
      numbers = number.0;
      operands = all_fine b later (operands_of k) ws (eqb-true _ _ (not-false _ count.0)) name.0 new.0 known.0 number.0;
      limit = limit.0;
      closed = closed.0;
    }

-- operand i passes, where the line wants it
pub operand_fine : (b : Before) (later : List (List ℕ)) (os : List Operand) (ws : List (List ℕ)) (i : ℕ) (o : Operand)
    → slice_get os i ≡ Some o → AreFine b later os ws → IsFine b later o (operand ws i)
operand_fine b later [] ws i o wanted h = absurd (cc wanted)
operand_fine b later (p ∷ os) [] i o wanted h = absurd h
operand_fine b later (p ∷ os) (w ∷ ws) zero o wanted h = let same : p ≡ o = cc in subst (λ q. IsFine b later q w) same h.0
operand_fine b later (p ∷ os) (w ∷ ws) (suc i) o wanted h = operand_fine b later os ws i o wanted h.1
