-- The operands of an instruction whose line has no cause are those that a program may have.
use Rattle.std.proofs.Common.{◌≡◌, ℕ, ◌-◌, ◌<◌, ◌≤◌, ℤ, pos, negsuc, nat_abs, ◌≤ℤ◌, true, List, [], ◌∷◌, length}
use Rattle.std.proofs.Common.{map, slice_get, refl, subst, arith, Option, Some, None, unwrap_or}
use Rattle.std.proofs.lemmas.Int.{ints}
use Rattle.std.proofs.lemmas.List.{length-map}
use Rattle.plain_monitor.specs.Limits.{most_slots}
use Rattle.plain_monitor.specs.Numbers.{least_number, greatest_number, IsInRange}
use Rattle.program_syntax.specs.Number.{number_of, is_within}
use Rattle.object_program.specs.Program.{ProgramText}
use Rattle.object_program.specs.Valid.{IsInstruction, is_target}
use Rattle.program_syntax.specs.Line.{a_slot, operands_of}
use Rattle.program_syntax.specs.declared.operand.Space.TheVariants.{Classes, Objects, Locals, Labels}
use Rattle.program_syntax.specs.declared.operand.Operand.{Operand}
use Rattle.program_syntax.specs.declared.operand.Operand.TheVariants.{Known, Number}
use Rattle.program_syntax.specs.Reading.{Before, operand, number_at, count_at, local_at, object_at, class_at, target_at, section_labels, instruction_on}
use Rattle.object_program.specs.declared.program.ThreadDef.{ThreadDef}
use Rattle.program_syntax.specs.declared.keyword.Keyword.{Keyword}
use Rattle.program_syntax.specs.declared.keyword.Keyword.TheVariants.{Class, Object, Array, Thread, Local, Label, Set, Get, Put}
use Rattle.program_syntax.proofs.AllowedNames.{number_among-lt}
use Rattle.program_syntax.proofs.AllowedLabels.{is_target-target_among}
use Rattle.program_syntax.proofs.AllowedCause.{IsFine, AreFine, operand_fine}

-- what a number in its range is
within : (low high : ℤ) (o : Option ℤ) → is_within low high o ≡ true → (low ≤ℤ unwrap_or o (pos 0)) × (unwrap_or o (pos 0) ≤ℤ high)
within low high None h = absurd (cc h)
within low high (Some z) h = grind (arith, ints)

nat_abs_between : (low high : ℕ) (z : ℤ) → (pos low ≤ℤ z) × (z ≤ℤ pos high) → (low ≤ nat_abs z) × (nat_abs z ≤ high)
nat_abs_between low high (pos k) h = omega (arith, ints)
nat_abs_between low high (negsuc k) h = absurd (omega (arith, ints))

-- and what a count in its range is
pub count_between : (low high : ℕ) (ws : List (List ℕ)) (i : ℕ) → is_within (pos low) (pos high) (number_of (operand ws i)) ≡ true
    → (low ≤ count_at ws i) × (count_at ws i ≤ high)
count_between low high ws i h = nat_abs_between low high (number_at ws i) (within (pos low) (pos high) (number_of (operand ws i)) h)

-- the section of this thread is open
abbrev pub in_thread : ProgramText → ThreadDef → Before
in_thread p t = record { text = p; section = Some t }

module _ (p : ProgramText) (t : ThreadDef) (later ws : List (List ℕ)) where
  -- the operands of a line of the section pass
  abbrev pub IsFineLine : Keyword → Type 0
  IsFineLine k = AreFine (in_thread p t) later (operands_of k) ws

  -- what a program says of the instruction's number for operand i, by what the line wants there
  abbrev IsFineNumber : ℕ → Operand → Type 0
  IsFineNumber i (Known Locals) = local_at t ws i < length t.locals
  IsFineNumber i (Known Objects) = object_at p ws i < length p.objects
  IsFineNumber i (Known Classes) = class_at p ws i < length p.classes
  IsFineNumber i (Known Labels) = is_target (section_labels t later) (target_at t later ws i) ≡ true
  IsFineNumber i o = Unit {0}

  number_fine : (i : ℕ) (o : Operand) → IsFine (in_thread p t) later o (operand ws i) → IsFineNumber i o
  number_fine i (Known Locals) h = number_among-lt t.locals (operand ws i) h.1
  number_fine i (Known Objects) h =
      subst (λ l. object_at p ws i < l) (length-map p.objects (λ d. d.name)) (number_among-lt (map (λ d. d.name) p.objects) (operand ws i) h.1)
  number_fine i (Known Classes) h =
      subst (λ l. class_at p ws i < l) (length-map p.classes (λ c. c.name)) (number_among-lt (map (λ c. c.name) p.classes) (operand ws i) h.1)
  number_fine i (Known Labels) h = is_target-target_among (section_labels t later) (operand ws i) h.1
  number_fine i o h = tt

  -- the same of all, as `IsInstruction` has it
  abbrev AreFineNumbers : List Operand → Type 0
  AreFineNumbers [] = Unit {0}
  AreFineNumbers (a ∷ []) = IsFineNumber 0 a
  AreFineNumbers (a ∷ b ∷ []) = IsFineNumber 0 a × IsFineNumber 1 b
  AreFineNumbers (a ∷ b ∷ c ∷ os) = IsFineNumber 0 a × IsFineNumber 1 b × IsFineNumber 2 c

  numbers_fine : (os : List Operand) → AreFine (in_thread p t) later os ws → AreFineNumbers os
  numbers_fine os h = by os (λ i o wanted. number_fine i o (operand_fine (in_thread p t) later os ws i o wanted h))
    where
      by : (os : List Operand) → ((i : ℕ) (o : Operand) → slice_get os i ≡ Some o → IsFineNumber i o) → AreFineNumbers os
      by [] f = tt
      by (a ∷ []) f = f 0 a refl
      by (a ∷ b ∷ []) f = (f 0 a refl, f 1 b refl)
      by (a ∷ b ∷ c ∷ os) f = (f 0 a refl, f 1 b refl, f 2 c refl)

  slot_fine : (k : Keyword) (i : ℕ) → slice_get (operands_of k) i ≡ Some a_slot → IsFineLine k → count_at ws i < most_slots
  slot_fine k i wanted h =
      let between = count_between 0 (most_slots - 1) ws i (operand_fine (in_thread p t) later (operands_of k) ws i a_slot wanted h) in
      omega arith

  value_fine : IsFineLine Set → IsInRange (number_at ws 1)
  value_fine h =
      let number = operand_fine (in_thread p t) later (operands_of Set) ws 1 (Number least_number greatest_number) refl h in
      within least_number greatest_number (number_of (operand ws 1)) number

  -- all operands of the instruction, by the line's keyword
  pub instruction_fine : (k : Keyword) → IsFineLine k
      → IsInstruction (length p.classes) (length t.locals) (length p.objects) (section_labels t later) (instruction_on p t later ws k)
  instruction_fine Set h = let numbers = numbers_fine (operands_of Set) h in (numbers.0, value_fine h)
  instruction_fine Get h = let numbers = numbers_fine (operands_of Get) h in (numbers.0, numbers.1, slot_fine Get 2 refl h)
  instruction_fine Put h = let numbers = numbers_fine (operands_of Put) h in (numbers.0, slot_fine Put 1 refl h, numbers.2)
  instruction_fine Class h = tt
  instruction_fine Object h = tt
  instruction_fine Array h = tt
  instruction_fine Thread h = tt
  instruction_fine Local h = tt
  instruction_fine Label h = tt
  instruction_fine k h = numbers_fine (operands_of k) h
