-- Instructions as rows of a table: the keyword of each, what stands in the places of its operands, and how it is made of these.
use Rattle.std.proofs.Common.{◌≡◌, ℕ, ℤ, pos, nat_abs, ◌<◌, true, List, [], ◌∷◌, slice_index_or}
use Rattle.std.specs.List.{AllByRecursion}
use Rattle.plain_monitor.specs.Limits.{most_slots}
use Rattle.plain_monitor.specs.Numbers.{IsInRange}
use Rattle.object_program.specs.declared.program.Code.{Code}
use Rattle.object_program.specs.declared.program.Code.TheVariants as code
use Rattle.object_program.specs.declared.program.LabelDef.{LabelDef}
use Rattle.object_program.specs.Valid.{is_target, IsInstruction}
use Rattle.program_syntax.specs.declared.keyword.Keyword.{Keyword}
use Rattle.program_syntax.specs.declared.keyword.Keyword.TheVariants.{Set, Add, Sub, Mul, Ref, Elem, Enter, Exit, Wait, Notify, NotifyAll}
use Rattle.program_syntax.specs.declared.keyword.Keyword.TheVariants.{Get, Put, Hash, New, Print, Jump, Jlt, Jeq, Dump, End}

-- what stands in the place of an operand
pub data Part : Type 0 where
  OfLocal : ℕ → Part
  OfObject : ℕ → Part
  OfClass : ℕ → Part
  OfLabel : ℕ → Part
  OfSlot : ℕ → Part
  OfValue : ℤ → Part

abbrev pub row_of : Code → Keyword × List Part
row_of (code.Set x v) = (Set, OfLocal x ∷ OfValue v ∷ [])
row_of (code.Add x y z) = (Add, OfLocal x ∷ OfLocal y ∷ OfLocal z ∷ [])
row_of (code.Sub x y z) = (Sub, OfLocal x ∷ OfLocal y ∷ OfLocal z ∷ [])
row_of (code.Mul x y z) = (Mul, OfLocal x ∷ OfLocal y ∷ OfLocal z ∷ [])
row_of (code.Ref x n) = (Ref, OfLocal x ∷ OfObject n ∷ [])
row_of (code.Elem x n i) = (Elem, OfLocal x ∷ OfObject n ∷ OfLocal i ∷ [])
row_of (code.Enter x) = (Enter, OfLocal x ∷ [])
row_of (code.Exit x) = (Exit, OfLocal x ∷ [])
row_of (code.Wait x) = (Wait, OfLocal x ∷ [])
row_of (code.Notify x) = (Notify, OfLocal x ∷ [])
row_of (code.NotifyAll x) = (NotifyAll, OfLocal x ∷ [])
row_of (code.Get x o k) = (Get, OfLocal x ∷ OfLocal o ∷ OfSlot k ∷ [])
row_of (code.Put o k x) = (Put, OfLocal o ∷ OfSlot k ∷ OfLocal x ∷ [])
row_of (code.Hash x o) = (Hash, OfLocal x ∷ OfLocal o ∷ [])
row_of (code.New x c) = (New, OfLocal x ∷ OfClass c ∷ [])
row_of (code.Print x) = (Print, OfLocal x ∷ [])
row_of (code.Jump l) = (Jump, OfLabel l ∷ [])
row_of (code.Jlt x y l) = (Jlt, OfLocal x ∷ OfLocal y ∷ OfLabel l ∷ [])
row_of (code.Jeq x y l) = (Jeq, OfLocal x ∷ OfLocal y ∷ OfLabel l ∷ [])
row_of code.Dump = (Dump, [])
row_of code.End = (End, [])

abbrev pub keyword_for : Code → Keyword
keyword_for c = (row_of c).0

abbrev pub parts_of : Code → List Part
parts_of c = (row_of c).1

-- the number in the place of operand i, and the count
abbrev number : List ℤ → ℕ → ℤ
number zs i = slice_index_or zs i (pos 0)

abbrev count : List ℤ → ℕ → ℕ
count zs i = nat_abs (number zs i)

-- the instruction with this keyword and these numbers in the places of its operands
abbrev pub made_of : Keyword → List ℤ → Code
made_of Set zs = code.Set (count zs 0) (number zs 1)
made_of Add zs = code.Add (count zs 0) (count zs 1) (count zs 2)
made_of Sub zs = code.Sub (count zs 0) (count zs 1) (count zs 2)
made_of Mul zs = code.Mul (count zs 0) (count zs 1) (count zs 2)
made_of Ref zs = code.Ref (count zs 0) (count zs 1)
made_of Elem zs = code.Elem (count zs 0) (count zs 1) (count zs 2)
made_of Enter zs = code.Enter (count zs 0)
made_of Exit zs = code.Exit (count zs 0)
made_of Wait zs = code.Wait (count zs 0)
made_of Notify zs = code.Notify (count zs 0)
made_of NotifyAll zs = code.NotifyAll (count zs 0)
made_of Get zs = code.Get (count zs 0) (count zs 1) (count zs 2)
made_of Put zs = code.Put (count zs 0) (count zs 1) (count zs 2)
made_of Hash zs = code.Hash (count zs 0) (count zs 1)
made_of New zs = code.New (count zs 0) (count zs 1)
made_of Print zs = code.Print (count zs 0)
made_of Jump zs = code.Jump (count zs 0)
made_of Jlt zs = code.Jlt (count zs 0) (count zs 1) (count zs 2)
made_of Jeq zs = code.Jeq (count zs 0) (count zs 1) (count zs 2)
made_of Dump zs = code.Dump
made_of k zs = code.End

-- what a program says of an operand of one of its instructions
abbrev pub IsIn : ℕ → ℕ → ℕ → List LabelDef → Part → Type 0
IsIn classes locals objects labels (OfLocal x) = x < locals
IsIn classes locals objects labels (OfObject n) = n < objects
IsIn classes locals objects labels (OfClass c) = c < classes
IsIn classes locals objects labels (OfLabel l) = is_target labels l ≡ true
IsIn classes locals objects labels (OfSlot k) = k < most_slots
IsIn classes locals objects labels (OfValue v) = IsInRange v

-- the same of all, as `IsInstruction` has it
abbrev AreIn : (Part → Type 0) → List Part → Type 0
AreIn P [] = Unit {0}
AreIn P (a ∷ []) = P a
AreIn P (a ∷ b ∷ []) = P a × P b
AreIn P (a ∷ b ∷ c ∷ []) = P a × P b × P c
AreIn P (a ∷ b ∷ c ∷ d ∷ qs) = ⊥

each_in : (P : Part → Type 0) (qs : List Part) → AreIn P qs → AllByRecursion P qs
each_in P [] h = tt
each_in P (a ∷ []) h = (h, tt)
each_in P (a ∷ b ∷ []) h = (h.0, (h.1, tt))
each_in P (a ∷ b ∷ c ∷ []) h = (h.0, (h.1, (h.2, tt)))
each_in P (a ∷ b ∷ c ∷ d ∷ qs) h = absurd h

pub operands_in : (classes locals objects : ℕ) (labels : List LabelDef) (c : Code) → IsInstruction classes locals objects labels c
    → AllByRecursion (IsIn classes locals objects labels) (parts_of c)
operands_in classes locals objects labels code.End h = tt
operands_in classes locals objects labels c h = each_in (IsIn classes locals objects labels) (parts_of c) h
