-- The machine's objects stay as many, and it takes no hash of another one.
use Rattle.std.proofs.Common.{◌≡◌, ℕ, List, length, refl, sym, ◌∙◌, ap, arith, slice_get, Option, Some, None}
use Rattle.std.proofs.lemmas.List.{length-map}
use Rattle.std.proofs.lemmas.Option.{same_Some}
use Rattle.plain_monitor.specs.declared.entry.Entry.{Entry}
use Rattle.plain_monitor.specs.declared.entry.Entry.TheVariants.{Hash}
use Rattle.plain_monitor.specs.Objects.{PlainObject, new_object, take_entry}
use Rattle.object_program.specs.Program.{ProgramText, objects_total, shape_of}
use Rattle.object_program.specs.Valid.{IsProgram}
use Rattle.object_program.proofs.Made.{shape_total}
use Rattle.plain_machine.specs.Thread.{ThreadState}
use Rattle.plain_machine.specs.Machine.{PlainMachine, new_machine, moved, take, made_after_entry}
use Rattle.plain_machine.proofs.After.{length_after}
use Rattle.bias_check.proofs.Options.{and_then}
use Rattle.bias_check.proofs.ThreadsRead.{get_within}
use Rattle.bias_check.proofs.MarksAfter.{HashesOwn}

pub first_count : (p : ProgramText) (fuel : ℕ) → IsProgram p → length (new_machine p fuel).objects ≡ objects_total p
first_count p fuel h = length-map (shape_of p) (λ (x : ℕ × ℕ). new_object x.1) ∙ shape_total p

-- the objects after an entry that the machine takes
record IsAfter (m n : PlainMachine) (t : ℕ) (e : Entry) : Type 0 where
  pub objects : List PlainObject
  pub takes : take_entry m.objects t e ≡ Some objects
  pub are : objects ≡ n.objects

moved_objects : (m n : PlainMachine) (t : ℕ) (e : Entry) (after : Option ThreadState) (made : Option (List (List ℕ))) (r : Option (List PlainObject))
    → take_entry m.objects t e ≡ r
    → moved m t after made r ≡ Some n → IsAfter m n t e
moved_objects m n t e None made r k h = absurd (cc h)
moved_objects m n t e (Some s) None r k h = absurd (cc h)
moved_objects m n t e (Some s) (Some made) None k h = absurd (cc h)
moved_objects m n t e (Some s) (Some made) (Some objects) k h =
    record { objects = objects; takes = k; are = ap (λ (z : PlainMachine). z.objects) (same_Some _ _ h) }

is_after : (m n : PlainMachine) (t : ℕ) (e : Entry) → take m t e ≡ Some n → IsAfter m n t e
is_after m n t e h =
    and_then _ (slice_get m.threads t) n h (λ s some f. moved_objects m n t e _ (made_after_entry m t e) (take_entry m.objects t e) refl f)

pub as_many : (m n : PlainMachine) (t : ℕ) (e : Entry) → take m t e ≡ Some n → length n.objects ≡ length m.objects
as_many m n t e h =
    let b = is_after m n t e h in ap length (sym b.are) ∙ length_after m.objects b.objects t e b.takes

hashed : (p : ProgramText) (objects after : List PlainObject) (t : ℕ) (e : Entry)
    → length objects ≡ objects_total p → take_entry objects t e ≡ Some after → HashesOwn p e
hashed p objects after t (Hash o v drawn) count h =
    and_then _ (slice_get objects o) after h (λ x some f. let lt = get_within objects o x some in omega (arith, lt, count))
hashed p objects after t e count h = tt

pub hash_is_own : (p : ProgramText) (m n : PlainMachine) (t : ℕ) (e : Entry) → length m.objects ≡ objects_total p → take m t e ≡ Some n → HashesOwn p e
hash_is_own p m n t e count h = let b = is_after m n t e h in hashed p m.objects b.objects t e count b.takes
