-- What a machine takes finds what it needs: its logs are made in time.
use Rattle.std.proofs.Common.{◌≡◌, ℕ, List, [], ◌∷◌, slice_get, Option, Some, None, IsSome, option_and_then, refl, sym, ap, ◌∙◌, subst}
use Rattle.std.proofs.lemmas.Option.{same_Some}
use Rattle.plain_monitor.specs.declared.entry.Entry.{Entry}
use Rattle.plain_monitor.specs.declared.entry.Logged.{Logged}
use Rattle.plain_monitor.specs.History.{run_all}
use Rattle.plain_monitor.specs.Made.{take_made, IsMadeInTime}
use Rattle.plain_monitor.specs.Objects.{PlainObject, take_entry}
use Rattle.plain_monitor.specs.Order.{order}
use Rattle.object_program.specs.Program.{ProgramText, numbering_of}
use Rattle.plain_machine.specs.Asking.{thread_after}
use Rattle.plain_machine.specs.Legal.{IsLegal, after_all, machine_after}
use Rattle.plain_machine.specs.Machine.{PlainMachine, new_machine, code_of, made_after_entry, moved, take}
use Rattle.plain_machine.specs.Thread.{ThreadState}

-- what is made after an entry that the machine takes, of the same program
record Makes (m n : PlainMachine) (t : ℕ) (e : Entry) : Type 0 where
  made : made_after_entry m t e ≡ Some n.made
  program : m.program ≡ n.program

moved_makes : (m n : PlainMachine) (t : ℕ) (s : Option ThreadState) (made : Option (List (List ℕ))) (objects : Option (List PlainObject))
    → moved m t s made objects ≡ Some n
    → (made ≡ Some n.made) × (m.program ≡ n.program)
moved_makes m n t None made objects h = absurd (cc h)
moved_makes m n t (Some s) None objects h = absurd (cc h)
moved_makes m n t (Some s) (Some made) None h = absurd (cc h)
moved_makes m n t (Some s) (Some made) (Some objects) h =
    let same = same_Some _ n h in (ap (λ (k : PlainMachine). Some k.made) same, ap (λ (k : PlainMachine). k.program) same)

makes : (m n : PlainMachine) (t : ℕ) (e : Entry) → take m t e ≡ Some n → Makes m n t e
makes m n t e h = by_thread (slice_get m.threads t) h
  where
    by_thread : (r : Option ThreadState)
        → option_and_then (λ s. moved m t (thread_after m.program (code_of m.program t) s e)
        (made_after_entry m t e) (take_entry m.objects t e)) r ≡ Some n → Makes m n t e
    by_thread None h = absurd (cc h)
    by_thread (Some s) h =
        let k = moved_makes m n t (thread_after m.program (code_of m.program t) s e) (made_after_entry m t e) (take_entry m.objects t e) h in
        record { made = k.0; program = k.1 }

all_made : (m last : PlainMachine) (xs : List (ℕ × Logged)) → after_all m xs ≡ Some last
    → run_all (take_made (numbering_of m.program)) m.made xs ≡ Some last.made
all_made m last [] h = ap (λ (k : PlainMachine). Some k.made) (same_Some m last h)
all_made m last (x ∷ xs) h = by_taking (take m x.0 x.1.entry) refl h (λ n k. all_made n last xs k)
  where
    by_taking : (r : Option PlainMachine) → take m x.0 x.1.entry ≡ r → option_and_then (λ n. after_all n xs) r ≡ Some last
        → ((n : PlainMachine) → after_all n xs ≡ Some last → run_all (take_made (numbering_of n.program)) n.made xs ≡ Some last.made)
        → run_all (take_made (numbering_of m.program)) m.made (x ∷ xs) ≡ Some last.made
    by_taking None at g ih = absurd (cc g)
    by_taking (Some n) at g ih =
        let k = makes m n x.0 x.1.entry at in
        rw k.made (ap (λ p. run_all (take_made (numbering_of p)) n.made xs) k.program ∙ ih n g)

pub made_in_time : (p : ProgramText) (fuel : ℕ) (logs : List (List Logged)) → IsLegal p fuel logs → IsMadeInTime (numbering_of p) logs
made_in_time p fuel logs legal = by_machine (machine_after p fuel logs) refl legal.taken
  where
    by_machine : (r : Option PlainMachine) → machine_after p fuel logs ≡ r → IsSome r → IsMadeInTime (numbering_of p) logs
    by_machine None at some = absurd (cc some)
    by_machine (Some last) at some = subst IsSome (sym (all_made (new_machine p fuel) last (order logs) at)) refl
