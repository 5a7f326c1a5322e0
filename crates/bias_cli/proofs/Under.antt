-- The machine under the logs of a program has the program and its threads.
use Rattle.std.proofs.Common.{◌≡◌, ℕ, List, [], ◌∷◌, length, Option, Some, None, slice_get, slice_set, ap, sym, ◌∙◌}
use Rattle.std.proofs.lemmas.List.{length-map, length-set}
use Rattle.std.proofs.lemmas.Option.{same_Some}
use Rattle.plain_monitor.specs.declared.entry.Logged.{Logged}
use Rattle.plain_monitor.specs.Objects.{PlainObject, take_entry}
use Rattle.plain_monitor.specs.Order.{order}
use Rattle.plain_history.proofs.Joined.{first_some}
use Rattle.object_program.specs.Program.{ProgramText}
use Rattle.plain_machine.specs.Thread.{ThreadState}
use Rattle.plain_machine.specs.Asking.{thread_after}
use Rattle.plain_machine.specs.Machine.{PlainMachine, code_of, made_after_entry, moved, new_machine, take}
use Rattle.plain_machine.specs.Legal.{after_all, machine_after}

-- one machine has the program of the other, and as many threads
pub record IsLike (m n : PlainMachine) : Type 0 where
  pub program : n.program ≡ m.program
  pub threads : length n.threads ≡ length m.threads

like_moved : (m n : PlainMachine) (t : ℕ) (after : Option ThreadState) (made : Option (List (List ℕ))) (objects : Option (List PlainObject))
    → moved m t after made objects ≡ Some n → IsLike m n
like_moved m n t None made objects h = absurd (cc h)
like_moved m n t (Some next) None objects h = absurd (cc h)
like_moved m n t (Some next) (Some made) None h = absurd (cc h)
like_moved m n t (Some next) (Some made) (Some objects) h =
    let same : record m { objects = objects; made = made; threads = slice_set m.threads t next } ≡ n = same_Some _ n h in
    record {
      program = sym (ap (λ (k : PlainMachine). k.program) same);
      threads = sym (ap (λ (k : PlainMachine). length k.threads) same) ∙ length-set m.threads t next;
    }

like_after : (m n : PlainMachine) (xs : List (ℕ × Logged)) → after_all m xs ≡ Some n → IsLike m n
like_after m n [] h =
    let same : m ≡ n = same_Some m n h in
    record { program = sym (ap (λ (k : PlainMachine). k.program) same); threads = sym (ap (λ (k : PlainMachine). length k.threads) same) }
like_after m n (x ∷ xs) h =
    let a = first_some (λ k. after_all k xs) (take m x.0 x.1.entry) n h in
    let s = first_some (λ s. moved m x.0 (thread_after m.program (code_of m.program x.0) s x.1.entry)
    (made_after_entry m x.0 x.1.entry) (take_entry m.objects x.0 x.1.entry)) (slice_get m.threads x.0) a.0 a.1 in
    let first = like_moved m a.0 x.0 (thread_after m.program (code_of m.program x.0) s.0 x.1.entry)
    (made_after_entry m x.0 x.1.entry) (take_entry m.objects x.0 x.1.entry) s.2 in
    let rest = like_after a.0 n xs a.2 in
    record { program = rest.program ∙ first.program; threads = rest.threads ∙ first.threads }

-- it is the machine of this program
pub record IsMachineOf (p : ProgramText) (m : PlainMachine) : Type 0 where
  pub program : m.program ≡ p
  pub threads : length m.threads ≡ length p.threads

pub under_logs : (p : ProgramText) (fuel : ℕ) (logs : List (List Logged)) (m : PlainMachine) → machine_after p fuel logs ≡ Some m → IsMachineOf p m
under_logs p fuel logs m h =
    let like = like_after (new_machine p fuel) m (order logs) h in
    record { program = like.program; threads = like.threads ∙ length-map p.threads _ }
