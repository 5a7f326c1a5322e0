-- What holds of each machine of a program that entries lead to where all threads have the same fuel again after each.
use Rattle.std.proofs.Common.{◌≡◌, ℕ, ◌≤◌, List, Some, refl, sym, ap, ◌∙◌, subst}
use Rattle.plain_monitor.specs.declared.entry.Entry.{Entry}
use Rattle.object_program.specs.Program.{ProgramText}
use Rattle.object_program.specs.Valid.{IsProgram}
use Rattle.plain_machine.specs.Machine.{PlainMachine, new_machine, take}
use Rattle.machine_laws.proofs.ReachedAsked.{taken}
use Rattle.machine_laws.proofs.ReachedEntries.{progress}
use Rattle.machine_laws.proofs.ReachedFirst.{first_is_reached}
use Rattle.every_outcome.specs.Fuel.{refuelled}
use Rattle.every_outcome.proofs.FullFuel.{full_twice}
use Rattle.every_outcome.proofs.Refuelled.{reached_full}
use Rattle.every_outcome.proofs.Standing.{all_stand_first, all_stand_after, all_stand_full}
use Rattle.machine_words.specs.MachineWords.{words_of, machine_of}
use Rattle.machine_words.proofs.ReadBack.{read_back}
use Rattle.machine_words.proofs.Untouched.{untouched_first, untouched_after}
use Rattle.outcome_search.specs.Settled.{settled}
use Rattle.outcome_search.specs.Keys.{IsFound, IsKey}
use Rattle.outcome_search.proofs.Chains.{settles}

same_program : (m n : PlainMachine) (t : ℕ) (e : Entry) → take m t e ≡ Some n → n.program ≡ m.program
same_program m n t e takes = ap (λ (z : PlainMachine). z.program) (sym (taken m t e n takes).is)

pub found_after : (p : ProgramText) (fuel : ℕ) (m n : PlainMachine) (t : ℕ) (e : Entry) → 1 ≤ fuel → IsFound p fuel m → take m t e ≡ Some n
    → IsFound p fuel (refuelled fuel n)
found_after p fuel m n t e some h takes =
    record {
      program = same_program m n t e takes ∙ h.program;
      reached = reached_full fuel n some (progress m n t e h.reached takes).reached;
      stand = all_stand_full fuel n (all_stand_after m n t e h.stand takes);
      untouched = untouched_after m n t e h.untouched takes;
      full = ap (λ (ss : List _). record n { threads = ss }) (full_twice fuel n.threads);
    }

pub found_first : (p : ProgramText) (fuel : ℕ) → IsProgram p → 1 ≤ fuel → IsFound p fuel (refuelled fuel (new_machine p fuel))
found_first p fuel valid some =
    let m = new_machine p fuel in
    record {
      program = refl;
      reached = reached_full fuel m some (first_is_reached p fuel valid);
      stand = all_stand_full fuel m (all_stand_first p fuel);
      untouched = untouched_first p fuel;
      full = ap (λ (ss : List _). record m { threads = ss }) (full_twice fuel m.threads);
    }

pub found_settled : (p : ProgramText) (fuel steps : ℕ) (m : PlainMachine) → 1 ≤ fuel → IsFound p fuel m → IsFound p fuel (settled fuel steps m)
found_settled p fuel steps m some h =
    settles (IsFound p fuel) fuel steps m (λ m a found k. found_after p fuel m a k.thread k.entry some found k.takes) h

-- it is the machine of its words
pub found_read : (p : ProgramText) (fuel : ℕ) (m : PlainMachine) → IsFound p fuel m → machine_of p fuel (words_of m) ≡ m
found_read p fuel m h =
    subst (λ (q : ProgramText). machine_of q fuel (words_of m) ≡ refuelled fuel m) h.program (read_back m fuel h.reached h.stand) ∙ h.full

pub kept_read : (p : ProgramText) (fuel : ℕ) (key : List ℕ) (k : IsKey p fuel key) → machine_of p fuel key ≡ k.machine
kept_read p fuel key k = ap (machine_of p fuel) (sym k.words) ∙ found_read p fuel k.machine k.kept.0

-- it is one of its own program
pub found_own : (p : ProgramText) (fuel : ℕ) (m : PlainMachine) → IsFound p fuel m → IsFound m.program fuel m
found_own p fuel m h = record { program = refl; reached = h.reached; stand = h.stand; untouched = h.untouched; full = h.full }
