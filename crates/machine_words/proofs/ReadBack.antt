-- A reached machine is read back from its words.
use Rattle.std.proofs.Common.{◌≡◌, ℕ, suc, ◌+◌, List, [], ◌∷◌, ◌++◌, length, map, slice_get, Some, refl, sym, ap, ◌∙◌, subst, arith}
use Rattle.std.specs.List.{AllByRecursion}
use Rattle.plain_monitor.specs.Objects.{PlainObject}
use Rattle.plain_monitor.specs.ValueWords.{IsSpellable}
use Rattle.object_program.specs.Program.{ProgramText, objects_total, slots_of}
use Rattle.object_program.specs.Valid.{IsProgram}
use Rattle.plain_machine.specs.Thread.{ThreadState}
use Rattle.plain_machine.specs.Machine.{PlainMachine}
use Rattle.machine_laws.specs.Reached.{HasSlots, IsReached}
use Rattle.machine_laws.specs.ReachedThread.{IsThreadOf}
use Rattle.every_outcome.specs.Fuel.{with_fuel, refuelled}
use Rattle.every_outcome.specs.Stands.{AllStand}
use Rattle.machine_words.specs.ThreadWords.{thread_words, threads_words, read_threads}
use Rattle.machine_words.specs.MadeWords.{made_words, read_made}
use Rattle.machine_words.specs.ObjectWords.{objects_words, read_objects}
use Rattle.machine_words.specs.MachineWords.{words_of, machine_with, machine_beside, machine_from, machine_of}
use Rattle.machine_words.proofs.ReadWords.{all_spelled}
use Rattle.machine_words.proofs.ReadThreads.{IsReadable, parts_of, threads_back, threads_are}
use Rattle.machine_words.proofs.ReadMade.{made_back}
use Rattle.machine_words.proofs.ReadObjects.{AreReadable, objects_back}

pub threads_readable : (p : ProgramText) (ss : List ThreadState) → IsProgram p → AllByRecursion (IsThreadOf p) ss → AllByRecursion IsReadable ss
threads_readable p [] valid all = tt
threads_readable p (s ∷ ss) valid all =
    (record { dumps = all.0.state.dumps; locals = all_spelled p s.locals valid all.0.state.locals }, threads_readable p ss valid all.1)

objects_readable : (p : ProgramText) (k : ℕ) (xs : List PlainObject) → IsProgram p
    → ((j : ℕ) (x : PlainObject) → slice_get xs j ≡ Some x → HasSlots p (k + j) x) → AreReadable (slots_of p) k xs
objects_readable p k [] valid each = tt
objects_readable p k (x ∷ xs) valid each =
    let here : k + 0 ≡ k = omega arith in
    let first : HasSlots p k x = subst (λ (o : ℕ). HasSlots p o x) here (each 0 x refl) in (
      first.count,
      all_spelled p x.slots valid first.values,
      objects_readable p (k + 1) xs valid (λ j z at.
          let moved : k + suc j ≡ k + 1 + j = omega arith in subst (λ (o : ℕ). HasSlots p o z) moved (each (suc j) z at)),
    )

-- each local of each thread has a word, and each slot of each object
pub threads_spelled : (p : ProgramText) (ss : List ThreadState) → IsProgram p → AllByRecursion (IsThreadOf p) ss
    → AllByRecursion (λ (s : ThreadState). AllByRecursion IsSpellable s.locals) ss
threads_spelled p [] valid all = tt
threads_spelled p (s ∷ ss) valid all = (all_spelled p s.locals valid all.0.state.locals, threads_spelled p ss valid all.1)

pub objects_spelled : (p : ProgramText) (k : ℕ) (xs : List PlainObject) → IsProgram p
    → ((j : ℕ) (x : PlainObject) → slice_get xs j ≡ Some x → HasSlots p (k + j) x)
    → AllByRecursion (λ (x : PlainObject). AllByRecursion IsSpellable x.slots) xs
objects_spelled p k [] valid each = tt
objects_spelled p k (x ∷ xs) valid each =
    let here : k + 0 ≡ k = omega arith in
    let first : HasSlots p k x = subst (λ (o : ℕ). HasSlots p o x) here (each 0 x refl) in (
      all_spelled p x.slots valid first.values,
      objects_spelled p (k + 1) xs valid (λ j z at.
          let moved : k + suc j ≡ k + 1 + j = omega arith in subst (λ (o : ℕ). HasSlots p o z) moved (each (suc j) z at)),
    )

pub read_back : (m : PlainMachine) (fuel : ℕ) → IsReached m → AllStand m → machine_of m.program fuel (words_of m) ≡ refuelled fuel m
read_back m fuel h stands =
    let p = m.program in
    let parts = map parts_of m.threads in
    let ws = objects_words 0 m.objects in
    let later = made_words m.made ++ ws in
    let threads : read_threads (length p.threads) (words_of m) ≡ (parts, later) =
    subst (λ (n : ℕ). read_threads n (words_of m) ≡ (parts, later)) h.thread_count
    (threads_back m.threads later (threads_readable p m.threads h.program h.threads)) in
    let made : read_made (length p.threads) later ≡ (m.made, ws) =
    subst (λ (n : ℕ). read_made n later ≡ (m.made, ws)) h.row_count (made_back m.made ws) in
    let all : AreReadable (slots_of p) 0 m.objects = objects_readable p 0 m.objects h.program (λ j x at.
    let first : j ≡ 0 + j = omega arith in subst (λ (o : ℕ). HasSlots p o x) first (h.slots j x at)) in
    let objects : read_objects (slots_of p) 0 (objects_total p) ws ≡ m.objects =
    subst (λ (n : ℕ). read_objects (slots_of p) 0 n ws ≡ m.objects) h.object_count (objects_back (slots_of p) 0 m.objects all) in
    ap (machine_from p fuel) threads ∙ ap (machine_beside p fuel parts) made ∙ ap (machine_with p fuel parts m.made) objects
    ∙ ap (λ (ss : List ThreadState). record m { threads = ss }) (threads_are fuel m h stands)

pub told_apart : (m n : PlainMachine) (fuel : ℕ) → IsReached m → AllStand m → IsReached n → AllStand n → m.program ≡ n.program → words_of m ≡ words_of n
    → refuelled fuel m ≡ refuelled fuel n
told_apart m n fuel h stands k stands2 same words =
    sym (read_back m fuel h stands) ∙ (λ i. machine_of (same i) fuel (words i)) ∙ read_back n fuel k stands2

fuel_unsaid : (fuel : ℕ) (ss : List ThreadState) → threads_words (map (λ s. with_fuel fuel s) ss) ≡ threads_words ss
fuel_unsaid fuel [] = refl
fuel_unsaid fuel (s ∷ ss) = ap (λ (ws : List ℕ). thread_words s ++ ws) (fuel_unsaid fuel ss)

pub no_words_of_fuel : (m : PlainMachine) (fuel : ℕ) → words_of (refuelled fuel m) ≡ words_of m
no_words_of_fuel m fuel = ap (λ (ws : List ℕ). ws ++ (made_words m.made ++ objects_words 0 m.objects)) (fuel_unsaid fuel m.threads)
