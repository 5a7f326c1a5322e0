-- What the walks over a machine's parts lead to.
use Rattle.std.proofs.Common.{◌≡◌, ℕ, pos, ◌+◌, ◌==◌, nat_lt, Bool, true, false, List, [], ◌∷◌, length, map, refl, sym, ap, ◌∙◌}
use Rattle.std.proofs.lemmas.List.{length-replicate}
use Rattle.plain_monitor.specs.declared.entry.Value.TheVariants.{Int}
use Rattle.plain_monitor.specs.Objects.{PlainObject, new_object}
use Rattle.object_program.specs.declared.program.Code.{Code}
use Rattle.object_program.specs.Program.{ProgramText}
use Rattle.plain_machine.specs.declared.monitor_call.MonitorCall.TheVariants.{Dump}
use Rattle.plain_machine.specs.declared.monitor_call.Mode.{Mode}
use Rattle.plain_machine.specs.declared.monitor_call.Mode.TheVariants.{Calling}
use Rattle.plain_machine.specs.Thread.{ThreadState, step_of}
use Rattle.plain_machine.specs.Running.{instruction_at}
use Rattle.plain_machine.specs.Machine.{code_of}
use Rattle.machine_words.specs.MadeWords.{read_row, read_made}
use Rattle.machine_words.specs.ModeWords.{mode_with}
use Rattle.machine_words.specs.ObjectWords.{begins, after_one, read_object, read_objects}
use Rattle.machine_words.specs.ThreadWords.{ThreadParts, read_thread, read_threads, holds_in, calling_in, unmoded, thread_with, threads_with}
use Rattle.machine_words.specs.inner.Reading.{walk, renewed, renew_step, object_step, row_step, unplaced, thread_step, beside, placed_mode, placed, place_step}

-- the words after those of the threads
pub threads_after : (fuel k : ℕ) (ss : List ThreadState) (ws : List ℕ) → (walk (thread_step fuel) k ss ws).1 ≡ (read_threads (length ss) ws).1
threads_after fuel k [] ws = refl
threads_after fuel k (s ∷ ss) ws = threads_after fuel (k + 1) ss (read_thread ws).1

pub rows_walked : (k : ℕ) (rows : List (List ℕ)) (ws : List ℕ) → walk row_step k rows ws ≡ read_made (length rows) ws
rows_walked k [] ws = refl
rows_walked k (row ∷ rows) ws = ap (λ (r : List (List ℕ) × List ℕ). ((read_row ws).0 ∷ r.0, r.1)) (rows_walked (k + 1) rows (read_row ws).1)

-- these objects, of which the first has number k, have as many slots as their numbers say
abbrev pub HaveSlots : (ℕ → ℕ) → ℕ → List PlainObject → Type 0
HaveSlots slots k [] = Unit {0}
HaveSlots slots k (x ∷ xs) = (length x.slots ≡ slots k) × HaveSlots slots (k + 1) xs

-- so they have as at first
pub renewed_slots : (slots : ℕ → ℕ) (k : ℕ) (xs : List PlainObject) → HaveSlots slots k xs → HaveSlots slots k (map renewed xs)
renewed_slots slots k [] have = tt
renewed_slots slots k (x ∷ xs) have = (length-replicate (length x.slots) (Int (pos 0)) ∙ have.0, renewed_slots slots (k + 1) xs have.1)

pub renewed_twice : (xs : List PlainObject) → map renewed xs ≡ map renewed (map renewed xs)
renewed_twice [] = refl
renewed_twice (x ∷ xs) = λ i. new_object (sym (length-replicate (length x.slots) (Int (pos 0))) i) ∷ renewed_twice xs i

pub renewed_walked : (k : ℕ) (xs : List PlainObject) (ws : List ℕ) → (walk renew_step k xs ws).0 ≡ map renewed xs
renewed_walked k [] ws = refl
renewed_walked k (x ∷ xs) ws = ap (λ (ys : List PlainObject). renewed x ∷ ys) (renewed_walked (k + 1) xs ws)

pub objects_walked : (slots : ℕ → ℕ) (k : ℕ) (xs : List PlainObject) (ws : List ℕ) → HaveSlots slots k xs
    → (walk object_step k xs ws).0 ≡ read_objects slots k (length xs) ws
objects_walked slots k [] ws have = refl
objects_walked slots k (x ∷ xs) ws have = go (begins k ws) refl (λ rest. objects_walked slots (k + 1) xs rest have.1)
  where
    go : (b : Bool) → begins k ws ≡ b → ((rest : List ℕ) → (walk object_step (k + 1) xs rest).0 ≡ read_objects slots (k + 1) (length xs) rest)
        → (walk object_step k (x ∷ xs) ws).0 ≡ read_objects slots k (length (x ∷ xs)) ws
    go true e ih =
        rw e
        (ap (λ (n : ℕ). (read_object n (after_one ws)).0 ∷ (walk object_step (k + 1) xs (read_object n (after_one ws)).1).0) have.0
        ∙ ap (λ (ys : List PlainObject). (read_object (slots k) (after_one ws)).0 ∷ ys) (ih (read_object (slots k) (after_one ws)).1))
    go false e ih = rw e (λ i. new_object (have.0 i) ∷ ih ws i)

mode_placed : (calling : Mode) (kind rest : ℕ) → placed_mode calling (mode_with (Calling (Dump 0)) kind rest) ≡ mode_with calling kind rest
mode_placed calling kind rest = first (kind == 0) refl
  where
    third : (b : Bool) → (kind == 0) ≡ false → (kind == 1) ≡ false → nat_lt kind 13 ≡ b
        → placed_mode calling (mode_with (Calling (Dump 0)) kind rest) ≡ mode_with calling kind rest
    third true e f g = rw (e, f, g) refl
    third false e f g = rw (e, f, g) refl

    second : (b : Bool) → (kind == 0) ≡ false → (kind == 1) ≡ b
        → placed_mode calling (mode_with (Calling (Dump 0)) kind rest) ≡ mode_with calling kind rest
    second true e f = rw (e, f) refl
    second false e f = third (nat_lt kind 13) e f refl

    first : (b : Bool) → (kind == 0) ≡ b → placed_mode calling (mode_with (Calling (Dump 0)) kind rest) ≡ mode_with calling kind rest
    first true e = rw e refl
    first false e = second (kind == 1) e refl

thread_placed : (p : ProgramText) (code : List Code) (fuel t : ℕ) (objects : List PlainObject) (holds : List ℕ) (parts : ThreadParts)
    → placed p code fuel (record (unplaced fuel holds parts) { holds = holds_in t objects }) ≡ thread_with p code parts (unmoded fuel t objects parts)
thread_placed p code fuel t objects holds parts =
    let s = unmoded fuel t objects parts in
    ap (λ (m : Mode). record s { mode = m }) (mode_placed (calling_in (step_of p s (instruction_at code parts.place))) parts.kind parts.rest)

-- threads that were read, beside their objects
pub threads_placed : (p : ProgramText) (fuel : ℕ) (objects : List PlainObject) (t : ℕ) (ss : List ThreadState) (ws after : List ℕ)
    → (walk (place_step p fuel) t (beside objects t (walk (thread_step fuel) t ss ws).0) after).0
    ≡ threads_with p fuel objects t (read_threads (length ss) ws).0
threads_placed p fuel objects t [] ws after = refl
threads_placed p fuel objects t (s ∷ ss) ws after =
    λ i. thread_placed p (code_of p t) fuel t objects s.holds (read_thread ws).0 i ∷ threads_placed p fuel objects (t + 1) ss (read_thread ws).1 after i
