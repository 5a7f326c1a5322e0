-- What is read into the parts of a machine is the machine of the words.
use Rattle.std.proofs.Common.{◌≡◌, ℕ, suc, ◌+◌, List, [], ◌∷◌, length, map, slice_get, Some, refl, sym, ap, ◌∙◌, subst, arith}
use Rattle.plain_monitor.specs.Objects.{PlainObject}
use Rattle.object_program.specs.Program.{ProgramText, objects_total, slots_of}
use Rattle.plain_machine.specs.Thread.{ThreadState}
use Rattle.plain_machine.specs.Machine.{PlainMachine}
use Rattle.machine_laws.specs.Reached.{HasSlots, IsReached}
use Rattle.every_outcome.proofs.Places.{length_map}
use Rattle.machine_words.specs.MadeWords.{read_made}
use Rattle.machine_words.specs.ObjectWords.{read_objects}
use Rattle.machine_words.specs.ThreadWords.{read_threads, threads_with}
use Rattle.machine_words.specs.MachineWords.{machine_of}
use Rattle.machine_words.specs.inner.Reading.{walk, renewed, object_step, thread_step, beside, place_step}
use Rattle.machine_words.proofs.WalkedParts.{HaveSlots, threads_after, renewed_slots, objects_walked, threads_placed}
use Rattle.machine_words.proofs.Beside.{beside_count}

have_slots : (p : ProgramText) (k : ℕ) (xs : List PlainObject) → ((j : ℕ) (x : PlainObject) → slice_get xs j ≡ Some x → HasSlots p (k + j) x)
    → HaveSlots (slots_of p) k xs
have_slots p k [] each = tt
have_slots p k (x ∷ xs) each =
    let here : k + 0 ≡ k = omega arith in
    let first : HasSlots p k x = subst (λ (o : ℕ). HasSlots p o x) here (each 0 x refl) in (
      first.count,
      have_slots p (k + 1) xs (λ j z at.
          let moved : k + suc j ≡ k + 1 + j = omega arith in subst (λ (o : ℕ). HasSlots p o z) moved (each (suc j) z at)),
    )

pub loaded : (fuel : ℕ) (ws : List ℕ) (m : PlainMachine) (new : List PlainObject) (free threads : List ThreadState) (beyond : List ℕ)
    (made : List (List ℕ)) (later : List ℕ) (objects : List PlainObject) (holding placed : List ThreadState) → IsReached m
    → new ≡ map renewed m.objects → free ≡ beside new 0 m.threads
    → threads ≡ (walk (thread_step fuel) 0 free ws).0 → beyond ≡ (walk (thread_step fuel) 0 free ws).1
    → made ≡ (read_made (length m.made) beyond).0 → later ≡ (read_made (length m.made) beyond).1
    → objects ≡ (walk object_step 0 new later).0 → holding ≡ beside objects 0 threads → placed ≡ (walk (place_step m.program fuel) 0 holding []).0
    → record { program = m.program; objects = objects; made = made; threads = placed } ≡ machine_of m.program fuel ws
loaded fuel ws m new free threads beyond made later objects holding placed h is_new is_free is_read is_after is_made is_later is_objects is_held is_placed =
    let p = m.program in
    let read = read_threads (length p.threads) ws in
    let rows = read_made (length p.threads) read.1 in
    let count : length free ≡ length p.threads = ap length is_free ∙ beside_count new 0 m.threads ∙ h.thread_count in
    let e2 : beyond ≡ read.1 = is_after ∙ threads_after fuel 0 free ws ∙ ap (λ (n : ℕ). (read_threads n ws).1) count in
    let e3 : made ≡ rows.0 = is_made ∙ (λ i. (read_made (h.row_count i) (e2 i)).0) in
    let e4 : later ≡ rows.1 = is_later ∙ (λ i. (read_made (h.row_count i) (e2 i)).1) in
    let old : HaveSlots (slots_of p) 0 m.objects = have_slots p 0 m.objects (λ j x at.
    let first : j ≡ 0 + j = omega arith in subst (λ (o : ℕ). HasSlots p o x) first (h.slots j x at)) in
    let have : HaveSlots (slots_of p) 0 new = subst (HaveSlots (slots_of p) 0) (sym is_new) (renewed_slots (slots_of p) 0 m.objects old) in
    let total : length new ≡ objects_total p = ap length is_new ∙ length_map renewed m.objects ∙ h.object_count in
    let e5 : objects ≡ read_objects (slots_of p) 0 (objects_total p) rows.1 =
    is_objects ∙ objects_walked (slots_of p) 0 new later have ∙ (λ i. read_objects (slots_of p) 0 (total i) (e4 i)) in
    let e6 : placed ≡ threads_with p fuel (read_objects (slots_of p) 0 (objects_total p) rows.1) 0 read.0 =
    is_placed ∙ ap (λ (ss : List ThreadState). (walk (place_step p fuel) 0 ss []).0) (is_held ∙ ap (beside objects 0) is_read)
    ∙ threads_placed p fuel objects 0 free ws []
    ∙ (λ i. threads_with p fuel (e5 i) 0 (read_threads (count i) ws).0) in
    λ i. record { program = p; objects = e5 i; made = e3 i; threads = e6 i }
