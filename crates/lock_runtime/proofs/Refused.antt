-- A call is refused exactly where by its own log the thread has no hold: its hold words follow from its log.
use Rattle.std.proofs.Common.{◌≡◌, ℕ, ◌<◌, ◌≤◌, ◌==◌, false, if◌then◌else◌, Result, Err, List, [], refl, sym, ap, ◌∙◌, eq-eqb, ne_eqb, arith}
use Rattle.std.proofs.lemmas.Bool.{eqb-false}
use Rattle.plain_history.specs.HeldByLog.{held_by, nothing_held}
use Rattle.core_world.specs.declared.answer.IllegalMonitorState.{IllegalMonitorState}
use Rattle.core_world.specs.Locks.{hold_count}
use Rattle.core_world.specs.Threads.ThreadView.{StepMade}
use Rattle.core_world.specs.Trees.StepTree.{StepTree, done}
use Rattle.core_calls.specs.Paths.{Tells}
use Rattle.core_calls.proofs.Runs.{tells}
use Rattle.heap_table.specs.Parts.{HasMadeSteps}
use Rattle.heap_table.specs.Resting.{Rests}
use Rattle.heap_table.specs.Seen.{HeapSeen, PassSeen, IsOf}
use Rattle.heap_table.proofs.Arms.{run_then}
use Rattle.heap_table.proofs.Parts.{ends}
use Rattle.own_logs.proofs.OwnHolds.{own_number}

-- the code has seen n, and compared it
pub differs : {seen n m : ℕ} → seen ≡ n → (seen ≡ m → ⊥) → (n == m) ≡ false
differs {m = m} same other = ap (λ x. x == m) (sym same) ∙ ne_eqb _ _ other

-- where a call makes no step, nothing is told
pub tells_nothing : (h : HeapSeen) (p : PassSeen) {P : List StepMade → Type 0} → P [] → Tells p.known p.known P
tells_nothing h p {P = P} so =
    tells {s = h.heap.shape} {start = h.heap.start} {d = done (tt {0})} {P = λ ms _. P ms} (record { by = so }) (record { by = (refl, refl) })

-- as where the thread has no hold on the object
pub refused : {A : Type 0} {h : HeapSeen} {p : PassSeen} (o : ℕ) (x : StepTree (Result A IllegalMonitorState)) → IsOf h p
    → hold_count o p.known.holds ≡ 0 → HasMadeSteps h (if hold_count o p.known.holds == 0 then done (Err (record {})) else x) p p (Err (record {}))
refused {h = h} {p = p} o x heap none =
    run_then h p (hold_count o p.known.holds == 0) (done (Err (record {}))) x p (Err (record {})) (eq-eqb _ _ none) (ends h p (Err (record {})) heap)

module _ (h : HeapSeen) (p : PassSeen) (rests : Rests h p) (o : ℕ) where
  pub unheld : hold_count o p.known.holds ≡ 0 → held_by nothing_held p.known.log o ≡ 0
  unheld none = sym (own_number h p o rests) ∙ none

  pub held : (hold_count o p.known.holds == 0) ≡ false → 1 ≤ held_by nothing_held p.known.log o
  held some = let other = eqb-false _ _ some in let same = own_number h p o rests in omega (arith, other, same)

  -- and where by its log it has one, so it has by its hold words
  pub some_by_log : 1 ≤ held_by nothing_held p.known.log o → 0 < hold_count o p.known.holds
  some_by_log some = let same = own_number h p o rests in omega (arith, some, same)

  pub goes_by_log : 1 ≤ held_by nothing_held p.known.log o → (hold_count o p.known.holds == 0) ≡ false
  goes_by_log some = ne_eqb _ _ (λ none. let one = some_by_log some in omega (arith, none, one))
