-- The two machines are alike before the first entry.
use Rattle.std.proofs.Common.{◌≡◌, ℕ, zero, suc, ◌+◌, List, [], ◌∷◌, length, map, replicate, slice_get, slice_index_or, refl, ap, sym, subst, arith}
use Rattle.std.specs.List.{AllByRecursion}
use Rattle.plain_monitor.specs.Objects.{new_objects}
use Rattle.object_program.specs.declared.program.Code.TheVariants as instr
use Rattle.plain_machine.specs.Thread.{ThreadState}
use Rattle.plain_machine.specs.Running.{instruction_at, first_state}
use Rattle.plain_machine.specs.Machine.{new_machine}
use Rattle.sync_source.specs.Source.{Statements, SyncText, SyncThreadText}
use Rattle.sync_source.specs.inner.Alike.{ArePlain}
use Rattle.sync_source.specs.SyncThread.{Over, Runs, sync_run}
use Rattle.sync_source.specs.SyncMachine.{without_blocks, world_of, first_thread, first_sync_state, new_sync_machine}
use Rattle.sync_source.specs.Compiled.{size, code_at, thread_code, compiled}
use Rattle.sync_source.specs.inner.Alike.{StandsInCode, AreAlike, OptionAlike, MachinesAlike}
use Rattle.sync_source.proofs.Placed.{code_size, has_itself, ends_after}
use Rattle.sync_source.proofs.Makes.{same_count, same_made_slots, same_total, same_shape}
use Rattle.sync_source.proofs.Units.{run_alike}

pub stands_first : (b : Statements) → ArePlain b → StandsInCode (code_at 0 b) 0 (Runs b Over)
stands_first b h =
    let k = code_size b 0 in
    let e : length (code_at 0 b) ≡ 0 + size b = omega (arith, k) in
    (h, has_itself (code_at 0 b), subst (λ (n : ℕ). instruction_at (code_at 0 b) n ≡ instr.End) e (ends_after (code_at 0 b)))

module _ (decimal : ℕ → List ℕ) (p : SyncText) (fuel : ℕ) where
  -- a thread that holds none of as many objects
  same_first : (locals : ℕ) → first_thread (world_of p) locals fuel ≡ first_thread (compiled decimal p) locals fuel
  same_first locals = ap (λ (n : ℕ). record (first_thread (world_of p) locals fuel) { holds = replicate n 0 }) (same_total decimal p)

  first_alike : (t : SyncThreadText) → ArePlain t.body
      → AreAlike (code_at 0 t.body) (first_sync_state (world_of p) t fuel) (first_state (compiled decimal p) (thread_code decimal t) fuel)
  first_alike t h =
      let code = code_at 0 t.body in
      let first = first_thread (compiled decimal p) (length t.locals) fuel in
      let slots = sym (same_made_slots decimal p) in
      let ts = map (thread_code decimal) p.threads in
      let runs = run_alike code p.classes p.objects ts (map without_blocks p.threads) slots fuel (Runs t.body Over) first in
      let state = first_state (compiled decimal p) (thread_code decimal t) fuel in
      subst (λ (s : ThreadState). AreAlike code (sync_run (world_of p) fuel (Runs t.body Over) s) state)
      (sym (same_first (length t.locals))) (runs (stands_first t.body h))

  starts_in : (ts : List SyncThreadText) → AllByRecursion (λ t. ArePlain t.body) ts → (t : ℕ)
      → OptionAlike (slice_index_or (map (λ d. d.code) (map (thread_code decimal) ts)) t [])
      (slice_get (map (λ x. first_sync_state (world_of p) x fuel) ts) t)
      (slice_get (map (λ x. first_state (compiled decimal p) x fuel) (map (thread_code decimal) ts)) t)
  starts_in [] h t = tt
  starts_in (x ∷ ts) h zero = first_alike x h.0
  starts_in (x ∷ ts) h (suc t) = starts_in ts h.1 t

  pub starts_alike : AllByRecursion (λ t. ArePlain t.body) p.threads
      → MachinesAlike (map without_blocks p.threads) (new_sync_machine p fuel) (new_machine (compiled decimal p) fuel)
  starts_alike h = record {
    world = refl;
    slots = sym (same_made_slots decimal p);
    objects = ap new_objects (same_shape decimal p);
    made = ap (λ (n : ℕ). replicate n []) (same_count decimal p);
    threads = starts_in p.threads h;
  }
