-- A program without the instruction makes no hash entry.
use Rattle.std.proofs.Common.{◌≡◌, ℕ, zero, suc, ◌-◌, Bool, true, false}
use Rattle.std.proofs.Common.{List, [], ◌∷◌, map, slice_get, slice_index_or, Option, Some, None, refl, sym, ◌∙◌, subst}
use Rattle.std.specs.List.{AllByRecursion, list_any}
use Rattle.std.proofs.lemmas.Bool.{false≢true, true≢false, or_parts}
use Rattle.std.proofs.lemmas.Option.{none-some, same_Some}
use Rattle.plain_monitor.specs.declared.entry.Ending.TheVariants as ending
use Rattle.plain_monitor.specs.declared.entry.Entry.{Entry}
use Rattle.plain_monitor.specs.declared.entry.Entry.TheVariants as entry
use Rattle.plain_monitor.specs.declared.entry.Logged.{Logged}
use Rattle.object_program.specs.declared.program.Code.{Code}
use Rattle.object_program.specs.declared.program.ThreadDef.{ThreadDef}
use Rattle.object_program.specs.Program.{ProgramText}
use Rattle.plain_machine.specs.declared.monitor_call.MonitorCall.{MonitorCall}
use Rattle.plain_machine.specs.declared.monitor_call.MonitorCall.TheVariants as call
use Rattle.plain_machine.specs.declared.monitor_call.Mode.{Mode}
use Rattle.plain_machine.specs.declared.monitor_call.Mode.TheVariants.{Calling, Waiting, Unwinding, Ended}
use Rattle.plain_machine.specs.declared.monitor_call.NextEntry.{NextEntry}
use Rattle.plain_machine.specs.declared.monitor_call.NextEntry.TheVariants as asked
use Rattle.plain_machine.specs.Thread.{ThreadState, Step, Goes, Calls, Stops, step_of}
use Rattle.plain_machine.specs.Running.{instruction_at, run_on, first_state}
use Rattle.plain_machine.specs.Asking.{ask_in, held_from, unwinds, fits, after_call, after_entry}
use Rattle.plain_machine.specs.Machine.{PlainMachine, new_machine, code_of, take}
use Rattle.plain_machine.specs.Legal.{after_all}
use Rattle.plain_machine.proofs.Effects.{Effect, Asks, IsEffectOf, apply, by_effect}
use Rattle.machine_laws.proofs.ReachedLists.{each_set}
use Rattle.machine_laws.proofs.ReachedAsked.{taken}
use Rattle.every_outcome.specs.Alone.{is_hash}
use Rattle.every_outcome.specs.NoHash.{is_hash_code, HasNoHash, asks_hash, AsksNoHash}
use Rattle.every_outcome.specs.Fuel.{with_fuel, refuelled}
use Rattle.every_outcome.proofs.Places.{get_unmap}
use Rattle.every_outcome.proofs.Reduced.{first_of}

abbrev hash_step : Step → Bool
hash_step (Calls (call.Hash x o)) = true
hash_step st = false

no_effect : (p : ProgramText) (s : ThreadState) (c : Code) → is_hash_code c ≡ false → (x : Effect) → IsEffectOf p s c x → hash_step (apply s x) ≡ false
no_effect p s c h (Asks (call.Hash x o)) is = absurd (true≢false (subst (λ (d : Code). is_hash_code d ≡ false) is.0.1 h))
no_effect p s c h x is = refl

no_step : (p : ProgramText) (s : ThreadState) (c : Code) → is_hash_code c ≡ false → hash_step (step_of p s c) ≡ false
no_step p s c h = by_effect p s (λ st. hash_step st ≡ false) c (no_effect p s c h)

at_place : (c : List Code) (k : ℕ) → list_any is_hash_code c ≡ false → is_hash_code (instruction_at c k) ≡ false
at_place [] k h = refl
at_place (x ∷ c) zero h = (or_parts (is_hash_code x) (list_any is_hash_code c) h).0
at_place (x ∷ c) (suc k) h = at_place c k (or_parts (is_hash_code x) (list_any is_hash_code c) h).1

called : (c : MonitorCall) → hash_step (Calls c) ≡ false → asks_hash (Calling c) ≡ false
called (call.Hash x o) h = h
called c h = refl

run_no_hash : (n : ℕ) (p : ProgramText) (c : List Code) (s : ThreadState) → list_any is_hash_code c ≡ false → asks_hash (run_on p c n s).mode ≡ false
unfolding run_on
run_no_hash zero p c s h = refl
run_no_hash (suc n) p c s h =
    go (step_of p s (instruction_at c s.place)) refl (no_step p s (instruction_at c s.place) (at_place c s.place h)) (λ next. run_no_hash n p c next h)
  where
    go : (st : Step) → step_of p s (instruction_at c s.place) ≡ st → hash_step (step_of p s (instruction_at c s.place)) ≡ false
        → ((next : ThreadState) → asks_hash (run_on p c n next).mode ≡ false)
        → asks_hash (run_on p c (suc n) s).mode ≡ false
    go (Goes next) e none ih = rw e (ih next)
    go (Calls k) e none ih = rw e (called k (rw e at none))
    go (Stops x) e none ih = rw e refl

call_no_hash : (p : ProgramText) (i : List Code) (s : ThreadState) (c : MonitorCall) (e : Entry) → list_any is_hash_code i ≡ false
    → asks_hash (after_call p i s c e).mode ≡ false
call_no_hash p i s (call.Wait o) e h = refl
call_no_hash p i s c e h = run_no_hash (s.fuel - 1) p i _ h

entry_no_hash : (p : ProgramText) (i : List Code) (s : ThreadState) (a : NextEntry) (e : Entry) → list_any is_hash_code i ≡ false → asks_hash s.mode ≡ false
    → asks_hash (after_entry p i s a e).mode ≡ false
entry_no_hash p i s (asked.Calls c) e h none = call_no_hash p i s c e h
entry_no_hash p i s (asked.Resumes o) e h none = run_no_hash s.fuel p i s h
entry_no_hash p i s (asked.Leaves o) e h none = none
entry_no_hash p i s (asked.Ends x) e h none = refl

code_free : (ts : List ThreadDef) (t : ℕ) → AllByRecursion (λ d. list_any is_hash_code d.code ≡ false) ts
    → list_any is_hash_code (slice_index_or (map (λ d. d.code) ts) t []) ≡ false
code_free [] t h = refl
code_free (d ∷ ts) zero h = h.0
code_free (d ∷ ts) (suc t) h = code_free ts t h.1

pub stays : (m n : PlainMachine) (t : ℕ) (e : Entry) → AsksNoHash m → take m t e ≡ Some n → AsksNoHash n
stays m n t e h takes =
    let k = taken m t e n takes in
    let s2 = after_entry m.program (code_of m.program t) k.s k.asked e in
    let none : asks_hash s2.mode ≡ false =
    entry_no_hash m.program (code_of m.program t) k.s k.asked e (code_free m.program.threads t h.program) (h.threads t k.s k.at) in
    subst AsksNoHash k.is (record {
      program = h.program;
      threads = each_set (λ (t : ℕ) (s : ThreadState). asks_hash s.mode ≡ false) m.threads t k.s s2 k.at none (λ j z other at. h.threads j z at);
    })

-- who asks no hash makes none
unasked : (s : ThreadState) (mode : Mode) (a : NextEntry) (e : Entry) → asks_hash mode ≡ false → ask_in s mode ≡ Some a → fits a e ≡ true → is_hash e ≡ false
unasked s (Calling c) a e none asks fit = by c e none (subst (λ (b : NextEntry). fits b e ≡ true) (sym (same_Some (asked.Calls c) a asks)) fit)
  where
    by : (c : MonitorCall) (e : Entry) → asks_hash (Calling c) ≡ false → fits (asked.Calls c) e ≡ true → is_hash e ≡ false
    by (call.Hash x o) e none fit = absurd (true≢false none)
    by c (entry.Hash o v d) none fit = absurd (false≢true fit)
    by c e none fit = refl
unasked s (Waiting o) a e none asks fit = by e (subst (λ (b : NextEntry). fits b e ≡ true) (sym (same_Some (asked.Resumes o) a asks)) fit)
  where
    by : (e : Entry) → fits (asked.Resumes o) e ≡ true → is_hash e ≡ false
    by (entry.Hash k v d) fit = absurd (false≢true fit)
    by e fit = refl
unasked s (Unwinding x) a e none asks fit =
    by (held_from 0 s.holds) e (subst (λ (b : NextEntry). fits b e ≡ true) (sym (same_Some (unwinds x (held_from 0 s.holds)) a asks)) fit)
  where
    ends : (g : _) (k v : ℕ) (d : Option ℕ) → fits (asked.Ends g) (entry.Hash k v d) ≡ false
    ends (ending.Trap f i) k v d = refl
    ends ending.Spent k v d = refl
    ends ending.Done k v d = refl

    by : (held : Option ℕ) (e : Entry) → fits (unwinds x held) e ≡ true → is_hash e ≡ false
    by None (entry.Hash k v d) fit = absurd (false≢true (sym (ends x k v d) ∙ fit))
    by (Some o) (entry.Hash k v d) fit = absurd (false≢true fit)
    by held e fit = refl
unasked s (Ended x) a e none asks fit = absurd (none-some a asks)

all_stay : (xs : List (ℕ × Logged)) (m n : PlainMachine) → AsksNoHash m → after_all m xs ≡ Some n → AsksNoHash n
all_stay [] m n h leads = subst AsksNoHash (same_Some m n leads) h
all_stay (x ∷ xs) m n h leads = let k = first_of m n x xs leads in all_stay xs k.machine n (stays m k.machine x.0 x.1.entry h k.takes) k.rest

first_free : (ts : List ThreadDef) (p : ProgramText) (fuel k : ℕ) (s : ThreadState) → AllByRecursion (λ d. list_any is_hash_code d.code ≡ false) ts
    → slice_get (map (λ t. first_state p t fuel) ts) k ≡ Some s → asks_hash s.mode ≡ false
first_free [] p fuel k s h at = absurd (none-some s at)
first_free (d ∷ ts) p fuel zero s h at =
    subst (λ (z : ThreadState). asks_hash z.mode ≡ false) (same_Some (first_state p d fuel) s at) (run_no_hash fuel p d.code _ h.0)
first_free (d ∷ ts) p fuel (suc k) s h at = first_free ts p fuel k s h.1 at

pub first_asks_none : (p : ProgramText) (fuel : ℕ) → HasNoHash p → AsksNoHash (new_machine p fuel)
first_asks_none p fuel free = record { program = free; threads = λ k s at. first_free p.threads p fuel k s free at }

-- fuel has no part in it
pub full_asks_none : (top : ℕ) (m : PlainMachine) → AsksNoHash m → AsksNoHash (refuelled top m)
full_asks_none top m h =
    record {
      program = h.program;
      threads = λ t s at.
          let u = get_unmap (λ s. with_fuel top s) m.threads t s at in
          subst (λ (z : ThreadState). asks_hash z.mode ≡ false) u.2 (h.threads t u.0 u.1);
    }

pub makes_none : (m n : PlainMachine) (t : ℕ) (e : Entry) → AsksNoHash m → take m t e ≡ Some n → is_hash e ≡ false
makes_none m n t e h takes = let k = taken m t e n takes in unasked k.s k.s.mode k.asked e (h.threads t k.s k.at) k.asks k.fit

pub takes_no_hash : (p : ProgramText) (fuel : ℕ) (xs : List (ℕ × Logged)) (m n : PlainMachine) (t : ℕ) (e : Entry) → HasNoHash p
    → after_all (new_machine p fuel) xs ≡ Some m → take m t e ≡ Some n → is_hash e ≡ false
takes_no_hash p fuel xs m n t e free leads takes = makes_none m n t e (all_stay xs (new_machine p fuel) m (first_asks_none p fuel free) leads) takes
