-- What is found with the fuel given back is found with enough fuel.
use Rattle.std.proofs.Common.{◌≡◌, ℕ, zero, suc, ◌+◌, ◌-◌, ◌*◌, ◌≤◌, Bool, true, false, List, [], ◌∷◌}
use Rattle.std.proofs.Common.{length, map, slice_get, slice_set, Some, refl, sym, ap, ◌∙◌, subst, arith}
use Rattle.std.proofs.lemmas.Bool.{true≢false}
use Rattle.std.proofs.lemmas.Option.{none-some, same_Some}
use Rattle.plain_monitor.specs.declared.entry.Ending.TheVariants.{Done}
use Rattle.plain_monitor.specs.declared.entry.Entry.{Entry}
use Rattle.plain_monitor.specs.declared.entry.Logged.{Logged}
use Rattle.plain_monitor.proofs.Lists.{get_set_same}
use Rattle.object_program.specs.declared.program.Code.{Code}
use Rattle.object_program.specs.declared.program.ThreadDef.{ThreadDef}
use Rattle.object_program.specs.Program.{ProgramText}
use Rattle.plain_machine.specs.declared.monitor_call.MonitorCall.{MonitorCall}
use Rattle.plain_machine.specs.declared.monitor_call.MonitorCall.TheVariants as call
use Rattle.plain_machine.specs.declared.monitor_call.Mode.{Mode}
use Rattle.plain_machine.specs.declared.monitor_call.Mode.TheVariants.{Unwinding}
use Rattle.plain_machine.specs.declared.monitor_call.NextEntry.{NextEntry}
use Rattle.plain_machine.specs.declared.monitor_call.NextEntry.TheVariants as asked
use Rattle.plain_machine.specs.Thread.{ThreadState, Step, Goes, Calls, Stops, past, step_of}
use Rattle.plain_machine.specs.Running.{instruction_at, run_on, first_state}
use Rattle.plain_machine.specs.Asking.{ask, answered, after_call, after_entry}
use Rattle.plain_machine.specs.Machine.{PlainMachine, new_machine, code_of, take}
use Rattle.plain_machine.specs.Legal.{after_all}
use Rattle.machine_laws.specs.Reached.{AtEach}
use Rattle.machine_laws.proofs.ReachedLists.{each_set}
use Rattle.machine_laws.proofs.ReachedAsked.{taken}
use Rattle.every_outcome.specs.Fuel.{with_fuel, refuelled, is_spent, HasSpent, LeadsFull}
use Rattle.every_outcome.proofs.Places.{get_unmap, map_set}
use Rattle.every_outcome.proofs.Commute.{moved_on, takes_from}
use Rattle.every_outcome.proofs.MoreFuel.{answered_with, entry_more}
use Rattle.plain_machine.proofs.Effects.{in_mode}
use Rattle.every_outcome.proofs.SameSteps.{step_same}
use Rattle.every_outcome.proofs.FullFuel.{full_twice, ask_full, unrun_state, firsts, first_full}

run_left : (n d g : ℕ) (md : Mode) (p : ProgramText) (c : List Code) (s : ThreadState) → is_spent (run_on p c n s).mode ≡ false
    → d ≤ (run_on p c (n + d) (in_mode g md s)).fuel
unfolding run_on
run_left zero d g md p c s h = absurd (true≢false h)
run_left (suc n) d g md p c s h = go (step_of p s (instruction_at c s.place)) refl (λ next k. run_left n d g md p c next k)
  where
    more : suc n + d ≡ suc (n + d)
    more = omega arith

    go : (st : Step) → step_of p s (instruction_at c s.place) ≡ st
        → ((next : ThreadState) → is_spent (run_on p c n next).mode ≡ false → d ≤ (run_on p c (n + d) (in_mode g md next)).fuel)
        → d ≤ (run_on p c (suc n + d) (in_mode g md s)).fuel
    go (Goes next) e ih = rw (more, step_same g md p s (instruction_at c s.place), e) (ih next (rw e at h))
    go (Calls k) e ih = rw (more, step_same g md p s (instruction_at c s.place), e) (omega arith)
    go (Stops x) e ih = rw (more, step_same g md p s (instruction_at c s.place), e) (omega arith)

runs_left : (g : ℕ) (p : ProgramText) (i : List Code) (s : ThreadState) (c : MonitorCall) (e : Entry) → s.fuel ≤ g → 1 ≤ s.fuel
    → is_spent (run_on p i (s.fuel - 1) (past (answered s c e))).mode ≡ false
    → g ≤ (run_on p i (g - 1) (past (answered (with_fuel g s) c e))).fuel + s.fuel
runs_left g p i s c e few some h =
    let d : ℕ = (g - 1) - (s.fuel - 1) in
    let more : g - 1 ≡ (s.fuel - 1) + d = omega (arith, few) in
    let left : d ≤ (run_on p i ((s.fuel - 1) + d) (with_fuel g (past (answered s c e)))).fuel =
    run_left (s.fuel - 1) d g (answered s c e).mode p i (past (answered s c e)) h in
    rw (answered_with g s c e, more) (omega (arith, left, few, some))

call_left : (g : ℕ) (p : ProgramText) (i : List Code) (s : ThreadState) (c : MonitorCall) (e : Entry) → s.fuel ≤ g → 1 ≤ s.fuel
    → is_spent (after_call p i s c e).mode ≡ false → g ≤ (after_call p i (with_fuel g s) c e).fuel + s.fuel
call_left g p i s (call.Wait o) e few some h = omega (arith, some)
call_left g p i s c e few some h = runs_left g p i s c e few some h

entry_left : (g : ℕ) (p : ProgramText) (i : List Code) (s : ThreadState) (a : NextEntry) (e : Entry) → s.fuel ≤ g → 1 ≤ s.fuel
    → is_spent (after_entry p i s a e).mode ≡ false → g ≤ (after_entry p i (with_fuel g s) a e).fuel + s.fuel
entry_left g p i s (asked.Calls c) e few some h = call_left g p i s c e few some h
entry_left g p i s (asked.Resumes o) e few some h =
    let d : ℕ = g - s.fuel in
    let more : g ≡ s.fuel + d = omega (arith, few) in
    let left : d ≤ (run_on p i (s.fuel + d) (with_fuel g s)).fuel = run_left s.fuel d g s.mode p i s h in
    let same : (run_on p i g (with_fuel g s)).fuel ≡ (run_on p i (s.fuel + d) (with_fuel g s)).fuel =
    ap (λ (n : ℕ). (run_on p i n (with_fuel g s)).fuel) more in
    omega (arith, left, same, few)
entry_left g p i s (asked.Leaves o) e few some h = omega arith
entry_left g p i s (asked.Ends x) e few some h = omega arith

-- each thread has at least so much fuel
abbrev pub IsAbove : ℕ → PlainMachine → Type 0
IsAbove least m = AtEach (λ (t : ℕ) (s : ThreadState). least ≤ s.fuel) m.threads

pub record StepsUp (least top : ℕ) (m b : PlainMachine) (t : ℕ) (e : Entry) : Type 0 where
  pub machine : PlainMachine
  pub takes : take m t e ≡ Some machine
  pub same : refuelled top machine ≡ refuelled top b
  pub above : IsAbove least machine

lives : (s : ThreadState) (x : Bool) → is_spent s.mode ≡ x → (is_spent s.mode ≡ true → ⊥) → is_spent s.mode ≡ false
lives s true h never = absurd (never h)
lives s false h never = h

steps_up : (least top : ℕ) (m b : PlainMachine) (t : ℕ) (e : Entry) → 1 ≤ top → IsAbove (least + top) m → take (refuelled top m) t e ≡ Some b
    → (HasSpent b → ⊥) → StepsUp least top m b t e
steps_up least top m b t e some above takes alive =
    let k = taken (refuelled top m) t e b takes in
    let w : ThreadState → ThreadState = λ s. with_fuel top s in
    let u = get_unmap w m.threads t k.s k.at in
    let i = code_of m.program t in
    let asks : ask u.0 ≡ Some k.asked = sym (ask_full top u.0) ∙ ap ask u.2 ∙ k.asks in
    let n2 = after_entry m.program i u.0 k.asked e in
    let b2 = after_entry m.program i (with_fuel top u.0) k.asked e in
    let is : moved_on (refuelled top m) t b2 k.made_then k.objects ≡ b =
    ap (λ (s : ThreadState). moved_on (refuelled top m) t (after_entry m.program i s k.asked e) k.made_then k.objects) u.2 ∙ k.is in
    let unspent : is_spent b2.mode ≡ false =
    lives b2 (is_spent b2.mode) refl
    (λ h. alive (subst HasSpent is (record { thread = t; state = b2; at = get_set_same (map w m.threads) t k.s b2 k.at; spent = h }))) in
    let rich : least + top ≤ u.0.fuel = above t u.0 u.1 in
    let ends : with_fuel top n2 ≡ with_fuel top b2 = ap w (entry_more u.0.fuel m.program i (with_fuel top u.0) k.asked e (omega (arith, rich)) unspent) in
    let left : u.0.fuel ≤ n2.fuel + top = entry_left u.0.fuel m.program i (with_fuel top u.0) k.asked e (omega (arith, rich)) some unspent in
    let n = moved_on m t n2 k.made_then k.objects in
    let one : map w (slice_set m.threads t n2) ≡ slice_set (map w m.threads) t (w n2) = map_set w m.threads t n2 in
    let two : map w (slice_set (map w m.threads) t b2) ≡ slice_set (map w m.threads) t (w b2) =
    map_set w (map w m.threads) t b2 ∙ ap (λ (xs : List ThreadState). slice_set xs t (w b2)) (full_twice top m.threads) in
    let threads : map w (slice_set m.threads t n2) ≡ map w (slice_set (map w m.threads) t b2) = one ∙ ap (slice_set (map w m.threads) t) ends ∙ sym two in
    record {
      machine = n;
      takes = takes_from m t e u.0 k.asked k.made_then k.objects u.1 asks k.fit k.makes k.takes;
      same = ap (λ (xs : List ThreadState). record m { objects = k.objects; made = k.made_then; threads = xs }) threads ∙ ap (refuelled top) is;
      above =
          each_set (λ (t : ℕ) (s : ThreadState). least ≤ s.fuel) m.threads t u.0 n2 u.1 (omega (arith, left, rich))
          (λ j z other at. let r : least + top ≤ z.fuel = above j z at in omega (arith, r));
    }

pub record IsReal (top : ℕ) (m r : PlainMachine) (xs : List (ℕ × Logged)) : Type 0 where
  pub machine : PlainMachine
  pub leads : after_all m xs ≡ Some machine
  pub same : refuelled top machine ≡ r

real : (xs : List (ℕ × Logged)) (top : ℕ) (m q r : PlainMachine) → 1 ≤ top → refuelled top m ≡ q → IsAbove (length xs * top) m → LeadsFull top q xs r
    → IsReal top m r xs
real [] top m q r some is above leads = record { machine = m; leads = refl; same = is ∙ leads }
real (x ∷ xs) top m q r some is above leads =
    let full : take (refuelled top m) x.0 x.1.entry ≡ Some leads.0 = subst (λ (z : PlainMachine). take z x.0 x.1.entry ≡ Some leads.0) (sym is) leads.1 in
    let count : length (x ∷ xs) * top ≡ length xs * top + top = omega arith in
    let high : IsAbove (length xs * top + top) m = λ t s at. subst (λ (n : ℕ). n ≤ s.fuel) count (above t s at) in
    let u = steps_up (length xs * top) top m leads.0 x.0 x.1.entry some high full leads.2 in
    let rest = real xs top u.machine (refuelled top leads.0) r some u.same u.above leads.3 in
    record { machine = rest.machine; leads = rw u.takes rest.leads; same = rest.same }

alive_first : (p : ProgramText) (top : ℕ) (ts : List ThreadDef)
    → ((t : ℕ) (s : ThreadState) → slice_get (firsts p top ts) t ≡ Some s → is_spent s.mode ≡ false) → (extra : ℕ)
    → (map (λ s. with_fuel top s) (firsts p (top + extra) ts) ≡ map (λ s. with_fuel top s) (firsts p top ts))
    × AtEach (λ (t : ℕ) (s : ThreadState). extra ≤ s.fuel) (firsts p (top + extra) ts)
alive_first p top [] alive extra = (refl, λ t s at. absurd (none-some s at))
alive_first p top (d ∷ ts) alive extra =
    let rest = alive_first p top ts (λ t s at. alive (suc t) s at) extra in
    let h : is_spent (first_state p d top).mode ≡ false = alive zero (first_state p d top) refl in
    let same : with_fuel top (first_state p d (top + extra)) ≡ with_fuel top (first_state p d top) =
    ap (λ (s : ThreadState). with_fuel top s) (first_full p d top (top + extra) (omega arith) h) in
    let left : extra ≤ (first_state p d (top + extra)).fuel = run_left top extra (top + extra) (Unwinding Done) p d.code (unrun_state p d top) h in (
      ap (λ (s : ThreadState). s ∷ map (λ s. with_fuel top s) (firsts p (top + extra) ts)) same
          ∙ ap (λ (xs : List ThreadState). with_fuel top (first_state p d top) ∷ xs) rest.0,
      both extra (first_state p d (top + extra)) (firsts p (top + extra) ts) left rest.1,
    )
  where
    both : (extra : ℕ) (x : ThreadState) (xs : List ThreadState) → extra ≤ x.fuel → AtEach (λ (t : ℕ) (s : ThreadState). extra ≤ s.fuel) xs
        → AtEach (λ (t : ℕ) (s : ThreadState). extra ≤ s.fuel) (x ∷ xs)
    both extra x xs left rest zero s at = subst (λ (z : ThreadState). extra ≤ z.fuel) (same_Some x s at) left
    both extra x xs left rest (suc t) s at = rest t s at

pub found_is_real : (p : ProgramText) (top : ℕ) (xs : List (ℕ × Logged)) (r : PlainMachine) → 1 ≤ top → (HasSpent (new_machine p top) → ⊥)
    → LeadsFull top (refuelled top (new_machine p top)) xs r → IsReal top (new_machine p (top + length xs * top)) r xs
found_is_real p top xs r some alive leads =
    let a =
    alive_first p top p.threads (λ t s at. lives s (is_spent s.mode) refl (λ h. alive (record { thread = t; state = s; at = at; spent = h })))
    (length xs * top) in
    real xs top (new_machine p (top + length xs * top)) (refuelled top (new_machine p top)) r some
    (ap (λ (ss : List ThreadState). record (new_machine p top) { threads = ss }) a.0) a.1 leads
