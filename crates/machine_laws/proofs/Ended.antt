-- A thread that logged an ending has ended so.
use Rattle.std.proofs.Common.{◌≡◌, ◌≢◌, ℕ, zero, suc, ◌+◌, ◌-◌, ◌==◌, Bool, true, false, not, List, [], ◌∷◌, length, slice_get, slice_index_or}
use Rattle.std.proofs.Common.{Option, Some, None, option_and_then, is_some, is_none, IsSome, refl, sym, ap, ◌∙◌, subst, inl, inr, arith}
use Rattle.std.proofs.lemmas.Bool.{cases_eq, and_from, and_parts, false≢true, eqb-true}
use Rattle.std.proofs.lemmas.List.{length-map, length-set}
use Rattle.std.proofs.lemmas.Option.{same_Some, none-some}
use Rattle.std.proofs.Math.Nat.{zero-add}
use Rattle.std.specs.List.{list_all}
use Rattle.plain_monitor.specs.declared.entry.Ending.{Ending}
use Rattle.plain_monitor.specs.declared.entry.Ending.TheVariants as ending
use Rattle.plain_monitor.specs.declared.entry.Entry.{Entry}
use Rattle.plain_monitor.specs.declared.entry.Entry.TheVariants.{Exit, Resume, Trap, Spent, Done}
use Rattle.plain_monitor.specs.declared.entry.Fault.{Fault}
use Rattle.plain_monitor.specs.declared.entry.Fault.TheVariants.{IllegalMonitorState, Unguarded, NotRef, NotInt}
use Rattle.plain_monitor.specs.declared.entry.Fault.TheVariants.{Range, Overflow, TooDeep, TooManyDumps, TooMany}
use Rattle.plain_monitor.specs.declared.entry.Logged.{Logged}
use Rattle.plain_monitor.specs.Order.{order, of_thread}
use Rattle.plain_monitor.specs.History.{log_of}
use Rattle.plain_monitor.proofs.Threads.{thread_kept}
use Rattle.plain_monitor.proofs.Lists.{get_set_same, get_set_other}
use Rattle.plain_history.proofs.Passing.{first_run}
use Rattle.object_program.specs.Program.{ProgramText}
use Rattle.plain_machine.specs.declared.monitor_call.NextEntry.{NextEntry}
use Rattle.plain_machine.specs.declared.monitor_call.NextEntry.TheVariants.{Calls, Resumes, Leaves, Ends}
use Rattle.plain_machine.specs.declared.monitor_call.MonitorCall.{MonitorCall}
use Rattle.plain_machine.specs.declared.monitor_call.MonitorCall.TheVariants as call
use Rattle.plain_machine.specs.declared.monitor_call.Mode.{Mode}
use Rattle.plain_machine.specs.declared.monitor_call.Mode.TheVariants.{Ended}
use Rattle.plain_machine.specs.Thread.{ThreadState}
use Rattle.plain_machine.specs.Asking.{ask_in, fault_number, is_ending, is_call, is_resume, is_exit, fits, after_entry}
use Rattle.plain_machine.specs.Legal.{IsLegal, after_all, machine_after}
use Rattle.plain_machine.specs.Machine.{PlainMachine, new_machine, code_of, take, ending_in, ending_of, is_live, is_stuck}
use Rattle.machine_laws.proofs.ReachedAsked.{IsTaken, taken}
use Rattle.machine_laws.proofs.ReachedOver.{ended_is_not_stuck}
use Rattle.machine_laws.specs.LogEnds.{ending_said, last_said, HaveEnded}

-- a fault by its number
abbrev fault_with : ℕ → Fault
fault_with n = slice_index_or (IllegalMonitorState ∷ Unguarded ∷ NotRef ∷ NotInt ∷ Range ∷ Overflow ∷ TooDeep ∷ TooManyDumps ∷ []) n TooMany

its_fault : (f : Fault) → fault_with (fault_number f) ≡ f
its_fault IllegalMonitorState = refl
its_fault _ = refl

same_fault : (f g : Fault) → (fault_number f == fault_number g) ≡ true → f ≡ g
same_fault f g h = sym (its_fault f) ∙ ap fault_with (eqb-true (fault_number f) (fault_number g) h) ∙ its_fault g

-- an entry that says an ending fits the asked ending alone, and this is the one that it says
ending_fits : (g e : Ending) (x : Entry) → is_ending g x ≡ true → ending_said x ≡ Some e → g ≡ e
ending_fits (ending.Trap f i) e (Trap fault index) h s =
    let p = and_parts (fault_number f == fault_number fault) (i == index) h in
    ap (λ (k : Fault). ending.Trap k i) (same_fault f fault p.0) ∙ ap (λ (k : ℕ). ending.Trap fault k) (eqb-true i index p.1) ∙ same_Some _ e s
ending_fits ending.Spent e Spent h s = same_Some _ e s
ending_fits ending.Done e Done h s = same_Some _ e s
ending_fits g e x h s = absurd (cc h)

-- no call is an end
no_trap : (c : MonitorCall) (fault : Fault) (index : ℕ) → is_call c (Trap fault index) ≡ false
no_trap (call.Enter o) fault index = refl
no_trap _ fault index = refl

no_spent : (c : MonitorCall) → is_call c Spent ≡ false
no_spent (call.Enter o) = refl
no_spent _ = refl

no_done : (c : MonitorCall) → is_call c Done ≡ false
no_done (call.Enter o) = refl
no_done _ = refl

no_call_ends : (c : MonitorCall) (x : Entry) (e : Ending) → is_call c x ≡ true → ending_said x ≡ Some e → ⊥
no_call_ends c (Trap fault index) e h s = false≢true (sym (no_trap c fault index) ∙ h)
no_call_ends c Spent e h s = false≢true (sym (no_spent c) ∙ h)
no_call_ends c Done e h s = false≢true (sym (no_done c) ∙ h)
no_call_ends c x e h s = none-some e s

no_resume_ends : (o : ℕ) (x : Entry) (e : Ending) → is_resume o x ≡ true → ending_said x ≡ Some e → ⊥
no_resume_ends o (Resume object) e h s = none-some e s
no_resume_ends o x e h s = false≢true h

no_exit_ends : (o : ℕ) (x : Entry) (e : Ending) → is_exit o x ≡ true → ending_said x ≡ Some e → ⊥
no_exit_ends o (Exit object) e h s = none-some e s
no_exit_ends o x e h s = false≢true h

-- the mode after an entry that says an ending
ended_after_entry : (m : PlainMachine) (t : ℕ) (s : ThreadState) (a : NextEntry) (x : Entry) (e : Ending) → fits a x ≡ true → ending_said x ≡ Some e
    → ending_in (after_entry m.program (code_of m.program t) s a x).mode ≡ Some e
ended_after_entry m t s (Calls c) x e fit said = absurd (no_call_ends c x e fit said)
ended_after_entry m t s (Resumes o) x e fit said = absurd (no_resume_ends o x e fit said)
ended_after_entry m t s (Leaves o) x e fit said = absurd (no_exit_ends o x e fit said)
ended_after_entry m t s (Ends g) x e fit said = ap Some (ending_fits g e x fit said)

-- a thread that has ended asks for nothing
ended_asks : (s : ThreadState) (mode : Mode) (e : Ending) (a : NextEntry) → ending_in mode ≡ Some e → ask_in s mode ≢ Some a
ended_asks s (Ended g) e a h k = absurd (none-some a k)
ended_asks s _ e a h k = absurd (none-some e h)

ending_read : (m : PlainMachine) (t : ℕ) (s : ThreadState) → slice_get m.threads t ≡ Some s → ending_of m t ≡ ending_in s.mode
ending_read m t s at = ap (λ (o : Option ThreadState). option_and_then (λ x. ending_in x.mode) o) at

-- what an entry of the thread itself leaves
next_thread : (m n : PlainMachine) (t : ℕ) (x : Entry) → (k : IsTaken m t x n)
    → slice_get n.threads t ≡ Some (after_entry m.program (code_of m.program t) k.s k.asked x)
next_thread m n t x k =
    ap (λ (q : PlainMachine). slice_get q.threads t) (sym k.is) ∙ get_set_same m.threads t k.s (after_entry m.program (code_of m.program t) k.s k.asked x) k.at

-- a thread has ended as its entry says
ends_so : (m n : PlainMachine) (t : ℕ) (x : Entry) (e : Ending) → take m t x ≡ Some n → ending_said x ≡ Some e → ending_of n t ≡ Some e
ends_so m n t x e h said =
    let k = taken m t x n h in
    ending_read n t _ (next_thread m n t x k) ∙ ended_after_entry m t k.s k.asked x e k.fit said

-- a thread that has ended stays so
stays_ended : (m n : PlainMachine) (t u : ℕ) (x : Entry) (e : Ending) → take m u x ≡ Some n → ending_of m t ≡ Some e → ending_of n t ≡ Some e
stays_ended m n t u x e h ended = elim (cases_eq u t) [
  | inl same ↦ let k = taken m u x n h in
      let is : ending_in k.s.mode ≡ Some e = sym (ending_read m u k.s k.at) ∙ ap (ending_of m) same ∙ ended in
      absurd (ended_asks k.s k.s.mode e k.asked is k.asks)
  | inr other ↦ let k = taken m u x n h in
      let kept : slice_get n.threads t ≡ slice_get m.threads t = ap (λ (q : PlainMachine). slice_get q.threads t) (sym k.is)
      ∙ get_set_other m.threads u t (after_entry m.program (code_of m.program u) k.s k.asked x) other in
      ap (λ (o : Option ThreadState). option_and_then (λ y. ending_in y.mode) o) kept ∙ ended
]

-- the first of some entries, and the machine after it
pub record IsFirstTaken (m : PlainMachine) (x : ℕ × Logged) (xs : List (ℕ × Logged)) (n : PlainMachine) : Type 0 where
  pub mid : PlainMachine
  pub first : take m x.0 x.1.entry ≡ Some mid
  pub rest : after_all mid xs ≡ Some n

pub first_taken : (m : PlainMachine) (x : ℕ × Logged) (xs : List (ℕ × Logged)) (n : PlainMachine) → after_all m (x ∷ xs) ≡ Some n → IsFirstTaken m x xs n
first_taken m x xs n h =
    let f = first_run take (take m x.0 x.1.entry) xs n h in
    record { mid = f.0; first = f.1; rest = f.2 }

all_stay_ended : (m n : PlainMachine) (t : ℕ) (e : Ending) (xs : List (ℕ × Logged)) → after_all m xs ≡ Some n → ending_of m t ≡ Some e → ending_of n t ≡ Some e
all_stay_ended m n t e [] h ended = ap (λ (q : PlainMachine). ending_of q t) (sym (same_Some m n h)) ∙ ended
all_stay_ended m n t e (x ∷ xs) h ended =
    let f = first_taken m x xs n h in
    all_stay_ended f.mid n t e xs f.rest (stays_ended m f.mid t x.0 x.1.entry e f.first ended)

-- a thread has ended as an entry of its own says
pub ended_after : (m n : PlainMachine) (t k : ℕ) (l : Logged) (e : Ending) (xs : List (ℕ × Logged)) → after_all m xs ≡ Some n
    → slice_get (of_thread t xs) k ≡ Some l → ending_said l.entry ≡ Some e → ending_of n t ≡ Some e
ended_after m n t k l e [] h at said = absurd (none-some l at)
ended_after m n t k l e (x ∷ xs) h at said =
    let f = first_taken m x xs n h in
    by_thread (x.0 == t) k refl f (λ j rest. ended_after f.mid n t j l e xs f.rest rest said) at
  where
    by_thread : (b : Bool) (k : ℕ) → (x.0 == t) ≡ b → (f : IsFirstTaken m x xs n) → ((j : ℕ) → slice_get (of_thread t xs) j ≡ Some l → ending_of n t ≡ Some e)
        → slice_get (of_thread t (x ∷ xs)) k ≡ Some l → ending_of n t ≡ Some e
    by_thread true zero own f ih at =
        let is : x.1 ≡ l = same_Some _ _ (rw own at at) in
        let same : x.0 ≡ t = eqb-true x.0 t own in
        let ended : ending_of f.mid x.0 ≡ Some e = ends_so m f.mid x.0 x.1.entry e f.first (ap (λ (y : Logged). ending_said y.entry) is ∙ said) in
        all_stay_ended f.mid n t e xs f.rest (ap (ending_of f.mid) (sym same) ∙ ended)
    by_thread true (suc j) own f ih at = ih j (rw own at at)
    by_thread false k own f ih at = ih k (rw own at at)

pub ended_each : (p : ProgramText) (fuel : ℕ) (logs : List (List Logged)) (m : PlainMachine) (t k : ℕ) (l : Logged) (e : Ending) → IsLegal p fuel logs
    → machine_after p fuel logs ≡ Some m
    → slice_get (log_of logs t) k ≡ Some l → ending_said l.entry ≡ Some e → ending_of m t ≡ Some e
ended_each p fuel logs m t k l e legal after at said =
    ended_after (new_machine p fuel) m t k l e (order logs) after (ap (λ (log : List Logged). slice_get log k) (thread_kept logs t legal.rises) ∙ at) said

-- entries keep the number of threads, and the program
pub record IsSameShape (m n : PlainMachine) : Type 0 where
  pub threads : length n.threads ≡ length m.threads
  pub program : n.program ≡ m.program

pub same_shape : (m n : PlainMachine) (xs : List (ℕ × Logged)) → after_all m xs ≡ Some n → IsSameShape m n
same_shape m n [] h = let is = same_Some m n h in
    record { threads = ap (λ (q : PlainMachine). length q.threads) (sym is); program = ap (λ (q : PlainMachine). q.program) (sym is) }
same_shape m n (x ∷ xs) h =
    let f = first_taken m x xs n h in
    let k = taken m x.0 x.1.entry f.mid f.first in
    let r = same_shape f.mid n xs f.rest in
    record {
      threads = r.threads ∙ ap (λ (q : PlainMachine). length q.threads) (sym k.is)
          ∙ length-set m.threads x.0 (after_entry m.program (code_of m.program x.0) k.s k.asked x.1.entry);
      program = r.program ∙ ap (λ (q : PlainMachine). q.program) (sym k.is);
    }

-- the thread that is at a place has ended as its log says
abbrev pub EndedAt : List ThreadState → List (List Logged) → Type 0
EndedAt [] [] = Unit {0}
EndedAt [] (log ∷ logs) = ⊥
EndedAt (s ∷ ss) [] = ⊥
EndedAt (s ∷ ss) (log ∷ logs) = (ending_in s.mode ≡ last_said log) × IsSome (last_said log) × EndedAt ss logs

-- the entry that says a log's ending
record IsSaid (log : List Logged) (e : Ending) : Type 0 where
  pub k : ℕ
  pub l : Logged
  pub at : slice_get log k ≡ Some l
  pub said : ending_said l.entry ≡ Some e

said_by : (log : List Logged) (e : Ending) → last_said log ≡ Some e → IsSaid log e
said_by log e h = by_entry (slice_get log (length log - 1)) refl h
  where
    by_entry : (r : Option Logged) → slice_get log (length log - 1) ≡ r → option_and_then (λ (l : Logged). ending_said l.entry) r ≡ Some e → IsSaid log e
    by_entry None at g = absurd (none-some e g)
    by_entry (Some l) at g = record { k = length log - 1; l = l; at = at; said = g }

-- where each thread has ended as its log says, by the places from k on
ended_from : (m : PlainMachine) (k : ℕ) (ss : List ThreadState) (logs : List (List Logged)) → length ss ≡ length logs
    → ((j : ℕ) (s : ThreadState) → slice_get ss j ≡ Some s → ending_of m (k + j) ≡ ending_in s.mode)
    → ((j : ℕ) (e : Ending) → last_said (log_of logs j) ≡ Some e → ending_of m (k + j) ≡ Some e)
    → HaveEnded logs → EndedAt ss logs
ended_from m k [] [] same read said ended = tt
ended_from m k [] (log ∷ logs) same read said ended = absurd (omega (arith, same))
ended_from m k (s ∷ ss) [] same read said ended = absurd (omega (arith, same))
ended_from m k (s ∷ ss) (log ∷ logs) same read said ended = (
  by_said (last_said log) refl ended.0,
  ended.0,
  ended_from m (k + 1) ss logs (omega (arith, same))
      (λ j x at. subst (λ (i : ℕ). ending_of m i ≡ ending_in x.mode) (omega arith) (read (suc j) x at))
      (λ j e h. subst (λ (i : ℕ). ending_of m i ≡ Some e) (omega arith) (said (suc j) e h))
      ended.1,
)
  where
    by_said : (r : Option Ending) → last_said log ≡ r → IsSome (last_said log) → ending_in s.mode ≡ last_said log
    by_said None h some = absurd (false≢true (ap is_some (sym h) ∙ some))
    by_said (Some e) h some = sym (read zero s refl) ∙ said zero e h ∙ sym h

pub ended_at : (p : ProgramText) (fuel : ℕ) (logs : List (List Logged)) (m : PlainMachine) → IsLegal p fuel logs → machine_after p fuel logs ≡ Some m
    → length logs ≡ length p.threads → HaveEnded logs → EndedAt m.threads logs
ended_at p fuel logs m legal after same ended =
    let shape = same_shape (new_machine p fuel) m (order logs) after in
    ended_from m 0 m.threads logs (shape.threads ∙ length-map p.threads _ ∙ sym same)
    (λ j s at. ap (ending_of m) (zero-add j) ∙ ending_read m j s at)
    (λ j e h. let b = said_by (log_of logs j) e h in ap (ending_of m) (zero-add j) ∙ ended_each p fuel logs m j b.k b.l e legal after b.at b.said)
    ended

all_over : (ss : List ThreadState) (logs : List (List Logged)) → EndedAt ss logs → list_all (λ s. not (is_live s)) ss ≡ true
all_over [] [] h = refl
all_over [] (log ∷ logs) h = absurd h
all_over (s ∷ ss) [] h = absurd h
all_over (s ∷ ss) (log ∷ logs) h = and_from _ _ (over (ending_in s.mode) (last_said log) h.0 h.1) (all_over ss logs h.2)
  where
    over : (r q : Option Ending) → r ≡ q → IsSome q → not (is_none r) ≡ true
    over None None e some = absurd (false≢true some)
    over None (Some g) e some = absurd (none-some g e)
    over (Some g) q e some = refl

pub all_ended : (p : ProgramText) (fuel : ℕ) (logs : List (List Logged)) (m : PlainMachine) → IsLegal p fuel logs → machine_after p fuel logs ≡ Some m
    → length logs ≡ length p.threads → HaveEnded logs
    → list_all (λ s. not (is_live s)) m.threads ≡ true
all_ended p fuel logs m legal after same ended = all_over m.threads logs (ended_at p fuel logs m legal after same ended)

pub never_stuck : (p : ProgramText) (fuel : ℕ) (logs : List (List Logged)) (m : PlainMachine) → IsLegal p fuel logs → machine_after p fuel logs ≡ Some m
    → length logs ≡ length p.threads → HaveEnded logs
    → is_stuck m ≡ false
never_stuck p fuel logs m legal after same ended = ended_is_not_stuck m (all_ended p fuel logs m legal after same ended)
