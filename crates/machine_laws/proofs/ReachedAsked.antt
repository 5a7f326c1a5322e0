-- What a thread of a reached machine asks, and what a taken entry says.
use Rattle.std.proofs.Common.{◌≡◌, ℕ, suc, ◌+◌, ◌<◌, ◌≤◌, Bool, true, false, List, [], ◌∷◌, length, sum, nat_le, if◌then◌else◌, slice_get}
use Rattle.std.proofs.Common.{slice_set, slice_index, Option, Some, None, option_map, refl, sym, ap, ◌∙◌, subst, arith, leb-true, leb-false}
use Rattle.std.proofs.lemmas.Option.{none-some, same_Some, cond_some, option_and_then_some}
use Rattle.std.proofs.lemmas.List.Sums.{sum_by-cons}
use Rattle.plain_monitor.specs.declared.entry.Ending.{Ending}
use Rattle.plain_monitor.specs.declared.entry.Entry.{Entry}
use Rattle.plain_monitor.specs.Objects.{PlainObject, take_at, take_named, take_entry}
use Rattle.object_program.specs.Program.{ProgramText}
use Rattle.plain_machine.specs.declared.monitor_call.MonitorCall.{MonitorCall}
use Rattle.plain_machine.specs.declared.monitor_call.Mode.{Mode}
use Rattle.plain_machine.specs.declared.monitor_call.Mode.TheVariants.{Calling, Waiting, Unwinding, Ended}
use Rattle.plain_machine.specs.declared.monitor_call.NextEntry.{NextEntry}
use Rattle.plain_machine.specs.declared.monitor_call.NextEntry.TheVariants.{Calls, Resumes, Leaves, Ends}
use Rattle.plain_machine.specs.Thread.{ThreadState}
use Rattle.plain_machine.specs.Asking.{ask, ask_in, unwinds, held_from, fits, after_entry, thread_after}
use Rattle.plain_machine.specs.Machine.{PlainMachine, code_of, made_after_entry, moved, take}
use Rattle.plain_machine.specs.Values.{IsObject}
use Rattle.machine_laws.specs.ReachedThread.{IsHeld, IsCallOf, IsModeOf, IsStateOf, IsThreadOf}
use Rattle.machine_laws.proofs.ReachedFrame.{moved_to}

-- a call that it stands before, which is paid for
pub record IsPaid (p : ProgramText) (s : ThreadState) (c : MonitorCall) : Type 0 where
  pub fuel : 1 ≤ s.fuel
  pub call : IsCallOf p s.holds s.dumps s.made c
  pub mode : s.mode ≡ Calling c

-- an object that it waits on
pub record IsAwaited (p : ProgramText) (s : ThreadState) (o : ℕ) : Type 0 where
  pub there : IsObject p o
  pub mode : s.mode ≡ Waiting o

-- a hold that it leaves, as it ends so
pub record IsLeft (p : ProgramText) (s : ThreadState) (o : ℕ) : Type 0 where
  pub held : IsHeld p s.holds o
  pub ending : Ending
  pub mode : s.mode ≡ Unwinding ending

-- its end, with no hold left
pub record IsLast (s : ThreadState) (e : Ending) : Type 0 where
  pub none : sum s.holds ≡ 0
  pub mode : s.mode ≡ Unwinding e

-- what holds of what a thread asks
abbrev pub IsAskedOf : ProgramText → ThreadState → NextEntry → Type 0
IsAskedOf p s (Calls c) = IsPaid p s c
IsAskedOf p s (Resumes o) = IsAwaited p s o
IsAskedOf p s (Leaves o) = IsLeft p s o
IsAskedOf p s (Ends e) = IsLast s e

-- the least object that is held, by its place
pub record IsHeldAt (k : ℕ) (holds : List ℕ) (o : ℕ) : Type 0 where
  pub place : ℕ
  pub is : o ≡ k + place
  pub within : place < length holds
  pub held : 1 ≤ slice_index holds place

held_next : (k : ℕ) (h : ℕ) (holds : List ℕ) (o : ℕ) → IsHeldAt (k + 1) holds o → IsHeldAt k (h ∷ holds) o
held_next k h holds o a = record { place = suc a.place; is = omega (arith, a.is); within = omega (arith, a.within); held = a.held }

held_here : (k h : ℕ) (holds : List ℕ) (o : ℕ) (b : Bool) → nat_le 1 h ≡ b → held_from k (h ∷ holds) ≡ Some o
    → (held_from (k + 1) holds ≡ Some o → IsHeldAt (k + 1) holds o) → IsHeldAt k (h ∷ holds) o
held_here k h holds o true b e ih = let first : k ≡ o = same_Some k o (rw b at e) in
    record { place = 0; is = omega (arith, first); within = omega arith; held = leb-true 1 h b }
held_here k h holds o false b e ih = held_next k h holds o (ih (rw b at e))

pub held_at : (k : ℕ) (holds : List ℕ) (o : ℕ) → held_from k holds ≡ Some o → IsHeldAt k holds o
held_at k [] o e = absurd (none-some o e)
held_at k (h ∷ holds) o e = held_here k h holds o (nat_le 1 h) refl e (held_at (k + 1) holds o)

none_here : (k h : ℕ) (holds : List ℕ) (b : Bool) → nat_le 1 h ≡ b → held_from k (h ∷ holds) ≡ None
    → (held_from (k + 1) holds ≡ None → sum holds ≡ 0) → sum (h ∷ holds) ≡ 0
none_here k h holds true b e ih = absurd (none-some k (sym (rw b at e)))
none_here k h holds false b e ih = omega (arith, sum_by-cons (λ (x : ℕ). x) h holds, ih (rw b at e), leb-false 1 h b)

none_held : (k : ℕ) (holds : List ℕ) → held_from k holds ≡ None → sum holds ≡ 0
none_held k [] e = refl
none_held k (h ∷ holds) e = none_here k h holds (nat_le 1 h) refl e (none_held (k + 1) holds)

-- what a thread that unwinds asks
unwound_asks : (p : ProgramText) (s : ThreadState) (e : Ending) (held : Option ℕ) (a : NextEntry) → IsStateOf p s
    → s.mode ≡ Unwinding e → held_from 0 s.holds ≡ held → ◌≡◌ {A = Option NextEntry} (Some (unwinds e held)) (Some a) → IsAskedOf p s a
unwound_asks p s e None a st mode at asks = subst (IsAskedOf p s) (same_Some _ _ asks) (record { none = none_held 0 s.holds at; mode = mode })
unwound_asks p s e (Some o) a st mode at asks =
    let h = held_at 0 s.holds o at in
    let same : o ≡ h.place = omega (arith, h.is) in
    subst (IsAskedOf p s) (same_Some _ _ asks) (record {
      held = (omega (arith, same, h.within, st.holds), subst (λ (k : ℕ). 1 ≤ slice_index s.holds k) (sym same) h.held);
      ending = e;
      mode = mode;
    })

asks_in : (p : ProgramText) (s : ThreadState) (mode : Mode) (a : NextEntry) → IsStateOf p s
    → s.mode ≡ mode → IsModeOf p s mode → ask_in s mode ≡ Some a → IsAskedOf p s a
asks_in p s (Calling c) a st at h asks = subst (IsAskedOf p s) (same_Some _ _ asks) (record { fuel = h.0; call = h.1; mode = at })
asks_in p s (Waiting o) a st at h asks = subst (IsAskedOf p s) (same_Some _ _ asks) (record { there = h; mode = at })
asks_in p s (Unwinding e) a st at h asks = unwound_asks p s e (held_from 0 s.holds) a st at refl asks
asks_in p s (Ended e) a st at h asks = absurd (none-some a asks)

pub asked_of : (p : ProgramText) (s : ThreadState) (a : NextEntry) → IsThreadOf p s → ask s ≡ Some a → IsAskedOf p s a
asked_of p s a h asks = asks_in p s s.mode a h.state refl h.mode asks

-- an entry that a machine takes: what was asked, and what came of it
pub record IsTaken (m : PlainMachine) (t : ℕ) (e : Entry) (next : PlainMachine) : Type 0 where
  pub s : ThreadState
  pub asked : NextEntry
  pub made_then : List (List ℕ)
  pub objects : List PlainObject
  pub at : slice_get m.threads t ≡ Some s
  pub asks : ask s ≡ Some asked
  pub fit : fits asked e ≡ true
  pub makes : made_after_entry m t e ≡ Some made_then
  pub takes : take_entry m.objects t e ≡ Some objects
  pub is : record (moved_to m t (after_entry m.program (code_of m.program t) s asked e) objects) { made = made_then } ≡ next

-- all parts moved
pub record IsMoved (m : PlainMachine) (t : ℕ) (state : Option ThreadState)
    (made : Option (List (List ℕ))) (parts : Option (List PlainObject)) (next : PlainMachine) : Type 0 where
  pub s : ThreadState
  pub made_then : List (List ℕ)
  pub objects : List PlainObject
  pub thread : state ≡ Some s
  pub makes : made ≡ Some made_then
  pub takes : parts ≡ Some objects
  pub is : record m { objects = objects; made = made_then; threads = slice_set m.threads t s } ≡ next

moved_parts : (m : PlainMachine) (t : ℕ) (state : Option ThreadState) (made : Option (List (List ℕ))) (parts : Option (List PlainObject)) (next : PlainMachine)
    → moved m t state made parts ≡ Some next → IsMoved m t state made parts next
moved_parts m t None made parts next e = absurd (none-some next e)
moved_parts m t (Some s) None parts next e = absurd (none-some next e)
moved_parts m t (Some s) (Some made_then) None next e = absurd (none-some next e)
moved_parts m t (Some s) (Some made_then) (Some objects) next e =
    record { s = s; made_then = made_then; objects = objects; thread = refl; makes = refl; takes = refl; is = same_Some _ _ e }

pub taken : (m : PlainMachine) (t : ℕ) (e : Entry) (next : PlainMachine) → take m t e ≡ Some next → IsTaken m t e next
taken m t e next h = option_and_then_some _ (slice_get m.threads t) next h at_state
  where
    at_state : (s : ThreadState) → slice_get m.threads t ≡ Some s → moved m t (thread_after m.program (code_of m.program t) s e)
        (made_after_entry m t e) (take_entry m.objects t e) ≡ Some next → IsTaken m t e next
    at_state s at both = option_and_then_some _ (ask s) parts.s parts.thread at_asked
      where
        parts : IsMoved m t (thread_after m.program (code_of m.program t) s e) (made_after_entry m t e) (take_entry m.objects t e) next
        parts = moved_parts m t _ _ _ next both

        at_asked : (a : NextEntry) → ask s ≡ Some a
            → (if fits a e then Some (after_entry m.program (code_of m.program t) s a e) else None) ≡ Some parts.s → IsTaken m t e next
        at_asked a asks only =
            let c = cond_some (fits a e) (after_entry m.program (code_of m.program t) s a e) parts.s only in
            record {
              s = s;
              asked = a;
              made_then = parts.made_then;
              objects = parts.objects;
              at = at;
              asks = asks;
              fit = c.0;
              makes = parts.makes;
              takes = parts.takes;
              is = ap (λ (x : ThreadState). record (moved_to m t x parts.objects) { made = parts.made_then }) c.1 ∙ parts.is;
            }

-- an entry that object o takes
pub record IsTakenAt (objects : List PlainObject) (o t : ℕ) (e : Entry) (after : List PlainObject) : Type 0 where
  pub x : PlainObject
  pub y : PlainObject
  pub there : slice_get objects o ≡ Some x
  pub takes : take_at x t e ≡ Some y
  pub is : slice_set objects o y ≡ after

pub taken_at : (objects : List PlainObject) (o t : ℕ) (e : Entry) (after : List PlainObject)
    → take_named objects t e (Some o) ≡ Some after → IsTakenAt objects o t e after
taken_at objects o t e after h = option_and_then_some _ (slice_get objects o) after h at_object
  where
    at_object : (x : PlainObject) → slice_get objects o ≡ Some x
        → option_map (λ y. slice_set objects o y) (take_at x t e) ≡ Some after → IsTakenAt objects o t e after
    at_object x there put = go (take_at x t e) refl
      where
        go : (r : Option PlainObject) → take_at x t e ≡ r → IsTakenAt objects o t e after
        go None none = absurd (none-some after (rw none at put))
        go (Some y) some = record { x = x; y = y; there = there; takes = some; is = same_Some _ _ (rw some at put) }
