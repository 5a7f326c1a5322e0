-- Why a live thread of a stuck machine can't go on: it waits and nobody has notified it, or it waits for another live thread.
use Rattle.std.proofs.Common.{◌≡◌, ◌⊎◌, inl, inr, ℕ, ◌<◌, ◌≤◌, ◌==◌, if◌then◌else◌, Bool, true, false, List, [], ◌∷◌, length, sum, slice_get}
use Rattle.std.proofs.Common.{Option, Some, None, option_and_then, is_none, refl, sym, ap, ◌∙◌, subst, arith, eq-eqb, true≢false}
use Rattle.std.proofs.lemmas.Bool.{cases_lt, false≢true}
use Rattle.std.proofs.lemmas.List.{get_or_past}
use Rattle.std.proofs.lemmas.List.Sums.{get_or-le-sum_by}
use Rattle.std.proofs.lemmas.Option.{none-some, slice_get_within}
use Rattle.plain_monitor.specs.declared.entry.Entry.{Entry}
use Rattle.plain_monitor.specs.declared.entry.Entry.TheVariants.{Enter, Resume}
use Rattle.plain_monitor.specs.declared.entry.Path.TheVariants.{StackFirst}
use Rattle.plain_monitor.specs.Monitor.{PlainMonitor, is_listed}
use Rattle.plain_monitor.specs.Listed.{times_in}
use Rattle.plain_monitor.specs.Objects.{PlainObject, new_object}
use Rattle.object_program.specs.Program.{ProgramText}
use Rattle.plain_machine.specs.declared.monitor_call.MonitorCall.TheVariants as call
use Rattle.plain_machine.specs.declared.monitor_call.Mode.{Mode}
use Rattle.plain_machine.specs.declared.monitor_call.Mode.TheVariants.{Calling, Waiting, Unwinding, Ended}
use Rattle.plain_machine.specs.declared.monitor_call.NextEntry.{NextEntry}
use Rattle.plain_machine.specs.declared.monitor_call.NextEntry.TheVariants.{Calls, Resumes}
use Rattle.plain_machine.specs.declared.offer.Offer.{Offer}
use Rattle.plain_machine.specs.declared.offer.Offer.TheVariants as offer
use Rattle.plain_machine.specs.Thread.{ThreadState}
use Rattle.plain_machine.specs.Asking.{ask, ask_in, unwinds, held_from}
use Rattle.plain_machine.specs.Machine.{PlainMachine, monitor_at, object_at, other_owner, ending_in, is_live, is_stuck}
use Rattle.plain_machine.specs.Offering.{offered, asked_offer, unless_owned, hash_offer, is_next}
use Rattle.plain_machine.specs.Values.{IsObject}
use Rattle.plain_machine.proofs.Tallies.{unlisted}
use Rattle.machine_laws.specs.ReachedMonitor.{for_owner, IsOwnerOf, IsMonitorOf}
use Rattle.machine_laws.specs.ReachedThread.{IsModeOf}
use Rattle.machine_laws.specs.Reached.{HasMonitor, IsReached}
use Rattle.machine_laws.proofs.ReachedMonitor.{free_is}
use Rattle.machine_laws.proofs.ReachedFrame.{IsMaker}
use Rattle.machine_laws.proofs.ReachedLists.{at_within, each_or}
use Rattle.machine_laws.proofs.ReachedKinds.{thread_of}
use Rattle.machine_laws.proofs.ReachedStanding.{beside}
use Rattle.machine_laws.proofs.ReachedRange.{owner_in_range}
use Rattle.machine_laws.proofs.ReachedOver.{stuck_offers_nothing}
use Rattle.wait_report.specs.Waiting.{WaitsFor, WaitsUnnotified}
use Rattle.wait_report.specs.inner.Walk.{blocker}
use Rattle.wait_report.proofs.Blockers.{blocked_waits}

-- a thread of the machine that hasn't ended
pub record IsLive (m : PlainMachine) (t : ℕ) : Type 0 where
  pub state : ThreadState
  pub there : slice_get m.threads t ≡ Some state
  pub live : is_live state ≡ true

-- the monitor with a number, which is free where there is no object
reached_monitor : (m : PlainMachine) (o : ℕ) → IsReached m → IsMonitorOf (length m.threads) (monitor_at m o)
reached_monitor m o h = each_or (HasMonitor (length m.threads)) m.objects o (new_object 0) h.monitors (free_is (length m.threads))

-- the owner of an object holds it
holds_there : (m : PlainMachine) (o w : ℕ) (s : ThreadState) → IsMaker m w s → (monitor_at m o).owner ≡ Some w → o < length m.objects → 1 ≤ sum s.holds
holds_there m o w s maker owns within =
    let object : IsObject m.program o = omega (arith, maker.reached.object_count, within) in
    let stands = (beside m w o s maker object).stands in
    let own : for_owner (monitor_at m o).owner (monitor_at m o).count w ≡ (monitor_at m o).count =
    ap (λ (x : Option ℕ). for_owner x (monitor_at m o).count w) owns ∙ rw (eq-eqb w w refl) refl in
    let counted : IsOwnerOf (length m.threads) (monitor_at m o).count (Some w) =
    subst (λ (x : Option ℕ). IsOwnerOf (length m.threads) (monitor_at m o).count x) owns (reached_monitor m o maker.reached).owner in
    let there : o < length s.holds = omega (arith, object, (thread_of m w s maker).state.holds) in
    omega (arith, stands.holds, own, counted.1, get_or-le-sum_by (λ (x : ℕ). x) s.holds o 0 there)

owner_holds : (m : PlainMachine) (o w : ℕ) (s : ThreadState) → IsMaker m w s → (monitor_at m o).owner ≡ Some w → 1 ≤ sum s.holds
owner_holds m o w s maker owns = by_place (cases_lt o (length m.objects)) where
  by_place : (o < length m.objects) ⊎ (length m.objects ≤ o) → 1 ≤ sum s.holds
  by_place (inl within) = holds_there m o w s maker owns within
  by_place (inr past) =
      let free : (monitor_at m o).owner ≡ None = ap (λ (x : PlainObject). x.monitor.owner) (get_or_past m.objects o (new_object 0) past) in
      absurd (none-some w (sym free ∙ owns))

-- who has ended holds nothing
holder_is_live : (p : ProgramText) (s : ThreadState) (mode : Mode) → IsModeOf p s mode → 1 ≤ sum s.holds → is_none (ending_in mode) ≡ true
holder_is_live p s (Ended e) is held = absurd (omega (arith, is, held))
holder_is_live p s _ is held = refl

-- so an owner is live
owner_is_live : (m : PlainMachine) (o w : ℕ) → IsReached m → (monitor_at m o).owner ≡ Some w → IsLive m w
owner_is_live m o w h owns =
    let r = at_within m.threads w (owner_in_range m o w h owns) in
    let maker : IsMaker m w r.element = record { reached = h; at = r.at } in
    record {
      state = r.element;
      there = r.at;
      live = holder_is_live m.program r.element r.element.mode (thread_of m w r.element maker).mode (owner_holds m o w r.element maker owns);
    }

listed_times : (ps : List (ℕ × ℕ)) (t : ℕ) → is_listed ps t ≡ true → 1 ≤ times_in ps t
listed_times [] t h = absurd (false≢true h)
listed_times (p ∷ ps) t h = by_test (p.0 == t) refl (listed_times ps t) where
  by_test : (b : Bool) → (p.0 == t) ≡ b → (is_listed ps t ≡ true → 1 ≤ times_in ps t) → 1 ≤ times_in (p ∷ ps) t
  by_test true e rest = rw e (omega arith)
  by_test false e rest = let later = rest (rw e at h) in rw e (omega (arith, later))

-- who is in the wait set isn't among those who were called
not_called : (n : ℕ) (m : PlainMonitor) (t : ℕ) → IsMonitorOf n m → is_listed m.waits t ≡ true → is_listed m.called t ≡ false
not_called n m t h listed =
    let once = h.once t in
    let some = listed_times m.waits t listed in
    unlisted m.called t (omega (arith, once, some))

-- a thread in the wait set of an object
record IsListedAt (m : PlainMachine) (u : ℕ) : Type 0 where
  object : ℕ
  listed : is_listed (monitor_at m object).waits u ≡ true

-- an offer that names an object and the other thread that has it
record IsBlock (f : Offer) : Type 0 where
  block : ℕ × ℕ
  is : blocker f ≡ Some block

unless_held : (m : PlainMachine) (u o : ℕ) (owner : Option ℕ) (e : Entry)
    → is_next (unless_owned o owner e) ≡ false → IsListedAt m u ⊎ IsBlock (unless_owned o owner e)
unless_held m u o None e h = absurd (true≢false h)
unless_held m u o (Some w) e h = inr (record { block = (o, w); is = refl })

hash_goes_on : (o : ℕ) (hash : Option ℕ) → is_next (hash_offer o hash) ≡ true
hash_goes_on o None = refl
hash_goes_on o (Some v) = refl

resume_held : (m : PlainMachine) (u o : ℕ) (listed : Bool) → is_listed (monitor_at m o).waits u ≡ listed
    → is_next (if listed then offer.Waiting o else unless_owned o (other_owner (monitor_at m o) u) (Resume o)) ≡ false
    → IsListedAt m u ⊎ IsBlock (if listed then offer.Waiting o else unless_owned o (other_owner (monitor_at m o) u) (Resume o))
resume_held m u o true at h = inl (record { object = o; listed = at })
resume_held m u o false at h = unless_held m u o (other_owner (monitor_at m o) u) (Resume o) h

-- who is offered nothing is in a wait set, or blocked
asked_held : (m : PlainMachine) (u : ℕ) (a : NextEntry) → is_next (asked_offer m u (Some a)) ≡ false → IsListedAt m u ⊎ IsBlock (asked_offer m u (Some a))
asked_held m u (Calls (call.Enter o)) h = unless_held m u o (other_owner (monitor_at m o) u) (Enter o StackFirst) h
asked_held m u (Calls (call.Hash x o)) h = absurd (true≢false (sym (hash_goes_on o (object_at m o).hash) ∙ h))
asked_held m u (Resumes o) h = resume_held m u o (is_listed (monitor_at m o).waits u) refl h
asked_held m u _ h = absurd (true≢false h)

live_held : (m : PlainMachine) (u : ℕ) (s : ThreadState) (mode : Mode) → is_none (ending_in mode) ≡ true → is_next (asked_offer m u (ask_in s mode)) ≡ false
    → IsListedAt m u ⊎ IsBlock (asked_offer m u (ask_in s mode))
live_held m u s (Calling c) live h = asked_held m u (Calls c) h
live_held m u s (Waiting o) live h = asked_held m u (Resumes o) h
live_held m u s (Unwinding e) live h = asked_held m u (unwinds e (held_from 0 s.holds)) h
live_held m u s (Ended e) live h = absurd (false≢true live)

-- thread u waits for another one, which is live
pub record WaitsForLive (m : PlainMachine) (u : ℕ) : Type 0 where
  pub owner : ℕ
  pub object : ℕ
  pub waits : WaitsFor m u owner object
  pub live : IsLive m owner

-- some thread waits, and nobody has notified it
abbrev pub OneWaits : PlainMachine → Type 0
OneWaits m = (t : ℕ) × (o : ℕ) × WaitsUnnotified m t o

-- each live thread of a stuck machine is held back so
pub held_back : (m : PlainMachine) (u : ℕ) → IsReached m → is_stuck m ≡ true → IsLive m u → OneWaits m ⊎ WaitsForLive m u
held_back m u h stuck one = by_offer (live_held m u one.state one.state.mode one.live none) where
  asked : offered m u ≡ asked_offer m u (ask_in one.state one.state.mode)
  asked = ap (λ (s : Option ThreadState). asked_offer m u (option_and_then ask s)) one.there

  none : is_next (asked_offer m u (ask_in one.state one.state.mode)) ≡ false
  none = sym (ap is_next asked) ∙ stuck_offers_nothing m u stuck

  by_offer : IsListedAt m u ⊎ IsBlock (asked_offer m u (ask_in one.state one.state.mode)) → OneWaits m ⊎ WaitsForLive m u
  by_offer (inl at) =
      let waits : WaitsUnnotified m u at.object = record {
        thread = slice_get_within m.threads u one.state one.there;
        waits = at.listed;
        uncalled = not_called (length m.threads) (monitor_at m at.object) u (reached_monitor m at.object h) at.listed;
      } in
      inl (u, at.object, waits)
  by_offer (inr at) =
      let waits : WaitsFor m u at.block.1 at.block.0 = blocked_waits m u at.block (ap blocker asked ∙ at.is) in
      inr (record { owner = at.block.1; object = at.block.0; waits = waits; live = owner_is_live m at.block.0 at.block.1 h waits.owner })
