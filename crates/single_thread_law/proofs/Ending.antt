-- A machine that is over takes nothing more.
use Rattle.std.proofs.Common.{◌≡◌, inl, inr, ℕ, ◌+◌, ◌==◌, ◌&&◌, ◌||◌, cond, Bool, true, false, List, [], ◌∷◌, length}
use Rattle.std.proofs.Common.{slice_get, Option, Some, None, is_none, option_and_then, refl, sym, ap, ◌∙◌, subst, arith}
use Rattle.std.proofs.lemmas.Bool.{and_parts, cases_eq, false≢true}
use Rattle.std.proofs.lemmas.Option.{cond_some, same_Some, none-some, get_or_from_slice_get}
use Rattle.plain_monitor.specs.declared.entry.Entry.{Entry}
use Rattle.plain_monitor.specs.declared.entry.Entry.TheVariants as entry
use Rattle.plain_monitor.specs.Monitor.{PlainMonitor, only_if, is_thread, count_of, is_listed, is_outside, enter, resumed, resume}
use Rattle.plain_monitor.specs.Objects.{PlainObject, new_object, take_entry}
use Rattle.plain_monitor.specs.Listed.{times_in}
use Rattle.plain_monitor.specs.Made.{made_by, made_number}
use Rattle.object_program.specs.Program.{numbering_of}
use Rattle.plain_history.specs.Sound.{IsSound}
use Rattle.plain_history.proofs.Joined.{first_some}
use Rattle.plain_history.proofs.SoundHistories.{AllSound, sound_at}
use Rattle.plain_history.proofs.Swaps.{taken_at}
use Rattle.plain_machine.specs.declared.monitor_call.MonitorCall.TheVariants as call
use Rattle.plain_machine.specs.declared.monitor_call.NextEntry.{NextEntry}
use Rattle.plain_machine.specs.declared.monitor_call.NextEntry.TheVariants.{Calls, Resumes}
use Rattle.plain_machine.specs.Thread.{ThreadState}
use Rattle.plain_machine.specs.Asking.{ask, fits, after_entry, thread_after}
use Rattle.plain_machine.specs.Machine.{PlainMachine, code_of, made_after_entry, take, moved, monitor_at, object_at, other_owner}
use Rattle.plain_machine.specs.Offering.{unless_owned, hash_offer, asked_offer, offered, is_next}
use Rattle.machine_laws.proofs.ReachedOver.{stuck_offers_nothing, ended_offers_nothing}
use Rattle.machine_laws.proofs.RefusedEntries.{other_number}
use Rattle.single_thread_law.specs.LoneRun.{NoneGoesOn}
use Rattle.single_thread_law.proofs.Fitting.{IsOf, of_asked, moved_monitor}

-- what a machine took: its thread asked for it, and the objects take it
pub record HasTaken (m n : PlainMachine) (t : ℕ) (e : Entry) : Type 0 where
  pub s : ThreadState
  pub at : slice_get m.threads t ≡ Some s
  pub asked : NextEntry
  pub asks : ask s ≡ Some asked
  pub fit : fits asked e ≡ true
  pub takes : take_entry m.objects t e ≡ Some n.objects
  -- an object that it makes has the thread's next number
  pub next : (o c : ℕ) → e ≡ entry.New o c → o ≡ made_number (numbering_of m.program) t (length (made_by m.made t))

both_moved : (m n : PlainMachine) (t : ℕ) (s : Option ThreadState) (made : Option (List (List ℕ))) (objects : Option (List PlainObject))
    → moved m t s made objects ≡ Some n
    → (next : ThreadState) × (s ≡ Some next) × (objects ≡ Some n.objects)
both_moved m n t None made objects h = absurd (cc h)
both_moved m n t (Some s) None objects h = absurd (cc h)
both_moved m n t (Some s) (Some made) None h = absurd (cc h)
both_moved m n t (Some s) (Some made) (Some x) h = (s, refl, ap (λ (k : PlainMachine). Some k.objects) (same_Some _ n h))

-- a taken New has the thread's next number
next_made : (m n : PlainMachine) (t o c : ℕ) → take m t (entry.New o c) ≡ Some n → o ≡ made_number (numbering_of m.program) t (length (made_by m.made t))
next_made m n t o c h = elim (cases_eq o (made_number (numbering_of m.program) t (length (made_by m.made t)))) [
  | inl same ↦ same
  | inr other ↦ absurd (none-some n (sym (other_number m t o c other) ∙ h))
]

pub has_taken : (m n : PlainMachine) (t : ℕ) (e : Entry) → take m t e ≡ Some n → HasTaken m n t e
has_taken m n t e h =
    let step : ThreadState → Option PlainMachine =
    λ s. moved m t (thread_after m.program (code_of m.program t) s e) (made_after_entry m t e) (take_entry m.objects t e) in
    let a = first_some step (slice_get m.threads t) n h in
    let b = both_moved m n t (thread_after m.program (code_of m.program t) a.0 e) (made_after_entry m t e) (take_entry m.objects t e) a.2 in
    let answer : NextEntry → ThreadState = λ asked. after_entry m.program (code_of m.program t) a.0 asked e in
    let c = first_some (λ asked. only_if (fits asked e) (answer asked)) (ask a.0) b.0 b.1 in
    record {
      s = a.0;
      at = a.1;
      asked = c.0;
      asks = c.1;
      fit = (cond_some (fits c.0 e) (answer c.0) b.0 c.2).0;
      takes = b.2;
      next = λ o d is. next_made m n t o d (ap (take m t) (sym is) ∙ h);
    }

-- MONITORS
no_owner : (owner : Option ℕ) → is_none owner ≡ true → owner ≡ None
no_owner None h = refl
no_owner (Some u) h = absurd (false≢true h)

unowned : (m : PlainMonitor) (t : ℕ) → m.owner ≡ None → other_owner m t ≡ None
unowned m t h = rw h refl

-- an enter is taken where no other thread has the monitor
entered : (m n : PlainMonitor) (t : ℕ) → enter m t ≡ Some n → other_owner m t ≡ None
entered m n t h = by_owner (is_thread m.owner t) refl h
  where
    by_owner : (b : Bool) → is_thread m.owner t ≡ b → cond b (Some (record m { count = m.count + 1 }))
        (cond (is_none m.owner && is_outside m t) (Some (record m { owner = Some t; count = 1 })) None) ≡ Some n
        → other_owner m t ≡ None
    by_owner true is g = rw is refl
    by_owner false is g =
        let test = (cond_some (is_none m.owner && is_outside m t) _ n g).0 in
        unowned m t (no_owner m.owner (and_parts (is_none m.owner) (is_outside m t) test).0)

-- a thread that has a count is listed
listed_once : (ps : List (ℕ × ℕ)) (t k : ℕ) → count_of ps t ≡ Some k → (n : ℕ) × (times_in ps t ≡ n + 1)
listed_once [] t k h = absurd (none-some k h)
listed_once (p ∷ ps) t k h = by_head (p.0 == t) h (listed_once ps t k)
  where
    by_head : (b : Bool) → cond b (Some p.1) (count_of ps t) ≡ Some k → (count_of ps t ≡ Some k → (n : ℕ) × (times_in ps t ≡ n + 1))
        → (n : ℕ) × (cond b 1 0 + times_in ps t ≡ n + 1)
    by_head true g rest = (times_in ps t, omega arith)
    by_head false g rest = let r = rest g in let is = r.1 in (r.0, omega (arith, is))

unlisted : (ps : List (ℕ × ℕ)) (t : ℕ) → times_in ps t ≡ 0 → is_listed ps t ≡ false
unlisted [] t h = refl
unlisted (p ∷ ps) t h = by_head (p.0 == t) h (unlisted ps t)
  where
    by_head : (b : Bool) → cond b 1 0 + times_in ps t ≡ 0 → (times_in ps t ≡ 0 → is_listed ps t ≡ false) → (b || is_listed ps t) ≡ false
    by_head true g rest = absurd (omega (arith, g))
    by_head false g rest = rest (omega (arith, g))

-- a thread that resumes was called, and no thread has the monitor
resumed_free : (m n : PlainMonitor) (t : ℕ) (c : Option ℕ) → IsSound m → count_of m.called t ≡ c → resumed m t c ≡ Some n
    → (is_listed m.waits t ≡ false) × (other_owner m t ≡ None)
resumed_free m n t None s c h = absurd (cc h)
resumed_free m n t (Some k) s c h =
    let once = s.once t in
    let called = listed_once m.called t k c in
    let free = (cond_some (is_none m.owner) _ n h).0 in
    (unlisted m.waits t (omega (arith, once, called.1)), unowned m t (no_owner m.owner free))

-- OFFERS
is_offered : (o : ℕ) (owner : Option ℕ) (e : Entry) → owner ≡ None → is_next (unless_owned o owner e) ≡ true
is_offered o owner e h = ap (λ x. is_next (unless_owned o x e)) h

hash_is_offered : (o : ℕ) (hash : Option ℕ) → is_next (hash_offer o hash) ≡ true
hash_is_offered o None = refl
hash_is_offered o (Some v) = refl

module _ (m n : PlainMachine) (t : ℕ) (sound : AllSound m.objects) where
  abbrev Offers : NextEntry → Type 0
  Offers a = is_next (asked_offer m t (Some a)) ≡ true

  object_is : (o : ℕ) (x : PlainObject) → slice_get m.objects o ≡ Some x → monitor_at m o ≡ x.monitor
  object_is o x at = ap (λ (z : PlainObject). z.monitor) (get_or_from_slice_get m.objects o x (new_object 0) at)

  at_enter : (o : ℕ) (e : Entry) → IsOf (Calls (call.Enter o)) e → take_entry m.objects t e ≡ Some n.objects → Offers (Calls (call.Enter o))
  at_enter o e is h =
      let r = taken_at m.objects n.objects t (entry.Enter o is.0) o (subst (λ x. take_entry m.objects t x ≡ Some n.objects) is.1 h) in
      let k = moved_monitor r.x r.y (enter r.x.monitor t) r.step in
      is_offered o (other_owner (monitor_at m o) t) _ (ap (λ (z : PlainMonitor). other_owner z t) (object_is o r.x r.was) ∙ entered r.x.monitor k.0 t k.1)

  at_resume : (o : ℕ) (e : Entry) → IsOf (Resumes o) e → take_entry m.objects t e ≡ Some n.objects → Offers (Resumes o)
  at_resume o e is h =
      let r = taken_at m.objects n.objects t (entry.Resume o) o (subst (λ x. take_entry m.objects t x ≡ Some n.objects) is h) in
      let k = moved_monitor r.x r.y (resume r.x.monitor t) r.step in
      let free = resumed_free r.x.monitor k.0 t (count_of r.x.monitor.called t) (sound_at m.objects o r.x r.was sound) refl k.1 in
      let here = object_is o r.x r.was in
      let waits : is_listed (monitor_at m o).waits t ≡ false = ap (λ (z : PlainMonitor). is_listed z.waits t) here ∙ free.0 in
      let owner : other_owner (monitor_at m o) t ≡ None = ap (λ (z : PlainMonitor). other_owner z t) here ∙ free.1 in
      rw (waits, owner) refl

  -- what is taken was offered
  at_asked : (a : NextEntry) (e : Entry) → IsOf a e → take_entry m.objects t e ≡ Some n.objects → Offers a
  at_asked (Calls (call.Enter o)) e is h = at_enter o e is h
  at_asked (Calls (call.Hash x o)) e is h = hash_is_offered o (object_at m o).hash
  at_asked (Resumes o) e is h = at_resume o e is h
  at_asked _ e is h = refl

  pub taken_is_offered : (e : Entry) → take m t e ≡ Some n → is_next (offered m t) ≡ true
  taken_is_offered e h =
      let r = has_taken m n t e h in
      let asked : offered m t ≡ asked_offer m t (Some r.asked) =
      ap (λ (s : Option ThreadState). asked_offer m t (option_and_then ask s)) r.at ∙ ap (asked_offer m t) r.asks in
      ap is_next asked ∙ at_asked r.asked e (of_asked r.asked e r.fit) r.takes

pub over_offers_nothing : (m : PlainMachine) (t : ℕ) → NoneGoesOn m → is_next (offered m t) ≡ false
over_offers_nothing m t (inl stuck) = stuck_offers_nothing m t stuck
over_offers_nothing m t (inr ended) = ended_offers_nothing m t ended

pub over_takes_nothing : (m n : PlainMachine) (t : ℕ) (e : Entry) → AllSound m.objects → NoneGoesOn m → take m t e ≡ Some n → ⊥
over_takes_nothing m n t e sound over h = false≢true (sym (over_offers_nothing m t over) ∙ taken_is_offered m n t sound e h)
