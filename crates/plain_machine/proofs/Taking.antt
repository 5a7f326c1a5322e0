-- What a machine takes, by what its thread asks and what its objects take.
use Rattle.std.proofs.Common.{◌≡◌, ℕ, ◌<◌, true, false, is_some, List, length, set, slice_get, Option, Some}
use Rattle.std.proofs.Common.{None, option_map, option_and_then, get_or, refl, sym, ap, ◌∙◌, subst}
use Rattle.std.proofs.lemmas.List.{get_or_read, set-get_or}
use Rattle.std.proofs.lemmas.Bool.{false≢true}
use Rattle.std.proofs.lemmas.Option.{slice_get-get_or}
use Rattle.plain_monitor.specs.declared.entry.Entry.{Entry}
use Rattle.plain_monitor.specs.Objects.{PlainObject, take_at, take_entry}
use Rattle.plain_machine.specs.declared.monitor_call.NextEntry.{NextEntry}
use Rattle.plain_machine.specs.Thread.{ThreadState}
use Rattle.plain_machine.specs.Asking.{ask, fits, after_entry, thread_after}
use Rattle.plain_machine.specs.Machine.{PlainMachine, code_of, made_after_entry, take, moved}
use Rattle.plain_machine.specs.Sound.{thread_in, unrun}

-- objects of which one takes the entry and stays as it is
pub taken_same : (objects : List PlainObject) (o t : ℕ) (e : Entry) (x : PlainObject) → o < length objects → x ≡ get_or objects o x → take_at x t e ≡ Some x
    → option_and_then (λ y. option_map (λ z. set objects o z) (take_at y t e)) (slice_get objects o) ≡ Some objects
taken_same objects o t e x lt at h =
    let r : slice_get objects o ≡ Some x = slice_get-get_or objects o x lt ∙ ap Some (sym at) in
    rw (r, h) (ap (λ z. Some (set objects o z)) at ∙ ap Some (set-get_or objects o x))

take_thread : (m : PlainMachine) (t : ℕ) (e : Entry) (r : Option PlainMachine) → t < length m.threads
    → moved m t (thread_after m.program (code_of m.program t) (thread_in m.threads t) e) (made_after_entry m t e) (take_entry m.objects t e) ≡ r
    → take m t e ≡ r
take_thread m t e r lt h = rw (slice_get-get_or m.threads t (unrun 0 0 0) lt) h

taken_at : (m : PlainMachine) (t : ℕ) (e : Entry) (a : NextEntry) (made : List (List ℕ)) (after : List PlainObject) → t < length m.threads
    → ask (thread_in m.threads t) ≡ Some a → fits a e ≡ true → made_after_entry m t e ≡ Some made → take_entry m.objects t e ≡ Some after
    → take m t e
    ≡ Some (record m {
      objects = after;
      made = made;
      threads = set m.threads t (after_entry m.program (code_of m.program t) (thread_in m.threads t) a e);
    })
taken_at m t e a made after lt q f d h = take_thread m t e _ lt (rw (q, f, d, h) refl)

-- the machine after an entry that thread t, here s and u, asked for
pub taken : (m : PlainMachine) (t : ℕ) (e : Entry) (a : NextEntry) (made : List (List ℕ)) (after : List PlainObject) (s u next : ThreadState)
    → t < length m.threads → s ≡ get_or m.threads t s → u ≡ get_or m.threads t u
    → ask s ≡ Some a → fits a e ≡ true → made_after_entry m t e ≡ Some made → take_entry m.objects t e ≡ Some after
    → next ≡ after_entry m.program (code_of m.program t) u a e
    → take m t e ≡ Some (record m { objects = after; made = made; threads = set m.threads t next })
taken m t e a made after s u next lt at there q f d h n =
    let q2 : ask (thread_in m.threads t) ≡ Some a =
    subst (λ z. ask z ≡ Some a) (get_or_read m.threads t s lt at (unrun 0 0 0)) q in
    let n2 : next ≡ after_entry m.program (code_of m.program t) (thread_in m.threads t) a e =
    subst (λ z. next ≡ after_entry m.program (code_of m.program t) z a e) (get_or_read m.threads t u lt there (unrun 0 0 0)) n in
    rw n2 (taken_at m t e a made after lt q2 f d h)

-- what isn't made leaves no entry taken
pub nothing_taken : (m : PlainMachine) (t : ℕ) (e : Entry) → made_after_entry m t e ≡ None → take m t e ≡ None
nothing_taken m t e d = by_thread (slice_get m.threads t)
  where
    by_after : (r : Option ThreadState) → moved m t r (made_after_entry m t e) (take_entry m.objects t e) ≡ None
    by_after None = refl
    by_after (Some s) = rw d refl

    by_thread : (r : Option ThreadState) → option_and_then (λ s. moved m t
        (thread_after m.program (code_of m.program t) s e) (made_after_entry m t e) (take_entry m.objects t e)) r ≡ None
    by_thread None = refl
    by_thread (Some s) = by_after (thread_after m.program (code_of m.program t) s e)

pub none_where : {A : Type 0} (r : Option A) → is_some r ≡ false → r ≡ None
none_where None h = refl
none_where (Some x) h = absurd (false≢true (sym h))
