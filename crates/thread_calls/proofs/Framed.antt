-- A frame of a thread, and its pass, by the thread's log.
use Rattle.std.proofs.Common.{◌≡◌, ℕ, ◌+◌, ◌<◌, ◌≤◌, ◌++◌, ◌∷◌, [], true, List, length, sum}
use Rattle.std.proofs.Common.{slice_index, Some, option_and_then, refl, sym, ap, ◌∙◌, subst, arith}
use Rattle.plain_monitor.specs.declared.entry.Entry.{Entry}
use Rattle.plain_monitor.specs.declared.entry.Logged.{Logged}
use Rattle.plain_monitor.specs.Monitor.{only_if}
use Rattle.plain_monitor.proofs.Lists.{all_push}
use Rattle.plain_history.specs.HeldByLog.{held_by, nothing_held}
use Rattle.core_world.specs.Locks.{hold_count}
use Rattle.heap_table.specs.Kept.{all_holds}
use Rattle.heap_table.specs.Resting.{Rests}
use Rattle.heap_table.specs.Seen.{HeapSeen, PassSeen}
use Rattle.own_logs.specs.HoldsByLog.{AreHolds}
use Rattle.own_logs.proofs.OwnHolds.{own_number, own_all}
use Rattle.object_program.specs.Program.{ProgramText, objects_total}
use Rattle.object_program.specs.Valid.{IsProgram}
use Rattle.plain_machine.specs.declared.monitor_call.NextEntry.{NextEntry}
use Rattle.plain_machine.specs.declared.monitor_call.Mode.{Mode}
use Rattle.plain_machine.specs.Asking.{ask, fits, after_entry, thread_after}
use Rattle.plain_machine.specs.Machine.{code_of}
use Rattle.machine_laws.specs.ReachedThread.{IsThreadOf}
use Rattle.plain_machine.specs.Thread.{ThreadState}
use Rattle.thread_frame.specs.Frames.{FrameSeen, frame_after, next_state, locals_of}
use Rattle.thread_frame.specs.Sights.{counts_from}
use Rattle.thread_frame.proofs.Moves.{moves}
use Rattle.thread_logs.specs.Followed.{FollowsCode, HaveValues, HasValue}
use Rattle.thread_logs.proofs.Logs.{next_follows, followed_thread}
use Rattle.thread_logs.proofs.Standing.{holds_told}
use Rattle.thread_calls.specs.Asked.{unfinished_of, IsAtMost}
use Rattle.thread_calls.specs.Between.{IsHeapOf, IsOn, StandsFor, state_by}
use Rattle.thread_calls.specs.inner.Made.{IsAfter}
use Rattle.thread_calls.proofs.Shapes.{as_many}
use Rattle.thread_calls.proofs.Counts.{counts_length, counts_at, are_counts, held_more, held_same, AreAfter}

-- a frame with these holds stands where this log led
pub record IsFramed (p : ProgramText) (fuel t : ℕ) (log : List Logged) (holds : List ℕ) (f : FrameSeen) : Type 0 where
  pub count : length holds ≡ objects_total p
  pub each : (o : ℕ) → o < objects_total p → slice_index holds o ≡ held_by nothing_held log o
  pub follows : FollowsCode p fuel t log (next_state p t holds f)
  pub values : HaveValues p log

-- the holds of its thread after an entry that it asks
abbrev pub holds_with : ProgramText → ℕ → List ℕ → FrameSeen → NextEntry → Entry → List ℕ
holds_with p t holds f a e = (after_entry p (code_of p t) (next_state p t holds f) a e).holds

-- a thread that asks for it takes the entry
pub takes : (p : ProgramText) (t : ℕ) (s : ThreadState) (a : NextEntry) (e : Entry) → ask s ≡ Some a → fits a e ≡ true
    → thread_after p (code_of p t) s e ≡ Some (after_entry p (code_of p t) s a e)
takes p t s a e asks fit =
    ap (option_and_then (λ asked. only_if (fits asked e) (after_entry p (code_of p t) s asked e))) asks
    ∙ ap (λ b. only_if b (after_entry p (code_of p t) s a e)) fit

module _ (p : ProgramText) (fuel t : ℕ) (log : List Logged) (holds : List ℕ) (f : FrameSeen) (valid : IsProgram p) (is : IsFramed p fuel t log holds f) where
  pub framed_thread : IsThreadOf p (next_state p t holds f)
  framed_thread = followed_thread p fuel t log (next_state p t holds f) valid is.values is.follows

  module _ (m : Mode) (a : NextEntry) (l : Logged) (mode : f.mode ≡ Some m) (asks : ask (next_state p t holds f) ≡ Some a)
      (fit : fits a l.entry ≡ true) (value : HasValue (objects_total p) l.entry) where
    pub framed_next : IsFramed p fuel t (log ++ l ∷ []) (holds_with p t holds f a l.entry) (frame_after f a l.entry)
    framed_next =
        let s = next_state p t holds f in
        let next = after_entry p (code_of p t) s a l.entry in
        let more = log ++ l ∷ [] in
        let there = next_follows p fuel t log l s next is.follows (takes p t s a l.entry asks fit) in
        let values = all_push (λ (x : Logged). HasValue (objects_total p) x.entry) log l is.values value in
        let thread = followed_thread p fuel t more next valid values there in
        let same = moves p (code_of p t) (locals_of p t) f f.mode m a l.entry holds next.holds mode refl in
        record {
          count = thread.state.holds;
          each = λ o within. holds_told p fuel t o more next there within;
          follows = subst (FollowsCode p fuel t more) (sym same) there;
          values = values;
        }

    -- its holds are those before, with this entry
    pub holds_after_entry : AreAfter l.entry (holds_with p t holds f a l.entry) holds
    holds_after_entry =
        let n = framed_next in
        record {
          count = n.count ∙ sym is.count;
          each = λ i within.
              let w : i < objects_total p = omega (arith, within, n.count) in
              n.each i w ∙ held_more nothing_held log l i
              ∙ held_same l.entry (held_by nothing_held log) (λ j. slice_index holds j) i (sym (is.each i w));
        }

-- BY A PASS. Its hold words are those of the frame's holds.
module _ (h : HeapSeen) (p : ProgramText) (of : IsHeapOf h p) (fuel : ℕ) (q : PassSeen) (rests : Rests h q) where
  abbrev n : ℕ
  n = length h.heap.shape.objects

  abbrev counts : List ℕ
  counts = counts_from 0 n q.known.holds

  pub counts_are : (o : ℕ) → o < objects_total p → slice_index counts o ≡ held_by nothing_held q.known.log o
  counts_are o l =
      let within : o < n = omega (arith, l, as_many h p of) in
      let e : 0 + o ≡ o = omega arith in
      counts_at 0 n o q.known.holds within ∙ ap (λ k. hold_count k q.known.holds) e ∙ own_number h q o rests

  module _ (holds : List ℕ) (count : length holds ≡ objects_total p)
      (each : (o : ℕ) → o < objects_total p → slice_index holds o ≡ held_by nothing_held q.known.log o) where
    pub are_holds : AreHolds h q holds
    are_holds = record { count = count ∙ sym (as_many h p of); each = λ o l. each o (omega (arith, l, as_many h p of)) }

    pub same_counts : holds ≡ counts
    same_counts = are_counts n q.known.holds holds (count ∙ sym (as_many h p of)) (λ o l.
        each o (omega (arith, l, as_many h p of)) ∙ sym (own_number h q o rests))

    pub sum_holds : all_holds q.known.holds ≡ sum holds
    sum_holds = own_all h q holds rests are_holds

  pub counts_count : length counts ≡ objects_total p
  counts_count = counts_length 0 n q.known.holds ∙ as_many h p of

  pub framed_by : (f : FrameSeen) → FollowsCode p fuel q.known.thread q.known.log (state_by h p q f) → HaveValues p q.known.log
      → IsFramed p fuel q.known.thread q.known.log counts f
  framed_by f follows values = record { count = counts_count; each = counts_are; follows = follows; values = values }

-- A PASS THAT CAME FROM ANOTHER, on whose frame this one stands
module _ (h : HeapSeen) (p : ProgramText) (of : IsHeapOf h p) (fuel : ℕ) (k q : PassSeen) (f g : FrameSeen) (on : IsOn h p fuel k f) (b : IsAfter h k q)
    (holds : List ℕ) (is : IsFramed p fuel k.known.thread q.known.log holds g) (spent : g.fuel ≤ f.fuel) where
  abbrev s : ThreadState
  s = next_state p k.known.thread holds g

  pub state_is : s ≡ state_by h p q g
  state_is = λ i. next_state p (sym b.thread i) (same_counts h p of fuel q b.rests holds is.count is.each i) g

  pub on_from : IsAtMost q.known.unfinished (unfinished_of (ask s))
      → (q.known.requesting ≡ true → StandsFor g q.known.unfinished (unfinished_of (ask s))) → IsOn h p fuel q g
  on_from unfinished asks =
      let follows = subst (λ (t : ℕ). FollowsCode p fuel t q.known.log (next_state p t holds g)) (sym b.thread) is.follows in
      record {
        rests = b.rests;
        follows = subst (λ (hs : List ℕ). FollowsCode p fuel q.known.thread q.known.log (next_state p q.known.thread hs g))
            (same_counts h p of fuel q b.rests holds is.count is.each) follows;
        values = is.values;
        few = on.few;
        limit = b.limit ∙ on.limit;
        spent = omega (arith, spent, on.spent);
        unfinished = subst (λ (x : ThreadState). IsAtMost q.known.unfinished (unfinished_of (ask x))) state_is unfinished;
        asks = λ r c. subst (λ (x : ThreadState). StandsFor g q.known.unfinished (unfinished_of (ask x))) state_is (asks r);
        checks = λ c. absurd (cc (c, b.unchecked));
      }
