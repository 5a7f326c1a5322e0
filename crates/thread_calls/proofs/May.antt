-- A thread of a program may make the call that it asks, and isn't refused.
use Rattle.std.proofs.Common.{◌≡◌, ℕ, ◌+◌, ◌*◌, ◌<◌, ◌≤◌, ◌==◌, ◌&&◌, ◌||◌, not, nat_le, nat_lt, lt-ltb, le-leb, eq-eqb, Bool, true, false, cond}
use Rattle.std.proofs.Common.{List, [], ◌∷◌, length, sum, Option, Some, None, is_some, is_none, refl, sym, ap, ◌∙◌, subst, arith, inl, inr}
use Rattle.std.specs.List.{AllByRecursion}
use Rattle.std.proofs.lemmas.Bool.{and_from, or_left, or_right, and_left}
use Rattle.plain_monitor.specs.declared.entry.Entry.{Entry}
use Rattle.plain_monitor.specs.declared.entry.Entry.TheVariants as entry
use Rattle.plain_monitor.specs.declared.entry.Ending.{Ending}
use Rattle.plain_monitor.specs.declared.entry.Logged.{Logged}
use Rattle.plain_monitor.specs.declared.entry.Path.TheVariants.{BiasOwn}
use Rattle.plain_monitor.specs.declared.entry.Value.{Value}
use Rattle.plain_monitor.specs.declared.entry.Value.TheVariants.{Nil}
use Rattle.plain_monitor.specs.Made.{needs, refers}
use Rattle.plain_history.specs.Known.{news, knows_by_log}
use Rattle.core_world.specs.declared.heap_call.Operation.{Operation}
use Rattle.core_world.specs.declared.heap_call.Operation.TheVariants as op
use Rattle.core_world.specs.declared.heap_call.HeapCall.{HeapCall}
use Rattle.core_world.specs.declared.heap_call.HeapCall.TheVariants as task
use Rattle.core_world.specs.declared.heap_call.Unfinished.{Unfinished}
use Rattle.core_world.specs.Clauses.Lengths.{log_limit}
use Rattle.core_world.specs.Clauses.Safepoints.{ends, is_ending}
use Rattle.core_world.specs.Shots.{dumps_from, placed}
use Rattle.core_world.specs.Threads.ThreadView.{ThreadView}
use Rattle.core_world.specs.Threads.References.{has_reference, has_value}
use Rattle.core_world.specs.Trees.Calls.{may_begin, may_operate, is_free_for, most_logged}
use Rattle.core_world.specs.Trees.Operations.{goes_on_with, same_op}
use Rattle.core_world.specs.Words.Forms.{waits_on}
use Rattle.core_world.specs.Words.Shape.{slots_of as slots_in_heap}
use Rattle.heap_table.specs.Resting.{MayOperate}
use Rattle.heap_table.specs.Seen.{HeapSeen, PassSeen}
use Rattle.own_logs.specs.HoldsByLog.{AreHolds}
use Rattle.own_logs.proofs.OwnHolds.{own_full, own_none}
use Rattle.own_logs.proofs.OwnShots.{own_shots}
use Rattle.object_program.specs.Program.{ProgramText, objects_total, slots_of, numbering_of}
use Rattle.plain_machine.specs.declared.monitor_call.NextEntry.{NextEntry}
use Rattle.plain_machine.specs.declared.monitor_call.NextEntry.TheVariants.{Calls, Leaves}
use Rattle.plain_machine.specs.declared.monitor_call.MonitorCall.{MonitorCall}
use Rattle.plain_machine.specs.declared.monitor_call.MonitorCall.TheVariants as call
use Rattle.plain_machine.specs.declared.monitor_call.Mode.{Mode}
use Rattle.plain_machine.specs.declared.monitor_call.Mode.TheVariants.{Ended}
use Rattle.plain_machine.specs.Asking.{ask, ask_in, fits}
use Rattle.plain_machine.specs.Machine.{is_live}
use Rattle.plain_machine.specs.Values.{IsValueOf}
use Rattle.machine_laws.specs.ReachedThread.{IsThreadOf, IsCallOf, IsHeld}
use Rattle.plain_machine.specs.Thread.{ThreadState}
use Rattle.machine_laws.specs.Work.{mode_work}
use Rattle.machine_laws.proofs.ReachedAsked.{asked_of}
use Rattle.machine_laws.proofs.ReachedStanding.{same_itself}
use Rattle.thread_logs.specs.Followed.{ends_by, is_end, dumps_by, dumps_with}
use Rattle.thread_logs.proofs.Logs.{followed_thread, followed_work}
use Rattle.thread_logs.proofs.References.{made_told, needs_told}
use Rattle.thread_logs.proofs.Standing.{holds_told, ends_told, dumps_told}
use Rattle.thread_calls.specs.Advances.{MayAdvance}
use Rattle.thread_calls.specs.Asked.{unfinished_of, unfinished_on, IsAtMost}
use Rattle.thread_calls.specs.Between.{IsHeapOf, state_by}
use Rattle.thread_calls.specs.inner.Made.{Holds, MayMake}
use Rattle.thread_calls.proofs.Values.{value_is}
use Rattle.thread_calls.proofs.Shapes.{as_many, has_numbers, same_slots, known_there}

-- LOGS. Two spellings of one test and of one count
same_end : (e : Entry) → is_ending e ≡ is_end e
same_end (entry.Trap fault index) = refl
same_end entry.Spent = refl
same_end entry.Done = refl
same_end e = refl

pub same_ends : (log : List Logged) → ends log ≡ ends_by log
same_ends [] = refl
same_ends (l ∷ log) = λ i. same_end l.entry i || same_ends log i

placed_length : (n : ℕ) (e : Entry) (rest : List (ℕ × ℕ)) → length (placed n e rest) ≡ dumps_with e (length rest)
placed_length n (entry.Dump number) rest = omega arith
placed_length n e rest = refl

dumps_length : (n : ℕ) (log : List Logged) → length (dumps_from n log) ≡ dumps_by log
dumps_length n [] = refl
dumps_length n (l ∷ log) =
    placed_length n l.entry (dumps_from (n + 1) log) ∙ ap (dumps_with l.entry) (dumps_length (n + 1) log)

-- OPERATIONS
all_five : (a b c d e : Bool) → a ≡ true → b ≡ true → c ≡ true → d ≡ true → e ≡ true → (a && b && c && d && e) ≡ true
all_five a b c d e p q r s t = rw (p, q, r, s, t) refl

-- no call logs more than two entries
waits_two : (b : Bool) → cond b 1 2 ≤ 2
waits_two true = omega arith
waits_two false = omega arith

two_at_most : (k : ThreadView) (w : HeapCall) → most_logged k w ≤ 2
two_at_most k (task.Wait o now) = waits_two (waits_on k.wait o)
two_at_most k w = omega arith

same_self : (o : Operation) → same_op o o ≡ true
same_self op.Enter = refl
same_self _ = refl

goes_self : (w : Operation) (o : ℕ) (u : Option Unfinished) → u ≡ unfinished_on w o → goes_on_with w o u ≡ true
goes_self w o u e = ap (goes_on_with w o) e ∙ and_from (same_op w w) (o == o) (same_self w) (eq-eqb o o refl)

some_none : (u v : Option Unfinished) → is_some u ≡ true → u ≡ v → v ≡ None → ⊥
some_none None v s e n = absurd (cc s)
some_none (Some x) v s e n = absurd (cc (e, n))

at_most_none : (u v : Option Unfinished) → IsAtMost u v → v ≡ None → is_none u ≡ true
at_most_none u v (inl e) n = ap is_none e
at_most_none u v (inr e) n = ap is_none (e ∙ n)

asks_lives : (s : ThreadState) (m : Mode) (a : NextEntry) → ask_in s m ≡ Some a → is_live (record s { mode = m }) ≡ true
asks_lives s (Ended e) a h = absurd (cc h)
asks_lives s _ a h = refl

asks_work : (s : ThreadState) (m : Mode) (a : NextEntry) → ask_in s m ≡ Some a → 1 ≤ mode_work m
asks_work s (Ended e) a h = absurd (cc h)
asks_work s _ a h = omega arith

module _ (h : HeapSeen) (p : ProgramText) (fuel : ℕ) (k : PassSeen) (f : _) (of : IsHeapOf h p) (may : MayAdvance h p fuel k f) where
  abbrev s : ThreadState
  s = state_by h p k f

  abbrev t : ℕ
  t = k.known.thread

  pub thread_is : IsThreadOf p s
  thread_is = followed_thread p fuel t k.known.log s of.program may.on.values may.on.follows

  pub held_is : (o : ℕ) → IsHeld p s.holds o → Holds k o
  held_is o held = let n = holds_told p fuel t o k.known.log s may.on.follows held.0 in let one = held.1 in omega (arith, n, one)

  -- it has a reference to each object that its log tells
  abbrev Knows : ℕ → Type 0
  Knows o = knows_by_log (numbering_of p) k.known.log o ≡ true

  pub known_is : (o : ℕ) → o < objects_total p → Knows o → has_reference h.heap.shape k.known o ≡ true
  known_is o l knows = known_there h p k.known o of l knows

  pub are_held : AreHolds h k s.holds
  are_held =
      let many = as_many h p of in
      record {
        count = thread_is.state.holds ∙ sym many;
        each = λ o l. holds_told p fuel t o k.known.log s may.on.follows (omega (arith, l, many));
      }

  pub dumps_are : length k.known.shots ≡ s.dumps
  dumps_are = own_shots h k may.on.rests ∙ dumps_length 0 k.known.log ∙ sym (dumps_told p fuel t 0 k.known.log s may.on.follows)

  made_are : length (news k.known.log) ≡ s.made
  made_are = sym (made_told p fuel t k.known.log s of.program may.on.follows)

  module _ (a : NextEntry) (asks : ask s ≡ Some a) where
    -- its log tells each object that an entry needs which fits what it asks
    needs_known : (e : Entry) → fits a e ≡ true → AllByRecursion Knows (needs e)
    needs_known e fit = needs_told p fuel t k.known.log s of.program may.on.follows a e asks fit

    named_known : (e : Entry) (o : ℕ) (os : List ℕ) → fits a e ≡ true → needs e ≡ o ∷ os → o < objects_total p → has_reference h.heap.shape k.known o ≡ true
    named_known e o os fit names l = known_is o l (subst (AllByRecursion Knows) names (needs_known e fit)).0

    still_open : not (ends k.known.log) ≡ true
    still_open =
        let ended = ends_told p fuel t 0 k.known.log s may.on.follows in
        ap not (same_ends k.known.log ∙ sym ended ∙ ap not (asks_lives s s.mode a asks))

    pub one_more : length k.known.log + 1 ≤ 2 * fuel + 1
    one_more =
        let work = followed_work p fuel t k.known.log s of.program may.on.values may.on.follows in
        let one = asks_work s s.mode a asks in
        omega (arith, work, one)

    short : nat_lt (length k.known.log) log_limit ≡ true
    short = lt-ltb (length k.known.log) log_limit (omega (arith, one_more, may.on.few))

    -- in any heap for each call
    short_for : (w : HeapCall) → nat_le (length k.known.log + most_logged k.known w) log_limit ≡ true
    short_for w = le-leb (length k.known.log + most_logged k.known w) log_limit (omega (arith, one_more, may.on.few, two_at_most k.known w))

    pub room : length k.known.log + 2 ≤ k.limit
    room = omega (arith, one_more, may.on.limit)

    unchecked : not k.known.checking ≡ true
    unchecked = ap not may.unchecked

    -- the operation that it asks may begin, or go on
    pub op_ready : (w : Operation) (o : ℕ) → unfinished_of (ask s) ≡ unfinished_on w o → may_operate k.known (goes_on_with w o k.known.unfinished) ≡ true
    op_ready w o is = all_five _ _ _ _ _ unchecked goes free still_open short
      where
        goes : (k.known.running || (k.known.requesting && goes_on_with w o k.known.unfinished)) ≡ true
        goes = elim may.goes [
          | inl r ↦ or_left k.known.running (k.known.requesting && goes_on_with w o k.known.unfinished) r
          | inr r ↦ or_right k.known.running (k.known.requesting && goes_on_with w o k.known.unfinished)
              (and_from k.known.requesting (goes_on_with w o k.known.unfinished) r
              (goes_self w o k.known.unfinished ((may.on.asks r may.unchecked).is ∙ is)))
        ]

        free : is_free_for k.known (goes_on_with w o k.known.unfinished) ≡ true
        free = elim may.on.unfinished [
          | inl n ↦ or_left (is_none k.known.unfinished) (goes_on_with w o k.known.unfinished) (ap is_none n)
          | inr e ↦ or_right (is_none k.known.unfinished) (goes_on_with w o k.known.unfinished) (goes_self w o k.known.unfinished (e ∙ is))
        ]

    -- so may what makes its entry at once
    pub act_ready : unfinished_of (ask s) ≡ None → may_operate k.known false ≡ true
    act_ready is = all_five _ _ _ _ _ unchecked goes free still_open short
      where
        goes : (k.known.running || (k.known.requesting && false)) ≡ true
        goes = elim may.goes [
          | inl r ↦ or_left k.known.running (k.known.requesting && false) r
          | inr r ↦ let for = may.on.asks r may.unchecked in absurd (some_none k.known.unfinished (unfinished_of (ask s)) for.some for.is is)
        ]

        free : is_free_for k.known false ≡ true
        free = or_left (is_none k.known.unfinished) false (at_most_none k.known.unfinished (unfinished_of (ask s)) may.on.unfinished is)

    pub may_do : (w : HeapCall) → may_begin h.heap.shape h.heap.biasing k.known w ≡ true → MayOperate h k w
    may_do w begins = record { call = record { rests = may.on.rests; may = begins }; room = omega (arith, room, two_at_most k.known w) }

    -- an operation on an object of the program, which the entry names that it is to log
    pub may_on : (e : Entry) (o : ℕ) (w : Operation) → fits a e ≡ true → needs e ≡ o ∷ [] → o < objects_total p → unfinished_of (ask s) ≡ unfinished_on w o
        → (has_reference h.heap.shape k.known o && may_operate k.known (goes_on_with w o k.known.unfinished)) ≡ true
    may_on e o w fit names l is = and_from _ _ (named_known e o [] fit names l) (op_ready w o is)

    -- its end, where it holds nothing
    pub may_finish : (g : Ending) → unfinished_of (ask s) ≡ None → sum s.holds ≡ 0 → MayOperate h k (task.Finish g)
    may_finish g is none = may_do (task.Finish g) (and_from _ _ (own_none h k s.holds may.on.rests are_held none) (act_ready is))

  pub slot_is : (o i : ℕ) → o < objects_total p → i < slots_of p o → nat_lt i (slots_in_heap h.heap.shape o) ≡ true
  slot_is o i l w = lt-ltb i (slots_in_heap h.heap.shape o) (omega (arith, w, same_slots h p o of l))

  -- a value that it stores or prints
  value_known : (v : Value) → AllByRecursion Knows (refers v) → IsValueOf (objects_total p) v → has_value h.heap.shape k.known v ≡ true
  value_known v knows is = value_is h k.known (objects_total p) Knows v known_is knows is

  may_make_of : (c : MonitorCall) → ask s ≡ Some (Calls c) → ((o : ℕ) → c ≡ call.Wait o → ⊥) → IsCallOf p s.holds s.dumps s.made c → MayMake h k c
  may_make_of (call.Enter o) asks other is = (
    λ now. may_do _ asks (task.Enter o now) (may_on _ asks (entry.Enter o BiasOwn) o op.Enter (eq-eqb o o refl) refl is.0 (ap unfinished_of asks)),
    and_left _ _ (own_full h k s.holds may.on.rests are_held is.1),
  )
  may_make_of (call.Exit o) asks other is = (
    may_do _ asks (task.Exit o) (may_on _ asks (entry.Exit o) o op.Exit (eq-eqb o o refl) refl is.0 (ap unfinished_of asks)),
    held_is o is,
  )
  may_make_of (call.Wait o) asks other is = other o refl
  may_make_of (call.Notify o) asks other is = (
    λ now. may_do _ asks (task.Notify o now) (may_on _ asks (entry.Notify o None) o op.Notify (eq-eqb o o refl) refl is.0 (ap unfinished_of asks)),
    held_is o is,
  )
  may_make_of (call.NotifyAll o) asks other is = (
    λ now. may_do _ asks (task.NotifyAll o now) (may_on _ asks (entry.NotifyAll o 0) o op.NotifyAll (eq-eqb o o refl) refl is.0 (ap unfinished_of asks)),
    held_is o is,
  )
  may_make_of (call.Get x o i) asks other is =
      let fit = and_from _ _ (eq-eqb o o refl) (eq-eqb i i refl) in
      let known = named_known _ asks (entry.Get o i Nil) o [] fit refl is.0.0 in (
        may_do _ asks (task.Get o i) (and_from _ _ (and_from _ _ known (slot_is o i is.0.0 is.1)) (act_ready _ asks (ap unfinished_of asks))),
        held_is o is.0,
      )
  may_make_of (call.Put o i v) asks other is =
      let fit = and_from _ _ (and_from _ _ (eq-eqb o o refl) (eq-eqb i i refl)) (same_itself v) in
      let knows = needs_known _ asks (entry.Put o i v) fit in
      let known = known_is o is.0.0 knows.0 in (
        may_do _ asks (task.Put o i v) (and_from _ _ (and_from _ _ (and_from _ _ known (slot_is o i is.0.0 is.1)) (value_known v knows.1 is.2))
            (act_ready _ asks (ap unfinished_of asks))),
        held_is o is.0,
      )
  may_make_of (call.Hash x o) asks other is =
      λ now. may_do _ asks (task.Hash o now) (may_on _ asks (entry.Hash o 0 None) o op.Hash (eq-eqb o o refl) refl is (ap unfinished_of asks))
  may_make_of (call.New x c) asks other is =
      let class : nat_lt c h.heap.shape.classes ≡ true = lt-ltb c h.heap.shape.classes (omega (arith, is.0, of.classes)) in
      let numbers = has_numbers h p of is.2 in (
        may_do _ asks (task.Create c) (and_from _ _ (and_from _ _ class numbers) (act_ready _ asks (ap unfinished_of asks))),
        omega (arith, is.1, made_are),
      )
  may_make_of (call.Print v) asks other is =
      let knows = needs_known _ asks (entry.Print v) (same_itself v) in
      may_do _ asks (task.Print v) (and_from _ _ (value_known v knows is) (act_ready _ asks (ap unfinished_of asks)))
  may_make_of (call.Dump n) asks other is =
      let dumps = dumps_are in
      (may_do _ asks task.Dump (op_ready _ asks op.Dump 0 (ap unfinished_of asks)), omega (arith, is.0, dumps), is.1)

  -- the call that it asks, if it isn't a wait
  pub may_make : (c : MonitorCall) → ask s ≡ Some (Calls c) → ((o : ℕ) → c ≡ call.Wait o → ⊥) → MayMake h k c
  may_make c asks other = may_make_of c asks other (asked_of p s (Calls c) thread_is asks).call

  -- a wait that it asks, or goes on with, which is to log this entry
  pub may_wait : (a : NextEntry) (e : Entry) (o now : ℕ) → ask s ≡ Some a
      → fits a e ≡ true → needs e ≡ o ∷ [] → unfinished_of (Some a) ≡ unfinished_on op.Wait o
      → o < objects_total p → MayOperate h k (task.Wait o now)
  may_wait a e o now asks fit names is l =
      may_do a asks (task.Wait o now)
      (and_from _ _ (may_on a asks e o op.Wait fit names l (ap unfinished_of asks ∙ is)) (short_for a asks (task.Wait o now)))

  pub may_leave : (o : ℕ) → ask s ≡ Some (Leaves o) → o < objects_total p → MayOperate h k (task.Exit o)
  may_leave o asks l =
      may_do (Leaves o) asks (task.Exit o) (may_on (Leaves o) asks (entry.Exit o) o op.Exit (eq-eqb o o refl) refl l (ap unfinished_of asks))
