-- Entries of two threads that are not tied can be taken the other way round by the machine, too.
use Rattle.std.proofs.Common.{◌≡◌, ℕ, true, false, option_map, option_and_then, List, [], ◌∷◌}
use Rattle.std.proofs.Common.{slice_get, slice_set, Option, Some, None, refl, sym, ap, ◌∙◌, subst}
use Rattle.std.proofs.lemmas.List.{set_comm}
use Rattle.std.proofs.lemmas.Option.{none-some, same_Some, cond_some}
use Rattle.std.specs.List.{AllByRecursion}
use Rattle.object_program.specs.Program.{ProgramText, numbering_of}
use Rattle.plain_monitor.specs.Made.{Numbering, creates, needs, take_created}
use Rattle.plain_monitor.specs.declared.entry.Entry.TheVariants.{Spent}
use Rattle.object_program.specs.Valid.{IsProgram}
use Rattle.plain_history.specs.Cuts.{IsCutInOrder, cut_logs, logs_since}
use Rattle.plain_history.proofs.Joined.{first_some}
use Rattle.plain_history.proofs.ThroughCuts.{Swaps, passes_cut}
use Rattle.plain_history.proofs.Swaps.{take_swap}
use Rattle.machine_laws.specs.Reached.{IsReached}
use Rattle.machine_laws.proofs.ReachedAsked.{taken as took_entry}
use Rattle.machine_laws.proofs.ReachedNeeds.{made_there}
use Rattle.plain_history.specs.Known.{is_one_of}
use Rattle.plain_history.proofs.MadeSteps.{all_there, turn}
use Rattle.thread_logs.proofs.Entries.{has_made}
use Rattle.machine_laws.proofs.ReachedEntries.{progress}
use Rattle.machine_laws.proofs.ReachedFirst.{first_is_reached}
use Rattle.plain_machine.specs.declared.monitor_call.NextEntry.{NextEntry}
use Rattle.plain_machine.specs.Asking.{ask, fits, after_entry, thread_after}
use Rattle.machine_laws.proofs.ReachedFrame.{IsMaker}
use Rattle.plain_machine.specs.Legal.{after_all, machine_after}
use Rattle.plain_machine.specs.Machine.{PlainMachine, new_machine, code_of, moved, made_after_entry, take}
use Rattle.plain_machine.specs.Thread.{ThreadState}
use Rattle.plain_monitor.specs.declared.entry.Entry.{Entry}
use Rattle.plain_monitor.specs.declared.entry.Logged.{Logged}
use Rattle.plain_monitor.specs.Objects.{PlainObject, take_entry}
use Rattle.plain_monitor.specs.Order.{order}
use Rattle.plain_monitor.specs.History.{RisesAbove, run_all}
use Rattle.plain_monitor.proofs.Lists.{get_set_other}
use Rattle.thread_logs.specs.Passed.{IsOnTheWay}

-- what is made after an entry that needs nothing: an object by its maker's next number, or none
abbrev made_freely : PlainMachine → ℕ → Option (ℕ × ℕ) → Option (List (List ℕ))
made_freely m t p = take_created (numbering_of m.program) m.made t Spent p

-- the machine after an entry, whatever the entry needs
abbrev take_freely : PlainMachine → ℕ → Entry → Option PlainMachine
take_freely m t e =
    option_and_then (λ s. moved m t (thread_after m.program (code_of m.program t) s e)
    (made_freely m t (creates e)) (take_entry m.objects t e)) (slice_get m.threads t)

-- the machine with these objects and this made, and thread t in this state
abbrev moved_on : PlainMachine → ℕ → ThreadState → List (List ℕ) → List PlainObject → PlainMachine
moved_on m t s made objects = record m { objects = objects; made = made; threads = slice_set m.threads t s }

-- what thread t, what is made, and the objects make of an entry that all take
record Took (m : PlainMachine) (t : ℕ) (e : Entry) (next : PlainMachine) : Type 0 where
  s : ThreadState
  after : ThreadState
  made_then : List (List ℕ)
  objects : List PlainObject
  at : slice_get m.threads t ≡ Some s
  goes : thread_after m.program (code_of m.program t) s e ≡ Some after
  makes : made_freely m t (creates e) ≡ Some made_then
  takes : take_entry m.objects t e ≡ Some objects
  is : moved_on m t after made_then objects ≡ next

took : (m : PlainMachine) (t : ℕ) (e : Entry) (next : PlainMachine) → take_freely m t e ≡ Some next → Took m t e next
took m t e next h =
    let a = first_some (λ s. moved m t (thread_after m.program (code_of m.program t) s e) (made_freely m t (creates e)) (take_entry m.objects t e))
    (slice_get m.threads t) next h in
    by_parts a.0 a.1 (thread_after m.program (code_of m.program t) a.0 e) (made_freely m t (creates e)) (take_entry m.objects t e) refl refl refl a.2
  where
    by_parts : (s : ThreadState) → slice_get m.threads t ≡ Some s → (r : Option ThreadState) (w : Option (List (List ℕ))) (o : Option (List PlainObject))
        → thread_after m.program (code_of m.program t) s e ≡ r → made_freely m t (creates e) ≡ w
        → take_entry m.objects t e ≡ o → moved m t r w o ≡ Some next → Took m t e next
    by_parts s at None w o f d g k = absurd (none-some next k)
    by_parts s at (Some after) None o f d g k = absurd (none-some next k)
    by_parts s at (Some after) (Some made) None f d g k = absurd (none-some next k)
    by_parts s at (Some after) (Some made) (Some objects) f d g k =
        record { s = s; after = after; made_then = made; objects = objects; at = at; goes = f; makes = d; takes = g; is = same_Some _ next k }

taken : (m : PlainMachine) (t : ℕ) (e : Entry) (s after : ThreadState) (made : List (List ℕ)) (objects : List PlainObject) → slice_get m.threads t ≡ Some s
    → thread_after m.program (code_of m.program t) s e ≡ Some after → made_freely m t (creates e) ≡ Some made → take_entry m.objects t e ≡ Some objects
    → take_freely m t e ≡ Some (moved_on m t after made objects)
taken m t e s after made objects at goes makes takes = rw (at, goes, makes, takes) refl

-- what needs nothing is free of what another makes
needs_none : (p : Option (ℕ × ℕ)) → is_one_of (option_map (λ v. v.0) p) (needs Spent) ≡ false
needs_none None = refl
needs_none (Some p) = refl

machine_swap : Swaps take_freely
machine_swap e f before middle after t u apart free h k =
    let a = took before t e middle h in
    let b = took middle u f after k in
    let program : middle.program ≡ before.program = ap (λ (m : PlainMachine). m.program) (sym a.is) in
    let threads : middle.threads ≡ slice_set before.threads t a.after = ap (λ (m : PlainMachine). m.threads) (sym a.is) in
    let objects : middle.objects ≡ a.objects = ap (λ (m : PlainMachine). m.objects) (sym a.is) in
    let made : middle.made ≡ a.made_then = ap (λ (m : PlainMachine). m.made) (sym a.is) in
    let swapped = take_swap e f free before.objects a.objects b.objects t u a.takes (ap (λ xs. take_entry xs u f) (sym objects) ∙ b.takes) in
    let makes : take_created (numbering_of before.program) a.made_then u Spent (creates f) ≡ Some b.made_then =
    (λ i. take_created (numbering_of (sym program i)) (sym made i) u Spent (creates f)) ∙ b.makes in
    let turned_made = turn (numbering_of before.program) t Spent (creates e) u Spent
    (creates f) apart (needs_none (creates e)) before.made a.made_then b.made_then a.makes makes in
    let at-u : slice_get before.threads u ≡ Some b.s =
    sym (get_set_other before.threads t u a.after apart) ∙ ap (λ xs. slice_get xs u) (sym threads) ∙ b.at in
    let goes-u : thread_after before.program (code_of before.program u) b.s f ≡ Some b.after =
    ap (λ p. thread_after p (code_of p u) b.s f) (sym program) ∙ b.goes in
    let other : PlainMachine = moved_on before u b.after turned_made.0 swapped.0 in
    let at-t : slice_get other.threads t ≡ Some a.s = get_set_other before.threads u t b.after (λ s. apart (sym s)) ∙ a.at in
    let turned : slice_set (slice_set before.threads u b.after) t a.after ≡ slice_set (slice_set before.threads t a.after) u b.after =
    sym (set_comm before.threads t u a.after b.after apart) in
    let end : moved_on other t a.after b.made_then b.objects ≡ after =
    ap (λ ss. record before { objects = b.objects; made = b.made_then; threads = ss }) turned
    ∙ ap (λ (m : PlainMachine). moved_on m u b.after b.made_then b.objects) a.is ∙ b.is in (
      other,
      taken before u f b.s b.after turned_made.0 swapped.0 at-u goes-u turned_made.1 swapped.1,
      taken other t e a.s a.after b.made_then b.objects at-t a.goes turned_made.2 swapped.2 ∙ ap Some end,
    )

-- what a machine takes it takes freely, too
freely : (n : Numbering) (made made_then : List (List ℕ)) (t : ℕ) (e : Entry) (p : Option (ℕ × ℕ))
    → take_created n made t e p ≡ Some made_then → take_created n made t Spent p ≡ Some made_then
freely n made made_then t e None h = ap Some (cond_some (all_there n made (needs e)) made made_then h).1
freely n made made_then t e (Some p) h = h

took_freely : (m n : PlainMachine) (t : ℕ) (e : Entry) → take m t e ≡ Some n → take_freely m t e ≡ Some n
took_freely m n t e h =
    let k = took_entry m t e n h in
    let goes : thread_after m.program (code_of m.program t) k.s e
    ≡ Some (after_entry m.program (code_of m.program t) k.s k.asked e) = rw (k.asks, k.fit) refl in
    taken m t e k.s _ k.made_then k.objects k.at goes (freely (numbering_of m.program) m.made k.made_then t e (creates e) k.makes) k.takes ∙ ap Some k.is

all_freely : (m last : PlainMachine) (xs : List (ℕ × Logged)) → after_all m xs ≡ Some last → run_all take_freely m xs ≡ Some last
all_freely m last [] h = h
all_freely m last (x ∷ xs) h =
    let a = first_some (λ n. after_all n xs) (take m x.0 x.1.entry) last h in
    rw (took_freely m a.0 x.0 x.1.entry a.1) (all_freely a.0 last xs a.2)

-- and a reached machine takes what it takes freely, since all is there that its threads need
freely_made : (m : PlainMachine) (t : ℕ) (s : ThreadState) (a : NextEntry) (e : Entry) (made_then : List (List ℕ)) (p : Option (ℕ × ℕ))
    → IsMaker m t s → ask s ≡ Some a → fits a e ≡ true
    → creates e ≡ p → made_freely m t p ≡ Some made_then → made_after_entry m t e ≡ Some made_then
freely_made m t s a e made_then None maker asks fit none h = made_there m t s a e maker asks fit none ∙ h
freely_made m t s a e made_then (Some p) maker asks fit some h = ap (take_created (numbering_of m.program) m.made t e) some ∙ h

reached_takes : (m n : PlainMachine) (t : ℕ) (e : Entry) → IsReached m → take_freely m t e ≡ Some n → take m t e ≡ Some n
reached_takes m n t e h k =
    let b = took m t e n k in
    let a = has_made m.program (code_of m.program t) b.s b.after e b.goes in
    let makes = freely_made m t b.s a.asked e b.made_then (creates e) (record { reached = h; at = b.at }) a.asks a.fit refl b.makes in
    rw (b.at, b.goes, makes, b.takes) (ap Some b.is)

all_taken : (m last : PlainMachine) (xs : List (ℕ × Logged)) → IsReached m → run_all take_freely m xs ≡ Some last → after_all m xs ≡ Some last
all_taken m last [] h e = e
all_taken m last (x ∷ xs) h e =
    let a = first_some (λ n. run_all take_freely n xs) (take_freely m x.0 x.1.entry) last e in
    let takes = reached_takes m a.0 x.0 x.1.entry h a.1 in
    rw takes (all_taken a.0 last xs (progress m a.0 x.0 x.1.entry h takes).reached a.2)

-- a machine that entries lead to is reached
leads_on : (m last : PlainMachine) (xs : List (ℕ × Logged)) → IsReached m → after_all m xs ≡ Some last → IsReached last
leads_on m last [] h e = subst IsReached (same_Some m last e) h
leads_on m last (x ∷ xs) h e =
    let a = first_some (λ n. after_all n xs) (take m x.0 x.1.entry) last e in
    leads_on a.0 last xs (progress m a.0 x.0 x.1.entry h a.1).reached a.2

pub machines_pass : (p : ProgramText) (fuel : ℕ) (logs : List (List Logged)) (cut : List ℕ) (last : PlainMachine) → IsProgram p
    → AllByRecursion (RisesAbove 0) logs → IsCutInOrder cut logs
    → machine_after p fuel logs ≡ Some last → (m : PlainMachine) × IsOnTheWay p fuel logs cut last m
machines_pass p fuel logs cut last valid rises cuts h =
    let new = new_machine p fuel in
    let reached = first_is_reached p fuel valid in
    let a = passes_cut take_freely machine_swap cut logs new last rises cuts (all_freely new last (order logs) h) in
    let under = all_taken new a.0 (order (cut_logs cut logs)) reached a.1 in (
      a.0,
      record {
        under = under;
        onward = all_taken a.0 last (order (logs_since cut logs)) (leads_on new a.0 (order (cut_logs cut logs)) reached under) a.2;
      },
    )
