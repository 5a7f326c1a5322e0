-- What a thread of a reached machine asks for finds the objects that it needs; and a New is taken where its number is the thread's next.
use Rattle.std.proofs.Common.{◌≡◌, ℕ, true, List, [], ◌∷◌, Some, None, refl, ap, ◌∙◌, arith}
use Rattle.std.specs.List.{AllByRecursion, list_all}
use Rattle.std.proofs.lemmas.Bool.{and_from}
use Rattle.std.proofs.lemmas.Option.{slice_get_within}
use Rattle.plain_monitor.specs.declared.entry.Entry.{Entry}
use Rattle.plain_monitor.specs.declared.entry.Entry.TheVariants.{New}
use Rattle.plain_monitor.specs.Monitor.{only_if}
use Rattle.plain_monitor.specs.Made.{Numbering, is_there, creates, needs, take_created}
use Rattle.plain_monitor.proofs.Lists.{all_at}
use Rattle.plain_history.proofs.MadeSteps.{grown, MayCreate, may_be_created}
use Rattle.object_program.specs.Program.{numbering_of}
use Rattle.plain_machine.specs.declared.monitor_call.MonitorCall.TheVariants as call
use Rattle.plain_machine.specs.declared.monitor_call.NextEntry.{NextEntry}
use Rattle.plain_machine.specs.Thread.{ThreadState}
use Rattle.plain_machine.specs.Asking.{ask, fits}
use Rattle.plain_machine.specs.Machine.{PlainMachine, made_after_entry}
use Rattle.plain_machine.specs.Offering.{next_made}
use Rattle.machine_laws.specs.References.{IsThere, ThreadRefersTo}
use Rattle.machine_laws.proofs.ReachedFrame.{IsMaker}
use Rattle.machine_laws.proofs.ReachedAsked.{IsPaid}
use Rattle.machine_laws.proofs.AskedReferences.{ask_refers, asked_needs}

all_found : (n : Numbering) (made : List (List ℕ)) (os : List ℕ) → AllByRecursion (λ o. is_there n made o ≡ true) os → list_all (is_there n made) os ≡ true
all_found n made [] h = refl
all_found n made (o ∷ os) h = and_from (is_there n made o) (list_all (is_there n made) os) h.0 (all_found n made os h.1)

-- an entry that makes no object leaves what is made as it is
pub made_there : (m : PlainMachine) (t : ℕ) (s : ThreadState) (a : NextEntry) (e : Entry) → IsMaker m t s
    → ask s ≡ Some a → fits a e ≡ true → creates e ≡ None → made_after_entry m t e ≡ Some m.made
made_there m t s a e h asks fit none =
    let refers = ask_refers (IsThere m.program m.made) s a (all_at (ThreadRefersTo (IsThere m.program m.made)) m.threads t s h.reached.references h.at) asks in
    let all = all_found (numbering_of m.program) m.made (needs e) (asked_needs (IsThere m.program m.made) a e refers fit) in
    ap (take_created (numbering_of m.program) m.made t e) none ∙ ap (λ b. only_if b m.made) all

-- the New of a thread that asks for one, by the thread's next number
pub new_there : (m : PlainMachine) (t x c : ℕ) (s : ThreadState) → IsMaker m t s
    → IsPaid m.program s (call.New x c) → made_after_entry m t (New (next_made m t) c) ≡ Some (grown m.made t c)
new_there m t x c s h paid =
    let may : MayCreate (numbering_of m.program) m.made t (next_made m t, c) = record {
      thread = omega (arith, slice_get_within m.threads t s h.at, h.reached.row_count, h.reached.thread_count);
      room = omega (arith, paid.call.1, h.reached.made t s h.at);
      class = paid.call.0;
      number = refl;
    } in
    rw (may_be_created (numbering_of m.program) m.made t (next_made m t, c) may) refl
