-- A machine that is over takes nothing, and so the machine under a run's logs is one of the list.
use Rattle.std.proofs.Common.{◌≡◌, inl, inr, ℕ, false, List, [], ◌∷◌, Some, subst}
use Rattle.std.proofs.lemmas.Bool.{true≢false}
use Rattle.std.proofs.lemmas.Option.{same_Some}
use Rattle.plain_monitor.specs.declared.entry.Entry.{Entry}
use Rattle.plain_monitor.specs.declared.entry.Logged.{Logged}
use Rattle.plain_monitor.specs.Order.{order}
use Rattle.object_program.specs.Program.{ProgramText}
use Rattle.object_program.specs.Valid.{IsProgram}
use Rattle.plain_machine.specs.declared.offer.Offer.{Offer}
use Rattle.plain_machine.specs.declared.offer.Offer.TheVariants as offer
use Rattle.plain_machine.specs.Machine.{PlainMachine, new_machine}
use Rattle.plain_machine.specs.Legal.{after_all, machine_after}
use Rattle.plain_machine.specs.Offering.{offered, is_next}
use Rattle.machine_laws.specs.Reached.{IsReached}
use Rattle.machine_laws.proofs.ReachedEntries.{progress}
use Rattle.machine_laws.proofs.ReachedFirst.{first_is_reached}
use Rattle.machine_laws.proofs.ReachedOver.{stuck_offers_nothing, ended_offers_nothing}
use Rattle.every_outcome.specs.Offers.{StandsFor}
use Rattle.every_outcome.specs.Covered.{IsSeen, IsClosed, TakesNothing}
use Rattle.every_outcome.specs.Led.{IsOver}
use Rattle.every_outcome.proofs.Offers.{taken_is_offered}
use Rattle.every_outcome.proofs.Reduced.{first_of, every_end_is_seen}

stands_for_none : (made : Offer) (e : Entry) → is_next made ≡ false → StandsFor made e → ⊥
stands_for_none (offer.Next g) e h of = true≢false h
stands_for_none (offer.NextHash o) e h of = true≢false h
stands_for_none made e h of = of

offers_nothing : (m : PlainMachine) (t : ℕ) → IsOver m → is_next (offered m t) ≡ false
offers_nothing m t (inl stuck) = stuck_offers_nothing m t stuck
offers_nothing m t (inr ended) = ended_offers_nothing m t ended

pub over_takes_nothing : (m : PlainMachine) → IsReached m → IsOver m → TakesNothing m
over_takes_nothing m r over t e n takes = stands_for_none (offered m t) e (offers_nothing m t over) (taken_is_offered m n t e r takes)

pub all_reached : (xs : List (ℕ × Logged)) (m n : PlainMachine) → IsReached m → after_all m xs ≡ Some n → IsReached n
all_reached [] m n r h = subst IsReached (same_Some m n h) r
all_reached (x ∷ xs) m n r h = let k = first_of m n x xs h in all_reached xs k.machine n (progress m k.machine x.0 x.1.entry r k.takes).reached k.rest

pub over_is_seen : (p : ProgramText) (fuel : ℕ) (seen : List PlainMachine) (logs : List (List Logged)) (n : PlainMachine) → IsProgram p → IsClosed p fuel seen
    → machine_after p fuel logs ≡ Some n → IsOver n → IsSeen seen n
over_is_seen p fuel seen logs n valid closed after over =
    every_end_is_seen p fuel seen logs n valid closed after
    (over_takes_nothing n (all_reached (order logs) (new_machine p fuel) n (first_is_reached p fuel valid) after) over)
