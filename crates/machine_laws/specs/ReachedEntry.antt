-- What holds of each entry that a reached machine takes, and of each offer that it makes.
use Rattle.std.specs.Prelude.{ℕ, ◌<◌, ◌≤◌, MatchOption}
use Rattle.plain_monitor.specs.declared.entry.Entry.{Entry}
use Rattle.plain_monitor.specs.declared.entry.Entry.TheVariants.{Enter, Exit, Get, Put, Wait, Resume, Notify, NotifyAll}
use Rattle.plain_monitor.specs.declared.entry.Entry.TheVariants.{Hash, New, Print, Dump, Trap, Spent, Done}
use Rattle.plain_machine.specs.declared.offer.Offer.{Offer}
use Rattle.plain_machine.specs.declared.offer.Offer.TheVariants.{Next, NextHash, Blocked, Waiting, Ended}
use Rattle.plain_machine.specs.Values.{IsValueOf}
use Rattle.machine_laws.specs.Reached.{IsHash}

-- the object that an entry names is one of the objects, and a thread that it wakes one of the threads; its value, its hash or its
-- number of a dump is in range
abbrev pub IsEntryOf : ℕ → ℕ → Entry → Type 0
IsEntryOf objects threads (Enter object path) = object < objects
IsEntryOf objects threads (Exit object) = object < objects
IsEntryOf objects threads (Get object slot value) = (object < objects) × IsValueOf objects value
IsEntryOf objects threads (Put object slot value) = (object < objects) × IsValueOf objects value
IsEntryOf objects threads (Wait object) = object < objects
IsEntryOf objects threads (Resume object) = object < objects
IsEntryOf objects threads (Notify object woken) = (object < objects) × MatchOption woken (Unit {0}) (λ u. u < threads)
IsEntryOf objects threads (NotifyAll object woken) = object < objects
IsEntryOf objects threads (Hash object value drawn) = (object < objects) × IsHash value
IsEntryOf objects threads (New object class) = object < objects
IsEntryOf objects threads (Print value) = IsValueOf objects value
IsEntryOf objects threads (Dump number) = number ≤ 4
IsEntryOf objects threads (Trap fault index) = Unit {0}
IsEntryOf objects threads Spent = Unit {0}
IsEntryOf objects threads Done = Unit {0}

-- the same of an offer
abbrev pub IsOfferOf : ℕ → ℕ → Offer → Type 0
IsOfferOf objects threads (Next e) = IsEntryOf objects threads e
IsOfferOf objects threads (NextHash o) = o < objects
IsOfferOf objects threads (Blocked o owner) = (o < objects) × (owner < threads)
IsOfferOf objects threads (Waiting o) = o < objects
IsOfferOf objects threads Ended = Unit {0}
