-- The way from a thread to those that it waits for, step by step.
use Rattle.std.specs.Prelude.{ℕ, zero, suc, ◌+◌, ◌==◌, nat_lt, if◌then◌else◌, List, [], ◌∷◌, ◌++◌, option_to_list, Option, Some, None, option_map}
use Rattle.plain_machine.specs.declared.offer.Offer.{Offer}
use Rattle.plain_machine.specs.declared.offer.Offer.TheVariants.{Blocked}
use Rattle.plain_machine.specs.Machine.{PlainMachine}
use Rattle.plain_machine.specs.Offering.{offered}
use Rattle.wait_report.specs.declared.cycles.Link.{Link}
use Rattle.wait_report.specs.declared.cycles.Cycle.{Cycle}

-- the object that the thread waits for, and the other thread that has it
abbrev pub blocker : Offer → Option (ℕ × ℕ)
blocker (Blocked o owner) = Some (o, owner)
blocker offer = None

abbrev pub link : ℕ → ℕ → Link
link u o = record { thread = u; object = o }

-- the links from thread u on, whose object and blocker this is: the way ends at `first`, and there is none past a lesser thread
abbrev pub links_on : ℕ → ℕ → Option (ℕ × ℕ) → (ℕ → Option (List Link)) → Option (List Link)
links_on first u None others = None
links_on first u (Some b) others =
    if b.1 == first then Some (link u b.0 ∷ []) else if nat_lt b.1 first then None
    else option_map (λ links. link u b.0 ∷ links) (others b.1)

-- the links from thread u on back to `first`, where these are at most n
abbrev pub links_from : PlainMachine → ℕ → ℕ → ℕ → Option (List Link)
links_from m first zero u = None
links_from m first (suc n) u = links_on first u (blocker (offered m u)) (λ w. links_from m first n w)

abbrev pub cycle_of : List Link → Cycle
cycle_of links = record { links = links }

-- the cycle of at most n links whose least thread this is
abbrev pub cycle_from : PlainMachine → ℕ → ℕ → Option Cycle
cycle_from m n first = option_map cycle_of (links_from m first n first)

-- the cycles whose least thread is one of k from `first` on
abbrev pub cycles_from : PlainMachine → ℕ → ℕ → ℕ → List Cycle
cycles_from m n first zero = []
cycles_from m n first (suc k) = option_to_list (cycle_from m n first) ++ cycles_from m n (first + 1) k
