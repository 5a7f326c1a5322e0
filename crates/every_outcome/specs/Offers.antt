-- Which entries an offer stands for.
use Rattle.std.specs.Prelude.{◌≡◌, ℕ, ◌<◌, ◌≤◌, ◌^◌, None}
use Rattle.plain_monitor.specs.declared.entry.Path.TheVariants.{StackFirst}
use Rattle.plain_monitor.specs.declared.entry.Entry.{Entry}
use Rattle.plain_monitor.specs.declared.entry.Entry.TheVariants.{Enter, Hash}
use Rattle.plain_machine.specs.declared.offer.Offer.{Offer}
use Rattle.plain_machine.specs.declared.offer.Offer.TheVariants.{Next, NextHash}

-- the entry as it is offered: neither a path nor a draw is told
abbrev pub bare : Entry → Entry
bare (Enter o path) = Enter o StackFirst
bare (Hash o v drawn) = Hash o v None
bare e = e

-- the entry hashes this object
abbrev pub IsHashOf : ℕ → Entry → Type 0
IsHashOf o (Hash k v drawn) = (o ≡ k) × (1 ≤ v) × (v < 2 ^ 31)
IsHashOf o e = ⊥

-- the offer stands for the entry
abbrev pub StandsFor : Offer → Entry → Type 0
StandsFor (Next g) e = g ≡ bare e
StandsFor (NextHash o) e = IsHashOf o e
StandsFor made e = ⊥
