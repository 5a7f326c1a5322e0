-- Which objects are there, and of which class: those that the program declares, and those that threads have made. The objects of `Objects` have
-- a place for each number; an entry is taken by both, so that these say what an entry needs to be there, and those what it does.
use Rattle.std.specs.Prelude.{ℕ, ◌+◌, ◌-◌, ◌*◌, ◌/◌, ◌%◌, Bool, ◌&&◌, ◌||◌, ◌==◌, nat_lt, List, [], ◌∷◌, ◌++◌, length}
use Rattle.std.specs.Prelude.{replicate, slice_index_or, slice_get, slice_set, if◌then◌else◌, Option, Some, None, IsSome}
use Rattle.std.specs.List.{list_all}
use Rattle.plain_monitor.specs.Limits.{most_made}
use Rattle.plain_monitor.specs.declared.entry.Value.{Value}
use Rattle.plain_monitor.specs.declared.entry.Value.TheVariants.{Ref}
use Rattle.plain_monitor.specs.declared.entry.Entry.{Entry}
use Rattle.plain_monitor.specs.declared.entry.Entry.TheVariants.{Put, New, Print}
use Rattle.plain_monitor.specs.declared.entry.Logged.{Logged}
use Rattle.plain_monitor.specs.Monitor.{only_if}
use Rattle.plain_monitor.specs.Objects.{named}
use Rattle.plain_monitor.specs.Order.{order}
use Rattle.plain_monitor.specs.History.{run_all}

-- which numbers objects have: the declared ones come first, and then each thread has as many as it may make objects
pub record Numbering : Type 0 where
  -- the classes of the declared objects
  pub declared : List ℕ
  pub threads : ℕ
  -- how many classes there are
  pub classes : ℕ

-- the first number of an object that is made
abbrev pub first_made : Numbering → ℕ
first_made n = length n.declared

-- the k-th object that thread t makes
abbrev pub made_number : Numbering → ℕ → ℕ → ℕ
made_number n t k = first_made n + most_made * t + k

-- who makes object o, and how many it makes before
abbrev pub maker_of : Numbering → ℕ → ℕ
maker_of n o = (o - first_made n) / most_made

abbrev pub place_of : Numbering → ℕ → ℕ
place_of n o = (o - first_made n) % most_made

-- WHAT IS THERE, by the classes of the objects that each thread has made, in their order
abbrev pub made_by : List (List ℕ) → ℕ → List ℕ
made_by made t = slice_index_or made t []

-- the class of an object that is there
abbrev pub class_if_there : Numbering → List (List ℕ) → ℕ → Option ℕ
class_if_there n made o =
    if nat_lt o (first_made n) then slice_get n.declared o
    else slice_get (made_by made (maker_of n o)) (place_of n o)

abbrev pub is_there : Numbering → List (List ℕ) → ℕ → Bool
is_there n made o = nat_lt o (first_made n) || nat_lt (place_of n o) (length (made_by made (maker_of n o)))

-- ENTRIES
-- the object that an entry makes, with its class
abbrev pub creates : Entry → Option (ℕ × ℕ)
creates (New object class) = Some (object, class)
creates _ = None

abbrev pub one_or_none : Option ℕ → List ℕ
one_or_none None = []
one_or_none (Some o) = o ∷ []

-- the object that a value refers to
abbrev pub refers : Value → List ℕ
refers (Ref o) = o ∷ []
refers _ = []

-- the object that an entry hands on
abbrev pub hands_on : Entry → List ℕ
hands_on (Put object slot value) = refers value
hands_on (Print value) = refers value
hands_on _ = []

-- the objects that have to be there for an entry
abbrev pub needs : Entry → List ℕ
needs e = one_or_none (named e) ++ hands_on e

-- thread t makes its next object, which is of a class that there is; it makes at most `most_made`
abbrev pub may_create : Numbering → List (List ℕ) → ℕ → ℕ × ℕ → Bool
may_create n made t p =
    nat_lt t (length made) && nat_lt (length (made_by made t)) most_made && nat_lt p.1 n.classes
    && (p.0 == made_number n t (length (made_by made t)))

-- what is there after an entry of t, which makes this object or none
abbrev pub take_created : Numbering → List (List ℕ) → ℕ → Entry → Option (ℕ × ℕ) → Option (List (List ℕ))
take_created n made t e None = only_if (list_all (is_there n made) (needs e)) made
take_created n made t e (Some p) = only_if (may_create n made t p) (slice_set made t (made_by made t ++ p.1 ∷ []))

-- what is there after an entry of t, where all that it needs is there
abbrev pub take_made : Numbering → List (List ℕ) → ℕ → Entry → Option (List (List ℕ))
take_made n made t e = take_created n made t e (creates e)

-- HISTORIES
abbrev pub nothing_made : Numbering → List (List ℕ)
nothing_made n = replicate n.threads []

-- what is there after all entries of the logs
abbrev pub made_after : Numbering → List (List Logged) → Option (List (List ℕ))
made_after n logs = run_all (take_made n) (nothing_made n) (order logs)

-- each entry of the order finds what it needs
abbrev pub IsMadeInTime : Numbering → List (List Logged) → Type 0
IsMadeInTime n logs = IsSome (made_after n logs)
