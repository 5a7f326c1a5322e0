-- The objects as one store, in which an object may not be there: in one definition what `Made` and `Objects` of `plain_monitor` say by two states, of which
-- one has what is there, and the other what each entry does. Laws of histories speak of the two; this is what they mean together.
use Rattle.std.specs.Prelude.{◌≡◌, ℕ, suc, ◌+◌, ◌*◌, ◌≤◌, ◌<◌, Bool, not, ◌&&◌, ◌==◌, nat_lt, List, [], ◌∷◌, map, length, replicate, slice_index}
use Rattle.std.specs.Prelude.{slice_index_or, slice_set, if◌then◌else◌, Option, Some, None, is_some, option_map, option_and_then}
use Rattle.std.specs.List.{list_all}
use Rattle.plain_monitor.specs.Limits.{most_made}
use Rattle.plain_monitor.specs.declared.entry.Entry.{Entry}
use Rattle.plain_monitor.specs.declared.entry.Logged.{Logged}
use Rattle.plain_monitor.specs.Monitor.{only_if}
use Rattle.plain_monitor.specs.Objects.{PlainObject, new_object, named, take_at}
use Rattle.plain_monitor.specs.Order.{order}
use Rattle.plain_monitor.specs.History.{run_all}
use Rattle.plain_monitor.specs.Made.{Numbering, first_made, made_number, creates, needs, class_if_there}

pub record ObjectStore : Type 0 where
  -- of each number the object with its class, where it is there
  pub objects : List (Option (ℕ × PlainObject))
  -- how many objects each thread has made
  pub made : List ℕ

abbrev pub object_in : ObjectStore → ℕ → Option (ℕ × PlainObject)
object_in s o = slice_index_or s.objects o None

abbrev pub has_object : ObjectStore → ℕ → Bool
has_object s o = is_some (object_in s o)

-- the store with this object and class at the number
abbrev pub with_object : ObjectStore → ℕ → ℕ × PlainObject → ObjectStore
with_object s o x = record s { objects = slice_set s.objects o (Some x) }

-- an entry of t does to the object that it names, if it names one, what it does to any object; the class stays
abbrev pub act_on : ObjectStore → ℕ → Entry → Option ℕ → Option ObjectStore
act_on s t e None = Some s
act_on s t e (Some o) = option_and_then (λ x. option_map (λ y. with_object s o (x.0, y)) (take_at x.1 t e)) (object_in s o)

-- thread t makes its next object, which isn't there, of a class that there is; it makes at most `most_made`
abbrev pub may_make : Numbering → ObjectStore → ℕ → ℕ × ℕ → Bool
may_make n s t p =
    nat_lt t n.threads && nat_lt (slice_index s.made t) most_made && nat_lt p.1 n.classes
    && (p.0 == made_number n t (slice_index s.made t)) && not (has_object s p.0)

-- the store with the new object of t, which has this many slots
abbrev pub with_new : ℕ → ObjectStore → ℕ → ℕ × ℕ → ObjectStore
with_new slots s t p =
    record (with_object s p.0 (p.1, new_object slots)) { made = slice_set s.made t (slice_index s.made t + 1) }

-- the store after an entry of t: one that makes an object may make it; each other finds what it needs, and acts on what it names
abbrev pub store_after : Numbering → ℕ → ObjectStore → ℕ → Entry → Option (ℕ × ℕ) → Option ObjectStore
store_after n slots s t e None = if list_all (has_object s) (needs e) then act_on s t e (named e) else None
store_after n slots s t e (Some p) = only_if (may_make n s t p) (with_new slots s t p)

abbrev pub take_in_store : Numbering → ℕ → ObjectStore → ℕ → Entry → Option ObjectStore
take_in_store n slots s t e = store_after n slots s t e (creates e)

-- at first the declared objects are there, each with the slots that the shape has for its number
abbrev pub declared_objects : List ℕ → List (ℕ × ℕ) → List (Option (ℕ × PlainObject))
declared_objects declared [] = []
declared_objects [] (x ∷ shape) = None ∷ declared_objects [] shape
declared_objects (c ∷ declared) (x ∷ shape) = Some (c, new_object x.1) ∷ declared_objects declared shape

abbrev pub new_store : Numbering → List (ℕ × ℕ) → ObjectStore
new_store n shape = record { objects = declared_objects n.declared shape; made = replicate n.threads 0 }

-- the store after all entries of the logs
abbrev pub store_after_all : Numbering → ℕ → List (ℕ × ℕ) → List (List Logged) → Option ObjectStore
store_after_all n slots shape logs = run_all (take_in_store n slots) (new_store n shape) (order logs)

-- the shape has a place for each number that an object may have, and this many slots for each that may be made
pub record HasPlaces (n : Numbering) (slots : ℕ) (shape : List (ℕ × ℕ)) : Type 0 where
  pub all : length shape ≡ first_made n + most_made * n.threads
  pub made : (o : ℕ) → first_made n ≤ o → o < length shape → (slice_index_or shape o (0, 0)).1 ≡ slots

-- THE STORE OF TWO STATES: of each object its class, where it has one
abbrev pub with_classes : (ℕ → Option ℕ) → List PlainObject → List (Option (ℕ × PlainObject))
with_classes class [] = []
with_classes class (x ∷ xs) = option_map (λ c. (c, x)) (class 0) ∷ with_classes (λ o. class (suc o)) xs

abbrev pub store_of : Numbering → List (List ℕ) → List PlainObject → ObjectStore
store_of n made objects =
    record { objects = with_classes (class_if_there n made) objects; made = map (λ (row : List ℕ). length row) made }

-- there is one where there are both
abbrev pub store_of_both : Numbering → Option (List (List ℕ)) → Option (List PlainObject) → Option ObjectStore
store_of_both n None objects = None
store_of_both n (Some made) None = None
store_of_both n (Some made) (Some objects) = Some (store_of n made objects)
