-- What of words makes that a machine's parts are read from them.
use Rattle.std.specs.Prelude.{◌≡◌, ℕ, zero, suc, ◌/◌, ◌<◌, ◌≤◌, ◌^◌, List, [], ◌∷◌, ◌++◌, length, sum, slice_get, Some}
use Rattle.std.specs.List.{AllByRecursion}
use Rattle.plain_monitor.specs.declared.entry.Value.{Value}
use Rattle.plain_monitor.specs.Limits.{most_made, most_holds}
use Rattle.plain_monitor.specs.Objects.{PlainObject}
use Rattle.plain_monitor.specs.ValueWords.{IsSpellable, SpellsValue}
use Rattle.machine_words.specs.declared.unread.Unread.{Unread}
use Rattle.machine_words.specs.declared.unread.Unread.TheVariants.{NoMemory, NoMachine}
use Rattle.machine_words.specs.Readers.{read_pairs}
use Rattle.machine_words.specs.MadeWords.{read_row}
use Rattle.machine_words.specs.ObjectWords.{object_words}
use Rattle.machine_words.specs.ThreadWords.{read_thread, holds_in}

-- why nothing is read: out of memory, or this doesn't hold
abbrev pub IsLost : Type 0 → Unread → Type 0
IsLost Told NoMemory = Unit {0}
IsLost Told NoMachine = Told → ⊥

-- there is a next word, of which this holds, and of the words after it
abbrev pub GoesOn : (ℕ → List ℕ → Type 0) → List ℕ → Type 0
GoesOn Holds [] = ⊥
GoesOn Holds (w ∷ ws) = Holds w ws

abbrev pub HasWord : List ℕ → Type 0
HasWord ws = GoesOn (λ w rest. Unit {0}) ws

abbrev pub HasNumber : List ℕ → Type 0
HasNumber ws = GoesOn (λ w rest. w < 2 ^ 32) ws

-- so many numbers
abbrev pub TellsNumbers : ℕ → List ℕ → Type 0
TellsNumbers zero ws = Unit {0}
TellsNumbers (suc n) ws = GoesOn (λ w rest. (w < 2 ^ 32) × TellsNumbers n rest) ws

-- so many pairs of numbers
abbrev pub TellsPairs : ℕ → List ℕ → Type 0
TellsPairs zero ws = Unit {0}
TellsPairs (suc n) ws = GoesOn (λ a rest. (a < 2 ^ 32) × GoesOn (λ b after. (b < 2 ^ 32) × TellsPairs n after) rest) ws

-- the word is that of a value
abbrev pub TellsValue : ℕ → Type 0
TellsValue word = (v : Value) × SpellsValue v word

-- so many values
abbrev pub TellsValues : ℕ → List ℕ → Type 0
TellsValues zero ws = Unit {0}
TellsValues (suc n) ws = GoesOn (λ w rest. TellsValue w × TellsValues n rest) ws

-- a thread
abbrev pub TellsThread : List ℕ → Type 0
TellsThread ws =
    GoesOn (λ head a. (head / 256 < 2 ^ 32) × GoesOn (λ rest b. (rest < 2 ^ 32)
    × GoesOn (λ made c. (made < 2 ^ 32) × GoesOn (λ locals d. TellsValues locals d) c) b) a) ws

-- so many threads
abbrev pub TellsThreads : ℕ → List ℕ → Type 0
TellsThreads zero ws = Unit {0}
TellsThreads (suc n) ws = TellsThread ws × TellsThreads n (read_thread ws).1

-- what a thread has made
abbrev pub TellsRow : List ℕ → Type 0
TellsRow ws = GoesOn (λ count rest. (count ≤ most_made) × TellsNumbers count rest) ws

-- what so many threads have made
abbrev pub TellsRows : ℕ → List ℕ → Type 0
TellsRows zero ws = Unit {0}
TellsRows (suc n) ws = TellsRow ws × TellsRows n (read_row ws).1

-- those who wait, those who were called, and the slots
abbrev pub TellsLists : ℕ → ℕ → ℕ → List ℕ → Type 0
TellsLists slots waits called ws =
    TellsPairs waits ws × TellsPairs called (read_pairs waits ws).1 × TellsValues slots (read_pairs called (read_pairs waits ws).1).1

-- an object of so many slots
abbrev pub TellsObject : ℕ → List ℕ → Type 0
TellsObject slots ws =
    GoesOn (λ owner a. (owner ≤ 2 ^ 32) × GoesOn (λ count b. (count < 2 ^ 32) × GoesOn (λ hash c. (hash ≤ 2 ^ 32)
    × GoesOn (λ waits d. GoesOn (λ called e. TellsLists slots waits called e) d) c) b) a) ws

-- objects that can be read into the places of others, beside so many threads
pub record AreTold (threads : ℕ) (old xs : List PlainObject) : Type 0 where
  pub count : length xs ≡ length old
  pub slots : (o : ℕ) (x y : PlainObject) → slice_get xs o ≡ Some x → slice_get old o ≡ Some y → length x.slots ≡ length y.slots
  pub values : (o : ℕ) (x : PlainObject) → slice_get xs o ≡ Some x → AllByRecursion IsSpellable x.slots
  pub told : (o : ℕ) (x : PlainObject) (ws : List ℕ) → slice_get xs o ≡ Some x → TellsObject (length x.slots) (object_words x ++ ws)
  pub few : (t : ℕ) → t < threads → sum (holds_in t xs) ≤ most_holds
