-- What a thread of the example does to the object, and what its log has of it then.
use Rattle.std.specs.Prelude.{◌≡◌, ◌⊎◌, ℕ, List, [], ◌∷◌, ◌++◌, map, Option, Result, Ok, Err, ◌+◌, ◌<◌, if◌then◌else◌, true, length}
use Rattle.std.specs.List.{AllByRecursion}
use Rattle.plain_monitor.specs.declared.entry.Entry.{Entry}
use Rattle.plain_monitor.specs.declared.entry.Entry.TheVariants as entry
use Rattle.plain_monitor.specs.declared.entry.Logged.{Logged}
use Rattle.plain_monitor.specs.declared.entry.Path.{Path}
use Rattle.core_calls.specs.CallsSay.{has_none, is_full}
use Rattle.core_world.specs.Words.Forms.{waits_on}
use Rattle.core_world.specs.declared.answer.Progress.{Progress}
use Rattle.core_world.specs.declared.answer.Progress.TheVariants.{Done, Pending}
use Rattle.core_world.specs.declared.heap_call.Operation.{Operation}
use Rattle.core_world.specs.declared.heap_call.Operation.TheVariants as op
use Rattle.heap_table.specs.Kept.{all_holds}
use Rattle.heap_table.specs.Resting.{start_now}
use Rattle.heap_table.specs.Seen.{HeapSeen, PassSeen}
use Rattle.embed_example.specs.declared.Act.{Act}
use Rattle.embed_example.specs.declared.Act.TheVariants.{Enter, Wait, Notify, Hash, Exit}
use Rattle.embed_example.specs.declared.Stop.{Stop}
use Rattle.embed_example.specs.declared.Stop.TheVariants.{LogIsFull, TooDeep, IllegalMonitorState, Halted, Held}
use Rattle.embed_example.specs.Between.{IsFree, MayTry}

-- the operation of the runtime
abbrev pub op_of : Act → Operation
op_of Enter = op.Enter
op_of Wait = op.Wait
op_of Notify = op.Notify
op_of Hash = op.Hash
op_of Exit = op.Exit

-- A call that was done logs these entries. A wait that let go in this call logs that, too.
abbrev pub IsDone : Act → ℕ → List Entry → Type 0
IsDone Enter o es = (path : Path) × (es ≡ entry.Enter o path ∷ [])
IsDone Wait o es = (es ≡ entry.Resume o ∷ []) ⊎ (es ≡ entry.Wait o ∷ entry.Resume o ∷ [])
IsDone Notify o es = (woken : Option ℕ) × (es ≡ entry.Notify o woken ∷ [])
IsDone Hash o es = (value : ℕ) × (drawn : Option ℕ) × (es ≡ entry.Hash o value drawn ∷ [])
IsDone Exit o es = es ≡ entry.Exit o ∷ []

-- one that is pending logs none, but for a wait that let go
abbrev pub IsLeft : Act → ℕ → Entry → Type 0
IsLeft Wait o e = e ≡ entry.Wait o
IsLeft _ o e = ⊥

abbrev pub entries : List Logged → List Entry
entries log = map (λ (l : Logged). l.entry) log

-- the log of p, with such entries after it, is that of q
pub record HasAdded (P : List Entry → Type 0) (p q : PassSeen) : Type 0 where
  pub new : List Logged
  pub log : q.known.log ≡ p.known.log ++ new
  pub is : P (entries new)

-- the entries of an act that was tried again until it was done
pub record IsMade (a : Act) (o : ℕ) (es : List Entry) : Type 0 where
  pub before : List Entry
  pub last : List Entry
  pub are : es ≡ before ++ last
  pub left : AllByRecursion (IsLeft a o) before
  pub made : IsDone a o last

-- how many entries a try may log: a wait that begins may let go and have the object again
abbrev pub most_of : Act → ℕ → PassSeen → ℕ
most_of Wait o p = if waits_on p.known.wait o then 1 else 2
most_of _ o p = 1

-- Why a try is refused: the log has no room, there are 64 holds, or there is none on o. No step is made.
abbrev pub IsRefused : Act → HeapSeen → ℕ → PassSeen → Stop → Type 0
IsRefused a h o p LogIsFull = p.limit < length p.known.log + most_of a o p
IsRefused Enter h o p TooDeep = is_full (start_now h p) o ≡ true
IsRefused Wait h o p IllegalMonitorState = has_none (start_now h p) o ≡ true
IsRefused Notify h o p IllegalMonitorState = has_none (start_now h p) o ≡ true
IsRefused Exit h o p IllegalMonitorState = has_none (start_now h p) o ≡ true
IsRefused _ h o p _ = ⊥

-- One try. Done, any operation may follow; pending, this one goes on; refused, it is as before.
abbrev pub Tried : Act → ℕ → HeapSeen → PassSeen → PassSeen → Result (Progress (Unit {0})) Stop → Type 0
Tried a o h p q (Ok (Done x)) = IsFree h q × HasAdded (IsDone a o) p q
Tried a o h p q (Ok (Pending why)) = MayTry (op_of a) o h q × HasAdded (AllByRecursion (IsLeft a o)) p q
Tried a o h p q (Err e) = MayTry (op_of a) o h q × (q.known.log ≡ p.known.log) × IsRefused a h o q e

-- a thread doesn't end that holds something, or whose log is full
abbrev pub IsNoEnd : PassSeen → Stop → Type 0
IsNoEnd p Held = 0 < all_holds p.known.holds
IsNoEnd p LogIsFull = p.limit < length p.known.log + 1
IsNoEnd p _ = ⊥

-- Why an act that was tried again and again isn't made: the last try was refused, or the run is halted. The tries before it were pending.
abbrev pub IsGivenUp : Act → ℕ → HeapSeen → PassSeen → PassSeen → Stop → Type 0
IsGivenUp a o h p q e = HasAdded (AllByRecursion (IsLeft a o)) p q × (IsRefused a h o q e ⊎ (e ≡ Halted))

-- so the act was made
pub record HasMade (a : Act) (o : ℕ) (h : HeapSeen) (p q : PassSeen) : Type 0 where
  pub free : IsFree h q
  pub added : HasAdded (IsMade a o) p q
