-- The stamps in the logs and in the objects' stamp words.
use Rattle.std.specs.Prelude.{◌≡◌, ◌⊎◌, ℕ, ◌+◌, ◌≤◌, ◌==◌, ◌&&◌, Bool, true, false, List, [], ◌∷◌, length, Option, Some, None}
use Rattle.plain_monitor.specs.declared.entry.Logged.{Logged}
use Rattle.plain_monitor.specs.History.{last_stamp}
use Rattle.plain_history.specs.Stamps.{IsBounded}
use Rattle.plain_history.specs.HeldByLog.{held_by, nothing_held, HasLetGo}
use Rattle.core_world.specs.declared.heap_call.Operation.{Operation}
use Rattle.core_world.specs.declared.heap_call.Operation.TheVariants as op
use Rattle.core_world.specs.declared.heap_call.Unfinished.{Unfinished}
use Rattle.core_world.specs.Clauses.Safepoints.{IsUnfinished}

-- the number of all entries
abbrev pub entries : List (List Logged) → ℕ
entries [] = 0
entries (log ∷ logs) = length log + entries logs

-- the stamp that no entry on an object but a hash is above: its owner's last one, or where it has no owner its stamp word
abbrev pub bound_stamp : (ℕ → List Logged) → ℕ → Option ℕ → ℕ
bound_stamp log word None = word
bound_stamp log word (Some t) = last_stamp (log t)

abbrev pub is_letting_go : Operation → Bool
is_letting_go op.Exit = true
is_letting_go op.Wait = true
is_letting_go _ = false

-- the unfinished operation is an exit or a wait of o
abbrev pub lets_go : Option Unfinished → ℕ → Bool
lets_go None o = false
lets_go (Some u) o = is_letting_go u.op && (u.object == o)

-- the unfinished operation is a wait on o, or the exit of the only hold of it that the thread has by its log
abbrev pub IsAboutToLetGo : Option Unfinished → List Logged → ℕ → Type 0
IsAboutToLetGo unfinished log o =
    IsUnfinished unfinished op.Wait o ⊎ (IsUnfinished unfinished op.Exit o × (held_by nothing_held log o ≡ 1))

-- o's owner is about to let go of it, and this is the next stamp of its log
pub record IsRaised (log : ℕ → List Logged) (owner : Option ℕ) (unfinished : ℕ → Option Unfinished)
    (o stamp : ℕ) : Type 0 where
  pub thread : ℕ
  pub owns : owner ≡ Some thread
  pub letting : IsAboutToLetGo (unfinished thread) (log thread) o
  pub next : stamp ≡ last_stamp (log thread) + 1

-- what a stamp word of o may be: 0, or the stamp of a logged entry by which a thread let go of o, or the next stamp of its owner that is about to
abbrev pub IsStampOf : (ℕ → List Logged) → Option ℕ → (ℕ → Option Unfinished) → ℕ → ℕ → Type 0
IsStampOf log owner unfinished o stamp =
    (stamp ≡ 0) ⊎ ((t : ℕ) × HasLetGo (log t) o stamp) ⊎ IsRaised log owner unfinished o stamp

pub record StampsFit (logs : List (List Logged)) (log : ℕ → List Logged) (stamp : ℕ → ℕ)
    (owner : ℕ → Option ℕ) (unfinished : ℕ → Option Unfinished) : Type 0 where
  -- a stamp is at most the number of entries; so is a stamp word, or one more while the owner raises it to let go
  pub logged : (t : ℕ) → last_stamp (log t) ≤ entries logs
  pub words : (o : ℕ) → stamp o ≤ entries logs + 1
  pub even : (o : ℕ) → ((t : ℕ) → owner o ≡ Some t → lets_go (unfinished t) o ≡ false) → stamp o ≤ entries logs
  pub bound : (o : ℕ) → IsBounded logs o (bound_stamp log (stamp o) (owner o))
  -- a stamp word tells the last that let go, or its owner has raised it to do so
  pub exact : (o : ℕ) → IsStampOf log (owner o) unfinished o (stamp o)
