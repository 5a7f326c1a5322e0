-- Whether the run stands still, by the words: some thread is live, and none can go on.
use Rattle.std.specs.Prelude.{ℕ, zero, suc, ◌+◌, ◌&&◌, Bool, true, false, List, [], ◌∷◌, Option, Some, None}
use Rattle.mark_word.specs.declared.mark.MarkForm.{MarkForm}
use Rattle.mark_word.specs.declared.mark.MarkForm.TheVariants.{Inflated}
use Rattle.mark_word.specs.declared.wait.WaitForm.{WaitForm}
use Rattle.mark_word.specs.declared.wait.WaitForm.TheVariants as wait
use Rattle.mark_word.specs.Mark.{read_mark}
use Rattle.mark_word.specs.Owner.{read_owner}
use Rattle.mark_word.specs.Wait.{read_wait}
use Rattle.core_world.specs.declared.word_id.WordId.{WordId}
use Rattle.core_world.specs.declared.word_id.WordId.TheVariants.{Mark, Waiting, Owner}
use Rattle.core_world.specs.Trees.LookSteps.{can_acquire, some_live, none_goes_on}
use Rattle.core_world.specs.Words.Shape.{Shape}

-- the monitor that the mark names is free, or t's own; no thread enters or was notified on an object that isn't inflated
abbrev pub goes_by_owner : Option MarkForm → (WordId → ℕ) → ℕ → Option Bool
goes_by_owner (Some (Inflated monitor)) f t = Some (can_acquire (read_owner (f (Owner monitor))) t)
goes_by_owner _ f t = None

-- by its waiting word a thread has ended (None), can go on, or can't: one that waits can't, and one that enters, or was notified, can by the owner
abbrev pub goes_by_wait : Option WaitForm → (WordId → ℕ) → ℕ → Option Bool
goes_by_wait (Some wait.Ready) f t = Some true
goes_by_wait (Some (wait.Entering object)) f t = goes_by_owner (read_mark (f (Mark object))) f t
goes_by_wait (Some (wait.Waiting object stamp)) f t = Some false
goes_by_wait (Some (wait.Notified object)) f t = goes_by_owner (read_mark (f (Mark object))) f t
goes_by_wait (Some wait.Ended) f t = None
goes_by_wait None f t = None

-- of n threads from t on
abbrev pub all_go : (WordId → ℕ) → ℕ → ℕ → List (Option Bool)
all_go f t zero = []
all_go f t (suc n) = goes_by_wait (read_wait (f (Waiting t))) f t ∷ all_go f (t + 1) n

abbrev pub stands_still : Shape → (WordId → ℕ) → Bool
stands_still s f = some_live (all_go f 0 s.threads) && none_goes_on (all_go f 0 s.threads)
