-- Parts of the steps that take a shot, and what they see.
use Rattle.std.specs.Prelude.{◌≡◌, ℕ, ◌==◌, if◌then◌else◌, List, length, take, Option, Some, None}
use Rattle.mark_word.specs.declared.mark.MarkForm.{MarkForm}
use Rattle.mark_word.specs.Mark.{read_mark}
use Rattle.mark_word.specs.Owner.{read_owner}
use Rattle.core_world.specs.declared.word_id.WordId.{WordId}
use Rattle.core_world.specs.declared.word_id.WordId.TheVariants.{Prototype, Mark, Hold, Length, Owner}
use Rattle.core_world.specs.declared.stage.Stage.TheVariants.{Settled}
use Rattle.core_world.specs.Locks.{Lock, Open, BiasedTo, has_epoch, lock_form, holder, hold_count, owner_and_count_by}
use Rattle.core_world.specs.RevocationRules.{holds_in, words_from}
use Rattle.core_world.specs.Steps.{seen_words, cells_from}
use Rattle.core_world.specs.Threads.ThreadView.{ThreadView, last_seen, local_of}
use Rattle.core_world.specs.Trees.LookSteps.{look_at_holds, look_at_owner, look_at_named}
use Rattle.core_world.specs.Trees.Plans.{CallContext, class_steps, load}
use Rattle.core_world.specs.Trees.StepTree.{StepTree, done, ◌>>=◌, ask, all_from}
use Rattle.core_world.specs.Words.Forms.{epoch_in}
use Rattle.core_world.specs.Words.Names.{class_by}
use Rattle.core_world.specs.Words.Shape.{Shape}

-- Of one thread, that knew k: at the same reached safepoint it knows l. It has logged nothing and stored none of its own words, and has seen at the
-- safepoint what it had seen, and as it had.
pub record IsLater (k l : ThreadView) : Type 0 where
  pub local : local_of l ≡ local_of k
  pub reached : l.reached ≡ k.reached
  pub saw : (n : WordId) (v : ℕ) → last_seen n k.seen_at_safepoint ≡ Some v → last_seen n l.seen_at_safepoint ≡ Some v

-- this is x by what the thread knows, and stays so at this safepoint
abbrev pub IsSettled : {A : Type 0} → ThreadView → (ThreadView → A) → A → Type 0
IsSettled k f x = (l : ThreadView) → IsLater k l → f l ≡ x

-- how many of thread t's first n hold words, and of all, name object o
abbrev pub held_below : ℕ → ℕ → ℕ → ThreadView → ℕ
held_below o t n k = hold_count o (words_from 0 n (λ p. seen_words k (Hold t p)))

abbrev pub held_in : ℕ → ThreadView → ℕ → ℕ
held_in o k t = hold_count o (holds_in (seen_words k) t)

-- the owner and the count of object o, whose lock thread t has
abbrev pub owned_cell : ℕ → ℕ → ThreadView → Option ℕ × ℕ
owned_cell o t k = (Some t, held_in o k t)

-- and of one whose lock is this
abbrev pub cell_by : Lock → ℕ → ThreadView → Option ℕ × ℕ
cell_by lock o k = owner_and_count_by (holder lock (held_in o k)) (held_in o k)

-- whose mark has this form
abbrev pub cell_at : Option MarkForm → Shape → ℕ → ThreadView → Option ℕ × ℕ
cell_at form s o k =
    cell_by (lock_form form (seen_words k (Prototype (class_by s (seen_words k) o))) (λ m. seen_words k (Owner m)) None) o k

-- whatever its mark is
abbrev pub cell_of : Shape → ℕ → ThreadView → Option ℕ × ℕ
cell_of s o k = cell_at (read_mark (seen_words k (Mark o))) s o k

-- the lock of an object that is biased to a thread in this epoch, where it is of this class; and by its class
abbrev pub lock_by_class : ℕ → ℕ → ℕ → ThreadView → Lock
lock_by_class class thread epoch k =
    if has_epoch (epoch_in (seen_words k (Prototype class))) epoch then BiasedTo thread else Open

abbrev pub bias_lock : Shape → ℕ → ℕ → ℕ → ThreadView → Lock
bias_lock s o thread epoch k = lock_by_class (class_by s (seen_words k) o) thread epoch k

-- the length of thread u's log
abbrev pub length_of : ℕ → ThreadView → ℕ
length_of u k = if u == k.thread then length k.log else seen_words k (Length u)

-- the cells of the first n objects, and the lengths of the first n logs
abbrev pub cells_below : Shape → ℕ → ThreadView → List (Option ℕ × ℕ)
cells_below s n k = cells_from 0 (take n s.objects) s (seen_words k)

abbrev pub lengths_below : ℕ → ThreadView → List ℕ
lengths_below n k = words_from 0 n (λ u. length_of u k)

-- THE PARTS
abbrev pub look_at_hold : CallContext → ℕ → ℕ → StepTree (Unit {0})
look_at_hold e t p = do
  _ ← ask (load e (Hold t p))
  done tt

abbrev pub look_by_class : CallContext → ℕ → ℕ → ℕ → StepTree (Unit {0})
look_by_class e class thread epoch = do
  prototype ← ask (load e (Prototype class))
  if has_epoch (epoch_in prototype) epoch then look_at_holds e thread else done tt

abbrev pub look_at_bias : CallContext → Shape → ℕ → ℕ → ℕ → StepTree (Unit {0})
look_at_bias e s o thread epoch = do
  class ← class_steps e Settled s o
  look_by_class e class thread epoch

abbrev pub look_at_monitor : CallContext → ℕ → StepTree (Unit {0})
look_at_monitor e m = do
  owner ← ask (load e (Owner m))
  look_at_owner (read_owner owner) e

abbrev pub look_at_cell : CallContext → Shape → ℕ → StepTree (Unit {0})
look_at_cell e s o = do
  mark ← ask (load e (Mark o))
  look_at_named (read_mark mark) e s o

abbrev pub look_at_length : CallContext → ℕ → StepTree (Unit {0})
look_at_length e t = do
  _ ← ask (load e (Length t))
  done tt

abbrev pub look_at_lengths : CallContext → Shape → StepTree (Unit {0})
look_at_lengths e s = all_from 0 s.threads (look_at_length e)
