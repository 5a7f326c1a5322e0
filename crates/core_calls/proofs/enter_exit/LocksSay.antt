-- What the steps of lock records say.
use Rattle.std.proofs.Common.{false, ◌≡◌, ℕ, ◌==◌, List, [], ◌∷◌, Option, Some, None, refl, subst}
use Rattle.mark_word.specs.declared.mark.MarkForm.{MarkForm}
use Rattle.mark_word.specs.declared.mark.MarkForm.TheVariants.{Inflating, Neutral, Locked, Inflated}
use Rattle.mark_word.specs.Mark.{read_mark}
use Rattle.mark_word.proofs.ReadingMarks.{read_mark-spells}
use Rattle.plain_monitor.specs.declared.entry.Entry.TheVariants as entry
use Rattle.plain_monitor.specs.declared.entry.Path.{Path}
use Rattle.plain_monitor.specs.declared.entry.Path.TheVariants.{StackFirst, StackAgain}
use Rattle.core_world.specs.declared.word_id.WordId.{WordId}
use Rattle.core_world.specs.declared.word_id.WordId.TheVariants.{Displaced, Mark}
use Rattle.core_world.specs.declared.answer.StackOut.{StackOut}
use Rattle.core_world.specs.declared.answer.StackOut.TheVariants.{Left, Not}
use Rattle.core_world.specs.declared.answer.Progress.{Progress}
use Rattle.core_world.specs.declared.answer.PendingCause.{PendingCause}
use Rattle.core_world.specs.declared.answer.PendingCause.TheVariants as why
use Rattle.core_world.specs.Words.Forms.{is_entering}
use Rattle.core_world.specs.Threads.ThreadView.{Local, StepMade}
use Rattle.core_world.specs.Locks.{hold_count}
use Rattle.core_world.specs.Trees.Plans.{top_place, CallContext, load, done_with}
use Rattle.core_world.specs.Trees.StepTree.{StepTree, done, ◌>>=◌}
use Rattle.core_world.specs.Trees.LockSteps.{log_enter_steps, entered_steps, hold_steps, stack_enter_at, leave_steps, clear_steps}
use Rattle.core_world.specs.Trees.LockSteps.{stack_exit_by, stack_exit_at, stack_exit_record, raise_steps, stack_exit_steps}
use Rattle.core_world.specs.Words.Names.{same_name}
use Rattle.core_calls.specs.Paths.{made, Always, Leaves}
use Rattle.core_calls.specs.Causes.{Loaded, Missed}
use Rattle.core_calls.specs.CallsSay.{IsPendingBy, StackOutSays}
use Rattle.core_calls.proofs.Paths.{Saw, saw_load, missed_loaded, missed_seen, always_then, either_way, Silent, Still, still}
use Rattle.core_calls.proofs.Paths.{still_leaves, still_more}
use Rattle.core_calls.proofs.Paths.{now_silent, now_logged, still_logged, missed, missed_last}
use Rattle.core_calls.proofs.Reasons.{Sees}

-- a mark that was loaded and is being inflated is 0
pub zero_loaded : (at : WordId) (ms : List StepMade) (mark : ℕ) → read_mark mark ≡ Some Inflating → Loaded at mark ms → Loaded at 0 ms
zero_loaded at ms mark is loaded = subst (λ word. Loaded at word ms) (read_mark-spells mark Inflating is).1 loaded

module _ (e : CallContext) (k : Local) (o : ℕ) where
  -- the Enter is logged, and nothing is unfinished
  abbrev pub Entered : List StepMade → Path → Type 0
  Entered ms path = Leaves (entry.Enter o path ∷ []) None e.check ms

  pub log_enter_says : (path : Path) (ms : List StepMade) → Still ms → Always Entered ms (log_enter_steps e o path)
  log_enter_says path ms h = λ n. now_logged (entry.Enter o path) None e.check _ n ms refl refl refl refl h

  pub entered_says : (path : Path) (ms : List StepMade) → Still ms → Always Entered ms (entered_steps e k o path)
  entered_says path ms h =
      either_way Entered ms (is_entering k.wait) _ _ (λ _ n. log_enter_says path _ (still_more _ n ms refl h)) (λ _. log_enter_says path ms h)

  pub hold_says : (path : Path) (ms : List StepMade) → Still ms → Always Entered ms (hold_steps e k o path)
  hold_says path ms h = λ n. entered_says path _ (still_more _ n ms refl h)

  -- the same with nothing unfinished, and the Exit
  abbrev pub Exited : List StepMade → Unit {0} → Type 0
  Exited ms x = Leaves (entry.Exit o ∷ []) None e.check ms

  pub leave_says : (ms : List StepMade) → Still ms → Always Exited ms (leave_steps e k o)
  leave_says ms h = λ n. now_logged (entry.Exit o) None e.check _ n ms refl refl refl refl h

  pub clear_says : (ms : List StepMade) → Exited ms tt → Always Exited ms (clear_steps e k o)
  clear_says ms h = λ n. still_logged _ n ms refl refl refl refl (still h)

  pub raise_says : (ms : List StepMade) → Still ms → Always (λ ms _. Still ms) ms (raise_steps e k o)
  raise_says ms h = either_way (λ ms _. Still ms) ms (hold_count o k.holds == 1) _ _ (λ _ n. still_more _ n ms refl h) (λ _. h)

  -- the record that the mark names is left, or it isn't
  abbrev pub Out : List StepMade → StackOut → Type 0
  Out = StackOutSays k.thread o e.unfinished e.check

  -- and what a missed exchange expects was seen last
  abbrev pub OutSees : List StepMade → StackOut → Type 0
  OutSees ms (Not why) = Sees why ms
  OutSees ms _ = Unit {0}

  abbrev pub OutTells : List StepMade → StackOut → Type 0
  OutTells ms out = Out ms out × OutSees ms out

  left_says : (d : StepTree (Unit {0})) (ms : List StepMade) → Always Exited ms d → Always OutTells ms (d >>= λ _. done Left)
  left_says d ms h = always_then Exited OutTells d (λ _. done Left) ms h (λ ms x so. (so, tt))

  stack_exit_by_says : (header mark : ℕ) (ms : List StepMade) → Saw (Mark o) mark ms → Silent e ms
      → Always OutTells ms (stack_exit_by e k o header mark)
  stack_exit_by_says header mark ms loaded h = λ n.
      either_way OutTells _ (n == mark) _ _
      (λ hit. left_says (clear_steps e k o) _ (clear_says _ (now_logged (entry.Exit o) None e.check _ n ms hit refl refl refl (still h))))
      (λ miss.
      let race = missed_last _ n ms mark _ refl miss loaded in
      ((missed _ n ms miss h, record { among = refl; cause = missed_loaded _ race }), missed_seen _ race))

  stack_exit_at_says : (form : Option MarkForm) (header mark : ℕ) (ms : List StepMade) → read_mark mark ≡ form
      → Saw (Mark o) mark ms → Silent e ms → Always OutTells ms (stack_exit_at form e k o header mark)
  stack_exit_at_says (Some Inflating) header mark ms is loaded h =
      ((h, record { among = refl; cause = zero_loaded (Mark o) ms mark is loaded.0 }), tt)
  stack_exit_at_says (Some (Locked thread place)) header mark ms is loaded h = stack_exit_by_says header mark ms loaded h
  stack_exit_at_says (Some (Inflated monitor)) header mark ms is loaded h = ((h, (mark, is, loaded.0)), tt)
  stack_exit_at_says _ header mark ms is loaded h = tt

  stack_exit_record_says : (ms : List StepMade) → Still ms → Always OutTells ms (stack_exit_record e k o)
  stack_exit_record_says ms h = λ header.
      let silent = now_silent e _ header ms refl refl refl refl h in
      either_way OutTells _ (header == 0) _ _
      (λ _. left_says (leave_steps e k o) _ (leave_says _ (still silent)))
      (λ _ mark. stack_exit_at_says (read_mark mark) header mark _ refl
      (saw_load (load e (Mark o)) mark (made (load e (Displaced k.thread (top_place o k.holds))) header ∷ ms) refl)
      (still_leaves _ mark _ refl refl refl silent))

  pub stack_exit_says : (ms : List StepMade) → Still ms → Always OutTells ms (stack_exit_steps e k o)
  stack_exit_says ms h =
      always_then (λ ms _. Still ms) OutTells (raise_steps e k o) (λ _. stack_exit_record e k o) ms (raise_says ms h)
      (λ ms _ s. stack_exit_record_says ms s)

  module _ (For : PendingCause → List StepMade → Type 0) where
    abbrev pub EnterProgress : List StepMade → Progress Path → Type 0
    EnterProgress = IsPendingBy (λ path. entry.Enter o path ∷ []) For e.unfinished e.check

    pub held_says : (path : Path) (ms : List StepMade) → Still ms → Always EnterProgress ms (hold_steps e k o path >>= λ path. done_with path)
    held_says path ms h = always_then Entered EnterProgress (hold_steps e k o path) (λ path. done_with path) ms (hold_says path ms h) (λ ms path so. so)

    -- The mark that the exchange expects is one that the steps before had, and still had after the store of the displaced word.
    module _ (Had : WordId → ℕ → List StepMade → Type 0) (later : (m : StepMade) (word : ℕ) (ms : List StepMade)
        → same_name (Mark o) m.plan.at ≡ false → Had (Mark o) word ms
        → Had (Mark o) word (m ∷ ms)) (races : (expected found : ℕ) (ms : List StepMade) → Missed Had expected found ms
        → For (why.Raced expected found) ms) where
      pub stack_enter_says : (form : Option MarkForm) (mark : ℕ) (ms : List StepMade)
          → Had (Mark o) mark ms → Still ms → Always EnterProgress ms (stack_enter_at form e k o mark)
      stack_enter_says (Some (Neutral hash age)) mark ms had h = λ w n.
          let silent = now_silent e _ w ms refl refl refl refl h in
          either_way EnterProgress _ (n == mark) _ _
          (λ hit. held_says StackFirst _ (still_more _ n _ refl (still silent)))
          (λ miss. (
            still_leaves _ n _ refl refl refl silent,
            races mark n _ (missed_last {Had = Had} _ n _ mark _ refl miss (later _ mark ms refl had)),
          ))
      stack_enter_says (Some (Locked thread place)) mark ms had h = λ w. held_says StackAgain _ (still_more _ w ms refl h)
      stack_enter_says _ mark ms had h = tt
