-- What the steps on a bias without a safepoint say.
use Rattle.std.proofs.Common.{◌≡◌, ◌⊎◌, ℕ, ◌==◌, cond, Bool, true, false, List, ◌∷◌, Option, Some, None, refl, inl, inr}
use Rattle.mark_word.specs.declared.mark.MarkForm.{MarkForm}
use Rattle.mark_word.specs.declared.mark.MarkForm.TheVariants.{Inflating, Neutral, Anonymous, Biased}
use Rattle.mark_word.specs.Mark.{read_mark}
use Rattle.plain_monitor.specs.declared.entry.Path.{Path}
use Rattle.plain_monitor.specs.declared.entry.Path.TheVariants.{BiasOwn, BiasTaken}
use Rattle.core_world.specs.declared.word_id.WordId.TheVariants.{Mark}
use Rattle.core_world.specs.declared.answer.BiasTry.{BiasTry}
use Rattle.core_world.specs.declared.answer.BiasTry.TheVariants.{Took, Unbiased, Valid, Raced}
use Rattle.core_world.specs.Words.Forms.{epoch_in, is_biased}
use Rattle.core_world.specs.Threads.ThreadView.{Local, StepMade}
use Rattle.core_world.specs.Words.Shape.{Shape}
use Rattle.core_world.specs.Trees.Plans.{CallContext, with_stage, load, swap}
use Rattle.core_world.specs.Trees.StepTree.{StepTree, done, ◌>>=◌, ask}
use Rattle.core_world.specs.Trees.LockSteps.{hold_steps, raise_steps, leave_steps}
use Rattle.core_world.specs.Trees.BiasSteps.{took_steps, unbias_swap_steps, rebias_steps, bias_enter_at, bias_enter_by}
use Rattle.core_world.specs.Trees.BiasSteps.{bias_enter_steps, bias_exit_steps, bias_drop_at, bias_drop_by}
use Rattle.core_world.specs.Trees.BiasSteps.{bias_drop_steps, stage_after, bias_after_at, bias_after_steps}
use Rattle.core_world.specs.declared.stage.Stage.TheVariants.{Settled}
use Rattle.core_calls.specs.Paths.{made, Always}
use Rattle.core_calls.specs.Causes.{Loaded, Put, Missed}
use Rattle.core_calls.proofs.Paths.{Saw, LastSeen, saw_load, saw_put, always_then, either_way, Silent, Still, still, still_leaves}
use Rattle.core_calls.proofs.Paths.{now_silent, missed_last, put_last, class_way}
use Rattle.core_calls.proofs.enter_exit.LocksSay.{zero_loaded, Entered, hold_says, raise_says, Exited, leave_says}

-- the end of a bias without a safepoint logs nothing
abbrev pub DropSays : CallContext → List StepMade → BiasTry → Type 0
DropSays e ms (Raced expected found) = Silent e ms × Missed Saw expected found ms
DropSays e ms _ = Silent e ms

module _ (e : CallContext) (o : ℕ) where
  pub unbias_says : (mark neutral : ℕ) (ms : List StepMade) → Saw (Mark o) mark ms
      → Silent e ms → Always (DropSays e) ms (unbias_swap_steps e o mark neutral)
  unbias_says mark neutral ms loaded h = λ n.
      let silent = still_leaves _ n ms refl refl refl h in
      either_way (DropSays e) _ (n == mark) _ _ (λ hit. silent) (λ miss. (silent, missed_last _ n ms mark _ refl miss loaded))

  drop_at_says : (form : Option MarkForm) (epoch mark : ℕ) (ms : List StepMade)
      → Saw (Mark o) mark ms → Silent e ms → Always (DropSays e) ms (bias_drop_at form epoch e o mark)
  drop_at_says (Some (Biased thread old age)) epoch mark ms loaded h =
      either_way (DropSays e) ms (old == epoch) _ _ (λ _. h) (λ _. unbias_says mark _ ms loaded h)
  drop_at_says (Some (Anonymous old age)) epoch mark ms loaded h = unbias_says mark _ ms loaded h
  drop_at_says _ epoch mark ms loaded h = tt

  drop_by_says : (epoch : Option ℕ) (mark prototype : ℕ) (ms : List StepMade) → Saw (Mark o) mark ms
      → Silent e ms → Always (DropSays e) ms (bias_drop_by epoch e o mark prototype)
  drop_by_says None mark prototype ms loaded h = unbias_says mark prototype ms loaded h
  drop_by_says (Some epoch) mark prototype ms loaded h = drop_at_says (read_mark mark) epoch mark ms loaded h

  pub bias_drop_says : (s : Shape) (ms : List StepMade) → Still ms → Always (DropSays e) ms (bias_drop_steps s e o)
  bias_drop_says s ms h = λ mark.
      let silent = now_silent e _ mark ms refl refl refl refl h in
      either_way (DropSays e) _ (is_biased mark) _ _
      (λ _. class_way (DropSays e) _ e Settled s o _
      (λ class prototype. drop_by_says (epoch_in prototype) mark prototype _
      (inr (saw_load (load e (Mark o)) mark ms refl).0, (saw_load (load e (Mark o)) mark ms refl).1)
      (still_leaves _ prototype _ refl refl refl silent))
      (λ word prototype. drop_by_says (epoch_in prototype) mark prototype _
      (inr (inr (saw_load (load e (Mark o)) mark ms refl).0), (saw_load (load e (Mark o)) mark ms refl).1)
      (still_leaves _ prototype _ refl refl refl (still_leaves _ word _ refl refl refl silent))))
      (λ _. silent)

module _ (e : CallContext) (k : Local) (o : ℕ) where
  -- A hold under a bias logs the Enter. Else nothing is logged; a mark without a bias was loaded, or put there by an exchange, and one that is being
  -- inflated was loaded.
  abbrev pub TrySays : List StepMade → BiasTry → Type 0
  TrySays ms (Took path) = Entered e k o ms path
  TrySays ms (Unbiased mark) =
      Silent e ms × (read_mark mark ≡ Some Inflating → Loaded (Mark o) 0 ms)
      × (Saw (Mark o) mark ms ⊎ (Put (Mark o) mark ms × LastSeen (Mark o) mark ms))
  TrySays ms (Valid mark) = Silent e ms
  TrySays ms (Raced expected found) = Silent e ms × Missed Saw expected found ms

  took_says : (by : Path) (ms : List StepMade) → Still ms → Always TrySays ms (took_steps e k o by)
  took_says by ms h = always_then (Entered e k o) TrySays (hold_steps e k o by) (λ path. done (Took path)) ms (hold_says e k o by ms h) (λ ms path so. so)

  rebias_says : (mark epoch : ℕ) (ms : List StepMade) → Saw (Mark o) mark ms → Silent e ms → Always TrySays ms (rebias_steps e k o mark epoch)
  rebias_says mark epoch ms loaded h = λ n.
      let silent = still_leaves _ n ms refl refl refl h in
      either_way TrySays _ (n == mark) _ _ (λ hit. took_says BiasTaken _ (still silent)) (λ miss. (silent, missed_last _ n ms mark _ refl miss loaded))

  enter_at_says : (form : Option MarkForm) (epoch mark : ℕ) (ms : List StepMade)
      → Saw (Mark o) mark ms → Silent e ms → Always TrySays ms (bias_enter_at form epoch e k o mark)
  enter_at_says (Some (Biased thread old age)) epoch mark ms loaded h =
      either_way TrySays ms (old == epoch) _ _
      (λ _. either_way TrySays ms (thread == k.thread) _ _ (λ _. took_says BiasOwn ms (still h)) (λ _. h))
      (λ _. rebias_says mark epoch ms loaded h)
  enter_at_says (Some (Anonymous old age)) epoch mark ms loaded h = rebias_says mark epoch ms loaded h
  enter_at_says _ epoch mark ms loaded h = tt

  -- an exchange for a neutral prototype
  neutral_says : (hash age mark prototype : ℕ) (ms : List StepMade) → read_mark prototype ≡ Some (Neutral hash age)
      → Saw (Mark o) mark ms → Silent e ms → Always TrySays ms (unbias_swap_steps e o mark prototype)
  neutral_says hash age mark prototype ms is loaded h = λ n.
      let silent = still_leaves _ n ms refl refl refl h in
      either_way TrySays _ (n == mark) _ _ (λ hit. (
        silent,
        λ inflating. absurd (cc (is, inflating)),
        inr (
          put_last (swap e (Mark o) mark prototype) n ms mark prototype refl hit,
          saw_put (swap e (Mark o) mark prototype) n ms mark prototype refl hit,
        ),
      )) (λ miss. (silent, missed_last _ n ms mark _ refl miss loaded))

  enter_by_says : (form : Option MarkForm) (mark prototype : ℕ) (ms : List StepMade) → read_mark prototype ≡ form
      → Saw (Mark o) mark ms → Silent e ms → Always TrySays ms (bias_enter_by form e k o mark prototype)
  enter_by_says (Some (Neutral hash age)) mark prototype ms is loaded h = neutral_says hash age mark prototype ms is loaded h
  enter_by_says (Some (Anonymous epoch age)) mark prototype ms is loaded h = enter_at_says (read_mark mark) epoch mark ms loaded h
  enter_by_says _ mark prototype ms is loaded h = tt

  pub bias_enter_says : (s : Shape) (ms : List StepMade) → Still ms → Always TrySays ms (bias_enter_steps s e k o)
  bias_enter_says s ms h = λ mark.
      let silent = now_silent e _ mark ms refl refl refl refl h in
      either_way TrySays _ (is_biased mark) _ _
      (λ _. class_way TrySays _ e Settled s o _
      (λ class prototype. enter_by_says (read_mark prototype) mark prototype _ refl
      (inr (saw_load (load e (Mark o)) mark ms refl).0, (saw_load (load e (Mark o)) mark ms refl).1)
      (still_leaves _ prototype _ refl refl refl silent))
      (λ word prototype. enter_by_says (read_mark prototype) mark prototype _ refl
      (inr (inr (saw_load (load e (Mark o)) mark ms refl).0), (saw_load (load e (Mark o)) mark ms refl).1)
      (still_leaves _ prototype _ refl refl refl (still_leaves _ word _ refl refl refl silent))))
      (λ _. (
        silent,
        λ is. zero_loaded (Mark o) (made (load e (Mark o)) mark ∷ ms) mark is (inl (refl, refl, refl)),
        inl (saw_load (load e (Mark o)) mark ms refl),
      ))

  after_at_says : (form : Option MarkForm) (ms : List StepMade) → Still ms → Always TrySays ms (bias_after_at form e k o)
  after_at_says (Some (Biased thread epoch age)) ms h = either_way TrySays ms (thread == k.thread) _ _ (λ _. took_says BiasTaken ms h) (λ _. tt)
  after_at_says _ ms h = tt

  pub bias_after_says : (took : Bool) (ms : List StepMade) → Silent e ms → Always TrySays ms (bias_after_steps e k o took)
  bias_after_says took ms h = λ mark.
      let silent = still_leaves _ mark ms refl refl refl h in
      either_way TrySays _ (is_biased mark) _ _
      (λ _. after_at_says (read_mark mark) _ (still silent))
      (λ _. (
        silent,
        λ is. zero_loaded (Mark o) (made (with_stage (stage_after took o) (load e (Mark o))) mark ∷ ms) mark is (inl (refl, refl, refl)),
        inl (saw_load (with_stage (stage_after took o) (load e (Mark o))) mark ms refl),
      ))

  -- under a bias the Exit is logged; else nothing is
  abbrev pub BiasExitSays : List StepMade → Bool → Type 0
  BiasExitSays ms true = Exited e k o ms tt
  BiasExitSays ms false = Still ms

  pub bias_exit_says : (ms : List StepMade) → Still ms → Always BiasExitSays ms (bias_exit_steps e k o)
  bias_exit_says ms h =
      always_then (λ ms _. Still ms) BiasExitSays (raise_steps e k o) (λ _. loads) ms (raise_says e k o ms h) (λ ms _ s mark.
      let silent = now_silent e _ mark ms refl refl refl refl s in
      either_way BiasExitSays _ (is_biased mark) _ _
      (λ _. always_then (Exited e k o) BiasExitSays (leave_steps e k o) (λ _. done true) _ (leave_says e k o _ (still silent)) (λ ms _ so. so))
      (λ _. still silent))
    where
      loads : StepTree Bool
      loads = ask (load e (Mark o)) >>= λ mark. cond (is_biased mark) (leave_steps e k o >>= λ _. done true) (done false)
