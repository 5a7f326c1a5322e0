-- An exit that is left alone misses no exchange; a get answers what its slot has.
use Rattle.std.proofs.Common.{◌≡◌, ◌≢◌, ℕ, ◌==◌, cond, Bool, true, false, Option, Some, Result, Ok, Err, refl, sym, ap, ◌∙◌, subst, eq-eqb}
use Rattle.mark_word.specs.declared.mark.MarkForm.{MarkForm}
use Rattle.mark_word.specs.declared.mark.MarkForm.TheVariants.{Inflating, Locked, Inflated}
use Rattle.mark_word.specs.Mark.{read_mark}
use Rattle.plain_monitor.specs.ValueWords.{read_value}
use Rattle.core_world.specs.declared.word_id.WordId.{WordId}
use Rattle.core_world.specs.declared.word_id.WordId.TheVariants.{Mark, Slot, Displaced}
use Rattle.core_world.specs.declared.answer.StackOut.{StackOut}
use Rattle.core_world.specs.declared.answer.StackOut.TheVariants.{Left, Monitor, Not}
use Rattle.core_world.specs.declared.answer.Unguarded.{Unguarded}
use Rattle.plain_monitor.specs.declared.entry.Value.{Value}
use Rattle.core_world.specs.declared.heap_call.Operation.TheVariants as op
use Rattle.core_world.specs.declared.heap_call.HeapCall.TheVariants as task
use Rattle.core_world.specs.Locks.{hold_count}
use Rattle.core_world.specs.Threads.ThreadView.{Local, Start}
use Rattle.core_world.specs.Words.Forms.{is_biased}
use Rattle.core_world.specs.Trees.Plans.{CallContext, call_context, done_with, top_place}
use Rattle.core_world.specs.Trees.StepTree.{done, ◌>>=◌, ask}
use Rattle.core_world.specs.Trees.LockSteps.{raise_steps, stack_exit_steps, stack_exit_record, stack_exit_at}
use Rattle.core_world.specs.Trees.BiasSteps.{bias_exit_steps}
use Rattle.core_world.specs.Trees.MonitorSteps.{monitor_exit_steps}
use Rattle.core_world.specs.Trees.Operations.{exit_at, exit_going, exit_steps, answer, get_steps, get_plan, lone_context, value_found}
use Rattle.solo_progress.specs.Answers.{IsDone, RefusedWhere, guarded, out_by, out_due}
use Rattle.core_calls.specs.CallsSay.{has_none}
use Rattle.solo_progress.specs.Alone.{AnswersAlone}
use Rattle.solo_progress.proofs.OneRun.{Alone, alone_then, alone_either, answers_alone, refused_or, load_leaves, not_inflating, alone_past}

-- the mark of o is as it was
abbrev pub MarkIs : {A : Type 0} → ℕ → ℕ → (WordId → ℕ) → A → Type 0
MarkIs o mark g a = g (Mark o) ≡ mark

module _ (e : CallContext) (k : Local) (o mark : ℕ) where
  raise_alone : (f : WordId → ℕ) → f (Mark o) ≡ mark → Alone (MarkIs {A = Unit {0}} o mark) f (raise_steps e k o)
  raise_alone f is = alone_either (MarkIs o mark) f (hold_count o k.holds == 1) _ _ (λ _. is) (λ _. is)

  -- an exit under a bias
  bias_exit_alone : (f : WordId → ℕ) → f (Mark o) ≡ mark → Alone (MarkIs {A = Bool} o mark) f (bias_exit_steps e k o)
  bias_exit_alone f is =
      alone_then (MarkIs {A = Unit {0}} o mark) (MarkIs o mark) (raise_steps e k o) _ f (raise_alone f is)
      (λ g x here. alone_either (MarkIs o mark) _ (is_biased (g (Mark o))) _ _ (λ _. load_leaves (Mark o) (Mark o) g ∙ here)
      (λ _. load_leaves (Mark o) (Mark o) g ∙ here))

  -- an exit from a lock record, whose displaced word and mark are as they were
  abbrev header : WordId
  header = Displaced k.thread (top_place o k.holds)

  abbrev RecordIs : (WordId → ℕ) → (WordId → ℕ) → Unit {0} → Type 0
  RecordIs f g x = (g (Mark o) ≡ f (Mark o)) × (g header ≡ f header)

  pub stack_exit_alone : (f : WordId → ℕ) → f (Mark o) ≡ mark → mark ≢ 0 → Alone (λ g out. out ≡ out_due k o f) f (stack_exit_steps e k o)
  stack_exit_alone f is some =
      alone_then (RecordIs f) (λ g out. out ≡ out_due k o f) (raise_steps e k o) _ f
      (alone_either (RecordIs f) f (hold_count o k.holds == 1) _ _ (λ _. (refl, refl)) (λ _. (refl, refl))) by_record
    where
      by_form : (form : Option MarkForm) (displaced : ℕ) (g : WordId → ℕ) (found : ℕ) → g (Mark o) ≡ found → read_mark found ≡ form → found ≢ 0
          → out_by form ≡ out_due k o f → Alone (λ g out. out ≡ out_due k o f) g (stack_exit_at form e k o displaced found)
      by_form (Some Inflating) displaced g found here reads some is = absurd (not_inflating found some reads)
      by_form (Some (Locked thread place)) displaced g found here reads some is =
          alone_either (λ g out. out ≡ out_due k o f) _ (g (Mark o) == found) _ _ (λ _. is)
          (λ differ. absurd (cc (differ, eq-eqb (g (Mark o)) found here)))
      by_form (Some (Inflated monitor)) displaced g found here reads some is = is
      by_form _ displaced g found here reads some is = tt

      due : (b : Bool) → (f header == 0) ≡ b → cond b Left (out_by (read_mark (f (Mark o)))) ≡ out_due k o f
      due b e = ap (λ z. cond z Left (out_by (read_mark (f (Mark o))))) (sym e)

      by_record : (g : WordId → ℕ) (x : Unit {0}) → RecordIs f g x → Alone (λ g out. out ≡ out_due k o f) g (stack_exit_record e k o)
      by_record g x kept =
          alone_either (λ g out. out ≡ out_due k o f) _ (g header == 0) _ _ (λ zero. due true (ap (λ n. n == 0) (sym kept.1) ∙ zero))
          (λ other. by_form (read_mark (g (Mark o))) _ _ (g (Mark o)) (load_leaves (Mark o) (Mark o) g) refl (λ z. some (sym is ∙ sym kept.0 ∙ z))
          (ap (λ n. out_by (read_mark n)) kept.0 ∙ due false (ap (λ n. n == 0) (sym kept.1) ∙ other)))

  -- it is out, or is to leave by a monitor
  abbrev IsOut : StackOut → Type 0
  IsOut Left = Unit {0}
  IsOut (Monitor number) = Unit {0}
  IsOut (Not why) = ⊥

  is_out : (b : Bool) (form : Option MarkForm) → IsOut (cond b Left (out_by form))
  is_out true form = tt
  is_out false (Some (Inflated monitor)) = tt
  is_out false _ = tt

  exit_alone : (f : WordId → ℕ) → f (Mark o) ≡ mark → mark ≢ 0 → Alone (λ g a. IsDone a) f (exit_going e k o)
  exit_alone f is some =
      alone_then (MarkIs {A = Bool} o mark) (λ g a. IsDone a) (bias_exit_steps e k o) _ f (bias_exit_alone f is)
      (λ g biased here. alone_either (λ g a. IsDone a) g biased _ _ (λ _. tt)
      (λ _. alone_then (λ h out. out ≡ out_due k o g) (λ g a. IsDone a) (stack_exit_steps e k o) (λ out. exit_at out e k o) g
      (stack_exit_alone g here some)
      (λ h out so. by_out h out (subst IsOut (sym so) (is_out (g header == 0) (read_mark (g (Mark o))))))))
    where
      by_out : (g : WordId → ℕ) (out : StackOut) → IsOut out → Alone (λ g a. IsDone a) g (exit_at out e k o)
      by_out g Left h = tt
      by_out g (Not why) h = absurd h
      by_out g (Monitor number) h =
          alone_past (λ g a. IsDone a) (monitor_exit_steps e k o number) (λ _. done_with tt) g (λ g a. tt)

pub exits_through : (k : Start) (o : ℕ) (f : WordId → ℕ) → f (Mark o) ≢ 0
    → AnswersAlone f (exit_steps k o) (RefusedWhere (has_none k o) IsDone)
exits_through k o f some =
    let e = call_context (task.Exit o) op.Exit o in
    refused_or (has_none k o) _ IsDone (exit_going e k.local o) f (exit_alone e k.local o (f (Mark o)) f refl some)

pub gets_through : (k : Start) (o slot : ℕ) (f : WordId → ℕ)
    → AnswersAlone f (get_steps k o slot) (λ a. a ≡ guarded k o (value_found (read_value (f (Slot o slot)))))
gets_through k o slot f = answers_alone _ f (get_steps k o slot) (by_count (hold_count o k.local.holds == 0))
  where
    by_count : (b : Bool)
        → Alone (λ g (a : Result Value Unguarded). a ≡ cond {A = Result Value Unguarded} b (Err record {}) (Ok (value_found (read_value (f (Slot o slot)))))) f
        (cond b (done (Err record {}))
        (ask (get_plan (lone_context (task.Get o slot)) o slot) >>= λ found. answer (value_found (read_value found))))
    by_count true = refl
    by_count false = refl
