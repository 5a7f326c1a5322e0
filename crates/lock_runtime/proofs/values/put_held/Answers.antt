use Rattle.std.proofs.Common.{◌≡◌, ◌==◌, ◌&&◌, nat_lt, Err, refl, sym, ap, subst}
use Rattle.plain_monitor.specs.declared.entry.Entry.TheVariants as entry
use Rattle.plain_monitor.proofs.ValuesRead.{word_of-only}
use Rattle.core_world.specs.declared.answer.Unguarded.{Unguarded}
use Rattle.core_world.specs.declared.word_id.WordId.TheVariants.{Slot}
use Rattle.core_world.specs.declared.plan.StepPlan.{StepPlan}
use Rattle.core_world.specs.declared.stage.Stage.TheVariants.{Settled}
use Rattle.core_world.specs.declared.heap_call.HeapCall.TheVariants.{Put}
use Rattle.core_world.specs.Locks.{hold_count}
use Rattle.core_world.specs.Threads.References.{has_reference, has_value}
use Rattle.core_world.specs.Trees.Calls.{steps_of, may_act}
use Rattle.core_world.specs.Trees.Operations.{lone_context, put_plan}
use Rattle.core_world.specs.Trees.StepTree.{done, ◌>>=◌, ask}
use Rattle.core_world.specs.Words.Shape.{slots_of}
use Rattle.core_calls.proofs.OtherCallsSay.{put_says}
use Rattle.core_calls.proofs.Runs.{tells}
use Rattle.heap_table.specs.Resting.{start_now}
use Rattle.heap_table.specs.StepPlans.{log_store_plan}
use Rattle.heap_table.specs.Stepping.{CanStep, HasStepped}
use Rattle.heap_table.proofs.Parts.{can, last_step}
use Rattle.heap_table.proofs.Ruled.{few_objects}
use Rattle.lock_runtime.proofs.Begins.{room_one, spellable, first_of, second_of}
use Rattle.lock_runtime.proofs.StandsCalls.{put_leaves}
use Rattle.lock_runtime.proofs.Refused.{goes_by_log}
use Rattle.lock_runtime.proofs.Goes.{Goes, goes_due, goes_made, goes_rests}
use Rattle.lock_runtime.proofs.values.put_held.Goals as goal
use Rattle.lock_runtime.proofs.values.put_held.Goals.{After-alone-context, After-value_word}

pub value_word-requires : goal.value_word-requires
value_word-requires c =
    let a = c.args in
    let h = a.heap.now in
    let p = a.pass.now in
    let s = h.heap.shape in
    let at = has_reference s p.known a.object && nat_lt a.slot (slots_of s a.object) in
    let value = has_value s p.known a.value in
    spellable s p.known a.value (few_objects h p c.requires.may.call.rests.is_of)
    (second_of at value (first_of (at && value) (may_act p.known) c.requires.may.call.may))

-- the thread has a hold on the object, so the call goes on
goes : (c : After-alone-context) → let a = c.args in let p = a.pass.now in
    Goes {E = Unguarded} a.heap.now p (hold_count a.object p.known.holds == 0) (done (Err (record {})))
    (λ e. ask (put_plan e a.object a.slot a.value) >>= (λ _. done (tt {0}))) (lone_context (Put a.object a.slot a.value)) c.alone-context.result
unfolding steps_of
goes c = record {
  call = c.requires.may.call;
  steps = refl;
  goes = goes_by_log c.args.heap.now c.args.pass.now c.requires.may.call.rests c.args.object c.requires.held;
  context = c.alone-context.ensures;
}

-- the store of the value's word
storing : (c : After-value_word) → let a = c.args in let e = c.alone-context.result in
    log_store_plan e Settled (Slot a.object a.slot) c.value_word.result (entry.Put a.object a.slot a.value) ≡ put_plan e a.object a.slot a.value
storing c =
    let a = c.args in
    ap (λ word. log_store_plan c.alone-context.result Settled (Slot a.object a.slot) word (entry.Put a.object a.slot a.value))
    (word_of-only a.value c.value_word.result c.value_word.ensures)

pub log_store-requires : goal.log_store-requires
log_store-requires c =
    let a = c.args in
    let h = a.heap.now in
    let p = a.pass.now in
    let e = c.alone-context.result in
    let z = goal.at.log_store-requires c in
    let room = room_one h p (Put a.object a.slot a.value) c.requires.may in
    subst (CanStep h p) (sym (storing z.After-value_word))
    (can h p e.task (put_plan e a.object a.slot a.value) _ (goes_due (goes z.After-alone-context)) refl c.requires.may.call.rests.is_of room refl)

pub returns : goal.returns
returns c =
    let a = c.args in
    let h = a.heap.now in
    let p = a.pass.now in
    let q = c.log_store.new.pass in
    let s = h.heap.shape in
    let call = c.requires.may.call in
    let plan = put_plan c.alone-context.result a.object a.slot a.value in
    let found = c.log_store.result in
    let z = goal.at.returns c in
    let stored = subst (λ (x : StepPlan). HasStepped h p q x found) (storing z.After-value_word) c.log_store.ensures in
    let g = goes z.After-alone-context in
    let made = last_step h p q plan (λ _. done (tt {0})) found (tt {0}) stored refl refl in
    let run = goes_made g made in
    let may = second_of (has_reference s p.known a.object && nat_lt a.slot (slots_of s a.object) && has_value s p.known a.value) (may_act p.known) call.may in
    record {
      rests = goes_rests g tt refl made;
      run = run;
      says = tells (put_says (start_now h p) a.object a.slot a.value) run.ran;
      stands = put_leaves h p q run.heap call.rests may a.object a.slot a.value run.ran;
    }
