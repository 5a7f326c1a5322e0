use Rattle.std.proofs.Common.{◌≡◌, ◌<◌, ◌==◌, ◌&&◌, nat_lt, ltb-true, true, Err, refl, sym, ap, subst}
use Rattle.plain_monitor.specs.declared.entry.Value.{Value}
use Rattle.plain_monitor.specs.ValueWords.{read_value}
use Rattle.core_world.specs.declared.answer.Unguarded.{Unguarded}
use Rattle.core_world.specs.declared.heap_call.HeapCall.TheVariants.{Get}
use Rattle.core_world.specs.Locks.{hold_count}
use Rattle.core_world.specs.Threads.References.{has_reference}
use Rattle.core_world.specs.Trees.Calls.{steps_of, is_value, may_act}
use Rattle.core_world.specs.Trees.Operations.{lone_context, get_plan, value_found}
use Rattle.core_world.specs.Trees.StepTree.{done, ◌>>=◌, ask}
use Rattle.core_calls.proofs.OtherCallsSay.{get_says}
use Rattle.core_calls.proofs.Runs.{tells}
use Rattle.heap_table.specs.Resting.{start_now}
use Rattle.heap_table.proofs.Parts.{can, last_step}
use Rattle.heap_table.proofs.Resting.{at_rest}
use Rattle.lock_runtime.proofs.Begins.{room_one, first_of, second_of}
use Rattle.lock_runtime.proofs.StandsCalls.{get_leaves}
use Rattle.core_world.specs.Words.Shape.{slots_of}
use Rattle.lock_runtime.proofs.GetsValue.{slot_value}
use Rattle.lock_runtime.proofs.StandsBefore.{act_runs}
use Rattle.lock_runtime.proofs.Refused.{goes_by_log}
use Rattle.lock_runtime.proofs.Goes.{Goes, goes_due, goes_made, goes_rests}
use Rattle.lock_runtime.proofs.values.get_held.Goals as goal
use Rattle.lock_runtime.proofs.values.get_held.Goals.{After-alone-context}

-- the thread has a hold on the object, so the call goes on
goes : (c : After-alone-context) → let a = c.args in let p = a.pass.now in
    Goes {E = Unguarded} a.heap.now p (hold_count a.object p.known.holds == 0) (done (Err (record {})))
    (λ e. ask (get_plan e a.object a.slot) >>= (λ found. done (value_found (read_value found)))) (lone_context (Get a.object a.slot)) c.alone-context.result
unfolding steps_of
goes c = record {
  call = c.requires.may.call;
  steps = refl;
  goes = goes_by_log c.args.heap.now c.args.pass.now c.requires.may.call.rests c.args.object c.requires.held;
  context = c.alone-context.ensures;
}

pub log_get-word-requires : goal.log_get-word-requires
log_get-word-requires c =
    let a = c.args in
    let h = a.heap.now in
    let p = a.pass.now in
    let e = c.alone-context.result in
    let due = goes_due (goes (goal.at.log_get-word-requires c).After-alone-context) in
    let room = room_one h p (Get a.object a.slot) c.requires.may in
    can h p e.task (get_plan e a.object a.slot) _ due refl c.requires.may.call.rests.is_of room refl

pub returns : goal.returns
returns c =
    let a = c.args in
    let h = a.heap.now in
    let p = a.pass.now in
    let q = c.log_get-word.new.pass in
    let s = h.heap.shape in
    let call = c.requires.may.call in
    let plan = get_plan c.alone-context.result a.object a.slot in
    let word = c.log_get-word.result in
    let g = goes (goal.at.returns c).After-alone-context in
    let made = last_step h p q plan (λ found. done (value_found (read_value found))) word c.value_of_word.result c.log_get-word.ensures refl
    (ap (λ (v : Value). done v) (sym c.value_of_word.ensures)) in
    let run = goes_made g made in
    let at = has_reference s p.known a.object && nat_lt a.slot (slots_of s a.object) in
    let may = second_of at (may_act p.known) call.may in
    let low : a.slot < slots_of s a.object = ltb-true _ _ (second_of (has_reference s p.known a.object) _ (first_of at (may_act p.known) call.may)) in
    record {
      rests = goes_rests g tt refl made;
      run = run;
      says = tells (get_says (start_now h p) a.object a.slot) run.ran;
      stands = get_leaves h p q run.heap call.rests may a.object a.slot run.ran;
      -- the step found the word in a sound world, while its thread ran
      value = subst (λ (x : Value). is_value s x ≡ true) (sym c.value_of_word.ensures)
          (slot_value h.heap p.known plan a.object a.slot word refl c.log_get-word.ensures.stepped call.rests.is_of.within
          (act_runs s p.known (at_rest h p call.rests) may) low);
    }
