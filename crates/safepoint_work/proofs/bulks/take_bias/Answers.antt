use Rattle.std.proofs.Common.{◌≡◌, ◌∷◌, [], Bool, true, not, is_none, Some, refl, sym, ap, ◌∙◌}
use Rattle.mark_word.specs.declared.mark.MarkForm.TheVariants.{Biased}
use Rattle.mark_word.specs.Mark.{mark_of}
use Rattle.core_world.specs.declared.word_id.WordId.TheVariants.{Mark}
use Rattle.core_world.specs.RevocationRules.{write, store_where, biased_word}
use Rattle.core_world.specs.Words.Forms.{is_biased}
use Rattle.core_world.specs.Trees.Plans.{load_plan}
use Rattle.core_world.specs.Trees.RevocationSteps.{revocation_stage, store_steps, take_bias_steps}
use Rattle.core_world.specs.Trees.StepTree.{StepTree, done, ◌>>=◌}
use Rattle.heap_table.proofs.StepsLeft.{AreLeft, all_left, left_as, can_make, step_made, last_made}
use Rattle.safepoint_work.proofs.After.{made_as, due_as}
use Rattle.safepoint_work.proofs.bulks.take_bias.Goals as goal
use Rattle.safepoint_work.proofs.bulks.take_bias.Goals.{After-look-mark, After-encode-own}

-- the tree's words and the code's: of the load, and of the store of the thread's own mark
looks : (c : After-look-mark) → load_plan c.args.call.now (revocation_stage c.args.revocation.now) (Mark c.revocation.inside.object)
    ≡ load_plan c.args.call.now (revocation_stage c.args.revocation.now) (Mark c.args.revocation.now.object)
looks c = λ i. load_plan c.args.call.now (revocation_stage c.args.revocation.now) (Mark (c.revocation.view_is i).object)

stores : (c : After-encode-own) → store_steps c.args.call.now c.args.revocation.now (write (Mark c.revocation.inside.object) c.encode-own.result ∷ [])
    ≡ store_steps c.args.call.now c.args.revocation.now
    (write (Mark c.args.revocation.now.object) (mark_of (Biased c.args.pass.now.known.thread c.args.epoch 0)) ∷ [])
stores c =
    let word = c.encode-own.ensures ∙ ap (λ u. mark_of (Biased u c.args.epoch 0)) c.thread-thread.ensures.same in
    λ i. store_steps c.args.call.now c.args.revocation.now (write (Mark (c.revocation.view_is i).object) (word i) ∷ [])

pub look-mark-requires : goal.look-mark-requires
look-mark-requires c =
    can_make (all_left c.requires.heap c.requires.due)
    (λ i. load_plan c.args.call.now (revocation_stage c.args.revocation.now) (Mark (c.revocation.view_is i).object)) refl refl tt

-- the mark is loaded, and is biased
abbrev taking : (c : After-look-mark) → Bool → StepTree Bool
taking c x =
    let own = biased_word x (Some c.args.epoch) c.args.pass.now.known.thread in
    store_steps c.args.call.now c.args.revocation.now (store_where (Mark c.args.revocation.now.object) own) >>= (λ _. done (not (is_none own)))

looked : (c : After-look-mark) → is_biased c.look-mark.result ≡ true → AreLeft c.args.heap.now c.args.call.now.task c.args.pass.now
    (take_bias_steps c.args.call.now c.args.revocation.now (Some c.args.epoch) c.args.pass.now.known.thread) c.look-mark.new.pass (taking c true)
looked c biased =
    left_as (step_made (all_left c.requires.heap c.requires.due) (looks c) refl refl c.look-mark.ensures) (ap (taking c) biased)

pub store_one-requires-clause-due : goal.store_one-requires-clause-due
store_one-requires-clause-due c =
    let z = goal.at.store_one-requires-clause-due c in
    due_as (λ _. done true) (looked z.After-look-mark (sym c.is_biased.ensures ∙ c.if-is_biased.true)) (stores z.After-encode-own)

pub returns-then-is_biased : goal.returns-then-is_biased
returns-then-is_biased c =
    let z = goal.at.returns-then-is_biased c in
    last_made (λ _. done true) (made_as c.store_one.ensures (stores z.After-encode-own)) refl
    (looked z.After-look-mark (sym c.is_biased.ensures ∙ c.if-is_biased.true))
