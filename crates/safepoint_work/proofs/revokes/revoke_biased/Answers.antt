use Rattle.std.proofs.Common.{◌≡◌, ◌∷◌, [], List, Some, refl, sym, ap, ◌∙◌, eq-eqb, ne_eqb}
use Rattle.mark_word.specs.declared.mark.MarkForm.TheVariants.{Biased}
use Rattle.core_world.specs.declared.word_id.WordId.TheVariants.{Mark}
use Rattle.core_world.specs.RevocationRules.{Write, write, revoke_biased}
use Rattle.core_world.specs.Trees.RevocationSteps.{store_steps, revoke_at}
use Rattle.heap_table.proofs.StepsLeft.{AreLeft, all_left, left_as, part_of}
use Rattle.safepoint_work.proofs.After.{left_after}
use Rattle.safepoint_work.proofs.RevokeSteps.{unheld_writes, held_writes}
use Rattle.safepoint_work.proofs.revokes.revoke_biased.Goals as goal
use Rattle.safepoint_work.proofs.revokes.revoke_biased.Goals.{After-load_holds-holds, After-free_mark-mark}

pub load_holds-holds-requires-clause-due : goal.load_holds-holds-requires-clause-due
load_holds-holds-requires-clause-due c =
    part_of (λ holds. store_steps c.args.call.now c.args.revocation.now (revoke_biased c.args.object c.args.thread c.args.allowed holds))
    (all_left c.requires.heap c.requires.due)

-- the hold words are loaded, and say which stores are left: the mark where they don't name the object
loaded : (c : After-load_holds-holds) (xs : List Write)
    → revoke_biased c.args.object c.args.thread c.args.allowed c.load_holds-holds.result ≡ xs
    → AreLeft c.args.heap.now c.args.call.now.task c.args.pass.now
    (revoke_at (Some (Biased c.args.thread 0 0)) c.args.call.now c.args.revocation.now c.args.object c.args.allowed) c.load_holds-holds.new.pass
    (store_steps c.args.call.now c.args.revocation.now xs)
loaded c xs same = left_as (left_after
    (λ holds. store_steps c.args.call.now c.args.revocation.now (revoke_biased c.args.object c.args.thread c.args.allowed holds))
    c.load_holds-holds.ensures refl (all_left c.requires.heap c.requires.due)) (ap (store_steps c.args.call.now c.args.revocation.now) same)

unheld : (c : After-free_mark-mark) → revoke_biased c.args.object c.args.thread c.args.allowed c.load_holds-holds.result
    ≡ (write (Mark c.args.object) c.free_mark-mark.result ∷ [])
unheld c =
    unheld_writes c.args.object c.args.thread c.args.allowed _ (eq-eqb _ _ (sym c.held_of.ensures.held ∙ c.if-held_of-eq0.true))
    ∙ ap (λ w. write (Mark c.args.object) w ∷ []) (sym c.free_mark-mark.ensures)

pub store_one-requires-clause-due : goal.store_one-requires-clause-due
store_one-requires-clause-due c =
    let z = goal.at.store_one-requires-clause-due c in
    (loaded z.After-load_holds-holds _ (unheld z.After-free_mark-mark)).due

pub returns-then-held_of-eq0 : goal.returns-then-held_of-eq0
returns-then-held_of-eq0 c =
    let z = goal.at.returns-then-held_of-eq0 c in
    (loaded z.After-load_holds-holds _ (unheld z.After-free_mark-mark)).whole _ _ c.store_one.ensures

pub lock_by_records-requires-clause-due : goal.lock_by_records-requires-clause-due
lock_by_records-requires-clause-due c =
    let some = ne_eqb _ _ (λ zero. c.if-held_of-eq0.false (c.held_of.ensures.held ∙ zero)) in
    let z = (goal.at.lock_by_records-requires-clause-due c).After-load_holds-holds in
    (loaded z _ (held_writes c.args.object c.args.thread c.args.allowed _ some)).due

pub returns : goal.returns
returns c =
    let some = ne_eqb _ _ (λ zero. c.if-held_of-eq0.false (c.held_of.ensures.held ∙ zero)) in
    (loaded (goal.at.returns c).After-load_holds-holds _ (held_writes c.args.object c.args.thread c.args.allowed _ some)).whole _ _
    c.lock_by_records.ensures
