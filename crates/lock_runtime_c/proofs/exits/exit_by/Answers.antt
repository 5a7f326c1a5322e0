use Rattle.std.proofs.Common.{subst}
use Rattle.core_world.specs.declared.heap_call.HeapCall.TheVariants.{Exit}
use Rattle.lock_runtime_c.specs.ByHandle.{Within}
use Rattle.lock_runtime_c.specs.Numbers.{answered}
use Rattle.lock_runtime_c.specs.declared.inner.Inner.{Inner}
use Rattle.lock_runtime_c.specs.declared.outcome.Outcome.{Outcome}
use Rattle.lock_runtime_c.specs.declared.outcome.Outcome.TheVariants.{Done}
use Rattle.lock_runtime_c.specs.declared.outcome.Said.TheVariants.{Nothing}
use Rattle.lock_runtime_c.specs.inner.QuickCalls.{AnswersWithin, ExitsWithin}
use Rattle.lock_runtime_c.proofs.ByHandle.{answers_back, answers_first, ends_back}
use Rattle.lock_runtime_c.proofs.QuickCalls.{left_whole}
use Rattle.lock_runtime_c.proofs.Seated.{not_begun, whole_within}
use Rattle.lock_runtime_c.proofs.exits.exit_by.Goals as goal

-- the quick way made the whole
pub fill-requires : goal.fill-requires
fill-requires c =
    let a = c.args in
    (whole_within _ _ _ _ (Exit a.object) (answered (Done Nothing)) (λ e. cc e)
    (λ h p q opened. left_whole h p q a.object opened) c.in-Left.ensures).0

pub returns-in-Left : goal.returns-in-Left
returns-in-Left c =
    let a = c.args in
    let whole = whole_within _ _ _ _ (Exit a.object) (answered (Done Nothing)) (λ e. cc e)
    (λ h p q opened. left_whole h p q a.object opened) c.in-Left.ensures in
    let within = subst (λ (x : Inner). AnswersWithin x c.exit_within.new.held (Exit a.object) (answered (Done Nothing)))
    c.deref_mut.ensures.value whole.1 in
    answers_back _ _ _ c.exit_within.new.held (Exit a.object) _ (c.if-at-ne1.false, c.lend-held.ensures.held) c.if-at-ne1.false c.fill.ensures within

-- or it didn't begin, and does so anew
pub fill-requires-in-Not : goal.fill-requires-in-Not
fill-requires-in-Not c = (not_begun _ _ _ _ (Exit c.args.object) (λ h p q came. came.0) c.in-Not.ensures).0

pub returns-in-Not : goal.returns-in-Not
returns-in-Not c =
    let t = Exit c.args.object in
    let same = subst (λ (x : Inner). (z : Inner) (out : Outcome) → Within c.exit_within.new.held z t out → Within x z t out)
    c.deref_mut.ensures.value (not_begun _ _ _ _ t (λ h p q came. came.0) c.in-Not.ensures).1 in
    answers_first t _ _ _ _ c.exit_within.new.held _ (c.if-at-ne1.false, c.lend-held.ensures.held) c.if-at-ne1.false c.fill-in-Not.ensures same
    c.exit_slowly-in-Not.ensures

-- or what is left of it is made out of line
pub returns-in_default : goal.returns-in_default
returns-in_default c =
    let a = c.args in
    let From = λ (x : Inner). ExitsWithin x c.exit_within.new.held a.object c.exit_within.result in
    ends_back From _ _ _ (Exit a.object) _ (c.if-at-ne1.false, c.lend-held.ensures.held)
    (subst From c.deref_mut.ensures.value c.exit_within.ensures) c.exit_rarely.ensures
