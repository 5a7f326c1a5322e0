use Rattle.std.proofs.Common.{subst, sym}
use Rattle.core_world.specs.declared.heap_call.HeapCall.TheVariants.{Enter}
use Rattle.lock_runtime_c.specs.ByHandle.{Within}
use Rattle.lock_runtime_c.specs.Numbers.{answered}
use Rattle.lock_runtime_c.specs.declared.answers.Answer.{Answer}
use Rattle.lock_runtime_c.specs.declared.inner.Inner.{Inner}
use Rattle.lock_runtime_c.specs.declared.outcome.Outcome.{Outcome}
use Rattle.lock_runtime_c.specs.declared.outcome.Outcome.TheVariants.{Done}
use Rattle.lock_runtime_c.specs.declared.outcome.Said.TheVariants.{Entered}
use Rattle.lock_runtime_c.specs.inner.QuickCalls.{AnswersWithin, EntersWithin}
use Rattle.lock_runtime_c.proofs.ByHandle.{answers_back, answers_first, ends_back}
use Rattle.lock_runtime_c.proofs.QuickCalls.{entered_whole}
use Rattle.lock_runtime_c.proofs.Seated.{not_begun, whole_within}
use Rattle.lock_runtime_c.proofs.enters.enter_by.Goals as goal

-- the quick way made the whole
pub fill-requires : goal.fill-requires
fill-requires c =
    let a = c.args in
    (whole_within _ _ _ _ (Enter a.object a.now) (answered (Done (Entered c.in-Done.path))) (λ e. cc e)
    (λ h p q opened. entered_whole h p q a.object a.now c.in-Done.path opened) c.in-Done.ensures).0

pub returns-in-Done : goal.returns-in-Done
returns-in-Done c =
    let a = c.args in
    let whole = whole_within _ _ _ _ (Enter a.object a.now) (answered (Done (Entered c.in-Done.path))) (λ e. cc e)
    (λ h p q opened. entered_whole h p q a.object a.now c.in-Done.path opened) c.in-Done.ensures in
    let within = subst (λ (x : Inner). AnswersWithin x c.enter_within.new.held (Enter a.object a.now) (answered (Done (Entered c.in-Done.path))))
    c.deref_mut.ensures.value whole.1 in
    answers_back _ _ _ c.enter_within.new.held (Enter a.object a.now) _ (c.if-at-ne1.false, c.lend-held.ensures.held) c.if-at-ne1.false c.fill.ensures
    (subst (λ (b : Answer). AnswersWithin c.lend-held.result.value c.enter_within.new.held (Enter a.object a.now) b)
    (λ i. record { kind = 0; detail = sym c.path_number.ensures i; word = 0 }) within)

-- or it didn't begin, and does so anew
pub fill-requires-in-Not : goal.fill-requires-in-Not
fill-requires-in-Not c = (not_begun _ _ _ _ (Enter c.args.object c.args.now) (λ h p q came. came.0) c.in-Not.ensures).0

pub returns-in-Not : goal.returns-in-Not
returns-in-Not c =
    let t = Enter c.args.object c.args.now in
    let same = subst (λ (x : Inner). (z : Inner) (out : Outcome) → Within c.enter_within.new.held z t out → Within x z t out)
    c.deref_mut.ensures.value (not_begun _ _ _ _ t (λ h p q came. came.0) c.in-Not.ensures).1 in
    answers_first t _ _ _ _ c.enter_within.new.held _ (c.if-at-ne1.false, c.lend-held.ensures.held) c.if-at-ne1.false c.fill-in-Not.ensures same
    c.enter_slowly-in-Not.ensures

-- or what is left of it is made out of line
pub returns-in_default : goal.returns-in_default
returns-in_default c =
    let a = c.args in
    let From = λ (x : Inner). EntersWithin x c.enter_within.new.held a.object a.now c.enter_within.result in
    ends_back From _ _ _ (Enter a.object a.now) _ (c.if-at-ne1.false, c.lend-held.ensures.held)
    (subst From c.deref_mut.ensures.value c.enter_within.ensures) c.enter_rarely.ensures
