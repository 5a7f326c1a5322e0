use Rattle.std.proofs.Common.{subst, sym}
use Rattle.lock_runtime_c.specs.declared.inner.Inner.{Inner}
use Rattle.lock_runtime_c.specs.inner.QuickCalls.{EntersWithin}
use Rattle.lock_runtime_c.proofs.enters.end_enter.Goals as goal

pub enter_on_within-answer-requires : goal.enter_on_within-answer-requires
enter_on_within-answer-requires c =
    let a = c.args in
    subst (λ (y : Inner). (x : Inner) × EntersWithin x y a.object a.now a.how) (sym c.deref_mut.ensures.value) c.requires.amid

pub returns : goal.returns
returns c =
    let a = c.args in
    let on = c.enter_on_within-answer in
    record {
      left = on.new.held;
      live = c.put.ensures.live;
      holds = c.put.ensures.held;
      answer = λ x came.
          on.ensures.answer x (subst (λ (y : Inner). EntersWithin x y a.object a.now a.how) (sym c.deref_mut.ensures.value) came);
    }
