use Rattle.std.proofs.Common.{subst, sym}
use Rattle.lock_runtime_c.specs.declared.inner.Inner.{Inner}
use Rattle.lock_runtime_c.specs.inner.QuickCalls.{ExitsWithin}
use Rattle.lock_runtime_c.proofs.exits.end_exit.Goals as goal

pub exit_on_within-answer-requires : goal.exit_on_within-answer-requires
exit_on_within-answer-requires c =
    let a = c.args in
    subst (λ (y : Inner). (x : Inner) × ExitsWithin x y a.object a.how) (sym c.deref_mut.ensures.value) c.requires.amid

pub returns : goal.returns
returns c =
    let a = c.args in
    let on = c.exit_on_within-answer in
    record {
      left = on.new.held;
      live = c.put.ensures.live;
      holds = c.put.ensures.held;
      answer = λ x came.
          on.ensures.answer x (subst (λ (y : Inner). ExitsWithin x y a.object a.how) (sym c.deref_mut.ensures.value) came);
    }
