-- What is told of a handle that was emptied for the time of a call, and filled again.
use Rattle.std.proofs.Common.{◌≡◌, Some, sym, ◌∙◌, subst}
use Rattle.std.proofs.lemmas.Option.{same_Some}
use Rattle.core_world.specs.declared.heap_call.HeapCall.{HeapCall}
use Rattle.lock_runtime_c.specs.ByHandle.{Answers, ByHandle, ByHandleOf, Within}
use Rattle.lock_runtime_c.specs.declared.answers.Answer.{Answer}
use Rattle.lock_runtime_c.specs.declared.handle.Slot.{Slot}
use Rattle.lock_runtime_c.specs.declared.inner.Inner.{Inner}
use Rattle.lock_runtime_c.specs.declared.outcome.Outcome.{Outcome}
use Rattle.lock_runtime_c.specs.inner.QuickCalls.{AnswersWithin, Ends}

-- it had this, has that, and this became of the one
pub put_back : {R : Type 0} (Became : Inner → Inner → R → Type 0) (none : R) (before after : Slot) (x y : Inner) (r : R)
    → (before.live ≡ 1) × (before.handle.held ≡ Some x) → after.live ≡ 1 → after.handle.held ≡ Some y → Became x y r
    → ByHandleOf Became none before after r
put_back Became none before after x y r was live held became = record {
  had = λ z is_live holds. (y, live, held, subst (λ (i : Inner). Became i y r) (same_Some x z (sym was.1 ∙ holds)) became);
  empty = λ no. absurd (no was.0);
}

-- so of C's answer
pub answers_back : (before after : Slot) (x y : Inner) (t : HeapCall) (a : Answer) → (before.live ≡ 1) × (before.handle.held ≡ Some x)
    → after.live ≡ 1 → after.handle.held ≡ Some y → AnswersWithin x y t a → Answers before after t a
answers_back before after x y t a was live held w = record {
  outcome = w.outcome;
  is = w.is;
  by_handle = put_back (λ u v o. Within u v t o) _ before after x y w.outcome was live held w.within;
}

-- by what ended the call
pub ends_back : (From : Inner → Type 0) (before after : Slot) (x : Inner) (t : HeapCall) (a : Answer) → (before.live ≡ 1) × (before.handle.held ≡ Some x)
    → From x → Ends From t after a → Answers before after t a
ends_back From before after x t a was from ends = answers_back before after x ends.left t a was ends.live ends.holds (ends.answer x from)

-- by a call that was made once it was put back
pub put_back_first : (t : HeapCall) (before amid after : Slot) (x y : Inner) (out : Outcome) → (before.live ≡ 1) × (before.handle.held ≡ Some x)
    → amid.live ≡ 1 → amid.handle.held ≡ Some y → ((z : Inner) (o : Outcome) → Within y z t o → Within x z t o) → ByHandle amid after t out
    → ByHandle before after t out
put_back_first t before amid after x y out was live held same by = record {
  had = λ i is_live holds.
      let became = by.had y live held in (
        became.0,
        became.1,
        became.2,
        subst (λ (j : Inner). Within j became.0 t out) (same_Some x i (sym was.1 ∙ holds)) (same became.0 out became.3),
      );
  empty = λ no. absurd (no was.0);
}

pub answers_first : (t : HeapCall) (before amid after : Slot) (x y : Inner) (a : Answer) → (before.live ≡ 1) × (before.handle.held ≡ Some x)
    → amid.live ≡ 1 → amid.handle.held ≡ Some y → ((z : Inner) (o : Outcome) → Within y z t o → Within x z t o) → Answers amid after t a
    → Answers before after t a
answers_first t before amid after x y a was live held same w = record {
  outcome = w.outcome;
  is = w.is;
  by_handle = put_back_first t before amid after x y w.outcome was live held same w.by_handle;
}
