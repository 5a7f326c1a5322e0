use Rattle.std.proofs.Common.{◌≡◌, ◌∙◌, List, Option, Some, IfSome, length, map, slice_get, slice_index_or, vec_len, sym, ap, subst, arith}
use Rattle.std.proofs.lemmas.List.{with_items_is}
use Rattle.std.proofs.lemmas.Result.{IfOk-weaker}
use Rattle.plain_monitor.specs.declared.entry.Logged.{Logged}
use Rattle.program_run.proofs.SameCopies.{same_copies}
use Rattle.program_run.proofs.copies.copy_logs.Goals as goal

pub for_each_mut-requires-clause-threads : goal.for_each_mut-requires-clause-threads
for_each_mut-requires-clause-threads g c = let some = c.requires in λ κs lives. omega (arith, some)

pub for_each_mut-requires-clause-accepts : goal.for_each_mut-requires-clause-accepts
for_each_mut-requires-clause-accepts g c = λ κs lives i copy within at.
    let places : length c.as_mut_slice.result.now ≡ length c.args.logs.now = ap length c.as_mut_slice.ensures.value ∙ c.in_ok-copies.ensures in
    omega (arith, within, places)

pub returns : goal.returns
returns g c =
    let logs : List (List Logged) = c.args.logs.now in
    let after : List (Option (List Logged)) = c.for_each_mut.new.s in
    let len : length after ≡ vec_len c.in_ok-copies.copies = c.for_each_mut.auto.s ∙ c.as_mut_slice.ensures.len in
    let places : length c.as_mut_slice.result.now ≡ length logs = ap length c.as_mut_slice.ensures.value ∙ c.in_ok-copies.ensures in
    IfOk-weaker c.all_of.result _ (λ copied. copied ≡ logs) (λ copied is.
    let are : after ≡ map Some copied = sym (with_items_is c.in_ok-copies.copies after len) ∙ is in
    same_copies logs copied (sym (ap length are) ∙ c.for_each_mut.auto.s ∙ places) (λ i d lt.
    subst (λ (l : List (Option (List Logged))). IfSome (slice_index_or l i d) (λ x. slice_get logs i ≡ Some x)) are
    (let at = (c.for_each_mut.ensures i d (omega (arith, lt, places))).1 in
    subst (λ z. IfSome z (λ x. slice_get logs i ≡ Some x)) at.left at.call))) c.all_of.ensures
