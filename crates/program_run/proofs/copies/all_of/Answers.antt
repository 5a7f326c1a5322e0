use Rattle.std.proofs.Common.{◌≡◌, List, [], ◌∷◌, ◌++◌, Option, Some, map, sym, ap, ◌∙◌}
use Rattle.std.proofs.lemmas.List.{map_push}
use Rattle.run_rounds.proofs.Pushed.{whole_on, all_before}
use Rattle.program_run.proofs.copies.all_of.Goals as goal

copied_on : {X : Type 0} (before : List (Option X)) (copied after : List X) (x : Option X) (y : X) → before ≡ map Some copied → x ≡ Some y
    → after ≡ copied ++ y ∷ [] → before ++ x ∷ [] ≡ map Some after
copied_on before copied after x y are is pushed = (λ i. are i ++ is i ∷ []) ∙ sym (map_push Some copied y) ∙ ap (map Some) (sym pushed)

pub loop-copy-init : goal.loop-copy-init
loop-copy-init c =
    record {
      whole = c.into_iter-copy-iterator.ensures.into_iter_gives.0;
      copied = sym (ap (map Some) c.in_ok-copied.ensures.items);
    }

pub loop-copy-preserved : goal.loop-copy-preserved
loop-copy-preserved c =
    let inv = c.loop-copy.invariant in
    let before = c.loop-copy.yielded in
    let rest = c.loop-copy.copy-iterator.rest.items in
    let x = c.in-Some.copy in
    record {
      whole = whole_on c.args.copies.items before rest inv.whole x c.next.new.self.rest.items c.in-Some.ensures.steps.0;
      copied =
          copied_on before c.loop-copy.copied.items c.push.new.self.items x c.in_ok-ok_or.field-0
          inv.copied c.in_ok-ok_or.ensures.ok_part c.in_ok-push.ensures.items;
    }

pub returns : goal.returns
returns c =
    let inv = c.loop-copy.invariant in
    let rest = c.loop-copy.copy-iterator.rest in
    sym (all_before c.args.copies.items c.loop-copy.yielded rest.items inv.whole (sym rest.ok.0 ∙ c.in-None.ensures.steps.0))
    ∙ inv.copied ∙ ap (map Some) (sym c.of.ensures)
