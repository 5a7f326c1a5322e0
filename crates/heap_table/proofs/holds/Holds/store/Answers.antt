use Rattle.std.proofs.Common.{◌≡◌, true, sym, ◌∙◌, arith}
use Rattle.std.specs.Prelude.{slice_set}
use Rattle.heap_table.specs.Held.{IsStacked}
use Rattle.heap_table.proofs.Stacked.{stacked_before}
use Rattle.heap_table.proofs.holds.Holds.store.Goals as goal
use Rattle.heap_table.proofs.holds.Holds.store.Goals.{Joined-self-known, then-self-known, else-self-known}

-- The words before the place are the same, and those that are in use from there on were looked at.
known : (c : Joined-self-known) → IsStacked c.stacked_before-known.result (slice_set c.args.self.now.words c.args.place c.args.word)
known c =
    let kept = c.stacked_before-known.ensures in
    stacked_before c.stacked_before-known.result c.args.place c.args.word c.args.self.now.words kept.stacked kept.before

stacks : (c : Joined-self-known) → c.if-self-known.self ≡ true
    → IsStacked c.used_after_store-self.result (slice_set c.args.self.now.words c.args.place c.args.word)
stacks c is = elim c.if-self-known.branch [
  | then-self-known w ↦ let fewer = w.if-self-known.true in λ i l. known c i (omega (arith, l, fewer))
  | else-self-known w ↦ w.are_stacked-self.ensures (sym w.self-is ∙ is)
]

pub invariant_of-self : goal.invariant_of-self
invariant_of-self c =
    let used = c.used_after_store-self.ensures in
    record {
      within = used.within;
      rest = used.rest;
      tight = used.tight;
      stacks = stacks (goal.at.invariant_of-self c).Joined-self-known;
    }
