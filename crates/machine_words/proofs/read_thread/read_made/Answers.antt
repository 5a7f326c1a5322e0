use Rattle.std.proofs.Common.{rules, ℕ, ◌+◌, ◌<◌, ◌≤◌, List, [], length, drop, refl, sym, ap, ◌∙◌, subst, arith, suc, ◌≡◌, ◌-◌}
use Rattle.machine_words.specs.MadeWords.{read_row}
use Rattle.machine_words.specs.inner.Reading.{Walks, row_step}
use Rattle.machine_words.proofs.Walking.{walks_none, walks_more, walks_all}
use Rattle.machine_words.proofs.WalkedParts.{rows_walked}
use Rattle.machine_words.specs.inner.Telling.{IsLost, TellsRows}
use Rattle.machine_words.proofs.Lost.{lost_by, row_next}
use Rattle.machine_words.proofs.read_thread.read_made.Goals as goal

pub loop-t-init : goal.loop-t-init
loop-t-init c =
    let first = c.args.register.now.made in
    let whole : length first - 0 ≡ length first = omega arith in
    record {
      numbering = refl;
      end = c.threads-t-end.ensures;
      walks = walks_none row_step c.args.register.now.made (drop c.args.at.now c.args.words.now);
      told = λ h. subst (λ (n : ℕ). TellsRows n (drop c.args.at.now c.args.words.now)) (sym whole) h;
    }

pub read_row-requires : goal.read_row-requires
read_row-requires c = omega (arith, c.loop-t.invariant.walks.count, c.loop-t.invariant.end)

pub loop-t-preserved : goal.loop-t-preserved
loop-t-preserved c =
    let inv = c.loop-t.invariant in
    let first = c.args.register.now.made in
    let ws = c.args.words.now in
    let rest : List ℕ = drop c.loop-t.at ws in
    let after : List ℕ = drop c.read_row.new.at ws in
    let within : c.loop-t.t < length c.loop-t.register.made = omega (arith, inv.walks.count, inv.end) in
    let more =
    walks_more (read_row rest).0 [] after inv.walks within refl c.in_ok-read_row.ensures.rest in
    record {
      numbering = c.in_ok-read_row.ensures.numbering ∙ inv.numbering;
      end = inv.end;
      walks = subst (λ (m : List (List ℕ)). Walks row_step first (drop c.args.at.now ws) (c.loop-t.t + 1) m after) (sym c.in_ok-read_row.ensures.made) more;
      told = λ h.
          let less : ℕ = length first - (c.loop-t.t + 1) in
          let left : length first - c.loop-t.t ≡ suc less = omega (arith, within, inv.walks.count) in
          subst (TellsRows less) (sym c.in_ok-read_row.ensures.rest) (row_next (length first - c.loop-t.t) less rest left (inv.told h)).1;
    }

pub returns-in_err-read_row-clause-lost : goal.returns-in_err-read_row-clause-lost
returns-in_err-read_row-clause-lost c =
    let inv = c.loop-t.invariant in
    let first = c.args.register.now.made in
    let here : List ℕ = drop c.loop-t.at c.args.words.now in
    let less : ℕ = length first - (c.loop-t.t + 1) in
    let left : length first - c.loop-t.t ≡ suc less = omega (arith, inv.walks.count, inv.end) in
    let lost : IsLost (TellsRows (length first) (drop c.args.at.now c.args.words.now)) c.in_err-read_row.field-0.0 =
    lost_by c.in_err-read_row.field-0.0 (λ h. (row_next (length first - c.loop-t.t) less here left (inv.told h)).0) c.in_err-read_row.ensures.lost in
    search rules

pub returns-clause-made : goal.returns-clause-made
returns-clause-made c =
    let inv = c.loop-t.invariant in
    let words : List ℕ = drop c.args.at.now c.args.words.now in
    let past : length c.loop-t.register.made ≤ c.loop-t.t = omega (arith, inv.walks.count, inv.end) in
    sym (walks_all inv.walks past).0 ∙ ap (λ (r : List (List ℕ) × List ℕ). r.0) (rows_walked 0 c.args.register.now.made words)

pub returns-clause-rest : goal.returns-clause-rest
returns-clause-rest c =
    let inv = c.loop-t.invariant in
    let words : List ℕ = drop c.args.at.now c.args.words.now in
    let past : length c.loop-t.register.made ≤ c.loop-t.t = omega (arith, inv.walks.count, inv.end) in
    sym (walks_all inv.walks past).1 ∙ ap (λ (r : List (List ℕ) × List ℕ). r.1) (rows_walked 0 c.args.register.now.made words)
