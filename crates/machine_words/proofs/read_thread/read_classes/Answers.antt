use Rattle.std.proofs.Common.{rules, ◌≡◌, suc, ◌+◌, ◌<◌, [], length, drop, refl, sym, ap, ◌∙◌, arith, subst, ◌≤◌, ◌∷◌, length-append}
use Rattle.std.proofs.lemmas.Bool.Decides.{nat_tests}
use Rattle.std.proofs.lemmas.List.{set-get_or}
use Rattle.plain_monitor.specs.Limits.{most_made}
use Rattle.plain_monitor.specs.Made.{made_by}
use Rattle.machine_words.specs.Readers.{read_numbers}
use Rattle.machine_words.specs.inner.Telling.{IsLost, TellsNumbers}
use Rattle.machine_words.proofs.Loops.{fills_none, fills_step, fills_next, fills_all}
use Rattle.machine_words.proofs.ReadParts.{row_more}
use Rattle.machine_words.proofs.Lost.{lost_by, has_number}
use Rattle.machine_words.proofs.read_thread.read_classes.Goals as goal

pub loop-init : goal.loop-init
loop-init c =
    let first = c.args.register.now.made in
    record {
      numbering = refl;
      count = refl;
      fills = fills_none first c.args.count (drop c.args.at.now c.args.words.now) (sym (set-get_or first c.args.t []));
      grown = omega arith;
    }

pub loop-preserved : goal.loop-preserved
loop-preserved c =
    let inv = c.loop.invariant in
    let old = c.loop.register.made in
    let new = c.add.new.self.made in
    let here = c.in_ok-class.ensures.read in
    let within : c.args.t < length old = omega (arith, c.requires, inv.count) in
    let more = row_more c.args.t c.args.register.now.made old new c.in_ok-class.class within inv.fills.same c.add.ensures.made in
    record {
      numbering = c.add.ensures.numbering ∙ inv.numbering;
      count = more.2 ∙ inv.count;
      fills = fills_step new c.in_ok-class.class (drop c.take_number.new.at c.args.words.now) (omega arith) inv.fills more.0 more.1
          (λ n. ap (read_numbers (suc n)) here) (λ n h. (subst (TellsNumbers (suc n)) here h).1);
      grown =
          let one : length (made_by new c.args.t) ≡ length (made_by old c.args.t) + 1 =
          ap length more.1 ∙ length-append (made_by old c.args.t) (c.in_ok-class.class ∷ []) in
          omega (arith, one, inv.grown);
    }

pub returns-in_err-class-clause-lost : goal.returns-in_err-class-clause-lost
returns-in_err-class-clause-lost c =
    let lost : IsLost ((length (made_by c.args.register.now.made c.args.t) + c.args.count ≤ most_made)
    × TellsNumbers c.args.count (drop c.args.at.now c.args.words.now)) c.in_err-class.field-0.0 =
    lost_by c.in_err-class.field-0.0 (λ h. has_number _ (drop c.loop.at c.args.words.now) (fills_next (omega arith) c.loop.invariant.fills h.1))
    c.in_err-class.ensures.lost in
    search rules

pub returns-then-not-may_add-clause-lost : goal.returns-then-not-may_add-clause-lost
returns-then-not-may_add-clause-lost c =
    let most : most_made ≤ length (made_by c.loop.register.made c.args.t) = grind (arith, nat_tests, c.may_add.ensures, c.if-not-may_add.true) in
    λ h. omega (arith, h.0, c.loop.invariant.grown, most, c.loop-test.true)

pub returns-clause-made : goal.returns-clause-made
returns-clause-made c = (fills_all (omega arith) refl c.loop.invariant.fills).0

pub returns-clause-rest : goal.returns-clause-rest
returns-clause-rest c = (fills_all (omega arith) refl c.loop.invariant.fills).1
