use Rattle.std.proofs.Common.{sym, ◌∙◌, subst, refl}
use Rattle.lock_runtime_c.specs.Planning.{BeginsBy, IsBegun}
use Rattle.lock_runtime_c.specs.declared.outcome.Outcome.TheVariants.{Misused}
use Rattle.lock_runtime_c.proofs.makes.biasrun_begin.Goals as goal

pub returns-in-Some : goal.returns-in-Some
returns-in-Some c =
    let out = c.args.out.now in
    record {
      outcome = Misused c.in-Some.why;
      is = c.answered.ensures;
      begins = subst (λ why. BeginsBy why (IsBegun c.args.threads c.args.entries c.args.hash_start c.args.biased) out out (Misused c.in-Some.why))
          (sym (sym c.not_begun.ensures ∙ c.in-Some.is)) (refl, refl);
    }
