use Rattle.std.proofs.Common.{ℕ, length, ap, subst, sym, ◌∙◌}
use Rattle.std.proofs.lemmas.List.{length-map}
use Rattle.object_program.specs.Valid.{IsProgram}
use Rattle.plain_machine.specs.Sound.{AreKept}
use Rattle.plain_machine.proofs.Starts.{beside_start}
use Rattle.plain_machine.proofs.machine.Machine.new.Goals as goal

pub invariant_of-result : goal.invariant_of-result
invariant_of-result c = record {
  sound = record {
    program = subst IsProgram c.program.view_is c.program.invariant;
    total = sym c.in_ok-objects.objects.ok.0 ∙ c.in_ok-objects.ensures.total;
    threads = ap length c.in_ok-threads.ensures.threads ∙ length-map _ _;
    few = c.in_ok-threads.ensures.few;
    kept =
        subst (λ (n : ℕ). AreKept n c.in_ok-threads.threads.items) (c.len.ensures ∙ c.in_ok-objects.objects.ok.0) c.in_ok-threads.ensures.kept;
    monitors = λ o. rw c.in_ok-objects.ensures.objects (beside_start _ _ o);
  };
  numbering = c.in_ok-register.ensures.numbers;
}
