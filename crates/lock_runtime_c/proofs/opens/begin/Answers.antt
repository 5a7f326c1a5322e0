use Rattle.std.proofs.Common.{◌≡◌, length, sym, ap, ◌∙◌, subst, arith}
use Rattle.core_law.specs.Logic.{Heap}
use Rattle.heap_table.specs.Seen.{first_passes}
use Rattle.lending.specs.Lending.{AreAt}
use Rattle.lock_runtime_c.specs.Rest.{IsHome}
use Rattle.lock_runtime_c.specs.inner.FirstLimits.{first_limit}
use Rattle.lock_runtime_c.proofs.Begins.{all_home, count_home, opens_wide}
use Rattle.lock_runtime_c.proofs.opens.begin.Goals as goal

pub returns-clause-home : goal.returns-clause-home
returns-clause-home c =
    let h = c.in_ok-heap.heap in
    let limit = first_limit c.args.plan.now.fuel in
    let threads = c.in_ok-shape.shape.threads in
    let same : c.into_vec.result.items ≡ first_passes h limit 0 threads = c.into_vec.ensures ∙ c.in_ok-heap.ensures.passes in
    subst (AreAt (IsHome h)) (sym same) (all_home h limit threads (opens_wide c.args.plan.now.fuel h.room c.in_ok-heap.ensures.room) c.in_ok-heap.ensures.fresh)

pub returns-clause-count : goal.returns-clause-count
returns-clause-count c =
    let h = c.in_ok-heap.heap in
    let limit = first_limit c.args.plan.now.fuel in
    let threads = c.in_ok-shape.shape.threads in
    let same : c.into_vec.result.items ≡ first_passes h limit 0 threads = c.into_vec.ensures ∙ c.in_ok-heap.ensures.passes in
    let long = ap length same ∙ count_home h limit 0 threads in
    let shape = ap (λ (b : Heap). b.shape.threads) c.in_ok-heap.ensures.heap in
    omega (arith, long, shape)
