use Rattle.std.proofs.Common.{◌≡◌, ◌%◌, sym, ap, ◌∙◌, subst, arith}
use Rattle.std.proofs.lemmas.Nat.{mod_below}
use Rattle.core_world.specs.declared.word_id.WordId.TheVariants.{Ring}
use Rattle.core_world.specs.declared.plan.LocalEffect.TheVariants.{Claim}
use Rattle.core_world.specs.Trees.Plans.{with_own, load}
use Rattle.core_world.specs.Words.Shape.{Shape, ring_places}
use Rattle.heap_table.specs.Stepping.{CanStep, HasStepped}
use Rattle.heap_table.proofs.heap.Heap.fetch.Goals as goal

pub overflow_cast-place : goal.overflow_cast-place
overflow_cast-place c =
    let few = c.ring_places-places.ensures.few in
    let low = mod_below c.args.position c.ring_places-places.result (omega (arith, few.0)) in omega (arith, few.1, low)

pub load_and_keep-requires : goal.load_and_keep-requires
load_and_keep-requires c =
    let a = c.args in
    let places : c.ring_places-places.result ≡ ring_places a.self.now.heap.shape =
    c.ring_places-places.ensures.places ∙ ap (λ (s : Shape). ring_places s) c.shape.ensures in
    subst (CanStep a.self.now a.pass.now) (λ i. with_own Claim (load a.call.now (Ring (a.position % sym places i)))) c.requires

pub returns : goal.returns
returns c =
    let a = c.args in
    let places : c.ring_places-places.result ≡ ring_places a.self.now.heap.shape =
    c.ring_places-places.ensures.places ∙ ap (λ (s : Shape). ring_places s) c.shape.ensures in
    subst (λ plan. HasStepped a.self.now a.pass.now c.load_and_keep.new.pass plan c.load_and_keep.result)
    (λ i. with_own Claim (load a.call.now (Ring (a.position % places i)))) c.load_and_keep.ensures
