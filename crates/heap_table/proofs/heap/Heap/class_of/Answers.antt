use Rattle.std.proofs.Common.{◌≡◌, ℕ, ◌-◌, nat_lt, true, false, refl, sym, ap, ◌∙◌, subst, arith}
use Rattle.std.proofs.lemmas.Bool.Decides.{nat_tests}
use Rattle.core_world.specs.declared.word_id.WordId.TheVariants.{Class}
use Rattle.core_world.specs.Trees.Plans.{load_plan}
use Rattle.core_world.specs.Trees.StepTree.{done, step}
use Rattle.core_world.specs.Words.Shape.{Shape, class_in_shape}
use Rattle.heap_table.specs.Parts.{HasMadeSteps}
use Rattle.heap_table.proofs.Arms.{due_else, run_then, run_else}
use Rattle.heap_table.proofs.Forms.{found_formed, in_limits}
use Rattle.heap_table.proofs.Parts.{can, ends, last_step}
use Rattle.heap_table.proofs.heap.Heap.class_of.Goals as goal

pub class_of-requires : goal.class_of-requires
class_of-requires c = omega (arith, c.if-object-declared.true, c.declared.ensures.within)

pub returns-then-object-declared : goal.returns-then-object-declared
returns-then-object-declared c =
    let a = c.args in
    let h = a.self.now in
    let e = a.call.now in
    let p = a.pass.now in
    let s = h.heap.shape in
    let declared : c.declared.result ≡ s.declared = c.declared.ensures.same ∙ ap (λ (z : Shape). z.declared) c.shape-shape.ensures in
    let its : nat_lt a.object s.declared ≡ true = grind (arith, nat_tests, declared, c.if-object-declared.true) in
    let class : c.class_of.result ≡ class_in_shape s a.object =
    c.class_of.ensures.class ∙ ap (λ (z : Shape). class_in_shape z a.object) c.shape-shape.ensures in
    let plan = load_plan e a.stage (Class a.object) in
    run_then h p (nat_lt a.object s.declared) (done (class_in_shape s a.object)) (step plan (λ word. done (word - 1))) p c.class_of.result its
    (subst (λ (n : ℕ). HasMadeSteps h (done n) p p c.class_of.result) class (ends h p c.class_of.result c.requires.heap))

pub load-word-requires : goal.load-word-requires
load-word-requires c =
    let a = c.args in
    let h = a.self.now in
    let e = a.call.now in
    let s = h.heap.shape in
    let declared : c.declared.result ≡ s.declared = c.declared.ensures.same ∙ ap (λ (z : Shape). z.declared) c.shape-shape.ensures in
    let other : nat_lt a.object s.declared ≡ false = grind (arith, nat_tests, declared, c.if-object-declared.false) in
    let plan = load_plan e a.stage (Class a.object) in
    can h a.pass.now e.task plan (λ word. done (word - 1))
    (due_else h a.pass.now (nat_lt a.object s.declared) (done (class_in_shape s a.object)) (step plan (λ word. done (word - 1))) e.task c.requires.due other)
    refl c.requires.heap tt refl

pub returns : goal.returns
returns c =
    let a = c.args in
    let h = a.self.now in
    let e = a.call.now in
    let s = h.heap.shape in
    let declared : c.declared.result ≡ s.declared = c.declared.ensures.same ∙ ap (λ (z : Shape). z.declared) c.shape-shape.ensures in
    let other : nat_lt a.object s.declared ≡ false = grind (arith, nat_tests, declared, c.if-object-declared.false) in
    let plan = load_plan e a.stage (Class a.object) in
    let q = c.load-word.new.pass in
    let word = c.load-word.result in
    let step_made = c.load-word.ensures in
    run_else h a.pass.now (nat_lt a.object s.declared) (done (class_in_shape s a.object)) (step plan (λ word. done (word - 1))) q c.saturating_sub.result other
    (last_step h a.pass.now q plan (λ word. done (word - 1)) word c.saturating_sub.result c.load-word.ensures refl (ap done (sym c.saturating_sub.ensures)))

-- a class word is at most the number of classes, and there are few
pub overflow_cast-result : goal.overflow_cast-result
overflow_cast-result c =
    let a = c.args in
    let formed = found_formed a.self.now a.pass.now c.load-word.new.pass
    (load_plan a.call.now a.stage (Class a.object)) c.load-word.result c.load-word.ensures in
    let few = (in_limits a.self.now a.pass.now c.requires.heap).classes in
    omega (arith, formed, few, c.saturating_sub.ensures)
