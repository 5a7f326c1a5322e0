use Rattle.std.proofs.Common.{◌≡◌, ◌+◌, ◌*◌, ap, sym, ◌∙◌, refl, arith, length}
use Rattle.core_world.specs.Words.Shape.{Shape}
use Rattle.heap_table.specs.Layout.{widest, object_size}
use Rattle.heap_table.proofs.Sizes.{size_of, widest_few, words_few}
use Rattle.heap_table.proofs.shape.HeapShape.with_size.Goals as goal

pub size_for-size-requires : goal.size_for-size-requires
size_for-size-requires c =
    let few = widest_few _ c.requires in
    let is = c.widest.ensures ∙ ap widest c.deref.ensures.value in omega (arith, few, is)

-- how many words all objects have
module _ (c : goal.After-len) where
  abbrev shape : Shape
  shape = record { threads = c.args.threads; classes = c.args.classes; declared = c.args.declared; objects = c.args.objects.items }

  all : c.size_for-size.result * c.len.result ≡ object_size shape * length c.args.objects.items
  all =
      let size = c.size_for-size.ensures ∙ size_of shape c.widest.result (c.widest.ensures ∙ ap widest c.deref.ensures.value) in
      let many : c.len.result ≡ length c.args.objects.items = c.len.ensures ∙ sym c.deref.ensures.len ∙ ap length c.deref.ensures.value in
      λ i. size i * many i

pub overflow_mul-threads_at : goal.overflow_mul-threads_at
overflow_mul-threads_at c =
    let few = words_few (shape c) (length c.args.objects.items) c.requires c.requires.objects in let is = all c in omega (arith, few, is)

pub overflow_add-threads_at : goal.overflow_add-threads_at
overflow_add-threads_at c =
    let few = words_few (shape c) (length c.args.objects.items) c.requires c.requires.objects in
    let classes = c.requires.classes in let is = all c in omega (arith, few, classes, is)

pub invariant_of-result : goal.invariant_of-result
invariant_of-result c = (
  c.requires,
  c.size_for-size.ensures ∙ size_of _ c.widest.result (c.widest.ensures ∙ ap widest c.deref.ensures.value),
  refl,
  ap (λ n. 16 + 16 * c.args.classes + n) (all c),
)
