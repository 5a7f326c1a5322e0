-- The value of a slot: its thread runs, so every clause holds, and the word spells the value that the plain object has there.
use Rattle.std.proofs.Common.{◌≡◌, ℕ, ◌<◌, ◌&&◌, T, Bool, true, false, length, get_or, slice_get, Some, refl, sym, ap, ◌∙◌, subst, lt-ltb}
use Rattle.std.proofs.lemmas.Option.{slice_get-get_or}
use Rattle.plain_monitor.specs.declared.entry.Value.{Value}
use Rattle.plain_monitor.specs.declared.entry.Value.TheVariants.{Nil, Int, Ref}
use Rattle.plain_monitor.specs.ValueWords.{IsSpellable, read_value}
use Rattle.plain_monitor.proofs.ValuesRead.{read_value-spells}
use Rattle.core_world.specs.declared.word_id.WordId.TheVariants.{Slot}
use Rattle.core_world.specs.declared.plan.StepPlan.{StepPlan}
use Rattle.core_world.specs.Clauses.Slots.{IsHere}
use Rattle.core_world.specs.Locks.{object_of}
use Rattle.core_world.specs.Threads.ThreadView.{ThreadView}
use Rattle.core_world.specs.Trees.Calls.{is_value}
use Rattle.core_world.specs.Trees.Operations.{value_found}
use Rattle.core_world.specs.Valid.{Fits}
use Rattle.core_world.specs.Words.Shape.{Shape, slots_of}
use Rattle.core_world.specs.World.{World}
use Rattle.core_world.proofs.ObjectSlots.{slots_are}
use Rattle.core_law.specs.Logic.{Heap}
use Rattle.core_law.proofs.Standing.{fits_here}
use Rattle.heap_table.specs.Ruled.{Stepped}
use Rattle.heap_table.proofs.Knows.{was_of}

passed : (b : Bool) → T b → b ≡ true
passed true t = refl
passed false t = absurd t

-- a value that has a word, and names an object that is there, may stand in a slot
value_here : (s : Shape) (v : Value) → IsSpellable v → IsHere s v → is_value s v ≡ true
value_here s Nil spells here = refl
value_here s (Int i) spells here = λ j. passed _ spells.0.le j && passed _ spells.1.le j
value_here s (Ref o) spells here = lt-ltb o (length s.objects) here

pub slot_value : (heap : Heap) (k : ThreadView) (plan : StepPlan) (o slot word : ℕ) → plan.at ≡ Slot o slot → Stepped heap k plan word
    → k.thread < heap.shape.threads → k.running ≡ true → slot < slots_of heap.shape o
    → is_value heap.shape (value_found (read_value word)) ≡ true
slot_value heap k plan o slot word at stepped within runs low =
    let was = was_of heap k plan word stepped within in
    let v = was.stands in
    let w : World = v.world in
    let fits : Fits w v.objects = fits_here heap k v runs in
    let shape : w.shape ≡ heap.shape = λ i. (v.is_of i).shape in
    let slots = (object_of v.objects o).slots in
    let there : slot < length slots = subst (λ n. slot < n) (ap (λ (s : Shape). slots_of s o) (sym shape) ∙ sym (slots_are w v.objects fits o)) low in
    let value = get_or slots slot Nil in
    let got : slice_get slots slot ≡ Some value = slice_get-get_or slots slot Nil there in
    let found : w.words (Slot o slot) ≡ word = ap w.words (sym at) ∙ was.found in
    let reads : read_value word ≡ Some value = ap read_value (sym found) ∙ fits.slots.value o slot value got in
    ap (λ z. is_value heap.shape (value_found z)) reads ∙ ap (λ (s : Shape). is_value s value) (sym shape) ∙ value_here w.shape value
    (read_value-spells word value reads).0 (fits.slots.here o slot value got)
