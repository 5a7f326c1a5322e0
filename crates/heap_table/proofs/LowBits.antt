-- Marks of a heap by their low three bits, and own biases by one sum.
use Rattle.std.proofs.Common.{◌≡◌, ◌≢◌, ℕ, ◌+◌, ◌-◌, ◌*◌, ◌/◌, ◌%◌, ◌^◌, ◌<◌, ◌==◌, ◌&&◌, true, nat_lt, Option, Some, None, refl, ap, ◌∙◌, subst, arith}
use Rattle.std.proofs.lemmas.Bool.{cond_both}
use Rattle.std.proofs.lemmas.Bool.Decides.{nat_tests}
use Rattle.mark_word.specs.Mark.{IsMarkInRange, mark_of, read_mark}
use Rattle.mark_word.specs.Record.{is_record_word}
use Rattle.mark_word.specs.declared.mark.MarkForm.{MarkForm}
use Rattle.mark_word.specs.declared.mark.MarkForm.TheVariants.{Anonymous, Biased, Inflated, Inflating, Locked, Marked, Neutral}
use Rattle.mark_word.proofs.ReadingMarks.{read_mark-spells}
use Rattle.core_world.specs.Clauses.WordForms.{IsMark}
use Rattle.core_world.specs.Words.Forms.{is_biased, is_biased_form}
use Rattle.core_world.specs.declared.plan.StepPlan.{StepPlan}
use Rattle.core_world.specs.declared.word_id.WordId.{WordId}
use Rattle.core_world.specs.declared.word_id.WordId.TheVariants.{Mark}
use Rattle.core_world.specs.Threads.ThreadView.{ThreadView}
use Rattle.core_world.proofs.There.{IsFormed}
use Rattle.core_law.specs.Logic.{Heap}
use Rattle.heap_table.specs.Own.{IsOwn}
use Rattle.heap_table.specs.Ruled.{Stepped}
use Rattle.heap_table.specs.inner.Prototypes.{IsPrototypeForm}
use Rattle.heap_table.proofs.BiasPattern.{bias_by_bits}
use Rattle.heap_table.proofs.Forms.{stepped_formed}
use Rattle.heap_table.proofs.Own.{own_read}

abbrev Low : ℕ → Option MarkForm → Type 0
Low w f = f ≢ None → (w % 8 == 5) ≡ is_biased_form f

-- a mark that spells a form has the bias pattern where its low bits are 101
pub biased_by_low : (w : ℕ) → read_mark w ≢ None → (w % 8 == 5) ≡ is_biased w
unfolding read_mark
biased_by_low w =
    cond_both (w == 0) _ _ (Low w) (λ h g. grind (arith, nat_tests)) (λ _.
    cond_both (w == 3) _ _ (Low w) (λ h g. grind (arith, nat_tests)) (λ _.
    cond_both (is_record_word w) _ _ (Low w) (λ h g. grind (arith, nat_tests)) (λ _.
    cond_both (w % 8 == 1) _ _ (Low w) (λ h.
    cond_both (nat_lt (w / 8 % 32) 16 && nat_lt (w / 256) (2 ^ 31)) _ _ (Low w) (λ _ g. grind (arith, nat_tests)) (λ _ g. absurd (g refl))) (λ _.
    cond_both (w % 8 == 2) _ _ (Low w) (λ h.
    cond_both (nat_lt 0 (w / 8) && nat_lt (w / 8) (2 ^ 20 + 1)) _ _ (Low w) (λ _ g. grind (arith, nat_tests)) (λ _ g. absurd (g refl))) (λ _.
    cond_both (w % 8 == 5) _ _ (Low w) (λ h.
    cond_both (nat_lt (w / 8 % 32) 16 && nat_lt (w / 1024) 33) _ _ (Low w) (λ _.
    cond_both (w / 1024 == 0) _ _ (λ f. Low w (Some f)) (λ _ g. h) (λ _ g. h)) (λ _ g. absurd (g refl))) (λ _ g. absurd (g refl)))))))

-- and each mark that a step finds spells one
pub found_mark : (h : Heap) (k : ThreadView) (said plan : StepPlan) (o n : ℕ) → said ≡ plan → plan.at ≡ Mark o → Stepped h k said n → read_mark n ≢ None
found_mark h k said plan o n same at found none =
    let formed = subst (λ (m : WordId). IsFormed h.shape m n) (ap (λ (p : StepPlan). p.at) same ∙ at) (stepped_formed h k said n found) in
    subst (IsMark h.shape) none formed

-- WHAT FEW OF ITS BITS TELL of a mark that spells a form
module _ (w : ℕ) (says : read_mark w ≢ None) where
  -- what holds of each form with this word holds of the one that it spells
  by_form : (F : Option MarkForm → Type 0) → ((f : MarkForm) → IsMarkInRange f → w ≡ mark_of f → F (Some f)) → F (read_mark w)
  by_form F each = at (read_mark w) refl
    where
      at : (f : Option MarkForm) → read_mark w ≡ f → F f
      at None none = absurd (says none)
      at (Some f) form = let spells = read_mark-spells w f form in each f spells.0 spells.1

  -- It names a monitor,
  abbrev IsInflated : Option MarkForm → Type 0
  IsInflated f = (0 < w / 8) × (w / 8 < 2 ^ 21) × (Some (Inflated (w / 8 - 1)) ≡ f)

  pub inflated_low : w % 4 ≡ 2 → IsInflated (read_mark w)
  inflated_low low = by_form IsInflated each
    where
      each : (f : MarkForm) → IsMarkInRange f → w ≡ mark_of f → IsInflated (Some f)
      each Inflating few is = absurd (omega (arith, is, low))
      each (Neutral hash age) few is = absurd (omega (arith, is, low))
      each (Anonymous epoch age) few is = absurd (omega (arith, is, low))
      each (Biased thread epoch age) few is = absurd (omega (arith, is, low))
      each (Locked thread place) few is = absurd (omega (arith, is, low))
      each (Inflated monitor) few is = (omega (arith, is), omega (arith, is, few), ap (λ n. Some (Inflated n)) (omega (arith, is)))
      each Marked few is = absurd (omega (arith, is, low))

  -- is being inflated,
  abbrev IsInflating : Option MarkForm → Type 0
  IsInflating f = Some Inflating ≡ f

  pub inflating_low : w ≡ 0 → IsInflating (read_mark w)
  inflating_low none = by_form IsInflating each
    where
      each : (f : MarkForm) → IsMarkInRange f → w ≡ mark_of f → IsInflating (Some f)
      each Inflating few is = refl
      each (Neutral hash age) few is = absurd (omega (arith, is, none))
      each (Anonymous epoch age) few is = absurd (omega (arith, is, none))
      each (Biased thread epoch age) few is = absurd (omega (arith, is, none))
      each (Locked thread place) few is = absurd (omega (arith, is, none))
      each (Inflated monitor) few is = absurd (omega (arith, is, none))
      each Marked few is = absurd (omega (arith, is, none))

  -- names a lock record,
  abbrev IsLocked : Option MarkForm → Type 0
  IsLocked f = (0 < w / 4096) × (w / 4096 < 33) × (Some (Locked (w / 4096 - 1) (w / 8 % 512)) ≡ f)

  pub locked_low : w % 4 ≡ 0 → w ≢ 0 → IsLocked (read_mark w)
  locked_low low some = by_form IsLocked each
    where
      each : (f : MarkForm) → IsMarkInRange f → w ≡ mark_of f → IsLocked (Some f)
      each Inflating few is = absurd (some is)
      each (Neutral hash age) few is = absurd (omega (arith, is, low))
      each (Anonymous epoch age) few is = absurd (omega (arith, is, low))
      each (Biased thread epoch age) few is = absurd (omega (arith, is, low))
      each (Locked thread place) few is =
          let low_place = few.1 in
          let low_thread = few.0 in
          let of : w / 4096 - 1 ≡ thread = omega (arith, is, low_place) in
          let at : w / 8 % 512 ≡ place = omega (arith, is, low_place) in
          (omega (arith, is), omega (arith, is, low_thread, low_place), λ i. Some (Locked (of i) (at i)))
      each (Inflated monitor) few is = absurd (omega (arith, is, low))
      each Marked few is = absurd (omega (arith, is, low))

  -- is neutral,
  abbrev IsNeutral : Option MarkForm → Type 0
  IsNeutral f = (w / 256 < 2 ^ 31) × (Some (Neutral (w / 256) (w / 8 % 32)) ≡ f)

  pub neutral_low : w % 8 ≡ 1 → IsNeutral (read_mark w)
  neutral_low low = by_form IsNeutral each
    where
      each : (f : MarkForm) → IsMarkInRange f → w ≡ mark_of f → IsNeutral (Some f)
      each Inflating few is = absurd (omega (arith, is, low))
      each (Neutral hash age) few is =
          let low_hash = few.0 in
          let young = few.1 in
          let hashed : w / 256 ≡ hash = omega (arith, is, young) in
          let aged : w / 8 % 32 ≡ age = omega (arith, is, young) in
          (omega (arith, is, low_hash, young), λ i. Some (Neutral (hashed i) (aged i)))
      each (Anonymous epoch age) few is = absurd (omega (arith, is, low))
      each (Biased thread epoch age) few is = absurd (omega (arith, is, low))
      each (Locked thread place) few is = absurd (omega (arith, is, low))
      each (Inflated monitor) few is = absurd (omega (arith, is, low))
      each Marked few is = absurd (omega (arith, is, low))

  -- is the one for the garbage collector,
  abbrev IsMarked : Option MarkForm → Type 0
  IsMarked f = Some Marked ≡ f

  pub marked_low : w % 8 ≡ 3 → IsMarked (read_mark w)
  marked_low low = by_form IsMarked each
    where
      each : (f : MarkForm) → IsMarkInRange f → w ≡ mark_of f → IsMarked (Some f)
      each Inflating few is = absurd (omega (arith, is, low))
      each (Neutral hash age) few is = absurd (omega (arith, is, low))
      each (Anonymous epoch age) few is = absurd (omega (arith, is, low))
      each (Biased thread epoch age) few is = absurd (omega (arith, is, low))
      each (Locked thread place) few is = absurd (omega (arith, is, low))
      each (Inflated monitor) few is = absurd (omega (arith, is, low))
      each Marked few is = refl

  -- has a bias to none,
  abbrev IsAnonymous : Option MarkForm → Type 0
  IsAnonymous f = Some (Anonymous (w / 256 % 4) (w / 8 % 32)) ≡ f

  pub anonymous_low : 4 < w % 8 → w / 1024 ≡ 0 → IsAnonymous (read_mark w)
  anonymous_low low none = by_form IsAnonymous each
    where
      each : (f : MarkForm) → IsMarkInRange f → w ≡ mark_of f → IsAnonymous (Some f)
      each Inflating few is = absurd (omega (arith, is, low, none))
      each (Neutral hash age) few is = absurd (omega (arith, is, low, none))
      each (Anonymous epoch age) few is =
          let low_epoch = few.0 in
          let young = few.1 in
          let counted : w / 256 % 4 ≡ epoch = omega (arith, is, low_epoch, young) in
          let aged : w / 8 % 32 ≡ age = omega (arith, is, young) in
          λ i. Some (Anonymous (counted i) (aged i))
      each (Biased thread epoch age) few is = absurd (omega (arith, is, none))
      each (Locked thread place) few is = absurd (omega (arith, is, low, none))
      each (Inflated monitor) few is = absurd (omega (arith, is, low, none))
      each Marked few is = absurd (omega (arith, is, low, none))

  -- or has one to a thread.
  abbrev IsBiasedTo : Option MarkForm → Type 0
  IsBiasedTo f = (0 < w / 1024) × (w / 1024 < 33) × (Some (Biased (w / 1024 - 1) (w / 256 % 4) (w / 8 % 32)) ≡ f)

  pub biased_to_low : 4 < w % 8 → w / 1024 ≢ 0 → IsBiasedTo (read_mark w)
  biased_to_low low some = by_form IsBiasedTo each
    where
      each : (f : MarkForm) → IsMarkInRange f → w ≡ mark_of f → IsBiasedTo (Some f)
      each Inflating few is = absurd (omega (arith, is, low))
      each (Neutral hash age) few is = absurd (omega (arith, is, low))
      each (Anonymous epoch age) few is = let low_epoch = few.0 in let young = few.1 in absurd (some (omega (arith, is, low_epoch, young)))
      each (Biased thread epoch age) few is =
          let low_thread = few.0 in
          let low_epoch = few.1 in
          let young = few.2 in
          let of : w / 1024 - 1 ≡ thread = omega (arith, is, low_epoch, young) in
          let counted : w / 256 % 4 ≡ epoch = omega (arith, is, low_epoch, young) in
          let aged : w / 8 % 32 ≡ age = omega (arith, is, young) in
          (omega (arith, is), omega (arith, is, low_thread, low_epoch, young), λ i. Some (Biased (of i) (counted i) (aged i)))
      each (Locked thread place) few is = absurd (omega (arith, is, low))
      each (Inflated monitor) few is = absurd (omega (arith, is, low))
      each Marked few is = absurd (omega (arith, is, low))

biased_low : (m : ℕ) → is_biased m ≡ true → m % 8 ≡ 5
biased_low m biased = let bits = bias_by_bits m ∙ biased in grind (arith, nat_tests, bits)

-- A prototype has room for a thread above its bits.
pub prototype_small : (p : ℕ) → IsPrototypeForm (read_mark p) → p < 2 ^ 40
prototype_small p = by_form (read_mark p) refl
  where
    by_form : (f : Option MarkForm) → read_mark p ≡ f → IsPrototypeForm f → p < 2 ^ 40
    by_form (Some (Neutral hash age)) form its =
        let spells = read_mark-spells p (Neutral hash age) form in
        let few = spells.0.0 in
        let young = spells.0.1 in
        let is = spells.1 in
        omega (arith, few, young, is)
    by_form (Some (Anonymous epoch age)) form its =
        let spells = read_mark-spells p (Anonymous epoch age) form in
        let few = spells.0.0 in
        let young = spells.0.1 in
        let is = spells.1 in
        omega (arith, few, young, is)
    by_form _ form its = absurd its

-- A mark with the bias pattern that is the sum of a prototype and a thread's bits is that thread's own bias: of a neutral prototype such a sum has no bias
-- pattern.
pub own_by_sum : (m p t : ℕ) → IsPrototypeForm (read_mark p) → is_biased m ≡ true → m ≡ p + (t + 1) * 1024 → IsOwn m p t
own_by_sum m p t its biased sum = by_form (read_mark p) refl its
  where
    by_form : (f : Option MarkForm) → read_mark p ≡ f → IsPrototypeForm f → IsOwn m p t
    by_form (Some (Neutral hash age)) form its =
        let is = (read_mark-spells p (Neutral hash age) form).1 in
        let low = biased_low m biased in
        absurd (omega (arith, is, low, sum))
    by_form (Some (Anonymous epoch age)) form its =
        let spells = read_mark-spells p (Anonymous epoch age) form in
        let few = spells.0.0 in
        let young = spells.0.1 in
        let is = spells.1 in
        own_read m p t biased (omega (arith, few, young, is)) (omega (arith, few, young, is)) (omega (arith, few, young, is)) (omega (arith, few, young, is, sum))
    by_form _ form its = absurd its
