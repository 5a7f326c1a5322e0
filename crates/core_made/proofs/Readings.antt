-- What the law of what is there says of single objects.
use Rattle.std.proofs.Common.{◌≡◌, ℕ, zero, suc, ◌-◌, ◌≤◌, ◌==◌, ◌||◌, nat_lt, not, Bool, true, false, cond, List, [], ◌∷◌, take}
use Rattle.std.proofs.Common.{map, length, eq-eqb, ne_eqb, slice_get, slice_index_or, Some, refl, sym, ap, ◌∙◌, arith, inl, inr}
use Rattle.std.proofs.lemmas.Bool.Decides.{nat_tests}
use Rattle.std.proofs.lemmas.Option.{same_Some}
use Rattle.mark_word.specs.Mark.{read_mark}
use Rattle.core_world.specs.declared.word_id.WordId.TheVariants.{Class}
use Rattle.plain_monitor.specs.Objects.{PlainObject}
use Rattle.plain_monitor.specs.Made.{Numbering, first_made, class_if_there, is_there, made_by, maker_of, place_of, nothing_made}
use Rattle.plain_monitor.specs.Order.{order}
use Rattle.plain_history.proofs.NotThere.{not_there_is_new}
use Rattle.core_world.specs.Locks.{lock_form, prototype_of, owner_words, inflations}
use Rattle.core_world.specs.Valid.{Fits}
use Rattle.core_world.specs.Words.Forms.{is_biased, is_biased_form}
use Rattle.core_world.specs.Words.Names.{class_by, has_class}
use Rattle.core_world.specs.Words.Shape.{IsInLimits}
use Rattle.core_world.specs.Words.Shape.{class_in_shape as shape_class}
use Rattle.core_world.specs.World.{World, logs}
use Rattle.core_world.proofs.Readings.{mark_one}
use Rattle.core_world.specs.Threads.References.{numbering}
use Rattle.core_law.specs.MadeLaw.{MadeLawHolds, IsFree, IsUnmade, there_after}
use Rattle.bias_law.specs.Making.{IsUntouched}
use Rattle.core_made.specs.Steps.{is_there_in}
use Rattle.core_made.proofs.NewsLogged.{logged_are_there, unentered}
use Rattle.core_made.proofs.Numbers.{first_is_declared}

module _ (w : World) (P : List PlainObject) (o : ℕ) (v : Fits w P) (law : MadeLawHolds w) (e : is_there_in w o ≡ false) where
  absent : is_there (numbering w.shape) law.made o ≡ false
  absent = sym (ap (λ m. there_after (numbering w.shape) m o) law.in_time) ∙ e

  pub absent_is_free : IsFree w P o
  absent_is_free = record {
    lock = ap (λ m. lock_form m (prototype_of w o) (owner_words w) (inflations w o)) (ap read_mark (law.absent o absent).neutral ∙ mark_one);
    unheld = (law.absent o absent).unheld;
    plain = not_there_is_new (numbering w.shape) w.shape.objects (logs w) law.made P o law.in_time v.taken absent;
  }

  pub absent_is_untouched : IsUntouched w o
  absent_is_untouched = record {
    unlogged = logged_are_there w v.limits law o ∙ e;
    unentered = unentered (numbering w.shape) (order (logs w)) (nothing_made (numbering w.shape)) law.made o law.in_time absent;
    unbiased = ap is_biased (law.absent o absent).neutral ∙ ap is_biased_form mark_one;
    unheld = (law.absent o absent).unheld;
  }

-- THE CLASS of an object that is there
declared_class : (objects : List (ℕ × ℕ)) (d o c : ℕ) → slice_get (take d (map (λ x. x.0) objects)) o ≡ Some c → (slice_index_or objects o (0, 0)).0 ≡ c
declared_class objects zero o c e = absurd (cc e)
declared_class [] (suc d) o c e = absurd (cc e)
declared_class (x ∷ objects) (suc d) zero c e = same_Some x.0 c e
declared_class (x ∷ objects) (suc d) (suc o) c e = declared_class objects d o c e

-- the element at a place that a list has
found : (xs : List ℕ) (i : ℕ) → nat_lt i (length xs) ≡ true → (c : ℕ) × (slice_get xs i ≡ Some c)
found [] i e = absurd (grind (arith, nat_tests, e))
found (x ∷ xs) zero e = (x, refl)
found (x ∷ xs) (suc i) e = found xs i (grind (arith, nat_tests, e))

module _ (w : World) (limits : IsInLimits w.shape) (law : MadeLawHolds w) (o : ℕ) where
  abbrev n : Numbering
  n = numbering w.shape

  declared_are : nat_lt o (first_made n) ≡ nat_lt o w.shape.declared
  declared_are = ap (nat_lt o) (first_is_declared w.shape limits)

  pub class_told : (c : ℕ) → class_if_there n law.made o ≡ Some c → class_by w.shape w.words o ≡ c
  class_told c e = by_test (nat_lt o w.shape.declared) refl
    where
      by_test : (b : Bool) → nat_lt o w.shape.declared ≡ b → cond b (shape_class w.shape o) (w.words (Class o) - 1) ≡ c
      by_test true h =
          declared_class w.shape.objects w.shape.declared o c
          (sym (ap (λ (b : Bool). cond b (slice_get n.declared o) (slice_get (made_by law.made (maker_of n o)) (place_of n o))) (declared_are ∙ h)) ∙ e)
      by_test false h =
          let first = first_is_declared w.shape limits in
          let past : first_made n ≤ o = grind (arith, nat_tests, h, first) in
          let is = law.classes o c past e in
          omega (arith, is)

  pub there_by_class : IsUnmade w o → has_class w.shape w.words o ≡ is_there_in w o
  there_by_class unmade =
      by_test (nat_lt o w.shape.declared) refl (nat_lt (place_of n o) (length (made_by law.made (maker_of n o)))) refl
      ∙ sym (ap (λ m. there_after n m o) law.in_time)
    where
      stored : nat_lt o w.shape.declared ≡ false → (b : Bool) → nat_lt (place_of n o) (length (made_by law.made (maker_of n o))) ≡ b
          → not (w.words (Class o) == 0) ≡ b
      stored h true g =
          let at = found (made_by law.made (maker_of n o)) (place_of n o) g in
          let first = first_is_declared w.shape limits in
          let past : first_made n ≤ o = grind (arith, nat_tests, h, first) in
          let is = law.classes o at.0 past
          (ap (λ (b : Bool). cond b (slice_get n.declared o) (slice_get (made_by law.made (maker_of n o)) (place_of n o))) (declared_are ∙ h) ∙ at.1) in
          ap not (ne_eqb (w.words (Class o)) 0 (λ z. omega (arith, is, z)))
      stored h false g =
          let isnt = ap (λ (b : Bool). b || nat_lt (place_of n o) (length (made_by law.made (maker_of n o)))) (declared_are ∙ h) ∙ g in
          elim (law.absent o isnt).classless [
            | inl z ↦ ap not (eq-eqb (w.words (Class o)) 0 z)
            | inr m ↦ absurd (unmade m.0 m.1)
          ]

      by_test : (b : Bool) → nat_lt o w.shape.declared ≡ b → (a : Bool) → nat_lt (place_of n o) (length (made_by law.made (maker_of n o))) ≡ a
          → has_class w.shape w.words o ≡ is_there n law.made o
      by_test true h a g =
          ap (λ (x : Bool). x || not (w.words (Class o) == 0)) h
          ∙ sym (ap (λ (x : Bool). x || nat_lt (place_of n o) (length (made_by law.made (maker_of n o)))) (declared_are ∙ h))
      by_test false h a g =
          ap (λ (x : Bool). x || not (w.words (Class o) == 0)) h ∙ stored h a g ∙ sym g
          ∙ sym (ap (λ (x : Bool). x || nat_lt (place_of n o) (length (made_by law.made (maker_of n o)))) (declared_are ∙ h))
