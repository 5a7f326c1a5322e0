-- Where an option has a value.
use Rattle.std.proofs.Common.{◌≡◌, Bool, true, false, refl, Option, Some, None}
use Rattle.std.specs.Prelude.{option_map, option_and_then}
use Rattle.std.proofs.lemmas.Option.{same_Some}
use Rattle.plain_monitor.specs.Monitor.{only_if}

pub and_then : {A B P : Type 0} (f : A → Option B) (o : Option A) (y : B) → option_and_then f o ≡ Some y → ((x : A) → o ≡ Some x → f x ≡ Some y → P) → P
and_then f None y h k = absurd (cc h)
and_then f (Some x) y h k = k x refl h

pub mapped : {A B P : Type 0} (f : A → B) (o : Option A) (y : B) → option_map f o ≡ Some y → ((x : A) → o ≡ Some x → f x ≡ y → P) → P
mapped f None y h k = absurd (cc h)
mapped f (Some x) y h k = k x refl (same_Some _ _ h)

pub where_true : {A P : Type 0} (b : Bool) (x y : A) → only_if b x ≡ Some y → (b ≡ true → x ≡ y → P) → P
where_true true x y h k = k refl (same_Some _ _ h)
where_true false x y h k = absurd (cc h)
