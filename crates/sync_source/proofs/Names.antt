-- The labels of code have names of their own, and so the code of a program with blocks is a program.
use Rattle.std.proofs.Common.{◌≡◌, ℕ, zero, suc, ◌+◌, ◌<◌, ◌≤◌, ◌%◌, ◌^◌, ◌||◌, Bool, true, false, if◌then◌else◌}
use Rattle.std.proofs.Common.{List, [], ◌∷◌, ◌++◌, length, map, filter, refl, ap, subst, arith, bytes_eq, le-leb}
use Rattle.std.specs.Prelude.{decimal}
use Rattle.std.specs.List.{AllByRecursion, list_all}
use Rattle.std.proofs.lemmas.Bool.{and_parts, and_from, or_from, false_from_ne_true}
use Rattle.std.proofs.lemmas.Bool.Decides.{nat_tests}
use Rattle.std.proofs.lemmas.Fmt.{decimal_by_steps, length-decimal-le, decimal_injective}
use Rattle.std.proofs.lemmas.Slice.Eq.{bytes_eq-Decides}
use Rattle.plain_monitor.proofs.Lists.{all_weaker, all_map}
use Rattle.object_program.specs.Name.{is_digit, is_letter, is_name}
use Rattle.object_program.specs.Valid.{is_among, AreNames, IsThread, IsProgram}
use Rattle.sync_source.specs.Valid.{AreStatements}
use Rattle.sync_source.specs.inner.Alike.{ArePlain}
use Rattle.sync_source.specs.Source.{Statements, Nothing, Plain, Sync, If, While, SyncText, SyncThreadText}
use Rattle.sync_source.specs.Compiled.{code_at, numbers_from, label, thread_code, compiled}
use Rattle.sync_source.specs.Valid.{IsSyncThread, IsSyncText}
use Rattle.sync_source.proofs.Placed.{code_size}
use Rattle.sync_source.proofs.Targets.{are_instructions, ends_once, targets_rise}

record AreDigits (n : ℕ) (ds : List ℕ) : Type 0 where
  all : list_all is_digit ds ≡ true

digit_is : (d : ℕ) → d < 10 → is_digit (48 + d) ≡ true
digit_is d h = grind (arith, nat_tests)

digits_push : (ds : List ℕ) (d : ℕ) → d < 10 → list_all is_digit ds ≡ true → list_all is_digit (ds ++ (48 + d) ∷ []) ≡ true
digits_push [] d lt h = rw (digit_is d lt) refl
digits_push (b ∷ ds) d lt h = let parts = and_parts (is_digit b) (list_all is_digit ds) h in rw parts.0 (digits_push ds d lt parts.1)

digits_are : (n : ℕ) → n < 2 ^ 64 → AreDigits n (decimal n)
digits_are n h =
    decimal_by_steps AreDigits (λ k lt. record { all = rw (digit_is k lt) refl })
    (λ k ds le e. record { all = digits_push ds (k % 10) (omega arith) e.all }) n h

name_byte : (b : ℕ) → is_digit b ≡ true → (is_letter b || is_digit b) ≡ true
name_byte b h = grind (arith, h)

name_bytes : (ds : List ℕ) → list_all is_digit ds ≡ true → list_all (λ c. is_letter c || is_digit c) ds ≡ true
name_bytes [] h = refl
name_bytes (b ∷ bs) h =
    let parts = and_parts (is_digit b) (list_all is_digit bs) h in and_from _ _ (name_byte b parts.0) (name_bytes bs parts.1)

pub label_is_name : (n : ℕ) → n < 5000 → is_name (76 ∷ decimal n) ≡ true
label_is_name n h =
    let digits = name_bytes (decimal n) (digits_are n (omega arith)).all in
    let short : length (decimal n) ≤ 31 = omega (arith, length-decimal-le 4 n (omega arith) (omega arith) (omega arith)) in
    rw (digits, le-leb (length (decimal n)) 31 short) refl

abbrev rest_of : List ℕ → List ℕ
rest_of [] = []
rest_of (b ∷ bs) = bs

same_rest : (x y : List ℕ) → 76 ∷ x ≡ 76 ∷ y → x ≡ y
same_rest x y e = ap rest_of e

other_name : (a b : ℕ) → a < b → b < 5000 → bytes_eq (76 ∷ decimal b) (76 ∷ decimal a) ≡ false
other_name a b h l =
    false_from_ne_true _ (λ e. let same = decimal_injective b a (omega arith) (omega arith)
    (same_rest _ _ ((bytes_eq-Decides (76 ∷ decimal b) (76 ∷ decimal a)).0 e)) in absurd (omega arith))

module _ (P : ℕ → Bool) where
  abbrev names : ℕ → ℕ → List (List ℕ)
  names a k = map (λ l. l.name) (map (label decimal) (filter P (numbers_from a k)))

  not_among : (k b a : ℕ) → a < b → b + k ≤ 5000 → is_among (names b k) (76 ∷ decimal a) ≡ false
  not_among zero b a h l = refl
  not_among (suc k) b a h l = go (not_among k (b + 1) a (omega arith) (omega arith)) (P b)
    where
      go : is_among (names (b + 1) k) (76 ∷ decimal a) ≡ false → (c : Bool) → is_among (map (λ l. l.name)
          (map (label decimal) (if c then b ∷ filter P (numbers_from (b + 1) k) else filter P (numbers_from (b + 1) k)))) (76 ∷ decimal a) ≡ false
      go ih true = or_from _ _ (other_name a b h (omega arith)) ih
      go ih false = ih

  are_names : (k a : ℕ) → a + k ≤ 5000 → AreNames (names a k)
  are_names zero a l = tt
  are_names (suc k) a l = go (are_names k (a + 1) (omega arith)) (P a)
    where
      go : AreNames (names (a + 1) k) → (c : Bool) → AreNames (map (λ l. l.name)
          (map (label decimal) (if c then a ∷ filter P (numbers_from (a + 1) k) else filter P (numbers_from (a + 1) k))))
      go ih true = (label_is_name a (omega arith), not_among k (a + 1) a (omega arith) (omega arith), ih)
      go ih false = ih

thread_is : (classes objects : ℕ) (t : SyncThreadText) → IsSyncThread classes objects t → IsThread classes objects (thread_code decimal t)
thread_is classes objects t h =
    let code = code_at 0 t.body in
    let n = code_size t.body 0 in
    record {
      locals = h.locals;
      locals_few = h.locals_few;
      labels = are_names _ (length code) 1 (omega (arith, n, h.code_few));
      targets = targets_rise decimal code;
      code = are_instructions classes (length t.locals) objects decimal t.body h.body h.ends;
      code_few = omega (arith, n, h.code_few);
      ends = ends_once t.body 0 h.ends;
    }

thread_names_are : (ts : List SyncThreadText) → map (λ t. t.name) ts ≡ map (λ t. t.name) (map (thread_code decimal) ts)
thread_names_are [] = refl
thread_names_are (t ∷ ts) = ap (λ ns. t.name ∷ ns) (thread_names_are ts)

threads_length : (ts : List SyncThreadText) → length ts ≡ length (map (thread_code decimal) ts)
threads_length [] = refl
threads_length (t ∷ ts) = omega (arith, threads_length ts)

-- the code of a program with blocks is a program
pub compiled_is_program : (p : SyncText) → IsSyncText p → IsProgram (compiled decimal p)
compiled_is_program p h = record {
  class_names = h.class_names;
  class_slots = h.class_slots;
  classes_few = h.classes_few;
  object_names = h.object_names;
  objects = h.objects;
  objects_few = h.objects_few;
  thread_names = subst AreNames (thread_names_are p.threads) h.thread_names;
  threads = all_map _ (thread_code decimal) p.threads (all_weaker _ _ (λ t k. thread_is (length p.classes) (length p.objects) t k) p.threads h.threads);
  threads_some = omega (arith, threads_length p.threads, h.threads_some);
  threads_few = omega (arith, threads_length p.threads, h.threads_few);
}

pub are_plain : (classes locals objects : ℕ) (b : Statements) → AreStatements classes locals objects b → ArePlain b
are_plain classes locals objects Nothing h = tt
are_plain classes locals objects (Plain c r) h = (h.0, are_plain classes locals objects r h.2)
are_plain classes locals objects (Sync x b r) h = (are_plain classes locals objects b h.1, are_plain classes locals objects r h.2)
are_plain classes locals objects (If t b c r) h =
    (are_plain classes locals objects b h.1, are_plain classes locals objects c h.2, are_plain classes locals objects r h.3)
are_plain classes locals objects (While t b r) h = (are_plain classes locals objects b h.1, are_plain classes locals objects r h.2)

pub all_plain : (p : SyncText) → IsSyncText p → AllByRecursion (λ t. ArePlain t.body) p.threads
all_plain p h =
    all_weaker _ _ (λ t k. are_plain (length p.classes) (length t.locals) (length p.objects) t.body k.body) p.threads h.threads
