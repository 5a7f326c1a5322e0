-- The objects of a machine are read from their words.
use Rattle.std.proofs.Common.{◌≡◌, ℕ, suc, pos, ◌+◌, ◌<◌, ◌==◌, Bool, true, false, List, [], ◌∷◌, ◌++◌, length, map, replicate}
use Rattle.std.proofs.Common.{Option, Some, None, is_none, refl, sym, ap, ◌∙◌, subst, arith, append_assoc, eq-eqb, eqb-true}
use Rattle.std.specs.List.{AllByRecursion, list_all}
use Rattle.std.proofs.lemmas.Bool.{false≢true, and_parts}
use Rattle.std.proofs.lemmas.Bool.Decides.{nat_tests}
use Rattle.plain_monitor.specs.declared.entry.Value.{Value}
use Rattle.plain_monitor.specs.declared.entry.Value.TheVariants.{Int}
use Rattle.plain_monitor.specs.Objects.{PlainObject, new_object, same_value}
use Rattle.plain_monitor.specs.ValueWords.{IsSpellable, word_of}
use Rattle.machine_laws.proofs.ReachedObjects.{same_is}
use Rattle.machine_words.specs.Readers.{option_word, pair_words, read_pairs, read_values}
use Rattle.machine_words.specs.ObjectWords.{is_new, object_words, objects_words, read_slots, read_object, begins, after_one, read_objects}
use Rattle.machine_words.proofs.ReadWords.{option_back, pairs_back, values_back}

pub object_back : (n : ℕ) (x : PlainObject) (ws : List ℕ) → length x.slots ≡ n → AllByRecursion IsSpellable x.slots
    → read_object n (object_words x ++ ws) ≡ (x, ws)
object_back n x ws count all =
    let o = option_word x.monitor.owner in
    let h = option_word x.hash in
    let with_waits : List (ℕ × ℕ) × List ℕ → PlainObject × List ℕ =
    λ r. read_slots n o x.monitor.count h r.0 (read_pairs (length x.monitor.called) r.1) in
    let words = map word_of x.slots in
    let apart : (pair_words x.monitor.waits ++ pair_words x.monitor.called ++ words) ++ ws
    ≡ pair_words x.monitor.waits ++ (pair_words x.monitor.called ++ (words ++ ws)) =
    append_assoc (pair_words x.monitor.waits ++ pair_words x.monitor.called) words ws
    ∙ append_assoc (pair_words x.monitor.waits) (pair_words x.monitor.called) (words ++ ws) in
    let read : read_values n (words ++ ws) ≡ (x.slots, ws) =
    subst (λ (k : ℕ). read_values k (words ++ ws) ≡ (x.slots, ws)) count (values_back x.slots ws all) in
    ap (λ (xs : List ℕ). with_waits (read_pairs (length x.monitor.waits) xs)) apart
    ∙ ap with_waits (pairs_back x.monitor.waits (pair_words x.monitor.called ++ (words ++ ws)))
    ∙ ap (read_slots n o x.monitor.count h x.monitor.waits) (pairs_back x.monitor.called (words ++ ws))
    ∙ (λ i. (
      record {
        monitor = record {
          owner = option_back x.monitor.owner i;
          count = x.monitor.count;
          waits = x.monitor.waits;
          called = x.monitor.called;
        };
        slots = (read i).0;
        hash = option_back x.hash i;
      },
      (read i).1,
    ))

none_is : (o : Option ℕ) → is_none o ≡ true → o ≡ None
none_is None h = refl
none_is (Some n) h = absurd (false≢true h)

empty_is : {X : Type 0} (xs : List X) → (length xs == 0) ≡ true → xs ≡ []
empty_is [] h = refl
empty_is (x ∷ xs) h = let none : suc (length xs) ≡ 0 = eqb-true (suc (length xs)) 0 h in absurd (omega (arith, none))

zeros_are : (vs : List Value) → list_all (same_value (Int (pos 0))) vs ≡ true → vs ≡ replicate (length vs) (Int (pos 0))
zeros_are [] h = refl
zeros_are (v ∷ vs) h =
    let p = and_parts (same_value (Int (pos 0)) v) (list_all (same_value (Int (pos 0))) vs) h in
    λ i. sym (same_is (Int (pos 0)) v p.0) i ∷ zeros_are vs p.1 i

-- an object that is as at first
pub new_is : (n : ℕ) (x : PlainObject) → length x.slots ≡ n → is_new x ≡ true → x ≡ new_object n
new_is n x count h =
    let slots = and_parts _ _ h in
    let hash = and_parts _ _ slots.0 in
    let called = and_parts _ _ hash.0 in
    let waits = and_parts _ _ called.0 in
    let owner = and_parts _ _ waits.0 in
    let zeros : x.slots ≡ replicate n (Int (pos 0)) =
    zeros_are x.slots slots.1 ∙ ap (λ (k : ℕ). replicate k (Int (pos 0))) count in
    λ i. record {
      monitor = record {
        owner = none_is x.monitor.owner owner.0 i;
        count = eqb-true x.monitor.count 0 owner.1 i;
        waits = empty_is x.monitor.waits waits.1 i;
        called = empty_is x.monitor.called called.1 i;
      };
      slots = zeros i;
      hash = none_is x.hash hash.1 i;
    }

-- the words of later objects don't begin with this number
later : (k j : ℕ) (xs : List PlainObject) → k < j → begins k (objects_words j xs) ≡ false
later k j [] lt = refl
later k j (x ∷ xs) lt = go (is_new x) refl (later k (j + 1) xs (omega (arith, lt)))
  where
    go : (b : Bool) → is_new x ≡ b → begins k (objects_words (j + 1) xs) ≡ false → begins k (objects_words j (x ∷ xs)) ≡ false
    go true e rest = rw e rest
    go false e rest = rw e (grind (arith, nat_tests, lt))

-- objects of which the first has number k: each has as many slots as its number says, and their values have words
abbrev pub AreReadable : (ℕ → ℕ) → ℕ → List PlainObject → Type 0
AreReadable slots k [] = Unit {0}
AreReadable slots k (x ∷ xs) = (length x.slots ≡ slots k) × AllByRecursion IsSpellable x.slots × AreReadable slots (k + 1) xs

pub objects_back : (slots : ℕ → ℕ) (k : ℕ) (xs : List PlainObject) → AreReadable slots k xs
    → read_objects slots k (length xs) (objects_words k xs) ≡ xs
objects_back slots k [] all = refl
objects_back slots k (x ∷ xs) all = go (is_new x) refl (objects_back slots (k + 1) xs all.2)
  where
    go : (b : Bool) → is_new x ≡ b → read_objects slots (k + 1) (length xs) (objects_words (k + 1) xs) ≡ xs
        → read_objects slots k (length (x ∷ xs)) (objects_words k (x ∷ xs)) ≡ x ∷ xs
    go true e ih =
        let beside : begins k (objects_words (k + 1) xs) ≡ false = later k (k + 1) xs (omega arith) in
        rw (e, beside) (λ i. sym (new_is (slots k) x all.0 e) i ∷ ih i)
    go false e ih =
        let here : (k == k) ≡ true = eq-eqb k k refl in
        rw (e, here)
        (ap (λ (r : PlainObject × List ℕ). r.0 ∷ read_objects slots (k + 1) (length xs) r.1) (object_back (slots k) x (objects_words (k + 1) xs) all.0 all.1)
        ∙ ap (λ (ys : List PlainObject). x ∷ ys) ih)

-- the object that the words go on with, which has as many slots as another
pub object_read : (old x : PlainObject) (rest after ws : List ℕ) (w : ℕ) → rest ≡ w ∷ after → after ≡ object_words x ++ ws
    → length x.slots ≡ length old.slots → AllByRecursion IsSpellable x.slots → read_object (length old.slots) (after_one rest) ≡ (x, ws)
object_read old x rest after ws w is e count all =
    ap (λ (ys : List ℕ). read_object (length old.slots) (after_one ys)) is ∙ ap (read_object (length old.slots)) e
    ∙ object_back (length old.slots) x ws count all
