-- An object that isn't there is as at first.
use Rattle.std.proofs.Common.{◌≡◌, ◌≢◌, inl, inr, ℕ, zero, suc, pos, ◌+◌, ◌<◌, ◌≤◌, ◌||◌, nat_lt, Bool, true, false, List, [], ◌∷◌, ◌++◌}
use Rattle.std.proofs.Common.{length, replicate, slice_get, slice_set, Option, Some, None, refl, sym, ap, ◌∙◌, subst, arith, length-append}
use Rattle.std.specs.List.{list_all}
use Rattle.std.proofs.lemmas.Bool.{true≢false, and_parts, cases_eq}
use Rattle.std.proofs.lemmas.Bool.Decides.{nat_tests}
use Rattle.std.proofs.lemmas.List.{get_or-set_same, get_or-set_other}
use Rattle.std.proofs.lemmas.Option.{none-some, same_Some, cond_some}
use Rattle.plain_monitor.specs.declared.entry.Value.TheVariants.{Int}
use Rattle.plain_monitor.specs.declared.entry.Entry.{Entry}
use Rattle.plain_monitor.specs.declared.entry.Entry.TheVariants.{New}
use Rattle.plain_monitor.specs.Made.{Numbering, first_made, maker_of, place_of, made_by, is_there}
use Rattle.plain_monitor.specs.Made.{creates, needs, one_or_none, hands_on, may_create, take_created}
use Rattle.plain_monitor.specs.Objects.{PlainObject, new_object, new_objects, same_value, named, take_named}
use Rattle.plain_monitor.proofs.Lists.{all_at, all_map, all_each, get_set_other}
use Rattle.object_program.specs.Program.{ProgramText, shape_of, numbering_of}
use Rattle.plain_machine.specs.Machine.{PlainMachine, new_machine, take}
use Rattle.machine_laws.proofs.ReachedAsked.{taken, taken_at}
use Rattle.machine_words.specs.ObjectWords.{is_new}
use Rattle.machine_words.specs.Untouched.{IsUntouched}

zeros : (n : ℕ) → list_all (same_value (Int (pos 0))) (replicate n (Int (pos 0))) ≡ true
zeros zero = refl
zeros (suc n) = zeros n

pub is_new_object : (n : ℕ) → is_new (new_object n) ≡ true
is_new_object n = zeros n

pub untouched_first : (p : ProgramText) (fuel : ℕ) → IsUntouched (new_machine p fuel)
untouched_first p fuel o x at none =
    all_at (λ (x : PlainObject). is_new x ≡ true) (new_objects (shape_of p)) o x
    (all_map (λ (x : PlainObject). is_new x ≡ true) (λ (s : ℕ × ℕ). new_object s.1) (shape_of p)
    (all_each (λ (s : ℕ × ℕ). is_new (new_object s.1) ≡ true) (shape_of p) (λ s. is_new_object s.1))) at

-- an entry that makes an object names none
new_names_none : (e : Entry) (p : ℕ × ℕ) → creates e ≡ Some p → named e ≡ None
new_names_none (New o c) p h = refl
new_names_none _ p h = absurd (none-some p h)

-- thread t has made one object more
abbrev grown : List (List ℕ) → ℕ → ℕ → List (List ℕ)
grown made t c = slice_set made t (made_by made t ++ c ∷ [])

row_grows : (made : List (List ℕ)) (t c u : ℕ) → t < length made → length (made_by made u) ≤ length (made_by (grown made t c) u)
row_grows made t c u lt = elim (cases_eq u t) [
  | inl same ↦
      let one : length (made_by (grown made t c) t) ≡ length (made_by made t) + 1 =
      ap length (get_or-set_same made t (made_by made t ++ c ∷ []) [] lt) ∙ length-append (made_by made t) (c ∷ []) in
      subst (λ (v : ℕ). length (made_by made v) ≤ length (made_by (grown made t c) v)) (sym same) (omega (arith, one))
  | inr other ↦
      let as_many : length (made_by (grown made t c) u) ≡ length (made_by made u) =
      ap length (get_or-set_other made t u (made_by made t ++ c ∷ []) [] other) in
      omega (arith, as_many)
]

none_below : (a b : Bool) → (a || b) ≡ false → (a ≡ false) × (b ≡ false)
none_below true b h = absurd (true≢false h)
none_below false b h = (refl, h)

-- what isn't there then wasn't there before
was_not : (n : Numbering) (made : List (List ℕ)) (t c o : ℕ) → t < length made → is_there n (grown made t c) o ≡ false → is_there n made o ≡ false
was_not n made t c o lt none =
    let u = maker_of n o in
    let both = none_below (nat_lt o (first_made n)) (nat_lt (place_of n o) (length (made_by (grown made t c) u))) none in
    let more = row_grows made t c u lt in
    let place : nat_lt (place_of n o) (length (made_by made u)) ≡ false = grind (arith, nat_tests, both.1, more) in
    ap (λ (b : Bool). b || nat_lt (place_of n o) (length (made_by made u))) both.0 ∙ place

thread_there : (n : Numbering) (made : List (List ℕ)) (t : ℕ) (p : ℕ × ℕ) → may_create n made t p ≡ true → t < length made
thread_there n made t p h =
    let three = and_parts _ _ h in
    let two = and_parts _ _ three.0 in
    let one = and_parts (nat_lt t (length made)) _ two.0 in
    grind (arith, nat_tests, one.0)

module _ (n : Numbering) (objects after : List PlainObject) (made made_then : List (List ℕ)) (t : ℕ) (e : Entry)
    (untouched : (o : ℕ) (x : PlainObject) → slice_get objects o ≡ Some x → is_there n made o ≡ false → is_new x ≡ true) where
  -- an entry that names an object that is there, or none
  stays : (q : Option ℕ) → take_named objects t e q ≡ Some after → list_all (is_there n made) (one_or_none q ++ hands_on e) ≡ true
      → (o : ℕ) (x : PlainObject) → slice_get after o ≡ Some x → is_there n made o ≡ false → is_new x ≡ true
  stays None takes there o x at none = untouched o x (subst (λ (xs : List PlainObject). slice_get xs o ≡ Some x) (sym (same_Some objects after takes)) at) none
  stays (Some k) takes there o x at none =
      let r = taken_at objects k t e after takes in
      let both = and_parts (is_there n made k) (list_all (is_there n made) (hands_on e)) there in
      let other : k ≢ o = λ same. true≢false (sym both.0 ∙ ap (is_there n made) same ∙ none) in
      let before : slice_get objects o ≡ Some x =
      sym (get_set_other objects k o r.y other) ∙ subst (λ (xs : List PlainObject). slice_get xs o ≡ Some x) (sym r.is) at in
      untouched o x before none

  stays_after : (c : Option (ℕ × ℕ)) → creates e ≡ c → take_created n made t e c ≡ Some made_then → take_named objects t e (named e) ≡ Some after
      → (o : ℕ) (x : PlainObject) → slice_get after o ≡ Some x → is_there n made_then o ≡ false → is_new x ≡ true
  stays_after None is makes takes o x at none =
      let a = cond_some (list_all (is_there n made) (needs e)) made made_then makes in
      stays (named e) takes a.0 o x at (ap (λ (m : List (List ℕ)). is_there n m o) a.1 ∙ none)
  stays_after (Some p) is makes takes o x at none =
      let a = cond_some (may_create n made t p) (grown made t p.1) made_then makes in
      let same : objects ≡ after = same_Some objects after (subst (λ (q : Option ℕ). take_named objects t e q ≡ Some after) (new_names_none e p is) takes) in
      let before : slice_get objects o ≡ Some x = subst (λ (xs : List PlainObject). slice_get xs o ≡ Some x) (sym same) at in
      untouched o x before (was_not n made t p.1 o (thread_there n made t p a.0) (ap (λ (m : List (List ℕ)). is_there n m o) a.1 ∙ none))

pub untouched_after : (m n : PlainMachine) (t : ℕ) (e : Entry) → IsUntouched m → take m t e ≡ Some n → IsUntouched n
untouched_after m n t e untouched takes =
    let k = taken m t e n takes in
    subst IsUntouched k.is
    (stays_after (numbering_of m.program) m.objects k.objects m.made k.made_then t e untouched (creates e) refl k.makes k.takes)
