-- Declared objects and their words.
use Rattle.std.proofs.Common.{◌≡◌, ℕ, zero, suc, ◌+◌, ◌-◌, ◌<◌, ◌≤◌, ◌^◌, ◌==◌, ◌&&◌, ◌||◌, Bool, true, false, List, [], ◌∷◌, ◌++◌, length, map, take}
use Rattle.std.proofs.Common.{drop, refl, sym, ◌∙◌, ap, arith, append_assoc, append-nil, length-append, codes, slice_get, Option, Some, None}
use Rattle.std.specs.Prelude.{decimal, nat_lt, position}
use Rattle.std.specs.List.{position_or_len}
use Rattle.std.proofs.Math.Seq.{take-append_seam, drop-append-add}
use Rattle.std.proofs.lemmas.Bool.{and_parts, or_left}
use Rattle.std.proofs.lemmas.Bool.Decides.{nat_tests}
use Rattle.std.specs.List.{list_all}
use Rattle.object_program.specs.Name.{is_letter, is_digit, is_name}
use Rattle.object_program.specs.declared.program.ObjectDef.{ObjectDef}
use Rattle.object_program.specs.Program.{ProgramText, total_of, declared_total, has_object, place_from, place_of}
use Rattle.object_program.specs.Valid.{AreObjects, IsProgram}
use Rattle.lock_journal.specs.Words.{element_text, object_text}
use Rattle.lock_journal.proofs.Names.{declared_is as text_of_declared}
use Rattle.bias_check.specs.inner.Words.{before_last}
use Rattle.bias_check.specs.inner.Table.{names_of, declared_in, unbracketed, element_of, element_in, object_by, undotted_in}
use Rattle.bias_check.proofs.Options.{and_then, mapped, where_true}
use Rattle.bias_check.proofs.Cuts.{first_at, last_byte}
use Rattle.bias_check.proofs.Numerals.{below_is, below_read}
use Rattle.bias_check.proofs.ThreadsRead.{declared_is, declared_read, object_name, get_within}
use Rattle.program_syntax.proofs.CanonicalNames.{nth_is_name}
use Rattle.std.proofs.lemmas.List.{length-map}

-- where an object stands
pub record StandsAt (k : ℕ) (ds : List ObjectDef) (o n i : ℕ) (d : ObjectDef) : Type 0 where
  pub at : slice_get ds n ≡ Some d
  pub place : place_from k ds o ≡ (k + n, i)
  pub within : i < d.size
  pub object : d.first + i ≡ o

-- element i of declaration n stands there
pub found_at : (classes m k : ℕ) (ds : List ObjectDef) (n i : ℕ) (d : ObjectDef) → AreObjects classes m ds → slice_get ds n ≡ Some d → i < d.size
    → (m ≤ d.first) × (d.first + i < m + total_of ds) × (place_from k ds (d.first + i) ≡ (k + n, i))
found_at classes m k [] n i d h at lt = absurd (cc at)
found_at classes m k (e ∷ es) zero i d h at lt =
    let same : e ≡ d = cc at in
    let first : e.first ≡ m = h.0.1 in
    let here : has_object d (d.first + i) ≡ true = grind (arith, nat_tests) in
    let back : d.first + i - d.first ≡ i = omega arith in
    let start : d.first ≡ m = rw (← same) first in
    (omega (arith, start), rw same (omega (arith, start, lt)), rw (same, here, back) (ap (λ (x : ℕ). (x, i)) (omega arith)))
found_at classes m k (e ∷ es) (suc n) i d h at lt =
    let first : e.first ≡ m = h.0.1 in
    let ih = found_at classes (m + e.size) (k + 1) es n i d h.1 at lt in
    let past : has_object e (d.first + i) ≡ false = grind (arith, nat_tests, ih.0) in
    (omega (arith, ih.0), omega (arith, ih.1), rw past (ih.2 ∙ ap (λ (x : ℕ). (x, i)) (omega arith)))

-- each object stands somewhere
stands_by : (classes m k : ℕ) (e : ObjectDef) (es : List ObjectDef) (o : ℕ) (b : Bool)
    → has_object e o ≡ b → AreObjects classes m (e ∷ es) → m ≤ o → o < m + total_of (e ∷ es)
    → (m + e.size ≤ o → o < m + e.size + total_of es → (n : ℕ) × (i : ℕ) × (d : ObjectDef) × StandsAt (k + 1) es o n i d)
    → (n : ℕ) × (i : ℕ) × (d : ObjectDef) × StandsAt k (e ∷ es) o n i d
stands_by classes m k e es o true b h low high ih =
    let first : e.first ≡ m = h.0.1 in (
      0,
      o - e.first,
      e,
      record {
        at = refl;
        place = rw b (ap (λ (x : ℕ). (x, o - e.first)) (omega arith));
        within = grind (arith, nat_tests);
        object = omega (arith, first, low);
      },
    )
stands_by classes m k e es o false b h low high ih =
    let first : e.first ≡ m = h.0.1 in
    let past : m + e.size ≤ o = grind (arith, nat_tests) in
    let r = ih past (omega (arith, high)) in (
      suc r.0,
      r.1,
      r.2,
      record {
        at = r.3.at;
        place = rw b (r.3.place ∙ ap (λ (x : ℕ). (x, r.1)) (omega arith));
        within = r.3.within;
        object = r.3.object;
      },
    )

pub stands : (classes m k : ℕ) (ds : List ObjectDef) (o : ℕ) → AreObjects classes m ds → m ≤ o → o < m + total_of ds
    → (n : ℕ) × (i : ℕ) × (d : ObjectDef) × StandsAt k ds o n i d
stands classes m k [] o h low high = absurd (omega (arith, low, high))
stands classes m k (e ∷ es) o h low high =
    stands_by classes m k e es o (has_object e o) refl h low high (λ past below. stands classes (m + e.size) (k + 1) es o h.1 past below)

-- the bytes of a word with an element
abbrev pub bracketed : List ℕ → List ℕ → List ℕ
bracketed name digits = name ++ 91 ∷ (digits ++ 93 ∷ [])

pub array_text : (d : ObjectDef) (i : ℕ) → d.array ≡ true → element_text i (Some d) ≡ bracketed d.name (decimal i)
array_text d i h =
    rw h (append_assoc (d.name ++ codes "[") (decimal i) (codes "]") ∙ append_assoc d.name (codes "[") (decimal i ++ codes "]"))

pub single_text : (d : ObjectDef) (i : ℕ) → d.array ≡ false → element_text i (Some d) ≡ d.name
single_text d i h = rw h refl

-- what stands before a last byte
last_is_by : (c x : ℕ) (bs front : List ℕ) (t : Bool) → (x == c) ≡ t → before_last c (x ∷ []) ≡ Some front → x ∷ [] ≡ front ++ c ∷ []
last_is_by c x bs front true e h =
    let none : front ≡ [] = cc (rw e at h) in
    let same : x ≡ c = grind (arith, nat_tests) in
    rw (none, same) refl
last_is_by c x bs front false e h = absurd (cc (rw e at h))

pub last_is : (c : ℕ) (bs front : List ℕ) → before_last c bs ≡ Some front → bs ≡ front ++ c ∷ []
last_is c [] front h = absurd (cc h)
last_is c (x ∷ []) front h = last_is_by c x [] front (x == c) refl h
last_is c (x ∷ y ∷ ys) front h =
    mapped (λ f. x ∷ f) (before_last c (y ∷ ys)) front h (λ f some e.
    rw (← e) (ap (λ bs. x ∷ bs) (last_is c (y ∷ ys) f some)))

-- a text cut at the first byte of a kind
cut_by : (c x : ℕ) (xs : List ℕ) (t : Bool) → (x == c) ≡ t → position_or_len (λ b. b == c) (x ∷ xs) < length (x ∷ xs)
    → (position_or_len (λ b. b == c) xs < length xs → xs ≡ take (position_or_len (λ b. b == c) xs) xs ++ c ∷ drop (position_or_len (λ b. b == c) xs + 1) xs)
    → x ∷ xs ≡ take (position_or_len (λ b. b == c) (x ∷ xs)) (x ∷ xs) ++ c ∷ drop (position_or_len (λ b. b == c) (x ∷ xs) + 1) (x ∷ xs)
cut_by c x xs true e h ih = let same : x ≡ c = grind (arith, nat_tests) in rw e (ap (λ y. y ∷ xs) same)
cut_by c x xs false e h ih =
    let n = position_or_len (λ b. b == c) xs in
    let k = rw e at h in
    let s : 1 + n ≡ suc n = omega arith in
    let t : suc n + 1 ≡ suc (n + 1) = omega arith in
    rw (e, s, t) (ap (λ ys. x ∷ ys) (ih (omega (arith, k))))

cut : (c : ℕ) (xs : List ℕ) → position_or_len (λ b. b == c) xs < length xs
    → xs ≡ take (position_or_len (λ b. b == c) xs) xs ++ c ∷ drop (position_or_len (λ b. b == c) xs + 1) xs
cut c [] h = absurd (omega (arith, h))
cut c (x ∷ xs) h = cut_by c x xs (x == c) refl h (cut c xs)

pub cut_at : (c : ℕ) (xs : List ℕ) (k : ℕ) → Some k ≡ position (λ b. b == c) xs → xs ≡ take k xs ++ c ∷ drop (k + 1) xs
cut_at c xs k h = let t = first_at (λ b. b == c) xs k h in rw t.same (cut c xs t.less)

-- the word that a name and what stands after its bracket make
abbrev pub WordOf : List ℕ → Option (List ℕ) → List ℕ → Type 0
WordOf name None w = w ≡ name
WordOf name (Some index) w = w ≡ name ++ 91 ∷ index

-- what holds of a declaration
pub record IsGood (d : ObjectDef) : Type 0 where
  pub some : 1 ≤ d.size
  pub single : d.array ≡ false → d.size ≡ 1

AreObjects_at : (classes m : ℕ) (ds : List ObjectDef) (n : ℕ) (d : ObjectDef) → AreObjects classes m ds → slice_get ds n ≡ Some d → IsGood d
AreObjects_at classes m [] n d h at = absurd (cc at)
AreObjects_at classes m (e ∷ es) zero d h at =
    let same : e ≡ d = cc at in rw (← same) (record { some = h.0.2; single = h.0.3 })
AreObjects_at classes m (e ∷ es) (suc n) d h at = AreObjects_at classes (m + e.size) es n d h.1 at

-- a declared object's word
pub record IsDeclaredWord (p : ProgramText) (w : List ℕ) (o : ℕ) : Type 0 where
  pub text : object_text p o ≡ w
  pub within : o < declared_total p

-- element i of a declaration is the object with this word
element_word : (p : ProgramText) (n i o : ℕ) (d : ObjectDef) (w : List ℕ) → IsProgram p
    → slice_get p.objects n ≡ Some d → i < d.size → d.first + i ≡ o → element_text i (Some d) ≡ w → IsDeclaredWord p w o
element_word p n i o d w h at lt same text =
    let r = found_at (length p.classes) 0 0 p.objects n i d h.objects at lt in
    let place : place_of p o ≡ (0 + n, i) = rw (← same) r.2 in
    let number : 0 + n ≡ n = omega arith in
    let within : o < declared_total p = omega (arith, same, r.1) in
    record { text = text_of_declared p o within ∙ rw (place, number, at) text; within = within }

single_is : (p : ProgramText) (name : List ℕ) (o : ℕ) (d : ObjectDef) (n : ℕ) (b : Bool)
    → d.array ≡ b → IsProgram p → slice_get p.objects n ≡ Some d → d.name ≡ name
    → element_of d None ≡ Some o → IsDeclaredWord p name o
single_is p name o d n true a h at named e = absurd (cc (rw a at e))
single_is p name o d n false a h at named e =
    let first : d.first ≡ o = cc (rw a at e) in
    let some = (AreObjects_at (length p.classes) 0 p.objects n d h.objects at).some in
    element_word p n 0 o d name h at (omega (arith, some)) (omega (arith, first)) (single_text d 0 a ∙ named)

array_is : (p : ProgramText) (name index : List ℕ) (o : ℕ) (d : ObjectDef) (n : ℕ) (b : Bool)
    → d.array ≡ b → IsProgram p → slice_get p.objects n ≡ Some d → d.name ≡ name
    → element_of d (Some index) ≡ Some o → IsDeclaredWord p (name ++ 91 ∷ index) o
array_is p name index o d n false a h at named e = absurd (cc (rw a at e))
array_is p name index o d n true a h at named e =
    and_then _ (unbracketed index) o (rw a at e) (λ digits some f.
    and_then _ _ o f (λ i counted g.
    where_true (nat_lt (d.first + i) (2 ^ 32)) (d.first + i) o g (λ fits same.
    let below = below_is d.size digits i counted in
    let cut : index ≡ digits ++ 93 ∷ [] = last_is 93 index digits some in
    element_word p n i o d (name ++ 91 ∷ index) h at below.below same (array_text d i a ∙ rw (named, below.text, cut) refl))))

element_is : (p : ProgramText) (name : List ℕ) (index : Option (List ℕ)) (w : List ℕ) (o : ℕ) → IsProgram p → element_in (names_of p) name index ≡ Some o
    → WordOf name index w → IsDeclaredWord p w o
element_is p name None w o h e word =
    and_then _ (declared_in (names_of p) name) o e (λ d some f.
    let at = declared_is p name d some in
    rw word (single_is p name o d at.number d.array refl h at.at at.named f))
element_is p name (Some index) w o h e word =
    and_then _ (declared_in (names_of p) name) o e (λ d some f.
    let at = declared_is p name d some in
    rw word (array_is p name index o d at.number d.array refl h at.at at.named f))

object_by_is : (p : ProgramText) (w : List ℕ) (o : ℕ) (end : Option ℕ) → IsProgram p
    → end ≡ position (λ b. b == 91) w → object_by (names_of p) w end ≡ Some o → IsDeclaredWord p w o
object_by_is p w o None h at e = element_is p w None w o h e refl
object_by_is p w o (Some k) h at e =
    element_is p (take k w) (Some (drop (k + 1) w)) w o h e (cut_at 91 w k at)

-- the word of an object that is found is that object's
pub undotted_is : (p : ProgramText) (w : List ℕ) (o : ℕ) → IsProgram p → undotted_in (names_of p) w ≡ Some o → IsDeclaredWord p w o
undotted_is p w o h e = object_by_is p w o (position (λ b. b == 91) w) h refl e

pub object_is_name : (p : ProgramText) (n : ℕ) (d : ObjectDef) → IsProgram p → slice_get p.objects n ≡ Some d → is_name d.name ≡ true
object_is_name p n d h at =
    let within : n < length (map (λ d. d.name) p.objects) = omega (arith, get_within p.objects n d at, length-map p.objects (λ d. d.name)) in
    ap is_name (sym (object_name p.objects n d at)) ∙ nth_is_name (map (λ d. d.name) p.objects) n h.object_names within

-- names have no bracket
no_bracket : (b : ℕ) → (is_letter b || is_digit b) ≡ true → (b == 91) ≡ false
no_bracket b h = grind (arith, nat_tests)

bracketless : (bs : List ℕ) → list_all (λ c. is_letter c || is_digit c) bs ≡ true → (rest : List ℕ)
    → position_or_len (λ b. b == 91) (bs ++ rest) ≡ length bs + position_or_len (λ b. b == 91) rest
bracketless [] h rest = omega arith
bracketless (b ∷ bs) h rest =
    let parts = and_parts (is_letter b || is_digit b) (list_all (λ c. is_letter c || is_digit c) bs) h in
    rw (no_bracket b parts.0, bracketless bs parts.1 rest) (omega arith)

pub name_bytes : (name : List ℕ) → is_name name ≡ true → list_all (λ c. is_letter c || is_digit c) name ≡ true
name_bytes [] h = absurd (cc h)
name_bytes (b ∷ bs) h =
    let short = and_parts (is_letter b && list_all (λ c. is_letter c || is_digit c) bs) _ h in
    let parts = and_parts (is_letter b) (list_all (λ c. is_letter c || is_digit c) bs) short.0 in
    rw (or_left (is_letter b) (is_digit b) parts.0) parts.1

single_position : (name : List ℕ) → is_name name ≡ true → position (λ b. b == 91) name ≡ None
single_position name h =
    let at : position_or_len (λ b. b == 91) (name ++ []) ≡ length name + 0 = bracketless name (name_bytes name h) [] in
    let same : position_or_len (λ b. b == 91) name ≡ length name + 0 = ap (position_or_len (λ b. b == 91)) (sym (append-nil name)) ∙ at in
    let not_less : nat_lt (position_or_len (λ b. b == 91) name) (length name) ≡ false = grind (arith, nat_tests) in
    rw not_less refl

array_position : (name rest : List ℕ) → is_name name ≡ true → position (λ b. b == 91) (name ++ 91 ∷ rest) ≡ Some (length name)
array_position name rest h =
    let at : position_or_len (λ b. b == 91) (name ++ 91 ∷ rest) ≡ length name + 0 = bracketless name (name_bytes name h) (91 ∷ rest) in
    let same : position_or_len (λ b. b == 91) (name ++ 91 ∷ rest) ≡ length name = at ∙ omega arith in
    let less : nat_lt (length name) (length (name ++ 91 ∷ rest)) ≡ true = let n = length-append name (91 ∷ rest) in grind (arith, nat_tests) in
    rw (same, less) refl

single_read : (p : ProgramText) (n i : ℕ) (d : ObjectDef) → IsProgram p → slice_get p.objects n ≡ Some d
    → i < d.size → d.array ≡ false → undotted_in (names_of p) (element_text i (Some d)) ≡ Some (d.first + i)
single_read p n i d h at lt a =
    let good = AreObjects_at (length p.classes) 0 p.objects n d h.objects at in
    let one : d.size ≡ 1 = good.single a in
    let first : d.first ≡ d.first + i = omega (arith, one, lt) in
    rw (single_text d i a, single_position d.name (object_is_name p n d h at), declared_read p n d h at, a) (ap Some first)

array_read : (p : ProgramText) (n i : ℕ) (d : ObjectDef) → IsProgram p → slice_get p.objects n ≡ Some d → i < d.size → d.array ≡ true → d.first + i < 2 ^ 32
    → undotted_in (names_of p) (element_text i (Some d)) ≡ Some (d.first + i)
array_read p n i d h at lt a fits =
    let after = decimal i ++ 93 ∷ [] in
    let front : take (length d.name) (d.name ++ 91 ∷ after) ≡ d.name = take-append_seam d.name (91 ∷ after) in
    let back : drop (length d.name + 1) (d.name ++ 91 ∷ after) ≡ after = drop-append-add d.name (91 ∷ after) 1 in
    let digits : unbracketed after ≡ Some (decimal i) = last_byte 93 (decimal i) 93 in
    let count = below_read d.size i (omega (arith, fits)) lt in
    let small : nat_lt (d.first + i) (2 ^ 32) ≡ true = grind (arith, nat_tests) in
    rw (array_text d i a, array_position d.name after (object_is_name p n d h at), front, back, declared_read p n d h at, a, digits, count, small) refl

read_by : (p : ProgramText) (n i : ℕ) (d : ObjectDef) (b : Bool) → IsProgram p
    → slice_get p.objects n ≡ Some d → i < d.size → d.array ≡ b → d.first + i < 2 ^ 32
    → undotted_in (names_of p) (element_text i (Some d)) ≡ Some (d.first + i)
read_by p n i d true h at lt a fits = array_read p n i d h at lt a fits
read_by p n i d false h at lt a fits = single_read p n i d h at lt a

-- the word of a declared object is read as it
pub undotted_read : (p : ProgramText) (o : ℕ) → IsProgram p → o < declared_total p → undotted_in (names_of p) (object_text p o) ≡ Some o
undotted_read p o h lt =
    let r = stands (length p.classes) 0 0 p.objects o h.objects (omega arith) (omega (arith, lt)) in
    let s = r.3 in
    let number : 0 + r.0 ≡ r.0 = omega arith in
    let text : object_text p o ≡ element_text r.1 (Some r.2) = text_of_declared p o lt ∙ rw (s.place, number, s.at) refl in
    rw text (read_by p r.0 r.1 r.2 r.2.array h s.at s.within refl (omega (arith, s.object, h.objects_few, lt)) ∙ ap Some s.object)
