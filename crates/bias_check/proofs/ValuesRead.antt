-- Values and woken threads, and their words.
use Rattle.std.proofs.Common.{◌≡◌, ℕ, ◌+◌, ◌<◌, ◌==◌, ◌⊎◌, Bool, true, false, if◌then◌else◌, List, [], ◌∷◌, ◌++◌, length}
use Rattle.std.proofs.Common.{refl, sym, ◌∙◌, ap, append-nil, arith, codes, inl, inr, ℤ, bytes_eq, Option, Some, None}
use Rattle.std.specs.Prelude.{decimal, int_le, MatchOption}
use Rattle.std.specs.Fmt.{signed_decimal}
use Rattle.std.proofs.lemmas.Bool.{and_parts, cases_lt}
use Rattle.std.proofs.lemmas.Bool.Decides.{nat_tests}
use Rattle.std.proofs.lemmas.Int.{ints}
use Rattle.std.proofs.lemmas.Option.{same_Some}
use Rattle.plain_monitor.specs.Numbers.{IsInRange, least_number, greatest_number}
use Rattle.plain_monitor.specs.declared.entry.Value.{Value}
use Rattle.plain_monitor.specs.declared.entry.Value.TheVariants.{Nil, Int, Ref}
use Rattle.object_program.specs.Name.{is_letter, is_digit, is_name}
use Rattle.program_syntax.specs.Number.{number_of, digits_of, number_after}
use Rattle.object_program.specs.declared.program.ObjectDef.{ObjectDef}
use Rattle.object_program.specs.Program.{ProgramText, declared_total}
use Rattle.object_program.specs.Valid.{IsProgram}
use Rattle.program_syntax.proofs.CanonicalNumbers.{number_of_signed}
use Rattle.plain_machine.specs.Values.{IsValueOf}
use Rattle.lock_journal.specs.Words.{element_text, object_text, thread_text, value_text}
use Rattle.lock_journal.proofs.Names.{declared_is as text_of_declared}
use Rattle.lock_journal.specs.RunText.{woken_text}
use Rattle.bias_check.specs.declared.entries.ValueRead.{ValueRead}
use Rattle.bias_check.specs.declared.entries.WokenRead.{WokenRead}
use Rattle.bias_check.specs.Lines.{numbers_total, HasNumber}
use Rattle.bias_check.specs.inner.Table.{names_of, int_in, object_in, thread_in, value_in, value_else, woken_in}
use Rattle.bias_check.proofs.Options.{mapped}
use Rattle.bias_check.proofs.Spellings.{same_word}
use Rattle.bias_check.proofs.Numerals.{IsInt, int_is, value_int_read}
use Rattle.bias_check.proofs.ThreadsRead.{thread_is, thread_read}
use Rattle.bias_check.proofs.ObjectsRead.{object_is_name, stands, array_text, single_text}
use Rattle.bias_check.proofs.MadeRead.{thread_is_name, made_by, object_is, object_read}

-- a value with this word
pub record IsValueWord (p : ProgramText) (w : List ℕ) (v : Value) : Type 0 where
  pub text : value_text p v ≡ w
  pub valid : IsValueOf (numbers_total p) v

-- what a word reads as
pub record ReadsValue (p : ProgramText) (w : List ℕ) (r : ValueRead) : Type 0 where
  pub plain : IsValueWord p w r.plain
  pub other : (o : ℕ) → r.other ≡ Some o → (r.plain ≡ Nil) × IsValueWord p w (Ref o)

ref_word : (p : ProgramText) (w : List ℕ) (o : ℕ) → IsProgram p → object_in (names_of p) w ≡ Some o → IsValueWord p w (Ref o)
ref_word p w o h e = let at = object_is p w o h e in record { text = at.text; valid = (at.within, tt) }

int_range : (w : List ℕ) (z : ℤ) → IsInt least_number greatest_number w z → IsInRange z
int_range w z h = let k = and_parts (int_le least_number z) (int_le z greatest_number) h.within in
    let low = k.0 in let high = k.1 in (grind (arith, ints, nat_tests), grind (arith, ints, nat_tests))

else_is : (p : ProgramText) (w : List ℕ) (r : ValueRead) (z : Option ℤ) → IsProgram p → int_in least_number greatest_number w ≡ z
    → value_else z (object_in (names_of p) w) ≡ Some r → ReadsValue p w r
else_is p w r (Some z) h at e =
    let int = int_is least_number greatest_number w z at in
    let same = same_Some _ _ e in
    rw (← same) (record { plain = record { text = int.text; valid = (tt, int_range w z int) }; other = λ o k. absurd (cc k) })
else_is p w r None h at e =
    mapped _ (object_in (names_of p) w) r e (λ o some same.
    rw (← same) (record { plain = ref_word p w o h some; other = λ n k. absurd (cc k) }))

value_is_by : (p : ProgramText) (w : List ℕ) (r : ValueRead) (b : Bool) → IsProgram p
    → bytes_eq (codes "nil") w ≡ b → value_in (names_of p) w ≡ Some r → ReadsValue p w r
value_is_by p w r true h at e =
    let same = same_Some _ _ (rw at at e) in
    rw (← same) (record {
      plain = record { text = same_word (codes "nil") w at; valid = (tt, tt) };
      other = λ o k. (refl, ref_word p w o h k);
    })
value_is_by p w r false h at e = else_is p w r (int_in least_number greatest_number w) h refl (rw at at e)

pub value_is : (p : ProgramText) (w : List ℕ) (r : ValueRead) → IsProgram p → value_in (names_of p) w ≡ Some r → ReadsValue p w r
value_is p w r h e = value_is_by p w r (bytes_eq (codes "nil") w) h refl e

-- a reading has the value
abbrev pub HasValue : ValueRead → Value → Type 0
HasValue r v = (r.plain ≡ v) ⊎ ((o : ℕ) × (v ≡ Ref o) × (r.other ≡ Some o))

-- a word that begins with a letter is no number
no_digit : (b : ℕ) → is_letter b ≡ true → (is_digit b ≡ false) × ((b == 45) ≡ false)
no_digit b h = (grind (arith, nat_tests), grind (arith, nat_tests))

if_none : (b : Bool) (o : Option ℕ) → o ≡ None → (if b then o else None) ≡ None
if_none true o h = h
if_none false o h = refl

letter_is_no_number : (b : ℕ) (bs : List ℕ) → is_letter b ≡ true → number_of (b ∷ bs) ≡ None
letter_is_no_number b bs h =
    let other = no_digit b h in
    let digits : digits_of (b ∷ bs) ≡ None = if_none _ (number_after 0 (b ∷ bs)) (rw other.0 refl) in
    rw (other.1, digits) refl

name_is_no_number : (name rest : List ℕ) → is_name name ≡ true → number_of (name ++ rest) ≡ None
name_is_no_number [] rest h = absurd (cc h)
name_is_no_number (b ∷ bs) rest h =
    let short = and_parts _ _ h in
    let parts = and_parts _ _ short.0 in
    letter_is_no_number b (bs ++ rest) parts.0

element_is_no_number : (d : ObjectDef) (i : ℕ) (b : Bool) → d.array ≡ b → is_name d.name ≡ true → number_of (element_text i (Some d)) ≡ None
element_is_no_number d i true a h = rw (array_text d i a) (name_is_no_number d.name (91 ∷ (decimal i ++ 93 ∷ [])) h)
element_is_no_number d i false a h =
    rw (single_text d i a) (ap number_of (sym (append-nil d.name)) ∙ name_is_no_number d.name [] h)

declared_is_no_number : (p : ProgramText) (o : ℕ) → IsProgram p → o < declared_total p → number_of (object_text p o) ≡ None
declared_is_no_number p o h lt =
    let r = stands (length p.classes) 0 0 p.objects o h.objects (omega arith) (omega (arith, lt)) in
    let s = r.3 in
    let number : 0 + r.0 ≡ r.0 = omega arith in
    let text : object_text p o ≡ element_text r.1 (Some r.2) = text_of_declared p o lt ∙ rw (s.place, number, s.at) refl in
    rw text (element_is_no_number r.2 r.1 r.2.array refl (object_is_name p r.0 r.2 h s.at))

object_is_no_number : (p : ProgramText) (o : ℕ) → IsProgram p → HasNumber p o → number_of (object_text p o) ≡ None
object_is_no_number p o h lt =
    elim (cases_lt o (declared_total p)) [
      | inl low ↦ declared_is_no_number p o h low
      | inr late ↦
          let r = made_by p o late lt in
          ap number_of r.2.text ∙ name_is_no_number (thread_text p r.0) (46 ∷ decimal r.1) (thread_is_name p r.0 h r.2.thread)
    ]

int_read_by : (p : ProgramText) (z : ℤ) (b : Bool) → bytes_eq (codes "nil") (signed_decimal z) ≡ b → IsInRange z
    → (r : ValueRead) × (value_in (names_of p) (signed_decimal z) ≡ Some r) × HasValue r (Int z)
int_read_by p z true at range =
    let same : number_of (codes "nil") ≡ Some z = ap number_of (same_word (codes "nil") (signed_decimal z) at) ∙ number_of_signed z range in absurd (cc same)
int_read_by p z false at range =
    (record { plain = Int z; other = None }, rw (at, value_int_read z range) refl, inl refl)

ref_read_by : (p : ProgramText) (o : ℕ) (b : Bool) → bytes_eq (codes "nil") (object_text p o) ≡ b → IsProgram p → HasNumber p o
    → (r : ValueRead) × (value_in (names_of p) (object_text p o) ≡ Some r) × HasValue r (Ref o)
ref_read_by p o true at h lt =
    (record { plain = Nil; other = Some o }, rw (at, object_read p o h lt) refl, inr (o, refl, refl))
ref_read_by p o false at h lt =
    (record { plain = Ref o; other = None }, rw (at, object_is_no_number p o h lt, object_read p o h lt) refl, inl refl)

-- a value is among the readings of its word
pub value_read : (p : ProgramText) (v : Value) → IsProgram p → IsValueOf (numbers_total p) v
    → (r : ValueRead) × (value_in (names_of p) (value_text p v) ≡ Some r) × HasValue r v
value_read p Nil h valid = (record { plain = Nil; other = object_in (names_of p) (codes "nil") }, refl, inl refl)
value_read p (Int z) h valid = int_read_by p z (bytes_eq (codes "nil") (signed_decimal z)) refl valid.1
value_read p (Ref o) h valid = ref_read_by p o (bytes_eq (codes "nil") (object_text p o)) refl h valid.0

-- a woken thread with this word
abbrev pub IsThreadOf : ProgramText → Option ℕ → Type 0
IsThreadOf p woken = MatchOption woken (Unit {0}) (λ t. t < length p.threads)

pub record IsWokenWord (p : ProgramText) (w : List ℕ) (woken : Option ℕ) : Type 0 where
  pub text : woken_text p woken ≡ w
  pub valid : IsThreadOf p woken

pub record ReadsWoken (p : ProgramText) (w : List ℕ) (r : WokenRead) : Type 0 where
  pub plain : IsWokenWord p w r.plain
  pub other : (t : ℕ) → r.other ≡ Some t → (r.plain ≡ None) × IsWokenWord p w (Some t)

thread_word : (p : ProgramText) (w : List ℕ) (t : ℕ) → thread_in (names_of p) w ≡ Some t → IsWokenWord p w (Some t)
thread_word p w t e = let at = thread_is p w t e in record { text = at.text; valid = at.within }

woken_is_by : (p : ProgramText) (w : List ℕ) (r : WokenRead) (b : Bool) → bytes_eq (codes "none") w ≡ b → woken_in (names_of p) w ≡ Some r → ReadsWoken p w r
woken_is_by p w r true at e =
    let same = same_Some _ _ (rw at at e) in
    rw (← same) (record {
      plain = record { text = same_word (codes "none") w at; valid = tt };
      other = λ t k. (refl, thread_word p w t k);
    })
woken_is_by p w r false at e =
    mapped _ (thread_in (names_of p) w) r (rw at at e) (λ t some same.
    rw (← same) (record { plain = thread_word p w t some; other = λ n k. absurd (cc k) }))

pub woken_is : (p : ProgramText) (w : List ℕ) (r : WokenRead) → woken_in (names_of p) w ≡ Some r → ReadsWoken p w r
woken_is p w r e = woken_is_by p w r (bytes_eq (codes "none") w) refl e

abbrev pub HasWoken : WokenRead → Option ℕ → Type 0
HasWoken r woken = (r.plain ≡ woken) ⊎ ((t : ℕ) × (woken ≡ Some t) × (r.other ≡ Some t))

thread_read_by : (p : ProgramText) (t : ℕ) (b : Bool) → bytes_eq (codes "none") (thread_text p t) ≡ b → IsProgram p → t < length p.threads
    → (r : WokenRead) × (woken_in (names_of p) (thread_text p t) ≡ Some r) × HasWoken r (Some t)
thread_read_by p t true at h lt =
    (record { plain = None; other = Some t }, rw (at, thread_read p t h lt) refl, inr (t, refl, refl))
thread_read_by p t false at h lt =
    (record { plain = Some t; other = None }, rw (at, thread_read p t h lt) refl, inl refl)

-- a woken thread is among the readings of its word
pub woken_read : (p : ProgramText) (woken : Option ℕ) → IsProgram p → IsThreadOf p woken
    → (r : WokenRead) × (woken_in (names_of p) (woken_text p woken) ≡ Some r) × HasWoken r woken
woken_read p None h valid = (record { plain = None; other = thread_in (names_of p) (codes "none") }, refl, inl refl)
woken_read p (Some t) h valid = thread_read_by p t (bytes_eq (codes "none") (thread_text p t)) refl h valid
