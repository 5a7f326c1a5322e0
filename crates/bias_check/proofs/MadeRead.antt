-- Objects and their words, of those that are declared and those that threads make.
use Rattle.std.proofs.Common.{◌≡◌, ℕ, ◌+◌, ◌-◌, ◌*◌, ◌/◌, ◌%◌, ◌<◌, ◌≤◌, ◌^◌, ◌==◌, Bool, true, false, List, [], ◌∷◌, ◌++◌, length}
use Rattle.std.proofs.Common.{map, take, drop, refl, ◌∙◌, ap, arith, inl, inr, append_assoc, codes, Option, Some, None}
use Rattle.std.specs.Prelude.{decimal, nat_lt, position}
use Rattle.std.proofs.Math.Seq.{take-append_seam, drop-append-add}
use Rattle.std.proofs.lemmas.Bool.{cases_lt}
use Rattle.std.proofs.lemmas.Bool.Decides.{nat_tests}
use Rattle.std.proofs.lemmas.List.{length-map}
use Rattle.plain_monitor.specs.Limits.{most_made}
use Rattle.object_program.specs.Name.{is_name}
use Rattle.object_program.specs.declared.program.ObjectDef.{ObjectDef}
use Rattle.object_program.specs.Program.{ProgramText, declared_total}
use Rattle.object_program.specs.Valid.{IsProgram}
use Rattle.program_syntax.proofs.CanonicalNames.{nth_is_name}
use Rattle.lock_journal.specs.Words.{element_text, object_text, thread_text}
use Rattle.lock_journal.proofs.Names.{declared_is, made_is}
use Rattle.bias_check.specs.Lines.{HasNumber}
use Rattle.bias_check.specs.inner.Table.{names_of, thread_in, count_below, undotted_in, made_in, dotted_by, object_in}
use Rattle.bias_check.proofs.Options.{and_then, where_true}
use Rattle.bias_check.proofs.Numerals.{IsBelow, below_is, below_read}
use Rattle.bias_check.proofs.ThreadsRead.{IsThreadWord, thread_name, thread_is, thread_read}
use Rattle.bias_check.proofs.ObjectsRead.{stands, array_text, single_text, object_is_name, cut_at, undotted_is, undotted_read}
use Rattle.bias_check.proofs.Dots.{dotless, no_dot, first_dot, dotless_append, name_dotless, decimal_dotless}

pub thread_is_name : (p : ProgramText) (t : ℕ) → IsProgram p → t < length p.threads → is_name (thread_text p t) ≡ true
thread_is_name p t h lt =
    let within : t < length (map (λ d. d.name) p.threads) = omega (arith, lt, length-map p.threads (λ d. d.name)) in
    rw (thread_name p.threads t) (nth_is_name (map (λ d. d.name) p.threads) t h.thread_names within)

-- an object that a thread makes
pub record IsMade (p : ProgramText) (o t k : ℕ) : Type 0 where
  pub thread : t < length p.threads
  pub place : k < most_made
  pub number : declared_total p + (most_made * t + k) ≡ o
  pub text : object_text p o ≡ thread_text p t ++ 46 ∷ decimal k

dot_text : (a b : List ℕ) → (a ++ codes ".") ++ b ≡ a ++ 46 ∷ b
dot_text a b = append_assoc a (codes ".") b

-- each number after the declared ones is that of a thread
pub made_by : (p : ProgramText) (o : ℕ) → declared_total p ≤ o → HasNumber p o → (t : ℕ) × (k : ℕ) × IsMade p o t k
made_by p o late lt =
    let t = (o - declared_total p) / most_made in
    let k = (o - declared_total p) % most_made in (
      t,
      k,
      record {
        thread = omega (arith, late, lt);
        place = omega arith;
        number = omega (arith, late);
        text = made_is p o late ∙ dot_text (thread_text p t) (decimal k);
      },
    )

thread_back : (first t k o : ℕ) → k < most_made → first + (most_made * t + k) ≡ o → (o - first) / most_made ≡ t
thread_back first t k o h e = omega (arith, h, e)

place_back : (first t k o : ℕ) → k < most_made → first + (most_made * t + k) ≡ o → (o - first) % most_made ≡ k
place_back first t k o h e = omega (arith, h, e)

-- an object's word
pub record IsObjectWord (p : ProgramText) (w : List ℕ) (o : ℕ) : Type 0 where
  pub text : object_text p o ≡ w
  pub within : HasNumber p o

text_at : (p : ProgramText) (a b t k : ℕ) (name digits w : List ℕ) → a ≡ t → b ≡ k → thread_text p t ≡ name → decimal k ≡ digits → w ≡ name ++ 46 ∷ digits
    → thread_text p a ++ 46 ∷ decimal b ≡ w
text_at p a b t k name digits w maker nth thread place cut = rw (maker, nth, thread, place, cut) refl

-- the k-th object of a thread has this word
made_word : (p : ProgramText) (t k o : ℕ) (name digits w : List ℕ) → IsThreadWord p name t
    → IsBelow most_made digits k → declared_total p + (most_made * t + k) ≡ o
    → w ≡ name ++ 46 ∷ digits → IsObjectWord p w o
made_word p t k o name digits w thread place number cut =
    let maker = thread_back (declared_total p) t k o place.below number in
    let nth = place_back (declared_total p) t k o place.below number in
    let at : object_text p o ≡ thread_text p ((o - declared_total p) / most_made) ++ 46 ∷ decimal ((o - declared_total p) % most_made) =
    made_is p o (omega (arith, number)) ∙ dot_text (thread_text p ((o - declared_total p) / most_made)) (decimal ((o - declared_total p) % most_made)) in
    record {
      text = at ∙ text_at p _ _ t k name digits w maker nth thread.text place.text cut;
      within = omega (arith, number, place.below, thread.within);
    }

dotted_is : (p : ProgramText) (w : List ℕ) (o : ℕ) (end : Option ℕ) → IsProgram p
    → end ≡ position (λ b. b == 46) w → dotted_by (names_of p) w end ≡ Some o → IsObjectWord p w o
dotted_is p w o None h at e =
    let is = undotted_is p w o h e in record { text = is.text; within = omega (arith, is.within) }
dotted_is p w o (Some end) h at e =
    let name = take end w in
    let digits = drop (end + 1) w in
    and_then _ (thread_in (names_of p) name) o e (λ t some f.
    and_then _ (count_below most_made digits) o f (λ k counted g.
    let number = declared_total p + (most_made * t + k) in
    where_true (nat_lt number (2 ^ 32)) number o g (λ fits same.
    made_word p t k o name digits w (thread_is p name t some) (below_is most_made digits k counted) same (cut_at 46 w end at))))

-- the word of an object that is found is that object's
pub object_is : (p : ProgramText) (w : List ℕ) (o : ℕ) → IsProgram p → object_in (names_of p) w ≡ Some o → IsObjectWord p w o
object_is p w o h e = dotted_is p w o (position (λ b. b == 46) w) h refl e

-- the word of a declared object has no dot
element_dotless : (d : ObjectDef) (i : ℕ) (b : Bool) → d.array ≡ b → is_name d.name ≡ true → i < 2 ^ 64 → dotless (element_text i (Some d)) ≡ true
element_dotless d i true a h lt =
    rw (array_text d i a) (dotless_append d.name (91 ∷ (decimal i ++ 93 ∷ []))
    (name_dotless d.name h) (dotless_append (decimal i) (93 ∷ []) (decimal_dotless i lt) refl))
element_dotless d i false a h lt = rw (single_text d i a) (name_dotless d.name h)

declared_dotless : (p : ProgramText) (o : ℕ) → IsProgram p → o < declared_total p → dotless (object_text p o) ≡ true
declared_dotless p o h lt =
    let r = stands (length p.classes) 0 0 p.objects o h.objects (omega arith) (omega (arith, lt)) in
    let s = r.3 in
    let number : 0 + r.0 ≡ r.0 = omega arith in
    let text : object_text p o ≡ element_text r.1 (Some r.2) = declared_is p o lt ∙ rw (s.place, number, s.at) refl in
    rw text (element_dotless r.2 r.1 r.2.array refl (object_is_name p r.0 r.2 h s.at) (omega (arith, s.object, h.objects_few, lt)))

by_no_dot : (p : ProgramText) (w : List ℕ) → dotless w ≡ true → object_in (names_of p) w ≡ undotted_in (names_of p) w
by_no_dot p w h = rw (no_dot w h) refl

by_dot : (p : ProgramText) (name digits : List ℕ) → dotless name ≡ true → object_in (names_of p) (name ++ 46 ∷ digits) ≡ made_in (names_of p) name digits
by_dot p name digits h =
    let front : take (length name) (name ++ 46 ∷ digits) ≡ name = take-append_seam name (46 ∷ digits) in
    let back : drop (length name + 1) (name ++ 46 ∷ digits) ≡ digits = drop-append-add name (46 ∷ digits) 1 in
    rw (first_dot name digits h, front, back) refl

number_read : (p : ProgramText) (o t k : ℕ) → IsProgram p → IsMade p o t k → made_in (names_of p) (thread_text p t) (decimal k) ≡ Some o
number_read p o t k h made =
    let small : nat_lt (declared_total p + (most_made * t + k)) (2 ^ 32) ≡ true = let few : declared_total p + (most_made * t + k) < 2 ^ 32 =
    omega (arith, h.objects_few, h.threads_few, made.thread, made.place) in grind (arith, nat_tests) in
    rw (thread_read p t h made.thread, below_read most_made k (omega (arith, made.place)) made.place, small) (ap Some made.number)

-- the word of an object is read as it
pub object_read : (p : ProgramText) (o : ℕ) → IsProgram p → HasNumber p o → object_in (names_of p) (object_text p o) ≡ Some o
object_read p o h lt =
    elim (cases_lt o (declared_total p)) [
      | inl low ↦ by_no_dot p (object_text p o) (declared_dotless p o h low) ∙ undotted_read p o h low
      | inr late ↦
          let r = made_by p o late lt in
          ap (λ (w : List ℕ). object_in (names_of p) w) r.2.text
          ∙ by_dot p (thread_text p r.0) (decimal r.1) (name_dotless (thread_text p r.0) (thread_is_name p r.0 h r.2.thread))
          ∙ number_read p o r.0 r.1 h r.2
    ]
