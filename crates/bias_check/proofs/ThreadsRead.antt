-- Names of threads and of declarations of objects, and their words.
use Rattle.std.proofs.Common.{◌≡◌, ℕ, zero, suc, ◌<◌, Bool, true, false, List, [], ◌∷◌, length, map}
use Rattle.std.proofs.Common.{get_or, refl, sym, ◌∙◌, ap, arith, bytes_eq, slice_get, Some}
use Rattle.std.specs.Prelude.{nat_lt}
use Rattle.std.proofs.lemmas.Bool.Decides.{nat_tests}
use Rattle.std.proofs.lemmas.List.{length-map}
use Rattle.plain_monitor.specs.Limits.{most_threads}
use Rattle.object_program.specs.declared.program.ThreadDef.{ThreadDef}
use Rattle.object_program.specs.declared.program.ClassDef.{ClassDef}
use Rattle.object_program.specs.declared.program.ObjectDef.{ObjectDef}
use Rattle.object_program.specs.Program.{ProgramText}
use Rattle.program_syntax.specs.Reading.{number_among}
use Rattle.object_program.specs.Valid.{is_among, AreNames, IsProgram}
use Rattle.program_syntax.proofs.AllowedNames.{number_among-lt}
use Rattle.program_syntax.proofs.CanonicalNames.{nth_is_among, number_among-nth}
use Rattle.lock_journal.specs.Words.{name_of, thread_text}
use Rattle.lock_journal.specs.RunText.{class_name}
use Rattle.bias_check.specs.inner.Table.{names_of, place_in, thread_in, class_in, declared_in}
use Rattle.bias_check.proofs.Options.{and_then, where_true}
use Rattle.bias_check.proofs.Spellings.{same_word}

-- the name at the place of a word among names is the word
name_at_by : (n : List ℕ) (ns : List (List ℕ)) (w : List ℕ) (b : Bool) → bytes_eq n w ≡ b → is_among (n ∷ ns) w ≡ true
    → (is_among ns w ≡ true → get_or ns (number_among ns w) [] ≡ w) → get_or (n ∷ ns) (number_among (n ∷ ns) w) [] ≡ w
name_at_by n ns w true e h ih = rw e (same_word n w e)
name_at_by n ns w false e h ih =
    let rest : is_among ns w ≡ true = rw e at h in
    let at : number_among (n ∷ ns) w ≡ suc (number_among ns w) = rw e (omega arith) in
    ap (λ k. get_or (n ∷ ns) k []) at ∙ ih rest

pub name_at : (names : List (List ℕ)) (w : List ℕ) → is_among names w ≡ true → get_or names (number_among names w) [] ≡ w
name_at [] w h = absurd (cc h)
name_at (n ∷ ns) w h = name_at_by n ns w (bytes_eq n w) refl h (name_at ns w)

pub record IsPlaced (names : List (List ℕ)) (w : List ℕ) (n : ℕ) : Type 0 where
  pub name : get_or names n [] ≡ w
  pub within : n < length names

pub place_is : (names : List (List ℕ)) (w : List ℕ) (n : ℕ) → place_in names w ≡ Some n → IsPlaced names w n
place_is names w n h =
    where_true (is_among names w) (number_among names w) n h (λ there same.
    rw (← same) (record { name = name_at names w there; within = number_among-lt names w there }))

pub place_read : (names : List (List ℕ)) (n : ℕ) → AreNames names → n < length names → place_in names (get_or names n []) ≡ Some n
place_read names n h k = rw (nth_is_among names n k, number_among-nth names n h k) refl

-- the name of a thread
pub thread_name : (ts : List ThreadDef) (t : ℕ) → name_of (slice_get ts t) ≡ get_or (map (λ d. d.name) ts) t []
thread_name [] t = refl
thread_name (d ∷ ds) zero = refl
thread_name (d ∷ ds) (suc t) = thread_name ds t

pub record IsThreadWord (p : ProgramText) (w : List ℕ) (t : ℕ) : Type 0 where
  pub text : thread_text p t ≡ w
  pub within : t < length p.threads

pub thread_is : (p : ProgramText) (w : List ℕ) (t : ℕ) → thread_in (names_of p) w ≡ Some t → IsThreadWord p w t
thread_is p w t h =
    and_then _ (place_in (names_of p).threads w) t h (λ n some e.
    where_true (nat_lt n most_threads) n t e (λ few same.
    let at = place_is (names_of p).threads w n some in
    rw (← same) (record {
      text = thread_name p.threads n ∙ at.name;
      within = omega (arith, at.within, length-map p.threads (λ d. d.name));
    })))

pub thread_read : (p : ProgramText) (t : ℕ) → IsProgram p → t < length p.threads → thread_in (names_of p) (thread_text p t) ≡ Some t
thread_read p t h k =
    let names = (names_of p).threads in
    let counted : length names ≡ length p.threads = length-map p.threads (λ d. d.name) in
    let few : nat_lt t most_threads ≡ true = let m = h.threads_few in grind (arith, nat_tests) in
    rw (thread_name p.threads t, place_read names t h.thread_names (omega (arith, counted, k)), few) refl

-- the name of a class
pub class_at_name : (cs : List ClassDef) (c : ℕ) → class_name (slice_get cs c) ≡ get_or (map (λ d. d.name) cs) c []
class_at_name [] c = refl
class_at_name (d ∷ ds) zero = refl
class_at_name (d ∷ ds) (suc c) = class_at_name ds c

pub record IsClassWord (p : ProgramText) (w : List ℕ) (c : ℕ) : Type 0 where
  pub text : class_name (slice_get p.classes c) ≡ w
  pub within : c < length p.classes

pub class_is : (p : ProgramText) (w : List ℕ) (c : ℕ) → class_in (names_of p) w ≡ Some c → IsClassWord p w c
class_is p w c h =
    and_then _ (place_in (names_of p).classes w) c h (λ n some e.
    where_true (nat_lt n 64) n c e (λ few same.
    let at = place_is (names_of p).classes w n some in
    rw (← same) (record {
      text = class_at_name p.classes n ∙ at.name;
      within = omega (arith, at.within, length-map p.classes (λ d. d.name));
    })))

pub class_read : (p : ProgramText) (c : ℕ) → IsProgram p → c < length p.classes → class_in (names_of p) (class_name (slice_get p.classes c)) ≡ Some c
class_read p c h k =
    let names = (names_of p).classes in
    let counted : length names ≡ length p.classes = length-map p.classes (λ d. d.name) in
    let few : nat_lt c 64 ≡ true = let m = h.classes_few in grind (arith, nat_tests) in
    rw (class_at_name p.classes c, place_read names c h.class_names (omega (arith, counted, k)), few) refl

-- the declaration with a name
pub object_name : (ds : List ObjectDef) (n : ℕ) (d : ObjectDef) → slice_get ds n ≡ Some d → get_or (map (λ d. d.name) ds) n [] ≡ d.name
object_name [] n d h = absurd (cc h)
object_name (e ∷ es) zero d h = let same : e ≡ d = cc in rw same refl
object_name (e ∷ es) (suc n) d h = object_name es n d h

pub get_within : {X : Type 0} (xs : List X) (n : ℕ) (x : X) → slice_get xs n ≡ Some x → n < length xs
get_within [] n x h = absurd (cc h)
get_within (y ∷ ys) zero x h = omega arith
get_within (y ∷ ys) (suc n) x h = let k = get_within ys n x h in omega (arith, k)

pub record IsDeclared (p : ProgramText) (name : List ℕ) (d : ObjectDef) : Type 0 where
  pub number : ℕ
  pub at : slice_get p.objects number ≡ Some d
  pub named : d.name ≡ name

pub declared_is : (p : ProgramText) (name : List ℕ) (d : ObjectDef) → declared_in (names_of p) name ≡ Some d → IsDeclared p name d
declared_is p name d h =
    and_then _ (place_in (map (λ d. d.name) p.objects) name) d h (λ n some at.
    record { number = n; at = at; named = sym (object_name p.objects n d at) ∙ (place_is (map (λ d. d.name) p.objects) name n some).name })

pub declared_read : (p : ProgramText) (n : ℕ) (d : ObjectDef) → IsProgram p → slice_get p.objects n ≡ Some d → declared_in (names_of p) d.name ≡ Some d
declared_read p n d h at =
    let names = map (λ d. d.name) p.objects in
    let within : n < length names = omega (arith, get_within p.objects n d at, length-map p.objects (λ d. d.name)) in
    let place : place_in names d.name ≡ Some n = ap (λ w. place_in names w) (sym (object_name p.objects n d at)) ∙ place_read names n h.object_names within in
    rw (place, at) refl
