-- A line of the journal as words.
use Rattle.std.proofs.Common.{◌≡◌, ℕ, ◌+◌, ◌<◌, ◌^◌, ◌==◌, ◌||◌, Bool, true, false, not, List, [], ◌∷◌, ◌++◌, length, map, get_or, refl}
use Rattle.std.proofs.Common.{subst, ◌∙◌, ap, arith, inl, inr, append_assoc, append-nil, codes, slice_get, Option, Some, None}
use Rattle.std.specs.Prelude.{decimal}
use Rattle.std.specs.Fmt.{signed_decimal}
use Rattle.std.specs.List.{AllByRecursion, list_all, join_with_byte}
use Rattle.std.proofs.lemmas.Bool.{and_parts, cases_lt}
use Rattle.std.proofs.lemmas.Bool.Decides.{nat_tests}
use Rattle.std.proofs.lemmas.List.{length-map}
use Rattle.std.proofs.lemmas.List.Elements.{All-from_recursion}
use Rattle.std.proofs.lemmas.List.Splits.{slice_split_at, slice_split_none}
use Rattle.plain_monitor.specs.declared.entry.Value.{Value}
use Rattle.plain_monitor.specs.declared.entry.Value.TheVariants.{Nil, Int, Ref}
use Rattle.plain_monitor.specs.declared.entry.Path.{Path}
use Rattle.plain_monitor.specs.declared.entry.Path.TheVariants.{BiasOwn}
use Rattle.plain_monitor.specs.declared.entry.Fault.{Fault}
use Rattle.plain_monitor.specs.declared.entry.Fault.TheVariants.{IllegalMonitorState}
use Rattle.plain_monitor.specs.declared.entry.Entry.{Entry}
use Rattle.plain_monitor.specs.declared.entry.Entry.TheVariants.{Enter, Exit, Get, Put, Wait, Resume, Notify, NotifyAll}
use Rattle.plain_monitor.specs.declared.entry.Entry.TheVariants.{Hash, New, Print, Dump, Trap, Spent, Done}
use Rattle.plain_monitor.specs.declared.entry.Logged.{Logged}
use Rattle.object_program.specs.declared.program.ObjectDef.{ObjectDef}
use Rattle.object_program.specs.Program.{ProgramText, declared_total}
use Rattle.object_program.specs.Valid.{IsProgram}
use Rattle.object_program.specs.Name.{is_name}
use Rattle.program_syntax.proofs.CanonicalText.{is_word_byte, is_word}
use Rattle.program_syntax.proofs.CanonicalNames.{name_word, nth_is_name}
use Rattle.program_syntax.proofs.CanonicalNumbers.{decimal_word, signed_word}
use Rattle.plain_machine.specs.Values.{IsValueOf}
use Rattle.lock_journal.specs.Words.{element_text, object_text, thread_text, value_text, path_text, fault_text}
use Rattle.lock_journal.proofs.Names.{declared_is as text_of_declared}
use Rattle.lock_journal.specs.RunText.{journal_line, entry_text, newline, class_name, woken_text, draw_text}
use Rattle.bias_check.specs.declared.spelled.Verb.{Verb}
use Rattle.bias_check.specs.declared.spelled.Verb.TheVariants as verb
use Rattle.bias_check.specs.Lines.{numbers_total, HasNumber, IsEntryIn, Tells}
use Rattle.bias_check.specs.inner.Words.{words_of}
use Rattle.bias_check.specs.inner.Spelled.{verb_text}
use Rattle.bias_check.proofs.ThreadsRead.{thread_name, class_at_name}
use Rattle.bias_check.proofs.ObjectsRead.{stands, array_text, single_text, object_is_name}
use Rattle.bias_check.proofs.MadeRead.{made_by}

abbrev pub verb_in : Entry → Verb
verb_in (Enter o path) = verb.Enter
verb_in (Exit o) = verb.Exit
verb_in (Wait o) = verb.Wait
verb_in (Resume o) = verb.Resume
verb_in (Get o k v) = verb.Get
verb_in (Put o k v) = verb.Put
verb_in (Notify o woken) = verb.Notify
verb_in (NotifyAll o n) = verb.NotifyAll
verb_in (Hash o v drawn) = verb.Hash
verb_in (New o c) = verb.New
verb_in (Print v) = verb.Print
verb_in (Dump n) = verb.Dump
verb_in (Trap fault index) = verb.Fault
verb_in Spent = verb.Spent
verb_in Done = verb.Done

abbrev pub draw_words : Option ℕ → List (List ℕ)
draw_words None = []
draw_words (Some n) = codes "draw" ∷ decimal n ∷ []

-- the words after the verb
abbrev pub args_of : ProgramText → Entry → List (List ℕ)
args_of p (Enter o path) = object_text p o ∷ path_text path ∷ []
args_of p (Exit o) = object_text p o ∷ []
args_of p (Wait o) = object_text p o ∷ []
args_of p (Resume o) = object_text p o ∷ []
args_of p (Get o k v) = object_text p o ∷ decimal k ∷ value_text p v ∷ []
args_of p (Put o k v) = object_text p o ∷ decimal k ∷ value_text p v ∷ []
args_of p (Notify o woken) = object_text p o ∷ woken_text p woken ∷ []
args_of p (NotifyAll o n) = object_text p o ∷ decimal n ∷ []
args_of p (Hash o v drawn) = object_text p o ∷ decimal v ∷ draw_words drawn
args_of p (New o c) = object_text p o ∷ class_name (slice_get p.classes c) ∷ []
args_of p (Print v) = value_text p v ∷ []
args_of p (Dump n) = decimal n ∷ []
args_of p (Trap fault index) = fault_text fault ∷ codes "at" ∷ decimal index ∷ []
args_of p Spent = []
args_of p Done = []

abbrev pub line_words : ProgramText → ℕ × Logged → List (List ℕ)
line_words p x =
    (64 ∷ decimal x.1.stamp) ∷ thread_text p x.0 ∷ verb_text (verb_in x.1.entry) ∷ args_of p x.1.entry

-- pieces with spaces between them
spaced : (a b : List ℕ) → (a ++ codes " ") ++ b ≡ a ++ 32 ∷ b
spaced a b = append_assoc a (codes " ") b

spaced_twice : (a b c : List ℕ) → (((a ++ codes " ") ++ b) ++ codes " ") ++ c ≡ a ++ 32 ∷ (b ++ 32 ∷ c)
spaced_twice a b c =
    spaced ((a ++ codes " ") ++ b) c ∙ ap (λ x. x ++ 32 ∷ c) (spaced a b) ∙ append_assoc a (32 ∷ b) (32 ∷ c)

entry_is : (p : ProgramText) (e : Entry) → entry_text p e ≡ join_with_byte 32 (verb_text (verb_in e) ∷ args_of p e)
entry_is p (Enter o path) = spaced (codes "enter " ++ object_text p o) (path_text path)
entry_is p (Get o k v) = spaced_twice (codes "get " ++ object_text p o) (decimal k) (value_text p v)
entry_is p (Put o k v) = spaced_twice (codes "put " ++ object_text p o) (decimal k) (value_text p v)
entry_is p (Notify o woken) = spaced (codes "notify " ++ object_text p o) (woken_text p woken)
entry_is p (NotifyAll o n) = spaced (codes "notifyall " ++ object_text p o) (decimal n)
entry_is p (Hash o v None) =
    append-nil (((codes "hash " ++ object_text p o) ++ codes " ") ++ decimal v) ∙ spaced (codes "hash " ++ object_text p o) (decimal v)
entry_is p (Hash o v (Some n)) =
    ap (λ x. x ++ draw_text (Some n)) (spaced (codes "hash " ++ object_text p o) (decimal v))
    ∙ append_assoc (codes "hash " ++ object_text p o) (32 ∷ decimal v) (draw_text (Some n))
entry_is p (New o c) = spaced (codes "new " ++ object_text p o) (class_name (slice_get p.classes c))
entry_is p (Trap fault index) = append_assoc (codes "fault " ++ fault_text fault) (codes " at ") (decimal index)
entry_is p _ = refl

-- a line of the journal is its words
pub line_is : (p : ProgramText) (x : ℕ × Logged) → journal_line p x ≡ join_with_byte 32 (line_words p x) ++ 10 ∷ []
line_is p x =
    let stamp = 64 ∷ decimal x.1.stamp in
    let thread = thread_text p x.0 in
    ap (λ (b : List ℕ). b ++ newline) (spaced_twice stamp thread (entry_text p x.1.entry)
    ∙ ap (λ (e : List ℕ). stamp ++ 32 ∷ (thread ++ 32 ∷ e)) (entry_is p x.1.entry))

-- a text with neither a space nor a line feed
abbrev pub spaceless : List ℕ → Bool
spaceless w = list_all (λ b. not ((b == 32) || (b == 10))) w

byte_spaceless : (b : ℕ) → is_word_byte b ≡ true → not ((b == 32) || (b == 10)) ≡ true
byte_spaceless b h = grind (arith, nat_tests)

bytes_spaceless : (w : List ℕ) → list_all is_word_byte w ≡ true → spaceless w ≡ true
bytes_spaceless [] h = refl
bytes_spaceless (b ∷ bs) h =
    let parts = and_parts (is_word_byte b) (list_all is_word_byte bs) h in rw (byte_spaceless b parts.0) (bytes_spaceless bs parts.1)

word_spaceless : (w : List ℕ) → is_word w ≡ true → spaceless w ≡ true
word_spaceless [] h = refl
word_spaceless (b ∷ bs) h = bytes_spaceless (b ∷ bs) h

spaceless_append : (a b : List ℕ) → spaceless a ≡ true → spaceless b ≡ true → spaceless (a ++ b) ≡ true
spaceless_append [] b h k = k
spaceless_append (x ∷ xs) b h k =
    let parts = and_parts (not ((x == 32) || (x == 10))) (spaceless xs) h in rw parts.0 (spaceless_append xs b parts.1 k)

decimal_spaceless : (n : ℕ) → n < 2 ^ 46 → spaceless (decimal n) ≡ true
decimal_spaceless n h = word_spaceless (decimal n) (decimal_word n (omega (arith, h)))

name_spaceless : (w : List ℕ) → is_name w ≡ true → spaceless w ≡ true
name_spaceless w h = word_spaceless w (name_word w h)

element_spaceless : (d : ObjectDef) (i : ℕ) (b : Bool) → d.array ≡ b → is_name d.name ≡ true → i < 2 ^ 46 → spaceless (element_text i (Some d)) ≡ true
element_spaceless d i true a h lt =
    rw (array_text d i a) (spaceless_append d.name (91 ∷ (decimal i ++ 93 ∷ []))
    (name_spaceless d.name h) (spaceless_append (decimal i) (93 ∷ []) (decimal_spaceless i lt) refl))
element_spaceless d i false a h lt = rw (single_text d i a) (name_spaceless d.name h)

declared_spaceless : (p : ProgramText) (o : ℕ) → IsProgram p → o < declared_total p → spaceless (object_text p o) ≡ true
declared_spaceless p o h lt =
    let r = stands (length p.classes) 0 0 p.objects o h.objects (omega arith) (omega (arith, lt)) in
    let s = r.3 in
    let number : 0 + r.0 ≡ r.0 = omega arith in
    let text : object_text p o ≡ element_text r.1 (Some r.2) = text_of_declared p o lt ∙ rw (s.place, number, s.at) refl in
    rw text (element_spaceless r.2 r.1 r.2.array refl (object_is_name p r.0 r.2 h s.at) (omega (arith, s.object, h.objects_few, lt)))

thread_spaceless : (p : ProgramText) (t : ℕ) → IsProgram p → t < length p.threads → spaceless (thread_text p t) ≡ true
thread_spaceless p t h lt =
    let within : t < length (map (λ d. d.name) p.threads) = omega (arith, lt, length-map p.threads (λ d. d.name)) in
    rw (thread_name p.threads t) (name_spaceless (get_or (map (λ d. d.name) p.threads) t [])
    (nth_is_name (map (λ d. d.name) p.threads) t h.thread_names within))

object_spaceless : (p : ProgramText) (o : ℕ) → IsProgram p → HasNumber p o → spaceless (object_text p o) ≡ true
object_spaceless p o h lt =
    elim (cases_lt o (declared_total p)) [
      | inl low ↦ declared_spaceless p o h low
      | inr late ↦
          let r = made_by p o late lt in
          let small : r.1 < 2 ^ 46 = omega (arith, r.2.place) in
          ap spaceless r.2.text
          ∙ spaceless_append (thread_text p r.0) (46 ∷ decimal r.1) (thread_spaceless p r.0 h r.2.thread) (decimal_spaceless r.1 small)
    ]

class_spaceless : (p : ProgramText) (c : ℕ) → IsProgram p → c < length p.classes → spaceless (class_name (slice_get p.classes c)) ≡ true
class_spaceless p c h lt =
    let within : c < length (map (λ d. d.name) p.classes) = omega (arith, lt, length-map p.classes (λ d. d.name)) in
    rw (class_at_name p.classes c)
    (name_spaceless (get_or (map (λ d. d.name) p.classes) c []) (nth_is_name (map (λ d. d.name) p.classes) c h.class_names within))

value_spaceless : (p : ProgramText) (v : Value) → IsProgram p → IsValueOf (numbers_total p) v → spaceless (value_text p v) ≡ true
value_spaceless p Nil h valid = refl
value_spaceless p (Int z) h valid = word_spaceless (signed_decimal z) (signed_word z valid.1)
value_spaceless p (Ref o) h valid = object_spaceless p o h valid.0

path_spaceless : (path : Path) → spaceless (path_text path) ≡ true
path_spaceless BiasOwn = refl
path_spaceless _ = refl

fault_spaceless : (f : Fault) → spaceless (fault_text f) ≡ true
fault_spaceless IllegalMonitorState = refl
fault_spaceless _ = refl

verb_spaceless : (v : Verb) → spaceless (verb_text v) ≡ true
verb_spaceless verb.Enter = refl
verb_spaceless _ = refl

abbrev pub AreSpaceless : List (List ℕ) → Type 0
AreSpaceless ws = AllByRecursion (λ w. spaceless w ≡ true) ws

word_small : (n : ℕ) → n < 2 ^ 32 → spaceless (decimal n) ≡ true
word_small n h = decimal_spaceless n (omega (arith, h))

args_spaceless : (p : ProgramText) (e : Entry) → IsProgram p → IsEntryIn p e → AreSpaceless (args_of p e)
args_spaceless p (Enter o path) h valid = (object_spaceless p o h valid, (path_spaceless path, tt))
args_spaceless p (Exit o) h valid = (object_spaceless p o h valid, tt)
args_spaceless p (Wait o) h valid = (object_spaceless p o h valid, tt)
args_spaceless p (Resume o) h valid = (object_spaceless p o h valid, tt)
args_spaceless p (Get o k v) h valid = (object_spaceless p o h valid.0, (word_small k valid.1, (value_spaceless p v h valid.2, tt)))
args_spaceless p (Put o k v) h valid = (object_spaceless p o h valid.0, (word_small k valid.1, (value_spaceless p v h valid.2, tt)))
args_spaceless p (Notify o None) h valid = (object_spaceless p o h valid.0, (refl, tt))
args_spaceless p (Notify o (Some t)) h valid = (object_spaceless p o h valid.0, (thread_spaceless p t h valid.1, tt))
args_spaceless p (NotifyAll o n) h valid = (object_spaceless p o h valid.0, (word_small n valid.1, tt))
args_spaceless p (Hash o v None) h valid = (object_spaceless p o h valid.0, (word_small v valid.1, tt))
args_spaceless p (Hash o v (Some n)) h valid = (object_spaceless p o h valid.0, (word_small v valid.1, (refl, (word_small n valid.2, tt))))
args_spaceless p (New o c) h valid = (object_spaceless p o h valid.0, (class_spaceless p c h valid.1, tt))
args_spaceless p (Print v) h valid = (value_spaceless p v h valid, tt)
args_spaceless p (Dump n) h valid = (word_small n valid, tt)
args_spaceless p (Trap fault index) h valid = (fault_spaceless fault, (refl, (word_small index valid, tt)))
args_spaceless p Spent h valid = tt
args_spaceless p Done h valid = tt

pub line_spaceless : (p : ProgramText) (line : List ℕ) (x : ℕ × Logged) → IsProgram p → Tells p line x → AreSpaceless (line_words p x)
line_spaceless p line x h t =
    (decimal_spaceless x.1.stamp t.below, (thread_spaceless p x.0 h t.thread, (verb_spaceless (verb_in x.1.entry), args_spaceless p x.1.entry h t.entry)))

-- words between spaces are found again
other_byte : (b : ℕ) → not ((b == 32) || (b == 10)) ≡ true → (b == 32) ≡ false
other_byte b h = grind (arith, nat_tests)

each_other : (w : List ℕ) → spaceless w ≡ true → AllByRecursion (λ b. (b == 32) ≡ false) w
each_other [] h = tt
each_other (b ∷ bs) h = let parts = and_parts (not ((b == 32) || (b == 10))) (spaceless bs) h in (other_byte b parts.0, each_other bs parts.1)

pub words_again : (w : List ℕ) (ws : List (List ℕ)) → AreSpaceless (w ∷ ws) → words_of (join_with_byte 32 (w ∷ ws)) ≡ w ∷ ws
words_again w [] h =
    slice_split_none (λ b. b == 32) w (All-from_recursion (λ b. (b == 32) ≡ false) w (each_other w h.0))
words_again w (v ∷ ws) h =
    slice_split_at (λ b. b == 32) w 32 (join_with_byte 32 (v ∷ ws)) (All-from_recursion (λ b. (b == 32) ≡ false) w (each_other w h.0)) refl
    ∙ ap (λ (xs : List (List ℕ)). w ∷ xs) (words_again v ws h.1)

-- the words with spaces between them have no line feed
feedless_byte : (b : ℕ) → not ((b == 32) || (b == 10)) ≡ true → (b == 10) ≡ false
feedless_byte b h = grind (arith, nat_tests)

abbrev pub Feedless : List ℕ → Type 0
Feedless bs = AllByRecursion (λ b. (b == 10) ≡ false) bs

feedless_word : (w rest : List ℕ) → spaceless w ≡ true → Feedless rest → Feedless (w ++ rest)
feedless_word [] rest h k = k
feedless_word (b ∷ bs) rest h k =
    let parts = and_parts (not ((b == 32) || (b == 10))) (spaceless bs) h in (feedless_byte b parts.0, feedless_word bs rest parts.1 k)

pub feedless_words : (ws : List (List ℕ)) → AreSpaceless ws → Feedless (join_with_byte 32 ws)
feedless_words [] h = tt
feedless_words (w ∷ []) h = subst Feedless (append-nil w) (feedless_word w [] h.0 tt)
feedless_words (w ∷ v ∷ ws) h = feedless_word w (32 ∷ join_with_byte 32 (v ∷ ws)) h.0 (refl, feedless_words (v ∷ ws) h.1)
