-- What a line tells, word by word.
use Rattle.std.specs.Prelude.{ℕ, ℤ, pos, ◌+◌, ◌-◌, ◌*◌, ◌^◌, nat_abs, ◌&&◌, ◌==◌, nat_lt, if◌then◌else◌, List, [], ◌∷◌, codes}
use Rattle.std.specs.Prelude.{drop, map, position, slice_get, take, Option, Some, None, option_map, option_and_then}
use Rattle.std.specs.Fmt.{signed_decimal}
use Rattle.std.specs.Str.{bytes_eq}
use Rattle.plain_monitor.specs.Limits.{most_classes, most_made, most_threads}
use Rattle.plain_monitor.specs.declared.entry.Value.TheVariants.{Nil, Int, Ref}
use Rattle.plain_monitor.specs.declared.entry.Entry.{Entry}
use Rattle.plain_monitor.specs.declared.entry.Entry.TheVariants.{Enter, Exit, Get, Put, Wait, Resume, Notify, NotifyAll}
use Rattle.plain_monitor.specs.declared.entry.Entry.TheVariants.{Hash, New, Print, Dump, Trap, Spent, Done}
use Rattle.plain_monitor.specs.Monitor.{only_if}
use Rattle.plain_monitor.specs.Numbers.{least_number, greatest_number}
use Rattle.object_program.specs.declared.program.ObjectDef.{ObjectDef}
use Rattle.program_syntax.specs.Number.{number_of, is_within}
use Rattle.object_program.specs.Program.{ProgramText, declared_total}
use Rattle.program_syntax.specs.Reading.{number_among}
use Rattle.object_program.specs.Valid.{is_among}
use Rattle.bias_check.specs.declared.names.Names.{Names}
use Rattle.bias_check.specs.declared.entries.ValueRead.{ValueRead}
use Rattle.bias_check.specs.declared.entries.WokenRead.{WokenRead}
use Rattle.bias_check.specs.declared.entries.EntryRead.{EntryRead}
use Rattle.bias_check.specs.declared.entries.LineRead.{LineRead}
use Rattle.bias_check.specs.declared.spelled.Verb.{Verb}
use Rattle.bias_check.specs.declared.spelled.Verb.TheVariants as verb
use Rattle.program_syntax.specs.Line.{spelled_among}
use Rattle.bias_check.specs.inner.Spelled.{verbs, paths, faults}
use Rattle.bias_check.specs.inner.Words.{before_last, unended, words_of}

abbrev pub names_of : ProgramText → Names
names_of p = record {
  threads = map (λ t. t.name) p.threads;
  objects = p.objects;
  classes = map (λ c. c.name) p.classes;
  total = declared_total p;
}

-- the number of the first of these names that is the word
abbrev pub place_in : List (List ℕ) → List ℕ → Option ℕ
place_in names word = only_if (is_among names word) (number_among names word)

-- a program has at most 16 threads
abbrev pub thread_in : Names → List ℕ → Option ℕ
thread_in t word = option_and_then (λ n. only_if (nat_lt n most_threads) n) (place_in t.threads word)

-- a program has no more classes than that
abbrev pub class_in : Names → List ℕ → Option ℕ
class_in t word = option_and_then (λ n. only_if (nat_lt n most_classes) n) (place_in t.classes word)

abbrev pub declared_in : Names → List ℕ → Option ObjectDef
declared_in t name = option_and_then (λ n. slice_get t.objects n) (place_in (map (λ d. d.name) t.objects) name)

-- a number as it is printed, from low to high
abbrev pub int_in : ℤ → ℤ → List ℕ → Option ℤ
int_in low high word =
    option_and_then (λ z. only_if (is_within low high (Some z) && bytes_eq (signed_decimal z) word) z) (number_of word)

-- a number below 2^32
abbrev pub count_in : List ℕ → Option ℕ
count_in word = option_map nat_abs (int_in (pos 0) (pos (2 ^ 32 - 1)) word)

abbrev pub count_below : ℕ → List ℕ → Option ℕ
count_below limit word = option_and_then (λ n. only_if (nat_lt n limit) n) (count_in word)

-- `@`, and a number below 2^46
abbrev pub stamp_in : List ℕ → Option ℕ
stamp_in [] = None
stamp_in (b ∷ digits) = if b == 64 then option_map nat_abs (int_in (pos 0) (pos (2 ^ 46 - 1)) digits) else None

-- the digits before a closing bracket
abbrev pub unbracketed : List ℕ → Option (List ℕ)
unbracketed index = before_last 93 index

abbrev pub element_at : ObjectDef → List ℕ → Option ℕ
element_at d digits =
    option_and_then (λ i. only_if (nat_lt (d.first + i) (2 ^ 32)) (d.first + i)) (count_below d.size digits)

-- the object of a declaration, or an element of an array by what stands after the opening bracket
abbrev pub element_of : ObjectDef → Option (List ℕ) → Option ℕ
element_of d None = if d.array then None else Some d.first
element_of d (Some index) =
    if d.array then option_and_then (λ digits. element_at d digits) (unbracketed index) else None

abbrev pub element_in : Names → List ℕ → Option (List ℕ) → Option ℕ
element_in t name index = option_and_then (λ d. element_of d index) (declared_in t name)

abbrev pub object_by : Names → List ℕ → Option ℕ → Option ℕ
object_by t word None = element_in t word None
object_by t word (Some end) = element_in t (take end word) (Some (drop (end + 1) word))

-- the declared object that the word names
abbrev pub undotted_in : Names → List ℕ → Option ℕ
undotted_in t word = object_by t word (position (λ b. b == 91) word)

-- the k-th object that thread n makes
abbrev pub made_at : Names → ℕ → ℕ → Option ℕ
made_at t n k =
    only_if (nat_lt (t.total + (most_made * n + k)) (2 ^ 32)) (t.total + (most_made * n + k))

-- the object that a thread makes, by the thread's name and what stands after the dot
abbrev pub made_in : Names → List ℕ → List ℕ → Option ℕ
made_in t name digits =
    option_and_then (λ n. option_and_then (λ k. made_at t n k) (count_below most_made digits)) (thread_in t name)

abbrev pub dotted_by : Names → List ℕ → Option ℕ → Option ℕ
dotted_by t word None = undotted_in t word
dotted_by t word (Some end) = made_in t (take end word) (drop (end + 1) word)

-- the object that the word names
abbrev pub object_in : Names → List ℕ → Option ℕ
object_in t word = dotted_by t word (position (λ b. b == 46) word)

abbrev pub value_else : Option ℤ → Option ℕ → Option ValueRead
value_else (Some z) o = Some (record { plain = Int z; other = None })
value_else None o = option_map (λ n. record { plain = Ref n; other = None }) o

abbrev pub value_in : Names → List ℕ → Option ValueRead
value_in t word =
    if bytes_eq (codes "nil") word then Some (record { plain = Nil; other = object_in t word })
    else value_else (int_in least_number greatest_number word) (object_in t word)

abbrev pub woken_in : Names → List ℕ → Option WokenRead
woken_in t word =
    if bytes_eq (codes "none") word then Some (record { plain = None; other = thread_in t word })
    else option_map (λ n. record { plain = Some n; other = None }) (thread_in t word)

abbrev pub sure : Entry → EntryRead
sure e = record { plain = e; other = None }

abbrev pub print_read : ValueRead → EntryRead
print_read v = record { plain = Print v.plain; other = option_map (λ o. Print (Ref o)) v.other }

abbrev pub notify_read : ℕ → WokenRead → EntryRead
notify_read o w = record { plain = Notify o w.plain; other = option_map (λ t. Notify o (Some t)) w.other }

abbrev pub get_read : ℕ → ℕ → ValueRead → EntryRead
get_read o k v = record { plain = Get o k v.plain; other = option_map (λ n. Get o k (Ref n)) v.other }

abbrev pub put_read : ℕ → ℕ → ValueRead → EntryRead
put_read o k v = record { plain = Put o k v.plain; other = option_map (λ n. Put o k (Ref n)) v.other }

-- what a verb tells with no words after it, with one, and so on
abbrev pub none_told : Verb → Option EntryRead
none_told verb.Spent = Some (sure Spent)
none_told verb.Done = Some (sure Done)
none_told v = None

abbrev pub one_told : Names → Verb → List ℕ → Option EntryRead
one_told t verb.Exit a = option_map (λ o. sure (Exit o)) (object_in t a)
one_told t verb.Wait a = option_map (λ o. sure (Wait o)) (object_in t a)
one_told t verb.Resume a = option_map (λ o. sure (Resume o)) (object_in t a)
one_told t verb.Print a = option_map (λ v. print_read v) (value_in t a)
one_told t verb.Dump a = option_map (λ n. sure (Dump n)) (count_in a)
one_told t v a = None

abbrev pub two_told : Names → Verb → List ℕ → List ℕ → Option EntryRead
two_told t verb.Enter a b =
    option_and_then (λ o. option_map (λ p. sure (Enter o p)) (spelled_among paths b)) (object_in t a)
two_told t verb.Notify a b = option_and_then (λ o. option_map (λ w. notify_read o w) (woken_in t b)) (object_in t a)
two_told t verb.NotifyAll a b =
    option_and_then (λ o. option_map (λ n. sure (NotifyAll o n)) (count_in b)) (object_in t a)
two_told t verb.Hash a b = option_and_then (λ o. option_map (λ n. sure (Hash o n None)) (count_in b)) (object_in t a)
two_told t verb.New a b = option_and_then (λ o. option_map (λ c. sure (New o c)) (class_in t b)) (object_in t a)
two_told t v a b = None

abbrev pub slot_told : (ℕ → ℕ → ValueRead → EntryRead) → Names → List ℕ → List ℕ → List ℕ → Option EntryRead
slot_told read t a b c =
    option_and_then (λ o. option_and_then (λ k. option_map (λ v. read o k v) (value_in t c)) (count_in b))
    (object_in t a)

abbrev pub three_told : Names → Verb → List ℕ → List ℕ → List ℕ → Option EntryRead
three_told t verb.Get a b c = slot_told get_read t a b c
three_told t verb.Put a b c = slot_told put_read t a b c
three_told t verb.Fault a b c =
    if bytes_eq (codes "at") b then option_and_then (λ f. option_map (λ n. sure (Trap f n)) (count_in c))
    (spelled_among faults a) else None
three_told t v a b c = None

abbrev pub four_told : Names → Verb → List ℕ → List ℕ → List ℕ → List ℕ → Option EntryRead
four_told t verb.Hash a b c d =
    if bytes_eq (codes "draw") c then option_and_then
    (λ o. option_and_then (λ n. option_map (λ k. sure (Hash o n (Some k))) (count_in d)) (count_in b))
    (object_in t a)
    else None
four_told t v a b c d = None

abbrev pub told : Names → Verb → List (List ℕ) → Option EntryRead
told t v [] = none_told v
told t v (a ∷ []) = one_told t v a
told t v (a ∷ b ∷ []) = two_told t v a b
told t v (a ∷ b ∷ c ∷ []) = three_told t v a b c
told t v (a ∷ b ∷ c ∷ d ∷ []) = four_told t v a b c d
told t v (a ∷ b ∷ c ∷ d ∷ e ∷ ws) = None

abbrev pub words_told : Names → List ℕ → List ℕ → List ℕ → List (List ℕ) → Option LineRead
words_told t first second third ws =
    option_and_then
    (λ stamp. option_and_then
    (λ thread. option_and_then
    (λ v. option_map (λ e. record { stamp = stamp; thread = thread; entry = e }) (told t v ws))
    (spelled_among verbs third)) (thread_in t second)) (stamp_in first)

abbrev pub read_words : Names → List (List ℕ) → Option LineRead
read_words t [] = None
read_words t (first ∷ []) = None
read_words t (first ∷ second ∷ []) = None
read_words t (first ∷ second ∷ third ∷ ws) = words_told t first second third ws

-- what a line tells, with its line feed
abbrev pub read_line : Names → List ℕ → Option LineRead
read_line t line = option_and_then (λ text. read_words t (words_of text)) (unended line)
