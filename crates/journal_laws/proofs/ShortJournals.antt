-- The journal of a run is short: it has few lines, and no line is long.
use Rattle.std.proofs.Common.{◌≡◌, ℕ, suc, ◌+◌, ◌-◌, ◌*◌, ◌/◌, ◌%◌, ◌<◌, ◌≤◌, ◌^◌, if◌then◌else◌, Bool, true, false, List, [], ◌∷◌}
use Rattle.std.proofs.Common.{◌++◌, codes, decimal, length, map, Option, Some, None, refl, arith, inl, inr, ℤ, pos, negsuc}
use Rattle.std.specs.Prelude.{slice_get, MatchOption}
use Rattle.std.specs.Fmt.{signed_decimal}
use Rattle.std.specs.List.{AllByRecursion}
use Rattle.std.proofs.lemmas.Bool.{cases_lt}
use Rattle.std.proofs.lemmas.Fmt.{length-decimal-le}
use Rattle.std.proofs.lemmas.Int.{ints}
use Rattle.std.proofs.lemmas.List.{length-append}
use Rattle.plain_monitor.specs.Limits.{most_fuel, most_made}
use Rattle.plain_monitor.specs.declared.entry.Entry.{Entry}
use Rattle.plain_monitor.specs.declared.entry.Entry.TheVariants.{Enter, Exit, Get, Put, Wait, Resume, Notify, NotifyAll}
use Rattle.plain_monitor.specs.declared.entry.Entry.TheVariants.{Hash, New, Print, Dump, Trap, Spent, Done}
use Rattle.plain_monitor.specs.declared.entry.Fault.{Fault}
use Rattle.plain_monitor.specs.declared.entry.Fault.TheVariants.{IllegalMonitorState}
use Rattle.plain_monitor.specs.declared.entry.Logged.{Logged}
use Rattle.plain_monitor.specs.declared.entry.Path.{Path}
use Rattle.plain_monitor.specs.declared.entry.Path.TheVariants.{BiasOwn}
use Rattle.plain_monitor.specs.declared.entry.Value.{Value}
use Rattle.plain_monitor.specs.declared.entry.Value.TheVariants.{Nil, Int, Ref}
use Rattle.plain_monitor.specs.Numbers.{IsInRange}
use Rattle.plain_monitor.specs.Order.{order}
use Rattle.object_program.specs.declared.program.ClassDef.{ClassDef}
use Rattle.object_program.specs.declared.program.ObjectDef.{ObjectDef}
use Rattle.object_program.specs.declared.program.ThreadDef.{ThreadDef}
use Rattle.object_program.specs.Program.{ProgramText, has_object, declared_total, place_from, place_of}
use Rattle.object_program.specs.Valid.{IsProgram}
use Rattle.plain_machine.specs.Values.{IsValueOf}
use Rattle.lock_journal.specs.RunText.{class_name, draw_text, entry_text, journal_line, newline, text_of_lines, woken_text}
use Rattle.lock_journal.specs.Words.{element_text, fault_text, name_of, object_text, path_text, thread_text, value_text}
use Rattle.lock_journal.proofs.Names.{length_name_at}
use Rattle.lock_journal.proofs.Names.{declared_is as text_of_declared, made_is}
use Rattle.bias_check.specs.Lines.{numbers_total, HasNumber, IsEntryIn}
use Rattle.bias_check.specs.Printed.{IsTellable, journal_of}
use Rattle.lock_journal.specs.Hashes.{hash_fits}
use Rattle.plain_history.specs.ExactStamps.{StampsAreExact}
use Rattle.plain_machine.specs.Legal.{IsLegal, machine_after}
use Rattle.hash_laws.proofs.LegalHashes.{the_some}
use Rattle.journal_laws.proofs.EntriesTold.{all_tellable}
use Rattle.journal_laws.proofs.FewEntries.{entries_few}

-- a text of two parts is no longer than both together
both : (a b : List ℕ) (m n : ℕ) → length a ≤ m → length b ≤ n → length (a ++ b) ≤ m + n
both a b m n first second = let sum = length-append a b in omega (arith, sum, first, second)

-- WORDS
word_short : (n : ℕ) → n < 2 ^ 32 → length (decimal n) ≤ 10
word_short n few = length-decimal-le 10 n (omega arith) (omega (arith, few)) (omega (arith, few))

stamp_short : (n : ℕ) → n < 2 ^ 46 → length (decimal n) ≤ 15
stamp_short n few = length-decimal-le 15 n (omega arith) (omega (arith, few)) (omega (arith, few))

number_short : (z : ℤ) → IsInRange z → length (signed_decimal z) ≤ 20
number_short (pos n) range =
    let short = length-decimal-le 19 n (omega arith) (omega (arith, ints, range.1)) (omega (arith, ints, range.1)) in
    omega (arith, short)
number_short (negsuc n) range =
    let short = length-decimal-le 19 (suc n) (omega arith) (omega (arith, ints, range.0)) (omega (arith, ints, range.0)) in
    omega (arith, short)

element_near : (k : ℕ) (ds : List ObjectDef) (o : ℕ) → (place_from k ds o).1 ≤ o
element_near k [] o = omega arith
element_near k (d ∷ ds) o = by_test (has_object d o) (element_near (k + 1) ds o)
  where
    by_test : (b : Bool) → (place_from (k + 1) ds o).1 ≤ o → (if b then (k, o - d.first) else place_from (k + 1) ds o).1 ≤ o
    by_test true near = omega arith
    by_test false near = near

element_short : (i : ℕ) (d : ObjectDef) → i < 2 ^ 32 → length d.name ≤ 32 → length (element_text i (Some d)) ≤ 44
element_short i d few name = by_array d.array
  where
    by_array : (b : Bool) → length (if b then d.name ++ codes "[" ++ decimal i ++ codes "]" else d.name) ≤ 44
    by_array true =
        let bracket : length (d.name ++ codes "[") ≤ 33 = both d.name (codes "[") 32 1 name (omega arith) in
        let number = both (d.name ++ codes "[") (decimal i) 33 10 bracket (word_short i few) in
        both (d.name ++ codes "[" ++ decimal i) (codes "]") 43 1 number (omega arith)
    by_array false = omega (arith, name)

path_short : (path : Path) → length (path_text path) ≤ 13
path_short BiasOwn = omega arith
path_short _ = omega arith

fault_short : (fault : Fault) → length (fault_text fault) ≤ 19
fault_short IllegalMonitorState = omega arith
fault_short _ = omega arith

draw_short : (drawn : Option ℕ) → MatchOption drawn (Unit {0}) (λ n. n < 2 ^ 32) → length (draw_text drawn) ≤ 16
draw_short None few = omega arith
draw_short (Some n) few = both (codes " draw ") _ 6 10 (omega arith) (word_short n few)

module _ (p : ProgramText) (is : IsProgram p) where
  declared_short : (o : ℕ) → o < declared_total p → length (object_text p o) ≤ 44
  declared_short o there = rw (text_of_declared p o there) (by_declared (slice_get p.objects (place_of p o).0) refl)
    where
      by_declared : (found : Option ObjectDef) → slice_get p.objects (place_of p o).0 ≡ found → length (element_text (place_of p o).1 found) ≤ 44
      by_declared None e = omega arith
      by_declared (Some d) e =
          let near = element_near 0 p.objects o in
          let few = is.objects_few in
          element_short (place_of p o).1 d (omega (arith, near, few, there)) (length_name_at (λ x. x.name) p.objects (place_of p o).0 d is.object_names e)

  thread_short : (t : ℕ) → length (thread_text p t) ≤ 32
  thread_short t = by_declared (slice_get p.threads t) refl
    where
      by_declared : (found : Option ThreadDef) → slice_get p.threads t ≡ found → length (name_of found) ≤ 32
      by_declared None e = omega arith
      by_declared (Some d) e = length_name_at (λ x. x.name) p.threads t d is.thread_names e

  made_short : (o : ℕ) → declared_total p ≤ o → length (object_text p o) ≤ 44
  made_short o late =
      let thread = thread_text p ((o - declared_total p) / most_made) in
      let place = (o - declared_total p) % most_made in
      let dotted = both thread (codes ".") 32 1 (thread_short ((o - declared_total p) / most_made)) (omega arith) in
      let all = both (thread ++ codes ".") (decimal place) 33 10 dotted (word_short place (omega arith)) in
      rw (made_is p o late) (omega (arith, all))

  object_short : (o : ℕ) → length (object_text p o) ≤ 44
  object_short o =
      elim (cases_lt o (declared_total p)) [
        | inl low ↦ declared_short o low
        | inr late ↦ made_short o late
      ]

  class_short : (c : ℕ) → length (class_name (slice_get p.classes c)) ≤ 32
  class_short c = by_declared (slice_get p.classes c) refl
    where
      by_declared : (found : Option ClassDef) → slice_get p.classes c ≡ found → length (class_name found) ≤ 32
      by_declared None e = omega arith
      by_declared (Some d) e = length_name_at (λ x. x.name) p.classes c d is.class_names e

  value_short : (v : Value) → IsValueOf (numbers_total p) v → length (value_text p v) ≤ 44
  value_short Nil h = omega arith
  value_short (Int z) h = let short = number_short z h.1 in omega (arith, short)
  value_short (Ref o) h = object_short o

  woken_short : (woken : Option ℕ) → length (woken_text p woken) ≤ 32
  woken_short None = omega arith
  woken_short (Some t) = thread_short t

  -- what was done, and the object that it was done to
  on_short : (done : List ℕ) (o : ℕ) → length done ≤ 10 → HasNumber p o → length (done ++ object_text p o) ≤ 54
  on_short done o few there = both done (object_text p o) 10 44 few (object_short o)

  -- and something after that
  with_short : (done last : List ℕ) (o n : ℕ) → length done ≤ 10 → HasNumber p o → length last ≤ n
      → length (done ++ object_text p o ++ codes " " ++ last) ≤ 55 + n
  with_short done last o n few there short =
      let space = both (done ++ object_text p o) (codes " ") 54 1 (on_short done o few there) (omega arith) in
      both (done ++ object_text p o ++ codes " ") last 55 n space short

  slot_short : (done : List ℕ) (o k : ℕ) (v : Value) → length done ≤ 10 → HasNumber p o → k < 2 ^ 32 → IsValueOf (numbers_total p) v
      → length (done ++ object_text p o ++ codes " " ++ decimal k ++ codes " " ++ value_text p v) ≤ 110
  slot_short done o k v few there small value =
      let slot = with_short done (decimal k) o 10 few there (word_short k small) in
      let space = both (done ++ object_text p o ++ codes " " ++ decimal k) (codes " ") 65 1 slot (omega arith) in
      both (done ++ object_text p o ++ codes " " ++ decimal k ++ codes " ") (value_text p v) 66 44 space (value_short v value)

  entry_short : (e : Entry) → IsEntryIn p e → length (entry_text p e) ≤ 200
  entry_short (Enter o path) h = let all = with_short (codes "enter ") (path_text path) o 13 (omega arith) h (path_short path) in omega (arith, all)
  entry_short (Exit o) h = let all = on_short (codes "exit ") o (omega arith) h in omega (arith, all)
  entry_short (Wait o) h = let all = on_short (codes "wait ") o (omega arith) h in omega (arith, all)
  entry_short (Resume o) h = let all = on_short (codes "resume ") o (omega arith) h in omega (arith, all)
  entry_short (Get o k v) h = let all = slot_short (codes "get ") o k v (omega arith) h.0 h.1 h.2 in omega (arith, all)
  entry_short (Put o k v) h = let all = slot_short (codes "put ") o k v (omega arith) h.0 h.1 h.2 in omega (arith, all)
  entry_short (Notify o woken) h =
      let all = with_short (codes "notify ") (woken_text p woken) o 32 (omega arith) h.0 (woken_short woken) in omega (arith, all)
  entry_short (NotifyAll o n) h = let all = with_short (codes "notifyall ") (decimal n) o 10 (omega arith) h.0 (word_short n h.1) in omega (arith, all)
  entry_short (Hash o v drawn) h =
      let value = with_short (codes "hash ") (decimal v) o 10 (omega arith) h.0 (word_short v h.1) in
      let all = both (codes "hash " ++ object_text p o ++ codes " " ++ decimal v) (draw_text drawn) 65 16 value (draw_short drawn h.2) in
      omega (arith, all)
  entry_short (New o c) h =
      let all = with_short (codes "new ") (class_name (slice_get p.classes c)) o 32 (omega arith) h.0 (class_short c) in omega (arith, all)
  entry_short (Print v) h = let all = both (codes "print ") (value_text p v) 6 44 (omega arith) (value_short v h) in omega (arith, all)
  entry_short (Dump n) h = let all = both (codes "dump ") (decimal n) 5 10 (omega arith) (word_short n h) in omega (arith, all)
  entry_short (Trap fault index) h =
      let fell = both (codes "fault ") (fault_text fault) 6 19 (omega arith) (fault_short fault) in
      let at = both (codes "fault " ++ fault_text fault) (codes " at ") 25 4 fell (omega arith) in
      let all = both (codes "fault " ++ fault_text fault ++ codes " at ") (decimal index) 29 10 at (word_short index h) in
      omega (arith, all)
  entry_short Spent h = omega arith
  entry_short Done h = omega arith

  line_short : (x : ℕ × Logged) → IsTellable p x → length (journal_line p x) ≤ 251
  line_short x h =
      let at : List ℕ = codes "@" ++ decimal x.1.stamp in
      let stamp : length at ≤ 16 = both (codes "@") (decimal x.1.stamp) 1 15 (omega arith) (stamp_short x.1.stamp h.below) in
      let after = both at (codes " ") 16 1 stamp (omega arith) in
      let thread = both (at ++ codes " ") (thread_text p x.0) 17 32 after (thread_short x.0) in
      let space = both (at ++ codes " " ++ thread_text p x.0) (codes " ") 49 1 thread (omega arith) in
      let entry = both (at ++ codes " " ++ thread_text p x.0 ++ codes " ") (entry_text p x.1.entry) 50 200 space (entry_short x.1.entry h.entry) in
      both (at ++ codes " " ++ thread_text p x.0 ++ codes " " ++ entry_text p x.1.entry) newline 250 1 entry (omega arith)

  lines_short : (xs : List (ℕ × Logged)) → AllByRecursion (IsTellable p) xs → length (text_of_lines (map (journal_line p) xs)) ≤ length xs * 251
  lines_short [] all = omega arith
  lines_short (x ∷ xs) all =
      let here = line_short x all.0 in
      let others = lines_short xs all.1 in
      let sum = length-append (journal_line p x) (text_of_lines (map (journal_line p) xs)) in
      omega (arith, here, others, sum)

pub journal_short : (p : ProgramText) (fuel start : ℕ) (logs : List (List Logged)) → IsProgram p → fuel ≤ most_fuel → IsLegal p fuel logs → StampsAreExact logs
    → ((o : ℕ) → hash_fits start (order logs) o ≡ true) → length (text_of_lines (journal_of p logs)) < 2 ^ 32
journal_short p fuel start logs is few legal exact fits =
    let m = the_some (machine_after p fuel logs) legal.taken in
    let lines = lines_short p is (order logs) (all_tellable p fuel start logs is few legal exact fits) in
    let entries = entries_few p fuel is few logs m.0 m.1 in
    omega (arith, lines, entries)
