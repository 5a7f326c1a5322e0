-- What is read of a line is what the line tells.
use Rattle.std.proofs.Common.{◌≡◌, ℕ, ◌-◌, ◌^◌, ◌⊎◌, Bool, true, false, List, [], ◌∷◌, ◌++◌, refl}
use Rattle.std.proofs.Common.{sym, ◌∙◌, ap, arith, inl, inr, codes, bytes_eq, Option, Some, None}
use Rattle.std.specs.Prelude.{option_map}
use Rattle.std.specs.List.{join_with_byte}
use Rattle.std.proofs.lemmas.Option.{same_Some}
use Rattle.std.proofs.lemmas.List.Splits.{join_with_byte-slice_split}
use Rattle.plain_monitor.specs.declared.entry.Value.{Value}
use Rattle.plain_monitor.specs.declared.entry.Value.TheVariants.{Nil, Ref}
use Rattle.plain_monitor.specs.declared.entry.Entry.{Entry}
use Rattle.plain_monitor.specs.declared.entry.Entry.TheVariants.{Enter, Exit, Get, Put, Wait, Resume, Notify, NotifyAll}
use Rattle.plain_monitor.specs.declared.entry.Entry.TheVariants.{Hash, New, Print, Dump, Trap, Spent, Done}
use Rattle.plain_monitor.specs.declared.entry.Logged.{Logged}
use Rattle.object_program.specs.Program.{ProgramText}
use Rattle.object_program.specs.Valid.{IsProgram}
use Rattle.bias_check.specs.declared.spelled.Verb.{Verb}
use Rattle.bias_check.specs.declared.spelled.Verb.TheVariants as verb
use Rattle.bias_check.specs.declared.entries.ValueRead.{ValueRead}
use Rattle.bias_check.specs.declared.entries.WokenRead.{WokenRead}
use Rattle.bias_check.specs.declared.entries.EntryRead.{EntryRead}
use Rattle.bias_check.specs.declared.entries.LineRead.{LineRead}
use Rattle.program_syntax.specs.Line.{spelled_among}
use Rattle.bias_check.specs.inner.Spelled.{verb_text, verbs, paths, faults}
use Rattle.bias_check.specs.inner.Words.{unended, words_of}
use Rattle.bias_check.specs.Lines.{IsEntryIn, Tells}
use Rattle.bias_check.specs.inner.Table.{names_of, thread_in, class_in, object_in, count_in, stamp_in, value_in, woken_in}
use Rattle.bias_check.specs.inner.Table.{sure, print_read, notify_read, get_read, put_read, none_told, one_told, two_told}
use Rattle.bias_check.specs.inner.Table.{slot_told, three_told, four_told, told, read_words, read_line}
use Rattle.bias_check.proofs.Options.{and_then, mapped}
use Rattle.bias_check.proofs.Cuts.{last_byte}
use Rattle.bias_check.proofs.Spellings.{same_word, verb_is, path_is, fault_is, verb_read, path_read, fault_read}
use Rattle.bias_check.proofs.Numerals.{IsCount, count_is, count_read, IsStamp, stamp_is, stamp_read}
use Rattle.bias_check.proofs.ThreadsRead.{IsThreadWord, thread_is, thread_read, class_is, class_read}
use Rattle.bias_check.proofs.ObjectsRead.{last_is}
use Rattle.bias_check.proofs.MadeRead.{IsObjectWord, object_is, object_read}
use Rattle.bias_check.proofs.ValuesRead.{ReadsValue, value_is, HasValue, value_read, ReadsWoken, woken_is, HasWoken, woken_read}
use Rattle.bias_check.proofs.LineWords.{verb_in, args_of, line_words, line_is, line_spaceless, words_again}

-- the second reading of a word makes this entry beside the other
abbrev pub IsRival : Entry → Entry → Type 0
IsRival (Get o k v) f = (v ≡ Nil) × ((n : ℕ) × (f ≡ Get o k (Ref n)))
IsRival (Put o k v) f = (v ≡ Nil) × ((n : ℕ) × (f ≡ Put o k (Ref n)))
IsRival (Print v) f = (v ≡ Nil) × ((n : ℕ) × (f ≡ Print (Ref n)))
IsRival (Notify o woken) f = (woken ≡ None) × ((t : ℕ) × (f ≡ Notify o (Some t)))
IsRival e f = ⊥

-- an entry with this verb and these words
pub record IsEntryOf (p : ProgramText) (v : Verb) (ws : List (List ℕ)) (e : Entry) : Type 0 where
  pub verb : verb_in e ≡ v
  pub args : args_of p e ≡ ws
  pub valid : IsEntryIn p e

pub record ReadsEntry (p : ProgramText) (v : Verb) (ws : List (List ℕ)) (r : EntryRead) : Type 0 where
  pub plain : IsEntryOf p v ws r.plain
  pub other : (e : Entry) → r.other ≡ Some e → IsEntryOf p v ws e × IsRival r.plain e

only_one : (p : ProgramText) (v : Verb) (ws : List (List ℕ)) (e : Entry) → IsEntryOf p v ws e → ReadsEntry p v ws (sure e)
only_one p v ws e h = record { plain = h; other = λ f k. absurd (cc k) }

none_is : (p : ProgramText) (v : Verb) (r : EntryRead) → none_told v ≡ Some r → ReadsEntry p v [] r
none_is p verb.Spent r e = let same = same_Some _ _ e in rw (← same) (only_one p verb.Spent [] Spent (record { verb = refl; args = refl; valid = tt }))
none_is p verb.Done r e = let same = same_Some _ _ e in rw (← same) (only_one p verb.Done [] Done (record { verb = refl; args = refl; valid = tt }))
none_is p v r e = absurd (cc e)

one_word : (a b : List ℕ) → a ≡ b → a ∷ [] ≡ b ∷ []
one_word a b e = rw e refl

print_is : (p : ProgramText) (a : List ℕ) (v : ValueRead) → ReadsValue p a v → ReadsEntry p verb.Print (a ∷ []) (print_read v)
print_is p a v h = record {
  plain = record { verb = refl; args = one_word _ _ h.plain.text; valid = h.plain.valid };
  other = λ e k. mapped _ v.other e k (λ n some same. let at = h.other n some in
      rw (← same) (record { verb = refl; args = one_word _ _ at.1.text; valid = at.1.valid }, (at.0, (n, refl))));
}

one_is : (p : ProgramText) (v : Verb) (a : List ℕ) (r : EntryRead) → IsProgram p → one_told (names_of p) v a ≡ Some r → ReadsEntry p v (a ∷ []) r
one_is p verb.Exit a r h e =
    mapped _ (object_in (names_of p) a) r e (λ o some same. let at = object_is p a o h some in
    rw (← same) (only_one p verb.Exit (a ∷ []) (Exit o) (record { verb = refl; args = one_word _ _ at.text; valid = at.within })))
one_is p verb.Wait a r h e =
    mapped _ (object_in (names_of p) a) r e (λ o some same. let at = object_is p a o h some in
    rw (← same) (only_one p verb.Wait (a ∷ []) (Wait o) (record { verb = refl; args = one_word _ _ at.text; valid = at.within })))
one_is p verb.Resume a r h e =
    mapped _ (object_in (names_of p) a) r e (λ o some same. let at = object_is p a o h some in
    rw (← same) (only_one p verb.Resume (a ∷ []) (Resume o) (record { verb = refl; args = one_word _ _ at.text; valid = at.within })))
one_is p verb.Print a r h e =
    mapped _ (value_in (names_of p) a) r e (λ v some same. rw (← same) (print_is p a v (value_is p a v h some)))
one_is p verb.Dump a r h e =
    mapped _ (count_in a) r e (λ n some same. let at = count_is a n some in
    rw (← same) (only_one p verb.Dump (a ∷ []) (Dump n) (record { verb = refl; args = one_word _ _ at.text; valid = omega (arith, at.high_is) })))
one_is p v a r h e = absurd (cc e)

two_words : (a b c d : List ℕ) → a ≡ c → b ≡ d → a ∷ b ∷ [] ≡ c ∷ d ∷ []
two_words a b c d e f = rw (e, f) refl

notify_is : (p : ProgramText) (a b : List ℕ) (o : ℕ) (w : WokenRead) → IsObjectWord p a o
    → ReadsWoken p b w → ReadsEntry p verb.Notify (a ∷ b ∷ []) (notify_read o w)
notify_is p a b o w object h = record {
  plain = record { verb = refl; args = two_words _ _ _ _ object.text h.plain.text; valid = (object.within, h.plain.valid) };
  other = λ e k. mapped _ w.other e k (λ t some same. let at = h.other t some in
      rw (← same) (record { verb = refl; args = two_words _ _ _ _ object.text at.1.text; valid = (object.within, at.1.valid) }, (at.0, (t, refl))));
}

two_is : (p : ProgramText) (v : Verb) (a b : List ℕ) (r : EntryRead) → IsProgram p → two_told (names_of p) v a b ≡ Some r → ReadsEntry p v (a ∷ b ∷ []) r
two_is p verb.Enter a b r h e =
    and_then _ (object_in (names_of p) a) r e (λ o some f.
    mapped _ (spelled_among paths b) r f (λ path at same.
    let object = object_is p a o h some in
    rw (← same) (only_one p verb.Enter (a ∷ b ∷ []) (Enter o path) (record {
      verb = refl;
      args = two_words _ _ _ _ object.text (path_is b path at);
      valid = object.within;
    }))))
two_is p verb.Notify a b r h e =
    and_then _ (object_in (names_of p) a) r e (λ o some f.
    mapped _ (woken_in (names_of p) b) r f (λ w at same.
    rw (← same) (notify_is p a b o w (object_is p a o h some) (woken_is p b w at))))
two_is p verb.NotifyAll a b r h e =
    and_then _ (object_in (names_of p) a) r e (λ o some f.
    mapped _ (count_in b) r f (λ n at same.
    let object = object_is p a o h some in
    let count = count_is b n at in
    rw (← same) (only_one p verb.NotifyAll (a ∷ b ∷ []) (NotifyAll o n) (record {
      verb = refl;
      args = two_words _ _ _ _ object.text count.text;
      valid = (object.within, omega (arith, count.high_is));
    }))))
two_is p verb.Hash a b r h e =
    and_then _ (object_in (names_of p) a) r e (λ o some f.
    mapped _ (count_in b) r f (λ n at same.
    let object = object_is p a o h some in
    let count = count_is b n at in
    rw (← same) (only_one p verb.Hash (a ∷ b ∷ []) (Hash o n None) (record {
      verb = refl;
      args = two_words _ _ _ _ object.text count.text;
      valid = (object.within, omega (arith, count.high_is), tt);
    }))))
two_is p verb.New a b r h e =
    and_then _ (object_in (names_of p) a) r e (λ o some f.
    mapped _ (class_in (names_of p) b) r f (λ c at same.
    let object = object_is p a o h some in
    let class = class_is p b c at in
    rw (← same) (only_one p verb.New (a ∷ b ∷ []) (New o c) (record {
      verb = refl;
      args = two_words _ _ _ _ object.text class.text;
      valid = (object.within, class.within);
    }))))
two_is p v a b r h e = absurd (cc e)

three_words : (a b c d e f : List ℕ) → a ≡ d → b ≡ e → c ≡ f → a ∷ b ∷ c ∷ [] ≡ d ∷ e ∷ f ∷ []
three_words a b c d e f x y z = rw (x, y, z) refl

get_is : (p : ProgramText) (a b c : List ℕ) (o k : ℕ) (v : ValueRead) → IsObjectWord p a o
    → IsCount 0 (2 ^ 32 - 1) b k → ReadsValue p c v → ReadsEntry p verb.Get (a ∷ b ∷ c ∷ []) (get_read o k v)
get_is p a b c o k v object count h = record {
  plain = record {
    verb = refl;
    args = three_words _ _ _ _ _ _ object.text count.text h.plain.text;
    valid = (object.within, omega (arith, count.high_is), h.plain.valid);
  };
  other = λ e m. mapped _ v.other e m (λ n some same. let at = h.other n some in
      rw (← same) (
        record {
          verb = refl;
          args = three_words _ _ _ _ _ _ object.text count.text at.1.text;
          valid = (object.within, omega (arith, count.high_is), at.1.valid);
        },
        (at.0, (n, refl)),
      ));
}

put_is : (p : ProgramText) (a b c : List ℕ) (o k : ℕ) (v : ValueRead) → IsObjectWord p a o
    → IsCount 0 (2 ^ 32 - 1) b k → ReadsValue p c v → ReadsEntry p verb.Put (a ∷ b ∷ c ∷ []) (put_read o k v)
put_is p a b c o k v object count h = record {
  plain = record {
    verb = refl;
    args = three_words _ _ _ _ _ _ object.text count.text h.plain.text;
    valid = (object.within, omega (arith, count.high_is), h.plain.valid);
  };
  other = λ e m. mapped _ v.other e m (λ n some same. let at = h.other n some in
      rw (← same) (
        record {
          verb = refl;
          args = three_words _ _ _ _ _ _ object.text count.text at.1.text;
          valid = (object.within, omega (arith, count.high_is), at.1.valid);
        },
        (at.0, (n, refl)),
      ));
}

slot_is : (read : ℕ → ℕ → ValueRead → EntryRead) (p : ProgramText) (v : Verb) (a b c : List ℕ) (r : EntryRead) → IsProgram p
    → ((o k : ℕ) (value : ValueRead) → IsObjectWord p a o → IsCount 0 (2 ^ 32 - 1) b k
    → ReadsValue p c value → ReadsEntry p v (a ∷ b ∷ c ∷ []) (read o k value))
    → slot_told read (names_of p) a b c ≡ Some r → ReadsEntry p v (a ∷ b ∷ c ∷ []) r
slot_is read p v a b c r h each e =
    and_then _ (object_in (names_of p) a) r e (λ o some f.
    and_then _ (count_in b) r f (λ k counted g.
    mapped _ (value_in (names_of p) c) r g (λ value at same.
    rw (← same) (each o k value (object_is p a o h some) (count_is b k counted) (value_is p c value h at)))))

fault_told_is : (p : ProgramText) (a b c : List ℕ) (r : EntryRead) (t : Bool) → bytes_eq (codes "at") b ≡ t
    → three_told (names_of p) verb.Fault a b c ≡ Some r → ReadsEntry p verb.Fault (a ∷ b ∷ c ∷ []) r
fault_told_is p a b c r true t e =
    and_then _ (spelled_among faults a) r (rw t at e) (λ fault some f.
    mapped _ (count_in c) r f (λ n at same.
    let count = count_is c n at in
    rw (← same) (only_one p verb.Fault (a ∷ b ∷ c ∷ []) (Trap fault n) (record {
      verb = refl;
      args = three_words _ _ _ _ _ _ (fault_is a fault some) (same_word (codes "at") b t) count.text;
      valid = omega (arith, count.high_is);
    }))))
fault_told_is p a b c r false t e = absurd (cc (rw t at e))

three_is : (p : ProgramText) (v : Verb) (a b c : List ℕ) (r : EntryRead) → IsProgram p
    → three_told (names_of p) v a b c ≡ Some r → ReadsEntry p v (a ∷ b ∷ c ∷ []) r
three_is p verb.Get a b c r h e = slot_is get_read p verb.Get a b c r h (λ o k v x y z. get_is p a b c o k v x y z) e
three_is p verb.Put a b c r h e = slot_is put_read p verb.Put a b c r h (λ o k v x y z. put_is p a b c o k v x y z) e
three_is p verb.Fault a b c r h e = fault_told_is p a b c r (bytes_eq (codes "at") b) refl e
three_is p v a b c r h e = absurd (cc e)

four_words : (a b c d e f g i : List ℕ) → a ≡ e → b ≡ f → c ≡ g → d ≡ i → a ∷ b ∷ c ∷ d ∷ [] ≡ e ∷ f ∷ g ∷ i ∷ []
four_words a b c d e f g i w x y z = rw (w, x, y, z) refl

draw_is : (p : ProgramText) (a b c d : List ℕ) (r : EntryRead) (t : Bool)
    → bytes_eq (codes "draw") c ≡ t → IsProgram p → four_told (names_of p) verb.Hash a b c d ≡ Some r
    → ReadsEntry p verb.Hash (a ∷ b ∷ c ∷ d ∷ []) r
draw_is p a b c d r true t h e =
    and_then _ (object_in (names_of p) a) r (rw t at e) (λ o some f.
    and_then _ (count_in b) r f (λ v counted g.
    mapped _ (count_in d) r g (λ n at same.
    let object = object_is p a o h some in
    let value = count_is b v counted in
    let number = count_is d n at in
    rw (← same) (only_one p verb.Hash (a ∷ b ∷ c ∷ d ∷ []) (Hash o v (Some n)) (record {
      verb = refl;
      args = four_words _ _ _ _ _ _ _ _ object.text value.text (same_word (codes "draw") c t) number.text;
      valid = (object.within, omega (arith, value.high_is), omega (arith, number.high_is));
    })))))
draw_is p a b c d r false t h e = absurd (cc (rw t at e))

four_is : (p : ProgramText) (v : Verb) (a b c d : List ℕ) (r : EntryRead) → IsProgram p
    → four_told (names_of p) v a b c d ≡ Some r → ReadsEntry p v (a ∷ b ∷ c ∷ d ∷ []) r
four_is p verb.Hash a b c d r h e = draw_is p a b c d r (bytes_eq (codes "draw") c) refl h e
four_is p v a b c d r h e = absurd (cc e)

told_is : (p : ProgramText) (v : Verb) (ws : List (List ℕ)) (r : EntryRead) → IsProgram p → told (names_of p) v ws ≡ Some r → ReadsEntry p v ws r
told_is p v [] r h e = none_is p v r e
told_is p v (a ∷ []) r h e = one_is p v a r h e
told_is p v (a ∷ b ∷ []) r h e = two_is p v a b r h e
told_is p v (a ∷ b ∷ c ∷ []) r h e = three_is p v a b c r h e
told_is p v (a ∷ b ∷ c ∷ d ∷ []) r h e = four_is p v a b c d r h e
told_is p v (a ∷ b ∷ c ∷ d ∷ f ∷ ws) r h e = absurd (cc e)

-- an entry with the stamp and the thread that were read
abbrev pub told_entry : LineRead → Entry → ℕ × Logged
told_entry r e = (r.thread, record { stamp = r.stamp; entry = e })

-- the line tells each reading, and of two readings the second is the first's rival
pub record ReadsLine (p : ProgramText) (line : List ℕ) (r : LineRead) : Type 0 where
  pub plain : Tells p line (told_entry r r.entry.plain)
  pub other : (e : Entry) → r.entry.other ≡ Some e → Tells p line (told_entry r e) × IsRival r.entry.plain e

tells_words : (p : ProgramText) (line text first second third : List ℕ) (ws : List (List ℕ)) (stamp thread : ℕ) (v : Verb) (e : Entry)
    → line ≡ text ++ 10 ∷ [] → words_of text ≡ first ∷ second ∷ third ∷ ws → IsStamp first stamp
    → IsThreadWord p second thread → verb_text v ≡ third → IsEntryOf p v ws e
    → Tells p line (thread, record { stamp = stamp; entry = e })
tells_words p line text first second third ws stamp thread v e cut words s t spelled_v entry =
    let x : ℕ × Logged = (thread, record { stamp = stamp; entry = e }) in
    let verb_same : verb_text (verb_in e) ≡ third = ap verb_text entry.verb ∙ spelled_v in
    let same : line_words p x ≡ first ∷ second ∷ third ∷ ws = rw (s.text, t.text, verb_same, entry.args) refl in
    let joined : join_with_byte 32 (line_words p x) ≡ text = ap (join_with_byte 32) (same ∙ sym words) ∙ join_with_byte-slice_split 32 text in
    record {
      thread = t.within;
      below = s.below;
      entry = entry.valid;
      text = line_is p x ∙ ap (λ (bs : List ℕ). bs ++ 10 ∷ []) joined ∙ sym cut;
    }

words_are : (p : ProgramText) (line text : List ℕ) (words : List (List ℕ)) (r : LineRead) → IsProgram p
    → line ≡ text ++ 10 ∷ [] → words_of text ≡ words → read_words (names_of p) words ≡ Some r → ReadsLine p line r
words_are p line text [] r h cut at e = absurd (cc e)
words_are p line text (a ∷ []) r h cut at e = absurd (cc e)
words_are p line text (a ∷ b ∷ []) r h cut at e = absurd (cc e)
words_are p line text (a ∷ b ∷ c ∷ ws) r h cut at e =
    and_then _ (stamp_in a) r e (λ stamp stamped f.
    and_then _ (thread_in (names_of p) b) r f (λ thread named g.
    and_then _ (spelled_among verbs c) r g (λ v spelled_v i.
    mapped _ (told (names_of p) v ws) r i (λ read some same.
    let s = stamp_is a stamp stamped in
    let t = thread_is p b thread named in
    let entry = told_is p v ws read h some in
    rw (← same) (record {
      plain = tells_words p line text a b c ws stamp thread v read.plain cut at s t (verb_is c v spelled_v) entry.plain;
      other = λ d k. let of = entry.other d k in (tells_words p line text a b c ws stamp thread v d cut at s t (verb_is c v spelled_v) of.0, of.1);
    })))))

-- a line that is read tells what was read
pub line_told : (p : ProgramText) (line : List ℕ) (r : LineRead) → IsProgram p → read_line (names_of p) line ≡ Some r → ReadsLine p line r
line_told p line r h e =
    and_then _ (unended line) r e (λ text some f. words_are p line text (words_of text) r h (last_is 10 line text some) refl f)

-- the entry is among the readings
abbrev pub HasEntry : EntryRead → Entry → Type 0
HasEntry r e = (r.plain ≡ e) ⊎ (r.other ≡ Some e)

-- an entry's words are read as it, and maybe as another
pub record IsTold (p : ProgramText) (e : Entry) : Type 0 where
  pub read : EntryRead
  pub is : told (names_of p) (verb_in e) (args_of p e) ≡ Some read
  pub has : HasEntry read e

value_among : (f : Value → Entry) (v : Value) (r : ValueRead) → HasValue r v → (f r.plain ≡ f v) ⊎ (option_map (λ n. f (Ref n)) r.other ≡ Some (f v))
value_among f v r (inl same) = inl (ap f same)
value_among f v r (inr other) = inr (rw (other.1, other.2) refl)

woken_among : (o : ℕ) (woken : Option ℕ) (r : WokenRead) → HasWoken r woken → HasEntry (notify_read o r) (Notify o woken)
woken_among o woken r (inl same) = inl (ap (Notify o) same)
woken_among o woken r (inr other) = inr (rw (other.1, other.2) refl)

pub entry_told : (p : ProgramText) (e : Entry) → IsProgram p → IsEntryIn p e → IsTold p e
entry_told p (Enter o path) h valid = record { read = sure (Enter o path); is = rw (object_read p o h valid, path_read path) refl; has = inl refl }
entry_told p (Exit o) h valid = record { read = sure (Exit o); is = rw (object_read p o h valid) refl; has = inl refl }
entry_told p (Wait o) h valid = record { read = sure (Wait o); is = rw (object_read p o h valid) refl; has = inl refl }
entry_told p (Resume o) h valid = record { read = sure (Resume o); is = rw (object_read p o h valid) refl; has = inl refl }
entry_told p (Get o k v) h valid =
    let r = value_read p v h valid.2 in
    record { read = get_read o k r.0; is = rw (object_read p o h valid.0, count_read k valid.1, r.1) refl; has = value_among (Get o k) v r.0 r.2 }
entry_told p (Put o k v) h valid =
    let r = value_read p v h valid.2 in
    record { read = put_read o k r.0; is = rw (object_read p o h valid.0, count_read k valid.1, r.1) refl; has = value_among (Put o k) v r.0 r.2 }
entry_told p (Notify o woken) h valid =
    let r = woken_read p woken h valid.1 in
    record { read = notify_read o r.0; is = rw (object_read p o h valid.0, r.1) refl; has = woken_among o woken r.0 r.2 }
entry_told p (NotifyAll o n) h valid = record { read = sure (NotifyAll o n); is = rw (object_read p o h valid.0, count_read n valid.1) refl; has = inl refl }
entry_told p (Hash o v None) h valid = record { read = sure (Hash o v None); is = rw (object_read p o h valid.0, count_read v valid.1) refl; has = inl refl }
entry_told p (Hash o v (Some n)) h valid = record {
  read = sure (Hash o v (Some n));
  is = rw (object_read p o h valid.0, count_read v valid.1, count_read n valid.2) refl;
  has = inl refl;
}
entry_told p (New o c) h valid = record { read = sure (New o c); is = rw (object_read p o h valid.0, class_read p c h valid.1) refl; has = inl refl }
entry_told p (Print v) h valid =
    let r = value_read p v h valid in
    record { read = print_read r.0; is = rw r.1 refl; has = value_among Print v r.0 r.2 }
entry_told p (Dump n) h valid = record { read = sure (Dump n); is = rw (count_read n valid) refl; has = inl refl }
entry_told p (Trap fault index) h valid = record { read = sure (Trap fault index); is = rw (fault_read fault, count_read index valid) refl; has = inl refl }
entry_told p Spent h valid = record { read = sure Spent; is = refl; has = inl refl }
entry_told p Done h valid = record { read = sure Done; is = refl; has = inl refl }

-- what is read of a line that tells an entry
pub record IsReadAs (p : ProgramText) (line : List ℕ) (x : ℕ × Logged) : Type 0 where
  pub read : LineRead
  pub is : read_line (names_of p) line ≡ Some read
  pub stamp : read.stamp ≡ x.1.stamp
  pub thread : read.thread ≡ x.0
  pub has : HasEntry read.entry x.1.entry

-- each entry that a line tells is among what is read of it
pub line_read : (p : ProgramText) (line : List ℕ) (x : ℕ × Logged) → IsProgram p → Tells p line x → IsReadAs p line x
line_read p line x h t =
    let entry = entry_told p x.1.entry h t.entry in
    let cut : line ≡ join_with_byte 32 (line_words p x) ++ 10 ∷ [] = sym t.text ∙ line_is p x in
    let front : unended line ≡ Some (join_with_byte 32 (line_words p x)) = ap unended cut ∙ last_byte 10 (join_with_byte 32 (line_words p x)) 10 in
    let words : words_of (join_with_byte 32 (line_words p x)) ≡ line_words p x = words_again _ _ (line_spaceless p line x h t) in
    record {
      read = record { stamp = x.1.stamp; thread = x.0; entry = entry.read };
      is = rw (front, words, stamp_read x.1.stamp t.below, thread_read p x.0 h t.thread, verb_read (verb_in x.1.entry), entry.is) refl;
      stamp = refl;
      thread = refl;
      has = entry.has;
    }
