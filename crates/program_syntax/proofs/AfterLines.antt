-- What lines without a cause make of the reader's state.
use Rattle.std.proofs.Common.{◌≡◌, ℕ, zero, suc, ◌+◌, ◌<◌, ◌≤◌, ◌==◌, true, false, if◌then◌else◌, List, [], ◌∷◌, ◌++◌, length, take}
use Rattle.std.proofs.Common.{refl, sym, ap, ◌∙◌, arith, append_assoc, add-one, Option, Some, None, pos, leb-false, ltb-false, ℤ}
use Rattle.std.proofs.lemmas.Bool.Decides.{nat_tests}
use Rattle.std.proofs.lemmas.Int.{ints}
use Rattle.std.proofs.lemmas.List.{length_push}
use Rattle.object_program.specs.Limits.{most_objects, most_code}
use Rattle.object_program.specs.Name.{is_name}
use Rattle.program_syntax.specs.Text.{words_of}
use Rattle.program_syntax.specs.Number.{number_of, is_within}
use Rattle.object_program.specs.Program.{ProgramText, total_of}
use Rattle.program_syntax.specs.Line.{keyword_of, is_outside, is_instruction, operands_of}
use Rattle.program_syntax.specs.Reading.{Before, operand, count_at, label_of, labels_ahead, instruction_on, after_keyword, ends_section}
use Rattle.program_syntax.specs.Refusal.{is_closed, is_end, is_in_place, passes_limit, keyword_cause}
use Rattle.program_syntax.specs.inner.Signs.{is_count, count_in}
use Rattle.program_syntax.specs.State.{labels_from, labels_at}
use Rattle.program_syntax.specs.State.{thread_of, HasAhead, HasAheadOf, IsAhead, IsAheadOf}
use Rattle.object_program.specs.declared.program.ThreadDef.{ThreadDef}
use Rattle.object_program.specs.declared.program.Code.{Code}
use Rattle.program_syntax.specs.declared.state.Section.{Section}
use Rattle.program_syntax.specs.declared.operand.Space.TheVariants.{Labels}
use Rattle.program_syntax.specs.declared.operand.Operand.TheVariants.{New, Number}
use Rattle.program_syntax.specs.declared.keyword.Keyword.{Keyword}
use Rattle.program_syntax.specs.declared.keyword.Keyword.TheVariants.{Class, Object, Array, Thread, Local, Label, End}
use Rattle.program_syntax.proofs.AllowedCause.{no_cause, operand_fine}
use Rattle.program_syntax.proofs.AllowedOperands.{count_between}

-- a number from 1 to 4,096 is one from 0
wider : (o : Option ℤ) → is_within (pos 1) (pos most_objects) o ≡ true → is_within (pos 0) (pos most_objects) o ≡ true
wider None h = absurd (cc h)
wider (Some z) h = grind (arith, ints)

-- the objects of an array: as many as its line says, at least one, and with those before it 4,096 at most
pub record IsCounted (b : Before) (ws : List (List ℕ)) (n : ℕ) : Type 0 where
  pub same : n ≡ count_at ws 2
  pub some : 1 ≤ n
  pub room : total_of b.text.objects + n ≤ most_objects

pub array_counted : (b : Before) (later ws : List (List ℕ)) (k : Keyword) (word : List ℕ) (n : ℕ) → k ≡ Array → keyword_cause b later ws (Some k) ≡ None
    → word ≡ operand ws 2 → (is_count word ≡ true → n ≡ count_in word) → IsCounted b ws n
array_counted b later ws k word n array clean same count =
    let h = no_cause b later ws Array (rw array at clean) in
    let fine = operand_fine b later (operands_of Array) ws 2 (Number (pos 1) (pos most_objects)) refl h.operands in
    let counted : n ≡ count_at ws 2 = (rw same at count) (wider (number_of (operand ws 2)) fine) in
    let between = count_between 1 most_objects ws 2 fine in
    let room = ltb-false _ _ h.limit in
    record { same = counted; some = omega arith; room = omega arith }

-- a line of an open section that is neither a local nor a label is an instruction: a declaration would leave the section open
pub instruction_kind : (s : Section) (later ws : List (List ℕ)) (k : Keyword)
    → IsAheadOf s later ws k → (k ≡ Local → ⊥) → (k ≡ Label → ⊥) → is_instruction k ≡ true
instruction_kind s later ws Class h local label = absurd (cc h.closed)
instruction_kind s later ws Object h local label = absurd (cc h.closed)
instruction_kind s later ws Array h local label = absurd (cc h.closed)
instruction_kind s later ws Thread h local label = absurd (cc h.closed)
instruction_kind s later ws Local h local label = absurd (local refl)
instruction_kind s later ws Label h local label = absurd (label refl)
instruction_kind s later ws k h local label = refl

-- and where no section is open, a line without a cause declares
pub outside_kind : (p : ProgramText) (later ws : List (List ℕ)) (k : Keyword)
    → keyword_cause (record { text = p; section = None }) later ws (Some k) ≡ None → is_outside k ≡ true
outside_kind p later ws k clean = in_place k (no_cause (record { text = p; section = None }) later ws k clean).place where
  in_place : (k : Keyword) → is_in_place (record { text = p; section = None }) k ≡ true → is_outside k ≡ true
  in_place Class h = refl
  in_place Object h = refl
  in_place Array h = refl
  in_place Thread h = refl
  in_place k h = absurd (cc h)

-- and has room
pub instruction_room : (p : ProgramText) (t : ThreadDef) (ws : List (List ℕ)) (k : Keyword) → is_instruction k ≡ true
    → passes_limit (record { text = p; section = Some t }) ws k ≡ false → length t.code < most_code
instruction_room p t ws Class i h = absurd (cc i)
instruction_room p t ws Object i h = absurd (cc i)
instruction_room p t ws Array i h = absurd (cc i)
instruction_room p t ws Thread i h = absurd (cc i)
instruction_room p t ws Local i h = absurd (cc i)
instruction_room p t ws Label i h = absurd (cc i)
instruction_room p t ws k i h = leb-false _ _ h

-- one more element of a list whose front is known
pub take-next : {X : Type 0} (xs : List X) (n : ℕ) (y : X) (rest : List X) → xs ≡ take n xs ++ y ∷ rest → take (n + 1) xs ≡ take n xs ++ y ∷ []
take-next [] zero y rest e = absurd (cc e)
take-next [] (suc n) y rest e = absurd (cc e)
take-next (x ∷ xs) zero y rest e = cc
take-next (x ∷ xs) (suc n) y rest e =
    let tail : xs ≡ take n xs ++ y ∷ rest = cc in
    let next : take (n + 1) xs ≡ take n xs ++ y ∷ [] = take-next xs n y rest tail in
    rw add-one (ap (λ zs. x ∷ zs) (rw add-one at next))

label_line : (n : ℕ) (ws : List (List ℕ)) → (length ws == 1) ≡ true
    → is_name (operand ws 0) ≡ true → label_of n ws ≡ record { name = operand ws 0; index = n } ∷ []
label_line n [] one name = absurd (cc one)
label_line n (l ∷ []) one name = rw name refl
label_line n (l ∷ m ∷ ws) one name = absurd (grind (arith, nat_tests))

-- the label of a line without a cause is the next of the section's
pub record IsNextLabel (s : Section) (later ws : List (List ℕ)) : Type 0 where
  pub next : take (s.declared + 1) s.labels ≡ take s.declared s.labels ++ record { name = operand ws 0; index = length s.code.items + 1 } ∷ []
  pub all : s.labels ≡ take (s.declared + 1) s.labels ++ labels_ahead (length s.code.items + 1) later

pub next_label : (p : ProgramText) (s : Section) (later ws : List (List ℕ))
    → keyword_cause (record { text = p; section = Some (thread_of s) }) later ws (Some Label) ≡ None
    → IsAheadOf s later ws Label → IsNextLabel s later ws
next_label p s later ws clean ahead =
    let h = no_cause (record { text = p; section = Some (thread_of s) }) later ws Label clean in
    let n = length s.code.items + 1 in
    let one : label_of n ws ≡ record { name = operand ws 0; index = n } ∷ [] = label_line n ws h.count
    (operand_fine (record { text = p; section = Some (thread_of s) }) later (operands_of Label) ws 0 (New Labels) refl h.operands).0 in
    let all : s.labels ≡ take s.declared s.labels ++ record { name = operand ws 0; index = n } ∷ labels_ahead n later = rw one at ahead.labels in
    let next = take-next s.labels s.declared (record { name = operand ws 0; index = n }) (labels_ahead n later) all in
    record { next = next; all = rw (next, append_assoc) all }

-- the lines ahead of a line without words, and of one with a keyword
pub ahead_of : (s : Option Section) (line : List ℕ) (later : List (List ℕ)) (w : List ℕ) (ws : List (List ℕ)) (k : Keyword)
    → words_of line ≡ w ∷ ws → keyword_of w ≡ Some k → HasAhead s (line ∷ later) → HasAheadOf s later ws k
ahead_of None line later w ws k words keyword h = tt
ahead_of (Some s) line later w ws k words keyword h =
    record { closed = rw (words, keyword) at h.closed; labels = rw (words, keyword) at h.labels }

-- the state after an instruction that is no `end`, the labels at it, and the lines after it
abbrev in_section : ProgramText → ThreadDef → Before
in_section p t = record { text = p; section = Some t }

instruction_after : (p : ProgramText) (t : ThreadDef) (later ws : List (List ℕ)) (k : Keyword) → is_instruction k ≡ true → (k ≡ End → ⊥)
    → after_keyword (in_section p t) later ws k ≡ in_section p (record t { code = t.code ++ instruction_on p t later ws k ∷ [] })
instruction_after p t later ws Class i end = absurd (cc i)
instruction_after p t later ws Object i end = absurd (cc i)
instruction_after p t later ws Array i end = absurd (cc i)
instruction_after p t later ws Thread i end = absurd (cc i)
instruction_after p t later ws Local i end = absurd (cc i)
instruction_after p t later ws Label i end = absurd (cc i)
instruction_after p t later ws End i end = absurd (end refl)
instruction_after p t later ws k i end = refl

instruction_labels : (t : ThreadDef) (later ws : List (List ℕ)) (k : Keyword) → is_instruction k ≡ true → (k ≡ End → ⊥)
    → labels_at t later ws k ≡ t.labels ++ labels_ahead (length t.code + 1 + 1) later
instruction_labels t later ws Class i end = absurd (cc i)
instruction_labels t later ws Object i end = absurd (cc i)
instruction_labels t later ws Array i end = absurd (cc i)
instruction_labels t later ws Thread i end = absurd (cc i)
instruction_labels t later ws Local i end = absurd (cc i)
instruction_labels t later ws Label i end = absurd (cc i)
instruction_labels t later ws End i end = absurd (end refl)
instruction_labels t later ws k i end = refl

instruction_closed : (later : List (List ℕ)) (k : Keyword) → is_instruction k ≡ true → (k ≡ End → ⊥)
    → (if ends_section (Some k) then is_end (Some k) else is_closed later) ≡ true → is_closed later ≡ true
instruction_closed later Class i end h = absurd (cc i)
instruction_closed later Object i end h = absurd (cc i)
instruction_closed later Array i end h = absurd (cc i)
instruction_closed later Thread i end h = absurd (cc i)
instruction_closed later Local i end h = absurd (cc i)
instruction_closed later Label i end h = absurd (cc i)
instruction_closed later End i end h = absurd (end refl)
instruction_closed later k i end h = h

-- a section with one more instruction
pub record IsAfter (p : ProgramText) (s r : Section) (later ws : List (List ℕ)) (k : Keyword) : Type 0 where
  pub after : in_section p (thread_of r) ≡ after_keyword (in_section p (thread_of s)) later ws k
  pub ahead : IsAhead r later

pub after_instruction : (p : ProgramText) (s r : Section) (later ws : List (List ℕ)) (k : Keyword) (c : Code) → is_instruction k ≡ true → (k ≡ End → ⊥)
    → IsAheadOf s later ws k → c ≡ instruction_on p (thread_of s) later ws k
    → thread_of r ≡ record (thread_of s) { code = s.code.items ++ c ∷ [] } → r.labels ≡ s.labels
    → IsAfter p s r later ws k
after_instruction p s r later ws k c i end ahead code thread labels =
    let t : ThreadDef = thread_of s in
    let one : length (s.code.items ++ c ∷ []) ≡ length s.code.items + 1 = length_push s.code.items c in
    let from : labels_from (thread_of r) later ≡ t.labels ++ labels_ahead (length t.code + 1 + 1) later =
    ap (λ (u : ThreadDef). labels_from u later) thread ∙ ap (λ n. t.labels ++ labels_ahead (n + 1) later) one in
    record {
      after = ap (in_section p) thread ∙ rw code (sym (instruction_after p t later ws k i end));
      ahead = record {
        closed = instruction_closed later k i end ahead.closed;
        labels = labels ∙ ahead.labels ∙ instruction_labels t later ws k i end ∙ sym from;
      };
    }

pub after_label : (p : ProgramText) (s r : Section) (later ws : List (List ℕ)) → IsAheadOf s later ws Label → IsNextLabel s later ws
    → thread_of r ≡ record (thread_of s) { labels = take (s.declared + 1) s.labels } → r.labels ≡ s.labels → IsAfter p s r later ws Label
after_label p s r later ws ahead next thread labels =
    record {
      after = ap (in_section p) thread ∙ ap (λ ls. in_section p (record (thread_of s) { labels = ls })) next.next;
      ahead = record {
        closed = ahead.closed;
        labels = labels ∙ next.all ∙ sym (ap (λ (u : ThreadDef). labels_from u later) thread);
      };
    }
