-- A line without a cause keeps what holds of the lines so far.
use Rattle.std.proofs.Common.{◌≡◌, ℕ, ◌+◌, ◌<◌, ◌≤◌, Bool, true, false, List, [], ◌∷◌, ◌++◌, length, map, slice_get, refl, sym}
use Rattle.std.proofs.Common.{subst, arith, Option, Some, None, IsTrue, leb-false, ltb-false, append_assoc, append-nil}
use Rattle.std.specs.List.{AllByRecursion}
use Rattle.std.proofs.lemmas.Bool.{not-false}
use Rattle.std.proofs.lemmas.List.{length-map, length_push}
use Rattle.object_program.specs.Limits.{most_locals, most_code}
use Rattle.object_program.specs.Name.{is_name}
use Rattle.object_program.specs.Program.{ProgramText, total_of}
use Rattle.object_program.specs.Valid.{is_among, AreObjects, IsInstruction, IsThread}
use Rattle.program_syntax.specs.Line.{operands_of}
use Rattle.program_syntax.specs.declared.operand.Space.TheVariants.{Classes, Objects, Threads, Locals}
use Rattle.program_syntax.specs.declared.operand.Operand.TheVariants.{New, Known}
use Rattle.program_syntax.specs.Reading.{Before, operand, count_at, class_at, labels_ahead, section_labels, instruction_on, declared_objects, after_keyword}
use Rattle.object_program.specs.declared.program.ClassDef.{ClassDef}
use Rattle.object_program.specs.declared.program.ObjectDef.{ObjectDef}
use Rattle.object_program.specs.declared.program.LabelDef.{LabelDef}
use Rattle.object_program.specs.declared.program.ThreadDef.{ThreadDef}
use Rattle.object_program.specs.declared.program.Code.{Code}
use Rattle.object_program.specs.declared.program.Code.TheVariants as code
use Rattle.program_syntax.specs.declared.keyword.Keyword.{Keyword}
use Rattle.program_syntax.specs.declared.keyword.Keyword.TheVariants.{Class, Object, Array, Thread, Local, Label, End}
use Rattle.plain_monitor.specs.Limits.{most_slots, most_objects, most_classes, most_threads}
use Rattle.plain_monitor.proofs.Lists.{all_push, all_weaker}
use Rattle.program_syntax.proofs.AllowedNames.{AreNames-push, AreNames-push_map, number_among-lt}
use Rattle.program_syntax.proofs.AllowedLabels.{AreTargets-more, AreTargets-push}
use Rattle.program_syntax.proofs.AllowedCause.{HasNoCause, AreFine, operand_fine}
use Rattle.program_syntax.proofs.AllowedOperands.{count_between, in_thread, instruction_fine}
use Rattle.program_syntax.proofs.AllowedParts.{IsAllowedText, Ahead, ahead_of, ahead_with, IsOpenCode, IsOpen, IsOpenIn, IsSection, IsAllowedSoFar}
use Rattle.program_syntax.proofs.AllowedParts.{IsOpenCode-more, IsThread-more, AreObjects-more, AreObjects-push, total_of-push, EndsOnce-push}

-- a class
IsAllowedText-class : (p : ProgramText) (c : ClassDef) → IsAllowedText p → IsTrue (is_name c.name) → is_among (map (λ d. d.name) p.classes) c.name ≡ false
    → c.slots ≤ most_slots → length p.classes < most_classes → IsAllowedText (record p { classes = p.classes ++ c ∷ [] })
IsAllowedText-class p c h name new slots room =
    let one : length (p.classes ++ c ∷ []) ≡ length p.classes + 1 = length_push p.classes c in
    record {
      class_names = AreNames-push_map (λ d. d.name) p.classes c h.class_names name new;
      class_slots = all_push _ p.classes c h.class_slots slots;
      classes_few = omega arith;
      object_names = h.object_names;
      objects = AreObjects-more _ _ 0 (omega arith) p.objects h.objects;
      objects_few = h.objects_few;
      thread_names = h.thread_names;
      threads = all_weaker _ _ (IsThread-more _ _ _ _ (omega arith) (omega arith)) p.threads h.threads;
      threads_few = h.threads_few;
    }

-- a declaration of objects
IsAllowedText-object : (p : ProgramText) (d : ObjectDef) → IsAllowedText p → IsTrue (is_name d.name) → is_among (map (λ e. e.name) p.objects) d.name ≡ false
    → AreObjects (length p.classes) (total_of p.objects) (d ∷ [])
    → total_of p.objects + d.size ≤ most_objects → IsAllowedText (record p { objects = p.objects ++ d ∷ [] })
IsAllowedText-object p d h name new here room =
    let one : length (p.objects ++ d ∷ []) ≡ length p.objects + 1 = length_push p.objects d in
    record {
      class_names = h.class_names;
      class_slots = h.class_slots;
      classes_few = h.classes_few;
      object_names = AreNames-push_map (λ e. e.name) p.objects d h.object_names name new;
      objects = AreObjects-push _ 0 (total_of p.objects) p.objects d (omega arith) h.objects here;
      objects_few = omega (arith, total_of-push p.objects d);
      thread_names = h.thread_names;
      threads = all_weaker _ _ (IsThread-more _ _ _ _ (omega arith) (omega arith)) p.threads h.threads;
      threads_few = h.threads_few;
    }

-- no label stands after a section's `end`
abbrev at_end : Ahead
at_end = record { labels = λ n. []; closed = true }

-- a thread whose section is closed
IsThread-closed : (classes objects : ℕ) (names : List (List ℕ)) (t : ThreadDef) → IsOpen classes objects names at_end t → length t.code < most_code
    → IsThread classes objects (record t { code = t.code ++ code.End ∷ [] })
IsThread-closed classes objects names t o room =
    let l = length t.locals in
    let one : length (t.code ++ code.End ∷ []) ≡ length t.code + 1 = length_push t.code code.End in
    let seen : AllByRecursion (IsInstruction classes l objects (t.labels ++ [])) t.code = all_weaker _ _ (λ c i. i.operands) t.code o.code in
    let all : AllByRecursion (IsInstruction classes l objects t.labels) t.code =
    subst (λ ls. AllByRecursion (IsInstruction classes l objects ls) t.code) (append-nil t.labels) seen in
    record {
      locals = o.locals;
      locals_few = o.locals_few;
      labels = o.labels;
      targets = AreTargets-more _ _ 1 (omega arith) t.labels o.targets;
      code = all_push _ t.code code.End all tt;
      code_few = omega arith;
      ends = EndsOnce-push classes l objects (t.labels ++ []) t.code o.code;
    }

IsAllowedText-thread : (p : ProgramText) (t : ThreadDef) → IsAllowedText p → IsOpenIn p at_end t → length t.code < most_code
    → IsAllowedText (record p { threads = p.threads ++ record t { code = t.code ++ code.End ∷ [] } ∷ [] })
IsAllowedText-thread p t h o room =
    let closed : ThreadDef = record t { code = t.code ++ code.End ∷ [] } in
    let one : length (p.threads ++ closed ∷ []) ≡ length p.threads + 1 = length_push p.threads closed in
    record {
      class_names = h.class_names;
      class_slots = h.class_slots;
      classes_few = h.classes_few;
      object_names = h.object_names;
      objects = h.objects;
      objects_few = h.objects_few;
      thread_names = AreNames-push_map (λ u. u.name) p.threads closed h.thread_names o.name o.new;
      threads = all_push _ p.threads closed h.threads (IsThread-closed (length p.classes) (length p.objects) _ t o room);
      threads_few = let few = o.room in omega (arith, length-map p.threads (λ (u : ThreadDef). u.name));
    }

-- a local of an open section
IsOpen-local : (classes objects : ℕ) (names : List (List ℕ)) (ahead : Ahead) (t : ThreadDef) (name : List ℕ) → IsOpen classes objects names ahead t
    → IsTrue (is_name name) → is_among t.locals name ≡ false → length t.locals < most_locals
    → IsOpen classes objects names ahead (record t { locals = t.locals ++ name ∷ [] })
IsOpen-local classes objects names ahead t name o here new room =
    let one : length (t.locals ++ name ∷ []) ≡ length t.locals + 1 = length_push t.locals name in
    record {
      name = o.name;
      new = o.new;
      room = o.room;
      locals = AreNames-push t.locals name o.locals here new;
      locals_few = omega arith;
      labels = o.labels;
      targets = o.targets;
      code = all_weaker _ _ (IsOpenCode-more _ _ _ _ _ (omega arith)) t.code o.code;
      closed = o.closed;
    }

-- before a label's line the section has that label ahead
abbrev at_label : List ℕ → List (List ℕ) → Ahead
at_label name later = record (ahead_of later) { labels = λ n. record { name = name; index = n } ∷ [] ++ labels_ahead n later }

-- a label of an open section, for the instruction after it
IsOpen-label : (classes objects : ℕ) (names : List (List ℕ)) (later : List (List ℕ)) (t : ThreadDef) (name : List ℕ)
    → IsOpen classes objects names (at_label name later) t → IsTrue (is_name name) → is_among (map (λ l. l.name) t.labels) name ≡ false
    → IsOpen classes objects names (ahead_of later) (record t { labels = t.labels ++ record { name = name; index = length t.code + 1 } ∷ [] })
IsOpen-label classes objects names later t name o here new =
    let next = length t.code + 1 in
    let label : LabelDef = record { name = name; index = next } in
    let IsAll : List LabelDef → Type 0 = λ ls. AllByRecursion (IsOpenCode classes (length t.locals) objects ls) t.code in
    record {
      name = o.name;
      new = o.new;
      room = o.room;
      locals = o.locals;
      locals_few = o.locals_few;
      labels = AreNames-push_map (λ l. l.name) t.labels label o.labels here new;
      targets = AreTargets-push next 1 t.labels label (omega arith) refl o.targets;
      code = subst IsAll (sym (append_assoc t.labels (label ∷ []) (labels_ahead next later))) o.code;
      closed = o.closed;
    }

-- before an instruction's line the labels ahead are those after it
abbrev at_code : List (List ℕ) → Ahead
at_code later = record (ahead_of later) { labels = λ n. labels_ahead (n + 1) later }

-- an instruction of an open section
IsOpen-code : (classes objects : ℕ) (names : List (List ℕ)) (later : List (List ℕ)) (t : ThreadDef) (c : Code) → IsOpen classes objects names (at_code later) t
    → IsOpenCode classes (length t.locals) objects (section_labels t later) c
    → IsOpen classes objects names (ahead_of later) (record t { code = t.code ++ c ∷ [] })
IsOpen-code classes objects names later t c o here =
    let one : length (t.code ++ c ∷ []) ≡ length t.code + 1 = length_push t.code c in
    let IsAll : List Code → ℕ → Type 0 = λ cs n. AllByRecursion (IsOpenCode classes (length t.locals) objects (t.labels ++ labels_ahead n later)) cs in
    let before : length t.code + 1 + 1 ≡ length t.code + 2 = omega arith in
    let after : length t.code + 2 ≡ length (t.code ++ c ∷ []) + 1 = omega arith in
    let all : IsAll t.code (length t.code + 2) = subst (IsAll t.code) before o.code in
    record {
      name = o.name;
      new = o.new;
      room = o.room;
      locals = o.locals;
      locals_few = o.locals_few;
      labels = o.labels;
      targets = AreTargets-more _ _ 1 (omega arith) t.labels o.targets;
      code = subst (IsAll (t.code ++ c ∷ [])) after (all_push _ t.code c all here);
      closed = o.closed;
    }

-- no section is open
abbrev outside : ProgramText → Before
outside p = record { text = p; section = None }

class_kept : (p : ProgramText) (later ws : List (List ℕ)) → IsAllowedText p → HasNoCause (outside p) later ws Class
    → IsAllowedSoFar (after_keyword (outside p) later ws Class) (ahead_of later)
class_kept p later ws h n =
    let name = operand_fine (outside p) later (operands_of Class) ws 0 (New Classes) refl n.operands in
    let number = operand_fine (outside p) later (operands_of Class) ws 1 _ refl n.operands in
    let slots = count_between 0 most_slots ws 1 number in
    record {
      text = IsAllowedText-class p (record { name = operand ws 0; slots = count_at ws 1 }) h name.0 name.1 slots.1 (leb-false _ _ n.limit);
      section = tt;
    }

-- a declaration of so many objects, of a class that is declared
objects_kept : (p : ProgramText) (later ws : List (List ℕ)) (k : Keyword) (size : ℕ) (array : Bool) → IsAllowedText p
    → slice_get (operands_of k) 0 ≡ Some (New Objects) → slice_get (operands_of k) 1 ≡ Some (Known Classes) → AreFine (outside p) later (operands_of k) ws
    → 1 ≤ size → (array ≡ false → size ≡ 1) → total_of p.objects + size ≤ most_objects
    → IsAllowedText (record p { objects = p.objects ++ declared_objects p ws size array ∷ [] })
objects_kept p later ws k size array h first second operands some one room =
    let name = operand_fine (outside p) later (operands_of k) ws 0 (New Objects) first operands in
    let class = operand_fine (outside p) later (operands_of k) ws 1 (Known Classes) second operands in
    let below : class_at p ws 1 < length p.classes = subst (λ l. class_at p ws 1 < l) (length-map p.classes (λ c. c.name)) (number_among-lt _ _ class.1) in
    IsAllowedText-object p (declared_objects p ws size array) h name.0 name.1 ((below, refl, some, one), tt) room

object_kept : (p : ProgramText) (later ws : List (List ℕ)) → IsAllowedText p → HasNoCause (outside p) later ws Object
    → IsAllowedSoFar (after_keyword (outside p) later ws Object) (ahead_of later)
object_kept p later ws h n = record {
  text = objects_kept p later ws Object 1 false h refl refl n.operands (omega arith) (λ _. refl) (ltb-false _ _ n.limit);
  section = tt;
}

array_kept : (p : ProgramText) (later ws : List (List ℕ)) → IsAllowedText p → HasNoCause (outside p) later ws Array
    → IsAllowedSoFar (after_keyword (outside p) later ws Array) (ahead_of later)
array_kept p later ws h n =
    let size = count_between 1 most_objects ws 2 (operand_fine (outside p) later (operands_of Array) ws 2 _ refl n.operands) in
    record {
      text = objects_kept p later ws Array (count_at ws 2) true h refl refl n.operands size.0 (λ e. absurd (cc e)) (ltb-false _ _ n.limit);
      section = tt;
    }

thread_kept : (p : ProgramText) (later ws : List (List ℕ)) → IsAllowedText p → HasNoCause (outside p) later ws Thread
    → IsAllowedSoFar (after_keyword (outside p) later ws Thread) (ahead_of later)
thread_kept p later ws h n =
    let name = operand_fine (outside p) later (operands_of Thread) ws 0 (New Threads) refl n.operands in
    let room : length (map (λ t. t.name) p.threads) < most_threads = rw length-map (leb-false _ _ n.limit) in
    record {
      text = h;
      section = record {
        name = name.0;
        new = name.1;
        room = room;
        locals = tt;
        locals_few = omega arith;
        labels = tt;
        targets = tt;
        code = tt;
        closed = not-false _ n.closed;
      };
    }

local_kept : (p : ProgramText) (t : ThreadDef) (later ws : List (List ℕ)) → IsAllowedText p → IsOpenIn p (ahead_of later) t
    → HasNoCause (in_thread p t) later ws Local → IsAllowedSoFar (after_keyword (in_thread p t) later ws Local) (ahead_of later)
local_kept p t later ws h o n =
    let name = operand_fine (in_thread p t) later (operands_of Local) ws 0 (New Locals) refl n.operands in
    record { text = h; section = IsOpen-local _ _ _ _ t (operand ws 0) o name.0 name.1 (leb-false _ _ n.limit) }

-- the label of a line is the one that the lines before it had ahead
label_kept : (p : ProgramText) (t : ThreadDef) (later : List (List ℕ)) (w : List ℕ) (ws : List (List ℕ)) → IsAllowedText p
    → IsOpenIn p (ahead_with (w ∷ ws) (Some Label) later) t → HasNoCause (in_thread p t) later ws Label
    → IsAllowedSoFar (after_keyword (in_thread p t) later ws Label) (ahead_of later)
label_kept p t later w [] h o n = absurd n.operands
label_kept p t later w (l ∷ m ∷ ws) h o n = absurd n.operands.1
label_kept p t later w (l ∷ []) h o n =
    let name = n.operands.0 in
    let seen : IsOpenIn p (at_label l later) t = rw name.0 at o in
    record { text = h; section = IsOpen-label _ _ _ later t l seen name.0 name.1 }

-- a line of an open section
section_kept : (p : ProgramText) (t : ThreadDef) (later : List (List ℕ)) (w : List ℕ) (ws : List (List ℕ)) (k : Keyword) → IsAllowedText p
    → IsOpenIn p (ahead_with (w ∷ ws) (Some k) later) t → HasNoCause (in_thread p t) later ws k
    → IsAllowedSoFar (after_keyword (in_thread p t) later ws k) (ahead_of later)
section_kept p t later w ws Class h o n = absurd (cc o.closed)
section_kept p t later w ws Object h o n = absurd (cc o.closed)
section_kept p t later w ws Array h o n = absurd (cc o.closed)
section_kept p t later w ws Thread h o n = absurd (cc o.closed)
section_kept p t later w ws Local h o n = local_kept p t later ws h o n
section_kept p t later w ws Label h o n = label_kept p t later w ws h o n
section_kept p t later w ws End h o n = record { text = IsAllowedText-thread p t h o (leb-false _ _ n.limit); section = tt }
section_kept p t later w ws k h o n =
    let c : IsOpenCode (length p.classes) (length t.locals) (length p.objects) (section_labels t later) (instruction_on p t later ws k) =
    record { goes_on = λ e. absurd (cc e); operands = instruction_fine p t later ws k n.operands } in
    record { text = h; section = IsOpen-code _ _ _ later t (instruction_on p t later ws k) o c }

-- a line outside sections
outside_kept : (p : ProgramText) (later ws : List (List ℕ)) (k : Keyword) → IsAllowedText p → HasNoCause (outside p) later ws k
    → IsAllowedSoFar (after_keyword (outside p) later ws k) (ahead_of later)
outside_kept p later ws Class h n = class_kept p later ws h n
outside_kept p later ws Object h n = object_kept p later ws h n
outside_kept p later ws Array h n = array_kept p later ws h n
outside_kept p later ws Thread h n = thread_kept p later ws h n
outside_kept p later ws k h n = absurd (cc n.place)

pub line_kept : (p : ProgramText) (s : Option ThreadDef) (later : List (List ℕ)) (w : List ℕ) (ws : List (List ℕ)) (k : Keyword) → IsAllowedText p
    → IsSection p (ahead_with (w ∷ ws) (Some k) later) s → HasNoCause (record { text = p; section = s }) later ws k
    → IsAllowedSoFar (after_keyword (record { text = p; section = s }) later ws k) (ahead_of later)
line_kept p None later w ws k h o n = outside_kept p later ws k h n
line_kept p (Some t) later w ws k h o n = section_kept p t later w ws k h o n
