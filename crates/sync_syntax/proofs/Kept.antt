-- The program with blocks that a text has is allowed: a line without a cause keeps what holds of the lines so far.
use Rattle.std.proofs.Common.{◌≡◌, ℕ, zero, suc, ◌+◌, ◌<◌, ◌≤◌, Bool, true, false, not, ◌||◌, ◌==◌, if◌then◌else◌, List, [], ◌∷◌}
use Rattle.std.proofs.Common.{◌++◌, length, map, refl, sym, ap, ◌∙◌, subst, arith, Option, Some, None, leb-false, ltb-false}
use Rattle.std.specs.List.{AllByRecursion, list_any}
use Rattle.std.proofs.lemmas.Bool.{or_parts, not-false}
use Rattle.std.proofs.lemmas.Bool.Decides.{nat_tests}
use Rattle.std.proofs.lemmas.List.{length_push}
use Rattle.plain_monitor.proofs.Lists.{all_push, all_weaker}
use Rattle.object_program.specs.Limits.{most_code}
use Rattle.object_program.specs.Program.{ProgramText}
use Rattle.object_program.specs.Valid.{is_among, IsInstruction}
use Rattle.object_program.specs.declared.program.ClassDef.{ClassDef}
use Rattle.object_program.specs.declared.program.ThreadDef.{ThreadDef}
use Rattle.object_program.specs.declared.program.Code.TheVariants as instr
use Rattle.program_syntax.specs.Line.{a_local, is_instruction, is_outside}
use Rattle.program_syntax.specs.Reading.{Before, operand, number_among, local_at, instruction_on, ends_section, count_at, declared_objects}
use Rattle.program_syntax.specs.Refusal.{is_undeclared, local_names, is_closed, is_end}
use Rattle.program_syntax.specs.declared.keyword.Keyword.{Keyword}
use Rattle.program_syntax.specs.declared.keyword.Keyword.TheVariants as keyword
use Rattle.program_syntax.proofs.AllowedCause.{HasNoCause}
use Rattle.program_syntax.proofs.AllowedKept.{line_kept}
use Rattle.program_syntax.proofs.AllowedNames.{number_among-lt}
use Rattle.program_syntax.proofs.AllowedOperands.{instruction_fine}
use Rattle.program_syntax.proofs.AllowedParts.{Ahead, ahead_of, ahead_with, IsOpenIn, IsOpenCode, labels_with, IsAllowedSoFar}
use Rattle.program_syntax.proofs.Directories.{names-push}
use Rattle.sync_source.specs.Source.{Nothing, Plain, SyncThreadText}
use Rattle.sync_source.specs.Valid.{most_depth, is_end as ends_here, IsPlain, IsTest, IsSyncThread}
use Rattle.sync_syntax.specs.declared.word.Word.{Word}
use Rattle.sync_syntax.specs.declared.word.Word.TheVariants as word
use Rattle.sync_syntax.specs.Word.{is_left_out, weight}
use Rattle.sync_syntax.specs.Blocks.{Blocks, OfSync, OfIf, OfWhile, with_statement, code_used, changes_held}
use Rattle.sync_syntax.specs.Reading.{SyncBefore, is_sign, test_on, code_on, ended, blocks_after, after_word}
use Rattle.sync_syntax.specs.Refusal.{locals_cause, tested, plain_cause, passes_code, is_assigned}
use Rattle.sync_syntax.specs.inner.Steps.{is_block}
use Rattle.sync_syntax.proofs.Codes.{code_alone}
use Rattle.sync_syntax.proofs.OpenBlocks.{size-joined}
use Rattle.sync_syntax.proofs.Good.{AreBlocks, AreStatements-joined, KeepsLocals-joined, depth-joined, AreStatements-more}
use Rattle.sync_syntax.proofs.Good.{open_syncs, AreBlocks-more, AreBlocks-none, AreBlocks-statement, AreBlocks-block}
use Rattle.sync_syntax.proofs.Good.{AreBlocks-done, AreBlocks-else, KeepsLocals-front, EndsWell-push, IsInstruction-alone}
use Rattle.sync_syntax.proofs.BlockLines.{cond_none, only_none, HasNoBlockCause, block_section}

-- the section that is open has no instruction and no label, as the plain language has it, and its blocks are those that a thread may have
pub record IsBareThread (t : ThreadDef) : Type 0 where
  pub labels : t.labels ≡ []
  pub code : t.code ≡ []

abbrev pub HasSection : ProgramText → Blocks → Option ThreadDef → Type 0
HasSection p bl None = Unit {0}
HasSection p bl (Some t) = IsBareThread t × AreBlocks (length p.classes) (length t.locals) (length p.objects) bl

pub record IsKept (b : SyncBefore) (ahead : Ahead) : Type 0 where
  pub plain : IsAllowedSoFar b.plain ahead
  pub section : HasSection b.plain.text b.blocks b.plain.section
  pub threads : AllByRecursion (IsSyncThread (length b.plain.text.classes) (length b.plain.text.objects)) b.threads
  pub names : map (λ t. t.name) b.threads ≡ map (λ t. t.name) b.plain.text.threads

-- an open section before other lines, which close it too
passed : (p : ProgramText) (t : ThreadDef) (a c : Ahead) → IsBareThread t → IsOpenIn p a t → c.closed ≡ true → IsOpenIn p c t
passed p t a c bare o closed = record {
  name = o.name;
  new = o.new;
  room = o.room;
  locals = o.locals;
  locals_few = o.locals_few;
  labels = o.labels;
  targets = o.targets;
  code = subst (λ cs. AllByRecursion (IsOpenCode (length p.classes) (length t.locals) (length p.objects) (labels_with c t)) cs) (sym bare.code) tt;
  closed = closed;
}

-- more declarations
IsSyncThread-more : (k n o p : ℕ) → k ≤ n → o ≤ p → (t : SyncThreadText) → IsSyncThread k o t → IsSyncThread n p t
IsSyncThread-more k n o p kn op t h = record {
  locals = h.locals;
  locals_few = h.locals_few;
  body = AreStatements-more k n (length t.locals) (length t.locals) o p kn (omega arith) op t.body h.body;
  ends = h.ends;
  keeps = h.keeps;
  nested = h.nested;
  code_few = h.code_few;
}

-- the state of the reader by its parts
abbrev state : ProgramText → Option ThreadDef → List SyncThreadText → Blocks → SyncBefore
state p s ts bl = record { plain = record { text = p; section = s }; threads = ts; blocks = bl }

-- the class that a line declares
abbrev declared_class : List (List ℕ) → ClassDef
declared_class ws = record { name = operand ws 0; slots = count_at ws 1 }

-- a declaration, or the opening of a section
outside_kept : (p : ProgramText) (ts : List SyncThreadText) (bl : Blocks) (later : List (List ℕ)) (w : List ℕ) (ws : List (List ℕ)) (k : Keyword) → (a : Ahead)
    → IsKept (state p None ts bl) a → HasNoCause (record { text = p; section = None }) later ws k → is_outside k ≡ true
    → IsKept (after_word (state p None ts bl) later ws (word.Plain k)) (ahead_of later)
outside_kept p ts bl later w ws keyword.Class a h n outside = record {
  plain = line_kept p None later w ws keyword.Class h.plain.text tt n;
  section = tt;
  threads = all_weaker _ _ (IsSyncThread-more _ _ _ _ (omega (arith, length_push p.classes (declared_class ws))) (omega arith)) ts h.threads;
  names = h.names;
}
outside_kept p ts bl later w ws keyword.Object a h n outside = record {
  plain = line_kept p None later w ws keyword.Object h.plain.text tt n;
  section = tt;
  threads = all_weaker _ _ (IsSyncThread-more _ _ _ _ (omega arith) (omega (arith, length_push p.objects (declared_objects p ws 1 false)))) ts h.threads;
  names = h.names;
}
outside_kept p ts bl later w ws keyword.Array a h n outside = record {
  plain = line_kept p None later w ws keyword.Array h.plain.text tt n;
  section = tt;
  threads = all_weaker _ _ (IsSyncThread-more _ _ _ _ (omega arith)
      (omega (arith, length_push p.objects (declared_objects p ws (count_at ws 2) true)))) ts h.threads;
  names = h.names;
}
outside_kept p ts bl later w ws keyword.Thread a h n outside = record {
  plain = line_kept p None later w ws keyword.Thread h.plain.text tt n;
  section = (record { labels = refl; code = refl }, AreBlocks-none (length p.classes) 0 (length p.objects));
  threads = h.threads;
  names = h.names;
}
outside_kept p ts bl later w ws k a h n outside = absurd (cc outside)

-- the thread of a section that is closed
ended_thread : (p : ProgramText) (t : ThreadDef) (bl : Blocks) (a : Ahead) → IsOpenIn p a t
    → AreBlocks (length p.classes) (length t.locals) (length p.objects) bl → code_used bl + 1 ≤ most_code
    → IsSyncThread (length p.classes) (length p.objects) (ended t bl)
ended_thread p t bl a o blocks room =
    let good = blocks.statements in
    let nested = good.nested in
    let last = Plain instr.End Nothing in
    record {
      locals = o.locals;
      locals_few = o.locals_few;
      body = AreStatements-joined (length p.classes) (length t.locals) (length p.objects) bl.statements last good.fine (tt, tt, tt);
      ends = EndsWell-push bl.statements good.goes_on;
      keeps = KeepsLocals-joined [] bl.statements last (KeepsLocals-front [] (open_syncs bl.opened) bl.statements good.keeps) (tt, tt);
      nested = depth-joined bl.statements last most_depth (omega arith) (omega arith);
      code_few = omega (arith, size-joined bl.statements last);
    }

end_kept : (p : ProgramText) (t : ThreadDef) (ts : List SyncThreadText) (bl : Blocks) (later : List (List ℕ)) (w : List ℕ) (ws : List (List ℕ))
    → IsKept (state p (Some t) ts bl) (ahead_with (w ∷ ws) (Some keyword.End) later) → HasNoCause (record { text = p; section = Some t }) later ws keyword.End
    → code_used bl + 1 ≤ most_code → IsKept (after_word (state p (Some t) ts bl) later ws (word.Plain keyword.End)) (ahead_of later)
end_kept p t ts bl later w ws h n room = record {
  plain = line_kept p (Some t) later w ws keyword.End h.plain.text h.plain.section n;
  section = tt;
  threads = all_push _ ts (ended t bl) h.threads (ended_thread p t bl _ h.plain.section h.section.1 room);
  names =
      names-push (λ (u : SyncThreadText). u.name) ts _ (ended t bl) refl ∙ ap (λ ns. ns ++ t.name ∷ []) h.names
      ∙ sym (names-push (λ (u : ThreadDef). u.name) p.threads _ (record t { code = t.code ++ instr.End ∷ [] }) refl);
}

local_kept : (p : ProgramText) (t : ThreadDef) (ts : List SyncThreadText) (bl : Blocks) (later : List (List ℕ)) (w : List ℕ) (ws : List (List ℕ))
    → IsKept (state p (Some t) ts bl) (ahead_with (w ∷ ws) (Some keyword.Local) later)
    → HasNoCause (record { text = p; section = Some t }) later ws keyword.Local
    → IsKept (after_word (state p (Some t) ts bl) later ws (word.Plain keyword.Local)) (ahead_of later)
local_kept p t ts bl later w ws h n = record {
  plain = line_kept p (Some t) later w ws keyword.Local h.plain.text h.plain.section n;
  section = (
    record { labels = h.section.0.labels; code = h.section.0.code },
    AreBlocks-more (length p.classes) (length t.locals) (length (t.locals ++ operand ws 0 ∷ []))
        (length p.objects) bl (omega (arith, length_push t.locals (operand ws 0))) h.section.1,
  );
  threads = h.threads;
  names = h.names;
}

-- another instruction
code_after : (b : SyncBefore) (t : ThreadDef) (later ws : List (List ℕ)) (k : Keyword)
    → b.plain.section ≡ Some t → is_instruction k ≡ true → (k ≡ keyword.End → ⊥)
    → after_word b later ws (word.Plain k) ≡ record b { blocks = with_statement b.blocks (Plain (code_on b t ws k) Nothing) }
code_after b t later ws keyword.Class s i end = absurd (cc i)
code_after b t later ws keyword.Object s i end = absurd (cc i)
code_after b t later ws keyword.Array s i end = absurd (cc i)
code_after b t later ws keyword.Thread s i end = absurd (cc i)
code_after b t later ws keyword.Local s i end = absurd (cc i)
code_after b t later ws keyword.Label s i end = absurd (cc i)
code_after b t later ws keyword.End s i end = absurd (end refl)
code_after b t later ws k s i end = rw s refl

plain_code : (p : ProgramText) (t : ThreadDef) (ws : List (List ℕ)) (k : Keyword) → is_left_out k ≡ false → IsPlain (instruction_on p t [] ws k)
plain_code p t ws keyword.Label h = absurd (cc h)
plain_code p t ws keyword.Enter h = absurd (cc h)
plain_code p t ws keyword.Exit h = absurd (cc h)
plain_code p t ws keyword.Jump h = absurd (cc h)
plain_code p t ws keyword.Jlt h = absurd (cc h)
plain_code p t ws keyword.Jeq h = absurd (cc h)
plain_code p t ws k h = tt

code_goes_on : (p : ProgramText) (t : ThreadDef) (ws : List (List ℕ)) (k : Keyword)
    → is_instruction k ≡ true → (k ≡ keyword.End → ⊥) → ends_here (instruction_on p t [] ws k) ≡ false
code_goes_on p t ws keyword.Class i end = absurd (cc i)
code_goes_on p t ws keyword.Object i end = absurd (cc i)
code_goes_on p t ws keyword.Array i end = absurd (cc i)
code_goes_on p t ws keyword.Thread i end = absurd (cc i)
code_goes_on p t ws keyword.Local i end = absurd (cc i)
code_goes_on p t ws keyword.Label i end = absurd (cc i)
code_goes_on p t ws keyword.End i end = absurd (end refl)
code_goes_on p t ws k i end = refl

code_closed : (later : List (List ℕ)) (k : Keyword) → is_instruction k ≡ true → (k ≡ keyword.End → ⊥)
    → (if ends_section (Some k) then is_end (Some k) else is_closed later) ≡ true → is_closed later ≡ true
code_closed later keyword.Class i end h = absurd (cc i)
code_closed later keyword.Object i end h = absurd (cc i)
code_closed later keyword.Array i end h = absurd (cc i)
code_closed later keyword.Thread i end h = absurd (cc i)
code_closed later keyword.Local i end h = absurd (cc i)
code_closed later keyword.Label i end h = absurd (cc i)
code_closed later keyword.End i end h = absurd (end refl)
code_closed later k i end h = h

code_kept : (p : ProgramText) (t : ThreadDef) (ts : List SyncThreadText) (bl : Blocks) (later : List (List ℕ)) (w : List ℕ) (ws : List (List ℕ)) (k : Keyword)
    → IsKept (state p (Some t) ts bl) (ahead_with (w ∷ ws) (Some k) later) → HasNoCause (record { text = p; section = Some t }) later ws k
    → is_instruction k ≡ true → (k ≡ keyword.End → ⊥) → is_left_out k ≡ false → changes_held (instruction_on p t [] ws k) bl.opened ≡ false
    → IsKept (after_word (state p (Some t) ts bl) later ws (word.Plain k)) (ahead_of later)
code_kept p t ts bl later w ws k h n i end kept held =
    let c = instruction_on p t [] ws k in
    let classes = length p.classes in
    let l = length t.locals in
    let o = length p.objects in
    let plain = plain_code p t ws k kept in
    let there = instruction_fine p t later ws k n.operands in
    let same : instruction_on p t later ws k ≡ c = code_alone p t later [] ws k kept in
    let fine : IsInstruction classes l o [] c = IsInstruction-alone classes l o _ c plain (subst (IsInstruction classes l o _) same there) in
    subst (λ b. IsKept b (ahead_of later)) (sym (code_after (state p (Some t) ts bl) t later ws k refl i end)) (record {
      plain = record {
        text = h.plain.text;
        section = passed p t _ (ahead_of later) h.section.0 h.plain.section (code_closed later k i end h.plain.section.closed);
      };
      section = (h.section.0, AreBlocks-statement classes l o bl c h.section.1 plain fine (code_goes_on p t ws k i end) held);
      threads = h.threads;
      names = h.names;
    })

-- the room for one more instruction, and the locals that it keeps
code_room : (bl : Blocks) (k : Keyword) → is_instruction k ≡ true → passes_code bl (word.Plain k) ≡ false → code_used bl + 1 ≤ most_code
code_room bl k i h = let room : code_used bl + weight (word.Plain k) ≤ most_code = ltb-false _ _ h in rw i at room

code_held : (p : ProgramText) (t : ThreadDef) (ts : List SyncThreadText) (bl : Blocks) (ws : List (List ℕ)) (k : Keyword) → is_instruction k ≡ true
    → is_assigned (state p (Some t) ts bl) ws (word.Plain k) ≡ false → changes_held (instruction_on p t [] ws k) bl.opened ≡ false
code_held p t ts bl ws k i h = rw i at h

-- a line of the plain language in an open section
section_kept : (p : ProgramText) (t : ThreadDef) (ts : List SyncThreadText)
    (bl : Blocks) (later : List (List ℕ)) (w : List ℕ) (ws : List (List ℕ)) (k : Keyword)
    → IsKept (state p (Some t) ts bl) (ahead_with (w ∷ ws) (Some k) later) → HasNoCause (record { text = p; section = Some t }) later ws k
    → HasNoBlockCause (state p (Some t) ts bl) later ws (word.Plain k) → is_left_out k ≡ false
    → IsKept (after_word (state p (Some t) ts bl) later ws (word.Plain k)) (ahead_of later)
section_kept p t ts bl later w ws keyword.Class h n m kept = absurd (cc (h.plain.section.closed))
section_kept p t ts bl later w ws keyword.Object h n m kept = absurd (cc (h.plain.section.closed))
section_kept p t ts bl later w ws keyword.Array h n m kept = absurd (cc (h.plain.section.closed))
section_kept p t ts bl later w ws keyword.Thread h n m kept = absurd (cc (h.plain.section.closed))
section_kept p t ts bl later w ws keyword.Label h n m kept = absurd (cc kept)
section_kept p t ts bl later w ws keyword.Local h n m kept = local_kept p t ts bl later w ws h n
section_kept p t ts bl later w ws keyword.End h n m kept = end_kept p t ts bl later w ws h n (code_room bl keyword.End refl m.code)
section_kept p t ts bl later w ws k h n m kept =
    code_kept p t ts bl later w ws k h n refl (λ e. absurd (cc e)) kept (code_held p t ts bl ws k refl m.assigned)

pub keyword_kept : (p : ProgramText) (s : Option ThreadDef) (ts : List SyncThreadText)
    (bl : Blocks) (later : List (List ℕ)) (w : List ℕ) (ws : List (List ℕ)) (k : Keyword)
    → IsKept (state p s ts bl) (ahead_with (w ∷ ws) (Some k) later) → HasNoCause (record { text = p; section = s }) later ws k
    → HasNoBlockCause (state p s ts bl) later ws (word.Plain k) → is_left_out k ≡ false
    → IsKept (after_word (state p s ts bl) later ws (word.Plain k)) (ahead_of later)
keyword_kept p None ts bl later w ws k h n m kept = outside_kept p ts bl later w ws k _ h n (place k n.place) where
  place : (k : Keyword) → (is_outside k || false) ≡ true → is_outside k ≡ true
  place k e = by_test (is_outside k) e where
    by_test : (b : Bool) → (b || false) ≡ true → b ≡ true
    by_test true e = refl
    by_test false e = absurd (cc e)
keyword_kept p (Some t) ts bl later w ws k h n m kept = section_kept p t ts bl later w ws k h n m kept

-- the locals of a block's line are declared
known_at : (b : Before) (ws : List (List ℕ)) (i : ℕ) → list_any (is_undeclared b [] a_local) ws ≡ false
    → i < length ws → is_among (local_names b.section) (operand ws i) ≡ true
known_at b [] i h lt = absurd (omega arith)
known_at b (w ∷ ws) zero h lt = not-false _ (or_parts (is_undeclared b [] a_local w) _ h).0
known_at b (w ∷ ws) (suc i) h lt = known_at b ws i (or_parts (is_undeclared b [] a_local w) _ h).1 (omega arith)

pub record AreLocals (b : Before) (n : ℕ) (ws : List (List ℕ)) : Type 0 where
  pub count : length ws ≡ n
  pub known : (i : ℕ) → i < n → is_among (local_names b.section) (operand ws i) ≡ true

locals_known : (b : Before) (n : ℕ) (ws : List (List ℕ)) → locals_cause b n ws ≡ None → AreLocals b n ws
locals_known b n ws h =
    let count = cond_none _ _ _ h in
    let name = cond_none _ _ _ count.1 in
    let known = only_none _ _ name.1 in
    let one : length ws ≡ n = same (length ws) n count.0 in
    record { count = one; known = λ i lt. known_at b ws i known (omega arith) } where
      same : (m n : ℕ) → not (m == n) ≡ false → m ≡ n
      same m n e = grind (arith, nat_tests)

local_below : (p : ProgramText) (t : ThreadDef) (n : ℕ) (ws : List (List ℕ)) (i : ℕ) → AreLocals (record { text = p; section = Some t }) n ws → i < n
    → number_among t.locals (operand ws i) < length t.locals
local_below p t n ws i h lt = number_among-lt t.locals (operand ws i) (h.known i lt)

test_fine : (p : ProgramText) (t : ThreadDef) (ws : List (List ℕ))
    → locals_cause (record { text = p; section = Some t }) 2 (tested ws) ≡ None → IsTest (length t.locals) (test_on t ws)
test_fine p t [] h = absurd (cc h)
test_fine p t (x ∷ []) h = absurd (cc h)
test_fine p t (x ∷ sign ∷ []) h = absurd (cc h)
test_fine p t (x ∷ sign ∷ y ∷ z ∷ ws) h = absurd (cc h)
test_fine p t (x ∷ sign ∷ y ∷ []) h = by_sign (is_sign sign) h where
  by_sign : (b : Bool) → locals_cause (record { text = p; section = Some t }) 2 (if b then x ∷ y ∷ [] else []) ≡ None
      → IsTest (length t.locals) (test_on t (x ∷ sign ∷ y ∷ []))
  by_sign false e = absurd (cc e)
  by_sign true e =
      let known = locals_known (record { text = p; section = Some t }) 2 (x ∷ y ∷ []) e in
      (local_below p t 2 (x ∷ y ∷ []) 0 known (omega arith), local_below p t 2 (x ∷ y ∷ []) 1 known (omega arith))

-- a block's line
blocks_kept : (p : ProgramText) (t : ThreadDef) (ts : List SyncThreadText) (bl : Blocks) (later ws : List (List ℕ)) (k : Word) → is_block k ≡ true
    → AreBlocks (length p.classes) (length t.locals) (length p.objects) bl → plain_cause (record { text = p; section = Some t }) later ws k ≡ None
    → HasNoBlockCause (state p (Some t) ts bl) later ws k → AreBlocks (length p.classes) (length t.locals) (length p.objects) (blocks_after t bl ws k)
blocks_kept p t ts bl later ws (word.Plain k) block h plain m = absurd (cc block)
blocks_kept p t ts bl later ws word.Sync block h plain m =
    let known = locals_known (record { text = p; section = Some t }) 1 ws plain in
    AreBlocks-block _ _ _ bl (OfSync (local_at t ws 0)) h (local_below p t 1 ws 0 known (omega arith)) (leb-false _ _ m.deep)
blocks_kept p t ts bl later ws word.If block h plain m = AreBlocks-block _ _ _ bl (OfIf (test_on t ws)) h (test_fine p t ws plain) (leb-false _ _ m.deep)
blocks_kept p t ts bl later ws word.While block h plain m = AreBlocks-block _ _ _ bl (OfWhile (test_on t ws)) h (test_fine p t ws plain) (leb-false _ _ m.deep)
blocks_kept p t ts bl later ws word.Else block h plain m = AreBlocks-else _ _ _ bl.opened bl.statements (not-false _ m.stray) h
blocks_kept p t ts bl later ws word.Done block h plain m = AreBlocks-done _ _ _ bl.opened bl.statements h

block_after : (b : SyncBefore) (t : ThreadDef) (later ws : List (List ℕ)) (k : Word) → b.plain.section ≡ Some t → is_block k ≡ true
    → after_word b later ws k ≡ record b { blocks = blocks_after t b.blocks ws k }
block_after b t later ws (word.Plain k) s block = absurd (cc block)
block_after b t later ws k s block = rw s refl

pub block_kept : (p : ProgramText) (s : Option ThreadDef) (ts : List SyncThreadText) (bl : Blocks)
    (later : List (List ℕ)) (w : List ℕ) (ws : List (List ℕ)) (k : Word) → is_block k ≡ true
    → IsKept (state p s ts bl) (ahead_with (w ∷ ws) None later) → plain_cause (record { text = p; section = s }) later ws k ≡ None
    → HasNoBlockCause (state p s ts bl) later ws k → IsKept (after_word (state p s ts bl) later ws k) (ahead_of later)
block_kept p None ts bl later w ws k block h plain m =
    let none : false ≡ true = block_section (record { text = p; section = None }) later ws k block plain in absurd (cc none)
block_kept p (Some t) ts bl later w ws k block h plain m =
    subst (λ b. IsKept b (ahead_of later)) (sym (block_after (state p (Some t) ts bl) t later ws k refl block)) (record {
      plain = record { text = h.plain.text; section = passed p t _ (ahead_of later) h.section.0 h.plain.section h.plain.section.closed };
      section = (h.section.0, blocks_kept p t ts bl later ws k block h.section.1 plain m);
      threads = h.threads;
      names = h.names;
    })
