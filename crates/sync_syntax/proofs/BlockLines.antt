-- What a line without a cause has, and what it leaves of the section that is open.
use Rattle.std.proofs.Common.{◌≡◌, inl, inr, ℕ, ◌+◌, ◌≤◌, Bool, true, false, not, ◌&&◌, if◌then◌else◌}
use Rattle.std.proofs.Common.{List, [], ◌∷◌, refl, subst, arith, Option, Some, None, ltb-false}
use Rattle.std.specs.Prelude.{◌⊎◌, IsSome, is_some, option_map}
use Rattle.std.specs.List.{AllByRecursion}
use Rattle.std.specs.Str.{bytes_eq}
use Rattle.std.proofs.lemmas.Bool.{not-false}
use Rattle.object_program.specs.Limits.{most_code}
use Rattle.object_program.specs.declared.program.ThreadDef.{ThreadDef}
use Rattle.program_syntax.specs.Text.{words_of}
use Rattle.program_syntax.specs.Line.{spelled_among, keyword_of, is_instruction, is_outside}
use Rattle.program_syntax.specs.Reading.{Before, ends_section, local_at}
use Rattle.program_syntax.specs.Refusal.{keyword_cause, is_in_place, is_closed, is_end}
use Rattle.program_syntax.specs.State.{thread_of, before_of}
use Rattle.program_syntax.specs.declared.keyword.Keyword.{Keyword}
use Rattle.program_syntax.specs.declared.keyword.Keyword.TheVariants as keyword
use Rattle.program_syntax.specs.declared.state.Section.{Section}
use Rattle.program_syntax.specs.declared.error.RefusalCause.{RefusalCause}
use Rattle.program_syntax.proofs.AllowedCause.{no_cause}
use Rattle.sync_syntax.specs.declared.word.Word.{Word}
use Rattle.sync_syntax.specs.declared.word.Word.TheVariants as word
use Rattle.sync_syntax.specs.declared.state.SyncReader.{SyncReader}
use Rattle.sync_syntax.specs.Word.{is_left_out, block_spellings, plain_or, word_of, opens, weight}
use Rattle.sync_syntax.specs.Blocks.{Blocks, OfSync, OfIf, OfWhile, code_used}
use Rattle.sync_syntax.specs.Reading.{SyncBefore, test_on, blocks_after}
use Rattle.sync_syntax.specs.Refusal as refusal
use Rattle.sync_syntax.specs.Refusal.{plain_cause, passes_code, is_stray, is_assigned, is_deep, statement_cause}
use Rattle.sync_syntax.specs.inner.Views.{blocks_of}
use Rattle.sync_syntax.specs.inner.State.{sync_before}
use Rattle.sync_syntax.specs.inner.Steps.{is_kept, is_block, IsStatement, IsOutside, HasOperands, ClosesSection}
use Rattle.sync_syntax.proofs.OpenBlocks.{used-block, used-done, used-else}

-- a test that finds no cause fails, and the next is asked
pub cond_none : {X : Type 0} (t : Bool) (w : X) (o : Option X) → (if t then Some w else o) ≡ None → (t ≡ false) × (o ≡ None)
cond_none true w o h = absurd (cc h)
cond_none false w o h = (refl, h)

pub only_none : {X : Type 0} (t : Bool) (w : X) → (if t then Some w else None) ≡ None → t ≡ false
only_none true w h = absurd (cc h)
only_none false w h = refl

-- a line without a cause by blocks
pub record HasNoBlockCause (b : SyncBefore) (later ws : List (List ℕ)) (k : Word) : Type 0 where
  pub code : passes_code b.blocks k ≡ false
  pub closed : (opens k && not (refusal.is_closed 0 later)) ≡ false
  pub stray : is_stray b.blocks.opened k ≡ false
  pub assigned : is_assigned b ws k ≡ false
  pub deep : is_deep b.blocks.opened k ≡ false

pub no_block_cause : (b : SyncBefore) (later ws : List (List ℕ)) (k : Word) → statement_cause b later ws k ≡ None → HasNoBlockCause b later ws k
no_block_cause b later ws k h =
    let code = cond_none _ _ _ h in
    let closed = cond_none _ _ _ code.1 in
    let stray = cond_none _ _ _ closed.1 in
    let assigned = cond_none _ _ _ stray.1 in
    record { code = code.0; closed = closed.0; stray = stray.0; assigned = assigned.0; deep = only_none _ _ assigned.1 }

pub has_operands : (b : Before) (later ws : List (List ℕ)) (k : Word) → plain_cause b later ws k ≡ None → HasOperands k ws
has_operands b later ws (word.Plain k) h = let n = no_cause b later ws k h in (n.count, n.numbers)
has_operands b later ws k h = tt

-- words of blocks
among-block : (ss : List (List ℕ × Word)) (w : List ℕ) (k : Word)
    → AllByRecursion (λ s. is_block s.1 ≡ true) ss → spelled_among ss w ≡ Some k → is_block k ≡ true
among-block [] w k all h = absurd (cc h)
among-block (s ∷ ss) w k all h = by_test (bytes_eq s.0 w) h (among-block ss w k all.1) where
  by_test : (b : Bool) → (if b then Some s.1 else spelled_among ss w) ≡ Some k → (spelled_among ss w ≡ Some k → is_block k ≡ true) → is_block k ≡ true
  by_test true e ih = let same : s.1 ≡ k = cc in subst (λ x. is_block x ≡ true) same all.0
  by_test false e ih = ih e

block_word : (w : List ℕ) (k : Word) → spelled_among block_spellings w ≡ Some k → is_block k ≡ true
block_word w k h = among-block block_spellings w k (refl, (refl, (refl, (refl, (refl, tt))))) h

kept_block : (k : Word) → is_block k ≡ true → is_kept k ≡ true
kept_block (word.Plain k) h = absurd (cc h)
kept_block k h = refl

plain_kept : (k : Keyword) (l : Word) (b : Bool) → is_left_out k ≡ b
    → (if b then None else Some (word.Plain k)) ≡ Some l → (l ≡ word.Plain k) × (is_left_out k ≡ false)
plain_kept k l true e h = absurd (cc h)
plain_kept k l false e h = (cc, e)

-- a word is one of the plain language that isn't left out, or one of blocks, which the plain language hasn't
pub record IsPlainWord (w : List ℕ) (l : Word) (k : Keyword) : Type 0 where
  pub same : l ≡ word.Plain k
  pub spelled : keyword_of w ≡ Some k
  pub kept : is_left_out k ≡ false

pub record IsBlockWord (w : List ℕ) (l : Word) : Type 0 where
  pub block : is_block l ≡ true
  pub other : keyword_of w ≡ None

pub word_cases : (w : List ℕ) (l : Word) → word_of w ≡ Some l → ((k : Keyword) × IsPlainWord w l k) ⊎ IsBlockWord w l
word_cases w l h = by_keyword (keyword_of w) refl h where
  by_keyword : (o : Option Keyword) → keyword_of w ≡ o → plain_or o (spelled_among block_spellings w) ≡ Some l
      → ((k : Keyword) × IsPlainWord w l k) ⊎ IsBlockWord w l
  by_keyword None e h = inr (record { block = block_word w l h; other = e })
  by_keyword (Some k) e h = let p = plain_kept k l (is_left_out k) refl h in inl (k, record { same = p.0; spelled = e; kept = p.1 })

pub kept_of : (w : List ℕ) (l : Word) → word_of w ≡ Some l → is_kept l ≡ true
kept_of w l h = by_cases (word_cases w l h) where
  by_cases : ((k : Keyword) × IsPlainWord w l k) ⊎ IsBlockWord w l → is_kept l ≡ true
  by_cases (inl p) = rw p.1.same (rw p.1.kept refl)
  by_cases (inr p) = kept_block l p.block

-- a line that stands outside sections doesn't follow on a section that is still to be closed
outside_by : (t : ThreadDef) (later ws : List (List ℕ)) (k : Keyword)
    → (if ends_section (Some k) then is_end (Some k) else is_closed later) ≡ true → is_outside k ≡ false
outside_by t later ws keyword.Class h = absurd (cc h)
outside_by t later ws keyword.Object h = absurd (cc h)
outside_by t later ws keyword.Array h = absurd (cc h)
outside_by t later ws keyword.Thread h = absurd (cc h)
outside_by t later ws k h = refl

block_outside : (s : Option ThreadDef) (k : Word) → is_block k ≡ true → IsOutside s k
block_outside None k h = tt
block_outside (Some t) (word.Plain k) h = absurd (cc h)
block_outside (Some t) k h = tt

pub outside_of : (s : Option ThreadDef) (line : List ℕ) (later : List (List ℕ)) (w : List ℕ) (ws : List (List ℕ)) (l : Word)
    → words_of line ≡ w ∷ ws → word_of w ≡ Some l → ClosesSection s (line ∷ later) → IsOutside s l
outside_of s line later w ws l words e h = by_cases s (word_cases w l e) h where
  by_cases : (s : Option ThreadDef) → ((k : Keyword) × IsPlainWord w l k) ⊎ IsBlockWord w l → ClosesSection s (line ∷ later) → IsOutside s l
  by_cases None p h = tt
  by_cases (Some t) (inl p) h = rw p.1.same (outside_by t later ws p.0 (rw (words, p.1.spelled) at h))
  by_cases (Some t) (inr p) h = block_outside (Some t) l p.block

-- the code of a block's lines
pub used-after : (t : ThreadDef) (b : Blocks) (ws : List (List ℕ)) (k : Word) → is_block k ≡ true → is_stray b.opened k ≡ false
    → code_used (blocks_after t b ws k) ≡ code_used b + weight k
used-after t b ws (word.Plain k) block stray = absurd (cc block)
used-after t b ws word.Sync block stray = used-block b (OfSync (local_at t ws 0))
used-after t b ws word.If block stray = used-block b (OfIf (test_on t ws))
used-after t b ws word.While block stray = used-block b (OfWhile (test_on t ws))
used-after t b ws word.Else block stray = omega (arith, used-else b.opened b.statements (not-false _ stray))
used-after t b ws word.Done block stray = omega (arith, used-done b.opened b.statements)

-- a section is open
mapped-some : (s : Option Section) → is_some (option_map thread_of s) ≡ true → IsSome s
mapped-some None h = absurd (cc h)
mapped-some (Some s) h = refl

pub record HasBlock (r : SyncReader) (k : Word) : Type 0 where
  pub section : IsSome r.plain.section
  pub block : is_block k ≡ true
  pub stray : is_stray (blocks_of r.blocks).opened k ≡ false
  pub room : r.used + weight k ≤ most_code

block_alone : (k : Word) → ((x : Keyword) → k ≡ word.Plain x → ⊥) → is_block k ≡ true
block_alone (word.Plain k) h = absurd (h k refl)
block_alone k h = refl

pub block_section : (b : Before) (later ws : List (List ℕ)) (k : Word) → is_block k ≡ true → plain_cause b later ws k ≡ None → is_some b.section ≡ true
block_section b later ws k block h = by_word k block h where
  by_test : (t : Bool) (w : RefusalCause) (o : Option RefusalCause) → (if t then o else Some w) ≡ None → t ≡ true
  by_test true w o e = refl
  by_test false w o e = absurd (cc e)

  by_word : (k : Word) → is_block k ≡ true → plain_cause b later ws k ≡ None → is_some b.section ≡ true
  by_word (word.Plain k) block h = absurd (cc block)
  by_word k block h = by_test (is_some b.section) _ _ h

room_of : (r : SyncReader) (k : Word) → passes_code (blocks_of r.blocks) k ≡ false → r.used + weight k ≤ most_code
room_of r k h = rw r.used_is (ltb-false _ _ h)

pub block_has : (r : SyncReader) (later ws : List (List ℕ)) (k : Word) → ((x : Keyword) → k ≡ word.Plain x → ⊥)
    → plain_cause (before_of r.plain) later ws k ≡ None → statement_cause (sync_before r) later ws k ≡ None → HasBlock r k
block_has r later ws k other plain clean =
    let block = block_alone k other in
    let h = no_block_cause (sync_before r) later ws k clean in
    record {
      section = mapped-some r.plain.section (block_section (before_of r.plain) later ws k block plain);
      block = block;
      stray = h.stray;
      room = room_of r k h.code;
    }

pub keyword_room : (r : SyncReader) (later ws : List (List ℕ)) (k : Word) → statement_cause (sync_before r) later ws k ≡ None → r.used + weight k ≤ most_code
keyword_room r later ws k clean = room_of r k (no_block_cause (sync_before r) later ws k clean).code

-- a line of a section that is neither a local nor an `end` is another instruction
pub statement_of : (k : Keyword) → is_outside k ≡ false → is_left_out k ≡ false → (k ≡ keyword.Local → ⊥) → is_instruction k ≡ true
statement_of keyword.Class outside kept local = absurd (cc outside)
statement_of keyword.Object outside kept local = absurd (cc outside)
statement_of keyword.Array outside kept local = absurd (cc outside)
statement_of keyword.Thread outside kept local = absurd (cc outside)
statement_of keyword.Local outside kept local = absurd (local refl)
statement_of keyword.Label outside kept local = absurd (cc kept)
statement_of k outside kept local = refl

inside_section : (b : Before) (k : Keyword) → is_outside k ≡ false → is_in_place b k ≡ true → is_some b.section ≡ true
inside_section b k outside place = rw outside at place

pub record HasKeyword (r : SyncReader) (ws : List (List ℕ)) (k : Keyword) : Type 0 where
  pub section : IsSome r.plain.section
  pub instruction : IsStatement k
  pub operands : HasOperands (word.Plain k) ws
  pub room : r.used + 1 ≤ most_code

pub keyword_has : (r : SyncReader) (later ws : List (List ℕ)) (k : Keyword) → keyword_cause (before_of r.plain) later ws (Some k) ≡ None → is_outside k ≡ false
    → is_left_out k ≡ false → (k ≡ keyword.Local → ⊥) → (k ≡ keyword.End → ⊥) → r.used + weight (word.Plain k) ≤ most_code → HasKeyword r ws k
keyword_has r later ws k clean outside kept local end room =
    let n = no_cause (before_of r.plain) later ws k clean in
    let i = statement_of k outside kept local in
    record {
      section = mapped-some r.plain.section (inside_section (before_of r.plain) k outside n.place);
      instruction = record { instruction = i; goes_on = end };
      operands = (n.count, n.numbers);
      room = rw i at room;
    }

-- a word that is kept
pub plain_left : (k : Keyword) → is_kept (word.Plain k) ≡ true → is_left_out k ≡ false
plain_left k h = by_test (is_left_out k) h where
  by_test : (b : Bool) → not b ≡ true → b ≡ false
  by_test true e = absurd (cc e)
  by_test false e = refl
