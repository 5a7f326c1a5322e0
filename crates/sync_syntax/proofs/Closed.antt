-- The blocks that are open are closed before their section ends.
use Rattle.std.proofs.Common.{◌≡◌, ℕ, zero, suc, ◌+◌, ◌-◌, Bool, true, false, not, ◌&&◌, ◌||◌, ◌==◌, if◌then◌else◌}
use Rattle.std.proofs.Common.{List, [], ◌∷◌, length, refl, sym, ap, ◌∙◌, subst, arith, Option, Some, None}
use Rattle.std.specs.Prelude.{is_none, is_some, slice_get}
use Rattle.std.proofs.lemmas.Bool.Decides.{nat_tests}
use Rattle.object_program.specs.declared.program.ThreadDef.{ThreadDef}
use Rattle.program_syntax.specs.Text.{words_of}
use Rattle.program_syntax.specs.Line.{is_outside}
use Rattle.program_syntax.specs.Reading.{after_keyword}
use Rattle.program_syntax.proofs.AllowedCause.{no_cause}
use Rattle.program_syntax.specs.declared.keyword.Keyword.TheVariants as keyword
use Rattle.sync_syntax.specs.declared.error.SyncRefusalCause.{SyncRefusalCause}
use Rattle.sync_syntax.specs.declared.word.Word.{Word}
use Rattle.sync_syntax.specs.declared.word.Word.TheVariants as word
use Rattle.sync_syntax.specs.Word.{word_of, first_word, ends, opens}
use Rattle.sync_syntax.specs.Blocks.{Opener, OfSync, OfIf, OfElse, OfWhile, OpenBlock, Blocks, no_blocks, with_else, in_else, without_block}
use Rattle.sync_syntax.specs.Reading.{SyncBefore, nothing_read, blocks_after, in_section, after_word, after_words, after_line}
use Rattle.sync_syntax.specs.Refusal.{plain_cause, word_cause, words_cause, line_cause, inner_after, is_done, is_closed, read_first}
use Rattle.sync_syntax.proofs.BlockLines.{HasNoBlockCause, no_block_cause, block_section}
use Rattle.sync_syntax.proofs.Allowed.{cause_none, cond_clean}

-- these lines close so many open blocks, before their section ends
abbrev AreClosed : ℕ → List (List ℕ) → Type 0
AreClosed zero lines = Unit {0}
AreClosed (suc n) lines = is_closed n lines ≡ true

-- the same where the first of the lines has this word
abbrev pub closed_at : ℕ → Option Word → List (List ℕ) → Bool
closed_at n k later = if ends k then false else if (n == 0) && is_done k then true else is_closed (inner_after n k) later

abbrev AreClosedAt : ℕ → Option Word → List (List ℕ) → Type 0
AreClosedAt zero k later = Unit {0}
AreClosedAt (suc n) k later = closed_at n k later ≡ true

-- a line that neither opens nor closes a block
pub and_false : (b : Bool) → (b && false) ≡ false
and_false true = refl
and_false false = refl

same_depth : (n : ℕ) (k : Option Word) (later : List (List ℕ)) → is_done k ≡ false → inner_after n k ≡ n → closed_at n k later ≡ true → is_closed n later ≡ true
same_depth n k later done inner h = by_end (ends k) h where
  by_end : (e : Bool) → (if e then false else if (n == 0) && is_done k then true else is_closed (inner_after n k) later) ≡ true → is_closed n later ≡ true
  by_end true h = absurd (cc h)
  by_end false h = rw (done, and_false (n == 0), inner) at h

kept_depth : (n : ℕ) (k : Option Word) (later : List (List ℕ)) → is_done k ≡ false → ((m : ℕ) → inner_after m k ≡ m) → AreClosedAt n k later → AreClosed n later
kept_depth zero k later done inner h = tt
kept_depth (suc n) k later done inner h = same_depth n k later done (inner n) h

-- one more block
deeper : (n : ℕ) (k : Word) (later : List (List ℕ)) → is_closed 0 later ≡ true
    → ((m : ℕ) → closed_at m (Some k) later ≡ is_closed (m + 1) later) → AreClosedAt n (Some k) later
    → AreClosed (suc n) later
deeper zero k later first step h = first
deeper (suc n) k later first step h = let e : n + 1 ≡ suc n = omega arith in subst (λ m. is_closed m later ≡ true) e (sym (step n) ∙ h)

-- one block less
shallower : (n : ℕ) (later : List (List ℕ)) → AreClosedAt (suc n) (Some word.Done) later → AreClosed n later
shallower zero later h = tt
shallower (suc n) later h =
    let e : suc n - 1 ≡ n = omega arith in
    let positive : (suc n == 0) ≡ false = grind (arith, nat_tests) in
    subst (λ m. is_closed m later ≡ true) e (rw positive at h)

else_depth : (bs : List OpenBlock) (body : _) → length (with_else bs body).opened ≡ length bs
else_depth [] body = refl
else_depth (b ∷ bs) body = by_opener b.opener where
  by_opener : (o : Opener) → length (in_else o b.earlier bs body).opened ≡ length (b ∷ bs)
  by_opener (OfSync x) = refl
  by_opener (OfIf t) = refl
  by_opener (OfElse t held) = refl
  by_opener (OfWhile t) = refl

opened_first : (t : Bool) → (true && not t) ≡ false → t ≡ true
opened_first true h = refl
opened_first false h = absurd (cc h)

blocks_closed : (t : ThreadDef) (b : Blocks) (later ws : List (List ℕ)) (k : Word) → (opens k && not (is_closed 0 later)) ≡ false
    → AreClosedAt (length b.opened) (Some k) later → AreClosed (length (blocks_after t b ws k).opened) later
blocks_closed t b later ws word.Sync first h = deeper (length b.opened) word.Sync later
    (opened_first _ first) (λ m. ap (λ c. if c then true else is_closed (m + 1) later) (and_false (m == 0))) h
blocks_closed t b later ws word.If first h =
    deeper (length b.opened) word.If later (opened_first _ first) (λ m. ap (λ c. if c then true else is_closed (m + 1) later) (and_false (m == 0))) h
blocks_closed t b later ws word.While first h = deeper (length b.opened) word.While later
    (opened_first _ first) (λ m. ap (λ c. if c then true else is_closed (m + 1) later) (and_false (m == 0))) h
blocks_closed t b later ws word.Else first h =
    subst (λ n. AreClosed n later) (sym (else_depth b.opened b.statements)) (kept_depth (length b.opened) (Some word.Else) later refl (λ m. refl) h)
blocks_closed t b later ws word.Done first h = by_opened b.opened h where
  by_opened : (bs : List OpenBlock) → AreClosedAt (length bs) (Some word.Done) later → AreClosed (length (without_block bs b.statements).opened) later
  by_opened [] h = tt
  by_opened (x ∷ xs) h = shallower (length xs) later h
blocks_closed t b later ws (word.Plain k) first h = kept_depth (length b.opened) (Some (word.Plain k)) later refl (λ m. refl) h

section_closed : (b : SyncBefore) (s : Option ThreadDef) (later ws : List (List ℕ)) (k : Word) → is_some s ≡ true → (opens k && not (is_closed 0 later)) ≡ false
    → AreClosedAt (length b.blocks.opened) (Some k) later → AreClosed (length (in_section b s later ws k).blocks.opened) later
section_closed b None later ws k some first h = absurd (cc some)
section_closed b (Some t) later ws (word.Plain keyword.End) some first h = tt
section_closed b (Some t) later ws (word.Plain k) some first h = kept_depth (length b.blocks.opened) (Some (word.Plain k)) later refl (λ m. refl) h
section_closed b (Some t) later ws k some first h = blocks_closed t b.blocks later ws k first h

word_closed : (b : SyncBefore) (later ws : List (List ℕ)) (k : Word) → plain_cause b.plain later ws k ≡ None → HasNoBlockCause b later ws k
    → AreClosedAt (length b.blocks.opened) (Some k) later → AreClosed (length (after_word b later ws k).blocks.opened) later
word_closed b later ws (word.Plain k) plain m h = by_outside (is_outside k) (no_cause b.plain later ws k plain).place where
  by_outside : (o : Bool) → (o || is_some b.plain.section) ≡ true
      → AreClosed (length (if o then record b {
        plain = after_keyword b.plain later ws k;
        blocks = no_blocks;
      } else in_section b b.plain.section later ws (word.Plain k)).blocks.opened) later
  by_outside true place = tt
  by_outside false place = section_closed b b.plain.section later ws (word.Plain k) place m.closed h
word_closed b later ws word.Sync plain m h =
    section_closed b b.plain.section later ws word.Sync (block_section b.plain later ws word.Sync refl plain) m.closed h
word_closed b later ws word.If plain m h = section_closed b b.plain.section later ws word.If (block_section b.plain later ws word.If refl plain) m.closed h
word_closed b later ws word.While plain m h =
    section_closed b b.plain.section later ws word.While (block_section b.plain later ws word.While refl plain) m.closed h
word_closed b later ws word.Else plain m h =
    section_closed b b.plain.section later ws word.Else (block_section b.plain later ws word.Else refl plain) m.closed h
word_closed b later ws word.Done plain m h =
    section_closed b b.plain.section later ws word.Done (block_section b.plain later ws word.Done refl plain) m.closed h

words_closed : (b : SyncBefore) (later words : List (List ℕ)) → words_cause b later words ≡ None → AreClosedAt (length b.blocks.opened) (first_word words) later
    → AreClosed (length (after_words b later words (first_word words)).blocks.opened) later
words_closed b later [] clean h = kept_depth (length b.blocks.opened) None later refl (λ m. refl) h
words_closed b later (w ∷ ws) clean h = by_word (word_of w) clean h where
  by_word : (o : Option Word) → word_cause b later ws o ≡ None → AreClosedAt (length b.blocks.opened) o later
      → AreClosed (length (after_words b later (w ∷ ws) o).blocks.opened) later
  by_word None clean h = absurd (cc clean)
  by_word (Some k) clean h = let n = cause_none _ _ clean in word_closed b later ws k n.0 (no_block_cause b later ws k n.1) h

at_line : (n : ℕ) (line : List ℕ) (later : List (List ℕ)) → AreClosed n (line ∷ later) → AreClosedAt n (first_word (words_of line)) later
at_line zero line later h = tt
at_line (suc n) line later h = h

line_closed : (b : SyncBefore) (later : List (List ℕ)) (line : List ℕ) → line_cause b later line ≡ None → AreClosed (length b.blocks.opened) (line ∷ later)
    → AreClosed (length (after_line b later line).blocks.opened) later
line_closed b later line clean h = words_closed b later (words_of line) (cond_clean _ _ _ clean) (at_line (length b.blocks.opened) line later h)

-- at an `end` none is open
none_open : (bs : List OpenBlock) (k : Option Word) (later : List (List ℕ)) → k ≡ Some (word.Plain keyword.End) → AreClosedAt (length bs) k later → bs ≡ []
none_open [] k later e h = refl
none_open (b ∷ bs) k later e h = absurd (cc (rw e at h))

pub none_open_from : (n : ℕ) (lines : List (List ℕ)) (b c : SyncBefore) (line : List ℕ)
    → AreClosed (length b.blocks.opened) lines → read_first n b lines ≡ Some c
    → slice_get lines n ≡ Some line → first_word (words_of line) ≡ Some (word.Plain keyword.End) → c.blocks.opened ≡ []
none_open_from n [] b c line h read at end = absurd (cc at)
none_open_from zero (l ∷ ls) b c line h read at end =
    let same : b ≡ c = cc in
    let here : l ≡ line = cc in
    let last : first_word (words_of l) ≡ Some (word.Plain keyword.End) = ap (λ x. first_word (words_of x)) here ∙ end in
    subst (λ x. x.blocks.opened ≡ []) same (none_open b.blocks.opened (first_word (words_of l)) ls last (at_line (length b.blocks.opened) l ls h))
none_open_from (suc n) (l ∷ ls) b c line h read at end = by_cause (line_cause b ls l) refl read
    (λ clean more. none_open_from n ls (after_line b ls l) c line (line_closed b ls l clean h) more at end) where
      by_cause : (o : Option SyncRefusalCause) → line_cause b ls l ≡ o → (if is_none o then read_first n (after_line b ls l) ls else None) ≡ Some c
          → (line_cause b ls l ≡ None → read_first n (after_line b ls l) ls ≡ Some c → c.blocks.opened ≡ []) → c.blocks.opened ≡ []
      by_cause None e more go_on = go_on e more
      by_cause (Some why) e more go_on = absurd (cc more)

pub none_open_at_end : (lines : List (List ℕ)) (n : ℕ) (b : SyncBefore) (line : List ℕ)
    → read_first n nothing_read lines ≡ Some b → slice_get lines n ≡ Some line
    → first_word (words_of line) ≡ Some (word.Plain keyword.End) → b.blocks.opened ≡ []
none_open_at_end lines n b line = none_open_from n lines nothing_read b line tt
