-- Blocks as the code has them.
use Rattle.std.proofs.Common.{◌≡◌, ◌+◌, Bool, true, false, ◌||◌, List, [], ◌∷◌, ◌++◌, map, reverse, refl, sym, ap, ◌∙◌, arith}
use Rattle.std.specs.List.{list_any}
use Rattle.std.proofs.lemmas.List.{reverse-append}
use Rattle.std.proofs.lemmas.List.Folds.{list_any-append}
use Rattle.object_program.specs.declared.program.Code.{Code}
use Rattle.sync_source.specs.declared.source.Statement.{Statement}
use Rattle.sync_source.specs.declared.source.Statement.TheVariants as statement
use Rattle.sync_source.specs.Source.{Statements, Nothing, Plain, Sync, If, While}
use Rattle.sync_source.specs.BlockView.{before, all_of}
use Rattle.sync_source.specs.Compiled.{size}
use Rattle.sync_syntax.specs.declared.block.OpenBlock as block
use Rattle.sync_syntax.specs.Blocks.{Blocks, OpenBlock, Opener, OfSync, OfIf, OfElse, OfWhile, joined, closed}
use Rattle.sync_syntax.specs.Blocks.{with_statement, with_block, without_block, with_else, in_else, changes_local}
use Rattle.sync_syntax.specs.Blocks.{changes_held, opened_size, opener_size, code_used, is_if, takes_else}
use Rattle.sync_syntax.specs.inner.Views.{opener_of, block_of, opened_of}

-- a statement stands before the others
pub before-joined : (s : Statement) (rest last : Statements) → before s (joined rest last) ≡ joined (before s rest) last
before-joined (statement.Plain c) rest last = refl
before-joined _ rest last = refl

-- one more statement
pub all_of-push : (ss : List Statement) (s : Statement) → all_of (ss ++ s ∷ []) ≡ joined (all_of ss) (before s Nothing)
all_of-push [] s = refl
all_of-push (x ∷ xs) s = ap (before x) (all_of-push xs s) ∙ before-joined x (all_of xs) (before s Nothing)

-- some block passes a test, whichever way they are gone through
or_swap : (a b : Bool) → (a || b) ≡ (b || a)
or_swap true true = refl
or_swap true false = refl
or_swap false true = refl
or_swap false false = refl

pub any-reverse : {X : Type 0} (p : X → Bool) (xs : List X) → list_any p (reverse xs) ≡ list_any p xs
any-reverse p [] = refl
any-reverse p (x ∷ xs) =
    ap (list_any p) (reverse-append (x ∷ []) xs) ∙ list_any-append p (reverse xs) (x ∷ []) ∙ ap (λ b. b || list_any p (x ∷ [])) (any-reverse p xs)
    ∙ or_swap (list_any p xs) (list_any p (x ∷ [])) ∙ last (p x) (list_any p xs) where
      last : (a b : Bool) → ((a || false) || b) ≡ (a || b)
      last true b = refl
      last false b = refl

pub any-map : {X Y : Type 0} (p : Y → Bool) (f : X → Y) (xs : List X) → list_any p (map f xs) ≡ list_any (λ x. p (f x)) xs
any-map p f [] = refl
any-map p f (x ∷ xs) = ap (λ b. p (f x) || b) (any-map p f xs)

pub changes-opened : (c : Code) (bs : List block.OpenBlock) → changes_held c (opened_of bs) ≡ list_any (λ b. changes_local c (opener_of b.opener)) bs
changes-opened c bs = any-map (λ (b : OpenBlock). changes_local c b.opener) block_of (reverse bs)
    ∙ any-reverse (λ (b : block.OpenBlock). changes_local c (opener_of b.opener)) bs

-- sizes
pub size-joined : (a b : Statements) → size (joined a b) ≡ size a + size b
size-joined Nothing b = omega arith
size-joined (Plain c rest) b = omega (arith, size-joined rest b)
size-joined (Sync x body rest) b = omega (arith, size-joined rest b)
size-joined (If t body other rest) b = omega (arith, size-joined rest b)
size-joined (While t body rest) b = omega (arith, size-joined rest b)

size-closed : (o : Opener) (body : Statements) → size (closed o body) ≡ opener_size o + size body
size-closed (OfSync x) body = omega arith
size-closed _ body = omega arith

pub used-statement : (b : Blocks) (c : Code) → code_used (with_statement b (Plain c Nothing)) ≡ code_used b + 1
used-statement b c = omega (arith, size-joined b.statements (Plain c Nothing))

pub used-block : (b : Blocks) (o : Opener) → code_used (with_block b o) ≡ code_used b + opener_size o
used-block b o = omega arith

pub used-done : (bs : List OpenBlock) (body : Statements) → code_used (without_block bs body) ≡ size body + opened_size bs
used-done [] body = omega arith
used-done (b ∷ bs) body = omega (arith, size-joined b.earlier (closed b.opener body), size-closed b.opener body)

pub used-else : (bs : List OpenBlock) (body : Statements) → takes_else bs ≡ true → code_used (with_else bs body) ≡ size body + opened_size bs
used-else [] body h = absurd (cc h)
used-else (b ∷ bs) body h = by_opener b.opener h where
  by_opener : (o : Opener) → is_if o ≡ true → code_used (in_else o b.earlier bs body) ≡ size body + (opener_size o + size b.earlier + opened_size bs)
  by_opener (OfSync x) h = absurd (cc h)
  by_opener (OfIf t) h = omega arith
  by_opener (OfElse t held) h = absurd (cc h)
  by_opener (OfWhile t) h = absurd (cc h)

-- the innermost block is the last
pub opened-push : (bs : List block.OpenBlock) (b : block.OpenBlock) → opened_of (bs ++ b ∷ []) ≡ block_of b ∷ opened_of bs
opened-push bs b = ap (map block_of) (reverse-append bs (b ∷ []))

-- one more statement of the innermost block
pub statement-added : (bs : List OpenBlock) (old new : List Statement) (s : Statement) → new ≡ old ++ s ∷ []
    → record { opened = bs; statements = all_of new } ≡ with_statement (record { opened = bs; statements = all_of old }) (before s Nothing)
statement-added bs old new s e =
    let put : Statements → Blocks = λ b. record { opened = bs; statements = b } in
    ap (λ xs. put (all_of xs)) e ∙ ap put (all_of-push old s)

-- the innermost block is closed
pub block-closed : (old rest : List block.OpenBlock) (b : block.OpenBlock) (earlier : List Statement) (s : Statement) (body : Statements) → old ≡ rest ++ b ∷ []
    → earlier ≡ b.earlier.items ++ s ∷ [] → before s Nothing ≡ closed (opener_of b.opener) body
    → record { opened = opened_of rest; statements = all_of earlier } ≡ without_block (opened_of old) body
block-closed old rest b earlier s body e f g =
    let put : Statements → Blocks = λ c. record { opened = opened_of rest; statements = c } in
    ap (λ xs. put (all_of xs)) f ∙ ap put (all_of-push b.earlier.items s) ∙ ap (λ c. put (joined (all_of b.earlier.items) c)) g
    ∙ sym (ap (λ bs. without_block bs body) (ap opened_of e ∙ opened-push rest b))
