-- Statements that a thread with blocks may have, and the blocks of an open section.
use Rattle.std.proofs.Common.{◌≡◌, ℕ, ◌+◌, ◌<◌, ◌≤◌, max, true, false, List, [], ◌∷◌, ◌++◌, length, refl, subst, arith}
use Rattle.std.specs.List.{AllByRecursion}
use Rattle.std.proofs.lemmas.Bool.{or_parts}
use Rattle.object_program.specs.Valid.{IsInstruction}
use Rattle.object_program.specs.declared.program.LabelDef.{LabelDef}
use Rattle.object_program.specs.declared.program.Code.{Code}
use Rattle.object_program.specs.declared.program.Code.TheVariants as instr
use Rattle.program_syntax.proofs.AllowedParts.{IsInstruction-more}
use Rattle.sync_source.specs.declared.source.Test.{Test}
use Rattle.sync_source.specs.Source.{Statements, Nothing, Plain, Sync, If, While}
use Rattle.sync_source.specs.Valid.{IsPlain, IsTest, AreStatements, is_end, HasNoEnd, EndsWell, assigns, KeepsLocals, depth, most_depth}
use Rattle.sync_syntax.specs.Blocks.{Opener, OfSync, OfIf, OfElse, OfWhile, OpenBlock, Blocks, joined, closed, with_statement}
use Rattle.sync_syntax.specs.Blocks.{with_block, with_else, in_else, without_block, takes_else, is_if, changes_local, changes_held}

max_least : (a b m : ℕ) → a ≤ m → b ≤ m → max a b ≤ m
max_least a b m h k = omega arith

max_left : (a b m : ℕ) → max a b ≤ m → a ≤ m
max_left a b m h = omega arith

max_right : (a b m : ℕ) → max a b ≤ m → b ≤ m
max_right a b m h = omega arith

-- statements that may stand in n blocks, where these locals are those of the `sync`s among them, which are no thread's last
pub record IsGood (classes locals objects : ℕ) (syncs : List ℕ) (n : ℕ) (s : Statements) : Type 0 where
  pub fine : AreStatements classes locals objects s
  pub goes_on : HasNoEnd s
  pub keeps : KeepsLocals syncs s
  pub nested : depth s + n ≤ most_depth

-- statements, and then others
pub AreStatements-joined : (classes l o : ℕ) (a b : Statements) → AreStatements classes l o a
    → AreStatements classes l o b → AreStatements classes l o (joined a b)
AreStatements-joined classes l o Nothing b h k = k
AreStatements-joined classes l o (Plain c rest) b h k = (h.0, h.1, AreStatements-joined classes l o rest b h.2 k)
AreStatements-joined classes l o (Sync x body rest) b h k = (h.0, h.1, AreStatements-joined classes l o rest b h.2 k)
AreStatements-joined classes l o (If t body other rest) b h k = (h.0, h.1, h.2, AreStatements-joined classes l o rest b h.3 k)
AreStatements-joined classes l o (While t body rest) b h k = (h.0, h.1, AreStatements-joined classes l o rest b h.2 k)

HasNoEnd-joined : (a b : Statements) → HasNoEnd a → HasNoEnd b → HasNoEnd (joined a b)
HasNoEnd-joined Nothing b h k = k
HasNoEnd-joined (Plain c rest) b h k = (h.0, HasNoEnd-joined rest b h.1 k)
HasNoEnd-joined (Sync x body rest) b h k = (h.0, HasNoEnd-joined rest b h.1 k)
HasNoEnd-joined (If t body other rest) b h k = (h.0, h.1, HasNoEnd-joined rest b h.2 k)
HasNoEnd-joined (While t body rest) b h k = (h.0, HasNoEnd-joined rest b h.1 k)

pub KeepsLocals-joined : (xs : List ℕ) (a b : Statements) → KeepsLocals xs a → KeepsLocals xs b → KeepsLocals xs (joined a b)
KeepsLocals-joined xs Nothing b h k = k
KeepsLocals-joined xs (Plain c rest) b h k = (h.0, KeepsLocals-joined xs rest b h.1 k)
KeepsLocals-joined xs (Sync x body rest) b h k = (h.0, KeepsLocals-joined xs rest b h.1 k)
KeepsLocals-joined xs (If t body other rest) b h k = (h.0, h.1, KeepsLocals-joined xs rest b h.2 k)
KeepsLocals-joined xs (While t body rest) b h k = (h.0, KeepsLocals-joined xs rest b h.1 k)

pub depth-joined : (a b : Statements) (m : ℕ) → depth a ≤ m → depth b ≤ m → depth (joined a b) ≤ m
depth-joined Nothing b m h k = k
depth-joined (Plain c rest) b m h k = depth-joined rest b m h k
depth-joined (Sync x body rest) b m h k =
    max_least (depth body + 1) _ m (max_left _ (depth rest) m h) (depth-joined rest b m (max_right (depth body + 1) _ m h) k)
depth-joined (If t body other rest) b m h k =
    max_least (max (depth body) (depth other) + 1) _ m (max_left _ (depth rest) m h)
    (depth-joined rest b m (max_right (max (depth body) (depth other) + 1) _ m h) k)
depth-joined (While t body rest) b m h k =
    max_least (depth body + 1) _ m (max_left _ (depth rest) m h) (depth-joined rest b m (max_right (depth body + 1) _ m h) k)

depth_sum : (a b : Statements) (n m : ℕ) → depth a + n ≤ m → depth b + n ≤ m → depth (joined a b) + n ≤ m
depth_sum a b n m h k = let both : (d : ℕ) → depth a ≤ d → depth b ≤ d → depth (joined a b) ≤ d = depth-joined a b in sum _ _ _ both h k where
  sum : (x y z : ℕ) → ((d : ℕ) → x ≤ d → y ≤ d → z ≤ d) → x + n ≤ m → y + n ≤ m → z + n ≤ m
  sum x y z f h k = let e = f (max x y) (omega arith) (omega arith) in omega arith

pub IsGood-joined : (classes l o : ℕ) (xs : List ℕ) (n : ℕ) (a b : Statements)
    → IsGood classes l o xs n a → IsGood classes l o xs n b → IsGood classes l o xs n (joined a b)
IsGood-joined classes l o xs n a b g h = record {
  fine = AreStatements-joined classes l o a b g.fine h.fine;
  goes_on = HasNoEnd-joined a b g.goes_on h.goes_on;
  keeps = KeepsLocals-joined xs a b g.keeps h.keeps;
  nested = depth_sum a b n most_depth g.nested h.nested;
}

-- more locals and more declarations
IsTest-more : (l m : ℕ) (t : Test) → l ≤ m → IsTest l t → IsTest m t
IsTest-more l m t lm h = (omega arith, omega arith)

pub AreStatements-more : (k n l m o p : ℕ) → k ≤ n → l ≤ m → o ≤ p → (s : Statements) → AreStatements k l o s → AreStatements n m p s
AreStatements-more k n l m o p kn lm op Nothing h = tt
AreStatements-more k n l m o p kn lm op (Plain c rest) h =
    (h.0, IsInstruction-more k n l m o p [] kn lm op c h.1, AreStatements-more k n l m o p kn lm op rest h.2)
AreStatements-more k n l m o p kn lm op (Sync x body rest) h =
    (omega arith, AreStatements-more k n l m o p kn lm op body h.1, AreStatements-more k n l m o p kn lm op rest h.2)
AreStatements-more k n l m o p kn lm op (If t body other rest) h = (
  IsTest-more l m t lm h.0,
  AreStatements-more k n l m o p kn lm op body h.1,
  AreStatements-more k n l m o p kn lm op other h.2,
  AreStatements-more k n l m o p kn lm op rest h.3,
)
AreStatements-more k n l m o p kn lm op (While t body rest) h =
    (IsTest-more l m t lm h.0, AreStatements-more k n l m o p kn lm op body h.1, AreStatements-more k n l m o p kn lm op rest h.2)

IsGood-more : (classes l m o : ℕ) (xs : List ℕ) (n : ℕ) (s : Statements) → l ≤ m → IsGood classes l o xs n s → IsGood classes m o xs n s
IsGood-more classes l m o xs n s lm h =
    record {
      fine = AreStatements-more classes classes l m o o (omega arith) lm (omega arith) s h.fine;
      goes_on = h.goes_on;
      keeps = h.keeps;
      nested = h.nested;
    }

-- the local of a `sync` that is open, before others
abbrev pub with_sync : Opener → List ℕ → List ℕ
with_sync (OfSync x) xs = x ∷ xs
with_sync o xs = xs

abbrev pub open_syncs : List OpenBlock → List ℕ
open_syncs [] = []
open_syncs (b ∷ bs) = with_sync b.opener (open_syncs bs)

-- an opener of a block that stands in n others
abbrev pub IsOpener : ℕ → ℕ → ℕ → List ℕ → ℕ → Opener → Type 0
IsOpener classes l o xs n (OfSync x) = x < l
IsOpener classes l o xs n (OfIf t) = IsTest l t
IsOpener classes l o xs n (OfElse t held) = IsTest l t × IsGood classes l o xs (n + 1) held
IsOpener classes l o xs n (OfWhile t) = IsTest l t

abbrev pub AreOpened : ℕ → ℕ → ℕ → List OpenBlock → Type 0
AreOpened classes l o [] = Unit {0}
AreOpened classes l o (b ∷ bs) =
    IsOpener classes l o (open_syncs bs) (length bs) b.opener × IsGood classes l o (open_syncs bs) (length bs) b.earlier × AreOpened classes l o bs

-- the blocks of an open section
pub record AreBlocks (classes locals objects : ℕ) (b : Blocks) : Type 0 where
  pub opened : AreOpened classes locals objects b.opened
  pub statements : IsGood classes locals objects (open_syncs b.opened) (length b.opened) b.statements

IsOpener-more : (classes l m o : ℕ) (xs : List ℕ) (n : ℕ) (k : Opener) → l ≤ m → IsOpener classes l o xs n k → IsOpener classes m o xs n k
IsOpener-more classes l m o xs n (OfSync x) lm h = omega arith
IsOpener-more classes l m o xs n (OfIf t) lm h = IsTest-more l m t lm h
IsOpener-more classes l m o xs n (OfElse t held) lm h = (IsTest-more l m t lm h.0, IsGood-more classes l m o xs (n + 1) held lm h.1)
IsOpener-more classes l m o xs n (OfWhile t) lm h = IsTest-more l m t lm h

AreOpened-more : (classes l m o : ℕ) (bs : List OpenBlock) → l ≤ m → AreOpened classes l o bs → AreOpened classes m o bs
AreOpened-more classes l m o [] lm h = tt
AreOpened-more classes l m o (b ∷ bs) lm h =
    (IsOpener-more classes l m o _ _ b.opener lm h.0, IsGood-more classes l m o _ _ b.earlier lm h.1, AreOpened-more classes l m o bs lm h.2)

pub AreBlocks-more : (classes l m o : ℕ) (b : Blocks) → l ≤ m → AreBlocks classes l o b → AreBlocks classes m o b
AreBlocks-more classes l m o b lm h =
    record { opened = AreOpened-more classes l m o b.opened lm h.opened; statements = IsGood-more classes l m o _ _ b.statements lm h.statements }

-- no statements
pub nothing_good : (classes l o : ℕ) (xs : List ℕ) (n : ℕ) → n ≤ most_depth → IsGood classes l o xs n Nothing
nothing_good classes l o xs n h = record { fine = tt; goes_on = tt; keeps = tt; nested = omega arith }

pub AreBlocks-none : (classes l o : ℕ) → AreBlocks classes l o (record { opened = []; statements = Nothing })
AreBlocks-none classes l o = record { opened = tt; statements = nothing_good classes l o [] 0 (omega arith) }

-- one more instruction
keeps_held : (c : Code) (bs : List OpenBlock) → changes_held c bs ≡ false → AllByRecursion (λ x. assigns x c ≡ false) (open_syncs bs)
keeps_held c [] h = tt
keeps_held c (b ∷ bs) h =
    let parts = or_parts (changes_local c b.opener) _ h in by_opener b.opener (open_syncs bs) parts.0 (keeps_held c bs parts.1) where
      by_opener : (o : Opener) (xs : List ℕ) → changes_local c o ≡ false
          → AllByRecursion (λ x. assigns x c ≡ false) xs → AllByRecursion (λ x. assigns x c ≡ false) (with_sync o xs)
      by_opener (OfSync x) xs h all = (h, all)
      by_opener (OfIf t) xs h all = all
      by_opener (OfElse t held) xs h all = all
      by_opener (OfWhile t) xs h all = all

pub AreBlocks-statement : (classes l o : ℕ) (b : Blocks) (c : Code) → AreBlocks classes l o b
    → IsPlain c → IsInstruction classes l o [] c → is_end c ≡ false → changes_held c b.opened ≡ false
    → AreBlocks classes l o (with_statement b (Plain c Nothing))
AreBlocks-statement classes l o b c h plain fine goes_on keeps =
    let nested = h.statements.nested in
    record {
      opened = h.opened;
      statements = IsGood-joined classes l o _ _ b.statements (Plain c Nothing) h.statements (record {
        fine = (plain, fine, tt);
        goes_on = (goes_on, tt);
        keeps = (keeps_held c b.opened keeps, tt);
        nested = omega arith;
      });
    }

-- one more block
pub AreBlocks-block : (classes l o : ℕ) (b : Blocks) (k : Opener) → AreBlocks classes l o b
    → IsOpener classes l o (open_syncs b.opened) (length b.opened) k → length b.opened < most_depth
    → AreBlocks classes l o (with_block b k)
AreBlocks-block classes l o b k h fine room = record { opened = (fine, h.statements, h.opened); statements = nothing_good classes l o _ _ (omega arith) }

-- a block that is closed
closed_good : (classes l o : ℕ) (xs : List ℕ) (n : ℕ) (k : Opener) (body : Statements) → IsOpener classes l o xs n k
    → IsGood classes l o (with_sync k xs) (n + 1) body → IsGood classes l o xs n (closed k body)
closed_good classes l o xs n (OfSync x) body k h =
    let nested = h.nested in record { fine = (k, h.fine, tt); goes_on = (h.goes_on, tt); keeps = (h.keeps, tt); nested = omega arith }
closed_good classes l o xs n (OfIf t) body k h =
    let nested = h.nested in
    record { fine = (k, h.fine, tt, tt); goes_on = (h.goes_on, tt, tt); keeps = (h.keeps, tt, tt); nested = omega arith }
closed_good classes l o xs n (OfElse t held) body k h =
    let nested = h.nested in
    let first = k.1.nested in
    record {
      fine = (k.0, k.1.fine, h.fine, tt);
      goes_on = (k.1.goes_on, h.goes_on, tt);
      keeps = (k.1.keeps, h.keeps, tt);
      nested = omega arith;
    }
closed_good classes l o xs n (OfWhile t) body k h =
    let nested = h.nested in record { fine = (k, h.fine, tt); goes_on = (h.goes_on, tt); keeps = (h.keeps, tt); nested = omega arith }

pub AreBlocks-done : (classes l o : ℕ) (bs : List OpenBlock) (body : Statements)
    → AreBlocks classes l o (record { opened = bs; statements = body }) → AreBlocks classes l o (without_block bs body)
AreBlocks-done classes l o [] body h = h
AreBlocks-done classes l o (b ∷ bs) body h =
    let whole : IsGood classes l o (with_sync b.opener (open_syncs bs)) (length bs + 1) body =
    subst (λ n. IsGood classes l o (with_sync b.opener (open_syncs bs)) n body) (omega arith) h.statements in
    record {
      opened = h.opened.2;
      statements = IsGood-joined classes l o _ _ b.earlier (closed b.opener body) h.opened.1
          (closed_good classes l o (open_syncs bs) (length bs) b.opener body h.opened.0 whole);
    }

-- an `else`
pub AreBlocks-else : (classes l o : ℕ) (bs : List OpenBlock) (body : Statements)
    → takes_else bs ≡ true → AreBlocks classes l o (record { opened = bs; statements = body })
    → AreBlocks classes l o (with_else bs body)
AreBlocks-else classes l o [] body e h = absurd (cc e)
AreBlocks-else classes l o (b ∷ bs) body e h =
    by_opener b.opener e h.opened.0 (subst (λ n. IsGood classes l o (with_sync b.opener (open_syncs bs)) n body) (omega arith) h.statements) where
      by_opener : (k : Opener) → is_if k ≡ true → IsOpener classes l o (open_syncs bs) (length bs) k
          → IsGood classes l o (with_sync k (open_syncs bs)) (length bs + 1) body
          → AreBlocks classes l o (in_else k b.earlier bs body)
      by_opener (OfSync x) e k g = absurd (cc e)
      by_opener (OfIf t) e k g =
          let nested = g.nested in record { opened = ((k, g), h.opened.1, h.opened.2); statements = nothing_good classes l o _ _ (omega arith) }
      by_opener (OfElse t held) e k g = absurd (cc e)
      by_opener (OfWhile t) e k g = absurd (cc e)

-- fewer locals of `sync`s
all_front : (P : ℕ → Type 0) (xs ys : List ℕ) → AllByRecursion P (xs ++ ys) → AllByRecursion P xs
all_front P [] ys h = tt
all_front P (x ∷ xs) ys h = (h.0, all_front P xs ys h.1)

pub KeepsLocals-front : (xs ys : List ℕ) (s : Statements) → KeepsLocals (xs ++ ys) s → KeepsLocals xs s
KeepsLocals-front xs ys Nothing h = tt
KeepsLocals-front xs ys (Plain c rest) h = (all_front _ xs ys h.0, KeepsLocals-front xs ys rest h.1)
KeepsLocals-front xs ys (Sync x body rest) h = (KeepsLocals-front (x ∷ xs) ys body h.0, KeepsLocals-front xs ys rest h.1)
KeepsLocals-front xs ys (If t body other rest) h = (KeepsLocals-front xs ys body h.0, KeepsLocals-front xs ys other h.1, KeepsLocals-front xs ys rest h.2)
KeepsLocals-front xs ys (While t body rest) h = (KeepsLocals-front xs ys body h.0, KeepsLocals-front xs ys rest h.1)

-- statements none of which is an `end`, and then one
ends_after : (c : Code) (rest : Statements) → is_end c ≡ false → EndsWell rest → EndsWell (Plain c rest)
ends_after c Nothing e h = absurd h
ends_after c _ e h = (e, h)

pub EndsWell-push : (s : Statements) → HasNoEnd s → EndsWell (joined s (Plain instr.End Nothing))
EndsWell-push Nothing h = refl
EndsWell-push (Plain c rest) h = ends_after c (joined rest (Plain instr.End Nothing)) h.0 (EndsWell-push rest h.1)
EndsWell-push (Sync x body rest) h = (h.0, EndsWell-push rest h.1)
EndsWell-push (If t body other rest) h = (h.0, h.1, EndsWell-push rest h.2)
EndsWell-push (While t body rest) h = (h.0, EndsWell-push rest h.1)

-- an instruction that goes nowhere else names no label
pub IsInstruction-alone : (classes l o : ℕ) (labels : List LabelDef) (c : Code)
    → IsPlain c → IsInstruction classes l o labels c → IsInstruction classes l o [] c
IsInstruction-alone classes l o labels (instr.Jump x) plain h = absurd plain
IsInstruction-alone classes l o labels (instr.Jlt x y t) plain h = absurd plain
IsInstruction-alone classes l o labels (instr.Jeq x y t) plain h = absurd plain
IsInstruction-alone classes l o labels c plain h = h
