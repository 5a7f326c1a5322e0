-- The equations of a statement as the code has it.
use Rattle.std.proofs.Common.{◌≡◌, ℕ, ◌+◌, ◌<◌, drop, get_or, List, [], ◌∷◌, ◌++◌, refl, sym, ap, ◌∙◌, arith, append_assoc, append-nil, length, length-append}
use Rattle.std.proofs.lemmas.List.{drop_more}
use mathlib.Core.Former.{Count}
use Rattle.object_program.specs.declared.program.Code.{Code}
use Rattle.object_program.specs.declared.program.Code.TheVariants as instr
use Rattle.sync_source.specs.declared.source.Test.{Test}
use Rattle.sync_source.specs.declared.source.Block.{Block}
use Rattle.sync_source.specs.declared.source.Statement.{Statement, Row_of-Statement, end_of-Statement, more_of-Statement}
use Rattle.sync_source.specs.declared.source.Statement.{items-the_row-Statement, items_hidden-the_row-Statement-0}
use Rattle.sync_source.specs.declared.source.Statement.TheVariants as statement
use Rattle.sync_source.specs.Source.{Statements, Nothing, Plain, Sync, If, While}
use Rattle.sync_source.specs.BlockView.{before, of_row, all_of}
use Rattle.sync_source.specs.Compiled.{size, code_at, test_code}
use Rattle.sync_source.proofs.Placed.{code_size}

row_all : (n : _) (row : Row_of-Statement n) → of_row row ≡ all_of (items-the_row-Statement n row)
row_all n end_of-Statement = refl
row_all n (more_of-Statement (statement.Plain c) row) = ap (λ r. Plain c r) (row_all _ row)
row_all n (more_of-Statement (statement.Sync' local shape body) row) = ap (λ r. Sync local (of_row body) r) (row_all _ row)
row_all n (more_of-Statement (statement.If' test shape body other_shape other) row) =
    ap (λ r. If test (of_row body) (of_row other) r) (row_all _ row)
row_all n (more_of-Statement (statement.While' test shape body) row) = ap (λ r. While test (of_row body) r) (row_all _ row)

abbrev other_row : Statement → (n : Count) × Row_of-Statement n
other_row (statement.If' test shape row other_shape other) = (_, other)
other_row s = (_, end_of-Statement)

abbrev body_row : Statement → (n : Count) × Row_of-Statement n
body_row (statement.Sync' local shape row) = (_, row)
body_row (statement.If' test shape row other_shape other) = (_, row)
body_row (statement.While' test shape row) = (_, row)
body_row (statement.Plain c) = (_, end_of-Statement)

pub before-Sync : (local : ℕ) (b : Block) (rest : Statements) → before (statement.Sync local b) rest ≡ Sync local (all_of b.statements.items) rest
before-Sync local b rest =
    let row = body_row (statement.Sync local b) in
    ap (λ x. Sync local x rest) (row_all row.0 row.1 ∙ ap all_of (items_hidden-the_row-Statement-0 b.statements))

pub before-While : (test : Test) (b : Block) (rest : Statements) → before (statement.While test b) rest ≡ While test (all_of b.statements.items) rest
before-While test b rest =
    let row = body_row (statement.While test b) in
    ap (λ x. While test x rest) (row_all row.0 row.1 ∙ ap all_of (items_hidden-the_row-Statement-0 b.statements))

pub before-If : (test : Test) (b c : Block) (rest : Statements)
    → before (statement.If test b c) rest ≡ If test (all_of b.statements.items) (all_of c.statements.items) rest
before-If test b c rest =
    let row = body_row (statement.If test b c) in
    let other = other_row (statement.If test b c) in
    let e : _ ≡ all_of b.statements.items = row_all row.0 row.1 ∙ ap all_of (items_hidden-the_row-Statement-0 b.statements) in
    let f : _ ≡ all_of c.statements.items = row_all other.0 other.1 ∙ ap all_of (items_hidden-the_row-Statement-0 c.statements) in
    ap (λ x. If test x (of_row other.1) rest) e ∙ ap (λ x. If test (all_of b.statements.items) x rest) f

-- a statement stands before the others, and so does its code
pub size-before : (s : Statement) (rest : Statements) → size (before s rest) ≡ size (before s Nothing) + size rest
size-before (statement.Plain c) rest = omega arith
size-before _ rest = omega arith

pub size-of : {s t : Statement} {r : Statements} → s ≡ t → before t Nothing ≡ r → size (before s Nothing) ≡ size r
size-of same is = ap (λ s. size (before s Nothing)) same ∙ ap size is

pub size-next : (xs : List Statement) (i : ℕ) (x : Statement) → i < length xs → x ≡ get_or xs i x
    → size (all_of (drop i xs)) ≡ size (before x Nothing) + size (all_of (drop (i + 1) xs))
size-next xs i x lt at =
    ap (λ ys. size (all_of ys)) (drop_more xs i x lt ∙ ap (λ y. y ∷ drop (i + 1) xs) (sym at)) ∙ size-before x (all_of (drop (i + 1) xs))

pub code-before : (at : ℕ) (s : Statement) (rest : Statements)
    → code_at at (before s rest) ≡ code_at at (before s Nothing) ++ code_at (at + size (before s Nothing)) rest
code-before at (statement.Plain c) rest =
    let e : at + 1 ≡ at + (1 + 0) = omega arith in
    ap (λ n. c ∷ code_at n rest) e
code-before at (statement.Sync' local shape row) rest =
    let b = of_row row in
    let e : at + 1 + size b + 1 ≡ at + (2 + size b + 0) = omega arith in
    ap (λ xs. instr.Enter local ∷ xs) (ap (λ n. code_at (at + 1) b ++ instr.Exit local ∷ code_at n rest) e
    ∙ sym (append_assoc (code_at (at + 1) b) (instr.Exit local ∷ []) (code_at (at + (2 + size b + 0)) rest)))
code-before at (statement.While' test shape row) rest =
    let b = of_row row in
    let to = at + 1 + 1 in
    let e : to + size b + 1 ≡ at + (3 + size b + 0) = omega arith in
    ap (λ xs. test_code test to ∷ instr.Jump (to + size b + 1 + 1) ∷ xs) (ap (λ n. code_at to b ++ instr.Jump (at + 1) ∷ code_at n rest) e
    ∙ sym (append_assoc (code_at to b) (instr.Jump (at + 1) ∷ []) (code_at (at + (3 + size b + 0)) rest)))
code-before at (statement.If' test shape row other_shape other) rest =
    let b = of_row row in
    let c = of_row other in
    let to = at + 1 + size c + 1 in
    let e : to + size b ≡ at + (2 + size c + size b + 0) = omega arith in
    let jump = instr.Jump (to + size b + 1) in
    let last = code_at (at + (2 + size c + size b + 0)) rest in
    ap (λ xs. test_code test to ∷ xs) (ap (λ n. code_at (at + 1) c ++ jump ∷ (code_at to b ++ code_at n rest)) e ∙ ap (λ xs. code_at (at + 1) c
    ++ jump ∷ (xs ++ last)) (sym (append-nil (code_at to b))) ∙ sym (append_assoc (code_at (at + 1) c) (jump ∷ (code_at to b ++ [])) last))

-- a statement that is written before the others
pub put_before : (code code' : List Code) (x : Statement) (later : Statements) → code' ≡ code ++ code_at (length code) (before x Nothing)
    → code' ++ code_at (length code') later ≡ code ++ code_at (length code) (before x later)
put_before code code' x later e =
    let at = length code in
    let mine = code_at at (before x Nothing) in
    let l : length code' ≡ at + size (before x Nothing) = omega (arith, ap length e, length-append code mine, code_size (before x Nothing) at) in
    ap (λ n. code' ++ code_at n later) l
    ∙ ap (λ xs. xs ++ code_at (at + size (before x Nothing)) later) e
    ∙ append_assoc code mine (code_at (at + size (before x Nothing)) later)
    ∙ ap (λ xs. code ++ xs) (sym (code-before at x later))

pub put_size : (code code' : List Code) (x : Statement) (later : Statements)
    → code' ≡ code ++ code_at (length code) (before x Nothing) → length code' + size later ≡ length code + size (before x later)
put_size code code' x later e =
    let mine = code_at (length code) (before x Nothing) in
    omega (arith, ap length e, length-append code mine, code_size (before x Nothing) (length code), size-before x later)

-- how many instructions stand before the block of an `if`
pub if_size : (old c1 c2 c3 : List Code) (i j : Code) (c : Statements) → c1 ≡ old ++ i ∷ []
    → c2 ≡ c1 ++ code_at (length c1) c → c3 ≡ c2 ++ j ∷ [] → length c3 ≡ length old + 1 + size c + 1
if_size old c1 c2 c3 i j c e f g =
    omega (
      arith,
      ap length e,
      ap length f,
      ap length g,
      length-append old (i ∷ []),
      length-append c1 (code_at (length c1) c),
      length-append c2 (j ∷ []),
      code_size c (length c1),
    )

pub put_if : (old c1 c2 c3 : List Code) (t : Test) (b c : Statements) (held past : ℕ) → held ≡ length old + 1 + size c + 1
    → past ≡ held + size b → c1 ≡ old ++ test_code t held ∷ [] → c2 ≡ c1 ++ code_at (length c1) c
    → c3 ≡ c2 ++ instr.Jump (past + 1) ∷ [] → c3 ++ code_at (length c3) b ≡ old ++ code_at (length old) (If t b c Nothing)
put_if old c1 c2 c3 t b c held past h p e f g =
    let at = length old in
    let to = at + 1 + size c + 1 in
    let first = test_code t to in
    let jump = instr.Jump (to + size b + 1) in
    let l1 : length c1 ≡ at + 1 = omega (arith, ap length e, length-append old (test_code t held ∷ [])) in
    let l3 : length c3 ≡ to = if_size old c1 c2 c3 _ _ c e f g in
    let e1 : c1 ≡ old ++ first ∷ [] = e ∙ ap (λ n. old ++ test_code t n ∷ []) h in
    let f1 : c2 ≡ (old ++ first ∷ []) ++ code_at (at + 1) c = f ∙ ap (λ n. c1 ++ code_at n c) l1 ∙ ap (λ xs. xs ++ code_at (at + 1) c) e1 in
    let p1 : past + 1 ≡ to + size b + 1 = omega (arith, h, p) in
    let g1 : c3 ≡ ((old ++ first ∷ []) ++ code_at (at + 1) c) ++ jump ∷ [] = g ∙ ap (λ n. c2 ++ instr.Jump n ∷ []) p1 ∙ ap (λ xs. xs ++ jump ∷ []) f1 in
    let all : c3 ++ code_at (length c3) b ≡ (((old ++ first ∷ []) ++ code_at (at + 1) c) ++ jump ∷ []) ++ code_at to b =
    ap (λ n. c3 ++ code_at n b) l3 ∙ ap (λ xs. xs ++ code_at to b) g1 in
    let flat : (((old ++ first ∷ []) ++ code_at (at + 1) c) ++ jump ∷ []) ++ code_at to b
    ≡ old ++ first ∷ (code_at (at + 1) c ++ jump ∷ code_at to b) = simp append_assoc in
    all ∙ flat ∙ ap (λ xs. old ++ first ∷ (code_at (at + 1) c ++ jump ∷ xs)) (sym (append-nil (code_at to b)))
