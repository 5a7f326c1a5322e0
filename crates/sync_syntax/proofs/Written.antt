-- What is written of an `if` and of its `else`.
use Rattle.std.proofs.Common.{◌≡◌, ◌==◌, false, List, [], ◌∷◌, ◌++◌, length, refl, ap, sym, ◌∙◌, append_assoc, append-nil, codes, ℕ}
use Rattle.std.proofs.lemmas.Grind.{flat_map-append}
use Rattle.object_program.specs.declared.program.ClassDef.{ClassDef}
use Rattle.object_program.specs.declared.program.ObjectDef.{ObjectDef}
use Rattle.object_program.specs.declared.program.ThreadDef.{ThreadDef}
use Rattle.program_syntax.specs.Canonical.{line_text}
use Rattle.program_syntax.specs.Written.{lines_text}
use Rattle.sync_source.specs.declared.source.Test.{Test}
use Rattle.sync_source.specs.declared.source.Statement.{Statement}
use Rattle.sync_source.specs.declared.source.Statement.TheVariants as statement
use Rattle.sync_source.specs.Source.{Statements, Nothing, If}
use Rattle.sync_source.specs.BlockView.{all_of}
use Rattle.sync_syntax.specs.Canonical.{test_words, done_words, else_words, else_lines, statement_lines}
use Rattle.sync_syntax.specs.inner.Written.{statements_text}

else_text : (classes : List ClassDef) (ds : List ObjectDef) (t : ThreadDef) (ss : List Statement) → (length ss == 0) ≡ false
    → lines_text (else_lines (all_of ss) (statement_lines classes ds t (all_of ss))) ≡ line_text else_words ++ statements_text classes ds t (all_of ss)
else_text classes ds t [] h = absurd (cc h)
else_text classes ds t (statement.Plain c ∷ ss) h = refl
else_text classes ds t (statement.Sync' local shape row ∷ ss) h = refl
else_text classes ds t (statement.If' test shape row other_shape other ∷ ss) h = refl
else_text classes ds t (statement.While' test shape row ∷ ss) h = refl

-- an `else`, and the statements of its block
pub else_written : (classes : List ClassDef) (ds : List ObjectDef) (t : ThreadDef) (ss : List Statement) (old mid : List ℕ) → (length ss == 0) ≡ false
    → mid ≡ old ++ line_text else_words
    → mid ++ statements_text classes ds t (all_of ss) ≡ old ++ lines_text (else_lines (all_of ss) (statement_lines classes ds t (all_of ss)))
else_written classes ds t ss old mid some e =
    ap (λ bs. bs ++ statements_text classes ds t (all_of ss)) e ∙ append_assoc old (line_text else_words) (statements_text classes ds t (all_of ss))
    ∙ ap (λ bs. old ++ bs) (sym (else_text classes ds t ss some))

one_after_another : (old a b c d : List ℕ) → (((old ++ a) ++ b) ++ c) ++ d ≡ old ++ (a ++ ((b ++ c) ++ d))
one_after_another old a b c d = simp append_assoc

-- an `if`, its block, its `else`, and a `done`
pub if_written : (classes : List ClassDef) (ds : List ObjectDef) (t : ThreadDef) (test : Test) (body other : Statements) (old first second third : List ℕ)
    → first ≡ old ++ line_text (test_words (codes "if") t test) → second ≡ first ++ statements_text classes ds t body
    → third ≡ second ++ lines_text (else_lines other (statement_lines classes ds t other))
    → third ++ line_text done_words ≡ old ++ statements_text classes ds t (If test body other Nothing)
if_written classes ds t test body other old first second third e f g =
    let a = line_text (test_words (codes "if") t test) in
    let bodies = statement_lines classes ds t body in
    let others = else_lines other (statement_lines classes ds t other) in
    let last = line_text done_words in
    let one : lines_text (bodies ++ others) ≡ lines_text bodies ++ lines_text others = flat_map-append line_text bodies others in
    let all : lines_text ((bodies ++ others) ++ done_words ∷ []) ≡ lines_text (bodies ++ others) ++ (last ++ []) =
    flat_map-append line_text (bodies ++ others) (done_words ∷ []) in
    let parts = all ∙ ap (λ bs. lines_text (bodies ++ others) ++ bs) (append-nil last) ∙ ap (λ bs. bs ++ last) one in
    ap (λ bs. bs ++ last) (g ∙ ap (λ bs. bs ++ lines_text others) (f ∙ ap (λ bs. bs ++ lines_text bodies) e))
    ∙ one_after_another old a (lines_text bodies) (lines_text others) last
    ∙ ap (λ bs. old ++ (a ++ bs)) (sym parts)
