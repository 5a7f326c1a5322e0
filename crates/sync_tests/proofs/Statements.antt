-- Statements that are pushed one after the other are the blocks of the counting program.
use Rattle.std.proofs.Common.{◌≡◌, List, [], ◌∷◌, ◌++◌, ap, ◌∙◌, false}
use Rattle.std.specs.Prelude.{pos}
use Rattle.object_program.specs.declared.program.Code.TheVariants.{Set, Add, Ref, Print, End}
use Rattle.sync_source.specs.declared.source.Block.{Block}
use Rattle.sync_source.specs.declared.source.Test.{Test}
use Rattle.sync_source.specs.declared.source.Statement.{Statement}
use Rattle.sync_source.specs.declared.source.Statement.TheVariants as statement
use Rattle.sync_source.specs.Source.{Statements, Nothing, Plain, Sync, While}
use Rattle.sync_source.specs.BlockView.{all_of}
use Rattle.sync_source.proofs.Viewed.{before-Sync, before-While}
use Rattle.sync_tests.specs.Counting.{round, counting}

-- one is pushed to none, or to others
first : (none one : List Statement) (x : Statement) → none ≡ [] → one ≡ none ++ x ∷ [] → one ≡ x ∷ []
first none one x e f = f ∙ ap (λ xs. xs ++ x ∷ []) e

next : (xs one two : List Statement) (x : Statement) → one ≡ xs → two ≡ one ++ x ∷ [] → two ≡ xs ++ x ∷ []
next xs one two x e f = f ∙ ap (λ ys. ys ++ x ∷ []) e

pub round_is : (none none' one two : List Statement) (guarded : Block) → none ≡ [] → guarded.statements.items ≡ none ++ statement.Plain (Print 1) ∷ []
    → none' ≡ [] → one ≡ none' ++ statement.Sync 0 guarded ∷ [] → two ≡ one ++ statement.Plain (Add 1 1 3) ∷ [] → all_of two ≡ round
round_is none none' one two guarded d g c e f =
    ap all_of (next _ one two _ (first none' one _ c e) f) ∙ before-Sync 0 guarded (Plain (Add 1 1 3) Nothing)
    ∙ ap (λ xs. Sync 0 (all_of xs) (Plain (Add 1 1 3) Nothing)) (first none _ _ d g)

abbrev pub below : Test
below = record { equal = false; x = 1; y = 2 }

abbrev front : Statements → Statements
front rest = Plain (Ref 0 0) (Plain (Set 1 (pos 0)) (Plain (Set 2 (pos 2)) (Plain (Set 3 (pos 1)) rest)))

pub body_is : (none one two three four five six : List Statement) (block : Block) → all_of block.statements.items ≡ round
    → none ≡ [] → one ≡ none ++ statement.Plain (Ref 0 0) ∷ [] → two ≡ one ++ statement.Plain (Set 1 (pos 0)) ∷ []
    → three ≡ two ++ statement.Plain (Set 2 (pos 2)) ∷ [] → four ≡ three ++ statement.Plain (Set 3 (pos 1)) ∷ []
    → five ≡ four ++ statement.While below block ∷ [] → six ≡ five ++ statement.Plain End ∷ [] → all_of six ≡ counting
body_is none one two three four five six block r a b c d e f g =
    ap all_of (next _ five six _ (next _ four five _ (next _ three four _ (next _ two three _ (next _ one two _ (first none one _ a b) c) d) e) f) g)
    ∙ ap front (before-While below block (Plain End Nothing)) ∙ ap (λ b. front (While below b (Plain End Nothing))) r
