-- The blocks of the section that is open, one in another, and what their lines make of them.
use Rattle.std.specs.Prelude.{ℕ, ◌+◌, Bool, true, false, List, [], ◌∷◌}
use Rattle.std.specs.List.{list_any}
use Rattle.object_program.specs.declared.program.Code.{Code}
use Rattle.sync_source.specs.declared.source.Test.{Test}
use Rattle.sync_source.specs.Source.{Statements, Nothing, Plain, Sync, If, While}
use Rattle.sync_source.specs.Valid.{assigns}
use Rattle.sync_source.specs.Compiled.{size}

-- what has opened a block
pub data Opener : Type 0 where
  OfSync : ℕ → Opener
  OfIf : Test → Opener
  -- the `else` of an `if` whose block has these statements
  OfElse : Test → Statements → Opener
  OfWhile : Test → Opener

-- a block that is open, and the statements before it in the block that it stands in
pub record OpenBlock : Type 0 where
  pub opener : Opener
  pub earlier : Statements

pub record Blocks : Type 0 where
  -- the innermost first
  pub opened : List OpenBlock
  -- the statements so far of the innermost of them, or of the section where none is open
  pub statements : Statements

abbrev pub no_blocks : Blocks
no_blocks = record { opened = []; statements = Nothing }

-- statements, and then others
abbrev pub joined : Statements → Statements → Statements
joined Nothing last = last
joined (Plain c rest) last = Plain c (joined rest last)
joined (Sync x body rest) last = Sync x body (joined rest last)
joined (If t body other rest) last = If t body other (joined rest last)
joined (While t body rest) last = While t body (joined rest last)

-- the statement that a block is once it is closed
abbrev pub closed : Opener → Statements → Statements
closed (OfSync x) body = Sync x body Nothing
closed (OfIf t) body = If t body Nothing Nothing
closed (OfElse t held) body = If t held body Nothing
closed (OfWhile t) body = While t body Nothing

abbrev pub with_statement : Blocks → Statements → Blocks
with_statement b statement = record b { statements = joined b.statements statement }

abbrev pub with_block : Blocks → Opener → Blocks
with_block b opener =
    record { opened = record { opener = opener; earlier = b.statements } ∷ b.opened; statements = Nothing }

-- a `done` closes the innermost block
abbrev pub without_block : List OpenBlock → Statements → Blocks
without_block [] body = record { opened = []; statements = body }
without_block (b ∷ bs) body = record { opened = bs; statements = joined b.earlier (closed b.opener body) }

-- an `else` ends the block of an `if` and opens another
abbrev pub in_else : Opener → Statements → List OpenBlock → Statements → Blocks
in_else (OfIf t) earlier bs body =
    record { opened = record { opener = OfElse t body; earlier = earlier } ∷ bs; statements = Nothing }
in_else o earlier bs body = record { opened = record { opener = o; earlier = earlier } ∷ bs; statements = body }

abbrev pub with_else : List OpenBlock → Statements → Blocks
with_else [] body = record { opened = []; statements = body }
with_else (b ∷ bs) body = in_else b.opener b.earlier bs body

-- an `if` without `else`
abbrev pub is_if : Opener → Bool
is_if (OfIf t) = true
is_if o = false

-- an `else` may follow, since the innermost block is an `if` without one
abbrev pub takes_else : List OpenBlock → Bool
takes_else [] = false
takes_else (b ∷ bs) = is_if b.opener

-- a `done` may follow
abbrev pub takes_done : List OpenBlock → Bool
takes_done [] = false
takes_done (b ∷ bs) = true

-- the instruction gives a value to the local that this `sync` names
abbrev pub changes_local : Code → Opener → Bool
changes_local c (OfSync x) = assigns x c
changes_local c o = false

-- or to that of some `sync` that is open
abbrev pub changes_held : Code → List OpenBlock → Bool
changes_held c bs = list_any (λ b. changes_local c b.opener) bs

-- how many instructions the code of the lines so far has
abbrev pub opener_size : Opener → ℕ
opener_size (OfSync x) = 2
opener_size (OfIf t) = 2
opener_size (OfElse t held) = 2 + size held
opener_size (OfWhile t) = 3

abbrev pub opened_size : List OpenBlock → ℕ
opened_size [] = 0
opened_size (b ∷ bs) = opener_size b.opener + size b.earlier + opened_size bs

abbrev pub code_used : Blocks → ℕ
code_used b = size b.statements + opened_size b.opened
