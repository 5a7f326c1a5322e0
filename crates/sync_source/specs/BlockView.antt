-- What contracts see of a `Block`: its statements.
use Rattle.std.specs.Prelude.{List, [], ◌∷◌}
use Rattle.sync_source.specs.declared.source.Statement.{Statement, Row_of-Statement, end_of-Statement, more_of-Statement}
use Rattle.sync_source.specs.declared.source.Statement.TheVariants as statement
use Rattle.sync_source.specs.Source.{Statements, Nothing, Plain, Sync, If, While}

-- the statements of a block that stands in a statement
abbrev pub of_row : {m : _} → Row_of-Statement m → Statements
of_row end_of-Statement = Nothing
of_row (more_of-Statement (statement.Plain c) rest) = Plain c (of_row rest)
of_row (more_of-Statement (statement.Sync' local shape row) rest) = Sync local (of_row row) (of_row rest)
of_row (more_of-Statement (statement.If' test shape row other_shape other_row) rest) =
    If test (of_row row) (of_row other_row) (of_row rest)
of_row (more_of-Statement (statement.While' test shape row) rest) = While test (of_row row) (of_row rest)

-- a statement, and then the others
abbrev pub before : Statement → Statements → Statements
before (statement.Plain c) rest = Plain c rest
before (statement.Sync' local shape row) rest = Sync local (of_row row) rest
before (statement.If' test shape row other_shape other_row) rest = If test (of_row row) (of_row other_row) rest
before (statement.While' test shape row) rest = While test (of_row row) rest

-- these statements, one after the other
abbrev pub all_of : List Statement → Statements
all_of [] = Nothing
all_of (s ∷ ss) = before s (all_of ss)
