-- Which numbers are marked as targets.
use Rattle.std.specs.Prelude.{◌≡◌, ℕ, ◌+◌, ◌<◌, Bool, false, List, length, slice_index_or}
use Rattle.std.specs.List.{list_any}
use Rattle.object_program.specs.declared.program.Code.{Code}
use Rattle.sync_source.specs.Compiled.{goes_to}

-- there is a mark for each number from 0 to that of the last instruction, and those are set that an instruction goes to
pub record HasMarks (code : List Code) (marks : List Bool) : Type 0 where
  pub count : length marks ≡ length code + 1
  pub marked : (n : ℕ) → n < length marks → slice_index_or marks n false ≡ list_any (goes_to n) code
