-- The words of what threads have made: of each thread how many objects, and their classes. An object that is made is as at first until an entry
-- changes it, so that its own words don't tell that it is there, and no word of it tells its class.
use Rattle.std.specs.Prelude.{ℕ, zero, suc, List, [], ◌∷◌, ◌++◌, length}
use Rattle.machine_words.specs.Readers.{read_numbers}

abbrev pub made_words : List (List ℕ) → List ℕ
made_words [] = []
made_words (row ∷ rows) = length row ∷ row ++ made_words rows

-- the classes of what one thread has made, and the words after them
abbrev pub read_row : List ℕ → List ℕ × List ℕ
read_row (count ∷ ws) = read_numbers count ws
read_row [] = ([], [])

-- the same of so many threads
abbrev pub read_made : ℕ → List ℕ → List (List ℕ) × List ℕ
read_made zero ws = ([], ws)
read_made (suc n) ws = ((read_row ws).0 ∷ (read_made n (read_row ws).1).0, (read_made n (read_row ws).1).1)
