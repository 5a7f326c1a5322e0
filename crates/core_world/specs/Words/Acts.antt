-- What an act makes of a word, and whether it does what it is for.
use Rattle.std.specs.Prelude.{ℕ, ◌+◌, ◌%◌, ◌^◌, ◌==◌, max, bit_and, Bool, true, if◌then◌else◌}
use Rattle.core_world.specs.declared.act.Act.{Act}
use Rattle.core_world.specs.declared.act.Act.TheVariants.{Load, Store, CompareExchange, FetchMax, FetchAnd, FetchAdd}

-- the word afterwards
abbrev pub word_after : Act → ℕ → ℕ
word_after Load n = n
word_after (Store word) n = word
word_after (CompareExchange expected word) n = if n == expected then word else n
word_after (FetchMax word) n = max n word
word_after (FetchAnd bits) n = bit_and n bits
word_after FetchAdd n = (n + 1) % 2 ^ 64

-- an exchange that expected another word misses, and every other act hits
abbrev pub hits : Act → ℕ → Bool
hits (CompareExchange expected word) n = n == expected
hits _ n = true
