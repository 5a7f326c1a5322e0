-- What a search has found once a key is added.
use Rattle.std.specs.Prelude.{ℕ, List, [], ◌∷◌, ◌++◌, if◌then◌else◌}
use Rattle.indexmap.specs.IndexSet.{insert_key}
use Rattle.state_search.specs.declared.found.Origin.{Origin}
use Rattle.state_search.specs.Found.{Keys}
use Rattle.state_search.specs.inner.Among.{same_words, is_among}

-- a key that stands there already keeps its origin
abbrev pub with_key : Keys → List ℕ → Origin → Keys
with_key f key origin = record f {
  keys = insert_key same_words f.keys key;
  origins = if is_among f.keys key then f.origins else f.origins ++ origin ∷ [];
}
