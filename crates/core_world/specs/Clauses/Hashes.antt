-- The hash in an object's header is its plain hash.
use Rattle.std.specs.Prelude.{◌≡◌, ◌⊎◌, ℕ, true, false, List, slice_index, Option, Some}
use Rattle.core_world.specs.Words.Forms.{is_biased, is_neutral, hash_in, hold_word}
use Rattle.core_world.specs.Locks.{Lock, OnRecord}

-- the plain hash is 0 where there is none
pub record HashesFit (mark : ℕ → ℕ) (lock : ℕ → Lock) (header : ℕ → Option ℕ) (holds : ℕ → List ℕ)
    (displaced : ℕ → ℕ → ℕ) (hash : ℕ → ℕ) : Type 0 where
  pub stands : (o h : ℕ) → header o ≡ Some h → hash_in h ≡ hash o
  -- a header in a record is the object's, or one from before it had a hash
  pub records : (o t p : ℕ) → slice_index (holds t) p ≡ hold_word o 1 → is_biased (mark o) ≡ false
      → is_neutral (displaced t p) ≡ true
      → (hash_in (displaced t p) ≡ 0) ⊎ (hash_in (displaced t p) ≡ hash o)
  pub on_record : (o t p : ℕ) → lock o ≡ OnRecord t p → (hash_in (displaced t p) ≡ 0)
      ⊎ (hash_in (displaced t p) ≡ hash o)
