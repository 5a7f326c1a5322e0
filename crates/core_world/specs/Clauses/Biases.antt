-- What an object whose mark has the bias pattern doesn't have.
use Rattle.std.specs.Prelude.{◌≡◌, ℕ, true, List, []}
use Rattle.core_world.specs.Words.Forms.{is_biased}
use Rattle.core_world.specs.Locks.{Lock, BiasedTo, hold_count}

pub record BiasedAreFree (mark : ℕ → ℕ) (lock : ℕ → Lock) (holds : ℕ → List ℕ) (hash : ℕ → ℕ)
    (waits called : ℕ → List (ℕ × ℕ)) : Type 0 where
  pub hashless : (o : ℕ) → is_biased (mark o) ≡ true → hash o ≡ 0
  pub nobody : (o : ℕ) → is_biased (mark o) ≡ true → (waits o ≡ []) × (called o ≡ [])
  -- only the thread to which it is validly biased has hold words for it: nobody, where its mark is anonymous or stale
  pub unheld : (o t : ℕ) → is_biased (mark o) ≡ true → (lock o ≡ BiasedTo t → ⊥) → hold_count o (holds t) ≡ 0
