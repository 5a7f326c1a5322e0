-- How many words of an empty list of holds pass a test, and how many threads or objects have no monitor.
use Rattle.std.proofs.Common.{◌≡◌, ◌≢◌, ℕ, zero, suc, ◌+◌, ◌==◌, ◌&&◌, nat_lt, ne_eqb, Bool, false}
use Rattle.std.proofs.Common.{slice_index, replicate, Option, None, refl, sym, ap, ◌∙◌, arith}
use Rattle.std.proofs.lemmas.Bool.Decides.{nat_tests}
use Rattle.core_world.specs.Words.Forms.{names, is_deeper, hold_word}
use Rattle.core_world.specs.Threads.Stages.{one_if}
use Rattle.core_world.specs.Locks.{count_where, hold_count, depth_count, recursion_count}
use Rattle.core_world.specs.Clauses.Claims.{count_with_monitor}
use Rattle.core_world.proofs.Readings.{names_none, deeper_none, hold_some}

pub number_none : (test : ℕ → ℕ → Bool) (i n : ℕ) → ((p : ℕ) → test p 0 ≡ false) → count_where test i (replicate n 0) ≡ 0
number_none test i zero h = refl
number_none test i (suc n) h = let a = number_none test (i + 1) n h in rw (h i) (omega (arith, a))

pub named_none : (o n : ℕ) → hold_count o (replicate n 0) ≡ 0
named_none o n = number_none (λ p h. names o h) 0 n (λ p. names_none o)

pub times_none : (o d n : ℕ) → depth_count o d (replicate n 0) ≡ 0
times_none o d n = number_none (λ p h. h == hold_word o d) 0 n (λ p. ne_eqb 0 (hold_word o d) (λ e. hold_some o d (sym e)))

pub again_none : (o : ℕ) (displaced : ℕ → ℕ) (n : ℕ) → recursion_count o displaced (replicate n 0) ≡ 0
again_none o displaced n = number_none (λ p h. is_deeper o h && (displaced p == 3)) 0 n (λ p. ap (λ (b : Bool). b && (displaced p == 3)) (deeper_none o))

pub index_none : (n p : ℕ) → slice_index (replicate n 0) p ≡ 0
index_none zero p = refl
index_none (suc n) zero = refl
index_none (suc n) (suc p) = index_none n p

-- no hold word stands there
pub no_hold : (n o d p : ℕ) → slice_index (replicate n 0) p ≢ hold_word o d
no_hold n o d p e = hold_some o d (sym e ∙ index_none n p)

-- nobody holds an object once
pub below_none : (d : ℕ) → nat_lt d 0 ≡ false
below_none d = grind (arith, nat_tests)

pub each_none : (o d n : ℕ) → depth_count o (d + 1) (replicate n 0) ≡ one_if (nat_lt d (hold_count o (replicate n 0)))
each_none o d n = times_none o (d + 1) n ∙ sym (ap one_if (below_none d)) ∙ sym (ap (λ m. one_if (nat_lt d m)) (named_none o n))

pub with_monitor_none : (n : ℕ) (f : ℕ → Option ℕ) → ((i : ℕ) → f i ≡ None) → count_with_monitor n f ≡ 0
with_monitor_none zero f h = refl
with_monitor_none (suc n) f h = let a = with_monitor_none n f h in rw (h n) (omega (arith, a))
