-- The hashes that threads drew are those of their generators, and each object with a hash was given it by one draw.
use Rattle.std.specs.Prelude.{◌≡◌, ℕ, ◌+◌, ◌==◌, ◌%◌, ◌^◌, if◌then◌else◌, List, [], ◌∷◌, Option, Some, None}
use Rattle.plain_monitor.specs.declared.entry.Entry.{Entry}
use Rattle.plain_monitor.specs.declared.entry.Entry.TheVariants.{Hash}
use Rattle.plain_monitor.specs.declared.entry.Logged.{Logged}
use Rattle.lock_policy.specs.Draws.{nth_value}
use Rattle.core_world.specs.Threads.Stages.{one_if}

-- a hash that was drawn: its object, its value, and which of its thread's draws it is
pub record Draw : Type 0 where
  pub object : ℕ
  pub value : ℕ
  pub number : ℕ

abbrev pub draw_in : Entry → Option Draw
draw_in (Hash o value (Some number)) = Some (record { object = o; value = value; number = number })
draw_in _ = None

-- how many draws that is, and how many for o
abbrev pub drawn_by : Option Draw → ℕ
drawn_by None = 0
drawn_by (Some d) = 1

abbrev pub drawn_for : ℕ → Option Draw → ℕ
drawn_for o None = 0
drawn_for o (Some d) = one_if (d.object == o)

-- how many draws a log has, and how many for o
abbrev pub draws_in : List Logged → ℕ
draws_in [] = 0
draws_in (l ∷ log) = drawn_by (draw_in l.entry) + draws_in log

abbrev pub draws_for : ℕ → List Logged → ℕ
draws_for o [] = 0
draws_for o (l ∷ log) = drawn_for o (draw_in l.entry) + draws_for o log

-- how many for o all logs have
abbrev pub all_draws : ℕ → List (List Logged) → ℕ
all_draws o [] = 0
all_draws o (log ∷ logs) = draws_for o log + all_draws o logs

-- the draw is the next one after n others of the generator that began with this word
abbrev pub IsNextDraw : ℕ → ℕ → Option Draw → Type 0
IsNextDraw first n None = Unit {0}
IsNextDraw first n (Some d) = (d.number ≡ n + 1) × (d.value ≡ nth_value first (n + 1))

-- the draws of a log are the generator's, after n others
abbrev pub AreDraws : ℕ → ℕ → List Logged → Type 0
AreDraws first n [] = Unit {0}
AreDraws first n (l ∷ log) = IsNextDraw first n (draw_in l.entry) × AreDraws first (drawn_by (draw_in l.entry) + n) log

-- the word with which thread t's generator begins, in a heap whose generators start from this number
abbrev pub first_draw : ℕ → ℕ → ℕ
first_draw start t = (start + t) % 2 ^ 32

-- the plain hash is 0 where there is none
pub record DrawsFit (start : ℕ) (logs : List (List Logged)) (log : ℕ → List Logged) (draws : ℕ → ℕ)
    (hash : ℕ → ℕ) : Type 0 where
  -- the draws that a thread logged are the first of its generator, in their order
  pub drawn : (t : ℕ) → AreDraws (first_draw start t) 0 (log t)
  -- a thread knows how many it has logged
  pub counted : (t : ℕ) → draws t ≡ draws_in (log t)
  -- an object with a hash has one logged draw, and one without a hash has none
  pub one : (o : ℕ) → all_draws o logs ≡ (if hash o == 0 then 0 else 1)
