-- What the logs of a whole run say of hashes: each is one draw of one thread, and no entry says another.
use Rattle.std.specs.Prelude.{◌≡◌, ℕ, zero, suc, ◌+◌, List, [], ◌∷◌, slice_get, Option, Some}
use Rattle.plain_monitor.specs.declared.entry.Entry.TheVariants.{Hash}
use Rattle.plain_monitor.specs.declared.entry.Logged.{Logged}
use Rattle.plain_monitor.specs.History.{log_of}
use Rattle.plain_monitor.specs.Objects.{PlainObject}
use Rattle.lock_policy.specs.Draws.{nth_value}
use Rattle.core_world.specs.Clauses.Draws.{Draw, draw_in, drawn_by, AreDraws, first_draw}
use Rattle.core_world.specs.Locks.{object_of}

-- entry i of thread t's log is a hash that was drawn
pub record IsLoggedDraw (logs : List (List Logged)) (t i : ℕ) (d : Draw) : Type 0 where
  pub entry : Logged
  pub there : slice_get (log_of logs t) i ≡ Some entry
  pub drawn : draw_in entry.entry ≡ Some d

-- how many draws the log has before entry i
abbrev pub draws_before : ℕ → List Logged → ℕ
draws_before i [] = 0
draws_before zero (l ∷ log) = 0
draws_before (suc i) (l ∷ log) = drawn_by (draw_in l.entry) + draws_before i log

-- the hash h of o was drawn by one entry of all logs, and is that draw of its thread's generator
pub record IsDrawnOnce (start : ℕ) (logs : List (List Logged)) (o h : ℕ) : Type 0 where
  pub thread : ℕ
  pub place : ℕ
  pub draw : Draw
  pub logged : IsLoggedDraw logs thread place draw
  pub object : draw.object ≡ o
  pub value : draw.value ≡ h
  pub number : draw.number ≡ draws_before place (log_of logs thread) + 1
  pub nth : draw.value ≡ nth_value (first_draw start thread) draw.number
  pub only : (t i : ℕ) (d : Draw) → IsLoggedDraw logs t i d → d.object ≡ o → (t ≡ thread) × (i ≡ place)

pub record HashesAreDrawn (start : ℕ) (logs : List (List Logged)) (objects : List PlainObject) : Type 0 where
  -- the draws of each thread are numbered 1, 2, 3 .. in its log, and are its generator's
  pub draws : (t : ℕ) → AreDraws (first_draw start t) 0 (log_of logs t)
  -- each object with a hash has it by one of them
  pub once : (o h : ℕ) → (object_of objects o).hash ≡ Some h → IsDrawnOnce start logs o h
  -- and every hash entry of an object says its hash
  pub says : (t i o v : ℕ) (drawn : Option ℕ) (l : Logged) → slice_get (log_of logs t) i ≡ Some l
      → l.entry ≡ Hash o v drawn → (object_of objects o).hash ≡ Some v
