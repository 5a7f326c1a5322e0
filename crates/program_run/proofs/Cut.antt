-- The machine of a program under the logs that a dump cuts.
use Rattle.std.proofs.Common.{◌≡◌, ℕ, zero, suc, ◌<◌, ◌≤◌, List, [], ◌∷◌, length, map, take, Option, Some, None, refl, sym, ap, ◌∙◌, subst, arith, inl, inr}
use Rattle.std.specs.Prelude.{◌⊎◌, slice_get, slice_index, IsSome}
use Rattle.std.specs.List.{AllByRecursion}
use Rattle.std.proofs.lemmas.Option.{none-some, same_Some}
use Rattle.plain_monitor.specs.declared.entry.Logged.{Logged}
use Rattle.plain_monitor.specs.History.{objects_after, log_of}
use Rattle.plain_monitor.specs.Made.{IsMadeInTime}
use Rattle.plain_monitor.specs.Objects.{PlainObject}
use Rattle.plain_monitor.proofs.Lists.{all_at, all_map}
use Rattle.plain_history.specs.Cuts.{cut_logs}
use Rattle.object_program.specs.Program.{ProgramText, numbering_of, shape_of}
use Rattle.object_program.specs.Valid.{IsProgram}
use Rattle.plain_machine.specs.Legal.{IsLegal, machine_after}
use Rattle.plain_machine.specs.Machine.{PlainMachine}
use Rattle.core_world.specs.Shots as core
use Rattle.core_world.specs.Threads.ThreadView.{DumpShot}
use Rattle.closed_heap_laws.specs.OfARun.{HasShots, shots_at}
use Rattle.run_rounds.proofs.Lists.{all_each}
use Rattle.thread_logs.specs.Followed.{HasFollowed, HaveFollowed}
use Rattle.lock_journal.specs.declared.record.Cell.{Cell}
use Rattle.lock_journal.specs.declared.record.Shot.{Shot}
use Rattle.lock_journal.specs.MachineCells.{cell_in}
use Rattle.program_run.specs.Left.{cells_left, shot_left, shots_left}
use Rattle.program_run.specs.Shots.{AreRightShots, IsRightShot, shots_of}

pub the_some : {A : Type 0} (o : Option A) → IsSome o → (a : A) × (o ≡ Some a)
the_some None h = absurd (cc h)
the_some (Some a) h = (a, refl)

cut_long : (ns : List ℕ) (logs : List (List Logged)) → length ns ≡ length logs → length (cut_logs ns logs) ≡ length logs
cut_long [] logs e = refl
cut_long (n ∷ ns) [] e = refl
cut_long (n ∷ ns) (log ∷ logs) e = ap suc (cut_long ns logs (omega (arith, e)))

-- what is left of a log is its front
cut_log : (ns : List ℕ) (logs : List (List Logged)) (t : ℕ) → t < length logs → length ns ≡ length logs
    → log_of (cut_logs ns logs) t ≡ take (slice_index ns t) (log_of logs t)
cut_log [] logs t h e = absurd (omega (arith, h, e))
cut_log (n ∷ ns) [] t h e = absurd (omega (arith, h))
cut_log (n ∷ ns) (log ∷ logs) zero h e = refl
cut_log (n ∷ ns) (log ∷ logs) (suc t) h e = cut_log ns logs t (omega (arith, h)) (omega (arith, e))

cells_same : (objects : List PlainObject) → cells_left (core.cells_of objects) ≡ map (λ (x : PlainObject). cell_in x.monitor) objects
cells_same [] = refl
cells_same (x ∷ xs) = ap (λ (cs : List Cell). cell_in x.monitor ∷ cs) (cells_same xs)

-- the laws that are asked of logs
abbrev pub Fronts : Type 0
Fronts = (p : ProgramText) (fuel t n : ℕ) (log : List Logged) → HasFollowed p fuel t log → HasFollowed p fuel t (take n log)

abbrev pub Legals : Type 0
Legals = (p : ProgramText) (fuel : ℕ) (logs : List (List Logged)) → IsProgram p → HaveFollowed p fuel logs → IsLegal p fuel logs

abbrev pub TheirObjects : Type 0
TheirObjects = (p : ProgramText) (fuel : ℕ) (logs : List (List Logged)) (m : PlainMachine) → HaveFollowed p fuel logs
    → machine_after p fuel logs ≡ Some m → objects_after (shape_of p) logs ≡ Some m.objects

module _ (fronts : Fronts) (legals : Legals) (theirs : TheirObjects)
    (p : ProgramText) (valid : IsProgram p) (fuel : ℕ) (logs : List (List Logged)) (f : HaveFollowed p fuel logs) where
  cut_follow : (s : DumpShot) → core.IsRightShot (shape_of p) logs s → IsMadeInTime (numbering_of p) (cut_logs s.cut logs)
      → HaveFollowed p fuel (cut_logs s.cut logs)
  cut_follow s h made =
      record {
        objects = h.legal;
        made = made;
        count = cut_long s.cut logs h.threads ∙ f.count;
        each = λ t lt.
            let within : t < length logs = let e = f.count in omega (arith, lt, e) in
            subst (λ log. HasFollowed p fuel t log) (sym (cut_log s.cut logs t within h.threads))
            (fronts p fuel t (slice_index s.cut t) (log_of logs t) (f.each t lt));
      }

  right : (s : DumpShot) → core.IsRightShot (shape_of p) logs s → IsMadeInTime (numbering_of p) (cut_logs s.cut logs)
      → IsRightShot p fuel logs (shot_left s)
  right s h made =
      let follow = cut_follow s h made in
      let m = the_some (machine_after p fuel (cut_logs s.cut logs)) (legals p fuel (cut_logs s.cut logs) valid follow).taken in
      let taken = sym h.taken ∙ theirs p fuel (cut_logs s.cut logs) m.0 follow m.1 in
      let same : h.objects ≡ m.0.objects = same_Some h.objects m.0.objects taken in
      record {
        threads = h.threads;
        within = h.within;
        in_order = h.in_order;
        machine = m.0;
        under = m.1;
        cells = ap cells_left h.cells ∙ cells_same h.objects ∙ ap (λ (xs : List PlainObject). map (λ (x : PlainObject). cell_in x.monitor) xs) same;
      }

own_left : (shots : List (List DumpShot)) (t : ℕ) → shots_of (map shots_left shots) t ≡ shots_left (shots_at shots t)
own_left [] t = refl
own_left (s ∷ shots) zero = refl
own_left (s ∷ shots) (suc t) = own_left shots t

places_left : (t : ℕ) (shots : List DumpShot) → map (λ (s : Shot). (slice_index s.cut t, s.number)) (shots_left shots) ≡ core.places_of t shots
places_left t [] = refl
places_left t (s ∷ shots) = ap (λ (x : List (ℕ × ℕ)). (slice_index s.cut t, s.number) ∷ x) (places_left t shots)

-- a shot of the record is one of the heap
left_at : (shots : List DumpShot) (i : ℕ) (a : Shot) → slice_get (shots_left shots) i ≡ Some a
    → (s : DumpShot) × (slice_get shots i ≡ Some s) × (shot_left s ≡ a)
left_at [] i a e = absurd (none-some a e)
left_at (s ∷ shots) zero a e = (s, refl, same_Some (shot_left s) a e)
left_at (s ∷ shots) (suc i) a e = left_at shots i a e

module _ (fronts : Fronts) (legals : Legals) (theirs : TheirObjects)
    (p : ProgramText) (valid : IsProgram p) (fuel : ℕ) (logs : List (List Logged)) (f : HaveFollowed p fuel logs)
    (shots : List (List DumpShot)) (h : HasShots (shape_of p) logs shots)
    (in_time : (t i : ℕ) (s : DumpShot) → slice_get (shots_at shots t) i ≡ Some s → IsMadeInTime (numbering_of p) (cut_logs s.cut logs)) where
  shot_at : (t i : ℕ) (a : Shot) → slice_get (shots_of (map shots_left shots) t) i ≡ Some a
      → (s : DumpShot) × (slice_get (shots_at shots t) i ≡ Some s) × (shot_left s ≡ a)
  shot_at t i a e = left_at (shots_at shots t) i a (ap (λ (x : List Shot). slice_get x i) (sym (own_left shots t)) ∙ e)

  ordered_here : (t u i j : ℕ) (a b : Shot) → slice_get (shots_of (map shots_left shots) t) i ≡ Some a
      → slice_get (shots_of (map shots_left shots) u) j ≡ Some b
      → ((v : ℕ) → slice_index a.cut v ≤ slice_index b.cut v) ⊎ ((v : ℕ) → slice_index b.cut v ≤ slice_index a.cut v)
  ordered_here t u i j a b g k =
      let x = shot_at t i a g in
      let y = shot_at u j b k in
      elim (h.ordered t u i j x.0 y.0 x.1 y.1) [
        | inl less ↦ inl (λ v. subst (λ (z : Shot × Shot). slice_index z.0.cut v ≤ slice_index z.1.cut v) (λ l. (x.2 l, y.2 l)) (less v))
        | inr more ↦ inr (λ v. subst (λ (z : Shot × Shot). slice_index z.1.cut v ≤ slice_index z.0.cut v) (λ l. (x.2 l, y.2 l)) (more v))
      ]

  right_at : (t : ℕ) → AllByRecursion (IsRightShot p fuel logs) (shots_left (shots_at shots t))
  right_at t =
      all_map (IsRightShot p fuel logs) shot_left (shots_at shots t)
      (all_each (λ s. IsRightShot p fuel logs (shot_left s)) (shots_at shots t)
      (λ i s e. right fronts legals theirs p valid fuel logs f s
      (all_at (core.IsRightShot (shape_of p) logs) (shots_at shots t) i s (h.right t) e) (in_time t i s e)))

  pub right_shots : AreRightShots p fuel logs (map shots_left shots)
  right_shots =
      record {
        right = λ t.
            subst (AllByRecursion (IsRightShot p fuel logs)) (sym (own_left shots t)) (right_at t);
        dumps = λ t.
            ap (λ (x : List Shot). map (λ (s : Shot). (slice_index s.cut t, s.number)) x) (own_left shots t)
            ∙ places_left t (shots_at shots t) ∙ h.dumps t;
        ordered = ordered_here;
      }
