-- Why a thread doesn't rest whose words or shots say something else than its own log.
use Rattle.std.proofs.Common.{◌≡◌, ℕ, zero, suc, ◌<◌, ◌≤◌, ◌==◌, true, false, List, [], ◌∷◌, length, replicate, slice_index}
use Rattle.std.proofs.Common.{refl, sym, ap, ◌∙◌, arith, eq-eqb}
use Rattle.std.specs.List.{sum, list_all}
use Rattle.std.proofs.lemmas.List.{length-replicate}
use Rattle.plain_monitor.specs.Limits.{most_holds}
use Rattle.plain_monitor.specs.declared.entry.Entry.TheVariants.{Dump, Enter, Exit, Wait}
use Rattle.plain_monitor.specs.declared.entry.Logged.{Logged}
use Rattle.plain_monitor.specs.declared.entry.Path.{Path}
use Rattle.plain_history.specs.HeldByLog.{held_by, nothing_held}
use Rattle.wait_history.specs.WaitsByLog.{waits_by}
use Rattle.core_world.specs.Locks.{hold_count}
use Rattle.core_world.specs.Shots.{dumps_from}
use Rattle.core_world.specs.Threads.ThreadView.{DumpShot}
use Rattle.core_world.specs.Trees.Plans.{free_place}
use Rattle.core_world.specs.Words.Forms.{waits_on}
use Rattle.heap_table.specs.Kept.{all_holds}
use Rattle.heap_table.specs.Resting.{Rests}
use Rattle.heap_table.specs.Seen.{HeapSeen, PassSeen}
use Rattle.own_logs.specs.HoldsByLog.{AreHolds}
use Rattle.own_logs.proofs.OwnHolds.{own_number, own_all, own_full, own_none}
use Rattle.own_logs.proofs.OwnShots.{own_shots}
use Rattle.own_logs.proofs.OwnWaits.{own_waits}

-- nothing is held of each object
zero_at : (n o : ℕ) → slice_index (replicate n 0) o ≡ 0
zero_at zero o = refl
zero_at (suc n) zero = refl
zero_at (suc n) (suc o) = zero_at n o

zero_sum : (n : ℕ) → sum (replicate n 0) ≡ 0
zero_sum zero = refl
zero_sum (suc n) = let a = zero_sum n in omega (arith, a)

module _ (h : HeapSeen) (p : PassSeen) where
  held_is : (log : List Logged) (o : ℕ) → p.known.log ≡ log → Rests h p → hold_count o p.known.holds ≡ held_by nothing_held log o
  held_is log o is rests = own_number h p o rests ∙ ap (λ (x : List Logged). held_by nothing_held x o) is

  pub not_more : (o m n : ℕ) (path : Path) → o < length h.heap.shape.objects
      → p.known.log ≡ record { stamp = m; entry = Enter o path } ∷ record { stamp = n; entry = Exit o } ∷ []
      → 1 ≤ hold_count o p.known.holds → Rests h p → ⊥
  not_more o m n path within is held rests =
      let told = held_is (record { stamp = m; entry = Enter o path } ∷ record { stamp = n; entry = Exit o } ∷ []) o is rests in
      absurd (omega (arith, held, told))

  pub not_fewer : (o n : ℕ) (path : Path) → o < length h.heap.shape.objects
      → p.known.log ≡ record { stamp = n; entry = Enter o path } ∷ []
      → hold_count o p.known.holds ≡ 0 → Rests h p → ⊥
  not_fewer o n path within is none rests =
      let told : hold_count o p.known.holds ≡ 1 =
      held_is (record { stamp = n; entry = Enter o path } ∷ []) o is rests ∙ (rw (eq-eqb o o refl) refl) in
      absurd (omega (arith, none, told))

  nothing : p.known.log ≡ [] → AreHolds h p (replicate (length h.heap.shape.objects) 0)
  nothing is =
      let n = length h.heap.shape.objects in
      record {
        count = length-replicate n 0;
        each = λ o within. zero_at n o ∙ ap (λ (x : List Logged). held_by nothing_held x o) (sym is);
      }

  pub not_any : p.known.log ≡ [] → 1 ≤ all_holds p.known.holds → Rests h p → ⊥
  not_any is held rests =
      let n = length h.heap.shape.objects in
      let told = own_all h p (replicate n 0) rests (nothing is) in
      let none = zero_sum n in
      absurd (omega (arith, held, told, none))

  pub not_one : p.known.log ≡ [] → list_all (λ w. w == 0) p.known.holds ≡ false → Rests h p → ⊥
  not_one is held rests =
      let n = length h.heap.shape.objects in
      let told = own_none h p (replicate n 0) rests (nothing is) (zero_sum n) in
      absurd (cc (held, told))

  pub not_full : (holds : List ℕ) → AreHolds h p holds → sum holds < most_holds → free_place p.known.holds ≡ most_holds
      → Rests h p → ⊥
  not_full holds are few full rests =
      let told = own_full h p holds rests are few in
      let is = eq-eqb (free_place p.known.holds) most_holds full in
      absurd (cc (told, is))

  waits_is : (log : List Logged) (o : ℕ) → p.known.log ≡ log → Rests h p → waits_on p.known.wait o ≡ waits_by false log o
  waits_is log o is rests = own_waits h p o rests ∙ ap (λ (x : List Logged). waits_by false x o) is

  pub not_silent : (o m n : ℕ) (path : Path) → o < length h.heap.shape.objects
      → p.known.log ≡ record { stamp = m; entry = Enter o path } ∷ record { stamp = n; entry = Wait o } ∷ []
      → waits_on p.known.wait o ≡ false → Rests h p → ⊥
  not_silent o m n path within is silent rests =
      let told = waits_is (record { stamp = m; entry = Enter o path } ∷ record { stamp = n; entry = Wait o } ∷ []) o is rests in
      let same = eq-eqb o o refl in
      absurd (cc (told, silent, same))

  pub not_early : (o : ℕ) → o < length h.heap.shape.objects → p.known.log ≡ [] → waits_on p.known.wait o ≡ true → Rests h p → ⊥
  not_early o within is early rests =
      let told : waits_on p.known.wait o ≡ false = waits_is [] o is rests in
      absurd (cc (told, early))

  shots_are : (log : List Logged) → p.known.log ≡ log → Rests h p → length p.known.shots ≡ length (dumps_from 0 log)
  shots_are log is rests = own_shots h p rests ∙ ap (λ (x : List Logged). length (dumps_from 0 x)) is

  pub no_fewer_shots : (n : ℕ) → p.known.log ≡ record { stamp = n; entry = Dump 1 } ∷ [] → p.known.shots ≡ [] → Rests h p → ⊥
  no_fewer_shots n is none rests =
      let told : length p.known.shots ≡ 1 = shots_are (record { stamp = n; entry = Dump 1 } ∷ []) is rests in
      let empty : length p.known.shots ≡ 0 = ap (λ (x : List DumpShot). length x) none in
      absurd (omega (arith, told, empty))

  pub no_more_shots : p.known.log ≡ [] → 1 ≤ length p.known.shots → Rests h p → ⊥
  no_more_shots is some rests =
      let told : length p.known.shots ≡ 0 = shots_are [] is rests in
      absurd (omega (arith, told, some))
