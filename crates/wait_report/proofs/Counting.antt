-- What the loop that counts entries keeps.
use Rattle.std.proofs.Common.{◌≡◌, ◌≢◌, ◌⊎◌, inl, inr, if◌then◌else◌, Bool, true, false, slice_index, slice_set, ℕ, zero, suc}
use Rattle.std.proofs.Common.{◌+◌, ◌-◌, ◌<◌, ◌≤◌, ◌^◌, List, [], ◌∷◌, ◌++◌, length, replicate, sym, ap, ◌∙◌, subst, arith}
use Rattle.std.proofs.lemmas.List.{get_or-set_other}
use Rattle.plain_monitor.specs.declared.entry.Path.{Path}
use Rattle.plain_monitor.specs.declared.entry.Entry.{Entry}
use Rattle.plain_monitor.specs.declared.entry.Entry.TheVariants.{Enter, Resume}
use Rattle.wait_report.specs.declared.tallies.Tally.{Tally}
use Rattle.wait_report.specs.inner.Tallies.{new_tally, had_by, entered_by, tally_at, count_at, TallyHasRoom, HaveRoom, reaching, after_entry, after_entries}
use Rattle.wait_report.proofs.Tallied.{none_yet}
use Rattle.wait_report.specs.Handovers.{is_handover}
use Rattle.lock_journal.specs.RunText.{path_number}
use Rattle.plain_monitor.specs.declared.entry.Logged.{Logged}
use Rattle.plain_monitor.proofs.Lists.{all_append, all_replicate, all_weaker}
use Rattle.std.proofs.lemmas.Bool.{cases_eq}

-- one count fits less where one was counted
less_room : (n : ℕ) (y : Tally) → TallyHasRoom (suc n) y → TallyHasRoom n y
less_room n y h = record { paths = λ path. omega (arith, h.paths path); handovers = omega (arith, h.handovers) }

had_room : (n t : ℕ) (y : Tally) → TallyHasRoom (suc n) y → TallyHasRoom n (had_by y t)
had_room n t y h = record { paths = λ path. omega (arith, h.paths path); handovers = by_handover (is_handover y.taker t) } where
  by_handover : (b : Bool) → y.handovers + (if b then 1 else 0) + n < 2 ^ 64
  by_handover true = omega (arith, h.handovers)
  by_handover false = omega (arith, h.handovers)

set_more : (xs : List ℕ) (i : ℕ) → slice_index (slice_set xs i (slice_index xs i + 1)) i ≤ slice_index xs i + 1
set_more [] i = omega arith
set_more (x ∷ xs) zero = omega arith
set_more (x ∷ xs) (suc i) = set_more xs i

entered_room : (n t : ℕ) (by : Path) (y : Tally) → TallyHasRoom (suc n) y → TallyHasRoom n (entered_by (had_by y t) by)
entered_room n t by y h =
    record { paths = λ path. by_path path (cases_eq (path_number path) (path_number by)); handovers = (had_room n t y h).handovers }
  where
    by_path : (path : Path) → (path_number path ≡ path_number by) ⊎ (path_number path ≢ path_number by)
        → count_at (slice_set y.paths (path_number by) (count_at y.paths by + 1)) path + n < 2 ^ 64
    by_path path (inl same) =
        let P : ℕ → Type 0 = λ k. slice_index (slice_set y.paths (path_number by) (count_at y.paths by + 1)) k + n < 2 ^ 64 in
        subst P (sym same) (omega (arith, set_more y.paths (path_number by), h.paths by))
    by_path path (inr other) =
        let e = get_or-set_other y.paths (path_number by) (path_number path) (count_at y.paths by + 1) 0 other in
        omega (arith, e, h.paths path)

-- one tally is written
set_room : (n : ℕ) (f : Tally → Tally) (ys : List Tally) (k : ℕ) → ((y : Tally) → TallyHasRoom (suc n) y → TallyHasRoom n (f y))
    → HaveRoom (suc n) ys → HaveRoom n (slice_set ys k (f (tally_at ys k)))
set_room n f [] k here h = tt
set_room n f (y ∷ ys) zero here h = (here y h.0, all_weaker (TallyHasRoom (suc n)) (TallyHasRoom n) (less_room n) ys h.1)
set_room n f (y ∷ ys) (suc k) here h = (less_room n y h.0, set_room n f ys k here h.1)

-- new tallies have room for as many as a number of 64 bits counts
pub added_room : (n k : ℕ) (ys : List Tally) → n < 2 ^ 64 → HaveRoom n ys → HaveRoom n (ys ++ replicate k new_tally)
added_room n k ys small h = all_append (TallyHasRoom n) ys (replicate k new_tally) h (all_replicate (TallyHasRoom n) k new_tally new_room) where
  new_room : TallyHasRoom n new_tally
  new_room = record { paths = λ path. omega (arith, none_yet path, small); handovers = omega (arith, small) }

-- the tallies after an entry have room for those that are left
room_on : (n t : ℕ) (e : Entry) (ys : List Tally) → suc n < 2 ^ 64 → HaveRoom (suc n) ys → HaveRoom n (after_entry ys t e)
room_on n t (Enter k by) ys small h =
    set_room n (λ y. entered_by (had_by y t) by) (reaching ys k) k (entered_room n t by) (added_room (suc n) ((k + 1) - length ys) ys small h)
room_on n t (Resume k) ys small h = set_room n (λ y. had_by y t) (reaching ys k) k (had_room n t) (added_room (suc n) ((k + 1) - length ys) ys small h)
room_on n t e ys small h = all_weaker (TallyHasRoom (suc n)) (TallyHasRoom n) (less_room n) ys h

-- the tallies after the next entry, and their room for those that are left, which are few
pub record IsOn (ys after : List Tally) (xs rest : List (ℕ × Logged)) : Type 0 where
  pub tallies : after_entries after rest ≡ after_entries ys xs
  pub room : HaveRoom (length rest) after
  pub small : length rest < 2 ^ 64

pub entry_on : (ys after : List Tally) (t : ℕ) (l : Logged) (xs rest : List (ℕ × Logged))
    → xs ≡ (t, l) ∷ rest → after ≡ after_entry ys t l.entry → length xs < 2 ^ 64 → HaveRoom (length xs) ys
    → IsOn ys after xs rest
entry_on ys after t l xs rest first is small room =
    let some : HaveRoom (suc (length rest)) ys = subst (λ (n : ℕ). HaveRoom n ys) (ap length first) room in
    let one : suc (length rest) < 2 ^ 64 = subst (λ (n : ℕ). n < 2 ^ 64) (ap length first) small in
    record {
      tallies = ap (λ zs. after_entries zs rest) is ∙ ap (after_entries ys) (sym first);
      room = subst (HaveRoom (length rest)) (sym is) (room_on (length rest) t l.entry ys one some);
      small = omega (arith, one);
    }
