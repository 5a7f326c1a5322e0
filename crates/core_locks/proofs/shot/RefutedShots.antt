-- A shot that shows a thread as an owner without its enter, that differs from its own cut of the logs, or that leaves out an entry which stands
-- before one that it has, is right over no logs.
use Rattle.core_locks.proofs.Prelude.{◌≡◌, ◌≢◌, ℕ, zero, suc, ◌+◌, ◌<◌, ◌≤◌, Bool, true, false, cond, List, [], ◌∷◌, ◌++◌, length, slice_index}
use Rattle.core_locks.proofs.Prelude.{Option, Some, None, refl, sym, ap, ◌∙◌, subst, arith, same_Some, eq-eqb, is_thread, PlainObject, Logged, WordId}
use Rattle.core_locks.proofs.Prelude.{Safepoint, World, logs, world_after, known_hit, monitor_of, CallContext, one_if, AllByRecursion, LegalObjects}
use Rattle.core_locks.proofs.Prelude.{objects_after, log_of, Entry, Enter, Exit, Shape, Valid, logs_stay, log_at, logs_length, keep_shot_plan}
use Rattle.std.proofs.Common.{slice_get, take}
use Rattle.std.specs.Prelude.{MatchOption}
use Rattle.plain_monitor.specs.Objects.{new_object}
use Rattle.plain_monitor.proofs.Lists.{all_or}
use Rattle.plain_monitor.specs.Order.{is_before}
use Rattle.plain_monitor.proofs.Orders.{before_asym}
use Rattle.plain_history.specs.Cuts.{cut_logs}
use Rattle.plain_history.specs.Tied.{is_tied}
use Rattle.plain_history.proofs.InOrder.{in_order_at}
use Rattle.plain_history.specs.HeldByLog.{held_by, held_after, nothing_held}
use Rattle.plain_history.specs.Sound.{IsSound}
use Rattle.plain_history.proofs.HeldByLog.{holds_by_log}
use Rattle.plain_history.proofs.SoundHistories.{history_sound}
use Rattle.plain_history.proofs.SoundSteps.{free_sound}
use Rattle.core_world.specs.Threads.ThreadView.{DumpShot}
use Rattle.core_world.specs.Shots.{IsRightShot, cell_in, cells_of}
use Rattle.core_world.specs.Steps.{shot_of, owner_and_count_in, cells_from, seen_words}
use Rattle.core_locks.specs.ShotLaws.{enters}
use Rattle.core_locks.proofs.shot.Shoots.{shot_kept}
use Rattle.core_locks.proofs.shot.ValidShots.{valid_shots}

-- the last of a list
last_stands : {A : Type 0} (xs : List A) (x : A) → slice_get (xs ++ x ∷ []) (length xs) ≡ Some x
last_stands [] x = refl
last_stands (y ∷ xs) x = last_stands xs x

-- a cell that was seen, and a plain one
seen_cell : (i o j : ℕ) (xs : List (ℕ × ℕ)) (s : Shape) (f : WordId → ℕ) → j ≡ i + o
    → o < length xs → slice_get (cells_from i xs s f) o ≡ Some (owner_and_count_in s f j)
seen_cell i o j [] s f e h = absurd (omega (arith, h))
seen_cell i zero j (x ∷ xs) s f e h = let same : i ≡ j = omega (arith, e) in ap (λ k. Some (owner_and_count_in s f k)) same
seen_cell i (suc o) j (x ∷ xs) s f e h = seen_cell (i + 1) o j xs s f (omega (arith, e)) (omega (arith, h))

plain_cell : (P : List PlainObject) (o : ℕ) (c : Option ℕ × ℕ) → slice_get (cells_of P) o ≡ Some c → c ≡ cell_in (monitor_of P o)
plain_cell [] o c h = absurd (cc h)
plain_cell (x ∷ P) zero c h = sym (same_Some (cell_in x.monitor) c h)
plain_cell (x ∷ P) (suc o) c h = plain_cell P o c h

-- what a cut leaves of a thread's log
log_cut : (cut : List ℕ) (all : List (List Logged)) (u : ℕ) → length cut ≡ length all → log_of (cut_logs cut all) u ≡ take (slice_index cut u) (log_of all u)
log_cut [] [] u e = refl
log_cut [] (log ∷ all) u e = absurd (omega (arith, e))
log_cut (n ∷ cut) [] u e = absurd (omega (arith, e))
log_cut (n ∷ cut) (log ∷ all) zero e = refl
log_cut (n ∷ cut) (log ∷ all) (suc u) e = log_cut cut all u (omega (arith, e))

-- a thread whose log has no Enter of o holds o no time by its log
never_held : (log : List Logged) (o : ℕ) (held : ℕ → ℕ) → held o ≡ 0 → AllByRecursion (λ l. enters o l.entry ≡ false) log → held_by held log o ≡ 0
never_held [] o held none h = none
never_held (l ∷ log) o held none h = never_held log o (held_after l.entry held) (by_entry l.entry h.0) h.1
  where
    by_entry : (e : Entry) → enters o e ≡ false → held_after e held o ≡ 0
    by_entry (Enter i path) g = let a = ap one_if g in omega (arith, a, none)
    by_entry (Exit i) g = omega (arith, none)
    by_entry _ g = none

-- and so is not its owner
unowned : (shape : List (ℕ × ℕ)) (all : List (List Logged)) (P : List PlainObject) (u o : ℕ) → LegalObjects shape all → objects_after shape all ≡ Some P
    → AllByRecursion (λ l. enters o l.entry ≡ false) (log_of all u) → (monitor_of P o).owner ≡ Some u → ⊥
unowned shape all P u o legal taken none is =
    let stands = holds_by_log shape all P legal taken u o in
    let never = never_held (log_of all u) o nothing_held refl none in
    let sound : IsSound (monitor_of P o) = all_or (λ (x : PlainObject). IsSound x.monitor) P o (new_object 0) free_sound (history_sound shape all P taken) in
    let some : 0 < (monitor_of P o).count = subst (λ a. MatchOption a ((monitor_of P o).count ≡ 0) (λ t. 0 < (monitor_of P o).count)) is sound.held in
    let own : is_thread (monitor_of P o).owner u ≡ true = ap (λ a. is_thread a u) is ∙ eq-eqb u u refl in
    let count = ap (λ (b : Bool). cond b (monitor_of P o).count 0) own in
    absurd (omega (arith, stands, never, some, count))

-- no right shot shows an owner of o whose log it cuts before its first enter of o
pub wrong_owner : (shape : List (ℕ × ℕ)) (all : List (List Logged)) (shot : DumpShot) (o u : ℕ) (c : Option ℕ × ℕ)
    → IsRightShot shape all shot → slice_get shot.cells o ≡ Some c → c.0 ≡ Some u
    → AllByRecursion (λ l. enters o l.entry ≡ false) (take (slice_index shot.cut u) (log_of all u)) → ⊥
wrong_owner shape all shot o u c r cell owner none =
    let front = subst (AllByRecursion (λ l. enters o l.entry ≡ false)) (sym (log_cut shot.cut all u r.threads)) none in
    let plain = plain_cell r.objects o c (ap (λ cs. slice_get cs o) (sym r.cells) ∙ cell) in
    unowned shape (cut_logs shot.cut all) r.objects u o r.legal r.taken front (ap (λ (x : Option ℕ × ℕ). x.0) (sym plain) ∙ owner)

module _ (w : World) (t u o : ℕ) (e : CallContext) (valid : Valid (world_after (keep_shot_plan e) t w)) where
  abbrev x : World
  x = world_after (keep_shot_plan e) t w

  abbrev shot : DumpShot
  shot = shot_of w.shape (w.known t)

  -- the step logs nothing, and the shot stands last
  right : IsRightShot w.shape.objects (logs w) shot
  right =
      let last = ap (λ xs. slice_get xs (length (w.known t).shots)) (shot_kept w t e) ∙ last_stands (w.known t).shots shot in
      let same : logs x ≡ logs w = logs_stay 0 w.shape.threads t (known_hit w.shape w.start (keep_shot_plan e) (w.words Safepoint) (w.known t)) w.known refl in
      subst (λ all. IsRightShot w.shape.objects all shot) same ((valid_shots x valid.objects valid.is).right t (length (w.known t).shots) shot last)

  pub no_such_shot : u < w.shape.threads → o < length w.shape.objects → (owner_and_count_in w.shape (seen_words (w.known t)) o).0 ≡ Some u
      → AllByRecursion (λ l. enters o l.entry ≡ false) (take (slice_index shot.cut u) (w.known u).log) → ⊥
  no_such_shot within object owner none =
      wrong_owner w.shape.objects (logs w) shot o u (owner_and_count_in w.shape (seen_words (w.known t)) o) right
      (seen_cell 0 o o w.shape.objects w.shape (seen_words (w.known t)) (omega arith) object) owner
      (subst (λ log. AllByRecursion (λ l. enters o l.entry ≡ false) (take (slice_index shot.cut u) log))
      (sym (log_at 0 w.shape.threads u u w.known (omega arith) within)) none)

  -- what it shows of each object is the owner and count after its cut, where it has some
  pub no_other_shown : (P : List PlainObject) → o < length w.shape.objects → objects_after w.shape.objects (cut_logs shot.cut (logs w)) ≡ Some P
      → owner_and_count_in w.shape (seen_words (w.known t)) o ≢ cell_in (monitor_of P o) → ⊥
  no_other_shown P object after other =
      let same : right.objects ≡ P = same_Some _ _ (sym right.taken ∙ after) in
      let cell = seen_cell 0 o o w.shape.objects w.shape (seen_words (w.known t)) (omega arith) object in
      other (plain_cell right.objects o _ (ap (λ cs. slice_get cs o) (sym right.cells) ∙ cell) ∙ ap (λ R. cell_in (monitor_of R o)) same)

  -- it leaves out nothing that stands before what it has
  pub no_earlier_left_out : (v i j : ℕ) (l m : Logged) → u < w.shape.threads → v < w.shape.threads
      → slice_get (w.known u).log i ≡ Some l → i < slice_index shot.cut u → slice_get (w.known v).log j ≡ Some m → slice_index shot.cut v ≤ j
      → is_tied l.entry m.entry ≡ true → is_before (v, m) (u, l) ≡ true → ⊥
  no_earlier_left_out v i j l m u-there v-there at-l before at-m since tied earlier =
      let log_is : (n : ℕ) → n < w.shape.threads → log_of (logs w) n ≡ (w.known n).log =
      λ n there. log_at 0 w.shape.threads n n w.known (omega arith) there in
      let many = logs_length 0 w.shape.threads w.known in
      let as_many = right.threads in
      let at-u = ap (λ log. slice_get log i) (log_is u u-there) ∙ at-l in
      let at-v = ap (λ log. slice_get log j) (log_is v v-there) ∙ at-m in
      let first = in_order_at shot.cut (logs w) u v i j l m right.in_order at-u before at-v since (omega (arith, many, as_many, v-there)) tied in
      let not_first = before_asym (v, m) (u, l) earlier in
      absurd (cc (first, not_first))

  pub no_cut_refused : objects_after w.shape.objects (cut_logs shot.cut (logs w)) ≡ None → ⊥
  no_cut_refused none = let some = right.taken in cc (some, none)
