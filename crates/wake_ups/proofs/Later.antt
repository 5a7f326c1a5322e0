-- From a world to which a heap comes on, who is notified stays so until its own Resume.
use Rattle.core_locks.proofs.Prelude.{◌≡◌, ◌≢◌, ℕ, ◌+◌, ◌<◌, ◌≤◌, ◌==◌, ◌&&◌, max, cond, Bool, true, false, List, [], ◌∷◌, ◌++◌}
use Rattle.core_locks.proofs.Prelude.{length, None, refl, sym, ap, ◌∙◌, subst, arith, inl, inr, same_Some, is_listed, PlainObject}
use Rattle.core_locks.proofs.Prelude.{Entry, Logged, World, logs, notified_at, ThreadView, StepPlan, last_stamp, log_of, objects_after}
use Rattle.core_locks.proofs.Prelude.{LegalObjects, new_objects, order, order_appended, StepMade, hits, by_equal, ne_eqb}
use Rattle.plain_monitor.specs.Order.{insert_ordered}
use Rattle.plain_monitor.specs.declared.entry.Entry.TheVariants as entry
use Rattle.plain_history.proofs.SoundHistories.{new_sound}
use Rattle.core_world.specs.declared.plan.LogEffect.{LogEffect}
use Rattle.core_world.specs.declared.plan.LogEffect.TheVariants.{Quiet, Log, LogGet, LogHash}
use Rattle.core_world.specs.Steps.{is_taking, stamp_by, with_entry, log_after, known_after, known_hit, known_miss, world_after}
use Rattle.core_world.specs.Trees.Operations.{value_found}
use Rattle.core_world.specs.Words.Forms.{hash_in}
use Rattle.core_world.specs.Words.Shape.{Shape, IsInLimits}
use Rattle.plain_monitor.specs.ValueWords.{read_value}
use Rattle.core_world.specs.Valid.{IsValid}
use Rattle.core_world.proofs.KnowledgeParts.{logs_length, log_at, logs_stay, logs_grow, with_known_here, with_known_else}
use Rattle.core_world.proofs.bias.LookWhileRevoking.{forgotten}
use Rattle.core_world.proofs.RefusedWorlds.{revoking_logs}
use Rattle.core_law.specs.WholeLaw.{LawsHold}
use Rattle.core_law.specs.Logic.{Heap}
use Rattle.core_law.specs.Reached.{IsReachable, moves}
use Rattle.core_steps.proofs.ReachedWorlds.{reached_worlds_valid}
use Rattle.step_history.specs.Leads.{Leads, stays, goes}
use Rattle.step_history.proofs.Listed.{listed_reached}
use Rattle.wake_ups.specs.WakeUps.{AreAfterLogs, is_resume, resumes_of}
use Rattle.wake_ups.proofs.PlainStands.{stands_at, after_all, all_stand, inserted_ahead, Ahead}

-- THE OBJECTS of a world to which a heap comes
pub record Told (w : World) : Type 0 where
  pub objects : List PlainObject
  pub legal : LegalObjects w.shape.objects (logs w)
  pub taken : AreAfterLogs w objects

told : (w : World) (P : List PlainObject) → IsValid w P → Told w
told w P (inl fits) = record { objects = P; legal = fits.legal; taken = fits.taken }
told w P (inr s) =
    let e = revoking_logs w P s in
    record {
      objects = P;
      legal = subst (λ all. LegalObjects w.shape.objects all) (sym e)
          (subst (λ (x : Shape). LegalObjects x.objects (logs s.before)) (sym s.shape) s.fits.legal);
      taken = ap (objects_after w.shape.objects) e ∙ ap (λ (x : Shape). objects_after x.objects (logs s.before)) s.shape ∙ s.fits.taken;
    }

pub reached_told : (heap : Heap) (w : World) → IsInLimits heap.shape → IsReachable heap w → Told w
reached_told heap w limits c =
    let v = reached_worlds_valid heap w limits c in
    told w v.objects (forgotten LawsHold w v.objects v.is)

-- RESUMES in a log
resumes_more : (o : ℕ) (log : List Logged) (l : Logged) → resumes_of o (log ++ l ∷ []) ≡ resumes_of o log + cond (is_resume o l.entry) 1 0
resumes_more o [] l = omega arith
resumes_more o (x ∷ log) l = let ih = resumes_more o log l in omega (arith, ih)

one_by : (b : Bool) → b ≡ true → ◌≡◌ {A = ℕ} (cond b 1 0) 1
one_by b e = ap (λ (c : Bool). cond {A = ℕ} c 1 0) e

-- a new entry is stamped above the last
stamped_above : (e : Entry) (n last : ℕ) → last < stamp_by e n last
stamped_above e n last = by_test (is_taking e)
  where
    by_test : (b : Bool) → last < cond b (max n last + 1) (last + 1)
    by_test true = grind arith
    by_test false = omega arith

-- ONE STEP, of thread u
module _ (w : World) (u : ℕ) (p : StepPlan) (within : u < w.shape.threads) (t o : ℕ) (before : Told w) (P Q : List PlainObject) (was : AreAfterLogs w P)
    (is : AreAfterLogs (world_after p u w) Q) where
  abbrev n : ℕ
  n = w.words p.at

  abbrev log : List Logged
  log = (w.known u).log

  abbrev k : ThreadView
  k = known_after w.shape w.start p n (w.known u)

  abbrev Notified : List PlainObject → Type 0
  Notified R = is_listed (notified_at R o) t ≡ true

  -- thread t stays notified, or its log has one Resume more
  pub record After : Type 0 where
    pub grows : resumes_of o (w.known t).log ≤ resumes_of o ((world_after p u w).known t).log
    pub stays : Notified P → resumes_of o ((world_after p u w).known t).log ≡ resumes_of o (w.known t).log → Notified Q

  own_log : (R : List Logged → Type 0) → (t ≡ u → R k.log) → (t ≢ u → R (w.known t).log) → R ((world_after p u w).known t).log
  own_log R mine others =
      by_equal t u
      (λ e. subst R (sym (ap (λ i. ((world_after p u w).known i).log) e ∙ ap (λ (y : ThreadView). y.log) (with_known_here u k w.known))) (mine e))
      (λ d. subst R (sym (ap (λ (y : ThreadView). y.log) (with_known_else u k w.known t d))) (others d))

  same_logs : k.log ≡ log → After
  same_logs same =
      let all : logs (world_after p u w) ≡ logs w = logs_stay 0 w.shape.threads u k w.known same in
      let equal : P ≡ Q = same_Some P Q (sym was ∙ ap (objects_after w.shape.objects) (sym all) ∙ is) in
      record {
        grows = own_log (λ l. resumes_of o (w.known t).log ≤ resumes_of o l)
            (λ e. let s = ap (resumes_of o) (same ∙ ap (λ i. (w.known i).log) (sym e)) in omega (arith, s)) (λ d. omega arith);
        stays = λ called _. subst Notified equal called;
      }

  one_more : (e : Entry) → k.log ≡ with_entry e n log → After
  one_more e grown = record {
    grows = own_log (λ l. resumes_of o (w.known t).log ≤ resumes_of o l)
        (λ e. let s = more e in omega (arith, s)) (λ d. omega arith);
    stays = λ called none. (ahead (not_mine none)).second called;
  }
    where
      y : Logged
      y = record { stamp = stamp_by e n (last_stamp log); entry = e }

      more : t ≡ u → resumes_of o k.log ≡ resumes_of o (w.known t).log + cond (is_resume o e) 1 0
      more mine = ap (resumes_of o) (grown ∙ ap (λ i. (w.known i).log ++ y ∷ []) (sym mine)) ∙ resumes_more o (w.known t).log y

      -- the entry isn't t's Resume of o, since t's log has none more
      not_mine : resumes_of o ((world_after p u w).known t).log ≡ resumes_of o (w.known t).log → (is_resume o e && (u == t)) ≡ false
      not_mine none = by_equal t u (λ s. mine s) (λ d. ap (λ b. is_resume o e && b) (ne_eqb u t (λ s. d (sym s))) ∙ never (is_resume o e))
        where
          never : (b : Bool) → (b && false) ≡ false
          never true = refl
          never false = refl

          mine : t ≡ u → (is_resume o e && (u == t)) ≡ false
          mine s = by_test (is_resume o e) refl
            where
              now : resumes_of o k.log ≡ resumes_of o (w.known t).log
              now = ap (λ (y : ThreadView). resumes_of o y.log) (sym (ap (λ i. (world_after p u w).known i) s ∙ with_known_here u k w.known)) ∙ none

              by_test : (b : Bool) → is_resume o e ≡ b → (b && (u == t)) ≡ false
              by_test false f = refl
              by_test true f = let m = more s in let one = one_by (is_resume o e) f in absurd (omega (arith, m, one, now))

      many : u < length (logs w)
      many = let a = logs_length 0 w.shape.threads w.known in omega (arith, a, within)

      up : last_stamp (log_of (logs w) u) < y.stamp
      up = subst (λ l. last_stamp l < y.stamp) (sym (log_at 0 w.shape.threads u u w.known (omega arith) within)) (stamped_above e n (last_stamp log))

      in_order : order (logs (world_after p u w)) ≡ insert_ordered (u, y) (order (logs w))
      in_order = ap order (logs_grow w.shape.threads u y k w.known within grown) ∙ order_appended (logs w) u y before.legal.rises many up

      first : List PlainObject
      first = new_objects w.shape.objects

      ahead : (is_resume o e && (u == t)) ≡ false → Ahead t o (stands_at t o P) (stands_at t o Q)
      ahead other =
          let a = all_stand t o (order (logs w)) first P (new_sound w.shape.objects) was in
          let b = all_stand t o (order (logs (world_after p u w))) first Q (new_sound w.shape.objects) is in
          let c = inserted_ahead t o (u, y) (order (logs w)) (stands_at t o first) other in
          subst (λ s. Ahead t o s (stands_at t o Q)) (sym a)
          (subst (λ s. Ahead t o (after_all t o (order (logs w)) (stands_at t o first)) s)
          (sym (b ∙ ap (λ xs. after_all t o xs (stands_at t o first)) in_order)) c)

  by_note : (note : LogEffect) → k.log ≡ log_after note n log → After
  by_note Quiet e = same_logs e
  by_note (Log e) grown = one_more e grown
  by_note (LogGet i slot) grown = one_more (entry.Get i slot (value_found (read_value n))) grown
  by_note (LogHash i) e = by_test (hash_in n == 0) e
    where
      by_test : (b : Bool) → k.log ≡ cond b log (with_entry (entry.Hash i (hash_in n) None) n log) → After
      by_test true same = same_logs same
      by_test false grown = one_more (entry.Hash i (hash_in n) None) grown

  pub stepped : After
  stepped = by_hit (hits p.act n) refl
    where
      log_by : (b : Bool) → hits p.act n ≡ b
          → k.log ≡ (cond b (known_hit w.shape w.start p n (w.known u)) (known_miss w.shape w.start p n (w.known u))).log
      log_by b e = ap (λ (a : Bool). (cond a (known_hit w.shape w.start p n (w.known u)) (known_miss w.shape w.start p n (w.known u))).log) e

      by_hit : (b : Bool) → hits p.act n ≡ b → After
      by_hit true e = by_note p.note (log_by true e)
      by_hit false e = same_logs (log_by false e)

-- ALL STEPS
module _ (heap : Heap) (limits : IsInLimits heap.shape) (w : World) (t o : ℕ) (c : IsReachable heap w) (P : List PlainObject) (was : AreAfterLogs w P)
    (called : is_listed (notified_at P o) t ≡ true) where
  record Since (v : World) : Type 0 where
    pub grows : resumes_of o (w.known t).log ≤ resumes_of o (v.known t).log
    pub stays : resumes_of o (v.known t).log ≡ resumes_of o (w.known t).log → (Q : List PlainObject) → AreAfterLogs v Q
        → is_listed (notified_at Q o) t ≡ true

  since : (v : World) (xs : List (ℕ × StepMade)) → Leads w xs v → Since v
  since v xs stays =
      record {
        grows = omega arith;
        stays = λ none Q is. subst (λ R. is_listed (notified_at R o) t ≡ true) (same_Some P Q (sym was ∙ is)) called;
      }
  since v xs (goes ys x u p before within next) =
      let r = since x ys before in
      let middle = reached_told heap x limits (listed_reached heap w x ys c before) in
      let step : (Q : List PlainObject) → AreAfterLogs v Q → After x u p within t o middle middle.objects Q middle.taken _ =
      λ Q is. stepped x u p within t o middle middle.objects Q middle.taken is in
      let last = reached_told heap v limits (moves x u p (listed_reached heap w x ys c before) within next) in
      let g = (step last.objects last.taken).grows in
      record {
        grows = let h = r.grows in omega (arith, g, h);
        stays = λ none Q is.
            let h = r.grows in
            let still : resumes_of o (x.known t).log ≡ resumes_of o (w.known t).log = omega (arith, g, h, none) in
            (step Q is).stays (r.stays still middle.objects middle.taken) (none ∙ sym still);
      }

pub notified_stay : (heap : Heap) (w v : World) (xs : List (ℕ × StepMade)) (P Q : List PlainObject) (t o : ℕ) → IsInLimits heap.shape → IsReachable heap w
    → Leads w xs v → AreAfterLogs w P → AreAfterLogs v Q → is_listed (notified_at P o) t ≡ true
    → resumes_of o (v.known t).log ≡ resumes_of o (w.known t).log → is_listed (notified_at Q o) t ≡ true
notified_stay heap w v xs P Q t o limits c leads was is called none = (since heap limits w t o c P was called v xs leads).stays none Q is
