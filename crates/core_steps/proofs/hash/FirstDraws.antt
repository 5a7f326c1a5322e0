-- In each world to which a heap comes the draw of an object is the first of the object's hashes in its log, and the hashes are draws.
use Rattle.std.proofs.Common.{◌≡◌, ◌≢◌, ℕ, suc, ◌<◌, ◌==◌, ◌||◌, eq-eqb, eqb-true, ne_eqb, Bool, true, false, cond, List, []}
use Rattle.std.proofs.Common.{◌∷◌, ◌++◌, length, slice_get, Option, Some, None, refl, sym, ap, ◌∙◌, subst, arith, inl, inr}
use Rattle.std.proofs.lemmas.List.{get_or-set_same, get_or-set_other}
use Rattle.plain_monitor.specs.declared.entry.Entry.{Entry}
use Rattle.plain_monitor.specs.declared.entry.Entry.TheVariants as entry
use Rattle.plain_monitor.specs.declared.entry.Logged.{Logged}
use Rattle.plain_monitor.specs.Objects.{PlainObject}
use Rattle.plain_monitor.specs.History.{last_stamp, log_of, appended}
use Rattle.plain_monitor.specs.ValueWords.{read_value}
use Rattle.plain_history.specs.EnterPaths.{is_hash, has_hash}
use Rattle.plain_history.specs.HeldByLog.{or_zero}
use Rattle.core_world.specs.declared.plan.LogEffect.{LogEffect}
use Rattle.core_world.specs.declared.plan.LogEffect.TheVariants.{Quiet, Log, LogGet, LogHash}
use Rattle.core_world.specs.declared.plan.StepPlan.{StepPlan}
use Rattle.core_world.specs.Clauses.Draws.{all_draws, drawn_for, draw_in}
use Rattle.core_world.specs.Due.{IsNext}
use Rattle.core_world.specs.Opening.{opening}
use Rattle.core_world.specs.Steps.{stamp_by, with_entry, log_after, known_hit, known_miss, known_after, world_after}
use Rattle.core_world.specs.Threads.ThreadView.{ThreadView}
use Rattle.core_world.specs.Trees.Operations.{value_found}
use Rattle.core_world.specs.Valid.{Fits, IsValid}
use Rattle.core_world.specs.Words.Acts.{hits}
use Rattle.core_world.specs.Words.Forms.{hash_in}
use Rattle.core_world.specs.Words.Shape.{IsInLimits}
use Rattle.core_world.specs.World.{World, logs}
use Rattle.core_world.proofs.KnowledgeParts.{by_equal, logs_grow, logs_length, logs_stay}
use Rattle.core_world.proofs.bias.LookWhileRevoking.{forgotten}
use Rattle.core_world.proofs.RefusedWorlds.{revoking_logs, no_hash_drawn_twice}
use Rattle.core_locks.proofs.hash.Drawing.{all_more}
use Rattle.core_locks.proofs.hash.DrawnLogs.{hashes_drawn, valid_hashes}
use Rattle.core_locks.proofs.hash.PlainHashes.{above_after}
use Rattle.core_law.specs.WholeLaw.{LawsHold}
use Rattle.plain_history.specs.FirstDraws.{DrawsComeFirst}
use Rattle.core_law.specs.Draws.{HasDraws}
use Rattle.core_law.specs.Logic.{Heap}
use Rattle.core_law.specs.Reached.{IsReachable, opens, moves}
use Rattle.core_law.specs.Sound.{Sound}
use Rattle.core_steps.proofs.ExactWorlds.{empty_logs}
use Rattle.bias_law.proofs.LastEntry.{no_entries, last_or_before}
use Rattle.core_steps.proofs.ReachedWorlds.{comes_sound, next_step_sound, reached_worlds_sound}

-- ONE ENTRY MORE, which is no draw for an object of which its thread has logged a hash
module _ (all : List (List Logged)) (t : ℕ) (y : Logged) (within : t < length all)
    (new : (o value number : ℕ) → y.entry ≡ entry.Hash o value (Some number) → has_hash o (log_of all t) ≡ true → ⊥) where
  abbrev own : List Logged
  own = log_of all t

  not_seen : (o value number : ℕ) → y.entry ≡ entry.Hash o value (Some number) → (b : Bool) → has_hash o own ≡ b → has_hash o own ≡ false
  not_seen o value number is true has = absurd (new o value number is has)
  not_seen o value number is false has = has

  first_appended : DrawsComeFirst all → DrawsComeFirst (appended all t y)
  first_appended was u o value number before l later place is = by_equal u t
      (λ e.
      let own_now : log_of (appended all t y) t ≡ own ++ y ∷ [] = get_or-set_same all t (own ++ y ∷ []) [] within in
      elim (last_or_before own y before l later (sym own_now ∙ ap (log_of (appended all t y)) (sym e) ∙ place)) [
        | inl old ↦ was t o value number before l old.0 old.1 is
        | inr here ↦ subst (λ ls. has_hash o ls ≡ false) here.0 (not_seen o value number (ap (λ (z : Logged). z.entry) here.1 ∙ is) (has_hash o own) refl)
      ])
      (λ d.
      let other_now : log_of (appended all t y) u ≡ log_of all u = get_or-set_other all t u (own ++ y ∷ []) [] d in
      was u o value number before l later (sym other_now ∙ place) is)

-- A VALID WORLD has one draw of an object of which a hash was logged
record IsHashAt (o : ℕ) (log : List Logged) (i : ℕ) : Type 0 where
  l : Logged
  there : slice_get log i ≡ Some l
  value : ℕ
  drawn : Option ℕ
  is : l.entry ≡ entry.Hash o value drawn

entry_is : (o : ℕ) (e : Entry) → is_hash o e ≡ true → (v : ℕ) × (drawn : Option ℕ) × (e ≡ entry.Hash o v drawn)
entry_is o (entry.Hash object v drawn) h = (v, drawn, ap (λ i. entry.Hash i v drawn) (eqb-true object o h))
entry_is o _ h = absurd (cc h)

find_hash : (o : ℕ) (log : List Logged) → has_hash o log ≡ true → (i : ℕ) × IsHashAt o log i
find_hash o [] h = absurd (cc h)
find_hash o (l ∷ log) h = by_head (is_hash o l.entry) refl (λ g. find_hash o log g) h
  where
    by_head : (b : Bool) → is_hash o l.entry ≡ b → (has_hash o log ≡ true → (i : ℕ) × IsHashAt o log i)
        → (b || has_hash o log) ≡ true → (i : ℕ) × IsHashAt o (l ∷ log) i
    by_head true e later g = let a = entry_is o l.entry e in (0, record { l = l; there = refl; value = a.0; drawn = a.1; is = a.2 })
    by_head false e later g =
        let a = later g in (suc a.0, record { l = a.1.l; there = a.1.there; value = a.1.value; drawn = a.1.drawn; is = a.1.is })

-- an object with a logged hash has a hash, which isn't 0, and so one draw
pub fits_draw : (w : World) (P : List PlainObject) (o t : ℕ) → Fits w P → has_hash o (log_of (logs w) t) ≡ true → all_draws o (logs w) ≡ 1
fits_draw w P o t v h =
    let a = find_hash o (log_of (logs w) t) h in
    let is = (hashes_drawn w P v).says t a.0 o a.1.value a.1.drawn a.1.l a.1.there a.1.is in
    let above : a.1.value ≢ 0 = above_after w.shape.objects (logs w) P v.taken o a.1.value is in
    v.draws.one o ∙ ap (λ (b : Bool). cond b 0 1) (ap (λ n. n == 0) (ap or_zero is) ∙ ne_eqb a.1.value 0 above)

valid_draw : (w : World) (P : List PlainObject) (o t : ℕ) → IsValid w P → has_hash o (log_of (logs w) t) ≡ true → all_draws o (logs w) ≡ 1
valid_draw w P o t (inl v) h = fits_draw w P o t v h
valid_draw w P o t (inr s) h =
    let same = revoking_logs w P s in
    ap (all_draws o) same ∙ fits_draw s.before P o t s.fits (subst (λ all. has_hash o (log_of all t) ≡ true) same h)

-- A STEP from a valid world to a valid one
module _ (w : World) (t : ℕ) (p : StepPlan) (P Q : List PlainObject)
    (within : t < w.shape.threads) (valid : IsValid w P) (after : IsValid (world_after p t w) Q)
    (was : DrawsComeFirst (logs w)) where
  abbrev n : ℕ
  n = w.words p.at

  abbrev log : List Logged
  log = (w.known t).log

  abbrev k : ThreadView
  k = known_after w.shape w.start p n (w.known t)

  abbrev After : Type 0
  After = DrawsComeFirst (logs (world_after p t w))

  many : t < length (logs w)
  many = let a = logs_length 0 w.shape.threads w.known in omega (arith, a, within)

  same_logs : k.log ≡ log → After
  same_logs same = subst DrawsComeFirst (sym (logs_stay 0 w.shape.threads t k w.known same)) was

  one_more : (e : Entry) → k.log ≡ with_entry e n log → After
  one_more e grows = subst DrawsComeFirst (sym all) (first_appended (logs w) t y many new was)
    where
      y : Logged
      y = record { stamp = stamp_by e n (last_stamp log); entry = e }

      all : logs (world_after p t w) ≡ appended (logs w) t y
      all = logs_grow w.shape.threads t y k w.known within grows

      new : (o value number : ℕ) → y.entry ≡ entry.Hash o value (Some number) → has_hash o (log_of (logs w) t) ≡ true → ⊥
      new o value number is has =
          let one = valid_draw w P o t valid has in
          let drawn : drawn_for o (draw_in y.entry) ≡ 1 = ap (λ x. drawn_for o (draw_in x)) is ∙ ap (λ (b : Bool). cond b 1 0) (eq-eqb o o refl) in
          let more = ap (all_draws o) all ∙ all_more o t (logs w) y many in
          no_hash_drawn_twice (world_after p t w) o (record { objects = Q; is = after }) (omega (arith, one, drawn, more))

  by_note : (note : LogEffect) → k.log ≡ log_after note n log → After
  by_note Quiet is = same_logs is
  by_note (Log e) is = one_more e is
  by_note (LogGet o slot) is = one_more (entry.Get o slot (value_found (read_value n))) is
  by_note (LogHash o) is = by_test (hash_in n == 0) is
    where
      by_test : (b : Bool) → k.log ≡ cond b log (with_entry (entry.Hash o (hash_in n) None) n log) → After
      by_test true same = same_logs same
      by_test false grows = one_more (entry.Hash o (hash_in n) None) grows

  stepping_first : After
  stepping_first = by_hit (hits p.act n) refl
    where
      log_by : (b : Bool) → hits p.act n ≡ b → k.log ≡ (cond b (known_hit w.shape w.start p n (w.known t)) (known_miss w.shape w.start p n (w.known t))).log
      log_by b e = ap (λ (a : Bool). (cond a (known_hit w.shape w.start p n (w.known t)) (known_miss w.shape w.start p n (w.known t))).log) e

      by_hit : (b : Bool) → hits p.act n ≡ b → After
      by_hit true e = by_note p.note (log_by true e)
      by_hit false e = same_logs (log_by false e)

-- THE LAW
pub next_step_keeps_first : (w : World) (t : ℕ) (p : StepPlan) → t < w.shape.threads → Sound w → IsNext w.shape w.start w.biasing (w.known t) p
    → DrawsComeFirst (logs w) → DrawsComeFirst (logs (world_after p t w))
next_step_keeps_first w t p within sound next was =
    let after = next_step_sound w t p within sound next in
    stepping_first w t p sound.valid.objects after.valid.objects within (forgotten LawsHold w sound.valid.objects sound.valid.is)
    (forgotten LawsHold (world_after p t w) after.valid.objects after.valid.is) was

pub opening_first : (heap : Heap) → DrawsComeFirst (logs (opening heap.shape heap.start heap.biasing))
opening_first heap t o value number before l later is drawn = absurd (no_entries before later l (sym (empty_logs 0 heap.shape.threads t) ∙ is))

pub reached_worlds_first : (heap : Heap) (w : World) → IsInLimits heap.shape → IsReachable heap w → DrawsComeFirst (logs w)
reached_worlds_first heap w limits opens = opening_first heap
reached_worlds_first heap w limits (moves v t p before within next) =
    next_step_keeps_first v t p within (reached_worlds_sound heap v limits before) next (reached_worlds_first heap v limits before)

-- so there the hashes are draws
valid_draws : (w : World) (P : List PlainObject) → IsValid w P → DrawsComeFirst (logs w) → HasDraws w.start (logs w)
valid_draws w P valid first = record { drawn = (valid_hashes w P valid).draws; one = λ o t. valid_draw w P o t valid; first = first }

pub reached_worlds_drawn : (heap : Heap) (w : World) → IsInLimits heap.shape → IsReachable heap w → HasDraws heap.start (logs w)
reached_worlds_drawn heap w limits c =
    let s = comes_sound heap w limits c in
    subst (λ (h : Heap). HasDraws h.start (logs w)) s.is_of
    (valid_draws w s.sound.valid.objects (forgotten LawsHold w s.sound.valid.objects s.sound.valid.is) (reached_worlds_first heap w limits c))
