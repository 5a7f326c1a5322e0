-- The stamps in the logs are exact in each world that a heap comes to.
use Rattle.std.proofs.Common.{◌≡◌, ℕ, zero, suc, ◌+◌, ◌<◌, ◌≤◌, ◌==◌, max, Bool, true, false, cond, List, []}
use Rattle.std.proofs.Common.{length, Option, Some, None, refl, sym, ap, ◌∙◌, subst, arith, inl, inr}
use Rattle.std.specs.List.{AllByRecursion}
use Rattle.plain_monitor.specs.declared.entry.Entry.{Entry}
use Rattle.plain_monitor.specs.declared.entry.Entry.TheVariants as entry
use Rattle.plain_monitor.specs.declared.entry.Logged.{Logged}
use Rattle.plain_monitor.specs.Objects.{PlainObject}
use Rattle.plain_monitor.specs.History.{LegalObjects, objects_after, last_stamp, log_of, appended}
use Rattle.plain_monitor.specs.ValueWords.{read_value}
use Rattle.plain_history.specs.Tied.{bound_to}
use Rattle.plain_history.specs.HeldByLog.{held_by, nothing_held, LetsGoOf}
use Rattle.core_world.specs.declared.word_id.WordId.TheVariants.{Stamp}
use Rattle.core_world.specs.declared.plan.LogEffect.{LogEffect}
use Rattle.core_world.specs.declared.plan.LogEffect.TheVariants.{Quiet, Log, LogGet, LogHash}
use Rattle.core_world.specs.declared.plan.StepPlan.{StepPlan}
use Rattle.core_world.specs.Clauses.Stamps.{bound_stamp}
use Rattle.core_world.specs.Due.{IsNext}
use Rattle.core_world.specs.Locks.{monitor_of, owner_at}
use Rattle.core_world.specs.Opening.{opening, first_known}
use Rattle.core_world.specs.Steps.{is_taking, stamp_by, with_entry, log_after, known_hit, known_miss, known_after, world_after}
use Rattle.core_world.specs.Threads.ThreadView.{ThreadView}
use Rattle.core_world.specs.Trees.Operations.{value_found}
use Rattle.core_world.specs.Valid.{Fits, IsValid}
use Rattle.core_world.specs.Words.Acts.{hits}
use Rattle.core_world.specs.Words.Forms.{hash_in}
use Rattle.core_world.specs.Words.Shape.{Shape, IsInLimits}
use Rattle.core_world.specs.World.{World, logs, logs_from}
use Rattle.core_world.proofs.KnowledgeParts.{log_at, logs_grow, logs_length, logs_stay}
use Rattle.core_world.proofs.bias.LookWhileRevoking.{forgotten}
use Rattle.core_world.proofs.enter_exit.ObjectHolds.{thread_is}
use Rattle.core_world.proofs.RefusedWorlds.{revoking_logs}
use Rattle.core_locks.specs.OwnersEntries.{is_by_owner}
use Rattle.core_locks.proofs.wait.LeavesStamps.{all_of_log}
use Rattle.core_locks.proofs.Prelude.{same_number}
use Rattle.core_locks.proofs.enter_exit.RefutedOwning.{owned_where_legal}
use Rattle.core_law.specs.WholeLaw.{LawsHold}
use Rattle.plain_history.specs.ExactStamps.{StampsAreExact}
use Rattle.core_law.specs.Takings.{StampsTaking, StampsNote, TakesExactly}
use Rattle.core_law.specs.Logic.{Heap, heap_of}
use Rattle.core_law.specs.Reached.{IsReachable, opens, moves}
use Rattle.core_law.specs.Sound.{Sound}
use Rattle.bias_law.proofs.LastEntry.{no_entries}
use Rattle.core_steps.proofs.ExactLogs.{NoneAbove, exact_appended}
use Rattle.core_steps.proofs.ReachedWorlds.{next_step_sound, next_step_exact, reached_worlds_sound}

-- A VALID WORLD, also while a bias is revoked: its logs are legal, and the plain objects are those after them.
record HasLegalLogs (w : World) (P : List PlainObject) : Type 0 where
  pub legal : LegalObjects w.shape.objects (logs w)
  pub taken : objects_after w.shape.objects (logs w) ≡ Some P

legal_logs : (w : World) (P : List PlainObject) → IsValid w P → HasLegalLogs w P
legal_logs w P (inl v) = record { legal = v.legal; taken = v.taken }
legal_logs w P (inr s) =
    let same = sym (revoking_logs w P s) in
    let shape : s.before.shape ≡ w.shape = sym s.shape in
    record {
      legal = subst (λ (z : Shape). LegalObjects z.objects (logs w)) shape (subst (LegalObjects s.before.shape.objects) same s.fits.legal);
      taken = subst (λ (z : Shape). objects_after z.objects (logs w) ≡ Some P) shape
          (subst (λ all. objects_after s.before.shape.objects all ≡ Some P) same s.fits.taken);
    }

-- no entry on an object is above its owner's last stamp
bounded_fit : (w : World) (P : List PlainObject) (t o : ℕ) → t < w.shape.threads → Fits w P → (monitor_of P o).owner ≡ Some t
    → NoneAbove (logs w) o (last_stamp (log_of (logs w) t))
bounded_fit w P t o within v owns u =
    let own : log_of (logs w) t ≡ (w.known t).log = log_at 0 w.shape.threads t t w.known (omega arith) within in
    let bound : Option ℕ → ℕ = bound_stamp (λ z. (w.known z).log) (w.words (Stamp o)) in
    let at_bound : AllByRecursion (λ l. bound_to l.entry ≡ Some o → l.stamp ≤ last_stamp (w.known t).log) (log_of (logs w) u) =
    subst (λ b. AllByRecursion (λ l. bound_to l.entry ≡ Some o → l.stamp ≤ bound b) (log_of (logs w) u)) owns (all_of_log w P u o v) in
    subst (λ log. AllByRecursion (λ l. bound_to l.entry ≡ Some o → l.stamp ≤ last_stamp log) (log_of (logs w) u)) (sym own) at_bound

bounded : (w : World) (P : List PlainObject) (t o : ℕ) → t < w.shape.threads → IsValid w P → (monitor_of P o).owner ≡ Some t
    → NoneAbove (logs w) o (last_stamp (log_of (logs w) t))
bounded w P t o within (inl v) owns = bounded_fit w P t o within v owns
bounded w P t o within (inr s) owns =
    subst (λ all. NoneAbove all o (last_stamp (log_of all t))) (sym (revoking_logs w P s))
    (bounded_fit s.before P t o (subst (λ (z : Shape). t < z.threads) s.shape within) s.fits owns)

-- only the owner lets go
by_owner : (held : ℕ → ℕ) (e : Entry) (o : ℕ) → LetsGoOf held e o → is_by_owner o e ≡ true
by_owner held e o (inl wait) = ap (is_by_owner o) wait ∙ same_number o
by_owner held e o (inr exit) = ap (is_by_owner o) exit.0 ∙ same_number o

stamp_above : (e : Entry) (found last : ℕ) → last < stamp_by e found last
stamp_above e found last = cases (is_taking e)
  where
    cases : (b : Bool) → last < cond b (max found last + 1) (last + 1)
    cases true = omega arith
    cases false = omega arith

-- A STEP from a valid world to a valid one, which stamps a taking as the logs ask for
module _ (w : World) (t : ℕ) (p : StepPlan) (P Q : List PlainObject)
    (within : t < w.shape.threads) (valid : IsValid w P) (after : IsValid (world_after p t w) Q)
    (exact : TakesExactly w t p) (was : StampsAreExact (logs w)) where
  abbrev n : ℕ
  n = w.words p.at

  abbrev own : List Logged
  own = (w.known t).log

  abbrev l : ThreadView
  l = known_after w.shape w.start p n (w.known t)

  many : t < length (logs w)
  many = let a = logs_length 0 w.shape.threads w.known in omega (arith, a, within)

  own_log : own ≡ log_of (logs w) t
  own_log = sym (log_at 0 w.shape.threads t t w.known (omega arith) within)

  -- it logs nothing
  same_logs : l.log ≡ own → StampsAreExact (logs (world_after p t w))
  same_logs same = subst StampsAreExact (sym (logs_stay 0 w.shape.threads t l w.known same)) was

  -- or an entry
  one_more : (e : Entry) → StampsTaking (logs w) n (last_stamp own) e → l.log ≡ with_entry e n own → StampsAreExact (logs (world_after p t w))
  one_more e stamps grows =
      subst StampsAreExact (sym all) (exact_appended (logs w) t y many n at_log up (subst (λ log. StampsTaking (logs w) n (last_stamp log) e) own_log stamps)
      (λ o lets. bounded w P t o within valid
      (thread_is (monitor_of P o).owner t (owner o (by_owner (held_by nothing_held (log_of (logs w) t)) e o lets)))) was)
    where
      y : Logged
      y = record { stamp = stamp_by e n (last_stamp own); entry = e }

      all : logs (world_after p t w) ≡ appended (logs w) t y
      all = logs_grow w.shape.threads t y l w.known within grows

      at_log : y.stamp ≡ stamp_by e n (last_stamp (log_of (logs w) t))
      at_log = ap (λ log. stamp_by e n (last_stamp log)) own_log

      up : last_stamp (log_of (logs w) t) < y.stamp
      up = subst (λ log. last_stamp log < y.stamp) own_log (stamp_above e n (last_stamp own))

      owner : (o : ℕ) → is_by_owner o e ≡ true → owner_at P o t ≡ true
      owner o by =
          let before = legal_logs w P valid in
          owned_where_legal w.shape.objects (logs w) t o y P Q before.legal.rises many up by before.taken
          (ap (objects_after w.shape.objects) (sym all) ∙ (legal_logs (world_after p t w) Q after).taken)

  by_note : (note : LogEffect) → StampsNote (logs w) n (last_stamp own) note → l.log ≡ log_after note n own → StampsAreExact (logs (world_after p t w))
  by_note Quiet stamps log = same_logs log
  by_note (Log e) stamps log = one_more e stamps log
  by_note (LogGet o slot) stamps log = one_more (entry.Get o slot (value_found (read_value n))) tt log
  by_note (LogHash o) stamps log = by_test (hash_in n == 0) log
    where
      by_test : (b : Bool) → l.log ≡ cond b own (with_entry (entry.Hash o (hash_in n) None) n own) → StampsAreExact (logs (world_after p t w))
      by_test true same = same_logs same
      by_test false grows = one_more (entry.Hash o (hash_in n) None) tt grows

  pub stepping_exact : StampsAreExact (logs (world_after p t w))
  stepping_exact = by_hit (hits p.act n) refl
    where
      log_by : (b : Bool) → hits p.act n ≡ b → l.log ≡ (cond b (known_hit w.shape w.start p n (w.known t)) (known_miss w.shape w.start p n (w.known t))).log
      log_by b e = ap (λ (a : Bool). (cond a (known_hit w.shape w.start p n (w.known t)) (known_miss w.shape w.start p n (w.known t))).log) e

      by_hit : (b : Bool) → hits p.act n ≡ b → StampsAreExact (logs (world_after p t w))
      by_hit true e = by_note p.note exact (log_by true e)
      by_hit false e = same_logs (log_by false e)

-- THE LAW, for a step of any call
pub next_step_keeps_exact : (w : World) (t : ℕ) (p : StepPlan) → t < w.shape.threads → Sound w → IsNext w.shape w.start w.biasing (w.known t) p
    → StampsAreExact (logs w) → StampsAreExact (logs (world_after p t w))
next_step_keeps_exact w t p within sound next was =
    let after = next_step_sound w t p within sound next in
    stepping_exact w t p sound.valid.objects after.valid.objects within (forgotten LawsHold w sound.valid.objects sound.valid.is)
    (forgotten LawsHold (world_after p t w) after.valid.objects after.valid.is) (next_step_exact w t p within sound next) was

-- and by what the thread knows
pub known_step_keeps_exact : (heap : Heap) (k : ThreadView) (p : StepPlan) → IsNext heap.shape heap.start heap.biasing k p → (w : World) → heap_of w ≡ heap
    → w.known k.thread ≡ k → k.thread < heap.shape.threads → Sound w → StampsAreExact (logs w) → StampsAreExact (logs (world_after p k.thread w))
known_step_keeps_exact heap k p next w is_of knows within sound =
    next_step_keeps_exact w k.thread p
    (subst (λ (z : Heap). k.thread < z.shape.threads) (sym is_of) within)
    sound
    (subst (λ (z : Heap). IsNext z.shape z.start z.biasing (w.known k.thread) p) (sym is_of)
    (subst (λ y. IsNext heap.shape heap.start heap.biasing y p) (sym knows) next))

-- REACHED WORLDS. The logs are empty at the opening.
pub empty_logs : (u n t : ℕ) → log_of (logs_from u n first_known) t ≡ []
empty_logs u zero t = refl
empty_logs u (suc n) zero = refl
empty_logs u (suc n) (suc t) = empty_logs (u + 1) n t

pub opening_exact : (heap : Heap) → StampsAreExact (logs (opening heap.shape heap.start heap.biasing))
opening_exact heap t before l later is = absurd (no_entries before later l (sym (empty_logs 0 heap.shape.threads t) ∙ is))

pub reached_worlds_exact : (heap : Heap) (w : World) → IsInLimits heap.shape → IsReachable heap w → StampsAreExact (logs w)
reached_worlds_exact heap w limits opens = opening_exact heap
reached_worlds_exact heap w limits (moves v t p before within next) =
    next_step_keeps_exact v t p within (reached_worlds_sound heap v limits before) next (reached_worlds_exact heap v limits before)
