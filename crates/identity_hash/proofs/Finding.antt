-- A load that looks for a hash: where it finds none, it leaves all that its thread's knowledge says of itself.
use Rattle.std.proofs.Common.{◌≡◌, ℕ, ◌<◌, ◌==◌, Bool, true, false, if◌then◌else◌, Some, None, List, length, refl, sym, ap, ◌∙◌, subst}
use Rattle.plain_monitor.specs.declared.entry.Logged.{Logged}
use Rattle.plain_monitor.specs.declared.entry.Entry.TheVariants.{Hash}
use Rattle.core_world.specs.declared.word_id.WordId.{WordId}
use Rattle.core_world.specs.declared.word_id.WordId.TheVariants.{Mark}
use Rattle.core_world.specs.Threads.ThreadView.{ThreadView, Local, local_of}
use Rattle.core_world.specs.Steps.{with_entry}
use Rattle.core_world.specs.Trees.HashSteps.{find_hash_plan, hash_displaced_steps}
use Rattle.core_world.specs.Trees.Plans.{CallContext}
use Rattle.core_world.specs.Words.Forms.{hash_in}
use Rattle.heap_table.specs.Parts.{HasMadeSteps}
use Rattle.heap_table.specs.Seen.{HeapSeen, PassSeen}
use Rattle.heap_table.specs.Stepping.{HasStepped}

module _ (h : HeapSeen) (p q : PassSeen) (e : CallContext) (at : WordId) (o n : ℕ) (s : HasStepped h p q (find_hash_plan e at o) n) where
  -- it found none: nothing was logged
  pub unlogged : (hash_in n == 0) ≡ true → q.known.log ≡ p.known.log
  unlogged none = ap (λ (k : ThreadView). k.log) s.known ∙ cases _ (hash_in n == 0) none
    where
      cases : (x : List Logged) (b : Bool) → b ≡ true → (if b then p.known.log else x) ≡ p.known.log
      cases x true e = refl
      cases x false e = absurd (cc e)

  -- so that there is room still
  pub room_left : (hash_in n == 0) ≡ true → length p.known.log < p.limit → length q.known.log < q.limit
  room_left none room = subst (λ m. length q.known.log < m) (sym s.limit) (subst (λ (l : List Logged). length l < p.limit) (sym (unlogged none)) room)

  -- and keeps the same
  pub same_kept : q.known.kept ≡ p.known.kept
  same_kept = ap (λ (k : ThreadView). k.kept) s.known

-- Where that is the object's mark, it knows the same of its own words.
pub same_local : (h : HeapSeen) (p q : PassSeen) (e : CallContext) (o n : ℕ) → HasStepped h p q (find_hash_plan e (Mark o) o) n
    → hash_in n ≡ 0 → local_of q.known ≡ local_of p.known
same_local h p q e o n s none =
    ap local_of s.known ∙ λ i. local_of (record p.known { log = if none i == 0 then p.known.log else with_entry (Hash o (hash_in n) None) n p.known.log })

-- The same of a run that looks for a hash in a displaced header.
module _ (h : HeapSeen) (p q : PassSeen) (e : CallContext) (k : Local) (o : ℕ) (run : HasMadeSteps h (hash_displaced_steps e k o) p q None) where
  pub after_kept : q.known.kept ≡ p.known.kept
  after_kept = ap (λ (k : ThreadView). k.kept) run.ran.by.1.0

  none_found : (n : ℕ) → None ≡ (if n == 0 then None else Some n) → (n == 0) ≡ true
  none_found n e = cases (n == 0) e
    where
      cases : (b : Bool) → None ≡ (if b then None else Some n) → b ≡ true
      cases true e = refl
      cases false e = absurd (cc e)

  after_log : q.known.log ≡ p.known.log
  after_log =
      let n = run.ran.by.0 in
      ap (λ (k : ThreadView). k.log) run.ran.by.1.0
      ∙ ap (λ (b : Bool). if b then p.known.log else with_entry (Hash o (hash_in n) None) n p.known.log) (none_found (hash_in n) run.ran.by.1.1)

  pub after_room : length p.known.log < p.limit → length q.known.log < q.limit
  after_room room = subst (λ m. length q.known.log < m) (sym run.limit) (subst (λ (l : List Logged). length l < p.limit) (sym after_log) room)
