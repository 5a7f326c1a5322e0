-- A stamp is at most the number of all entries, so it fits its word.
use Rattle.std.proofs.Common.{◌≡◌, inl, inr, ℕ, zero, suc, ◌+◌, ◌*◌, ◌^◌, ◌≤◌, ◌==◌, Bool, true, false, cond, List, length, refl, sym, ap, ◌∙◌, subst, arith}
use borrow.Author.Tests.{eqb-true, eqb-false}
use Rattle.plain_monitor.specs.declared.entry.Logged.{Logged}
use Rattle.plain_monitor.specs.History.{last_stamp}
use Rattle.plain_monitor.specs.Objects.{PlainObject}
use Rattle.core_world.specs.declared.plan.LogEffect.{LogEffect}
use Rattle.core_world.specs.declared.plan.LogEffect.TheVariants.{Quiet, Log, LogGet, LogHash}
use Rattle.core_world.specs.declared.plan.StepPlan.{StepPlan}
use Rattle.core_world.specs.Words.Acts.{hits}
use Rattle.core_world.specs.Threads.ThreadView.{ThreadView}
use Rattle.core_world.specs.Clauses.Lengths.{log_limit}
use Rattle.core_world.specs.Clauses.Stamps.{entries}
use Rattle.core_world.specs.Steps.{known_after, known_hit, known_miss, log_after, world_after, stamp_by}
use Rattle.core_world.specs.Valid.{Fits, IsValid}
use Rattle.core_world.specs.World.{World, logs_from}
use Rattle.heap_table.specs.inner.Kept.{StampFits}
use Rattle.core_world.proofs.bias.LookWhileRevoking.{forgotten}
use Rattle.core_law.specs.WholeLaw.{LawsHold}
use Rattle.core_law.specs.Logic.{Heap}
use Rattle.core_law.specs.Sound.{Sound}
use Rattle.heap_table.specs.Ruled.{Stepped}
use Rattle.heap_table.specs.Seen.{HeapSeen, PassSeen, IsOf}
use Rattle.heap_table.proofs.Follow.{last_end}
use Rattle.heap_table.proofs.Knows.{told_here}

entries_few : (u n : ℕ) (f : ℕ → ThreadView) → ((z : ℕ) → length (f z).log ≤ log_limit) → entries (logs_from u n f) ≤ n * log_limit
entries_few u zero f few = omega arith
entries_few u (suc n) f few = let h = entries_few (u + 1) n f few in let g = few u in omega (arith, h, g)

fits_few : (w : World) (objects : List PlainObject) → Fits w objects → (t : ℕ) → last_stamp (w.known t).log ≤ 2 ^ 45
fits_few w objects f t = let a = f.stamps.logged t in
    let b = entries_few 0 w.shape.threads w.known f.lengths.few in let c = f.limits.threads in omega (arith, a, b, c)

-- what holds of each log of a world that fits holds of each log of a valid one
module _ (P : List Logged → Type 0) (fits : (w : World) (objects : List PlainObject) → Fits w objects → (t : ℕ) → P (w.known t).log) where
  in_valid : (w : World) (objects : List PlainObject) → IsValid w objects → (t : ℕ) → P (w.known t).log
  in_valid w objects (inl f) t = fits w objects f t
  in_valid w objects (inr s) t = cases (t == s.requester) refl
    where
      cases : (b : Bool) → (t == s.requester) ≡ b → P (w.known t).log
      cases true e =
          let is : t ≡ s.requester = eqb-true t s.requester e in
          let logs : (w.known t).log ≡ (s.before.known t).log =
          ap (λ (u : ℕ). (w.known u).log) is ∙ ap (λ (k : ThreadView). k.log) s.knows ∙ ap (λ (u : ℕ). (s.before.known u).log) (sym is) in
          subst P (sym logs) (fits s.before objects s.fits t)
      cases false e = subst (λ (k : ThreadView). P k.log) (sym (s.others t (eqb-false t s.requester e))) (fits s.before objects s.fits t)

  in_sound : (w : World) → Sound w → (t : ℕ) → P (w.known t).log
  in_sound w sound t = in_valid w sound.valid.objects (forgotten LawsHold w sound.valid.objects sound.valid.is) t

  in_pass : (h : HeapSeen) (p : PassSeen) → IsOf h p → P p.known.log
  in_pass h p is_of = subst (λ (k : ThreadView). P k.log) is_of.real.knew (in_sound is_of.real.world is_of.real.sound p.known.thread)

few : (w : World) → Sound w → (t : ℕ) → last_stamp (w.known t).log ≤ 2 ^ 45
few w sound t = in_sound (λ l. last_stamp l ≤ 2 ^ 45) fits_few w sound t

log_hit : (w : World) (p : StepPlan) (n : ℕ) (k : ThreadView) → hits p.act n ≡ true → (known_after w.shape w.start p n k).log ≡ log_after p.note n k.log
log_hit w p n k hit = ap (λ (b : Bool). (cond b (known_hit w.shape w.start p n k) (known_miss w.shape w.start p n k)).log) hit

by_note : (note : LogEffect) (log : List Logged) (n last : ℕ) → last_stamp log ≤ 2 ^ 45
    → last_stamp (log_after note n log) ≤ 2 ^ 45 → last_stamp log ≡ last → StampFits note n last
by_note Quiet log n last a b e = omega (arith, a, e)
by_note (Log entry) log n last a b e =
    let end = last_end 0 log (record { stamp = stamp_by entry n (last_stamp log); entry = entry }) in
    let c : stamp_by entry n (last_stamp log) ≤ 2 ^ 45 = subst (λ (x : ℕ). x ≤ 2 ^ 45) end b in
    let d : stamp_by entry n last ≤ 2 ^ 45 = subst (λ (x : ℕ). stamp_by entry n x ≤ 2 ^ 45) e c in omega (arith, d)
by_note (LogGet o slot) log n last a b e = omega (arith, a, e)
by_note (LogHash o) log n last a b e = omega (arith, a, e)

pub stamp_fits : (b : Heap) (k : ThreadView) (p : StepPlan) (n last : ℕ) → Stepped b k p n
    → last_stamp k.log ≡ last → hits p.act n ≡ true → StampFits p.note n last
stamp_fits b k p n last was same hit =
    let w : World = was.world in
    let t : ℕ = k.thread in
    let old = few w was.sound t in
    let new = few (world_after p t w) was.sound_after t in
    let here : (world_after p t w).known t ≡ known_after w.shape w.start p (w.words p.at) (w.known t) =
    told_here t (known_after w.shape w.start p (w.words p.at) (w.known t)) w.known in
    let now : (world_after p t w).known t ≡ known_after w.shape w.start p n k = here ∙ λ i. known_after w.shape w.start p (was.was_there i) (was.knew i) in
    let log : ((world_after p t w).known t).log ≡ log_after p.note n k.log = ap (λ (x : ThreadView). x.log) now ∙ log_hit w p n k hit in
    by_note p.note k.log n last (subst (λ (x : ThreadView). last_stamp x.log ≤ 2 ^ 45) was.knew old)
    (subst (λ (l : List Logged). last_stamp l ≤ 2 ^ 45) log new) same

-- no stamp of a pass's log is higher
pub low : (h : HeapSeen) (p : PassSeen) → IsOf h p → last_stamp p.known.log ≤ 2 ^ 45
low h p is_of = in_pass (λ l. last_stamp l ≤ 2 ^ 45) fits_few h p is_of

-- and it has no more entries
pub short : (h : HeapSeen) (p : PassSeen) → IsOf h p → length p.known.log ≤ log_limit
short h p is_of = in_pass (λ l. length l ≤ log_limit) (λ w objects f t. f.lengths.few t) h p is_of
