-- For a thread that rests there is a world in which all clauses hold and the thread knew what it knows: the sound world in
-- which it knew it, or, where a bias was being revoked there, the world before the first store. The thread was not the one
-- that revoked it, which was in the middle of that.
use Rattle.std.proofs.Common.{◌≡◌, ◌≢◌, ℕ, ◌<◌, List, sym, ap, ◌∙◌, subst, arith, inl, inr}
use Rattle.plain_monitor.specs.History.{log_of}
use Rattle.plain_monitor.specs.Objects.{PlainObject}
use Rattle.core_world.specs.declared.stage.Stage.TheVariants as stage
use Rattle.core_world.specs.Threads.ThreadView.{ThreadView}
use Rattle.core_world.specs.Threads.Stages.{revocation_in}
use Rattle.core_world.specs.Valid.{Fits, IsRevoking, IsValid}
use Rattle.core_world.specs.Words.Shape.{Shape}
use Rattle.core_world.specs.World.{World, logs}
use Rattle.core_world.proofs.KnowledgeParts.{log_at}
use Rattle.core_world.proofs.bias.LookWhileRevoking.{forgotten}
use Rattle.core_law.specs.WholeLaw.{LawsHold}
use Rattle.core_law.specs.Logic.{Heap}
use Rattle.heap_table.specs.Resting.{Rests}
use Rattle.heap_table.specs.Seen.{HeapSeen, PassSeen}
use Rattle.heap_table.proofs.Resting.{at_rest}

-- all clauses hold in this world, in which the thread knew k
pub record Settled (s : Shape) (k : ThreadView) : Type 0 where
  pub world : World
  pub objects : List PlainObject
  pub fits : Fits world objects
  pub shape : world.shape ≡ s
  pub knew : world.known k.thread ≡ k

-- a thread in the middle of nothing isn't the one that revokes a bias
not_requester : (w : World) (P : List PlainObject) (s : IsRevoking w P) (t : ℕ) → (w.known t).stage ≡ stage.Settled → t ≢ s.requester
not_requester w P s t calm e =
    let none = ap revocation_in calm in
    let some = ap (λ u. revocation_in (w.known u).stage) e ∙ s.its_revocation in
    absurd (cc (none, some))

settled_in : (s : Shape) (w : World) (P : List PlainObject) (k : ThreadView) → IsValid w P → w.shape ≡ s → w.known k.thread ≡ k
    → k.stage ≡ stage.Settled → Settled s k
settled_in s w P k (inl fits) shape knew calm = record { world = w; objects = P; fits = fits; shape = shape; knew = knew }
settled_in s w P k (inr r) shape knew calm =
    let other = not_requester w P r k.thread (ap (λ (z : ThreadView). z.stage) knew ∙ calm) in
    record { world = r.before; objects = P; fits = r.fits; shape = sym r.shape ∙ shape; knew = sym (r.others k.thread other) ∙ knew }

pub settled : (h : HeapSeen) (p : PassSeen) → Rests h p → Settled h.heap.shape p.known
settled h p rests =
    let real = rests.is_of.real in
    let valid = real.sound.valid in
    settled_in h.heap.shape real.world valid.objects p.known (forgotten LawsHold real.world valid.objects valid.is)
    (ap (λ (z : Heap). z.shape) real.is_of) real.knew (at_rest h p rests).calm

-- the thread's log among those of that world is its own
pub log_settled : (s : Shape) (k : ThreadView) (z : Settled s k) → k.thread < s.threads → log_of (logs z.world) k.thread ≡ k.log
log_settled s k z within =
    let there : k.thread < z.world.shape.threads = subst (λ (x : Shape). k.thread < x.threads) (sym z.shape) within in
    log_at 0 z.world.shape.threads k.thread k.thread z.world.known (omega arith) there ∙ ap (λ (x : ThreadView). x.log) z.knew
