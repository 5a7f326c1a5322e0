-- A thread has taken at most four shots, since it has in each valid world.
use Rattle.std.proofs.Common.{◌≡◌, ℕ, ◌≤◌, List, length, sym, ap, ◌∙◌, subst, inl, inr}
use Rattle.plain_monitor.specs.Objects.{PlainObject}
use Rattle.core_world.specs.Threads.ThreadView.{ThreadView, DumpShot}
use Rattle.core_world.specs.Valid.{IsRevoking, IsValid}
use Rattle.core_world.specs.World.{World}
use Rattle.core_world.proofs.KnowledgeParts.{by_equal}
use Rattle.core_law.proofs.Standing.{home, valid_here}
use Rattle.heap_table.specs.Seen.{HeapSeen, PassSeen, IsOf}
use Rattle.lock_runtime.proofs.Stands.{sound_world}

-- While a bias is being revoked, threads have of what they know what they had before, where the requester has.
pub as_before : {X : Type 0} (w : World) (P : List PlainObject) (s : IsRevoking w P) (f : ThreadView → X)
    → f (w.known s.requester) ≡ f (s.before.known s.requester) → (t : ℕ) → f (w.known t) ≡ f (s.before.known t)
as_before w P s f same t =
    by_equal t s.requester (λ e. ap (λ u. f (w.known u)) e ∙ same ∙ ap (λ u. f (s.before.known u)) (sym e)) (λ d. ap f (s.others t d))

-- so they have few shots, since a revocation takes none
valid_few : (w : World) (P : List PlainObject) → IsValid w P → (t : ℕ) → length (w.known t).shots ≤ 4
valid_few w P (inl v) t = v.shots.few t
valid_few w P (inr s) t =
    let same = as_before w P s (λ (k : ThreadView). k.shots) (ap (λ (k : ThreadView). k.shots) s.knows) t in
    subst (λ (l : List DumpShot). length l ≤ 4) (sym same) (s.fits.shots.few t)

pub few_shots : (h : HeapSeen) (p : PassSeen) → IsOf h p → length p.known.shots ≤ 4
few_shots h p is_of =
    let v = sound_world h p is_of in
    home h.heap p.known v (λ s k. length k.shots ≤ 4) (valid_few v.world v.objects (valid_here h.heap p.known v) p.known.thread)
