-- What a thread may count on by the clauses of the world that it stands in.
use Rattle.std.proofs.Common.{◌≡◌, ℕ, ◌<◌, true, length, sym, ap, ◌∙◌, subst, arith, inl, inr}
use Rattle.plain_monitor.specs.Limits.{most_holds}
use Rattle.core_world.specs.declared.word_id.WordId.TheVariants as id
use Rattle.core_world.specs.Threads.ThreadView.{ThreadView}
use Rattle.core_world.specs.Valid.{Fits, IsValid, SafepointFits}
use Rattle.core_world.specs.Words.Forms.{asks_in}
use Rattle.core_world.specs.Words.Shape.{Shape}
use Rattle.core_world.proofs.bias.LookWhileRevoking.{forgotten}
use Rattle.core_world.proofs.enter_exit.OwnersShown.{fits_running}
use Rattle.core_law.specs.WholeLaw.{LawsHold}
use Rattle.core_law.specs.Logic.{Heap, SoundWorldWith}

module _ (heap : Heap) (k : ThreadView) where
  -- what holds of the world's shape and of what its thread knows, holds of these
  pub home : (v : SoundWorldWith heap k) (P : Shape → ThreadView → Type 0) → P v.world.shape (v.world.known k.thread) → P heap.shape k
  home v P h = subst (λ (z : Heap). P z.shape k) v.is_of (subst (P v.world.shape) v.knows h)

  pub away : (v : SoundWorldWith heap k) (P : Shape → ThreadView → Type 0) → P heap.shape k → P v.world.shape (v.world.known k.thread)
  away v P h = subst (P v.world.shape) (sym v.knows) (subst (λ (z : Heap). P z.shape k) (sym v.is_of) h)

  pub inside : (v : SoundWorldWith heap k) → k.thread < v.world.shape.threads
  inside v = subst (λ (z : Heap). k.thread < z.shape.threads) (sym v.is_of) v.within

  pub valid_here : (v : SoundWorldWith heap k) → IsValid v.world v.objects
  valid_here v = forgotten LawsHold v.world v.objects v.valid

  -- every clause holds where the thread runs
  pub fits_here : (v : SoundWorldWith heap k) → k.running ≡ true → Fits v.world v.objects
  fits_here v runs = fits_running v.world v.objects k.thread (away v (λ z y. y.running ≡ true) runs) (valid_here v)

  pub places_here : (v : SoundWorldWith heap k) → k.running ≡ true → length k.holds ≡ most_holds
  places_here v runs = home v (λ z y. length y.holds ≡ most_holds) ((fits_here v runs).holds.places k.thread)

module _ (heap : Heap) (k : ThreadView) (n : ℕ) (v : SoundWorldWith heap k) (found : v.world.words id.Safepoint ≡ n) where
  -- the safepoint word says of the thread what the thread knows
  pub safe_fits : SafepointFits v.world v.objects
  safe_fits = elim v.valid [ inl a ↦ a.0.safe | inr a ↦ a.0.safe ]

  pub asks_is : asks_in n k.thread ≡ k.requesting
  asks_is = ap (λ m. asks_in m k.thread) (sym found) ∙ safe_fits.requester k.thread ∙ ap (λ (y : ThreadView). y.requesting) v.knows

-- a thread of the heap has a bit in the word
pub few_threads : (heap : Heap) (k : ThreadView) → SoundWorldWith heap k → k.thread < 32
few_threads heap k v = elim (valid_here heap k v) [
  | inl fits ↦ let few = fits.limits.threads in let within = inside heap k v in omega (arith, few, within)
  | inr a ↦ let few = a.fits.limits.threads in let same = a.shape in
      let within = subst (λ s. k.thread < s.threads) same (inside heap k v) in omega (arith, few, within)
]
