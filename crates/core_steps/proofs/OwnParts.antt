-- What a thread has for itself, and takes along through the steps of a safepoint.
use Rattle.std.proofs.Common.{◌≡◌, ℕ, List, Option, refl, sym, ◌∙◌, subst}
use Rattle.core_world.specs.declared.heap_call.Unfinished.{Unfinished}
use Rattle.core_world.specs.declared.stage.Stage.{Stage}
use Rattle.core_world.specs.declared.word_id.WordId.{WordId}
use Rattle.core_world.specs.Steps.{known_hit}
use Rattle.core_world.specs.Trees.Plans.{CallContext, load_plan}
use Rattle.core_world.proofs.ActsLook.{holds_load, wait_load}
use Rattle.core_law.specs.Logic.{Heap}
use Rattle.core_world.specs.Threads.ThreadView.{ThreadView, DumpShot, Local, local_of}
use Rattle.core_steps.proofs.Resting.{Carries}

-- its log, its holds and its waiting word, the monitor that it keeps, the count that a wait saved, its draws and its shots
pub record Own : Type 0 where
  pub local : Local
  pub kept : Option ℕ
  pub saved : ℕ
  pub draws : ℕ
  pub shots : List DumpShot

abbrev pub own_of : ThreadView → Own
own_of k = record { local = local_of k; kept = k.kept; saved = k.saved; draws = k.draws; shots = k.shots }

pub record KeepsOwn (before after : Own) : Type 0 where
  pub local : after.local ≡ before.local
  pub kept : after.kept ≡ before.kept
  pub saved : after.saved ≡ before.saved
  pub draws : after.draws ≡ before.draws
  pub shots : after.shots ≡ before.shots

pub same_own : (a : Own) → KeepsOwn a a
same_own a = record { local = refl; kept = refl; saved = refl; draws = refl; shots = refl }

pub keeps_own_all : (a b c : Own) → KeepsOwn a b → KeepsOwn b c → KeepsOwn a c
keeps_own_all a b c x y = record {
  local = y.local ∙ x.local;
  kept = y.kept ∙ x.kept;
  saved = y.saved ∙ x.saved;
  draws = y.draws ∙ x.draws;
  shots = y.shots ∙ x.shots;
}

-- a load leaves it,
pub load_keeps_own : (heap : Heap) (e : CallContext) (stage : Stage) (at : WordId) (n : ℕ) (k : ThreadView)
    → KeepsOwn (own_of k) (own_of (known_hit heap.shape heap.start (load_plan e stage at) n k))
load_keeps_own heap e stage at n k = record {
  local = λ i. record { thread = k.thread; log = k.log; holds = holds_load at k i; wait = wait_load at k i };
  kept = refl;
  saved = refl;
  draws = refl;
  shots = refl;
}

-- and what it carries from call to call it carries still, where it has as much in hand of the ring
pub still_carries : {u : Option Unfinished} (k l : ThreadView) → KeepsOwn (own_of k) (own_of l) → k.moving ≡ l.moving
    → Carries k.moving k.log k.wait k.holds k.shots u → Carries l.moving l.log l.wait l.holds l.shots u
still_carries {u} k l x same carries =
    subst (λ z. Carries l.moving z.log z.wait z.holds l.shots u) (sym x.local)
    (subst (λ z. Carries l.moving k.log k.wait k.holds z u) (sym x.shots)
    (subst (λ z. Carries z k.log k.wait k.holds k.shots u) same carries))
