-- When a running thread may exchange a mark with the bias pattern, and take and leave a hold under a bias to itself.
use Rattle.std.specs.Prelude.{◌≡◌, ◌⊎◌, ℕ, true, false, Option, Some, None}
use Rattle.mark_word.specs.declared.mark.MarkForm.{MarkForm}
use Rattle.mark_word.specs.declared.mark.MarkForm.TheVariants.{Neutral, Anonymous, Biased}
use Rattle.mark_word.specs.Mark.{mark_of, read_mark}
use Rattle.core_world.specs.declared.word_id.WordId.TheVariants.{Prototype}
use Rattle.core_world.specs.declared.stage.Stage.TheVariants.{Settled}
use Rattle.core_world.specs.Words.Shape.{Shape}
use Rattle.core_world.specs.Words.Forms.{epoch_in}
use Rattle.core_world.specs.Threads.AtRest.{SawClass}
use Rattle.core_world.specs.Threads.ThreadView.{ThreadView, last_seen}
use Rattle.core_world.specs.Locks.{has_epoch}
use Rattle.core_world.specs.Trees.Plans.{CallContext}

-- the mark is anonymous, or its bias is stale where this is the epoch of its class
abbrev pub IsUnownedBias : Option MarkForm → Option ℕ → Type 0
IsUnownedBias (Some (Anonymous epoch age)) e = Unit {0}
IsUnownedBias (Some (Biased thread epoch age)) e = has_epoch e epoch ≡ false
IsUnownedBias _ e = ⊥

-- Exchanging the mark of o, which is anonymous or stale by the prototype of its class that was seen in this call. Whether o has that mark, the
-- exchange tells.
pub record MayExchange (s : Shape) (k : ThreadView) (e : CallContext) (o mark prototype : ℕ) : Type 0 where
  pub runs : k.running ≡ true
  pub calm : k.stage ≡ Settled
  pub class : ℕ
  pub saw_class : SawClass s k.seen o class
  pub saw : last_seen (Prototype class) k.seen ≡ Some prototype
  pub loose : IsUnownedBias (read_mark mark) (epoch_in prototype)
  pub goes_on : e.unfinished ≡ k.unfinished

-- For the own bias in the class's epoch.
pub record MayRebias (s : Shape) (k : ThreadView) (e : CallContext) (o mark epoch : ℕ) : Type 0 where
  pub prototype : ℕ
  pub exchange : MayExchange s k e o mark prototype
  pub valid : epoch_in prototype ≡ Some epoch

-- For a neutral mark, which is the prototype where that has no epoch.
pub record MayUnbias (s : Shape) (k : ThreadView) (e : CallContext) (o mark neutral : ℕ) : Type 0 where
  pub prototype : ℕ
  pub exchange : MayExchange s k e o mark prototype
  pub to : (neutral ≡ mark_of (Neutral 0 0)) ⊎ ((neutral ≡ prototype) × (epoch_in prototype ≡ None))
