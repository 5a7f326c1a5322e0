-- When a thread may make a load that logs nothing. It goes on with what its call has unfinished, or begins an operation where that is nothing,
-- and leaves where it stands and what is checked.
use Rattle.std.specs.Prelude.{◌≡◌, ◌⊎◌, ℕ, true, Some}
use Rattle.core_world.specs.declared.word_id.WordId.{WordId}
use Rattle.core_world.specs.Threads.ThreadView.{ThreadView}
use Rattle.core_world.specs.Words.Names.{its_monitor}
use Rattle.core_world.specs.Trees.Plans.{CallContext}
use Rattle.core_locks.specs.Knowing.{GoesOn, SawInflated}

-- Of the safepoint word: at any time.
pub record MayLoadSafepoint (k : ThreadView) (e : CallContext) : Type 0 where
  pub goes_on : GoesOn k e
  pub check : e.check ≡ k.checking

-- Its request stands.
pub record MayLoadRequested (k : ThreadView) (e : CallContext) : Type 0 where
  pub loads : MayLoadSafepoint k e
  pub requests : k.requesting ≡ true

-- Of a mark, a displaced word, a waiting word or a length: the thread runs, or knows its safepoint to be reached.
pub record MayLoad (k : ThreadView) (e : CallContext) : Type 0 where
  pub inside : (k.running ≡ true) ⊎ (k.reached ≡ true)
  pub goes_on : GoesOn k e
  pub check : e.check ≡ k.checking

-- Of a word of the monitor m: the thread runs, and saw a mark of o that names m in this call.
pub record MayLoadOfMonitor (k : ThreadView) (e : CallContext) (at : WordId) (o m : ℕ) : Type 0 where
  pub of : its_monitor at ≡ Some m
  pub runs : k.running ≡ true
  pub inflated : SawInflated k o m
  pub goes_on : GoesOn k e
  pub check : e.check ≡ k.checking
