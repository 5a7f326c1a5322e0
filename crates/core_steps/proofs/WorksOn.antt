-- What a thread counts on that works on an object by this call: by parts of its knowledge, so that it passes by computation the steps that leave these.
use Rattle.std.proofs.Common.{◌≡◌, ℕ, ◌<◌, Bool, true, false, List, length}
use Rattle.plain_monitor.specs.declared.entry.Logged.{Logged}
use Rattle.core_world.specs.Clauses.Lengths.{log_limit}
use Rattle.core_world.specs.Clauses.Safepoints.{ends}
use Rattle.core_world.specs.Threads.ThreadView.{Moving, Still}
use Rattle.core_world.specs.Trees.Plans.{CallContext}
use Rattle.core_law.specs.Logic.{Heap}
use Rattle.core_steps.proofs.Facts.{Knows}

-- by its log alone
pub record MayWorkOn (heap : Heap) (log : List Logged) (e : CallContext) (o : ℕ) : Type 0 where
  pub unchecks : e.check ≡ false
  pub live : ends log ≡ false
  pub room : length log < log_limit
  pub object : o < length heap.shape.objects
  pub known : Knows heap log o

pub record WorksOn (heap : Heap) (running requesting : Bool) (moving : Moving) (log : List Logged) (e : CallContext) (o : ℕ) : Type 0 where
  pub may : MayWorkOn heap log e o
  pub open may use *
  pub runs : running ≡ true
  pub unasks : requesting ≡ false
  pub still : moving ≡ Still
