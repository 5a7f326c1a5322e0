-- Turns one after the other: the live ones do their instructions, and after these the thread ends or is barred.
use Rattle.std.proofs.Common.{◌≡◌, ◌⊎◌, ℕ, suc, ◌+◌, ◌*◌, ◌<◌, true, refl, subst, arith, inl, inr}
use Rattle.core_world.specs.declared.answer.PendingCause.{PendingCause}
use Rattle.core_world.specs.Words.Shape.{IsInLimits}
use Rattle.core_world.specs.World.{World}
use Rattle.core_law.specs.Reached.{IsReachable}
use Rattle.heap_table.specs.Seen.{HeapSeen}
use Rattle.thread_frame.specs.Frames.{unspent, has_ended}
use Rattle.thread_interp.specs.declared.moved.Moved.{Moved}
use Rattle.thread_interp.specs.declared.moved.RunState.{RunState}
use Rattle.thread_interp.specs.declared.moved.RunState.TheVariants.{Live, Blocked, Ended}
use Rattle.thread_interp.specs.Moves.{HasMoved, IsState}
use Rattle.thread_interp.specs.Runners.{RunnerSeen}
use Rattle.solo_progress.proofs.Mids.{moved_comes}
use Rattle.turn_progress.specs.Barred.{IsBarred}
use Rattle.turn_progress.specs.Turns.{LiveTurns, no_turn, one_more, LiveAlone, no_turn_alone, one_more_alone, OthersStand, TurnAlone}
use Rattle.turn_progress.proofs.Barred.{blocked_barred}
use Rattle.turn_progress.proofs.Calls.{others_on}

-- a live turn did as many instructions as it might
live_does : (h : HeapSeen) (quantum : ℕ) (r q : RunnerSeen) (m : Moved) → HasMoved h quantum r q m → m.state ≡ Live → m.instructions ≡ quantum
live_does h quantum r q m moved live = (subst (IsState h quantum m.instructions r.pass q) live moved.state).0

pub live_spend : (h : HeapSeen) (quantum : ℕ) (r : RunnerSeen) (n : ℕ) (q : RunnerSeen)
    → LiveTurns h quantum r n q → unspent r.frame ≡ unspent q.frame + n * quantum
live_spend h quantum r n q no_turn = omega arith
live_spend h quantum r n z (one_more k q _ m before moved live) =
    let was = live_spend h quantum r k q before in
    let did = live_does h quantum q z m moved live in
    let next : suc k * quantum ≡ k * quantum + quantum = omega arith in
    omega (arith, was, did, next, moved.spent)

-- so it is where the thread was alone
module _ (h : HeapSeen) (quantum t : ℕ) (w : World) (r : RunnerSeen) where
  alone_live : (n : ℕ) (x : World) (q : RunnerSeen) → LiveAlone h quantum t w r n x q → LiveTurns h quantum r n q
  alone_live n x q no_turn_alone = no_turn
  alone_live n x z (one_more_alone k y v q _ m before turn live) = one_more k q z m (alone_live k y q before) turn.moved live

  record StandsOn (x : World) : Type 0 where
    reached : IsReachable h.heap x
    others : OthersStand x t

  stands_on : (n : ℕ) (x : World) (q : RunnerSeen) → IsReachable h.heap w → OthersStand w t → LiveAlone h quantum t w r n x q → StandsOn x
  stands_on n x q c o no_turn_alone = record { reached = c; others = o }
  stands_on n x z c o (one_more_alone k y v q _ m before turn live) =
      let s = stands_on k y q c o before in
      record {
        reached = moved_comes h.heap y t turn.steps x s.others.within s.reached turn.moves;
        others = others_on y t turn.steps x turn.moves s.others;
      }

pub ends_or_barred : (h : HeapSeen) (quantum t n : ℕ) (w x v : World) (r q z : RunnerSeen) (m : Moved) → IsInLimits h.heap.shape → IsReachable h.heap w
    → OthersStand w t → LiveAlone h quantum t w r n x q → TurnAlone h quantum t x q v z m → unspent r.frame < n * quantum + quantum
    → (has_ended z.frame ≡ true) ⊎ ((why : PendingCause) × (m.state ≡ Blocked why) × IsBarred h x t why q z)
ends_or_barred h quantum t n w x v r q z m limits c o before turn few = by_state m.state refl
  where
    by_state : (state : RunState) → m.state ≡ state → (has_ended z.frame ≡ true) ⊎ ((why : PendingCause) × (m.state ≡ Blocked why) × IsBarred h x t why q z)
    by_state Live is =
        let spent = live_spend h quantum r n q (alone_live h quantum t w r n x q before) in
        let did = live_does h quantum q z m turn.moved is in
        absurd (omega (arith, spent, did, turn.moved.spent, few))
    by_state (Blocked why) is =
        let s = stands_on h quantum t w r n x q c o before in
        inr (why, is, blocked_barred h quantum t x v q z m why limits s.reached s.others turn is)
    by_state Ended is = inl (subst (IsState h quantum m.instructions q.pass z) is turn.moved.state).0
