-- What a thread at rest carries from call to call, over the parts of its knowledge that say it, so that it passes by computation the steps
-- that leave these parts.
use Rattle.std.proofs.Common.{◌≡◌, ℕ, ◌<◌, ◌||◌, Bool, true, false, List, [], ◌∷◌, ◌++◌, length, Option, None, ap, sym, refl, subst}
use Rattle.plain_monitor.specs.Limits.{most_holds}
use Rattle.plain_monitor.specs.declared.entry.Logged.{Logged}
use Rattle.core_world.specs.declared.stage.Stage.TheVariants.{Settled}
use Rattle.core_world.specs.declared.heap_call.Operation.TheVariants as op
use Rattle.core_world.specs.declared.heap_call.Unfinished.{Unfinished}
use Rattle.core_world.specs.Threads.AtRest.{AtRest, MayAsk}
use Rattle.core_world.specs.Words.Forms.{says_notified, says_ended}
use Rattle.core_world.specs.Words.Shape.{Shape}
use Rattle.core_world.specs.Threads.ThreadView.{ThreadView, Moving, Still, DumpShot}
use Rattle.core_world.specs.Trees.Plans.{free_place}
use Rattle.core_world.specs.Clauses.Safepoints.{ends, is_ending, IsUnfinished}
use Rattle.core_world.specs.Shots.{dumps_from}

pub record Carries (moving : Moving) (log : List Logged) (wait : ℕ) (holds : List ℕ) (shots : List DumpShot) (unfinished : Option Unfinished) : Type 0 where
  pub still : moving ≡ Still
  pub ended : ends log ≡ true → (says_ended wait ≡ true) × (unfinished ≡ None)
  pub place : (o : ℕ) → IsUnfinished unfinished op.Enter o → free_place holds < most_holds
  pub untold : (o : ℕ) → says_notified wait o ≡ false
  pub shots_logged : IsUnfinished unfinished op.Dump 0 → length shots ≡ length (dumps_from 0 log)

pub carried : (s : Shape) (k : ThreadView) → AtRest s k → Carries k.moving k.log k.wait k.holds k.shots k.unfinished
carried s k rest = record { still = rest.still; ended = rest.ended; place = rest.place; untold = rest.untold; shots_logged = rest.shots }

-- a thread that runs asks for no safepoint, and one that asks for none has no check unfinished
pub unasking : (s : Shape) (k : ThreadView) → AtRest s k → k.running ≡ true → k.requesting ≡ false
unasking s k rest runs = cases k.requesting rest.stopped
  where
    cases : (b : Bool) → (b ≡ true → k.running ≡ false) → b ≡ false
    cases true f = let stopped = f refl in absurd (cc (stopped, runs))
    cases false f = refl

pub unchecking : (s : Shape) (k : ThreadView) → AtRest s k → k.requesting ≡ false → k.checking ≡ false
unchecking s k rest unasks = cases k.checking rest.checks
  where
    cases : (b : Bool) → (b ≡ true → k.requesting ≡ true) → b ≡ false
    cases true f = let asks = f refl in absurd (cc (asks, unasks))
    cases false f = refl

-- So the thread is at rest by what it carries, with what its request and its check ask for,
pub rests_with : (s : Shape) (k : ThreadView) → k.stage ≡ Settled → Carries k.moving k.log k.wait k.holds k.shots k.unfinished
    → (k.requesting ≡ true → k.running ≡ false) → (k.requesting ≡ true → k.checking ≡ false → MayAsk s k k.unfinished)
    → (k.checking ≡ true → k.requesting ≡ true) → AtRest s k
rests_with s k calm carries stopped asks checks = record {
  calm = calm;
  still = carries.still;
  ended = carries.ended;
  place = carries.place;
  untold = carries.untold;
  shots = carries.shots_logged;
  stopped = stopped;
  asks = asks;
  checks = checks;
}

-- where it asks for nothing,
pub rests : (s : Shape) (k : ThreadView) → k.stage ≡ Settled → k.requesting ≡ false
    → k.checking ≡ false → Carries k.moving k.log k.wait k.holds k.shots k.unfinished → AtRest s k
rests s k calm unasks unchecks carries =
    rests_with s k calm carries (λ asks. absurd (cc (asks, unasks))) (λ asks. absurd (cc (asks, unasks))) (λ checks. absurd (cc (checks, unchecks)))

-- where it has nothing unfinished but its request,
pub rests_asking : (s : Shape) (k : ThreadView) → k.stage ≡ Settled → k.running ≡ false → k.unfinished ≡ None
    → k.checking ≡ false → Carries k.moving k.log k.wait k.holds k.shots k.unfinished → AtRest s k
rests_asking s k calm stopped nothing unchecks carries =
    rests_with s k calm carries (λ asks. stopped) (λ asks unchecking. subst (MayAsk s k) (sym nothing) tt) (λ checks. absurd (cc (checks, unchecks)))

-- and where only its check
pub rests_checking : (s : Shape) (k : ThreadView) → k.stage ≡ Settled → k.running ≡ false → k.requesting ≡ true
    → k.checking ≡ true → Carries k.moving k.log k.wait k.holds k.shots k.unfinished → AtRest s k
rests_checking s k calm stopped asks checks carries =
    rests_with s k calm carries (λ asks. stopped) (λ asks unchecks. absurd (cc (checks, unchecks))) (λ checks. asks)

-- LIVE LOGS. An entry that ends nothing leaves a log as live as it was.
pub live_after : (log : List Logged) (l : Logged) → ends log ≡ false → is_ending l.entry ≡ false → ends (log ++ l ∷ []) ≡ false
live_after [] l live e = ap (λ (b : Bool). b || false) e
live_after (m ∷ log) l live e = cases (is_ending m.entry) live (live_after log l)
  where
    cases : (b : Bool) → (b || ends log) ≡ false
        → (ends log ≡ false → is_ending l.entry ≡ false → ends (log ++ l ∷ []) ≡ false) → (b || ends (log ++ l ∷ [])) ≡ false
    cases true live f = absurd (cc live)
    cases false live f = f live e

pub ends_after : (log : List Logged) (l : Logged) → is_ending l.entry ≡ true → ends (log ++ l ∷ []) ≡ true
ends_after [] l e = ap (λ (b : Bool). b || false) e
ends_after (m ∷ log) l e = let a = ends_after log l e in cases (is_ending m.entry) a
  where
    cases : (b : Bool) → ends (log ++ l ∷ []) ≡ true → (b || ends (log ++ l ∷ [])) ≡ true
    cases true a = refl
    cases false a = a

-- A thread whose log is live and whose unfinished operation is no dump carries that it has nothing in hand of the ring, that its log is live, a free place
-- where an enter is unfinished, and that it was not told.
pub live_carries : {moving : Moving} {shots : List DumpShot} (log : List Logged) (wait : ℕ) (holds : List ℕ) (unfinished : Option Unfinished)
    → moving ≡ Still → ends log ≡ false
    → ((o : ℕ) → IsUnfinished unfinished op.Enter o → free_place holds < most_holds) → (IsUnfinished unfinished op.Dump 0 → ⊥)
    → ((o : ℕ) → says_notified wait o ≡ false) → Carries moving log wait holds shots unfinished
live_carries log wait holds unfinished still live place undumped untold =
    record { still = still; ended = λ ended. absurd (cc (ended, live)); place = place; untold = untold; shots_logged = λ dumps. absurd (undumped dumps) }

-- and so it does after an entry that ends nothing, with which its operation ends
pub logged_carries : {moving : Moving} {shots : List DumpShot} (log : List Logged) (l : Logged) (wait : ℕ) (holds : List ℕ)
    → moving ≡ Still → ends log ≡ false → is_ending l.entry ≡ false
    → ((o : ℕ) → says_notified wait o ≡ false) → Carries moving (log ++ l ∷ []) wait holds shots None
logged_carries log l wait holds still live e untold =
    live_carries (log ++ l ∷ []) wait holds None still (live_after log l live e) (λ o h. absurd (cc h)) (λ h. absurd (cc h)) untold
