-- How a thread and its pass stand after a local instruction, which leaves its pass.
use Rattle.std.proofs.Common.{◌≡◌, ℕ, ◌<◌, ◌≤◌, Bool, true, false, List, length, Option, Some, None, is_some, refl, sym, ap, ◌∙◌, subst, arith, inl, inr}
use Rattle.core_world.specs.declared.answer.Progress.{Progress}
use Rattle.core_world.specs.declared.answer.Progress.TheVariants.{Done, Pending}
use Rattle.heap_table.specs.Seen.{HeapSeen, PassSeen}
use Rattle.lock_runtime.specs.Standing.{IsRunning}
use Rattle.object_program.specs.Program.{ProgramText}
use Rattle.plain_machine.specs.declared.monitor_call.MonitorCall.{MonitorCall}
use Rattle.plain_machine.specs.declared.monitor_call.Mode.{Mode}
use Rattle.plain_machine.specs.declared.monitor_call.Mode.TheVariants.{Calling, Unwinding}
use Rattle.plain_machine.specs.Asking.{ask}
use Rattle.plain_machine.specs.Thread.{ThreadState}
use Rattle.thread_frame.specs.declared.walk.Walked.TheVariants.{Ran, Spent}
use Rattle.thread_frame.specs.Frames.{FrameSeen, next_state, is_ended_mode, is_in_wait, unspent, rank_of, mode_rank}
use Rattle.thread_frame.specs.Sights.{counts_from, AreOf}
use Rattle.thread_frame.specs.Walking.{HasWalked, IsAfterLocal}
use Rattle.thread_logs.specs.Followed.{FollowsCode}
use Rattle.thread_calls.specs.Advances.{HasAdvanced, HasFallen, HasSpent, MakesCall, MayAdvance}
use Rattle.thread_calls.specs.Asked.{unfinished_of, IsAtMost}
use Rattle.thread_calls.specs.Between.{IsHeapOf, IsOn}
use Rattle.thread_calls.proofs.Framed.{counts_are, counts_count, sum_holds}

-- a mode in the middle of local instructions, or at an end
record IsLow (m : Option Mode) : Type 0 where
  wait : is_in_wait m ≡ 0
  rank : mode_rank m ≤ 2

after_local : (m : Option Mode) → IsAfterLocal m → IsLow m
after_local None b = record { wait = refl; rank = omega arith }
after_local (Some (Unwinding g)) b = record { wait = refl; rank = omega arith }
after_local _ b = absurd b

none_before : (m : Option Mode) → m ≡ None → is_some m ≡ true → ⊥
none_before m e s = let z = ap is_some e in absurd (cc (z, s))

-- from a frame that has as much left and to do
same_spent : (f g e : FrameSeen) (progress : Progress Bool) → unspent f ≡ unspent g → HasSpent g e progress → HasSpent f e progress
same_spent f g e (Done true) s x = s ∙ x
same_spent f g e (Done false) s x = s ∙ x
same_spent f g e (Pending why) s x = (s ∙ x.0, x.1)

same_calls : (h : HeapSeen) (k q : PassSeen) (f g : FrameSeen) (progress : Progress Bool)
    → f.mode ≡ None → MakesCall h k q g progress → MakesCall h k q f progress
same_calls h k q f g (Done b) local (inl none) = inl (local, none.1)
same_calls h k q f g (Done b) local (inr one) = inr one
same_calls h k q f g (Pending why) local one = one

same_fallen : (k q : PassSeen) (f g e : FrameSeen) (progress : Progress Bool) → rank_of f ≡ rank_of g → HasFallen k q g e progress → HasFallen k q f e progress
same_fallen k q f g e (Done b) s x = omega (arith, s, x)
same_fallen k q f g e (Pending why) s x = tt

module _ (h : HeapSeen) (p : ProgramText) (fuel : ℕ) (k : PassSeen) (f : FrameSeen) (of : IsHeapOf h p) (may : MayAdvance h p fuel k f) where
  abbrev t : ℕ
  t = k.known.thread

  abbrev counts : List ℕ
  counts = counts_from 0 (length h.heap.shape.objects) k.known.holds

  pub are_of : AreOf (length h.heap.shape.objects) k.known.holds
  are_of = sum_holds h p of fuel k may.on.rests counts (counts_count h p of fuel k may.on.rests) (counts_are h p of fuel k may.on.rests)

  pub is_within : t < length p.threads
  is_within = omega (arith, may.on.rests.is_of.within, of.threads)

  module _ (local : f.mode ≡ None) (g : FrameSeen) (leads : next_state p t counts g ≡ next_state p t counts f) where
    quiet : k.known.requesting ≡ false
    quiet = cases k.known.requesting refl
      where
        cases : (b : Bool) → k.known.requesting ≡ b → k.known.requesting ≡ false
        cases true r = absurd (none_before f.mode local (may.on.asks r may.unchecked).before)
        cases false r = r

    runs : k.known.running ≡ true
    runs = elim may.goes [ inl r ↦ r | inr r ↦ absurd (cc (r, quiet)) ]

    is_running : IsRunning k.known
    is_running = record { runs = runs; asks = quiet }

    moved : g.fuel ≤ f.fuel → IsOn h p fuel k g
    moved fewer =
        record {
          rests = may.on.rests;
          follows = subst (FollowsCode p fuel t k.known.log) (sym leads) may.on.follows;
          values = may.on.values;
          few = may.on.few;
          limit = may.on.limit;
          spent = omega (arith, fewer, may.on.spent);
          unfinished = subst (λ (s : ThreadState). IsAtMost k.known.unfinished (unfinished_of (ask s))) (sym leads) may.on.unfinished;
          asks = λ r c. absurd (cc (r, quiet));
          checks = λ c. absurd (cc (c, may.unchecked));
        }

    pub ran : HasWalked f g Ran → HasAdvanced h p fuel k k f g (Done true)
    ran w =
        let low = after_local g.mode w.1 in
        let paid = w.0 in
        let v = ap is_in_wait local in
        let r = ap mode_rank local in
        record {
          on = moved (omega (arith, paid));
          unchecked = may.unchecked;
          thread = refl;
          stands = is_running;
          calls = inl (local, refl);
          spent = omega (arith, paid, v, low.wait);
          fallen = omega (arith, paid, r, low.rank);
        }

    pub spent : HasWalked f g Spent → HasAdvanced h p fuel k k f g (Done false)
    spent w =
        let same = w.0 in
        let v = ap is_in_wait local in
        let r = ap mode_rank local in
        let x = ap is_in_wait w.2 in
        let y = ap mode_rank w.2 in
        record {
          on = moved (omega (arith, same));
          unchecked = may.unchecked;
          thread = refl;
          stands = is_running;
          calls = inl (local, refl);
          spent = omega (arith, same, v, x);
          fallen = omega (arith, same, r, y);
        }

    -- at a call, by the frame that would stand before it
    pub arrived : (c : MonitorCall) → g.mode ≡ Some (Calling c) → g.fuel ≡ f.fuel → MayAdvance h p fuel k g
    arrived c at same = record { on = moved (omega (arith, same)); unchecked = may.unchecked; goes = inl runs; live = ap is_ended_mode at }

    pub from_there : (q : PassSeen) (e : FrameSeen) (progress : Progress Bool) (c : MonitorCall) → g.mode ≡ Some (Calling c) → g.fuel ≡ f.fuel
        → HasAdvanced h p fuel k q g e progress → HasAdvanced h p fuel k q f e progress
    from_there q e progress c at same a =
        let v = ap is_in_wait local in
        let r = ap mode_rank local in
        let x = ap is_in_wait at in
        let y = ap mode_rank at in
        record {
          on = a.on;
          unchecked = a.unchecked;
          thread = a.thread;
          stands = a.stands;
          calls = same_calls h k q f g progress local a.calls;
          spent = same_spent f g e progress (omega (arith, same, v, x)) a.spent;
          fallen = same_fallen k q f g e progress (omega (arith, same, r, y)) a.fallen;
        }
