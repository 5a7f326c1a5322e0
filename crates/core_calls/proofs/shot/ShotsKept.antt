-- A dump that is done keeps one shot, and any other keeps none.
use Rattle.std.proofs.Common.{◌≡◌, ℕ, zero, suc, ◌+◌, ◌==◌, cond, Bool, true, false, List, [], ◌∷◌, length}
use Rattle.std.proofs.Common.{Result, Ok, Err, refl, sym, ap, ◌∙◌, subst, arith, ◌++◌}
use Rattle.plain_monitor.specs.declared.entry.Entry.TheVariants as entry
use Rattle.core_world.specs.declared.plan.LocalEffect.{LocalEffect}
use Rattle.core_world.specs.declared.plan.LocalEffect.TheVariants as own
use Rattle.core_world.specs.declared.plan.StepPlan.{StepPlan}
use Rattle.core_world.specs.declared.stage.Stage.TheVariants.{Settled}
use Rattle.core_world.specs.declared.heap_call.Operation.TheVariants as op
use Rattle.core_world.specs.declared.heap_call.HeapCall.TheVariants as task
use Rattle.core_world.specs.declared.answer.TooManyDumps.{TooManyDumps}
use Rattle.core_world.specs.declared.answer.Progress.{Progress}
use Rattle.core_world.specs.declared.answer.PendingCause.{PendingCause}
use Rattle.core_world.specs.declared.answer.Progress.TheVariants.{Done, Pending}
use Rattle.core_world.specs.Words.Acts.{hits}
use Rattle.core_world.specs.Due.{Ran}
use Rattle.core_world.specs.Words.Forms.{is_still}
use Rattle.core_world.specs.Threads.ThreadView.{ThreadView, StepMade, Start, DumpShot}
use Rattle.core_world.specs.Trees.DeflateSteps.{deflate_steps}
use Rattle.core_world.specs.Trees.LookSteps.{look_at_objects, take_shot_steps}
use Rattle.core_world.specs.Trees.Operations.{and_then, answer, dump_going, dump_steps}
use Rattle.core_world.specs.Trees.Plans.{CallContext, done_with}
use Rattle.core_world.specs.Trees.SafepointSteps.{has_requester, reached_word, request_steps, reached_steps, then_reached, safepoint_steps, release_safepoint}
use Rattle.core_world.specs.Words.Shape.{Shape}
use Rattle.core_world.specs.Steps.{shot_of, shots_after, known_hit, known_miss, known_along}
use Rattle.core_world.specs.Trees.StepTree.{StepTree, done, unreachable, step, ◌>>=◌}
use Rattle.core_world.specs.Trees.WaitSteps.{publish_steps}
use Rattle.core_calls.specs.Paths.{made, Always}
use Rattle.core_calls.specs.Bounds.{a_deflation}
use Rattle.core_calls.specs.CallsSay.{unfinished_on}
use Rattle.core_calls.proofs.Paths.{always_then, either_way}
use Rattle.core_calls.proofs.Stays.{Whatever}
use Rattle.core_calls.proofs.Spends.{Spends, Spend, spend_done, spend_never, spend_more, spend_step}
use Rattle.core_calls.proofs.Spends.{spend_either, spend_then, spend_leaving, spend_so}
use Rattle.core_calls.proofs.deflation.DeflationSpends.{each_spends}
use Rattle.core_calls.proofs.safepoint.LookSpends.{one_shot, IsLook, objects_spend, lengths_spend}
use Rattle.core_calls.proofs.OperationsSay.{working}
use Rattle.core_calls.proofs.Runs.{on_path, knows}

-- how many shots these steps keep
abbrev kept_shots : List StepMade → ℕ
kept_shots [] = 0
kept_shots (m ∷ ms) = cond (hits m.plan.act m.found) (one_shot m.plan.own) 0 + kept_shots ms

-- the step keeps none
record IsPlain (p : StepPlan) : Type 0 where
  none : one_shot p.own ≡ 0

plain : {A : Type 0} {rest : A → ℕ} {p : StepPlan} {f : ℕ → StepTree A} {n : ℕ} → one_shot p.own ≡ 0 → ((w : ℕ) → Spend IsPlain rest n (f w))
    → Spend IsPlain rest (suc n) (step p f)
plain none h = spend_step (record { none = none }) h

still_kept : (p : StepPlan) (n z : ℕ) (ms : List StepMade) → one_shot p.own ≡ 0 → kept_shots ms ≡ z → kept_shots (made p n ∷ ms) ≡ z
still_kept p n z ms none h = by_hit (hits p.act n)
  where
    by_hit : (b : Bool) → cond b (one_shot p.own) 0 + kept_shots ms ≡ z
    by_hit true = omega (arith, none, h)
    by_hit false = omega (arith, h)

plainly : {A : Type 0} (rest : A → ℕ) (R : A → Type 0) (d : StepTree A) (n z : ℕ) (ms : List StepMade) → Spends IsPlain rest R n d
    → kept_shots ms ≡ z → Always (λ ms _. kept_shots ms ≡ z) ms d
plainly rest R (done a) n z ms h s = s
plainly rest R unreachable n z ms h s = tt
plainly rest R (step p f) zero z ms h s = absurd h
plainly rest R (step p f) (suc n) z ms h s = λ w. plainly rest R (f w) n z (made p w ∷ ms) (h.1 w) (still_kept p w z ms h.0.none s)

none_kept : {A : Type 0} {rest : A → ℕ} {d : StepTree A} {n : ℕ} (z : ℕ) (ms : List StepMade) → Spend IsPlain rest n d → kept_shots ms ≡ z
    → Always (λ ms _. kept_shots ms ≡ z) ms d
none_kept {A} {rest} {d} {n} z ms h s = plainly rest Whatever d n z ms h.by s

looks_keep : {A : Type 0} {rest : A → ℕ} {d : StepTree A} {n : ℕ} {e : CallContext} (z : ℕ) (ms : List StepMade) → Spend (IsLook e) rest n d
    → kept_shots ms ≡ z → Always (λ ms _. kept_shots ms ≡ z) ms d
looks_keep z ms h s = none_kept z ms (spend_so (λ p look. record { none = look.none }) h) s

module _ (e : CallContext) where
  -- the last step of a shot keeps it
  shot_kept : (s : Shape) (ms : List StepMade) → kept_shots ms ≡ 0 → Always (λ ms _. kept_shots ms ≡ 1) ms (take_shot_steps e s)
  shot_kept s ms h =
      always_then (λ ms _. kept_shots ms ≡ 0) (λ ms _. kept_shots ms ≡ 1) (look_at_objects e s) _ ms (looks_keep 0 ms (objects_spend e s) h)
      (λ ms _ h.
      always_then (λ ms _. kept_shots ms ≡ 0) (λ ms _. kept_shots ms ≡ 1) _ _ ms (looks_keep 0 ms (lengths_spend e s) h)
      (λ ms _ h n. omega (arith, h)))

  reached_plain : Spend IsPlain (λ _. 0) 1 (reached_steps e)
  reached_plain = plain {n = 0} refl (λ word. spend_either (is_still word) (spend_done (omega arith)) (spend_done (omega arith)))

  request_plain : (t : ℕ) → Spend IsPlain (λ _. 0) 2 (request_steps e t)
  request_plain t =
      plain {n = 1} refl (λ word. spend_either (has_requester word) (spend_done (omega arith)) (plain {n = 0} refl (λ n. spend_either (n == word)
      (spend_done (omega arith)) (spend_either (has_requester n) (spend_done (omega arith)) (spend_done (omega arith))))))

  then_plain : (progress : Progress (Unit {0})) → Spend IsPlain (λ _. 0) 1 (then_reached e progress)
  then_plain (Done x) = reached_plain
  then_plain (Pending why) = spend_done (omega arith)

  safe_plain : (t : ℕ) (requesting : Bool) → Spend IsPlain (λ _. 0) 3 (safepoint_steps e t requesting)
  safe_plain t requesting = spend_either requesting (spend_more (omega arith) reached_plain) (spend_then (spend_leaving 1 (request_plain t)) then_plain)

  deflation_plain : (s : Shape) → Spend IsPlain (λ _. 0) (a_deflation s) (deflate_steps s e Settled)
  deflation_plain s =
      each_spends s e Settled (λ at. record { none = refl }) (λ o m header. record { none = refl }) (λ at apart. record { none = refl })
      (λ end m. record { none = refl }) (λ end. record { none = refl })

  release_plain : (t : ℕ) → Spend IsPlain (λ _. 0) 1 (release_safepoint e t)
  release_plain t = plain {n = 0} refl (λ n. spend_either (n == reached_word t) (spend_done (omega arith)) spend_never)

module _ (s : Shape) (k : Start) where
  abbrev dumping : CallContext
  dumping = working task.Dump (unfinished_on op.Dump 0)

  abbrev ProgressKeeps : List StepMade → Progress ℕ → Type 0
  ProgressKeeps ms (Done number) = (number ≡ k.shots + 1) × (kept_shots ms ≡ 1)
  ProgressKeeps ms (Pending why) = kept_shots ms ≡ 0

  abbrev Keeps : List StepMade → Result (Progress ℕ) TooManyDumps → Type 0
  Keeps ms (Ok progress) = ProgressKeeps ms progress
  Keeps ms (Err e) = kept_shots ms ≡ 0

  abbrev tells : StepTree (Progress ℕ)
  tells = publish_steps (entry.Dump (k.shots + 1)) dumping k.local >>= λ _. done_with (k.shots + 1)

  abbrev releases : StepTree (Progress ℕ)
  releases = release_safepoint dumping k.local.thread >>= λ _. tells

  abbrev deflates : StepTree (Progress ℕ)
  deflates = deflate_steps s dumping Settled >>= λ _. releases

  abbrev shoots : Unit {0} → StepTree (Progress ℕ)
  shoots _ = take_shot_steps dumping s >>= λ _. deflates

  told_keeps : (ms : List StepMade) → kept_shots ms ≡ 1 → Always ProgressKeeps ms tells
  told_keeps ms h = λ n. (refl, omega (arith, h))

  shoots_keeps : (ms : List StepMade) → kept_shots ms ≡ 0 → Always ProgressKeeps ms (shoots tt)
  shoots_keeps ms h =
      always_then (λ ms _. kept_shots ms ≡ 1) ProgressKeeps (take_shot_steps dumping s) (λ _. deflates) ms (shot_kept dumping s ms h) (λ ms _ h.
      always_then (λ ms _. kept_shots ms ≡ 1) ProgressKeeps (deflate_steps s dumping Settled) (λ _. releases) ms (none_kept 1 ms
      (deflation_plain dumping s) h) (λ ms _ h.
      always_then (λ ms _. kept_shots ms ≡ 1) ProgressKeeps (release_safepoint dumping k.local.thread) (λ _. tells) ms (none_kept 1 ms
      (release_plain dumping k.local.thread) h) (λ ms _ h. told_keeps ms h)))

  reached_keeps : (progress : Progress (Unit {0})) (ms : List StepMade) → kept_shots ms ≡ 0 → Always ProgressKeeps ms (and_then progress shoots)
  reached_keeps (Done x) ms h = shoots_keeps ms h
  reached_keeps (Pending why) ms h = h

  going_keeps : Always ProgressKeeps [] (dump_going s dumping k)
  going_keeps =
      always_then (λ ms _. kept_shots ms ≡ 0) ProgressKeeps (safepoint_steps dumping k.local.thread k.requesting) (λ progress. and_then progress shoots) []
      (none_kept 0 [] (safe_plain dumping k.local.thread k.requesting) refl) (λ ms progress h. reached_keeps progress ms h)

  dump_keeps : Always Keeps [] (dump_steps s k)
  dump_keeps =
      either_way Keeps [] (k.shots == 4) _ _ (λ many. refl) (λ room. always_then ProgressKeeps Keeps (dump_going s dumping k) answer [] going_keeps
      (λ ms progress so. so))

-- so the thread's shots grow by one, or stay as they are
abbrev Grown : List DumpShot → List DumpShot → Type 0
Grown before after = (shot : DumpShot) × (after ≡ before ++ shot ∷ []) × (shot.number ≡ length before + 1)

record Grows (n : ℕ) (before after : List DumpShot) : Type 0 where
  none : n ≡ 0 → after ≡ before
  one : n ≡ 1 → Grown before after

kept_as_before : (n m : ℕ) (before after later : List DumpShot) → n ≡ m → later ≡ after → Grows m before after → Grows n before later
kept_as_before n m before after later same is g =
    record { none = λ z. is ∙ g.none (sym same ∙ z); one = λ z. subst (λ (x : List DumpShot). Grown before x) (sym is) (g.one (sym same ∙ z)) }

module _ (s : Shape) (start : ℕ) where
  own_grows : (k : ThreadView) (o : LocalEffect) (n : ℕ) (before : List DumpShot) → Grows n before k.shots → Grows (one_shot o + n) before (shots_after o s k)
  own_grows k own.TakeShot n before g = record {
    none = λ z. absurd (omega (arith, z));
    one = λ z.
        let same = g.none (omega (arith, z)) in
        (shot_of s k, ap (λ (x : List DumpShot). x ++ shot_of s k ∷ []) same, ap (λ (x : List DumpShot). length x + 1) same);
  }
  own_grows k own.Unchanged n before g = kept_as_before (0 + n) n before k.shots k.shots (omega arith) refl g
  own_grows k own.Position n before g = kept_as_before (0 + n) n before k.shots k.shots (omega arith) refl g
  own_grows k own.Claim n before g = kept_as_before (0 + n) n before k.shots k.shots (omega arith) refl g
  own_grows k (own.Detach monitor) n before g = kept_as_before (0 + n) n before k.shots k.shots (omega arith) refl g
  own_grows k own.Enqueue n before g = kept_as_before (0 + n) n before k.shots k.shots (omega arith) refl g
  own_grows k own.DropClaim n before g = kept_as_before (0 + n) n before k.shots k.shots (omega arith) refl g
  own_grows k own.SaveRecursions n before g = kept_as_before (0 + n) n before k.shots k.shots (omega arith) refl g
  own_grows k (own.CountVerdict class verdict reset) n before g = kept_as_before (0 + n) n before k.shots k.shots (omega arith) refl g

  step_grows : (p : StepPlan) (w n : ℕ) (k : ThreadView) (b : Bool) (before : List DumpShot) → Grows n before k.shots
      → Grows (cond b (one_shot p.own) 0 + n) before (cond b (known_hit s start p w k) (known_miss s start p w k)).shots
  step_grows p w n k true before g = own_grows k p.own n before g
  step_grows p w n k false before g = kept_as_before (0 + n) n before k.shots k.shots (omega arith) refl g

  grows_along : (ms : List StepMade) (k : ThreadView) → Grows (kept_shots ms) k.shots (known_along s start ms k).shots
  grows_along [] k = record { none = λ _. refl; one = λ z. absurd (omega (arith, z)) }
  grows_along (m ∷ ms) k = step_grows m.plan m.found (kept_shots ms) (known_along s start ms k) (hits m.plan.act m.found) k.shots (grows_along ms k)

  -- A dump that is done keeps the shot of its number; any other leaves the shots.
  module _ (shape : Shape) (k : Start) (before now : ThreadView) where
    along : (a : Result (Progress ℕ) TooManyDumps) → Ran s start (dump_steps shape k) before now a
        → (ms : List StepMade) × Keeps shape k ms a × Grows (kept_shots ms) before.shots now.shots
    along a ran =
        let f = knows ran in (
          f.steps,
          on_path (Keeps shape k) (dump_steps shape k) [] f.steps a (dump_keeps shape k) f.path,
          subst (λ (x : ThreadView). Grows (kept_shots f.steps) before.shots x.shots) (sym f.known) (grows_along f.steps before),
        )

    pub dump_shoots : (number : ℕ) → length before.shots ≡ k.shots → Ran s start (dump_steps shape k) before now (Ok (Done number))
        → (shot : DumpShot) × (now.shots ≡ before.shots ++ shot ∷ []) × (shot.number ≡ number)
    dump_shoots number same ran =
        let x = along (Ok (Done number)) ran in
        let one = x.2.one x.1.1 in
        (one.0, one.1, one.2 ∙ ap (λ n. n + 1) same ∙ sym x.1.0)

    pub dump_pends : (why : PendingCause) → Ran s start (dump_steps shape k) before now (Ok (Pending why)) → now.shots ≡ before.shots
    dump_pends why ran = let x = along (Ok (Pending why)) ran in x.2.none x.1

    pub dump_refuses : (e : TooManyDumps) → Ran s start (dump_steps shape k) before now (Err e) → now.shots ≡ before.shots
    dump_refuses e ran = let x = along (Err e) ran in x.2.none x.1
