-- A run makes of its thread's knowledge what the steps of its tree say.
use Rattle.std.proofs.Common.{◌≡◌, ◌⊎◌, ℕ, zero, suc, ◌+◌, ◌<◌, ◌≤◌, ◌==◌, cond, Bool, true, false, List, [], ◌∷◌, ◌++◌, map}
use Rattle.std.proofs.Common.{length, Option, Some, None, refl, sym, ap, ◌∙◌, subst, inl, inr, append_assoc, append-nil, arith}
use mathlib.Core.List.{map-append}
use Rattle.plain_monitor.specs.declared.entry.Entry.{Entry}
use Rattle.plain_monitor.specs.declared.entry.Entry.TheVariants as entry
use Rattle.plain_monitor.specs.declared.entry.Logged.{Logged}
use Rattle.core_world.specs.declared.plan.LogEffect.{LogEffect}
use Rattle.core_world.specs.declared.plan.LogEffect.TheVariants.{Quiet, Log, LogGet, LogHash}
use Rattle.core_world.specs.declared.plan.StepPlan.{StepPlan}
use Rattle.core_world.specs.declared.heap_call.Unfinished.{Unfinished}
use Rattle.core_world.specs.Words.Acts.{hits}
use Rattle.core_world.specs.Due.{Runs, Ran}
use Rattle.core_world.specs.Words.Forms.{hash_in}
use Rattle.core_world.specs.Threads.ThreadView.{ThreadView, StepMade, CallUnderway}
use Rattle.core_world.specs.Words.Shape.{Shape}
use Rattle.core_world.specs.Steps.{log_after, with_entry, unfinished_after, known_after, known_hit, known_miss, rest_of_call, left_of, known_along}
use Rattle.core_world.specs.Trees.Calls.{steps_of}
use Rattle.core_world.specs.Trees.StepTree.{StepTree, done, unreachable, step, after_answer, after_answers, head}
use Rattle.core_calls.specs.Paths.{made, Always, Says, IsPath, FollowsTree, noted, entries_of, left_unfinished, left_checking, Leaves, Tells, ThreadHasLogged}
use Rattle.core_calls.specs.Bounds.{IsWithin, most_steps}
use Rattle.core_calls.proofs.CallsSpend.{call_within}

-- ONE STEP adds its entries to the log, and leaves what its plan says.
record Adds (es : List Entry) (before after : List Logged) : Type 0 where
  new : List Logged
  log : after ≡ before ++ new
  entries : map (λ (x : Logged). x.entry) new ≡ es

hash_adds : (o n : ℕ) (log : List Logged) (b : Bool)
    → Adds (cond b [] (entry.Hash o (hash_in n) None ∷ [])) log (cond b log (with_entry (entry.Hash o (hash_in n) None) n log))
hash_adds o n log true = record { new = []; log = sym (append-nil log); entries = refl }
hash_adds o n log false = record { new = _; log = refl; entries = refl }

note_adds : (note : LogEffect) (n : ℕ) (log : List Logged) → Adds (noted note n) log (log_after note n log)
note_adds Quiet n log = record { new = []; log = sym (append-nil log); entries = refl }
note_adds (Log e) n log = record { new = _; log = refl; entries = refl }
note_adds (LogGet o slot) n log = record { new = _; log = refl; entries = refl }
note_adds (LogHash o) n log = hash_adds o n log (hash_in n == 0)

step_adds : (s : Shape) (start : ℕ) (p : StepPlan) (n : ℕ) (k : ThreadView) (b : Bool)
    → Adds (cond b (noted p.note n) []) k.log (cond b (known_hit s start p n k) (known_miss s start p n k)).log
step_adds s start p n k true = note_adds p.note n k.log
step_adds s start p n k false = record { new = []; log = sym (append-nil k.log); entries = refl }

step_unfinished : (s : Shape) (start : ℕ) (p : StepPlan) (n : ℕ) (k : ThreadView) (b : Bool)
    → (cond b (known_hit s start p n k) (known_miss s start p n k)).unfinished ≡ cond b (unfinished_after p.note n p.after) k.unfinished
step_unfinished s start p n k true = refl
step_unfinished s start p n k false = refl

step_checking : (s : Shape) (start : ℕ) (p : StepPlan) (n : ℕ) (k : ThreadView) (b : Bool)
    → (cond b (known_hit s start p n k) (known_miss s start p n k)).checking ≡ cond b p.check k.checking
step_checking s start p n k true = refl
step_checking s start p n k false = refl

pub step_counts : (s : Shape) (start : ℕ) (p : StepPlan) (n : ℕ) (k : ThreadView) (b : Bool)
    → (cond b (known_hit s start p n k) (known_miss s start p n k)).steps ≡ made p n ∷ k.steps
step_counts s start p n k true = refl
step_counts s start p n k false = refl

-- A RUN, from what its thread knew at first, by way of what it knows after the steps made so far
record Since (k0 k : ThreadView) (ms : List StepMade) : Type 0 where
  steps : k.steps ≡ ms ++ k0.steps
  adds : Adds (entries_of ms) k0.log k.log
  unfinished : k.unfinished ≡ left_unfinished ms k0.unfinished
  checking : k.checking ≡ left_checking ms k0.checking

more_entries : (es fs : List Entry) (a b c : List Logged) → Adds es a b → Adds fs b c → Adds (es ++ fs) a c
more_entries es fs a b c x y =
    record {
      new = x.new ++ y.new;
      log = y.log ∙ ap (λ (l : List Logged). l ++ y.new) x.log ∙ append_assoc a x.new y.new;
      entries = map-append (λ (x : Logged). x.entry) x.new y.new ∙ (λ i. x.entries i ++ y.entries i);
    }

since_step : (s : Shape) (start : ℕ) (p : StepPlan) (n : ℕ) (k0 k : ThreadView) (ms : List StepMade)
    → Since k0 k ms → Since k0 (known_after s start p n k) (made p n ∷ ms)
since_step s start p n k0 k ms h =
    record {
      steps = step_counts s start p n k (hits p.act n) ∙ ap (λ (x : List StepMade). made p n ∷ x) h.steps;
      adds = more_entries (entries_of ms) _ k0.log k.log _ h.adds (step_adds s start p n k (hits p.act n));
      unfinished = step_unfinished s start p n k (hits p.act n)
          ∙ ap (λ (x : Option Unfinished). cond (hits p.act n) (unfinished_after p.note n p.after) x) h.unfinished;
      checking = step_checking s start p n k (hits p.act n) ∙ ap (λ (x : Bool). cond (hits p.act n) p.check x) h.checking;
    }

module _ {A : Type 0} (s : Shape) (start : ℕ) (P : List StepMade → A → Type 0) (k0 : ThreadView) where
  told : (d : StepTree A) (ms : List StepMade) (k l : ThreadView) (a : A) → Always P ms d → Runs s start d k l a → Since k0 k ms → Tells k0 l (λ ms. P ms a)
  told (done b) ms k l a h r so =
      record {
        steps = ms;
        added = ap (λ (x : ThreadView). x.steps) r.0 ∙ so.steps;
        new = so.adds.new;
        log = ap (λ (x : ThreadView). x.log) r.0 ∙ so.adds.log;
        entries = so.adds.entries;
        unfinished = ap (λ (x : ThreadView). x.unfinished) r.0 ∙ so.unfinished;
        checking = ap (λ (x : ThreadView). x.checking) r.0 ∙ so.checking;
        says = subst (λ (x : A). P ms x) (sym r.1) h;
      }
  told unreachable ms k l a h r so = absurd r
  told (step p f) ms k l a h r so = told (f r.0) (made p r.0 ∷ ms) (known_after s start p r.0 k) l a (h r.0) r.1 (since_step s start p r.0 k0 k ms so)

-- the bridge from trees to what threads know
pub tells : {A : Type 0} {s : Shape} {start : ℕ} {d : StepTree A} {P : List StepMade → A → Type 0} {k l : ThreadView} {a : A}
    → Says d P → Ran s start d k l a → Tells k l (λ ms. P ms a)
tells {A} {s} {start} {d} {P} {k} {l} {a} h r =
    told s start P k d [] k l a h.by r.by (record {
      steps = refl;
      adds = record { new = []; log = sym (append-nil k.log); entries = refl };
      unfinished = refl;
      checking = refl;
    })

-- so what its thread knows at the end is what the steps made of what it knew
module _ {A : Type 0} (s : Shape) (start : ℕ) (whole : StepTree A) (k0 : ThreadView) where
  along : (d : StepTree A) (ms : List StepMade) (k l : ThreadView) (a : A) → Always (λ ms a. IsPath whole [] ms a) ms d
      → Runs s start d k l a → k ≡ known_along s start ms k0 → k.steps ≡ ms ++ k0.steps → FollowsTree s start whole k0 l a
  along (done b) ms k l a h r so added =
      record {
        steps = ms;
        path = subst (λ (x : A). IsPath whole [] ms x) (sym r.1) h;
        added = ap (λ (x : ThreadView). x.steps) r.0 ∙ added;
        known = r.0 ∙ so;
      }
  along unreachable ms k l a h r so added = absurd r
  along (step p f) ms k l a h r so added =
      along (f r.0) (made p r.0 ∷ ms) (known_after s start p r.0 k) l a (h r.0) r.1 (ap (λ (x : ThreadView). known_after s start p r.0 x) so)
      (step_counts s start p r.0 k (hits p.act r.0) ∙ ap (λ (x : List StepMade). made p r.0 ∷ x) added)

-- what always holds, holds of each path
pub on_path : {A : Type 0} (P : List StepMade → A → Type 0) (d : StepTree A) (sofar ms : List StepMade) (a : A)
    → Always P sofar d → IsPath d sofar ms a → P ms a
on_path {A} P (done b) sofar ms a h path = subst (λ (x : A). P ms x) (sym path.1) (subst (λ (x : List StepMade). P x b) (sym path.0) h)
on_path P unreachable sofar ms a h path = absurd path
on_path P (step p f) sofar ms a h path = on_path P (f path.0) (made p path.0 ∷ sofar) ms a (h path.0) path.1

-- and that it is a path holds always
always_path : {A : Type 0} (P : List StepMade → A → Type 0) (d : StepTree A) (sofar : List StepMade)
    → ((ms : List StepMade) (a : A) → IsPath d sofar ms a → P ms a) → Always P sofar d
always_path P (done b) sofar so = so sofar b (refl, refl)
always_path P unreachable sofar so = tt
always_path P (step p f) sofar so = λ n. always_path P (f n) (made p n ∷ sofar) (λ ms a path. so ms a (n, path))

-- so a run follows a path
pub follows : {A : Type 0} {s : Shape} {start : ℕ} {d : StepTree A} {k l : ThreadView} {a : A} → Ran s start d k l a → Tells k l (λ ms. IsPath d [] ms a)
follows {A} {s} {start} {d} {k} {l} {a} r = tells {P = IsPath d []} (record { by = always_path (IsPath d []) d [] (λ ms a path. path) }) r

pub knows : {A : Type 0} {s : Shape} {start : ℕ} {d : StepTree A} {k l : ThreadView} {a : A} → Ran s start d k l a → FollowsTree s start d k l a
knows {A} {s} {start} {d} {k} {l} {a} r = along s start d k d [] k l a (always_path (IsPath d []) d [] (λ ms a path. path)) r.by refl refl

pub did : (es : List Entry) (u : Option Unfinished) (check : Bool) (k l : ThreadView) → Tells k l (Leaves es u check) → ThreadHasLogged es u check k l
did es u check k l t =
    record {
      new = t.new;
      log = t.log;
      entries = t.entries ∙ t.says.entries;
      unfinished = t.unfinished ∙ t.says.unfinished k.unfinished;
      checking = t.checking ∙ t.says.checking k.checking;
    }

no_entry : (new : List Logged) → map (λ (x : Logged). x.entry) new ≡ [] → new ≡ []
no_entry [] h = refl
no_entry (x ∷ xs) h = absurd (cc)

one_entry : (e : Entry) (new : List Logged) → map (λ (x : Logged). x.entry) new ≡ e ∷ [] → (stamp : ℕ) × (new ≡ record { stamp = stamp; entry = e } ∷ [])
one_entry e [] h = absurd (cc)
one_entry e (x ∷ []) h = let same : x.entry ≡ e = cc in (x.stamp, ap (λ (y : Entry). record { stamp = x.stamp; entry = y } ∷ []) same)
one_entry e (x ∷ y ∷ zs) h = absurd (cc)

pub did_none : (u : Option Unfinished) (check : Bool) (k l : ThreadView) → ThreadHasLogged [] u check k l → l.log ≡ k.log
did_none u check k l d = d.log ∙ ap (λ (x : List Logged). k.log ++ x) (no_entry d.new d.entries) ∙ append-nil k.log

pub did_one : (e : Entry) (u : Option Unfinished) (check : Bool) (k l : ThreadView)
    → ThreadHasLogged (e ∷ []) u check k l → (stamp : ℕ) × (l.log ≡ k.log ++ record { stamp = stamp; entry = e } ∷ [])
did_one e u check k l d = let one = one_entry e d.new d.entries in (one.0, d.log ∙ ap (λ (x : List Logged). k.log ++ x) one.1)

-- BOUNDS. A run of a tree within n adds at most n steps.
module _ {A : Type 0} (s : Shape) (start : ℕ) where
  run_within : (n : ℕ) (d : StepTree A) (k l : ThreadView) (a : A) → IsWithin n d → Runs s start d k l a → length l.steps ≤ n + length k.steps
  run_within n (done b) k l a h r = subst (λ (x : ThreadView). length x.steps ≤ n + length k.steps) (sym r.0) (omega arith)
  run_within n unreachable k l a h r = absurd r
  run_within zero (step p f) k l a h r = absurd h
  run_within (suc n) (step p f) k l a h r =
      let counts = ap length (step_counts s start p r.0 k (hits p.act r.0)) in
      let after = run_within n (f r.0) (known_after s start p r.0 k) l a (h r.0) r.1 in
      omega (arith, counts, after)

-- after some answers no step is to come, or so many fewer are left
record Left {A : Type 0} (n sofar : ℕ) (d : StepTree A) : Type 0 where
  by : (head d ≡ None) ⊎ ((left : ℕ) × (sofar + left ≡ n) × IsWithin left d)

module _ {A : Type 0} (n : ℕ) where
  one_less : (sofar word : ℕ) (d : StepTree A) → Left n sofar d → Left n (suc sofar) (after_answer d word)
  one_less sofar word (done a) h = record { by = inl refl }
  one_less sofar word unreachable h = record { by = inl refl }
  one_less sofar word (step p f) h = cases h.by
    where
      cases : (head (step p f) ≡ None) ⊎ ((left : ℕ) × (sofar + left ≡ n) × IsWithin left (step p f)) → Left n (suc sofar) (f word)
      cases (inl none) = absurd (cc none)
      cases (inr (zero, sum, h)) = absurd h
      cases (inr (suc left, sum, h)) = record { by = inr (left, omega (arith, sum), h word) }

  left_after : (d : StepTree A) (answers : List ℕ) → IsWithin n d → Left n (length answers) (after_answers d answers)
  left_after d [] h = record { by = inr (n, omega arith, h) }
  left_after d (word ∷ words) h = one_less (length words) word (after_answers d words) (left_after d words h)

  some_left : (sofar : ℕ) (p : StepPlan) (d : StepTree A) → Left n sofar d → head d ≡ Some p → sofar < n
  some_left sofar p (done a) h due = absurd (cc due)
  some_left sofar p unreachable h due = absurd (cc due)
  some_left sofar p (step q f) h due = cases h.by
    where
      cases : (head (step q f) ≡ None) ⊎ ((left : ℕ) × (sofar + left ≡ n) × IsWithin left (step q f)) → sofar < n
      cases (inl none) = absurd (cc none)
      cases (inr (zero, sum, h)) = absurd h
      cases (inr (suc left, sum, h)) = omega (arith, sum)

-- where a call's next step is to come, it has made fewer steps than it may make at most
pub next_counts : (s : Shape) (k : ThreadView) (b : CallUnderway) (p : StepPlan)
    → k.call ≡ Some b → head (rest_of_call s k) ≡ Some p → length b.answers < most_steps s b.task
next_counts s k b p begun due =
    some_left (most_steps s b.task) (length b.answers) p (after_answers (steps_of s b.task b.start) b.answers)
    (left_after (most_steps s b.task) (steps_of s b.task b.start) b.answers (call_within s b.task b.start))
    (sym (ap (λ (c : Option CallUnderway). head (left_of s c)) begun) ∙ due)

pub ran_within : {A : Type 0} {s : Shape} {start : ℕ} {d : StepTree A} {k l : ThreadView} {a : A} (n : ℕ)
    → IsWithin n d → Ran s start d k l a → length l.steps ≤ n + length k.steps
ran_within {A} {s} {start} {d} {k} {l} {a} n h r = run_within s start n d k l a h r.by
