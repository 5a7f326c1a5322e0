-- How what is said of paths goes from step to step and from part to part.
use Rattle.std.proofs.Common.{◌≡◌, ℕ, ◌==◌, cond, Bool, true, false, List, [], ◌∷◌, ◌++◌, Option, Some, refl}
use Rattle.std.proofs.Common.{sym, ap, ◌∙◌, inl, inr, append-nil, true≢false, eq-eqb, eqb-true, ◌-◌, nat_lt}
use Rattle.plain_monitor.specs.declared.entry.Entry.{Entry}
use Rattle.core_world.specs.declared.act.Act.TheVariants.{Load, CompareExchange}
use Rattle.core_world.specs.declared.word_id.WordId.{WordId}
use Rattle.core_world.specs.declared.plan.LogEffect.{LogEffect}
use Rattle.core_world.specs.declared.plan.LogEffect.TheVariants.{Quiet, Log}
use Rattle.core_world.specs.declared.plan.StepPlan.{StepPlan}
use Rattle.core_world.specs.declared.heap_call.Unfinished.{Unfinished}
use Rattle.core_world.specs.Words.Acts.{hits, word_after}
use Rattle.core_world.specs.Threads.ThreadView.{StepMade, last_seen}
use Rattle.core_world.specs.Trees.Plans.{CallContext, load_plan, class_steps}
use Rattle.core_world.specs.Steps.{unfinished_after}
use Rattle.core_world.specs.Trees.StepTree.{StepTree, done, unreachable, step, ◌>>=◌}
use Rattle.core_world.specs.declared.act.Act.{Act}
use Rattle.core_world.specs.Words.Shape.{Shape, class_in_shape}
use Rattle.core_world.specs.declared.stage.Stage.{Stage}
use Rattle.core_world.specs.declared.word_id.WordId.TheVariants.{Class}
use Rattle.core_world.proofs.Naming.{same_as_itself}
use Rattle.core_calls.specs.Paths.{made, Always, noted, entries_of, left_unfinished, left_checking, Leaves}
use Rattle.core_calls.specs.Causes.{Missed, Put, Loaded, AmongAfter}
use Rattle.core_calls.specs.Moments.{IsPlanOf}
use Rattle.core_calls.proofs.Stays.{IsApart}

-- FROM PART TO PART
pub always_then : {A B : Type 0} (P : List StepMade → A → Type 0) (Q : List StepMade → B → Type 0) (d : StepTree A) (g : A → StepTree B)
    (ms : List StepMade) → Always P ms d → ((ms : List StepMade) (a : A) → P ms a → Always Q ms (g a)) → Always Q ms (d >>= g)
always_then P Q (done a) g ms h more = more ms a h
always_then P Q unreachable g ms h more = tt
always_then P Q (step p f) g ms h more = λ n. always_then P Q (f n) g (made p n ∷ ms) (h n) more

-- the same where only the last thing said changes
pub always_so : {A : Type 0} (P Q : List StepMade → A → Type 0) (d : StepTree A) (ms : List StepMade)
    → Always P ms d → ((ms : List StepMade) (a : A) → P ms a → Q ms a) → Always Q ms d
always_so P Q (done a) ms h more = more ms a h
always_so P Q unreachable ms h more = tt
always_so P Q (step p f) ms h more = λ n. always_so P Q (f n) (made p n ∷ ms) (h n) more

pub either_way : {A : Type 0} (P : List StepMade → A → Type 0) (ms : List StepMade) (b : Bool) (x y : StepTree A)
    → (b ≡ true → Always P ms x) → (b ≡ false → Always P ms y) → Always P ms (cond b x y)
either_way P ms true x y h g = h refl
either_way P ms false x y h g = g refl

-- the class of an object is known at once, or by one load
pub class_way : {A : Type 0} (P : List StepMade → A → Type 0) (ms : List StepMade) (e : CallContext) (stage : Stage) (s : Shape) (o : ℕ) (f : ℕ → StepTree A)
    → ((class : ℕ) → Always P ms (f class)) → ((word : ℕ) → Always P (made (load_plan e stage (Class o)) word ∷ ms) (f (word - 1)))
    → Always P ms (class_steps e stage s o >>= f)
class_way P ms e stage s o f h g = by_test (nat_lt o s.declared)
  where
    by_test : (b : Bool) → Always P ms (cond b (done (class_in_shape s o)) (step (load_plan e stage (Class o)) (λ word. done (word - 1))) >>= f)
    by_test true = h (class_in_shape s o)
    by_test false = λ word. g word

-- FROM STEP TO STEP. Nothing is logged, and this is unfinished.
abbrev pub Silent : CallContext → List StepMade → Type 0
Silent e ms = Leaves [] e.unfinished e.check ms

-- these are the entries so far
pub record Logs (es : List Entry) (ms : List StepMade) : Type 0 where
  pub are : entries_of ms ≡ es

-- no entry yet: a call may begin so
abbrev pub Still : List StepMade → Type 0
Still ms = Logs [] ms

pub still : {es : List Entry} {u : Option Unfinished} {check : Bool} {ms : List StepMade} → Leaves es u check ms → Logs es ms
still h = record { are = h.entries }

-- a quiet step leaves all this as it is, whether it hits or misses
pub still_leaves : {es : List Entry} {u : Option Unfinished} {check : Bool} (p : StepPlan) (n : ℕ) (ms : List StepMade)
    → p.note ≡ Quiet → p.after ≡ u → p.check ≡ check → Leaves es u check ms → Leaves es u check (made p n ∷ ms)
still_leaves {es} {u} {check} p n ms q a c h =
    record {
      entries = ap (λ (x : LogEffect). entries_of ms ++ cond (hits p.act n) (noted x n) []) q ∙ none (hits p.act n) ∙ append-nil (entries_of ms) ∙ h.entries;
      unfinished = λ before. ap (λ (x : LogEffect). cond (hits p.act n) (unfinished_after x n p.after) (left_unfinished ms before)) q
          ∙ so (hits p.act n) a (h.unfinished before);
      checking = λ before. so (hits p.act n) c (h.checking before);
    }
  where
    none : (b : Bool) → entries_of ms ++ cond b [] [] ≡ entries_of ms ++ []
    none true = refl
    none false = refl

    so : {A : Type 0} {x y z : A} (b : Bool) → x ≡ z → y ≡ z → cond b x y ≡ z
    so true e f = e
    so false e f = f

-- so it logs nothing
pub still_more : (p : StepPlan) (n : ℕ) (ms : List StepMade) → p.note ≡ Quiet → Still ms → Still (made p n ∷ ms)
still_more p n ms q h =
    record { are = ap (λ (x : LogEffect). entries_of ms ++ cond (hits p.act n) (noted x n) []) q ∙ none (hits p.act n) ∙ append-nil (entries_of ms) ∙ h.are }
  where
    none : (b : Bool) → entries_of ms ++ cond b [] [] ≡ entries_of ms ++ []
    none true = refl
    none false = refl

-- a quiet step that hits makes it so
pub now_silent : (e : CallContext) (p : StepPlan) (n : ℕ) (ms : List StepMade) → hits p.act n ≡ true
    → p.note ≡ Quiet → p.after ≡ e.unfinished → p.check ≡ e.check → Still ms → Silent e (made p n ∷ ms)
now_silent e p n ms hit q u c h =
    record {
      entries = ap (λ (b : Bool). entries_of ms ++ cond b (noted p.note n) []) hit
          ∙ ap (λ (x : LogEffect). entries_of ms ++ noted x n) q ∙ append-nil (entries_of ms) ∙ h.are;
      unfinished = λ before. ap (λ (b : Bool). cond b (unfinished_after p.note n p.after) (left_unfinished ms before)) hit
          ∙ ap (λ (x : LogEffect). unfinished_after x n p.after) q ∙ u;
      checking = λ before. ap (λ (b : Bool). cond b p.check (left_checking ms before)) hit ∙ c;
    }

-- a step that logs this and hits
pub now_logged : {es : List Entry} (entry : Entry) (u : Option Unfinished) (check : Bool) (p : StepPlan) (n : ℕ) (ms : List StepMade)
    → hits p.act n ≡ true → p.note ≡ Log entry → p.after ≡ u → p.check ≡ check → Logs es ms → Leaves (es ++ entry ∷ []) u check (made p n ∷ ms)
now_logged {es} entry u check p n ms hit q a c h =
    record {
      entries = ap (λ (b : Bool). entries_of ms ++ cond b (noted p.note n) []) hit
          ∙ ap (λ (x : LogEffect). entries_of ms ++ noted x n) q ∙ ap (λ (x : List Entry). x ++ entry ∷ []) h.are;
      unfinished = λ before. ap (λ (b : Bool). cond b (unfinished_after p.note n p.after) (left_unfinished ms before)) hit
          ∙ ap (λ (x : LogEffect). unfinished_after x n p.after) q ∙ a;
      checking = λ before. ap (λ (b : Bool). cond b p.check (left_checking ms before)) hit ∙ c;
    }

-- a quiet step after what was logged
pub still_logged : {es : List Entry} {u : Option Unfinished} {check : Bool} (p : StepPlan) (n : ℕ) (ms : List StepMade)
    → hits p.act n ≡ true → p.note ≡ Quiet → p.after ≡ u → p.check ≡ check → Logs es ms → Leaves es u check (made p n ∷ ms)
still_logged {es} {u} {check} p n ms hit q a c h =
    record {
      entries = ap (λ (b : Bool). entries_of ms ++ cond b (noted p.note n) []) hit
          ∙ ap (λ (x : LogEffect). entries_of ms ++ noted x n) q ∙ append-nil (entries_of ms) ∙ h.are;
      unfinished = λ before. ap (λ (b : Bool). cond b (unfinished_after p.note n p.after) (left_unfinished ms before)) hit
          ∙ ap (λ (x : LogEffect). unfinished_after x n p.after) q ∙ a;
      checking = λ before. ap (λ (b : Bool). cond b p.check (left_checking ms before)) hit ∙ c;
    }

-- An exchange that misses logs nothing, whatever it would have.
pub missed : {es : List Entry} {u : Option Unfinished} {check : Bool} (p : StepPlan) (n : ℕ) (ms : List StepMade)
    → hits p.act n ≡ false → Leaves es u check ms → Leaves es u check (made p n ∷ ms)
missed {es} {u} {check} p n ms miss h =
    record {
      entries = ap (λ (b : Bool). entries_of ms ++ cond b (noted p.note n) []) miss ∙ append-nil (entries_of ms) ∙ h.entries;
      unfinished = λ before. ap (λ (b : Bool). cond b (unfinished_after p.note n p.after) (left_unfinished ms before)) miss ∙ h.unfinished before;
      checking = λ before. ap (λ (b : Bool). cond b p.check (left_checking ms before)) miss ∙ h.checking before;
    }

-- the exchange that was made last found another word than it expected, which the steps before it had
pub missed_last : {Had : WordId → ℕ → List StepMade → Type 0} (p : StepPlan) (n : ℕ) (ms : List StepMade) (expected word : ℕ)
    → p.act ≡ CompareExchange expected word → (n == expected) ≡ false → Had p.at expected ms → Missed Had expected n (made p n ∷ ms)
missed_last {Had} p n ms expected word act miss had =
    record { differ = λ (z : n ≡ expected). true≢false (sym (eq-eqb n expected z) ∙ miss); at = p.at; among = inl (word, refl, act, refl, had) }

-- the exchange that was made last put its word there
pub put_last : (p : StepPlan) (n : ℕ) (ms : List StepMade) (expected word : ℕ)
    → p.act ≡ CompareExchange expected word → (n == expected) ≡ true → Put p.at word (made p n ∷ ms)
put_last p n ms expected word act hit = inl (refl, act ∙ ap (λ (old : ℕ). CompareExchange old word) (sym (eqb-true n expected hit)))

-- WORDS THAT WERE SEEN LAST: by a load, or by an exchange that put them there; and still after a step on another word.
abbrev pub LastSeen : WordId → ℕ → List StepMade → Type 0
LastSeen at word ms = last_seen at ms ≡ Some word

abbrev pub Saw : WordId → ℕ → List StepMade → Type 0
Saw at word ms = Loaded at word ms × LastSeen at word ms

last_left : (p : StepPlan) (n : ℕ) (ms : List StepMade) → LastSeen p.at (word_after p.act n) (made p n ∷ ms)
last_left p n ms = ap (λ (b : Bool). cond b (Some (word_after p.act n)) (last_seen p.at ms)) (same_as_itself p.at)

pub saw_load : (p : StepPlan) (n : ℕ) (ms : List StepMade) → p.act ≡ Load → Saw p.at n (made p n ∷ ms)
saw_load p n ms act = (inl (refl, act, refl), last_left p n ms ∙ ap (λ (a : Act). Some (word_after a n)) act)

pub saw_put : (p : StepPlan) (n : ℕ) (ms : List StepMade) (expected word : ℕ)
    → p.act ≡ CompareExchange expected word → (n == expected) ≡ true → LastSeen p.at word (made p n ∷ ms)
saw_put p n ms expected word act hit =
    last_left p n ms ∙ ap (λ (a : Act). Some (word_after a n)) act ∙ ap (λ (b : Bool). Some (cond b word n)) hit

among_so : {P Q : StepMade → List StepMade → Type 0} (ms : List StepMade) → ((m : StepMade) (before : List StepMade) → P m before → Q m before)
    → AmongAfter P ms → AmongAfter Q ms
among_so [] so h = h
among_so (m ∷ ms) so (inl h) = inl (so m ms h)
among_so (m ∷ ms) so (inr h) = inr (among_so ms so h)

pub missed_so : {Had Has : WordId → ℕ → List StepMade → Type 0} {expected found : ℕ} (ms : List StepMade)
    → ((at : WordId) (word : ℕ) (before : List StepMade) → Had at word before → Has at word before) → Missed Had expected found ms
    → Missed Has expected found ms
missed_so {expected = expected} ms so h =
    record { differ = h.differ; at = h.at; among = among_so ms (λ m before x. (x.0, x.1, x.2, x.3, so h.at expected before x.4)) h.among }

pub missed_loaded : {expected found : ℕ} (ms : List StepMade) → Missed Saw expected found ms → Missed Loaded expected found ms
missed_loaded ms h = missed_so ms (λ at word before x. x.0) h

pub missed_seen : {expected found : ℕ} (ms : List StepMade) → Missed Saw expected found ms → Missed LastSeen expected found ms
missed_seen ms h = missed_so ms (λ at word before x. x.1) h

-- QUIET TREES: each step logs nothing, leaves these unfinished and passes the test T; and it is of the call, if G holds.
pub record IsQuietIf (G : Type 0) (T : WordId → Act → Type 0) (e : CallContext) (p : StepPlan) : Type 0 where
  pub note : p.note ≡ Quiet
  pub unfinished : p.after ≡ e.unfinished
  pub check : p.check ≡ e.check
  pub passes : T p.at p.act
  pub of : G → IsPlanOf e.task p

abbrev pub IsQuiet : CallContext → StepPlan → Type 0
IsQuiet e p = IsQuietIf (Unit {0}) IsApart e p
