-- The one run of a tree that a thread left alone makes.
use Rattle.std.proofs.Common.{◌≡◌, ◌≢◌, ℕ, zero, suc, ◌+◌, cond, Bool, true, false, List, [], ◌∷◌, Some, Err, refl, sym, ap, subst, ◌-◌, nat_lt}
use Rattle.mark_word.specs.declared.mark.MarkForm.TheVariants.{Inflating}
use Rattle.mark_word.specs.Mark.{read_mark}
use Rattle.mark_word.proofs.ReadingMarks.{read_mark-spells}
use Rattle.core_world.specs.declared.answer.Progress.{Progress}
use Rattle.core_world.specs.declared.answer.Progress.TheVariants.{Done, Pending}
use Rattle.core_world.specs.declared.word_id.WordId.{WordId}
use Rattle.core_world.specs.declared.word_id.WordId.TheVariants.{Mark, Safepoint, Class}
use Rattle.core_world.specs.declared.plan.StepPlan.{StepPlan}
use Rattle.core_world.specs.Words.Acts.{word_after}
use Rattle.core_world.specs.Words.Names.{class_by, with_word}
use Rattle.core_world.specs.Words.Shape.{Shape, class_in_shape}
use Rattle.core_world.specs.Threads.ThreadView.{StepMade}
use Rattle.core_world.specs.declared.stage.Stage.{Stage}
use Rattle.core_world.specs.Trees.Plans.{CallContext, load_plan, class_steps}
use Rattle.core_world.specs.Trees.Operations.{answer}
use Rattle.core_world.specs.Trees.StepTree.{StepTree, done, unreachable, step, ◌>>=◌, all_from}
use Rattle.core_world.proofs.Naming.{with_word_same}
use Rattle.core_calls.specs.Paths.{made, Always}
use Rattle.solo_progress.specs.Alone.{words_left, FoundAlone, AnswersAlone, Quiet}
use Rattle.solo_progress.specs.Answers.{RefusedWhere}

-- the words after one step
abbrev pub after : StepPlan → (WordId → ℕ) → WordId → ℕ
after p f = with_word p.at (word_after p.act (f p.at)) f

-- at the end of the run on the words f, P holds of the words and of the answer
abbrev pub Alone : {A : Type 0} → ((WordId → ℕ) → A → Type 0) → (WordId → ℕ) → StepTree A → Type 0
Alone P f (done a) = P f a
Alone P f unreachable = Unit {0}
Alone P f (step p g) = Alone P (after p f) (g (f p.at))

-- a call is done, and P holds of what it is done with
abbrev pub DoneWith : {A : Type 0} → (A → Type 0) → Progress A → Type 0
DoneWith P (Done a) = P a
DoneWith P (Pending why) = ⊥

-- FROM PART TO PART
pub alone_then : {A B : Type 0} (Q : (WordId → ℕ) → A → Type 0) (P : (WordId → ℕ) → B → Type 0) (d : StepTree A) (k : A → StepTree B) (f : WordId → ℕ)
    → Alone Q f d
    → ((g : WordId → ℕ) (a : A) → Q g a → Alone P g (k a)) → Alone P f (d >>= k)
alone_then Q P (done a) k f h more = more f a h
alone_then Q P unreachable k f h more = tt
alone_then Q P (step p g) k f h more = alone_then Q P (g (f p.at)) k (after p f) h more

pub alone_so : {A : Type 0} (Q P : (WordId → ℕ) → A → Type 0) (d : StepTree A) (f : WordId → ℕ) → Alone Q f d
    → ((g : WordId → ℕ) (a : A) → Q g a → P g a) → Alone P f d
alone_so Q P (done a) f h more = more f a h
alone_so Q P unreachable f h more = tt
alone_so Q P (step p g) f h more = alone_so Q P (g (f p.at)) (after p f) h more

pub alone_either : {A : Type 0} (P : (WordId → ℕ) → A → Type 0) (f : WordId → ℕ) (b : Bool) (x y : StepTree A) → (b ≡ true → Alone P f x)
    → (b ≡ false → Alone P f y) → Alone P f (cond b x y)
alone_either P f true x y h g = h refl
alone_either P f false x y h g = g refl

-- what holds of every answer holds at the end of every run
pub alone_all : {A : Type 0} (P : (WordId → ℕ) → A → Type 0) (d : StepTree A) (f : WordId → ℕ) → ((g : WordId → ℕ) (a : A) → P g a) → Alone P f d
alone_all P (done a) f h = h f a
alone_all P unreachable f h = tt
alone_all P (step p g) f h = alone_all P (g (f p.at)) (after p f) h

-- what follows a part, whatever that answers
pub alone_past : {A B : Type 0} (P : (WordId → ℕ) → B → Type 0) (d : StepTree A) (k : A → StepTree B) (f : WordId → ℕ)
    → ((g : WordId → ℕ) (a : A) → Alone P g (k a))
    → Alone P f (d >>= k)
alone_past P d k f more = alone_then (λ g a. Unit {0}) P d k f (alone_all (λ g a. Unit {0}) d f (λ g a. tt)) (λ g a x. more g a)

-- what is loaded to find an object's class leaves every word
pub alone_class : {A : Type 0} (P : (WordId → ℕ) → A → Type 0) (e : CallContext) (stage : Stage) (s : Shape) (o : ℕ) (k : ℕ → StepTree A) (f : WordId → ℕ)
    → Alone P f (k (class_by s f o)) → Alone P f (class_steps e stage s o >>= k)
alone_class {A} P e stage s o k f = by_test (nat_lt o s.declared)
  where
    by_test : (b : Bool) → Alone P f (k (cond b (class_in_shape s o) (f (Class o) - 1)))
        → Alone P f (cond b (done (class_in_shape s o)) (step (load_plan e stage (Class o)) (λ word. done (word - 1))) >>= k)
    by_test true h = h
    by_test false h = subst (λ (g : WordId → ℕ). Alone P g (k (f (Class o) - 1))) (sym (with_word_same (Class o) (f (Class o)) f refl)) h

-- the run is the one path whose steps found what those before them left
module _ {A : Type 0} (P : A → Type 0) (f : WordId → ℕ) where
  always_alone : (d : StepTree A) (ms : List StepMade) → (FoundAlone f ms → Alone (λ g a. P a) (words_left f ms) d)
      → Always (λ ms a. FoundAlone f ms → P a) ms d
  always_alone (done a) ms h = h
  always_alone unreachable ms h = tt
  always_alone (step p g) ms h =
      λ n. always_alone (g n) (made p n ∷ ms)
      (λ found. subst (λ x. Alone (λ g a. P a) (with_word p.at (word_after p.act x) (words_left f ms)) (g x)) (sym found.0) (h found.1))

  pub answers_alone : (d : StepTree A) → Alone (λ g a. P a) f d → AnswersAlone f d P
  answers_alone d h = record { by = always_alone d [] (λ _. h) }

-- a call that is refused, or goes on with a progress of which P holds
pub refused_or : {A E : Type 0} (refused : Bool) (r : E) (P : Progress A → Type 0) (d : StepTree (Progress A)) (f : WordId → ℕ)
    → Alone (λ g progress. P progress) f d
    → AnswersAlone f (cond refused (done (Err r)) (d >>= answer)) (RefusedWhere refused P)
refused_or refused r P d f h =
    answers_alone (RefusedWhere refused P) f _
    (alone_either (λ g a. RefusedWhere refused P a) f refused _ _ (λ none. none)
    (λ some. alone_then (λ g progress. P progress) (λ g a. RefusedWhere refused P a) d answer f h (λ g progress so. (some, so))))

-- the same of the words that its steps leave, too
module _ {A : Type 0} (P : (WordId → ℕ) → A → Type 0) (f : WordId → ℕ) where
  pub always_left : (d : StepTree A) (ms : List StepMade) → (FoundAlone f ms → Alone P (words_left f ms) d)
      → Always (λ ms a. FoundAlone f ms → P (words_left f ms) a) ms d
  always_left (done a) ms h = h
  always_left unreachable ms h = tt
  always_left (step p g) ms h =
      λ n. always_left (g n) (made p n ∷ ms)
      (λ found. subst (λ x. Alone P (with_word p.at (word_after p.act x) (words_left f ms)) (g x)) (sym found.0) (h found.1))

-- WORDS. A load leaves every word.
pub load_leaves : (at n : WordId) (f : WordId → ℕ) → with_word at (f at) f n ≡ f n
load_leaves at n f = ap (λ (g : WordId → ℕ). g n) (with_word_same at (f at) f refl)

-- a mark that isn't 0 isn't being inflated
pub not_inflating : (n : ℕ) → n ≢ 0 → read_mark n ≢ Some Inflating
not_inflating n some e = some ((read_mark-spells n Inflating e).1)

-- Of quiet words a call on o needs these two: o's mark isn't 0, and the safepoint word is this one. At a safepoint other marks change too.
pub record QuietAt (o safe : ℕ) (f : WordId → ℕ) : Type 0 where
  pub mark : f (Mark o) ≢ 0
  pub safepoint : f Safepoint ≡ safe

pub quiet_at : {safe : ℕ} {f : WordId → ℕ} (o : ℕ) → Quiet safe f → QuietAt o safe f
quiet_at o q = record { mark = q.marks o; safepoint = q.safepoint }

-- the steps for each of n numbers leave of the words what each of them leaves
pub alone_each : (P : (WordId → ℕ) → Type 0) (i n : ℕ) (d : ℕ → StepTree (Unit {0})) (f : WordId → ℕ) → P f
    → ((j : ℕ) (g : WordId → ℕ) → P g → Alone (λ h x. P h) g (d j)) → Alone (λ h x. P h) f (all_from i n d)
alone_each P i zero d f h each = h
alone_each P i (suc n) d f h each =
    alone_then (λ g (x : Unit {0}). P g) (λ g x. P g) (d i) (λ _. all_from (i + 1) n d) f (each i f h)
    (λ g x so. alone_each P (i + 1) n d g so each)
