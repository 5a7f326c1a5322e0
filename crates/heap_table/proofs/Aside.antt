-- Steps that leave what a call takes of its thread's knowledge at its beginning: they log nothing, store none of its hold words nor its waiting word, and
-- keep nothing for themselves but verdicts, and which monitor they give back.
use Rattle.std.proofs.Common.{◌≡◌, ℕ, zero, suc, ◌+◌, ◌<◌, Bool, true, false, cond, if◌then◌else◌, Option, List, length, refl, sym, ap, ◌∙◌, subst}
use Rattle.plain_monitor.specs.declared.entry.Logged.{Logged}
use Rattle.core_world.specs.declared.act.Act.{Act}
use Rattle.core_world.specs.declared.act.Act.TheVariants as act
use Rattle.core_world.specs.declared.word_id.WordId.{WordId}
use Rattle.core_world.specs.declared.word_id.WordId.TheVariants as id
use Rattle.core_world.specs.declared.plan.LogEffect.{LogEffect}
use Rattle.core_world.specs.declared.plan.LogEffect.TheVariants.{Quiet}
use Rattle.core_world.specs.declared.plan.LocalEffect.{LocalEffect}
use Rattle.core_world.specs.declared.plan.LocalEffect.TheVariants as own
use Rattle.core_world.specs.declared.plan.StepPlan.{StepPlan}
use Rattle.core_world.specs.Due.{Runs}
use Rattle.core_world.specs.Steps.{known_after, known_hit, known_miss, holds_after, wait_after, kept_after, saved_after, shots_after, log_after, draws_after}
use Rattle.core_world.specs.Threads.ThreadView.{ThreadView, Local, local_of}
use Rattle.core_world.specs.Trees.StepTree.{StepTree, done, unreachable, step, ◌>>=◌, all_from, each_from}
use Rattle.core_world.specs.Words.Acts.{hits}
use Rattle.core_world.specs.Words.Shape.{Shape}
use Rattle.heap_table.specs.Parts.{HasMadeSteps}
use Rattle.heap_table.specs.Seen.{HeapSeen, PassSeen}

-- it stores no hold word and no waiting word
abbrev pub leaves_own_words : WordId → Act → Bool
leaves_own_words (id.Hold t p) (act.Store word) = false
leaves_own_words (id.Waiting t) (act.Store word) = false
leaves_own_words _ _ = true

-- it keeps nothing, or a verdict, or gives a monitor back, which no call's beginning goes by
abbrev pub keeps_aside : LocalEffect → Bool
keeps_aside own.Unchanged = true
keeps_aside (own.Detach m) = true
keeps_aside own.Enqueue = true
keeps_aside (own.CountVerdict c v r) = true
keeps_aside _ = false

pub record IsAside (p : StepPlan) : Type 0 where
  pub quiet : p.note ≡ Quiet
  pub words : leaves_own_words p.at p.act ≡ true
  pub keeps : keeps_aside p.own ≡ true

abbrev pub AreAside : {A : Type 0} → StepTree A → Type 0
AreAside (done a) = Unit {0}
AreAside unreachable = Unit {0}
AreAside (step p f) = IsAside p × ((n : ℕ) → AreAside (f n))

-- what a thread knows became this, and a call would begin as before but for its request, its unfinished operation and its check
pub record StartsAlike (k l : ThreadView) : Type 0 where
  pub local : local_of l ≡ local_of k
  pub kept : l.kept ≡ k.kept
  pub saved : l.saved ≡ k.saved
  pub draws : l.draws ≡ k.draws
  pub shots : l.shots ≡ k.shots

pub alike : (k : ThreadView) → StartsAlike k k
alike k = record { local = refl; kept = refl; saved = refl; draws = refl; shots = refl }

pub alike_then : (k l m : ThreadView) → StartsAlike k l → StartsAlike l m → StartsAlike k m
alike_then k l m a b = record {
  local = b.local ∙ a.local;
  kept = b.kept ∙ a.kept;
  saved = b.saved ∙ a.saved;
  draws = b.draws ∙ a.draws;
  shots = b.shots ∙ a.shots;
}

same_holds : (at : WordId) (a : Act) (k : ThreadView) → leaves_own_words at a ≡ true → holds_after at a k ≡ k.holds
same_holds (id.Hold t p) (act.Store word) k e = absurd (cc e)
same_holds (id.Hold t p) _ k e = refl
same_holds _ _ k e = refl

same_wait : (at : WordId) (a : Act) (k : ThreadView) → leaves_own_words at a ≡ true → wait_after at a k ≡ k.wait
same_wait (id.Waiting t) (act.Store word) k e = absurd (cc e)
same_wait (id.Waiting t) _ k e = refl
same_wait _ _ k e = refl

same_kept : (o : LocalEffect) (n : ℕ) (kept : Option ℕ) → keeps_aside o ≡ true → kept_after o n kept ≡ kept
same_kept own.Unchanged n kept e = refl
same_kept (own.CountVerdict c v r) n kept e = refl
same_kept own.Position n kept e = absurd (cc e)
same_kept own.Claim n kept e = absurd (cc e)
same_kept (own.Detach m) n kept e = refl
same_kept own.Enqueue n kept e = refl
same_kept own.DropClaim n kept e = absurd (cc e)
same_kept own.SaveRecursions n kept e = absurd (cc e)
same_kept own.TakeShot n kept e = absurd (cc e)

same_saved : (o : LocalEffect) (n saved : ℕ) → keeps_aside o ≡ true → saved_after o n saved ≡ saved
same_saved own.Unchanged n saved e = refl
same_saved (own.CountVerdict c v r) n saved e = refl
same_saved own.Position n saved e = absurd (cc e)
same_saved own.Claim n saved e = absurd (cc e)
same_saved (own.Detach m) n saved e = refl
same_saved own.Enqueue n saved e = refl
same_saved own.DropClaim n saved e = absurd (cc e)
same_saved own.SaveRecursions n saved e = absurd (cc e)
same_saved own.TakeShot n saved e = absurd (cc e)

same_shots : (o : LocalEffect) (s : Shape) (k : ThreadView) → keeps_aside o ≡ true → shots_after o s k ≡ k.shots
same_shots own.Unchanged s k e = refl
same_shots (own.CountVerdict c v r) s k e = refl
same_shots own.Position s k e = absurd (cc e)
same_shots own.Claim s k e = absurd (cc e)
same_shots (own.Detach m) s k e = refl
same_shots own.Enqueue s k e = refl
same_shots own.DropClaim s k e = absurd (cc e)
same_shots own.SaveRecursions s k e = absurd (cc e)
same_shots own.TakeShot s k e = absurd (cc e)

step_aside : (s : Shape) (start : ℕ) (p : StepPlan) (n : ℕ) (k : ThreadView) → IsAside p → StartsAlike k (known_after s start p n k)
step_aside s start p n k a = cases (hits p.act n)
  where
    cases : (b : Bool) → StartsAlike k (cond b (known_hit s start p n k) (known_miss s start p n k))
    cases true = record {
      local = λ i. record {
        thread = k.thread;
        log = log_after (a.quiet i) n k.log;
        holds = same_holds p.at p.act k a.words i;
        wait = same_wait p.at p.act k a.words i;
      };
      kept = same_kept p.own n k.kept a.keeps;
      saved = same_saved p.own n k.saved a.keeps;
      draws = ap (λ (x : LogEffect). draws_after x k.draws) a.quiet;
      shots = same_shots p.own s k a.keeps;
    }
    cases false = record { local = refl; kept = refl; saved = refl; draws = refl; shots = refl }

pub runs_aside : {A : Type 0} (s : Shape) (start : ℕ) (d : StepTree A) (k l : ThreadView) (a : A) → AreAside d → Runs s start d k l a → StartsAlike k l
runs_aside s start (done b) k l a h run = subst (StartsAlike k) (sym run.0) (alike k)
runs_aside s start unreachable k l a h run = absurd run
runs_aside s start (step p f) k l a h run =
    let m = known_after s start p run.0 k in
    alike_then k m l (step_aside s start p run.0 k h.0) (runs_aside s start (f run.0) m l a (h.1 run.0) run.1)

-- so a part of such steps does
pub aside : {A : Type 0} (h : HeapSeen) (d : StepTree A) (p q : PassSeen) (a : A) → AreAside d → HasMadeSteps h d p q a → StartsAlike p.known q.known
aside h d p q a all run = runs_aside h.heap.shape h.heap.start d p.known q.known a all run.ran.by

-- and the log has room after it where it had before
pub room_aside : (p q : PassSeen) → StartsAlike p.known q.known → q.limit ≡ p.limit → length p.known.log < p.limit → length q.known.log < q.limit
room_aside p q alike limit room =
    subst (λ m. length q.known.log < m) (sym limit)
    (subst (λ (l : List Logged). length l < p.limit) (sym (ap (λ (x : Local). x.log) alike.local)) room)

-- OF TREES
pub either_aside : {A : Type 0} (b : Bool) (x y : StepTree A) → AreAside x → AreAside y → AreAside (if b then x else y)
either_aside true x y one two = one
either_aside false x y one two = two

pub then_aside : {A B : Type 0} (d : StepTree A) (g : A → StepTree B) → AreAside d → ((a : A) → AreAside (g a)) → AreAside (d >>= g)
then_aside (done a) g one two = two a
then_aside unreachable g one two = tt
then_aside (step p f) g one two = (one.0, λ n. then_aside (f n) g (one.1 n) two)

pub all_aside : (i n : ℕ) (f : ℕ → StepTree (Unit {0})) → ((j : ℕ) → AreAside (f j)) → AreAside (all_from i n f)
all_aside i zero f each = tt
all_aside i (suc n) f each = then_aside (f i) _ (each i) (λ _. all_aside (i + 1) n f each)

pub each_aside : {A : Type 0} (i n : ℕ) (f : ℕ → StepTree A) → ((j : ℕ) → AreAside (f j)) → AreAside (each_from i n f)
each_aside i zero f each = tt
each_aside i (suc n) f each = then_aside (f i) _ (each i) (λ first. then_aside (each_from (i + 1) n f) _ (each_aside (i + 1) n f each) (λ others. tt))
