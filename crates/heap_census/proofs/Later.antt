-- What a thread sees at its reached safepoint stays seen.
use Rattle.std.proofs.Common.{◌≡◌, ℕ, ◌-◌, nat_lt, ◌||◌, Bool, true, false, cond, [], Some, refl, sym, ap, ◌∙◌, subst}
use Rattle.core_world.specs.declared.act.Act.TheVariants.{Load}
use Rattle.core_world.specs.declared.word_id.WordId.{WordId}
use Rattle.core_world.specs.declared.word_id.WordId.TheVariants as id
use Rattle.core_world.specs.declared.stage.Stage.TheVariants.{Settled}
use Rattle.core_world.specs.Locks.{or_zero}
use Rattle.core_world.specs.Steps.{known_hit, seen_at_safepoint_before, seen_words}
use Rattle.core_world.specs.Threads.ThreadView.{ThreadView, last_seen, local_of}
use Rattle.core_world.specs.Trees.Plans.{CallContext, load, class_steps}
use Rattle.core_world.specs.Trees.StepTree.{done, step}
use Rattle.core_world.specs.Words.Names.{class_by}
use Rattle.core_world.specs.Words.Shape.{Shape, class_in_shape}
use Rattle.core_law.proofs.SafepointSights.{still_seen, saw_there}
use Rattle.heap_table.specs.Parts.{HasMadeSteps}
use Rattle.heap_table.specs.Seen.{HeapSeen, PassSeen, IsOf}
use Rattle.heap_table.specs.Stepping.{HasStepped}
use Rattle.heap_table.proofs.Aside.{AreAside, leaves_own_words, aside}
use Rattle.heap_table.proofs.ClassSteps.{IsFound, class_found}
use Rattle.heap_table.proofs.Parts.{last_step}
use Rattle.heap_table.proofs.Knows.{was_of}
use Rattle.heap_census.specs.inner.ShotParts.{IsLater, IsSettled}

pub later_itself : (k : ThreadView) → IsLater k k
later_itself k = record { local = refl; reached = refl; saw = λ n v e. e }

pub later_than : {k l m : ThreadView} → IsLater k l → IsLater l m → IsLater k m
later_than a b = record { local = b.local ∙ a.local; reached = b.reached ∙ a.reached; saw = λ n v e. b.saw n v (a.saw n v e) }

-- what was seen of a word
pub seen_word : (k : ThreadView) (n : WordId) (v : ℕ) → last_seen n k.seen_at_safepoint ≡ Some v → IsSettled k (λ l. seen_words l n) v
seen_word k n v saw l later = ap or_zero (later.saw n v saw)

kept : (at : WordId) (k : ThreadView) → k.reached ≡ true → seen_at_safepoint_before at Load k ≡ k.seen_at_safepoint
kept id.Safepoint k reached = ap (λ (b : Bool). cond b k.seen_at_safepoint []) reached
kept _ k reached = refl

load_leaves : (at : WordId) → leaves_own_words at Load ≡ true
load_leaves (id.Hold t p) = refl
load_leaves (id.Waiting t) = refl
load_leaves _ = refl

or_true : (a b : Bool) → a ≡ true → (a || b) ≡ true
or_true true b e = refl
or_true false b e = absurd (cc e)

stays_reached : (s : Shape) (start : ℕ) (e : CallContext) (at : WordId) (n : ℕ) (k : ThreadView)
    → k.reached ≡ true → (known_hit s start (load e at) n k).reached ≡ k.reached
stays_reached s start e id.Safepoint n k reached = or_true k.reached _ reached ∙ sym reached
stays_reached s start e _ n k reached = refl

-- A load at the reached safepoint: the thread knows more after it, and has seen the word that it found.
module _ {h : HeapSeen} {p q : PassSeen} (e : CallContext) (at : WordId) {n : ℕ}
    (is_of : IsOf h p) (reached : p.known.reached ≡ true) (s : HasStepped h p q (load e at) n) where
  after : ThreadView
  after = known_hit h.heap.shape h.heap.start (load e at) n p.known

  load_local : local_of q.known ≡ local_of p.known
  load_local =
      let d = step (load e at) done in
      let aside_of : AreAside d = (record { quiet = refl; words = load_leaves at; keeps = refl }, λ m. tt) in
      (aside h d p q n aside_of (last_step h p q (load e at) done n n s refl refl)).local

  pub load_later : IsLater p.known q.known
  load_later =
      let seeing = still_seen h.heap e at p.known n reached (kept at p.known reached) (was_of h.heap p.known (load e at) n s.stepped is_of.within) in
      subst (IsLater p.known) (sym s.known) (record {
        local = sym (ap local_of s.known) ∙ load_local;
        reached = stays_reached h.heap.shape h.heap.start e at n p.known reached;
        saw = seeing.saw;
      })

  pub load_saw : last_seen at q.known.seen_at_safepoint ≡ Some n
  load_saw = subst (λ (k : ThreadView). last_seen at k.seen_at_safepoint ≡ Some n) (sym s.known) (saw_there h.heap e at p.known n (kept at p.known reached))

  pub load_settled : IsSettled q.known (λ l. seen_words l at) n
  load_settled = seen_word q.known at n load_saw

-- THE CLASS of an object, found at the reached safepoint, stays the one that was seen.
module _ {h : HeapSeen} {p q : PassSeen} (e : CallContext) (o : ℕ) {c : ℕ} (is_of : IsOf h p) (reached : p.known.reached ≡ true)
    (run : HasMadeSteps h (class_steps e Settled h.heap.shape o) p q c) where
  pub class_later : IsLater p.known q.known
  class_later = by_test (nat_lt o h.heap.shape.declared) (class_found h p q e Settled o c is_of run)
    where
      by_test : (b : Bool) → IsFound b h p q e Settled o c → IsLater p.known q.known
      by_test true found = subst (IsLater p.known) (sym found.0) (later_itself p.known)
      by_test false found = load_later e (id.Class o) is_of reached found.2

  pub class_settled : IsSettled q.known (λ k. class_by h.heap.shape (seen_words k) o) c
  class_settled l later = by_test (nat_lt o h.heap.shape.declared) (class_found h p q e Settled o c is_of run)
    where
      by_test : (b : Bool) → IsFound b h p q e Settled o c → cond b (class_in_shape h.heap.shape o) (seen_words l (id.Class o) - 1) ≡ c
      by_test true found = sym found.1
      by_test false found = ap (λ n. n - 1) (load_settled e (id.Class o) is_of reached found.2 l later) ∙ sym found.1
