-- What the threads have seen stays when a running thread makes a step on a word on which no other counts, with the same marks and plain objects.
use Rattle.core_locks.proofs.Prelude.{◌≡◌, ◌≢◌, ℕ, ◌||◌, Bool, true, false, List, [], ◌∷◌, Option, Some, None, refl, sym, ap, ◌∙◌}
use Rattle.core_locks.proofs.Prelude.{inl, inr, PlainObject, Mark, Waiting, StepPlan, is_biased, monitor_in, waits_on, inflation_in}
use Rattle.core_locks.proofs.Prelude.{bears, revocation_in, word_after, same_name, its_monitor, ThreadView, World, with_word_and_known}
use Rattle.core_locks.proofs.Prelude.{marks, prototype_of, owner_at, waits_at, Stays, IsKeptOrNamed, SeenStays, known_hit, seen_before}
use Rattle.core_locks.proofs.Prelude.{Fits, SeenFit, seen_is_part, stays_back, Back, Spares, seen_moves, counts_more, hits, world_after}
use Rattle.core_locks.proofs.Prelude.{known_miss, subst, cond, WordId, Length, Hold, Class, nat_lt, not, ◌==◌}
use Rattle.std.proofs.Math.Bool.{or-true}
use Rattle.std.specs.Prelude.{IfSome}
use Rattle.core_locks.proofs.Steps.{none_reached}

-- what thread t knows after its plan's step, where the act hits, and the world then
abbrev pub left_with : World → ℕ → StepPlan → ThreadView
left_with w t plan = known_hit w.shape w.start plan (w.words plan.at) (w.known t)

abbrev pub hit_world : World → ℕ → StepPlan → World
hit_world w t plan = with_word_and_known plan.at (word_after plan.act (w.words plan.at)) t (left_with w t plan) w

-- every clause holds after a step that hits, where it holds in that world
pub hit_moved : (w : World) (P : List PlainObject) (t : ℕ) (p : StepPlan) → hits p.act (w.words p.at) ≡ true → Fits (hit_world w t p) P
    → Fits (world_after p t w) P
hit_moved w P t p h =
    let missed = known_miss w.shape w.start p (w.words p.at) (w.known t) in
    subst (λ b. Fits (with_word_and_known p.at (word_after p.act (w.words p.at)) t (cond b (left_with w t p) missed) w) P) (sym h)

pub record OnOwn (w : World) (P : List PlainObject) (t : ℕ) (p : StepPlan) : Type 0 where
  pub runs : (w.known t).running ≡ true
  pub seen : (left_with w t p).seen ≡ record { plan = p; found = w.words p.at } ∷ seen_before w.shape (w.known t)
  pub requesting : (left_with w t p).requesting ≡ (w.known t).requesting
  pub reached : (left_with w t p).reached ≡ (w.known t).reached
  pub kept : (left_with w t p).kept ≡ (w.known t).kept
  pub inflates : inflation_in (left_with w t p).stage ≡ inflation_in (w.known t).stage
  -- what it bears afterwards through a monitor it bore before
  pub held : (o a : ℕ) → monitor_in (marks w o) ≡ Some a → (owner_at P o t || bears (left_with w t p).stage o) ≡ true
      → (owner_at P o t || bears (w.known t).stage o) ≡ true
  pub marks : marks (hit_world w t p) ≡ marks w
  pub prototypes : prototype_of (hit_world w t p) ≡ prototype_of w
  pub no_mark : (o : ℕ) → same_name (Mark o) p.at ≡ false
  pub no_class : (o : ℕ) → same_name (Class o) p.at ≡ false
  -- if the word is one of a monitor, the thread keeps that or a mark names it
  pub named : IfSome (its_monitor p.at) (λ m. IsKeptOrNamed w (w.known t) m)
  pub waits : (u o : ℕ) → waits_on (w.words (Waiting u)) o ≡ false → waits_on ((hit_world w t p).words (Waiting u)) o ≡ false
  -- no other thread counts on the word as it is
  pub uncounted : (u s : ℕ) → u ≢ t → Stays w (w.known u) (owner_at P) u p.at s → w.words p.at ≡ s → ⊥

-- nobody counts on a length, and no other thread on a hold word
pub length_uncounted : (w : World) (P : List PlainObject) (t u s : ℕ) → u ≢ t → Stays w (w.known u) (owner_at P) u (Length t) s → w.words (Length t) ≡ s → ⊥
length_uncounted w P t u s d stays is = elim stays [ inl a ↦ a.1 | inr a ↦ a.2 ]

pub hold_uncounted : (w : World) (P : List PlainObject) (t p u s : ℕ) → u ≢ t → Stays w (w.known u) (owner_at P) u (Hold t p) s → w.words (Hold t p) ≡ s → ⊥
hold_uncounted w P t p u s d stays is = elim stays [ inl a ↦ d (sym a.1) | inr a ↦ a.2 ]

-- one of two tests, where the first implies another
pub either : (a b c : Bool) → (a ≡ true → c ≡ true) → (a || b) ≡ true → (c || b) ≡ true
either true b c f e = ap (λ d. d || b) (f refl)
either false b c f e = ap (λ d. c || d) e ∙ or-true c

-- WHAT COUNTS BEFORE, where marks and prototypes are as they were, and who owns an object afterwards owned it
pub back_by : (w x : World) (k y : ThreadView) (owner next : ℕ → ℕ → Bool) (u : ℕ) → marks x ≡ marks w
    → prototype_of x ≡ prototype_of w → (y.running ≡ true → k.running ≡ true) → y.requesting ≡ k.requesting
    → inflation_in y.stage ≡ inflation_in k.stage → (revocation_in y.stage ≡ None → revocation_in k.stage ≡ None)
    → y.kept ≡ k.kept → ((o : ℕ) → next o u ≡ true → owner o u ≡ true)
    → ((o a : ℕ) → monitor_in (marks w o) ≡ Some a → (owner o u || bears y.stage o) ≡ true → (owner o u || bears k.stage o) ≡ true) → Back w x k y owner next u
back_by w x k y owner next u mark prototype run ask inflates none_revokes kept fewer held =
    let prototypes : (o : ℕ) → prototype_of x o ≡ prototype_of w o = λ o. λ i. prototype i o in
    let monitor : (o m : ℕ) → monitor_in (marks x o) ≡ Some m → monitor_in (marks w o) ≡ Some m = λ o m h. (λ i. monitor_in (sym mark i o)) ∙ h in
    let before : (o m : ℕ) → monitor_in (marks x o) ≡ Some m → (next o u || bears y.stage o) ≡ true → (owner o u || bears k.stage o) ≡ true =
    λ o m g h. held o m (monitor o m g) (either (next o u) (bears y.stage o) (owner o u) (fewer o) h) in
    search (run, sym ask, none_revokes, sym inflates, sym kept, prototypes, monitor, fewer, before)

-- so another thread, which knows what it knew, counted before on what it may count on
pub other_back : (w x : World) (k : ThreadView) (owner next : ℕ → ℕ → Bool) (u : ℕ) → marks x ≡ marks w → prototype_of x ≡ prototype_of w
    → ((o : ℕ) → next o u ≡ true → owner o u ≡ true)
    → (n : WordId) (s : ℕ) → Stays x k next u n s → Stays w k owner u n s
other_back w x k owner next u mark prototype fewer =
    stays_back w x k k owner next u (back_by w x k k owner next u mark prototype (λ h. h) refl refl (λ h. h) refl fewer (λ o m g h. h))

-- who owns an object afterwards owned it before, and those who wait on each object on which somebody did are now `waiters`
module _ (w : World) (P : List PlainObject) (t : ℕ) (p : StepPlan) (a : OnOwn w P t p) (next : ℕ → ℕ → Bool)
    (fewer : (o u : ℕ) → next o u ≡ true → owner_at P o u ≡ true) (waiters : ℕ → List (ℕ × ℕ))
    (no_more : (o : ℕ) → waits_at P o ≡ [] → waiters o ≡ []) (v : Fits w P) where
  abbrev l : ThreadView
  l = left_with w t p

  abbrev n : ℕ
  n = w.words p.at

  abbrev x : World
  x = hit_world w t p

  mine : Back w x (w.known t) l (owner_at P) next t
  mine = back_by w x (w.known t) l (owner_at P) next t a.marks a.prototypes
      (λ h. a.runs) a.requesting a.inflates (λ h. v.quiet.none_revokes t) a.kept (λ o. fewer o t) a.held

  spares : Spares p.at (word_after p.act n) t l w (owner_at P) next (waits_at P) waiters
  spares = record {
    before = λ u m s d g. other_back w x (w.known u) (owner_at P) next u a.marks a.prototypes (λ o. fewer o u) m s;
    owned = λ u o d. fewer o u;
    word = λ u s d h g. absurd (a.uncounted u s d h g);
    bias = λ u o s e r h. (λ i. is_biased (a.marks i o)) ∙ h;
    there = λ o h. ap (λ b. nat_lt o w.shape.declared || not (cond b (word_after p.act n) (w.words (Class o)) == 0)) (a.no_class o) ∙ h;
    classed = λ o h. v.seen.classed o ((λ i. is_biased (sym a.marks i o)) ∙ h);
    waits = λ u y o d e h. a.waits y o h;
    unwaited = λ u o d e h. no_more o h;
    unreached = none_reached w P t l v a.runs a.reached;
    names = λ o m h. (λ i. monitor_in (a.marks i o)) ∙ h;
  }

  fresh : (b : Option ℕ) → IfSome b (λ m. IsKeptOrNamed w (w.known t) m) → (m : ℕ) → b ≡ Some m → IsKeptOrNamed x l m
  fresh None h m e = absurd (cc e)
  fresh (Some n) h m e = elim h [ inl k ↦ inl (a.kept ∙ k ∙ e) | inr k ↦ inr (k.0, (λ i. monitor_in (a.marks i k.0)) ∙ k.1 ∙ e) ]

  pub seen_as : SeenStays x next waiters
  seen_as =
      seen_moves p n t l w (owner_at P) next (waits_at P) waiters (seen_before w.shape (w.known t)) a.seen
      (counts_more p.at (word_after p.act n) t l w (owner_at P) next (waits_at P) waiters (seen_before w.shape (w.known t)) (seen_is_part w.shape (w.known t))
      mine (λ m h. inl (a.kept ∙ h)) (λ m r is. fresh (its_monitor p.at) a.named m is)
      (λ o is. absurd (cc (is, a.no_mark o))) (λ o e h. no_more o h) spares (λ u o e h. a.waits u o h) v.seen)
      spares v.seen

-- and the same threads wait
pub own_seen : (w : World) (P : List PlainObject) (t : ℕ) (p : StepPlan) → OnOwn w P t p → Fits w P → SeenFit (hit_world w t p) P
own_seen w P t p a v = seen_as w P t p a (owner_at P) (λ o u h. h) (waits_at P) (λ o h. h) v
