-- Where the monitors are at a heap's end: what the clauses of claims, of monitors and of waits say of the last world, in
-- which no thread has anything in hand of the ring.
use Rattle.std.proofs.Common.{◌≡◌, ◌⊎◌, ℕ, zero, suc, ◌+◌, ◌%◌, ◌^◌, ◌<◌, ◌≤◌, ◌&&◌, not, Bool, true, false, List}
use Rattle.std.proofs.Common.{length, Option, Some, None, refl, sym, ap, ◌∙◌, subst, arith, eqb-true, inl, inr}
use Rattle.std.specs.Prelude.{is_some}
use Rattle.std.proofs.lemmas.Nat.{mod_below, pow_pos}
use Rattle.mark_word.specs.Wait.{read_wait}
use Rattle.mark_word.specs.declared.wait.WaitForm.{WaitForm}
use Rattle.mark_word.specs.declared.wait.WaitForm.TheVariants as wait
use Rattle.plain_monitor.proofs.Lists.{all_at}
use Rattle.core_world.specs.declared.word_id.WordId.TheVariants.{Mark, Object, Claim, End, Ring, Waiting}
use Rattle.core_world.specs.Clauses.Claims.{MonitorsAreClaimed, Place, With, At, Leaves, InRing, claimed_or_kept, count_with_monitor, given_back}
use Rattle.core_world.specs.Clauses.WordForms.{IsWait}
use Rattle.core_world.specs.Locks.{inflated_to}
use Rattle.core_world.specs.Threads.AtRest.{AtRest}
use Rattle.core_world.specs.Threads.ThreadView.{ThreadView, Still}
use Rattle.core_world.specs.Threads.Stages.{one_if}
use Rattle.core_world.specs.Trees.DeflateSteps.{is_untouched}
use Rattle.core_world.specs.Words.Forms.{enters_form, enters_on, monitor_in, notified_form, says_notified, waits_form, waits_on}
use Rattle.core_world.specs.Words.Shape.{Shape, monitor_count, ring_bits}
use Rattle.core_world.specs.World.{World}
use Rattle.core_world.proofs.Counting.{with_monitor_none}
use Rattle.core_law.specs.Logic.{Heap}
use Rattle.closed_heap_laws.specs.Monitors.{IsNamed, IsNamedNowhere, MonitorsAreApart, kept_by, kept_in, named_by, ringed_at, word_at}
use Rattle.closed_heap_laws.specs.OfARun.{IsEnd}
use Rattle.closed_heap_laws.proofs.LastWorlds.{IsListed, Settled, settled}

-- PARTS. The same have a monitor.
same_counts : (n : ℕ) (f g : ℕ → Option ℕ) → ((i : ℕ) → i < n → f i ≡ g i) → count_with_monitor n f ≡ count_with_monitor n g
same_counts zero f g each = refl
same_counts (suc n) f g each =
    λ j. same_counts n f g (λ i h. each i (omega (arith, h))) j + one_if (is_some (each n (omega arith) j))

-- one of three is true
one_of : (a b c : Bool) → (not a && not b && not c) ≡ false → (a ≡ true) ⊎ (b ≡ true) ⊎ (c ≡ true)
one_of true b c h = inl refl
one_of false true c h = inr (inl refl)
one_of false false true h = inr (inr refl)
one_of false false false h = absurd (cc h)

-- a waiting word says it of an object of the heap
object_there : (s : Shape) (f : Option WaitForm) (o : ℕ) → IsWait s f
    → (waits_form f o ≡ true) ⊎ (notified_form f o ≡ true) ⊎ (enters_form f o ≡ true) → o < length s.objects
object_there s None o is h = absurd is
object_there s (Some (wait.Entering i)) o is (inr (inr h)) = subst (λ j. j < length s.objects) (eqb-true i o h) is
object_there s (Some (wait.Waiting i stamp)) o is (inl h) = subst (λ j. j < length s.objects) (eqb-true i o h) is
object_there s (Some (wait.Notified i)) o is (inr (inl h)) = subst (λ j. j < length s.objects) (eqb-true i o h) is
object_there s _ o is (inr (inr h)) = absurd (cc h)
object_there s _ o is (inr (inl h)) = absurd (cc h)
object_there s _ o is (inl h) = absurd (cc h)

-- nothing is in two places
one_thread : (t u : ℕ) → With t ≡ With u → t ≡ u
one_thread t u e = cc e

one_position : (p q : ℕ) → InRing p ≡ InRing q → p ≡ q
one_position p q e = cc e

kept_listed : (ks : List ThreadView) (t : ℕ) (k : ThreadView) → IsListed ks t k → kept_by ks t ≡ k.kept
kept_listed ks t k (inl h) = ap kept_in h
kept_listed ks t k (inr h) = ap kept_in h.0 ∙ sym (ap (λ (x : ThreadView). x.kept) h.1)

module _ (heap : Heap) (words : List ℕ) (ks : List ThreadView) (e : IsEnd heap words ks) where
  s : Settled heap words ks
  s = settled heap words ks e

  abbrev w : World
  w = s.world

  abbrev z : Shape
  z = heap.shape

  shape_is : w.shape ≡ z
  shape_is = ap (λ (h : Heap). h.shape) s.is_of

  claims : MonitorsAreClaimed z.threads (length z.objects) (monitor_count z) (ring_bits z) (w.words Claim) (w.words End)
      (λ p. w.words (Ring p)) (inflated_to w) (λ t. (w.known t).kept) (λ t. (w.known t).moving)
  claims =
      subst (λ (x : Shape). MonitorsAreClaimed x.threads (length x.objects) (monitor_count x) (ring_bits x)
      (w.words Claim) (w.words End) (λ p. w.words (Ring p)) (inflated_to w) (λ t. (w.known t).kept)
      (λ t. (w.known t).moving)) shape_is s.fits.claims

  still_listed : (t : ℕ) (k : ThreadView) → IsListed ks t k → k.moving ≡ Still
  still_listed t k (inl h) = (all_at (AtRest z) ks t k e.rest h).still
  still_listed t k (inr h) = ap (λ (x : ThreadView). x.moving) h.1

  still : (t : ℕ) → (w.known t).moving ≡ Still
  still t = still_listed t (w.known t) (s.listed t)

  -- THE WORDS of the last world
  name_is : (o : ℕ) → o < length z.objects → named_by z words o ≡ inflated_to w o
  name_is o h = ap (λ n. monitor_in n) (s.words_are (Mark o) h)

  named_is : (o m : ℕ) → IsNamed z words o m → inflated_to w o ≡ Some m
  named_is o m h = sym (name_is o h.0) ∙ h.1

  kept_is : (t : ℕ) → kept_by ks t ≡ (w.known t).kept
  kept_is t = kept_listed ks t (w.known t) (s.listed t)

  kept_there : (t m : ℕ) → kept_by ks t ≡ Some m → (w.known t).kept ≡ Some m
  kept_there t m h = sym (kept_is t) ∙ h

  ring_is : (p : ℕ) → ringed_at z words p ≡ w.words (Ring (p % 2 ^ ring_bits z))
  ring_is p = s.words_are (Ring (p % 2 ^ ring_bits z)) (mod_below p (2 ^ ring_bits z) (pow_pos (ring_bits z)))

  abbrev m_at : ℕ → ℕ
  m_at p = ringed_at z words p

  stood : (p : ℕ) → claims.first ≤ p → p < claims.first + claims.ringed
      → (m_at p < monitor_count z) × (claims.place (m_at p) ≡ InRing p)
  stood p h g =
      subst (λ m. (m < monitor_count z) × (claims.place m ≡ InRing p)) (sym (ring_is p)) (claims.stands p h g)

  -- THE MARKS and the threads
  apart_named : (o m : ℕ) → IsNamed z words o m
      → (m < monitor_count z) × (word_at z words (Object m) ≡ o) × ((i : ℕ) → IsNamed z words i m → i ≡ o)
  apart_named o m h =
      let n = named_is o m h in
      let there = (claims.names o m n).0 in (
        there,
        s.words_are (Object m) there ∙ s.fits.monitors.own o m n,
        λ i g. s.fits.monitors.alone i o m (named_is i m g) n,
      )

  apart_kept : (t m : ℕ) → kept_by ks t ≡ Some m
      → (m < monitor_count z) × IsNamedNowhere z words m × ((u : ℕ) → kept_by ks u ≡ Some m → u ≡ t)
  apart_kept t m h =
      let k = claims.keeps t m (kept_there t m h) in (
        k.0,
        (λ o g. let a = (claims.names o m (named_is o m g)).1 in let b = k.1 in absurd (cc (a, b))),
        λ u g. one_thread u t (sym (claims.keeps u m (kept_there u m g)).1 ∙ k.1),
      )

  -- THE RING
  apart_ringed : (p : ℕ) → claims.first ≤ p → p < claims.first + claims.ringed
      → (m_at p < monitor_count z) × IsNamedNowhere z words (m_at p) × ((t : ℕ) → kept_by ks t ≡ Some (m_at p) → ⊥)
      × ((q : ℕ) → claims.first ≤ q → q < claims.first + claims.ringed → m_at q ≡ m_at p → q ≡ p)
  apart_ringed p h g =
      let here = stood p h g in
      let b = here.1 in (
        here.0,
        (λ o n. let a = (claims.names o (m_at p) (named_is o (m_at p) n)).1 in absurd (cc (a, b))),
        (λ t k. let a = (claims.keeps t (m_at p) (kept_there t (m_at p) k)).1 in absurd (cc (a, b))),
        λ q i j same. one_position q p (sym (stood q i j).1 ∙ ap (λ m. claims.place m) same ∙ b),
      )

  -- HOW MANY
  all_counted : claims.ringed + count_with_monitor z.threads (kept_by ks)
      + count_with_monitor (length z.objects) (named_by z words) ≡ monitor_count z
  all_counted =
      let hands = same_counts z.threads (λ t. claimed_or_kept (w.known t).moving (w.known t).kept) (kept_by ks)
      (λ t h. ap (λ m. claimed_or_kept m (w.known t).kept) (still t) ∙ sym (kept_is t)) in
      let none = with_monitor_none z.threads (λ t. given_back (w.known t).moving) (λ t. ap (λ m. given_back m) (still t)) in
      let marked = same_counts (length z.objects) (named_by z words) (inflated_to w) name_is in
      omega (arith, hands, none, marked, claims.counted)

  abbrev IsSomewhere : ℕ → Type 0
  IsSomewhere m = ((t : ℕ) × (kept_by ks t ≡ Some m)) ⊎ ((o : ℕ) × IsNamed z words o m)
      ⊎ ((p : ℕ) × (claims.first ≤ p) × (p < claims.first + claims.ringed) × (m_at p ≡ m))

  -- the object word of a monitor that a mark names is that object, so the heap has it
  marked_there : (o m : ℕ) → 0 < length z.objects → inflated_to w o ≡ Some m → o < length z.objects
  marked_there zero m some h = some
  marked_there (suc o) m some h =
      let own = s.fits.monitors.own (suc o) m h in
      let there = s.fits.forms.objects m (λ none. absurd (omega (arith, own, none))) in
      let same = ap (λ (x : Shape). length x.objects) shape_is in
      omega (arith, own, there, same)

  by_place : (m : ℕ) (x : Place) → m < monitor_count z → 0 < length z.objects → claims.place m ≡ x → IsSomewhere m
  by_place m (With t) h some is = elim (claims.kept_there t m h is) [
    | inl k ↦ inl (t, kept_is t ∙ k)
    | inr f ↦ let a = still t in let b = f.1 in absurd (cc (a, b))
  ]
  by_place m (At o) h some is =
      let n = claims.named_there o m h is in
      let there = marked_there o m some n in
      inr (inl (o, (there, name_is o there ∙ n)))
  by_place m (Leaves t) h some is = let a = still t in let b = claims.returned_there t m h is in absurd (cc (a, b))
  by_place m (InRing p) h some is =
      let r = claims.ringed_there p m h is in
      inr (inr (p, r.0, r.1, ring_is p ∙ r.2))

  -- WHO WAITS
  inflated : (t o : ℕ) → (waits_on (w.words (Waiting t)) o ≡ true) ⊎ (says_notified (w.words (Waiting t)) o ≡ true)
      ⊎ (enters_on (w.words (Waiting t)) o ≡ true) → (m : ℕ) × (inflated_to w o ≡ Some m)
  inflated t o (inl h) = s.fits.waits.inflated o t (inl (s.fits.waits.waiter t o h))
  inflated t o (inr (inl h)) = elim (s.fits.waits.told t o h) [
    | inl called ↦ s.fits.waits.inflated o t (inr called)
    | inr waits ↦ s.fits.waits.inflated o t (inl waits.0)
  ]
  inflated t o (inr (inr h)) = (s.fits.waits.entering t o h).1

  used : (t o : ℕ) → t < z.threads → is_untouched o (word_at z words (Waiting t)) ≡ false
      → (m : ℕ) × IsNamed z words o m
  used t o h touched =
      let n = w.words (Waiting t) in
      let says = one_of (waits_on n o) (says_notified n o) (enters_on n o)
      (ap (λ x. is_untouched o x) (sym (s.words_are (Waiting t) h)) ∙ touched) in
      let there = subst (λ (x : Shape). o < length x.objects) shape_is
      (object_there w.shape (read_wait n) o (s.fits.forms.waits t) says) in
      let has = inflated t o says in
      (has.0, (there, name_is o there ∙ has.1))

  pub monitors_are_apart : MonitorsAreApart z words ks
  monitors_are_apart =
      record {
        first = claims.first;
        ringed = claims.ringed;
        claim_word = s.words_are Claim tt ∙ claims.claim_word;
        end_word = s.words_are End tt ∙ claims.end_word;
        named = apart_named;
        kept = apart_kept;
        stands = apart_ringed;
        counted = all_counted;
        each = λ m h some. by_place m (claims.place m) h some refl;
        in_use = used;
      }
