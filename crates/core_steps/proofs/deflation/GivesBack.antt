-- Giving an idle monitor back: the mark of its object becomes a header, its words are stored 0, and it is stood in the ring.
use Rattle.std.proofs.Common.{◌≡◌, ◌≢◌, ◌⊎◌, ℕ, ◌+◌, ◌%◌, ◌^◌, ◌<◌, ◌==◌, ◌||◌, eq-eqb, ne_eqb, eqb-true, Bool}
use Rattle.std.proofs.Common.{true, false, cond, length, Option, Some, None, refl, sym, ap, ◌∙◌, subst, arith, inl, inr}
use Rattle.std.proofs.lemmas.Option.{same_Some}
use Rattle.std.proofs.lemmas.Nat.{mod_below, pow_pos}
use Rattle.mark_word.specs.declared.mark.MarkForm.{MarkForm}
use Rattle.mark_word.specs.declared.mark.MarkForm.TheVariants.{Neutral}
use Rattle.mark_word.specs.Mark.{read_mark}
use Rattle.mark_word.specs.declared.owner.OwnerForm.TheVariants.{Free}
use Rattle.mark_word.specs.Owner.{owner_of}
use Rattle.core_world.specs.declared.act.Act.TheVariants.{Store}
use Rattle.core_world.specs.declared.word_id.WordId.{WordId}
use Rattle.core_world.specs.There.{IsIn}
use Rattle.core_world.specs.declared.word_id.WordId.TheVariants as word_id
use Rattle.core_world.specs.Words.Forms.{monitor_in, monitor_form, says_notified, enters_on, is_biased, is_biased_form, is_neutral_form}
use Rattle.core_world.specs.Words.Shape.{Shape, monitor_count, ring_bits, ring_places}
use Rattle.core_world.specs.Threads.ThreadView.{ThreadView, Returns, last_seen}
use Rattle.core_world.specs.Steps.{known_hit, world_after}
use Rattle.core_world.specs.Trees.StepTree.{StepTree, done, ask, ◌>>=◌}
use Rattle.core_world.specs.Trees.Plans.{CallContext}
use Rattle.core_world.specs.Trees.DeflateSteps.{detach_plan, clean_plan, enqueue_plan, advance_plan}
use Rattle.core_world.specs.Threads.Stages.{revocation_in}
use Rattle.core_world.specs.Valid.{IsValid}
use Rattle.core_world.proofs.Naming.{same_as_itself}
use Rattle.core_locks.specs.Knowing.{KeepsValid}
use Rattle.core_locks.specs.DeflationLaws.{Saw, SawUntouched, MayDetach, MayClean, MayEnqueue, MayAdvance}
use Rattle.core_locks.proofs.deflation.Detaches.{detaches}
use Rattle.core_locks.proofs.deflation.Cleans.{cleans_owner, cleans_count, cleans_head, cleans_object}
use Rattle.core_locks.proofs.deflation.Enqueues.{enqueues}
use Rattle.core_locks.proofs.deflation.Advances.{advances}
use Rattle.bias_law.specs.Steps.{KeepsBiases}
use Rattle.bias_law.proofs.Leaning.{inflated_unbiased}
use Rattle.bias_law.proofs.QuietKinds as quiet
use Rattle.core_law.specs.BiasLaw.{BiasLawHolds}
use Rattle.core_law.specs.Logic.{SoundWorldWith, Keeps, Does}
use Rattle.core_law.proofs.Standing.{away, home}
use Rattle.core_law.proofs.Wholes.{All}
use Rattle.core_law.proofs.SafepointSights.{Seeing, is_as_seen}
use Rattle.core_steps.specs.Deflated.{GaveBack, SawInUse, is_taken_by}
use Rattle.core_steps.proofs.deflation.DeflationLooks.{OneDeflation, Idles, Looked, Held, Clears, Settles, Holding, all_at}
use Rattle.core_steps.proofs.deflation.Ringed.{IsOut, out_on, within_ring, comes_out, stays_out}
use Rattle.core_world.proofs.Readings.{mark_one}
use Rattle.core_made.specs.Steps.{IsFairQuietly}
use Rattle.core_made.proofs.Fair.{marked_there}
use Rattle.core_steps.proofs.FairSteps.{Spares, begun, makes_same}
use Rattle.core_steps.proofs.LawRules.{keeps_in_all, fair_here}
use Rattle.core_steps.proofs.Trees.{answers, hitting}

-- a law for the shape that a heap has
enqueues_in : (s : Shape) (e : CallContext) (m end : ℕ)
    → KeepsValid (λ w t. (w.shape ≡ s) × MayEnqueue (w.known t) e m end) (λ w t. enqueue_plan e (w.known t).stage s end m)
enqueues_in s e m end w P t within (same, may) valid =
    subst (λ z. IsValid (world_after (enqueue_plan e (w.known t).stage z end m) t w) P) same (enqueues e m end w P t within may valid)

enqueues_biases : (s : Shape) (e : CallContext) (m end : ℕ)
    → KeepsBiases (λ w t. (w.shape ≡ s) × MayEnqueue (w.known t) e m end) (λ w t. enqueue_plan e (w.known t).stage s end m)
enqueues_biases s e m end w P t within (same, may) v law =
    subst (λ z. BiasLawHolds (world_after (enqueue_plan e (w.known t).stage z end m) t w)) same (quiet.enqueues e m end w P t within may v law)

-- a header is no bias
neutral_unbiased : (f : Option MarkForm) → is_neutral_form f ≡ true → is_biased_form f ≡ false
neutral_unbiased (Some (Neutral hash age)) e = refl
neutral_unbiased _ e = absurd (cc e)

-- nor does it name a monitor
neutral_none : (f : Option MarkForm) → is_neutral_form f ≡ true → monitor_form f ≡ None
neutral_none (Some (Neutral hash age)) e = refl
neutral_none (Some _) e = absurd (cc e)
neutral_none None e = refl

abbrev finished : StepTree (Unit {0})
finished = done tt

module _ (this : OneDeflation) where
  open this use {heap, call as e, before as k0, stage as st, plain}

  -- a word of the monitor that it gives back is stored 0
  cleans : (m : ℕ) (at : WordId) (k : ThreadView)
      → KeepsValid (λ w t. MayClean (w.known t) e m) (λ w t. clean_plan e (w.known t).stage at)
      → KeepsBiases (λ w t. MayClean (w.known t) e m) (λ w t. clean_plan e (w.known t).stage at) → IsIn heap.shape at → Spares heap.shape k at (Store 0)
      → k.reached ≡ true → k.stage ≡ st → e.unfinished ≡ k.unfinished → k.moving ≡ Returns m → Keeps heap (clean_plan e k.stage at) k
  cleans m at k valid biases there spares reached stands mine returns =
      keeps_in_all heap k (λ s y. MayClean y e m) (λ t y. clean_plan e y.stage at) valid biases (λ t y r. r) (λ v. tt)
      (λ v. all_at this k v reached stands) (λ v. (there, tt))
      (λ v. record { stands = record { reached = reached; unrevoking = ap revocation_in stands ∙ plain; goes_on = inl mine }; returns = returns })
      (fair_here heap k (λ t y. clean_plan e y.stage at) (λ v. (refl, tt, spares)) (inl mine))

  module _ (o m mark header end : ℕ) (k k2 : ThreadView) (x : Idles this k2) (looked : Looked k k2)
      (object : o < length heap.shape.objects) (there : m < monitor_count heap.shape)
      (saw_mark : last_seen (word_id.Mark o) k.seen_at_safepoint ≡ Some mark) (named : monitor_in mark ≡ Some m)
      (saw_owner : last_seen (word_id.Owner m) k.seen_at_safepoint ≡ Some (owner_of Free))
      (untouched : (u : ℕ) → u < heap.shape.threads → SawUntouched k o u) (saw_header : last_seen (word_id.Header m) k2.seen_at_safepoint
      ≡ Some header) (saw_end : last_seen word_id.End k2.seen_at_safepoint ≡ Some end) where
    s : Seeing k k2
    s = looked.sights

    abbrev k3 : ℕ → ThreadView
    k3 n = known_hit heap.shape heap.start (detach_plan e st o m header) n k2

    abbrev k4 : ℕ → ℕ → ThreadView
    k4 a n = known_hit heap.shape heap.start (clean_plan e st (word_id.Owner m)) n (k3 a)

    abbrev k5 : ℕ → ℕ → ℕ → ThreadView
    k5 a b n = known_hit heap.shape heap.start (clean_plan e st (word_id.Recursions m)) n (k4 a b)

    abbrev k6 : ℕ → ℕ → ℕ → ℕ → ThreadView
    k6 a b c n = known_hit heap.shape heap.start (clean_plan e st (word_id.Header m)) n (k5 a b c)

    abbrev k7 : ℕ → ℕ → ℕ → ℕ → ℕ → ThreadView
    k7 a b c d n = known_hit heap.shape heap.start (clean_plan e st (word_id.Object m)) n (k6 a b c d)

    abbrev k8 : ℕ → ℕ → ℕ → ℕ → ℕ → ℕ → ThreadView
    k8 a b c d f n = known_hit heap.shape heap.start (enqueue_plan e st heap.shape end m) n (k7 a b c d f)

    abbrev k9 : ℕ → ℕ → ℕ → ℕ → ℕ → ℕ → ℕ → ThreadView
    k9 a b c d f g n = known_hit heap.shape heap.start (advance_plan e st end) n (k8 a b c d f g)

    reached : k2.reached ≡ true
    reached = x.reached

    -- the header of a monitor that a mark names is neutral
    header_is_neutral : SoundWorldWith heap k2 → is_neutral_form (read_mark header) ≡ true
    header_is_neutral v =
        let inflated = is_as_seen heap k2 v reached (word_id.Mark o) mark (s.saw (word_id.Mark o) mark saw_mark) in
        let neutral = (all_at this k2 v reached x.stands).fits.monitors.neutral o m (ap monitor_in inflated ∙ named) in
        let head = is_as_seen heap k2 v reached (word_id.Header m) header saw_header in
        ap (λ z. is_neutral_form (read_mark z)) (sym head) ∙ neutral

    -- the object is there, since its mark names a monitor
    detach_fair : (v : SoundWorldWith heap k2) → All v.world v.objects
        → IsFairQuietly v.world k2.thread (detach_plan e (v.world.known k2.thread).stage o m header)
    detach_fair v a =
        let mine = away heap k2 v (λ s y. e.unfinished ≡ y.unfinished) x.mine in
        let inflated = is_as_seen heap k2 v reached (word_id.Mark o) mark (s.saw (word_id.Mark o) mark saw_mark) in
        record {
          fair = record {
            spares = inl (marked_there v.world a.made o (λ neutral.
                let none : monitor_in (v.world.words (word_id.Mark o)) ≡ None = ap monitor_in neutral ∙ ap monitor_form mark_one in
                let some : monitor_in (v.world.words (word_id.Mark o)) ≡ Some m = ap monitor_in inflated ∙ named in
                absurd (cc (none, some))));
            begins = begun v.world a.made k2.thread (detach_plan e (v.world.known k2.thread).stage o m header) (inl mine);
            looks = λ i is free. let is_reached = away heap k2 v (λ s y. y.reached ≡ true) reached in absurd (cc (is_reached, free));
            ends = tt;
            shots = refl;
            makes = makes_same v.world a.made k2.thread (detach_plan e (v.world.known k2.thread).stage o m header) tt (inl mine);
          };
          log = refl;
        }

    -- the mark of o was that of a monitor, and is a header now; each other mark is as it was
    mark_on : (v : SoundWorldWith heap k2) (i u : ℕ) (b : Bool) → (i == o) ≡ b → last_seen (word_id.Mark i) k2.seen_at_safepoint ≡ Some u
        → (n : ℕ) × (cond b (Some header) (last_seen (word_id.Mark i) k2.seen_at_safepoint) ≡ Some n)
        × ((n ≡ u) ⊎ ((is_biased u ≡ false) × (is_biased n ≡ false)))
    mark_on v i u false other saw = (u, saw, inl refl)
    mark_on v i u true same saw =
        let is : i ≡ o = eqb-true i o same in
        let at_o : last_seen (word_id.Mark o) k2.seen_at_safepoint ≡ Some u = subst (λ z. last_seen (word_id.Mark z) k2.seen_at_safepoint ≡ Some u) is saw in
        let here = s.saw (word_id.Mark o) mark saw_mark in
        let u_is : u ≡ mark = same_Some u mark (sym at_o ∙ here) in
        (header, refl, inr (ap is_biased u_is ∙ inflated_unbiased mark m named, neutral_unbiased (read_mark header) (header_is_neutral v)))

    -- another object and its monitor, of which a thread was seen held up, are as they were
    held_on : (v : SoundWorldWith heap k2) (a b c d f g n : ℕ) (u : ℕ) → u < heap.shape.threads → Held k u → Held (k9 a b c d f g n) u
    held_on v a b c d f g n u h y = elim y [
      | inl z ↦ inl (z.0, s.saw (word_id.Waiting u) z.0 z.1, z.2)
      | inr z ↦ inr (
        z.0,
        z.1,
        s.saw (word_id.Waiting u) z.1 z.2,
        elim z.3 [
          | inl w ↦ inl w
          | inr w ↦
              let i = w.1 in
              let mine = untouched u h in
              let word : z.1 ≡ mine.0 = same_Some _ _ (sym z.2 ∙ mine.1) in
              let other : z.0 ≢ o = λ q. elim w.0 [
                | inl t ↦ let no = mine.3 in
                    let yes = ap (λ j. says_notified mine.0 j) (sym q) ∙ ap (λ j. says_notified j z.0) (sym word) ∙ t in absurd (cc (no, yes))
                | inr t ↦ let no = mine.4 in let yes = ap (λ j. enters_on mine.0 j) (sym q) ∙ ap (λ j. enters_on j z.0) (sym word) ∙ t in absurd (cc (no, yes))
              ] in
              let fits = (all_at this k2 v reached x.stands).fits in
              let here = is_as_seen heap k2 v reached (word_id.Mark o) mark (s.saw (word_id.Mark o) mark saw_mark) in
              let apart = is_as_seen heap k2 v reached (word_id.Mark z.0) i.0 (s.saw (word_id.Mark z.0) i.0 i.3) in
              let elsewhere : i.1 ≢ m = λ q. other (fits.monitors.alone z.0 o m (ap monitor_in apart ∙ i.4 ∙ ap Some q) (ap monitor_in here ∙ named)) in
              inr (
                w.0,
                (
                  i.0,
                  i.1,
                  i.2,
                  ap (λ t. cond t (Some header) (last_seen (word_id.Mark z.0) k2.seen_at_safepoint)) (ne_eqb z.0 o other) ∙ s.saw (word_id.Mark z.0) i.0 i.3,
                  i.4,
                  ap (λ t. cond t (Some 0) (last_seen (word_id.Owner i.1) k2.seen_at_safepoint)) (ne_eqb i.1 m elsewhere) ∙ s.saw (word_id.Owner i.1) i.2 i.5,
                  i.6,
                ),
              )
        ],
      )
    ]

    -- the monitor stands in the ring now, and so do those that were given back before
    module _ (v : SoundWorldWith heap k2) (a b c d f g n : ℕ) where
      abbrev k10 : ThreadView
      k10 = k9 a b c d f g n

      abbrev place : ℕ
      place = end % ring_places heap.shape

      at_end_now : Saw k10 word_id.End ((end + 1) % 2 ^ 64)
      at_end_now = refl

      in_ring_now : Saw k10 (word_id.Ring place) m
      in_ring_now = ap (λ t. cond t (Some m) (last_seen (word_id.Ring place) k2.seen_at_safepoint)) (eq-eqb place place refl)

      headed_now : Saw k10 (word_id.Mark o) header
      headed_now = ap (λ t. cond t (Some header) (last_seen (word_id.Mark o) k2.seen_at_safepoint)) (eq-eqb o o refl)

      rings_now : (q u : ℕ) → q ≢ place → Saw k2 (word_id.Ring q) u → Saw k10 (word_id.Ring q) u
      rings_now q u other saw = ap (λ t. cond t (Some m) (last_seen (word_id.Ring q) k2.seen_at_safepoint)) (ne_eqb q place other) ∙ saw

      marks_now : (i u : ℕ) → i ≢ o → Saw k2 (word_id.Mark i) u → Saw k10 (word_id.Mark i) u
      marks_now i u other saw = ap (λ t. cond t (Some header) (last_seen (word_id.Mark i) k2.seen_at_safepoint)) (ne_eqb i o other) ∙ saw

      names_none : monitor_in header ≡ None
      names_none = neutral_none (read_mark header) (header_is_neutral v)

      saw_mark_still : Saw k2 (word_id.Mark o) mark
      saw_mark_still = s.saw (word_id.Mark o) mark saw_mark

      out_now : IsOut heap.shape k10 m
      out_now = comes_out heap.shape k2 k10 o m mark header end saw_end object
          saw_mark_still named names_none at_end_now in_ring_now headed_now rings_now marks_now

      out_still : (j : ℕ) → IsOut heap.shape k j → IsOut heap.shape k10 j
      out_still j x1 =
          let x2 : IsOut heap.shape k2 j = out_on heap.shape k k2 j s.saw x1 in
          let fits = (all_at this k2 v reached x.stands).fits in
          let threads : 0 < heap.shape.threads = let t = v.within in omega (arith, t) in
          let small = home heap k2 v (λ z y. (q : IsOut z k2 j) → 0 < z.threads → q.more + 1 < 2 ^ ring_bits z)
          (λ q t. within_ring v.world v.objects fits k2 j (is_as_seen heap k2 v reached) q t) x2 threads in
          stays_out heap.shape k2 k10 o m mark header end saw_end object saw_mark_still
          named names_none at_end_now in_ring_now headed_now rings_now marks_now j x2 small

    -- a word of a monitor that was 0 is so still
    zero_still : (at : ℕ → WordId) (j : ℕ) (b : Bool) → Saw k (at j) 0 → cond b (Some 0) (last_seen (at j) k2.seen_at_safepoint) ≡ Some 0
    zero_still at j true saw = refl
    zero_still at j false saw = s.saw (at j) 0 saw

    clear_still : (v : SoundWorldWith heap k2) (a b c d f g n : ℕ) (j : ℕ) → Clears heap.shape k j → Clears heap.shape (k9 a b c d f g n) j
    clear_still v a b c d f g n j h = record {
      out = out_still v a b c d f g n j h.out;
      owner = zero_still word_id.Owner j (j == m) h.owner;
      recursions = zero_still word_id.Recursions j (j == m) h.recursions;
      header = zero_still word_id.Header j (j == m) h.header;
      object = zero_still word_id.Object j (j == m) h.object;
    }

    -- the monitor is clear now
    clear_now : (v : SoundWorldWith heap k2) (a b c d f g n : ℕ) → Clears heap.shape (k9 a b c d f g n) m
    clear_now v a b c d f g n = record {
      out = out_now v a b c d f g n;
      owner = ap (λ t. cond t (Some 0) (last_seen (word_id.Owner m) k2.seen_at_safepoint)) (eq-eqb m m refl);
      recursions = ap (λ t. cond t (Some 0) (last_seen (word_id.Recursions m) k2.seen_at_safepoint)) (eq-eqb m m refl);
      header = ap (λ t. cond t (Some 0) (last_seen (word_id.Header m) k2.seen_at_safepoint)) (eq-eqb m m refl);
      object = ap (λ t. cond t (Some 0) (last_seen (word_id.Object m) k2.seen_at_safepoint)) (eq-eqb m m refl);
    }

    -- another monitor that is in use is so still, and the header names none
    settled_on : (v : SoundWorldWith heap k2) (a b c d f g n : ℕ) (j : ℕ) → Settles heap.shape k j → Settles heap.shape (k9 a b c d f g n) j
    settled_on v a b c d f g n j h = by_number (m == j) refl
      where
        by_mark : (i u : ℕ) → (j == m) ≡ false → last_seen (word_id.Object j) k.seen_at_safepoint ≡ Some i
            → last_seen (word_id.Mark i) k.seen_at_safepoint ≡ Some u → (monitor_in u ≡ Some j → SawInUse heap.shape k i j)
            → (same : Bool) → (i == o) ≡ same → Settles heap.shape (k9 a b c d f g n) j
        by_mark i u other saw_object saw_it used true same =
            inr (
              i,
              header,
              ap (λ t. cond t (Some 0) (last_seen (word_id.Object j) k2.seen_at_safepoint)) other ∙ s.saw (word_id.Object j) i saw_object,
              ap (λ t. cond t (Some header) (last_seen (word_id.Mark i) k2.seen_at_safepoint)) same,
              λ q. let none = neutral_none (read_mark header) (header_is_neutral v) in absurd (cc (none, q)),
            )
        by_mark i u other saw_object saw_it used false apart =
            inr (
              i,
              u,
              ap (λ t. cond t (Some 0) (last_seen (word_id.Object j) k2.seen_at_safepoint)) other ∙ s.saw (word_id.Object j) i saw_object,
              ap (λ t. cond t (Some header) (last_seen (word_id.Mark i) k2.seen_at_safepoint)) apart ∙ s.saw (word_id.Mark i) u saw_it,
              λ q. elim (used q) [
                | inl y ↦ inl (y.0, ap (λ t. cond t (Some 0) (last_seen (word_id.Owner j) k2.seen_at_safepoint)) other ∙ s.saw (word_id.Owner j) y.0 y.1, y.2)
                | inr y ↦ inr (y.0, y.1, y.2, s.saw (word_id.Waiting y.0) y.1 y.3, y.4)
              ],
            )

        by_number : (same : Bool) → (m == j) ≡ same → Settles heap.shape (k9 a b c d f g n) j
        by_number true same =
            let is : m ≡ j = eqb-true m j same in
            inl (ap (λ z. z || is_taken_by k2.seen_at_safepoint j) same, subst (Clears heap.shape (k9 a b c d f g n)) is (clear_now v a b c d f g n))
        by_number false apart = elim h [
          | inl y ↦ inl (ap (λ z. z || is_taken_by k2.seen_at_safepoint j) apart ∙ looked.back j ∙ y.0, clear_still v a b c d f g n j y.1)
          | inr y ↦
              let other : (j == m) ≡ false = ne_eqb j m (λ q. let yes = eq-eqb m j (sym q) in absurd (cc (apart, yes))) in
              by_mark y.0 y.1 other y.2 y.3 y.4 (y.0 == o) refl
        ]

    fresh_on : (v : SoundWorldWith heap k2) (a b c d f g n : ℕ) (j : ℕ) → GaveBack (k9 a b c d f g n) j → GaveBack k j ⊎ Clears heap.shape (k9 a b c d f g n) j
    fresh_on v a b c d f g n j h = by_number (m == j) refl
      where
        by_number : (same : Bool) → (m == j) ≡ same → GaveBack k j ⊎ Clears heap.shape (k9 a b c d f g n) j
        by_number true same = inr (subst (Clears heap.shape (k9 a b c d f g n)) (eqb-true m j same) (clear_now v a b c d f g n))
        by_number false apart = inl (sym (looked.back j) ∙ ap (λ z. z || is_taken_by k2.seen_at_safepoint j) (sym apart) ∙ h)

    holds_on : (v : SoundWorldWith heap k2) (a b c d f g n : ℕ) → Holding heap.shape k (k9 a b c d f g n)
    holds_on v a b c d f g n = record {
      held = held_on v a b c d f g n;
      marks = λ i u saw. mark_on v i u (i == o) refl (s.saw (word_id.Mark i) u saw);
      prototypes = λ i u saw. s.saw (word_id.Prototype i) u saw;
      classes = λ i u saw. s.saw (word_id.Class i) u saw;
      settled = λ j h. settled_on v a b c d f g n j h;
      fresh = λ j h. fresh_on v a b c d f g n j h;
      clear = λ j h. clear_still v a b c d f g n j h;
    }

    pub gives_back : Does heap false (ask (detach_plan e st o m header) >>= (λ a. ask (clean_plan e st (word_id.Owner m))
        >>= (λ b. ask (clean_plan e st (word_id.Recursions m)) >>= (λ c. ask (clean_plan e st (word_id.Header m)) >>= (λ d.
        ask (clean_plan e st (word_id.Object m)) >>= (λ f. ask (enqueue_plan e st heap.shape end m)
        >>= (λ g. ask (advance_plan e st end) >>= (λ n. finished)))))))) k2 (λ b a l. Idles this l × Holding heap.shape k l × Settles heap.shape l m)
    gives_back =
        hitting heap false _ _ k2 _ (λ n. refl) (λ i. subst (λ z. Keeps heap (detach_plan e z o m header) k2) x.stands
        (keeps_in_all heap k2 (λ s y. MayDetach s y e o m header) (λ t y. detach_plan e y.stage o m header)
        (detaches e o m header) (quiet.detaches e o m header) (λ t y r. r) (λ v. tt)
        (λ v. all_at this k2 v reached x.stands) (λ v. (object, tt)) (λ v. record {
          stands = record { reached = reached; unrevoking = ap revocation_in x.stands ∙ plain; goes_on = inl x.mine };
          still = x.still;
          object = object;
          inflated = (mark, s.saw (word_id.Mark o) mark saw_mark, named);
          owner = s.saw (word_id.Owner m) (owner_of Free) saw_owner;
          its_header = saw_header;
          untouched = λ u h. let y = untouched u h in (y.0, s.saw (word_id.Waiting u) y.0 y.1, y.2, y.3, y.4);
        }) detach_fair)) (λ a ia wa.
        hitting heap false _ _ _ _ (λ n. refl)
        (λ i. cleans m (word_id.Owner m) (k3 a) (cleans_owner e m) (quiet.cleans_owner e m) there tt reached refl refl refl) (λ b ib wb.
        hitting heap false _ _ _ _ (λ n. refl)
        (λ i. cleans m (word_id.Recursions m) (k4 a b) (cleans_count e m) (quiet.cleans_recursions e m) there tt reached refl refl refl) (λ c ic wc.
        hitting heap false _ _ _ _ (λ n. refl)
        (λ i. cleans m (word_id.Header m) (k5 a b c) (cleans_head e m) (quiet.cleans_header e m) there tt reached refl refl refl) (λ d id wd.
        hitting heap false _ _ _ _ (λ n. refl)
        (λ i. cleans m (word_id.Object m) (k6 a b c d) (cleans_object e m) (quiet.cleans_object e m) there tt reached refl refl refl) (λ f if_ wf.
        hitting heap false _ _ _ _ (λ n. refl) (λ i. keeps_in_all heap (k7 a b c d f) (λ s y. (s ≡ heap.shape) × MayEnqueue y e m end)
        (λ t y. enqueue_plan e y.stage heap.shape end m) (enqueues_in heap.shape e m end) (enqueues_biases heap.shape e m end)
        (λ t y r. r) (λ v. tt) (λ v. all_at this (k7 a b c d f) v reached refl)
        (λ v. (mod_below end (ring_places heap.shape) (pow_pos (ring_bits heap.shape)), tt))
        (λ v. (refl, record { stands = record { reached = reached; unrevoking = plain; goes_on = inl refl }; returns = refl; at_end = saw_end }))
        (fair_here heap (k7 a b c d f) (λ t y. enqueue_plan e y.stage heap.shape end m) (λ v. (refl, tt, tt)) (inl refl))) (λ g ig wg.
        hitting heap false _ _ _ _ (λ n. refl) (λ i. keeps_in_all heap (k8 a b c d f g) (λ s y. MayAdvance s y e m end)
        (λ t y. advance_plan e y.stage end) (advances e m end) (quiet.advances e m end) (λ t y r. r) (λ v. tt)
        (λ v. all_at this (k8 a b c d f g) v reached refl) (λ v. (tt, tt))
        (λ v. record {
          stands = record { reached = reached; unrevoking = plain; goes_on = inl refl };
          returns = refl;
          at_end = saw_end;
          stored = ap (λ t. cond t (Some m) (last_seen (word_id.Ring (end % ring_places heap.shape)) (k7 a b c d f).seen_at_safepoint))
              (same_as_itself (word_id.Ring (end % ring_places heap.shape)));
        }) (fair_here heap (k8 a b c d f g) (λ t y. advance_plan e y.stage end) (λ v. (refl, tt, tt)) (inl refl))) (λ n j wn.
        answers heap false _ _ _ (
          record {
            reached = x.reached;
            stopped = x.stopped;
            stands = refl;
            check = refl;
            mine = refl;
            still = refl;
            own = x.own;
          },
          holds_on wa.stands a b c d f g n,
          inl (ap (λ z. z || is_taken_by k2.seen_at_safepoint m) (eq-eqb m m refl), clear_now wa.stands a b c d f g n),
        ))))))))
