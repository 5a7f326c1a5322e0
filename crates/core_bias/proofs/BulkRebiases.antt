-- A bulk rebias as a whole: the class's next epoch, which each held object of the class gets; then the object's own revocation, and the bias
-- that an enter takes.
use Rattle.core_locks.proofs.Prelude.{◌≡◌, ◌≢◌, ◌⊎◌, ℕ, zero, suc, ◌+◌, ◌*◌, ◌<◌, ◌≤◌, ◌==◌, nat_lt, eq-eqb, ne_eqb, Bool, true, false, cond}
use Rattle.core_locks.proofs.Prelude.{if◌then◌else◌, List, [], ◌∷◌, length, slice_index, Option, Some, None, refl, sym, ap, ◌∙◌, subst, arith}
use Rattle.core_locks.proofs.Prelude.{inl, inr, nat_tests, MarkForm, Anonymous, Biased, mark_of, read_mark, read_mark-mark_of, PlainObject}
use Rattle.core_locks.proofs.Prelude.{WordId, Mark, Hold, Prototype, Revocations, LastBulk, Settled, class_by, same_name, with_word, is_biased}
use Rattle.core_locks.proofs.Prelude.{is_biased_form, names, epoch_in, ThreadView, World, with_known, Open, BiasedTo, has_epoch, lock, lock_form}
use Rattle.core_locks.proofs.Prelude.{marks, owner_words, inflations, hold_count, IsMark, ClassesFit, bulk_rebiases, bulk_revokes, with_knowledge}
use Rattle.core_locks.proofs.Prelude.{by_equal, with_known_here, with_known_else, each_with_known, not, is_none}
use Rattle.core_locks.specs.Knowing.{IsBiasTo}
use Rattle.core_bias.proofs.BlindRules.{blind_revoke, classless_stays}
use Rattle.core_bias.proofs.RevocationRuns.{takes_by}
use Rattle.std.proofs.Common.{◌%◌}
use Rattle.plain_monitor.specs.Limits.{most_holds}
use Rattle.lock_policy.specs.declared.policy.Verdict.{Verdict}
use Rattle.lock_policy.specs.declared.policy.Verdict.TheVariants.{BulkRebias}
use Rattle.lock_policy.specs.Policy.{decided, is_reset, most_revocations}
use Rattle.core_world.specs.declared.word_id.WordId.TheVariants as id
use Rattle.core_world.specs.Words.Forms.{epoch_form}
use Rattle.core_world.specs.Threads.Counts.{ClassCounts, CountedVerdict, counts_of, CountedVerdict, counts_of, with_verdict_counted, with_verdict, with_reset}
use Rattle.core_world.specs.Threads.Stages.{Revocation}
use Rattle.core_world.specs.RevocationRules.{biased_word, store_where, words_after, Rule, in_turn, raised_form, raise_epoch}
use Rattle.core_world.specs.RevocationRules.{renew, on_records, revoke, take_bias, revocation_rules, revocation_writes}
use Rattle.core_world.proofs.Counting.{named_none}
use Rattle.core_world.proofs.Readings.{mark_one}
use Rattle.core_locks.proofs.Clauses as clause
use Rattle.core_bias.specs.Revoking.{TellsBias, HasCounted, revoked_world}
use Rattle.core_bias.proofs.Unseen.{FitsUnseen, Unclassed, unclassed, classed, with_words, rewords, class_stays}
use Rattle.core_bias.proofs.MarkTurns.{AllCalm, biased_lock}
use Rattle.core_bias.proofs.Revokes.{revoke_unbiased, stored_append, revoke_fits}
use Rattle.core_bias.proofs.Knows.{knows_unclassed, rebiases_same, revokes_same}
use Rattle.core_bias.proofs.LockMoves.{Moves, locks_moved}
use Rattle.core_bias.proofs.Singles.{all_calm, raised_few, reached_within}
use Rattle.core_bias.proofs.BulkRevokes.{some_named, plain_lock, counted_else, counted_here}
use Rattle.core_bias.proofs.Renews.{IsWalked, target, target_form, walk_is, walk_done, renewed_form}
use Rattle.core_bias.proofs.Takes.{revoke_allowed, take_fits}

-- the prototype with the next epoch, where it has one
abbrev pub raised_word : Option ℕ → ℕ → ℕ
raised_word None p = p
raised_word (Some epoch) p = mark_of (Anonymous ((epoch + 1) % 4) 0)

-- one more verdict of one thread is one more in the sum
rebiases_more : (n : ℕ) (f g : ℕ → List CountedVerdict) (c r : ℕ) → r < n → (counts_of (g r) c).rebias ≡ (counts_of (f r) c).rebias + 1
    → ((t : ℕ) → t ≢ r → (counts_of (g t) c).rebias ≡ (counts_of (f t) c).rebias) → bulk_rebiases n g c ≡ bulk_rebiases n f c + 1
rebiases_more zero f g c r h e others = absurd (omega arith)
rebiases_more (suc n) f g c r h e others = by_equal r n
    (λ s.
    let below : bulk_rebiases n g c ≡ bulk_rebiases n f c = before n (omega (arith, s)) in
    let here : (counts_of (g n) c).rebias ≡ (counts_of (f n) c).rebias + 1 = subst (λ i. (counts_of (g i) c).rebias ≡ (counts_of (f i) c).rebias + 1) s e in
    omega (arith, below, here))
    (λ d. let below = rebiases_more n f g c r (omega (arith, h, d)) e others in omega (arith, below, others n (λ s. d (sym s))))
  where
    before : (m : ℕ) → m ≤ r → bulk_rebiases m g c ≡ bulk_rebiases m f c
    before zero h = refl
    before (suc m) h = let a = before m (omega (arith, h)) in let b = others m (λ s. omega (arith, s, h)) in omega (arith, a, b)

-- the epoch of the number of bulk rebiases, and its next
next_epoch_word : (n p : ℕ) → p ≡ n % 4 * 256 + 5 → (epoch_in p ≡ Some (n % 4)) × (mark_of (Anonymous ((n % 4 + 1) % 4) 0) ≡ (n + 1) % 4 * 256 + 5)
next_epoch_word n p e =
    let low : n % 4 < 4 = omega arith in
    let word : p ≡ mark_of (Anonymous (n % 4) 0) = omega (arith, e) in
    let same : (n % 4 + 1) % 4 ≡ (n + 1) % 4 = omega arith in
    (ap epoch_in word ∙ ap epoch_form (read_mark-mark_of (Anonymous (n % 4) 0) (low, omega arith)), omega (arith, same))

-- rules one after the other, by the words after the first
turn_stored : (r : Rule) (rs : List Rule) (f : WordId → ℕ)
    → words_after (in_turn (r ∷ rs) f) f ≡ words_after (in_turn rs (words_after (r f) f)) (words_after (r f) f)
turn_stored r rs f = stored_append (r f) (in_turn rs (words_after (r f) f)) f

module _ (w : World) (P : List PlainObject) (r : ℕ) (b : Revocation) (l : ThreadView)
    (reached : (w.known r).reached ≡ true) (on : w.biasing ≡ true) (k : HasCounted w r b l) (v : FitsUnseen w P) where
  abbrev class : ℕ → ℕ
  class = class_by w.shape w.words

  abbrev c : ℕ
  c = class b.object

  abbrev d : Verdict × ℕ
  d = decided (w.words (Revocations c)) (w.words (LastBulk c)) b.now

  abbrev f : WordId → ℕ
  f = w.words

  abbrev f0 : WordId → ℕ
  f0 = with_word (LastBulk c) b.now (with_word (Revocations c) d.1 f)

  -- the words with the next epoch
  abbrev f2 : WordId → ℕ
  f2 = words_after (raise_epoch c f0) f0

  raised_other : (n : WordId) → same_name n (Prototype c) ≡ false → f2 n ≡ f0 n
  raised_other n e = by_epoch (epoch_in (f (Prototype c)))
    where
      by_epoch : (a : Option ℕ) → words_after (raised_form a c) f0 n ≡ f0 n
      by_epoch None = refl
      by_epoch (Some i) = ap (λ (z : Bool). cond z (mark_of (Anonymous ((i + 1) % 4) 0)) (f0 n)) e

  raised_here : f2 (Prototype c) ≡ raised_word (epoch_in (f (Prototype c))) (f (Prototype c))
  raised_here = by_epoch (epoch_in (f (Prototype c)))
    where
      by_epoch : (a : Option ℕ) → words_after (raised_form a c) f0 (Prototype c) ≡ raised_word a (f (Prototype c))
      by_epoch None = refl
      by_epoch (Some i) = ap (λ (z : Bool). cond z (mark_of (Anonymous ((i + 1) % 4) 0)) (f0 (Prototype c))) (eq-eqb c c refl)

  mark_same : (o : ℕ) → f2 (Mark o) ≡ f (Mark o)
  mark_same o = raised_other (Mark o) refl

  forms2 : (o : ℕ) → IsMark w.shape (read_mark (f2 (Mark o)))
  forms2 o = subst (λ m. IsMark w.shape (read_mark m)) (sym (mark_same o)) ((v clause.forms).marks o)

  -- and with the held objects' marks
  abbrev f3 : WordId → ℕ
  f3 = words_after (on_records w.shape class c (renew c) f2) f2

  walked : IsWalked w.shape class c f2 (v clause.limits).threads forms2 f3
  walked = walk_is w.shape class c f2 (v clause.limits).threads forms2

  abbrev aim : ℕ → ℕ
  aim o = target w.shape class c f2 (v clause.limits).threads forms2 o

  abbrev y : World
  y = with_knowledge r l w

  known_before : Unclassed y P
  known_before = knows_unclassed w P r l k.same (reached_within w P r reached v) (unclassed w P v)

  calm_now : AllCalm y
  calm_now u = each_with_known (λ u z. z.stage ≡ Settled) r l w.known u
      (sym k.same.stage ∙ all_calm w P r reached k.calm v r) (λ d. all_calm w P r reached k.calm v u)

  abbrev mark : ℕ → ℕ
  mark o = f3 (Mark o)

  abbrev prototype : ℕ → ℕ
  prototype i = f2 (Prototype i)

  abbrev count : ℕ → ℕ
  count i = cond (i == c) d.1 (f (Revocations i))

  abbrev last : ℕ → ℕ
  last i = cond (i == c) b.now (f (LastBulk i))

  abbrev x : World
  x = with_words (rewords mark prototype count last f) y

  -- a mark of another class, or without the bias pattern, stays
  mark_stays : (o : ℕ) → (class o ≡ c → is_biased (f (Mark o)) ≡ true → ⊥) → mark o ≡ f (Mark o)
  mark_stays o away = elim (walked.marks o) [ inl a ↦ a ∙ mark_same o | inr a ↦ absurd (away a.0 (ap is_biased (sym (mark_same o)) ∙ a.1)) ]

  still_biased : (o : ℕ) → is_biased (f (Mark o)) ≡ true → is_biased (mark o) ≡ true
  still_biased o e = elim (walked.marks o) [
    | inl a ↦ ap is_biased (a ∙ mark_same o) ∙ e
    | inr a ↦ ap is_biased a.2 ∙ (target_form w.shape class c f2 (v clause.limits).threads forms2 o).1 ∙ a.1
  ]

  still_form : (o : ℕ) → IsMark w.shape (read_mark (mark o))
  still_form o = elim (walked.marks o) [
    | inl a ↦ subst (λ m. IsMark w.shape (read_mark m)) (sym a) (forms2 o)
    | inr a ↦ subst (λ m. IsMark w.shape (read_mark m)) (sym a.2) (target_form w.shape class c f2 (v clause.limits).threads forms2 o).0
  ]

  -- A HELD OBJECT of the class leans to the same thread, at the next epoch
  held_lock : (o t : ℕ) → class o ≡ c → is_biased (f (Mark o)) ≡ true → lock y o ≡ BiasedTo t → 1 ≤ hold_count o (y.known t).holds → lock x o ≡ BiasedTo t
  held_lock o t its biased leans held =
      ap (λ m. lock_form (read_mark m) (prototype (class o)) (owner_words y) (inflations y o)) at
      ∙ ap (λ i. lock_form (read_mark (aim o)) (prototype i) (owner_words y) (inflations y o)) its
      ∙ (λ j. lock_form (read_mark (renewed_form (read_mark (mark_same o j)) (epoch_in (raised_here j)) (mark_same o j)))
      (raised_here j) (owner_words y) (inflations y o))
      ∙ by_form (read_mark (f (Mark o))) refl (epoch_in (f (Prototype c))) refl
    where
      within : t < w.shape.threads
      within = by_test (nat_lt t w.shape.threads) refl
        where
          by_test : (a : Bool) → nat_lt t w.shape.threads ≡ a → t < w.shape.threads
          by_test true e = grind (arith, nat_tests, e)
          by_test false e =
              let none : hold_count o (y.known t).holds ≡ 0 = ap (λ (z : ThreadView). hold_count o z.holds)
              ((known_before clause.absent) t (grind (arith, nat_tests, e))) ∙ named_none o most_holds in
              absurd (omega (arith, none, held))

      record_at : (p : ℕ) × (p < length (y.known t).holds) × (names o (slice_index (y.known t).holds p) ≡ true)
      record_at = some_named o 0 (y.known t).holds held

      at : mark o ≡ aim o
      at =
          walk_done w.shape class c f2 (v clause.limits).threads forms2 t within record_at.0
          (omega (arith, record_at.1, (known_before clause.holds).places t)) o
          (ap (names o) (raised_other (Hold t record_at.0) refl ∙ (known_before clause.holds).stored t record_at.0) ∙ record_at.2) its
          (ap is_biased (mark_same o) ∙ biased)

      lock_was : lock y o ≡ lock_form (read_mark (f (Mark o))) (f (Prototype c)) (owner_words y) (inflations y o)
      lock_was = ap (λ i. lock_form (read_mark (f (Mark o))) (f (Prototype i)) (owner_words y) (inflations y o)) its

      by_form : (a : Option MarkForm) → read_mark (f (Mark o)) ≡ a → (e : Option ℕ) → epoch_in (f (Prototype c)) ≡ e
          → lock_form (read_mark (renewed_form a (epoch_in (raised_word e (f (Prototype c)))) (f (Mark o))))
          (raised_word e (f (Prototype c))) (owner_words y) (inflations y o) ≡ BiasedTo t
      by_form (Some (Biased u i age)) a (Some e) q =
          let low : (e + 1) % 4 < 4 = omega arith in
          let young : 0 < 16 = omega arith in
          let form = subst (IsMark w.shape) a ((v clause.forms).marks o) in
          let here = form.0 in
          let new = form.1 in
          let epoch : epoch_in (mark_of (Anonymous ((e + 1) % 4) 0)) ≡ Some ((e + 1) % 4) =
          ap epoch_form (read_mark-mark_of (Anonymous ((e + 1) % 4) 0) (low, young)) in
          let reads = read_mark-mark_of (Biased u ((e + 1) % 4) age) (omega (arith, here, (v clause.limits).threads), low, omega (arith, new)) in
          let same : u ≡ t = leaner u (has_epoch (epoch_in (f (Prototype c))) i)
          (sym leans ∙ lock_was ∙ ap (λ z. lock_form z (f (Prototype c)) (owner_words y) (inflations y o)) a) in
          let proto = mark_of (Anonymous ((e + 1) % 4) 0) in
          ap (λ z. lock_form (read_mark (renewed_form (Some (Biased u i age)) z (f (Mark o)))) proto (owner_words y) (inflations y o)) epoch
          ∙ ap (λ z. lock_form z proto (owner_words y) (inflations y o)) reads
          ∙ ap (λ z. if has_epoch z ((e + 1) % 4) then BiasedTo u else Open) epoch
          ∙ ap (λ z. if z then BiasedTo u else Open) (eq-eqb ((e + 1) % 4) ((e + 1) % 4) refl) ∙ ap BiasedTo same
        where
          leaner : (u : ℕ) (z : Bool) → BiasedTo t ≡ (if z then BiasedTo u else Open) → u ≡ t
          leaner u true e = sym (cc e)
          leaner u false e = absurd (cc e)
      by_form (Some (Biased u i age)) a None q =
          let open_now : lock y o ≡ Open = lock_was ∙ ap (λ z. lock_form z (f (Prototype c)) (owner_words y) (inflations y o)) a
          ∙ ap (λ z. if has_epoch z i then BiasedTo u else Open) q in
          absurd (cc (open_now, leans))
      by_form (Some (Anonymous i age)) a e q =
          let open_now : lock y o ≡ Open = lock_was ∙ ap (λ z. lock_form z (f (Prototype c)) (owner_words y) (inflations y o)) a in
          absurd (cc (open_now, leans))
      by_form _ a e q = let no = ap is_biased_form a in absurd (cc (no, biased))

  moves : (o : ℕ) → Moves y x o
  moves o = by_equal (class o) c
      (λ e. by_bias e (is_biased (f (Mark o))) refl)
      (λ e.
      let same = mark_stays o (λ s z. e s) in
      let proto : prototype (class o) ≡ f (Prototype (class o)) = raised_other (Prototype (class o)) (ne_eqb (class o) c e) in
      inl (same, λ j. lock_form (read_mark (same j)) (proto j) (owner_words y) (inflations y o)))
    where
      freed : is_biased (f (Mark o)) ≡ true → (t : ℕ) → lock y o ≡ BiasedTo t
          → hold_count o (y.known t).holds ≡ 0 → (u : ℕ) → hold_count o (y.known u).holds ≡ 0
      freed z t leans none u = by_equal u t (λ s. ap (λ i. hold_count o (y.known i).holds) s ∙ none)
          (λ s. (known_before clause.biases).unheld o u z (λ q. let same : t ≡ u = cc (leans, q) in s (sym same)))

      by_count : class o ≡ c → is_biased (f (Mark o)) ≡ true → (t : ℕ) → lock y o ≡ BiasedTo t → (n : ℕ) → hold_count o (y.known t).holds ≡ n
          → (lock x o ≡ lock y o) ⊎ ((u : ℕ) → hold_count o (y.known u).holds ≡ 0)
      by_count e z t leans zero none = inr (freed z t leans none)
      by_count e z t leans (suc n) some = inl (held_lock o t e z leans (omega (arith, some)) ∙ sym leans)

      by_bias : class o ≡ c → (a : Bool) → is_biased (f (Mark o)) ≡ a → Moves y x o
      by_bias e true z = inr (
        z,
        still_biased o z,
        still_form o,
        elim (biased_lock y o z) [
          | inl a ↦ inr (λ u. (known_before clause.biases).unheld o u z (λ q. absurd (cc (a, q))))
          | inr a ↦ by_count e z a.0 a.1 (hold_count o (y.known a.0).holds) refl
        ],
      )
      by_bias e false z =
          let same = mark_stays o (λ s q. absurd (cc (q, z))) in
          inl (
            same,
            ap (λ m. lock_form (read_mark m) (prototype (class o)) (owner_words y) (inflations y o)) same
                ∙ plain_lock (read_mark (f (Mark o))) _ _ (owner_words y) (inflations y o) z,
          )

  module _ (bulk : d.0 ≡ BulkRebias) where
    counts : l.counts ≡ with_verdict_counted (w.known r).counts c BulkRebias (is_reset (f (Revocations c)) (f (LastBulk c)) b.now)
    counts = k.counts ∙ ap (λ z. with_verdict_counted (w.known r).counts c z (is_reset (f (Revocations c)) (f (LastBulk c)) b.now)) bulk

    abbrev now : ℕ → List CountedVerdict
    now u = (with_known r l w.known u).counts

    abbrev old : ℕ → List CountedVerdict
    old u = (w.known u).counts

    same_else : (i : ℕ) → i ≢ c → (u : ℕ) → counts_of (now u) i ≡ counts_of (old u) i
    same_else i e u = each_with_known (λ u z. counts_of z.counts i ≡ counts_of (w.known u).counts i) r l w.known u
        (ap (λ z. counts_of z i) counts ∙ counted_else (w.known r).counts c BulkRebias _ i e) (λ z. refl)

    mine : counts_of (now r) c ≡ with_reset (with_verdict (counts_of (w.known r).counts c) BulkRebias) (is_reset (f (Revocations c)) (f (LastBulk c)) b.now)
    mine = ap (λ (z : ThreadView). counts_of z.counts c) (with_known_here r l w.known)
        ∙ ap (λ z. counts_of z c) counts ∙ counted_here (w.known r).counts c BulkRebias _

    others : (u : ℕ) → u ≢ r → counts_of (now u) c ≡ counts_of (old u) c
    others u e = ap (λ (z : ThreadView). counts_of z.counts c) (with_known_else r l w.known u e)

    rebias_sum : bulk_rebiases w.shape.threads now c ≡ bulk_rebiases w.shape.threads old c + 1
    rebias_sum = rebiases_more w.shape.threads old now c r (reached_within w P r reached v)
        (ap (λ (z : ClassCounts). z.rebias) mine) (λ u e. ap (λ (z : ClassCounts). z.rebias) (others u e))

    revoke_sum : bulk_revokes w.shape.threads now c ≡ bulk_revokes w.shape.threads old c
    revoke_sum = revokes_same w.shape.threads now old c (λ u. by_equal u r
        (λ e. ap (λ i. (counts_of (now i) c).revoke) e ∙ ap (λ (z : ClassCounts). z.revoke) mine ∙ ap (λ i. (counts_of (old i) c).revoke) (sym e))
        (λ e. ap (λ (z : ClassCounts). z.revoke) (others u e)))

    class_here : f2 (Prototype c) ≡ (if bulk_revokes w.shape.threads now c == 0 then bulk_rebiases w.shape.threads now c % 4 * 256 + 5 else 1)
    class_here = raised_here ∙ cases (bulk_revokes w.shape.threads old c == 0) refl
        ∙ (λ j. if sym revoke_sum j == 0 then sym rebias_sum j % 4 * 256 + 5 else 1)
      where
        was : f (Prototype c) ≡ (if bulk_revokes w.shape.threads old c == 0 then bulk_rebiases w.shape.threads old c % 4 * 256 + 5 else 1)
        was = (v clause.classes).prototypes on c

        cases : (a : Bool) → (bulk_revokes w.shape.threads old c == 0) ≡ a
            → raised_word (epoch_in (f (Prototype c))) (f (Prototype c))
            ≡ (if bulk_revokes w.shape.threads old c == 0 then (bulk_rebiases w.shape.threads old c + 1) % 4 * 256 + 5 else 1)
        cases true e =
            let word = was ∙ ap (λ z. if z then bulk_rebiases w.shape.threads old c % 4 * 256 + 5 else 1) e in
            let next = next_epoch_word (bulk_rebiases w.shape.threads old c) (f (Prototype c)) word in
            ap (λ z. raised_word z (f (Prototype c))) next.0 ∙ next.1
            ∙ sym (ap (λ z. if z then (bulk_rebiases w.shape.threads old c + 1) % 4 * 256 + 5 else 1) e)
        cases false e =
            let word = was ∙ ap (λ z. if z then bulk_rebiases w.shape.threads old c % 4 * 256 + 5 else 1) e in
            ap (λ z. raised_word z (f (Prototype c))) (ap epoch_in word ∙ ap epoch_form mark_one) ∙ word
            ∙ sym (ap (λ z. if z then (bulk_rebiases w.shape.threads old c + 1) % 4 * 256 + 5 else 1) e)

    classes_law : ClassesFit w.biasing prototype count last (marks x) (bulk_rebiases w.shape.threads now) (bulk_revokes w.shape.threads now)
    classes_law = record {
      plain = λ off i. absurd (cc (on, off));
      unbiased = λ off i. absurd (cc (on, off));
      few = λ a i. few (i == c) ((v clause.classes).few on i);
      prototypes = λ a i. by_equal i c
          (λ e. ap prototype e ∙ class_here
          ∙ ap (λ i. if bulk_revokes w.shape.threads now i == 0 then bulk_rebiases w.shape.threads now i % 4 * 256 + 5 else 1) (sym e))
          (λ e. raised_other (Prototype i) (ne_eqb i c e) ∙ (v clause.classes).prototypes on i
          ∙ (let p = rebiases_same w.shape.threads old now i (λ u. ap (λ (z : ClassCounts). z.rebias) (sym (same_else i e u))) in
          let q = revokes_same w.shape.threads old now i (λ u. ap (λ (z : ClassCounts). z.revoke) (sym (same_else i e u))) in
          λ j. if q j == 0 then p j % 4 * 256 + 5 else 1));
    }
      where
        few : {n : ℕ} (a : Bool) → n ≤ most_revocations → cond a d.1 n ≤ most_revocations
        few true h = raised_few (f (Revocations c)) (f (LastBulk c)) b.now ((v clause.classes).few on c)
        few false h = h

    -- THE WORLD AFTER THE WALK
    each : (n : WordId) → rewords mark prototype count last f n ≡ f3 n
    each (id.Mark o) = refl
    each (id.Prototype i) = sym (walked.words (Prototype i) refl)
    each (id.Revocations i) = sym (walked.words (Revocations i) refl ∙ raised_other (Revocations i) refl)
    each (id.LastBulk i) = sym (walked.words (LastBulk i) refl ∙ raised_other (LastBulk i) refl)
    each id.Safepoint = sym (walked.words id.Safepoint refl ∙ raised_other id.Safepoint refl)
    each (id.Stamp o) = sym (walked.words (id.Stamp o) refl ∙ raised_other (id.Stamp o) refl)
    each (id.Slot o i) = sym (walked.words (id.Slot o i) refl ∙ raised_other (id.Slot o i) refl)
    each (id.Hold t p) = sym (walked.words (id.Hold t p) refl ∙ raised_other (id.Hold t p) refl)
    each (id.Displaced t p) = sym (walked.words (id.Displaced t p) refl ∙ raised_other (id.Displaced t p) refl)
    each (id.Waiting t) = sym (walked.words (id.Waiting t) refl ∙ raised_other (id.Waiting t) refl)
    each (id.Length t) = sym (walked.words (id.Length t) refl ∙ raised_other (id.Length t) refl)
    each (id.Owner m) = sym (walked.words (id.Owner m) refl ∙ raised_other (id.Owner m) refl)
    each (id.Recursions m) = sym (walked.words (id.Recursions m) refl ∙ raised_other (id.Recursions m) refl)
    each (id.Header m) = sym (walked.words (id.Header m) refl ∙ raised_other (id.Header m) refl)
    each (id.Object m) = sym (walked.words (id.Object m) refl ∙ raised_other (id.Object m) refl)
    each id.Claim = sym (walked.words id.Claim refl ∙ raised_other id.Claim refl)
    each id.End = sym (walked.words id.End refl ∙ raised_other id.End refl)
    each (id.Ring q) = sym (walked.words (id.Ring q) refl ∙ raised_other (id.Ring q) refl)
    each (id.Class o) = sym (walked.words (id.Class o) refl ∙ raised_other (id.Class o) refl)

    walked_fits : FitsUnseen (with_words f3 y) P
    walked_fits =
        let all : rewords mark prototype count last f ≡ f3 = λ i. λ n. each n i in
        subst (λ z. FitsUnseen (with_words z y) P) all (classed x P (locks_moved y P mark prototype count last calm_now moves known_before) classes_law)

    -- the object's own revocation, and the bias that an enter takes
    abbrev rest : Bool → List Rule
    rest a = revoke b.object a ∷ (if a then take_bias c b.object r ∷ [] else [])

    rest_fits : (a : Bool) → FitsUnseen (with_words (words_after (in_turn (rest a) f3) f3) y) P
    rest_fits false = subst (λ z. FitsUnseen (with_words z y) P) (sym (turn_stored (revoke b.object false) [] f3))
        (revoke_fits (with_words f3 y) P b.object calm_now walked_fits)
    rest_fits true =
        let f4 = words_after (revoke b.object true f3) f3 in
        let after = revoke_allowed (with_words f3 y) P b.object calm_now walked_fits in
        let word = classless_stays (revoke b.object true f3) f3 (id.Class b.object) ((blind_revoke b.object true).stores f3) refl
        ∙ walked.words (id.Class b.object) refl ∙ raised_other (id.Class b.object) refl in
        let taken = subst (λ i. FitsUnseen (with_words (words_after (take_bias i b.object r f4) f4) y) P) (class_stays w.shape f f4 b.object word)
        (take_fits (with_words f4 y) P b.object calm_now after.0 r (reached_within w P r reached v) after.1) in
        let all = turn_stored (revoke b.object true) (take_bias c b.object r ∷ []) f3 ∙ turn_stored (take_bias c b.object r) [] f4 in
        subst (λ z. FitsUnseen (with_words z y) P) (sym all) taken

    words : words_after (revocation_writes w.shape r b f) f ≡ words_after (in_turn (rest b.rebias) f3) f3
    unfolding revocation_writes
    words =
        ap (λ z. words_after (in_turn (revocation_rules w.shape class r c b (z, d.1)) f) f) bulk
        ∙ turn_stored (raise_epoch c) (on_records w.shape class c (renew c) ∷ rest b.rebias) f0
        ∙ turn_stored (on_records w.shape class c (renew c)) (rest b.rebias) f2

    pub rebiased_fits : FitsUnseen (revoked_world w r b l) P
    rebiased_fits = subst (λ z. FitsUnseen (with_words z y) P) (sym words) (rest_fits b.rebias)

    -- THE ANSWER, where the class had an epoch before: the object is biased to the requester in the next one, or has the bias pattern no more
    module _ (old : ℕ) (had : epoch_in (f (Prototype c)) ≡ Some old) where
      epoch_now : (a : Bool) → epoch_in (words_after (revoke b.object a f3) f3 (Prototype c)) ≡ Some ((old + 1) % 4)
      epoch_now a =
          let low : (old + 1) % 4 < 4 = omega arith in
          ap epoch_in (classless_stays (revoke b.object a f3) f3 (Prototype c) ((blind_revoke b.object a).stores f3) refl
          ∙ walked.words (Prototype c) refl ∙ raised_here ∙ ap (λ z. raised_word z (f (Prototype c))) had)
          ∙ ap epoch_form (read_mark-mark_of (Anonymous ((old + 1) % 4) 0) (low, omega arith))

      tells : (a : Bool) → TellsBias r b.object c
          (cond a (takes_by b r (Some ((old + 1) % 4)) (words_after (revoke b.object a f3) f3)) false) (words_after (in_turn (rest a) f3) f3)
      tells false = ap (λ (g : WordId → ℕ). is_biased (g (Mark b.object))) (turn_stored (revoke b.object false) [] f3)
          ∙ revoke_unbiased (with_words f3 y) P b.object calm_now walked_fits
      tells true =
          let f4 = words_after (revoke b.object true f3) f3 in
          let all = turn_stored (revoke b.object true) (take_bias c b.object r ∷ []) f3 ∙ turn_stored (take_bias c b.object r) [] f4 in
          subst (λ g. TellsBias r b.object c (takes_by b r (Some ((old + 1) % 4)) f4) g) (sym all)
          (subst (λ e. TellsBias r b.object c (takes_by b r (Some ((old + 1) % 4)) f4)
          (words_after (store_where (Mark b.object) (biased_word (is_biased (f4 (Mark b.object))) e r)) f4))
          (sym (epoch_now true)) (by_mark (is_biased (f4 (Mark b.object))) refl))
        where
          by_mark : (m : Bool) → is_biased (words_after (revoke b.object true f3) f3 (Mark b.object)) ≡ m
              → TellsBias r b.object c (not (is_none (biased_word m (Some ((old + 1) % 4)) r)))
              (words_after (store_where (Mark b.object) (biased_word m (Some ((old + 1) % 4)) r)) (words_after (revoke b.object true f3) f3))
          by_mark true e =
              let g = words_after (revoke b.object true f3) f3 in
              let word = mark_of (Biased r ((old + 1) % 4) 0) in
              let low : (old + 1) % 4 < 4 = omega arith in
              let within = reached_within w P r reached v in
              let reads = read_mark-mark_of (Biased r ((old + 1) % 4) 0) (omega (arith, within, (v clause.limits).threads), low, omega arith) in
              subst (λ m. IsBiasTo r m (epoch_in (g (Prototype c))))
              (sym (ap (λ (z : Bool). read_mark (cond z word (g (Mark b.object)))) (eq-eqb b.object b.object refl) ∙ reads))
              (refl, ap (λ z. has_epoch z ((old + 1) % 4)) (epoch_now true) ∙ eq-eqb ((old + 1) % 4) ((old + 1) % 4) refl)
          by_mark false e = e

      pub rebiased_tells : TellsBias r b.object c (cond b.rebias (takes_by b r (Some ((old + 1) % 4)) (words_after (revoke b.object b.rebias f3) f3))
          false) (words_after (revocation_writes w.shape r b f) f)
      rebiased_tells = subst (λ g. TellsBias r b.object c
          (cond b.rebias (takes_by b r (Some ((old + 1) % 4)) (words_after (revoke b.object b.rebias f3) f3)) false) g) (sym words) (tells b.rebias)
