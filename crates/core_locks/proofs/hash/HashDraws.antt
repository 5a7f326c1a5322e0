-- A running, calm thread gives an object that has no hash its next draw, by an exchange of the object's header, and logs that.
use Rattle.core_locks.proofs.Prelude.{◌≡◌, ◌≢◌, ◌⊎◌, ℕ, zero, suc, ◌+◌, ◌<◌, ◌^◌, ◌==◌, ◌&&◌, nat_lt, eq-eqb, ne_eqb, Bool, true, false, cond}
use Rattle.core_locks.proofs.Prelude.{List, length, slice_set, Option, Some, None, refl, sym, ap, ◌∙◌, subst, arith, inl, inr, nat_tests, ◌%◌}
use Rattle.core_locks.proofs.Prelude.{read_mark, mark_of, Neutral, read_mark-mark_of, only_if, PlainObject, take_entry, take_at, with_hash, hashed}
use Rattle.core_locks.proofs.Prelude.{Logged, last_stamp, WordId, Slot, StepPlan, is_biased, is_neutral, hash_in, one_if, word_after, ThreadView}
use Rattle.core_locks.proofs.Prelude.{draw_of, World, with_word_and_known, with_known, logs, logs_from, lock, header, marks, displaced_words}
use Rattle.core_locks.proofs.Prelude.{object_of, monitor_of, hash_at, waits_at, notified_at, or_zero, CallContext, with_stage, world_after, known_hit}
use Rattle.core_locks.proofs.Prelude.{known_after, known_miss, Fits, CompareExchange, BiasedAreFree, DrawsFit, first_draw, HashesFit, SlotsFit}
use Rattle.core_locks.proofs.Prelude.{NextDraw, by_equal, Logs, MayHash, IsItsNext, draw_plan, nth_value, hash_of, state_after}
use Rattle.std.specs.Prelude.{nat_le}
use Rattle.plain_monitor.specs.declared.entry.Entry.TheVariants as entry
use Rattle.core_locks.proofs.telling.Tells.{IsTelling}
use Rattle.core_locks.proofs.hash.Drawing.{draws_next}
use Rattle.core_locks.proofs.Logging.{IsLogging}
use Rattle.core_locks.proofs.telling.TellTaken.{IsFreeToTell, object_there}
use Rattle.core_locks.proofs.hash.PlainHashes.{above_after}
use Rattle.core_world.proofs.Updates.{slots_stay, takes, object_here, object_else, monitors_stay}

-- a drawn hash is above 0, and has 31 bits
hash_some : (word : ℕ) → 0 < hash_of word
hash_some word = cases (word % 2 ^ 31 == 0) refl
  where
    cases : (b : Bool) → (word % 2 ^ 31 == 0) ≡ b → 0 < cond b 0xBAD (word % 2 ^ 31)
    cases true e = omega arith
    cases false e = above (word % 2 ^ 31) e
      where
        above : (n : ℕ) → (n == 0) ≡ false → 0 < n
        above zero f = absurd (cc f)
        above (suc n) f = omega arith

pub hash_small : (word : ℕ) → hash_of word < 2 ^ 31
hash_small word = cases (word % 2 ^ 31 == 0)
  where
    cases : (b : Bool) → cond b 0xBAD (word % 2 ^ 31) < 2 ^ 31
    cases true = omega arith
    cases false = omega arith

no_hash : (a : Option ℕ) → or_zero a ≡ 0 → ((h : ℕ) → a ≡ Some h → h ≢ 0) → a ≡ None
no_hash None e n = refl
no_hash (Some h) e n = absurd (n h refl e)

-- the header is neutral and has no hash
pub record IsBlank (header : ℕ) : Type 0 where
  pub neutral : is_neutral header ≡ true
  pub none : hash_in header ≡ 0

-- 1 for a hash
abbrev pub one_of : ℕ → ℕ
one_of h = cond (h == 0) 0 1

pub one_above : (h : ℕ) → 0 < h → one_of h ≡ 1
one_above h a = ap (λ (b : Bool). cond b 0 1) (ne_eqb h 0 (λ z. absurd (omega (arith, a, z))))

first_taken : (x : PlainObject) (t o v n : ℕ) → x.hash ≡ None → 0 < v → v < 2 ^ 31 → take_at x t (entry.Hash o v (Some n)) ≡ Some (record x { hash = Some v })
first_taken x t o v n none above small =
    let fits : (nat_le 1 v && nat_lt v (2 ^ 31)) ≡ true = grind (arith, nat_tests) in
    ap (λ a. with_hash x (hashed a v)) none ∙ ap (λ b. with_hash x (only_if b (Some v))) fits

-- the draw for o, which has no hash, by an exchange of this word, which is the header `old`
pub record Drawing (w : World) (P : List PlainObject) (t : ℕ) (e : CallContext) (draw : NextDraw) (o old : ℕ) (at : WordId) : Type 0 where
  pub within : t < w.shape.threads
  pub may : MayHash w.shape (w.known t) o
  pub its : IsItsNext w.start (w.known t) draw
  pub fits : Fits w P
  pub hashless : hash_at P o ≡ 0
  pub hit : (w.words at == old) ≡ true

module _ {w : World} {P : List PlainObject} {t : ℕ} {e : CallContext} {draw : NextDraw} {o old : ℕ} {at : WordId}
    (drawing : Drawing w P t e draw o old at) where
  open drawing use {within, may, its, fits as v, hashless, hit}

  -- the step, at the stage at which the thread stands
  abbrev pub plan : StepPlan
  plan = with_stage (w.known t).stage (draw_plan e draw at o old)

  abbrev pub l : ThreadView
  l = known_hit w.shape w.start plan (w.words at) (w.known t)

  pub free : IsFreeToTell (w.known t)
  free = record { runs = may.runs; calm = may.calm; ready = may.ready; room = may.room }

  -- the draw
  pub value_is : draw.value ≡ nth_value (first_draw w.start t) ((w.known t).draws + 1)
  value_is = its.value ∙ ap (λ u. draw_of w.start u ((w.known t).draws + 1)) (v.numbered t)

  pub value_some : 0 < draw.value
  value_some = let a = value_is in let b = hash_some (state_after (first_draw w.start t) ((w.known t).draws + 1)).w in omega (arith, a, b)

  pub value_small : draw.value < 2 ^ 31
  value_small = let a = value_is in let b = hash_small (state_after (first_draw w.start t) ((w.known t).draws + 1)).w in omega (arith, a, b)

  -- where the exchange hits, the word spells the draw
  pub spells : read_mark (word_after (CompareExchange old (mark_of (Neutral draw.value 0))) (w.words at)) ≡ Some (Neutral draw.value 0)
  spells =
      let young : 0 < 16 = omega arith in
      ap (λ (b : Bool). read_mark (cond b (mark_of (Neutral draw.value 0)) (w.words at))) hit ∙ read_mark-mark_of (Neutral draw.value 0) (value_small, young)

  -- the plain objects afterwards
  abbrev pub hashed_object : PlainObject
  hashed_object = record (object_of P o) { hash = Some draw.value }

  abbrev pub Q : List PlainObject
  Q = slice_set P o (record (object_of P o) { hash = Some draw.value })

  abbrev pub y : Logged
  y = record { stamp = last_stamp (w.known t).log + 1; entry = entry.Hash o draw.value (Some draw.number) }

  pub inside : o < length P
  inside = object_there w P o v may.object.within

  pub taken : take_entry P t y.entry ≡ Some Q
  taken = takes P o t y.entry hashed_object inside refl
      (first_taken (object_of P o) t o draw.value draw.number
      (no_hash (object_of P o).hash hashless (λ h s. above_after w.shape.objects (logs w) P v.taken o h s)) value_some value_small)

  pub logs_it : IsLogging w P Q t y l
  logs_it = record {
    within = within;
    grows = refl;
    taken = taken;
    own = may.own_entry draw.value (Some draw.number);
    up = omega arith;
    above = λ i b. absurd (cc b);
    follows = λ k. refl;
  }

  pub monitors_are : monitor_of P ≡ monitor_of Q
  monitors_are = monitors_stay P o hashed_object inside refl

  pub hash_here : hash_at Q o ≡ draw.value
  hash_here = ap (λ (z : PlainObject). or_zero z.hash) (object_here P o hashed_object inside)

  pub hash_else : (i : ℕ) → i ≢ o → hash_at Q i ≡ hash_at P i
  hash_else i d = ap (λ (z : PlainObject). or_zero z.hash) (object_else P o i hashed_object d)

  pub telling_it : IsTelling w P Q t y l
  telling_it = record { free = free; logs = logs_it; owned = λ i b. absurd (cc b); stamp = refl; monitors = monitors_are }

  -- the step as it is written down, where it hits
  pub exchanged : Fits (with_word_and_known at (word_after (CompareExchange old (mark_of (Neutral draw.value 0))) (w.words at)) t l w) Q
      → Logs w P t (draw_plan e draw at o old) (entry.Hash o draw.value (Some draw.number))
  exchanged fits =
      let hits_so : known_hit w.shape w.start plan (w.words at) (w.known t) ≡ known_after w.shape w.start plan (w.words at) (w.known t) =
      ap (λ (b : Bool). cond b (known_hit w.shape w.start plan (w.words at) (w.known t))
      (known_miss w.shape w.start plan (w.words at) (w.known t))) (sym hit) in
      let made : Fits (world_after plan t w) Q = subst (λ k. Fits (with_word_and_known at (word_after plan.act (w.words at)) t k w) Q) hits_so fits in
      record { now = Q; taken = taken; valid = inl (subst (λ stage. Fits (world_after (with_stage stage (draw_plan e draw at o old)) t w) Q) may.calm made) }

  pub slots_drawn : SlotsFit w.shape (λ i j. w.words (Slot i j)) (λ i. (object_of Q i).slots)
  slots_drawn = subst (SlotsFit w.shape (λ i j. w.words (Slot i j))) (slots_stay P o hashed_object inside refl) v.slots

  -- THE CLAUSES that read hashes
  pub draws_law : DrawsFit w.start (logs_from 0 w.shape.threads (with_known t l w.known))
      (λ u. (with_known t l w.known u).log) (λ u. (with_known t l w.known u).draws) (hash_at Q)
  draws_law = draws_next w P Q t y l v logs_it refl (hash_at Q) (its.number, value_is) (λ i. by_equal i o
      (λ s.
      let now : one_of (hash_at Q i) ≡ 1 = ap (λ j. one_of (hash_at Q j)) s ∙ ap one_of hash_here ∙ one_above draw.value value_some in
      let was : one_of (hash_at P i) ≡ 0 = ap (λ j. one_of (hash_at P j)) s ∙ ap one_of hashless in
      let one : one_if (o == i) ≡ 1 = ap one_if (eq-eqb o i (sym s)) in
      omega (arith, now, was, one))
      (λ d.
      let same : one_of (hash_at Q i) ≡ one_of (hash_at P i) = ap one_of (hash_else i d) in
      let none : one_if (o == i) ≡ 0 = ap one_if (ne_eqb o i (λ s. d (sym s))) in
      omega (arith, same, none)))

  pub biases_drawn : (mark : ℕ → ℕ) → ((i : ℕ) → is_biased (mark i) ≡ true → (i ≢ o) × (is_biased (marks w i) ≡ true))
      → BiasedAreFree mark (lock w) (λ u. (w.known u).holds) (hash_at Q) (waits_at P) (notified_at P)
  biases_drawn mark back = record {
    hashless = λ i b. let a = back i b in hash_else i a.0 ∙ v.biases.hashless i a.1;
    nobody = λ i b. v.biases.nobody i (back i b).1;
    unheld = λ i u b. v.biases.unheld i u (back i b).1;
  }

  pub hashes_drawn : (mark : ℕ → ℕ) (now : ℕ → Option ℕ)
      → ((i : ℕ) → is_biased (mark i) ≡ false → is_biased (marks w i) ≡ false) → ((h : ℕ) → now o ≡ Some h → hash_in h ≡ draw.value)
      → ((i : ℕ) → i ≢ o → now i ≡ header w i) → HashesFit mark (lock w) now (λ u. (w.known u).holds) (displaced_words w) (hash_at Q)
  hashes_drawn mark now before here else_ = record {
    stands = λ i h g. by_equal i o
        (λ s. here h (ap now (sym s) ∙ g) ∙ sym hash_here ∙ ap (hash_at Q) (sym s))
        (λ d. v.hashes.stands i h (sym (else_ i d) ∙ g) ∙ sym (hash_else i d));
    records = λ i u p g b n. still i (hash_in (displaced_words w u p)) (v.hashes.records i u p g (before i b) n);
    on_record = λ i u p g. still i (hash_in (displaced_words w u p)) (v.hashes.on_record i u p g);
  }
    where
      still : (i n : ℕ) → (n ≡ 0) ⊎ (n ≡ hash_at P i) → (n ≡ 0) ⊎ (n ≡ hash_at Q i)
      still i n (inl a) = inl a
      still i n (inr a) = by_equal i o (λ s. inl (a ∙ ap (hash_at P) s ∙ hashless)) (λ d. inr (a ∙ sym (hash_else i d)))
