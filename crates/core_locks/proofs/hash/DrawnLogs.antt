-- In a valid world each hash is one logged draw, and no entry says another.
use Rattle.core_locks.proofs.Prelude.{◌≡◌, ◌⊎◌, ℕ, zero, suc, ◌+◌, ◌<◌, ◌≤◌, ◌==◌, eq-eqb, ne_eqb, Bool, true, false, cond, List, [], ◌∷◌}
use Rattle.core_locks.proofs.Prelude.{Option, Some, None, refl, sym, ap, ◌∙◌, subst, arith, inl, inr, eqb-true, slice_get, same_Some}
use Rattle.core_locks.proofs.Prelude.{AllByRecursion, PlainObject, new_objects, Logged, log_of, Entry, Hash, order, of_thread, thread_kept}
use Rattle.core_locks.proofs.Prelude.{all_at, ThreadView, World, logs, logs_from, or_zero, Fits, IsValid, IsRevoking, drawn_by, draw_in}
use Rattle.core_locks.proofs.Prelude.{first_draw, drawn_for, all_draws, IsNextDraw, AreDraws, draws_for, Draw, by_equal, log_at, nth_value}
use Rattle.core_locks.specs.DrawnHashes.{IsLoggedDraw, draws_before, IsDrawnOnce, HashesAreDrawn}
use Rattle.core_locks.proofs.hash.PlainHashes.{hash_by, Says, all_say, above_after}

-- ONE LOG. A draw for o counts as one.
counts_one : (o : ℕ) (a : Option Draw) (d : Draw) → a ≡ Some d → d.object ≡ o → drawn_for o a ≡ 1
counts_one o a d e s = ap (drawn_for o) e ∙ ap (λ (b : Bool). cond b 1 0) (eq-eqb d.object o s)

is_one : (o : ℕ) (a : Option Draw) → 0 < drawn_for o a → (d : Draw) × (a ≡ Some d) × (d.object ≡ o)
is_one o None h = absurd (omega (arith, h))
is_one o (Some d) h = by_test (d.object == o) refl h
  where
    by_test : (b : Bool) → (d.object == o) ≡ b → 0 < cond b 1 0 → (f : Draw) × (Some d ≡ Some f) × (f.object ≡ o)
    by_test true e g = (d, refl, eqb-true d.object o e)
    by_test false e g = absurd (omega (arith, g))

-- entry i is a draw for o
record IsHere (log : List Logged) (o i : ℕ) : Type 0 where
  pub entry : Logged
  pub draw : Draw
  pub there : slice_get log i ≡ Some entry
  pub drawn : draw_in entry.entry ≡ Some draw
  pub object : draw.object ≡ o

abbrev after : (log : List Logged) (l : Logged) (o i : ℕ) → IsHere (l ∷ log) o (suc i) → IsHere log o i
after log l o i h = record { entry = h.entry; draw = h.draw; there = h.there; drawn = h.drawn; object = h.object }

head_counts : (log : List Logged) (l : Logged) (o : ℕ) → IsHere (l ∷ log) o 0 → drawn_for o (draw_in l.entry) ≡ 1
head_counts log l o h = counts_one o (draw_in l.entry) h.draw (ap (λ (m : Logged). draw_in m.entry) (same_Some l h.entry h.there) ∙ h.drawn) h.object

here_counts : (log : List Logged) (o i : ℕ) → IsHere log o i → 0 < draws_for o log
here_counts [] o i h = let none = h.there in absurd (cc none)
here_counts (l ∷ log) o zero h = let a = head_counts log l o h in omega (arith, a)
here_counts (l ∷ log) o (suc i) h = let a = here_counts log o i (after log l o i h) in omega (arith, a)

find_here : (log : List Logged) (o : ℕ) → 0 < draws_for o log → (i : ℕ) × IsHere log o i
find_here [] o h = absurd (omega (arith, h))
find_here (l ∷ log) o h = by_head (drawn_for o (draw_in l.entry)) refl (λ g. find_here log o g)
  where
    by_head : (n : ℕ) → drawn_for o (draw_in l.entry) ≡ n → (0 < draws_for o log → (i : ℕ) × IsHere log o i) → (i : ℕ) × IsHere (l ∷ log) o i
    by_head zero e later =
        let a = later (omega (arith, e, h)) in
        (suc a.0, record { entry = a.1.entry; draw = a.1.draw; there = a.1.there; drawn = a.1.drawn; object = a.1.object })
    by_head (suc n) e later =
        let a = is_one o (draw_in l.entry) (omega (arith, e)) in
        (0, record { entry = l; draw = a.0; there = refl; drawn = a.1; object = a.2 })

one_here : (log : List Logged) (o i j : ℕ) → draws_for o log ≤ 1 → IsHere log o i → IsHere log o j → i ≡ j
one_here [] o i j few a b = let none = a.there in absurd (cc none)
one_here (l ∷ log) o zero zero few a b = refl
one_here (l ∷ log) o zero (suc j) few a b = let c = head_counts log l o a in
    let d = here_counts log o j (after log l o j b) in absurd (omega (arith, few, c, d))
one_here (l ∷ log) o (suc i) zero few a b = let c = head_counts log l o b in
    let d = here_counts log o i (after log l o i a) in absurd (omega (arith, few, c, d))
one_here (l ∷ log) o (suc i) (suc j) few a b = ap suc (one_here log o i j (omega (arith, few)) (after log l o i a) (after log l o j b))

-- its number and its value
numbered : (first n : ℕ) (log : List Logged) (o i : ℕ) → AreDraws first n log → (h : IsHere log o i)
    → (h.draw.number ≡ draws_before i log + n + 1) × (h.draw.value ≡ nth_value first h.draw.number)
numbered first n [] o i a h = let none = h.there in absurd (cc none)
numbered first n (l ∷ log) o zero a h =
    let is : draw_in l.entry ≡ Some h.draw = ap (λ (m : Logged). draw_in m.entry) (same_Some l h.entry h.there) ∙ h.drawn in
    let b : IsNextDraw first n (Some h.draw) = subst (IsNextDraw first n) is a.0 in
    (omega (arith, b.0), b.1 ∙ ap (nth_value first) (sym b.0))
numbered first n (l ∷ log) o (suc i) a h =
    let b = numbered first (drawn_by (draw_in l.entry) + n) log o i a.1 (after log l o i h) in
    (omega (arith, b.0), b.1)

-- ALL LOGS
find_log : (all : List (List Logged)) (o : ℕ) → 0 < all_draws o all → (t : ℕ) × (0 < draws_for o (log_of all t))
find_log [] o h = absurd (omega (arith, h))
find_log (log ∷ all) o h = by_head (draws_for o log) refl (λ g. find_log all o g)
  where
    by_head : (n : ℕ) → draws_for o log ≡ n → (0 < all_draws o all → (t : ℕ) × (0 < draws_for o (log_of all t)))
        → (t : ℕ) × (0 < draws_for o (log_of (log ∷ all) t))
    by_head zero e later = let a = later (omega (arith, e, h)) in (suc a.0, a.1)
    by_head (suc n) e later = (0, omega (arith, e))

log_counts : (all : List (List Logged)) (o t : ℕ) → draws_for o (log_of all t) ≤ all_draws o all
log_counts [] o t = omega arith
log_counts (log ∷ all) o zero = omega arith
log_counts (log ∷ all) o (suc t) = let a = log_counts all o t in omega (arith, a)

one_log : (all : List (List Logged)) (o t u : ℕ) → all_draws o all ≤ 1 → 0 < draws_for o (log_of all t) → 0 < draws_for o (log_of all u) → t ≡ u
one_log [] o t u few a b = absurd (omega (arith, a))
one_log (log ∷ all) o zero zero few a b = refl
one_log (log ∷ all) o zero (suc u) few a b = let c = log_counts all o u in absurd (omega (arith, few, a, b, c))
one_log (log ∷ all) o (suc t) zero few a b = let c = log_counts all o t in absurd (omega (arith, few, a, b, c))
one_log (log ∷ all) o (suc t) (suc u) few a b = ap suc (one_log all o t u (omega (arith, few)) a b)

-- WHAT THE ENTRIES SAY
say_of : (P : List PlainObject) (t : ℕ) (xs : List (ℕ × Logged))
    → AllByRecursion (λ x. Says P x.1.entry) xs → AllByRecursion (λ l. Says P l.entry) (of_thread t xs)
say_of P t [] h = tt
say_of P t (x ∷ xs) h = by_test (x.0 == t) (say_of P t xs h.1)
  where
    by_test : (b : Bool) → AllByRecursion (λ l. Says P l.entry) (of_thread t xs)
        → AllByRecursion (λ l. Says P l.entry) (cond b (x.1 ∷ of_thread t xs) (of_thread t xs))
    by_test true g = (h.0, g)
    by_test false g = g

draw_says : (P : List PlainObject) (e : Entry) (d : Draw) → draw_in e ≡ Some d → Says P e → hash_by P d.object ≡ Some d.value
draw_says P (Hash o v (Some n)) d h s = let a = same_Some _ d h in ap (λ (x : Draw). hash_by P x.object) (sym a) ∙ s ∙ ap (λ (x : Draw). Some x.value) a
draw_says P (Hash o v None) d h s = absurd (cc h)
draw_says P _ d h s = absurd (cc h)

beyond : (v n t : ℕ) (f : ℕ → ThreadView) → n ≤ t → log_of (logs_from v n f) t ≡ []
beyond v zero t f h = refl
beyond v (suc n) zero f h = absurd (omega (arith, h))
beyond v (suc n) (suc t) f h = beyond (v + 1) n t f (omega (arith, h))

module _ (w : World) (P : List PlainObject) (v : Fits w P) where
  draws : (t : ℕ) → AreDraws (first_draw w.start t) 0 (log_of (logs w) t)
  draws t = by_thread (dec t w.shape.threads)
    where
      dec : (a b : ℕ) → (a < b) ⊎ (b ≤ a)
      dec a b = grind (arith)

      by_thread : (t < w.shape.threads) ⊎ (w.shape.threads ≤ t) → AreDraws (first_draw w.start t) 0 (log_of (logs w) t)
      by_thread (inl h) = subst (AreDraws (first_draw w.start t) 0) (sym (log_at 0 w.shape.threads t t w.known (omega arith) h)) (v.draws.drawn t)
      by_thread (inr h) = subst (AreDraws (first_draw w.start t) 0) (sym (beyond 0 w.shape.threads t w.known h)) tt

  say : (t : ℕ) → AllByRecursion (λ l. Says P l.entry) (log_of (logs w) t)
  say t =
      subst (AllByRecursion (λ l. Says P l.entry)) (thread_kept (logs w) t v.legal.rises)
      (say_of P t (order (logs w)) (all_say (new_objects w.shape.objects) P (order (logs w)) v.taken))

  says : (t i o n : ℕ) (drawn : Option ℕ) (l : Logged) → slice_get (log_of (logs w) t) i ≡ Some l → l.entry ≡ Hash o n drawn → hash_by P o ≡ Some n
  says t i o n drawn l h e = subst (Says P) e (all_at (λ l. Says P l.entry) (log_of (logs w) t) i l (say t) h)

  here_of : (t i o : ℕ) (d : Draw) → IsLoggedDraw (logs w) t i d → d.object ≡ o → IsHere (log_of (logs w) t) o i
  here_of t i o d a e = record { entry = a.entry; draw = d; there = a.there; drawn = a.drawn; object = e }

  once : (o h : ℕ) → hash_by P o ≡ Some h → IsDrawnOnce w.start (logs w) o h
  once o h is =
      let one : all_draws o (logs w) ≡ 1 = v.draws.one o
      ∙ ap (λ (b : Bool). cond b 0 1) (ap (λ n. n == 0) (ap or_zero is) ∙ ne_eqb h 0 (above_after w.shape.objects (logs w) P v.taken o h is)) in
      let a = find_log (logs w) o (omega (arith, one)) in
      let b = find_here (log_of (logs w) a.0) o a.1 in
      let c = numbered (first_draw w.start a.0) 0 (log_of (logs w) a.0) o b.0 (draws a.0) b.1 in
      let d = draw_says P b.1.entry.entry b.1.draw b.1.drawn (all_at (λ l. Says P l.entry) (log_of (logs w) a.0) b.0 b.1.entry (say a.0) b.1.there) in
      record {
        thread = a.0;
        place = b.0;
        draw = b.1.draw;
        logged = record { entry = b.1.entry; there = b.1.there; drawn = b.1.drawn };
        object = b.1.object;
        value = same_Some b.1.draw.value h (sym d ∙ ap (hash_by P) b.1.object ∙ is);
        number = omega (arith, c.0);
        nth = c.1;
        only = λ t i f g e.
            let other = here_of t i o f g e in
            let same : t ≡ a.0 = one_log (logs w) o t a.0 (omega (arith, one)) (here_counts (log_of (logs w) t) o i other) a.1 in
            let few = log_counts (logs w) o a.0 in
            (same, one_here (log_of (logs w) a.0) o i b.0 (omega (arith, one, few)) (subst (λ u. IsHere (log_of (logs w) u) o i) same other) b.1);
      }

  pub hashes_drawn : HashesAreDrawn w.start (logs w) P
  hashes_drawn = record { draws = draws; once = once; says = says }

-- while a bias is revoked, the logs are those before
logs_before : (n u : ℕ) (f g : ℕ → ThreadView) → ((t : ℕ) → (f t).log ≡ (g t).log) → logs_from u n f ≡ logs_from u n g
logs_before zero u f g e = refl
logs_before (suc n) u f g e = λ i. e u i ∷ logs_before n (u + 1) f g e i

pub revoking_logs : (w : World) (P : List PlainObject) (s : IsRevoking w P) → logs w ≡ logs s.before
revoking_logs w P s =
    (λ i. logs_from 0 (s.shape i).threads w.known)
    ∙ logs_before s.before.shape.threads 0 w.known s.before.known
    (λ t. by_equal t s.requester (λ e. ap (λ u. (w.known u).log) e ∙ ap (λ (k : ThreadView). k.log) s.knows
    ∙ ap (λ u. (s.before.known u).log) (sym e)) (λ d. ap (λ (k : ThreadView). k.log) (s.others t d)))

pub valid_hashes : (w : World) (P : List PlainObject) → IsValid w P → HashesAreDrawn w.start (logs w) P
valid_hashes w P (inl v) = hashes_drawn w P v
valid_hashes w P (inr s) =
    let same = revoking_logs w P s in
    subst (λ (x : ℕ × List (List Logged)). HashesAreDrawn x.0 x.1 P) (λ i. (sym s.start i, sym same i)) (hashes_drawn s.before P s.fits)
