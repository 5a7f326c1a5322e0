-- A monitor that a deflation gave back stands in the ring after it, so that no mark names it: what the thread has seen and stored since makes that
-- evident in each valid world. The end went on by one for each monitor given back, each of them came from an object whose mark is a header now, and
-- there are at least as many monitors in the ring as there are such objects.
use Rattle.std.proofs.Common.{◌≡◌, ◌≢◌, ℕ, zero, suc, ◌+◌, ◌-◌, ◌*◌, ◌%◌, ◌^◌, ◌<◌, ◌≤◌, ◌==◌, eq-eqb, ne_eqb, eqb-true, is_some}
use Rattle.std.proofs.Common.{Bool, true, false, cond, List, length, Option, Some, None, refl, sym, ap, ◌∙◌, subst, arith}
use Rattle.std.proofs.lemmas.Option.{same_Some}
use Rattle.std.proofs.lemmas.Nat.{pow_pos}
use Rattle.std.proofs.Math.Nat.{suc-mul, add-mul-mod_self_left}
use Rattle.plain_monitor.specs.Objects.{PlainObject}
use Rattle.core_world.specs.declared.word_id.WordId.{WordId}
use Rattle.core_world.specs.declared.word_id.WordId.TheVariants.{Mark, Claim, End, Ring}
use Rattle.core_world.specs.Words.Forms.{monitor_in}
use Rattle.core_world.specs.Words.Shape.{Shape, monitor_count, ring_bits, ring_places}
use Rattle.core_world.specs.Threads.ThreadView.{ThreadView, Moving, Still, Fetches, Returns}
use Rattle.core_world.specs.Clauses.Claims.{At, InRing, count_with_monitor, claimed_or_kept, given_back}
use Rattle.core_world.specs.Locks.{inflated_to}
use Rattle.core_world.specs.Valid.{Fits}
use Rattle.core_world.specs.World.{World}
use Rattle.core_world.proofs.KnowledgeParts.{by_equal}
use Rattle.core_world.proofs.NoWordChanges.{one_requester}
use Rattle.core_world.proofs.deflation.Rings.{ring_few, ring_enough, place_of_word, places_differ}
use Rattle.core_locks.specs.DeflationLaws.{Saw}
use Rattle.core_locks.proofs.monitor.Claims.{next_word}
use Rattle.core_locks.proofs.monitor.Places.{with_most, with_more, with_none}
use Rattle.core_steps.specs.Deflated.{StandsInRing}

-- COUNTS. A function with another value at n, below n + 1.
abbrev put : ℕ → ℕ → (ℕ → ℕ) → ℕ → ℕ
put n o f i = cond (i == n) o (f i)

put_each : (P : ℕ → ℕ → Type 0) (n o : ℕ) (f : ℕ → ℕ) → P n o → ((i : ℕ) → i < n → P i (f i)) → (i : ℕ) → i < n + 1 → P i (put n o f i)
put_each P n o f new old i h = by_number (i == n) refl
  where
    by_number : (b : Bool) → (i == n) ≡ b → P i (cond b o (f i))
    by_number true same = subst (λ z. P z o) (sym (eqb-true i n same)) new
    by_number false other = old i (by_equal i n (λ q. let yes = eq-eqb i n q in absurd (cc (other, yes))) (λ d. omega (arith, h, d)))

abbrev with_one : ℕ → (ℕ → Option ℕ) → ℕ → Option ℕ
with_one t f u = cond (u == t) (Some 0) (f u)

-- n of the N have none
none_counted : (N n : ℕ) (f : ℕ → Option ℕ) (object : ℕ → ℕ) → ((i : ℕ) → i < n → object i < N)
    → ((i : ℕ) → i < n → f (object i) ≡ None) → ((i j : ℕ) → i < n → j < n → object i ≡ object j → i ≡ j)
    → n + count_with_monitor N f ≤ N
none_counted N zero f object there none apart = let most = with_most N f in omega (arith, most)
none_counted N (suc n) f object there none apart =
    let t : ℕ = object n in
    let last : n < suc n = omega arith in
    let rest = none_counted N n (with_one t f) object (λ i h. there i (omega (arith, h))) (λ i h.
    let other : object i ≢ t = λ q. let same = apart i n (omega (arith, h)) last q in omega (arith, same, h) in
    ap (λ b. cond b (Some 0) (f (object i))) (ne_eqb (object i) t other)
    ∙ none i (omega (arith, h))) (λ i j h g q. apart i j (omega (arith, h)) (omega (arith, g)) q) in
    let more = with_more N t f (with_one t f) (there n last) (ap is_some (none n last)) (ap (λ b. is_some (cond b (Some 0) (f t))) (eq-eqb t t refl))
    (λ u d. ap (λ b. is_some (cond b (Some 0) (f u))) (ne_eqb u t d)) in
    omega (arith, rest, more)

-- two numbers are the same modulo 2 ^ b where they are so d further on
same_back : (x y d b : ℕ) → (x + d) % 2 ^ b ≡ (y + d) % 2 ^ b → x % 2 ^ b ≡ y % 2 ^ b
same_back x y d b h = sym (round x) ∙ ap (λ z. (z + rest) % 2 ^ b) h ∙ round y
  where
    rest : ℕ
    rest = (2 ^ b - 1) * d

    round : (z : ℕ) → ((z + d) % 2 ^ b + rest) % 2 ^ b ≡ z % 2 ^ b
    round z =
        let some = pow_pos b in
        let whole : suc (2 ^ b - 1) ≡ 2 ^ b = omega (arith, some) in
        let times : 2 ^ b * d ≡ (2 ^ b - 1) * d + d = ap (λ m. m * d) (sym whole) ∙ suc-mul (2 ^ b - 1) d in
        let all : z + d + rest ≡ z + 2 ^ b * d = omega (arith, times) in
        next_word (z + d) (2 ^ b) rest ∙ ap (λ m. m % 2 ^ b) all ∙ add-mul-mod_self_left z (2 ^ b) d

-- WHAT THE THREAD HAS SEEN since it gave m back, at the position `base`, and `more` others after it
pub record IsOut (s : Shape) (l : ThreadView) (m : ℕ) : Type 0 where
  pub base : ℕ
  pub more : ℕ
  pub at_end : Saw l End ((base + (more + 1)) % 2 ^ 64)
  pub in_ring : Saw l (Ring (base % ring_places s)) m
  -- the objects that they came from
  pub object : ℕ → ℕ
  pub there : (i : ℕ) → i < more + 1 → object i < length s.objects
  pub heads : (i : ℕ) → i < more + 1 → (h : ℕ) × Saw l (Mark (object i)) h × (monitor_in h ≡ None)
  pub apart : (i j : ℕ) → i < more + 1 → j < more + 1 → object i ≡ object j → i ≡ j

pub out_on : (s : Shape) (k l : ThreadView) (m : ℕ) → ((n : WordId) (v : ℕ) → Saw k n v → Saw l n v) → IsOut s k m → IsOut s l m
out_on s k l m saw x = record {
  base = x.base;
  more = x.more;
  at_end = saw End _ x.at_end;
  in_ring = saw (Ring (x.base % ring_places s)) m x.in_ring;
  object = x.object;
  there = x.there;
  heads = λ i h. let y = x.heads i h in (y.0, saw (Mark (x.object i)) y.0 y.1, y.2);
  apart = x.apart;
}

-- IN A VALID WORLD in which each word is as the thread saw it
module _ (w : World) (P : List PlainObject) (v : Fits w P) (l : ThreadView) (m : ℕ)
    (sees : (n : WordId) (u : ℕ) → Saw l n u → w.words n ≡ u) (x : IsOut w.shape l m) where
  abbrev named : ℕ
  named = count_with_monitor (length w.shape.objects) (inflated_to w)

  few : x.more + 1 + named ≤ length w.shape.objects
  few = none_counted (length w.shape.objects) (x.more + 1) (inflated_to w) x.object x.there
      (λ i h. let y = x.heads i h in ap monitor_in (sees (Mark (x.object i)) y.0 y.1) ∙ y.2) x.apart

  -- so the end hasn't gone all round the ring since
  pub within_ring : 0 < w.shape.threads → x.more + 1 < 2 ^ ring_bits w.shape
  within_ring some =
      let enough = ring_enough w.shape v.limits in
      let all : monitor_count w.shape ≡ length w.shape.objects + w.shape.threads = refl in
      omega (arith, few, enough, all, some)

  -- where nobody gives a monitor back, it stands at a filled position
  module _ (none : (u : ℕ) → given_back (w.known u).moving ≡ None) where
    enough : x.more + 1 ≤ v.claims.ringed
    enough =
        let kept = with_most w.shape.threads (λ t. claimed_or_kept (w.known t).moving (w.known t).kept) in
        let moved = with_none w.shape.threads (λ t. given_back (w.known t).moving) none in
        let all : monitor_count w.shape ≡ length w.shape.objects + w.shape.threads = refl in
        omega (arith, few, kept, moved, all, v.claims.counted)

    abbrev p : ℕ
    p = v.claims.first + v.claims.ringed - (x.more + 1)

    bits : ring_bits w.shape ≤ 64
    bits = let most = ring_few w.shape in omega (arith, most)

    here : w.words (Ring (p % 2 ^ ring_bits w.shape)) ≡ m
    here =
        let after : v.claims.first + v.claims.ringed ≡ p + (x.more + 1) = omega (arith, enough) in
        let words : (x.base + (x.more + 1)) % 2 ^ 64 ≡ (p + (x.more + 1)) % 2 ^ 64 =
        sym (sees End _ x.at_end) ∙ v.claims.end_word ∙ ap (λ z. z % 2 ^ 64) after in
        let ends = sym (place_of_word (x.base + (x.more + 1)) (ring_bits w.shape) bits)
        ∙ ap (λ z. z % 2 ^ ring_bits w.shape) words ∙ place_of_word (p + (x.more + 1)) (ring_bits w.shape) bits in
        let place : x.base % 2 ^ ring_bits w.shape ≡ p % 2 ^ ring_bits w.shape = same_back x.base p (x.more + 1) (ring_bits w.shape) ends in
        ap (λ z. w.words (Ring z)) (sym place) ∙ sees (Ring (x.base % 2 ^ ring_bits w.shape)) m x.in_ring

    -- so no mark names it
    pub unnamed : (o : ℕ) → inflated_to w o ≢ Some m
    unnamed o q =
        let stood = v.claims.stands p (omega (arith, enough)) (omega (arith, enough)) in
        let a : v.claims.place m ≡ InRing p = ap v.claims.place (sym here) ∙ stood.1 in
        let b : v.claims.place m ≡ At o = (v.claims.names o m q).1 in
        absurd (cc (a, b))

    pub stands_in_ring : StandsInRing w m
    stands_in_ring =
        let d : ℕ = v.claims.ringed - (x.more + 1) in
        let most : v.claims.ringed ≤ monitor_count w.shape = (let all = v.claims.counted in omega (arith, all)) in
        let end : w.words End ≡ (w.words Claim + v.claims.ringed) % 2 ^ 64 =
        v.claims.end_word ∙ sym (next_word v.claims.first (2 ^ 64) v.claims.ringed) ∙ ap (λ z. (z + v.claims.ringed) % 2 ^ 64) (sym v.claims.claim_word) in
        let word : (w.words Claim + d) % 2 ^ 64 ≡ p % 2 ^ 64 =
        ap (λ z. (z + d) % 2 ^ 64) v.claims.claim_word ∙ next_word v.claims.first (2 ^ 64) d
        ∙ ap (λ z. z % 2 ^ 64) (let same : v.claims.first + d ≡ p = omega (arith, enough) in same) in
        let place : (w.words Claim + d) % 2 ^ ring_bits w.shape ≡ p % 2 ^ ring_bits w.shape =
        sym (place_of_word (w.words Claim + d) (ring_bits w.shape) bits)
        ∙ ap (λ z. z % 2 ^ ring_bits w.shape) word ∙ place_of_word p (ring_bits w.shape) bits in
        (d, (v.claims.ringed, most, end, omega (arith, enough)), ap (λ z. w.words (Ring z)) place ∙ here)

-- AT A REACHED SAFEPOINT nobody but its thread gives a monitor back
pub none_returns : (w : World) (P : List PlainObject) (t : ℕ) → Fits w P → (w.known t).reached ≡ true
    → (w.known t).moving ≡ Still → (u : ℕ) → given_back (w.known u).moving ≡ None
none_returns w P t v reached still u = by_moving (w.known u).moving refl
  where
    by_moving : (y : Moving) → (w.known u).moving ≡ y → given_back y ≡ None
    by_moving Still h = refl
    by_moving (Fetches p) h = refl
    by_moving (Returns m) h =
        let asks = (v.safe.safepoint u (v.moves.reaches u m h)).0 in
        let same : u ≡ t = one_requester w P v.safe u t asks (v.safe.safepoint t reached).0 in
        let a : (w.known u).moving ≡ Still = ap (λ z. (w.known z).moving) same ∙ still in
        absurd (cc (a, h))

-- WHEN ONE MORE IS GIVEN BACK, m of the object o
module _ (s : Shape) (k l : ThreadView) (o m mark header end : ℕ) (saw_end : Saw k End end)
    (object : o < length s.objects) (saw_mark : Saw k (Mark o) mark) (named : monitor_in mark ≡ Some m)
    (none : monitor_in header ≡ None) (at_end : Saw l End ((end + 1) % 2 ^ 64))
    (in_ring : Saw l (Ring (end % ring_places s)) m) (headed : Saw l (Mark o) header)
    (rings : (q u : ℕ) → q ≢ end % ring_places s → Saw k (Ring q) u → Saw l (Ring q) u) (marks : (i u : ℕ) → i ≢ o → Saw k (Mark i) u → Saw l (Mark i) u) where
  pub comes_out : IsOut s l m
  comes_out =
      let next : end + 1 ≡ end + (0 + 1) = omega arith in
      record {
        base = end;
        more = 0;
        at_end = at_end ∙ ap (λ z. Some (z % 2 ^ 64)) next;
        in_ring = in_ring;
        object = λ i. o;
        there = λ i h. object;
        heads = λ i h. (header, headed, none);
        apart = λ i j h g q. omega (arith, h, g);
      }

  pub stays_out : (j : ℕ) (x : IsOut s k j) → x.more + 1 < 2 ^ ring_bits s → IsOut s l j
  stays_out j x small = record {
    base = x.base;
    more = n;
    at_end =
        let next : x.base + n + 1 ≡ x.base + (n + 1) = omega arith in
        at_end ∙ ap (λ z. Some ((z + 1) % 2 ^ 64)) end_is ∙ ap Some (next_word (x.base + n) (2 ^ 64) 1) ∙ ap (λ z. Some (z % 2 ^ 64)) next;
    in_ring = rings (x.base % ring_places s) j elsewhere x.in_ring;
    object = put n o x.object;
    there = put_each (λ i y. y < length s.objects) n o x.object object x.there;
    heads = put_each (λ i y. (h : ℕ) × Saw l (Mark y) h × (monitor_in h ≡ None)) n o x.object (header, headed, none) (λ i h.
        let y = x.heads i h in
        (y.0, marks (x.object i) y.0 (fresh i h) y.1, y.2));
    apart = λ i a h g. put_each (λ i y. (a : ℕ) → a < n + 1 → y ≡ put n o x.object a → i ≡ a) n o x.object
        (put_each (λ a z. o ≡ z → n ≡ a) n o x.object (λ q. refl) (λ a g q. absurd (fresh a g (sym q))))
        (λ i h. put_each (λ a z. x.object i ≡ z → i ≡ a) n o x.object (λ q. absurd (fresh i h q)) (λ a g q. x.apart i a h g q)) i h a g;
  }
    where
      n : ℕ
      n = x.more + 1

      end_is : end ≡ (x.base + n) % 2 ^ 64
      end_is = same_Some _ _ (sym saw_end ∙ x.at_end)

      elsewhere : x.base % ring_places s ≢ end % ring_places s
      elsewhere q =
          let bits : ring_bits s ≤ 64 = let most = ring_few s in omega (arith, most) in
          let place : end % 2 ^ ring_bits s ≡ (x.base + n) % 2 ^ ring_bits s =
          ap (λ z. z % 2 ^ ring_bits s) end_is ∙ place_of_word (x.base + n) (ring_bits s) bits in
          places_differ x.base n (ring_bits s) (omega arith) small (sym place ∙ sym q)

      -- the marks of the earlier ones name no monitor, and that of o named one
      fresh : (i : ℕ) → i < n → x.object i ≢ o
      fresh i h q =
          let y = x.heads i h in
          let word : y.0 ≡ mark = same_Some _ _ (sym y.1 ∙ subst (λ z. Saw k (Mark z) mark) (sym q) saw_mark) in
          let no : monitor_in mark ≡ None = ap monitor_in (sym word) ∙ y.2 in
          absurd (cc (no, named))
