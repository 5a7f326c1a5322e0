-- The world at the start is sound, and the first seat knows all of it.
use Rattle.std.proofs.Common.{append_assoc, replicate, ◌≡◌, ◌≢◌, ℕ, zero, suc, ◌+◌, ◌*◌, ◌-◌, ◌<◌, ◌≤◌, nat_lt, ◌&&◌, Bool, true, false}
use Rattle.std.proofs.Common.{List, [], ◌∷◌, ◌++◌, length, get_or, refl, sym, ap, ◌∙◌, subst, arith, inl, inr, add-one, append-nil}
use Rattle.std.proofs.Math.Nat.{mul-suc}
use Rattle.std.specs.Prelude.{All, map, slice_index}
use Rattle.std.specs.List.{AllByRecursion}
use Rattle.std.proofs.lemmas.Bool.{cases_lt}
use Rattle.std.proofs.lemmas.Bool.Decides.{nat_tests}
use Rattle.std.proofs.lemmas.List.{length-append, length-replicate, replicate_more}
use Rattle.plain_monitor.specs.Limits.{most_threads, most_classes, most_slots, most_objects, most_made, most_in_all}
use mathlib.Core.Option.{some, some-injective, some-ne-none}
use lib.ListN.{get_elem?}
use Rattle.atomic_table.specs.Table.{Me, opening as opening_state}
use Rattle.core_world.specs.declared.word_id.WordId.{WordId}
use Rattle.core_world.specs.declared.word_id.WordId.TheVariants.{Safepoint, Prototype, Revocations, LastBulk, Mark, Stamp, Slot, Hold, Displaced}
use Rattle.core_world.specs.declared.word_id.WordId.TheVariants.{Waiting, Length, Owner, Recursions, Header, Object, Claim, End, Ring, Class}
use Rattle.core_world.specs.Opening.{first_mark, first_word, first_known, opening}
use Rattle.core_world.specs.Words.Shape.{Shape, IsInLimits, ring_places}
use Rattle.core_world.specs.World.{World}
use Rattle.core_law.specs.HeapLaw.{HeapLaw}
use Rattle.core_law.specs.Logic.{Heap}
use Rattle.core_law.specs.Reached.{opens as at_opening}
use Rattle.core_world.specs.There.{IsIn}
use Rattle.heap_table.specs.Layout.{place_of, word_count, many, object_size, objects_from, threads_from}
use Rattle.core_world.specs.Threads.ThreadView.{ThreadView}
use Rattle.heap_table.specs.Fresh.{IsFresh}
use Rattle.heap_table.specs.inner.Firsts.{first_knowns}
use Rattle.heap_table.specs.inner.Openings.{copies, spread, object_words, opening_groups, numbers, opening_words}
use Rattle.heap_table.specs.Kept.{Mirrors}
use Rattle.heap_table.specs.declared.mirror.Mirror.{Mirror}
use Rattle.heap_table.specs.Ruled.{heap_in, only}
use Rattle.heap_table.specs.inner.Ruled.{Each, Differ, Ruled, others}
use Rattle.heap_table.specs.declared.setting.Setting.{Setting}
use Rattle.heap_table.specs.Seen.{HeapSeen, PassSeen, first_pass, first_passes}
use Rattle.heap_table.proofs.Lawful.{by_law}
use Rattle.heap_table.proofs.Sizes.{size_room, size_some, rows_split}

append_append : (xs ys zs : List ℕ) → (xs ++ ys) ++ zs ≡ xs ++ (ys ++ zs)
append_append [] ys zs = refl
append_append (x ∷ xs) ys zs = ap (λ (l : List ℕ). x ∷ l) (append_append xs ys zs)

-- where the groups of the k-th kind begin, and how many there are of which words
abbrev begins : ℕ → List (ℕ × List ℕ) → ℕ
begins zero rs = 0
begins (suc k) [] = 0
begins (suc k) (r ∷ rs) = length r.1 * r.0 + begins k rs

abbrev run : ℕ → List (ℕ × List ℕ) → ℕ × List ℕ
run k [] = (0, [])
run zero (r ∷ rs) = r
run (suc k) (r ∷ rs) = run k rs

in_front : (xs ys : List ℕ) (i : ℕ) → i < length xs → get_or (xs ++ ys) i 0 ≡ get_or xs i 0
in_front [] ys i h = absurd (omega (arith, h))
in_front (x ∷ xs) ys zero h = refl
in_front (x ∷ xs) ys (suc i) h = in_front xs ys i (omega (arith, h))

after : (xs ys : List ℕ) (i j : ℕ) → i ≡ length xs + j → get_or (xs ++ ys) i 0 ≡ get_or ys j 0
after [] ys i j e = let f : i ≡ j = omega (arith, e) in ap (λ (x : ℕ). get_or ys x 0) f
after (x ∷ xs) ys zero j e = absurd (omega (arith, e))
after (x ∷ xs) ys (suc i) j e = after xs ys i j (omega (arith, e))

in_copies : (n : ℕ) (g ys : List ℕ) (a i at : ℕ) → at ≡ length g * a + i → a < n → i < length g → get_or (copies n g ++ ys) at 0 ≡ get_or g i 0
in_copies zero g ys a i at e h l = absurd (omega (arith, h))
in_copies (suc n) g ys zero i at e h l =
    let f : at ≡ i = omega (arith, e) in
    ap (λ (z : List ℕ). get_or z at 0) (append_append g (copies n g) ys)
    ∙ ap (λ (x : ℕ). get_or (g ++ (copies n g ++ ys)) x 0) f ∙ in_front g (copies n g ++ ys) i l
in_copies (suc n) g ys (suc a) i at e h l =
    let d : length g * suc a ≡ length g * a + length g = mul-suc (length g) a in
    ap (λ (z : List ℕ). get_or z at 0) (append_append g (copies n g) ys) ∙ after g (copies n g ++ ys) at (length g * a + i) (omega (arith, e, d))
    ∙ in_copies n g ys a i (length g * a + i) refl (omega (arith, h)) l

length_append : (xs ys : List ℕ) → length (xs ++ ys) ≡ length xs + length ys
length_append [] ys = omega arith
length_append (x ∷ xs) ys = let h = length_append xs ys in omega (arith, h)

length_copies : (n : ℕ) (g : List ℕ) → length (copies n g) ≡ length g * n
length_copies zero g = let e : length g * 0 ≡ 0 = omega arith in sym e
length_copies (suc n) g = let a = length_append g (copies n g) in let b = length_copies n g in
    let d : length g * suc n ≡ length g * n + length g = mul-suc (length g) n in omega (arith, a, b, d)

in_run : (k : ℕ) (rs : List (ℕ × List ℕ)) (ws : List ℕ) (a i at : ℕ)
    → at ≡ begins k rs + (length (run k rs).1 * a + i) → a < (run k rs).0 → i < length (run k rs).1
    → get_or (spread rs ws) at 0 ≡ get_or (run k rs).1 i 0
in_run zero [] ws a i at e h l = absurd (omega (arith, h))
in_run (suc k) [] ws a i at e h l = absurd (omega (arith, h))
in_run zero (r ∷ rs) ws a i at e h l = in_copies r.0 r.1 (spread rs ws) a i at (omega (arith, e)) h l
in_run (suc k) (r ∷ rs) ws a i at e h l =
    let w = length_copies r.0 r.1 in
    after (copies r.0 r.1) (spread rs ws) at (begins k rs + (length (run k rs).1 * a + i)) (omega (arith, e, w))
    ∙ in_run k rs ws a i (begins k rs + (length (run k rs).1 * a + i)) refl h l

found : (s : Shape) (biasing : Bool) (k a i at : ℕ) → at ≡ begins k (opening_groups s biasing) + (length (run k (opening_groups s biasing)).1 * a + i)
    → a < (run k (opening_groups s biasing)).0 → i < length (run k (opening_groups s biasing)).1
    → get_or (opening_words s biasing) at 0 ≡ get_or (run k (opening_groups s biasing)).1 i 0
found s biasing k a i at e h l = in_run k (opening_groups s biasing) (numbers (ring_places s)) a i at e h l

abbrev total : List (ℕ × List ℕ) → ℕ
total [] = 0
total (r ∷ rs) = length r.1 * r.0 + total rs

-- after the groups
in_rest : (rs : List (ℕ × List ℕ)) (ws : List ℕ) (i at : ℕ) → at ≡ total rs + i → get_or (spread rs ws) at 0 ≡ get_or ws i 0
in_rest [] ws i at e = let same : at ≡ i = omega (arith, e) in ap (λ (x : ℕ). get_or ws x 0) same
in_rest (r ∷ rs) ws i at e =
    let w = length_copies r.0 r.1 in
    after (copies r.0 r.1) (spread rs ws) at (total rs + i) (omega (arith, e, w)) ∙ in_rest rs ws i (total rs + i) refl

length_numbers : (n : ℕ) → length (numbers n) ≡ n
length_numbers zero = refl
length_numbers (suc n) = let a = length_append (numbers n) (n ∷ []) in let h = length_numbers n in omega (arith, a, h)

in_numbers : (n i : ℕ) → i < n → get_or (numbers n) i 0 ≡ i
in_numbers zero i h = absurd (omega (arith, h))
in_numbers (suc n) i h =
    let long = length_numbers n in
    elim (cases_lt i n) [
      | inl low ↦ in_front (numbers n) (n ∷ []) i (omega (arith, long, low)) ∙ in_numbers n i low
      | inr top ↦ let last : n ≡ i = omega (arith, h, top) in after (numbers n) (n ∷ []) i 0 (omega (arith, long, last)) ∙ last
    ]

in_singles : (n x i : ℕ) → i < n → get_or (copies n (x ∷ [])) i 0 ≡ x
in_singles zero x i h = absurd (omega (arith, h))
in_singles (suc n) x zero h = refl
in_singles (suc n) x (suc i) h = in_singles n x i (omega (arith, h))

slot_word : (size mark i : ℕ) → 3 + i < size → get_or (object_words size mark) (3 + i) 0 ≡ 9223372036854775809
slot_word size mark i h =
    after (mark ∷ 0 ∷ 0 ∷ []) (copies (size - 3) (9223372036854775809 ∷ [])) (3 + i) i (omega arith)
    ∙ in_singles (size - 3) 9223372036854775809 i (omega (arith, h))

object_long : (s : Shape) (mark : ℕ) → length (object_words (object_size s) mark) ≡ object_size s
object_long s mark = let slots = length_copies (object_size s - 3) (9223372036854775809 ∷ []) in let some = size_some s in omega (arith, slots, some)

-- the words of so many objects
objects_long : (s : Shape) (mark n : ℕ) → length (object_words (object_size s) mark) * n ≡ object_size s * n
objects_long s mark n = ap (λ (x : ℕ). x * n) (object_long s mark)

-- the words of those that are declared and of the others
all_long : (s : Shape) (mark other : ℕ) → s.declared ≤ many s
    → length (object_words (object_size s) mark) * s.declared + length (object_words (object_size s) other) * (many s - s.declared) ≡ object_size s * many s
all_long s mark other few =
    (λ i. objects_long s mark s.declared i + objects_long s other (many s - s.declared) i) ∙ rows_split (object_size s) s.declared (many s) few

and_true : (a : Bool) → (a && true) ≡ a
and_true true = refl
and_true false = refl

and_false : (a : Bool) → (a && false) ≡ false
and_false true = refl
and_false false = refl

-- the word at this place of the group of an object, which is declared or not
object_word : (s : Shape) (biasing : Bool) (o i at : ℕ) (b : Bool) → nat_lt o s.declared ≡ b → s.declared ≤ many s → o < many s → i < object_size s
    → at ≡ objects_from s + (object_size s * o + i)
    → get_or (opening_words s biasing) at 0 ≡ get_or (object_words (object_size s) (first_mark (biasing && b))) i 0
object_word s biasing o i at true e few h l is =
    let low : o < s.declared = grind (arith, nat_tests, e) in
    let long = object_long s (first_mark biasing) in
    let after_them = objects_long s (first_mark biasing) o in
    found s biasing 2 o i at (omega (arith, is, after_them)) low (omega (arith, l, long))
    ∙ ap (λ (z : Bool). get_or (object_words (object_size s) (first_mark z)) i 0) (sym (and_true biasing))
object_word s biasing o i at false e few h l is =
    let high : s.declared ≤ o = grind (arith, nat_tests, e) in
    let long = object_long s (first_mark false) in
    let first = objects_long s (first_mark biasing) s.declared in
    let after_them = objects_long s (first_mark false) (o - s.declared) in
    let split = rows_split (object_size s) s.declared o high in
    found s biasing 3 (o - s.declared) i at (omega (arith, is, first, after_them, split)) (omega (arith, high, h)) (omega (arith, l, long))
    ∙ ap (λ (z : Bool). get_or (object_words (object_size s) (first_mark z)) i 0) (sym (and_false biasing))

-- the words of threads and monitors are 0
zero_word : (s : Shape) (biasing : Bool) (i at : ℕ) → s.declared ≤ many s → at ≡ threads_from s + i → i < 144 * s.threads + 11 * (many s + s.threads)
    → get_or (opening_words s biasing) at 0 ≡ 0
zero_word s biasing i at few is h =
    let long = all_long s (first_mark biasing) (first_mark false) few in found s biasing 4 i 0 at (omega (arith, is, long)) h (omega arith)

words_at : (s : Shape) (biasing : Bool) → s.declared ≤ many s → (n : WordId) → IsIn s n
    → get_or (opening_words s biasing) (place_of s n) 0 ≡ first_word s biasing n
words_at s biasing few Safepoint h = found s biasing 0 0 0 (place_of s Safepoint) (omega arith) (omega arith) (omega arith)
words_at s biasing few Claim h = found s biasing 0 0 8 (place_of s Claim) (omega arith) (omega arith) (omega arith)
words_at s biasing few End h = found s biasing 0 0 7 (place_of s End) (omega arith) (omega arith) (omega arith)
words_at s biasing few (Prototype c) h = found s biasing 1 c 0 (place_of s (Prototype c)) (omega arith) h (omega arith)
words_at s biasing few (Revocations c) h = found s biasing 1 c 1 (place_of s (Revocations c)) (omega arith) h (omega arith)
words_at s biasing few (LastBulk c) h = found s biasing 1 c 2 (place_of s (LastBulk c)) (omega arith) h (omega arith)
words_at s biasing few (Mark o) h =
    let some = size_some s in object_word s biasing o 0 (place_of s (Mark o)) (nat_lt o s.declared) refl few h (omega (arith, some)) (omega arith)
words_at s biasing few (Stamp o) h =
    let some = size_some s in object_word s biasing o 1 (place_of s (Stamp o)) (nat_lt o s.declared) refl few h (omega (arith, some)) (omega arith)
words_at s biasing few (Class o) h =
    let some = size_some s in object_word s biasing o 2 (place_of s (Class o)) (nat_lt o s.declared) refl few h.0 (omega (arith, some)) (omega arith)
words_at s biasing few (Slot o i) h =
    let room = size_room s o i h.1 in
    object_word s biasing o (3 + i) (place_of s (Slot o i)) (nat_lt o s.declared) refl few h.0 (omega (arith, room)) (omega arith)
    ∙ slot_word (object_size s) (first_mark (biasing && nat_lt o s.declared)) i (omega (arith, room))
words_at s biasing few (Hold t p) h = zero_word s biasing (144 * t + p) (place_of s (Hold t p)) few (omega arith) (omega (arith, h.0, h.1))
words_at s biasing few (Displaced t p) h = zero_word s biasing (144 * t + 64 + p) (place_of s (Displaced t p)) few (omega arith) (omega (arith, h.0, h.1))
words_at s biasing few (Length t) h = zero_word s biasing (144 * t + 128) (place_of s (Length t)) few (omega arith) (omega (arith, h))
words_at s biasing few (Waiting t) h = zero_word s biasing (144 * t + 136) (place_of s (Waiting t)) few (omega arith) (omega (arith, h))
words_at s biasing few (Owner m) h = zero_word s biasing (144 * s.threads + 11 * m) (place_of s (Owner m)) few (omega arith) (omega (arith, h))
words_at s biasing few (Recursions m) h = zero_word s biasing (144 * s.threads + 11 * m + 1) (place_of s (Recursions m)) few (omega arith) (omega (arith, h))
words_at s biasing few (Header m) h = zero_word s biasing (144 * s.threads + 11 * m + 2) (place_of s (Header m)) few (omega arith) (omega (arith, h))
words_at s biasing few (Object m) h = zero_word s biasing (144 * s.threads + 11 * m + 3) (place_of s (Object m)) few (omega arith) (omega (arith, h))
words_at s biasing few (Ring p) h =
    let long = all_long s (first_mark biasing) (first_mark false) few in
    in_rest (opening_groups s biasing) (numbers (ring_places s)) p (place_of s (Ring p)) (omega (arith, long)) ∙ in_numbers (ring_places s) p h

wide_as : (rs : List (ℕ × List ℕ)) (ws : List ℕ) → length (spread rs ws) ≡ total rs + length ws
wide_as [] ws = omega arith
wide_as (r ∷ rs) ws = let a = length_append (copies r.0 r.1) (spread rs ws) in let b = length_copies r.0 r.1 in let c = wide_as rs ws in omega (arith, a, b, c)

pub opening_count : (s : Shape) (biasing : Bool) (ws : List ℕ) → s.declared ≤ many s → ws ≡ opening_words s biasing → length ws ≡ word_count s
opening_count s biasing ws few e =
    let h = wide_as (opening_groups s biasing) (numbers (ring_places s)) in
    let n = length_numbers (ring_places s) in
    let g : length ws ≡ length (spread (opening_groups s biasing) (numbers (ring_places s))) = ap length e in
    let long = all_long s (first_mark biasing) (first_mark false) few in omega (arith, h, n, g, long)

-- five kinds of group that were put one after another, and the ring after them
pub chained : (w x y z v u t a b c d k r : List ℕ) → w ≡ [] → x ≡ w ++ a → y ≡ x ++ b → z ≡ y ++ c → v ≡ z ++ d → u ≡ v ++ k → t ≡ u ++ r
    → t ≡ a ++ (b ++ (c ++ (d ++ (k ++ r))))
chained w x y z v u t a b c d k r e f g h i j l =
    let one : x ≡ a = f ∙ ap (λ (q : List ℕ). q ++ a) e in
    let two : y ≡ a ++ b = g ∙ ap (λ (q : List ℕ). q ++ b) one in
    let three : z ≡ (a ++ b) ++ c = h ∙ ap (λ (q : List ℕ). q ++ c) two in
    let four : v ≡ ((a ++ b) ++ c) ++ d = i ∙ ap (λ (q : List ℕ). q ++ d) three in
    let five : u ≡ (((a ++ b) ++ c) ++ d) ++ k = j ∙ ap (λ (q : List ℕ). q ++ k) four in
    l ∙ ap (λ (q : List ℕ). q ++ r) five ∙ append_append (((a ++ b) ++ c) ++ d) k r ∙ append_append ((a ++ b) ++ c) d (k ++ r)
    ∙ append_append (a ++ b) c (d ++ (k ++ r)) ∙ append_append a b (c ++ (d ++ (k ++ r)))

-- the objects of a shape that is made are in its limits
pub each_fits : (slots classes : List ℕ) → All (λ n. n ≤ most_slots) slots → All (λ c. c < length slots) classes
    → AllByRecursion {X = ℕ × ℕ} (λ x. (x.0 < length slots) × (x.1 ≤ most_slots)) (map (λ c. (c, slice_index slots c)) classes)
each_fits slots [] h g = tt
each_fits slots (c ∷ cs) h g = let low = g 0 0 (omega arith) in ((low, h c 0 low), each_fits slots cs h (λ k d lt. g (suc k) d (omega (arith, lt))))

objects_few : (slots classes : List ℕ) → length {A = ℕ × ℕ} (map (λ c. (c, slice_index slots c)) classes) ≡ length classes
objects_few slots [] = refl
objects_few slots (c ∷ cs) = let h = objects_few slots cs in omega (arith, h)

pub shape_fits : (threads : ℕ) (slots classes : List ℕ) (declared : ℕ) (objects : List (ℕ × ℕ))
    → (threads ≤ most_threads) × (length slots ≤ most_classes) × (length classes ≤ most_in_all)
    → declared ≤ length classes → All (λ n. n ≤ most_slots) slots → All (λ c. c < length slots) classes → objects ≡ map (λ c. (c, slice_index slots c)) classes
    → IsInLimits (record { threads = threads; classes = length slots; declared = declared; objects = objects })
shape_fits threads slots classes declared objects few within h g e =
    let n = objects_few slots classes in
    subst (λ (z : List (ℕ × ℕ)). IsInLimits (record { threads = threads; classes = length slots; declared = declared; objects = z })) (sym e)
    (record {
      threads = few.0;
      classes = few.1;
      declared = omega (arith, n, within);
      objects = omega (arith, n, few.2);
      each = each_fits slots classes h g;
    })

-- and so are those of a shape with numbers for made objects
each_joined : (classes : ℕ) (xs ys : List (ℕ × ℕ)) → AllByRecursion {X = ℕ × ℕ} (λ x. (x.0 < classes) × (x.1 ≤ most_slots)) xs
    → AllByRecursion {X = ℕ × ℕ} (λ x. (x.0 < classes) × (x.1 ≤ most_slots)) ys
    → AllByRecursion {X = ℕ × ℕ} (λ x. (x.0 < classes) × (x.1 ≤ most_slots)) (xs ++ ys)
each_joined classes [] ys h g = g
each_joined classes (x ∷ xs) ys h g = (h.0, each_joined classes xs ys h.1 g)

each_made : (classes slots n : ℕ) → 1 ≤ classes → slots ≤ most_slots
    → AllByRecursion {X = ℕ × ℕ} (λ x. (x.0 < classes) × (x.1 ≤ most_slots)) (replicate n (0, slots))
each_made classes slots zero class few = tt
each_made classes slots (suc n) class few = ((omega (arith, class), few), each_made classes slots n class few)

pub made_fits : (s : Shape) (slots : ℕ) (objects : List (ℕ × ℕ)) → IsInLimits s → length s.objects ≤ most_objects → 1 ≤ s.classes → slots ≤ most_slots
    → objects ≡ s.objects ++ replicate (most_made * s.threads) (0, slots) → IsInLimits (record s { objects = objects })
made_fits s slots objects limits few class low e =
    let made = length-replicate {A = ℕ × ℕ} (most_made * s.threads) (0, slots) in
    let all = length-append s.objects (replicate (most_made * s.threads) (0, slots)) in
    let threads = limits.threads in
    let declared = limits.declared in
    subst (λ (z : List (ℕ × ℕ)). IsInLimits (record s { objects = z })) (sym e)
    (record {
      threads = limits.threads;
      classes = limits.classes;
      declared = omega (arith, all, declared);
      objects = omega (arith, all, made, few, threads);
      each = each_joined s.classes s.objects _ limits.each (each_made s.classes slots (most_made * s.threads) class low);
    })

abbrev nobody_else : ℕ → ℕ
nobody_else t = 0

knowns_each : (w : World) → ((t : ℕ) → w.known t ≡ first_known t) → (t n : ℕ)
    → Each (λ (k : ThreadView). (w.known k.thread ≡ k) × (nobody_else k.thread ≡ 0)) (first_knowns t n)
knowns_each w e t zero = tt
knowns_each w e t (suc n) = ((e t, refl), knowns_each w e (suc t) n)

knowns_above : (u t n : ℕ) → u < t → Each (λ (k : ThreadView). k.thread ≢ u) (first_knowns t n)
knowns_above u t zero h = tt
knowns_above u t (suc n) h = ((λ e. omega arith), knowns_above u (suc t) n (omega arith))

knowns_differ : (t n : ℕ) → Differ (first_knowns t n)
knowns_differ t zero = tt
knowns_differ t (suc n) = (knowns_above t (suc t) n (omega arith), knowns_differ (suc t) n)

abbrev first_of : Heap → World
first_of b = opening b.shape b.start b.biasing

pub opens : {S : Type 0} (b : Setting) (ws : List ℕ) → b.shape.declared ≤ many b.shape → HeapLaw (heap_in b)
    → ws ≡ opening_words b.shape b.biasing → Ruled {S = S} b (opening_state ws [] (first_knowns 0 b.shape.threads))
opens {S} b ws few law e = (
  first_of (heap_in b),
  nobody_else,
  record {
    is_of = refl;
    wide = opening_count b.shape b.biasing ws few e;
    words_are = λ n here. ap (λ (l : List ℕ). get_or l (place_of b.shape n) 0) e ∙ words_at b.shape b.biasing few n here;
    knows = λ id v at. one id v at;
  },
  law.opens,
  record { comes = at_opening; law = law },
)
  where
    one : (id : ℕ) (v : List ThreadView) → get_elem? (first_knowns 0 b.shape.threads ∷ []) id ≡ some v
        → Each (λ (k : ThreadView). ((first_of (heap_in b)).known k.thread ≡ k) × (nobody_else k.thread ≡ id)) v × Differ v
    one zero v at =
        subst (λ (u : List ThreadView). Each (λ (k : ThreadView). ((first_of (heap_in b)).known k.thread ≡ k) × (nobody_else k.thread ≡ 0)) u
        × Differ u) (some-injective _ _ at) (knowns_each (first_of (heap_in b)) (λ t. refl) 0 b.shape.threads, knowns_differ 0 b.shape.threads)
    one (suc id) v at = absurd (some-ne-none v (sym at))

-- the first of the threads from t on, and the others
pub knowns_next : (t n : ℕ) → t < n → first_knowns t (n - t) ≡ first_known t ∷ first_knowns (suc t) (n - suc t)
knowns_next t n h = let e : n - t ≡ suc (n - suc t) = omega arith in ap (first_knowns t) e

passes_suc : (h : HeapSeen) (limit t n j : ℕ) → t + n ≡ j → first_passes h limit t n ++ first_pass h limit j ∷ [] ≡ first_passes h limit t (suc n)
passes_suc h limit t zero j e = let f : j ≡ t = omega (arith, e) in ap (λ (i : ℕ). first_pass h limit i ∷ []) f
passes_suc h limit t (suc n) j e = ap (λ (ps : List PassSeen). first_pass h limit t ∷ ps) (passes_suc h limit (suc t) n j (omega (arith, e)))

pub passes_more : (h : HeapSeen) (limit n : ℕ) → first_passes h limit 0 n ++ first_pass h limit n ∷ [] ≡ first_passes h limit 0 (n + 1)
passes_more h limit n = passes_suc h limit 0 n n (omega arith) ∙ ap (first_passes h limit 0) (sym (add-one n))

pub others_next : (t n : ℕ) (v : List ThreadView) → t < n → v ≡ first_knowns t (n - t) → others v ≡ first_knowns (t + 1) (n - (t + 1))
others_next t n v h e = ap others (e ∙ knowns_next t n h) ∙ rw (add-one t) refl

copies_more : (n : ℕ) (g : List ℕ) → copies n g ++ g ≡ copies (suc n) g
copies_more zero g = sym (append-nil g)
copies_more (suc n) g = append_append g (copies n g) g ∙ ap (λ (l : List ℕ). g ++ l) (copies_more n g)

-- one more number after those that were put there
pub numbers_more : (ws xs : List ℕ) (n : ℕ) → ws ≡ xs ++ numbers n → ws ++ n ∷ [] ≡ xs ++ numbers (n + 1)
numbers_more ws xs n e = ap (λ (l : List ℕ). l ++ n ∷ []) e ∙ append_append xs (numbers n) (n ∷ []) ∙ ap (λ (k : ℕ). xs ++ numbers k) (sym (add-one n))

-- one more copy after those that were put there
pub one_more : (ws xs g : List ℕ) (n : ℕ) → ws ≡ xs ++ copies n g → ws ++ g ≡ xs ++ copies (n + 1) g
one_more ws xs g n e = ap (λ (l : List ℕ). l ++ g) e ∙ append_append xs (copies n g) g
    ∙ ap (λ (l : List ℕ). xs ++ l) (copies_more n g ∙ ap (λ (k : ℕ). copies k g) (sym (add-one n)))

-- one more object after those that were put there
pub one_made_more : (xs ys : List (ℕ × ℕ)) (n slots : ℕ) → xs ≡ ys ++ replicate n (0, slots) → xs ++ (0, slots) ∷ [] ≡ ys ++ replicate (n + 1) (0, slots)
one_made_more xs ys n slots e =
    ap (λ (l : List (ℕ × ℕ)). l ++ (0, slots) ∷ []) e ∙ append_assoc ys (replicate n (0, slots)) ((0, slots) ∷ [])
    ∙ ap (λ (l : List (ℕ × ℕ)). ys ++ l) (replicate_more n (0, slots))

-- the words of one more object after those that were put there
pub one_object_more : (ws xs more all : List ℕ) (size mark n : ℕ) → ws ≡ xs ++ copies n (object_words size mark) → more ≡ ws ++ (mark ∷ 0 ∷ 0 ∷ [])
    → all ≡ more ++ copies (size - 3) (9223372036854775809 ∷ []) → all ≡ xs ++ copies (n + 1) (object_words size mark)
one_object_more ws xs more all size mark n e f g =
    g ∙ ap (λ (l : List ℕ). l ++ copies (size - 3) (9223372036854775809 ∷ [])) f
    ∙ append_append ws (mark ∷ 0 ∷ 0 ∷ []) (copies (size - 3) (9223372036854775809 ∷ []))
    ∙ one_more ws xs (object_words size mark) n e

-- what `first_pass` makes is a pass
pub own_pass : (m : Mirror) (me old : Me (Unit {0}) (List ThreadView)) (t n : ℕ)
    → me ≡ (only old.0 ∷ [], []) → old.0 ≡ first_knowns t (n - t) → t < n → Mirrors m (first_known t)
    → (me ≡ (only me.0 ∷ [], [])) × Mirrors m ((only me.0))
own_pass m me old t n e is lt f =
    let same : only me.0 ≡ first_known t = ap (λ (x : Me (Unit {0}) (List ThreadView)). only x.0) e ∙ ap only (is ∙ knowns_next t n lt) in
    (e ∙ sym (ap (λ (x : Me (Unit {0}) (List ThreadView)). (only x.0 ∷ [], [])) e), subst (λ (k : ThreadView). Mirrors m (k)) (sym same) f)

-- and the pass of each thread is fresh
pub fresh : (h : HeapSeen) (limit t : ℕ) → HeapLaw h.heap → t < h.heap.shape.threads → IsFresh h t (first_pass h limit t)
fresh h limit t law within = record {
  is_of = record {
    table = refl;
    room = refl;
    within = within;
    home = refl;
    classes = refl;
    first = refl;
    threads = refl;
    objects = refl;
    real = record { world = first_of h.heap; is_of = refl; sound = law.opens; knew = refl; is = refl; made = tt; law = by_law law };
  };
  knows = refl;
}
