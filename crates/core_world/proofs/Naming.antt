-- Names that pass the test are the same, and a word that is written as it was changes nothing.
use Rattle.std.proofs.Common.{◌≡◌, ℕ, ◌==◌, ◌&&◌, eq-eqb, Bool, true, false, cond, if◌then◌else◌, refl, sym, ap, ◌∙◌}
use borrow.Author.Tests.{eqb-true}
use Rattle.core_world.specs.declared.word_id.WordId.{WordId}
use Rattle.core_world.specs.declared.word_id.WordId.TheVariants.{Safepoint, Prototype, Revocations, LastBulk, Mark, Stamp, Slot, Hold, Displaced}
use Rattle.core_world.specs.declared.word_id.WordId.TheVariants.{Waiting, Length, Owner, Recursions, Header, Object, Claim, End, Ring, Class}
use Rattle.core_world.specs.Words.Names.{kind_of, first_index, second_index, same_name, with_word}
use Rattle.core_world.specs.Threads.ThreadView.{ThreadView}
use Rattle.core_world.specs.World.{World, with_word_and_known, with_known}

-- a name passes the test with itself
pub same_as_itself : (n : WordId) → same_name n n ≡ true
same_as_itself n =
    let a = eq-eqb (kind_of n) (kind_of n) refl in let b = eq-eqb (second_index n) (second_index n) refl in
    let c = eq-eqb (first_index n) (first_index n) refl in
    ap (λ (z : Bool). z && (second_index n == second_index n) && (first_index n == first_index n)) a
    ∙ ap (λ (z : Bool). z && (first_index n == first_index n)) b ∙ c

-- the name of three numbers
abbrev named_by : ℕ → ℕ → ℕ → WordId
named_by k a b =
    if k == 0 then Safepoint else
    if k == 1 then Prototype a else
    if k == 2 then Revocations a else
    if k == 3 then LastBulk a else
    if k == 4 then Mark a else
    if k == 5 then Stamp a else
    if k == 6 then Slot a b else
    if k == 7 then Hold a b else
    if k == 8 then Displaced a b else
    if k == 9 then Waiting a else
    if k == 10 then Length a else
    if k == 11 then Owner a else
    if k == 12 then Recursions a else
    if k == 13 then Header a else
    if k == 14 then Object a else
    if k == 15 then Claim else
    if k == 16 then End else
    if k == 17 then Ring a else
    Class a

named_again : (n : WordId) → named_by (kind_of n) (first_index n) (second_index n) ≡ n
named_again Safepoint = refl
named_again _ = refl

both_true : (a b : Bool) → (a && b) ≡ true → (a ≡ true) × (b ≡ true)
both_true true b h = (refl, h)
both_true false b h = absurd (cc h)

pub same_named : (m n : WordId) → same_name m n ≡ true → m ≡ n
same_named m n e =
    let a = both_true ((kind_of m == kind_of n) && (second_index m == second_index n)) (first_index m == first_index n) e in
    let b = both_true (kind_of m == kind_of n) (second_index m == second_index n) a.0 in
    let k : kind_of m ≡ kind_of n = eqb-true (kind_of m) (kind_of n) b.0 in
    let s : second_index m ≡ second_index n = eqb-true (second_index m) (second_index n) b.1 in
    let f : first_index m ≡ first_index n = eqb-true (first_index m) (first_index n) a.1 in
    let line : named_by (kind_of m) (first_index m) (second_index m) ≡ named_by (kind_of n) (first_index n) (second_index n) =
    λ i. named_by (k i) (f i) (s i) in
    sym (named_again m) ∙ line ∙ named_again n

pub with_word_same : (at : WordId) (v : ℕ) (f : WordId → ℕ) → v ≡ f at → with_word at v f ≡ f
with_word_same at v f same = let each : (n : WordId) → with_word at v f n ≡ f n = λ n. cases n (same_name n at) refl in λ i. λ n. each n i
  where
    cases : (n : WordId) (b : Bool) → same_name n at ≡ b → cond b v (f n) ≡ f n
    cases n true e = same ∙ ap f (sym (same_named n at e))
    cases n false e = refl

-- the world in which thread t knows k, and no word is another
abbrev pub with_knowledge : ℕ → ThreadView → World → World
with_knowledge t k w = record { shape = w.shape; start = w.start; biasing = w.biasing; words = w.words; known = with_known t k w.known }

-- a step that leaves its word as it was changes what its thread knows alone
pub with_knowledge_alone : (at : WordId) (v t : ℕ) (k : ThreadView) (w : World) → v ≡ w.words at → with_word_and_known at v t k w ≡ with_knowledge t k w
with_knowledge_alone at v t k w same =
    let words = with_word_same at v w.words same in λ i. record {
      shape = w.shape;
      start = w.start;
      biasing = w.biasing;
      words = words i;
      known = with_known t k w.known;
    }
