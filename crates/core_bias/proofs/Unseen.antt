-- The clauses of a valid world but that of what was seen: a revocation as a whole keeps these, whatever its thread saw meanwhile. Some of the
-- stores in its middle break them.
use Rattle.core_locks.proofs.Prelude.{◌≡◌, ℕ, ◌-◌, nat_lt, cond, ap, class_by, Shape, List, PlainObject, WordId, Prototype}
use Rattle.core_locks.proofs.Prelude.{Revocations, LastBulk, Mark, Displaced, with_word, World, Fits, SeenFit}
use Rattle.core_world.specs.declared.word_id.WordId.TheVariants.{Class}
use Rattle.core_world.specs.Words.Shape.{class_in_shape}
use Rattle.core_locks.proofs.Clauses.{Parts, parts_of, Clause, Holds, clauses, fits}
use Rattle.core_locks.proofs.Clauses as clause

abbrev pub Unseen : Parts → Clause → Type 0
Unseen p clause.seen = Unit {0}
Unseen p c = Holds p c

-- every clause holds but that of what was seen
abbrev pub FitsUnseen : World → List PlainObject → Type 0
FitsUnseen w objects = (c : Clause) → Unseen (parts_of w objects) c

-- and without the clause of the words of classes, in which alone the counts of threads stand
abbrev pub Unclassed : World → List PlainObject → Type 0
Unclassed w objects = (c : Clause) → of_kind (parts_of w objects) c
  where
    of_kind : Parts → Clause → Type 0
    of_kind p clause.seen = Unit {0}
    of_kind p clause.classes = Unit {0}
    of_kind p c = Holds p c

pub unseen : (w : World) (P : List PlainObject) → Fits w P → FitsUnseen w P
unseen w P v clause.seen = tt
unseen w P v c = clauses w P v c

pub with_seen : (w : World) (P : List PlainObject) → SeenFit w P → FitsUnseen w P → Fits w P
with_seen w P seen v = fits w P each
  where
    each : (c : Clause) → Holds (parts_of w P) c
    each clause.seen = seen
    each c = v c

pub unclassed : (w : World) (P : List PlainObject) → FitsUnseen w P → Unclassed w P
unclassed w P v clause.classes = tt
unclassed w P v c = v c

pub classed : (w : World) (P : List PlainObject) → Unclassed w P → Holds (parts_of w P) clause.classes → FitsUnseen w P
classed w P v classes clause.classes = classes
classed w P v classes c = v c

-- the world with these words
abbrev pub with_words : (WordId → ℕ) → World → World
with_words f w = record { shape = w.shape; start = w.start; biasing = w.biasing; words = f; known = w.known }

-- an object has the same class by words among which its class word is the same
pub class_stays : (s : Shape) (f g : WordId → ℕ) (o : ℕ) → g (Class o) ≡ f (Class o) → class_by s g o ≡ class_by s f o
class_stays s f g o h = ap (λ n. cond (nat_lt o s.declared) (class_in_shape s o) (n - 1)) h

-- the world in which the mark of o is m, and in which a displaced word is d
abbrev pub set_mark : ℕ → ℕ → World → World
set_mark o m w = with_words (with_word (Mark o) m w.words) w

abbrev pub set_displaced : ℕ → ℕ → ℕ → World → World
set_displaced t q d w = with_words (with_word (Displaced t q) d w.words) w

-- the words with these marks and these words of classes
abbrev pub rewords : (ℕ → ℕ) → (ℕ → ℕ) → (ℕ → ℕ) → (ℕ → ℕ) → (WordId → ℕ) → WordId → ℕ
rewords mark prototype count last f (Mark o) = mark o
rewords mark prototype count last f (Prototype c) = prototype c
rewords mark prototype count last f (Revocations c) = count c
rewords mark prototype count last f (LastBulk c) = last c
rewords mark prototype count last f n = f n
