-- What a revocation at a safepoint stores, one store after the other: a single revocation, a bulk rebias or a bulk revoke, after
-- OpenJDK 8's biasedLocking.cpp (revoke_bias, bulk_revoke_or_rebias_at_safepoint).
use Rattle.std.specs.Prelude.{◌≡◌, ℕ, zero, suc, ◌+◌, ◌%◌, ◌==◌, ◌&&◌, if◌then◌else◌, Bool, true, false, List, [], ◌∷◌, ◌++◌, Option, Some, None}
use Rattle.std.specs.List.{position_or_len}
use Rattle.plain_monitor.specs.Limits.{most_holds}
use Rattle.mark_word.specs.declared.mark.MarkForm.{MarkForm}
use Rattle.mark_word.specs.declared.mark.MarkForm.TheVariants.{Neutral, Anonymous, Biased, Locked}
use Rattle.mark_word.specs.declared.hold.HoldForm.{HoldForm}
use Rattle.mark_word.specs.declared.hold.HoldForm.TheVariants.{Holds}
use Rattle.mark_word.specs.Mark.{mark_of, read_mark}
use Rattle.mark_word.specs.Hold.{read_hold}
use Rattle.lock_policy.specs.declared.policy.Verdict.{Verdict}
use Rattle.lock_policy.specs.declared.policy.Verdict.TheVariants.{Single, BulkRebias, BulkRevoke}
use Rattle.lock_policy.specs.Policy.{decided}
use Rattle.core_world.specs.declared.word_id.WordId.{WordId}
use Rattle.core_world.specs.declared.word_id.WordId.TheVariants.{Prototype, Revocations, LastBulk, Mark, Hold, Displaced}
use Rattle.core_world.specs.declared.act.Act.{Act}
use Rattle.core_world.specs.declared.act.Act.TheVariants as act
use Rattle.core_world.specs.Words.Shape.{Shape}
use Rattle.core_world.specs.Words.Names.{class_by, with_word}
use Rattle.core_world.specs.Words.Forms.{names, hold_word, is_biased, epoch_in}
use Rattle.core_world.specs.Threads.Stages.{Revocation}
use Rattle.core_world.specs.Threads.ThreadView.{StepMade}
use Rattle.core_world.specs.Locks.{hold_count}

-- a store: the word's name, and what is stored there
pub record Write : Type 0 where
  pub at : WordId
  pub word : ℕ

abbrev pub write : WordId → ℕ → Write
write at word = record { at = at; word = word }

-- the words after these stores
abbrev pub words_after : List Write → (WordId → ℕ) → WordId → ℕ
words_after [] f = f
words_after (x ∷ xs) f = words_after xs (with_word x.at x.word f)

-- the stores among these steps, the oldest first; the steps stand newest first
abbrev pub write_by : WordId → Act → List Write
write_by at (act.Store word) = write at word ∷ []
write_by at _ = []

abbrev pub writes_in : List StepMade → List Write
writes_in [] = []
writes_in (m ∷ ms) = writes_in ms ++ write_by m.plan.at m.plan.act

-- each of these steps found its word as the stores before it left it, of these words
abbrev pub FoundAfter : (WordId → ℕ) → List StepMade → Type 0
FoundAfter f [] = Unit {0}
FoundAfter f (m ∷ ms) = (m.found ≡ words_after (writes_in ms) f m.plan.at) × FoundAfter f ms

-- a rule says which stores to make, by the words that it finds
abbrev pub Rule : Type 0
Rule = (WordId → ℕ) → List Write

-- the rules one after the other, each on the words that those before it left
abbrev pub in_turn : List Rule → Rule
in_turn [] f = []
in_turn (r ∷ rs) f = r f ++ in_turn rs (words_after (r f) f)

-- a rule for each number below n, by rising number
abbrev pub each_below : ℕ → (ℕ → Rule) → Rule
each_below zero r f = []
each_below (suc n) r f = each_below n r f ++ r n (words_after (each_below n r f) f)

abbrev pub store_one : WordId → ℕ → Rule
store_one at word f = write at word ∷ []

-- the n words of places from p on
abbrev pub words_from : ℕ → ℕ → (ℕ → ℕ) → List ℕ
words_from p zero f = []
words_from p (suc n) f = f p ∷ words_from (p + 1) n f

-- the hold words of thread t
unfoldable pub holds_in : (WordId → ℕ) → ℕ → List ℕ
holds_in f t = words_from 0 most_holds (λ p. f (Hold t p))

-- the displaced words of t's records of o, of which the first stands at place p: the record with depth 1 gets the neutral header, and
-- each other one 0
abbrev pub record_writes : ℕ → ℕ → ℕ → List ℕ → List Write
record_writes o t p [] = []
record_writes o t p (h ∷ hs) =
    (if names o h then write (Displaced t p) (if h == hold_word o 1 then mark_of (Neutral 0 0) else 0) ∷ []
    else []) ++ record_writes o t (p + 1) hs

abbrev pub first_place : ℕ → List ℕ → ℕ
first_place o hs = position_or_len (λ h. h == hold_word o 1) hs

-- o was biased to t, whose hold words these are: it becomes locked by t's record with depth 1; where t has none, it loses the bias, or
-- its owner where a new bias is allowed
abbrev pub revoke_biased : ℕ → ℕ → Bool → List ℕ → List Write
revoke_biased o t allowed hs =
    if hold_count o hs == 0 then write (Mark o) (mark_of (if allowed then Anonymous 0 0 else Neutral 0 0)) ∷ []
    else record_writes o t 0 hs ++ write (Mark o) (mark_of (Locked t (first_place o hs))) ∷ []

abbrev pub revoke_form : Option MarkForm → ℕ → Bool → Rule
revoke_form (Some (Anonymous epoch age)) o allowed f =
    if allowed then [] else write (Mark o) (mark_of (Neutral 0 0)) ∷ []
revoke_form (Some (Biased thread epoch age)) o allowed f = revoke_biased o thread allowed (holds_in f thread)
revoke_form _ o allowed f = []

-- the revocation of o's bias, where a new bias is allowed or not
abbrev pub revoke : ℕ → Bool → Rule
revoke o allowed f = revoke_form (read_mark (f (Mark o))) o allowed f

-- the next epoch of a class's prototype
abbrev pub raised_form : Option ℕ → ℕ → List Write
raised_form None c = []
raised_form (Some epoch) c = write (Prototype c) (mark_of (Anonymous ((epoch + 1) % 4) 0)) ∷ []

abbrev pub raise_epoch : ℕ → Rule
raise_epoch c f = raised_form (epoch_in (f (Prototype c))) c

-- the mark with another epoch
abbrev pub with_epoch : Option MarkForm → Option ℕ → Option ℕ
with_epoch (Some (Anonymous e age)) (Some epoch) = Some (mark_of (Anonymous epoch age))
with_epoch (Some (Biased thread e age)) (Some epoch) = Some (mark_of (Biased thread epoch age))
with_epoch _ _ = None

abbrev pub store_where : WordId → Option ℕ → List Write
store_where at None = []
store_where at (Some word) = write at word ∷ []

-- a biased object of class c gets its class's epoch
abbrev pub renew : ℕ → ℕ → Rule
renew c o f = store_where (Mark o) (with_epoch (read_mark (f (Mark o))) (epoch_in (f (Prototype c))))

abbrev pub object_held : Option HoldForm → Option ℕ
object_held (Some (Holds object depth)) = Some object
object_held _ = None

-- the rule for the object that a hold word names, if it is biased and its class, which `class` gives for each object, is c
abbrev pub on_held : (ℕ → ℕ) → ℕ → (ℕ → Rule) → Option ℕ → Rule
on_held class c r None f = []
on_held class c r (Some o) f = if (class o == c) && is_biased (f (Mark o)) then r o f else []

-- the rule for the object of each record, by rising thread and place
unfoldable pub on_records : Shape → (ℕ → ℕ) → ℕ → (ℕ → Rule) → Rule
on_records s class c r =
    each_below s.threads
    (λ t. each_below most_holds (λ p f. on_held class c r (object_held (read_hold (f (Hold t p)))) f))

-- o becomes biased to thread t, where its mark and its class's prototype have the bias pattern
abbrev pub biased_word : Bool → Option ℕ → ℕ → Option ℕ
biased_word true (Some epoch) t = Some (mark_of (Biased t epoch 0))
biased_word _ _ t = None

abbrev pub take_bias : ℕ → ℕ → ℕ → Rule
take_bias c o t f = store_where (Mark o) (biased_word (is_biased (f (Mark o))) (epoch_in (f (Prototype c))) t)

-- what a verdict on the class c of its object asks for at the safepoint of thread t; a new bias is allowed in an enter alone
abbrev pub verdict_rules : Shape → (ℕ → ℕ) → ℕ → ℕ → Revocation → Verdict → List Rule
verdict_rules s class t c b Single = revoke b.object false ∷ []
verdict_rules s class t c b BulkRebias =
    store_one (LastBulk c) b.now ∷ raise_epoch c ∷ on_records s class c (renew c) ∷ revoke b.object b.rebias
    ∷ (if b.rebias then take_bias c b.object t ∷ [] else [])
verdict_rules s class t c b BulkRevoke =
    store_one (LastBulk c) b.now ∷ store_one (Prototype c) (mark_of (Neutral 0 0))
    ∷ on_records s class c (λ o. revoke o false) ∷ revoke b.object false ∷ []

abbrev pub revocation_rules : Shape → (ℕ → ℕ) → ℕ → ℕ → Revocation → Verdict × ℕ → List Rule
revocation_rules s class t c b d = store_one (Revocations c) d.1 ∷ verdict_rules s class t c b d.0

-- all stores of a revocation by thread t, the new count first, where each object has the class that it has by the words before them
unfoldable pub revocation_writes : Shape → ℕ → Revocation → Rule
revocation_writes s t b f =
    let class = class_by s f in
    let c = class b.object in in_turn
    (revocation_rules s class t c b (decided (f (Revocations c)) (f (LastBulk c)) b.now)) f
