-- The law of biases after a step that logs an entry and leaves the biases.
use Rattle.std.proofs.Common.{◌≡◌, ℕ, ◌<◌, not, eq-eqb, eqb-true, Bool, true, false, List, Option, Some, None, refl, sym, ap, ◌∙◌, subst, arith, inl, inr}
use Rattle.plain_monitor.specs.declared.entry.Entry.{Entry}
use Rattle.plain_monitor.specs.declared.entry.Entry.TheVariants as entry
use Rattle.plain_monitor.specs.declared.entry.Logged.{Logged}
use Rattle.plain_monitor.specs.declared.entry.Path.{Path}
use Rattle.plain_monitor.specs.Objects.{PlainObject}
use Rattle.plain_monitor.specs.Order.{order}
use Rattle.plain_monitor.specs.History.{appended}
use Rattle.plain_history.specs.EnterPaths.{entries_on, ends_bias, is_by_bias, is_hash}
use Rattle.plain_history.specs.Tied.{bound_to, is_same_object}
use Rattle.plain_history.proofs.EntriesOn.{appended_on, appended_elsewhere}
use Rattle.core_world.specs.declared.word_id.WordId.{WordId}
use Rattle.core_world.specs.declared.word_id.WordId.TheVariants.{Revocations}
use Rattle.core_world.specs.declared.heap_call.Operation.{Operation}
use Rattle.core_world.specs.declared.heap_call.Operation.TheVariants as op
use Rattle.core_world.specs.declared.heap_call.Unfinished.{Unfinished}
use Rattle.core_world.specs.Threads.Counts.{ClassCounts, counts_of}
use Rattle.core_world.specs.Words.Forms.{is_biased}
use Rattle.core_world.specs.Threads.ThreadView.{ThreadView}
use Rattle.core_world.specs.Locks.{lock, marks}
use Rattle.core_world.specs.Clauses.Safepoints.{IsUnfinished}
use Rattle.core_world.specs.Words.Names.{class_by}
use Rattle.core_world.specs.Threads.Stages.{path_into}
use Rattle.core_world.specs.Valid.{Fits}
use Rattle.core_world.specs.World.{World, with_word_and_known, logs}
use Rattle.core_world.proofs.Frames.{same}
use Rattle.core_world.proofs.KnowledgeParts.{with_known_here, with_known_else, part_moves, logs_grow, logs_length}
use Rattle.core_locks.specs.Knowing.{operation_of}
use Rattle.core_law.specs.BiasLaw.{BiasLaw, BiasLawHolds, is_logged}
use Rattle.bias_law.specs.Moves.{OthersStay, LogsEntry}
use Rattle.bias_law.specs.Steps.{HasNone, LogsBeside, SawNone, SawUnbiased}
use Rattle.bias_law.proofs.Leaning.{leans_by_mark, left_biases, left_counts, left_classes, by_class_words}
use Rattle.bias_law.proofs.made.News.{no_news}
use Rattle.bias_law.proofs.Whole.{entry_law}

-- where two are one object, the first is it
same_is : (b : Option ℕ) (i : ℕ) → is_same_object b (Some i) ≡ true → b ≡ Some i
same_is None i e = absurd (cc e)
same_is (Some o) i e = ap Some (eqb-true o i e)

-- the operation of an entry is a hash of i only if the entry is
abbrev pub op_of : Option Unfinished → Option Operation
op_of None = None
op_of (Some u) = Some u.op

abbrev hash_of : Option Unfinished → ℕ
hash_of None = 0
hash_of (Some u) = u.object

is_its_hash : (e : Entry) (i : ℕ) → operation_of e ≡ Some (record { op = op.Hash; object = i }) → is_hash i e ≡ true
is_its_hash (entry.Get o s u) i h = absurd (cc h)
is_its_hash (entry.Put o s u) i h = absurd (cc h)
is_its_hash (entry.Hash o u d) i h = let same = ap hash_of h in eq-eqb o i same
is_its_hash (entry.Print u) i h = absurd (cc h)
is_its_hash (entry.Trap f j) i h = absurd (cc h)
is_its_hash entry.Spent i h = absurd (cc h)
is_its_hash entry.Done i h = absurd (cc h)
is_its_hash _ i h = absurd (cc (ap op_of h))

not_by : (b : Bool) → not b ≡ true → b ≡ false
not_by true e = absurd (cc e)
not_by false e = refl

-- a mark that the thread saw without the bias pattern has none
pub unbiased_still : (w : World) (P : List PlainObject) (t o : ℕ) → Fits w P
    → (w.known t).running ≡ true → SawUnbiased (w.known t) o → is_biased (marks w o) ≡ false
unbiased_still w P t o v runs saw = v.seen.unbiased t o saw.0 saw.1 (inl runs) saw.2

-- so an entry that ends a bias comes where there is none
pub none_by_sight : (w : World) (P : List PlainObject) (t : ℕ) (e : Entry) → Fits w P → (w.known t).running ≡ true → SawNone (w.known t) e → HasNone w e
none_by_sight w P t (entry.Wait o) v runs saw = unbiased_still w P t o v runs saw
none_by_sight w P t (entry.Notify o u) v runs saw = unbiased_still w P t o v runs saw
none_by_sight w P t (entry.NotifyAll o u) v runs saw = unbiased_still w P t o v runs saw
none_by_sight w P t _ v runs saw = tt

module _ (w : World) (P : List PlainObject) (at : WordId) (n t : ℕ) (y : Logged)
    (l : ThreadView) (a : LogsBeside w at n t y l) (v : Fits w P) (law : BiasLawHolds w) where
  abbrev x : World
  x = with_word_and_known at n t l w

  within : t < w.shape.threads
  within = let h = a.appends.thread in omega (arith, h, logs_length 0 w.shape.threads w.known)

  logs_now : logs x ≡ appended (logs w) t y
  logs_now = logs_grow w.shape.threads t y l w.known within a.grows

  others : OthersStay t (λ u. (w.known u).log) (λ u. (w.known u).stage) (λ u. (w.known u).unfinished)
      (λ u. (x.known u).log) (λ u. (x.known u).stage) (λ u. (x.known u).unfinished)
  others = record {
    logs = λ u d. ap (λ (k : ThreadView). k.log) (with_known_else t l w.known u d);
    stages = λ u d. ap (λ (k : ThreadView). k.stage) (with_known_else t l w.known u d);
    operations = λ u d. ap (λ (k : ThreadView). k.unfinished) (with_known_else t l w.known u d);
  }

  -- a hash that was open is what it logs
  hashes : (i : ℕ) → IsUnfinished (w.known t).unfinished op.Hash i → is_hash i y.entry ≡ true
  hashes i h = elim a.operation [ inl none ↦ absurd (cc (none, h)) | inr is ↦ is_its_hash y.entry i (sym is ∙ h) ]

  -- where the entry ends a bias, there is none
  ends : (e : Entry) → HasNone w e → ((o : ℕ) (path : Path) → e ≡ entry.Enter o path → path_into (w.known t).stage o ≡ Some path)
      → (i : ℕ) → is_same_object (bound_to e) (Some i) ≡ true → ends_bias e ≡ true → is_biased (marks w i) ≡ false
  ends (entry.Enter o p) saw enters i same over = let is = eqb-true o i same in
      subst (λ j. is_biased (marks w j) ≡ false) is (law.marks.unbiased t o p (enters o p refl) (not_by (is_by_bias p) over))
  ends (entry.Wait o) saw enters i same over = subst (λ j. is_biased (marks w j) ≡ false) (eqb-true o i same) saw
  ends (entry.Notify o u) saw enters i same over = subst (λ j. is_biased (marks w j) ≡ false) (eqb-true o i same) saw
  ends (entry.NotifyAll o u) saw enters i same over = subst (λ j. is_biased (marks w j) ≡ false) (eqb-true o i same) saw
  ends _ saw enters i same over = absurd (cc over)

  entry_is : LogsEntry t y (marks w) (λ i. entries_on i (order (logs w))) (λ u. (w.known u).log) (λ u. (w.known u).stage) (λ u. (w.known u).unfinished)
      (λ i. entries_on i (order (logs x))) (λ u. (x.known u).log) (λ u. (x.known u).stage) (λ u. (x.known u).unfinished)
  entry_is = record {
    here = λ i e. ap (λ ls. entries_on i (order ls)) logs_now ∙ appended_on (logs w) t i y v.legal.rises a.appends (same_is (bound_to y.entry) i e);
    elsewhere = λ i e. ap (λ ls. entries_on i (order ls)) logs_now ∙ appended_elsewhere (logs w) t i y v.legal.rises a.appends e;
    grows = ap (λ (k : ThreadView). k.log) (with_known_here t l w.known) ∙ a.grows;
    left = λ i. ap (λ (k : ThreadView). path_into k.stage i) (with_known_here t l w.known) ∙ a.left i;
    came = a.came;
    enters = a.enters;
    hash = λ i h. inr (hashes i h);
    ends = ends y.entry a.ended a.enters;
  }

  pub entry_logged : BiasLawHolds x
  entry_logged =
      let none : w.biasing ≡ false → (i : ℕ) → is_biased (marks w i) ≡ false = v.classes.unbiased in
      by_class_words (λ class. BiasLaw w.biasing w.shape.threads w.shape.classes (is_logged w.shape (logs x)) class (marks x) (lock x)
      (λ i. entries_on i (order (logs x))) (λ u. (x.known u).log) (λ u. (x.known u).stage) (λ u. (x.known u).unfinished)
      (λ c. x.words (Revocations c)) (λ u. counts_of (x.known u).counts)) w.shape w.words x.words
      (λ i. sym (left_classes w at n t l a.leaves i))
      (subst (λ (f : ℕ → ℕ). BiasLaw w.biasing w.shape.threads w.shape.classes (is_logged w.shape (logs x))
      (class_by w.shape w.words) (marks x) (lock x) (λ i. entries_on i (order (logs x)))
      (λ u. (x.known u).log) (λ u. (x.known u).stage) (λ u. (x.known u).unfinished) f (λ u. counts_of (x.known u).counts))
      (same (λ c. sym (left_counts w at n t l a.leaves c)))
      (subst (λ (f : ℕ → ℕ → ClassCounts). BiasLaw w.biasing w.shape.threads w.shape.classes
      (is_logged w.shape (logs x)) (class_by w.shape w.words) (marks x) (lock x) (λ i. entries_on i (order (logs x)))
      (λ u. (x.known u).log) (λ u. (x.known u).stage) (λ u. (x.known u).unfinished) (λ c. w.words (Revocations c)) f)
      (part_moves (λ k. counts_of k.counts) t l w.known (ap counts_of (sym a.counts)))
      (subst (λ (f : ℕ → Bool). BiasLaw w.biasing w.shape.threads w.shape.classes f
      (class_by w.shape w.words) (marks x) (lock x) (λ i. entries_on i (order (logs x)))
      (λ u. (x.known u).log) (λ u. (x.known u).stage) (λ u. (x.known u).unfinished) (λ c. w.words (Revocations c)) (λ u. counts_of (w.known u).counts))
      (sym (ap (is_logged w.shape) logs_now ∙ same (λ i. no_news w.shape (logs w) t i y a.appends.thread a.makes_none)))
      (entry_law w.biasing w.shape.threads w.shape.classes (is_logged w.shape (logs w)) (class_by w.shape w.words)
      (marks w) (lock w) (λ i. entries_on i (order (logs w))) (λ u. (w.known u).log) (λ u. (w.known u).stage)
      (λ u. (w.known u).unfinished) (λ c. w.words (Revocations c)) (λ u. counts_of (w.known u).counts)
      (marks x) (lock x) (λ u. (x.known u).stage) (λ u. (x.known u).unfinished) t law y
      (λ i. entries_on i (order (logs x))) (λ u. (x.known u).log) none (leans_by_mark w) (left_biases w at n t l a.leaves) others entry_is))))
