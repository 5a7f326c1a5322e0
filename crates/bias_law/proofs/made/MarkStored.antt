-- The law of biases after the store of the first mark of an object that a thread makes, which logs its New.
use Rattle.std.proofs.Common.{◌≡◌, ◌≢◌, ℕ, ◌+◌, ◌*◌, ◌%◌, ◌-◌, ◌<◌, ◌≤◌, ◌==◌, eq-eqb, ne_eqb, cond, Bool, true}
use Rattle.std.proofs.Common.{false, List, length, Some, None, refl, sym, ap, ◌∙◌, subst, arith, inl, inr}
use Rattle.std.proofs.Math.Nat.{mod-lt}
use Rattle.mark_word.specs.declared.mark.MarkForm.TheVariants.{Anonymous}
use Rattle.mark_word.specs.Mark.{mark_of, read_mark}
use Rattle.mark_word.proofs.ReadingMarks.{read_mark-mark_of}
use Rattle.plain_monitor.specs.declared.entry.Entry.TheVariants.{New}
use Rattle.plain_monitor.specs.declared.entry.Logged.{Logged}
use Rattle.plain_monitor.specs.History.{appended, last_stamp}
use Rattle.plain_monitor.specs.Objects.{PlainObject}
use Rattle.plain_monitor.specs.Order.{order}
use Rattle.plain_history.specs.Appending.{MayAppend}
use Rattle.plain_history.specs.EnterPaths.{entries_on}
use Rattle.plain_history.proofs.Bounds.{unbound_may_append}
use Rattle.plain_history.proofs.EntriesOn.{appended_elsewhere}
use Rattle.core_world.specs.declared.word_id.WordId.TheVariants.{Mark, Class, Prototype, Revocations}
use Rattle.core_world.specs.declared.stage.Stage.TheVariants.{Settled}
use Rattle.core_world.specs.declared.heap_call.Operation.TheVariants as op
use Rattle.core_world.specs.declared.heap_call.Unfinished.{Unfinished}
use Rattle.core_world.specs.Words.Names.{class_by}
use Rattle.core_world.specs.Words.Shape.{class_in_shape}
use Rattle.core_world.specs.Threads.Counts.{ClassCounts, counts_of}
use Rattle.core_world.specs.Threads.ThreadView.{ThreadView}
use Rattle.core_world.specs.Threads.Stages.{path_into}
use Rattle.core_world.specs.Clauses.Classes.{bulk_rebiases, bulk_revokes}
use Rattle.core_world.specs.Clauses.Safepoints.{IsUnfinished}
use Rattle.core_world.specs.Locks.{lock, marks}
use Rattle.core_world.specs.Steps.{known_hit, world_after}
use Rattle.core_world.specs.Trees.CreateSteps.{make_plan}
use Rattle.core_world.specs.Trees.Plans.{CallContext}
use Rattle.core_world.specs.Valid.{Fits}
use Rattle.core_world.specs.World.{World, with_word_and_known, logs}
use Rattle.core_world.proofs.KnowledgeParts.{each_with_known, log_at, logs_grow, logs_length, part_moves, with_known_else, with_known_here}
use Rattle.core_world.proofs.Readings.{mark_one}
use Rattle.core_locks.specs.Knowing.{WorksFor}
use Rattle.core_law.specs.BiasLaw.{BiasLaw, BiasLawHolds, is_logged, summed}
use Rattle.core_law.specs.BiasOwners.{bias_owner, owner_form}
use Rattle.core_law.specs.CountsAndVerdicts.{sum_below, verdicts_on}
use Rattle.core_law.specs.MarksAndLogs.{is_anonymous, is_anonymous_form}
use Rattle.bias_law.specs.Making.{IsUntouched, OthersAreEven}
use Rattle.bias_law.specs.Moves.{LogsEntry, OthersStay}
use Rattle.bias_law.proofs.Beside.{hit_keeps}
use Rattle.bias_law.proofs.bias.BiasDrops.{revokes_sum}
use Rattle.bias_law.proofs.Leaning.{leans_by_mark, still_leans}
use Rattle.bias_law.proofs.Logged.{op_of}
use Rattle.bias_law.proofs.made.NewObjects.{ChangesUnentered, unentered_changes, verdicts_stay}
use Rattle.bias_law.proofs.made.News.{other_news, undeclared}
use Rattle.bias_law.proofs.Whole.{entry_law}
use Rattle.bias_law.proofs.made.Untouched.{unentering_then}

-- A PROTOTYPE is biased to nobody, and anonymous where its class wasn't revoked in bulk.
epoch_word : (n : ℕ) → n < 4 → read_mark (n * 256 + 5) ≡ Some (Anonymous n 0)
epoch_word n h = let word : n * 256 + 5 ≡ mark_of (Anonymous n 0) = omega arith in ap read_mark word ∙ read_mark-mark_of (Anonymous n 0) (h, omega arith)

unowned_prototype : (w : World) (P : List PlainObject) (c : ℕ) → Fits w P → bias_owner (w.words (Prototype c)) ≡ None
unowned_prototype w P c v = by_biasing w.biasing refl
  where
    raised : ℕ
    raised = bulk_rebiases w.shape.threads (λ t. (w.known t).counts) c

    by_revoked : (b : Bool) → w.words (Prototype c) ≡ cond b (raised % 4 * 256 + 5) 1 → bias_owner (w.words (Prototype c)) ≡ None
    by_revoked true e = ap bias_owner e ∙ ap owner_form (epoch_word (raised % 4) (mod-lt raised (omega arith)))
    by_revoked false e = ap bias_owner e ∙ ap owner_form mark_one

    by_biasing : (b : Bool) → w.biasing ≡ b → bias_owner (w.words (Prototype c)) ≡ None
    by_biasing false off = ap bias_owner (v.classes.plain off c).0 ∙ ap owner_form mark_one
    by_biasing true on = by_revoked (bulk_revokes w.shape.threads (λ t. (w.known t).counts) c == 0) (v.classes.prototypes on c)

anonymous_prototype : (w : World) (P : List PlainObject) (c : ℕ) → Fits w P → w.biasing ≡ true
    → sum_below w.shape.threads (λ s. (counts_of (w.known s).counts c).revoke) ≡ 0 → is_anonymous (w.words (Prototype c)) ≡ true
anonymous_prototype w P c v on none =
    let r : ℕ = bulk_rebiases w.shape.threads (λ t. (w.known t).counts) c in
    let zeroed : bulk_revokes w.shape.threads (λ t. (w.known t).counts) c ≡ 0 = revokes_sum w.shape.threads (λ t. (w.known t).counts) c ∙ none in
    let is : w.words (Prototype c) ≡ r % 4 * 256 + 5 = v.classes.prototypes on c ∙ ap (λ n. cond (n == 0) (r % 4 * 256 + 5) 1) zeroed in
    ap is_anonymous is ∙ ap is_anonymous_form (epoch_word (r % 4) (mod-lt r (omega arith)))

-- THE STORE
module _ (e : CallContext) (o c m : ℕ) (w : World) (P : List PlainObject) (t : ℕ) (within : t < w.shape.threads) (calm : (w.known t).stage ≡ Settled)
    (works : WorksFor (w.known t) (New o c)) (u : IsUntouched w o) (even : OthersAreEven w t o) (classed : w.words (Class o) ≡ c + 1)
    (prototype : w.words (Prototype c) ≡ m) (v : Fits w P) (law : BiasLawHolds w) where
  abbrev l : ThreadView
  l = known_hit w.shape w.start (make_plan e o c m) (w.words (Mark o)) (w.known t)

  abbrev y : Logged
  y = record { stamp = last_stamp (w.known t).log + 1; entry = New o c }

  abbrev x : World
  x = with_word_and_known (Mark o) m t l w

  many : t < length (logs w)
  many = omega (arith, within, logs_length 0 w.shape.threads w.known)

  appends : MayAppend (logs w) t y
  appends = unbound_may_append (logs w) t y many (omega (arith, ap last_stamp (log_at 0 w.shape.threads t t w.known (omega arith) within))) refl

  logs_now : logs x ≡ appended (logs w) t y
  logs_now = logs_grow w.shape.threads t y l w.known within refl

  others : OthersStay t (λ s. (w.known s).log) (λ s. (w.known s).stage) (λ s. (w.known s).unfinished)
      (λ s. (x.known s).log) (λ s. (x.known s).stage) (λ s. (x.known s).unfinished)
  others = record {
    logs = λ s d. ap (λ (k : ThreadView). k.log) (with_known_else t l w.known s d);
    stages = λ s d. ap (λ (k : ThreadView). k.stage) (with_known_else t l w.known s d);
    operations = λ s d. ap (λ (k : ThreadView). k.unfinished) (with_known_else t l w.known s d);
  }

  no_hash : (i : ℕ) → IsUnfinished (w.known t).unfinished op.Hash i → ⊥
  no_hash i h = elim works [ inl none ↦ cc (none, h) | inr is ↦ cc (ap op_of (sym is ∙ h)) ]

  entries_now : (i : ℕ) → entries_on i (order (logs x)) ≡ entries_on i (order (logs w))
  entries_now i = ap (λ ls. entries_on i (order ls)) logs_now ∙ appended_elsewhere (logs w) t i y v.legal.rises appends refl

  entry_is : LogsEntry t y (marks w) (λ i. entries_on i (order (logs w))) (λ s. (w.known s).log) (λ s. (w.known s).stage) (λ s. (w.known s).unfinished)
      (λ i. entries_on i (order (logs x))) (λ s. (x.known s).log) (λ s. (x.known s).stage) (λ s. (x.known s).unfinished)
  entry_is = record {
    here = λ i h. absurd (cc h);
    elsewhere = λ i h. entries_now i;
    grows = ap (λ (k : ThreadView). k.log) (with_known_here t l w.known);
    left = λ i. ap (λ (k : ThreadView). path_into k.stage i) (with_known_here t l w.known);
    came = λ i path h. absurd (let none = ap (λ s. path_into s i) calm in cc (none, h));
    enters = λ i path h. absurd (cc h);
    hash = λ i h. absurd (no_hash i h);
    ends = λ i h g. absurd (cc h);
  }

  -- the New alone: the marks are as they were, and so are the objects that are there
  logged : BiasLaw w.biasing w.shape.threads w.shape.classes (is_logged w.shape (logs w)) (class_by w.shape w.words) (marks w) (lock w)
      (λ i. entries_on i (order (logs x))) (λ s. (x.known s).log) (λ s. (x.known s).stage) (λ s. (x.known s).unfinished)
      (λ k. w.words (Revocations k)) (λ s. counts_of (w.known s).counts)
  logged = entry_law w.biasing w.shape.threads w.shape.classes (is_logged w.shape (logs w)) (class_by w.shape w.words) (marks w) (lock w)
      (λ i. entries_on i (order (logs w))) (λ s. (w.known s).log) (λ s. (w.known s).stage) (λ s. (w.known s).unfinished)
      (λ k. w.words (Revocations k)) (λ s. counts_of (w.known s).counts) (marks w) (lock w) (λ s. (x.known s).stage) (λ s. (x.known s).unfinished) t law
      y (λ i. entries_on i (order (logs x))) (λ s. (x.known s).log) v.classes.unbiased (leans_by_mark w)
      (record { pattern = λ i. refl; nobody = λ i. refl; owners = λ i. refl; leans = λ i s h. h }) others entry_is

  mark_else : (i : ℕ) → i ≢ o → marks x i ≡ marks w i
  mark_else i d = ap (λ (b : Bool). cond b m (marks w i)) (ne_eqb i o d)

  mark_here : marks x o ≡ w.words (Prototype c)
  mark_here = ap (λ (b : Bool). cond b m (marks w o)) (eq-eqb o o refl) ∙ sym prototype

  class_here : class_by w.shape x.words o ≡ c
  class_here =
      ap (λ (b : Bool). cond b (class_in_shape w.shape o) (w.words (Class o) - 1)) (undeclared w.shape (logs w) o u.unlogged)
      ∙ omega (arith, classed)

  only_mark : ChangesUnentered w.biasing o (is_logged w.shape (logs w)) (class_by w.shape w.words) (marks w) (lock w)
      (λ i. entries_on i (order (logs x))) (λ s. (x.known s).stage) (λ k. (summed w.shape.threads (λ s. counts_of (w.known s).counts) k).revoke)
      (is_logged w.shape (logs x)) (class_by w.shape x.words) (marks x) (lock x)
  only_mark = record {
    objects = λ i d. ap (λ ls. is_logged w.shape ls i) logs_now ∙ other_news w.shape (logs w) t o c i (last_stamp (w.known t).log + 1) many d;
    classes = λ i d. refl;
    marks = mark_else;
    leans = λ i s d h. still_leans w x i (mark_else i d) refl s h;
    unentered = entries_now o ∙ u.unentered;
    unentering = unentering_then w P o u v law t l refl;
    unowned = ap bias_owner mark_here ∙ unowned_prototype w P c v;
    anonymous = λ b there r.
        ap is_anonymous mark_here
        ∙ anonymous_prototype w P c v b (sym (ap (λ k. sum_below w.shape.threads (λ s. (counts_of (w.known s).counts k).revoke)) class_here) ∙ r);
  }

  abbrev verdicts_of : ℕ → ℕ
  verdicts_of s = sum_below w.shape.classes (λ k. verdicts_on (counts_of (w.known s).counts k))

  -- a thread whose operation is on the object has counted no verdict beyond its entries; t has none any more
  even_now : (s : ℕ) (f : Unfinished) → (x.known s).unfinished ≡ Some f → f.object ≡ o → verdicts_of s ≤ length (x.known s).log
  even_now s =
      each_with_known (λ s k. (f : Unfinished) → k.unfinished ≡ Some f → f.object ≡ o → verdicts_of s ≤ length k.log) t l w.known s
      (λ f h is. absurd (cc h)) (λ d f h is. even s f d h is)

  pub mark_stored : BiasLawHolds (world_after (make_plan e o c m) t w)
  mark_stored = hit_keeps w t (make_plan e o c m) law (λ h.
      subst (λ (f : ℕ → ℕ → ClassCounts). BiasLaw w.biasing w.shape.threads w.shape.classes (is_logged w.shape (logs x)) (class_by w.shape x.words)
      (marks x) (lock x) (λ i. entries_on i (order (logs x))) (λ s. (x.known s).log) (λ s. (x.known s).stage) (λ s. (x.known s).unfinished)
      (λ k. x.words (Revocations k)) f)
      (part_moves (λ k. counts_of k.counts) t l w.known refl)
      (unentered_changes w.biasing w.shape.threads w.shape.classes o (is_logged w.shape (logs w)) (class_by w.shape w.words) (marks w) (lock w)
      (λ i. entries_on i (order (logs x))) (λ s. (x.known s).log) (λ s. (x.known s).stage) (λ s. (x.known s).unfinished)
      (λ k. w.words (Revocations k)) (λ s. counts_of (w.known s).counts) (is_logged w.shape (logs x)) (class_by w.shape x.words) (marks x) (lock x) only_mark
      (λ s. verdicts_stay o (marks w) (marks x) (verdicts_of s) (x.known s).log (x.known s).stage (x.known s).unfinished mark_else (even_now s)) logged))
