-- The law of biases after the steps that log an entry, kind by kind.
use Rattle.std.proofs.Common.{◌≡◌, ◌≢◌, ℕ, ◌+◌, ◌<◌, ◌^◌, ◌==◌, max, eq-eqb, eqb-true, Bool, true, false, cond, List}
use Rattle.std.proofs.Common.{[], ◌∷◌, ◌++◌, length, slice_set, Some, None, refl, sym, ap, ◌∙◌, arith, inl, inr}
use Rattle.mark_word.specs.declared.mark.MarkForm.TheVariants.{Neutral, Locked}
use Rattle.mark_word.specs.Mark.{mark_of, read_mark}
use Rattle.plain_monitor.specs.declared.entry.Entry.{Entry}
use Rattle.plain_monitor.specs.declared.entry.Entry.TheVariants as entry
use Rattle.plain_monitor.specs.declared.entry.Logged.{Logged}
use Rattle.plain_monitor.specs.declared.entry.Value.{Value}
use Rattle.plain_monitor.specs.History.{last_stamp}
use Rattle.plain_monitor.specs.Made.{creates}
use Rattle.plain_monitor.specs.Objects.{PlainObject}
use Rattle.plain_monitor.specs.ValueWords.{read_value}
use Rattle.core_world.specs.declared.act.Act.TheVariants as act
use Rattle.core_world.specs.declared.word_id.WordId.{WordId}
use Rattle.core_world.specs.declared.word_id.WordId.TheVariants.{Mark, Stamp, Slot, Displaced, Waiting, Length, Owner, Header}
use Rattle.core_world.specs.Words.Acts.{word_after}
use Rattle.core_world.specs.Words.Forms.{is_biased, is_biased_form, is_neutral, hash_in, waits_on}
use Rattle.core_world.specs.Trees.HashSteps.{NextDraw, find_hash_plan, draw_plan}
use Rattle.core_world.specs.Trees.LockSteps.{leave_plan, let_go_plan}
use Rattle.core_world.specs.Trees.MonitorSteps.{free_plan}
use Rattle.core_world.specs.Trees.Operations.{get_plan, put_plan}
use Rattle.core_world.specs.Trees.WaitSteps.{log_wait_plan, log_resume_plan, publish_plan, notify_plan, notify_all_plan}
use Rattle.core_world.specs.Threads.ThreadView.{ThreadView, last_seen, local_of}
use Rattle.core_world.specs.Locks.{OnRecord, inflations, lock, lock_form, displaced_words, marks, object_of, owner_at, prototype_of}
use Rattle.core_world.specs.Trees.Operations.{value_found}
use Rattle.core_world.specs.Trees.Plans.{CallContext, next_stamp}
use Rattle.core_world.specs.Words.Shape.{Shape}
use Rattle.core_world.specs.declared.plan.StepPlan.{StepPlan}
use Rattle.core_world.specs.Threads.Counts.{CountedVerdict}
use Rattle.core_world.specs.Threads.Stages.{path_into}
use Rattle.core_world.specs.Steps.{world_after, known_after, is_taking, stamp_by, counts_after, log_after}
use Rattle.core_world.specs.Valid.{Fits}
use Rattle.core_world.specs.World.{World}
use Rattle.core_locks.specs.HashLaws.{MayHash, MayFind, MayFindInRecord, MayFindInMonitor, IsItsNext, MayDrawInMark, MayDrawInMonitor}
use Rattle.core_locks.specs.JournalLaws.{MayGet, MayLogResume, MayPut, MayPublish, MayTell, MayWait}
use Rattle.core_locks.specs.Knowing.{Logs, GoesOn, WorksFor}
use Rattle.core_locks.specs.LockLaws.{MayLeave, MayLetGo}
use Rattle.core_locks.specs.MonitorLaws.{MayFree}
use Rattle.core_locks.specs.WakeLaws.{SawOldest, MayNotify, MayNotifyAll}
use Rattle.core_locks.proofs.enter_exit.ExitHolds.{exits_by_a_hold_word}
use Rattle.core_locks.proofs.enter_exit.ExitMarks.{exits_by_the_mark}
use Rattle.core_locks.proofs.monitor.Frees.{frees_owner}
use Rattle.core_locks.proofs.hash.HashFinds.{finds_in_mark, finds_in_record, finds_in_header}
use Rattle.core_locks.proofs.hash.HashHeader.{draws_header}
use Rattle.core_locks.proofs.hash.HashMark.{draws_mark}
use Rattle.core_locks.proofs.wait.Leaves.{leaves_to_wait}
use Rattle.core_locks.proofs.MarkMeanings.{locked_read, neutral_bare}
use Rattle.core_locks.proofs.telling.Publishes.{publish_law}
use Rattle.core_locks.proofs.enter_exit.RefutedOwning.{taken_by_owner}
use Rattle.core_locks.proofs.telling.TouchSlots.{get_law, put_law}
use Rattle.core_locks.proofs.wait.WakesCalls.{notify_logs, notify_all_logs}
use Rattle.core_locks.proofs.Logging.{IsLogging, may_log}
use Rattle.core_locks.proofs.wait.ResumeLogs as resume
use Rattle.core_locks.proofs.enter_exit.EnterFits as fits
use Rattle.core_locks.proofs.hash.HashDraws.{hash_small}
use Rattle.core_locks.proofs.Prelude.{state_after, first_draw}
use Rattle.core_world.specs.Threads.ThreadView.{draw_of}
use Rattle.plain_monitor.specs.Monitor.{PlainMonitor}
use Rattle.mark_word.proofs.ReadingMarks.{read_mark-mark_of}
use Rattle.core_law.specs.BiasLaw.{BiasLawHolds}
use Rattle.bias_law.specs.Steps.{LeavesBiases, HasNone, SawNone, LogsBeside, KeepsBiases}
use Rattle.bias_law.proofs.Beside.{beside_keeps, missed_keeps}
use Rattle.bias_law.proofs.Leaning.{exchange_leaves, inflated_unbiased}
use Rattle.bias_law.proofs.Logged.{entry_logged, unbiased_still, none_by_sight}
use Rattle.bias_law.proofs.TakenLogs.{taken_logged}

-- what an entry and a plan that logs it say by themselves: no Enter and no Resume, no object made, the thread's next stamp, nothing counted, and the
-- thread comes to no path
record LogsPlainly (w : World) (t : ℕ) (p : StepPlan) (e : Entry) : Type 0 where
  other : is_taking e ≡ false
  makes_none : creates e ≡ None
  log : log_after p.note (w.words p.at) (w.known t).log ≡ (w.known t).log ++ record { stamp = last_stamp (w.known t).log + 1; entry = e } ∷ []
  own : (counts : List CountedVerdict) → counts_after p.own counts ≡ counts
  left : (o : ℕ) → path_into p.stage o ≡ None

-- the law after such a step of a running thread that works for the entry and is on no path, where the entry ends no bias and the store none either
logs_plainly : (w : World) (P : List PlainObject) (t : ℕ) (p : StepPlan) (e : Entry) → LogsPlainly w t p e → (w.known t).running ≡ true
    → WorksFor (w.known t) e → ((o : ℕ) → path_into (w.known t).stage o ≡ None) → HasNone w e → LeavesBiases w p.at (word_after p.act (w.words p.at))
    → Logs w P t p e → Fits w P → BiasLawHolds w → BiasLawHolds (world_after p t w)
logs_plainly w P t p e a runs operation calm ended leaves l = taken_logged w P t p e (record {
  runs = runs;
  other = a.other;
  makes_none = a.makes_none;
  log = a.log;
  own = a.own;
  operation = operation;
  calm = calm;
  left = a.left;
  ended = ended;
  leaves = leaves;
  now = l.now;
  taken = l.taken;
})

-- SLOTS
pub gets : (e : CallContext) (o slot : ℕ) → KeepsBiases (λ w t. MayGet w.shape (w.known t) e o slot) (λ w t. get_plan e o slot)
gets e o slot w P t within may v law =
    let l = get_law e o slot w P t within may (inl v) in
    logs_plainly w P t (get_plan e o slot) (entry.Get o slot (value_found (read_value (w.words (Slot o slot)))))
    (record { other = refl; makes_none = refl; log = refl; own = λ c. refl; left = λ i. refl })
    may.touches.runs (inl may.touches.nothing) (λ i. ap (λ s. path_into s i) may.touches.calm) tt (inl refl) l v law

pub puts : (e : CallContext) (o slot : ℕ) (value : Value) → KeepsBiases (λ w t. MayPut w.shape (w.known t) o slot value) (λ w t. put_plan e o slot value)
puts e o slot value w P t within may v law =
    let l = put_law e o slot value w P t within may (inl v) in
    logs_plainly w P t (put_plan e o slot value) (entry.Put o slot value)
    (record { other = refl; makes_none = refl; log = refl; own = λ c. refl; left = λ i. refl })
    may.touches.runs (inl may.touches.nothing) (λ i. ap (λ s. path_into s i) may.touches.calm) tt (inl refl) l v law

-- EXITS
pub exits_by_hold : (e : CallContext) (o d p : ℕ) → KeepsBiases (λ w t. MayLeave w.shape (w.known t) o d p) (λ w t. leave_plan e t o p)
exits_by_hold e o d p w P t within may v law =
    let l = exits_by_a_hold_word e o d p w P t within may (inl v) in
    logs_plainly w P t (leave_plan e t o p) (entry.Exit o)
    (record { other = refl; makes_none = refl; log = refl; own = λ c. refl; left = λ i. refl })
    may.runs may.own_entry.operation (λ i. elim may.before [
      | inl b ↦ ap (λ s. path_into s i) b.0
      | inr c ↦ elim c [ inl b ↦ ap (λ s. path_into s i) b.0 | inr b ↦ ap (λ s. path_into s i) b.0 ]
    ]) tt (inl refl) l v law

pub exits_by_mark : (e : CallContext) (o header stamp p : ℕ)
    → KeepsBiases (λ w t. MayLetGo w.shape (w.known t) o header stamp p) (λ w t. let_go_plan e o (mark_of (Locked t p)) header p)
exits_by_mark e o header stamp p w P t within may v law = by_test (marks w o == mark_of (Locked t p)) refl
  where
    by_test : (b : Bool) → (marks w o == mark_of (Locked t p)) ≡ b → BiasLawHolds (world_after (let_go_plan e o (mark_of (Locked t p)) header p) t w)
    by_test false missed = missed_keeps w t (let_go_plan e o (mark_of (Locked t p)) header p) law missed
    by_test true hit =
        let was : marks w o ≡ mark_of (Locked t p) = eqb-true (marks w o) (mark_of (Locked t p)) hit in
        let l = exits_by_the_mark e o header stamp p w P t within (may, was) (inl v) in
        let read : read_mark (mark_of (Locked t p)) ≡ Some (Locked t p) =
        locked_read t p (let few = v.limits.threads in omega (arith, within, few)) may.place in
        let rests : lock w o ≡ OnRecord t p = ap (λ f. lock_form f (prototype_of w o) (λ m. w.words (Owner m)) (inflations w o)) (ap read_mark was ∙ read) in
        let stored : displaced_words w t p ≡ header = v.seen.stays t (Displaced t p) header
        (ap (λ u. last_seen (Displaced u p) (w.known t).seen) (sym (v.numbered t)) ∙ may.displaced) (inl (may.runs, inl refl)) in
        let neutral : is_neutral header ≡ true = ap is_neutral (sym stored) ∙ v.records.header o t p rests in
        logs_plainly w P t (let_go_plan e o (mark_of (Locked t p)) header p) (entry.Exit o)
        (record { other = refl; makes_none = refl; log = refl; own = λ c. refl; left = λ i. refl })
        may.runs may.own_entry.operation (λ i. ap (λ s. path_into s i) may.calm) tt
        (exchange_leaves w o (mark_of (Locked t p)) header (ap is_biased_form read) (neutral_bare header neutral).unbiased) l v law

pub exits_by_monitor : (e : CallContext) (o m p stamp : ℕ) → KeepsBiases (λ w t. MayFree w.shape (w.known t) o m stamp) (λ w t. free_plan e o m p)
exits_by_monitor e o m p stamp w P t within may v law =
    let l = frees_owner e o m p stamp w P t within may (inl v) in
    logs_plainly w P t (free_plan e o m p) (entry.Exit o)
    (record { other = refl; makes_none = refl; log = refl; own = λ c. refl; left = λ i. refl })
    may.runs may.own_entry.operation (λ i. ap (λ s. path_into s i) may.calm) tt (inl refl) l v law

-- WAITS AND NOTIFIES
pub waits : (e : CallContext) (o m stamp : ℕ)
    → KeepsBiases (λ w t. MayWait w.shape (w.known t) e o m stamp) (λ w t. log_wait_plan e t o (next_stamp (local_of (w.known t))))
waits e o m stamp w P t within may v law =
    let l = leaves_to_wait e o m stamp w P t within may (inl v) in
    let saw = may.inflated in
    logs_plainly w P t (log_wait_plan e t o (next_stamp (local_of (w.known t)))) (entry.Wait o)
    (record { other = refl; makes_none = refl; log = refl; own = λ c. refl; left = λ i. refl })
    may.runs (inr (sym may.goes_on ∙ may.waits)) (λ i. ap (λ s. path_into s i) may.calm)
    (unbiased_still w P t o v may.runs (saw.0, saw.1, inflated_unbiased saw.0 m saw.2)) (inl refl) l v law

-- an object on which somebody waits has no bias
waited_unbiased : (w : World) (P : List PlainObject) (t o u : ℕ) → Fits w P → (w.known t).running ≡ true
    → owner_at P o t ≡ true → SawOldest w.shape.threads (w.known t) o u → is_biased (marks w o) ≡ false
waited_unbiased w P t o u v runs owner saw =
    let still : w.words (Waiting u) ≡ saw.word = v.seen.stays t (Waiting u) saw.word saw.saw (inl (runs, inl (o, owner, saw.waits))) in
    let listed = v.waits.waiter u o (ap (λ n. waits_on n o) still ∙ saw.waits) in
    let inflated = v.waits.inflated o u (inl listed) in
    inflated_unbiased (marks w o) inflated.0 inflated.1

pub notifies : (e : CallContext) (o u : ℕ) → KeepsBiases (λ w t. MayNotify w.shape (w.known t) o u) (λ w t. notify_plan e o u)
notifies e o u w P t within may v law =
    let l = notify_logs e o u w P t within may (inl v) in
    logs_plainly w P t (notify_plan e o u) (entry.Notify o (Some u))
    (record { other = refl; makes_none = refl; log = refl; own = λ c. refl; left = λ i. refl })
    may.wakes.runs may.own_entry.operation (λ i. ap (λ s. path_into s i) may.calm)
    (waited_unbiased w P t o u v may.wakes.runs (taken_by_owner P l.now t o (entry.Notify o (Some u)) (eq-eqb o o refl) l.taken) may.wakes.oldest)
    (inl refl) l v law

pub notifies_all : (e : CallContext) (o u n : ℕ) → KeepsBiases (λ w t. MayNotifyAll w.shape (w.known t) o u n) (λ w t. notify_all_plan e o u (n + 1))
notifies_all e o u n w P t within may v law =
    let l = notify_all_logs e o u n w P t within may (inl v) in
    logs_plainly w P t (notify_all_plan e o u (n + 1)) (entry.NotifyAll o (n + 1))
    (record { other = refl; makes_none = refl; log = refl; own = λ c. refl; left = λ i. refl })
    may.wakes.runs may.own_entry.operation (λ i. elim may.wakes.told [ inl b ↦ ap (λ s. path_into s i) b.0 | inr b ↦ ap (λ s. path_into s i) b ])
    (waited_unbiased w P t o u v may.wakes.runs (taken_by_owner P l.now t o (entry.NotifyAll o (n + 1)) (eq-eqb o o refl) l.taken) may.wakes.oldest)
    (inl refl) l v law

-- PUBLISHING
told_other : (s : Shape) (k : ThreadView) (e : Entry) → MayTell s k e → is_taking e ≡ false
told_other s k (entry.Enter o p) h = absurd h
told_other s k (entry.Resume o) h = absurd h
told_other s k (entry.New o c) h = absurd h
told_other s k _ h = refl

told_makes_none : (s : Shape) (k : ThreadView) (e : Entry) → MayTell s k e → creates e ≡ None
told_makes_none s k (entry.New o c) h = absurd h
told_makes_none s k _ h = refl

pub publishes : (e : CallContext) (entry : Entry) → KeepsBiases (λ w t. MayPublish w.shape (w.known t) entry × SawNone (w.known t) entry)
    (λ w t. publish_plan e t entry (length (w.known t).log + 1))
publishes e entry w P t within may v law =
    let l = publish_law e entry w P t within may.0 (inl v) in
    let other = told_other w.shape (w.known t) entry may.0.tells in
    let n = w.words (Length t) in
    logs_plainly w P t (publish_plan e t entry (length (w.known t).log + 1)) entry
    (record {
      other = other;
      makes_none = told_makes_none w.shape (w.known t) entry may.0.tells;
      log = ap (λ (b : Bool). (w.known t).log ++ record {
        stamp = cond b (max n (last_stamp (w.known t).log) + 1) (last_stamp (w.known t).log + 1);
        entry = entry;
      } ∷ []) other;
      own = λ c. refl;
      left = λ i. refl;
    })
    may.0.runs may.0.own_entry.operation (λ i. ap (λ s. path_into s i) may.0.calm) (none_by_sight w P t entry v may.0.runs may.1) (inl refl) l v law

-- HASHES. A load of whatever word that logs the hash that it finds there, if any.
finds : (w : World) (P : List PlainObject) (t : ℕ) (e : CallContext) (at : WordId) (o : ℕ) → MayHash w.shape (w.known t) o → GoesOn (w.known t) e
    → (hash_in (w.words at) ≢ 0 → Logs w P t (find_hash_plan e at o) (entry.Hash o (hash_in (w.words at)) None)) → Fits w P → BiasLawHolds w
    → BiasLawHolds (world_after (find_hash_plan e at o) t w)
finds w P t e at o may goes_on it v law = by_test (hash_in (w.words at) == 0) refl
  where
    by_test : (b : Bool) → (hash_in (w.words at) == 0) ≡ b → BiasLawHolds (world_after (find_hash_plan e at o) t w)
    by_test true none = beside_keeps w t (find_hash_plan e at o) law
        (record {
          log = ap (λ b. cond b (w.known t).log ((w.known t).log ++ record {
            stamp = last_stamp (w.known t).log + 1;
            entry = entry.Hash o (hash_in (w.words at)) None;
          } ∷ [])) none;
          own = λ c. refl;
          goes_on = elim goes_on [ inl g ↦ inl (ap (λ b. cond b e.unfinished None) none ∙ g) | inr g ↦ inr g ];
          stands = λ i. ap (λ s. path_into s i) (sym may.calm);
          leaves = inr (inl refl);
        })
    by_test false some =
        let l = it (λ z. absurd (let q = eq-eqb (hash_in (w.words at)) 0 z in cc (q, some))) in
        logs_plainly w P t (find_hash_plan e at o) (entry.Hash o (hash_in (w.words at)) None)
        (record {
          other = refl;
          makes_none = refl;
          log = ap (λ b. cond b (w.known t).log ((w.known t).log ++ record {
            stamp = last_stamp (w.known t).log + 1;
            entry = entry.Hash o (hash_in (w.words at)) None;
          } ∷ [])) some;
          own = λ c. refl;
          left = λ i. refl;
        })
        may.runs (may.own_entry (hash_in (w.words at)) None).operation (λ i. ap (λ s. path_into s i) may.calm) tt (inr (inl refl)) l v law

pub finds_mark : (e : CallContext) (o : ℕ) → KeepsBiases (λ w t. MayFind w.shape (w.known t) e o) (λ w t. find_hash_plan e (Mark o) o)
finds_mark e o w P t within may v law = finds w P t e (Mark o) o may.hashes may.goes_on (λ h. finds_in_mark e o w P t within (may, h) (inl v)) v law

pub finds_record : (e : CallContext) (o p : ℕ) → KeepsBiases (λ w t. MayFindInRecord w.shape (w.known t) e o p) (λ w t. find_hash_plan e (Displaced t p) o)
finds_record e o p w P t within may v law =
    finds w P t e (Displaced t p) o may.finds.hashes may.finds.goes_on (λ h. finds_in_record e o p w P t within (may, h) (inl v)) v law

pub finds_header : (e : CallContext) (o m : ℕ) → KeepsBiases (λ w t. MayFindInMonitor w.shape (w.known t) e o m) (λ w t. find_hash_plan e (Header m) o)
finds_header e o m w P t within may v law =
    finds w P t e (Header m) o may.finds.hashes may.finds.goes_on (λ h. finds_in_header e o m w P t within (may, h) (inl v)) v law

-- An exchange for a draw, which logs it where it hits.
draws : (w : World) (P : List PlainObject) (t : ℕ) (e : CallContext) (draw : NextDraw) (at : WordId) (o header : ℕ)
    → MayHash w.shape (w.known t) o → (w.words at ≡ header → Logs w P t (draw_plan e draw at o header) (entry.Hash o draw.value (Some draw.number)))
    → LeavesBiases w at (word_after (act.CompareExchange header (mark_of (Neutral draw.value 0))) (w.words at))
    → Fits w P → BiasLawHolds w → BiasLawHolds (world_after (draw_plan e draw at o header) t w)
draws w P t e draw at o header may it leaves v law = by_test (w.words at == header) refl
  where
    by_test : (b : Bool) → (w.words at == header) ≡ b → BiasLawHolds (world_after (draw_plan e draw at o header) t w)
    by_test false missed = missed_keeps w t (draw_plan e draw at o header) law missed
    by_test true hit =
        let l = it (eqb-true (w.words at) header hit) in
        logs_plainly w P t (draw_plan e draw at o header) (entry.Hash o draw.value (Some draw.number))
        (record { other = refl; makes_none = refl; log = refl; own = λ c. refl; left = λ i. refl })
        may.runs (may.own_entry draw.value (Some draw.number)).operation (λ i. ap (λ s. path_into s i) may.calm) tt leaves l v law

pub draws_header_kind : (e : CallContext) (draw : NextDraw) (o m header : ℕ)
    → KeepsBiases (λ w t. MayDrawInMonitor w.start w.shape (w.known t) draw o m header) (λ w t. draw_plan e draw (Header m) o header)
draws_header_kind e draw o m header w P t within may v law =
    draws w P t e draw (Header m) o header may.draws.hashes (λ h. draws_header e draw o m header w P t within (may, h) (inl v)) (inl refl) v law

-- a draw is below 2 ^ 31
draw_small : (w : World) (P : List PlainObject) (t : ℕ) (draw : NextDraw) → IsItsNext w.start (w.known t) draw → Fits w P → draw.value < 2 ^ 31
draw_small w P t draw its v =
    let a = its.value ∙ ap (λ u. draw_of w.start u ((w.known t).draws + 1)) (v.numbered t) in
    let b = hash_small (state_after (first_draw w.start t) ((w.known t).draws + 1)).w in
    omega (arith, a, b)

pub draws_mark_kind : (e : CallContext) (draw : NextDraw) (o mark : ℕ)
    → KeepsBiases (λ w t. MayDrawInMark w.start w.shape (w.known t) draw o mark) (λ w t. draw_plan e draw (Mark o) o mark)
draws_mark_kind e draw o mark w P t within may v law =
    let small = draw_small w P t draw may.draws.next v in
    let new : is_biased (mark_of (Neutral draw.value 0)) ≡ false = ap is_biased_form (read_mark-mark_of (Neutral draw.value 0) (small, omega arith)) in
    let old : is_biased mark ≡ false = ap is_biased_form may.hashless.1 in
    draws w P t e draw (Mark o) o mark may.draws.hashes (λ h. draws_mark e draw o mark w P t within (may, h) (inl v))
    (exchange_leaves w o mark (mark_of (Neutral draw.value 0)) old new) v law

-- THE RESUME
module _ (w : World) (P : List PlainObject) (t o m : ℕ) (r : CallContext) (within : t < w.shape.threads)
    (may : MayLogResume w.shape (w.known t) o m) (v : Fits w P) (law : BiasLawHolds w) where
  abbrev l : ThreadView
  l = known_after w.shape w.start (log_resume_plan r o) (w.words (Stamp o)) (w.known t)

  abbrev n : PlainMonitor
  n = resume.after w P t o m within may v

  abbrev Q : List PlainObject
  Q = slice_set P o (record (object_of P o) { monitor = resume.after w P t o m within may v })

  abbrev y : Logged
  y = record { stamp = stamp_by (entry.Resume o) (w.words (Stamp o)) (last_stamp (w.known t).log); entry = entry.Resume o }

  logs_it : IsLogging w P Q t y l
  logs_it = fits.logs_it w P t o (entry.Resume o) r n (resume.is_taking w P t o m within may v) v

  none : (i : ℕ) → path_into (w.known t).stage i ≡ None
  none i = ap (λ s. path_into s i) may.stage

  resume_beside : LogsBeside w (Stamp o) (w.words (Stamp o)) t y l
  resume_beside = record {
    runs = may.runs;
    appends = may_log w P Q t y l v logs_it;
    grows = refl;
    counts = refl;
    makes_none = refl;
    operation = logs_it.own.operation;
    came = λ i path e. absurd (let a = none i in cc (a, e));
    enters = λ i path e. absurd (cc e);
    left = λ i. refl;
    ended = tt;
    leaves = inl refl;
  }

  resume_logged : BiasLawHolds (world_after (log_resume_plan r o) t w)
  resume_logged = entry_logged w P (Stamp o) (w.words (Stamp o)) t y l resume_beside v law

pub resumes : (e : CallContext) (o m : ℕ) → KeepsBiases (λ w t. MayLogResume w.shape (w.known t) o m) (λ w t. log_resume_plan e o)
resumes e o m w P t within may v law = resume_logged w P t o m e within may v law
