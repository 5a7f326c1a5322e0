-- The law of biases after the steps that log nothing, kind by kind.
use Rattle.std.proofs.Common.{ℕ, ◌+◌, ◌-◌, ◌%◌, ◌^◌, ◌<◌, ◌≡◌, true, false, List, length, Some, refl, sym, ap, ◌∙◌, arith, inl, inr}
use Rattle.mark_word.specs.declared.mark.MarkForm.TheVariants.{Locked, Inflated}
use Rattle.mark_word.specs.declared.owner.OwnerForm.TheVariants.{Free, ByThread}
use Rattle.mark_word.specs.declared.wait.WaitForm.TheVariants.{Ready, Entering, Ended, Notified}
use Rattle.mark_word.specs.Mark.{mark_of, read_mark}
use Rattle.mark_word.specs.Owner.{owner_of}
use Rattle.mark_word.specs.Safe.{read_safe}
use Rattle.mark_word.specs.Wait.{wait_of}
use Rattle.plain_monitor.specs.Limits.{most_holds}
use Rattle.plain_monitor.specs.Objects.{PlainObject}
use Rattle.core_world.specs.declared.act.Act.{Act}
use Rattle.core_world.specs.declared.act.Act.TheVariants as act
use Rattle.core_world.specs.declared.word_id.WordId.{WordId}
use Rattle.core_world.specs.declared.word_id.WordId.TheVariants.{Safepoint, Mark, Stamp, Hold, Displaced, Waiting, Length}
use Rattle.core_world.specs.declared.word_id.WordId.TheVariants.{Owner, Recursions, Header, Object, Claim, End, Ring}
use Rattle.core_world.specs.declared.plan.LocalEffect.{LocalEffect}
use Rattle.core_world.specs.declared.plan.LocalEffect.TheVariants as own
use Rattle.core_world.specs.declared.plan.StepPlan.{StepPlan}
use Rattle.core_world.specs.declared.stage.Stage.{Stage}
use Rattle.core_world.specs.declared.stage.Stage.TheVariants.{BiasAcquired, Settled, RecordLocked, MonitorAcquired, Resumes, Waits}
use Rattle.core_world.specs.declared.stage.Stage.TheVariants.{OwnerConverted, RecursionsRaised, RecursionsLowered, Inflates, Notifies}
use Rattle.core_world.specs.Words.Acts.{word_after}
use Rattle.core_world.specs.Threads.Counts.{CountedVerdict}
use Rattle.core_world.specs.Words.Forms.{is_biased, is_biased_form}
use Rattle.core_world.specs.Threads.ThreadView.{ThreadView, local_of}
use Rattle.core_world.specs.Locks.{marks}
use Rattle.core_world.specs.Looking.{IsLook}
use Rattle.core_world.specs.Trees.Plans.{CallContext, quiet_plan, with_own, with_stage, next_stamp}
use Rattle.core_world.specs.Trees.LockSteps.{displace_plan, seize_plan, clear_plan, raise_stamp_plan, store_ready_plan}
use Rattle.core_world.specs.Trees.LookSteps.{keep_shot_plan}
use Rattle.core_world.specs.Trees.MonitorSteps.{claim_plan, fetch_plan, prepare_plan, inflate_plan, name_plan, name_neutral_plan, grab_plan}
use Rattle.core_world.specs.Trees.MonitorSteps.{take_over_plan, raise_count_plan, lower_count_plan, reset_count_plan, store_entering_plan}
use Rattle.core_world.specs.Trees.Operations.{store_ended_plan}
use Rattle.core_world.specs.Trees.DeflateSteps.{detach_plan, clean_plan, enqueue_plan, advance_plan}
use Rattle.core_world.specs.Words.Shape.{ring_places}
use Rattle.core_world.specs.Words.Forms.{monitor_in, is_neutral}
use Rattle.core_world.proofs.enter_exit.OwnersShown.{inflated_form}
use Rattle.core_locks.specs.DeflationLaws.{MayDetach, MayClean, MayEnqueue, MayAdvance}
use Rattle.core_world.specs.Trees.WaitSteps.{save_count_plan, drop_plan, quit_plan, regain_plan, restore_plan, wake_next_plan}
use Rattle.core_world.specs.Trees.SafepointSteps.{publish_log_plan, stop_plan, resume_plan, request_plan, release_plan, halt_plan}
use Rattle.core_world.specs.Trees.SafepointSteps.{all_but, running_too, requested_by, reached_word, released_word, halted_word}
use Rattle.core_world.specs.Threads.Stages.{inflation_in, path_into}
use Rattle.core_world.specs.Steps.{world_after, log_after, counts_after, unfinished_after}
use Rattle.core_world.specs.Valid.{Fits}
use Rattle.core_world.specs.World.{World}
use Rattle.core_world.proofs.Readings.{mark_zero}
use Rattle.core_locks.specs.JournalLaws.{MayPublishLog, MayRaise, MayBeReady, MayStand, MayEnd}
use Rattle.core_locks.specs.Knowing.{GoesOn}
use Rattle.core_locks.specs.LockLaws.{MayDisplace, MaySeize, MayClear}
use Rattle.core_locks.specs.MonitorLaws.{MayClaim, MayFetch, MayPrepare, MayPrepareOwner, MayPrepareObject, MayRaiseCount}
use Rattle.core_locks.specs.MonitorLaws.{MayLowerCount, MayResetCount, MayTakeOver, MayGrab, MayInflate, MayName}
use Rattle.core_locks.specs.MonitorLaws.{MayNameNeutral, MayDrop, MayQuit, MayRegain, MayRestore, MaySaveCount}
use Rattle.core_locks.specs.SafepointLaws.{MayReleaseTaking, MayStop, MayResume, MayRequest, MayRelease, MayHalt}
use Rattle.core_locks.specs.ShotLaws.{MayKeepShot}
use Rattle.core_locks.specs.WakeLaws.{MayWakeNext}
use Rattle.core_locks.proofs.MarkMeanings.{neutral_bare, locked_bare, locked_read}
use Rattle.core_locks.proofs.monitor.NamesLaws.{inflated_read}
use Rattle.core_locks.proofs.safepoint.SafeStops.{stopped_calm}
use Rattle.core_law.specs.BiasLaw.{BiasLawHolds}
use Rattle.bias_law.specs.Steps.{LeavesBiases, KeepsBiases}
use Rattle.bias_law.proofs.Beside.{beside_keeps}
use Rattle.bias_law.proofs.Leaning.{exchange_leaves}

-- a look, of whatever word
pub looks : (w : World) (t : ℕ) (p : StepPlan) → IsLook (w.known t) p → BiasLawHolds w → BiasLawHolds (world_after p t w)
looks w t p a law = beside_keeps w t p law
    (record {
      log = ap (λ m. log_after m (w.words p.at) (w.known t).log) a.note;
      own = λ counts. ap (λ m. counts_after m counts) a.own;
      goes_on = elim a.after [ inl g ↦ inl (ap (λ m. unfinished_after m (w.words p.at) p.after) a.note ∙ g) | inr g ↦ inr g ];
      stands = λ o. ap (λ s. path_into s o) a.stage;
      leaves = inr (inl (ap (λ m. word_after m (w.words p.at)) a.act));
    })

-- a quiet step of a call
quietly : (w : World) (t : ℕ) (e : CallContext) (at : WordId) (a : Act) (o : LocalEffect) (s : Stage)
    → ((counts : List CountedVerdict) → counts_after o counts ≡ counts) → GoesOn (w.known t) e
    → ((i : ℕ) → path_into s i ≡ path_into (w.known t).stage i) → LeavesBiases w at (word_after a (w.words at))
    → BiasLawHolds w → BiasLawHolds (world_after (with_own o (with_stage s (quiet_plan e at a))) t w)
quietly w t e at a o s own goes stands leaves law =
    beside_keeps w t (with_own o (with_stage s (quiet_plan e at a))) law (record { log = refl; own = own; goes_on = goes; stands = stands; leaves = leaves })

-- a stage at which the thread is about to log no Enter, from another such
from : (k : ThreadView) (s : Stage) → k.stage ≡ s → (i : ℕ) → path_into s i ≡ path_into k.stage i
from k s h i = ap (λ z. path_into z i) (sym h)

-- what a mark that names a record is
locked_none : (w : World) (P : List PlainObject) (t p : ℕ) → Fits w P → t < w.shape.threads → p < most_holds → is_biased (mark_of (Locked t p)) ≡ false
locked_none w P t p v within place = ap is_biased_form (locked_read t p (let few = v.limits.threads in omega (arith, within, few)) place)

inflated_none : (w : World) (P : List PlainObject) (t m : ℕ) → Fits w P → (w.known t).kept ≡ Some m → is_biased (mark_of (Inflated m)) ≡ false
inflated_none w P t m v kept = ap is_biased_form (inflated_read w P t m v kept)

-- LOCK RECORDS
pub displaces : (e : CallContext) (p d : ℕ) → KeepsBiases (λ w t. MayDisplace (w.known t) e p) (λ w t. displace_plan e (w.known t).stage t p d)
displaces e p d w P t within may v law =
    quietly w t e (Displaced t p) (act.Store d) own.Unchanged (w.known t).stage (λ c. refl) may.goes_on (λ i. refl) (inl refl) law

pub seizes : (e : CallContext) (o mark p : ℕ) → KeepsBiases (λ w t. MaySeize (w.known t) e o mark p) (λ w t. seize_plan e t o mark p)
seizes e o mark p w P t within may v law =
    quietly w t e (Mark o) (act.CompareExchange mark (mark_of (Locked t p))) own.Unchanged
    (RecordLocked o p) (λ c. refl) may.goes_on (from (w.known t) Settled may.calm)
    (exchange_leaves w o mark (mark_of (Locked t p)) (neutral_bare mark may.neutral).unbiased (locked_none w P t p v within may.free.place)) law

pub clears : (e : CallContext) (o p : ℕ) → KeepsBiases (λ w t. MayClear (w.known t) e o p) (λ w t. clear_plan e t p)
clears e o p w P t within may v law = quietly w t e (Hold t p) (act.Store 0) own.Unchanged Settled
    (λ c. refl) (inl may.goes_on) (λ i. ap (λ z. path_into z i) (sym may.stage)) (inl refl) law

-- MONITORS
pub claims : (e : CallContext) → KeepsBiases (λ w t. MayClaim (w.known t) e) (λ w t. claim_plan e)
claims e w P t within may v law =
    quietly w t e Claim act.FetchAdd own.Position Settled (λ c. refl) may.goes_on (from (w.known t) Settled may.calm) (inl refl) law

pub fetches : (e : CallContext) (p : ℕ) → KeepsBiases (λ w t. MayFetch (w.known t) e p) (λ w t. fetch_plan e w.shape p)
fetches e p w P t within may v law = quietly w t e (Ring (p % ring_places w.shape)) act.Load own.Claim Settled
    (λ c. refl) may.goes_on (from (w.known t) Settled may.calm) (inl refl) law

-- GIVING A MONITOR BACK
pub detaches : (e : CallContext) (o m header : ℕ)
    → KeepsBiases (λ w t. MayDetach w.shape (w.known t) e o m header) (λ w t. detach_plan e (w.known t).stage o m header)
detaches e o m header w P t within may v law =
    let saw = may.inflated in
    let named : monitor_in (marks w o) ≡ Some m = ap monitor_in (v.seen.stands t (Mark o) saw.0 may.stands.reached saw.1) ∙ saw.2 in
    let neutral : is_neutral header ≡ true =
    ap is_neutral (sym (v.seen.stands t (Header m) header may.stands.reached may.its_header)) ∙ v.monitors.neutral o m named in
    quietly w t e (Mark o) (act.Store header) (own.Detach m) (w.known t).stage (λ c. refl) may.stands.goes_on (λ i. refl)
    (inr (inr (o, refl, ap is_biased_form (inflated_form (read_mark (marks w o)) m named), (neutral_bare header neutral).unbiased))) law

pub cleans_owner : (e : CallContext) (m : ℕ) → KeepsBiases (λ w t. MayClean (w.known t) e m) (λ w t. clean_plan e (w.known t).stage (Owner m))
cleans_owner e m w P t within may v law =
    quietly w t e (Owner m) (act.Store 0) own.Unchanged (w.known t).stage (λ c. refl) may.stands.goes_on (λ i. refl) (inl refl) law

pub cleans_recursions : (e : CallContext) (m : ℕ) → KeepsBiases (λ w t. MayClean (w.known t) e m) (λ w t. clean_plan e (w.known t).stage (Recursions m))
cleans_recursions e m w P t within may v law =
    quietly w t e (Recursions m) (act.Store 0) own.Unchanged (w.known t).stage (λ c. refl) may.stands.goes_on (λ i. refl) (inl refl) law

pub cleans_header : (e : CallContext) (m : ℕ) → KeepsBiases (λ w t. MayClean (w.known t) e m) (λ w t. clean_plan e (w.known t).stage (Header m))
cleans_header e m w P t within may v law =
    quietly w t e (Header m) (act.Store 0) own.Unchanged (w.known t).stage (λ c. refl) may.stands.goes_on (λ i. refl) (inl refl) law

pub cleans_object : (e : CallContext) (m : ℕ) → KeepsBiases (λ w t. MayClean (w.known t) e m) (λ w t. clean_plan e (w.known t).stage (Object m))
cleans_object e m w P t within may v law =
    quietly w t e (Object m) (act.Store 0) own.Unchanged (w.known t).stage (λ c. refl) may.stands.goes_on (λ i. refl) (inl refl) law

pub enqueues : (e : CallContext) (m end : ℕ) → KeepsBiases (λ w t. MayEnqueue (w.known t) e m end) (λ w t. enqueue_plan e (w.known t).stage w.shape end m)
enqueues e m end w P t within may v law = quietly w t e (Ring (end % ring_places w.shape))
    (act.Store m) own.Unchanged (w.known t).stage (λ c. refl) may.stands.goes_on (λ i. refl) (inl refl) law

pub advances : (e : CallContext) (m end : ℕ) → KeepsBiases (λ w t. MayAdvance w.shape (w.known t) e m end) (λ w t. advance_plan e (w.known t).stage end)
advances e m end w P t within may v law =
    quietly w t e End (act.Store ((end + 1) % 2 ^ 64)) own.Enqueue (w.known t).stage (λ c. refl) may.stands.goes_on (λ i. refl) (inl refl) law

pub prepares_owner : (e : CallContext) (m word : ℕ)
    → KeepsBiases (λ w t. MayPrepareOwner w.shape (w.known t) e m word) (λ w t. prepare_plan e (w.known t).stage (Owner m) word)
prepares_owner e m word w P t within may v law =
    quietly w t e (Owner m) (act.Store word) own.Unchanged (w.known t).stage (λ c. refl) may.prepares.goes_on (λ i. refl) (inl refl) law

pub prepares_recursions : (e : CallContext) (m word : ℕ)
    → KeepsBiases (λ w t. MayPrepare (w.known t) e m) (λ w t. prepare_plan e (w.known t).stage (Recursions m) word)
prepares_recursions e m word w P t within may v law =
    quietly w t e (Recursions m) (act.Store word) own.Unchanged (w.known t).stage (λ c. refl) may.goes_on (λ i. refl) (inl refl) law

pub prepares_header : (e : CallContext) (m word : ℕ) → KeepsBiases (λ w t. MayPrepare (w.known t) e m) (λ w t. prepare_plan e (w.known t).stage (Header m) word)
prepares_header e m word w P t within may v law =
    quietly w t e (Header m) (act.Store word) own.Unchanged (w.known t).stage (λ c. refl) may.goes_on (λ i. refl) (inl refl) law

pub prepares_object : (e : CallContext) (m word : ℕ)
    → KeepsBiases (λ w t. MayPrepareObject w.shape (w.known t) e m word) (λ w t. prepare_plan e (w.known t).stage (Object m) word)
prepares_object e m word w P t within may v law =
    quietly w t e (Object m) (act.Store word) own.Unchanged (w.known t).stage (λ c. refl) may.prepares.goes_on (λ i. refl) (inl refl) law

pub inflates : (e : CallContext) (o mark u p : ℕ) → KeepsBiases (λ w t. MayInflate (w.known t) e o mark u p) (λ w t. inflate_plan e o mark u p)
inflates e o mark u p w P t within may v law =
    quietly w t e (Mark o) (act.CompareExchange mark 0) own.Unchanged (Inflates o u p) (λ c. refl) may.goes_on (from (w.known t) Settled may.calm)
    (exchange_leaves w o mark 0 (locked_bare mark u p may.locked).unbiased (ap is_biased_form mark_zero)) law

pub names : (e : CallContext) (o m u p h : ℕ) → KeepsBiases (λ w t. MayName w.shape (w.known t) e o m u p h) (λ w t. name_plan e o m)
names e o m u p h w P t within may v law =
    let zero : marks w o ≡ 0 = v.inflating.zero t (record { object = o; thread = u; place = p }) (ap inflation_in may.stage) in
    quietly w t e (Mark o) (act.Store (mark_of (Inflated m))) own.DropClaim Settled (λ c. refl) may.goes_on (λ i. ap (λ z. path_into z i) (sym may.stage))
    (inr (inr (o, refl, ap is_biased zero ∙ ap is_biased_form mark_zero, inflated_none w P t m v may.ready.kept))) law

pub names_neutral : (e : CallContext) (o mark m : ℕ) → KeepsBiases (λ w t. MayNameNeutral w.shape (w.known t) e o mark m) (λ w t. name_neutral_plan e o mark m)
names_neutral e o mark m w P t within may v law =
    quietly w t e (Mark o) (act.CompareExchange mark (mark_of (Inflated m))) own.DropClaim Settled (λ c. refl) may.goes_on (from (w.known t) Settled may.calm)
    (exchange_leaves w o mark (mark_of (Inflated m)) (neutral_bare mark may.neutral).unbiased (inflated_none w P t m v may.ready.kept)) law

pub grabs : (e : CallContext) (o m : ℕ) → KeepsBiases (λ w t. MayGrab (w.known t) e o m) (λ w t. grab_plan e t o m)
grabs e o m w P t within may v law =
    quietly w t e (Owner m) (act.CompareExchange (owner_of Free) (owner_of (ByThread t))) own.Unchanged
    (MonitorAcquired o) (λ c. refl) may.goes_on (from (w.known t) Settled may.calm) (inl refl) law

pub takes_over : (e : CallContext) (o m p : ℕ) → KeepsBiases (λ w t. MayTakeOver (w.known t) e o m p) (λ w t. take_over_plan e t o m)
takes_over e o m p w P t within may v law =
    quietly w t e (Owner m) (act.Store (owner_of (ByThread t))) own.Unchanged (OwnerConverted o)
    (λ c. refl) may.goes_on (from (w.known t) Settled may.calm) (inl refl) law

pub raises_count : (e : CallContext) (o m r : ℕ) → KeepsBiases (λ w t. MayRaiseCount (w.known t) e o m r) (λ w t. raise_count_plan e o m r)
raises_count e o m r w P t within may v law =
    quietly w t e (Recursions m) (act.Store (r + 1)) own.Unchanged (RecursionsRaised o) (λ c. refl) may.counts.goes_on
    (λ i. elim may.before [ inl b ↦ ap (λ z. path_into z i) (sym b.0) | inr b ↦ ap (λ z. path_into z i) (sym b.0) ]) (inl refl) law

pub lowers_count : (e : CallContext) (o m r : ℕ) → KeepsBiases (λ w t. MayLowerCount (w.known t) e o m r) (λ w t. lower_count_plan e o m r)
lowers_count e o m r w P t within may v law =
    quietly w t e (Recursions m) (act.Store (r - 1)) own.Unchanged (RecursionsLowered o)
    (λ c. refl) may.counts.goes_on (from (w.known t) Settled may.calm) (inl refl) law

pub resets_count : (e : CallContext) (o m : ℕ) → KeepsBiases (λ w t. MayResetCount (w.known t) e o m) (λ w t. reset_count_plan e m)
resets_count e o m w P t within may v law =
    quietly w t e (Recursions m) (act.Store 0) own.Unchanged Settled (λ c. refl) may.counts.goes_on
    (λ i. ap (λ z. path_into z i) (sym may.takes_over)) (inl refl) law

pub drops : (e : CallContext) (o m : ℕ) → KeepsBiases (λ w t. MayDrop (w.known t) e o m) (λ w t. drop_plan e o m)
drops e o m w P t within may v law =
    quietly w t e (Recursions m) (act.Store 0) own.Unchanged (Waits o) (λ c. refl) may.goes_on (from (w.known t) (Waits o) may.stage) (inl refl) law

pub quits : (e : CallContext) (o m : ℕ) → KeepsBiases (λ w t. MayQuit (w.known t) e o m) (λ w t. quit_plan e m)
quits e o m w P t within may v law =
    quietly w t e (Owner m) (act.Store (owner_of Free)) own.Unchanged Settled
    (λ c. refl) may.drops.goes_on (λ i. ap (λ z. path_into z i) (sym may.drops.stage)) (inl refl) law

pub regains : (e : CallContext) (o m : ℕ) → KeepsBiases (λ w t. MayRegain (w.known t) e o m) (λ w t. regain_plan e t o m)
regains e o m w P t within may v law =
    quietly w t e (Owner m) (act.CompareExchange (owner_of Free) (owner_of (ByThread t))) own.Unchanged
    (Resumes o) (λ c. refl) may.goes_on (from (w.known t) Settled may.calm) (inl refl) law

pub restores : (e : CallContext) (o m word : ℕ) → KeepsBiases (λ w t. MayRestore (w.known t) e o m) (λ w t. restore_plan e o m word)
restores e o m word w P t within may v law = quietly w t e (Recursions m) (act.Store word) own.Unchanged
    (Resumes o) (λ c. refl) may.goes_on (from (w.known t) (Resumes o) may.stage) (inl refl) law

pub saves_count : (e : CallContext) (o m : ℕ) → KeepsBiases (λ w t. MaySaveCount (w.known t) e o m) (λ w t. save_count_plan e m)
saves_count e o m w P t within may v law =
    quietly w t e (Recursions m) act.Load own.SaveRecursions Settled (λ c. refl) may.counts.goes_on (from (w.known t) Settled may.calm) (inl refl) law

-- OWN WORDS, and those of who waits
pub raises_stamp : (e : CallContext) (o : ℕ) → KeepsBiases (λ w t. MayRaise (w.known t) e o) (λ w t. raise_stamp_plan e o (next_stamp (local_of (w.known t))))
raises_stamp e o w P t within may v law =
    quietly w t e (Stamp o) (act.FetchMax (next_stamp (local_of (w.known t)))) own.Unchanged Settled
    (λ c. refl) may.goes_on (from (w.known t) Settled may.calm) (inl refl) law

pub says_ready : (e : CallContext) → KeepsBiases (λ w t. MayBeReady (w.known t) e) (λ w t. store_ready_plan e (w.known t).stage t)
says_ready e w P t within may v law =
    quietly w t e (Waiting t) (act.Store (wait_of Ready)) own.Unchanged (w.known t).stage (λ c. refl) may.goes_on (λ i. refl) (inl refl) law

pub says_entering : (e : CallContext) (o m : ℕ) → KeepsBiases (λ w t. MayStand w.shape (w.known t) e o m) (λ w t. store_entering_plan e t o)
says_entering e o m w P t within may v law = quietly w t e (Waiting t) (act.Store (wait_of (Entering o))) own.Unchanged Settled
    (λ c. refl) (inl may.goes_on) (from (w.known t) Settled may.calm) (inl refl) law

pub says_ended : (e : CallContext) → KeepsBiases (λ w t. MayEnd (w.known t) e) (λ w t. store_ended_plan e t)
says_ended e w P t within may v law = quietly w t e (Waiting t) (act.Store (wait_of Ended)) own.Unchanged Settled
    (λ c. refl) (inl may.goes_on) (from (w.known t) Settled may.calm) (inl refl) law

pub publishes_all : (e : CallContext) → KeepsBiases (λ w t. MayPublishLog (w.known t) e) (λ w t. publish_log_plan e t (length (w.known t).log))
publishes_all e w P t within may v law = quietly w t e (Length t) (act.Store (length (w.known t).log)) own.Unchanged Settled
    (λ c. refl) (inl may.goes_on) (from (w.known t) Settled may.calm) (inl refl) law

pub wakes_next : (e : CallContext) (o u n : ℕ) → KeepsBiases (λ w t. MayWakeNext w.shape (w.known t) e o u n) (λ w t. wake_next_plan e o u (n + 1))
wakes_next e o u n w P t within may v law =
    quietly w t e (Waiting u) (act.Store (wait_of (Notified o))) own.Unchanged (Notifies o (n + 1)) (λ c. refl) may.goes_on
    (λ i. elim may.wakes.told [ inl b ↦ ap (λ z. path_into z i) (sym b.0) | inr b ↦ ap (λ z. path_into z i) (sym b) ]) (inl refl) law

-- THE SAFEPOINT WORD
pub stops : (e : CallContext) → KeepsBiases (λ w t. MayStop (w.known t) e) (λ w t. stop_plan e t)
stops e w P t within may v law = quietly w t e Safepoint (act.FetchAnd (all_but t)) own.Unchanged Settled
    (λ c. refl) (inl may.goes_on) (from (w.known t) Settled may.calm) (inl refl) law

pub resumes : (e : CallContext) (word : ℕ) → KeepsBiases (λ w t. MayResume (w.known t) e word) (λ w t. resume_plan e t word)
resumes e word w P t within may v law =
    quietly w t e Safepoint (act.CompareExchange word (running_too (read_safe word) t)) own.Unchanged Settled (λ c. refl)
    (inl may.goes_on) (from (w.known t) Settled (stopped_calm w P t v may.stopped may.unasking)) (inl refl) law

pub requests : (e : CallContext) (word : ℕ) → KeepsBiases (λ w t. MayRequest (w.known t) e word) (λ w t. request_plan e t word)
requests e word w P t within may v law =
    quietly w t e Safepoint (act.CompareExchange word (requested_by (read_safe word) t)) own.Unchanged Settled
    (λ c. refl) may.goes_on (from (w.known t) Settled may.calm) (inl refl) law

pub releases_taking : (e : CallContext) (o : ℕ) → KeepsBiases (λ w t. MayReleaseTaking (w.known t) e o) (λ w t. release_plan e (BiasAcquired o) t)
releases_taking e o w P t within may v law =
    quietly w t e Safepoint (act.CompareExchange (reached_word t) (released_word t)) own.Unchanged
    (BiasAcquired o) (λ c. refl) (inl may.goes_on) (from (w.known t) (BiasAcquired o) may.takes) (inl refl) law

pub releases : (e : CallContext) → KeepsBiases (λ w t. MayRelease (w.known t) e) (λ w t. release_plan e Settled t)
releases e w P t within may v law =
    quietly w t e Safepoint (act.CompareExchange (reached_word t) (released_word t)) own.Unchanged Settled
    (λ c. refl) (inl may.goes_on) (from (w.known t) Settled may.calm) (inl refl) law

pub halts : (e : CallContext) → KeepsBiases (λ w t. MayHalt w.shape.threads (w.known t) e) (λ w t. halt_plan e t)
halts e w P t within may v law =
    quietly w t e Safepoint (act.CompareExchange (reached_word t) halted_word) own.Unchanged Settled
    (λ c. refl) (inl may.goes_on) (from (w.known t) Settled may.calm) (inl refl) law

pub keeps_shot : (e : CallContext) → KeepsBiases (λ w t. MayKeepShot w.shape (w.known t) e) (λ w t. keep_shot_plan e)
keeps_shot e w P t within may v law =
    quietly w t e Safepoint act.Load own.TakeShot Settled (λ c. refl) (inl may.goes_on) (from (w.known t) Settled may.calm) (inl refl) law
