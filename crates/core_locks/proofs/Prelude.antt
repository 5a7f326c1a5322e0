-- The words that the laws are written in, by one import.
pub use Rattle.std.proofs.Common.{◌≡◌, ◌≢◌, ◌⊎◌, ℕ, zero, suc, ◌+◌, ◌-◌, ◌<◌, ◌≤◌, ◌^◌, ◌==◌, ◌&&◌, ◌||◌, not, max, nat_lt, eq-eqb, ne_eqb, Bool}
pub use Rattle.std.proofs.Common.{true, false, cond, List, [], ◌∷◌, ◌++◌, length, slice_index, slice_set, Option, Some, None, refl, sym, ap, ◌∙◌}
pub use Rattle.std.proofs.Common.{subst, arith, inl, inr, eqb-true, slice_get, option_and_then, ◌-◌, IfSome, nat_le, option_map, is_none, bit_and}
pub use Rattle.std.proofs.Common.{◌*◌, add-zero, replicate, slice_index_or, zero-add, if◌then◌else◌, append-nil, IsSome, append_assoc}
pub use Rattle.std.proofs.Math.Bool.{or-true, or-false}
pub use Rattle.std.proofs.lemmas.Bool.Decides.{nat_tests, Decides-int_eq}
pub use Rattle.std.proofs.lemmas.Option.{same_Some}
pub use Rattle.std.specs.List.{AllByRecursion, position_or_len}
pub use Rattle.std.proofs.lemmas.Nat.{pow_below, and_comm, and-not, or_disjoint, or_lt}
pub use Rattle.std.proofs.lemmas.Nat.Bits.{bit_at-zero, bit_at-pow_same, bit_at-pow_other, bit_at-lt, bit_at_above, bit_at_and}
pub use Rattle.std.proofs.lemmas.Nat.Bits.{bit_at_or, bit_at_not, bit_at_cat_low, and_pow, same_from_bits_below}
pub use Rattle.std.specs.Prelude.{is_some, ◌%◌}
pub use Rattle.std.proofs.lemmas.Bool.{cases_lt}
pub use Rattle.mark_word.specs.declared.mark.MarkForm.{MarkForm}
pub use Rattle.mark_word.specs.Mark.{read_mark, mark_of}
pub use Rattle.mark_word.specs.Owner.{read_owner, owner_of}
pub use Rattle.mark_word.specs.Wait.{wait_of, read_wait}
pub use Rattle.mark_word.specs.declared.mark.MarkForm.TheVariants.{Locked, Neutral, Inflated, Biased, Anonymous, Inflating, Marked}
pub use Rattle.mark_word.specs.declared.owner.OwnerForm.TheVariants.{ByThread, Free, ByRecord}
pub use Rattle.mark_word.specs.declared.wait.WaitForm.TheVariants.{Notified, Ready, Entering, Ended}
pub use Rattle.mark_word.proofs.ReadingOwners.{read_owner-owner_of}
pub use Rattle.mark_word.specs.Hold.{read_hold, hold_of}
pub use Rattle.mark_word.specs.declared.safe.SafeForm.{SafeForm}
pub use Rattle.mark_word.specs.Safe.{safe_of, read_safe, IsSafeInRange, requester_of, halt_of}
pub use Rattle.mark_word.specs.declared.hold.HoldForm.TheVariants.{Holds, Empty}
pub use Rattle.mark_word.proofs.ReadingMarks.{read_mark-mark_of, read_mark-spells}
pub use Rattle.mark_word.specs.declared.hold.HoldForm.{HoldForm}
pub use Rattle.mark_word.proofs.ReadingHolds.{read_hold-spells, read_hold-hold_of}
pub use Rattle.mark_word.proofs.ReadingWaits.{read_wait-wait_of, read_wait-spells}
pub use Rattle.mark_word.specs.declared.owner.OwnerForm.{OwnerForm}
pub use Rattle.mark_word.specs.declared.wait.WaitForm.{WaitForm}
pub use Rattle.mark_word.proofs.ReadingSafepoints.{read_safe-spells, read_safe-safe_of}
pub use Rattle.plain_monitor.specs.Monitor.{PlainMonitor, is_thread, is_listed, count_of, owns, only_if}
pub use Rattle.plain_monitor.specs.Monitor.{exit, calls, without, is_outside, enter, resume, resumed}
pub use Rattle.plain_monitor.specs.Objects.{PlainObject, take_entry, take_at, with_monitor, take_named, new_objects, with_hash, hashed, same_value, has_value}
pub use Rattle.plain_monitor.specs.declared.entry.Logged.{Logged}
pub use Rattle.plain_monitor.specs.History.{last_stamp, objects_after, LegalObjects, log_of, take_all, appended, RisesAbove}
pub use Rattle.plain_monitor.specs.declared.entry.Entry.{Entry}
pub use Rattle.plain_monitor.specs.declared.entry.Entry.TheVariants.{Exit, Get, Notify, NotifyAll, Hash, Enter, Put, Wait}
pub use Rattle.plain_monitor.specs.declared.entry.Entry.TheVariants.{Resume, New, Print, Dump, Trap, Spent, Done}
pub use Rattle.plain_monitor.specs.declared.entry.Value.{Value}
pub use Rattle.plain_monitor.specs.Order.{order, of_thread}
pub use Rattle.plain_monitor.specs.declared.entry.Path.{Path}
pub use Rattle.plain_monitor.proofs.Threads.{thread_kept}
pub use Rattle.plain_monitor.specs.ValueWords.{read_value, word_of}
pub use Rattle.plain_monitor.proofs.Lists.{all_at, all_push, all_weaker}
pub use Rattle.plain_monitor.proofs.Appending.{order_appended, last_more, comes_last}
pub use Rattle.plain_history.specs.Tied.{bound_to}
pub use Rattle.plain_history.specs.Stamps.{IsBounded}
pub use Rattle.plain_history.proofs.Swaps.{bound_is_named, taken_at}
pub use Rattle.plain_monitor.specs.Listed.{times_in}
pub use Rattle.plain_history.proofs.HoldSteps.{never_counted}
pub use Rattle.plain_history.specs.HeldByLog.{HasLetGo, held_by, nothing_held, LetsGoOf, IsLastLetGo}
pub use Rattle.core_world.specs.declared.word_id.WordId.{WordId}
pub use Rattle.core_world.specs.declared.word_id.WordId.TheVariants.{Safepoint, Prototype, Mark, Stamp, Slot, Hold, Displaced, Waiting, Length, Owner}
pub use Rattle.core_world.specs.declared.word_id.WordId.TheVariants.{Recursions, Header, Object, Claim, End, Ring, Revocations, LastBulk, Class}
pub use Rattle.core_world.specs.declared.plan.StepPlan.{StepPlan}
pub use Rattle.core_world.specs.declared.stage.Stage.{Stage}
pub use Rattle.core_world.specs.declared.stage.Stage.TheVariants.{Settled, RecordLocked, MonitorAcquired, Enters, Resumes}
pub use Rattle.core_world.specs.declared.stage.Stage.TheVariants.{Exits, Waits, OwnerConverted, RecursionsRaised, RecursionsLowered}
pub use Rattle.core_world.specs.declared.stage.Stage.TheVariants.{Inflates, Notifies, Revokes, BiasAcquired}
pub use Rattle.core_world.specs.Words.Forms.{hold_word, is_biased, is_neutral, is_deeper, hash_in, monitor_in, names, waits_on, says_notified}
pub use Rattle.core_world.specs.Words.Forms.{stamp_in, enters_on, says_ended, is_halted, is_biased_form, asks_in, monitor_form, runs_form}
pub use Rattle.core_world.specs.Words.Forms.{waits_form, ended_form, runs_in, requester_form, notified_form, enters_form, hash_form, is_neutral_form}
pub use Rattle.core_world.specs.Words.Forms.{requester_in, halted_form, deeper_form, names_form, is_still, epoch_in, stamp_form}
pub use Rattle.core_world.specs.Threads.Stages.{Inflation, inflation_in, bears, hold_words_ahead, recursions_ahead}
pub use Rattle.core_world.specs.Threads.Stages.{recursions_lowered, notification_in, revocation_in, one_if}
pub use Rattle.core_world.specs.Words.Acts.{word_after, hits}
pub use Rattle.core_world.specs.Words.Names.{class_by, has_class, with_word, same_name, its_monitor, kind_of, first_index, second_index}
pub use Rattle.core_world.specs.Threads.ThreadView.{ThreadView, Moving, Still, Fetches, Returns, StepMade, last_seen, local_of, draw_of}
pub use Rattle.core_world.specs.World.{World, with_word_and_known, with_known, logs, logs_from}
pub use Rattle.core_world.specs.Locks.{Lock, Open, BiasedTo, OnRecord, OwnedBy, record_lock, lock, lock_form, header, header_form, marks}
pub use Rattle.core_world.specs.Locks.{displaced_words, headers, owner_words, prototype_of, inflations, who, holder, hold_count, depth_count}
pub use Rattle.core_world.specs.Locks.{recursion_count, holds_by_monitor, object_of, monitor_of, owner_at, hash_at, waits_at, notified_at}
pub use Rattle.core_world.specs.Locks.{owner_lock, or_zero, inflated_to, count_where, is_for, inflation_of, record_header, has_epoch}
pub use Rattle.core_world.specs.Clauses.SeenWords.{Stays, IsKeptOrNamed, SeenStays, IsValidBias, IsOwnMonitor, StaysWhileRunning, StaysWhileAsking, InMiddleOf}
pub use Rattle.core_world.specs.Clauses.Holds.{HoldsFitLogs}
pub use Rattle.core_world.specs.Clauses.Records.{RecordsRest}
pub use Rattle.core_world.specs.Clauses.Recursions.{RecursionsFit, GoesByMonitor}
pub use Rattle.core_world.specs.Trees.Plans.{CallContext, load_plan, with_stage, store, load, swap, quiet_plan, logging_plan, next_stamp, with_own}
pub use Rattle.core_world.specs.Steps.{world_after, known_hit, seen_before, known_after, known_miss, only_headers, is_header}
pub use Rattle.core_world.specs.Steps.{stamp_by, is_taking, draws_after, kept_by_act, reached_after, runs_after, asks_after}
pub use Rattle.core_world.specs.Steps.{log_after, unfinished_after, kept_by_note, halted_after, seen_at_safepoint_before}
pub use Rattle.core_world.specs.Valid.{Fits, IsValid, SeenFit, FormsFit, SafepointFits, Valid, IsRevoking}
pub use Rattle.core_world.specs.Clauses.Waits.{WaitsFit, last_entry, StandByStamps, AreNotified, WaitsLongerThan}
pub use Rattle.core_world.specs.Clauses.Safepoints.{ends, IsUnfinished, StoppedAreQuiet, IsQuiet, SafepointIsKnown, is_ending, IsStuck, IsHeldUp}
pub use Rattle.core_world.specs.Clauses.Stamps.{bound_stamp, StampsFit, lets_go, entries, IsAboutToLetGo, IsStampOf, IsRaised}
pub use Rattle.core_world.specs.Clauses.Owners.{LocksArePlain}
pub use Rattle.core_world.specs.declared.act.Act.TheVariants.{CompareExchange, Store, Load, FetchAnd, FetchMax}
pub use Rattle.core_world.specs.Clauses.Biases.{BiasedAreFree}
pub use Rattle.core_world.specs.Clauses.Lengths.{LengthsFit, log_limit}
pub use Rattle.core_world.specs.Clauses.Inflations.{InflationsAreOne}
pub use Rattle.core_world.specs.Clauses.Draws.{DrawsFit, drawn_by, draw_in, first_draw, drawn_for, all_draws, IsNextDraw, AreDraws, draws_in, draws_for, Draw}
pub use Rattle.core_world.specs.Clauses.Claims.{MonitorsAreClaimed, MovesFit, Place, count_with_monitor, claimed_or_kept, given_back}
pub use Rattle.core_world.specs.Opening.{first_known}
pub use Rattle.core_world.specs.Clauses.Hashes.{HashesFit}
pub use Rattle.core_world.specs.Clauses.Slots.{SlotsFit, IsHere}
pub use Rattle.core_world.specs.Threads.References.{HasValue}
pub use Rattle.core_world.specs.Shots.{ShotsFit}
pub use Rattle.core_world.specs.Clauses.Classes.{ClassesFit, bulk_rebiases, bulk_revokes}
pub use Rattle.core_world.specs.Words.Shape.{Shape, monitor_count, ring_bits, ring_places, slots_of, class_in_shape, IsInLimits}
pub use Rattle.core_world.specs.declared.heap_call.Unfinished.{Unfinished}
pub use Rattle.core_world.specs.Clauses.WordForms.{IsOwner, IsMark, IsSafepoint, IsWait, IsHold, WordsHaveForms}
pub use Rattle.core_world.specs.Looking.{IsOfMonitor, HasFound, MayLook}
pub use Rattle.core_world.specs.declared.act.Act.{Act}
pub use Rattle.core_world.specs.Clauses.Monitors.{MonitorsAreNamed}
pub use Rattle.core_world.specs.Trees.HashSteps.{NextDraw, find_hash_plan, draw_plan}
pub use Rattle.core_world.specs.Trees.LockSteps.{displace_plan, seize_plan, hold_plan, store_ready_plan, log_enter_plan}
pub use Rattle.core_world.specs.Trees.LockSteps.{raise_stamp_plan, leave_plan, let_go_plan, clear_plan}
pub use Rattle.core_world.specs.Trees.MonitorSteps.{claim_plan, fetch_plan, prepare_plan, inflate_plan, name_plan}
pub use Rattle.core_world.specs.Trees.MonitorSteps.{name_neutral_plan, grab_plan, take_over_plan, raise_count_plan}
pub use Rattle.core_world.specs.Trees.MonitorSteps.{lower_count_plan, reset_count_plan, store_entering_plan, free_plan}
pub use Rattle.core_world.specs.Trees.WaitSteps.{save_count_plan, log_wait_plan, drop_plan, quit_plan, regain_plan, restore_plan, log_resume_plan}
pub use Rattle.core_world.specs.Trees.WaitSteps.{publish_plan, wake_next_plan, notify_plan, notify_all_plan, is_older, insert_waiter, by_age, waiters}
pub use Rattle.core_world.specs.Trees.SafepointSteps.{publish_log_plan, stop_plan, resume_plan, request_plan, release_plan, halt_plan}
pub use Rattle.core_world.specs.Trees.SafepointSteps.{all_but, running_too, requested_by, reached_word, released_word, halted_word}
pub use Rattle.core_world.specs.declared.plan.LogEffect.TheVariants.{Log, LogGet}
pub use Rattle.core_world.specs.Trees.Operations.{get_plan, put_plan, store_ended_plan, value_found, goes_on_with}
pub use Rattle.core_world.proofs.KnowledgeParts.{by_equal, each_with_known, with_known_here, with_known_else}
pub use Rattle.core_world.proofs.KnowledgeParts.{part_moves, logs_stay, logs_length, log_at, logs_grow}
pub use Rattle.core_world.proofs.enter_exit.LockFrames.{header_stays, inflations_stay, lock_stays, who_stays}
pub use Rattle.core_world.proofs.Readings.{mark_zero, hold_some, deeper_none, no_entering, no_ended}
pub use Rattle.core_world.proofs.Readings.{owner_zero, no_wait, no_told, names_none, wait_zero, hold_zero}
pub use Rattle.core_world.proofs.enter_exit.ObjectHolds.{thread_is, holds_by_monitor_is, same_number, sound, unlisted_count}
pub use Rattle.core_world.proofs.enter_exit.ObjectHolds.{outside_standing, listed_count, unowned_count, waiter_unnotified}
pub use Rattle.core_world.proofs.enter_exit.ObjectHolds.{waiter_stands, one_named, owner_stands, owner_standing, no_owner}
pub use Rattle.core_world.proofs.enter_exit.OwnersShown.{fits_running, inflated_form, running_fits, with_word_there}
pub use Rattle.core_world.proofs.enter_exit.OwnersShown.{lock_by_form, who_bears, taken_alone, safepoint_part}
pub use Rattle.core_world.proofs.ActsLook.{seen_is_part, headers_are_part, runs_load, asks_load, holds_load, wait_load, published_load, kept_load}
pub use Rattle.core_world.proofs.SeenBack.{stays_back, Back}
pub use Rattle.core_world.proofs.SeenMoves.{Spares, seen_moves, counts_more, Counts, IsPart, counts_anew}
pub use Rattle.core_world.proofs.Frames.{frame2, frame6, frame9, frame3, frame4, frame5, frame8}
pub use Rattle.core_world.proofs.bias.LookWhileRevoking.{miss_valid, unwaited_fits, look_valid}
pub use Rattle.core_world.proofs.KnowledgeFrames.{unfinished_forth, lets_go_back, SameBut}
pub use Rattle.core_world.proofs.Naming.{with_word_same, with_knowledge, with_knowledge_alone}
pub use Rattle.core_world.proofs.StampWords.{stamp_goes_on}
pub use Rattle.core_locks.specs.Knowing.{KeepsValid, Logs, GoesOn, SawInflated, IsOut, SawOwn, LogsValid}
pub use Rattle.core_locks.specs.Knowing.{LogsFound, FindsWord, HasHold, WorksFor, operation_of, IsOwnEntry}
pub use Rattle.core_locks.specs.LoadLaws.{MayLoad, MayLoadSafepoint, MayLoadRequested, MayLoadOfMonitor}
pub use Rattle.core_world.specs.Trees.LookSteps.{keep_shot_plan}
pub use Rattle.core_locks.specs.WakeLaws.{MayWake, SawNoOtherWaiter, MayWakeNext, MayNotify, MayNotifyAll, SawOldest}
pub use Rattle.core_locks.specs.HashLaws.{MayHash, IsItsNext, IsHashless, HasRecord, MayFind, MayFindInRecord, MayFindInMonitor}
pub use Rattle.core_locks.specs.HashLaws.{HasHash, HasNoHash, hash_entry, MayDraw, MayDrawInMark, MayDrawInMonitor}
pub use Rattle.core_locks.specs.LockLaws.{MayHold, MayLeave, MaySeize, MayClear, Precedes, MayDisplace, MayLetGo}
pub use Rattle.core_locks.specs.MonitorLaws.{MayFetch, MayCount, MayDrop, MayQuit, MayRegain, MayRestore, MayTakeOver, KeptMonitorIsReady}
pub use Rattle.core_locks.specs.MonitorLaws.{MayRaiseCount, MayLowerCount, MayResetCount, MayFree, MayClaim, MayPrepare, MayPrepareOwner}
pub use Rattle.core_locks.specs.MonitorLaws.{MayPrepareObject, MayName, MayNameNeutral, MayInflate, MayGrab, MaySaveCount}
pub use Rattle.core_locks.specs.SafepointLaws.{MayHalt, MayStop, MayResume, MayRequest, MayRelease, SeesHeldUp, SeesEnded}
pub use Rattle.core_locks.specs.JournalLaws.{MayWait, MayLogEnter, MayRaise, MayPublish, MayTell, MayBeReady, MayStand, MayEnd}
pub use Rattle.core_locks.specs.JournalLaws.{SawNobody, MayLogResume, MayTouch, MayGet, MayPut, get_entry, MayPublishLog}
pub use Rattle.lock_policy.specs.Draws.{nth_value, hash_of, state_after}
