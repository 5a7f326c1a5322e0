use Rattle.std.proofs.Common.{[], ◌∷◌, Ok, refl}
use Rattle.mark_word.specs.Hold.{read_hold}
use Rattle.mark_word.specs.Mark.{read_mark}
use Rattle.mark_word.specs.Owner.{read_owner}
use Rattle.mark_word.specs.Safe.{read_safe}
use Rattle.mark_word.specs.Wait.{read_wait}
use Rattle.plain_monitor.specs.ValueWords.{read_value, word_of}
use Rattle.plain_monitor.specs.declared.entry.Value.TheVariants.{Ref}
use Rattle.core_world.specs.Threads.ThreadView.{start_of}
use Rattle.core_world.specs.Trees.Operations.{dump_steps}
use Rattle.core_world.specs.Trees.SafepointSteps.{reached_word}
use Rattle.core_world.specs.declared.answer.Progress.TheVariants.{Done}
use Rattle.core_calls.proofs.Followed.{ran_by, leads_ran}
use Rattle.core_calls.proofs.Walkers.{small, running, owner, hashed, dump_words}
use Rattle.core_calls.proofs.witnesses.calls_that_tell_are_run.Goals as goal

pub returns-clause-hash : goal.returns-clause-hash
unfolding read_mark read_wait read_owner read_hold read_safe
returns-clause-hash z now = ran_by _ small running (hashed ∷ hashed ∷ []) _ refl

pub returns-clause-get : goal.returns-clause-get
unfolding read_hold read_value
returns-clause-get z = ran_by _ small owner (word_of (Ref 0) ∷ []) _ refl

pub returns-clause-put : goal.returns-clause-put
unfolding read_hold
returns-clause-put z value = ran_by _ small owner (0 ∷ []) _ refl

pub returns-clause-print : goal.returns-clause-print
unfolding read_mark read_wait read_owner read_hold read_safe
returns-clause-print z value = ran_by _ small running (0 ∷ []) _ refl

pub returns-clause-finish : goal.returns-clause-finish
unfolding read_mark read_wait read_owner read_hold read_safe
returns-clause-finish z ending = ran_by _ small running (0 ∷ 0 ∷ []) _ refl

pub returns-clause-dump : goal.returns-clause-dump
unfolding read_mark read_wait read_owner read_hold read_safe
returns-clause-dump z =
    let found = leads_ran small 0 (dump_steps small (start_of 0 running)) dump_words running (Ok (Done 1)) refl in
    (small, 0, start_of 0 running, running, found.0, refl, found.1)

pub returns-clause-dump_pends : goal.returns-clause-dump_pends
unfolding read_mark read_wait read_owner read_hold read_safe
returns-clause-dump_pends z = ran_by _ small running (reached_word 1 ∷ []) _ refl
