use Rattle.std.proofs.Common.{[], ◌∷◌, refl, arith}
use Rattle.mark_word.specs.Hold.{read_hold}
use Rattle.mark_word.specs.Mark.{read_mark}
use Rattle.mark_word.specs.Owner.{read_owner}
use Rattle.mark_word.specs.Safe.{read_safe}
use Rattle.mark_word.specs.Wait.{read_wait}
use Rattle.core_world.specs.Opening.{first_known}
use Rattle.core_world.specs.Threads.ThreadView.{start_of}
use Rattle.core_calls.proofs.Followed.{truly_by}
use Rattle.core_calls.proofs.Walkers.{small, running, owner, own_bias, held, going, dump_words, check_words, wait_words, going_true, held_true, off_true}
use Rattle.core_calls.proofs.witnesses.calls_find_true_safepoint_words.Goals as goal

pub returns-clause-dump : goal.returns-clause-dump
unfolding read_mark read_wait read_owner read_hold read_safe
returns-clause-dump z =
    truly_by _ _ small (start_of 0 running) dump_words _ (omega arith) refl refl (
      λ e. absurd (cc e),
      (
        λ e. held_true,
        (
          λ e. absurd (cc e),
          (
            λ e. absurd (cc e),
            (
              λ e. absurd (cc e),
              (
                λ e. absurd (cc e),
                (λ e. held_true, (λ e. absurd (cc e), (λ e. absurd (cc e), (λ e. held_true, (λ e. going_true, (λ e. going_true, tt)))))),
              ),
            ),
          ),
        ),
      ),
    )

pub returns-clause-wait : goal.returns-clause-wait
unfolding read_mark read_wait read_owner read_hold read_safe
returns-clause-wait z now =
    truly_by _ _ small (start_of 0 owner) wait_words _ (omega arith) refl refl (
      λ e. absurd (cc e),
      (
        λ e. absurd (cc e),
        (
          λ e. absurd (cc e),
          (
            λ e. absurd (cc e),
            (
              λ e. absurd (cc e),
              (
                λ e. absurd (cc e),
                (λ e. absurd (cc e), (λ e. absurd (cc e), (λ e. absurd (cc e), tt))),
              ),
            ),
          ),
        ),
      ),
    )

pub returns-clause-exit : goal.returns-clause-exit
unfolding read_mark read_wait read_owner read_hold read_safe
returns-clause-exit z =
    truly_by _ _ small (start_of 0 owner) (held ∷ own_bias ∷ 0 ∷ []) _ (omega arith) refl refl
    (λ e. absurd (cc e), (λ e. absurd (cc e), (λ e. absurd (cc e), tt)))

pub returns-clause-poll : goal.returns-clause-poll
unfolding read_mark read_wait read_owner read_hold read_safe
returns-clause-poll z = truly_by _ _ small (start_of 0 running) (going ∷ []) _ (omega arith) refl refl
    (λ e. going_true, tt)

pub returns-clause-stop : goal.returns-clause-stop
unfolding read_mark read_wait read_owner read_hold read_safe
returns-clause-stop z =
    truly_by _ _ small (start_of 0 running) (going ∷ 0 ∷ []) _ (omega arith) refl refl
    (λ e. going_true, (λ e. absurd (cc e), tt))

pub returns-clause-resume : goal.returns-clause-resume
unfolding read_mark read_wait read_owner read_hold read_safe
returns-clause-resume z =
    truly_by _ _ small (start_of 0 (first_known 0)) (0 ∷ 0 ∷ []) _ (omega arith) refl refl
    (λ e. off_true, (λ e. off_true, tt))

pub returns-clause-check : goal.returns-clause-check
unfolding read_mark read_wait read_owner read_hold read_safe
returns-clause-check z =
    truly_by _ _ small (start_of 0 running) check_words _ (omega arith) refl refl (
      λ e. held_true,
      (
        λ e. absurd (cc e),
        (
          λ e. absurd (cc e),
          (
            λ e. absurd (cc e),
            (
              λ e. absurd (cc e),
              (
                λ e. absurd (cc e),
                (λ e. held_true, (λ e. going_true, (λ e. going_true, tt))),
              ),
            ),
          ),
        ),
      ),
    )
