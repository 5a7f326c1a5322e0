use Rattle.std.proofs.Common.{◌≡◌, ℕ, Bool, true, false, [], ◌∷◌, None}
use Rattle.core_world.specs.Threads.ThreadView.{ThreadView}
use Rattle.core_calls.proofs.Untold.{logless}
use Rattle.core_calls.specs.CallsSay.{begins_with, lets_go}
use Rattle.core_calls.specs.Paths.{Leaves, Tells}
use Rattle.plain_monitor.specs.declared.entry.Entry.TheVariants as entry
use Rattle.core_calls.proofs.refused.no_run_of_a_done_call_leaves_the_log.Goals as goal

-- a wait that is done logs something, whether it lets go or not
wait_logs : (o : ℕ) (goes : Bool) (k l : ThreadView) (t : Tells k l (λ ms. Leaves (begins_with goes o (entry.Resume o ∷ [])) None false ms)) → l.log ≡ k.log → ⊥
wait_logs o true k l t same = logless k l t _ _ same t.says.entries
wait_logs o false k l t same = logless k l t _ _ same t.says.entries

pub returns-clause-enter : goal.returns-clause-enter
returns-clause-enter z b o path k l same t = logless k l t _ _ same t.says.1.entries

pub returns-clause-exit : goal.returns-clause-exit
returns-clause-exit z b o k l same t = logless k l t _ _ same t.says.1.entries

pub returns-clause-stack_enter : goal.returns-clause-stack_enter
returns-clause-stack_enter z o mark path k l same t = logless k l t _ _ same t.says.entries

pub returns-clause-stack_exit : goal.returns-clause-stack_exit
returns-clause-stack_exit z b o k l same t = logless k l t _ _ same t.says.entries

pub returns-clause-create : goal.returns-clause-create
returns-clause-create z s b c o k l same t = logless k l t _ _ same t.says.1.1.entries

pub returns-clause-wait : goal.returns-clause-wait
returns-clause-wait z b o k l same t =
    wait_logs o (lets_go b o) k l (record {
      steps = t.steps;
      added = t.added;
      new = t.new;
      log = t.log;
      entries = t.entries;
      unfinished = t.unfinished;
      checking = t.checking;
      says = t.says.1;
    }) same

pub returns-clause-notify : goal.returns-clause-notify
returns-clause-notify z b o woken k l same t = logless k l t _ _ same t.says.1.entries

pub returns-clause-notify_all : goal.returns-clause-notify_all
returns-clause-notify_all z b o woken k l same t = logless k l t _ _ same t.says.1.entries

pub returns-clause-hash : goal.returns-clause-hash
returns-clause-hash z b o value k l same t = logless k l t _ _ same t.says.2.entries

pub returns-clause-get : goal.returns-clause-get
returns-clause-get z b o slot value k l same t = logless k l t _ _ same t.says.1.0.entries

pub returns-clause-put : goal.returns-clause-put
returns-clause-put z b o slot value k l same t = logless k l t _ _ same t.says.1.0.entries

pub returns-clause-print : goal.returns-clause-print
returns-clause-print z value k l same t = logless k l t _ _ same t.says.entries

pub returns-clause-finish : goal.returns-clause-finish
returns-clause-finish z how k l same t = logless k l t _ _ same t.says.entries

pub returns-clause-dump : goal.returns-clause-dump
returns-clause-dump z b number k l same t = logless k l t _ _ same t.says.1.1.entries
