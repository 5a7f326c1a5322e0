use Rattle.core_calls.proofs.Untold.{unended, unleft}
use Rattle.core_calls.proofs.refused.no_run_of_a_done_call_leaves_it_unfinished.Goals as goal

pub returns-clause-enter : goal.returns-clause-enter
returns-clause-enter z b o path u k l some t = unended k l t u some t.says.1.unfinished

pub returns-clause-exit : goal.returns-clause-exit
returns-clause-exit z b o u k l some t = unended k l t u some t.says.1.unfinished

pub returns-clause-wait : goal.returns-clause-wait
returns-clause-wait z b o u k l some t = unended k l t u some t.says.1.unfinished

pub returns-clause-notify : goal.returns-clause-notify
returns-clause-notify z b o woken u k l some t = unended k l t u some t.says.1.unfinished

pub returns-clause-notify_all : goal.returns-clause-notify_all
returns-clause-notify_all z b o woken u k l some t = unended k l t u some t.says.1.unfinished

pub returns-clause-hash : goal.returns-clause-hash
returns-clause-hash z b o value u k l some t = unended k l t u some t.says.2.unfinished

pub returns-clause-dump : goal.returns-clause-dump
returns-clause-dump z b number u k l some t = unended k l t u some t.says.1.1.unfinished

pub returns-clause-create : goal.returns-clause-create
returns-clause-create z s b c o u k l some t = unended k l t u some t.says.1.1.unfinished

pub returns-clause-enter_pends : goal.returns-clause-enter_pends
returns-clause-enter_pends z b o cause k l none t = unleft k l t _ none t.says.1.0.unfinished

pub returns-clause-exit_pends : goal.returns-clause-exit_pends
returns-clause-exit_pends z b o cause k l none t = unleft k l t _ none t.says.1.0.unfinished

pub returns-clause-wait_pends : goal.returns-clause-wait_pends
returns-clause-wait_pends z b o cause k l none t = unleft k l t _ none t.says.1.0.unfinished

pub returns-clause-notify_pends : goal.returns-clause-notify_pends
returns-clause-notify_pends z b o cause k l none t = unleft k l t _ none t.says.1.0.unfinished

pub returns-clause-notify_all_pends : goal.returns-clause-notify_all_pends
returns-clause-notify_all_pends z b o cause k l none t = unleft k l t _ none t.says.1.0.unfinished

pub returns-clause-hash_pends : goal.returns-clause-hash_pends
returns-clause-hash_pends z b o cause k l none t = unleft k l t _ none t.says.0.unfinished

pub returns-clause-dump_pends : goal.returns-clause-dump_pends
returns-clause-dump_pends z b cause k l none t = unleft k l t _ none t.says.1.0.unfinished
