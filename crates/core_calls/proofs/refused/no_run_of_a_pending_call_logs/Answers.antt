use Rattle.std.proofs.Common.{◌≡◌, ℕ, cond, Bool, true, false, List, [], ap, ◌∙◌, refl}
use Rattle.plain_monitor.specs.declared.entry.Entry.{Entry}
use Rattle.core_calls.specs.CallsSay.{begins_with, lets_go}
use Rattle.core_calls.specs.Causes.{of_waits}
use Rattle.core_calls.proofs.Untold.{unlogged}
use Rattle.core_calls.proofs.refused.no_run_of_a_pending_call_logs.Goals as goal

none_either : (b : Bool) → cond {A = List Entry} b [] [] ≡ []
none_either true = refl
none_either false = refl

-- a wait that had let go before logs nothing, whatever it is pending for
gone_logs : (o : ℕ) (goes waits : Bool) → goes ≡ false → cond waits (begins_with goes o []) [] ≡ []
gone_logs o goes waits gone = ap (λ (b : Bool). cond waits (begins_with b o []) []) gone ∙ none_either waits

pub returns-clause-enter : goal.returns-clause-enter
returns-clause-enter z b o x cause k l more t = unlogged k l t x more t.says.1.0.entries

pub returns-clause-exit : goal.returns-clause-exit
returns-clause-exit z b o x cause k l more t = unlogged k l t x more t.says.1.0.entries

pub returns-clause-stack_enter : goal.returns-clause-stack_enter
returns-clause-stack_enter z o mark x cause k l more t = unlogged k l t x more t.says.0.entries

pub returns-clause-notify : goal.returns-clause-notify
returns-clause-notify z b o x cause k l more t = unlogged k l t x more t.says.1.0.entries

pub returns-clause-notify_all : goal.returns-clause-notify_all
returns-clause-notify_all z b o x cause k l more t = unlogged k l t x more t.says.1.0.entries

pub returns-clause-hash : goal.returns-clause-hash
returns-clause-hash z b o x cause k l more t = unlogged k l t x more t.says.0.entries

pub returns-clause-dump : goal.returns-clause-dump
returns-clause-dump z b x cause k l more t = unlogged k l t x more t.says.1.0.entries

pub returns-clause-wait : goal.returns-clause-wait
returns-clause-wait z b o x cause k l gone more t = unlogged k l t x more (t.says.1.0.entries ∙ gone_logs o (lets_go b o) (of_waits cause) gone)
