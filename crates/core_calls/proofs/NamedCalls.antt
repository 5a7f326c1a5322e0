-- The steps of each call are of it: so says what they spend.
use Rattle.std.proofs.Common.{ℕ}
use Rattle.plain_monitor.specs.declared.entry.Ending.{Ending}
use Rattle.plain_monitor.specs.declared.entry.Value.{Value}
use Rattle.core_world.specs.declared.heap_call.HeapCall.{HeapCall}
use Rattle.core_world.specs.declared.heap_call.HeapCall.TheVariants as task
use Rattle.core_world.specs.Threads.ThreadView.{Local, Start}
use Rattle.core_world.specs.Words.Shape.{Shape}
use Rattle.core_world.specs.Trees.Calls.{steps_of}
use Rattle.core_world.specs.Trees.Operations.{enter_steps, exit_steps, wait_steps, notify_steps, notify_all_steps, hash_steps}
use Rattle.core_world.specs.Trees.Operations.{get_steps, put_steps}
use Rattle.core_world.specs.Trees.Operations.{print_steps, finish_steps, dump_steps, create_steps, check_steps}
use Rattle.core_world.specs.Trees.Plans.{CallContext}
use Rattle.core_world.specs.Trees.SafepointSteps.{poll_steps, stop_steps, resume_steps}
use Rattle.core_calls.proofs.CallsSpend.{enter_spends, exit_spends, wait_spends, notify_call_spends, notify_all_call_spends, hash_call_spends}
use Rattle.core_calls.proofs.CallsSpend.{get_spends, put_spends, print_spends, create_spends, finish_spends, dump_spends, check_spends}
use Rattle.core_calls.proofs.CallsSpend.{call_spends}
use Rattle.core_calls.proofs.Named.{Named, spend_named}
use Rattle.core_calls.proofs.PartsSpend.{poll_spends, stop_spends, resume_spends}

module _ (s : Shape) (k : Start) where
  pub enter_named : (o now : ℕ) → Named (task.Enter o now) (enter_steps s k o now)
  enter_named o now = spend_named (enter_spends s k o now)

  pub wait_named : (o now : ℕ) → Named (task.Wait o now) (wait_steps s k o now)
  wait_named o now = spend_named (wait_spends s k o now)

  pub notify_call_named : (o now : ℕ) → Named (task.Notify o now) (notify_steps s k o now)
  notify_call_named o now = spend_named (notify_call_spends s k o now)

  pub notify_all_call_named : (o now : ℕ) → Named (task.NotifyAll o now) (notify_all_steps s k o now)
  notify_all_call_named o now = spend_named (notify_all_call_spends s k o now)

  pub hash_named : (o now : ℕ) → Named (task.Hash o now) (hash_steps s k o now)
  hash_named o now = spend_named (hash_call_spends s k o now)

  pub dump_named : Named task.Dump (dump_steps s k)
  dump_named = spend_named (dump_spends s k)

  pub check_named : Named task.Check (check_steps s k)
  check_named = spend_named (check_spends s k)

module _ (k : Start) where
  pub create_named : (s : Shape) (c : ℕ) → Named (task.Create c) (create_steps s k c)
  create_named s c = spend_named (create_spends s k c)

  pub exit_named : (o : ℕ) → Named (task.Exit o) (exit_steps k o)
  exit_named o = spend_named (exit_spends k o)

  pub get_named : (o slot : ℕ) → Named (task.Get o slot) (get_steps k o slot)
  get_named o slot = spend_named (get_spends k o slot)

  pub put_named : (o slot : ℕ) (value : Value) → Named (task.Put o slot value) (put_steps k o slot value)
  put_named o slot value = spend_named (put_spends k o slot value)

  pub print_named : (value : Value) → Named (task.Print value) (print_steps k value)
  print_named value = spend_named (print_spends k value)

  pub finish_named : (ending : Ending) → Named (task.Finish ending) (finish_steps k ending)
  finish_named ending = spend_named (finish_spends k ending)

module _ (e : CallContext) where
  pub poll_named : Named e.task (poll_steps e)
  poll_named = spend_named (poll_spends e 0)

  pub stop_named : (k : Local) → Named e.task (stop_steps e k)
  stop_named k = spend_named (stop_spends e k)

  pub resume_named : (k : Local) → Named e.task (resume_steps e k)
  resume_named k = spend_named (resume_spends e k)

pub call_named : (s : Shape) (t : HeapCall) (k : Start) → Named t (steps_of s t k)
call_named s t k = spend_named (call_spends s t k)
