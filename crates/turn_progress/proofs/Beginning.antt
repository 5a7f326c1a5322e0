-- Where turns begin: a heap of one thread, and a runner of it before its first turn.
use Rattle.std.proofs.Common.{◌≡◌, true, [], refl, arith}
use Rattle.mark_word.specs.Safe.{read_safe}
use Rattle.core_world.specs.Words.Shape.{IsInLimits}
use Rattle.core_law.specs.Reached.{IsReachable}
use Rattle.core_steps.specs.SmallWorlds.{small, running}
use Rattle.core_steps.proofs.SmallWorlds.{comes_running}
use Rattle.heap_table.specs.Seen.{HeapSeen, first_pass}
use Rattle.thread_frame.specs.Frames.{first_frame}
use Rattle.thread_interp.specs.Runners.{RunnerSeen}

pub runs : (small.shape.threads ≡ 1) × IsReachable small running × ((running.known 0).running ≡ true)
unfolding read_safe
runs = (refl, comes_running, refl)

pub limits : IsInLimits small.shape
limits = record { threads = omega arith; classes = omega arith; declared = omega arith; objects = omega arith; each = ((omega arith, omega arith), tt) }

abbrev pub heap : HeapSeen
heap =
    record {
      table = record { words = 0; slots = 0; views_name = 0; atom = 0; block = 0; offset = 0; slot_names = [] };
      heap = small;
      room = 0;
    }

abbrev pub runner : RunnerSeen
runner = record { pass = first_pass heap 0 0; frame = first_frame 0; fuel = 0 }
