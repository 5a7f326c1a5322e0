-- A small heap without biases, of one thread and one object, and worlds to which it comes by the steps of its thread.
use Rattle.std.specs.Prelude.{ℕ, [], ◌∷◌, false}
use Rattle.mark_word.specs.Mark.{mark_of}
use Rattle.mark_word.specs.Owner.{owner_of}
use Rattle.mark_word.specs.declared.mark.MarkForm.TheVariants.{Neutral, Locked}
use Rattle.mark_word.specs.declared.owner.OwnerForm.TheVariants.{ByRecord}
use Rattle.plain_monitor.specs.declared.entry.Path.TheVariants.{StackFirst}
use Rattle.core_world.specs.declared.word_id.WordId.TheVariants.{Safepoint, Mark, Displaced, Owner, Recursions, Header, Object}
use Rattle.core_world.specs.declared.stage.Stage.{Stage}
use Rattle.core_world.specs.declared.stage.Stage.TheVariants.{Settled, Inflates}
use Rattle.core_world.specs.declared.heap_call.Operation.TheVariants as op
use Rattle.core_world.specs.declared.heap_call.HeapCall.TheVariants.{Resume, StackEnter, Hash, Request, Reached}
use Rattle.core_world.specs.Trees.Calls.{side_context}
use Rattle.core_world.specs.Threads.ThreadView.{ThreadView, start_of, draw_of}
use Rattle.core_world.specs.Opening.{opening, first_known}
use Rattle.core_world.specs.Trees.Operations.{lone_context}
use Rattle.core_world.specs.Trees.Plans.{CallContext, call_context, load, load_plan}
use Rattle.core_world.specs.Trees.HashSteps.{NextDraw, find_hash_plan, draw_plan}
use Rattle.core_world.specs.Trees.MonitorSteps.{claim_plan, fetch_plan, inflate_plan, prepare_plan, name_plan}
use Rattle.core_world.specs.Trees.SafepointSteps.{resume_plan, request_plan, released_word}
use Rattle.core_world.specs.Steps.{world_after}
use Rattle.core_world.specs.World.{World}
use Rattle.core_world.specs.Trees.LockSteps.{hold_plan, log_enter_plan, seize_plan, displace_plan}
use Rattle.core_law.specs.Logic.{Heap}

abbrev pub small : Heap
small = record { shape = record { threads = 1; classes = 1; declared = 1; objects = (0, 0) ∷ [] }; start = 0; biasing = false }

-- the thread has loaded the safepoint word, to resume; and it runs
abbrev pub resuming : CallContext
resuming = side_context Resume (start_of small.start (first_known 0))

abbrev pub looked : World
looked = world_after (load resuming Safepoint) 0 (opening small.shape small.start small.biasing)

abbrev pub running : World
running = world_after (resume_plan resuming 0 0) 0 looked

-- It enters the object, whose mark is neutral: it has stored the displaced word; exchanged the mark; stored the hold word; logged its Enter.
abbrev pub neutral : ℕ
neutral = mark_of (Neutral 0 0)

abbrev pub entering : CallContext
entering = lone_context (StackEnter 0 neutral)

abbrev pub displaced : World
displaced = world_after (displace_plan entering Settled 0 0 neutral) 0 running

abbrev pub seized : World
seized = world_after (seize_plan entering 0 0 neutral 0) 0 displaced

abbrev pub held : World
held = world_after (hold_plan entering 0 0 1 0 StackFirst) 0 seized

abbrev pub entered : World
entered = world_after (log_enter_plan entering 0 StackFirst) 0 held

-- It goes on to draw the object's hash, for which it inflates the lock with the monitor 0: it has looked at the mark and at the displaced word, loaded
-- the mark to inflate it, claimed a position, and loaded its place; exchanged the mark for 0, and loaded the displaced word.
abbrev pub hashing : CallContext
hashing = call_context (Hash 0 0) op.Hash 0

abbrev pub unbiased : World
unbiased = world_after (load hashing (Mark 0)) 0 entered

abbrev pub unfound : World
unfound = world_after (find_hash_plan hashing (Displaced 0 0) 0) 0 (world_after (find_hash_plan hashing (Mark 0) 0) 0 unbiased)

abbrev pub claimed : World
claimed = world_after (claim_plan hashing) 0 (world_after (load hashing (Mark 0)) 0 unfound)

abbrev pub keeping : World
keeping = world_after (fetch_plan hashing small.shape 0) 0 claimed

abbrev pub locked : ℕ
locked = mark_of (Locked 0 0)

abbrev pub inflating : Stage
inflating = Inflates 0 0 0

abbrev pub copied : World
copied = world_after (load_plan hashing inflating (Displaced 0 0)) 0 (world_after (inflate_plan hashing 0 locked 0 0) 0 keeping)

-- It has stored the words of the monitor, and the mark that names it; found no hash in its header, and exchanged that for one with the hash.
abbrev pub headed : World
headed = world_after (prepare_plan hashing inflating (Header 0) neutral) 0 copied

abbrev pub owned : World
owned = world_after (prepare_plan hashing inflating (Owner 0) (owner_of (ByRecord 0 0))) 0 headed

abbrev pub counted : World
counted = world_after (prepare_plan hashing inflating (Recursions 0) 0) 0 owned

abbrev pub prepared : World
prepared = world_after (prepare_plan hashing inflating (Object 0) 0) 0 counted

abbrev pub named : World
named = world_after (name_plan hashing 0 0) 0 prepared

abbrev pub drawing : NextDraw
drawing = record { number = 1; value = draw_of small.start 0 1 }

abbrev pub drawn : World
drawn = world_after (draw_plan hashing drawing (Header 0) 0 neutral) 0 (world_after (find_hash_plan hashing (Header 0) 0) 0 named)

-- And it asks for a safepoint: it has requested it, and seen that nobody runs.
abbrev pub requested : World
requested = world_after (request_plan (lone_context Request) 0 (released_word 0)) 0 (world_after (load (lone_context Request) Safepoint) 0 drawn)

abbrev pub reached : World
reached = world_after (load (lone_context Reached) Safepoint) 0 requested

-- what the thread knows in such a world
abbrev pub known_in : World → ThreadView
known_in w = w.known 0
