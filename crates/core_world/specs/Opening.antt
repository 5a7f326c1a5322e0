-- The world before the first step.
use Rattle.std.specs.Prelude.{ℕ, nat_lt, ◌&&◌, Bool, false, if◌then◌else◌, [], replicate, None, pos}
use Rattle.mark_word.specs.Mark.{mark_of}
use Rattle.mark_word.specs.declared.mark.MarkForm.TheVariants.{Neutral, Anonymous}
use Rattle.plain_monitor.specs.Limits.{most_holds}
use Rattle.plain_monitor.specs.ValueWords.{word_of}
use Rattle.plain_monitor.specs.declared.entry.Value.TheVariants.{Int}
use Rattle.core_world.specs.declared.word_id.WordId.{WordId}
use Rattle.core_world.specs.declared.word_id.WordId.TheVariants.{Prototype, Mark, Slot, End, Ring}
use Rattle.core_world.specs.declared.stage.Stage.TheVariants.{Settled}
use Rattle.core_world.specs.Words.Shape.{Shape, monitor_count}
use Rattle.core_world.specs.Threads.ThreadView.{ThreadView, Still}
use Rattle.core_world.specs.World.{World}

-- the prototype of each class, and so the mark of each declared object: biased to nobody at epoch 0, or neutral
abbrev pub first_mark : Bool → ℕ
first_mark biasing = if biasing then mark_of (Anonymous 0 0) else mark_of (Neutral 0 0)

-- an object that isn't made yet has a neutral mark; each slot has the number 0, the ring has each
-- monitor at the place of its number, and every other word is 0; a place after the monitors has its
-- own number, which nobody reads
abbrev pub first_word : Shape → Bool → WordId → ℕ
first_word s biasing (Prototype c) = first_mark biasing
first_word s biasing (Mark o) = first_mark (biasing && nat_lt o s.declared)
first_word s biasing (Slot o i) = word_of (Int (pos 0))
first_word s biasing End = monitor_count s
first_word s biasing (Ring p) = p
first_word s biasing _ = 0

-- a thread that is stopped and has made no step
abbrev pub first_known : ℕ → ThreadView
first_known t =
    record {
      thread = t;
      log = [];
      running = false;
      requesting = false;
      reached = false;
      halted = false;
      kept = None;
      moving = Still;
      saved = 0;
      holds = replicate most_holds 0;
      wait = 0;
      published = 0;
      stage = Settled;
      unfinished = None;
      checking = false;
      counts = [];
      draws = 0;
      shots = [];
      seen = [];
      seen_at_safepoint = [];
      steps = [];
      call = None;
    }

abbrev pub opening : Shape → ℕ → Bool → World
opening s start biasing =
    record { shape = s; start = start; biasing = biasing; words = first_word s biasing; known = first_known }
