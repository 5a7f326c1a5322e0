-- What a mirror shows of a thread: it shows the same of two threads that agree in all but what it leaves out.
use Rattle.std.proofs.Common.{◌≡◌, ◌≤◌, ◌+◌, None, [], length, sym, ap, ◌∙◌, subst}
use Rattle.plain_monitor.specs.History.{last_stamp}
use Rattle.plain_history.specs.Known.{news}
use Rattle.core_world.specs.declared.stage.Stage.TheVariants.{Settled}
use Rattle.core_world.specs.Threads.ThreadView.{ThreadView, Still}
use Rattle.lock_policy.specs.Draws.{state_after}
use Rattle.heap_table.specs.Kept.{Mirrors, IsPageFrom}
use Rattle.heap_table.specs.Tallies.{counts_shown}
use Rattle.heap_table.specs.declared.mirror.Mirror.{Mirror}

-- all but its stage, what it has in hand, and its steps
abbrev pub mirrored : ThreadView → ThreadView
mirrored k = record k { moving = Still; stage = Settled; seen = []; seen_at_safepoint = []; steps = []; call = None }

pub mirrors_by : {m : Mirror} {j k : ThreadView} → mirrored j ≡ mirrored k → Mirrors m k → Mirrors m j
mirrors_by {m = m} same f = record {
  thread = ap (λ (x : ThreadView). x.thread) same ∙ f.thread;
  log = subst (λ (x : ThreadView). IsPageFrom m.keeps m.given x.log m.log.items) (sym same) f.log;
  last = ap (λ (x : ThreadView). last_stamp x.log) same ∙ f.last;
  running = ap (λ (x : ThreadView). x.running) same ∙ f.running;
  requesting = ap (λ (x : ThreadView). x.requesting) same ∙ f.requesting;
  reached = ap (λ (x : ThreadView). x.reached) same ∙ f.reached;
  halted = ap (λ (x : ThreadView). x.halted) same ∙ f.halted;
  kept = ap (λ (x : ThreadView). x.kept) same ∙ f.kept;
  saved = ap (λ (x : ThreadView). x.saved) same ∙ f.saved;
  holds = ap (λ (x : ThreadView). x.holds) same ∙ f.holds;
  wait = ap (λ (x : ThreadView). x.wait) same ∙ f.wait;
  published = ap (λ (x : ThreadView). x.published) same ∙ f.published;
  unfinished = ap (λ (x : ThreadView). x.unfinished) same ∙ f.unfinished;
  checking = ap (λ (x : ThreadView). x.checking) same ∙ f.checking;
  counts = f.counts ∙ ap (λ (x : ThreadView). counts_shown 0 m.classes x.counts) (sym same);
  draws = ap (λ (x : ThreadView). x.draws) same ∙ f.draws;
  made = ap (λ (x : ThreadView). length (news x.log)) same ∙ f.made;
  shots = ap (λ (x : ThreadView). x.shots) same ∙ f.shots;
  few = subst (λ (x : ThreadView). x.draws ≤ length x.log) (sym same) f.few;
  generator = f.generator ∙ ap (λ (x : ThreadView). state_after m.first (x.draws + 1)) (sym same);
}
