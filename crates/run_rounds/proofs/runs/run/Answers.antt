use Rattle.std.proofs.Common.{◌≡◌, ◌⊎◌, List, length, sym, ap, ◌∙◌, subst, All, Any, true, false}
use Rattle.std.proofs.lemmas.List.{length-map}
use Rattle.plain_monitor.specs.History.{LegalObjects}
use Rattle.plain_history.specs.ExactStamps.{StampsAreExact}
use Rattle.heap_table.specs.BiasesAtEnd.{BiasesAtEnd}
use Rattle.heap_table.specs.Seen.{PassSeen, IsOf, InOrder, knowns, logs_of}
use Rattle.object_program.specs.Program.{shape_of}
use Rattle.run_rounds.specs.Rounds.{AreRunners, AreTimed}
use Rattle.run_rounds.proofs.Closing.{IsClosed, has_run}
use Rattle.run_rounds.proofs.Ending.{passes, all_of, all_whole, all_still, ordered, quiet}
use Rattle.run_rounds.proofs.Over.{Laws}
use Rattle.run_rounds.proofs.runs.run.Goals as goal

pub serve_until_over-requires-clause-runners : goal.serve_until_over-requires-clause-runners
serve_until_over-requires-clause-runners g c κs within =
    subst (AreRunners c.args.heap c.args.terms.now.program.now c.args.terms.now.fuel) (sym c.into_vec-runners.ensures) c.requires.runners.runners

pub serve_until_over-requires-clause-timed : goal.serve_until_over-requires-clause-timed
serve_until_over-requires-clause-timed g c κs within =
    subst (AreTimed c.args.terms.now.tick) (sym c.into_vec-runners.ensures) c.requires.runners.timed

-- the passes are those of the runners, in their order
pub close-requires-clause-passes : goal.close-requires-clause-passes
close-requires-clause-passes g c =
    let done = c.in_ok-runners.ensures in
    let rs = c.in_ok-runners.runners.items in
    let same : c.of.result ≡ passes rs = c.of.ensures ∙ c.into_passes-passes.ensures in
    subst (All (IsOf c.args.heap)) (sym same) (all_of c.args.heap c.args.terms.now.program.now c.args.terms.now.fuel rs done.runners)

pub close-requires-clause-order : goal.close-requires-clause-order
close-requires-clause-order g c =
    let done = c.in_ok-runners.ensures in
    let rs = c.in_ok-runners.runners.items in
    let same : c.of.result ≡ passes rs = c.of.ensures ∙ c.into_passes-passes.ensures in
    let many : length rs ≡ c.args.heap.heap.shape.threads = done.many ∙ ap length c.into_vec-runners.ensures ∙ c.requires.runners.count in
    subst (λ (ps : List PassSeen). InOrder 0 (knowns ps) × (length ps ≡ c.args.heap.heap.shape.threads)) (sym same) (
      ordered c.args.heap c.args.terms.now.program.now c.args.terms.now.fuel rs done.runners,
      length-map rs (λ r. r.pass) ∙ many,
    )

pub close-requires-clause-stopped : goal.close-requires-clause-stopped
close-requires-clause-stopped g c =
    let rs = c.in_ok-runners.runners.items in
    let same : c.of.result ≡ passes rs = c.of.ensures ∙ c.into_passes-passes.ensures in
    subst (All (λ (p : PassSeen). p.known.running ≡ false)) (sym same)
    (all_still c.args.heap c.args.terms.now.program.now c.args.terms.now.fuel rs c.in_ok-runners.ensures.runners)

pub close-requires-clause-quiet : goal.close-requires-clause-quiet
close-requires-clause-quiet g c =
    let done = c.in_ok-runners.ensures in
    let rs = c.in_ok-runners.runners.items in
    let same : c.of.result ≡ passes rs = c.of.ensures ∙ c.into_passes-passes.ensures in
    subst (λ (ps : List PassSeen). All (λ (p : PassSeen). p.known.requesting ≡ false) ps ⊎ Any (λ (p : PassSeen). p.known.halted ≡ true) ps)
    (sym same) (quiet c.args.heap c.args.terms.now.program.now c.args.terms.now.fuel rs done.runners done.over.0 done.over.1)

pub returns : goal.returns
returns g c =
    let done = c.in_ok-runners.ensures in
    let rs = c.in_ok-runners.runners.items in
    let terms = c.args.terms.now in
    let p = terms.program.now in
    let logs = logs_of (passes rs) in
    let same : c.of.result ≡ passes rs = c.of.ensures ∙ c.into_passes-passes.ensures in
    let many : length rs ≡ c.args.heap.heap.shape.threads = done.many ∙ ap length c.into_vec-runners.ensures ∙ c.requires.runners.count in
    let heap = c.args.heap in
    let whole : c.close.result.logs ≡ logs_of c.of.result =
    c.close.ensures.whole (subst (All (λ (p : PassSeen). p.limit ≡ heap.room))
    (sym same) (all_whole heap p terms.fuel rs done.runners c.requires.runners.room)) in
    let closed : IsClosed c.args.heap c.of.result c.close.result = record {
      heap = c.close.ensures.heap;
      law = c.close.ensures.law;
      world = c.close.ensures.world;
      logs = whole;
      shots = c.close.ensures.shots;
      counts = c.close.ensures.counts;
      legal = subst (LegalObjects heap.heap.shape.objects) (sym whole) c.close.ensures.legal;
      stamps = subst StampsAreExact (sym whole) c.close.ensures.stamps;
      biases = λ nothing. subst (λ l. BiasesAtEnd 0 heap.heap c.close.result.words l (knowns c.of.result)) (sym whole) (c.close.ensures.biases nothing);
      biases_stuck = λ nothing.
          subst (λ l. BiasesAtEnd 1 heap.heap c.close.result.words l (knowns c.of.result)) (sym whole) (c.close.ensures.biases_stuck nothing);
    } in
    let laws : Laws p terms.fuel logs = record {
      objects = c.the_machine_is_what_the_logs_make_it.ensures.objects p terms.fuel logs;
      threads = c.the_machine_is_what_the_logs_make_it.ensures.threads p terms.fuel logs;
      each = λ t m s. c.the_machine_is_what_the_logs_make_it.ensures.each p terms.fuel t logs m s;
      waits = λ t o log s. c.a_log_tells_where_its_thread_stands.ensures.waits p terms.fuel t o log s;
      ends = λ t log s. c.a_log_tells_where_its_thread_stands.ensures.ends p terms.fuel t log s;
      listed = λ objects t o x. c.waits_follow_from_the_own_log.ensures (shape_of p) logs objects t o x;
    } in
    has_run c.args.heap p terms.fuel rs done.runners c.requires.program many c.close.result
    (subst (λ (ps : List PassSeen). IsClosed c.args.heap ps c.close.result) same closed) laws done.over.0 done.over.1 terms.tick done.timed

pub serve_until_over-requires-clause-quantum : goal.serve_until_over-requires-clause-quantum
serve_until_over-requires-clause-quantum g c κs within = c.requires.quantum

pub serve_until_over-requires-clause-program : goal.serve_until_over-requires-clause-program
serve_until_over-requires-clause-program g c κs within = c.requires.program
