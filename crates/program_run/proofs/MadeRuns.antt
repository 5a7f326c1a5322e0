-- A plain run is made by a record and a closed heap, where its enters have paths that the law of biases allows.
use Rattle.std.proofs.Common.{◌≡◌, ℕ, zero, suc, ◌+◌, ◌-◌, ◌*◌, ◌<◌, ◌≤◌, Bool, true, false, if◌then◌else◌, List, []}
use Rattle.std.proofs.Common.{◌∷◌, ◌++◌, length, map, Option, Some, None, refl, sym, ap, ◌∙◌, subst, inl, inr, arith}
use Rattle.std.specs.Prelude.{slice_get, slice_index, slice_index_or}
use Rattle.std.specs.List.{AllByRecursion, list_any}
use Rattle.std.proofs.lemmas.List.{get_or-append_right, get_or_append_left, get_or_past, length-map}
use Rattle.std.proofs.lemmas.List.Sums.{sum_by-cons}
use Rattle.std.proofs.lemmas.Option.{same_Some}
use Rattle.core_law.specs.Draws.{HasDraws}
use Rattle.core_law.specs.TakenBiases.{OwnsAreTaken, times_taken}
use Rattle.core_world.specs.Threads.ThreadView.{DumpShot}
use Rattle.core_world.specs.Trees.SafepointSteps.{halted_word}
use Rattle.core_world.specs.Words.Forms.{halted_form, is_halted}
use Rattle.hash_laws.proofs.LegalHashes.{fitting_hashes_are_draws, legal_hashes_fit}
use Rattle.heap_table.specs.declared.counts.ClassCounts.{ClassCounts}
use Rattle.heap_table.specs.Seen.{ClosedSeen}
use Rattle.heap_table.specs.Tallies.{capped}
use Rattle.lock_journal.specs.declared.record.Cell.{Cell}
use Rattle.lock_journal.specs.declared.record.ClassLine.{ClassLine}
use Rattle.lock_journal.specs.declared.record.RunRecord.{RunRecord}
use Rattle.lock_journal.specs.declared.record.Shot.{Shot}
use Rattle.single_thread_law.specs.LoneRun.{NoneGoesOn, with_no_paths}
use Rattle.mark_word.proofs.ReadingSafepoints.{read_safe-safe_of}
use Rattle.object_program.specs.Program.{ProgramText}
use Rattle.plain_history.specs.EnterPaths.{EndsStay, PathsFit, entries_on, first_path, needs_bias}
use Rattle.plain_history.specs.HeldByLog.{nothing_held}
use Rattle.plain_history.specs.ExactStamps.{StampsAreExact}
use Rattle.plain_machine.specs.Legal.{IsLegal, machine_after}
use Rattle.plain_machine.specs.Machine.{PlainMachine}
use Rattle.plain_monitor.specs.declared.entry.Logged.{Logged}
use Rattle.plain_monitor.specs.declared.entry.Path.{Path}
use Rattle.plain_monitor.specs.declared.entry.Path.TheVariants.{BiasTaken}
use Rattle.plain_monitor.specs.History.{log_of}
use Rattle.plain_monitor.specs.Order.{order}
use Rattle.plain_monitor.proofs.Lists.{all_push}
use Rattle.run_rounds.specs.Outcome.{IsOver}
use Rattle.program_run.specs.declared.settings.Settings.{Settings}
use Rattle.program_run.specs.Biases.{RecordObeysBiasLaw, IsEven, IsIdle, IsLine, prototype_by}
use Rattle.program_run.specs.HeapFor.{heap_for}
use Rattle.program_run.specs.Left.{cells_left, shot_left, shots_left}
use Rattle.program_run.specs.Lines.{counts_on, line_of, lines_below, no_counts, total_on}
use Rattle.program_run.specs.PlainRun.{IsMadeBy, IsPlainRun}
use Rattle.program_run.specs.Ran.{IsRan}
use Rattle.program_run.specs.Shots.{AreRightShots}
use Rattle.program_run.specs.Verdicts.{IsSum, verdicts_by}
use Rattle.program_run.proofs.Counted.{capped_few}
use Rattle.program_run.proofs.LinesBelow.{line_at, lines_many}
use Rattle.program_run.proofs.BareShots.{shots_from}
use Rattle.program_run.proofs.NoPaths.{after_bare, draws_from, legal_from, stamps_from}

-- PATHS that the law of biases allows, where no verdict was counted, for the enters of these logs
pub record HasPaths (biased : Bool) (plain_logs : List (List Logged)) : Type 0 where
  pub logs : List (List Logged)
  pub same : with_no_paths logs ≡ with_no_paths plain_logs
  pub many : length logs ≡ length plain_logs
  pub stays : (o : ℕ) → EndsStay (entries_on o (order logs))
  pub paths : (t : ℕ) → PathsFit nothing_held (log_of logs t)
  pub entered : biased ≡ true → (o : ℕ) (path : Path) → first_path (entries_on o (order logs)) ≡ Some path → path ≡ BiasTaken
  pub plain : biased ≡ false → (o : ℕ) → list_any needs_bias (entries_on o (order logs)) ≡ false
  pub taken : (t : ℕ) → OwnsAreTaken (log_of logs t)
  pub few : (o : ℕ) → times_taken o (entries_on o (order logs)) ≤ 1

-- WORDS. The prototype of each class is as it was at first, and its count 0.
abbrev first_prototype : Bool → ℕ
first_prototype biased = if biased then 5 else 1

abbrev class_block : Bool → List ℕ
class_block biased = first_prototype biased ∷ 0 ∷ 0 ∷ 0 ∷ 0 ∷ 0 ∷ 0 ∷ 0 ∷ 0 ∷ 0 ∷ 0 ∷ 0 ∷ 0 ∷ 0 ∷ 0 ∷ 0 ∷ []

abbrev blocks : Bool → ℕ → List ℕ
blocks biased zero = []
blocks biased (suc n) = class_block biased ++ blocks biased n

abbrev first_word : Bool → ℕ
first_word halted = if halted then halted_word else 0

abbrev heap_block : Bool → List ℕ
heap_block halted = first_word halted ∷ 0 ∷ 0 ∷ 0 ∷ 0 ∷ 0 ∷ 0 ∷ 0 ∷ 0 ∷ 0 ∷ 0 ∷ 0 ∷ 0 ∷ 0 ∷ 0 ∷ 0 ∷ []

abbrev words_of : Bool → Bool → ℕ → List ℕ
words_of halted biased n = heap_block halted ++ blocks biased n

first_says : (halted : Bool) → is_halted (first_word halted) ≡ halted
first_says true = ap halted_form (read_safe-safe_of (record { running = 0; requester = None; halted = true }) (omega arith, tt))
first_says false = ap halted_form (read_safe-safe_of (record { running = 0; requester = None; halted = false }) (omega arith, tt))

block_at : (biased : Bool) (n k j : ℕ) → k < n → j < 16 → slice_index (blocks biased n) (16 * k + j) ≡ slice_index (class_block biased) j
block_at biased zero k j within small = absurd (omega (arith, within))
block_at biased (suc n) zero j within small =
    let e : 16 * 0 + j ≡ j = omega arith in
    ap (λ (i : ℕ). slice_index (class_block biased ++ blocks biased n) i) e ∙ get_or_append_left (class_block biased) (blocks biased n) 0 j small
block_at biased (suc n) (suc k) j within small =
    let e : 16 * suc k + j - 16 ≡ 16 * k + j = omega arith in
    get_or-append_right (class_block biased) (blocks biased n) 16 (16 * suc k + j) 0 refl (omega arith)
    ∙ ap (λ (i : ℕ). slice_index (blocks biased n) i) e ∙ block_at biased n k j (omega (arith, within)) small

word_at : (halted biased : Bool) (n k j : ℕ) → k < n → j < 16
    → slice_index (words_of halted biased n) (16 + 16 * k + j) ≡ slice_index (class_block biased) j
word_at halted biased n k j within small =
    let e : 16 + 16 * k + j - 16 ≡ 16 * k + j = omega arith in
    get_or-append_right (heap_block halted) (blocks biased n) 16 (16 + 16 * k + j) 0 refl (omega arith)
    ∙ ap (λ (i : ℕ). slice_index (blocks biased n) i) e ∙ block_at biased n k j within small

-- COUNTS
nothing_on : (k : ℕ) → counts_on [] k ≡ no_counts
nothing_on k = get_or_past [] k no_counts (omega arith)

none_counted : (number : ClassCounts → ℕ) (logs : List (List Logged)) (k : ℕ) → number (counts_on [] k) ≡ 0
    → total_on number (map (λ (log : List Logged). []) logs) k ≡ 0
none_counted number [] k none = refl
none_counted number (log ∷ logs) k none =
    let first = sum_by-cons (λ own. number (counts_on own k)) [] (map (λ (log : List Logged). []) logs) in
    let rest = none_counted number logs k none in
    omega (arith, first, none, rest)

none_of : (logs : List (List Logged)) (t : ℕ) → verdicts_by (slice_index_or (map (λ (log : List Logged). []) logs) t []) ≡ 0
none_of [] zero = refl
none_of [] (suc t) = refl
none_of (log ∷ logs) zero = refl
none_of (log ∷ logs) (suc t) = none_of logs t

-- SHOTS
abbrev cell_back : Cell → Option ℕ × ℕ
cell_back cell = (cell.owner, cell.count)

abbrev shot_back : Shot → DumpShot
shot_back shot = record { number = shot.number; cut = shot.cut; cells = map cell_back shot.cells }

cells_again : (cells : List Cell) → cells_left (map cell_back cells) ≡ cells
cells_again [] = refl
cells_again (cell ∷ cells) = ap (λ (cs : List Cell). cell ∷ cs) (cells_again cells)

shot_again : (shot : Shot) → shot_left (shot_back shot) ≡ shot
shot_again shot = λ i. record { number = shot.number; cut = shot.cut; cells = cells_again shot.cells i }

own_again : (shots : List Shot) → shots_left (map shot_back shots) ≡ shots
own_again [] = refl
own_again (shot ∷ shots) = λ i. shot_again shot i ∷ own_again shots i

shots_again : (shots : List (List Shot)) → map shots_left (map (λ (own : List Shot). map shot_back own) shots) ≡ shots
shots_again [] = refl
shots_again (own ∷ shots) = λ i. own_again own i ∷ shots_again shots i

-- LINES
abbrev idle_line : Bool → ClassLine
idle_line biased = record { single = 0; rebias = 0; revoke = 0; count = 0; prototype = first_prototype biased }

first_is : (biased : Bool) → first_prototype biased ≡ prototype_by biased (idle_line biased)
first_is true = refl
first_is false = refl

idle_fits : (biased : Bool) (resets : ℕ) → IsLine resets (idle_line biased)
idle_fits biased resets =
    record {
      revoked = refl;
      rebiased = λ h. absurd (omega (arith, h));
      spent = omega arith;
      few = omega arith;
      capped = omega arith;
      even = λ e. refl;
      rebias_once = λ e. refl;
      revoke_once = λ e. refl;
    }

all_lines_in : (c : ClosedSeen) (P : ClassLine → Type 0) (many n : ℕ) → ((k : ℕ) → k < many → P (line_of c k)) → n ≤ many
    → AllByRecursion P (lines_below c n)
all_lines_in c P many zero each h = tt
all_lines_in c P many (suc n) each h =
    all_push P (lines_below c n) (line_of c n) (all_lines_in c P many n each (omega (arith, h))) (each n (omega (arith, h)))

-- how a machine is over
record IsOverSo (m : PlainMachine) : Type 0 where
  halted : Bool
  over : IsOver m halted

over_so : (m : PlainMachine) → NoneGoesOn m → IsOverSo m
over_so m (inl stuck) = record { halted = true; over = stuck }
over_so m (inr ended) = record { halted = false; over = ended }

-- THE RUN
module _ (s : Settings) (p : ProgramText) (plain_logs : List (List Logged)) (shots : List (List Shot)) (m : PlainMachine)
    (plain : IsPlainRun p s.fuel s.start plain_logs shots m) (paths : HasPaths s.bias plain_logs) where
  abbrev halted : Bool
  halted = (over_so m plain.over).halted

  abbrev closed : ClosedSeen
  closed =
      record {
        heap = heap_for s p;
        words = words_of halted s.bias (length p.classes);
        logs = paths.logs;
        shots = map (λ (own : List Shot). map shot_back own) shots;
        counts = map (λ (log : List Logged). []) paths.logs;
      }

  abbrev run : RunRecord
  run =
      record {
        program = p;
        fuel = s.fuel;
        start = s.start;
        bias = s.bias;
        logs = paths.logs;
        shots = shots;
        classes = lines_below closed (length p.classes);
        halted = halted;
      }

  same : with_no_paths paths.logs ≡ plain_logs
  same = paths.same ∙ plain.pathless

  nothing : (number : ClassCounts → ℕ) (k : ℕ) → number (counts_on [] k) ≡ 0 → total_on number closed.counts k ≡ 0
  nothing number k zero_there = none_counted number paths.logs k zero_there

  cut_nothing : (number : ClassCounts → ℕ) (k : ℕ) → number (counts_on [] k) ≡ 0 → capped (total_on number closed.counts k) ≡ 0
  cut_nothing number k zero_there = ap capped (nothing number k zero_there) ∙ capped_few 0 (omega arith)

  line_is : (k : ℕ) → k < length p.classes → line_of closed k ≡ idle_line s.bias
  line_is k within =
      let single = cut_nothing (λ n. n.single) k (ap (λ (n : ClassCounts). n.single) (nothing_on k)) in
      let rebias = cut_nothing (λ n. n.rebias) k (ap (λ (n : ClassCounts). n.rebias) (nothing_on k)) in
      let revoke = cut_nothing (λ n. n.revoke) k (ap (λ (n : ClassCounts). n.revoke) (nothing_on k)) in
      let at : 16 + 16 * k ≡ 16 + 16 * k + 0 = omega arith in
      let count : (line_of closed k).count ≡ 0 = word_at halted s.bias (length p.classes) k 1 within (omega arith) in
      let prototype : (line_of closed k).prototype ≡ first_prototype s.bias =
      ap (λ (i : ℕ). slice_index (words_of halted s.bias (length p.classes)) i) at
      ∙ word_at halted s.bias (length p.classes) k 0 within (omega arith) in
      λ i. record { single = single i; rebias = rebias i; revoke = revoke i; count = count i; prototype = prototype i }

  -- what holds of an idle line holds of a line of the record
  each_line : (P : ClassLine → Type 0) → P (idle_line s.bias) → (k : ℕ) (line : ClassLine) → slice_get run.classes k ≡ Some line → P line
  each_line P idle k line e =
      let at = line_at closed (length p.classes) k line e in
      subst P (sym (line_is k at.0) ∙ at.1) idle

  all_lines : (P : ClassLine → Type 0) → P (idle_line s.bias) → AllByRecursion P run.classes
  all_lines P idle =
      all_lines_in closed P (length p.classes) (length p.classes) (λ k within. subst P (sym (line_is k within)) idle) (omega arith)

  sum_is : (k : ℕ) → IsSum closed.counts k (idle_line s.bias)
  sum_is k =
      record {
        single = sym (nothing (λ n. n.single) k (ap (λ (n : ClassCounts). n.single) (nothing_on k)));
        rebias = sym (nothing (λ n. n.rebias) k (ap (λ (n : ClassCounts). n.rebias) (nothing_on k)));
        revoke = sym (nothing (λ n. n.revoke) k (ap (λ (n : ClassCounts). n.revoke) (nothing_on k)));
      }

  biases : RecordObeysBiasLaw s.tick run closed
  biases =
      record {
        stays = paths.stays;
        paths = paths.paths;
        entered = λ biased o k path class unrevoked first. inl (paths.entered biased o path first);
        counts = λ k. each_line (IsLine (total_on (λ n. n.reset) closed.counts k)) (idle_fits s.bias _) k;
        counted = length-map paths.logs (λ (log : List Logged). []);
        verdicts = λ t. let zero_there = none_of paths.logs t in omega (arith, zero_there);
        sums = λ k. each_line (IsSum closed.counts k) (sum_is k) k;
        even = λ still. all_lines IsEven (record { count = refl; rebias = refl; revoke = refl });
        prototypes = all_lines (λ line. line.prototype ≡ prototype_by s.bias line) (first_is s.bias);
        plain = paths.plain;
        idle = λ unbiased. all_lines IsIdle (refl, refl, refl, refl);
        taken = paths.taken;
        few = λ o k line class.
            let few = paths.few o in
            each_line (λ line. times_taken o (entries_on o (order paths.logs)) ≤ line.rebias + 1) (omega (arith, few)) k line;
      }

  over : (n : PlainMachine) → machine_after p s.fuel paths.logs ≡ Some n → IsOver n halted
  over n after =
      let is : m ≡ n = same_Some m n
      (sym plain.under ∙ ap (machine_after p s.fuel) (sym same) ∙ after_bare p s.fuel paths.logs ∙ after) in
      subst (λ (x : PlainMachine). IsOver x halted) is (over_so m plain.over).over

  legal : IsLegal p s.fuel paths.logs
  legal = legal_from p s.fuel paths.logs (subst (λ (ls : List (List Logged)). IsLegal p s.fuel ls) (sym same) plain.legal)

  draws : HasDraws s.start paths.logs
  draws =
      draws_from s.start paths.logs
      (subst (λ (ls : List (List Logged)). HasDraws s.start ls) (sym same)
      (fitting_hashes_are_draws p s.fuel s.start plain_logs plain.legal plain.hashes plain.first))

  ran : IsRan s p run closed
  ran =
      record {
        of = record { program = refl; fuel = refl; start = refl; bias = refl };
        closed = record { logs = refl; shots = sym (shots_again shots); classes = refl; halted = sym (first_says halted) };
        heap = refl;
        all = record {
          logs = paths.many ∙ plain.all_logs;
          shots = plain.all_shots;
          classes = lines_many closed (length p.classes);
        };
        legal = legal;
        over = over;
        shots = shots_from p s.fuel paths.logs shots
            (subst (λ (ls : List (List Logged)). AreRightShots p s.fuel ls shots) (sym same) plain.right);
        hashes = legal_hashes_fit p s.fuel s.start paths.logs legal draws;
        first = draws.first;
        stamps = stamps_from paths.logs (subst (λ (ls : List (List Logged)). StampsAreExact ls) (sym same) plain.stamps);
        biases = biases;
      }

  pub made_with : IsMadeBy s p plain_logs shots
  made_with = record { run = run; closed = closed; ran = ran; logs_are = same; shots_are = refl }
