-- A run of a program, told by its record.
use Rattle.std.proofs.Common.{◌≡◌, ℕ, ◌+◌, ◌<◌, ◌≤◌, inl, inr, Bool, true, false, List, [], length, Some, refl, sym, ap, ◌∙◌, subst, arith}
use Rattle.std.specs.Prelude.{◌⊎◌, slice_get, slice_index_or, Option, None, IsSome, option_and_then}
use Rattle.std.proofs.lemmas.Bool.{cases_lt}
use Rattle.std.specs.List.{AllByRecursion, list_any}
use Rattle.plain_history.specs.HeldByLog.{nothing_held}
use Rattle.std.proofs.lemmas.List.{length-map}
use Rattle.plain_history.specs.ExactStamps.{StampsAreExact}
use Rattle.plain_history.specs.FirstDraws.{DrawsComeFirst}
use Rattle.plain_history.specs.EnterPaths.{entries_on, first_path, needs_bias, EndsStay, PathsFit}
use Rattle.plain_monitor.specs.Limits.{most_fuel}
use Rattle.plain_monitor.specs.declared.entry.Logged.{Logged}
use Rattle.plain_monitor.specs.declared.entry.Path.{Path}
use Rattle.plain_monitor.specs.declared.entry.Path.TheVariants.{BiasTaken}
use Rattle.plain_monitor.specs.History.{log_of, objects_after}
use Rattle.plain_monitor.specs.Made.{IsMadeInTime, Numbering, class_if_there, made_after}
use Rattle.plain_monitor.specs.Objects.{new_object, new_objects}
use Rattle.plain_monitor.specs.Order.{order}
use Rattle.plain_history.specs.Cuts.{cut_logs}
use Rattle.plain_history.proofs.Joined.{first_some}
use Rattle.core_law.specs.BiasLaw.{is_logged}
use Rattle.core_law.specs.OfARun.{IsHashLogged}
use Rattle.core_law.specs.TakenBiases.{times_taken, OwnsAreTaken}
use Rattle.core_law.specs.Logic.{Heap}
use Rattle.core_world.specs.Threads.ThreadView.{DumpShot, ThreadView}
use Rattle.core_world.specs.Threads.References.{numbering}
use Rattle.heap_table.specs.Seen.{ClosedSeen}
use Rattle.lock_journal.specs.Hashes.{hash_fits}
use Rattle.lock_journal.specs.declared.record.ClassLine.{ClassLine}
use Rattle.lock_journal.specs.declared.record.RunRecord.{RunRecord}
use Rattle.lock_journal.specs.declared.record.Shot.{Shot}
use Rattle.object_program.specs.Program.{ProgramText, numbering_of, shape_of}
use Rattle.object_program.specs.Valid.{IsProgram}
use Rattle.plain_machine.specs.Legal.{IsLegal, machine_after}
use Rattle.plain_machine.specs.Machine.{PlainMachine}
use Rattle.hash_laws.proofs.LegalHashes.{legal_hashes_fit}
use Rattle.closed_heap_laws.specs.OfARun.{IsEnd, logs_in, shots_at, shots_in}
use Rattle.run_rounds.specs.Outcome.{IsRunOutcome, IsOver, verdicts_beyond}
use Rattle.run_rounds.proofs.Numbered.{heap_numbers}
use Rattle.program_run.specs.declared.settings.Settings.{Settings}
use Rattle.program_run.specs.Biases.{RecordObeysBiasLaw, IsEven, IsIdle, IsLine, IsUnrevoked, class_in, prototype_by}
use Rattle.program_run.specs.HeapFor.{heap_for, shape_for}
use Rattle.program_run.specs.Left.{IsOfClosed, shots_left}
use Rattle.program_run.specs.Lines.{line_of, lines_below, total_on}
use Rattle.program_run.specs.inner.Lines.{HasSmallCounts}
use Rattle.program_run.specs.Ran.{HasAll, IsRan, IsRecordOf}
use Rattle.program_run.specs.Shots.{AreRightShots}
use Rattle.program_run.specs.Verdicts.{IsSum, verdicts_by}
use Rattle.program_run.proofs.Biased.{Biased, Plain, all_idle, all_lines, counted_all, even, fits, log_fits}
use Rattle.program_run.proofs.Biased.{prototype_is, revoke_is, small_here, sums_are, verdicts_within}
use Rattle.program_run.proofs.BiasesTaken.{log_owned, taken_few}
use Rattle.program_run.proofs.Classes.{class_at_end, logged_at_end}
use Rattle.program_run.proofs.Cut.{Fronts, Legals, TheirObjects, right_shots}
use Rattle.program_run.proofs.Few.{First, Stay, UseUp, Begins, Works, log_few, most_entries}
use Rattle.program_run.proofs.NotDeclared.{none_on}
use Rattle.program_run.proofs.LinesBelow.{line_at, lines_many}

pub small : (s : Settings) (p : ProgramText) (c : ClosedSeen) → IsRunOutcome (heap_for s p) p s.fuel s.tick c → HasSmallCounts c
small s p c ran = small_here (heap_for s p) c ran.biases ran.heap_is

-- the heap has the program's numbers
numbering_for : (s : Settings) (p : ProgramText) → IsProgram p → numbering (shape_for p) ≡ numbering_of p
numbering_for s p is = heap_numbers (heap_for s p) p (record { program = is; threads = refl; classes = refl; objects = refl; declared = refl })

-- the law that is asked of a heap's end: where its shots cut the logs, each entry finds what it needs
abbrev pub Cuts : Type 0
Cuts = (heap : Heap) (words : List ℕ) (ks : List ThreadView) (t i : ℕ) (s : DumpShot) → IsEnd heap words ks
    → slice_get (shots_at (shots_in ks) t) i ≡ Some s → IsMadeInTime (numbering heap.shape) (cut_logs s.cut (logs_in ks))

some_there : {A : Type 0} (m : Option A) → IsSome m → (x : A) × (m ≡ Some x)
some_there None h = absurd (cc h)
some_there (Some x) h = (x, refl)

module _ (fronts : Fronts) (legals : Legals) (theirs : TheirObjects) (first : First) (stay : Stay) (use_up : UseUp) (begins : Begins) (works : Works)
    (cuts : Cuts) (biased_law : Biased) (plain_law : Plain)
    (s : Settings) (p : ProgramText) (r : RunRecord) (c : ClosedSeen) (is : IsProgram p) (few : s.fuel ≤ most_fuel)
    (ran : IsRunOutcome (heap_for s p) p s.fuel s.tick c) (of : IsRecordOf s p r) (copy : IsOfClosed r c) where
  abbrev heap : Heap
  heap = heap_for s p

  legal : IsLegal p s.fuel c.logs
  legal = legals p s.fuel c.logs is ran.followed

  short : (t : ℕ) → length (log_of c.logs t) ≤ most_entries
  short = log_few first stay use_up begins works p s.fuel is few c.logs legal

  cut_in_time : (t i : ℕ) (a : DumpShot) → slice_get (shots_at c.shots t) i ≡ Some a → IsMadeInTime (numbering_of p) (cut_logs a.cut c.logs)
  cut_in_time t i a e =
      subst (λ (x : Numbering × List (List Logged)). IsMadeInTime x.0 (cut_logs a.cut x.1)) (λ j. (numbering_for s p is j, sym ran.biases.logs j))
      (cuts heap c.words ran.biases.knowns t i a ran.biases.end (ap (λ (x : List (List DumpShot)). slice_get (shots_at x t) i) (sym ran.biases.shots) ∙ e))

  shots : AreRightShots p s.fuel r.logs r.shots
  shots =
      subst (λ (x : List (List Logged) × List (List Shot)). AreRightShots p s.fuel x.0 x.1) (λ i. (sym copy.logs i, sym copy.shots i))
      (right_shots fronts legals theirs p is s.fuel c.logs ran.followed c.shots ran.shots cut_in_time)

  over : (m : PlainMachine) → machine_after p s.fuel r.logs ≡ Some m → IsOver m r.halted
  over m e =
      subst (IsOver m) (sym copy.halted)
      (ran.over m (ap (machine_after p s.fuel) (sym copy.logs) ∙ e))

  lines_are : r.classes ≡ lines_below c (length p.classes)
  lines_are = copy.classes ∙ ap (λ (h : Heap). lines_below c h.shape.classes) ran.heap_is

  -- a line of the record is that of a class of the program
  line_here : (k : ℕ) (line : ClassLine) → slice_get r.classes k ≡ Some line → (k < length p.classes) × (line_of c k ≡ line)
  line_here k line e =
      line_at c (length p.classes) k line
      (ap (λ (x : List ClassLine). slice_get x k) (sym lines_are) ∙ e)

  counts : (k : ℕ) (line : ClassLine) → slice_get r.classes k ≡ Some line → IsLine (total_on (λ n. n.reset) c.counts k) line
  counts k line e =
      let at = line_here k line e in
      subst (IsLine (total_on (λ n. n.reset) c.counts k)) at.1
      (fits heap c ran.biases ran.heap_is is.threads_few short k at.0)

  sums : (k : ℕ) (line : ClassLine) → slice_get r.classes k ≡ Some line → IsSum c.counts k line
  sums k line e =
      let at = line_here k line e in
      subst (IsSum c.counts k) at.1 (sums_are heap c ran.biases ran.heap_is is.threads_few short k at.0)

  verdicts : (t : ℕ) → verdicts_by (slice_index_or c.counts t []) ≤ length (log_of r.logs t) + verdicts_beyond r.halted
  verdicts t =
      subst (λ (x : List (List Logged) × Bool). verdicts_by (slice_index_or c.counts t []) ≤ length (log_of x.0 t) + verdicts_beyond x.1)
      (λ i. (sym copy.logs i, sym copy.halted i))
      (verdicts_within heap c ran.biases ran.heap_is is.threads_few short t)

  -- by whatever words, an object that is there has the class that the logs tell, and one of which the heap knows nothing has no entry
  class_told : (o k : ℕ) → class_in r o ≡ Some k → o < length (shape_of p)
      → (ran.biases.biases.class o ≡ k) × (is_logged heap.shape c.logs o ≡ true)
  class_told o k class within =
      let same : numbering heap.shape ≡ numbering_of r.program = numbering_for s p is ∙ ap numbering_of (sym of.program) in
      let logs : logs_in ran.biases.knowns ≡ r.logs = sym ran.biases.logs ∙ sym copy.logs in
      let told = first_some (λ (made : List (List ℕ)). class_if_there (numbering heap.shape) made o)
      (made_after (numbering heap.shape) (logs_in ran.biases.knowns)) k
      ((λ i. option_and_then (λ (made : List (List ℕ)). class_if_there (same i) made o) (made_after (same i) (logs i))) ∙ class) in (
        ran.biases.biases.class_is o within ∙ class_at_end heap c.words ran.biases.knowns ran.biases.end told.0 told.1 o k told.2 within,
        ap (λ (x : List (List Logged)). is_logged heap.shape x o) ran.biases.logs
            ∙ logged_at_end heap c.words ran.biases.knowns ran.biases.end told.0 told.1 o k told.2,
      )

  none_past : (o : ℕ) → length (shape_of p) ≤ o → entries_on o (order c.logs) ≡ []
  none_past o past =
      let taken = some_there (objects_after (shape_of p) c.logs) ran.followed.objects.taken in
      let many : length (new_objects (shape_of p)) ≡ length (shape_of p) = length-map (shape_of p) (λ (x : ℕ × ℕ). new_object x.1) in
      none_on (order c.logs) (new_objects (shape_of p)) taken.0 o taken.1 (omega (arith, past, many))

  entered : r.bias ≡ true → (o k : ℕ) (path : Path) → class_in r o ≡ Some k → IsUnrevoked r k
      → first_path (entries_on o (order r.logs)) ≡ Some path → (path ≡ BiasTaken) ⊎ IsHashLogged r.logs o
  entered biased o k path class unrevoked e =
      let at = line_here k unrevoked.0 unrevoked.1 in
      let first : first_path (entries_on o (order c.logs)) ≡ Some path =
      ap (λ (x : List (List Logged)). first_path (entries_on o (order x))) (sym copy.logs) ∙ e in
      subst (λ (x : List (List Logged)). (path ≡ BiasTaken) ⊎ IsHashLogged x o) (sym copy.logs)
      (elim (cases_lt o (length (shape_of p))) [
        | inl here ↦
            let told = class_told o k class here in
            let within : ran.biases.biases.class o < length p.classes = subst (λ n. n < length p.classes) (sym told.0) at.0 in
            let none : (line_of c (ran.biases.biases.class o)).revoke ≡ 0 =
            ap (λ n. (line_of c n).revoke) told.0 ∙ ap (λ (x : ClassLine). x.revoke) at.1 ∙ unrevoked.2 in
            ran.biases.biases.biases.entered (sym of.bias ∙ biased) o path told.1
            (sym (revoke_is heap c ran.biases ran.heap_is is.threads_few short (ran.biases.biases.class o) within) ∙ none) first
        | inr past ↦ let none = ap first_path (none_past o past) in absurd (cc (none, first))
      ])

  taken_at_most : (o k : ℕ) (line : ClassLine) → class_in r o ≡ Some k → slice_get r.classes k ≡ Some line
      → times_taken o (entries_on o (order r.logs)) ≤ line.rebias + 1
  taken_at_most o k line class e =
      let at = line_here k line e in
      let times = ap (λ (x : List (List Logged)). times_taken o (entries_on o (order x))) copy.logs in
      elim (cases_lt o (length (shape_of p))) [
        | inl here ↦
            let told = class_told o k class here in
            let within : ran.biases.biases.class o < length p.classes = subst (λ n. n < length p.classes) (sym told.0) at.0 in
            let few = taken_few heap c ran.biases ran.heap_is is.threads_few short o within in
            let counted = ap (λ n. (line_of c n).rebias) told.0 ∙ ap (λ (x : ClassLine). x.rebias) at.1 in
            omega (arith, few, times, counted)
        | inr past ↦ let none = ap (times_taken o) (none_past o past) in omega (arith, times, none)
      ]

  evens : s.tick ≡ 0 → AllByRecursion IsEven r.classes
  evens still =
      subst (AllByRecursion IsEven) (sym lines_are)
      (all_lines heap c ran.biases ran.heap_is is.threads_few short IsEven
      (λ k within. even heap c ran.biases ran.heap_is is.threads_few short k within still) (length p.classes) (omega arith))

  idle : r.bias ≡ false → AllByRecursion IsIdle r.classes
  idle none =
      subst (AllByRecursion IsIdle) (sym lines_are)
      (all_idle heap c ran.biases ran.heap_is is.threads_few short (sym of.bias ∙ none) (length p.classes) (omega arith))

  prototypes : AllByRecursion (λ (line : ClassLine). line.prototype ≡ prototype_by r.bias line) r.classes
  prototypes =
      subst (λ (x : List ClassLine × Bool). AllByRecursion (λ (line : ClassLine). line.prototype ≡ prototype_by x.1 line) x.0)
      (λ i. (sym lines_are i, sym of.bias i))
      (all_lines heap c ran.biases ran.heap_is is.threads_few short (λ line. line.prototype ≡ prototype_by s.bias line)
      (λ k within. prototype_is heap c ran.biases ran.heap_is is.threads_few short biased_law plain_law k within s.bias refl)
      (length p.classes) (omega arith))

  all : HasAll p r
  all =
      record {
        logs = ap (λ (x : List (List Logged)). length x) copy.logs ∙ ran.followed.count;
        shots =
            ap (λ (x : List (List Shot)). length x) copy.shots ∙ length-map c.shots shots_left
            ∙ ap (λ (x : List (List DumpShot)). length x) ran.biases.shots ∙ length-map ran.biases.knowns (λ (k : ThreadView). k.shots) ∙ ran.biases.end.all;
        classes = ap (λ (x : List ClassLine). length x) lines_are ∙ lines_many c (length p.classes);
      }

  biases : RecordObeysBiasLaw s.tick r c
  biases =
      record {
        stays = λ o. subst (λ (x : List (List Logged)). EndsStay (entries_on o (order x))) (sym copy.logs) (ran.biases.biases.biases.stays o);
        paths = λ t.
            subst (λ (x : List (List Logged)). PathsFit nothing_held (log_of x t)) (sym copy.logs)
            (log_fits heap c ran.biases ran.heap_is is.threads_few short t (sym ran.followed.count));
        entered = entered;
        counts = counts;
        counted = counted_all heap c ran.biases ran.heap_is is.threads_few short ∙ sym ran.followed.count
            ∙ ap (λ (x : List (List Logged)). length x) (sym copy.logs);
        verdicts = verdicts;
        sums = sums;
        even = evens;
        prototypes = prototypes;
        plain = λ none o.
            ap (λ (x : List (List Logged)). list_any needs_bias (entries_on o (order x))) copy.logs
            ∙ ran.biases.biases.biases.plain (sym of.bias ∙ none) o;
        idle = idle;
        taken = λ t.
            subst (λ (x : List (List Logged)). OwnsAreTaken (log_of x t)) (sym copy.logs)
            (log_owned heap c ran.biases t (sym ran.followed.count));
        few = taken_at_most;
      }

  pub told : IsRan s p r c
  told =
      record {
        of = of;
        closed = copy;
        heap = ran.heap_is;
        all = all;
        legal = subst (IsLegal p s.fuel) (sym copy.logs) legal;
        over = over;
        shots = shots;
        hashes = λ o. subst (λ (x : List (List Logged)). hash_fits s.start (order x) o ≡ true)
            (sym copy.logs) (legal_hashes_fit p s.fuel s.start c.logs legal ran.draws o);
        first = subst DrawsComeFirst (sym copy.logs) ran.draws.first;
        stamps = subst StampsAreExact (sym copy.logs) ran.stamps;
        biases = biases;
      }
