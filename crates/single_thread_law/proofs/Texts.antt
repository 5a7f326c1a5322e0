-- Two runs of one thread write the same text.
use Rattle.std.proofs.Common.{◌≡◌, ℕ, zero, suc, ◌+◌, ◌-◌, false, List, [], ◌∷◌, ◌++◌, map, take, slice_get}
use Rattle.std.proofs.Common.{slice_index_or, Some, option_and_then, refl, sym, ap, ◌∙◌, subst}
use Rattle.std.specs.List.{AllByRecursion, flat_map}
use Rattle.std.proofs.lemmas.Option.{same_Some}
use Rattle.plain_monitor.specs.declared.entry.Entry.{Entry}
use Rattle.plain_monitor.specs.declared.entry.Entry.TheVariants as entry
use Rattle.plain_monitor.specs.declared.entry.Logged.{Logged}
use Rattle.plain_monitor.specs.Order.{order}
use Rattle.plain_monitor.specs.History.{RisesAbove, log_of}
use Rattle.core_world.specs.Shots.{placed, dumps_from}
use Rattle.object_program.specs.Program.{ProgramText}
use Rattle.plain_machine.specs.Legal.{after_all, machine_after}
use Rattle.plain_machine.specs.Machine.{PlainMachine, new_machine, take as after_one}
use Rattle.lock_journal.specs.declared.record.RunRecord.{RunRecord}
use Rattle.lock_journal.specs.declared.record.Shot.{Shot}
use Rattle.lock_journal.specs.RunText.{printed, shot_cells, cells_lines, thread_lines, text_of_lines, text_of_run}
use Rattle.lock_journal.specs.inner.LineTexts.{dump_line}
use Rattle.single_thread_law.specs.LoneRun.{without_path, with_no_path, IsLoneRun}
use Rattle.lock_journal.specs.MachineCells.{cells_in}
use Rattle.single_thread_law.specs.Shots.{front_of, IsShotOfLog, AreShotsOf, HasShotsOf}
use Rattle.single_thread_law.proofs.OneLog.{of_first, order_of_one, only_log}
use Rattle.single_thread_law.proofs.OneWay.{take_same, same_runs}

-- the entries of two logs are the same but for paths
abbrev AreSame : List Logged → List Logged → Type 0
AreSame log other = map with_no_path log ≡ map with_no_path other

-- the first ones, and the others
record AreSameFirst (l k : Logged) (log other : List Logged) : Type 0 where
  first : without_path l.entry ≡ without_path k.entry
  rest : AreSame log other

same_first : (l k : Logged) (log other : List Logged) → AreSame (l ∷ log) (k ∷ other) → AreSameFirst l k log other
same_first l k log other h =
    let head : with_no_path l ≡ with_no_path k = cc in
    let tail : AreSame log other = cc in
    record { first = ap (λ (x : Logged). x.entry) head; rest = tail }

-- MACHINES
same_after : (m : PlainMachine) (log other : List Logged) → AreSame log other → after_all m (of_first log) ≡ after_all m (of_first other)
same_after m [] [] h = refl
same_after m [] (k ∷ other) h = absurd (cc h)
same_after m (l ∷ log) [] h = absurd (cc h)
same_after m (l ∷ log) (k ∷ other) h =
    let s = same_first l k log other h in
    ap (option_and_then (λ n. after_all n (of_first log))) (take_same l.entry k.entry s.first m)
    ∙ ap (λ f. option_and_then f (after_one m 0 k.entry)) (λ i n. same_after n log other s.rest i)

rises_front : (n i : ℕ) (log : List Logged) → RisesAbove n log → RisesAbove n (take i log)
rises_front n zero log r = tt
rises_front n (suc i) [] r = tt
rises_front n (suc i) (l ∷ log) r = (r.0, rises_front l.stamp i log r.1)

same_front : (i : ℕ) (log other : List Logged) → AreSame log other → AreSame (take i log) (take i other)
same_front zero log other h = refl
same_front (suc i) [] [] h = refl
same_front (suc i) [] (k ∷ other) h = absurd (cc h)
same_front (suc i) (l ∷ log) [] h = absurd (cc h)
same_front (suc i) (l ∷ log) (k ∷ other) h =
    let head : with_no_path l ≡ with_no_path k = cc in
    let tail : AreSame log other = cc in
    let rest = same_front i log other tail in
    ap (λ z. z ∷ map with_no_path (take i log)) head ∙ ap (λ zs. with_no_path k ∷ zs) rest

-- the machines after two fronts of one length
same_machines : (p : ProgramText) (fuel i : ℕ) (log other : List Logged) → RisesAbove 0 log → RisesAbove 0 other → AreSame log other
    → machine_after p fuel (take i log ∷ []) ≡ machine_after p fuel (take i other ∷ [])
same_machines p fuel i log other r q h =
    ap (after_all (new_machine p fuel)) (order_of_one (take i log) (rises_front 0 i log r))
    ∙ same_after (new_machine p fuel) (take i log) (take i other) (same_front i log other h)
    ∙ ap (after_all (new_machine p fuel)) (sym (order_of_one (take i other) (rises_front 0 i other q)))

-- SHOTS
placed_same : (n : ℕ) (e : Entry) (rest : List (ℕ × ℕ)) → placed n (without_path e) rest ≡ placed n e rest
placed_same n (entry.Enter o path) rest = refl
placed_same n e rest = refl

same_dumps : (n : ℕ) (log other : List Logged) → AreSame log other → dumps_from n log ≡ dumps_from n other
same_dumps n [] [] h = refl
same_dumps n [] (k ∷ other) h = absurd (cc h)
same_dumps n (l ∷ log) [] h = absurd (cc h)
same_dumps n (l ∷ log) (k ∷ other) h =
    let s = same_first l k log other h in
    ap (placed n l.entry) (same_dumps (n + 1) log other s.rest)
    ∙ sym (placed_same n l.entry (dumps_from (n + 1) other))
    ∙ ap (λ e. placed n e (dumps_from (n + 1) other)) s.first
    ∙ placed_same n k.entry (dumps_from (n + 1) other)

abbrev place_of : Shot → ℕ × ℕ
place_of s = (front_of s, s.number)

module _ (p : ProgramText) (fuel : ℕ) (log other : List Logged) (rises : RisesAbove 0 log) (rises_too : RisesAbove 0 other) (same : AreSame log other) where
  one_shot : (a b : Shot) → IsShotOfLog p fuel log a → IsShotOfLog p fuel other b → front_of a ≡ front_of b → a.cells ≡ b.cells
  one_shot a b r q h =
      let under : machine_after p fuel (take (front_of b) log ∷ []) ≡ Some r.machine =
      subst (λ i. machine_after p fuel (take i log ∷ []) ≡ Some r.machine) h r.under in
      let machines : r.machine ≡ q.machine =
      same_Some r.machine q.machine (sym under ∙ same_machines p fuel (front_of b) log other rises rises_too same ∙ q.under) in
      r.cells ∙ ap cells_in machines ∙ sym q.cells

  same_cells : (shots more : List Shot) → AllByRecursion (IsShotOfLog p fuel log) shots → AllByRecursion (IsShotOfLog p fuel other) more
      → map place_of shots ≡ map place_of more → (i : ℕ) → shot_cells (slice_get shots i) ≡ shot_cells (slice_get more i)
  same_cells [] [] r q h i = refl
  same_cells [] (b ∷ more) r q h i = absurd (cc h)
  same_cells (a ∷ shots) [] r q h i = absurd (cc h)
  same_cells (a ∷ shots) (b ∷ more) r q h zero =
      let here : place_of a ≡ place_of b = cc in
      one_shot a b r.0 q.0 (ap (λ x. x.0) here)
  same_cells (a ∷ shots) (b ∷ more) r q h (suc i) =
      let rest : map place_of shots ≡ map place_of more = cc in
      same_cells shots more r.1 q.1 rest i

  shots_same : (shots more : List Shot) → AreShotsOf p fuel log shots → AreShotsOf p fuel other more
      → (i : ℕ) → shot_cells (slice_get shots i) ≡ shot_cells (slice_get more i)
  shots_same shots more r q = same_cells shots more r.right q.right (r.dumps ∙ same_dumps 0 log other same ∙ sym q.dumps)

-- PRINTS
abbrev first_shots : List (List Shot) → List Shot
first_shots shots = slice_index_or shots 0 []

-- the cells of the dumps are the same
abbrev HaveSameCells : List (List Shot) → List (List Shot) → Type 0
HaveSameCells shots more = (i : ℕ) → shot_cells (slice_get (first_shots shots) i) ≡ shot_cells (slice_get (first_shots more) i)

-- the lines that an entry of the first thread prints
abbrev print : ProgramText → List (List Shot) → Entry → List (List ℕ)
print p shots e = printed p shots 0 e

path_unprinted : (p : ProgramText) (shots : List (List Shot)) (e : Entry) → print p shots (without_path e) ≡ print p shots e
path_unprinted p shots (entry.Enter o path) = refl
path_unprinted p shots e = refl

same_print : (p : ProgramText) (shots more : List (List Shot)) (e : Entry) → HaveSameCells shots more → print p shots e ≡ print p more e
same_print p shots more (entry.Dump number) h = ap (λ cells. dump_line p 0 number ∷ cells_lines p 0 cells) (h (number - 1))
same_print p shots more e h = refl

abbrev lines_in : ProgramText → List (List Shot) → List (ℕ × Logged) → List (List ℕ)
lines_in p shots xs = flat_map (λ x. printed p shots x.0 x.1.entry) xs

same_lines : (p : ProgramText) (shots more : List (List Shot)) (log other : List Logged) → HaveSameCells shots more → AreSame log other
    → lines_in p shots (of_first log) ≡ lines_in p more (of_first other)
same_lines p shots more [] [] c h = refl
same_lines p shots more [] (k ∷ other) c h = absurd (cc h)
same_lines p shots more (l ∷ log) [] c h = absurd (cc h)
same_lines p shots more (l ∷ log) (k ∷ other) c h =
    let s = same_first l k log other h in
    let head : print p shots l.entry ≡ print p more k.entry =
    sym (path_unprinted p shots l.entry) ∙ ap (print p shots) s.first ∙ path_unprinted p shots k.entry ∙ same_print p shots more k.entry c in
    ap (λ z. z ++ lines_in p shots (of_first log)) head ∙ ap (λ z. print p more k.entry ++ z) (same_lines p shots more log other c s.rest)

-- RUNS
-- what two runs print is the same
abbrev PrintSame : ProgramText → ℕ → List (List Shot) → List (List Shot) → List (List Logged) → List (List Logged) → Type 0
PrintSame p fuel shots more logs others =
    AreShotsOf p fuel (log_of logs 0) (first_shots shots) → AreShotsOf p fuel (log_of others 0) (first_shots more)
    → lines_in p shots (order logs) ≡ lines_in p more (order others)

print_same : (p : ProgramText) (fuel start : ℕ) (shots more : List (List Shot)) (log other : List Logged) (m n : PlainMachine)
    → IsLoneRun p fuel start (log ∷ []) m → IsLoneRun p fuel start (other ∷ []) n → PrintSame p fuel shots more (log ∷ []) (other ∷ [])
print_same p fuel start shots more log other m n r q a b =
    let w = (same_runs p fuel start (log ∷ []) (other ∷ []) m n r q).same in
    let same : AreSame log other = cc in
    let cells = shots_same p fuel log other r.rises.0 q.rises.0 same (first_shots shots) (first_shots more) a b in
    ap (lines_in p shots) (order_of_one log r.rises.0) ∙ same_lines p shots more log other cells same
    ∙ ap (lines_in p more) (sym (order_of_one other q.rises.0))

prints_same : (p : ProgramText) (fuel start : ℕ) (shots more : List (List Shot)) (logs others : List (List Logged)) (m n : PlainMachine)
    → IsLoneRun p fuel start logs m → IsLoneRun p fuel start others n → PrintSame p fuel shots more logs others
prints_same p fuel start shots more logs others m n r q =
    let a = only_log logs r.one in
    let b = only_log others q.one in
    let w = print_same p fuel start shots more a.log b.log m n
    (subst (λ ls. IsLoneRun p fuel start ls m) a.is r) (subst (λ ls. IsLoneRun p fuel start ls n) b.is q) in
    subst (λ ls. PrintSame p fuel shots more ls others) (sym a.is) (subst (λ ls. PrintSame p fuel shots more (a.log ∷ []) ls) (sym b.is) w)

-- the text of these lines and of the machine's threads
abbrev text_with : List (List ℕ) → PlainMachine → List ℕ
text_with lines m = text_of_lines (lines ++ thread_lines m 0 m.threads ++ [] ++ [])

pub one_text : (p : ProgramText) (fuel start : ℕ) (r q : RunRecord) (m n : PlainMachine) → r.program ≡ p → q.program ≡ p
    → IsLoneRun p fuel start r.logs m → IsLoneRun p fuel start q.logs n → HasShotsOf p fuel r → HasShotsOf p fuel q
    → text_of_run false false r m ≡ text_of_run false false q n
one_text p fuel start r q m n of_r of_q a b shots more =
    let machines = (same_runs p fuel start r.logs q.logs m n a b).machines in
    let prints = prints_same p fuel start r.shots q.shots r.logs q.logs m n a b shots more in
    ap (λ x. text_with (lines_in x r.shots (order r.logs)) m) of_r
    ∙ ap (λ x. text_with x m) prints
    ∙ ap (text_with (lines_in p q.shots (order q.logs))) machines
    ∙ ap (λ x. text_with (lines_in x q.shots (order q.logs)) n) (sym of_q)
