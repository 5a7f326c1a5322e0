-- The words of a reached machine tell it.
use Rattle.std.proofs.Common.{◌≡◌, ℕ, suc, ◌+◌, ◌<◌, ◌≤◌, ◌^◌, List, [], ◌∷◌, ◌++◌, length, map, sum, slice_get, Some, refl, sym, ap, ◌∙◌, subst, arith}
use Rattle.std.proofs.Common.{◌/◌, ◌==◌, if◌then◌else◌, Bool, true, Option, None, MatchOption, pos, append_assoc, eq-eqb}
use Rattle.std.specs.List.{AllByRecursion}
use Rattle.plain_monitor.specs.declared.entry.Value.{Value}
use Rattle.plain_monitor.specs.Limits.{most_made, most_threads}
use Rattle.plain_monitor.specs.ValueWords.{IsSpellable, word_of}
use Rattle.object_program.specs.Program.{ProgramText, objects_total, slots_of}
use Rattle.object_program.specs.Valid.{IsProgram}
use Rattle.machine_words.specs.Numbers.{HasSmall, HasNumbers}
use Rattle.machine_words.specs.inner.Telling.{TellsNumbers, TellsPairs, TellsValues, TellsThread, TellsThreads, TellsRows}
use Rattle.machine_words.specs.inner.Telling.{TellsLists, TellsObject, AreTold}
use Rattle.machine_words.proofs.ReadModes.{mode_small}
use Rattle.machine_words.proofs.ReadWords.{all_spelled, pairs_back}
use Rattle.machine_words.proofs.Changed.{got_within}
use Rattle.machine_words.proofs.Holding.{stands_few}
use Rattle.every_outcome.proofs.Places.{length_map, get_unmap, read_at}
use Rattle.std.proofs.lemmas.List.{length-replicate}
use Rattle.plain_monitor.specs.declared.entry.Value.TheVariants.{Int}
use Rattle.plain_monitor.specs.Monitor.{PlainMonitor}
use Rattle.plain_monitor.specs.Objects.{PlainObject}
use Rattle.plain_monitor.specs.Limits.{most_holds}
use Rattle.plain_monitor.proofs.Lists.{all_at}
use Rattle.plain_monitor.proofs.ValuesRead.{word_of-spells}
use Rattle.plain_machine.specs.Thread.{ThreadState}
use Rattle.plain_machine.specs.Machine.{PlainMachine}
use Rattle.machine_laws.specs.Reached.{IsReached, IsRow, IsHash}
use Rattle.machine_laws.specs.ReachedMonitor.{IsPlaceOf, IsOwnerOf, IsMonitorOf, for_owner, standing}
use Rattle.plain_monitor.specs.Listed.{counts_in}
use Rattle.machine_words.specs.Readers.{option_word, read_numbers, read_pairs, pair_words}
use Rattle.machine_words.specs.ObjectWords.{object_words, objects_words}
use Rattle.machine_words.specs.MachineWords.{words_of}
use Rattle.machine_words.proofs.ReadBack.{threads_readable}
use Rattle.machine_words.specs.inner.Reading.{renewed}
use Rattle.machine_words.specs.MadeWords.{made_words, read_row, read_made}
use Rattle.machine_words.proofs.ReadMade.{numbers_back, made_back}
use Rattle.machine_laws.specs.ReachedThread.{IsThreadOf}
use Rattle.machine_laws.proofs.ReachedLists.{at_within}
use Rattle.machine_words.specs.ThreadWords.{ThreadParts, holds_in, head_word, thread_words, threads_words, read_thread, read_threads}
use Rattle.machine_words.proofs.ReadThreads.{holds_are, thread_back, threads_back}

-- each thread of a reached machine holds objects at most as often as it may
pub reached_few : (m : PlainMachine) (t : ℕ) → IsReached m → t < length m.threads → sum (holds_in t m.objects) ≤ most_holds
reached_few m t h lt =
    let s = at_within m.threads t lt in
    let few = (all_at (IsThreadOf m.program) m.threads t s.element h.threads s.at).state.few in
    omega (arith, few, ap sum (holds_are m t s.element h s.at))

values_told : (vs : List Value) (ws : List ℕ) → AllByRecursion IsSpellable vs → TellsValues (length vs) (map word_of vs ++ ws)
values_told [] ws all = tt
values_told (v ∷ vs) ws all = ((v, word_of-spells v all.0), values_told vs ws all.1)

threads_told : (p : ProgramText) (ss : List ThreadState) (ws : List ℕ) → IsProgram p → AllByRecursion (IsThreadOf p) ss → AllByRecursion HasSmall ss
    → ((t : ℕ) (s : ThreadState) → slice_get ss t ≡ Some s → s.made ≤ most_made) → TellsThreads (length ss) (threads_words ss ++ ws)
threads_told p [] ws valid all small made = tt
threads_told p (s ∷ ss) ws valid all small made =
    let apart = append_assoc (thread_words s) (threads_words ss) ws in
    let few = all.0.state.dumps in
    let kind = mode_small s.mode in
    let place : head_word s / 256 < 2 ^ 32 = omega (arith, few, kind, small.0.0) in
    let spelled = all_spelled p s.locals valid all.0.state.locals in
    let made_few = made 0 s refl in
    let own : TellsThread (thread_words s ++ (threads_words ss ++ ws)) =
    (place, (small.0.1, (omega (arith, made_few), values_told s.locals (threads_words ss ++ ws) spelled))) in
    let back = thread_back s (threads_words ss ++ ws) (record { dumps = few; locals = spelled }) in
    let others = threads_told p ss ws valid all.1 small.1 (λ t z at. made (suc t) z at) in (
      subst TellsThread (sym apart) own,
      subst (TellsThreads (length ss))
          (sym (ap (λ (xs : List ℕ). (read_thread xs).1) apart ∙ ap (λ (r : ThreadParts × List ℕ). r.1) back)) others,
    )

row_told : (p : ProgramText) (row ws : List ℕ) → length p.classes < 2 ^ 32 → AllByRecursion (λ c. c < length p.classes) row
    → TellsNumbers (length row) (row ++ ws)
row_told p [] ws few all = tt
row_told p (c ∷ row) ws few all = (omega (arith, all.0, few), row_told p row ws few all.1)

rows_told : (p : ProgramText) (rows : List (List ℕ)) (ws : List ℕ) → length p.classes < 2 ^ 32 → AllByRecursion (IsRow p) rows
    → TellsRows (length rows) (made_words rows ++ ws)
rows_told p [] ws few all = tt
rows_told p (row ∷ rows) ws few all =
    let apart = append_assoc row (made_words rows) ws in
    let own : TellsNumbers (length row) ((row ++ made_words rows) ++ ws) =
    subst (TellsNumbers (length row)) (sym apart) (row_told p row (made_words rows ++ ws) few all.0.0) in
    let back : read_row (made_words (row ∷ rows) ++ ws) ≡ (row, made_words rows ++ ws) =
    ap (read_numbers (length row)) apart ∙ numbers_back row (made_words rows ++ ws) in (
      (all.0.1, own),
      subst (TellsRows (length rows)) (sym (ap (λ (r : List ℕ × List ℕ). r.1) back)) (rows_told p rows ws few all.1),
    )

pairs_told : (n : ℕ) (ps : List (ℕ × ℕ)) (ws : List ℕ) → n ≤ most_threads → AllByRecursion (IsPlaceOf n) ps
    → ((t : ℕ) → t < n → counts_in ps t ≤ most_holds) → TellsPairs (length ps) (pair_words ps ++ ws)
pairs_told n [] ws few all counts = tt
pairs_told n (p ∷ ps) ws few all counts =
    let same : (p.0 == p.0) ≡ true = eq-eqb p.0 p.0 refl in
    let own : counts_in (p ∷ ps) p.0 ≡ p.1 + counts_in ps p.0 = ap (λ (b : Bool). (if b then p.1 else 0) + counts_in ps p.0) same in
    let most = counts p.0 all.0.0 in
    let others : (t : ℕ) → t < n → counts_in ps t ≤ most_holds = λ t lt.
    let whole : counts_in (p ∷ ps) t ≡ (if p.0 == t then p.1 else 0) + counts_in ps t = refl in
    omega (arith, whole, counts t lt) in
    (omega (arith, all.0.0, few), (omega (arith, own, most), pairs_told n ps ws few all.1 others))

-- the owner, and how often it has entered
owner_told : (n : ℕ) (m : PlainMonitor) (owner : Option ℕ) → m.owner ≡ owner → n ≤ most_threads → IsOwnerOf n m.count owner
    → ((t : ℕ) → t < n → standing m t ≤ most_holds) → (option_word owner ≤ 2 ^ 32) × (m.count < 2 ^ 32)
owner_told n m None e few h stands = (omega arith, omega (arith, h))
owner_told n m (Some t) e few h stands =
    let own : for_owner m.owner m.count t ≡ m.count =
    ap (λ (o : Option ℕ). for_owner o m.count t) e ∙ ap (λ (b : Bool). if b then m.count else 0) (eq-eqb t t refl) in
    let most : for_owner m.owner m.count t + counts_in m.waits t + counts_in m.called t ≤ most_holds = stands t h.0 in
    (omega (arith, h.0, few), omega (arith, own, most))

hash_told : (hash : Option ℕ) → MatchOption hash (Unit {0}) IsHash → option_word hash ≤ 2 ^ 32
hash_told None h = omega arith
hash_told (Some n) h = omega (arith, h.1)

object_told : (n : ℕ) (x : PlainObject) (ws : List ℕ) → n ≤ most_threads → IsMonitorOf n x.monitor → MatchOption x.hash (Unit {0}) IsHash
    → AllByRecursion IsSpellable x.slots → ((t : ℕ) → t < n → standing x.monitor t ≤ most_holds) → TellsObject (length x.slots) (object_words x ++ ws)
object_told n x ws few is hash values stands =
    let m = x.monitor in
    let words = map word_of x.slots in
    let apart : (pair_words m.waits ++ pair_words m.called ++ words) ++ ws ≡ pair_words m.waits ++ (pair_words m.called ++ (words ++ ws)) =
    append_assoc (pair_words m.waits ++ pair_words m.called) words ws ∙ append_assoc (pair_words m.waits) (pair_words m.called) (words ++ ws) in
    let owner = owner_told n m m.owner refl few is.owner stands in
    let waits_few : (t : ℕ) → t < n → counts_in m.waits t ≤ most_holds = λ t lt.
    let most : for_owner m.owner m.count t + counts_in m.waits t + counts_in m.called t ≤ most_holds = stands t lt in omega (arith, most) in
    let called_few : (t : ℕ) → t < n → counts_in m.called t ≤ most_holds = λ t lt.
    let most : for_owner m.owner m.count t + counts_in m.waits t + counts_in m.called t ≤ most_holds = stands t lt in omega (arith, most) in
    let after : (read_pairs (length m.waits) (pair_words m.waits ++ (pair_words m.called ++ (words ++ ws)))).1 ≡ pair_words m.called ++ (words ++ ws) =
    ap (λ (r : List (ℕ × ℕ) × List ℕ). r.1) (pairs_back m.waits (pair_words m.called ++ (words ++ ws))) in
    let last : (read_pairs (length m.called) (pair_words m.called ++ (words ++ ws))).1 ≡ words ++ ws =
    ap (λ (r : List (ℕ × ℕ) × List ℕ). r.1) (pairs_back m.called (words ++ ws)) in
    let told_values : TellsValues (length x.slots) (read_pairs (length m.called) (pair_words m.called ++ (words ++ ws))).1 =
    subst (TellsValues (length x.slots)) (sym last) (values_told x.slots ws values) in
    let lists : TellsLists (length x.slots) (length m.waits) (length m.called) (pair_words m.waits ++ (pair_words m.called ++ (words ++ ws))) = (
      pairs_told n m.waits _ few is.waits waits_few,
      subst (TellsPairs (length m.called)) (sym after) (pairs_told n m.called _ few is.called called_few),
      subst (λ (ys : List ℕ). TellsValues (length x.slots) (read_pairs (length m.called) ys).1) (sym after) told_values,
    ) in
    (owner.0, (owner.1, (hash_told x.hash hash, subst (TellsLists (length x.slots) (length m.waits) (length m.called)) (sym apart) lists)))

-- the objects of a reached machine, in the places of those of another one of its program that are as at first
pub objects_told : (m old : PlainMachine) → IsReached m → IsReached old → m.program ≡ old.program
    → AreTold (length m.threads) (map renewed old.objects) m.objects
objects_told m old h k same =
    let few : length m.threads ≤ most_threads = omega (arith, h.thread_count, h.program.threads_few) in
    let spelled : (o : ℕ) (x : PlainObject) → slice_get m.objects o ≡ Some x → AllByRecursion IsSpellable x.slots = λ o x at.
    all_spelled m.program x.slots h.program (h.slots o x at).values in
    record {
      count = h.object_count ∙ ap objects_total same ∙ sym k.object_count ∙ sym (length_map renewed old.objects);
      slots = λ o x y at old_at.
          let z = get_unmap renewed old.objects o y old_at in
          let own : length y.slots ≡ length z.0.slots =
          ap (λ (v : PlainObject). length v.slots) (sym z.2) ∙ length-replicate (length z.0.slots) (Int (pos 0)) in
          (h.slots o x at).count ∙ ap (λ (p : ProgramText). slots_of p o) same ∙ sym (k.slots o z.0 z.1).count ∙ sym own;
      values = spelled;
      told = λ o x ws at. object_told (length m.threads) x ws few (h.monitors o x at) (h.hashes o x at) (spelled o x at) (λ t lt.
          omega (arith, stands_few m.objects t o x at, reached_few m t h lt));
      few = λ t lt. reached_few m t h lt;
    }

-- the threads of a reached machine, and what they have made
pub threads_are_told : (m : PlainMachine) (ws : List ℕ) → IsReached m → HasNumbers m → TellsThreads (length m.program.threads) (threads_words m.threads ++ ws)
threads_are_told m ws h small =
    subst (λ (n : ℕ). TellsThreads n (threads_words m.threads ++ ws)) h.thread_count
    (threads_told m.program m.threads ws h.program h.threads small (λ t s at.
    let lt = got_within m.threads t s at in
    let row = at_within m.made t (omega (arith, lt, h.thread_count, h.row_count)) in
    let few = (all_at (IsRow m.program) m.made t row.element h.rows row.at).1 in
    let own : s.made ≡ length row.element = h.made t s at ∙ ap (λ (r : List ℕ). length r) (read_at m.made t [] row.element row.at) in
    omega (arith, few, own)))

pub rows_are_told : (m : PlainMachine) (ws : List ℕ) → IsReached m → TellsRows (length m.program.threads) (made_words m.made ++ ws)
rows_are_told m ws h =
    subst (λ (n : ℕ). TellsRows n (made_words m.made ++ ws)) h.row_count
    (rows_told m.program m.made ws (omega (arith, h.program.classes_few)) h.rows)

-- what stands after the words of the threads, and after those of what they have made
pub after_threads : (m : PlainMachine) (n : ℕ) (ws : List ℕ) → IsReached m → n ≡ length m.threads → words_of m ≡ ws
    → (read_threads n ws).1 ≡ made_words m.made ++ objects_words 0 m.objects
after_threads m n ws h count words =
    (λ i. (read_threads (count i) (sym words i)).1)
    ∙ ap (λ (r : List ThreadParts × List ℕ). r.1)
    (threads_back m.threads (made_words m.made ++ objects_words 0 m.objects) (threads_readable m.program m.threads h.program h.threads))

pub after_made : (m : PlainMachine) (n : ℕ) (ws : List ℕ) → n ≡ length m.made → ws ≡ made_words m.made ++ objects_words 0 m.objects
    → (read_made n ws).1 ≡ objects_words 0 m.objects
after_made m n ws count words =
    (λ i. (read_made (count i) (words i)).1) ∙ ap (λ (r : List (List ℕ) × List ℕ). r.1) (made_back m.made (objects_words 0 m.objects))
