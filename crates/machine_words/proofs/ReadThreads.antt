-- The threads of a reached machine are read from their words, beside its objects.
use Rattle.std.proofs.Common.{◌≡◌, ℕ, zero, suc, ◌+◌, ◌*◌, ◌/◌, ◌%◌, ◌≤◌, List, [], ◌∷◌, ◌++◌, length, map}
use Rattle.std.proofs.Common.{slice_get, slice_index, Some, refl, sym, ap, ◌∙◌, subst, arith, append_assoc}
use Rattle.std.specs.List.{AllByRecursion}
use Rattle.std.proofs.lemmas.Option.{none-some, same_Some}
use Rattle.plain_monitor.specs.declared.entry.Ending.TheVariants.{Done}
use Rattle.plain_monitor.specs.Objects.{PlainObject}
use Rattle.plain_monitor.specs.ValueWords.{IsSpellable}
use Rattle.plain_monitor.proofs.Lists.{all_at}
use Rattle.object_program.specs.declared.program.Code.{Code}
use Rattle.object_program.specs.Program.{ProgramText}
use Rattle.plain_machine.specs.declared.monitor_call.Mode.{Mode}
use Rattle.plain_machine.specs.declared.monitor_call.Mode.TheVariants.{Calling, Unwinding}
use Rattle.plain_machine.specs.Thread.{ThreadState, step_of}
use Rattle.plain_machine.specs.Running.{instruction_at}
use Rattle.plain_machine.specs.Machine.{PlainMachine, code_of}
use Rattle.machine_laws.specs.Reached.{IsReached}
use Rattle.machine_laws.specs.ReachedMonitor.{standing}
use Rattle.machine_laws.specs.ReachedThread.{IsThreadOf}
use Rattle.machine_laws.proofs.ReachedLists.{at_within}
use Rattle.every_outcome.specs.Fuel.{with_fuel}
use Rattle.every_outcome.specs.Stands.{IsAtCall}
use Rattle.every_outcome.proofs.Places.{length_map, same_list}
use Rattle.plain_machine.proofs.Effects.{in_mode}
use Rattle.every_outcome.proofs.SameSteps.{step_with, step_same}
use Rattle.machine_words.specs.ModeWords.{mode_kind, mode_rest}
use Rattle.machine_words.specs.ThreadWords.{ThreadParts, head_word, thread_words, threads_words, parts_with, read_thread}
use Rattle.machine_words.specs.ThreadWords.{read_threads, holds_in, calling_in, unmoded, thread_with, threads_with}
use Rattle.machine_words.proofs.ReadWords.{values_back}
use Rattle.machine_words.proofs.ReadModes.{mode_small, IsCallingIn, mode_back}

abbrev pub parts_of : ThreadState → ThreadParts
parts_of s = record { place = s.place; dumps = s.dumps; kind = mode_kind s.mode; rest = mode_rest s.mode; made = s.made; locals = s.locals }

-- a thread whose words can be read
pub record IsReadable (s : ThreadState) : Type 0 where
  pub dumps : s.dumps ≤ 4
  pub locals : AllByRecursion IsSpellable s.locals

parts_back : (s : ThreadState) → s.dumps ≤ 4 → parts_with (head_word s) (mode_rest s.mode) s.made s.locals ≡ parts_of s
parts_back s few =
    let small = mode_small s.mode in
    let place : ((s.place * 8 + s.dumps) * 32 + mode_kind s.mode) / 256 ≡ s.place = omega (arith, few, small) in
    let dumps : ((s.place * 8 + s.dumps) * 32 + mode_kind s.mode) / 32 % 8 ≡ s.dumps = omega (arith, few, small) in
    let kind : ((s.place * 8 + s.dumps) * 32 + mode_kind s.mode) % 32 ≡ mode_kind s.mode = omega (arith, few, small) in
    λ i. record { place = place i; dumps = dumps i; kind = kind i; rest = mode_rest s.mode; made = s.made; locals = s.locals }

pub thread_back : (s : ThreadState) (ws : List ℕ) → IsReadable s → read_thread (thread_words s ++ ws) ≡ (parts_of s, ws)
thread_back s ws h =
    ap (λ (r : List _ × List ℕ). (parts_with (head_word s) (mode_rest s.mode) s.made r.0, r.1)) (values_back s.locals ws h.locals)
    ∙ ap (λ (p : ThreadParts). (p, ws)) (parts_back s h.dumps)

pub threads_back : (ss : List ThreadState) (ws : List ℕ) → AllByRecursion IsReadable ss
    → read_threads (length ss) (threads_words ss ++ ws) ≡ (map parts_of ss, ws)
threads_back [] ws all = refl
threads_back (s ∷ ss) ws all =
    let rest : ThreadParts × List ℕ → List ThreadParts × List ℕ =
    λ r. (r.0 ∷ (read_threads (length ss) r.1).0, (read_threads (length ss) r.1).1) in
    ap (λ (xs : List ℕ). rest (read_thread xs)) (append_assoc (thread_words s) (threads_words ss) ws)
    ∙ ap rest (thread_back s (threads_words ss ++ ws) all.0)
    ∙ ap (λ (r : List ThreadParts × List ℕ). (parts_of s ∷ r.0, r.1)) (threads_back ss ws all.1)

-- the instruction that a thread is at tells the call that it stands before
told : (fuel : ℕ) (p : ProgramText) (i : List Code) (s : ThreadState) (mode : Mode) → IsAtCall p i s mode
    → IsCallingIn (calling_in (step_of p (in_mode fuel (Unwinding Done) s) (instruction_at i s.place))) mode
told fuel p i s (Calling c) h = ap calling_in (step_same fuel (Unwinding Done) p s (instruction_at i s.place) ∙ ap (step_with fuel (Unwinding Done)) h)
told fuel p i s _ h = tt

thread_is : (fuel t : ℕ) (p : ProgramText) (i : List Code) (objects : List PlainObject) (s : ThreadState) → holds_in t objects ≡ s.holds
    → IsAtCall p i s s.mode → thread_with p i (parts_of s) (unmoded fuel t objects (parts_of s)) ≡ with_fuel fuel s
thread_is fuel t p i objects s holds stands =
    let same : unmoded fuel t objects (parts_of s) ≡ in_mode fuel (Unwinding Done) s =
    ap (λ (hs : List ℕ). record s { fuel = fuel; holds = hs; mode = Unwinding Done }) holds in
    let mode = mode_back (calling_in (step_of p (in_mode fuel (Unwinding Done) s) (instruction_at i s.place))) s.mode (told fuel p i s s.mode stands) in
    ap (thread_with p i (parts_of s)) same ∙ ap (λ (m : Mode). record s { fuel = fuel; mode = m }) mode

index_map : {X : Type 0} (f : X → ℕ) (xs : List X) (k : ℕ) (x : X) → slice_get xs k ≡ Some x → slice_index (map f xs) k ≡ f x
index_map f [] k x at = absurd (none-some x at)
index_map f (y ∷ xs) zero x at = ap f (same_Some y x at)
index_map f (y ∷ xs) (suc k) x at = index_map f xs k x at

pub holds_are : (m : PlainMachine) (t : ℕ) (s : ThreadState) → IsReached m → slice_get m.threads t ≡ Some s → holds_in t m.objects ≡ s.holds
holds_are m t s h at =
    let own = (all_at (IsThreadOf m.program) m.threads t s h.threads at).state.holds in
    let count : length (holds_in t m.objects) ≡ length m.objects = length_map (λ x. standing x.monitor t) m.objects in
    same_list (holds_in t m.objects) s.holds (count ∙ h.object_count ∙ sym own) (λ o lt.
    let x = at_within m.objects o (omega (arith, lt, count)) in
    index_map (λ x. standing x.monitor t) m.objects o x.element x.at ∙ sym (h.standing o x.element x.at t s at).holds)

-- the threads that have these parts, where the first is thread t
all_are : (fuel t : ℕ) (p : ProgramText) (objects : List PlainObject) (ss : List ThreadState)
    → ((j : ℕ) (s : ThreadState) → slice_get ss j ≡ Some s
    → thread_with p (code_of p (t + j)) (parts_of s) (unmoded fuel (t + j) objects (parts_of s)) ≡ with_fuel fuel s)
    → threads_with p fuel objects t (map parts_of ss) ≡ map (λ s. with_fuel fuel s) ss
all_are fuel t p objects [] each = refl
all_are fuel t p objects (s ∷ ss) each =
    let here : t + 0 ≡ t = omega arith in
    let first = subst (λ (u : ℕ). thread_with p (code_of p u) (parts_of s) (unmoded fuel u objects (parts_of s)) ≡ with_fuel fuel s) here (each 0 s refl) in
    let others = all_are fuel (t + 1) p objects ss (λ j z at.
    let moved : t + suc j ≡ t + 1 + j = omega arith in
    subst (λ (u : ℕ). thread_with p (code_of p u) (parts_of z) (unmoded fuel u objects (parts_of z)) ≡ with_fuel fuel z) moved (each (suc j) z at)) in
    λ i. first i ∷ others i

pub threads_are : (fuel : ℕ) (m : PlainMachine) → IsReached m
    → ((t : ℕ) (s : ThreadState) → slice_get m.threads t ≡ Some s → IsAtCall m.program (code_of m.program t) s s.mode)
    → threads_with m.program fuel m.objects 0 (map parts_of m.threads) ≡ map (λ s. with_fuel fuel s) m.threads
threads_are fuel m h stands =
    all_are fuel 0 m.program m.objects m.threads (λ j s at.
    let first : 0 + j ≡ j = omega arith in
    subst (λ (t : ℕ). thread_with m.program (code_of m.program t) (parts_of s) (unmoded fuel t m.objects (parts_of s)) ≡ with_fuel fuel s) (sym first)
    (thread_is fuel j m.program (code_of m.program j) m.objects s (holds_are m j s h at) (stands j s at)))
