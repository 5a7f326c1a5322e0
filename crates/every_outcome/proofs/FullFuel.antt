-- A list that is closed where all threads get their fuel back has every end of every run with less fuel, up to the fuel.
use Rattle.std.proofs.Common.{◌≡◌, ◌≢◌, ◌⊎◌, inl, inr, ℕ, zero, suc, ◌+◌, ◌-◌, ◌≤◌, ◌==◌, Bool, true, false, List, [], ◌∷◌, length}
use Rattle.std.proofs.Common.{map, replicate, slice_get, slice_set, Some, refl, sym, ap, ◌∙◌, subst, eqb-true, eq-eqb, arith}
use Rattle.std.proofs.lemmas.Bool.{false≢true}
use Rattle.std.proofs.lemmas.Option.{same_Some}
use Rattle.plain_monitor.specs.declared.entry.Value.TheVariants.{Nil}
use Rattle.plain_monitor.specs.declared.entry.Ending.TheVariants.{Done}
use Rattle.plain_monitor.specs.declared.entry.Entry.{Entry}
use Rattle.plain_monitor.specs.declared.entry.Logged.{Logged}
use Rattle.plain_monitor.specs.Order.{order}
use Rattle.plain_monitor.proofs.Lists.{get_set_same, get_set_other}
use Rattle.object_program.specs.declared.program.ThreadDef.{ThreadDef}
use Rattle.object_program.specs.Program.{ProgramText, objects_total}
use Rattle.object_program.specs.Valid.{IsProgram}
use Rattle.plain_machine.specs.declared.monitor_call.Mode.{Mode}
use Rattle.plain_machine.specs.declared.monitor_call.Mode.TheVariants.{Calling, Waiting, Unwinding, Ended}
use Rattle.plain_machine.specs.Thread.{ThreadState}
use Rattle.plain_machine.specs.Running.{first_state, run_on}
use Rattle.plain_machine.specs.Asking.{ask, after_entry}
use Rattle.plain_machine.specs.Machine.{PlainMachine, new_machine, code_of, take}
use Rattle.plain_machine.specs.Legal.{machine_after}
use Rattle.machine_laws.specs.Reached.{AtEach}
use Rattle.machine_laws.proofs.ReachedLists.{each_set}
use Rattle.machine_laws.proofs.ReachedFirst.{first_is_reached}
use Rattle.machine_laws.proofs.ReachedAsked.{IsTaken, taken}
use Rattle.every_outcome.specs.Alone.{goes_alone}
use Rattle.every_outcome.specs.Led.{IsOver}
use Rattle.every_outcome.specs.Covered.{IsSeen}
use Rattle.every_outcome.specs.Fuel.{with_fuel, refuelled, is_spent, HasSpent, GoesAloneFull, IsCoveredFull, IsClosedFull}
use Rattle.every_outcome.proofs.Places.{get_map, get_unmap, map_set}
use Rattle.every_outcome.proofs.Commute.{moved_on, takes_from}
use Rattle.every_outcome.proofs.Reduced.{CoveredBy, covered}
use Rattle.every_outcome.proofs.Over.{over_takes_nothing, all_reached}
use Rattle.every_outcome.proofs.MoreFuel.{run_more, run_fuel, entry_more, entry_fuel, spent_stays}

pub full_twice : (top : ℕ) (xs : List ThreadState) → map (λ s. with_fuel top s) (map (λ s. with_fuel top s) xs) ≡ map (λ s. with_fuel top s) xs
full_twice top [] = refl
full_twice top (x ∷ xs) = ap (λ (zs : List ThreadState). with_fuel top x ∷ zs) (full_twice top xs)

-- no thread has more fuel
abbrev pub IsBelow : ℕ → PlainMachine → Type 0
IsBelow top m = AtEach (λ (t : ℕ) (s : ThreadState). s.fuel ≤ top) m.threads

below_after : (top : ℕ) (m n : PlainMachine) (t : ℕ) (e : Entry) → IsBelow top m → take m t e ≡ Some n → IsBelow top n
below_after top m n t e below takes =
    let k = taken m t e n takes in
    let s2 = after_entry m.program (code_of m.program t) k.s k.asked e in
    let less : s2.fuel ≤ k.s.fuel = entry_fuel m.program (code_of m.program t) k.s k.asked e in
    subst (IsBelow top) k.is
    (each_set (λ (t : ℕ) (s : ThreadState). s.fuel ≤ top) m.threads t k.s s2 k.at (omega (arith, less, below t k.s k.at)) (λ j z other at. below j z at))

pub spent_after : (m n : PlainMachine) (t : ℕ) (e : Entry) → HasSpent m → take m t e ≡ Some n → HasSpent n
spent_after m n t e spent takes = go (t == spent.thread) refl
  where
    go : (b : Bool) → (t == spent.thread) ≡ b → HasSpent n
    go true same =
        let k = taken m t e n takes in
        let s2 = after_entry m.program (code_of m.program t) k.s k.asked e in
        let here : slice_get m.threads t ≡ Some spent.state =
        subst (λ (u : ℕ). slice_get m.threads u ≡ Some spent.state) (sym (eqb-true t spent.thread same)) spent.at in
        let is : spent.state ≡ k.s = same_Some spent.state k.s (sym here ∙ k.at) in
        let stays : is_spent s2.mode ≡ true =
        spent_stays m.program (code_of m.program t) k.s k.asked e (subst (λ (s : ThreadState). is_spent s.mode ≡ true) is spent.spent) k.asks in
        subst HasSpent k.is (record { thread = t; state = s2; at = get_set_same m.threads t k.s s2 k.at; spent = stays })
    go false differ =
        let k = taken m t e n takes in
        let s2 = after_entry m.program (code_of m.program t) k.s k.asked e in
        let apart : t ≢ spent.thread = λ same. false≢true (sym differ ∙ subst (λ (u : ℕ). (t == u) ≡ true) same (eq-eqb t t refl)) in
        subst HasSpent k.is
        (record { thread = spent.thread; state = spent.state; at = get_set_other m.threads t spent.thread s2 apart ∙ spent.at; spent = spent.spent })

-- fuel isn't asked for
pub ask_full : (top : ℕ) (s : ThreadState) → ask (with_fuel top s) ≡ ask s
ask_full top s = go s.mode refl
  where
    go : (mode : Mode) → s.mode ≡ mode → ask (with_fuel top s) ≡ ask s
    go (Calling c) e = rw e refl
    go (Waiting o) e = rw e refl
    go (Unwinding x) e = rw e refl
    go (Ended x) e = rw e refl

-- the machine with all its fuel goes the same way, unless a thread is spent
pub record GoesFull (top : ℕ) (m n : PlainMachine) (t : ℕ) (e : Entry) : Type 0 where
  pub machine : PlainMachine
  pub takes : take (refuelled top m) t e ≡ Some machine
  pub same : HasSpent n ⊎ (refuelled top n ≡ refuelled top machine)

goes_full : (top : ℕ) (m n : PlainMachine) (t : ℕ) (e : Entry) → IsBelow top m → take m t e ≡ Some n → GoesFull top m n t e
goes_full top m n t e below takes =
    let k = taken m t e n takes in
    let i = code_of m.program t in
    let s2 = after_entry m.program i k.s k.asked e in
    let f2 = after_entry m.program i (with_fuel top k.s) k.asked e in
    let full : take (refuelled top m) t e ≡ Some (moved_on (refuelled top m) t f2 k.made_then k.objects) =
    takes_from (refuelled top m) t e (with_fuel top k.s) k.asked k.made_then k.objects (get_map (λ s. with_fuel top s) m.threads t k.s k.at)
    (ask_full top k.s ∙ k.asks) k.fit k.makes k.takes in
    record { machine = moved_on (refuelled top m) t f2 k.made_then k.objects; takes = full; same = go k s2 f2 refl refl (is_spent s2.mode) refl }
  where
    go : (k : IsTaken m t e n) (s2 f2 : ThreadState) → s2 ≡ after_entry m.program (code_of m.program t) k.s k.asked e
        → f2 ≡ after_entry m.program (code_of m.program t) (with_fuel top k.s) k.asked e
        → (b : Bool) → is_spent s2.mode ≡ b → HasSpent n ⊎ (refuelled top n ≡ refuelled top (moved_on (refuelled top m) t f2 k.made_then k.objects))
    go k s2 f2 is is2 true spent =
        let next : moved_on m t s2 k.made_then k.objects ≡ n = ap (λ (s : ThreadState). moved_on m t s k.made_then k.objects) is ∙ k.is in
        inl (subst HasSpent next (record { thread = t; state = s2; at = get_set_same m.threads t k.s s2 k.at; spent = spent }))
    go k s2 f2 is is2 false alive =
        let i = code_of m.program t in
        let w : ThreadState → ThreadState = λ s. with_fuel top s in
        let same : with_fuel top (after_entry m.program i (with_fuel top k.s) k.asked e) ≡ with_fuel top (after_entry m.program i k.s k.asked e) =
        entry_more top m.program i k.s k.asked e (below t k.s k.at) (ap (λ (s : ThreadState). is_spent s.mode) (sym is) ∙ alive) in
        let ends : with_fuel top s2 ≡ with_fuel top f2 = ap w is ∙ sym same ∙ ap w (sym is2) in
        let left : map w (slice_set m.threads t s2) ≡ slice_set (map w m.threads) t (w s2) = map_set w m.threads t s2 in
        let right : map w (slice_set (map w m.threads) t f2) ≡ slice_set (map w m.threads) t (w f2) =
        map_set w (map w m.threads) t f2 ∙ ap (λ (xs : List ThreadState). slice_set xs t (w f2)) (full_twice top m.threads) in
        let threads : map w (slice_set m.threads t s2) ≡ map w (slice_set (map w m.threads) t f2) =
        left ∙ ap (slice_set (map w m.threads) t) ends ∙ sym right in
        let next : moved_on m t s2 k.made_then k.objects ≡ n = ap (λ (s : ThreadState). moved_on m t s k.made_then k.objects) is ∙ k.is in
        inr (ap (refuelled top) (sym next) ∙ ap (λ (xs : List ThreadState). record m { objects = k.objects; made = k.made_then; threads = xs }) threads)

-- and what it takes with all its fuel it takes with less
pub record GoesLess (top : ℕ) (m b : PlainMachine) (t : ℕ) (e : Entry) : Type 0 where
  pub machine : PlainMachine
  pub takes : take m t e ≡ Some machine
  pub same : HasSpent machine ⊎ (refuelled top machine ≡ refuelled top b)

goes_less : (top : ℕ) (m b : PlainMachine) (t : ℕ) (e : Entry) → IsBelow top m → take (refuelled top m) t e ≡ Some b → GoesLess top m b t e
goes_less top m b t e below takes =
    let k = taken (refuelled top m) t e b takes in
    let u = get_unmap (λ s. with_fuel top s) m.threads t k.s k.at in
    let asks : ask u.0 ≡ Some k.asked = sym (ask_full top u.0) ∙ ap ask u.2 ∙ k.asks in
    let n = moved_on m t (after_entry m.program (code_of m.program t) u.0 k.asked e) k.made_then k.objects in
    let less : take m t e ≡ Some n = takes_from m t e u.0 k.asked k.made_then k.objects u.1 asks k.fit k.makes k.takes in
    let full = goes_full top m n t e below less in
    let is : full.machine ≡ b = same_Some full.machine b (sym full.takes ∙ takes) in
    record { machine = n; takes = less; same = subst (λ (z : PlainMachine). HasSpent n ⊎ (refuelled top n ≡ refuelled top z)) is full.same }

-- who is spent is so with any fuel
pub spent_full : (top : ℕ) (m : PlainMachine) → HasSpent m → HasSpent (refuelled top m)
spent_full top m h =
    record { thread = h.thread; state = with_fuel top h.state; at = get_map (λ s. with_fuel top s) m.threads h.thread h.state h.at; spent = h.spent }

pub spent_back : (top : ℕ) (m : PlainMachine) → HasSpent (refuelled top m) → HasSpent m
spent_back top m h =
    let u = get_unmap (λ s. with_fuel top s) m.threads h.thread h.state h.at in
    record { thread = h.thread; state = u.0; at = u.1; spent = ap (λ (s : ThreadState). is_spent s.mode) u.2 ∙ h.spent }

spent_same : (top : ℕ) (m n : PlainMachine) → refuelled top n ≡ refuelled top m → HasSpent m → HasSpent n
spent_same top m n same h = spent_back top n (subst HasSpent (sym same) (spent_full top m h))

-- a thread is spent, or the machine with all its fuel is of the list
pub record IsKnown (top : ℕ) (seen : List PlainMachine) (m : PlainMachine) : Type 0 where
  pub below : IsBelow top m
  pub known : HasSpent m ⊎ IsSeen seen (refuelled top m)

abbrev IsCoveredKnown : ℕ → List PlainMachine → PlainMachine → Type 0
IsCoveredKnown top seen m = CoveredBy (IsKnown top seen) m

at_once : (top : ℕ) (seen : List PlainMachine) (m : PlainMachine) → IsKnown top seen m → IsCoveredKnown top seen m
at_once top seen m h = record { entries = []; machine = m; alone = refl; holds = h }

lifted : (xs : List (ℕ × Entry)) (top : ℕ) (seen : List PlainMachine) (n q to : PlainMachine) → IsBelow top n → refuelled top n ≡ q
    → GoesAloneFull top q xs to → IsSeen seen to → IsCoveredKnown top seen n
lifted [] top seen n q to below is alone here = at_once top seen n (record { below = below; known = inr (subst (IsSeen seen) (sym (is ∙ alone)) here) })
lifted (x ∷ xs) top seen n q to below is alone here =
    let own : goes_alone n x.0 x.1 ≡ true = subst (λ (z : PlainMachine). goes_alone z x.0 x.1 ≡ true) (sym is) alone.1 in
    let full : take (refuelled top n) x.0 x.1 ≡ Some alone.0 = subst (λ (z : PlainMachine). take z x.0 x.1 ≡ Some alone.0) (sym is) alone.2 in
    let l = goes_less top n alone.0 x.0 x.1 below full in
    go l own (below_after top n l.machine x.0 x.1 below l.takes) l.same (λ b same. lifted xs top seen l.machine (refuelled top alone.0) to b same alone.3 here)
  where
    go : (l : GoesLess top n alone.0 x.0 x.1) → goes_alone n x.0 x.1 ≡ true → IsBelow top l.machine
        → HasSpent l.machine ⊎ (refuelled top l.machine ≡ refuelled top alone.0)
        → (IsBelow top l.machine → refuelled top l.machine ≡ refuelled top alone.0 → IsCoveredKnown top seen l.machine) → IsCoveredKnown top seen n
    go l own b (inl spent) ih =
        record { entries = x ∷ []; machine = l.machine; alone = (l.machine, own, l.takes, refl); holds = record { below = b; known = inl spent } }
    go l own b (inr same) ih =
        let c = ih b same in record { entries = x ∷ c.entries; machine = c.machine; alone = (l.machine, own, l.takes, c.alone); holds = c.holds }

closed_known : (p : ProgramText) (top : ℕ) (seen : List PlainMachine) → IsClosedFull p top seen → (m n : PlainMachine) (t : ℕ) (e : Entry)
    → IsKnown top seen m → take m t e ≡ Some n → IsCoveredKnown top seen n
closed_known p top seen closed m n t e h takes = go h.known
  where
    b : IsBelow top n
    b = below_after top m n t e h.below takes

    goes_on : (f : GoesFull top m n t e) → refuelled top n ≡ refuelled top f.machine → HasSpent f.machine ⊎ IsCoveredFull top seen (refuelled top f.machine)
        → IsCoveredKnown top seen n
    goes_on f is (inl spent) = at_once top seen n (record { below = b; known = inl (spent_same top f.machine n is spent) })
    goes_on f is (inr c) = lifted c.entries top seen n (refuelled top f.machine) c.machine b is c.alone c.is_seen

    same : (f : GoesFull top m n t e) → IsSeen seen (refuelled top m) → HasSpent n ⊎ (refuelled top n ≡ refuelled top f.machine) → IsCoveredKnown top seen n
    same f here (inl spent) = at_once top seen n (record { below = b; known = inl spent })
    same f here (inr is) = goes_on f is (closed.next (refuelled top m) f.machine t e here f.takes)

    go : HasSpent m ⊎ IsSeen seen (refuelled top m) → IsCoveredKnown top seen n
    go (inl spent) = at_once top seen n (record { below = b; known = inl (spent_after m n t e spent takes) })
    go (inr here) = let f = goes_full top m n t e h.below takes in same f here f.same

-- the threads before their first calls
abbrev pub firsts : ProgramText → ℕ → List ThreadDef → List ThreadState
firsts p fuel ts = map (λ t. first_state p t fuel) ts

pub record HasSpentIn (threads : List ThreadState) : Type 0 where
  pub thread : ℕ
  pub state : ThreadState
  pub at : slice_get threads thread ≡ Some state
  pub spent : is_spent state.mode ≡ true

abbrev pub unrun_state : ProgramText → ThreadDef → ℕ → ThreadState
unrun_state p t fuel =
    record {
      place = 0;
      locals = replicate (length t.locals) Nil;
      fuel = fuel;
      holds = replicate (objects_total p) 0;
      dumps = 0;
      made = 0;
      mode = Unwinding Done;
    }

pub first_full : (p : ProgramText) (t : ThreadDef) (fuel top : ℕ) → fuel ≤ top → is_spent (first_state p t fuel).mode ≡ false
    → with_fuel top (first_state p t top) ≡ with_fuel top (first_state p t fuel)
first_full p t fuel top few h =
    let d : ℕ = top - fuel in
    let more : top ≡ fuel + d = omega (arith, few) in
    subst (λ (n : ℕ). with_fuel top (run_on p t.code n (unrun_state p t top)) ≡ with_fuel top (run_on p t.code fuel (unrun_state p t fuel))) (sym more)
    (run_more fuel d top top (Unwinding Done) p t.code (unrun_state p t fuel) h)

firsts_full : (p : ProgramText) (fuel top : ℕ) (ts : List ThreadDef) → fuel ≤ top
    → HasSpentIn (firsts p fuel ts) ⊎ (map (λ s. with_fuel top s) (firsts p fuel ts) ≡ map (λ s. with_fuel top s) (firsts p top ts))
firsts_full p fuel top [] few = inr refl
firsts_full p fuel top (t ∷ ts) few = go (is_spent (first_state p t fuel).mode) refl (firsts_full p fuel top ts few)
  where
    go : (b : Bool) → is_spent (first_state p t fuel).mode ≡ b
        → HasSpentIn (firsts p fuel ts) ⊎ (map (λ s. with_fuel top s) (firsts p fuel ts) ≡ map (λ s. with_fuel top s) (firsts p top ts))
        → HasSpentIn (firsts p fuel (t ∷ ts)) ⊎ (map (λ s. with_fuel top s) (firsts p fuel (t ∷ ts)) ≡ map (λ s. with_fuel top s) (firsts p top (t ∷ ts)))
    go true spent rest = inl (record { thread = zero; state = first_state p t fuel; at = refl; spent = spent })
    go false alive (inl h) = inl (record { thread = suc h.thread; state = h.state; at = h.at; spent = h.spent })
    go false alive (inr same) =
        let here : with_fuel top (first_state p t fuel) ≡ with_fuel top (first_state p t top) = sym (first_full p t fuel top few alive) in
        inr (ap (λ (s : ThreadState). s ∷ map (λ s. with_fuel top s) (firsts p fuel ts)) here
        ∙ ap (λ (xs : List ThreadState). with_fuel top (first_state p t top) ∷ xs) same)

firsts_below : (p : ProgramText) (fuel top : ℕ) (ts : List ThreadDef) → fuel ≤ top → AtEach (λ (t : ℕ) (s : ThreadState). s.fuel ≤ top) (firsts p fuel ts)
firsts_below p fuel top ts few k s at =
    let u = get_unmap (λ t. first_state p t fuel) ts k s at in
    subst (λ (x : ThreadState). x.fuel ≤ top) u.2 (omega (arith, few, run_fuel fuel p u.0.code (unrun_state p u.0 fuel)))

first_known : (p : ProgramText) (fuel top : ℕ) (seen : List PlainMachine) → fuel ≤ top → IsClosedFull p top seen → IsCoveredKnown top seen (new_machine p fuel)
first_known p fuel top seen few closed = go (firsts_full p fuel top p.threads few)
  where
    b : IsBelow top (new_machine p fuel)
    b = firsts_below p fuel top p.threads few

    goes_on : refuelled top (new_machine p fuel) ≡ refuelled top (new_machine p top)
        → HasSpent (new_machine p top) ⊎ IsCoveredFull top seen (refuelled top (new_machine p top)) → IsCoveredKnown top seen (new_machine p fuel)
    goes_on is (inl spent) =
        at_once top seen (new_machine p fuel) (record { below = b; known = inl (spent_same top (new_machine p top) (new_machine p fuel) is spent) })
    goes_on is (inr c) = lifted c.entries top seen (new_machine p fuel) (refuelled top (new_machine p top)) c.machine b is c.alone c.is_seen

    go : HasSpentIn (firsts p fuel p.threads) ⊎ (map (λ s. with_fuel top s) (firsts p fuel p.threads) ≡ map (λ s. with_fuel top s) (firsts p top p.threads))
        → IsCoveredKnown top seen (new_machine p fuel)
    go (inl h) =
        at_once top seen (new_machine p fuel) (record { below = b; known = inl (record { thread = h.thread; state = h.state; at = h.at; spent = h.spent }) })
    go (inr same) = goes_on (ap (λ (xs : List ThreadState). record (new_machine p fuel) { threads = xs }) same) closed.first

pub over_is_known : (p : ProgramText) (fuel top : ℕ) (seen : List PlainMachine) (logs : List (List Logged)) (n : PlainMachine) → IsProgram p
    → IsClosedFull p top seen → fuel ≤ top
    → machine_after p fuel logs ≡ Some n → IsOver n → HasSpent n ⊎ IsSeen seen (refuelled top n)
over_is_known p fuel top seen logs n valid closed few after over =
    let xs = order logs in
    let c = first_known p fuel top seen few closed in
    let r = first_is_reached p fuel valid in
    (covered (IsKnown top seen) (length xs) (new_machine p fuel) n c.entries c.machine xs (closed_known p top seen closed)
    (omega arith) (over_takes_nothing n (all_reached xs (new_machine p fuel) n r after) over) r c.alone c.holds after).known
