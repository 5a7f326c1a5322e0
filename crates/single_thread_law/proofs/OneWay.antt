-- Two logs of one thread that lead from one machine to machines that are over are the same but for paths, and so are the machines.
use Rattle.std.proofs.Common.{◌≡◌, ℕ, ◌+◌, ◌||◌, Bool, true, List, [], ◌∷◌, map, Some, refl, sym, ap, ◌∙◌, subst, arith}
use Rattle.std.proofs.lemmas.Bool.{false≢true}
use Rattle.std.proofs.lemmas.Option.{same_Some}
use Rattle.plain_monitor.specs.declared.entry.Entry.{Entry}
use Rattle.plain_monitor.specs.declared.entry.Entry.TheVariants as entry
use Rattle.plain_monitor.specs.declared.entry.Logged.{Logged}
use Rattle.plain_monitor.specs.declared.entry.Path.TheVariants.{StackFirst}
use Rattle.plain_monitor.specs.Objects.{named}
use Rattle.plain_history.specs.EnterPaths.{is_hash, has_hash}
use Rattle.plain_history.proofs.Joined.{first_some}
use Rattle.plain_history.proofs.SoundHistories.{AllSound, named_sound, new_sound}
use Rattle.core_world.specs.Clauses.Draws.{AreDraws, draw_in, drawn_by, first_draw, draws_for}
use Rattle.object_program.specs.Program.{ProgramText, shape_of}
use Rattle.plain_machine.specs.Asking.{ask, fits}
use Rattle.plain_machine.specs.Legal.{after_all}
use Rattle.plain_machine.specs.Machine.{PlainMachine, new_machine, take}
use Rattle.machine_laws.proofs.ReachedPaths.{path_changes_nothing}
use Rattle.single_thread_law.specs.LoneRun.{without_path, with_no_path, AreSameButForPaths, NoneGoesOn, IsLoneRun}
use Rattle.single_thread_law.proofs.Drawing.{seen_with, nothing_seen, AreDrawnFirst, drawn_at_first}
use Rattle.single_thread_law.proofs.Ending.{HasTaken, has_taken, over_takes_nothing}
use Rattle.single_thread_law.proofs.Fitting.{same_entry}
use Rattle.single_thread_law.proofs.Hashed.{HaveHashes, hashes_kept}
use Rattle.single_thread_law.proofs.OneLog.{of_first, order_of_one, only_log, CountsFrom, counted}

-- what is known before some entries: the objects' monitors are sound, and who was seen has a hash
record IsKnown (m : PlainMachine) (seen : ℕ → Bool) : Type 0 where
  sound : AllSound m.objects
  hashes : HaveHashes seen m.objects

known_on : (m n : PlainMachine) (seen : ℕ → Bool) (e : Entry) → IsKnown m seen → take m 0 e ≡ Some n → IsKnown n (seen_with e seen)
known_on m n seen e k h =
    let r = has_taken m n 0 e h in
    record {
      sound = named_sound m.objects n.objects 0 e (named e) k.sound r.takes;
      hashes = hashes_kept seen m.objects n.objects 0 e k.hashes r.takes;
    }

-- the thread's log goes on so from this machine to one that is over
record GoesOn (m : PlainMachine) (seen : ℕ → Bool) (first drawn stamp : ℕ) (log : List Logged) (final : PlainMachine) : Type 0 where
  leads : after_all m (of_first log) ≡ Some final
  over : NoneGoesOn final
  firsts : AreDrawnFirst seen log
  draws : AreDraws first drawn log
  counts : CountsFrom stamp log

-- one entry on
record IsOneOn (m : PlainMachine) (seen : ℕ → Bool) (first drawn stamp : ℕ) (l : Logged) (log : List Logged) (final : PlainMachine) : Type 0 where
  next : PlainMachine
  takes : take m 0 l.entry ≡ Some next
  on : GoesOn next (seen_with l.entry seen) first (drawn_by (draw_in l.entry) + drawn) (stamp + 1) log final

one_on : (m : PlainMachine) (seen : ℕ → Bool) (first drawn stamp : ℕ) (l : Logged) (log : List Logged) (final : PlainMachine)
    → GoesOn m seen first drawn stamp (l ∷ log) final → IsOneOn m seen first drawn stamp l log final
one_on m seen first drawn stamp l log final g =
    let a = first_some (λ n. after_all n (of_first log)) (take m 0 l.entry) final g.leads in
    record {
      next = a.0;
      takes = a.1;
      on = record { leads = a.2; over = g.over; firsts = g.firsts.1; draws = g.draws.1; counts = g.counts.1 };
    }

-- what does not look at paths
same_take : (m : PlainMachine) (e : Entry) → take m 0 (without_path e) ≡ take m 0 e
same_take m (entry.Enter o path) = path_changes_nothing m 0 o StackFirst path
same_take m e = refl

same_draw : (e : Entry) → draw_in (without_path e) ≡ draw_in e
same_draw (entry.Enter o path) = refl
same_draw e = refl

same_hash : (o : ℕ) (e : Entry) → is_hash o (without_path e) ≡ is_hash o e
same_hash o (entry.Enter k path) = refl
same_hash o e = refl

module _ (e f : Entry) (same : without_path e ≡ without_path f) where
  pub take_same : (m : PlainMachine) → take m 0 e ≡ take m 0 f
  take_same m = sym (same_take m e) ∙ ap (take m 0) same ∙ same_take m f

  draw_same : draw_in e ≡ draw_in f
  draw_same = sym (same_draw e) ∙ ap draw_in same ∙ same_draw f

  hash_same : (o : ℕ) → is_hash o e ≡ is_hash o f
  hash_same o = sym (same_hash o e) ∙ ap (is_hash o) same ∙ same_hash o f

  seen_same : (seen : ℕ → Bool) → seen_with e seen ≡ seen_with f seen
  seen_same seen = λ i o. hash_same o i || seen o

-- the state of draws and hashes after an entry that is the same but for the path
goes_as : (m n : PlainMachine) (e f : Entry) (seen : ℕ → Bool) (first drawn stamp : ℕ) (log : List Logged) (final : PlainMachine)
    → m ≡ n → without_path e ≡ without_path f
    → GoesOn n (seen_with f seen) first (drawn_by (draw_in f) + drawn) stamp log final
    → GoesOn m (seen_with e seen) first (drawn_by (draw_in e) + drawn) stamp log final
goes_as m n e f seen first drawn stamp log final there same g =
    let a = subst (λ (k : PlainMachine). GoesOn k (seen_with f seen) first (drawn_by (draw_in f) + drawn) stamp log final) (sym there) g in
    let b = subst (λ s. GoesOn m s first (drawn_by (draw_in f) + drawn) stamp log final) (sym (seen_same e f same seen)) a in
    subst (λ d. GoesOn m (seen_with e seen) first (drawn_by d + drawn) stamp log final) (sym (draw_same e f same)) b

record AreOneWay (m n : PlainMachine) (log other : List Logged) : Type 0 where
  logs : map with_no_path log ≡ map with_no_path other
  machines : m ≡ n

-- the first entries of two logs are the same but for the path
first_same : (m next after : PlainMachine) (seen : ℕ → Bool) (first drawn stamp : ℕ) (l k : Logged) (log other : List Logged) (x y : PlainMachine)
    → IsKnown m seen → GoesOn m seen first drawn stamp (l ∷ log) x → GoesOn m seen first drawn stamp (k ∷ other) y
    → HasTaken m next 0 l.entry → HasTaken m after 0 k.entry → without_path l.entry ≡ without_path k.entry
first_same m next after seen first drawn stamp l k log other x y known g h r q =
    let state = same_Some q.s r.s (sym q.at ∙ r.at) in
    let asked = same_Some q.asked r.asked (sym q.asks ∙ ap ask state ∙ r.asks) in
    same_entry m.objects seen first drawn 0 r.asked l.entry k.entry r.fit (subst (λ a. fits a k.entry ≡ true) asked q.fit)
    (next.objects, r.takes) (after.objects, q.takes) (λ o p c is at. r.next o c is ∙ sym (q.next p c at))
    (record { hashes = known.hashes; drawn = g.firsts.0; drawn_other = h.firsts.0; next = g.draws.0; next_other = h.draws.0 })

-- an entry cannot be logged at a machine that is over
none_more : (m : PlainMachine) (seen : ℕ → Bool) (first drawn stamp : ℕ) (l : Logged) (log : List Logged) (x y : PlainMachine)
    → IsKnown m seen → GoesOn m seen first drawn stamp [] x → GoesOn m seen first drawn stamp (l ∷ log) y → ⊥
none_more m seen first drawn stamp l log x y known g h =
    let r = one_on m seen first drawn stamp l log y h in
    over_takes_nothing m r.next 0 l.entry known.sound (subst NoneGoesOn (sym (same_Some m x g.leads)) g.over) r.takes

same_heads : (l k : Logged) → l.stamp ≡ k.stamp → without_path l.entry ≡ without_path k.entry → with_no_path l ≡ with_no_path k
same_heads l k s e =
    ap (λ (n : ℕ). record { stamp = n; entry = without_path l.entry }) s ∙ ap (λ (x : Entry). record { stamp = k.stamp; entry = x }) e

one_way : (m : PlainMachine) (seen : ℕ → Bool) (first drawn stamp : ℕ) (log other : List Logged) (x y : PlainMachine)
    → IsKnown m seen → GoesOn m seen first drawn stamp log x → GoesOn m seen first drawn stamp other y → AreOneWay x y log other
one_way m seen first drawn stamp [] [] x y known g h =
    record { logs = refl; machines = sym (same_Some m x g.leads) ∙ same_Some m y h.leads }
one_way m seen first drawn stamp [] (k ∷ other) x y known g h = absurd (none_more m seen first drawn stamp k other x y known g h)
one_way m seen first drawn stamp (l ∷ log) [] x y known g h = absurd (none_more m seen first drawn stamp l log y x known h g)
one_way m seen first drawn stamp (l ∷ log) (k ∷ other) x y known g h =
    let a = one_on m seen first drawn stamp l log x g in
    let b = one_on m seen first drawn stamp k other y h in
    let same = first_same m a.next b.next seen first drawn stamp l k log other x y known g h
    (has_taken m a.next 0 l.entry a.takes) (has_taken m b.next 0 k.entry b.takes) in
    let there : a.next ≡ b.next = same_Some a.next b.next (sym a.takes ∙ take_same l.entry k.entry same m ∙ b.takes) in
    let on = goes_as a.next b.next l.entry k.entry seen first drawn (stamp + 1) other y there same b.on in
    let rest = one_way a.next (seen_with l.entry seen) first (drawn_by (draw_in l.entry) + drawn) (stamp + 1) log other x y
    (known_on m a.next seen l.entry known a.takes) a.on on in
    let head = same_heads l k (g.counts.0 ∙ sym h.counts.0) same in
    record {
      logs = ap (λ z. z ∷ map with_no_path log) head ∙ ap (λ zs. with_no_path k ∷ zs) rest.logs;
      machines = rest.machines;
    }

-- at first nothing is known
new_known : (p : ProgramText) (fuel : ℕ) → IsKnown (new_machine p fuel) nothing_seen
new_known p fuel = record { sound = new_sound (shape_of p); hashes = λ o x seen at. absurd (false≢true seen) }

-- the log of a run goes on from the new machine
run_goes_on : (p : ProgramText) (fuel start : ℕ) (log : List Logged) (m : PlainMachine) → IsLoneRun p fuel start (log ∷ []) m
    → GoesOn (new_machine p fuel) nothing_seen (first_draw start 0) 0 0 log m
run_goes_on p fuel start log m r =
    let one : (o : ℕ) → has_hash o log ≡ true → draws_for o log ≡ 1 = λ o has. let all = r.one_drawn o 0 has in omega (arith, all) in
    record {
      leads = ap (after_all (new_machine p fuel)) (sym (order_of_one log r.rises.0)) ∙ r.under;
      over = r.over;
      firsts = drawn_at_first log r.drawn_first one;
      draws = r.drawn 0;
      counts = counted log r.rises.0 r.exact;
    }

-- two runs of one program
pub record AreSameRuns (logs others : List (List Logged)) (m n : PlainMachine) : Type 0 where
  pub same : AreSameButForPaths logs others
  pub machines : m ≡ n

only_ways : (p : ProgramText) (fuel start : ℕ) (log other : List Logged) (m n : PlainMachine) → IsLoneRun p fuel start (log ∷ []) m
    → IsLoneRun p fuel start (other ∷ []) n → AreSameRuns (log ∷ []) (other ∷ []) m n
only_ways p fuel start log other m n r q =
    let w = one_way (new_machine p fuel) nothing_seen (first_draw start 0) 0 0 log other m n (new_known p fuel)
    (run_goes_on p fuel start log m r) (run_goes_on p fuel start other n q) in
    record { same = ap (λ z. z ∷ []) w.logs; machines = w.machines }

pub same_runs : (p : ProgramText) (fuel start : ℕ) (logs others : List (List Logged)) (m n : PlainMachine) → IsLoneRun p fuel start logs m
    → IsLoneRun p fuel start others n → AreSameRuns logs others m n
same_runs p fuel start logs others m n r q =
    let a = only_log logs r.one in
    let b = only_log others q.one in
    let w = only_ways p fuel start a.log b.log m n (subst (λ ls. IsLoneRun p fuel start ls m) a.is r) (subst (λ ls. IsLoneRun p fuel start ls n) b.is q) in
    subst (λ ls. AreSameRuns ls others m n) (sym a.is) (subst (λ ls. AreSameRuns (a.log ∷ []) ls m n) (sym b.is) w)
