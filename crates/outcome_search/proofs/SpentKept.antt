-- Where nothing is open, a machine with a spent thread is kept where entries lead to one: what goes alone goes first on every way there.
use Rattle.std.proofs.Common.{◌≡◌, ◌≢◌, ◌⊎◌, inl, inr, ℕ, zero, suc, ◌+◌, ◌≤◌, Bool, true, false, ◌==◌, cond, List, [], ◌∷◌, length}
use Rattle.std.proofs.Common.{map, slice_get, slice_set, Some, refl, sym, ap, ◌∙◌, subst, eqb-true, eq-eqb, arith}
use Rattle.std.proofs.lemmas.Bool.{false≢true, true≢false, and_parts}
use Rattle.std.proofs.lemmas.Option.{none-some, same_Some}
use Rattle.plain_monitor.specs.declared.entry.Entry.{Entry}
use Rattle.plain_monitor.specs.declared.entry.Entry.TheVariants.{Hash}
use Rattle.plain_monitor.specs.declared.entry.Logged.{Logged}
use Rattle.plain_monitor.proofs.Lists.{get_set_other}
use Rattle.object_program.specs.Program.{ProgramText}
use Rattle.object_program.specs.Valid.{IsProgram}
use Rattle.plain_machine.specs.declared.offer.Offer.{Offer}
use Rattle.plain_machine.specs.declared.offer.Offer.TheVariants as offer
use Rattle.plain_machine.specs.Thread.{ThreadState}
use Rattle.plain_machine.specs.Asking.{after_entry}
use Rattle.plain_machine.specs.Machine.{PlainMachine, new_machine, code_of, take}
use Rattle.plain_machine.specs.Offering.{offered}
use Rattle.machine_laws.specs.Reached.{IsReached}
use Rattle.machine_laws.proofs.ReachedAsked.{taken}
use Rattle.machine_laws.proofs.ReachedEntries.{progress}
use Rattle.machine_laws.proofs.ReachedFirst.{first_is_reached}
use Rattle.every_outcome.specs.Alone.{is_hash, goes_alone}
use Rattle.every_outcome.specs.Covered.{IsSeen}
use Rattle.every_outcome.specs.Fuel.{with_fuel, refuelled, HasSpent, GoesAloneFull, IsCoveredFull}
use Rattle.every_outcome.specs.Offers.{bare, StandsFor}
use Rattle.every_outcome.proofs.Commute.{moved_on, takes_from, commutes}
use Rattle.every_outcome.proofs.FullFuel.{full_twice, spent_after, spent_full}
use Rattle.every_outcome.proofs.Offers.{taken_is_offered}
use Rattle.every_outcome.proofs.Places.{get_map, map_set}
use Rattle.every_outcome.proofs.Reduced.{bare_same}
use Rattle.every_outcome.proofs.Refuelled.{reached_full}
use Rattle.outcome_search.specs.declared.ends.End.{End}
use Rattle.outcome_search.specs.declared.ends.End.TheVariants.{Spent}
use Rattle.outcome_search.specs.declared.outcome.Outcomes.{Outcomes}
use Rattle.outcome_search.specs.Ends.{end_of}
use Rattle.outcome_search.specs.EveryEnd.{so_many, IsGoneInto, IsEveryEnd}
use Rattle.outcome_search.specs.NextWords.{is_any_spent}
use Rattle.outcome_search.specs.Outcomes.{top_fuel, is_end}
use Rattle.outcome_search.specs.Real.{LeadsRefuelled, IsLed}
use Rattle.outcome_search.proofs.EveryEnds.{one_so, more_so}
use Rattle.outcome_search.proofs.KnownEnds.{some_fuel, spent_end, alive_end}
use Rattle.outcome_search.proofs.Ways.{has_spent, not_spent}

-- each thread has all its fuel
abbrev IsFull : ℕ → PlainMachine → Type 0
IsFull fuel m = refuelled fuel m ≡ m

full_again : (fuel : ℕ) (m : PlainMachine) → IsFull fuel (refuelled fuel m)
full_again fuel m = ap (λ (ss : List ThreadState). record m { threads = ss }) (full_twice fuel m.threads)

thread_full : (fuel : ℕ) (m : PlainMachine) (t : ℕ) (s : ThreadState) → IsFull fuel m → slice_get m.threads t ≡ Some s → with_fuel fuel s ≡ s
thread_full fuel m t s full at =
    same_Some (with_fuel fuel s) s (sym (get_map (λ s. with_fuel fuel s) m.threads t s at) ∙ ap (λ (z : PlainMachine). slice_get z.threads t) full ∙ at)

-- the same entry of a thread that has all its fuel, where the others get theirs back before it
record TakesFull (fuel : ℕ) (b c : PlainMachine) (t : ℕ) (e : Entry) : Type 0 where
  pub machine : PlainMachine
  pub takes : take (refuelled fuel b) t e ≡ Some machine
  pub same : refuelled fuel machine ≡ refuelled fuel c

takes_full : (fuel : ℕ) (b c : PlainMachine) (t : ℕ) (e : Entry)
    → ((s : ThreadState) → slice_get b.threads t ≡ Some s → with_fuel fuel s ≡ s) → take b t e ≡ Some c → TakesFull fuel b c t e
takes_full fuel b c t e own takes =
    let w : ThreadState → ThreadState = λ s. with_fuel fuel s in
    let k = taken b t e c takes in
    let s2 = after_entry b.program (code_of b.program t) k.s k.asked e in
    let at : slice_get (map w b.threads) t ≡ Some k.s = get_map w b.threads t k.s k.at ∙ ap Some (own k.s k.at) in
    let one : map w (slice_set (map w b.threads) t s2) ≡ slice_set (map w b.threads) t (w s2) =
    map_set w (map w b.threads) t s2 ∙ ap (λ (xs : List ThreadState). slice_set xs t (w s2)) (full_twice fuel b.threads) in
    let threads : map w (slice_set (map w b.threads) t s2) ≡ map w (slice_set b.threads t s2) = one ∙ sym (map_set w b.threads t s2) in
    record {
      machine = moved_on (refuelled fuel b) t s2 k.made_then k.objects;
      takes = takes_from (refuelled fuel b) t e k.s k.asked k.made_then k.objects at k.asks k.fit k.makes k.takes;
      same =
          ap (λ (xs : List ThreadState). record b { objects = k.objects; made = k.made_then; threads = xs }) threads ∙ ap (refuelled fuel) k.is;
    }

-- of another thread than that of the entry before, in a machine whose threads all had their fuel
takes_after : (fuel : ℕ) (m b c : PlainMachine) (t u : ℕ) (e f : Entry) → IsFull fuel m → u ≢ t → take m u f ≡ Some b → take b t e ≡ Some c
    → TakesFull fuel b c t e
takes_after fuel m b c t u e f full apart before takes =
    let k = taken m u f b before in
    let v2 = after_entry m.program (code_of m.program u) k.s k.asked f in
    let beside : slice_get b.threads t ≡ slice_get m.threads t =
    ap (λ (z : PlainMachine). slice_get z.threads t) (sym k.is) ∙ get_set_other m.threads u t v2 apart in
    takes_full fuel b c t e (λ s at. thread_full fuel m t s full (sym beside ∙ at)) takes

-- an entry that goes alone is the only one of its thread
alone_no_hash : (m : PlainMachine) (t : ℕ) (e : Entry) → goes_alone m t e ≡ true → is_hash e ≡ false
alone_no_hash m t (Hash o v d) own = absurd (false≢true (and_parts _ _ own).1)
alone_no_hash m t e own = refl

same_offer : (made : Offer) (e f : Entry) → is_hash e ≡ false → StandsFor made e → StandsFor made f → bare e ≡ bare f
same_offer (offer.Next g) e f other h k = sym h ∙ k
same_offer (offer.NextHash o) (Hash i v d) f other h k = absurd (true≢false other)
same_offer _ e f other h k = absurd h

only_one : (m a b : PlainMachine) (t : ℕ) (e f : Entry) → IsReached m → goes_alone m t e ≡ true → take m t e ≡ Some a → take m t f ≡ Some b → a ≡ b
only_one m a b t e f r own takes takes2 =
    let same =
    same_offer (offered m t) e f (alone_no_hash m t e own) (taken_is_offered m a t e r takes) (taken_is_offered m b t f r takes2) in
    same_Some a b (sym takes ∙ sym (bare_same m t e) ∙ ap (take m t) same ∙ bare_same m t f ∙ takes2)

-- no more entries lead from the machine to one with a spent thread
record LeadsToSpent (fuel : ℕ) (a : PlainMachine) (most : ℕ) : Type 0 where
  pub entries : List (ℕ × Logged)
  pub machine : PlainMachine
  pub leads : LeadsRefuelled fuel a entries machine
  pub spent : HasSpent machine
  pub few : length entries ≤ most

-- an entry that goes alone may go first on the way there
goes_first : (fuel : ℕ) (xs : List (ℕ × Logged)) (m a n : PlainMachine) (t : ℕ) (e : Entry) → 1 ≤ fuel → IsFull fuel m → IsReached m
    → goes_alone m t e ≡ true → take m t e ≡ Some a → LeadsRefuelled fuel m xs n → HasSpent n → LeadsToSpent fuel (refuelled fuel a) (length xs)
goes_first fuel [] m a n t e some full r own takes leads spent =
    record {
      entries = [];
      machine = refuelled fuel a;
      leads = refl;
      spent = spent_full fuel a (spent_after m a t e (subst HasSpent (sym leads) spent) takes);
      few = omega arith;
    }
goes_first fuel (x ∷ xs) m a n t e some full r own takes leads spent =
    by (t == x.0) refl (λ b c r2 own2 takes2 rest. goes_first fuel xs b c n t e some (sym (sym rest.0)) r2 own2 takes2 rest.1 spent)
  where
    by : (same : Bool) → (t == x.0) ≡ same
        → ((b c : PlainMachine) → IsReached b → goes_alone b t e ≡ true → take b t e ≡ Some c → IsFull fuel b × LeadsRefuelled fuel b xs n
        → LeadsToSpent fuel (refuelled fuel c) (length xs))
        → LeadsToSpent fuel (refuelled fuel a) (length (x ∷ xs))
    by true same ih =
        let takes2 : take m t x.1.entry ≡ Some leads.0 = subst (λ (u : ℕ). take m u x.1.entry ≡ Some leads.0) (sym (eqb-true t x.0 same)) leads.1 in
        let is : a ≡ leads.0 = only_one m a leads.0 t e x.1.entry r own takes takes2 in
        record {
          entries = xs;
          machine = n;
          leads = subst (λ (z : PlainMachine). LeadsRefuelled fuel (refuelled fuel z) xs n) (sym is) leads.2;
          spent = spent;
          few = omega arith;
        }
    by false differ ih =
        let b = leads.0 in
        let apart : t ≢ x.0 = λ same. false≢true (sym differ ∙ subst (λ (u : ℕ). (t == u) ≡ true) same (eq-eqb t t refl)) in
        let c = commutes m a b t x.0 e x.1.entry apart own takes leads.1 in
        let here = takes_after fuel m b c.machine t x.0 e x.1.entry full (λ same. apart (sym same)) leads.1 c.after_b in
        let there = takes_after fuel m a c.machine x.0 t x.1.entry e full apart takes c.after_a in
        let reached = reached_full fuel b some (progress m b x.0 x.1.entry r leads.1).reached in
        let rest = ih (refuelled fuel b) here.machine reached c.alone here.takes (full_again fuel b, leads.2) in
        let same : refuelled fuel here.machine ≡ refuelled fuel there.machine = here.same ∙ sym there.same in
        record {
          entries = x ∷ rest.entries;
          machine = rest.machine;
          leads =
              (there.machine, there.takes, subst (λ (z : PlainMachine). LeadsRefuelled fuel z rest.entries rest.machine) same rest.leads);
          spent = rest.spent;
          few = omega (arith, rest.few);
        }

-- a machine of the list has a spent thread
record KeepsSpent (machines : List PlainMachine) : Type 0 where
  pub number : ℕ
  pub machine : PlainMachine
  pub at : slice_get machines number ≡ Some machine
  pub spent : HasSpent machine

module _ (p : ProgramText) (fuel : ℕ) (machines : List PlainMachine) (some : 1 ≤ fuel) (gone : IsGoneInto p fuel machines) where
  -- of ways that have so many entries at most
  abbrev IsKeptWithin : ℕ → Type 0
  IsKeptWithin most =
      (m n : PlainMachine) (xs : List (ℕ × Logged)) → length xs + 1 ≤ most → IsFull fuel m → IsReached m → IsCoveredFull fuel machines m
      → LeadsRefuelled fuel m xs n → HasSpent n → KeepsSpent machines

  along : (most : ℕ) (alone : List (ℕ × Entry)) (m n to : PlainMachine) (xs : List (ℕ × Logged)) → IsKeptWithin most → length xs ≤ most
      → IsFull fuel m → IsReached m → GoesAloneFull fuel m alone to → IsSeen machines to → LeadsRefuelled fuel m xs n → HasSpent n
      → KeepsSpent machines
  along most [] m n to [] less few full r alone seen leads spent =
      record { number = seen.0; machine = to; at = seen.1; spent = subst HasSpent (sym leads ∙ alone) spent }
  along most [] m n to (x ∷ xs) less few full r alone seen leads spent =
      go (gone.next m leads.0 x.0 x.1.entry (seen.0, seen.1 ∙ ap Some (sym alone)) leads.1)
    where
      go : HasSpent m ⊎ IsCoveredFull fuel machines (refuelled fuel leads.0) → KeepsSpent machines
      go (inl here) = record { number = seen.0; machine = to; at = seen.1; spent = subst HasSpent alone here }
      go (inr covered) =
          less (refuelled fuel leads.0) n xs (omega (arith, few)) (full_again fuel leads.0)
          (reached_full fuel leads.0 some (progress m leads.0 x.0 x.1.entry r leads.1).reached) covered leads.2 spent
  along most (y ∷ ys) m n to xs less few full r alone seen leads spent =
      let f = goes_first fuel xs m alone.0 n y.0 y.1 some full r alone.1 alone.2 leads spent in
      along most ys (refuelled fuel alone.0) f.machine to f.entries less (omega (arith, few, f.few)) (full_again fuel alone.0)
      (reached_full fuel alone.0 some (progress m alone.0 y.0 y.1 r alone.2).reached) alone.3 seen f.leads f.spent

  within : (most : ℕ) → IsKeptWithin most
  within zero m n xs few full r covered leads spent = absurd (omega (arith, few))
  within (suc most) m n xs few full r covered leads spent =
      along most covered.entries m n covered.machine xs (within most) (omega (arith, few)) full r covered.alone covered.is_seen leads spent

  keeps_spent : (m : PlainMachine) → IsProgram p → IsLed p fuel m → HasSpent m → KeepsSpent machines
  keeps_spent m valid led spent =
      let first = new_machine p fuel in
      within (length led.entries + 1) (refuelled fuel first) m led.entries (omega arith) (full_again fuel first)
      (reached_full fuel first some (first_is_reached p fuel valid)) gone.first led.leads spent

-- ---- what is counted

some_so : (end : End) (machines : List PlainMachine) (k : ℕ) (m : PlainMachine) → slice_get machines k ≡ Some m → is_end end (end_of m) ≡ true
    → 1 ≤ so_many end machines
some_so end [] k m at so = absurd (none-some m at)
some_so end (x ∷ xs) zero m at so =
    let here : one_so end x ≡ 1 = ap (λ (b : Bool). cond b 1 0) (ap (λ (z : PlainMachine). is_end end (end_of z)) (same_Some x m at) ∙ so) in
    omega (arith, more_so end x xs, here)
some_so end (x ∷ xs) (suc k) m at so = omega (arith, more_so end x xs, some_so end xs k m at so)

pub any_spent : (m : PlainMachine) → HasSpent m → is_any_spent m ≡ true
any_spent m spent = go (is_any_spent m) refl
  where
    go : (b : Bool) → is_any_spent m ≡ b → is_any_spent m ≡ true
    go true e = e
    go false e = absurd (not_spent m e spent)

pub spent_is_counted : (p : ProgramText) (most : ℕ) (o : Outcomes) (m : PlainMachine) → IsProgram p → IsEveryEnd p most o → o.«open» ≡ 0
    → IsLed p top_fuel m → HasSpent m → 1 ≤ o.spent
spent_is_counted p most o m valid h none led spent =
    let k = keeps_spent p top_fuel h.kept some_fuel (h.gone none) m valid led spent in
    omega (arith, h.spent, some_so Spent h.kept k.number k.machine k.at (ap (is_end Spent) (spent_end k.machine (any_spent k.machine k.spent))))

pub some_state_is_kept : (p : ProgramText) (most : ℕ) (o : Outcomes) → IsEveryEnd p most o → o.«open» ≡ 0 → 1 ≤ o.states
some_state_is_kept p most o h none = omega (arith, h.states, some_kept h.kept (h.gone none).first.is_seen)
  where
    some_kept : {m : PlainMachine} (machines : List PlainMachine) → IsSeen machines m → 1 ≤ length machines
    some_kept [] seen = absurd (none-some _ seen.1)
    some_kept (x ∷ xs) seen = omega arith

-- what is counted is led to
record SoAt (end : End) (machines : List PlainMachine) : Type 0 where
  pub number : ℕ
  pub machine : PlainMachine
  pub at : slice_get machines number ≡ Some machine
  pub so : is_end end (end_of machine) ≡ true

so_at : (end : End) (machines : List PlainMachine) → 1 ≤ so_many end machines → SoAt end machines
so_at end [] h = absurd (omega (arith, h))
so_at end (x ∷ xs) h = go (is_end end (end_of x)) refl (so_at end xs)
  where
    go : (b : Bool) → is_end end (end_of x) ≡ b → (1 ≤ so_many end xs → SoAt end xs) → SoAt end (x ∷ xs)
    go true so rest = record { number = 0; machine = x; at = refl; so = so }
    go false other rest =
        let here : one_so end x ≡ 0 = ap (λ (b : Bool). cond b 1 0) other in
        let r = rest (omega (arith, h, more_so end x xs, here)) in
        record { number = suc r.number; machine = r.machine; at = r.at; so = r.so }

pub counted_is_led_to : (p : ProgramText) (most : ℕ) (o : Outcomes) → IsEveryEnd p most o → 1 ≤ o.spent
    → (m : PlainMachine) × IsLed p top_fuel m × HasSpent m
counted_is_led_to p most o h some =
    let k = so_at Spent h.kept (omega (arith, h.spent, some)) in
    (k.machine, h.are.led k.number k.machine k.at, has_so k.machine (is_any_spent k.machine) refl k.so)
  where
    has_so : (m : PlainMachine) (b : Bool) → is_any_spent m ≡ b → is_end Spent (end_of m) ≡ true → HasSpent m
    has_so m true e so = has_spent m e
    has_so m false e so = absurd (false≢true (sym (alive_end m e) ∙ so))
