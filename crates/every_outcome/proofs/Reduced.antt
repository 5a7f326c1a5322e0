-- A list that covers the machines after its entries has every machine that takes nothing.
use Rattle.std.proofs.Common.{◌≡◌, ◌≢◌, ℕ, zero, suc, ◌+◌, ◌≤◌, Bool, true, false, ◌==◌, List, [], ◌∷◌, length}
use Rattle.std.proofs.Common.{Option, Some, None, refl, sym, ap, ◌∙◌, subst, eqb-true, eq-eqb, arith}
use Rattle.std.proofs.lemmas.Bool.{false≢true, and_parts}
use Rattle.std.proofs.lemmas.Option.{same_Some, option_and_then_some}
use Rattle.plain_monitor.specs.declared.entry.Path.TheVariants.{StackFirst}
use Rattle.plain_monitor.specs.declared.entry.Entry.{Entry}
use Rattle.plain_monitor.specs.declared.entry.Entry.TheVariants.{Enter, Hash}
use Rattle.plain_monitor.specs.declared.entry.Logged.{Logged}
use Rattle.plain_monitor.specs.Order.{order}
use Rattle.object_program.specs.Program.{ProgramText}
use Rattle.object_program.specs.Valid.{IsProgram}
use Rattle.plain_machine.specs.declared.offer.Offer.{Offer}
use Rattle.plain_machine.specs.declared.offer.Offer.TheVariants as offer
use Rattle.plain_machine.specs.Machine.{PlainMachine, new_machine, take}
use Rattle.plain_machine.specs.Legal.{after_all, machine_after}
use Rattle.plain_machine.specs.Offering.{offered}
use Rattle.machine_laws.specs.Reached.{IsReached}
use Rattle.machine_laws.proofs.ReachedEntries.{progress}
use Rattle.machine_laws.proofs.ReachedFirst.{first_is_reached}
use Rattle.machine_laws.proofs.ReachedPaths.{path_changes_nothing, draw_changes_nothing}
use Rattle.every_outcome.specs.Alone.{goes_alone}
use Rattle.every_outcome.specs.Offers.{bare, StandsFor}
use Rattle.every_outcome.specs.Covered.{IsSeen, GoesAlone, IsClosed, TakesNothing}
use Rattle.every_outcome.proofs.Commute.{commutes}
use Rattle.every_outcome.proofs.Offers.{taken_is_offered}

-- neither a path nor a draw changes what is taken
pub bare_same : (m : PlainMachine) (t : ℕ) (e : Entry) → take m t (bare e) ≡ take m t e
bare_same m t (Enter o p) = path_changes_nothing m t o StackFirst p
bare_same m t (Hash o v d) = draw_changes_nothing m t o v None d
bare_same m t e = refl

alone_no_hash : (m : PlainMachine) (t o v : ℕ) (d : Option ℕ) → goes_alone m t (Hash o v d) ≡ true → ⊥
alone_no_hash m t o v d h = false≢true ((and_parts _ _ h).1)

-- an entry that goes alone is offered as it is
alone_next : (m : PlainMachine) (t : ℕ) (e : Entry) (made : Offer) → goes_alone m t e ≡ true → StandsFor made e → made ≡ offer.Next (bare e)
alone_next m t e (offer.Next g) own h = ap offer.Next h
alone_next m t (Hash o v d) (offer.NextHash k) own h = absurd (alone_no_hash m t o v d own)
alone_next m t e _ own h = absurd h

offer_is : (g : Entry) (f : Entry) (made : Offer) → made ≡ offer.Next g → StandsFor made f → g ≡ bare f
offer_is g f made is h = subst (λ (z : Offer). StandsFor z f) is h

-- it is the only entry of its thread
only_one : (m a b : PlainMachine) (t : ℕ) (e f : Entry) → IsReached m → goes_alone m t e ≡ true → take m t e ≡ Some a → take m t f ≡ Some b → a ≡ b
only_one m a b t e f r own takes takes2 =
    let is : offered m t ≡ offer.Next (bare e) = alone_next m t e (offered m t) own (taken_is_offered m a t e r takes) in
    let same : bare e ≡ bare f = offer_is (bare e) f (offered m t) is (taken_is_offered m b t f r takes2) in
    same_Some a b (sym takes ∙ sym (bare_same m t e) ∙ ap (take m t) same ∙ bare_same m t f ∙ takes2)

-- the first of some entries, and the others
pub record IsFirst (m n : PlainMachine) (x : ℕ × Logged) (xs : List (ℕ × Logged)) : Type 0 where
  pub machine : PlainMachine
  pub takes : take m x.0 x.1.entry ≡ Some machine
  pub rest : after_all machine xs ≡ Some n

pub first_of : (m n : PlainMachine) (x : ℕ × Logged) (xs : List (ℕ × Logged)) → after_all m (x ∷ xs) ≡ Some n → IsFirst m n x xs
first_of m n x xs h = option_and_then_some _ (take m x.0 x.1.entry) n h (λ next takes rest. record { machine = next; takes = takes; rest = rest })

-- one entry fewer leads from a to n
pub record IsShorter (a n : PlainMachine) (xs : List (ℕ × Logged)) : Type 0 where
  pub entries : List (ℕ × Logged)
  pub leads : after_all a entries ≡ Some n
  pub fewer : length entries + 1 ≡ length xs

-- an entry that goes alone may go first, on the way to a machine that takes nothing
goes_first : (xs : List (ℕ × Logged)) (m a n : PlainMachine) (t : ℕ) (e : Entry) → TakesNothing n → IsReached m → goes_alone m t e ≡ true
    → take m t e ≡ Some a → after_all m xs ≡ Some n → IsShorter a n xs
goes_first [] m a n t e over r own takes leads = absurd (over t e a (subst (λ (z : PlainMachine). take z t e ≡ Some a) (same_Some m n leads) takes))
goes_first (x ∷ xs) m a n t e over r own takes leads =
    by (t == x.0) refl (first_of m n x xs leads) (λ b c r2 own2 takes2 rest. goes_first xs b c n t e over r2 own2 takes2 rest)
  where
    by : (same : Bool) → (t == x.0) ≡ same → IsFirst m n x xs
        → ((b c : PlainMachine) → IsReached b → goes_alone b t e ≡ true → take b t e ≡ Some c → after_all b xs ≡ Some n → IsShorter c n xs)
        → IsShorter a n (x ∷ xs)
    by true same k ih =
        let takes2 : take m t x.1.entry ≡ Some k.machine = subst (λ (u : ℕ). take m u x.1.entry ≡ Some k.machine) (sym (eqb-true t x.0 same)) k.takes in
        let is : a ≡ k.machine = only_one m a k.machine t e x.1.entry r own takes takes2 in
        record { entries = xs; leads = subst (λ (z : PlainMachine). after_all z xs ≡ Some n) (sym is) k.rest; fewer = omega arith }
    by false differ k ih =
        let apart : t ≢ x.0 = λ same. false≢true (sym differ ∙ subst (λ (u : ℕ). (t == u) ≡ true) same (eq-eqb t t refl)) in
        let c = commutes m a k.machine t x.0 e x.1.entry apart own takes k.takes in
        let s = ih k.machine c.machine (progress m k.machine x.0 x.1.entry r k.takes).reached c.alone c.after_b k.rest in
        record { entries = x ∷ s.entries; leads = rw c.after_a s.leads; fewer = omega (arith, s.fewer) }

-- entries that go alone lead to a machine of which this holds
pub record CoveredBy (S : PlainMachine → Type 0) (m : PlainMachine) : Type 0 where
  pub entries : List (ℕ × Entry)
  pub machine : PlainMachine
  pub alone : GoesAlone m entries machine
  pub holds : S machine

-- where each entry leads from machines of which it holds to such that are covered, it holds of each end
pub covered : (S : PlainMachine → Type 0) (bound : ℕ) (m n : PlainMachine) (alone : List (ℕ × Entry)) (to : PlainMachine) (xs : List (ℕ × Logged))
    → ((m n : PlainMachine) (t : ℕ) (e : Entry) → S m → take m t e ≡ Some n → CoveredBy S n)
    → length xs ≤ bound → TakesNothing n → IsReached m → GoesAlone m alone to → S to → after_all m xs ≡ Some n → S n
covered S bound m n [] to [] closed few over r alone here leads =
    subst S (sym alone ∙ same_Some m n leads) here
covered S zero m n [] to (x ∷ xs) closed few over r alone here leads = absurd (omega (arith, few))
covered S (suc bound) m n [] to (x ∷ xs) closed few over r alone here leads =
    let k = first_of m n x xs leads in
    let c = closed m k.machine x.0 x.1.entry (subst S (sym alone) here) k.takes in
    covered S bound k.machine n c.entries c.machine xs closed (omega (arith, few)) over (progress m k.machine x.0 x.1.entry r k.takes).reached c.alone c.holds
    k.rest
covered S zero m n (y ∷ ys) to xs closed few over r alone here leads =
    let s = goes_first xs m alone.0 n y.0 y.1 over r alone.1 alone.2 leads in
    absurd (omega (arith, few, s.fewer))
covered S (suc bound) m n (y ∷ ys) to xs closed few over r alone here leads =
    let s = goes_first xs m alone.0 n y.0 y.1 over r alone.1 alone.2 leads in
    covered S bound alone.0 n ys to s.entries closed (omega (arith, few, s.fewer)) over (progress m alone.0 y.0 y.1 r alone.2).reached alone.3 here s.leads

pub every_end_is_seen : (p : ProgramText) (fuel : ℕ) (seen : List PlainMachine) (logs : List (List Logged)) (n : PlainMachine) → IsProgram p
    → IsClosed p fuel seen
    → machine_after p fuel logs ≡ Some n → TakesNothing n → IsSeen seen n
every_end_is_seen p fuel seen logs n valid closed after over =
    let xs = order logs in
    let c = closed.first in
    covered (IsSeen seen) (length xs) (new_machine p fuel) n c.entries c.machine xs (λ m k t e here takes.
    let d = closed.next m k t e here takes in record { entries = d.entries; machine = d.machine; alone = d.alone; holds = d.is_seen })
    (omega arith) over (first_is_reached p fuel valid) c.alone c.is_seen after
