-- A machine, and the same one with its fuel filled up, take the same entries, and come to the same but for fuel, unless a thread is spent.
use Rattle.std.proofs.Common.{◌≡◌, ◌⊎◌, inl, inr, ℕ, ◌≤◌, Bool, true, false, List, map, slice_set, Option, Some, None}
use Rattle.std.proofs.Common.{refl, sym, ap, ◌∙◌, subst, arith}
use Rattle.std.proofs.lemmas.Option.{none-some, same_Some}
use Rattle.plain_monitor.specs.declared.entry.Entry.{Entry}
use Rattle.plain_monitor.proofs.Lists.{get_set_same}
use Rattle.plain_machine.specs.Thread.{ThreadState}
use Rattle.plain_machine.specs.Asking.{ask, after_entry}
use Rattle.plain_machine.specs.Machine.{PlainMachine, code_of, take}
use Rattle.machine_laws.proofs.ReachedAsked.{IsTaken, taken}
use Rattle.machine_laws.proofs.ReachedLists.{each_set}
use Rattle.every_outcome.specs.Fuel.{with_fuel, refuelled, is_spent, HasSpent}
use Rattle.every_outcome.proofs.Commute.{moved_on, takes_from}
use Rattle.every_outcome.proofs.FullFuel.{IsBelow, full_twice, ask_full}
use Rattle.every_outcome.proofs.MoreFuel.{entry_more, entry_fuel}
use Rattle.every_outcome.proofs.Places.{get_map, get_unmap, map_set}

-- an entry that leads from m to a, and from the one with its fuel filled up to b
pub record Made (top : ℕ) (m a b : PlainMachine) : Type 0 where
  pub thread : ℕ
  pub entry : Entry
  pub less : take m thread entry ≡ Some a
  pub full : take (refuelled top m) thread entry ≡ Some b
  pub below : IsBelow top a
  pub same : HasSpent a ⊎ (refuelled top a ≡ refuelled top b)

-- both make it, or neither does
abbrev pub Both : ℕ → PlainMachine → Option PlainMachine → Option PlainMachine → Type 0
Both top m None None = Unit {0}
Both top m (Some a) (Some b) = Made top m a b
Both top m x y = ⊥

-- where the one comes to, thread t in this state
abbrev filled_after : ℕ → (m : PlainMachine) (t : ℕ) (e : Entry) (a : PlainMachine) → IsTaken m t e a → PlainMachine
filled_after top m t e a k =
    moved_on (refuelled top m) t (after_entry m.program (code_of m.program t) (with_fuel top k.s) k.asked e) k.made_then k.objects

takes_filled : (top : ℕ) (m a : PlainMachine) (t : ℕ) (e : Entry) (k : IsTaken m t e a) → take (refuelled top m) t e ≡ Some (filled_after top m t e a k)
takes_filled top m a t e k =
    takes_from (refuelled top m) t e (with_fuel top k.s) k.asked k.made_then k.objects (get_map (λ s. with_fuel top s) m.threads t k.s k.at)
    (ask_full top k.s ∙ k.asks) k.fit k.makes k.takes

same_filled : (top : ℕ) (m a : PlainMachine) (t : ℕ) (e : Entry) → IsBelow top m → (k : IsTaken m t e a)
    → HasSpent a ⊎ (refuelled top a ≡ refuelled top (filled_after top m t e a k))
same_filled top m a t e below k = go (is_spent (after_entry m.program (code_of m.program t) k.s k.asked e).mode) refl
  where
    go : (b : Bool) → is_spent (after_entry m.program (code_of m.program t) k.s k.asked e).mode ≡ b
        → HasSpent a ⊎ (refuelled top a ≡ refuelled top (filled_after top m t e a k))
    go true spent =
        let s2 = after_entry m.program (code_of m.program t) k.s k.asked e in
        inl (subst HasSpent k.is (record { thread = t; state = s2; at = get_set_same m.threads t k.s s2 k.at; spent = spent }))
    go false alive =
        let i = code_of m.program t in
        let w : ThreadState → ThreadState = λ s. with_fuel top s in
        let s2 = after_entry m.program i k.s k.asked e in
        let f2 = after_entry m.program i (w k.s) k.asked e in
        let ends : w s2 ≡ w f2 = sym (entry_more top m.program i k.s k.asked e (below t k.s k.at) alive) in
        let right : map w (slice_set (map w m.threads) t f2) ≡ slice_set (map w m.threads) t (w f2) =
        map_set w (map w m.threads) t f2 ∙ ap (λ (xs : List ThreadState). slice_set xs t (w f2)) (full_twice top m.threads) in
        let threads : map w (slice_set m.threads t s2) ≡ map w (slice_set (map w m.threads) t f2) =
        map_set w m.threads t s2 ∙ ap (slice_set (map w m.threads) t) ends ∙ sym right in
        inr (ap (refuelled top) (sym k.is) ∙ ap (λ (xs : List ThreadState). record m { objects = k.objects; made = k.made_then; threads = xs }) threads)

below_after : (top : ℕ) (m a : PlainMachine) (t : ℕ) (e : Entry) → IsBelow top m → IsTaken m t e a → IsBelow top a
below_after top m a t e below k =
    let s2 = after_entry m.program (code_of m.program t) k.s k.asked e in
    let less : s2.fuel ≤ k.s.fuel = entry_fuel m.program (code_of m.program t) k.s k.asked e in
    subst (IsBelow top) k.is
    (each_set (λ (t : ℕ) (s : ThreadState). s.fuel ≤ top) m.threads t k.s s2 k.at (omega (arith, less, below t k.s k.at)) (λ j z other at. below j z at))

-- what is taken with the fuel filled up is taken without
record TakesLess (m : PlainMachine) (t : ℕ) (e : Entry) : Type 0 where
  pub machine : PlainMachine
  pub takes : take m t e ≡ Some machine

takes_less : (top : ℕ) (m b : PlainMachine) (t : ℕ) (e : Entry) → take (refuelled top m) t e ≡ Some b → TakesLess m t e
takes_less top m b t e takes =
    let k = taken (refuelled top m) t e b takes in
    let u = get_unmap (λ s. with_fuel top s) m.threads t k.s k.at in
    let asks : ask u.0 ≡ Some k.asked = sym (ask_full top u.0) ∙ ap ask u.2 ∙ k.asks in
    record {
      machine = moved_on m t (after_entry m.program (code_of m.program t) u.0 k.asked e) k.made_then k.objects;
      takes = takes_from m t e u.0 k.asked k.made_then k.objects u.1 asks k.fit k.makes k.takes;
    }

pub take_both : (top : ℕ) (m : PlainMachine) (t : ℕ) (e : Entry) → IsBelow top m → Both top m (take m t e) (take (refuelled top m) t e)
take_both top m t e below = go (take m t e) (take (refuelled top m) t e) refl refl
  where
    go : (x y : Option PlainMachine) → take m t e ≡ x → take (refuelled top m) t e ≡ y → Both top m x y
    go None None less full = tt
    go None (Some b) less full = let l = takes_less top m b t e full in none-some l.machine (sym less ∙ l.takes)
    go (Some a) None less full =
        let k = taken m t e a less in none-some (filled_after top m t e a k) (sym full ∙ takes_filled top m a t e k)
    go (Some a) (Some b) less full =
        let k = taken m t e a less in
        let is : filled_after top m t e a k ≡ b = same_Some (filled_after top m t e a k) b (sym (takes_filled top m a t e k) ∙ full) in
        record {
          thread = t;
          entry = e;
          less = less;
          full = full;
          below = below_after top m a t e below k;
          same = subst (λ (z : PlainMachine). HasSpent a ⊎ (refuelled top a ≡ refuelled top z)) is (same_filled top m a t e below k);
        }
