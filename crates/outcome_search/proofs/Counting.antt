-- What is counted, one end after the other, is counted of the whole list.
use Rattle.std.proofs.Common.{◌≡◌, ℕ, zero, suc, ◌+◌, ◌-◌, Bool, true, false, cond, List, [], ◌∷◌}
use Rattle.std.proofs.Common.{length, drop, slice_get, Option, Some, None, refl, sym, ap, ◌∙◌, arith}
use Rattle.std.proofs.Math.Numerals.{add-one}
use Rattle.std.proofs.lemmas.List.Sums.{sum_by-cons}
use Rattle.std.proofs.lemmas.Option.{none-some, same_Some}
use Rattle.object_program.specs.Program.{ProgramText}
use Rattle.every_outcome.proofs.Places.{get_map}
use Rattle.machine_words.specs.MachineWords.{machine_of}
use Rattle.state_search.specs.Found.{Keys}
use Rattle.state_search.specs.Search.{IsSearch}
use Rattle.outcome_search.specs.declared.ends.End.{End}
use Rattle.outcome_search.specs.declared.ends.End.TheVariants.{Spent, Stuck, Faulted, Ended}
use Rattle.outcome_search.specs.declared.outcome.Outcomes.{Outcomes}
use Rattle.outcome_search.specs.Ends.{end_of}
use Rattle.outcome_search.specs.NextWords.{first_key, next_key}
use Rattle.outcome_search.specs.Outcomes.{is_end, ends_of, ends_so, first_so, IsCountedBy}
use Rattle.outcome_search.specs.inner.Counting.{uncounted, or_number, with_end, counted, IsBelow}

-- ONE END MORE
pub more : (end : End) (e : Option End) (es : List (Option End)) → ends_so end (e ∷ es) ≡ cond (is_end end e) 1 0 + ends_so end es
more end e es = sum_by-cons (λ (e : Option End). cond (is_end end e) 1 0) e es

ended_one : (o : Outcomes) (k : ℕ) (e : Option End) → (with_end o k e).ended ≡ o.ended + cond (is_end Ended e) 1 0
ended_one o k (Some Ended) = refl
ended_one o k _ = omega arith

faulted_one : (o : Outcomes) (k : ℕ) (e : Option End) → (with_end o k e).faulted ≡ o.faulted + cond (is_end Faulted e) 1 0
faulted_one o k (Some Faulted) = refl
faulted_one o k _ = omega arith

stuck_one : (o : Outcomes) (k : ℕ) (e : Option End) → (with_end o k e).stuck ≡ o.stuck + cond (is_end Stuck e) 1 0
stuck_one o k (Some Stuck) = refl
stuck_one o k _ = omega arith

spent_one : (o : Outcomes) (k : ℕ) (e : Option End) → (with_end o k e).spent ≡ o.spent + cond (is_end Spent e) 1 0
spent_one o k (Some Spent) = refl
spent_one o k _ = omega arith

-- where each end adds one to a count of its own
sums : (end : End) (count : Outcomes → ℕ) → ((o : Outcomes) (k : ℕ) (e : Option End) → count (with_end o k e) ≡ count o + cond (is_end end e) 1 0)
    → (o : Outcomes) (k : ℕ) (es : List (Option End)) → count (counted o k es) ≡ count o + ends_so end es
sums end count each o k [] = omega arith
sums end count each o k (e ∷ es) = omega (arith, sums end count each (with_end o k e) (k + 1) es, each o k e, more end e es)

from_none : (end : End) (count : Outcomes → ℕ) → ((o : Outcomes) (k : ℕ) (e : Option End) → count (with_end o k e) ≡ count o + cond (is_end end e) 1 0)
    → (o : Outcomes) → count o ≡ 0 → (es : List (Option End)) → count (counted o 0 es) ≡ ends_so end es
from_none end count each o none es = omega (arith, sums end count each o 0 es, none)

-- what no end changes
stays : {A : Type 0} (part : Outcomes → A) → ((o : Outcomes) (k : ℕ) (e : Option End) → part (with_end o k e) ≡ part o)
    → (o : Outcomes) (k : ℕ) (es : List (Option End)) → part (counted o k es) ≡ part o
stays part each o k [] = refl
stays part each o k (e ∷ es) = stays part each (with_end o k e) (k + 1) es ∙ each o k e

states_one : (o : Outcomes) (k : ℕ) (e : Option End) → (with_end o k e).states ≡ o.states
states_one o k None = refl
states_one o k (Some Spent) = refl
states_one o k (Some _) = refl

open_one : (o : Outcomes) (k : ℕ) (e : Option End) → (with_end o k e).«open» ≡ o.«open»
open_one o k None = refl
open_one o k (Some Spent) = refl
open_one o k (Some _) = refl

-- THE FIRST OF EACH KIND
abbrev or_first : Option ℕ → Option ℕ → Option ℕ
or_first (Some k) other = Some k
or_first None other = other

abbrev first_one : End → ℕ → Option End → Option ℕ
first_one end k e = cond (is_end end e) (Some k) None

or_first_twice : (a b c : Option ℕ) → or_first (or_first a b) c ≡ or_first a (or_first b c)
or_first_twice (Some k) b c = refl
or_first_twice None b c = refl

first_more : (end : End) (k : ℕ) (e : Option End) (es : List (Option End)) → first_so end k (e ∷ es) ≡ or_first (first_one end k e) (first_so end (k + 1) es)
first_more end k e es = go (is_end end e)
  where
    go : (b : Bool) → cond b (Some k) (first_so end (k + 1) es) ≡ or_first (cond b (Some k) None) (first_so end (k + 1) es)
    go true = refl
    go false = refl

or_none : (a : Option ℕ) → a ≡ or_first a None
or_none None = refl
or_none (Some k) = refl

or_some : (a : Option ℕ) (k : ℕ) → or_number a k ≡ or_first a (Some k)
or_some None k = refl
or_some (Some j) k = refl

firsts : (end : End) (first : Outcomes → Option ℕ)
    → ((o : Outcomes) (k : ℕ) (e : Option End) → first (with_end o k e) ≡ or_first (first o) (first_one end k e))
    → (o : Outcomes) (k : ℕ) (es : List (Option End)) → first (counted o k es) ≡ or_first (first o) (first_so end k es)
firsts end first each o k [] = or_none (first o)
firsts end first each o k (e ∷ es) =
    firsts end first each (with_end o k e) (k + 1) es ∙ ap (λ a. or_first a (first_so end (k + 1) es)) (each o k e)
    ∙ or_first_twice (first o) (first_one end k e) (first_so end (k + 1) es) ∙ ap (or_first (first o)) (sym (first_more end k e es))

first_stuck_one : (o : Outcomes) (k : ℕ) (e : Option End) → (with_end o k e).first_stuck ≡ or_first o.first_stuck (first_one Stuck k e)
first_stuck_one o k (Some Stuck) = or_some o.first_stuck k
first_stuck_one o k _ = or_none o.first_stuck

first_faulted_one : (o : Outcomes) (k : ℕ) (e : Option End) → (with_end o k e).first_faulted ≡ or_first o.first_faulted (first_one Faulted k e)
first_faulted_one o k (Some Faulted) = or_some o.first_faulted k
first_faulted_one o k _ = or_none o.first_faulted

-- ALL OF THEM
pub is_counted : (p : ProgramText) (fuel steps most : ℕ) (f : Keys) (o : Outcomes)
    → IsSearch (next_key p fuel steps) (length p.threads) (first_key p fuel steps) most f → o ≡ counted (uncounted f) 0 (ends_of p fuel f.keys)
    → IsCountedBy p fuel steps most f o
is_counted p fuel steps most f o found is =
    let es = ends_of p fuel f.keys in
    let left : o.«open» ≡ length f.keys - f.gone = ap (λ (z : Outcomes). z.«open») is ∙ stays (λ (z : Outcomes). z.«open») open_one (uncounted f) 0 es in
    record {
      search = found;
      states = ap (λ (z : Outcomes). z.states) is ∙ stays (λ (z : Outcomes). z.states) states_one (uncounted f) 0 es;
      «open» = omega (arith, left, found.found.within);
      ended = ap (λ (z : Outcomes). z.ended) is ∙ from_none Ended (λ (z : Outcomes). z.ended) ended_one (uncounted f) refl es;
      faulted = ap (λ (z : Outcomes). z.faulted) is ∙ from_none Faulted (λ (z : Outcomes). z.faulted) faulted_one (uncounted f) refl es;
      stuck = ap (λ (z : Outcomes). z.stuck) is ∙ from_none Stuck (λ (z : Outcomes). z.stuck) stuck_one (uncounted f) refl es;
      spent = ap (λ (z : Outcomes). z.spent) is ∙ from_none Spent (λ (z : Outcomes). z.spent) spent_one (uncounted f) refl es;
      first_stuck = ap (λ (z : Outcomes). z.first_stuck) is ∙ firsts Stuck (λ (z : Outcomes). z.first_stuck) first_stuck_one (uncounted f) 0 es;
      first_faulted = ap (λ (z : Outcomes). z.first_faulted) is ∙ firsts Faulted (λ (z : Outcomes). z.first_faulted) first_faulted_one (uncounted f) 0 es;
    }

-- THE LOOP
pub below_more : (o : Outcomes) (k : ℕ) (e : Option End) → IsBelow k o → IsBelow (k + 1) (with_end o k e)
below_more o k None h = record { ended = omega arith; faulted = omega arith; stuck = omega arith; spent = omega arith }
below_more o k (Some Spent) h = record { ended = omega arith; faulted = omega arith; stuck = omega arith; spent = omega arith }
below_more o k (Some Stuck) h = record { ended = omega arith; faulted = omega arith; stuck = omega arith; spent = omega arith }
below_more o k (Some Faulted) h = record { ended = omega arith; faulted = omega arith; stuck = omega arith; spent = omega arith }
below_more o k (Some Ended) h = record { ended = omega arith; faulted = omega arith; stuck = omega arith; spent = omega arith }

drop_suc : {A : Type 0} (xs : List A) (k : ℕ) (x : A) → slice_get xs k ≡ Some x → drop k xs ≡ x ∷ drop (suc k) xs
drop_suc [] k x h = absurd (none-some x h)
drop_suc (y ∷ ys) zero x h = ap (λ z. z ∷ ys) (same_Some y x h)
drop_suc (y ∷ ys) (suc k) x h = drop_suc ys k x h

drop_at : {A : Type 0} (xs : List A) (k : ℕ) (x : A) → slice_get xs k ≡ Some x → drop k xs ≡ x ∷ drop (k + 1) xs
drop_at xs k x h = rw add-one (drop_suc xs k x h)

pub counts_on : (p : ProgramText) (fuel : ℕ) (keys : List (List ℕ)) (o : Outcomes) (k : ℕ) (key : List ℕ) → slice_get keys k ≡ Some key
    → counted o k (drop k (ends_of p fuel keys))
    ≡ counted (with_end o k (end_of (machine_of p fuel key))) (k + 1) (drop (k + 1) (ends_of p fuel keys))
counts_on p fuel keys o k key at =
    ap (counted o k)
    (drop_at (ends_of p fuel keys) k (end_of (machine_of p fuel key)) (get_map (λ (z : List ℕ). end_of (machine_of p fuel z)) keys k key at))
