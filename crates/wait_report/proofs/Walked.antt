-- What a step of the walk does to what is found.
use Rattle.std.proofs.Common.{◌≡◌, ◌≢◌, ℕ, zero, suc, ◌-◌, ◌==◌, nat_lt, ◌<◌, ◌≤◌, eq-eqb, ne_eqb, true, false, List, [], ◌∷◌, ◌++◌}
use Rattle.std.proofs.Common.{Option, Some, None, option_map, option_to_list, ◌+◌, refl, sym, ap, ◌∙◌, arith, append_assoc}
use Rattle.std.proofs.lemmas.Bool.Decides.{nat_tests}
use Rattle.plain_machine.specs.Machine.{PlainMachine}
use Rattle.plain_machine.specs.Offering.{offered}
use Rattle.wait_report.specs.declared.cycles.Link.{Link}
use Rattle.wait_report.specs.declared.cycles.Cycle.{Cycle}
use Rattle.wait_report.specs.inner.Walk.{blocker, link, links_from, cycle_from, cycles_from}

-- what is found from thread u on, after these links
abbrev pub found_after : PlainMachine → ℕ → List Link → ℕ → ℕ → Option (List Link)
found_after m first links n u = option_map (λ rest. links ++ rest) (links_from m first n u)

-- a thread that waits for none leads nowhere
pub found_none : (m : PlainMachine) (first n u : ℕ) (links : List Link) → 0 < n → blocker (offered m u) ≡ None → found_after m first links n u ≡ None
found_none m first zero u links some at = absurd (omega arith)
found_none m first (suc n) u links some at = rw at refl

-- nor does one that waits for a lesser thread
pub found_less : (m : PlainMachine) (first n u o w : ℕ) (links : List Link) → 0 < n
    → blocker (offered m u) ≡ Some (o, w) → w ≢ first → w < first → found_after m first links n u ≡ None
found_less m first zero u o w links some at other less = absurd (omega arith)
found_less m first (suc n) u o w links some at other less =
    let end : (w == first) ≡ false = ne_eqb w first other in
    let below : nat_lt w first ≡ true = grind (arith, nat_tests) in
    rw (at, end, below) refl

-- one that waits for the first ends the way
pub found_end : (m : PlainMachine) (first n u o w : ℕ) (links : List Link) → 0 < n → blocker (offered m u) ≡ Some (o, w) → w ≡ first
    → found_after m first links n u ≡ Some (links ++ link u o ∷ [])
found_end m first zero u o w links some at e = absurd (omega arith)
found_end m first (suc n) u o w links some at e =
    let end : (w == first) ≡ true = eq-eqb w first e in
    rw (at, end) refl

one_more : (links : List Link) (x : Link) (found : Option (List Link))
    → option_map (λ rest. links ++ rest) (option_map (λ ls. x ∷ ls) found) ≡ option_map (λ rest. (links ++ x ∷ []) ++ rest) found
one_more links x None = refl
one_more links x (Some ls) = ap Some (sym (append_assoc links (x ∷ []) ls))

-- each other leads on
pub found_on : (m : PlainMachine) (first n k u o w : ℕ) (links : List Link) → 0 < n → k ≡ n - 1 → blocker (offered m u) ≡ Some (o, w) → w ≢ first → first ≤ w
    → found_after m first links n u ≡ found_after m first (links ++ link u o ∷ []) k w
found_on m first zero k u o w links some less at other over = absurd (omega arith)
found_on m first (suc n) k u o w links some less at other over =
    let end : (w == first) ≡ false = ne_eqb w first other in
    let above : nat_lt w first ≡ false = grind (arith, nat_tests) in
    let same : k ≡ n = omega arith in
    rw (at, end, above, same) (one_more links (link u o) (links_from m first n w))

-- the cycles from one more thread on
pub cycles_on : (m : PlainMachine) (n first : ℕ) (cycles more all : List Cycle) → first < n → all ≡ cycles ++ cycles_from m n first (n - first)
    → more ≡ cycles ++ option_to_list (cycle_from m n first) → all ≡ more ++ cycles_from m n (first + 1) (n - (first + 1))
cycles_on m n first cycles more all less whole added =
    let one : n - first ≡ suc (n - (first + 1)) = omega arith in
    whole ∙ ap (λ k. cycles ++ cycles_from m n first k) one
    ∙ sym (append_assoc cycles (option_to_list (cycle_from m n first)) (cycles_from m n (first + 1) (n - (first + 1))))
    ∙ ap (λ xs. xs ++ cycles_from m n (first + 1) (n - (first + 1))) (sym added)
