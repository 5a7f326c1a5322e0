-- The way from a thread back to one after it is found, and it is the only one.
use Rattle.std.proofs.Common.{◌≡◌, ◌≢◌, ℕ, zero, suc, ◌==◌, nat_lt, ◌<◌, ◌≤◌, if◌then◌else◌, eqb-true, eq-eqb, ne_eqb, Bool, true}
use Rattle.std.proofs.Common.{false, List, [], ◌∷◌, length, Option, Some, None, option_map, refl, sym, ap, ◌∙◌, subst, arith}
use Rattle.std.specs.List.{AllByRecursion}
use Rattle.std.proofs.lemmas.Bool.Decides.{nat_tests}
use Rattle.plain_machine.specs.Machine.{PlainMachine}
use Rattle.plain_machine.specs.Offering.{offered}
use Rattle.wait_report.specs.declared.cycles.Link.{Link}
use Rattle.wait_report.specs.Waiting.{WaitsFor}
use Rattle.wait_report.specs.Cycles.{next_thread, AreLinked, AreApart}
use Rattle.wait_report.specs.inner.Walk.{blocker, link, links_on, links_from}
use Rattle.wait_report.proofs.Blockers.{blocked_waits, waiting_blocks}

-- links from x on that lead back to `first`, all but x above it
pub record IsWay (m : PlainMachine) (first : ℕ) (x : Link) (xs : List Link) : Type 0 where
  pub linked : AreLinked m first (x ∷ xs)
  pub above : AllByRecursion (λ y. first < y.thread) xs

-- these links are such a way from thread u on
abbrev pub IsWayFrom : PlainMachine → ℕ → ℕ → List Link → Type 0
IsWayFrom m first u [] = ⊥
IsWayFrom m first u (x ∷ xs) = (x.thread ≡ u) × IsWay m first x xs

-- one link more in front
longer : (m : PlainMachine) (first u : ℕ) (b : ℕ × ℕ) (ls : List Link) → WaitsFor m u b.1 b.0
    → first < b.1 → IsWayFrom m first b.1 ls → IsWayFrom m first u (link u b.0 ∷ ls)
longer m first u b [] waits over way = absurd way
longer m first u b (y ∷ ys) waits over way =
    let here : WaitsFor m u y.thread b.0 = subst (λ (w : ℕ). WaitsFor m u w b.0) (sym way.0) waits in
    let above : first < y.thread = omega (arith, way.0) in
    (refl, record { linked = (here, way.1.linked); above = (above, way.1.above) })

mapped : (m : PlainMachine) (first u : ℕ) (b : ℕ × ℕ) (links : List Link) (found : Option (List Link)) → WaitsFor m u b.1 b.0 → first < b.1
    → ((ls : List Link) → found ≡ Some ls → IsWayFrom m first b.1 ls) → option_map (λ ls. link u b.0 ∷ ls) found ≡ Some links → IsWayFrom m first u links
mapped m first u b links None waits over rest e = absurd (cc e)
mapped m first u b links (Some ls) waits over rest e =
    let same : link u b.0 ∷ ls ≡ links = cc e in
    subst (IsWayFrom m first u) same (longer m first u b ls waits over (rest ls refl))

one_link : (m : PlainMachine) (first u : ℕ) (b : ℕ × ℕ) → WaitsFor m u b.1 b.0 → b.1 ≡ first → IsWayFrom m first u (link u b.0 ∷ [])
one_link m first u b waits e = (refl, record { linked = (subst (λ (w : ℕ). WaitsFor m u w b.0) e waits, tt); above = tt })

found_on : (m : PlainMachine) (first n u : ℕ) (links : List Link) (b : Option (ℕ × ℕ)) → blocker (offered m u) ≡ b
    → ((w : ℕ) (ls : List Link) → links_from m first n w ≡ Some ls → IsWayFrom m first w ls)
    → links_on first u b (λ w. links_from m first n w) ≡ Some links → IsWayFrom m first u links
found_on m first n u links None at rest e = absurd (cc e)
found_on m first n u links (Some b) at rest e = by_end (b.1 == first) refl e where
  waits : WaitsFor m u b.1 b.0
  waits = blocked_waits m u b at

  by_less : (l : Bool) → nat_lt b.1 first ≡ l → b.1 ≢ first
      → (if l then None else option_map (λ ls. link u b.0 ∷ ls) (links_from m first n b.1)) ≡ Some links → IsWayFrom m first u links
  by_less true t other e = absurd (cc e)
  by_less false t other e =
      let over : first < b.1 = grind (arith, nat_tests) in
      mapped m first u b links (links_from m first n b.1) waits over (rest b.1) e

  by_end : (l : Bool) → (b.1 == first) ≡ l → (if l then Some (link u b.0 ∷ []) else if nat_lt b.1 first then None
      else option_map (λ ls. link u b.0 ∷ ls) (links_from m first n b.1)) ≡ Some links → IsWayFrom m first u links
  by_end true t e =
      let same : link u b.0 ∷ [] ≡ links = cc e in
      subst (IsWayFrom m first u) same (one_link m first u b waits (eqb-true b.1 first t))
  by_end false t e = by_less (nat_lt b.1 first) refl (λ h. let own : (b.1 == first) ≡ true = eq-eqb b.1 first h in absurd (cc (own, t))) e

-- what is found is a way
pub found_is_way : (m : PlainMachine) (first n u : ℕ) (links : List Link) → links_from m first n u ≡ Some links → IsWayFrom m first u links
found_is_way m first zero u links e = absurd (cc e)
found_is_way m first (suc n) u links e = found_on m first n u links (blocker (offered m u)) refl (found_is_way m first n) e

-- a way is found, if it isn't too long
pub way_is_found : (m : PlainMachine) (first n : ℕ) (x : Link) (xs : List Link)
    → IsWay m first x xs → length (x ∷ xs) ≤ n → links_from m first n x.thread ≡ Some (x ∷ xs)
way_is_found m first zero x xs way few = absurd (omega arith)
way_is_found m first (suc n) x [] way few =
    let at = waiting_blocks m x.thread first x.object way.linked.0 in
    let end : (first == first) ≡ true = eq-eqb first first refl in
    rw (at, end) refl
way_is_found m first (suc n) x (y ∷ ys) way few =
    let at = waiting_blocks m x.thread y.thread x.object way.linked.0 in
    let end : (y.thread == first) ≡ false = ne_eqb y.thread first (λ h. omega (arith, way.above.0)) in
    let less : nat_lt y.thread first ≡ false = grind (arith, nat_tests, way.above.0) in
    let rest = way_is_found m first n y ys (record { linked = way.linked.1; above = way.above.1 }) (omega arith) in
    rw (at, end, less, rest) refl

-- no link is of the thread `first`
abbrev AreOthers : ℕ → List Link → Type 0
AreOthers first xs = AllByRecursion (λ y. first ≢ y.thread) xs

-- a thread waits for one thread by one object
one_wish : (m : PlainMachine) (u w o v k : ℕ) → WaitsFor m u w o → WaitsFor m u v k → ◌≡◌ {A = ℕ × ℕ} (o, w) (k, v)
one_wish m u w o v k a b =
    let same : ◌≡◌ {A = Option (ℕ × ℕ)} (Some (o, w)) (Some (k, v)) = sym (waiting_blocks m u w o a) ∙ waiting_blocks m u v k b in cc same

-- two ways from one thread are the same
same_way : (m : PlainMachine) (first : ℕ) (xs ys : List Link) → AreLinked m first xs → AreLinked m first ys → AreOthers first xs → AreOthers first ys
    → next_thread first xs ≡ next_thread first ys → xs ≡ ys
same_way m first [] [] a b others more e = refl
same_way m first [] (y ∷ ys) a b others more e = absurd (more.0 e)
same_way m first (x ∷ xs) [] a b others more e = absurd (others.0 (sym e))
same_way m first (x ∷ xs) (y ∷ ys) a b others more e =
    let here : WaitsFor m x.thread (next_thread first ys) y.object = subst (λ (u : ℕ). WaitsFor m u (next_thread first ys) y.object) (sym e) b.0 in
    let wish = one_wish m x.thread (next_thread first xs) x.object (next_thread first ys) y.object a.0 here in
    let object : x.object ≡ y.object = ap (λ (p : ℕ × ℕ). p.0) wish in
    let next : next_thread first xs ≡ next_thread first ys = ap (λ (p : ℕ × ℕ). p.1) wish in
    let rest = same_way m first xs ys a.1 b.1 others.1 more.1 next in
    let one : x ≡ y = ap (λ (u : ℕ). link u x.object) e ∙ ap (link y.thread) object in
    ap (λ (z : Link). z ∷ xs) one ∙ ap (λ (zs : List Link). y ∷ zs) rest

-- the first thread of a way doesn't come again after it
not_again : (m : PlainMachine) (first : ℕ) (whole xs : List Link) → AreLinked m first whole
    → AreOthers first whole → AreLinked m first xs → AreOthers first xs → length xs < length whole
    → AllByRecursion (λ y. next_thread first whole ≢ y.thread) xs
not_again m first whole [] a others b more few = tt
not_again m first whole (y ∷ ys) a others b more few = (
  λ e. let same : whole ≡ y ∷ ys = same_way m first whole (y ∷ ys) a b others more e in omega (arith, ap length same),
  not_again m first whole ys a others b.1 more.1 (omega arith),
)

-- no thread of a way comes twice
pub way_is_apart : (m : PlainMachine) (first : ℕ) (xs : List Link) → AreLinked m first xs → AreOthers first xs → AreApart xs
way_is_apart m first [] a others = tt
way_is_apart m first (x ∷ xs) a others = (not_again m first (x ∷ xs) xs a others a.1 others.1 (omega arith), way_is_apart m first xs a.1 others.1)
