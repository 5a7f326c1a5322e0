-- Each call leaves the room that the log has to keep.
use Rattle.std.proofs.Common.{◌≡◌, ℕ, zero, suc, ◌+◌, ◌-◌, ◌<◌, ◌≤◌, ◌==◌, eq-eqb, ne_eqb, List, [], ◌∷◌, ◌++◌}
use Rattle.std.proofs.Common.{length, map, sym, ap, ◌∙◌, subst, refl, arith, inl, inr, length-append}
use Rattle.std.proofs.lemmas.Bool.{cases_eq}
use Rattle.std.proofs.lemmas.List.{length-map}
use Rattle.plain_monitor.specs.declared.entry.Entry.{Entry}
use Rattle.plain_monitor.specs.declared.entry.Entry.TheVariants as entry
use Rattle.plain_monitor.specs.declared.entry.Logged.{Logged}
use Rattle.plain_history.specs.HeldByLog.{held_after, held_by, nothing_held}
use Rattle.core_law.specs.CountsAndVerdicts.{sum_below}
use Rattle.core_world.specs.Threads.Stages.{one_if}

-- SUMS. One more at o
more_off : (n o : ℕ) (f : ℕ → ℕ) → n ≤ o → sum_below n (λ i. f i + one_if (o == i)) ≡ sum_below n f
more_off zero o f h = refl
more_off (suc n) o f h =
    let a = more_off n o f (omega (arith, h)) in
    let b = ap one_if (ne_eqb o n (λ e. omega (arith, e, h))) in
    omega (arith, a, b)

more_at : (n o : ℕ) (f : ℕ → ℕ) → sum_below n (λ i. f i + one_if (o == i)) ≤ sum_below n f + 1
more_at zero o f = omega arith
more_at (suc n) o f = elim (cases_eq o n) [
  | inl e ↦ let a = more_off n o f (omega (arith, e)) in let b = ap one_if (eq-eqb o n e) in omega (arith, a, b)
  | inr d ↦ let a = more_at n o f in let b = ap one_if (ne_eqb o n d) in omega (arith, a, b)
]

-- and one less
less_off : (n o : ℕ) (f : ℕ → ℕ) → n ≤ o → sum_below n (λ i. f i - one_if (o == i)) ≡ sum_below n f
less_off zero o f h = refl
less_off (suc n) o f h =
    let a = less_off n o f (omega (arith, h)) in
    let b = ap one_if (ne_eqb o n (λ e. omega (arith, e, h))) in
    omega (arith, a, b)

less_any : (n o : ℕ) (f : ℕ → ℕ) → sum_below n (λ i. f i - one_if (o == i)) ≤ sum_below n f
less_any zero o f = omega arith
less_any (suc n) o f = let a = less_any n o f in omega (arith, a)

less_at : (n o : ℕ) (f : ℕ → ℕ) → o < n → 1 ≤ f o → sum_below n (λ i. f i - one_if (o == i)) + 1 ≤ sum_below n f
less_at zero o f l k = absurd (omega (arith, l))
less_at (suc n) o f l k = elim (cases_eq o n) [
  | inl e ↦ let a = less_off n o f (omega (arith, e)) in let b = ap one_if (eq-eqb o n e) in
      let c : 1 ≤ f n = subst (λ i. 1 ≤ f i) e k in omega (arith, a, b, c)
  | inr d ↦ let a = less_at n o f (omega (arith, d, l)) k in let b = ap one_if (ne_eqb o n d) in omega (arith, a, b)
]

-- ENTRIES. How much room each takes up: its own, and an enter that of its exit
abbrev pub size : Entry → ℕ
size (entry.Enter o path) = 2
size _ = 1

abbrev pub sizes : List Entry → ℕ
sizes [] = 0
sizes (e ∷ es) = size e + sizes es

after : (n : ℕ) (e : Entry) (f : ℕ → ℕ) → sum_below n (held_after e f) + 1 ≤ sum_below n f + size e
after n (entry.Enter o path) f = let a = more_at n o f in omega (arith, a)
after n (entry.Exit o) f = let a = less_any n o f in omega (arith, a)
after n (entry.Get o slot value) f = omega arith
after n (entry.Put o slot value) f = omega arith
after n (entry.Wait o) f = omega arith
after n (entry.Resume o) f = omega arith
after n (entry.Notify o woken) f = omega arith
after n (entry.NotifyAll o woken) f = omega arith
after n (entry.Hash o value drawn) f = omega arith
after n (entry.New o c) f = omega arith
after n (entry.Print value) f = omega arith
after n (entry.Dump number) f = omega arith
after n (entry.Trap f1 index) f = omega arith
after n entry.Spent f = omega arith
after n entry.Done f = omega arith

abbrev held_of : (ℕ → ℕ) → List Entry → ℕ → ℕ
held_of f [] = f
held_of f (e ∷ es) = held_of (held_after e f) es

abbrev pub entries : List Logged → List Entry
entries log = map (λ (l : Logged). l.entry) log

grown : (n : ℕ) (log : List Logged) (f : ℕ → ℕ) → length log + sum_below n (held_by f log) ≤ sum_below n f + sizes (entries log)
grown n [] f = omega arith
grown n (l ∷ log) f = let a = grown n log (held_after l.entry f) in let b = after n l.entry f in omega (arith, a, b)

by_both : (a b : List Logged) (f : ℕ → ℕ) → held_by f (a ++ b) ≡ held_by (held_by f a) b
by_both [] b f = refl
by_both (l ∷ a) b f = by_both a b (held_after l.entry f)

by_entries : (log : List Logged) (f : ℕ → ℕ) → held_by f log ≡ held_of f (entries log)
by_entries [] f = refl
by_entries (l ∷ log) f = by_entries log (held_after l.entry f)

-- so a log that grows takes up the room of the entries that are added
pub grows : (n : ℕ) (log new : List Logged) → length (log ++ new) + sum_below n (held_by nothing_held (log ++ new))
    ≤ length log + sum_below n (held_by nothing_held log) + sizes (entries new)
grows n log new =
    let a = grown n new (held_by nothing_held log) in
    let b = ap (λ f. sum_below n f) (by_both log new nothing_held) in
    let c = length-append log new in
    omega (arith, a, b, c)

-- and an exit takes up no more than its hold had kept
pub exits : (n o : ℕ) (log new : List Logged) → o < n → 1 ≤ held_by nothing_held log o → entries new ≡ entry.Exit o ∷ []
    → length (log ++ new) + sum_below n (held_by nothing_held (log ++ new)) ≤ length log + sum_below n (held_by nothing_held log)
exits n o log new within some is =
    let f = held_by nothing_held log in
    let a = less_at n o f within some in
    let b = ap (λ g. sum_below n g) (by_both log new nothing_held ∙ by_entries new f ∙ ap (λ es. held_of f es) is) in
    let c = length-append log new in
    let d : length new ≡ 1 = sym (length-map new (λ (l : Logged). l.entry)) ∙ ap length is in
    omega (arith, a, b, c, d)
