-- The tally of one object, entry by entry.
use Rattle.std.proofs.Common.{◌≡◌, ℕ, zero, suc, ◌+◌, ◌-◌, ◌<◌, ◌==◌, if◌then◌else◌, eqb-true, eq-eqb, Bool, true, false}
use Rattle.std.proofs.Common.{List, [], ◌∷◌, ◌++◌, length, replicate, slice_set, refl, sym, ap, ◌∙◌, subst, arith}
use Rattle.std.proofs.lemmas.List.{length-append, length-replicate, get_or-set_same, get_or-set_other}
use Rattle.plain_monitor.specs.declared.entry.Path.{Path}
use Rattle.plain_monitor.specs.declared.entry.Path.TheVariants.{BiasOwn}
use Rattle.plain_monitor.specs.declared.entry.Entry.{Entry}
use Rattle.plain_monitor.specs.declared.entry.Entry.TheVariants.{Enter, Resume}
use Rattle.plain_monitor.specs.declared.entry.Logged.{Logged}
use Rattle.wait_report.specs.declared.tallies.Tally.{Tally}
use Rattle.wait_report.specs.inner.Tallies.{new_tally, had_by, entered_by, tally_at, count_at, reaching, after_entry, after_entries}

-- nothing is counted at first
pub none_yet : (path : Path) → count_at new_tally.paths path ≡ 0
none_yet BiasOwn = refl
none_yet _ = refl

-- the tally of object o after an entry of thread t
abbrev pub tally_on : ℕ → Tally → ℕ → Entry → Tally
tally_on o y t (Enter object path) = if object == o then entered_by (had_by y t) path else y
tally_on o y t (Resume object) = if object == o then had_by y t else y
tally_on o y t e = y

-- after these entries
abbrev pub tally_through : ℕ → Tally → List (ℕ × Logged) → Tally
tally_through o y [] = y
tally_through o y (x ∷ xs) = tally_through o (tally_on o y x.0 x.1.entry) xs

-- new tallies at the end are those that the objects have without them
new_at : (n o : ℕ) → tally_at (replicate n new_tally) o ≡ new_tally
new_at zero o = refl
new_at (suc n) zero = refl
new_at (suc n) (suc o) = new_at n o

added_at : (ys : List Tally) (n o : ℕ) → tally_at (ys ++ replicate n new_tally) o ≡ tally_at ys o
added_at [] n o = new_at n o
added_at (y ∷ ys) n zero = refl
added_at (y ∷ ys) n (suc o) = added_at ys n o

length_reaching : (ys : List Tally) (o : ℕ) → length (reaching ys o) ≡ length ys + ((o + 1) - length ys)
length_reaching ys o = length-append ys _ ∙ ap (λ n. length ys + n) (length-replicate ((o + 1) - length ys) new_tally)

reaches : (ys : List Tally) (o : ℕ) → o < length (reaching ys o)
reaches ys o = omega (arith, length_reaching ys o)

-- a tally that is written in place of one
written : (ys : List Tally) (o k : ℕ) (f : Tally → Tally)
    → tally_at (slice_set (reaching ys k) k (f (tally_at (reaching ys k) k))) o ≡ (if k == o then f (tally_at ys o) else tally_at ys o)
written ys o k f = by_test (k == o) refl where
  zs : List Tally
  zs = reaching ys k

  by_test : (b : Bool) → (k == o) ≡ b → tally_at (slice_set zs k (f (tally_at zs k))) o ≡ (if b then f (tally_at ys o) else tally_at ys o)
  by_test true t =
      subst (λ (j : ℕ). tally_at (slice_set zs k (f (tally_at zs k))) j ≡ f (tally_at ys j)) (eqb-true k o t)
      (get_or-set_same zs k (f (tally_at zs k)) new_tally (reaches ys k) ∙ ap f (added_at ys ((k + 1) - length ys) k))
  by_test false t =
      get_or-set_other zs k o (f (tally_at zs k)) new_tally (λ h. absurd (let own : (k == o) ≡ true = eq-eqb k o (sym h) in cc (own, t)))
      ∙ added_at ys ((k + 1) - length ys) o

after_at : (ys : List Tally) (o t : ℕ) (e : Entry) → tally_at (after_entry ys t e) o ≡ tally_on o (tally_at ys o) t e
after_at ys o t (Enter k path) = written ys o k (λ z. entered_by (had_by z t) path)
after_at ys o t (Resume k) = written ys o k (λ z. had_by z t)
after_at ys o t e = refl

pub through_at : (ys : List Tally) (o : ℕ) (xs : List (ℕ × Logged)) → tally_at (after_entries ys xs) o ≡ tally_through o (tally_at ys o) xs
through_at ys o [] = refl
through_at ys o (x ∷ xs) = through_at (after_entry ys x.0 x.1.entry) o xs ∙ ap (λ y. tally_through o y xs) (after_at ys o x.0 x.1.entry)
