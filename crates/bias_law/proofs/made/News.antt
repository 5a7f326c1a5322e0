-- Which objects are there by the logs, after one entry more.
use Rattle.std.proofs.Common.{◌≡◌, ◌≢◌, ℕ, zero, suc, ◌<◌, nat_lt, ne_eqb, Bool, true, false, ◌||◌, List}
use Rattle.std.proofs.Common.{[], ◌∷◌, length, Option, None, option_map, refl, sym, ap, ◌∙◌, arith}
use Rattle.std.proofs.Math.Bool.{or-false}
use Rattle.std.specs.List.{list_any}
use Rattle.std.proofs.lemmas.List.Folds.{list_any-append}
use Rattle.plain_monitor.specs.declared.entry.Entry.TheVariants.{New}
use Rattle.plain_monitor.specs.declared.entry.Logged.{Logged}
use Rattle.plain_monitor.specs.History.{appended}
use Rattle.plain_monitor.specs.Made.{creates}
use Rattle.plain_history.specs.Known.{makes, is_one_of}
use Rattle.core_world.specs.Words.Shape.{Shape}
use Rattle.core_law.specs.BiasLaw.{is_logged}

-- the first log's test, and those after it
or_left : (a b c : Bool) → ((a || b) || c) ≡ ((a || c) || b)
or_left true b c = refl
or_left false true true = refl
or_left false true false = refl
or_left false false c = sym (or-false c)

or_after : (a b c d : Bool) → b ≡ (c || d) → (a || b) ≡ ((a || c) || d)
or_after true b c d h = refl
or_after false b c d h = h

-- an entry of the logs passes a test after one entry more, where one did before, or that one does
any_appended : (q : Logged → Bool) (ls : List (List Logged)) (t : ℕ) (y : Logged) → t < length ls
    → list_any (λ log. list_any q log) (appended ls t y) ≡ (list_any (λ log. list_any q log) ls || q y)
any_appended q [] t y h = absurd (omega (arith, h))
any_appended q (log ∷ ls) zero y h =
    ap (λ b. b || list_any (λ log. list_any q log) ls) (list_any-append q log (y ∷ []) ∙ ap (λ b. list_any q log || b) (or-false (q y)))
    ∙ or_left (list_any q log) (q y) (list_any (λ log. list_any q log) ls)
any_appended q (log ∷ ls) (suc t) y h =
    or_after (list_any q log) (list_any (λ log. list_any q log) (appended ls t y)) (list_any (λ log. list_any q log) ls) (q y)
    (any_appended q ls t y (omega (arith, h)))

abbrev makes_it : ℕ → Logged → Bool
makes_it o l = is_one_of (makes l.entry) (o ∷ [])

logged_then : (s : Shape) (ls : List (List Logged)) (t o : ℕ) (y : Logged) → t < length ls
    → is_logged s (appended ls t y) o ≡ (is_logged s ls o || makes_it o y)
logged_then s ls t o y h =
    or_after (nat_lt o s.declared) (list_any (λ log. list_any (makes_it o) log) (appended ls t y))
    (list_any (λ log. list_any (makes_it o) log) ls) (makes_it o y) (any_appended (makes_it o) ls t y h)

-- what no log tells of isn't declared
pub undeclared : (s : Shape) (ls : List (List Logged)) (o : ℕ) → is_logged s ls o ≡ false → nat_lt o s.declared ≡ false
undeclared s ls o none = by_test (nat_lt o s.declared) refl
  where
    by_test : (b : Bool) → nat_lt o s.declared ≡ b → nat_lt o s.declared ≡ false
    by_test false e = e
    by_test true e = absurd (cc (sym none ∙ ap (λ b. b || list_any (λ log. list_any (makes_it o) log) ls) e))

-- an entry that makes no object
pub no_news : (s : Shape) (ls : List (List Logged)) (t o : ℕ) (y : Logged) → t < length ls → creates y.entry ≡ None
    → is_logged s (appended ls t y) o ≡ is_logged s ls o
no_news s ls t o y h none =
    logged_then s ls t o y h
    ∙ ap (λ (m : Option (ℕ × ℕ)). is_logged s ls o || is_one_of (option_map (λ p. p.0) m) (o ∷ [])) none
    ∙ or-false (is_logged s ls o)

-- a New makes its object be there, and no other
pub other_news : (s : Shape) (ls : List (List Logged)) (t o c i stamp : ℕ) → t < length ls → i ≢ o
    → is_logged s (appended ls t (record { stamp = stamp; entry = New o c })) i ≡ is_logged s ls i
other_news s ls t o c i stamp h n =
    logged_then s ls t i (record { stamp = stamp; entry = New o c }) h
    ∙ ap (λ (b : Bool). is_logged s ls i || (b || false)) (ne_eqb o i (λ e. n (sym e)))
    ∙ or-false (is_logged s ls i)
