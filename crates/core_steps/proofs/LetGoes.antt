-- The entries by which threads let go of an object: of any logs there is a last one, and one entry more makes at most that one more.
use Rattle.std.proofs.Common.{◌≡◌, ◌⊎◌, ℕ, zero, suc, ◌<◌, ◌≤◌, List, [], ◌∷◌, ◌++◌, refl, sym, ap, ◌∙◌, subst, append_assoc, arith, inl, inr}
use Rattle.std.proofs.lemmas.Bool.{cases_lt}
use Rattle.plain_monitor.specs.declared.entry.Entry.{Entry}
use Rattle.plain_monitor.specs.declared.entry.Entry.TheVariants as entry
use Rattle.plain_monitor.specs.declared.entry.Logged.{Logged}
use Rattle.plain_monitor.specs.History.{log_of}
use Rattle.plain_history.specs.HeldByLog.{held_after, held_by, nothing_held, LetsGoOf, HasLetGo, IsLastLetGo}
use Rattle.core_world.proofs.KnowledgeParts.{by_equal}
use Rattle.bias_law.proofs.LastEntry.{no_entries, last_or_before}

-- ONE ENTRY lets go of an object, or it doesn't.
lets_or_not : (held : ℕ → ℕ) (e : Entry) (o : ℕ) → LetsGoOf held e o ⊎ (LetsGoOf held e o → ⊥)
lets_or_not held (entry.Wait i) o = by_equal i o (λ s. inl (inl (ap entry.Wait s)))
    (λ d. inr (λ h. elim h [ inl wait ↦ let same : i ≡ o = cc wait in d same | inr exit ↦ let is = exit.0 in absurd (cc is) ]))
lets_or_not held (entry.Exit i) o = by_equal i o
    (λ s. by_equal (held o) 1 (λ one. inl (inr (ap entry.Exit s, one)))
    (λ d. inr (λ h. elim h [ inl wait ↦ absurd (cc wait) | inr exit ↦ d exit.1 ])))
    (λ d. inr (λ h. elim h [ inl wait ↦ absurd (cc wait) | inr exit ↦ let is = exit.0 in let same : i ≡ o = cc is in d same ]))
lets_or_not held _ o = inr (λ h. elim h [ inl wait ↦ absurd (cc wait) | inr exit ↦ let is = exit.0 in absurd (cc is) ])

-- ONE LOG, before which each object was held so often
record LetsGoFrom (held : ℕ → ℕ) (log : List Logged) (o stamp : ℕ) : Type 0 where
  pub before : List Logged
  pub entry : Entry
  pub later : List Logged
  pub log_is : log ≡ before ++ record { stamp = stamp; entry = entry } ∷ later
  pub lets_go : LetsGoOf (held_by held before) entry o

at_head : (held : ℕ → ℕ) (l : Logged) (log : List Logged) (o s : ℕ) → LetsGoFrom held (l ∷ log) o s
    → ((l.stamp ≡ s) × LetsGoOf held l.entry o) ⊎ LetsGoFrom (held_after l.entry held) log o s
at_head held l log o s h = by_before h.before h.log_is h.lets_go
  where
    by_before : (before : List Logged) → (l ∷ log) ≡ (before ++ record { stamp = s; entry = h.entry } ∷ h.later) → LetsGoOf (held_by held before) h.entry o
        → ((l.stamp ≡ s) × LetsGoOf held l.entry o) ⊎ LetsGoFrom (held_after l.entry held) log o s
    by_before [] is lets =
        let same : l ≡ record { stamp = s; entry = h.entry } = cc is in
        inl (ap (λ (z : Logged). z.stamp) same, subst (λ (z : Logged). LetsGoOf held z.entry o) (sym same) lets)
    by_before (b ∷ before) is lets =
        let same : l ≡ b = cc is in
        let rest : log ≡ (before ++ record { stamp = s; entry = h.entry } ∷ h.later) = cc is in
        inr (record {
          before = before;
          entry = h.entry;
          later = h.later;
          log_is = rest;
          lets_go = subst (λ (z : Logged). LetsGoOf (held_by (held_after z.entry held) before) h.entry o) (sym same) lets;
        })

after_head : (held : ℕ → ℕ) (l : Logged) (log : List Logged) (o s : ℕ) → LetsGoFrom (held_after l.entry held) log o s → LetsGoFrom held (l ∷ log) o s
after_head held l log o s h = record { before = l ∷ h.before; entry = h.entry; later = h.later; log_is = ap (λ xs. l ∷ xs) h.log_is; lets_go = h.lets_go }

-- the last stamp with which it lets go of o; 0 where it doesn't
record LastFrom (held : ℕ → ℕ) (log : List Logged) (o : ℕ) : Type 0 where
  pub stamp : ℕ
  pub logged : (stamp ≡ 0) ⊎ LetsGoFrom held log o stamp
  pub last : (s : ℕ) → LetsGoFrom held log o s → s ≤ stamp

last_from : (held : ℕ → ℕ) (log : List Logged) (o : ℕ) → LastFrom held log o
last_from held [] o = record { stamp = 0; logged = inl refl; last = λ s h. absurd (no_entries h.before h.later _ h.log_is) }
last_from held (l ∷ log) o = by_head (last_from (held_after l.entry held) log o) (lets_or_not held l.entry o)
  where
    rest_is_last : (rest : LastFrom (held_after l.entry held) log o) → (LetsGoOf held l.entry o → l.stamp ≤ rest.stamp) → LastFrom held (l ∷ log) o
    rest_is_last rest low = record {
      stamp = rest.stamp;
      logged = elim rest.logged [ inl none ↦ inl none | inr h ↦ inr (after_head held l log o rest.stamp h) ];
      last = λ s h. elim (at_head held l log o s h) [ inl here ↦ let a = low here.1 in let b = here.0 in omega (arith, a, b) | inr there ↦ rest.last s there ];
    }

    head_is_last : (rest : LastFrom (held_after l.entry held) log o) → LetsGoOf held l.entry o → rest.stamp < l.stamp → LastFrom held (l ∷ log) o
    head_is_last rest lets high = record {
      stamp = l.stamp;
      logged = inr (record { before = []; entry = l.entry; later = log; log_is = refl; lets_go = lets });
      last = λ s h. elim (at_head held l log o s h) [
        | inl here ↦ let b = here.0 in omega (arith, b)
        | inr there ↦ let a = rest.last s there in omega (arith, a, high)
      ];
    }

    by_head : (rest : LastFrom (held_after l.entry held) log o) → LetsGoOf held l.entry o ⊎ (LetsGoOf held l.entry o → ⊥) → LastFrom held (l ∷ log) o
    by_head rest (inl lets) = elim (cases_lt rest.stamp l.stamp) [ inl high ↦ head_is_last rest lets high | inr low ↦ rest_is_last rest (λ h. low) ]
    by_head rest (inr none) = rest_is_last rest (λ h. absurd (none h))

-- ALL LOGS
pub last_let_go : (logs : List (List Logged)) (o : ℕ) → (s : ℕ) × IsLastLetGo logs o s
last_let_go [] o = (0, record { logged = inl refl; last = λ t s h. absurd (no_entries h.before h.later _ h.log_is) })
last_let_go (log ∷ logs) o = by_greater (last_from nothing_held log o) (last_let_go logs o)
  where
    from_start : (s : ℕ) → HasLetGo log o s → LetsGoFrom nothing_held log o s
    from_start s h = record { before = h.before; entry = h.entry; later = h.later; log_is = h.log_is; lets_go = h.lets_go }

    both_below : (own : LastFrom nothing_held log o) (rest : (s : ℕ) × IsLastLetGo logs o s) (m : ℕ) → own.stamp ≤ m → rest.0 ≤ m
        → (t s : ℕ) → HasLetGo (log_of (log ∷ logs) t) o s → s ≤ m
    both_below own rest m low high zero s h = let a = own.last s (from_start s h) in omega (arith, a, low)
    both_below own rest m low high (suc t) s h = let a = rest.1.last t s h in omega (arith, a, high)

    by_greater : (own : LastFrom nothing_held log o) (rest : (s : ℕ) × IsLastLetGo logs o s) → (s : ℕ) × IsLastLetGo (log ∷ logs) o s
    by_greater own rest = elim (cases_lt own.stamp rest.0) [
      | inl low ↦ (
        rest.0,
        record {
          logged = elim rest.1.logged [ inl none ↦ inl none | inr h ↦ inr (suc h.0, h.1) ];
          last = both_below own rest rest.0 (omega (arith, low)) (omega arith);
        },
      )
      | inr high ↦ (
        own.stamp,
        record {
          logged = elim own.logged [
            | inl none ↦ inl none
            | inr h ↦ inr (zero, record { before = h.before; entry = h.entry; later = h.later; log_is = h.log_is; lets_go = h.lets_go })
          ];
          last = both_below own rest own.stamp (omega arith) (omega (arith, high));
        },
      )
    ]

-- ONE ENTRY MORE. The log lets go where it did,
pub let_go_stays : (log : List Logged) (y : Logged) (o stamp : ℕ) → HasLetGo log o stamp → HasLetGo (log ++ y ∷ []) o stamp
let_go_stays log y o stamp h = record {
  before = h.before;
  entry = h.entry;
  later = h.later ++ y ∷ [];
  log_is = ap (λ (ls : List Logged). ls ++ y ∷ []) h.log_is ∙ append_assoc h.before (record { stamp = stamp; entry = h.entry } ∷ h.later) (y ∷ []);
  lets_go = h.lets_go;
}

-- and perhaps with that entry.
pub let_go_was : (log : List Logged) (y : Logged) (o stamp : ℕ) → HasLetGo (log ++ y ∷ []) o stamp
    → HasLetGo log o stamp ⊎ ((y.stamp ≡ stamp) × LetsGoOf (held_by nothing_held log) y.entry o)
let_go_was log y o stamp h = elim (last_or_before log y h.before (record { stamp = stamp; entry = h.entry }) h.later h.log_is) [
  | inl was ↦ inl (record { before = h.before; entry = h.entry; later = was.0; log_is = was.1; lets_go = h.lets_go })
  | inr new ↦
      let same : y ≡ record { stamp = stamp; entry = h.entry } = new.1 in
      inr (
        ap (λ (z : Logged). z.stamp) same,
        subst (λ (z : Logged). LetsGoOf (held_by nothing_held log) z.entry o) (sym same)
            (subst (λ ls. LetsGoOf (held_by nothing_held ls) h.entry o) (sym new.0) h.lets_go),
      )
]
