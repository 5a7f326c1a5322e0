-- The bias law holds of the opening world.
use Rattle.std.proofs.Common.{◌≡◌, ℕ, zero, suc, ◌+◌, Bool, true, false, Some, None, List, [], refl, sym, ap, arith, subst, inl, ◌&&◌, nat_lt, ◌∙◌}
use Rattle.std.proofs.Math.Bool.{or-false}
use Rattle.plain_monitor.specs.declared.entry.Entry.{Entry}
use Rattle.plain_monitor.specs.Order.{order, ordered, with_threads}
use Rattle.core_world.specs.declared.stage.Stage.TheVariants.{Settled}
use Rattle.core_world.specs.Threads.Counts.{no_counts}
use Rattle.core_world.specs.Words.Shape.{Shape}
use Rattle.core_world.specs.Words.Names.{class_by}
use Rattle.core_world.specs.World.{logs_from}
use Rattle.core_world.specs.Locks.{lock}
use Rattle.core_world.specs.Opening.{opening, first_known, first_mark}
use Rattle.core_law.specs.BiasLaw.{BiasLaw, BiasLawHolds, is_logged}
use Rattle.core_law.specs.CountsAndVerdicts.{CountFits, sum_below}
use Rattle.core_law.specs.BiasOwners.{bias_owner, owner_form}
use Rattle.core_law.specs.MarksAndLogs.{is_anonymous, is_anonymous_form}
use Rattle.plain_history.specs.EnterPaths.{entries_on}
use Rattle.core_world.proofs.Readings.{mark_five, mark_one}
use Rattle.bias_law.proofs.LastEntry.{no_entries as none_before}

no_entries : (u v n : ℕ) → with_threads u (logs_from v n first_known) ≡ []
no_entries u v zero = refl
no_entries u v (suc n) = no_entries (u + 1) (v + 1) n

none_on : (n : ℕ) → ◌≡◌ {A = ℕ → List Entry} (λ (o : ℕ). entries_on o (order (logs_from 0 n first_known))) (λ (o : ℕ). [])
none_on n = λ i. λ o. entries_on o (ordered (no_entries 0 0 n i))

sum_none : (n : ℕ) → sum_below n (λ i. 0) ≡ 0
sum_none zero = refl
sum_none (suc n) = let a = sum_none n in omega (arith, a)

first_anonymous : (biasing : Bool) → biasing ≡ true → is_anonymous (first_mark biasing) ≡ true
first_anonymous true e = ap is_anonymous_form mark_five
first_anonymous false e = absurd (cc e)

-- the logs are empty, so that the declared objects alone are there
none_logged : (s : Shape) (u n o : ℕ) → is_logged s (logs_from u n first_known) o ≡ nat_lt o s.declared
none_logged s u zero o = or-false (nat_lt o s.declared)
none_logged s u (suc n) o = none_logged s (u + 1) n o

declared_anonymous : (biasing declared : Bool) → biasing ≡ true → declared ≡ true → is_anonymous (first_mark (biasing && declared)) ≡ true
declared_anonymous biasing true e there = ap (λ b. is_anonymous (first_mark (b && true))) e ∙ first_anonymous true refl
declared_anonymous biasing false e there = absurd (cc there)

first_unowned : (biasing : Bool) (t : ℕ) → bias_owner (first_mark biasing) ≡ Some t → ⊥
first_unowned true t e = let first = ap owner_form mark_five in cc (first, e)
first_unowned false t e = let first = ap owner_form mark_one in cc (first, e)

counts_none : (n : ℕ) → n ≡ 0 → CountFits 0 n n n n
counts_none n e = subst (λ (m : ℕ). CountFits 0 m m m m) (sym e) (record {
  revoked = refl;
  rebiased = λ h. absurd (omega arith);
  spent = omega arith;
  few = omega arith;
  capped = omega arith;
  even = λ h. refl;
  rebias_once = λ h. refl;
  revoke_once = λ h. refl;
})

pub opening_meets : (s : Shape) (start : ℕ) (biasing : Bool) → BiasLawHolds (opening s start biasing)
opening_meets s start biasing =
    subst (λ (entries : ℕ → List Entry). BiasLaw biasing s.threads s.classes (is_logged s (logs_from 0 s.threads first_known))
    (class_by s (opening s start biasing).words) (λ o. first_mark (biasing && nat_lt o s.declared))
    (lock (opening s start biasing)) entries (λ t. []) (λ t. Settled) (λ t. None) (λ c. 0) (λ t c. no_counts))
    (sym (none_on s.threads))
    (record {
      marks = record {
        ended = λ o e. absurd (cc e);
        stays = λ o. tt;
        biased = λ t o path e. absurd (cc e);
        unbiased = λ t o path e. absurd (cc e);
        unentered = λ e o there f g. inl (declared_anonymous biasing (nat_lt o s.declared) e (sym (none_logged s 0 s.threads o) ∙ there));
        entered = λ e o path there f g. absurd (cc g);
      };
      taken = record {
        logged = λ t o before l later e. absurd (none_before before later l e);
        owners = λ t o e. absurd (first_unowned (biasing && nat_lt o s.declared) t e);
      };
      few = record { logged = λ o. omega arith; coming = λ o c. absurd (cc c.1); free = λ o f. omega arith };
      paths = record { logged = λ t. tt; coming = λ t o path e. absurd (cc e) };
      count_fits = λ c. counts_none _ (sum_none s.threads);
      verdicts = λ t. inl (let a = sum_none s.classes in omega (arith, a));
      plain = λ e o. refl;
      uncounted = λ e t c. refl;
    })
