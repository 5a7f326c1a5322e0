-- The law of what is there holds of the opening world.
use Rattle.std.proofs.Common.{◌≡◌, ℕ, zero, suc, ◌+◌, Bool, true, false, cond, None, List, []}
use Rattle.std.proofs.Common.{replicate, slice_get, refl, sym, ap, arith, inl, ◌&&◌, nat_lt, ◌∙◌}
use Rattle.std.proofs.lemmas.Bool.Decides.{nat_tests}
use Rattle.plain_monitor.specs.Made.{Numbering, first_made, class_if_there, maker_of, place_of, made_by, take_made, nothing_made}
use Rattle.plain_monitor.specs.History.{run_all, take_all}
use Rattle.plain_monitor.specs.Objects.{new_objects}
use Rattle.plain_monitor.specs.Order.{order, ordered, with_threads}
use Rattle.plain_history.proofs.SlotsKnown.{new_slots_known}
use Rattle.core_world.specs.Opening.{opening, first_known, first_mark}
use Rattle.core_world.specs.Words.Shape.{Shape, IsInLimits}
use Rattle.core_world.specs.World.{logs_from}
use Rattle.core_world.proofs.Counting.{named_none}
use Rattle.plain_monitor.specs.Limits.{most_holds}
use Rattle.core_world.specs.Threads.References.{numbering}
use Rattle.core_law.specs.MadeLaw.{MadeLawHolds, stamp_words}
use Rattle.core_made.proofs.Numbers.{first_is_declared, not_declared}

no_entries : (u v n : ℕ) → with_threads u (logs_from v n first_known) ≡ []
no_entries u v zero = refl
no_entries u v (suc n) = no_entries (u + 1) (v + 1) n

no_order : (n : ℕ) → order (logs_from 0 n first_known) ≡ []
no_order n = ap ordered (no_entries 0 0 n)

-- no thread has made anything
pub none_by : (n t : ℕ) → made_by (replicate n []) t ≡ []
none_by zero t = refl
none_by (suc n) zero = refl
none_by (suc n) (suc t) = none_by n t

none_has_class : (n : Numbering) (o : ℕ) → nat_lt o (first_made n) ≡ false → class_if_there n (nothing_made n) o ≡ None
none_has_class n o e =
    ap (λ (b : Bool). cond b (slice_get n.declared o) (slice_get (made_by (nothing_made n) (maker_of n o)) (place_of n o))) e
    ∙ ap (λ (r : List ℕ). slice_get r (place_of n o)) (none_by n.threads (maker_of n o))

pub opening_meets : (s : Shape) (start : ℕ) (biasing : Bool) → IsInLimits s → MadeLawHolds (opening s start biasing)
opening_meets s start biasing limits = record {
  made = nothing_made (numbering s);
  in_time = ap (run_all (take_made (numbering s)) (nothing_made (numbering s))) (no_order s.threads);
  cut_in_time = λ t i shot e. absurd (cc e);
  classes = λ o c past e. let none = none_has_class (numbering s) o (grind (arith, nat_tests, past)) in absurd (cc (e, none));
  absent = λ o e. record {
    classless = inl refl;
    neutral = ap (λ d. first_mark (biasing && d))
        (ap (nat_lt o) (sym (first_is_declared s limits)) ∙ not_declared (numbering s) (nothing_made (numbering s)) o e) ∙ unbiased biasing;
    unheld = λ t. named_none o most_holds;
  };
  making = λ t o e. absurd (cc e);
  known = λ t o e. absurd (cc e);
  unfinished = λ t o e. absurd (cc e);
  saw = λ t o v free e. absurd (cc e);
  objects = new_objects s.objects;
  taken = ap (take_all (new_objects s.objects)) (no_order s.threads);
  slots = new_slots_known (numbering s) (nothing_made (numbering s)) s.objects (logs_from 0 s.threads first_known) (stamp_words (opening s start biasing));
}
  where
    unbiased : (b : Bool) → first_mark (b && false) ≡ first_mark false
    unbiased true = refl
    unbiased false = refl
