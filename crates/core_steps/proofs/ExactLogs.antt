-- Exact stamps stay exact when a thread logs one entry more, if that is stamped exactly too: and where it lets go of an object, above all
-- entries on that object.
use Rattle.std.proofs.Common.{◌≡◌, ◌≢◌, ◌⊎◌, ℕ, ◌+◌, ◌<◌, ◌≤◌, max, List, [], ◌∷◌, ◌++◌, length, Some, refl, sym, ap, ◌∙◌, subst, arith, inl, inr}
use Rattle.std.proofs.lemmas.List.{get_or-set_same, get_or-set_other}
use Rattle.std.specs.List.{AllByRecursion}
use Rattle.plain_monitor.specs.declared.entry.Entry.{Entry}
use Rattle.plain_monitor.specs.declared.entry.Entry.TheVariants.{Enter, Resume}
use Rattle.plain_monitor.specs.declared.entry.Logged.{Logged}
use Rattle.plain_monitor.specs.History.{last_stamp, log_of, appended}
use Rattle.plain_history.specs.Tied.{bound_to}
use Rattle.plain_history.specs.HeldByLog.{held_by, nothing_held, LetsGoOf, HasLetGo, IsLastLetGo}
use Rattle.core_world.specs.Steps.{stamp_by}
use Rattle.core_world.proofs.KnowledgeParts.{by_equal}
use Rattle.plain_history.specs.ExactStamps.{IsTakingStamp, IsExactStamp, StampsAreExact}
use Rattle.core_law.specs.Takings.{StampsTaking}
use Rattle.bias_law.proofs.LastEntry.{last_or_before}
use Rattle.core_steps.proofs.LetGoes.{last_let_go, let_go_stays, let_go_was}

-- no entry on o, but a hash, is above this stamp
abbrev pub NoneAbove : List (List Logged) → ℕ → ℕ → Type 0
NoneAbove all o s = (u : ℕ) → AllByRecursion (λ l. bound_to l.entry ≡ Some o → l.stamp ≤ s) (log_of all u)

-- what holds of all of a list holds of each
at_place : (Z : Logged → Type 0) (before later : List Logged) (x : Logged) → AllByRecursion Z (before ++ x ∷ later) → Z x
at_place Z [] later x a = a.0
at_place Z (b ∷ before) later x a = at_place Z before later x a.1

module _ (all : List (List Logged)) (t : ℕ) (y : Logged) (within : t < length all) where
  abbrev now : List (List Logged)
  now = appended all t y

  abbrev own : List Logged
  own = log_of all t

  own_now : log_of now t ≡ own ++ y ∷ []
  own_now = get_or-set_same all t (own ++ y ∷ []) [] within

  other_now : (u : ℕ) → u ≢ t → log_of now u ≡ log_of all u
  other_now u d = get_or-set_other all t u (own ++ y ∷ []) [] d

  -- who let go before has let go now
  more : (u o s : ℕ) → HasLetGo (log_of all u) o s → HasLetGo (log_of now u) o s
  more u o s h = by_equal u t
      (λ e. subst (λ v. HasLetGo (log_of now v) o s) (sym e)
      (subst (λ log. HasLetGo log o s) (sym own_now) (let_go_stays own y o s (subst (λ v. HasLetGo (log_of all v) o s) e h))))
      (λ d. subst (λ log. HasLetGo log o s) (sym (other_now u d)) h)

  less : (u o s : ℕ) → HasLetGo (log_of now u) o s → HasLetGo (log_of all u) o s ⊎ ((y.stamp ≡ s) × LetsGoOf (held_by nothing_held own) y.entry o)
  less u o s h = by_equal u t
      (λ e. elim (let_go_was own y o s (subst (λ log. HasLetGo log o s) own_now (subst (λ v. HasLetGo (log_of now v) o s) e h))) [
        | inl was ↦ inl (subst (λ v. HasLetGo (log_of all v) o s) (sym e) was)
        | inr new ↦ inr new
      ])
      (λ d. inl (subst (λ log. HasLetGo log o s) (other_now u d) h))

  -- a taking that was logged, where the entry doesn't let go of its object below it
  taking_stays : (o last s : ℕ) → (LetsGoOf (held_by nothing_held own) y.entry o → s < y.stamp) → IsTakingStamp all o last s → IsTakingStamp now o last s
  taking_stays o last s low a = record {
    let_go = a.let_go;
    is_last = record {
      below = a.is_last.below;
      logged = elim a.is_last.logged [ inl none ↦ inl none | inr h ↦ inr (h.0, more h.0 o a.let_go h.1) ];
      last = λ u r h under. elim (less u o r h) [
        | inl was ↦ a.is_last.last u r was under
        | inr new ↦ let high = low new.1 in let is = new.0 in absurd (omega (arith, high, is, under))
      ];
    };
    next = a.next;
  }

  -- and one that is logged now
  taking_new : (o : ℕ) → ((s : ℕ) → IsLastLetGo all o s → y.stamp ≡ max s (last_stamp own) + 1) → IsTakingStamp now o (last_stamp own) y.stamp
  taking_new o exact =
      let m = last_let_go all o in
      let is = exact m.0 m.1 in
      record {
        let_go = m.0;
        is_last = record {
          below = omega (arith, is);
          logged = elim m.1.logged [ inl none ↦ inl none | inr h ↦ inr (h.0, more h.0 o m.0 h.1) ];
          last = λ u r h under. elim (less u o r h) [ inl was ↦ m.1.last u r was | inr new ↦ let same = new.0 in absurd (omega (arith, same, under)) ];
        };
        next = is;
      }

  -- the same of any entry
  stays : (e : Entry) (last s : ℕ) → ((o : ℕ) → bound_to e ≡ Some o → LetsGoOf (held_by nothing_held own) y.entry o → s < y.stamp)
      → IsExactStamp all last e s → IsExactStamp now last e s
  stays (Enter o path) last s low a = taking_stays o last s (low o refl) a
  stays (Resume o) last s low a = taking_stays o last s (low o refl) a
  stays _ last s low a = a

  new : (e : Entry) (found : ℕ) → StampsTaking all found (last_stamp own) e
      → y.stamp ≡ stamp_by e found (last_stamp own) → IsExactStamp now (last_stamp own) e y.stamp
  new (Enter o path) found exact is = taking_new o (λ s last. is ∙ exact s last)
  new (Resume o) found exact is = taking_new o (λ s last. is ∙ exact s last)
  new _ found exact is = is

  module _ (found : ℕ) (is : y.stamp ≡ stamp_by y.entry found (last_stamp own))
      (up : last_stamp own < y.stamp) (exact : StampsTaking all found (last_stamp own) y.entry)
      (above : (o : ℕ) → LetsGoOf (held_by nothing_held own) y.entry o → NoneAbove all o (last_stamp own)) where
    low : (u : ℕ) (before : List Logged) (l : Logged) (later : List Logged) → log_of all u ≡ before ++ l ∷ later
        → (o : ℕ) → bound_to l.entry ≡ Some o → LetsGoOf (held_by nothing_held own) y.entry o → l.stamp < y.stamp
    low u before l later place o bound lets =
        let Z : Logged → Type 0 = λ l. bound_to l.entry ≡ Some o → l.stamp ≤ last_stamp own in
        let under = at_place Z before later l (subst (AllByRecursion Z) place (above o lets u)) bound in
        omega (arith, under, up)

    pub exact_appended : StampsAreExact all → StampsAreExact (appended all t y)
    exact_appended was u before l later place = by_equal u t
        (λ e. elim (last_or_before own y before l later (sym own_now ∙ ap (log_of now) (sym e) ∙ place)) [
          | inl old ↦ stays l.entry (last_stamp before) l.stamp (low t before l old.0 old.1) (was t before l old.0 old.1)
          | inr here ↦
              let at_end : IsExactStamp now (last_stamp own) l.entry l.stamp =
              subst (λ (z : Logged). IsExactStamp now (last_stamp own) z.entry z.stamp) here.1 (new y.entry found exact is) in
              subst (λ (ls : List Logged). IsExactStamp now (last_stamp ls) l.entry l.stamp) here.0 at_end
        ])
        (λ d.
        let there = sym (other_now u d) ∙ place in
        stays l.entry (last_stamp before) l.stamp (low u before l later there) (was u before l later there))
