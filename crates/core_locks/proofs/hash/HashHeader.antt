-- A thread exchanges the header without a hash that a monitor keeps for its object, for the same with its next draw.
use Rattle.core_locks.proofs.Prelude.{◌≡◌, ◌≢◌, ℕ, ◌<◌, ◌==◌, eq-eqb, ne_eqb, Bool, true, false, cond, List, Option, Some, refl, sym, ap}
use Rattle.core_locks.proofs.Prelude.{◌∙◌, inl, inr, same_Some, MarkForm, read_mark, mark_of, Neutral, Inflated, PlainObject, Header}
use Rattle.core_locks.proofs.Prelude.{is_biased, is_neutral, hash_in, monitor_in, is_biased_form, monitor_form, hash_form, is_neutral_form}
use Rattle.core_locks.proofs.Prelude.{Inflation, word_after, ThreadView, World, with_word_and_known, header, header_form, marks, displaced_words}
use Rattle.core_locks.proofs.Prelude.{headers, inflations, owner_at, hash_at, Stays, IsKeptOrNamed, CallContext, Fits}
use Rattle.core_locks.proofs.Prelude.{SeenFit, CompareExchange, NextDraw, fits_running, inflated_form, miss_valid, Logs, SawInflated, MayHash}
use Rattle.core_locks.proofs.Prelude.{IsItsNext, draw_plan, eqb-true, KeepsValid, LogsValid, MayDrawInMonitor}
use Rattle.plain_monitor.specs.declared.entry.Entry.TheVariants as entry
use Rattle.core_locks.proofs.Clauses.{seen, biases, monitors, hashes, AllHold}
use Rattle.core_locks.proofs.hash.HashDraws.{Drawing, IsBlank, plan as its_plan, l as its_known, Q as objects, y as its_entry}
use Rattle.core_locks.proofs.hash.HashDraws.{spells, telling_it, exchanged, slots_drawn, draws_law, biases_drawn, hashes_drawn}
use Rattle.core_locks.proofs.hash.HashFinds.{mark_is, header_is}
use Rattle.core_locks.proofs.telling.Tells.{IsTelling, told_parts, told_are, told_step}
use Rattle.core_locks.proofs.MarkMeanings.{each_set}
use Rattle.core_locks.proofs.OwnSeen.{own_seen}
use Rattle.core_locks.proofs.Steps.{telling, IsStep, next, step_fits, seen_next}
use Rattle.core_locks.proofs.monitor.Places.{kept_apart}

-- an object's header is that in its monitor, or in no monitor
header_by_monitor : (f : Option MarkForm) (mark : ℕ) (d : ℕ → ℕ → ℕ) (a b : ℕ → ℕ) (inflation : Option Inflation)
    → ((n : ℕ) → monitor_form f ≡ Some n → a n ≡ b n)
    → header_form f mark d a inflation ≡ header_form f mark d b inflation
header_by_monitor (Some (Inflated n)) mark d a b inflation h = ap Some (h n refl)
header_by_monitor _ mark d a b inflation h = refl

module _ (w : World) (P : List PlainObject) (t : ℕ) (e : CallContext) (draw : NextDraw) (o m old : ℕ)
    (within : t < w.shape.threads) (may : MayHash w.shape (w.known t) o) (saw : SawInflated (w.known t) o m)
    (bare : IsBlank old) (its : IsItsNext w.start (w.known t) draw) (v : Fits w P) (hit : (w.words (Header m) == old) ≡ true) where
  was : headers w m ≡ old
  was = eqb-true (headers w m) old hit

  named : monitor_in (marks w o) ≡ Some m
  named = mark_is w P t o may v m saw

  hashless : hash_at P o ≡ 0
  hashless = sym (v.hashes.stands o (headers w m) (header_is w P t o may v m saw)) ∙ ap hash_in was ∙ bare.none

  unbiased : is_biased (marks w o) ≡ false
  unbiased = ap is_biased_form (inflated_form (read_mark (marks w o)) m named)

  abbrev n : ℕ
  n = word_after (CompareExchange old (mark_of (Neutral draw.value 0))) (w.words (Header m))

  drawing : Drawing w P t e draw o old (Header m)
  drawing = record { within = within; may = may; its = its; fits = v; hashless = hashless; hit = hit }

  abbrev l : ThreadView
  l = its_known drawing

  abbrev x : World
  x = with_word_and_known (Header m) n t l w

  tells : IsTelling w P (objects drawing) t (its_entry drawing) l
  tells = telling_it drawing

  spelled : read_mark n ≡ Some (Neutral draw.value 0)
  spelled = spells drawing

  step : IsStep w t l telling
  step = record { within = within; mine = refl; others = λ k. refl }

  abbrev z : World
  z = next w t l telling x.words

  header_here : (h : ℕ) → header z o ≡ Some h → hash_in h ≡ draw.value
  header_here h g =
      let at : headers z m ≡ n = ap (λ (b : Bool). cond b n (headers w m)) (eq-eqb m m refl) in
      let is : header z o ≡ Some n = ap (λ f. header_form f (marks w o) (displaced_words w) (headers z) (inflations w o))
      (inflated_form (read_mark (marks w o)) m named) ∙ ap Some at in
      ap hash_in (same_Some h n (sym g ∙ is)) ∙ ap hash_form spelled

  header_else : (i : ℕ) → i ≢ o → header z i ≡ header w i
  header_else i d = header_by_monitor (read_mark (marks w i)) (marks w i) (displaced_words w) (headers z) (headers w) (inflations w i)
      (λ a s. ap (λ (b : Bool). cond b n (headers w a)) (ne_eqb a m (λ q. d (v.monitors.alone i o m (s ∙ ap Some q) named))))

  -- no other thread counts on the header of a monitor that a mark names
  uncounted : (u s : ℕ) → u ≢ t → Stays w (w.known u) (owner_at P) u (Header m) s → w.words (Header m) ≡ s → ⊥
  uncounted u s d (inl a) is = kept_apart v.claims u o m a.1 named
  uncounted u s d (inr a) is = a.2

  seen_law : SeenFit x P
  seen_law = let by : IsKeptOrNamed w (w.known t) m = inr (o, named) in own_seen w P t (its_plan drawing) (search (may.runs, by, uncounted)) v

  all_after : AllHold (told_parts step tells x.words)
  all_after seen = seen_next step x.words P seen_law
  all_after biases = biases_drawn drawing (marks w) (λ i b. (λ s. absurd (cc (ap (λ j. is_biased (marks w j)) (sym s) ∙ b, unbiased)), b))
  all_after monitors = record {
    own = v.monitors.own;
    neutral = λ i a s. each_set (λ b y. is_neutral (headers w b) ≡ true → is_neutral y ≡ true) m n
        (headers w) a (λ g. ap is_neutral_form spelled) (λ d g. g) (v.monitors.neutral i a s);
    alone = v.monitors.alone;
  }
  all_after hashes = hashes_drawn drawing (marks w) (header z) (λ i b. b) header_here header_else
  all_after c = told_step step tells v (slots_drawn drawing) (draws_law drawing) c

  pub drawn_logs : Logs w P t (draw_plan e draw (Header m) o old) (entry.Hash o draw.value (Some draw.number))
  drawn_logs = exchanged drawing (step_fits step x.words (objects drawing) (told_parts step tells x.words) (told_are step tells x.words) all_after)

-- THE LAW, where the exchange hits;
pub draws_header : (e : CallContext) (draw : NextDraw) (o m header : ℕ)
    → LogsValid (λ w t. MayDrawInMonitor w.start w.shape (w.known t) draw o m header × (w.words (Header m) ≡ header))
    (λ w t. draw_plan e draw (Header m) o header)
    (entry.Hash o draw.value (Some draw.number))
draws_header e draw o m header w P t within may is =
    let draws = may.0.draws in
    let saw = may.0.inflated in
    let v = fits_running w P t draws.hashes.runs is in
    let blank : IsBlank header =
    record { neutral = ap is_neutral (sym may.1) ∙ v.monitors.neutral o m (mark_is w P t o draws.hashes v m saw); none = may.0.hashless } in
    drawn_logs w P t e draw o m header within draws.hashes saw blank draws.next v (eq-eqb (w.words (Header m)) header may.1)

-- and where it misses
pub draw_misses_header : (e : CallContext) (draw : NextDraw) (o m header : ℕ)
    → KeepsValid (λ w t. MayDrawInMonitor w.start w.shape (w.known t) draw o m header × (w.words (Header m) ≢ header))
    (λ w t. draw_plan e draw (Header m) o header)
draw_misses_header e draw o m header w P t within may is =
    miss_valid w P t (draw_plan e draw (Header m) o header) within
    (record {
      missed = ne_eqb (w.words (Header m)) header may.1;
      may = record {
        outside = λ stopped. absurd (cc (stopped, may.0.draws.hashes.runs));
        found = λ r a h. let saw = may.0.inflated in inr (o, saw.0, saw.1, saw.2 ∙ h);
      };
    }) is
