-- A thread that rests has as many hold words for each object as it holds it by its own log.
use Rattle.std.proofs.Common.{◌≡◌, ℕ, ◌+◌, ◌<◌, ◌==◌, ne_eqb, true, false, List, length, slice_index, sym, ap, ◌∙◌, subst, arith}
use Rattle.std.specs.List.{sum, list_all}
use Rattle.mark_word.specs.Hold.{read_hold}
use Rattle.plain_monitor.specs.Limits.{most_holds}
use Rattle.plain_monitor.specs.declared.entry.Logged.{Logged}
use Rattle.plain_history.specs.HeldByLog.{held_by, nothing_held}
use Rattle.plain_history.proofs.HeldByLog.{holds_by_log}
use Rattle.core_world.specs.Clauses.WordForms.{IsHold}
use Rattle.core_world.specs.Locks.{hold_count, holds_by_monitor, monitor_of}
use Rattle.core_world.specs.Threads.AtRest.{AtRest}
use Rattle.core_world.specs.Threads.ThreadView.{ThreadView}
use Rattle.core_world.specs.Threads.Stages.{hold_words_ahead}
use Rattle.core_world.specs.Trees.Plans.{free_place}
use Rattle.core_world.specs.Words.Shape.{Shape}
use Rattle.core_world.specs.World.{logs}
use Rattle.heap_table.specs.Kept.{all_holds}
use Rattle.heap_table.specs.Resting.{Rests}
use Rattle.heap_table.specs.Seen.{HeapSeen, PassSeen}
use Rattle.heap_table.proofs.Resting.{at_rest}
use Rattle.own_logs.specs.HoldsByLog.{AreHolds}
use Rattle.own_logs.proofs.HoldSums.{all_counted, none_free, all_empty}
use Rattle.own_logs.proofs.Settled.{Settled, settled, log_settled}

module _ (s : Shape) (k : ThreadView) (z : Settled s k) where
  -- in the middle of nothing it has no hold words besides those of its log
  stands : AtRest s k → (o : ℕ) → hold_count o k.holds ≡ holds_by_monitor (monitor_of z.objects o) k.thread
  stands rest o =
      let by_log = holds_by_monitor (monitor_of z.objects o) k.thread in
      let number = subst (λ (x : ThreadView). hold_count o x.holds ≡ by_log + hold_words_ahead x.stage o) z.knew (z.fits.holds.number k.thread o) in
      let none = ap (λ stage. hold_words_ahead stage o) rest.calm in
      omega (arith, number, none)

  places : length k.holds ≡ most_holds
  places = subst (λ (x : ThreadView). length x.holds ≡ most_holds) z.knew (z.fits.holds.places k.thread)

  -- each word is empty or names an object of the heap
  forms : (p : ℕ) → IsHold s (read_hold (slice_index k.holds p))
  forms p =
      let there = subst (λ word. IsHold z.world.shape (read_hold word)) (z.fits.holds.stored k.thread p) (z.fits.forms.holds k.thread p) in
      let here = subst (λ (x : ThreadView). IsHold z.world.shape (read_hold (slice_index x.holds p))) z.knew there in
      subst (λ (x : Shape). IsHold x (read_hold (slice_index k.holds p))) z.shape here

pub own_number : (h : HeapSeen) (p : PassSeen) (o : ℕ) → Rests h p → hold_count o p.known.holds ≡ held_by nothing_held p.known.log o
own_number h p o rests =
    let s = h.heap.shape in
    let k = p.known in
    let z = settled h p rests in
    stands s k z (at_rest h p rests) o
    ∙ holds_by_log z.world.shape.objects (logs z.world) z.objects z.fits.legal z.fits.taken k.thread o
    ∙ ap (λ (log : List Logged). held_by nothing_held log o) (log_settled s k z rests.is_of.within)

module _ (h : HeapSeen) (p : PassSeen) (holds : List ℕ) (rests : Rests h p) (are : AreHolds h p holds) where
  pub own_all : all_holds p.known.holds ≡ sum holds
  own_all = all_counted h.heap.shape p.known.holds holds (forms h.heap.shape p.known (settled h p rests)) are.count
      (λ o l. are.each o l ∙ sym (own_number h p o rests))

  pub own_full : sum holds < most_holds → (free_place p.known.holds == most_holds) ≡ false
  own_full few = ne_eqb (free_place p.known.holds) most_holds (λ e.
      let long = places h.heap.shape p.known (settled h p rests) in
      let full = none_free 0 p.known.holds (e ∙ sym long) in
      omega (arith, few, long, full, own_all))

  pub own_none : sum holds ≡ 0 → list_all (λ w. w == 0) p.known.holds ≡ true
  own_none nothing = all_empty 0 p.known.holds (own_all ∙ nothing)
