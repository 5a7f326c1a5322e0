-- A draw out of turn, and a second draw for an object, lead to no valid world.
use Rattle.core_locks.proofs.Prelude.{◌≡◌, ℕ, ◌+◌, ◌<◌, ◌==◌, eq-eqb, Bool, true, false, cond, List, [], ◌∷◌, ◌++◌, length, Some, refl, sym, ap, ◌∙◌}
use Rattle.core_locks.proofs.Prelude.{subst, arith, mark_of, Neutral, PlainObject, Logged, last_stamp, Mark, ThreadView, draw_of, World, logs}
use Rattle.core_locks.proofs.Prelude.{hash_at, CallContext, world_after, Fits, Valid, drawn_by, draw_in, first_draw, drawn_for, all_draws, IsNextDraw}
use Rattle.core_locks.proofs.Prelude.{AreDraws, draws_in, NextDraw, with_known_here, logs_length, logs_grow, running_fits, IsItsNext, draw_plan}
use Rattle.plain_monitor.specs.declared.entry.Entry.TheVariants as entry
use Rattle.core_locks.proofs.hash.Drawing.{all_more}
use Rattle.core_locks.proofs.hash.HashDraws.{one_above}
use Rattle.core_locks.proofs.RefutedSteps.{knows, hit, swap_hits, hit_fits}

-- the last draw of a log is the next one after the others
last_next : (first n : ℕ) (log : List Logged) (y : Logged) → AreDraws first n (log ++ y ∷ []) → IsNextDraw first (draws_in log + n) (draw_in y.entry)
last_next first n [] y h = let same : n ≡ 0 + n = omega arith in subst (λ k. IsNextDraw first k (draw_in y.entry)) same h.0
last_next first n (l ∷ log) y h =
    let same : draws_in log + (drawn_by (draw_in l.entry) + n) ≡ drawn_by (draw_in l.entry) + draws_in log + n = omega arith in
    subst (λ k. IsNextDraw first k (draw_in y.entry)) same (last_next first (drawn_by (draw_in l.entry) + n) log y h.1)

at_most_one : (b : Bool) → cond b 0 1 < 2
at_most_one true = omega arith
at_most_one false = omega arith

module _ (w : World) (t o mark : ℕ) (e : CallContext) (draw : NextDraw) (valid : Valid w) (runs : (w.known t).running ≡ true)
    (found : w.words (Mark o) ≡ mark) (after : Valid (world_after (draw_plan e draw (Mark o) o mark) t w)) where
  before : Fits w valid.objects
  before = running_fits w valid t runs

  abbrev l : ThreadView
  l = knows (draw_plan e draw (Mark o) o mark) t w

  abbrev y : Logged
  y = record { stamp = last_stamp (w.known t).log + 1; entry = entry.Hash o draw.value (Some draw.number) }

  now : (P : List PlainObject) × Fits (hit (draw_plan e draw (Mark o) o mark) t w) P
  now = hit_fits (draw_plan e draw (Mark o) o mark) t w (swap_hits (w.words (Mark o)) mark (mark_of (Neutral draw.value 0)) found).0 runs after

  pub draw_is_next : IsItsNext w.start (w.known t) draw
  draw_is_next =
      let log : AreDraws (first_draw w.start t) 0 ((w.known t).log ++ y ∷ []) =
      subst (λ (k : ThreadView). AreDraws (first_draw w.start t) 0 k.log) (with_known_here t l w.known) (now.1.draws.drawn t) in
      let next : IsNextDraw (first_draw w.start t) (w.known t).draws (draw_in y.entry) =
      (let n : draws_in (w.known t).log + 0 ≡ (w.known t).draws = (let c = before.draws.counted t in omega (arith, c)) in
      subst (λ k. IsNextDraw (first_draw w.start t) k (draw_in y.entry)) n (last_next (first_draw w.start t) 0 (w.known t).log y log)) in
      record { number = next.0; value = next.1 ∙ ap (λ u. draw_of w.start u ((w.known t).draws + 1)) (sym (before.numbered t)) }

  -- the object had no draw before
  pub undrawn_before : all_draws o (logs w) ≡ 0
  undrawn_before =
      let within = before.safe.few t runs in
      let many : t < length (logs w) = (let b = logs_length 0 w.shape.threads w.known in omega (arith, b, within)) in
      let grown = ap (all_draws o) (logs_grow w.shape.threads t y l w.known within refl) ∙ all_more o t (logs w) y many in
      let one : drawn_for o (draw_in y.entry) ≡ 1 = ap (λ (b : Bool). cond b 1 0) (eq-eqb o o refl) in
      let few = at_most_one (hash_at now.0 o == 0) in
      let is = now.1.draws.one o in
      omega (arith, grown, one, few, is)

pub no_draw_out_of_turn : (w : World) (t o mark : ℕ) (e : CallContext) (draw : NextDraw) → Valid w
    → (w.known t).running ≡ true → w.words (Mark o) ≡ mark → (IsItsNext w.start (w.known t) draw → ⊥)
    → Valid (world_after (draw_plan e draw (Mark o) o mark) t w) → ⊥
no_draw_out_of_turn w t o mark e draw valid runs found other after = other (draw_is_next w t o mark e draw valid runs found after)

pub no_second_draw : (w : World) (t o mark : ℕ) (e : CallContext) (draw : NextDraw) (v : Valid w)
    → (w.known t).running ≡ true → w.words (Mark o) ≡ mark → 0 < hash_at v.objects o
    → Valid (world_after (draw_plan e draw (Mark o) o mark) t w) → ⊥
no_second_draw w t o mark e draw v runs found some after =
    let none = undrawn_before w t o mark e draw v runs found after in
    let is = (before w t o mark e draw v runs found after).draws.one o in
    let one = one_above (hash_at v.objects o) some in
    absurd (omega (arith, is, none, one))
