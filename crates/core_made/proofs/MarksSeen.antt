-- Which marks a thread has seen after a step: while its safepoint isn't reached they are of objects that the thread knows by its log.
use Rattle.std.proofs.Common.{◌≡◌, ◌⊎◌, ℕ, ◌&&◌, ◌||◌, not, Bool, true, false, cond, List, [], Some, refl, sym, ap, ◌∙◌, inl, inr}
use Rattle.core_world.specs.declared.act.Act.{Act}
use Rattle.core_world.specs.declared.act.Act.TheVariants.{Load, CompareExchange}
use Rattle.core_world.specs.declared.word_id.WordId.{WordId}
use Rattle.core_world.specs.declared.word_id.WordId.TheVariants.{Safepoint, Mark}
use Rattle.core_world.specs.declared.plan.LogEffect.{LogEffect}
use Rattle.core_world.specs.declared.plan.LogEffect.TheVariants.{Log}
use Rattle.core_world.specs.declared.plan.StepPlan.{StepPlan}
use Rattle.core_world.specs.Steps.{known_hit, known_miss, seen_before, kept_by_note, kept_by_act, only_headers, reached_after, is_taking}
use Rattle.core_world.specs.Threads.ThreadView.{ThreadView, StepMade, last_seen}
use Rattle.core_world.specs.Threads.References.{is_on}
use Rattle.core_world.specs.Words.Acts.{word_after}
use Rattle.core_world.specs.Words.Forms.{asks_in, is_still}
use Rattle.core_world.specs.Words.Names.{same_name}
use Rattle.core_world.specs.World.{World}
use Rattle.core_world.proofs.ActsLook.{seen_is_part, headers_are_part}
use Rattle.core_world.proofs.Naming.{same_named}
use Rattle.core_world.proofs.SeenMoves.{IsPart}
use Rattle.core_law.specs.MadeLaw.{MadeLawHolds}
use Rattle.core_made.specs.Steps.{EndsByExchange, knows_in}

-- an entry that is logged leaves some of what was seen
noted_is_part : (note : LogEffect) (seen : List StepMade) → IsPart (kept_by_note note seen) seen
noted_is_part (Log e) seen n v h = by_taking (is_taking e) h
  where
    by_taking : (b : Bool) → last_seen n (cond b [] seen) ≡ Some v → last_seen n seen ≡ Some v
    by_taking true g = absurd (cc g)
    by_taking false g = g
noted_is_part note seen n v h = h

unless_first : (a b : Bool) → (a || b) ≡ false → a ≡ false
unless_first true b h = absurd (cc h)
unless_first false b h = refl

-- WHAT THE ACT KEEPS of the marks that were seen, where the safepoint isn't reached afterwards: that of the unfinished operation's object, or what was
-- seen before, and the safepoint wasn't reached then either
kept_marks : (at : WordId) (act : Act) (left : ℕ) (k : ThreadView) (seen : List StepMade) (o v : ℕ) → EndsByExchange at act k.reached
    → reached_after at act left k ≡ false → last_seen (Mark o) (kept_by_act at act left k seen) ≡ Some v
    → (is_on k.unfinished o ≡ true) ⊎ ((k.reached ≡ false) × (last_seen (Mark o) seen ≡ Some v))
kept_marks Safepoint Load left k seen o v ends free h = inr (unless_first k.reached (k.requesting && is_still left) free, h)
kept_marks Safepoint (CompareExchange expected word) left k seen o v ends free h = by_release k.reached refl (asks_in left k.thread) free h
  where
    by_running : (b : Bool) → last_seen (Mark o) (cond b seen []) ≡ Some v → last_seen (Mark o) seen ≡ Some v
    by_running true g = g
    by_running false g = absurd (cc g)

    by_release : (r : Bool) → k.reached ≡ r → (a : Bool) → (r && a) ≡ false
        → last_seen (Mark o) (cond (r && not a) (only_headers k.unfinished k.seen_at_safepoint) (cond k.running seen [])) ≡ Some v
        → (is_on k.unfinished o ≡ true) ⊎ ((k.reached ≡ false) × (last_seen (Mark o) seen ≡ Some v))
    by_release true e true f g = absurd (cc f)
    by_release true e false f g = inl (headers_are_part k.unfinished k.seen_at_safepoint (Mark o) v g).0
    by_release false e a f g = inr (e, by_running k.running g)
kept_marks Safepoint act left k seen o v ends free h = inr (ends, h)
kept_marks at act left k seen o v ends free h = inr (free, h)

-- THE STEP of a plan, in a world in which the law holds
module _ (w : World) (law : MadeLawHolds w) (t : ℕ) (p : StepPlan)
    (looks : (o : ℕ) → p.at ≡ Mark o → (w.known t).reached ≡ false → knows_in w t o ≡ true) where
  abbrev k : ThreadView
  k = w.known t

  abbrev left : ℕ
  left = word_after p.act (w.words p.at)

  abbrev hit : ThreadView
  hit = known_hit w.shape w.start p (w.words p.at) (w.known t)

  abbrev miss : ThreadView
  miss = known_miss w.shape w.start p (w.words p.at) (w.known t)

  -- the newest step was on the mark, or an older one
  newest : (o v : ℕ) (old : List StepMade) → (p.at ≡ Mark o → knows_in w t o ≡ true) → (last_seen (Mark o) old ≡ Some v → knows_in w t o ≡ true)
      → (b : Bool) → same_name (Mark o) p.at ≡ b → cond b (Some (word_after p.act (w.words p.at))) (last_seen (Mark o) old) ≡ Some v → knows_in w t o ≡ true
  newest o v old own before true e h = own (sym (same_named (Mark o) p.at e))
  newest o v old own before false e h = before h

  before_call : (o v : ℕ) → (w.known t).reached ≡ false → last_seen (Mark o) (seen_before w.shape (w.known t)) ≡ Some v → knows_in w t o ≡ true
  before_call o v free h = law.saw t o v free (seen_is_part w.shape (w.known t) (Mark o) v h)

  pub missed_marks : (o v : ℕ) → miss.reached ≡ false → last_seen (Mark o) miss.seen ≡ Some v → knows_in w t o ≡ true
  missed_marks o v free h =
      newest o v (seen_before w.shape (w.known t)) (λ at. looks o at free) (before_call o v free) (same_name (Mark o) p.at) refl h

  pub hit_marks : EndsByExchange p.at p.act (w.known t).reached → (o v : ℕ) → hit.reached ≡ false → last_seen (Mark o) hit.seen ≡ Some v
      → knows_in w t o ≡ true
  hit_marks ends o v free h =
      let kept : List StepMade = kept_by_act p.at p.act left k (seen_before w.shape k) in
      newest o v (kept_by_note p.note kept)
      (λ at. looks o at (ap (λ n. reached_after n p.act left k) (sym at) ∙ free))
      (λ g. elim (kept_marks p.at p.act left k (seen_before w.shape k) o v ends free (noted_is_part p.note kept (Mark o) v g)) [
        | inl unfinished ↦ law.unfinished t o unfinished
        | inr a ↦ before_call o v a.0 a.1
      ])
      (same_name (Mark o) p.at) refl h
