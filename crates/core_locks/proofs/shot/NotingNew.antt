-- A step that changes no word, and of what its thread knows only what the thread has seen, what it has unfinished and where its safepoint
-- stands, keeps every clause that doesn't read these.
use Rattle.core_locks.proofs.Prelude.{◌≡◌, true, Returns, each_with_known, ℕ, ◌<◌, cond, List, refl, sym, inl, inr, PlainObject, ThreadView, World}
use Rattle.core_locks.proofs.Prelude.{Fits, SeenFit, SafepointFits, SameBut, with_knowledge, ShotsFit, with_known, logs, IsQuiet, false}
use Rattle.core_locks.proofs.Clauses.{kept_parts, parts_stand, seen, safe, absent, waits, stamps, quiet, moves, shots, AllHold, clauses}
use Rattle.core_locks.proofs.Steps.{Fields, quietly, next, IsStep, step_fits, holds_next, seen_next, absent_next, waits_go_on, stamps_go_on, GoesOnTo}

-- what a look may change
abbrev looking : Fields
looking b l k = record (quietly b l k) { reached = (cond b l k).reached; halted = (cond b l k).halted; shots = (cond b l k).shots }

module _ (w : World) (P : List PlainObject) (t : ℕ) (l : ThreadView) (within : t < w.shape.threads) (b : SameBut (w.known t) l) where
  step : IsStep w t l looking
  step = record {
    within = within;
    mine = λ i. record l {
      thread = sym b.thread i;
      log = sym b.log i;
      running = sym b.running i;
      requesting = sym b.requesting i;
      kept = sym b.kept i;
      moving = sym b.moving i;
      saved = sym b.saved i;
      holds = sym b.holds i;
      wait = sym b.wait i;
      published = sym b.published i;
      stage = sym b.stage i;
      counts = sym b.counts i;
      draws = sym b.draws i;
    };
    others = λ k. refl;
  }

  goes_on : GoesOnTo (w.known t) l
  goes_on = elim b.unfinished [ inl e ↦ inl (sym e) | inr e ↦ inr e ]

  abbrev x : World
  x = next w t l looking w.words

  -- with shots that fit afterwards
  pub with_new_knowledge_fits : ((w.known t).reached ≡ true → l.reached ≡ true) → SeenFit (with_knowledge t l w) P → SafepointFits (with_knowledge t l w) P
      → ShotsFit w.shape.objects (logs w) (λ u. (w.known u).log) (λ u. (with_known t l w.known u).shots)
      (λ u. (with_known t l w.known u).unfinished) → Fits w P → Fits (with_knowledge t l w) P
  with_new_knowledge_fits still saw stands kept v =
      step_fits step w.words P (kept_parts w x P) (parts_stand w x P refl (λ u. refl) (λ u. refl) refl refl refl (λ e. refl)) all_after
    where
      all_after : AllHold (kept_parts w x P)
      all_after seen = seen_next step w.words P saw
      all_after absent = absent_next step P v
      all_after safe = holds_next step (λ y. SafepointFits y P) w.words stands
      all_after waits = waits_go_on step P goes_on v
      all_after stamps = stamps_go_on step P goes_on v
      all_after quiet = record {
        quiet = λ u. each_with_known (λ u y. (w.known u).running ≡ false → IsQuiet y.reached (w.known u).stage) t l w.known u
            (λ r. elim (v.quiet.quiet t r) [ inl a ↦ inl a | inr a ↦ inr (still a.0, a.1) ]) (λ d. v.quiet.quiet u);
        none_revokes = v.quiet.none_revokes;
      }
      all_after moves = record {
        runs = v.moves.runs;
        reaches = λ u m. each_with_known (λ u y. (w.known u).moving ≡ Returns m → y.reached ≡ true) t l w.known u
            (λ e. still (v.moves.reaches t m e)) (λ d. v.moves.reaches u m);
      }
      all_after shots = kept
      all_after c = clauses w P v c
