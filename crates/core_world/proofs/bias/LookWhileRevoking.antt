-- A load that logs nothing, and an exchange that misses, keep the world valid while a bias is being revoked too.
use Rattle.std.proofs.Common.{◌≡◌, ◌≢◌, ℕ, ◌<◌, ◌&&◌, ◌||◌, Bool, true, false, cond, List, [], ◌∷◌}
use Rattle.std.proofs.Common.{◌++◌, append-nil, eq-eqb, None, refl, sym, ap, ◌∙◌, subst, inl, inr}
use Rattle.std.proofs.Math.Bool.{or-false}
use Rattle.plain_monitor.specs.Monitor.{is_thread, is_listed}
use Rattle.plain_monitor.specs.Objects.{PlainObject}
use Rattle.core_world.specs.declared.act.Act.TheVariants.{Load}
use Rattle.core_world.specs.declared.word_id.WordId.{WordId}
use Rattle.core_world.specs.declared.word_id.WordId.TheVariants as id
use Rattle.core_world.specs.declared.word_id.WordId.TheVariants.{Safepoint}
use Rattle.core_world.specs.declared.plan.LogEffect.TheVariants.{Quiet}
use Rattle.core_world.specs.declared.plan.LocalEffect.TheVariants.{Unchanged}
use Rattle.core_world.specs.declared.plan.StepPlan.{StepPlan}
use Rattle.lock_policy.specs.Policy.{decided, is_reset}
use Rattle.core_world.specs.Words.Shape.{Shape}
use Rattle.core_world.specs.Words.Names.{class_by}
use Rattle.core_world.specs.Threads.Counts.{with_verdict_counted}
use Rattle.core_world.specs.Words.Acts.{word_after, hits}
use Rattle.core_world.specs.Words.Forms.{is_halted, is_still, monitor_in}
use Rattle.core_world.specs.Locks.{marks, waits_at}
use Rattle.core_world.specs.Threads.ThreadView.{ThreadView}
use Rattle.core_world.specs.World.{World, with_known}
use Rattle.core_world.specs.Looking.{IsLook, IsMiss, MayLook}
use Rattle.core_world.specs.Threads.Stages.{Revocation, revocation_in}
use Rattle.core_world.specs.RevocationRules.{FoundAfter, words_after, writes_in}
use Rattle.core_world.specs.Steps.{known_hit, known_miss, known_after, world_after, seen_at_safepoint_before, reached_after, halted_after}
use Rattle.core_world.specs.Valid.{Fits, IsRevoking, RevokesSince, IsValid, Valid, IsValidWith, ValidWith, requester_known}
use Rattle.core_world.proofs.KnowledgeParts.{by_equal, with_known_here, with_known_else, each_with_known}
use Rattle.core_world.proofs.Naming.{with_knowledge, with_knowledge_alone}
use Rattle.core_world.proofs.NoWordChanges.{Glance, glance_seen, glance_safe, glance_fits, one_requester}
use Rattle.core_world.proofs.ActsLook.{runs_load, asks_load, holds_load, wait_load, published_load, missed_word, missed_write}
use Rattle.core_world.proofs.LookLaws.{look_glance, miss_glance, look_shots, miss_shots}

-- what the requester knows, by the words before its first store and what it knew then
abbrev requester_known_with : Shape → (WordId → ℕ) → Revocation → ThreadView → ThreadView → ThreadView
requester_known_with s f b known k =
    let c = class_by s f b.object in
    record known {
      counts = with_verdict_counted known.counts c (decided (f (id.Revocations c)) (f (id.LastBulk c)) b.now).0
          (is_reset (f (id.Revocations c)) (f (id.LastBulk c)) b.now);
      stage = k.stage;
      seen = k.seen;
      seen_at_safepoint = k.seen_at_safepoint;
      steps = k.steps;
      call = k.call;
    }

-- the steps of a thread change, and nothing else that it knows; the last one found its word as it is
pub record OnlySteps (words : WordId → ℕ) (k l : ThreadView) : Type 0 where
  pub is : l ≡ record k { seen = l.seen; seen_at_safepoint = l.seen_at_safepoint; steps = l.steps; call = l.call }
  pub writes : writes_in l.seen_at_safepoint ≡ writes_in k.seen_at_safepoint
  pub found : (f : WordId → ℕ) → words ≡ words_after (writes_in k.seen_at_safepoint) f → FoundAfter f k.seen_at_safepoint → FoundAfter f l.seen_at_safepoint

-- nobody waits on an object whose mark names no monitor
pub unwaited_fits : (w : World) (P : List PlainObject) → Fits w P → (o : ℕ) → monitor_in (marks w o) ≡ None → waits_at P o ≡ []
unwaited_fits w P v o none = empty (waits_at P o) refl
  where
    empty : (ps : List (ℕ × ℕ)) → waits_at P o ≡ ps → waits_at P o ≡ []
    empty [] e = e
    empty (p ∷ ps) e =
        let listed : is_listed (waits_at P o) p.0 ≡ true = ap (λ qs. is_listed qs p.0) e ∙ ap (λ b. b || is_listed ps p.0) (eq-eqb p.0 p.0 refl) in
        let named = (v.waits.inflated o p.0 (inl listed)).1 in
        absurd (cc (named, none))

-- a clause, and the world before the first store of a revocation under way meets it
abbrev RevokesWith : (World → Type 0) → World → List PlainObject → Type 0
RevokesWith F w P = (s : IsRevoking w P) × F s.before

since_with : (F : World → Type 0) (w : World) (P : List PlainObject) (before : World) → RevokesSince w P before → F before → RevokesWith F w P
since_with F w P before r kept = (r.0, subst F (sym r.1) kept)

-- a step of no word from w, and what it makes of what thread t knows
abbrev known_then : World → ℕ → StepPlan → ThreadView
known_then w t p = known_after w.shape w.start p (w.words p.at) (w.known t)

module _ (w : World) (P : List PlainObject) (s : IsRevoking w P) where
  reached_now : (w.known s.requester).reached ≡ true
  reached_now = ap (λ (k : ThreadView). k.reached) s.knows ∙ s.reached

  -- nobody runs
  nobody : (t : ℕ) → (w.known t).running ≡ true → (o : ℕ) → monitor_in (marks w o) ≡ None → waits_at P o ≡ []
  nobody t r o e = let stopped = (s.safe.safepoint s.requester reached_now).1 t in absurd (cc (stopped, r))

  -- nothing is halted while a request stands
  no_halt : is_halted (w.words Safepoint) ≡ false
  no_halt = cases (is_halted (w.words Safepoint)) refl
    where
      cases : (b : Bool) → is_halted (w.words Safepoint) ≡ b → is_halted (w.words Safepoint) ≡ false
      cases false e = e
      cases true e =
          let none = ap (λ a. is_thread a s.requester) (s.safe.still e).0 in
          let asks = s.safe.requester s.requester ∙ (s.safe.safepoint s.requester reached_now).0 in
          absurd (cc (none, asks))

  -- a step of the requester on no word leaves the world before the first store
  mine : (l : ThreadView) (p : StepPlan) → Glance w P (w.known s.requester) l p
      → OnlySteps w.words (w.known s.requester) l → RevokesSince (with_knowledge s.requester l w) P s.before
  mine l p g only =
      let here = with_known_here s.requester l w.known in (
        record {
          before = s.before;
          fits = s.fits;
          shape = s.shape;
          start = s.start;
          biasing = s.biasing;
          requester = s.requester;
          reached = s.reached;
          was_calm = s.was_calm;
          revocation = s.revocation;
          its_revocation = ap (λ k. revocation_in k.stage) here ∙ ap revocation_in (sym g.same.stage) ∙ s.its_revocation;
          operation = s.operation;
          unfinished = s.unfinished;
          allowed = s.allowed;
          object = s.object;
          biased = s.biased;
          rest = s.rest;
          writes = ap (λ (k : ThreadView). writes_in k.seen_at_safepoint ++ s.rest) here ∙ ap (λ z. z ++ s.rest) only.writes ∙ s.writes;
          begun = λ e. s.begun (sym only.writes ∙ ap (λ (k : ThreadView). writes_in k.seen_at_safepoint) (sym here) ∙ e);
          words = s.words ∙ ap (λ z. words_after z s.before.words) (sym only.writes ∙ ap (λ (k : ThreadView). writes_in k.seen_at_safepoint) (sym here));
          found = subst (λ (k : ThreadView). FoundAfter s.before.words k.seen_at_safepoint) (sym here) (only.found s.before.words s.words s.found);
          untouched = s.untouched;
          knows =
              let known = requester_known s.before s.requester s.revocation in
              let was : record (w.known s.requester) { seen = l.seen; seen_at_safepoint = l.seen_at_safepoint; steps = l.steps; call = l.call }
              ≡ record (known (w.known s.requester)) { seen = l.seen; seen_at_safepoint = l.seen_at_safepoint; steps = l.steps; call = l.call } =
              ap (λ (k : ThreadView). record k { seen = l.seen; seen_at_safepoint = l.seen_at_safepoint; steps = l.steps; call = l.call }) s.knows in
              let stage : record (known (w.known s.requester)) {
                seen = l.seen;
                seen_at_safepoint = l.seen_at_safepoint;
                steps = l.steps;
                call = l.call;
              } ≡ known l =
              ap (λ z. record (known (w.known s.requester)) {
                stage = z;
                seen = l.seen;
                seen_at_safepoint = l.seen_at_safepoint;
                steps = l.steps;
                call = l.call;
              }) g.same.stage in
              here ∙ only.is ∙ was ∙ stage ∙ ap known (sym here);
          others = λ u d. with_known_else s.requester l w.known u d ∙ s.others u d;
          seen = glance_seen w P s.requester l p g s.seen;
          forms = s.forms;
          safe = glance_safe w P s.requester l p g s.safe;
        },
        refl,
      )

  -- a step of another thread, which looks at the safepoint word, is one from that world too
  others : (t : ℕ) (l : ThreadView) (p : StepPlan) → t ≢ s.requester → t < s.before.shape.threads
      → (w.known t).shots ≡ l.shots → Glance w P (w.known t) l p → Glance s.before P (s.before.known t) l p
      → RevokesSince (with_knowledge t l w) P (with_knowledge t l s.before)
  others t l p d within same g before =
      let kept = with_known_else t l w.known s.requester (λ e. d (sym e)) in
      let kept_before = with_known_else t l s.before.known s.requester (λ e. d (sym e)) in (
        record {
          before = with_knowledge t l s.before;
          fits = glance_fits s.before P t l p before within (ap (λ (k : ThreadView). k.shots) (sym (s.others t d)) ∙ same) s.fits;
          shape = s.shape;
          start = s.start;
          biasing = s.biasing;
          requester = s.requester;
          reached = ap (λ (k : ThreadView). k.reached) kept_before ∙ s.reached;
          was_calm = ap (λ (k : ThreadView). k.stage) kept_before ∙ s.was_calm;
          revocation = s.revocation;
          its_revocation = ap (λ (k : ThreadView). revocation_in k.stage) kept ∙ s.its_revocation;
          operation = s.operation;
          unfinished = ap (λ (k : ThreadView). k.unfinished) kept_before ∙ s.unfinished;
          allowed = s.allowed;
          object = s.object;
          biased = s.biased;
          rest = s.rest;
          writes = ap (λ (k : ThreadView). writes_in k.seen_at_safepoint ++ s.rest) kept ∙ s.writes;
          begun = λ e. s.begun (ap (λ (k : ThreadView). writes_in k.seen_at_safepoint) (sym kept) ∙ e);
          words = s.words ∙ ap (λ (k : ThreadView). words_after (writes_in k.seen_at_safepoint) s.before.words) (sym kept);
          found = subst (λ (k : ThreadView). FoundAfter s.before.words k.seen_at_safepoint) (sym kept) s.found;
          untouched = s.untouched;
          knows = kept ∙ s.knows
              ∙ ap (λ (k : ThreadView). requester_known_with s.before.shape s.before.words s.revocation k (w.known s.requester)) (sym kept_before)
              ∙ ap (λ (k : ThreadView). requester_known (with_knowledge t l s.before) s.requester s.revocation k) (sym kept);
          others = λ u e. each_with_known (λ u y. y ≡ with_known t l s.before.known u) t l w.known u
              (sym (with_known_here t l s.before.known)) (λ c. s.others u e ∙ sym (with_known_else t l s.before.known u c));
          seen = glance_seen w P t l p g s.seen;
          forms = s.forms;
          safe = glance_safe w P t l p g s.safe;
        },
        refl,
      )

  -- what the requester has unfinished
  unfinished_now : (w.known s.requester).unfinished ≡ None → ⊥
  unfinished_now e = let some = ap (λ (k : ThreadView). k.unfinished) s.knows ∙ s.unfinished in absurd (cc (e, some))

  -- no halt is learnt
  halted_same : (at : WordId) (k : ThreadView) → halted_after at (w.words at) k ≡ k.halted
  halted_same id.Safepoint k = ap (λ b. k.halted || b) no_halt ∙ or-false k.halted
  halted_same _ k = refl

  -- a load changes only the steps of the requester at its safepoint
  look_only : (p : StepPlan) → IsLook (w.known s.requester) p
      → OnlySteps w.words (w.known s.requester) (known_after w.shape w.start p (w.words p.at) (w.known s.requester))
  look_only p look =
      let q : StepPlan = record p { act = Load; note = Quiet; own = Unchanged } in
      let same : q ≡ p = λ i. record p { act = sym look.act i; note = sym look.note i; own = sym look.own i } in
      subst (λ z. OnlySteps w.words (w.known s.requester) (known_after w.shape w.start z (w.words z.at) (w.known s.requester))) same
      (record {
        is = only;
        writes = append-nil _ ∙ ap writes_in (stood p.at);
        found = λ f e g. subst (λ ms. FoundAfter f (record { plan = q; found = w.words p.at } ∷ ms)) (sym (stood p.at)) (ap (λ (z : WordId → ℕ). z p.at) e, g);
      })
    where
      unfinished : p.after ≡ (w.known s.requester).unfinished
      unfinished = elim look.after [ inl e ↦ e | inr e ↦ absurd (unfinished_now e) ]

      reached : (at : WordId) (n : ℕ) → reached_after at Load n (w.known s.requester) ≡ (w.known s.requester).reached
      reached id.Safepoint n = ap (λ b. b || ((w.known s.requester).requesting && is_still n)) reached_now ∙ sym reached_now
      reached _ n = refl

      stood : (at : WordId) → seen_at_safepoint_before at Load (w.known s.requester) ≡ (w.known s.requester).seen_at_safepoint
      stood id.Safepoint = ap (λ b. cond b (w.known s.requester).seen_at_safepoint []) reached_now
      stood _ = refl

      only : let l = known_after w.shape w.start (record p { act = Load; note = Quiet; own = Unchanged }) (w.words p.at) (w.known s.requester) in
          l ≡ record (w.known s.requester) { seen = l.seen; seen_at_safepoint = l.seen_at_safepoint; steps = l.steps; call = l.call }
      only =
          let l = known_after w.shape w.start (record p { act = Load; note = Quiet; own = Unchanged }) (w.words p.at) (w.known s.requester) in
          λ i. record l {
            running = runs_load p.at (w.words p.at) (w.known s.requester) i;
            requesting = asks_load p.at (w.words p.at) (w.known s.requester) i;
            reached = reached p.at (w.words p.at) i;
            halted = halted_same p.at (w.known s.requester) i;
            holds = holds_load p.at (w.known s.requester) i;
            wait = wait_load p.at (w.known s.requester) i;
            published = published_load p.at (w.known s.requester) i;
            stage = look.stage i;
            unfinished = unfinished i;
            checking = look.check i;
          }

  -- so does an exchange that misses
  miss_only : (p : StepPlan) → IsMiss (w.known s.requester) p (w.words p.at)
      → OnlySteps w.words (w.known s.requester) (known_after w.shape w.start p (w.words p.at) (w.known s.requester))
  miss_only p miss =
      let hit = known_hit w.shape w.start p (w.words p.at) (w.known s.requester) in
      let missed : known_miss w.shape w.start p (w.words p.at) (w.known s.requester) ≡ known_after w.shape w.start p (w.words p.at) (w.known s.requester) =
      ap (λ (b : Bool). cond b hit (known_miss w.shape w.start p (w.words p.at) (w.known s.requester))) (sym miss.missed) in
      subst (OnlySteps w.words (w.known s.requester)) missed
      (record {
        is = only;
        writes = ap (λ z. writes_in (w.known s.requester).seen_at_safepoint ++ z) (missed_write p.at p.act (w.words p.at) miss.missed) ∙ append-nil _;
        found = λ f e g. (ap (λ (z : WordId → ℕ). z p.at) e, g);
      })
    where
      only : let l = known_miss w.shape w.start p (w.words p.at) (w.known s.requester) in
          l ≡ record (w.known s.requester) { seen = l.seen; seen_at_safepoint = l.seen_at_safepoint; steps = l.steps; call = l.call }
      only = let l = known_miss w.shape w.start p (w.words p.at) (w.known s.requester) in λ i. record l { halted = halted_same p.at (w.known s.requester) i }

  -- a thread other than the requester looks at the safepoint word alone
  elsewhere : (t : ℕ) (at : WordId) → t ≢ s.requester → MayLook (w.known t) at → at ≡ Safepoint
  elsewhere t at d may = may.outside ((s.safe.safepoint s.requester reached_now).1 t) (cases (w.known t).reached refl)
    where
      cases : (b : Bool) → (w.known t).reached ≡ b → (w.known t).reached ≡ false
      cases true e = absurd (d (one_requester w P s.safe t s.requester (s.safe.safepoint t e).0 (s.safe.safepoint s.requester reached_now).0))
      cases false e = e

  -- what it knows after its step is the same from the world before the first store
  same_before : (t : ℕ) (p : StepPlan) → t ≢ s.requester → p.at ≡ Safepoint
      → known_after s.before.shape s.before.start p (s.before.words p.at) (s.before.known t) ≡ known_after w.shape w.start p (w.words p.at) (w.known t)
  same_before t p d e =
      let word : s.before.words p.at ≡ w.words p.at = ap s.before.words e ∙ sym s.untouched ∙ ap w.words (sym e) in
      λ i. known_after (sym s.shape i) (sym s.start i) p (word i) (sym (s.others t d) i)

  -- the clause that stays by a look stays of the world before the first store
  revoking_look : (F : World → Type 0) (t : ℕ) (p : StepPlan) → t < w.shape.threads → IsLook (w.known t) p
      → ((v : World) → IsLook (v.known t) p → F v → F (with_knowledge t (known_then v t p) v))
      → F s.before → RevokesWith F (with_knowledge t (known_then w t p) w) P
  revoking_look F t p within look stays kept =
      by_equal t s.requester
      (λ e. subst (λ z. IsLook (w.known z) p → RevokesWith F (with_knowledge z (known_then w z p) w) P) (sym e)
      (λ h. since_with F _ P s.before
      (mine (known_then w s.requester p) p (look_glance w P s.requester s.seen s.safe (nobody s.requester) p h) (look_only p h)) kept) look)
      (λ d.
      let l = known_then w t p in
      let at = elsewhere t p.at d look.may in
      let look_before = subst (λ k. IsLook k p) (s.others t d) look in
      let before : Glance s.before P (s.before.known t) l p =
      subst (λ z. Glance s.before P (s.before.known t) z p) (same_before t p d at)
      (look_glance s.before P t s.fits.seen s.fits.safe (λ r. unwaited_fits s.before P s.fits) p look_before) in
      since_with F _ P (with_knowledge t l s.before)
      (others t l p d (subst (λ (z : Shape). t < z.threads) s.shape within)
      (look_shots w.shape w.start p (w.words p.at) (w.known t) look) (look_glance w P t s.seen s.safe (nobody t) p look) before)
      (subst (λ z. F (with_knowledge t z s.before)) (same_before t p d at) (stays s.before look_before kept)))

  revoking_miss : (F : World → Type 0) (t : ℕ) (p : StepPlan) → t < w.shape.threads → IsMiss (w.known t) p (w.words p.at)
      → ((v : World) → hits p.act (v.words p.at) ≡ false → F v → F (with_knowledge t (known_then v t p) v))
      → F s.before → RevokesWith F (with_knowledge t (known_then w t p) w) P
  revoking_miss F t p within miss stays kept =
      by_equal t s.requester
      (λ e. subst (λ z. IsMiss (w.known z) p (w.words p.at) → RevokesWith F (with_knowledge z (known_then w z p) w) P) (sym e)
      (λ h. since_with F _ P s.before
      (mine (known_then w s.requester p) p (miss_glance w P s.requester s.seen s.safe (nobody s.requester) p h) (miss_only p h)) kept) miss)
      (λ d.
      let l = known_then w t p in
      let at = elsewhere t p.at d miss.may in
      let word : w.words p.at ≡ s.before.words p.at = ap w.words at ∙ s.untouched ∙ ap s.before.words (sym at) in
      let miss_before : IsMiss (s.before.known t) p (s.before.words p.at) =
      record { missed = ap (hits p.act) (sym word) ∙ miss.missed; may = subst (λ k. MayLook k p.at) (s.others t d) miss.may } in
      let before : Glance s.before P (s.before.known t) l p =
      subst (λ z. Glance s.before P (s.before.known t) z p) (same_before t p d at)
      (miss_glance s.before P t s.fits.seen s.fits.safe (λ r. unwaited_fits s.before P s.fits) p miss_before) in
      since_with F _ P (with_knowledge t l s.before)
      (others t l p d (subst (λ (z : Shape). t < z.threads) s.shape within)
      (miss_shots w.shape w.start p (w.words p.at) (w.known t) miss) (miss_glance w P t s.seen s.safe (nobody t) p miss) before)
      (subst (λ z. F (with_knowledge t z s.before)) (same_before t p d at) (stays s.before miss_before.missed kept)))

-- validity with one more clause is validity
pub forgotten : (F : World → Type 0) (w : World) (P : List PlainObject) → IsValidWith F w P → IsValid w P
forgotten F w P valid = elim valid [ inl a ↦ inl a.0 | inr a ↦ inr a.0 ]

pub without_clause : (F : World → Type 0) (w : World) → ValidWith F w → Valid w
without_clause F w v = record { objects = v.objects; is = forgotten F w v.objects v.is }

module _ (F : World → Type 0) (w : World) (P : List PlainObject) (t : ℕ) (p : StepPlan) (within : t < w.shape.threads) where
  -- a load that logs nothing keeps the world valid, with the same plain objects, and with each clause that stays by such a load
  pub look_valid_with : IsLook (w.known t) p → ((v : World) → IsLook (v.known t) p → F v → F (world_after p t v))
      → IsValidWith F w P → IsValidWith F (world_after p t w) P
  look_valid_with look stays valid =
      let alone : (v : World) → IsLook (v.known t) p → world_after p t v ≡ with_knowledge t (known_then v t p) v =
      λ v a. with_knowledge_alone p.at (word_after p.act (v.words p.at)) t (known_then v t p) v (ap (λ b. word_after b (v.words p.at)) a.act) in
      let moved : (v : World) → IsLook (v.known t) p → F v → F (with_knowledge t (known_then v t p) v) = λ v a f. subst F (alone v a) (stays v a f) in
      subst (λ x. IsValidWith F x P) (sym (alone w look)) (elim valid [
        | inl v ↦ inl (
          glance_fits w P t (known_then w t p) p (look_glance w P t v.0.seen v.0.safe (λ r. unwaited_fits w P v.0) p look) within
              (look_shots w.shape w.start p (w.words p.at) (w.known t) look) v.0,
          moved w look v.1,
        )
        | inr s ↦ inr (revoking_look w P s.0 F t p within look moved s.1)
      ])

  -- so does an exchange that misses
  pub miss_valid_with : IsMiss (w.known t) p (w.words p.at)
      → ((v : World) → hits p.act (v.words p.at) ≡ false → F v → F (world_after p t v)) → IsValidWith F w P
      → IsValidWith F (world_after p t w) P
  miss_valid_with miss stays valid =
      let alone : (v : World) → hits p.act (v.words p.at) ≡ false → world_after p t v ≡ with_knowledge t (known_then v t p) v =
      λ v a. with_knowledge_alone p.at (word_after p.act (v.words p.at)) t (known_then v t p) v (missed_word p.act (v.words p.at) a) in
      let moved : (v : World) → hits p.act (v.words p.at) ≡ false → F v
      → F (with_knowledge t (known_then v t p) v) = λ v a f. subst F (alone v a) (stays v a f) in
      subst (λ x. IsValidWith F x P) (sym (alone w miss.missed)) (elim valid [
        | inl v ↦ inl (
          glance_fits w P t (known_then w t p) p (miss_glance w P t v.0.seen v.0.safe (λ r. unwaited_fits w P v.0) p miss) within
              (miss_shots w.shape w.start p (w.words p.at) (w.known t) miss) v.0,
          moved w miss.missed v.1,
        )
        | inr s ↦ inr (revoking_miss w P s.0 F t p within miss moved s.1)
      ])

-- with no clause more
module _ (w : World) (P : List PlainObject) (t : ℕ) (p : StepPlan) (within : t < w.shape.threads) where
  abbrev no_more : World → Type 0
  no_more v = Unit {0}

  and_no_more : IsValid w P → IsValidWith no_more w P
  and_no_more valid = elim valid [ inl v ↦ inl (v, tt) | inr s ↦ inr (s, tt) ]

  pub look_valid : IsLook (w.known t) p → IsValid w P → IsValid (world_after p t w) P
  look_valid look valid = forgotten no_more (world_after p t w) P (look_valid_with no_more w P t p within look (λ v a f. tt) (and_no_more valid))

  pub miss_valid : IsMiss (w.known t) p (w.words p.at) → IsValid w P → IsValid (world_after p t w) P
  miss_valid miss valid = forgotten no_more (world_after p t w) P (miss_valid_with no_more w P t p within miss (λ v a f. tt) (and_no_more valid))
