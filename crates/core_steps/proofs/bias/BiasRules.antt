-- The laws of core_bias, with those of bias_law and core_made beside them, as rules of the logic.
use Rattle.std.proofs.Common.{◌≡◌, ℕ, ◌<◌, Bool, true, false, List, Option, Some, refl, sym, ◌∙◌, subst, inl, inr}
use Rattle.mark_word.specs.declared.mark.MarkForm.{MarkForm}
use Rattle.mark_word.specs.declared.mark.MarkForm.TheVariants.{Biased}
use Rattle.mark_word.specs.Mark.{read_mark}
use Rattle.lock_policy.specs.declared.policy.Verdict.{Verdict}
use Rattle.core_world.specs.declared.word_id.WordId.{WordId}
use Rattle.core_world.specs.declared.word_id.WordId.TheVariants.{Mark, Prototype}
use Rattle.core_world.specs.declared.plan.LocalEffect.TheVariants as own
use Rattle.core_world.specs.Trees.BiasSteps.{rebias_plan, unbias_plan, stage_after}
use Rattle.core_world.specs.Threads.ThreadView.{ThreadView}
use Rattle.core_world.specs.Words.Forms.{epoch_in, is_biased, is_biased_form}
use Rattle.core_world.specs.Trees.Plans.{CallContext, load_plan}
use Rattle.core_world.specs.World.{World}
use Rattle.plain_monitor.specs.Objects.{PlainObject}
use Rattle.core_world.specs.Trees.RevocationSteps.{revoke_plan}
use Rattle.core_world.specs.There.{IsIn}
use Rattle.core_world.specs.Words.Names.{class_by}
use Rattle.core_world.specs.Threads.Stages.{Revocation, revocation_in}
use Rattle.core_world.specs.Steps.{world_after}
use Rattle.core_world.specs.Valid.{Fits, IsRevoking, IsValid}
use Rattle.core_locks.specs.Knowing.{IsBiasTo}
use Rattle.core_bias.specs.Biasing.{MayRebias, MayUnbias}
use Rattle.core_bias.specs.Revoking.{MayBeginRevoking, MayGoOnRevoking, MayLookAfterRevoking, TellsBias}
use Rattle.core_bias.proofs.Rebiases.{rebias_valid, drop_valid}
use Rattle.core_bias.proofs.Wholes.{all_made, begin_revokes, goes_on_revokes}
use Rattle.core_bias.proofs.LoadEnds.{load_fits}
use Rattle.core_bias.proofs.TakesThere.{load_takes}
use Rattle.core_law.specs.BiasLaw.{BiasLawHolds}
use Rattle.core_law.specs.MadeLaw.{MadeLawHolds}
use Rattle.core_law.specs.WholeLaw.{LawsHold, WhollyValid}
use Rattle.core_made.specs.Steps.{SparesAbsent, is_there_in}
use Rattle.core_made.proofs.Quiets.{quiet_keeps}
use Rattle.core_made.proofs.Revoked.{revoking_keeps}
use Rattle.core_world.specs.Threads.References.{HasReference}
use Rattle.core_steps.proofs.FairSteps.{Begins, begun, makes_same}
use Rattle.core_steps.proofs.FairLooks.{load_ends}
use Rattle.bias_law.specs.Steps.{MayTakeBias, MayDropBias}
use Rattle.bias_law.proofs.bias.BiasTakes.{bias_taken}
use Rattle.bias_law.proofs.bias.BiasDrops.{bias_dropped}
use Rattle.bias_law.proofs.bias.RevocationLooks.{revocation_looked}
use Rattle.core_law.specs.Logic.{Heap, SoundWorldWith, Keeps}
use Rattle.core_steps.proofs.LawRules.{keeps, calm_in_all}
use Rattle.core_law.proofs.Standing.{away, home, inside}
use Rattle.core_law.proofs.Wholes.{requester_is}

-- a bias has the bias pattern
pub bias_biased : (t : ℕ) (m : Option MarkForm) (epoch : Option ℕ) → IsBiasTo t m epoch → is_biased_form m ≡ true
bias_biased t (Some (Biased thread old age)) epoch h = refl
bias_biased t _ epoch h = absurd h

-- what the steps of a revocation tell of the new bias is whether the mark has the bias pattern
took_biased : (t o c : ℕ) (took : Bool) (f : WordId → ℕ) → TellsBias t o c took f → took ≡ is_biased (f (Mark o))
took_biased t o c false f tells = sym tells
took_biased t o c true f tells = sym (bias_biased t (read_mark (f (Mark o))) (epoch_in (f (Prototype c))) tells)

-- every clause holds after the load that ends it, whether the thread gave itself a bias or not
look_fits : (w : World) (P : List PlainObject) (t : ℕ) (e : CallContext) (b : Revocation) (at : WordId) (took : Bool) → t < w.shape.threads
    → MayLookAfterRevoking w.shape (w.known t) e t b → IsValid w P
    → Fits (world_after (load_plan e (stage_after took b.object) at) t w) P
look_fits w P t e b at false within may valid = load_fits w P t e b at may valid
look_fits w P t e b at true within may valid = load_takes w P t e b at b.object within may valid

module _ (heap : Heap) (k : ThreadView) where
  -- EXCHANGES of a mark that is anonymous or stale: for the own bias
  pub rebiases_rule : (e : CallContext) (o mark prototype epoch : ℕ) → HasReference heap.shape k o
      → (SoundWorldWith heap k → MayRebias heap.shape k e o mark epoch × MayTakeBias heap.shape k e o mark prototype epoch)
      → Begins heap.shape k e.unfinished → Keeps heap (rebias_plan e k.thread o mark epoch) k
  rebiases_rule e o mark prototype epoch object may begins =
      keeps heap k (λ s y. MayRebias s y e o mark epoch × MayTakeBias s y e o mark prototype epoch) (λ t y. rebias_plan e t o mark epoch)
      (λ w P t within m valid. rebias_valid e o mark epoch w P t within m.0 valid)
      (λ w P t within m v law. bias_taken w P t e o mark prototype epoch within m.1 v law) (λ t y h. refl) (λ s y a. a.1.runs) (λ v. (object.within, tt)) may
      (λ v. (refl, tt, object.known)) begins

  -- and for a mark without the bias pattern
  pub unbiases_rule : (e : CallContext) (o mark prototype neutral : ℕ) → HasReference heap.shape k o
      → (SoundWorldWith heap k → MayUnbias heap.shape k e o mark neutral × MayDropBias heap.shape k e o mark prototype neutral)
      → Begins heap.shape k e.unfinished → Keeps heap (unbias_plan e o mark neutral) k
  unbiases_rule e o mark prototype neutral object may begins =
      keeps heap k (λ s y. MayUnbias s y e o mark neutral × MayDropBias s y e o mark prototype neutral) (λ t y. unbias_plan e o mark neutral)
      (λ w P t within m valid. drop_valid e o mark neutral w P t within m.0 valid)
      (λ w P t within m v law. bias_dropped w P t e o mark prototype neutral within m.1 v law) (λ t y h. refl) (λ s y a. a.1.runs) (λ v. (object.within, tt))
      may (λ v. (refl, tt, object.known)) begins

  -- A REVOCATION: its first store, with which the laws hold of the world before
  pub begins_revoking_rule : (e : CallContext) (b : Revocation) (class : ℕ) (verdict : Verdict) (reset : Bool) (at : WordId) (word : ℕ)
      → (SoundWorldWith heap k → IsIn heap.shape at) → (SoundWorldWith heap k → MayBeginRevoking heap.shape k e k.thread b class verdict reset at word)
      → Keeps heap (revoke_plan e b (own.CountVerdict class verdict reset) at word) k
  begins_revoking_rule e b class verdict reset at word there may = record {
    there = λ v. (there v, tt);
    exact = λ v. tt;
    by = λ v.
        let a = calm_in_all heap k v (may v).reached (may v).calm in
        home heap k v (λ s y. MayBeginRevoking s y e k.thread b class verdict reset at word
        → WhollyValid (world_after (revoke_plan e b (own.CountVerdict class verdict reset) at word) k.thread v.world))
        (λ m.
        let r = begin_revokes v.world v.objects k.thread e b class verdict reset at word m a.fits in
        record { objects = v.objects; is = inr (r.0, subst LawsHold (sym r.1) (record { biases = a.biases; made = a.made })) }) (may v);
  }

  -- what the thread whose safepoint is reached does in the middle of a revocation, by the world and its own revocation there
  in_middle : (F : (v : SoundWorldWith heap k) → ℕ → Type 0) (b : Revocation)
      → ((v : SoundWorldWith heap k) (s : IsRevoking v.world v.objects) → s.requester ≡ k.thread → LawsHold s.before → F v s.requester)
      → (v : SoundWorldWith heap k) → k.reached ≡ true → revocation_in k.stage ≡ Some b → F v k.thread
  in_middle F b law v reached its = elim v.valid [
    | inl a ↦ let none = a.0.quiet.none_revokes k.thread in let some = away heap k v (λ s y. revocation_in y.stage ≡ Some b) its in absurd (cc (none, some))
    | inr a ↦
        let same = requester_is v.world v.objects a.0 k.thread (away heap k v (λ s y. y.reached ≡ true) reached) in
        subst (F v) same (law v a.0 same a.1)
  ]

  -- each other store, with which they go on holding there
  pub goes_on_revoking_rule : (e : CallContext) (b : Revocation) (at : WordId) (word : ℕ) → (SoundWorldWith heap k → IsIn heap.shape at)
      → (SoundWorldWith heap k → MayGoOnRevoking heap.shape k e k.thread b at word) → Keeps heap (revoke_plan e b own.Unchanged at word) k
  goes_on_revoking_rule e b at word there may = record {
    there = λ v. (there v, tt);
    exact = λ v. tt;
    by = λ v. in_middle (λ v u. WhollyValid (world_after (revoke_plan e b own.Unchanged at word) u v.world)) b
        (λ v s same law.
        let within = subst (λ u. u < v.world.shape.threads) (sym same) (inside heap k v) in
        let mine =
        subst (λ u. MayGoOnRevoking v.world.shape (v.world.known u) e u b at word) (sym same)
        (away heap k v (λ z y. MayGoOnRevoking z y e k.thread b at word) (may v)) in
        let r = goes_on_revokes e b at word v.world v.objects s within mine in
        record { objects = v.objects; is = inr (r.0, subst LawsHold (sym r.1) law) }) v (may v).reached (may v).its_revocation;
  }

  -- and the load after them, of a word that no law reads, which counts as a whole: whether a bias was taken, the object's words tell then
  pub later_looks_rule : (e : CallContext) (b : Revocation) (took : Bool) (at : WordId)
      → ((there : ℕ → Bool) (found : ℕ) → SparesAbsent there at found found) → (SoundWorldWith heap k → IsIn heap.shape at)
      → (SoundWorldWith heap k → MayLookAfterRevoking heap.shape k e k.thread b)
      → ((v : SoundWorldWith heap k) → TellsBias k.thread b.object (class_by heap.shape v.world.words b.object) took v.world.words)
      → Keeps heap (load_plan e (stage_after took b.object) at) k
  later_looks_rule e b took at spares there may tells = record {
    there = λ v. (there v, tt);
    exact = λ v. tt;
    by = λ v. in_middle (λ v u. WhollyValid (world_after (load_plan e (stage_after took b.object) at) u v.world)) b
        (λ v s same law.
        let within = subst (λ u. u < v.world.shape.threads) (sym same) (inside heap k v) in
        let mine = subst (λ u. MayLookAfterRevoking v.world.shape (v.world.known u) e u b)
        (sym same) (away heap k v (λ z y. MayLookAfterRevoking z y e k.thread b) (may v)) in
        let its : s.revocation ≡ b = let both : Some s.revocation ≡ Some b = sym s.its_revocation ∙ mine.ends.its_revocation in cc both in
        let told : TellsBias k.thread s.revocation.object (class_by v.world.shape v.world.words s.revocation.object) took v.world.words =
        subst (λ (c : Revocation). TellsBias k.thread c.object (class_by v.world.shape v.world.words c.object) took v.world.words) (sym its)
        (away heap k v (λ z y. TellsBias k.thread b.object (class_by z v.world.words b.object) took v.world.words) (tells v)) in
        let fits = look_fits v.world v.objects s.requester e b at took within mine (inr s) in
        let counted : BiasLawHolds (world_after (load_plan e (stage_after took s.revocation.object) at) s.requester v.world) =
        revocation_looked v.world v.objects s e took at
        (record {
          over = all_made v.world v.objects e b s mine.ends;
          says = took_biased k.thread s.revocation.object (class_by v.world.shape v.world.words s.revocation.object) took v.world.words told;
          goes_on = mine.ends.goes_on;
        }) law.biases in
        let now : MadeLawHolds v.world = revoking_keeps v.world v.objects s law.made in
        let plan = load_plan e (stage_after took b.object) at in
        let after : MadeLawHolds (world_after plan s.requester v.world) =
        quiet_keeps v.world s.requester plan now (record {
          fair = record {
            spares = spares (is_there_in v.world) (v.world.words at);
            begins = begun v.world now s.requester plan (inl mine.ends.goes_on);
            looks = λ o is free. let reached = mine.ends.reached in absurd (cc (reached, free));
            ends = load_ends at (v.world.known s.requester).reached;
            shots = refl;
            makes = makes_same v.world now s.requester plan tt (inl mine.ends.goes_on);
          };
          log = refl;
        }) in
        record {
          objects = v.objects;
          is = inl (
            fits,
            record {
              biases = subst (λ (c : Revocation). BiasLawHolds (world_after (load_plan e (stage_after took c.object) at) s.requester v.world)) its counted;
              made = after;
            },
          );
        }) v (may v).ends.reached (may v).ends.its_revocation;
  }
