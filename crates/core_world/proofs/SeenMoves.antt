-- What the threads have seen stays when one of them, which runs, makes a step.
use Rattle.std.proofs.Common.{◌≡◌, ◌≢◌, ◌⊎◌, ℕ, Bool, true, false, cond, List, [], ◌∷◌, Some, None, sym, ap, ◌∙◌, refl, subst, inl, inr}
use Rattle.std.proofs.lemmas.Option.{same_Some}
use Rattle.core_world.specs.declared.word_id.WordId.{WordId}
use Rattle.core_world.specs.declared.word_id.WordId.TheVariants.{Mark, Waiting}
use Rattle.core_world.specs.declared.plan.StepPlan.{StepPlan}
use Rattle.core_world.specs.Words.Acts.{word_after}
use Rattle.core_world.specs.Words.Names.{has_class, same_name, its_monitor, with_word}
use Rattle.core_world.specs.Words.Forms.{is_biased, monitor_in, waits_on}
use Rattle.core_world.specs.Threads.ThreadView.{ThreadView, StepMade, last_seen}
use Rattle.core_world.specs.World.{World, with_word_and_known, with_known}
use Rattle.core_world.specs.Locks.{marks}
use Rattle.core_world.specs.Clauses.SeenWords.{SeenStays, Stays, HasMet, IsKeptOrNamed}
use Rattle.core_world.specs.Looking.{IsOfMonitor}
use Rattle.core_world.proofs.KnowledgeParts.{each_with_known}
use Rattle.core_world.proofs.Naming.{same_named}
use Rattle.core_world.proofs.SeenBack.{Back, stays_back}

-- these steps are some of those, for what was seen last
abbrev pub IsPart : List StepMade → List StepMade → Type 0
IsPart old seen = (n : WordId) (s : ℕ) → last_seen n old ≡ Some s → last_seen n seen ≡ Some s

-- the other threads: what they may count on afterwards they could count on before, and the word that changes is none of that
pub record Spares (at : WordId) (v t : ℕ) (l : ThreadView) (w : World) (owner next : ℕ → ℕ → Bool) (waiters next_waiters : ℕ → List (ℕ × ℕ)) : Type 0 where
  pub before : (u : ℕ) (n : WordId) (s : ℕ) → u ≢ t → last_seen n (w.known u).seen ≡ Some s
      → Stays (with_word_and_known at v t l w) (w.known u) next u n s → Stays w (w.known u) owner u n s
  pub owned : (u o : ℕ) → u ≢ t → next o u ≡ true → owner o u ≡ true
  pub word : (u s : ℕ) → u ≢ t → Stays w (w.known u) owner u at s → w.words at ≡ s → v ≡ s
  -- asked only of marks that a thread has seen: another may come to have the bias pattern
  pub bias : (u o s : ℕ) → last_seen (Mark o) (w.known u).seen ≡ Some s
      → ((w.known u).running ≡ true) ⊎ ((w.known u).requesting ≡ true) → is_biased (marks w o) ≡ false
      → is_biased (marks (with_word_and_known at v t l w) o) ≡ false
  -- what is there stays there, and a mark that has the bias pattern afterwards is of what was there before
  pub there : (o : ℕ) → has_class w.shape w.words o ≡ true → has_class w.shape (with_word at v w.words) o ≡ true
  pub classed : (o : ℕ) → is_biased (marks (with_word_and_known at v t l w) o) ≡ true → has_class w.shape w.words o ≡ true
  pub waits : (u x o : ℕ) → u ≢ t → owner o u ≡ true → waits_on (w.words (Waiting x)) o ≡ false → waits_on (with_word at v w.words (Waiting x)) o ≡ false
  pub unwaited : (u o : ℕ) → u ≢ t → owner o u ≡ true → waiters o ≡ [] → next_waiters o ≡ []
  -- no safepoint is reached, since the thread runs
  pub unreached : (u : ℕ) → (with_known t l w.known u).reached ≡ true → ⊥
  pub names : (o m : ℕ) → monitor_in (marks w o) ≡ Some m → monitor_in (marks (with_word_and_known at v t l w) o) ≡ Some m

-- the thread itself: what it saw of other words before, of which it goes on to count on `old`
pub record Counts (at : WordId) (v t : ℕ) (l : ThreadView) (w : World) (next : ℕ → ℕ → Bool)
    (next_waiters : ℕ → List (ℕ × ℕ)) (old : List StepMade) : Type 0 where
  pub others : (n : WordId) (s : ℕ) → last_seen n old ≡ Some s → same_name n at ≡ false → Stays (with_word_and_known at v t l w) l next t n s → w.words n ≡ s
  pub unbiased : (o s : ℕ) → last_seen (Mark o) old ≡ Some s → is_biased s ≡ false
      → (l.running ≡ true) ⊎ (l.requesting ≡ true) → is_biased (marks (with_word_and_known at v t l w) o) ≡ false
  pub classed : (o s : ℕ) → last_seen (Mark o) old ≡ Some s → is_biased s ≡ true
      → (l.running ≡ true) ⊎ (l.requesting ≡ true) → has_class w.shape w.words o ≡ true
  pub unwaiting : (u o s : ℕ) → last_seen (Waiting u) old ≡ Some s → next o t ≡ true → waits_on s o ≡ false → l.running ≡ true
      → waits_on (with_word at v w.words (Waiting u)) o ≡ false
  pub unwaited : (o s : ℕ) → last_seen (Mark o) old ≡ Some s → l.running ≡ true → next o t ≡ true → monitor_in s ≡ None → next_waiters o ≡ []
  pub idle : (o : ℕ) → same_name (Mark o) at ≡ true → l.running ≡ true → next o t ≡ true → monitor_in v ≡ None → next_waiters o ≡ []
  pub monitors : (m s : ℕ) → l.running ≡ true → HasMet old m s → IsKeptOrNamed (with_word_and_known at v t l w) l m
  pub fresh : (m : ℕ) → l.running ≡ true → IsOfMonitor m at → IsKeptOrNamed (with_word_and_known at v t l w) l m

module _ (p : StepPlan) (found t : ℕ) (l : ThreadView) (w : World) (owner next : ℕ → ℕ → Bool)
    (waiters next_waiters : ℕ → List (ℕ × ℕ)) (old : List StepMade) (seen : l.seen ≡ record { plan = p; found = found } ∷ old) where
  abbrev v : ℕ
  v = word_after p.act found

  abbrev x : World
  x = with_word_and_known p.at (word_after p.act found) t l w

  pub seen_moves : Counts p.at v t l w next next_waiters old → Spares p.at v t l w owner next waiters next_waiters
      → SeenStays w owner waiters → SeenStays x next next_waiters
  seen_moves mine spares h =
      record {
        stays = λ u n s. each_with_known (λ u y. last_seen n y.seen ≡ Some s → Stays x y next u n s → with_word p.at v w.words n ≡ s) t l w.known u
            (λ e g. own n s (same_name n p.at) refl (ap (last_seen n) (sym seen) ∙ e) g)
            (λ d e g. other u n s d (same_name n p.at) refl e g);
        unbiased = λ u o s. each_with_known (λ u y. last_seen (Mark o) y.seen ≡ Some s
            → (y.running ≡ true) ⊎ (y.requesting ≡ true) → is_biased s ≡ false → is_biased (marks x o) ≡ false) t l w.known u
            (λ e r g. mark o s (same_name (Mark o) p.at) refl (ap (last_seen (Mark o)) (sym seen) ∙ e) r g)
            (λ d e r g. spares.bias u o s e r (h.unbiased u o s e r g));
        classed = λ o e. spares.there o (spares.classed o e);
        saw_classed = λ u o s. each_with_known (λ u y. last_seen (Mark o) y.seen ≡ Some s
            → (y.running ≡ true) ⊎ (y.requesting ≡ true) → is_biased s ≡ true → has_class w.shape x.words o ≡ true) t l w.known u
            (λ e r g. there o s (same_name (Mark o) p.at) refl (ap (last_seen (Mark o)) (sym seen) ∙ e) r g)
            (λ d e r g. spares.there o (h.saw_classed u o s e r g));
        unwaiting = λ u y o s. each_with_known (λ u k. last_seen (Waiting y) k.seen ≡ Some s → k.running ≡ true
            → next o u ≡ true → waits_on s o ≡ false → waits_on (with_word p.at v w.words (Waiting y)) o ≡ false) t l w.known u
            (λ e r a g. wait y o s (same_name (Waiting y) p.at) refl (ap (last_seen (Waiting y)) (sym seen) ∙ e) r a g)
            (λ d e r a g. spares.waits u y o d (spares.owned u o d a) (h.unwaiting u y o s e r (spares.owned u o d a) g));
        unwaited = λ u o s. each_with_known (λ u y. last_seen (Mark o) y.seen ≡ Some s
            → y.running ≡ true → next o u ≡ true → monitor_in s ≡ None → next_waiters o ≡ []) t l w.known u
            (λ e r a g. alone o s (same_name (Mark o) p.at) refl (ap (last_seen (Mark o)) (sym seen) ∙ e) r a g)
            (λ d e r a g. spares.unwaited u o d (spares.owned u o d a) (h.unwaited u o s e r (spares.owned u o d a) g));
        stands = λ u n s r. absurd (spares.unreached u r);
        alone = λ u r. absurd (spares.unreached u r);
        monitors = λ u m s. each_with_known (λ u y. y.running ≡ true → HasMet y.seen m s → IsKeptOrNamed x y m) t l w.known u
            (λ r e. met m s r e.0 e.1 (same_name e.0 p.at) refl (ap (last_seen e.0) (sym seen) ∙ e.2))
            (λ d r e. forth (w.known u) m (h.monitors u m s r e));
      }
    where
      forth : (k : ThreadView) (m : ℕ) → IsKeptOrNamed w k m → IsKeptOrNamed x k m
      forth k m (inl a) = inl a
      forth k m (inr a) = inr (a.0, spares.names a.0 m a.1)

      met : (m s : ℕ) → l.running ≡ true → (n : WordId) → its_monitor n ≡ Some m → (b : Bool)
          → same_name n p.at ≡ b → cond (same_name n p.at) (Some v) (last_seen n old) ≡ Some s → IsKeptOrNamed x l m
      met m s r n is true e a = mine.fresh m r (ap its_monitor (sym (same_named n p.at e)) ∙ is)
      met m s r n is false e a = mine.monitors m s r (n, is, ap (λ c. cond c (Some v) (last_seen n old)) (sym e) ∙ a)

      own : (n : WordId) (s : ℕ) (b : Bool) → same_name n p.at ≡ b
          → cond (same_name n p.at) (Some v) (last_seen n old) ≡ Some s → Stays x l next t n s → with_word p.at v w.words n ≡ s
      own n s true e h g = ap (λ c. cond c v (w.words n)) e ∙ same_Some _ _ (ap (λ c. cond c (Some v) (last_seen n old)) (sym e) ∙ h)
      own n s false e h g = ap (λ c. cond c v (w.words n)) e ∙ mine.others n s (ap (λ c. cond c (Some v) (last_seen n old)) (sym e) ∙ h) e g

      other : (u : ℕ) (n : WordId) (s : ℕ) → u ≢ t → (b : Bool) → same_name n p.at ≡ b
          → last_seen n (w.known u).seen ≡ Some s → Stays x (w.known u) next u n s → with_word p.at v w.words n ≡ s
      other u n s d true e a g =
          let same = same_named n p.at e in
          let st = spares.before u n s d a g in
          let was = h.stays u n s a st in
          ap (λ c. cond c v (w.words n)) e ∙ spares.word u s d (subst (λ m. Stays w (w.known u) owner u m s) same st) (ap w.words (sym same) ∙ was)
      other u n s d false e a g = ap (λ c. cond c v (w.words n)) e ∙ h.stays u n s a (spares.before u n s d a g)

      mark : (o s : ℕ) (b : Bool) → same_name (Mark o) p.at ≡ b → cond (same_name (Mark o) p.at) (Some v) (last_seen (Mark o) old) ≡ Some s
          → (l.running ≡ true) ⊎ (l.requesting ≡ true) → is_biased s ≡ false → is_biased (marks x o) ≡ false
      mark o s true e a r g =
          ap is_biased (ap (λ c. cond c v (w.words (Mark o))) e ∙ same_Some _ _ (ap (λ c. cond c (Some v) (last_seen (Mark o) old)) (sym e) ∙ a)) ∙ g
      mark o s false e a r g = mine.unbiased o s (ap (λ c. cond c (Some v) (last_seen (Mark o) old)) (sym e) ∙ a) g r

      there : (o s : ℕ) (b : Bool) → same_name (Mark o) p.at ≡ b → cond (same_name (Mark o) p.at) (Some v) (last_seen (Mark o) old) ≡ Some s
          → (l.running ≡ true) ⊎ (l.requesting ≡ true) → is_biased s ≡ true → has_class w.shape x.words o ≡ true
      there o s true e a r g =
          let is = ap is_biased (ap (λ c. cond c v (w.words (Mark o))) e
          ∙ same_Some _ _ (ap (λ c. cond c (Some v) (last_seen (Mark o) old)) (sym e) ∙ a)) ∙ g in
          spares.there o (spares.classed o is)
      there o s false e a r g = spares.there o (mine.classed o s (ap (λ c. cond c (Some v) (last_seen (Mark o) old)) (sym e) ∙ a) g r)

      alone : (o s : ℕ) (b : Bool) → same_name (Mark o) p.at ≡ b → cond (same_name (Mark o) p.at) (Some v) (last_seen (Mark o) old) ≡ Some s
          → l.running ≡ true → next o t ≡ true → monitor_in s ≡ None → next_waiters o ≡ []
      alone o s true e a r q g = mine.idle o e r q (ap monitor_in (same_Some _ _ (ap (λ c. cond c (Some v) (last_seen (Mark o) old)) (sym e) ∙ a)) ∙ g)
      alone o s false e a r q g = mine.unwaited o s (ap (λ c. cond c (Some v) (last_seen (Mark o) old)) (sym e) ∙ a) r q g

      wait : (y o s : ℕ) (b : Bool) → same_name (Waiting y) p.at ≡ b → cond (same_name (Waiting y) p.at) (Some v) (last_seen (Waiting y) old) ≡ Some s
          → l.running ≡ true → next o t ≡ true → waits_on s o ≡ false → waits_on (with_word p.at v w.words (Waiting y)) o ≡ false
      wait y o s true e a r q g = ap (λ z. waits_on z o) (ap (λ c. cond c v (w.words (Waiting y))) e
          ∙ same_Some _ _ (ap (λ c. cond c (Some v) (last_seen (Waiting y) old)) (sym e) ∙ a)) ∙ g
      wait y o s false e a r q g = mine.unwaiting y o s (ap (λ c. cond c (Some v) (last_seen (Waiting y) old)) (sym e) ∙ a) q g r

-- the thread goes on in its call: it counts on some of what it could count on before
pub counts_more : (at : WordId) (v t : ℕ) (l : ThreadView) (w : World) (owner next : ℕ → ℕ → Bool)
    (waiters next_waiters : ℕ → List (ℕ × ℕ)) (old : List StepMade) → IsPart old (w.known t).seen
    → Back w (with_word_and_known at v t l w) (w.known t) l owner next t
    → ((m : ℕ) → (w.known t).kept ≡ Some m → IsKeptOrNamed (with_word_and_known at v t l w) l m)
    → ((m : ℕ) → l.running ≡ true → IsOfMonitor m at → IsKeptOrNamed (with_word_and_known at v t l w) l m)
    → ((o : ℕ) → same_name (Mark o) at ≡ true → l.running ≡ true → next o t ≡ true → monitor_in v ≡ None → next_waiters o ≡ [])
    → ((o : ℕ) → next o t ≡ true → waiters o ≡ [] → next_waiters o ≡ [])
    → Spares at v t l w owner next waiters next_waiters
    → ((u o : ℕ) → owner o t ≡ true → waits_on (w.words (Waiting u)) o ≡ false → waits_on (with_word at v w.words (Waiting u)) o ≡ false)
    → SeenStays w owner waiters → Counts at v t l w next next_waiters old
counts_more at v t l w owner next waiters next_waiters old part back kept fresh idle unwaited spares waits h =
    record {
      others = λ n s e a g. h.stays t n s (part n s e) (stays_back w (with_word_and_known at v t l w) (w.known t) l owner next t back n s g);
      unbiased = λ o s e g r.
          let asks : ((w.known t).running ≡ true) ⊎ ((w.known t).requesting ≡ true) = elim r [ inl a ↦ inl (back.run a) | inr a ↦ inr (back.ask a) ] in
          spares.bias t o s (part (Mark o) s e) asks (h.unbiased t o s (part (Mark o) s e) asks g);
      classed = λ o s e g r. h.saw_classed t o s (part (Mark o) s e) (elim r [ inl a ↦ inl (back.run a) | inr a ↦ inr (back.ask a) ]) g;
      unwaiting = λ u o s e a g r. waits u o (back.owned o a) (h.unwaiting t u o s (part (Waiting u) s e) (back.run r) (back.owned o a) g);
      unwaited = λ o s e r a g. unwaited o a (h.unwaited t o s (part (Mark o) s e) (back.run r) (back.owned o a) g);
      idle = idle;
      monitors = λ m s r e. elim (h.monitors t m s (back.run r) (e.0, e.1, part e.0 s e.2)) [
        | inl a ↦ kept m a
        | inr a ↦ inr (a.0, spares.names a.0 m a.1)
      ];
      fresh = fresh;
    }

-- the thread begins anew: it counts on nothing that it saw before
pub counts_anew : (at : WordId) (v t : ℕ) (l : ThreadView) (w : World) (next : ℕ → ℕ → Bool) (next_waiters : ℕ → List (ℕ × ℕ))
    → ((o : ℕ) → same_name (Mark o) at ≡ true → l.running ≡ true → next o t ≡ true → monitor_in v ≡ None → next_waiters o ≡ [])
    → ((m : ℕ) → l.running ≡ true → IsOfMonitor m at → IsKeptOrNamed (with_word_and_known at v t l w) l m) → Counts at v t l w next next_waiters []
counts_anew at v t l w next next_waiters idle fresh =
    record {
      others = λ n s e. absurd (cc e);
      unbiased = λ o s e. absurd (cc e);
      classed = λ o s e. absurd (cc e);
      unwaiting = λ u o s e. absurd (cc e);
      unwaited = λ o s e. absurd (cc e);
      idle = idle;
      monitors = λ m s r e. absurd (cc e.2);
      fresh = fresh;
    }
