-- The steps of a revocation make the stores that its rules list, by the words that they find.
use Rattle.core_locks.proofs.Prelude.{◌≡◌, ℕ, zero, suc, ◌+◌, ◌<◌, ◌==◌, ◌&&◌, ◌++◌, append-nil, add-zero, zero-add, eq-eqb, nat_lt}
use Rattle.core_locks.proofs.Prelude.{◌-◌, not, is_none, Bool, true, false, cond, if◌then◌else◌, List, [], ◌∷◌, Option, Some, None}
use Rattle.core_locks.proofs.Prelude.{refl, sym, ap, ◌∙◌, subst, arith, MarkForm, Neutral, Anonymous, Biased, mark_of, read_mark}
use Rattle.core_locks.proofs.Prelude.{read_hold, read_mark-mark_of, Store, WordId, Mark, Hold, Prototype, Revocations, LastBulk}
use Rattle.core_locks.proofs.Prelude.{Settled, StepPlan, Shape, class_by, with_word, is_biased, epoch_in, StepMade, CallContext}
use Rattle.std.proofs.Common.{◌%◌, append_assoc}
use Rattle.plain_monitor.specs.Limits.{most_holds}
use Rattle.lock_policy.specs.declared.policy.Verdict.{Verdict}
use Rattle.lock_policy.specs.declared.policy.Verdict.TheVariants.{Single, BulkRebias, BulkRevoke}
use Rattle.lock_policy.specs.Policy.{decided}
use Rattle.core_world.specs.declared.word_id.WordId.TheVariants.{Class}
use Rattle.core_world.specs.Words.Forms.{epoch_form}
use Rattle.core_world.specs.Words.Shape.{class_in_shape}
use Rattle.core_world.specs.Locks.{is_valid_bias}
use Rattle.core_world.specs.Threads.Stages.{Revocation}
use Rattle.core_world.specs.declared.stage.Stage.{Stage}
use Rattle.core_world.specs.RevocationRules.{Write, write, words_after, write_by, writes_in, FoundAfter, Rule, in_turn, each_below, words_from}
use Rattle.core_world.specs.RevocationRules.{holds_in, revoke_biased, revoke_form, revoke, raised_form, raise_epoch, with_epoch, store_where, renew}
use Rattle.core_world.specs.RevocationRules.{object_held, on_held, on_records, biased_word, take_bias, verdict_rules, revocation_writes}
use Rattle.core_world.specs.Trees.RevocationSteps.{revocation_stage, look, store_steps, revoke_at, revoke_steps, visit_held}
use Rattle.core_world.specs.Trees.RevocationSteps.{walk_steps, take_bias_steps, next_epoch, bulk_revoke_steps, verdict_steps}
use Rattle.core_world.specs.Trees.RevocationSteps.{decided_steps, RevocationOutcome, revoke_at_safepoint_steps}
use Rattle.core_world.specs.Trees.Plans.{class_steps, load_plan, load}
use Rattle.core_world.specs.Trees.StepTree.{StepTree, done, unreachable, step, ask, ◌>>=◌, each_from, all_from}
use Rattle.core_bias.specs.Revoking.{AreAllStores, IsBiasedToOne, IsNextStore, Leads}
use Rattle.core_bias.proofs.BlindRules.{blind_revoke, classless_stays}
use Rattle.core_bias.proofs.Revokes.{stored_append}
use Rattle.core_bias.proofs.Unseen.{class_stays}

-- carried out alone on the words f, the steps make these stores and come to this answer
abbrev pub Runs : {A : Type 0} → StepTree A → (WordId → ℕ) → List Write → A → Type 0
Runs (done x) f ws a = (ws ≡ []) × (x ≡ a)
Runs unreachable f ws a = ⊥
Runs (step p g) f ws a = (rest : List Write) × (ws ≡ write_by p.at p.act ++ rest) × Runs (g (f p.at)) (words_after (write_by p.at p.act) f) rest a

-- where they found what they left themselves of the words f, their stores are the first of those that the steps make on f
pub led : {A : Type 0} (T U : StepTree A) (ms : List StepMade) (f : WordId → ℕ) (ws : List Write) (a : A) → Leads T ms U → FoundAfter f ms → Runs T f ws a
    → (rest : List Write) × (ws ≡ writes_in ms ++ rest) × Runs U (words_after (writes_in ms) f) rest a
led T U [] f ws a path found run = (ws, refl, subst (λ V. Runs V f ws a) path run)
led T U (m ∷ ms) f ws a path found run =
    let before = led T (step m.plan path.0) ms f ws a path.1 found.1 run in
    let here = before.2 in
    let words : words_after (writes_in ms ++ write_by m.plan.at m.plan.act) f ≡ words_after (write_by m.plan.at m.plan.act)
    (words_after (writes_in ms) f) = stored_append (writes_in ms) (write_by m.plan.at m.plan.act) f in (
      here.0,
      before.1 ∙ ap (λ z. writes_in ms ++ z) here.1 ∙ sym (append_assoc (writes_in ms) (write_by m.plan.at m.plan.act) here.0),
      subst (λ h. Runs U h here.0 a) (sym words)
          (subst (λ V. Runs V (words_after (write_by m.plan.at m.plan.act) (words_after (writes_in ms) f)) here.0 a)
          (ap path.0 (sym found.0) ∙ sym path.2) here.2),
    )

-- whether an enter takes a new bias in this epoch, by the words that it finds; and whether a revocation does with this verdict, by the words
-- after its count
abbrev pub takes_by : Revocation → ℕ → Option ℕ → (WordId → ℕ) → Bool
takes_by b t epoch f = not (is_none (biased_word (is_biased (f (Mark b.object))) epoch t))

abbrev pub took_by : Shape → (ℕ → ℕ) → ℕ → ℕ → Revocation → Option ℕ → Verdict → (WordId → ℕ) → Bool
took_by s class t c b epoch BulkRebias f =
    let f1 = with_word (LastBulk c) b.now f in
    let f2 = words_after (raise_epoch c f1) f1 in
    let f3 = words_after (on_records s class c (renew c) f2) f2 in
    cond b.rebias (takes_by b t epoch (words_after (revoke b.object b.rebias f3) f3)) false
took_by s class t c b epoch _ f = false

-- THE PARTS
pub run_bind : {A B : Type 0} (T : StepTree A) (k : A → StepTree B) (f : WordId → ℕ) (ws vs : List Write) (a : A) (b : B)
    → Runs T f ws a → Runs (k a) (words_after ws f) vs b → Runs (T >>= k) f (ws ++ vs) b
run_bind {B = B} (done x) k f ws vs a b h g = subst (λ zs. Runs (k x) f (zs ++ vs) b) (sym h.0)
    (subst (λ z. Runs (k z) f vs b) (sym h.1) (subst (λ zs. Runs (k a) (words_after zs f) vs b) h.0 g))
run_bind unreachable k f ws vs a b h g = h
run_bind {B = B} (step p t) k f ws vs a b h g =
    let words : words_after ws f ≡ words_after h.0 (words_after (write_by p.at p.act) f) =
    ap (λ zs. words_after zs f) h.1 ∙ stored_append (write_by p.at p.act) h.0 f in (
      h.0 ++ vs,
      ap (λ zs. zs ++ vs) h.1 ∙ append_assoc (write_by p.at p.act) h.0 vs,
      run_bind (t (f p.at)) k (words_after (write_by p.at p.act) f) h.0 vs a b h.2 (subst (λ z. Runs (k a) z vs b) words g),
    )

module _ (e : CallContext) (b : Revocation) where
  run_look : (at : WordId) (f : WordId → ℕ) → Runs (look e b at) f [] (f at)
  run_look at f = ([], refl, (refl, refl))

  -- the class that is found is that by the words
  run_class : (stage : Stage) (s : Shape) (o : ℕ) (f : WordId → ℕ) → Runs (class_steps e stage s o) f [] (class_by s f o)
  run_class stage s o f = by_test (nat_lt o s.declared)
    where
      by_test : (a : Bool) → Runs (cond a (done (class_in_shape s o)) (step (load_plan e stage (Class o)) (λ word. done (word - 1)))) f []
          (cond a (class_in_shape s o) (f (Class o) - 1))
      by_test true = (refl, refl)
      by_test false = ([], refl, (refl, refl))

  run_stores : (xs : List Write) (f : WordId → ℕ) → Runs (store_steps e b xs) f xs tt
  run_stores [] f = (refl, refl)
  run_stores (x ∷ xs) f = (xs, refl, run_stores xs (with_word x.at x.word f))

  run_holds : (t p n : ℕ) (f : WordId → ℕ) → Runs (each_from p n (λ q. look e b (Hold t q))) f [] (words_from p n (λ q. f (Hold t q)))
  run_holds t p zero f = (refl, refl)
  run_holds t p (suc n) f =
      let all = words_from p (suc n) (λ q. f (Hold t q)) in
      let after = words_from (p + 1) n (λ q. f (Hold t q)) in
      let end : Runs (done (f (Hold t p) ∷ after)) f [] all = (refl, refl) in
      run_bind (look e b (Hold t p)) (λ first. each_from (p + 1) n (λ q. look e b (Hold t q)) >>= λ others. done (first ∷ others)) f [] []
      (f (Hold t p)) all (run_look (Hold t p) f)
      (run_bind (each_from (p + 1) n (λ q. look e b (Hold t q))) (λ others. done (f (Hold t p) ∷ others)) f [] [] after all (run_holds t (p + 1) n f) end)

  run_revoke_at : (o : ℕ) (allowed : Bool) (x : Option MarkForm) (f : WordId → ℕ) → Runs (revoke_at x e b o allowed) f (revoke_form x o allowed f) tt
  unfolding holds_in
  run_revoke_at o allowed (Some (Anonymous epoch age)) f = run_stores (cond allowed [] (write (Mark o) (mark_of (Neutral 0 0)) ∷ [])) f
  run_revoke_at o allowed (Some (Biased t epoch age)) f =
      run_bind (each_from 0 most_holds (λ p. look e b (Hold t p))) (λ holds. store_steps e b (revoke_biased o t allowed holds)) f [] _
      (words_from 0 most_holds (λ p. f (Hold t p))) tt (run_holds t 0 most_holds f)
      (run_stores (revoke_biased o t allowed (words_from 0 most_holds (λ p. f (Hold t p)))) f)
  run_revoke_at o allowed _ f = (refl, refl)

  run_revoke : (o : ℕ) (allowed : Bool) (f : WordId → ℕ) → Runs (revoke_steps e b o allowed) f (revoke o allowed f) tt
  run_revoke o allowed f =
      run_bind (look e b (Mark o)) (λ mark. revoke_at (read_mark mark) e b o allowed) f [] (revoke o allowed f)
      (f (Mark o)) tt (run_look (Mark o) f) (run_revoke_at o allowed (read_mark (f (Mark o))) f)

  -- RULES BY RISING NUMBER, each where I holds of the words
  module _ (I : (WordId → ℕ) → Type 0) where
    abbrev RunsRule : StepTree (Unit {0}) → Rule → Type 0
    RunsRule T r = (f : WordId → ℕ) → I f → Runs T f (r f) tt × I (words_after (r f) f)

    abbrev from : ℕ → ℕ → (ℕ → Rule) → Rule
    from i zero r f = []
    from i (suc n) r f = r i f ++ from (i + 1) n r (words_after (r i f) f)

    from_last : (i n : ℕ) (r : ℕ → Rule) (f : WordId → ℕ) → from i (suc n) r f ≡ from i n r f ++ r (i + n) (words_after (from i n r f) f)
    from_last i zero r f = append-nil (r i f) ∙ ap (λ j. r j f) (sym (add-zero i))
    from_last i (suc n) r f =
        let g = words_after (r i f) f in
        let index : i + 1 + n ≡ i + suc n = omega arith in
        ap (λ zs. r i f ++ zs) (from_last (i + 1) n r g)
        ∙ sym (append_assoc (r i f) (from (i + 1) n r g) (r (i + 1 + n) (words_after (from (i + 1) n r g) g)))
        ∙ (λ j. (r i f ++ from (i + 1) n r g) ++ r (index j) (sym (stored_append (r i f) (from (i + 1) n r g) f) j))

    below_is : (n : ℕ) (r : ℕ → Rule) (f : WordId → ℕ) → each_below n r f ≡ from 0 n r f
    below_is zero r f = refl
    below_is (suc n) r f = (λ j. below_is n r f j ++ r (sym (zero-add n) j) (words_after (below_is n r f j) f)) ∙ sym (from_last 0 n r f)

    run_from : (i n : ℕ) (T : ℕ → StepTree (Unit {0})) (r : ℕ → Rule) → ((j : ℕ) → RunsRule (T j) (r j)) → RunsRule (all_from i n T) (from i n r)
    run_from i zero T r h f v = ((refl, refl), v)
    run_from i (suc n) T r h f v =
        let first = h i f v in
        let g = words_after (r i f) f in
        let others = run_from (i + 1) n T r h g first.1 in (
          run_bind (T i) (λ _. all_from (i + 1) n T) f (r i f) (from (i + 1) n r g) tt tt first.0 others.0,
          subst I (sym (stored_append (r i f) (from (i + 1) n r g) f)) others.1,
        )

    run_below : (n : ℕ) (T : ℕ → StepTree (Unit {0})) (r : ℕ → Rule) → ((j : ℕ) → RunsRule (T j) (r j)) → RunsRule (all_from 0 n T) (each_below n r)
    run_below n T r h f v = subst (λ ws. Runs (all_from 0 n T) f ws tt × I (words_after ws f)) (sym (below_is n r f)) (run_from 0 n T r h f v)

    -- THE WALK
    abbrev spot : Shape → ℕ → (ℕ → ℕ → StepTree (Unit {0})) → ℕ → ℕ → StepTree (Unit {0})
    spot s c visit t p = look e b (Hold t p) >>= λ hold. visit_held s c e b visit (object_held (read_hold hold))

    abbrev spot_rule : (ℕ → ℕ) → ℕ → (ℕ → Rule) → ℕ → ℕ → Rule
    spot_rule class c r t p f = on_held class c r (object_held (read_hold (f (Hold t p)))) f

    run_walk : (s : Shape) (class : ℕ → ℕ) (c : ℕ) (visit : ℕ → ℕ → StepTree (Unit {0})) (r : ℕ → Rule)
        → ((f : WordId → ℕ) → I f → (o : ℕ) → class_by s f o ≡ class o)
        → ((o : ℕ) (f : WordId → ℕ) → I f → Runs (visit o (f (Mark o))) f (r o f) tt × I (words_after (r o f) f))
        → RunsRule (walk_steps s c e b visit) (on_records s class c r)
    unfolding on_records
    run_walk s class c visit r its h =
        run_below s.threads (λ t. all_from 0 most_holds (spot s c visit t)) (λ t. each_below most_holds (spot_rule class c r t))
        (λ t. run_below most_holds (spot s c visit t) (spot_rule class c r t) (λ p f v.
        let done_so = held (object_held (read_hold (f (Hold t p)))) f v in (
          run_bind (look e b (Hold t p)) (λ hold. visit_held s c e b visit (object_held (read_hold hold))) f []
              (spot_rule class c r t p f) (f (Hold t p)) tt (run_look (Hold t p) f) done_so.0,
          done_so.1,
        )))
      where
        held : (a : Option ℕ) (f : WordId → ℕ) → I f
            → Runs (visit_held s c e b visit a) f (on_held class c r a f) tt × I (words_after (on_held class c r a f) f)
        held None f v = ((refl, refl), v)
        held (Some o) f v =
            let found = by_class (class o == c) in (
              run_bind (class_steps e (revocation_stage b) s o)
                  (λ k. cond (k == c) (look e b (Mark o) >>= λ mark. cond (is_biased mark) (visit o mark) (done tt)) (done tt)) f [] _ (class o) tt
                  (subst (Runs (class_steps e (revocation_stage b) s o) f []) (its f v o) (run_class (revocation_stage b) s o f)) found.0,
              found.1,
            )
          where
            biased : (a : Bool) → Runs (cond a (visit o (f (Mark o))) (done tt)) f (if a then r o f else []) tt × I (words_after (if a then r o f else []) f)
            biased true = h o f v
            biased false = ((refl, refl), v)

            by_class : (a : Bool) → Runs (cond a (look e b (Mark o) >>= λ mark. cond (is_biased mark) (visit o mark) (done tt)) (done tt)) f
                (if a && is_biased (f (Mark o)) then r o f else []) tt
                × I (words_after (if a && is_biased (f (Mark o)) then r o f else []) f)
            by_class true = let k = biased (is_biased (f (Mark o))) in (
              run_bind (look e b (Mark o)) (λ mark. cond (is_biased mark) (visit o mark) (done tt)) f [] _
                  (f (Mark o)) tt (run_look (Mark o) f) k.0,
              k.1,
            )
            by_class false = ((refl, refl), v)

  -- the last rule of a list
  run_last : {A : Type 0} (T : StepTree A) (f : WordId → ℕ) (ws : List Write) (a : A) → Runs T f ws a → Runs T f (ws ++ []) a
  run_last T f ws a h = subst (λ zs. Runs T f zs a) (sym (append-nil ws)) h

  -- THE VERDICTS, where the epoch that was loaded is the class's, and each object has the class that it has by the words at the start
  module _ (s : Shape) (start : WordId → ℕ) (t c : ℕ) (epoch : Option ℕ) where
    abbrev class : ℕ → ℕ
    class = class_by s start

    abbrev Epoch : Option ℕ → (WordId → ℕ) → Type 0
    Epoch a f = epoch_in (f (Prototype c)) ≡ a

    abbrev Classed : (WordId → ℕ) → Type 0
    Classed f = (o : ℕ) → f (Class o) ≡ start (Class o)

    abbrev At : Option ℕ → (WordId → ℕ) → Type 0
    At a f = Epoch a f × Classed f

    run_raise : (f : WordId → ℕ) → At epoch f
        → Runs (store_steps e b (raised_form epoch c)) f (raise_epoch c f) tt × At (next_epoch epoch) (words_after (raise_epoch c f) f)
    run_raise f h = subst (λ a. Runs (store_steps e b (raised_form epoch c)) f (raised_form a c) tt
        × At (next_epoch epoch) (words_after (raised_form a c) f)) (sym h.0) (run_stores (raised_form epoch c) f, by_epoch epoch h)
      where
        by_epoch : (a : Option ℕ) → At a f → At (next_epoch a) (words_after (raised_form a c) f)
        by_epoch None h = h
        by_epoch (Some i) h =
            let low : (i + 1) % 4 < 4 = omega arith in
            let young : 0 < 16 = omega arith in (
              ap (λ z. epoch_in (cond z (mark_of (Anonymous ((i + 1) % 4) 0)) (f (Prototype c)))) (eq-eqb c c refl)
                  ∙ ap epoch_form (read_mark-mark_of (Anonymous ((i + 1) % 4) 0) (low, young)),
              h.1,
            )

    -- the visit of a held object in a bulk rebias
    abbrev renewing : ℕ → ℕ → StepTree (Unit {0})
    renewing o mark = store_steps e b (store_where (Mark o) (with_epoch (read_mark mark) (next_epoch epoch)))

    run_renew : (o : ℕ) (f : WordId → ℕ) → At (next_epoch epoch) f
        → Runs (renewing o (f (Mark o))) f (renew c o f) tt × At (next_epoch epoch) (words_after (renew c o f) f)
    run_renew o f h = (
      subst (λ a. Runs (renewing o (f (Mark o))) f (store_where (Mark o) (with_epoch (read_mark (f (Mark o))) a)) tt)
          (sym h.0) (run_stores (store_where (Mark o) (with_epoch (read_mark (f (Mark o))) (next_epoch epoch))) f),
      by_word (with_epoch (read_mark (f (Mark o))) (epoch_in (f (Prototype c)))),
    )
      where
        by_word : (a : Option ℕ) → At (next_epoch epoch) (words_after (store_where (Mark o) a) f)
        by_word None = h
        by_word (Some m) = h

    run_take : (f : WordId → ℕ) → Epoch (next_epoch epoch) f
        → Runs (take_bias_steps e b (next_epoch epoch) t) f (take_bias c b.object t f) (takes_by b t (next_epoch epoch) f)
    run_take f h =
        let stores = store_where (Mark b.object) (biased_word (is_biased (f (Mark b.object))) (next_epoch epoch) t) in
        let taking = run_bind (store_steps e b stores) (λ _. done (takes_by b t (next_epoch epoch) f)) f stores [] tt
        (takes_by b t (next_epoch epoch) f) (run_stores stores f) (refl, refl) in
        run_bind (look e b (Mark b.object))
        (λ mark. store_steps e b (store_where (Mark b.object) (biased_word (is_biased mark) (next_epoch epoch) t)) >>= λ _.
        done (not (is_none (biased_word (is_biased mark) (next_epoch epoch) t))))
        f [] (take_bias c b.object t f) (f (Mark b.object)) (takes_by b t (next_epoch epoch) f) (run_look (Mark b.object) f)
        (subst (λ a. Runs (store_steps e b stores >>= λ _. done (takes_by b t (next_epoch epoch) f)) f
        (store_where (Mark b.object) (biased_word (is_biased (f (Mark b.object))) a t)) (takes_by b t (next_epoch epoch) f)) (sym h)
        (subst (λ zs. Runs (store_steps e b stores >>= λ _. done (takes_by b t (next_epoch epoch) f)) f zs
        (takes_by b t (next_epoch epoch) f)) (append-nil stores) taking))

    -- the object's revocation, and what an enter takes
    run_end : (a : Bool) (f : WordId → ℕ) → Epoch (next_epoch epoch) f
        → Runs (revoke_steps e b b.object a >>= λ _. cond a (take_bias_steps e b (next_epoch epoch) t) (done false)) f
        (in_turn (revoke b.object a ∷ (if a then take_bias c b.object t ∷ [] else [])) f)
        (cond a (takes_by b t (next_epoch epoch) (words_after (revoke b.object a f) f)) false)
    run_end a f h =
        let g = words_after (revoke b.object a f) f in
        let epoch_now : Epoch (next_epoch epoch) g =
        ap epoch_in (classless_stays (revoke b.object a f) f (Prototype c) ((blind_revoke b.object a).stores f) refl) ∙ h in
        run_bind (revoke_steps e b b.object a) (λ _. cond a (take_bias_steps e b (next_epoch epoch) t) (done false)) f
        (revoke b.object a f) _ tt (cond a (takes_by b t (next_epoch epoch) g) false) (run_revoke b.object a f) (taking a g epoch_now)
      where
        taking : (a : Bool) (g : WordId → ℕ) → Epoch (next_epoch epoch) g → Runs (cond a (take_bias_steps e b (next_epoch epoch) t) (done false)) g
            (in_turn (if a then take_bias c b.object t ∷ [] else []) g) (cond a (takes_by b t (next_epoch epoch) g) false)
        taking true g h = run_last (take_bias_steps e b (next_epoch epoch) t) g (take_bias c b.object t g) (takes_by b t (next_epoch epoch) g) (run_take g h)
        taking false g h = (refl, refl)

    run_verdict : (d : Verdict) (f : WordId → ℕ) → At epoch f
        → Runs (verdict_steps s t c e b epoch d) f (in_turn (verdict_rules s class t c b d) f) (took_by s class t c b (next_epoch epoch) d f)
    run_verdict Single f h = run_bind (revoke_steps e b b.object false) (λ _. done false) f
        (revoke b.object false f) [] tt false (run_revoke b.object false f) (refl, refl)
    run_verdict BulkRebias f h =
        let f1 = with_word (LastBulk c) b.now f in
        let raised = run_raise f1 h in
        let f2 = words_after (raise_epoch c f1) f1 in
        let walked = run_walk (At (next_epoch epoch)) s class c renewing (renew c) (λ f v o. class_stays s start f o (v.1 o)) run_renew f2 raised.1 in
        let f3 = words_after (on_records s class c (renew c) f2) f2 in
        let rest = in_turn (revoke b.object b.rebias ∷ (if b.rebias then take_bias c b.object t ∷ [] else [])) in
        let ending : StepTree Bool = revoke_steps e b b.object b.rebias >>= λ _. cond b.rebias (take_bias_steps e b (next_epoch epoch) t) (done false) in
        let walking : StepTree Bool = walk_steps s c e b renewing >>= λ _. ending in
        let raising : StepTree Bool = store_steps e b (raised_form epoch c) >>= λ _. walking in
        let took = cond b.rebias (takes_by b t (next_epoch epoch) (words_after (revoke b.object b.rebias f3) f3)) false in
        let three : Runs walking f2 (on_records s class c (renew c) f2 ++ rest f3) took = run_bind (walk_steps s c e b renewing)
        (λ _. ending) f2 (on_records s class c (renew c) f2) (rest f3) tt took walked.0 (run_end b.rebias f3 walked.1.0) in
        let two : Runs raising f1 (raise_epoch c f1 ++ (on_records s class c (renew c) f2 ++ rest f3)) took =
        run_bind (store_steps e b (raised_form epoch c)) (λ _. walking) f1 (raise_epoch c f1)
        (on_records s class c (renew c) f2 ++ rest f3) tt took raised.0 three in
        run_bind (store_steps e b (write (LastBulk c) b.now ∷ [])) (λ _. raising) f (write (LastBulk c) b.now ∷ [])
        (raise_epoch c f1 ++ (on_records s class c (renew c) f2 ++ rest f3)) tt took (run_stores (write (LastBulk c) b.now ∷ []) f) two
    run_verdict BulkRevoke f h =
        let f1 = with_word (LastBulk c) b.now f in
        let f2 = with_word (Prototype c) (mark_of (Neutral 0 0)) f1 in
        let walk = on_records s class c (λ o. revoke o false) in
        let visit : ℕ → ℕ → StepTree (Unit {0}) = λ o mark. revoke_at (read_mark mark) e b o false in
        let walked = run_walk Classed s class c visit (λ o. revoke o false) (λ f v o. class_stays s start f o (v o))
        (λ o f v. (
          run_revoke_at o false (read_mark (f (Mark o))) f,
          λ i. classless_stays (revoke o false f) f (Class i)
              ((blind_revoke o false).stores f) refl ∙ v i,
        )) f2 h.1 in
        let f3 = words_after (walk f2) f2 in
        let ending : StepTree Bool = revoke_steps e b b.object false >>= λ _. done false in
        let revoking : StepTree (Unit {0}) = revoke_steps e b b.object false in
        let walking : StepTree (Unit {0}) = walk_steps s c e b visit >>= λ _. revoking in
        let lowering : StepTree (Unit {0}) = store_steps e b (write (Prototype c) (mark_of (Neutral 0 0)) ∷ []) >>= λ _. walking in
        let all : List Write = write (Prototype c) (mark_of (Neutral 0 0)) ∷ (walk f2 ++ (revoke b.object false f3 ++ [])) in
        let three : Runs walking f2 (walk f2 ++ (revoke b.object false f3 ++ [])) tt =
        run_bind (walk_steps s c e b visit) (λ _. revoking) f2 (walk f2) (revoke b.object false f3 ++ []) tt tt walked.0
        (run_last revoking f3 (revoke b.object false f3) tt (run_revoke b.object false f3)) in
        let two : Runs lowering f1 all tt =
        run_bind (store_steps e b (write (Prototype c) (mark_of (Neutral 0 0)) ∷ [])) (λ _. walking) f1
        (write (Prototype c) (mark_of (Neutral 0 0)) ∷ []) (walk f2 ++ (revoke b.object false f3 ++ [])) tt tt
        (run_stores (write (Prototype c) (mark_of (Neutral 0 0)) ∷ []) f1) three in
        let one : Runs (bulk_revoke_steps s c e b) f (write (LastBulk c) b.now ∷ all) tt =
        run_bind (store_steps e b (write (LastBulk c) b.now ∷ [])) (λ _. lowering) f
        (write (LastBulk c) b.now ∷ []) all tt tt (run_stores (write (LastBulk c) b.now ∷ []) f) two in
        subst (λ zs. Runs (bulk_revoke_steps s c e b >>= λ _. done false) f zs false) (append-nil (write (LastBulk c) b.now ∷ all))
        (run_bind (bulk_revoke_steps s c e b) (λ _. done false) f (write (LastBulk c) b.now ∷ all) [] tt false one (refl, refl))

-- the answer of a revocation by the words that it finds
abbrev pub answer_of : Shape → ℕ → Revocation → (WordId → ℕ) → RevocationOutcome
answer_of s t b f =
    let class = class_by s f in
    let c = class b.object in
    let d = decided (f (Revocations c)) (f (LastBulk c)) b.now in
    record { verdict = d.0; took = took_by s class t c b (next_epoch (epoch_in (f (Prototype c)))) d.0 (with_word (Revocations c) d.1 f) }

-- ALL STEPS of a revocation by thread t make the stores that the rules list, by words in which the object is validly biased.
pub revocation_runs : (s : Shape) (t : ℕ) (e : CallContext) (b : Revocation) (f : WordId → ℕ)
    → IsBiasedToOne s f b.object → Runs (revoke_at_safepoint_steps s t e b) f (revocation_writes s t b f) (answer_of s t b f)
unfolding revocation_writes
revocation_runs s t e b f valid =
    let class = class_by s f in
    let c = class b.object in
    let d = decided (f (Revocations c)) (f (LastBulk c)) b.now in
    let all = revocation_writes s t b f in
    let f1 = with_word (Revocations c) d.1 f in
    let others = in_turn (verdict_rules s class t c b d.0) f1 in
    let answer : RevocationOutcome = answer_of s t b f in
    let end : Runs (done answer) (words_after others f1) [] answer = (refl, refl) in
    let verdict : Runs (verdict_steps s t c e b (epoch_in (f (Prototype c))) d.0 >>= λ took.
    done (record { verdict = d.0; took = took })) f1 (others ++ []) answer =
    run_bind (verdict_steps s t c e b (epoch_in (f (Prototype c))) d.0) (λ took. done (record { verdict = d.0; took = took })) f1 others [] answer.took answer
    (run_verdict e b s f t c (epoch_in (f (Prototype c))) d.0 f1 (refl, λ o. refl)) end in
    let steps : StepTree RevocationOutcome = decided_steps s t c e b (epoch_in (f (Prototype c))) (f (Revocations c)) (f (LastBulk c)) in
    let counted : Runs steps f all answer = (
      others,
      refl,
      subst (λ zs. Runs (verdict_steps s t c e b (epoch_in (f (Prototype c))) d.0 >>= λ took. done (record { verdict = d.0; took = took }))
          f1 zs answer) (append-nil others) verdict,
    ) in
    let after : ℕ → StepTree RevocationOutcome =
    λ i. ask (load e (Prototype i)) >>= λ prototype. ask (load e (Revocations i)) >>= λ count. ask (load e (LastBulk i)) >>= λ last.
    cond (is_valid_bias (read_mark (f (Mark b.object))) prototype) (decided_steps s t i e b (epoch_in prototype) count last) unreachable in (
      all,
      refl,
      run_bind (class_steps e Settled s b.object) after f [] all c answer (run_class e b Settled s b.object f)
          (all, refl, (all, refl, (all, refl, subst (λ z. Runs (cond z steps unreachable) f all answer) (sym valid) counted))),
    )

-- steps that stored nothing went before
unwritten_before : (ms earlier : List StepMade) → writes_in earlier ≡ [] → writes_in (ms ++ earlier) ≡ writes_in ms
unwritten_before [] earlier h = h
unwritten_before (m ∷ ms) earlier h = ap (λ zs. zs ++ write_by m.plan.at m.plan.act) (unwritten_before ms earlier h)

found_since : (ms earlier : List StepMade) (f : WordId → ℕ) → writes_in earlier ≡ [] → FoundAfter f (ms ++ earlier) → FoundAfter f ms
found_since [] earlier f h found = tt
found_since (m ∷ ms) earlier f h found = (found.0 ∙ ap (λ zs. words_after zs f m.plan.at) (unwritten_before ms earlier h), found_since ms earlier f h found.1)

-- WHAT A THREAD KNOWS in the middle of these steps: the store that comes next is the next that the rules list, and at their end all are made.
module _ (s : Shape) (t : ℕ) (e : CallContext) (b : Revocation) (ms earlier : List StepMade) (looked : writes_in earlier ≡ []) where
  pub steps_next : (p : StepPlan) (g : ℕ → StepTree RevocationOutcome) (word : ℕ)
      → Leads (revoke_at_safepoint_steps s t e b) ms (step p g) → p.act ≡ Store word → IsNextStore s t b (ms ++ earlier) p.at word
  steps_next p g word path act f valid found =
      let runs = revocation_runs s t e b f valid in
      let so_far = led (revoke_at_safepoint_steps s t e b) (step p g) ms f (revocation_writes s t b f)
      (answer_of s t b f) path (found_since ms earlier f looked found) runs in
      let next = so_far.2 in (
        next.0,
        ap (λ z. z ++ write p.at word ∷ next.0) (unwritten_before ms earlier looked)
            ∙ ap (λ a. writes_in ms ++ (write_by p.at a ++ next.0)) (sym act) ∙ ap (λ zs. writes_in ms ++ zs) (sym next.1) ∙ sym so_far.1,
      )

  pub steps_all : (a : RevocationOutcome) → Leads (revoke_at_safepoint_steps s t e b) ms (done a) → AreAllStores s t b (ms ++ earlier)
  steps_all a path f valid found =
      let runs = revocation_runs s t e b f valid in
      let so_far = led (revoke_at_safepoint_steps s t e b) (done a) ms f (revocation_writes s t b f)
      (answer_of s t b f) path (found_since ms earlier f looked found) runs in
      unwritten_before ms earlier looked ∙ sym (append-nil (writes_in ms)) ∙ ap (λ zs. writes_in ms ++ zs) (sym so_far.2.0) ∙ sym so_far.1

  -- and the answer is that of the words before
  pub steps_answer : (a : RevocationOutcome) → Leads (revoke_at_safepoint_steps s t e b) ms (done a)
      → (f : WordId → ℕ) → IsBiasedToOne s f b.object → FoundAfter f (ms ++ earlier) → a ≡ answer_of s t b f
  steps_answer a path f valid found = (led (revoke_at_safepoint_steps s t e b) (done a) ms f (revocation_writes s t b f)
      (answer_of s t b f) path (found_since ms earlier f looked found) (revocation_runs s t e b f valid)).2.1
