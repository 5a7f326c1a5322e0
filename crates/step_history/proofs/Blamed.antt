-- In a run of all threads, a thread whose exchange expects what it last saw of a word, and misses, was overtaken: another thread's step has changed the word.
use Rattle.std.proofs.Common.{◌≡◌, ◌≢◌, ℕ, cond, Bool, true, false, List, [], ◌∷◌, ◌++◌, Some, refl, sym, ap, ◌∙◌, subst, eq-eqb, ne_eqb}
use Rattle.std.proofs.lemmas.Option.{same_Some}
use Rattle.std.proofs.Common.{inl, inr}
use Rattle.core_world.specs.declared.word_id.WordId.{WordId}
use Rattle.core_world.specs.Steps.{world_after}
use Rattle.core_world.specs.Threads.ThreadView.{StepMade, last_seen, left_by}
use Rattle.core_world.specs.Words.Acts.{word_after}
use Rattle.core_world.specs.Words.Names.{same_name}
use Rattle.core_world.specs.World.{World}
use Rattle.core_world.specs.Trees.StepTree.{StepTree}
use Rattle.core_world.proofs.KnowledgeParts.{by_equal}
use Rattle.core_world.proofs.Naming.{same_named}
use Rattle.core_calls.specs.Paths.{made, Always}
use Rattle.core_calls.specs.Causes as causes
use Rattle.core_calls.specs.Causes.{AmongAfter}
use Rattle.core_calls.proofs.Runs.{on_path}
use Rattle.core_calls.proofs.Paths.{LastSeen}
use Rattle.step_history.specs.Leads.{Leads, stays, goes, steps_by}
use Rattle.step_history.specs.Overtaken.{IsCallOf, WasOvertaken}

abbrev Steps : Type 0
Steps = List (ℕ × StepMade)

-- a step more, of t or of another
own_step : (t u : ℕ) (m : StepMade) (ys : Steps) → u ≡ t → steps_by t ((u, m) ∷ ys) ≡ m ∷ steps_by t ys
own_step t u m ys same = ap (λ (b : Bool). cond b (m ∷ steps_by t ys) (steps_by t ys)) (eq-eqb u t same)

other_step : (t u : ℕ) (m : StepMade) (ys : Steps) → u ≢ t → steps_by t ((u, m) ∷ ys) ≡ steps_by t ys
other_step t u m ys differ = ap (λ (b : Bool). cond b (m ∷ steps_by t ys) (steps_by t ys)) (ne_eqb u t differ)

-- THE SIGHT: the step that last saw or left this in the word
record Seen (t : ℕ) (at : WordId) (expected : ℕ) (xs : Steps) : Type 0 where
  pub sight : StepMade
  pub before : Steps
  pub between : Steps
  pub order : xs ≡ between ++ (t, sight) ∷ before
  pub seen_at : sight.plan.at ≡ at
  pub saw : left_by sight ≡ expected

seen_further : (t : ℕ) (at : WordId) (expected : ℕ) (x : ℕ × StepMade) (xs : Steps) → Seen t at expected xs → Seen t at expected (x ∷ xs)
seen_further t at expected x xs s =
    record {
      sight = s.sight;
      before = s.before;
      between = x ∷ s.between;
      order = ap (λ ys. x ∷ ys) s.order;
      seen_at = s.seen_at;
      saw = s.saw;
    }

find_sight : (t : ℕ) (at : WordId) (expected : ℕ) (xs : Steps) → last_seen at (steps_by t xs) ≡ Some expected → Seen t at expected xs
find_sight t at expected [] h = absurd (cc h)
find_sight t at expected ((u, m) ∷ xs) h =
    by_equal u t
    (λ e. mine e (find_sight t at expected xs) (same_name at m.plan.at) refl (ap (last_seen at) (sym (own_step t u m xs e)) ∙ h))
    (λ d. seen_further t at expected (u, m) xs (find_sight t at expected xs (ap (last_seen at) (sym (other_step t u m xs d)) ∙ h)))
  where
    mine : u ≡ t → (last_seen at (steps_by t xs) ≡ Some expected → Seen t at expected xs) → (b : Bool) → same_name at m.plan.at ≡ b
        → cond (same_name at m.plan.at) (Some (left_by m)) (last_seen at (steps_by t xs)) ≡ Some expected → Seen t at expected ((u, m) ∷ xs)
    mine e later b same g = by_test b (ap (λ (c : Bool). cond c (Some (left_by m)) (last_seen at (steps_by t xs))) (sym same) ∙ g) same
      where
        by_test : (b : Bool) → cond b (Some (left_by m)) (last_seen at (steps_by t xs)) ≡ Some expected → same_name at m.plan.at ≡ b
            → Seen t at expected ((u, m) ∷ xs)
        by_test true g same =
            record {
              sight = m;
              before = xs;
              between = [];
              order = ap (λ v. (v, m) ∷ xs) e;
              seen_at = sym (same_named at m.plan.at same);
              saw = same_Some (left_by m) expected g;
            }
        by_test false g same = seen_further t at expected (u, m) xs (later g)

-- THE CHANGE: of these steps, after the sight, another thread's
record Changed (t : ℕ) (at : WordId) (expected : ℕ) (xs : Steps) : Type 0 where
  pub other : ℕ
  pub change : StepMade
  pub since : Steps
  pub until : Steps
  pub order : xs ≡ until ++ (other, change) ∷ since
  pub changed_at : change.plan.at ≡ at
  pub another : other ≢ t
  pub changed : left_by change ≢ change.found
  pub seen : Seen t at expected since

changed_further : (t : ℕ) (at : WordId) (expected : ℕ) (x : ℕ × StepMade) (xs : Steps) → Changed t at expected xs → Changed t at expected (x ∷ xs)
changed_further t at expected x xs c =
    record {
      other = c.other;
      change = c.change;
      since = c.since;
      until = x ∷ c.until;
      order = ap (λ ys. x ∷ ys) c.order;
      changed_at = c.changed_at;
      another = c.another;
      changed = c.changed;
      seen = c.seen;
    }

-- where the word isn't any more what t last saw there
find_change : (w : World) (t : ℕ) (at : WordId) (expected : ℕ) (xs : Steps) (v : World) → Leads w xs v → last_seen at (steps_by t xs) ≡ Some expected
    → v.words at ≢ expected → Changed t at expected xs
find_change w t at expected xs v stays h differ = absurd (cc h)
find_change w t at expected xs v (goes ys x u p before within next) h differ =
    by_test (same_name at p.at) refl (find_change w t at expected ys x before)
  where
    m : StepMade
    m = made p (x.words p.at)

    further : Changed t at expected ys → Changed t at expected ((u, made p (x.words p.at)) ∷ ys)
    further = changed_further t at expected (u, made p (x.words p.at)) ys

    by_test : (b : Bool) → same_name at p.at ≡ b → (last_seen at (steps_by t ys) ≡ Some expected → x.words at ≢ expected → Changed t at expected ys)
        → Changed t at expected ((u, made p (x.words p.at)) ∷ ys)
    by_test false apart later =
        -- on another word
        let word : (world_after p u x).words at ≡ x.words at = ap (λ (c : Bool). cond c (word_after p.act (x.words p.at)) (x.words at)) apart in
        let still : x.words at ≢ expected = λ e. differ (word ∙ e) in
        by_equal u t
        (λ e. further (later (sym (ap (λ (c : Bool). cond c (Some (left_by m)) (last_seen at (steps_by t ys))) apart)
        ∙ ap (last_seen at) (sym (own_step t u m ys e)) ∙ h) still))
        (λ d. further (later (ap (last_seen at) (sym (other_step t u m ys d)) ∙ h) still))
    by_test true here later =
        let word : (world_after p u x).words at ≡ left_by m = ap (λ (c : Bool). cond c (word_after p.act (x.words p.at)) (x.words at)) here in
        let is : at ≡ p.at = same_named at p.at here in
        by_equal u t
        -- a step of t's own is the last that it saw
        (λ e. absurd (differ (word
        ∙ same_Some (left_by m) expected (sym (ap (λ (c : Bool). cond c (Some (left_by m)) (last_seen at (steps_by t ys))) here)
        ∙ ap (last_seen at) (sym (own_step t u m ys e)) ∙ h))))
        (λ d.
        let seen : last_seen at (steps_by t ys) ≡ Some expected = ap (last_seen at) (sym (other_step t u m ys d)) ∙ h in
        by_equal (left_by m) (x.words p.at)
        (λ same. further (later seen (λ e. differ (word ∙ same ∙ ap x.words (sym is) ∙ e))))
        (λ changed. record {
          other = u;
          change = m;
          since = ys;
          until = [];
          order = refl;
          changed_at = sym is;
          another = d;
          changed = changed;
          seen = find_sight t at expected ys seen;
        }))

-- THE EXCHANGE: t's last step among these
record Missed (w : World) (t : ℕ) (exchange : StepMade) (earlier : List StepMade) (xs : Steps) : Type 0 where
  pub after : Steps
  pub rest : Steps
  pub order : xs ≡ after ++ (t, exchange) ∷ rest
  pub own : steps_by t rest ≡ earlier
  pub world : World
  pub leads : Leads w rest world
  pub finds : exchange.found ≡ world.words exchange.plan.at

missed_further : (w : World) (t : ℕ) (exchange : StepMade) (earlier : List StepMade) (x : ℕ × StepMade) (xs : Steps)
    → Missed w t exchange earlier xs → Missed w t exchange earlier (x ∷ xs)
missed_further w t exchange earlier x xs r =
    record {
      after = x ∷ r.after;
      rest = r.rest;
      order = ap (λ zs. x ∷ zs) r.order;
      own = r.own;
      world = r.world;
      leads = r.leads;
      finds = r.finds;
    }

head_is : {m n : StepMade} {ms ns : List StepMade} → m ∷ ms ≡ n ∷ ns → m ≡ n
head_is h = cc h

tail_is : {m n : StepMade} {ms ns : List StepMade} → m ∷ ms ≡ n ∷ ns → ms ≡ ns
tail_is h = cc h

-- t's exchange stands before these later steps of its own
find_exchange : (w : World) (t : ℕ) (later : List StepMade) (exchange : StepMade) (earlier : List StepMade) (xs : Steps) (v : World)
    → Leads w xs v → steps_by t xs ≡ later ++ exchange ∷ earlier → Missed w t exchange earlier xs
find_exchange w t [] exchange earlier xs v stays h = absurd (cc h)
find_exchange w t (z ∷ zs) exchange earlier xs v stays h = absurd (cc h)
find_exchange w t [] exchange earlier xs v (goes ys x u p before within next) h =
    by_equal u t (λ e. mine e)
    (λ d. missed_further w t exchange earlier (u, made p (x.words p.at)) ys
    (find_exchange w t [] exchange earlier ys x before (sym (other_step t u (made p (x.words p.at)) ys d) ∙ h)))
  where
    m : StepMade
    m = made p (x.words p.at)

    mine : u ≡ t → Missed w t exchange earlier ((u, made p (x.words p.at)) ∷ ys)
    mine e =
        let both : m ∷ steps_by t ys ≡ exchange ∷ earlier = sym (own_step t u m ys e) ∙ h in
        let first : m ≡ exchange = head_is both in
        record {
          after = [];
          rest = ys;
          order = (λ i. (e i, first i) ∷ ys);
          own = tail_is both;
          world = x;
          leads = before;
          finds = subst (λ (n : StepMade). n.found ≡ x.words n.plan.at) first refl;
        }
find_exchange w t (z ∷ zs) exchange earlier xs v (goes ys x u p before within next) h =
    by_equal u t
    (λ e. missed_further w t exchange earlier (u, made p (x.words p.at)) ys
    (find_exchange w t zs exchange earlier ys x before (tail_is (sym (own_step t u (made p (x.words p.at)) ys e) ∙ h))))
    (λ d. missed_further w t exchange earlier (u, made p (x.words p.at)) ys
    (find_exchange w t (z ∷ zs) exchange earlier ys x before (sym (other_step t u (made p (x.words p.at)) ys d) ∙ h)))

-- one of these steps, with those before and after it
record StandsAmong (Q : StepMade → List StepMade → Type 0) (ms : List StepMade) : Type 0 where
  pub later : List StepMade
  pub exchange : StepMade
  pub earlier : List StepMade
  pub is : ms ≡ later ++ exchange ∷ earlier
  pub so : Q exchange earlier

find_among : (Q : StepMade → List StepMade → Type 0) (ms : List StepMade) → AmongAfter Q ms → StandsAmong Q ms
find_among Q [] h = absurd h
find_among Q (m ∷ ms) (inl h) = record { later = []; exchange = m; earlier = ms; is = refl; so = h }
find_among Q (m ∷ ms) (inr h) =
    let r = find_among Q ms h in
    record { later = m ∷ r.later; exchange = r.exchange; earlier = r.earlier; is = ap (λ zs. m ∷ zs) r.is; so = r.so }

pub blamed : (w : World) (t : ℕ) (xs : Steps) (v : World) (expected found : ℕ) → Leads w xs v
    → causes.Missed LastSeen expected found (steps_by t xs)
    → WasOvertaken t expected found xs
blamed w t xs v expected found leads h =
    let s = find_among _ (steps_by t xs) h.among in
    let r = find_exchange w t s.later s.exchange s.earlier xs v leads s.is in
    let at = h.at in
    let here : s.exchange.plan.at ≡ at = s.so.1 in
    let c = find_change w t at expected r.rest r.world r.leads (ap (last_seen at) r.own ∙ s.so.4)
    (λ e. h.differ (sym s.so.3 ∙ r.finds ∙ ap r.world.words here ∙ e)) in
    record {
      sight = c.seen.sight;
      other = c.other;
      change = c.change;
      exchange = s.exchange;
      before = c.seen.before;
      between = c.seen.between;
      until = c.until;
      after = r.after;
      order = r.order ∙ ap (λ ys. r.after ++ (t, s.exchange) ∷ ys) (c.order ∙ ap (λ ys. c.until ++ (c.other, c.change) ∷ ys) c.seen.order);
      at = at;
      seen_at = c.seen.seen_at;
      changed_at = c.changed_at;
      exchanged_at = here;
      saw = c.seen.saw;
      another = c.another;
      changed = c.changed;
      word = s.so.0;
      exchanges = s.so.2;
      finds = s.so.3;
      missed = h.differ;
    }

-- so it is with a call of whose paths this is said
pub call_blamed : {A : Type 0} (P : List StepMade → A → Type 0) (t : ℕ) (d : StepTree A) (xs : Steps) (a : A) (expected found : ℕ)
    → ((ms : List StepMade) → P ms a → causes.Missed LastSeen expected found ms) → Always P [] d → IsCallOf t d xs a
    → WasOvertaken t expected found xs
call_blamed P t d xs a expected found says always h =
    blamed h.first t xs h.last expected found h.leads (says (steps_by t xs) (on_path P d [] (steps_by t xs) a always h.path))
