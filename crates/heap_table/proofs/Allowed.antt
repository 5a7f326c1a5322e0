-- The next step of a thread keeps the rule of the table: by the law of all steps it leads from a sound world to a sound one.
use Rattle.std.proofs.Common.{◌≡◌, ◌≢◌, ℕ, List, [], ◌∷◌, length, get_or, set, Bool, true, false, cond, refl, sym, ap, ◌∙◌, subst, ⊎_elim, arith, length-set}
use Rattle.std.specs.Prelude.{slice_index, slice_set}
use Rattle.std.proofs.lemmas.List.{get_or-set_same, get_or-set_other}
use mathlib.Core.Option.{some}
use lib.ListN.{get_elem?}
use Rattle.atomic_table.specs.Table.{Me, Allows, stepped, keeps}
use Rattle.atomic_table.proofs.Lists.{at_set}
use Rattle.core_world.specs.declared.word_id.WordId.{WordId}
use Rattle.core_world.specs.declared.act.Act.{Act as ActOf}
use Rattle.core_world.specs.declared.plan.StepPlan.{StepPlan}
use Rattle.core_world.specs.Words.Acts.{word_after}
use Rattle.core_world.specs.Threads.ThreadView.{ThreadView}
use Rattle.core_world.specs.Words.Names.{same_name, with_word}
use Rattle.core_world.specs.Words.Shape.{Shape}
use Rattle.core_world.specs.Steps.{known_after, world_after}
use Rattle.core_law.specs.Logic.{Heap}
use Rattle.core_law.specs.Sound.{Sound}
use Rattle.core_law.proofs.Lawful.{known_step_sound, known_step_comes}
use Rattle.core_world.specs.World.{with_known}
use Rattle.core_world.proofs.Naming.{same_named}
use Rattle.core_world.specs.There.{IsIn}
use Rattle.heap_table.specs.Layout.{place_of, word_count}
use Rattle.heap_table.specs.Ruled.{heap_in, only}
use Rattle.heap_table.specs.inner.Ruled.{MayStep, Each, Differ, Shows, Rules, Ruled, Told}
use Rattle.heap_table.specs.declared.setting.Setting.{Setting}
use Rattle.heap_table.proofs.Places.{within, apart}
use Rattle.heap_table.proofs.Knows.{same_thread, told_here, told_else}

pub each_map : {P Q : ThreadView → Type 0} → ((k : ThreadView) → P k → Q k) → (v : List ThreadView) → Each P v → Each Q v
each_map f [] h = tt
each_map f (k ∷ ks) h = (f k h.0, each_map f ks h.1)

-- the words after a write to one of them
words_set : (shape : Shape) (ws : List ℕ) (f : WordId → ℕ) (n : WordId) (x y : ℕ) → IsIn shape n → length ws ≡ word_count shape → x ≡ y
    → ((m : WordId) → IsIn shape m → slice_index ws (place_of shape m) ≡ f m)
    → (m : WordId) → IsIn shape m → slice_index (slice_set ws (place_of shape n) x) (place_of shape m) ≡ with_word n y f m
words_set shape ws f n x y here wide same at m there = cases (same_name m n) refl
  where
    cases : (b : Bool) → same_name m n ≡ b → slice_index (slice_set ws (place_of shape n) x) (place_of shape m) ≡ cond b y (f m)
    cases true e =
        ap (λ (l : WordId). get_or (set ws (place_of shape n) x) (place_of shape l) 0) (same_named m n e)
        ∙ get_or-set_same ws (place_of shape n) x 0 (let h = within shape n here in omega (arith, h, wide))
        ∙ same
    cases false e = get_or-set_other ws (place_of shape n) (place_of shape m) x 0 (λ p. apart shape m n there here e p) ∙ at m there

module _ {S : Type 0} where
  pub allows : (b : Heap) (p : StepPlan) (slots id : ℕ) (m : ThreadView) (f : ℕ → ℕ) → MayStep b m p → ((n : ℕ) → f n ≡ word_after p.act n)
      → Allows {S = S} (Rules b) slots id (m ∷ [], []) (place_of b.shape p.at) f (λ n after. Told b p (m ∷ [], []) n after)
  allows b p slots id m f may acts s (w, who, sh, sound, came) count at fits =
      let k : ThreadView = m in
      let n : ℕ = slice_index s.words (place_of b.shape p.at) in
      let found : n ≡ w.words p.at = sh.words_are p.at may.at in
      let mine = sh.knows id (m ∷ []) at in
      let knew : w.known k.thread ≡ k = mine.0.0.0 in
      let who_is : who k.thread ≡ id = mine.0.0.1 in
      let sound' : Sound (world_after p k.thread w) = known_step_sound b k p may.next w sh.is_of knew may.within (came.law.begins p.task) sound in
      let now : ThreadView = known_after b.shape b.start p n m in
      let said : ThreadView = known_after w.shape w.start p (w.words p.at) (w.known k.thread) in
      let now_is : now ≡ said = λ i. known_after (sym sh.is_of i).shape (sym sh.is_of i).start p (found i) (sym knew i) in
      let thread_is : now.thread ≡ k.thread = same_thread b.shape b.start p n k in
      let knows' : (j : ℕ) (v : List ThreadView) → get_elem? (slice_set s.views id (now ∷ [])) j ≡ some v
      → Each (λ (o : ThreadView). ((world_after p k.thread w).known o.thread ≡ o) × (who o.thread ≡ j)) v × Differ v = λ j v e.
      ⊎_elim
      (λ (x : (j ≡ id) × (now ∷ [] ≡ v)).
      let P : List ThreadView → Type 0 = λ u. Each (λ (o : ThreadView). ((world_after p k.thread w).known o.thread ≡ o) × (who o.thread ≡ j)) u × Differ u in
      subst P x.1 (
        (
          (
            ap (with_known k.thread said w.known) thread_is ∙ told_here k.thread said w.known ∙ sym now_is,
            ap who thread_is ∙ who_is ∙ sym x.0,
          ),
          tt,
        ),
        (tt, tt),
      ))
      (λ (x : (j ≢ id) × (get_elem? s.views j ≡ some v)).
      let old = sh.knows j v x.1 in
      (each_map (λ (o : ThreadView) h. (told_else k.thread said w.known o.thread (λ same. x.0 (sym h.1 ∙ ap who same ∙ who_is)) ∙ h.0, h.1)) v old.0, old.1))
      (at_set s.views id j (now ∷ []) v e) in
      let shows' : Shows b (stepped s (place_of b.shape p.at) (f n) id [] (now ∷ []) keeps) (world_after p k.thread w) who =
      record {
        is_of = sh.is_of;
        wide = length-set s.words (place_of b.shape p.at) (f n) ∙ sh.wide;
        words_are = words_set b.shape s.words w.words p.at (f n)
            (word_after p.act (w.words p.at)) may.at sh.wide (acts n ∙ ap (word_after p.act) found) sh.words_are;
        knows = knows';
      } in (
        now ∷ [],
        keeps,
        tt,
        (
          world_after p k.thread w,
          who,
          shows',
          sound',
          record {
            comes = known_step_comes b k p may.next w sh.is_of knew may.within came.comes;
            law = came.law;
          },
        ),
        (refl, record { world = w; is_of = sh.is_of; sound = sound; knew = knew; was_there = sym found; sound_after = sound' }),
      )

  -- the same, where what the call was given is known by equations
  pub allows_as : (b key : Setting) (chosen : Heap) (p picked : StepPlan) (slots id i : ℕ) (me : Me S (List ThreadView)) (a : ActOf) (f : ℕ → ℕ)
      → chosen ≡ heap_in b → picked ≡ p → key ≡ b → me ≡ (only me.0 ∷ [], []) → i ≡ place_of b.shape p.at → p.act ≡ a → ((n : ℕ) → f n ≡ word_after a n)
      → MayStep (heap_in b) (only me.0) p
      → Allows {S = S} (Ruled key) slots id me i f (λ n after. Told chosen picked me n after)
  allows_as b key chosen p picked slots id i me a f chosen_is picked_is key_is me_is i_is act_is acts may =
      let P : Heap × StepPlan × Setting × Me S (List ThreadView) × ℕ
      → Type 0 = λ x. Allows {S = S} (Ruled x.2) slots id x.3 x.4 f (λ n after. Told x.0 x.1 x.3 n after) in
      subst P (λ j. (sym chosen_is j, sym picked_is j, sym key_is j, sym me_is j, sym i_is j))
      (allows (heap_in b) p slots id (only me.0) f may (λ n. acts n ∙ ap (λ (c : ActOf). word_after c n) (sym act_is)))
