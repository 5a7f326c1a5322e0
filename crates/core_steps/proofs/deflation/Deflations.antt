-- A deflation at a reached safepoint, monitor by monitor: whatever monitors are idle, the steps keep every valid world valid. What its thread carries it
-- leaves, and of what the thread saw there before, all that is still needed after it. And after it no monitor that a mark names is idle.
use Rattle.std.proofs.Common.{◌≡◌, ◌≢◌, ℕ, zero, suc, ◌+◌, ◌<◌, ◌≤◌, ◌==◌, ◌&&◌, eq-eqb, eqb-true, not, Bool}
use Rattle.std.proofs.Common.{true, false, cond, List, [], ◌∷◌, length, Option, Some, None, refl, sym, ap, ◌∙◌, subst, arith, inl, inr}
use Rattle.std.specs.List.{list_all}
use Rattle.std.proofs.lemmas.Option.{same_Some}
use Rattle.mark_word.specs.declared.owner.OwnerForm.TheVariants.{Free}
use Rattle.mark_word.specs.Owner.{owner_of}
use Rattle.core_world.specs.declared.word_id.WordId.TheVariants as word_id
use Rattle.core_world.specs.Words.Forms.{monitor_in, waits_on, says_notified, enters_on}
use Rattle.core_world.specs.Words.Shape.{monitor_count}
use Rattle.core_world.specs.Threads.ThreadView.{ThreadView, Still, last_seen}
use Rattle.core_world.specs.Steps.{known_hit}
use Rattle.core_world.specs.Trees.StepTree.{StepTree, done, each_from, all_from, ◌>>=◌}
use Rattle.core_world.specs.Trees.Plans.{load_plan}
use Rattle.core_world.specs.Trees.DeflateSteps.{is_untouched, names_monitor, look_at, deflate_free, deflate_named, deflate_monitor, deflate_steps}
use Rattle.core_world.specs.Valid.{Fits}
use Rattle.core_world.proofs.KnowledgeParts.{by_equal}
use Rattle.core_locks.specs.DeflationLaws.{Saw, SawUntouched}
use Rattle.core_law.specs.Logic.{SoundWorldWith, Keeps, Does}
use Rattle.core_law.proofs.Standing.{away, home}
use Rattle.core_law.proofs.SafepointSights.{Seeing, is_as_seen, forms_fit}
use Rattle.core_steps.specs.Deflated.{IsBack, IsSettled, NamedAreInUse, GivenBackAreClean, is_taken_by}
use Rattle.core_steps.proofs.deflation.DeflationLooks.{OneDeflation, Idles, Looked, looked_all, looked_itself, Clears, Settles, AllSettled}
use Rattle.core_steps.proofs.deflation.DeflationLooks.{Holding, holding_all, looked_holds, all_at, saw_at, still_looked_at, look}
use Rattle.core_steps.proofs.deflation.GivesBack.{gives_back}
use Rattle.core_steps.proofs.deflation.Ringed.{IsOut, unnamed, stands_in_ring, none_returns}
use Rattle.core_steps.proofs.safepoint.SafepointLooks.{Facts, each_does, going}
use Rattle.core_steps.proofs.Trees.{answers, chooses, follows, hitting}
use Rattle.core_steps.proofs.Tests.{both}

none_of : (a b c : Bool) → (not a && not b && not c) ≡ true → (a ≡ false) × (b ≡ false) × (c ≡ false)
none_of false false false h = (refl, refl, refl)
none_of true b c h = absurd (cc h)
none_of false true c h = absurd (cc h)
none_of false false true h = absurd (cc h)

module _ (this : OneDeflation) where
  open this use {heap, call as e, before as k0, stage as st, plain}

  -- LOOKING AT ALL WAITING WORDS
  abbrev WasSeen : ℕ → ℕ → ThreadView → Type 0
  WasSeen u w l = last_seen (word_id.Waiting u) l.seen_at_safepoint ≡ Some w

  was_seen_more : (u w : ℕ) (k l : ThreadView) → Seeing k l → WasSeen u w k → WasSeen u w l
  was_seen_more u w k l s h = s.saw (word_id.Waiting u) w h

  abbrev look_of : ℕ → StepTree ℕ
  look_of u = look_at e st (word_id.Waiting u)

  -- what had been given back where the loop began still is
  record IdlesSince (k l : ThreadView) : Type 0 where
    pub idles : Idles this l
    pub back : (m : ℕ) → is_taken_by l.seen_at_safepoint m ≡ is_taken_by k.seen_at_safepoint m

  look_does : (k : ThreadView) (u : ℕ) (l : ThreadView) → u < heap.shape.threads → IdlesSince k l
      → Does heap false (look_of u) l (λ b a z. IdlesSince k z × Seeing l z × WasSeen u a z)
  look_does k u l thread x =
      look this (word_id.Waiting u) done l _ x.idles (λ v. thread)
      (λ n z y s saw was. answers heap false n z _ (record { idles = y; back = λ m. s.back m ∙ x.back m }, s.sights, saw))

  abbrev AllSeen : ThreadView → ℕ → ℕ → List ℕ → ThreadView → Type 0
  AllSeen k i n xs l = Facts heap look_of (IdlesSince k) WasSeen was_seen_more heap.shape.threads (look_does k) i n xs l

  -- what was seen of all waiting words, where each passes the test
  untouched_all : (k : ThreadView) (o i n : ℕ) (xs : List ℕ) (l : ThreadView)
      → AllSeen k i n xs l → list_all (λ w. is_untouched o w) xs ≡ true → (t : ℕ) → t < n
      → SawUntouched l o (i + t)
  untouched_all k o i zero xs l facts all t h = absurd (omega (arith, h))
  untouched_all k o i (suc n) [] l facts all t h = absurd facts
  untouched_all k o i (suc n) (w ∷ xs) l facts all zero h =
      let a = both (is_untouched o w) (list_all (λ w. is_untouched o w) xs) all in
      let b = none_of (waits_on w o) (says_notified w o) (enters_on w o) a.0 in
      let same : i ≡ i + 0 = omega arith in
      subst (SawUntouched l o) same (w, facts.0, b.0, b.1, b.2)
  untouched_all k o i (suc n) (w ∷ xs) l facts all (suc t) h =
      let a = both (is_untouched o w) (list_all (λ w. is_untouched o w) xs) all in
      let same : i + 1 + t ≡ i + suc t = omega arith in
      subst (SawUntouched l o) same (untouched_all k o (i + 1) n xs l facts.1 a.1 t (omega (arith, h)))

  -- and where one doesn't, the thread whose word that is
  touched_one : (k : ThreadView) (o i n : ℕ) (xs : List ℕ) (l : ThreadView) → AllSeen k i n xs l → list_all (λ w. is_untouched o w) xs ≡ false
      → (u w : ℕ) × (u < i + n) × WasSeen u w l × (is_untouched o w ≡ false)
  touched_one k o i zero [] l facts none = absurd (cc none)
  touched_one k o i zero (w ∷ xs) l facts none = absurd facts
  touched_one k o i (suc n) [] l facts none = absurd facts
  touched_one k o i (suc n) (w ∷ xs) l facts none = by_word (is_untouched o w) refl (λ rest. touched_one k o (i + 1) n xs l facts.1 rest)
    where
      by_word : (b : Bool) → is_untouched o w ≡ b → (list_all (λ w. is_untouched o w) xs ≡ false → (u v : ℕ) × (u < i + 1 + n)
          × WasSeen u v l × (is_untouched o v ≡ false)) → (u v : ℕ) × (u < i + suc n) × WasSeen u v l × (is_untouched o v ≡ false)
      by_word false h more = (i, w, omega arith, facts.0, h)
      by_word true h more =
          let rest : list_all (λ w. is_untouched o w) xs ≡ false = ap (λ (b : Bool). b && list_all (λ w. is_untouched o w) xs) (sym h) ∙ none in
          let y = more rest in
          (y.0, y.1, (let z = y.2 in omega (arith, z)), y.3, y.4)

  -- THE VISIT of a monitor
  object_there : (k : ThreadView) (m : ℕ) → 0 < length heap.shape.objects
      → (v : SoundWorldWith heap k) → v.world.words (word_id.Object m) < length heap.shape.objects
  object_there k m some v = home heap k v (λ s y. 0 < length s.objects → v.world.words (word_id.Object m) < length s.objects) (λ h. within h) some
    where
      within : 0 < length v.world.shape.objects → v.world.words (word_id.Object m) < length v.world.shape.objects
      within h = by_equal (v.world.words (word_id.Object m)) 0 (λ z. omega (arith, z, h)) (λ d. (forms_fit heap k v).objects m d)

  names_it : (n : Option ℕ) (m : ℕ) → names_monitor n m ≡ true → n ≡ Some m
  names_it None m h = absurd (cc h)
  names_it (Some n) m h = ap Some (eqb-true n m h)

  names_not : (n : Option ℕ) (m : ℕ) → names_monitor n m ≡ false → n ≢ Some m
  names_not None m h q = absurd (cc q)
  names_not (Some n) m h q = let yes = eq-eqb n m (same_Some n m q) in absurd (cc (h, yes))

  -- where its object's mark names it and nobody owns it
  free_does : (o m mark : ℕ) (k : ThreadView) → m < monitor_count heap.shape → o < length heap.shape.objects → Idles this k → Saw k (word_id.Object m) o
      → Saw k (word_id.Mark o) mark → monitor_in mark ≡ Some m
      → Saw k (word_id.Owner m) (owner_of Free)
      → Does heap false (deflate_free heap.shape e st o m) k (λ b a l. Idles this l × Holding heap.shape k l × Settles heap.shape l m)
  free_does o m mark k there object x saw_object saw_mark named saw_owner =
      going heap (each_from 0 heap.shape.threads look_of) _ k _ (follows heap false _ k _ _
      (each_does heap look_of (IdlesSince k) WasSeen was_seen_more heap.shape.threads
      (look_does k) 0 heap.shape.threads k (omega arith) (record { idles = x; back = λ i. refl })) (λ b words l y.
      let s = y.1 in
      let looked : Looked k l = record { sights = s; back = y.0.back } in
      chooses heap false (list_all (λ w. is_untouched o w) words) _ _ l _ (λ idle.
      let untouched : (u : ℕ) → u < heap.shape.threads → SawUntouched l o u = λ u h. subst (λ z. SawUntouched l o z)
      (let z : 0 + u ≡ u = omega arith in z) (untouched_all k o 0 heap.shape.threads words l y.2 idle u h) in
      look this (word_id.Header m) _ l _ y.0.idles (λ v. there) (λ header l1 x1 s1 saw_header was1.
      look this word_id.End _ l1 _ x1 (λ v. tt) (λ end l2 x2 s2 saw_end was2.
      follows heap false _ l2 _ _ (gives_back this o m mark header end l l2 x2 (looked_all l l1 l2 s1 s2) object there
      (s.saw (word_id.Mark o) mark saw_mark) named (s.saw (word_id.Owner m) (owner_of Free) saw_owner) untouched
      (s2.sights.saw (word_id.Header m) header saw_header) saw_end)
      (λ b a z h. (h.0, holding_all heap.shape k l z (looked_holds heap.shape k l looked) h.1, h.2)))))
      (λ busy.
      let one = touched_one k o 0 heap.shape.threads words l y.2 busy in
      let thread : one.0 < heap.shape.threads = let z = one.2 in omega (arith, z) in
      answers heap false _ l _ (
        y.0.idles,
        looked_holds heap.shape k l looked,
        inr (
          o,
          mark,
          s.saw (word_id.Object m) o saw_object,
          s.saw (word_id.Mark o) mark saw_mark,
          λ q. inr (one.0, one.1, thread, one.3, one.4),
        ),
      ))))

  -- where its object's mark names it
  named_does : (o m mark : ℕ) (k : ThreadView) → m < monitor_count heap.shape → o < length heap.shape.objects → Idles this k → Saw k (word_id.Object m) o
      → Saw k (word_id.Mark o) mark → monitor_in mark ≡ Some m
      → Does heap false (deflate_named heap.shape e st o m) k (λ b a l. Idles this l × Holding heap.shape k l × Settles heap.shape l m)
  named_does o m mark k there object x saw_object saw_mark named =
      look this (word_id.Owner m) _ k _ x (λ v. there) (λ owner l y looked saw_owner was.
      let s = looked.sights in
      chooses heap false (owner == owner_of Free) _ _ l _ (λ free.
      follows heap false _ l _ _ (free_does o m mark l there object y (s.saw (word_id.Object m) o saw_object)
      (s.saw (word_id.Mark o) mark saw_mark) named (saw_owner ∙ ap Some (eqb-true owner (owner_of Free) free)))
      (λ b a z h. (h.0, holding_all heap.shape k l z (looked_holds heap.shape k l looked) h.1, h.2)))
      (λ busy.
      let owned : owner ≢ owner_of Free = λ q. let yes = eq-eqb owner (owner_of Free) q in absurd (cc (busy, yes)) in
      answers heap false _ l _ (
        y,
        looked_holds heap.shape k l looked,
        inr (o, mark, s.saw (word_id.Object m) o saw_object, s.saw (word_id.Mark o) mark saw_mark, λ q. inl (owner, saw_owner, owned)),
      )))

  -- after the look this at its object word
  abbrev after_object : ℕ → ℕ → StepTree (Unit {0})
  after_object m o = look_at e st (word_id.Mark o) >>= (λ mark. cond (names_monitor (monitor_in mark) m) (deflate_named heap.shape e st o m) (done tt))

  after_does : (m o : ℕ) (k : ThreadView) → m < monitor_count heap.shape → o < length heap.shape.objects → Idles this k → Saw k (word_id.Object m) o
      → Does heap false (after_object m o) k (λ b a l. Idles this l × Holding heap.shape k l × Settles heap.shape l m)
  after_does m o k there object x saw_object =
      look this (word_id.Mark o) _ k _ x (λ v. object) (λ mark l y looked saw_mark was.
      let saw_it = looked.sights.saw (word_id.Object m) o saw_object in
      chooses heap false (names_monitor (monitor_in mark) m) _ _ l _ (λ yes.
      follows heap false _ l _ _ (named_does o m mark l there object y saw_it saw_mark (names_it (monitor_in mark) m yes))
      (λ b a z h. (h.0, holding_all heap.shape k l z (looked_holds heap.shape k l looked) h.1, h.2)))
      (λ no. answers heap false _ l _
      (y, looked_holds heap.shape k l looked, inr (o, mark, saw_it, saw_mark, λ q. absurd (names_not (monitor_in mark) m no q)))))

  monitor_does : (m : ℕ) (k : ThreadView) → m < monitor_count heap.shape → 0 < length heap.shape.objects → Idles this k
      → Does heap false (deflate_monitor heap.shape e st m) k (λ b a l. Idles this l × Holding heap.shape k l × Settles heap.shape l m)
  monitor_does m k there some x =
      look this (word_id.Object m) (after_object m) k _ x (λ v. there) (λ o l y looked saw_object was.
      let object : o < length heap.shape.objects = subst (λ z. z < length heap.shape.objects) was.found (object_there k m some was.stands) in
      follows heap false _ l _ _ (after_does m o l there object y saw_object)
      (λ b a z h. (h.0, holding_all heap.shape k l z (looked_holds heap.shape k l looked) h.1, h.2)))

  -- ALL MONITORS, n of them from the number i on
  abbrev AreSettled : ℕ → ℕ → ThreadView → Type 0
  AreSettled i n l = (m : ℕ) → i ≤ m → m < i + n → Settles heap.shape l m

  settled_first : (i n m : ℕ) (l : ThreadView) → Settles heap.shape l i → AreSettled (i + 1) n l → i ≤ m → m < i + suc n → Settles heap.shape l m
  settled_first i n m l one others h g = by_equal m i (λ q. subst (Settles heap.shape l) (sym q) one) (λ d. others m (omega (arith, h, d)) (omega (arith, g)))

  all_do : (i n : ℕ) (k : ThreadView) → i + n ≤ monitor_count heap.shape → 0 < length heap.shape.objects → Idles this k
      → Does heap false (all_from i n (λ m. deflate_monitor heap.shape e st m)) k (λ b a l. Idles this l × Holding heap.shape k l × AreSettled i n l)
  all_do i zero k few some x = answers heap false _ k _ (x, looked_holds heap.shape k k (looked_itself k), λ m h g. absurd (omega (arith, h, g)))
  all_do i (suc n) k few some x =
      going heap (deflate_monitor heap.shape e st i) _ k _ (follows heap false _ k _ _ (monitor_does i k (omega (arith, few)) some x) (λ b a l y.
      follows heap false _ l _ _ (all_do (i + 1) n l (omega (arith, few)) some y.0) (λ c d z x.
      (x.0, holding_all heap.shape k l z y.1 x.1, λ m h g. settled_first i n m z (x.1.settled i y.2) x.2 h g))))

  some_objects : (length heap.shape.objects == 0) ≡ false → 0 < length heap.shape.objects
  some_objects some = by_equal (length heap.shape.objects) 0
      (λ z. let yes = eq-eqb (length heap.shape.objects) 0 z in absurd (cc (yes, some))) (λ d. omega (arith, d))

  pub deflate_settles : (k : ThreadView) → Idles this k → Does heap false (deflate_steps heap.shape e st) k
      (λ b a l. Idles this l × Holding heap.shape k l × AllSettled heap.shape l)
  deflate_settles k x =
      chooses heap false (length heap.shape.objects == 0) _ _ k _ (λ none. answers heap false _ k _
      (x, looked_holds heap.shape k k (looked_itself k), λ h. absurd (let z = eqb-true (length heap.shape.objects) 0 none in omega (arith, z, h))))
      (λ some. follows heap false _ k _ _ (all_do 0 (monitor_count heap.shape) k (omega arith) (some_objects some) x)
      (λ b a l y. (y.0, y.1, λ h m g. y.2 m (omega arith) (omega (arith, g)))))

  pub deflate_does : (k : ThreadView) → Idles this k → Does heap false (deflate_steps heap.shape e st) k (λ b a l. Idles this l × Holding heap.shape k l)
  deflate_does k x = follows heap false _ k _ _ (deflate_settles k x) (λ b a l y. (y.0, y.1))

  -- so in the world there, each monitor that a mark names is in use: its object word is that of this object, and it isn't one that was given back
  pub deflate_leaves : (l : ThreadView) → Idles this l → AllSettled heap.shape l → NamedAreInUse heap l
  deflate_leaves l x settled v o m object named =
      elim (settled (omega (arith, object)) m within) [
        | inl a ↦
            let out : IsOut v.world.shape l m = away heap l v (λ s y. IsOut s l m) a.1.out in
            let none = none_returns v.world v.objects l.thread fits
            (away heap l v (λ s y. y.reached ≡ true) x.reached) (away heap l v (λ s y. y.moving ≡ Still) x.still) in
            absurd (unnamed v.world v.objects fits l m (is_as_seen heap l v x.reached) out none o named)
        | inr a ↦
            let is : o ≡ a.0 = sym (fits.monitors.own o m named) ∙ is_as_seen heap l v x.reached (word_id.Object m) a.0 a.2 in
            let mark = ap marks_of is ∙ is_as_seen heap l v x.reached (word_id.Mark a.0) a.1 a.3 in
            elim (a.4 (ap monitor_in (sym mark) ∙ named)) [
              | inl y ↦ inl (λ q. y.2 (sym (is_as_seen heap l v x.reached (word_id.Owner m) y.0 y.1) ∙ q))
              | inr y ↦ inr (
                y.0,
                there y.0 y.2,
                ap (λ z. is_untouched z (v.world.words (word_id.Waiting y.0))) is
                    ∙ ap (λ z. is_untouched a.0 z) (is_as_seen heap l v x.reached (word_id.Waiting y.0) y.1 y.3) ∙ y.4,
              )
            ]
      ]
    where
      marks_of : ℕ → ℕ
      marks_of i = v.world.words (word_id.Mark i)

      fits : Fits v.world v.objects
      fits = (all_at this l v x.reached x.stands).fits

      within : m < monitor_count heap.shape
      within = home heap l v (λ s y. m < monitor_count s) (fits.claims.names o m named).0

      there : (u : ℕ) → u < heap.shape.threads → u < v.world.shape.threads
      there u h = away heap l v (λ s y. u < s.threads) h

  -- each that is clear is clean there, and stands in the ring
  back_of : (l : ThreadView) (m : ℕ) → Idles this l → Clears heap.shape l m → IsBack heap l m
  back_of l m x a v =
      let fits : Fits v.world v.objects = (all_at this l v x.reached x.stands).fits in
      let sees = is_as_seen heap l v x.reached in
      let out : IsOut v.world.shape l m = away heap l v (λ s y. IsOut s l m) a.out in
      let none = none_returns v.world v.objects l.thread fits
      (away heap l v (λ s y. y.reached ≡ true) x.reached) (away heap l v (λ s y. y.moving ≡ Still) x.still) in (
        record {
          owner = sees (word_id.Owner m) 0 a.owner;
          recursions = sees (word_id.Recursions m) 0 a.recursions;
          header = sees (word_id.Header m) 0 a.header;
          object = sees (word_id.Object m) 0 a.object;
        },
        stands_in_ring v.world v.objects fits l m sees out none,
        unnamed v.world v.objects fits l m sees out none,
      )

  pub settled_of : (l : ThreadView) (m : ℕ) → Idles this l → Settles heap.shape l m → IsSettled heap l m
  settled_of l m x h = elim h [ inl a ↦ inl (a.0, back_of l m x a.1) | inr a ↦ inr a ]

  -- and so is each that was given back
  pub deflate_cleans : (k l : ThreadView) → Idles this l → Holding heap.shape k l → GivenBackAreClean heap k l
  deflate_cleans k l x y m back unless = elim (y.fresh m back) [ inl a ↦ absurd (unless a) | inr a ↦ back_of l m x a ]

  -- FROM THE MIDDLE of something else that the first step ends, which is the look this at the object word of the first monitor
  pub record Ends (k : ThreadView) : Type 0 where
    pub keeps : Keeps heap (load_plan e st (word_id.Object 0)) k
    pub reached : k.reached ≡ true
    pub idles : (n : ℕ) → Idles this (known_hit heap.shape heap.start (load_plan e st (word_id.Object 0)) n k)

  first_does : (k : ThreadView) → 0 < monitor_count heap.shape → 0 < length heap.shape.objects → Ends k → Does heap false (deflate_monitor heap.shape e st 0) k
      (λ b a l. Idles this l × Holding heap.shape k l × Settles heap.shape l 0 × SoundWorldWith heap k)
  first_does k there some x =
      hitting heap false (load_plan e st (word_id.Object 0)) (after_object 0) k _ (λ n. refl) (λ i. x.keeps) (λ o i was.
      let l = known_hit heap.shape heap.start (load_plan e st (word_id.Object 0)) o k in
      let looked : Looked k l = still_looked_at this (word_id.Object 0) k o x.reached refl was in
      let object : o < length heap.shape.objects = subst (λ z. z < length heap.shape.objects) was.found (object_there k 0 some was.stands) in
      follows heap false _ l _ _ (after_does 0 o l there object (x.idles o) (saw_at this (word_id.Object 0) k o refl))
      (λ b a z h. (h.0, holding_all heap.shape k l z (looked_holds heap.shape k l looked) h.1, h.2, was.stands)))

  all_first : (n : ℕ) (k : ThreadView) → n ≤ monitor_count heap.shape → 0 < n → 0 < length heap.shape.objects → Ends k
      → Does heap false (all_from 0 n (λ m. deflate_monitor heap.shape e st m)) k
      (λ b a l. Idles this l × Holding heap.shape k l × AreSettled 0 n l × SoundWorldWith heap k)
  all_first zero k few many some x = absurd (omega (arith, many))
  all_first (suc n) k few many some x =
      going heap (deflate_monitor heap.shape e st 0) _ k _ (follows heap false _ k _ _ (first_does k (omega (arith, few)) some x) (λ b a l y.
      follows heap false _ l _ _ (all_do (0 + 1) n l (omega (arith, few)) some y.0) (λ c d m z.
      (z.0, holding_all heap.shape k l m y.1 z.1, λ i h g. settled_first 0 n i m (z.1.settled 0 y.2) z.2 h g, y.3))))

  pub deflate_ends : (k : ThreadView) → 0 < length heap.shape.objects → Ends k
      → Does heap false (deflate_steps heap.shape e st) k (λ b a l. Idles this l × Holding heap.shape k l × AllSettled heap.shape l × SoundWorldWith heap k)
  deflate_ends k object x =
      chooses heap false (length heap.shape.objects == 0) _ _ k _
      (λ none. absurd (let z = eqb-true (length heap.shape.objects) 0 none in omega (arith, z, object)))
      (λ some. follows heap false _ k _ _ (all_first (monitor_count heap.shape) k (omega arith) (omega (arith, object)) object x)
      (λ b a l y. (y.0, y.1, λ h m g. y.2 m (omega arith) (omega (arith, g)), y.3)))
