-- A step that logs an entry keeps what the bias law says of enters and marks.
use Rattle.std.proofs.Common.{◌≡◌, ◌⊎◌, ℕ, ◌==◌, ◌||◌, Bool, true, false, List, [], ◌∷◌, ◌++◌, Option}
use Rattle.std.proofs.Common.{Some, None, refl, sym, ap, ◌∙◌, subst, eqb-true, eq-eqb, inl, inr}
use Rattle.std.proofs.lemmas.Option.{same_Some}
use Rattle.std.specs.List.{list_any}
use Rattle.mark_word.specs.declared.mark.MarkForm.{MarkForm}
use Rattle.mark_word.specs.declared.mark.MarkForm.TheVariants.{Inflating, Neutral, Anonymous, Biased, Locked, Inflated, Marked}
use Rattle.mark_word.specs.Mark.{read_mark}
use Rattle.plain_monitor.specs.declared.entry.Entry.{Entry}
use Rattle.plain_monitor.specs.declared.entry.Entry.TheVariants as entry
use Rattle.plain_monitor.specs.declared.entry.Logged.{Logged}
use Rattle.plain_monitor.specs.declared.entry.Path.{Path}
use Rattle.plain_monitor.specs.declared.entry.Path.TheVariants.{BiasOwn, BiasTaken}
use Rattle.plain_history.specs.Tied.{bound_to, is_same_object}
use Rattle.core_world.specs.declared.stage.Stage.{Stage}
use Rattle.core_world.specs.declared.heap_call.Unfinished.{Unfinished}
use Rattle.core_world.specs.Words.Forms.{is_biased, is_biased_form}
use Rattle.core_world.specs.Locks.{Lock, BiasedTo}
use Rattle.core_world.specs.Threads.Stages.{path_into}
use Rattle.core_law.specs.MarksAndLogs.{EntersFitMarks, IsHashed, IsTaken, is_anonymous, is_anonymous_form}
use Rattle.plain_history.specs.EnterPaths.{EndsStay, first_path, ends_bias, needs_bias, is_by_bias, is_hash, has_hash}
use Rattle.bias_law.specs.Moves.{LockFitsMark, BiasesKept, OthersStay, LogsEntry}
use Rattle.core_world.proofs.KnowledgeParts.{by_equal}
use Rattle.plain_history.proofs.EntriesOn.{any_push, stays_push, first_stays, first_new}
use Rattle.bias_law.proofs.Owners.{any_logged, or_left, or_right}

pub anonymous_is_biased : (n : ℕ) → is_anonymous n ≡ true → is_biased n ≡ true
anonymous_is_biased n e = by_form (read_mark n) e
  where
    by_form : (f : Option MarkForm) → is_anonymous_form f ≡ true → is_biased_form f ≡ true
    by_form None e = absurd (cc e)
    by_form (Some Inflating) e = absurd (cc e)
    by_form (Some (Neutral h a)) e = absurd (cc e)
    by_form (Some (Anonymous h a)) e = refl
    by_form (Some (Biased u h a)) e = refl
    by_form (Some (Locked u p)) e = absurd (cc e)
    by_form (Some (Inflated m)) e = absurd (cc e)
    by_form (Some Marked) e = absurd (cc e)

either : (a b : Bool) → (a || b) ≡ true → (a ≡ true) ⊎ (b ≡ true)
either true b e = inl refl
either false b e = inr e

-- a log with one more entry
hash_push : (i : ℕ) (log : List Logged) (y : Logged) → has_hash i (log ++ y ∷ []) ≡ (has_hash i log || is_hash i y.entry)
hash_push i = any_logged (λ z. is_hash i z.entry)

-- the three kinds of paths
kind_of : (path : Path) → (path ≡ BiasTaken) ⊎ ((path ≡ BiasOwn) ⊎ (is_by_bias path ≡ false))
kind_of BiasOwn = inr (inl refl)
kind_of BiasTaken = inl refl
kind_of _ = inr (inr refl)

-- an entry that is the first enter is one
is_enter : (e : Entry) (path : Path) → first_path (e ∷ []) ≡ Some path → (i : ℕ) × (e ≡ entry.Enter i path)
is_enter (entry.Enter o p) path h = (o, ap (entry.Enter o) (same_Some p path h))
is_enter _ path h = absurd (cc h)

-- an entry that goes by a bias is an enter by one
pub is_by : (e : Entry) → needs_bias e ≡ true → (i : ℕ) × (path : Path) × (e ≡ entry.Enter i path) × (is_by_bias path ≡ true)
is_by (entry.Enter o p) h = (o, p, refl, h)
is_by _ h = absurd (cc h)

leaning_one : (t u : ℕ) → BiasedTo t ≡ BiasedTo u → t ≡ u
leaning_one t u e = cc e

-- an enter is bound to its object
pub enter_bound : (e : Entry) (j i : ℕ) (path : Path) → e ≡ entry.Enter j path → is_same_object (bound_to e) (Some i) ≡ (j == i)
enter_bound e j i path h = ap (λ (f : Entry). is_same_object (bound_to f) (Some i)) h

module _ (biasing : Bool) (there : ℕ → Bool) (class mark : ℕ → ℕ) (lock : ℕ → Lock) (entries : ℕ → List Entry)
    (log : ℕ → List Logged) (stage : ℕ → Stage) (unfinished : ℕ → Option Unfinished) (revoked : ℕ → ℕ) (mark2 : ℕ → ℕ) (lock2 : ℕ → Lock)
    (entries2 : ℕ → List Entry) (log2 : ℕ → List Logged) (stage2 : ℕ → Stage) (unfinished2 : ℕ → Option Unfinished) (t : ℕ) (y : Logged)
    (law : EntersFitMarks biasing there class mark lock entries log stage unfinished revoked) (by_mark : LockFitsMark mark lock)
    (kept : BiasesKept mark lock mark2 lock2) (others : OthersStay t log stage unfinished log2 stage2 unfinished2)
    (a : LogsEntry t y mark entries log stage unfinished entries2 log2 stage2 unfinished2) where
  -- a hash that was logged or open is so
  hashed : (i : ℕ) → IsHashed log unfinished i → IsHashed log2 unfinished2 i
  hashed i (u, inl h) = by_equal u t
      (λ e. (t, inl (ap (has_hash i) a.grows ∙ hash_push i (log t) y ∙ or_left _ _ (ap (λ v. has_hash i (log v)) (sym e) ∙ h))))
      (λ d. (u, inl (ap (has_hash i) (others.logs u d) ∙ h)))
  hashed i (u, inr h) = by_equal u t
      (λ e. elim (a.hash i (ap unfinished (sym e) ∙ h)) [
        | inl g ↦ (t, inr g)
        | inr g ↦ (t, inl (ap (has_hash i) a.grows ∙ hash_push i (log t) y ∙ or_right _ _ g))
      ])
      (λ d. (u, inr (others.operations u d ∙ h)))

  -- where no enter of i is logged, a bias of i that was being taken is
  taken : (i : ℕ) → ((path : Path) → y.entry ≡ entry.Enter i path → ⊥) → IsTaken stage i → IsTaken stage2 i
  taken i n (u, h) = by_equal u t
      (λ e. absurd (n BiasTaken (a.came i BiasTaken (ap (λ v. path_into (stage v) i) (sym e) ∙ h))))
      (λ d. (u, ap (λ s. path_into s i) (others.stages u d) ∙ h))

  -- the first enter of an object
  first : biasing ≡ true → (i : ℕ) (path : Path) → there i ≡ true → revoked (class i) ≡ 0 → first_path (entries i) ≡ None → path_into (stage t) i ≡ Some path
      → (path ≡ BiasTaken) ⊎ IsHashed log2 unfinished2 i
  first b i path is r none into = elim (kind_of path) [
    | inl k ↦ inl k
    | inr k ↦ inr (elim (law.unentered b i is r none) [
      | inl anonymous ↦ elim k [
        | inl own ↦ absurd (cc (anonymous, (by_mark i t (law.biased t i path into (ap is_by_bias own))).1))
        | inr not_by ↦ absurd (cc (anonymous_is_biased (mark i) anonymous, law.unbiased t i path into not_by))
      ]
      | inr rest ↦ elim rest [
        | inl taken ↦
            let leans = law.biased taken.0 i BiasTaken taken.1 refl in
            elim k [
              | inl own ↦
                  let same : t ≡ taken.0 = leaning_one t taken.0 (sym (law.biased t i path into (ap is_by_bias own)) ∙ leans) in
                  absurd (let c : path_into (stage t) i ≡ Some BiasTaken = ap (λ v. path_into (stage v) i) same ∙ taken.1 in cc (c, into, own))
              | inr not_by ↦ absurd (cc ((by_mark i taken.0 leans).0, law.unbiased t i path into not_by))
            ]
        | inr h ↦ hashed i h
      ]
    ])
  ]

  pub entry_keeps : EntersFitMarks biasing there class mark2 lock2 entries2 log2 stage2 unfinished2 revoked
  entry_keeps = record {
    ended = λ i e. kept.pattern i ∙ ended i (is_same_object (bound_to y.entry) (Some i)) refl e;
    stays = λ i. stays i (is_same_object (bound_to y.entry) (Some i)) refl;
    biased = λ u i path e b. by_equal u t
        (λ s. absurd (let l = a.left i in let c : path_into (stage2 t) i ≡ Some path = ap (λ v. path_into (stage2 v) i) (sym s) ∙ e in cc (l, c)))
        (λ d. kept.leans i u (law.biased u i path (ap (λ s. path_into s i) (sym (others.stages u d)) ∙ e) b));
    unbiased = λ u i path e b. by_equal u t
        (λ s. absurd (let l = a.left i in let c : path_into (stage2 t) i ≡ Some path = ap (λ v. path_into (stage2 v) i) (sym s) ∙ e in cc (l, c)))
        (λ d. kept.pattern i ∙ law.unbiased u i path (ap (λ s. path_into s i) (sym (others.stages u d)) ∙ e) b);
    unentered = λ b i is r e. unentered b i is r (is_same_object (bound_to y.entry) (Some i)) refl e;
    entered = λ b i path is r e. entered b i path is r (is_same_object (bound_to y.entry) (Some i)) refl e;
  }
    where
      ended : (i : ℕ) (c : Bool) → is_same_object (bound_to y.entry) (Some i) ≡ c → list_any ends_bias (entries2 i) ≡ true → is_biased (mark i) ≡ false
      ended i true c e = elim (either _ _ (sym (any_push ends_bias (entries i) y.entry) ∙ ap (list_any ends_bias) (sym (a.here i c)) ∙ e)) [
        | inl g ↦ law.ended i g
        | inr g ↦ a.ends i c g
      ]
      ended i false c e = law.ended i (ap (list_any ends_bias) (sym (a.elsewhere i c)) ∙ e)

      no_need : (i : ℕ) → is_same_object (bound_to y.entry) (Some i) ≡ true
          → list_any ends_bias (entries i) ≡ true → (d : Bool) → needs_bias y.entry ≡ d → d ≡ false
      no_need i c e false n = refl
      no_need i c e true n =
          let by = is_by y.entry n in
          let same : by.0 ≡ i = eqb-true by.0 i (sym (enter_bound y.entry by.0 i by.1 by.2) ∙ c) in
          let into : path_into (stage t) i ≡ Some by.1 = a.enters i by.1 (by.2 ∙ ap (λ j. entry.Enter j by.1) same) in
          absurd (cc ((by_mark i t (law.biased t i by.1 into by.3)).0, law.ended i e))

      stays : (i : ℕ) (c : Bool) → is_same_object (bound_to y.entry) (Some i) ≡ c → EndsStay (entries2 i)
      stays i true c =
          subst EndsStay (sym (a.here i c)) (stays_push (entries i) y.entry (law.stays i) (λ e. let n = no_need i c e (needs_bias y.entry) refl in n))
      stays i false c = subst EndsStay (sym (a.elsewhere i c)) (law.stays i)

      not_elsewhere : (i : ℕ) → is_same_object (bound_to y.entry) (Some i) ≡ false → (path : Path) → y.entry ≡ entry.Enter i path → ⊥
      not_elsewhere i c path e = absurd (let b = enter_bound y.entry i i path e in let s = eq-eqb i i refl in cc (b, c, s))

      unentered : biasing ≡ true → (i : ℕ) → there i ≡ true → revoked (class i) ≡ 0 → (c : Bool)
          → is_same_object (bound_to y.entry) (Some i) ≡ c → first_path (entries2 i) ≡ None
          → (is_anonymous (mark2 i) ≡ true) ⊎ IsTaken stage2 i ⊎ IsHashed log2 unfinished2 i
      unentered b i is r true c e = before (first_path (entries i)) refl
        where
          before : (p : Option Path) → first_path (entries i) ≡ p → (is_anonymous (mark2 i) ≡ true) ⊎ IsTaken stage2 i ⊎ IsHashed log2 unfinished2 i
          before (Some p) f = absurd (let g = first_stays (entries i) y.entry p f in let s = ap first_path (a.here i c) in cc (e, g, s))
          before None f = elim (law.unentered b i is r f) [
            | inl g ↦ inl (kept.nobody i ∙ g)
            | inr g ↦ elim g [
              | inl k ↦ inr (inl (taken i (λ path n. absurd (let s = ap first_path (a.here i c) in
                  let q = first_new (entries i) y.entry f in let m = ap (λ (d : Entry). first_path (d ∷ [])) n in cc (e, s, q, m))) k))
              | inr k ↦ inr (inr (hashed i k))
            ]
          ]
      unentered b i is r false c e = elim (law.unentered b i is r (ap first_path (sym (a.elsewhere i c)) ∙ e)) [
        | inl g ↦ inl (kept.nobody i ∙ g)
        | inr g ↦ elim g [ inl k ↦ inr (inl (taken i (not_elsewhere i c) k)) | inr k ↦ inr (inr (hashed i k)) ]
      ]

      keeps : (i : ℕ) (path : Path) → (path ≡ BiasTaken) ⊎ IsHashed log unfinished i → (path ≡ BiasTaken) ⊎ IsHashed log2 unfinished2 i
      keeps i path (inl e) = inl e
      keeps i path (inr h) = inr (hashed i h)

      entered : biasing ≡ true → (i : ℕ) (path : Path) → there i ≡ true → revoked (class i) ≡ 0
          → (c : Bool) → is_same_object (bound_to y.entry) (Some i) ≡ c → first_path (entries2 i) ≡ Some path
          → (path ≡ BiasTaken) ⊎ IsHashed log2 unfinished2 i
      entered b i path there r true c e = before (first_path (entries i)) refl
        where
          before : (p : Option Path) → first_path (entries i) ≡ p → (path ≡ BiasTaken) ⊎ IsHashed log2 unfinished2 i
          before (Some p) f =
              let same : p ≡ path = same_Some p path (sym (first_stays (entries i) y.entry p f) ∙ ap first_path (sym (a.here i c)) ∙ e) in
              keeps i path (law.entered b i path there r (f ∙ ap Some same))
          before None f =
              let is = is_enter y.entry path (sym (first_new (entries i) y.entry f) ∙ ap first_path (sym (a.here i c)) ∙ e) in
              let same : is.0 ≡ i = eqb-true is.0 i (sym (enter_bound y.entry is.0 i path is.1) ∙ c) in
              first b i path there r f (a.enters i path (is.1 ∙ ap (λ j. entry.Enter j path) same))
      entered b i path there r false c e = keeps i path (law.entered b i path there r (ap first_path (sym (a.elsewhere i c)) ∙ e))
