-- The look at the waiting words: how far it has come.
use Rattle.std.proofs.Common.{◌≡◌, ℕ, zero, suc, ◌+◌, ◌<◌, List, [], ◌∷◌, ◌++◌, length, take, set, refl, sym, ap, ◌∙◌, subst, arith, append_assoc, append-nil}
use Rattle.std.proofs.lemmas.List.{take_more_set}
use Rattle.core_world.specs.declared.word_id.WordId.TheVariants.{Waiting}
use Rattle.core_world.specs.Trees.Plans.{CallContext, load}
use Rattle.core_world.specs.Trees.StepTree.{StepTree, done, ◌>>=◌, ask, each_from}
use Rattle.core_world.specs.Trees.WaitSteps.{look_steps}
use Rattle.heap_table.specs.Parts.{IsDueOn, HasMadeSteps}
use Rattle.heap_table.specs.Seen.{HeapSeen, PassSeen, IsOf}
use Rattle.heap_table.specs.Stepping.{CanStep, HasStepped}
use Rattle.heap_table.proofs.StepsLeft.{AreLeft, part_left}
use Rattle.heap_table.proofs.Loops.{HasCome, nothing_yet, comes_on, comes_as, each_next, bind_done}
use Rattle.heap_table.proofs.Aside.{AreAside, StartsAlike, aside, each_aside}
use Rattle.heap_table.proofs.Parts.{can, rest_due, last_step, ends, part_then}

-- The first i words were looked at, and so many are left.
abbrev pub looks_left : CallContext → ℕ → ℕ → List ℕ → StepTree (List ℕ)
looks_left e i left words = each_from i left (λ t. ask (load e (Waiting t))) >>= (λ others. done (take i words ++ others))

pub record Looked (h : HeapSeen) (e : CallContext) (o p : PassSeen) (n i : ℕ) (words : List ℕ) : Type 0 where
  pub left : ℕ
  pub count : i + left ≡ n
  pub heap : IsOf h p
  pub due : IsDueOn h p e.task (looks_left e i left words)
  pub come : HasCome h (look_steps e n) o (looks_left e i left words) p

module _ (h : HeapSeen) (e : CallContext) (o : PassSeen) (n : ℕ) where
  pub none_looked : (words : List ℕ) → IsOf h o → IsDueOn h o e.task (look_steps e n) → Looked h e o o n 0 words
  none_looked words is_of due =
      let same : look_steps e n ≡ looks_left e 0 n words = sym (bind_done (look_steps e n)) in
      record {
        left = n;
        count = omega arith;
        heap = is_of;
        due = subst (λ d. IsDueOn h o e.task d) same due;
        come = comes_as h (look_steps e n) o (look_steps e n) (looks_left e 0 n words) o same (nothing_yet h (look_steps e n) o);
      }

  -- after the next word
  abbrev after : ℕ → ℕ → List ℕ → ℕ → StepTree (List ℕ)
  after i m words x = each_from (i + 1) m (λ t. ask (load e (Waiting t))) >>= (λ others. done (take i words ++ x ∷ others))

  next_is : (i m : ℕ) (words : List ℕ) → looks_left e i (suc m) words ≡ (ask (load e (Waiting i)) >>= after i m words)
  next_is i m words = each_next i m (λ t. ask (load e (Waiting t))) (λ others. done (take i words ++ others))

  one_left : (left i : ℕ) → i + left ≡ n → i < n → (m : ℕ) × (left ≡ suc m)
  one_left zero i count low = absurd (omega (arith, count, low))
  one_left (suc m) i count low = (m, refl)

  -- the next one can be loaded, and then one more was looked at
  module _ (p : PassSeen) (i : ℕ) (words : List ℕ) (l : Looked h e o p n i words) (low : i < n) where
    more : (m : ℕ) × (l.left ≡ suc m)
    more = one_left l.left i l.count low

    same : looks_left e i l.left words ≡ (ask (load e (Waiting i)) >>= after i more.0 words)
    same = ap (λ k. looks_left e i k words) more.1 ∙ next_is i more.0 words

    due_now : IsDueOn h p e.task (ask (load e (Waiting i)) >>= after i more.0 words)
    due_now = subst (λ d. IsDueOn h p e.task d) same l.due

    pub can_look : CanStep h p (load e (Waiting i))
    can_look = can h p e.task (load e (Waiting i)) (after i more.0 words) due_now refl l.heap tt refl

    pub looked_on : (q : PassSeen) (x : ℕ) → HasStepped h p q (load e (Waiting i)) x → i < length words → Looked h e o q n (i + 1) (set words i x)
    looked_on q x s fits =
        let with_it : (others : List ℕ) → take i words ++ x ∷ others ≡ take (i + 1) (set words i x) ++ others =
        λ others. sym (append_assoc (take i words) (x ∷ []) others) ∙ ap (λ (l : List ℕ). l ++ others) (sym (take_more_set words i x fits)) in
        let goes : after i more.0 words x ≡ looks_left e (i + 1) more.0 (set words i x) =
        λ j. each_from (i + 1) more.0 (λ t. ask (load e (Waiting t))) >>= (λ others. done (with_it others j)) in
        let count = l.count in
        let one = more.1 in
        let run : HasMadeSteps h (ask (load e (Waiting i))) p q x = last_step h p q (load e (Waiting i)) done x x s refl refl in
        record {
          left = more.0;
          count = omega (arith, count, one);
          heap = s.heap;
          due = subst (λ d. IsDueOn h q e.task d) goes (rest_due h p e.task (load e (Waiting i)) (after i more.0 words) due_now refl q x s);
          come = comes_as h (look_steps e n) o (after i more.0 words x) (looks_left e (i + 1) more.0 (set words i x)) q goes
              (comes_on h (look_steps e n) o (ask (load e (Waiting i))) (after i more.0 words) p q x
              (comes_as h (look_steps e n) o (looks_left e i l.left words) (ask (load e (Waiting i)) >>= after i more.0 words) p same l.come) run);
        }

  none_left : (left i : ℕ) → i + left ≡ n → i ≡ n → left ≡ 0
  none_left left i count end = omega (arith, count, end)

  -- all were looked at
  pub all_looked : (p : PassSeen) (i : ℕ) (words : List ℕ) → Looked h e o p n i words → i ≡ n → HasMadeSteps h (look_steps e n) o p (take n words)
  all_looked p i words l end =
      let nothing : looks_left e i l.left words ≡ done (take n words) =
      ap (λ k. looks_left e i k words) (none_left l.left i l.count end) ∙ (λ j. done (append-nil (take (end j) words) j)) in
      l.come.through p (take n words) (subst (λ d. HasMadeSteps h d p p (take n words)) (sym nothing) (ends h p (take n words) l.heap))

-- after the look, what comes then is due, and the thread stands as before
look_aside : (e : CallContext) (n : ℕ) → AreAside (look_steps e n)
look_aside e n = each_aside 0 n (λ t. ask (load e (Waiting t))) (λ j. (record { quiet = refl; words = refl; keeps = refl }, λ x. tt))

pub looks_aside : (h : HeapSeen) (p q : PassSeen) (e : CallContext) (n : ℕ) (words : List ℕ)
    → HasMadeSteps h (look_steps e n) p q words → StartsAlike p.known q.known
looks_aside h p q e n words run = aside h (look_steps e n) p q words (look_aside e n) run

look_then : {B : Type 0} (h : HeapSeen) (p q : PassSeen) (e : CallContext) (n : ℕ) (g : List ℕ → StepTree B) (words : List ℕ) → p.known.thread < n
    → IsDueOn h p e.task (look_steps e n >>= g) → HasMadeSteps h (look_steps e n) p q words → IsDueOn h q e.task (g words)
look_then h p q e zero g words within due run = absurd (omega (arith, within))
look_then h p q e (suc m) g words within due run =
    part_then h p q e.task (load e (Waiting 0)) (λ x. each_from 1 m (λ t. ask (load e (Waiting t))) >>= (λ others. done (x ∷ others))) g words due refl run

pub look_left : {A : Type 0} {h : HeapSeen} {o p q : PassSeen} {d : StepTree A} {words : List ℕ} (e : CallContext) (n : ℕ) (g : List ℕ → StepTree A)
    → p.known.thread < n → HasMadeSteps h (look_steps e n) p q words → AreLeft h e.task o d p (look_steps e n >>= g) → AreLeft h e.task o d q (g words)
look_left {h = h} {p = p} {q = q} {words = words} e n g within run left = part_left g run (look_then h p q e n g words within left.due run) left
