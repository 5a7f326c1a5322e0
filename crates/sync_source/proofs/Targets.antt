-- The code of a thread is one that a program may have: its operands, its targets and its `end`.
use Rattle.std.proofs.Common.{◌≡◌, ℕ, zero, suc, ◌+◌, ◌<◌, ◌≤◌, ◌==◌, ◌≢◌, ◌⊎◌, inl, inr, Bool, true, false, if◌then◌else◌}
use Rattle.std.proofs.Common.{List, [], ◌∷◌, ◌++◌, length, map, filter, refl, sym, ap, ◌∙◌, subst, arith}
use Rattle.std.specs.List.{AllByRecursion, list_any}
use Rattle.std.proofs.lemmas.Bool.{cases_eq, eqb-true, eq-eqb, false≢true, or_left, or_right}
use Rattle.plain_monitor.proofs.Lists.{all_append, all_weaker}
use Rattle.object_program.specs.declared.program.Code.{Code}
use Rattle.object_program.specs.declared.program.Code.TheVariants as instr
use Rattle.object_program.specs.declared.program.LabelDef.{LabelDef}
use Rattle.object_program.specs.Valid.{IsInstruction, EndsOnce, AreTargets, is_target}
use Rattle.sync_source.specs.declared.source.Test.{Test}
use Rattle.sync_source.specs.Source.{Statements, Nothing, Plain, Sync, If, While}
use Rattle.sync_source.specs.Valid.{IsPlain, IsTest, AreStatements, is_end, HasNoEnd, EndsWell}
use Rattle.sync_source.proofs.Placed.{code_size}
use Rattle.sync_source.specs.Compiled.{size, code_at, test_code, goes_to, numbers_from, targets, label}

-- where an instruction may go on
abbrev Within : ℕ → Code → Type 0
Within m c = (n : ℕ) → goes_to n c ≡ true → (1 ≤ n) × (n ≤ m)

plain_stays : (m : ℕ) (c : Code) → IsPlain c → Within m c
plain_stays m (instr.Enter x) h n e = absurd h
plain_stays m (instr.Exit x) h n e = absurd h
plain_stays m (instr.Jump l) h n e = absurd h
plain_stays m (instr.Jlt x y l) h n e = absurd h
plain_stays m (instr.Jeq x y l) h n e = absurd h
plain_stays m c h n e = absurd (false≢true e)

number_within : (m l n : ℕ) → l + 1 ≤ m → ((l + 1) == n) ≡ true → (1 ≤ n) × (n ≤ m)
number_within m l n h e = let same = eqb-true (l + 1) n e in (omega arith, omega arith)

jump_within : (m l : ℕ) → l + 1 ≤ m → Within m (instr.Jump (l + 1))
jump_within m l h n e = number_within m l n h e

test_within : (m l : ℕ) (t : Test) → l + 1 ≤ m → Within m (test_code t l)
test_within m l t h = go t.equal
  where
    go : (equal : Bool) → Within m (if equal then instr.Jeq t.x t.y (l + 1) else instr.Jlt t.x t.y (l + 1))
    go true n e = number_within m l n h e
    go false n e = number_within m l n h e

none : {m : ℕ} → (n : ℕ) → false ≡ true → (1 ≤ n) × (n ≤ m)
none n e = absurd (false≢true e)

module _ (classes locals objects m : ℕ) where
  -- statements go on in themselves, or right after them
  goes_within : (b : Statements) (at : ℕ) → AreStatements classes locals objects b → at + size b + 1 ≤ m → AllByRecursion (Within m) (code_at at b)
  goes_within Nothing at h k = tt
  goes_within (Plain c r) at h k = (plain_stays m c h.0, goes_within r (at + 1) h.2 (omega arith))
  goes_within (Sync x b r) at h k = (
    none,
    all_append (Within m) (code_at (at + 1) b) _ (goes_within b (at + 1) h.1 (omega arith)) (
      none,
      goes_within r (at + 1 + size b + 1) h.2 (omega arith),
    ),
  )
  goes_within (If t b c r) at h k =
      let to = at + 1 + size c + 1 in (
        test_within m to t (omega arith),
        all_append (Within m) (code_at (at + 1) c) _ (goes_within c (at + 1) h.2 (omega arith)) (
          jump_within m (to + size b) (omega arith),
          all_append (Within m) (code_at to b) _ (goes_within b to h.1 (omega arith)) (goes_within r (to + size b) h.3 (omega arith)),
        ),
      )
  goes_within (While t b r) at h k =
      let to = at + 1 + 1 in (
        test_within m to t (omega arith),
        (
          jump_within m (to + size b + 1) (omega arith),
          all_append (Within m) (code_at to b) _ (goes_within b to h.1 (omega arith))
              (jump_within m at (omega arith), goes_within r (to + size b + 1) h.2 (omega arith)),
        ),
      )

  some_left : (b : Statements) → EndsWell b → 1 ≤ size b
  some_left Nothing h = absurd h
  some_left _ h = omega arith

  -- a body that ends well goes on in itself
  stays_within : (b : Statements) (at : ℕ) → AreStatements classes locals objects b → EndsWell b → at + size b ≤ m → AllByRecursion (Within m) (code_at at b)
  stays_within Nothing at h e k = tt
  stays_within (Plain c Nothing) at h e k = (plain_stays m c h.0, tt)
  stays_within (Plain c (Plain d r)) at h e k = (plain_stays m c h.0, stays_within (Plain d r) (at + 1) h.2 e.1 (omega arith))
  stays_within (Plain c (Sync x b r)) at h e k = (plain_stays m c h.0, stays_within (Sync x b r) (at + 1) h.2 e.1 (omega arith))
  stays_within (Plain c (If t b d r)) at h e k = (plain_stays m c h.0, stays_within (If t b d r) (at + 1) h.2 e.1 (omega arith))
  stays_within (Plain c (While t b r)) at h e k = (plain_stays m c h.0, stays_within (While t b r) (at + 1) h.2 e.1 (omega arith))
  stays_within (Sync x b r) at h e k =
      let some = some_left r e.1 in (
        none,
        all_append (Within m) (code_at (at + 1) b) _ (goes_within b (at + 1) h.1 (omega arith)) (
          none,
          stays_within r (at + 1 + size b + 1) h.2 e.1 (omega arith),
        ),
      )
  stays_within (If t b c r) at h e k =
      let to = at + 1 + size c + 1 in
      let some = some_left r e.2 in (
        test_within m to t (omega arith),
        all_append (Within m) (code_at (at + 1) c) _ (goes_within c (at + 1) h.2 (omega arith)) (
          jump_within m (to + size b) (omega arith),
          all_append (Within m) (code_at to b) _ (goes_within b to h.1 (omega arith)) (stays_within r (to + size b) h.3 e.2 (omega arith)),
        ),
      )
  stays_within (While t b r) at h e k =
      let to = at + 1 + 1 in
      let some = some_left r e.1 in (
        test_within m to t (omega arith),
        (
          jump_within m (to + size b + 1) (omega arith),
          all_append (Within m) (code_at to b) _ (goes_within b to h.1 (omega arith))
              (jump_within m at (omega arith), stays_within r (to + size b + 1) h.2 e.1 (omega arith)),
        ),
      )

-- each target has a label
module _ (decimal : ℕ → List ℕ) (P : ℕ → Bool) (n : ℕ) where
  abbrev Has : List ℕ → Type 0
  Has xs = is_target (map (label decimal) xs) n ≡ true

  with_more : (b : Bool) (a : ℕ) (xs : List ℕ) → Has xs → Has (if b then a ∷ xs else xs)
  with_more true a xs h = or_right (a == n) _ h
  with_more false a xs h = h

  kept : (k a : ℕ) → a ≤ n → n < a + k → P n ≡ true → Has (filter P (numbers_from a k))
  kept zero a h l e = absurd (omega arith)
  kept (suc k) a h l e = go (λ k. k) (λ g i. kept k (a + 1) g i e) (cases_eq a n)
    where
      xs : List ℕ
      xs = filter P (numbers_from (a + 1) k)

      go : (Has xs → Has xs) → (a + 1 ≤ n → n < a + 1 + k → Has (filter P (numbers_from (a + 1) k))) → (a ≡ n) ⊎ (a ≢ n)
          → Has (if P a then a ∷ filter P (numbers_from (a + 1) k) else filter P (numbers_from (a + 1) k))
      go id ih (inl same) =
          let here : P a ≡ true = ap P same ∙ e in
          subst (λ (b : Bool). Has (if b then a ∷ filter P (numbers_from (a + 1) k) else filter P (numbers_from (a + 1) k)))
          (sym here) (or_left (a == n) _ (eq-eqb a n same))
      go id ih (inr other) = with_more (P a) a _ (ih (omega (arith, other)) (omega arith))

-- an instruction of the code goes where some instruction of the code goes
goes_somewhere : (cs : List Code) → AllByRecursion (λ c. (n : ℕ) → goes_to n c ≡ true → list_any (goes_to n) cs ≡ true) cs
goes_somewhere [] = tt
goes_somewhere (c ∷ cs) =
    ((λ n e. or_left (goes_to n c) _ e), all_weaker _ _ (λ d f n e. or_right (goes_to n c) _ (f n e)) cs (goes_somewhere cs))

all_both : {X : Type 0} (P Q : X → Type 0) (xs : List X) → AllByRecursion P xs → AllByRecursion Q xs → AllByRecursion (λ x. P x × Q x) xs
all_both P Q [] h k = tt
all_both P Q (x ∷ xs) h k = ((h.0, k.0), all_both P Q xs h.1 k.1)

-- its operands without its target
abbrev HasOperands : ℕ → ℕ → ℕ → Code → Type 0
HasOperands classes locals objects (instr.Jump l) = Unit {0}
HasOperands classes locals objects (instr.Jlt x y l) = (x < locals) × (y < locals)
HasOperands classes locals objects (instr.Jeq x y l) = (x < locals) × (y < locals)
HasOperands classes locals objects c = IsInstruction classes locals objects [] c

module _ (classes locals objects : ℕ) where
  plain_operands : (c : Code) → IsPlain c → IsInstruction classes locals objects [] c → HasOperands classes locals objects c
  plain_operands (instr.Jump l) h k = absurd h
  plain_operands (instr.Jlt x y l) h k = absurd h
  plain_operands (instr.Jeq x y l) h k = absurd h
  plain_operands c h k = k

  test_operands : (t : Test) (l : ℕ) → IsTest locals t → HasOperands classes locals objects (test_code t l)
  test_operands t l h = go t.equal
    where
      go : (equal : Bool) → HasOperands classes locals objects (if equal then instr.Jeq t.x t.y (l + 1) else instr.Jlt t.x t.y (l + 1))
      go true = h
      go false = h

  have_operands : (b : Statements) (at : ℕ) → AreStatements classes locals objects b → AllByRecursion (HasOperands classes locals objects) (code_at at b)
  have_operands Nothing at h = tt
  have_operands (Plain c r) at h = (plain_operands c h.0 h.1, have_operands r (at + 1) h.2)
  have_operands (Sync x b r) at h = (
    h.0,
    all_append (HasOperands classes locals objects) (code_at (at + 1) b) _
        (have_operands b (at + 1) h.1) (h.0, have_operands r (at + 1 + size b + 1) h.2),
  )
  have_operands (If t b c r) at h =
      let to = at + 1 + size c + 1 in (
        test_operands t to h.0,
        all_append (HasOperands classes locals objects) (code_at (at + 1) c) _ (have_operands c (at + 1) h.2) (
          tt,
          all_append (HasOperands classes locals objects) (code_at to b) _ (have_operands b to h.1) (have_operands r (to + size b) h.3),
        ),
      )
  have_operands (While t b r) at h =
      let to = at + 1 + 1 in (
        test_operands t to h.0,
        (
          tt,
          all_append (HasOperands classes locals objects) (code_at to b) _ (have_operands b to h.1) (tt, have_operands r (to + size b + 1) h.2),
        ),
      )

  module _ (decimal : ℕ → List ℕ) (code : List Code) where
    abbrev labels : List LabelDef
    labels = map (label decimal) (targets code)

    target_there : (c : Code) (n : ℕ) → goes_to n c ≡ true
        → Within (length code) c × ((k : ℕ) → goes_to k c ≡ true → list_any (goes_to k) code ≡ true) → is_target labels n ≡ true
    target_there c n e h =
        let w = h.0 n e in kept decimal (λ k. list_any (goes_to k) code) n (length code) 1 w.0 (omega (arith, w.1)) (h.1 n e)

    is_instruction : (c : Code) → HasOperands classes locals objects c
        → Within (length code) c × ((k : ℕ) → goes_to k c ≡ true → list_any (goes_to k) code ≡ true) → IsInstruction classes locals objects labels c
    is_instruction (instr.Jump l) h k = target_there (instr.Jump l) l (eq-eqb l l refl) k
    is_instruction (instr.Jlt x y l) h k = (h.0, h.1, target_there (instr.Jlt x y l) l (eq-eqb l l refl) k)
    is_instruction (instr.Jeq x y l) h k = (h.0, h.1, target_there (instr.Jeq x y l) l (eq-eqb l l refl) k)
    is_instruction c h k = h

  -- each instruction of the code is one that a thread may have
  pub are_instructions : (decimal : ℕ → List ℕ) (b : Statements) → AreStatements classes locals objects b → EndsWell b
      → AllByRecursion (IsInstruction classes locals objects (map (label decimal) (targets (code_at 0 b)))) (code_at 0 b)
  are_instructions decimal b h e =
      let code = code_at 0 b in
      let n = code_size b 0 in
      let within = stays_within classes locals objects (length code) b 0 h e (omega (arith, n)) in
      all_of_both (all_both (HasOperands classes locals objects) _ code (have_operands b 0 h)
      (all_both (Within (length code)) _ code within (goes_somewhere code)))
    where
      all_of_both : AllByRecursion (λ c. HasOperands classes locals objects c
          × (Within (length (code_at 0 b)) c × ((n : ℕ) → goes_to n c ≡ true → list_any (goes_to n) (code_at 0 b) ≡ true))) (code_at 0 b)
          → AllByRecursion (IsInstruction classes locals objects (map (label decimal) (targets (code_at 0 b)))) (code_at 0 b)
      all_of_both k = all_weaker _ _ (λ c x. is_instruction decimal (code_at 0 b) c x.0 x.1) (code_at 0 b) k

-- the code ends once
abbrev NotEnd : Code → Type 0
NotEnd c = c ≡ instr.End → ⊥

not_end : (c : Code) → is_end c ≡ false → NotEnd c
not_end c h e = absurd (false≢true (sym h ∙ ap is_end e))

ends_cons : (c : Code) (cs : List Code) → NotEnd c → EndsOnce cs → EndsOnce (c ∷ cs)
ends_cons c [] h k = absurd k
ends_cons c (d ∷ cs) h k = (h, k)

ends_append : (cs ds : List Code) → AllByRecursion NotEnd cs → EndsOnce ds → EndsOnce (cs ++ ds)
ends_append [] ds h k = k
ends_append (c ∷ cs) ds h k = ends_cons c (cs ++ ds) h.0 (ends_append cs ds h.1 k)

test_not_end : (t : Test) (l : ℕ) → is_end (test_code t l) ≡ false
test_not_end t l = go t.equal
  where
    go : (equal : Bool) → is_end (if equal then instr.Jeq t.x t.y (l + 1) else instr.Jlt t.x t.y (l + 1)) ≡ false
    go true = refl
    go false = refl

no_end : (b : Statements) (at : ℕ) → HasNoEnd b → AllByRecursion NotEnd (code_at at b)
no_end Nothing at h = tt
no_end (Plain c r) at h = (not_end c h.0, no_end r (at + 1) h.1)
no_end (Sync x b r) at h =
    (not_end _ refl, all_append NotEnd (code_at (at + 1) b) _ (no_end b (at + 1) h.0) (not_end _ refl, no_end r (at + 1 + size b + 1) h.1))
no_end (If t b c r) at h =
    let to = at + 1 + size c + 1 in (
      not_end _ (test_not_end t to),
      all_append NotEnd (code_at (at + 1) c) _ (no_end c (at + 1) h.1) (
        not_end _ refl,
        all_append NotEnd (code_at to b) _ (no_end b to h.0) (no_end r (to + size b) h.2),
      ),
    )
no_end (While t b r) at h =
    let to = at + 1 + 1 in
    (not_end _ (test_not_end t to), (not_end _ refl, all_append NotEnd (code_at to b) _ (no_end b to h.0) (not_end _ refl, no_end r (to + size b + 1) h.1)))

pub ends_once : (b : Statements) (at : ℕ) → EndsWell b → EndsOnce (code_at at b)
ends_once Nothing at h = absurd h
ends_once (Plain c Nothing) at h = h
ends_once (Plain c (Plain d r)) at h = ends_cons c (code_at (at + 1) (Plain d r)) (not_end c h.0) (ends_once (Plain d r) (at + 1) h.1)
ends_once (Plain c (Sync x b r)) at h = ends_cons c (code_at (at + 1) (Sync x b r)) (not_end c h.0) (ends_once (Sync x b r) (at + 1) h.1)
ends_once (Plain c (If t b d r)) at h = ends_cons c (code_at (at + 1) (If t b d r)) (not_end c h.0) (ends_once (If t b d r) (at + 1) h.1)
ends_once (Plain c (While t b r)) at h = ends_cons c (code_at (at + 1) (While t b r)) (not_end c h.0) (ends_once (While t b r) (at + 1) h.1)
ends_once (Sync x b r) at h =
    ends_cons _ _ (not_end _ refl)
    (ends_append (code_at (at + 1) b) _ (no_end b (at + 1) h.0) (ends_cons _ _ (not_end _ refl) (ends_once r (at + 1 + size b + 1) h.1)))
ends_once (If t b c r) at h =
    let to = at + 1 + size c + 1 in
    ends_cons _ _ (not_end _ (test_not_end t to)) (ends_append (code_at (at + 1) c) _ (no_end c (at + 1) h.1)
    (ends_cons _ _ (not_end _ refl) (ends_append (code_at to b) _ (no_end b to h.0) (ends_once r (to + size b) h.2))))
ends_once (While t b r) at h =
    let to = at + 1 + 1 in
    let past = instr.Jump (to + size b + 1 + 1) in
    let back = instr.Jump (at + 1) in
    let body = code_at to b in
    let last = code_at (to + size b + 1) r in
    let rest = ends_append body (back ∷ last) (no_end b to h.0) (ends_cons back last (not_end back refl) (ends_once r (to + size b + 1) h.1)) in
    ends_cons _ (past ∷ (body ++ back ∷ last)) (not_end _ (test_not_end t to)) (ends_cons past (body ++ back ∷ last) (not_end past refl) rest)

-- the targets rise, and each is an instruction
filter_rises : (decimal : ℕ → List ℕ) (P : ℕ → Bool) (code k a n : ℕ) → n ≤ a
    → a + k ≤ code + 1 → AreTargets code n (map (label decimal) (filter P (numbers_from a k)))
filter_rises decimal P code zero a n h l = tt
filter_rises decimal P code (suc k) a n h l = go (λ b g. filter_rises decimal P code k (a + 1) b g (omega arith)) (P a)
  where
    go : ((b : ℕ) → b ≤ a + 1 → AreTargets code b (map (label decimal) (filter P (numbers_from (a + 1) k)))) → (b : Bool)
        → AreTargets code n (map (label decimal) (if b then a ∷ filter P (numbers_from (a + 1) k) else filter P (numbers_from (a + 1) k)))
    go ih true = (h, omega arith, ih a (omega arith))
    go ih false = ih n (omega arith)

pub targets_rise : (decimal : ℕ → List ℕ) (code : List Code) → AreTargets (length code) 1 (map (label decimal) (targets code))
targets_rise decimal code = filter_rises decimal _ (length code) (length code) 1 1 (omega arith) (omega arith)
