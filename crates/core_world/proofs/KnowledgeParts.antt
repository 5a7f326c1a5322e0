-- What a step of one thread leaves of what the threads know, as functions of the thread.
use Rattle.std.proofs.Common.{◌≡◌, ◌≢◌, ℕ, zero, suc, ◌+◌, ◌<◌, eq-eqb, ne_eqb, [], ◌∷◌, ◌++◌, length, slice_set, Bool, cond, refl, sym, ap, ◌∙◌, subst, arith}
use mathlib.Core.Logic.{dite}
use native.Mathlib.Decide.{ℕ_discrete}
use Rattle.plain_monitor.specs.declared.entry.Logged.{Logged}
use Rattle.plain_monitor.specs.History.{log_of, appended}
use Rattle.core_world.specs.Threads.ThreadView.{ThreadView}
use Rattle.core_world.specs.World.{with_known, logs_from}

-- one case for equal numbers, and one for different ones
pub by_equal : {P : Type 0} (a b : ℕ) → (a ≡ b → P) → (a ≢ b → P) → P
by_equal a b f g = dite (ℕ_discrete a b) f g

pub with_known_here : (t : ℕ) (k : ThreadView) (f : ℕ → ThreadView) → with_known t k f t ≡ k
with_known_here t k f = ap (λ (b : Bool). cond b k (f t)) (eq-eqb t t refl)

pub with_known_else : (t : ℕ) (k : ThreadView) (f : ℕ → ThreadView) (u : ℕ) → u ≢ t → with_known t k f u ≡ f u
with_known_else t k f u n = ap (λ (b : Bool). cond b k (f u)) (ne_eqb u t n)

-- a fact of what each thread knows, by that of the one that moved, and of the others
pub each_with_known : (P : ℕ → ThreadView → Type 0) (t : ℕ) (k : ThreadView) (f : ℕ → ThreadView) (u : ℕ)
    → P t k → (u ≢ t → P u (f u)) → P u (with_known t k f u)
each_with_known P t k f u mine others =
    by_equal u t
    (λ e. subst (λ (x : ℕ). P x (with_known t k f x)) (sym e) (subst (P t) (sym (with_known_here t k f)) mine))
    (λ n. subst (P u) (sym (with_known_else t k f u n)) (others n))

-- a part of the knowledge that the step leaves, as a function of the thread
pub part_moves : {A : Type 0} (part : ThreadView → A) (t : ℕ) (l : ThreadView) (f : ℕ → ThreadView)
    → part (f t) ≡ part l → ◌≡◌ {A = ℕ → A} (λ u. part (f u)) (λ u. part (with_known t l f u))
part_moves part t l f same =
    let at : (u : ℕ) → part (f u) ≡ part (with_known t l f u) = λ u. each_with_known (λ x y. part (f x) ≡ part y) t l f u same (λ _. refl) in λ i. λ u. at u i

-- the logs after a step that logs nothing
pub logs_stay : (u n t : ℕ) (l : ThreadView) (f : ℕ → ThreadView) → l.log ≡ (f t).log → logs_from u n (with_known t l f) ≡ logs_from u n f
logs_stay u zero t l f same = refl
logs_stay u (suc n) t l f same =
    let a : (with_known t l f u).log ≡ (f u).log = each_with_known (λ x y. y.log ≡ (f x).log) t l f u same (λ _. refl) in
    ap (λ g. g ∷ logs_from (u + 1) n (with_known t l f)) a ∙ ap (λ gs. (f u).log ∷ gs) (logs_stay (u + 1) n t l f same)

-- the logs of threads after the one that moved
logs_after : (u n t : ℕ) (l : ThreadView) (f : ℕ → ThreadView) → t < u → logs_from u n (with_known t l f) ≡ logs_from u n f
logs_after u zero t l f h = refl
logs_after u (suc n) t l f h =
    ap (λ (k : ThreadView). k.log ∷ logs_from (u + 1) n (with_known t l f)) (with_known_else t l f u (λ e. omega arith))
    ∙ ap (λ gs. (f u).log ∷ gs) (logs_after (u + 1) n t l f (omega arith))

pub logs_length : (u n : ℕ) (f : ℕ → ThreadView) → length (logs_from u n f) ≡ n
logs_length u zero f = refl
logs_length u (suc n) f = let a = logs_length (u + 1) n f in omega (arith, a)

pub log_at : (u n i t : ℕ) (f : ℕ → ThreadView) → t ≡ u + i → i < n → log_of (logs_from u n f) i ≡ (f t).log
log_at u zero i t f e h = absurd (omega arith)
log_at u (suc n) zero t f e h = let s : u ≡ t = omega arith in ap (λ v. (f v).log) s
log_at u (suc n) (suc i) t f e h = log_at (u + 1) n i t f (omega arith) (omega arith)

logs_set : (u n i t : ℕ) (l : ThreadView) (f : ℕ → ThreadView) → t ≡ u + i → i < n → logs_from u n (with_known t l f) ≡ slice_set (logs_from u n f) i l.log
logs_set u zero i t l f e h = absurd (omega arith)
logs_set u (suc n) zero t l f e h =
    let s : u ≡ t = omega arith in
    ap (λ (k : ThreadView). k.log ∷ logs_from (u + 1) n (with_known t l f)) (ap (with_known t l f) s ∙ with_known_here t l f)
    ∙ ap (λ gs. l.log ∷ gs) (logs_after (u + 1) n t l f (omega arith))
logs_set u (suc n) (suc i) t l f e h =
    ap (λ (k : ThreadView). k.log ∷ logs_from (u + 1) n (with_known t l f)) (with_known_else t l f u (λ s. omega arith))
    ∙ ap (λ gs. (f u).log ∷ gs) (logs_set (u + 1) n i t l f (omega arith) (omega arith))

-- the logs after a step that logs an entry
pub logs_grow : (n t : ℕ) (y : Logged) (l : ThreadView) (f : ℕ → ThreadView) → t < n
    → l.log ≡ (f t).log ++ y ∷ [] → logs_from 0 n (with_known t l f) ≡ appended (logs_from 0 n f) t y
logs_grow n t y l f h e =
    logs_set 0 n t t l f (omega arith) h ∙ ap (slice_set (logs_from 0 n f) t) (e ∙ ap (λ g. g ++ y ∷ []) (sym (log_at 0 n t t f (omega arith) h)))
