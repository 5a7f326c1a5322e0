use Rattle.core_locks.proofs.Prelude.{◌≡◌, ◌≢◌, ◌⊎◌, ℕ, true, List, [], ◌∷◌, ◌++◌, None, sym, ap, ◌∙◌, inl, inr}
use Rattle.core_locks.proofs.Prelude.{mark_of, Locked, PlainObject, Logged, Exit, HasLetGo, Mark, Stamp, is_neutral}
use Rattle.core_locks.proofs.Prelude.{local_of, World, monitor_of, CallContext, next_stamp, Fits, each_with_known}
use Rattle.core_locks.proofs.enter_exit.RefutedExits.{leave, left_unowned}
use Rattle.core_locks.proofs.RefutedSteps.{knows, hit, swap_hits, hit_fits}
use Rattle.core_locks.proofs.refused.no_exit_with_another_stamp.Goals as goal

-- an entry of a log with one entry more is that one, or stood there before
is_last_or_before : (log before later : List Logged) (y x : Logged)
    → (log ++ y ∷ []) ≡ (before ++ x ∷ later) → (y ≡ x) ⊎ ((rest : List Logged) × (log ≡ (before ++ x ∷ rest)))
is_last_or_before [] [] later y x h = inl (cc h)
is_last_or_before [] (b ∷ []) later y x h = absurd (cc h)
is_last_or_before [] (b ∷ c ∷ before) later y x h = absurd (cc h)
is_last_or_before (m ∷ log) [] later y x h = let same : m ≡ x = cc h in inr (log, ap (λ z. z ∷ log) same)
is_last_or_before (m ∷ log) (b ∷ before) later y x h =
    let same : m ≡ b = cc h in
    let tail : (log ++ y ∷ []) ≡ (before ++ x ∷ later) = cc h in
    elim (is_last_or_before log before later y x tail) [
      | inl last ↦ inl last
      | inr r ↦ inr (r.0, ap (λ z. z ∷ log) same ∙ ap (λ ls. b ∷ ls) r.1)
    ]

-- with one entry more of another stamp a log has let go with this stamp where it had before
let_go_was : (log : List Logged) (y : Logged) (o stamp : ℕ) → stamp ≢ y.stamp → HasLetGo (log ++ y ∷ []) o stamp → HasLetGo log o stamp
let_go_was log y o stamp other h = elim (is_last_or_before log h.before h.later y (record { stamp = stamp; entry = h.entry }) h.log_is) [
  | inl last ↦ absurd (other (sym (ap (λ (z : Logged). z.stamp) last)))
  | inr r ↦ record { before = h.before; entry = h.entry; later = r.0; log_is = r.1; lets_go = h.lets_go }
]

-- the object has no owner afterwards, so that its stamp word is 0 or that of an entry that let go of it
no_exit : (w : World) (Q : List PlainObject) (o t p header : ℕ) (e : CallContext) → w.words (Mark o) ≡ mark_of (Locked t p) → is_neutral header ≡ true
    → w.words (Stamp o) ≢ 0 → w.words (Stamp o) ≢ next_stamp (local_of (w.known t)) → ((u : ℕ) → HasLetGo (w.known u).log o (w.words (Stamp o)) → ⊥)
    → Fits (hit (leave o t p header e) t w) Q → ⊥
no_exit w Q o t p header e mark neutral some other unlogged fits =
    let nobody : (monitor_of Q o).owner ≡ None = left_unowned w Q o t p header e mark neutral fits in
    let y : Logged = record { stamp = next_stamp (local_of (w.known t)); entry = Exit o } in
    let unlogged_still : (u : ℕ) → HasLetGo ((hit (leave o t p header e) t w).known u).log o (w.words (Stamp o)) → ⊥ =
    λ u. each_with_known (λ u k. HasLetGo k.log o (w.words (Stamp o)) → ⊥) t (knows (leave o t p header e) t w) w.known u
    (λ h. unlogged t (let_go_was (w.known t).log y o (w.words (Stamp o)) other h)) (λ d h. unlogged u h) in
    elim (fits.stamps.exact o) [
      | inl zero ↦ some zero
      | inr (inl let_go) ↦ unlogged_still let_go.0 let_go.1
      | inr (inr raised) ↦ let owns = raised.owns in absurd (cc (nobody, owns))
    ]

pub returns : goal.returns
returns c w o t p header e runs mark neutral some other unlogged valid =
    let test = swap_hits (w.words (Mark o)) (mark_of (Locked t p)) header mark in
    let afterwards = hit_fits (leave o t p header e) t w test.0 runs valid in
    no_exit w afterwards.0 o t p header e mark neutral some other unlogged afterwards.1
