-- A log with one entry more: what stands in it stood there before, or is the last.
use Rattle.std.proofs.Common.{◌≡◌, ◌⊎◌, List, [], ◌∷◌, ◌++◌, refl, ap, ◌∙◌, inl, inr}
use Rattle.plain_monitor.specs.declared.entry.Logged.{Logged}

pub no_entries : (before later : List Logged) (l : Logged) → [] ≡ (before ++ l ∷ later) → ⊥
no_entries [] later l e = cc e
no_entries (b ∷ before) later l e = cc e

pub last_or_before : (log : List Logged) (y : Logged) (before : List Logged) (l : Logged) (later : List Logged) → (log ++ y ∷ []) ≡ (before ++ l ∷ later)
    → ((rest : List Logged) × (log ≡ before ++ l ∷ rest)) ⊎ ((log ≡ before) × (y ≡ l))
last_or_before [] y [] l later e = let same : y ≡ l = cc e in inr (refl, same)
last_or_before [] y (b ∷ before) l later e = let rest : [] ≡ (before ++ l ∷ later) = cc e in absurd (no_entries before later l rest)
last_or_before (z ∷ log) y [] l later e = let same : z ≡ l = cc e in inl (log, ap (λ x. x ∷ log) same)
last_or_before (z ∷ log) y (b ∷ before) l later e =
    let same : z ≡ b = cc e in
    let rest : (log ++ y ∷ []) ≡ (before ++ l ∷ later) = cc e in
    elim (last_or_before log y before l later rest) [
      | inl was ↦ inl (was.0, ap (λ x. x ∷ log) same ∙ ap (λ xs. b ∷ xs) was.1)
      | inr new ↦ inr (ap (λ x. x ∷ log) same ∙ ap (λ xs. b ∷ xs) new.0, new.1)
    ]
