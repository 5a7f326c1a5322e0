-- What words are spelled as.
use Rattle.std.proofs.Common.{◌≡◌, ℕ, Bool, true, false, if◌then◌else◌, List, [], ◌∷◌, refl, subst, Option, Some, bytes_eq}
use Rattle.std.specs.List.{AllByRecursion}
use Rattle.std.proofs.lemmas.Option.{same_Some}
use Rattle.std.proofs.lemmas.Slice.Eq.{bytes_eq-Decides}
use Rattle.plain_monitor.specs.declared.entry.Path.{Path}
use Rattle.plain_monitor.specs.declared.entry.Path.TheVariants.{BiasOwn}
use Rattle.plain_monitor.specs.declared.entry.Fault.{Fault}
use Rattle.plain_monitor.specs.declared.entry.Fault.TheVariants.{IllegalMonitorState}
use Rattle.lock_journal.specs.Words.{path_text, fault_text}
use Rattle.bias_check.specs.declared.spelled.Verb.{Verb}
use Rattle.bias_check.specs.declared.spelled.Verb.TheVariants as verb
use Rattle.program_syntax.specs.Line.{spelled_among}
use Rattle.bias_check.specs.inner.Spelled.{verbs, paths, faults, verb_text}

-- the word is this text
pub same_word : (a b : List ℕ) → bytes_eq a b ≡ true → a ≡ b
same_word a b h = (bytes_eq-Decides a b).0 h

spelled_by : {X : Type 0} (P : List ℕ → X → Type 0) (s : List ℕ × X) (w : List ℕ) (x : X) (rest : Option X) (b : Bool) → bytes_eq s.0 w ≡ b
    → (if b then Some s.1 else rest) ≡ Some x → P s.0 s.1 → (rest ≡ Some x → P w x) → P w x
spelled_by {X} P s w x rest true e h here ih =
    let Q : List ℕ → Type 0 = λ v. P v s.1 in
    let R : X → Type 0 = λ y. P w y in
    subst R (same_Some s.1 x h) (subst Q (same_word s.0 w e) here)
spelled_by P s w x rest false e h here ih = ih h

-- what holds of each spelling holds of the word that was found
spelled_is : {X : Type 0} (P : List ℕ → X → Type 0) (table : List (List ℕ × X)) (w : List ℕ) (x : X)
    → AllByRecursion (λ s. P s.0 s.1) table → spelled_among table w ≡ Some x → P w x
spelled_is P [] w x all h = absurd (cc h)
spelled_is P (s ∷ ss) w x all h =
    spelled_by P s w x (spelled_among ss w) (bytes_eq s.0 w) refl h all.0 (λ k. spelled_is P ss w x all.1 k)

pub verb_is : (w : List ℕ) (v : Verb) → spelled_among verbs w ≡ Some v → verb_text v ≡ w
verb_is w v h =
    spelled_is (λ (w : List ℕ) (v : Verb). verb_text v ≡ w) verbs w v
    (refl, (refl, (refl, (refl, (refl, (refl, (refl, (refl, (refl, (refl, (refl, (refl, (refl, (refl, (refl, tt))))))))))))))) h

pub path_is : (w : List ℕ) (v : Path) → spelled_among paths w ≡ Some v → path_text v ≡ w
path_is w v h =
    spelled_is (λ (w : List ℕ) (v : Path). path_text v ≡ w) paths w v (refl, (refl, (refl, (refl, (refl, (refl, tt)))))) h

pub fault_is : (w : List ℕ) (v : Fault) → spelled_among faults w ≡ Some v → fault_text v ≡ w
fault_is w v h =
    spelled_is (λ (w : List ℕ) (v : Fault). fault_text v ≡ w) faults w v (refl, (refl, (refl, (refl, (refl, (refl, (refl, (refl, (refl, tt))))))))) h

pub verb_read : (v : Verb) → spelled_among verbs (verb_text v) ≡ Some v
verb_read verb.Enter = refl
verb_read _ = refl

-- a word that is the text of a verb is found as that verb
pub verb_spelled : (v : Verb) (w : List ℕ) → bytes_eq (verb_text v) w ≡ true → spelled_among verbs w ≡ Some v
verb_spelled v w h = subst (λ (w : List ℕ). spelled_among verbs w ≡ Some v) (same_word (verb_text v) w h) (verb_read v)

pub path_read : (v : Path) → spelled_among paths (path_text v) ≡ Some v
path_read BiasOwn = refl
path_read _ = refl

pub fault_read : (v : Fault) → spelled_among faults (fault_text v) ≡ Some v
fault_read IllegalMonitorState = refl
fault_read _ = refl
