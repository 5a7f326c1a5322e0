-- The instruction of a line that uses no label doesn't depend on the lines after it.
use Rattle.std.specs.Prelude.{codes}
use Rattle.std.proofs.Common.{◌≡◌, ℕ, zero, suc, true, false, if◌then◌else◌, List, [], ◌∷◌, take, refl, sym, ◌∙◌, Some}
use Rattle.object_program.specs.Program.{ProgramText}
use Rattle.object_program.specs.declared.program.ThreadDef.{ThreadDef}
use Rattle.program_syntax.specs.Line.{is_instruction}
use Rattle.program_syntax.specs.Reading.{instruction_on, ends_section}
use Rattle.program_syntax.specs.Refusal.{is_end, is_closed}
use Rattle.program_syntax.specs.State.{thread_of, labels_at, IsAheadOf}
use Rattle.program_syntax.specs.declared.state.Section.{Section}
use Rattle.program_syntax.specs.declared.keyword.Keyword.{Keyword}
use Rattle.program_syntax.specs.declared.keyword.Keyword.TheVariants.{Class, Object, Array, Thread, Label, Enter, Exit, Jump, Jlt, Jeq}
use Rattle.sync_syntax.specs.Word.{is_left_out}
use Rattle.sync_syntax.specs.inner.Views.{IsBare}

pub code_alone : (p : ProgramText) (t : ThreadDef) (later more ws : List (List ℕ)) (k : Keyword) → is_left_out k ≡ false
    → instruction_on p t later ws k ≡ instruction_on p t more ws k
code_alone p t later more ws Label h = absurd (cc h)
code_alone p t later more ws Enter h = absurd (cc h)
code_alone p t later more ws Exit h = absurd (cc h)
code_alone p t later more ws Jump h = absurd (cc h)
code_alone p t later more ws Jlt h = absurd (cc h)
code_alone p t later more ws Jeq h = absurd (cc h)
code_alone p t later more ws k h = refl

-- no label stands before an `end`
abbrev pub at_end : List (List ℕ)
at_end = codes "end" ∷ []

no_labels : (t : ThreadDef) (ws : List (List ℕ)) (k : Keyword) → is_left_out k ≡ false → t.labels ≡ [] → labels_at t at_end ws k ≡ []
no_labels t ws Label h none = absurd (cc h)
no_labels t ws Class h none = rw none refl
no_labels t ws Object h none = rw none refl
no_labels t ws Array h none = rw none refl
no_labels t ws Thread h none = rw none refl
no_labels t ws k h none = rw none refl

take-none : {X : Type 0} (n : ℕ) (xs : List X) → xs ≡ [] → take n xs ≡ []
take-none zero xs e = refl
take-none (suc n) [] e = refl
take-none (suc n) (x ∷ xs) e = absurd (cc e)

ends_alone : (k : Keyword) → is_instruction k ≡ true → (if ends_section (Some k) then is_end (Some k) else is_closed at_end) ≡ true
ends_alone Class i = absurd (cc i)
ends_alone Object i = absurd (cc i)
ends_alone Array i = absurd (cc i)
ends_alone Thread i = absurd (cc i)
ends_alone k i = refl

pub bare_ahead : (s : Section) (ws : List (List ℕ)) (k : Keyword) → is_left_out k ≡ false → is_instruction k ≡ true → IsBare (Some s) → IsAheadOf s at_end ws k
bare_ahead s ws k kept i bare = record {
  closed = ends_alone k i;
  labels = bare.0 ∙ sym (no_labels (thread_of s) ws k kept (take-none s.declared s.labels bare.0));
}
