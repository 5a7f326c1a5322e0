-- What the log of a run can't be, where its steps log something or nothing.
use Rattle.std.proofs.Common.{◌≡◌, List, [], ◌∷◌, ◌++◌, map, Option, Some, None, sym, ap, ◌∙◌, append-nil}
use Rattle.std.proofs.lemmas.List.{append_cancel_left, append_cancel_right}
use Rattle.plain_monitor.specs.declared.entry.Entry.{Entry}
use Rattle.plain_monitor.specs.declared.entry.Logged.{Logged}
use Rattle.core_world.specs.declared.heap_call.Unfinished.{Unfinished}
use Rattle.core_world.specs.Threads.ThreadView.{ThreadView, StepMade}
use Rattle.core_calls.specs.Paths.{entries_of, left_unfinished, Tells}

abbrev entries_in : List Logged → List Entry
entries_in xs = map (λ (x : Logged). x.entry) xs

-- nothing is added, behind and before a list that stays
pub none_behind : {A : Type 0} (xs ys : List A) → xs ≡ xs ++ ys → [] ≡ ys
none_behind xs ys same = append_cancel_left xs [] ys (append-nil xs ∙ same)

pub none_before : {A : Type 0} (xs ys : List A) → xs ≡ ys ++ xs → [] ≡ ys
none_before xs ys same = append_cancel_right [] ys xs same

module _ {P : List StepMade → Type 0} (k l : ThreadView) (t : Tells k l P) where
  pub logless : (e : Entry) (es : List Entry) → l.log ≡ k.log → entries_of t.steps ≡ e ∷ es → ⊥
  logless e es same logs =
      let none : [] ≡ entries_of t.steps = ap entries_in (none_behind k.log t.new (sym same ∙ t.log)) ∙ t.entries in
      absurd (cc (none, logs))

  pub unlogged : (x : Logged) → l.log ≡ k.log ++ x ∷ [] → entries_of t.steps ≡ [] → ⊥
  unlogged x more silent =
      let one : x.entry ∷ [] ≡ entries_of t.steps = ap entries_in (append_cancel_left k.log (x ∷ []) t.new (sym more ∙ t.log)) ∙ t.entries in
      absurd (cc (one, silent))

  -- nor can the operation be unfinished that they end, or ended that they leave
  pub unended : (u : Unfinished) → l.unfinished ≡ Some u → ((before : Option Unfinished) → left_unfinished t.steps before ≡ None) → ⊥
  unended u some none = let ends = t.unfinished ∙ none k.unfinished in absurd (cc (some, ends))

  pub unleft : (u : Unfinished) → l.unfinished ≡ None → ((before : Option Unfinished) → left_unfinished t.steps before ≡ Some u) → ⊥
  unleft u none some = let stays = t.unfinished ∙ some k.unfinished in absurd (cc (none, stays))
