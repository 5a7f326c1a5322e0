use Rattle.std.proofs.Common.{◌≡◌, suc, true, false, [], ◌∷◌, Some, None, ap, inl, inr, arith}
use Rattle.mark_word.specs.Mark.{read_mark}
use Rattle.mark_word.specs.declared.mark.MarkForm.TheVariants.{Neutral}
use Rattle.plain_monitor.specs.declared.entry.Entry.TheVariants as entry
use Rattle.core_calls.proofs.refused.no_enter_or_exit_logs_another_answer.Goals as goal

pub returns-clause-enter_unlogged : goal.returns-clause-enter_unlogged
returns-clause-enter_unlogged z k o path says = absurd (cc (says.by.1.entries))

pub returns-clause-enter_path : goal.returns-clause-enter_path
returns-clause-enter_path z e k o p q differ says =
    let logs : entry.Enter o p ∷ [] ≡ entry.Enter o q ∷ [] = (says.by 0).1.entries in differ (cc logs)

pub returns-clause-enter_unfinished : goal.returns-clause-enter_unfinished
returns-clause-enter_unfinished z e k o p u says = let left : Some u ≡ None = (says.by 0).1.unfinished None in absurd (cc left)

pub returns-clause-enter_owned : goal.returns-clause-enter_owned
returns-clause-enter_owned z k o now says = elim (says.by 0).1.1 [
  | inl owned ↦ elim owned.0.cause.2 [
    | inl x ↦ absurd (cc (x.0))
    | inr none ↦ absurd none
  ]
  | inr other ↦ absurd other
]

pub returns-clause-enter_raced : goal.returns-clause-enter_raced
returns-clause-enter_raced z k o now expected word says = elim (says.by (suc expected) (suc expected)).1.1 [
  | inl raced ↦ elim raced.0.cause.among [
    | inl had ↦ elim had.4 [
      | inl x ↦ let same : suc expected ≡ expected = x.2 in absurd (omega (arith, same))
      | inr none ↦ absurd none
    ]
    | inr (inl had) ↦ absurd (cc (had.2))
    | inr (inr none) ↦ absurd none
  ]
  | inr missed ↦ elim missed.among [
    | inl had ↦ elim had.4.1 [
      | inl x ↦ absurd (cc (x.1))
      | inr none ↦ absurd none
    ]
    | inr (inl had) ↦ absurd (cc (had.2))
    | inr (inr none) ↦ absurd none
  ]
]

pub returns-clause-enter_refused : goal.returns-clause-enter_refused
returns-clause-enter_refused z k o e room says = let full = says.by.0 in absurd (cc (full, room))

pub returns-clause-exit_unlogged : goal.returns-clause-exit_unlogged
returns-clause-exit_unlogged z k o says = absurd (cc (says.by.1.entries))

pub returns-clause-exit_other : goal.returns-clause-exit_other
returns-clause-exit_other z e k o other t place differ says =
    let logs : entry.Exit other ∷ [] ≡ entry.Exit o ∷ [] = (says.by 0).1.entries in differ (cc logs)

pub returns-clause-exit_owned : goal.returns-clause-exit_owned
returns-clause-exit_owned z k o monitor says = let may : false ≡ true = (says.by 0).1.1.among in absurd (cc may)

pub returns-clause-exit_refused : goal.returns-clause-exit_refused
returns-clause-exit_refused z k o e some says = let none = says.by.0 in absurd (cc (none, some))

pub returns-clause-stack_enter_unlogged : goal.returns-clause-stack_enter_unlogged
returns-clause-stack_enter_unlogged z o mark path says = absurd (cc (says.by.entries))

pub returns-clause-stack_enter_raced : goal.returns-clause-stack_enter_raced
returns-clause-stack_enter_raced z o mark word says = elim (says.by (suc mark) (suc (suc mark))).1.among [
  | inl had ↦ let same : suc mark ≡ mark = had.4.1 in absurd (omega (arith, same))
  | inr (inl had) ↦ absurd (cc (had.2))
  | inr (inr none) ↦ absurd none
]

pub returns-clause-stack_exit_unlogged : goal.returns-clause-stack_exit_unlogged
returns-clause-stack_exit_unlogged z k o says = absurd (cc (says.by.entries))

pub returns-clause-stack_exit_monitor : goal.returns-clause-stack_exit_monitor
unfolding read_mark
returns-clause-stack_exit_monitor z k o number says =
    let names = (says.by 1).1 in elim names.2 [
      | inl x ↦
          let neutral : Some (Neutral 0 0) ≡ read_mark names.0 = ap read_mark x.2 in
          let monitor = names.1 in
          absurd (cc (neutral, monitor))
      | inr none ↦ absurd none
    ]
