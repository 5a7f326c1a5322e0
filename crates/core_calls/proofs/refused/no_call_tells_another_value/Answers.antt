use Rattle.std.proofs.Common.{◌≡◌, ◌≢◌, ℕ, ◌+◌, List, [], ◌∷◌, Option, Some, None, sym, ◌∙◌, inl, inr}
use Rattle.mark_word.specs.Mark.{mark_of}
use Rattle.mark_word.specs.declared.mark.MarkForm.TheVariants.{Neutral}
use Rattle.plain_monitor.specs.ValueWords.{read_value, word_of}
use Rattle.plain_monitor.specs.declared.entry.Value.TheVariants.{Nil, Ref}
use Rattle.core_world.specs.Threads.ThreadView.{StepMade, Start}
use Rattle.core_world.specs.Trees.HashSteps.{NextDraw, draw_plan}
use Rattle.core_world.specs.Trees.Plans.{CallContext}
use Rattle.core_world.specs.Trees.WaitSteps.{publish_plan}
use Rattle.core_world.specs.declared.act.Act.TheVariants.{Store}
use Rattle.core_world.specs.declared.word_id.WordId.TheVariants.{Mark}
use Rattle.core_calls.proofs.Untold.{none_behind}
use Rattle.core_calls.proofs.shot.ShotsKept.{dump_shoots, dump_pends}
use Rattle.core_calls.specs.CallsSay.{IsDraw}
use Rattle.core_calls.specs.Paths.{made}
use Rattle.plain_monitor.specs.declared.entry.Entry.TheVariants as entry
use Rattle.core_world.specs.declared.word_id.WordId.TheVariants as id
use Rattle.core_calls.proofs.refused.no_call_tells_another_value.Goals as goal

undrawn : (e : CallContext) (k : Start) (o t value : ℕ) (drawn : Option ℕ) → IsDraw k o value (made (publish_plan e t (entry.Hash o value None) 0) 0 ∷ []) drawn
    → entry.Hash o value None ∷ [] ≡ entry.Hash o value drawn ∷ [] → ⊥
undrawn e k o t value None draw logs = elim draw.1 [
  | inl x ↦ absurd (cc (x.1))
  | inr none ↦ absurd none
]
undrawn e k o t value (Some number) draw logs = absurd (cc logs)

drawn_next : (k : Start) (o : ℕ) (draw : NextDraw) (ms : List StepMade) (drawn : Option ℕ) → draw.number ≢ k.draws + 1 → IsDraw k o draw.value ms drawn
    → entry.Hash o draw.value (Some draw.number) ∷ [] ≡ entry.Hash o draw.value drawn ∷ [] → ⊥
drawn_next k o draw ms None differ is logs = absurd (cc logs)
drawn_next k o draw ms (Some number) differ is logs = let same : draw.number ≡ number = cc logs in differ (same ∙ is.0)

pub returns-clause-hash_undrawn : goal.returns-clause-hash_undrawn
returns-clause-hash_undrawn z e k o t value says = undrawn e k o t value (says.by 0).0 (says.by 0).1 (says.by 0).2.entries

pub returns-clause-hash_draw : goal.returns-clause-hash_draw
returns-clause-hash_draw z e k o draw differ says =
    let header = mark_of (Neutral 0 0) in
    let found = says.by header in
    drawn_next k o draw (made (draw_plan e draw (id.Mark o) o header) header ∷ []) found.0 differ found.1 found.2.entries

pub returns-clause-get : goal.returns-clause-get
unfolding read_value
returns-clause-get z e k o slot says =
    let logs : entry.Get o slot (Ref 0) ∷ [] ≡ entry.Get o slot Nil ∷ [] = (says.by (word_of (Ref 0))).1.0.entries in absurd (cc logs)

pub returns-clause-put : goal.returns-clause-put
returns-clause-put z e k o slot word value differ says = elim (says.by 0).1.1 [
  | inl x ↦ let same : Store word ≡ Store (word_of value) = x.1 in differ (cc same)
  | inr none ↦ absurd none
]

pub returns-clause-print : goal.returns-clause-print
returns-clause-print z k value other differ says =
    let logs : entry.Print other ∷ [] ≡ entry.Print value ∷ [] = (says.by 0).entries in differ (cc logs)

pub returns-clause-finish : goal.returns-clause-finish
returns-clause-finish z k says = let logs : entry.Spent ∷ [] ≡ entry.Done ∷ [] = (says.by 0 0).entries in absurd (cc logs)

pub returns-clause-dump_number : goal.returns-clause-dump_number
returns-clause-dump_number z e k number differ says = differ (says.by 0).1.0

pub returns-clause-dump_unreleased : goal.returns-clause-dump_unreleased
returns-clause-dump_unreleased z e k says = elim (says.by 0).1.2 [
  | inl x ↦ absurd (cc (x.0))
  | inr none ↦ absurd none
]

pub returns-clause-dump_keeps : goal.returns-clause-dump_keeps
returns-clause-dump_keeps z s k shape start number before after before_it same ran =
    let shot = dump_shoots shape start s k before after number before_it ran in
    let none = none_behind before.shots (shot.0 ∷ []) (sym same ∙ shot.1) in
    absurd (cc none)

pub returns-clause-dump_pends : goal.returns-clause-dump_pends
returns-clause-dump_pends z s k shape start before after cause shot more ran =
    let same = dump_pends shape start s k before after cause ran in
    let none = none_behind before.shots (shot ∷ []) (sym same ∙ more) in
    absurd (cc none)
