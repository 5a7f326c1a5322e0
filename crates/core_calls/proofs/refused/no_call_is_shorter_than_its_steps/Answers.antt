use Rattle.std.proofs.Common.{◌≡◌, ℕ, zero, suc, ◌+◌, ◌<◌, ◌≤◌, nat_lt, cond, Bool, true, false, List, length}
use Rattle.std.proofs.Common.{Err, sym, ap, subst, arith}
use Rattle.mark_word.specs.Mark.{read_mark, mark_of}
use Rattle.mark_word.specs.Owner.{read_owner, owner_of}
use Rattle.mark_word.specs.Safe.{read_safe}
use Rattle.mark_word.specs.Wait.{read_wait, wait_of}
use Rattle.mark_word.specs.declared.mark.MarkForm.TheVariants.{Neutral, Anonymous, Biased, Locked}
use Rattle.mark_word.specs.declared.owner.OwnerForm.TheVariants.{ByRecord}
use Rattle.mark_word.specs.declared.wait.WaitForm.TheVariants.{Entering}
use Rattle.plain_monitor.specs.Limits.{most_made}
use Rattle.plain_monitor.specs.declared.entry.Logged.{Logged}
use Rattle.core_world.specs.Opening.{first_known}
use Rattle.core_world.specs.Threads.ThreadView.{Start, start_of}
use Rattle.core_world.specs.Trees.Calls.{steps_of, end}
use Rattle.core_world.specs.Trees.CreateSteps.{make_steps, next_made, count_made}
use Rattle.core_world.specs.Trees.Operations.{enter_steps, answer}
use Rattle.core_world.specs.Trees.SafepointSteps.{reached_word, released_word}
use Rattle.core_world.specs.Trees.StepTree.{done, step, ◌>>=◌, all_from, after_answer}
use Rattle.core_world.specs.Words.Shape.{Shape}
use Rattle.core_world.specs.declared.answer.TooMany.{TooMany}
use Rattle.core_world.specs.declared.plan.StepPlan.{StepPlan}
use Rattle.core_calls.specs.Bounds.{IsWithin, after_class}
use Rattle.core_calls.proofs.refused.no_call_is_shorter_than_its_steps.Goals as goal

too_many : (n i : ℕ) (p : StepPlan) → IsWithin n (all_from i (suc n) (λ i. step p (λ found. done tt))) → ⊥
too_many zero i p within = within
too_many (suc n) i p within = too_many n (i + 1) p (within 0)

as_a_word_says : (n : ℕ) (p : StepPlan) → IsWithin n (step p (λ word. all_from 0 word (λ i. step p (λ found. done tt)))) → ⊥
as_a_word_says zero p within = within
as_a_word_says (suc n) p within = too_many n 0 p (within (suc n))

created : (s : Shape) (k : Start) (c : ℕ) (room : Bool) → room ≡ true
    → IsWithin 2 (cond room (make_steps (next_made s k.local) c >>= answer {E = TooMany}) (done (Err record {})) >>= end) → ⊥
created s k c true is within = within 0 0
created s k c false is within = absurd (cc is)

own_short : (s : Shape) (now class : ℕ) → IsWithin 2 (after_answer (after_class (record s { declared = 1 }) 0 class (after_answer
    (enter_steps (record s { declared = 1 }) (start_of 0 (record (first_known 0) { wait = wait_of (Entering 0) })) 0 now)
    (mark_of (Biased 0 0 0)))) (mark_of (Anonymous 0 0))) → ⊥
unfolding read_mark read_wait
own_short s now class within = within 0 0

pub returns-clause-unbounded : goal.returns-clause-unbounded
returns-clause-unbounded z = as_a_word_says

pub returns-clause-tree : goal.returns-clause-tree
unfolding steps_of
returns-clause-tree z s k c none within =
    let room = ap (λ (x : List Logged). nat_lt (count_made (record k.local { log = x })) most_made) none in
    created s k c (nat_lt (count_made k.local) most_made) room within

pub returns-clause-run : goal.returns-clause-run
returns-clause-run z s k m n within =
    let more : suc (suc (length k.steps)) ≤ 1 + length k.steps = within in absurd (omega (arith, more))

pub returns-clause-next : goal.returns-clause-next
returns-clause-next z s word within = let more : 1 < 1 = within in absurd (omega (arith, more))

pub returns-clause-free : goal.returns-clause-free
unfolding read_mark read_wait
returns-clause-free z s now within = within 0 (mark_of (Neutral 0 0)) 0 0

pub returns-clause-unbiased : goal.returns-clause-unbiased
unfolding read_mark read_wait read_owner
returns-clause-unbiased z s now within =
    let mark = mark_of (Locked 1 0) in within mark 0 0 mark (mark_of (Neutral 0 0)) 0 0 0 0 0 (owner_of (ByRecord 0 0)) 0 0 0 0 0

pub returns-clause-own : goal.returns-clause-own
returns-clause-own z s now class is =
    subst (λ (n : ℕ). IsWithin 2 (after_answer (after_class (record s { declared = n }) 0 class (after_answer
    (enter_steps (record s { declared = n }) (start_of 0 (record (first_known 0) { wait = wait_of (Entering 0) })) 0 now)
    (mark_of (Biased 0 0 0)))) (mark_of (Anonymous 0 0))) → ⊥) (sym is)
    (own_short s now class)

pub returns-clause-revocation : goal.returns-clause-revocation
unfolding read_safe
returns-clause-revocation z s t e b within = within (released_word 0) (released_word 0) (reached_word 0)
