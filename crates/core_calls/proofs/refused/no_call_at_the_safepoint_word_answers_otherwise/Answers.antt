use Rattle.std.proofs.Common.{◌≡◌, ℕ, ◌==◌, ◌&&◌, nat_lt, not, cond, Bool, true, false, List, [], ◌∷◌, length}
use Rattle.std.proofs.Common.{Option, Some, None, refl, sym, ap, ◌∙◌, subst, inl, inr, arith, eqb-true, ◌/◌, ◌%◌}
use Rattle.std.proofs.Common.{◌^◌, bit_and}
use Rattle.std.proofs.lemmas.Nat.Bits.{bit_at_and, bit_at_lowest}
use Rattle.std.specs.Int.{bit_at}
use Rattle.mark_word.specs.Safe.{read_safe, requester_in}
use Rattle.mark_word.specs.Wait.{read_wait, wait_of}
use Rattle.mark_word.specs.declared.wait.WaitForm.TheVariants.{Waiting}
use Rattle.core_world.specs.Threads.ThreadView.{StepMade}
use Rattle.core_world.specs.Trees.LookSteps.{some_live, none_goes_on}
use Rattle.core_world.specs.Trees.Plans.{CallContext, load}
use Rattle.core_world.specs.Trees.SafepointSteps.{running_too, reached_word, released_word, halted_word, all_but, has_requester}
use Rattle.core_world.specs.Words.Forms.{runs_in, is_still, runs_form}
use Rattle.core_world.specs.declared.act.Act.{Act}
use Rattle.core_world.specs.declared.act.Act.TheVariants.{CompareExchange}
use Rattle.core_calls.proofs.safepoint.Leaving.{check_halts, stop_publishes, resume_runs}
use Rattle.core_calls.specs.Paths.{made}
use Rattle.core_calls.specs.Stuck.{GoesByWait, Goes, AllGo}
use Rattle.core_world.specs.Trees.Calls.{side_context}
use Rattle.core_world.specs.declared.heap_call.HeapCall.TheVariants as task
use Rattle.core_world.specs.declared.word_id.WordId.TheVariants as id
use Rattle.core_calls.proofs.refused.no_call_at_the_safepoint_word_answers_otherwise.Goals as goal

-- the word that an exchange puts
abbrev put_by : Act → ℕ
put_by (CompareExchange expected word) = word
put_by _ = 0

-- the word that the newest of these steps found
abbrev first_found : List StepMade → ℕ
first_found [] = 0
first_found (m ∷ ms) = m.found

-- a word whose lowest bit is 0 has not the bit of thread 0
no_bit : (n : ℕ) → bit_at n 0 ≡ 0 → true ≡ runs_in n 0 → ⊥
unfolding read_safe
no_bit n clear runs = by_test (nat_lt n (2 ^ 41) && nat_lt (n / 2 ^ 32 % 256) 33) runs
  where
    by_test : (b : Bool) → true ≡ runs_form (cond b (Some (record {
      running = n % 2 ^ 32;
      requester = requester_in (n / 2 ^ 32 % 256);
      halted = n / 2 ^ 40 == 1;
    })) None) 0 → ⊥
    by_test true has =
        let low : bit_at (n % 2 ^ 32) 0 ≡ 1 = eqb-true (bit_at (n % 2 ^ 32) 0) 1 (sym has) in
        absurd (omega (arith, low, clear, bit_at_lowest n, bit_at_lowest (n % 2 ^ 32)))
    by_test false has = absurd (cc has)

cleared : (word : ℕ) → bit_at (bit_and word (all_but 0)) 0 ≡ 0
cleared word = let both = bit_at_and word (all_but 0) 0 in let last : bit_at (all_but 0) 0 ≡ 0 = refl in omega (arith, both, last)

-- what a check finds by the one waiting word that it loads
module _ (e : CallContext) (found : ℕ) (on : Option Bool) where
  abbrev alone : List StepMade
  alone = made (load e (id.Waiting 0)) found ∷ []

  goes_by : Goes 0 alone on → GoesByWait (read_wait found) 0 alone on
  goes_by goes = elim goes.1 [
    | inl x ↦ subst (λ (w : ℕ). GoesByWait (read_wait w) 0 alone on) (sym x.2) goes.2
    | inr none ↦ absurd none
  ]

finds_one : (e : CallContext) (found : ℕ) (on : Option Bool) (stuck : Bool) (ons : List (Option Bool)) → length ons ≡ 1
    → ((on : Option Bool) → GoesByWait (read_wait found) 0 (alone e found on) on → on ≡ Some stuck)
    → AllGo 0 ons (alone e found None) → not stuck ≡ some_live ons && none_goes_on ons
finds_one e found on stuck [] all by goes = absurd (cc all)
finds_one e found on stuck (x ∷ []) all by goes =
    let is = by x (goes_by e found x goes.0) in both stuck ∙ ap (λ (y : Option Bool). some_live (y ∷ []) && none_goes_on (y ∷ [])) (sym is)
  where
    both : (b : Bool) → not b ≡ some_live (Some b ∷ []) && none_goes_on (Some b ∷ [])
    both true = refl
    both false = refl
finds_one e found on stuck (x ∷ y ∷ ons) all by goes = absurd (cc all)

by_ready : (e : CallContext) (on : Option Bool) → GoesByWait (read_wait 0) 0 (alone e 0 on) on → on ≡ Some true
unfolding read_wait
by_ready e on is = is

by_waiting : (e : CallContext) (on : Option Bool) → GoesByWait (read_wait (wait_of (Waiting 0 1))) 0 (alone e (wait_of (Waiting 0 1)) on) on → on ≡ Some false
unfolding read_wait
by_waiting e on is = is

pub returns-clause-poll : goal.returns-clause-poll
unfolding read_safe
returns-clause-poll z e k says = elim (says.by (reached_word 0)).1.2 [
  | inl x ↦
      let asks : true ≡ has_requester (says.by (reached_word 0)).1.0 = ap has_requester x.2 in
      let none = (says.by (reached_word 0)).1.1 in
      absurd (cc (asks, none))
  | inr none ↦ absurd none
]

pub returns-clause-stop : goal.returns-clause-stop
returns-clause-stop z e k says = elim (says.by 0).1 [
  | inl x ↦ absurd x.2
  | inr none ↦ absurd none
]

pub returns-clause-stop_leaves : goal.returns-clause-stop_leaves
returns-clause-stop_leaves z k shape start before after first own runs ran =
    let left = (stop_publishes shape start k before after ran).1 in
    let word = left.0 in
    let so : true ≡ runs_in (bit_and word (all_but 0)) 0 =
    sym runs ∙ left.1 ∙ ap (λ (t : ℕ). runs_in (bit_and word (all_but t)) before.thread) first ∙ ap (λ (t : ℕ). runs_in (bit_and word (all_but 0)) t) own in
    no_bit (bit_and word (all_but 0)) (cleared word) so

pub returns-clause-resume : goal.returns-clause-resume
unfolding read_safe
returns-clause-resume z e k says = elim (says.by halted_word halted_word).1 [
  | inl x ↦ let halted : true ≡ false = x.2 in absurd (cc halted)
  | inr (inl x) ↦ absurd (cc (x.1))
  | inr (inr none) ↦ absurd none
]

pub returns-clause-resume_leaves : goal.returns-clause-resume_leaves
unfolding read_safe
returns-clause-resume_leaves z k shape start before after p ms first own steps stops ran =
    let left = resume_runs shape start (side_context task.Resume k) k.local before after ran in
    let same : 0 ≡ left.0 = ap first_found (sym steps ∙ left.2.1) in
    let by_word : after.running ≡ runs_in (running_too (read_safe 0) k.local.thread) before.thread =
    left.1 ∙ sym (ap (λ (word : ℕ). runs_in (running_too (read_safe word) k.local.thread) before.thread) same) in
    let so : after.running ≡ runs_in (running_too (read_safe 0) 0) 0 =
    by_word ∙ ap (λ (t : ℕ). runs_in (running_too (read_safe 0) t) before.thread) first ∙ ap (λ (t : ℕ). runs_in (running_too (read_safe 0) 0) t) own in
    let runs : true ≡ runs_in (running_too (read_safe 0) 0) 0 = refl in
    absurd (cc (so, runs, stops))

pub returns-clause-check : goal.returns-clause-check
returns-clause-check z e k says = elim (says.by 0).1 [
  | inl x ↦ let same : 1 ≡ 1099511627776 = ap put_by x.1 in absurd (omega (arith, same))
  | inr none ↦ absurd none
]

pub returns-clause-check_halted : goal.returns-clause-check_halted
returns-clause-check_halted z s k shape start before after none ran =
    let halted = check_halts shape start s k before after ran in absurd (cc (halted, none))

pub returns-clause-request : goal.returns-clause-request
unfolding read_safe
returns-clause-request z e k says = elim (says.by (reached_word 0) (reached_word 0)).1 [
  | inl x ↦ let asks : true ≡ false = x.2 in absurd (cc asks)
  | inr (inl x) ↦ absurd (cc (x.1))
  | inr (inr none) ↦ absurd none
]

pub returns-clause-reached : goal.returns-clause-reached
unfolding read_safe
returns-clause-reached z e k says = elim (says.by 1).1.2 [
  | inl x ↦
      let runs : false ≡ is_still (says.by 1).1.0 = ap is_still x.2 in
      let still = (says.by 1).1.1 in
      absurd (cc (runs, still))
  | inr none ↦ absurd none
]

pub returns-clause-release : goal.returns-clause-release
returns-clause-release z e k first says = elim (says.by (reached_word 0)).1 [
  | inl x ↦ let same : 1099511627776 ≡ 1 = ap put_by x.1 ∙ ap released_word first in absurd (omega (arith, same))
  | inr none ↦ absurd none
]

pub returns-clause-stuck : goal.returns-clause-stuck
returns-clause-stuck z e s lone says =
    let found = says.by 0 in
    let not_so : false ≡ true = finds_one e 0 None true found.0 (found.1 ∙ lone) (by_ready e) found.2 ∙ sym found.3 in
    absurd (cc not_so)

pub returns-clause-not_stuck : goal.returns-clause-not_stuck
returns-clause-not_stuck z e s lone says =
    let found = says.by (wait_of (Waiting 0 1)) in
    let not_so : true ≡ false = finds_one e (wait_of (Waiting 0 1)) None false found.0 (found.1 ∙ lone) (by_waiting e) found.2 ∙ sym found.3 in
    absurd (cc not_so)
