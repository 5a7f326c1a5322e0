-- How a thread stands after its steps on the safepoint word.
use Rattle.std.proofs.Common.{◌≡◌, ℕ, ◌<◌, ◌==◌, cond, if◌then◌else◌, Bool, true, false, List, Some, None, refl, sym, ap, ◌∙◌, subst, eqb-true}
use Rattle.mark_word.specs.Safe.{read_safe}
use Rattle.core_world.specs.declared.stage.Stage.{Stage}
use Rattle.core_world.specs.declared.answer.Progress.{Progress}
use Rattle.core_world.specs.declared.answer.Progress.TheVariants.{Done, Pending}
use Rattle.core_world.specs.declared.answer.PendingCause.TheVariants as why
use Rattle.core_world.specs.Words.Forms.{is_halted, is_still, runs_in, asks_in}
use Rattle.core_world.specs.Threads.ThreadView.{Local, StepMade}
use Rattle.core_world.specs.Trees.Plans.{CallContext}
use Rattle.core_world.specs.Trees.StepTree.{StepTree}
use Rattle.core_world.specs.Trees.SafepointSteps.{has_requester, running_too, requested_by, reached_word, released_word, halted_word}
use Rattle.core_world.specs.Trees.SafepointSteps.{stop_steps, bar, unless, resume_swap_steps, resume_steps, poll_steps, request_swap_steps}
use Rattle.core_world.specs.Trees.SafepointSteps.{request_steps, reached_steps, then_reached, safepoint_steps, release_to, halt_steps}
use Rattle.core_calls.specs.Paths.{Always}
use Rattle.core_calls.specs.Stands.{Stand, IsGoing, IsOff, IsHeld, FoundTrue, stand_after_steps, PendingThreadStands, PollStands, ResumeStands}
use Rattle.core_calls.proofs.Paths.{always_then, either_way}
use Rattle.core_calls.proofs.safepoint.Others.{other_asks, other_runs, stand_in, released_going, halted_off, requested_held, resumed_going, stopped_off}

-- AN EXCHANGE of the safepoint word that hits, and one that misses
hit_stands : (t : ℕ) (b : Stand) (n expected word : ℕ) → (n == expected) ≡ true
    → cond (n == expected) (stand_in (if n == expected then word else n) t) b ≡ stand_in word t
hit_stands t b n expected word hit = ap (λ (c : Bool). cond c (stand_in (if c then word else n) t) b) hit

miss_stands : (t : ℕ) (b : Stand) (n expected word : ℕ) → (n == expected) ≡ false
    → cond (n == expected) (stand_in (if n == expected then word else n) t) b ≡ b
miss_stands t b n expected word miss = ap (λ (c : Bool). cond c (stand_in (if c then word else n) t) b) miss

module _ (t : ℕ) (low : t < 32) (b : Stand) where
  -- what is said of how the thread stands and of an answer, where the words found were true of it
  abbrev pub So : {A : Type 0} → (Stand → A → Type 0) → List StepMade → A → Type 0
  So Q ms a = FoundTrue t b ms → Q (stand_after_steps t ms b) a

  -- a safepoint is done where its thread has stopped and asks
  abbrev pub SafeStands : Stand → Progress (Unit {0}) → Type 0
  SafeStands b (Done x) = IsHeld b
  SafeStands b (Pending why) = PendingThreadStands t b why

  -- THE REQUEST, the look for running threads, and both
  request_swap_stands : (e : CallContext) (word : ℕ) (ms : List StepMade) → (FoundTrue t b ms → IsGoing (stand_after_steps t ms b))
      → Always (So SafeStands) ms (request_swap_steps e t word)
  request_swap_stands e word ms going = λ n.
      let after = requested_by (read_safe word) t in
      either_way (So SafeStands) _ (n == word) _ _
      (λ hit found.
      let x = found.0 refl in
      let same = eqb-true n word hit in
      subst IsHeld (sym (hit_stands t (stand_after_steps t ms b) n word after hit))
      (requested_held t low word x.form (ap read_safe (sym same) ∙ x.spells) (ap (λ m. runs_in m t) (sym same) ∙ x.runs ∙ (going found.1).runs)))
      (λ miss. either_way (So SafeStands) _ (has_requester n) _ _
      (λ other found. (
        subst IsGoing (sym (miss_stands t (stand_after_steps t ms b) n word after miss)) (going found.1),
        other_asks t n other
            ((found.0 refl).asks ∙ (going found.1).asks),
      ))
      (λ none found. (subst IsGoing (sym (miss_stands t (stand_after_steps t ms b) n word after miss)) (going found.1), tt)))

  pub request_stands : (e : CallContext) (ms : List StepMade) → (FoundTrue t b ms → IsGoing (stand_after_steps t ms b))
      → Always (So SafeStands) ms (request_steps e t)
  request_stands e ms going = λ word.
      either_way (So SafeStands) _ (has_requester word) _ _
      (λ other found. (going found.1, other_asks t word other ((found.0 refl).asks ∙ (going found.1).asks)))
      (λ none. request_swap_stands e word _ (λ found. going found.1))

  pub reached_stands : (e : CallContext) (ms : List StepMade) → (FoundTrue t b ms → IsHeld (stand_after_steps t ms b))
      → Always (So SafeStands) ms (reached_steps e)
  reached_stands e ms held = λ word.
      either_way (So SafeStands) _ (is_still word) _ _
      (λ still found. held found.1)
      (λ moves found. let x = found.0 refl in (held found.1, other_runs t word x.form x.spells moves (x.runs ∙ (held found.1).runs)))

  then_reached_stands : (e : CallContext) (ms : List StepMade) (progress : Progress (Unit {0})) → So SafeStands ms progress
      → Always (So SafeStands) ms (then_reached e progress)
  then_reached_stands e ms (Done x) h = reached_stands e ms h
  then_reached_stands e ms (Pending why) h = h

  pub safepoint_stands : (e : CallContext) (requesting : Bool) (ms : List StepMade)
      → (requesting ≡ true → FoundTrue t b ms → IsHeld (stand_after_steps t ms b))
      → (requesting ≡ false → FoundTrue t b ms → IsGoing (stand_after_steps t ms b))
      → Always (So SafeStands) ms (safepoint_steps e t requesting)
  safepoint_stands e requesting ms held going =
      either_way (So SafeStands) ms requesting _ _
      (λ stands. reached_stands e ms (held stands))
      (λ none. always_then (So SafeStands) (So SafeStands) (request_steps e t) (then_reached e) ms (request_stands e ms (going none)) (then_reached_stands e))

  -- THE ENDS of a safepoint
  pub release_stands : (stage : Stage) (e : CallContext) (ms : List StepMade) → Always (So (λ b _. IsGoing b)) ms (release_to stage e t)
  release_stands stage e ms = λ n.
      either_way (So (λ b _. IsGoing b)) _ (n == reached_word t) _ _
      (λ hit found. subst IsGoing (sym (hit_stands t (stand_after_steps t ms b) n (reached_word t) (released_word t) hit)) (released_going t low))
      (λ miss. tt)

  pub halt_stands : (e : CallContext) (ms : List StepMade) → Always (So (λ b _. IsOff b)) ms (halt_steps e t)
  halt_stands e ms = λ n.
      either_way (So (λ b _. IsOff b)) _ (n == reached_word t) _ _
      (λ hit found. subst IsOff (sym (hit_stands t (stand_after_steps t ms b) n (reached_word t) halted_word hit)) (halted_off t low))
      (λ miss. tt)

  -- POLL, STOP AND RESUME
  pub poll_stands : (e : CallContext) (ms : List StepMade) → (FoundTrue t b ms → IsGoing (stand_after_steps t ms b))
      → Always (So (PollStands t)) ms (poll_steps e)
  poll_stands e ms going = λ word.
      either_way (So (PollStands t)) _ (has_requester word) _ _
      (λ other found. (going found.1, other_asks t word other ((found.0 refl).asks ∙ (going found.1).asks)))
      (λ none found. going found.1)

  -- what the word bars, it bars for the halt or for another's request
  barred : (word : ℕ) (d : StepTree (Progress (Unit {0}))) (ms : List StepMade) → (FoundTrue t b ms → IsOff (stand_after_steps t ms b))
      → (FoundTrue t b ms → asks_in word t ≡ false)
      → Always (So (ResumeStands t)) ms d → Always (So (ResumeStands t)) ms (unless (bar word) d)
  barred word d ms off none go = by_bar (is_halted word) (has_requester word) refl
    where
      by_bar : (halted asks : Bool) → has_requester word ≡ asks
          → Always (So (ResumeStands t)) ms (unless (cond halted (Some why.Halted) (cond asks (Some (why.Requested word)) None)) d)
      by_bar true asks is = λ found. (off found, tt)
      by_bar false true is = λ found. (off found, other_asks t word is (none found))
      by_bar false false is = go

module _ (e : CallContext) (k : Local) (low : k.thread < 32) (b : Stand) where
  resume_swap_stands : (word : ℕ) (ms : List StepMade) → (FoundTrue k.thread b ms → IsOff (stand_after_steps k.thread ms b))
      → Always (So k.thread low b (ResumeStands k.thread)) ms (resume_swap_steps e k word)
  resume_swap_stands word ms off = λ n.
      let t = k.thread in
      let after = running_too (read_safe word) t in
      either_way (So t low b (ResumeStands t)) _ (n == word) _ _
      (λ hit found.
      let x = found.0 refl in
      let o = off found.1 in
      let same = eqb-true n word hit in
      subst IsGoing (sym (hit_stands t (stand_after_steps t ms b) n word after hit))
      (resumed_going t low word x.form (ap read_safe (sym same) ∙ x.spells) (ap (λ m. runs_in m t) (sym same) ∙ x.runs ∙ o.runs) (ap
      (λ m. asks_in m t) (sym same) ∙ x.asks ∙ o.asks)))
      (λ miss. barred t low b n _ _
      (λ found. subst IsOff (sym (miss_stands t (stand_after_steps t ms b) n word after miss)) (off found.1))
      (λ found. (found.0 refl).asks ∙ (off found.1).asks)
      (λ found. (subst IsOff (sym (miss_stands t (stand_after_steps t ms b) n word after miss)) (off found.1), tt)))

  pub resume_stands : (ms : List StepMade) → (FoundTrue k.thread b ms → IsOff (stand_after_steps k.thread ms b))
      → Always (So k.thread low b (ResumeStands k.thread)) ms (resume_steps e k)
  resume_stands ms off = λ word.
      barred k.thread low b word (resume_swap_steps e k word) _ (λ found. off found.1) (λ found. (found.0 refl).asks ∙ (off found.1).asks)
      (resume_swap_stands word _ (λ found. off found.1))

  pub stop_stands : (ms : List StepMade) → (FoundTrue k.thread b ms → IsGoing (stand_after_steps k.thread ms b))
      → Always (So k.thread low b (λ b _. IsOff b)) ms (stop_steps e k)
  stop_stands ms going = λ n word found.
      let x = found.0 refl in
      let g = going found.1.1 in
      stopped_off k.thread low word x.form x.spells (x.runs ∙ g.runs) (x.asks ∙ g.asks)
