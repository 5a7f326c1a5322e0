-- What the steps on the safepoint word say.
use Rattle.std.proofs.Common.{◌≡◌, ◌⊎◌, ℕ, ◌==◌, cond, Bool, true, false, List, [], ◌∷◌, length, Some, None, refl, sym, ap, ◌∙◌, inl, inr, eqb-true}
use Rattle.mark_word.specs.Safe.{read_safe}
use Rattle.core_world.specs.declared.act.Act.TheVariants.{Store, CompareExchange, FetchAnd}
use Rattle.core_world.specs.declared.word_id.WordId.TheVariants.{Safepoint, Length}
use Rattle.core_world.specs.declared.stage.Stage.{Stage}
use Rattle.core_world.specs.declared.answer.Progress.{Progress}
use Rattle.core_world.specs.declared.answer.Progress.TheVariants.{Done, Pending}
use Rattle.core_world.specs.declared.answer.PendingCause.{PendingCause}
use Rattle.core_world.specs.declared.answer.PendingCause.TheVariants as why
use Rattle.core_world.specs.Words.Forms.{is_halted, is_still}
use Rattle.core_world.specs.Threads.ThreadView.{Local, StepMade}
use Rattle.core_world.specs.Trees.Plans.{CallContext, load}
use Rattle.core_world.specs.Trees.StepTree.{StepTree}
use Rattle.core_world.specs.Trees.SafepointSteps.{has_requester, running_too, requested_by, all_but, reached_word, released_word}
use Rattle.core_world.specs.Trees.SafepointSteps.{halted_word, release_plan, halt_plan, stop_steps, bar, unless, resume_swap_steps}
use Rattle.core_world.specs.Trees.SafepointSteps.{resume_steps, poll_steps, request_swap_steps, request_steps, reached_steps}
use Rattle.core_world.specs.Trees.SafepointSteps.{then_reached, safepoint_steps, release_to, halt_steps}
use Rattle.core_calls.specs.Paths.{made, Always, Leaves}
use Rattle.core_calls.specs.Causes.{AmongSteps, AmongAfter, Found, Loaded, Put, Missed, Requests, Caused, is_stopping, of_polls, of_resumes}
use Rattle.core_calls.specs.CallsSay.{Resumes, IsReached}
use Rattle.core_calls.proofs.Paths.{Saw, saw_load, missed_loaded, missed_seen, always_so, always_then, either_way, Silent, Still}
use Rattle.core_calls.proofs.Paths.{still, still_leaves, now_silent, still_logged, missed, missed_last, put_last}
use Rattle.core_calls.proofs.Reasons.{ProgressSees}

module _ (e : CallContext) (t : ℕ) where
  -- a poll is done exactly where the word has no requester
  abbrev pub Polled : List StepMade → Progress (Unit {0}) → Type 0
  Polled ms (Done x) = Silent e ms × ((word : ℕ) × (has_requester word ≡ false) × Loaded Safepoint word ms)
  Polled ms (Pending cause) = Silent e ms × Caused of_polls t 0 cause ms × ((word : ℕ) × (cause ≡ why.Requested word) × Loaded Safepoint word ms)

  pub poll_says : (ms : List StepMade) → Still ms → Always Polled ms (poll_steps e)
  poll_says ms h = λ word.
      let silent = now_silent e _ word ms refl refl refl refl h in
      either_way Polled _ (has_requester word) _ _
      (λ asks. (silent, record { among = refl; cause = (asks, inl (refl, refl)) }, (word, refl, inl (refl, refl, refl))))
      (λ none. (silent, (word, none, inl (refl, refl, refl))))

module _ (e : CallContext) (k : Local) where
  -- the length of the log is stored, and then the bit is cleared
  abbrev pub Stopped : List StepMade → Unit {0} → Type 0
  Stopped ms x =
      Silent e ms
      × AmongAfter (λ m before. (m.plan.at ≡ Safepoint) × (m.plan.act ≡ FetchAnd (all_but k.thread))
      × AmongSteps (λ n. (n.plan.at ≡ Length k.thread) × (n.plan.act ≡ Store (length k.log))) before) ms

  pub stop_says : (ms : List StepMade) → Still ms → Always Stopped ms (stop_steps e k)
  stop_says ms h = λ n w. (still_leaves _ w _ refl refl refl (now_silent e _ n ms refl refl refl refl h), inl (refl, refl, inl (refl, refl)))

  abbrev pub Resumed : List StepMade → Progress (Unit {0}) → Type 0
  Resumed ms (Done x) = Silent e ms × Resumes k.thread ms
  Resumed ms (Pending why) = Silent e ms × Caused of_resumes k.thread 0 why ms

  abbrev pub ResumeTells : List StepMade → Progress (Unit {0}) → Type 0
  ResumeTells ms progress = Resumed ms progress × ProgressSees ms progress

  -- what the word bars, it bars for this cause
  barred : (word : ℕ) (d : StepTree (Progress (Unit {0}))) (ms : List StepMade) → Silent e ms → Found Safepoint word ms
      → (is_halted word ≡ false → has_requester word ≡ false → Always ResumeTells ms d) → Always ResumeTells ms (unless (bar word) d)
  barred word d ms h there go = by_halt (is_halted word) (has_requester word) refl refl
    where
      by_halt : (halted asks : Bool) → is_halted word ≡ halted → has_requester word ≡ asks
          → Always ResumeTells ms (unless (cond halted (Some why.Halted) (cond asks (Some (why.Requested word)) None)) d)
      by_halt true asks so r = ((h, record { among = refl; cause = (word, so, there) }), tt)
      by_halt false true so r = ((h, record { among = refl; cause = (r, there) }), tt)
      by_halt false false so r = go so r

  resume_swap_says : (word : ℕ) (ms : List StepMade) → is_halted word ≡ false → has_requester word ≡ false
      → Saw Safepoint word ms → Silent e ms → Always ResumeTells ms (resume_swap_steps e k word)
  resume_swap_says word ms going none loaded h = λ n.
      let silent = still_leaves _ n ms refl refl refl h in
      either_way ResumeTells _ (n == word) _ _
      (λ hit. let same = eqb-true n word hit in (
        (
          silent,
          inl (
            refl,
            ap (λ (w : ℕ). CompareExchange w (running_too (read_safe w) k.thread)) (sym same),
            ap is_halted same ∙ going,
            ap has_requester same ∙ none,
          ),
        ),
        tt,
      ))
      (λ miss. barred n _ _ silent (inl (refl, refl)) (λ _ _.
      let race =
      missed_last _ n ms word _ refl miss loaded in ((silent, record { among = refl; cause = missed_loaded _ race }), missed_seen _ race)))

  pub resume_tells : (ms : List StepMade) → Still ms → Always ResumeTells ms (resume_steps e k)
  resume_tells ms h = λ word.
      let silent = now_silent e _ word ms refl refl refl refl h in
      barred word (resume_swap_steps e k word) _ silent (inl (refl, refl))
      (λ going none. resume_swap_says word _ going none (saw_load (load e Safepoint) word ms refl) silent)

  pub resume_says : (ms : List StepMade) → Still ms → Always Resumed ms (resume_steps e k)
  resume_says ms h = always_so ResumeTells Resumed (resume_steps e k) ms (resume_tells ms h) (λ ms a x. x.0)

module _ (e : CallContext) (t : ℕ) (For : PendingCause → List StepMade → Type 0) where
  -- Nothing is logged. A check is unfinished only where the request stands.
  abbrev pub SafeProgress : List StepMade → Progress (Unit {0}) → Type 0
  SafeProgress ms (Done x) = Silent e ms × IsReached ms
  SafeProgress ms (Pending why) = Leaves [] e.unfinished (cond (is_stopping why) e.check false) ms × For why ms

  -- a request that is done was made
  abbrev pub Asked : List StepMade → Progress (Unit {0}) → Type 0
  Asked ms (Done x) = Silent e ms × Requests t ms
  Asked ms (Pending why) = Leaves [] e.unfinished (cond (is_stopping why) e.check false) ms × For why ms

  module _ (races : (expected found : ℕ) (ms : List StepMade) → Missed Saw expected found ms → For (why.Raced expected found) ms)
      (asks : (word : ℕ) (ms : List StepMade) → has_requester word ≡ true → Found Safepoint word ms → For (why.Requested word) ms) where
    request_swap_says : (word : ℕ) (ms : List StepMade) → has_requester word ≡ false → Saw Safepoint word ms
        → Leaves [] e.unfinished false ms → Always Asked ms (request_swap_steps e t word)
    request_swap_says word ms free loaded h = λ n.
        either_way Asked _ (n == word) _ _
        (λ hit. let same = eqb-true n word hit in (
          still_logged _ n ms hit refl refl refl (still h),
          inl (refl, ap (λ (w : ℕ). CompareExchange w (requested_by (read_safe w) t)) (sym same), ap has_requester same ∙ free),
        ))
        (λ miss. either_way Asked _ (has_requester n) _ _
        (λ other. (missed _ n ms miss h, asks n _ other (inl (refl, refl))))
        (λ none. (missed _ n ms miss h, races word n _ (missed_last _ n ms word _ refl miss loaded))))

    pub request_says : (ms : List StepMade) → Still ms → Always Asked ms (request_steps e t)
    request_says ms h = λ word.
        let silent = now_silent (record e { check = false }) _ word ms refl refl refl refl h in
        either_way Asked _ (has_requester word) _ _
        (λ other. (silent, asks word _ other (inl (refl, refl))))
        (λ none. request_swap_says word _ none (saw_load (load (record e { check = false }) Safepoint) word ms refl) silent)

  module _ (requesting : Bool) (stops : (word : ℕ) (ms : List StepMade) → is_still word ≡ false
      → Loaded Safepoint word ms → (requesting ≡ true) ⊎ Requests t ms → For (why.Stopping word) ms) where
    -- the request stands on after a load
    stands_on : (m : StepMade) (ms : List StepMade) → (requesting ≡ true) ⊎ Requests t ms → (requesting ≡ true) ⊎ Requests t (m ∷ ms)
    stands_on m ms (inl before) = inl before
    stands_on m ms (inr asked) = inr (inr asked)

    pub reached_says : (ms : List StepMade) → (requesting ≡ true) ⊎ Requests t ms → Still ms → Always SafeProgress ms (reached_steps e)
    reached_says ms stands h = λ word.
        let silent = now_silent e _ word ms refl refl refl refl h in
        either_way SafeProgress _ (is_still word) _ _
        (λ so. (silent, (word, so, inl (refl, refl, refl))))
        (λ moves. (silent, stops word _ moves (inl (refl, refl, refl)) (stands_on (made (load e Safepoint) word) ms stands)))

    then_reached_says : (ms : List StepMade) (progress : Progress (Unit {0})) → Asked ms progress → Always SafeProgress ms (then_reached e progress)
    then_reached_says ms (Done x) h = reached_says ms (inr h.1) (still h.0)
    then_reached_says ms (Pending why) h = h

    -- the request is made only where none stands
    pub safepoint_says : (requesting ≡ false → (expected found : ℕ) (ms : List StepMade)
        → Missed Saw expected found ms → For (why.Raced expected found) ms)
        → (requesting ≡ false → (word : ℕ) (ms : List StepMade) → has_requester word ≡ true → Found Safepoint word ms → For (why.Requested word) ms)
        → (ms : List StepMade) → Still ms → Always SafeProgress ms (safepoint_steps e t requesting)
    safepoint_says races asks ms h =
        either_way SafeProgress ms requesting _ _
        (λ stands. reached_says ms (inl stands) h)
        (λ none. always_then Asked SafeProgress (request_steps e t) (then_reached e) ms (request_says (races none) (asks none) ms h) then_reached_says)

module _ (e : CallContext) (t : ℕ) where
  -- With the release or the halt a check is over.
  abbrev pub Released : ℕ → List StepMade → Unit {0} → Type 0
  Released word ms x = Leaves [] e.unfinished false ms × Put Safepoint word ms

  pub release_says : (stage : Stage) (ms : List StepMade) → Still ms → Always (Released (released_word t)) ms (release_to stage e t)
  release_says stage ms h = λ n.
      either_way (Released (released_word t)) _ (n == reached_word t) _ _
      (λ hit. (
        still_logged _ n ms hit refl refl refl h,
        put_last (release_plan (record e { check = false }) stage t) n ms (reached_word t) (released_word t) refl hit,
      ))
      (λ miss. tt)

  pub halt_says : (ms : List StepMade) → Still ms → Always (Released halted_word) ms (halt_steps e t)
  halt_says ms h = λ n.
      either_way (Released halted_word) _ (n == reached_word t) _ _
      (λ hit. (still_logged _ n ms hit refl refl refl h, put_last (halt_plan (record e { check = false }) t) n ms (reached_word t) halted_word refl hit))
      (λ miss. tt)
