-- What the loops that make entries that go alone have done so far.
use Rattle.std.proofs.Common.{◌≡◌, ℕ, suc, ◌+◌, true, false, length, Option, Some, None, is_some, refl, ap, ◌∙◌}
use Rattle.std.proofs.lemmas.Bool.{false≢true, true≢false}
use Rattle.plain_machine.specs.Machine.{PlainMachine}
use Rattle.outcome_search.specs.Settled.{after_alone, or_else, first_alone, go_on, settled_by}
use Rattle.outcome_search.specs.inner.Going.{gone_on}

-- where the first thread has no such entry, the next ones decide
pub first_other : (m : PlainMachine) (t n : ℕ) → is_some (after_alone m t) ≡ false → first_alone m t (suc n) ≡ first_alone m (t + 1) n
first_other m t n none = go (after_alone m t) refl none
  where
    go : (r : Option PlainMachine) → after_alone m t ≡ r → is_some r ≡ false → or_else (after_alone m t) (first_alone m (t + 1) n) ≡ first_alone m (t + 1) n
    go None e h = rw e refl
    go (Some a) e h = absurd (true≢false h)

-- where it has one, it is the first
pub first_here : (m : PlainMachine) (t n : ℕ) → is_some (after_alone m t) ≡ true → first_alone m t (suc n) ≡ after_alone m t
first_here m t n some = go (after_alone m t) refl some
  where
    go : (r : Option PlainMachine) → after_alone m t ≡ r → is_some r ≡ true → or_else (after_alone m t) (first_alone m (t + 1) n) ≡ after_alone m t
    go None e h = absurd (false≢true h)
    go (Some a) e h = rw e refl

-- one entry more is made, where there is one
pub settles_on : (after : PlainMachine → PlainMachine) (steps : ℕ) (m n : PlainMachine) → is_some (first_alone m 0 (length m.threads)) ≡ true
    → n ≡ gone_on after m (first_alone m 0 (length m.threads)) → settled_by after steps n ≡ settled_by after (suc steps) m
settles_on after steps m n some is = go (first_alone m 0 (length m.threads)) refl some is
  where
    go : (r : Option PlainMachine) → first_alone m 0 (length m.threads) ≡ r → is_some r ≡ true → n ≡ gone_on after m r
        → settled_by after steps n ≡ go_on (settled_by after steps) after m (first_alone m 0 (length m.threads))
    go None e h to = absurd (false≢true h)
    go (Some a) e h to = rw (e, to) refl

-- where there is none, it has settled
pub settles_there : (after : PlainMachine → PlainMachine) (steps : ℕ) (m n : PlainMachine) → is_some (first_alone m 0 (length m.threads)) ≡ false
    → n ≡ gone_on after m (first_alone m 0 (length m.threads)) → n ≡ settled_by after (suc steps) m
settles_there after steps m n none is = go (first_alone m 0 (length m.threads)) refl none is
  where
    go : (r : Option PlainMachine) → first_alone m 0 (length m.threads) ≡ r → is_some r ≡ false → n ≡ gone_on after m r
        → n ≡ go_on (settled_by after steps) after m (first_alone m 0 (length m.threads))
    go None e h to = rw e to
    go (Some a) e h to = absurd (true≢false h)

-- nothing is made
pub unmade : (after : PlainMachine → PlainMachine) (m n : PlainMachine) (r : Option PlainMachine) → is_some r ≡ false → n ≡ gone_on after m r → n ≡ m
unmade after m n None none is = is
unmade after m n (Some a) none is = absurd (true≢false none)

-- one is made, and then others
pub goes_on : (settle after : PlainMachine → PlainMachine) (m n k : PlainMachine) (r : Option PlainMachine) → is_some r ≡ true → n ≡ gone_on after m r
    → k ≡ settle n → k ≡ go_on settle after m r
goes_on settle after m n k None some is to = absurd (false≢true some)
goes_on settle after m n k (Some a) some is to = to ∙ ap settle is

pub goes_nowhere : (settle after : PlainMachine → PlainMachine) (m n : PlainMachine) (r : Option PlainMachine) → is_some r ≡ false → n ≡ gone_on after m r
    → n ≡ go_on settle after m r
goes_nowhere settle after m n None none is = is
goes_nowhere settle after m n (Some a) none is = absurd (true≢false none)
