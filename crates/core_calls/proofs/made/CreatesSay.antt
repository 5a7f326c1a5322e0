-- What the call that makes an object says, and what a run of it makes of its thread's log.
use Rattle.std.proofs.Common.{◌≡◌, ℕ, ◌+◌, nat_lt, cond, not, Bool, true, false, List, [], ◌∷◌, ◌++◌, Result, Ok, Err, refl, ap, ◌∙◌}
use Rattle.plain_monitor.specs.Limits.{most_made}
use Rattle.plain_monitor.specs.History.{last_stamp}
use Rattle.plain_monitor.specs.declared.entry.Entry.TheVariants as entry
use Rattle.plain_monitor.specs.declared.entry.Logged.{Logged}
use Rattle.core_world.specs.declared.answer.TooMany.{TooMany}
use Rattle.core_world.specs.Due.{Runs, Ran}
use Rattle.core_world.specs.Threads.ThreadView.{ThreadView, Start}
use Rattle.core_world.specs.Trees.CreateSteps.{count_made, next_made, make_steps}
use Rattle.core_world.specs.Trees.Operations.{answer, create_steps}
use Rattle.core_world.specs.Trees.StepTree.{StepTree, done, ◌>>=◌}
use Rattle.core_world.specs.Words.Shape.{Shape}
use Rattle.core_calls.specs.CallsSay.{CreateSays}
use Rattle.core_calls.specs.Paths.{Says}
use Rattle.core_calls.proofs.Paths.{either_way}

module _ (s : Shape) (k : Start) (c : ℕ) where
  pub create_says : Says (create_steps s k c) (CreateSays s k c)
  create_says = record {
    by = either_way (CreateSays s k c) [] (nat_lt (count_made k.local) most_made) _ _
        (λ room prototype word mark. (
          ap not room,
          (
            refl,
            record { entries = refl; unfinished = λ before. refl; checking = λ before. refl },
            record {
              load = _;
              class_store = _;
              mark_store = _;
              all = refl;
              loads = (refl, refl);
              stores_class = (refl, refl);
              unfinished = refl;
              stores_mark = (refl, refl);
            },
          ),
        ))
        (λ full. (ap not full, refl));
  }

  -- the create by whether the thread may make one more object
  abbrev creates : Bool → StepTree (Result ℕ TooMany)
  creates room = cond room (make_steps (next_made s k.local) c >>= answer) (done (Err record {}))

  -- an object's New in the log of its thread, one above that thread's last entry
  abbrev with_new : List Logged → ℕ → List Logged
  with_new log o = log ++ record { stamp = last_stamp log + 1; entry = entry.New o c } ∷ []

  module _ (shape : Shape) (start : ℕ) (before after : ThreadView) where
    logs_new : (o : ℕ) (room : Bool) → Runs shape start (creates room) before after (Ok o) → after.log ≡ with_new before.log o
    logs_new o true r =
        let same : next_made s k.local ≡ o = cc (r.1.1.1.1) in
        ap (λ (x : ThreadView). x.log) r.1.1.1.0 ∙ ap (λ (x : ℕ). with_new before.log x) same
    logs_new o false r = absurd (cc (r.1))

    pub create_stamps : (o : ℕ) → Ran shape start (create_steps s k c) before after (Ok o) → after.log ≡ with_new before.log o
    create_stamps o ran = logs_new o (nat_lt (count_made k.local) most_made) ran.by

    stays_so : (e : TooMany) (room : Bool) → Runs shape start (creates room) before after (Err e) → after ≡ before
    stays_so e true r = absurd (cc (r.1.1.1.1))
    stays_so e false r = r.0

    pub create_refuses : (e : TooMany) → Ran shape start (create_steps s k c) before after (Err e) → after ≡ before
    create_refuses e ran = stays_so e (nat_lt (count_made k.local) most_made) ran.by
