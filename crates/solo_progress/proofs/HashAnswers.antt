-- A hash that is done answers the hash that the logs have of the object, and where they have none the thread's next draw: the world after the call is one to
-- which the heap comes, in which every hash entry says its object's hash, and an object with a hash has one draw.
use Rattle.std.proofs.Common.{◌≡◌, ◌≢◌, ℕ, zero, suc, ◌<◌, ◌==◌, cond, Bool, false, List, [], ◌∷◌, ◌++◌, length}
use Rattle.std.proofs.Common.{slice_get, Option, Some, None, refl, sym, ap, ◌∙◌, subst, arith, inl, inr, ne_eqb}
use Rattle.std.proofs.lemmas.List.{get_or-set_same, get_or-set_other}
use Rattle.std.proofs.lemmas.Option.{same_Some}
use Rattle.plain_monitor.specs.declared.entry.Entry.{Entry}
use Rattle.plain_monitor.specs.declared.entry.Entry.TheVariants.{Hash}
use Rattle.plain_monitor.specs.declared.entry.Logged.{Logged}
use Rattle.plain_monitor.specs.History.{log_of, appended}
use Rattle.plain_monitor.specs.Objects.{PlainObject}
use Rattle.core_world.specs.declared.answer.Progress.{Progress}
use Rattle.core_world.specs.declared.answer.Progress.TheVariants.{Done, Pending}
use Rattle.core_world.specs.declared.heap_call.HeapCall.{HeapCall}
use Rattle.core_world.specs.Clauses.Draws.{Draw, draw_in, drawn_for, all_draws}
use Rattle.core_world.specs.Due.{Runs}
use Rattle.core_world.specs.Locks.{object_of, hash_at, or_zero}
use Rattle.core_world.specs.Steps.{known_along}
use Rattle.core_world.specs.Threads.ThreadView.{ThreadView, Start, StepMade}
use Rattle.core_world.specs.Trees.Operations.{hash_steps}
use Rattle.core_world.specs.Trees.StepTree.{StepTree, done, unreachable, step}
use Rattle.core_world.specs.Valid.{Fits, IsValid}
use Rattle.core_world.specs.Words.Shape.{Shape, IsInLimits}
use Rattle.core_world.specs.World.{World, logs, logs_from, with_known}
use Rattle.core_world.proofs.KnowledgeParts.{by_equal, each_with_known, logs_grow, logs_length}
use Rattle.core_world.proofs.bias.LookWhileRevoking.{forgotten}
use Rattle.core_world.proofs.RefusedWorlds.{logs_same, revoking_logs}
use Rattle.core_calls.specs.Paths.{made, IsPath, Tells, Leaves}
use Rattle.core_calls.specs.CallsSay.{HashSays, IsDraw}
use Rattle.core_calls.proofs.Runs.{tells, did, did_one}
use Rattle.core_calls.proofs.wait.WaitCallsSay.{hash_says}
use Rattle.core_law.specs.WholeLaw.{LawsHold}
use Rattle.core_law.specs.Logic.{Heap}
use Rattle.core_locks.specs.DrawnHashes.{HashesAreDrawn}
use Rattle.core_locks.proofs.hash.Drawing.{all_more}
use Rattle.core_locks.proofs.hash.DrawnLogs.{hashes_drawn, valid_hashes}
use Rattle.core_locks.proofs.hash.PlainHashes.{above_after}
use Rattle.core_steps.proofs.ReachedWorlds.{reached_worlds_valid}
use Rattle.solo_progress.specs.Answers.{IsDone, hash_due}
use Rattle.solo_progress.specs.LeftAlone.{start_in}
use Rattle.solo_progress.specs.Moves.{GetsThrough}
use Rattle.solo_progress.proofs.Mids.{Went, went}

-- the steps of a path are a run
path_runs : {A : Type 0} (s : Shape) (start : ℕ) (k : ThreadView) (d : StepTree A) (sofar ms : List StepMade) (a : A) → IsPath d sofar ms a
    → Runs s start d (known_along s start sofar k) (known_along s start ms k) a
path_runs s start k (done b) sofar ms a h = (ap (λ x. known_along s start x k) h.0, h.1)
path_runs s start k unreachable sofar ms a h = absurd h
path_runs s start k (step p f) sofar ms a h = (h.0, path_runs s start k (f h.0) (made p h.0 ∷ sofar) ms a h.1)

-- LISTS
at_end : (xs : List Logged) (y : Logged) → slice_get (xs ++ y ∷ []) (length xs) ≡ Some y
at_end [] y = refl
at_end (x ∷ xs) y = at_end xs y

still_there : (xs : List Logged) (y l : Logged) (i : ℕ) → slice_get xs i ≡ Some l → slice_get (xs ++ y ∷ []) i ≡ Some l
still_there [] y l i h = absurd (cc h)
still_there (x ∷ xs) y l zero h = h
still_there (x ∷ xs) y l (suc i) h = still_there xs y l i h

-- a draw is such an entry
drawn_entry : (e : Entry) (d : Draw) → draw_in e ≡ Some d → e ≡ Hash d.object d.value (Some d.number)
drawn_entry (Hash o value (Some number)) d h =
    let same : record { object = o; value = value; number = number } ≡ d = same_Some _ d h in
    ap (λ (x : Draw). Hash x.object x.value (Some x.number)) same
drawn_entry (Hash o value None) d h = absurd (cc h)
drawn_entry _ d h = absurd (cc h)

-- A VALID WORLD: no plain hash is 0, and an object with a hash has one draw
some_hash : (w : World) (P : List PlainObject) (o value : ℕ) → IsValid w P → (object_of P o).hash ≡ Some value → value ≢ 0
some_hash w P o value (inl fits) is = above_after w.shape.objects (logs w) P fits.taken o value is
some_hash w P o value (inr s) is = above_after s.before.shape.objects (logs s.before) P s.fits.taken o value is

all_drawn : (w : World) (P : List PlainObject) (o : ℕ) → IsValid w P → all_draws o (logs w) ≡ cond (hash_at P o == 0) 0 1
all_drawn w P o (inl fits) = fits.draws.one o
all_drawn w P o (inr s) = ap (all_draws o) (revoking_logs w P s) ∙ s.fits.draws.one o

module _ (heap : Heap) (limits : IsInLimits heap.shape) (w : World) (P : List PlainObject) (t o now : ℕ) (fits : Fits w P) (within : t < w.shape.threads)
    (job : HeapCall) (r : GetsThrough heap w t job (hash_steps w.shape (start_in w t) o now) IsDone) where
  abbrev k : Start
  k = start_in w t

  abbrev last : World
  last = r.last

  by : Went w t r.steps r.last
  by = went w t r.steps r.last r.moves

  told : Tells (w.known t) (r.last.known t) (λ ms. HashSays (start_in w t) o ms r.answer)
  told =
      tells (hash_says w.shape k o now)
      (record {
        by = subst (λ l. Runs w.shape w.start (hash_steps w.shape k o now) (w.known t) l r.answer) (sym by.known)
            (path_runs w.shape w.start (w.known t) (hash_steps w.shape k o now) [] r.steps r.answer r.path);
      })

  many : t < length (logs w)
  many = let a = logs_length 0 w.shape.threads w.known in omega (arith, a, within)

  -- after an entry more of t
  module _ (y : Logged) (grows : (r.last.known t).log ≡ (w.known t).log ++ y ∷ []) where
    all : logs r.last ≡ appended (logs w) t y
    all =
        ap (λ (s : Shape). logs_from 0 s.threads last.known) by.shape
        ∙ logs_same 0 w.shape.threads last.known (with_known t (last.known t) w.known)
        (λ u. each_with_known (λ i x. (last.known i).log ≡ x.log) t (last.known t) w.known u refl (λ d. ap (λ (x : ThreadView). x.log) (by.others u d)))
        ∙ logs_grow w.shape.threads t y (last.known t) w.known within grows

    own : log_of (logs r.last) t ≡ log_of (logs w) t ++ y ∷ []
    own = ap (λ x. log_of x t) all ∙ get_or-set_same (logs w) t (log_of (logs w) t ++ y ∷ []) [] many

    kept : (u i : ℕ) (l : Logged) → slice_get (log_of (logs w) u) i ≡ Some l → slice_get (log_of (logs r.last) u) i ≡ Some l
    kept u i l h = by_equal u t
        (λ e. subst (λ v. slice_get (log_of (logs last) v) i ≡ Some l) (sym e)
        (ap (λ log. slice_get log i) own ∙ still_there (log_of (logs w) t) y l i (ap (λ v. slice_get (log_of (logs w) v) i) (sym e) ∙ h)))
        (λ d. ap (λ log. slice_get log i) (ap (λ x. log_of x u) all ∙ get_or-set_other (logs w) t u (log_of (logs w) t ++ y ∷ []) [] d) ∙ h)

    -- which is a hash of o
    module _ (Q : List PlainObject) (valid : IsValid r.last Q) (value : ℕ) (drawn : Option ℕ) (is : y.entry ≡ Hash o value drawn) where
      after : HashesAreDrawn r.last.start (logs r.last) Q
      after = valid_hashes last Q valid

      said : (object_of Q o).hash ≡ Some value
      said =
          after.says t (length (log_of (logs w) t)) o value drawn y
          (ap (λ log. slice_get log (length (log_of (logs w) t))) own ∙ at_end (log_of (logs w) t) y) is

      -- o had a hash
      same : (h : ℕ) → (object_of P o).hash ≡ Some h → value ≡ h
      same h had =
          let d = (hashes_drawn w P fits).once o h had in
          let e = drawn_entry d.logged.entry.entry d.draw d.logged.drawn in
          let entry : d.logged.entry.entry ≡ Hash o h (Some d.draw.number) = e ∙ (λ i. Hash (d.object i) (d.value i) (Some d.draw.number)) in
          same_Some value h (sym said ∙ after.says d.thread d.place o h (Some d.draw.number) d.logged.entry
          (kept d.thread d.place d.logged.entry d.logged.there) entry)

      -- it had none
      new : (object_of P o).hash ≡ None → drawn ≡ None → ⊥
      new none undrawn =
          let was : all_draws o (logs w) ≡ 0 = fits.draws.one o ∙ ap (λ h. cond (or_zero h == 0) 0 1) none in
          let now_one : all_draws o (logs last) ≡ 1 =
          all_drawn last Q o valid
          ∙ ap (λ (b : Bool). cond b 0 1) (ap (λ h. or_zero h == 0) said ∙ ne_eqb value 0 (some_hash last Q o value valid said)) in
          let more = ap (all_draws o) all ∙ all_more o t (logs w) y many in
          let nothing : drawn_for o (draw_in y.entry) ≡ 0 =
          ap (λ e. drawn_for o (draw_in e)) (is ∙ ap (λ n. Hash o value n) undrawn) in
          absurd (omega (arith, was, now_one, more, nothing))

  due : (answer : Progress ℕ) → IsDone answer → Tells (w.known t) (r.last.known t) (λ ms. HashSays (start_in w t) o ms answer)
      → answer ≡ Done (hash_due P o (start_in w t))
  due (Pending why) h says = absurd h
  due (Done value) h says =
      let d = did_one (Hash o value drawn) None false (w.known t) (last.known t)
      (did (Hash o value drawn ∷ []) None false (w.known t) (last.known t) leaves) in
      let y : Logged = record { stamp = d.0; entry = Hash o value drawn } in
      let v = reached_worlds_valid heap last limits r.reached in
      let valid = forgotten LawsHold last v.objects v.is in
      ap Done (by_hash (object_of P o).hash refl
      (λ old had. same y d.1 v.objects valid value drawn refl old had) (λ none undrawn. new y d.1 v.objects valid value drawn refl none undrawn))
    where
      drawn : Option ℕ
      drawn = says.says.0

      leaves : Tells (w.known t) (r.last.known t) (Leaves (Hash o value drawn ∷ []) None false)
      leaves =
          record {
            steps = says.steps;
            added = says.added;
            new = says.new;
            log = says.log;
            entries = says.entries;
            unfinished = says.unfinished;
            checking = says.checking;
            says = says.says.2;
          }

      draws : (n : Option ℕ) → drawn ≡ n → (n ≡ None → ⊥) → value ≡ (start_in w t).draw
      draws None e some = absurd (some refl)
      draws (Some number) e some =
          (subst (λ n. IsDraw (start_in w t) o value says.steps n) e says.says.1).1

      by_hash : (x : Option ℕ) → (object_of P o).hash ≡ x → ((h : ℕ) → (object_of P o).hash ≡ Some h → value ≡ h)
          → ((object_of P o).hash ≡ None → drawn ≡ None → ⊥) → value ≡ hash_due P o (start_in w t)
      by_hash (Some h) is same new =
          same h is
          ∙ sym (ap (λ x. cond (or_zero x == 0) (start_in w t).draw (or_zero x)) is
          ∙ ap (λ (b : Bool). cond b (start_in w t).draw h) (ne_eqb h 0 (some_hash w P o h (inl fits) is)))
      by_hash None is same new =
          draws drawn refl (λ n. new is n)
          ∙ sym (ap (λ x. cond (or_zero x == 0) (start_in w t).draw (or_zero x)) is)

  pub hash_answered : GetsThrough heap w t job (hash_steps w.shape (start_in w t) o now) (λ progress. progress ≡ Done (hash_due P o (start_in w t)))
  hash_answered = record {
    steps = r.steps;
    last = r.last;
    answer = r.answer;
    moves = r.moves;
    path = r.path;
    few = r.few;
    reached = r.reached;
    over = r.over;
    says = due r.answer r.says told;
  }
