-- The other operations miss no exchange either.
use Rattle.std.proofs.Common.{◌≡◌, ◌≢◌, ℕ, ◌+◌, ◌*◌, ◌<◌, ◌==◌, nat_lt, ◌||◌, cond, not, Bool, true, false}
use Rattle.std.proofs.Common.{Option, Some, None, Result, Ok, Err, refl, sym, ap, ◌∙◌, subst, arith, eq-eqb}
use Rattle.mark_word.specs.declared.mark.MarkForm.{MarkForm}
use Rattle.mark_word.specs.declared.mark.MarkForm.TheVariants.{Inflating, Neutral, Anonymous, Biased, Locked, Inflated}
use Rattle.mark_word.specs.declared.owner.OwnerForm.{OwnerForm}
use Rattle.mark_word.specs.declared.owner.OwnerForm.TheVariants.{Free, ByThread, ByRecord}
use Rattle.mark_word.specs.declared.wait.WaitForm.{WaitForm}
use Rattle.mark_word.specs.declared.wait.WaitForm.TheVariants as wait
use Rattle.mark_word.specs.Mark.{read_mark, mark_of}
use Rattle.mark_word.specs.Owner.{read_owner}
use Rattle.mark_word.specs.Wait.{read_wait, wait_of}
use Rattle.mark_word.proofs.ReadingWaits.{read_wait-spells}
use Rattle.plain_monitor.specs.Limits.{most_made}
use Rattle.plain_monitor.specs.declared.entry.Value.{Value}
use Rattle.core_world.specs.declared.word_id.WordId.{WordId}
use Rattle.core_world.specs.declared.word_id.WordId.TheVariants.{Safepoint, Mark, Prototype, Owner, Header, Displaced, Waiting}
use Rattle.core_world.specs.declared.answer.BiasTry.{BiasTry}
use Rattle.core_world.specs.declared.answer.BiasTry.TheVariants.{Took, Unbiased, Valid, Raced}
use Rattle.core_world.specs.declared.answer.Progress.{Progress}
use Rattle.core_world.specs.declared.answer.Progress.TheVariants.{Done, Pending}
use Rattle.core_world.specs.declared.answer.PendingCause.TheVariants as why
use Rattle.core_world.specs.declared.answer.TooMany.{TooMany}
use Rattle.core_world.specs.declared.answer.Unguarded.{Unguarded}
use Rattle.core_world.specs.declared.stage.Stage.TheVariants.{Settled}
use Rattle.core_world.specs.declared.heap_call.Operation.TheVariants as op
use Rattle.core_world.specs.declared.heap_call.HeapCall.TheVariants as task
use Rattle.core_world.specs.Words.Names.{same_name}
use Rattle.core_world.specs.Words.Forms.{epoch_in, is_biased, is_biased_form, hash_in, waits_on, is_halted}
use Rattle.core_world.specs.Words.Shape.{Shape}
use Rattle.core_world.specs.Words.Names.{class_by}
use Rattle.core_world.specs.Locks.{hold_count}
use Rattle.core_world.specs.RevocationRules.{first_place, holds_in}
use Rattle.core_world.specs.Threads.ThreadView.{Local, Start}
use Rattle.core_world.specs.Trees.BiasSteps.{unbias_swap_steps, bias_drop_steps, bias_drop_by, bias_drop_at}
use Rattle.core_world.specs.Trees.DeflateSteps.{deflate_steps}
use Rattle.core_world.specs.Trees.HashSteps.{NextDraw, draw_steps, hash_monitor_steps, hash_inflated}
use Rattle.core_world.specs.Trees.HashSteps.{hash_inflate_steps, hash_unless, hash_mark_steps, hash_header_steps}
use Rattle.core_world.specs.Trees.LookSteps.{take_shot_steps}
use Rattle.core_world.specs.Trees.MonitorSteps.{inflate_steps, own_steps}
use Rattle.core_world.specs.Trees.Operations.{and_then, answer, revocation_steps, revoked_steps, unbias_tried, unbias_steps}
use Rattle.core_world.specs.Trees.Operations.{no_bias, hash_steps, notify_at, notify_going, notify_steps, notify_all_at}
use Rattle.core_world.specs.Trees.Operations.{notify_all_going, notify_all_steps, wait_beginning, wait_going, wait_steps}
use Rattle.core_world.specs.Trees.Operations.{put_steps, put_plan, lone_context, dump_going, dump_steps, create_steps}
use Rattle.core_world.specs.Trees.CreateSteps.{count_made, next_made, make_steps}
use Rattle.core_world.specs.Trees.Plans.{CallContext, call_context, done_with, next_stamp}
use Rattle.core_world.specs.Trees.SafepointSteps.{has_requester, released_word, reached_word, safepoint_steps}
use Rattle.core_world.specs.Trees.SafepointSteps.{release_safepoint, poll_steps, resume_steps, resume_swap_steps, unless}
use Rattle.core_world.specs.Trees.StepTree.{StepTree, done, ◌>>=◌, ask}
use Rattle.core_world.specs.Trees.WaitSteps.{monitor_notify_steps, monitor_notify_all_steps, monitor_wait_steps}
use Rattle.core_world.specs.Trees.WaitSteps.{monitor_resume_steps, resume_at, resume_mark_at, resume_owner_at}
use Rattle.core_calls.specs.CallsSay.{has_none}
use Rattle.core_calls.specs.Causes.{is_other_form}
use Rattle.solo_progress.specs.Alone.{AnswersAlone, Quiet, word_of_one}
use Rattle.solo_progress.specs.Answers.{is_anothers, is_told, is_told_form, WaitsWhere, LetsGo, RefusedWhere, is_pending, IsDone, guarded, created}
use Rattle.solo_progress.proofs.OneRun.{Alone, QuietAt, quiet_at, alone_then, alone_either, alone_class, answers_alone}
use Rattle.solo_progress.proofs.OneRun.{refused_or, load_leaves, not_inflating, DoneWith, alone_past}
use Rattle.solo_progress.proofs.Safe.{alone_progress, safepoint_alone, revocation_alone}
use Rattle.solo_progress.proofs.Monitors.{OwnerAfter, one_some, own_word, inflate_alone, owned_by}
use Rattle.solo_progress.proofs.Enters.{quiet_load, unbiased_other}

-- the words after a load
abbrev loaded : WordId → (WordId → ℕ) → WordId → ℕ
loaded at f n = cond (same_name n at) (f at) (f n)

-- THE END OF A BIAS
module _ (s : Shape) (e : CallContext) (k : Start) (o now : ℕ) (low : k.local.thread < 32) where
  abbrev t : ℕ
  t = k.local.thread

  abbrev c : (WordId → ℕ) → ℕ
  c f = class_by s f o

  abbrev Dropped : (WordId → ℕ) → BiasTry → Type 0
  Dropped g (Raced expected found) = ⊥
  Dropped g _ = QuietAt o (released_word t) g

  swap_alone : (mark neutral : ℕ) (g : WordId → ℕ) → g (Mark o) ≡ mark → neutral ≢ 0 → QuietAt o (released_word t) g
      → Alone Dropped g (unbias_swap_steps e o mark neutral)
  swap_alone mark neutral g is some q =
      alone_either Dropped _ (g (Mark o) == mark) _ _
      (λ hit. record {
        mark = one_some (same_name (Mark o) (Mark o)) (g (Mark o) == mark) neutral (g (Mark o)) (g (Mark o)) some
            q.mark q.mark;
        safepoint = q.safepoint;
      })
      (λ miss. let same = eq-eqb (g (Mark o)) mark is in absurd (cc (miss, same)))

  drop_alone : (f : WordId → ℕ) → f (Prototype (c f)) ≢ 0 → QuietAt o (released_word t) f → Alone Dropped f (bias_drop_steps s e o)
  drop_alone f some q =
      alone_either Dropped _ (is_biased (f (Mark o))) _ _ (λ _. alone_class Dropped e Settled s o _ _ (by_epoch (epoch_in (f (Prototype (c f))))))
      (λ _. quiet_load (released_word t) o f q)
    where
      quiet_loaded : QuietAt o (released_word t)
          (λ n. cond (same_name n (Prototype (c f))) (f (Prototype (c f))) (cond (same_name n (Mark o)) (f (Mark o)) (f n)))
      quiet_loaded = record { mark = (quiet_load (released_word t) o f q).mark; safepoint = q.safepoint }

      neutral_some : mark_of (Neutral 0 0) ≢ 0
      neutral_some z = absurd (omega (arith, z))

      by_mark : (form : Option MarkForm) (epoch : ℕ)
          → Alone Dropped (λ n. cond (same_name n (Prototype (c f))) (f (Prototype (c f))) (cond (same_name n (Mark o)) (f (Mark o)) (f n)))
          (bias_drop_at form epoch e o (f (Mark o)))
      by_mark (Some (Biased thread old age)) epoch =
          alone_either Dropped _ (old == epoch) _ _ (λ _. quiet_loaded)
          (λ _. swap_alone (f (Mark o)) (mark_of (Neutral 0 0)) _ (load_leaves (Mark o) (Mark o) f) neutral_some quiet_loaded)
      by_mark (Some (Anonymous old age)) epoch =
          swap_alone (f (Mark o)) (mark_of (Neutral 0 0)) _ (load_leaves (Mark o) (Mark o) f) neutral_some quiet_loaded
      by_mark _ epoch = tt

      by_epoch : (epoch : Option ℕ)
          → Alone Dropped (λ n. cond (same_name n (Prototype (c f))) (f (Prototype (c f))) (cond (same_name n (Mark o)) (f (Mark o)) (f n)))
          (bias_drop_by epoch e o (f (Mark o)) (f (Prototype (c f))))
      by_epoch None = swap_alone (f (Mark o)) (f (Prototype (c f))) _ (load_leaves (Mark o) (Mark o) f) some quiet_loaded
      by_epoch (Some epoch) = by_mark (read_mark (f (Mark o))) epoch

  abbrev Unbiases : (WordId → ℕ) → Progress (Unit {0}) → Type 0
  Unbiases g progress = DoneWith (λ x. QuietAt o (released_word t) g) progress

  revoked_alone : (requesting : Bool) (f : WordId → ℕ) → QuietAt o (word_of_one requesting t) f
      → Alone Unbiases f (revoked_steps s t requesting e (no_bias o now))
  revoked_alone requesting f q =
      alone_progress (λ g (x : Bool). QuietAt o (released_word t) g) Unbiases (revocation_steps s t requesting e (no_bias o now))
      (λ _. done_with tt) f (revocation_alone t low s requesting e (no_bias o now) f q) (λ g x q. q)

  pub unbias_alone : (f : WordId → ℕ) → f (Prototype (c f)) ≢ 0 → QuietAt o (word_of_one k.requesting t) f
      → Alone Unbiases f (unbias_steps s e k (no_bias o now))
  unbias_alone f some q =
      alone_either Unbiases f k.requesting _ _
      (λ asks. revoked_alone true f (subst (λ (r : Bool). QuietAt o (word_of_one r t) f) asks q))
      (λ none. alone_then Dropped Unbiases (bias_drop_steps s e o) (λ tried. unbias_tried tried s e k (no_bias o now)) f
      (drop_alone f some (subst (λ (r : Bool). QuietAt o (word_of_one r t) f) none q)) by_tried)
    where
      by_tried : (g : WordId → ℕ) (tried : BiasTry) → Dropped g tried → Alone Unbiases g (unbias_tried tried s e k (no_bias o now))
      by_tried g (Took path) q = tt
      by_tried g (Unbiased mark) q = q
      by_tried g (Valid mark) q = revoked_alone false g q
      by_tried g (Raced expected found) q = absurd q

  -- A HASH
  module _ (draw : NextDraw) where
    abbrev Through : (WordId → ℕ) → Progress ℕ → Type 0
    Through g progress = IsDone progress

    draw_alone : (at : WordId) (header : ℕ) (g : WordId → ℕ) → g at ≡ header → Alone Through g (draw_steps e draw at o header)
    draw_alone at header g is =
        alone_either Through _ (g at == header) _ _ (λ _. tt) (λ miss. let same = eq-eqb (g at) header is in absurd (cc (miss, same)))

    hash_monitor_alone : (m : ℕ) (g : WordId → ℕ) → Alone Through g (hash_monitor_steps e draw o m)
    hash_monitor_alone m g =
        alone_either Through _ (hash_in (g (Header m)) == 0) _ _
        (λ _. draw_alone (Header m) (g (Header m)) (loaded (Header m) g) (load_leaves (Header m) (Header m) g)) (λ _. tt)

    hash_inflate_alone : (g : WordId → ℕ) → QuietAt o (released_word t) g → Alone Through g (hash_inflate_steps s e k.kept draw o)
    hash_inflate_alone g q =
        alone_then (λ h progress. DoneWith (λ m. QuietAt o (released_word t) h × OwnerAfter (read_mark (g (Mark o))) g h m) progress) Through
        (inflate_steps s e k.kept o) (hash_inflated e draw o) g
        (inflate_alone (released_word t) e o s k.kept g q) by_progress
      where
        by_progress : (h : WordId → ℕ) (progress : Progress ℕ)
            → DoneWith (λ m. QuietAt o (released_word t) h × OwnerAfter (read_mark (g (Mark o))) g h m) progress
            → Alone Through h (hash_inflated e draw o progress)
        by_progress h (Done m) q = hash_monitor_alone m h
        by_progress h (Pending why) q = absurd q

    hash_header_alone : (g : WordId → ℕ) → QuietAt o (released_word t) g → Alone Through g (hash_header_steps s e k.local k.kept draw o)
    hash_header_alone g q = by_form (read_mark (g (Mark o))) refl
      where
        found_alone : (found : Option ℕ) (h : WordId → ℕ) → QuietAt o (released_word t) h → Alone Through h (hash_unless found s e k.kept draw o)
        found_alone (Some value) h q = tt
        found_alone None h q = hash_inflate_alone h q

        by_form : (form : Option MarkForm) → read_mark (g (Mark o)) ≡ form
            → Alone Through (loaded (Mark o) g) (hash_mark_steps form s e k.local k.kept draw o (g (Mark o)))
        by_form (Some Inflating) reads = absurd (not_inflating (g (Mark o)) q.mark reads)
        by_form (Some (Neutral hash age)) reads =
            alone_either Through (loaded (Mark o) g) (hash == 0) _ _
            (λ _. draw_alone (Mark o) (g (Mark o)) (loaded (Mark o) g) (load_leaves (Mark o) (Mark o) g)) (λ _. tt)
        by_form (Some (Locked thread place)) reads =
            alone_either Through (loaded (Mark o) g) (thread == t) _ _
            (λ _. found_alone (cond (hash_in (g (Displaced t (first_place o k.local.holds))) == 0) None
            (Some (hash_in (g (Displaced t (first_place o k.local.holds))))))
            (loaded (Displaced t (first_place o k.local.holds)) (loaded (Mark o) g))
            (record { mark = (quiet_load (released_word t) o g q).mark; safepoint = q.safepoint }))
            (λ _. hash_inflate_alone (loaded (Mark o) g) (quiet_load (released_word t) o g q))
        by_form (Some (Inflated monitor)) reads = hash_monitor_alone monitor (loaded (Mark o) g)
        by_form _ reads = tt

  -- A NOTIFY and a NOTIFYALL
  notify_at_alone : (form : Option MarkForm) (mark : ℕ) (g : WordId → ℕ) → read_mark mark ≡ form → mark ≢ 0
      → Alone (λ h progress. IsDone progress) g (notify_at form s e k.local o)
  notify_at_alone (Some Inflating) mark g reads some = absurd (not_inflating mark some reads)
  notify_at_alone (Some (Locked thread place)) mark g reads some = tt
  notify_at_alone (Some (Inflated monitor)) mark g reads some =
      alone_past (λ h progress. IsDone progress) (monitor_notify_steps e k.local s.threads o) _ g (λ h x. tt)
  notify_at_alone _ mark g reads some = tt

  notify_all_at_alone : (form : Option MarkForm) (mark : ℕ) (g : WordId → ℕ) → read_mark mark ≡ form → mark ≢ 0
      → Alone (λ h progress. IsDone progress) g (notify_all_at form s e k.local o)
  notify_all_at_alone (Some Inflating) mark g reads some = absurd (not_inflating mark some reads)
  notify_all_at_alone (Some (Locked thread place)) mark g reads some = tt
  notify_all_at_alone (Some (Inflated monitor)) mark g reads some =
      alone_past (λ h progress. IsDone progress) (monitor_notify_all_steps e k.local s.threads o) _ g (λ h x. tt)
  notify_all_at_alone _ mark g reads some = tt

  pub notify_going_alone : (f : WordId → ℕ) → f (Prototype (c f)) ≢ 0 → QuietAt o (word_of_one k.requesting t) f
      → Alone (λ h progress. IsDone progress) f (notify_going s e k o now)
  notify_going_alone f some q =
      alone_progress (λ g (x : Unit {0}). QuietAt o (released_word t) g) (λ h progress. IsDone progress) (unbias_steps s e k (no_bias o now)) _ f
      (unbias_alone f some q)
      (λ g x q. notify_at_alone (read_mark (g (Mark o))) (g (Mark o)) _ refl q.mark)

  pub notify_all_going_alone : (f : WordId → ℕ) → f (Prototype (c f)) ≢ 0 → QuietAt o (word_of_one k.requesting t) f
      → Alone (λ h progress. IsDone progress) f (notify_all_going s e k o now)
  notify_all_going_alone f some q =
      alone_progress (λ g (x : Unit {0}). QuietAt o (released_word t) g) (λ h progress. IsDone progress) (unbias_steps s e k (no_bias o now)) _ f
      (unbias_alone f some q)
      (λ g x q. notify_all_at_alone (read_mark (g (Mark o))) (g (Mark o)) _ refl q.mark)

  -- A WAIT that lets go waits then
  lets_alone : (saved : ℕ) (g : WordId → ℕ) (stamp : ℕ) → g (Waiting t) ≡ wait_of (wait.Waiting o stamp)
      → Alone (λ h progress. LetsGo progress) g (monitor_resume_steps e t saved o)
  lets_alone saved g stamp is = by_form (read_wait (g (Waiting t))) refl
    where
      by_form : (form : Option WaitForm) → read_wait (g (Waiting t)) ≡ form
          → Alone (λ h progress. LetsGo progress) (loaded (Waiting t) g) (resume_at form e t saved o (g (Waiting t)))
      by_form (Some (wait.Waiting object n)) reads = tt
      by_form (Some (wait.Notified object)) reads =
          let spells : g (Waiting t) ≡ object * 8 + 3 = (read_wait-spells (g (Waiting t)) (wait.Notified object) reads).1 in absurd
          (omega (arith, is, spells))
      by_form _ reads = tt

  abbrev Waits : (WordId → ℕ) → ℕ → Type 0
  Waits g saved = (stamp : ℕ) × (g (Waiting t) ≡ wait_of (wait.Waiting o stamp))

  wait_alone : (m : ℕ) (f : WordId → ℕ) → Alone Waits f (monitor_wait_steps e k.local o m)
  wait_alone m f =
      alone_past Waits (own_steps (read_owner (f (Owner m))) e k.local o m) _ _ (λ g x. (next_stamp k.local, own_word (Waiting t) _ _))

  pub beginning_alone : (f : WordId → ℕ) → f (Prototype (c f)) ≢ 0 → QuietAt o (word_of_one k.requesting t) f
      → Alone (λ h progress. LetsGo progress) f (wait_beginning s e k o now)
  beginning_alone f some q =
      alone_goes (λ g (x : Unit {0}). QuietAt o (released_word t) g) (unbias_steps s e k (no_bias o now)) _ f (unbias_alone f some q)
      (λ g x q. alone_goes (λ h m. QuietAt o (released_word t) h × OwnerAfter (read_mark (g (Mark o))) g h m) (inflate_steps s e k.kept o) _ g
      (inflate_alone (released_word t) e o s k.kept g q)
      (λ h m q. alone_then Waits (λ i progress. LetsGo progress) (monitor_wait_steps e k.local o m) (λ saved. monitor_resume_steps e t saved o) h
      (wait_alone m h)
      (λ i saved w. lets_alone saved i w.0 w.1)))
    where
      alone_goes : {A : Type 0} (Q : (WordId → ℕ) → A → Type 0) (d : StepTree (Progress A)) (next : A → StepTree (Progress (Unit {0}))) (f : WordId → ℕ)
          → Alone (λ g progress. DoneWith (Q g) progress) f d → ((g : WordId → ℕ) (a : A) → Q g a → Alone (λ h progress. LetsGo progress) g (next a))
          → Alone (λ h progress. LetsGo progress) f (d >>= λ progress. and_then progress next)
      alone_goes {A} Q d next f h more = alone_progress Q (λ h progress. LetsGo progress) d next f h more

  -- a wait that let go before: done exactly where it was told and no other has the lock
  pub resume_alone : (saved : ℕ) (f : WordId → ℕ)
      → Alone (λ h progress. WaitsWhere (is_told (f (Waiting t))) (is_anothers s f o t) progress) f (monitor_resume_steps e t saved o)
  resume_alone saved f = by_form (read_wait (f (Waiting t)))
    where
      by_owner : (m : ℕ) → read_mark (f (Mark o)) ≡ Some (Inflated m) → (form : Option OwnerForm) → read_owner (f (Owner m)) ≡ form
          → (g : WordId → ℕ)
          → Alone (λ h progress. WaitsWhere true (is_anothers s f o t) progress) g (resume_owner_at form e t saved o m (f (Owner m)))
      by_owner m reads form owner g = by_case form owner
        where
          owned : is_anothers s f o t ≡ is_other_form (read_owner (f (Owner m))) t
          owned =
              unbiased_other (f (Prototype (c f))) t f (λ u. hold_count o (holds_in f u)) (read_mark (f (Mark o))) (ap is_biased_form reads)
              ∙ ap (λ form. owned_by form f t) reads

          by_case : (form : Option OwnerForm) → read_owner (f (Owner m)) ≡ form
              → Alone (λ h progress. WaitsWhere true (is_anothers s f o t) progress) g (resume_owner_at form e t saved o m (f (Owner m)))
          by_case (Some Free) r = (refl, owned ∙ ap (λ form. is_other_form form t) r)
          by_case (Some (ByThread thread)) r =
              alone_either (λ h progress. WaitsWhere true (is_anothers s f o t) progress) g (thread == t) _ _ (λ _. tt)
              (λ other. (refl, owned ∙ ap (λ form. is_other_form form t) r ∙ ap not other))
          by_case (Some (ByRecord thread place)) r =
              alone_either (λ h progress. WaitsWhere true (is_anothers s f o t) progress) g (thread == t) _ _ (λ _. tt)
              (λ other. (refl, owned ∙ ap (λ form. is_other_form form t) r ∙ ap not other))
          by_case None r = tt

      by_mark : (form : Option MarkForm) → read_mark (f (Mark o)) ≡ form
          → Alone (λ h progress. WaitsWhere true (is_anothers s f o t) progress) (loaded (Mark o) (loaded (Waiting t) f))
          (resume_mark_at form e t saved o)
      by_mark (Some (Inflated m)) reads = by_owner m reads (read_owner (f (Owner m))) refl _
      by_mark _ reads = tt

      by_form : (form : Option WaitForm)
          → Alone (λ h progress. WaitsWhere (is_told_form form) (is_anothers s f o t) progress) (loaded (Waiting t) f)
          (resume_at form e t saved o (f (Waiting t)))
      by_form (Some (wait.Waiting object n)) = refl
      by_form (Some (wait.Notified object)) = by_mark (read_mark (f (Mark o))) refl
      by_form _ = tt

-- THE CALLS
module _ (s : Shape) (k : Start) (o now : ℕ) (f : WordId → ℕ) (low : k.local.thread < 32) where
  abbrev p : ℕ
  p = f (Prototype (class_by s f o))

  abbrev QuietHere : Type 0
  QuietHere = Quiet (word_of_one k.requesting k.local.thread) f

  pub waits_go : p ≢ 0 → QuietHere → waits_on k.local.wait o ≡ false
      → AnswersAlone f (wait_steps s k o now) (RefusedWhere (has_none k o) LetsGo)
  waits_go some q new =
      let e = call_context (task.Wait o now) op.Wait o in
      refused_or (has_none k o) _ LetsGo (wait_going s e k o now) f
      (alone_either (λ g progress. LetsGo progress) f (waits_on k.local.wait o) _ _ (λ old. absurd (cc (old, new)))
      (λ _. beginning_alone s e k o now low f some (quiet_at o q)))

  -- by its waiting word, and who has the lock
  abbrev Ends : Progress (Unit {0}) → Type 0
  Ends = WaitsWhere (is_told (f (Waiting k.local.thread))) (is_anothers s f o k.local.thread)

  going_ends : waits_on k.local.wait o ≡ true → Alone (λ g progress. Ends progress) f (wait_going s (call_context (task.Wait o now) op.Wait o) k o now)
  going_ends old =
      alone_either (λ g progress. Ends progress) f (waits_on k.local.wait o) _ _
      (λ _. resume_alone s (call_context (task.Wait o now) op.Wait o) k o now low k.saved f) (λ new. absurd (cc (old, new)))

  pub waits_end : waits_on k.local.wait o ≡ true → AnswersAlone f (wait_steps s k o now) (RefusedWhere (has_none k o) Ends)
  waits_end old = refused_or (has_none k o) _ Ends (wait_going s (call_context (task.Wait o now) op.Wait o) k o now) f (going_ends old)

  -- so it is done where its thread has a hold, was told, and no other has the lock
  pub waits_done : waits_on k.local.wait o ≡ true → has_none k o ≡ false → is_told (f (Waiting k.local.thread)) ≡ true
      → is_anothers s f o k.local.thread ≡ false → AnswersAlone f (wait_steps s k o now) (λ a. a ≡ Ok (Done tt))
  waits_done old held told free =
      answers_alone (λ a. a ≡ Ok (Done tt)) f (wait_steps s k o now)
      (alone_either (λ g a. a ≡ Ok (Done tt)) f (has_none k o) _ _ (λ none. absurd (cc (none, held)))
      (λ _. alone_then (λ g progress. Ends progress) (λ g a. a ≡ Ok (Done tt)) (wait_going s (call_context (task.Wait o now) op.Wait o) k o now) answer f
      (going_ends old) (λ g progress h. ap Ok (is_done progress h))))
    where
      is_done : (progress : Progress (Unit {0})) → Ends progress → progress ≡ Done tt
      is_done (Done x) h = refl
      is_done (Pending (why.NotNotified word)) h = absurd (cc (h, told))
      is_done (Pending (why.Owned word)) h = let owned = h.1 in absurd (cc (owned, free))
      is_done (Pending _) h = absurd h

  pub hashes_through : p ≢ 0 → QuietHere → AnswersAlone f (hash_steps s k o now) IsDone
  hashes_through some q =
      let e = call_context (task.Hash o now) op.Hash o in
      answers_alone IsDone f (hash_steps s k o now)
      (alone_progress (λ g (x : Unit {0}). QuietAt o (released_word k.local.thread) g) (λ g progress. IsDone progress)
      (unbias_steps s e k (no_bias o now)) _ f
      (unbias_alone s e k o now low f some (quiet_at o q))
      (λ g x quiet. hash_header_alone s e k o now low (record { number = k.draws + 1; value = k.draw }) g quiet))

  pub notifies_through : p ≢ 0 → QuietHere → AnswersAlone f (notify_steps s k o now) (RefusedWhere (has_none k o) IsDone)
  notifies_through some q =
      let e = call_context (task.Notify o now) op.Notify o in
      refused_or (has_none k o) _ IsDone (notify_going s e k o now) f (notify_going_alone s e k o now low f some (quiet_at o q))

  pub notify_alls_through : p ≢ 0 → QuietHere → AnswersAlone f (notify_all_steps s k o now) (RefusedWhere (has_none k o) IsDone)
  notify_alls_through some q =
      let e = call_context (task.NotifyAll o now) op.NotifyAll o in
      refused_or (has_none k o) _ IsDone (notify_all_going s e k o now) f (notify_all_going_alone s e k o now low f some (quiet_at o q))

-- AT THE SAFEPOINT WORD
pub polls_through : (e : CallContext) (f : WordId → ℕ) → AnswersAlone f (poll_steps e) (λ progress. is_pending progress ≡ has_requester (f Safepoint))
polls_through e f = answers_alone (λ progress. is_pending progress ≡ has_requester (f Safepoint)) f (poll_steps e)
    (alone_either (λ g progress. is_pending progress ≡ has_requester (f Safepoint)) _ (has_requester (f Safepoint)) _ _ (λ h. sym h) (λ h. sym h))

pub resumes_through : (e : CallContext) (k : Local) (f : WordId → ℕ)
    → AnswersAlone f (resume_steps e k) (λ progress. is_pending progress ≡ (is_halted (f Safepoint) || has_requester (f Safepoint)))
resumes_through e k f =
    answers_alone (λ progress. is_pending progress ≡ (is_halted (f Safepoint) || has_requester (f Safepoint))) f (resume_steps e k)
    (by_bars (is_halted (f Safepoint)) (has_requester (f Safepoint)))
  where
    by_bars : (h r : Bool) → Alone (λ g progress. is_pending progress ≡ (h || r)) (λ n. cond (same_name n Safepoint) (f Safepoint) (f n))
        (unless (cond h (Some why.Halted) (cond r (Some (why.Requested (f Safepoint))) None)) (resume_swap_steps e k (f Safepoint)))
    by_bars true r = refl
    by_bars false true = refl
    by_bars false false =
        alone_either (λ g progress. is_pending progress ≡ false) _ (f Safepoint == f Safepoint) _ _ (λ _. refl)
        (λ miss. let same = eq-eqb (f Safepoint) (f Safepoint) refl in absurd (cc (miss, same)))

module _ (s : Shape) (k : Start) (f : WordId → ℕ) (low : k.local.thread < 32) (q : Quiet (word_of_one k.requesting k.local.thread) f) where
  abbrev u : ℕ
  u = k.local.thread

  -- what follows the safepoint answers the same whatever the words are
  safely : {A : Type 0} (P : Progress A → Type 0) (e : CallContext) (d : Unit {0} → StepTree (Progress A))
      → ((g : WordId → ℕ) → Alone (λ h progress. P progress) g (d tt))
      → Alone (λ g progress. P progress) f (safepoint_steps e u k.requesting >>= λ progress. and_then progress d)
  safely P e d more =
      alone_progress (λ g (x : Unit {0}). QuietAt 0 (reached_word u) g) (λ g progress. P progress) (safepoint_steps e u k.requesting) d f
      (safepoint_alone u 0 low e k.requesting f (quiet_at 0 q)) (λ g x q. more g)

  dump_alone : (e : CallContext) → Alone (λ g progress. progress ≡ Done (k.shots + 1)) f (dump_going s e k)
  dump_alone e =
      safely (λ progress. progress ≡ Done (k.shots + 1)) e _ (λ g.
      alone_past (λ g progress. progress ≡ Done (k.shots + 1)) (take_shot_steps e s) _ g (λ h x.
      alone_past (λ g progress. progress ≡ Done (k.shots + 1)) (deflate_steps s e Settled) _ h (λ i x.
      alone_past (λ g progress. progress ≡ Done (k.shots + 1)) (release_safepoint e u) _ i (λ j x. refl))))

  pub dumps_through : AnswersAlone f (dump_steps s k) (RefusedWhere (k.shots == 4) (λ progress. progress ≡ Done (k.shots + 1)))
  dumps_through =
      let e = call_context task.Dump op.Dump 0 in
      refused_or (k.shots == 4) _ (λ progress. progress ≡ Done (k.shots + 1)) (dump_going s e k) f (dump_alone e)

pub puts_through : (k : Start) (o slot : ℕ) (value : Value) (f : WordId → ℕ)
    → AnswersAlone f (put_steps k o slot value) (λ a. a ≡ guarded k o tt)
puts_through k o slot value f = answers_alone _ f (put_steps k o slot value) (by_count (hold_count o k.local.holds == 0))
  where
    by_count : (b : Bool)
        → Alone (λ g (a : Result (Unit {0}) Unguarded). a ≡ cond {A = Result (Unit {0}) Unguarded} b (Err record {}) (Ok tt)) f
        (cond b (done (Err record {})) (ask (put_plan (lone_context (task.Put o slot value)) o slot value) >>= λ _. answer tt))
    by_count true = refl
    by_count false = refl

pub creates_through : (s : Shape) (k : Start) (c : ℕ) (f : WordId → ℕ) → AnswersAlone f (create_steps s k c) (λ a. a ≡ created s k)
creates_through s k c f = answers_alone _ f (create_steps s k c) (by_room (nat_lt (count_made k.local) most_made))
  where
    by_room : (b : Bool)
        → Alone (λ g (a : Result ℕ TooMany). a ≡ cond {A = Result ℕ TooMany} (not b) (Err record {}) (Ok (next_made s k.local))) f
        (cond b (make_steps (next_made s k.local) c >>= answer) (done (Err record {})))
    by_room true = refl
    by_room false = refl
