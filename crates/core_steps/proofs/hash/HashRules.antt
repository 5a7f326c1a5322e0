-- The laws of core_locks on hashes, as rules of the logic. A load logs the hash that it finds, if it finds one.
use Rattle.std.proofs.Common.{◌≡◌, ◌≢◌, ℕ, ◌<◌, eq-eqb, ne_eqb, Bool, true, cond, List, Some, None, refl, sym, ap, subst, inl}
use Rattle.mark_word.specs.Mark.{mark_of}
use Rattle.mark_word.specs.declared.mark.MarkForm.TheVariants.{Neutral}
use Rattle.plain_monitor.specs.declared.entry.Logged.{Logged}
use Rattle.core_world.specs.declared.act.Act.TheVariants.{Load, CompareExchange}
use Rattle.core_world.specs.declared.plan.LogEffect.TheVariants.{LogHash}
use Rattle.core_world.specs.Steps.{log_after, with_entry}
use Rattle.core_made.proofs.Quiets.{quiet_keeps}
use Rattle.core_steps.proofs.FairSteps.{KnowsBy, Begins, begins_none, works_making_none, Spares, fair, missed_made}
use Rattle.plain_monitor.specs.Limits.{most_holds}
use Rattle.plain_monitor.specs.declared.entry.Entry.TheVariants.{Hash}
use Rattle.core_world.specs.declared.word_id.WordId.{WordId}
use Rattle.core_world.specs.declared.word_id.WordId.TheVariants as id
use Rattle.core_world.specs.Words.Forms.{hash_in}
use Rattle.core_world.specs.Trees.HashSteps.{NextDraw, find_hash_plan, draw_plan}
use Rattle.core_world.specs.Threads.ThreadView.{ThreadView}
use Rattle.core_world.specs.Threads.References.{making_in}
use Rattle.core_world.specs.Trees.Plans.{CallContext}
use Rattle.core_world.specs.There.{IsIn}
use Rattle.core_world.specs.Words.Shape.{Shape}
use Rattle.core_world.specs.World.{World}
use Rattle.core_world.proofs.KnowledgeParts.{by_equal}
use Rattle.core_locks.specs.HashLaws.{MayHash, HasRecord, IsHashless, IsItsNext, MayFind, MayFindInRecord, MayFindInMonitor}
use Rattle.core_locks.specs.HashLaws.{HasHash, HasNoHash, hash_entry, MayDrawInMark, MayDrawInMonitor}
use Rattle.core_locks.specs.Knowing.{GoesOn, SawInflated, KeepsValid, LogsFound, LogsValid}
use Rattle.core_locks.proofs.hash.HashFinds.{finds_in_mark, looks_in_mark, finds_in_record, looks_in_record, finds_in_header, looks_in_header}
use Rattle.core_locks.proofs.hash.HashHeader.{draws_header, draw_misses_header}
use Rattle.core_locks.proofs.hash.HashMark.{draws_mark, draw_misses_mark}
use Rattle.bias_law.specs.Steps.{KeepsBiases}
use Rattle.bias_law.proofs.LoggedKinds as logged
use Rattle.core_law.specs.Logic.{Heap, SoundWorldWith, Keeps}
use Rattle.core_steps.proofs.LawRules.{runs_in_all, monitor_in_heap, kept_telling}
use Rattle.core_law.proofs.Standing.{away, inside}
use Rattle.core_law.proofs.Wholes.{kept_whole}

-- what such a load logs, by the hash in its word
found_none : (log : List Logged) (o n : ℕ) → hash_in n ≡ 0 → log_after (LogHash o) n log ≡ log
found_none log o n none = ap (λ (b : Bool). cond b log (with_entry (hash_entry o n) n log)) (eq-eqb (hash_in n) 0 none)

found_one : (log : List Logged) (o n : ℕ) → hash_in n ≢ 0 → log_after (LogHash o) n log ≡ with_entry (hash_entry o n) n log
found_one log o n some = ap (λ (b : Bool). cond b log (with_entry (hash_entry o n) n log)) (ne_eqb (hash_in n) 0 some)

module _ (heap : Heap) (k : ThreadView) where
  -- such a load of the word that the thread has in mind, and such an exchange, whichever way it goes
  finding_rule : (May : Shape → ThreadView → Type 0) (e : CallContext) (at : ℕ → WordId) (o : ℕ)
      → LogsFound (λ w t. May w.shape (w.known t) × HasHash w (at t)) (λ w t. find_hash_plan e (at t) o) (hash_entry o)
      → KeepsValid (λ w t. May w.shape (w.known t) × HasNoHash w (at t)) (λ w t. find_hash_plan e (at t) o)
      → KeepsBiases (λ w t. May w.shape (w.known t)) (λ w t. find_hash_plan e (at t) o)
      → (SoundWorldWith heap k → k.running ≡ true) → (SoundWorldWith heap k → IsIn heap.shape (at k.thread)) → (SoundWorldWith heap k → May heap.shape k)
      → (SoundWorldWith heap k → KnowsBy heap.shape k o) → (SoundWorldWith heap k → Spares heap.shape k (at k.thread) Load)
      → (SoundWorldWith heap k → making_in k.unfinished ≡ None) → Begins heap.shape k e.unfinished
      → Keeps heap (find_hash_plan e (at k.thread) o) k
  finding_rule May e at o found none biases runs there may knows spares making begins = record {
    there = λ v. (there v, tt);
    exact = λ v. tt;
    by = λ v.
        let a = away heap k v May (may v) in
        let all = runs_in_all heap k v (runs v) in
        let plan = find_hash_plan e (at k.thread) o in
        let law = biases v.world v.objects k.thread (inside heap k v) a all.fits all.biases in
        let known = away heap k v (λ s y. KnowsBy s y o) (knows v) in
        let spared = away heap k v (λ s y. Spares s y (at k.thread) Load) (spares v) in
        let makes_none = away heap k v (λ s y. making_in y.unfinished ≡ None) (making v) in
        let begun = away heap k v (λ s y. Begins s y e.unfinished) begins in
        let n = v.world.words (at k.thread) in
        by_equal (hash_in n) 0
        (λ no. kept_whole v.world v.objects k.thread plan all (λ h. refl) v.objects
        (none v.world v.objects k.thread (inside heap k v) (a, no) (inl all.fits)) law
        (quiet_keeps v.world k.thread plan all.made (record {
          fair = fair v.world v.objects all k.thread plan tt spared makes_none begun;
          log = found_none (v.world.known k.thread).log o n no;
        })))
        (λ some.
        let h = found v.world v.objects k.thread (inside heap k v) (a, some) (inl all.fits) in
        kept_telling v.world v.objects k.thread plan all (λ h. refl) (inside heap k v) (hash_entry o n) h tt spared begun
        (record { hits = refl; grows = λ log. found_one log o n some; takes = tt; makes_none = refl; works_for_it = makes_none; needs = (known, tt) }) law);
  }

  drawing_rule : (May : World → ℕ → Type 0) (e : CallContext) (draw : NextDraw) (at : WordId) (o header : ℕ)
      → LogsValid (λ w t. May w t × (w.words at ≡ header)) (λ w t. draw_plan e draw at o header) (Hash o draw.value (Some draw.number))
      → KeepsValid (λ w t. May w t × (w.words at ≢ header)) (λ w t. draw_plan e draw at o header)
      → KeepsBiases May (λ w t. draw_plan e draw at o header)
      → (SoundWorldWith heap k → k.running ≡ true) → (SoundWorldWith heap k → IsIn heap.shape at) → ((v : SoundWorldWith heap k) → May v.world k.thread)
      → (SoundWorldWith heap k → KnowsBy heap.shape k o)
      → (SoundWorldWith heap k → Spares heap.shape k at (CompareExchange header (mark_of (Neutral draw.value 0))))
      → (SoundWorldWith heap k → making_in k.unfinished ≡ None) → Keeps heap (draw_plan e draw at o header) k
  drawing_rule May e draw at o header hit miss biases runs there may knows spares making = record {
    there = λ v. (there v, tt);
    exact = λ v. tt;
    by = λ v.
        let all = runs_in_all heap k v (runs v) in
        let plan = draw_plan e draw at o header in
        let law = biases v.world v.objects k.thread (inside heap k v) (may v) all.fits all.biases in
        let known = away heap k v (λ s y. KnowsBy s y o) (knows v) in
        let spared = away heap k v (λ s y. Spares s y at (CompareExchange header (mark_of (Neutral draw.value 0)))) (spares v) in
        let makes_none = away heap k v (λ s y. making_in y.unfinished ≡ None) (making v) in
        let nothing : Begins v.world.shape (v.world.known k.thread) None = begins_none v.world.shape (v.world.known k.thread) None refl makes_none in
        by_equal (v.world.words at) header
        (λ same.
        let h = hit v.world v.objects k.thread (inside heap k v) (may v, same) (inl all.fits) in
        kept_telling v.world v.objects k.thread plan all (λ h. refl) (inside heap k v) (Hash o draw.value (Some draw.number)) h tt spared nothing
        (record { hits = eq-eqb _ _ same; grows = λ log. refl; takes = tt; makes_none = refl; works_for_it = makes_none; needs = (known, tt) }) law)
        (λ other. kept_whole v.world v.objects k.thread plan all (λ h. refl) v.objects
        (miss v.world v.objects k.thread (inside heap k v) (may v, other) (inl all.fits)) law
        (missed_made v.world all.made k.thread plan (ne_eqb _ _ other) (fair v.world v.objects all k.thread plan tt spared tt nothing)));
  }

  next_there : (v : SoundWorldWith heap k) (draw : NextDraw) → IsItsNext heap.start k draw → IsItsNext v.world.start (v.world.known k.thread) draw
  next_there v draw next = subst (λ y. IsItsNext v.world.start y draw) (sym v.knows) (subst (λ (z : Heap). IsItsNext z.start k draw) (sym v.is_of) next)

  -- it is the own operation, which makes no object
  hashing : (o : ℕ) → (SoundWorldWith heap k → MayHash heap.shape k o) → SoundWorldWith heap k → making_in k.unfinished ≡ None
  hashing o may v = works_making_none k (Hash o 0 None) refl ((may v).own_entry 0 None).operation

  -- the mark, the record of the thread at depth 1, the header of the monitor
  pub finds_mark_rule : (e : CallContext) (o : ℕ) → (SoundWorldWith heap k → MayHash heap.shape k o) → GoesOn k e → Begins heap.shape k e.unfinished
      → Keeps heap (find_hash_plan e (id.Mark o) o) k
  finds_mark_rule e o may goes begins =
      finding_rule (λ s y. MayFind s y e o) e (λ t. id.Mark o) o (finds_in_mark e o) (looks_in_mark e o) (logged.finds_mark e o) (λ v. (may v).runs)
      (λ v. (may v).object.within) (λ v. record { hashes = may v; goes_on = goes }) (λ v. (may v).object.known) (λ v. (may v).object.known)
      (hashing o may) begins

  pub finds_record_rule : (e : CallContext) (o p : ℕ) → (SoundWorldWith heap k → MayHash heap.shape k o)
      → HasRecord k o p → (SoundWorldWith heap k → p < most_holds) → GoesOn k e
      → Begins heap.shape k e.unfinished → Keeps heap (find_hash_plan e (id.Displaced k.thread p) o) k
  finds_record_rule e o p may has place goes begins =
      finding_rule (λ s y. MayFindInRecord s y e o p) e (λ t. id.Displaced t p) o (finds_in_record e o p) (looks_in_record e o p)
      (logged.finds_record e o p) (λ v. (may v).runs) (λ v. (v.within, place v))
      (λ v. record { finds = record { hashes = may v; goes_on = goes }; has = has }) (λ v. (may v).object.known) (λ v. tt) (hashing o may) begins

  pub finds_header_rule : (e : CallContext) (o m : ℕ) → (SoundWorldWith heap k → MayHash heap.shape k o) → SawInflated k o m → GoesOn k e
      → Begins heap.shape k e.unfinished → Keeps heap (find_hash_plan e (id.Header m) o) k
  finds_header_rule e o m may saw goes begins =
      finding_rule (λ s y. MayFindInMonitor s y e o m) e (λ t. id.Header m) o (finds_in_header e o m) (looks_in_header e o m)
      (logged.finds_header e o m) (λ v. (may v).runs) (λ v. monitor_in_heap heap k o m (may v).runs saw v)
      (λ v. record { finds = record { hashes = may v; goes_on = goes }; inflated = saw }) (λ v. (may v).object.known) (λ v. tt) (hashing o may) begins

  -- the draw, into the mark or into the header
  pub draws_mark_rule : (e : CallContext) (draw : NextDraw) (o mark : ℕ) → (SoundWorldWith heap k → MayHash heap.shape k o) → IsHashless mark
      → IsItsNext heap.start k draw → Keeps heap (draw_plan e draw (id.Mark o) o mark) k
  draws_mark_rule e draw o mark may bare next = drawing_rule
      (λ w t. MayDrawInMark w.start w.shape (w.known t) draw o mark) e draw (id.Mark o) o mark (draws_mark e draw o mark)
      (draw_misses_mark e draw o mark) (logged.draws_mark_kind e draw o mark) (λ v. (may v).runs) (λ v. (may v).object.within)
      (λ v. record { draws = record { hashes = away heap k v (λ s y. MayHash s y o) (may v); next = next_there v draw next }; hashless = bare })
      (λ v. (may v).object.known) (λ v. (may v).object.known) (hashing o may)

  pub draws_header_rule : (e : CallContext) (draw : NextDraw) (o m header : ℕ) → (SoundWorldWith heap k → MayHash heap.shape k o) → SawInflated k o m
      → hash_in header ≡ 0 → IsItsNext heap.start k draw
      → Keeps heap (draw_plan e draw (id.Header m) o header) k
  draws_header_rule e draw o m header may saw bare next = drawing_rule
      (λ w t. MayDrawInMonitor w.start w.shape (w.known t) draw o m header) e draw (id.Header m) o header (draws_header e draw o m header)
      (draw_misses_header e draw o m header) (logged.draws_header_kind e draw o m header) (λ v. (may v).runs)
      (λ v. monitor_in_heap heap k o m (may v).runs saw v)
      (λ v. record {
        draws = record { hashes = away heap k v (λ s y. MayHash s y o) (may v); next = next_there v draw next };
        inflated = away heap k v (λ s y. SawInflated y o m) saw;
        hashless = bare;
      }) (λ v. (may v).object.known) (λ v. tt) (hashing o may)
