-- Steps of a quick call: the seat knows what they make of its thread's knowledge, and the mirror is written only after the last of them.
use Rattle.std.proofs.Common.{arith, ◌≡◌, ℕ, ◌+◌, ◌*◌, ◌%◌, ◌^◌, ◌<◌, ◌≤◌, Bool, true, false, if◌then◌else◌, cond, Option, None, List, [], ◌∷◌, refl, sym, ap, ◌∙◌, subst}
use Rattle.std.specs.Prelude.{slice_set, vec_capacity, vec_len}
use Rattle.plain_monitor.specs.Limits.{most_threads}
use Rattle.atomic_table.specs.Table.{Me}
use Rattle.plain_monitor.specs.declared.entry.Path.{Path}
use Rattle.core_world.specs.Trees.LockSteps.{hold_plan, raise_stamp_plan}
use Rattle.core_world.specs.Words.Forms.{hold_word}
use Rattle.heap_table.specs.declared.holds.Holds.{Holds}
use Rattle.core_world.specs.declared.act.Act.{Act}
use Rattle.core_world.specs.declared.act.Act.TheVariants.{FetchMax}
use Rattle.core_world.specs.declared.heap_call.HeapCall.{HeapCall}
use Rattle.core_world.specs.declared.heap_call.Unfinished.{Unfinished}
use Rattle.core_world.specs.declared.plan.LocalEffect.{LocalEffect}
use Rattle.core_world.specs.declared.plan.LocalEffect.TheVariants as own
use Rattle.core_world.specs.declared.plan.StepPlan.{StepPlan}
use Rattle.core_world.specs.declared.stage.Stage.{Stage}
use Rattle.core_world.specs.declared.stage.Stage.TheVariants.{Settled}
use Rattle.core_world.specs.declared.word_id.WordId.{WordId}
use Rattle.core_world.specs.declared.word_id.WordId.TheVariants.{Displaced, Hold, Stamp}
use Rattle.core_world.specs.Steps.{known_after, known_hit, known_miss, halted_after, holds_after, wait_after, published_after}
use Rattle.core_world.specs.Threads.ThreadView.{Local, ThreadView, local_of}
use Rattle.core_world.specs.Trees.Plans.{CallContext, top_place, with_stage, quiet_plan}
use Rattle.core_world.specs.Trees.StepTree.{StepTree, done, step, ask, ◌>>=◌}
use Rattle.core_world.specs.Words.Acts.{hits, word_after}
use Rattle.core_world.specs.Words.Shape.{Shape}
use Rattle.core_world.proofs.CallRests.{next_due}
use Rattle.core_law.specs.Logic.{Heap}
use Rattle.heap_table.specs.declared.quick.QuickEnter.{QuickEnter}
use Rattle.heap_table.specs.declared.quick.QuickEnter.TheVariants as enters
use Rattle.heap_table.specs.declared.quick.QuickExit.{QuickExit}
use Rattle.heap_table.specs.declared.quick.QuickExit.TheVariants.{Owned}
use Rattle.heap_table.specs.Drafts.{IsLeft}
use Rattle.heap_table.specs.Kept.{Mirrors}
use Rattle.heap_table.specs.Layout.{place_of}
use Rattle.heap_table.specs.LogEnds.{end_by}
use Rattle.heap_table.specs.Parts.{IsDueOn, HasMadeSteps}
use Rattle.heap_table.specs.Quick.{IsBegun}
use Rattle.heap_table.specs.Ruled.{only, Stepped}
use Rattle.heap_table.specs.Seen.{HeapSeen, PassSeen, IsOf}
use Rattle.heap_table.specs.Stepping.{HasStepped}
use Rattle.heap_table.specs.declared.mirror.Mirror.{Mirror}
use Rattle.heap_table.specs.inner.Amid.{IsAmid, IsIdle, IsStartOf, KeepsExit, KeepsStart, Late, Leads}
use Rattle.heap_table.specs.inner.Kept.{stand_after}
use Rattle.heap_table.specs.inner.Parts.{is_shot}
use Rattle.heap_table.specs.inner.Ruled.{IsStepIf, MayStep}
use Rattle.heap_table.proofs.Follow.{follow_hit}
use Rattle.heap_table.proofs.Mirrored.{mirrored, mirrors_by}
use Rattle.heap_table.proofs.Knows.{same_thread, goes_on, is_there, real_after}
use Rattle.heap_table.proofs.StepsLeft.{AreLeft, all_left, all_made, step_made}

-- where it begins
pub late_first : {A : Type 0} {h : HeapSeen} {t : HeapCall} {o : PassSeen} {d : StepTree A} {k : ThreadView} {m : Mirror}
    → k ≡ o.known → IsOf h o → IsDueOn h o t d → m.home ≡ o.home → Mirrors m k → Late h t o d k d m
late_first {h = h} {t = t} {o = o} {d = d} same is_of due home mirrors = record {
  left = subst (λ (j : ThreadView). AreLeft h t o d (record o { known = j }) d) (sym same) (all_left is_of due);
  home = home;
  mirrors = mirrors;
}

module _ {A : Type 0} {h : HeapSeen} {t : HeapCall} {o : PassSeen} {d : StepTree A} {k : ThreadView} {m : Mirror} where
  -- the same steps, in other words
  pub late_as : {x y : StepTree A} → Late h t o d k x m → x ≡ y → Late h t o d k y m
  late_as late same = subst (λ z. Late h t o d k z m) same late

-- The code says the first of the steps that are left, and the heap, in its own words.
module _ {A : Type 0} {h : HeapSeen} {t : HeapCall} {o : PassSeen} {d : StepTree A} {k : ThreadView} {plan said : StepPlan} {b : Heap} {f : ℕ → StepTree A}
    (left : AreLeft h t o d (record o { known = k }) (step plan f)) (its : b ≡ h.heap) (same : said ≡ plan) (task : plan.task ≡ t) where
  -- the step may be made
  pub may_go : MayStep b k said
  may_go =
      let is_of = left.heap in
      let next = next_due h.heap.shape h.heap.start h.heap.biasing k t plan f left.due task in
      subst (λ (x : Heap × StepPlan). MayStep x.0 k x.1) (λ i. (sym its i, sym same i))
      (record { within = is_of.within; next = next; at = (is_there h.heap k plan next is_of.within is_of.real).0 })

  -- The thread knows what the step tells,
  pub knows_gone : (n : ℕ) {me : Me (Unit {0}) (List ThreadView)} → me ≡ (known_after b.shape b.start said n k ∷ [], [])
      → only me.0 ≡ known_after h.heap.shape h.heap.start plan n k
  knows_gone n told = ap (λ (x : Me (Unit {0}) (List ThreadView)). only x.0) told ∙ λ i. known_after (its i).shape (its i).start (same i) n k

  -- which is the step on the ghost pass,
  pub did_go : {n : ℕ} → plan.own ≡ own.Unchanged → Stepped b k said n
      → HasStepped h (record o { known = k }) (record o { known = known_after h.heap.shape h.heap.start plan n k }) plan n
  did_go {n = n} unchanged stood =
      let is_of = left.heap in
      let next = known_after h.heap.shape h.heap.start plan n k in
      let stepped = subst (λ (x : Heap × StepPlan). Stepped x.0 k x.1 n) (λ i. (its i, same i)) stood in
      let thread = same_thread h.heap.shape h.heap.start plan n k in record {
        heap = record {
          table = is_of.table;
          room = is_of.room;
          within = subst (λ (u : ℕ). u < h.heap.shape.threads) (sym thread) is_of.within;
          home = is_of.home ∙ ap (λ (u : ℕ). place_of h.heap.shape (Hold u 0)) (sym thread);
          classes = is_of.classes;
          first = is_of.first ∙ ap (λ (u : ℕ). (h.heap.start + u) % 2 ^ 32) (sym thread);
          threads = is_of.threads;
          objects = is_of.objects;
          real = real_after h.heap k plan n next is_of.real stepped refl;
        };
        limit = refl;
        draft = subst (λ (x : LocalEffect). IsLeft x o.cut o.cells o.cut o.cells) (sym unchanged) (refl, refl);
        known = refl;
        stepped = stepped;
        comes = goes_on h.heap k plan n next stepped is_of.within refl;
      }

  -- and then the others are left.
  pub gone : {n : ℕ} {me : Me (Unit {0}) (List ThreadView)} → plan.own ≡ own.Unchanged → Stepped b k said n
      → me ≡ (known_after b.shape b.start said n k ∷ [], []) → AreLeft h t o d (record o { known = only me.0 }) (f n)
  gone {n = n} unchanged stood told =
      subst (λ (j : ThreadView). AreLeft h t o d (record o { known = j }) (f n)) (sym (knows_gone n told))
      (step_made left refl task (ap is_shot unchanged) (did_go unchanged stood))

-- The same of a call whose mirror lags.
module _ {A : Type 0} {h : HeapSeen} {t : HeapCall} {o : PassSeen} {d : StepTree A} {k : ThreadView} {m : Mirror} {plan said : StepPlan} {b : Heap}
    {f : ℕ → StepTree A} (late : Late h t o d k (step plan f) m) (its : b ≡ h.heap) (same : said ≡ plan) (task : plan.task ≡ t) where
  pub may_step : MayStep b k said
  may_step = may_go late.left its same task

  pub knows_step : (n : ℕ) {me : Me (Unit {0}) (List ThreadView)} → me ≡ (known_after b.shape b.start said n k ∷ [], [])
      → only me.0 ≡ known_after h.heap.shape h.heap.start plan n k
  knows_step = knows_gone late.left its same task

  pub did_step : {n : ℕ} → plan.own ≡ own.Unchanged → Stepped b k said n
      → HasStepped h (record o { known = k }) (record o { known = known_after h.heap.shape h.heap.start plan n k }) plan n
  did_step = did_go late.left its same task

  pub made_step : {n : ℕ} {me : Me (Unit {0}) (List ThreadView)} {l : Mirror} → plan.own ≡ own.Unchanged → l.home ≡ m.home → Stepped b k said n
      → me ≡ (known_after b.shape b.start said n k ∷ [], []) → Mirrors l (known_after h.heap.shape h.heap.start plan n k)
      → Late h t o d (only me.0) (f n) l
  made_step {n = n} {l = l} unchanged home stood told mirrors = record {
    left = gone late.left its same task unchanged stood told;
    home = home ∙ late.home;
    mirrors = subst (Mirrors l) (sym (knows_step n told)) mirrors;
  }

-- What a call took at its beginning is still so after a step that leaves it.
pub keeps_start : (b : Heap) (n : ℕ) {said plan : StepPlan} {k : ThreadView} {me : Me (Unit {0}) (List ThreadView)} → said ≡ plan
    → me ≡ (known_after b.shape b.start said n k ∷ [], []) → IsStartOf k (known_after b.shape b.start plan n k) → IsStartOf k (only me.0)
keeps_start b n {k = k} same told is = record {
  local = ap (λ (x : Me (Unit {0}) (List ThreadView)). local_of (only x.0)) told ∙ ap (λ (p : StepPlan). local_of (known_after b.shape b.start p n k)) same
      ∙ is.local;
  kept = ap (λ (x : Me (Unit {0}) (List ThreadView)). (only x.0).kept) told ∙ ap (λ (p : StepPlan). (known_after b.shape b.start p n k).kept) same ∙ is.kept;
}

-- so an exchange does, whether it hit or missed
pub exchange_keeps : (s : Shape) (start : ℕ) (p : StepPlan) (n : ℕ) (k : ThreadView) → IsStartOf k (known_hit s start p n k)
    → IsStartOf k (known_miss s start p n k) → IsStartOf k (known_after s start p n k)
exchange_keeps s start p n k hit miss = cases (hits p.act n) refl
  where
    cases : (b : Bool) → hits p.act n ≡ b → IsStartOf k (known_after s start p n k)
    cases true e = subst (λ (c : Bool). IsStartOf k (cond c (known_hit s start p n k) (known_miss s start p n k))) (sym e) hit
    cases false e = subst (λ (c : Bool). IsStartOf k (cond c (known_hit s start p n k) (known_miss s start p n k))) (sym e) miss

-- a pass of which only what its thread knows is another
pub only_knows : (o q : PassSeen) → q.table ≡ o.table → q.limit ≡ o.limit → q.room ≡ o.room → q.home ≡ o.home → q.classes ≡ o.classes → q.first ≡ o.first
    → q.threads ≡ o.threads → q.objects ≡ o.objects → q.cut ≡ o.cut → q.cells ≡ o.cells → q ≡ record o { known = q.known }
only_knows o q table limit room home classes first threads objects cut cells = λ i. record {
  table = table i;
  known = q.known;
  limit = limit i;
  room = room i;
  home = home i;
  classes = classes i;
  first = first i;
  threads = threads i;
  objects = objects i;
  cut = cut i;
  cells = cells i;
}

-- so what is left is left on that pass, of which the call has taken what it took at its beginning
pub begun_on : {A : Type 0} {h : HeapSeen} {t : HeapCall} {o : PassSeen} {d x : StepTree A} {k : ThreadView} {m : Mirror} → Late h t o d k x m
    → (q : PassSeen) → q ≡ record o { known = k } → local_of k ≡ local_of o.known → k.kept ≡ o.known.kept → IsBegun h t o d q x
begun_on {h = h} {t = t} {o = o} {d = d} {x = x} late q same local kept = record {
  left = subst (λ (r : PassSeen). AreLeft h t o d r x) (sym same) late.left;
  limit = ap (λ (r : PassSeen). r.limit) same;
  local = ap (λ (r : PassSeen). local_of r.known) same ∙ local;
  kept = ap (λ (r : PassSeen). r.known.kept) same ∙ kept;
}

-- where none is left, the whole is made
pub made_on : {A : Type 0} {h : HeapSeen} {t : HeapCall} {o : PassSeen} {d : StepTree A} {a : A} {k : ThreadView} {m : Mirror} → Late h t o d k (done a) m
    → (q : PassSeen) → q ≡ record o { known = k } → HasMadeSteps h d o q a
made_on {h = h} {o = o} {d = d} {a = a} late q same = subst (λ (r : PassSeen). HasMadeSteps h d o r a) (sym same) (all_made late.left)

-- a quiet step of which the mirror shows only what is unfinished after it
module _ (s : Shape) (start : ℕ) (e : CallContext) (stage : Stage) (at : WordId) (act : Act) (n : ℕ) (k : ThreadView) (m : Mirror) where
  pub follow_quiet : hits act n ≡ true → stand_after at act (word_after act n) m.thread m.stand ≡ m.stand → ((l : ThreadView) → holds_after at act l ≡ l.holds)
      → ((l : ThreadView) → wait_after at act l ≡ l.wait) → ((l : ThreadView) → published_after at act l ≡ l.published) → Mirrors m k
      → Mirrors (record m { unfinished = e.unfinished; checking = e.check }) (known_after s start (with_stage stage (quiet_plan e at act)) n k)
  follow_quiet hit stand holds wait published f =
      follow_hit s start (with_stage stage (quiet_plan e at act)) n k m (record m { unfinished = e.unfinished; checking = e.check }) hit f refl
      (λ all p same. (p, same)) (sym stand) refl refl (λ l e. sym e ∙ sym (holds l)) (λ l t e. sym e ∙ sym (wait l)) (λ l e. sym e ∙ sym (published l))
      refl refl (refl, refl) (λ n k e. e) refl (λ first e. e) refl refl tt

-- a store of a hold word
pub follow_hold : (s : Shape) (start : ℕ) (e : CallContext) (t o d p : ℕ) (path : Path) (n : ℕ) (k : ThreadView) (m : Mirror) (holds : Holds)
    → holds.words ≡ slice_set m.holds.words p (hold_word o d) → Mirrors m k
    → Mirrors (record m { holds = holds; unfinished = e.unfinished; checking = e.check }) (known_after s start (hold_plan e t o d p path) n k)
follow_hold s start e t o d p path n k m holds stored f =
    follow_hit s start (hold_plan e t o d p path) n k m (record m { holds = holds; unfinished = e.unfinished; checking = e.check }) refl f refl
    (λ all p same. (p, same)) refl refl refl (λ l e. stored ∙ ap (λ (hs : List ℕ). slice_set hs p (hold_word o d)) (sym e)) (λ l t e. sym e) (λ l e. sym e)
    refl refl (refl, refl) (λ n k e. e) refl (λ first e. e) refl refl tt

-- What a mirror shows doesn't turn on what is proved of it.
pub shows_alike : (m : Mirror) (k : ThreadView) (room : m.room ≤ vec_capacity m.log) (within : vec_len m.log ≤ m.room) (few : m.given < 2 ^ 42)
    (low : m.thread < most_threads) {whole : m.length ≡ m.given + vec_len m.log} {ends : m.end ≡ end_by m.keeps m.given m.room}
    {owns : m.own_bits ≡ (m.thread + 1) * 1024} → Mirrors m k
    → Mirrors (record m { has_room = room; within = within; few = few; low = low; whole = whole; ends = ends; owns = owns }) k
shows_alike m k room within few low f = record {
  thread = f.thread;
  log = f.log;
  last = f.last;
  running = f.running;
  requesting = f.requesting;
  reached = f.reached;
  halted = f.halted;
  kept = f.kept;
  saved = f.saved;
  holds = f.holds;
  wait = f.wait;
  published = f.published;
  unfinished = f.unfinished;
  checking = f.checking;
  counts = f.counts;
  draws = f.draws;
  made = f.made;
  shots = f.shots;
  few = f.few;
  generator = f.generator;
}

-- What the mirror says already need not be written.
pub shows_idle : (e : CallContext) (k : ThreadView) (m : Mirror) → IsIdle e m → Mirrors (record m { unfinished = None; checking = e.check }) k → Mirrors m k
shows_idle e k m idle f = record {
  thread = f.thread;
  log = f.log;
  last = f.last;
  running = f.running;
  requesting = f.requesting;
  reached = f.reached;
  halted = f.halted;
  kept = f.kept;
  saved = f.saved;
  holds = f.holds;
  wait = f.wait;
  published = f.published;
  unfinished = f.unfinished ∙ sym idle.left;
  checking = f.checking ∙ sym idle.check;
  counts = f.counts;
  draws = f.draws;
  made = f.made;
  shots = f.shots;
  few = f.few;
  generator = f.generator;
}

-- THE RAISE of an object's stamp, where a test says so: of the mirror only what is unfinished may lag then.
abbrev pub raise_if : CallContext → ℕ → ℕ → Bool → StepTree (Unit {0})
raise_if e object stamp b = if b then (do
  _ ← ask (raise_stamp_plan e object stamp)
  done tt) else done tt

pub raised : {A : Type 0} {h : HeapSeen} {t : HeapCall} {o : PassSeen} {d : StepTree A} {k j : ThreadView} {m : Mirror} {heap : Heap} {said : StepPlan}
    (e : CallContext) (object stamp : ℕ) (g : Unit {0} → StepTree A) (b : Bool) → heap ≡ h.heap → said ≡ raise_stamp_plan e object stamp → e.task ≡ t
    → Late h t o d k (raise_if e object stamp b >>= g) m → IsStepIf b heap said k j
    → (u : Option Unfinished) × (c : Bool) × Late h t o d j (g tt) (record m { unfinished = u; checking = c })
raised {h = h} {k = k} {m = m} e object stamp g true its same task late did = (
  e.unfinished,
  e.check,
  made_step late its same task refl refl did.1 (ap (λ (x : ThreadView). (x ∷ [], [])) did.2)
      (follow_quiet h.heap.shape h.heap.start e Settled (Stamp object) (FetchMax stamp) did.0 k m refl refl (λ l. refl) (λ l. refl) (λ l. refl) late.mirrors),
)
raised {h = h} {t = t} {o = o} {d = d} {m = m} e object stamp g false its same task late did =
    (m.unfinished, m.checking, subst (λ (x : ThreadView). Late h t o d x (g tt) m) (sym did) late)

-- the thread's own words stay as they were
pub raise_keeps : (k j : ThreadView) (heap : Heap) (said : StepPlan) (e : CallContext) (object stamp : ℕ) (b : Bool)
    → said ≡ raise_stamp_plan e object stamp → IsStepIf b heap said k j → (local_of j ≡ local_of k) × (j.kept ≡ k.kept)
raise_keeps k j heap said e object stamp true same did =
    let is : j ≡ known_after heap.shape heap.start (raise_stamp_plan e object stamp) did.0 k =
    did.2 ∙ ap (λ (p : StepPlan). known_after heap.shape heap.start p did.0 k) same in
    (ap local_of is, ap (λ (x : ThreadView). x.kept) is)
raise_keeps k j heap said e object stamp false same did = (ap local_of did, ap (λ (x : ThreadView). x.kept) did)

-- A STEP THAT MISSED leaves what a mirror shows.
pub follow_missed : (s : Shape) (start : ℕ) (p : StepPlan) (n : ℕ) (k : ThreadView) (m : Mirror) → hits p.act n ≡ false → halted_after p.at n k ≡ k.halted
    → Mirrors m k → Mirrors m (known_after s start p n k)
follow_missed s start p n k m missed halted f =
    let same : mirrored (known_miss s start p n k) ≡ mirrored k = λ i. record (mirrored k) { halted = halted i } in
    subst (λ (b : Bool). Mirrors m (cond b (known_hit s start p n k) (known_miss s start p n k))) (sym missed) (mirrors_by same f)

-- The call that is amid is still so where the steps led.
pub amid_by : {A : Type 0} {b : Heap} {t : HeapCall} {k j : ThreadView} {x y : StepTree A} {m n : Mirror} → IsAmid b t k x m
    → Leads b t k x m j y n → IsAmid b t j y n
amid_by a leads = record { heap = a.heap; begun = a.begun; due = a.due; its = a.its; late = leads a.heap a.begun a.due a.its a.late }

-- What a call took at its beginning is still so where two ways after one another leave it,
pub start_since : {i k j : ThreadView} → IsStartOf i k → IsStartOf k j → IsStartOf i j
start_since since here = record { local = here.local ∙ since.local; kept = here.kept ∙ since.kept }

-- after another step that leaves it,
pub start_after : (b : Heap) (n : ℕ) {said plan : StepPlan} {i k : ThreadView} {me : Me (Unit {0}) (List ThreadView)} → IsStartOf i k → said ≡ plan
    → me ≡ (known_after b.shape b.start said n k ∷ [], []) → IsStartOf k (known_after b.shape b.start plan n k) → IsStartOf i (only me.0)
start_after b n since same told is = start_since since (keeps_start b n same told is)

-- and where the rest of an enter or of an exit leaves it.
pub enter_keeps : (r : QuickEnter) (i k j : ThreadView) → IsStartOf i k → KeepsStart r k j → KeepsStart r i j
enter_keeps (enters.Done path) i k j since is = tt
enter_keeps enters.Not i k j since is = start_since since is
enter_keeps (enters.Raced mark found) i k j since is = start_since since is
enter_keeps (enters.Unbiased mark) i k j since is = start_since since is
enter_keeps (enters.Biased mark prototype) i k j since is = start_since since is
enter_keeps (enters.Taken m found) i k j since is = start_since since is

pub exit_keeps : (o : ℕ) (r : QuickExit) (i k j : ThreadView) → IsStartOf i k → KeepsExit o r k j → KeepsExit o r i j
exit_keeps o (Owned m owner place) i k j since is = (
  is.0 ∙ ap (λ (x : Local). top_place o x.holds) since.local,
  start_since since is.1,
)
exit_keeps o _ i k j since is = tt

-- WHERE A WORD OF THE THREAD LIES, by where its words begin.
module _ {h : HeapSeen} {k : ThreadView} {b : Heap} (p : PassSeen) (m : Mirror) (is_of : IsOf h (record p { known = k })) (its : b ≡ h.heap)
    (home : m.home ≡ p.home) (thread : k.thread ≡ m.thread) where
  begins : m.home ≡ place_of b.shape (Hold m.thread 0)
  begins = home ∙ is_of.home ∙ λ i. place_of (sym its i).shape (Hold (thread i) 0)

  pub hold_lies : (n : ℕ) → m.home + n ≡ place_of b.shape (Hold m.thread n)
  hold_lies n = let is = begins in omega (arith, is)

  pub record_lies : (n : ℕ) → m.home + 64 + n ≡ place_of b.shape (Displaced m.thread n)
  record_lies n = let is = begins in omega (arith, is)

-- so amid a call
module _ {A : Type 0} {h : HeapSeen} {t : HeapCall} {o : PassSeen} {d x : StepTree A} {k : ThreadView} {m : Mirror} {b : Heap} (late : Late h t o d k x m)
    (its : b ≡ h.heap) where
  pub hold_late : (n : ℕ) → m.home + n ≡ place_of b.shape (Hold m.thread n)
  hold_late = hold_lies o m late.left.heap its late.home late.mirrors.thread

  pub record_late : (n : ℕ) → m.home + 64 + n ≡ place_of b.shape (Displaced m.thread n)
  record_late = record_lies o m late.left.heap its late.home late.mirrors.thread
