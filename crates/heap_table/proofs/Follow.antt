-- What a pass keeps follows its thread's step, where the step hits.
use Rattle.std.proofs.Common.{◌≡◌, ℕ, ◌+◌, ◌<◌, ◌^◌, ◌≤◌, length, length-append, append-nil, arith, ◌==◌, Bool, true, false}
use Rattle.std.proofs.Common.{cond, List, [], ◌∷◌, ◌++◌, Option, Some, None, refl, sym, ap, ◌∙◌, subst}
use Rattle.plain_monitor.specs.declared.entry.Entry.{Entry}
use Rattle.plain_monitor.specs.declared.entry.Entry.TheVariants as entry
use Rattle.plain_monitor.specs.declared.entry.Logged.{Logged}
use Rattle.plain_monitor.specs.History.{last_stamp, last_above}
use Rattle.plain_monitor.specs.ValueWords.{read_value}
use Rattle.mark_word.specs.Safe.{read_safe}
use Rattle.core_world.specs.Trees.Operations.{value_found}
use Rattle.core_world.specs.declared.act.Act.{Act as ActOf}
use Rattle.core_world.specs.declared.act.Act.TheVariants as act
use Rattle.core_world.specs.declared.word_id.WordId.{WordId}
use Rattle.core_world.specs.declared.word_id.WordId.TheVariants as id
use Rattle.core_world.specs.declared.plan.LogEffect.{LogEffect}
use Rattle.core_world.specs.declared.plan.LogEffect.TheVariants.{Quiet, Log, LogGet, LogHash}
use Rattle.core_world.specs.declared.plan.StepPlan.{StepPlan}
use Rattle.core_world.specs.Words.Acts.{word_after, hits}
use Rattle.core_world.specs.Words.Forms.{hash_in}
use Rattle.core_world.specs.Threads.ThreadView.{ThreadView}
use Rattle.core_world.specs.Words.Shape.{Shape}
use Rattle.core_world.specs.Steps.{known_after, known_hit, known_miss, log_after, with_entry, stamp_by, runs_after, asks_after, reached_after}
use Rattle.core_world.specs.Steps.{halted_after, kept_after, saved_after, holds_after, wait_after, published_after, unfinished_after}
use Rattle.core_world.specs.declared.plan.LocalEffect.{LocalEffect}
use Rattle.core_world.specs.declared.plan.LocalEffect.TheVariants as own
use Rattle.core_world.specs.Threads.ThreadView.{DumpShot}
use Rattle.core_world.specs.Steps.{shots_after}
use Rattle.heap_table.specs.Cells.{cells_shown}
use Rattle.heap_table.specs.Drafts.{IsDrafted}
use Rattle.heap_table.specs.inner.Drafts.{taken_after}
use Rattle.core_world.specs.Threads.Counts.{CountedVerdict}
use Rattle.core_world.specs.Steps.{counts_after, draws_after}
use Rattle.lock_policy.specs.Draws.{state_after}
use Rattle.heap_table.specs.Tallies.{counts_shown}
use Rattle.heap_table.specs.declared.afters.Stand.{Stand}
use Rattle.heap_table.specs.declared.mirror.Mirror.{Mirror}
use Rattle.core_world.specs.Trees.Plans.{CallContext, load}
use Rattle.core_world.specs.Clauses.Lengths.{log_limit}
use Rattle.heap_table.specs.Kept.{Mirrors, LogHasRoom, IsPageFrom, limit_by}
use Rattle.heap_table.specs.inner.Kept.{looked, entry_after, with_any_entry, stand_after, made_after}
use Rattle.std.proofs.lemmas.List.{drop-append-le}
use Rattle.plain_history.specs.Known.{news, class_made}
use Rattle.plain_monitor.specs.Made.{creates}

pub log_is : (note : LogEffect) (found : ℕ) (log : List Logged) → log_after note found log ≡ with_any_entry (entry_after note found) found log
log_is Quiet found log = refl
log_is (Log e) found log = refl
log_is (LogGet o slot) found log = refl
log_is (LogHash o) found log = cases (hash_in found == 0)
  where
    cases : (b : Bool) → cond b log (with_entry (entry.Hash o (hash_in found) None) found log)
        ≡ with_any_entry (cond b None (Some (entry.Hash o (hash_in found) None))) found log
    cases true = refl
    cases false = refl

pub last_end : (n : ℕ) (log : List Logged) (l : Logged) → last_above n (log ++ l ∷ []) ≡ l.stamp
last_end n [] l = refl
last_end n (x ∷ log) l = last_end x.stamp log l

-- an entry after the page stands after the log
pub page_grows : (given : ℕ) (log page : List Logged) (l : Logged) → IsPageFrom true given log page → IsPageFrom true given (log ++ l ∷ []) (page ++ l ∷ [])
page_grows given log page l p =
    let whole = p.whole in let longer = length-append log (l ∷ []) in let more = length-append page (l ∷ []) in record {
      entries = drop-append-le given log (l ∷ []) (omega (arith, whole)) ∙ ap (λ (x : List Logged). x ++ l ∷ []) p.entries;
      whole = omega (arith, whole, longer, more);
    }

-- or it is passed over, where none are kept
pub page_passes : (given next : ℕ) (log page : List Logged) (l : Logged) → next ≡ given + 1 → IsPageFrom false given log page
    → IsPageFrom false next (log ++ l ∷ []) page
page_passes given next log page l e p =
    let whole = p.whole in let longer = length-append log (l ∷ []) in record { entries = p.entries; whole = omega (arith, whole, longer, e) }

pub noted : (keeps : Bool) (note : LogEffect) (found last stamp given more : ℕ) (page next : List Logged) (e : Entry) → entry_after note found ≡ Some e
    → stamp ≡ stamp_by e found last
    → ((all : List Logged) → IsPageFrom keeps given all page → IsPageFrom keeps more (all ++ record { stamp = stamp; entry = e } ∷ []) next)
    → (log : List Logged) → IsPageFrom keeps given log page → last_stamp log ≡ last
    → IsPageFrom keeps more (log_after note found log) next × (last_stamp (log_after note found log) ≡ stamp)
noted keeps note found last stamp given more page next e is by kept log p same =
    let l : Logged = record { stamp = stamp; entry = e } in
    let s : stamp ≡ stamp_by e found (last_stamp log) = by ∙ ap (stamp_by e found) (sym same) in
    let b : log ++ l ∷ [] ≡ log_after note found log =
    ap (λ (x : ℕ). log ++ record { stamp = x; entry = e } ∷ []) s
    ∙ ap (λ (x : Option Entry). with_any_entry x found log) (sym is) ∙ sym (log_is note found log) in
    (subst (λ (x : List Logged). IsPageFrom keeps more x next) b (kept log p), ap last_stamp (sym b) ∙ last_end 0 log l)

pub unnoted : (keeps : Bool) (note : LogEffect) (found last given : ℕ) (page : List Logged)
    → entry_after note found ≡ None → (log : List Logged) → IsPageFrom keeps given log page
    → last_stamp log ≡ last → IsPageFrom keeps given (log_after note found log) page × (last_stamp (log_after note found log) ≡ last)
unnoted keeps note found last given page is log p same =
    let b : log ≡ log_after note found log = ap (λ (x : Option Entry). with_any_entry x found log) (sym is) ∙ sym (log_is note found log) in
    (subst (λ (x : List Logged). IsPageFrom keeps given x page) b p, ap last_stamp (sym b) ∙ same)

-- where an entry is logged, there is room for it
pub room_noted : (note : LogEffect) (found room : ℕ) (page : List Logged) (e : Entry) → entry_after note found ≡ Some e → LogHasRoom note page room
    → length page < room
room_noted Quiet found room page e is h = absurd (cc is)
room_noted (Log x) found room page e is h = h
room_noted (LogGet o slot) found room page e is h = h
room_noted (LogHash o) found room page e is h = h

-- what has room in the log has room in the page
pub room_in_page : (keeps : Bool) (note : LogEffect) (given room : ℕ) (log page : List Logged)
    → IsPageFrom keeps given log page → LogHasRoom note log (limit_by keeps given room) → keeps ≡ true → LogHasRoom note page room
room_in_page false note given room log page p h e = absurd (cc e)
room_in_page true Quiet given room log page p h e = tt
room_in_page true (Log x) given room log page p h e = let whole = p.whole in omega (arith, whole, h)
room_in_page true (LogGet o slot) given room log page p h e = let whole = p.whole in omega (arith, whole, h)
room_in_page true (LogHash o) given room log page p h e = let whole = p.whole in omega (arith, whole, h)

-- no more were handed out or passed over than there are
pub few_given : (m : Mirror) (k : ThreadView) → Mirrors m k → length k.log ≤ log_limit → m.given + 1 < 2 ^ 42
few_given m k f few = let whole = f.log.whole in omega (arith, whole, few)

abbrev stand_of : ThreadView → Stand
stand_of k = record { running = k.running; requesting = k.requesting; reached = k.reached; halted = k.halted }

abbrev stand_known : WordId → ActOf → ℕ → ThreadView → Stand
stand_known at a word k = record {
  running = runs_after at a word k;
  requesting = asks_after at a word k;
  reached = reached_after at a word k;
  halted = halted_after at word k;
}

known_stand : (a : WordId) (c : ActOf) (word : ℕ) (k : ThreadView) (s : Stand)
    → k.running ≡ s.running → k.requesting ≡ s.requesting → k.reached ≡ s.reached → k.halted ≡ s.halted
    → stand_known a c word k ≡ stand_after a c word k.thread s
known_stand a c word k s r q e h =
    same a c word k ∙ ap (stand_after a c word k.thread) (λ i. record { running = r i; requesting = q i; reached = e i; halted = h i })
  where
    same : (a : WordId) (c : ActOf) (word : ℕ) (k : ThreadView) → stand_known a c word k ≡ stand_after a c word k.thread (stand_of k)
    same id.Safepoint act.Load word k = refl
    same id.Safepoint (act.Store x) word k = refl
    same id.Safepoint (act.CompareExchange x y) word k = refl
    same id.Safepoint (act.FetchMax x) word k = refl
    same id.Safepoint (act.FetchAnd x) word k = refl
    same id.Safepoint act.FetchAdd word k = refl
    same (id.Prototype x) c word k = refl
    same (id.Revocations x) c word k = refl
    same (id.LastBulk x) c word k = refl
    same (id.Mark x) c word k = refl
    same (id.Stamp x) c word k = refl
    same (id.Slot x y) c word k = refl
    same (id.Class x) c word k = refl
    same (id.Hold x y) c word k = refl
    same (id.Displaced x y) c word k = refl
    same (id.Waiting x) c word k = refl
    same (id.Length x) c word k = refl
    same (id.Owner x) c word k = refl
    same (id.Recursions x) c word k = refl
    same (id.Header x) c word k = refl
    same (id.Object x) c word k = refl
    same id.Claim c word k = refl
    same id.End c word k = refl
    same (id.Ring x) c word k = refl

most_draws : (e : Entry) (draws : ℕ) → draws_after (Log e) draws ≤ draws + 1
most_draws (entry.Hash o value (Some number)) draws = omega arith
most_draws (entry.Hash o value None) draws = omega arith
most_draws e draws = omega arith

-- each draw that is installed is logged
few_draws : (note : LogEffect) (found : ℕ) (log : List Logged) (draws : ℕ) → draws ≤ length log → draws_after note draws ≤ length (log_after note found log)
few_draws Quiet found log draws h = h
few_draws (Log e) found log draws h =
    let n = length-append log (record { stamp = stamp_by e found (last_stamp log); entry = e } ∷ []) in
    let d = most_draws e draws in omega (arith, n, d, h)
few_draws (LogGet o slot) found log draws h = let n =
    length-append log (record { stamp = last_stamp log + 1; entry = entry.Get o slot (value_found (read_value found)) } ∷ []) in omega (arith, n, h)
few_draws (LogHash o) found log draws h = cases (hash_in found == 0)
  where
    cases : (b : Bool) → draws ≤ length (cond b log (with_entry (entry.Hash o (hash_in found) None) found log))
    cases true = h
    cases false = let n = length-append log (record { stamp = last_stamp log + 1; entry = entry.Hash o (hash_in found) None } ∷ []) in omega (arith, n, h)

-- each New is logged
news_grow : (log : List Logged) (l : Logged) → length (news (log ++ l ∷ [])) ≡ length (news log) + length (class_made (creates l.entry))
news_grow [] l = let a = ap length (append-nil (class_made (creates l.entry))) in omega (arith, a)
news_grow (x ∷ log) l =
    let a = length-append (class_made (creates x.entry)) (news (log ++ l ∷ [])) in
    let b = length-append (class_made (creates x.entry)) (news log) in
    let c = news_grow log l in
    omega (arith, a, b, c)

news_of : (e : Entry) (n : ℕ) → n + length (class_made (creates e)) ≡ made_after (Log e) n
news_of (entry.New o class) n = refl
news_of e n = omega arith

few_news : (log : List Logged) → length (news log) ≤ length log
few_news [] = omega arith
few_news (x ∷ log) =
    let a = length-append (class_made (creates x.entry)) (news log) in
    let b = few_news log in
    let c = news_of x.entry 0 in
    let d = at_most_one x.entry in
    omega (arith, a, b, c, d)
  where
    at_most_one : (e : Entry) → made_after (Log e) 0 ≤ 1
    at_most_one (entry.New o class) = omega arith
    at_most_one e = omega arith

pub few_made : (m : Mirror) (k : ThreadView) → Mirrors m k → m.made ≤ m.given + length m.log.items
few_made m k f = let few = few_news k.log in let made = f.made in let whole = f.log.whole in omega (arith, few, made, whole)

pub few_installed : (m : Mirror) (k : ThreadView) → Mirrors m k → m.drawing.installed ≤ m.given + length m.log.items
few_installed m k f = let few = f.few in let draws = f.draws in let whole = f.log.whole in omega (arith, few, draws, whole)

news_follow : (note : LogEffect) (found : ℕ) (log : List Logged) → length (news (log_after note found log)) ≡ made_after note (length (news log))
news_follow Quiet found log = refl
news_follow (Log e) found log = news_grow log (record { stamp = stamp_by e found (last_stamp log); entry = e }) ∙ news_of e (length (news log))
news_follow (LogGet o slot) found log =
    let a = news_grow log (record { stamp = last_stamp log + 1; entry = entry.Get o slot (value_found (read_value found)) }) in omega (arith, a)
news_follow (LogHash o) found log = cases (hash_in found == 0)
  where
    cases : (b : Bool) → length (news (cond b log (with_entry (entry.Hash o (hash_in found) None) found log))) ≡ length (news log)
    cases true = refl
    cases false = let a = news_grow log (record { stamp = last_stamp log + 1; entry = entry.Hash o (hash_in found) None }) in omega (arith, a)

-- the shots that are taken are those that the thread knows
shots_follow : (o : LocalEffect) (s : Shape) (k : ThreadView) (taken : List DumpShot) (cut : List ℕ) (cells : List (Option ℕ × ℕ))
    → k.shots ≡ taken → IsDrafted o s k cut cells
    → shots_after o s k ≡ taken_after o taken cut cells
shots_follow own.TakeShot s k taken cut cells e d = λ i. e i ++ record { number = length (e i) + 1; cut = sym d.0 i; cells = sym d.1 i } ∷ []
shots_follow own.Unchanged s k taken cut cells e d = e
shots_follow own.Position s k taken cut cells e d = e
shots_follow own.Claim s k taken cut cells e d = e
shots_follow (own.Detach m) s k taken cut cells e d = e
shots_follow own.Enqueue s k taken cut cells e d = e
shots_follow own.DropClaim s k taken cut cells e d = e
shots_follow own.SaveRecursions s k taken cut cells e d = e
shots_follow (own.CountVerdict class verdict reset) s k taken cut cells e d = e

pub follow_hit : (s : Shape) (start : ℕ) (p : StepPlan) (n : ℕ) (k : ThreadView) (m l : Mirror) → hits p.act n ≡ true → Mirrors m k
    → l.thread ≡ m.thread
    → ((all : List Logged) → IsPageFrom m.keeps m.given all m.log.items → last_stamp all ≡ m.last
    → IsPageFrom l.keeps l.given (log_after p.note n all) l.log.items × (last_stamp (log_after p.note n all) ≡ l.last))
    → l.stand ≡ stand_after p.at p.act (word_after p.act n) m.thread m.stand
    → l.kept ≡ kept_after p.own n m.kept
    → l.saved ≡ saved_after p.own n m.saved
    → ((k : ThreadView) → k.holds ≡ m.holds.words → l.holds.words ≡ holds_after p.at p.act k)
    → ((k : ThreadView) → k.thread ≡ m.thread → k.wait ≡ m.wait → l.wait ≡ wait_after p.at p.act k)
    → ((k : ThreadView) → k.published ≡ m.published → l.published ≡ published_after p.at p.act k)
    → l.unfinished ≡ unfinished_after p.note n p.after
    → l.checking ≡ p.check
    → (l.classes ≡ m.classes) × (l.first ≡ m.first)
    → ((n : ℕ) (k : List CountedVerdict) → m.counts.items ≡ counts_shown 0 n k → l.counts.items ≡ counts_shown 0 n (counts_after p.own k))
    → l.drawing.installed ≡ draws_after p.note m.drawing.installed
    → ((first : ℕ) → m.drawing.generator ≡ state_after first (m.drawing.installed + 1) → l.drawing.generator ≡ state_after first (l.drawing.installed + 1))
    → l.made ≡ made_after p.note m.made
    → l.shots.taken.items ≡ taken_after p.own m.shots.taken.items m.shots.draft.cut.items (cells_shown m.shots.draft.cells.items)
    → IsDrafted p.own s k m.shots.draft.cut.items (cells_shown m.shots.draft.cells.items)
    → Mirrors l (known_after s start p n k)
follow_hit s start p n k m l hit f thread log stand kept saved holds wait published unfinished checking fixed counts draws generator made shots drafted =
    let g = log k.log f.log f.last in
    let st : stand_known p.at p.act (word_after p.act n) k ≡ l.stand = known_stand p.at p.act (word_after p.act n) k m.stand f.running
    f.requesting f.reached f.halted ∙ ap (λ (t : ℕ). stand_after p.at p.act (word_after p.act n) t m.stand) f.thread ∙ sym stand in
    let here : Mirrors l (known_hit s start p n k) = record {
      thread = f.thread ∙ sym thread;
      log = g.0;
      last = g.1;
      running = ap (λ (x : Stand). x.running) st;
      requesting = ap (λ (x : Stand). x.requesting) st;
      reached = ap (λ (x : Stand). x.reached) st;
      halted = ap (λ (x : Stand). x.halted) st;
      kept = ap (kept_after p.own n) f.kept ∙ sym kept;
      saved = ap (saved_after p.own n) f.saved ∙ sym saved;
      holds = sym (holds k f.holds);
      wait = sym (wait k f.thread f.wait);
      published = sym (published k f.published);
      unfinished = sym unfinished;
      checking = sym checking;
      counts = counts m.classes k.counts f.counts ∙ ap (λ c. counts_shown 0 c (counts_after p.own k.counts)) (sym fixed.0);
      shots = shots_follow p.own s k m.shots.taken.items _ _ f.shots drafted ∙ sym shots;
      draws = ap (draws_after p.note) f.draws ∙ sym draws;
      made = news_follow p.note n k.log ∙ ap (made_after p.note) f.made ∙ sym made;
      few = few_draws p.note n k.log k.draws f.few;
      generator = generator m.first (f.generator ∙ ap (λ n. state_after m.first (n + 1)) f.draws)
          ∙ (λ i. state_after (sym fixed.1 i) ((draws ∙ ap (draws_after p.note) (sym f.draws)) i + 1));
    } in
    subst (λ (b : Bool). Mirrors l (cond b (known_hit s start p n k) (known_miss s start p n k))) (sym hit) here

-- A load of the safepoint word that leaves unfinished what is unfinished changes of what the pass keeps only what the thread knows of that word.
pub follow_look : (s : Shape) (start : ℕ) (e : CallContext) (n : ℕ) (k : ThreadView) (m : Mirror) (stand : Stand) → stand ≡ looked (read_safe n) m.stand
    → m.unfinished ≡ e.unfinished → m.checking ≡ e.check → Mirrors m k → Mirrors (record m { stand = stand }) (known_after s start (load e id.Safepoint) n k)
follow_look s start e n k m stand is unfinished checking f =
    follow_hit s start (load e id.Safepoint) n k m (record m { stand = stand }) refl f refl (λ all p same. (p, same)) is refl refl
    (λ k e. sym e) (λ k t e. sym e) (λ k e. sym e) unfinished checking (refl, refl) (λ n k e. e) refl (λ first e. e) refl refl tt
