-- The shots stay right where what is unfinished changes, and where a thread logs an entry.
use Rattle.std.proofs.Common.{◌≡◌, ◌⊎◌, ℕ, zero, suc, ◌+◌, ◌<◌, ◌≤◌, List, [], ◌∷◌, ◌++◌, length, take, slice_get, slice_set, slice_index, Option}
use Rattle.std.proofs.Common.{Some, None, refl, sym, ap, ◌∙◌, subst, arith, inl, inr, length-append, append-nil, get_or-set_same, get_or-set_other}
use Rattle.std.proofs.lemmas.List.{length-set, length-map, map-append, take-append-le}
use Rattle.std.proofs.lemmas.Option.{same_Some}
use Rattle.plain_monitor.specs.declared.entry.Entry.{Entry}
use Rattle.plain_monitor.specs.declared.entry.Entry.TheVariants.{Dump}
use Rattle.plain_monitor.specs.declared.entry.Logged.{Logged}
use Rattle.plain_monitor.specs.History.{LegalObjects, objects_after, log_of, appended}
use Rattle.plain_history.specs.Appending.{MayAppend}
use Rattle.plain_history.specs.Cuts.{cut_logs}
use Rattle.plain_history.proofs.InOrder.{in_order_with}
use Rattle.core_world.specs.declared.heap_call.Operation.TheVariants as op
use Rattle.core_world.specs.declared.heap_call.Unfinished.{Unfinished}
use Rattle.core_world.specs.Threads.ThreadView.{ThreadView, DumpShot}
use Rattle.core_world.specs.Clauses.Safepoints.{IsUnfinished}
use Rattle.core_world.specs.Shots.{placed, dumps_from, places_of, IsRightShot, AreOfDumps, IsNoLater, ShotsFit}
use Rattle.core_world.specs.World.{with_known}
use Rattle.core_world.proofs.KnowledgeParts.{by_equal, each_with_known}

-- where nothing was unfinished, an operation may begin: the dumps of all shots are logged
pub dumps_go_on : (t : ℕ) (log : List Logged) (shots : List DumpShot) (u v : Option Unfinished)
    → (u ≡ v) ⊎ (u ≡ None) → AreOfDumps t log shots u → AreOfDumps t log shots v
dumps_go_on t log shots u v goes_on (inl a) = inl a
dumps_go_on t log shots u v (inl e) (inr a) = inr (a.0, subst (λ z. IsUnfinished z op.Dump 0) e a.1)
dumps_go_on t log shots u v (inr e) (inr a) = let d = a.1 in absurd (cc (d, e))

pub shots_go_on : {shape : List (ℕ × ℕ)} {logs : List (List Logged)} {log : ℕ → List Logged} {shots : ℕ → List DumpShot} {u v : ℕ → Option Unfinished}
    → ((t : ℕ) → (u t ≡ v t) ⊎ (u t ≡ None)) → ShotsFit shape logs log shots u → ShotsFit shape logs log shots v
shots_go_on {log = log} {shots = shots} {u = u} {v = v} goes_on h =
    record {
      right = h.right;
      numbered = h.numbered;
      dumps = λ t. dumps_go_on t (log t) (shots t) (u t) (v t) (goes_on t) (h.dumps t);
      few = h.few;
      ordered = h.ordered;
    }

-- fronts stay as they are where a log grows past them
cut_appended : (cut : List ℕ) (logs : List (List Logged)) (t : ℕ) (xs : List Logged) → length cut ≡ length logs → slice_index cut t ≤ length (log_of logs t)
    → cut_logs cut (slice_set logs t (log_of logs t ++ xs)) ≡ cut_logs cut logs
cut_appended [] [] t xs e h = refl
cut_appended [] (log ∷ logs) t xs e h = absurd (omega (arith, e))
cut_appended (n ∷ ns) [] t xs e h = refl
cut_appended (n ∷ ns) (log ∷ logs) zero xs e h = ap (λ front. front ∷ cut_logs ns logs) (take-append-le n log xs h)
cut_appended (n ∷ ns) (log ∷ logs) (suc t) xs e h = ap (λ rest. take n log ∷ rest) (cut_appended ns logs t xs (omega (arith, e)) h)

-- no log gets shorter
longer_with : (logs : List (List Logged)) (t u : ℕ) (l : Logged) → t < length logs → length (log_of logs u) ≤ length (log_of (appended logs t l) u)
longer_with logs t u l h =
    by_equal u t
    (λ e.
    let more = ap (λ z. length z) (get_or-set_same logs t (log_of logs t ++ l ∷ []) [] h) in
    let sum = length-append (log_of logs t) (l ∷ []) in
    subst (λ i. length (log_of logs i) ≤ length (log_of (appended logs t l) i)) (sym e) (omega (arith, more, sum)))
    (λ d. let same = ap (λ z. length z) (get_or-set_other logs t u (log_of logs t ++ l ∷ []) [] d) in omega (arith, same))

-- a right shot stays right
pub right_with : (shape : List (ℕ × ℕ)) (logs : List (List Logged)) (t : ℕ) (l : Logged) (shot : DumpShot) → MayAppend logs t l
    → IsRightShot shape logs shot → IsRightShot shape (appended logs t l) shot
right_with shape logs t l shot may r =
    let same : cut_logs shot.cut (appended logs t l) ≡ cut_logs shot.cut logs = cut_appended shot.cut logs t (l ∷ []) r.threads (r.within t) in
    record {
      threads = r.threads ∙ sym (length-set logs t (log_of logs t ++ l ∷ []));
      within = λ u. let a = r.within u in let b = longer_with logs t u l may.thread in omega (arith, a, b);
      in_order = in_order_with shot.cut logs t l may same r.in_order;
      legal = subst (LegalObjects shape) (sym same) r.legal;
      objects = r.objects;
      taken = ap (objects_after shape) same ∙ r.taken;
      cells = r.cells;
    }

-- each entry is a dump or none
pub record IsDump (e : Entry) : Type 0 where
  pub number : ℕ
  pub is : e ≡ Dump number

abbrev pub IsNoDump : Entry → Type 0
IsNoDump e = (n : ℕ) (rest : List (ℕ × ℕ)) → placed n e rest ≡ rest

pub dump_or_not : (e : Entry) → IsDump e ⊎ IsNoDump e
dump_or_not (Dump number) = inl (record { number = number; is = refl })
dump_or_not _ = inr (λ n rest. refl)

-- what stands after the dumps stays after them
placed_append : (n : ℕ) (e : Entry) (xs ys : List (ℕ × ℕ)) → IsDump e ⊎ IsNoDump e → placed n e (xs ++ ys) ≡ placed n e xs ++ ys
placed_append n e xs ys (inl d) = let is = d.is in rw is refl
placed_append n e xs ys (inr d) = d n (xs ++ ys) ∙ ap (λ zs. zs ++ ys) (sym (d n xs))

-- the dumps of a log with one more entry
pub dumps_append : (n : ℕ) (log : List Logged) (l : Logged) → dumps_from n (log ++ l ∷ []) ≡ dumps_from n log ++ placed (n + length log) l.entry []
dumps_append n [] l = let e : n ≡ n + 0 = omega arith in ap (λ i. placed i l.entry []) e
dumps_append n (k ∷ log) l =
    let e : n + 1 + length log ≡ n + suc (length log) = omega arith in
    ap (placed n k.entry) (dumps_append (n + 1) log l ∙ ap (λ i. dumps_from (n + 1) log ++ placed i l.entry []) e)
    ∙ placed_append n k.entry (dumps_from (n + 1) log) (placed (n + suc (length log)) l.entry []) (dump_or_not k.entry)

pub dumps_silent : (log : List Logged) (l : Logged) → IsNoDump l.entry → dumps_from 0 (log ++ l ∷ []) ≡ dumps_from 0 log
dumps_silent log l silent = dumps_append 0 log l ∙ ap (λ zs. dumps_from 0 log ++ zs) (silent (0 + length log) []) ∙ append-nil (dumps_from 0 log)

-- a dump is logged with the number of the last shot, which no dump stood for
pub dumps_dump : (t : ℕ) (log : List Logged) (l : Logged) (shots : List DumpShot) (u v : Option Unfinished)
    → l.entry ≡ Dump (length shots) → length shots ≡ length (dumps_from 0 log) + 1
    → AreOfDumps t log shots u → AreOfDumps t (log ++ l ∷ []) shots v
dumps_dump t log l shots u v is more (inl e) = let a = ap (λ z. length z) e in
    let b : length (places_of t shots) ≡ length shots = length-map {B = ℕ × ℕ} shots _ in absurd (omega (arith, a, b, more))
dumps_dump t log l shots u v is more (inr a) =
    let z : length log ≡ 0 + length log = omega arith in
    inl (a.0 ∙ ap (λ n. dumps_from 0 log ++ (n, length shots) ∷ []) z
    ∙ ap (λ e. dumps_from 0 log ++ placed (0 + length log) e []) (sym is) ∙ sym (dumps_append 0 log l))

-- any other entry is logged by a thread whose dumps are logged
pub dumps_other : (t : ℕ) (log : List Logged) (l : Logged) (shots : List DumpShot) (u v : Option Unfinished) → IsNoDump l.entry → (IsUnfinished u op.Dump 0 → ⊥)
    → AreOfDumps t log shots u → AreOfDumps t (log ++ l ∷ []) shots v
dumps_other t log l shots u v silent none (inl e) = inl (e ∙ sym (dumps_silent log l silent))
dumps_other t log l shots u v silent none (inr a) = absurd (none a.1)

-- with an entry of thread t, all shots fit that did, where its own are those of its dumps
pub shots_with : (shape : List (ℕ × ℕ)) (logs : List (List Logged)) (t : ℕ) (y : Logged) (l : ThreadView) (f : ℕ → ThreadView) → MayAppend logs t y
    → AreOfDumps t l.log (f t).shots l.unfinished
    → ShotsFit shape logs (λ u. (f u).log) (λ u. (f u).shots) (λ u. (f u).unfinished)
    → ShotsFit shape (appended logs t y) (λ u. (with_known t l f u).log) (λ u. (f u).shots) (λ u. (with_known t l f u).unfinished)
shots_with shape logs t y l f may mine h =
    record {
      right = λ u i s e. right_with shape logs t y s may (h.right u i s e);
      numbered = h.numbered;
      dumps = λ u. each_with_known (λ u k. AreOfDumps u k.log (f u).shots k.unfinished) t l f u mine (λ d. h.dumps u);
      few = h.few;
      ordered = h.ordered;
    }

-- what stands in a list with one more at its end
in_more : {A : Type 0} (xs : List A) (x : A) (i : ℕ) (z : A) → slice_get (xs ++ x ∷ []) i ≡ Some z → (slice_get xs i ≡ Some z) ⊎ ((i ≡ length xs) × (z ≡ x))
in_more [] x zero z e = inr (refl, same_Some z x (sym e))
in_more [] x (suc i) z e = absurd (cc e)
in_more (y ∷ xs) x zero z e = inl e
in_more (y ∷ xs) x (suc i) z e = elim (in_more xs x i z e) [ inl a ↦ inl a | inr a ↦ inr (ap suc a.0, a.1) ]

-- A shot of the logs as they are, which thread t keeps as its next one while its dumps are logged, and a dump is what it has unfinished.
pub record IsNext (shape : List (ℕ × ℕ)) (logs : List (List Logged)) (t : ℕ) (log : List Logged)
    (shots : List DumpShot) (unfinished : Option Unfinished) (shot : DumpShot) : Type 0 where
  pub right : IsRightShot shape logs shot
  pub number : shot.number ≡ length shots + 1
  pub whole : (u : ℕ) → length (log_of logs u) ≤ slice_index shot.cut u
  pub here : slice_index shot.cut t ≡ length log
  pub logged : places_of t shots ≡ dumps_from 0 log
  pub dumps : IsUnfinished unfinished op.Dump 0
  pub room : length shots < 4

-- with it the shots fit: all others were made no later
pub shots_taken : {shape : List (ℕ × ℕ)} {logs : List (List Logged)} {log : ℕ → List Logged} {unfinished : ℕ → Option Unfinished}
    (t : ℕ) (l : ThreadView) (f : ℕ → ThreadView) (shot : DumpShot)
    → IsNext shape logs t (log t) (f t).shots (unfinished t) shot → l.shots ≡ (f t).shots ++ shot ∷ [] → ShotsFit shape logs log (λ u. (f u).shots) unfinished
    → ShotsFit shape logs log (λ u. (with_known t l f u).shots) unfinished
shots_taken {shape = shape} {logs = logs} {log = log} {unfinished = unfinished} t l f shot a more h =
    record {
      right = λ u i s e. elim (old_or_new u i s e) [ inl b ↦ h.right u i s b | inr b ↦ subst (IsRightShot shape logs) (sym b.1) a.right ];
      numbered = λ u i s e. elim (old_or_new u i s e) [
        | inl b ↦ h.numbered u i s b
        | inr b ↦ ap (λ (z : DumpShot). z.number) b.1 ∙ a.number ∙ ap (λ n. n + 1) (sym b.0)
      ];
      dumps = λ u. each_with_known (λ u k. AreOfDumps u (log u) k.shots (unfinished u)) t l f u (inr (places, a.dumps)) (λ d. h.dumps u);
      few = λ u. each_with_known (λ u k. length k.shots ≤ 4) t l f u (let b = many in let c = a.room in omega (arith, b, c)) (λ d. h.few u);
      ordered = λ u z i j b c e g. elim (old_or_new u i b e) [
        | inl p ↦ elim (old_or_new z j c g) [
          | inl q ↦ h.ordered u z i j b c p q
          | inr q ↦ inl (subst (IsNoLater b) (sym q.1) (λ y. let k = (h.right u i b p).within y in let n = a.whole y in omega (arith, k, n)))
        ]
        | inr p ↦ elim (old_or_new z j c g) [
          | inl q ↦ inr (subst (IsNoLater c) (sym p.1) (λ y. let k = (h.right z j c q).within y in let n = a.whole y in omega (arith, k, n)))
          | inr q ↦ inl (subst (IsNoLater b) (sym q.1) (subst (λ y. IsNoLater y shot) (sym p.1) (λ y. omega arith)))
        ]
      ];
    }
  where
    old_or_new : (u i : ℕ) (s : DumpShot) → slice_get (with_known t l f u).shots i ≡ Some s
        → (slice_get (f u).shots i ≡ Some s) ⊎ ((i ≡ length (f t).shots) × (s ≡ shot))
    old_or_new u i s e =
        each_with_known (λ u k. slice_get k.shots i ≡ Some s → (slice_get (f u).shots i ≡ Some s) ⊎ ((i ≡ length (f t).shots) × (s ≡ shot))) t l f u
        (λ g. in_more (f t).shots shot i s (ap (λ z. slice_get z i) (sym more) ∙ g)) (λ d g. inl g) e

    many : length l.shots ≡ length (f t).shots + 1
    many = let b = ap (λ (z : List DumpShot). length z) more in let c = length-append (f t).shots (shot ∷ []) in omega (arith, b, c)

    places : places_of t l.shots ≡ dumps_from 0 (log t) ++ (length (log t), length l.shots) ∷ []
    places =
        ap (places_of t) more ∙ map-append {B = ℕ × ℕ} _ (f t).shots (shot ∷ []) ∙ ap (λ zs. zs ++ places_of t (shot ∷ [])) a.logged
        ∙ ap (λ n. dumps_from 0 (log t) ++ (n, shot.number) ∷ []) a.here
        ∙ ap (λ n. dumps_from 0 (log t) ++ (length (log t), n) ∷ []) (a.number ∙ sym many)

-- where a thread has as many shots as its log has dumps, each stands for one
pub all_logged : (t : ℕ) (log : List Logged) (shots : List DumpShot) (u : Option Unfinished)
    → length shots ≡ length (dumps_from 0 log) → AreOfDumps t log shots u → places_of t shots ≡ dumps_from 0 log
all_logged t log shots u same (inl a) = a
all_logged t log shots u same (inr a) =
    let b = ap (λ (z : List (ℕ × ℕ)). length z) a.0 in
    let c : length (places_of t shots) ≡ length shots = length-map {B = ℕ × ℕ} shots _ in
    let d = length-append (dumps_from 0 log) ((length log, length shots) ∷ []) in
    absurd (omega (arith, b, c, d, same))
