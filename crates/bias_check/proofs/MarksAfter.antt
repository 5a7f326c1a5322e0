-- The marks and generators after the entries of a run.
use Rattle.std.proofs.Common.{◌≡◌, ◌≢◌, ℕ, zero, suc, ◌+◌, ◌<◌, ◌≤◌, ◌==◌, ◌&&◌, ◌||◌, Bool, true, false, not, cond, List, [], ◌∷◌, ◌++◌, length}
use Rattle.std.proofs.Common.{get_or, set, refl, sym, subst, ◌∙◌, ap, arith, inl, inr, append_assoc, append-nil, add-one, Option, Some, None}
use Rattle.std.specs.Prelude.{count_by}
use Rattle.std.specs.List.{AllByRecursion}
use Rattle.std.proofs.lemmas.Bool.{cases_eq, cases_lt}
use Rattle.std.proofs.lemmas.Bool.Decides.{nat_tests}
use Rattle.std.proofs.lemmas.List.{length-replicate, length-set, get_or-replicate, get_or-set_same, get_or-set_other}
use Rattle.std.proofs.Math.Seq.{get_or-append_seam}
use Rattle.std.proofs.Math.ListN.{get_or-append}
use Rattle.std.proofs.lemmas.List.Elements.{filter_map-append}
use Rattle.std.proofs.lemmas.List.Sums.{sum_by-append}
use Rattle.lock_policy.specs.Draws.{state_after, next_state, value_of, nth_value}
use Rattle.plain_monitor.specs.declared.entry.Entry.{Entry}
use Rattle.plain_monitor.specs.declared.entry.Entry.TheVariants.{Hash}
use Rattle.plain_monitor.specs.declared.entry.Logged.{Logged}
use Rattle.object_program.specs.Program.{ProgramText, objects_total}
use Rattle.lock_journal.specs.Hashes.{first_word, hash_in, hashes_of, is_draw, is_draw_of, draws_by, is_right, are_right, hash_fits}
use Rattle.bias_check.specs.inner.HashState.{HashState}
use Rattle.bias_check.specs.declared.hashes.Mark.{Mark}
use Rattle.bias_check.specs.declared.hashes.Mark.TheVariants.{Unseen}
use Rattle.bias_check.specs.declared.hashes.Drawer.{Drawer}
use Rattle.bias_check.specs.inner.Marks.{new_drawer, drawers_to, new_hashes, drawer_next, gives, marked, marked_at, drawer_at, drawn_at, noted, is_bad}
use Rattle.bias_check.proofs.Lengths.{length-drawers}
use Rattle.bias_check.proofs.MarksRun.{IsMark, draw_count, draw_right, mark_push, mark_tells}

-- how many hash entries of object o have a draw
abbrev pub draws_on : ℕ → List (ℕ × Logged) → ℕ
draws_on o xs = count_by (λ x. is_draw_of o x.1.entry) xs

-- what an entry of object o drew is right, after these
abbrev pub is_right_after : ℕ → ℕ → List (ℕ × Logged) → ℕ × Logged → Bool
is_right_after start o done x = not (is_draw_of o x.1.entry) || is_right start x.0 (draws_by x.0 done) x.1.entry

-- one more entry at the end
hashes_push : (o : ℕ) (xs : List (ℕ × Logged)) (x : ℕ × Logged) → hashes_of o (xs ++ x ∷ []) ≡ hashes_of o xs ++ hashes_of o (x ∷ [])
hashes_push o xs x = filter_map-append (λ x. hash_in o x.1.entry) xs (x ∷ [])

draws_on_push : (o : ℕ) (xs : List (ℕ × Logged)) (x : ℕ × Logged) → draws_on o (xs ++ x ∷ []) ≡ draws_on o xs + draws_on o (x ∷ [])
draws_on_push o xs x = sum_by-append (λ x. cond (is_draw_of o x.1.entry) 1 0) xs (x ∷ [])

draws_by_push : (t : ℕ) (xs : List (ℕ × Logged)) (x : ℕ × Logged) → draws_by t (xs ++ x ∷ []) ≡ draws_by t xs + draws_by t (x ∷ [])
draws_by_push t xs x = sum_by-append (λ x. cond ((x.0 == t) && is_draw x.1.entry) 1 0) xs (x ∷ [])

and_assoc : (a b c : Bool) → (a && (b && c)) ≡ ((a && b) && c)
and_assoc true b c = refl
and_assoc false b c = refl

and_true : (b : Bool) → (b && true) ≡ b
and_true true = refl
and_true false = refl

right_push_from : (start o : ℕ) (done xs : List (ℕ × Logged)) (x : ℕ × Logged)
    → are_right start o done (xs ++ x ∷ []) ≡ (are_right start o done xs && is_right_after start o (done ++ xs) x)
right_push_from start o done [] x = rw append-nil (and_true (is_right_after start o done x))
right_push_from start o done (y ∷ ys) x =
    ap (λ b. is_right_after start o done y && b) (right_push_from start o (done ++ y ∷ []) ys x)
    ∙ ap (λ d. is_right_after start o done y && (are_right start o (done ++ y ∷ []) ys && is_right_after start o d x)) (append_assoc done (y ∷ []) ys)
    ∙ and_assoc (is_right_after start o done y) (are_right start o (done ++ y ∷ []) ys) (is_right_after start o (done ++ y ∷ ys) x)

right_push : (start o : ℕ) (xs : List (ℕ × Logged)) (x : ℕ × Logged)
    → are_right start o [] (xs ++ x ∷ []) ≡ (are_right start o [] xs && is_right_after start o xs x)
right_push start o xs x = right_push_from start o [] xs x

-- object o's mark after these entries
abbrev pub MarkAt : ℕ → ℕ → List (ℕ × Logged) → Mark → Type 0
MarkAt start o done mark = IsMark (hashes_of o done) (draws_on o done) (are_right start o [] done) mark

-- an entry that is no hash entry of o
mark_stays : (start o : ℕ) (done : List (ℕ × Logged)) (x : ℕ × Logged) (mark : Mark)
    → hash_in o x.1.entry ≡ None → is_draw_of o x.1.entry ≡ false → MarkAt start o done mark
    → MarkAt start o (done ++ x ∷ []) mark
mark_stays start o done x mark none undrawn h =
    let values : hashes_of o (done ++ x ∷ []) ≡ hashes_of o done = hashes_push o done x ∙ rw none (append-nil (hashes_of o done)) in
    let draws : draws_on o (done ++ x ∷ []) ≡ draws_on o done = draws_on_push o done x ∙ rw undrawn (omega arith) in
    let right : are_right start o [] (done ++ x ∷ []) ≡ are_right start o [] done =
    right_push start o done x ∙ rw undrawn (and_true (are_right start o [] done)) in
    rw (values, draws, right) h

-- a hash entry of o
mark_goes : (start o : ℕ) (done : List (ℕ × Logged)) (x : ℕ × Logged) (mark : Mark) (v : ℕ) (drawn : Option Bool)
    → hash_in o x.1.entry ≡ Some v → draws_on o (x ∷ []) ≡ draw_count drawn
    → is_right_after start o done x ≡ draw_right drawn → MarkAt start o done mark → MarkAt start o (done ++ x ∷ []) (marked mark v drawn)
mark_goes start o done x mark v drawn some counted right_is h =
    let values : hashes_of o (done ++ x ∷ []) ≡ hashes_of o done ++ v ∷ [] = hashes_push o done x ∙ rw some refl in
    let draws : draws_on o (done ++ x ∷ []) ≡ draws_on o done + draw_count drawn = draws_on_push o done x ∙ ap (λ n. draws_on o done + n) counted in
    let right : are_right start o [] (done ++ x ∷ []) ≡ (are_right start o [] done && draw_right drawn) =
    right_push start o done x ∙ ap (λ b. are_right start o [] done && b) right_is in
    rw (values, draws, right) (mark_push (hashes_of o done) (draws_on o done) (are_right start o [] done) mark v drawn h)

-- the generator of thread t after these entries
abbrev pub DrawerAt : ℕ → ℕ → List (ℕ × Logged) → Drawer → Type 0
DrawerAt start t done d = (d.draw ≡ state_after (first_word start t) (draws_by t done)) × (d.count ≡ draws_by t done)

drawer_stays : (start t : ℕ) (done : List (ℕ × Logged)) (x : ℕ × Logged) (d : Drawer)
    → draws_by t (x ∷ []) ≡ 0 → DrawerAt start t done d → DrawerAt start t (done ++ x ∷ []) d
drawer_stays start t done x d none h =
    let same : draws_by t (done ++ x ∷ []) ≡ draws_by t done = draws_by_push t done x ∙ rw none (omega arith) in rw same h

drawer_goes : (start t : ℕ) (done : List (ℕ × Logged)) (x : ℕ × Logged) (d : Drawer)
    → draws_by t (x ∷ []) ≡ 1 → DrawerAt start t done d → DrawerAt start t (done ++ x ∷ []) (drawer_next d)
drawer_goes start t done x d one h =
    let more : draws_by t (done ++ x ∷ []) ≡ suc (draws_by t done) = draws_by_push t done x ∙ rw one (add-one (draws_by t done)) in
    rw more (ap next_state h.0, ap (λ n. n + 1) h.1 ∙ add-one (draws_by t done))

-- the generator tells whether a draw is right
gives_by : (start t n value number : ℕ) (b : Bool) → (number == n + 1) ≡ b
    → ((number == n + 1) && (value == value_of (next_state (state_after (first_word start t) n))))
    ≡ ((number == n + 1) && (value == nth_value (first_word start t) number))
gives_by start t n value number true e =
    let same : number ≡ suc n = grind (arith, nat_tests) in
    ap (λ (k : ℕ). (number == n + 1) && (value == nth_value (first_word start t) k)) (sym same)
gives_by start t n value number false e = rw e refl

gives_right : (start t o value number : ℕ) (done : List (ℕ × Logged)) (d : Drawer) → DrawerAt start t done d
    → gives d value number ≡ is_right start t (draws_by t done) (Hash o value (Some number))
gives_right start t o value number done d h =
    rw (h.0, h.1) (gives_by start t (draws_by t done) value number (number == draws_by t done + 1) refl)

-- what holds after each entry
pub record IsAfter (p : ProgramText) (start : ℕ) (done : List (ℕ × Logged)) (h : HashState) : Type 0 where
  pub objects : length h.marks ≡ objects_total p
  pub threads : length h.drawers ≡ length p.threads
  pub marks : (o : ℕ) → o < objects_total p → MarkAt start o done (get_or h.marks o Unseen)
  pub drawers : (t : ℕ) → t < length p.threads → DrawerAt start t done (drawer_at h t)

and_no : (c : Bool) → (c && false) ≡ false
and_no true = refl
and_no false = refl

after_other : (p : ProgramText) (start : ℕ) (done : List (ℕ × Logged)) (h : HashState) (x : ℕ × Logged)
    → ((o : ℕ) → hash_in o x.1.entry ≡ None) → ((o : ℕ) → is_draw_of o x.1.entry ≡ false)
    → is_draw x.1.entry ≡ false → IsAfter p start done h → IsAfter p start (done ++ x ∷ []) h
after_other p start done h x none undrawn no_draw b = record {
  objects = b.objects;
  threads = b.threads;
  marks = λ o lt. mark_stays start o done x (get_or h.marks o Unseen) (none o) (undrawn o) (b.marks o lt);
  drawers = λ t lt. drawer_stays start t done x (drawer_at h t) (no_draws t) (b.drawers t lt);
} where
  no_draws : (t : ℕ) → draws_by t (x ∷ []) ≡ 0
  no_draws t = rw (no_draw, and_no (x.0 == t)) refl

-- the marks after a hash entry of object q
marks_after : (start q o : ℕ) (done : List (ℕ × Logged)) (x : ℕ × Logged) (marks : List Mark) (v : ℕ) (drawn : Option Bool)
    → q < length marks → o < length marks
    → hash_in q x.1.entry ≡ Some v → draws_on q (x ∷ []) ≡ draw_count drawn → is_right_after start q done x ≡ draw_right drawn
    → (o ≢ q → (hash_in o x.1.entry ≡ None) × (is_draw_of o x.1.entry ≡ false)) → MarkAt start o done (get_or marks o Unseen)
    → MarkAt start o (done ++ x ∷ []) (get_or (set marks q (marked (get_or marks q Unseen) v drawn)) o Unseen)
marks_after start q o done x marks v drawn within lt some counted right other h =
    elim (cases_eq o q) [
      | inl same ↦
          let here : get_or (set marks q (marked (get_or marks q Unseen) v drawn)) o Unseen ≡ marked (get_or marks q Unseen) v drawn =
          rw same (get_or-set_same marks q (marked (get_or marks q Unseen) v drawn) Unseen within) in
          rw (here, same) (mark_goes start q done x (get_or marks q Unseen) v drawn some counted right (rw same at h))
      | inr apart ↦
          let there : get_or (set marks q (marked (get_or marks q Unseen) v drawn)) o Unseen ≡ get_or marks o Unseen =
          get_or-set_other marks q o (marked (get_or marks q Unseen) v drawn) Unseen apart in
          rw there (mark_stays start o done x (get_or marks o Unseen) (other apart).0 (other apart).1 h)
    ]

apart_test : (q o : ℕ) → o ≢ q → (q == o) ≡ false
apart_test q o h = grind (arith, nat_tests)

same_test : (q : ℕ) → (q == q) ≡ true
same_test q = grind (arith, nat_tests)

after_undrawn : (p : ProgramText) (start : ℕ) (done : List (ℕ × Logged)) (h : HashState) (t s q v : ℕ) → q < objects_total p → IsAfter p start done h
    → IsAfter p start (done ++ (t, record { stamp = s; entry = Hash q v None }) ∷ []) (marked_at h q v None)
after_undrawn p start done h t s q v within b =
    let x : ℕ × Logged = (t, record { stamp = s; entry = Hash q v None }) in
    record {
      objects = length-set h.marks q (marked (get_or h.marks q Unseen) v None) ∙ b.objects;
      threads = b.threads;
      marks = λ o lt. marks_after start q o done x h.marks v None (omega (arith, b.objects, within))
          (omega (arith, b.objects, lt)) (rw (same_test q) refl) refl refl
          (λ apart. (rw (apart_test q o apart) refl, refl)) (b.marks o lt);
      drawers = λ u lt. drawer_stays start u done x (drawer_at h u) (rw (and_no (t == u)) refl) (b.drawers u lt);
    }

drawers_after : (start t u : ℕ) (done : List (ℕ × Logged)) (x : ℕ × Logged) (drawers : List Drawer)
    → t < length drawers → x.0 ≡ t → is_draw x.1.entry ≡ true → DrawerAt start u done (get_or drawers u (new_drawer 0 0))
    → DrawerAt start u (done ++ x ∷ []) (get_or (set drawers t (drawer_next (get_or drawers t (new_drawer 0 0)))) u (new_drawer 0 0))
drawers_after start t u done x drawers within thread draw h =
    elim (cases_eq u t) [
      | inl same ↦
          let here : get_or (set drawers t (drawer_next (get_or drawers t (new_drawer 0 0)))) u (new_drawer 0 0)
          ≡ drawer_next (get_or drawers t (new_drawer 0 0)) =
          rw same (get_or-set_same drawers t (drawer_next (get_or drawers t (new_drawer 0 0))) (new_drawer 0 0) within) in
          let one : draws_by t (x ∷ []) ≡ 1 = rw (thread, same_test t, draw) refl in
          rw (here, same) (drawer_goes start t done x (get_or drawers t (new_drawer 0 0)) one (rw same at h))
      | inr apart ↦
          let there : get_or (set drawers t (drawer_next (get_or drawers t (new_drawer 0 0)))) u (new_drawer 0 0) ≡ get_or drawers u (new_drawer 0 0) =
          get_or-set_other drawers t u (drawer_next (get_or drawers t (new_drawer 0 0))) (new_drawer 0 0) apart in
          let none : draws_by u (x ∷ []) ≡ 0 = rw (thread, apart_test t u apart) refl in
          rw there (drawer_stays start u done x (get_or drawers u (new_drawer 0 0)) none h)
    ]

after_drawn : (p : ProgramText) (start : ℕ) (done : List (ℕ × Logged)) (h : HashState) (t s q v n : ℕ)
    → q < objects_total p → t < length p.threads → IsAfter p start done h
    → IsAfter p start (done ++ (t, record { stamp = s; entry = Hash q v (Some n) }) ∷ []) (drawn_at h t q v n)
after_drawn p start done h t s q v n within thread b =
    let x : ℕ × Logged = (t, record { stamp = s; entry = Hash q v (Some n) }) in
    let d = drawer_at h t in
    let right : is_right start t (draws_by t done) (Hash q v (Some n)) ≡ gives d v n = sym (gives_right start t q v n done d (b.drawers t thread)) in
    record {
      objects = length-set h.marks q (marked (get_or h.marks q Unseen) v (Some (gives d v n))) ∙ b.objects;
      threads = length-set h.drawers t (drawer_next d) ∙ b.threads;
      marks = λ o lt. marks_after start q o done x h.marks v (Some (gives d v n)) (omega (arith, b.objects, within))
          (omega (arith, b.objects, lt)) (rw (same_test q) refl) (rw (same_test q) refl)
          (rw (same_test q) right) (λ apart. (rw (apart_test q o apart) refl, apart_test q o apart)) (b.marks o lt);
      drawers = λ u lt. drawers_after start t u done x h.drawers (omega (arith, b.threads, thread)) refl refl (b.drawers u lt);
    }

-- a hash is of one of the program's objects
abbrev pub HashesOwn : ProgramText → Entry → Type 0
HashesOwn p (Hash o v drawn) = o < objects_total p
HashesOwn p e = Unit {0}

after_entry : (p : ProgramText) (start : ℕ) (done : List (ℕ × Logged)) (h : HashState) (t s : ℕ) (e : Entry)
    → t < length p.threads → HashesOwn p e → IsAfter p start done h
    → IsAfter p start (done ++ (t, record { stamp = s; entry = e }) ∷ []) (noted h t e)
after_entry p start done h t s (Hash q v None) thread valid b = after_undrawn p start done h t s q v valid b
after_entry p start done h t s (Hash q v (Some n)) thread valid b = after_drawn p start done h t s q v n valid thread b
after_entry p start done h t s e thread valid b =
    after_other p start done h (t, record { stamp = s; entry = e }) (λ o. refl) (λ o. refl) refl b

-- the hashes after these entries
abbrev pub noted_all : HashState → List (ℕ × Logged) → HashState
noted_all h [] = h
noted_all h (x ∷ xs) = noted_all (noted h x.0 x.1.entry) xs

abbrev pub AreEntriesIn : ProgramText → List (ℕ × Logged) → Type 0
AreEntriesIn p xs = AllByRecursion (λ x. (x.0 < length p.threads) × HashesOwn p x.1.entry) xs

after_from : (p : ProgramText) (start : ℕ) (done xs : List (ℕ × Logged)) (h : HashState)
    → AreEntriesIn p xs → IsAfter p start done h → IsAfter p start (done ++ xs) (noted_all h xs)
after_from p start done [] h valid b = rw append-nil b
after_from p start done (x ∷ xs) h valid b =
    let next = after_from p start (done ++ x ∷ []) xs (noted h x.0 x.1.entry) valid.1
    (after_entry p start done h x.0 x.1.stamp x.1.entry valid.0.0 valid.0.1 b) in
    let same : (done ++ x ∷ []) ++ xs ≡ done ++ x ∷ xs = append_assoc done (x ∷ []) xs in
    subst (λ ys. IsAfter p start ys (noted_all (noted h x.0 x.1.entry) xs)) same next

-- each thread has its generator at first
first_drawer : (start n t : ℕ) → t < n → get_or (drawers_to start n) t (new_drawer 0 0) ≡ new_drawer start t
first_drawer start zero t h = absurd (omega (arith, h))
first_drawer start (suc n) t h =
    elim (cases_lt t n) [
      | inl low ↦ get_or-append (drawers_to start n) (new_drawer start n ∷ []) (new_drawer 0 0) t
          (omega (arith, low, length-drawers start n)) ∙ first_drawer start n t low
      | inr high ↦
          let same : t ≡ n = omega (arith, h, high) in
          let last : length (drawers_to start n) ≡ n = length-drawers start n in
          let seam = get_or-append_seam (drawers_to start n) (new_drawer start n) [] (new_drawer 0 0) in
          rw same (rw last at seam)
    ]

first_after : (p : ProgramText) (start : ℕ) → IsAfter p start [] (new_hashes p start)
first_after p start = record {
  objects = length-replicate (objects_total p) Unseen;
  threads = length-drawers start (length p.threads);
  marks = λ o lt. rw (get_or-replicate (objects_total p) o Unseen Unseen lt) (refl, refl, refl);
  drawers = λ t lt. rw (first_drawer start (length p.threads) t lt) (refl, refl);
}

pub all_after : (p : ProgramText) (start : ℕ) (xs : List (ℕ × Logged)) → AreEntriesIn p xs → IsAfter p start xs (noted_all (new_hashes p start) xs)
all_after p start xs valid = after_from p start [] xs (new_hashes p start) valid (first_after p start)

-- a mark tells whether the hashes of its object fit
pub marks_tell : (p : ProgramText) (start : ℕ) (xs : List (ℕ × Logged)) (o : ℕ) → AreEntriesIn p xs → o < objects_total p
    → hash_fits start xs o ≡ not (is_bad (get_or (noted_all (new_hashes p start) xs).marks o Unseen))
marks_tell p start xs o valid lt =
    mark_tells (hashes_of o xs) (draws_on o xs) (are_right start o [] xs) _ ((all_after p start xs valid).marks o lt)

-- no entry hashes an object that the program doesn't have
unhashed : (p : ProgramText) (o : ℕ) (e : Entry) → objects_total p ≤ o → HashesOwn p e → hash_in o e ≡ None
unhashed p o (Hash q v drawn) h valid = let apart : (q == o) ≡ false = let lt = valid in grind (arith, nat_tests) in rw apart refl
unhashed p o e h valid = refl

pub no_hashes : (p : ProgramText) (o : ℕ) (xs : List (ℕ × Logged)) → objects_total p ≤ o → AreEntriesIn p xs → hashes_of o xs ≡ []
no_hashes p o [] h valid = refl
no_hashes p o (x ∷ xs) h valid = rw (unhashed p o x.1.entry h valid.0.1) (no_hashes p o xs h valid.1)

pub fits_beyond : (p : ProgramText) (start o : ℕ) (xs : List (ℕ × Logged)) → objects_total p ≤ o → AreEntriesIn p xs → hash_fits start xs o ≡ true
fits_beyond p start o xs h valid = rw (no_hashes p o xs h valid) refl
