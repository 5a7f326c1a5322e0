-- The answer that is found is true, and no other is.
use Rattle.std.proofs.Common.{◌≡◌, ◌≢◌, ℕ, zero, suc, ◌+◌, ◌<◌, Bool, true, false, not, List, [], ◌∷◌, ◌++◌, length, get_or}
use Rattle.std.proofs.Common.{refl, sym, subst, ◌∙◌, ap, arith, inl, inr, append-nil, zero-add, Option, Some, None, Ok, Err}
use Rattle.std.specs.Prelude.{Result, position}
use Rattle.std.specs.List.{AllByRecursion, position_or_len}
use Rattle.std.proofs.lemmas.Bool.{cases_lt, cases_eq}
use Rattle.plain_monitor.specs.declared.entry.Logged.{Logged}
use Rattle.object_program.specs.Program.{ProgramText, objects_total}
use Rattle.object_program.specs.Valid.{IsProgram}
use Rattle.plain_machine.specs.Machine.{PlainMachine, new_machine}
use Rattle.bias_check.specs.declared.answer.Checked.{Checked}
use Rattle.bias_check.specs.declared.answer.Checked.TheVariants.{Legal, NoStep, BadHash}
use Rattle.bias_check.specs.declared.answer.Reached.{Reached}
use Rattle.bias_check.specs.declared.answer.CheckFault.{CheckFault}
use Rattle.bias_check.specs.declared.answer.CheckFault.TheVariants.{Unreadable, NoMemory}
use Rattle.bias_check.specs.declared.check.Check.{Check}
use Rattle.bias_check.specs.declared.hashes.Mark.{Mark}
use Rattle.bias_check.specs.declared.hashes.Mark.TheVariants.{Unseen}
use Rattle.bias_check.specs.inner.HashState.{HashState}
use Rattle.bias_check.specs.Lines.{Tells, IsReadable}
use Rattle.bias_check.specs.Steps.{IsStep, IsRun, last_of}
use Rattle.lock_journal.specs.Hashes.{hash_fits}
use Rattle.bias_check.specs.inner.Marks.{new_hashes, is_bad}
use Rattle.bias_check.specs.inner.Table.{names_of}
use Rattle.bias_check.specs.Answer.{IsFirstUnreadable, IsFirstWithoutStep, IsLeastBadHash, IsLegalRun, IsTrueOf}
use Rattle.bias_check.specs.inner.Checking.{first_check, checked_from, hash_verdict, verdict_of, answer_of}
use Rattle.bias_check.proofs.Cuts.{first_at, none_at}
use Rattle.bias_check.proofs.MarksAfter.{noted_all, AreEntriesIn, all_after, marks_tell, fits_beyond}
use Rattle.bias_check.proofs.TakenObjects.{first_count, as_many, hash_is_own}
use Rattle.bias_check.proofs.RunsChecked.{going, run_checked, all_readable, unread, LinesAreRun, HasStop, Ends, ends}

-- the entries of a run are of the program's threads, and no hash is of another object than the program's
entries_from : (p : ProgramText) (before : Option (ℕ × Logged)) (m n : PlainMachine) (lines : List (List ℕ)) (xs : List (ℕ × Logged))
    → length m.objects ≡ objects_total p → IsRun p before m lines xs n → AreEntriesIn p xs
entries_from p before m n [] [] count run = tt
entries_from p before m n [] (x ∷ xs) count run = absurd run
entries_from p before m n (line ∷ lines) [] count run = absurd run
entries_from p before m n (line ∷ lines) (x ∷ xs) count run =
    let taken = run.1.taken in (
      (run.1.tells.thread, hash_is_own p m run.0 x.0 x.1.entry count taken),
      entries_from p (Some x) run.0 n lines xs (as_many m run.0 x.0 x.1.entry taken ∙ count) run.2,
    )

entries_in : (p : ProgramText) (fuel : ℕ) (n : PlainMachine) (lines : List (List ℕ)) (xs : List (ℕ × Logged))
    → IsProgram p → IsRun p None (new_machine p fuel) lines xs n → AreEntriesIn p xs
entries_in p fuel n lines xs is run = entries_from p None (new_machine p fuel) n lines xs (first_count p fuel is) run

length_run : (p : ProgramText) (before : Option (ℕ × Logged)) (m n : PlainMachine) (lines : List (List ℕ)) (xs : List (ℕ × Logged))
    → IsRun p before m lines xs n → length xs ≡ length lines
length_run p before m n [] [] run = refl
length_run p before m n [] (x ∷ xs) run = absurd run
length_run p before m n (line ∷ lines) [] run = absurd run
length_run p before m n (line ∷ lines) (x ∷ xs) run =
    let ih = length_run p (Some x) run.0 n lines xs run.2 in omega (arith, ih)

-- the first place that passes
passes_by : {X : Type 0} (p : X → Bool) (x : X) (xs : List X) (d : X) (b : Bool) → p x ≡ b → position_or_len p (x ∷ xs) < length (x ∷ xs)
    → (position_or_len p xs < length xs → p (get_or xs (position_or_len p xs) d) ≡ true) → p (get_or (x ∷ xs) (position_or_len p (x ∷ xs)) d) ≡ true
passes_by p x xs d true e h ih = rw e e
passes_by p x xs d false e h ih =
    let k = rw e at h in
    let s : 1 + position_or_len p xs ≡ suc (position_or_len p xs) = omega arith in
    rw (e, s) (ih (omega (arith, k)))

passes : {X : Type 0} (p : X → Bool) (xs : List X) (d : X) → position_or_len p xs < length xs → p (get_or xs (position_or_len p xs) d) ≡ true
passes p [] d h = absurd (omega (arith, h))
passes p (x ∷ xs) d h = passes_by p x xs d (p x) refl h (passes p xs d)

fails_by : {X : Type 0} (p : X → Bool) (x : X) (xs : List X) (d : X) (k : ℕ) (b : Bool) → p x ≡ b → k < position_or_len p (x ∷ xs)
    → ((j : ℕ) → j < position_or_len p xs → p (get_or xs j d) ≡ false) → p (get_or (x ∷ xs) k d) ≡ false
fails_by p x xs d k true e h ih = let g = rw e at h in absurd (omega (arith, g))
fails_by p x xs d zero false e h ih = e
fails_by p x xs d (suc k) false e h ih = let g = rw e at h in ih k (omega (arith, g))

fails : {X : Type 0} (p : X → Bool) (xs : List X) (d : X) (k : ℕ) → k < position_or_len p xs → p (get_or xs k d) ≡ false
fails p [] d k h = absurd (omega (arith, h))
fails p (x ∷ xs) d k h = fails_by p x xs d k (p x) refl h (λ j g. fails p xs d j g)

-- the marks after a run
abbrev pub marks_of : ProgramText → ℕ → List (ℕ × Logged) → List Mark
marks_of p start xs = (noted_all (new_hashes p start) xs).marks

-- where a mark is first bad, the hashes of its object are the first that don't fit
pub record IsLeastBad (start : ℕ) (xs : List (ℕ × Logged)) (o : ℕ) : Type 0 where
  pub bad : hash_fits start xs o ≡ false
  pub least : (k : ℕ) → k < o → hash_fits start xs k ≡ true

bad_place : (p : ProgramText) (start : ℕ) (xs : List (ℕ × Logged)) (o : ℕ)
    → AreEntriesIn p xs → Some o ≡ position is_bad (marks_of p start xs) → IsLeastBad start xs o
bad_place p start xs o valid h =
    let marks = marks_of p start xs in
    let t = first_at is_bad marks o h in
    let count : length marks ≡ objects_total p = (all_after p start xs valid).objects in
    let within : o < objects_total p = omega (arith, t.same, t.less, count) in
    let bad : is_bad (get_or marks o Unseen) ≡ true = rw t.same (passes is_bad marks Unseen t.less) in
    record {
      bad = marks_tell p start xs o valid within ∙ ap not bad;
      least = λ k lt. marks_tell p start xs k valid (omega (arith, lt, within)) ∙ ap not (fails is_bad marks Unseen k (omega (arith, t.same, lt)));
    }

no_place : (p : ProgramText) (start : ℕ) (xs : List (ℕ × Logged)) (o : ℕ) → AreEntriesIn p xs
    → None ≡ position is_bad (marks_of p start xs) → hash_fits start xs o ≡ true
no_place p start xs o valid h =
    let marks = marks_of p start xs in
    let count : length marks ≡ objects_total p = (all_after p start xs valid).objects in
    let past = none_at is_bad marks h in
    elim (cases_lt o (objects_total p)) [
      | inl lt ↦ marks_tell p start xs o valid lt ∙ ap not (fails is_bad marks Unseen o (omega (arith, count, lt, past)))
      | inr beyond ↦ fits_beyond p start o xs beyond valid
    ]

-- the answer to a run
run_answer_by : (p : ProgramText) → IsProgram p → (fuel start : ℕ) (lines : List (List ℕ)) (d : Check)
    (place : Option ℕ) (r : LinesAreRun p None (new_machine p fuel) (new_hashes p start) lines d)
    → place ≡ position is_bad (marks_of p start r.entries) → IsTrueOf p fuel start lines (Ok (hash_verdict d (length lines) place))
run_answer_by p is fuel start lines d (Some o) r at =
    let valid = entries_in p fuel d.machine lines r.entries is r.run in
    let t = bad_place p start r.entries o valid at in
    record { entries = r.entries; machine = d.machine; run = r.run; bad = t.bad; least = t.least }
run_answer_by p is fuel start lines d None r at =
    let valid = entries_in p fuel d.machine lines r.entries is r.run in
    record {
      entries = r.entries;
      machine = d.machine;
      run = r.run;
      fits = λ o. no_place p start r.entries o valid at;
      counted = sym (length_run p None (new_machine p fuel) d.machine lines r.entries r.run);
      stands = refl;
    }

run_answer : (p : ProgramText) → IsProgram p → (fuel start : ℕ) (lines : List (List ℕ)) (d : Check)
    → LinesAreRun p None (new_machine p fuel) (new_hashes p start) lines d → IsTrueOf p fuel start lines (Ok (verdict_of d (length lines)))
run_answer p is fuel start lines d r =
    rw r.unstopped (run_answer_by p is fuel start lines d (position is_bad d.hashes.marks) r (ap (λ (h : HashState). position is_bad h.marks) r.hashes_are))

stop_answer : (p : ProgramText) (fuel start : ℕ) (lines : List (List ℕ)) (d : Check)
    → AllByRecursion (IsReadable p) lines → HasStop p 0 None (new_machine p fuel) lines d
    → IsTrueOf p fuel start lines (Ok (verdict_of d (length lines)))
stop_answer p fuel start lines d readable s =
    rw s.stopped_is (record {
      readable = readable;
      front = s.front;
      line = s.line;
      rest = s.rest;
      split = s.split;
      place = ap (λ (n : ℕ). n + 1) (zero-add (length s.front));
      entries = s.entries;
      machine = s.machine;
      run = s.run;
      no_step = s.no_step;
    })

ok_answer : (p : ProgramText) → IsProgram p → (fuel start : ℕ) (lines : List (List ℕ)) (d : Check)
    → AllByRecursion (IsReadable p) lines → Ends p 0 None (new_machine p fuel) (new_hashes p start) lines d
    → IsTrueOf p fuel start lines (Ok (verdict_of d (length lines)))
ok_answer p is fuel start lines d readable (inl r) = run_answer p is fuel start lines d r
ok_answer p is fuel start lines d readable (inr s) = stop_answer p fuel start lines d readable s

true_by : (p : ProgramText) (fuel start : ℕ) (lines : List (List ℕ)) (out : Result Check ℕ)
    → IsProgram p → checked_from (names_of p) 0 (first_check p fuel start) lines ≡ out
    → IsTrueOf p fuel start lines (answer_of out (length lines))
true_by p fuel start lines (Ok d) h e =
    ok_answer p h fuel start lines d (all_readable p 0 (first_check p fuel start) d lines h e)
    (ends p 0 lines d h None (new_machine p fuel) (new_hashes p start) e)
true_by p fuel start lines (Err k) h e =
    let u = unread p 0 k (first_check p fuel start) lines h e in
    record {
      front = u.front;
      line = u.line;
      rest = u.rest;
      split = u.split;
      place = u.place ∙ ap (λ (n : ℕ). n + 1) (zero-add (length u.front));
      readable = u.readable;
      unreadable = u.unreadable;
    }

abbrev pub found : ProgramText → ℕ → ℕ → List (List ℕ) → Result Checked CheckFault
found p fuel start lines = answer_of (checked_from (names_of p) 0 (first_check p fuel start) lines) (length lines)

-- the answer that is found is true
pub found_true : (p : ProgramText) (fuel start : ℕ) (lines : List (List ℕ)) → IsProgram p → IsTrueOf p fuel start lines (found p fuel start lines)
found_true p fuel start lines h =
    true_by p fuel start lines (checked_from (names_of p) 0 (first_check p fuel start) lines) h refl

-- a run is found as one
run_found : (p : ProgramText) (fuel start : ℕ) (lines : List (List ℕ)) (xs : List (ℕ × Logged)) (n : PlainMachine)
    → IsProgram p → IsRun p None (new_machine p fuel) lines xs n
    → found p fuel start lines ≡ Ok (hash_verdict (going n (noted_all (new_hashes p start) xs) (last_of None xs))
    (length lines) (position is_bad (marks_of p start xs)))
run_found p fuel start lines xs n h run =
    let whole = run_checked p 0 None (new_machine p fuel) n (new_hashes p start) lines [] xs h run in
    let same = rw append-nil at whole in
    ap (λ (out : Result Check ℕ). answer_of out (length lines)) same

legal_by : (p : ProgramText) → IsProgram p → (fuel start : ℕ) (lines : List (List ℕ)) (count : ℕ) (state : Reached)
    (r : IsLegalRun p fuel start lines count state) (place : Option ℕ) → place ≡ position is_bad (marks_of p start r.entries)
    → hash_verdict (going r.machine (noted_all (new_hashes p start) r.entries) (last_of None r.entries)) (length lines) place ≡ Legal count state
legal_by p is fuel start lines count state r (Some o) at =
    let valid = entries_in p fuel r.machine lines r.entries is r.run in
    let t = bad_place p start r.entries o valid at in absurd (cc (sym t.bad ∙ r.fits o))
legal_by p is fuel start lines count state r None at =
    let counted : count ≡ length lines = r.counted ∙ length_run p None (new_machine p fuel) r.machine lines r.entries r.run in
    rw (counted, r.stands) refl

bad_by : (p : ProgramText) → IsProgram p → (fuel start : ℕ) (lines : List (List ℕ)) (object : ℕ)
    (r : IsLeastBadHash p fuel start lines object) (place : Option ℕ) → place ≡ position is_bad (marks_of p start r.entries)
    → hash_verdict (going r.machine (noted_all (new_hashes p start) r.entries) (last_of None r.entries)) (length lines) place ≡ BadHash object
bad_by p is fuel start lines object r (Some o) at =
    let valid = entries_in p fuel r.machine lines r.entries is r.run in
    let t = bad_place p start r.entries o valid at in
    elim (cases_eq o object) [
      | inl same ↦ ap BadHash same
      | inr apart ↦ elim (cases_lt o object) [
        | inl lt ↦ absurd (cc (sym t.bad ∙ r.least o lt))
        | inr ge ↦ absurd (cc (sym r.bad ∙ t.least object (omega (arith, apart, ge))))
      ]
    ]
bad_by p is fuel start lines object r None at =
    let valid = entries_in p fuel r.machine lines r.entries is r.run in
    absurd (cc (sym r.bad ∙ no_place p start r.entries object valid at))

-- of two places where a text stops being readable there is one
unread_same : (p : ProgramText) (front other : List (List ℕ)) (line next : List ℕ) (rest more : List (List ℕ))
    → front ++ line ∷ rest ≡ other ++ next ∷ more → AllByRecursion (IsReadable p) front → AllByRecursion (IsReadable p) other
    → ((x : ℕ × Logged) → Tells p line x → ⊥) → ((x : ℕ × Logged) → Tells p next x → ⊥) → length front ≡ length other
unread_same p [] [] line next rest more e a b u v = refl
unread_same p [] (o ∷ os) line next rest more e a b u v =
    let same : line ≡ o = cc e in let read = subst (IsReadable p) (sym same) b.0 in absurd (u read.told read.tells)
unread_same p (f ∷ fs) [] line next rest more e a b u v =
    let same : f ≡ next = cc e in let read = subst (IsReadable p) same a.0 in absurd (v read.told read.tells)
unread_same p (f ∷ fs) (o ∷ os) line next rest more e a b u v =
    let tail : fs ++ line ∷ rest ≡ os ++ next ∷ more = cc e in
    let ih = unread_same p fs os line next rest more tail a.1 b.1 u v in omega (arith, ih)

-- a line among readable ones is readable
readable_at : (p : ProgramText) (front : List (List ℕ)) (line : List ℕ) (rest : List (List ℕ))
    → AllByRecursion (IsReadable p) (front ++ line ∷ rest) → IsReadable p line
readable_at p [] line rest h = h.0
readable_at p (f ∷ fs) line rest h = readable_at p fs line rest h.1

unreadable_found : (p : ProgramText) (fuel start : ℕ) (lines : List (List ℕ)) (number : ℕ) (out : Result Check ℕ)
    → IsProgram p → checked_from (names_of p) 0 (first_check p fuel start) lines ≡ out
    → IsFirstUnreadable p lines number → answer_of out (length lines) ≡ Err (Unreadable number)
unreadable_found p fuel start lines number (Ok d) h e u =
    let all = all_readable p 0 (first_check p fuel start) d lines h e in
    let read = readable_at p u.front u.line u.rest (subst (AllByRecursion (IsReadable p)) u.split all) in
    absurd (u.unreadable read.told read.tells)
unreadable_found p fuel start lines number (Err k) h e u =
    let v = unread p 0 k (first_check p fuel start) lines h e in
    let same = unread_same p v.front u.front v.line u.line v.rest u.rest (sym v.split ∙ u.split) v.readable u.readable v.unreadable u.unreadable in
    let number_same : k ≡ number = omega (arith, v.place, u.place, same) in
    ap (λ (n : ℕ). Err (Unreadable n)) number_same

-- the first line that is no step is found
stop_number : (p : ProgramText) (n : ℕ) (before : Option (ℕ × Logged)) (m : PlainMachine) (line : List ℕ) (rest : List (List ℕ)) (d : Check)
    → ((x : ℕ × Logged) (k : PlainMachine) → IsStep p before m line x k → ⊥)
    → (front : List (List ℕ)) (next : List ℕ) (more : List (List ℕ)) (xs : List (ℕ × Logged)) (k : PlainMachine)
    → line ∷ rest ≡ front ++ next ∷ more → IsRun p before m front xs k → length front ≡ 0
stop_number p n before m line rest d none [] next more xs k e run = refl
stop_number p n before m line rest d none (f ∷ fs) next more [] k e run = absurd run
stop_number p n before m line rest d none (f ∷ fs) next more (x ∷ xs) k e run =
    let same : line ≡ f = cc e in
    absurd (none x run.0 (subst (λ (l : List ℕ). IsStep p before m l x run.0) (sym same) run.1))

stop_by_ends : (p : ProgramText) (n count : ℕ) (before : Option (ℕ × Logged))
    (m : PlainMachine) (hashes : HashState) (line : List ℕ) (rest : List (List ℕ)) (d : Check)
    → ((x : ℕ × Logged) (k : PlainMachine) → IsStep p before m line x k → ⊥) → Ends p n before m hashes (line ∷ rest) d → verdict_of d count ≡ NoStep (n + 1)
stop_by_ends p n count before m hashes line rest d none (inl r) = no_run r.entries r.run
  where
    no_run : (xs : List (ℕ × Logged)) → IsRun p before m (line ∷ rest) xs d.machine → verdict_of d count ≡ NoStep (n + 1)
    no_run [] run = absurd run
    no_run (x ∷ xs) run = absurd (none x run.0 run.1)
stop_by_ends p n count before m hashes line rest d none (inr s) =
    let here = stop_number p n before m line rest d none s.front s.line s.rest s.entries s.machine s.split s.run in
    let at : n + length s.front + 1 ≡ n + 1 = omega (arith, here) in
    rw (s.stopped_is, at) refl

stop_found_by : (p : ProgramText) (n count : ℕ) (before : Option (ℕ × Logged)) (m : PlainMachine)
    (hashes : HashState) (line : List ℕ) (rest : List (List ℕ)) (out : Result Check ℕ) → IsProgram p
    → AllByRecursion (IsReadable p) (line ∷ rest) → ((x : ℕ × Logged) (k : PlainMachine) → IsStep p before m line x k → ⊥)
    → checked_from (names_of p) n (going m hashes before) (line ∷ rest) ≡ out → answer_of out count ≡ Ok (NoStep (n + 1))
stop_found_by p n count before m hashes line rest (Ok d) h readable none e =
    ap Ok (stop_by_ends p n count before m hashes line rest d none (ends p n (line ∷ rest) d h before m hashes e))
stop_found_by p n count before m hashes line rest (Err k) h readable none e =
    let u = unread p n k (going m hashes before) (line ∷ rest) h e in
    let read = readable_at p u.front u.line u.rest (subst (AllByRecursion (IsReadable p)) u.split readable) in
    absurd (u.unreadable read.told read.tells)

after_front : (p : ProgramText) (front rest : List (List ℕ)) → AllByRecursion (IsReadable p) (front ++ rest) → AllByRecursion (IsReadable p) rest
after_front p [] rest h = h
after_front p (f ∷ fs) rest h = after_front p fs rest h.1

stop_found : (p : ProgramText) (fuel start : ℕ) (lines : List (List ℕ)) (number : ℕ) → IsProgram p
    → IsFirstWithoutStep p fuel lines number → found p fuel start lines ≡ Ok (NoStep number)
stop_found p fuel start lines number h s =
    let n = 0 + length s.front in
    let hashes = noted_all (new_hashes p start) s.entries in
    let whole = run_checked p 0 None (new_machine p fuel) s.machine (new_hashes p start) s.front (s.line ∷ s.rest) s.entries h s.run in
    let split = subst (λ (ls : List (List ℕ)). checked_from (names_of p) 0 (first_check p fuel start) ls
    ≡ checked_from (names_of p) n (going s.machine hashes (last_of None s.entries)) (s.line ∷ s.rest)) (sym s.split) whole in
    let readable = after_front p s.front (s.line ∷ s.rest) (subst (AllByRecursion (IsReadable p)) s.split s.readable) in
    let at : n + 1 ≡ number = omega (arith, s.place) in
    ap (λ (out : Result Check ℕ). answer_of out (length lines)) split
    ∙ stop_found_by p n (length lines) (last_of None s.entries) s.machine hashes s.line s.rest
    (checked_from (names_of p) n (going s.machine hashes (last_of None s.entries)) (s.line ∷ s.rest)) h readable s.no_step refl
    ∙ ap (λ (k : ℕ). Ok (NoStep k)) at

-- each true answer but want of memory is the one that is found
pub found_only : (p : ProgramText) (fuel start : ℕ) (lines : List (List ℕ)) (r : Result Checked CheckFault)
    → IsProgram p → IsTrueOf p fuel start lines r → r ≢ Err NoMemory → found p fuel start lines ≡ r
found_only p fuel start lines (Ok (Legal count state)) h r other =
    run_found p fuel start lines r.entries r.machine h r.run
    ∙ ap Ok (legal_by p h fuel start lines count state r (position is_bad (marks_of p start r.entries)) refl)
found_only p fuel start lines (Ok (NoStep number)) h r other = stop_found p fuel start lines number h r
found_only p fuel start lines (Ok (BadHash object)) h r other =
    run_found p fuel start lines r.entries r.machine h r.run ∙ ap Ok (bad_by p h fuel start lines object r (position is_bad (marks_of p start r.entries)) refl)
found_only p fuel start lines (Err (Unreadable number)) h r other =
    unreadable_found p fuel start lines number (checked_from (names_of p) 0 (first_check p fuel start) lines) h refl r
found_only p fuel start lines (Err NoMemory) h r other = absurd (other refl)
