-- Lines that are checked one after the other, and the runs that they are.
use Rattle.std.proofs.Common.{◌≡◌, ℕ, ◌+◌, ◌⊎◌, Bool, true, false, List, [], ◌∷◌, ◌++◌, length, refl}
use Rattle.std.proofs.Common.{sym, ◌∙◌, ap, arith, inl, inr, add-zero, Option, Some, None, Ok, Err}
use Rattle.std.specs.Prelude.{option_and_then}
use Rattle.std.specs.List.{AllByRecursion}
use Rattle.std.proofs.lemmas.Bool.Decides.{nat_tests}
use Rattle.std.proofs.lemmas.Option.{same_Some}
use Rattle.plain_monitor.specs.declared.entry.Entry.{Entry}
use Rattle.plain_monitor.specs.declared.entry.Logged.{Logged}
use Rattle.object_program.specs.Program.{ProgramText}
use Rattle.object_program.specs.Valid.{IsProgram}
use Rattle.plain_machine.specs.Machine.{PlainMachine, take}
use Rattle.bias_check.specs.inner.HashState.{HashState}
use Rattle.bias_check.specs.declared.check.Check.{Check}
use Rattle.bias_check.specs.declared.entries.EntryRead.{EntryRead}
use Rattle.bias_check.specs.declared.entries.LineRead.{LineRead}
use Rattle.bias_check.specs.Lines.{Tells, IsReadable}
use Rattle.bias_check.specs.Steps.{IsAbove, IsStep, IsRun, last_of}
use Rattle.bias_check.specs.inner.Marks.{noted}
use Rattle.bias_check.specs.inner.Table.{names_of, read_line}
use Rattle.bias_check.specs.inner.Checking.{is_above, taken_by, taken, after, stepped, gone, next_check, checked_from}
use Rattle.bias_check.proofs.Options.{and_then, mapped}
use Rattle.bias_check.proofs.MarksAfter.{noted_all}
use Rattle.bias_check.proofs.Rivals.{rival_refused}
use Rattle.bias_check.proofs.TellsRead.{told_entry, ReadsLine, line_told, HasEntry, IsReadAs, line_read}

abbrev pub last_place : Option (ℕ × Logged) → Option (ℕ × ℕ)
last_place None = None
last_place (Some x) = Some (x.1.stamp, x.0)

-- a check under way
abbrev pub going : PlainMachine → HashState → Option (ℕ × Logged) → Check
going m h before = record { machine = m; hashes = h; last = last_place before; stopped = None }

-- one that has stopped
abbrev pub stopped_at : PlainMachine → HashState → Option (ℕ × Logged) → ℕ → Check
stopped_at m h before k = record { machine = m; hashes = h; last = last_place before; stopped = Some k }

-- the test is that of the order
above_is : (before : Option (ℕ × Logged)) (x : ℕ × Logged) → IsAbove before x → is_above (last_place before) x.1.stamp x.0 ≡ true
above_is None x h = grind (arith, nat_tests)
above_is (Some y) x h = h

above_read : (before : Option (ℕ × Logged)) (x : ℕ × Logged) → is_above (last_place before) x.1.stamp x.0 ≡ true → IsAbove before x
above_read None x h = grind (arith, nat_tests)
above_read (Some y) x h = h

-- what the machine takes of two readings
pub record Took (m : PlainMachine) (t : ℕ) (r : EntryRead) (e : Entry) (n : PlainMachine) : Type 0 where
  pub among : HasEntry r e
  pub take_is : take m t e ≡ Some n

second_took : (m n : PlainMachine) (t : ℕ) (r : EntryRead) (e : Entry) → option_and_then (λ e. taken_by m t e) r.other ≡ Some (e, n) → Took m t r e n
second_took m n t r e h =
    and_then _ r.other (e, n) h (λ f some g.
    mapped _ (take m t f) (e, n) g (λ k took same.
    let entry : f ≡ e = ap (λ (p : Entry × PlainMachine). p.0) same in
    let machine : k ≡ n = ap (λ (p : Entry × PlainMachine). p.1) same in
    record { among = inr (some ∙ ap Some entry); take_is = ap (take m t) (sym entry) ∙ took ∙ ap Some machine }))

took_by : (m n : PlainMachine) (t : ℕ) (r : EntryRead) (e : Entry) (first : Option PlainMachine)
    → take m t r.plain ≡ first → taken m t r ≡ Some (e, n) → Took m t r e n
took_by m n t r e None f h = second_took m n t r e (rw f at h)
took_by m n t r e (Some k) f h =
    let pair : Some (r.plain, k) ≡ Some (e, n) = rw f at h in
    let same = same_Some (r.plain, k) (e, n) pair in
    let entry : r.plain ≡ e = ap (λ (p : Entry × PlainMachine). p.0) same in
    let machine : k ≡ n = ap (λ (p : Entry × PlainMachine). p.1) same in
    record { among = inl entry; take_is = ap (take m t) (sym entry) ∙ f ∙ ap Some machine }

pub took_is : (m n : PlainMachine) (t : ℕ) (r : EntryRead) (e : Entry) → taken m t r ≡ Some (e, n) → Took m t r e n
took_is m n t r e h = took_by m n t r e (take m t r.plain) refl h

-- a reading that the machine takes is what is taken
pub taken_is : (p : ProgramText) (line : List ℕ) (m n : PlainMachine) (r : LineRead) (e : Entry)
    → ReadsLine p line r → HasEntry r.entry e → take m r.thread e ≡ Some n → taken m r.thread r.entry ≡ Some (e, n)
taken_is p line m n r e reads (inl same) h =
    let took : take m r.thread r.entry.plain ≡ Some n = ap (take m r.thread) same ∙ h in
    rw took (ap (λ (f : Entry). Some (f, n)) same)
taken_is p line m n r e reads (inr other) h =
    let refused : take m r.thread r.entry.plain ≡ None = rival_refused m n r.thread r.entry.plain e (reads.other e other).1 h in
    rw (refused, other, h) refl

-- what is read of a line is one
read_same : (p : ProgramText) (line : List ℕ) (r : LineRead) (x : ℕ × Logged) → read_line (names_of p) line ≡ Some r → (a : IsReadAs p line x) → a.read ≡ r
read_same p line r x h a = same_Some _ _ (sym a.is ∙ h)

-- a step is what is gone on by
pub record GoesBy (p : ProgramText) (before : Option (ℕ × Logged)) (m : PlainMachine) (r : LineRead) (x : ℕ × Logged) (n : PlainMachine) : Type 0 where
  pub stamp : r.stamp ≡ x.1.stamp
  pub thread : r.thread ≡ x.0
  pub above : is_above (last_place before) r.stamp r.thread ≡ true
  pub taken_at : taken m r.thread r.entry ≡ Some (x.1.entry, n)

pub step_goes : (p : ProgramText) (before : Option (ℕ × Logged)) (m : PlainMachine) (line : List ℕ) (x : ℕ × Logged) (n : PlainMachine) (r : LineRead)
    → IsProgram p → IsStep p before m line x n
    → read_line (names_of p) line ≡ Some r → GoesBy p before m r x n
step_goes p before m line x n r h s e =
    let a = line_read p line x h s.tells in
    let same = read_same p line r x e a in
    let stamp : r.stamp ≡ x.1.stamp = ap (λ (l : LineRead). l.stamp) (sym same) ∙ a.stamp in
    let thread : r.thread ≡ x.0 = ap (λ (l : LineRead). l.thread) (sym same) ∙ a.thread in
    let has : HasEntry r.entry x.1.entry = rw (← same) a.has in
    record {
      stamp = stamp;
      thread = thread;
      above = rw (stamp, thread) (above_is before x s.above);
      taken_at = taken_is p line m n r x.1.entry (line_told p line r h e) has (ap (λ (t : ℕ). take m t x.1.entry) thread ∙ s.taken);
    }

-- after a step the check goes on
pub gone_step : (p : ProgramText) (before : Option (ℕ × Logged)) (m : PlainMachine) (hashes : HashState)
    (r : LineRead) (x : ℕ × Logged) (n : PlainMachine) (k : ℕ) → GoesBy p before m r x n
    → gone k (going m hashes before) r ≡ going n (noted hashes x.0 x.1.entry) (Some x)
gone_step p before m hashes r x n k g = rw (g.above, g.taken_at, g.stamp, g.thread) refl

-- a run is gone through whole
pub run_checked : (p : ProgramText) (k : ℕ) (before : Option (ℕ × Logged)) (m n : PlainMachine) (hashes : HashState)
    (lines more : List (List ℕ)) (xs : List (ℕ × Logged)) → IsProgram p → IsRun p before m lines xs n
    → checked_from (names_of p) k (going m hashes before) (lines ++ more)
    ≡ checked_from (names_of p) (k + length lines) (going n (noted_all hashes xs) (last_of before xs)) more
run_checked p k before m n hashes [] more [] h run = rw (run, add-zero k) refl
run_checked p k before m n hashes [] more (x ∷ xs) h run = absurd run
run_checked p k before m n hashes (line ∷ lines) more [] h run = absurd run
run_checked p k before m n hashes (line ∷ lines) more (x ∷ xs) h run =
    let a = line_read p line x h run.1.tells in
    let g = step_goes p before m line x run.0 a.read h run.1 a.is in
    let ih = run_checked p (k + 1) (Some x) run.0 n (noted hashes x.0 x.1.entry) lines more xs h run.2 in
    let counted : k + 1 + length lines ≡ k + length (line ∷ lines) = omega arith in
    rw (a.is, gone_step p before m hashes a.read x run.0 (k + 1) g)
    (ih ∙ ap (λ j. checked_from (names_of p) j (going n (noted_all (noted hashes x.0 x.1.entry) xs) (last_of (Some x) xs)) more) counted)

-- each line that is read tells an entry
pub readable_is : (p : ProgramText) (line : List ℕ) (r : LineRead) → IsProgram p → read_line (names_of p) line ≡ Some r → IsReadable p line
readable_is p line r h e = record { told = told_entry r r.entry.plain; tells = (line_told p line r h e).plain }

all_readable_by : (p : ProgramText) (k : ℕ) (c d : Check) (line : List ℕ) (lines : List (List ℕ)) (r : Option LineRead)
    → IsProgram p → read_line (names_of p) line ≡ r
    → next_check (k + 1) r (λ read. checked_from (names_of p) (k + 1) (gone (k + 1) c read) lines) ≡ Ok d
    → ((e : Check) → checked_from (names_of p) (k + 1) e lines ≡ Ok d → AllByRecursion (IsReadable p) lines) → AllByRecursion (IsReadable p) (line ∷ lines)
all_readable_by p k c d line lines None h e f ih = absurd (cc f)
all_readable_by p k c d line lines (Some r) h e f ih = (readable_is p line r h e, ih (gone (k + 1) c r) f)

pub all_readable : (p : ProgramText) (k : ℕ) (c d : Check) (lines : List (List ℕ)) → IsProgram p
    → checked_from (names_of p) k c lines ≡ Ok d → AllByRecursion (IsReadable p) lines
all_readable p k c d [] h e = tt
all_readable p k c d (line ∷ lines) h e =
    all_readable_by p k c d line lines (read_line (names_of p) line) h refl e (λ b f. all_readable p (k + 1) b d lines h f)

-- the first line that is not read
pub record IsUnread (p : ProgramText) (n : ℕ) (lines : List (List ℕ)) (number : ℕ) : Type 0 where
  pub front : List (List ℕ)
  pub line : List ℕ
  pub rest : List (List ℕ)
  pub split : lines ≡ front ++ line ∷ rest
  pub place : number ≡ n + length front + 1
  pub readable : AllByRecursion (IsReadable p) front
  pub unreadable : (x : ℕ × Logged) → Tells p line x → ⊥

untold : (p : ProgramText) (line : List ℕ) (x : ℕ × Logged) → IsProgram p → read_line (names_of p) line ≡ None → Tells p line x → ⊥
untold p line x h e t = let a = line_read p line x h t in cc (sym e ∙ a.is)

unread_by : (p : ProgramText) (k number : ℕ) (c : Check) (line : List ℕ) (lines : List (List ℕ)) (r : Option LineRead)
    → IsProgram p → read_line (names_of p) line ≡ r
    → next_check (k + 1) r (λ read. checked_from (names_of p) (k + 1) (gone (k + 1) c read) lines) ≡ Err number
    → ((e : Check) → checked_from (names_of p) (k + 1) e lines ≡ Err number → IsUnread p (k + 1) lines number) → IsUnread p k (line ∷ lines) number
unread_by p k number c line lines None h e f ih =
    let same : k + 1 ≡ number = cc f in
    record { front = []; line = line; rest = lines; split = refl; place = omega (arith, same); readable = tt; unreadable = λ x t. untold p line x h e t }
unread_by p k number c line lines (Some r) h e f ih =
    let u = ih (gone (k + 1) c r) f in
    record {
      front = line ∷ u.front;
      line = u.line;
      rest = u.rest;
      split = ap (λ (ls : List (List ℕ)). line ∷ ls) u.split;
      place = omega (arith, u.place);
      readable = (readable_is p line r h e, u.readable);
      unreadable = u.unreadable;
    }

pub unread : (p : ProgramText) (k number : ℕ) (c : Check) (lines : List (List ℕ))
    → IsProgram p → checked_from (names_of p) k c lines ≡ Err number → IsUnread p k lines number
unread p k number c [] h e = absurd (cc e)
unread p k number c (line ∷ lines) h e =
    unread_by p k number c line lines (read_line (names_of p) line) h refl e (λ b f. unread p (k + 1) number b lines h f)

-- a check that has stopped stays as it is
stays_by : (p : ProgramText) (k j : ℕ) (c d : Check) (line : List ℕ) (lines : List (List ℕ)) (r : Option LineRead) → c.stopped ≡ Some j
    → next_check (k + 1) r (λ read. checked_from (names_of p) (k + 1) (gone (k + 1) c read) lines) ≡ Ok d
    → (checked_from (names_of p) (k + 1) c lines ≡ Ok d → d ≡ c) → d ≡ c
stays_by p k j c d line lines None s f ih = absurd (cc f)
stays_by p k j c d line lines (Some r) s f ih =
    let same : gone (k + 1) c r ≡ c = rw s refl in
    ih (ap (λ (b : Check). checked_from (names_of p) (k + 1) b lines) (sym same) ∙ f)

pub stays : (p : ProgramText) (k j : ℕ) (c d : Check) (lines : List (List ℕ)) → c.stopped ≡ Some j → checked_from (names_of p) k c lines ≡ Ok d → d ≡ c
stays p k j c d [] s e = cc e
stays p k j c d (line ∷ lines) s e =
    stays_by p k j c d line lines (read_line (names_of p) line) s e (λ f. stays p (k + 1) j c d lines s f)

-- all lines are a run
pub record LinesAreRun (p : ProgramText) (before : Option (ℕ × Logged)) (m : PlainMachine)
    (hashes : HashState) (lines : List (List ℕ)) (d : Check) : Type 0 where
  pub entries : List (ℕ × Logged)
  pub run : IsRun p before m lines entries d.machine
  pub hashes_are : d.hashes ≡ noted_all hashes entries
  pub unstopped : d.stopped ≡ None

-- some line is no step
pub record HasStop (p : ProgramText) (n : ℕ) (before : Option (ℕ × Logged)) (m : PlainMachine) (lines : List (List ℕ)) (d : Check) : Type 0 where
  pub front : List (List ℕ)
  pub line : List ℕ
  pub rest : List (List ℕ)
  pub split : lines ≡ front ++ line ∷ rest
  pub entries : List (ℕ × Logged)
  pub machine : PlainMachine
  pub run : IsRun p before m front entries machine
  pub no_step : (x : ℕ × Logged) (k : PlainMachine) → IsStep p (last_of before entries) machine line x k → ⊥
  pub stopped_is : d.stopped ≡ Some (n + length front + 1)

abbrev pub Ends : ProgramText → ℕ → Option (ℕ × Logged) → PlainMachine → HashState → List (List ℕ) → Check → Type 0
Ends p n before m hashes lines d = LinesAreRun p before m hashes lines d ⊎ HasStop p n before m lines d

-- the first line is no step
stops_here : (p : ProgramText) (k : ℕ) (before : Option (ℕ × Logged)) (m : PlainMachine)
    (hashes : HashState) (line : List ℕ) (lines : List (List ℕ)) (d : Check)
    → ((x : ℕ × Logged) (n : PlainMachine) → IsStep p before m line x n → ⊥)
    → checked_from (names_of p) (k + 1) (stopped_at m hashes before (k + 1)) lines ≡ Ok d → Ends p k before m hashes (line ∷ lines) d
stops_here p k before m hashes line lines d none e =
    let same = stays p (k + 1) (k + 1) (stopped_at m hashes before (k + 1)) d lines refl e in
    let counted : k + 1 ≡ k + 0 + 1 = omega arith in
    inr (record {
      front = [];
      line = line;
      rest = lines;
      split = refl;
      entries = [];
      machine = m;
      run = refl;
      no_step = none;
      stopped_is = ap (λ (c : Check). c.stopped) same ∙ ap Some counted;
    })

-- the first line is a step
goes_on : (p : ProgramText) (k : ℕ) (before : Option (ℕ × Logged)) (m : PlainMachine) (hashes : HashState)
    (line : List ℕ) (lines : List (List ℕ)) (d : Check) (x : ℕ × Logged) (n : PlainMachine)
    → IsStep p before m line x n → Ends p (k + 1) (Some x) n (noted hashes x.0 x.1.entry) lines d → Ends p k before m hashes (line ∷ lines) d
goes_on p k before m hashes line lines d x n s (inl r) =
    inl (record { entries = x ∷ r.entries; run = (n, s, r.run); hashes_are = r.hashes_are; unstopped = r.unstopped })
goes_on p k before m hashes line lines d x n s (inr r) =
    let counted : k + 1 + length r.front + 1 ≡ k + length (line ∷ r.front) + 1 = omega arith in
    inr (record {
      front = line ∷ r.front;
      line = r.line;
      rest = r.rest;
      split = ap (λ (ls : List (List ℕ)). line ∷ ls) r.split;
      entries = x ∷ r.entries;
      machine = r.machine;
      run = (n, s, r.run);
      no_step = r.no_step;
      stopped_is = r.stopped_is ∙ ap Some counted;
    })

-- every way that the rest can go
abbrev pub RestEnds : ProgramText → ℕ → List (List ℕ) → Check → Type 0
RestEnds p k lines d = (before : Option (ℕ × Logged)) (m : PlainMachine) (hashes : HashState)
    → checked_from (names_of p) k (going m hashes before) lines ≡ Ok d → Ends p k before m hashes lines d

ends_taken : (p : ProgramText) (k : ℕ) (before : Option (ℕ × Logged)) (m : PlainMachine) (hashes : HashState)
    (line : List ℕ) (lines : List (List ℕ)) (d : Check) (r : LineRead) (t : Option (Entry × PlainMachine))
    → IsProgram p → read_line (names_of p) line ≡ Some r → is_above (last_place before) r.stamp r.thread ≡ true → taken m r.thread r.entry ≡ t
    → checked_from (names_of p) (k + 1) (after (k + 1) (going m hashes before) r t) lines ≡ Ok d
    → RestEnds p (k + 1) lines d → Ends p k before m hashes (line ∷ lines) d
ends_taken p k before m hashes line lines d r None h e above t f ih =
    stops_here p k before m hashes line lines d (λ x n s. let g = step_goes p before m line x n r h s e in cc (sym t ∙ g.taken_at)) f
ends_taken p k before m hashes line lines d r (Some x) h e above t f ih =
    let took = took_is m x.1 r.thread r.entry x.0 t in
    let reads = line_told p line r h e in
    goes_on p k before m hashes line lines d (told_entry r x.0) x.1 (record {
      tells = tells_of p line r x.0 reads took.among;
      above = above_read before (told_entry r x.0) above;
      taken = took.take_is;
    }) (ih (Some (told_entry r x.0)) x.1 (noted hashes r.thread x.0) f)
  where
    tells_of : (p : ProgramText) (line : List ℕ) (r : LineRead) (e : Entry) → ReadsLine p line r → HasEntry r.entry e → Tells p line (told_entry r e)
    tells_of p line r e reads (inl same) = rw (← same) reads.plain
    tells_of p line r e reads (inr other) = (reads.other e other).0

ends_above : (p : ProgramText) (k : ℕ) (before : Option (ℕ × Logged)) (m : PlainMachine)
    (hashes : HashState) (line : List ℕ) (lines : List (List ℕ)) (d : Check) (r : LineRead) (b : Bool)
    → IsProgram p → read_line (names_of p) line ≡ Some r → is_above (last_place before) r.stamp r.thread ≡ b
    → checked_from (names_of p) (k + 1) (gone (k + 1) (going m hashes before) r) lines ≡ Ok d
    → RestEnds p (k + 1) lines d → Ends p k before m hashes (line ∷ lines) d
ends_above p k before m hashes line lines d r true h e above f ih =
    let same : gone (k + 1) (going m hashes before) r ≡ stepped (k + 1) (going m hashes before) r = rw above refl in
    ends_taken p k before m hashes line lines d r (taken m r.thread r.entry) h e above refl
    (ap (λ (c : Check). checked_from (names_of p) (k + 1) c lines) (sym same) ∙ f) ih
ends_above p k before m hashes line lines d r false h e above f ih =
    let same : gone (k + 1) (going m hashes before) r ≡ stopped_at m hashes before (k + 1) = rw above refl in
    stops_here p k before m hashes line lines d (λ x n s. let g = step_goes p before m line x n r h s e in cc (sym above ∙ g.above))
    (ap (λ (c : Check). checked_from (names_of p) (k + 1) c lines) (sym same) ∙ f)

ends_read : (p : ProgramText) (k : ℕ) (before : Option (ℕ × Logged)) (m : PlainMachine)
    (hashes : HashState) (line : List ℕ) (lines : List (List ℕ)) (d : Check) (r : Option LineRead)
    → IsProgram p → read_line (names_of p) line ≡ r
    → next_check (k + 1) r (λ read. checked_from (names_of p) (k + 1) (gone (k + 1) (going m hashes before) read) lines) ≡ Ok d
    → RestEnds p (k + 1) lines d → Ends p k before m hashes (line ∷ lines) d
ends_read p k before m hashes line lines d None h e f ih = absurd (cc f)
ends_read p k before m hashes line lines d (Some r) h e f ih =
    ends_above p k before m hashes line lines d r (is_above (last_place before) r.stamp r.thread) h e refl f ih

pub ends : (p : ProgramText) (k : ℕ) (lines : List (List ℕ)) (d : Check) → IsProgram p → RestEnds p k lines d
ends p k [] d h before m hashes e =
    let same : going m hashes before ≡ d = cc e in
    rw (← same) (inl (record { entries = []; run = refl; hashes_are = refl; unstopped = refl }))
ends p k (line ∷ lines) d h before m hashes e =
    ends_read p k before m hashes line lines d (read_line (names_of p) line) h refl e (ends p (k + 1) lines d h)
