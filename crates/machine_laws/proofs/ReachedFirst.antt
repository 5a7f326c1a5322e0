-- The machine before its first entry is reached.
use Rattle.std.proofs.Common.{◌≡◌, ◌⊎◌, inl, inr, ℕ, zero, suc, ◌+◌, ◌<◌, ◌≤◌, pos, true, false, nat_le, nat_lt, List, [], ◌∷◌, ◌++◌}
use Rattle.std.proofs.Common.{map, length, replicate, slice_get, slice_index, Some, refl, sym, ap, ◌∙◌, subst, arith, zero-add}
use Rattle.std.specs.List.{AllByRecursion}
use Rattle.std.proofs.lemmas.Bool.{and_from, cases_lt}
use Rattle.std.proofs.lemmas.Bool.Decides.{nat_tests}
use Rattle.std.proofs.lemmas.Int.{ints}
use Rattle.std.proofs.lemmas.List.{length-map, length-replicate}
use Rattle.std.proofs.lemmas.Option.{none-some, same_Some, slice_get_within}
use Rattle.plain_monitor.specs.declared.entry.Value.TheVariants.{Nil, Int}
use Rattle.plain_monitor.specs.Monitor.{free_monitor}
use Rattle.plain_monitor.specs.Objects.{PlainObject, new_object, new_objects}
use Rattle.object_program.specs.declared.program.ClassDef.{ClassDef}
use Rattle.object_program.specs.declared.program.ObjectDef.{ObjectDef}
use Rattle.object_program.specs.declared.program.ThreadDef.{ThreadDef}
use Rattle.object_program.specs.Program.{ProgramText, declared_total, objects_total, made_slots, numbering_of, class_in_program}
use Rattle.object_program.specs.Program.{shape_from, shape_of, slots_of_class, slots_of, has_object, class_from}
use Rattle.object_program.specs.Valid.{IsProgram, AreObjects}
use Rattle.object_program.proofs.Made.{shape_total, declared_shape, made_shape}
use Rattle.plain_machine.specs.Thread.{ThreadState, holds_of}
use Rattle.plain_machine.specs.Running.{first_state}
use Rattle.plain_machine.specs.Machine.{new_machine}
use Rattle.plain_machine.specs.inner.Kept.{unrun}
use Rattle.plain_monitor.specs.Made.{made_by, nothing_made}
use Rattle.machine_laws.specs.References.{IsThere, RefersTo, ThreadRefersTo, SlotsReferTo}
use Rattle.machine_laws.proofs.RunReferences.{run_refers}
use Rattle.machine_laws.proofs.ReachedMade.{declared_there}
use Rattle.machine_laws.specs.ReachedMonitor.{StandsAt}
use Rattle.plain_machine.specs.Values.{IsValueOf}
use Rattle.machine_laws.specs.ReachedThread.{IsThreadOf}
use Rattle.machine_laws.specs.Reached.{AtEach, HasSlots, HasHash, HasMonitor, HasThreads, IsRow, IsReached}
use Rattle.plain_monitor.proofs.Lists.{all_at, all_weaker, all_replicate}
use Rattle.machine_laws.proofs.ReachedMonitor.{free_is}
use Rattle.machine_laws.proofs.ReachedRunning.{RunsAll, IsRunOf, first_run, program_runs}

-- a thread before its first call: no holds
abbrev IsFirst : ProgramText → ℕ → ThreadState → Type 0
IsFirst p fuel s = IsRunOf p (replicate (objects_total p) 0) fuel s

first_threads : (p : ProgramText) (fuel : ℕ) (ts : List ThreadDef) → IsProgram p
    → AllByRecursion (RunsAll p) ts → AllByRecursion (IsFirst p fuel) (map (λ t. first_state p t fuel) ts)
first_threads p fuel [] h all = tt
first_threads p fuel (d ∷ ts) h all = (first_run p d fuel h all.0, first_threads p fuel ts h all.1)

zero_at : (n o : ℕ) → slice_index (replicate n 0) o ≡ 0
zero_at zero o = refl
zero_at (suc n) zero = refl
zero_at (suc n) (suc o) = zero_at n o

-- an object of a new machine, by its shape
record IsNew (shape : List (ℕ × ℕ)) (o : ℕ) (x : PlainObject) : Type 0 where
  form : ℕ × ℕ
  at : slice_get shape o ≡ Some form
  is : new_object form.1 ≡ x

new_at : (shape : List (ℕ × ℕ)) (o : ℕ) (x : PlainObject) → slice_get (new_objects shape) o ≡ Some x → IsNew shape o x
new_at [] o x e = absurd (none-some x e)
new_at (q ∷ shape) zero x e = record { form = q; at = refl; is = same_Some (new_object q.1) x e }
new_at (q ∷ shape) (suc o) x e = let r = new_at shape o x e in record { form = r.form; at = r.at; is = r.is }

-- an element after n others
record IsAfter {X : Type 0} (n : ℕ) (ys : List X) (o : ℕ) (x : X) : Type 0 where
  place : ℕ
  is : o ≡ n + place
  at : slice_get ys place ≡ Some x

-- an element of a list that begins with n that are the same
replicated : {X : Type 0} (n : ℕ) (a : X) (ys : List X) (o : ℕ) (x : X) → slice_get (replicate n a ++ ys) o ≡ Some x → ((o < n) × (a ≡ x)) ⊎ IsAfter n ys o x
replicated zero a ys o x e = inr (record { place = o; is = omega arith; at = e })
replicated (suc n) a ys zero x e = inl (omega arith, same_Some a x e)
replicated (suc n) a ys (suc o) x e = elim (replicated n a ys o x e) [
  | inl h ↦ inl (let l = h.0 in omega (arith, l), h.1)
  | inr h ↦ inr (record { place = h.place; is = omega (arith, h.is); at = h.at })
]

-- whether the first declaration, whose objects start at k, has object k + o
has_first : (d : ObjectDef) (k o : ℕ) → d.first ≡ k → o < d.size → has_object d (k + o) ≡ true
has_first d k o first l = and_from (nat_le d.first (k + o)) (nat_lt (k + o) (d.first + d.size)) (grind (arith, nat_tests)) (grind (arith, nat_tests))

not_first : (d : ObjectDef) (k o : ℕ) → d.first ≡ k → d.size ≤ o → has_object d (k + o) ≡ false
not_first d k o first l = grind (arith, nat_tests)

-- the slots of object k + o, by the shape of those from k on
shape_slots : (classes : List ClassDef) (n k : ℕ) (ds : List ObjectDef) (o : ℕ) (q : ℕ × ℕ) → AreObjects n k ds → slice_get (shape_from classes ds) o ≡ Some q
    → q.1 ≡ slots_of_class classes (class_from ds (k + o))
shape_slots classes n k [] o q h e = absurd (none-some q e)
shape_slots classes n k (d ∷ ds) o q h e = elim (replicated d.size (d.class, slots_of_class classes d.class) (shape_from classes ds) o q e) [
  | inl g ↦ rw (has_first d k o h.0.1 g.0) (ap (λ (z : ℕ × ℕ). z.1) (sym g.1))
  | inr g ↦
      let later : q.1 ≡ slots_of_class classes (class_from ds (k + d.size + g.place)) = shape_slots classes n (k + d.size) ds g.place q h.1 g.at in
      let size : d.size ≤ o = omega (arith, g.is) in
      let same : k + d.size + g.place ≡ k + o = omega (arith, g.is) in
      rw (not_first d k o h.0.1 size) (later ∙ ap (λ (i : ℕ). slots_of_class classes (class_from ds i)) same)
]

-- the slots of an object by its shape: a declared one has those of its class, and each other one those of any that is made
form_slots : (p : ProgramText) (o : ℕ) (form : ℕ × ℕ) → IsProgram p → slice_get (shape_of p) o ≡ Some form → form.1 ≡ slots_of p o
form_slots p o form h at = elim (cases_lt o (declared_total p)) [
  | inl below ↦
      let here : slice_get (shape_from p.classes p.objects) o ≡ Some form = sym (declared_shape p o below) ∙ at in
      let declared : nat_lt o (declared_total p) ≡ true = grind (arith, nat_tests, below) in
      let by_class : form.1 ≡ slots_of_class p.classes (class_in_program p o) =
      shape_slots p.classes (length p.classes) 0 p.objects o form h.objects here
      ∙ ap (λ (i : ℕ). slots_of_class p.classes (class_in_program p i)) (zero-add o) in
      rw declared by_class
  | inr past ↦
      let within = slice_get_within (shape_of p) o form at in
      let made : Some (0, made_slots p) ≡ Some form = sym (made_shape p o past (omega (arith, within, shape_total p))) ∙ at in
      let other : nat_lt o (declared_total p) ≡ false = grind (arith, nat_tests, past) in
      rw other (ap (λ (z : ℕ × ℕ). z.1) (sym (same_Some (0, made_slots p) form made)))
]

-- the slots of a new object
new_slots : (p : ProgramText) → IsProgram p → AtEach (HasSlots p) (new_objects (shape_of p))
new_slots p h o x e =
    let r = new_at (shape_of p) o x e in
    let zero_value : IsValueOf (objects_total p) (Int (pos 0)) = (tt, (omega (arith, ints), omega (arith, ints))) in
    let count : r.form.1 ≡ slots_of p o = form_slots p o r.form h r.at in
    let fresh : HasSlots p o (new_object r.form.1) = record {
      count = length-replicate r.form.1 (Int (pos 0)) ∙ count;
      values = all_replicate (IsValueOf (objects_total p)) r.form.1 (Int (pos 0)) zero_value;
    } in
    subst (HasSlots p o) r.is fresh

new_hashes : (shape : List (ℕ × ℕ)) → AtEach HasHash (new_objects shape)
new_hashes shape o x e = subst (HasHash o) (new_at shape o x e).is tt

new_monitors : (n : ℕ) (shape : List (ℕ × ℕ)) → AtEach (HasMonitor n) (new_objects shape)
new_monitors n shape o x e = subst (HasMonitor n o) (new_at shape o x e).is (free_is n)

new_standing : (p : ProgramText) (fuel : ℕ) (threads : List ThreadState) (shape : List (ℕ × ℕ))
    → AllByRecursion (IsFirst p fuel) threads → AtEach (HasThreads threads) (new_objects shape)
new_standing p fuel threads shape all o x e = subst (HasThreads threads o) (new_at shape o x e).is beside
  where
    beside : AtEach (λ t s. StandsAt o t free_monitor s) threads
    beside t s at =
        let run = all_at (IsFirst p fuel) threads t s all at in
        let none : holds_of s o ≡ 0 = ap (λ (xs : List ℕ). slice_index xs o) run.holds_stay ∙ zero_at (objects_total p) o in
        record { holds = omega (arith, none); listed = omega (arith, run.runs o) }

-- what it refers to is declared, and it has made nothing
abbrev pub IsNewTo : (ℕ → Type 0) → ThreadState → Type 0
IsNewTo These s = ThreadRefersTo These s × (s.made ≡ 0)

module _ (These : ℕ → Type 0) (p : ProgramText) (declared : (o : ℕ) → o < declared_total p → These o) (fuel : ℕ) (valid : IsProgram p) where
  new_thread : (d : ThreadDef) → RunsAll p d → IsNewTo These (first_state p d fuel)
  new_thread d all =
      let nil = all_replicate (RefersTo These) (length d.locals) Nil tt in
      let r = run_refers These p declared valid d.code all fuel (unrun (length d.locals) (objects_total p) fuel) nil in
      let none : (o : ℕ) → holds_of (first_state p d fuel) o ≡ 0 = λ o. ap (λ (xs : List ℕ). slice_index xs o) r.same.holds ∙ zero_at (objects_total p) o in
      (record { locals = r.same.locals; holds = λ o held. absurd (omega (arith, none o, held)); mode = r.mode }, r.same.made)

  new_from : (ts : List ThreadDef) → AllByRecursion (RunsAll p) ts → AllByRecursion (IsNewTo These) (map (λ t. first_state p t fuel) ts)
  new_from [] all = tt
  new_from (d ∷ ts) all = (new_thread d all.0, new_from ts all.1)

  pub new_threads : AllByRecursion (IsNewTo These) (new_machine p fuel).threads
  new_threads = new_from p.threads (program_runs p valid)

none_made : (k t : ℕ) → made_by (replicate k []) t ≡ []
none_made zero t = refl
none_made (suc k) zero = refl
none_made (suc k) (suc t) = none_made k t

new_references : (p : ProgramText) (shape : List (ℕ × ℕ)) → AllByRecursion (SlotsReferTo (IsThere p (nothing_made (numbering_of p)))) (new_objects shape)
new_references p [] = tt
new_references p (q ∷ shape) = (all_replicate (RefersTo (IsThere p (nothing_made (numbering_of p)))) q.1 (Int (pos 0)) tt, new_references p shape)

pub first_is_reached : (p : ProgramText) (fuel : ℕ) → IsProgram p → IsReached (new_machine p fuel)
first_is_reached p fuel h =
    let threads = first_threads p fuel p.threads h (program_runs p h) in
    let There : ℕ → Type 0 = IsThere p (nothing_made (numbering_of p)) in
    let new = new_threads There p (declared_there p (nothing_made (numbering_of p))) fuel h in
    record {
      program = h;
      thread_count = length-map p.threads _;
      object_count = length-map (shape_of p) _ ∙ shape_total p;
      threads = all_weaker (IsFirst p fuel) (IsThreadOf p) (λ s r. r.thread) (new_machine p fuel).threads threads;
      slots = new_slots p h;
      hashes = new_hashes (shape_of p);
      monitors = new_monitors (length (new_machine p fuel).threads) (shape_of p);
      standing = new_standing p fuel (new_machine p fuel).threads (shape_of p) threads;
      row_count = length-replicate (length p.threads) [];
      rows = all_replicate (IsRow p) (length p.threads) [] (tt, omega arith);
      made = λ t s at. (all_at (IsNewTo There) (new_machine p fuel).threads t s new at).1 ∙ sym (ap length (none_made (length p.threads) t));
      references = all_weaker (IsNewTo There) (ThreadRefersTo There) (λ s r. r.0) (new_machine p fuel).threads new;
      slot_references = new_references p (shape_of p);
    }
