-- What a call asks, where no reason is found why it can't begin.
use Rattle.std.proofs.Common.{◌≡◌, ℕ, ◌+◌, ◌≤◌, ◌<◌, ◌==◌, ◌&&◌, ◌||◌, not, cond, is_none, nat_lt, nat_le, Bool, true, false, List, []}
use Rattle.std.proofs.Common.{◌∷◌, length, Option, None, Some, refl, sym, ap, ◌∙◌, arith, lt-ltb, le-leb, ltb-true, leb-true}
use Rattle.std.specs.Prelude.{is_some, if◌then◌else◌, option_map}
use Rattle.std.proofs.lemmas.Bool.{eqb-true, and_parts, and_from}
use Rattle.std.specs.List.{list_all}
use Rattle.plain_monitor.specs.declared.entry.Ending.{Ending}
use Rattle.plain_monitor.specs.declared.entry.Value.{Value}
use Rattle.plain_monitor.specs.declared.entry.Value.TheVariants as value
use Rattle.core_world.specs.Clauses.Lengths.{log_limit}
use Rattle.core_world.specs.Clauses.Safepoints.{ends}
use Rattle.core_world.specs.Locks.{count_where}
use Rattle.core_world.specs.Threads.References.{has_reference, has_value}
use Rattle.core_world.specs.Threads.Stages.{one_if}
use Rattle.core_world.specs.Trees.Operations.{goes_on_with}
use Rattle.core_world.specs.Trees.Calls.{may_begin, may_operate, most_logged}
use Rattle.core_world.specs.Words.Forms.{says_ended, waits_on}
use Rattle.core_world.specs.Words.Shape.{slots_of}
use Rattle.core_world.specs.declared.heap_call.Operation.{Operation}
use Rattle.core_world.specs.declared.heap_call.Operation.TheVariants as op
use Rattle.core_world.specs.declared.heap_call.HeapCall.{HeapCall}
use Rattle.core_world.specs.declared.heap_call.HeapCall.TheVariants as task
use Rattle.core_world.specs.declared.heap_call.Unfinished.{Unfinished}
use Rattle.heap_table.specs.Kept.{all_holds}
use Rattle.heap_table.specs.Resting.{MayCall, MayOperate, Rests}
use Rattle.heap_table.specs.Seen.{HeapSeen, PassSeen}
use Rattle.heap_table.proofs.Resting.{at_rest}
use Rattle.lock_runtime.proofs.Declared.{declared_known}
use Rattle.lock_runtime_c.specs.LogRoom.{Fits, is_full}
use Rattle.lock_runtime_c.specs.Reasons.{first_reason, goes_on, if_so, of_check, of_holds, of_object, of_slot}
use Rattle.lock_runtime_c.specs.Reasons.{of_standing, of_stopped, of_value, or_else, other_operation}
use Rattle.lock_runtime_c.specs.Told.{barred}
use Rattle.lock_runtime_c.specs.declared.outcome.Misuse.{Misuse}
use Rattle.lock_runtime_c.specs.declared.outcome.Misuse.TheVariants as misuse
use Rattle.lock_runtime_c.specs.declared.outcome.Outcome.TheVariants.{Full, Misused}
use Rattle.lock_runtime_c.specs.inner.MayMake.{MayMake}

turned : (b c : Bool) → (b ≡ true → c ≡ true) → c ≡ false → b ≡ false
turned false c f e = refl
turned true c f e = let t = f refl in absurd (cc (t, e))

-- the log of a thread that rests has no ending entry, where its waiting word says none
pub not_ended : (h : HeapSeen) (p : PassSeen) → Rests h p → says_ended p.known.wait ≡ false → ends p.known.log ≡ false
not_ended h p rests said = turned (ends p.known.log) (says_ended p.known.wait) (λ e. ((at_rest h p rests).ended e).0) said

pub operates : (h : HeapSeen) (p : PassSeen) (going : Bool) → Rests h p
    → (not p.known.checking && (p.known.running || (p.known.requesting && going)) && (is_none p.known.unfinished || going)) ≡ true
    → says_ended p.known.wait ≡ false → nat_lt (length p.known.log) log_limit ≡ true → may_operate p.known going ≡ true
operates h p going rests stand said short = let open_still = not_ended h p rests said in λ i. stand i && not (open_still i) && short i

-- NO REASON is one by one none of them
neither : {A : Type 0} (a b : Option A) → or_else a b ≡ None → (a ≡ None) × (b ≡ None)
neither None b e = (refl, e)
neither (Some x) b e = absurd (cc e)

not_so : (b : Bool) (why : Misuse) → if_so b why ≡ None → b ≡ false
not_so false why e = refl
not_so true why e = absurd (cc e)

is_so : (b : Bool) (why : Misuse) → if_so (not b) why ≡ None → b ≡ true
is_so true why e = refl
is_so false why e = absurd (cc e)

not_misused : (r : Option Misuse) → option_map Misused r ≡ None → r ≡ None
not_misused None e = refl
not_misused (Some why) e = absurd (cc e)

not_full : (b : Bool) → (if b then Some Full else None) ≡ None → b ≡ false
not_full false e = refl
not_full true e = absurd (cc e)

-- the operation that is unfinished, if any, is the one that goes on
goes : (made : Option (Operation × ℕ)) (u : Unfinished) → (b : Bool) → goes_on made (Some u) ≡ b → other_operation made (Some u) ≡ None → b ≡ true
goes made u true is none = refl
goes made u false is none = absurd (cc (none, ap (λ (c : Bool). if c then None else Some (misuse.IsUnfinished u.op)) is))

stands : (checking running requesting : Bool) (left : Option Unfinished) (made : Option (Operation × ℕ)) → checking ≡ false → other_operation made left ≡ None
    → (running || (requesting && is_some left)) ≡ true
    → (not checking && (running || (requesting && goes_on made left)) && (is_none left || goes_on made left)) ≡ true
stands checking running requesting None made none other runs = λ i. not (none i) && no_going made i && true
  where
    no_going : (made : Option (Operation × ℕ)) → (running || (requesting && goes_on made None)) ≡ true
    no_going None = runs
    no_going (Some m) = runs
stands checking running requesting (Some u) made none other runs =
    let g = goes made u (goes_on made (Some u)) refl other in
    let r = ap (λ b. running || (requesting && b)) g ∙ runs in
    λ i. not (none i) && r i && g i

operation_may : (h : HeapSeen) (p : PassSeen) (made : Option (Operation × ℕ)) → Rests h p → of_standing p.known made ≡ None → length p.known.log < log_limit
    → may_operate p.known (goes_on made p.known.unfinished) ≡ true
operation_may h p made rests none short =
    let (ended, open_still) = neither _ _ none in
    let (checks, goes_still) = neither _ _ open_still in
    let (other, runs) = neither _ _ goes_still in
    operates h p (goes_on made p.known.unfinished) rests
    (stands p.known.checking p.known.running p.known.requesting p.known.unfinished made (not_so _ _ checks) other (is_so _ _ runs))
    (not_so _ _ ended) (lt-ltb _ _ short)

-- THE ROOM of a log that isn't full
pub fits : (p : PassSeen) (n : ℕ) → not (nat_le (length p.known.log + n) p.limit && nat_le (length p.known.log + n) log_limit) ≡ false → Fits p n
fits p n e =
    let both = and_parts (nat_le (length p.known.log + n) p.limit) (nat_le (length p.known.log + n) log_limit) (unturned _ e) in
    record { page = leb-true _ _ both.0; stamps = leb-true _ _ both.1 }
  where
    unturned : (b : Bool) → not b ≡ false → b ≡ true
    unturned true e = refl
    unturned false e = absurd (cc e)

-- THE OPERANDS
module _ (h : HeapSeen) (p : PassSeen) (rests : Rests h p) where
  known : (o : ℕ) → of_object h.heap.shape o ≡ None → has_reference h.heap.shape p.known o ≡ true
  known o none = declared_known h p o rests (ltb-true o h.heap.shape.declared (is_so _ _ none))

  slot_there : (o slot : ℕ) → of_slot h.heap.shape o slot ≡ None
      → (has_reference h.heap.shape p.known o ≡ true) × (nat_lt slot (slots_of h.heap.shape o) ≡ true)
  slot_there o slot none = let (object, there) = neither _ _ none in (known o object, is_so _ _ there)

  value_known : (v : Value) → of_value h.heap.shape v ≡ None → has_value h.heap.shape p.known v ≡ true
  value_known value.Nil none = refl
  value_known (value.Int i) none = is_so _ _ none
  value_known (value.Ref o) none = declared_known h p o rests (ltb-true o h.heap.shape.declared (is_so _ _ none))

  call : (t : HeapCall) → may_begin h.heap.shape h.heap.biasing p.known t ≡ true → MayCall h p t
  call t may = record { rests = rests; may = may }

  operate : (t : HeapCall) → may_begin h.heap.shape h.heap.biasing p.known t ≡ true → length p.known.log + most_logged p.known t ≤ p.limit → MayOperate h p t
  operate t may room = record { call = call t may; room = room }

-- a thread without holds has none at any place
no_holds : (i : ℕ) (hs : List ℕ) → count_where (λ p h. not (h == 0)) i hs ≡ 0 → list_all (λ h. h == 0) hs ≡ true
no_holds i [] e = refl
no_holds i (h ∷ hs) e =
    let whole : one_if (not (h == 0)) + count_where (λ p h. not (h == 0)) (i + 1) hs ≡ 0 = e in
    one (h == 0) refl (no_holds (i + 1) hs (omega (arith, whole)))
  where
    one : (b : Bool) → (h == 0) ≡ b → list_all (λ h. h == 0) hs ≡ true → list_all (λ h. h == 0) (h ∷ hs) ≡ true
    one true is rest = λ j. is j && rest j
    one false is rest =
        let whole : one_if (not (h == 0)) + count_where (λ p h. not (h == 0)) (i + 1) hs ≡ 0 = e in
        let held : one_if (not (h == 0)) ≡ 1 = ap (λ b. one_if (not b)) is in absurd (omega (arith, whole, held))

pub none_held : (hs : List ℕ) (n : ℕ) → n ≡ all_holds hs → (n == 0) ≡ true → list_all (λ h. h == 0) hs ≡ true
none_held hs n all zero_too = no_holds 0 hs (sym all ∙ eqb-true n 0 zero_too)

checks : (h : HeapSeen) (p : PassSeen) (stand : Bool) → Rests h p → says_ended p.known.wait ≡ false → stand ≡ true → (not (ends p.known.log) && stand) ≡ true
checks h p stand rests said is = let open_still = not_ended h p rests said in λ i. not (open_still i) && is i

less : (b : Bool) → cond b 1 2 ≤ cond b 1 3
less true = omega arith
less false = omega arith

-- SO IT MAY BEGIN
module _ (h : HeapSeen) (p : PassSeen) (rests : Rests h p) where
  acts : (made : Option (Operation × ℕ)) (n : ℕ) → of_standing p.known made ≡ None → Fits p n → 1 ≤ n
      → may_operate p.known (goes_on made p.known.unfinished) ≡ true
  acts made n none room some = operation_may h p made rests none (let r = room.stamps in omega (arith, r, some))

  on_object : (x : Operation) (o n : ℕ) → or_else (of_standing p.known (Some (x, o))) (of_object h.heap.shape o) ≡ None → Fits p n → 1 ≤ n
      → (has_reference h.heap.shape p.known o && may_operate p.known (goes_on_with x o p.known.unfinished)) ≡ true
  on_object x o n none room some =
      let (stand, object) = neither _ _ none in and_from _ _ (known h p rests o object) (acts (Some (x, o)) n stand room some)

  waits : (o now n : ℕ) → or_else (of_standing p.known (Some (op.Wait, o))) (of_object h.heap.shape o) ≡ None → Fits p n → 1 ≤ n
      → most_logged p.known (task.Wait o now) ≤ n → may_begin h.heap.shape h.heap.biasing p.known (task.Wait o now) ≡ true
  waits o now n none room some most =
      let (stand, object) = neither _ _ none in
      let r = room.stamps in
      and_from _ _ (and_from _ _ (known h p rests o object) (acts (Some (op.Wait, o)) n stand room some))
      (le-leb (length p.known.log + most_logged p.known (task.Wait o now)) log_limit (omega (arith, r, most)))

  may_get : (o slot n : ℕ) → or_else (of_standing p.known None) (of_slot h.heap.shape o slot) ≡ None → Fits p n → 1 ≤ n
      → may_begin h.heap.shape h.heap.biasing p.known (task.Get o slot) ≡ true
  may_get o slot n none room some =
      let (stand, there) = neither _ _ none in
      let (object, slot_is) = slot_there h p rests o slot there in
      and_from _ _ (and_from _ _ object slot_is) (acts None n stand room some)

  may_put : (o slot : ℕ) (v : Value) (n : ℕ) → or_else (of_standing p.known None) (or_else (of_slot h.heap.shape o slot) (of_value h.heap.shape v)) ≡ None
      → Fits p n → 1 ≤ n → may_begin h.heap.shape h.heap.biasing p.known (task.Put o slot v) ≡ true
  may_put o slot v n none room some =
      let (stand, operands) = neither _ _ none in
      let (there, is_one) = neither _ _ operands in
      let (object, slot_is) = slot_there h p rests o slot there in
      and_from _ _ (and_from _ _ (and_from _ _ object slot_is) (value_known h p rests v is_one)) (acts None n stand room some)

  may_print : (v : Value) (n : ℕ) → or_else (of_standing p.known None) (of_value h.heap.shape v) ≡ None → Fits p n → 1 ≤ n
      → may_begin h.heap.shape h.heap.biasing p.known (task.Print v) ≡ true
  may_print v n none room some =
      let (stand, is_one) = neither _ _ none in and_from _ _ (value_known h p rests v is_one) (acts None n stand room some)

  may_finish : (e : Ending) (n : ℕ) → or_else (of_standing p.known None) (of_holds p.known) ≡ None → Fits p n → 1 ≤ n
      → may_begin h.heap.shape h.heap.biasing p.known (task.Finish e) ≡ true
  may_finish e n none room some =
      let (stand, holds) = neither _ _ none in
      and_from _ _ (none_held p.known.holds (all_holds p.known.holds) refl (is_so _ _ holds)) (acts None n stand room some)

  may_check : of_check p.known ≡ None → may_begin h.heap.shape h.heap.biasing p.known task.Check ≡ true
  may_check none = let (ended, asks) = neither _ _ none in checks h p _ rests (not_so _ _ ended) (is_so _ _ asks)

  may_resume : of_stopped p.known ≡ None → (not p.known.running && not p.known.requesting) ≡ true
  may_resume none =
      let (asks, runs) = neither _ _ none in
      let a = not_so _ _ asks in
      let r = not_so _ _ runs in λ i. not (r i) && not (a i)

  pub may_make : (t : HeapCall) → first_reason h.heap.shape p.known t ≡ None → is_full p t ≡ false → MayMake h p t
  may_make (task.Enter o now) none full =
      let r = fits p _ full in let g = r.page in
      operate h p rests (task.Enter o now) (on_object op.Enter o _ none r (omega arith)) (omega (arith, g))
  may_make (task.Exit o) none full =
      let r = fits p _ full in let g = r.page in
      operate h p rests (task.Exit o) (on_object op.Exit o _ none r (omega arith)) (omega (arith, g))
  may_make (task.Wait o now) none full =
      let r = fits p _ full in let g = r.page in
      let l = less (waits_on p.known.wait o) in
      let some = one (waits_on p.known.wait o) in
      operate h p rests (task.Wait o now) (waits o now _ none r (omega (arith, some)) (omega (arith, l))) (omega (arith, g, l))
    where
      one : (b : Bool) → 1 ≤ cond b 1 3
      one true = omega arith
      one false = omega arith
  may_make (task.Notify o now) none full =
      let r = fits p _ full in let g = r.page in
      operate h p rests (task.Notify o now) (on_object op.Notify o _ none r (omega arith)) (omega (arith, g))
  may_make (task.NotifyAll o now) none full =
      let r = fits p _ full in let g = r.page in
      operate h p rests (task.NotifyAll o now) (on_object op.NotifyAll o _ none r (omega arith)) (omega (arith, g))
  may_make (task.Hash o now) none full =
      let r = fits p _ full in let g = r.page in
      operate h p rests (task.Hash o now) (on_object op.Hash o _ none r (omega arith)) (omega (arith, g))
  may_make (task.Get o slot) none full =
      let r = fits p _ full in let g = r.page in
      operate h p rests (task.Get o slot) (may_get o slot _ none r (omega arith)) (omega (arith, g))
  may_make (task.Put o slot v) none full =
      let r = fits p _ full in let g = r.page in
      operate h p rests (task.Put o slot v) (may_put o slot v _ none r (omega arith)) (omega (arith, g))
  may_make (task.Print v) none full =
      let r = fits p _ full in let g = r.page in
      operate h p rests (task.Print v) (may_print v _ none r (omega arith)) (omega (arith, g))
  may_make task.Dump none full =
      let r = fits p _ full in let g = r.page in
      operate h p rests task.Dump (acts (Some (op.Dump, 0)) _ (neither _ _ none).0 r (omega arith)) (omega (arith, g))
  may_make (task.Finish e) none full =
      let r = fits p _ full in let g = r.page in
      operate h p rests (task.Finish e) (may_finish e _ none r (omega arith)) (omega (arith, g))
  may_make task.Poll none full = call h p rests task.Poll (is_so _ _ none)
  may_make task.Stop none full = call h p rests task.Stop (is_so _ _ none)
  may_make task.Resume none full = call h p rests task.Resume (may_resume none)
  may_make task.Check none full = call h p rests task.Check (may_check none)
  may_make (task.Create c) none full = absurd (cc none)
  may_make (task.StackEnter o mark) none full = absurd (cc none)
  may_make (task.StackExit o) none full = absurd (cc none)
  may_make task.Request none full = absurd (cc none)
  may_make task.Reached none full = absurd (cc none)
  may_make task.Release none full = absurd (cc none)

-- WHAT CAN'T be barred has no reason, and room
pub not_barred : (h : HeapSeen) (p : PassSeen) (t : HeapCall) → barred h p t ≡ None → (first_reason h.heap.shape p.known t ≡ None) × (is_full p t ≡ false)
not_barred h p t none = let (reason, full) = neither _ _ none in (not_misused _ reason, not_full _ full)
