-- What an instruction does to a thread, wherever it stands, whatever its fuel and its mode: it sets one local, passes or goes to a place, asks for
-- a call, faults, or ends the thread. Only here a proof goes over all instructions; what holds of each step is told of these six effects.
use Rattle.std.proofs.Common.{◌≡◌, ℕ, ℤ, pos, negsuc, ◌+ℤ◌, ◌-ℤ◌, ◌*ℤ◌, ◌+◌, ◌<◌, ◌≤◌, int_lt, nat_abs, Bool, true, false, nat_le, nat_lt}
use Rattle.std.proofs.Common.{if◌then◌else◌, slice_get, sum, Option, Some, None, refl, sym, subst, arith, ltb-true, leb-true}
use Rattle.std.proofs.lemmas.Int.{ints}
use Rattle.plain_monitor.specs.Limits.{most_holds, most_made}
use Rattle.plain_monitor.specs.declared.entry.Ending.TheVariants.{Done}
use Rattle.plain_monitor.specs.declared.entry.Value.{Value}
use Rattle.plain_monitor.specs.declared.entry.Value.TheVariants.{Int, Ref}
use Rattle.plain_monitor.specs.declared.entry.Fault.{Fault}
use Rattle.plain_monitor.specs.declared.entry.Fault.TheVariants as fault
use Rattle.plain_monitor.specs.Numbers.{IsInRange, is_in_range}
use Rattle.plain_monitor.specs.Objects.{same_value}
use Rattle.object_program.specs.declared.program.Code.{Code}
use Rattle.object_program.specs.declared.program.Code.TheVariants as code
use Rattle.object_program.specs.Program.{ProgramText, slots_of}
use Rattle.plain_machine.specs.declared.monitor_call.MonitorCall.{MonitorCall}
use Rattle.plain_machine.specs.declared.monitor_call.MonitorCall.TheVariants as call
use Rattle.plain_machine.specs.declared.monitor_call.Mode.{Mode}
use Rattle.plain_machine.specs.Thread.{ThreadState, Step, Goes, Calls, Stops, local, holds_of, past, at, sets, combines, faults, on_object}
use Rattle.plain_machine.specs.Thread.{owner_only, on_slot, first_of, is_element, size_of, element, jumps_where, jumps_below, step_of}

pub data Effect : Type 0 where
  Puts : ℕ → Value → Effect
  Passes : Effect
  Heads : ℕ → Effect
  Asks : MonitorCall → Effect
  Faults : Fault → Effect
  Over : Effect

-- what it makes of a thread
abbrev pub apply : ThreadState → Effect → Step
apply s (Puts x v) = sets s x v
apply s Passes = Goes (past s)
apply s (Heads l) = Goes (at s l)
apply s (Asks k) = Calls k
apply s (Faults f) = faults s f
apply s Over = Stops Done

-- the thread with this fuel, in this mode
abbrev pub in_mode : ℕ → Mode → ThreadState → ThreadState
in_mode fuel mode s = record s { fuel = fuel; mode = mode }

-- and at this place
abbrev pub moved : ℕ → ℕ → Mode → ThreadState → ThreadState
moved place fuel mode s = record s { place = place; fuel = fuel; mode = mode }

-- FACTS OF AN EFFECT
-- a value that stands in one of the thread's locals
abbrev pub IsLocal : ThreadState → Value → Type 0
IsLocal s v = (x : ℕ) × (local s x ≡ v)

-- an object of which the thread has a reference and a hold
abbrev pub IsOwned : ThreadState → ℕ → Type 0
IsOwned s o = IsLocal s (Ref o) × (1 ≤ holds_of s o)

-- a value that the instruction puts: the number or the object that it names, an element of the declaration, or what it computes of numbers
abbrev pub IsPutBy : ProgramText → Code → Value → Type 0
IsPutBy p (code.Set x z) v = Int z ≡ v
IsPutBy p (code.Ref x n) v = Ref (first_of (slice_get p.objects n)) ≡ v
IsPutBy p (code.Elem x n i) v =
    (k : ℕ) × (k < size_of (slice_get p.objects n)) × (Ref (first_of (slice_get p.objects n) + k) ≡ v)
IsPutBy p c v = (z : ℤ) × IsInRange z × (Int z ≡ v)

-- a call for which the thread asks
abbrev pub IsAsked : ProgramText → ThreadState → MonitorCall → Type 0
IsAsked p s (call.Enter o) = IsLocal s (Ref o) × (sum s.holds < most_holds)
IsAsked p s (call.Exit o) = IsOwned s o
IsAsked p s (call.Wait o) = IsOwned s o
IsAsked p s (call.Notify o) = IsOwned s o
IsAsked p s (call.NotifyAll o) = IsOwned s o
IsAsked p s (call.Get x o k) = IsOwned s o × (k < slots_of p o)
IsAsked p s (call.Put o k v) = IsOwned s o × (k < slots_of p o) × IsLocal s v
IsAsked p s (call.Hash x o) = IsLocal s (Ref o)
IsAsked p s (call.New x d) = s.made < most_made
IsAsked p s (call.Print v) = IsLocal s v
IsAsked p s (call.Dump k) = (k ≡ s.dumps + 1) × (k ≤ 4)

-- an instruction that asks for the call, by its operands
abbrev pub IsFrom : MonitorCall → Code → Type 0
IsFrom (call.Enter o) c = (y : ℕ) × (c ≡ code.Enter y)
IsFrom (call.Exit o) c = (y : ℕ) × (c ≡ code.Exit y)
IsFrom (call.Get x o k) c = (y : ℕ) × (c ≡ code.Get x y k)
IsFrom (call.Hash x o) c = (y : ℕ) × (c ≡ code.Hash x y)
IsFrom (call.New x d) c = c ≡ code.New x d
IsFrom k c = Unit {0}

-- the local that an instruction gives a value
abbrev pub target_of : Code → Option ℕ
target_of (code.Set x v) = Some x
target_of (code.Add x y z) = Some x
target_of (code.Sub x y z) = Some x
target_of (code.Mul x y z) = Some x
target_of (code.Ref x n) = Some x
target_of (code.Elem x n i) = Some x
target_of (code.Get x o k) = Some x
target_of (code.Hash x o) = Some x
target_of (code.New x c) = Some x
target_of c = None

abbrev pub is_jump : Code → Bool
is_jump (code.Jump l) = true
is_jump (code.Jlt x y l) = true
is_jump (code.Jeq x y l) = true
is_jump c = false

abbrev pub IsEffectOf : ProgramText → ThreadState → Code → Effect → Type 0
IsEffectOf p s c (Puts x v) = (target_of c ≡ Some x) × IsPutBy p c v
IsEffectOf p s c (Heads l) = is_jump c ≡ true
IsEffectOf p s c (Asks k) = IsFrom k c × IsAsked p s k
IsEffectOf p s c Over = c ≡ code.End
IsEffectOf p s c e = Unit {0}

-- these steps of the thread, by its place, its fuel and its mode, have one effect, which the instruction may have
pub record Has (p : ProgramText) (s : ThreadState) (c : Code) (steps : ℕ → ℕ → Mode → Step) : Type 0 where
  pub effect : Effect
  pub from : IsEffectOf p s c effect
  pub is : (place fuel : ℕ) (mode : Mode) → steps place fuel mode ≡ apply (moved place fuel mode s) effect

-- THE EFFECT OF EACH INSTRUCTION
in_range : (z : ℤ) → is_in_range z ≡ true → IsInRange z
in_range z h = grind (arith, ints)

-- the number of an element is below their count
element_size : (i : ℤ) (size : ℕ) → is_element i size ≡ true → nat_abs i < size
element_size (pos k) size h = grind (arith, ints)
element_size (negsuc k) size h = absurd (cc h)

module _ (p : ProgramText) (s : ThreadState) where
  either : {c : Code} (b : Bool) (f g : ℕ → ℕ → Mode → Step) → (b ≡ true → Has p s c f) → Has p s c g
      → Has p s c (λ k n m. if b then f k n m else g k n m)
  either true f g h e = h refl
  either false f g h e = e

  puts : {c : Code} (x : ℕ) (v : Value) → (target_of c ≡ Some x) × IsPutBy p c v → Has p s c (λ k n m. sets (moved k n m s) x v)
  puts x v h = record { effect = Puts x v; from = h; is = λ k n m. refl }

  asks : {c : Code} (q : MonitorCall) → IsFrom q c × IsAsked p s q → Has p s c (λ k n m. Calls q)
  asks q h = record { effect = Asks q; from = h; is = λ k n m. refl }

  fails : {c : Code} (f : Fault) → Has p s c (λ k n m. faults (moved k n m s) f)
  fails f = record { effect = Faults f; from = tt; is = λ k n m. refl }

  combined : {c : Code} (x : ℕ) (op : ℤ → ℤ → ℤ) (v w : Value) → ((z : ℤ) → IsInRange z → (target_of c ≡ Some x) × IsPutBy p c (Int z))
      → Has p s c (λ k n m. combines (moved k n m s) x op v w)
  combined x op (Int y) (Int z) h = either (is_in_range (op y z)) _ _ (λ e. puts x (Int (op y z)) (h (op y z) (in_range (op y z) e))) (fails fault.Overflow)
  combined x op v w h = fails fault.NotInt

  elements : (x n i : ℕ) (v : Value) → Has p s (code.Elem x n i) (λ k g m. element (moved k g m s) x (slice_get p.objects n) v)
  elements x n i (Int z) =
      either (is_element z (size_of (slice_get p.objects n))) _ _
      (λ e. puts x (Ref (first_of (slice_get p.objects n) + nat_abs z)) (refl, (nat_abs z, element_size z _ e, refl))) (fails fault.Range)
  elements x n i v = fails fault.NotInt

  on_it : {c : Code} (x : ℕ) (f : ℕ → ℕ → Mode → ℕ → Step) → ((o : ℕ) → IsLocal s (Ref o) → Has p s c (λ k n m. f k n m o))
      → Has p s c (λ k n m. on_object (moved k n m s) (local s x) (f k n m))
  on_it {c = c} x f h = go (local s x) refl
    where
      go : (v : Value) → local s x ≡ v → Has p s c (λ k n m. on_object (moved k n m s) v (f k n m))
      go (Ref o) e = h o (x, e)
      go v e = fails fault.NotRef

  owned : {c : Code} (o : ℕ) (f : Fault) (q : MonitorCall) → (1 ≤ holds_of s o → IsFrom q c × IsAsked p s q)
      → Has p s c (λ k n m. owner_only (moved k n m s) o f (Calls q))
  owned o f q h = either (nat_le 1 (holds_of s o)) _ _ (λ e. asks q (h (leb-true _ _ e))) (fails f)

  slotted : {c : Code} (o i : ℕ) (q : MonitorCall) → (1 ≤ holds_of s o → i < slots_of p o → IsFrom q c × IsAsked p s q)
      → Has p s c (λ k n m. on_slot p (moved k n m s) o i q)
  slotted o i q h = either (nat_lt i (slots_of p o)) _ _ (λ e. owned o fault.Unguarded q (λ held. h held (ltb-true _ _ e))) (fails fault.Range)

  jumps : {c : Code} (b : Bool) (l : ℕ) → is_jump c ≡ true → Has p s c (λ k n m. jumps_where b (moved k n m s) l)
  jumps true l h = record { effect = Heads l; from = h; is = λ k n m. refl }
  jumps false l h = record { effect = Passes; from = tt; is = λ k n m. refl }

  below : {c : Code} (v w : Value) (l : ℕ) → is_jump c ≡ true → Has p s c (λ k n m. jumps_below (moved k n m s) v w l)
  below (Int y) (Int z) l h = jumps (int_lt y z) l h
  below v w l h = fails fault.NotInt

  effect_of : (c : Code) → Has p s c (λ k n m. step_of p (moved k n m s) c)
  effect_of (code.Set x v) = puts x (Int v) (refl, refl)
  effect_of (code.Add x y z) = combined x (λ a b. a +ℤ b) (local s y) (local s z) (λ v r. (refl, (v, r, refl)))
  effect_of (code.Sub x y z) = combined x (λ a b. a -ℤ b) (local s y) (local s z) (λ v r. (refl, (v, r, refl)))
  effect_of (code.Mul x y z) = combined x (λ a b. a *ℤ b) (local s y) (local s z) (λ v r. (refl, (v, r, refl)))
  effect_of (code.Ref x n) = puts x (Ref (first_of (slice_get p.objects n))) (refl, refl)
  effect_of (code.Elem x n i) = elements x n i (local s i)
  effect_of (code.Enter x) =
      on_it x _ (λ o at. either (nat_lt (sum s.holds) most_holds) _ _ (λ e. asks (call.Enter o) ((x, refl), (at, ltb-true _ _ e))) (fails fault.TooDeep))
  effect_of (code.Exit x) = on_it x _ (λ o at. owned o fault.IllegalMonitorState (call.Exit o) (λ held. ((x, refl), (at, held))))
  effect_of (code.Wait x) = on_it x _ (λ o at. owned o fault.IllegalMonitorState (call.Wait o) (λ held. (tt, (at, held))))
  effect_of (code.Notify x) = on_it x _ (λ o at. owned o fault.IllegalMonitorState (call.Notify o) (λ held. (tt, (at, held))))
  effect_of (code.NotifyAll x) = on_it x _ (λ o at. owned o fault.IllegalMonitorState (call.NotifyAll o) (λ held. (tt, (at, held))))
  effect_of (code.Get x o k) = on_it o _ (λ r at. slotted r k (call.Get x r k) (λ held slot. ((o, refl), ((at, held), slot))))
  effect_of (code.Put o k x) = on_it o _ (λ r at. slotted r k (call.Put r k (local s x)) (λ held slot. (tt, ((at, held), slot, (x, refl)))))
  effect_of (code.Hash x o) = on_it o _ (λ r at. asks (call.Hash x r) ((o, refl), at))
  effect_of (code.New x c) = either (nat_lt s.made most_made) _ _ (λ e. asks (call.New x c) (refl, ltb-true _ _ e)) (fails fault.TooMany)
  effect_of (code.Print x) = asks (call.Print (local s x)) (tt, (x, refl))
  effect_of (code.Jump l) = jumps true l refl
  effect_of (code.Jlt x y l) = below (local s x) (local s y) l refl
  effect_of (code.Jeq x y l) = jumps (same_value (local s x) (local s y)) l refl
  effect_of code.Dump =
      either (nat_lt s.dumps 4) _ _ (λ e. let few = ltb-true _ _ e in asks (call.Dump (s.dumps + 1)) (tt, (refl, omega (arith, few)))) (fails fault.TooManyDumps)
  effect_of code.End = record { effect = Over; from = refl; is = λ k n m. refl }

  -- what holds of the step of each effect that the instruction may have holds of its own step
  pub by_effect : (P : Step → Type 0) (c : Code) → ((x : Effect) → IsEffectOf p s c x → P (apply s x)) → P (step_of p s c)
  by_effect P c h = let e = effect_of c in subst P (sym (e.is s.place s.fuel s.mode)) (h e.effect e.from)

  -- and the same of two steps, of the thread and of what it is at another place, with other fuel, in another mode
  pub by_effects : (R : Step → Step → Type 0) (place fuel : ℕ) (mode : Mode) (c : Code)
      → ((x : Effect) → IsEffectOf p s c x → R (apply s x) (apply (moved place fuel mode s) x))
      → R (step_of p s c) (step_of p (moved place fuel mode s) c)
  by_effects R place fuel mode c h =
      let e = effect_of c in
      subst (λ a. R a (step_of p (moved place fuel mode s) c)) (sym (e.is s.place s.fuel s.mode))
      (subst (R (apply s e.effect)) (sym (e.is place fuel mode)) (h e.effect e.from))
