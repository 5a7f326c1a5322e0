-- What the tests say with which the calls begin.
use Rattle.std.proofs.Common.{◌≡◌, ◌⊎◌, ℕ, ◌<◌, ◌≤◌, ◌==◌, ◌&&◌, ◌||◌, nat_lt, nat_le, eqb-true, not, is_none, is_some}
use Rattle.std.proofs.Common.{Bool, true, false, length, Option, Some, None, refl, sym, ap, inl, inr, arith}
use Rattle.std.proofs.lemmas.Bool.Decides.{nat_tests}
use Rattle.core_world.specs.declared.heap_call.Operation.{Operation}
use Rattle.core_world.specs.declared.heap_call.Operation.TheVariants as op
use Rattle.core_world.specs.declared.heap_call.Unfinished.{Unfinished}
use Rattle.core_world.specs.Trees.Calls.{may_act, may_operate, may_log_once, is_free_for}
use Rattle.core_world.specs.Threads.ThreadView.{ThreadView}
use Rattle.core_world.specs.Threads.References.{HasReference, has_reference, is_object, numbering, knows_by_log}
use Rattle.core_world.specs.Words.Shape.{Shape}
use Rattle.core_world.specs.Clauses.Lengths.{log_limit}
use Rattle.core_world.specs.Trees.Operations.{same_op, goes_on_with}
use Rattle.core_world.specs.Clauses.Safepoints.{IsUnfinished, ends}

pub both : (a b : Bool) → (a && b) ≡ true → (a ≡ true) × (b ≡ true)
both true b e = (refl, e)
both false b e = absurd (cc e)

pub not_true : (a : Bool) → not a ≡ true → a ≡ false
not_true true e = absurd (cc e)
not_true false e = refl

pub or_false : (a : Bool) → (a || false) ≡ true → a ≡ true
or_false true e = refl
or_false false e = absurd (cc e)

pub none_is : {A : Type 0} (a : Option A) → is_none a ≡ true → a ≡ None
none_is None e = refl
none_is (Some x) e = absurd (cc e)

pub unsome : {A : Type 0} (a : Option A) → is_some a ≡ false → a ≡ None
unsome None e = refl
unsome (Some x) e = absurd (cc e)

pub below : (a b : ℕ) → nat_lt a b ≡ true → a < b
below a b e = grind (arith, nat_tests, e)

pub at_most : (a b : ℕ) → nat_le a b ≡ true → a ≤ b
at_most a b e = grind (arith, nat_tests, e)

-- a thread that passes the test has a reference
pub refers : (s : Shape) (k : ThreadView) (o : ℕ) → has_reference s k o ≡ true → HasReference s k o
refers s k o e =
    let a = both (is_object s o) (knows_by_log (numbering s) k.log o) e in
    record { within = below o (length s.objects) a.0; known = a.1 }

pub some_named : (n : ℕ) → (n == 0) ≡ false → 1 ≤ n
some_named n e = grind (arith, nat_tests, e)

-- an operation: `going` says that it is the one that is unfinished
pub record Operates (k : ThreadView) (going : Bool) : Type 0 where
  pub unchecking : k.checking ≡ false
  pub runs : (k.running || (k.requesting && going)) ≡ true
  pub free : is_free_for k going ≡ true
  pub live : ends k.log ≡ false
  pub room : length k.log < log_limit

pub operates : (k : ThreadView) (going : Bool) → may_operate k going ≡ true → Operates k going
operates k going e =
    let a = both (not k.checking && (k.running || (k.requesting && going)) && is_free_for k going && not (ends k.log)) (nat_lt (length k.log) log_limit) e in
    let b = both (not k.checking && (k.running || (k.requesting && going)) && is_free_for k going) (not (ends k.log)) a.0 in
    let c = both (not k.checking && (k.running || (k.requesting && going))) (is_free_for k going) b.0 in
    let d = both (not k.checking) (k.running || (k.requesting && going)) c.0 in
    record { unchecking = not_true k.checking d.0; runs = d.1; free = c.1; live = not_true (ends k.log) b.1; room = below (length k.log) log_limit a.1 }

-- where its thread doesn't run, it is the one whose request stands; and where no request stands, its thread runs
pub asking_goes : (runs asks going : Bool) → (runs || (asks && going)) ≡ true → runs ≡ false → going ≡ true
asking_goes true asks going h stops = absurd (cc stops)
asking_goes false true going h stops = h
asking_goes false false going h stops = absurd (cc h)

pub free_runs : (runs asks going : Bool) → (runs || (asks && going)) ≡ true → asks ≡ false → runs ≡ true
free_runs true asks going h free = refl
free_runs false asks going h free = let no = ap (λ (z : Bool). z && going) free in absurd (cc (h, no))

-- a call that makes one entry at once
pub record Acts (k : ThreadView) : Type 0 where
  pub unchecking : k.checking ≡ false
  pub runs : k.running ≡ true
  pub nothing : k.unfinished ≡ None
  pub live : ends k.log ≡ false
  pub room : length k.log < log_limit

pub acts : (k : ThreadView) → may_act k ≡ true → Acts k
acts k e =
    let a = operates k false e in
    record {
      unchecking = a.unchecking;
      runs = first k.running k.requesting a.runs;
      nothing = none_is k.unfinished (or_false (is_none k.unfinished) a.free);
      live = a.live;
      room = a.room;
    }
  where
    first : (a b : Bool) → (a || (b && false)) ≡ true → a ≡ true
    first true b e = refl
    first false true e = absurd (cc e)
    first false false e = absurd (cc e)

-- a part that logs one entry
pub record LogsOnce (k : ThreadView) (going : Bool) : Type 0 where
  pub unchecking : k.checking ≡ false
  pub runs : k.running ≡ true
  pub free : is_free_for k going ≡ true
  pub live : ends k.log ≡ false
  pub room : length k.log < log_limit

pub logs_once : (k : ThreadView) (going : Bool) → may_log_once k going ≡ true → LogsOnce k going
logs_once k going e =
    let a = both (not k.checking && k.running && is_free_for k going && not (ends k.log)) (nat_lt (length k.log) log_limit) e in
    let b = both (not k.checking && k.running && is_free_for k going) (not (ends k.log)) a.0 in
    let c = both (not k.checking && k.running) (is_free_for k going) b.0 in
    let d = both (not k.checking) k.running c.0 in
    record { unchecking = not_true k.checking d.0; runs = d.1; free = c.1; live = not_true (ends k.log) b.1; room = below (length k.log) log_limit a.1 }

-- where nothing is unfinished, no operation is
pub nothing_goes : (k : ThreadView) → k.unfinished ≡ None → (o : ℕ) → IsUnfinished k.unfinished op.Wait o → ⊥
nothing_goes k e o h = absurd (cc (e, h))

pub nothing_enters : (k : ThreadView) → k.unfinished ≡ None → (o : ℕ) → IsUnfinished k.unfinished op.Enter o → ⊥
nothing_enters k e o h = absurd (cc (e, h))

-- THE OPERATION that is unfinished
same_op_is : (a b : Operation) → same_op a b ≡ true → a ≡ b
same_op_is op.Enter op.Enter e = refl
same_op_is op.Exit op.Exit e = refl
same_op_is op.Wait op.Wait e = refl
same_op_is op.Notify op.Notify e = refl
same_op_is op.NotifyAll op.NotifyAll e = refl
same_op_is op.Hash op.Hash e = refl
same_op_is op.Dump op.Dump e = refl
same_op_is op.Create op.Create e = refl
same_op_is _ _ e = absurd (cc e)

pub going_is : (a : Operation) (o : ℕ) (u : Option Unfinished) → goes_on_with a o u ≡ true → IsUnfinished u a o
going_is a o None e = absurd (cc e)
going_is a o (Some u) e =
    let m = both (same_op u.op a) (u.object == o) e in
    let is = same_op_is u.op a m.0 in
    let at = eqb-true u.object o m.1 in
    λ i. Some (record { op = is i; object = at i })

-- an operation begins, or is the one that goes on
pub goes_on_or_begins : (a : Operation) (o : ℕ) (u : Option Unfinished) → (is_none u || goes_on_with a o u) ≡ true
    → (◌≡◌ {A = Option Unfinished} (Some (record { op = a; object = o })) u) ⊎ (u ≡ None)
goes_on_or_begins a o None e = inr refl
goes_on_or_begins a o (Some u) e = inl (sym (going_is a o (Some u) e))

-- whether it is of this kind, which tells two kinds apart
abbrev pub is_of_kind : Operation → Option Unfinished → Bool
is_of_kind a None = false
is_of_kind a (Some u) = same_op u.op a
