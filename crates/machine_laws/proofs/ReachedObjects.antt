-- What an entry that a reached machine takes makes of the object that it names.
use Rattle.std.proofs.Common.{◌≡◌, ℕ, ◌<◌, ◌^◌, pos, true, ◌&&◌, ◌==◌, nat_le, nat_lt, length, slice_get, slice_set, Option}
use Rattle.std.proofs.Common.{Some, None, MatchOption, refl, ap, ◌∙◌, subst, arith, eqb-true, length-set, leb-true, ltb-true}
use Rattle.std.proofs.lemmas.Bool.{false≢true, and_parts}
use Rattle.std.proofs.lemmas.Bool.Decides.{Decides-int_eq}
use Rattle.std.proofs.lemmas.Int.{ints}
use Rattle.std.proofs.lemmas.Option.{none-some, same_Some, cond_some}
use Rattle.plain_monitor.specs.declared.entry.Value.{Value}
use Rattle.plain_monitor.specs.declared.entry.Value.TheVariants.{Nil, Int, Ref}
use Rattle.plain_monitor.specs.declared.entry.Entry.TheVariants.{Enter, Exit, Get, Put, Wait, Resume, Notify, NotifyAll, Hash}
use Rattle.plain_monitor.specs.Numbers.{IsInRange}
use Rattle.plain_monitor.specs.Monitor.{PlainMonitor, owns, enter, exit, wait, resume, notify, notify_all}
use Rattle.plain_monitor.specs.Objects.{PlainObject, same_value, has_value, hashed, with_monitor, with_hash, take_at}
use Rattle.object_program.specs.Program.{objects_total}
use Rattle.plain_machine.specs.Machine.{PlainMachine}
use Rattle.machine_laws.specs.ReachedMonitor.{IsMonitorOf}
use Rattle.plain_machine.specs.Values.{IsValueOf}
use Rattle.machine_laws.specs.Reached.{HasSlots, IsHash, IsReached}
use Rattle.plain_monitor.proofs.Lists.{all_at, all_set}
use Rattle.machine_laws.proofs.ReachedMonitor.{Shift, stays, one_more, one_less, is_put_in, is_taken_out, IsMonitorStep}
use Rattle.machine_laws.proofs.ReachedMonitor.{rests, entered, exited, waited, has_resumed, notified, all_notified}
use Rattle.machine_laws.proofs.ReachedFrame.{IsObjectStep}

-- values that are told the same are the same
pub same_is : (v w : Value) → same_value v w ≡ true → v ≡ w
same_is Nil Nil h = refl
same_is (Int a) (Int b) h = ap Int ((Decides-int_eq a b).0 h)
same_is (Ref a) (Ref b) h = ap Ref (eqb-true a b h)
same_is v w h = absurd (false≢true h)

-- an object whose monitor alone took a step
monitor_step : (m : PlainMachine) (t o : ℕ) (change : Shift) (x y : PlainObject) (r : Option PlainMonitor) → IsReached m → slice_get m.objects o ≡ Some x
    → ((next : PlainMonitor) → r ≡ Some next → IsMonitorStep (length m.threads) t change x.monitor next)
    → with_monitor x r ≡ Some y → IsObjectStep m t o change x y
monitor_step m t o change x y None h there step e = absurd (none-some y e)
monitor_step m t o change x y (Some next) h there step e =
    let slots = h.slots o x there in
    subst (IsObjectStep m t o change x) (same_Some (record x { monitor = next }) y e)
    (record { there = there; slots = record { count = slots.count; values = slots.values }; hash = h.hashes o x there; monitor = step next refl })

-- the monitor of an object
monitor_at : (m : PlainMachine) (o : ℕ) (x : PlainObject) → IsReached m → slice_get m.objects o ≡ Some x → IsMonitorOf (length m.threads) x.monitor
monitor_at m o x h there = h.monitors o x there

-- an object that took an enter, and the other steps of its monitor
pub enter_step : (m : PlainMachine) (t o p : ℕ) (path : _) (x y : PlainObject) → IsReached m → t < length m.threads → slice_get m.objects o ≡ Some x
    → take_at x t (Enter p path) ≡ Some y → IsObjectStep m t o one_more x y
enter_step m t o p path x y h l there e =
    monitor_step m t o one_more x y (enter x.monitor t) h there (λ next s. entered (length m.threads) t x.monitor next l (monitor_at m o x h there) s) e

pub exit_step : (m : PlainMachine) (t o p : ℕ) (x y : PlainObject) → IsReached m
    → slice_get m.objects o ≡ Some x → take_at x t (Exit p) ≡ Some y → IsObjectStep m t o one_less x y
exit_step m t o p x y h there e =
    monitor_step m t o one_less x y (exit x.monitor t) h there (λ next s. exited (length m.threads) t x.monitor next (monitor_at m o x h there) s) e

pub wait_step : (m : PlainMachine) (t o p : ℕ) (x y : PlainObject) → IsReached m
    → slice_get m.objects o ≡ Some x → take_at x t (Wait p) ≡ Some y → IsObjectStep m t o is_put_in x y
wait_step m t o p x y h there e =
    monitor_step m t o is_put_in x y (wait x.monitor t) h there (λ next s. waited (length m.threads) t x.monitor next (monitor_at m o x h there) s) e

pub resume_step : (m : PlainMachine) (t o p : ℕ) (x y : PlainObject) → IsReached m
    → slice_get m.objects o ≡ Some x → take_at x t (Resume p) ≡ Some y → IsObjectStep m t o is_taken_out x y
resume_step m t o p x y h there e = monitor_step m t o is_taken_out x y (resume x.monitor t) h there
    (λ next s. has_resumed (length m.threads) t x.monitor next (monitor_at m o x h there) s) e

pub notify_step : (m : PlainMachine) (t o p : ℕ) (woken : Option ℕ) (x y : PlainObject) → IsReached m
    → slice_get m.objects o ≡ Some x → take_at x t (Notify p woken) ≡ Some y → IsObjectStep m t o stays x y
notify_step m t o p woken x y h there e = monitor_step m t o stays x y (notify x.monitor t woken) h there
    (λ next s. notified (length m.threads) t woken x.monitor next (monitor_at m o x h there) s) e

pub notify_all_step : (m : PlainMachine) (t o p many : ℕ) (x y : PlainObject) → IsReached m
    → slice_get m.objects o ≡ Some x → take_at x t (NotifyAll p many) ≡ Some y → IsObjectStep m t o stays x y
notify_all_step m t o p many x y h there e = monitor_step m t o stays x y (notify_all x.monitor t many) h there
    (λ next s. all_notified (length m.threads) t many x.monitor next (monitor_at m o x h there) s) e

-- an object whose monitor rests
resting : (m : PlainMachine) (t o : ℕ) (x : PlainObject) → IsReached m
    → slice_get m.objects o ≡ Some x → IsMonitorStep (length m.threads) t stays x.monitor x.monitor
resting m t o x h there = rests (length m.threads) t x.monitor x.monitor (monitor_at m o x h there) (λ u. record { standing = refl; listed = refl })

-- a value that a slot has
pub has_of : (P : Value → Type 0) (r : Option Value) (v : Value) → ((w : Value) → r ≡ Some w → P w) → has_value r v ≡ true → P v
has_of P None v h e = absurd (false≢true e)
has_of P (Some w) v h e = subst P (same_is w v e) (h w refl)

-- an object that took a get, and the value that was read
pub record IsRead (m : PlainMachine) (t o : ℕ) (v : Value) (x y : PlainObject) : Type 0 where
  pub step : IsObjectStep m t o stays x y
  pub value : IsValueOf (objects_total m.program) v

pub get_step : (m : PlainMachine) (t o p k : ℕ) (v : Value) (x y : PlainObject) → IsReached m
    → slice_get m.objects o ≡ Some x → take_at x t (Get p k v) ≡ Some y → IsRead m t o v x y
get_step m t o p k v x y h there e =
    let r = cond_some (owns x.monitor t && has_value (slice_get x.slots k) v) x y e in
    let has = (and_parts (owns x.monitor t) (has_value (slice_get x.slots k) v) r.0).1 in
    let slots = h.slots o x there in
    record {
      step = subst (IsObjectStep m t o stays x) r.1 (record { there = there; slots = slots; hash = h.hashes o x there; monitor = resting m t o x h there });
      value = has_of (IsValueOf (objects_total m.program)) (slice_get x.slots k) v
          (λ w at. all_at (IsValueOf (objects_total m.program)) x.slots k w slots.values at) has;
    }

-- an object that took a put
pub put_step : (m : PlainMachine) (t o p k : ℕ) (v : Value) (x y : PlainObject)
    → IsReached m → slice_get m.objects o ≡ Some x → IsValueOf (objects_total m.program) v
    → take_at x t (Put p k v) ≡ Some y → IsObjectStep m t o stays x y
put_step m t o p k v x y h there is e =
    let r = cond_some (owns x.monitor t && nat_lt k (length x.slots)) (record x { slots = slice_set x.slots k v }) y e in
    let slots = h.slots o x there in
    let after : HasSlots m.program o (record x { slots = slice_set x.slots k v }) = record {
      count = length-set x.slots k v ∙ slots.count;
      values = all_set (IsValueOf (objects_total m.program)) x.slots k v is slots.values;
    } in
    let rest = resting m t o x h there in
    subst (IsObjectStep m t o stays x) r.1 (record { there = there; slots = after; hash = h.hashes o x there; monitor = rest })

-- a hash that an object takes: it is one, and so is what the object has then
pub record IsHashed (after : Option ℕ) (value : ℕ) : Type 0 where
  pub value_is : IsHash value
  pub after_is : MatchOption after (Unit {0}) IsHash

pub hash_taken : (before after : Option ℕ) (value : ℕ) → MatchOption before (Unit {0}) IsHash → hashed before value ≡ Some after → IsHashed after value
hash_taken None after value h e =
    let r = cond_some (nat_le 1 value && nat_lt value (2 ^ 31)) (Some value) after e in
    let b = and_parts (nat_le 1 value) (nat_lt value (2 ^ 31)) r.0 in
    let is : IsHash value = (leb-true _ _ b.0, ltb-true _ _ b.1) in
    record { value_is = is; after_is = subst (λ (a : Option ℕ). MatchOption a (Unit {0}) IsHash) r.1 is }
hash_taken (Some w) after value h e =
    let r = cond_some (w == value) (Some w) after e in
    record { value_is = subst IsHash (eqb-true w value r.0) h; after_is = subst (λ (a : Option ℕ). MatchOption a (Unit {0}) IsHash) r.1 h }

-- an object that took a hash, and the value that it gave
hash_step_by : (m : PlainMachine) (t o v : ℕ) (x y : PlainObject) (k : Option (Option ℕ)) → hashed x.hash v ≡ k
    → IsReached m → slice_get m.objects o ≡ Some x → with_hash x k ≡ Some y → IsRead m t o (Int (pos v)) x y
hash_step_by m t o v x y None at h there e = absurd (none-some y e)
hash_step_by m t o v x y (Some k) at h there e =
    let r = hash_taken x.hash k v (h.hashes o x there) at in
    let slots = h.slots o x there in
    let value : IsHash v = r.value_is in
    let low : v < 2 ^ 31 = value.1 in
    let range : IsInRange (pos v) = (omega (arith, ints), omega (arith, ints)) in
    let step : IsObjectStep m t o stays x (record x { hash = k }) =
    record { there = there; slots = record { count = slots.count; values = slots.values }; hash = r.after_is; monitor = resting m t o x h there } in
    record { step = subst (IsObjectStep m t o stays x) (same_Some (record x { hash = k }) y e) step; value = (tt, range) }

pub hash_step : (m : PlainMachine) (t o p v : ℕ) (drawn : Option ℕ) (x y : PlainObject) → IsReached m
    → slice_get m.objects o ≡ Some x → take_at x t (Hash p v drawn) ≡ Some y → IsRead m t o (Int (pos v)) x y
hash_step m t o p v drawn x y h there e = hash_step_by m t o v x y (hashed x.hash v) refl h there e
