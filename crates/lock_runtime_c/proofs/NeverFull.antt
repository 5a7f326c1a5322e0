-- An exit by a thread that holds something is never full.
use Rattle.std.proofs.Common.{◌≡◌, ℕ, ◌+◌, ◌≤◌, ◌&&◌, not, nat_le, Bool, true, false, Option, Some}
use Rattle.std.proofs.Common.{None, length, Result, Ok, Err, refl, sym, ap, ◌∙◌, arith, le-leb}
use Rattle.std.specs.Prelude.{if◌then◌else◌, option_map}
use Rattle.std.proofs.lemmas.Bool.{and_from}
use Rattle.std.proofs.lemmas.Option.{same_Some}
use Rattle.core_world.specs.Clauses.Lengths.{log_limit}
use Rattle.core_world.specs.declared.answer.IllegalMonitorState.{IllegalMonitorState}
use Rattle.core_world.specs.declared.answer.Progress.{Progress}
use Rattle.core_world.specs.declared.answer.Progress.TheVariants.{Done, Pending}
use Rattle.core_world.specs.declared.heap_call.HeapCall.TheVariants.{Exit}
use Rattle.heap_table.specs.Seen.{HeapSeen, PassSeen}
use Rattle.lock_runtime_c.specs.ByHandle.{ByHandle, IsNeverFull}
use Rattle.lock_runtime_c.specs.LogRoom.{Fits, is_full}
use Rattle.lock_runtime_c.specs.Numbers.{answered}
use Rattle.lock_runtime_c.specs.Outcomes.{nothing, of_result, of_progress}
use Rattle.lock_runtime_c.specs.Reasons.{first_reason, or_else}
use Rattle.lock_runtime_c.specs.Told.{barred, ToldBy}
use Rattle.lock_runtime_c.specs.declared.handle.Slot.{Slot}
use Rattle.lock_runtime_c.specs.declared.inner.Inner.TheVariants as inner
use Rattle.lock_runtime_c.specs.declared.outcome.Misuse.{Misuse}
use Rattle.lock_runtime_c.specs.declared.outcome.Outcome.{Outcome}
use Rattle.lock_runtime_c.specs.declared.outcome.Outcome.TheVariants.{Full, Misused}
use Rattle.lock_runtime_c.specs.declared.outcome.Refusal.TheVariants.{NotOwner}

abbrev kind : Outcome → ℕ
kind out = (answered out).kind

-- a call that was made is not
made_not : (out : Outcome) (r : Result (Progress (Unit {0})) IllegalMonitorState) → out ≡ of_result (of_progress nothing) NotOwner r → kind out ≡ 4 → ⊥
made_not out (Ok (Done x)) is full = let a : kind out ≡ 0 = ap kind is in absurd (omega (arith, a, full))
made_not out (Ok (Pending why)) is full = let a : kind out ≡ 1 = ap kind is in absurd (omega (arith, a, full))
made_not out (Err e) is full = let a : kind out ≡ 2 = ap kind is in absurd (omega (arith, a, full))

-- a log with that room isn't full
pub roomy : (n : ℕ) (p : PassSeen) → Fits p n → 1 ≤ n → (nat_le (length p.known.log + 1) p.limit && nat_le (length p.known.log + 1) log_limit) ≡ true
roomy n p kept some =
    let page = kept.page in
    let stamps = kept.stamps in
    and_from _ _ (le-leb (length p.known.log + 1) p.limit (omega (arith, page, some))) (le-leb (length p.known.log + 1) log_limit (omega (arith, stamps, some)))

-- what bars the exit is a misuse
barred_not : (b : Bool) (why : Option Misuse) (out : Outcome) → b ≡ false → or_else (option_map Misused why) (if b then Some Full else None) ≡ Some out
    → kind out ≡ 4 → ⊥
barred_not b (Some why) out off is full = let a : kind out ≡ 3 = ap kind (sym (same_Some _ _ is)) in absurd (omega (arith, a, full))
barred_not false None out off is full = absurd (cc is)
barred_not true None out off is full = absurd (cc off)

told_not : (h : HeapSeen) (p q : PassSeen) (o : ℕ) (out : Outcome) (by : Option Outcome) → barred h p (Exit o) ≡ by → is_full p (Exit o) ≡ false
    → ToldBy by h (Exit o) p q out → kind out ≡ 4 → ⊥
told_not h p q o out (Some why) by room told full =
    barred_not (is_full p (Exit o)) (first_reason h.heap.shape p.known (Exit o)) out room (by ∙ ap Some (sym told.0)) full
told_not h p q o out None by room told full = made_not out told.1.0 told.1.1 full

pub never_full : (before after : Slot) (o : ℕ) (out : Outcome) → ByHandle before after (Exit o) out → IsNeverFull before (answered out)
never_full before after o out by s live held some full =
    let w = (by.had (inner.Seat s) live held).3 in
    let room = ap not (roomy _ s.lent.thing w.4.exits some) in
    told_not s.room.value.heap s.lent.thing w.0.lent.thing o out _ refl room w.5 full
