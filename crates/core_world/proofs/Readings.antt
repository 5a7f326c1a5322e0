-- What the words of the opening world spell, and what the clauses read from them.
use Rattle.std.proofs.Common.{◌≡◌, ◌≢◌, ℕ, ◌==◌, Bool, true, false, replicate, slice_get, Some, None, refl, sym, ap, ◌∙◌, arith, pos, zero, suc}
use Rattle.std.proofs.lemmas.Nat.Bits.{bit_at-zero}
use Rattle.std.proofs.lemmas.Option.{same_Some}
use Rattle.mark_word.specs.declared.mark.MarkForm.TheVariants.{Inflating, Neutral, Anonymous}
use Rattle.mark_word.specs.declared.owner.OwnerForm.TheVariants.{Free}
use Rattle.mark_word.specs.declared.wait.WaitForm.TheVariants.{Ready}
use Rattle.mark_word.specs.declared.hold.HoldForm.TheVariants.{Empty}
use Rattle.mark_word.specs.Mark.{read_mark}
use Rattle.mark_word.specs.Owner.{read_owner}
use Rattle.mark_word.specs.Wait.{read_wait}
use Rattle.mark_word.specs.Hold.{read_hold}
use Rattle.mark_word.specs.Safe.{read_safe}
use Rattle.plain_monitor.specs.declared.entry.Value.{Value}
use Rattle.plain_monitor.specs.declared.entry.Value.TheVariants.{Int}
use Rattle.plain_monitor.specs.Monitor.{is_thread}
use Rattle.plain_monitor.specs.ValueWords.{read_value, word_of}
use Rattle.core_world.specs.Words.Shape.{Shape}
use Rattle.core_world.specs.Words.Forms.{is_biased, is_biased_form, monitor_in, monitor_form, hash_in, hash_form, waits_on, waits_form}
use Rattle.core_world.specs.Words.Forms.{says_notified, notified_form, enters_on, enters_form, says_ended, ended_form, names, names_form}
use Rattle.core_world.specs.Words.Forms.{is_deeper, deeper_form, hold_word, runs_in, runs_form, requester_form, asks_in, is_halted, halted_form}
use Rattle.core_world.specs.Clauses.WordForms.{IsMark}
use Rattle.core_world.specs.Opening.{first_mark}

pub mark_zero : read_mark 0 ≡ Some Inflating
unfolding read_mark
mark_zero = refl

pub mark_one : read_mark 1 ≡ Some (Neutral 0 0)
unfolding read_mark
mark_one = refl

pub mark_five : read_mark 5 ≡ Some (Anonymous 0 0)
unfolding read_mark
mark_five = refl

pub owner_zero : read_owner 0 ≡ Some Free
unfolding read_owner
owner_zero = refl

pub wait_zero : read_wait 0 ≡ Some Ready
unfolding read_wait
wait_zero = refl

pub hold_zero : read_hold 0 ≡ Some Empty
unfolding read_hold
hold_zero = refl

pub safe_zero : read_safe 0 ≡ Some (record { running = 0; requester = None; halted = false })
unfolding read_safe
safe_zero = refl

-- the first word of a slot spells the number 0
pub value_zero : read_value (word_of (Int (pos 0))) ≡ Some (Int (pos 0))
unfolding read_value
value_zero = refl

-- no waiting word says anything of an object
pub no_wait : (o : ℕ) → waits_on 0 o ≡ false
no_wait o = ap (λ f. waits_form f o) wait_zero

pub no_told : (o : ℕ) → says_notified 0 o ≡ false
no_told o = ap (λ f. notified_form f o) wait_zero

pub no_entering : (o : ℕ) → enters_on 0 o ≡ false
no_entering o = ap (λ f. enters_form f o) wait_zero

pub no_ended : says_ended 0 ≡ false
no_ended = ap ended_form wait_zero

-- an empty hold word names nothing
pub names_none : (o : ℕ) → names o 0 ≡ false
names_none o = ap (λ f. names_form f o) hold_zero

pub deeper_none : (o : ℕ) → is_deeper o 0 ≡ false
deeper_none o = ap (λ f. deeper_form f o) hold_zero

pub hold_some : (o d : ℕ) → hold_word o d ≢ 0
hold_some o d e = omega arith

-- nobody runs or asks, and there is no halt
pub runs_none : (t : ℕ) → runs_in 0 t ≡ false
runs_none t = ap (λ f. runs_form f t) safe_zero ∙ ap (λ n. n == 1) (bit_at-zero t)

pub asks_none : (t : ℕ) → asks_in 0 t ≡ false
asks_none t = ap (λ f. is_thread (requester_form f) t) safe_zero

pub halts_none : is_halted 0 ≡ false
halts_none = ap halted_form safe_zero

-- the first mark is 1 or 5
pub first_nonzero : (biasing : Bool) → first_mark biasing ≢ 0
first_nonzero true e = omega arith
first_nonzero false e = omega arith

pub first_monitor : (biasing : Bool) → monitor_in (first_mark biasing) ≡ None
first_monitor true = ap monitor_form mark_five
first_monitor false = ap monitor_form mark_one

pub first_is_mark : (s : Shape) (biasing : Bool) → IsMark s (read_mark (first_mark biasing))
first_is_mark s true = rw mark_five refl
first_is_mark s false = rw mark_one refl

pub first_biased : (biasing : Bool) → is_biased (first_mark biasing) ≡ biasing
first_biased true = ap is_biased_form mark_five
first_biased false = ap is_biased_form mark_one

pub first_hash : (biasing : Bool) → hash_in (first_mark biasing) ≡ 0
first_hash true = ap hash_form mark_five
first_hash false = ap hash_form mark_one

-- each slot of a new object has the number 0
pub first_slot : (n i : ℕ) (v : Value) → slice_get (replicate n (Int (pos 0))) i ≡ Some v → v ≡ Int (pos 0)
first_slot zero i v e = absurd (cc e)
first_slot (suc n) zero v e = sym (same_Some _ _ e)
first_slot (suc n) (suc i) v e = first_slot n i v e
