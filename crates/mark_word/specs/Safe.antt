-- The safepoint word: running threads in bits 0 to 31, the requester plus 1 in bits 32 to 39, the halt in bit 40.
use Rattle.std.specs.Prelude.{◌≡◌, ℕ, ◌+◌, ◌-◌, ◌*◌, ◌/◌, ◌%◌, ◌^◌, ◌<◌, ◌==◌, ◌&&◌, nat_lt, if◌then◌else◌, Bool, true, false, IfSome}
use Rattle.std.specs.Prelude.{Option, Some, None}
use Rattle.mark_word.specs.declared.safe.SafeForm.{SafeForm}

-- the ranges of a form's fields
abbrev pub IsSafeInRange : SafeForm → Type 0
IsSafeInRange form = (form.running < 2 ^ 32) × IfSome form.requester (λ thread. thread < 32)

-- 0 for none, or the requester plus 1
abbrev pub requester_of : Option ℕ → ℕ
requester_of None = 0
requester_of (Some thread) = thread + 1

-- 1 for a halt, 0 for none
abbrev pub halt_of : Bool → ℕ
halt_of true = 1
halt_of false = 0

-- the word of a form
abbrev pub safe_of : SafeForm → ℕ
safe_of form = form.running + requester_of form.requester * 2 ^ 32 + halt_of form.halted * 2 ^ 40

-- the word spells the form, whose fields are in their ranges
abbrev pub SpellsSafe : SafeForm → ℕ → Type 0
SpellsSafe form word = IsSafeInRange form × (word ≡ safe_of form)

-- the requester that the field tells: none for 0
abbrev pub requester_in : ℕ → Option ℕ
requester_in field = if field == 0 then None else Some (field - 1)

-- the form that a word spells, where it spells one
unfoldable pub read_safe : ℕ → Option SafeForm
read_safe word =
    if nat_lt word (2 ^ 41) && nat_lt (word / 2 ^ 32 % 256) 33
    then Some (record {
      running = word % 2 ^ 32;
      requester = requester_in (word / 2 ^ 32 % 256);
      halted = word / 2 ^ 40 == 1;
    })
    else None
