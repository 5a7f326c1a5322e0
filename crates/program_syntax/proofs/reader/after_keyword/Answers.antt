use Rattle.std.proofs.Common.{◌≡◌, false, None, Some}
use Rattle.program_syntax.specs.Refusal.{keyword_cause, passes_limit}
use Rattle.program_syntax.specs.State.{before_of, text_of, thread_of, IsAheadOf}
use Rattle.program_syntax.specs.declared.keyword.Keyword.TheVariants.{Label}
use Rattle.program_syntax.proofs.AllowedCause.{no_cause}
use Rattle.program_syntax.proofs.AfterLines.{outside_kind, instruction_kind, instruction_room, next_label, after_label, after_instruction}
use Rattle.program_syntax.proofs.reader.after_keyword.Goals as goal

pub after_declaration-requires-clause-outside : goal.after_declaration-requires-clause-outside
after_declaration-requires-clause-outside c =
    outside_kind (text_of c.args.reader.declared) c.args.later.now c.args.operands.now c.args.keyword (rw c.in_default.is at c.requires.clean)

pub instruction_on-code-requires : goal.instruction_on-code-requires
instruction_on-code-requires c =
    let s = c.in-Some.section in
    let later = c.args.later.now in
    let ws = c.args.operands.now in
    let ahead : IsAheadOf s later ws c.args.keyword = rw c.in-Some.is at c.requires.ahead in
    let h = no_cause (before_of c.args.reader) later ws c.args.keyword c.requires.clean in
    record {
      instruction = instruction_kind s later ws c.args.keyword ahead c.in_default-keyword.not-Local c.in_default-keyword.not-Label;
      count = h.count;
      numbers = h.numbers;
    }

pub with_code-requires-in_default-keyword : goal.with_code-requires-in_default-keyword
with_code-requires-in_default-keyword c =
    let p = text_of c.args.reader.declared in
    let s = c.in-Some.section in
    let later = c.args.later.now in
    let ws = c.args.operands.now in
    let ahead : IsAheadOf s later ws c.args.keyword = rw c.in-Some.is at c.requires.ahead in
    let h = no_cause (before_of c.args.reader) later ws c.args.keyword c.requires.clean in
    let room : passes_limit (record { text = p; section = Some (thread_of s) }) ws c.args.keyword ≡ false = rw c.in-Some.is at h.limit in
    instruction_room p (thread_of s) ws c.args.keyword
    (instruction_kind s later ws c.args.keyword ahead c.in_default-keyword.not-Local c.in_default-keyword.not-Label) room

pub returns-in-Label-clause-after : goal.returns-in-Label-clause-after
returns-in-Label-clause-after c =
    let p = text_of c.args.reader.declared in
    let s = c.in-Some.section in
    let later = c.args.later.now in
    let ws = c.args.operands.now in
    let clean : keyword_cause (record { text = p; section = Some (thread_of s) }) later ws (Some Label) ≡ None =
    rw (c.in-Some.is, c.in-Label.is) at c.requires.clean in
    let ahead : IsAheadOf s later ws Label = rw (c.in-Some.is, c.in-Label.is) at c.requires.ahead in
    rw (c.in-Some.is, c.in-Label.is) (after_label p s c.with_label.result later ws ahead
    (next_label p s later ws clean ahead) c.with_label.ensures.thread c.with_label.ensures.labels).after

pub returns-in-Label-clause-ahead : goal.returns-in-Label-clause-ahead
returns-in-Label-clause-ahead c =
    let p = text_of c.args.reader.declared in
    let s = c.in-Some.section in
    let later = c.args.later.now in
    let ws = c.args.operands.now in
    let clean : keyword_cause (record { text = p; section = Some (thread_of s) }) later ws (Some Label) ≡ None =
    rw (c.in-Some.is, c.in-Label.is) at c.requires.clean in
    let ahead : IsAheadOf s later ws Label = rw (c.in-Some.is, c.in-Label.is) at c.requires.ahead in
    (after_label p s c.with_label.result later ws ahead (next_label p s later ws clean ahead) c.with_label.ensures.thread c.with_label.ensures.labels).ahead

pub returns-in_ok-with_code-in_default-keyword : goal.returns-in_ok-with_code-in_default-keyword
returns-in_ok-with_code-in_default-keyword c =
    let p = text_of c.args.reader.declared in
    let s = c.in-Some.section in
    let later = c.args.later.now in
    let ws = c.args.operands.now in
    let ahead : IsAheadOf s later ws c.args.keyword = rw c.in-Some.is at c.requires.ahead in
    let r = c.in_ok-with_code-in_default-keyword.field-0 in
    let h = after_instruction p s r later ws c.args.keyword c.instruction_on-code.result
    (instruction_kind s later ws c.args.keyword ahead c.in_default-keyword.not-Local c.in_default-keyword.not-Label) c.in_default-keyword.not-End
    ahead (c.instruction_on-code.ensures later ahead) c.in_ok-with_code-in_default-keyword.ensures.thread c.in_ok-with_code-in_default-keyword.ensures.labels in
    record { after = rw c.in-Some.is h.after; ahead = h.ahead }
