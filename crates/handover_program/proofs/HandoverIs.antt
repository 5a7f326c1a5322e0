-- The handover program is a program, and its canonical text is the handover text.
use Rattle.std.proofs.Common.{◌≡◌, ℕ, ◌+◌, ◌≤◌, List, [], ◌∷◌, ◌++◌, length, refl, sym, subst, arith, length-append, Ok, pos, lit<, rules, decimal, codes}
use Rattle.std.specs.List.{flat_map}
use Rattle.std.proofs.lemmas.Fmt.{decimal_digit, decimal_step, length-decimal-le_succ}
use Rattle.std.proofs.lemmas.Int.{ints}
use Rattle.plain_monitor.specs.Numbers.{IsInRange}
use Rattle.object_program.specs.Valid.{IsProgram, IsThread}
use Rattle.program_syntax.specs.Canonical.{canonical}
use Rattle.program_syntax.specs.Refusal.{program_of}
use Rattle.program_syntax.proofs.CanonicalPrograms.{program_of-canonical}
use Rattle.handover_program.specs.HandoverText.{declared_lines, first_lines, second_lines, handover_text}
use Rattle.handover_program.specs.inner.HandoverProgram.{first_thread, second_thread, handover_of_items}

in_range : (n : ℕ) → n ≤ 1500 → IsInRange (pos n)
in_range n few = (omega (arith, ints), omega (arith, ints))

first_is_thread : (n : ℕ) → n ≤ 1500 → IsThread 2 2 (first_thread n)
first_is_thread n few = record {
  locals = search;
  locals_few = omega arith;
  labels = search;
  targets = search (arith, lit<);
  code = search (in_range, lit<, few);
  code_few = omega arith;
  ends = search rules;
}

second_is_thread : (n : ℕ) → n ≤ 1500 → IsThread 2 2 (second_thread n)
second_is_thread n few = record {
  locals = search;
  locals_few = omega arith;
  labels = search;
  targets = search (arith, lit<);
  code = search (in_range, lit<, few);
  code_few = omega arith;
  ends = search rules;
}

handover_is_program : (n : ℕ) → 1 ≤ n → n ≤ 1500 → IsProgram (handover_of_items n)
handover_is_program n some few = record {
  class_names = search;
  class_slots = (omega arith, (omega arith, tt));
  classes_few = omega arith;
  object_names = search;
  objects = ((omega arith, refl, some, λ e. absurd (cc e)), ((omega arith, omega arith, omega arith, λ e. refl), tt));
  objects_few = omega arith;
  thread_names = search;
  threads = (first_is_thread n few, (second_is_thread n few, tt));
  threads_some = omega arith;
  threads_few = omega arith;
}

decimal_19 : decimal 19 ≡ codes "19"
decimal_19 = rw (decimal_step 19 (omega arith) (omega arith), decimal_digit 1 (omega arith)) refl

pub handover_written : (n : ℕ) → canonical (handover_of_items n) ≡ handover_text n
handover_written n =
    rw (decimal_digit 0 (omega arith), decimal_digit 1 (omega arith), decimal_digit 2 (omega arith), decimal_19) refl

-- how long a text of these lines is
abbrev total : List (List ℕ) → ℕ
total [] = 0
total (line ∷ lines) = length line + 1 + total lines

total_is : (lines : List (List ℕ)) → length (flat_map (λ line. line ++ 10 ∷ []) lines) ≡ total lines
total_is [] = refl
total_is (line ∷ lines) =
    let rest = flat_map (λ line. line ++ 10 ∷ []) lines in
    omega (arith, total_is lines, length-append (line ++ 10 ∷ []) rest, length-append line (10 ∷ []))

handover_short : (n : ℕ) → n ≤ 1500 → length (handover_text n) ≤ 1048576
handover_short n few =
    let digits = length-decimal-le_succ n (omega arith) in
    subst (λ k. k ≤ 1048576) (sym (total_is (declared_lines n ++ first_lines n ++ second_lines n))) (omega arith)

program_of-written : (n : ℕ) → IsProgram (handover_of_items n) → length (handover_text n) ≤ 1048576
    → program_of (handover_text n) ≡ Ok (handover_of_items n)
program_of-written n is =
    subst (λ text. length text ≤ 1048576 → program_of text ≡ Ok (handover_of_items n)) (handover_written n)
    (program_of-canonical (handover_of_items n) is)

pub handover_read : (n : ℕ) → 1 ≤ n → n ≤ 1500 → program_of (handover_text n) ≡ Ok (handover_of_items n)
handover_read n some few = program_of-written n (handover_is_program n some few) (handover_short n few)
