-- What the test of a record's word tells.
use Rattle.std.proofs.Common.{◌≡◌, ℕ, true, arith}
use Rattle.std.proofs.lemmas.Bool.Decides.{nat_tests}
use Rattle.mark_word.specs.Record.{IsRecord, record_of, is_record_word, thread_of_record, place_of_record}

-- a word that passes is that of the record that is read from it, which is in its ranges
pub record_told : (word : ℕ) → is_record_word word ≡ true
    → IsRecord (thread_of_record word) (place_of_record word) × (word ≡ record_of (thread_of_record word) (place_of_record word))
record_told word h = grind (arith, nat_tests)
