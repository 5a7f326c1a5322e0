use Rattle.std.proofs.Common.{ap, ◌∙◌}
use Rattle.plain_monitor.specs.ValueWords.{read_value}
use Rattle.plain_monitor.proofs.ValuesRead.{read_value-word_of, read_value-spells, word_of-spells, word_of-only}
use Rattle.plain_monitor.proofs.value_words.values_are_read.Goals as goal

pub returns-clause-reads : goal.returns-clause-reads
returns-clause-reads c = λ word v. (read_value-spells word v, λ h. ap read_value (word_of-only v word h) ∙ read_value-word_of v h.0)

pub returns-clause-words : goal.returns-clause-words
returns-clause-words c = word_of-spells
