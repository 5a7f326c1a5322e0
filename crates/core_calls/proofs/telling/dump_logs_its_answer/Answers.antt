use Rattle.core_calls.proofs.Runs.{tells}
use Rattle.core_calls.proofs.OtherCallsSay.{dump_says}
use Rattle.core_calls.proofs.shot.ShotsKept.{dump_shoots, dump_pends}
use Rattle.core_calls.proofs.telling.dump_logs_its_answer.Goals as goal

pub returns-clause-steps : goal.returns-clause-steps
returns-clause-steps c = dump_says

pub returns-clause-run : goal.returns-clause-run
returns-clause-run c s k shape start before after answer ran = tells (dump_says s k) ran

pub returns-clause-keeps : goal.returns-clause-keeps
returns-clause-keeps c s k shape start number before after same ran = dump_shoots shape start s k before after number same ran

pub returns-clause-pends : goal.returns-clause-pends
returns-clause-pends c s k shape start before after why ran = dump_pends shape start s k before after why ran
