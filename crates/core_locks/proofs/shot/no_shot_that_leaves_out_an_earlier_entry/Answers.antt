use Rattle.core_locks.proofs.shot.RefutedShots.{no_earlier_left_out}
use Rattle.core_locks.proofs.shot.no_shot_that_leaves_out_an_earlier_entry.Goals as goal

pub returns : goal.returns
returns c w t u v i j e l m u-there v-there at-l before at-m since tied earlier valid =
    no_earlier_left_out w t u 0 e valid v i j l m u-there v-there at-l before at-m since tied earlier
