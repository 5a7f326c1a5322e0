use Rattle.plain_history.proofs.SoundHistories.{history_sound}
use Rattle.plain_history.proofs.laws.monitors_stay_sound.Goals as goal

pub returns : goal.returns
returns c = history_sound
