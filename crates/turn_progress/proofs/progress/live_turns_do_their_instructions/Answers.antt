use Rattle.turn_progress.proofs.Turned.{live_spend}
use Rattle.turn_progress.proofs.progress.live_turns_do_their_instructions.Goals as goal

pub returns : goal.returns
returns c h quantum n r q turns = live_spend h quantum r n q turns
