use Rattle.std.proofs.Common.{◌∙◌}
use Rattle.thread_frame.proofs.Seen.{within, beyond}
use Rattle.thread_frame.proofs.frame_actor.FrameActorActor.holds.Goals as goal

pub returns-then-object-self : goal.returns-then-object-self
returns-then-object-self c = c.held.ensures.held ∙ within _ _ _ c.if-object-self.true

pub returns : goal.returns
returns c = beyond _ 0 _ _ c.if-object-self.false
