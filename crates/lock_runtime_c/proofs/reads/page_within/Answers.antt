use Rattle.lock_runtime_c.proofs.Seated.{page_taken, page_kept}
use Rattle.lock_runtime_c.proofs.reads.page_within.Goals as goal

pub returns-in-Ok-clause-page : goal.returns-in-Ok-clause-page
returns-in-Ok-clause-page c = page_taken _ c.in-Seat.seat _ _ c.in-Seat.is c.take_page.ensures.room c.in-Ok.ensures.page

pub returns-in-Err-clause-page : goal.returns-in-Err-clause-page
returns-in-Err-clause-page c = page_kept _ c.in-Seat.seat _ c.in-Seat.is c.take_page.ensures.room c.in-Err.ensures.same
