use Rattle.core_made.proofs.ObjectMade.{both_stores}
use Rattle.core_made.proofs.making.two_stores_make_an_object.Goals as goal

pub returns : goal.returns
returns c = both_stores
