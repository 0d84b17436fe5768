-- The law itself.
use Rattle.laid_terms.proofs.Standing.{laid_terms_stand}
use Rattle.laid_terms.proofs.laid_terms_stand.Goals as goal

pub returns : goal.returns
returns c = laid_terms_stand
