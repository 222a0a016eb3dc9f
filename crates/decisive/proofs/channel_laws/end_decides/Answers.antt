use Rattle.decisive.proofs.Nowhere.{decides, is_letter}
use Rattle.decisive.proofs.channel_laws.end_decides.Goals as goal

pub returns-clause-decides : goal.returns-clause-decides
returns-clause-decides c = decides

pub returns-clause-letter : goal.returns-clause-letter
returns-clause-letter c = is_letter
