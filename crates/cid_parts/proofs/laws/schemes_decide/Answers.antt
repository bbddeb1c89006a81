use Rattle.cid_parts.proofs.Schemes as schemes
use Rattle.cid_parts.proofs.laws.schemes_decide.Goals as goal

pub returns : goal.returns
returns c = schemes.scheme_decides
