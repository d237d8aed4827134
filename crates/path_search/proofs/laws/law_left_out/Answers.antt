use Rattle.path_search.proofs.Paths.{left_out_decides}
use Rattle.path_search.proofs.laws.law_left_out.Goals as goal

pub returns : goal.returns
returns c = left_out_decides
