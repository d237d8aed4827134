use Rattle.cast_laws.proofs.Pairs.{pairs_are_undone, undone_casts_keep}
use Rattle.cast_laws.proofs.laws.law_undone_casts.Goals as goal

pub returns : goal.returns
returns c = record { keeps = undone_casts_keep; pairs = pairs_are_undone }
