use Rattle.text_refusals.proofs.SeenLemmas.{one_refusal}
use Rattle.text_refusals.proofs.law_one_refusal.Goals as goal

pub returns : goal.returns
returns c = one_refusal
