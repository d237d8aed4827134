use Rattle.meaning_model.proofs.Runs.{same_forms}
use Rattle.meaning_model.proofs.laws.law_forms.Goals as goal

pub returns : goal.returns
returns c = same_forms
