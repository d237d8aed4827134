use Rattle.read_scopes.proofs.Texts.{read_labels_in_scope}
use Rattle.read_scopes.proofs.law_read_labels_in_scope.Goals as goal

pub returns : goal.returns
returns c = read_labels_in_scope
