use Rattle.func_rows.proofs.FieldLaws.{fields_again, fields_made}
use Rattle.func_rows.proofs.signatures.fields.Goals as goal

pub returns-clause-tree : goal.returns-clause-tree
returns-clause-tree c = fields_made c.args.bits c.args.rank _ _ _ _ _ _ c.new-types.ensures c.in_ok-push.ensures.ok c.in_ok-push-2.ensures.ok c.in_ok-push-3.ensures.ok c.in_ok-push_numbers.ensures c.in_ok-push_numbers-2.ensures

pub returns-clause-plain : goal.returns-clause-plain
returns-clause-plain c = fields_again _ _ (fields_made c.args.bits c.args.rank _ _ _ _ _ _ c.new-types.ensures c.in_ok-push.ensures.ok c.in_ok-push-2.ensures.ok c.in_ok-push-3.ensures.ok c.in_ok-push_numbers.ensures c.in_ok-push_numbers-2.ensures)
