use Rattle.std.specs.Prelude.{option_copied}
use Rattle.func_rows.proofs.EntryLaws.{props_from}
use Rattle.func_rows.proofs.functions.function_props.Goals as goal

pub returns : goal.returns
returns c = props_from c.args.t c.args.name.now (option_copied c.args.visibility) c.in_ok-fixed.fixed c.in_ok-props.props c.in_ok-fixed.ensures c.in_ok-props.ensures
