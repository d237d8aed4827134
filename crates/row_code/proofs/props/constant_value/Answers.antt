use Rattle.std.proofs.Common.{ap, ◌∙◌, rules, w64, to_z, of_z}
use Rattle.std.proofs.lemmas.Int.{to_z-of_z}
use Rattle.plain_tree.specs.Types.{plain_type}
use Rattle.row_code.specs.Shapes.{number_kept}
use Rattle.plain_tree.specs.Attrs.{plain_entries}
use Rattle.row_code.proofs.Opens.{constant_props}
use Rattle.row_code.proofs.props.constant_value.Goals as goal

pub returns : goal.returns
returns c = ap plain_entries c.in_ok-props.ensures ∙ constant_props c.args.t c.args.number (to_z w64 (of_z w64 c.kept_number-number.result)) (to_z-of_z w64 c.kept_number-number.result (search rules) ∙ c.kept_number-number.ensures ∙ ap (number_kept (plain_type c.args.t)) (to_z-of_z w64 c.args.number (search rules)))
