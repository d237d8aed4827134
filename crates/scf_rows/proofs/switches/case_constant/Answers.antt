use Rattle.std.proofs.Common.{◌∙◌, ap, rules, w64}
use Rattle.std.proofs.lemmas.Int.{to_z-of_z}
use Rattle.tree_model.specs.declared.type_tree.TypeTree as type
use Rattle.plain_tree.specs.Types.{plain_type}
use Rattle.pattern_model.specs.Drafts.{constant_value}
use Rattle.scf_rows.proofs.ProductLaws.{constant_made}
use Rattle.scf_rows.proofs.switches.case_constant.Goals as goal

pub returns : goal.returns
returns c =
    let same = to_z-of_z w64 c.args.number (search rules) in
    constant_made c.args.constant c.args.bit c.args.number c.in_ok-known.known c.in_ok-results.results _ c.in_ok-props.props c.in_ok-piece.piece c.in_ok-known.ensures c.in_ok-results.ensures c.new-nothing.ensures
    (c.in_ok-props.ensures ∙ ap (constant_value (plain_type type.Index)) same) c.in_ok-piece.ensures
