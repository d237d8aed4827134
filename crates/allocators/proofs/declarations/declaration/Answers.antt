use Rattle.plain_tree.specs.Types.{plain_type}
use Rattle.allocators.proofs.DeclarationLaws.{declaration_made}
use Rattle.allocators.proofs.declarations.declaration.Goals as goal

pub returns : goal.returns
returns c =
    declaration_made c.args.name.now (plain_type c.args.t) c.in_ok-name.name c.new.result c.new-2.result c.in_ok-props.props c.new-3.result c.in_ok-regions.regions c.new-4.result c.new-blocks.result
    c.in_ok-name.ensures c.new.ensures c.new-2.ensures c.in_ok-props.ensures c.new-3.ensures c.in_ok-regions.ensures c.new-blocks.ensures c.new-4.ensures
