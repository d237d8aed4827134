use Rattle.std.proofs.Common.{ap, ◌∙◌}
use Rattle.std.proofs.Math.Path.{fun_ext}
use Rattle.plain_tree.specs.Ops.{plain_values}
use Rattle.conversion_model.specs.Templates.{numbers}
use Rattle.new_numbers.specs.Tables.{supply_of}
use Rattle.unit_writer.specs.Names.{or_new}
use Rattle.unit_writer.proofs.LineLaws.{or_named}
use Rattle.unit_writer.proofs.names.Names.of.Goals as goal

pub returns : goal.returns
returns c = λ u.
    fun_ext
    (λ n.
    ap (or_new ((supply_of u).value c.args.number c.args.piece n)) (c.in_ok-kept.ensures n)
    ∙ or_named ((supply_of u).value c.args.number c.args.piece) (numbers (plain_values c.args.results.now)) c.args.sources.now n)
