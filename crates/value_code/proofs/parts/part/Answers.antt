use Rattle.std.proofs.Common.{[], ◌∷◌, sym, ap, ◌∙◌}
use Rattle.operation_model.specs.Values as model
use Rattle.value_code.specs.Models.{part_of, value_of}
use Rattle.value_code.proofs.Shapes.{part_is, value_of-Aggregate}
use Rattle.value_code.proofs.parts.part.Goals as goal

pub returns-in-Aggregate : goal.returns-in-Aggregate
returns-in-Aggregate c =
    ap part_of c.get.ensures.value ∙ part_is _ c.args.i ∙ ap (model.part_at (c.args.i ∷ [])) (sym (ap value_of c.in-Aggregate.is ∙ value_of-Aggregate _))
