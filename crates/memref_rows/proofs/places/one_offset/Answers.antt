use Rattle.std.proofs.Common.{◌∙◌}
use Rattle.std.specs.Prelude.{codes}
use Rattle.conversion_model.specs.declared.templates.Source.TheVariants.{Operand}
use Rattle.conversion_model.specs.Types.{number_type}
use Rattle.pattern_model.specs.MemrefRows.{two}
use Rattle.memref_rows.proofs.places.one_offset.Goals as goal

pub returns : goal.returns
returns c = λ next.
    c.in_ok-stride.ensures (λ v_stride. two (codes "llvm.mul") (Operand c.args.operand) v_stride (number_type c.args.bits) λ v_product. two (codes "llvm.add") c.args.offset v_product (number_type c.args.bits) next)
    ∙ c.in_ok-product.ensures (λ v_product. two (codes "llvm.add") c.args.offset v_product (number_type c.args.bits) next)
    ∙ c.in_ok-sum.ensures next
