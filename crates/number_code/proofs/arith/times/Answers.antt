use Rattle.std.proofs.Common.{arith, ◌^◌, FitsSigned}
use Rattle.std.specs.Prelude.{◌*ℤ◌}
use Rattle.std.specs.Int.{w128}
use Rattle.std.proofs.lemmas.Int.{fits_signed_mul, to_z-of_z}
use Rattle.number_code.proofs.arith.times.Goals as goal

product_fits : (c : goal.Start) → FitsSigned w128 (c.args.x *ℤ c.args.y)
product_fits c = fits_signed_mul w128 c.args.x c.args.y (2 ^ 63) (2 ^ 63) c.requires.first c.requires.second (omega arith)

pub overflow_mul-result : goal.overflow_mul-result
overflow_mul-result c = rw (to_z-of_z w128 c.args.x c.ranges.x, to_z-of_z w128 c.args.y c.ranges.y) (product_fits c)

pub returns : goal.returns
returns c = rw (to_z-of_z w128 c.args.x c.ranges.x, to_z-of_z w128 c.args.y c.ranges.y) (to_z-of_z w128 (c.args.x *ℤ c.args.y) (product_fits c))
