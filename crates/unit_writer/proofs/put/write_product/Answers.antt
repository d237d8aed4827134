use Rattle.std.proofs.Common.{ap, refl}
use Rattle.plain_tree.specs.Ops.{plain_op}
use Rattle.new_numbers.specs.Tables.{supply_of}
use Rattle.unit_writer.specs.Names.{plain_line, product_op}
use Rattle.unit_writer.proofs.PutLaws.{product_line, product_own}
use Rattle.unit_writer.proofs.put.write_product.Goals as goal

pub returns-in_ok-write_line-in-Some : goal.returns-in_ok-write_line-in-Some
returns-in_ok-write_line-in-Some c =
    product_line c.args.place.0 c.args.place.1 (λ u. product_op ((supply_of u).row c.args.place.0) c.args.product.now) (plain_op c.in_ok-op.op) (plain_line c.args.line) _ _ _ _
    (ap plain_line c.in-Some.is) c.in_ok-op.ensures refl refl c.in_ok-write_line-in-Some.ensures

pub returns-in_ok-put_own-in-None : goal.returns-in_ok-put_own-in-None
returns-in_ok-put_own-in-None c =
    product_own c.args.place.0 c.args.place.1 (λ u. product_op ((supply_of u).row c.args.place.0) c.args.product.now) (plain_op c.in_ok-op.op) (plain_line c.args.line) _ _
    (ap plain_line c.in-None.is) (λ u. refl) (λ u. refl) c.put_own.ensures.other c.in_ok-op.ensures c.in_ok-put_own-in-None.ensures.put refl
