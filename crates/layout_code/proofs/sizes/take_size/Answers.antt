use Rattle.std.proofs.Common.{subst, sym}
use Rattle.value_code.specs.declared.look.Looked.TheVariants as looked
use Rattle.layout_code.specs.Sizes.{size_answer, Takes}
use Rattle.layout_code.proofs.SizeLaws.{given_taken, no_operand}
use Rattle.layout_code.proofs.sizes.take_size.Goals as goal

pub returns-in_ok-given_size-in-Some-at : goal.returns-in_ok-given_size-in-Some-at
returns-in_ok-given_size-in-Some-at c =
    subst (λ f. Takes c.with_count-in-Some-at.result c.args.bits.bits f c.args.xs.now) (sym c.in-None.is)
    (given_taken c.with_count-in-Some-at.result c.args.bits.bits c.args.xs.now c.in-Some-at.x.now (size_answer c.in_ok-given_size-in-Some-at.field-0) (sym c.in-Some-at.ensures)
    c.with_count-in-Some-at.ensures c.in_ok-given_size-in-Some-at.ensures)

pub returns-in-None-at : goal.returns-in-None-at
returns-in-None-at c =
    subst (λ f. Takes looked.Outside c.args.bits.bits f c.args.xs.now) (sym c.in-None.is) (no_operand c.args.bits.bits c.args.xs.now (sym c.in-None-at.ensures))
