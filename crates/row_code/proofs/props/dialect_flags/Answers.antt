use Rattle.std.proofs.Common.{rules, arith}
use Rattle.std.proofs.lemmas.Grind.{common_steps}
use Rattle.row_code.proofs.Opens.{llvm_props}
use Rattle.row_code.proofs.props.dialect_flags.Goals as goal

pub returns : goal.returns
returns c = llvm_props c.args.name.now c.args.words.now c.in_ok-props.props (search rules) (grind (arith, common_steps))
