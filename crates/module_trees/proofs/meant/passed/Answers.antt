use Rattle.module_trees.proofs.StepLaws.{value_passed, label_passed}
use Rattle.module_trees.proofs.meant.passed.Goals as goal

pub returns-in-UseName-clause-is : goal.returns-in-UseName-clause-is
returns-in-UseName-clause-is c values labels = value_passed values labels c.args.next c.args.place c.in-UseName.is

pub returns-in-SuccessorName-clause-is : goal.returns-in-SuccessorName-clause-is
returns-in-SuccessorName-clause-is c values labels = label_passed values labels c.args.next c.args.place c.in-SuccessorName.is
