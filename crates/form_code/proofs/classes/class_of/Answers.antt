use Rattle.std.proofs.Common.{ap, ◌∙◌}
use Rattle.form_code.specs.ClassViews.{class_view}
use Rattle.form_code.proofs.ClassTable.{known_class, unknown_class}
use Rattle.form_code.proofs.classes.class_of.Goals as goal

pub returns-in-Some : goal.returns-in-Some
returns-in-Some c = ap class_view c.class_in.ensures ∙ known_class c.in-Some.number c.args.name.now c.in-Some.ensures.known

pub returns-in-None : goal.returns-in-None
returns-in-None c = unknown_class c.args.name.now c.in-None.ensures.unknown
