use Rattle.std.proofs.Common.{◌∙◌, ap, sym}
use Rattle.term_table.proofs.TableLaws.{zero_is}
use Rattle.use_kinds.specs.Written.{inputs_of, types_in}
use Rattle.use_kinds.proofs.types.inputs_of.Goals as goal

pub returns-in-None-clause-is : goal.returns-in-None-clause-is
returns-in-None-clause-is c = ap types_in (zero_is c.args.terms.now.nodes.keys) ∙ sym (ap inputs_of (c.in-None.ensures.none c.requires))
