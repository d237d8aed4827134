use Rattle.line_rules.proofs.LineLaws.{lines_defined, lines_formed, lines_own, lines_tests}
use Rattle.line_rules.proofs.laws.law_lines.Goals as goal

pub returns-clause-defined : goal.returns-clause-defined
returns-clause-defined c = lines_defined

pub returns-clause-formed : goal.returns-clause-formed
returns-clause-formed c = lines_formed

pub returns-clause-own : goal.returns-clause-own
returns-clause-own c = lines_own

pub returns-clause-tests : goal.returns-clause-tests
returns-clause-tests c = lines_tests
