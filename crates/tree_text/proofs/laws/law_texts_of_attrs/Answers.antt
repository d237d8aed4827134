use Rattle.tree_text.proofs.TextLaws.{bit_attr, integer_attr, integers_attr, dialect_attr, entries}
use Rattle.tree_text.proofs.laws.law_texts_of_attrs.Goals as goal

pub returns-clause-bit : goal.returns-clause-bit
returns-clause-bit c = bit_attr

pub returns-clause-integer : goal.returns-clause-integer
returns-clause-integer c = integer_attr

pub returns-clause-integers : goal.returns-clause-integers
returns-clause-integers c = integers_attr

pub returns-clause-dialect : goal.returns-clause-dialect
returns-clause-dialect c = dialect_attr

pub returns-clause-entries : goal.returns-clause-entries
returns-clause-entries c = entries
