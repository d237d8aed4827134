-- Whether two terms are the same.
use Rattle.std.specs.Prelude.{◌==◌, ◌&&◌, Bool, true, false}
use denote.Enum.Bare.{sameb}
use Rattle.term_table.specs.contracts.node.Form.{the_type}
use Rattle.term_table.specs.declared.node.Form.{Form}
use Rattle.term_table.specs.Terms.{Term, nothing, node}

abbrev pub same_form : Form → Form → Bool
same_form one other = sameb the_type one other

-- both are nothing, or nodes of one form and value with the same parts
abbrev pub same_term : Term → Term → Bool
same_term nothing nothing = true
same_term nothing (node form value left right) = false
same_term (node form value left right) nothing = false
same_term (node form value left right) (node form' value' left' right') =
    same_form form form' && (value == value') && same_term left left' && same_term right right'
