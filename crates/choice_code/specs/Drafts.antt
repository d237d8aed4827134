-- What stands so far of a derivation, in plain form.
use Rattle.std.specs.Prelude.{List, ◌++◌, Option, Some, None, map}
use Rattle.plain_tree.specs.Types.{plain_type}
use Rattle.conversion_model.specs.Templates.{Step, Template}
use Rattle.conversion_model.specs.Chosen.{State, Ending, Leaves, and_then, after, product, with_moved}
use Rattle.choice_code.specs.declared.draft.Draft.{Draft}
use Rattle.choice_code.specs.Plain.{plain_step}

abbrev pub state_of : Draft → State
state_of d = record { operands = d.operands; operand_types = map plain_type d.operand_types; made = d.made; made_types = map plain_type d.made_types; count = d.count }

-- the operations so far
abbrev pub done_of : Draft → List Step
done_of d = map plain_step d.steps

-- a template behind steps
abbrev pub behind : List Step → Option Template → Option Template
behind xs None = None
behind xs (Some t) = Some (record { steps = xs ++ t.steps; results = t.results })

-- the whole template, where the derivation goes on so
abbrev pub going_on : Draft → Ending → Option Template
going_on d next = behind (done_of d) (next (state_of d))

-- the leaves of one product, and what follows
abbrev pub one_product : Leaves → Ending → Step → State → Option Template
one_product leaves rest x s = and_then (leaves (product s x)) (λ t. and_then (rest (after s x t)) (λ r. Some (with_moved s x t r)))
