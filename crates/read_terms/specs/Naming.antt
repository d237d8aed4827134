-- Functions by their names, with operations in them that are none, and no modules.
use Rattle.std.specs.Prelude.{◌&&◌, Bool, true}
use Rattle.plain_tree.specs.Ops.{Kind, Op, op, Values}
use Rattle.rule_model.specs.Formed.{is_function_name, is_inner_name}
use Rattle.read_terms.specs.Standing.{regions_stand}

-- an operation within a function has a name of bytes that is no function's and not that of a module
abbrev pub is_inner_here : Kind → Values → Bool
is_inner_here k results = is_inner_name k.name

-- whatever the arguments of blocks are
abbrev pub any_values : Values → Bool
any_values vs = true

-- a function has the name of one, and such operations stand in it
abbrev pub is_named_function : Op → Bool
is_named_function (op k results operands regions successors) = is_function_name k.name && regions_stand is_inner_here any_values regions
