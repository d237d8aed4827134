-- Whether a function numbers each of its values and each of its blocks once.
use Rattle.std.specs.Prelude.{Bool, ◌&&◌, []}
use Rattle.plain_tree.specs.Ops.{Op}
use Rattle.plain_tree.specs.Values.{op_values}
use Rattle.rule_model.specs.Words.{numbers}
use Rattle.rule_model.specs.Formed.{are_once, op_labels}

abbrev pub is_numbered_once : Op → Bool
is_numbered_once f = are_once (numbers (op_values f [])) && are_once (op_labels f)
