-- One round of the second half.
use Rattle.std.specs.Prelude.{Bool, Option, Some, None, if◌then◌else◌}
use Rattle.std.specs.List.{list_any}
use Rattle.plain_tree.specs.Ops.{Op}
use Rattle.conversion_model.specs.Uses.{op_without, operations}
use Rattle.conversion_model.specs.Reconciled.{is_unused_cast}

-- whether there is a cast without uses
abbrev pub has_unused : Op → Bool
has_unused f = list_any (λ o. is_unused_cast (operations f) o.1) (operations f)

-- the tree behind one round, none where there is no cast without uses
abbrev pub first_round : Op → Option Op
first_round f = if has_unused f then Some (op_without (is_unused_cast (operations f)) f) else None
