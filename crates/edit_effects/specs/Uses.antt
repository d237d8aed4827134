-- A value in the place of another in all operands.
use Rattle.std.specs.Prelude.{◌==◌, ℕ, map, if◌then◌else◌}
use Rattle.flat_model.specs.declared.nodes.OpNode.{OpNode}
use Rattle.flat_model.specs.Flat.{Flat}
use Rattle.edit_effects.specs.Effects.{Edit, nothing}

abbrev pub replaced : ℕ → ℕ → ℕ → ℕ
replaced from to value = if value == from then to else value

-- a node with each operand `from` replaced
abbrev pub node_replaced : ℕ → ℕ → OpNode → OpNode
node_replaced from to node = record node { operands = map (replaced from to) node.operands }

abbrev pub with_uses : ℕ → ℕ → Flat → Flat
with_uses from to f = record f { ops = map (node_replaced from to) f.ops }

-- each operand `from` is `to`
abbrev pub uses_replaced : ℕ → ℕ → Edit
uses_replaced from to = record nothing { front = λ o. record o { operands = map (replaced from to) o.operands } }
