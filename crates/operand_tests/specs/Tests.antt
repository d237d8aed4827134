-- The tests as code sees them: over the table of shapes by its name.
use Rattle.std.specs.Prelude.{Bool, true, List, Option, Some, None}
use Rattle.plain_tree.specs.Types.{PlainType, same_type}
use Rattle.rule_model.specs.declared.shapes.Shape.{Shape}
use Rattle.rule_model.specs.declared.shapes.Shape.TheVariants.{Yield, Condition}
use Rattle.rule_model.specs.Facts.{Facts, Holder}
use Rattle.rule_model.specs.Types as model
use Rattle.op_catalog.specs.Table.{shape_of}

-- a type is this part, where there is one
abbrev pub is_part : Option PlainType → PlainType → Bool
is_part None u = true
is_part (Some part) u = same_type u part

abbrev pub passed_on : Shape → Holder → Option (List PlainType)
passed_on Yield h = model.yielded (shape_of h.name) h
passed_on Condition h = model.conditioned (shape_of h.name) h
passed_on _ h = None

abbrev pub asked_at : Shape → Option Holder → Option (List PlainType)
asked_at s None = None
asked_at s (Some h) = passed_on s h

abbrev pub operands_fit : Facts → Shape → Bool
operands_fit f Yield = model.same_if_asked (asked_at Yield f.holder) f.operands
operands_fit f Condition = model.same_if_asked (asked_at Condition f.holder) f.operands
operands_fit f s = model.operands_fit f s
