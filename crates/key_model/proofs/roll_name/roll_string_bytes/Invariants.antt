use Rattle.std.proofs.Common.{◌≡◌, take}
use Rattle.std.specs.Prelude.{flat_map}
use Rattle.key_model.specs.Rolled.{rolled}
use Rattle.tree_text.specs.NameText.{byte_text}
use Rattle.key_model.proofs.roll_name.roll_string_bytes.Given as goal

abbrev pub invariant-loop-b : goal.invariant-loop-b
invariant-loop-b l = l.out ≡ rolled l.initial.out (flat_map byte_text (take l.b-index l.bytes))
