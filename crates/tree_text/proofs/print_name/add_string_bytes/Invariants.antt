use Rattle.std.proofs.Common.{◌≡◌, ◌++◌, take}
use Rattle.std.specs.Prelude.{flat_map}
use Rattle.tree_text.specs.NameText.{byte_text}
use Rattle.tree_text.specs.Grew.{Grew}
use Rattle.tree_text.proofs.print_name.add_string_bytes.Given as goal

abbrev pub invariant-loop-b : goal.invariant-loop-b
invariant-loop-b l = record { text : l.out ≡ l.initial.out ++ flat_map byte_text (take l.b-index l.bytes); grew : Grew l.initial.out l.out }
