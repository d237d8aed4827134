use Rattle.std.proofs.Common.{◌≡◌, ◌++◌, take}
use Rattle.std.specs.Prelude.{flat_map}
use Rattle.tree_text.specs.TypeText.{dim_text}
use Rattle.tree_text.specs.Grew.{Grew}
use Rattle.tree_text.proofs.print_type.add_dims.Given as goal

abbrev pub invariant-loop-dim : goal.invariant-loop-dim
invariant-loop-dim l = record { text : l.out ≡ l.initial.out ++ flat_map dim_text (take l.dim-index l.dims); grew : Grew l.initial.out l.out }
