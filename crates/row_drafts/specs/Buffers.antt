-- Memrefs by their parts.
use Rattle.std.specs.Prelude.{List, Option, Some, None}
use Rattle.tree_model.specs.declared.type_tree.Dim.{Dim}
use Rattle.plain_tree.specs.Types.{PlainType, Memref, plain_type}
use Rattle.row_drafts.specs.declared.buffer.Buffer.{Buffer}

-- the dimensions and the type of the elements, where a type is a memref
abbrev pub as_buffer : PlainType → Option (List Dim × PlainType)
as_buffer (Memref dims element) = Some (dims, element)
as_buffer _ = None

abbrev pub parts_of : Buffer → List Dim × PlainType
parts_of b = (b.dims.now, plain_type b.element.now)
