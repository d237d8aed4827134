-- What functions show, as the definitions have it.
use Rattle.std.specs.Prelude.{ℕ, List, length, map, Option}
use Rattle.tree_model.specs.declared.type_tree.TypeTree.{TypeTree, out-TypeTree}
use Rattle.std.specs.Option.{option_map}
use Rattle.tree_model.specs.declared.op_tree.OpTree.{OpTree}
use Rattle.operation_model.specs.Calling.{packing_of}
use Rattle.run_code.specs.Views.{face_of}
use Rattle.form_model.specs.Codes.{Face, Function, OpsEnd}
use Rattle.form_model.specs.Types.{shape_of, widths_of}
use Rattle.form_model.specs.Decoding as model
use Rattle.decode_code.specs.declared.signatures.Signature.{Signature}

abbrev pub signature_view : Signature → model.Signature
signature_view s = record { face = face_of s.face; inputs = s.inputs.now }

-- what a function shows, and one of the llvm dialect
abbrev pub func_face : ℕ → List TypeTree → List TypeTree → Face
func_face bits inputs results = record { inputs = widths_of bits inputs; outputs = widths_of bits results; packing = packing_of (length results) }

abbrev pub llvm_face : ℕ → TypeTree → List TypeTree → Face
llvm_face bits output inputs =
    record { inputs = widths_of bits inputs; outputs = model.llvm_outputs_at bits output (out-TypeTree output); packing = model.llvm_packing_at (out-TypeTree output) }

-- the function of this name and type
abbrev pub typed : ℕ → List ℕ → TypeTree → OpTree → Option Function
typed bits name t o =
    option_map (λ s. record { name = name; face = s.face; shapes = map shape_of s.inputs; body = model.first_blocks (model.code_of bits (model.values_in o) o OpsEnd) })
    (model.signature_at bits (out-TypeTree t))
