-- The rows of func_lowering.
use Rattle.std.specs.Prelude.{ℕ, ◌≡◌, refl, List, [], ◌∷◌, ◌++◌, ℤ, pos, Some, None, codes}
use Rattle.tree_model.specs.declared.type_tree.Dim.TheVariants.{Fixed, Dynamic}
use Rattle.plain_tree.specs.Types.{PlainType, Int, Index, Memref, Ptr, Func, LlvmFunc, Struct, types_in}
use Rattle.plain_tree.specs.Attrs.{Entries, Unit, Text, Symbol, OfType, Dialect}
use Rattle.conversion_model.specs.declared.templates.Source.{Source}
use Rattle.conversion_model.specs.declared.templates.Source.TheVariants.{Operand, Made}
use Rattle.conversion_model.specs.Types.{descriptor}
use Rattle.conversion_model.specs.Templates.{Step}
use Rattle.conversion_model.specs.Targets.{Shape}
use Rattle.pattern_model.specs.FuncRows.{func_set, func_row}
use Rattle.pattern_model.proofs.RowTables.{shape, table_at, step, steps_only, alone, the_operand, at_place}

abbrev buffer : PlainType
buffer = Memref (Dynamic ∷ Fixed 3 ∷ []) (Int 8)

abbrev callee : Entries
callee = (codes "callee", Symbol (codes "g")) ∷ []

abbrev extract : Source → List ℤ → PlainType → Step
extract m path t = step (codes "llvm.extractvalue") (m ∷ []) (at_place path) (t ∷ [])

-- the fields of a memref that is an operand, at its two dimensions
abbrev fields : Source → PlainType → List Step
fields m n =
    extract m (pos 0 ∷ []) Ptr ∷ extract m (pos 1 ∷ []) Ptr ∷ extract m (pos 2 ∷ []) n
    ∷ extract m (pos 3 ∷ pos 0 ∷ []) n ∷ extract m (pos 3 ∷ pos 1 ∷ []) n ∷ extract m (pos 4 ∷ pos 0 ∷ []) n ∷ extract m (pos 4 ∷ pos 1 ∷ []) n ∷ []

-- several results are the fields of one struct
call_32 : table_at 32 (shape (Index ∷ buffer ∷ Int 5 ∷ []) (buffer ∷ Index ∷ []) callee) func_set ≡ None ∷ Some (record {
  steps = fields (Operand 1) (Int 32)
      ++ step (codes "llvm.call") (Operand 0 ∷ Made 0 ∷ Made 1 ∷ Made 2 ∷ Made 3 ∷ Made 4 ∷ Made 5 ∷ Made 6 ∷ Operand 2 ∷ []) callee (Struct (types_in (descriptor 32 2 ∷ Int 32 ∷ [])) ∷ [])
      ∷ extract (Made 7) (pos 0 ∷ []) (descriptor 32 2) ∷ extract (Made 7) (pos 1 ∷ []) (Int 32) ∷ [];
  results = Made 8 ∷ Made 9 ∷ [];
}) ∷ None ∷ None ∷ []
call_32 = refl

call_one : table_at 64 (shape [] (Index ∷ []) callee) func_set ≡ None ∷ alone (codes "llvm.call") [] callee (Int 64) ∷ None ∷ None ∷ []
call_one = refl

-- a call without results, and a return of one operand
call_none : table_at 64 (shape (Index ∷ []) [] callee) func_set ≡ None ∷ steps_only (step (codes "llvm.call") (Operand 0 ∷ []) callee [] ∷ []) ∷ steps_only (step (codes "llvm.return") (Operand 0 ∷ []) [] [] ∷ []) ∷ None ∷ []
call_none = refl

-- a return of several operands puts them into one struct
return_two : table_at 32 (shape (Index ∷ Ptr ∷ []) [] []) func_set ≡ None ∷ None ∷ steps_only (
    step (codes "llvm.mlir.undef") [] [] (Struct (types_in (Int 32 ∷ Ptr ∷ [])) ∷ [])
    ∷ step (codes "llvm.insertvalue") (Made 0 ∷ Operand 0 ∷ []) (at_place (pos 0 ∷ [])) (Struct (types_in (Int 32 ∷ Ptr ∷ [])) ∷ [])
    ∷ step (codes "llvm.insertvalue") (Made 1 ∷ Operand 1 ∷ []) (at_place (pos 1 ∷ [])) (Struct (types_in (Int 32 ∷ Ptr ∷ [])) ∷ [])
    ∷ step (codes "llvm.return") (Made 2 ∷ []) [] [] ∷ []) ∷ None ∷ []
return_two = refl

-- a cast between equal converted types is its operand, at this width; between others it has no row
cast_same : table_at 32 (shape (Index ∷ []) (Int 32 ∷ []) []) func_set ≡ None ∷ None ∷ None ∷ the_operand ∷ []
cast_same = refl

cast_other : table_at 64 (shape (Index ∷ []) (Int 32 ∷ []) []) func_set ≡ None ∷ None ∷ None ∷ None ∷ []
cast_other = refl

-- A function: its type is the signature, a property that it makes hides an attribute of that name, and each old argument
-- is given by the parameters that it becomes.
func_shape : Shape
func_shape = record {
  name = codes "func.func";
  operands = [];
  results = [];
  props = (codes "arg_attrs", Unit) ∷ (codes "function_type", OfType (Func (types_in (Index ∷ Memref (Dynamic ∷ []) Index ∷ [])) (types_in (Index ∷ Int 1 ∷ [])))) ∷ (codes "sym_name", Text (codes "f")) ∷ (codes "sym_visibility", Text (codes "private")) ∷ [];
  attrs = (codes "linkage", Unit) ∷ (codes "note", Unit) ∷ [];
  successors = 0;
  regions = 1;
}

abbrev whole : PlainType
whole = descriptor 32 1

abbrev insert : ℕ → ℕ → List ℤ → Step
insert m k path = step (codes "llvm.insertvalue") (Made m ∷ Operand k ∷ []) (at_place path) (whole ∷ [])

func_32 : func_row 32 func_shape ≡ Some (record {
  name = codes "llvm.func";
  props =
      (codes "function_type", OfType (LlvmFunc (Struct (types_in (Int 32 ∷ Int 1 ∷ []))) (types_in (Int 32 ∷ Ptr ∷ Ptr ∷ Int 32 ∷ Int 32 ∷ Int 32 ∷ []))))
      ∷ (codes "linkage", Dialect (codes "llvm.linkage") (codes "external" ∷ [])) ∷ (codes "sym_name", Text (codes "f")) ∷ (codes "sym_visibility", Text (codes "private")) ∷ [];
  attrs = (codes "note", Unit) ∷ [];
  entry =
      record { takes = Int 32 ∷ []; gives = record { steps = []; results = Operand 0 ∷ [] } }
      ∷ record {
        takes = Ptr ∷ Ptr ∷ Int 32 ∷ Int 32 ∷ Int 32 ∷ [];
        gives = record {
          steps = step (codes "llvm.mlir.undef") [] [] (whole ∷ [])
              ∷ insert 0 0 (pos 0 ∷ []) ∷ insert 1 1 (pos 1 ∷ []) ∷ insert 2 2 (pos 2 ∷ []) ∷ insert 3 3 (pos 3 ∷ pos 0 ∷ []) ∷ insert 4 4 (pos 4 ∷ pos 0 ∷ []) ∷ [];
          results = Made 5 ∷ [];
        };
      } ∷ [];
})
unfolding func_shape
func_32 = refl
