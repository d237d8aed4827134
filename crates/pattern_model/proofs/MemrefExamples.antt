-- Memrefs at both widths.
use Rattle.std.specs.Prelude.{ℕ, ◌≡◌, refl, List, [], ◌∷◌, ℤ, pos, Ok, codes}
use Rattle.tree_model.specs.declared.type_tree.Dim.TheVariants.{Fixed, Dynamic}
use Rattle.plain_tree.specs.Types.{PlainType, Int, Memref, Ptr}
use Rattle.plain_tree.specs.Attrs.{Entries, Numbers}
use Rattle.plain_tree.specs.Ops.{Op}
use Rattle.pipeline_text.specs.declared.pass.PassName.TheVariants.{FullConvertToLlvm}
use Rattle.conversion_model.specs.Types.{descriptor}
use Rattle.pattern_model.specs.PassTable.{pass_tree}
use Rattle.pattern_model.proofs.Trees.{plain, ends, one_block, func, llvm_func, counted_up}

abbrev buffer : PlainType
buffer = Memref (Fixed 2 ∷ Dynamic ∷ []) (Int 16)

abbrev id : Op
id = func (codes "id") (buffer ∷ []) (buffer ∷ []) (one_block 0 ((0, buffer) ∷ []) (ends (codes "func.return") (0 ∷ []) [] [] ∷ []))

abbrev at_place : List ℤ → Entries
at_place path = (codes "position", Numbers 64 path) ∷ []

-- the lowered function where an index has so many bits
abbrev id_lowered : ℕ → Op
id_lowered bits =
    let n : PlainType = Int bits in
    let m : PlainType = descriptor bits 2 in
    llvm_func (codes "id") (Ptr ∷ Ptr ∷ n ∷ n ∷ n ∷ n ∷ n ∷ []) m (one_block 0 ((900, Ptr) ∷ (901, Ptr) ∷ (902, n) ∷ (903, n) ∷ (904, n) ∷ (905, n) ∷ (906, n) ∷ []) (
    plain (codes "llvm.mlir.undef") ((1100, m) ∷ []) [] []
    ∷ plain (codes "llvm.insertvalue") ((1101, m) ∷ []) (1100 ∷ 900 ∷ []) (at_place (pos 0 ∷ []))
    ∷ plain (codes "llvm.insertvalue") ((1102, m) ∷ []) (1101 ∷ 901 ∷ []) (at_place (pos 1 ∷ []))
    ∷ plain (codes "llvm.insertvalue") ((1103, m) ∷ []) (1102 ∷ 902 ∷ []) (at_place (pos 2 ∷ []))
    ∷ plain (codes "llvm.insertvalue") ((1104, m) ∷ []) (1103 ∷ 903 ∷ []) (at_place (pos 3 ∷ pos 0 ∷ []))
    ∷ plain (codes "llvm.insertvalue") ((1105, m) ∷ []) (1104 ∷ 904 ∷ []) (at_place (pos 3 ∷ pos 1 ∷ []))
    ∷ plain (codes "llvm.insertvalue") ((1106, m) ∷ []) (1105 ∷ 905 ∷ []) (at_place (pos 4 ∷ pos 0 ∷ []))
    ∷ plain (codes "llvm.insertvalue") ((1107, m) ∷ []) (1106 ∷ 906 ∷ []) (at_place (pos 4 ∷ pos 1 ∷ []))
    ∷ ends (codes "llvm.return") (1107 ∷ []) [] []
    ∷ []))

id_full : pass_tree FullConvertToLlvm 64 counted_up id ≡ Ok (id_lowered 64)
id_full = refl

id_full_32 : pass_tree FullConvertToLlvm 32 counted_up id ≡ Ok (id_lowered 32)
id_full_32 = refl
