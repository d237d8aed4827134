-- The printed text of a type.
use Rattle.std.specs.Prelude.{ℕ, Bool, true, false, List, [], ◌∷◌, ◌++◌, if◌then◌else◌, map, flat_map, codes, decimal}
use Rattle.tree_text.specs.Joined.{joined}
use Rattle.tree_model.specs.declared.type_tree.Dim.{Dim}
use Rattle.tree_model.specs.declared.type_tree.Dim.TheVariants.{Fixed, Dynamic}
use Rattle.tree_model.specs.declared.type_tree.TypeTree.{TypeTree}
use Rattle.tree_model.specs.declared.type_tree.TypeTree.TheOpen.{TypeTree-F}
use Rattle.tree_model.specs.declared.type_tree.TypeTree.TheFolds.{fold-TypeTree}

-- a type as it is printed: its text, which is another one inside a type of the llvm dialect, and
-- whether it is a function type
pub record Printed : Type 0 where
  pub text : Bool → List ℕ
  pub is_function : Bool

-- a type that is no function type
abbrev pub value_type : (Bool → List ℕ) → Printed
value_type text = record { text = text; is_function = false }

-- a type with one text everywhere
abbrev pub plain_type : List ℕ → Printed
plain_type text = value_type (λ inside. text)

-- what leads a type of the llvm dialect: nothing inside another one, else `!llvm.`
abbrev pub llvm_lead : Bool → List ℕ
llvm_lead true = []
llvm_lead false = codes "!llvm."

-- a type of the llvm dialect
abbrev pub llvm_type : List ℕ → Printed
llvm_type text = value_type (λ inside. llvm_lead inside ++ text)

-- a function type
abbrev pub function_type : (Bool → List ℕ) → Printed
function_type text = record { text = text; is_function = true }

-- a type's text, inside a type of the llvm dialect or elsewhere
abbrev pub text_at : Bool → Printed → List ℕ
text_at inside p = p.text inside

-- types in parentheses
abbrev pub listed : Bool → List Printed → List ℕ
listed inside types = codes "(" ++ joined (codes ", ") (map (text_at inside) types) ++ codes ")"

-- the results of a function: one that is no function type is bare, others stand in parentheses
abbrev pub results_at : Bool → List Printed → List ℕ
results_at inside [] = listed inside []
results_at inside (p ∷ []) = if p.is_function then listed inside (p ∷ []) else text_at inside p
results_at inside (p ∷ q ∷ ps) = listed inside (p ∷ q ∷ ps)

-- the type of a function with these inputs and results
abbrev pub signature_at : Bool → List Printed → List Printed → List ℕ
signature_at inside inputs results = listed inside inputs ++ codes " -> " ++ results_at inside results

-- the results of a function, outside any type of the llvm dialect
abbrev pub results_text : List Printed → List ℕ
results_text results = results_at false results

-- the type of a function, outside any type of the llvm dialect
abbrev pub signature_text : List Printed → List Printed → List ℕ
signature_text inputs results = signature_at false inputs results

-- a dimension of a memref, with the `x` behind it
abbrev pub dim_text : Dim → List ℕ
dim_text (Fixed n) = decimal n ++ codes "x"
dim_text Dynamic = codes "?x"

-- the text of one level of a type, from the texts of the types in it. All that stands in a type of
-- the llvm dialect is inside it; what stands in a memref or a function type is where that is.
abbrev pub print_step : TypeTree-F Printed → Printed
print_step (TypeTree-F.Int width) = plain_type (codes "i" ++ decimal width)
print_step TypeTree-F.Index = plain_type (codes "index")
print_step (TypeTree-F.Memref dims element) = value_type (λ inside. codes "memref<" ++ flat_map dim_text dims ++ text_at inside element ++ codes ">")
print_step (TypeTree-F.Func inputs results) = function_type (λ inside. signature_at inside inputs results)
print_step TypeTree-F.Ptr = llvm_type (codes "ptr")
print_step TypeTree-F.Void = llvm_type (codes "void")
print_step (TypeTree-F.Struct fields) = llvm_type (codes "struct<" ++ listed true fields ++ codes ">")
print_step (TypeTree-F.Array n element) = llvm_type (codes "array<" ++ decimal n ++ codes " x " ++ text_at true element ++ codes ">")
print_step (TypeTree-F.LlvmFunc output inputs) = llvm_type (codes "func<" ++ text_at true output ++ codes " " ++ listed true inputs ++ codes ">")

-- a type as it is printed
abbrev pub printed : TypeTree → Printed
printed = fold-TypeTree Printed print_step

-- the printed text of a type
abbrev pub type_text : TypeTree → List ℕ
type_text t = text_at false (printed t)

-- the printed text of types in parentheses
abbrev pub types_text : List TypeTree → List ℕ
types_text types = listed false (map printed types)
