-- The parts of the rows, as code writes them.
use Rattle.std.specs.Prelude.{ℕ, ◌+◌, List, [], ◌∷◌, Option, Some, None, length, pos, codes}
use Rattle.tree_model.specs.declared.type_tree.Dim.{Dim}
use Rattle.plain_tree.specs.Types.{PlainType, Ptr, Struct, types_in}
use Rattle.plain_tree.specs.Attrs.{Entries}
use Rattle.conversion_model.specs.declared.templates.Source.{Source}
use Rattle.conversion_model.specs.declared.templates.Source.TheVariants.{Operand}
use Rattle.conversion_model.specs.Types.{number_type}
use Rattle.pattern_model.specs.Drafts.{Draft, gives, value}
use Rattle.pattern_model.specs.FuncRows.{arguments, called, fields, packed_in, parameters_at, returned, unpacked}
use Rattle.pattern_model.specs.ArithRows.{all_types}
use Rattle.conversion_model.specs.Targets.{Shape}
use Rattle.pattern_model.specs.MemrefRows.{extract, insert, undef}

-- a memref of that type from its fields
abbrev pub from_fields_as : PlainType → List Dim → (Source → Draft) → Draft
from_fields_as t dims next =
    undef t λ u.
    insert u (Operand 0) (pos 0 ∷ []) t λ a.
    insert a (Operand 1) (pos 1 ∷ []) t λ b.
    insert b (Operand 2) (pos 2 ∷ []) t λ c.
    parameters_at 3 t 3 0 dims c λ d.
    parameters_at 4 t (3 + length dims) 0 dims d next

-- the pointers and the offset of a memref
abbrev pub front_fields : ℕ → Source → (List Source → Draft) → Draft
front_fields bits m next =
    extract m (pos 0 ∷ []) Ptr λ p.
    extract m (pos 1 ∷ []) Ptr λ q.
    extract m (pos 2 ∷ []) (number_type bits) λ f.
    next (p ∷ q ∷ f ∷ [])

-- an argument of a call, by the parts of its memref where it is one
abbrev pub one_argument : ℕ → ℕ → Option (List Dim × PlainType) → (List Source → Draft) → Draft
one_argument bits k None next = next (Operand k ∷ [])
one_argument bits k (Some b) next = fields bits (Operand k) b.0 next

-- a call whose results are the fields of a struct
abbrev pub struct_draft : Entries → List Source → List PlainType → Draft
struct_draft props sources ts = value (codes "llvm.call") sources props (Struct (types_in ts)) λ m. unpacked m 0 ts λ rs. gives rs

abbrev pub call_draft : ℕ → Entries → Shape → Draft
call_draft bits props o = arguments bits 0 o.operands λ sources. called props sources (all_types bits o.results)

-- a return of a struct of operands of these types
abbrev pub struct_returned : List PlainType → Draft
struct_returned ts = let t : PlainType = Struct (types_in ts) in undef t λ u. packed_in t 0 ts u λ m. returned (m ∷ [])
