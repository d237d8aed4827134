-- The patterns of func_lowering: functions, calls, returns and casts, in converted types.
use Rattle.std.specs.Prelude.{ℕ, true, false, ◌+◌, Bool, List, [], ◌∷◌, ◌++◌, map, length, Option, Some, None, pos, if◌then◌else◌, codes}
use Rattle.std.specs.Str.{bytes_eq}
use Rattle.tree_model.specs.declared.type_tree.Dim.{Dim}
use Rattle.plain_tree.specs.Types.{PlainType, Memref, Func, Ptr, Struct, types_in, types_of, same_type}
use Rattle.plain_tree.specs.Attrs.{Entries, PlainAttr, OfType, Dialect, entry}
use Rattle.conversion_model.specs.declared.templates.Source.{Source}
use Rattle.conversion_model.specs.declared.templates.Source.TheVariants.{Operand}
use Rattle.conversion_model.specs.Types.{becomes, descriptor, number_type, converted_type, signature}
use Rattle.conversion_model.specs.Templates.{Template}
use Rattle.conversion_model.specs.Targets.{Shape}
use Rattle.conversion_model.specs.Rows.{Pattern, Framing, Frame, Part}
use Rattle.pattern_model.specs.Drafts.{Draft, value, effect, gives, draft, is_plain, when}
use Rattle.pattern_model.specs.ArithRows.{lowers, all_types, kept_props}
use Rattle.pattern_model.specs.MemrefRows.{extract, insert, undef}

-- Functions

-- operands from the k-th on put into m at j; j + 1; .. under a path, as many as there are dimensions
abbrev pub parameters_at : ℕ → PlainType → ℕ → ℕ → List Dim → Source → (Source → Draft) → Draft
parameters_at path t k j [] m next = next m
parameters_at path t k j (d ∷ dims) m next = insert m (Operand k) (pos path ∷ pos j ∷ []) t λ u. parameters_at path t (k + 1) (j + 1) dims u next

-- a memref from its fields: pointers, offset, sizes, strides
abbrev pub from_fields : ℕ → List Dim → Draft
from_fields bits dims =
    let t : PlainType = descriptor bits (length dims) in
    undef t λ u.
    insert u (Operand 0) (pos 0 ∷ []) t λ a.
    insert a (Operand 1) (pos 1 ∷ []) t λ b.
    insert b (Operand 2) (pos 2 ∷ []) t λ c.
    parameters_at 3 t 3 0 dims c λ d.
    parameters_at 4 t (3 + length dims) 0 dims d λ m.
    gives (m ∷ [])

abbrev pub fields_of : ℕ → List Dim → List PlainType
fields_of bits dims = Ptr ∷ Ptr ∷ number_type bits ∷ (map (λ d. number_type bits) dims ++ map (λ d. number_type bits) dims)

-- what gives an old argument of that type from the parameters that it becomes
abbrev pub part_of : ℕ → PlainType → Part
part_of bits (Memref dims element) = record { takes = fields_of bits dims; gives = from_fields bits dims 0 }
part_of bits t = record { takes = becomes bits t ∷ []; gives = gives (Operand 0 ∷ []) 0 }

abbrev pub optional : List ℕ → Option PlainAttr → Entries
optional name None = []
optional name (Some a) = (name, a) ∷ []

abbrev pub function_props : PlainType → PlainAttr → Option PlainAttr → Entries
function_props t name visibility =
    (codes "function_type", OfType t) ∷ (codes "linkage", Dialect (codes "llvm.linkage") (codes "external" ∷ [])) ∷ (codes "sym_name", name) ∷ optional (codes "sym_visibility") visibility

abbrev pub without : List ℕ → Entries → Entries
without name [] = []
without name (e ∷ es) = if bytes_eq e.0 name then without name es else e ∷ without name es

abbrev pub frame_by : ℕ → Shape → List PlainType → Option PlainType → Option PlainAttr → Option Frame
frame_by bits o inputs (Some t) (Some name) = Some (record {
  name = codes "llvm.func";
  props = function_props t name (entry (codes "sym_visibility") o.props);
  attrs = without (codes "linkage") o.attrs;
  entry = map (part_of bits) inputs;
})
frame_by bits o inputs _ _ = None

abbrev pub frame_of : ℕ → Shape → Option PlainAttr → Option Frame
frame_of bits o (Some (OfType (Func inputs outputs))) = frame_by bits o (types_of inputs) (signature bits (Func inputs outputs)) (entry (codes "sym_name") o.props)
frame_of bits o _ = None

-- func.func to llvm.func: it keeps its attributes, but one named as a new property
abbrev pub func_row : ℕ → Shape → Option Frame
func_row bits o = frame_of bits o (entry (codes "function_type") o.props)

-- Calls

-- the fields of m at path, j; path, j + 1; .. as many as there are dimensions
abbrev pub fields_at : ℕ → Source → ℕ → ℕ → List Dim → (List Source → Draft) → Draft
fields_at bits m path j [] next = next []
fields_at bits m path j (d ∷ dims) next = extract m (pos path ∷ pos j ∷ []) (number_type bits) λ s. fields_at bits m path (j + 1) dims λ ss. next (s ∷ ss)

abbrev pub fields : ℕ → Source → List Dim → (List Source → Draft) → Draft
fields bits m dims next =
    extract m (pos 0 ∷ []) Ptr λ p.
    extract m (pos 1 ∷ []) Ptr λ q.
    extract m (pos 2 ∷ []) (number_type bits) λ f.
    fields_at bits m 3 0 dims λ ss.
    fields_at bits m 4 0 dims λ ts.
    next (p ∷ q ∷ f ∷ (ss ++ ts))

-- the arguments of a call: a memref as its fields, any other operand itself, from the k-th on
abbrev pub arguments : ℕ → ℕ → List PlainType → (List Source → Draft) → Draft
arguments bits k [] next = next []
arguments bits k (Memref dims element ∷ ts) next = fields bits (Operand k) dims λ ss. arguments bits (k + 1) ts λ rest. next (ss ++ rest)
arguments bits k (t ∷ ts) next = arguments bits (k + 1) ts λ rest. next (Operand k ∷ rest)

-- the results of a call of these types, from the j-th on: the fields of its struct
abbrev pub unpacked : Source → ℕ → List PlainType → (List Source → Draft) → Draft
unpacked m j [] next = next []
unpacked m j (t ∷ ts) next = extract m (pos j ∷ []) t λ r. unpacked m (j + 1) ts λ rs. next (r ∷ rs)

-- the call itself: no result, one result, or the struct of several
abbrev pub called : Entries → List Source → List PlainType → Draft
called props sources [] = effect (codes "llvm.call") sources props [] (gives [])
called props sources (t ∷ []) = value (codes "llvm.call") sources props t λ r. gives (r ∷ [])
called props sources ts = value (codes "llvm.call") sources props (Struct (types_in ts)) λ m. unpacked m 0 ts λ rs. gives rs

abbrev pub call_by : ℕ → Shape → Option Entries → Option Template
call_by bits o None = None
call_by bits o (Some props) = draft (arguments bits 0 o.operands λ sources. called props sources (all_types bits o.results))

-- func.call
abbrev pub call_row : ℕ → Shape → Option Template
call_row bits o = when (is_plain (length o.operands) (length o.results) o) (call_by bits o (kept_props (codes "callee") (entry (codes "callee") o.props)))

-- Returns

-- operands from the j-th on put into m at j; j + 1; ..
abbrev pub packed_in : PlainType → ℕ → List PlainType → Source → (Source → Draft) → Draft
packed_in t j [] m next = next m
packed_in t j (u ∷ us) m next = insert m (Operand j) (pos j ∷ []) t λ v. packed_in t (j + 1) us v next

abbrev pub returned : List Source → Draft
returned sources = effect (codes "llvm.return") sources [] [] (gives [])

abbrev pub return_by : List PlainType → Draft
return_by [] = returned []
return_by (t ∷ []) = returned (Operand 0 ∷ [])
return_by ts = let t : PlainType = Struct (types_in ts) in undef t λ u. packed_in t 0 ts u λ m. returned (m ∷ [])

-- func.return: several operands are first put into one struct
abbrev pub return_row : ℕ → Shape → Option Template
return_row bits o = when (is_plain (length o.operands) 0 o) (draft (return_by (all_types bits o.operands)))

-- Casts

abbrev pub same_converted : Option PlainType → Option PlainType → Bool
same_converted (Some t) (Some u) = same_type t u
same_converted _ _ = false

abbrev pub cast_by : ℕ → List PlainType → List PlainType → Option Template
cast_by bits (t ∷ []) (u ∷ []) = when (same_converted (converted_type bits t) (converted_type bits u)) (draft (gives (Operand 0 ∷ [])))
cast_by bits _ _ = None

-- builtin.unrealized_conversion_cast: the operand itself, for one operand and one result with equal converted types
abbrev pub cast_row : ℕ → Shape → Option Template
cast_row bits o = when (is_plain 1 1 o) (cast_by bits o.operands o.results)

-- Patterns

abbrev pub func_pattern : Pattern
func_pattern = record {
  root = codes "func.func";
  makes = codes "llvm.func" ∷ codes "llvm.mlir.undef" ∷ codes "llvm.insertvalue" ∷ [];
  benefit = 1;
  is_converted = true;
  row = λ bits. Framing (func_row bits);
}

-- the set without casts, in the order of the table
abbrev pub func_set_without_cast : List Pattern
func_set_without_cast =
    func_pattern
    ∷ lowers (codes "func.call") (codes "llvm.extractvalue" ∷ codes "llvm.call" ∷ []) call_row
    ∷ lowers (codes "func.return") (codes "llvm.mlir.undef" ∷ codes "llvm.insertvalue" ∷ codes "llvm.return" ∷ []) return_row
    ∷ []

abbrev pub cast_pattern : Pattern
cast_pattern = lowers (codes "builtin.unrealized_conversion_cast") [] cast_row

abbrev pub func_set : List Pattern
func_set = func_set_without_cast ++ cast_pattern ∷ []
