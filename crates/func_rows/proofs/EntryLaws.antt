-- Entries of dictionaries as trees, and what the attributes of a function say.
use Rattle.std.proofs.Common.{◌≡◌, ℕ, Bool, true, false, List, [], ◌∷◌, ◌++◌, map, Option, Some, None, refl, sym, ap, ◌∙◌}
use Rattle.std.specs.Prelude.{codes, option_map, if◌then◌else◌}
use Rattle.std.specs.Str.{bytes_eq}
use Rattle.tree_model.specs.declared.attr_tree.AttrTree.{AttrTree}
use Rattle.tree_model.specs.declared.attr_tree.AttrTree as attr
use Rattle.tree_model.specs.declared.type_tree.TypeTree.{TypeTree}
use Rattle.plain_tree.specs.Types.{PlainType, Int, Index, Memref, Func, Ptr, Void, Struct, Array, LlvmFunc, plain_type}
use Rattle.plain_tree.specs.Attrs.{PlainAttr, Unit, Number, Text, Attrs, Dict, OfType, Symbol, Numbers, Dialect, Entries, entries_tree, entry, plain_attr, plain_entries}
use Rattle.plain_tree.proofs.AttrOpens.{plain-Dialect, plain-OfType}
use Rattle.plain_tree.proofs.AttrTrip.{attr_trip, entries_trip}
use Rattle.conversion_model.specs.Targets.{Shape}
use Rattle.conversion_model.specs.Rows.{Frame}
use Rattle.conversion_model.specs.Types.{signature}
use Rattle.pattern_model.specs.FuncRows.{frame_by, frame_of, func_row, function_props, part_of, without}
use Rattle.row_code.specs.declared.shape.ShapeTree.{ShapeTree}
use Rattle.row_code.specs.Shapes.{shape_of}
use Rattle.cut_code.specs.declared.frames.FrameTree.{FrameTree}
use Rattle.cut_code.specs.declared.frames.PartTree.{PartTree}
use Rattle.cut_code.specs.Frames.{frame_or_none, part_tree}
use Rattle.func_rows.specs.Entries.{fixed_trees, inputs_in, optional_tree, trees_without, type_in}

-- the properties of a function
front_is : (t : TypeTree) (name : AttrTree) (rest : Entries) (more : List (List ℕ × AttrTree)) → plain_entries more ≡ rest
    → plain_entries (fixed_trees t name ++ more) ≡ (codes "function_type", OfType (plain_type t)) ∷ (codes "linkage", Dialect (codes "llvm.linkage") (codes "external" ∷ [])) ∷ (codes "sym_name", plain_attr name) ∷ rest
front_is t name rest more e =
    ap (λ (a : PlainAttr). (codes "function_type", a) ∷ (codes "linkage", plain_attr (attr.Dialect (codes "llvm.linkage") (codes "external" ∷ []))) ∷ (codes "sym_name", plain_attr name) ∷ plain_entries more) (plain-OfType t)
    ∙ ap (λ (a : PlainAttr). (codes "function_type", OfType (plain_type t)) ∷ (codes "linkage", a) ∷ (codes "sym_name", plain_attr name) ∷ plain_entries more) (plain-Dialect (codes "llvm.linkage") (codes "external" ∷ []))
    ∙ ap (λ (es : Entries). (codes "function_type", OfType (plain_type t)) ∷ (codes "linkage", Dialect (codes "llvm.linkage") (codes "external" ∷ [])) ∷ (codes "sym_name", plain_attr name) ∷ es) e

plain_props : (t : TypeTree) (name : AttrTree) (v : Option AttrTree)
    → plain_entries (fixed_trees t name ++ optional_tree (codes "sym_visibility") v) ≡ function_props (plain_type t) (plain_attr name) (option_map plain_attr v)
plain_props t name None = front_is t name [] [] refl
plain_props t name (Some a) = front_is t name ((codes "sym_visibility", plain_attr a) ∷ []) ((codes "sym_visibility", a) ∷ []) refl

pub props_are : (t : TypeTree) (name : AttrTree) (v : Option AttrTree)
    → fixed_trees t name ++ optional_tree (codes "sym_visibility") v ≡ entries_tree (function_props (plain_type t) (plain_attr name) (option_map plain_attr v))
props_are t name v = sym (entries_trip (fixed_trees t name ++ optional_tree (codes "sym_visibility") v)) ∙ ap entries_tree (plain_props t name v)

-- the attributes
kept_or_not : (b : Bool) (n : List ℕ) (a : AttrTree) (es : Entries) (rest : List (List ℕ × AttrTree)) → rest ≡ entries_tree es
    → (if b then [] else (n, a) ∷ []) ++ rest ≡ entries_tree (if b then es else (n, plain_attr a) ∷ es)
kept_or_not true n a es rest e = e
kept_or_not false n a es rest e = ap (λ (l : List (List ℕ × AttrTree)). (n, a) ∷ l) e ∙ ap (λ (u : AttrTree). (n, u) ∷ entries_tree es) (sym (attr_trip a))

pub without_are : (name : List ℕ) (es : List (List ℕ × AttrTree)) → trees_without name es ≡ entries_tree (without name (plain_entries es))
without_are name [] = refl
without_are name (e ∷ es) = kept_or_not (bytes_eq e.0 name) e.0 e.1 (without name (plain_entries es)) (trees_without name es) (without_are name es)

-- The row by what the attributes say

abbrev by_inputs : ℕ → Shape → PlainType → Option (List PlainType) → Option Frame
by_inputs bits o t None = None
by_inputs bits o t (Some ts) = frame_by bits o ts (signature bits t) (entry (codes "sym_name") o.props)

abbrev by_type : ℕ → Shape → Option PlainType → Option Frame
by_type bits o None = None
by_type bits o (Some t) = by_inputs bits o t (inputs_in t)

abbrev by_attr : ℕ → Shape → Option PlainAttr → Option Frame
by_attr bits o None = None
by_attr bits o (Some a) = by_type bits o (type_in a)

row_is : (bits : ℕ) (o : Shape) (a : Option PlainAttr) → by_attr bits o a ≡ frame_of bits o a
row_is bits o None = refl
row_is bits o (Some (OfType (Func inputs outputs))) = refl
row_is bits o (Some (OfType (Int n))) = refl
row_is bits o (Some (OfType Index)) = refl
row_is bits o (Some (OfType (Memref dims element))) = refl
row_is bits o (Some (OfType Ptr)) = refl
row_is bits o (Some (OfType Void)) = refl
row_is bits o (Some (OfType (Struct fields))) = refl
row_is bits o (Some (OfType (Array n element))) = refl
row_is bits o (Some (OfType (LlvmFunc output inputs))) = refl
row_is bits o (Some Unit) = refl
row_is bits o (Some (Number n t)) = refl
row_is bits o (Some (Text t)) = refl
row_is bits o (Some (Attrs t)) = refl
row_is bits o (Some (Dict t)) = refl
row_is bits o (Some (Symbol t)) = refl
row_is bits o (Some (Numbers n t)) = refl
row_is bits o (Some (Dialect n t)) = refl

-- a function
pub function_is : (bits : ℕ) (o : Shape) (a : PlainAttr) (t : PlainType) (ts : List PlainType) → Some a ≡ entry (codes "function_type") o.props → Some t ≡ type_in a → Some ts ≡ inputs_in t
    → frame_by bits o ts (signature bits t) (entry (codes "sym_name") o.props) ≡ func_row bits o
function_is bits o a t ts e h k = ap (by_inputs bits o t) k ∙ ap (by_type bits o) h ∙ ap (by_attr bits o) e ∙ row_is bits o (entry (codes "function_type") o.props)

pub no_inputs : (bits : ℕ) (o : Shape) (a : PlainAttr) (t : PlainType) → Some a ≡ entry (codes "function_type") o.props → Some t ≡ type_in a → None ≡ inputs_in t → None ≡ func_row bits o
no_inputs bits o a t e h k = ap (by_inputs bits o t) k ∙ ap (by_type bits o) h ∙ ap (by_attr bits o) e ∙ row_is bits o (entry (codes "function_type") o.props)

pub no_type : (bits : ℕ) (o : Shape) (a : PlainAttr) → Some a ≡ entry (codes "function_type") o.props → None ≡ type_in a → None ≡ func_row bits o
no_type bits o a e h = ap (by_type bits o) h ∙ ap (by_attr bits o) e ∙ row_is bits o (entry (codes "function_type") o.props)

pub props_from : (t : TypeTree) (name : AttrTree) (v : Option AttrTree) (fixed props : List (List ℕ × AttrTree)) → fixed ≡ fixed_trees t name → props ≡ fixed ++ optional_tree (codes "sym_visibility") v
    → props ≡ entries_tree (function_props (plain_type t) (plain_attr name) (option_map plain_attr v))
props_from t name v fixed props e h = h ∙ ap (λ (d : List (List ℕ × AttrTree)). d ++ optional_tree (codes "sym_visibility") v) e ∙ props_are t name v

abbrev frame_with : List ℕ → List (List ℕ × AttrTree) → List (List ℕ × AttrTree) → List PartTree → FrameTree
frame_with name props attrs entry = record { name = name; props = props; attrs = attrs; entry = entry }

pub frame_made : (bits : ℕ) (o : ShapeTree) (t : PlainType) (name : PlainAttr) (inputs : List PlainType) (n : List ℕ) (props attrs : List (List ℕ × AttrTree)) (parts : List PartTree) (v : Option PlainAttr)
    → n ≡ codes "llvm.func" → v ≡ entry (codes "sym_visibility") (plain_entries o.props) → props ≡ entries_tree (function_props t name v)
    → attrs ≡ trees_without (codes "linkage") o.attrs → parts ≡ map part_tree (map (part_of bits) inputs)
    → Some (frame_with n props attrs parts) ≡ frame_or_none (frame_by bits (shape_of o) inputs (Some t) (Some name))
frame_made bits o t name inputs n props attrs parts v e f g h k =
    ap (λ m. Some (frame_with m props attrs parts)) e
    ∙ ap (λ (d : List (List ℕ × AttrTree)). Some (frame_with (codes "llvm.func") d attrs parts)) (g ∙ ap (λ u. entries_tree (function_props t name u)) f)
    ∙ ap (λ (d : List (List ℕ × AttrTree)). Some (frame_with (codes "llvm.func") (entries_tree (function_props t name (entry (codes "sym_visibility") (plain_entries o.props)))) d parts)) (h ∙ without_are (codes "linkage") o.attrs)
    ∙ ap (λ (ps : List PartTree). Some (frame_with (codes "llvm.func") (entries_tree (function_props t name (entry (codes "sym_visibility") (plain_entries o.props)))) (entries_tree (without (codes "linkage") (plain_entries o.attrs))) ps)) k
