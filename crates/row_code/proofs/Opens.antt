-- The plain forms of types and attributes that are written out, as sets of lemmas.
use Rattle.std.proofs.Common.{◌≡◌, ℕ, true, Some, None, List, [], ◌∷◌, refl, sym, ap, ◌∙◌}
use Rattle.std.specs.Prelude.{ℤ, codes, if◌then◌else◌}
use Rattle.tree_model.specs.declared.type_tree.TypeTree.{TypeTree}
use Rattle.plain_tree.specs.Types.{PlainType, Int, Index, Memref, Func, Ptr, Void, Struct, Array, LlvmFunc, plain_type, type_tree}
use Rattle.tree_model.specs.declared.attr_tree.AttrTree as attr
use Rattle.plain_tree.specs.Attrs.{PlainAttr, Number, Dialect, plain_entries, entries_tree}
use Rattle.plain_tree.proofs.TypeOpens as types
use Rattle.plain_tree.proofs.AttrOpens as attrs
use Rattle.plain_tree.proofs.TypeTrip.{type_trip}
use Rattle.plain_tree.proofs.AttrTrip.{entries_trip}
use Rattle.tree_model.specs.declared.attr_tree.AttrTree.{AttrTree}
use Rattle.std.specs.Str.{bytes_eq}
use Rattle.pattern_model.specs.ArithRows.{flag_props}
use Rattle.pattern_model.specs.Drafts.{constant_value}
use Rattle.row_code.specs.Shapes.{number_kept}

pub ruleset type_opens = (types.plain-Int, types.plain-Index, types.plain-Memref, types.plain-Func, types.plain-Ptr, types.plain-Void, types.plain-Struct, types.plain-Array, types.plain-LlvmFunc)

pub ruleset attr_opens = (types.plain-Int, attrs.plain-Unit, attrs.plain-Int, attrs.plain-Str, attrs.plain-List, attrs.plain-Dict, attrs.plain-OfType, attrs.plain-Symbol, attrs.plain-Ints, attrs.plain-Dialect)

-- a type is the tree of its plain form
pub kept : (t : TypeTree) → type_tree (plain_type t) ≡ t
kept t = type_trip t

constant_is : (t : PlainType) (n : ℤ) → (codes "value", Number (number_kept t n) t) ∷ [] ≡ constant_value t n
constant_is (Int bits) n = refl
constant_is Index n = refl
constant_is (Memref dims element) n = refl
constant_is (Func inputs outputs) n = refl
constant_is Ptr n = refl
constant_is Void n = refl
constant_is (Struct fields) n = refl
constant_is (Array k element) n = refl
constant_is (LlvmFunc output inputs) n = refl

pub constant_props : (t : TypeTree) (n k : ℤ) → k ≡ number_kept (plain_type t) n → plain_entries ((codes "value", attr.Int k t) ∷ []) ≡ constant_value (plain_type t) n
constant_props t n k e =
    ap (λ (a : PlainAttr). (codes "value", a) ∷ []) (attrs.plain-Int k t ∙ ap (λ m. Number m (plain_type t)) e) ∙ constant_is (plain_type t) n

pub llvm_props : (name : List ℕ) (words : List (List ℕ)) (props : List (List ℕ × AttrTree)) → bytes_eq name (codes "arith.overflow") ≡ true
    → props ≡ (codes "overflowFlags", attr.Dialect (codes "llvm.overflow") words) ∷ [] → Some (plain_entries props) ≡ flag_props (Some (Dialect name words))
llvm_props name words props is e =
    ap (λ (es : List (List ℕ × AttrTree)). Some (plain_entries es)) e
    ∙ ap (λ (a : PlainAttr). Some ((codes "overflowFlags", a) ∷ [])) (attrs.plain-Dialect (codes "llvm.overflow") words)
    ∙ sym (ap (λ t. if t then Some ((codes "overflowFlags", Dialect (codes "llvm.overflow") words) ∷ []) else None) is)

-- a dictionary is the tree of its plain form
pub kept_entries : (es : List (List ℕ × AttrTree)) → entries_tree (plain_entries es) ≡ es
kept_entries es = entries_trip es

pub ruleset trips = (kept, kept_entries)
