-- The forms of roots and of what replaces them.
use Rattle.std.proofs.Common.{◌≡◌, ℕ, zero, suc, ◌<◌, subst, arith, List, [], ◌∷◌, Option, Some, None, Bool, true, false, refl, sym, ap, ◌∙◌}
use Rattle.std.specs.Prelude.{nat_le, ◌&&◌, codes, map, if◌then◌else◌}
use Rattle.std.specs.Option.{option_map, unwrap_or}
use Rattle.std.specs.Str.{bytes_eq}
use Rattle.tree_model.specs.declared.type_tree.TypeTree.TheVariants.{outs-Int, outs-Index, outs-Memref, outs-Func, outs-Ptr, outs-Void, outs-Struct, outs-Array, outs-LlvmFunc}
use Rattle.tree_model.specs.declared.attr_tree.AttrTree.{out-AttrTree}
use Rattle.tree_model.specs.declared.attr_tree.AttrTree.TheVariants.{outs-Dialect}
use Rattle.operation_model.specs.Forms.{Unknown}
use Rattle.plain_tree.specs.Types.{PlainType, Int, Index, Memref, Func, Ptr, Void, Struct, Array, LlvmFunc, type_tree}
use Rattle.plain_tree.specs.Attrs.{Entries, PlainAttr, Unit, Number, Text, Attrs, Dict, OfType, Symbol, Numbers, Dialect, attr_tree, entries_tree, entry}
use Rattle.conversion_model.specs.Types.{becomes}
use Rattle.form_model.specs.Types.{width, width_at, width_of}
use Rattle.form_model.specs.Properties.{property, level, flags_of, flags_at, flags_in, if_some}
use Rattle.form_model.specs.Classes.{Class, Seen, class_of, classes, form_of, type_at}
use Rattle.pattern_model.specs.ArithRows.{flag_props, kept_props}
use Rattle.row_laws.proofs.Values.{none_is, of_some}

-- Properties

-- a property of a tree is that of its plain form
property_of : (name : List ℕ) (es : Entries) → property name (entries_tree es) ≡ option_map attr_tree (entry name es)
property_of name [] = refl
property_of name (e ∷ es) = go (bytes_eq e.0 name) (property_of name es)
  where
    go : (b : Bool) → property name (entries_tree es) ≡ option_map attr_tree (entry name es)
        → (if b then Some (attr_tree e.1) else property name (entries_tree es)) ≡ option_map attr_tree (if b then Some e.1 else entry name es)
    go true rest = refl
    go false rest = rest

pub level_of : (name : List ℕ) (es : Entries) → level name (entries_tree es) ≡ option_map (λ a. out-AttrTree (attr_tree a)) (entry name es)
level_of name es = ap (λ p. if_some p (λ a. Some (out-AttrTree a))) (property_of name es) ∙ go (entry name es)
  where
    go : (a : Option PlainAttr) → if_some (option_map attr_tree a) (λ a. Some (out-AttrTree a)) ≡ option_map (λ a. out-AttrTree (attr_tree a)) a
    go None = refl
    go (Some a) = refl

-- a property that is kept
pub kept_entry : (name : List ℕ) (props es : Entries) → bytes_eq name name ≡ true → kept_props name (entry name props) ≡ Some es → entry name es ≡ entry name props
kept_entry name props es same = go (entry name props)
  where
    go : (a : Option PlainAttr) → kept_props name a ≡ Some es → entry name es ≡ a
    go None k = absurd (none_is k)
    go (Some a) k = ap (entry name) (sym (of_some k)) ∙ ap (λ b. if b then Some a else None) same

pub kept_level : (name : List ℕ) (props es : Entries) → bytes_eq name name ≡ true → kept_props name (entry name props) ≡ Some es
    → level name (entries_tree es) ≡ level name (entries_tree props)
kept_level name props es same kept = level_of name es ∙ ap (option_map (λ a. out-AttrTree (attr_tree a))) (kept_entry name props es same kept) ∙ sym (level_of name props)

-- flags that are kept
pub kept_flags : (props es : Entries) → flag_props (entry (codes "overflowFlags") props) ≡ Some es → flags_of (entries_tree es) ≡ flags_of (entries_tree props)
kept_flags props es kept = ap flags_at (level_of (codes "overflowFlags") es) ∙ go (entry (codes "overflowFlags") props) kept ∙ sym (ap flags_at (level_of (codes "overflowFlags") props))
  where
    flags_kept : (name : List ℕ) (words : List (List ℕ)) (b : Bool) → (if b then Some ((codes "overflowFlags", Dialect (codes "llvm.overflow") words) ∷ []) else None) ≡ Some es
        → flags_at (option_map (λ a. out-AttrTree (attr_tree a)) (entry (codes "overflowFlags") es)) ≡ flags_in (out-AttrTree (attr_tree (Dialect name words)))
    flags_kept name words true k =
        ap (λ es. flags_at (option_map (λ a. out-AttrTree (attr_tree a)) (entry (codes "overflowFlags") es))) (sym (of_some k))
        ∙ ap flags_in (outs-Dialect (codes "llvm.overflow") words) ∙ sym (ap flags_in (outs-Dialect name words))
    flags_kept name words false k = absurd (none_is k)

    go : (a : Option PlainAttr) → flag_props a ≡ Some es
        → flags_at (option_map (λ a. out-AttrTree (attr_tree a)) (entry (codes "overflowFlags") es)) ≡ flags_at (option_map (λ a. out-AttrTree (attr_tree a)) a)
    go None k = ap (λ es. flags_at (option_map (λ a. out-AttrTree (attr_tree a)) (entry (codes "overflowFlags") es))) (sym (of_some k))
    go (Some (Dialect name words)) k = flags_kept name words (bytes_eq name (codes "arith.overflow")) k
    go (Some (Unit)) k = absurd (none_is k)
    go (Some (Number n t)) k = absurd (none_is k)
    go (Some (Text x)) k = absurd (none_is k)
    go (Some (Attrs x)) k = absurd (none_is k)
    go (Some (Dict x)) k = absurd (none_is k)
    go (Some (OfType x)) k = absurd (none_is k)
    go (Some (Symbol x)) k = absurd (none_is k)
    go (Some (Numbers w x)) k = absurd (none_is k)

-- Widths

-- the width of a type is that of what it becomes
pub width_becomes : (bits : ℕ) → width bits ≡ Some bits → (t : PlainType) → width_of bits (type_tree (becomes bits t)) ≡ width_of bits (type_tree t)
width_becomes bits h Index = ap (width_at bits) (outs-Int bits) ∙ h ∙ sym (ap (width_at bits) outs-Index)
width_becomes bits h (Memref dims element) = ap (width_at bits) (outs-Struct _) ∙ sym (ap (width_at bits) (outs-Memref dims (type_tree element)))
width_becomes bits h (Int w) = refl
width_becomes bits h (Func is os) = refl
width_becomes bits h Ptr = refl
width_becomes bits h Void = refl
width_becomes bits h (Struct fields) = refl
width_becomes bits h (Array n t) = refl
width_becomes bits h (LlvmFunc o is) = refl

-- a width is above 0
from_one : (k w : ℕ) (b c : Bool) → nat_le 1 k ≡ b → (if b && c then Some k else None) ≡ Some w → 0 < w
from_one k w true true e is = let same : k ≡ w = of_some is in grind arith
from_one k w true false e is = absurd (none_is is)
from_one k w false c e is = absurd (none_is is)

pub width_above : (k w : ℕ) → width k ≡ Some w → 0 < w
width_above k w is = from_one k w (nat_le 1 k) (nat_le k 64) refl is

pub type_above : (bits : ℕ) → width bits ≡ Some bits → (t : PlainType) (w : ℕ) → width_of bits (type_tree t) ≡ Some w → 0 < w
type_above bits h (Int k) w is = width_above k w (sym (ap (width_at bits) (outs-Int k)) ∙ is)
type_above bits h Index w is = subst (λ n. 0 < n) (of_some (sym (ap (width_at bits) outs-Index) ∙ is)) (width_above bits bits h)
type_above bits h (Memref dims element) w is = absurd (none_is (sym (ap (width_at bits) (outs-Memref dims (type_tree element))) ∙ is))
type_above bits h (Func ins outs) w is = absurd (none_is (sym (ap (width_at bits) (outs-Func _ _)) ∙ is))
type_above bits h Ptr w is = absurd (none_is (sym (ap (width_at bits) outs-Ptr) ∙ is))
type_above bits h Void w is = absurd (none_is (sym (ap (width_at bits) outs-Void) ∙ is))
type_above bits h (Struct fields) w is = absurd (none_is (sym (ap (width_at bits) (outs-Struct _)) ∙ is))
type_above bits h (Array n t) w is = absurd (none_is (sym (ap (width_at bits) (outs-Array n (type_tree t))) ∙ is))
type_above bits h (LlvmFunc o ins) w is = absurd (none_is (sym (ap (width_at bits) (outs-LlvmFunc (type_tree o) _)) ∙ is))

-- the width of a type at a place of a list
abbrev pub width_in : ℕ → ℕ → List PlainType → Option ℕ
width_in bits n ts = if_some (type_at n (map type_tree ts)) (width_of bits)

pub width_in_becomes : (bits : ℕ) → width bits ≡ Some bits → (n : ℕ) (ts : List PlainType) → width_in bits n (map (becomes bits) ts) ≡ width_in bits n ts
width_in_becomes bits h n [] = refl
width_in_becomes bits h zero (t ∷ ts) = width_becomes bits h t
width_in_becomes bits h (suc n) (t ∷ ts) = width_in_becomes bits h n ts

pub width_in_above : (bits : ℕ) → width bits ≡ Some bits → (n : ℕ) (ts : List PlainType) (w : ℕ) → width_in bits n ts ≡ Some w → 0 < w
width_in_above bits h n [] w is = absurd (none_is is)
width_in_above bits h zero (t ∷ ts) w is = type_above bits h t w is
width_in_above bits h (suc n) (t ∷ ts) w is = width_in_above bits h n ts w is

-- Classes

-- the form of an operation of a known class
pub form_by : (name : List ℕ) (c : Class) → class_of name classes ≡ Some c → (s : Seen) → form_of name s ≡ unwrap_or (c s) Unknown
unfolding form_of
form_by name c e s = ap (λ (o : Option Class). unwrap_or (if_some o (λ class. class s)) Unknown) e
