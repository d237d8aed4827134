-- Worked examples of attributes and dictionaries. A number's name is its value; 0 is `true`, 1 is `false`, and from 2 on stand names and texts.
use Rattle.std.specs.Prelude.{◌≡◌, ℕ, [], ◌∷◌, get_or, codes, pos, negsuc, refl}
use Rattle.tree_model.specs.declared.attr_tree.AttrTree as attr
use Rattle.tree_model.specs.declared.type_tree.TypeTree as type
use Rattle.term_table.specs.declared.node.Form.{Form}
use Rattle.term_table.specs.declared.node.Form.TheVariants as forms
use Rattle.term_table.specs.Terms.{Term, nothing, node}
use Rattle.op_catalog.specs.Table.{shape_of, is_listed}
use Rattle.event_trees.specs.Wording.{Wording}
use Rattle.event_trees.specs.Dictionaries.{props_of, attrs_of}
use Rattle.event_trees.specs.Attrs.{attr_of, written_of}

abbrev words : Wording
words = record {
  spelled = λ name. get_or (codes "true" ∷ codes "false" ∷ codes "b" ∷ codes "a" ∷ codes "#d.m" ∷ codes "nsw" ∷ codes "ab" ∷ codes "B" ∷ []) name [];
  number = λ name. name;
  index = λ name. name;
}

-- Terms

abbrev alone : Form → ℕ → Term
alone form value = node form value nothing nothing

abbrev i : ℕ → Term
i width = alone forms.Int width

-- n : t
abbrev number : ℕ → Term → Term
number n t = node forms.Number n t nothing

abbrev minus : Term → Term
minus t = node forms.Minus 0 t nothing

-- Integers

-- 5 is of i64
plain : attr_of words (alone forms.Number 5) ≡ attr.Int (pos 5) (type.Int 64)
plain = refl

-- 1 : i1 and -1 : i1 are one, as `true` is
one : attr_of words (number 1 (i 1)) ≡ attr.Int (negsuc 0) (type.Int 1)
one = refl

minus_one : attr_of words (minus (number 1 (i 1))) ≡ attr.Int (negsuc 0) (type.Int 1)
minus_one = refl

is_true : attr_of words (alone forms.Bool 0) ≡ attr.Int (negsuc 0) (type.Int 1)
is_true = refl

is_false : attr_of words (alone forms.Bool 1) ≡ attr.Int (pos 0) (type.Int 1)
is_false = refl

-- from the half of its range on a number stands for a negative one
last_below : attr_of words (number 127 (i 8)) ≡ attr.Int (pos 127) (type.Int 8)
last_below = refl

first_above : attr_of words (number 128 (i 8)) ≡ attr.Int (negsuc 127) (type.Int 8)
first_above = refl

-- index is as i64
greatest_index : attr_of words (number 18446744073709551615 (alone forms.Index 0)) ≡ attr.Int (negsuc 0) type.Index
greatest_index = refl

minus_five : attr_of words (minus (number 5 (alone forms.Index 0))) ≡ attr.Int (negsuc 4) type.Index
minus_five = refl

-- Others

-- array<i8: 255, -1, 7>
array : attr_of words (node forms.Numbers 8 (node forms.Listed 255 (node forms.ListedMinus 0 (node forms.Listed 1 (node forms.Listed 7 nothing nothing) nothing) nothing) nothing) nothing)
    ≡ attr.Ints 8 (negsuc 0 ∷ negsuc 0 ∷ pos 7 ∷ [])
array = refl

-- #d.m<nsw>
dialect : attr_of words (node forms.Dialect 4 (node forms.DialectWord 5 nothing nothing) nothing) ≡ attr.Dialect (codes "d.m") (codes "nsw" ∷ [])
dialect = refl

-- [i8, "a"]
list : attr_of words (node forms.Items 0 (node forms.Item 0 (i 8) (node forms.Item 0 (alone forms.Text 3) nothing)) nothing)
    ≡ attr.List (attr.OfType (type.Int 8) ∷ attr.Str (codes "a") ∷ [])
list = refl

-- @a
symbol : attr_of words (alone forms.Symbol 3) ≡ attr.Symbol (codes "a")
symbol = refl

-- Dictionaries

abbrev entry : ℕ → Term → Term → Term
entry name value more = node forms.Entry name value more

abbrev unit : Term
unit = alone forms.Unit 0

-- {b, ab = {b, B}, a}: in order of bytes, within as well
dictionary : attr_of words (node forms.Dict 0 (entry 2 unit (entry 6 (node forms.Dict 0 (entry 2 unit (entry 7 unit nothing)) nothing) (entry 3 unit nothing))) nothing)
    ≡ attr.Dict (
    (codes "a", attr.Unit)
    ∷ (codes "ab", attr.Dict ((codes "B", attr.Unit) ∷ (codes "b", attr.Unit) ∷ []))
    ∷ (codes "b", attr.Unit) ∷ []
    )
dictionary = refl

-- none is no dictionary
no_dictionary : written_of words nothing ≡ []
no_dictionary = refl

-- What moves

-- of a function its type and its name belong to the properties, wherever they are written; another name stays where it is
moved : props_of (codes "func.func") ((codes "x", attr.Unit) ∷ (codes "function_type", attr.Unit) ∷ []) ((codes "y", attr.Unit) ∷ (codes "sym_name", attr.Str (codes "f")) ∷ [])
    ≡ (codes "function_type", attr.Unit) ∷ (codes "sym_name", attr.Str (codes "f")) ∷ (codes "x", attr.Unit) ∷ []
unfolding shape_of is_listed
moved = refl

kept : attrs_of (codes "func.func") ((codes "y", attr.Unit) ∷ (codes "sym_name", attr.Str (codes "f")) ∷ []) ≡ (codes "y", attr.Unit) ∷ []
unfolding shape_of is_listed
kept = refl

-- a name that belongs to another operation stays, and all stay where the operation has no row
other_row : attrs_of (codes "arith.addi") ((codes "value", attr.Unit) ∷ []) ≡ (codes "value", attr.Unit) ∷ []
unfolding shape_of is_listed
other_row = refl

no_row : props_of (codes "t.x") ((codes "k", attr.Unit) ∷ []) ((codes "value", attr.Unit) ∷ []) ≡ (codes "k", attr.Unit) ∷ []
unfolding shape_of is_listed
no_row = refl
