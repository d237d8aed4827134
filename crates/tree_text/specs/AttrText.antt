-- The printed text of an attribute.
use Rattle.std.specs.Prelude.{ℕ, Bool, true, false, ◌==◌, List, [], ◌∷◌, ◌++◌, if◌then◌else◌, map, codes, decimal, ℤ, pos}
use Rattle.std.specs.Fmt.{signed_decimal}
use Rattle.std.specs.Ordering.{int_eq}
use Rattle.tree_text.specs.Joined.{joined}
use Rattle.tree_text.specs.NameText.{string_text, name_text}
use Rattle.tree_text.specs.TypeText.{type_text}
use Rattle.tree_model.specs.declared.type_tree.TypeTree.{TypeTree, out-TypeTree}
use Rattle.tree_model.specs.declared.type_tree.TypeTree.TheOpen.{TypeTree-F}
use Rattle.tree_model.specs.declared.attr_tree.AttrTree.{AttrTree}
use Rattle.tree_model.specs.declared.attr_tree.AttrTree.TheOpen.{AttrTree-F}
use Rattle.tree_model.specs.declared.attr_tree.AttrTree.TheFolds.{fold-AttrTree}

-- an attribute as it is printed: its text, and whether it is a unit
pub record Shown : Type 0 where
  pub text : List ℕ
  pub is_unit : Bool

-- an attribute that is no unit
abbrev pub valued : List ℕ → Shown
valued text = record { text = text; is_unit = false }

-- whether one level of a type is `i1`
abbrev pub is_bit_at : TypeTree-F TypeTree → Bool
is_bit_at (TypeTree-F.Int width) = width == 1
is_bit_at _ = false

-- whether the type is `i1`
abbrev pub is_bit : TypeTree → Bool
is_bit t = is_bit_at (out-TypeTree t)

-- an integer of `i1`: `false` for 0, else `true`
abbrev pub bit_text : ℤ → List ℕ
bit_text value = if int_eq value (pos 0) then codes "false" else codes "true"

-- an integer: of `i1` a word alone, else the signed value with its type
abbrev pub integer_text : ℤ → TypeTree → List ℕ
integer_text value t = if is_bit t then bit_text value else signed_decimal value ++ codes " : " ++ type_text t

-- what stands behind an entry's name: nothing for a unit, else ` = ` and the attribute
abbrev pub value_text : Bool → List ℕ → List ℕ
value_text true text = []
value_text false text = codes " = " ++ text

-- an entry of a dictionary
abbrev pub entry_text : (List ℕ × Shown) → List ℕ
entry_text e = name_text e.0 ++ value_text e.1.is_unit e.1.text

-- the entries of a dictionary, in the order of the tree. In a well-formed tree they stand in the
-- order of the bytes of their names.
abbrev pub entries_text : List (List ℕ × Shown) → List ℕ
entries_text entries = joined (codes ", ") (map entry_text entries)

-- the numbers of an array behind its width: nothing where there are none
abbrev pub numbers_text : List ℤ → List ℕ
numbers_text [] = []
numbers_text (n ∷ ns) = codes ": " ++ joined (codes ", ") (map signed_decimal (n ∷ ns))

-- the words of a dialect's attribute behind its name: nothing where there are none
abbrev pub words_text : List (List ℕ) → List ℕ
words_text [] = []
words_text (w ∷ ws) = codes "<" ++ joined (codes ", ") (w ∷ ws) ++ codes ">"

-- the text of one level of an attribute, from the texts of the attributes in it
abbrev pub show_step : AttrTree-F Shown → Shown
show_step AttrTree-F.Unit = record { text = codes "unit"; is_unit = true }
show_step (AttrTree-F.Int value t) = valued (integer_text value t)
show_step (AttrTree-F.Str bytes) = valued (string_text bytes)
show_step (AttrTree-F.List items) = valued (codes "[" ++ joined (codes ", ") (map (λ s. s.text) items) ++ codes "]")
show_step (AttrTree-F.Dict entries) = valued (codes "{" ++ entries_text entries ++ codes "}")
show_step (AttrTree-F.OfType t) = valued (type_text t)
show_step (AttrTree-F.Symbol name) = valued (codes "@" ++ name_text name)
show_step (AttrTree-F.Ints width numbers) = valued (codes "array<i" ++ decimal width ++ numbers_text numbers ++ codes ">")
show_step (AttrTree-F.Dialect name words) = valued (codes "#" ++ name ++ words_text words)

-- an attribute as it is printed
abbrev pub shown : AttrTree → Shown
shown = fold-AttrTree Shown show_step

-- the printed text of an attribute
abbrev pub attr_text : AttrTree → List ℕ
attr_text a = (shown a).text

-- entries of attributes with each attribute as it is printed
abbrev pub shown_entries : List (List ℕ × AttrTree) → List (List ℕ × Shown)
shown_entries entries = map (λ e. (e.0, shown e.1)) entries

-- the printed entries of a dictionary
abbrev pub dict_text : List (List ℕ × AttrTree) → List ℕ
dict_text entries = entries_text (shown_entries entries)
