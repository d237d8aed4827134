-- The products of pieces, without new numbers.
use Rattle.std.specs.Prelude.{ℕ, ◌==◌, Bool, true, List, [], ◌∷◌, length, map, Option, Some, None, is_some, if◌then◌else◌}
use Rattle.std.specs.List.{list_all}
use Rattle.tree_model.specs.declared.type_tree.TypeTree.{TypeTree}
use Rattle.plain_tree.specs.Types.{PlainType, Void, plain_type}
use Rattle.plain_tree.specs.Attrs.{plain_entries}
use Rattle.conversion_model.specs.declared.templates.TemplateTree.{TemplateTree}
use Rattle.conversion_model.specs.Templates.{Template}
use Rattle.conversion_model.specs.Targets.{Shape, Target, is_legal}
use Rattle.conversion_model.specs.Chosen.{Leaves}
use Rattle.choice_code.specs.Plain.{plain_or_none}
use Rattle.cut_code.specs.declared.pieces.CutValue.{CutValue}
use Rattle.cut_code.specs.declared.pieces.CutValue.TheVariants.{Old, New}
use Rattle.cut_code.specs.declared.pieces.PieceTree.{PieceTree}
use Rattle.cut_code.specs.declared.pieces.PieceTree.TheVariants.{Product, Opens, Held, Stands}
use Rattle.cut_code.specs.declared.pieces.ProductTree.{ProductTree}

-- the type of the new value at that place, `void` where none is known
abbrev pub type_known : List (ℕ × TypeTree) → ℕ → PlainType
type_known [] k = Void
type_known (v ∷ vs) k = if k == v.0 then plain_type v.1 else type_known vs k

abbrev pub cut_type : (ℕ → PlainType) → List (ℕ × TypeTree) → CutValue → PlainType
cut_type type_of known (Old n) = type_of n
cut_type type_of known (New k) = type_known known k

-- the shape of a product
abbrev pub product_shape : (ℕ → PlainType) → ProductTree → Shape
product_shape type_of p = record {
  name = p.name;
  operands = map (cut_type type_of p.known) p.operands;
  results = map (λ v. plain_type v.1) p.results;
  props = plain_entries p.props;
  attrs = [];
  successors = length p.successors;
  regions = 0;
}

-- the leaves of a product, none where it is legal itself
abbrev pub own_or_leaves : Target → Leaves → Shape → Option Template
own_or_leaves target leaves o = if is_legal target o then None else leaves o

-- the line of a piece: none where it is no product
abbrev pub line_in : Target → Leaves → (ℕ → PlainType) → PieceTree → Option Template
line_in target leaves type_of (Product p) = own_or_leaves target leaves (product_shape type_of p)
line_in target leaves type_of (Opens label args) = None
line_in target leaves type_of (Held r b) = None
line_in target leaves type_of (Stands n t v) = None

-- whether a piece is legalised, where it is a product
abbrev pub is_done : Leaves → (ℕ → PlainType) → PieceTree → Bool
is_done leaves type_of (Product p) = is_some (leaves (product_shape type_of p))
is_done leaves type_of (Opens label args) = true
is_done leaves type_of (Held r b) = true
is_done leaves type_of (Stands n t v) = true

-- the lines of pieces, where each is legalised
abbrev pub lines_in : Target → Leaves → (ℕ → PlainType) → List PieceTree → Option (List (Option Template))
lines_in target leaves type_of ps = if list_all (is_done leaves type_of) ps then Some (map (line_in target leaves type_of) ps) else None

-- Of code

abbrev pub plain_lines : List (Option TemplateTree) → List (Option Template)
plain_lines ls = map plain_or_none ls

abbrev pub lines_or_none : Option (List (Option TemplateTree)) → Option (List (Option Template))
lines_or_none None = None
lines_or_none (Some ls) = Some (plain_lines ls)

abbrev pub line_or_none : Option (Option TemplateTree) → Option (Option Template)
line_or_none None = None
line_or_none (Some l) = Some (plain_or_none l)

-- what is found of one piece
abbrev pub found_in : Target → Leaves → (ℕ → PlainType) → PieceTree → Option (Option Template)
found_in target leaves type_of p = if is_done leaves type_of p then Some (line_in target leaves type_of p) else None

abbrev pub found_of : Target → Leaves → Shape → Option (Option Template)
found_of target leaves o = if is_some (leaves o) then Some (own_or_leaves target leaves o) else None
