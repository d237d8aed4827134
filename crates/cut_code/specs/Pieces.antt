-- Pieces of code in plain form, for new numbers and types of values; and cutting rows by their places.
use Rattle.std.specs.Prelude.{ℕ, List, [], ◌∷◌, Option, Some, None, map}
use Rattle.tree_model.specs.declared.type_tree.TypeTree.{TypeTree}
use Rattle.plain_tree.specs.Types.{PlainType, plain_type}
use Rattle.plain_tree.specs.Attrs.{plain_entries}
use Rattle.plain_tree.specs.Ops.{Op}
use Rattle.conversion_model.specs.Rows.{Numbers, Pattern, Piece, Row, Straight, Cutting, Framing}
use Rattle.conversion_model.specs.Rows as rows
use Rattle.pattern_model.specs.ScfRows.{product, with_type}
use Rattle.cut_code.specs.Sketches.{plain_values}
use Rattle.cut_code.specs.declared.pieces.CutValue.{CutValue}
use Rattle.cut_code.specs.declared.pieces.CutValue.TheVariants as values
use Rattle.cut_code.specs.declared.pieces.CutLabel.{CutLabel}
use Rattle.cut_code.specs.declared.pieces.CutLabel.TheVariants as labels
use Rattle.cut_code.specs.declared.pieces.PieceTree.{PieceTree}
use Rattle.cut_code.specs.declared.pieces.PieceTree.TheVariants.{Product, Opens, Held, Stands}

abbrev pub value_at : Numbers → CutValue → ℕ
value_at new (values.Old n) = n
value_at new (values.New k) = new.value k

abbrev pub label_at : Numbers → CutLabel → ℕ
label_at new (labels.Old n) = n
label_at new (labels.New k) = new.label k

-- the types where new values have these ones
abbrev pub known_types : Numbers → List (ℕ × TypeTree) → (ℕ → PlainType) → ℕ → PlainType
known_types new [] type_of = type_of
known_types new (v ∷ vs) type_of = with_type (new.value v.0) (plain_type v.1) (known_types new vs type_of)

abbrev pub piece_of : Numbers → (ℕ → PlainType) → PieceTree → Piece
piece_of new type_of (Product p) = product (known_types new p.known type_of) p.name (map (λ r. (new.value r.0, plain_type r.1)) p.results) (map (value_at new) p.operands) (plain_entries p.props) (map (label_at new) p.successors)
piece_of new type_of (Opens label args) = rows.Opens (label_at new label) (plain_values args)
piece_of new type_of (Held r b) = rows.Held r b
piece_of new type_of (Stands n t v) = rows.Stands (n, plain_type t) v

abbrev pub pieces_of : Numbers → (ℕ → PlainType) → List PieceTree → List Piece
pieces_of new type_of ps = map (piece_of new type_of) ps

abbrev pub pieces_or_none : Numbers → (ℕ → PlainType) → Option (List PieceTree) → Option (List Piece)
pieces_or_none new type_of None = None
pieces_or_none new type_of (Some ps) = Some (pieces_of new type_of ps)

abbrev pub cutting : Row → Numbers → (ℕ → PlainType) → Op → Option (List Piece)
cutting (Straight row) new type_of o = None
cutting (Cutting row) new type_of o = row new type_of o
cutting (Framing row) new type_of o = None

abbrev pub cutting_at : ℕ → Option Pattern → Numbers → (ℕ → PlainType) → Op → Option (List Piece)
cutting_at bits None new type_of o = None
cutting_at bits (Some p) new type_of o = cutting (p.row bits) new type_of o
