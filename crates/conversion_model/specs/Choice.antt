-- The choice for a source operation: what replaces it.
use Rattle.std.specs.Prelude.{ℕ, ◌+◌, Bool, List, [], ◌∷◌, length, map, Option, Some, None, is_some, ◌&&◌, true, if◌then◌else◌}
use Rattle.plain_tree.specs.Types.{PlainType}
use Rattle.plain_tree.specs.Ops.{Op, op, Values, region, block}
use Rattle.conversion_model.specs.declared.templates.Source.{Source}
use Rattle.conversion_model.specs.declared.templates.Source.TheVariants.{Operand, Made}
use Rattle.conversion_model.specs.Templates.{Template}
use Rattle.conversion_model.specs.Targets.{Shape, Target, is_legal, name_of, shape_of, shape_with}
use Rattle.conversion_model.specs.Rows.{Row, Straight, Cutting, Framing, Pattern, Numbers, Piece, Product, Opens, Held, Stands, Frame, Part}
use Rattle.conversion_model.specs.Chosen.{State, Leaves, Ranked, and_then, or_else, products, here, change_of, by_row, order, chosen, cast, with_step, with_result}

-- what replaces a source operation: nothing, operations one after another, the pieces of a pattern at that place, a
-- frame whose first block begins by that template
pub data Choice : Type 0 where
  Stays : Choice
  Line : Template → Choice
  Cuts : ℕ → List Piece → Choice
  Frames : Frame → Template → Choice

-- whether each product of the pieces is legalised
abbrev pub all_legalised : Leaves → List Piece → Bool
all_legalised leaves [] = true
all_legalised leaves (Product o types ∷ ps) = is_some (leaves (shape_with types o)) && all_legalised leaves ps
all_legalised leaves (Opens label args ∷ ps) = all_legalised leaves ps
all_legalised leaves (Held r b ∷ ps) = all_legalised leaves ps
all_legalised leaves (Stands result value ∷ ps) = all_legalised leaves ps

-- the new parameters from the k-th on, as operands
abbrev pub parameters_from : ℕ → List PlainType → List Source
parameters_from k [] = []
parameters_from k (t ∷ ts) = Operand k ∷ parameters_from (k + 1) ts

abbrev pub first_result : List Source → Source
first_result [] = Operand 0
first_result (r ∷ rs) = r

abbrev pub at_part : ℕ → List PlainType → ℕ → State
at_part base takes n = record { operands = parameters_from base takes; operand_types = takes; made = []; made_types = []; count = n }

-- a part's value, with a cast behind where the type of the old argument changes
abbrev pub give_part : Option PlainType → PlainType → Source → (ℕ → Option Template) → ℕ → Option Template
give_part None t value next n = and_then (next n) (λ rest. Some (with_result value rest))
give_part (Some u) t value next n = and_then (next (n + 1)) (λ rest. Some (with_step (cast value t) (with_result (Made n) rest)))

-- The steps at a function's start: for each old argument, of these types, the leaves of what gives it from the new
-- parameters that it takes, which stand from `base` on, and a cast behind where its type changes.
abbrev pub entry_leaves : (PlainType → Option PlainType) → Leaves → List PlainType → ℕ → List Part → ℕ → Option Template
entry_leaves change leaves [] base parts n = Some (record { steps = []; results = [] })
entry_leaves change leaves (t ∷ ts) base [] n = Some (record { steps = []; results = [] })
entry_leaves change leaves (t ∷ ts) base (p ∷ parts) n =
    products leaves (λ s. give_part (change t) t (first_result (map (here s) p.gives.results)) (entry_leaves change leaves ts (base + length p.takes) parts) s.count) p.gives.steps (at_part base p.takes n)

-- the types of the arguments of an operation's first block
abbrev pub first_arguments : Op → Values
first_arguments (op k results operands (region (block label args ops blocks) regions) successors) = args
first_arguments _ = []

abbrev pub frame_shape : Frame → Shape
frame_shape f = record { name = f.name; operands = []; results = []; props = f.props; attrs = f.attrs; successors = 0; regions = 1 }

-- a frame, where the function that it makes is legalised and so is each product at its start
abbrev pub framed : (PlainType → Option PlainType) → Leaves → Op → Frame → Option Choice
framed change leaves o f =
    and_then (leaves (frame_shape f)) (λ same. and_then (entry_leaves change leaves (map (λ v. v.1) (first_arguments o)) 0 f.entry 0) (λ entry. Some (Frames f entry)))

-- by the row of a pattern at that place, where it is defined and its products are legalised
abbrev pub row_choice : ℕ → Bool → Leaves → Numbers → (ℕ → PlainType) → Op → ℕ → Row → Option Choice
row_choice bits converted leaves new type_of o place (Straight row) = and_then (by_row bits converted leaves (shape_of type_of o) (Straight row)) (λ t. Some (Line t))
row_choice bits converted leaves new type_of o place (Cutting row) = and_then (row new type_of o) (λ ps. if all_legalised leaves ps then Some (Cuts place ps) else None)
row_choice bits converted leaves new type_of o place (Framing row) = and_then (row (shape_of type_of o)) (framed (change_of bits converted) leaves o)

-- the first pattern in order whose row is defined and all of whose products are legalised on the path with it
abbrev pub first_choice : ℕ → (List ℕ → Leaves) → Numbers → (ℕ → PlainType) → Op → List Ranked → Option Choice
first_choice bits leaves new type_of o [] = None
first_choice bits leaves new type_of o (r ∷ rs) =
    or_else (row_choice bits r.pattern.is_converted (leaves (r.place ∷ [])) new type_of o r.place (r.pattern.row bits)) (first_choice bits leaves new type_of o rs)

-- what replaces a source operation, none where it is not legalised; the new values and labels are for its row
abbrev pub choice : ℕ → Target → List Pattern → Numbers → (ℕ → PlainType) → Op → Option Choice
choice bits target table new type_of o =
    if is_legal target (shape_of type_of o) then Some Stays
    else first_choice bits (chosen bits target table) new type_of o (order target table (name_of o))
