-- What each row of a set makes of one shape, in the order of the set.
use Rattle.std.specs.Prelude.{ℕ, List, [], ◌∷◌, map, ℤ, Option, Some, None, codes}
use Rattle.plain_tree.specs.Types.{PlainType, Int}
use Rattle.plain_tree.specs.Attrs.{Entries, Number, Numbers}
use Rattle.conversion_model.specs.declared.templates.Source.{Source}
use Rattle.conversion_model.specs.declared.templates.Source.TheVariants.{Operand, Made}
use Rattle.conversion_model.specs.Templates.{Step, Template}
use Rattle.conversion_model.specs.Targets.{Shape}
use Rattle.conversion_model.specs.Rows.{Row, Straight, Cutting, Framing, Pattern}

abbrev pub straight : Row → Shape → Option Template
straight (Straight row) o = row o
straight (Cutting row) o = None
straight (Framing row) o = None

-- an operation of these types, without regions and successors
abbrev pub shape : List PlainType → List PlainType → Entries → List ℕ → Shape
shape operands results props name = record { name = name; operands = operands; results = results; props = props; attrs = []; successors = 0; regions = 0 }

-- the template of each row on the shape that has its root as name
abbrev pub table_at : ℕ → (List ℕ → Shape) → List Pattern → List (Option Template)
table_at bits shape_named ps = map (λ (p : Pattern). straight (p.row bits) (shape_named p.root)) ps

abbrev pub step : List ℕ → List Source → Entries → List PlainType → Step
step name sources props makes = record { name = name; sources = sources; props = props; successors = []; makes = makes }

-- steps, and the value that the one result is
abbrev pub steps_to : List Step → ℕ → Option Template
steps_to steps n = Some (record { steps = steps; results = Made n ∷ [] })

-- steps of an operation without results
abbrev pub steps_only : List Step → Option Template
steps_only steps = Some (record { steps = steps; results = [] })

-- one operation
abbrev pub alone : List ℕ → List Source → Entries → PlainType → Option Template
alone name sources props t = steps_to (step name sources props (t ∷ []) ∷ []) 0

abbrev pub the_operand : Option Template
the_operand = Some (record { steps = []; results = Operand 0 ∷ [] })

abbrev pub predicate_of : ℤ → Entries
predicate_of n = (codes "predicate", Number n (Int 64)) ∷ []

abbrev pub at_place : List ℤ → Entries
at_place path = (codes "position", Numbers 64 path) ∷ []
