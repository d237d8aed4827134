-- A small set of patterns and functions, over which the definitions are shown by examples.
use Rattle.std.specs.Prelude.{ℕ, ◌+◌, ◌*◌, false, List, [], ◌∷◌, Some, codes, if◌then◌else◌}
use Rattle.std.specs.Str.{bytes_eq}
use Rattle.plain_tree.specs.Types.{PlainType, Int}
use Rattle.plain_tree.specs.Ops.{Op, op, ops_in, end_of_regions, region, end_of_blocks, block, Values}
use Rattle.conversion_model.specs.declared.templates.Source.{Source}
use Rattle.conversion_model.specs.declared.templates.Source.TheVariants.{Made}
use Rattle.conversion_model.specs.Templates.{Template}
use Rattle.conversion_model.specs.Targets.{Shape, Target, Legality, Legal, Dynamic, Illegal, Unknown, HasAttr}
use Rattle.conversion_model.specs.Rows.{Pattern, Straight}
use Rattle.conversion_model.specs.Conversion.{Supply}

-- a template of one operation on all operands of an operation with so many, which makes one value of that type
abbrev pub one_op : List ℕ → List Source → PlainType → Template
one_op name sources t = record { steps = record { name = name; props = []; sources = sources; successors = []; makes = t ∷ [] } ∷ []; results = Made 0 ∷ [] }

-- a pattern from a name to another, that takes no operands
abbrev pub to_one : List ℕ → List ℕ → ℕ → Pattern
to_one root made benefit = record { root = root; makes = made ∷ []; benefit = benefit; is_converted = false; row = λ bits. Straight (λ o. Some (one_op made [] (Int 32))) }

-- what a target says of each of a list of names, else Unknown
abbrev pub says : List (List ℕ × Legality) → Target
says [] name = Unknown
says (e ∷ es) name = if bytes_eq e.0 name then e.1 else says es name

-- t.a becomes t.c, or t.b; t.b becomes t.c
abbrev pub test_table : List Pattern
test_table = to_one (codes "t.a") (codes "t.c") 1 ∷ to_one (codes "t.a") (codes "t.b") 9 ∷ to_one (codes "t.b") (codes "t.c") 1 ∷ []

-- the same, where t.b becomes t.f
abbrev pub undone_table : List Pattern
undone_table = to_one (codes "t.a") (codes "t.c") 1 ∷ to_one (codes "t.a") (codes "t.b") 9 ∷ to_one (codes "t.b") (codes "t.f") 1 ∷ []

abbrev pub c_legal : Target
c_legal = says ((codes "t.c", Legal) ∷ (codes "t.a", Illegal) ∷ [])

-- t.c is legal where it has the attribute `ok`
abbrev pub c_dynamic : Target
c_dynamic = says ((codes "t.c", Dynamic (HasAttr (codes "ok"))) ∷ (codes "t.f", Legal) ∷ (codes "t.a", Illegal) ∷ [])

-- an operation of that name without operands and with one result of `i32`
abbrev pub shape_a : List ℕ → Shape
shape_a name = record { name = name; operands = []; results = Int 32 ∷ []; props = []; attrs = []; successors = 0; regions = 0 }

-- a plain operation
abbrev pub plain : List ℕ → Values → List ℕ → Op
plain name results operands = op (record { name = name; props = []; attrs = [] }) results operands end_of_regions []

-- a function of one block
abbrev pub func_of : Values → List Op → Op
func_of args os = op (record { name = codes "t.func"; props = []; attrs = [] }) [] [] (region (block 0 args (ops_in os) end_of_blocks) end_of_regions) []

-- new numbers that are apart from each other and from those below 1,000: 1,000 for each source operation, 100 for each product
abbrev pub counted_up : Supply
counted_up = record {
  row = λ n. record { value = λ k. 1000 * (n + 1) + k; label = λ k. 1000 * (n + 1) + k };
  value = λ n piece k. 1000 * (n + 1) + 100 * (piece + 1) + k;
  parameter = λ k. 900 + k;
  argument = λ label k. 800 + 10 * label + k;
}
