-- How rows are written: the operations of a template one after another, in the order of the text.
use Rattle.std.specs.Prelude.{ℕ, ◌+◌, ◌-◌, ◌%◌, ◌^◌, ◌==◌, nat_lt, Bool, true, false, ◌&&◌, List, [], ◌∷◌, length, Option, Some, None, ℤ, pos, negsuc, neg_ℤ, if◌then◌else◌, codes}
use Rattle.plain_tree.specs.Types.{PlainType, Int}
use Rattle.plain_tree.specs.Attrs.{Entries, Number, Numbers}
use Rattle.conversion_model.specs.declared.templates.Source.{Source}
use Rattle.conversion_model.specs.declared.templates.Source.TheVariants.{Made}
use Rattle.conversion_model.specs.Templates.{Template}
use Rattle.conversion_model.specs.Targets.{Shape}
use Rattle.conversion_model.specs.Chosen.{with_step}

-- what is left of a template, where so many values were made
abbrev pub Draft : Type 0
Draft = ℕ → Template

-- an operation that makes one value of that type, and the rest, which may use the value
abbrev pub value : List ℕ → List Source → Entries → PlainType → (Source → Draft) → Draft
value name sources props t next n =
    with_step (record { name = name; sources = sources; props = props; successors = []; makes = t ∷ [] }) (next (Made n) (n + 1))

-- an operation that makes no value and goes on to these successors, and the rest
abbrev pub effect : List ℕ → List Source → Entries → List ℕ → Draft → Draft
effect name sources props successors next n =
    with_step (record { name = name; sources = sources; props = props; successors = successors; makes = [] }) (next n)

-- what the results stand for
abbrev pub gives : List Source → Draft
gives results n = record { steps = []; results = results }

-- the whole template
abbrev pub draft : Draft → Option Template
draft d = Some (d 0)

-- Properties

-- the number of a predicate
abbrev pub predicate : ℕ → Entries
predicate n = (codes "predicate", Number (pos n) (Int 64)) ∷ []

-- a number that is kept as a value of so many bits, read as signed
abbrev pub read_signed : ℕ → ℕ → ℤ
read_signed bits n = if nat_lt n (2 ^ (bits - 1)) then pos n else neg_ℤ (pos (2 ^ bits - n))

abbrev pub wrapped : ℕ → ℤ → ℤ
wrapped bits (pos n) = read_signed bits (n % (2 ^ bits))
wrapped bits (negsuc n) = read_signed bits (2 ^ bits - 1 - (n % (2 ^ bits)))

-- the property of a constant of that type: of an integer the value in its bits, so that 1 of `i1` is kept as -1
abbrev pub constant_value : PlainType → ℤ → Entries
constant_value (Int bits) n = (codes "value", Number (wrapped bits n) (Int bits)) ∷ []
constant_value t n = (codes "value", Number n t) ∷ []

-- the sizes of the segments of a branch's operands
abbrev pub sizes : List ℤ → Entries
sizes ns = (codes "operandSegmentSizes", Numbers 32 ns) ∷ []

-- What rows ask of a shape

-- whether an operation takes so many operands, gives so many results, and has neither successors nor regions
abbrev pub is_plain : ℕ → ℕ → Shape → Bool
is_plain operands results o = (length o.operands == operands) && ((length o.results == results) && ((o.successors == 0) && (o.regions == 0)))

abbrev pub when : Bool → Option Template → Option Template
when true t = t
when false t = None
