-- The first of the rules that are tests which an operation breaks.
use Rattle.std.specs.Prelude.{Bool, List, [], ◌∷◌, Option, Some, None, if◌then◌else◌}
use Rattle.rule_model.specs.declared.rules.Rule.{Rule}
use Rattle.rule_model.specs.declared.rules.Rule.TheVariants as rule
use Rattle.rule_model.specs.declared.shapes.Shape.{Shape}
use Rattle.rule_model.specs.Facts.{Facts, Functions}
use Rattle.rule_model.specs.Control.{successors_fit}
use Rattle.rule_model.specs.Parts.{attributes_fit, regions_fit}
use Rattle.rule_model.specs.Types.{results_fit}
use Rattle.rule_model.specs.Symbols.{values_fit}
use Rattle.rule_model.specs.Rules as model
use Rattle.operand_tests.specs.Tests.{operands_fit}
use Rattle.rule_tests.specs.Tests as tests

-- whether an operation keeps a rule
unfoldable pub keeps : Functions → Facts → Rule → Bool
keeps = model.keeps

-- the first of these rules that it doesn't keep
abbrev pub first_of : Functions → Facts → List Rule → Option Rule
first_of c f [] = None
first_of c f (r ∷ rs) = if keeps c f r then first_of c f rs else Some r

-- the rules that are tests, in their order
abbrev pub all_tests : List Rule
all_tests =
    rule.Operands ∷ rule.Results ∷ rule.Regions ∷ rule.Attribute ∷ rule.Successors ∷ rule.Terminator
    ∷ rule.Signature ∷ rule.Symbol ∷ rule.Reserved ∷ rule.ValueType ∷ []

-- As code goes through them

abbrev pub unless : Bool → Rule → Option Rule → Option Rule
unless b r next = if b then next else Some r

abbrev pub or_then : Option Rule → Option Rule → Option Rule
or_then None next = next
or_then (Some r) next = Some r

abbrev pub of_shape : Facts → Shape → Option Rule
of_shape f s =
    unless (operands_fit f s) rule.Operands (unless (results_fit f s) rule.Results (unless (regions_fit f s) rule.Regions (unless (attributes_fit f s) rule.Attribute None)))

abbrev pub of_control : Facts → Option Shape → Option Rule
of_control f s = unless (successors_fit f s) rule.Successors (unless (tests.terminators_fit f s) rule.Terminator None)

abbrev pub of_functions : Functions → Facts → Shape → Option Rule
of_functions c f s =
    unless (tests.signatures_fit f s) rule.Signature (unless (tests.symbols_fit c f s) rule.Symbol (unless (tests.names_fit f s) rule.Reserved None))

abbrev pub of_values : Facts → Option Rule
of_values f = unless (values_fit f) rule.ValueType None

abbrev pub of_operation : Functions → Facts → Option Shape → Option Rule
of_operation c f None = or_then (of_control f None) (of_values f)
of_operation c f (Some s) = or_then (of_shape f s) (or_then (of_control f (Some s)) (or_then (of_functions c f s) (of_values f)))
