-- What is chosen for an operation that fits.
use Rattle.std.proofs.Common.{◌≤◌, refl, ap, length, arith}
use Rattle.conversion_model.specs.Targets.{Shape}
use Rattle.conversion_model.specs.Chosen.{counted}
use Rattle.pattern_model.specs.ArithRows.{arith_set}
use Rattle.pattern_model.specs.ExpandRows.{expand_set}
use Rattle.line_rules.specs.Fits.{Fits}
use Rattle.fitting_rows.specs.Promises.{ArithChosenFits, ExpandChosenFits}
use Rattle.fitting_rows.proofs.FitArith.{arith_fits}
use Rattle.fitting_rows.proofs.FitExpand.{expand_fits}
use Rattle.fitting_rows.proofs.FitShapes.{width_of}
use Rattle.fitting_rows.proofs.TypedChoice.{own_shape, table_typed}

pub few_results : (o : Shape) → Fits o → length o.results ≤ 1
few_results o f = omega (arith, f.one)

pub own_fits : (o : Shape) → Fits o → Fits (own_shape o)
own_fits o f = record {
  form = f.form;
  known = f.known;
  line = f.line;
  name = f.name;
  operands = f.operands;
  results = f.results;
  attributes = f.attributes;
  operand_values = f.operand_values;
  operands_formed = f.operands_formed;
  result_values = f.result_values;
  results_formed = f.results_formed;
  props = f.props;
  one = f.one;
  bare = refl;
  ends_here = ap (λ n. length (counted 0 n)) f.ends_here;
}

pub expand_chosen : ExpandChosenFits
expand_chosen bits target path = table_typed Fits bits target expand_set path few_results own_fits (expand_fits bits)

pub arith_chosen : ArithChosenFits
arith_chosen bits w target path = table_typed Fits bits target arith_set path few_results own_fits (arith_fits bits (width_of bits w))
