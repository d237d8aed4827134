-- An operation that fits keeps the tests wherever it stands.
use Rattle.std.proofs.Common.{◌≡◌, Bool, true, false, [], Option, Some, refl, sym, ap, ◌∙◌, true≢false}
use Rattle.std.specs.List.{list_all}
use Rattle.plain_tree.specs.ValueTypes.{is_value}
use Rattle.rule_model.specs.declared.rules.Rule.TheVariants as rule
use Rattle.rule_model.specs.declared.shapes.Shape.{Shape as Form}
use Rattle.rule_model.specs.declared.shapes.Shape.TheVariants.{Recast, NumberConstant, FlaggedNumbers, TwoNumbers, CompareNumbers, SelectValues, Widen, NarrowNumber, IndexCast, IntegerConstant, FlaggedIntegers, TwoIntegers, CompareIntegers, SelectOwn, NarrowInteger}
use Rattle.rule_model.specs.Rows.{ends_block}
use Rattle.rule_model.specs.Facts.{Facts, Functions, Holder}
use Rattle.rule_model.specs.Types.{operands_fit, results_fit}
use Rattle.rule_model.specs.Parts.{attributes_fit, regions_fit}
use Rattle.rule_model.specs.Control.{successors_fit, terminators_fit}
use Rattle.rule_model.specs.Symbols.{names_fit, signatures_fit, symbols_fit}
use Rattle.rule_model.specs.Rules.{if_registered}
use Rattle.conversion_model.specs.Targets.{Shape}
use Rattle.line_rules.specs.Fits.{facts_alone, Fits, is_line}
use Rattle.line_rules.specs.Kept.{KeepsAll}
use Rattle.line_rules.proofs.SameTypes.{and_true}

-- the facts of an operation without regions and successors
abbrev pub facts_in : Shape → Option Holder → Bool → Facts
facts_in o holder last = record { name = o.name; props = o.props; operands = o.operands; results = o.results; successors = []; regions = []; holder = holder; last = last }

pub record Alone (c : Functions) (o : Shape) (holder : Option Holder) (last : Bool) (s : Form) : Type 0 where
  pub operands : operands_fit (facts_in o holder last) s ≡ operands_fit (facts_alone o) s
  pub results : results_fit (facts_in o holder last) s ≡ results_fit (facts_alone o) s
  pub attributes : attributes_fit (facts_in o holder last) s ≡ attributes_fit (facts_alone o) s
  pub regions : regions_fit (facts_in o holder last) s ≡ true
  pub successors : successors_fit (facts_in o holder last) (Some s) ≡ true
  pub terminators : terminators_fit (facts_in o holder last) (Some s) ≡ true
  pub signatures : signatures_fit (facts_in o holder last) s ≡ true
  pub symbols : symbols_fit c (facts_in o holder last) s ≡ true
  pub names : names_fit (facts_in o holder last) s ≡ true
  pub goes_on : ends_block s ≡ false

pub alone : (c : Functions) (o : Shape) (holder : Option Holder) (last : Bool) (s : Form) → is_line s ≡ true → Alone c o holder last s
alone c o holder last Recast e = record { operands = refl; results = refl; attributes = refl; regions = refl; successors = refl; terminators = refl; signatures = refl; symbols = refl; names = refl; goes_on = refl }
alone c o holder last NumberConstant e = record { operands = refl; results = refl; attributes = refl; regions = refl; successors = refl; terminators = refl; signatures = refl; symbols = refl; names = refl; goes_on = refl }
alone c o holder last FlaggedNumbers e = record { operands = refl; results = refl; attributes = refl; regions = refl; successors = refl; terminators = refl; signatures = refl; symbols = refl; names = refl; goes_on = refl }
alone c o holder last TwoNumbers e = record { operands = refl; results = refl; attributes = refl; regions = refl; successors = refl; terminators = refl; signatures = refl; symbols = refl; names = refl; goes_on = refl }
alone c o holder last CompareNumbers e = record { operands = refl; results = refl; attributes = refl; regions = refl; successors = refl; terminators = refl; signatures = refl; symbols = refl; names = refl; goes_on = refl }
alone c o holder last SelectValues e = record { operands = refl; results = refl; attributes = refl; regions = refl; successors = refl; terminators = refl; signatures = refl; symbols = refl; names = refl; goes_on = refl }
alone c o holder last Widen e = record { operands = refl; results = refl; attributes = refl; regions = refl; successors = refl; terminators = refl; signatures = refl; symbols = refl; names = refl; goes_on = refl }
alone c o holder last NarrowNumber e = record { operands = refl; results = refl; attributes = refl; regions = refl; successors = refl; terminators = refl; signatures = refl; symbols = refl; names = refl; goes_on = refl }
alone c o holder last IndexCast e = record { operands = refl; results = refl; attributes = refl; regions = refl; successors = refl; terminators = refl; signatures = refl; symbols = refl; names = refl; goes_on = refl }
alone c o holder last IntegerConstant e = record { operands = refl; results = refl; attributes = refl; regions = refl; successors = refl; terminators = refl; signatures = refl; symbols = refl; names = refl; goes_on = refl }
alone c o holder last FlaggedIntegers e = record { operands = refl; results = refl; attributes = refl; regions = refl; successors = refl; terminators = refl; signatures = refl; symbols = refl; names = refl; goes_on = refl }
alone c o holder last TwoIntegers e = record { operands = refl; results = refl; attributes = refl; regions = refl; successors = refl; terminators = refl; signatures = refl; symbols = refl; names = refl; goes_on = refl }
alone c o holder last CompareIntegers e = record { operands = refl; results = refl; attributes = refl; regions = refl; successors = refl; terminators = refl; signatures = refl; symbols = refl; names = refl; goes_on = refl }
alone c o holder last SelectOwn e = record { operands = refl; results = refl; attributes = refl; regions = refl; successors = refl; terminators = refl; signatures = refl; symbols = refl; names = refl; goes_on = refl }
alone c o holder last NarrowInteger e = record { operands = refl; results = refl; attributes = refl; regions = refl; successors = refl; terminators = refl; signatures = refl; symbols = refl; names = refl; goes_on = refl }
alone c o holder last _ e = absurd (true≢false (sym e))

pub line_keeps : (c : Functions) (o : Shape) (holder : Option Holder) (last : Bool) → Fits o → KeepsAll c (facts_in o holder last)
line_keeps c o holder last f rule.Operands = ap (if_registered (operands_fit (facts_in o holder last))) f.known ∙ (alone c o holder last f.form f.line).operands ∙ f.operands
line_keeps c o holder last f rule.Results = ap (if_registered (results_fit (facts_in o holder last))) f.known ∙ (alone c o holder last f.form f.line).results ∙ f.results
line_keeps c o holder last f rule.Regions = ap (if_registered (regions_fit (facts_in o holder last))) f.known ∙ (alone c o holder last f.form f.line).regions
line_keeps c o holder last f rule.Attribute = ap (if_registered (attributes_fit (facts_in o holder last))) f.known ∙ (alone c o holder last f.form f.line).attributes ∙ f.attributes
line_keeps c o holder last f rule.Successors = ap (successors_fit (facts_in o holder last)) f.known ∙ (alone c o holder last f.form f.line).successors
line_keeps c o holder last f rule.Terminator = ap (terminators_fit (facts_in o holder last)) f.known ∙ (alone c o holder last f.form f.line).terminators
line_keeps c o holder last f rule.Signature = ap (if_registered (signatures_fit (facts_in o holder last))) f.known ∙ (alone c o holder last f.form f.line).signatures
line_keeps c o holder last f rule.Symbol = ap (if_registered (symbols_fit c (facts_in o holder last))) f.known ∙ (alone c o holder last f.form f.line).symbols
line_keeps c o holder last f rule.Reserved = ap (if_registered (names_fit (facts_in o holder last))) f.known ∙ (alone c o holder last f.form f.line).names
line_keeps c o holder last f rule.ValueType = and_true (list_all is_value o.results) true f.result_values refl
line_keeps c o holder last f rule.Defined = refl
line_keeps c o holder last f rule.OwnUse = refl
