-- How a refusal of the text, or of the module, is told.
use Rattle.std.specs.Prelude.{ℕ, List, [], ◌++◌, Option, Some, None, unwrap_or, codes, decimal}
use Rattle.std.specs.List.{slice_get}
use Rattle.tree_model.specs.declared.op_tree.FuncTree.{FuncTree}
use Rattle.tree_model.specs.declared.op_tree.ModuleTree.{ModuleTree}
use Rattle.tree_model.specs.declared.op_tree.OpTree.{out-OpTree}
use Rattle.plain_tree.specs.Attrs.{plain_entries}
use Rattle.rule_model.specs.declared.rules.Rule.{Rule}
use Rattle.rule_model.specs.declared.rules.Rule.TheVariants as rules
use Rattle.rule_model.specs.Facts.{name_in}
use Rattle.ir_verifier.specs.declared.broken.BrokenRule.{BrokenRule}
use Rattle.ordered_diags.specs.Failures.{symbol_text}
use Rattle.text_kinds.specs.declared.found.Kind.{Kind}
use Rattle.text_kinds.specs.declared.found.Kind.TheVariants as kinds
use Rattle.tool_cli.specs.declared.status.Status.TheVariants.{Refused, Limit}
use Rattle.tool_cli.specs.Told.{Reply, refusal}

-- the name and the number of a limit that a text passes
abbrev pub limit_of : Kind → Option (List ℕ)
limit_of kinds.RegionDepth = Some (codes "region depth 64")
limit_of kinds.TypeDepth = Some (codes "type depth 16")
limit_of kinds.AttrDepth = Some (codes "attribute depth 16")
limit_of kinds.Parts = Some (codes "parts 16777216")
limit_of kinds.Functions = Some (codes "functions 65536")
limit_of kinds.Blocks = Some (codes "blocks 4096")
limit_of kinds.Operands = Some (codes "operands 4096")
limit_of kinds.Operations = Some (codes "operations 262144")
limit_of _ = None

-- the names of all kinds
abbrev pub kind_name : Kind → List ℕ
kind_name kinds.BadByte = codes "BadByte"
kind_name kinds.OpenString = codes "OpenString"
kind_name kinds.BadEscape = codes "BadEscape"
kind_name kinds.LongNumber = codes "LongNumber"
kind_name kinds.Expected = codes "Expected"
kind_name kinds.ModuleShape = codes "ModuleShape"
kind_name kinds.UnknownOperation = codes "UnknownOperation"
kind_name kinds.RedefinedValue = codes "RedefinedValue"
kind_name kinds.RedefinedBlock = codes "RedefinedBlock"
kind_name kinds.RedefinedAlias = codes "RedefinedAlias"
kind_name kinds.UnknownAlias = codes "UnknownAlias"
kind_name kinds.UnsupportedType = codes "UnsupportedType"
kind_name kinds.UnsupportedAttr = codes "UnsupportedAttr"
kind_name kinds.IntegerRange = codes "IntegerRange"
kind_name kinds.DuplicateAttr = codes "DuplicateAttr"
kind_name kinds.TypeCount = codes "TypeCount"
kind_name kinds.UseType = codes "UseType"
kind_name kinds.ResultIndex = codes "ResultIndex"
kind_name kinds.UndefinedValue = codes "UndefinedValue"
kind_name kinds.UndefinedBlock = codes "UndefinedBlock"
kind_name kinds.RegionDepth = codes "RegionDepth"
kind_name kinds.TypeDepth = codes "TypeDepth"
kind_name kinds.AttrDepth = codes "AttrDepth"
kind_name kinds.Parts = codes "Parts"
kind_name kinds.Functions = codes "Functions"
kind_name kinds.Blocks = codes "Blocks"
kind_name kinds.Operands = codes "Operands"
kind_name kinds.Operations = codes "Operations"
kind_name kinds.ShardFull = codes "ShardFull"

-- a limit by its name and number; another kind by its byte and its name
abbrev pub told : ℕ → Kind → Option (List ℕ) → Reply
told place kind (Some limit) = refusal Limit (codes "limit: " ++ limit)
told place kind None = refusal Refused (codes "refused: text at " ++ decimal place ++ codes ": " ++ kind_name kind)

-- a text that is refused at this byte as of this kind
abbrev pub refused : ℕ → Kind → Reply
refused place kind = told place kind (limit_of kind)

-- the names of all rules
abbrev pub rule_name : Rule → List ℕ
rule_name rules.Operands = codes "Operands"
rule_name rules.Results = codes "Results"
rule_name rules.Regions = codes "Regions"
rule_name rules.Attribute = codes "Attribute"
rule_name rules.Successors = codes "Successors"
rule_name rules.Terminator = codes "Terminator"
rule_name rules.Signature = codes "Signature"
rule_name rules.Symbol = codes "Symbol"
rule_name rules.Reserved = codes "Reserved"
rule_name rules.ValueType = codes "ValueType"
rule_name rules.Defined = codes "Defined"
rule_name rules.OwnUse = codes "OwnUse"

-- the name of a function, an empty one where it has none or it is no text
abbrev pub name_of : FuncTree → List ℕ
name_of f = unwrap_or (name_in (plain_entries (out-OpTree f.op).props)) []

abbrev pub function_name : Option FuncTree → List ℕ
function_name None = []
function_name (Some f) = name_of f

-- a module that breaks a rule: the function as a symbol, the number of the operation and the rule
abbrev pub broken : ModuleTree → BrokenRule → Reply
broken m b =
    refusal Refused (codes "refused: " ++ symbol_text (function_name (slice_get m.funcs b.function)) ++ codes " operation " ++ decimal b.operation ++ codes ": " ++ rule_name b.rule)
