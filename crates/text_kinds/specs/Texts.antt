-- The texts of kinds and limits.
use Rattle.std.specs.Prelude.{ℕ, List, Option, Some, None, codes}
use Rattle.text_kinds.specs.declared.found.Kind.{Kind}
use Rattle.text_kinds.specs.declared.found.Kind.TheVariants as kinds
use Rattle.text_kinds.specs.declared.texts.LimitText.{LimitText}

abbrev pub kind_name : Kind → List ℕ
kind_name kinds.BadByte = codes "BadByte"
kind_name kinds.OpenString = codes "OpenString"
kind_name kinds.BadEscape = codes "BadEscape"
kind_name kinds.LongNumber = codes "LongNumber"
kind_name kinds.Expected = codes "Expected"
kind_name kinds.ModuleShape = codes "ModuleShape"
kind_name kinds.UnknownOperation = codes "UnknownOperation"
kind_name kinds.RedefinedValue = codes "RedefinedValue"
kind_name kinds.RedefinedBlock = codes "RedefinedBlock"
kind_name kinds.RedefinedAlias = codes "RedefinedAlias"
kind_name kinds.UnknownAlias = codes "UnknownAlias"
kind_name kinds.UnsupportedType = codes "UnsupportedType"
kind_name kinds.UnsupportedAttr = codes "UnsupportedAttr"
kind_name kinds.IntegerRange = codes "IntegerRange"
kind_name kinds.DuplicateAttr = codes "DuplicateAttr"
kind_name kinds.TypeCount = codes "TypeCount"
kind_name kinds.UseType = codes "UseType"
kind_name kinds.ResultIndex = codes "ResultIndex"
kind_name kinds.UndefinedValue = codes "UndefinedValue"
kind_name kinds.UndefinedBlock = codes "UndefinedBlock"
kind_name kinds.RegionDepth = codes "RegionDepth"
kind_name kinds.TypeDepth = codes "TypeDepth"
kind_name kinds.AttrDepth = codes "AttrDepth"
kind_name kinds.Parts = codes "Parts"
kind_name kinds.Functions = codes "Functions"
kind_name kinds.Blocks = codes "Blocks"
kind_name kinds.Operands = codes "Operands"
kind_name kinds.Operations = codes "Operations"
kind_name kinds.ShardFull = codes "ShardFull"

-- the limits: their names, and their numbers
abbrev pub limit_text : Kind → Option (List ℕ × ℕ)
limit_text kinds.RegionDepth = Some (codes "region depth", 64)
limit_text kinds.TypeDepth = Some (codes "type depth", 16)
limit_text kinds.AttrDepth = Some (codes "attribute depth", 16)
limit_text kinds.Parts = Some (codes "parts", 16777216)
limit_text kinds.Functions = Some (codes "functions", 65536)
limit_text kinds.Blocks = Some (codes "blocks", 4096)
limit_text kinds.Operands = Some (codes "operands", 4096)
limit_text kinds.Operations = Some (codes "operations", 262144)
limit_text _ = None

abbrev pub limit_seen : LimitText → List ℕ × ℕ
limit_seen l = (l.name.now, l.number)
