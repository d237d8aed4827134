-- A text's module is numbered so that the verifier's verdict on it needs no condition.
use Rattle.std.proofs.Common.{◌≡◌, ℕ, Bool, List}
use Rattle.tree_model.specs.declared.op_tree.ModuleTree.{ModuleTree}
use Rattle.plain_tree.specs.Ops.{plain_module}
use Rattle.ir_verifier.specs.declared.broken.BrokenRule.{BrokenRule}
use Rattle.ir_verifier.specs.Telling.{Fails, Passes}
use Rattle.ir_verifier.proofs.Verdicts.{never_both, one_way}
use Rattle.tree_reading.specs.Reading.{Reads}
use Rattle.read_numbers.proofs.ReadLaws.{read_once}
use Rattle.tool_cli.specs.Verdicts.{BreaksRule, KeepsRules}

pub keeps_rules : (text : List ℕ) (allowed : Bool) (source : ModuleTree) → Reads text allowed source → Passes (plain_module source) → KeepsRules (plain_module source)
keeps_rules text allowed source reads passes = passes (read_once text allowed source reads)

fails_again : (text : List ℕ) (allowed : Bool) (source : ModuleTree) (rule : BrokenRule) → Reads text allowed source
    → BreaksRule (plain_module source) rule → Fails (plain_module source) rule
fails_again text allowed source rule reads breaks = (read_once text allowed source reads, breaks)

pub never_keeps_and_breaks : (text : List ℕ) (allowed : Bool) (source : ModuleTree) (rule : BrokenRule) → Reads text allowed source
    → BreaksRule (plain_module source) rule → KeepsRules (plain_module source) → ⊥
never_keeps_and_breaks text allowed source rule reads breaks keeps =
    never_both (plain_module source) rule (fails_again text allowed source rule reads breaks) (λ numbered. keeps)

pub one_broken : (text : List ℕ) (allowed : Bool) (source : ModuleTree) (rule other : BrokenRule) → Reads text allowed source
    → BreaksRule (plain_module source) rule → BreaksRule (plain_module source) other → rule ≡ other
one_broken text allowed source rule other reads breaks also =
    one_way (plain_module source) rule other (fails_again text allowed source rule reads breaks) (fails_again text allowed source other reads also)
