use Rattle.std.proofs.Common.{◌∙◌, map, refl}
use Rattle.std.specs.Prelude.{codes}
use Rattle.plain_tree.specs.Types.{plain_type}
use Rattle.plain_tree.specs.Attrs.{plain_entries}
use Rattle.pattern_model.specs.Drafts.{gives}
use Rattle.pattern_model.specs.FuncRows.{unpacked}
use Rattle.row_drafts.proofs.Values.{same_value}
use Rattle.func_rows.proofs.calls.struct_called.Goals as goal

pub returns : goal.returns
returns c =
    same_value c.args.writer.now (codes "llvm.call") c.args.sources.now (plain_entries c.args.props) (plain_entries c.args.props) _ _ refl c.in_ok-t.ensures (λ m. unpacked m 0 (map plain_type c.args.types.now) (λ rs. gives rs)) _ (c.in_ok-value.ensures (λ m. unpacked m 0 (map plain_type c.args.types.now) (λ rs. gives rs)))
    ∙ c.in_ok-results.ensures (λ rs. gives rs)
