use Rattle.std.proofs.Common.{[], ap}
use Rattle.std.specs.Prelude.{codes}
use Rattle.plain_tree.specs.Attrs.{plain_entries}
use Rattle.pattern_model.specs.Drafts.{gives}
use Rattle.row_drafts.proofs.Values.{same_effect}
use Rattle.func_rows.proofs.returns.returned.Goals as goal

pub returns : goal.returns
returns c = same_effect c.args.writer.now (codes "llvm.return") c.args.sources.now _ [] (ap plain_entries c.new.ensures) (gives []) _ (c.in_ok-effect.ensures (gives []))
