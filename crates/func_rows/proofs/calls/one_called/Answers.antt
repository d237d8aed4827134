use Rattle.std.proofs.Common.{◌∙◌, ◌∷◌, [], List, refl, sym, ap}
use Rattle.std.specs.Prelude.{codes}
use Rattle.plain_tree.specs.Types.{plain_type}
use Rattle.plain_tree.specs.Attrs.{plain_entries}
use Rattle.conversion_model.specs.declared.templates.Source.{Source}
use Rattle.pattern_model.specs.Drafts.{gives}
use Rattle.row_drafts.specs.Writes.{behind}
use Rattle.row_drafts.proofs.Values.{same_value}
use Rattle.func_rows.proofs.calls.one_called.Goals as goal

pub returns : goal.returns
returns c =
    same_value c.args.writer.now (codes "llvm.call") c.args.sources.now (plain_entries c.args.props) (plain_entries c.args.props) _ _ refl (ap plain_type c.in_ok-kept.ensures) (λ r. gives (r ∷ [])) _ (c.in_ok-value.ensures (λ r. gives (r ∷ [])))
    ∙ ap (λ (rs : List Source). behind c.value.new.self (gives rs)) (sym c.in_ok-results.ensures)
