use Rattle.std.proofs.Common.{◌∙◌, [], List, sym, ap}
use Rattle.plain_tree.specs.Attrs.{plain_entries}
use Rattle.conversion_model.specs.declared.templates.Source.{Source}
use Rattle.pattern_model.specs.Drafts.{gives}
use Rattle.row_drafts.specs.Writes.{behind}
use Rattle.func_rows.proofs.PartLaws.{many_called, none_called}
use Rattle.func_rows.proofs.calls.called.Goals as goal

pub returns-in_ok-effect-in-empty : goal.returns-in_ok-effect-in-empty
returns-in_ok-effect-in-empty c =
    ap (behind c.args.writer.now) (none_called (plain_entries c.args.props) c.args.sources.now c.args.types.now c.in-empty.len_below) ∙ c.in_ok-effect-in-empty.ensures (gives [])
    ∙ ap (λ (rs : List Source). behind c.effect.new.self (gives rs)) (sym c.new.ensures)

pub returns-in_ok-results-in_default : goal.returns-in_ok-results-in_default
returns-in_ok-results-in_default c =
    ap (behind c.args.writer.now) (many_called (plain_entries c.args.props) c.args.sources.now c.args.types.now c.in_default.len_at_least) ∙ c.in_ok-results-in_default.ensures
