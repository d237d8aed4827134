use Rattle.std.proofs.Common.{◌∙◌, List, ℕ, map, ap}
use Rattle.std.specs.Prelude.{codes, option_copied, option_map}
use Rattle.tree_model.specs.declared.attr_tree.AttrTree.{AttrTree}
use Rattle.plain_tree.specs.Types.{plain_type}
use Rattle.plain_tree.specs.Attrs.{entry, plain_attr, plain_entries}
use Rattle.func_rows.specs.Entries.{trees_without}
use Rattle.func_rows.proofs.EntryLaws.{frame_made}
use Rattle.func_rows.proofs.functions.framed.Goals as goal

pub returns : goal.returns
returns c =
    frame_made c.args.bits c.args.shape.now (plain_type c.args.t) (plain_attr c.args.name.now) (map plain_type c.args.inputs.now) c.in_ok-name.name c.in_ok-props.props c.in_ok-attrs.attrs c.in_ok-entry.entry
    (option_map plain_attr (option_copied c.find-visibility.result)) c.in_ok-name.ensures
    (c.find-visibility.ensures ∙ ap (λ (es : List (List ℕ × AttrTree)). entry (codes "sym_visibility") (plain_entries es)) c.as_slice.ensures)
    c.in_ok-props.ensures (c.in_ok-attrs.ensures ∙ ap (trees_without (codes "linkage")) c.as_slice-2.ensures) c.in_ok-entry.ensures
