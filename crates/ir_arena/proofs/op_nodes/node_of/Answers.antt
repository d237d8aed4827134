use Rattle.std.proofs.Common.{arith, List, ℕ, subst}
use Rattle.std.specs.List.{AllZip}
use Rattle.std.proofs.lemmas.Grind.{common_steps}
use Rattle.tree_model.specs.declared.attr_tree.AttrTree.{AttrTree}
use Rattle.flat_model.specs.Shows.{EntryShows}
use Rattle.flat_model.proofs.GrowthLaws.{entries_later}
use Rattle.ir_arena.proofs.op_nodes.node_of.Goals as goal

pub returns-clause-shows : goal.returns-clause-shows
returns-clause-shows g c = record {
  name = grind (arith, common_steps);
  operands = grind (arith, common_steps);
  props = subst (λ (ts : List (List ℕ × AttrTree)). AllZip (EntryShows (g.I.Interner.holds c.dict_handles-2.new.i)) c.in_ok-props.props ts) c.as_slice.ensures (entries_later (g.I.Interner.holds c.dict_handles.new.i) (g.I.Interner.holds c.dict_handles-2.new.i) c.dict_handles-2.ensures.kept _ _ c.in_ok-props.ensures.shows);
  attrs = subst (λ (ts : List (List ℕ × AttrTree)). AllZip (EntryShows (g.I.Interner.holds c.dict_handles-2.new.i)) c.in_ok-attrs.attrs ts) c.as_slice-2.ensures c.in_ok-attrs.ensures.shows;
  successors = grind (arith, common_steps);
}
