use Rattle.std.proofs.Common.{subst, List, ℕ}
use Rattle.std.specs.List.{AllZip}
use Rattle.tree_model.specs.declared.attr_tree.AttrTree.{AttrTree}
use Rattle.tree_model.specs.declared.op_tree.FuncTree.{FuncTree}
use Rattle.flat_model.specs.Shows.{EntryShows}
use Rattle.flat_model.proofs.GrowthLaws.{kept_on, entries_later}
use Rattle.ir_arena.specs.Modules.{ArenaShowsSame}
use Rattle.ir_arena.proofs.module_cell.Module.from_tree.Goals as goal

pub returns-clause-shows : goal.returns-clause-shows
returns-clause-shows g c = record {
  props = subst (λ (ts : List (List ℕ × AttrTree)). AllZip (EntryShows (g.I.Interner.holds c.build_funcs.new.i)) c.in_ok-props.props ts) c.as_slice.ensures (entries_later (g.I.Interner.holds c.dict_handles.new.i) (g.I.Interner.holds c.build_funcs.new.i) (kept_on _ _ _ c.dict_handles-2.ensures.kept c.build_funcs.ensures.kept) _ _ c.in_ok-props.ensures.shows);
  attrs = subst (λ (ts : List (List ℕ × AttrTree)). AllZip (EntryShows (g.I.Interner.holds c.build_funcs.new.i)) c.in_ok-attrs.attrs ts) c.as_slice-2.ensures (entries_later (g.I.Interner.holds c.dict_handles-2.new.i) (g.I.Interner.holds c.build_funcs.new.i) c.build_funcs.ensures.kept _ _ c.in_ok-attrs.ensures.shows);
  funcs = subst (λ (ts : List FuncTree). AllZip (ArenaShowsSame (g.I.Interner.holds c.build_funcs.new.i)) c.in_ok-funcs.funcs ts) c.as_slice-3.ensures c.in_ok-funcs.ensures.shows;
}
