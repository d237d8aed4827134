use Rattle.std.proofs.Common.{sym, subst, List}
use Rattle.std.specs.List.{AllZip}
use Rattle.flat_model.specs.declared.nodes.NamedAttr.{NamedAttr}
use Rattle.flat_model.specs.Shows.{EntryShows}
use Rattle.flat_model.proofs.GrowthLaws.{kept_on, entries_later}
use Rattle.ir_arena.specs.Arena.{Arena}
use Rattle.ir_arena.specs.Modules.{ArenaShows}
use Rattle.ir_arena.proofs.ModuleLaws.{func_later, module_read}
use Rattle.ir_arena.proofs.module_cell.Module.to_tree.Goals as goal

pub returns-clause-tree : goal.returns-clause-tree
returns-clause-tree g c = λ t s. module_read t c.in_ok-props.props c.in_ok-attrs.attrs c.in_ok-funcs.funcs
    (c.in_ok-props.ensures.tree t.props (subst (λ (xs : List NamedAttr). AllZip (EntryShows (g.I.Interner.holds c.args.i.now)) xs t.props) (sym c.as_slice.ensures) s.props))
    (c.in_ok-attrs.ensures.tree t.attrs (subst (λ (xs : List NamedAttr). AllZip (EntryShows (g.I.Interner.holds c.dict_tree.new.i)) xs t.attrs) (sym c.as_slice-2.ensures) (entries_later (g.I.Interner.holds c.args.i.now) (g.I.Interner.holds c.dict_tree.new.i) c.dict_tree.ensures.kept _ _ s.attrs)))
    (c.in_ok-funcs.ensures.trees t.funcs (subst (λ (xs : List Arena). AllZip (ArenaShows (g.I.Interner.holds c.dict_tree-2.new.i)) xs t.funcs) (sym c.as_slice-3.ensures) (func_later (g.I.Interner.holds c.args.i.now) (g.I.Interner.holds c.dict_tree-2.new.i) (kept_on _ _ _ c.dict_tree.ensures.kept c.dict_tree-2.ensures.kept) _ _ s.funcs)))
