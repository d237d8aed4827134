use Rattle.std.proofs.Common.{◌≡◌, arith, sym, subst, ◌∙◌, List, ℕ}
use Rattle.std.specs.List.{AllZip}
use Rattle.std.proofs.lemmas.Grind.{common_steps}
use Rattle.tree_model.specs.declared.op_tree.OpTree.{out-OpTree}
use Rattle.flat_model.specs.declared.nodes.NamedAttr.{NamedAttr}
use Rattle.flat_model.specs.Flat.{op_at}
use Rattle.flat_model.specs.Shows.{Itself, EntryShows, ValueShows}
use Rattle.flat_model.proofs.GrowthLaws.{kept_on, entries_later}
use Rattle.ir_arena.proofs.ToTreeLaws.{zip_itself, op_read}
use Rattle.ir_arena.proofs.fronts.front_tree.Goals as goal

pub returns-clause-tree : goal.returns-clause-tree
returns-clause-tree g c = λ t s e. op_read t c.in_ok-name.name c.in_ok-results.results c.in_ok-operands.operands c.in_ok-props.props c.in_ok-attrs.attrs c.args.regions c.in_ok-successors.successors
    (let h : c.in_ok-name.name ≡ (op_at c.args.f.now.flat c.args.op).name = (grind (arith, common_steps)) in h ∙ s.name)
    (c.in_ok-results.ensures.tree (out-OpTree t).results (subst (λ (xs : List ℕ). AllZip (ValueShows (g.I.Interner.holds c.args.i.now) Itself c.args.f.now.flat) xs (out-OpTree t).results) (sym c.results.ensures.results) s.results))
    (let h : c.in_ok-operands.operands ≡ (op_at c.args.f.now.flat c.args.op).operands = (grind (arith, common_steps)) in h ∙ zip_itself _ _ s.operands)
    (c.in_ok-props.ensures.tree (out-OpTree t).props (subst (λ (xs : List NamedAttr). AllZip (EntryShows (g.I.Interner.holds c.value_trees.new.i)) xs (out-OpTree t).props) (sym c.props.ensures) (entries_later (g.I.Interner.holds c.args.i.now) (g.I.Interner.holds c.value_trees.new.i) c.value_trees.ensures.kept _ _ s.props)))
    (c.in_ok-attrs.ensures.tree (out-OpTree t).attrs (subst (λ (xs : List NamedAttr). AllZip (EntryShows (g.I.Interner.holds c.dict_tree.new.i)) xs (out-OpTree t).attrs) (sym c.attrs.ensures) (entries_later (g.I.Interner.holds c.args.i.now) (g.I.Interner.holds c.dict_tree.new.i) (kept_on _ _ _ c.value_trees.ensures.kept c.dict_tree.ensures.kept) _ _ s.attrs)))
    e
    (let h : c.in_ok-successors.successors ≡ (op_at c.args.f.now.flat c.args.op).successors = (grind (arith, common_steps)) in h ∙ zip_itself _ _ s.successors)
