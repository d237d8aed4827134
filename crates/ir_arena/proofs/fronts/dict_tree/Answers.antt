use Rattle.std.proofs.Common.{arith, ◌∙◌}
use Rattle.std.proofs.lemmas.Grind.{common_steps}
use Rattle.flat_model.specs.Shows.{EntryShows}
use Rattle.flat_model.proofs.GrowthLaws.{kept_on}
use Rattle.ir_arena.proofs.ToTreeLaws.{entry_read, zip_all}
use Rattle.ir_arena.proofs.fronts.dict_tree.Goals as goal

pub loop-entry-preserved : goal.loop-entry-preserved
loop-entry-preserved g c = record {
  ready = grind (arith, common_steps);
  fixed = grind (arith, common_steps);
  cap = grind (arith, common_steps);
  kept = kept_on _ _ _ c.loop-entry.invariant.kept c.attr_of_handle.ensures.kept;
  trees = entry_read (g.I.Interner.holds c.args.i.now) (g.I.Interner.holds c.loop-entry.i) c.args.entries.now c.entry-item.result c.loop-entry.trees c.push.new.self c.loop-entry.entry-index c.in_ok-name.name c.in_ok-value.value c.loop-entry.invariant.kept c.loop-entry.invariant.trees c.entry-item.is (grind (arith, common_steps)) (grind (arith, common_steps))
      c.in_ok-value.ensures.tree (grind (arith, common_steps));
}

pub returns-clause-tree : goal.returns-clause-tree
returns-clause-tree g c = λ ts z. c.loop-entry.invariant.trees ts z ∙ zip_all (EntryShows (g.I.Interner.holds c.args.i.now)) c.args.entries.now ts c.loop-entry.entry-index z (omega arith)
