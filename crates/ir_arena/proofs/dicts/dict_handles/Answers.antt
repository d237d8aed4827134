use Rattle.std.proofs.Common.{arith}
use Rattle.std.proofs.lemmas.Grind.{common_steps}
use Rattle.flat_model.proofs.GrowthLaws.{kept_on}
use Rattle.ir_arena.proofs.BuildLaws.{next_entry}
use Rattle.ir_arena.proofs.dicts.dict_handles.Goals as goal

pub loop-entry-preserved : goal.loop-entry-preserved
loop-entry-preserved g c = record {
  ready = grind (arith, common_steps);
  fixed = grind (arith, common_steps);
  cap = grind (arith, common_steps);
  kept = kept_on _ _ _ c.loop-entry.invariant.kept c.entry_handle.ensures.kept;
  shows = next_entry (g.I.Interner.holds c.loop-entry.i) (g.I.Interner.holds c.entry_handle.new.i) c.loop-entry.entries c.push.new.self c.args.dict.now c.loop-entry.entry-index c.in_ok-entry.entry c.entry-item.result
      c.entry_handle.ensures.kept c.loop-entry.invariant.shows c.in_ok-entry.ensures.shows c.entry-item.is (grind (arith, common_steps)) (grind (arith, common_steps));
}
