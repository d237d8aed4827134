use Rattle.std.proofs.Common.{sym, ◌∙◌, ap, true≢false}
use Rattle.block_search.specs.Reach.{rows}
use Rattle.own_uses.specs.Ranks.{is_apart}
use Rattle.own_uses.proofs.RankLaws.{items_of, no_cycle}
use Rattle.own_uses.proofs.first.is_cyclic.Goals as goal

pub returns-then-is_apart : goal.returns-then-is_apart
returns-then-is_apart c = (
  λ e. absurd (true≢false (sym e)),
  λ r. absurd (no_cycle c.args.ranks.now (rows c.args.edges.now) c.args.node c.requires.right
      (ap (is_apart c.args.ranks.now c.args.node)
      (sym (items_of c.args.edges.now c.args.node c.index-edges-node.result c.as_slice-row.result.now c.requires.node c.index-edges-node.is c.as_slice-row.ensures.value))
      ∙ sym c.is_apart.ensures ∙ c.if-is_apart.true) r),
)
