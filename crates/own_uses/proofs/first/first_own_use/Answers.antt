use Rattle.std.proofs.Common.{subst, ◌∙◌, ap}
use Rattle.plain_tree.specs.Ops.{plain_op}
use Rattle.block_search.specs.Reach.{rows}
use Rattle.own_uses.specs.Flat.{graph}
use Rattle.own_uses.specs.Ranks.{FirstOnCycle}
use Rattle.own_uses.specs.Views.{plain_ops}
use Rattle.own_uses.proofs.Sites.{own_at}
use Rattle.own_uses.proofs.first.first_own_use.Goals as goal

pub returns : goal.returns
returns c =
    own_at (plain_op c.args.function.now) c.in_ok-place.place
    (subst (λ es. FirstOnCycle es c.in_ok-place.place)
    (ap rows c.as_slice-edge_rows.ensures.value ∙ c.in_ok-edges.ensures ∙ ap (λ os. graph (plain_ops os)) c.as_slice-ops.ensures.value ∙ ap graph c.in_ok-all.ensures)
    c.in_ok-place.ensures)
