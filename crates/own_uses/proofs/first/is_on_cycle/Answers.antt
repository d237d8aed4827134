use Rattle.std.proofs.Common.{false, refl, ap, ◌∙◌, length, get_or}
use Rattle.own_uses.proofs.RankLaws.{items_of, on_cycle_by}
use Rattle.own_uses.proofs.first.is_on_cycle.Goals as goal

pub returns : goal.returns
returns c =
    on_cycle_by c.args.edges.now c.args.node c.as_slice-next.result.now (length c.args.edges.now) c.in_ok-marks.marks.items c.is_marked-on.result c.requires
    (items_of c.args.edges.now c.args.node c.index-edges-node.result c.as_slice-next.result.now c.requires c.index-edges-node.is c.as_slice-next.ensures.value) refl c.in_ok-marks.ensures.exact
    (c.is_marked-on.ensures ∙ ap (λ xs. get_or xs c.args.node false) c.as_slice-found.ensures.value)
