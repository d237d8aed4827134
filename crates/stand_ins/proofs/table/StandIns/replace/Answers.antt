use Rattle.std.proofs.Common.{◌≡◌, sym, ap, ◌∙◌}
use Rattle.stand_ins.specs.Tables.{forest_of, stands_for}
use Rattle.stand_ins.proofs.ForestLaws.{standing_twice}
use Rattle.stand_ins.proofs.table.StandIns.replace.Goals as goal

pub replace_by-requires-clause-to : goal.replace_by-requires-clause-to
replace_by-requires-clause-to c =
    ap (λ f. f c.number-to.result) c.number-to.ensures.kept
    ∙ ap (stands_for c.args.self.now) c.number-to.ensures.number
    ∙ standing_twice (forest_of c.args.self.now) c.requires c.args.to
    ∙ sym c.number-to.ensures.number
