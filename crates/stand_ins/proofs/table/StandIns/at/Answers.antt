use Rattle.stand_ins.specs.Tables.{forest_of}
use Rattle.stand_ins.proofs.ForestLaws.{nearer_step}
use Rattle.stand_ins.proofs.table.StandIns.at.Goals as goal

pub each-smaller : goal.each-smaller
each-smaller c =
    nearer_step (forest_of c.args.self.now) c.requires c.each.reached c.in-Some.place c.parent-reached.result c.place.result c.place.ensures c.in-Some.is c.parent-reached.ensures
