use Rattle.std.proofs.Common.{◌≡◌, Some, None, sym, ap, ◌∙◌}
use Rattle.stand_ins.specs.Forests.{Forest, parent_at}
use Rattle.stand_ins.specs.Tables.{forest_of}
use Rattle.stand_ins.proofs.ForestLaws.{nearer_parent}
use Rattle.stand_ins.proofs.table.StandIns.step_from.Goals as goal

pub returns-in-None-clause-nearer : goal.returns-in-None-clause-nearer
returns-in-None-clause-nearer c =
    nearer_parent (forest_of c.args.self.now) c.requires.forest c.args.value c.args.place c.parent-parent.result c.place.result c.requires.place c.place.ensures c.in-None.is
