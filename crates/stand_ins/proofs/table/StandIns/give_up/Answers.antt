use Rattle.stand_ins.specs.Tables.{forest_of}
use Rattle.stand_ins.proofs.ForestLaws.{forest_behind, standing_behind}
use Rattle.stand_ins.proofs.table.StandIns.give_up.Goals as goal

pub returns-clause-forest : goal.returns-clause-forest
returns-clause-forest c =
    forest_behind (forest_of c.args.self.now) (forest_of c.add.new.self) c.requires.forest c.args.from c.args.to c.requires.from c.requires.to c.requires.other c.in_ok-add.ensures

pub returns-clause-replaced : goal.returns-clause-replaced
returns-clause-replaced c =
    standing_behind (forest_of c.args.self.now) (forest_of c.add.new.self) c.requires.forest c.args.from c.args.to c.requires.from c.requires.to c.requires.other c.in_ok-add.ensures
