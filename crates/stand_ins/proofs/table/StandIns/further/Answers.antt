use Rattle.std.proofs.Common.{◌≡◌, sym, ap, subst, ◌∙◌}
use Rattle.stand_ins.specs.Forests.{Forest, IsForest, parent_at, standing}
use Rattle.stand_ins.specs.Tables.{forest_of}
use Rattle.stand_ins.proofs.ForestLaws.{forest_halved, nearer_further, standing_halved, stands_further}
use Rattle.stand_ins.proofs.table.StandIns.further.Goals as goal

pub returns-clause-forest : goal.returns-clause-forest
returns-clause-forest c =
    subst IsForest (sym c.shorten.ensures.new) (forest_halved (forest_of c.args.self.now) c.requires.forest c.args.value c.args.place c.args.next c.requires.place c.requires.next)

pub returns-clause-kept : goal.returns-clause-kept
returns-clause-kept c =
    ap standing c.shorten.ensures.new ∙ standing_halved (forest_of c.args.self.now) c.requires.forest c.args.value c.args.place c.args.next c.requires.place c.requires.next

pub returns-clause-same : goal.returns-clause-same
returns-clause-same c =
    let t : Forest = forest_of c.args.self.now in
    ap (standing t) c.shorten.ensures.result
    ∙ stands_further t c.requires.forest (parent_at t c.args.place) c.args.next c.requires.next
    ∙ stands_further t c.requires.forest c.args.value c.args.place c.requires.place

pub returns-clause-nearer : goal.returns-clause-nearer
returns-clause-nearer c =
    nearer_further (forest_of c.args.self.now) (forest_of c.shorten.new.self) c.requires.forest c.args.value c.args.place c.args.next c.shorten.result c.requires.place c.requires.next c.shorten.ensures.new c.shorten.ensures.result
