use Rattle.form_code.proofs.SameTypes.{decides_same}
use Rattle.form_code.proofs.recast.are_same.Goals as goal

pub returns : goal.returns
returns c = decides_same c.args.t.now c.args.u.now c.same_type.result c.same_type.ensures
