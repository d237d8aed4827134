use Rattle.std.proofs.Common.{◌∙◌, sym, ap}
use Rattle.plain_tree.specs.Types.{plain_type, type_tree}
use Rattle.plain_tree.proofs.TypeTrip.{type_trip}
use Rattle.func_rows.proofs.SameTypes.{decides}
use Rattle.func_rows.proofs.casts.have_same.Goals as goal

pub returns : goal.returns
returns c = decides c.same_type.result (plain_type c.args.t.now) (plain_type c.args.u.now) (λ h. ap plain_type (c.same_type.ensures.0 h)) (λ e. c.same_type.ensures.1 (sym (type_trip c.args.t.now) ∙ ap type_tree e ∙ type_trip c.args.u.now))
