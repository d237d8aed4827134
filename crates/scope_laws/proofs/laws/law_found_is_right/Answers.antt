use Rattle.std.proofs.Common.{◌≡◌, true}
use Rattle.scope_laws.proofs.TurnLaws.{found_right}
use Rattle.scope_laws.proofs.laws.law_found_is_right.Goals as goal

pub returns : goal.returns
returns c = λ out name truth before ahead b a near. let f = found_right out (λ n place. truth n place ≡ true) name before ahead b a near in (f.place, f.is, f.right)
