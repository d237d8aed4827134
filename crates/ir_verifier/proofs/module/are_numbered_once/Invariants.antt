use Rattle.std.proofs.Common.{◌≡◌, map, drop}
use Rattle.std.specs.List.{list_all}
use Rattle.plain_tree.specs.Ops.{plain_func}
use Rattle.first_places.specs.Numbering.{is_numbered_once}
use Rattle.ir_verifier.proofs.module.are_numbered_once.Given as goal

abbrev pub invariant-loop-func : goal.invariant-loop-func
invariant-loop-func l = list_all is_numbered_once (map plain_func (drop l.func-index l.funcs)) ≡ list_all is_numbered_once (map plain_func l.funcs)
