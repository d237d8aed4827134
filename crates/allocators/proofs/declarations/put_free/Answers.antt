use Rattle.std.proofs.Common.{◌∙◌, ◌++◌, ap, map}
use Rattle.std.specs.Prelude.{codes}
use Rattle.plain_tree.specs.Types.{PlainType}
use Rattle.plain_tree.specs.Ops.{plain_func}
use Rattle.allocators.specs.Missing.{missing_one}
use Rattle.allocators.proofs.DeclarationLaws.{is_free_type}
use Rattle.allocators.proofs.declarations.put_free.Goals as goal

pub returns : goal.returns
returns c =
    c.in_ok-put_missing.ensures
    ∙ ap (λ (t : PlainType). map plain_func c.args.all.now ++ missing_one (codes "free") t (map plain_func c.args.funcs.now)) (is_free_type c.in_ok-t.t c.in_ok-inputs.inputs c.in_ok-inputs.ensures c.in_ok-t.ensures)
