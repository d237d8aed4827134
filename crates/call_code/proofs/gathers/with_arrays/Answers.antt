use Rattle.call_code.proofs.GatherLaws.{with_dimensions}
use Rattle.std.proofs.Common.{◌++◌, ◌∷◌, [], ap, ◌∙◌}
use Rattle.call_code.proofs.gathers.with_arrays.Goals as goal

pub returns : goal.returns
returns c =
    with_dimensions c.args.rank c.args.fields.now c.split_at.result.0.now c.split_at.result.1.now c.split_at-2.result.0.now c.split_at-2.result.1.now c.push-2.new.self c.in_ok-together.field-0 c.in_ok-together-2.field-0
    c.requires.some c.split_at.ensures.front c.split_at.ensures.back c.split_at-2.ensures.front c.split_at-2.ensures.back
    (c.in_ok-push-2.ensures.ok ∙ ap (λ l. l ++ c.in_ok-together-2.field-0 ∷ []) (c.in_ok-push.ensures.ok ∙ ap (λ l. l ++ c.in_ok-together.field-0 ∷ []) c.in_ok-parts.ensures))
    c.in_ok-together.ensures c.in_ok-together-2.ensures
