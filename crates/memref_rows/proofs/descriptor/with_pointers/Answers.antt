use Rattle.std.proofs.Common.{◌∙◌, ◌∷◌, []}
use Rattle.std.specs.Prelude.{pos}
use Rattle.plain_tree.specs.Types.{plain_type}
use Rattle.pattern_model.specs.MemrefRows.{insert}
use Rattle.memref_rows.proofs.descriptor.with_pointers.Goals as goal

pub returns : goal.returns
returns c = λ next.
    c.in_ok-nothing.ensures (λ v_nothing. insert v_nothing c.args.pointer (pos 0 ∷ []) (plain_type c.args.t.now) λ v_allocated. insert v_allocated c.args.pointer (pos 1 ∷ []) (plain_type c.args.t.now) λ v_aligned. insert v_aligned c.args.offset (pos 2 ∷ []) (plain_type c.args.t.now) next)
    ∙ c.in_ok-allocated.ensures (λ v_allocated. insert v_allocated c.args.pointer (pos 1 ∷ []) (plain_type c.args.t.now) λ v_aligned. insert v_aligned c.args.offset (pos 2 ∷ []) (plain_type c.args.t.now) next)
    ∙ c.in_ok-aligned.ensures (λ v_aligned. insert v_aligned c.args.offset (pos 2 ∷ []) (plain_type c.args.t.now) next)
    ∙ c.in_ok-made.ensures next
