use Rattle.std.proofs.Common.{◌≡◌, ◌∙◌, ◌+◌, ◌∷◌, [], length, subst}
use Rattle.std.specs.Prelude.{pos}
use Rattle.plain_tree.specs.Types.{plain_type}
use Rattle.conversion_model.specs.declared.templates.Source.{Source}
use Rattle.conversion_model.specs.declared.templates.Source.TheVariants.{Operand}
use Rattle.pattern_model.specs.Drafts.{Draft}
use Rattle.pattern_model.specs.FuncRows.{parameters_at}
use Rattle.pattern_model.specs.MemrefRows.{insert}
use Rattle.row_drafts.specs.Writes.{behind}
use Rattle.func_rows.proofs.parts.from_fields.Goals as goal

pub returns : goal.returns
returns c = λ next.
    let h = subst (λ k. (next : Source → Draft) → behind c.insert_operands.new.writer (parameters_at 4 (plain_type c.args.t.now) k 0 c.args.dims.now c.in_ok-sized.sized next) ≡ behind c.insert_operands-2.new.writer (next c.in_ok-made.made)) c.in_ok-first.ensures c.in_ok-made.ensures in
    c.in_ok-nothing.ensures (λ v_nothing. insert v_nothing (Operand 0) (pos 0 ∷ []) (plain_type c.args.t.now) λ v_allocated. insert v_allocated (Operand 1) (pos 1 ∷ []) (plain_type c.args.t.now) λ v_aligned. insert v_aligned (Operand 2) (pos 2 ∷ []) (plain_type c.args.t.now) λ v_based. parameters_at 3 (plain_type c.args.t.now) 3 0 c.args.dims.now v_based λ v_sized. parameters_at 4 (plain_type c.args.t.now) (3 + length c.args.dims.now) 0 c.args.dims.now v_sized next)
    ∙ c.in_ok-allocated.ensures (λ v_allocated. insert v_allocated (Operand 1) (pos 1 ∷ []) (plain_type c.args.t.now) λ v_aligned. insert v_aligned (Operand 2) (pos 2 ∷ []) (plain_type c.args.t.now) λ v_based. parameters_at 3 (plain_type c.args.t.now) 3 0 c.args.dims.now v_based λ v_sized. parameters_at 4 (plain_type c.args.t.now) (3 + length c.args.dims.now) 0 c.args.dims.now v_sized next)
    ∙ c.in_ok-aligned.ensures (λ v_aligned. insert v_aligned (Operand 2) (pos 2 ∷ []) (plain_type c.args.t.now) λ v_based. parameters_at 3 (plain_type c.args.t.now) 3 0 c.args.dims.now v_based λ v_sized. parameters_at 4 (plain_type c.args.t.now) (3 + length c.args.dims.now) 0 c.args.dims.now v_sized next)
    ∙ c.in_ok-based.ensures (λ v_based. parameters_at 3 (plain_type c.args.t.now) 3 0 c.args.dims.now v_based λ v_sized. parameters_at 4 (plain_type c.args.t.now) (3 + length c.args.dims.now) 0 c.args.dims.now v_sized next)
    ∙ c.in_ok-sized.ensures (λ v_sized. parameters_at 4 (plain_type c.args.t.now) (3 + length c.args.dims.now) 0 c.args.dims.now v_sized next)
    ∙ h next
