use Rattle.std.proofs.Common.{◌∙◌, ◌∷◌, [], List, sym, ap}
use Rattle.std.specs.Prelude.{pos}
use Rattle.plain_tree.specs.Types.{Ptr}
use Rattle.conversion_model.specs.declared.templates.Source.{Source}
use Rattle.conversion_model.specs.Types.{number_type}
use Rattle.pattern_model.specs.MemrefRows.{extract}
use Rattle.row_drafts.specs.Writes.{behind}
use Rattle.func_rows.proofs.calls.front_fields.Goals as goal

pub returns : goal.returns
returns c = λ next.
    c.in_ok-allocated.ensures (λ v_allocated. extract c.args.from (pos 1 ∷ []) Ptr λ v_aligned. extract c.args.from (pos 2 ∷ []) (number_type c.args.bits) λ v_offset. next (v_allocated ∷ v_aligned ∷ v_offset ∷ []))
    ∙ c.in_ok-aligned.ensures (λ v_aligned. extract c.args.from (pos 2 ∷ []) (number_type c.args.bits) λ v_offset. next (c.in_ok-allocated.allocated ∷ v_aligned ∷ v_offset ∷ []))
    ∙ c.in_ok-offset.ensures (λ v_offset. next (c.in_ok-allocated.allocated ∷ c.in_ok-aligned.aligned ∷ v_offset ∷ []))
    ∙ ap (λ (ss : List Source). behind c.extract_number.new.self (next ss)) (sym c.in_ok-fields.ensures)
