use Rattle.std.proofs.Common.{◌∙◌, ◌∷◌, []}
use Rattle.std.specs.Prelude.{pos, codes}
use Rattle.plain_tree.specs.Types.{Ptr, plain_type}
use Rattle.conversion_model.specs.Types.{becomes, number_type}
use Rattle.pattern_model.specs.Drafts.{value}
use Rattle.pattern_model.specs.MemrefRows.{extract, offset_of, widened}
use Rattle.memref_rows.specs.Rows.{place_props}
use Rattle.memref_rows.proofs.places.element_place.Goals as goal

pub returns : goal.returns
returns c = λ next.
    c.in_ok-pointer.ensures (λ v_pointer. extract c.args.from (pos 2 ∷ []) (number_type c.args.bits) λ v_start. offset_of c.args.bits c.args.from c.args.first 0 c.args.of.dims.now v_start λ v_offset. widened (codes "llvm.sext") c.args.bits v_offset λ v_wide. value (codes "llvm.getelementptr") (v_pointer ∷ v_wide ∷ []) (place_props (becomes c.args.bits (plain_type c.args.of.element.now))) Ptr next)
    ∙ c.in_ok-start.ensures (λ v_start. offset_of c.args.bits c.args.from c.args.first 0 c.args.of.dims.now v_start λ v_offset. widened (codes "llvm.sext") c.args.bits v_offset λ v_wide. value (codes "llvm.getelementptr") (c.in_ok-pointer.pointer ∷ v_wide ∷ []) (place_props (becomes c.args.bits (plain_type c.args.of.element.now))) Ptr next)
    ∙ c.in_ok-offset.ensures (λ v_offset. widened (codes "llvm.sext") c.args.bits v_offset λ v_wide. value (codes "llvm.getelementptr") (c.in_ok-pointer.pointer ∷ v_wide ∷ []) (place_props (becomes c.args.bits (plain_type c.args.of.element.now))) Ptr next)
    ∙ c.in_ok-wide.ensures (λ v_wide. value (codes "llvm.getelementptr") (c.in_ok-pointer.pointer ∷ v_wide ∷ []) (place_props (becomes c.args.bits (plain_type c.args.of.element.now))) Ptr next)
    ∙ c.in_ok-place.ensures next
