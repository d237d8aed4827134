use Rattle.std.proofs.Common.{◌≡◌, ◌∙◌, List, ap, rules, w64}
use Rattle.std.specs.Prelude.{pos, codes}
use Rattle.std.proofs.lemmas.Int.{to_z-of_z}
use Rattle.plain_tree.specs.Types.{plain_type}
use Rattle.conversion_model.specs.declared.templates.Source.{Source}
use Rattle.conversion_model.specs.Types.{becomes, number_type}
use Rattle.pattern_model.specs.Drafts.{Draft}
use Rattle.pattern_model.specs.MemrefRows.{bytes_of, constant, elements_of, strides_of, two}
use Rattle.row_drafts.specs.Writes.{behind}
use Rattle.row_drafts.proofs.Values.{same_number}
use Rattle.std.proofs.Common.{subst}
use Rattle.memref_rows.proofs.layout.measure.Goals as goal

pub returns-clause-part : goal.returns-clause-part
returns-clause-part c = λ next.
    let h = subst (λ (ss : List Source). (next : List Source → Draft) → behind c.number.new.self (strides_of c.args.bits c.in_ok-one.one ss next) ≡ behind c.all_strides.new.writer (next c.in_ok-strides.strides)) c.as_slice.ensures c.in_ok-strides.ensures in
    let j = subst (λ (ss : List Source). (next : Source → Draft) → behind c.all_strides.new.writer (elements_of c.args.bits c.in_ok-one.one ss c.as_slice-3.result.now next) ≡ behind c.elements.new.writer (next c.in_ok-count.count)) c.as_slice-2.ensures c.in_ok-count.ensures in
    let k = subst (λ (ss : List Source). (next : Source → Draft) → behind c.all_strides.new.writer (elements_of c.args.bits c.in_ok-one.one c.in_ok-strides.strides ss next) ≡ behind c.elements.new.writer (next c.in_ok-count.count)) c.as_slice-3.ensures j in
    let w = same_number c.elements.new.writer c.number-2.new.self (number_type c.args.bits) _ (pos (bytes_of (becomes c.args.bits (plain_type c.args.of.element.now)))) c.in_ok-width.width (to_z-of_z w64 c.from.result (search rules) ∙ c.from.ensures ∙ ap pos c.element_bytes.ensures) c.in_ok-width.ensures in
    c.in_ok-sizes.ensures.part (λ v_sizes. constant (pos 1) (number_type c.args.bits) λ v_one. strides_of c.args.bits v_one v_sizes λ v_strides. elements_of c.args.bits v_one v_strides v_sizes λ v_count. constant (pos (bytes_of (becomes c.args.bits (plain_type c.args.of.element.now)))) (number_type c.args.bits) λ v_width. two (codes "llvm.mul") v_count v_width (number_type c.args.bits) λ v_bytes. next (record { sizes = v_sizes; strides = v_strides; bytes = v_bytes }))
    ∙ c.in_ok-one.ensures (λ v_one. strides_of c.args.bits v_one c.in_ok-sizes.sizes λ v_strides. elements_of c.args.bits v_one v_strides c.in_ok-sizes.sizes λ v_count. constant (pos (bytes_of (becomes c.args.bits (plain_type c.args.of.element.now)))) (number_type c.args.bits) λ v_width. two (codes "llvm.mul") v_count v_width (number_type c.args.bits) λ v_bytes. next (record { sizes = c.in_ok-sizes.sizes; strides = v_strides; bytes = v_bytes }))
    ∙ h (λ v_strides. elements_of c.args.bits c.in_ok-one.one v_strides c.in_ok-sizes.sizes λ v_count. constant (pos (bytes_of (becomes c.args.bits (plain_type c.args.of.element.now)))) (number_type c.args.bits) λ v_width. two (codes "llvm.mul") v_count v_width (number_type c.args.bits) λ v_bytes. next (record { sizes = c.in_ok-sizes.sizes; strides = v_strides; bytes = v_bytes }))
    ∙ k (λ v_count. constant (pos (bytes_of (becomes c.args.bits (plain_type c.args.of.element.now)))) (number_type c.args.bits) λ v_width. two (codes "llvm.mul") v_count v_width (number_type c.args.bits) λ v_bytes. next (record { sizes = c.in_ok-sizes.sizes; strides = c.in_ok-strides.strides; bytes = v_bytes }))
    ∙ w (λ v_width. two (codes "llvm.mul") c.in_ok-count.count v_width (number_type c.args.bits) λ v_bytes. next (record { sizes = c.in_ok-sizes.sizes; strides = c.in_ok-strides.strides; bytes = v_bytes }))
    ∙ c.in_ok-bytes.ensures (λ v_bytes. next (record { sizes = c.in_ok-sizes.sizes; strides = c.in_ok-strides.strides; bytes = v_bytes }))
