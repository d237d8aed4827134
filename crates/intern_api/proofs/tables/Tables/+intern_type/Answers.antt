use Rattle.std.proofs.Common.{sym, subst, map, [], ◌∷◌, ◌%◌, IfOk, IfErr, OnOk, ◌∙◌, add-one}
use Rattle.key_model.specs.Parts.{parts_of}
use Rattle.key_model.specs.declared.key.Key.TheVariants.{OfType}
use Rattle.tree_model.specs.declared.type_tree.TypeTree as type
use Rattle.intern_api.specs.Interning.{Gathers, Stops, IsPlaced, IsNoRoom}
use Rattle.intern_api.proofs.InterningLaws.{stops_parts, stops_memory, gathered_entry, gives_result, stops_result, gathers_next, stops_at, stops_first, then_ok, then_err, func_keys, llvm_func_keys}
use Rattle.intern_api.proofs.tables.Tables.+intern_type.Goals as goal

pub intern_type-returns-in-Err-clause-err : goal.intern_type-returns-in-Err-clause-err
intern_type-returns-in-Err-clause-err t c = stops_parts c.args.self.now c.intern_types_of.new.self (OfType c.args.t.now) c.in-Err.fault c.in-Err.ensures.err

pub intern_type-returns-in_default-type_head-clause-err : goal.intern_type-returns-in_default-type_head-clause-err
intern_type-returns-in_default-type_head-clause-err t c = stops_memory c.args.self.now c.intern_types_of.new.self (OfType c.args.t.now) _ _ c.in_default.ensures.ok

pub intern_type-place-requires : goal.intern_type-place-requires
intern_type-place-requires t c = gathered_entry c.args.self.now c.intern_types_of.new.self c.type_hash.result (OfType c.args.t.now) (record { head = c.in-Ok.head; children = c.intern_types_of.new.children }) c.type_hash.ensures (subst (λ l. Gathers c.args.self.now c.intern_types_of.new.self l c.intern_types_of.new.children (parts_of (OfType c.args.t.now))) c.new-children.ensures c.in_default.ensures.ok) c.in-Ok.ensures

pub intern_type-returns-clause-ok : goal.intern_type-returns-clause-ok
intern_type-returns-clause-ok t c = gives_result c.args.self.now c.intern_types_of.new.self c.place.new.self (OfType c.args.t.now) (record { head = c.in-Ok.head; children = c.intern_types_of.new.children }) (subst (λ l. Gathers c.args.self.now c.intern_types_of.new.self l c.intern_types_of.new.children (parts_of (OfType c.args.t.now))) c.new-children.ensures c.in_default.ensures.ok) c.in-Ok.ensures c.place.ensures.shards c.place.ensures.cap c.place.result (subst (λ n. IfOk c.place.result (IsPlaced c.intern_types_of.new.self.list.items c.place.new.self.list.items (record { head = c.in-Ok.head; children = c.intern_types_of.new.children }) (n % c.intern_types_of.new.self.shards))) c.type_hash.ensures c.place.ensures.ok)

pub intern_type-returns-clause-err : goal.intern_type-returns-clause-err
intern_type-returns-clause-err t c = stops_result c.args.self.now c.intern_types_of.new.self c.place.new.self (OfType c.args.t.now) (record { head = c.in-Ok.head; children = c.intern_types_of.new.children }) (subst (λ l. Gathers c.args.self.now c.intern_types_of.new.self l c.intern_types_of.new.children (parts_of (OfType c.args.t.now))) c.new-children.ensures c.in_default.ensures.ok) c.in-Ok.ensures c.place.ensures.shards c.place.ensures.cap c.place.result c.place.ensures.same c.intern_types_of.new.self.some (subst (λ n. IfErr c.place.result (IsNoRoom c.place.new.self.cap c.place.new.self.list.items (record { head = c.in-Ok.head; children = c.intern_types_of.new.children }) (n % c.intern_types_of.new.self.shards))) c.type_hash.ensures c.place.ensures.err)

pub intern_types-returns-in-Err-clause-err : goal.intern_types-returns-in-Err-clause-err
intern_types-returns-in-Err-clause-err t c = stops_at OfType c.args.types.now c.loop-t.t-index c.t-item.result c.args.self.now c.loop-t.self c.intern_part.new.self c.args.children.now c.loop-t.children c.in-Err.fault c.loop-t-test.true c.t-item.is c.loop-t.invariant c.in-Err.ensures.err

pub intern_types-loop-t-preserved : goal.intern_types-loop-t-preserved
intern_types-loop-t-preserved t c = gathers_next OfType c.args.types.now c.loop-t.t-index _ c.t-item.result c.args.self.now c.loop-t.self c.intern_part.new.self c.args.children.now c.loop-t.children c.intern_part.new.children c.loop-t-test.true c.t-item.is c.loop-t.invariant c.in_default.ensures.ok (add-one _)

pub intern_types_of-returns-in-Err-clause-err : goal.intern_types_of-returns-in-Err-clause-err
intern_types_of-returns-in-Err-clause-err t c =
    subst (λ l. Stops c.args.self.now c.intern_types.new.self l c.in-Err.fault) (func_keys c.args.t.now c.as_slice.result.now c.in-Func.results (c.in-Func.is ∙ (λ i. type.Func (sym c.as_slice.ensures i) c.in-Func.results)))
    (stops_first c.args.self.now c.intern_types.new.self (map OfType c.as_slice.result.now) (map OfType c.in-Func.results) c.in-Err.fault c.in-Err.ensures.err)

pub intern_types_of-returns-in_default-clause-ok : goal.intern_types_of-returns-in_default-clause-ok
intern_types_of-returns-in_default-clause-ok t c =
    subst (λ l. OnOk c.intern_types-in-Func.result (Gathers c.args.self.now c.intern_types-in-Func.new.self c.args.children.now c.intern_types-in-Func.new.children l)) (func_keys c.args.t.now c.as_slice.result.now c.as_slice-in-Func.result.now (c.in-Func.is ∙ (λ i. type.Func (sym c.as_slice.ensures i) (sym c.as_slice-in-Func.ensures i))))
    (then_ok c.intern_types-in-Func.result c.args.self.now c.intern_types.new.self c.intern_types-in-Func.new.self c.args.children.now c.intern_types.new.children c.intern_types-in-Func.new.children (map OfType c.as_slice.result.now) (map OfType c.as_slice-in-Func.result.now) c.in_default.ensures.ok c.intern_types-in-Func.ensures.ok)

pub intern_types_of-returns-in_default-clause-err : goal.intern_types_of-returns-in_default-clause-err
intern_types_of-returns-in_default-clause-err t c =
    subst (λ l. IfErr c.intern_types-in-Func.result (Stops c.args.self.now c.intern_types-in-Func.new.self l)) (func_keys c.args.t.now c.as_slice.result.now c.as_slice-in-Func.result.now (c.in-Func.is ∙ (λ i. type.Func (sym c.as_slice.ensures i) (sym c.as_slice-in-Func.ensures i))))
    (then_err c.intern_types-in-Func.result c.args.self.now c.intern_types.new.self c.intern_types-in-Func.new.self c.args.children.now c.intern_types.new.children (map OfType c.as_slice.result.now) (map OfType c.as_slice-in-Func.result.now) c.in_default.ensures.ok c.intern_types-in-Func.ensures.err)

pub intern_types_of-returns-in-Err-intern_part-clause-err : goal.intern_types_of-returns-in-Err-intern_part-clause-err
intern_types_of-returns-in-Err-intern_part-clause-err t c =
    subst (λ l. Stops c.args.self.now c.intern_part-in-LlvmFunc.new.self l c.in-Err-intern_part.fault) (llvm_func_keys c.args.t.now c.get-in-LlvmFunc.result.now c.in-LlvmFunc.inputs (c.in-LlvmFunc.is ∙ (λ i. type.LlvmFunc (sym c.get-in-LlvmFunc.ensures i) c.in-LlvmFunc.inputs)))
    (stops_first c.args.self.now c.intern_part-in-LlvmFunc.new.self (OfType c.get-in-LlvmFunc.result.now ∷ []) (map OfType c.in-LlvmFunc.inputs) c.in-Err-intern_part.fault c.in-Err-intern_part.ensures.err)

pub intern_types_of-returns-in_default-intern_part-clause-ok : goal.intern_types_of-returns-in_default-intern_part-clause-ok
intern_types_of-returns-in_default-intern_part-clause-ok t c =
    subst (λ l. OnOk c.intern_types-in-LlvmFunc.result (Gathers c.args.self.now c.intern_types-in-LlvmFunc.new.self c.args.children.now c.intern_types-in-LlvmFunc.new.children l)) (llvm_func_keys c.args.t.now c.get-in-LlvmFunc.result.now c.as_slice-in-LlvmFunc.result.now (c.in-LlvmFunc.is ∙ (λ i. type.LlvmFunc (sym c.get-in-LlvmFunc.ensures i) (sym c.as_slice-in-LlvmFunc.ensures i))))
    (then_ok c.intern_types-in-LlvmFunc.result c.args.self.now c.intern_part-in-LlvmFunc.new.self c.intern_types-in-LlvmFunc.new.self c.args.children.now c.intern_part-in-LlvmFunc.new.children c.intern_types-in-LlvmFunc.new.children (OfType c.get-in-LlvmFunc.result.now ∷ []) (map OfType c.as_slice-in-LlvmFunc.result.now) c.in_default-intern_part.ensures.ok c.intern_types-in-LlvmFunc.ensures.ok)

pub intern_types_of-returns-in_default-intern_part-clause-err : goal.intern_types_of-returns-in_default-intern_part-clause-err
intern_types_of-returns-in_default-intern_part-clause-err t c =
    subst (λ l. IfErr c.intern_types-in-LlvmFunc.result (Stops c.args.self.now c.intern_types-in-LlvmFunc.new.self l)) (llvm_func_keys c.args.t.now c.get-in-LlvmFunc.result.now c.as_slice-in-LlvmFunc.result.now (c.in-LlvmFunc.is ∙ (λ i. type.LlvmFunc (sym c.get-in-LlvmFunc.ensures i) (sym c.as_slice-in-LlvmFunc.ensures i))))
    (then_err c.intern_types-in-LlvmFunc.result c.args.self.now c.intern_part-in-LlvmFunc.new.self c.intern_types-in-LlvmFunc.new.self c.args.children.now c.intern_part-in-LlvmFunc.new.children (OfType c.get-in-LlvmFunc.result.now ∷ []) (map OfType c.as_slice-in-LlvmFunc.result.now) c.in_default-intern_part.ensures.ok c.intern_types-in-LlvmFunc.ensures.err)
