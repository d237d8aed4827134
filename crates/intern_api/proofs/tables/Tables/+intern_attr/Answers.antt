use Rattle.std.proofs.Common.{sym, subst, map, ◌%◌, IfOk, IfErr, ap, ◌∙◌, add-one}
use Rattle.std.proofs.lemmas.List.{take_all}
use Rattle.key_model.specs.Parts.{parts_of}
use Rattle.key_model.specs.declared.key.Key.TheVariants.{OfAttr}
use Rattle.intern_api.specs.Interning.{Gathers, Stops, IsPlaced, IsNoRoom}
use Rattle.intern_api.proofs.InterningLaws.{stops_parts, stops_memory, gathered_entry, gives_result, stops_result, gathers_next, stops_at, values_map}
use Rattle.intern_api.proofs.tables.Tables.+intern_attr.Goals as goal

pub intern_attr-returns-in-Err-clause-err : goal.intern_attr-returns-in-Err-clause-err
intern_attr-returns-in-Err-clause-err t c = stops_parts c.args.self.now c.intern_parts_of.new.self (OfAttr c.args.a.now) c.in-Err.fault c.in-Err.ensures.err

pub intern_attr-returns-in_default-attr_head-clause-err : goal.intern_attr-returns-in_default-attr_head-clause-err
intern_attr-returns-in_default-attr_head-clause-err t c = stops_memory c.args.self.now c.intern_parts_of.new.self (OfAttr c.args.a.now) _ _ c.in_default.ensures.ok

pub intern_attr-place-requires : goal.intern_attr-place-requires
intern_attr-place-requires t c = gathered_entry c.args.self.now c.intern_parts_of.new.self c.attr_hash.result (OfAttr c.args.a.now) (record { head = c.in-Ok.head; children = c.intern_parts_of.new.children }) c.attr_hash.ensures (subst (λ l. Gathers c.args.self.now c.intern_parts_of.new.self l c.intern_parts_of.new.children (parts_of (OfAttr c.args.a.now))) c.new-children.ensures c.in_default.ensures.ok) c.in-Ok.ensures

pub intern_attr-returns-clause-ok : goal.intern_attr-returns-clause-ok
intern_attr-returns-clause-ok t c = gives_result c.args.self.now c.intern_parts_of.new.self c.place.new.self (OfAttr c.args.a.now) (record { head = c.in-Ok.head; children = c.intern_parts_of.new.children }) (subst (λ l. Gathers c.args.self.now c.intern_parts_of.new.self l c.intern_parts_of.new.children (parts_of (OfAttr c.args.a.now))) c.new-children.ensures c.in_default.ensures.ok) c.in-Ok.ensures c.place.ensures.shards c.place.ensures.cap c.place.result (subst (λ n. IfOk c.place.result (IsPlaced c.intern_parts_of.new.self.list.items c.place.new.self.list.items (record { head = c.in-Ok.head; children = c.intern_parts_of.new.children }) (n % c.intern_parts_of.new.self.shards))) c.attr_hash.ensures c.place.ensures.ok)

pub intern_attr-returns-clause-err : goal.intern_attr-returns-clause-err
intern_attr-returns-clause-err t c = stops_result c.args.self.now c.intern_parts_of.new.self c.place.new.self (OfAttr c.args.a.now) (record { head = c.in-Ok.head; children = c.intern_parts_of.new.children }) (subst (λ l. Gathers c.args.self.now c.intern_parts_of.new.self l c.intern_parts_of.new.children (parts_of (OfAttr c.args.a.now))) c.new-children.ensures c.in_default.ensures.ok) c.in-Ok.ensures c.place.ensures.shards c.place.ensures.cap c.place.result c.place.ensures.same c.intern_parts_of.new.self.some (subst (λ n. IfErr c.place.result (IsNoRoom c.place.new.self.cap c.place.new.self.list.items (record { head = c.in-Ok.head; children = c.intern_parts_of.new.children }) (n % c.intern_parts_of.new.self.shards))) c.attr_hash.ensures c.place.ensures.err)

pub intern_attrs-returns-in-Err-clause-err : goal.intern_attrs-returns-in-Err-clause-err
intern_attrs-returns-in-Err-clause-err t c = stops_at OfAttr c.args.attrs.now c.loop-a.a-index c.a-item.result c.args.self.now c.loop-a.self c.intern_member.new.self c.args.children.now c.loop-a.children c.in-Err.fault c.loop-a-test.true c.a-item.is c.loop-a.invariant c.in-Err.ensures.err

pub intern_attrs-loop-a-preserved : goal.intern_attrs-loop-a-preserved
intern_attrs-loop-a-preserved t c = gathers_next OfAttr c.args.attrs.now c.loop-a.a-index _ c.a-item.result c.args.self.now c.loop-a.self c.intern_member.new.self c.args.children.now c.loop-a.children c.intern_member.new.children c.loop-a-test.true c.a-item.is c.loop-a.invariant c.in_default.ensures.ok (add-one _)

pub intern_values-returns-in-Err-clause-err : goal.intern_values-returns-in-Err-clause-err
intern_values-returns-in-Err-clause-err t c = subst (λ l. Stops c.args.self.now c.intern_member.new.self l c.in-Err.fault) (sym (values_map c.args.entries.now)) (stops_at (λ e. OfAttr e.1) c.args.entries.now c.loop-entry.entry-index c.entry-item.result c.args.self.now c.loop-entry.self c.intern_member.new.self c.args.children.now c.loop-entry.children c.in-Err.fault c.loop-entry-test.true c.entry-item.is c.loop-entry.invariant c.in-Err.ensures.err)

pub intern_values-loop-entry-preserved : goal.intern_values-loop-entry-preserved
intern_values-loop-entry-preserved t c = gathers_next (λ e. OfAttr e.1) c.args.entries.now c.loop-entry.entry-index _ c.entry-item.result c.args.self.now c.loop-entry.self c.intern_member.new.self c.args.children.now c.loop-entry.children c.intern_member.new.children c.loop-entry-test.true c.entry-item.is c.loop-entry.invariant c.in_default.ensures.ok (add-one _)

pub intern_values-returns-clause-ok : goal.intern_values-returns-clause-ok
intern_values-returns-clause-ok t c = subst (λ l. Gathers c.args.self.now c.loop-entry.self c.args.children.now c.loop-entry.children l) (ap (map (λ e. OfAttr e.1)) (take_all _ _ c.loop-entry-test.false) ∙ sym (values_map c.args.entries.now)) c.loop-entry.invariant
