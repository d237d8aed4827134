use Rattle.std.proofs.Common.{◌≡◌, ℕ, ◌<◌, ◌+◌, arith, sym, ap, subst, ◌∙◌, ◌++◌, ◌∷◌, [], refl, length, drop}
use Rattle.std.specs.Prelude.{Vec}
use Rattle.std.specs.declared.alloc.Global.{Global}
use Rattle.std.proofs.lemmas.Grind.{common_steps}
use Rattle.flat_model.specs.declared.nodes.OpNode.{OpNode}
use Rattle.flat_model.specs.Flat.{AllBelow, IsOpWithin}
use Rattle.edit_model.specs.Writes.{with_args, with_blocks, with_node}
use Rattle.ir_arena.specs.Arena.{Arena}
use Rattle.undo_rewriter.specs.declared.step.Step.TheVariants.{Begin, OpAdded, OpListed, OpUnlisted, OperandSet, ValueAdded, BlockAdded, ArgsSet, BlocksSet, NodeSet, BlockCut, BlocksListed, Replaced}
use Rattle.undo_rewriter.specs.Journal.{at_mark, edits, Edited}
use Rattle.undo_rewriter.proofs.JournalLaws.{last_can, popped_sound, popped_mark, popped_edits}
use Rattle.undo_rewriter.proofs.WriterLaws.{roomier_same, listed_known, operand_known, args_known, blocks_known, node_known}
use Rattle.undo_rewriter.proofs.rewriter.Rewriter.undo_last.Goals as goal

pub invariant_of-self-in-Some-Begin : goal.invariant_of-self-in-Some-Begin
invariant_of-self-in-Some-Begin c = popped_sound c.self.inside.func.rooms c.self.inside.func.rooms c.self.inside.journal.items c.pop.new.self.items Begin c.self.inside.func.flat c.self.inside.func.flat (let h : c.self.inside.journal.items ≡ c.pop.new.self.items ++ Begin ∷ [] = grind (arith, common_steps) in h) c.self.invariant (roomier_same c.self.inside.func.rooms c.self.inside.func.rooms refl) refl

pub returns-in-Some-Begin-clause-marks : goal.returns-in-Some-Begin-clause-marks
returns-in-Some-Begin-clause-marks c = subst (λ (a : Edited). (mark : ℕ) → mark < length a.journal → at_mark c.pop.new.self.items c.self.inside.func.flat mark ≡ at_mark a.journal a.now mark) c.self.view_is (popped_mark c.self.inside.journal.items c.pop.new.self.items Begin c.self.inside.func.flat c.self.inside.func.flat (let h : c.self.inside.journal.items ≡ c.pop.new.self.items ++ Begin ∷ [] = grind (arith, common_steps) in h) refl)

pub returns-in-Some-Begin-clause-edits : goal.returns-in-Some-Begin-clause-edits
returns-in-Some-Begin-clause-edits c = subst (λ (a : Edited). (mark : ℕ) → mark < length a.journal → edits (drop mark a.journal) ≡ edits (drop mark c.pop.new.self.items) + edits (Begin ∷ [])) c.self.view_is (λ mark l. popped_edits c.self.inside.journal.items c.pop.new.self.items Begin mark (let h : c.self.inside.journal.items ≡ c.pop.new.self.items ++ Begin ∷ [] = grind (arith, common_steps) in h) l)

pub drop_op-requires-clause-some : goal.drop_op-requires-clause-some
drop_op-requires-clause-some c = (last_can c.self.inside.func.rooms c.self.inside.journal.items c.pop.new.self.items (OpAdded c.in-Some-OpAdded.values) c.self.inside.func.flat (let h : c.self.inside.journal.items ≡ c.pop.new.self.items ++ (OpAdded c.in-Some-OpAdded.values) ∷ [] = grind (arith, common_steps) in h) c.self.invariant).possible.0

pub drop_op-requires-clause-closed : goal.drop_op-requires-clause-closed
drop_op-requires-clause-closed c = (last_can c.self.inside.func.rooms c.self.inside.journal.items c.pop.new.self.items (OpAdded c.in-Some-OpAdded.values) c.self.inside.func.flat (let h : c.self.inside.journal.items ≡ c.pop.new.self.items ++ (OpAdded c.in-Some-OpAdded.values) ∷ [] = grind (arith, common_steps) in h) c.self.invariant).closed

pub invariant_of-self-in-Some-OpAdded : goal.invariant_of-self-in-Some-OpAdded
invariant_of-self-in-Some-OpAdded c = popped_sound c.self.inside.func.rooms c.drop_op.new.self.rooms c.self.inside.journal.items c.pop.new.self.items (OpAdded c.in-Some-OpAdded.values) c.self.inside.func.flat c.drop_op.new.self.flat (let h : c.self.inside.journal.items ≡ c.pop.new.self.items ++ (OpAdded c.in-Some-OpAdded.values) ∷ [] = grind (arith, common_steps) in h) c.self.invariant (roomier_same _ _ (grind (arith, common_steps))) c.drop_op.ensures.flat

pub returns-in-Some-OpAdded-clause-marks : goal.returns-in-Some-OpAdded-clause-marks
returns-in-Some-OpAdded-clause-marks c = subst (λ (a : Edited). (mark : ℕ) → mark < length a.journal → at_mark c.pop.new.self.items c.drop_op.new.self.flat mark ≡ at_mark a.journal a.now mark) c.self.view_is (popped_mark c.self.inside.journal.items c.pop.new.self.items (OpAdded c.in-Some-OpAdded.values) c.self.inside.func.flat c.drop_op.new.self.flat (let h : c.self.inside.journal.items ≡ c.pop.new.self.items ++ (OpAdded c.in-Some-OpAdded.values) ∷ [] = grind (arith, common_steps) in h) c.drop_op.ensures.flat)

pub returns-in-Some-OpAdded-clause-edits : goal.returns-in-Some-OpAdded-clause-edits
returns-in-Some-OpAdded-clause-edits c = subst (λ (a : Edited). (mark : ℕ) → mark < length a.journal → edits (drop mark a.journal) ≡ edits (drop mark c.pop.new.self.items) + edits ((OpAdded c.in-Some-OpAdded.values) ∷ [])) c.self.view_is (λ mark l. popped_edits c.self.inside.journal.items c.pop.new.self.items (OpAdded c.in-Some-OpAdded.values) mark (let h : c.self.inside.journal.items ≡ c.pop.new.self.items ++ (OpAdded c.in-Some-OpAdded.values) ∷ [] = grind (arith, common_steps) in h) l)

pub unlist_op-requires-clause-block : goal.unlist_op-requires-clause-block
unlist_op-requires-clause-block c = (last_can c.self.inside.func.rooms c.self.inside.journal.items c.pop.new.self.items (OpListed c.in-Some-OpListed.block c.in-Some-OpListed.at) c.self.inside.func.flat (let h : c.self.inside.journal.items ≡ c.pop.new.self.items ++ (OpListed c.in-Some-OpListed.block c.in-Some-OpListed.at) ∷ [] = grind (arith, common_steps) in h) c.self.invariant).possible.0

pub unlist_op-requires-clause-at : goal.unlist_op-requires-clause-at
unlist_op-requires-clause-at c = (last_can c.self.inside.func.rooms c.self.inside.journal.items c.pop.new.self.items (OpListed c.in-Some-OpListed.block c.in-Some-OpListed.at) c.self.inside.func.flat (let h : c.self.inside.journal.items ≡ c.pop.new.self.items ++ (OpListed c.in-Some-OpListed.block c.in-Some-OpListed.at) ∷ [] = grind (arith, common_steps) in h) c.self.invariant).possible.1

pub invariant_of-self-in-Some-OpListed : goal.invariant_of-self-in-Some-OpListed
invariant_of-self-in-Some-OpListed c = popped_sound c.self.inside.func.rooms c.unlist_op.new.self.rooms c.self.inside.journal.items c.pop.new.self.items (OpListed c.in-Some-OpListed.block c.in-Some-OpListed.at) c.self.inside.func.flat c.unlist_op.new.self.flat (let h : c.self.inside.journal.items ≡ c.pop.new.self.items ++ (OpListed c.in-Some-OpListed.block c.in-Some-OpListed.at) ∷ [] = grind (arith, common_steps) in h) c.self.invariant c.unlist_op.ensures.rooms c.unlist_op.ensures.flat

pub returns-in-Some-OpListed-clause-marks : goal.returns-in-Some-OpListed-clause-marks
returns-in-Some-OpListed-clause-marks c = subst (λ (a : Edited). (mark : ℕ) → mark < length a.journal → at_mark c.pop.new.self.items c.unlist_op.new.self.flat mark ≡ at_mark a.journal a.now mark) c.self.view_is (popped_mark c.self.inside.journal.items c.pop.new.self.items (OpListed c.in-Some-OpListed.block c.in-Some-OpListed.at) c.self.inside.func.flat c.unlist_op.new.self.flat (let h : c.self.inside.journal.items ≡ c.pop.new.self.items ++ (OpListed c.in-Some-OpListed.block c.in-Some-OpListed.at) ∷ [] = grind (arith, common_steps) in h) c.unlist_op.ensures.flat)

pub returns-in-Some-OpListed-clause-edits : goal.returns-in-Some-OpListed-clause-edits
returns-in-Some-OpListed-clause-edits c = subst (λ (a : Edited). (mark : ℕ) → mark < length a.journal → edits (drop mark a.journal) ≡ edits (drop mark c.pop.new.self.items) + edits ((OpListed c.in-Some-OpListed.block c.in-Some-OpListed.at) ∷ [])) c.self.view_is (λ mark l. popped_edits c.self.inside.journal.items c.pop.new.self.items (OpListed c.in-Some-OpListed.block c.in-Some-OpListed.at) mark (let h : c.self.inside.journal.items ≡ c.pop.new.self.items ++ (OpListed c.in-Some-OpListed.block c.in-Some-OpListed.at) ∷ [] = grind (arith, common_steps) in h) l)

pub relist_op-requires-clause-block : goal.relist_op-requires-clause-block
relist_op-requires-clause-block c = (last_can c.self.inside.func.rooms c.self.inside.journal.items c.pop.new.self.items (OpUnlisted c.in-Some-OpUnlisted.block c.in-Some-OpUnlisted.at c.in-Some-OpUnlisted.op) c.self.inside.func.flat (let h : c.self.inside.journal.items ≡ c.pop.new.self.items ++ (OpUnlisted c.in-Some-OpUnlisted.block c.in-Some-OpUnlisted.at c.in-Some-OpUnlisted.op) ∷ [] = grind (arith, common_steps) in h) c.self.invariant).possible.0

pub relist_op-requires-clause-at : goal.relist_op-requires-clause-at
relist_op-requires-clause-at c = (last_can c.self.inside.func.rooms c.self.inside.journal.items c.pop.new.self.items (OpUnlisted c.in-Some-OpUnlisted.block c.in-Some-OpUnlisted.at c.in-Some-OpUnlisted.op) c.self.inside.func.flat (let h : c.self.inside.journal.items ≡ c.pop.new.self.items ++ (OpUnlisted c.in-Some-OpUnlisted.block c.in-Some-OpUnlisted.at c.in-Some-OpUnlisted.op) ∷ [] = grind (arith, common_steps) in h) c.self.invariant).possible.1

pub relist_op-requires-clause-room : goal.relist_op-requires-clause-room
relist_op-requires-clause-room c = (last_can c.self.inside.func.rooms c.self.inside.journal.items c.pop.new.self.items (OpUnlisted c.in-Some-OpUnlisted.block c.in-Some-OpUnlisted.at c.in-Some-OpUnlisted.op) c.self.inside.func.flat (let h : c.self.inside.journal.items ≡ c.pop.new.self.items ++ (OpUnlisted c.in-Some-OpUnlisted.block c.in-Some-OpUnlisted.at c.in-Some-OpUnlisted.op) ∷ [] = grind (arith, common_steps) in h) c.self.invariant).possible.2

pub relist_op-requires-clause-op : goal.relist_op-requires-clause-op
relist_op-requires-clause-op c = listed_known c.self.inside.func.flat c.in-Some-OpUnlisted.block c.in-Some-OpUnlisted.at c.in-Some-OpUnlisted.op (last_can c.self.inside.func.rooms c.self.inside.journal.items c.pop.new.self.items (OpUnlisted c.in-Some-OpUnlisted.block c.in-Some-OpUnlisted.at c.in-Some-OpUnlisted.op) c.self.inside.func.flat (let h : c.self.inside.journal.items ≡ c.pop.new.self.items ++ (OpUnlisted c.in-Some-OpUnlisted.block c.in-Some-OpUnlisted.at c.in-Some-OpUnlisted.op) ∷ [] = grind (arith, common_steps) in h) c.self.invariant).closed (last_can c.self.inside.func.rooms c.self.inside.journal.items c.pop.new.self.items (OpUnlisted c.in-Some-OpUnlisted.block c.in-Some-OpUnlisted.at c.in-Some-OpUnlisted.op) c.self.inside.func.flat (let h : c.self.inside.journal.items ≡ c.pop.new.self.items ++ (OpUnlisted c.in-Some-OpUnlisted.block c.in-Some-OpUnlisted.at c.in-Some-OpUnlisted.op) ∷ [] = grind (arith, common_steps) in h) c.self.invariant).possible.0 (last_can c.self.inside.func.rooms c.self.inside.journal.items c.pop.new.self.items (OpUnlisted c.in-Some-OpUnlisted.block c.in-Some-OpUnlisted.at c.in-Some-OpUnlisted.op) c.self.inside.func.flat (let h : c.self.inside.journal.items ≡ c.pop.new.self.items ++ (OpUnlisted c.in-Some-OpUnlisted.block c.in-Some-OpUnlisted.at c.in-Some-OpUnlisted.op) ∷ [] = grind (arith, common_steps) in h) c.self.invariant).possible.1

pub invariant_of-self-in-Some-OpUnlisted : goal.invariant_of-self-in-Some-OpUnlisted
invariant_of-self-in-Some-OpUnlisted c = popped_sound c.self.inside.func.rooms c.relist_op.new.self.rooms c.self.inside.journal.items c.pop.new.self.items (OpUnlisted c.in-Some-OpUnlisted.block c.in-Some-OpUnlisted.at c.in-Some-OpUnlisted.op) c.self.inside.func.flat c.relist_op.new.self.flat (let h : c.self.inside.journal.items ≡ c.pop.new.self.items ++ (OpUnlisted c.in-Some-OpUnlisted.block c.in-Some-OpUnlisted.at c.in-Some-OpUnlisted.op) ∷ [] = grind (arith, common_steps) in h) c.self.invariant c.relist_op.ensures.rooms c.relist_op.ensures.flat

pub returns-in-Some-OpUnlisted-clause-marks : goal.returns-in-Some-OpUnlisted-clause-marks
returns-in-Some-OpUnlisted-clause-marks c = subst (λ (a : Edited). (mark : ℕ) → mark < length a.journal → at_mark c.pop.new.self.items c.relist_op.new.self.flat mark ≡ at_mark a.journal a.now mark) c.self.view_is (popped_mark c.self.inside.journal.items c.pop.new.self.items (OpUnlisted c.in-Some-OpUnlisted.block c.in-Some-OpUnlisted.at c.in-Some-OpUnlisted.op) c.self.inside.func.flat c.relist_op.new.self.flat (let h : c.self.inside.journal.items ≡ c.pop.new.self.items ++ (OpUnlisted c.in-Some-OpUnlisted.block c.in-Some-OpUnlisted.at c.in-Some-OpUnlisted.op) ∷ [] = grind (arith, common_steps) in h) c.relist_op.ensures.flat)

pub returns-in-Some-OpUnlisted-clause-edits : goal.returns-in-Some-OpUnlisted-clause-edits
returns-in-Some-OpUnlisted-clause-edits c = subst (λ (a : Edited). (mark : ℕ) → mark < length a.journal → edits (drop mark a.journal) ≡ edits (drop mark c.pop.new.self.items) + edits ((OpUnlisted c.in-Some-OpUnlisted.block c.in-Some-OpUnlisted.at c.in-Some-OpUnlisted.op) ∷ [])) c.self.view_is (λ mark l. popped_edits c.self.inside.journal.items c.pop.new.self.items (OpUnlisted c.in-Some-OpUnlisted.block c.in-Some-OpUnlisted.at c.in-Some-OpUnlisted.op) mark (let h : c.self.inside.journal.items ≡ c.pop.new.self.items ++ (OpUnlisted c.in-Some-OpUnlisted.block c.in-Some-OpUnlisted.at c.in-Some-OpUnlisted.op) ∷ [] = grind (arith, common_steps) in h) l)

pub set_operand-requires-clause-op : goal.set_operand-requires-clause-op
set_operand-requires-clause-op c = (last_can c.self.inside.func.rooms c.self.inside.journal.items c.pop.new.self.items (OperandSet c.in-Some-OperandSet.op c.in-Some-OperandSet.at c.in-Some-OperandSet.value) c.self.inside.func.flat (let h : c.self.inside.journal.items ≡ c.pop.new.self.items ++ (OperandSet c.in-Some-OperandSet.op c.in-Some-OperandSet.at c.in-Some-OperandSet.value) ∷ [] = grind (arith, common_steps) in h) c.self.invariant).possible.0

pub set_operand-requires-clause-at : goal.set_operand-requires-clause-at
set_operand-requires-clause-at c = (last_can c.self.inside.func.rooms c.self.inside.journal.items c.pop.new.self.items (OperandSet c.in-Some-OperandSet.op c.in-Some-OperandSet.at c.in-Some-OperandSet.value) c.self.inside.func.flat (let h : c.self.inside.journal.items ≡ c.pop.new.self.items ++ (OperandSet c.in-Some-OperandSet.op c.in-Some-OperandSet.at c.in-Some-OperandSet.value) ∷ [] = grind (arith, common_steps) in h) c.self.invariant).possible.1

pub set_operand-requires-clause-value : goal.set_operand-requires-clause-value
set_operand-requires-clause-value c = operand_known c.self.inside.func.flat c.in-Some-OperandSet.op c.in-Some-OperandSet.at c.in-Some-OperandSet.value (last_can c.self.inside.func.rooms c.self.inside.journal.items c.pop.new.self.items (OperandSet c.in-Some-OperandSet.op c.in-Some-OperandSet.at c.in-Some-OperandSet.value) c.self.inside.func.flat (let h : c.self.inside.journal.items ≡ c.pop.new.self.items ++ (OperandSet c.in-Some-OperandSet.op c.in-Some-OperandSet.at c.in-Some-OperandSet.value) ∷ [] = grind (arith, common_steps) in h) c.self.invariant).closed (last_can c.self.inside.func.rooms c.self.inside.journal.items c.pop.new.self.items (OperandSet c.in-Some-OperandSet.op c.in-Some-OperandSet.at c.in-Some-OperandSet.value) c.self.inside.func.flat (let h : c.self.inside.journal.items ≡ c.pop.new.self.items ++ (OperandSet c.in-Some-OperandSet.op c.in-Some-OperandSet.at c.in-Some-OperandSet.value) ∷ [] = grind (arith, common_steps) in h) c.self.invariant).possible.0 (last_can c.self.inside.func.rooms c.self.inside.journal.items c.pop.new.self.items (OperandSet c.in-Some-OperandSet.op c.in-Some-OperandSet.at c.in-Some-OperandSet.value) c.self.inside.func.flat (let h : c.self.inside.journal.items ≡ c.pop.new.self.items ++ (OperandSet c.in-Some-OperandSet.op c.in-Some-OperandSet.at c.in-Some-OperandSet.value) ∷ [] = grind (arith, common_steps) in h) c.self.invariant).possible.1

pub invariant_of-self-in-Some-OperandSet : goal.invariant_of-self-in-Some-OperandSet
invariant_of-self-in-Some-OperandSet c = popped_sound c.self.inside.func.rooms c.set_operand.new.self.rooms c.self.inside.journal.items c.pop.new.self.items (OperandSet c.in-Some-OperandSet.op c.in-Some-OperandSet.at c.in-Some-OperandSet.value) c.self.inside.func.flat c.set_operand.new.self.flat (let h : c.self.inside.journal.items ≡ c.pop.new.self.items ++ (OperandSet c.in-Some-OperandSet.op c.in-Some-OperandSet.at c.in-Some-OperandSet.value) ∷ [] = grind (arith, common_steps) in h) c.self.invariant (roomier_same _ _ (grind (arith, common_steps))) c.set_operand.ensures.flat

pub returns-in-Some-OperandSet-clause-marks : goal.returns-in-Some-OperandSet-clause-marks
returns-in-Some-OperandSet-clause-marks c = subst (λ (a : Edited). (mark : ℕ) → mark < length a.journal → at_mark c.pop.new.self.items c.set_operand.new.self.flat mark ≡ at_mark a.journal a.now mark) c.self.view_is (popped_mark c.self.inside.journal.items c.pop.new.self.items (OperandSet c.in-Some-OperandSet.op c.in-Some-OperandSet.at c.in-Some-OperandSet.value) c.self.inside.func.flat c.set_operand.new.self.flat (let h : c.self.inside.journal.items ≡ c.pop.new.self.items ++ (OperandSet c.in-Some-OperandSet.op c.in-Some-OperandSet.at c.in-Some-OperandSet.value) ∷ [] = grind (arith, common_steps) in h) c.set_operand.ensures.flat)

pub returns-in-Some-OperandSet-clause-edits : goal.returns-in-Some-OperandSet-clause-edits
returns-in-Some-OperandSet-clause-edits c = subst (λ (a : Edited). (mark : ℕ) → mark < length a.journal → edits (drop mark a.journal) ≡ edits (drop mark c.pop.new.self.items) + edits ((OperandSet c.in-Some-OperandSet.op c.in-Some-OperandSet.at c.in-Some-OperandSet.value) ∷ [])) c.self.view_is (λ mark l. popped_edits c.self.inside.journal.items c.pop.new.self.items (OperandSet c.in-Some-OperandSet.op c.in-Some-OperandSet.at c.in-Some-OperandSet.value) mark (let h : c.self.inside.journal.items ≡ c.pop.new.self.items ++ (OperandSet c.in-Some-OperandSet.op c.in-Some-OperandSet.at c.in-Some-OperandSet.value) ∷ [] = grind (arith, common_steps) in h) l)

-- values, blocks, arguments and nodes
pub invariant_of-self-in-Some-ValueAdded : goal.invariant_of-self-in-Some-ValueAdded
invariant_of-self-in-Some-ValueAdded c = popped_sound c.self.inside.func.rooms c.drop_values.new.self.rooms c.self.inside.journal.items c.pop.new.self.items (ValueAdded c.in-Some-ValueAdded.values) c.self.inside.func.flat c.drop_values.new.self.flat (let h : c.self.inside.journal.items ≡ c.pop.new.self.items ++ (ValueAdded c.in-Some-ValueAdded.values) ∷ [] = grind (arith, common_steps) in h) c.self.invariant (roomier_same _ _ (grind (arith, common_steps))) c.drop_values.ensures.flat

pub returns-in-Some-ValueAdded-clause-marks : goal.returns-in-Some-ValueAdded-clause-marks
returns-in-Some-ValueAdded-clause-marks c = subst (λ (a : Edited). (mark : ℕ) → mark < length a.journal → at_mark c.pop.new.self.items c.drop_values.new.self.flat mark ≡ at_mark a.journal a.now mark) c.self.view_is (popped_mark c.self.inside.journal.items c.pop.new.self.items (ValueAdded c.in-Some-ValueAdded.values) c.self.inside.func.flat c.drop_values.new.self.flat (let h : c.self.inside.journal.items ≡ c.pop.new.self.items ++ (ValueAdded c.in-Some-ValueAdded.values) ∷ [] = grind (arith, common_steps) in h) c.drop_values.ensures.flat)

pub returns-in-Some-ValueAdded-clause-edits : goal.returns-in-Some-ValueAdded-clause-edits
returns-in-Some-ValueAdded-clause-edits c = subst (λ (a : Edited). (mark : ℕ) → mark < length a.journal → edits (drop mark a.journal) ≡ edits (drop mark c.pop.new.self.items) + edits ((ValueAdded c.in-Some-ValueAdded.values) ∷ [])) c.self.view_is (λ mark l. popped_edits c.self.inside.journal.items c.pop.new.self.items (ValueAdded c.in-Some-ValueAdded.values) mark (let h : c.self.inside.journal.items ≡ c.pop.new.self.items ++ (ValueAdded c.in-Some-ValueAdded.values) ∷ [] = grind (arith, common_steps) in h) l)

pub drop_values-requires : goal.drop_values-requires
drop_values-requires c = (last_can c.self.inside.func.rooms c.self.inside.journal.items c.pop.new.self.items (ValueAdded c.in-Some-ValueAdded.values) c.self.inside.func.flat (let h : c.self.inside.journal.items ≡ c.pop.new.self.items ++ (ValueAdded c.in-Some-ValueAdded.values) ∷ [] = grind (arith, common_steps) in h) c.self.invariant).closed

pub invariant_of-self-in-Some-BlockAdded : goal.invariant_of-self-in-Some-BlockAdded
invariant_of-self-in-Some-BlockAdded c = popped_sound c.self.inside.func.rooms c.drop_blocks.new.self.rooms c.self.inside.journal.items c.pop.new.self.items (BlockAdded c.in-Some-BlockAdded.count) c.self.inside.func.flat c.drop_blocks.new.self.flat (let h : c.self.inside.journal.items ≡ c.pop.new.self.items ++ (BlockAdded c.in-Some-BlockAdded.count) ∷ [] = grind (arith, common_steps) in h) c.self.invariant (roomier_same _ _ c.drop_blocks.ensures.rooms) c.drop_blocks.ensures.flat

pub returns-in-Some-BlockAdded-clause-marks : goal.returns-in-Some-BlockAdded-clause-marks
returns-in-Some-BlockAdded-clause-marks c = subst (λ (a : Edited). (mark : ℕ) → mark < length a.journal → at_mark c.pop.new.self.items c.drop_blocks.new.self.flat mark ≡ at_mark a.journal a.now mark) c.self.view_is (popped_mark c.self.inside.journal.items c.pop.new.self.items (BlockAdded c.in-Some-BlockAdded.count) c.self.inside.func.flat c.drop_blocks.new.self.flat (let h : c.self.inside.journal.items ≡ c.pop.new.self.items ++ (BlockAdded c.in-Some-BlockAdded.count) ∷ [] = grind (arith, common_steps) in h) c.drop_blocks.ensures.flat)

pub returns-in-Some-BlockAdded-clause-edits : goal.returns-in-Some-BlockAdded-clause-edits
returns-in-Some-BlockAdded-clause-edits c = subst (λ (a : Edited). (mark : ℕ) → mark < length a.journal → edits (drop mark a.journal) ≡ edits (drop mark c.pop.new.self.items) + edits ((BlockAdded c.in-Some-BlockAdded.count) ∷ [])) c.self.view_is (λ mark l. popped_edits c.self.inside.journal.items c.pop.new.self.items (BlockAdded c.in-Some-BlockAdded.count) mark (let h : c.self.inside.journal.items ≡ c.pop.new.self.items ++ (BlockAdded c.in-Some-BlockAdded.count) ∷ [] = grind (arith, common_steps) in h) l)

pub drop_blocks-requires : goal.drop_blocks-requires
drop_blocks-requires c = (last_can c.self.inside.func.rooms c.self.inside.journal.items c.pop.new.self.items (BlockAdded c.in-Some-BlockAdded.count) c.self.inside.func.flat (let h : c.self.inside.journal.items ≡ c.pop.new.self.items ++ (BlockAdded c.in-Some-BlockAdded.count) ∷ [] = grind (arith, common_steps) in h) c.self.invariant).closed

pub invariant_of-self-in-Some-ArgsSet : goal.invariant_of-self-in-Some-ArgsSet
invariant_of-self-in-Some-ArgsSet c = popped_sound c.self.inside.func.rooms c.exchange_args.new.self.rooms c.self.inside.journal.items c.pop.new.self.items (ArgsSet c.in-Some-ArgsSet.block c.in-Some-ArgsSet.args) c.self.inside.func.flat c.exchange_args.new.self.flat (let h : c.self.inside.journal.items ≡ c.pop.new.self.items ++ (ArgsSet c.in-Some-ArgsSet.block c.in-Some-ArgsSet.args) ∷ [] = grind (arith, common_steps) in h) c.self.invariant (roomier_same _ _ (grind (arith, common_steps))) (c.exchange_args.ensures.flat ∙ ap (λ (v : Vec ℕ Global). with_args c.self.inside.func.flat c.in-Some-ArgsSet.block v.items) c.into_inner.ensures)

pub returns-in-Some-ArgsSet-clause-marks : goal.returns-in-Some-ArgsSet-clause-marks
returns-in-Some-ArgsSet-clause-marks c = subst (λ (a : Edited). (mark : ℕ) → mark < length a.journal → at_mark c.pop.new.self.items c.exchange_args.new.self.flat mark ≡ at_mark a.journal a.now mark) c.self.view_is (popped_mark c.self.inside.journal.items c.pop.new.self.items (ArgsSet c.in-Some-ArgsSet.block c.in-Some-ArgsSet.args) c.self.inside.func.flat c.exchange_args.new.self.flat (let h : c.self.inside.journal.items ≡ c.pop.new.self.items ++ (ArgsSet c.in-Some-ArgsSet.block c.in-Some-ArgsSet.args) ∷ [] = grind (arith, common_steps) in h) (c.exchange_args.ensures.flat ∙ ap (λ (v : Vec ℕ Global). with_args c.self.inside.func.flat c.in-Some-ArgsSet.block v.items) c.into_inner.ensures))

pub returns-in-Some-ArgsSet-clause-edits : goal.returns-in-Some-ArgsSet-clause-edits
returns-in-Some-ArgsSet-clause-edits c = subst (λ (a : Edited). (mark : ℕ) → mark < length a.journal → edits (drop mark a.journal) ≡ edits (drop mark c.pop.new.self.items) + edits ((ArgsSet c.in-Some-ArgsSet.block c.in-Some-ArgsSet.args) ∷ [])) c.self.view_is (λ mark l. popped_edits c.self.inside.journal.items c.pop.new.self.items (ArgsSet c.in-Some-ArgsSet.block c.in-Some-ArgsSet.args) mark (let h : c.self.inside.journal.items ≡ c.pop.new.self.items ++ (ArgsSet c.in-Some-ArgsSet.block c.in-Some-ArgsSet.args) ∷ [] = grind (arith, common_steps) in h) l)

pub exchange_args-requires-clause-block : goal.exchange_args-requires-clause-block
exchange_args-requires-clause-block c = (last_can c.self.inside.func.rooms c.self.inside.journal.items c.pop.new.self.items (ArgsSet c.in-Some-ArgsSet.block c.in-Some-ArgsSet.args) c.self.inside.func.flat (let h : c.self.inside.journal.items ≡ c.pop.new.self.items ++ (ArgsSet c.in-Some-ArgsSet.block c.in-Some-ArgsSet.args) ∷ [] = grind (arith, common_steps) in h) c.self.invariant).possible

pub exchange_args-requires-clause-args : goal.exchange_args-requires-clause-args
exchange_args-requires-clause-args c = subst (λ (v : Vec ℕ Global). AllBelow (length c.self.inside.func.flat.types) v.items) (sym c.into_inner.ensures) (args_known c.self.inside.func.flat c.in-Some-ArgsSet.block c.in-Some-ArgsSet.args.items (last_can c.self.inside.func.rooms c.self.inside.journal.items c.pop.new.self.items (ArgsSet c.in-Some-ArgsSet.block c.in-Some-ArgsSet.args) c.self.inside.func.flat (let h : c.self.inside.journal.items ≡ c.pop.new.self.items ++ (ArgsSet c.in-Some-ArgsSet.block c.in-Some-ArgsSet.args) ∷ [] = grind (arith, common_steps) in h) c.self.invariant).closed (last_can c.self.inside.func.rooms c.self.inside.journal.items c.pop.new.self.items (ArgsSet c.in-Some-ArgsSet.block c.in-Some-ArgsSet.args) c.self.inside.func.flat (let h : c.self.inside.journal.items ≡ c.pop.new.self.items ++ (ArgsSet c.in-Some-ArgsSet.block c.in-Some-ArgsSet.args) ∷ [] = grind (arith, common_steps) in h) c.self.invariant).possible)

pub invariant_of-self-in-Some-BlocksSet : goal.invariant_of-self-in-Some-BlocksSet
invariant_of-self-in-Some-BlocksSet c = popped_sound c.self.inside.func.rooms c.exchange_blocks.new.self.rooms c.self.inside.journal.items c.pop.new.self.items (BlocksSet c.in-Some-BlocksSet.region c.in-Some-BlocksSet.held) c.self.inside.func.flat c.exchange_blocks.new.self.flat (let h : c.self.inside.journal.items ≡ c.pop.new.self.items ++ (BlocksSet c.in-Some-BlocksSet.region c.in-Some-BlocksSet.held) ∷ [] = grind (arith, common_steps) in h) c.self.invariant (roomier_same _ _ (grind (arith, common_steps))) (c.exchange_blocks.ensures.flat ∙ ap (λ (v : Vec ℕ Global). with_blocks c.self.inside.func.flat c.in-Some-BlocksSet.region v.items) c.into_inner-in-Some-BlocksSet.ensures)

pub returns-in-Some-BlocksSet-clause-marks : goal.returns-in-Some-BlocksSet-clause-marks
returns-in-Some-BlocksSet-clause-marks c = subst (λ (a : Edited). (mark : ℕ) → mark < length a.journal → at_mark c.pop.new.self.items c.exchange_blocks.new.self.flat mark ≡ at_mark a.journal a.now mark) c.self.view_is (popped_mark c.self.inside.journal.items c.pop.new.self.items (BlocksSet c.in-Some-BlocksSet.region c.in-Some-BlocksSet.held) c.self.inside.func.flat c.exchange_blocks.new.self.flat (let h : c.self.inside.journal.items ≡ c.pop.new.self.items ++ (BlocksSet c.in-Some-BlocksSet.region c.in-Some-BlocksSet.held) ∷ [] = grind (arith, common_steps) in h) (c.exchange_blocks.ensures.flat ∙ ap (λ (v : Vec ℕ Global). with_blocks c.self.inside.func.flat c.in-Some-BlocksSet.region v.items) c.into_inner-in-Some-BlocksSet.ensures))

pub returns-in-Some-BlocksSet-clause-edits : goal.returns-in-Some-BlocksSet-clause-edits
returns-in-Some-BlocksSet-clause-edits c = subst (λ (a : Edited). (mark : ℕ) → mark < length a.journal → edits (drop mark a.journal) ≡ edits (drop mark c.pop.new.self.items) + edits ((BlocksSet c.in-Some-BlocksSet.region c.in-Some-BlocksSet.held) ∷ [])) c.self.view_is (λ mark l. popped_edits c.self.inside.journal.items c.pop.new.self.items (BlocksSet c.in-Some-BlocksSet.region c.in-Some-BlocksSet.held) mark (let h : c.self.inside.journal.items ≡ c.pop.new.self.items ++ (BlocksSet c.in-Some-BlocksSet.region c.in-Some-BlocksSet.held) ∷ [] = grind (arith, common_steps) in h) l)

pub exchange_blocks-requires-clause-region : goal.exchange_blocks-requires-clause-region
exchange_blocks-requires-clause-region c = (last_can c.self.inside.func.rooms c.self.inside.journal.items c.pop.new.self.items (BlocksSet c.in-Some-BlocksSet.region c.in-Some-BlocksSet.held) c.self.inside.func.flat (let h : c.self.inside.journal.items ≡ c.pop.new.self.items ++ (BlocksSet c.in-Some-BlocksSet.region c.in-Some-BlocksSet.held) ∷ [] = grind (arith, common_steps) in h) c.self.invariant).possible

pub exchange_blocks-requires-clause-blocks : goal.exchange_blocks-requires-clause-blocks
exchange_blocks-requires-clause-blocks c = subst (λ (v : Vec ℕ Global). AllBelow (length c.self.inside.func.flat.blocks) v.items) (sym c.into_inner-in-Some-BlocksSet.ensures) (blocks_known c.self.inside.func.flat c.in-Some-BlocksSet.region c.in-Some-BlocksSet.held.items (last_can c.self.inside.func.rooms c.self.inside.journal.items c.pop.new.self.items (BlocksSet c.in-Some-BlocksSet.region c.in-Some-BlocksSet.held) c.self.inside.func.flat (let h : c.self.inside.journal.items ≡ c.pop.new.self.items ++ (BlocksSet c.in-Some-BlocksSet.region c.in-Some-BlocksSet.held) ∷ [] = grind (arith, common_steps) in h) c.self.invariant).closed (last_can c.self.inside.func.rooms c.self.inside.journal.items c.pop.new.self.items (BlocksSet c.in-Some-BlocksSet.region c.in-Some-BlocksSet.held) c.self.inside.func.flat (let h : c.self.inside.journal.items ≡ c.pop.new.self.items ++ (BlocksSet c.in-Some-BlocksSet.region c.in-Some-BlocksSet.held) ∷ [] = grind (arith, common_steps) in h) c.self.invariant).possible)

pub invariant_of-self-in-Some-NodeSet : goal.invariant_of-self-in-Some-NodeSet
invariant_of-self-in-Some-NodeSet c = popped_sound c.self.inside.func.rooms c.exchange_node.new.self.rooms c.self.inside.journal.items c.pop.new.self.items (NodeSet c.in-Some-NodeSet.op c.in-Some-NodeSet.held) c.self.inside.func.flat c.exchange_node.new.self.flat (let h : c.self.inside.journal.items ≡ c.pop.new.self.items ++ (NodeSet c.in-Some-NodeSet.op c.in-Some-NodeSet.held) ∷ [] = grind (arith, common_steps) in h) c.self.invariant (roomier_same _ _ (grind (arith, common_steps))) (c.exchange_node.ensures.flat ∙ ap (λ (n : OpNode). with_node c.self.inside.func.flat c.in-Some-NodeSet.op n) c.into_inner-in-Some-NodeSet.ensures)

pub returns-in-Some-NodeSet-clause-marks : goal.returns-in-Some-NodeSet-clause-marks
returns-in-Some-NodeSet-clause-marks c = subst (λ (a : Edited). (mark : ℕ) → mark < length a.journal → at_mark c.pop.new.self.items c.exchange_node.new.self.flat mark ≡ at_mark a.journal a.now mark) c.self.view_is (popped_mark c.self.inside.journal.items c.pop.new.self.items (NodeSet c.in-Some-NodeSet.op c.in-Some-NodeSet.held) c.self.inside.func.flat c.exchange_node.new.self.flat (let h : c.self.inside.journal.items ≡ c.pop.new.self.items ++ (NodeSet c.in-Some-NodeSet.op c.in-Some-NodeSet.held) ∷ [] = grind (arith, common_steps) in h) (c.exchange_node.ensures.flat ∙ ap (λ (n : OpNode). with_node c.self.inside.func.flat c.in-Some-NodeSet.op n) c.into_inner-in-Some-NodeSet.ensures))

pub returns-in-Some-NodeSet-clause-edits : goal.returns-in-Some-NodeSet-clause-edits
returns-in-Some-NodeSet-clause-edits c = subst (λ (a : Edited). (mark : ℕ) → mark < length a.journal → edits (drop mark a.journal) ≡ edits (drop mark c.pop.new.self.items) + edits ((NodeSet c.in-Some-NodeSet.op c.in-Some-NodeSet.held) ∷ [])) c.self.view_is (λ mark l. popped_edits c.self.inside.journal.items c.pop.new.self.items (NodeSet c.in-Some-NodeSet.op c.in-Some-NodeSet.held) mark (let h : c.self.inside.journal.items ≡ c.pop.new.self.items ++ (NodeSet c.in-Some-NodeSet.op c.in-Some-NodeSet.held) ∷ [] = grind (arith, common_steps) in h) l)

pub exchange_node-requires-clause-op : goal.exchange_node-requires-clause-op
exchange_node-requires-clause-op c = (last_can c.self.inside.func.rooms c.self.inside.journal.items c.pop.new.self.items (NodeSet c.in-Some-NodeSet.op c.in-Some-NodeSet.held) c.self.inside.func.flat (let h : c.self.inside.journal.items ≡ c.pop.new.self.items ++ (NodeSet c.in-Some-NodeSet.op c.in-Some-NodeSet.held) ∷ [] = grind (arith, common_steps) in h) c.self.invariant).possible

pub exchange_node-requires-clause-node : goal.exchange_node-requires-clause-node
exchange_node-requires-clause-node c = subst (λ (n : OpNode). IsOpWithin (length c.self.inside.func.flat.types) (length c.self.inside.func.flat.blocks) c.self.inside.func.flat n) (sym c.into_inner-in-Some-NodeSet.ensures) (node_known c.self.inside.func.flat c.in-Some-NodeSet.op c.in-Some-NodeSet.held (last_can c.self.inside.func.rooms c.self.inside.journal.items c.pop.new.self.items (NodeSet c.in-Some-NodeSet.op c.in-Some-NodeSet.held) c.self.inside.func.flat (let h : c.self.inside.journal.items ≡ c.pop.new.self.items ++ (NodeSet c.in-Some-NodeSet.op c.in-Some-NodeSet.held) ∷ [] = grind (arith, common_steps) in h) c.self.invariant).closed (last_can c.self.inside.func.rooms c.self.inside.journal.items c.pop.new.self.items (NodeSet c.in-Some-NodeSet.op c.in-Some-NodeSet.held) c.self.inside.func.flat (let h : c.self.inside.journal.items ≡ c.pop.new.self.items ++ (NodeSet c.in-Some-NodeSet.op c.in-Some-NodeSet.held) ∷ [] = grind (arith, common_steps) in h) c.self.invariant).possible)

pub invariant_of-self-in-Some-BlockCut : goal.invariant_of-self-in-Some-BlockCut
invariant_of-self-in-Some-BlockCut c = popped_sound c.self.inside.func.rooms c.join_again.new.func.rooms c.self.inside.journal.items c.pop.new.self.items (BlockCut c.in-Some-BlockCut.block c.in-Some-BlockCut.end) c.self.inside.func.flat c.join_again.new.func.flat (let h : c.self.inside.journal.items ≡ c.pop.new.self.items ++ (BlockCut c.in-Some-BlockCut.block c.in-Some-BlockCut.end) ∷ [] = grind (arith, common_steps) in h) c.self.invariant (roomier_same _ _ c.join_again.ensures.rooms) c.join_again.ensures.flat

pub returns-in-Some-BlockCut-clause-marks : goal.returns-in-Some-BlockCut-clause-marks
returns-in-Some-BlockCut-clause-marks c = subst (λ (a : Edited). (mark : ℕ) → mark < length a.journal → at_mark c.pop.new.self.items c.join_again.new.func.flat mark ≡ at_mark a.journal a.now mark) c.self.view_is (popped_mark c.self.inside.journal.items c.pop.new.self.items (BlockCut c.in-Some-BlockCut.block c.in-Some-BlockCut.end) c.self.inside.func.flat c.join_again.new.func.flat (let h : c.self.inside.journal.items ≡ c.pop.new.self.items ++ (BlockCut c.in-Some-BlockCut.block c.in-Some-BlockCut.end) ∷ [] = grind (arith, common_steps) in h) c.join_again.ensures.flat)

pub returns-in-Some-BlockCut-clause-edits : goal.returns-in-Some-BlockCut-clause-edits
returns-in-Some-BlockCut-clause-edits c = subst (λ (a : Edited). (mark : ℕ) → mark < length a.journal → edits (drop mark a.journal) ≡ edits (drop mark c.pop.new.self.items) + edits ((BlockCut c.in-Some-BlockCut.block c.in-Some-BlockCut.end) ∷ [])) c.self.view_is (λ mark l. popped_edits c.self.inside.journal.items c.pop.new.self.items (BlockCut c.in-Some-BlockCut.block c.in-Some-BlockCut.end) mark (let h : c.self.inside.journal.items ≡ c.pop.new.self.items ++ (BlockCut c.in-Some-BlockCut.block c.in-Some-BlockCut.end) ∷ [] = grind (arith, common_steps) in h) l)

pub join_again-requires-clause-block : goal.join_again-requires-clause-block
join_again-requires-clause-block c = (last_can c.self.inside.func.rooms c.self.inside.journal.items c.pop.new.self.items (BlockCut c.in-Some-BlockCut.block c.in-Some-BlockCut.end) c.self.inside.func.flat (let h : c.self.inside.journal.items ≡ c.pop.new.self.items ++ (BlockCut c.in-Some-BlockCut.block c.in-Some-BlockCut.end) ∷ [] = grind (arith, common_steps) in h) c.self.invariant).possible.0

pub join_again-requires-clause-end : goal.join_again-requires-clause-end
join_again-requires-clause-end c = (last_can c.self.inside.func.rooms c.self.inside.journal.items c.pop.new.self.items (BlockCut c.in-Some-BlockCut.block c.in-Some-BlockCut.end) c.self.inside.func.flat (let h : c.self.inside.journal.items ≡ c.pop.new.self.items ++ (BlockCut c.in-Some-BlockCut.block c.in-Some-BlockCut.end) ∷ [] = grind (arith, common_steps) in h) c.self.invariant).possible.1

pub join_again-requires-clause-room : goal.join_again-requires-clause-room
join_again-requires-clause-room c = (last_can c.self.inside.func.rooms c.self.inside.journal.items c.pop.new.self.items (BlockCut c.in-Some-BlockCut.block c.in-Some-BlockCut.end) c.self.inside.func.flat (let h : c.self.inside.journal.items ≡ c.pop.new.self.items ++ (BlockCut c.in-Some-BlockCut.block c.in-Some-BlockCut.end) ∷ [] = grind (arith, common_steps) in h) c.self.invariant).possible.2

pub join_again-requires-clause-closed : goal.join_again-requires-clause-closed
join_again-requires-clause-closed c = (last_can c.self.inside.func.rooms c.self.inside.journal.items c.pop.new.self.items (BlockCut c.in-Some-BlockCut.block c.in-Some-BlockCut.end) c.self.inside.func.flat (let h : c.self.inside.journal.items ≡ c.pop.new.self.items ++ (BlockCut c.in-Some-BlockCut.block c.in-Some-BlockCut.end) ∷ [] = grind (arith, common_steps) in h) c.self.invariant).closed

pub invariant_of-self-in-Some-BlocksListed : goal.invariant_of-self-in-Some-BlocksListed
invariant_of-self-in-Some-BlocksListed c = popped_sound c.self.inside.func.rooms c.unlist_blocks.new.func.rooms c.self.inside.journal.items c.pop.new.self.items (BlocksListed c.in-Some-BlocksListed.region c.in-Some-BlocksListed.at c.in-Some-BlocksListed.count) c.self.inside.func.flat c.unlist_blocks.new.func.flat (let h : c.self.inside.journal.items ≡ c.pop.new.self.items ++ (BlocksListed c.in-Some-BlocksListed.region c.in-Some-BlocksListed.at c.in-Some-BlocksListed.count) ∷ [] = grind (arith, common_steps) in h) c.self.invariant (roomier_same _ _ c.unlist_blocks.ensures.rooms) c.unlist_blocks.ensures.flat

pub returns-in-Some-BlocksListed-clause-marks : goal.returns-in-Some-BlocksListed-clause-marks
returns-in-Some-BlocksListed-clause-marks c = subst (λ (a : Edited). (mark : ℕ) → mark < length a.journal → at_mark c.pop.new.self.items c.unlist_blocks.new.func.flat mark ≡ at_mark a.journal a.now mark) c.self.view_is (popped_mark c.self.inside.journal.items c.pop.new.self.items (BlocksListed c.in-Some-BlocksListed.region c.in-Some-BlocksListed.at c.in-Some-BlocksListed.count) c.self.inside.func.flat c.unlist_blocks.new.func.flat (let h : c.self.inside.journal.items ≡ c.pop.new.self.items ++ (BlocksListed c.in-Some-BlocksListed.region c.in-Some-BlocksListed.at c.in-Some-BlocksListed.count) ∷ [] = grind (arith, common_steps) in h) c.unlist_blocks.ensures.flat)

pub returns-in-Some-BlocksListed-clause-edits : goal.returns-in-Some-BlocksListed-clause-edits
returns-in-Some-BlocksListed-clause-edits c = subst (λ (a : Edited). (mark : ℕ) → mark < length a.journal → edits (drop mark a.journal) ≡ edits (drop mark c.pop.new.self.items) + edits ((BlocksListed c.in-Some-BlocksListed.region c.in-Some-BlocksListed.at c.in-Some-BlocksListed.count) ∷ [])) c.self.view_is (λ mark l. popped_edits c.self.inside.journal.items c.pop.new.self.items (BlocksListed c.in-Some-BlocksListed.region c.in-Some-BlocksListed.at c.in-Some-BlocksListed.count) mark (let h : c.self.inside.journal.items ≡ c.pop.new.self.items ++ (BlocksListed c.in-Some-BlocksListed.region c.in-Some-BlocksListed.at c.in-Some-BlocksListed.count) ∷ [] = grind (arith, common_steps) in h) l)

pub unlist_blocks-requires-clause-region : goal.unlist_blocks-requires-clause-region
unlist_blocks-requires-clause-region c = (last_can c.self.inside.func.rooms c.self.inside.journal.items c.pop.new.self.items (BlocksListed c.in-Some-BlocksListed.region c.in-Some-BlocksListed.at c.in-Some-BlocksListed.count) c.self.inside.func.flat (let h : c.self.inside.journal.items ≡ c.pop.new.self.items ++ (BlocksListed c.in-Some-BlocksListed.region c.in-Some-BlocksListed.at c.in-Some-BlocksListed.count) ∷ [] = grind (arith, common_steps) in h) c.self.invariant).possible.0

pub unlist_blocks-requires-clause-count : goal.unlist_blocks-requires-clause-count
unlist_blocks-requires-clause-count c = (last_can c.self.inside.func.rooms c.self.inside.journal.items c.pop.new.self.items (BlocksListed c.in-Some-BlocksListed.region c.in-Some-BlocksListed.at c.in-Some-BlocksListed.count) c.self.inside.func.flat (let h : c.self.inside.journal.items ≡ c.pop.new.self.items ++ (BlocksListed c.in-Some-BlocksListed.region c.in-Some-BlocksListed.at c.in-Some-BlocksListed.count) ∷ [] = grind (arith, common_steps) in h) c.self.invariant).possible.1

pub invariant_of-self-in-Some-Replaced : goal.invariant_of-self-in-Some-Replaced
invariant_of-self-in-Some-Replaced c = popped_sound c.self.inside.func.rooms c.into_inner-in-Some-Replaced.result.rooms c.self.inside.journal.items c.pop.new.self.items (Replaced c.in-Some-Replaced.held) c.self.inside.func.flat c.into_inner-in-Some-Replaced.result.flat (let h : c.self.inside.journal.items ≡ c.pop.new.self.items ++ (Replaced c.in-Some-Replaced.held) ∷ [] = grind (arith, common_steps) in h) c.self.invariant (roomier_same _ _ (ap (λ (a : Arena). a.rooms) c.into_inner-in-Some-Replaced.ensures)) (ap (λ (a : Arena). a.flat) c.into_inner-in-Some-Replaced.ensures)

pub returns-in-Some-Replaced-clause-marks : goal.returns-in-Some-Replaced-clause-marks
returns-in-Some-Replaced-clause-marks c = subst (λ (a : Edited). (mark : ℕ) → mark < length a.journal → at_mark c.pop.new.self.items c.into_inner-in-Some-Replaced.result.flat mark ≡ at_mark a.journal a.now mark) c.self.view_is (popped_mark c.self.inside.journal.items c.pop.new.self.items (Replaced c.in-Some-Replaced.held) c.self.inside.func.flat c.into_inner-in-Some-Replaced.result.flat (let h : c.self.inside.journal.items ≡ c.pop.new.self.items ++ (Replaced c.in-Some-Replaced.held) ∷ [] = grind (arith, common_steps) in h) (ap (λ (a : Arena). a.flat) c.into_inner-in-Some-Replaced.ensures))

pub returns-in-Some-Replaced-clause-edits : goal.returns-in-Some-Replaced-clause-edits
returns-in-Some-Replaced-clause-edits c = subst (λ (a : Edited). (mark : ℕ) → mark < length a.journal → edits (drop mark a.journal) ≡ edits (drop mark c.pop.new.self.items) + edits ((Replaced c.in-Some-Replaced.held) ∷ [])) c.self.view_is (λ mark l. popped_edits c.self.inside.journal.items c.pop.new.self.items (Replaced c.in-Some-Replaced.held) mark (let h : c.self.inside.journal.items ≡ c.pop.new.self.items ++ (Replaced c.in-Some-Replaced.held) ∷ [] = grind (arith, common_steps) in h) l)
