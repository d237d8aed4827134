-- Steps taken back, and journals of them.
use Rattle.std.specs.Prelude.{◌≡◌, ℕ, ◌+◌, ◌-◌, ◌<◌, ◌≤◌, List, [], ◌∷◌, ◌++◌, length, get_or, insert, remove, take, drop}
use Rattle.flat_model.specs.Flat.{Flat, op_at, block_at, blocks_at, IsClosed}
use Rattle.undo_rewriter.specs.declared.step.Step.{Step}
use Rattle.undo_rewriter.specs.declared.step.Step.TheVariants.{Begin, OpAdded, OpListed, OpUnlisted, OperandSet, ValueAdded, BlockAdded, ArgsSet, BlocksSet, NodeSet, BlockCut, BlocksListed, Replaced}
use Rattle.edit_model.specs.Writes.{with_ops, with_operand, with_args, with_blocks, with_node}
use Rattle.edit_effects.specs.Cuts.{joined}

-- the nodes before a step
abbrev pub undone : Step → Flat → Flat
undone Begin f = f
undone (OpAdded values) f = record f { ops = take (length f.ops - 1) f.ops; types = take values f.types }
undone (OpListed block at) f = with_ops f block (remove (block_at f block).ops at)
undone (OpUnlisted block at op) f = with_ops f block (insert (block_at f block).ops at op)
undone (OperandSet op at value) f = with_operand f op at value
undone (ValueAdded values) f = record f { types = take values f.types }
undone (BlockAdded blocks) f = record f { blocks = take blocks f.blocks }
undone (ArgsSet block args) f = with_args f block args.items
undone (BlocksSet region blocks) f = with_blocks f region blocks.items
undone (NodeSet op node) f = with_node f op node
undone (BlockCut block end) f = joined f block end
undone (BlocksListed region at count) f = with_blocks f region (take at (blocks_at f region) ++ drop (at + count) (blocks_at f region))
undone (Replaced a) f = a.flat

-- how much room the blocks' lists had before a step at least, where they have this much after it
abbrev pub rooms_before : Step → List ℕ → List ℕ
rooms_before (BlockAdded blocks) rooms = take blocks rooms
rooms_before (BlockCut block end) rooms = take end rooms
rooms_before (Replaced a) rooms = a.rooms
rooms_before u rooms = rooms

-- the nodes before all steps of a journal; the last step is taken back first
abbrev pub back : List Step → Flat → Flat
back [] f = f
back (u ∷ us) f = undone u (back us f)

abbrev pub rooms_back : List Step → List ℕ → List ℕ
rooms_back [] rooms = rooms
rooms_back (u ∷ us) rooms = rooms_before u (rooms_back us rooms)

-- the nodes when the journal was so long
abbrev pub at_mark : List Step → Flat → ℕ → Flat
at_mark us f mark = back (drop mark us) f

-- how many edits a journal has: the step that puts a function in the place of another is an edit by itself
abbrev pub edits : List Step → ℕ
edits [] = 0
edits (Begin ∷ us) = edits us + 1
edits (Replaced a ∷ us) = edits us + 1
edits (u ∷ us) = edits us

-- the step can be taken back: what it did is there, and a list has room for what it took out
abbrev pub IsPossible : List ℕ → Step → Flat → Type 0
IsPossible rooms Begin f = Unit {0}
IsPossible rooms (OpAdded values) f = (0 < length f.ops) × (values ≤ length f.types)
IsPossible rooms (OpListed block at) f = (block < length f.blocks) × (at < length (block_at f block).ops)
IsPossible rooms (OpUnlisted block at op) f = (block < length f.blocks) × (at ≤ length (block_at f block).ops) × (length (block_at f block).ops < get_or rooms block 0)
IsPossible rooms (OperandSet op at value) f = (op < length f.ops) × (at < length (op_at f op).operands)
IsPossible rooms (ValueAdded values) f = Unit {0}
IsPossible rooms (BlockAdded blocks) f = Unit {0}
IsPossible rooms (ArgsSet block args) f = block < length f.blocks
IsPossible rooms (BlocksSet region blocks) f = region < length f.regions
IsPossible rooms (NodeSet op node) f = op < length f.ops
IsPossible rooms (BlockCut block end) f = (block < end) × (end < length f.blocks) × (length (block_at f block).ops + length (block_at f end).ops ≤ get_or rooms block 0)
IsPossible rooms (BlocksListed region at count) f = (region < length f.regions) × (at + count ≤ length (blocks_at f region))
IsPossible rooms (Replaced a) f = Unit {0}

-- and the nodes before it are closed
pub record CanUndo (rooms : List ℕ) (u : Step) (f : Flat) : Type 0 where
  pub possible : IsPossible rooms u f
  pub closed : IsClosed (undone u f)

-- each step of a journal can be taken back when those after it were
abbrev pub IsSound : List ℕ → List Step → Flat → Type 0
IsSound rooms [] f = Unit {0}
IsSound rooms (u ∷ us) f = CanUndo (rooms_back us rooms) u (back us f) × IsSound rooms us f

-- a function that is edited: its nodes now, the room of the blocks' lists, and the steps since it was taken over
pub record Edited : Type 0 where
  pub now : Flat
  pub rooms : List ℕ
  pub journal : List Step

-- the nodes at each mark so far are what they were
pub record KeepsMarks (old new : Edited) : Type 0 where
  pub longer : length old.journal ≤ length new.journal
  pub front : take (length old.journal) new.journal ≡ old.journal
  pub marks : (mark : ℕ) → mark ≤ length old.journal → at_mark new.journal new.now mark ≡ at_mark old.journal old.now mark

-- the nodes and the journal are what they were; lists may have more room
pub record IsBack (old new : Edited) : Type 0 where
  pub now : new.now ≡ old.now
  pub journal : new.journal ≡ old.journal
