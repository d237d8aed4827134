use Rattle.std.proofs.Common.{◌≡◌, ◌++◌, take, drop, map}
use Rattle.std.specs.Prelude.{codes, flat_map}
use Rattle.tree_text.specs.Joined.{led_by}
use Rattle.text_model.specs.PrintedOps.{op_text, region_text, block_parts, blocks_from}
use Rattle.generic_printer.specs.NamesIn.{names_in}
use Rattle.generic_printer.proofs.printing.+put_op.Given as goal

abbrev pub invariant-put_regions-loop-region : goal.invariant-put_regions-loop-region
invariant-put_regions-loop-region l = l.out ≡ l.initial.out ++ led_by (codes ", ") (map (λ r. r l.fn.indent) (map (region_text (names_in l.fn.table)) (take l.region-index l.rest)))

abbrev pub invariant-put_blocks-loop-block : goal.invariant-put_blocks-loop-block
invariant-put_blocks-loop-block l = l.out ++ blocks_from (names_in l.fn.table) l.fn.indent l.position (map (block_parts (names_in l.fn.table)) (drop l.block-index l.rest)) ≡ l.initial.out ++ blocks_from (names_in l.fn.table) l.fn.indent 1 (map (block_parts (names_in l.fn.table)) l.rest)

abbrev pub invariant-put_ops-loop-op : goal.invariant-put_ops-loop-op
invariant-put_ops-loop-op l = l.out ≡ l.initial.out ++ flat_map (λ o. o l.fn.indent) (map (op_text (names_in l.fn.table)) (take l.op-index l.ops))
