use Rattle.std.proofs.Common.{◌≡◌, drop, map}
use Rattle.std.specs.Prelude.{flat_map}
use Rattle.form_model.specs.Decoding.{values_in}
use Rattle.decode_code.specs.TypesIn.{types_in, values_in_block, values_in_region, with_types}
use Rattle.decode_code.proofs.value_types.+note_op.Given as goal

abbrev pub invariant-note_regions-loop-region : goal.invariant-note_regions-loop-region
invariant-note_regions-loop-region l =
    with_types (types_in l.types) (flat_map (λ vs. vs) (map values_in_region (drop l.region-index l.regions)))
    ≡ with_types (types_in l.initial.types) (flat_map (λ vs. vs) (map values_in_region l.regions))

abbrev pub invariant-note_blocks-loop-block : goal.invariant-note_blocks-loop-block
invariant-note_blocks-loop-block l =
    with_types (types_in l.types) (flat_map (λ vs. vs) (map values_in_block (drop l.block-index l.blocks)))
    ≡ with_types (types_in l.initial.types) (flat_map (λ vs. vs) (map values_in_block l.blocks))

abbrev pub invariant-note_ops-loop-op : goal.invariant-note_ops-loop-op
invariant-note_ops-loop-op l =
    with_types (types_in l.types) (flat_map (λ vs. vs) (map values_in (drop l.op-index l.ops)))
    ≡ with_types (types_in l.initial.types) (flat_map (λ vs. vs) (map values_in l.ops))
