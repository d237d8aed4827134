-- When names are known of all that stands in an operation, and a text can have all of it.
use Rattle.std.specs.Prelude.{ℕ, ◌+◌, ◌^◌, Bool, true, false, ◌&&◌, [], ◌∷◌, length, nat_lt, Option, Some, None}
use Rattle.std.specs.List.{list_all}
use Rattle.tree_model.specs.declared.type_tree.TypeTree.{TypeTree}
use Rattle.plain_tree.specs.Types.{PlainType, plain_type}
use Rattle.plain_tree.specs.Attrs.{dict_in}
use Rattle.plain_tree.specs.Ops.{Op, op, Ops, end_of_ops, more_ops, Regions, end_of_regions, region, Blocks, end_of_blocks, block, Values}
use Rattle.rule_model.specs.Formed.{is_formed_type}
use Rattle.text_model.specs.declared.value_name.ValueName.{ValueName}
use Rattle.text_model.specs.declared.value_name.ValueName.TheVariants.{Argument, Single, Part}
use Rattle.text_model.specs.PrintedNames.{Names}
use Rattle.printed_attrs.specs.Readable.{are_bytes, is_readable_dict}

abbrev pub is_small : ℕ → Bool
is_small k = nat_lt k (2 ^ 64)

-- a value has a name, and one that a definition or an argument shows alone has a number of its own
abbrev pub is_named : Option ValueName → Bool
is_named None = false
is_named (Some (Argument k)) = is_small k
is_named (Some (Single k)) = is_small k
is_named (Some (Part k j)) = is_small k && is_small j

abbrev pub is_alone : Option ValueName → Bool
is_alone None = false
is_alone (Some (Argument k)) = is_small k
is_alone (Some (Single k)) = is_small k
is_alone (Some (Part k j)) = false

abbrev pub is_placed : Option ℕ → Bool
is_placed None = false
is_placed (Some k) = is_small k

-- its type is known, and formed
abbrev pub is_typed : Option TypeTree → Bool
is_typed None = false
is_typed (Some t) = is_formed_type (plain_type t)

-- results: one has a number of its own, several share one
abbrev pub are_named : Names → Values → Bool
are_named n [] = true
are_named n (v ∷ []) = is_alone (n.name v.0)
are_named n (v ∷ w ∷ vs) = is_named (n.name v.0) && is_small (length (v ∷ w ∷ vs))

abbrev pub are_formed : Values → Bool
are_formed vs = list_all (λ v. is_formed_type v.1) vs

abbrev pub is_known_arg : Names → (ℕ × PlainType) → Bool
is_known_arg n v = is_alone (n.name v.0) && is_formed_type v.1

abbrev mutual
  pub is_known_op : Names → Op → Bool
  is_known_op n (op k results operands regions successors) =
      are_bytes k.name && (are_named n results && (are_formed results && (list_all (λ v. is_named (n.name v)) operands && (list_all (λ v. is_typed (n.type_of v)) operands && (list_all (λ l. is_placed (n.position l)) successors
      && (is_readable_dict (dict_in k.props) && (is_readable_dict (dict_in k.attrs) && are_known_regions n regions)))))))

  pub are_known_ops : Names → Ops → Bool
  are_known_ops n end_of_ops = true
  are_known_ops n (more_ops o os) = is_known_op n o && are_known_ops n os

  pub are_known_regions : Names → Regions → Bool
  are_known_regions n end_of_regions = true
  are_known_regions n (region blocks more) = are_known_blocks n 0 blocks && are_known_regions n more

  -- from the block at a position on
  pub are_known_blocks : Names → ℕ → Blocks → Bool
  are_known_blocks n k end_of_blocks = true
  are_known_blocks n k (block label args ops more) = is_small k && (list_all (is_known_arg n) args && (are_known_ops n ops && are_known_blocks n (k + 1) more))
