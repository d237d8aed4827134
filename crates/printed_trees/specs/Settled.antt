-- Operations whose dictionaries stand as reading leaves them: in the order of their names, and none of the attributes belongs to the properties.
use Rattle.std.specs.Prelude.{ℕ, Bool, true, not, ◌&&◌, List}
use Rattle.std.specs.List.{list_all}
use Rattle.plain_tree.specs.Attrs.{Entries, dict_in}
use Rattle.plain_tree.specs.Ops.{Kind, Op, op, Ops, end_of_ops, more_ops, Regions, end_of_regions, region, Blocks, end_of_blocks, block}
use Rattle.op_catalog.specs.Table.{shape_of}
use Rattle.event_trees.specs.Dictionaries.{listed}
use Rattle.printed_terms.specs.Ordered.{is_ordered_dict}

-- none of the entries belongs to the properties of an operation of this name
abbrev pub are_own : List ℕ → Entries → Bool
are_own name es = list_all (λ e. not (listed (shape_of name) e.0)) es

abbrev pub is_settled_kind : Kind → Bool
is_settled_kind k = is_ordered_dict (dict_in k.props) && (is_ordered_dict (dict_in k.attrs) && are_own k.name k.attrs)

abbrev mutual
  pub is_settled : Op → Bool
  is_settled (op k results operands regions successors) = is_settled_kind k && are_settled_regions regions

  pub are_settled : Ops → Bool
  are_settled end_of_ops = true
  are_settled (more_ops o os) = is_settled o && are_settled os

  pub are_settled_regions : Regions → Bool
  are_settled_regions end_of_regions = true
  are_settled_regions (region blocks more) = are_settled_blocks blocks && are_settled_regions more

  pub are_settled_blocks : Blocks → Bool
  are_settled_blocks end_of_blocks = true
  are_settled_blocks (block label args ops more) = are_settled ops && are_settled_blocks more
