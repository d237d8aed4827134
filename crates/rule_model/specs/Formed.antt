-- When a module is formed: what each module has that a text denotes.
use Rattle.std.specs.Prelude.{◌≡◌, ℕ, ◌+◌, ◌*◌, ◌^◌, nat_lt, nat_le, Bool, true, false, not, ◌&&◌, ◌||◌, List, [], ◌∷◌, ◌++◌, length, ℤ, pos, negsuc, codes}
use Rattle.std.specs.List.{list_all, list_any}
use Rattle.std.specs.Str.{bytes_eq}
use Rattle.tree_model.specs.declared.type_tree.Dim.{Dim}
use Rattle.tree_model.specs.declared.type_tree.Dim.TheVariants.{Fixed, Dynamic}
use Rattle.plain_tree.specs.Types.{PlainType, PlainTypes, Int, Index, Memref, Func, Ptr, Void, Struct, Array, LlvmFunc, end_of_types, more_types}
use Rattle.plain_tree.specs.Attrs.{Entries, PlainAttr, PlainAttrs, PlainDict, Unit, Number, Text, Attrs, Dict, OfType, Symbol, Numbers, Dialect, end_of_attrs, more_attrs, end_of_entries, more_entries}
use Rattle.plain_tree.specs.Ops.{Kind, Op, op, Ops, end_of_ops, more_ops, Regions, end_of_regions, region, Blocks, end_of_blocks, block, PlainModule, Values}
use Rattle.plain_tree.specs.Values.{op_values}
use Rattle.rule_model.specs.Words.{has, numbers}
use Rattle.rule_model.specs.Forms.{is_number}

-- Types

abbrev pub is_dim : Dim → Bool
is_dim (Fixed n) = nat_lt n (2 ^ 63)
is_dim Dynamic = true

abbrev mutual
  -- widths from 1 to 64; memrefs of at most 8 dimensions below 2 to the 63rd, of integers or `index`; arrays shorter than 2
  -- to the 32nd
  pub is_formed_type : PlainType → Bool
  is_formed_type (Int width) = nat_lt 0 width && nat_le width 64
  is_formed_type Index = true
  is_formed_type (Memref dims element) = nat_le (length dims) 8 && (list_all is_dim dims && (is_number element && is_formed_type element))
  is_formed_type (Func inputs outputs) = are_formed_types inputs && are_formed_types outputs
  is_formed_type Ptr = true
  is_formed_type Void = true
  is_formed_type (Struct fields) = are_formed_types fields
  is_formed_type (Array n element) = nat_lt n (2 ^ 32) && is_formed_type element
  is_formed_type (LlvmFunc output inputs) = is_formed_type output && are_formed_types inputs

  pub are_formed_types : PlainTypes → Bool
  are_formed_types end_of_types = true
  are_formed_types (more_types t ts) = is_formed_type t && are_formed_types ts

-- Attributes

-- a signed number of so many bits
abbrev pub is_signed : ℕ → ℤ → Bool
is_signed width (pos n) = nat_lt (2 * n) (2 ^ width)
is_signed width (negsuc n) = nat_le (2 * (n + 1)) (2 ^ width)

-- of its type, for `index` of 64 bits
abbrev pub is_number_of : PlainType → ℤ → Bool
is_number_of (Int width) z = is_signed width z
is_number_of Index z = is_signed 64 z
is_number_of _ z = false

abbrev pub is_in_dict : List ℕ → PlainDict → Bool
is_in_dict name end_of_entries = false
is_in_dict name (more_entries other a rest) = bytes_eq other name || is_in_dict name rest

abbrev mutual
  -- each type is formed, each number is one of its type, and no dictionary has a name twice
  pub is_formed_attr : PlainAttr → Bool
  is_formed_attr Unit = true
  is_formed_attr (Number value t) = is_formed_type t && is_number_of t value
  is_formed_attr (Text bytes) = true
  is_formed_attr (Attrs attrs) = are_formed_attrs attrs
  is_formed_attr (Dict entries) = is_formed_dict entries
  is_formed_attr (OfType t) = is_formed_type t
  is_formed_attr (Symbol name) = true
  is_formed_attr (Numbers width values) = list_all (is_signed width) values
  is_formed_attr (Dialect name words) = true

  pub are_formed_attrs : PlainAttrs → Bool
  are_formed_attrs end_of_attrs = true
  are_formed_attrs (more_attrs a rest) = is_formed_attr a && are_formed_attrs rest

  pub is_formed_dict : PlainDict → Bool
  is_formed_dict end_of_entries = true
  is_formed_dict (more_entries name a rest) = not (is_in_dict name rest) && (is_formed_attr a && is_formed_dict rest)

-- the properties whose numbers may have any size
abbrev pub is_free_name : List ℕ → Bool
is_free_name name = bytes_eq name (codes "operandSegmentSizes") || bytes_eq name (codes "position")

abbrev pub is_formed_property : List ℕ → PlainAttr → Bool
is_formed_property name (Numbers width values) = is_free_name name || list_all (is_signed width) values
is_formed_property name a = is_formed_attr a

-- the entries of a dictionary of an operation: each name once
abbrev pub are_formed_entries : Entries → Bool
are_formed_entries [] = true
are_formed_entries (e ∷ es) = not (list_any (λ other. bytes_eq other.0 e.0) es) && (is_formed_property e.0 e.1 && are_formed_entries es)

-- Functions

-- no number stands twice
abbrev pub are_once : List ℕ → Bool
are_once [] = true
are_once (n ∷ ns) = not (has n ns) && are_once ns

abbrev mutual
  -- the labels of the blocks in a tree
  pub op_labels : Op → List ℕ
  op_labels (op k results operands regions successors) = regions_labels regions

  pub ops_labels : Ops → List ℕ
  ops_labels end_of_ops = []
  ops_labels (more_ops o rest) = op_labels o ++ ops_labels rest

  pub regions_labels : Regions → List ℕ
  regions_labels end_of_regions = []
  regions_labels (region blocks more) = blocks_labels blocks ++ regions_labels more

  pub blocks_labels : Blocks → List ℕ
  blocks_labels end_of_blocks = []
  blocks_labels (block label args ops more) = label ∷ (ops_labels ops ++ blocks_labels more)

-- the labels of a region itself
abbrev pub own_labels : Blocks → List ℕ
own_labels end_of_blocks = []
own_labels (block label args ops more) = label ∷ own_labels more

abbrev pub are_formed_values : Values → Bool
are_formed_values vs = list_all (λ v. is_formed_type v.1) vs

-- a function of either kind
abbrev pub is_function_name : List ℕ → Bool
is_function_name name = bytes_eq name (codes "func.func") || bytes_eq name (codes "llvm.func")

-- what may stand within a function: a name is of bytes
abbrev pub is_inner_name : List ℕ → Bool
is_inner_name name = list_all (λ b. nat_lt b 256) name && not (is_function_name name || bytes_eq name (codes "builtin.module"))

-- the operands are defined, the successors are labels of the region, types and attributes are formed
abbrev pub is_formed_here : (defined labels : List ℕ) → Kind → Values → (operands successors : List ℕ) → Bool
is_formed_here defined labels k results operands successors =
    list_all (λ v. has v defined) operands
    && (list_all (λ l. has l labels) successors && (are_formed_values results && (are_formed_entries k.props && are_formed_entries k.attrs)))

abbrev mutual
  pub is_formed_op : List ℕ → List ℕ → Op → Bool
  is_formed_op defined labels (op k results operands regions successors) =
      is_inner_name k.name && (is_formed_here defined labels k results operands successors && are_formed_regions defined regions)

  pub are_formed_ops : List ℕ → List ℕ → Ops → Bool
  are_formed_ops defined labels end_of_ops = true
  are_formed_ops defined labels (more_ops o rest) = is_formed_op defined labels o && are_formed_ops defined labels rest

  pub are_formed_regions : List ℕ → Regions → Bool
  are_formed_regions defined end_of_regions = true
  are_formed_regions defined (region blocks more) = are_formed_blocks defined (own_labels blocks) blocks && are_formed_regions defined more

  pub are_formed_blocks : List ℕ → List ℕ → Blocks → Bool
  are_formed_blocks defined labels end_of_blocks = true
  are_formed_blocks defined labels (block label args ops more) =
      are_formed_values args && (are_formed_ops defined labels ops && are_formed_blocks defined labels more)

-- a function: each number is defined once and each label stands once in it
abbrev pub is_formed_function : Op → Bool
is_formed_function (op k results operands regions successors) =
    let f : Op = op k results operands regions successors in
    let defined : List ℕ = numbers (op_values f []) in
    is_function_name k.name
    && (are_once defined && (are_once (op_labels f)
    && (is_formed_here defined [] k results operands successors && are_formed_regions defined regions)))

abbrev pub is_formed : PlainModule → Bool
is_formed m = are_formed_entries m.props && (are_formed_entries m.attrs && list_all is_formed_function m.funcs)

abbrev pub Formed : PlainModule → Type 0
Formed m = is_formed m ≡ true
