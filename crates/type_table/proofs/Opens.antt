-- The plain form of each type that is written out, as one set of lemmas.
use Rattle.std.proofs.Common.{◌≡◌, ℕ, Option, None, Some, ap, ◌∙◌}
use Rattle.tree_model.specs.declared.type_tree.TypeTree.{TypeTree}
use Rattle.plain_tree.specs.Types.{PlainType, plain_type, type_tree}
use Rattle.plain_tree.proofs.TypeOpens.{plain-Int, plain-Index, plain-Memref, plain-Func, plain-Ptr, plain-Void, plain-Struct, plain-Array, plain-LlvmFunc, plain_again}
use Rattle.plain_tree.proofs.TypeTrip.{type_trip}
use Rattle.conversion_model.specs.Types.{becomes, new_type, or_same}
use Rattle.type_table.specs.Trees.{tree_or_none}

pub ruleset opens = (plain-Int, plain-Index, plain-Memref, plain-Func, plain-Ptr, plain-Void, plain-Struct, plain-Array, plain-LlvmFunc)

-- a type is the tree of its plain form
pub kept : (t : TypeTree) → type_tree (plain_type t) ≡ t
kept t = type_trip t

none_same : (p : PlainType) (o : Option PlainType) → None ≡ tree_or_none o → type_tree (or_same p o) ≡ type_tree p
none_same p None e = ap type_tree (let same : or_same p None ≡ p = cc in same)
none_same p (Some u) e = cc

-- a type without a row becomes itself
pub unchanged : (bits : ℕ) (t : TypeTree) → None ≡ tree_or_none (new_type bits (plain_type t)) → type_tree (becomes bits (plain_type t)) ≡ t
unchanged bits t e = none_same (plain_type t) (new_type bits (plain_type t)) e ∙ kept t

-- the plain form of the tree of a plain type is that type
pub again : (p : PlainType) → plain_type (type_tree p) ≡ p
again p = plain_again p

some_plain : (p : PlainType) (o : Option PlainType) (u : TypeTree) → Some u ≡ tree_or_none o → plain_type u ≡ or_same p o
some_plain p None u e = cc
some_plain p (Some q) u e = let same : u ≡ type_tree q = cc in ap plain_type same ∙ plain_again q

-- the plain form of what a type becomes where it has a row
pub changed_plain : (bits : ℕ) (t u : TypeTree) → Some u ≡ tree_or_none (new_type bits (plain_type t)) → plain_type u ≡ becomes bits (plain_type t)
changed_plain bits t u e = some_plain (plain_type t) (new_type bits (plain_type t)) u e
