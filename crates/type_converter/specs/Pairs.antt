-- Pairs of handles that a converter keeps.
use Rattle.std.specs.Prelude.{◌≡◌, ◌⊎◌, ℕ, Bool, Option, Some, None}
use Rattle.std.specs.HashMap.{HashMap, get}
use Rattle.tree_model.specs.declared.type_tree.TypeTree.{TypeTree}
use Rattle.plain_tree.specs.Types.{PlainType, plain_type, type_tree}
use Rattle.conversion_model.specs.Types.{converted_type}
use Rattle.key_model.specs.declared.handle.Handle.{Handle}
use Rattle.key_model.specs.declared.key.Key.{Key}
use Rattle.key_model.specs.declared.key.Key.TheVariants.{OfType}
use Rattle.key_model.specs.contracts.handle.HandlePartialEq.TheImpl as handle_eq

-- `==` of handles
abbrev pub handle_equal : Handle → Handle → Bool
handle_equal = (handle_eq.eq-value).it

-- the handle has a key
pub record IsKnown (H : Handle → Key → Type 0) (h : Handle) : Type 0 where
  pub key : Key
  pub held : H h key

-- the second handle has the type to which the first one's converts
pub record IsPair (H : Handle → Key → Type 0) (bits : ℕ) (h g : Handle) : Type 0 where
  pub from : TypeTree
  pub to : PlainType
  pub of_from : H h (OfType from)
  pub of_to : H g (OfType (type_tree to))
  pub row : converted_type bits (plain_type from) ≡ Some to

-- each kept pair is such a pair
abbrev pub ArePairs : {S : Type 0} → (Handle → Key → Type 0) → ℕ → HashMap Handle Handle S → Type 0
ArePairs H bits pairs = (h g : Handle) → get handle_equal pairs h ≡ Some g → IsPair H bits h g

-- the new map gives what the old one did, or this pair
abbrev pub Keeps : {S : Type 0} → HashMap Handle Handle S → HashMap Handle Handle S → Handle → Handle → Type 0
Keeps old new ty handle = (h g : Handle) → get handle_equal new h ≡ Some g → (get handle_equal old h ≡ Some g) ⊎ ((h ≡ ty) × (g ≡ handle))

-- a handle has the type that a type becomes
pub record Becomes (H : Handle → Key → Type 0) (bits : ℕ) (t : TypeTree) (g : Handle) : Type 0 where
  pub to : PlainType
  pub row : converted_type bits (plain_type t) ≡ Some to
  pub held : H g (OfType (type_tree to))

-- the answer for a type: none exactly where it has no row
abbrev pub IsConverted : (Handle → Key → Type 0) → ℕ → TypeTree → Option Handle → Type 0
IsConverted H bits t None = converted_type bits (plain_type t) ≡ None
IsConverted H bits t (Some g) = Becomes H bits t g

-- a handle has the key
abbrev pub HasKey : (Handle → Key → Type 0) → Key → Option Handle → Type 0
HasKey H k None = ⊥
HasKey H k (Some g) = H g k

-- by a row: none where there is none, else a handle of its type
abbrev pub IsFound : (Handle → Key → Type 0) → Option PlainType → Option Handle → Type 0
IsFound H None None = Unit {0}
IsFound H None (Some g) = ⊥
IsFound H (Some t) None = ⊥
IsFound H (Some t) (Some g) = H g (OfType (type_tree t))
