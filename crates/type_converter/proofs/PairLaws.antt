-- Kept pairs stay right, and give the answers.
use Rattle.std.proofs.Common.{◌≡◌, ℕ, Option, Some, None, Result, Ok, Err, refl, sym, subst, inl, inr}
use Rattle.std.specs.Prelude.{IfOk}
use Rattle.std.specs.HashMap.{HashMap}
use Rattle.tree_model.specs.declared.type_tree.TypeTree.{TypeTree}
use Rattle.plain_tree.specs.Types.{PlainType, plain_type, type_tree}
use Rattle.conversion_model.specs.Types.{converted_type}
use Rattle.key_model.specs.declared.handle.Handle.{Handle}
use Rattle.key_model.specs.declared.key.Key.{Key}
use Rattle.key_model.specs.declared.key.Key.TheVariants.{OfType, OfAttr}
use Rattle.type_converter.specs.Keys.{key_or_none, key_row}
use Rattle.type_converter.specs.Pairs.{ArePairs, Becomes, HasKey, IsFound, IsPair, Keeps}

-- the handle of a new key is found
pub found_some : {F : Type 0} (H : Handle → Key → Type 0) (o : Option PlainType) (new : Key) (r : Result (Option Handle) F) → Some new ≡ key_or_none o → IfOk r (HasKey H new) → IfOk r (IsFound H o)
found_some H None new r e h = absurd cc
found_some H (Some t) new (Ok None) e h = absurd h
found_some H (Some t) new (Ok (Some g)) e h = let same : new ≡ OfType (type_tree t) = cc in subst (λ k. H g k) same h
found_some H (Some t) new (Err f) e h = tt

pair_by : (H : Handle → Key → Type 0) (bits : ℕ) (t : TypeTree) (h g : Handle) (o : Option PlainType) → converted_type bits (plain_type t) ≡ o → H h (OfType t) → IsFound H o (Some g) → IsPair H bits h g
pair_by H bits t h g None e held found = absurd found
pair_by H bits t h g (Some u) e held found = record { from = t; to = u; of_from = held; of_to = found; row = e }

-- what is found makes a pair
pair_of : (H : Handle → Key → Type 0) (bits : ℕ) (k : Key) (h g : Handle) → H h k → IsFound H (key_row bits k) (Some g) → IsPair H bits h g
pair_of H bits (OfType t) h g held found = pair_by H bits t h g (converted_type bits (plain_type t)) refl held found
pair_of H bits (OfAttr a) h g held found = absurd found

module _ (H K : Handle → Key → Type 0) (kept : (h : Handle) (k : Key) → H h k → K h k) where
  pub pair_kept : (bits : ℕ) (h g : Handle) → IsPair H bits h g → IsPair K bits h g
  pair_kept bits h g p = record { from = p.from; to = p.to; of_from = kept h (OfType p.from) p.of_from; of_to = kept g (OfType (type_tree p.to)) p.of_to; row = p.row }

  -- pairs stay right where handles keep their keys
  pub pairs_kept : {S : Type 0} (bits : ℕ) (m : HashMap Handle Handle S) → ArePairs H bits m → ArePairs K bits m
  pairs_kept bits m all h g at = pair_kept bits h g (all h g at)

  -- and with one more
  pub pairs_more : {S : Type 0} (bits more : ℕ) (m n : HashMap Handle Handle S) (ty handle : Handle) (k : Key) (o : Option Handle) → ArePairs H bits m → Keeps m n ty handle → more ≡ bits
      → H ty k → IsFound K (key_row bits k) o → o ≡ Some handle → ArePairs K more n
  pairs_more bits more m n ty handle k o all keeps same held found is h g at =
      let pair : IsPair K bits ty handle = pair_of K bits k ty handle (kept ty k held) (subst (λ r. IsFound K (key_row bits k) r) is found) in
      subst (λ b. IsPair K b h g) (sym same) (elim (keeps h g at) as (λ _. IsPair K bits h g) [
        | inl was ↦ pairs_kept bits m all h g was
        | inr new ↦ subst (λ x. IsPair K bits h x) (sym new.1) (subst (λ x. IsPair K bits x handle) (sym new.0) pair)
      ])

-- a pair gives the type that a type becomes
pub pair_converts : (H : Handle → Key → Type 0) (bits : ℕ) (ty g : Handle) (t : TypeTree) → ((h : Handle) (k l : Key) → H h k → H h l → k ≡ l) → IsPair H bits ty g → H ty (OfType t) → Becomes H bits t g
pair_converts H bits ty g t one p held =
    let same : p.from ≡ t = (let keys : OfType p.from ≡ OfType t = one ty (OfType p.from) (OfType t) p.of_from held in cc) in
    record { to = p.to; row = subst (λ u. converted_type bits (plain_type u) ≡ Some p.to) same p.row; held = p.of_to }
