-- Types that change, in plain form.
use Rattle.std.proofs.Common.{◌≡◌, ℕ, ◌+◌, ◌<◌, ◌≤◌, Bool, true, List, drop, get_or, length, map, Option, None, Some, sym, ap, ◌∙◌, refl}
use Rattle.std.specs.Prelude.{option_map}
use Rattle.tree_model.specs.declared.type_tree.TypeTree.{TypeTree}
use Rattle.plain_tree.specs.Types.{PlainType, plain_type}
use Rattle.plain_tree.proofs.TypeOpens.{plain_again}
use Rattle.conversion_model.specs.Types.{new_type}
use Rattle.std.proofs.lemmas.List.{drop_all, drop_more}
use Rattle.conversion_model.specs.Templates.{Step}
use Rattle.conversion_model.specs.Chosen.{Ending, State, change_of, take_one, take_operands}
use Rattle.choice_code.specs.Drafts.{behind}
use Rattle.type_table.specs.Trees.{tree_or_none}

at_tree : (p : Option PlainType) → option_map plain_type (tree_or_none p) ≡ p
at_tree None = refl
at_tree (Some p) = ap (λ q. Some q) (plain_again p)

pub plain_of_tree : (o : Option TypeTree) (p : Option PlainType) → o ≡ tree_or_none p → option_map plain_type o ≡ p
plain_of_tree o p e = ap (option_map plain_type) e ∙ at_tree p

pub changed_is : (bits : ℕ) (converted : Bool) (p : PlainType) (o : Option TypeTree) → converted ≡ true → o ≡ tree_or_none (new_type bits p) → option_map plain_type o ≡ change_of bits converted p
changed_is bits converted p o is e = plain_of_tree o (new_type bits p) e ∙ sym (ap (λ t. change_of bits t p) is)

-- the operand at a place is taken next
pub operand_next : (change : PlainType → Option PlainType) (types : List TypeTree) (k : ℕ) (t : TypeTree) (xs : List Step) (s : State) → k < length types → t ≡ get_or types k t
    → (next : Ending) → behind xs (take_operands change next k (map plain_type (drop k types)) s)
    ≡ behind xs (take_one (change (plain_type t)) k (plain_type t) (take_operands change next (k + 1) (map plain_type (drop (k + 1) types))) s)
operand_next change types k t xs s h is next =
    let rest : List PlainType = map plain_type (drop (k + 1) types) in
    ap (λ ts. behind xs (take_operands change next k (map plain_type ts) s)) (drop_more types k t h)
    ∙ ap (λ u. behind xs (take_one (change (plain_type u)) k (plain_type u) (take_operands change next (k + 1) rest) s)) (sym is)

-- no operand is left
pub operands_ended : (change : PlainType → Option PlainType) (types : List TypeTree) (k : ℕ) (xs : List Step) (s : State) → length types ≤ k
    → (next : Ending) → behind xs (take_operands change next k (map plain_type (drop k types)) s) ≡ behind xs (next s)
operands_ended change types k xs s h next = ap (λ ts. behind xs (take_operands change next k (map plain_type ts) s)) (drop_all k types h)
