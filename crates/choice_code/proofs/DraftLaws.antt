-- What stands so far of a derivation.
use Rattle.std.proofs.Common.{◌≡◌, ℕ, zero, suc, List, [], ◌∷◌, ◌++◌, append_assoc, get_or, map, Option, Some, None, refl, sym, ap, ◌∙◌}
use Rattle.std.specs.Prelude.{slice_get}
use Rattle.tree_model.specs.declared.type_tree.TypeTree.{TypeTree}
use Rattle.tree_model.specs.declared.type_tree.TypeTree as type
use Rattle.plain_tree.specs.Types.{PlainType, Void, plain_type}
use Rattle.plain_tree.proofs.TypeOpens.{plain-Void}
use Rattle.conversion_model.specs.declared.templates.Source.TheVariants.{Operand, Made}
use Rattle.conversion_model.specs.Templates.{Step, Template}
use Rattle.conversion_model.specs.Chosen.{Ending, Leaves, State, after, and_then, cast, here, moved_step, product, take_one, with_moved, with_operand, with_step}
use Rattle.choice_code.specs.Drafts.{behind, one_product}

type_at_some : (ts : List TypeTree) (k : ℕ) (t : TypeTree) → slice_get ts k ≡ Some t → get_or (map plain_type ts) k Void ≡ plain_type t
type_at_some [] k t at = cc
type_at_some (u ∷ us) zero t at = let same : u ≡ t = cc in ap plain_type same
type_at_some (u ∷ us) (suc k) t at = type_at_some us k t at

type_at_none : (ts : List TypeTree) (k : ℕ) → slice_get ts k ≡ None → get_or (map plain_type ts) k Void ≡ Void
type_at_none [] k at = refl
type_at_none (u ∷ us) zero at = cc
type_at_none (u ∷ us) (suc k) at = type_at_none us k at

pub type_some : (ts : List TypeTree) (k : ℕ) (t : TypeTree) → Some t ≡ slice_get ts k → plain_type t ≡ get_or (map plain_type ts) k Void
type_some ts k t at = sym (type_at_some ts k t (sym at))

pub type_none : (ts : List TypeTree) (k : ℕ) → None ≡ slice_get ts k → plain_type type.Void ≡ get_or (map plain_type ts) k Void
type_none ts k at = plain-Void ∙ sym (type_at_none ts k (sym at))

-- Steps in front

pub behind_more : (xs ys : List Step) (o : Option Template) → behind (xs ++ ys) o ≡ behind xs (behind ys o)
behind_more xs ys None = refl
behind_more xs ys (Some t) = ap (λ ss. Some (record { steps = ss; results = t.results })) (append_assoc xs ys t.steps)

-- one step in front
in_front : (x : Step) (o : Option Template) → and_then o (λ rest. Some (with_step x rest)) ≡ behind (x ∷ []) o
in_front x None = refl
in_front x (Some t) = refl

-- an operand whose type stays
pub stayed : (xs ys : List Step) (k : ℕ) (t : PlainType) (s r : State) → ys ≡ xs → r ≡ with_operand (Operand k) t 0 s
    → (next : Ending) → behind xs (take_one None k t next s) ≡ behind ys (next r)
stayed xs ys k t s r e h next = ap (λ q. behind xs (next q)) (sym h) ∙ ap (λ zs. behind zs (next r)) (sym e)

-- an operand whose type changes
pub taken : (xs ys : List Step) (u : PlainType) (k : ℕ) (t : PlainType) (s r : State) → ys ≡ xs ++ cast (Operand k) u ∷ [] → r ≡ with_operand (Made s.count) u 1 s
    → (next : Ending) → behind xs (take_one (Some u) k t next s) ≡ behind ys (next r)
taken xs ys u k t s r e h next =
    ap (behind xs) (in_front (cast (Operand k) u) (next (with_operand (Made s.count) u 1 s)))
    ∙ sym (behind_more xs (cast (Operand k) u ∷ []) (next (with_operand (Made s.count) u 1 s)))
    ∙ ap (λ zs. behind zs (next (with_operand (Made s.count) u 1 s))) (sym e)
    ∙ ap (λ q. behind ys (next q)) (sym h)

-- inner steps in front
moved_front : (moved : List Step) (o : Option Template) → and_then o (λ r. Some (record { steps = moved ++ r.steps; results = r.results })) ≡ behind moved o
moved_front moved None = refl
moved_front moved (Some t) = refl

-- one product that is legalised
pub product_done : (leaves : Leaves) (x : Step) (t : Template) (xs ys : List Step) (s r : State)
    → leaves (product s x) ≡ Some t → ys ≡ xs ++ map (moved_step (map (here s) x.sources) s.count x.successors) t.steps → r ≡ after s x t
    → (rest : Ending) → behind xs (one_product leaves rest x s) ≡ behind ys (rest r)
product_done leaves x t xs ys s r is e h rest =
    let moved : List Step = map (moved_step (map (here s) x.sources) s.count x.successors) t.steps in
    ap (λ o. behind xs (and_then o (λ t. and_then (rest (after s x t)) (λ r. Some (with_moved s x t r))))) is
    ∙ ap (behind xs) (moved_front moved (rest (after s x t)))
    ∙ sym (behind_more xs moved (rest (after s x t)))
    ∙ ap (λ zs. behind zs (rest (after s x t))) (sym e)
    ∙ ap (λ q. behind ys (rest q)) (sym h)

-- one product that isn't
pub product_fails : (leaves : Leaves) (x : Step) (xs : List Step) (s : State) → leaves (product s x) ≡ None
    → (rest : Ending) → behind xs (one_product leaves rest x s) ≡ None
product_fails leaves x xs s is rest = ap (λ o. behind xs (and_then o (λ t. and_then (rest (after s x t)) (λ r. Some (with_moved s x t r))))) is
