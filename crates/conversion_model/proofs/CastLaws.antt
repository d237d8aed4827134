-- Where no type changes there is no cast.
use Rattle.std.proofs.Common.{◌≡◌, ℕ, ◌+◌, List, [], ◌∷◌, Option, Some, None, refl, ap, ◌∙◌}
use Rattle.std.specs.Prelude.{map}
use Rattle.plain_tree.specs.Types.{PlainType}
use Rattle.conversion_model.specs.declared.templates.Source.{Source}
use Rattle.conversion_model.specs.declared.templates.Source.TheVariants.{Operand}
use Rattle.conversion_model.specs.Templates.{Step}
use Rattle.conversion_model.specs.Chosen.{Leaves, State, Ending, and_then, after, give_one, give_results, here, nothing_yet, product, products, take_one, take_operands, with_moved, with_operand, with_result}
use Rattle.conversion_model.specs.Promises.{Unchanged, NoCasts}

abbrev stays : PlainType → Option PlainType
stays t = None

give_same : (change : PlainType → Option PlainType) (ts : List PlainType) (vs : List Source) (n : ℕ) → Unchanged change ts → give_results change ts vs n ≡ give_results stays ts vs n
give_same change [] vs n u = refl
give_same change (t ∷ ts) [] n u = refl
give_same change (t ∷ ts) (v ∷ vs) n u = ap (λ c. give_one c v t (give_results change ts vs) n) u.0 ∙ ap (with_result v) (give_same change ts vs n u.1)

then_same : {A B : Type 0} (x : Option A) (f g : A → Option B) → ((a : A) → f a ≡ g a) → and_then x f ≡ and_then x g
then_same None f g same = refl
then_same (Some a) f g same = same a

products_same : (leaves : Leaves) (last other : Ending) (xs : List Step) (s : State) → ((z : State) → last z ≡ other z) → products leaves last xs s ≡ products leaves other xs s
products_same leaves last other [] s same = same s
products_same leaves last other (x ∷ xs) s same =
    then_same (leaves (product s x)) _ _ (λ t. ap (λ r. and_then r (λ rest. Some (with_moved s x t rest))) (products_same leaves last other xs (after s x t) same))

take_same : (change : PlainType → Option PlainType) (next other : Ending) (k : ℕ) (ts : List PlainType) (s : State) → Unchanged change ts → ((z : State) → next z ≡ other z)
    → take_operands change next k ts s ≡ take_operands stays other k ts s
take_same change next other k [] s u same = same s
take_same change next other k (t ∷ ts) s u same =
    ap (λ c. take_one c k t (take_operands change next (k + 1) ts) s) u.0 ∙ take_same change next other (k + 1) ts (with_operand (Operand k) t 0 s) u.1 same

pub no_casts : NoCasts
no_casts change leaves o t operands results =
    take_same change _ _ 0 o.operands nothing_yet operands (λ s. products_same leaves _ _ t.steps s (λ z. ap Some (give_same change o.results (map (here z) t.results) z.count results)))
