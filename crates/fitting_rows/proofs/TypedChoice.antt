-- The chosen derivation of an operation that fits is a template that fits.
use Rattle.std.proofs.Common.{◌≡◌, ℕ, zero, suc, ◌+◌, ◌==◌, ◌≤◌, Bool, true, false, List, [], ◌∷◌, ◌++◌, Option, Some, None, refl, ap, ◌∙◌, subst, length, map, arith}
use Rattle.std.specs.Prelude.{if◌then◌else◌}
use Rattle.std.specs.List.{list_any}
use Rattle.std.proofs.lemmas.Option.{none-some}
use Rattle.plain_tree.specs.Types.{PlainType}
use Rattle.rule_model.specs.Words.{AllOf}
use Rattle.rule_model.specs.Forms.{at_place}
use Rattle.rule_model.proofs.Numbers.{some_same}
use Rattle.conversion_model.specs.declared.templates.Source.TheVariants.{Operand, Made}
use Rattle.conversion_model.specs.Templates.{Template}
use Rattle.conversion_model.specs.Targets.{is_legal, Shape, Target}
use Rattle.conversion_model.specs.Rows.{Pattern}
use Rattle.conversion_model.specs.Chosen.{by_first, by_row, chosen, chosen_within, counted, depth, goes_before, has_root, in_order, itself, Leaves, or_else, order, pattern_depth, places, put_in, Ranked, ranked}
use Rattle.fitting_rows.specs.Typed.{AtEnd, LeavesTyped, PatternTyped, source_types, TableTyped, Typed}
use Rattle.fitting_rows.proofs.TypedSteps.{and_both, at_right}

-- a pattern that is tried has the name as its root
abbrev Tried : (Shape → Type 0) → ℕ → List ℕ → Ranked → Type 0
Tried Fit bits name r = PatternTyped Fit bits r.pattern × (has_root name r.pattern ≡ true)

put_by : (P : Ranked → Type 0) (p q : Ranked) (some qs : List Ranked) (b : Bool) → P p → P q → AllOf P some → AllOf P qs → AllOf P (if b then q ∷ some else p ∷ q ∷ qs)
put_by P p q some qs true a b c d = (b, c)
put_by P p q some qs false a b c d = (a, (b, d))

put_all : (P : Ranked → Type 0) (p : Ranked) (qs : List Ranked) → P p → AllOf P qs → AllOf P (put_in p qs)
put_all P p [] a all = (a, tt)
put_all P p (q ∷ qs) a all = put_by P p q (put_in p qs) qs (goes_before q p) a all.0 (put_all P p qs a all.1) all.1

pub order_all : (P : Ranked → Type 0) (rs : List Ranked) → AllOf P rs → AllOf P (in_order rs)
order_all P [] all = tt
order_all P (r ∷ rs) all = put_all P r (in_order rs) all.0 (order_all P rs all.1)

pub ranked_by : (P : Ranked → Type 0) (r : Ranked) (rs : List Ranked) (b : Bool) → (b ≡ true → P r) → AllOf P rs → AllOf P (if b then r ∷ rs else rs)
ranked_by P r rs true a all = (a refl, all)
ranked_by P r rs false a all = all

ranked_all : (Fit : Shape → Type 0) (bits : ℕ) (d : Pattern → Option ℕ) (name : List ℕ) (place : ℕ) (ps : List Pattern) → TableTyped Fit bits ps → AllOf (Tried Fit bits name) (ranked d name place ps)
ranked_all Fit bits d name place [] all = tt
ranked_all Fit bits d name place (p ∷ ps) all =
    ranked_by (Tried Fit bits name) (record { pattern = p; place = place; depth = d p }) (ranked d name (place + 1) ps) (has_root name p) (λ e. (all.0, e)) (ranked_all Fit bits d name (place + 1) ps all.1)

or_parts : {P : Type 0} {A : Type 0} (x y : Option A) (t : A) → (x ≡ Some t → P) → (y ≡ Some t → P) → or_else x y ≡ Some t → P
or_parts None y t f g e = g e
or_parts (Some a) y t f g e = f e

if_parts : {P : Type 0} {A : Type 0} (b : Bool) (x y : Option A) (t : A) → (x ≡ Some t → P) → (y ≡ Some t → P) → (if b then x else y) ≡ Some t → P
if_parts true x y t f g e = f e
if_parts false x y t f g e = g e

first_typed : (Fit : Shape → Type 0) (bits : ℕ) (leaves : List ℕ → Leaves) (path : List ℕ) (o : Shape) (rs : List Ranked) (t : Template) → ((path : List ℕ) → LeavesTyped Fit (leaves path)) → AllOf (Tried Fit bits o.name) rs → Fit o
    → by_first bits leaves path o rs ≡ Some t → Typed Fit o t
first_typed Fit bits leaves path o [] t typed all fits e = absurd (none-some t e)
first_typed Fit bits leaves path o (r ∷ rs) t typed all fits e =
    if_parts (list_any (λ place. place == r.place) path) (by_first bits leaves path o rs)
    (or_else (by_row bits r.pattern.is_converted (leaves (r.place ∷ path)) o (r.pattern.row bits)) (by_first bits leaves path o rs)) t
    (first_typed Fit bits leaves path o rs t typed all.1 fits)
    (or_parts (by_row bits r.pattern.is_converted (leaves (r.place ∷ path)) o (r.pattern.row bits)) (by_first bits leaves path o rs) t
    (all.0.0 (leaves (r.place ∷ path)) o t (typed (r.place ∷ path)) all.0.1 fits) (first_typed Fit bits leaves path o rs t typed all.1 fits))
    e

-- An operation that is its own leaf

all_places : (ts us done : List PlainType) (n : ℕ) → length done ≡ n → source_types (done ++ ts) us (map Operand (places n ts)) ≡ Some ts
all_places [] us done n e = refl
all_places (t ∷ ts) us done n e =
    and_both t ts (ap (λ k. at_place k (done ++ t ∷ ts)) (none_more n) ∙ at_right 0 n done (t ∷ ts) e)
    (ap (λ l. source_types l us (map Operand (places (n + 1) ts))) (regroup done) ∙ all_places ts us (done ++ t ∷ []) (n + 1) (one_longer done e))
  where
    none_more : (c : ℕ) → c ≡ c + 0
    none_more c = omega arith

    regroup : (xs : List PlainType) → xs ++ t ∷ ts ≡ (xs ++ t ∷ []) ++ ts
    regroup [] = refl
    regroup (x ∷ xs) = ap (λ l. x ∷ l) (regroup xs)

    longer : (xs : List PlainType) → length (xs ++ t ∷ []) ≡ length xs + 1
    longer [] = omega arith
    longer (x ∷ xs) = omega (arith, longer xs)

    one_longer : (xs : List PlainType) → length xs ≡ n → length (xs ++ t ∷ []) ≡ n + 1
    one_longer xs f = omega (arith, longer xs, f)

none_behind : {A : Type 0} (xs : List A) → xs ++ [] ≡ xs
none_behind [] = refl
none_behind (x ∷ xs) = ap (λ l. x ∷ l) (none_behind xs)

all_made : (ops rs : List PlainType) → length rs ≤ 1 → source_types ops (rs ++ []) (map Made (places 0 rs)) ≡ Some rs
all_made ops [] few = refl
all_made ops (t ∷ []) few = refl
all_made ops (t ∷ u ∷ rs) few = absurd (omega (arith, few))

made_end : (rs : List PlainType) → length rs ≤ 1 → AtEnd (map Made (places 0 rs)) (length (rs ++ []))
made_end [] few = tt
made_end (t ∷ []) few = omega arith
made_end (t ∷ u ∷ rs) few = absurd (omega (arith, few))

abbrev pub own_shape : Shape → Shape
own_shape o = record { name = o.name; operands = o.operands; results = o.results; props = o.props; attrs = []; successors = length (counted 0 o.successors); regions = 0 }

itself_typed : (Fit : Shape → Type 0) (o : Shape) → length o.results ≤ 1 → Fit (own_shape o) → Typed Fit o (itself o)
itself_typed Fit o few fits = record {
  steps = (record { types = o.operands; are = all_places o.operands [] [] 0 refl; fits = fits }, tt);
  results_are = all_made o.operands o.results few;
  at_end = made_end o.results few;
}

pub chosen_typed : (Fit : Shape → Type 0) (bits : ℕ) (target : Target) (order : List ℕ → List Ranked) (room : ℕ) (path : List ℕ) → ((o : Shape) → Fit o → length o.results ≤ 1) → ((o : Shape) → Fit o → Fit (own_shape o))
    → ((name : List ℕ) → AllOf (Tried Fit bits name) (order name)) → LeavesTyped Fit (chosen_within bits target order room path)
chosen_typed Fit bits target order zero path few own all o t fits e = absurd (none-some t e)
chosen_typed Fit bits target order (suc room) path few own all o t fits e =
    if_parts (is_legal target o) (Some (itself o)) (by_first bits (chosen_within bits target order room) path o (order o.name)) t
    (λ is. subst (λ x. Typed Fit o x) (some_same (itself o) t is) (itself_typed Fit o (few o fits) (own o fits)))
    (first_typed Fit bits (chosen_within bits target order room) path o (order o.name) t (λ p. chosen_typed Fit bits target order room p few own all) (all o.name) fits)
    e

pub table_typed : (Fit : Shape → Type 0) (bits : ℕ) (target : Target) (table : List Pattern) (path : List ℕ) → ((o : Shape) → Fit o → length o.results ≤ 1) → ((o : Shape) → Fit o → Fit (own_shape o))
    → TableTyped Fit bits table → LeavesTyped Fit (chosen bits target table path)
table_typed Fit bits target table path few own all =
    chosen_typed Fit bits target (order target table) (length table + 1) path few own
    (λ name. order_all (Tried Fit bits name) (ranked (pattern_depth (depth target table)) name 0 table) (ranked_all Fit bits (pattern_depth (depth target table)) name 0 table all))
