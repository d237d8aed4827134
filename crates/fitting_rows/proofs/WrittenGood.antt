-- What is written for an operation that fits keeps the rules.
use Rattle.std.proofs.Common.{◌≡◌, ℕ, ◌+◌, ◌==◌, Bool, true, false, List, [], ◌∷◌, Some, refl, sym, ap, ◌∙◌, subst, length, map, inl, inr, arith, true≢false}
use Rattle.std.specs.Prelude.{◌||◌, if◌then◌else◌}
use Rattle.std.proofs.lemmas.Bool.{eqb-true}
use Rattle.plain_tree.specs.Types.{PlainType}
use Rattle.plain_tree.specs.Ops.{Kind, Op, op, Regions, end_of_regions, region, Values}
use Rattle.rule_model.specs.Words.{has, results_of}
use Rattle.rule_model.specs.Forms.{at_place}
use Rattle.rule_model.proofs.Numbers.{itself, some_same}
use Rattle.conversion_model.specs.declared.templates.Source.{Source}
use Rattle.conversion_model.specs.declared.templates.Source.TheVariants.{Operand, Made}
use Rattle.conversion_model.specs.Templates.{copy, Step, steps_written, Template, written}
use Rattle.conversion_model.specs.Targets.{region_count, shape_of as of_shape}
use Rattle.line_rules.specs.Lines.{bound_by, HasValue, is_empty, Line, LineKeeps, LineRanks, list_values, values_of}
use Rattle.fitting_rows.specs.Typed.{made_types, Typed, TypedRest, TypedSteps}
use Rattle.line_rules.specs.Fits.{Fits, LineFits}
use Rattle.line_rules.proofs.Words.{has_left, has_right}
use Rattle.fitting_rows.proofs.TypedSteps.{and_parts}
use Rattle.line_rules.proofs.Once.{value_among, value_cases}
use Rattle.fitting_rows.proofs.Written.{all_fit, all_formed, all_ones, all_stay, fits_not_last, fits_on, name_last, One, steps_lined, steps_ranks, values_at}

pub record Good (Old : ℕ → Type 0) (new : ℕ → ℕ) (T : ℕ → PlainType) (o : Op) (l : List Op) : Type 0 where
  pub line : Line Old o l
  pub ranks : LineRanks new o l
  pub keeps : LineKeeps o l
  pub fits : LineFits T o l

no_regions : (r : Regions) → region_count r ≡ 0 → r ≡ end_of_regions
no_regions end_of_regions e = refl
no_regions (region b r) e = absurd (omega (arith, e))

-- a value of operations is bound by them
value_bound : (x : ℕ) (t : PlainType) (l : List Op) → HasValue x t (list_values l) → has x (bound_by l) ≡ true
value_bound x t [] h = absurd h
value_bound x t (p ∷ l) h = elim (value_cases x t (values_of p) (list_values l) h) [
  | inl a ↦ has_left x (results_of p) (bound_by l) (own_bound p a)
  | inr a ↦ has_right x (results_of p) (bound_by l) (value_bound x t l a)
]
  where
    own_bound : (q : Op) → HasValue x t (values_of q) → has x (results_of q) ≡ true
    own_bound (op k rs os r ls) a = value_among rs x t a

abbrev one_result : Kind → ℕ → PlainType → List ℕ → Regions → List ℕ → Op
one_result k v t os r ls = op k ((v, t) ∷ []) os r ls

not_none : (Old : ℕ → Type 0) (x : ℕ) (t : PlainType) (l : List Op) → HasValue x t (list_values l) → is_empty l ≡ false
not_none Old x t [] h = absurd h
not_none Old x t (p ∷ l) h = refl

same_one : (x v : ℕ) → has x (v ∷ []) ≡ true → x ≡ v
same_one x v h = go (v == x) refl h
  where
    go : (b : Bool) → (v == x) ≡ b → (b || false) ≡ true → x ≡ v
    go true e f = sym (eqb-true v x e)
    go false e f = absurd (true≢false (sym f))

abbrev result_name : (ℕ → ℕ) → ℕ → ℕ → ℕ → ℕ
result_name new v m i = if m == i then v else new i

-- where the m-th value, the last, is the result
good_at : (Old : ℕ → Type 0) (new : ℕ → ℕ) (T : ℕ → PlainType) (k : Kind) (v : ℕ) (ty : PlainType) (os ls : List ℕ) (r : Regions) (steps : List Step) (m : ℕ) → ((x j : ℕ) → Old x → x ≡ new j → ⊥)
    → Fits (of_shape T (one_result k v ty os r ls)) → TypedSteps Fits (map T os) [] steps → at_place m (made_types steps) ≡ Some ty → m + 1 ≡ length (made_types steps)
    → Good Old new T (one_result k v ty os r ls) (steps_written (result_name new v m) os ls 0 steps [])
good_at Old new T k v ty os ls r steps m fresh f typed is last =
    let l : List Op = steps_written (result_name new v m) os ls 0 steps [] in
    let left : 0 + length (made_types steps) ≡ m + 1 = omega (arith, last) in
    let there : HasValue v ty (list_values l) =
    subst (λ x. HasValue x ty (list_values l)) (name_last Old new v m os ls T fresh)
    (values_at Old new v m os ls T fresh 0 m [] steps ty refl (all_ones Old new v m os ls T fresh [] steps typed) (omega arith) is) in
    record {
      line = record {
        on = fits_on (of_shape T (one_result k v ty os r ls)) f;
        steps = steps_lined Old new v m os ls T fresh 0 [] [] steps refl left (λ j low under. absurd (omega (arith, low))) typed;
        gives = λ x h. subst (λ y. has y (bound_by l) ≡ true) (sym (same_one x v h)) (value_bound v ty l there);
      };
      ranks = record { ranks = steps_ranks Old new v m os ls T fresh 0 [] steps refl left typed };
      keeps = record {
        bare = no_regions r f.bare;
        values = λ x t h. elim h [ inl a ↦ subst (λ y. HasValue y t (list_values l)) a.0 (subst (λ u. HasValue v u (list_values l)) a.1 there) | inr a ↦ absurd a ];
        formed = all_formed Old new v m os ls T fresh 0 [] steps typed;
        none = all_stay Old new v m os ls T fresh 0 [] steps typed;
      };
      fits = record {
        not_last = fits_not_last (of_shape T (one_result k v ty os r ls)) f;
        some = not_none Old v ty l there;
        fits = λ S agree inside. all_fit Old new v m os ls T fresh S agree 0 [] steps
            (λ j t e. inside (result_name new v m j) t (values_at Old new v m os ls T fresh 0 j [] steps t refl (all_ones Old new v m os ls T fresh [] steps typed) (omega arith) e)) typed;
      };
    }

written_is : (new : ℕ → ℕ) (v : ℕ) (ty : PlainType) (os ls : List ℕ) (steps : List Step) (m : ℕ)
    → steps_written (result_name new v m) os ls 0 steps [] ≡ written new ((v, ty) ∷ []) os ls (record { steps = steps; results = Made m ∷ [] }) []
written_is new v ty os ls steps m = ap (λ b. steps_written (result_name new v m) os ls 0 steps (if b then [] else copy (v, ty) (result_name new v m m) ∷ [])) (sym (ap (λ x. x == v) (ap (λ b. if b then v else new m) (itself m)) ∙ itself v))

good_results : (Old : ℕ → Type 0) (new : ℕ → ℕ) (T : ℕ → PlainType) (k : Kind) (v : ℕ) (ty : PlainType) (os ls : List ℕ) (r : Regions) (steps : List Step) (results : List Source) → ((x j : ℕ) → Old x → x ≡ new j → ⊥)
    → Fits (of_shape T (one_result k v ty os r ls)) → TypedRest Fits (map T os) [] (ty ∷ []) (record { steps = steps; results = results })
    → Good Old new T (one_result k v ty os r ls) (written new ((v, ty) ∷ []) os ls (record { steps = steps; results = results }) [])
good_results Old new T k v ty os ls r steps [] fresh f typed = absurd (omega (arith, ap (λ l. length l) (some_same [] (ty ∷ []) typed.results_are)))
good_results Old new T k v ty os ls r steps (Made m ∷ []) fresh f typed =
    let p = and_parts (at_place m (made_types steps)) (Some []) (ty ∷ []) typed.results_are in
    subst (Good Old new T (one_result k v ty os r ls)) (written_is new v ty os ls steps m)
    (good_at Old new T k v ty os ls r steps m fresh f typed.steps (p.first ∙ ap (λ l. at_place 0 l) (sym p.is)) typed.at_end)
good_results Old new T k v ty os ls r steps (Operand j ∷ rs) fresh f typed = absurd typed.at_end
good_results Old new T k v ty os ls r steps (Made m ∷ s ∷ rs) fresh f typed = absurd typed.at_end

one_value : (rs : Values) → length (map (λ (w : ℕ × PlainType). w.1) rs) ≡ 1 → One rs
one_value [] e = absurd (omega (arith, e))
one_value (v ∷ []) e = record { item = v; is = refl }
one_value (v ∷ u ∷ rs) e = absurd (omega (arith, e))

-- a template that fits, written for an operation that fits
pub written_good : (Old : ℕ → Type 0) (new : ℕ → ℕ) (T : ℕ → PlainType) (k : Kind) (rs : Values) (os ls : List ℕ) (r : Regions) (t : Template) → ((x j : ℕ) → Old x → x ≡ new j → ⊥)
    → Fits (of_shape T (op k rs os r ls)) → Typed Fits (of_shape T (op k rs os r ls)) t → Good Old new T (op k rs os r ls) (written new rs os ls t [])
written_good Old new T k rs os ls r t fresh f typed =
    let one = one_value rs f.one in
    let v : ℕ × PlainType = one.item in
    subst (λ vs. Good Old new T (op k vs os r ls) (written new vs os ls t [])) (sym one.is)
    (good_results Old new T k v.0 v.1 os ls r t.steps t.results fresh (subst (λ vs. Fits (of_shape T (op k vs os r ls))) one.is f) (subst (λ vs. Typed Fits (of_shape T (op k vs os r ls)) t) one.is typed))
