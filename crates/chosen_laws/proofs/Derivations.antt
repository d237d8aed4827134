-- The leaves of products in the place of the products.
use Rattle.std.proofs.Common.{◌≡◌, ℕ, suc, ◌+◌, ◌==◌, Bool, true, false, List, [], ◌∷◌, ◌++◌, Option, Some, None, length, map, refl, sym, ap, ◌∙◌, subst, arith, append_assoc, append-nil}
use Rattle.std.specs.Prelude.{if◌then◌else◌}
use Rattle.std.proofs.lemmas.Bool.{eqb-true}
use Rattle.plain_tree.specs.Types.{PlainType, Void}
use Rattle.operation_model.specs.Values.{Value}
use Rattle.operation_model.specs.Doings.{Doing, Outside}
use Rattle.operation_model.specs.Straight.{does}
use Rattle.conversion_model.specs.declared.templates.Source.{Source}
use Rattle.conversion_model.specs.declared.templates.Source.TheVariants.{Operand, Made}
use Rattle.conversion_model.specs.Templates.{Step, Template}
use Rattle.conversion_model.specs.Targets.{Shape}
use Rattle.conversion_model.specs.Rows.{Pattern}
use Rattle.conversion_model.specs.Chosen.{Ending, Leaves, State, after, and_then, here, made_by, moved_step, placed, product, products, type_here, with_moved}
use Rattle.sound_model.specs.Refinement.{Refines}
use Rattle.sound_model.specs.Runs.{counted, form_at, if_there, item_of, items_of, labels_in, operation_runs, steps_run, template_runs, types_made}
use Rattle.sound_model.specs.Soundness.{FitIfRoot, Sound, StepsFit, step_shape}
use Rattle.sound_model.proofs.Refining.{refines_trans, then_on_refines}
use Rattle.chosen_laws.proofs.Lists.{and_both, both, item_at, items_append, items_count, items_more, labels_count, labels_of_labels, none_some, or_there, placed_items, some_same}

-- Going on

-- where the first goes on, it keeps to d
pub on_there : {A : Type 0} (a : Option A) (next : A → Doing) (d : Doing) → ((x : A) → a ≡ Some x → Refines (next x) d) → Refines (if_there a next) d
on_there (Some x) next d h = h x refl
on_there None next d h = tt

pub there : {A : Type 0} {a : Option A} {x : A} (next : A → Doing) → a ≡ Some x → if_there a next ≡ next x
there next e = ap (λ y. if_there y next) e

pub counted_refines : (types : List PlainType) (ys : List Value) (d e : Doing) → (length ys ≡ length types → Refines d e) → Refines (counted types ys d) (counted types ys e)
counted_refines types ys d e h = go (length ys == length types) refl
  where
    go : (b : Bool) → (length ys == length types) ≡ b → Refines (if b then d else Outside) (if b then e else Outside)
    go true is = h (eqb-true (length ys) (length types) is)
    go false is = tt

pub runs_refine : (form : _) (results : List PlainType) (labels : List ℕ) (args : List Value) (next other : List Value → Doing)
    → ((ys : List Value) → length ys ≡ length results → Refines (next ys) (other ys)) → Refines (operation_runs form results labels args next) (operation_runs form results labels args other)
runs_refine form results labels args next other h =
    then_on_refines (does form labels args) _ _ (λ ys. counted_refines results ys (next ys) (other ys) (h ys))

-- the parts of what goes on
pub record Parts {A B : Type 0} (x : Option A) (next : A → Option B) (y : B) : Type 0 where
  pub value : A
  pub is : x ≡ Some value
  pub rest : next value ≡ Some y

pub parts : {A B : Type 0} (x : Option A) (next : A → Option B) (y : B) → and_then x next ≡ Some y → Parts x next y
parts (Some a) next y e = record { value = a; is = refl; rest = e }
parts None next y e = absurd (none_some e)

-- Types and counts of what steps make

pub types_count : (steps : List Step) → length (types_made steps) ≡ made_by steps
types_count [] = refl
types_count (x ∷ xs) = length_joined x.makes (types_made xs) ∙ ap (λ n. length x.makes + n) (types_count xs)
  where
    length_joined : (ts us : List PlainType) → length (ts ++ us) ≡ length ts + length us
    length_joined [] us = omega arith
    length_joined (t ∷ ts) us = ap suc (length_joined ts us) ∙ omega arith

pub length_joined : {A : Type 0} (xs ys : List A) → length (xs ++ ys) ≡ length xs + length ys
length_joined [] ys = omega arith
length_joined (x ∷ xs) ys = ap suc (length_joined xs ys) ∙ omega arith

pub types_moved : (f : Step → Step) → ((x : Step) → (f x).makes ≡ x.makes) → (steps more : List Step) → types_made (map f steps ++ more) ≡ types_made steps ++ types_made more
types_moved f same [] more = refl
types_moved f same (x ∷ xs) more =
    ap (λ ts. ts ++ types_made (map f xs ++ more)) (same x) ∙ ap (λ ts. x.makes ++ ts) (types_moved f same xs more)
    ∙ sym (append_assoc x.makes (types_made xs) (types_made more))

pub mapped_count : {A B : Type 0} (f : A → B) (xs : List A) → length (map f xs) ≡ length xs
mapped_count f [] = refl
mapped_count f (x ∷ xs) = ap suc (mapped_count f xs)

-- What a state knows: what the operands of products are, and the values that products made

pub record Knows {A : Type 0} (args all : List A) (s : State) (operands made : List A) : Type 0 where
  pub operands_are : items_of args all s.operands ≡ Some operands
  pub made_are : items_of args all s.made ≡ Some made
  pub count_is : length all ≡ s.count

here_item : {A : Type 0} (args all : List A) (s : State) (operands made : List A) (x : Source) (a : A)
    → Knows args all s operands made → item_of operands made x ≡ Some a → item_of args all (here s x) ≡ Some a
here_item args all s operands made (Operand k) a knows e = item_at args all s.operands operands k (Operand k) a knows.operands_are e
here_item args all s operands made (Made k) a knows e = item_at args all s.made made k (Made k) a knows.made_are e

pub here_items : {A : Type 0} (args all : List A) (s : State) (operands made : List A) (xs : List Source) (zs : List A)
    → Knows args all s operands made → items_of operands made xs ≡ Some zs → items_of args all (map (here s) xs) ≡ Some zs
here_items args all s operands made [] zs knows e = e
here_items args all s operands made (x ∷ xs) zs knows e =
    let b = both (item_of operands made x) (items_of operands made xs) zs e in
    and_both (here_item args all s operands made x b.first knows b.first_is) (here_items args all s operands made xs b.rest knows b.rest_is) ∙ ap Some (sym b.is)

type_is : (s : State) (x : Source) (t : PlainType) → item_of s.operand_types s.made_types x ≡ Some t → type_here s x ≡ t
type_is s (Operand k) t e = or_there s.operand_types k Void t e
type_is s (Made k) t e = or_there s.made_types k Void t e

pub types_are : (s : State) (xs : List Source) (ts : List PlainType) → items_of s.operand_types s.made_types xs ≡ Some ts → map (type_here s) xs ≡ ts
types_are s [] ts e = some_same e
types_are s (x ∷ xs) ts e =
    let b = both (item_of s.operand_types s.made_types x) (items_of s.operand_types s.made_types xs) ts e in
    ap (λ t. t ∷ map (type_here s) xs) (type_is s x b.first b.first_is) ∙ ap (λ us. b.first ∷ us) (types_are s xs b.rest b.rest_is) ∙ sym b.is

-- behind a product whose leaves gave these
pub knows_after : {A : Type 0} (args all more : List A) (s : State) (x : Step) (t : Template) (operands made inner ys : List A)
    → Knows args all s operands made → items_of operands made x.sources ≡ Some inner → items_of inner more t.results ≡ Some ys → length more ≡ made_by t.steps
    → Knows args (all ++ more) (after s x t) operands (made ++ ys)
knows_after args all more s x t operands made inner ys knows e f count = record {
  operands_are = items_more args all more s.operands operands knows.operands_are;
  made_are =
      items_append args (all ++ more) s.made (map (placed (map (here s) x.sources) s.count) t.results) made ys (items_more args all more s.made made knows.made_are)
      (placed_items args all more inner (map (here s) x.sources) s.count t.results ys (here_items args all s operands made x.sources inner knows e) knows.count_is f);
  count_is = length_joined all more ∙ omega (arith, knows.count_is, count);
}

-- The leaves that take a product's place

module _ (bits : ℕ) (types : List PlainType) (args : List Value) (labels : List ℕ) where
  -- moved steps do what the steps do
  moved_runs : (sources : List Source) (n : ℕ) (successors : List ℕ) (inner_types : List PlainType) (inner : List Value) (inner_labels : List ℕ)
      (ts : List PlainType) (vs : List Value)
      → items_of types ts sources ≡ Some inner_types → items_of args vs sources ≡ Some inner → length ts ≡ n → length vs ≡ n → labels_in labels successors ≡ Some inner_labels
      → (more : List Step) (next fin : List Value → Doing) (all_types : List PlainType) (count : ℕ)
      → ((made : List Value) → length made ≡ count → Refines (next made) (steps_run bits types args labels more (ts ++ all_types) (vs ++ made) fin))
      → (steps : List Step) (made_types whole_types : List PlainType) (made whole : List Value)
      → whole_types ≡ ts ++ made_types → whole ≡ vs ++ made → made_types ++ types_made steps ≡ all_types → length made + made_by steps ≡ count
      → Refines (steps_run bits inner_types inner inner_labels steps made_types made next)
      (steps_run bits types args labels (map (moved_step sources n successors) steps ++ more) whole_types whole fin)
  moved_runs sources n successors inner_types inner inner_labels ts vs e f ts_count vs_count l more next fin all_types count last [] made_types whole_types made whole is_types is all_is count_is =
      subst (λ us. Refines (next made) (steps_run bits types args labels more us whole fin)) (ap (λ us. ts ++ us) (sym all_is ∙ append-nil made_types) ∙ sym is_types)
      (subst (λ us. Refines (next made) (steps_run bits types args labels more (ts ++ all_types) us fin)) (sym is) (last made (omega (arith, count_is))))
  moved_runs sources n successors inner_types inner inner_labels ts vs e f ts_count vs_count l more next fin all_types count last (x ∷ xs) made_types whole_types made whole is_types is all_is count_is =
      on_there (items_of inner_types made_types x.sources) _ _ (λ us us_is.
      on_there (items_of inner made x.sources) _ _ (λ ws ws_is.
      on_there (labels_in inner_labels x.successors) _ _ (λ ls ls_is.
      subst (λ d. Refines (operation_runs (form_at bits x.name x.props us x.makes) x.makes ls ws (λ ys. steps_run bits inner_types inner inner_labels xs (made_types ++ x.makes) (made ++ ys) next)) d)
      (sym (there _ (types_placed us us_is) ∙ there _ (values_placed ws ws_is) ∙ there _ (labels_of_labels labels successors inner_labels x.successors ls l ls_is)))
      (runs_refine (form_at bits x.name x.props us x.makes) x.makes ls ws _ _ (λ ys ys_count.
      moved_runs sources n successors inner_types inner inner_labels ts vs e f ts_count vs_count l more next fin all_types count last xs (made_types ++ x.makes) (whole_types ++ x.makes) (made ++ ys) (whole ++ ys)
      (ap (λ zs. zs ++ x.makes) is_types ∙ append_assoc ts made_types x.makes) (ap (λ zs. zs ++ ys) is ∙ append_assoc vs made ys)
      (append_assoc made_types x.makes (types_made xs) ∙ all_is) (omega (arith, length_joined made ys, ys_count, count_is)))))))
    where
      types_placed : (us : List PlainType) → items_of inner_types made_types x.sources ≡ Some us → items_of types whole_types (map (placed sources n) x.sources) ≡ Some us
      types_placed us us_is = subst (λ zs. items_of types zs (map (placed sources n) x.sources) ≡ Some us) (sym is_types) (placed_items types ts made_types inner_types sources n x.sources us e ts_count us_is)

      values_placed : (ws : List Value) → items_of inner made x.sources ≡ Some ws → items_of args whole (map (placed sources n) x.sources) ≡ Some ws
      values_placed ws ws_is = subst (λ zs. items_of args zs (map (placed sources n) x.sources) ≡ Some ws) (sym is) (placed_items args vs made inner sources n x.sources ws f vs_count ws_is)

  -- what is left of a template, behind values that were made
  abbrev pub rest_runs : List PlainType → List Value → Template → (List Value → Doing) → Doing
  rest_runs ts vs rest next = steps_run bits types args labels rest.steps ts vs (λ made. if_there (items_of args made rest.results) next)

  module _ (table : List Pattern) (leaves : Leaves) (leaves_sound : (o : Shape) (t : Template) → FitIfRoot table o → leaves o ≡ Some t → Sound bits o t)
      (last : Ending) (operands : List Value) (inner next : List Value → Doing)
      (operand_types all_types : List PlainType)
      (last_runs : (s : State) (rest : Template) (ts : List PlainType) (vs made : List Value) → s.operand_types ≡ operand_types → s.made_types ≡ all_types
      → Knows types ts s s.operand_types s.made_types → Knows args vs s operands made → last s ≡ Some rest → Refines (inner made) (rest_runs ts vs rest next)) where
    -- the leaves of products in order do what the products do
    pub products_run : (xs : List Step) (s : State) (rest : Template) (ts : List PlainType) (vs made : List Value)
        → s.operand_types ≡ operand_types → s.made_types ++ types_made xs ≡ all_types → StepsFit table s.operand_types xs s.made_types → Knows types ts s s.operand_types s.made_types → Knows args vs s operands made → products leaves last xs s ≡ Some rest
        → Refines (steps_run bits s.operand_types operands labels xs s.made_types made inner) (rest_runs ts vs rest next)
    products_run [] s rest ts vs made ops all_is fits types_known known e = last_runs s rest ts vs made ops (sym (append-nil s.made_types) ∙ all_is) types_known known e
    products_run (x ∷ xs) s rest ts vs made ops all_is fits types_known known e =
        on_there (items_of s.operand_types s.made_types x.sources) _ _ (λ us us_is.
        on_there (items_of operands made x.sources) _ _ (λ ws ws_is.
        on_there (labels_in labels x.successors) _ _ (λ ls ls_is.
        let p = parts (leaves (product s x)) _ rest e in
        let q = parts (products leaves last xs (after s x p.value)) _ rest p.rest in
        one us ws ls us_is ws_is ls_is p.value q.value p.is q.is (some_same q.rest)
        (λ more_types more ys types_after after_is. products_run xs (after s x p.value) q.value (ts ++ more_types) (vs ++ more) (made ++ ys) ops (append_assoc s.made_types x.makes (types_made xs) ∙ all_is) fits.1 types_after after_is q.is))))
      where
        one : (us : List PlainType) (ws : List Value) (ls : List ℕ) → items_of s.operand_types s.made_types x.sources ≡ Some us → items_of operands made x.sources ≡ Some ws → labels_in labels x.successors ≡ Some ls
            → (t rest1 : Template) → leaves (product s x) ≡ Some t → products leaves last xs (after s x t) ≡ Some rest1 → with_moved s x t rest1 ≡ rest
            → ((more_types : List PlainType) (more ys : List Value) → Knows types (ts ++ more_types) (after s x t) s.operand_types (s.made_types ++ x.makes) → Knows args (vs ++ more) (after s x t) operands (made ++ ys)
            → Refines (steps_run bits s.operand_types operands labels xs (s.made_types ++ x.makes) (made ++ ys) inner) (rest_runs (ts ++ more_types) (vs ++ more) rest1 next))
            → Refines (operation_runs (form_at bits x.name x.props us x.makes) x.makes ls ws (λ ys. steps_run bits s.operand_types operands labels xs (s.made_types ++ x.makes) (made ++ ys) inner))
            (rest_runs ts vs rest next)
        one us ws ls us_is ws_is ls_is t rest1 t_is rest1_is is again =
            let behind : List Value → Doing = λ ys. steps_run bits s.operand_types operands labels xs (s.made_types ++ x.makes) (made ++ ys) inner in
            let fit : FitIfRoot table (product s x) = subst (λ z. FitIfRoot table (step_shape x z)) (sym (types_are s x.sources fits.0.0 fits.0.1)) fits.0.2 in
            let sound : Sound bits (product s x) t = leaves_sound (product s x) t fit t_is in
            let counts : length ws ≡ length (map (type_here s) x.sources) = items_count operands made x.sources ws ws_is ∙ sym (mapped_count (type_here s) x.sources) in
            let result_types : items_of us (types_made t.steps) t.results ≡ Some x.makes = subst (λ z. items_of z (types_made t.steps) t.results ≡ Some x.makes) (types_are s x.sources us us_is) sound.types in
            refines_trans _ (template_runs bits us ws ls t behind) _
            (subst (λ z. Refines (operation_runs (form_at bits x.name x.props z x.makes) x.makes ls ws behind) (template_runs bits z ws ls t behind)) (types_are s x.sources us us_is)
            (sound.same ws ls behind counts counts (labels_count labels x.successors ls ls_is)))
            (subst (λ z. Refines (template_runs bits us ws ls t behind) (rest_runs ts vs z next)) is
            (moved_runs (map (here s) x.sources) s.count x.successors us ws ls ts vs (here_items types ts s s.operand_types s.made_types x.sources us types_known us_is)
            (here_items args vs s operands made x.sources ws known ws_is) types_known.count_is known.count_is ls_is rest1.steps (λ all. if_there (items_of ws all t.results) behind) (λ all. if_there (items_of args all rest1.results) next)
            (types_made t.steps) (made_by t.steps)
            (λ all count. on_there (items_of ws all t.results) behind _ (λ ys ys_is.
            again (types_made t.steps) all ys
            (knows_after types ts (types_made t.steps) s x t s.operand_types s.made_types us x.makes types_known us_is result_types (types_count t.steps))
            (knows_after args vs all s x t operands made ws ys known ws_is ys_is count)))
            t.steps [] ts [] vs (sym (append-nil ts)) (sym (append-nil vs)) refl (omega arith)))

-- Types of the results
module _ (bits : ℕ) (types : List PlainType) (table : List Pattern) (leaves : Leaves) (leaves_sound : (o : Shape) (t : Template) → FitIfRoot table o → leaves o ≡ Some t → Sound bits o t)
    (last : Ending) (operand_types all_types results : List PlainType)
    (last_types : (s : State) (rest : Template) (ts : List PlainType) → s.operand_types ≡ operand_types → s.made_types ≡ all_types
    → Knows types ts s s.operand_types s.made_types → last s ≡ Some rest → items_of types (ts ++ types_made rest.steps) rest.results ≡ Some results) where
  pub products_types : (xs : List Step) (s : State) (rest : Template) (ts : List PlainType)
      → s.operand_types ≡ operand_types → s.made_types ++ types_made xs ≡ all_types → StepsFit table s.operand_types xs s.made_types → Knows types ts s s.operand_types s.made_types
      → products leaves last xs s ≡ Some rest → items_of types (ts ++ types_made rest.steps) rest.results ≡ Some results
  products_types [] s rest ts ops all_is fits known e = last_types s rest ts ops (sym (append-nil s.made_types) ∙ all_is) known e
  products_types (x ∷ xs) s rest ts ops all_is fits known e =
      let p = parts (leaves (product s x)) _ rest e in
      let q = parts (products leaves last xs (after s x p.value)) _ rest p.rest in
      one p.value q.value p.is (some_same q.rest)
      (λ known_after. products_types xs (after s x p.value) q.value (ts ++ types_made p.value.steps) ops (append_assoc s.made_types x.makes (types_made xs) ∙ all_is) fits.1 known_after q.is)
    where
      one : (t rest1 : Template) → leaves (product s x) ≡ Some t → with_moved s x t rest1 ≡ rest
          → (Knows types (ts ++ types_made t.steps) (after s x t) s.operand_types (s.made_types ++ x.makes) → items_of types ((ts ++ types_made t.steps) ++ types_made rest1.steps) rest1.results ≡ Some results)
          → items_of types (ts ++ types_made rest.steps) rest.results ≡ Some results
      one t rest1 t_is is again =
          let us : List PlainType = fits.0.0 in
          let fit : FitIfRoot table (product s x) = subst (λ z. FitIfRoot table (step_shape x z)) (sym (types_are s x.sources us fits.0.1)) fits.0.2 in
          let sound : Sound bits (product s x) t = leaves_sound (product s x) t fit t_is in
          let result_types : items_of us (types_made t.steps) t.results ≡ Some x.makes = subst (λ z. items_of z (types_made t.steps) t.results ≡ Some x.makes) (types_are s x.sources us fits.0.1) sound.types in
          subst (λ z. items_of types (ts ++ types_made z.steps) z.results ≡ Some results) is
          (subst (λ z. items_of types z rest1.results ≡ Some results)
          (append_assoc ts (types_made t.steps) (types_made rest1.steps) ∙ ap (λ z. ts ++ z) (sym (types_moved (moved_step (map (here s) x.sources) s.count x.successors) (λ y. refl) t.steps rest1.steps)))
          (again (knows_after types ts (types_made t.steps) s x t s.operand_types s.made_types us x.makes known fits.0.1 result_types (types_count t.steps))))
