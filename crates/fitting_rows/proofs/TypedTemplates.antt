-- A derivation whose rows' templates fit is a template that fits.
use Rattle.std.proofs.Common.{◌≡◌, ℕ, zero, suc, ◌+◌, Bool, true, false, List, [], ◌∷◌, ◌++◌, Option, Some, None, refl, sym, ap, ◌∙◌, subst, length, map, arith}
use Rattle.std.specs.Prelude.{get_or, ⊤}
use Rattle.std.proofs.lemmas.Option.{none-some}
use Rattle.plain_tree.specs.Types.{PlainType, Void}
use Rattle.rule_model.specs.Words.{AllOf}
use Rattle.rule_model.specs.Forms.{at_place}
use Rattle.rule_model.proofs.Numbers.{some_same}
use Rattle.conversion_model.specs.declared.templates.Source.{Source}
use Rattle.conversion_model.specs.declared.templates.Source.TheVariants.{Operand, Made}
use Rattle.conversion_model.specs.Types.{or_same}
use Rattle.conversion_model.specs.Templates.{Step, Template}
use Rattle.conversion_model.specs.Targets.{Shape}
use Rattle.conversion_model.specs.Chosen.{after, and_then, by_template, cast, Ending, give_one, give_results, here, Leaves, moved_step, nothing_yet, placed, product, products, State, take_one, take_operands, type_here, with_moved, with_operand, with_step}
use Rattle.fitting_rows.specs.Typed.{LeavesTyped, made_types, source_type, source_types, AtEnd, changed, CastsFit, RowTyped, step_shape, Typed, TypedRest, TypedStep, TypedSteps}
use Rattle.fitting_rows.proofs.TypedSteps.{all_sources, and_both, and_parts, at_right, both_sources, both_steps, both_types, get_source, joined_twice, later_sources, length_joined, moved_typed, moved_types, placed_source, types_count}

pub record Then {A B : Type 0} (o : Option A) (f : A → Option B) (b : B) : Type 0 where
  pub value : A
  pub first : o ≡ Some value
  pub rest : f value ≡ Some b

pub then_parts : {A B : Type 0} (o : Option A) (f : A → Option B) (b : B) → and_then o f ≡ Some b → Then o f b
then_parts None f b e = absurd (none-some b e)
then_parts (Some a) f b e = record { value = a; first = refl; rest = e }

-- P, where it is wanted
abbrev pub Wanted : Bool → Type 0 → Type 0
Wanted true P = P
Wanted false P = ⊤

-- the last of these sources is the last value that was made
abbrev pub LastIs : List Source → ℕ → Type 0
LastIs [] c = ⊤
LastIs (Made m ∷ []) c = m + 1 ≡ c
LastIs (Operand k ∷ []) c = ⊥
LastIs (x ∷ y ∷ xs) c = LastIs (y ∷ xs) c

last_put : (xs : List Source) (m c : ℕ) → m + 1 ≡ c → LastIs (xs ++ Made m ∷ []) c
last_put [] m c e = e
last_put (Made k ∷ []) m c e = e
last_put (Operand k ∷ []) m c e = e
last_put (x ∷ y ∷ xs) m c e = last_put (y ∷ xs) m c e

pub record IsMade (x : Source) (c : ℕ) : Type 0 where
  pub place : ℕ
  pub is : x ≡ Made place
  pub last : place + 1 ≡ c

get_last : (xs : List Source) (m c : ℕ) (d : Source) → m + 1 ≡ length xs → LastIs xs c → IsMade (get_or xs m d) c
get_last [] m c d e last = absurd (omega (arith, e))
get_last (Made k ∷ []) zero c d e last = record { place = k; is = refl; last = last }
get_last (Operand k ∷ []) zero c d e last = absurd last
get_last (x ∷ []) (suc m) c d e last = absurd (omega (arith, e))
get_last (x ∷ y ∷ xs) zero c d e last = absurd (omega (arith, e))
get_last (x ∷ y ∷ xs) (suc m) c d e last = get_last (y ∷ xs) m c d (omega (arith, e)) last

-- what stands so far fits
pub record Stands (want : Bool) (ts done : List PlainType) (s : State) : Type 0 where
  pub operands : source_types ts done s.operands ≡ Some s.operand_types
  pub made : source_types ts done s.made ≡ Some s.made_types
  pub count : length done ≡ s.count
  pub last : Wanted want (LastIs s.made s.count)

abbrev pub OnePerStep : Bool → List Step → Type 0
OnePerStep want xs = Wanted want (AllOf (λ (x : Step). length x.makes ≡ 1) xs)

at_get : {A : Type 0} (k : ℕ) (xs : List A) (x d : A) → at_place k xs ≡ Some x → get_or xs k d ≡ x
at_get k [] x d e = absurd (none-some x e)
at_get zero (y ∷ xs) x d e = some_same y x e
at_get (suc k) (y ∷ xs) x d e = at_get k xs x d e

here_source : {want : Bool} (ts done : List PlainType) (s : State) → Stands want ts done s → (x : Source) (t : PlainType) → source_type s.operand_types s.made_types x ≡ Some t → source_type ts done (here s x) ≡ Some t
here_source ts done s st (Operand k) t e = get_source ts done k s.operands s.operand_types (Operand k) t st.operands e
here_source ts done s st (Made k) t e = get_source ts done k s.made s.made_types (Made k) t st.made e

type_is : (s : State) (x : Source) (t : PlainType) → source_type s.operand_types s.made_types x ≡ Some t → type_here s x ≡ t
type_is s (Operand k) t e = at_get k s.operand_types t Void e
type_is s (Made k) t e = at_get k s.made_types t Void e

types_are : (s : State) (xs : List Source) (types : List PlainType) → source_types s.operand_types s.made_types xs ≡ Some types → map (type_here s) xs ≡ types
types_are s [] types e = some_same [] types e
types_are s (x ∷ xs) types e =
    let p = and_parts (source_type s.operand_types s.made_types x) (source_types s.operand_types s.made_types xs) types e in
    ap (λ t. t ∷ map (type_here s) xs) (type_is s x p.head p.first) ∙ ap (λ l. p.head ∷ l) (types_are s xs p.tail p.rest) ∙ sym p.is

none_behind : {A : Type 0} (xs : List A) → xs ++ [] ≡ xs
none_behind [] = refl
none_behind (x ∷ xs) = ap (λ l. x ∷ l) (none_behind xs)

-- what follows the products fits
abbrev pub EndsTyped : (Shape → Type 0) → Bool → (ts outs operand_types made_types : List PlainType) → Ending → Type 0
EndsTyped Fit want ts outs ops mts last = (s : State) (done : List PlainType) (r : Template) → Stands want ts done s → s.operand_types ≡ ops → s.made_types ≡ mts → last s ≡ Some r → TypedRest Fit ts done outs r

-- where a product makes one value, that is the last of its leaves
leaf_last : (results : List Source) (us made : List PlainType) (types : List PlainType) (n : ℕ) → source_types us made results ≡ Some types → length types ≡ 1 → AtEnd results n
    → (base : ℕ) (args xs : List Source) → LastIs (xs ++ map (placed args base) results) (base + n)
leaf_last [] us made types n e one at_end base args xs = absurd (omega (arith, one, ap (λ l. length l) (some_same [] types e)))
leaf_last (Made m ∷ []) us made types n e one at_end base args xs = last_put xs (base + m) (base + n) (omega (arith, at_end))
leaf_last (Operand k ∷ rs) us made types n e one at_end base args xs = absurd at_end
leaf_last (Made m ∷ r ∷ rs) us made types n e one at_end base args xs = absurd at_end

wanted_last : (want : Bool) (xs : List Step) (x : Step) → OnePerStep want (x ∷ xs) → {P : Type 0} → (length x.makes ≡ 1 → P) → Wanted want P
wanted_last true xs x ones f = f ones.0
wanted_last false xs x ones f = tt

wanted_rest : (want : Bool) (xs : List Step) (x : Step) → OnePerStep want (x ∷ xs) → OnePerStep want xs
wanted_rest true xs x ones = ones.1
wanted_rest false xs x ones = tt

front_typed : (Fit : Shape → Type 0) (ts done outs : List PlainType) (steps : List Step) (rest : Template) → TypedSteps Fit ts done steps → TypedRest Fit ts (done ++ made_types steps) outs rest
    → TypedRest Fit ts done outs (record { steps = steps ++ rest.steps; results = rest.results })
front_typed Fit ts done outs steps rest a b =
    let same : (done ++ made_types steps) ++ made_types rest.steps ≡ done ++ made_types (steps ++ rest.steps) = joined_twice done (made_types steps) (made_types rest.steps) ∙ ap (λ l. done ++ l) (sym (both_types steps rest.steps)) in
    record {
      steps = both_steps Fit ts done steps rest.steps a b.steps;
      results_are = subst (λ l. source_types ts l rest.results ≡ Some outs) same b.results_are;
      at_end = subst (λ l. AtEnd rest.results (length l)) same b.at_end;
    }

pub products_typed : (Fit : Shape → Type 0) (leaves : Leaves) (want : Bool) (ts outs : List PlainType) (last : Ending) (xs : List Step) (s : State) (done : List PlainType) (t : Template) → LeavesTyped Fit leaves
    → Stands want ts done s → TypedSteps Fit s.operand_types s.made_types xs → OnePerStep want xs → EndsTyped Fit want ts outs s.operand_types (s.made_types ++ made_types xs) last
    → products leaves last xs s ≡ Some t → TypedRest Fit ts done outs t
products_typed Fit leaves want ts outs last [] s done t typed st steps ones ends e = ends s done t st refl (sym (none_behind s.made_types)) e
products_typed Fit leaves want ts outs last (x ∷ xs) s done t typed st steps ones ends e =
    let a = then_parts (leaves (product s x)) (λ i. and_then (products leaves last xs (after s x i)) (λ rest. Some (with_moved s x i rest))) t e in
    let inner : Template = a.value in
    let b = then_parts (products leaves last xs (after s x inner)) (λ rest. Some (with_moved s x inner rest)) t a.rest in
    let rest : Template = b.value in
    let first : TypedStep Fit s.operand_types s.made_types x = steps.0 in
    let us : List PlainType = first.types in
    let same : map (type_here s) x.sources ≡ us = types_are s x.sources us first.are in
    let fits : Fit (product s x) = subst (λ l. Fit (step_shape x l)) (sym same) first.fits in
    let leaf : TypedRest Fit us [] x.makes inner = subst (λ l. TypedRest Fit l [] x.makes inner) same (typed (product s x) inner fits a.first) in
    let args : List Source = map (here s) x.sources in
    let args_are : source_types ts done args ≡ Some us = all_sources s.operand_types s.made_types ts done (here s) (here_source ts done s st) x.sources us first.are in
    let moved : TypedSteps Fit ts (done ++ []) (map (moved_step args s.count x.successors) inner.steps) = moved_typed Fit ts us done [] args s.count x.successors inner.steps args_are st.count leaf.steps in
    let same_types : done ++ made_types inner.steps ≡ done ++ made_types (map (moved_step args s.count x.successors) inner.steps) = ap (λ l. done ++ l) (sym (moved_types args s.count x.successors inner.steps)) in
    let next : Stands want ts (done ++ made_types inner.steps) (after s x inner) = record {
      operands = later_sources ts done (made_types inner.steps) s.operands s.operand_types st.operands;
      made = both_sources ts (done ++ made_types inner.steps) s.made (map (placed args s.count) inner.results) s.made_types x.makes
          (later_sources ts done (made_types inner.steps) s.made s.made_types st.made)
          (all_sources us (made_types inner.steps) ts (done ++ made_types inner.steps) (placed args s.count) (placed_source ts us done (made_types inner.steps) args s.count args_are st.count) inner.results x.makes leaf.results_are);
      count = length_joined done (made_types inner.steps) ∙ omega (arith, st.count, types_count inner.steps);
      last = wanted_last want xs x ones (λ one. subst (λ n. LastIs (s.made ++ map (placed args s.count) inner.results) (s.count + n)) (types_count inner.steps)
          (leaf_last inner.results us (made_types inner.steps) x.makes (length (made_types inner.steps)) leaf.results_are one leaf.at_end s.count args s.made));
    } in
    let behind : TypedRest Fit ts (done ++ made_types inner.steps) outs rest = products_typed Fit leaves want ts outs last xs (after s x inner) (done ++ made_types inner.steps) rest typed next steps.1 (wanted_rest want xs x ones)
    (λ s2 done2 r st2 p q f. ends s2 done2 r st2 p (q ∙ joined_twice s.made_types x.makes (made_types xs)) f) b.first in
    subst (λ w. TypedRest Fit ts done outs w) (some_same (with_moved s x inner rest) t b.rest)
    (front_typed Fit ts done outs (map (moved_step args s.count x.successors) inner.steps) rest (subst (λ l. TypedSteps Fit ts l (map (moved_step args s.count x.successors) inner.steps)) (none_behind done) moved)
    (subst (λ l. TypedRest Fit ts l outs rest) same_types behind))

-- Casts in front

wanted_none : (want : Bool) (xs : List Source) (c : ℕ) → xs ≡ [] → Wanted want (LastIs xs c)
wanted_none true xs c e = subst (λ l. LastIs l c) (sym e) tt
wanted_none false xs c e = tt

-- what follows the operands fits
abbrev pub TakesTyped : (Shape → Type 0) → Bool → (ts outs operand_types : List PlainType) → Ending → Type 0
TakesTyped Fit want ts outs ops next = (s : State) (done : List PlainType) (r : Template) → Stands want ts done s → s.operand_types ≡ ops → s.made ≡ [] → s.made_types ≡ [] → next s ≡ Some r → TypedRest Fit ts done outs r

one_source : (ts us : List PlainType) (x : Source) (t : PlainType) → source_type ts us x ≡ Some t → source_types ts us (x ∷ []) ≡ Some (t ∷ [])
one_source ts us x t e = and_both t [] e refl

take_typed : (Fit : Shape → Type 0) (change : PlainType → Option PlainType) (want : Bool) (ts outs : List PlainType) (next : Ending) (k : ℕ) (left : List PlainType) (s : State) (done : List PlainType) (r : Template)
    → ((i : ℕ) (u : PlainType) → at_place i left ≡ Some u → at_place (k + i) ts ≡ Some u) → AllOf (CastsFit Fit change) left
    → Stands want ts done s → s.made ≡ [] → s.made_types ≡ [] → TakesTyped Fit want ts outs (s.operand_types ++ map (changed change) left) next → take_operands change next k left s ≡ Some r → TypedRest Fit ts done outs r
take_typed Fit change want ts outs next k [] s done r places casts st m mt ends e = ends s done r st (sym (none_behind s.operand_types)) m mt e
take_typed Fit change want ts outs next k (t ∷ left) s done r places casts st m mt ends e =
    go (change t) refl (λ s2 done2 r2 st2 m2 mt2 ends2 e2. take_typed Fit change want ts outs next (k + 1) left s2 done2 r2 later casts.1 st2 m2 mt2 ends2 e2) e
  where
    here_type : at_place k ts ≡ Some t
    here_type = ap (λ n. at_place n ts) (omega arith) ∙ places 0 t refl

    later : (i : ℕ) (u : PlainType) → at_place i left ≡ Some u → at_place (k + 1 + i) ts ≡ Some u
    later i u f = ap (λ n. at_place n ts) (shift i) ∙ places (suc i) u f
      where
        shift : (j : ℕ) → k + 1 + j ≡ k + suc j
        shift j = omega arith

    go : (c : Option PlainType) → change t ≡ c
        → ((s2 : State) (done2 : List PlainType) (r2 : Template) → Stands want ts done2 s2 → s2.made ≡ [] → s2.made_types ≡ []
        → TakesTyped Fit want ts outs (s2.operand_types ++ map (changed change) left) next → take_operands change next (k + 1) left s2 ≡ Some r2 → TypedRest Fit ts done2 outs r2)
        → take_one c k t (take_operands change next (k + 1) left) s ≡ Some r → TypedRest Fit ts done outs r
    go None is on f =
        on (with_operand (Operand k) t 0 s) done r
        (record {
          operands = both_sources ts done s.operands (Operand k ∷ []) s.operand_types (t ∷ []) st.operands (one_source ts done (Operand k) t here_type);
          made = st.made;
          count = omega (arith, st.count);
          last = wanted_none want s.made (s.count + 0) m;
        })
        m mt (λ s2 done2 r2 st2 p. ends s2 done2 r2 st2 (p ∙ joined_twice s.operand_types (t ∷ []) (map (changed change) left) ∙ ap (λ c. s.operand_types ++ or_same t c ∷ map (changed change) left) (sym is))) f
    go (Some u) is on f =
        let a = then_parts (take_operands change next (k + 1) left (with_operand (Made s.count) u 1 s)) (λ rest. Some (with_step (cast (Operand k) u) rest)) r f in
        let rest : Template = a.value in
        let behind : TypedRest Fit ts (done ++ u ∷ []) outs rest =
        on (with_operand (Made s.count) u 1 s) (done ++ u ∷ []) rest
        (record {
          operands = both_sources ts (done ++ u ∷ []) s.operands (Made s.count ∷ []) s.operand_types (u ∷ []) (later_sources ts done (u ∷ []) s.operands s.operand_types st.operands)
              (one_source ts (done ++ u ∷ []) (Made s.count) u (ap (λ n. at_place n (done ++ u ∷ [])) (none_more s.count) ∙ at_right 0 s.count done (u ∷ []) st.count));
          made = later_sources ts done (u ∷ []) s.made s.made_types st.made;
          count = omega (arith, length_joined done (u ∷ []), st.count);
          last = wanted_none want s.made (s.count + 1) m;
        })
        m mt (λ s2 done2 r2 st2 p. ends s2 done2 r2 st2 (p ∙ joined_twice s.operand_types (u ∷ []) (map (changed change) left) ∙ ap (λ c. s.operand_types ++ or_same t c ∷ map (changed change) left) (sym is))) a.first in
        let step : TypedStep Fit ts done (cast (Operand k) u) = record { types = t ∷ []; are = one_source ts done (Operand k) t here_type; fits = (casts.0 u is).0 } in
        subst (λ w. TypedRest Fit ts done outs w) (some_same (with_step (cast (Operand k) u) rest) r a.rest)
        (front_typed Fit ts done outs (cast (Operand k) u ∷ []) rest (step, tt) behind)
      where
        none_more : (c : ℕ) → c ≡ c + 0
        none_more c = omega arith

-- Casts behind

give_typed : (Fit : Shape → Type 0) (change : PlainType → Option PlainType) (ts done : List PlainType) (t : PlainType) (v : Source) (n : ℕ) → source_type ts done v ≡ Some (changed change t) → length done ≡ n
    → IsMade v n → CastsFit Fit change t → TypedRest Fit ts done (t ∷ []) (give_results change (t ∷ []) (v ∷ []) n)
give_typed Fit change ts done t v n is count made casts = go (change t) refl
  where
    go : (c : Option PlainType) → change t ≡ c → TypedRest Fit ts done (t ∷ []) (give_one c v t (give_results change [] []) n)
    go None e = record {
      steps = tt;
      results_are = later_sources ts done [] (v ∷ []) (t ∷ []) (one_source ts done v t (is ∙ ap (λ c. Some (or_same t c)) e));
      at_end = subst (λ x. AtEnd (x ∷ []) (length (done ++ []))) (sym made.is) (omega (arith, made.last, count, ap (λ l. length l) (none_behind done)));
    }
    go (Some u) e = record {
      steps = (record { types = u ∷ []; are = one_source ts done v u (is ∙ ap (λ c. Some (or_same t c)) e); fits = (casts u e).1 }, tt);
      results_are = one_source ts (done ++ t ∷ []) (Made n) t (ap (λ m. at_place m (done ++ t ∷ [])) (none_more n) ∙ at_right 0 n done (t ∷ []) count);
      at_end = omega (arith, count, length_joined done (t ∷ []));
    }
      where
        none_more : (c : ℕ) → c ≡ c + 0
        none_more c = omega arith

-- A whole row

source_count : (ts us : List PlainType) (xs : List Source) (types : List PlainType) → source_types ts us xs ≡ Some types → length xs ≡ length types
source_count ts us [] types e = ap (λ l. length l) (some_same [] types e)
source_count ts us (x ∷ xs) types e =
    let p = and_parts (source_type ts us x) (source_types ts us xs) types e in
    omega (arith, source_count ts us xs p.tail p.rest, ap (λ l. length l) p.is)

-- results of a row that are none or the last value
row_results : (Fit : Shape → Type 0) (change : PlainType → Option PlainType) (ts done outs : List PlainType) (s : State) (sources : List Source) → Stands true ts done s → AtEnd sources (length s.made_types)
    → source_types s.operand_types s.made_types sources ≡ Some (map (changed change) outs) → AllOf (CastsFit Fit change) outs
    → TypedRest Fit ts done outs (give_results change outs (map (here s) sources) s.count)
row_results Fit change ts done [] s [] st at_end e casts = record { steps = tt; results_are = refl; at_end = tt }
row_results Fit change ts done (t ∷ outs) s [] st at_end e casts = absurd (omega (arith, ap (λ l. length l) (some_same [] (map (changed change) (t ∷ outs)) e)))
row_results Fit change ts done [] s (Made m ∷ []) st at_end e casts = absurd (omega (arith, source_count s.operand_types s.made_types (Made m ∷ []) [] e))
row_results Fit change ts done (t ∷ u ∷ outs) s (Made m ∷ []) st at_end e casts =
    absurd (omega (arith, source_count s.operand_types s.made_types (Made m ∷ []) (map (changed change) (t ∷ u ∷ outs)) e))
row_results Fit change ts done (t ∷ []) s (Made m ∷ []) st at_end e casts =
    let p = and_parts (source_type s.operand_types s.made_types (Made m)) (Some []) (changed change t ∷ []) e in
    give_typed Fit change ts done t (here s (Made m)) s.count
    (here_source ts done s st (Made m) (changed change t) (p.first ∙ ap (λ l. at_place 0 l) (sym p.is)))
    st.count (get_last s.made m s.count (Made m) (at_end ∙ sym (source_count ts done s.made s.made_types st.made)) st.last) casts.0
row_results Fit change ts done outs s (Operand k ∷ rs) st at_end e casts = absurd at_end
row_results Fit change ts done outs s (Made m ∷ r ∷ rs) st at_end e casts = absurd at_end

-- by a row's template
pub by_template_typed : (Fit : Shape → Type 0) (change : PlainType → Option PlainType) (leaves : Leaves) (o : Shape) (row t : Template) → LeavesTyped Fit leaves → RowTyped Fit change o row
    → AllOf (CastsFit Fit change) o.operands → AllOf (CastsFit Fit change) o.results → by_template change leaves o row ≡ Some t → Typed Fit o t
by_template_typed Fit change leaves o row t typed fits in_front behind e =
    take_typed Fit change true o.operands o.results (products leaves (λ s. Some (give_results change o.results (map (here s) row.results) s.count)) row.steps) 0 o.operands nothing_yet [] t
    (λ i u f. ap (λ n. at_place n o.operands) (none_first i) ∙ f) in_front
    (record { operands = refl; made = refl; count = refl; last = tt }) refl refl
    (λ s done r st p m mt f.
    products_typed Fit leaves true o.operands o.results (λ x. Some (give_results change o.results (map (here x) row.results) x.count)) row.steps s done r typed st
    (subst (λ l. TypedSteps Fit l s.made_types row.steps) (sym p) (subst (λ l. TypedSteps Fit (map (changed change) o.operands) l row.steps) (sym mt) fits.steps)) fits.ones
    (λ s2 done2 r2 st2 p2 mt2 f2.
    let types : s2.made_types ≡ made_types row.steps = mt2 ∙ ap (λ l. l ++ made_types row.steps) mt in
    subst (λ w. TypedRest Fit o.operands done2 o.results w) (some_same (give_results change o.results (map (here s2) row.results) s2.count) r2 f2)
    (row_results Fit change o.operands done2 o.results s2 row.results st2 (subst (λ l. AtEnd row.results (length l)) (sym types) fits.at_end)
    (ap (λ l. source_types l s2.made_types row.results) (p2 ∙ p) ∙ ap (λ l. source_types (map (changed change) o.operands) l row.results) types ∙ fits.results) behind))
    f)
    e
  where
    none_first : (i : ℕ) → 0 + i ≡ i
    none_first i = omega arith
