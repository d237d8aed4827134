-- Casts in front of the leaves and behind them.
use Rattle.std.proofs.Common.{◌≡◌, ℕ, ◌+◌, List, [], ◌∷◌, ◌++◌, Option, Some, None, length, refl, sym, ap, ◌∙◌, subst, arith, append_assoc, append-nil}
use Rattle.std.specs.Prelude.{slice_get, codes}
use Rattle.plain_tree.specs.Types.{PlainType}
use Rattle.operation_model.specs.Values.{Value}
use Rattle.operation_model.specs.Pures.{Moves}
use Rattle.operation_model.specs.Doings.{Doing}
use Rattle.operation_model.specs.Forms.{Computes}
use Rattle.conversion_model.specs.declared.templates.Source.{Source}
use Rattle.conversion_model.specs.declared.templates.Source.TheVariants.{Operand, Made}
use Rattle.conversion_model.specs.Types.{or_same}
use Rattle.conversion_model.specs.Templates.{Step, Template}
use Rattle.conversion_model.specs.Chosen.{Ending, State, cast, give_one, give_results, take_one, take_operands, with_operand, with_step}
use Rattle.sound_model.specs.Runs.{form_at, item_of, items_of, operation_runs, steps_run, types_made}
use Rattle.sound_model.specs.Soundness.{all_changed}
use Rattle.chosen_laws.proofs.Lists.{and_both, both, get_at_end, get_behind, get_more, item_more, items_append, items_more, some_same}
use Rattle.chosen_laws.proofs.Derivations.{length_joined, parts, there}

-- a change of types whose casts there and back move a value
pub record Changes (bits : ℕ) (change : PlainType → Option PlainType) : Type 0 where
  pub forth : (t u : PlainType) → change t ≡ Some u → form_at bits (codes "builtin.unrealized_conversion_cast") [] (t ∷ []) (u ∷ []) ≡ Computes Moves
  pub back : (t u : PlainType) → change t ≡ Some u → form_at bits (codes "builtin.unrealized_conversion_cast") [] (u ∷ []) (t ∷ []) ≡ Computes Moves

nil_cons : {A : Type 0} {x : A} {xs : List A} → [] ≡ x ∷ xs → ⊥
nil_cons e = omega (arith, ap length e)

pub changed_joined : (change : PlainType → Option PlainType) (ts us : List PlainType) → all_changed change (ts ++ us) ≡ all_changed change ts ++ all_changed change us
changed_joined change [] us = refl
changed_joined change (t ∷ ts) us = ap (λ zs. or_same t (change t) ∷ zs) (changed_joined change ts us)

head_or : {A : Type 0} → A → List A → A
head_or a [] = a
head_or a (x ∷ xs) = x

tail_of : {A : Type 0} → List A → List A
tail_of [] = []
tail_of (x ∷ xs) = xs

heads : {A : Type 0} {x y : A} {xs ys : List A} → x ∷ xs ≡ y ∷ ys → x ≡ y
unfolding head_or
heads {x} e = ap (head_or x) e

tails : {A : Type 0} {x y : A} {xs ys : List A} → x ∷ xs ≡ y ∷ ys → xs ≡ ys
unfolding tail_of
tails e = ap tail_of e

module _ (bits : ℕ) (types : List PlainType) (args : List Value) (labels : List ℕ) where
  -- a cast moves its value
  pub cast_step : (value : Source) (t u : PlainType) (a : Value) (steps : List Step) (ts : List PlainType) (vs : List Value) (next : List Value → Doing)
      → form_at bits (codes "builtin.unrealized_conversion_cast") [] (t ∷ []) (u ∷ []) ≡ Computes Moves → item_of types ts value ≡ Some t → item_of args vs value ≡ Some a
      → steps_run bits types args labels (cast value u ∷ steps) ts vs next ≡ steps_run bits types args labels steps (ts ++ u ∷ []) (vs ++ a ∷ []) next
  cast_step value t u a steps ts vs next form e f =
      there _ (and_both {xs = items_of types ts []} e refl) ∙ there _ (and_both {xs = items_of args vs []} f refl)
      ∙ ap (λ g. operation_runs g (u ∷ []) [] (a ∷ []) (λ ys. steps_run bits types args labels steps (ts ++ u ∷ []) (vs ++ ys) next)) form

  module _ (change : PlainType → Option PlainType) (changes : Changes bits change) where
    -- what the results are, behind values that were made
    pub record Given (t : Template) (ts : List PlainType) (vs results : List Value) : Type 0 where
      pub more : List Value
      pub runs : (next : List Value → Doing) → steps_run bits types args labels t.steps ts vs next ≡ next (vs ++ more)
      pub items : items_of args (vs ++ more) t.results ≡ Some results

    give_next : (c : Option PlainType) (value : Source) (t : PlainType) (rest : ℕ → Template) (n : ℕ) (ts : List PlainType) (vs : List Value) (a : Value) (results : List Value)
        → change t ≡ c → item_of types ts value ≡ Some (or_same t c) → item_of args vs value ≡ Some a → length vs ≡ n
        → Given (rest n) ts vs results
        → ((u : PlainType) → c ≡ Some u → Given (rest (n + 1)) (ts ++ t ∷ []) (vs ++ a ∷ []) results)
        → Given (give_one c value t rest n) ts vs (a ∷ results)
    give_next None value t rest n ts vs a results is e f count same other = record {
      more = same.more;
      runs = same.runs;
      items = and_both (item_more args vs same.more value a f) same.items;
    }
    give_next (Some u) value t rest n ts vs a results is e f count same other =
        let g = other u refl in
        let joined : (vs ++ a ∷ []) ++ g.more ≡ vs ++ (a ∷ g.more) = append_assoc vs (a ∷ []) g.more in
        record {
          more = a ∷ g.more;
          runs = λ next. cast_step value u t a (rest (n + 1)).steps ts vs next (changes.back t u is) e f ∙ g.runs next ∙ ap next joined;
          items = subst (λ zs. items_of args zs (Made n ∷ (rest (n + 1)).results) ≡ Some (a ∷ results)) joined
              (and_both (get_more (vs ++ a ∷ []) g.more n a (get_at_end vs a n count)) g.items);
        }

    pub give_runs : (rts : List PlainType) (values : List Source) (n : ℕ) (ts : List PlainType) (vs results : List Value)
        → items_of types ts values ≡ Some (all_changed change rts) → items_of args vs values ≡ Some results → length ts ≡ n → length vs ≡ n
        → Given (give_results change rts values n) ts vs results
    give_runs [] [] n ts vs results e f ts_count vs_count = record {
      more = [];
      runs = λ next. ap next (sym (append-nil vs));
      items = f;
    }
    give_runs [] (v ∷ values) n ts vs results e f ts_count vs_count =
        let b = both (item_of types ts v) (items_of types ts values) [] e in absurd (nil_cons b.is)
    give_runs (t ∷ rts) [] n ts vs results e f ts_count vs_count = absurd (nil_cons (some_same e))
    give_runs (t ∷ rts) (v ∷ values) n ts vs results e f ts_count vs_count =
        let b = both (item_of types ts v) (items_of types ts values) (all_changed change (t ∷ rts)) e in
        let d = both (item_of args vs v) (items_of args vs values) results f in
        let rest_types : items_of types ts values ≡ Some (all_changed change rts) = b.rest_is ∙ ap Some (sym (tails b.is)) in
        subst (λ zs. Given (give_results change (t ∷ rts) (v ∷ values) n) ts vs zs) (sym d.is)
        (give_next (change t) v t (give_results change rts values) n ts vs d.first d.rest refl (b.first_is ∙ ap Some (sym (heads b.is))) d.first_is vs_count
        (give_runs rts values n ts vs d.rest rest_types d.rest_is ts_count vs_count)
        (λ u is. give_runs rts values (n + 1) (ts ++ t ∷ []) (vs ++ d.first ∷ []) d.rest (items_more types ts (t ∷ []) values (all_changed change rts) rest_types)
        (items_more args vs (d.first ∷ []) values d.rest d.rest_is) (length_joined ts (t ∷ []) ∙ omega (arith, ts_count)) (length_joined vs (d.first ∷ []) ∙ omega (arith, vs_count))))

    -- operands of which none is taken yet
    abbrev pub begun : List Source → List PlainType → ℕ → State
    begun sources ts n = record { operands = sources; operand_types = ts; made = []; made_types = []; count = n }

    module _ (C : List PlainType → List Value → Template → Type 0) (next : Ending)
        (C_step : (k : ℕ) (t u : PlainType) (a : Value) (rest : Template) (ts : List PlainType) (vs : List Value) → change t ≡ Some u → item_of types ts (Operand k) ≡ Some t → item_of args vs (Operand k) ≡ Some a
        → C (ts ++ u ∷ []) (vs ++ a ∷ []) rest → C ts vs (with_step (cast (Operand k) u) rest))
        (C_next : (sources : List Source) (n : ℕ) (rest : Template) (ts : List PlainType) (vs : List Value)
        → items_of types ts sources ≡ Some (all_changed change types) → items_of args vs sources ≡ Some args → length ts ≡ n → length vs ≡ n
        → next (begun sources (all_changed change types) n) ≡ Some rest → C ts vs rest) where
      take_next : (c : Option PlainType) (k : ℕ) (t : PlainType) (a : Value) (first : List PlainType) (front : List Value) (ending : Ending) (sources : List Source) (n : ℕ) (rest : Template) (ts : List PlainType) (vs : List Value)
          → change t ≡ c → item_of types ts (Operand k) ≡ Some t → item_of args vs (Operand k) ≡ Some a
          → items_of types ts sources ≡ Some (all_changed change first) → items_of args vs sources ≡ Some front → length ts ≡ n → length vs ≡ n
          → take_one c k t ending (begun sources (all_changed change first) n) ≡ Some rest
          → ((sources1 : List Source) (n1 : ℕ) (rest1 : Template) (ts1 : List PlainType) (vs1 : List Value)
          → items_of types ts1 sources1 ≡ Some (all_changed change (first ++ t ∷ [])) → items_of args vs1 sources1 ≡ Some (front ++ a ∷ []) → length ts1 ≡ n1 → length vs1 ≡ n1
          → ending (begun sources1 (all_changed change (first ++ t ∷ [])) n1) ≡ Some rest1 → C ts1 vs1 rest1)
          → C ts vs rest
      take_next None k t a first front ending sources n rest ts vs is e f types_are values_are ts_count vs_count rest_is again =
          let joined : all_changed change first ++ t ∷ [] ≡ all_changed change (first ++ t ∷ []) = sym (changed_joined change first (t ∷ []) ∙ ap (λ c. all_changed change first ++ or_same t c ∷ []) is) in
          again (sources ++ Operand k ∷ []) (n + 0) rest ts vs
          (items_append types ts sources (Operand k ∷ []) (all_changed change first) (t ∷ []) types_are (and_both {xs = items_of types ts []} e refl) ∙ ap Some joined)
          (items_append args vs sources (Operand k ∷ []) front (a ∷ []) values_are (and_both {xs = items_of args vs []} f refl))
          (omega (arith, ts_count)) (omega (arith, vs_count))
          (ap (λ us. ending (begun (sources ++ Operand k ∷ []) us (n + 0))) (sym joined) ∙ rest_is)
      take_next (Some u) k t a first front ending sources n rest ts vs is e f types_are values_are ts_count vs_count rest_is again =
          let p = parts (ending (with_operand (Made n) u 1 (begun sources (all_changed change first) n))) _ rest rest_is in
          let joined : all_changed change first ++ u ∷ [] ≡ all_changed change (first ++ t ∷ []) = sym (changed_joined change first (t ∷ []) ∙ ap (λ c. all_changed change first ++ or_same t c ∷ []) is) in
          subst (C ts vs) (some_same p.rest)
          (C_step k t u a p.value ts vs is e f
          (again (sources ++ Made n ∷ []) (n + 1) p.value (ts ++ u ∷ []) (vs ++ a ∷ [])
          (items_append types (ts ++ u ∷ []) sources (Made n ∷ []) (all_changed change first) (u ∷ []) (items_more types ts (u ∷ []) sources (all_changed change first) types_are)
          (and_both {xs = items_of types (ts ++ u ∷ []) []} (get_at_end ts u n ts_count) refl) ∙ ap Some joined)
          (items_append args (vs ++ a ∷ []) sources (Made n ∷ []) front (a ∷ []) (items_more args vs (a ∷ []) sources front values_are)
          (and_both {xs = items_of args (vs ++ a ∷ []) []} (get_at_end vs a n vs_count) refl))
          (length_joined ts (u ∷ []) ∙ omega (arith, ts_count)) (length_joined vs (a ∷ []) ∙ omega (arith, vs_count))
          (ap (λ us. ending (begun (sources ++ Made n ∷ []) us (n + 1))) (sym joined) ∙ p.is)))

      pub take_holds : (us first : List PlainType) (left front : List Value) (k : ℕ) (sources : List Source) (n : ℕ) (rest : Template) (ts : List PlainType) (vs : List Value)
          → first ++ us ≡ types → front ++ left ≡ args → length first ≡ k → length front ≡ k → length left ≡ length us
          → items_of types ts sources ≡ Some (all_changed change first) → items_of args vs sources ≡ Some front → length ts ≡ n → length vs ≡ n
          → take_operands change next k us (begun sources (all_changed change first) n) ≡ Some rest → C ts vs rest
      take_holds [] first [] front k sources n rest ts vs is is_args count front_count lefts e f ts_count vs_count rest_is =
          let first_is : first ≡ types = sym (append-nil first) ∙ is in
          let front_is : front ≡ args = sym (append-nil front) ∙ is_args in
          C_next sources n rest ts vs (e ∙ ap (λ us. Some (all_changed change us)) first_is) (f ∙ ap Some front_is) ts_count vs_count
          (ap (λ us. next (begun sources (all_changed change us) n)) (sym first_is) ∙ rest_is)
      take_holds [] first (a ∷ left) front k sources n rest ts vs is is_args count front_count lefts e f ts_count vs_count rest_is = absurd (omega (arith, lefts))
      take_holds (t ∷ us) first [] front k sources n rest ts vs is is_args count front_count lefts e f ts_count vs_count rest_is = absurd (omega (arith, lefts))
      take_holds (t ∷ us) first (a ∷ left) front k sources n rest ts vs is is_args count front_count lefts e f ts_count vs_count rest_is =
          take_next (change t) k t a first front (take_operands change next (k + 1) us) sources n rest ts vs refl
          (subst (λ zs. slice_get zs k ≡ Some t) is (ap (slice_get (first ++ t ∷ us)) (omega (arith, count)) ∙ get_behind first (t ∷ us) 0))
          (subst (λ zs. slice_get zs k ≡ Some a) is_args (ap (slice_get (front ++ a ∷ left)) (omega (arith, front_count)) ∙ get_behind front (a ∷ left) 0))
          e f ts_count vs_count rest_is
          (λ sources1 n1 rest1 ts1 vs1 e1 f1 ts1_count vs1_count rest1_is.
          take_holds us (first ++ t ∷ []) left (front ++ a ∷ []) (k + 1) sources1 n1 rest1 ts1 vs1 (append_assoc first (t ∷ []) us ∙ is) (append_assoc front (a ∷ []) left ∙ is_args)
          (length_joined first (t ∷ []) ∙ omega (arith, count)) (length_joined front (a ∷ []) ∙ omega (arith, front_count)) (omega (arith, lefts)) e1 f1 ts1_count vs1_count rest1_is)

-- Types of results behind their casts
give_types_next : (change : PlainType → Option PlainType) (types : List PlainType) (c : Option PlainType) (value : Source) (t : PlainType) (rest : ℕ → Template) (n : ℕ) (ts results : List PlainType)
    → change t ≡ c → item_of types ts value ≡ Some (or_same t c) → length ts ≡ n
    → items_of types (ts ++ types_made (rest n).steps) (rest n).results ≡ Some results
    → items_of types ((ts ++ t ∷ []) ++ types_made (rest (n + 1)).steps) (rest (n + 1)).results ≡ Some results
    → items_of types (ts ++ types_made (give_one c value t rest n).steps) (give_one c value t rest n).results ≡ Some (t ∷ results)
give_types_next change types None value t rest n ts results is e count same other = and_both (item_more types ts (types_made (rest n).steps) value t e) same
give_types_next change types (Some u) value t rest n ts results is e count same other =
    subst (λ zs. items_of types zs (Made n ∷ (rest (n + 1)).results) ≡ Some (t ∷ results)) (append_assoc ts (t ∷ []) (types_made (rest (n + 1)).steps))
    (and_both (get_more (ts ++ t ∷ []) (types_made (rest (n + 1)).steps) n t (get_at_end ts t n count)) other)

pub give_types : (change : PlainType → Option PlainType) (types rts : List PlainType) (values : List Source) (n : ℕ) (ts : List PlainType)
    → items_of types ts values ≡ Some (all_changed change rts) → length ts ≡ n
    → items_of types (ts ++ types_made (give_results change rts values n).steps) (give_results change rts values n).results ≡ Some rts
give_types change types [] [] n ts e count = refl
give_types change types [] (v ∷ values) n ts e count = let b = both (item_of types ts v) (items_of types ts values) [] e in absurd (nil_cons b.is)
give_types change types (t ∷ rts) [] n ts e count = absurd (nil_cons (some_same e))
give_types change types (t ∷ rts) (v ∷ values) n ts e count =
    let b = both (item_of types ts v) (items_of types ts values) (all_changed change (t ∷ rts)) e in
    let rest_types : items_of types ts values ≡ Some (all_changed change rts) = b.rest_is ∙ ap Some (sym (tails b.is)) in
    give_types_next change types (change t) v t (give_results change rts values) n ts rts refl (b.first_is ∙ ap Some (sym (heads b.is))) count
    (give_types change types rts values n ts rest_types count)
    (give_types change types rts values (n + 1) (ts ++ t ∷ []) (items_more types ts (t ∷ []) values (all_changed change rts) rest_types) (length_joined ts (t ∷ []) ∙ omega (arith, count)))
