-- A pass of straight rows without block arguments keeps all rules.
use Rattle.std.proofs.Common.{◌≡◌, ℕ, Bool, true, false, List, [], ◌∷◌, Option, Some, None, refl, sym, ap, ◌∙◌, subst, inl, inr, true≢false}
use Rattle.std.specs.Prelude.{not, Ok, Err, if◌then◌else◌}
use Rattle.std.specs.Str.{bytes_eq}
use Rattle.std.proofs.lemmas.Slice.Eq.{bytes_eq-Decides}
use Rattle.plain_tree.specs.Types.{PlainType}
use Rattle.plain_tree.specs.Ops.{Kind, Op, op, Ops, end_of_ops, more_ops, Regions, end_of_regions, region, Blocks, end_of_blocks, block, Values}
use Rattle.plain_tree.specs.Values.{op_values, regions_values, types_of}
use Rattle.rule_model.specs.Words.{AllOf, has, numbers}
use Rattle.rule_model.specs.Facts.{Functions, Holder}
use Rattle.rule_model.specs.Formed.{are_formed_blocks, are_formed_ops, are_formed_regions, are_formed_values, are_once, is_formed_function, is_formed_here, is_formed_op, is_function_name, is_inner_name, own_labels, regions_labels}
use Rattle.rule_model.specs.Sites.{holds}
use Rattle.rule_model.proofs.Numbers.{and_first, and_second}
use Rattle.conversion_model.specs.Templates.{copy_name, Template, written}
use Rattle.conversion_model.specs.Targets.{demanded, Illegal, is_illegal_at, is_legal, Legal, operands_of, Partial, Shape, shape_of as of_shape, Unknown}
use Rattle.conversion_model.specs.Rows.{Pattern}
use Rattle.conversion_model.specs.Chosen.{chosen}
use Rattle.conversion_model.specs.Items.{held_regions, Ways, whole_regions}
use Rattle.conversion_model.specs.Uses.{copies_left_out, operations}
use Rattle.conversion_model.specs.Conversion.{choice_in, conv, converted, first_unlegalised, function_by, line_by, or_fails, Pass, regions_of, Supply, Unlegalised, ways}
use Rattle.conversion_model.specs.Fresh.{Fresh, IsOld, IsOldLabel}
use Rattle.conversion_model.specs.Counts.{DefinesOnce}
use Rattle.pattern_model.specs.OperationNames.{is_among, is_known}
use Rattle.pattern_model.specs.PassTable.{partial_pass, partial_target}
use Rattle.line_rules.specs.Lines.{HasValue, Line, LinedRegions, LineKeeps, Put, put_itself, put_line, Turn, TurnKeeps, operands_regions}
use Rattle.line_rules.specs.Fits.{Fits}
use Rattle.line_rules.specs.Kept.{KeptOp}
use Rattle.line_rules.proofs.Once.{once_defined, type_of_value, type_once, value_among, value_cases, value_left, value_right}
use Rattle.line_rules.proofs.LineLaws.{new_apart, new_unique}
use Rattle.line_rules.proofs.LinedScopes.{lined_defined}
use Rattle.line_rules.proofs.LinedChains.{lined_own}
use Rattle.line_rules.proofs.LinedItems.{whole_lined}
use Rattle.line_rules.proofs.PutAll.{put_regions}
use Rattle.line_rules.proofs.LinedValues.{regions_kept}
use Rattle.line_rules.proofs.LinedFormed.{lined_formed, regions_formed}
use Rattle.line_rules.proofs.LinedTests.{lined_tests}
use Rattle.line_rules.proofs.KeptSites.{Parts}
use Rattle.kept_rules.proofs.Modules.{Kept}
use Rattle.fitting_rows.specs.Typed.{TableTyped}
use Rattle.fitting_rows.proofs.ChosenFits.{few_results, own_fits}
use Rattle.fitting_rows.proofs.TypedChoice.{table_typed}
use Rattle.fitting_rows.proofs.WrittenGood.{Good, written_good}
use Rattle.fitting_rows.proofs.Uncut.{AllStraight, choice_uncut, if_uncut}
use Rattle.line_rules.proofs.Numbered.{numbered}
use Rattle.line_rules.proofs.NoCopies.{NoCopyBlocks, NoCopyOp, NoCopyOps, NoCopyRegions, none_left_out}
use Rattle.fitting_rows.proofs.SourceFits.{among_of, CalcName, GoodType, source_fits}
use Rattle.fitting_rows.proofs.GoodValues.{function_good}

-- An operation of a formed tree is no copy: its name is of bytes

no_copy_name : (name : List ℕ) → is_inner_name name ≡ true → bytes_eq name copy_name ≡ false
no_copy_name name e = go (bytes_eq name copy_name) refl
  where
    go : (b : Bool) → bytes_eq name copy_name ≡ b → b ≡ false
    go true same = absurd (true≢false (sym (subst (λ n. is_inner_name n ≡ true) ((bytes_eq-Decides name copy_name).0 same) e)))
    go false same = refl

mutual
  formed_op : (defined labels : List ℕ) (o : Op) → is_formed_op defined labels o ≡ true → NoCopyOp o
  formed_op defined labels (op k rs os r ls) e =
      (no_copy_name k.name (and_first (is_inner_name k.name) _ e), no_copy_regions defined r (and_second (is_formed_here defined labels k rs os ls) _ (and_second (is_inner_name k.name) _ e)))

  formed_ops : (defined labels : List ℕ) (os : Ops) → are_formed_ops defined labels os ≡ true → NoCopyOps os
  formed_ops defined labels end_of_ops e = tt
  formed_ops defined labels (more_ops o os) e = (formed_op defined labels o (and_first (is_formed_op defined labels o) _ e), formed_ops defined labels os (and_second (is_formed_op defined labels o) _ e))

  pub no_copy_regions : (defined : List ℕ) (rs : Regions) → are_formed_regions defined rs ≡ true → NoCopyRegions rs
  no_copy_regions defined end_of_regions e = tt
  no_copy_regions defined (region b r) e =
      (formed_blocks defined (own_labels b) b (and_first (are_formed_blocks defined (own_labels b) b) _ e), no_copy_regions defined r (and_second (are_formed_blocks defined (own_labels b) b) _ e))

  formed_blocks : (defined labels : List ℕ) (bs : Blocks) → are_formed_blocks defined labels bs ≡ true → NoCopyBlocks bs
  formed_blocks defined labels end_of_blocks e = tt
  formed_blocks defined labels (block l args ops b) e =
      let parts = and_second (are_formed_values args) _ e in
      (formed_ops defined labels ops (and_first (are_formed_ops defined labels ops) _ parts), formed_blocks defined labels b (and_second (are_formed_ops defined labels ops) _ parts))

-- What a partial target demands

demanded_among : (illegal : List (List ℕ)) (o : Shape) → is_illegal_at o (partial_target illegal [] o.name) ≡ true → is_among illegal o.name ≡ true
demanded_among illegal o e = go (is_among illegal o.name) refl e
  where
    known : (b : Bool) → is_illegal_at o (if b then Legal else Unknown) ≡ true → is_among illegal o.name ≡ true
    known true f = absurd (true≢false (sym f))
    known false f = absurd (true≢false (sym f))

    go : (b : Bool) → is_among illegal o.name ≡ b → is_illegal_at o (if b then Illegal else if is_known o.name then Legal else Unknown) ≡ true → b ≡ true
    go true is f = refl
    go false is f = absurd (true≢false (sym (sym is ∙ known (is_known o.name) f) ∙ refl))

not_demanded : (illegal : List (List ℕ)) (o : Shape) → is_among illegal o.name ≡ false → is_illegal_at o (partial_target illegal [] o.name) ≡ false
not_demanded illegal o e = go (is_illegal_at o (partial_target illegal [] o.name)) refl
  where
    go : (b : Bool) → is_illegal_at o (partial_target illegal [] o.name) ≡ b → b ≡ false
    go true f = absurd (true≢false (sym (demanded_among illegal o f) ∙ e))
    go false f = refl

module _ (bits : ℕ) (table : List Pattern) (illegal : List (List ℕ)) (typed : TableTyped Fits bits table) (straight : AllStraight bits table) (calc : AllOf CalcName illegal)
    (funcs : (name : List ℕ) → is_function_name name ≡ true → is_among illegal name ≡ false) where
  abbrev pass : Pass
  pass = partial_pass table illegal [] false

  module _ (new : Supply) (T : ℕ → PlainType) (at : ℕ → List ℕ) (was : List ℕ) (good : (x : ℕ) → has x was ≡ true → GoodType (T x)) where
    abbrev Lines : ℕ → Op → List Op → Type 0
    Lines n o l = Good (IsOld new) (new.value n 0) T o l × (at n ≡ operands_of o)

    abbrev Stays : ℕ → Op → Type 0
    Stays n o = Unit {0}

    abbrev NoTurns : ℕ → Op → List Op → Op → Type 0
    NoTurns n o l t = ⊥

    abbrev way : Ways
    way = ways pass bits new T

    uncut : (n : ℕ) (o : Op) → way.cuts n o ≡ None
    uncut n o = if_uncut (demanded Partial (partial_target illegal []) (of_shape T o)) (choice_in pass bits new T n o) (choice_uncut bits (partial_target illegal []) table (new.row n) T o straight)

    put_here : (c : Functions) (h : Option Holder) (bs : Blocks) (rest : Ops) (labels : List ℕ) (n : ℕ) (k : Kind) (rs : Values) (os ls : List ℕ) (r s : Regions) → at n ≡ os → KeptOp c T h bs rest (op k rs os r ls) → is_formed_op was labels (op k rs os r ls) ≡ true
        → Put Stays Lines NoTurns n (op k rs os r ls) (op k rs os s ls) (way.line (record { number = n; piece = 0; path = [] }) (of_shape T (op k rs os r ls)) (op k rs os s ls))
    put_here c h bs rest labels n k rs os ls r s is kept formed = by_demand (demanded Partial (partial_target illegal []) o) refl
      where
        o : Shape
        o = of_shape T (op k rs os r ls)

        leaves : Option Template
        leaves = chosen bits (partial_target illegal []) table [] o

        kept_op : Op
        kept_op = op k rs os s ls

        by_leaves : (t : Option Template) → chosen bits (partial_target illegal []) table [] (of_shape T (op k rs os r ls)) ≡ t → is_among illegal k.name ≡ true → Put Stays Lines NoTurns n (op k rs os r ls) (op k rs os s ls) (line_by (new.value n 0) (op k rs os s ls) t)
        by_leaves None e among = put_itself tt
        by_leaves (Some t) e among =
            let fits : Fits (of_shape T (op k rs os r ls)) = source_fits c T h bs rest was labels k rs os ls r (among_of CalcName illegal k.name calc among) kept.0 formed good in
            put_line (written (new.value n 0) rs os ls t [])
            (written_good (IsOld new) (new.value n 0) T k rs os ls r t (λ x j. new_apart new x n j) fits (table_typed Fits bits (partial_target illegal []) table [] few_results own_fits typed (of_shape T (op k rs os r ls)) t fits e), is)

        by_legal : (b : Bool) → is_among illegal k.name ≡ true
            → Put Stays Lines NoTurns n (op k rs os r ls) (op k rs os s ls) (if b then op k rs os s ls ∷ [] else line_by (new.value n 0) (op k rs os s ls) (chosen bits (partial_target illegal []) table [] (of_shape T (op k rs os r ls))))
        by_legal true among = put_itself tt
        by_legal false among = by_leaves (chosen bits (partial_target illegal []) table [] (of_shape T (op k rs os r ls))) refl among

        by_demand : (b : Bool) → demanded Partial (partial_target illegal []) (of_shape T (op k rs os r ls)) ≡ b
            → Put Stays Lines NoTurns n (op k rs os r ls) (op k rs os s ls)
            (if not b then op k rs os s ls ∷ [] else if is_legal (partial_target illegal []) (of_shape T (op k rs os r ls)) then op k rs os s ls ∷ []
            else line_by (new.value n 0) (op k rs os s ls) (chosen bits (partial_target illegal []) table [] (of_shape T (op k rs os r ls))))
        by_demand false e = put_itself tt
        by_demand true e = by_legal (is_legal (partial_target illegal []) (of_shape T (op k rs os r ls))) (demanded_among illegal (of_shape T (op k rs os r ls)) e)

  is_converted : (new : Supply) (f g : Op) → conv pass bits new f ≡ Ok g → converted pass bits new f ≡ g
  is_converted new f g e = go (first_unlegalised pass bits new (types_of f) (operations f)) e
    where
      go : (x : Option Unlegalised) → or_fails (converted pass bits new f) x ≡ Ok g → converted pass bits new f ≡ g
      go None h = ap (λ r. elim r as (λ x. Op) [ Ok a ↦ a | Err b ↦ f ]) h
      go (Some u) h = absurd (true≢false (sym (ap (λ r. elim r as (λ x. Bool) [ Ok a ↦ true | Err b ↦ false ]) h)))

  pub straight_kept : (new : Supply) (c : Functions) (f g : Op) → Fresh new f → is_formed_function f ≡ true → Parts c f → DefinesOnce g → conv pass bits new f ≡ Ok g → Kept c f g
  straight_kept new c (op k rs os r ls) g fresh e parts once_g conv_is =
      let f : Op = op k rs os r ls in
      let T : ℕ → PlainType = types_of f in
      let was : List ℕ = numbers (op_values f []) in
      let at : ℕ → List ℕ = operands_regions 1 r in
      let p1 = and_second (is_function_name k.name) _ e in
      let p2 = and_second (are_once was) _ p1 in
      let p3 = and_second (are_once (regions_labels r)) _ p2 in
      let own = and_first (is_formed_here was [] k rs os ls) _ p3 in
      let inside = and_second (is_formed_here was [] k rs os ls) _ p3 in
      let good : (x : ℕ) → has x was ≡ true → GoodType (T x) = λ x h. function_good c T was k rs os ls r x (T x) parts.tests own inside (type_of_value (op_values f []) x h) in
      let s : Regions = whole_regions (held_regions (ways pass bits new T) 1 r) in
      let h : Op = op k rs os s ls in
      let lined : LinedRegions (Stays new T at was good) (Lines new T at was good) (NoTurns new T at was good) 1 r s =
      whole_lined (way new T at was good) (Stays new T at was good) (Lines new T at was good) (NoTurns new T at was good) (uncut new T at was good) 1 r
      (put_regions (way new T at was good) (Stays new T at was good) (Lines new T at was good) (NoTurns new T at was good) (uncut new T at was good) T at was (put_here new T at was good) c (holds T f) 0 1 r (numbered 1 r) parts.tests.1 inside) in
      let line_of : (n : ℕ) (o : Op) (l : List Op) → Lines new T at was good n o l → Line (IsOld new) o l = λ n o l x. x.0.line in
      let turn_of : (n : ℕ) (o : Op) (l : List Op) (t : Op) → NoTurns new T at was good n o l t → Turn (IsOld new) o l t = λ n o l t x. absurd x in
      let keeps_of : (n : ℕ) (o : Op) (l : List Op) → Lines new T at was good n o l → LineKeeps o l = λ n o l x. x.0.keeps in
      let turn_keeps : (n : ℕ) (o : Op) (l : List Op) (t : Op) → NoTurns new T at was good n o l t → TurnKeeps o l t = λ n o l t x. absurd x in
      let kept : (x : ℕ) (t : PlainType) → HasValue x t (op_values f []) → HasValue x t (op_values h []) = λ x t v.
      elim (value_cases x t rs (regions_values r []) v) [
        | inl a ↦ value_left x t rs (regions_values s []) a
        | inr a ↦ value_right x t rs (regions_values s []) (regions_kept (Stays new T at was good) (Lines new T at was good) (NoTurns new T at was good) keeps_of turn_keeps x t [] [] lined (λ z. z) a)
      ] in
      let kept_number : (x : ℕ) → has x was ≡ true → has x (numbers (op_values h [])) ≡ true = λ x a. value_among (op_values h []) x (T x) (kept x (T x) (type_of_value (op_values f []) x a)) in
      let formed_inside : are_formed_regions (numbers (op_values h [])) s ≡ true =
      regions_formed (IsOld new) (Stays new T at was good) (Lines new T at was good) (NoTurns new T at was good) line_of turn_of keeps_of turn_keeps was (numbers (op_values h [])) [] lined kept_number
      (λ x t v. value_among (op_values h []) x t (value_right x t rs (regions_values s []) v)) inside in
      let whole : copies_left_out h ≡ h = none_left_out h (no_function_copy k.name (and_first (is_function_name k.name) _ e), no_copy_regions (numbers (op_values h [])) s formed_inside) in
      let same : g ≡ h = sym (is_converted new f g conv_is) ∙ ap copies_left_out (no_frame new f (is_illegal_at (of_shape T f) (partial_target illegal [] k.name)) (not_demanded illegal (of_shape T f) (funcs k.name (and_first (is_function_name k.name) _ e)))) ∙ whole in
      let once : DefinesOnce h = subst DefinesOnce same once_g in
      let agree : (x : ℕ) → has x was ≡ true → types_of h x ≡ T x = λ x a. type_once (op_values h []) x (T x) (once_defined h once) (kept x (T x) (type_of_value (op_values f []) x a)) in
      subst (Kept c f) (sym same) (record {
        formed = lined_formed (IsOld new) (Stays new T at was good) (Lines new T at was good) (NoTurns new T at was good) line_of turn_of keeps_of turn_keeps k rs os ls lined once e;
        parts = record {
          tests = lined_tests (IsOld new) T (types_of h) (Stays new T at was good) (Lines new T at was good) (NoTurns new T at was good) line_of keeps_of (λ n o l x. x.0.fits) (λ n o l t x. x) c k rs os ls was lined agree
              (λ x t v. type_once (op_values h []) x t (once_defined h once) (value_right x t rs (regions_values s []) v)) own inside parts.tests;
          scopes = lined_defined (IsOld new) (IsOldLabel new) (Stays new T at was good) (Lines new T at was good) (NoTurns new T at was good) line_of turn_of k rs os ls lined fresh.apart parts.scopes;
          none_own = lined_own f (IsOld new) (IsOldLabel new) (λ n j. new.value n 0 j) at (Stays new T at was good) (Lines new T at was good) (NoTurns new T at was good) (λ n o l x. x.0.ranks) (λ n o l x. x.1) (λ n o l t x. absurd x) (λ n o l t x. absurd x)
              k rs os ls refl lined fresh.apart (λ v n j old is. new_apart new v n j old is) (new_unique new f fresh) parts.none_own;
        };
        declared_same = refl;
      })
    where
      no_frame : (new2 : Supply) (f : Op) (b : Bool) → b ≡ false
          → function_by new2 f (if b then choice_in pass bits new2 (types_of f) 0 f else None) (held_regions (ways pass bits new2 (types_of f)) 1 (regions_of f))
          ≡ function_by new2 f None (held_regions (ways pass bits new2 (types_of f)) 1 (regions_of f))
      no_frame new2 f b e2 = ap (λ x. function_by new2 f (if x then choice_in pass bits new2 (types_of f) 0 f else None) (held_regions (ways pass bits new2 (types_of f)) 1 (regions_of f))) e2

      no_function_copy : (name : List ℕ) → is_function_name name ≡ true → bytes_eq name copy_name ≡ false
      no_function_copy name e2 = go (bytes_eq name copy_name) refl
        where
          go : (b : Bool) → bytes_eq name copy_name ≡ b → b ≡ false
          go true same = absurd (true≢false (sym (subst (λ n. is_function_name n ≡ true) ((bytes_eq-Decides name copy_name).0 same) e2)))
          go false same = refl
