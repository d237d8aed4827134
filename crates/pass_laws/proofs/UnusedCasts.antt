-- Casts without uses may be left out.
use Rattle.std.proofs.Common.{◌≡◌, ◌⊎◌, inl, inr, ℕ, zero, suc, ◌+◌, ◌==◌, Bool, true, false, List, [], ◌∷◌, ◌++◌, Some, None, map, refl, sym, ap, ◌∙◌, subst, true≢false, append_assoc}
use Rattle.std.specs.Prelude.{codes, not, ◌&&◌, ◌||◌, if◌then◌else◌}
use Rattle.std.specs.List.{list_any, list_all}
use Rattle.std.proofs.lemmas.Bool.{eqb-true}
use Rattle.std.proofs.lemmas.Slice.Eq.{bytes_eq-Decides}
use Rattle.operation_model.specs.Values.{Value}
use Rattle.operation_model.specs.Pures.{Moves}
use Rattle.operation_model.specs.Forms.{Form, Computes, Unknown}
use Rattle.operation_model.specs.Straight.{does}
use Rattle.form_model.specs.Codes.{Env, lookup, lookups, bind}
use Rattle.form_model.specs.Codes as code
use Rattle.form_model.specs.Types.{become_same}
use Rattle.form_model.specs.Classes.{form_of}
use Rattle.plain_tree.specs.Types.{PlainType, type_tree}
use Rattle.plain_tree.specs.Attrs.{Entries, entries_tree}
use Rattle.plain_tree.specs.Ops.{Kind, Op, op, Ops, end_of_ops, more_ops, Regions, end_of_regions, region, Blocks, end_of_blocks, block, Values}
use Rattle.plain_tree.specs.Values.{op_values, ops_values, regions_values, blocks_values, type_in, types_of}
use Rattle.conversion_model.specs.Targets.{operands_of}
use Rattle.conversion_model.specs.Counts.{none}
use Rattle.conversion_model.specs.Reconciled.{is_cast, is_used, is_unused_cast, results_of, unused_left_out}
use Rattle.conversion_model.specs.Items.{op_size, ops_size, blocks_size}
use Rattle.conversion_model.specs.Uses.{op_listed, ops_listed, regions_listed, blocks_listed, op_without, ops_without, regions_without, blocks_without}
use Rattle.rule_model.specs.Words.{has}
use Rattle.sound_model.specs.Runs.{form_at}
use Rattle.code_laws.specs.PlainCodes.{blocks_codes, numbers_in, op_codes, ops_codes, regions_codes, types_in}
use Rattle.sim_laws.proofs.Lines.{Ended, IsStructured}
use Rattle.sim_laws.proofs.Local.{Agree, Computing, Each, Meets, SameBlocks, SameEntry, SameOps, SameRegions, keeps, restores_itself, same_block, same_blocks_end, same_end, same_entry, same_entry_end, same_region, same_regions_end, swaps}
use Rattle.chosen_laws.proofs.Lists.{none_some, some_same}
use Rattle.conversion_laws.proofs.Names.{has_rest}
use Rattle.conversion_model.proofs.ReconcileLaws.{same_number}
use Rattle.conversion_model.specs.Uses.{operations}
use Rattle.plain_tree.specs.Ops.{PlainModule, module_tree}
use Rattle.form_model.specs.Decoding.{functions_of}
use Rattle.sound_model.specs.Agreement.{AgreeFunctions, AgreesS}
use Rattle.sound_model.proofs.Agreeing.{agreements_join, agrees_with_itself}
use Rattle.code_laws.specs.PlainCodes.{first_region, plain_function, plain_functions}
use Rattle.code_laws.proofs.SameCodes.{same_codes}
use Rattle.sim_laws.proofs.Changed.{FunctionsChanged, changed_agree, ended_functions}
use Rattle.rule_model.specs.Facts.{Functions, functions}
use Rattle.rule_model.specs.Formed.{are_formed_entries, is_formed_function, is_function_name}
use Rattle.rule_model.specs.Rules.{SoundFrom, SoundFunction}
use Rattle.conversion_laws.specs.PlainRows.{AllOf}
use Rattle.pass_laws.specs.Promises.{UnusedCastsKeep, UnusedLeftOut, as_it_is, none_left, with_functions, without_casts}
use Rattle.pass_laws.proofs.Sites.{BlocksFit, OpFit, OpsFit, RegionsFit, op_fit}
use Rattle.pass_laws.proofs.Functions.{first_same, put_stays, with_changed}
use Rattle.pass_laws.proofs.Counted.{and_left, and_right}

-- A cast moves its value or has no meaning

pub cast_form : (bits : ℕ) (props : Entries) (ts us : List PlainType) → (form_at bits (codes "builtin.unrealized_conversion_cast") props ts us ≡ Computes Moves) ⊎ (form_at bits (codes "builtin.unrealized_conversion_cast") props ts us ≡ Unknown)
unfolding form_of
cast_form bits props (t ∷ []) (u ∷ []) = go (become_same bits (type_tree t) (type_tree u)) refl
  where
    go : (b : Bool) → become_same bits (type_tree t) (type_tree u) ≡ b
        → (form_at bits (codes "builtin.unrealized_conversion_cast") props (t ∷ []) (u ∷ []) ≡ Computes Moves) ⊎ (form_at bits (codes "builtin.unrealized_conversion_cast") props (t ∷ []) (u ∷ []) ≡ Unknown)
    go true is = inl (rw is refl)
    go false is = inr (rw is refl)
cast_form bits props [] us = inr refl
cast_form bits props (t ∷ s ∷ ts) us = inr refl
cast_form bits props (t ∷ []) [] = inr refl
cast_form bits props (t ∷ []) (u ∷ v ∷ us) = inr refl

pub bound_over : (rs : List ℕ) (ys : List Value) (env e : Env) (n : ℕ) → bind rs ys env ≡ Some e → has n rs ≡ false → lookup n env ≡ lookup n e
bound_over [] [] env e n is apart = ap (lookup n) (some_same is)
bound_over [] (y ∷ ys) env e n is apart = absurd (none_some is)
bound_over (r ∷ rs) [] env e n is apart = absurd (none_some is)
bound_over (r ∷ rs) (y ∷ ys) env e n is apart =
    let h = has_rest r n rs apart in sym (ap (λ b. if b then Some y else lookup n env) h.0) ∙ bound_over rs ys ((r, y) ∷ env) e n is h.1

-- nothing in its place does what it does, but for its results
moves_meets : (P : ℕ → Type 0) (rs ls : List ℕ) (env env' : Env) (vs : List Value) → ((n : ℕ) → P n → has n rs ≡ false) → Agree P env env' → Meets P rs env (does (Computes Moves) ls vs) (Ended env')
moves_meets P rs ls env env' [] unused agree = tt
moves_meets P rs ls env env' (x ∷ []) unused agree = λ e is. (env', refl, λ n old. sym (bound_over rs (x ∷ []) env e n is (unused n old)) ∙ agree n old)
moves_meets P rs ls env env' (x ∷ y ∷ vs) unused agree = tt

cast_computes : (P : ℕ → Type 0) (form : Form) (rs os ls : List ℕ) → ((n : ℕ) → P n → has n rs ≡ false) → (form ≡ Computes Moves) ⊎ (form ≡ Unknown) → Computing P form rs os ls []
cast_computes P form rs os ls unused (inl is) env env' vs agree found = subst (λ f. Meets P rs env (does f ls vs) (Ended env')) (sym is) (moves_meets P rs ls env env' vs unused agree)
cast_computes P form rs os ls unused (inr is) env env' vs agree found = subst (λ f. Meets P rs env (does f ls vs) (Ended env')) (sym is) tt

cast_straight : (form : Form) → (form ≡ Computes Moves) ⊎ (form ≡ Unknown) → IsStructured form → ⊥
cast_straight form (inl is) s = subst IsStructured is s
cast_straight form (inr is) s = subst IsStructured is s

-- What is asked of the source

module _ (used : ℕ → Bool) where
  abbrev pub Used : ℕ → Type 0
  Used n = used n ≡ true

  abbrev mutual
    -- each operand counts as used, and no cast has regions
    pub OpReady : Op → Type 0
    OpReady (op k results operands regions successors) = Each Used operands × (is_cast (op k results operands regions successors) ≡ true → regions ≡ end_of_regions) × RegionsReady regions

    pub OpsReady : Ops → Type 0
    OpsReady end_of_ops = Unit {0}
    OpsReady (more_ops o os) = OpReady o × OpsReady os

    pub RegionsReady : Regions → Type 0
    RegionsReady end_of_regions = Unit {0}
    RegionsReady (region blocks more) = BlocksReady blocks × RegionsReady more

    pub BlocksReady : Blocks → Type 0
    BlocksReady end_of_blocks = Unit {0}
    BlocksReady (block label args ops more) = OpsReady ops × BlocksReady more

  -- what may be left out: casts none of whose results is used
  abbrev pub Fair : (Op → Bool) → Type 0
  Fair test = (o : Op) → test o ≡ true → (is_cast o ≡ true) × ((n : ℕ) → Used n → has n (numbers_in (results_of o)) ≡ false)

  -- each of them
  abbrev pub unused_cast : Op → Bool
  unused_cast o = is_cast o && not (list_any (λ r. used r.0) (results_of o))

  none_used : (rs : Values) → list_any (λ r. used r.0) rs ≡ false → (n : ℕ) → Used n → has n (numbers_in rs) ≡ false
  none_used [] h n u = refl
  none_used (r ∷ rs) h n u = go (r.0 == n) refl (used r.0) refl h (none_used rs)
    where
      go : (b : Bool) → (r.0 == n) ≡ b → (c : Bool) → used r.0 ≡ c → (c || list_any (λ q. used q.0) rs) ≡ false → (list_any (λ q. used q.0) rs ≡ false → (m : ℕ) → Used m → has m (numbers_in rs) ≡ false) → (b || has n (numbers_in rs)) ≡ false
      go b is true used_is none again = absurd (true≢false none)
      go true is false used_is none again = absurd (true≢false (sym u ∙ ap used (sym (eqb-true r.0 n is)) ∙ used_is))
      go false is false used_is none again = again none n u

  not_true : (a : Bool) → not a ≡ true → a ≡ false
  not_true true h = absurd (true≢false (sym h))
  not_true false h = refl

  -- the results of what is left out aren't used
  results_unused : (k : Kind) (rs : Values) (os : List ℕ) (regions : Regions) (ls : List ℕ) → unused_cast (op k rs os regions ls) ≡ true → (n : ℕ) → Used n → has n (numbers_in rs) ≡ false
  results_unused k rs os regions ls h = none_used rs (not_true (list_any (λ r. used r.0) rs) (and_right (is_cast (op k rs os regions ls)) _ h))

  pub fair_unused : Fair unused_cast
  fair_unused (op k rs os regions ls) h = (and_left (is_cast (op k rs os regions ls)) _ h, results_unused k rs os regions ls h)

  -- What is left where some are

  module _ (left_out : Op → Bool) (fair : Fair left_out) where
    module _ (bits : ℕ) (ty ty' : ℕ → PlainType) (agree : (v : ℕ) → Used v → ty' v ≡ ty v) where
      operands_same : (os : List ℕ) → Each Used os → map ty' os ≡ map ty os
      operands_same [] each = refl
      operands_same (o ∷ os) each = ap (λ t. t ∷ map ty' os) (agree o each.0) ∙ ap (λ ts. ty o ∷ ts) (operands_same os each.1)

      mutual
        op_left : (o : Op) (rest : Ops) → OpReady o → (b : Bool) → left_out o ≡ b → (more more' : code.Ops) → SameOps Used more more'
            → SameOps Used (op_codes bits ty o more) (if b then more' else op_codes bits ty' (op_without left_out o) more')
        op_left (op k rs os regions ls) rest ready true is more more' same =
            let form = cast_form bits k.props (map ty os) (types_in rs) in
            let name = (bytes_eq-Decides k.name (codes "builtin.unrealized_conversion_cast")).0 (fair (op k rs os regions ls) is).0 in
            let forms = subst (λ n. (form_at bits n k.props (map ty os) (types_in rs) ≡ Computes Moves) ⊎ (form_at bits n k.props (map ty os) (types_in rs) ≡ Unknown)) (sym name) form in
            swaps [] (cast_straight (form_at bits k.name k.props (map ty os) (types_in rs)) forms)
            (cast_computes Used (form_at bits k.name k.props (map ty os) (types_in rs)) (numbers_in rs) os ls (fair (op k rs os regions ls) is).1 forms) same
        op_left (op k rs os regions ls) rest ready false is more more' same =
            subst (λ ts. SameOps Used (code.Op (form_at bits k.name k.props ts (types_in rs)) (numbers_in rs) os ls (regions_codes bits ty regions) more)
            (code.Op (form_at bits k.name k.props (map ty' os) (types_in rs)) (numbers_in rs) os ls (regions_codes bits ty' (regions_without left_out regions)) more')) (operands_same os ready.0)
            (keeps ready.0 (regions_left regions ready.2) same)

        ops_left : (os : Ops) → OpsReady os → SameOps Used (ops_codes bits ty os) (ops_codes bits ty' (ops_without left_out os))
        ops_left end_of_ops ready = same_end
        ops_left (more_ops o os) ready = by_test (left_out o) (op_left o os ready.0 (left_out o) refl (ops_codes bits ty os) (ops_codes bits ty' (ops_without left_out os)) (ops_left os ready.1))
          where
            by_test : (b : Bool) → SameOps Used (op_codes bits ty o (ops_codes bits ty os)) (if b then ops_codes bits ty' (ops_without left_out os) else op_codes bits ty' (op_without left_out o) (ops_codes bits ty' (ops_without left_out os)))
                → SameOps Used (op_codes bits ty o (ops_codes bits ty os)) (ops_codes bits ty' (if b then ops_without left_out os else more_ops (op_without left_out o) (ops_without left_out os)))
            by_test true h = h
            by_test false h = h

        pub regions_left : (rs : Regions) → RegionsReady rs → SameRegions Used (regions_codes bits ty rs) (regions_codes bits ty' (regions_without left_out rs))
        regions_left end_of_regions ready = same_regions_end
        regions_left (region blocks more) ready = same_region (entry_left blocks ready.0) (regions_left more ready.1)

        entry_left : (bs : Blocks) → BlocksReady bs → SameEntry Used (blocks_codes bits ty bs) (blocks_codes bits ty' (blocks_without left_out bs))
        entry_left end_of_blocks ready = same_entry_end
        entry_left (block label args ops more) ready = same_entry (ops_left ops ready.0) (blocks_left more ready.1)

        blocks_left : (bs : Blocks) → BlocksReady bs → SameBlocks Used (blocks_codes bits ty bs) (blocks_codes bits ty' (blocks_without left_out bs))
        blocks_left end_of_blocks ready = same_blocks_end
        blocks_left (block label args ops more) ready = same_block [] (restores_itself Used (numbers_in args)) (ops_left ops ready.0) (blocks_left more ready.1)

    -- Types stay where they are used

    type_over : (rs more : Values) (v : ℕ) → has v (numbers_in rs) ≡ false → type_in (rs ++ more) v ≡ type_in more v
    type_over [] more v apart = refl
    type_over (r ∷ rs) more v apart = let h = has_rest r.0 v (numbers_in rs) apart in ap (λ b. if b then r.1 else type_in (rs ++ more) v) h.0 ∙ type_over rs more v h.1

    type_front : (rs more more' : Values) (v : ℕ) → type_in more' v ≡ type_in more v → type_in (rs ++ more') v ≡ type_in (rs ++ more) v
    type_front [] more more' v same = same
    type_front (r ∷ rs) more more' v same = ap (λ t. if r.0 == v then r.1 else t) (type_front rs more more' v same)

    by_test : (o : Op) (os : Ops) (more more' : Values) (v : ℕ) → Used v → OpReady o → (b : Bool) → left_out o ≡ b
        → type_in (ops_values (ops_without left_out os) more') v ≡ type_in (ops_values os more) v
        → ((x x' : Values) → type_in x' v ≡ type_in x v → type_in (op_values (op_without left_out o) x') v ≡ type_in (op_values o x) v)
        → type_in (ops_values (if b then ops_without left_out os else more_ops (op_without left_out o) (ops_without left_out os)) more') v ≡ type_in (op_values o (ops_values os more)) v
    by_test (op k rs os1 regions ls) os more more' v u ready true is rest kept =
        rest
        ∙ sym (ap (λ r. type_in (rs ++ regions_values r (ops_values os more)) v) (ready.1 (fair (op k rs os1 regions ls) is).0) ∙ type_over rs (ops_values os more) v ((fair (op k rs os1 regions ls) is).1 v u))
    by_test o os more more' v u ready false is rest kept = kept (ops_values os more) (ops_values (ops_without left_out os) more') rest

    mutual
      op_types : (o : Op) (more more' : Values) (v : ℕ) → Used v → OpReady o → type_in more' v ≡ type_in more v → type_in (op_values (op_without left_out o) more') v ≡ type_in (op_values o more) v
      op_types (op k rs os regions ls) more more' v u ready same = type_front rs (regions_values regions more) (regions_values (regions_without left_out regions) more') v (regions_types regions more more' v u ready.2 same)

      ops_types : (os : Ops) (more more' : Values) (v : ℕ) → Used v → OpsReady os → type_in more' v ≡ type_in more v → type_in (ops_values (ops_without left_out os) more') v ≡ type_in (ops_values os more) v
      ops_types end_of_ops more more' v u ready same = same
      ops_types (more_ops o os) more more' v u ready same =
          by_test o os more more' v u ready.0 (left_out o) refl (ops_types os more more' v u ready.1 same) (λ x x' is. op_types o x x' v u ready.0 is)

      regions_types : (rs : Regions) (more more' : Values) (v : ℕ) → Used v → RegionsReady rs → type_in more' v ≡ type_in more v → type_in (regions_values (regions_without left_out rs) more') v ≡ type_in (regions_values rs more) v
      regions_types end_of_regions more more' v u ready same = same
      regions_types (region blocks rest) more more' v u ready same =
          blocks_types blocks (regions_values rest more) (regions_values (regions_without left_out rest) more') v u ready.0 (regions_types rest more more' v u ready.1 same)

      blocks_types : (bs : Blocks) (more more' : Values) (v : ℕ) → Used v → BlocksReady bs → type_in more' v ≡ type_in more v → type_in (blocks_values (blocks_without left_out bs) more') v ≡ type_in (blocks_values bs more) v
      blocks_types end_of_blocks more more' v u ready same = same
      blocks_types (block label args ops rest) more more' v u ready same =
          type_front args (ops_values ops (blocks_values rest more)) (ops_values (ops_without left_out ops) (blocks_values (blocks_without left_out rest) more')) v
          (ops_types ops (blocks_values rest more) (blocks_values (blocks_without left_out rest) more') v u ready.0 (blocks_types rest more more' v u ready.1 same))

-- In a function each operand counts as used

abbrev uses : ℕ → ℕ × Op → Bool
uses v o = list_any (λ u. u == v) (operands_of o.1)

or_right : (a b : Bool) → b ≡ true → (a || b) ≡ true
or_right true b h = refl
or_right false b h = h

or_left : (a b : Bool) → a ≡ true → (a || b) ≡ true
or_left true b h = refl
or_left false b h = absurd (true≢false (sym h))

mutual
  op_later : (o : Op) (n v : ℕ) (more : List (ℕ × Op)) → list_any (uses v) more ≡ true → list_any (uses v) (op_listed n o more) ≡ true
  op_later (op k rs os regions ls) n v more h = or_right (uses v (n, op k rs os regions ls)) _ (regions_later regions (n + 1) v more h)

  ops_later : (os : Ops) (n v : ℕ) (more : List (ℕ × Op)) → list_any (uses v) more ≡ true → list_any (uses v) (ops_listed n os more) ≡ true
  ops_later end_of_ops n v more h = h
  ops_later (more_ops o os) n v more h = op_later o n v _ (ops_later os (n + op_size o) v more h)

  regions_later : (rs : Regions) (n v : ℕ) (more : List (ℕ × Op)) → list_any (uses v) more ≡ true → list_any (uses v) (regions_listed n rs more) ≡ true
  regions_later end_of_regions n v more h = h
  regions_later (region blocks rest) n v more h = blocks_later blocks n v _ (regions_later rest (n + blocks_size blocks) v more h)

  blocks_later : (bs : Blocks) (n v : ℕ) (more : List (ℕ × Op)) → list_any (uses v) more ≡ true → list_any (uses v) (blocks_listed n bs more) ≡ true
  blocks_later end_of_blocks n v more h = h
  blocks_later (block label args ops rest) n v more h = ops_later ops n v _ (blocks_later rest (n + ops_size ops) v more h)

-- no cast in a tree has regions
abbrev mutual
  pub OpCasts : Op → Type 0
  OpCasts (op k results operands regions successors) = (is_cast (op k results operands regions successors) ≡ true → regions ≡ end_of_regions) × RegionsCasts regions

  pub OpsCasts : Ops → Type 0
  OpsCasts end_of_ops = Unit {0}
  OpsCasts (more_ops o os) = OpCasts o × OpsCasts os

  pub RegionsCasts : Regions → Type 0
  RegionsCasts end_of_regions = Unit {0}
  RegionsCasts (region blocks more) = BlocksCasts blocks × RegionsCasts more

  pub BlocksCasts : Blocks → Type 0
  BlocksCasts end_of_blocks = Unit {0}
  BlocksCasts (block label args ops more) = OpsCasts ops × BlocksCasts more

module _ (used : ℕ → Bool) where
  operands_used : (os : List ℕ) → ((v : ℕ) → list_any (λ u. u == v) os ≡ true → used v ≡ true) → Each (λ n. used n ≡ true) os
  operands_used [] h = tt
  operands_used (o ∷ os) h = (h o (or_left (o == o) _ (same_number o o refl)), operands_used os (λ v u. h v (or_right (o == v) _ u)))

  mutual
    op_ready : (o : Op) (n : ℕ) (more : List (ℕ × Op)) → OpCasts o → ((v : ℕ) → list_any (uses v) (op_listed n o more) ≡ true → used v ≡ true) → OpReady used o
    op_ready (op k rs os regions ls) n more casts within = (
      operands_used os (λ v h. within v (or_left (uses v (n, op k rs os regions ls)) _ h)),
      casts.0,
      regions_ready regions (n + 1) more casts.1 (λ v h. within v (or_right (uses v (n, op k rs os regions ls)) _ h)),
    )

    ops_ready : (os : Ops) (n : ℕ) (more : List (ℕ × Op)) → OpsCasts os → ((v : ℕ) → list_any (uses v) (ops_listed n os more) ≡ true → used v ≡ true) → OpsReady used os
    ops_ready end_of_ops n more casts within = tt
    ops_ready (more_ops o os) n more casts within =
        (op_ready o n (ops_listed (n + op_size o) os more) casts.0 within, ops_ready os (n + op_size o) more casts.1 (λ v h. within v (op_later o n v _ h)))

    pub regions_ready : (rs : Regions) (n : ℕ) (more : List (ℕ × Op)) → RegionsCasts rs → ((v : ℕ) → list_any (uses v) (regions_listed n rs more) ≡ true → used v ≡ true) → RegionsReady used rs
    regions_ready end_of_regions n more casts within = tt
    regions_ready (region blocks rest) n more casts within =
        (blocks_ready blocks n (regions_listed (n + blocks_size blocks) rest more) casts.0 within, regions_ready rest (n + blocks_size blocks) more casts.1 (λ v h. within v (blocks_later blocks n v _ h)))

    blocks_ready : (bs : Blocks) (n : ℕ) (more : List (ℕ × Op)) → BlocksCasts bs → ((v : ℕ) → list_any (uses v) (blocks_listed n bs more) ≡ true → used v ≡ true) → BlocksReady used bs
    blocks_ready end_of_blocks n more casts within = tt
    blocks_ready (block label args ops rest) n more casts within =
        (ops_ready ops n (blocks_listed (n + ops_size ops) rest more) casts.0 within, blocks_ready rest (n + ops_size ops) more casts.1 (λ v h. within v (ops_later ops n v _ h)))

-- what is left has no cast with regions either
module _ (test : Op → Bool) where
  casts_by : (o : Op) (os : Ops) (b : Bool) → OpCasts (op_without test o) → OpsCasts (ops_without test os) → OpsCasts (if b then ops_without test os else more_ops (op_without test o) (ops_without test os))
  casts_by o os true x y = y
  casts_by o os false x y = (x, y)

  mutual
    op_casts : (o : Op) → OpCasts o → OpCasts (op_without test o)
    op_casts (op k rs os regions ls) casts = ((λ c. ap (regions_without test) (casts.0 c)), regions_casts regions casts.1)

    ops_casts : (os : Ops) → OpsCasts os → OpsCasts (ops_without test os)
    ops_casts end_of_ops casts = tt
    ops_casts (more_ops o os) casts = casts_by o os (test o) (op_casts o casts.0) (ops_casts os casts.1)

    pub regions_casts : (rs : Regions) → RegionsCasts rs → RegionsCasts (regions_without test rs)
    regions_casts end_of_regions casts = tt
    regions_casts (region blocks more) casts = (blocks_casts blocks casts.0, regions_casts more casts.1)

    blocks_casts : (bs : Blocks) → BlocksCasts bs → BlocksCasts (blocks_without test bs)
    blocks_casts end_of_blocks casts = tt
    blocks_casts (block label args ops more) casts = (ops_casts ops casts.0, blocks_casts more casts.1)

-- One round

abbrev pub CastsBare : Op → Type 0
CastsBare (op k results operands regions successors) = (is_cast (op k results operands regions successors) ≡ false) × RegionsCasts regions

module _ (bits : ℕ) (m : PlainModule) where
  -- a function may stand for another, between any others
  abbrev pub Keeps : Op → Op → Type 0
  Keeps f g = (front back : List Op) → AgreesS bits (with_functions m (front ++ f ∷ back)) (with_functions m (front ++ g ∷ back))

  all_stay : (fs : List Op) → FunctionsChanged (plain_functions bits fs) (plain_functions bits fs)
  all_stay [] = ended_functions
  all_stay (f ∷ fs) = put_stays (plain_function bits f) (plain_functions bits fs) (plain_functions bits fs) (all_stay fs)

  front_stays : (front fs gs : List Op) → FunctionsChanged (plain_functions bits fs) (plain_functions bits gs) → FunctionsChanged (plain_functions bits (front ++ fs)) (plain_functions bits (front ++ gs))
  front_stays [] fs gs h = h
  front_stays (f ∷ front) fs gs h = put_stays (plain_function bits f) (plain_functions bits (front ++ fs)) (plain_functions bits (front ++ gs)) (front_stays front fs gs h)

  agrees_by : (fs gs : List Op) → FunctionsChanged (plain_functions bits fs) (plain_functions bits gs) → AgreesS bits (with_functions m fs) (with_functions m gs)
  agrees_by fs gs h =
      subst (λ xs. AgreeFunctions xs (functions_of bits (module_tree (with_functions m gs)))) (sym (same_codes bits (with_functions m fs)))
      (subst (AgreeFunctions (plain_functions bits fs)) (sym (same_codes bits (with_functions m gs))) (changed_agree (plain_functions bits fs) (plain_functions bits gs) h))

  pub keeps_self : (f : Op) → Keeps f f
  keeps_self f front back = agrees_with_itself bits (with_functions m (front ++ f ∷ back))

  pub keeps_on : (f g h : Op) → Keeps f g → Keeps g h → Keeps f h
  keeps_on f g h a b front back = agreements_join bits (with_functions m (front ++ f ∷ back)) (with_functions m (front ++ g ∷ back)) (with_functions m (front ++ h ∷ back)) (a front back) (b front back)

  -- casts may be left out where none of their results is used
  module _ (used : ℕ → Bool) (test : Op → Bool) (fair : Fair used test) where
    pub cut_keeps : (k : Kind) (rs : Values) (os : List ℕ) (regions : Regions) (ls : List ℕ) → RegionsReady used regions → Keeps (op k rs os regions ls) (op_without test (op k rs os regions ls))
    cut_keeps k rs os regions ls ready front back =
        agrees_by (front ++ f ∷ back) (front ++ g ∷ back) (front_stays front (f ∷ back) (g ∷ back)
        (with_changed bits (first_region (regions_codes bits (types_of f) regions)) (first_region (regions_codes bits (types_of g) (regions_without test regions))) (Used used)
        (first_same (regions_left used test fair bits (types_of f) (types_of g) agree regions ready)) (plain_functions bits back) (plain_functions bits back) (all_stay back) (entries_tree k.props)))
      where
        f : Op
        f = op k rs os regions ls

        g : Op
        g = op_without test f

        agree : (v : ℕ) → Used used v → types_of g v ≡ types_of f v
        agree v u = type_front used test fair rs (regions_values regions []) (regions_values (regions_without test regions) []) v (regions_types used test fair regions [] [] v u ready refl)

  round_keeps : (f : Op) → CastsBare f → Keeps f (op_without (is_unused_cast (operations f)) f)
  round_keeps (op k rs os regions ls) casts =
      let f : Op = op k rs os regions ls in
      let used : ℕ → Bool = is_used (operations f) in
      cut_keeps used (is_unused_cast (operations f)) (fair_unused used) k rs os regions ls (regions_ready used regions 1 [] casts.1 (λ v h. or_right (uses v (0, f)) _ h))

  still_bare : (test : Op → Bool) (f : Op) → CastsBare f → CastsBare (op_without test f)
  still_bare test (op k rs os regions ls) casts = (casts.0, regions_casts test regions casts.1)

  -- Round after round
  pub rounds_keep : (room : ℕ) (f : Op) → CastsBare f → Keeps f (unused_left_out room f)
  rounds_keep zero f casts = keeps_self f
  rounds_keep (suc room) f casts =
      by_bool (list_any (λ o. is_unused_cast (operations f) o.1) (operations f))
      (keeps_on f (op_without (is_unused_cast (operations f)) f) _ (round_keeps f casts) (rounds_keep room (op_without (is_unused_cast (operations f)) f) (still_bare (is_unused_cast (operations f)) f casts)))
    where
      by_bool : (b : Bool) → Keeps f (unused_left_out room (op_without (is_unused_cast (operations f)) f)) → Keeps f (elim b [ false ↦ f | true ↦ unused_left_out room (op_without (is_unused_cast (operations f)) f) ])
      by_bool false h = keeps_self f
      by_bool true h = h

  -- Functions one after another
  walk : (front : List Op) {fs gs : List Op} → AllOf CastsBare fs → UnusedLeftOut fs gs → AgreesS bits (with_functions m (front ++ fs)) (with_functions m (front ++ gs))
  walk front all none_left = agrees_with_itself bits (with_functions m (front ++ []))
  walk front all (as_it_is {f = f} {fs = fs} {gs = gs} more) =
      subst (λ xs. AgreesS bits (with_functions m xs) (with_functions m (front ++ f ∷ gs))) (append_assoc front (f ∷ []) fs)
      (subst (λ ys. AgreesS bits (with_functions m ((front ++ f ∷ []) ++ fs)) (with_functions m ys)) (append_assoc front (f ∷ []) gs) (walk (front ++ f ∷ []) all.1 more))
  walk front all (without_casts {f = f} {fs = fs} {gs = gs} room more) =
      let g : Op = unused_left_out room f in
      agreements_join bits (with_functions m (front ++ f ∷ fs)) (with_functions m (front ++ g ∷ fs)) (with_functions m (front ++ g ∷ gs)) (rounds_keep room f all.0 front fs)
      (subst (λ xs. AgreesS bits (with_functions m xs) (with_functions m (front ++ g ∷ gs))) (append_assoc front (g ∷ []) fs)
      (subst (λ ys. AgreesS bits (with_functions m ((front ++ g ∷ []) ++ fs)) (with_functions m ys)) (append_assoc front (g ∷ []) gs) (walk (front ++ g ∷ []) all.1 more)))

-- In a verified module no cast has regions

mutual
  op_fits : (f : Op) (ty : ℕ → PlainType) (o : Op) → OpFit f ty o → OpCasts o
  op_fits f ty (op k rs os regions ls) fit = (fit.2, regions_fits f ty regions fit.3)

  ops_fits : (f : Op) (ty : ℕ → PlainType) (os : Ops) → OpsFit f ty os → OpsCasts os
  ops_fits f ty end_of_ops fit = tt
  ops_fits f ty (more_ops o os) fit = (op_fits f ty o fit.0, ops_fits f ty os fit.1)

  regions_fits : (f : Op) (ty : ℕ → PlainType) (rs : Regions) → RegionsFit f ty rs → RegionsCasts rs
  regions_fits f ty end_of_regions fit = tt
  regions_fits f ty (region blocks more) fit = (blocks_fits f ty blocks fit.0, regions_fits f ty more fit.1)

  blocks_fits : (f : Op) (ty : ℕ → PlainType) (bs : Blocks) → BlocksFit f ty bs → BlocksCasts bs
  blocks_fits f ty end_of_blocks fit = tt
  blocks_fits f ty (block label args ops more) fit = (ops_fits f ty ops fit.0, blocks_fits f ty more fit.1)

pub function_bare : (c : Functions) (f : Op) → is_formed_function f ≡ true → SoundFunction c f → CastsBare f
function_bare c (op k rs os regions ls) formed sound =
    (no_cast (is_cast f) refl, regions_fits f (types_of f) regions (op_fit c f (types_of f) f None end_of_blocks [] end_of_ops [] sound).0.3)
  where
    f : Op
    f = op k rs os regions ls

    no_cast : (b : Bool) → is_cast f ≡ b → b ≡ false
    no_cast true is = absurd (true≢false (sym (and_left (is_function_name k.name) _ formed) ∙ ap is_function_name ((bytes_eq-Decides k.name (codes "builtin.unrealized_conversion_cast")).0 is)))
    no_cast false is = refl

functions_bare : (all earlier fs : List Op) → list_all is_formed_function fs ≡ true → SoundFrom all earlier fs → AllOf CastsBare fs
functions_bare all earlier [] formed sound = tt
functions_bare all earlier (f ∷ fs) formed sound =
    (function_bare (functions all earlier) f (and_left (is_formed_function f) _ formed) sound.0, functions_bare all (earlier ++ f ∷ []) fs (and_right (is_formed_function f) _ formed) sound.1)

pub unused_casts_keep : UnusedCastsKeep
unused_casts_keep bits m funcs verified out =
    walk bits m [] (functions_bare m.funcs [] m.funcs (and_right (are_formed_entries m.attrs) _ (and_right (are_formed_entries m.props) _ verified.0)) verified.1) out
