-- What is asked of the source of a conversion holds of a function of a verified module.
use Rattle.std.proofs.Common.{◌≡◌, ℕ, ◌+◌, ◌==◌, ◌≤◌, Bool, true, false, List, [], ◌∷◌, ◌++◌, Some, length, refl, sym, ap, ◌∙◌, subst, arith, true≢false}
use Rattle.std.specs.Prelude.{nat_lt, bytes_eq, ◌||◌, if◌then◌else◌}
use Rattle.std.specs.List.{list_all}
use Rattle.std.proofs.lemmas.Slice.Eq.{bytes_eq-Decides}
use Rattle.plain_tree.specs.Types.{PlainType}
use Rattle.plain_tree.specs.Ops.{Kind, Op, op, Ops, end_of_ops, more_ops, Regions, end_of_regions, region, Blocks, end_of_blocks, block, Values}
use Rattle.plain_tree.specs.Values.{op_values, ops_values, regions_values, blocks_values}
use Rattle.conversion_model.specs.Templates.{Template, copy_name}
use Rattle.conversion_model.specs.Targets.{Shape, is_legal, region_count, shape_of}
use Rattle.conversion_model.specs.Chosen.{chosen}
use Rattle.conversion_model.specs.Items.{op_size, ops_size, blocks_size}
use Rattle.conversion_model.specs.Conversion.{Pass, Supply}
use Rattle.conversion_model.specs.Fresh.{EachBlock, EachOf, EachOp, EachOps, EachRegion, EachValue, IsOld, IsOldLabel}
use Rattle.rule_model.specs.Words.{has, numbers}
use Rattle.rule_model.specs.Chains.{uses, op_used, ops_used, regions_used, blocks_used, regions_operands}
use Rattle.rule_model.specs.Formed.{are_formed_blocks, are_formed_ops, are_formed_regions, are_formed_values, is_formed_here, is_formed_op, is_inner_name, own_labels}
use Rattle.sound_model.specs.Soundness.{RowsSound}
use Rattle.chosen_laws.proofs.ChosenLaws.{chosen_sound}
use Rattle.chosen_laws.proofs.Derivations.{mapped_count}
use Rattle.chosen_laws.proofs.Lists.{items_count}
use Rattle.code_laws.specs.PlainCodes.{numbers_in}
use Rattle.sim_laws.proofs.Local.{Each}
use Rattle.conversion_laws.specs.PlainRows.{AllOf, PatternPlain}
use Rattle.conversion_laws.proofs.Names.{Distinct}
use Rattle.conversion_laws.proofs.Texts.{OpBare, OpsBare, RegionsBare, BlocksBare}
use Rattle.conversion_laws.proofs.Plain.{chosen_plain, no_copies}
use Rattle.conversion_laws.proofs.Trees.{OpIsOk, OpOk, OpsOk, RegionsOk, BlocksOk, ReplacedOk}
use Rattle.pass_laws.proofs.Counted.{and_left, and_right, values_apart}
use Rattle.pass_laws.proofs.Sites.{OpFit, OpsFit, RegionsFit, BlocksFit}

-- Numbers

pub each_of : (P : ℕ → Type 0) (ns : List ℕ) → EachOf P ns → Each P ns
each_of P [] each = tt
each_of P (n ∷ ns) each = (each.0, each_of P ns each.1)

each_value : (P : ℕ → Type 0) (vs : Values) → EachValue P vs → Each P (numbers_in vs)
each_value P [] each = tt
each_value P (v ∷ vs) each = (each.0, each_value P vs each.1)

pub numbers_are : (vs : Values) → numbers vs ≡ numbers_in vs
numbers_are [] = refl
numbers_are (v ∷ vs) = ap (λ ns. v.0 ∷ ns) (numbers_are vs)

each_defined : (defined ns : List ℕ) → list_all (λ v. has v defined) ns ≡ true → Each (λ v. has v defined ≡ true) ns
each_defined defined [] all = tt
each_defined defined (n ∷ ns) all = (and_left (has n defined) _ all, each_defined defined ns (and_right (has n defined) _ all))

has_left : (n : ℕ) (xs ys : List ℕ) → has n xs ≡ true → has n (xs ++ ys) ≡ true
has_left n [] ys h = absurd (true≢false (sym h))
has_left n (x ∷ xs) ys h = go (x == n) (has_left n xs ys) h
  where
    go : (b : Bool) → (has n xs ≡ true → has n (xs ++ ys) ≡ true) → (b || has n xs) ≡ true → (b || has n (xs ++ ys)) ≡ true
    go true again h = refl
    go false again h = again h

pub has_right : (n : ℕ) (xs ys : List ℕ) → has n ys ≡ true → has n (xs ++ ys) ≡ true
has_right n [] ys h = h
has_right n (x ∷ xs) ys h = go (x == n) (has_right n xs ys h)
  where
    go : (b : Bool) → has n (xs ++ ys) ≡ true → (b || has n (xs ++ ys)) ≡ true
    go true again = refl
    go false again = again

-- names

copy_not_bytes : list_all (λ b. nat_lt b 256) copy_name ≡ false
copy_not_bytes = refl

bare_name : (name : List ℕ) → list_all (λ b. nat_lt b 256) name ≡ true → bytes_eq name copy_name ≡ false
bare_name name bytes = go (bytes_eq name copy_name) refl
  where
    go : (b : Bool) → bytes_eq name copy_name ≡ b → b ≡ false
    go true is = absurd (true≢false (sym bytes ∙ ap (list_all (λ b. nat_lt b 256)) ((bytes_eq-Decides name copy_name).0 is)))
    go false is = refl

-- Formed trees

mutual
  op_formed : (defined labels : List ℕ) (o : Op) → is_formed_op defined labels o ≡ true → OpBare o
  op_formed defined labels (op k rs os regions ls) formed =
      let inner = and_left (is_inner_name k.name) _ formed in
      let rest = and_right (is_inner_name k.name) _ formed in
      (bare_name k.name (and_left (list_all (λ b. nat_lt b 256) k.name) _ inner), regions_formed defined regions (and_right (is_formed_here defined labels k rs os ls) _ rest))

  ops_formed : (defined labels : List ℕ) (os : Ops) → are_formed_ops defined labels os ≡ true → OpsBare os
  ops_formed defined labels end_of_ops formed = tt
  ops_formed defined labels (more_ops o os) formed = (op_formed defined labels o (and_left (is_formed_op defined labels o) _ formed), ops_formed defined labels os (and_right (is_formed_op defined labels o) _ formed))

  pub regions_formed : (defined : List ℕ) (rs : Regions) → are_formed_regions defined rs ≡ true → RegionsBare rs
  regions_formed defined end_of_regions formed = tt
  regions_formed defined (region blocks more) formed =
      (blocks_formed defined (own_labels blocks) blocks (and_left (are_formed_blocks defined (own_labels blocks) blocks) _ formed), regions_formed defined more (and_right (are_formed_blocks defined (own_labels blocks) blocks) _ formed))

  blocks_formed : (defined labels : List ℕ) (bs : Blocks) → are_formed_blocks defined labels bs ≡ true → BlocksBare bs
  blocks_formed defined labels end_of_blocks formed = tt
  blocks_formed defined labels (block label args ops more) formed =
      let rest = and_right (are_formed_values args) _ formed in
      (ops_formed defined labels ops (and_left (are_formed_ops defined labels ops) _ rest), blocks_formed defined labels more (and_right (are_formed_ops defined labels ops) _ rest))

-- What is asked

no_regions_left : (regions : Regions) → region_count regions ≡ 0 → regions ≡ end_of_regions
no_regions_left end_of_regions none = refl
no_regions_left (region blocks more) none = absurd (omega (arith, none))

module _ (p : Pass) (bits : ℕ) (new : Supply) (rows_sound : RowsSound bits p.table) (rows_plain : AllOf (PatternPlain bits) p.table)
    (legal_bare : (o : Shape) → is_legal p.target o ≡ true → bytes_eq o.name copy_name ≡ false) (f : Op) (ty : ℕ → PlainType) (defined : List ℕ) where
  abbrev Defined : ℕ → Type 0
  Defined v = has v defined ≡ true

  op_ok : (n : ℕ) (k : Kind) (rs : Values) (os : List ℕ) (regions : Regions) (ls labels : List ℕ) → EachValue (IsOld new) rs → EachOf (IsOld new) os → is_formed_here defined labels k rs os ls ≡ true → Distinct (numbers_in rs)
      → OpFit f ty (op k rs os regions ls) → ((v u : ℕ) → has u (op_used v (op k rs os regions ls)) ≡ true → has u (op_used v f) ≡ true)
      → OpOk p bits new ty (IsOld new) Defined n (shape_of ty (op k rs os regions ls)) rs os regions
  op_ok n k rs os regions ls labels old_results old_operands formed distinct fit within = record {
    results_old = each_value (IsOld new) rs old_results;
    operands_old = each_of (IsOld new) os old_operands;
    operands_defined = each_defined defined os (and_left (list_all (λ v. has v defined) os) _ formed);
    distinct = distinct;
    own = λ j among. own j among (has j os) refl;
    replaced = replaced;
  }
    where
      own : (j : ℕ) → has j (numbers_in rs) ≡ true → (b : Bool) → has j os ≡ b → b ≡ false
      own j among false is = refl
      own j among true is =
          let named : has j (numbers rs) ≡ true = ap (has j) (numbers_are rs) ∙ among in
          absurd (fit.1 j named (uses (within j j (has_left j _ (regions_used j regions)
          (subst (λ b. has j (if b then os ++ regions_operands regions else []) ≡ true) (sym named) (has_left j os (regions_operands regions) is))))))

      o : Shape
      o = shape_of ty (op k rs os regions ls)

      replaced : (t : Template) → is_legal p.target o ≡ false → chosen bits p.target p.table [] o ≡ Some t → ReplacedOk p bits new ty (IsOld new) Defined n o rs os regions t
      replaced t legal is =
          let s = chosen_sound bits p.target p.table rows_sound [] o t (λ root. fit.0) is in
          let q = chosen_plain bits p.table p.target rows_sound rows_plain legal_bare [] o t (λ root. fit.0) is in
          let few = q.1 legal in
          let many : length rs ≡ length t.results = sym (mapped_count (λ v. v.1) rs) ∙ items_count o.operands _ t.results o.results s.0.types in
          record {
            sound = s.0;
            replaceable = s.1 legal;
            made = q.0.made;
            many = many;
            no_copies = no_copies (new.value n 0) os rs t.results (subst (λ m. m ≤ 1) (mapped_count (λ v. v.1) rs) few.few) many q.0.made;
            no_regions = no_regions_left regions few.no_regions;
            bare = q.0.bare;
          }

  mutual
    ops_ok : (os : Ops) (n : ℕ) (labels : List ℕ) (more : Values) → EachOps (IsOld new) (IsOldLabel new) os → are_formed_ops defined labels os ≡ true → Distinct (numbers_in (ops_values os more)) → OpsFit f ty os
        → ((v u : ℕ) → has u (ops_used v os) ≡ true → has u (op_used v f) ≡ true) → OpsOk p bits new ty (IsOld new) Defined n os × Distinct (numbers_in more)
    ops_ok end_of_ops n labels more old formed distinct fit within = (tt, distinct)
    ops_ok (more_ops o os) n labels more old formed distinct fit within =
        let a = op_is_ok o n labels (ops_values os more) old.0 (and_left (is_formed_op defined labels o) _ formed) distinct fit.0 (λ v u h. within v u (has_left u (op_used v o) (ops_used v os) h)) in
        let b = ops_ok os (n + op_size o) labels more old.1 (and_right (is_formed_op defined labels o) _ formed) a.1 fit.1 (λ v u h. within v u (has_right u (op_used v o) (ops_used v os) h)) in
        ((a.0, b.0), b.1)

    op_is_ok : (o : Op) (n : ℕ) (labels : List ℕ) (more : Values) → EachOp (IsOld new) (IsOldLabel new) o → is_formed_op defined labels o ≡ true → Distinct (numbers_in (op_values o more)) → OpFit f ty o
        → ((v u : ℕ) → has u (op_used v o) ≡ true → has u (op_used v f) ≡ true) → OpIsOk p bits new ty (IsOld new) Defined n o × Distinct (numbers_in more)
    op_is_ok (op k rs os regions ls) n labels more old formed distinct fit within =
        let rest = and_right (is_inner_name k.name) _ formed in
        let d = values_apart rs (regions_values regions more) distinct in
        let b = regions_ok regions (n + 1) more old.2 (and_right (is_formed_here defined labels k rs os ls) _ rest) d.1 fit.3 (λ v u h. within v u (has_right u _ (regions_used v regions) h)) in
        ((op_ok n k rs os regions ls labels old.0 old.1 (and_left (is_formed_here defined labels k rs os ls) _ rest) d.0 fit within, b.0), b.1)

    pub regions_ok : (rs : Regions) (n : ℕ) (more : Values) → EachRegion (IsOld new) (IsOldLabel new) rs → are_formed_regions defined rs ≡ true → Distinct (numbers_in (regions_values rs more)) → RegionsFit f ty rs
        → ((v u : ℕ) → has u (regions_used v rs) ≡ true → has u (op_used v f) ≡ true) → RegionsOk p bits new ty (IsOld new) Defined n rs × Distinct (numbers_in more)
    regions_ok end_of_regions n more old formed distinct fit within = (tt, distinct)
    regions_ok (region blocks rest) n more old formed distinct fit within =
        let a = blocks_ok blocks n (own_labels blocks) (regions_values rest more) old.0 (and_left (are_formed_blocks defined (own_labels blocks) blocks) _ formed) distinct fit.0 (λ v u h. within v u (has_left u (blocks_used v blocks) (regions_used v rest) h)) in
        let b = regions_ok rest (n + blocks_size blocks) more old.1 (and_right (are_formed_blocks defined (own_labels blocks) blocks) _ formed) a.1 fit.1 (λ v u h. within v u (has_right u (blocks_used v blocks) (regions_used v rest) h)) in
        ((a.0, b.0), b.1)

    blocks_ok : (bs : Blocks) (n : ℕ) (labels : List ℕ) (more : Values) → EachBlock (IsOld new) (IsOldLabel new) bs → are_formed_blocks defined labels bs ≡ true → Distinct (numbers_in (blocks_values bs more)) → BlocksFit f ty bs
        → ((v u : ℕ) → has u (blocks_used v bs) ≡ true → has u (op_used v f) ≡ true) → BlocksOk p bits new ty (IsOld new) Defined n bs × Distinct (numbers_in more)
    blocks_ok end_of_blocks n labels more old formed distinct fit within = (tt, distinct)
    blocks_ok (block label args ops rest) n labels more old formed distinct fit within =
        let parts = and_right (are_formed_values args) _ formed in
        let d = values_apart args (ops_values ops (blocks_values rest more)) distinct in
        let a = ops_ok ops n labels (blocks_values rest more) old.2 (and_left (are_formed_ops defined labels ops) _ parts) d.1 fit.0 (λ v u h. within v u (has_left u (ops_used v ops) (blocks_used v rest) h)) in
        let b = blocks_ok rest (n + ops_size ops) labels more old.3 (and_right (are_formed_ops defined labels ops) _ parts) a.1 fit.1 (λ v u h. within v u (has_right u (ops_used v ops) (blocks_used v rest) h)) in
        ((each_value (IsOld new) args old.1, d.0, a.0, b.0), b.1)
