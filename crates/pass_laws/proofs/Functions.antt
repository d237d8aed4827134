-- A function of a verified module and what a partial pass of sound straight rows makes of it.
use Rattle.std.proofs.Common.{◌≡◌, ℕ, ◌==◌, Bool, true, false, List, [], ◌++◌, Option, Some, None, Ok, map, refl, sym, ap, ◌∙◌, subst, true≢false}
use Rattle.std.specs.Prelude.{bytes_eq, ◌&&◌, if◌then◌else◌}
use Rattle.std.specs.Option.{option_map}
use Rattle.std.proofs.lemmas.Bool.{eqb-true}
use Rattle.std.proofs.lemmas.Slice.Eq.{bytes_eq-Decides}
use Rattle.tree_model.specs.declared.type_tree.TypeTree.{TypeTree, out-TypeTree}
use Rattle.conversion_model.proofs.ReconcileLaws.{same_number}
use Rattle.plain_tree.specs.Types.{PlainType}
use Rattle.plain_tree.specs.Attrs.{entries_tree}
use Rattle.plain_tree.specs.Ops.{Kind, Op, op, end_of_ops, Regions, end_of_blocks, Values}
use Rattle.plain_tree.specs.Values.{op_values, regions_values, types_of}
use Rattle.form_model.specs.Codes.{Function}
use Rattle.form_model.specs.Codes as code
use Rattle.form_model.specs.Types.{shape_of}
use Rattle.form_model.specs.Properties.{Entries, if_some, text_of, type_of}
use Rattle.form_model.specs.Decoding.{Signature, put_function, signature_at}
use Rattle.conversion_model.specs.Templates.{copy_name}
use Rattle.conversion_model.specs.Targets.{Shape, Partial, is_legal}
use Rattle.conversion_model.specs.Conversion.{Pass, Supply, conv}
use Rattle.conversion_model.specs.Counts.{DefinesOnce, LabelsOnce}
use Rattle.conversion_model.specs.Fresh.{Fresh, IsOld, of_block, of_line}
use Rattle.rule_model.specs.Words.{has, numbers}
use Rattle.rule_model.specs.Facts.{Functions}
use Rattle.rule_model.specs.Chains.{regions_operands, regions_used}
use Rattle.rule_model.specs.Rules.{SoundFunction}
use Rattle.rule_model.specs.Formed.{are_formed_regions, are_once, is_formed_function, is_formed_here, is_function_name, op_labels}
use Rattle.sound_model.specs.Soundness.{RowsSound}
use Rattle.code_laws.specs.PlainCodes.{body_of, first_region, function_with, plain_function, props_of, regions_codes}
use Rattle.sim_laws.proofs.Local.{SameEntry, SameRegions, same_entry_end, same_region, same_regions_end}
use Rattle.sim_laws.proofs.Changed.{FunctionsChanged, changed_function, function_stays}
use Rattle.conversion_laws.specs.PlainRows.{AllOf, PatternPlain, StraightTable}
use Rattle.conversion_laws.specs.NewTrees.{new_function, new_regions}
use Rattle.conversion_laws.proofs.Names.{differ, not_same}
use Rattle.conversion_laws.proofs.Texts.{OpBare}
use Rattle.conversion_laws.proofs.Stages.{conversion_is}
use Rattle.conversion_laws.proofs.Trees.{NewOk, OpTyped, RegionsOk, regions_changed, regions_kept}
use Rattle.pass_laws.proofs.Counted.{and_left, and_right, defines_once, labels_once, op_typed, typed_of, typed_op, typed_same, values_apart, values_distinct}
use Rattle.pass_laws.proofs.Sites.{op_fit}
use Rattle.pass_laws.proofs.Sources.{has_right, numbers_are, regions_formed, regions_ok}

-- Functions from trees

pub first_same : {P : ℕ → Type 0} {r r' : code.Regions} → SameRegions P r r' → SameEntry P (first_region r) (first_region r')
first_same same_regions_end = same_entry_end
first_same (same_region b more) = b

module _ (bits : ℕ) (body body' : code.Blocks) (old : ℕ → Type 0) (same : SameEntry old body body') (fs fs' : List Function) (more : FunctionsChanged fs fs') where
  abbrev make : code.Blocks → List ℕ → Signature → Function
  make b name s = record { name = name; face = s.face; shapes = map shape_of s.inputs; body = b }

  by_signature : (name : List ℕ) (s : Option Signature) → FunctionsChanged (put_function (option_map (make body name) s) fs) (put_function (option_map (make body' name) s) fs')
  by_signature name None = more
  by_signature name (Some s) = changed_function (record { old = old; name = refl; face = refl; shapes = refl; body = same }) more

  by_type : (name : List ℕ) (t : Option TypeTree)
      → FunctionsChanged (put_function (if_some t (λ u. option_map (make body name) (signature_at bits (out-TypeTree u)))) fs) (put_function (if_some t (λ u. option_map (make body' name) (signature_at bits (out-TypeTree u)))) fs')
  by_type name None = more
  by_type name (Some t) = by_signature name (signature_at bits (out-TypeTree t))

  by_name : (name : Option (List ℕ)) (t : Option TypeTree)
      → FunctionsChanged (put_function (if_some name (λ n. if_some t (λ u. option_map (make body n) (signature_at bits (out-TypeTree u))))) fs) (put_function (if_some name (λ n. if_some t (λ u. option_map (make body' n) (signature_at bits (out-TypeTree u))))) fs')
  by_name None t = more
  by_name (Some name) t = by_type name t

  pub with_changed : (props : Entries) → FunctionsChanged (put_function (function_with bits props body) fs) (put_function (function_with bits props body') fs')
  with_changed props = by_name (text_of _ props) (type_of _ props)

pub put_stays : (o : Option Function) (fs fs' : List Function) → FunctionsChanged fs fs' → FunctionsChanged (put_function o fs) (put_function o fs')
put_stays None fs fs' more = more
put_stays (Some f) fs fs' more = changed_function (function_stays f) more

-- New numbers

new_ok : (p : Pass) (bits : ℕ) (new : Supply) (ty : ℕ → PlainType) (Defined : ℕ → Type 0) (f : Op) → Fresh new f → NewOk p bits new ty (IsOld new) Defined
new_ok p bits new ty Defined f fresh = record {
  value_one = λ n j k same. last_same n j k (sym (fresh.values (of_line n 0 j) (of_line n 0 k)) ∙ same_number (new.value n 0 j) (new.value n 0 k) same);
  value_new = λ n k j old. turned j (new.value n 0 k) (old (of_line n 0 k));
  argument_one = λ l j k same. place_same l j k (sym (fresh.values (of_block l j) (of_block l k)) ∙ same_number (new.argument l j) (new.argument l k) same);
  argument_new = λ l k j old. turned j (new.argument l k) (old (of_block l k));
}
  where
    turned : (m n : ℕ) → (m == n) ≡ false → (n == m) ≡ false
    turned m n is = differ n m (λ same. not_same m n is (sym same))

    last_same : (n j k : ℕ) → ((n == n) && ((0 == 0) && (j == k))) ≡ true → j ≡ k
    last_same n j k is = eqb-true j k (and_right (0 == 0) (j == k) (and_right (n == n) ((0 == 0) && (j == k)) is))

    place_same : (l j k : ℕ) → ((l == l) && (j == k)) ≡ true → j ≡ k
    place_same l j k is = eqb-true j k (and_right (l == l) (j == k) is)

-- The function's own name

function_name_bare : (name : List ℕ) → is_function_name name ≡ true → bytes_eq name copy_name ≡ false
function_name_bare name is_name = go (bytes_eq name copy_name) refl
  where
    go : (b : Bool) → bytes_eq name copy_name ≡ b → b ≡ false
    go true is = absurd (true≢false (sym is_name ∙ ap is_function_name ((bytes_eq-Decides name copy_name).0 is)))
    go false is = refl

-- One function

module _ (p : Pass) (bits : ℕ) (mode : p.mode ≡ Partial) (straight : StraightTable bits p.table) (rows_sound : RowsSound bits p.table) (rows_plain : AllOf (PatternPlain bits) p.table)
    (legal_bare : (o : Shape) → is_legal p.target o ≡ true → bytes_eq o.name copy_name ≡ false)
    (once : (new : Supply) (f g : Op) → Fresh new f → DefinesOnce f → LabelsOnce f → conv p bits new f ≡ Ok g → DefinesOnce g) where
  module _ (c : Functions) (new : Supply) (k : Kind) (rs : Values) (os : List ℕ) (regions : Regions) (ls : List ℕ) (g : Op) (fresh : Fresh new (op k rs os regions ls)) (sound : SoundFunction c (op k rs os regions ls))
      (is : conv p bits new (op k rs os regions ls) ≡ Ok g) (named : is_function_name k.name ≡ true) (numbers_once : are_once (numbers (op_values (op k rs os regions ls) [])) ≡ true)
      (labels_are_once : are_once (op_labels (op k rs os regions ls)) ≡ true) (formed : are_formed_regions (numbers (op_values (op k rs os regions ls) [])) regions ≡ true) where
    abbrev f : Op
    f = op k rs os regions ls

    abbrev ty : ℕ → PlainType
    ty = types_of f

    abbrev defined : List ℕ
    defined = numbers (op_values f [])

    abbrev Defined : ℕ → Type 0
    Defined v = has v defined ≡ true

    f_once : DefinesOnce f
    f_once = defines_once f numbers_once

    g_once : DefinesOnce g
    g_once = once new f g fresh f_once (labels_once f labels_are_once) is

    ok : RegionsOk p bits new ty (IsOld new) Defined 1 regions
    ok =
        (regions_ok p bits new rows_sound rows_plain legal_bare f ty defined regions 1 [] fresh.apart.2 formed (values_apart rs (regions_values regions []) (values_distinct f f_once)).1
        (op_fit c f ty f None end_of_blocks [] end_of_ops [] sound).0.3
        (λ v u h. has_right u (if has v (numbers rs) then os ++ regions_operands regions else []) (regions_used v regions) h)).0

    bare : OpBare f
    bare = (function_name_bare k.name named, regions_formed defined regions formed)

    g_is : g ≡ new_function p bits new ty p.blocks f
    g_is = conversion_is p bits new (IsOld new) Defined f g mode straight bare ok is

    abbrev ty' : ℕ → PlainType
    ty' = types_of g

    target_typed : OpTyped ty' (new_function p bits new ty p.blocks f)
    target_typed = subst (OpTyped ty') g_is (op_typed ty' g [] (typed_of (op_values g []) (values_distinct g g_once))).0

    news : NewOk p bits new ty (IsOld new) Defined
    news = new_ok p bits new ty Defined f fresh

    source_typed : OpTyped ty' f
    source_typed = (target_typed.0, regions_kept p bits new ty (IsOld new) Defined p.blocks ty' news regions 1 ok target_typed.1)

    agree : (v : ℕ) → Defined v → ty' v ≡ ty v
    agree v h = typed_same ty' ty (op_values f []) v (typed_op ty' f [] source_typed tt) (typed_of (op_values f []) (values_distinct f f_once)) (ap (has v) (sym (numbers_are (op_values f []))) ∙ h)

    same : SameRegions (IsOld new) (regions_codes bits ty regions) (regions_codes bits ty' (new_regions p bits new ty p.blocks 1 regions))
    same = regions_changed p bits new ty (IsOld new) Defined p.blocks ty' news agree regions 1 ok target_typed.1

    one_changed : (fs fs' : List Function) → FunctionsChanged fs fs' → FunctionsChanged (put_function (plain_function bits f) fs) (put_function (plain_function bits g) fs')
    one_changed fs fs' more =
        subst (λ z. FunctionsChanged (put_function (plain_function bits f) fs) (put_function (function_with bits (props_of z) (body_of bits ty' z)) fs')) (sym g_is)
        (with_changed bits (first_region (regions_codes bits ty regions)) (first_region (regions_codes bits ty' (new_regions p bits new ty p.blocks 1 regions))) (IsOld new) (first_same same) fs fs' more (entries_tree k.props))

  -- A function of a verified module and what the pass makes of it.
  pub function_changed : (c : Functions) (new : Supply) (f g : Op) → Fresh new f → is_formed_function f ≡ true → SoundFunction c f → conv p bits new f ≡ Ok g
      → (fs fs' : List Function) → FunctionsChanged fs fs' → FunctionsChanged (put_function (plain_function bits f) fs) (put_function (plain_function bits g) fs')
  function_changed c new (op k rs os regions ls) g fresh formed sound is =
      let a = and_right (is_function_name k.name) _ formed in
      let b = and_right (are_once (numbers (op_values (op k rs os regions ls) []))) _ a in
      let d = and_right (are_once (op_labels (op k rs os regions ls))) _ b in
      one_changed c new k rs os regions ls g fresh sound is (and_left (is_function_name k.name) _ formed) (and_left (are_once (numbers (op_values (op k rs os regions ls) []))) _ a)
      (and_left (are_once (op_labels (op k rs os regions ls))) _ b) (and_right (is_formed_here (numbers (op_values (op k rs os regions ls) [])) [] k rs os ls) _ d)
