-- The row of casts between types that become the same.
use Rattle.std.proofs.Common.{◌≡◌, ℕ, List, [], ◌∷◌, length, Option, Some, None, Bool, true, false, refl, sym, ap, ap₂, subst, ◌∙◌, true≢false}
use Rattle.std.specs.Prelude.{codes, map, if◌then◌else◌}
use Rattle.std.specs.Option.{unwrap_or}
use Rattle.operation_model.specs.Values.{Value}
use Rattle.operation_model.specs.Pures.{Moves}
use Rattle.operation_model.specs.Doings.{Doing}
use Rattle.operation_model.specs.Forms.{Form, Computes, Unknown}
use Rattle.plain_tree.specs.Types.{PlainType, Int, Index, Memref, Func, Ptr, Void, Struct, Array, LlvmFunc, type_tree}
use Rattle.plain_tree.specs.ValueTypes.{is_own}
use Rattle.conversion_model.specs.declared.templates.Source.TheVariants.{Operand}
use Rattle.conversion_model.specs.Types.{new_type, becomes, or_same, converted_type}
use Rattle.conversion_model.specs.Templates.{Template}
use Rattle.conversion_model.specs.Targets.{Shape}
use Rattle.conversion_model.specs.Rows.{Pattern, Straight}
use Rattle.form_model.specs.Types.{become_same}
use Rattle.form_model.specs.Classes.{recast, recast_of}
use Rattle.pattern_model.specs.Drafts.{is_plain}
use Rattle.pattern_model.specs.FuncRows.{cast_row, cast_by, same_converted}
use Rattle.sound_model.specs.Refinement.{Refines}
use Rattle.sound_model.specs.Runs.{items_of, root_form, root_runs, template_runs, counted}
use Rattle.sound_model.specs.Soundness.{IsReplaceable, all_changed, RowHolds, RowSound}
use Rattle.sound_model.proofs.Refining.{refines_refl}
use Rattle.row_laws.proofs.Sources.{one_item}
use Rattle.row_laws.proofs.Values.{none_is, of_some, when_is, IsPlain, plain_is}
use Rattle.row_laws.proofs.Steps.{root_computes, root_unknown, of_gives}
use Rattle.row_laws.proofs.Extremes.{counts_one}
use Rattle.row_laws.proofs.Lowered.{root_is}
use Rattle.memory_row_laws.proofs.SameTypes.{type_is}

-- own types don't change
own_stays : (bits : ℕ) (t : PlainType) → is_own t ≡ true → new_type bits t ≡ None
own_stays bits Index h = absurd (true≢false (sym h))
own_stays bits (Memref dims element) h = absurd (true≢false (sym h))
own_stays bits (Int w) h = refl
own_stays bits (Func x y) h = refl
own_stays bits Ptr h = refl
own_stays bits Void h = refl
own_stays bits (Struct x) h = refl
own_stays bits (Array n t) h = refl
own_stays bits (LlvmFunc x y) h = refl

-- what a type is converted to it becomes
converted_is : (bits : ℕ) (t u : PlainType) → converted_type bits t ≡ Some u → becomes bits t ≡ u
converted_is bits t u e = go (is_own t) refl e
  where
    go : (b : Bool) → is_own t ≡ b → (if b then Some t else new_type bits t) ≡ Some u → or_same t (new_type bits t) ≡ u
    go true own e = ap (or_same t) (own_stays bits t own) ∙ of_some e
    go false own e = ap (or_same t) e

same_becomes : (bits : ℕ) (t u : PlainType) → same_converted (converted_type bits t) (converted_type bits u) ≡ true → becomes bits t ≡ becomes bits u
same_becomes bits t u h = go (converted_type bits t) (converted_type bits u) refl refl h
  where
    go : (a b : Option PlainType) → converted_type bits t ≡ a → converted_type bits u ≡ b → same_converted a b ≡ true → becomes bits t ≡ becomes bits u
    go (Some x) (Some y) e f h = converted_is bits t x e ∙ type_is x y h ∙ sym (converted_is bits u y f)
    go None b e f h = absurd (true≢false (sym h))
    go (Some x) None e f h = absurd (true≢false (sym h))

record OneCast (bits : ℕ) (ts us : List PlainType) (tpl : Template) : Type 0 where
  from : PlainType
  to : PlainType
  from_is : ts ≡ from ∷ []
  to_is : us ≡ to ∷ []
  same : becomes bits from ≡ becomes bits to
  is : record { steps = []; results = Operand 0 ∷ [] } ≡ tpl

cast_is : (bits : ℕ) (ts us : List PlainType) (tpl : Template) → cast_by bits ts us ≡ Some tpl → OneCast bits ts us tpl
cast_is bits (t ∷ []) (u ∷ []) tpl e =
    let d : (same_converted (converted_type bits t) (converted_type bits u) ≡ true) × (Some (record { steps = []; results = Operand 0 ∷ [] }) ≡ Some tpl) = when_is _ _ tpl e in
    record { from = t; to = u; from_is = refl; to_is = refl; same = same_becomes bits t u d.0; is = of_some d.1 }
cast_is bits (t ∷ []) _ tpl e = absurd (none_is e)
cast_is bits _ us tpl e = absurd (none_is e)

abbrev recast_form : Bool → Form
recast_form b = unwrap_or (if b then Some (Computes Moves) else None) Unknown

recast_replaceable : (b : Bool) (rs : List PlainType) → IsReplaceable (recast_form b) rs
recast_replaceable true rs = tt
recast_replaceable false rs = tt

recast_runs : (bits : ℕ) (o : Shape) (x : Value) (labels : List ℕ) (next : List Value → Doing) → length o.results ≡ 1 → (b : Bool) → root_form bits o ≡ recast_form b → Refines (root_runs bits o (x ∷ []) labels next) (next (x ∷ []))
recast_runs bits o x labels next one false is = root_unknown bits o (x ∷ []) labels next _ is
recast_runs bits o x labels next one true is =
    root_computes bits o Moves (x ∷ []) labels next _ is λ ys e.
    subst (λ ys. Refines (counted o.results ys (next ys)) (next (x ∷ []))) (of_gives e)
    (subst (λ d. Refines d (next (x ∷ []))) (sym (counts_one o.results x (next (x ∷ [])) one)) (refines_refl (next (x ∷ []))))

pub recast_sound : (bits : ℕ) (table : List Pattern) → RowSound bits table (codes "builtin.unrealized_conversion_cast") (new_type bits) (Straight (cast_row bits))
recast_sound bits table o t named fit defined =
    let d : (is_plain 1 1 o ≡ true) × (cast_by bits o.operands o.results ≡ Some t) = when_is _ _ t defined in
    let p : IsPlain 1 1 o = plain_is 1 1 o d.0 in
    let c : OneCast bits o.operands o.results t = cast_is bits o.operands o.results t d.1 in
    let same : Bool = become_same bits (type_tree c.from) (type_tree c.to) in
    let form_is : root_form bits o ≡ recast_form same =
    root_is bits o (codes "builtin.unrealized_conversion_cast") recast named refl ∙ ap₂ (λ ts us. unwrap_or (recast_of bits (map type_tree ts) (map type_tree us)) Unknown) c.from_is c.to_is in
    subst (λ t. RowHolds bits table (new_type bits) o t) c.is (record {
      replaceable = subst (λ f. IsReplaceable f o.results) (sym form_is) (recast_replaceable same o.results);
      steps = tt;
      does = record {
        types = ap (λ ts. items_of (all_changed (new_type bits) ts) [] (Operand 0 ∷ [])) c.from_is ∙ ap (λ t. Some (t ∷ [])) c.same ∙ sym (ap (λ ts. Some (all_changed (new_type bits) ts)) c.to_is);
        same = λ args labels next count same_count places.
            one_item (λ args. Refines (root_runs bits o args labels next) (template_runs bits (all_changed (new_type bits) o.operands) args labels (record { steps = []; results = Operand 0 ∷ [] }) next))
            (λ x. recast_runs bits o x labels next p.results same form_is) args (count ∙ p.operands);
      };
    })
