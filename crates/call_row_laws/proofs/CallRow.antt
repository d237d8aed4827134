-- The row of func.call holds.
use Rattle.std.proofs.Common.{◌≡◌, ℕ, List, [], length, Option, Some, None, true, false, refl, sym, ap, subst, ◌∙◌}
use Rattle.std.specs.Prelude.{codes, map}
use Rattle.std.specs.Option.{option_map, unwrap_or}
use Rattle.std.proofs.lemmas.List.{length-map}
use Rattle.tree_model.specs.declared.attr_tree.AttrTree.{out-AttrTree}
use Rattle.tree_model.specs.declared.attr_tree.AttrTree.TheVariants as parts
use Rattle.number_model.specs.Answers.{Answer, Gives}
use Rattle.number_model.specs.Answers.{Answer as answer}
use Rattle.operation_model.specs.Values.{Value}
use Rattle.operation_model.specs.Calling.{spread, packing_of}
use Rattle.operation_model.specs.Doings.{Doing}
use Rattle.operation_model.specs.Forms.{Call, Unknown}
use Rattle.plain_tree.specs.Types.{PlainType, type_tree}
use Rattle.plain_tree.specs.Attrs.{Entries, Symbol, attr_tree, entry}
use Rattle.conversion_model.specs.Types.{new_type, becomes}
use Rattle.conversion_model.specs.Templates.{Template}
use Rattle.conversion_model.specs.Targets.{Shape}
use Rattle.conversion_model.specs.Rows.{Pattern}
use Rattle.form_model.specs.Types.{shape_of}
use Rattle.form_model.specs.Properties.{if_some, symbol_in}
use Rattle.form_model.specs.Classes.{call}
use Rattle.pattern_model.specs.Drafts.{Draft, is_plain}
use Rattle.pattern_model.specs.ArithRows.{all_types, kept_props}
use Rattle.pattern_model.specs.FuncRows.{call_by, arguments, called, func_set_without_cast}
use Rattle.pattern_model.specs.Tables.{all_sets}
use Rattle.sound_model.specs.Refinement.{Refines}
use Rattle.sound_model.specs.Runs.{operation_runs, root_form, template_runs}
use Rattle.sound_model.specs.Soundness.{IsReplaceable, is_root, RowHolds}
use Rattle.row_laws.proofs.Values.{none_is, of_some, when_is}
use Rattle.row_laws.proofs.Forms.{level_of, kept_entry}
use Rattle.row_laws.proofs.Lowered.{root_is}
use Rattle.memory_row_laws.proofs.DraftRuns.{goes}
use Rattle.memory_row_laws.proofs.DraftTypes.{Typed}
use Rattle.call_row_laws.specs.Promises.{IsFree, CallHoldsIn, CallRowHolds}
use Rattle.call_row_laws.proofs.Returned.{from_start}
use Rattle.call_row_laws.proofs.Arguments.{arguments_goes}
use Rattle.call_row_laws.proofs.Called.{called_goes}
use Rattle.call_row_laws.proofs.CallTypes.{arguments_typed, called_typed}

abbrev call_draft : ℕ → List PlainType → List PlainType → Entries → Draft
call_draft bits operands results es = arguments bits 0 operands λ sources. called es sources results

record CallOf (bits : ℕ) (o : Shape) (t : Template) : Type 0 where
  entries : Entries
  kept : kept_props (codes "callee") (entry (codes "callee") o.props) ≡ Some entries
  is : call_draft bits o.operands (all_types bits o.results) entries 0 ≡ t

call_is : (bits : ℕ) (o : Shape) (t : Template) → call_by bits o (kept_props (codes "callee") (entry (codes "callee") o.props)) ≡ Some t → CallOf bits o t
call_is bits o t e = go (kept_props (codes "callee") (entry (codes "callee") o.props)) refl e
  where
    go : (p : Option Entries) → kept_props (codes "callee") (entry (codes "callee") o.props) ≡ p → call_by bits o p ≡ Some t → CallOf bits o t
    go None k e = absurd (none_is e)
    go (Some es) k e = record { entries = es; kept = k; is = of_some e }

-- the form of the root
call_root : (bits : ℕ) (o : Shape) (name : List ℕ) → o.name ≡ codes "func.call" → entry (codes "callee") o.props ≡ Some (Symbol name)
    → root_form bits o ≡ Call name (map shape_of (map type_tree o.operands)) (packing_of (length (map type_tree o.results)))
call_root bits o name named is =
    root_is bits o (codes "func.call") call named refl
    ∙ ap (λ l. unwrap_or (option_map (λ name. Call name (map shape_of (map type_tree o.operands)) (packing_of (length (map type_tree o.results)))) (if_some l symbol_in)) Unknown)
    (level_of (codes "callee") o.props ∙ ap (option_map (λ a. out-AttrTree (attr_tree a))) is)
    ∙ ap (λ a. unwrap_or (option_map (λ name. Call name (map shape_of (map type_tree o.operands)) (packing_of (length (map type_tree o.results)))) (symbol_in a)) Unknown) (parts.outs-Symbol name)

call_runs : (bits : ℕ) (operands results : List PlainType) (es : Entries) (name : List ℕ) → entry (codes "callee") es ≡ Some (Symbol name) → IsFree name → (args : List Value) (labels : List ℕ) (next : List Value → Doing)
    → Refines (operation_runs (Call name (map shape_of (map type_tree operands)) (packing_of (length (map (becomes bits) results)))) results labels args next)
    (goes bits (map (becomes bits) operands) args labels next (call_draft bits operands (map (becomes bits) results) es) 0 [] [])
call_runs bits operands results es name is free args labels next = go (spread (map shape_of (map type_tree operands)) args) refl
  where
    go : (a : Answer (List Value)) → spread (map shape_of (map type_tree operands)) args ≡ a
        → Refines (operation_runs (Call name (map shape_of (map type_tree operands)) (packing_of (length (map (becomes bits) results)))) results labels args next)
        (goes bits (map (becomes bits) operands) args labels next (call_draft bits operands (map (becomes bits) results) es) 0 [] [])
    go (Gives ys) e =
        arguments_goes bits (map (becomes bits) operands) args labels next operands args 0 (from_start (map (becomes bits) operands)) (from_start args) ys e (λ sources. called es sources (map (becomes bits) results)) 0 [] []
        (record { types = refl; values = refl })
        (λ d. Refines (operation_runs (Call name (map shape_of (map type_tree operands)) (packing_of (length (map (becomes bits) results)))) results labels args next) d)
        λ n ts vs ss us flat each behind.
        called_goes bits (map (becomes bits) operands) args labels next name es is free (map shape_of (map type_tree operands)) results (map (becomes bits) results) (length-map results (becomes bits)) args ys e n ts vs behind.counts ss us flat each
    go answer.Undefined e = rw e tt
    go answer.Outside e = rw e tt

call_holds : (table : List Pattern) → is_root table (codes "llvm.extractvalue") ≡ false → is_root table (codes "llvm.call") ≡ false → CallHoldsIn table
call_holds table no_extract no_call bits w o t name named callee free defined =
    let d : (is_plain (length o.operands) (length o.results) o ≡ true) × (call_by bits o (kept_props (codes "callee") (entry (codes "callee") o.props)) ≡ Some t) = when_is _ _ t defined in
    let c : CallOf bits o t = call_is bits o t d.1 in
    let types : List PlainType = all_types bits o.operands in
    let results : List PlainType = all_types bits o.results in
    let is : entry (codes "callee") c.entries ≡ Some (Symbol name) = kept_entry (codes "callee") o.props c.entries refl c.kept ∙ callee in
    let many : length (map type_tree o.results) ≡ length results = length-map o.results type_tree ∙ sym (length-map o.results (becomes bits)) in
    let form_is : root_form bits o ≡ Call name (map shape_of (map type_tree o.operands)) (packing_of (length results)) = call_root bits o name named callee ∙ ap (λ n. Call name (map shape_of (map type_tree o.operands)) (packing_of n)) many in
    let typed : Typed table types results (call_draft bits o.operands results c.entries) 0 [] =
    arguments_typed table bits types results no_extract no_call o.operands 0 (from_start types) (λ sources. called c.entries sources results) 0 [] refl
    λ n ts ss us each count stays. called_typed table bits types results no_extract no_call c.entries ss us results refl n ts count each in
    subst (λ t. RowHolds bits table (new_type bits) o t) c.is (record {
      replaceable = subst (λ f. IsReplaceable f o.results) (sym form_is) tt;
      steps = typed.steps;
      does = record {
        types = typed.gives;
        same = λ args labels next count same places.
            subst (λ f. Refines (operation_runs f o.results labels args next) (template_runs bits types args labels (call_draft bits o.operands results c.entries 0) next)) (sym form_is)
            (call_runs bits o.operands o.results c.entries name is free args labels next);
      };
    })

pub call_row_holds : CallRowHolds
call_row_holds = record { alone = call_holds func_set_without_cast refl refl; among_all = call_holds all_sets refl refl }
