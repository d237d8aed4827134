-- Lowered modules that are the same but for numbers have the same text and the same lines.
use Rattle.std.proofs.Common.{◌≡◌, ℕ, zero, suc, List, [], ◌∷◌, ◌++◌, map, refl, sym, ap, subst, ◌∙◌}
use Rattle.std.specs.Prelude.{codes, flat_map, not, Option, slice_get, unwrap_or}
use Rattle.pipeline_text.specs.declared.pass.Pipeline.{Pipeline}
use Rattle.tree_model.specs.declared.attr_tree.AttrTree.{AttrTree}
use Rattle.tree_model.specs.declared.op_tree.FuncTree.{FuncTree}
use Rattle.tree_model.specs.declared.op_tree.ModuleTree.{ModuleTree}
use Rattle.plain_tree.specs.Attrs.{Entries, entries_tree, plain_entries}
use Rattle.plain_tree.specs.Ops.{Kind, Op, op, PlainModule, plain_func, plain_module}
use Rattle.plain_tree.proofs.AttrTrip.{entries_trip}
use Rattle.rule_model.specs.Facts.{name_in}
use Rattle.text_model.specs.PrintedOps.{attrs_text, props_text}
use Rattle.text_model.specs.Printed.{func_text, funcs_text, module_text}
use Rattle.pipeline_text.specs.Passes.{pass_text}
use Rattle.pattern_model.specs.ModuleStep.{props_of}
use Rattle.pattern_model.specs.Fold.{Failure, Folded, is_empty}
use Rattle.fold_renames.specs.Outcomes.{kind_in}
use Rattle.fold_renames.proofs.FreshRenames.{Alike}
use Rattle.fold_renames.proofs.FoldRenames.{AllAlike, FoldsAlike, all_kinds, folds_alike, more_alike, none_alike}
use Rattle.printed_renames.proofs.Texts.{func_same}
use Rattle.lowered_module.specs.declared.lowered.LoweredModule.{LoweredModule}
use Rattle.lowered_module.specs.Lines.{all_lines, function_name, lines_text, said}
use Rattle.lowered_module.specs.Lowered.{IsLowered, Lowered, lowered_view}
use Rattle.ordered_diags.specs.Failures.{lines_of}
use Rattle.one_lowering.specs.Lowerings.{OneLowering, SameReply}

-- The text

all_texts : (fs gs : List FuncTree) → AllAlike (map plain_func fs) (map plain_func gs) → flat_map func_text fs ≡ flat_map func_text gs
all_texts [] [] none_alike = refl
all_texts [] (g ∷ gs) a = elim a [ ]
all_texts (f ∷ fs) [] a = elim a [ ]
all_texts (f ∷ fs) (g ∷ gs) (more_alike x y xs ys a rest) =
    ap (λ t. t ++ flat_map func_text fs) (func_same f g a.values a.labels a.same) ∙ ap (λ t. func_text g ++ t) (all_texts fs gs rest)

all_of_text : (fs gs : List FuncTree) → AllAlike (map plain_func fs) (map plain_func gs) → funcs_text fs ≡ funcs_text gs
all_of_text [] [] none_alike = refl
all_of_text [] (g ∷ gs) a = elim a [ ]
all_of_text (f ∷ fs) [] a = elim a [ ]
all_of_text (f ∷ fs) (g ∷ gs) a = all_texts (f ∷ fs) (g ∷ gs) a

entries_same : (es ds : List (List ℕ × AttrTree)) → plain_entries es ≡ plain_entries ds → es ≡ ds
entries_same es ds e = sym (entries_trip es) ∙ ap entries_tree e ∙ entries_trip ds

text_same : (a b : ModuleTree) → plain_entries a.props ≡ plain_entries b.props → plain_entries a.attrs ≡ plain_entries b.attrs → AllAlike (map plain_func a.funcs) (map plain_func b.funcs)
    → module_text a ≡ module_text b
text_same a b props attrs funcs =
    ap (λ es. codes "\"builtin.module\"()" ++ props_text es ++ codes " ({\n" ++ funcs_text a.funcs ++ codes "})" ++ attrs_text a.attrs ++ codes " : () -> ()\n") (entries_same a.props b.props props)
    ∙ ap (λ fs. codes "\"builtin.module\"()" ++ props_text b.props ++ codes " ({\n" ++ fs ++ codes "})" ++ attrs_text a.attrs ++ codes " : () -> ()\n") (all_of_text a.funcs b.funcs funcs)
    ∙ ap (λ es. codes "\"builtin.module\"()" ++ props_text b.props ++ codes " ({\n" ++ funcs_text b.funcs ++ codes "})" ++ attrs_text es ++ codes " : () -> ()\n") (entries_same a.attrs b.attrs attrs)

-- The lines: they look at functions only by their names

props_by : (f : Op) → props_of f ≡ (kind_in f).props
props_by (op k results operands regions successors) = refl

name_by : (fs gs : List Op) (k : ℕ) → map kind_in fs ≡ map kind_in gs → function_name (slice_get fs k) ≡ function_name (slice_get gs k)
name_by [] [] k e = refl
name_by [] (g ∷ gs) k e = absurd cc
name_by (f ∷ fs) [] k e = absurd cc
name_by (f ∷ fs) (g ∷ gs) zero e =
    let same : kind_in f ≡ kind_in g = cc in
    ap (λ ps. unwrap_or (name_in ps) []) (props_by f ∙ ap (λ (k : Kind). k.props) same ∙ sym (props_by g))
name_by (f ∷ fs) (g ∷ gs) (suc k) e = let rest : map kind_in fs ≡ map kind_in gs = cc in name_by fs gs k rest

lines_by : (fs gs : List Op) (es : List Failure) → map kind_in fs ≡ map kind_in gs → all_lines fs es ≡ all_lines gs es
lines_by fs gs [] e = refl
lines_by fs gs (x ∷ es) e =
    ap (λ n. lines_of (record { function = x.function; pass = x.position; function_name = n; pass_name = pass_text x.pass; operation = x.number; operation_name = x.name; patterns = x.patterns }) ++ all_lines fs es)
    (name_by fs gs x.function e)
    ∙ ap (λ ds. lines_of (said gs x) ++ ds) (lines_by fs gs es e)

-- Both

pub one_lowering : OneLowering
one_lowering p m a b here there =
    let both : FoldsAlike here.fold there.fold = folds_alike p m here.fold there.fold here.folds there.folds in
    let of_a : map plain_func a.module_behind.funcs ≡ here.fold.module_behind.funcs = ap (λ (l : Lowered). l.module_behind.funcs) here.is in
    let of_b : map plain_func b.module_behind.funcs ≡ there.fold.module_behind.funcs = ap (λ (l : Lowered). l.module_behind.funcs) there.is in
    let funcs : AllAlike (map plain_func a.module_behind.funcs) (map plain_func b.module_behind.funcs)
    = subst (λ fs. AllAlike fs (map plain_func b.module_behind.funcs)) (sym of_a) (subst (λ gs. AllAlike here.fold.module_behind.funcs gs) (sym of_b) both.funcs) in
    let props : plain_entries a.module_behind.props ≡ plain_entries b.module_behind.props
    = ap (λ (l : Lowered). l.module_behind.props) here.is ∙ both.props ∙ sym (ap (λ (l : Lowered). l.module_behind.props) there.is) in
    let attrs : plain_entries a.module_behind.attrs ≡ plain_entries b.module_behind.attrs
    = ap (λ (l : Lowered). l.module_behind.attrs) here.is ∙ both.attrs ∙ sym (ap (λ (l : Lowered). l.module_behind.attrs) there.is) in
    let lines : all_lines here.fold.module_behind.funcs here.fold.failures ≡ all_lines there.fold.module_behind.funcs there.fold.failures
    = lines_by here.fold.module_behind.funcs there.fold.module_behind.funcs here.fold.failures (all_kinds here.fold.module_behind.funcs there.fold.module_behind.funcs both.funcs)
    ∙ ap (λ es. all_lines there.fold.module_behind.funcs es) both.failures in
    record {
      text = text_same a.module_behind b.module_behind props attrs funcs;
      lines = ap (λ (l : Lowered). l.lines) here.is ∙ ap lines_text lines ∙ sym (ap (λ (l : Lowered). l.lines) there.is);
      failed = ap (λ (l : Lowered). l.failed) here.is ∙ ap (λ (es : List Failure). not (is_empty es)) both.failures ∙ sym (ap (λ (l : Lowered). l.failed) there.is);
    }
