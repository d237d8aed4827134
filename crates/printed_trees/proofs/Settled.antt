-- The tree of an operation whose dictionaries are settled.
use Rattle.std.proofs.Common.{◌≡◌, ℕ, ◌&&◌, Bool, true, false, not, List, [], ◌∷◌, ◌++◌, refl, true≢false, sym, ap, ◌∙◌}
use Rattle.std.specs.Prelude.{cond}
use Rattle.std.specs.List.{filter}
use Rattle.mlir_lex.proofs.Lengths.{and-left, and-right}
use Rattle.tree_model.specs.declared.op_tree.OpTree.{roll-OpTree}
use Rattle.tree_model.specs.declared.op_tree.RegionTree.{RegionTree}
use Rattle.plain_tree.specs.Attrs.{Entries, attr_tree, dict_in, entries_tree}
use Rattle.plain_tree.specs.Ops.{Kind, Values, values_tree}
use Rattle.term_table.specs.Terms.{Term}
use Rattle.op_catalog.specs.Table.{shape_of}
use Rattle.event_trees.specs.Wording.{Wording}
use Rattle.event_trees.specs.Dictionaries.{Entry, attrs_of, belongs, listed, props_of, sorted}
use Rattle.event_trees.specs.Attrs.{written_of}
use Rattle.event_trees.specs.Levels.{numbered, op_named, result_types}
use Rattle.printed_terms.specs.Ordered.{is_ordered_dict}
use Rattle.printed_terms.proofs.AttrTerms.{sorted_is}
use Rattle.printed_trees.specs.Settled.{are_own, is_settled_kind}
use Rattle.printed_trees.proofs.Parts.{dict_is, parts}

no_more : (xs : List Entry) → xs ++ [] ≡ xs
no_more [] = refl
no_more (x ∷ xs) = ap (λ ys. x ∷ ys) (no_more xs)

entries_sorted : (es : Entries) → is_ordered_dict (dict_in es) ≡ true → sorted (entries_tree es) ≡ entries_tree es
entries_sorted es h = ap sorted (sym (dict_is es)) ∙ sorted_is (dict_in es) h ∙ dict_is es

none_moves : (name : List ℕ) (es : Entries) → are_own name es ≡ true → filter (belongs name) (entries_tree es) ≡ []
none_moves name [] h = refl
none_moves name (e ∷ es) h = by_test (listed (shape_of name) e.0) (and-left _ _ h) ∙ none_moves name es (and-right (not (listed (shape_of name) e.0)) _ h)
  where
    by_test : (b : Bool) → not b ≡ true → cond b ((e.0, attr_tree e.1) ∷ filter (belongs name) (entries_tree es)) (filter (belongs name) (entries_tree es)) ≡ filter (belongs name) (entries_tree es)
    by_test true h = absurd (true≢false (sym h))
    by_test false h = refl

all_stay : (name : List ℕ) (es : Entries) → are_own name es ≡ true → filter (λ e. not (belongs name e)) (entries_tree es) ≡ entries_tree es
all_stay name [] h = refl
all_stay name (e ∷ es) h = by_test (listed (shape_of name) e.0) (and-left _ _ h) ∙ ap (λ xs. (e.0, attr_tree e.1) ∷ xs) (all_stay name es (and-right (not (listed (shape_of name) e.0)) _ h))
  where
    by_test : (b : Bool) → not b ≡ true
        → cond (not b) ((e.0, attr_tree e.1) ∷ filter (λ e. not (belongs name e)) (entries_tree es)) (filter (λ e. not (belongs name e)) (entries_tree es)) ≡ (e.0, attr_tree e.1) ∷ filter (λ e. not (belongs name e)) (entries_tree es)
    by_test true h = absurd (true≢false (sym h))
    by_test false h = refl

props_are : (name : List ℕ) (ps others : Entries) → is_ordered_dict (dict_in ps) ≡ true → are_own name others ≡ true → props_of name (entries_tree ps) (entries_tree others) ≡ entries_tree ps
props_are name ps others h own = ap (λ xs. sorted (entries_tree ps ++ xs)) (none_moves name others own) ∙ ap sorted (no_more (entries_tree ps)) ∙ entries_sorted ps h

attrs_are : (name : List ℕ) (others : Entries) → is_ordered_dict (dict_in others) ≡ true → are_own name others ≡ true → attrs_of name (entries_tree others) ≡ entries_tree others
attrs_are name others h own = ap sorted (all_stay name others own) ∙ entries_sorted others h

-- what is read from the parts of an operation is its tree
pub op_is : (wording : Wording) (k : Kind) (results : Values) (operands : List ℕ) (regions : List RegionTree) (successors : List ℕ) (name number : ℕ) (props attrs signature : Term) → is_settled_kind k ≡ true
    → wording.spelled name ≡ k.name → numbered number (result_types signature) ≡ values_tree results → written_of wording props ≡ entries_tree k.props → written_of wording attrs ≡ entries_tree k.attrs
    → op_named wording name number (parts operands successors props regions attrs signature)
    ≡ roll-OpTree (record { name = k.name; results = values_tree results; operands = operands; props = entries_tree k.props; attrs = entries_tree k.attrs; regions = regions; successors = successors })
op_is wording k results operands regions successors name number props attrs signature h e r p a =
    let own : (is_ordered_dict (dict_in k.attrs) && are_own k.name k.attrs) ≡ true = and-right (is_ordered_dict (dict_in k.props)) _ h in
    let props_same : props_of (wording.spelled name) (written_of wording props) (written_of wording attrs) ≡ entries_tree k.props =
    ap (λ b. props_of b (written_of wording props) (written_of wording attrs)) e ∙ ap (λ x. props_of k.name x (written_of wording attrs)) p ∙ ap (props_of k.name (entries_tree k.props)) a
    ∙ props_are k.name k.props k.attrs (and-left _ _ h) (and-right (is_ordered_dict (dict_in k.attrs)) _ own) in
    let attrs_same : attrs_of (wording.spelled name) (written_of wording attrs) ≡ entries_tree k.attrs =
    ap (λ b. attrs_of b (written_of wording attrs)) e ∙ ap (attrs_of k.name) a ∙ attrs_are k.name k.attrs (and-left _ _ own) (and-right (is_ordered_dict (dict_in k.attrs)) _ own) in
    λ i. roll-OpTree (record { name = e i; results = r i; operands = operands; props = props_same i; attrs = attrs_same i; regions = regions; successors = successors })
