-- The tree of a printed module.
use Rattle.std.proofs.Common.{◌≡◌, ℕ, ◌+◌, ◌&&◌, Bool, true, false, not, List, [], ◌∷◌, map, Option, refl, sym, ap, ◌∙◌, subst}
use Rattle.std.specs.Prelude.{codes, if◌then◌else◌}
use Rattle.std.specs.List.{list_all}
use Rattle.std.specs.Str.{bytes_eq}
use Rattle.mlir_lex.proofs.Lengths.{and-left, and-right}
use Rattle.text_grammar.specs.declared.places.Place.TheVariants as places
use Rattle.tree_model.specs.declared.op_tree.OpTree.{OpTree, out-OpTree, out-roll-OpTree, roll-OpTree}
use Rattle.tree_model.specs.declared.op_tree.BlockTree.{BlockTree, out-BlockTree, out-roll-BlockTree, roll-BlockTree}
use Rattle.tree_model.specs.declared.op_tree.BlockTree.TheOpen.{OpTree-F, BlockTree-F, RegionTree-F}
use Rattle.tree_model.specs.declared.op_tree.RegionTree.{RegionTree, out-roll-RegionTree, roll-RegionTree}
use Rattle.plain_tree.specs.Attrs.{dict_in, entries_tree}
use Rattle.plain_tree.specs.Ops.{Kind, Op, op, PlainModule, func_tree, module_tree, op_tree}
use Rattle.text_model.specs.PrintedNames.{names_along}
use Rattle.term_table.specs.declared.node.Form.TheVariants as forms
use Rattle.term_table.specs.Terms.{Term, nothing, node}
use Rattle.text_events.specs.declared.event.Event.{Event}
use Rattle.text_types.specs.Spelling.{Spelling}
use Rattle.text_types.specs.Items.{Aliases, begun}
use Rattle.text_types.specs.Aliases.{aliases_of}
use Rattle.text_types.specs.Marks.{marked}
use Rattle.text_scopes.specs.declared.bodies.Body.{Body}
use Rattle.text_scopes.specs.declared.bodies.Class.{Class}
use Rattle.text_scopes.specs.declared.tables.Names.TheVariants as names
use Rattle.text_scopes.specs.Bodies.{is_module}
use Rattle.text_scopes.specs.Tables.{definitions}
use Rattle.event_trees.specs.Wording.{Wording}
use Rattle.event_trees.specs.Numbers.{first_count, no_counts}
use Rattle.event_trees.specs.Levels.{Levels, closed_over, empty, levels_of, no_parts, on_first, ops_of, region_blocks, with_block, with_op}
use Rattle.event_trees.specs.Modules.{as_module, around, body_of, first_ops, funcs_of, module_of}
use Rattle.event_trees.specs.Roles.{numbers_at, roles_with, terms_at}
use Rattle.printed_words.specs.Words.{PrintedWord}
use Rattle.printed_attrs.specs.Readable.{is_readable_dict}
use Rattle.printed_ops.specs.Named.{is_known_op}
use Rattle.printed_modules.specs.ModuleWords.{body_words, is_known, module_words, more_funcs, own_names}
use Rattle.printed_terms.specs.Ordered.{is_ordered_dict}
use Rattle.printed_terms.proofs.SpellLemmas.{string_spelled}
use Rattle.printed_terms.proofs.SeenWords.{no_words, one_more, seen}
use Rattle.printed_marks.proofs.OpWords.{module_plain}
use Rattle.printed_marks.proofs.EventLemmas.{unmarked}
use Rattle.printed_trees.specs.Numbering.{Count, is_numbered, none_counted, past_values}
use Rattle.printed_trees.specs.Settled.{are_own, is_settled, is_settled_kind}
use Rattle.printed_trees.specs.Serving.{Serve, ServeLabels}
use Rattle.printed_trees.specs.Roles.{at}
use Rattle.printed_trees.specs.Laws.{AreClasses, ModulesDenote, funcs_targets, funcs_uses, is_numbered_module, is_settled_module, name_of}
use Rattle.printed_trees.proofs.Fronts.{here, past}
use Rattle.printed_trees.proofs.Suffixes.{Suffix, next}
use Rattle.printed_trees.proofs.Fused.{fused}
use Rattle.printed_trees.proofs.Steps.{body_colon, left, op_name, skip}
use Rattle.printed_trees.proofs.Parts.{Here, attrs_read, first, level, parts, props_read, reads, signature_read, waits}
use Rattle.printed_trees.proofs.Settled.{op_is}
use Rattle.printed_trees.proofs.OpTrees.{op_read}

-- the body of the module, before and behind its functions
abbrev body : Bool → Body
body at_module = record { within = 0; at_module = at_module }

abbrev flag : Bool → List Op → Bool
flag at_module [] = at_module
flag at_module (f ∷ fs) = flag false fs

module _ (words : Spelling) (wording : Wording) (aliases : Aliases) (classify : List ℕ → Class) (class : ℕ → Class) (numbers : List ℕ) (all : List Event) (classes : AreClasses classify wording class all) where
  abbrev Is : List PrintedWord → List Event → Type 0
  Is ws es = Here words wording aliases class numbers all ws es

  abbrev look : Body → Count → List (Option ℕ) → List (Option ℕ) → List Event → Levels
  look b c values labels es = reads words wording aliases class numbers all (at b c) (left values labels) es

  abbrev wait : List Event → List ℕ
  wait es = waits words wording aliases class numbers all es

  -- the body's region
  region_begin : (name : ℕ) (es : List Event) (c : Count) (values labels : List (Option ℕ)) → look (body true) c values labels (record { place = places.RegionOpen; name = name } ∷ es) ≡ closed_over c.labels (look (body true) none_counted values labels es)
  region_begin name es c values labels = refl

  region_end : (name : ℕ) (es : List Event) (at_module : Bool) (c : Count) (values labels : List (Option ℕ)) → look (body at_module) c values labels (record { place = places.RegionClose; name = name } ∷ es) ≡ empty ∷ look (body true) none_counted values labels es
  region_end name es at_module c values labels = refl

  -- Functions
  record FuncsGo (fs : List Op) (at_module : Bool) (values labels : List (Option ℕ)) (from behind : List Event) : Type 0 where
    values_left : List (Option ℕ)
    labels_left : List (Option ℕ)
    is : (bs : List BlockTree) (ls : Levels) → look (body (flag at_module fs)) none_counted values_left labels_left behind ≡ level no_parts [] [] bs ∷ ls
        → look (body at_module) none_counted values labels from ≡ level no_parts [] (map op_tree fs) bs ∷ ls

  record FuncsRead (fs : List Op) (rest : List PrintedWord) (from : List Event) : Type 0 where
    behind : List Event
    here : Is rest behind
    waiting : wait from ≡ wait behind
    go : (at_module : Bool) (values labels : List (Option ℕ)) → list_all (is_numbered none_counted) fs ≡ true → Serve numbers (funcs_uses fs) values → ServeLabels numbers (funcs_targets fs) labels → FuncsGo fs at_module values labels from behind

  -- the name of a function is none of a module
  no_module : (number : ℕ) (name : List ℕ) (rest : List Event) → Suffix all (record { place = places.OpName; name = number } ∷ rest) → wording.spelled number ≡ name → is_module (classify name) ≡ false → is_module (class number) ≡ false
  no_module number name rest s e h = ap is_module (classes number s.front rest s.is) ∙ ap (λ b. is_module (classify b)) e ∙ h

  not_is : (b : Bool) → not b ≡ true → b ≡ false
  not_is true h = sym h
  not_is false h = refl

  funcs_read : (fs : List Op) (rest : List PrintedWord) (es : List Event) → list_all (λ f. is_known_op (own_names f) f) fs ≡ true → list_all is_settled fs ≡ true → list_all (λ f. not (is_module (classify (name_of f)))) fs ≡ true
      → Is (more_funcs fs rest) es → FuncsRead fs rest es
  funcs_read [] rest es know settled classed told =
      record { behind = es; here = told; waiting = refl; go = λ at_module values labels h s t. record { values_left = values; labels_left = labels; is = λ bs ls e. e } }
  funcs_read (op k results operands regions successors ∷ fs) rest es know settled classed told =
      let f : Op = op k results operands regions successors in
      let one = op_read words wording aliases class numbers all (own_names f) (codes "  ") f _ es (and-left _ _ know) (and-left _ _ settled) told in
      let others = funcs_read fs rest one.behind (and-right (is_known_op (own_names f) f) _ know) (and-right (is_settled f) _ settled) (and-right (not (is_module (classify k.name))) _ classed) one.here in
      let plain : is_module (class one.number) ≡ false = no_module one.number k.name one.named.0 one.named.1 one.spelled (not_is (is_module (classify k.name)) (and-left _ _ classed)) in
      record {
        behind = others.behind;
        here = others.here;
        waiting = one.waiting ∙ others.waiting;
        go = λ at_module values labels h s t.
            let g = one.go (funcs_uses fs) (funcs_targets fs) (body at_module) 0 false none_counted values labels true (ap (λ b. body b) plain) refl refl (and-left _ _ h) s t in
            let m = others.go false g.values_left g.labels_left (and-right (is_numbered none_counted f) _ h) g.serve g.serve_labels in
            record { values_left = m.values_left; labels_left = m.labels_left; is = λ bs ls e. g.is [] (map op_tree fs) bs ls (m.is bs ls e) };
      }

  -- The body: a label where there is no function
  record BodyGo (fs : List Op) (values labels : List (Option ℕ)) (from behind : List Event) : Type 0 where
    values_left : List (Option ℕ)
    labels_left : List (Option ℕ)
    flagged : Bool
    counted : Count
    inner : List OpTree
    blocks : List BlockTree
    trees : (label : ℕ) → first_ops (region_blocks label inner blocks) ≡ map op_tree fs
    is : (ls : Levels) → look (body flagged) counted values_left labels_left behind ≡ empty ∷ ls → look (body true) none_counted values labels from ≡ level no_parts [] inner blocks ∷ ls

  record BodyRead (fs : List Op) (rest : List PrintedWord) (from : List Event) : Type 0 where
    behind : List Event
    here : Is rest behind
    waiting : wait from ≡ wait behind
    go : (values labels : List (Option ℕ)) → list_all (is_numbered none_counted) fs ≡ true → Serve numbers (funcs_uses fs) values → ServeLabels numbers (funcs_targets fs) labels → BodyGo fs values labels from behind

  out_block : (label : ℕ) (ops : List OpTree) → (out-BlockTree (roll-BlockTree (record { label = label; args = []; ops = ops }))).ops ≡ ops
  out_block label ops = ap (λ (b : BlockTree-F BlockTree OpTree RegionTree). b.ops) (out-roll-BlockTree (record { label = label; args = []; ops = ops }))

  body_read : (fs : List Op) (rest : List PrintedWord) (es : List Event) → list_all (λ f. is_known_op (own_names f) f) fs ≡ true → list_all is_settled fs ≡ true → list_all (λ f. not (is_module (classify (name_of f)))) fs ≡ true
      → Is (body_words fs rest) es → BodyRead fs rest es
  body_read [] rest es know settled classed (one_more w k says _ (one_more x m {es = zs} said _ more)) = record {
    behind = zs;
    here = more;
    waiting = refl;
    go = λ values labels h s t. record {
      values_left = values;
      labels_left = labels;
      flagged = true;
      counted = none_counted;
      inner = [];
      blocks = roll-BlockTree (record { label = 0; args = []; ops = [] }) ∷ [];
      trees = λ label. out_block 0 [];
      is = λ ls e. ap (on_first (with_block 0)) (colon m zs values labels ∙ e);
    };
  }
    where
      colon : (name : ℕ) (zs : List Event) (values labels : List (Option ℕ)) → look (body true) (record { values = 0; labels = 0 + 1 }) values labels (record { place = places.BlockColon; name = name } ∷ zs) ≡ look (body true) none_counted values labels zs
      colon name zs values labels = body_colon words wording aliases class numbers name zs true (record { values = 0; labels = 0 + 1 }) (left values labels)
  body_read (f ∷ fs) rest es know settled classed told =
      let r = funcs_read (f ∷ fs) rest es know settled classed told in
      record {
        behind = r.behind;
        here = r.here;
        waiting = r.waiting;
        go = λ values labels h s t.
            let g = r.go true values labels h s t in
            record {
              values_left = g.values_left;
              labels_left = g.labels_left;
              flagged = flag true (f ∷ fs);
              counted = none_counted;
              inner = map op_tree (f ∷ fs);
              blocks = [];
              trees = λ label. out_block label (map op_tree (f ∷ fs));
              is = λ ls e. g.is [] ls e;
            };
      }

  -- The module
  ended : (zs : List Event) → Is [] zs → zs ≡ []
  ended zs (no_words is) = refl

  abbrev module_kind : PlainModule → Kind
  module_kind m = record { name = codes "builtin.module"; props = m.props; attrs = m.attrs }

  -- the operation with this region
  abbrev module_op : PlainModule → RegionTree → OpTree
  module_op m r = roll-OpTree (record { name = codes "builtin.module"; results = []; operands = []; props = entries_tree m.props; attrs = entries_tree m.attrs; regions = r ∷ []; successors = [] })

  record ModuleGo (m : PlainModule) (values labels : List (Option ℕ)) (es : List Event) : Type 0 where
    inner : List OpTree
    blocks : List BlockTree
    trees : first_ops (region_blocks 0 inner blocks) ≡ map op_tree m.funcs
    is : look (body false) none_counted values labels es ≡ level no_parts [] (module_op m (roll-RegionTree (record { blocks = region_blocks 0 inner blocks })) ∷ []) [] ∷ []

  module_go : (m : PlainModule) (values labels : List (Option ℕ)) (es : List Event) → is_module (classify (codes "builtin.module")) ≡ true → is_known m ≡ true → is_settled_module m ≡ true
      → list_all (λ f. not (is_module (classify (name_of f)))) m.funcs ≡ true → is_numbered_module m ≡ true → Serve numbers (funcs_uses m.funcs) values → ServeLabels numbers (funcs_targets m.funcs) labels → Is (module_words m) es → ModuleGo m values labels es
  module_go m values labels es itself know settled classed numbered s t (one_more w n says suffix (one_more x p said _ (one_more y q {es = zs} close _ told))) =
      let funcs_known : (is_readable_dict (dict_in m.attrs) && list_all (λ f. is_known_op (own_names f) f) m.funcs) ≡ true = and-right (is_readable_dict (dict_in m.props)) _ know in
      let own : is_settled_kind (module_kind m) ≡ true = and-left _ _ settled in
      let ordered : (is_ordered_dict (dict_in m.attrs) && are_own (codes "builtin.module") m.attrs) ≡ true = and-right (is_ordered_dict (dict_in m.props)) _ own in
      let props = props_read words wording aliases class numbers all m.props _ zs (and-left _ _ know) (and-left _ _ own) told in
      let r = first words wording aliases class numbers all props.here in
      let o = first words wording aliases class numbers all r.here in
      let b = body_read m.funcs _ o.behind (and-right (is_readable_dict (dict_in m.attrs)) _ funcs_known) (and-right (is_settled_kind (module_kind m)) _ settled) classed o.here in
      let c = first words wording aliases class numbers all b.here in
      let d = first words wording aliases class numbers all c.here in
      let attrs = attrs_read words wording aliases class numbers all m.attrs _ d.behind (and-left _ _ funcs_known) (and-left _ _ ordered) d.here in
      let sig = signature_read words wording aliases class numbers all (names_along []) [] [] [] attrs.behind refl refl attrs.here in
      let nothing_left : sig.behind ≡ [] = ended sig.behind sig.here in
      let g = b.go values labels numbered s t in
      let signature : Term = node forms.Func 0 nothing nothing in
      let region_tree : RegionTree = roll-RegionTree (record { blocks = region_blocks 0 g.inner g.blocks }) in
      let waiting : wait props.behind ≡ 0 ∷ wait sig.behind = ap wait r.is ∙ ap wait o.is ∙ b.waiting ∙ ap wait c.is ∙ ap wait d.is ∙ attrs.waiting ∙ sig.waiting in
      let itself_is : is_module (class n) ≡ true = ap is_module (classes n suffix.front _ suffix.is) ∙ ap (λ bs. is_module (classify bs)) (says ∙ string_spelled (codes "builtin.module") refl) ∙ itself in
      let outer : look (body true) none_counted g.values_left g.labels_left c.behind ≡ level (parts [] [] nothing [] attrs.term signature) [] [] [] ∷ [] =
      ap (look (body true) none_counted g.values_left g.labels_left) d.is
      ∙ skip words wording aliases class numbers (at (body true) none_counted) (left g.values_left g.labels_left) (past (record { place = places.RegionsClose; name = d.name }) refl (here d.behind))
      ∙ attrs.is (at (body true) none_counted) (left g.values_left g.labels_left) signature [] [] [] []
      (sig.is (body true) none_counted (left g.values_left g.labels_left) true [] [] [] [] refl (ap (look (body true) none_counted g.values_left g.labels_left) nothing_left)) in
      let all_props : look (body true) none_counted values labels zs ≡ level (parts [] [] props.term (region_tree ∷ []) attrs.term signature) [] [] [] ∷ [] =
      props.is (at (body true) none_counted) (left values labels) (region_tree ∷ []) attrs.term signature [] [] [] []
      (ap (look (body true) none_counted values labels) r.is
      ∙ skip words wording aliases class numbers (at (body true) none_counted) (left values labels) (past (record { place = places.RegionsOpen; name = r.name }) refl (here r.behind))
      ∙ ap (look (body true) none_counted values labels) o.is ∙ region_begin o.name o.behind none_counted values labels
      ∙ ap (closed_over 0) (g.is (level (parts [] [] nothing [] attrs.term signature) [] [] [] ∷ [])
      (ap (look (body g.flagged) g.counted g.values_left g.labels_left) c.is ∙ region_end c.name c.behind g.flagged g.counted g.values_left g.labels_left ∙ ap (λ (ls : Levels). empty ∷ ls) outer))) in
      record {
        inner = g.inner;
        blocks = g.blocks;
        trees = g.trees 0;
        is = op_name words wording aliases class numbers n (record { place = places.OperandsOpen; name = p } ∷ record { place = places.OperandsClose; name = q } ∷ zs) (body false) 0 none_counted (left values labels)
            ∙ ap (λ f. on_first (with_op wording n 0) (look (body f) (past_values none_counted (first_count (wait zs))) values labels (record { place = places.OperandsOpen; name = p } ∷ record { place = places.OperandsClose; name = q } ∷ zs))) itself_is
            ∙ ap (λ j. on_first (with_op wording n 0) (look (body true) (past_values none_counted (first_count j)) values labels (record { place = places.OperandsOpen; name = p } ∷ record { place = places.OperandsClose; name = q } ∷ zs))) (props.waiting ∙ waiting)
            ∙ ap (on_first (with_op wording n 0)) (skip words wording aliases class numbers (at (body true) none_counted) (left values labels)
            (past (record { place = places.OperandsOpen; name = p }) refl (past (record { place = places.OperandsClose; name = q }) refl (here zs))) ∙ all_props)
            ∙ ap (λ t. level no_parts [] (t ∷ []) [] ∷ []) (op_is wording (module_kind m) [] [] (region_tree ∷ []) [] n 0 props.term attrs.term signature own (says ∙ string_spelled (codes "builtin.module") refl) refl props.entries attrs.entries);
      }

-- functions of these operations
funcs_are : (fs : List Op) → funcs_of (map op_tree fs) ≡ map func_tree fs
funcs_are [] = refl
funcs_are (f ∷ fs) = ap (λ x. func_tree f ∷ x) (funcs_are fs)

-- the module that the file's one operation is
module_is : (m : PlainModule) (blocks : List BlockTree) → first_ops blocks ≡ map op_tree m.funcs
    → module_of (roll-OpTree (record { name = codes "builtin.module"; results = []; operands = []; props = entries_tree m.props; attrs = entries_tree m.attrs; regions = roll-RegionTree (record { blocks = blocks }) ∷ []; successors = [] }) ∷ []) ≡ module_tree m
module_is m blocks e =
    ap (λ (x : OpTree-F BlockTree OpTree RegionTree). if bytes_eq x.name (codes "builtin.module") then as_module o else around (o ∷ [])) opened
    ∙ ap (λ (x : OpTree-F BlockTree OpTree RegionTree). record { props = x.props; attrs = x.attrs; funcs = funcs_of (body_of x.regions) }) opened
    ∙ ap (λ (r : RegionTree-F BlockTree OpTree RegionTree). record { props = entries_tree m.props; attrs = entries_tree m.attrs; funcs = funcs_of (first_ops r.blocks) }) (out-roll-RegionTree (record { blocks = blocks }))
    ∙ ap (λ os. record { props = entries_tree m.props; attrs = entries_tree m.attrs; funcs = funcs_of os }) e
    ∙ ap (λ fs. record { props = entries_tree m.props; attrs = entries_tree m.attrs; funcs = fs }) (funcs_are m.funcs)
  where
    parts_of : OpTree-F BlockTree OpTree RegionTree
    parts_of = record { name = codes "builtin.module"; results = []; operands = []; props = entries_tree m.props; attrs = entries_tree m.attrs; regions = roll-RegionTree (record { blocks = blocks }) ∷ []; successors = [] }

    o : OpTree
    o = roll-OpTree parts_of

    opened : out-OpTree o ≡ parts_of
    opened = out-roll-OpTree parts_of

pub modules_denote : ModulesDenote
modules_denote words wording classify class m es told classes itself classed know settled numbered s t =
    ap (λ ts. module_of (ops_of (levels_of wording (roles_with wording class es ts)))) terms
    ∙ ap (λ rs. module_of (ops_of (levels_of wording rs))) (fused words wording aliases class numbers no_counts (left (definitions names.Values class es) (definitions names.Labels class es)) es)
    ∙ ap (λ ls. module_of (ops_of ls)) g.is
    ∙ module_is m (region_blocks 0 g.inner g.blocks) g.trees
  where
    aliases : Aliases
    aliases = aliases_of words (marked es)

    terms : terms_at words es ≡ begun words aliases es
    terms = ap (begun words aliases) (unmarked words wording told (module_plain m))

    numbers : List ℕ
    numbers = numbers_at wording class es (begun words aliases es)

    g : ModuleGo words wording aliases classify class numbers es classes m (definitions names.Values class es) (definitions names.Labels class es) es
    g = module_go words wording aliases classify class numbers es classes m (definitions names.Values class es) (definitions names.Labels class es) es itself know settled classed numbered
        (subst (λ ts. Serve (numbers_at wording class es ts) (funcs_uses m.funcs) (definitions names.Values class es)) terms s)
        (subst (λ ts. ServeLabels (numbers_at wording class es ts) (funcs_targets m.funcs) (definitions names.Labels class es)) terms t)
        (seen words wording (Suffix es) (λ e rest. next es e rest) (record { front = []; is = refl }) told)
