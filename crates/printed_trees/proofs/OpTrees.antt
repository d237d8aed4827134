-- The trees of printed operations.
use Rattle.std.proofs.Common.{◌≡◌, ℕ, ◌+◌, ◌-◌, ◌&&◌, Bool, true, false, not, ◌||◌, List, [], ◌∷◌, ◌++◌, length, drop, Option, refl, sym, ap, ◌∙◌, true≢false, arith}
use Rattle.std.specs.Prelude.{codes, ◌==◌, if◌then◌else◌}
use Rattle.std.specs.List.{list_all}
use Rattle.mlir_lex.proofs.Lengths.{and-left, and-right, eqb-is}
use Rattle.text_grammar.specs.declared.places.Place.TheVariants as places
use Rattle.tree_model.specs.declared.type_tree.TypeTree.{TypeTree}
use Rattle.tree_model.specs.declared.op_tree.OpTree.{OpTree}
use Rattle.tree_model.specs.declared.op_tree.BlockTree.{BlockTree, roll-BlockTree}
use Rattle.tree_model.specs.declared.op_tree.RegionTree.{roll-RegionTree}
use Rattle.plain_tree.specs.Attrs.{dict_in}
use Rattle.plain_tree.specs.Ops.{Kind, Op, op, Ops, end_of_ops, more_ops, Regions, end_of_regions, region, Blocks, end_of_blocks, block, Values, op_tree, op_trees, region_trees, block_trees, values_tree}
use Rattle.text_model.specs.PrintedNames.{Names}
use Rattle.text_model.specs.PrintedOps.{has_none}
use Rattle.term_table.specs.Terms.{Term, nothing}
use Rattle.text_events.specs.declared.event.Event.{Event}
use Rattle.text_types.specs.Spelling.{Spelling}
use Rattle.text_types.specs.Items.{Aliases, place_next}
use Rattle.text_scopes.specs.declared.bodies.Body.{Body}
use Rattle.text_scopes.specs.declared.bodies.Class.{Class}
use Rattle.text_scopes.specs.Bodies.{is_module, opens_body, behind as body_behind}
use Rattle.event_trees.specs.Wording.{Wording}
use Rattle.event_trees.specs.Numbers.{begins_operation, first_count}
use Rattle.event_trees.specs.Levels.{Levels, closed_over, empty, no_parts, on_first, region_blocks, with_op}
use Rattle.tree_text.specs.NameText.{string_text}
use Rattle.printed_words.specs.Words.{PrintedWord}
use Rattle.printed_ops.specs.OpWords.{label_words, operand_types, op_words, ops_words, regions_words, more_regions, blocks_words, blocks_from, close_word, no_ops, shows}
use Rattle.printed_ops.specs.Named.{are_known_blocks, are_known_ops, are_known_regions, is_known_arg, is_known_op, is_small}
use Rattle.printed_ops.proofs.TextLemmas.{known}
use Rattle.printed_ops.proofs.ReadLemmas.{operands_formed, values_formed}
use Rattle.printed_terms.specs.Ordered.{is_ordered_dict}
use Rattle.printed_terms.proofs.SpellLemmas.{string_spelled}
use Rattle.printed_terms.proofs.SeenWords.{one_more}
use Rattle.printed_trees.specs.Numbering.{Count, are_counted, are_numbered, are_numbered_blocks, are_numbered_regions, is_numbered, past_blocks, past_head, past_op, past_ops, past_regions, past_values}
use Rattle.printed_trees.specs.Settled.{are_settled, are_settled_blocks, are_settled_regions, is_settled, is_settled_kind}
use Rattle.printed_trees.specs.Serving.{Serve, ServeLabels, Use, block_targets, block_uses, op_targets, op_uses, ops_targets, ops_uses, region_targets, region_uses}
use Rattle.printed_trees.specs.Roles.{at}
use Rattle.printed_trees.proofs.Fronts.{here, past}
use Rattle.printed_trees.proofs.Steps.{inside, left, opened, region_close, region_open, skip, typed}
use Rattle.printed_trees.proofs.Parts.{Here, Named, attrs_read, first, label_read, lead_read, level, operands_read, parts, props_read, reads, results_are, signature_of, signature_read, successors_read, waits}
use Rattle.printed_trees.proofs.Settled.{op_is}

-- no number and one more is 0
pub deep : (n : ℕ) → (n + 1 == 0) ≡ false
deep n = by_test (n + 1 == 0) refl
  where
    by_test : (b : Bool) → (n + 1 == 0) ≡ b → b ≡ false
    by_test true is = absurd (omega (arith, eqb-is (n + 1) 0 is))
    by_test false is = refl

back : (n : ℕ) → n + 1 - 1 ≡ n
back n = omega arith

no_values : (c : Count) → past_head c [] ≡ opened true c
no_values c = ap (λ k. record { values = k; labels = c.labels + 1 }) (same c.values)
  where
    same : (k : ℕ) → k + 0 ≡ k
    same k = omega arith

-- what a region's first block shows
no_args : (args : Values) → not (has_none args) ≡ false → args ≡ []
no_args [] h = refl
no_args (v ∷ args) h = absurd (true≢false h)

hides : (a b c : Bool) → (a || b || c) ≡ false → (a ≡ false) × (b ≡ false)
hides true b c h = absurd (true≢false h)
hides false true c h = absurd (true≢false h)
hides false false c h = (refl, refl)

abbrev pub name_of : Op → List ℕ
name_of (op k results operands regions successors) = k.name

attrs_ordered : (k : Kind) → is_settled_kind k ≡ true → is_ordered_dict (dict_in k.attrs) ≡ true
attrs_ordered k h = and-left _ _ (and-right (is_ordered_dict (dict_in k.props)) _ h)

-- operations before the first label are the first block
unlabelled : (label : ℕ) (args : Values) (ops : Ops) (more : Blocks) (number : ℕ) → no_ops ops ≡ false → args ≡ [] → label ≡ number → region_blocks number (op_trees ops) (block_trees more) ≡ block_trees (block label args ops more)
unlabelled label args end_of_ops more number some none same = absurd (true≢false some)
unlabelled label args (more_ops o os) more number some none same =
    ap (λ k. roll-BlockTree (record { label = k; args = []; ops = op_trees (more_ops o os) }) ∷ block_trees more) (sym same)
    ∙ ap (λ vs. roll-BlockTree (record { label = label; args = values_tree vs; ops = op_trees (more_ops o os) }) ∷ block_trees more) (sym none)

module _ (words : Spelling) (wording : Wording) (aliases : Aliases) (class : ℕ → Class) (numbers : List ℕ) (all : List Event) where
  abbrev Is : List PrintedWord → List Event → Type 0
  Is ws es = Here words wording aliases class numbers all ws es

  abbrev from_body : Body → Count → List (Option ℕ) → List (Option ℕ) → List Event → Levels
  from_body body c values labels es = reads words wording aliases class numbers all (at body c) (left values labels) es

  abbrev wait : List Event → List ℕ
  wait es = waits words wording aliases class numbers all es

  abbrev body_at : ℕ → Bool → Body
  body_at within at_module = record { within = within; at_module = at_module }

  -- An operation, in a body that its name leaves as this one
  pub record OpGo (o : Op) (us : List Use) (ts : List ℕ) (body : Body) (within : ℕ) (at_module : Bool) (c : Count) (values labels : List (Option ℕ)) (outside : Bool) (from behind : List Event) : Type 0 where
    pub values_left : List (Option ℕ)
    pub labels_left : List (Option ℕ)
    pub serve : Serve numbers us values_left
    pub serve_labels : ServeLabels numbers ts labels_left
    pub is : (a : List (ℕ × TypeTree)) (os : List OpTree) (bs : List BlockTree) (ls : Levels) → from_body (body_at within at_module) (typed outside (past_op c o)) values_left labels_left behind ≡ level no_parts a os bs ∷ ls
        → from_body body c values labels from ≡ level no_parts a (op_tree o ∷ os) bs ∷ ls

  pub record OpRead (n : Names) (o : Op) (name : List ℕ) (rest : List PrintedWord) (from : List Event) : Type 0 where
    pub behind : List Event
    pub here : Is rest behind
    pub waiting : wait from ≡ wait behind
    pub operation : begins_operation (place_next from) ≡ true
    pub number : ℕ
    pub named : Named words wording aliases class numbers all number
    pub spelled : wording.spelled number ≡ name
    pub go : (us : List Use) (ts : List ℕ) (body : Body) (within : ℕ) (at_module : Bool) (c : Count) (values labels : List (Option ℕ)) (outside : Bool)
        → body_behind class body (record { place = places.OpName; name = number }) ≡ body_at within at_module → opens_body (body_at within at_module) ≡ false → (within == 0) ≡ outside → is_numbered c o ≡ true
        → Serve numbers (op_uses n o us) values → ServeLabels numbers (op_targets o ts) labels → OpGo o us ts body within at_module c values labels outside from behind

  -- Operations in a region
  record OpsGo (os : Ops) (us : List Use) (ts : List ℕ) (within : ℕ) (at_module : Bool) (c : Count) (values labels : List (Option ℕ)) (from behind : List Event) : Type 0 where
    values_left : List (Option ℕ)
    labels_left : List (Option ℕ)
    serve : Serve numbers us values_left
    serve_labels : ServeLabels numbers ts labels_left
    is : (bs : List BlockTree) (ls : Levels) → from_body (inside within at_module) (past_ops c os) values_left labels_left behind ≡ level no_parts [] [] bs ∷ ls
        → from_body (inside within at_module) c values labels from ≡ level no_parts [] (op_trees os) bs ∷ ls

  record OpsRead (n : Names) (os : Ops) (rest : List PrintedWord) (from : List Event) : Type 0 where
    behind : List Event
    here : Is rest behind
    waiting : wait from ≡ wait behind
    operation : no_ops os ≡ false → begins_operation (place_next from) ≡ true
    go : (us : List Use) (ts : List ℕ) (within : ℕ) (at_module : Bool) (c : Count) (values labels : List (Option ℕ)) → are_numbered c os ≡ true
        → Serve numbers (ops_uses n os us) values → ServeLabels numbers (ops_targets os ts) labels → OpsGo os us ts within at_module c values labels from behind

  -- Blocks behind others
  record BlocksGo (bs : Blocks) (us : List Use) (ts : List ℕ) (within : ℕ) (at_module : Bool) (c : Count) (values labels : List (Option ℕ)) (from behind : List Event) : Type 0 where
    values_left : List (Option ℕ)
    labels_left : List (Option ℕ)
    serve : Serve numbers us values_left
    serve_labels : ServeLabels numbers ts labels_left
    is : (ls : Levels) → from_body (inside within at_module) (past_blocks c bs) values_left labels_left behind ≡ empty ∷ ls
        → from_body (inside within at_module) c values labels from ≡ level no_parts [] [] (block_trees bs) ∷ ls

  record BlocksRead (n : Names) (bs : Blocks) (rest : List PrintedWord) (from : List Event) : Type 0 where
    behind : List Event
    here : Is rest behind
    waiting : wait from ≡ wait behind
    go : (us : List Use) (ts : List ℕ) (within : ℕ) (at_module : Bool) (c : Count) (values labels : List (Option ℕ)) → are_numbered_blocks c bs ≡ true
        → Serve numbers (block_uses n bs us) values → ServeLabels numbers (block_targets bs ts) labels → BlocksGo bs us ts within at_module c values labels from behind

  -- All blocks of a region: the first operations may stand before the first label
  record Begun (bs : Blocks) (labelled : Bool) (within : ℕ) (at_module : Bool) (c : Count) (values labels : List (Option ℕ)) (from : List Event) (ls : Levels) : Type 0 where
    ops : List OpTree
    blocks : List BlockTree
    is : from_body (inside within at_module) (opened labelled c) values labels from ≡ level no_parts [] ops blocks ∷ ls
    trees : region_blocks c.labels ops blocks ≡ block_trees bs

  record FirstGo (bs : Blocks) (labelled : Bool) (us : List Use) (ts : List ℕ) (within : ℕ) (at_module : Bool) (c : Count) (values labels : List (Option ℕ)) (from behind : List Event) : Type 0 where
    values_left : List (Option ℕ)
    labels_left : List (Option ℕ)
    serve : Serve numbers us values_left
    serve_labels : ServeLabels numbers ts labels_left
    begun : (ls : Levels) → from_body (inside within at_module) (past_blocks c bs) values_left labels_left behind ≡ empty ∷ ls → Begun bs labelled within at_module c values labels from ls

  record FirstRead (n : Names) (bs : Blocks) (rest : List PrintedWord) (from : List Event) : Type 0 where
    behind : List Event
    here : Is rest behind
    waiting : wait from ≡ wait behind
    labelled : Bool
    operation : begins_operation (place_next from) ≡ labelled
    go : (us : List Use) (ts : List ℕ) (within : ℕ) (at_module : Bool) (c : Count) (values labels : List (Option ℕ)) → are_numbered_blocks c bs ≡ true
        → Serve numbers (block_uses n bs us) values → ServeLabels numbers (block_targets bs ts) labels → FirstGo bs labelled us ts within at_module c values labels from behind

  -- Regions
  record RegionsGo (rs : Regions) (us : List Use) (ts : List ℕ) (within : ℕ) (at_module : Bool) (c : Count) (values labels : List (Option ℕ)) (from behind : List Event) : Type 0 where
    values_left : List (Option ℕ)
    labels_left : List (Option ℕ)
    serve : Serve numbers us values_left
    serve_labels : ServeLabels numbers ts labels_left
    is : (attrs signature : Term) (a : List (ℕ × TypeTree)) (os : List OpTree) (bs : List BlockTree) (ls : Levels)
        → from_body (body_at within at_module) (past_regions c rs) values_left labels_left behind ≡ level (parts [] [] nothing [] attrs signature) a os bs ∷ ls
        → from_body (body_at within at_module) c values labels from ≡ level (parts [] [] nothing (region_trees rs) attrs signature) a os bs ∷ ls

  record RegionsRead (n : Names) (rs : Regions) (rest : List PrintedWord) (from : List Event) : Type 0 where
    behind : List Event
    here : Is rest behind
    waiting : wait from ≡ wait behind
    go : (us : List Use) (ts : List ℕ) (within : ℕ) (at_module : Bool) (c : Count) (values labels : List (Option ℕ)) → opens_body (body_at within at_module) ≡ false → are_numbered_regions c rs ≡ true
        → Serve numbers (region_uses n rs us) values → ServeLabels numbers (region_targets rs ts) labels → RegionsGo rs us ts within at_module c values labels from behind

  -- a region before others, from its first blocks on
  one_region : (n : Names) (indent : List ℕ) (blocks : Blocks) (rs : Regions) (rest : List PrintedWord) (begin : ℕ) (es : List Event) (more : List PrintedWord)
      → FirstRead n blocks (close_word indent ∷ more) es → ((zs : List Event) → Is more zs → RegionsRead n rs rest zs) → RegionsRead n (region blocks rs) rest (record { place = places.RegionOpen; name = begin } ∷ es)
  one_region n indent blocks rs rest begin es more f others =
      let c = first words wording aliases class numbers all f.here in
      let o = others c.behind c.here in
      record {
        behind = o.behind;
        here = o.here;
        waiting = f.waiting ∙ ap wait c.is ∙ o.waiting;
        go = λ us ts within at_module counts values labels body h s t.
            let g = f.go (region_uses n rs us) (region_targets rs ts) within at_module counts values labels (and-left _ _ h) s t in
            let m = o.go us ts within at_module (past_blocks counts blocks) g.values_left g.labels_left body (and-right (are_numbered_blocks counts blocks) _ h) g.serve g.serve_labels in
            record {
              values_left = m.values_left;
              labels_left = m.labels_left;
              serve = m.serve;
              serve_labels = m.serve_labels;
              is = λ attrs signature a os bs ls e.
                  let close : from_body (inside within at_module) (past_blocks counts blocks) g.values_left g.labels_left f.behind ≡ empty ∷ level (parts [] [] nothing (region_trees rs) attrs signature) a os bs ∷ ls =
                  ap (from_body (inside within at_module) (past_blocks counts blocks) g.values_left g.labels_left) c.is
                  ∙ region_close words wording aliases class numbers c.name c.behind within at_module (past_blocks counts blocks) (left g.values_left g.labels_left) (deep within) (back within)
                  ∙ ap (λ (l : Levels). empty ∷ l) (m.is attrs signature a os bs ls e) in
                  let b = g.begun (level (parts [] [] nothing (region_trees rs) attrs signature) a os bs ∷ ls) close in
                  region_open words wording aliases class numbers begin es within at_module counts (left values labels) f.labelled body f.operation
                  ∙ ap (closed_over counts.labels) b.is
                  ∙ ap (λ bl. level (parts [] [] nothing (roll-RegionTree (record { blocks = bl }) ∷ region_trees rs) attrs signature) a os bs ∷ ls) b.trees;
            };
      }

  mutual
    pub op_read : (n : Names) (indent : List ℕ) (o : Op) (rest : List PrintedWord) (es : List Event) → is_known_op n o ≡ true → is_settled o ≡ true → Is (op_words n indent o rest) es → OpRead n o (name_of o) rest es
    op_read n indent (op k results operands regions successors) rest es know settled told =
        let f = known n k results operands regions successors know in
        let lead = lead_read words wording aliases class numbers all n (10 ∷ indent) results (string_text k.name) _ es told in
        let ins = operands_read words wording aliases class numbers all n operands _ lead.behind f.operands_named lead.here in
        let outs = successors_read words wording aliases class numbers all n successors _ ins.behind ins.here in
        let props = props_read words wording aliases class numbers all k.props _ outs.behind f.props (and-left _ _ (and-left _ _ settled)) outs.here in
        let inner = regions_read n indent regions _ props.behind f.regions_known (and-right (is_settled_kind k) _ settled) props.here in
        let attrs = attrs_read words wording aliases class numbers all k.attrs _ inner.behind f.attrs (attrs_ordered k (and-left _ _ settled)) inner.here in
        let sig = signature_read words wording aliases class numbers all n operands results rest attrs.behind (operands_formed n operands f.operands_typed) (values_formed results f.results_formed) attrs.here in
        let waiting : wait lead.behind ≡ length results ∷ wait sig.behind = ins.waiting ∙ outs.waiting ∙ props.waiting ∙ inner.waiting ∙ attrs.waiting ∙ sig.waiting in
        record {
          behind = sig.behind;
          here = sig.here;
          waiting = lead.waiting ∙ ap (drop 1) waiting;
          operation = lead.operation;
          number = lead.number;
          named = lead.named;
          spelled = lead.spelled ∙ string_spelled k.name f.name;
          go = λ us ts body within at_module c values labels outside behind opens out h s t.
              let c1 : Count = past_values c (length results) in
              let gi = ins.go (region_uses n regions us) (at (body_at within at_module) c1) values labels s in
              let go = outs.go (region_targets regions ts) (at (body_at within at_module) c1) gi.values_left labels t in
              let gr = inner.go us ts within at_module c1 gi.values_left go.labels_left opens (and-right (are_counted c.values results) _ h) gi.serve go.serve in
              record {
                values_left = gr.values_left;
                labels_left = gr.labels_left;
                serve = gr.serve;
                serve_labels = gr.serve_labels;
                is = λ a os bs ls e.
                    lead.is body c (left values labels)
                    ∙ ap (λ b. on_first (with_op wording lead.number c.values) (from_body b (past_values c (first_count (wait lead.behind))) values labels lead.behind)) behind
                    ∙ ap (λ j. on_first (with_op wording lead.number c.values) (from_body (body_at within at_module) (past_values c (first_count j)) values labels lead.behind)) waiting
                    ∙ ap (on_first (with_op wording lead.number c.values))
                    (gi.is successors props.term (region_trees regions) attrs.term (signature_of n operands results) a os bs ls
                    (go.is props.term (region_trees regions) attrs.term (signature_of n operands results) a os bs ls
                    (props.is (at (body_at within at_module) c1) (left gi.values_left go.labels_left) (region_trees regions) attrs.term (signature_of n operands results) a os bs ls
                    (gr.is attrs.term (signature_of n operands results) a os bs ls
                    (attrs.is (at (body_at within at_module) (past_regions c1 regions)) (left gr.values_left gr.labels_left) (signature_of n operands results) a os bs ls
                    (sig.is (body_at within at_module) (past_regions c1 regions) (left gr.values_left gr.labels_left) outside a os bs ls out e))))))
                    ∙ ap (λ t. level no_parts a (t ∷ os) bs ∷ ls)
                    (op_is wording k results operands (region_trees regions) successors lead.number c.values props.term attrs.term (signature_of n operands results) (and-left _ _ settled) (lead.spelled ∙ string_spelled k.name f.name)
                    (results_are (operand_types n operands) c.values results (and-left _ _ h)) props.entries attrs.entries);
              };
        }

    ops_read : (n : Names) (indent : List ℕ) (os : Ops) (rest : List PrintedWord) (es : List Event) → are_known_ops n os ≡ true → are_settled os ≡ true → Is (ops_words n indent os rest) es → OpsRead n os rest es
    ops_read n indent end_of_ops rest es know settled told = record {
      behind = es;
      here = told;
      waiting = refl;
      operation = λ h. absurd (true≢false h);
      go = λ us ts within at_module c values labels h s t. record { values_left = values; labels_left = labels; serve = s; serve_labels = t; is = λ bs ls e. e };
    }
    ops_read n indent (more_ops o os) rest es know settled told =
        let one = op_read n indent o _ es (and-left _ _ know) (and-left _ _ settled) told in
        let others = ops_read n indent os rest one.behind (and-right (is_known_op n o) _ know) (and-right (is_settled o) _ settled) one.here in
        record {
          behind = others.behind;
          here = others.here;
          waiting = one.waiting ∙ others.waiting;
          operation = λ h. one.operation;
          go = λ us ts within at_module c values labels h s t.
              let g = one.go (ops_uses n os us) (ops_targets os ts) (inside within at_module) (within + 1) at_module c values labels false
              (ap (λ b. if b then record { within = 0; at_module = is_module (class one.number) } else inside within at_module) (deep within)) (ap (λ b. if b then at_module else false) (deep within)) (deep within) (and-left _ _ h) s t in
              let m = others.go us ts within at_module (past_op c o) g.values_left g.labels_left (and-right (is_numbered c o) _ h) g.serve g.serve_labels in
              record { values_left = m.values_left; labels_left = m.labels_left; serve = m.serve; serve_labels = m.serve_labels; is = λ bs ls e. g.is [] (op_trees os) bs ls (m.is bs ls e) };
        }

    regions_read : (n : Names) (indent : List ℕ) (rs : Regions) (rest : List PrintedWord) (es : List Event) → are_known_regions n rs ≡ true → are_settled_regions rs ≡ true → Is (regions_words n indent rs rest) es → RegionsRead n rs rest es
    regions_read n indent end_of_regions rest es know settled told = record {
      behind = es;
      here = told;
      waiting = refl;
      go = λ us ts within at_module c values labels body h s t. record { values_left = values; labels_left = labels; serve = s; serve_labels = t; is = λ attrs signature a os bs ls e. e };
    }
    regions_read n indent (region blocks rs) rest es know settled (one_more w k says _ (one_more x m {es = zs} said _ more)) =
        let f = blocks_read n indent blocks _ _ (and-left _ _ know) (and-left _ _ settled) more in
        let r = one_region n indent blocks rs _ m zs _ f (λ ys told. more_regions_read n indent rs _ ys (and-right (are_known_blocks n 0 blocks) _ know) (and-right (are_settled_blocks blocks) _ settled) told) in
        let c = first words wording aliases class numbers all r.here in
        record {
          behind = c.behind;
          here = c.here;
          waiting = r.waiting ∙ ap wait c.is;
          go = λ us ts within at_module counts values labels body h s t.
              let g = r.go us ts within at_module counts values labels body h s t in
              record {
                values_left = g.values_left;
                labels_left = g.labels_left;
                serve = g.serve;
                serve_labels = g.serve_labels;
                is = λ attrs signature a os bs ls e.
                    skip words wording aliases class numbers (at (body_at within at_module) counts) (left values labels) (past (record { place = places.RegionsOpen; name = k }) refl (here (record { place = places.RegionOpen; name = m } ∷ zs)))
                    ∙ g.is attrs signature a os bs ls (ap (from_body (body_at within at_module) (past_regions counts (region blocks rs)) g.values_left g.labels_left) c.is
                    ∙ skip words wording aliases class numbers (at (body_at within at_module) (past_regions counts (region blocks rs))) (left g.values_left g.labels_left) (past (record { place = places.RegionsClose; name = c.name }) refl (here c.behind)) ∙ e);
              };
        }

    more_regions_read : (n : Names) (indent : List ℕ) (rs : Regions) (rest : List PrintedWord) (es : List Event) → are_known_regions n rs ≡ true → are_settled_regions rs ≡ true → Is (more_regions n indent rs rest) es → RegionsRead n rs rest es
    more_regions_read n indent end_of_regions rest es know settled told = record {
      behind = es;
      here = told;
      waiting = refl;
      go = λ us ts within at_module c values labels body h s t. record { values_left = values; labels_left = labels; serve = s; serve_labels = t; is = λ attrs signature a os bs ls e. e };
    }
    more_regions_read n indent (region blocks rs) rest es know settled (one_more w k says _ (one_more x m {es = zs} said _ more)) =
        let f = blocks_read n indent blocks _ _ (and-left _ _ know) (and-left _ _ settled) more in
        let r = one_region n indent blocks rs rest m zs _ f (λ ys told. more_regions_read n indent rs rest ys (and-right (are_known_blocks n 0 blocks) _ know) (and-right (are_settled_blocks blocks) _ settled) told) in
        record {
          behind = r.behind;
          here = r.here;
          waiting = r.waiting;
          go = λ us ts within at_module counts values labels body h s t.
              let g = r.go us ts within at_module counts values labels body h s t in
              record {
                values_left = g.values_left;
                labels_left = g.labels_left;
                serve = g.serve;
                serve_labels = g.serve_labels;
                is = λ attrs signature a os bs ls e.
                    skip words wording aliases class numbers (at (body_at within at_module) counts) (left values labels) (past (record { place = places.RegionComma; name = k }) refl (here (record { place = places.RegionOpen; name = m } ∷ zs))) ∙ g.is attrs signature a os bs ls e;
              };
        }

    -- the blocks of a region, up to its end
    blocks_read : (n : Names) (indent : List ℕ) (bs : Blocks) (rest : List PrintedWord) (es : List Event) → are_known_blocks n 0 bs ≡ true → are_settled_blocks bs ≡ true → Is (blocks_words n indent bs (close_word indent ∷ rest)) es
        → FirstRead n bs (close_word indent ∷ rest) es
    blocks_read n indent end_of_blocks rest es know settled (one_more w k says suffix more) = record {
      behind = _;
      here = one_more w k says suffix more;
      waiting = refl;
      labelled = false;
      operation = refl;
      go = λ us ts within at_module c values labels h s t.
          record { values_left = values; labels_left = labels; serve = s; serve_labels = t; begun = λ ls e. record { ops = []; blocks = []; is = e; trees = refl } };
    }
    blocks_read n indent (block label args ops more) rest es know settled told =
        by_shows (shows n label args ops) refl told
        (λ zs h. ops_read n (indent ++ codes "  ") ops _ zs (and-left _ _ inner) (and-left _ _ settled) h)
        (λ zs h. from_read n indent 1 more _ zs (and-right (are_known_ops n ops) _ inner) (and-right (are_settled ops) _ settled) h)
      where
        args_known : (list_all (is_known_arg n) args && (are_known_ops n ops && are_known_blocks n (0 + 1) more)) ≡ true
        args_known = and-right (is_small 0) _ know

        inner : (are_known_ops n ops && are_known_blocks n (0 + 1) more) ≡ true
        inner = and-right (list_all (is_known_arg n) args) _ args_known

        by_shows : (b : Bool) → shows n label args ops ≡ b
            → Is (if b then label_words n indent 0 args (ops_words n (indent ++ codes "  ") ops (blocks_from n indent 1 more (close_word indent ∷ rest))) else ops_words n (indent ++ codes "  ") ops (blocks_from n indent 1 more (close_word indent ∷ rest))) es
            → ((zs : List Event) → Is (ops_words n (indent ++ codes "  ") ops (blocks_from n indent 1 more (close_word indent ∷ rest))) zs → OpsRead n ops (blocks_from n indent 1 more (close_word indent ∷ rest)) zs)
            → ((zs : List Event) → Is (blocks_from n indent 1 more (close_word indent ∷ rest)) zs → BlocksRead n more (close_word indent ∷ rest) zs) → FirstRead n (block label args ops more) (close_word indent ∷ rest) es
        by_shows true shown told ops_at more_at =
            let l = label_read words wording aliases class numbers all n indent 0 args _ es (and-left _ _ args_known) told in
            let o = ops_at l.behind l.here in
            let m = more_at o.behind o.here in
            record {
              behind = m.behind;
              here = m.here;
              waiting = l.waiting ∙ o.waiting ∙ m.waiting;
              labelled = false;
              operation = l.operation;
              go = λ us ts within at_module c values labels h s t.
                  let rest_of : (are_counted c.values args && (are_numbered (past_head c args) ops && are_numbered_blocks (past_ops (past_head c args) ops) more)) ≡ true = and-right (label == c.labels) _ h in
                  let both : (are_numbered (past_head c args) ops && are_numbered_blocks (past_ops (past_head c args) ops) more) ≡ true = and-right (are_counted c.values args) _ rest_of in
                  let go = o.go (block_uses n more us) (block_targets more ts) within at_module (past_head c args) values labels (and-left _ _ both) s t in
                  let gm = m.go us ts within at_module (past_ops (past_head c args) ops) go.values_left go.labels_left (and-right (are_numbered (past_head c args) ops) _ both) go.serve go.serve_labels in
                  record {
                    values_left = gm.values_left;
                    labels_left = gm.labels_left;
                    serve = gm.serve;
                    serve_labels = gm.serve_labels;
                    begun = λ ls e. record {
                      ops = [];
                      blocks = block_trees (block label args ops more);
                      is = l.is within at_module label c (left values labels) (op_trees ops) (block_trees more) ls (deep within) (eqb-is label c.labels (and-left _ _ h)) (and-left _ _ rest_of) (go.is (block_trees more) ls (gm.is ls e));
                      trees = refl;
                    };
                  };
            }
        by_shows false shown told ops_at more_at =
            let hidden = hides (not (has_none args)) (no_ops ops) (n.is_target label) shown in
            let none : args ≡ [] = no_args args hidden.0 in
            let o = ops_at es told in
            let m = more_at o.behind o.here in
            record {
              behind = m.behind;
              here = m.here;
              waiting = o.waiting ∙ m.waiting;
              labelled = true;
              operation = o.operation hidden.1;
              go = λ us ts within at_module c values labels h s t.
                  let rest_of : (are_counted c.values args && (are_numbered (past_head c args) ops && are_numbered_blocks (past_ops (past_head c args) ops) more)) ≡ true = and-right (label == c.labels) _ h in
                  let both : (are_numbered (past_head c args) ops && are_numbered_blocks (past_ops (past_head c args) ops) more) ≡ true = and-right (are_counted c.values args) _ rest_of in
                  let go = o.go (block_uses n more us) (block_targets more ts) within at_module (past_head c args) values labels (and-left _ _ both) s t in
                  let gm = m.go us ts within at_module (past_ops (past_head c args) ops) go.values_left go.labels_left (and-right (are_numbered (past_head c args) ops) _ both) go.serve go.serve_labels in
                  record {
                    values_left = gm.values_left;
                    labels_left = gm.labels_left;
                    serve = gm.serve;
                    serve_labels = gm.serve_labels;
                    begun = λ ls e. record {
                      ops = op_trees ops;
                      blocks = block_trees more;
                      is = ap (λ k. from_body (inside within at_module) k values labels es) (sym (no_values c) ∙ ap (past_head c) (sym none)) ∙ go.is (block_trees more) ls (gm.is ls e);
                      trees = unlabelled label args ops more c.labels hidden.1 none (eqb-is label c.labels (and-left _ _ h));
                    };
                  };
            }

    from_read : (n : Names) (indent : List ℕ) (k : ℕ) (bs : Blocks) (rest : List PrintedWord) (es : List Event) → are_known_blocks n k bs ≡ true → are_settled_blocks bs ≡ true → Is (blocks_from n indent k bs rest) es → BlocksRead n bs rest es
    from_read n indent k end_of_blocks rest es know settled told = record {
      behind = es;
      here = told;
      waiting = refl;
      go = λ us ts within at_module c values labels h s t. record { values_left = values; labels_left = labels; serve = s; serve_labels = t; is = λ ls e. e };
    }
    from_read n indent k (block label args ops more) rest es know settled told =
        let args_known : (list_all (is_known_arg n) args && (are_known_ops n ops && are_known_blocks n (k + 1) more)) ≡ true = and-right (is_small k) _ know in
        let inner : (are_known_ops n ops && are_known_blocks n (k + 1) more) ≡ true = and-right (list_all (is_known_arg n) args) _ args_known in
        let l = label_read words wording aliases class numbers all n indent k args _ es (and-left _ _ args_known) told in
        let o = ops_read n (indent ++ codes "  ") ops _ l.behind (and-left _ _ inner) (and-left _ _ settled) l.here in
        let m = from_read n indent (k + 1) more rest o.behind (and-right (are_known_ops n ops) _ inner) (and-right (are_settled ops) _ settled) o.here in
        record {
          behind = m.behind;
          here = m.here;
          waiting = l.waiting ∙ o.waiting ∙ m.waiting;
          go = λ us ts within at_module c values labels h s t.
              let rest_of : (are_counted c.values args && (are_numbered (past_head c args) ops && are_numbered_blocks (past_ops (past_head c args) ops) more)) ≡ true = and-right (label == c.labels) _ h in
              let both : (are_numbered (past_head c args) ops && are_numbered_blocks (past_ops (past_head c args) ops) more) ≡ true = and-right (are_counted c.values args) _ rest_of in
              let go = o.go (block_uses n more us) (block_targets more ts) within at_module (past_head c args) values labels (and-left _ _ both) s t in
              let gm = m.go us ts within at_module (past_ops (past_head c args) ops) go.values_left go.labels_left (and-right (are_numbered (past_head c args) ops) _ both) go.serve go.serve_labels in
              record {
                values_left = gm.values_left;
                labels_left = gm.labels_left;
                serve = gm.serve;
                serve_labels = gm.serve_labels;
                is = λ ls e. l.is within at_module label c (left values labels) (op_trees ops) (block_trees more) ls (deep within) (eqb-is label c.labels (and-left _ _ h)) (and-left _ _ rest_of) (go.is (block_trees more) ls (gm.is ls e));
              };
        }
