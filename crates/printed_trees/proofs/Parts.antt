-- The parts of a printed operation, and what each does to the levels behind it.
use Rattle.std.proofs.Common.{◌≡◌, ℕ, suc, ◌+◌, ◌-◌, ◌<◌, ◌^◌, Bool, true, false, List, [], ◌∷◌, length, drop, Option, Some, None, refl, sym, ap, ◌∙◌, subst, arith}
use Rattle.std.specs.Prelude.{codes, nat_lt, ◌==◌}
use Rattle.std.specs.List.{list_all}
use Rattle.std.proofs.lemmas.Bool.{false≢true}
use Rattle.mlir_lex.proofs.Lengths.{and-left, and-right, eqb-is}
use Rattle.text_grammar.specs.declared.kinds.Kind.TheVariants as kinds
use Rattle.text_grammar.specs.declared.places.Place.TheVariants as places
use Rattle.tree_model.specs.declared.type_tree.TypeTree.{TypeTree}
use Rattle.tree_model.specs.declared.op_tree.OpTree.{OpTree}
use Rattle.tree_model.specs.declared.op_tree.BlockTree.{BlockTree, roll-BlockTree}
use Rattle.tree_model.specs.declared.op_tree.RegionTree.{RegionTree}
use Rattle.plain_tree.specs.Types.{PlainType, PlainTypes, type_tree, type_trees}
use Rattle.plain_tree.specs.Attrs.{Entries, dict_in, dict_tree, entries_tree, attr_tree}
use Rattle.plain_tree.specs.Ops.{Values, values_tree}
use Rattle.rule_model.specs.Formed.{is_formed_type, are_formed_types}
use Rattle.text_model.specs.declared.value_name.ValueName.{ValueName}
use Rattle.text_model.specs.declared.value_name.ValueName.TheVariants.{Argument, Single, Part}
use Rattle.text_model.specs.PrintedNames.{Names}
use Rattle.term_table.specs.declared.node.Form.TheVariants as forms
use Rattle.term_table.specs.Terms.{Term, nothing, node}
use Rattle.text_events.specs.declared.event.Event.{Event}
use Rattle.text_types.specs.Spelling.{Spelling}
use Rattle.text_types.specs.declared.action.Action.TheVariants.{Join}
use Rattle.text_types.specs.Actions.{opens_types}
use Rattle.text_types.specs.Items.{Aliases, acted, first_of, items, place_next, wrapped}
use Rattle.text_types.specs.Plain.{term_of, terms_of}
use Rattle.text_types.proofs.PlainLaws.{type_is, types_are}
use Rattle.text_scopes.specs.declared.bodies.Body.{Body}
use Rattle.text_scopes.specs.declared.bodies.Class.{Class}
use Rattle.text_scopes.specs.Bodies.{behind as body_behind}
use Rattle.event_trees.specs.declared.counts.Counts.{Counts}
use Rattle.event_trees.specs.Wording.{Wording}
use Rattle.event_trees.specs.Attrs.{written_of}
use Rattle.event_trees.specs.Numbers.{Left, begins_operation, first_count, index_at, length_of, number_at, results_in}
use Rattle.event_trees.specs.Levels.{Level, Levels, Parts, no_parts, numbered, on_first, on_parts, result_types, with_arg, with_block, with_op, with_part}
use Rattle.printed_words.specs.Words.{PrintedWord, word}
use Rattle.printed_types.proofs.ApartLemmas.{below}
use Rattle.printed_ops.specs.OpWords.{lead_words, use_words, more_uses, uses_words, operands_words, more_successors, successors_words, props_words, attrs_words, operand_types, value_types, signature_words, arg_words, more_args, args_words, label_words}
use Rattle.printed_ops.specs.Named.{is_alone, is_known_arg, is_named}
use Rattle.printed_attrs.specs.Readable.{is_readable_dict}
use Rattle.printed_terms.specs.Told.{Says, spells}
use Rattle.printed_terms.specs.Ordered.{is_ordered_dict}
use Rattle.printed_terms.proofs.NumberLemmas.{decimal_capped}
use Rattle.printed_terms.proofs.SeenWords.{Seen, one_more, known, told}
use Rattle.printed_terms.proofs.TypeTerms.{type_terms, types_terms, results_terms}
use Rattle.printed_terms.proofs.AttrTerms.{dict_terms}
use Rattle.printed_marks.proofs.TypeWords.{type_kept, types_kept, results_kept}
use Rattle.printed_marks.proofs.AttrWords.{dict_kept}
use Rattle.printed_trees.specs.Numbering.{Count, are_counted, past_values, past_head}
use Rattle.printed_trees.specs.Serving.{Use, Serve, ServeLabels, index_in, operand_uses, successor_targets}
use Rattle.printed_trees.specs.Roles.{at}
use Rattle.printed_trees.proofs.Fronts.{Front, Passed, after, behind_front, front_kept, here, is_loud, past, whole}
use Rattle.printed_trees.proofs.Suffixes.{Suffix, next, one_suffix, told_length}
use Rattle.printed_trees.proofs.Steps.{arg_name, block_colon, block_label, dict_open, event, inside, left, op_name, props_open, read, result_name, result_number, signature_colon, signature_open, skip, skip_waits, successor_name, typed, use_name, waiting_for, with_operand, with_successor}

abbrev pub parts : List ℕ → List ℕ → Term → List RegionTree → Term → Term → Parts
parts operands successors props regions attrs signature =
    record { operands = operands; successors = successors; props = props; regions = regions; attrs = attrs; signature = signature }

abbrev pub level : Parts → List (ℕ × TypeTree) → List OpTree → List BlockTree → Level
level p args ops blocks = record { parts = p; args = args; ops = ops; blocks = blocks }

-- operands, the first one in front
abbrev with_operands : List ℕ → Levels → Levels
with_operands [] ls = ls
with_operands (v ∷ vs) ls = with_operand v (with_operands vs ls)

abbrev with_successors : List ℕ → Levels → Levels
with_successors [] ls = ls
with_successors (v ∷ vs) ls = with_successor v (with_successors vs ls)

operands_on : (vs ss : List ℕ) (props : Term) (rs : List RegionTree) (attrs signature : Term) (a : List (ℕ × TypeTree)) (os : List OpTree) (bs : List BlockTree) (ls : Levels)
    → with_operands vs (level (parts [] ss props rs attrs signature) a os bs ∷ ls) ≡ level (parts vs ss props rs attrs signature) a os bs ∷ ls
operands_on [] ss props rs attrs signature a os bs ls = refl
operands_on (v ∷ vs) ss props rs attrs signature a os bs ls = ap (with_operand v) (operands_on vs ss props rs attrs signature a os bs ls)

successors_on : (ss : List ℕ) (props : Term) (rs : List RegionTree) (attrs signature : Term) (a : List (ℕ × TypeTree)) (os : List OpTree) (bs : List BlockTree) (ls : Levels)
    → with_successors ss (level (parts [] [] props rs attrs signature) a os bs ∷ ls) ≡ level (parts [] ss props rs attrs signature) a os bs ∷ ls
successors_on [] props rs attrs signature a os bs ls = refl
successors_on (s ∷ ss) props rs attrs signature a os bs ls = ap (with_successor s) (successors_on ss props rs attrs signature a os bs ls)

lengths_are : (vs : Values) → length_of (terms_of (value_types vs)) ≡ length vs
lengths_are [] = refl
lengths_are (v ∷ vs) = ap suc (lengths_are vs)

pub dict_is : (es : Entries) → dict_tree (dict_in es) ≡ entries_tree es
dict_is [] = refl
dict_is (e ∷ es) = ap (λ x. (e.0, attr_tree e.1) ∷ x) (dict_is es)

numbered_are : (n : ℕ) (vs : Values) → are_counted n vs ≡ true → numbered n (type_trees (value_types vs)) ≡ values_tree vs
numbered_are n [] h = refl
numbered_are n (v ∷ vs) h =
    ap (λ k. (k, type_tree v.1) ∷ numbered (n + 1) (type_trees (value_types vs))) (sym (eqb-is v.0 n (and-left _ _ h))) ∙ ap (λ x. (v.0, type_tree v.1) ∷ x) (numbered_are (n + 1) vs (and-right (v.0 == n) _ h))

-- the results of an operation with this function type
pub results_are : (ins : PlainTypes) (n : ℕ) (vs : Values) → are_counted n vs ≡ true → numbered n (result_types (node forms.Func 0 (terms_of ins) (terms_of (value_types vs)))) ≡ values_tree vs
results_are ins n vs h = ap (λ ts. numbered n (type_trees ts)) (types_are (value_types vs)) ∙ numbered_are n vs h

-- the term of an operation's function type
abbrev pub signature_of : Names → List ℕ → Values → Term
signature_of n operands results = node forms.Func 0 (terms_of (operand_types n operands)) (terms_of (value_types results))

-- a block with these operations
abbrev pub block_of : ℕ → Values → List OpTree → BlockTree
block_of label args ops = roll-BlockTree (record { label = label; args = values_tree args; ops = ops })

module _ (words : Spelling) (wording : Wording) (aliases : Aliases) (class : ℕ → Class) (numbers : List ℕ) (all : List Event) where
  abbrev pub Here : List PrintedWord → List Event → Type 0
  Here ws es = Seen words wording (Suffix all) ws es

  abbrev pub reads : Counts → Left → List Event → Levels
  reads c l es = read words wording aliases class numbers c l es

  abbrev pub waits : List Event → List ℕ
  waits es = waiting_for words wording aliases class numbers es

  -- what is behind words in front of others
  pub passed_to : {ws rest : List PrintedWord} {es behind : List Event} → Here ws es → Front rest ws → Here rest behind → Passed es behind
  passed_to {ws} {rest} {es} {behind} h f b =
      let k = behind_front words wording f (told words wording (Suffix all) h) in
      subst (λ (z : List Event). Passed es z)
      (one_suffix all k.behind behind (ends k.passed (known words wording (Suffix all) h)) (known words wording (Suffix all) b) (told_length words wording k.told ∙ sym (told_length words wording (told words wording (Suffix all) b))))
      k.passed
    where
      ends : {xs ys : List Event} → Passed xs ys → Suffix all xs → Suffix all ys
      ends (here xs) s = s
      ends (past e q more) s = ends more (next all e _ s)

  -- the first word of what is here
  pub record First (w : PrintedWord) (ws : List PrintedWord) (es : List Event) : Type 0 where
    pub name : ℕ
    pub behind : List Event
    pub is : es ≡ record { place = w.place; name = name } ∷ behind
    pub says : Says words wording w.place w.kind w.bytes name
    pub here : Here ws behind

  pub first : {w : PrintedWord} {ws : List PrintedWord} {es : List Event} → Here (w ∷ ws) es → First w ws es
  first (one_more w name says _ more) = record { name = name; behind = _; is = refl; says = says; here = more }

  pub past_is : {es zs behind : List Event} (e : Event) → es ≡ e ∷ zs → is_loud e.place ≡ false → Passed zs behind → Passed es behind
  past_is {es} {zs} {behind} e is q more = subst (λ (xs : List Event). Passed xs behind) (sym is) (past e q more)

  -- an operation of this name is in the text
  abbrev pub Named : ℕ → Type 0
  Named number = (rest : List Event) × Suffix all (event words wording aliases class numbers places.OpName number ∷ rest)

  -- Results and the name
  pub record LeadRead (name : List ℕ) (rest : List PrintedWord) (es : List Event) : Type 0 where
    pub number : ℕ
    pub named : Named number
    pub behind : List Event
    pub here : Here rest behind
    pub spelled : wording.spelled number ≡ spells kinds.Text name
    pub waiting : waits es ≡ drop 1 (waits behind)
    pub operation : begins_operation (place_next es) ≡ true
    pub is : (body : Body) (n : Count) (l : Left) → reads (at body n) l es
        ≡ on_first (with_op wording number n.values) (reads (at (body_behind class body (event words wording aliases class numbers places.OpName number)) (past_values n (first_count (waits behind)))) l behind)

  pub lead_read : (n : Names) (gap : List ℕ) (vs : Values) (name : List ℕ) (rest : List PrintedWord) (es : List Event) → Here (lead_words n gap vs name rest) es → LeadRead name rest es
  lead_read n gap [] name rest es (one_more w k {es = zs} says suffix more) =
      record { number = k; named = (_, suffix); behind = _; here = more; spelled = says; waiting = refl; operation = refl; is = λ body c l. op_name words wording aliases class numbers k zs body 0 c l }
  lead_read n gap (v ∷ []) name rest es (one_more w r says _ (one_more x q said _ (one_more y k {es = zs} spelled suffix more))) = record {
    number = k;
    named = (_, suffix);
    behind = _;
    here = more;
    spelled = spelled;
    waiting = refl;
    operation = refl;
    is = λ body c l. result_name words wording aliases class numbers r (event words wording aliases class numbers places.ResultsEquals q ∷ event words wording aliases class numbers places.OpName k ∷ zs) (at body c) l
        ∙ skip words wording aliases class numbers (record (at body c) { named = 0 + 1 }) l (past (event words wording aliases class numbers places.ResultsEquals q) refl (here (event words wording aliases class numbers places.OpName k ∷ zs)))
        ∙ op_name words wording aliases class numbers k zs body (0 + 1) c l;
  }
  lead_read n gap (v ∷ w ∷ vs) name rest es (one_more a r says _ (one_more b p said _ (one_more d m counts _ (one_more x q equals _ (one_more y k {es = zs} spelled suffix more))))) = record {
    number = k;
    named = (_, suffix);
    behind = _;
    here = more;
    spelled = spelled;
    waiting = refl;
    operation = refl;
    is = λ body c l. result_name words wording aliases class numbers r (event words wording aliases class numbers places.ResultColon p ∷ event words wording aliases class numbers places.ResultNumber m ∷ event words wording aliases class numbers places.ResultsEquals q ∷ event words wording aliases class numbers places.OpName k ∷ zs) (at body c) l
        ∙ skip words wording aliases class numbers (record (at body c) { named = 0 + 1 }) l (past (event words wording aliases class numbers places.ResultColon p) refl (here (event words wording aliases class numbers places.ResultNumber m ∷ event words wording aliases class numbers places.ResultsEquals q ∷ event words wording aliases class numbers places.OpName k ∷ zs)))
        ∙ result_number words wording aliases class numbers m (event words wording aliases class numbers places.ResultsEquals q ∷ event words wording aliases class numbers places.OpName k ∷ zs) (record (at body c) { named = 0 + 1 }) l
        ∙ skip words wording aliases class numbers (record (at body c) { named = 0 + 1 + wording.number m - 1 }) l (past (event words wording aliases class numbers places.ResultsEquals q) refl (here (event words wording aliases class numbers places.OpName k ∷ zs)))
        ∙ op_name words wording aliases class numbers k zs body (0 + 1 + wording.number m - 1) c l;
  }

  -- Operands

  -- no index stands first
  abbrev NoIndex : List PrintedWord → Type 0
  NoIndex rest = (es : List Event) → Here rest es → index_at wording es ≡ 0

  comma_first : (gap bytes : List ℕ) (ws : List PrintedWord) → NoIndex (word gap places.UseComma kinds.Comma bytes ∷ ws)
  comma_first gap bytes ws es (one_more w k says _ more) = refl

  close_first : (gap bytes : List ℕ) (ws : List PrintedWord) → NoIndex (word gap places.OperandsClose kinds.CloseParen bytes ∷ ws)
  close_first gap bytes ws es (one_more w k says _ more) = refl

  more_no_index : (n : Names) (vs : List ℕ) (rest : List PrintedWord) → NoIndex rest → NoIndex (more_uses n vs rest)
  more_no_index n [] rest f = f
  more_no_index n (v ∷ vs) rest f = comma_first _ _ _

  record UseRead (index : ℕ) (rest : List PrintedWord) (es : List Event) : Type 0 where
    behind : List Event
    here : Here rest behind
    waiting : waits es ≡ waits behind
    is : (c : Counts) (d : Option ℕ) (ds labels : List (Option ℕ)) (v : ℕ) → number_at numbers d + index ≡ v → reads c (left (d ∷ ds) labels) es ≡ with_operand v (reads c (left ds labels) behind)

  small : (k : ℕ) → nat_lt k (2 ^ 64) ≡ true → k < 2 ^ 64
  small k h = below k (2 ^ 64) h

  use_read : (gap : List ℕ) (name : Option ValueName) (rest : List PrintedWord) (es : List Event) → is_named name ≡ true → NoIndex rest → Here (use_words gap name rest) es → UseRead (index_in name) rest es
  use_read gap None rest es n f h = absurd (false≢true n)
  use_read gap (Some (Argument k)) rest es n f (one_more w u {es = zs} says _ more) =
      record { behind = zs; here = more; waiting = refl; is = λ c d ds labels v e. use_name words wording aliases class numbers u zs c d ds labels v (ap (λ i. number_at numbers d + i) (f zs more) ∙ e) }
  use_read gap (Some (Single k)) rest es n f (one_more w u {es = zs} says _ more) =
      record { behind = zs; here = more; waiting = refl; is = λ c d ds labels v e. use_name words wording aliases class numbers u zs c d ds labels v (ap (λ i. number_at numbers d + i) (f zs more) ∙ e) }
  use_read gap (Some (Part k j)) rest es n f (one_more w u says _ (one_more x i {es = zs} index _ more)) =
      let own : wording.index i ≡ j = index ∙ decimal_capped j (small j (and-right (nat_lt k (2 ^ 64)) _ n)) in
      record {
        behind = zs;
        here = more;
        waiting = refl;
        is = λ c d ds labels v e. use_name words wording aliases class numbers u (event words wording aliases class numbers places.UseNumber i ∷ zs) c d ds labels v (ap (λ i. number_at numbers d + i) own ∙ e)
            ∙ ap (with_operand v) (skip words wording aliases class numbers c (left ds labels) (past (event words wording aliases class numbers places.UseNumber i) refl (here zs)));
      }

  record UsesGo (vs : List ℕ) (us : List Use) (c : Counts) (values labels : List (Option ℕ)) (es behind : List Event) : Type 0 where
    values_left : List (Option ℕ)
    serve : Serve numbers us values_left
    is : reads c (left values labels) es ≡ with_operands vs (reads c (left values_left labels) behind)

  record UsesRead (n : Names) (vs : List ℕ) (rest : List PrintedWord) (es : List Event) : Type 0 where
    behind : List Event
    here : Here rest behind
    waiting : waits es ≡ waits behind
    go : (us : List Use) (c : Counts) (values labels : List (Option ℕ)) → Serve numbers (operand_uses n vs us) values → UsesGo vs us c values labels es behind

  -- one use before others
  one_go : (n : Names) (v : ℕ) (vs : List ℕ) (us : List Use) (c : Counts) (values labels : List (Option ℕ)) (es middle behind : List Event)
      → ((c : Counts) (d : Option ℕ) (ds labels : List (Option ℕ)) (u : ℕ) → number_at numbers d + index_in (n.name v) ≡ u → reads c (left (d ∷ ds) labels) es ≡ with_operand u (reads c (left ds labels) middle))
      → ((us : List Use) (c : Counts) (values labels : List (Option ℕ)) → Serve numbers (operand_uses n vs us) values → UsesGo vs us c values labels middle behind)
      → Serve numbers (operand_uses n (v ∷ vs) us) values → UsesGo (v ∷ vs) us c values labels es behind
  one_go n v vs us c [] labels es middle behind one others s = absurd s
  one_go n v vs us c (d ∷ ds) labels es middle behind one others s =
      let o = others us c ds labels s.1 in
      record { values_left = o.values_left; serve = o.serve; is = one c d ds labels v s.0 ∙ ap (with_operand v) o.is }

  more_uses_read : (n : Names) (vs : List ℕ) (rest : List PrintedWord) (es : List Event) → list_all (λ v. is_named (n.name v)) vs ≡ true → NoIndex rest → Here (more_uses n vs rest) es → UsesRead n vs rest es
  more_uses_read n [] rest es v f h = record { behind = es; here = h; waiting = refl; go = λ us c values labels s. record { values_left = values; serve = s; is = refl } }
  more_uses_read n (v ∷ vs) rest es h f (one_more w k {es = zs} says _ more) =
      let one = use_read (codes " ") (n.name v) _ _ (and-left _ _ h) (more_no_index n vs rest f) more in
      let others = more_uses_read n vs rest one.behind (and-right (is_named (n.name v)) _ h) f one.here in
      record {
        behind = others.behind;
        here = others.here;
        waiting = one.waiting ∙ others.waiting;
        go = λ us c values labels s.
            let o = one_go n v vs us c values labels zs one.behind others.behind one.is others.go s in
            record { values_left = o.values_left; serve = o.serve; is = skip words wording aliases class numbers c (left values labels) (past (event words wording aliases class numbers places.UseComma k) refl (here zs)) ∙ o.is };
      }

  uses_read : (n : Names) (vs : List ℕ) (rest : List PrintedWord) (es : List Event) → list_all (λ v. is_named (n.name v)) vs ≡ true → NoIndex rest → Here (uses_words n vs rest) es → UsesRead n vs rest es
  uses_read n [] rest es v f h = record { behind = es; here = h; waiting = refl; go = λ us c values labels s. record { values_left = values; serve = s; is = refl } }
  uses_read n (v ∷ vs) rest es h f here_told =
      let one = use_read [] (n.name v) _ es (and-left _ _ h) (more_no_index n vs rest f) here_told in
      let others = more_uses_read n vs rest one.behind (and-right (is_named (n.name v)) _ h) f one.here in
      record { behind = others.behind; here = others.here; waiting = one.waiting ∙ others.waiting; go = λ us c values labels s. one_go n v vs us c values labels es one.behind others.behind one.is others.go s }

  -- operands in their parentheses
  pub record OperandsGo (vs : List ℕ) (us : List Use) (c : Counts) (values labels : List (Option ℕ)) (es behind : List Event) : Type 0 where
    pub values_left : List (Option ℕ)
    pub serve : Serve numbers us values_left
    pub is : (ss : List ℕ) (props : Term) (rs : List RegionTree) (attrs signature : Term) (a : List (ℕ × TypeTree)) (os : List OpTree) (bs : List BlockTree) (ls : Levels)
        → reads c (left values_left labels) behind ≡ level (parts [] ss props rs attrs signature) a os bs ∷ ls → reads c (left values labels) es ≡ level (parts vs ss props rs attrs signature) a os bs ∷ ls

  pub record OperandsRead (n : Names) (vs : List ℕ) (rest : List PrintedWord) (es : List Event) : Type 0 where
    pub behind : List Event
    pub here : Here rest behind
    pub waiting : waits es ≡ waits behind
    pub go : (us : List Use) (c : Counts) (values labels : List (Option ℕ)) → Serve numbers (operand_uses n vs us) values → OperandsGo vs us c values labels es behind

  pub operands_read : (n : Names) (vs : List ℕ) (rest : List PrintedWord) (es : List Event) → list_all (λ v. is_named (n.name v)) vs ≡ true → Here (operands_words n vs rest) es → OperandsRead n vs rest es
  operands_read n vs rest es h (one_more w k {es = zs} says _ more) =
      let u = uses_read n vs _ _ h (close_first _ _ _) more in
      let c = first u.here in
      let end : Passed u.behind c.behind = past_is (event words wording aliases class numbers places.OperandsClose c.name) c.is refl (here c.behind) in
      record {
        behind = c.behind;
        here = c.here;
        waiting = u.waiting ∙ skip_waits words wording aliases class numbers end;
        go = λ us counts values labels s.
            let g = u.go us counts values labels s in
            record {
              values_left = g.values_left;
              serve = g.serve;
              is = λ ss props rs attrs signature a os bs ls e.
                  skip words wording aliases class numbers counts (left values labels) (past (event words wording aliases class numbers places.OperandsOpen k) refl (here zs))
                  ∙ g.is ∙ ap (with_operands vs) (skip words wording aliases class numbers counts (left g.values_left labels) end ∙ e)
                  ∙ operands_on vs ss props rs attrs signature a os bs ls;
            };
      }

  -- Successors
  record LabelsGo (ss : List ℕ) (us : List ℕ) (c : Counts) (values labels : List (Option ℕ)) (es behind : List Event) : Type 0 where
    labels_left : List (Option ℕ)
    serve : ServeLabels numbers us labels_left
    is : reads c (left values labels) es ≡ with_successors ss (reads c (left values labels_left) behind)

  record LabelsRead (ss : List ℕ) (rest : List PrintedWord) (es : List Event) : Type 0 where
    behind : List Event
    here : Here rest behind
    waiting : waits es ≡ waits behind
    go : (us : List ℕ) (c : Counts) (values labels : List (Option ℕ)) → ServeLabels numbers (successor_targets ss us) labels → LabelsGo ss us c values labels es behind

  one_label : (s : ℕ) (ss us : List ℕ) (c : Counts) (values labels : List (Option ℕ)) (name : ℕ) (es behind : List Event)
      → ((us : List ℕ) (c : Counts) (values labels : List (Option ℕ)) → ServeLabels numbers (successor_targets ss us) labels → LabelsGo ss us c values labels es behind)
      → ServeLabels numbers (successor_targets (s ∷ ss) us) labels → LabelsGo (s ∷ ss) us c values labels (event words wording aliases class numbers places.SuccessorName name ∷ es) behind
  one_label s ss us c values [] name es behind others h = absurd h
  one_label s ss us c values (d ∷ ds) name es behind others h =
      let o = others us c values ds h.1 in
      record { labels_left = o.labels_left; serve = o.serve; is = successor_name words wording aliases class numbers name es c d values ds s h.0 ∙ ap (with_successor s) o.is }

  more_successors_read : (n : Names) (ss : List ℕ) (rest : List PrintedWord) (es : List Event) → Here (more_successors n ss rest) es → LabelsRead ss rest es
  more_successors_read n [] rest es h = record { behind = es; here = h; waiting = refl; go = λ us c values labels s. record { labels_left = labels; serve = s; is = refl } }
  more_successors_read n (s ∷ ss) rest es (one_more w k says _ (one_more x l {es = zs} said _ more)) =
      let others = more_successors_read n ss rest _ more in
      record {
        behind = others.behind;
        here = others.here;
        waiting = others.waiting;
        go = λ us c values labels h.
            let o = one_label s ss us c values labels l zs others.behind others.go h in
            record { labels_left = o.labels_left; serve = o.serve; is = skip words wording aliases class numbers c (left values labels) (past (event words wording aliases class numbers places.SuccessorComma k) refl (here (event words wording aliases class numbers places.SuccessorName l ∷ zs))) ∙ o.is };
      }

  pub record SuccessorsGo (ss : List ℕ) (us : List ℕ) (c : Counts) (values labels : List (Option ℕ)) (es behind : List Event) : Type 0 where
    pub labels_left : List (Option ℕ)
    pub serve : ServeLabels numbers us labels_left
    pub is : (props : Term) (rs : List RegionTree) (attrs signature : Term) (a : List (ℕ × TypeTree)) (os : List OpTree) (bs : List BlockTree) (ls : Levels)
        → reads c (left values labels_left) behind ≡ level (parts [] [] props rs attrs signature) a os bs ∷ ls → reads c (left values labels) es ≡ level (parts [] ss props rs attrs signature) a os bs ∷ ls

  pub record SuccessorsRead (ss : List ℕ) (rest : List PrintedWord) (es : List Event) : Type 0 where
    pub behind : List Event
    pub here : Here rest behind
    pub waiting : waits es ≡ waits behind
    pub go : (us : List ℕ) (c : Counts) (values labels : List (Option ℕ)) → ServeLabels numbers (successor_targets ss us) labels → SuccessorsGo ss us c values labels es behind

  pub successors_read : (n : Names) (ss : List ℕ) (rest : List PrintedWord) (es : List Event) → Here (successors_words n ss rest) es → SuccessorsRead ss rest es
  successors_read n [] rest es h =
      record { behind = es; here = h; waiting = refl; go = λ us c values labels s. record { labels_left = labels; serve = s; is = λ props rs attrs signature a os bs ls e. e } }
  successors_read n (s ∷ ss) rest es (one_more w k says _ (one_more x l {es = zs} said _ more)) =
      let u = more_successors_read n ss _ _ more in
      let c = first u.here in
      let end : Passed u.behind c.behind = past_is (event words wording aliases class numbers places.SuccessorsClose c.name) c.is refl (here c.behind) in
      record {
        behind = c.behind;
        here = c.here;
        waiting = u.waiting ∙ skip_waits words wording aliases class numbers end;
        go = λ us counts values labels h.
            let g = one_label s ss us counts values labels l zs u.behind u.go h in
            record {
              labels_left = g.labels_left;
              serve = g.serve;
              is = λ props rs attrs signature a os bs ls e.
                  skip words wording aliases class numbers counts (left values labels) (past (event words wording aliases class numbers places.SuccessorsOpen k) refl (here (event words wording aliases class numbers places.SuccessorName l ∷ zs)))
                  ∙ g.is ∙ ap (with_successors (s ∷ ss)) (skip words wording aliases class numbers counts (left values g.labels_left) end ∙ e)
                  ∙ successors_on (s ∷ ss) props rs attrs signature a os bs ls;
            };
      }

  -- Dictionaries
  pub record PropsRead (es : Entries) (rest : List PrintedWord) (from : List Event) : Type 0 where
    pub behind : List Event
    pub here : Here rest behind
    pub waiting : waits from ≡ waits behind
    pub term : Term
    pub entries : written_of wording term ≡ entries_tree es
    pub is : (c : Counts) (l : Left) (rs : List RegionTree) (attrs signature : Term) (a : List (ℕ × TypeTree)) (os : List OpTree) (bs : List BlockTree) (ls : Levels)
        → reads c l behind ≡ level (parts [] [] nothing rs attrs signature) a os bs ∷ ls → reads c l from ≡ level (parts [] [] term rs attrs signature) a os bs ∷ ls

  pub props_read : (ps : Entries) (rest : List PrintedWord) (es : List Event) → is_readable_dict (dict_in ps) ≡ true → is_ordered_dict (dict_in ps) ≡ true → Here (props_words ps rest) es → PropsRead ps rest es
  props_read [] rest es r o h = record { behind = es; here = h; waiting = refl; term = nothing; entries = refl; is = λ c l rs attrs signature a os bs ls e. e }
  props_read (p ∷ ps) rest es r o (one_more w k says _ (one_more x m {es = zs} said _ more)) =
      let d = dict_terms words wording (Suffix all) aliases (dict_in (p ∷ ps)) _ _ r o (record { dialect = λ n. refl; value = refl }) more in
      let c = first d.told in
      let g = first c.here in
      let inner = passed_to more (dict_kept (Front rest) (front_kept rest) (dict_in (p ∷ ps)) _ (after _ refl (after _ refl whole))) g.here in
      let begin = ap (λ ts. first_of (wrapped forms.Dict 0 ts)) (d.terms (items words aliases c.behind) (ap (items words aliases) c.is)) in
      record {
        behind = g.behind;
        here = g.here;
        waiting = skip_waits words wording aliases class numbers inner;
        term = node forms.Dict 0 d.term nothing;
        entries = d.is ∙ dict_is (p ∷ ps);
        is = λ counts l rs attrs signature a os bs ls e.
            skip words wording aliases class numbers counts l (past (event words wording aliases class numbers places.PropsLess k) refl (here (event words wording aliases class numbers places.PropsOpen m ∷ zs)))
            ∙ props_open words wording aliases class numbers m zs counts l (node forms.Dict 0 d.term nothing) begin
            ∙ ap (on_first (on_parts (with_part places.PropsOpen 0 (node forms.Dict 0 d.term nothing)))) (skip words wording aliases class numbers counts l inner ∙ e);
      }

  pub record AttrsRead (es : Entries) (rest : List PrintedWord) (from : List Event) : Type 0 where
    pub behind : List Event
    pub here : Here rest behind
    pub waiting : waits from ≡ waits behind
    pub term : Term
    pub entries : written_of wording term ≡ entries_tree es
    pub is : (c : Counts) (l : Left) (signature : Term) (a : List (ℕ × TypeTree)) (os : List OpTree) (bs : List BlockTree) (ls : Levels)
        → reads c l behind ≡ level (parts [] [] nothing [] nothing signature) a os bs ∷ ls → reads c l from ≡ level (parts [] [] nothing [] term signature) a os bs ∷ ls

  pub attrs_read : (ps : Entries) (rest : List PrintedWord) (es : List Event) → is_readable_dict (dict_in ps) ≡ true → is_ordered_dict (dict_in ps) ≡ true → Here (attrs_words ps rest) es → AttrsRead ps rest es
  attrs_read [] rest es r o h = record { behind = es; here = h; waiting = refl; term = nothing; entries = refl; is = λ c l signature a os bs ls e. e }
  attrs_read (p ∷ ps) rest es r o (one_more x m {es = zs} said _ more) =
      let d = dict_terms words wording (Suffix all) aliases (dict_in (p ∷ ps)) _ _ r o (record { dialect = λ n. refl; value = refl }) more in
      let c = first d.told in
      let inner = passed_to more (dict_kept (Front rest) (front_kept rest) (dict_in (p ∷ ps)) _ (after _ refl whole)) c.here in
      let begin = ap (λ ts. first_of (wrapped forms.Dict 0 ts)) (d.terms (items words aliases c.behind) (ap (items words aliases) c.is)) in
      record {
        behind = c.behind;
        here = c.here;
        waiting = skip_waits words wording aliases class numbers inner;
        term = node forms.Dict 0 d.term nothing;
        entries = d.is ∙ dict_is (p ∷ ps);
        is = λ counts l signature a os bs ls e.
            dict_open words wording aliases class numbers m zs counts l (node forms.Dict 0 d.term nothing) begin
            ∙ ap (on_first (on_parts (with_part places.DictOpen 0 (node forms.Dict 0 d.term nothing)))) (skip words wording aliases class numbers counts l inner ∙ e);
      }

  -- The function type
  pub record SignatureRead (n : Names) (operands : List ℕ) (results : Values) (rest : List PrintedWord) (from : List Event) : Type 0 where
    pub behind : List Event
    pub here : Here rest behind
    pub waiting : waits from ≡ length results ∷ waits behind
    pub is : (body : Body) (c : Count) (l : Left) (outside : Bool) (a : List (ℕ × TypeTree)) (os : List OpTree) (bs : List BlockTree) (ls : Levels) → (body.within == 0) ≡ outside
        → reads (at body (typed outside c)) l behind ≡ level no_parts a os bs ∷ ls
        → reads (at body c) l from ≡ level (parts [] [] nothing [] nothing (signature_of n operands results)) a os bs ∷ ls

  pub signature_read : (n : Names) (operands : List ℕ) (results : Values) (rest : List PrintedWord) (es : List Event) → are_formed_types (operand_types n operands) ≡ true → are_formed_types (value_types results) ≡ true
      → Here (signature_words n operands results rest) es → SignatureRead n operands results rest es
  signature_read n operands results rest es f g (one_more w k says _ (one_more x m {es = zs} said _ more)) =
      let ins = types_terms words wording (Suffix all) aliases false (operand_types n operands) _ _ f more in
      let c = first ins.told in
      let a = first c.here in
      let outs = results_terms words wording (Suffix all) aliases false (value_types results) rest a.behind g a.here in
      let list : items words aliases ins.behind ≡ nothing ∷ terms_of (value_types results) ∷ items words aliases outs.behind =
      ap (items words aliases) c.is ∙ ap (λ ts. nothing ∷ ts) (ap (items words aliases) a.is ∙ outs.terms (aliases a.name)) in
      let begin = ap (λ ts. first_of (acted (aliases m) (Join forms.Func 0) ts)) (ins.terms (aliases m) (terms_of (value_types results) ∷ items words aliases outs.behind) (ap (λ z. opens_types (place_next z)) c.is) list) in
      let inner = passed_to more (types_kept (Front rest) (front_kept rest) false (operand_types n operands) _ (after _ refl (after _ refl (results_kept (Front rest) (front_kept rest) false (value_types results) rest whole)))) outs.told in
      record {
        behind = outs.behind;
        here = outs.told;
        waiting = ap (λ t. results_in t ∷ waits zs) begin ∙ ap (λ j. j ∷ waits zs) (lengths_are results) ∙ ap (λ ws. length results ∷ ws) (skip_waits words wording aliases class numbers inner);
        is = λ body counts l outside args os bs ls e h.
            signature_colon words wording aliases class numbers k (event words wording aliases class numbers places.SignatureOpen m ∷ zs) body counts l outside e
            ∙ signature_open words wording aliases class numbers m zs (at body (typed outside counts)) l (signature_of n operands results) begin
            ∙ ap (on_first (on_parts (with_part places.SignatureOpen 0 (signature_of n operands results)))) (skip words wording aliases class numbers (at body (typed outside counts)) l inner ∙ h);
      }

  -- Arguments and labels
  record ArgsGo (vs : Values) (from behind : List Event) : Type 0 where
    is : (body : Body) (c : Count) (l : Left) (os : List OpTree) (bs : List BlockTree) (ls : Levels) → are_counted c.values vs ≡ true
        → reads (at body (past_values c (length vs))) l behind ≡ level no_parts [] os bs ∷ ls → reads (at body c) l from ≡ level no_parts (values_tree vs) os bs ∷ ls

  record ArgsRead (vs : Values) (rest : List PrintedWord) (from : List Event) : Type 0 where
    behind : List Event
    here : Here rest behind
    waiting : waits from ≡ waits behind
    go : ArgsGo vs from behind

  record ArgRead (v : ℕ × PlainType) (rest : List PrintedWord) (from : List Event) : Type 0 where
    behind : List Event
    here : Here rest behind
    waiting : waits from ≡ waits behind
    is : (body : Body) (c : Count) (l : Left) → reads (at body c) l from ≡ on_first (with_arg c.values (term_of v.1)) (reads (at body (past_values c 1)) l behind)

  arg_read : (n : Names) (gap : List ℕ) (v : ℕ × PlainType) (rest : List PrintedWord) (es : List Event) → is_formed_type v.1 ≡ true → Here (arg_words n gap v rest) es → ArgRead v rest es
  arg_read n gap v rest es f (one_more w k says _ (one_more x m {es = zs} said _ more)) =
      let t = type_terms words wording (Suffix all) aliases false (codes " ") v.1 rest _ f more in
      let inner = passed_to more (type_kept (Front rest) (front_kept rest) false places.IntegerWord (codes " ") v.1 rest refl whole) t.told in
      record {
        behind = t.behind;
        here = t.told;
        waiting = skip_waits words wording aliases class numbers inner;
        is = λ body c l. arg_name words wording aliases class numbers k (event words wording aliases class numbers places.ArgColon m ∷ zs) body c l (term_of v.1) (ap first_of t.terms)
            ∙ ap (on_first (with_arg c.values (term_of v.1))) (skip words wording aliases class numbers (at body (past_values c 1)) l (past (event words wording aliases class numbers places.ArgColon m) refl inner));
      }

  -- an argument before others
  one_arg : (v : ℕ × PlainType) (vs : Values) (from middle behind : List Event) → ((body : Body) (c : Count) (l : Left) → reads (at body c) l from ≡ on_first (with_arg c.values (term_of v.1)) (reads (at body (past_values c 1)) l middle))
      → ArgsGo vs middle behind → ArgsGo (v ∷ vs) from behind
  one_arg v vs from middle behind one others = record {
    is = λ body c l os bs ls h e.
        one body c l
        ∙ ap (on_first (with_arg c.values (term_of v.1))) (others.is body (past_values c 1) l os bs ls (and-right (v.0 == c.values) _ h) (ap (λ k. reads (at body (record { values = k; labels = c.labels })) l behind) (counts c.values (length vs)) ∙ e))
        ∙ ap (λ t. level no_parts ((c.values, type_tree t) ∷ values_tree vs) os bs ∷ ls) (type_is v.1)
        ∙ ap (λ k. level no_parts ((k, type_tree v.1) ∷ values_tree vs) os bs ∷ ls) (sym (eqb-is v.0 c.values (and-left _ _ h)));
  }
    where
      counts : (n k : ℕ) → n + 1 + k ≡ n + suc k
      counts n k = omega arith

  more_args_read : (n : Names) (vs : Values) (rest : List PrintedWord) (es : List Event) → list_all (is_known_arg n) vs ≡ true → Here (more_args n vs rest) es → ArgsRead vs rest es
  more_args_read n [] rest es f h =
      record { behind = es; here = h; waiting = refl; go = record { is = λ body c l os bs ls s e. ap (λ k. reads (at body (record { values = k; labels = c.labels })) l es) (sym (none c.values)) ∙ e } }
    where
      none : (k : ℕ) → k + 0 ≡ k
      none k = omega arith
  more_args_read n (v ∷ vs) rest es f (one_more w k {es = zs} says _ more) =
      let one = arg_read n (codes " ") v _ _ (and-right (is_alone (n.name v.0)) _ (and-left _ _ f)) more in
      let others = more_args_read n vs rest one.behind (and-right (is_known_arg n v) _ f) one.here in
      record {
        behind = others.behind;
        here = others.here;
        waiting = one.waiting ∙ others.waiting;
        go = one_arg v vs (event words wording aliases class numbers places.ArgComma k ∷ zs) one.behind others.behind (λ body c l. skip words wording aliases class numbers (at body c) l (past (event words wording aliases class numbers places.ArgComma k) refl (here zs)) ∙ one.is body c l) others.go;
      }

  -- the arguments of a block up to its colon
  args_read : (n : Names) (vs : Values) (rest : List PrintedWord) (es : List Event) → list_all (is_known_arg n) vs ≡ true → Here (args_words n vs rest) es → ArgsRead vs rest es
  args_read n [] rest es f h =
      record { behind = es; here = h; waiting = refl; go = record { is = λ body c l os bs ls s e. ap (λ k. reads (at body (record { values = k; labels = c.labels })) l es) (sym (none c.values)) ∙ e } }
    where
      none : (k : ℕ) → k + 0 ≡ k
      none k = omega arith
  args_read n (v ∷ vs) rest es f (one_more w k {es = zs} says _ more) =
      let one = arg_read n [] v _ _ (and-right (is_alone (n.name v.0)) _ (and-left _ _ f)) more in
      let others = more_args_read n vs _ one.behind (and-right (is_known_arg n v) _ f) one.here in
      let c = first others.here in
      let end : Passed others.behind c.behind = past_is (event words wording aliases class numbers places.ArgsClose c.name) c.is refl (here c.behind) in
      let go = one_arg v vs (event words wording aliases class numbers places.ArgsOpen k ∷ zs) one.behind others.behind (λ body c l. skip words wording aliases class numbers (at body c) l (past (event words wording aliases class numbers places.ArgsOpen k) refl (here zs)) ∙ one.is body c l) others.go in
      record {
        behind = c.behind;
        here = c.here;
        waiting = one.waiting ∙ others.waiting ∙ skip_waits words wording aliases class numbers end;
        go = record { is = λ body counts l os bs ls s e. go.is body counts l os bs ls s (skip words wording aliases class numbers (at body (past_values counts (length (v ∷ vs)))) l end ∙ e) };
      }

  pub record LabelRead (args : Values) (rest : List PrintedWord) (from : List Event) : Type 0 where
    pub behind : List Event
    pub here : Here rest behind
    pub waiting : waits from ≡ waits behind
    pub operation : begins_operation (place_next from) ≡ false
    pub is : (within : ℕ) (at_module : Bool) (label : ℕ) (c : Count) (l : Left) (os : List OpTree) (bs : List BlockTree) (ls : Levels) → (within + 1 == 0) ≡ false → label ≡ c.labels → are_counted c.values args ≡ true
        → reads (at (inside within at_module) (past_head c args)) l behind ≡ level no_parts [] os bs ∷ ls → reads (at (inside within at_module) c) l from ≡ level no_parts [] [] (block_of label args os ∷ bs) ∷ ls

  pub label_read : (n : Names) (indent : List ℕ) (k : ℕ) (args : Values) (rest : List PrintedWord) (es : List Event) → list_all (is_known_arg n) args ≡ true → Here (label_words n indent k args rest) es → LabelRead args rest es
  label_read n indent k args rest es f (one_more w m {es = zs} says _ more) =
      let list = args_read n args _ _ f more in
      let c = first list.here in
      record {
        behind = c.behind;
        here = c.here;
        waiting = list.waiting ∙ ap waits c.is;
        operation = refl;
        is = λ within at_module label counts l os bs ls deep same s e.
            block_label words wording aliases class numbers m zs (inside within at_module) counts l
            ∙ ap (on_first (with_block counts.labels)) (list.go.is (inside within at_module) (record { values = counts.values; labels = counts.labels + 1 }) l os bs ls s
            (ap (reads (at (inside within at_module) (past_head counts args)) l) c.is ∙ block_colon words wording aliases class numbers c.name c.behind within at_module (past_head counts args) l deep ∙ e))
            ∙ ap (λ j. level no_parts [] [] (block_of j args os ∷ bs) ∷ ls) (sym same);
      }
