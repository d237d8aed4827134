-- Printed operations as runs.
use Rattle.std.proofs.Common.{◌≡◌, ℕ, ◌+◌, ◌-◌, ◌&&◌, Bool, true, false, not, ◌||◌, List, [], ◌∷◌, ◌++◌, length, drop, refl, sym, ap, ◌∙◌, subst, true≢false, arith}
use Rattle.std.specs.Prelude.{codes, ◌==◌, if◌then◌else◌}
use Rattle.std.specs.List.{list_all}
use Rattle.mlir_lex.proofs.Lengths.{and-left, and-right, eqb-is}
use Rattle.text_grammar.specs.declared.places.Place.TheVariants as places
use Rattle.plain_tree.specs.Ops.{Kind, Op, op, Ops, end_of_ops, more_ops, Regions, end_of_regions, region, Blocks, end_of_blocks, block, Values}
use Rattle.text_model.specs.PrintedNames.{Names}
use Rattle.text_model.specs.PrintedOps.{has_none}
use Rattle.tree_text.specs.NameText.{string_text}
use Rattle.text_events.specs.declared.event.Event.{Event}
use Rattle.text_types.specs.Items.{place_next}
use Rattle.text_scopes.specs.declared.bodies.Body.{Body}
use Rattle.text_scopes.specs.declared.steps.Step.TheVariants as steps
use Rattle.text_scopes.specs.Bodies.{is_module, opens_body, behind as body_behind}
use Rattle.text_scopes.specs.Seen.{Turn}
use Rattle.event_trees.specs.declared.counts.Counts.{Counts}
use Rattle.event_trees.specs.Numbers.{begins_operation, first_count}
use Rattle.printed_words.specs.Words.{PrintedWord}
use Rattle.printed_ops.specs.OpWords.{attrs_words, blocks_from, blocks_words, close_word, label_words, lead_words, more_regions, no_ops, op_words, operands_words, ops_words, props_words, regions_words, shows, signature_words, successors_words}
use Rattle.printed_ops.specs.Named.{are_formed, are_known_blocks, are_known_ops, are_known_regions, are_named, is_known_arg, is_known_op, is_named, is_placed, is_small, is_typed}
use Rattle.printed_attrs.specs.Readable.{are_bytes}
use Rattle.printed_ops.proofs.TextLemmas.{known}
use Rattle.printed_ops.proofs.ReadLemmas.{operands_formed, values_formed}
use Rattle.printed_terms.proofs.SpellLemmas.{string_spelled}
use Rattle.printed_terms.proofs.SeenWords.{one_more}
use Rattle.printed_trees.specs.Numbering.{Count, are_counted, are_numbered, are_numbered_blocks, are_numbered_regions, is_numbered, none_counted, past_blocks, past_head, past_op, past_ops, past_regions, past_values}
use Rattle.printed_trees.specs.Roles.{at}
use Rattle.printed_trees.specs.Laws.{name_of}
use Rattle.printed_trees.proofs.Steps.{inside, opened}
use Rattle.printed_trees.proofs.OpTrees.{deep}
use Rattle.printed_trees.proofs.Parts.{first}
use Rattle.printed_trees.proofs.Suffixes.{Suffix}
use Rattle.scoped_trees.specs.Scoped.{results_of}
use Rattle.scoped_trees.proofs.States.{Moved, Setting, St, event, st, waits}
use Rattle.scoped_trees.proofs.Runs.{BlocksRun, BodyRun, LeadRun, OpsRun, Quiet, RegionsRun, TargetsRun, UsesRun, blocks_end, blocks_hidden, blocks_label, body_run, hush, ops_end, ops_more, quiet, regions_end, regions_more}
use Rattle.scoped_trees.proofs.Moves.{body_at, close_moves, hushed_moves, label_moves, open_moves}
use Rattle.scoped_trees.proofs.Parts.{Ended, HeadRead, Is, SignatureRead, To, attrs_read, head_read, lead_read, operands_read, props_read, quiet_join, successors_read, to_count, type_read}

back : (n : ℕ) → n + 1 - 1 ≡ n
back n = omega arith

no_values : (c : Count) → past_head c [] ≡ opened true c
no_values c = ap (λ k. record { values = k; labels = c.labels + 1 }) (same c.values)
  where
    same : (k : ℕ) → k + 0 ≡ k
    same k = omega arith

no_args : (args : Values) → not (has_none args) ≡ false → args ≡ []
no_args [] h = refl
no_args (v ∷ args) h = absurd (true≢false h)

-- what hides a label
record Hidden (a b c : Bool) : Type 0 where
  first_hides : a ≡ false
  second_hides : b ≡ false
  third_hides : c ≡ false

hides : (a b c : Bool) → (a || b || c) ≡ false → Hidden a b c
hides true b c h = absurd (true≢false h)
hides false true c h = absurd (true≢false h)
hides false false true h = absurd (true≢false h)
hides false false false h = record { first_hides = refl; second_hides = refl; third_hides = refl }

abbrev successors_of : Op → List ℕ
successors_of (op k results operands regions successors) = successors

-- the successors of a known operation have positions
placed_known : (n : Names) (o : Op) → is_known_op n o ≡ true → list_all (λ l. is_placed (n.position l)) (successors_of o) ≡ true
placed_known n (op k results operands regions successors) h =
    let a = and-right (are_bytes k.name) _ h in
    let b = and-right (are_named n results) _ a in
    let c = and-right (are_formed results) _ b in
    let d = and-right (list_all (λ v. is_named (n.name v)) operands) _ c in
    let e = and-right (list_all (λ v. is_typed (n.type_of v)) operands) _ d in
    and-left _ _ e

module _ (g : Setting) (n : Names) where
  -- an operation in a region
  pub record OneOp (o : Op) (x y : St) : Type 0 where
    pub middle : St
    pub front : BodyRun g n true o x middle
    pub rest : Quiet g n middle y

  -- a function
  pub record FuncRun (o : Op) (x y : St) : Type 0 where
    pub middle : St
    pub behind : St
    pub e : Event
    pub front : BodyRun g n false o x middle
    pub ends : Moved g steps.Ends steps.Stays e middle behind
    pub rest : Quiet g n behind y

  pub record OpRead (o : Op) (name : List ℕ) (rest : List PrintedWord) (es : List Event) : Type 0 where
    pub number : ℕ
    pub others : List Event
    pub there : Suffix g.all (event places.OpName number ∷ others)
    pub spelled : g.wording.spelled number ≡ name
    pub behind : List Event
    pub told_behind : Is g n rest behind
    pub waiting : waits g es ≡ waits g behind
    pub operation : begins_operation (place_next es) ≡ true
    pub go : (within : ℕ) (at_module : Bool) (c : Count) (values labels : List Turn) → is_numbered c o ≡ true → To (OneOp o) (at (inside within at_module) c) (at (inside within at_module) (past_op c o)) values labels es behind
    pub function : (at_module : Bool) (values labels : List Turn) → is_module (g.class number) ≡ false → is_numbered none_counted o ≡ true → To (FuncRun o) (at (body_at 0 at_module) none_counted) (at (body_at 0 false) none_counted) values labels es behind

  record OpsRead (os : Ops) (rest : List PrintedWord) (es : List Event) : Type 0 where
    behind : List Event
    told_behind : Is g n rest behind
    waiting : waits g es ≡ waits g behind
    operation : no_ops os ≡ false → begins_operation (place_next es) ≡ true
    go : (within : ℕ) (at_module : Bool) (c : Count) (values labels : List Turn) → are_numbered c os ≡ true → To (OpsRun g n os) (at (inside within at_module) c) (at (inside within at_module) (past_ops c os)) values labels es behind

  record BlocksRead (k : ℕ) (bs : Blocks) (rest : List PrintedWord) (es : List Event) : Type 0 where
    behind : List Event
    told_behind : Is g n rest behind
    waiting : waits g es ≡ waits g behind
    go : (within : ℕ) (at_module : Bool) (c : Count) (values labels : List Turn) → are_numbered_blocks c bs ≡ true → To (BlocksRun g n k bs) (at (inside within at_module) c) (at (inside within at_module) (past_blocks c bs)) values labels es behind

  record FirstRead (bs : Blocks) (rest : List PrintedWord) (es : List Event) : Type 0 where
    behind : List Event
    told_behind : Is g n rest behind
    waiting : waits g es ≡ waits g behind
    labelled : Bool
    operation : begins_operation (place_next es) ≡ labelled
    go : (within : ℕ) (at_module : Bool) (c : Count) (values labels : List Turn) → are_numbered_blocks c bs ≡ true → To (BlocksRun g n 0 bs) (at (inside within at_module) (opened labelled c)) (at (inside within at_module) (past_blocks c bs)) values labels es behind

  record RegionsRead (rs : Regions) (rest : List PrintedWord) (es : List Event) : Type 0 where
    behind : List Event
    told_behind : Is g n rest behind
    waiting : waits g es ≡ waits g behind
    go : (within : ℕ) (at_module : Bool) (c : Count) (values labels : List Turn) → opens_body (body_at within at_module) ≡ false → are_numbered_regions c rs ≡ true
        → To (RegionsRun g n rs) (at (body_at within at_module) c) (at (body_at within at_module) (past_regions c rs)) values labels es behind

  regions_after : {rs : Regions} {x y z : St} → Quiet g n x y → RegionsRun g n rs y z → RegionsRun g n rs x z
  regions_after q (regions_end r) = regions_end (quiet_join g n q r)
  regions_after q (regions_more blocks more e f r m inner l rest) = regions_more blocks more e f (quiet_join g n q r) m inner l rest

  regions_then : {rs : Regions} {x y z : St} → RegionsRun g n rs x y → Quiet g n y z → RegionsRun g n rs x z
  regions_then (regions_end r) q = regions_end (quiet_join g n r q)
  regions_then (regions_more blocks more e f r m inner l rest) q = regions_more blocks more e f r m inner l (regions_then rest q)

  -- a region before others, from its first blocks on
  one_region : (indent : List ℕ) (blocks : Blocks) (rs : Regions) (rest : List PrintedWord) (begin : ℕ) (es : List Event) (more : List PrintedWord)
      → FirstRead blocks (close_word indent ∷ more) es → ((zs : List Event) → Is g n more zs → RegionsRead rs rest zs) → RegionsRead (region blocks rs) rest (event places.RegionOpen begin ∷ es)
  one_region indent blocks rs rest begin es more f others =
      let c = first g.words g.wording g.aliases g.class g.numbers g.all f.told_behind in
      let o = others c.behind c.here in
      record {
        behind = o.behind;
        told_behind = o.told_behind;
        waiting = f.waiting ∙ ap (waits g) c.is ∙ o.waiting;
        go = λ within at_module counts values labels body h.
            let r = f.go within at_module counts ((steps.Opens, event places.RegionOpen begin) ∷ values) ((steps.Opens, event places.RegionOpen begin) ∷ labels) (and-left _ _ h) in
            let last : Counts = at (inside within at_module) (past_blocks counts blocks) in
            let m = o.go within at_module (past_blocks counts blocks) ((steps.Closes, event places.RegionClose c.name) ∷ r.values) ((steps.Closes, event places.RegionClose c.name) ∷ r.labels) body (and-right (are_numbered_blocks counts blocks) _ h) in
            let close : Moved g steps.Closes steps.Closes (event places.RegionClose c.name) (st last r.values r.labels f.behind)
            (st (at (body_at within at_module) (past_blocks counts blocks)) ((steps.Closes, event places.RegionClose c.name) ∷ r.values) ((steps.Closes, event places.RegionClose c.name) ∷ r.labels) c.behind) =
            subst (λ (ys : List Event). Moved g steps.Closes steps.Closes (event places.RegionClose c.name) (st last r.values r.labels ys)
            (st (at (body_at within at_module) (past_blocks counts blocks)) ((steps.Closes, event places.RegionClose c.name) ∷ r.values) ((steps.Closes, event places.RegionClose c.name) ∷ r.labels) c.behind)) (sym c.is)
            (close_moves g c.name c.behind within at_module (past_blocks counts blocks) (deep within) (back within) r.values r.labels) in
            record {
              values = m.values;
              labels = m.labels;
              run = regions_more blocks rs (event places.RegionOpen begin) (event places.RegionClose c.name) (hush _) (open_moves g begin es within at_module counts f.labelled body f.operation values labels) r.run close m.run;
            };
      }

  -- a block with its label
  labelled_go : (k label : ℕ) (args : Values) (ops : Ops) (more : Blocks) → is_small k ≡ true → {rest : List PrintedWord} (es : List Event) (l : HeadRead g n k args rest es) {middle last : List Event}
      → ((within : ℕ) (at_module : Bool) (c : Count) (values labels : List Turn) → are_numbered c ops ≡ true → To (OpsRun g n ops) (at (inside within at_module) c) (at (inside within at_module) (past_ops c ops)) values labels l.behind middle)
      → ((within : ℕ) (at_module : Bool) (c : Count) (values labels : List Turn) → are_numbered_blocks c more ≡ true → To (BlocksRun g n (k + 1) more) (at (inside within at_module) c) (at (inside within at_module) (past_blocks c more)) values labels middle last)
      → (within : ℕ) (at_module : Bool) (c : Count) (values labels : List Turn) → are_numbered_blocks c (block label args ops more) ≡ true
      → To (BlocksRun g n k (block label args ops more)) (at (inside within at_module) c) (at (inside within at_module) (past_blocks c (block label args ops more))) values labels es last
  labelled_go k label args ops more few es l ops_go more_go within at_module c values labels h =
      let rest_of : (are_counted c.values args && (are_numbered (past_head c args) ops && are_numbered_blocks (past_ops (past_head c args) ops) more)) ≡ true = and-right (label == c.labels) _ h in
      let both : (are_numbered (past_head c args) ops && are_numbered_blocks (past_ops (past_head c args) ops) more) ≡ true = and-right (are_counted c.values args) _ rest_of in
      let a = l.go (inside within at_module) c ((steps.Stays, event places.BlockLabel l.name) ∷ values) ((steps.Defines, event places.BlockLabel l.name) ∷ labels) (deep within) (and-left _ _ rest_of) in
      let o = ops_go within at_module (past_head c args) a.values a.labels (and-left _ _ both) in
      let m = more_go within at_module (past_ops (past_head c args) ops) o.values o.labels (and-right (are_numbered (past_head c args) ops) _ both) in
      let moved : Moved g steps.Stays steps.Defines (event places.BlockLabel l.name) (st (at (inside within at_module) c) values labels es)
      (st (at (inside within at_module) (record { values = c.values; labels = c.labels + 1 })) ((steps.Stays, event places.BlockLabel l.name) ∷ values) ((steps.Defines, event places.BlockLabel l.name) ∷ labels) l.others) =
      subst (λ (ys : List Event). Moved g steps.Stays steps.Defines (event places.BlockLabel l.name) (st (at (inside within at_module) c) values labels ys)
      (st (at (inside within at_module) (record { values = c.values; labels = c.labels + 1 })) ((steps.Stays, event places.BlockLabel l.name) ∷ values) ((steps.Defines, event places.BlockLabel l.name) ∷ labels) l.others)) (sym l.event_is)
      (label_moves g l.name l.others (inside within at_module) c values labels) in
      record {
        values = m.values;
        labels = m.labels;
        run = blocks_label k label args ops more (event places.BlockLabel l.name) moved l.spelt l.calls few (sym (eqb-is label c.labels (and-left _ _ h))) a.run o.run m.run;
      }

  -- the parts of an operation one after the other
  join_body : {deep_in : Bool} {c d f : Counts} {vs ls : List Turn} {es e1 e2 e3 e4 e5 e6 : List Event} (k : Kind) (results : Values) (operands : List ℕ) (regions : Regions) (successors : List ℕ) → To (LeadRun g n results) c d vs ls es e1
      → ((us ts : List Turn) → To (UsesRun g n operands) d d us ts e1 e2) → ((us ts : List Turn) → To (TargetsRun g n deep_in successors) d d us ts e2 e3) → ((us ts : List Turn) → To (Quiet g n) d d us ts e3 e4)
      → ((us ts : List Turn) → To (RegionsRun g n regions) d f us ts e4 e5) → ((us ts : List Turn) → To (Quiet g n) f f us ts e5 e6) → To (BodyRun g n deep_in (op k results operands regions successors)) c f vs ls es e6
  join_body {deep_in} k results operands regions successors lead uses targets props inner attrs =
      let r2 = uses lead.values lead.labels in
      let r3 = targets r2.values r2.labels in
      let r4 = props r3.values r3.labels in
      let r5 = inner r4.values r4.labels in
      let r6 = attrs r5.values r5.labels in
      record { values = r6.values; labels = r6.labels; run = body_run deep_in k results operands regions successors lead.run r2.run r3.run (regions_after r4.run r5.run) r6.run }

  join_op : {o : Op} {c f : Counts} {vs ls : List Turn} {es middle behind : List Event} → To (BodyRun g n true o) c f vs ls es middle → ((us ts : List Turn) → To (Quiet g n) f f us ts middle behind) → To (OneOp o) c f vs ls es behind
  join_op b q = let r = q b.values b.labels in record { values = r.values; labels = r.labels; run = record { middle = _; front = b.run; rest = r.run } }

  join_function : {o : Op} {c : Counts} {body : Body} {d : Count} {vs ls : List Turn} {es middle behind : List Event} → To (BodyRun g n false o) c (at body d) vs ls es middle → ((us ts : List Turn) → Ended g n body d us ts middle behind)
      → To (FuncRun o) c (at body none_counted) vs ls es behind
  join_function b q = let s = q b.values b.labels in record { values = s.values; labels = s.labels; run = record { middle = _; behind = s.middle; e = s.e; front = b.run; ends = s.ends; rest = s.run } }

  -- an operation up to its function type
  record BodyRead (o : Op) (name : List ℕ) (rest : List PrintedWord) (es : List Event) : Type 0 where
    number : ℕ
    others : List Event
    there : Suffix g.all (event places.OpName number ∷ others)
    spelled : g.wording.spelled number ≡ name
    behind : List Event
    told_behind : Is g n rest behind
    waiting : waits g es ≡ drop 1 (waits g behind)
    operation : begins_operation (place_next es) ≡ true
    go : first_count (waits g behind) ≡ length (results_of o) → (deep_in : Bool) (body : Body) (within : ℕ) (at_module : Bool) (c : Count) (values labels : List Turn) → body_behind g.class body (event places.OpName number) ≡ body_at within at_module
        → opens_body (body_at within at_module) ≡ false → (within == 0) ≡ not deep_in → is_numbered c o ≡ true → To (BodyRun g n deep_in o) (at body c) (at (body_at within at_module) (past_op c o)) values labels es behind

  op_of : {o : Op} {name : List ℕ} {rest : List PrintedWord} {middle : List PrintedWord} (es : List Event) (b : BodyRead o name middle es) → SignatureRead g n (results_of o) rest b.behind → OpRead o name rest es
  op_of es b sig = record {
    number = b.number;
    others = b.others;
    there = b.there;
    spelled = b.spelled;
    behind = sig.behind;
    told_behind = sig.told_behind;
    waiting = b.waiting ∙ ap (drop 1) sig.waiting;
    operation = b.operation;
    go = λ within at_module c values labels h.
        join_op (b.go (ap first_count sig.waiting) true (inside within at_module) (within + 1) at_module c values labels
        (ap (λ t. if t then record { within = 0; at_module = is_module (g.class b.number) } else inside within at_module) (deep within)) (ap (λ t. if t then at_module else false) (deep within)) (deep within) h)
        (λ us ts. sig.go (inside within at_module) _ us ts (deep within));
    function = λ at_module values labels plain h.
        join_function (b.go (ap first_count sig.waiting) false (body_at 0 at_module) 0 false none_counted values labels (ap (λ m. body_at 0 m) plain) refl refl h) (λ us ts. sig.end (body_at 0 false) _ us ts refl);
  }

  -- the regions are read by the caller
  body_read : (indent : List ℕ) (k : Kind) (results : Values) (operands : List ℕ) (regions : Regions) (successors : List ℕ) (rest : List PrintedWord) (es : List Event) → is_known_op n (op k results operands regions successors) ≡ true
      → ((ps : List PrintedWord) (ys : List Event) → Is g n (regions_words n indent regions ps) ys → RegionsRead regions ps ys)
      → Is g n (lead_words n (10 ∷ indent) results (string_text k.name) (operands_words n operands (successors_words n successors (props_words k.props (regions_words n indent regions (attrs_words k.attrs rest)))))) es
      → BodyRead (op k results operands regions successors) k.name rest es
  body_read indent k results operands regions successors rest es know within_read t =
      let f = known n k results operands regions successors know in
      let named : are_named n results ≡ true = and-left _ _ (and-right (are_bytes k.name) _ know) in
      let lead = lead_read g n (10 ∷ indent) results (string_text k.name) _ es named t in
      let ins = operands_read g n operands _ lead.behind f.operands_named lead.told_behind in
      let outs = successors_read g n successors _ ins.behind (placed_known n (op k results operands regions successors) know) ins.told_behind in
      let props = props_read g n k.props _ outs.behind outs.told_behind in
      let inner = within_read (attrs_words k.attrs rest) props.behind props.told_behind in
      let attrs = attrs_read g n k.attrs rest inner.behind inner.told_behind in
      let waiting : waits g lead.behind ≡ waits g attrs.behind = ins.waiting ∙ outs.waiting ∙ props.waiting ∙ inner.waiting ∙ attrs.waiting in
      record {
        number = lead.number;
        others = lead.others;
        there = lead.there;
        spelled = lead.spelled ∙ string_spelled k.name f.name;
        behind = attrs.behind;
        told_behind = attrs.told_behind;
        waiting = lead.waiting ∙ ap (drop 1) waiting;
        operation = lead.operation;
        go = λ many deep_in body within at_module c values labels there opens here h.
            join_body k results operands regions successors
            (to_count (LeadRun g n results) (at body c) (at (body_behind g.class body (event places.OpName lead.number)) (past_values c (first_count (waits g lead.behind)))) (at (body_at within at_module) (past_values c (length results))) values labels es lead.behind
            (ap (λ b. at b (past_values c (first_count (waits g lead.behind)))) there ∙ ap (λ j. at (body_at within at_module) (past_values c j)) (ap first_count waiting ∙ many)) (lead.go body c values labels (and-left _ _ h)))
            (λ us ts. ins.go (at (body_at within at_module) (past_values c (length results))) us ts)
            (λ us ts. outs.go deep_in (at (body_at within at_module) (past_values c (length results))) us ts here)
            (λ us ts. props.go (at (body_at within at_module) (past_values c (length results))) us ts)
            (λ us ts. inner.go within at_module (past_values c (length results)) us ts opens (and-right (are_counted c.values results) _ h))
            (λ us ts. attrs.go (at (body_at within at_module) (past_regions (past_values c (length results)) regions)) us ts);
      }

  mutual
    pub op_read : (indent : List ℕ) (o : Op) (rest : List PrintedWord) (es : List Event) → is_known_op n o ≡ true → Is g n (op_words n indent o rest) es → OpRead o (name_of o) rest es
    op_read indent (op k results operands regions successors) rest es know t =
        let f = known n k results operands regions successors know in
        let b = body_read indent k results operands regions successors (signature_words n operands results rest) es know (λ ps ys u. regions_read indent regions ps ys f.regions_known u) t in
        op_of es b (type_read g n operands results rest b.behind (operands_formed n operands f.operands_typed) (values_formed results f.results_formed) b.told_behind)

    ops_read : (indent : List ℕ) (os : Ops) (rest : List PrintedWord) (es : List Event) → are_known_ops n os ≡ true → Is g n (ops_words n indent os rest) es → OpsRead os rest es
    ops_read indent end_of_ops rest es know t = record {
      behind = es;
      told_behind = t;
      waiting = refl;
      operation = λ h. absurd (true≢false h);
      go = λ within at_module c values labels h. record { values = values; labels = labels; run = ops_end _ };
    }
    ops_read indent (more_ops o os) rest es know t =
        let one = op_read indent o _ es (and-left _ _ know) t in
        let others = ops_read indent os rest one.behind (and-right (is_known_op n o) _ know) one.told_behind in
        record {
          behind = others.behind;
          told_behind = others.told_behind;
          waiting = one.waiting ∙ others.waiting;
          operation = λ h. one.operation;
          go = λ within at_module c values labels h.
              let a = one.go within at_module c values labels (and-left _ _ h) in
              let m = others.go within at_module (past_op c o) a.values a.labels (and-right (is_numbered c o) _ h) in
              record { values = m.values; labels = m.labels; run = ops_more o os a.run.front a.run.rest m.run };
        }

    regions_read : (indent : List ℕ) (rs : Regions) (rest : List PrintedWord) (es : List Event) → are_known_regions n rs ≡ true → Is g n (regions_words n indent rs rest) es → RegionsRead rs rest es
    regions_read indent end_of_regions rest es know t =
        record { behind = es; told_behind = t; waiting = refl; go = λ within at_module c values labels body h. record { values = values; labels = labels; run = regions_end (hush _) } }
    regions_read indent (region blocks rs) rest es know (one_more w k says _ (one_more x m {es = zs} said _ more)) =
        let f = blocks_read indent blocks _ zs (and-left _ _ know) more in
        let r = one_region indent blocks rs _ m zs _ f (λ ys t. more_regions_read indent rs _ ys (and-right (are_known_blocks n 0 blocks) _ know) t) in
        let c = first g.words g.wording g.aliases g.class g.numbers g.all r.told_behind in
        record {
          behind = c.behind;
          told_behind = c.here;
          waiting = r.waiting ∙ ap (waits g) c.is;
          go = λ within at_module counts values labels body h.
              let a = r.go within at_module counts ((steps.Stays, event places.RegionsOpen k) ∷ values) ((steps.Stays, event places.RegionsOpen k) ∷ labels) body h in
              let last : Counts = at (body_at within at_module) (past_regions counts (region blocks rs)) in
              let end : Quiet g n (st last a.values a.labels r.behind) (st last ((steps.Stays, event places.RegionsClose c.name) ∷ a.values) ((steps.Stays, event places.RegionsClose c.name) ∷ a.labels) c.behind) =
              subst (λ (ys : List Event). Quiet g n (st last a.values a.labels ys) (st last ((steps.Stays, event places.RegionsClose c.name) ∷ a.values) ((steps.Stays, event places.RegionsClose c.name) ∷ a.labels) c.behind)) (sym c.is)
              (quiet (event places.RegionsClose c.name) (hushed_moves g places.RegionsClose c.name c.behind last refl a.values a.labels) (hush _)) in
              record {
                values = (steps.Stays, event places.RegionsClose c.name) ∷ a.values;
                labels = (steps.Stays, event places.RegionsClose c.name) ∷ a.labels;
                run = regions_after (quiet (event places.RegionsOpen k) (hushed_moves g places.RegionsOpen k (event places.RegionOpen m ∷ zs) (at (body_at within at_module) counts) refl values labels) (hush _)) (regions_then a.run end);
              };
        }

    more_regions_read : (indent : List ℕ) (rs : Regions) (rest : List PrintedWord) (es : List Event) → are_known_regions n rs ≡ true → Is g n (more_regions n indent rs rest) es → RegionsRead rs rest es
    more_regions_read indent end_of_regions rest es know t =
        record { behind = es; told_behind = t; waiting = refl; go = λ within at_module c values labels body h. record { values = values; labels = labels; run = regions_end (hush _) } }
    more_regions_read indent (region blocks rs) rest es know (one_more w k says _ (one_more x m {es = zs} said _ more)) =
        let f = blocks_read indent blocks _ zs (and-left _ _ know) more in
        let r = one_region indent blocks rs rest m zs _ f (λ ys t. more_regions_read indent rs rest ys (and-right (are_known_blocks n 0 blocks) _ know) t) in
        record {
          behind = r.behind;
          told_behind = r.told_behind;
          waiting = r.waiting;
          go = λ within at_module counts values labels body h.
              let a = r.go within at_module counts ((steps.Stays, event places.RegionComma k) ∷ values) ((steps.Stays, event places.RegionComma k) ∷ labels) body h in
              record {
                values = a.values;
                labels = a.labels;
                run = regions_after (quiet (event places.RegionComma k) (hushed_moves g places.RegionComma k (event places.RegionOpen m ∷ zs) (at (body_at within at_module) counts) refl values labels) (hush _)) a.run;
              };
        }

    -- the blocks of a region, up to its end
    blocks_read : (indent : List ℕ) (bs : Blocks) (rest : List PrintedWord) (es : List Event) → are_known_blocks n 0 bs ≡ true → Is g n (blocks_words n indent bs (close_word indent ∷ rest)) es → FirstRead bs (close_word indent ∷ rest) es
    blocks_read indent end_of_blocks rest es know (one_more w k says there more) = record {
      behind = _;
      told_behind = one_more w k says there more;
      waiting = refl;
      labelled = false;
      operation = refl;
      go = λ within at_module c values labels h. record { values = values; labels = labels; run = blocks_end 0 _ };
    }
    blocks_read indent (block label args ops more) rest es know t =
        by_shows (shows n label args ops) refl t (λ zs u. ops_read (indent ++ codes "  ") ops _ zs (and-left _ _ inner) u) (λ zs u. from_read indent 1 more _ zs (and-right (are_known_ops n ops) _ inner) u)
      where
        args_known : (list_all (is_known_arg n) args && (are_known_ops n ops && are_known_blocks n (0 + 1) more)) ≡ true
        args_known = and-right (is_small 0) _ know

        inner : (are_known_ops n ops && are_known_blocks n (0 + 1) more) ≡ true
        inner = and-right (list_all (is_known_arg n) args) _ args_known

        by_shows : (b : Bool) → shows n label args ops ≡ b
            → Is g n (if b then label_words n indent 0 args (ops_words n (indent ++ codes "  ") ops (blocks_from n indent 1 more (close_word indent ∷ rest))) else ops_words n (indent ++ codes "  ") ops (blocks_from n indent 1 more (close_word indent ∷ rest))) es
            → ((zs : List Event) → Is g n (ops_words n (indent ++ codes "  ") ops (blocks_from n indent 1 more (close_word indent ∷ rest))) zs → OpsRead ops (blocks_from n indent 1 more (close_word indent ∷ rest)) zs)
            → ((zs : List Event) → Is g n (blocks_from n indent 1 more (close_word indent ∷ rest)) zs → BlocksRead 1 more (close_word indent ∷ rest) zs) → FirstRead (block label args ops more) (close_word indent ∷ rest) es
        by_shows true shown t ops_at more_at =
            let l = head_read g n indent 0 args _ es (and-left _ _ args_known) t in
            let o = ops_at l.behind l.told_behind in
            let m = more_at o.behind o.told_behind in
            record {
              behind = m.behind;
              told_behind = m.told_behind;
              waiting = l.waiting ∙ o.waiting ∙ m.waiting;
              labelled = false;
              operation = l.operation;
              go = λ within at_module c values labels h.
                  labelled_go 0 label args ops more (and-left _ _ know) es l o.go m.go within at_module c values labels h;
            }
        by_shows false shown t ops_at more_at =
            let hidden = hides (not (has_none args)) (no_ops ops) (n.is_target label) shown in
            let none : args ≡ [] = no_args args hidden.first_hides in
            let o = ops_at es t in
            let m = more_at o.behind o.told_behind in
            record {
              behind = m.behind;
              told_behind = m.told_behind;
              waiting = o.waiting ∙ m.waiting;
              labelled = true;
              operation = o.operation hidden.second_hides;
              go = λ within at_module c values labels h.
                  let rest_of : (are_counted c.values args && (are_numbered (past_head c args) ops && are_numbered_blocks (past_ops (past_head c args) ops) more)) ≡ true = and-right (label == c.labels) _ h in
                  let both : (are_numbered (past_head c args) ops && are_numbered_blocks (past_ops (past_head c args) ops) more) ≡ true = and-right (are_counted c.values args) _ rest_of in
                  let a = o.go within at_module (past_head c args) values labels (and-left _ _ both) in
                  let b = m.go within at_module (past_ops (past_head c args) ops) a.values a.labels (and-right (are_numbered (past_head c args) ops) _ both) in
                  record {
                    values = b.values;
                    labels = b.labels;
                    run = subst (λ (z : Count). BlocksRun g n 0 (block label args ops more) (st (at (inside within at_module) z) values labels es) (st (at (inside within at_module) (past_blocks c (block label args ops more))) b.values b.labels m.behind))
                        (ap (past_head c) none ∙ no_values c) (blocks_hidden 0 label args ops more none hidden.third_hides a.run b.run);
                  };
            }

    from_read : (indent : List ℕ) (k : ℕ) (bs : Blocks) (rest : List PrintedWord) (es : List Event) → are_known_blocks n k bs ≡ true → Is g n (blocks_from n indent k bs rest) es → BlocksRead k bs rest es
    from_read indent k end_of_blocks rest es know t = record { behind = es; told_behind = t; waiting = refl; go = λ within at_module c values labels h. record { values = values; labels = labels; run = blocks_end k _ } }
    from_read indent k (block label args ops more) rest es know t =
        let args_known : (list_all (is_known_arg n) args && (are_known_ops n ops && are_known_blocks n (k + 1) more)) ≡ true = and-right (is_small k) _ know in
        let inner : (are_known_ops n ops && are_known_blocks n (k + 1) more) ≡ true = and-right (list_all (is_known_arg n) args) _ args_known in
        let l = head_read g n indent k args _ es (and-left _ _ args_known) t in
        let o = ops_read (indent ++ codes "  ") ops _ l.behind (and-left _ _ inner) l.told_behind in
        let m = from_read indent (k + 1) more rest o.behind (and-right (are_known_ops n ops) _ inner) o.told_behind in
        record {
          behind = m.behind;
          told_behind = m.told_behind;
          waiting = l.waiting ∙ o.waiting ∙ m.waiting;
          go = λ within at_module c values labels h. labelled_go k label args ops more (and-left _ _ know) es l o.go m.go within at_module c values labels h;
        }
