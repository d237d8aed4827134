use Rattle.std.proofs.Common.{sym, ap, ◌+◌, ◌∙◌, [], get_or, length, subst, List, ℕ}
use Rattle.text_types.specs.Stack.{Within}
use Rattle.term_table.specs.Terms.{nothing, term_at}
use Rattle.std.proofs.lemmas.List.{take_rest}
use Rattle.use_kinds.specs.Written.{count_of}
use Rattle.use_kinds.specs.Clashes.{index_of}
use Rattle.use_kinds.specs.Flat.{rows_types}
use Rattle.use_kinds.proofs.ClashLaws.{clash_is}
use Rattle.use_kinds.proofs.clashes.clash_of.Goals as goal

pub fault_of-fault-requires-clause-used : goal.fault_of-fault-requires-clause-used
fault_of-fault-requires-clause-used g c =
    let P : List ℕ → Type 0 = λ ns. Within (length c.args.said.terms.now.nodes.keys) ns in
    c.type_at-used_type.ensures.within (length c.args.said.terms.now.nodes.keys) (subst P (sym c.deref.ensures.value) c.requires.types)

pub fault_of-fault-requires-clause-defined : goal.fault_of-fault-requires-clause-defined
fault_of-fault-requires-clause-defined g c =
    let P : List ℕ → Type 0 = λ ns. Within (length c.args.said.terms.now.nodes.keys) ns in
    c.type_at-defined_type.ensures.within (length c.args.said.terms.now.nodes.keys) (subst P (sym c.deref-3.ensures.value) c.requires.types)

pub returns : goal.returns
returns g c = λ aliases says.
    let words = g.S.Spelled.spelling c.args.words.now in
    let indexes = g.S.Indexed.indexes c.args.words.now in
    let nodes = c.args.said.terms.now.nodes.keys in
    let items = c.args.said.types.now.items.items in
    let rows = c.args.said.types.now.rows.items in
    clash_is words indexes aliases nodes c.args.said.events.now c.args.said.numbers.now c.args.said.signatures.now items rows says c.args.used c.args.defined c.count_of-count.result
    c.index_of-index.result (term_at nodes c.type_at-used_type.result) (term_at nodes c.type_at-defined_type.result) c.place_of.result c.place_of-2.result c.fault_of-fault.result c.later.result
    c.later.ensures (c.place_of.ensures words aliases indexes says.begun says.behind) (c.place_of-2.ensures words aliases indexes says.begun says.behind)
    (c.count_of-count.ensures ∙ ap (count_of words) (take_rest c.args.said.events.now (c.args.defined + 1))) (c.index_of-index.ensures ∙ ap (index_of indexes) (take_rest c.args.said.events.now (c.args.used + 1)))
    (c.type_at-used_type.ensures.is nodes ∙ ap (λ ns. get_or (get_or (rows_types nodes ns c.deref-2.result.now) c.args.used []) 0 nothing) c.deref.ensures.value
    ∙ ap (λ rs. get_or (get_or (rows_types nodes items rs) c.args.used []) 0 nothing) c.deref-2.ensures.value)
    (c.type_at-defined_type.ensures.is nodes ∙ ap (λ ns. get_or (get_or (rows_types nodes ns c.deref-4.result.now) c.args.defined []) c.index_of-index.result nothing) c.deref-3.ensures.value
    ∙ ap (λ rs. get_or (get_or (rows_types nodes items rs) c.args.defined []) c.index_of-index.result nothing) c.deref-4.ensures.value)
    c.fault_of-fault.ensures
