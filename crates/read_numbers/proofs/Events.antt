-- The module that events denote has each function numbered in order.
use Rattle.std.proofs.Common.{◌≡◌, ℕ, suc, true, false, List, [], ◌∷◌, map, length, None, refl, ap, ◌∙◌}
use Rattle.std.specs.List.{list_all}
use Rattle.line_grammar.specs.Grammar.{Reads}
use Rattle.text_grammar.specs.declared.kinds.Kind.{Kind}
use Rattle.text_grammar.specs.Table.{generic}
use Rattle.text_grammar.specs.Text.{start}
use Rattle.plain_tree.specs.Ops.{plain_module}
use Rattle.text_events.specs.declared.event.Event.{Event}
use Rattle.text_types.specs.Spelling.{Spelling}
use Rattle.text_types.specs.Items.{Aliases, begun}
use Rattle.text_types.specs.Aliases.{aliases_of}
use Rattle.text_types.specs.Marks.{marked}
use Rattle.text_scopes.specs.declared.bodies.Class.{Class}
use Rattle.text_scopes.specs.declared.tables.Names.TheVariants as names
use Rattle.text_scopes.specs.Tables.{definitions}
use Rattle.text_kinds.specs.Shapes.{first_misplaced, first_shape, refused_module}
use Rattle.event_trees.specs.Wording.{Wording}
use Rattle.event_trees.specs.Numbers.{no_counts}
use Rattle.event_trees.specs.Levels.{Levels, ops_of}
use Rattle.event_trees.specs.Modules.{denoted, module_of}
use Rattle.event_trees.specs.Roles.{numbers_at, terms_at}
use Rattle.read_states.specs.Numbering.{is_numbered, none_counted}
use Rattle.text_forms.specs.Forms.{IsFile}
use Rattle.read_states.specs.States.{NamesTold, State}
use Rattle.read_states.proofs.Moves.{Runs, moves}
use Rattle.text_forms.proofs.Spans.{spanned}
use Rattle.read_states.specs.Levels.{blocks_in, ops_in, regions_in}
use Rattle.read_states.proofs.Words.{levels, opened_read}
use Rattle.read_numbers.proofs.Fitting.{is_fit}
use Rattle.read_states.proofs.Parts.{T}
use Rattle.read_numbers.proofs.Functions.{Listed}
use Rattle.read_numbers.proofs.Files.{file_fits, module_numbered}

begun_length : (words : Spelling) (aliases : Aliases) (es : List Event) → length (begun words aliases es) ≡ length es
begun_length words aliases [] = refl
begun_length words aliases (e ∷ es) = ap suc (begun_length words aliases es)

marked_length : (es : List Event) → length (marked es) ≡ length es
marked_length [] = refl
marked_length (e ∷ es) = ap suc (marked_length es)

terms_length : (words : Spelling) (es : List Event) → length (terms_at words es) ≡ length es
terms_length words es = begun_length words (aliases_of words (marked es)) (marked es) ∙ marked_length es

nothing_left : (words : Wording) (class : ℕ → Class) (numbers : List ℕ) (x : State) → x.events ≡ []
    → levels words class numbers x ≡ Rattle.event_trees.specs.Levels.empty ∷ []
nothing_left words class numbers x e = ap (λ es. Rattle.read_states.specs.States.read_from words class numbers x.counts x.left es x.terms) e

pub events_numbered : (words : Spelling) (wording : Wording) (class : ℕ → Class) (es : List Event) (kinds : List Kind) → Reads generic start (map (λ (e : Event). e.place) es) kinds
    → first_misplaced class es ≡ None → refused_module class es ≡ None → NamesTold wording class (numbers_at wording class es (terms_at words es)) es
    → list_all (is_numbered none_counted) (plain_module (denoted words wording class es)).funcs ≡ true
events_numbered words wording class es kinds reads placed formed told =
    let ts = terms_at words es in
    let numbers : List ℕ = numbers_at wording class es ts in
    let x : State = record { counts = no_counts; begun = false; shape = first_shape; left = record { values = definitions names.Values class es; labels = definitions names.Labels class es }; events = es; terms = ts } in
    let runs : Runs wording class numbers x = moves wording class numbers es ts no_counts false first_shape x.left (terms_length words es) placed formed told in
    let file : IsFile (T wording class numbers) x runs.last = spanned (T wording class numbers) reads runs.run in
    let ended = nothing_left wording class numbers runs.last runs.over in
    let listed : Listed wording class numbers runs.last = record {
      functions = record { ops_fit = ap (λ k. list_all is_fit (ops_in k)) ended; first_fit = ap (λ k. list_all is_fit (Rattle.event_trees.specs.Modules.first_ops (blocks_in k))) ended };
      regions = ap regions_in ended;
    } in
    let fits = file_fits wording class numbers file (record { within = refl; count_is = refl }) (record { phase = refl; depth = refl }) listed (ap ops_in ended) in
    ap (λ k. list_all (is_numbered none_counted) (plain_module (module_of (ops_of k))).funcs) (opened_read wording class numbers x)
    ∙ module_numbered (ops_in (levels wording class numbers x)) fits
