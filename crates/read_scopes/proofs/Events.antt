-- The successors of the module that events denote are in scope, where nothing refuses the events.
use Rattle.std.proofs.Common.{◌≡◌, ℕ, suc, ◌+◌, ◌<◌, Bool, true, false, List, [], ◌∷◌, map, length, Option, Some, None, refl, ap, ◌∙◌, arith}
use Rattle.std.specs.Prelude.{if◌then◌else◌}
use Rattle.std.specs.List.{list_all}
use Rattle.line_grammar.specs.Grammar.{Reads}
use Rattle.text_grammar.specs.declared.kinds.Kind.{Kind}
use Rattle.text_grammar.specs.declared.places.Place.{Place}
use Rattle.text_grammar.specs.Table.{generic}
use Rattle.text_grammar.specs.Text.{start}
use Rattle.plain_tree.specs.Ops.{plain_module}
use Rattle.text_events.specs.declared.event.Event.{Event}
use Rattle.text_types.specs.Spelling.{Spelling}
use Rattle.text_types.specs.Items.{Aliases, begun}
use Rattle.text_types.specs.Aliases.{aliases_of}
use Rattle.text_types.specs.Marks.{marked}
use Rattle.text_scopes.specs.declared.bodies.Class.{Class}
use Rattle.text_scopes.specs.declared.tables.Names.TheVariants as names
use Rattle.text_scopes.specs.Seen.{Turn, first_undefined, is_undefined}
use Rattle.text_scopes.specs.Tables.{definitions, first_unknown, label_step}
use Rattle.text_kinds.specs.Shapes.{first_misplaced, first_shape, refused_module}
use Rattle.event_trees.specs.Wording.{Wording}
use Rattle.event_trees.specs.Numbers.{no_counts}
use Rattle.event_trees.specs.Levels.{Levels, empty, ops_of}
use Rattle.event_trees.specs.Modules.{denoted, module_of}
use Rattle.event_trees.specs.Roles.{numbers_at, terms_at}
use Rattle.text_forms.specs.Forms.{IsFile, Run, run_end, run_more}
use Rattle.text_forms.proofs.Spans.{spanned}
use Rattle.read_states.specs.States.{Move, NamesTold, State, event, read_from}
use Rattle.read_states.specs.Levels.{blocks_in, ops_in, regions_in}
use Rattle.read_numbers.proofs.Fitting.{blocks_of, ops_of as plain_ops_of, regions_of}
use Rattle.scoped_trees.specs.Scoped.{are_scoped, are_scoped_blocks, are_scoped_regions}
use Rattle.read_states.proofs.Moves.{Runs, moves}
use Rattle.read_states.proofs.Words.{levels, opened_read}
use Rattle.read_scopes.specs.Laws.{has_labels}
use Rattle.read_scopes.proofs.Turned.{Full, Moved}
use Rattle.read_scopes.proofs.Kept.{Scopes, all_known, targets_in}
use Rattle.read_scopes.proofs.Lists.{file_fits, module_fits_whole}

begun_length : (words : Spelling) (aliases : Aliases) (es : List Event) → length (begun words aliases es) ≡ length es
begun_length words aliases [] = refl
begun_length words aliases (e ∷ es) = ap suc (begun_length words aliases es)

marked_length : (es : List Event) → length (marked es) ≡ length es
marked_length [] = refl
marked_length (e ∷ es) = ap suc (marked_length es)

terms_length : (words : Spelling) (es : List Event) → length (terms_at words es) ≡ length es
terms_length words es = begun_length words (aliases_of words (marked es)) (marked es) ∙ marked_length es

nothing_left : (words : Wording) (class : ℕ → Class) (numbers : List ℕ) (x : State) → x.events ≡ [] → levels words class numbers x ≡ empty ∷ []
nothing_left words class numbers x e = ap (λ es. read_from words class numbers x.counts x.left es x.terms) e

-- a first use without a definition is one of the turns
same_number : (m n : ℕ) → ◌≡◌ {A = Option ℕ} (Some m) (Some n) → m ≡ n
same_number m n e = cc

pub undefined_below : (out : Bool) (before after : List Turn) (n : ℕ) → first_undefined out before after ≡ Some n → n < length before + length after
undefined_below out before [] n e = absurd cc
undefined_below out before (t ∷ after) n e = by_test (is_undefined out before t after) e (λ h. undefined_below out (t ∷ before) after n h)
  where
    by_test : (b : Bool) → (if b then Some (length before) else first_undefined out (t ∷ before) after) ≡ Some n → (first_undefined out (t ∷ before) after ≡ Some n → n < suc (length before) + length after) → n < length before + suc (length after)
    by_test true h more = let same : length before ≡ n = same_number (length before) n h in omega (arith, same)
    by_test false h more = let less : n < suc (length before) + length after = more h in omega (arith, less)

module _ (words : Wording) (class : ℕ → Class) (numbers : List ℕ) where
  record FullRun (ps : List Place) (x : Full) (last : State) : Type 0 where
    end_turns : List Turn
    run : Run (Moved words class numbers) ps x (record { state = last; before = end_turns })

  -- states with the turns of labels
  full_run : {ps : List Place} {x y : State} (turns_before : List Turn) → Run (Move words class numbers) ps x y → FullRun ps (record { state = x; before = turns_before }) y
  full_run b (run_end x) = record { end_turns = b; run = run_end (record { state = x; before = b }) }
  full_run b (run_more p {x = x} {y = y} m more) =
      let rest = full_run ((label_step x.counts.body p, event p m.name) ∷ b) more in
      record { end_turns = rest.end_turns; run = run_more p (record { move = m; before_is = refl }) rest.run }

pub events_scoped : (words : Spelling) (wording : Wording) (class : ℕ → Class) (es : List Event) (kinds : List Kind) → Reads generic start (map (λ (e : Event). e.place) es) kinds
    → first_misplaced class es ≡ None → refused_module class es ≡ None → first_unknown names.Labels class es ≡ None → NamesTold wording class (numbers_at wording class es (terms_at words es)) es
    → list_all has_labels (plain_module (denoted words wording class es)).funcs ≡ true
events_scoped words wording class es kinds reads placed formed known told =
    let ts = terms_at words es in
    let numbers : List ℕ = numbers_at wording class es (terms_at words es) in
    let x : State = record { counts = no_counts; begun = false; shape = first_shape; left = record { values = definitions names.Values class es; labels = definitions names.Labels class es }; events = es; terms = terms_at words es } in
    let runs : Runs wording class numbers x = moves wording class numbers es ts no_counts false first_shape x.left (terms_length words es) placed formed told in
    let full = full_run wording class numbers [] runs.run in
    let begin : Full = record { state = x; before = [] } in
    let file : IsFile (Moved wording class numbers) begin (record { state = runs.last; before = full.end_turns }) = spanned (Moved wording class numbers) reads full.run in
    let ended = nothing_left wording class numbers runs.last runs.over in
    let last : Scopes (λ l. false) (levels wording class numbers runs.last) = record {
      targets = ap (λ (k : Levels). list_all (λ (l : ℕ). false) (targets_in k)) ended;
      regions = ap (λ (k : Levels). are_scoped_regions all_known (regions_of (regions_in k))) ended;
      ops = ap (λ (k : Levels). are_scoped all_known (λ (l : ℕ). false) (plain_ops_of (ops_in k))) ended;
      blocks = ap (λ (k : Levels). are_scoped_blocks all_known (λ (l : ℕ). false) (blocks_of (blocks_in k))) ended;
    } in
    let fits = file_fits wording class numbers file (record { within = refl; count_is = refl }) (record { phase = refl; depth = refl }) (record { aligned = refl; left_is = refl; defined = known }) last (ap ops_in ended) (ap regions_in ended) in
    ap (λ k. list_all has_labels (plain_module (module_of (ops_of k))).funcs) (opened_read wording class numbers x)
    ∙ module_fits_whole (ops_in (levels wording class numbers x)) fits
