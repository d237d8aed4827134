-- The functions of a text that nothing refuses have the names of functions, and what stands in them has others.
use Rattle.std.proofs.Common.{◌≡◌, inl, inr, ℕ, suc, ◌+◌, ◌<◌, ◌&&◌, Bool, true, false, not, List, [], ◌∷◌, ◌++◌, map, length, None, refl, sym, ap, ◌∙◌, subst, arith, append_assoc, length-append}
use Rattle.std.specs.Prelude.{if◌then◌else◌}
use Rattle.std.specs.List.{list_all}
use Rattle.mlir_lex.proofs.Lengths.{and-both, and-left, and-right}
use Rattle.line_grammar.specs.Grammar.{Reads}
use Rattle.line_grammar.specs.Language.{first_at}
use Rattle.text_grammar.specs.declared.places.Place.{Place}
use Rattle.text_grammar.specs.declared.places.Place.TheVariants as places
use Rattle.text_grammar.specs.declared.words.Word.{Word}
use Rattle.text_grammar.specs.Places.{fits_at}
use Rattle.text_grammar.specs.Steps.{kind_of}
use Rattle.text_grammar.specs.Table.{generic}
use Rattle.text_grammar.specs.Text.{start}
use Rattle.text_grammar.proofs.ReadLemmas.{form_found}
use Rattle.tree_model.specs.declared.op_tree.OpTree.{OpTree, out-OpTree, roll-out-OpTree}
use Rattle.tree_model.specs.declared.op_tree.BlockTree.{BlockTree, out-BlockTree, roll-out-BlockTree}
use Rattle.tree_model.specs.declared.op_tree.RegionTree.{RegionTree, out-RegionTree, roll-out-RegionTree}
use Rattle.tree_model.specs.declared.op_tree.ModuleTree.{ModuleTree}
use Rattle.plain_tree.specs.Ops.{blocks_in, ops_in, plain_func, plain_module, plain_op, regions_in}
use Rattle.plain_tree.proofs.OpOpens.{block-roll, plain-roll, plain_block, plain_region, region-roll}
use Rattle.rule_model.specs.Formed.{is_function_name}
use Rattle.rule_model.proofs.Numbers.{not_true}
use Rattle.term_table.specs.Terms.{Term}
use Rattle.text_events.specs.declared.event.Event.{Event}
use Rattle.text_events.specs.Names.{names_of}
use Rattle.text_events.specs.Source.{events_from, events_of, is_own, spelled_of}
use Rattle.text_types.specs.Spelling.{Spelling}
use Rattle.text_types.specs.Items.{Aliases, begun}
use Rattle.text_types.specs.Aliases.{aliases_of}
use Rattle.text_types.specs.Marks.{marked}
use Rattle.text_scopes.specs.declared.bodies.Body.{Body}
use Rattle.text_scopes.specs.declared.bodies.Class.{Class}
use Rattle.text_scopes.specs.declared.tables.Names.TheVariants as names
use Rattle.text_scopes.specs.Bodies.{behind, class_in, is_module as is_module_class, outside}
use Rattle.text_scopes.specs.Tables.{definitions}
use Rattle.text_kinds.specs.declared.found.Kind.TheVariants as found_kinds
use Rattle.text_kinds.specs.declared.misplaced.Spot.{Spot}
use Rattle.text_kinds.specs.Kinds.{NothingIn}
use Rattle.text_kinds.specs.Plain.{found_at}
use Rattle.text_kinds.specs.Shapes.{begins, first_misplaced, first_shape, may_stand, misplaces, refused_module, spot_behind}
use Rattle.text_refusals.specs.Classes.{classes_of, is_text, operation_class}
use Rattle.text_refusals.specs.Refusing.{IsSeen, Seen, at_byte, before, end_seen, events_seen, others, refusal_of}
use Rattle.text_refusals.specs.Spelling.{spelling_of}
use Rattle.text_refusals.proofs.SeenLemmas.{seen_once, unrefused}
use Rattle.text_forms.specs.Forms.{IsFile}
use Rattle.text_forms.proofs.Spans.{reads_as_file, spanned}
use Rattle.event_trees.specs.Wording.{Wording, wording_of}
use Rattle.event_trees.specs.declared.counts.Counts.{Counts}
use Rattle.event_trees.specs.Numbers.{Left, counted, left_at, meant_from, no_counts, numbers_from, result_counts}
use Rattle.text_types.specs.Items.{place_next}
use Rattle.text_grammar.specs.declared.kinds.Kind.{Kind}
use Rattle.event_trees.specs.Levels.{Levels, empty, levels_of, ops_of}
use Rattle.event_trees.specs.Modules.{around, as_module, body_of, denoted, first_ops, funcs_of, is_module, module_of}
use Rattle.event_trees.specs.Roles.{Role, meant, numbers_at, roles_at, roles_of, terms_at}
use Rattle.printed_attrs.specs.Readable.{are_bytes}
use Rattle.spelled_reading.proofs.WordBytes.{words_are_in_bytes}
use Rattle.read_states.specs.Numbering.{is_numbered, none_counted}
use Rattle.read_states.specs.States.{NamesTold, State, read_from}
use Rattle.read_states.specs.Levels.{blocks_in as level_blocks, ops_in as level_ops, regions_in as level_regions}
use Rattle.read_states.proofs.Moves.{Runs, moves}
use Rattle.read_states.proofs.Parts.{T}
use Rattle.read_states.proofs.Words.{levels, opened_read}
use Rattle.read_numbers.proofs.Bounds.{first_below, module_below}
use Rattle.read_numbers.proofs.Fitting.{is_fit}
use Rattle.read_numbers.proofs.Functions.{Listed}
use Rattle.read_numbers.proofs.Files.{FileFits, file_fits}
use Rattle.read_scopes.proofs.Texts.{AllFit, all_fit, class_here, events_length, head, head_nothing, is_whole, kinds_length, name_text, names_length, not_found, nothing_seen, reads_length, tail, tail_nothing}
use Rattle.read_terms.specs.Standing.{regions_stand}
use Rattle.read_terms.specs.Naming.{any_values, is_inner_here, is_named_function}
use Rattle.read_terms.specs.Laws.{ReadIsNamed}
use Rattle.read_terms.proofs.Runs.{not_later, not_there}
use Rattle.read_terms.proofs.Named.{AllAt, blocks_top, class_module, is_top, nothing_at, op_fine, ops_top, regions_top, word_at}
use Rattle.read_terms.proofs.Deep.{AllClosed, deep, file_closed, word_deep}

-- Functions are as a module or the text lists them

top_func : (o : OpTree) → is_top (plain_op o) ≡ true → is_module o ≡ false → is_named_function (plain_op o) ≡ true
top_func o h m =
    let e : plain_op o ≡ _ = ap plain_op (sym (roll-out-OpTree o)) ∙ plain-roll (out-OpTree o) in
    ap is_named_function e ∙ sym (ap (λ b. if b then regions_top (regions_in (map plain_region (out-OpTree o).regions)) else is_function_name (out-OpTree o).name && regions_stand is_inner_here any_values (regions_in (map plain_region (out-OpTree o).regions))) m)
    ∙ sym (ap is_top e) ∙ h

fit_other : (o : OpTree) → is_fit o ≡ true → is_module o ≡ false
fit_other o h = not_true (is_module o) (and-right (is_numbered none_counted (plain_op o)) _ h)

funcs_named : (os : List OpTree) → list_all (op_fine true) os ≡ true → list_all is_fit os ≡ true → list_all is_named_function (map plain_func (funcs_of os)) ≡ true
funcs_named [] h f = refl
funcs_named (o ∷ os) h f = and-both _ _ (top_func o (and-left _ _ h) (fit_other o (and-left _ _ f))) (funcs_named os (and-right (op_fine true o) _ h) (and-right (is_fit o) _ f))

all_of : (os : List OpTree) → ops_top (ops_in (map plain_op os)) ≡ true → list_all (op_fine true) os ≡ true
all_of [] h = refl
all_of (o ∷ os) h = and-both _ _ (and-left _ _ h) (all_of os (and-right (op_fine true o) _ h))

first_all : (bs : List BlockTree) → blocks_top (blocks_in (map plain_block bs)) ≡ true → list_all (op_fine true) (first_ops bs) ≡ true
first_all [] h = refl
first_all (b ∷ bs) h = all_of (out-BlockTree b).ops (sym (ap (λ x. ops_top x.ops) (ap plain_block (sym (roll-out-BlockTree b)) ∙ block-roll (out-BlockTree b))) ∙ and-left _ _ h)

body_all : (rs : List RegionTree) → regions_top (regions_in (map plain_region rs)) ≡ true → list_all (op_fine true) (body_of rs) ≡ true
body_all [] h = refl
body_all (r ∷ rs) h = first_all (out-RegionTree r).blocks (sym (ap blocks_top (ap plain_region (sym (roll-out-RegionTree r)) ∙ region-roll (out-RegionTree r))) ∙ and-left _ _ h)

module_body_all : (o : OpTree) → is_top (plain_op o) ≡ true → is_module o ≡ true → list_all (op_fine true) (body_of (out-OpTree o).regions) ≡ true
module_body_all o h m =
    body_all (out-OpTree o).regions
    (sym (ap (λ b. if b then regions_top (regions_in (map plain_region (out-OpTree o).regions)) else is_function_name (out-OpTree o).name && regions_stand is_inner_here any_values (regions_in (map plain_region (out-OpTree o).regions))) m)
    ∙ sym (ap is_top (ap plain_op (sym (roll-out-OpTree o)) ∙ plain-roll (out-OpTree o))) ∙ h)

module_named : (os : List OpTree) → list_all (op_fine true) os ≡ true → FileFits os → list_all is_named_function (plain_module (module_of os)).funcs ≡ true
module_named [] h (inl f) = refl
module_named (o ∷ []) h (inl f) =
    ap (λ b. list_all is_named_function (plain_module (if b then as_module o else around (o ∷ []))).funcs) (fit_other o (and-left _ _ f)) ∙ funcs_named (o ∷ []) h f
module_named (o ∷ p ∷ os) h (inl f) = funcs_named (o ∷ p ∷ os) h f
module_named os h (inr m) =
    ap (λ xs. list_all is_named_function (plain_module (module_of xs)).funcs) m.is
    ∙ ap (λ b. list_all is_named_function (plain_module (if b then as_module m.it else around (m.it ∷ []))).funcs) m.module_is
    ∙ funcs_named (body_of (out-OpTree m.it).regions) (module_body_all m.it (and-left _ _ (subst (λ xs. list_all (op_fine true) xs ≡ true) m.is h)) m.module_is) m.fits

-- The operations of the file

begun_length : (words : Spelling) (aliases : Aliases) (es : List Event) → length (begun words aliases es) ≡ length es
begun_length words aliases [] = refl
begun_length words aliases (e ∷ es) = ap suc (begun_length words aliases es)

marked_length : (es : List Event) → length (marked es) ≡ length es
marked_length [] = refl
marked_length (e ∷ es) = ap suc (marked_length es)

terms_length : (words : Spelling) (es : List Event) → length (terms_at words es) ≡ length es
terms_length words es = begun_length words (aliases_of words (marked es)) (marked es) ∙ marked_length es

nothing_left : (words : Wording) (class : ℕ → Class) (numbers : List ℕ) (x : State) → x.events ≡ [] → levels words class numbers x ≡ empty ∷ []
nothing_left words class numbers x e = ap (λ es. read_from words class numbers x.counts x.left es x.terms) e

events_listed : (words : Spelling) (wording : Wording) (class : ℕ → Class) (es : List Event) (kinds : List Kind) → Reads generic start (map (λ (e : Event). e.place) es) kinds
    → first_misplaced class es ≡ None → refused_module class es ≡ None → NamesTold wording class (numbers_at wording class es (terms_at words es)) es
    → FileFits (ops_of (levels_of wording (roles_at words wording class es)))
events_listed words wording class es kinds reads placed formed told =
    let ts = terms_at words es in
    let numbers : List ℕ = numbers_at wording class es ts in
    let x : State = record { counts = no_counts; begun = false; shape = first_shape; left = record { values = definitions names.Values class es; labels = definitions names.Labels class es }; events = es; terms = ts } in
    let runs : Runs wording class numbers x = moves wording class numbers es ts no_counts false first_shape x.left (terms_length words es) placed formed told in
    let file : IsFile (T wording class numbers) x runs.last = spanned (T wording class numbers) reads runs.run in
    let ended = nothing_left wording class numbers runs.last runs.over in
    let listed : Listed wording class numbers runs.last = record {
      functions = record { ops_fit = ap (λ k. list_all is_fit (level_ops k)) ended; first_fit = ap (λ k. list_all is_fit (first_ops (level_blocks k))) ended };
      regions = ap level_regions ended;
    } in
    let fits = file_fits wording class numbers file (record { within = refl; count_is = refl }) (record { phase = refl; depth = refl }) listed (ap level_ops ended) in
    subst FileFits (sym (ap ops_of (opened_read wording class numbers x))) fits

-- The levels of roles

places_of : List Event → List Place
places_of es = map (λ (e : Event). e.place) es

record NameHere (words : Wording) (class : ℕ → Class) (name : ℕ) : Type 0 where
  class_is : class name ≡ operation_class (words.spelled name)
  bytes : are_bytes (words.spelled name) ≡ true

abbrev NamesHere : Wording → (ℕ → Class) → List Event → Type 0
NamesHere words class [] = Unit {0}
NamesHere words class (e ∷ es) = (e.place ≡ places.OpName → NameHere words class e.name) × NamesHere words class es

misplaced_not : (class : ℕ → Class) (spot : Spot) (p : Place) (name : ℕ) → misplaces class spot (record { place = p; name = name }) ≡ false → p ≡ places.OpName → not (may_stand spot (class name)) ≡ false
misplaced_not class spot p name h e = subst (λ (q : Place). misplaces class spot (record { place = q; name = name }) ≡ false) e h

record AtAll (words : Wording) (b : Body) (ps : List Place) (rs : List Role) : Type 0 where
  many : length (levels_of words rs) ≡ suc (deep ps)
  levels_at : AllAt b (levels_of words rs)

levels_named : (words : Wording) (class : ℕ → Class) (es : List Event) (ns : List ℕ) (ts : List Term) (b : Body) (g : Bool) → length ns ≡ length es → length ts ≡ length es → AllClosed (map (λ (e : Event). e.place) es)
    → first_at (spot_behind class) (misplaces class) (record { body = b; begun = g }) es ≡ None → NamesHere words class es → AtAll words b (map (λ (e : Event). e.place) es) (roles_of es ns ts)
levels_named words class [] ns ts b g ln lt c m h = record { many = refl; levels_at = nothing_at words class b }
levels_named words class (e ∷ es) [] ts b g ln lt c m h = absurd (omega (arith, ln))
levels_named words class (e ∷ es) (n ∷ ns) [] b g ln lt c m h = absurd (omega (arith, lt))
levels_named words class (e ∷ es) (n ∷ ns) (t ∷ ts) b g ln lt c m h =
    let spot : Spot = record { body = b; begun = g } in
    let here : misplaces class spot e ≡ false = not_there (misplaces class spot e) (first_at (spot_behind class) (misplaces class) (spot_behind class spot e) es) m in
    let more : AtAll words (behind class b e) (map (λ (e : Event). e.place) es) (roles_of es ns ts) =
    levels_named words class es ns ts (behind class b e) (begins g e.place) (omega (arith, ln)) (omega (arith, lt)) c.1
    (not_later (misplaces class spot e) (first_at (spot_behind class) (misplaces class) (spot_behind class spot e) es) m) h.1 in
    let ls : Levels = levels_of words (roles_of es ns ts) in
    let many : length ls ≡ suc (deep (map (λ (e : Event). e.place) es)) = more.many in
    record {
      many = word_deep words e.place e.name n t ls (map (λ (e : Event). e.place) es) c.0 more.many;
      levels_at = word_at words class e.place e.name n t b ls
          (λ q. record { begun = g; class_is = (h.0 q).class_is; bytes = (h.0 q).bytes; may = misplaced_not class spot e.place e.name here q })
          (λ q. let k : 0 < deep (map (λ (e : Event). e.place) es) = c.0 q in omega (arith, k, many)) more.levels_at;
    }

roles_top : (words : Wording) (es : List Event) (ls : Levels) → AllAt outside ls → list_all (op_fine true) (ops_of ls) ≡ true
roles_top words es [] f = refl
roles_top words es (l ∷ ls) f = f.0.ops

-- As many roles as events

counts_length : (es : List Event) (ts : List Term) → length ts ≡ length es → length (result_counts es ts) ≡ length es
counts_length [] ts h = refl
counts_length (e ∷ es) [] h = absurd (omega (arith, h))
counts_length (e ∷ es) (t ∷ ts) h = ap suc (counts_length es ts (omega (arith, h)))

numbers_length : (words : Wording) (class : ℕ → Class) (c : Counts) (es : List Event) (rs : List ℕ) → length rs ≡ length es → length (numbers_from words class c es rs) ≡ length es
numbers_length words class c [] rs h = refl
numbers_length words class c (e ∷ es) [] h = absurd (omega (arith, h))
numbers_length words class c (e ∷ es) (r ∷ rs) h = ap suc (numbers_length words class (counted words class c e r (place_next es)) es rs (omega (arith, h)))

meant_length : (words : Wording) (numbers : List ℕ) (left : Left) (es : List Event) (own : List ℕ) → length own ≡ length es → length (meant_from words numbers left es own) ≡ length es
meant_length words numbers left [] own h = refl
meant_length words numbers left (e ∷ es) [] h = absurd (omega (arith, h))
meant_length words numbers left (e ∷ es) (n ∷ own) h = ap suc (meant_length words numbers (left_at e.place left) es own (omega (arith, h)))

-- Names

told_of : (words : Wording) (class : ℕ → Class) (numbers : List ℕ) (es : List Event) → NamesHere words class es → NamesTold words class numbers es
told_of words class numbers [] h = tt
told_of words class numbers (e ∷ es) h = (λ q. ap is_module_class (h.0 q).class_is ∙ class_module (words.spelled e.name), told_of words class numbers es h.1)

module _ (text : List ℕ) (words : List Word) (bytes : are_bytes text ≡ true) where
  names_here : (ws front : List Word) (own : ℕ) (ps : List Place) (ns : List ℕ) → words ≡ front ++ ws → own ≡ length front → AllFit ps (map kind_of ws)
      → NamesHere (wording_of text words) (class_in (classes_of text words)) (events_from own ps ns)
  names_here ws front own [] ns all place fit = tt
  names_here ws front own (p ∷ ps) [] all place fit = tt
  names_here [] front own (p ∷ ps) (n ∷ ns) all place fit = absurd fit
  names_here (w ∷ ws) front own (p ∷ ps) (n ∷ ns) all place fit = (λ q. here_is q, names_here ws (front ++ w ∷ []) (own + 1) ps ns (all ∙ sym (append_assoc front (w ∷ []) ws)) next fit.1)
    where
      next : own + 1 ≡ length (front ++ w ∷ [])
      next = let e : length (front ++ w ∷ []) ≡ length front + 1 = length-append front (w ∷ []) in omega (arith, e, place)

      here_is : p ≡ places.OpName → NameHere (wording_of text words) (class_in (classes_of text words)) (if is_own p then own else n)
      here_is q =
          let named : (if is_own p then own else n) ≡ length front = ap (λ (r : Place). if is_own r then own else n) q ∙ place in
          let string : is_text w.kind ≡ true = name_text w.kind (subst (λ (r : Place). fits_at r w.kind ≡ true) q fit.0) in
          record {
            class_is = ap (class_in (classes_of text words)) named
                ∙ ap (λ ws. class_in (classes_of text ws) (length front)) all ∙ class_here text front w ws string ∙ ap (λ ws. operation_class (spelled_of text ws (length front))) (sym all)
                ∙ ap (λ m. operation_class (spelled_of text words m)) (sym named);
            bytes = words_are_in_bytes text words (if is_own p then own else n) bytes;
          }

places_kept : (own : ℕ) (ps : List Place) (ns : List ℕ) → length ns ≡ length ps → map (λ (e : Event). e.place) (events_from own ps ns) ≡ ps
places_kept own [] ns h = refl
places_kept own (p ∷ ps) [] h = absurd (omega (arith, h))
places_kept own (p ∷ ps) (n ∷ ns) h = ap (λ xs. p ∷ xs) (places_kept (own + 1) ps ns (omega (arith, h)))

pub seen_named : (text : List ℕ) (allowed : Bool) (s : Seen) → are_bytes text ≡ true → IsSeen text s → None ≡ refusal_of text allowed s
    → list_all is_named_function (plain_module (denoted (spelling_of text s.words) (wording_of text s.words) (class_in (classes_of text s.words)) (events_of s.places (names_of text s.words)))).funcs ≡ true
seen_named text allowed s bytes seen none =
    let ended : end_seen s ≡ None = unrefused text allowed s none in
    let class : ℕ → Class = class_in (classes_of text s.words) in
    let words : Spelling = spelling_of text s.words in
    let wording : Wording = wording_of text s.words in
    let es : List Event = events_of s.places (names_of text s.words) in
    let form : Reads generic start s.places (map kind_of s.words) = form_found seen.form (is_whole s.refusal s.whole (length s.places) ended) in
    let counted_so : length s.places ≡ length s.words = reads_length form ∙ kinds_length s.words in
    let many : length (names_of text s.words) ≡ length s.places = names_length text s.words 0 s.words ∙ sym counted_so in
    let many_events : length es ≡ length s.words = events_length 0 s.places (names_of text s.words) many ∙ counted_so in
    let whole : events_seen text s ≡ es = ap (λ o. before o es) ended in
    let all : NothingIn (others text allowed s) = nothing_seen text allowed s none in
    let one : head (others text allowed s) ≡ None = head_nothing (others text allowed s) all in
    let two : head (tail (others text allowed s)) ≡ None = head_nothing (tail (others text allowed s)) (tail_nothing (others text allowed s) all) in
    let placed : first_misplaced class es ≡ None = not_found s.words found_kinds.ModuleShape (first_misplaced class es) (λ n e. let less : n < length es = first_below _ _ _ es n e in omega (arith, less, many_events)) (sym (ap (λ xs. at_byte s.words (found_at found_kinds.ModuleShape (first_misplaced class xs))) whole) ∙ one) in
    let formed : refused_module class es ≡ None = not_found s.words found_kinds.ModuleShape (refused_module class es) (λ n e. let less : n < length es = module_below class es n e in omega (arith, less, many_events)) (sym (ap (λ xs. at_byte s.words (found_at found_kinds.ModuleShape (refused_module class xs))) whole) ∙ two) in
    let same : map (λ (e : Event). e.place) es ≡ s.places = places_kept 0 s.places (names_of text s.words) many in
    let reads : Reads generic start (map (λ (e : Event). e.place) es) (map kind_of s.words) = subst (λ (ps : List Place). Reads generic start ps (map kind_of s.words)) (sym same) form in
    let here : NamesHere wording class es = names_here text s.words bytes s.words [] 0 s.places (names_of text s.words) refl refl (all_fit form) in
    let listed : FileFits (ops_of (levels_of wording (roles_at words wording class es))) = events_listed words wording class es (map kind_of s.words) reads placed formed (told_of wording class (numbers_at wording class es (terms_at words es)) es here) in
    let ts : List Term = terms_at words es in
    let own : List ℕ = numbers_at wording class es (terms_at words es) in
    let many_terms : length (terms_at words es) ≡ length es = terms_length words es in
    let many_own : length (numbers_at wording class es (terms_at words es)) ≡ length es = numbers_length wording class no_counts es (result_counts es (terms_at words es)) (counts_length es (terms_at words es) many_terms) in
    let at : AtAll wording outside (map (λ (e : Event). e.place) es) (roles_at words wording class es) =
    levels_named wording class es (meant wording class es (numbers_at wording class es (terms_at words es))) (terms_at words es) outside false
    (meant_length wording (numbers_at wording class es (terms_at words es)) _ es (numbers_at wording class es (terms_at words es)) many_own) many_terms
    (file_closed (map (λ (e : Event). e.place) es) (reads_as_file (map (λ (e : Event). e.place) es) (map kind_of s.words) reads)) placed here in
    module_named (ops_of (levels_of wording (roles_at words wording class es))) (roles_top wording es (levels_of wording (roles_at words wording class es)) at.levels_at) listed

pub read_is_named : ReadIsNamed
read_is_named text allowed A bytes reads =
    let (s, seen, none) = reads.unrefused in
    let (t, found, e) = reads.denotes in
    let same : s ≡ t = seen_once text s t seen found in
    ap (λ (m : ModuleTree). list_all is_named_function (plain_module m).funcs) e ∙ seen_named text allowed t bytes found (none ∙ ap (refusal_of text allowed) same)
