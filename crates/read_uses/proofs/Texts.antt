-- Each text that reads as a module is such moves.
use Rattle.std.proofs.Common.{◌≡◌, ℕ, zero, suc, ◌+◌, ◌<◌, Bool, true, false, List, [], ◌∷◌, ◌++◌, map, length, Option, Some, None, refl, sym, ap, ◌∙◌, subst, arith, append_assoc, length-append}
use Rattle.std.specs.Prelude.{codes, is_some, ◌||◌, if◌then◌else◌}
use Rattle.std.specs.Str.{bytes_eq}
use Rattle.line_grammar.specs.Grammar.{Reads}
use Rattle.text_grammar.specs.declared.places.Place.{Place}
use Rattle.text_grammar.specs.declared.places.Place.TheVariants as places
use Rattle.text_grammar.specs.declared.words.Word.{Word}
use Rattle.text_grammar.specs.Places.{fits_at}
use Rattle.text_grammar.specs.Steps.{kind_of}
use Rattle.text_grammar.specs.Table.{generic}
use Rattle.text_grammar.specs.Text.{start}
use Rattle.text_grammar.proofs.ReadLemmas.{form_found}
use Rattle.tree_model.specs.declared.op_tree.ModuleTree.{ModuleTree}
use Rattle.text_events.specs.declared.event.Event.{Event}
use Rattle.text_events.specs.declared.look.Refusal.{Refusal}
use Rattle.text_events.specs.Looking.{end_of}
use Rattle.text_events.specs.Names.{names_of}
use Rattle.text_events.specs.Source.{events_from, events_of, is_own, spelled_of}
use Rattle.text_scopes.specs.declared.bodies.Class.{Class}
use Rattle.text_scopes.specs.declared.bodies.Class.TheVariants.{Module, Function, Known, Unknown}
use Rattle.text_scopes.specs.declared.bodies.Body.{Body}
use Rattle.text_scopes.specs.declared.tables.Names.{Names}
use Rattle.text_scopes.specs.declared.tables.Names.TheVariants as names
use Rattle.text_scopes.specs.Bodies.{behind, class_in, is_module, outside}
use Rattle.text_scopes.specs.Seen.{turns}
use Rattle.text_scopes.specs.Tables.{first_unknown, steps_of}
use Rattle.text_kinds.specs.declared.found.Found.{Found}
use Rattle.text_kinds.specs.declared.found.Kind as found
use Rattle.text_kinds.specs.declared.found.Kind.TheVariants as found_kinds
use Rattle.text_kinds.specs.Kinds.{IsLeastOf, NothingIn, least_of, or_uses}
use Rattle.text_kinds.specs.Plain.{found_at}
use Rattle.text_kinds.specs.Shapes.{first_misplaced, refused_module}
use Rattle.text_kinds.proofs.LeastLemmas.{finds_least}
use Rattle.op_catalog.specs.Table.{place_of}
use Rattle.text_refusals.specs.Classes.{classes_of, is_text, operation_class}
use Rattle.text_refusals.specs.Refusing.{IsSeen, Seen, at_byte, before, end_seen, events_seen, others, refusal_of, uses}
use Rattle.text_refusals.specs.Spelling.{spelling_of}
use Rattle.text_refusals.proofs.SeenLemmas.{seen_once, unrefused}
use Rattle.event_trees.specs.Wording.{wording_of}
use Rattle.event_trees.specs.Roles.{numbers_at, terms_at}
use Rattle.read_states.specs.States.{NamesTold}
use Rattle.read_numbers.proofs.Bounds.{first_below, module_below}
use Rattle.read_scopes.proofs.Events.{undefined_below}
use Rattle.read_scopes.proofs.Texts.{AllFit, all_fit, class_here, events_length, is_whole, kinds_length, name_text, names_length, not_found, nothing_seen, reads_length}
use Rattle.std.specs.Prelude.{max}
use Rattle.line_grammar.specs.Language.{events}
use Rattle.text_types.specs.Items.{begun}
use Rattle.use_kinds.specs.Clashes.{clash_at, is_use, next_of}
use Rattle.text_scopes.specs.Tables.{definitions}
use Rattle.tree_reading.specs.Reading.{denoted_by}
use Rattle.read_states.specs.States.{State}
use Rattle.std.proofs.Common.{inl, inr, drop, ◌-◌}
use Rattle.line_grammar.specs.Language.{one_later}
use Rattle.term_table.specs.Terms.{Term, node, nothing}
use Rattle.text_events.specs.Language.{named, nothing_before}
use Rattle.text_events.specs.Looking.{first_refusal}
use Rattle.text_types.specs.Spelling.{Spelling}
use Rattle.text_types.specs.Items.{Aliases, begins}
use Rattle.text_types.specs.Aliases.{aliases_of}
use Rattle.text_types.specs.Marks.{marked}
use Rattle.text_kinds.specs.declared.limits.Limit.TheVariants as limits
use Rattle.text_kinds.specs.Kinds.{Among}
use Rattle.text_kinds.specs.Tallies.{first_over}
use Rattle.type_kinds.specs.Counts.{first_miscount}
use Rattle.type_kinds.specs.First.{first_in}
use Rattle.use_kinds.specs.Clashes.{clashes, clashes_from, fault_of, first_clash, later, named as said, place_from, whole_at}
use Rattle.use_kinds.specs.Written.{no_operation, types_from, written_from}
use Rattle.text_refusals.specs.Spelling.{indexes_of}
use Rattle.text_refusals.proofs.MarkedLemmas.{definitions_marked}
use Rattle.read_states.proofs.Moves.{Runs, moves}
use Rattle.begun_types.proofs.Texts.{text_types_begin}
use Rattle.read_uses.specs.Laws.{ReadsAsRun}
use Rattle.read_uses.specs.Texts.{IsRun, MovesOf, begin_at}
use Rattle.read_uses.proofs.Finely.{spanned}
use Rattle.read_uses.proofs.Moves.{Ahead, full_run}

-- Short lemmas of `read_scopes/proofs/Texts`, which are private there

nothing_in : (os : List (Option Found)) (r : Option Found) → r ≡ None → IsLeastOf os r → NothingIn os
nothing_in os None is h = h
nothing_in os (Some f) is h = absurd cc

op_class : (spelt : List ℕ) → is_module (operation_class spelt) ≡ bytes_eq spelt (codes "builtin.module")
unfolding operation_class
op_class spelt = by_case (bytes_eq spelt (codes "builtin.module")) (bytes_eq spelt (codes "func.func") || bytes_eq spelt (codes "llvm.func")) (is_some (place_of spelt))
  where
    by_case : (a b c : Bool) → is_module (if a then Module else if b then Function else if c then Known else Unknown) ≡ a
    by_case true b c = refl
    by_case false true c = refl
    by_case false false true = refl
    by_case false false false = refl

module _ (text : List ℕ) (words : List Word) (numbers : List ℕ) where
  abbrev Told : List Event → Type 0
  Told es = NamesTold (wording_of text words) (class_in (classes_of text words)) numbers es

  names_told : (ws before : List Word) (own : ℕ) (ps : List Place) (ns : List ℕ) → words ≡ before ++ ws → own ≡ length before → AllFit ps (map kind_of ws) → Told (events_from own ps ns)
  names_told ws before own [] ns all at fit = tt
  names_told ws before own (p ∷ ps) [] all at fit = tt
  names_told [] before own (p ∷ ps) (n ∷ ns) all at fit = absurd fit
  names_told (w ∷ ws) before own (p ∷ ps) (n ∷ ns) all at fit = (λ is. here_is is, names_told ws (before ++ w ∷ []) (own + 1) ps ns (all ∙ sym (append_assoc before (w ∷ []) ws)) next fit.1)
    where
      next : own + 1 ≡ length (before ++ w ∷ [])
      next = let e : length (before ++ w ∷ []) ≡ length before + 1 = length-append before (w ∷ []) in omega (arith, e, at)

      here_is : p ≡ places.OpName → is_module (class_in (classes_of text words) (if is_own p then own else n)) ≡ bytes_eq (spelled_of text words (if is_own p then own else n)) (codes "builtin.module")
      here_is is =
          let named : (if is_own p then own else n) ≡ length before = ap (λ (q : Place). if is_own q then own else n) is ∙ at in
          let string : is_text w.kind ≡ true = name_text w.kind (subst (λ (q : Place). fits_at q w.kind ≡ true) is fit.0) in
          let class : class_in (classes_of text words) (length before) ≡ operation_class (spelled_of text words (length before)) =
          ap (λ ws. class_in (classes_of text ws) (length before)) all ∙ class_here text before w ws string ∙ ap (λ ws. operation_class (spelled_of text ws (length before))) (sym all) in
          ap (λ m. is_module (class_in (classes_of text words) m)) named ∙ ap is_module class ∙ op_class (spelled_of text words (length before))
          ∙ ap (λ m. bytes_eq (spelled_of text words m) (codes "builtin.module")) (sym named)

no_uses : (o p : Option Found) → None ≡ or_uses o p → p ≡ None
no_uses None p h = sym h
no_uses (Some f) p h = absurd cc

no_use_seen : (text : List ℕ) (allowed : Bool) (s : Seen) → None ≡ refusal_of text allowed s → NothingIn (uses text s)
no_use_seen text allowed s none = nothing_in (uses text s) (least_of (uses text s)) (no_uses (least_of (others text allowed s)) (least_of (uses text s)) none) (finds_least (uses text s))

steps_length : (ns : Names) (class : ℕ → Class) (b : Body) (es : List Event) → length (turns (steps_of ns class b es) es) ≡ length es
steps_length ns class b [] = refl
steps_length ns class b (e ∷ es) = ap suc (steps_length ns class (behind class b e) es)

places_kept : (own : ℕ) (ps : List Place) (ns : List ℕ) → length ns ≡ length ps → map (λ (e : Event). e.place) (events_from own ps ns) ≡ ps
places_kept own [] ns h = refl
places_kept own (p ∷ ps) [] h = absurd (omega (arith, h))
places_kept own (p ∷ ps) (n ∷ ns) h = ap (λ xs. p ∷ xs) (places_kept (own + 1) ps ns (omega (arith, h)))

-- Places at which something is found are words

marked_length : (es : List Event) → length (marked es) ≡ length es
marked_length [] = refl
marked_length (e ∷ es) = ap suc (marked_length es)

begun_length : (words : Spelling) (aliases : Aliases) (es : List Event) → length (begun words aliases es) ≡ length es
begun_length words aliases [] = refl
begun_length words aliases (e ∷ es) = ap suc (begun_length words aliases es)

terms_length : (words : Spelling) (es : List Event) → length (terms_at words es) ≡ length es
terms_length words es = begun_length words (aliases_of words (marked es)) (marked es) ∙ marked_length es

later_below : (o : Option ℕ) (n k : ℕ) → one_later o ≡ Some n → ((m : ℕ) → o ≡ Some m → m < k) → n < suc k
later_below None n k e h = absurd cc
later_below (Some m) n k e h = let less : m < k = h m refl in let same : suc m ≡ n = some_same e in omega (arith, less, same)
  where
    some_same : {a b : ℕ} → ◌≡◌ {A = Option ℕ} (Some a) (Some b) → a ≡ b
    some_same e = cc

in_below : {S : Type 0} (step : S → Event → List Event → S) (stands : S → Event → List Event → Bool) (s : S) (es : List Event) (n : ℕ) → first_in step stands s es ≡ Some n → n < length es
in_below step stands s [] n e = absurd cc
in_below step stands s (x ∷ es) n e = by_test (stands s x es) e (λ m. in_below step stands (step s x es) es m)
  where
    zero_below : (n k : ℕ) → ◌≡◌ {A = Option ℕ} (Some 0) (Some n) → n < suc k
    zero_below n k e = let same : 0 ≡ n = cc in omega (arith, same)

    by_test : (b : Bool) → ◌≡◌ {A = Option ℕ} (elim b [ true ↦ Some 0 | false ↦ one_later (first_in step stands (step s x es) es) ]) (Some n) → ((m : ℕ) → first_in step stands (step s x es) es ≡ Some m → m < length es) → n < suc (length es)
    by_test true e h = zero_below n (length es) e
    by_test false e h = later_below (first_in step stands (step s x es) es) n (length es) e h

-- clashes

module _ (sp : Spelling) (index : ℕ → ℕ) (aliases : Aliases) (all : List Event) where
  some_start : (from : List Event) (total n : ℕ) (t : Term) → begins sp aliases from ≡ t → 0 < total → whole_at total t from ≡ Some n → n < total
  some_start from total n nothing e pos h = absurd cc
  some_start [] total n (node f v l r) e pos h = absurd cc
  some_start (x ∷ from) total n (node f v l r) e pos h = let same : total - suc (length from) ≡ n = some_same h in omega (arith, same, pos)
    where
      some_same : {a b : ℕ} → ◌≡◌ {A = Option ℕ} (Some a) (Some b) → a ≡ b
      some_same e = cc

  rest_some : (k : ℕ) (es : List Event) (x : Event) (rest : List Event) → drop k es ≡ x ∷ rest → 0 < length es
  rest_some zero [] x rest e = absurd cc
  rest_some (suc k) [] x rest e = absurd cc
  rest_some k (y ∷ es) x rest e = omega arith

  named_below : (event n : ℕ) → place_from sp index aliases all (drop event all) ≡ Some n → n < length all
  named_below event n h = by_rest (drop event all) refl h
    where
      by_rest : (rest : List Event) → drop event all ≡ rest → place_from sp index aliases all rest ≡ Some n → n < length all
      by_rest [] e h = absurd cc
      by_rest (x ∷ rest) e h = some_start (written_from x.place rest) (length all) n (begins sp aliases (written_from x.place rest)) refl (rest_some event all x rest e) h

  max_below : (a b n : ℕ) → a < n → b < n → max a b < n
  max_below a b n h g = omega (arith, h, g)

  later_place : (a b : Option ℕ) (k : Option found.Kind) (f : Found) (n : ℕ) → ((m : ℕ) → a ≡ Some m → m < n) → ((m : ℕ) → b ≡ Some m → m < n) → later a b k ≡ Some f → f.place < n
  later_place None b k f n h g e = absurd cc
  later_place (Some a) None k f n h g e = absurd cc
  later_place (Some a) (Some b) None f n h g e = absurd cc
  later_place (Some a) (Some b) (Some k) f n h g e = subst (λ (m : ℕ). m < n) (same_place e) (max_below a b n (h a refl) (g b refl))
    where
      same_place : {x y : Found} → ◌≡◌ {A = Option Found} (Some x) (Some y) → x.place ≡ y.place
      same_place e = cc

  clash_below : (used : ℕ) (d : Option ℕ) (f : Found) → clash_at sp index aliases all used d ≡ Some f → f.place < length all
  clash_below used None f e = absurd cc
  clash_below used (Some d) f e =
      later_place (place_from sp index aliases all (drop used all)) (place_from sp index aliases all (drop d all)) (fault_of (said sp index aliases all used) (said sp index aliases all d)) f (length all) (named_below used) (named_below d) e

  among_below : (clash : ℕ → Option ℕ → Option Found) (n : ℕ) → ((u : ℕ) (d : Option ℕ) (f : Found) → clash u d ≡ Some f → f.place < n) → (k : ℕ) (es : List Event) (defs : List (Option ℕ)) (f : Found) → Among f (clashes_from clash k es defs) → f.place < n
  among_below clash n h k [] defs f a = absurd a
  among_below clash n h k (e ∷ es) defs f a = by_test (is_use e.place) a (λ ds b. among_below clash n h (suc k) es ds f b)
    where
      by_head : (o : Option Found) (os : List (Option Found)) → clash k (next_of defs) ≡ o → Among f (o ∷ os) → (Among f os → f.place < n) → f.place < n
      by_head None os e a more = more a
      by_head (Some g) os e (inl same) more = subst (λ (x : Found). x.place < n) same (h k (next_of defs) g e)
      by_head (Some g) os e (inr a) more = more a

      by_test : (b : Bool) → Among f (if b then clash k (next_of defs) ∷ clashes_from clash (suc k) es (drop 1 defs) else clashes_from clash (suc k) es defs) → ((ds : List (Option ℕ)) → Among f (clashes_from clash (suc k) es ds) → f.place < n) → f.place < n
      by_test true a more = by_head (clash k (next_of defs)) (clashes_from clash (suc k) es (drop 1 defs)) refl a (more (drop 1 defs))
      by_test false a more = more defs a

-- where no word is that of the first, nothing is found
none_among : (words : List Word) (os : List (Option Found)) → ((f : Found) → Among f os → f.place < length words) → at_byte words (least_of os) ≡ None → NothingIn os
none_among words os below h = by_least (least_of os) refl (finds_least os) h
  where
    some_none : {X : Type 0} {n : ℕ} → ◌≡◌ {A = Option ℕ} (Some n) None → X
    some_none e = absurd cc

    by_least : (o : Option Found) → least_of os ≡ o → IsLeastOf os o → at_byte words o ≡ None → NothingIn os
    by_least None e l h = l
    by_least (Some f) e l h = some_none (not_found words f.kind (Some f.place) (λ n same. let less : f.place < length words = below f l.0 in let is : f.place ≡ n = some_same same in omega (arith, less, is)) h)
      where
        some_same : {a b : ℕ} → ◌≡◌ {A = Option ℕ} (Some a) (Some b) → a ≡ b
        some_same e = cc

nth : ℕ → List (Option Found) → Option Found
nth n [] = None
nth zero (o ∷ os) = o
nth (suc n) (o ∷ os) = nth n os

nth_none : (n : ℕ) (os : List (Option Found)) → NothingIn os → nth n os ≡ None
unfolding nth
nth_none n [] h = refl
nth_none zero (None ∷ os) h = refl
nth_none zero (Some f ∷ os) h = absurd h
nth_none (suc n) (None ∷ os) h = nth_none n os h
nth_none (suc n) (Some f ∷ os) h = absurd h

-- of a text that nothing refuses
seen_run : (text : List ℕ) (allowed : Bool) (A : ModuleTree) (s : Seen) → IsSeen text s → None ≡ refusal_of text allowed s → A ≡ denoted_by text s → IsRun text A
unfolding nth
seen_run text allowed A s seen none denotes =
    let ended : end_seen s ≡ None = unrefused text allowed s none in
    let class : ℕ → Class = class_in (classes_of text s.words) in
    let sp : Spelling = spelling_of text s.words in
    let es : List Event = events_of s.places (names_of text s.words) in
    let reads : Reads generic start s.places (map kind_of s.words) = form_found seen.form (is_whole s.refusal s.whole (length s.places) ended) in
    let counted : length s.places ≡ length s.words = reads_length reads ∙ kinds_length s.words in
    let many : length (names_of text s.words) ≡ length s.places = names_length text s.words 0 s.words ∙ sym counted in
    let many_events : length es ≡ length s.words = events_length 0 s.places (names_of text s.words) many ∙ counted in
    let many_marked : length (marked es) ≡ length s.words = marked_length es ∙ many_events in
    let whole : events_seen text s ≡ es = ap (λ o. before o es) ended in
    let nothing : NothingIn (others text allowed s) = nothing_seen text allowed s none in
    let placed : first_misplaced class es ≡ None = not_found s.words found_kinds.ModuleShape (first_misplaced class es) (λ n e. let less : n < length es = first_below _ _ _ es n e in omega (arith, less, many_events)) (sym (ap (λ xs. at_byte s.words (found_at found_kinds.ModuleShape (first_misplaced class xs))) whole) ∙ nth_none 0 (others text allowed s) nothing) in
    let formed : refused_module class es ≡ None = not_found s.words found_kinds.ModuleShape (refused_module class es) (λ n e. let less : n < length es = module_below class es n e in omega (arith, less, many_events)) (sym (ap (λ xs. at_byte s.words (found_at found_kinds.ModuleShape (refused_module class xs))) whole) ∙ nth_none 1 (others text allowed s) nothing) in
    let few : first_over limits.Operands class es ≡ None = not_found s.words found_kinds.Operands (first_over limits.Operands class es) (λ n e. let less : n < length es = first_below _ _ _ es n e in omega (arith, less, many_events)) (sym (ap (λ xs. at_byte s.words (found_at found_kinds.Operands (first_over limits.Operands class xs))) whole) ∙ nth_none 11 (others text allowed s) nothing) in
    let counts : first_miscount sp (aliases_of sp (marked es)) (marked es) ≡ None = not_found s.words found_kinds.TypeCount (first_miscount sp (aliases_of sp (marked es)) (marked es)) (λ n e. let less : n < length (marked es) = in_below _ _ _ (marked es) n e in omega (arith, less, many_marked)) (sym (ap (λ xs. at_byte s.words (found_at found_kinds.TypeCount (first_miscount sp (aliases_of sp (marked xs)) (marked xs)))) whole) ∙ nth_none 14 (others text allowed s) nothing) in
    let agree : NothingIn (clashes sp (indexes_of text s.words) (aliases_of sp (marked es)) class (marked es)) = none_among s.words (clashes sp (indexes_of text s.words) (aliases_of sp (marked es)) class (marked es))
    (λ f a. let less : f.place < length (marked es) = among_below sp (indexes_of text s.words) (aliases_of sp (marked es)) (marked es) (clash_at sp (indexes_of text s.words) (aliases_of sp (marked es)) (marked es)) (length (marked es)) (clash_below sp (indexes_of text s.words) (aliases_of sp (marked es)) (marked es)) 0 (marked es) (definitions names.Values class (marked es)) f a in omega (arith, less, many_marked))
    (sym (ap (λ xs. at_byte s.words (first_clash sp (indexes_of text s.words) (aliases_of sp (marked xs)) class (marked xs))) whole) ∙ nth_none 18 (others text allowed s) nothing) in
    let defined : first_unknown names.Values class es ≡ None = not_found s.words found_kinds.UndefinedValue (first_unknown names.Values class es)
    (λ n e. let less : n < 0 + length (turns (steps_of names.Values class outside es) es) = undefined_below true [] (turns (steps_of names.Values class outside es) es) n e in
    let same : length (turns (steps_of names.Values class outside es) es) ≡ length es = steps_length names.Values class outside es in omega (arith, less, same, many_events))
    (sym (ap (λ xs. at_byte s.words (found_at found_kinds.UndefinedValue (first_unknown names.Values class xs))) whole) ∙ nth_none 0 (uses text s) (no_use_seen text allowed s none)) in
    let clean : first_refusal nothing_before (events s.places (named s.words (names_of text s.words))) ≡ None = sym seen.refusal ∙ no_refusal s.refusal s.whole (length s.places) ended in
    let begun = text_types_begin text s.words s.fault sp s.places seen.words reads clean in
    let told = names_told text s.words (numbers_at (wording_of text s.words) class es (terms_at sp es)) s.words [] 0 s.places (names_of text s.words) refl refl (all_fit reads) in
    let runs : Runs (wording_of text s.words) class (numbers_at (wording_of text s.words) class es (terms_at sp es)) (begin_at sp class es).state =
    moves (wording_of text s.words) class (numbers_at (wording_of text s.words) class es (terms_at sp es)) es (terms_at sp es) _ false _ _ (terms_length sp es) placed formed told in
    let on : Ahead sp (indexes_of text s.words) (aliases_of sp (marked es)) (wording_of text s.words) class es (numbers_at (wording_of text s.words) class es (terms_at sp es)) (types_from sp (aliases_of sp (marked es)) no_operation (marked es)) (begin_at sp class es) = record {
      events_are = refl;
      aligned = refl;
      typed = refl;
      terms_are = refl;
      left_is = refl;
      defined = defined;
      all_begun = begun;
      all_few = few;
      all_counts = counts;
      all_agree = subst (λ (ds : List (Option ℕ)). NothingIn (clashes_from (clash_at sp (indexes_of text s.words) (aliases_of sp (marked es)) (marked es)) 0 (marked es) ds)) (definitions_marked names.Values class es) agree;
    } in
    let full = full_run sp (indexes_of text s.words) (aliases_of sp (marked es)) (wording_of text s.words) class es (numbers_at (wording_of text s.words) class es (terms_at sp es)) (types_from sp (aliases_of sp (marked es)) no_operation (marked es)) (begin_at sp class es) refl on runs.run in
    record {
      seen = s;
      is_seen = seen;
      denotes = denotes;
      last = full.end;
      over = ap (λ (x : State). x.events) full.end_is ∙ runs.over;
      file = spanned (MovesOf sp (indexes_of text s.words) (wording_of text s.words) class es) (subst (λ (ps : List Place). Reads generic start ps (map kind_of s.words)) (sym (places_kept 0 s.places (names_of text s.words) many)) reads) full.run;
    }
  where
    no_refusal : (refusal : Option Refusal) (whole : Bool) (count : ℕ) → end_of refusal whole count ≡ None → refusal ≡ None
    no_refusal None whole count h = refl
    no_refusal (Some r) whole count h = absurd cc

pub reads_as_run : ReadsAsRun
reads_as_run text allowed A reads =
    let (s, seen, none) = reads.unrefused in
    let (t, found, e) = reads.denotes in
    let same : s ≡ t = seen_once text s t seen found in
    seen_run text allowed A t found (none ∙ ap (refusal_of text allowed) same) e
